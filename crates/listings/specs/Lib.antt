pub mod Limits
pub mod Listings
pub mod Items
pub mod Lawful
pub mod Subject
