pub mod Opening
pub mod Duties
pub mod Meaning
