pub mod Drawn
pub mod Pictured
pub mod Marked
pub mod Shown
pub mod Patterned
pub mod Nouns
