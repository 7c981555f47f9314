pub mod Refusing
pub mod Mixing
pub mod Detecting
