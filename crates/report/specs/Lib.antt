pub mod Wide
pub mod Syndrome
pub mod Clashes
pub mod Verdicts
pub mod Decoded
pub mod Tables
