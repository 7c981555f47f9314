pub mod Answers
pub mod LineUp
pub mod Decoding
pub mod Rules
pub mod Verdicts
pub mod Tables
pub mod Examples
