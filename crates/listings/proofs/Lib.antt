pub mod Members
pub mod Ascents
pub mod Choosing
pub mod RandomWords
pub mod BurstRuns
pub mod MixedItems
