pub mod Sizes
mod Filling
pub mod KeyLemmas
pub mod Order
mod NodeLemmas
mod StandardFacts
