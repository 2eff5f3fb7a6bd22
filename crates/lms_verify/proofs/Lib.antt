pub mod Chains
mod Digits
pub mod Loops
mod Messages
pub mod Sets
mod StandardFacts
