pub mod Members
pub mod Chains
pub mod Turns
pub mod Older
pub mod Firsts
pub mod Once
pub mod Covered
pub mod Holding
pub mod TokenBytes
pub mod Exists
mod StandardFacts
pub mod Lapsing
