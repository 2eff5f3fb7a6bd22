pub mod Each
pub mod Parts
pub mod Spelled
pub mod Written
pub mod Named
pub mod Readable
pub mod ValidParts
pub mod SizeLemmas
pub mod LaterValues
pub mod Faults
mod StandardFacts
