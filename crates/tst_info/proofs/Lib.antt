pub mod InfoLemmas
pub mod InfoReadable
pub mod Lengths
pub mod Readable
pub mod RequestReadable
pub mod ResponseReadable
pub mod Small
pub mod Rewritable
mod StandardFacts
