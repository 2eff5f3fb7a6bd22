pub mod Values
pub mod Nodes
pub mod Fields
pub mod Numbers
pub mod Trees
pub mod Levels
mod StandardFacts
