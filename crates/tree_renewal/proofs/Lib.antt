mod StandardFacts
pub mod Covering
