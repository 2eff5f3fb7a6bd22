pub mod Trust
pub mod Decided
pub mod Once
pub mod Answered
pub mod StandardFacts
