pub mod Answered
pub mod Lengths
pub mod Reserved
pub mod SignerLemmas
pub mod SoundReply
pub mod Spelled
mod StandardFacts
pub mod States
