pub mod Octets
pub mod Values
pub mod Passed
pub mod Loop
pub mod Again
pub mod Sound
pub mod Meaning
pub mod Padded
pub mod Written
pub mod Lengths
pub mod Anywhere
pub mod Accepted
mod StandardFacts
