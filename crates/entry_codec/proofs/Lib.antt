mod StandardFacts
pub mod Forms
pub mod Numbers
pub mod Parts
pub mod Entries
pub mod Repeats
pub mod Answered
pub mod Placed
pub mod Placing
pub mod Lying
