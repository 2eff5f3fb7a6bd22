mod StandardFacts
mod Digits
mod Shape
mod Counting
pub mod FirstFault
mod FromDays
mod Places
mod Written
pub mod Unique
pub mod Said
