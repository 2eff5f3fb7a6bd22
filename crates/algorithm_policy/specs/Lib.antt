pub mod Words
pub mod Content
pub mod Text
pub mod Change
pub mod Fault
pub mod Inside
