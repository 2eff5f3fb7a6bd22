pub mod Checks
pub mod Lists
pub mod Stamps
pub mod Record
pub mod Text
pub mod DocumentValue
pub mod Valid
pub mod Inside
