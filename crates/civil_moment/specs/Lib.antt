pub mod Calendar
pub mod Fault
pub mod Inside
pub mod Moment
