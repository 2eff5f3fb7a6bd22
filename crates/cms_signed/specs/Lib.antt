pub mod Names
pub mod State
pub mod Checks
pub mod Attributes
pub mod AttributeList
pub mod Signed
pub mod Text
pub mod Inside
