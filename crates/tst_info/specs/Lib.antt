pub mod Checks
pub mod Imprint
pub mod Info
pub mod Inside
pub mod Request
pub mod Response
pub mod Spelling
