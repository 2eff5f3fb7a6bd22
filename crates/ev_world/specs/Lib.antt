pub mod CallList
pub mod Calls
pub mod Causes
pub mod Disk
pub mod Streams
