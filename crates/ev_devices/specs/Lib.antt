pub mod Bend
pub mod Devices
pub mod Disk
pub mod Inside
pub mod Script
pub mod WriteLaws
pub mod Writes
