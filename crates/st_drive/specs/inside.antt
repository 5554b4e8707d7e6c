pub mod Parts
pub mod OnDisk
