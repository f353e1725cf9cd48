pub mod Bytes
pub mod Memory
pub mod Pages
pub mod Places
pub mod Calls
