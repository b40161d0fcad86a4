pub mod Laws
pub mod Legs
pub mod Reading
pub mod Throughs
pub mod Files
pub mod FileLaws
pub mod retime_windows
pub mod optional_legs
