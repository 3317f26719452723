pub mod Asking
pub mod GlobRows
pub mod Globs
pub mod Grammar
pub mod Obeying
pub mod Requests
pub mod Lines
pub mod Sizes
