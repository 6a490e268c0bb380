mod SetParts
pub mod Popping
mod Tests
mod Showing
mod Stepping
pub mod Leading
pub mod Accepting
pub mod Refusing
pub mod Following
