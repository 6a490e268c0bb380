mod Fragments
pub mod Reading
