pub mod Quoted
pub mod TextFields
pub mod ReferenceKinds
pub mod Fields
