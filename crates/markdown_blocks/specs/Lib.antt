pub mod Fences
pub mod RawTexts
pub mod TaskWalks
pub mod Columns
pub mod Parents
pub mod Headings
pub mod Lists
