mod AllLines
pub mod InPieces
