pub mod Putting
pub mod FewRows
pub mod RowAfterRow
pub mod Listed
pub mod Underway
pub mod Whole
