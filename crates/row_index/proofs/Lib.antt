pub mod Sixteenths
pub mod Entries
pub mod Building
pub mod JumpIsRead
pub mod IndexExact
