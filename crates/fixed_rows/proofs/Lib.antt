pub mod Dividing
pub mod Ends
pub mod Passing
pub mod Accepted
pub mod JumpIsRead
pub mod Rows
pub mod GoingOn
pub mod Framing
