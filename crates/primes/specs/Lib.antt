pub mod Prime
pub mod Refusal
pub mod Steps
pub mod Memo
