pub mod Sent
pub mod Progressing
