pub mod ScriptText
pub mod Statements
pub mod WrittenScript
