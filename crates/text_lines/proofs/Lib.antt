pub mod LineSteps
pub mod DigitSteps
pub mod WrittenSteps
pub mod Judging
pub mod Places
pub mod WrittenLines
pub mod Numerals
pub mod PlainWords
