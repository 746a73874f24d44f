pub mod OneGate
pub mod TwoRegisters
