pub mod CodeWires
