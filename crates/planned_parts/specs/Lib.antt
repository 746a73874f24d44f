pub mod KeptChips
