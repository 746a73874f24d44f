pub mod DisabledRows
