pub mod PinColumns
