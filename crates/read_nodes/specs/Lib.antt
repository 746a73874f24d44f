pub mod ReadsNodes
