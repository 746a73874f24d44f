pub mod RebuiltBoards
