pub mod TakenBoards
