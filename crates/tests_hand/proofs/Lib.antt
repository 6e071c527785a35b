mod Appends
mod NewBoards
mod OneValue
