pub mod Rows
pub mod Fores
pub mod Ahead
pub mod ForeLists
pub mod Rules
pub mod Items
pub mod ReadTokens
pub mod WholeFaults
