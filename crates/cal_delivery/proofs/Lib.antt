mod KeyNumbers
mod TableNumbers
mod AtPlace
mod OneChannel
mod OwnTraces
mod KeyedRows
mod Rooms
mod GroupRows
