mod RoomBounds
mod Unbusy
