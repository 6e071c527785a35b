pub mod HandLemmas
pub mod RoomLemmas
pub mod BoardLemmas
pub mod LastLemmas
