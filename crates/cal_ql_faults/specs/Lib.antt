pub mod FaultPlaces
