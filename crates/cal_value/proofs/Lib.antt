pub mod Numbers
pub mod Fixed
pub mod FixedRoundTrip
pub mod RoundTrip
