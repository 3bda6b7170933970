pub mod Unfold
pub mod RoundTrips
