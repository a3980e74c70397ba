pub mod Kind2
pub mod RoundTrip
