pub mod ColorLemmas
pub mod Distances
pub mod ExactLemmas
pub mod RoundTrips
pub mod SampleDistances
pub mod SampleLemmas
pub mod WholeStepLemmas
