pub mod Copies
pub mod FailingCalls
pub mod ImageWords
pub mod RoundTrip
