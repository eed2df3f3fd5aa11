pub mod SenderWithOneReference
pub mod BenchThreads
