pub mod MessageBodySizes
pub use Rattle.served_calls.specs.served_runs.specs.Below
pub use Rattle.served_calls
