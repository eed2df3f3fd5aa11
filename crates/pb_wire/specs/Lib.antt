pub mod WireCallAnswers
pub mod Read
pub mod FieldReader
pub mod Form
pub use Rattle.brpc_model
