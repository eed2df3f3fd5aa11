pub mod MessagePieces
pub mod Asked
pub mod InsideMessages
pub mod BodiesOfMessages
pub use Rattle.brpc_model
pub use Rattle.io_buf.specs.io_block
pub use Rattle.io_buf
