pub mod WholeCalllessReport
pub use Rattle.sock_deeds
