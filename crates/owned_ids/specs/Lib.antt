pub use Rattle.call_owing
pub use Rattle.call_owing.specs.Below
