pub use Rattle.call_owing.specs.Below
