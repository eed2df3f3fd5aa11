pub use Rattle.machine_rules
