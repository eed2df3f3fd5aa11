pub mod HeldIdTokens
pub mod Goes
pub use Rattle.id_rule
