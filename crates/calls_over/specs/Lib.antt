pub mod Open
pub use Rattle.served_fits.specs.served_calls
pub use Rattle.served_fits
pub use Rattle.served_fits.specs.Below
