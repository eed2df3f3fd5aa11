-- What the crates above name of the crates below that have code: module by module, since whoever passes on such a crate loads all of it.
pub use Rattle.call_places.specs.CallAttempts
pub use Rattle.call_places.specs.CallClient
pub use Rattle.call_places.specs.CallErrors
pub use Rattle.call_places.specs.CallRun
pub use Rattle.call_places.specs.CallTable
pub use Rattle.call_places.specs.CallWrites
pub use Rattle.call_places.specs.PrpcFrame
pub use Rattle.call_places.specs.RpcClient
pub use Rattle.call_places.specs.RpcReader
pub use Rattle.call_places.specs.SockRule
pub use Rattle.call_places.specs.SockTable
pub use Rattle.call_places.specs.WriteChain
