pub mod ServedScriptTold
pub mod SocketsOfReadLinks
pub mod ClientJoins
pub mod GaveWhatWasOffered
pub mod ServedLinksOfReport
pub use Rattle.script_parts
