pub mod ScriptTextBytes
pub mod ReplySizeBounds
pub mod MessageWeightsByLabel
pub mod FewBytesFromServer
