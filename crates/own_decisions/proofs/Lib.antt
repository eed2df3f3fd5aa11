pub mod EndedTryTicks
pub mod OwnDecisionsStands
pub mod OwnDecisionsLoops
pub mod OwnDecisionsPrograms
pub mod OwnDecisionsTicks
pub mod OwnDecisionsRuns
pub mod OwnDecisions
