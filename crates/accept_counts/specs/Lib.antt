pub mod AttemptCounts
pub mod SentFrameOfAttempt
pub mod PostCauses
pub mod RefusedOrDropped
pub mod EndedCalls
pub mod Below
