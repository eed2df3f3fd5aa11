pub mod ReplyFrames
pub mod RequestsTakenByLinks
pub mod OutcomeShowingCallId
pub mod RepliesOfServedCalls
pub mod CalmServedRuns
pub mod WholeServedReport
