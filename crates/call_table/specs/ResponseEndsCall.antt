-- How a response ends a call, as it is told.
use Rattle.std.specs.Prelude.{ℕ, zero, ℤ, pos, Option, Some, None}
use Rattle.sock_words.specs.ErrorCodes.{ERESPONSE}
use Rattle.sock_words.specs.declared.outcome.Outcome.{Outcome}
use Rattle.sock_words.specs.declared.outcome.Outcome.TheVariants as outcomes
use Rattle.rpc_meta.specs.declared.meta.ResponseMeta as metas
use Rattle.prpc_frame.specs.declared.frame.Frame as frames
use Rattle.call_table.specs.declared.responses.Ending.{Ending}
use Rattle.call_table.specs.declared.responses.Ending.TheVariants.{Unread, Answered, Peer}

abbrev pub told_by_code : frames.Frame → ℤ → Ending
told_by_code frame (pos zero) = Answered frame.payload frame.attachment
told_by_code frame code = Peer code

abbrev pub told_by : frames.Frame → ℤ → Option metas.ResponseMeta → Ending
told_by frame (pos zero) (Some r) = told_by_code frame r.code
told_by frame (pos zero) None = Unread
told_by frame compressed r = Unread

-- how it ends its call
abbrev pub response_ending : frames.Frame → Ending
response_ending frame = told_by frame frame.meta.compress_type frame.meta.response

-- the outcome of the call with this id
abbrev pub outcome_of : ℕ → Ending → Outcome
outcome_of id Unread = outcomes.CallFailed id ERESPONSE
outcome_of id (Answered payload attachment) = outcomes.Answered id payload.items attachment.items
outcome_of id (Peer code) = outcomes.Peer id code
