-- The outcome that a response gives its call: by the response's error code, unless the frame is compressed.
use Rattle.std.specs.Prelude.{ℕ, ℤ, pos, zero, Option, Some, None}
use Rattle.sock_words.specs.ErrorCodes.{ERESPONSE}
use Rattle.sock_words.specs.declared.outcome.Outcome.{Outcome}
use Rattle.sock_words.specs.declared.outcome.Outcome.TheVariants.{Answered, Peer, CallFailed}
use Rattle.brpc_model.specs.Meta.{ResponseMeta}
use Rattle.brpc_model.specs.Frame.{Frame}

abbrev pub by_code : ℕ → Frame → ℤ → Outcome
by_code id frame (pos zero) = Answered id frame.payload frame.attachment
by_code id frame code = Peer id code

abbrev pub outcome_by : ℕ → Frame → ℤ → Option ResponseMeta → Outcome
outcome_by id frame (pos zero) (Some r) = by_code id frame r.code
outcome_by id frame (pos zero) None = CallFailed id ERESPONSE
outcome_by id frame compressed r = CallFailed id ERESPONSE

-- the outcome that a response gives the call with this id
abbrev pub ending_of : ℕ → Frame → Outcome
ending_of id frame = outcome_by id frame frame.meta.compress_type frame.meta.response
