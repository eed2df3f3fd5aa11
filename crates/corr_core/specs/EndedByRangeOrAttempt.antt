-- Which errors end their call.
use Rattle.std.specs.Prelude.{ℕ, ◌+◌, ◌==◌, Bool, ◌||◌}
use Rattle.sock_words.specs.ErrorCodes.{is_final}
use Rattle.corr_core.specs.IdSlotWord.{Parts, code_of, attempt_of}

-- the attempt that stands for the whole call
abbrev pub WHOLE : ℕ
WHOLE = 7

-- where the call's id has this range and this current attempt, an error of this code ends it: it is for the whole call, or its
-- code is final, or the current attempt is the last one of the range
abbrev pub is_ended_by : ℕ → ℕ → ℕ → Bool → Bool
is_ended_by range current code whole = whole || (is_final code || (current + 2 == range))

-- the queued error ends the call whose id has this word
abbrev pub ends_call : Parts → ℕ → Bool
ends_call w e = is_ended_by w.range w.attempt (code_of e) (attempt_of e == WHOLE)
