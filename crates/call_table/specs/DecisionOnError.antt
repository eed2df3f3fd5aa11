-- What is done about an error of a call.
use Rattle.std.specs.Prelude.{ℕ, Bool, if◌then◌else◌}
use Rattle.corr_core.specs.EndedByRangeOrAttempt.{is_ended_by}
use Rattle.call_table.specs.declared.errors.Decision.{Decision}
use Rattle.call_table.specs.declared.errors.Decision.TheVariants.{End, Retry}

-- the call ends with an error that ends it, and otherwise another attempt is made
abbrev pub decision_of : ℕ → ℕ → ℕ → Bool → Decision
decision_of range current code whole = if is_ended_by range current code whole then End else Retry
