-- Counts of faults, and when a failure may be answered.
use Rattle.std.specs.Prelude.{ℕ, ◌≡◌, ◌+◌, ◌-◌, ◌^◌, ◌≤◌, min, IsErrOf, OnErr, OnOk, Result}
use Rattle.sock_io.specs.declared.link.OpenFault.{OpenFault}
use Rattle.sock_io.specs.declared.link.OpenFault.TheVariants as opening

-- the count rose, or stands at its last value
abbrev pub Rose : ℕ → ℕ → Type 0
Rose before now = min (before + 1) (2 ^ 64 - 1) ≤ now

-- the number of the next call, counted from 1; the last number that is counted is 2 ^ 64 - 1
abbrev pub next_number : ℕ → ℕ
next_number calls = min (calls + 1) (2 ^ 64 - 1)

-- the count never falls, a failure is answered only where it rose, and it stands still at every other answer
pub record HasCause {T E : Type 0} (before now : ℕ) (result : Result T E) : Type 0 where
  pub later : before ≤ now
  pub failed : OnErr result (Rose before now)
  pub kept : OnOk result (now ≡ before)

-- the same of a link that is opened or a connection that is accepted: want of memory is no failure
pub record OpenCause {T : Type 0} (before now : ℕ) (result : Result T OpenFault) : Type 0 where
  pub later : before ≤ now
  pub failed : IsErrOf result opening.Failed → Rose before now
  pub kept : (¬ IsErrOf result opening.Failed) → now ≡ before
