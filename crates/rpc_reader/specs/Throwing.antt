-- What comes behind a frame fault is taken on and thrown away.
use Rattle.std.specs.Prelude.{◌≡◌, ◌+◌, ◌<◌, ◌≤◌, ◌⊎◌, ℕ, Bool, true, false, List, [], ◌∷◌, ◌++◌, length}
use Rattle.sock_io.specs.LinkHalves.{InState, TakeStep}
use Rattle.sock_io.specs.declared.link.Take.{Take}
use Rattle.rpc_reader.specs.LinkReading.{LIMIT}
use Rattle.rpc_reader.specs.ReadingTakeByTake.{Took, Takes, GoOn, goes_on, piece_of, bytes_of}

-- by what the take answered and how many bytes came: more is taken below the limit, or it was the last
abbrev pub ThrewBy : Bool → Bool → Take → ℕ → Type 0
ThrewBy ending false answer total = (goes_on ending answer ≡ true) × (total < LIMIT)
ThrewBy ending true answer total = (goes_on ending answer ≡ false) ⊎ (total ≡ LIMIT)

pub record ThrewOnce (ending last_one : Bool) (s t : InState) (total total' : ℕ) : Type 0 where
  pub last : Took
  pub step : TakeStep s t last.room last.answer
  pub total_is : total' ≡ total + length (piece_of last)
  pub few : total' ≤ LIMIT
  pub by : ThrewBy ending last_one last.answer total'

-- so many bytes came by these takes, behind each of which more was taken
pub record ThrewOn (ending : Bool) (total total' : ℕ) (s t : InState) : Type 0 where
  pub takes : List Took
  pub on : GoOn ending takes
  pub steps : Takes takes s t
  pub total_is : total' ≡ total + length (bytes_of takes)
  pub below : total' < LIMIT

pub record ThrewSome (ending : Bool) (total : ℕ) (s t : InState) : Type 0 where
  pub earlier : List Took
  pub on : GoOn ending earlier
  pub last : Took
  pub steps : Takes (earlier ++ last ∷ []) s t
  pub few : total + length (bytes_of (earlier ++ last ∷ [])) ≤ LIMIT
  pub ends : (goes_on ending last.answer ≡ false) ⊎ (total + length (bytes_of (earlier ++ last ∷ [])) ≡ LIMIT)

-- at the limit nothing more is taken
abbrev pub ThrewAway : Bool → ℕ → InState → InState → Type 0
ThrewAway ending total s t = ((total ≡ LIMIT) × (t ≡ s)) ⊎ ThrewSome ending total s t
