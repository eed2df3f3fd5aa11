-- What a step makes of the ids and calls of a machine, and which steps fit them.
use Rattle.std.specs.Prelude.{ℕ, ◌≡◌, Bool, List, slice_index}
use mathlib.Core.Option.{Option, some, none}
use Rattle.seat_programs.specs.LoopHeads.{Retry}
use Rattle.seat_programs.specs.Cores.{Calls}
use Rattle.seat_programs.specs.Asides as asides
use Rattle.seat_programs.specs.Asides.{Step, Found, Taking}
use Rattle.seat_programs.specs.FoundAndChangedAside.{found_in, calls_after}
use Rattle.call_points.specs.declared.aside.Aside.{Aside}
use Rattle.call_slots.specs.CallSlotState.{SlotState, calls_with}
use Rattle.call_slots.specs.WordOfStep.{index_of, IsWithin, WordFits}

-- a word that a step found, as the programs have it; a call and bytes of a link are none
abbrev pub word_found : (step : Step) → ℕ → Option (Found step)
word_found (asides.ClaimId i) word = some word
word_found (asides.PutCall i asked) word = some word
word_found (asides.MakeId i range) word = some word
word_found (asides.StoreCall o id) word = some word
word_found (asides.LoadCall o) word = some word
word_found (asides.StoreAt o w) word = some word
word_found (asides.LoadAt o) word = some word
word_found (asides.LoadIdWord i) word = some word
word_found (asides.LockId i from) word = some word
word_found (asides.PostId i from e) word = some word
word_found (asides.UnlockId i from advance) word = some word
word_found (asides.EndId i) word = some word
word_found (asides.FreeId i) word = some word
word_found (asides.TakeCall i) word = none
word_found (asides.TakeBytes k room) word = none

-- a step that finds nothing changes nothing
abbrev pub calls_behind : (step : Step) → Option (Found step) → Calls → Calls
calls_behind step none a = a
calls_behind step (some found) a = calls_after step found a

-- the step finds this, and leaves that behind it, whatever stands beside
pub record Makes (old : SlotState) (step : Step) (found : Option (Found step)) (new : SlotState) : Type 0 where
  pub finds : (waiting : List (List Retry)) (gave : List (List ℕ)) (ending : Bool) (t : Option Taking) → found_in step (calls_with old waiting gave ending) t ≡ found
  pub changes : (waiting : List (List Retry)) (gave : List (List ℕ)) (ending : Bool) → calls_with new waiting gave ending ≡ calls_behind step found (calls_with old waiting gave ending)

-- the step is one on a word of the table, and the word that it stores has room for its parts
abbrev pub StepFits : SlotState → Aside → Type 0
StepFits s step = IsWithin s.plan step × WordFits step (slice_index s.words (index_of s.plan step))
