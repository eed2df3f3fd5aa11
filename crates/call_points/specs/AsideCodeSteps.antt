-- The steps aside of the code as those of the programs, and what follows one.
use Rattle.std.specs.Prelude.{ℕ, Option, Some, None}
use Rattle.seat_programs.specs.Asides as asides
use Rattle.seat_programs.specs.Asides.{Step, Found}
use Rattle.seat_programs.specs.Programs.{Program, Do, Write, Aside, Round, Rest}
use Rattle.seat_programs.specs.SendAndWritePrograms.{block}
use Rattle.seat_programs.specs.LoopRounds.{round}
use Rattle.seat_programs.specs.sock_message.specs.Asked.{Asked}
use Rattle.id_points.specs.IdsAndAttemptNumbers.{id_of}
use Rattle.call_points.specs.declared.aside.Aside as code

-- with this call in hand
abbrev pub step_of : Asked → code.Aside → Step
step_of asked (code.TheVariants.ClaimId i) = asides.ClaimId i
step_of asked (code.TheVariants.PutCall i) = asides.PutCall i asked
step_of asked (code.TheVariants.MakeId i range) = asides.MakeId i range
step_of asked (code.TheVariants.StoreCall o id) = asides.StoreCall o (id_of id)
step_of asked (code.TheVariants.LoadCall o) = asides.LoadCall o
step_of asked (code.TheVariants.StoreAt o w) = asides.StoreAt o w.0
step_of asked (code.TheVariants.LoadAt o) = asides.LoadAt o
step_of asked (code.TheVariants.LoadIdWord i) = asides.LoadIdWord i
step_of asked (code.TheVariants.LockId i from) = asides.LockId i from.0
step_of asked (code.TheVariants.PostId i from e) = asides.PostId i from.0 e.0
step_of asked (code.TheVariants.UnlockId i from advance) = asides.UnlockId i from.0 advance
step_of asked (code.TheVariants.EndId i) = asides.EndId i
step_of asked (code.TheVariants.FreeId i) = asides.FreeId i
step_of asked (code.TheVariants.TakeCall i) = asides.TakeCall i
step_of asked (code.TheVariants.TakeBytes k room) = asides.TakeBytes k room

-- the first step of a program, where it is one aside; at the head of a loop it is that of the next round
abbrev pub aside_of : Program → Option Step
aside_of (Aside step next) = Some step
aside_of other = None

abbrev pub aside_in : Program → Option Step
aside_in (Round head next) = aside_of (round head next)
aside_in other = aside_of other

-- behind a step aside that found a word
abbrev pub with_word : (step : Step) → (Found step → Program) → ℕ → Program
with_word (asides.ClaimId i) next found = next found
with_word (asides.PutCall i asked) next found = next found
with_word (asides.MakeId i range) next found = next found
with_word (asides.StoreCall o id) next found = next found
with_word (asides.LoadCall o) next found = next found
with_word (asides.StoreAt o w) next found = next found
with_word (asides.LoadAt o) next found = next found
with_word (asides.LoadIdWord i) next found = next found
with_word (asides.LockId i from) next found = next found
with_word (asides.PostId i from e) next found = next found
with_word (asides.UnlockId i from advance) next found = next found
with_word (asides.EndId i) next found = next found
with_word (asides.FreeId i) next found = next found
with_word (asides.TakeCall i) next found = Rest
with_word (asides.TakeBytes k room) next found = Rest

-- behind a step on a word, by the word found
abbrev pub word_behind : Program → ℕ → Program
word_behind (Do call next) found = next found
word_behind (Aside step next) found = with_word step next found
word_behind other found = other

-- that may be the first step of a round
abbrev pub after_word : Program → ℕ → Program
after_word (Write w after) found = word_behind (block w after) found
after_word (Round head next) found = word_behind (round head next) found
after_word other found = word_behind other found

-- behind a step that took this call out of its home
abbrev pub with_call : (step : Step) → (Found step → Program) → Asked → Program
with_call (asides.TakeCall i) next asked = next asked
with_call other next asked = Rest

abbrev pub after_call : Program → Asked → Program
after_call (Aside step next) asked = with_call step next asked
after_call other asked = other
