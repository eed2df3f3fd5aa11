-- Sources, sinks and links in memory, by what callers see of them.
use Rattle.std.specs.Prelude.{ℕ, ◌≡◌, List, [], ◌∷◌, ◌++◌, length, min, Bool, false, true, None, Some}
use Rattle.sock_io.specs.declared.ending.Ending.{Ending}
use Rattle.sock_io.specs.declared.ending.Ending.TheVariants as ending
use Rattle.sock_io.specs.declared.link.Take.{Take}
use Rattle.sock_io.specs.declared.link.Take.TheVariants as take_
use Rattle.brpc_model.specs.ReturnedLink.{TakeAnswer}
use Rattle.sock_io.specs.LinkHalves.{InState, TakeStep}

-- what a source will give, the numbers of its calls that fail, how many calls were made, and its count of faults
pub record MemSourceState : Type 0 where
  pub left : List ℕ
  pub fail : List ℕ
  pub calls : ℕ
  pub faults : ℕ

-- what a sink took, how much it takes in all, the numbers of its calls that fail, how many calls were made, and its
-- count of faults
pub record MemSinkState : Type 0 where
  pub contents : List ℕ
  pub room : ℕ
  pub fail : List ℕ
  pub calls : ℕ
  pub faults : ℕ

-- a reading half: what it gave, what waits to be taken, what comes behind that, whether it answered `End` or `Closed`, and all that it answered
pub record MemInState : Type 0 where
  pub given : List ℕ
  pub waiting : List ℕ
  pub ending : Ending
  pub gave_end : Bool
  pub closed : Bool
  pub takes : List TakeAnswer

-- a half to which nothing was given yet
abbrev pub empty_in : Ending → MemInState
empty_in ending = record { given = []; waiting = []; ending = ending; gave_end = false; closed = false; takes = [] }

-- the other end may still give
abbrev pub is_open : Ending → Bool
is_open ending.Open = true
is_open other = false

-- the other end closed its half
abbrev pub is_closing : Ending → Bool
is_closing ending.Closed = true
is_closing other = false

-- such a half as a reading half, which never fails
abbrev pub mem_in : MemInState → InState
mem_in i = record { gave = length i.given; gave_end = i.gave_end; closed = Some i.closed; faults = 0; gave_bytes = Some i.given; takes = Some i.takes; closing = Some (is_closing i.ending); offer = None; way = [] }

-- what a take answers: as many bytes as wait and the room takes; where none waits, what comes behind them
abbrev pub take_answer : List ℕ → Ending → (room : ℕ) → Take
take_answer (b ∷ bytes) ending room = take_.Took (min (length (b ∷ bytes)) room)
take_answer [] ending.Open room = take_.Empty
take_answer [] ending.Ended room = take_.End
take_answer [] ending.Closed room = take_.Closed

-- a take gives that many of the bytes that wait, from their front, into a room of this size, which then stands so; and what comes behind them stays
pub record TakesWaiting (old new : MemInState) (size : ℕ) (room : List ℕ) (result : Take) : Type 0 where
  pub step : TakeStep (mem_in old) (mem_in new) room result
  pub answer : result ≡ take_answer old.waiting old.ending size
  pub bytes : new.given ++ new.waiting ≡ old.given ++ old.waiting
  pub ending : new.ending ≡ old.ending

-- a half whose other end closes: one that gave its end keeps it
abbrev pub closing : Ending → Ending
closing ending.Open = ending.Closed
closing ending.Ended = ending.Ended
closing ending.Closed = ending.Closed
