-- What a reader has for the calls whose responses it takes: what its seat noted, the responses that it keeps, what it told of the calls that it ended, and whether memory was wanting.
use Rattle.std.specs.Prelude.{◌≡◌, ◌+◌, ◌⊎◌, ℕ, true, Bool, List, [], ◌∷◌, ◌++◌}
use Rattle.sock_words.specs.declared.outcome.Outcome.{Outcome}
use Rattle.corr_core.specs.IdSlotWord.{Parts}
use Rattle.corr_core.specs.declared.marks.View.{View}
use Rattle.corr_core.specs.declared.marks.Note.TheVariants.{Ended}
use Rattle.corr_id.specs.SeatBehindIdCalls.{Became, one}
use Rattle.sock_message.specs.Asked.{Asked}
use Rattle.prpc_frame.specs.declared.frame.Frame.{Frame}
use Rattle.rpc_client.specs.declared.acting.Told.{Told}
use Rattle.rpc_reader.specs.declared.books.AnswerSeat.{AnswerSeat}
use Rattle.sock_words.specs.PackedWords.{call_id}

pub record Books : Type 0 where
  pub view : View Asked
  pub early : List Frame
  pub told : List Told
  pub starved : Bool

abbrev pub books : AnswerSeat → Books
books c = record { view = c.seat.me.0; early = c.early.items; told = c.told.items; starved = c.starved }

-- the id of the range that has this word in its slot
abbrev pub id_of : ℕ → Parts → ℕ
id_of slot w = call_id slot w.first

-- the outcome of this operation was told behind those before; or memory was wanting for that, which is noted
abbrev pub ToldBy : ℕ → Outcome → List Told → Bool → List Told → Bool → Type 0
ToldBy number by told starved told' starved' = ((told' ≡ told ++ record { number = number; outcome = by } ∷ []) × (starved' ≡ starved)) ⊎ ((told' ≡ told) × (starved' ≡ true))

-- the range of a lock, whose word is w, has ended, and with it the call that was its content: with this outcome
pub record EndedAs (slot : ℕ) (w : Parts) (call : Asked) (by : Outcome) (b b' : Books) : Type 0 where
  pub ended : Became slot b.view b'.view [] (one slot (Ended w.first w.attempt))
  pub told : ToldBy call.operation by b.told b.starved b'.told b'.starved

-- the response was kept behind those before; or memory was wanting for that, which is noted
abbrev pub KeptBy : Frame → List Frame → Bool → List Frame → Bool → Type 0
KeptBy f early starved early' starved' = ((early' ≡ early ++ f ∷ []) × (starved' ≡ starved)) ⊎ ((early' ≡ early) × (starved' ≡ true))
