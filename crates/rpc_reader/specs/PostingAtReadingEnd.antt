-- The calls whose last attempt is on the link whose reading has ended.
use Rattle.std.specs.Prelude.{◌≡◌, ◌==◌, ◌⊎◌, ℕ, Bool, true, false, List, [], ◌∷◌, Option, Some, None, if◌then◌else◌, position, nat_lt}
use Rattle.std.specs.List.{remove}
use mathlib.Core.Option.{some}
use lib.ListN.{get_elem?}
use Rattle.sock_words.specs.PackedWords.{at_word_first, at_word_slot, at_word_link, at_word_attempt, id_slot, id_first, call_id}
use Rattle.sock_words.specs.declared.at_word.AtWord.{AtWord}
use Rattle.sock_words.specs.declared.outcome.Outcome.TheVariants.{CallFailed}
use Rattle.corr_core.specs.IdSlotWord.{Parts, parts}
use Rattle.corr_core.specs.declared.marks.Plan.{Plan}
use Rattle.corr_core.specs.declared.marks.View.{View}
use Rattle.id_rule.specs.LawfulIdTable.{at_index, with_kept}
use Rattle.corr_id.specs.declared.posts.Posted.{Posted}
use Rattle.corr_id.specs.declared.posts.Posted.TheVariants as posted
use Rattle.corr_id.specs.SeatBehindIdCalls.{Quiet, Found, HasId}
use Rattle.corr_id.specs.PostAnswers.{PostOk}
use Rattle.corr_id.specs.Ruled.{is_place}
use Rattle.sock_message.specs.Asked.{Asked}
use Rattle.prpc_frame.specs.FrameMeaning.{frame_of}
use Rattle.prpc_frame.specs.declared.frame.Frame.{Frame}
use Rattle.brpc_model.specs.ResponseOutcome.{ending_of}
use Rattle.rpc_reader.specs.ReaderBooks.{Books, EndedAs, id_of}
use Rattle.rpc_reader.specs.Met.{is_for, FrameMet}
use Rattle.sock_words.specs.Totals.{total}

-- the first kept response of an attempt of the id ends its call; where none was kept, the code does
abbrev pub LostBy : ℕ → Parts → Asked → ℕ → Option ℕ → Books → Books → Type 0
LostBy slot w call code None b b' = EndedAs slot w call (CallFailed (id_of slot w) code) b b' × (b'.early ≡ b.early)
LostBy slot w call code (Some i) b b' = (f : Frame) × (get_elem? b.early i ≡ some f) × (b'.early ≡ remove b.early i) × EndedAs slot w call (ending_of (id_of slot w) (frame_of f)) b b'

abbrev pub LockLost : ℕ → Parts → Asked → ℕ → Books → Books → Type 0
LockLost slot w call code b b' = LostBy slot w call code (position (is_for slot w) b.early) b b'

-- a call ends only by a post that locked its id
abbrev pub PostedTo : ℕ → Posted Asked → Books → Books → Type 0
PostedTo code (posted.Locked k) b b' = LockLost k.slot (parts k.word.0) k.content code b b'
PostedTo code other b b' = b' ≡ b

-- the call and the attempt that an at word names; it has no attempt above 6
abbrev pub call_at : ℕ → ℕ
call_at w = call_id (at_word_slot w) (at_word_first w)

abbrev pub attempt_at : ℕ → Option ℕ
attempt_at w = if nat_lt (at_word_attempt w) 7 then Some (at_word_attempt w) else None

-- the seat found this word of the id that the at word names, and it has the id
abbrev pub FoundOf : ℕ → ℕ → View Asked → Type 0
FoundOf w word v = Found (id_slot (call_at w)) word v × HasId (parts word) (id_first (call_at w))

-- the first response that is kept for an attempt of the id with that word
abbrev pub kept_at : ℕ → ℕ → List Frame → Option ℕ
kept_at w word early = position (is_for (id_slot (call_at w)) (parts word)) early

-- where the code waits in the queue of the id, no response of the id was kept
abbrev pub KeptNone : Posted Asked → ℕ → View Asked → List Frame → Type 0
KeptNone posted.Queued w seen early = (word : ℕ) × FoundOf w word seen × (kept_at w word early ≡ None)
KeptNone other w seen early = Unit {0}

-- the code was posted to the id for that attempt
pub record PostedLast (slots code w : ℕ) (b b' : Books) : Type 0 where
  pub answer : Posted Asked
  pub seen : View Asked
  pub posted : PostOk slots b.view seen (call_at w) code (attempt_at w) answer
  pub none_kept : KeptNone answer w seen b.early
  pub then_ : PostedTo code answer (record b { view = seen }) b'

-- in place of that: a response of the id was kept, and the first one is met again
pub record MetKept (slots w : ℕ) (b b' : Books) : Type 0 where
  pub seen : View Asked
  pub quiet : Quiet b.view seen
  pub word : ℕ
  pub found : FoundOf w word seen
  pub place : ℕ
  pub first : kept_at w word b.early ≡ Some place
  pub frame : Frame
  pub there : get_elem? b.early place ≡ some frame
  pub met : FrameMet slots frame (record b { view = seen; early = remove b.early place }) b'

-- what became of the call that an at word names: the first response that was kept of it is met again; where none was,
-- or its id has ended, the post of the code is answered
abbrev pub MetOrPosted : ℕ → ℕ → ℕ → Books → Books → Type 0
MetOrPosted slots code w b b' = MetKept slots w b b' ⊎ PostedLast slots code w b b'

-- where the at word names this link
abbrev pub PostedIf : Bool → ℕ → ℕ → ℕ → Books → Books → Type 0
PostedIf true slots code w b b' = MetOrPosted slots code w b b'
PostedIf false slots code w b b' = b' ≡ b

-- no attempt of the operation's call had a place: the word was 0, and the seat knew of none there
pub record NoPlace (p : Plan) (operation : ℕ) (b b' : Books) : Type 0 where
  pub unknown : total (is_place (at_index p operation)) b.view.kept ≡ 0
  pub same : b' ≡ b

-- what the at word of the call of this operation led to
abbrev pub PostedAt : Plan → ℕ → ℕ → ℕ → Option AtWord → Books → Books → Type 0
PostedAt p link code operation None b b' = NoPlace p operation b b'
PostedAt p link code operation (Some w) b b' = PostedIf (at_word_link w.0 == link) p.slots code w.0 (record b { view = with_kept (at_index p operation) false w.0 b.view }) b'

abbrev pub PostedOne : Plan → ℕ → ℕ → ℕ → Books → Books → Type 0
PostedOne p link code operation b b' = (found : Option AtWord) × PostedAt p link code operation found b b'

-- all calls of the script, in their order
abbrev pub PostedAll : Plan → ℕ → ℕ → List ℕ → Books → Books → Type 0
PostedAll p link code [] b b' = b' ≡ b
PostedAll p link code (o ∷ os) b b' = (m : Books) × PostedOne p link code o b m × PostedAll p link code os m b'
