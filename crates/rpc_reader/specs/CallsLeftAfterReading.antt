-- The calls that are left when no link is read any more.
use Rattle.std.specs.Prelude.{◌≡◌, ◌≢◌, ◌+◌, ◌<◌, ◌≤◌, ◌⊎◌, ℕ, false, List, [], ◌∷◌}
use Rattle.corr_core.specs.IdSlotLaw.{is_made}
use Rattle.corr_core.specs.IdSlotWord.{Parts, parts}
use Rattle.corr_core.specs.declared.marks.Plan.{Plan}
use Rattle.corr_core.specs.declared.marks.View.{View}
use Rattle.id_rule.specs.LawfulIdTable.{call_index, notes_of, with_kept}
use Rattle.corr_id.specs.SeatBehindIdCalls.{GotLock, Quiet, Found, FoundNow, LockedNow, OutOf}
use Rattle.corr_id.specs.Ruled.{is_place}
use Rattle.sock_message.specs.Asked.{Asked}
use Rattle.rpc_reader.specs.ReaderBooks.{Books}
use Rattle.rpc_reader.specs.PostingAtReadingEnd.{LockLost}
use Rattle.sock_words.specs.PackedWords.{id_slot, id_first}
use Rattle.sock_words.specs.Totals.{total}

-- the operation's word was 0, and the seat knew of no id there
pub record NoneNoted (p : Plan) (operation : ℕ) (b b' : Books) : Type 0 where
  pub unknown : total (is_place (call_index p operation)) b.view.kept ≡ 0
  pub view : b'.view ≡ b.view
  pub same : b' ≡ record b { view = b'.view }

-- the range of this id had ended: there is no such slot, or the word that was found there has no range with the id
pub record HadEnded (slots id : ℕ) (b b' : Books) : Type 0 where
  pub quiet : Quiet b.view b'.view
  pub word : ℕ
  pub cause : ((slots ≤ id_slot id) × (word ≡ 0)) ⊎ (Found (id_slot id) word b'.view × OutOf (parts word) (id_first id))
  pub now : id_slot id < slots → FoundNow (id_slot id) word b.view b'.view
  -- and if the seat knew that the id was made, the word has a later range
  pub later : id_slot id < slots → 0 < total (is_made (id_first id)) (notes_of (id_slot id) b.view.notes) → id_first id < (parts word).first
  pub same : b' ≡ record b { view = b'.view }

-- it was locked, and its call ended with the first response that was kept for it, or with the code
pub record EndedLast (slots code id : ℕ) (b b' : Books) : Type 0 where
  pub inside : id_slot id < slots
  pub locked : View Asked
  pub found : ℕ
  pub word : Parts
  pub call : Asked
  pub range : (word.first ≤ id_first id) × (id_first id < word.first + word.range)
  -- if the seat knew that this id was made, it is the one that was locked
  pub own : 0 < total (is_made (id_first id)) (notes_of (id_slot id) b.view.notes) → word.first ≡ id_first id
  pub got : GotLock (id_slot id) b.view locked found word call
  pub now : LockedNow (id_slot id) b.view locked word
  pub lost : LockLost (id_slot id) word call code (record b { view = locked }) b'

-- the operation's word had an id, which the seat keeps in mind; and with that no call is left
pub record NotedEnds (p : Plan) (code operation : ℕ) (b b' : Books) : Type 0 where
  pub id : ℕ
  pub some : id ≢ 0
  pub seen : View Asked
  pub kept : seen ≡ with_kept (call_index p operation) false id b.view
  pub ends : HadEnded p.slots id (record b { view = seen }) b' ⊎ EndedLast p.slots code id (record b { view = seen }) b'

abbrev pub OneEnded : Plan → ℕ → ℕ → Books → Books → Type 0
OneEnded p code operation b b' = NoneNoted p operation b b' ⊎ NotedEnds p code operation b b'

-- the calls of these operations, one behind the other
abbrev pub RestEnded : Plan → ℕ → List ℕ → Books → Books → Type 0
RestEnded p code [] b b' = b' ≡ b
RestEnded p code (o ∷ os) b b' = (m : Books) × OneEnded p code o b m × RestEnded p code os m b'
