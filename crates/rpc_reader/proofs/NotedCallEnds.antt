-- Calls that end one behind the other, by the ids that a seat found.
use Rattle.std.proofs.Common.{◌≡◌, ℕ, ◌+◌, ◌<◌, ◌≤◌, List, [], ◌∷◌, ◌++◌, length, take, get_or, refl, sym, subst}
use Rattle.std.proofs.lemmas.List.{take_more}
use Rattle.corr_core.specs.IdSlotLaw.{is_made}
use Rattle.corr_core.specs.IdSlotWord.{Parts}
use Rattle.corr_core.specs.declared.marks.Plan.{Plan}
use Rattle.corr_core.specs.declared.marks.View.{View}
use Rattle.id_rule.specs.LawfulIdTable.{notes_of}
use Rattle.corr_id.specs.SeatBehindIdCalls.{GotLock, LockedNow}
use Rattle.sock_message.specs.Asked.{Asked}
use Rattle.rpc_reader.specs.ReaderBooks.{Books}
use Rattle.rpc_reader.specs.PostingAtReadingEnd.{LockLost}
use Rattle.rpc_reader.specs.CallsLeftAfterReading.{EndedLast, OneEnded, RestEnded}
use Rattle.sock_words.specs.PackedWords.{id_slot, id_first}
use Rattle.sock_words.specs.Totals.{total}

-- the seat knows of this id that it was made
abbrev pub IsKnown : ℕ → View Asked → Type 0
IsKnown id v = 0 < total (is_made (id_first id)) (notes_of (id_slot id) v.notes)

-- a lock that was got by an id, and whose call ended
pub ended_last : (slots code id slot : ℕ) (locked : View Asked) (found : ℕ) (word : Parts) (call : Asked) (b b' : Books) → slot ≡ id_slot id → slot < slots → (word.first ≤ id_first id) × (id_first id < word.first + word.range) → (0 < total (is_made (id_first id)) (notes_of (id_slot id) b.view.notes) → word.first ≡ id_first id) → GotLock slot b.view locked found word call → LockedNow slot b.view locked word → LockLost slot word call code (record b { view = locked }) b' → EndedLast slots code id b b'
ended_last slots code id slot locked found word call b b' e inside range own got now lost = record {
  inside = subst (λ (n : ℕ). n < slots) e inside;
  locked = locked;
  found = found;
  word = word;
  call = call;
  range = range;
  own = own;
  got = subst (λ (n : ℕ). GotLock n b.view locked found word call) e got;
  now = subst (λ (n : ℕ). LockedNow n b.view locked word) e now;
  lost = subst (λ (n : ℕ). LockLost n word call code (record b { view = locked }) b') e lost;
}

module _ (p : Plan) (code : ℕ) where
  ended_more : (os : List ℕ) (o : ℕ) (b m b' : Books) → RestEnded p code os b m → OneEnded p code o m b' → RestEnded p code (os ++ o ∷ []) b b'
  ended_more [] o b m b' a one = (b', subst (λ (n : Books). OneEnded p code o n b') a one, refl)
  ended_more (x ∷ xs) o b m b' a one = (a.0, a.1, ended_more xs o a.0 m b' a.2 one)

  pub ended_next : (os : List ℕ) (i : ℕ) (b m b' : Books) → i < length os → RestEnded p code (take i os) b m → OneEnded p code (get_or os i 0) m b' → RestEnded p code (take (i + 1) os) b b'
  ended_next os i b m b' lt a one = subst (λ (l : List ℕ). RestEnded p code l b b') (sym (take_more os i 0 lt)) (ended_more (take i os) (get_or os i 0) b m b' a one)
