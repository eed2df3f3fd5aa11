-- What a lock by a version came to.
use Rattle.std.specs.Prelude.{◌≡◌, ℕ, ◌+◌, ◌<◌, ◌≤◌, ◌⊎◌}
use Rattle.corr_core.specs.IdSlotWord.{parts}
use Rattle.corr_core.specs.IdSlotLaw.{is_advance}
use Rattle.corr_core.specs.declared.marks.View.{View}
use Rattle.corr_id.specs.id_rule.specs.LawfulIdTable.{notes_of}
use Rattle.sock_message.specs.Asked.{Asked}
use Rattle.corr_id.specs.declared.calls.IdLock.{IdLock}
use Rattle.corr_id.specs.SeatBehindIdCalls.{Quiet, GotLock, Found, FoundNow, LockedNow, OutOf}
use Rattle.sock_words.specs.PackedWords.{id_slot, id_first, call_id}
use Rattle.sock_words.specs.Totals.{total}

-- the id that a lock has
abbrev pub id_in : IdLock Asked → ℕ
id_in k = call_id k.slot (parts k.word.0).first

-- it was got, of the range with the version
pub record GotBy (slots version : ℕ) (k : IdLock Asked) (v w : View Asked) : Type 0 where
  pub slot_is : k.slot ≡ id_slot version
  pub inside : k.slot < slots
  pub from_first : (parts k.word.0).first ≤ id_first version
  pub to_last : id_first version < (parts k.word.0).first + (parts k.word.0).range
  pub word : ℕ
  pub got : GotLock k.slot v w word (parts k.word.0) k.content
  pub now : LockedNow k.slot v w (parts k.word.0)

-- there is no such slot, or the word that was found there has no range with the version
pub record GoneBy (slots version : ℕ) (v w : View Asked) : Type 0 where
  pub quiet : Quiet v w
  pub found : ℕ
  pub cause : ((slots ≤ id_slot version) × (found ≡ 0)) ⊎ (Found (id_slot version) found w × OutOf (parts found) (id_first version))
  pub now : id_slot version < slots → FoundNow (id_slot version) found v w
  -- and if the seat had noted that the id with this version advanced, the word has a later range
  pub later : id_slot version < slots → 0 < total (is_advance (id_first version)) (notes_of (id_slot version) v.notes) → id_first version < (parts found).first
