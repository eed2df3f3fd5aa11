-- What is told as the end of a call: it was locked with its content, whose operation is the one that is told.
use Rattle.std.proofs.Common.{◌≡◌, ℕ, ◌+◌, ◌*◌, ◌<◌, ◌≤◌, true, false, cond, eq-eqb, List, [], ◌∷◌, refl, ap, arith}
use Rattle.std.specs.List.{AllByRecursion}
use Rattle.corr_core.specs.IdSlotWord.{Parts}
use Rattle.corr_core.specs.IdSlotLaw.{only}
use Rattle.corr_core.specs.declared.marks.Note.{Note}
use Rattle.corr_core.specs.declared.marks.Note.TheVariants.{Made, Locker}
use Rattle.corr_core.specs.declared.marks.View.{View}
use Rattle.corr_core.proofs.NoteSums.{pair-same}
use Rattle.id_rule.specs.LawfulIdTable.{notes_of}
use Rattle.sock_message.specs.Asked.{Asked}
use Rattle.corr_id.specs.SeatBehindIdCalls.{is_event, one, GotLock}
use Rattle.call_deeds.specs.Below.RpcClient.Told.{Told}
use Rattle.call_deeds.specs.Below.CallClient.EndedCallsTelling.{did_total}
use Rattle.call_told.specs.ToldOnce.{ends_of}
use Rattle.call_told.specs.Least.{is_made_for, is_locked_for}
use Rattle.call_told.proofs.ListElementsByPlace.{all_then}
use Rattle.sock_words.specs.Totals.{total}

-- only events count
pub locked_silent : (first operation : ℕ) (n : Note Asked) → is_event n ≡ false → is_locked_for first operation n ≡ 0
locked_silent first operation (Locker g c) e = let k : true ≡ false = e in cc
locked_silent first operation _ e = refl

pub made_silent : (first operation : ℕ) (n : Note Asked) → is_event n ≡ false → is_made_for first operation n ≡ 0
made_silent first operation (Made a b c) e = let k : true ≡ false = e in cc
made_silent first operation _ e = refl

-- one note, in its own slot
pub counted_here : (g : Note Asked → ℕ) (slot : ℕ) (n : Note Asked) → total g (notes_of slot (one slot n)) ≡ g n
counted_here g slot n = let a = ap (λ b. total g (cond b (n ∷ []) [])) (eq-eqb slot slot refl) in omega arith

-- the seat locked a range of this slot with a call of this operation
abbrev pub HasLocked : ℕ → ℕ → ℕ → View Asked → Type 0
HasLocked slot first operation v = 0 < total (is_locked_for first operation) (notes_of slot v.notes)

pub got_locked : (slot : ℕ) (u v : View Asked) (word : ℕ) (k : Parts) (call : Asked) → GotLock slot u v word k call → HasLocked slot k.first call.operation v
got_locked slot u v word k call got =
    let a = did_total (is_locked_for k.first call.operation) (locked_silent k.first call.operation) slot u v _ (one slot (Locker k.first call)) got.did slot in
    let b = counted_here (is_locked_for k.first call.operation) slot (Locker k.first call) in let c = pair-same k.first call.operation in omega arith

-- what is told is the end of a call that the seat had locked, by its operation
pub record IsEndOf (v : View Asked) (x : Told) : Type 0 where
  pub slot : ℕ
  pub first : ℕ
  pub low : first < 4294967296
  pub is_end : (id : ℕ) → ends_of id x.outcome ≡ only id (slot * 4294967296 + first)
  pub locked : HasLocked slot first x.number v

abbrev pub AreEnds : View Asked → List Told → Type 0
AreEnds v told = AllByRecursion (IsEndOf v) told

-- in a later view too
pub end_later : (v w : View Asked) → ((slot : ℕ) (g : Note Asked → ℕ) → total g (notes_of slot v.notes) ≤ total g (notes_of slot w.notes)) → (x : Told) → IsEndOf v x → IsEndOf w x
end_later v w grows x e = record { slot = e.slot; first = e.first; low = e.low; is_end = e.is_end; locked = (let a = grows e.slot (is_locked_for e.first x.number) in let b = e.locked in omega arith) }

pub ends_later : (v w : View Asked) → ((slot : ℕ) (g : Note Asked → ℕ) → total g (notes_of slot v.notes) ≤ total g (notes_of slot w.notes)) → (xs : List Told) → AreEnds v xs → AreEnds w xs
ends_later v w grows xs a = all_then (IsEndOf v) (IsEndOf w) xs (end_later v w grows) a

-- and its id is in one of so many slots
pub record IsEndIn (slots : ℕ) (v : View Asked) (x : Told) : Type 0 where
  pub is : IsEndOf v x
  pub inside : is.slot < slots

abbrev pub AreEndsIn : ℕ → View Asked → List Told → Type 0
AreEndsIn slots v told = AllByRecursion (IsEndIn slots v) told

pub ends_in_later : (slots : ℕ) (v w : View Asked) → ((slot : ℕ) (g : Note Asked → ℕ) → total g (notes_of slot v.notes) ≤ total g (notes_of slot w.notes)) → (xs : List Told) → AreEndsIn slots v xs → AreEndsIn slots w xs
unfolding end_later
ends_in_later slots v w grows xs a = all_then (IsEndIn slots v) (IsEndIn slots w) xs (λ x e. record { is = end_later v w grows x e.is; inside = e.inside }) a
