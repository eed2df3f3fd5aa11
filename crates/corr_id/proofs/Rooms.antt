-- Where each slot was found taken, as many ids were made as there are slots.
use Rattle.std.proofs.Common.{◌≡◌, ℕ, zero, suc, ◌+◌, ◌<◌, ◌≤◌, cond, List, [], ◌∷◌, eq-eqb, ne_eqb, ap, arith}
use Rattle.std.proofs.lemmas.Bool.{lt-ltb, le-ltb}
use mathlib.Core.Logic.{dite}
use native.Mathlib.Decide.{ℕ_discrete, dec_le}
use Rattle.corr_core.specs.IdSlotLaw.{is_tried, is_any_made}
use Rattle.corr_core.specs.declared.marks.Plan.{Plan}
use Rattle.corr_core.specs.declared.marks.Noted.{Noted}
use Rattle.corr_core.specs.declared.marks.Kept.{Kept}
use Rattle.id_rule.specs.LawfulIdTable.{notes_of}
use Rattle.corr_id.specs.ClosingIdLists.{Closing, is_making}
use Rattle.sock_words.specs.Totals.{total}

module _ {C : Type 0} where
  below : (n : ℕ) (h : Noted C) → h.slot < n → is_making n h ≡ is_any_made h.note
  below n h lt = ap (λ b. cond b (is_any_made h.note) 0) (lt-ltb h.slot n lt)

  beyond : (n : ℕ) (h : Noted C) → n ≤ h.slot → is_making n h ≡ 0
  beyond n h le = ap (λ b. cond b (is_any_made h.note) 0) (le-ltb h.slot n le)

  notes_here : (n : ℕ) (h : Noted C) (hs : List (Noted C)) → h.slot ≡ n → total is_any_made (notes_of n (h ∷ hs)) ≡ is_any_made h.note + total is_any_made (notes_of n hs)
  notes_here n h hs e = ap (λ b. total is_any_made (cond b (h.note ∷ notes_of n hs) (notes_of n hs))) (eq-eqb h.slot n e)

  notes_else : (n : ℕ) (h : Noted C) (hs : List (Noted C)) → (h.slot ≡ n → ⊥) → total is_any_made (notes_of n (h ∷ hs)) ≡ total is_any_made (notes_of n hs)
  notes_else n h hs ne = ap (λ b. total is_any_made (cond b (h.note ∷ notes_of n hs) (notes_of n hs))) (ne_eqb h.slot n ne)

  -- one slot more
  one_slot : (n : ℕ) (hs : List (Noted C)) → total (is_making (suc n)) hs ≡ total is_any_made (notes_of n hs) + total (is_making n) hs
  one_slot n [] = omega arith
  one_slot n (h ∷ hs) = let rest = one_slot n hs in dite (ℕ_discrete h.slot n)
      (λ e. omega (arith, rest, notes_here n h hs e, below (suc n) h (omega arith), beyond n h (omega arith)))
      (λ ne. let same = notes_else n h hs ne in dite (dec_le n h.slot)
      (λ le. omega (arith, rest, same, beyond (suc n) h (omega arith), beyond n h le))
      (λ nle. omega (arith, rest, same, below (suc n) h (omega arith), below n h (omega arith))))

  each_room : (n : ℕ) (hs : List (Noted C)) → ((i : ℕ) → i < n → 0 < total is_any_made (notes_of i hs)) → n ≤ total (is_making n) hs
  each_room zero hs h = omega arith
  each_room (suc n) hs h = let rest = each_room n hs (λ i lt. h i (omega arith)) in let here = h n (omega arith) in omega (arith, one_slot n hs)

  -- over the lists of all seats, once one of them found each slot taken
  pub rooms : (p : Plan) (notes : List (Noted C)) (kept : List Kept) (words : List ℕ) → Closing p notes kept words → ((i : ℕ) → i < p.slots → 0 < total is_tried (notes_of i notes)) → p.slots ≤ total (is_making p.slots) notes
  rooms p notes kept words closed taken = each_room p.slots notes (λ i lt. closed.full i lt (taken i lt))
