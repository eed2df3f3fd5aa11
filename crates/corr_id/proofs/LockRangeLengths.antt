-- How long a range is that a lock has.
use Rattle.std.proofs.Common.{◌≡◌, ℕ, zero, suc, ◌<◌, ◌≤◌, List, [], ◌∷◌, sym, ap, ◌∙◌, subst, arith}
use mathlib.Core.Option.{some, some-injective, some-ne-none}
use lib.ListN.{get_elem?}
use Rattle.corr_core.specs.IdSlotWord.{parts}
use Rattle.corr_core.specs.IdSlotLaw.{is_made}
use Rattle.corr_core.specs.declared.marks.Plan.{Plan}
use Rattle.corr_core.specs.declared.marks.Note.{Note}
use Rattle.corr_core.specs.declared.marks.Note.TheVariants.{Made, Locker}
use Rattle.corr_core.specs.declared.marks.Noted.{Noted}
use Rattle.corr_core.specs.declared.marks.Kept.{Kept}
use Rattle.corr_core.proofs.NoteSums.{only-same}
use Rattle.id_rule.specs.LawfulIdTable.{notes_of}
use Rattle.corr_id.specs.SeatBehindIdCalls.{is_saw}
use Rattle.corr_id.specs.ClosingIdLists.{Closing}
use Rattle.sock_words.specs.Totals.{total}

-- what a function counts at two places is at least what it counts there together
some_at : {A : Type 0} (g : A → ℕ) (l : List A) (i : ℕ) (x : A) → get_elem? l i ≡ some x → g x ≤ total g l
some_at g [] i x e = absurd (some-ne-none x (sym e))
some_at g (y ∷ l) zero x e = let a = ap g (some-injective y x e) in omega arith
some_at g (y ∷ l) (suc i) x e = let a : g x ≤ total g l = some_at g l i x e in omega arith

-- one that is counted once stands at one place
one_place : {A : Type 0} (g : A → ℕ) (l : List A) (i j : ℕ) (x y : A) → total g l ≤ 1 → 0 < g x → 0 < g y → get_elem? l i ≡ some x → get_elem? l j ≡ some y → x ≡ y
one_place g [] i j x y few p q e f = absurd (some-ne-none x (sym e))
one_place g (z ∷ l) zero zero x y few p q e f = sym (some-injective z x e) ∙ some-injective z y f
one_place g (z ∷ l) zero (suc j) x y few p q e f = let a = ap g (some-injective z x e) in let b = some_at g l j y f in absurd (omega arith)
one_place g (z ∷ l) (suc i) zero x y few p q e f = let a = ap g (some-injective z y f) in let b = some_at g l i x e in absurd (omega arith)
one_place g (z ∷ l) (suc i) (suc j) x y few p q e f = one_place g l i j x y (omega arith) p q e f

module _ {C : Type 0} where
  abbrev content_of : C → Note C → C
  content_of d (Made f r c) = c
  content_of d _ = d

  -- where a seat found the word open or locked, and noted that it locked its id with this content: the id was made with this content, and of so many versions
  pub lock_range : (p : Plan) (notes : List (Noted C)) (kept : List Kept) (words : List ℕ) → Closing p notes kept words → (i w k : ℕ) (c : C) → i < p.slots → 0 < total (is_saw w) (notes_of i notes) → 0 < (parts w).state
      → get_elem? (notes_of i notes) k ≡ some (Locker (parts w).first c) → (j : ℕ) × (get_elem? (notes_of i notes) j ≡ some (Made (parts w).first (parts w).range c))
  lock_range p notes kept words closed i w k c inside saw some_state locked =
      let f : ℕ = (parts w).first in let r : ℕ = (parts w).range in
      let found = closed.range_is i w inside saw some_state in let made = closed.locked_made i f k c inside locked in
      let one : 0 < is_made f (Made f r found.0) = (let a = only-same f in omega arith) in let two : 0 < is_made f (Made f made.0 c) = (let a = only-same f in omega arith) in
      let same : Made f r found.0 ≡ Made f made.0 c = one_place (is_made f) (notes_of i notes) found.1 made.1 (Made f r found.0) (Made f made.0 c) (closed.made_once i f inside) one two found.2 made.2 in
      (found.1, subst (λ (d : C). get_elem? (notes_of i notes) found.1 ≡ some (Made f r d)) (ap (content_of c) same) found.2)
