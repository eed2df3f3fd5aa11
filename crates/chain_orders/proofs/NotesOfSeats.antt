-- What seats noted together one of them noted.
use Rattle.std.proofs.Common.{◌≡◌, ℕ, zero, suc, ◌+◌, ◌<◌, true, false, cond, eqb, List, [], ◌∷◌, ◌++◌, flat_map, refl, sym, ap, ◌∙◌, subst, arith}
use mathlib.Core.Logic.{dite}
use mathlib.Core.Option.{some}
use native.Mathlib.Decide.{dec_lt}
use lib.ListN.{get_elem?}
use Rattle.atomic_table.specs.declared.shared.Seat.{Seat}
use Rattle.sock_words.specs.Totals.{total}
use Rattle.sock_model.specs.declared.marks.Mark.{Mark}
use Rattle.sock_model.specs.declared.marks.SlotMark.{SlotMark}
use Rattle.sock_model.specs.declared.view.View.{View}
use Rattle.sock_model.specs.Marks.{about}
use Rattle.sock_model.specs.SlotRows.{marks_of}

about_append : (f : Mark → ℕ) (i : ℕ) (ms ns : List SlotMark) → total f (about i (ms ++ ns)) ≡ total f (about i ms) + total f (about i ns)
about_append f i [] ns = omega arith
about_append f i (m ∷ ms) ns = let again = about_append f i ms ns in
    elim (eqb m.slot i) as (λ t. total f (cond t (m.mark ∷ about i (ms ++ ns)) (about i (ms ++ ns))) ≡ total f (cond t (m.mark ∷ about i ms) (about i ms)) + total f (about i ns)) [
      | true ↦ omega arith
      | false ↦ again
    ]

module _ {S : Type 0} (f : Mark → ℕ) (i : ℕ) where
  -- a seat that noted it
  abbrev pub NotedBy : List (Seat S View) → Type 0
  NotedBy seats = (s : Seat S View) × ((c : ℕ) × (get_elem? seats c ≡ some s)) × (0 < marks_of f i s.me.0)

  noted_among : (seats : List (Seat S View)) → 0 < total f (about i (flat_map (λ (s : Seat S View). s.me.0.marks) seats)) → NotedBy seats
  noted_among [] some_ = absurd (omega arith)
  noted_among (s ∷ ss) some_ = dite (dec_lt 0 (marks_of f i s.me.0))
      (λ here. (s, (0, refl), here))
      (λ none_. let e = about_append f i s.me.0.marks (flat_map (λ (s : Seat S View). s.me.0.marks) ss) in let w = noted_among ss (omega arith) in (w.0, (suc w.1.0, w.1.1), w.2))

  -- a view that has all that they noted
  pub noted_by : (seats : List (Seat S View)) (v : View) → v.marks ≡ flat_map (λ (s : Seat S View). s.me.0.marks) seats → 0 < marks_of f i v → NotedBy seats
  noted_by seats v all some_ = noted_among seats (subst (λ ms. 0 < total f (about i ms)) all some_)
