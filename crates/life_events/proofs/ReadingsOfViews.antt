-- How the plain reading of all views changes where one view does.
use Rattle.std.proofs.Common.{◌≡◌, ◌≢◌, ℕ, zero, suc, ◌+◌, List, [], ◌∷◌, map, set, get_or, get_or-set_other, refl, sym, ap, ◌∙◌, arith, cond, eq-eqb, ne_eqb}
use mathlib.Core.Logic.{dite}
use mathlib.Core.Option.{some, some-injective, some-ne-none}
use native.Mathlib.Decide.{ℕ_discrete}
use lib.ListN.{get_elem?}
use lib.Seq.{map-set}
use Rattle.atomic_table.proofs.Lists.{at_map}
use Rattle.sock_model.specs.declared.marks.Mark.{Mark}
use Rattle.sock_model.specs.declared.view.View.{View}
use Rattle.sock_model.specs.MarkWeights.{is_hold, is_born, is_failer, is_freer}
use Rattle.sock_model.specs.Marks.{about}
use Rattle.sock_model.specs.SlotRows.{marks_of}
use Rattle.sock_model.specs.PlainReferences.{Life, Nothing, Birth, Hold, Drop, Fail, End, same_life, once_more, one_more, one_less, changed, plain}
use Rattle.slot_steps.proofs.SlotWeightSums.{total-set}
use Rattle.life_events.proofs.Grown.{Grown, Same, no_life}
use Rattle.sock_words.specs.Totals.{total}

at_index : (l : List ℕ) (i a : ℕ) → get_elem? l i ≡ some a → get_or l i 0 ≡ a
at_index [] i a e = absurd (some-ne-none a (sym e))
at_index (x ∷ xs) zero a e = some-injective x a e
at_index (x ∷ xs) (suc i) a e = at_index xs i a e

at_set_index : (l : List ℕ) (i a b : ℕ) → get_elem? l i ≡ some a → get_or (set l i b) i 0 ≡ b
at_set_index [] i a b e = absurd (some-ne-none a (sym e))
at_set_index (x ∷ xs) zero a b e = refl
at_set_index (x ∷ xs) (suc i) a b e = at_set_index xs i a b e

-- what a seat holds by the reading is what its view has
pub own_holds : (views : List View) (id : ℕ) (v : View) → get_elem? views id ≡ some v → (l : Life) → (plain views).holds id l ≡ marks_of (is_hold l.version) l.slot v
own_holds views id v here l = let g : View → ℕ = marks_of (is_hold l.version) l.slot in at_index (map g views) id (g v) (at_map g views id v here)

module _ (views : List View) (id : ℕ) (v w : View) (here : get_elem? views id ≡ some v) where
  abbrev after : List View
  after = set views id w

  all_seats : (f : Mark → ℕ) (j n : ℕ) → total f (about j w.marks) ≡ total f (about j v.marks) + n → total (marks_of f j) after ≡ total (marks_of f j) views + n
  all_seats f j n e = omega (arith, total-set (marks_of f j) views id v w here)

  same_seats : (f : Mark → ℕ) (j n : ℕ) → n ≡ 0 → total f (about j w.marks) ≡ total f (about j v.marks) + n → total (marks_of f j) after ≡ total (marks_of f j) views
  same_seats f j n z e = omega (arith, total-set (marks_of f j) views id v w here)

  -- the seat itself, and any other
  pub seat_after : (l : Life) → (plain after).holds id l ≡ marks_of (is_hold l.version) l.slot w
  seat_after l = let g : View → ℕ = marks_of (is_hold l.version) l.slot in
      ap (λ (xs : List ℕ). get_or xs id 0) (map-set g views id w) ∙ at_set_index (map g views) id (g v) (g w) (at_map g views id v here)

  pub other_after : (seat : ℕ) → seat ≢ id → (l : Life) → (plain after).holds seat l ≡ (plain views).holds seat l
  other_after seat n l = let g : View → ℕ = marks_of (is_hold l.version) l.slot in
      ap (λ (xs : List ℕ). get_or xs seat 0) (map-set g views id w) ∙ get_or-set_other (map g views) id seat (g w) 0 n

  same_holds : ((l : Life) → marks_of (is_hold l.version) l.slot w ≡ marks_of (is_hold l.version) l.slot v) → (seat : ℕ) (l : Life) → (plain after).holds seat l ≡ (plain views).holds seat l
  same_holds e seat l = dite (ℕ_discrete seat id)
      (λ y. ap (λ (x : ℕ). (plain after).holds x l) y ∙ (seat_after l ∙ (e l ∙ (sym (own_holds views id v here l) ∙ ap (λ (x : ℕ). (plain views).holds x l) (sym y)))))
      (λ n. other_after seat n l)

  more_holds : (x : Life) → ((l : Life) → marks_of (is_hold l.version) l.slot w ≡ marks_of (is_hold l.version) l.slot v + same_life x l) → (seat : ℕ) (l : Life) → (plain after).holds seat l ≡ one_more x id (plain views).holds seat l
  more_holds x e seat l = dite (ℕ_discrete seat id)
      (λ y. let a = ap (λ b. cond b (same_life x l) 0) (eq-eqb seat id y) in let b = ap (λ (z : ℕ). (plain after).holds z l) y in let c = ap (λ (z : ℕ). (plain views).holds z l) y in
      omega (arith, e l, seat_after l, own_holds views id v here l))
      (λ n. let a = ap (λ b. cond b (same_life x l) 0) (ne_eqb seat id n) in omega (arith, other_after seat n l))

  less_holds : (x : Life) → ((l : Life) → marks_of (is_hold l.version) l.slot v ≡ marks_of (is_hold l.version) l.slot w + same_life x l) → (seat : ℕ) (l : Life) → (plain after).holds seat l ≡ one_less x id (plain views).holds seat l
  less_holds x e seat l = dite (ℕ_discrete seat id)
      (λ y. let a = ap (λ b. cond b (same_life x l) 0) (eq-eqb seat id y) in let b = ap (λ (z : ℕ). (plain after).holds z l) y in let c = ap (λ (z : ℕ). (plain views).holds z l) y in
      omega (arith, e l, seat_after l, own_holds views id v here l))
      (λ n. let a = ap (λ b. cond b (same_life x l) 0) (ne_eqb seat id n) in omega (arith, other_after seat n l))

  pub nothing_read : Same v.marks w.marks → plain after ≡ changed Nothing (plain views)
  nothing_read g = λ i. record {
    births = λ l. same_seats (is_born l.version) l.slot (no_life l) refl (g.born l) i;
    fails = λ l. same_seats (is_failer l.version) l.slot (no_life l) refl (g.failed l) i;
    ends = λ l. same_seats (is_freer l.version) l.slot (no_life l) refl (g.ended l) i;
    holds = λ seat l. same_holds (λ x. let a = g.held x in omega arith) seat l i;
  }

  pub birth_read : (x : Life) → Grown v.marks w.marks (once_more x no_life) no_life no_life no_life → plain after ≡ changed (Birth x) (plain views)
  birth_read x g = λ i. record {
    births = λ l. all_seats (is_born l.version) l.slot (same_life x l) (let a = g.born l in omega arith) i;
    fails = λ l. same_seats (is_failer l.version) l.slot (no_life l) refl (g.failed l) i;
    ends = λ l. same_seats (is_freer l.version) l.slot (no_life l) refl (g.ended l) i;
    holds = λ seat l. same_holds (λ y. let a = g.held y in omega arith) seat l i;
  }

  pub hold_read : (x : Life) → Grown v.marks w.marks no_life no_life no_life (once_more x no_life) → plain after ≡ changed (Hold x id) (plain views)
  hold_read x g = λ i. record {
    births = λ l. same_seats (is_born l.version) l.slot (no_life l) refl (g.born l) i;
    fails = λ l. same_seats (is_failer l.version) l.slot (no_life l) refl (g.failed l) i;
    ends = λ l. same_seats (is_freer l.version) l.slot (no_life l) refl (g.ended l) i;
    holds = λ seat l. more_holds x (λ y. let a = g.held y in omega arith) seat l i;
  }

  -- the old marks have one hold more
  pub drop_read : (x : Life) → Grown w.marks v.marks no_life no_life no_life (once_more x no_life) → plain after ≡ changed (Drop x id) (plain views)
  drop_read x g = λ i. record {
    births = λ l. same_seats (is_born l.version) l.slot (no_life l) refl (let a = g.born l in omega arith) i;
    fails = λ l. same_seats (is_failer l.version) l.slot (no_life l) refl (let a = g.failed l in omega arith) i;
    ends = λ l. same_seats (is_freer l.version) l.slot (no_life l) refl (let a = g.ended l in omega arith) i;
    holds = λ seat l. less_holds x (λ y. let a = g.held y in omega arith) seat l i;
  }

  pub fail_read : (x : Life) → Grown v.marks w.marks no_life (once_more x no_life) no_life (once_more x no_life) → plain after ≡ changed (Fail x id) (plain views)
  fail_read x g = λ i. record {
    births = λ l. same_seats (is_born l.version) l.slot (no_life l) refl (g.born l) i;
    fails = λ l. all_seats (is_failer l.version) l.slot (same_life x l) (let a = g.failed l in omega arith) i;
    ends = λ l. same_seats (is_freer l.version) l.slot (no_life l) refl (g.ended l) i;
    holds = λ seat l. more_holds x (λ y. let a = g.held y in omega arith) seat l i;
  }

  pub end_read : (x : Life) → Grown v.marks w.marks no_life no_life (once_more x no_life) no_life → plain after ≡ changed (End x) (plain views)
  end_read x g = λ i. record {
    births = λ l. same_seats (is_born l.version) l.slot (no_life l) refl (g.born l) i;
    fails = λ l. same_seats (is_failer l.version) l.slot (no_life l) refl (g.failed l) i;
    ends = λ l. all_seats (is_freer l.version) l.slot (same_life x l) (let a = g.ended l in omega arith) i;
    holds = λ seat l. same_holds (λ y. let a = g.held y in omega arith) seat l i;
  }
