-- What follows from the events alone: they keep the plain laws, what became of a life stands, and a slot is given again only once nobody holds a life of it.
use Rattle.std.proofs.Common.{◌≡◌, ℕ, ◌+◌, ◌<◌, ◌≤◌, ◌⊎◌, true, false, List, [], ◌∷◌, refl, sym, ap, ◌∙◌, subst, inl, inr, ⊎_elim, arith, cond, eqb}
use mathlib.Core.Logic.{dite}
use native.Mathlib.Decide.{ℕ_discrete}
use Rattle.sock_model.specs.PlainReferences.{Life, life_at, Plain, Event, Nothing, Birth, Hold, Drop, Fail, End, MayCome, Becomes, Leads, changed, same_life, IsUnended, IsUnheld, PlainLaw}
use Rattle.slot_steps.proofs.RuleNumbers.{pair_is, pair_le}

-- two lives are one, or count as none
one_or_none : (l x : Life) → (l ≡ x) ⊎ (same_life l x ≡ 0)
one_or_none l x = dite (ℕ_discrete (same_life l x) 0) (λ z. inr z) (λ n. let t = pair_is l.slot l.version x.slot x.version (omega arith) in inl (λ i. record { slot = sym t.0 i; version = sym t.1 i }))

same_le : (l x : Life) → same_life l x ≤ 1
same_le l x = pair_le l.slot l.version x.slot x.version

-- of which a seat gets one more only where the seat and the life are these
seat_le : (l x : Life) (any seat : ℕ) → cond (eqb any seat) (same_life l x) 0 ≤ same_life l x
seat_le l x any seat = elim (eqb any seat) as (λ b. cond b (same_life l x) 0 ≤ same_life l x) [ true ↦ omega arith | false ↦ omega arith ]

module _ (slots : ℕ) (q : Plain) (law : PlainLaw slots q) where
  birth_keeps : (l : Life) → MayCome q (Birth l) → PlainLaw slots (changed (Birth l) q)
  birth_keeps l may = record {
    born_once = λ x inside. ⊎_elim (λ e. let z = ap q.births e in let a = may.0 in omega (arith, same_le l x)) (λ z. omega (arith, law.born_once x inside)) (one_or_none l x);
    born_first = λ x inside. omega (arith, law.born_first x inside);
    failed_first = law.failed_first;
    held_unended = λ x seat inside some_. let g = law.held_unended x seat inside some_ in let g₀ = g.0 in (omega arith, g.1);
    one_unended = λ i g h inside a b. let a₀ = a.0 in let b₀ = b.0 in let x : Life = life_at i g in let y : Life = life_at i h in
        dite (ℕ_discrete (q.births (life_at i g)) 0)
        (λ u. dite (ℕ_discrete (q.births (life_at i h)) 0)
        (λ w. let s = ⊎_elim (λ e. sym (ap (λ (z : Life). z.version) e)) (λ z. absurd (omega arith)) (one_or_none l x) in let t = ⊎_elim (λ e. sym (ap (λ (z : Life). z.version) e)) (λ z. absurd (omega arith)) (one_or_none l y) in let r : g ≡ h = s ∙ sym t in r)
        (λ w. ⊎_elim (λ e. absurd (ended l may x y e refl (omega arith) b.1)) (λ z. absurd (omega arith)) (one_or_none l x)))
        (λ u. dite (ℕ_discrete (q.births (life_at i h)) 0)
        (λ w. ⊎_elim (λ e. absurd (ended l may y x e refl (omega arith) a.1)) (λ z. absurd (omega arith)) (one_or_none l y))
        (λ w. law.one_unended i g h inside (omega arith, a.1) (omega arith, b.1)));
  }
    where
      -- each life that its slot had has ended
      ended : (l : Life) → MayCome q (Birth l) → (x y : Life) → l ≡ x → x.slot ≡ y.slot → 0 < q.births y → q.ends y ≡ 0 → ⊥
      ended l may x y e same born on = let a = subst (λ (z : Life). (h : ℕ) → 0 < q.births (life_at z.slot h) → 0 < q.ends (life_at z.slot h)) e may.1 in
          let b = subst (λ (z : ℕ). (h : ℕ) → 0 < q.births (life_at z h) → 0 < q.ends (life_at z h)) same a in omega (arith, b y.version born)

  -- who gets a reference holds a life that is live
  live_unended : (l : Life) → l.slot < slots → 0 < q.births l → q.fails l ≡ 0 → IsUnended q l
  live_unended l inside born live = (born, omega (arith, law.failed_first l inside))

  hold_keeps : (l : Life) (seat : ℕ) → MayCome q (Hold l seat) → PlainLaw slots (changed (Hold l seat) q)
  hold_keeps l seat may = record {
    born_once = law.born_once;
    born_first = law.born_first;
    failed_first = law.failed_first;
    held_unended = λ x any inside some_. more_held l seat may.0 may.1 x any inside some_;
    one_unended = law.one_unended;
  }
    where
      more_held : (l : Life) (seat : ℕ) → 0 < q.births l → q.fails l ≡ 0 → (x : Life) (any : ℕ) → x.slot < slots → 0 < q.holds any x + cond (eqb any seat) (same_life l x) 0 → IsUnended q x
      more_held l seat born live x any inside some_ = ⊎_elim (λ e. subst (λ (y : Life). y.slot < slots → IsUnended q y) e (λ y. live_unended l y born live) inside)
          (λ z. law.held_unended x any inside (omega (arith, seat_le l x any seat))) (one_or_none l x)

  drop_keeps : (l : Life) (seat : ℕ) → PlainLaw slots (changed (Drop l seat) q)
  drop_keeps l seat = record {
    born_once = law.born_once;
    born_first = law.born_first;
    failed_first = law.failed_first;
    held_unended = λ x any inside some_. law.held_unended x any inside (omega arith);
    one_unended = law.one_unended;
  }

  fail_keeps : (l : Life) (seat : ℕ) → MayCome q (Fail l seat) → PlainLaw slots (changed (Fail l seat) q)
  fail_keeps l seat may = let live = may.0 in record {
    born_once = law.born_once;
    born_first = λ x inside. ⊎_elim (λ e. let a = ap q.births e in let b = ap q.fails e in let c = live.0 in let d = live.1 in omega (arith, same_le l x)) (λ z. omega (arith, law.born_first x inside)) (one_or_none l x);
    failed_first = λ x inside. omega (arith, law.failed_first x inside);
    held_unended = (hold_keeps l seat live).held_unended;
    one_unended = law.one_unended;
  }

  end_keeps : (l : Life) → MayCome q (End l) → PlainLaw slots (changed (End l) q)
  end_keeps l may = let none_ = may.2 in record {
    born_once = law.born_once;
    born_first = law.born_first;
    failed_first = λ x inside. ⊎_elim (λ e. let a = ap q.fails e in let b = ap q.ends e in let c = may.0 in let d = may.1 in omega (arith, same_le l x)) (λ z. omega (arith, law.failed_first x inside)) (one_or_none l x);
    held_unended = λ x seat inside some_. let g = law.held_unended x seat inside some_ in let g₁ = g.1 in ⊎_elim (λ e. let a = ap (q.holds seat) e in absurd (omega (arith, none_ seat))) (λ z. (g.0, omega arith)) (one_or_none l x);
    one_unended = λ i g h inside a b. let a₁ = a.1 in let b₁ = b.1 in law.one_unended i g h inside (a.0, omega arith) (b.0, omega arith);
  }

  changed_keeps : (event : Event) → MayCome q event → PlainLaw slots (changed event q)
  changed_keeps Nothing may = law
  changed_keeps (Birth l) may = birth_keeps l may
  changed_keeps (Hold l seat) may = hold_keeps l seat may
  changed_keeps (Drop l seat) may = drop_keeps l seat
  changed_keeps (Fail l seat) may = fail_keeps l seat may
  changed_keeps (End l) may = end_keeps l may

  -- each event keeps the plain laws
  pub event_keeps : (event : Event) (after : Plain) → Becomes q event after → PlainLaw slots after
  event_keeps event after b = subst (PlainLaw slots) (sym b.1) (changed_keeps event b.0)

  -- a slot is given again only where nobody holds a life that it had
  pub given_unheld : (l : Life) → l.slot < slots → MayCome q (Birth l) → (h : ℕ) → IsUnheld q (life_at l.slot h)
  given_unheld l inside may h seat = dite (ℕ_discrete (q.holds seat (life_at l.slot h)) 0) (λ z. z)
      (λ n. let g = law.held_unended (life_at l.slot h) seat inside (omega arith) in let g₁ = g.1 in absurd (omega (arith, may.1 h g.0)))

  -- and a life that has ended is held by nobody
  pub ended_unheld : (l : Life) → l.slot < slots → 0 < q.ends l → IsUnheld q l
  ended_unheld l inside ended seat = dite (ℕ_discrete (q.holds seat l) 0) (λ z. z) (λ n. let g = law.held_unended l seat inside (omega arith) in let g₁ = g.1 in absurd (omega arith))

-- what became of a life stands
pub record Stands (before after : Plain) : Type 0 where
  pub births : (l : Life) → before.births l ≤ after.births l
  pub fails : (l : Life) → before.fails l ≤ after.fails l
  pub ends : (l : Life) → before.ends l ≤ after.ends l

changed_stands : (q : Plain) (event : Event) → Stands q (changed event q)
changed_stands q Nothing = record { births = λ l. omega arith; fails = λ l. omega arith; ends = λ l. omega arith }
changed_stands q _ = record { births = λ l. omega arith; fails = λ l. omega arith; ends = λ l. omega arith }

pub event_stands : (q : Plain) (event : Event) (after : Plain) → Becomes q event after → Stands q after
event_stands q event after b = subst (Stands q) (sym b.1) (changed_stands q event)

-- the same of any number of events
pub events_keep : (slots : ℕ) (q : Plain) (events : List Event) (after : Plain) → PlainLaw slots q → Leads q events after → PlainLaw slots after
events_keep slots q [] after law leads = subst (PlainLaw slots) (sym leads) law
events_keep slots q (event ∷ events) after law leads = events_keep slots leads.0 events after (event_keeps slots q law event leads.0 leads.1) leads.2

pub events_stand : (q : Plain) (events : List Event) (after : Plain) → Leads q events after → Stands q after
events_stand q [] after leads = subst (Stands q) (sym leads) (changed_stands q Nothing)
events_stand q (event ∷ events) after leads = let a = event_stands q event leads.0 leads.1 in let b = events_stand leads.0 events after leads.2 in
    record { births = λ l. omega (arith, a.births l, b.births l); fails = λ l. omega (arith, a.fails l, b.fails l); ends = λ l. omega (arith, a.ends l, b.ends l) }
