-- What the rule says of lives and of who holds them: the plain laws, and when each event may come.
use Rattle.std.proofs.Common.{◌≡◌, ℕ, zero, suc, ◌+◌, ◌-◌, ◌%◌, ◌<◌, ◌≤◌, List, [], ◌∷◌, map, get_or, refl, ◌∙◌, arith}
use Rattle.std.proofs.lemmas.Bool.Decides.{nat_tests}
use mathlib.Core.Logic.{dite}
use native.Mathlib.Decide.{ℕ_discrete, dec_le}
use Rattle.atomic_table.specs.Table.{State}
use Rattle.sock_words.specs.declared.plain.Plan.{Plan}
use Rattle.sock_model.specs.declared.marks.Mark.{Mark}
use Rattle.sock_model.specs.declared.home.Home.{Home}
use Rattle.sock_model.specs.declared.view.View.{View}
use Rattle.sock_model.specs.MarkWeights.{life, is_busy, is_ref, is_hold, is_born, is_failer, is_freer}
use Rattle.sock_model.specs.Marks.{about}
use Rattle.sock_model.specs.SocketSlotLaw.{SlotFacts, live, count}
use Rattle.sock_model.specs.References.{slot_facts, References}
use Rattle.sock_model.specs.SlotRows.{marks_of}
use Rattle.sock_model.specs.LawfulSockets.{Lawful}
use Rattle.sock_model.specs.PlainReferences.{Life, life_at, Plain, IsUnheld, IsUnended, PlainLaw, plain}
use Rattle.slot_steps.proofs.SlotWeightSums.{total_mono}
use Rattle.slot_steps.proofs.ReferenceStepsKeepSlot.{hold_ref}
use Rattle.slot_steps.proofs.RuleNumbers.{life-in, life_is, life_le, life-high, live_le, live_is}
use Rattle.sock_words.specs.Totals.{total}

total_map : {A B : Type 0} (f : A → B) (g : B → ℕ) (l : List A) → total (λ a. g (f a)) l ≡ total g (map f l)
total_map f g [] = omega arith
total_map f g (x ∷ xs) = omega (arith, total_map f g xs)

life-later : (a h b c : ℕ) → b ≤ c → life a h b ≤ life a h c
unfolding life
life-later a h b c p = grind (arith, nat_tests)

-- a member of a list of numbers is no more than their sum
index_le : (l : List ℕ) (i : ℕ) → get_or l i 0 ≤ total (λ n. n) l
index_le [] i = omega arith
index_le (x ∷ xs) zero = omega arith
index_le (x ∷ xs) (suc i) = let a = index_le xs i in let b : get_or (x ∷ xs) (suc i) 0 ≡ get_or xs i 0 = refl in omega arith

-- what is counted over all seats is what the law of the slot counts
pub counted : {S : Type 0} (s : State S View) (f : Mark → ℕ) (j : ℕ) → total (marks_of f j) s.views ≡ count f (slot_facts s j)
counted s f j = total_map (λ (v : View). about j v.marks) (total f) s.views

pub holds_le : {S : Type 0} (s : State S View) (seat : ℕ) (l : Life) → (plain s.views).holds seat l ≤ count (is_hold l.version) (slot_facts s l.slot)
holds_le s seat l = let g : View → ℕ = marks_of (is_hold l.version) l.slot in omega (arith, index_le (map g s.views) seat, total_map g (λ n. n) s.views, counted s (is_hold l.version) l.slot)

module _ {S : Type 0} (p : Plan) (s : State S View) (law : References p s) (i : ℕ) (inside : i < p.slots) where
  abbrev L : SlotFacts
  L = slot_facts s i

  abbrev q : Plain
  q = plain s.views

  lives_le : live L ≤ 1
  lives_le = live_le L.tag L.version (count is_busy L)

  lives_even : 0 < live L → L.version % 2 ≡ 0
  lives_even h = (live_is L.tag L.version (count is_busy L) h).1

  -- which lives of the slot were born, failed and ended, by its words
  pub births_are : (h : ℕ) → q.births (life_at i h) ≡ life p.first h (L.version + live L)
  births_are h = counted s (is_born h) i ∙ (law.slots i inside).born h

  pub fails_are : (h : ℕ) → q.fails (life_at i h) ≡ life p.first h L.version
  fails_are h = counted s (is_failer h) i ∙ (law.slots i inside).failed h

  pub ends_are : (h : ℕ) → q.ends (life_at i h) ≡ life p.first h (L.version - 1)
  ends_are h = counted s (is_freer h) i ∙ (law.slots i inside).ended h

  -- the version of a life that is born and has not ended: the slot's own while it is live, else the one below
  unended_is : (h : ℕ) → IsUnended q (life_at i h) → (h + 1 ≡ L.version + live L) × (h % 2 ≡ 0)
  unended_is h g = let le = lives_le in let b = life_is p.first h (L.version + live L) (let a = g.0 in omega (arith, births_are h)) in let b₀ = b.0 in let b₁ = b.1 in let b₂ = b.2 in
      let late : L.version ≤ h + 1 = dite (dec_le L.version (h + 1)) (λ y. y) (λ n. let z = g.1 in absurd (omega (arith, ends_are h, life-in p.first h (L.version - 1) b₀ (omega arith) b₂))) in
      (dite (ℕ_discrete (live L) 0) (λ z. omega arith) (λ n. let e = lives_even (omega arith) in omega arith), b₂)

  -- a life that is held has not ended
  pub held_lives : p.first % 2 ≡ 0 → (h seat : ℕ) → 0 < q.holds seat (life_at i h) → IsUnended q (life_at i h)
  held_lives even h seat some_ = let t = (law.slots i inside).held h (omega (arith, holds_le s seat (life_at i h))) in let t₀ = t.0 in let t₁ = t.1 in let le = lives_le in let begun = (law.slots i inside).begun in (
    omega (arith, births_are h, life-in p.first h (L.version + live L) (dite (ℕ_discrete (live L) 0) (λ z. omega arith) (λ n. omega arith)) (omega arith) t₁),
    ends_are h ∙ life-high p.first h (L.version - 1) (omega arith),
  )

  -- nobody holds a life of a slot without references
  pub unheld : L.nref ≡ live L → (h : ℕ) → IsUnheld q (life_at i h)
  unheld none_ h seat = omega (arith, holds_le s seat (life_at i h), (law.slots i inside).counted, total_mono (total (is_hold h)) (total is_ref) (λ m. total_mono (is_hold h) is_ref (hold_ref h) m) L.marks)

-- the plain laws follow from the rule
pub plain_law : {S : Type 0} (shows : S → Home) (p : Plan) (s : State S View) → Lawful shows p s → PlainLaw p.slots (plain s.views)
plain_law shows p s o = let law = o.references in let even = o.fits.even in record {
  born_once = λ l inside. omega (arith, births_are p s law l.slot inside l.version, life_le p.first l.version ((slot_facts s l.slot).version + live (slot_facts s l.slot)));
  born_first = λ l inside. let v : ℕ = (slot_facts s l.slot).version in let n : ℕ = live (slot_facts s l.slot) in
      omega (arith, births_are p s law l.slot inside l.version, fails_are p s law l.slot inside l.version, life-later p.first l.version v (v + n) (omega arith));
  failed_first = λ l inside. let v : ℕ = (slot_facts s l.slot).version in
      omega (arith, fails_are p s law l.slot inside l.version, ends_are p s law l.slot inside l.version, life-later p.first l.version (v - 1) v (omega arith));
  held_unended = λ l seat inside some_. held_lives p s law l.slot inside even l.version seat some_;
  one_unended = λ i g h inside a b. let x = (unended_is p s law i inside g a).0 in let y = (unended_is p s law i inside h b).0 in omega arith;
}
