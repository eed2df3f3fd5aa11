-- The rows of steps as marks that come and go.
use Rattle.std.proofs.Common.{◌≡◌, ◌≢◌, ℕ, ◌+◌, ◌-◌, ◌%◌, ◌<◌, Bool, true, false, cond, not, eqb, List, [], ◌∷◌, ◌++◌, eq-eqb, ne_eqb, lt-ltb, le-ltb, refl, sym, ap, ◌∙◌, subst, arith}
use Rattle.sock_model.specs.declared.marks.Mark.{Mark}
use Rattle.sock_model.specs.declared.marks.Mark.TheVariants.{Recycling, Hold, Probe, Zero, Coding, Saw, Failer, Freer, Stored, Told, Met}
use Rattle.sock_model.specs.declared.view.View.{View}
use Rattle.sock_model.specs.declared.view.Hand.{Hand}
use Rattle.sock_model.specs.MarkWeights.{is_probe, is_hold, is_zero, is_recycling, is_recycled, is_coding}
use Rattle.sock_model.specs.Marks.{about, at, without, without_at}
use Rattle.sock_model.specs.SlotRows.{marks_of, added, back, subbed, failed, recycled, freed, looked, coded, met_link}
use Rattle.sock_model.specs.ChainRows.{with_hand, without_hand}
use Rattle.chain_core.specs.slot_steps.proofs.SlotWeightSums.{total-append, total_mono, taken, taken_as, about-here, about-other}
use Rattle.chain_core.specs.slot_steps.proofs.ReferenceStepsKeepSlot.{hold_is, probe_is, zero_is, any_recycled, recycled_le}
use Rattle.chain_core.specs.slot_steps.proofs.RuleNumbers.{only_is, only-else}
use Rattle.std.specs.List.{filter}
use mathlib.Core.Logic.{dite}
use native.Mathlib.Decide.{ℕ_discrete}
use Rattle.chain_core.specs.slot_steps.proofs.OtherSlotsUntouched.{about-without, about-without_else}
use Rattle.sock_rule.specs.MarksComeAndGo.{Became, Goes, probe_goes, hold_goes}
use Rattle.sock_words.specs.PackedWords.{vref_version, vref_nref}
use Rattle.sock_words.specs.Totals.{total}

module _ (i : ℕ) where
  pub stays : (v : View) → Became i v v [] []
  stays v = record { here = λ f. refl; elsewhere = λ j ne. refl; others = refl }

  pub adds_mark : (m : Mark) (v : View) → Became i v (record v { marks = at i m ∷ v.marks }) (m ∷ []) []
  adds_mark m v = record { here = λ f. (let a = ap (total f) (about-here i m v.marks) in omega arith); elsewhere = λ j ne. about-other j i m v.marks ne; others = refl }

  pub drops_mark : (g : Mark → ℕ) (m : Mark) (v : View) → ((x : Mark) → 0 < g x → x ≡ m) → 0 < marks_of g i v → Became i v (record v { marks = without_at i g v.marks }) [] (m ∷ [])
  drops_mark g m v one there = record { here = λ f. (let a = ap (total f) (about-without i g v.marks) in let b = taken_as g m (about i v.marks) one there f in omega arith); elsewhere = λ j ne. about-without_else j i g v.marks ne; others = refl }

  pub then_ : {v w x : View} {a b d e : List Mark} → Became i v w a d → Became i w x b e → Became i v x (a ++ b) (d ++ e)
  then_ {v} {w} {x} {a} {b} {d} {e} p q = record {
    here = λ f. omega (arith, p.here f, q.here f, total-append f a b, total-append f d e);
    elsewhere = λ j ne. q.elsewhere j ne ∙ p.elsewhere j ne;
    others = q.others ∙ ap (λ (y : View). record y { marks = x.marks }) p.others;
  }

  -- the lists may be any that count the same
  pub counts_as : {v w : View} {a b d e : List Mark} → ((f : Mark → ℕ) → total f a + total f e ≡ total f b + total f d) → Became i v w a d → Became i v w b e
  counts_as {v} {w} {a} {b} {d} {e} same p = record { here = λ f. omega (arith, p.here f, same f); elsewhere = p.elsewhere; others = p.others }

  pub becomes : {v w x : View} {a d : List Mark} → x ≡ w → Became i v w a d → Became i v x a d
  becomes {v} {w} {x} {a} {d} e p = subst (λ (y : View). Became i v y a d) (sym e) p

  -- A3
  pub added_marks : (found : ℕ) (is_life : Bool) (v : View) → Became i v (added i found is_life v) (Saw (vref_version found) ∷ cond is_life (Hold (vref_version found)) Probe ∷ []) []
  added_marks found is_life v = let w : View = record v { marks = at i (Saw (vref_version found)) ∷ v.marks } in then_ (adds_mark (Saw (vref_version found)) v) (adds_mark (cond is_life (Hold (vref_version found)) Probe) w)

  -- A8
  pub looked_marks : (found : ℕ) (v : View) → Became i v (looked i found v) (Saw (vref_version found) ∷ []) []
  looked_marks found v = adds_mark (Saw (vref_version found)) v

  -- A4
  -- whoever took nref to 0 at an odd version has its exchange left
  abbrev pub zero_left : ℕ → List Mark
  zero_left found = cond (eqb (vref_version found % 2) 1) (cond (eqb (vref_nref found) 1) (Zero (vref_version found) ∷ []) []) []

  subbed_by : (found : ℕ) (g : Mark → ℕ) (m : Mark) (v : View) → ((x : Mark) → 0 < g x → x ≡ m) → 0 < marks_of g i v → Became i v (subbed i found g v) (zero_left found) (m ∷ [])
  subbed_by found g m v one there = by_cases (eqb (vref_version found % 2) 1) (eqb (vref_nref found) 1)
    where
      r : View
      r = record v { marks = without_at i g v.marks }

      by_cases : (b d : Bool) → Became i v (record v { marks = cond b (cond d (at i (Zero (vref_version found)) ∷ without_at i g v.marks) (without_at i g v.marks)) (without_at i g v.marks) }) (cond b (cond d (Zero (vref_version found) ∷ []) []) []) (m ∷ [])
      by_cases true true = then_ (drops_mark g m v one there) (adds_mark (Zero (vref_version found)) record v { marks = without_at i g v.marks })
      by_cases true false = drops_mark g m v one there
      by_cases false d = drops_mark g m v one there

  pub subbed_marks : (found : ℕ) (v : View) (m : Mark) → Goes i v m → ((h : ℕ) → 0 < marks_of (is_hold h) i v → h ≡ vref_version found - vref_version found % 2) → Became i v (subbed i found (back i found v) v) (zero_left found) (m ∷ [])
  subbed_marks found v _ (probe_goes there) held = subst (λ (g : Mark → ℕ). Became i v (subbed i found g v) (zero_left found) (Probe ∷ [])) (sym (ap (λ b. cond b is_probe (is_hold (vref_version found - vref_version found % 2))) (lt-ltb 0 (marks_of is_probe i v) there)))
      (subbed_by found is_probe Probe v probe_is there)
  subbed_marks found v _ (hold_goes h none_ there) held = let e : back i found v ≡ is_hold h = ap (λ b. cond b is_probe (is_hold (vref_version found - vref_version found % 2))) (le-ltb 0 (marks_of is_probe i v) (omega arith)) ∙ ap is_hold (sym (held h there)) in
      subst (λ (g : Mark → ℕ). Became i v (subbed i found g v) (zero_left found) (Hold h ∷ [])) (sym e) (subbed_by found (is_hold h) (Hold h) v (hold_is h) there)

  -- A6
  pub lost_marks : (from found : ℕ) (w : View) → found ≢ from → 0 < marks_of (is_zero (vref_version from)) i w → Became i w (recycled i from found w) [] (Zero (vref_version from) ∷ [])
  lost_marks from found w ne there = let x : ℕ = vref_version from in becomes (ap (λ b. record w { marks = cond b (at i (Recycling (x + 1)) ∷ at i (Freer (x - 1)) ∷ without_at i (is_zero x) w.marks) (without_at i (is_zero x) w.marks) }) (ne_eqb found from ne))
      (drops_mark (is_zero x) (Zero x) w (zero_is x) there)

  pub won_marks : (from found : ℕ) (w : View) → found ≡ from → 0 < marks_of (is_zero (vref_version from)) i w → Became i w (recycled i from found w) (Freer (vref_version from - 1) ∷ Recycling (vref_version from + 1) ∷ []) (Zero (vref_version from) ∷ [])
  won_marks from found w hit there = let x : ℕ = vref_version from in becomes (ap (λ b. record w { marks = cond b (at i (Recycling (x + 1)) ∷ at i (Freer (x - 1)) ∷ without_at i (is_zero x) w.marks) (without_at i (is_zero x) w.marks) }) (eq-eqb found from hit))
      (then_ (then_ (drops_mark (is_zero x) (Zero x) w (zero_is x) there) (adds_mark (Freer (x - 1)) record w { marks = without_at i (is_zero x) w.marks })) (adds_mark (Recycling (x + 1)) record w { marks = at i (Freer (x - 1)) ∷ without_at i (is_zero x) w.marks }))

  -- A5
  pub failed_marks : (found : ℕ) (v : View) → vref_version found % 2 ≡ 0 → Became i v (failed i found v) (Saw (vref_version found + 1) ∷ Failer (vref_version found) ∷ Coding (vref_version found) ∷ Hold (vref_version found) ∷ []) []
  failed_marks found v even = let w : ℕ = vref_version found in
      becomes (ap (λ b. record v { marks = cond b (at i (Hold w) ∷ at i (Coding w) ∷ at i (Failer w) ∷ at i (Saw (w + 1)) ∷ v.marks) (at i (Saw w) ∷ v.marks) }) (eq-eqb (w % 2) 0 even))
      (then_ (then_ (then_ (adds_mark (Saw (w + 1)) v) (adds_mark (Failer w) record v { marks = at i (Saw (w + 1)) ∷ v.marks })) (adds_mark (Coding w) record v { marks = at i (Failer w) ∷ at i (Saw (w + 1)) ∷ v.marks })) (adds_mark (Hold w) record v { marks = at i (Coding w) ∷ at i (Failer w) ∷ at i (Saw (w + 1)) ∷ v.marks }))

  pub failed_again : (found : ℕ) (v : View) → vref_version found % 2 ≢ 0 → Became i v (failed i found v) (Saw (vref_version found) ∷ []) []
  failed_again found v odd = let w : ℕ = vref_version found in
      becomes (ap (λ b. record v { marks = cond b (at i (Hold w) ∷ at i (Coding w) ∷ at i (Failer w) ∷ at i (Saw (w + 1)) ∷ v.marks) (at i (Saw w) ∷ v.marks) }) (ne_eqb (w % 2) 0 odd)) (adds_mark (Saw w) v)

  -- S4 of a code
  pub coded_marks : (h c : ℕ) (v : View) → 0 < marks_of (is_coding h) i v → Became i v (coded i h c v) (Told h c ∷ Stored h c ∷ []) (Coding h ∷ [])
  coded_marks h c v there = then_ (then_ (drops_mark (is_coding h) (Coding h) v coding_one there) (adds_mark (Told h c) record v { marks = without_at i (is_coding h) v.marks })) (adds_mark (Stored h c) record v { marks = at i (Told h c) ∷ without_at i (is_coding h) v.marks })
    where
      coding_one : (x : Mark) → 0 < is_coding h x → x ≡ Coding h
      coding_one (Coding k) q = ap (λ (z : ℕ). Coding z) (only_is h k q)
      coding_one _ q = absurd (omega arith)

  -- S2
  pub met_marks : (h k : ℕ) (v : View) → Became i v (met_link i h k v) (Met h k ∷ []) []
  met_marks h k v = adds_mark (Met h k) v

  -- A7, of a seat that recycled the slot once
  pub freed_marks : (w : ℕ) (v : View) → marks_of is_recycling i v ≡ 1 → 0 < marks_of (is_recycled w) i v → Became i v (freed i v) [] (Recycling w ∷ [])
  freed_marks w v one there = let m : List Mark = about i v.marks in let t = taken is_recycling m (omega arith) in let y = any_recycled t.0 t.1 in
      let same : t.0 ≡ Recycling w = dite (ℕ_discrete y.0 w) (λ e. y.1 ∙ ap (λ (z : ℕ). Recycling z) e) (λ ne.
      let a = t.2 (is_recycled w) in let b = ap (is_recycled w) y.1 in let c = only-else w y.0 ne in let d = t.2 is_recycling in let e = ap is_recycling y.1 in
      let le = total_mono (is_recycled w) is_recycling (recycled_le w) (without is_recycling m) in absurd (omega arith)) in
      record {
        here = λ f. (let a = ap (total f) (about-without i is_recycling v.marks) in let b = t.2 f in let c = ap f same in omega arith);
        elsewhere = λ j ne. about-without_else j i is_recycling v.marks ne;
        others = refl;
      }

-- a link that came into an empty hand and went home again
pub back_again : (v : View) (h : Hand) → v.hands ≡ [] → without_hand (with_hand v h) h.link ≡ v
back_again v h empty = ap (λ (l : List Hand). record v { hands = l }) (ap (λ b. cond b (h ∷ filter (λ (x : Hand). not (eqb x.link h.link)) v.hands) (filter (λ (x : Hand). not (eqb x.link h.link)) v.hands)) (ap not (eq-eqb h.link h.link refl)) ∙ (ap (filter (λ (x : Hand). not (eqb x.link h.link))) empty ∙ sym empty))
