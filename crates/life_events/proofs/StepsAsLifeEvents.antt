-- Each step of a seat is one event of the plain model, or none.
use Rattle.std.proofs.Common.{◌≡◌, ℕ, ◌+◌, ◌-◌, ◌%◌, ◌<◌, ◌≤◌, Bool, true, false, List, [], ◌∷◌, set, get_or, refl, sym, ap, ◌∙◌, subst, ⊎_elim, arith, cond, eqb, eq-eqb, ne_eqb, nat_lt, lt-ltb, le-ltb}
use mathlib.Core.Logic.{dite}
use mathlib.Core.Option.{some}
use native.Mathlib.Decide.{ℕ_discrete, dec_le}
use lib.ListN.{get_elem?}
use Rattle.atomic_table.specs.Table.{State, keeps}
use Rattle.sock_words.specs.declared.plain.Plan.{Plan}
use Rattle.sock_model.specs.declared.marks.Mark.{Mark}
use Rattle.sock_model.specs.declared.marks.Mark.TheVariants as mark
use Rattle.sock_model.specs.declared.marks.SlotMark.{SlotMark}
use Rattle.sock_model.specs.declared.home.Home.{Home}
use Rattle.sock_model.specs.declared.view.View.{View}
use Rattle.sock_model.specs.MarkWeights.{is_busy, is_ref, is_probe, is_hold, is_known, is_zero, is_stage, is_coding, is_recycling}
use Rattle.sock_model.specs.Marks.{about, at, without_at}
use Rattle.sock_model.specs.SocketTableLayout.{ref_index}
use Rattle.sock_model.specs.SocketSlotLaw.{SlotFacts, live, count}
use Rattle.sock_model.specs.References.{slot_facts}
use Rattle.sock_model.specs.SlotRows.{marks_of, claimed, gave_birth, added, back, subbed, failed, recycled, freed, coded}
use Rattle.sock_model.specs.LawfulSockets.{Lawful}
use Rattle.sock_model.specs.PlainReferences.{life_at, Plain, Event, Nothing, Birth, Hold, Drop, Fail, End, Becomes, once_more, plain}
use Rattle.slot_steps.proofs.SlotWeightSums.{taken, total_mono}
use Rattle.slot_steps.proofs.ReferenceStepsKeepSlot.{stage_is, zero_is, probe_is, any_recycled, ref_cases}
use Rattle.slot_steps.proofs.RuleNumbers.{life-in, life_is, life-high, live-busy, live-odd, pair_le}
use Rattle.slot_steps.proofs.KeptByTagSteps.{life_found, conds}
use Rattle.slot_steps.proofs.CodeStepsKeepLaw.{coding_as}
use Rattle.sock_steps.proofs.SumsAsMarksChange.{either_way}
use Rattle.sock_steps.proofs.LifeLinkSlotPlaces.{own_count}
use Rattle.life_events.proofs.Grown.{Grown, Same, is_read, no_life, same_marks, silent_more, silent_less, born_more, failer_more, freer_more, hold_more, silent_before, hold_less}
use Rattle.life_events.proofs.ReadingsOfViews.{own_holds, nothing_read, birth_read, hold_read, drop_read, fail_read, end_read}
use Rattle.life_events.proofs.LifeLaws.{births_are, fails_are, ends_are, unheld}
use Rattle.sock_words.specs.PackedWords.{vref_version, vref_nref}

stage_busy : (n k : ℕ) (x : Mark) → is_stage n k x ≤ is_busy x
stage_busy n k (mark.Claimed a b) = pair_le n k a b
stage_busy n k _ = omega arith

module _ {S : Type 0} (shows : S → Home) (p : Plan) (s : State S View) (o : Lawful shows p s) (id : ℕ) (v : View) (here : get_elem? s.views id ≡ some v) where
  abbrev q : Plain
  q = plain s.views

  abbrev To : Event → View → Type 0
  To e w = Becomes (plain s.views) e (plain (set s.views id w))

  -- a step that leaves what the plain model reads
  pub nothing : (w : View) → Same v.marks w.marks → To Nothing w
  nothing w g = (tt, nothing_read s.views id v w here g)

  -- ## Steps that are no event

  -- on the chains, on names, and of links: they leave the marks
  pub marks_event : (w : View) → w.marks ≡ v.marks → To Nothing w
  marks_event w e = nothing w (subst (λ (es : List SlotMark). Same v.marks es) (sym e) (same_marks v.marks))

  pub claim_event : (i found : ℕ) → To Nothing (claimed i found v)
  claim_event i found = nothing (claimed i found v) (silent_more v.marks v.marks (same_marks v.marks) i (cond (eqb found 0) (mark.Claimed 0 0) mark.Tried) (either_way (eqb found 0) (mark.Claimed 0 0) mark.Tried (λ m. is_read m ≡ 0) refl refl))

  pub free_event : (i : ℕ) → To Nothing (freed i v)
  free_event i = nothing (freed i v) (silent_less v.marks v.marks (same_marks v.marks) i is_recycling (λ x y. let r = any_recycled x y in ap is_read r.1))

  -- a claim that goes on, whatever becomes of the passes
  pub stage_event : (i a k b l : ℕ) (passes : List ℕ) → To Nothing (record v { marks = at i (mark.Claimed b l) ∷ without_at i (is_stage a k) v.marks; passes = passes })
  stage_event i a k b l passes = let rest : List SlotMark = without_at i (is_stage a k) v.marks in nothing (record v { marks = at i (mark.Claimed b l) ∷ without_at i (is_stage a k) v.marks; passes = passes })
      (silent_more v.marks rest (silent_less v.marks v.marks (same_marks v.marks) i (is_stage a k) (λ x y. ap is_read (stage_is a k x y))) i (mark.Claimed b l) refl)

  pub code_event : (i h c : ℕ) → To Nothing (coded i h c v)
  code_event i h c = let rest : List SlotMark = without_at i (is_coding h) v.marks in nothing (coded i h c v)
      (silent_more v.marks (at i (mark.Told h c) ∷ rest) (silent_more v.marks rest (silent_less v.marks v.marks (same_marks v.marks) i (is_coding h) (λ x y. ap is_read (coding_as h x y))) i (mark.Told h c) refl) i (mark.Stored h c) refl)

  -- ## Steps on the word of slot i

  module _ (i : ℕ) (inside : i < p.slots) where
    abbrev L : SlotFacts
    L = slot_facts s i

    abbrev found : ℕ
    found = get_or s.words (ref_index i) 0

    fits : found < 18446744073709551616
    fits = let t = (o.references.slots i inside).top in omega arith

    mine : (f : Mark → ℕ) → marks_of f i v ≤ count f L
    mine f = own_count s id v here f i

    -- a claimed slot's life
    pub birth_event : (k : ℕ) → 0 < marks_of (is_stage 3 k) i v → To (Birth (life_at i (vref_version found))) (gave_birth i found k v)
    birth_event k there = let h : ℕ = vref_version found in let law = o.references.slots i inside in let rest : List SlotMark = without_at i (is_stage 3 k) v.marks in
        let busy : 0 < count is_busy L = omega (arith, mine is_busy, total_mono (is_stage 3 k) is_busy (stage_busy 3 k) (about i v.marks)) in
        let dead : live L ≡ 0 = live-busy L.tag L.version (count is_busy L) busy in let even = law.busy_even busy in
        let b = births_are p s o.references i inside in let e = ends_are p s o.references i inside in (
          (
            omega (arith, b h, life-high p.first h (L.version + live L) (omega arith)),
            λ g some_. let t = life_is p.first g (L.version + live L) (omega (arith, b g)) in let t₁ = t.1 in let t₂ = t.2 in omega (arith, e g, life-in p.first g (L.version - 1) t.0 (omega arith) t.2),
          ),
          birth_read s.views id v (gave_birth i found k v) here (life_at i h)
              (silent_more v.marks (at i (mark.Born h) ∷ at i (mark.Linked h k) ∷ rest) (born_more v.marks (at i (mark.Linked h k) ∷ rest)
              (silent_more v.marks rest (silent_less v.marks v.marks (same_marks v.marks) i (is_stage 3 k) (λ x y. ap is_read (stage_is 3 k x y))) i (mark.Linked h k) refl) i h) i (mark.Known h) refl),
        )

    -- a reference for the life h, which the seat knows
    pub add_event : (h : ℕ) (is_life : Bool) → (is_life ≡ true → vref_version found ≡ h) → 0 < marks_of (is_known h) i v → To (cond is_life (Hold (life_at i h) id) Nothing) (added i found is_life v)
    add_event h true is known = let w : ℕ = vref_version found in let law = o.references.slots i inside in let same = is refl in (
      (
        omega (arith, births_are p s o.references i inside h, law.known h (omega (arith, mine (is_known h)))),
        fails_are p s o.references i inside h ∙ life-high p.first h L.version (omega arith),
      ),
      hold_read s.views id v (added i found true v) here (life_at i h)
          (subst (λ y. Grown v.marks (added i found true v).marks no_life no_life no_life (once_more (life_at i y) no_life)) same
          (hold_more v.marks (at i (mark.Saw w) ∷ v.marks) (silent_more v.marks v.marks (same_marks v.marks) i (mark.Saw w) refl) i w)),
    )
    add_event h false is known = let w : ℕ = vref_version found in nothing (added i found false v)
        (silent_more v.marks (at i (mark.Saw w) ∷ v.marks) (silent_more v.marks v.marks (same_marks v.marks) i (mark.Saw w) refl) i mark.Probe refl)

    -- a reference that is taken back: a 1 that is none to a life, or one to the life that is held
    pub sub_event : 0 < marks_of is_ref i v → To (cond (nat_lt 0 (marks_of is_probe i v)) Nothing (Drop (life_at i (vref_version found - vref_version found % 2)) id)) (subbed i found (back i found v) v)
    sub_event there = let x : ℕ = vref_version found in let h : ℕ = x - x % 2 in
        let P : Bool → Type 0 = λ b. To (cond b Nothing (Drop (life_at i h) id)) (subbed i found (cond b is_probe (is_hold h)) v) in
        dite (dec_le (marks_of is_probe i v) 0)
        (λ none_. subst P (sym (le-ltb 0 (marks_of is_probe i v) none_)) (drops (held none_)))
        (λ some_. subst P (sym (lt-ltb 0 (marks_of is_probe i v) (omega arith))) backs)
      where
        held : marks_of is_probe i v ≤ 0 → 0 < marks_of (is_hold (vref_version found - vref_version found % 2)) i v
        held none_ = let t = taken is_ref (about i v.marks) there in ⊎_elim (λ y. absurd (omega (arith, t.2 is_probe)))
            (λ y. let g : ℕ = y.0 in let mine_g : 0 < marks_of (is_hold g) i v = omega (arith, y.1, t.2 (is_hold g)) in
            subst (λ (z : ℕ). 0 < marks_of (is_hold z) i v) (life_found p s o.references id v here [] keeps i inside fits g mine_g) mine_g) (ref_cases t.0 t.1)

        drops : 0 < marks_of (is_hold (vref_version found - vref_version found % 2)) i v → To (Drop (life_at i (vref_version found - vref_version found % 2)) id) (subbed i found (is_hold (vref_version found - vref_version found % 2)) v)
        drops there_h = let x : ℕ = vref_version found in let h : ℕ = x - x % 2 in let rest : List SlotMark = without_at i (is_hold h) v.marks in let g = hold_less i h v.marks there_h in (
          omega (arith, own_holds s.views id v here (life_at i h)),
          drop_read s.views id v (subbed i found (is_hold h) v) here (life_at i h)
              (conds (eqb (x % 2) 1) (eqb (vref_nref found) 1) (at i (mark.Zero x) ∷ rest) rest (λ es. Grown es v.marks no_life no_life no_life (once_more (life_at i h) no_life))
              (silent_before rest v.marks g i (mark.Zero x) refl) g),
        )

        backs : To Nothing (subbed i found is_probe v)
        backs = let x : ℕ = vref_version found in let rest : List SlotMark = without_at i is_probe v.marks in let g = silent_less v.marks v.marks (same_marks v.marks) i is_probe (λ y z. ap is_read (probe_is y z)) in
            nothing (subbed i found is_probe v) (conds (eqb (x % 2) 1) (eqb (vref_nref found) 1) (at i (mark.Zero x) ∷ rest) rest (λ es. Same v.marks es) (silent_more v.marks rest g i (mark.Zero x) refl) g)

    -- a life that the seat holds is set failed, by the first one that tries
    pub fail_event : (h : ℕ) → 0 < marks_of (is_hold h) i v → To (cond (eqb (vref_version found % 2) 0) (Fail (life_at i (vref_version found)) id) Nothing) (failed i found v)
    fail_event h there = let w : ℕ = vref_version found in
        let yes : List SlotMark = at i (mark.Hold w) ∷ at i (mark.Coding w) ∷ at i (mark.Failer w) ∷ at i (mark.Saw (w + 1)) ∷ v.marks in let no_ : List SlotMark = at i (mark.Saw w) ∷ v.marks in
        let P : Bool → Type 0 = λ b. To (cond b (Fail (life_at i w) id) Nothing) (record v { marks = cond b yes no_ }) in
        dite (ℕ_discrete (w % 2) 0)
        (λ even. subst P (sym (eq-eqb (w % 2) 0 even)) (fails even))
        (λ odd. subst P (sym (ne_eqb (w % 2) 0 odd)) (nothing (record v { marks = no_ }) (silent_more v.marks v.marks (same_marks v.marks) i (mark.Saw w) refl)))
      where
        fails : vref_version found % 2 ≡ 0 → To (Fail (life_at i (vref_version found)) id) (record v { marks = at i (mark.Hold (vref_version found)) ∷ at i (mark.Coding (vref_version found)) ∷ at i (mark.Failer (vref_version found)) ∷ at i (mark.Saw (vref_version found + 1)) ∷ v.marks })
        fails even = let w : ℕ = vref_version found in let law = o.references.slots i inside in
            let is = life_found p s o.references id v here [] keeps i inside fits h there in let mine_w : 0 < marks_of (is_hold w) i v = subst (λ y. 0 < marks_of (is_hold y) i v) (let z : h ≡ w = omega arith in z) there in
            let t = law.held w (omega (arith, mine (is_hold w))) in let t₀ = t.0 in
            let m₁ : List SlotMark = at i (mark.Saw (w + 1)) ∷ v.marks in let m₂ : List SlotMark = at i (mark.Failer w) ∷ m₁ in let m₃ : List SlotMark = at i (mark.Coding w) ∷ m₂ in (
              (
                (
                  omega (arith, births_are p s o.references i inside w, life-in p.first w (L.version + live L) law.begun (omega arith) even),
                  fails_are p s o.references i inside w ∙ life-high p.first w L.version (omega arith),
                ),
                omega (arith, own_holds s.views id v here (life_at i w)),
              ),
              fail_read s.views id v (record v { marks = at i (mark.Hold w) ∷ m₃ }) here (life_at i w)
                  (hold_more v.marks m₃ (silent_more v.marks m₂ (failer_more v.marks m₁ (silent_more v.marks v.marks (same_marks v.marks) i (mark.Saw (w + 1)) refl) i w) i (mark.Coding w) refl) i w),
            )

    -- whoever wins the exchange ends the life
    pub recycle_event : (from : ℕ) → 0 < marks_of (is_zero (vref_version from)) i v → vref_version from % 2 ≡ 1 → vref_nref from ≡ 0 → To (cond (eqb found from) (End (life_at i (vref_version from - 1))) Nothing) (recycled i from found v)
    recycle_event from there odd none_ = let w : ℕ = vref_version from in let rest : List SlotMark = without_at i (is_zero w) v.marks in
        let yes : List SlotMark = at i (mark.Recycling (w + 1)) ∷ at i (mark.Freer (w - 1)) ∷ rest in
        let P : Bool → Type 0 = λ b. To (cond b (End (life_at i (w - 1))) Nothing) (record v { marks = cond b yes rest }) in
        let g : Same v.marks rest = silent_less v.marks v.marks (same_marks v.marks) i (is_zero w) (λ x y. ap is_read (zero_is w x y)) in
        dite (ℕ_discrete found from)
        (λ same. subst P (sym (eq-eqb found from same)) (ends same g))
        (λ miss. subst P (sym (ne_eqb found from miss)) (nothing (record v { marks = rest }) g))
      where
        ends : found ≡ from → Same v.marks (without_at i (is_zero (vref_version from)) v.marks)
            → To (End (life_at i (vref_version from - 1))) (record v { marks = at i (mark.Recycling (vref_version from + 1)) ∷ at i (mark.Freer (vref_version from - 1)) ∷ without_at i (is_zero (vref_version from)) v.marks })
        ends same g = let w : ℕ = vref_version from in let rest : List SlotMark = without_at i (is_zero w) v.marks in let law = o.references.slots i inside in
            let v_is : L.version ≡ w = ap vref_version same in let n_is : L.nref ≡ 0 = ap vref_nref same ∙ none_ in let dead : live L ≡ 0 = live-odd L.tag L.version (count is_busy L) (omega arith) in let begun = law.begun in let even = o.fits.even in (
              (
                omega (arith, fails_are p s o.references i inside (w - 1), life-in p.first (w - 1) L.version (omega arith) (omega arith) (omega arith)),
                ends_are p s o.references i inside (w - 1) ∙ life-high p.first (w - 1) (L.version - 1) (omega arith),
                unheld p s o.references i inside (omega arith) (w - 1),
              ),
              end_read s.views id v (record v { marks = at i (mark.Recycling (w + 1)) ∷ at i (mark.Freer (w - 1)) ∷ rest }) here (life_at i (w - 1))
                  (silent_more v.marks (at i (mark.Freer (w - 1)) ∷ rest) (freer_more v.marks rest g i (w - 1)) i (mark.Recycling (w + 1)) refl),
            )
