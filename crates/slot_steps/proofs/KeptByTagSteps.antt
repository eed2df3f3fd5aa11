-- Each step on a tag or a reference word keeps the rule, whatever else the table has.
use Rattle.std.proofs.Common.{◌≡◌, ℕ, ◌+◌, ◌-◌, ◌*◌, ◌%◌, ◌^◌, ◌<◌, ◌≤◌, ◌≢◌, Bool, true, false, List, ◌∷◌, length, get_or, set, sym, refl, ap, ◌∙◌, subst, ⊎_elim, arith, bit_or, cond, eqb, lt-ltb, le-ltb, eq-eqb, ne_eqb}
use mathlib.Core.Logic.{dite}
use mathlib.Core.Option.{some}
use native.Mathlib.Decide.{ℕ_discrete, dec_le}
use lib.ListN.{get_elem?}
use Rattle.std.proofs.lemmas.List.{length-map}
use Rattle.atomic_table.specs.Table.{State, Act, stepped}
use Rattle.atomic_table.proofs.Lists.{at_map}
use Rattle.sock_model.specs.declared.marks.Mark.{Mark}
use Rattle.sock_model.specs.declared.marks.Mark.TheVariants.{Claimed, Recycling, Hold, Probe, Zero, Coding, Tried, Known, Born, Saw, Failer, Freer, Linked}
use Rattle.sock_model.specs.declared.marks.SlotMark.{SlotMark}
use Rattle.sock_model.specs.declared.view.View.{View}
use Rattle.sock_model.specs.sock_words.specs.declared.plain.Plan.{Plan}
use Rattle.sock_model.specs.MarkWeights.{tally, only, is_busy, is_claimed, is_ref, is_probe, is_any_coding, is_stage, is_hold, is_known, is_born, is_zero, is_recycled, is_recycling}
use Rattle.sock_model.specs.Marks.{about, at, without, without_at, dropped}
use Rattle.sock_model.specs.SocketTableLayout.{tag_index, ref_index}
use Rattle.sock_model.specs.SocketSlotLaw.{SlotFacts, live_by, live, SlotLaw}
use Rattle.sock_model.specs.References.{OnlyMarks, uses_of, uses_link, slot_facts, References}
use Rattle.sock_model.specs.SlotRows.{back, marks_of, claimed, gave_birth, added, subbed, failed, recycled, freed, looked}
use Rattle.slot_steps.proofs.SlotWeightSums.{taken, total-set, total_mono, term_le, taken_as, total_bound, about-here, about-other}
use Rattle.slot_steps.proofs.RuleNumbers.{life_is, pair_is, or-even, or-odd, live_le, live-odd, live-busy, live-free, live-yes}
use Rattle.slot_steps.proofs.ReferenceStepsKeepSlot.{any_recycled, recycled_le, zero_is, stage_is, keeps_probe, keeps_hold, keeps_look, keeps_sub, IsRef, probe-ref, hold-ref, ref_cases, keeps_fail, keeps_recycle, keeps_free, keeps_claim, keeps_tried, keeps_birth, keeps_lost}
use Rattle.slot_steps.proofs.OtherSlotsUntouched.{about-without, about-without_else, uses-without, uses-taken, at_ref, at_tag, slot_step}
use Rattle.sock_model.specs.sock_words.specs.PackedWords.{vref_version, vref_nref}
use Rattle.sock_model.specs.sock_words.specs.Totals.{total}

-- a count leaves its half of the word to the version
pub few_refs : {S : Type 0} (p : Plan) (s : State S View) → References p s → (i : ℕ) → i < p.slots → (slot_facts s i).nref < 40000000
few_refs p s law i inside = let l : SlotFacts = slot_facts s i in let here = law.slots i inside in let a = live_le l.tag l.version (tally is_busy l.marks) in let n : ℕ = length l.marks * 65540 in
    let b : tally is_ref l.marks ≤ n = total_bound (total is_ref) 65540 l.marks here.few in let long = length-map s.views (λ (u : View). about i u.marks) in
    let c : n ≤ 512 * 65540 = omega (arith, law.seat_limit) in let d = here.counted in omega arith

pub conds : {A : Type 0} (b d : Bool) (x y : A) (P : A → Type 0) → P x → P y → P (cond b (cond d x y) y)
conds true true x y P p q = p
conds true false x y P p q = q
conds false d x y P p q = q

about-conds : (i : ℕ) (b d : Bool) (m : Mark) (es : List SlotMark) → about i (cond b (cond d (at i m ∷ es) es) es) ≡ cond b (cond d (m ∷ about i es) (about i es)) (about i es)
about-conds i true true m es = about-here i m es
about-conds i true false m es = refl
about-conds i false d m es = refl

dropped-is : (v r : ℕ) (ms : List Mark) → dropped v r ms ≡ cond (eqb (v % 2) 1) (cond (eqb r 1) (Zero v ∷ ms) ms) ms
unfolding dropped
dropped-is v r ms = refl

dropped-total : (v r : ℕ) (ms : List Mark) (f : Mark → ℕ) → f (Zero v) ≡ 0 → total f (dropped v r ms) ≡ total f ms
unfolding dropped
dropped-total v r ms f e = conds (eqb (v % 2) 1) (eqb r 1) (Zero v ∷ ms) ms (λ us. total f us ≡ total f ms) (omega arith) refl

module _ {S : Type 0} (p : Plan) (s : State S View) (law : References p s) (id : ℕ) (v : View) (here : get_elem? s.views id ≡ some v) (c : List (ℕ × S)) (a : Act S) (i : ℕ) (inside : i < p.slots) where
  abbrev L : SlotFacts
  L = slot_facts s i

  abbrev mine : List Mark
  mine = about i v.marks

  abbrev found : ℕ
  found = get_or s.words (ref_index i) 0

  abbrev tag : ℕ
  tag = get_or s.words (tag_index i) 0

  at_home : get_elem? L.marks id ≡ some mine
  at_home = at_map (λ (u : View). about i u.marks) s.views id v here

  -- the law of the slot after the step, as a fact about what its words and marks have become
  pub settled : (t l : SlotFacts) (lives : ℕ) → t ≡ l → live l ≡ lives → SlotLaw p.first lives l → SlotLaw p.first (live t) t
  settled t l lives e lv ok = subst (λ (y : SlotFacts). SlotLaw p.first (live y) y) (sym e) (subst (λ (x : ℕ). SlotLaw p.first x l) (sym lv) ok)

  busy_same : (w : List Mark) → total is_busy w ≡ total is_busy mine → tally is_busy (set L.marks id w) ≡ tally is_busy L.marks
  busy_same w e = let d = total-set (total is_busy) L.marks id mine w at_home in omega arith

  live_same : (w : List Mark) → total is_busy w ≡ total is_busy mine → live_by L.tag L.version (tally is_busy (set L.marks id w)) ≡ live L
  live_same w e = ap (live_by L.tag L.version) (busy_same w e)

  module _ (fits : found < 18446744073709551616) where
    -- the law of the slot, and what the seat's marks are, after a step on the reference word
    on_ref : (w : View) (n : ℕ) (ms : List Mark) (ver ref lives : ℕ) → ((x : ℕ) → x ≢ i → about x w.marks ≡ about x v.marks) → ((k : ℕ) → uses_of k w ≤ uses_of k v) → OnlyMarks v w
        → about i w.marks ≡ ms → ((h : ℕ) → total (is_born h) mine ≤ total (is_born h) ms) → vref_version n ≡ ver → vref_nref n ≡ ref
        → live_by L.tag ver (tally is_busy (set L.marks id ms)) ≡ lives
        → SlotLaw p.first lives record L { version = ver; nref = ref; marks = set L.marks id ms } → References p (stepped s (ref_index i) n id c w a)
    on_ref w n ms ver ref lives else_ links still is grows v_is n_is lv ok = let sized = law.sized in
        slot_step p s law id v here c w a i inside else_ links still 1 n (omega arith) (λ h. let e = ap (total (is_born h)) is in omega (arith, grows h))
        (settled _ (record L { version = ver; nref = ref; marks = set L.marks id ms }) lives
        (at_ref s id v here c w a i n (omega arith) ∙ (λ q. record L { version = v_is q; nref = n_is q; marks = set L.marks id (is q) })) lv ok)

    add_hold : 0 < marks_of (is_known (vref_version found)) i v → marks_of is_ref i v < 65540 → References p (stepped s (ref_index i) ((found + 1) % 2 ^ 64) id c (added i found true v) a)
    add_hold known room = let few = few_refs p s law i inside in let ms : List Mark = Hold L.version ∷ Saw L.version ∷ mine in
        on_ref (added i found true v) ((found + 1) % 2 ^ 64) ms L.version (L.nref + 1) (live L) (λ x ne. simp about-other) (λ k. omega arith) refl (simp about-here) (λ h. omega arith) (omega arith) (omega arith)
        (live_same ms (omega arith)) (keeps_hold p.first L (law.slots i inside) id mine at_home known room)

    add_probe : marks_of is_ref i v < 65540 → References p (stepped s (ref_index i) ((found + 1) % 2 ^ 64) id c (added i found false v) a)
    add_probe room = let few = few_refs p s law i inside in let ms : List Mark = Probe ∷ Saw L.version ∷ mine in
        on_ref (added i found false v) ((found + 1) % 2 ^ 64) ms L.version (L.nref + 1) (live L) (λ x ne. simp about-other) (λ k. omega arith) refl (simp about-here) (λ h. omega arith) (omega arith) (omega arith)
        (live_same ms (omega arith)) (keeps_probe p.first L (law.slots i inside) id mine at_home room)

    -- a reference to a life that the seat knows, or only to the word
    pub add_ref_keeps : (is_life : Bool) → (is_life ≡ true → 0 < marks_of (is_known (vref_version found)) i v) → marks_of is_ref i v < 65540
        → References p (stepped s (ref_index i) ((found + 1) % 2 ^ 64) id c (added i found is_life v) a)
    add_ref_keeps true known room = add_hold (known refl) room
    add_ref_keeps false known room = add_probe room

    sub_with : (g : Mark → ℕ) → ((x : Mark) → 0 < g x → IsRef x) → 0 < marks_of g i v → marks_of is_any_coding i v ≡ 0 → References p (stepped s (ref_index i) ((found + (2 ^ 64 - 1)) % 2 ^ 64) id c (subbed i found g v) a)
    sub_with g kind there idle = let rest : List SlotMark = without_at i g v.marks in let b : Bool = eqb (vref_version found % 2) 1 in let d : Bool = eqb (vref_nref found) 1 in
        let w : View = subbed i found g v in let ms : List Mark = dropped L.version L.nref (without g mine) in let t = taken g mine there in let k = kind t.0 t.1 in let ref : is_ref t.0 ≡ 1 = k.0 in let nil = k.1 in
        let left : (f : Mark → ℕ) → total f (without g mine) + f t.0 ≡ total f mine = t.2 in
        let still = (law.slots i inside).counted in let all = term_le (total is_ref) L.marks id mine at_home in
        let is : about i w.marks ≡ ms = about-conds i b d (Zero (vref_version found)) rest ∙ (ap (λ (u : List Mark). cond b (cond d (Zero (vref_version found) ∷ u) u) u) (about-without i g v.marks) ∙ sym (dropped-is (vref_version found) (vref_nref found) (without g mine))) in
        let some_ : 0 < L.nref = omega (arith, left is_ref) in
        on_ref w ((found + (2 ^ 64 - 1)) % 2 ^ 64) ms L.version (L.nref - 1) (live L)
        (λ x ne. conds b d (at i (Zero (vref_version found)) ∷ rest) rest (λ es. about x es ≡ about x v.marks) (about-other x i (Zero (vref_version found)) rest ne ∙ about-without_else x i g v.marks ne) (about-without_else x i g v.marks ne))
        (λ k. conds b d (at i (Zero (vref_version found)) ∷ rest) rest (λ es. total (only k) v.passes + total (uses_link k) es ≤ uses_of k v) (omega (arith, uses-without k i g v.marks)) (omega (arith, uses-without k i g v.marks)))
        refl is (λ h. omega (arith, left (is_born h), nil (is_born h) refl (λ _. refl), dropped-total (vref_version found) (vref_nref found) (without g mine) (is_born h) refl)) (omega arith) (omega arith)
        (live_same ms (omega (arith, left is_busy, nil is_busy refl (λ _. refl), dropped-total (vref_version found) (vref_nref found) (without g mine) is_busy refl)))
        (keeps_sub p.first L (law.slots i inside) id mine at_home g kind there idle)

    -- the life of each reference that the seat has is that of the word found
    pub life_found : (h : ℕ) → 0 < marks_of (is_hold h) i v → h ≡ vref_version found - vref_version found % 2
    life_found h there = let t = (law.slots i inside).held h (omega (arith, term_le (total (is_hold h)) L.marks id mine at_home)) in let t₀ = t.0 in let t₁ = t.1 in
        let le = live_le L.tag L.version (tally is_busy L.marks) in omega arith

    -- a reference is taken back
    pub sub_ref_keeps : 0 < marks_of is_ref i v → marks_of is_any_coding i v ≡ 0 → References p (stepped s (ref_index i) ((found + (2 ^ 64 - 1)) % 2 ^ 64) id c (subbed i found (back i found v) v) a)
    sub_ref_keeps there idle = let x : ℕ = vref_version found in let h : ℕ = x - x % 2 in let P : Bool → Type 0 = λ b. References p (stepped s (ref_index i) ((found + (2 ^ 64 - 1)) % 2 ^ 64) id c (subbed i found (cond b is_probe (is_hold h)) v) a) in
        dite (dec_le (marks_of is_probe i v) 0)
        (λ none_. subst P (sym (le-ltb 0 (marks_of is_probe i v) none_)) (sub_with (is_hold h) (hold-ref h)
        (let t = taken is_ref mine there in ⊎_elim (λ q. absurd (omega (arith, t.2 is_probe))) (λ q. let g : ℕ = q.0 in let mine_g : 0 < total (is_hold g) mine = omega (arith, q.1, t.2 (is_hold g)) in
        subst (λ (y : ℕ). 0 < total (is_hold y) mine) (life_found g mine_g) mine_g) (ref_cases t.0 t.1)) idle))
        (λ some_. let one : 0 < marks_of is_probe i v = omega arith in subst P (sym (lt-ltb 0 (marks_of is_probe i v) one)) (sub_with is_probe probe-ref one idle))

    pub look_keeps : References p (stepped s (ref_index i) found id c (looked i found v) a)
    look_keeps = let ms : List Mark = Saw L.version ∷ mine in
        on_ref (looked i found v) found ms L.version L.nref (live L) (λ x ne. simp about-other) (λ k. omega arith) refl (simp about-here) (λ h. omega arith) refl refl
        (live_same ms (omega arith)) (keeps_look p.first L (law.slots i inside) id mine at_home)

    -- the first to fail the life
    pub fail_keeps : (h : ℕ) → 0 < marks_of (is_hold h) i v → vref_version found % 2 ≡ 0 → marks_of is_ref i v < 65540 → (n : ℕ) → n ≡ found + 4294967296 → References p (stepped s (ref_index i) n id c (failed i found v) a)
    fail_keeps h there even room n next = let w' : View = record v { marks = at i (Hold L.version) ∷ at i (Coding L.version) ∷ at i (Failer L.version) ∷ at i (Saw (L.version + 1)) ∷ v.marks } in
        let is_w : failed i found v ≡ w' = ap (λ b. record v { marks = cond b w'.marks (at i (Saw L.version) ∷ v.marks) }) (eq-eqb (vref_version found % 2) 0 even) in
        let ms : List Mark = Hold L.version ∷ Coding L.version ∷ Failer L.version ∷ Saw (L.version + 1) ∷ mine in
        subst (λ (w : View). References p (stepped s (ref_index i) n id c w a)) (sym is_w)
        (on_ref w' n ms (L.version + 1) L.nref 0 (λ x ne. simp about-other) (λ k. omega arith) refl (simp about-here) (λ g. omega arith) (omega arith) (omega arith)
        (live-odd L.tag (L.version + 1) (tally is_busy (set L.marks id ms)) (omega arith)) (keeps_fail p.first L (law.slots i inside) id mine at_home h there even room))

    -- it was failed already
    pub fail_again_keeps : vref_version found % 2 ≡ 1 → References p (stepped s (ref_index i) found id c (failed i found v) a)
    fail_again_keeps odd = let is_w : failed i found v ≡ looked i found v = ap (λ b. record v { marks = cond b (at i (Hold L.version) ∷ at i (Coding L.version) ∷ at i (Failer L.version) ∷ at i (Saw (L.version + 1)) ∷ v.marks) (at i (Saw L.version) ∷ v.marks) }) (ne_eqb (vref_version found % 2) 0 (λ e. omega arith)) in
        subst (λ (w : View). References p (stepped s (ref_index i) found id c w a)) (sym is_w) look_keeps

    -- of a life that it holds
    pub set_odd_keeps : (h : ℕ) → 0 < marks_of (is_hold h) i v → marks_of is_ref i v < 65540 → References p (stepped s (ref_index i) (bit_or found 4294967296) id c (failed i found v) a)
    set_odd_keeps h there room = dite (ℕ_discrete (vref_version found % 2) 0) (λ even. fail_keeps h there even room (bit_or found 4294967296) (or-even found even))
        (λ n. let odd : vref_version found % 2 ≡ 1 = omega arith in subst (λ (x : ℕ). References p (stepped s (ref_index i) x id c (failed i found v) a)) (sym (or-odd found odd)) (fail_again_keeps odd))

    pub birth_keeps : (k : ℕ) → 0 < marks_of (is_stage 3 k) i v → References p (stepped s (ref_index i) ((found + 1) % 2 ^ 64) id c (gave_birth i found k v) a)
    birth_keeps k there = let few = few_refs p s law i inside in let ms : List Mark = Known L.version ∷ Born L.version ∷ Linked L.version k ∷ without (is_stage 3 k) mine in
        let left : (f : Mark → ℕ) → total f (without (is_stage 3 k) mine) + f (Claimed 3 k) ≡ total f mine = taken_as (is_stage 3 k) (Claimed 3 k) mine (stage_is 3 k) there in
        let law_i = law.slots i inside in let own : total (is_stage 3 k) mine ≤ tally (is_stage 3 k) L.marks = term_le (total (is_stage 3 k)) L.marks id mine at_home in
        let d = total-set (total is_busy) L.marks id mine ms at_home in let busy = left is_busy in let mine_busy = term_le (total is_busy) L.marks id mine at_home in let once = law_i.busy_once in
        let claims = term_le (total is_claimed) L.marks id mine at_home in let some_ = left is_claimed in
        let low = law_i.claimed_low (omega arith) in let even = law_i.busy_even (omega arith) in let tag_is = law_i.busy_taken (omega arith) in
        on_ref (gave_birth i found k v) ((found + 1) % 2 ^ 64) ms L.version (L.nref + 1) 1
        (λ x ne. let q : about x (gave_birth i found k v).marks ≡ about x (without_at i (is_stage 3 k) v.marks) = simp about-other in q ∙ about-without_else x i (is_stage 3 k) v.marks ne)
        (λ x. omega (arith, uses-taken x i (is_stage 3 k) (Claimed 3 k) v.marks (stage_is 3 k) there))
        refl (let q : about i (gave_birth i found k v).marks ≡ Known L.version ∷ Born L.version ∷ Linked L.version k ∷ about i (without_at i (is_stage 3 k) v.marks) = simp about-here in
        q ∙ ap (λ (u : List Mark). Known L.version ∷ Born L.version ∷ Linked L.version k ∷ u) (about-without i (is_stage 3 k) v.marks)) (λ h. omega (arith, left (is_born h))) (omega arith) (omega arith)
        (live-yes L.tag L.version (tally is_busy (set L.marks id ms)) tag_is even low (omega arith)) (keeps_birth p.first L law_i id mine at_home k there)

    -- the exchange won
    pub recycle_keeps : p.first % 2 ≡ 0 → (from : ℕ) → found ≡ from → vref_version from % 2 ≡ 1 → vref_nref from ≡ 0 → 0 < marks_of (is_zero (vref_version from)) i v
        → References p (stepped s (ref_index i) ((vref_version from + 1) * 4294967296) id c (recycled i from found v) a)
    recycle_keeps even_first from hit odd last there = let x : ℕ = vref_version from in let rest : List SlotMark = without_at i (is_zero x) v.marks in let w' : View = record v { marks = at i (Recycling (x + 1)) ∷ at i (Freer (x - 1)) ∷ rest } in
        let is_w : recycled i from found v ≡ w' = ap (λ b. record v { marks = cond b w'.marks rest }) (eq-eqb found from hit) in
        let x_is : x ≡ L.version = ap vref_version (sym hit) in let r_is : L.nref ≡ 0 = ap vref_nref hit ∙ last in let odd' : L.version % 2 ≡ 1 = ap (λ (y : ℕ). vref_version y % 2) hit ∙ odd in
        let ms : List Mark = Recycling (x + 1) ∷ Freer (x - 1) ∷ without (is_zero x) mine in
        let left : (f : Mark → ℕ) → total f (without (is_zero x) mine) + f (Zero x) ≡ total f mine = taken_as (is_zero x) (Zero x) mine (zero_is x) there in
        subst (λ (w : View). References p (stepped s (ref_index i) ((x + 1) * 4294967296) id c w a)) (sym is_w)
        (on_ref w' ((x + 1) * 4294967296) ms (x + 1) 0 0
        (λ y ne. let q : about y w'.marks ≡ about y rest = simp about-other in q ∙ about-without_else y i (is_zero x) v.marks ne)
        (λ y. omega (arith, uses-without y i (is_zero x) v.marks))
        refl (let q : about i w'.marks ≡ Recycling (x + 1) ∷ Freer (x - 1) ∷ about i rest = simp about-here in q ∙ ap (λ (u : List Mark). Recycling (x + 1) ∷ Freer (x - 1) ∷ u) (about-without i (is_zero x) v.marks)) (λ h. omega (arith, left (is_born h))) (omega arith) (omega arith)
        (live-busy L.tag (x + 1) (tally is_busy (set L.marks id ms)) (omega (arith, total-set (total is_busy) L.marks id mine ms at_home, left is_busy)))
        (let P : ℕ → ℕ → Type 0 = λ y r. SlotLaw p.first 0 record L { version = y + 1; nref = r; marks = set L.marks id (Recycling (y + 1) ∷ Freer (y - 1) ∷ without (is_zero y) mine) } in
        subst (λ (y : ℕ). P y 0) (sym x_is) (subst (P L.version) r_is (keeps_recycle p.first L (law.slots i inside) id mine at_home even_first (subst (λ (y : ℕ). 0 < total (is_zero y) mine) x_is there) odd' r_is))))

    -- the exchange lost
    pub recycle_lost_keeps : (from : ℕ) → found ≢ from → vref_nref from ≡ 0 → 0 < marks_of (is_zero (vref_version from)) i v
        → References p (stepped s (ref_index i) found id c (recycled i from found v) a)
    recycle_lost_keeps from miss last there = let x : ℕ = vref_version from in let rest : List SlotMark = without_at i (is_zero x) v.marks in let w' : View = record v { marks = rest } in
        let is_w : recycled i from found v ≡ w' = ap (λ b. record v { marks = cond b (at i (Recycling (x + 1)) ∷ at i (Freer (x - 1)) ∷ rest) rest }) (ne_eqb found from miss) in
        let ms : List Mark = without (is_zero x) mine in
        let left : (f : Mark → ℕ) → total f ms + f (Zero x) ≡ total f mine = taken_as (is_zero x) (Zero x) mine (zero_is x) there in
        subst (λ (w : View). References p (stepped s (ref_index i) found id c w a)) (sym is_w)
        (on_ref w' found ms L.version L.nref (live L)
        (λ y ne. about-without_else y i (is_zero x) v.marks ne)
        (λ y. omega (arith, uses-without y i (is_zero x) v.marks))
        refl (about-without i (is_zero x) v.marks) (λ h. omega (arith, left (is_born h))) refl refl
        (live_same ms (omega (arith, left is_busy)))
        (keeps_lost p.first L (law.slots i inside) id mine at_home x there (λ e r. miss (omega arith))))

  on_tag : (w : View) (n : ℕ) (ms : List Mark) (lives : ℕ) → ((x : ℕ) → x ≢ i → about x w.marks ≡ about x v.marks) → ((k : ℕ) → uses_of k w ≤ uses_of k v) → OnlyMarks v w
      → about i w.marks ≡ ms → ((h : ℕ) → total (is_born h) mine ≤ total (is_born h) ms)
      → live_by n L.version (tally is_busy (set L.marks id ms)) ≡ lives
      → SlotLaw p.first lives record L { tag = n; marks = set L.marks id ms } → References p (stepped s (tag_index i) n id c w a)
  on_tag w n ms lives else_ links still is grows lv ok = let sized = law.sized in let at_zero : 6 * i + 0 ≡ tag_index i = omega arith in
      subst (λ (x : ℕ). References p (stepped s x n id c w a)) at_zero
      (slot_step p s law id v here c w a i inside else_ links still 0 n (omega arith) (λ h. let e = ap (total (is_born h)) is in omega (arith, grows h))
      (settled _ (record L { tag = n; marks = set L.marks id ms }) lives
      (ap (λ (x : ℕ). slot_facts (stepped s x n id c w a) i) at_zero ∙ (at_tag s id v here c w a i n (omega arith) ∙ (λ q. record L { tag = n; marks = set L.marks id (is q) }))) lv ok))

  pub claim_keeps : References p (stepped s (tag_index i) 1 id c (claimed i tag v) a)
  claim_keeps = let law_i = law.slots i inside in dite (ℕ_discrete tag 0)
      (λ e. let ms : List Mark = Claimed 0 0 ∷ mine in let is_w = ap (λ b. record v { marks = at i (cond b (Claimed 0 0) Tried) ∷ v.marks }) (eq-eqb tag 0 e) in
      subst (λ (w : View). References p (stepped s (tag_index i) 1 id c w a)) (sym is_w)
      (on_tag record v { marks = at i (Claimed 0 0) ∷ v.marks } 1 ms 0 (λ x ne. simp about-other) (λ k. omega arith) refl (simp about-here) (λ h. omega arith)
      (live-busy 1 L.version (tally is_busy (set L.marks id ms)) (omega (arith, total-set (total is_busy) L.marks id mine ms at_home))) (keeps_claim p.first L law_i id mine at_home e)))
      (λ n. let ms : List Mark = Tried ∷ mine in let one : tag ≡ 1 = omega (arith, law_i.tagged) in let is_w = ap (λ b. record v { marks = at i (cond b (Claimed 0 0) Tried) ∷ v.marks }) (ne_eqb tag 0 n) in
      subst (λ (w : View). References p (stepped s (tag_index i) 1 id c w a)) (sym is_w)
      (on_tag record v { marks = at i Tried ∷ v.marks } 1 ms (live L) (λ x ne. simp about-other) (λ k. omega arith) refl (simp about-here) (λ h. omega arith)
      (ap (λ (t : ℕ). live_by t L.version (tally is_busy (set L.marks id ms))) (sym one) ∙ live_same ms (omega arith))
      (subst (λ (t : ℕ). SlotLaw p.first (live L) record L { tag = t; marks = set L.marks id ms }) one (keeps_tried p.first L law_i id mine at_home one))))

  pub free_keeps : (x : ℕ) → 0 < marks_of (is_recycled x) i v → x ≤ 4294967292 → References p (stepped s (tag_index i) 0 id c (freed i v) a)
  free_keeps x there low = let law_i = law.slots i inside in let ms : List Mark = without is_recycling mine in
      let t = taken is_recycling mine (omega (arith, total_mono (is_recycled x) is_recycling (recycled_le x) mine)) in let y = any_recycled t.0 t.1 in
      let left : (f : Mark → ℕ) → total f ms + f (Recycling y.0) ≡ total f mine = λ f. let q = t.2 f in let same : f t.0 ≡ f (Recycling y.0) = ap f y.1 in omega arith in
      let own = term_le (total is_busy) L.marks id mine at_home in let still : live L ≡ 0 = live-busy L.tag L.version (tally is_busy L.marks) (omega (arith, left is_busy)) in
      on_tag (freed i v) 0 ms (live L) (λ x ne. about-without_else x i is_recycling v.marks ne) (λ x. omega (arith, uses-without x i is_recycling v.marks))
      refl (about-without i is_recycling v.marks) (λ h. omega (arith, left (is_born h)))
      (live-free 0 L.version (tally is_busy (set L.marks id ms)) refl ∙ sym still) (keeps_free p.first L law_i id mine at_home x there low)

  pub some_ref : 0 < marks_of is_ref i v → 0 < vref_nref found
  some_ref there = let still = (law.slots i inside).counted in let own = term_le (total is_ref) L.marks id mine at_home in omega arith

  -- the seat has one claim of the slot
  pub one_claim : (k g : ℕ) → 0 < marks_of (is_stage 3 k) i v → 0 < marks_of (is_stage 3 g) i v → k ≡ g
  one_claim k g p q = let t = taken (is_stage 3 k) mine p in let e = stage_is 3 k t.0 t.1 in let d = dite (ℕ_discrete (is_stage 3 g (Claimed 3 k)) 0)
      (λ zero_. let u = taken (is_stage 3 g) (without (is_stage 3 k) mine) (omega (arith, t.2 (is_stage 3 g), ap (is_stage 3 g) e)) in
      let one = ap is_busy e in let two = ap is_busy (stage_is 3 g u.0 u.1) in let most = (law.slots i inside).busy_once in let own = term_le (total is_busy) L.marks id mine at_home in
      let r : k ≡ g = absurd (omega (arith, t.2 is_busy, u.2 is_busy)) in r)
      (λ n. (pair_is 3 g 3 k (omega arith)).1) in d

  -- each life that the seat knows is at most as late as the version found
  pub known_found : (h : ℕ) → 0 < marks_of (is_known h) i v → h ≤ vref_version found
  known_found h there = let t = life_is p.first h (L.version + live L) (omega (arith, (law.slots i inside).known h (omega (arith, term_le (total (is_known h)) L.marks id mine at_home)))) in let t₁ = t.1 in
      let le = live_le L.tag L.version (tally is_busy L.marks) in omega arith
