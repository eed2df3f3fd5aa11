-- Each step on a reference word or a tag keeps the law of its slot.
use Rattle.std.proofs.Common.{◌≡◌, ℕ, zero, ◌+◌, ◌-◌, ◌%◌, ◌<◌, ◌≤◌, ◌≢◌, ◌⊎◌, List, ◌∷◌, set, sym, refl, ap, ◌∙◌, subst, inl, inr, ⊎_elim, arith, cond, eqb, eq-eqb, ne_eqb}
use mathlib.Core.Logic.{dite}
use mathlib.Core.Option.{some}
use native.Mathlib.Decide.{ℕ_discrete}
use lib.ListN.{get_elem?}
use Rattle.sock_model.specs.declared.marks.Mark.{Mark}
use Rattle.sock_model.specs.declared.marks.Mark.TheVariants.{Claimed, Recycling, Hold, Probe, Zero, Coding, Tried, Known, Born, Saw, Failer, Freer, Linked, Told, Met}
use Rattle.sock_model.specs.MarkWeights.{tally, pair, life, is_claimed, is_recycling, is_busy, is_ref, is_probe, is_any_coding, is_tried, is_stage, is_recycled, is_hold, is_zero, is_coding, is_known, is_born, is_saw, is_failer, is_freer, is_coded, is_stored, is_told, is_linked, is_met}
use Rattle.sock_model.specs.Marks.{without, dropped}
use Rattle.sock_model.specs.SocketSlotLaw.{SlotFacts, live, Each, KeepsCodes, SlotLaw}
use Rattle.slot_steps.proofs.SlotWeightSums.{total-set, term_le, taken, taken_as, total_mono, tally_mono, tally_parts, total_some, each_set}
use Rattle.slot_steps.proofs.RuleNumbers.{only-same, only-at, only-else, only_is, only_le, pair_is, pair-at, life-in, life_is, life-more, life-odd_more, life-less, live_le, live_is}
use Rattle.sock_model.specs.sock_words.specs.Totals.{total}

pub busy-parts : (x : Mark) → is_busy x ≡ is_claimed x + is_recycling x
busy-parts (Claimed n k) = omega arith
busy-parts (Recycling w) = omega arith
busy-parts _ = omega arith

pub any_recycled : (x : Mark) → 0 < is_recycling x → (y : ℕ) × (x ≡ Recycling y)
any_recycled (Recycling y) p = (y, refl)
any_recycled _ p = absurd (omega arith)

pub hold_is : (h : ℕ) (x : Mark) → 0 < is_hold h x → x ≡ Hold h
hold_is h (Hold k) p = ap Hold (only_is h k p)
hold_is h _ p = absurd (omega arith)

pub probe_is : (x : Mark) → 0 < is_probe x → x ≡ Probe
probe_is Probe p = refl
probe_is _ p = absurd (omega arith)

pub zero_is : (w : ℕ) (x : Mark) → 0 < is_zero w x → x ≡ Zero w
zero_is w (Zero k) p = ap Zero (only_is w k p)
zero_is w _ p = absurd (omega arith)

pub stage_is : (n k : ℕ) (x : Mark) → 0 < is_stage n k x → x ≡ Claimed n k
stage_is n k (Claimed a b) p = let t = pair_is n k a b p in λ i. Claimed (t.0 i) (t.1 i)
stage_is n k _ p = absurd (omega arith)

pub coding_le : (h : ℕ) (x : Mark) → is_coding h x ≤ is_any_coding x
coding_le h (Coding k) = only_le h k
coding_le h _ = omega arith

dropped-zero : (v r : ℕ) (ms : List Mark) → v % 2 ≡ 1 → r ≡ 1 → dropped v r ms ≡ Zero v ∷ ms
unfolding dropped
dropped-zero v r ms p q = ap (λ x. cond x (cond (eqb r 1) (Zero v ∷ ms) ms) ms) (eq-eqb (v % 2) 1 p) ∙ ap (λ x. cond x (Zero v ∷ ms) ms) (eq-eqb r 1 q)

dropped-kept : (v r : ℕ) (ms : List Mark) → (v % 2 ≢ 1) ⊎ (r ≢ 1) → dropped v r ms ≡ ms
unfolding dropped
dropped-kept v r ms d = let u : List Mark = cond (eqb r 1) (Zero v ∷ ms) ms in
    ⊎_elim (λ n. ap (λ x. cond x u ms) (ne_eqb (v % 2) 1 n)) (λ n. let e : u ≡ ms = ap (λ x. cond x (Zero v ∷ ms) ms) (ne_eqb r 1 n) in
    dite (ℕ_discrete (v % 2) 1) (λ y. ap (λ x. cond x u ms) (eq-eqb (v % 2) 1 y) ∙ e) (λ y. ap (λ x. cond x u ms) (ne_eqb (v % 2) 1 y))) d

pub coding_is : (x : Mark) → 0 < is_any_coding x → (h : ℕ) × (0 < is_coding h x)
coding_is (Coding k) p = (k, omega (arith, only-same k))
coding_is _ p = absurd (omega arith)

z : (h : ℕ) → zero ≡ zero
z h = refl

zz : (h k : ℕ) → zero ≡ zero
zz h k = refl

-- a weight that references, exchanges that are left, and notes of what was found don't have
abbrev pub IsSteady : (Mark → ℕ) → Type 0
IsSteady f = (f Probe ≡ 0) × ((h : ℕ) → f (Hold h) ≡ 0) × ((v : ℕ) → f (Zero v) ≡ 0) × (f Tried ≡ 0) × ((v : ℕ) → f (Saw v) ≡ 0) × ((h : ℕ) → f (Known h) ≡ 0) × ((h c : ℕ) → f (Told h c) ≡ 0) × ((h k : ℕ) → f (Met h k) ≡ 0)

-- a weight that notes of what was found taken, seen, known, told or met don't have
abbrev pub IsNone : (Mark → ℕ) → Type 0
IsNone f = (f Tried ≡ 0) × ((v : ℕ) → f (Saw v) ≡ 0) × ((h : ℕ) → f (Known h) ≡ 0) × ((h c : ℕ) → f (Told h c) ≡ 0) × ((h k : ℕ) → f (Met h k) ≡ 0)

-- a weight that claims and recyclings don't have
abbrev pub IsIdle : (Mark → ℕ) → Type 0
IsIdle f = ((n k : ℕ) → f (Claimed n k) ≡ 0) × ((w : ℕ) → f (Recycling w) ≡ 0)

-- a reference, to a life or only to the word
abbrev pub IsRef : Mark → Type 0
IsRef e = (is_ref e ≡ 1) × ((f : Mark → ℕ) → f Probe ≡ 0 → ((h : ℕ) → f (Hold h) ≡ 0) → f e ≡ 0)

pub probe-ref : (x : Mark) → 0 < is_probe x → IsRef x
probe-ref Probe p = (refl, λ f a b. a)
probe-ref _ p = absurd (omega arith)

pub hold-ref : (h : ℕ) (x : Mark) → 0 < is_hold h x → IsRef x
hold-ref h (Hold k) p = (refl, λ f a b. b k)
hold-ref h _ p = absurd (omega arith)

pub ref_cases : (x : Mark) → 0 < is_ref x → (0 < is_probe x) ⊎ ((h : ℕ) × (0 < is_hold h x))
ref_cases Probe p = inl p
ref_cases (Hold k) p = inr (k, omega (arith, only-same k))
ref_cases _ p = absurd (omega arith)

pub hold_ref : (h : ℕ) (x : Mark) → is_hold h x ≤ is_ref x
hold_ref h (Hold k) = only_le h k
hold_ref h _ = omega arith

pub probe_ref : (x : Mark) → is_probe x ≤ is_ref x
probe_ref Probe = omega arith
probe_ref _ = omega arith

pub recycled_le : (w : ℕ) (x : Mark) → is_recycled w x ≤ is_recycling x
recycled_le w (Recycling k) = only_le w k
recycled_le w _ = omega arith

-- whoever has a code to store holds the life
coding_held : {first lives : ℕ} (l : SlotFacts) → SlotLaw first lives l → 0 < tally is_any_coding l.marks → (h : ℕ) × (0 < tally (is_hold h) l.marks)
coding_held l law p = let a = total_some (total is_any_coding) l.marks p in let b = total_some is_any_coding a.1 a.3 in let c = coding_is b.1 b.3 in let h : ℕ = c.0 in
    let t = (law.codes a.0 a.1 a.2).1 h (omega (arith, c.1, term_le (is_coding h) a.1 b.0 b.1 b.2)) in (h, omega (arith, t.0, term_le (total (is_hold h)) l.marks a.0 a.1 a.2))

module _ (first : ℕ) (l : SlotFacts) (law : SlotLaw first (live l) l) (j : ℕ) (m : List Mark) (here : get_elem? l.marks j ≡ some m) where
  -- what a change of the seat's marks does to each count
  pub moved : (w : List Mark) (f : Mark → ℕ) → tally f (set l.marks j w) + total f m ≡ tally f l.marks + total f w
  moved w f = total-set (total f) l.marks j m w here

  pub own : (f : Mark → ℕ) → total f m ≤ tally f l.marks
  own f = term_le (total f) l.marks j m here

  pub few_with : (w : List Mark) → total is_ref w ≤ 65540 → Each (set l.marks j w) (λ u. total is_ref u ≤ 65540)
  few_with w small = each_set (λ u. total is_ref u ≤ 65540) l.marks j w law.few small

  pub busy_is : tally is_busy l.marks ≡ tally is_claimed l.marks + tally is_recycling l.marks
  busy_is = tally_parts is_busy is_claimed is_recycling busy-parts l.marks

  pub alive_le : live l ≤ 1
  alive_le = live_le l.tag l.version (tally is_busy l.marks)

  -- marks that say the same of codes, and no less of what is held and was seen
  pub codes_as : (w : List Mark) → ((h : ℕ) → total (is_failer h) w ≡ total (is_failer h) m) → ((h : ℕ) → total (is_coding h) w ≡ total (is_coding h) m) → ((h : ℕ) → total (is_coded h) w ≡ total (is_coded h) m)
      → ((h : ℕ) → total (is_hold h) m ≤ total (is_hold h) w) → ((v : ℕ) → total (is_saw v) m ≤ total (is_saw v) w) → KeepsCodes w
  codes_as w failer coding coded hold saw = (
    (λ h. omega (arith, (law.codes j m here).0 h, failer h, coding h, coded h)),
    (λ h p. let t = (law.codes j m here).1 h (omega (arith, coding h)) in let a = t.0 in let b = t.1 in (omega (arith, hold h), omega (arith, saw (h + 1)))),
  )

  -- a step that changes how many refer to the slot, and what is noted of that and of what was found
  keeps_steady : (nref' : ℕ) (w : List Mark) → ((f : Mark → ℕ) → IsSteady f → tally f (set l.marks j w) ≡ tally f l.marks)
      → nref' ≡ live l + tally is_ref (set l.marks j w) → total is_ref w ≤ 65540 → (0 < l.tag + tally is_tried (set l.marks j w) → 0 < l.tag + tally is_tried l.marks)
      → ((h : ℕ) → 0 < tally (is_hold h) (set l.marks j w) → (h + 1 ≡ l.version + live l) × (h % 2 ≡ 0)) → ((v : ℕ) → 0 < tally (is_saw v) (set l.marks j w) → v ≤ l.version)
      → (l.version % 2 ≡ 1 → nref' ≡ 0 → 0 < tally (is_zero l.version) (set l.marks j w)) → ((h : ℕ) → 0 < tally (is_known h) (set l.marks j w) → life first h (l.version + live l) ≡ 1)
      → ((h c : ℕ) → 0 < tally (is_told h c) (set l.marks j w) → 0 < tally (is_stored h c) l.marks) → ((h k : ℕ) → 0 < tally (is_met h k) (set l.marks j w) → 0 < tally (is_linked h k) l.marks)
      → KeepsCodes w → SlotLaw first (live l) record l { nref = nref'; marks = set l.marks j w }
  keeps_steady nref' w same counted few tried held saw zero_noted known told met codes = record {
    tag = record {
      tagged = law.tagged;
      busy_once = omega (arith, same is_busy (refl, z, z, refl, z, z, zz, zz), law.busy_once);
      busy_taken = λ p. law.busy_taken (omega (arith, same is_busy (refl, z, z, refl, z, z, zz, zz)));
      busy_even = λ p. law.busy_even (omega (arith, same is_busy (refl, z, z, refl, z, z, zz, zz)));
      free_even = law.free_even;
      free_low = law.free_low;
      claimed_low = λ p. law.claimed_low (omega (arith, same is_claimed (refl, z, z, refl, z, z, zz, zz)));
      recycled = λ v p. law.recycled v (omega (arith, same (is_recycled v) (refl, z, z, refl, z, z, zz, zz)));
      taken_by = λ p. omega (arith, same is_claimed (refl, z, z, refl, z, z, zz, zz), law.taken_by (tried p));
      staged = λ n k p. law.staged n k (omega (arith, same (is_stage n k) (refl, z, z, refl, z, z, zz, zz)));
    };
    word = record {
      counted = counted;
      few = few_with w few;
      begun = law.begun;
      top = law.top;
      held = held;
      saw = saw;
      zero_noted = zero_noted;
      known = known;
      born = λ h. omega (arith, same (is_born h) (refl, z, z, refl, z, z, zz, zz), law.born h);
      failed = λ h. omega (arith, same (is_failer h) (refl, z, z, refl, z, z, zz, zz), law.failed h);
      ended = λ h. omega (arith, same (is_freer h) (refl, z, z, refl, z, z, zz, zz), law.ended h);
    };
    code = record {
      codes = each_set KeepsCodes l.marks j w law.codes codes;
      coding_once = omega (arith, same is_any_coding (refl, z, z, refl, z, z, zz, zz), law.coding_once);
      coding_odd = λ p. law.coding_odd (omega (arith, same is_any_coding (refl, z, z, refl, z, z, zz, zz)));
      code_none = λ p. law.code_none (omega (arith, same is_any_coding (refl, z, z, refl, z, z, zz, zz)));
      code_is = λ h c p. law.code_is h c (omega (arith, same (is_stored h c) (refl, z, z, refl, z, z, zz, zz)));
      code_even = λ h c p. law.code_even h c (omega (arith, same (is_stored h c) (refl, z, z, refl, z, z, zz, zz)));
      code_by = λ p q. omega (arith, same (is_stored (l.version - 1) l.code) (refl, z, z, refl, z, z, zz, zz), law.code_by p q);
      told = λ h c p. omega (arith, same (is_stored h c) (refl, z, z, refl, z, z, zz, zz), told h c p);
    };
    link = record {
      link_low = λ h k p. law.link_low h k (omega (arith, same (is_linked h k) (refl, z, z, refl, z, z, zz, zz)));
      link_even = λ h k p. law.link_even h k (omega (arith, same (is_linked h k) (refl, z, z, refl, z, z, zz, zz)));
      link_begun = λ h k p. law.link_begun h k (omega (arith, same (is_linked h k) (refl, z, z, refl, z, z, zz, zz)));
      met = λ h k p. omega (arith, same (is_linked h k) (refl, z, z, refl, z, z, zz, zz), met h k p);
      link_is = λ h k p q. law.link_is h k (omega (arith, same (is_linked h k) (refl, z, z, refl, z, z, zz, zz))) (omega (arith, same is_recycling (refl, z, z, refl, z, z, zz, zz)));
      link_live = λ p. omega (arith, same (is_linked l.version l.link) (refl, z, z, refl, z, z, zz, zz), law.link_live p);
      link_odd = λ p. omega (arith, same (is_linked (l.version - 1) l.link) (refl, z, z, refl, z, z, zz, zz), law.link_odd p);
      link_last = λ p. omega (arith, same (is_linked (l.version - 2) l.link) (refl, z, z, refl, z, z, zz, zz), law.link_last (omega (arith, same is_recycling (refl, z, z, refl, z, z, zz, zz))));
    };
  }

  -- a reference of this seat, to a life or only to the word
  add : (e : Mark) → ((f : Mark → ℕ) → f Probe ≡ 0 → ((h : ℕ) → f (Hold h) ≡ 0) → f e ≡ 0) → is_ref e ≡ 1
      → ((h : ℕ) → 0 < is_hold h e → (h + 1 ≡ l.version + live l) × (h % 2 ≡ 0)) → total is_ref m < 65540
      → SlotLaw first (live l) record l { nref = l.nref + 1; marks = set l.marks j (e ∷ Saw l.version ∷ m) }
  add e nil one lives room = let w : List Mark = e ∷ Saw l.version ∷ m in let by = moved w in
      keeps_steady (l.nref + 1) w (λ f n. let a = nil f n.0 n.1 in let b = n.4 l.version in omega (arith, by f)) (omega (arith, by is_ref, law.counted)) (omega arith)
      (λ p. omega (arith, by is_tried, nil is_tried refl z)) (λ h p. dite (ℕ_discrete (is_hold h e) 0) (λ n. law.held h (omega (arith, by (is_hold h)))) (λ n. lives h (omega arith)))
      (λ v p. dite (ℕ_discrete l.version v) (λ i. omega arith) (λ n. law.saw v (omega (arith, by (is_saw v), nil (is_saw v) refl z, only-else v l.version n)))) (λ p q. absurd (omega arith))
      (λ h p. law.known h (omega (arith, by (is_known h), nil (is_known h) refl z))) (λ h c p. law.told h c (omega (arith, by (is_told h c), nil (is_told h c) refl z))) (λ h k p. law.met h k (omega (arith, by (is_met h k), nil (is_met h k) refl z)))
      (codes_as w (λ h. omega (arith, nil (is_failer h) refl z)) (λ h. omega (arith, nil (is_coding h) refl z)) (λ h. omega (arith, nil (is_coded h) refl z)) (λ h. omega arith) (λ v. omega arith))

  pub keeps_probe : total is_ref m < 65540 → SlotLaw first (live l) record l { nref = l.nref + 1; marks = set l.marks j (Probe ∷ Saw l.version ∷ m) }
  keeps_probe room = add Probe (λ f a b. a) refl (λ h p. absurd (omega arith)) room

  pub keeps_hold : 0 < total (is_known l.version) m → total is_ref m < 65540 → SlotLaw first (live l) record l { nref = l.nref + 1; marks = set l.marks j (Hold l.version ∷ Saw l.version ∷ m) }
  keeps_hold known room = let v : ℕ = l.version in let lv : ℕ = live l in let a = alive_le in
      let t = life_is first v (v + lv) (omega (arith, law.known v (omega (arith, own (is_known v))))) in let t₁ = t.1 in let t₂ = t.2 in
      add (Hold v) (λ f a b. b v) refl (λ h p. let e = only_is h v p in let o : v + 1 ≡ v + lv = omega arith in (ap (λ (x : ℕ). x + 1) (sym e) ∙ o, ap (λ (x : ℕ). x % 2) (sym e) ∙ t₂)) room

  -- a step that notes what it saw, knows, was told, met or found taken, and nothing else
  pub keeps_notes : (w : List Mark) → ((f : Mark → ℕ) → IsNone f → total f w ≡ total f m) → ((v : ℕ) → total (is_saw v) m ≤ total (is_saw v) w) → (0 < l.tag + tally is_tried (set l.marks j w) → 0 < l.tag + tally is_tried l.marks)
      → ((v : ℕ) → 0 < tally (is_saw v) (set l.marks j w) → v ≤ l.version) → ((h : ℕ) → 0 < tally (is_known h) (set l.marks j w) → life first h (l.version + live l) ≡ 1)
      → ((h c : ℕ) → 0 < tally (is_told h c) (set l.marks j w) → 0 < tally (is_stored h c) l.marks) → ((h k : ℕ) → 0 < tally (is_met h k) (set l.marks j w) → 0 < tally (is_linked h k) l.marks)
      → SlotLaw first (live l) record l { marks = set l.marks j w }
  keeps_notes w rest more tried saw known told met = let by = moved w in let same : (f : Mark → ℕ) → IsNone f → tally f (set l.marks j w) ≡ tally f l.marks = λ f n. let d = rest f n in omega (arith, by f) in
      keeps_steady l.nref w (λ f n. same f (n.3, n.4, n.5, n.6, n.7)) (omega (arith, same is_ref (refl, z, z, zz, zz), law.counted)) (let a = law.few j m here in omega (arith, rest is_ref (refl, z, z, zz, zz)))
      tried (λ h p. law.held h (omega (arith, same (is_hold h) (refl, z, z, zz, zz)))) saw (λ p q. omega (arith, same (is_zero l.version) (refl, z, z, zz, zz), law.zero_noted p q)) known told met
      (codes_as w (λ h. rest (is_failer h) (refl, z, z, zz, zz)) (λ h. rest (is_coding h) (refl, z, z, zz, zz)) (λ h. rest (is_coded h) (refl, z, z, zz, zz)) (λ h. omega (arith, rest (is_hold h) (refl, z, z, zz, zz))) more)

  -- a look at the word
  pub keeps_look : SlotLaw first (live l) record l { marks = set l.marks j (Saw l.version ∷ m) }
  keeps_look = let by = moved (Saw l.version ∷ m) in keeps_notes (Saw l.version ∷ m) (λ f n. let a = n.1 l.version in omega arith) (λ v. omega arith) (λ p. omega (arith, by is_tried))
      (λ v p. dite (ℕ_discrete l.version v) (λ i. omega arith) (λ n. law.saw v (omega (arith, by (is_saw v), only-else v l.version n))))
      (λ h p. law.known h (omega (arith, by (is_known h)))) (λ h c p. law.told h c (omega (arith, by (is_told h c)))) (λ h k p. law.met h k (omega (arith, by (is_met h k))))

  -- a reference taken back, from a life or only from the word
  sub : (w : List Mark) → total is_ref w + 1 ≡ total is_ref m → ((h : ℕ) → total (is_hold h) w ≤ total (is_hold h) m)
      → ((f : Mark → ℕ) → f Probe ≡ 0 → ((h : ℕ) → f (Hold h) ≡ 0) → f (Zero l.version) ≡ 0 → total f w ≡ total f m)
      → (l.version % 2 ≡ 1 → l.nref ≡ 1 → 0 < total (is_zero l.version) w) → total is_any_coding m ≡ 0
      → SlotLaw first (live l) record l { nref = l.nref - 1; marks = set l.marks j w }
  sub w refs holds rest zero_ idle = let by = moved w in let still = law.counted in let mine = own is_ref in
      keeps_steady (l.nref - 1) w (λ f n. let d = rest f n.0 n.1 (n.2 l.version) in omega (arith, by f)) (omega (arith, by is_ref)) (let a = law.few j m here in omega arith)
      (λ p. omega (arith, by is_tried, rest is_tried refl z refl)) (λ h p. law.held h (omega (arith, by (is_hold h), holds h))) (λ v p. law.saw v (omega (arith, by (is_saw v), rest (is_saw v) refl z refl)))
      (λ p q. dite (ℕ_discrete l.nref 1) (λ e. omega (arith, zero_ p e, term_le (total (is_zero l.version)) l.marks j m here, by (is_zero l.version))) (λ n. absurd (omega arith)))
      (λ h p. law.known h (omega (arith, by (is_known h), rest (is_known h) refl z refl))) (λ h c p. law.told h c (omega (arith, by (is_told h c), rest (is_told h c) refl z refl))) (λ h k p. law.met h k (omega (arith, by (is_met h k), rest (is_met h k) refl z refl))) (
        (λ h. omega (arith, (law.codes j m here).0 h, rest (is_failer h) refl z refl, rest (is_coding h) refl z refl, rest (is_coded h) refl z refl)),
        (λ h p. absurd (omega (arith, rest (is_coding h) refl z refl, total_mono (is_coding h) is_any_coding (coding_le h) m))),
      )

  -- g is the weight of references of one kind
  pub keeps_sub : (g : Mark → ℕ) → ((x : Mark) → 0 < g x → IsRef x) → 0 < total g m → total is_any_coding m ≡ 0
      → SlotLaw first (live l) record l { nref = l.nref - 1; marks = set l.marks j (dropped l.version l.nref (without g m)) }
  keeps_sub g kind there idle = let v : ℕ = l.version in let r : ℕ = l.nref in let u : List Mark = without g m in let t = taken g m there in let e : Mark = t.0 in let k = kind e t.1 in
      let left : (f : Mark → ℕ) → total f u + f e ≡ total f m = t.2 in let ref : is_ref e ≡ 1 = k.0 in let nil = k.1 in let P : List Mark → Type 0 = λ w. SlotLaw first (live l) record l { nref = l.nref - 1; marks = set l.marks j w } in
      dite (ℕ_discrete (v % 2) 1)
      (λ odd. dite (ℕ_discrete r 1)
      (λ last. subst P (sym (dropped-zero v r u odd last)) (sub (Zero v ∷ u) (omega (arith, left is_ref)) (λ h. omega (arith, left (is_hold h))) (λ f a b c. omega (arith, left f, nil f a b)) (λ _ _. omega (arith, only-same v)) idle))
      (λ more. subst P (sym (dropped-kept v r u (inr more))) (sub u (omega (arith, left is_ref)) (λ h. omega (arith, left (is_hold h))) (λ f a b c. omega (arith, left f, nil f a b)) (λ _ o. absurd (more o)) idle)))
      (λ even. subst P (sym (dropped-kept v r u (inl even))) (sub u (omega (arith, left is_ref)) (λ h. omega (arith, left (is_hold h))) (λ f a b c. omega (arith, left f, nil f a b)) (λ odd _. absurd (even odd)) idle))

  -- the first to fail a life that it holds
  pub keeps_fail : (h : ℕ) → 0 < total (is_hold h) m → l.version % 2 ≡ 0 → total is_ref m < 65540
      → SlotLaw first 0 record l { version = l.version + 1; marks = set l.marks j (Hold l.version ∷ Coding l.version ∷ Failer l.version ∷ Saw (l.version + 1) ∷ m) }
  keeps_fail h there even room = let v : ℕ = l.version in let lv : ℕ = live l in let w : List Mark = Hold v ∷ Coding v ∷ Failer v ∷ Saw (v + 1) ∷ m in let by = moved w in
      let at_h = law.held h (omega (arith, own (is_hold h))) in let at₀ : h + 1 ≡ v + lv = at_h.0 in let at₁ = at_h.1 in let a : lv ≤ 1 = alive_le in let alive : lv ≡ 1 = omega arith in
      let facts = live_is l.tag v (tally is_busy l.marks) (omega arith) in let f₀ = facts.0 in let f₂ = facts.2 in let f₃ = facts.3 in
      let b = busy_is in let c = law.counted in let none_coding : tally is_any_coding l.marks ≡ 0 = dite (ℕ_discrete (tally is_any_coding l.marks) 0) (λ e. e) (λ n. absurd (omega (arith, law.coding_odd (omega arith)))) in
      let next : v + lv ≡ v + 1 + 0 = omega arith in
      record {
        tag = record {
          tagged = law.tagged;
          busy_once = omega (arith, by is_busy);
          busy_taken = λ p. f₀;
          busy_even = λ p. absurd (omega (arith, by is_busy));
          free_even = λ p. absurd (omega arith);
          free_low = λ p. absurd (omega arith);
          claimed_low = λ p. absurd (omega (arith, by is_claimed));
          recycled = λ x p. absurd (omega (arith, by (is_recycled x), tally_mono (is_recycled x) is_recycling (recycled_le x) l.marks));
          taken_by = λ p. omega (arith, law.begun);
          staged = λ n k p. law.staged n k (omega (arith, by (is_stage n k)));
        };
        word = record {
          counted = omega (arith, by is_ref);
          few = few_with w (omega arith);
          begun = omega (arith, law.begun);
          top = omega (arith, law.top);
          held = λ g p. dite (ℕ_discrete v g) (λ e. (omega arith, omega arith)) (λ n. let t = law.held g (omega (arith, by (is_hold g), only-else g v n)) in let t₀ = t.0 in (omega arith, t.1));
          saw = λ x p. dite (ℕ_discrete (v + 1) x) (λ e. omega arith) (λ n. omega (arith, law.saw x (omega (arith, by (is_saw x), only-else x (v + 1) n))));
          zero_noted = λ p q. absurd (omega arith);
          known = λ g p. sym (ap (life first g) next) ∙ law.known g (omega (arith, by (is_known g)));
          born = λ g. omega (arith, by (is_born g), law.born g, ap (life first g) next);
          failed = λ g. omega (arith, by (is_failer g), law.failed g, life-more first g v law.begun even);
          ended = λ g. let e : v + 1 - 1 ≡ v = omega arith in omega (arith, by (is_freer g), law.ended g, life-less first g v even, ap (life first g) e);
        };
        code = record {
          codes = each_set KeepsCodes l.marks j w law.codes (
            (λ g. omega (arith, (law.codes j m here).0 g)),
            (λ g p. dite (ℕ_discrete v g) (λ e. (omega (arith, only-at g v e), omega (arith, only-at (g + 1) (v + 1) (ap (λ (x : ℕ). x + 1) e))))
                (λ n. let t = (law.codes j m here).1 g (omega (arith, only-else g v n)) in let t₀ = t.0 in let t₁ = t.1 in (omega arith, omega arith))),
          );
          coding_once = omega (arith, by is_any_coding);
          coding_odd = λ p. omega arith;
          code_none = λ p. law.code_none (omega arith);
          code_is = λ g k p. let t = law.code_is g k (omega (arith, by (is_stored g k))) in let t₁ = t.1 in (t.0, omega arith, λ q. absurd (omega arith));
          code_even = λ g k p. law.code_even g k (omega (arith, by (is_stored g k)));
          code_by = λ p q. absurd (omega (arith, law.code_none (omega arith)));
          told = λ g k p. omega (arith, by (is_stored g k), law.told g k (omega (arith, by (is_told g k))));
        };
        link = record {
          link_low = λ g k p. omega (arith, law.link_low g k (omega (arith, by (is_linked g k))));
          link_even = λ g k p. law.link_even g k (omega (arith, by (is_linked g k)));
          link_begun = λ g k p. law.link_begun g k (omega (arith, by (is_linked g k)));
          met = λ g k p. omega (arith, by (is_linked g k), law.met g k (omega (arith, by (is_met g k))));
          link_is = λ g k p q. law.link_is g k (omega (arith, by (is_linked g k))) (omega (arith, by is_recycling));
          link_live = λ p. absurd (omega arith);
          link_odd = λ p. let e : v ≡ v + 1 - 1 = omega arith in subst (λ (x : ℕ). 0 < tally (is_linked x l.link) (set l.marks j w)) e (omega (arith, by (is_linked v l.link), law.link_live (omega arith)));
          link_last = λ p. absurd (omega (arith, by is_recycling));
        };
      }

  -- the exchange of whoever took nref to 0
  pub keeps_recycle : first % 2 ≡ 0 → 0 < total (is_zero l.version) m → l.version % 2 ≡ 1 → l.nref ≡ 0
      → SlotLaw first 0 record l { version = l.version + 1; marks = set l.marks j (Recycling (l.version + 1) ∷ Freer (l.version - 1) ∷ without (is_zero l.version) m) }
  keeps_recycle even_first there odd none_left = let v : ℕ = l.version in let lv : ℕ = live l in let u : List Mark = without (is_zero v) m in let w : List Mark = Recycling (v + 1) ∷ Freer (v - 1) ∷ u in let by = moved w in
      let rest : (f : Mark → ℕ) → total f u + f (Zero v) ≡ total f m = taken_as (is_zero v) (Zero v) m (zero_is v) there in
      let a : lv ≤ 1 = alive_le in let c = law.counted in let still : lv ≡ 0 = omega arith in let b = busy_is in let begun = law.begun in
      let none_busy : tally is_busy l.marks ≡ 0 = dite (ℕ_discrete (tally is_busy l.marks) 0) (λ e. e) (λ n. absurd (omega (arith, law.busy_even (omega arith)))) in
      let is_taken : l.tag ≡ 1 = dite (ℕ_discrete l.tag 0) (λ e. absurd (omega (arith, law.free_even e))) (λ n. omega (arith, law.tagged)) in
      let unheld : (h : ℕ) → tally (is_hold h) l.marks ≡ 0 = λ h. omega (arith, tally_mono (is_hold h) is_ref (hold_ref h) l.marks) in
      let upto : (h : ℕ) → life first h (v + lv) ≡ life first h (v + 1 + 0) = λ h. let e : v + lv ≡ v = omega arith in let e' : v + 1 + 0 ≡ v + 1 = omega arith in ap (life first h) e ∙ (sym (life-odd_more first h v odd) ∙ sym (ap (life first h) e')) in
      record {
        tag = record {
          tagged = law.tagged;
          busy_once = omega (arith, by is_busy, rest is_busy);
          busy_taken = λ p. is_taken;
          busy_even = λ p. omega arith;
          free_even = λ p. absurd (omega arith);
          free_low = λ p. absurd (omega arith);
          claimed_low = λ p. absurd (omega (arith, by is_claimed, rest is_claimed));
          recycled = λ x p. dite (ℕ_discrete (v + 1) x) (λ e. sym e) (λ n. absurd (omega (arith, by (is_recycled x), rest (is_recycled x), only-else x (v + 1) n, tally_mono (is_recycled x) is_recycling (recycled_le x) l.marks)));
          taken_by = λ p. omega (arith, law.begun);
          staged = λ n k p. law.staged n k (omega (arith, by (is_stage n k), rest (is_stage n k)));
        };
        word = record {
          counted = omega (arith, by is_ref, rest is_ref);
          few = few_with w (let k = law.few j m here in omega (arith, rest is_ref));
          begun = omega (arith, law.begun);
          top = omega (arith, law.top);
          held = λ g p. absurd (omega (arith, by (is_hold g), rest (is_hold g), unheld g));
          saw = λ x p. omega (arith, law.saw x (omega (arith, by (is_saw x), rest (is_saw x))));
          zero_noted = λ p q. absurd (omega arith);
          known = λ g p. sym (upto g) ∙ law.known g (omega (arith, by (is_known g), rest (is_known g)));
          born = λ g. omega (arith, by (is_born g), rest (is_born g), law.born g, upto g);
          failed = λ g. omega (arith, by (is_failer g), rest (is_failer g), law.failed g, life-odd_more first g v odd);
          ended = λ g. let e : v - 1 + 1 ≡ v = omega arith in let e' : v + 1 - 1 ≡ v = omega arith in
              omega (arith, by (is_freer g), rest (is_freer g), law.ended g, life-more first g (v - 1) (omega arith) (omega arith), ap (life first g) e, ap (life first g) e');
        };
        code = record {
          codes = each_set KeepsCodes l.marks j w law.codes (codes_as w (λ h. omega (arith, rest (is_failer h))) (λ h. omega (arith, rest (is_coding h))) (λ h. omega (arith, rest (is_coded h))) (λ h. omega (arith, rest (is_hold h))) (λ x. omega (arith, rest (is_saw x))));
          coding_once = omega (arith, by is_any_coding, rest is_any_coding, law.coding_once);
          coding_odd = λ p. absurd (let t = coding_held l law (omega (arith, by is_any_coding, rest is_any_coding)) in omega (arith, t.1, unheld t.0));
          code_none = λ p. absurd (let t = coding_held l law (omega (arith, by is_any_coding, rest is_any_coding)) in omega (arith, t.1, unheld t.0));
          code_is = λ g k p. let t = law.code_is g k (omega (arith, by (is_stored g k), rest (is_stored g k))) in let t₁ = t.1 in (t.0, omega arith, λ q. absurd (omega arith));
          code_even = λ g k p. law.code_even g k (omega (arith, by (is_stored g k), rest (is_stored g k)));
          code_by = λ p q. absurd (omega arith);
          told = λ g k p. omega (arith, by (is_stored g k), rest (is_stored g k), law.told g k (omega (arith, by (is_told g k), rest (is_told g k))));
        };
        link = record {
          link_low = λ g k p. omega (arith, law.link_low g k (omega (arith, by (is_linked g k), rest (is_linked g k))));
          link_even = λ g k p. law.link_even g k (omega (arith, by (is_linked g k), rest (is_linked g k)));
          link_begun = λ g k p. law.link_begun g k (omega (arith, by (is_linked g k), rest (is_linked g k)));
          met = λ g k p. omega (arith, by (is_linked g k), rest (is_linked g k), law.met g k (omega (arith, by (is_met g k), rest (is_met g k))));
          link_is = λ g k p q. law.link_is g k (omega (arith, by (is_linked g k), rest (is_linked g k))) (omega (arith, by is_recycling, rest is_recycling));
          link_live = λ p. absurd (omega arith);
          link_odd = λ p. absurd (omega arith);
          link_last = λ p. let e : v - 1 ≡ v + 1 - 2 = omega arith in subst (λ (x : ℕ). 0 < tally (is_linked x l.link) (set l.marks j w)) e (omega (arith, by (is_linked (v - 1) l.link), rest (is_linked (v - 1) l.link), law.link_odd odd));
        };
      }

  -- a step of whoever claimed or recycled a slot that isn't live: on its tag, its link or its code
  pub keeps_idle : (tag' link' code' : ℕ) (w : List Mark) → ((f : Mark → ℕ) → IsIdle f → total f w ≡ total f m) → live l ≡ 0 → l.version % 2 ≡ 0 → tag' ≤ 1
      → tally is_busy (set l.marks j w) ≤ 1 → (0 < tally is_busy (set l.marks j w) → tag' ≡ 1) → (tag' ≡ 0 → l.version ≤ 4294967292) → (0 < tally is_claimed (set l.marks j w) → l.version ≤ 4294967292)
      → ((x : ℕ) → 0 < tally (is_recycled x) (set l.marks j w) → x ≡ l.version) → (0 < tag' + tally is_tried (set l.marks j w) → 0 < tally is_claimed (set l.marks j w) + live l + (l.version - first))
      → ((n k : ℕ) → 0 < tally (is_stage n k) (set l.marks j w) → (1 ≤ n → link' ≡ k) × (3 ≤ n → code' ≡ 0)) → ((h k : ℕ) → 0 < tally (is_linked h k) l.marks → l.version ≤ h + 1 + tally is_recycling (set l.marks j w) → link' ≡ k)
      → (0 < tally is_recycling (set l.marks j w) → 0 < tally (is_linked (l.version - 2) link') l.marks) → SlotLaw first (live l) record l { tag = tag'; link = link'; code = code'; marks = set l.marks j w }
  keeps_idle tag' link' code' w own_same still even tagged once taken_ low claimed recycled taken_by staged link_is link_last = let by = moved w in
      let same : (f : Mark → ℕ) → IsIdle f → tally f (set l.marks j w) ≡ tally f l.marks = λ f n. omega (arith, by f, own_same f n) in
      let none_coding : tally is_any_coding l.marks ≡ 0 = dite (ℕ_discrete (tally is_any_coding l.marks) 0) (λ e. e) (λ n. absurd (omega (arith, law.coding_odd (omega arith)))) in
      record {
        tag = record {
          tagged = tagged;
          busy_once = once;
          busy_taken = taken_;
          busy_even = λ _. even;
          free_even = λ _. even;
          free_low = low;
          claimed_low = claimed;
          recycled = recycled;
          taken_by = taken_by;
          staged = staged;
        };
        word = record {
          counted = omega (arith, same is_ref (zz, z), law.counted);
          few = few_with w (let k = law.few j m here in omega (arith, own_same is_ref (zz, z)));
          begun = law.begun;
          top = law.top;
          held = λ h p. law.held h (omega (arith, same (is_hold h) (zz, z)));
          saw = λ x p. law.saw x (omega (arith, same (is_saw x) (zz, z)));
          zero_noted = λ p q. absurd (omega arith);
          known = λ h p. law.known h (omega (arith, same (is_known h) (zz, z)));
          born = λ h. omega (arith, same (is_born h) (zz, z), law.born h);
          failed = λ h. omega (arith, same (is_failer h) (zz, z), law.failed h);
          ended = λ h. omega (arith, same (is_freer h) (zz, z), law.ended h);
        };
        code = record {
          codes = each_set KeepsCodes l.marks j w law.codes (codes_as w (λ h. own_same (is_failer h) (zz, z)) (λ h. own_same (is_coding h) (zz, z)) (λ h. own_same (is_coded h) (zz, z)) (λ h. omega (arith, own_same (is_hold h) (zz, z))) (λ x. omega (arith, own_same (is_saw x) (zz, z))));
          coding_once = omega (arith, same is_any_coding (zz, z));
          coding_odd = λ p. absurd (omega (arith, same is_any_coding (zz, z)));
          code_none = λ p. absurd (omega (arith, same is_any_coding (zz, z)));
          code_is = λ h c p. let q : 0 < tally (is_stored h c) l.marks = omega (arith, same (is_stored h c) (zz, z)) in let t = law.code_is h c q in (t.0, t.1, λ e. absurd (omega (arith, law.code_even h c q)));
          code_even = λ h c p. law.code_even h c (omega (arith, same (is_stored h c) (zz, z)));
          code_by = λ p q. absurd (omega arith);
          told = λ h c p. omega (arith, same (is_stored h c) (zz, z), law.told h c (omega (arith, same (is_told h c) (zz, z))));
        };
        link = record {
          link_low = λ h k p. law.link_low h k (omega (arith, same (is_linked h k) (zz, z)));
          link_even = λ h k p. law.link_even h k (omega (arith, same (is_linked h k) (zz, z)));
          link_begun = λ h k p. law.link_begun h k (omega (arith, same (is_linked h k) (zz, z)));
          met = λ h k p. omega (arith, same (is_linked h k) (zz, z), law.met h k (omega (arith, same (is_met h k) (zz, z))));
          link_is = λ h k p. link_is h k (omega (arith, same (is_linked h k) (zz, z)));
          link_live = λ p. absurd (omega arith);
          link_odd = λ p. absurd (omega arith);
          link_last = λ p. omega (arith, same (is_linked (l.version - 2) link') (zz, z), link_last p);
        };
      }

  pub keeps_free : (x : ℕ) → 0 < total (is_recycled x) m → x ≤ 4294967292
      → SlotLaw first (live l) record l { tag = 0; marks = set l.marks j (without is_recycling m) }
  keeps_free x there low = let v : ℕ = l.version in let lv : ℕ = live l in let w : List Mark = without is_recycling m in let by = moved w in
      let t = taken is_recycling m (omega (arith, total_mono (is_recycled x) is_recycling (recycled_le x) m)) in let y : ℕ = (any_recycled t.0 t.1).0 in
      let rest : (f : Mark → ℕ) → total f w + f (Recycling y) ≡ total f m = λ f. let q = t.2 f in let same : f t.0 ≡ f (Recycling y) = ap f (any_recycled t.0 t.1).1 in omega arith in
      let at : x ≡ v = law.recycled x (omega (arith, own (is_recycled x))) in let b = busy_is in let once = law.busy_once in
      let some_ : 0 < tally is_recycling l.marks = omega (arith, own (is_recycled x), tally_mono (is_recycled x) is_recycling (recycled_le x) l.marks) in
      let even = law.busy_even (omega arith) in
      let still : lv ≡ 0 = dite (ℕ_discrete lv 0) (λ e. e) (λ n. absurd (omega (arith, (live_is l.tag v (tally is_busy l.marks) (omega arith)).3))) in
      let tag_is = law.busy_taken (omega arith) in
      keeps_idle 0 l.link l.code w (λ f n. let a = n.1 y in omega (arith, rest f)) still even (omega arith) (omega (arith, by is_busy, rest is_busy)) (λ p. absurd (omega (arith, by is_busy, rest is_busy)))
      (λ p. omega arith) (λ p. law.claimed_low (omega (arith, by is_claimed, rest is_claimed))) (λ y p. law.recycled y (omega (arith, by (is_recycled y), rest (is_recycled y))))
      (λ p. omega (arith, by is_claimed, rest is_claimed, law.taken_by (omega arith))) (λ n k p. law.staged n k (omega (arith, by (is_stage n k), rest (is_stage n k))))
      (λ g k p q. law.link_is g k p (omega (arith, by is_recycling, rest is_recycling))) (λ p. absurd (omega (arith, by is_recycling, rest is_recycling)))

  pub keeps_claim : l.tag ≡ 0 → SlotLaw first 0 record l { tag = 1; marks = set l.marks j (Claimed 0 0 ∷ m) }
  keeps_claim free = let v : ℕ = l.version in let lv : ℕ = live l in let w : List Mark = Claimed 0 0 ∷ m in let by = moved w in let b = busy_is in
      let none_busy : tally is_busy l.marks ≡ 0 = dite (ℕ_discrete (tally is_busy l.marks) 0) (λ e. e) (λ n. absurd (omega (arith, law.busy_taken (omega arith)))) in
      let still : lv ≡ 0 = dite (ℕ_discrete lv 0) (λ e. e) (λ n. absurd (omega (arith, (live_is l.tag v (tally is_busy l.marks) (omega arith)).0))) in
      subst (λ lives. SlotLaw first lives record l { tag = 1; marks = set l.marks j w }) still
      (keeps_idle 1 l.link l.code w (λ f n. let a = n.0 0 0 in omega arith) still (law.free_even free) (omega arith) (omega (arith, by is_busy)) (λ p. refl) (λ p. absurd (omega arith)) (λ p. law.free_low free)
      (λ x p. law.recycled x (omega (arith, by (is_recycled x)))) (λ p. omega (arith, by is_claimed))
      (λ n k p. dite (ℕ_discrete (pair n k 0 0) 0) (λ e. law.staged n k (omega (arith, by (is_stage n k)))) (λ q. let t = (pair_is n k 0 0 (omega arith)).0 in ((λ r. absurd (omega arith)), λ r. absurd (omega arith))))
      (λ g k p q. law.link_is g k p (omega (arith, by is_recycling))) (λ p. absurd (omega (arith, by is_recycling))))

  pub keeps_tried : l.tag ≡ 1 → SlotLaw first (live l) record l { marks = set l.marks j (Tried ∷ m) }
  keeps_tried is_taken = let by = moved (Tried ∷ m) in keeps_notes (Tried ∷ m) (λ f n. let a = n.0 in omega arith) (λ v. omega arith) (λ p. omega arith) (λ v p. law.saw v (omega (arith, by (is_saw v))))
      (λ h p. law.known h (omega (arith, by (is_known h)))) (λ h c p. law.told h c (omega (arith, by (is_told h c)))) (λ h k p. law.met h k (omega (arith, by (is_met h k))))

  pub keeps_birth : (k : ℕ) → 0 < total (is_stage 3 k) m
      → SlotLaw first 1 record l { nref = l.nref + 1; marks = set l.marks j (Known l.version ∷ Born l.version ∷ Linked l.version k ∷ without (is_stage 3 k) m) }
  keeps_birth k there = let v : ℕ = l.version in let lv : ℕ = live l in let u : List Mark = without (is_stage 3 k) m in let w : List Mark = Known v ∷ Born v ∷ Linked v k ∷ u in let by = moved w in
      let rest : (f : Mark → ℕ) → total f u + f (Claimed 3 k) ≡ total f m = taken_as (is_stage 3 k) (Claimed 3 k) m (stage_is 3 k) there in
      let b = busy_is in let once = law.busy_once in let claimed : 0 < tally is_claimed l.marks = omega (arith, rest is_claimed, own is_claimed) in
      let even = law.busy_even (omega arith) in let low = law.claimed_low claimed in let tag_is = law.busy_taken (omega arith) in
      let still : lv ≡ 0 = dite (ℕ_discrete lv 0) (λ e. e) (λ n. absurd (omega (arith, (live_is l.tag v (tally is_busy l.marks) (omega arith)).3))) in
      let stage = law.staged 3 k (omega (arith, own (is_stage 3 k))) in let s₀ : l.link ≡ k = stage.0 (omega arith) in let s₁ : l.code ≡ 0 = stage.1 (omega arith) in
      let begun = law.begun in let before : v + lv ≡ v = omega arith in
      record {
        tag = record {
          tagged = law.tagged;
          busy_once = omega (arith, by is_busy, rest is_busy);
          busy_taken = λ p. tag_is;
          busy_even = λ p. even;
          free_even = law.free_even;
          free_low = law.free_low;
          claimed_low = λ p. low;
          recycled = λ x p. law.recycled x (omega (arith, by (is_recycled x), rest (is_recycled x)));
          taken_by = λ p. omega arith;
          staged = λ n c p. law.staged n c (omega (arith, by (is_stage n c), rest (is_stage n c)));
        };
        word = record {
          counted = omega (arith, by is_ref, rest is_ref, law.counted);
          few = few_with w (let a = law.few j m here in omega (arith, rest is_ref));
          begun = begun;
          top = law.top;
          held = λ g p. let t = law.held g (omega (arith, by (is_hold g), rest (is_hold g))) in let t₀ = t.0 in let t₁ = t.1 in absurd (omega arith);
          saw = λ x p. law.saw x (omega (arith, by (is_saw x), rest (is_saw x)));
          zero_noted = λ p q. absurd (omega arith);
          known = λ g p. dite (ℕ_discrete v g) (λ e. life-in first g (v + 1) (omega arith) (omega arith) (omega arith))
              (λ n. let t = life_is first g (v + lv) (omega (arith, law.known g (omega (arith, by (is_known g), rest (is_known g), only-else g v n)))) in let t₀ = t.0 in let t₁ = t.1 in life-in first g (v + 1) t₀ (omega arith) t.2);
          born = λ g. omega (arith, by (is_born g), rest (is_born g), law.born g, life-more first g v begun even, ap (life first g) before);
          failed = λ g. omega (arith, by (is_failer g), rest (is_failer g), law.failed g);
          ended = λ g. omega (arith, by (is_freer g), rest (is_freer g), law.ended g);
        };
        code = record {
          codes = each_set KeepsCodes l.marks j w law.codes (codes_as w (λ h. omega (arith, rest (is_failer h))) (λ h. omega (arith, rest (is_coding h))) (λ h. omega (arith, rest (is_coded h))) (λ h. omega (arith, rest (is_hold h))) (λ x. omega (arith, rest (is_saw x))));
          coding_once = omega (arith, by is_any_coding, rest is_any_coding, law.coding_once);
          coding_odd = λ p. law.coding_odd (omega (arith, by is_any_coding, rest is_any_coding));
          code_none = λ p. s₁;
          code_is = λ g c p. law.code_is g c (omega (arith, by (is_stored g c), rest (is_stored g c)));
          code_even = λ g c p. law.code_even g c (omega (arith, by (is_stored g c), rest (is_stored g c)));
          code_by = λ p q. absurd (omega arith);
          told = λ g c p. omega (arith, by (is_stored g c), rest (is_stored g c), law.told g c (omega (arith, by (is_told g c), rest (is_told g c))));
        };
        link = record {
          link_low = λ g c p. dite (ℕ_discrete (pair g c v k) 0) (λ e. omega (arith, law.link_low g c (omega (arith, by (is_linked g c), rest (is_linked g c))))) (λ n. omega (arith, (pair_is g c v k (omega arith)).0));
          link_even = λ g c p. dite (ℕ_discrete (pair g c v k) 0) (λ e. law.link_even g c (omega (arith, by (is_linked g c), rest (is_linked g c)))) (λ n. let t = (pair_is g c v k (omega arith)).0 in omega arith);
          link_begun = λ g c p. dite (ℕ_discrete (pair g c v k) 0) (λ e. law.link_begun g c (omega (arith, by (is_linked g c), rest (is_linked g c)))) (λ n. let t = (pair_is g c v k (omega arith)).0 in omega arith);
          met = λ g c p. omega (arith, by (is_linked g c), rest (is_linked g c), law.met g c (omega (arith, by (is_met g c), rest (is_met g c))));
          link_is = λ g c p q. dite (ℕ_discrete (pair g c v k) 0) (λ e. law.link_is g c (omega (arith, by (is_linked g c), rest (is_linked g c))) (omega (arith, by is_recycling, rest is_recycling))) (λ n. s₀ ∙ (pair_is g c v k (omega arith)).1);
          link_live = λ p. omega (arith, by (is_linked v l.link), rest (is_linked v l.link), pair-at v l.link v k refl (sym s₀));
          link_odd = λ p. absurd (omega arith);
          link_last = λ p. absurd (omega (arith, by is_recycling, rest is_recycling));
        };
      }

  -- an exchange that lost
  pub keeps_lost : (x : ℕ) → 0 < total (is_zero x) m → (l.version ≡ x → l.nref ≢ 0) → SlotLaw first (live l) record l { marks = set l.marks j (without (is_zero x) m) }
  keeps_lost x there missed = let w : List Mark = without (is_zero x) m in let by = moved w in
      let rest : (f : Mark → ℕ) → total f w + f (Zero x) ≡ total f m = taken_as (is_zero x) (Zero x) m (zero_is x) there in
      keeps_steady l.nref w (λ f n. let d = n.2 x in omega (arith, by f, rest f)) (omega (arith, by is_ref, rest is_ref, law.counted)) (let a = law.few j m here in omega (arith, rest is_ref))
      (λ p. omega (arith, by is_tried, rest is_tried)) (λ h p. law.held h (omega (arith, by (is_hold h), rest (is_hold h)))) (λ v p. law.saw v (omega (arith, by (is_saw v), rest (is_saw v))))
      (λ p q. omega (arith, by (is_zero l.version), rest (is_zero l.version), only-else l.version x (λ e. missed (sym e) q), law.zero_noted p q))
      (λ h p. law.known h (omega (arith, by (is_known h), rest (is_known h)))) (λ h c p. law.told h c (omega (arith, by (is_told h c), rest (is_told h c)))) (λ h k p. law.met h k (omega (arith, by (is_met h k), rest (is_met h k))))
      (codes_as w (λ h. omega (arith, rest (is_failer h))) (λ h. omega (arith, rest (is_coding h))) (λ h. omega (arith, rest (is_coded h))) (λ h. omega (arith, rest (is_hold h))) (λ v. omega (arith, rest (is_saw v))))
