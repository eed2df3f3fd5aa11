-- What steps leave of the notes of faults, and of where each link is.
use Rattle.std.proofs.Common.{◌≡◌, ◌≢◌, ℕ, zero, suc, ◌+◌, ◌-◌, ◌%◌, ◌<◌, ◌≤◌, Bool, true, false, cond, eqb, eq-eqb, ne_eqb, nat_lt, List, [], ◌∷◌, ◌++◌, length, set, refl, sym, ap, ◌∙◌, subst, ◌⊎◌, inl, inr, ⊎_elim, arith}
use mathlib.Core.Logic.{dite}
use mathlib.Core.Option.{Option, none, some}
use native.Mathlib.Decide.{ℕ_discrete}
use lib.ListN.{get_elem?}
use Rattle.atomic_table.specs.Table.{State}
use Rattle.atomic_table.proofs.Lists.{set_here, set_else}
use Rattle.sock_words.specs.declared.plain.Plan.{Plan}
use Rattle.sock_model.specs.declared.home.Home.{Home}
use Rattle.sock_model.specs.declared.home.Home.TheVariants.{Link}
use Rattle.sock_model.specs.declared.marks.Mark.{Mark}
use Rattle.sock_model.specs.declared.marks.Mark.TheVariants.{Claimed, Recycling, Hold, Probe, Zero, Coding, Tried, Saw, Failer, Freer, Handed}
use Rattle.sock_model.specs.declared.marks.SlotMark.{SlotMark}
use Rattle.sock_model.specs.declared.view.View.{View}
use Rattle.sock_model.specs.MarkWeights.{only, is_probe, is_hold, is_stage, is_zero, is_coding, is_recycling}
use Rattle.sock_model.specs.Marks.{about, at, without_at}
use Rattle.sock_model.specs.References.{uses_link}
use Rattle.sock_model.specs.ChainLawReads.{waits_link, carries, hands_of}
use Rattle.sock_model.specs.SlotRows.{marks_of, claimed, gave_birth, added, back, subbed, failed, recycled, freed, linked, staged, coded}
use Rattle.chain_core.specs.slot_steps.proofs.RuleNumbers.{only-same, only_is, only-else}
use Rattle.chain_core.specs.slot_steps.proofs.SlotWeightSums.{total-set, total-append, term_le, total_mono, about-here, about-other}
use Rattle.chain_core.specs.chain_steps.proofs.TicketLists.{at_length}
use Rattle.chain_core.specs.sock_steps.proofs.Maps.{set_at}
use Rattle.sock_rule.specs.LinkFaultNotes.{fault, is_fault, faults_link, faults_of, noting_fault, fault_found, without_fault, fault_left, ends_of, is_over, away, out_of, noted_out, present, rose_at, over_at, LinkFaults}
use Rattle.sock_rule.proofs.Light.{Light, Alike}
use Rattle.sock_words.specs.PackedWords.{vref_version, vref_nref}
use Rattle.sock_words.specs.Totals.{total}
use Rattle.chain_core.specs.sock_steps.proofs.SumsAsMarksChange.{either_way}

-- ## Marks that come and go in steps

-- no such note
abbrev Other : Mark → Type 0
Other m = (k : ℕ) → is_fault k m ≡ 0

-- a mark goes that is no such note
stay_without : (k i : ℕ) (g : Mark → ℕ) (es : List SlotMark) → ((x : Mark) → 0 < g x → is_fault k x ≡ 0) → total (faults_link k) (without_at i g es) ≡ total (faults_link k) es
stay_without k i g [] gone = refl
stay_without k i g (e ∷ es) gone = let ih = stay_without k i g es gone in dite (ℕ_discrete e.slot i)
    (λ y. let q = eq-eqb e.slot i y in dite (ℕ_discrete (g e.mark) 0) (λ z. let r = eq-eqb (g e.mark) 0 z in simp (q, r) (omega arith)) (λ n. let r = ne_eqb (g e.mark) 0 n in let z = gone e.mark (omega arith) in simp (q, r) (omega arith)))
    (λ n. let q = ne_eqb e.slot i n in simp q (omega arith))

stage_no : (a c k : ℕ) (x : Mark) → 0 < is_stage a c x → is_fault k x ≡ 0
stage_no a c k (Handed h n) l = absurd (omega arith)
stage_no a c k (Claimed h n) l = refl
stage_no a c k _ l = absurd (omega arith)

zero_no : (w k : ℕ) (x : Mark) → 0 < is_zero w x → is_fault k x ≡ 0
zero_no w k (Zero h) l = refl
zero_no w k _ l = absurd (omega arith)

coding_no : (w k : ℕ) (x : Mark) → 0 < is_coding w x → is_fault k x ≡ 0
coding_no w k (Coding h) l = refl
coding_no w k _ l = absurd (omega arith)

hold_no : (w k : ℕ) (x : Mark) → 0 < is_hold w x → is_fault k x ≡ 0
hold_no w k (Hold h) l = refl
hold_no w k _ l = absurd (omega arith)

probe_no : (k : ℕ) (x : Mark) → 0 < is_probe x → is_fault k x ≡ 0
probe_no k Probe l = refl
probe_no k _ l = absurd (omega arith)

recycling_no : (k : ℕ) (x : Mark) → 0 < is_recycling x → is_fault k x ≡ 0
recycling_no k (Recycling h) l = refl
recycling_no k _ l = absurd (omega arith)

module _ (k i : ℕ) (v : View) where
  abbrev same : View → Type 0
  same w = faults_of k w ≡ faults_of k v

  pub claimed_same : (found : ℕ) → faults_of k (claimed i found v) ≡ faults_of k v
  claimed_same found = let z : is_fault k (cond (eqb found 0) (Claimed 0 0) Tried) ≡ 0 = either_way (eqb found 0) (Claimed 0 0) Tried (λ m. is_fault k m ≡ 0) refl refl in omega arith

  pub birth_same : (found c : ℕ) → faults_of k (gave_birth i found c v) ≡ faults_of k v
  birth_same found c = omega (arith, stay_without k i (is_stage 3 c) v.marks (stage_no 3 c k))

  pub added_same : (found : ℕ) (b : Bool) → faults_of k (added i found b v) ≡ faults_of k v
  added_same found b = let z : is_fault k (cond b (Hold (vref_version found)) Probe) ≡ 0 = either_way b (Hold (vref_version found)) Probe (λ m. is_fault k m ≡ 0) refl refl in omega arith

  pub subbed_same : (found : ℕ) → faults_of k (subbed i found (back i found v) v) ≡ faults_of k v
  subbed_same found = let w : ℕ = vref_version found in let g : Mark → ℕ = back i found v in let r : List SlotMark = without_at i (back i found v) v.marks in
      let no : (x : Mark) → 0 < back i found v x → is_fault k x ≡ 0 = either_way (nat_lt 0 (marks_of is_probe i v)) is_probe (is_hold (w - w % 2)) (λ (h : Mark → ℕ). (x : Mark) → 0 < h x → is_fault k x ≡ 0) (probe_no k) (hold_no (w - w % 2) k) in
      let s = stay_without k i (back i found v) v.marks no in let P : List SlotMark → Type 0 = λ es. total (faults_link k) es ≡ faults_of k v in
      either_way (eqb (w % 2) 1) (cond (eqb (vref_nref found) 1) (at i (Zero w) ∷ r) r) r (λ es. total (faults_link k) es ≡ faults_of k v)
      (either_way (eqb (vref_nref found) 1) (at i (Zero w) ∷ r) r (λ es. total (faults_link k) es ≡ faults_of k v) (omega arith) s) s

  pub failed_same : (found : ℕ) → faults_of k (failed i found v) ≡ faults_of k v
  failed_same found = let w : ℕ = vref_version found in either_way (eqb (w % 2) 0) (at i (Hold w) ∷ at i (Coding w) ∷ at i (Failer w) ∷ at i (Saw (w + 1)) ∷ v.marks) (at i (Saw w) ∷ v.marks) (λ es. total (faults_link k) es ≡ faults_of k v) (omega arith) (omega arith)

  pub recycled_same : (from found : ℕ) → faults_of k (recycled i from found v) ≡ faults_of k v
  recycled_same from found = let w : ℕ = vref_version from in let r : List SlotMark = without_at i (is_zero w) v.marks in let s = stay_without k i (is_zero w) v.marks (zero_no w k) in
      either_way (eqb found from) (at i (Recycling (w + 1)) ∷ at i (Freer (w - 1)) ∷ r) r (λ es. total (faults_link k) es ≡ faults_of k v) (omega arith) s

  pub freed_same : faults_of k (freed i v) ≡ faults_of k v
  freed_same = stay_without k i is_recycling v.marks (recycling_no k)

  pub linked_same : (c : ℕ) → faults_of k (linked i c v) ≡ faults_of k v
  linked_same c = omega (arith, stay_without k i (is_stage 0 0) v.marks (stage_no 0 0 k))

  pub staged_same : (a c b : ℕ) → faults_of k (staged i a c b v) ≡ faults_of k v
  staged_same a c b = omega (arith, stay_without k i (is_stage a c) v.marks (stage_no a c k))

  pub coded_same : (h c : ℕ) → faults_of k (coded i h c v) ≡ faults_of k v
  coded_same h c = omega (arith, stay_without k i (is_coding h) v.marks (coding_no h k))

-- ## The note itself

pub found_alike : (n i k : ℕ) (v : View) → Alike v (fault_found n i k v)
found_alike zero i k v = record { marks = λ f l j. refl; uses = λ c. refl; waits = λ c. refl; others = refl }
found_alike (suc n) i k v = record {
  marks = λ f l j. dite (ℕ_discrete j i)
      (λ e. let q = ap (total f) (about-here i (fault k) v.marks) in let z = l 0 k in
      subst (λ (y : ℕ). marks_of f y (noting_fault i k v) ≡ marks_of f y v) (sym e) (omega arith))
      (λ ne. ap (total f) (about-other j i (fault k) v.marks ne));
  uses = λ c. omega arith;
  waits = λ c. omega arith;
  others = refl;
}

fault_light : (k : ℕ) (f : Mark → ℕ) → Light f → (m : Mark) → 0 < is_fault k m → f m ≡ 0
fault_light k f l (Handed h n) p = l h n
fault_light k f l _ p = absurd (omega arith)

fault_unused : (k c : ℕ) (e : SlotMark) → 0 < faults_link k e → (uses_link c e ≡ 0) × (waits_link c e ≡ 0)
fault_unused k c e p = by_mark e.mark p
  where
    by_mark : (m : Mark) → 0 < is_fault k m → (Rattle.sock_model.specs.MarkWeights.uses c m ≡ 0) × (Rattle.sock_model.specs.MarkWeights.is_waiting c m ≡ 0)
    by_mark (Handed h n) p = (refl, refl)
    by_mark _ p = absurd (omega arith)

without_weight : (k : ℕ) (g : SlotMark → ℕ) → ((e : SlotMark) → 0 < faults_link k e → g e ≡ 0) → (es : List SlotMark) → total g (without_fault k es) ≡ total g es
without_weight k g gone [] = refl
without_weight k g gone (e ∷ es) = dite (ℕ_discrete (faults_link k e) 0)
    (λ z. let q = eq-eqb (faults_link k e) 0 z in let ih = without_weight k g gone es in simp q (omega arith))
    (λ n. let q = ne_eqb (faults_link k e) 0 n in let z = gone e (omega arith) in simp q (omega arith))

without_about : (k j : ℕ) (f : Mark → ℕ) → Light f → (es : List SlotMark) → total f (about j (without_fault k es)) ≡ total f (about j es)
without_about k j f l [] = refl
without_about k j f l (e ∷ es) = let ih = without_about k j f l es in dite (ℕ_discrete (faults_link k e) 0)
    (λ z. let q = eq-eqb (faults_link k e) 0 z in dite (ℕ_discrete e.slot j) (λ y. let r = eq-eqb e.slot j y in simp (q, r) (omega arith)) (λ n. let r = ne_eqb e.slot j n in simp (q, r) ih))
    (λ n. let q = ne_eqb (faults_link k e) 0 n in let z = fault_light k f l e.mark (omega arith) in dite (ℕ_discrete e.slot j) (λ y. let r = eq-eqb e.slot j y in simp (q, r) (omega arith)) (λ m. let r = ne_eqb e.slot j m in simp (q, r)))

pub left_alike : (n k : ℕ) (v : View) → Alike v (fault_left n k v)
left_alike zero k v = record { marks = λ f l j. refl; uses = λ c. refl; waits = λ c. refl; others = refl }
left_alike (suc n) k v = record {
  marks = λ f l j. without_about k j f l v.marks;
  uses = λ c. without_weight k (uses_link c) (λ e p. (fault_unused k c e p).0) v.marks;
  waits = λ c. without_weight k (waits_link c) (λ e p. (fault_unused k c e p).1) v.marks;
  others = refl;
}

-- two such notes one after the other
pub alike_then : (u v w : View) → Alike u v → Alike v w → Alike u w
alike_then u v w a b = record {
  marks = λ f l j. b.marks f l j ∙ a.marks f l j;
  uses = λ c. b.uses c ∙ a.uses c;
  waits = λ c. b.waits c ∙ a.waits c;
  others = b.others ∙ ap (λ (z : View). record z { marks = w.marks }) a.others;
}

left_fewer : (k l : ℕ) (es : List SlotMark) → total (faults_link l) (without_fault k es) ≤ total (faults_link l) es
left_fewer k l [] = omega arith
left_fewer k l (e ∷ es) = dite (ℕ_discrete (faults_link k e) 0)
    (λ z. let q = eq-eqb (faults_link k e) 0 z in let ih = left_fewer k l es in simp q (omega arith))
    (λ n. let q = ne_eqb (faults_link k e) 0 n in simp q (omega arith))

left_else : (k l : ℕ) (es : List SlotMark) → k ≢ l → total (faults_link l) (without_fault k es) ≡ total (faults_link l) es
left_else k l es ne = without_weight k (faults_link l) (λ e p. other e.mark p) es
  where
    other : (m : Mark) → 0 < is_fault k m → is_fault l m ≡ 0
    other (Handed h n) p = let e : n ≡ k = only_is k n p in only-else l n (λ q. ne (sym e ∙ q))
    other _ p = absurd (omega arith)

-- of link l, what a seat notes that takes link k in hand, or puts it back
pub found_more : (n i k l : ℕ) (v : View) → faults_of l v ≤ faults_of l (fault_found n i k v)
found_more zero i k l v = omega arith
found_more (suc n) i k l v = omega arith

pub found_none : (n i k l : ℕ) (v : View) → n ≡ 0 → faults_of l (fault_found n i k v) ≡ faults_of l v
found_none zero i k l v e = refl
found_none (suc n) i k l v e = absurd (omega arith)

pub found_some : (n i k : ℕ) (v : View) → 0 < n → 0 < faults_of k (fault_found n i k v)
found_some zero i k v p = absurd (omega arith)
found_some (suc n) i k v p = omega (arith, only-same k)

pub found_else : (n i k l : ℕ) (v : View) → k ≢ l → faults_of l (fault_found n i k v) ≡ faults_of l v
found_else zero i k l v ne = refl
found_else (suc n) i k l v ne = omega (arith, only-else l k ne)

pub left_none : (n k l : ℕ) (v : View) → n ≡ 0 → faults_of l (fault_left n k v) ≡ faults_of l v
left_none zero k l v e = refl
left_none (suc n) k l v e = absurd (omega arith)

pub left_other : (n k l : ℕ) (v : View) → k ≢ l → faults_of l (fault_left n k v) ≡ faults_of l v
left_other zero k l v ne = refl
left_other (suc n) k l v ne = left_else k l v.marks ne

-- ## Where each link is

-- what a seat notes that has the link not in hand counts for nothing
no_noted : (k : ℕ) (v : View) → out_of k v ≡ 0 → noted_out k v ≡ 0
no_noted k v e = ap (λ b. cond b 0 (faults_of k v)) (eq-eqb (out_of k v) 0 e)

some_noted : (k : ℕ) (v : View) → out_of k v ≢ 0 → noted_out k v ≡ faults_of k v
some_noted k v ne = ap (λ b. cond b 0 (faults_of k v)) (ne_eqb (out_of k v) 0 ne)

pub none_noted : (k : ℕ) (l : List View) → total (out_of k) l ≡ 0 → total (noted_out k) l ≡ 0
none_noted k [] e = refl
none_noted k (v ∷ vs) e = omega (arith, no_noted k v (omega arith), none_noted k vs (omega arith))

noted_same : (k : ℕ) (v w : View) → out_of k w ≡ out_of k v → faults_of k w ≡ faults_of k v → noted_out k w ≡ noted_out k v
noted_same k v w e f i = cond (eqb (e i) 0) 0 (f i)

none_rose : {S : Type 0} (rose : S → ℕ) (o : Option (Option S)) → present o ≡ 0 → rose_at rose o ≡ 0
none_rose rose none e = refl
none_rose rose (some none) e = refl
none_rose rose (some (some y)) e = absurd (omega arith)

none_over : {S : Type 0} (shows : S → Home) (o : Option (Option S)) → present o ≡ 0 → over_at shows o ≡ 0
none_over shows none e = refl
none_over shows (some none) e = refl
none_over shows (some (some y)) e = absurd (omega arith)

hand_out : (k : ℕ) (v : View) → hands_of k v ≤ out_of k v
hand_out k v = omega arith

module _ {S : Type 0} {shows : S → Home} {rose : S → ℕ} {p : Plan} {s : State S View} (id : ℕ) (v w : View) (here : get_elem? s.views id ≡ some v) (ws : List ℕ) (hs : List (Option S)) (k : ℕ) (old : LinkFaults shows rose p s k) where
  abbrev t : State S View
  t = record { words = ws; homes = hs; views = set s.views id w }

  outs : total (out_of k) (set s.views id w) + out_of k v ≡ total (out_of k) s.views + out_of k w
  outs = total-set (out_of k) s.views id v w here

  notes : total (faults_of k) (set s.views id w) + faults_of k v ≡ total (faults_of k) s.views + faults_of k w
  notes = total-set (faults_of k) s.views id v w here

  ends : total (ends_of p k) (set s.views id w) + ends_of p k v ≡ total (ends_of p k) s.views + ends_of p k w
  ends = total-set (ends_of p k) s.views id v w here

  hands : total (hands_of k) (set s.views id w) + hands_of k v ≡ total (hands_of k) s.views + hands_of k w
  hands = total-set (hands_of k) s.views id v w here

  -- it is at home as it was, and in the same hands
  still_over : get_elem? hs (p.requests + k) ≡ get_elem? s.homes (p.requests + k) → ends_of p k w ≡ ends_of p k v → hands_of k w ≡ hands_of k v
      → 0 < total (ends_of p k) (set s.views id w) → 0 < over_at shows (get_elem? hs (p.requests + k)) + total (hands_of k) (set s.views id w)
  still_over home end hand some_ = let a = old.over (omega (arith, ends)) in omega (arith, hands, ap (over_at shows) home)

  -- nothing of it changed
  pub calm : get_elem? hs (p.requests + k) ≡ get_elem? s.homes (p.requests + k) → faults_of k w ≡ faults_of k v → out_of k w ≡ out_of k v → ends_of p k w ≡ ends_of p k v → hands_of k w ≡ hands_of k v → LinkFaults shows rose p record { words = ws; homes = hs; views = set s.views id w } k
  calm home faults out end hand = record {
    once = omega (arith, outs, ap present home, old.once);
    faulty = λ some_. (let a = old.faulty (omega (arith, notes)) in omega (arith, ap (rose_at rose) home, total-set (noted_out k) s.views id v w here, noted_same k v w out faults));
    over = still_over home end hand;
  }

  -- a seat that has the link in hand notes more faults of it
  pub noting_more : get_elem? hs (p.requests + k) ≡ get_elem? s.homes (p.requests + k) → 0 < out_of k v → faults_of k v ≤ faults_of k w → out_of k w ≡ out_of k v → ends_of p k w ≡ ends_of p k v → hands_of k w ≡ hands_of k v → LinkFaults shows rose p record { words = ws; homes = hs; views = set s.views id w } k
  noting_more home in_hand more out end hand = record {
    once = omega (arith, outs, ap present home, old.once);
    faulty = λ some_. (let a = some_noted k w (λ e. omega arith) in let b = some_noted k v (λ e. omega arith) in let set_ = total-set (noted_out k) s.views id v w here in
        dite (ℕ_discrete (faults_of k w) (faults_of k v))
        (λ e. let c = old.faulty (omega (arith, notes)) in omega (arith, ap (rose_at rose) home))
        (λ ne. let le = term_le (noted_out k) s.views id v here in omega arith));
    over = still_over home end hand;
  }

  -- the seat takes it out of its home, where y lay
  pub takes : (y : S) → get_elem? s.homes (p.requests + k) ≡ some (some y) → get_elem? hs (p.requests + k) ≡ some none → out_of k w ≡ out_of k v + 1
      → faults_of k v ≤ faults_of k w → (rose y ≡ 0 → faults_of k w ≡ faults_of k v) → (0 < rose y → 0 < faults_of k w)
      → ends_of p k w ≡ ends_of p k v → (0 < hands_of k w) ⊎ (is_over (shows y) ≡ 0)
      → LinkFaults shows rose p record { words = ws; homes = hs; views = set s.views id w } k
  takes y there gone out more none_ some_ end hand = let home = ap present there in let none_out : total (out_of k) s.views ≡ 0 = omega (arith, old.once) in record {
    once = omega (arith, outs, ap present gone, old.once);
    faulty = λ some_new. dite (ℕ_discrete (rose y) 0)
        (λ z. let n = none_ z in let a = old.faulty (omega (arith, notes)) in absurd (omega (arith, ap (rose_at rose) there, none_noted k s.views none_out)))
        (λ nz. let a = some_ (omega arith) in let b = some_noted k w (λ e. omega arith) in let le = term_le (noted_out k) s.views id v here in omega (arith, total-set (noted_out k) s.views id v w here));
    over = λ some_new. ⊎_elim (λ h. let le = term_le (hands_of k) (set s.views id w) id w (set_at s.views id w (at_length s.views id v here)) in omega arith)
        (λ z. let a = old.over (omega (arith, ends)) in let le = total_mono (hands_of k) (out_of k) (hand_out k) s.views in absurd (omega (arith, ap (over_at shows) there))) hand;
  }

  -- and then what lay there has faults where the seat noted one
  pub knows_taken : (y : S) → get_elem? s.homes (p.requests + k) ≡ some (some y) → 0 < faults_of k v → 0 < rose y
  knows_taken y there some_ = let home = ap present there in let none_out : total (out_of k) s.views ≡ 0 = omega (arith, old.once) in
      let a = old.faulty (omega (arith, term_le (faults_of k) s.views id v here)) in omega (arith, ap (rose_at rose) there, none_noted k s.views none_out)

  -- the seat that has it in hand puts it back
  pub puts : (y : S) → get_elem? hs (p.requests + k) ≡ some (some y) → 0 < out_of k v → out_of k w ≡ 0 → (rose y ≡ 0 → faults_of k w ≡ faults_of k v) → (0 < faults_of k v → 0 < rose y)
      → (is_over (shows y) ≡ 1) ⊎ ((0 < total (away k) v.rights) × (ends_of p k w ≡ ends_of p k v))
      → LinkFaults shows rose p record { words = ws; homes = hs; views = set s.views id w } k
  puts y back in_hand out none_ known over = let le = term_le (out_of k) s.views id v here in let gone : present (get_elem? s.homes (p.requests + k)) ≡ 0 = omega (arith, old.once) in let new_out : total (out_of k) (set s.views id w) ≡ 0 = omega (arith, outs, old.once) in record {
    once = omega (arith, outs, ap present back, old.once);
    faulty = λ some_. dite (ℕ_discrete (rose y) 0)
        (λ z. let n = none_ z in let few : faults_of k v ≡ 0 = dite (ℕ_discrete (faults_of k v) 0) (λ e. e) (λ ne. absurd (omega (arith, known (omega arith)))) in
        let a = old.faulty (omega (arith, notes)) in absurd (omega (arith, none_rose rose (get_elem? s.homes (p.requests + k)) gone, total-set (noted_out k) s.views id v w here, none_noted k (set s.views id w) new_out, no_noted k w out, some_noted k v (λ e. omega arith))))
        (λ nz. omega (arith, ap (rose_at rose) back));
    over = λ some_. ⊎_elim (λ e. omega (arith, ap (over_at shows) back)) (λ r. let a = old.over (omega (arith, ends, r.1)) in absurd (omega (arith, none_over shows (get_elem? s.homes (p.requests + k)) gone, by_right r.0))) over;
  }
    where
      -- in the hand of a right it is in no other
      by_right : 0 < total (away k) v.rights → total (hands_of k) s.views ≡ 0
      by_right r = let u : View = record v { rights = [] } in let le = total_mono (hands_of k) (out_of k) (hand_out k) (set s.views id u) in
          omega (arith, old.once, total-set (hands_of k) s.views id v u here, total-set (out_of k) s.views id v u here)

-- ## Of all links, where one is taken or put back

-- the seat takes link k, which lay at home as y, and notes it in slot i where that has faults
module _ {S : Type 0} {shows : S → Home} {rose : S → ℕ} {p : Plan} {s : State S View} (all : (l : ℕ) → l < p.links → LinkFaults shows rose p s l) (id : ℕ) (v u : View) (here : get_elem? s.views id ≡ some v) (k : ℕ) (y : S) (low : k < p.links) (long : p.requests + k < length s.homes) where
  pub takes_link : (ws : List ℕ) (i : ℕ) → get_elem? s.homes (p.requests + k) ≡ some (some y) → u.marks ≡ v.marks → ((l : ℕ) → out_of l u ≡ out_of l v + only l k)
      → ((l : ℕ) → l ≢ k → hands_of l u ≡ hands_of l v) → (0 < hands_of k u) ⊎ (is_over (shows y) ≡ 0)
      → (l : ℕ) → l < p.links → LinkFaults shows rose p record { words = ws; homes = set s.homes (p.requests + k) none; views = set s.views id (fault_found (rose y) i k u) } l
  takes_link ws i there marks outs hands hand l ll = let n : ℕ = rose y in let w : View = fault_found (rose y) i k u in let hs : List (Option S) = set s.homes (p.requests + k) none in
      let others = (found_alike (rose y) i k u).others in let same : faults_of l u ≡ faults_of l v = ap (total (faults_link l)) marks in let out : out_of l w ≡ out_of l u = ap (out_of l) others in
      dite (ℕ_discrete l k)
      (λ e. subst (λ (x : ℕ). LinkFaults shows rose p record { words = ws; homes = set s.homes (p.requests + k) none; views = set s.views id (fault_found (rose y) i k u) } x) (sym e)
      (let out_k : out_of k w ≡ out_of k u = ap (out_of k) others in let same_k : faults_of k u ≡ faults_of k v = ap (total (faults_link k)) marks in
      takes id v w here ws hs k (all k low) y there (set_here s.homes (p.requests + k) none long) (omega (arith, out_k, outs k, only-same k))
      (omega (arith, same_k, found_more n i k k u)) (λ z. found_none n i k k u z ∙ same_k) (λ some_. found_some n i k u some_)
      (found_else n i k (p.links + k) u (λ z. omega arith) ∙ ap (total (faults_link (p.links + k))) marks) (⊎_elim (λ h. inl (omega (arith, ap (hands_of k) others))) (λ z. inr z) hand)))
      (λ ne. calm id v w here ws hs l (all l ll) (set_else s.homes (p.requests + k) (p.requests + l) none (λ z. ne (omega arith))) (found_else n i k l u (λ z. ne (sym z)) ∙ same) (omega (arith, out, outs l, only-else l k (λ z. ne (sym z))))
      (found_else n i k (p.links + l) u (λ z. omega arith) ∙ ap (total (faults_link (p.links + l))) marks) (ap (hands_of l) others ∙ hands l ne))

  -- the seat that has link k in hand puts it back as y
  pub puts_link : (ws : List ℕ) → ((l : ℕ) → l ≢ k → l ≢ p.links + k → faults_of l u ≡ faults_of l v) → (rose y ≡ 0 → faults_of k u ≡ faults_of k v) → ((l : ℕ) → out_of l v ≡ out_of l u + only l k) → (0 < faults_of k v → 0 < rose y)
      → ((l : ℕ) → l ≢ k → hands_of l u ≡ hands_of l v) → (is_over (shows y) ≡ 1) ⊎ ((0 < total (away k) v.rights) × (ends_of p k u ≡ ends_of p k v))
      → (l : ℕ) → l < p.links → LinkFaults shows rose p record { words = ws; homes = set s.homes (p.requests + k) (some y); views = set s.views id u } l
  puts_link ws rest same outs known hands over l ll = let hs : List (Option S) = set s.homes (p.requests + k) (some y) in
      let le = term_le (out_of k) s.views id v here in let once = (all k low).once in
      dite (ℕ_discrete l k)
      (λ e. subst (λ (x : ℕ). LinkFaults shows rose p record { words = ws; homes = set s.homes (p.requests + k) (some y); views = set s.views id u } x) (sym e)
      (puts id v u here ws hs k (all k low) y (set_here s.homes (p.requests + k) (some y) long) (omega (arith, outs k, only-same k)) (omega (arith, outs k, only-same k)) same known over))
      (λ ne. calm id v u here ws hs l (all l ll) (set_else s.homes (p.requests + k) (p.requests + l) (some y) (λ z. ne (omega arith))) (rest l ne (λ z. omega arith)) (omega (arith, outs l, only-else l k (λ z. ne (sym z)))) (rest (p.links + l) (λ z. omega arith) (λ z. ne (omega arith))) (hands l ne))

-- a new table
pub new_faults : {S : Type 0} {shows : S → Home} {rose : S → ℕ} (p : Plan) (ws : List ℕ) (hs : List (Option S)) (v : View) (k : ℕ) (y : S) → get_elem? hs (p.requests + k) ≡ some (some y) → v.marks ≡ [] → v.rights ≡ [] → v.hands ≡ [] → LinkFaults shows rose p record { words = ws; homes = hs; views = v ∷ [] } k
new_faults p ws hs v k y home marks rights hands = record {
  once = omega (arith, ap present home, ap (total (away k)) rights, ap (total (carries k)) hands);
  faulty = λ some_. absurd (omega (arith, ap (total (faults_link k)) marks));
  over = λ some_. absurd (omega (arith, ap (total (faults_link (p.links + k))) marks));
}

-- a seat is split off that has noted nothing, and has no link in hand
pub split_faults : {S : Type 0} {shows : S → Home} {rose : S → ℕ} {p : Plan} {s : State S View} (id : ℕ) (v left right : View) → get_elem? s.views id ≡ some v → (k : ℕ) → LinkFaults shows rose p s k → faults_of k left ≡ faults_of k v → out_of k left ≡ out_of k v → faults_of k right ≡ 0 → out_of k right ≡ 0 → ends_of p k left ≡ ends_of p k v → hands_of k left ≡ hands_of k v → ends_of p k right ≡ 0
    → LinkFaults shows rose p record { words = s.words; homes = s.homes; views = set s.views id left ++ right ∷ [] } k
split_faults {shows = shows} {p = p} {s = s} id v left right here k old faults outs none_ home ends hands no_end = let first : List View = set s.views id left in record {
  once = omega (arith, old.once, total-append (out_of k) first (right ∷ []), total-set (out_of k) s.views id v left here);
  faulty = λ some_. (let a = old.faulty (omega (arith, total-append (faults_of k) first (right ∷ []), total-set (faults_of k) s.views id v left here)) in
      omega (arith, total-append (noted_out k) first (right ∷ []), total-set (noted_out k) s.views id v left here, noted_same k v left outs faults, no_noted k right home));
  over = λ some_. (let a = old.over (omega (arith, total-append (ends_of p k) first (right ∷ []), total-set (ends_of p k) s.views id v left here)) in
      omega (arith, total-append (hands_of k) first (right ∷ []), total-set (hands_of k) s.views id v left here));
}

-- a seat takes in another, which has no link in hand
pub join_faults : {S : Type 0} {shows : S → Home} {rose : S → ℕ} {p : Plan} {s : State S View} (id other : ℕ) (v w both gone : View) → get_elem? s.views id ≡ some v → get_elem? (set s.views id both) other ≡ some w → (k : ℕ) → LinkFaults shows rose p s k
    → faults_of k both ≡ faults_of k v + faults_of k w → out_of k both ≡ out_of k v → out_of k w ≡ 0 → faults_of k gone ≡ 0 → out_of k gone ≡ 0
    → ends_of p k both ≡ ends_of p k v + ends_of p k w → hands_of k both ≡ hands_of k v → ends_of p k gone ≡ 0
    → LinkFaults shows rose p record { words = s.words; homes = s.homes; views = set (set s.views id both) other gone } k
join_faults {shows = shows} {p = p} {s = s} id other v w both gone here there k old faults outs empty none_ home ends hands no_end = let first : List View = set s.views id both in record {
  once = omega (arith, old.once, total-set (out_of k) first other w gone there, total-set (out_of k) s.views id v both here);
  faulty = λ some_. (let a = old.faulty (omega (arith, total-set (faults_of k) first other w gone there, total-set (faults_of k) s.views id v both here)) in
      let more : noted_out k v ≤ noted_out k both = dite (ℕ_discrete (out_of k v) 0) (λ e. omega (arith, no_noted k v e)) (λ ne. omega (arith, some_noted k v ne, some_noted k both (λ e. ne (sym outs ∙ e)))) in
      omega (arith, total-set (noted_out k) first other w gone there, total-set (noted_out k) s.views id v both here, no_noted k w empty, no_noted k gone home));
  over = λ some_. (let a = old.over (omega (arith, total-set (ends_of p k) first other w gone there, total-set (ends_of p k) s.views id v both here)) in
      omega (arith, total-set (hands_of k) first other w gone there, total-set (hands_of k) s.views id v both here, hand_out k w));
}

-- once all seats are taken in by one, which has no link in hand
pub close_faults : {S : Type 0} {shows : S → Home} {rose : S → ℕ} {p : Plan} {s : State S View} (k : ℕ) (v : View) (y : S) → LinkFaults shows rose p s k → get_elem? s.homes (p.requests + k) ≡ some (some y) → total (faults_of k) s.views ≡ faults_of k v → 0 < faults_of k v → 0 < rose y
close_faults {rose = rose} {s = s} k v y old home all some_ = let a = old.faulty (omega arith) in omega (arith, old.once, ap present home, ap (rose_at rose) home, none_noted k s.views (let b = old.once in let c = ap present home in omega arith))

-- and no hand has it: it is finished where a seat noted that
pub close_over : {S : Type 0} {shows : S → Home} {rose : S → ℕ} {p : Plan} {s : State S View} (k : ℕ) (v : View) (y : S) → LinkFaults shows rose p s k → get_elem? s.homes (p.requests + k) ≡ some (some y) → total (ends_of p k) s.views ≡ ends_of p k v → 0 < ends_of p k v → is_over (shows y) ≡ 1
close_over {shows = shows} {s = s} k v y old home all some_ = let a = old.over (omega arith) in let le = total_mono (hands_of k) (out_of k) (hand_out k) s.views in
    over_one (shows y) (omega (arith, old.once, ap present home, ap (over_at shows) home))
  where
    over_one : (x : Home) → 0 < is_over x → is_over x ≡ 1
    over_one (Link l took next true) some_ = refl
    over_one (Link l took next false) some_ = absurd (omega arith)
    over_one _ some_ = absurd (omega arith)
