-- The table at the start, seats that are split off, and seats that are joined.
use Rattle.std.proofs.Common.{◌≡◌, ℕ, zero, suc, ◌+◌, ◌-◌, ◌/◌, ◌%◌, ◌<◌, ◌≤◌, List, [], ◌∷◌, ◌++◌, map, length, get_or, set, sym, refl, ap, ◌∙◌, subst, ⊎_elim, arith, eq-eqb, ne_eqb, length-set, length-append}
use mathlib.Core.List.{map-append}
use mathlib.Core.Logic.{dite}
use mathlib.Core.Option.{Option, some, some-injective, some-ne-none}
use native.Mathlib.Decide.{ℕ_discrete, dec_le}
use lib.ListN.{get_elem?}
use lib.Seq.{map-set}
use Rattle.atomic_table.specs.Table.{State}
use Rattle.atomic_table.proofs.Lists.{at_map, at_snoc, set_again, set_else}
use Rattle.sock_model.specs.declared.marks.Mark.{Mark}
use Rattle.sock_model.specs.declared.marks.SlotMark.{SlotMark}
use Rattle.sock_model.specs.declared.view.View.{View}
use Rattle.sock_model.specs.sock_words.specs.declared.plain.Plan.{Plan}
use Rattle.sock_model.specs.MarkWeights.{tally, only, is_ref, is_busy, is_claimed, is_recycling, is_tried, is_recycled, is_hold, is_saw, is_zero, is_known, is_born, is_failer, is_freer, is_coding, is_coded, is_any_coding, is_stored, is_told, is_stage, is_linked, is_met}
use Rattle.sock_model.specs.Marks.{about, says}
use Rattle.sock_model.specs.SocketTableLayout.{ref_index, name_index, open_index}
use Rattle.sock_model.specs.SocketSlotLaw.{SlotFacts, live_by, live, Each, KeepsCodes, SlotLaw}
use Rattle.sock_model.specs.References.{spare, sayers, uses_of, uses_link, slot_facts, References}
use Rattle.slot_steps.proofs.SlotWeightSums.{total-append, total-set, each_set}
use Rattle.sock_model.specs.ViewsOfSplitSeats.{newcomer, spent, joined, Unused, below, later, earliest}
use Rattle.slot_steps.proofs.RuleNumbers.{only_le, only-else, life-none, live-free}
use Rattle.sock_model.specs.sock_words.specs.PackedWords.{vref_version, vref_nref}
use Rattle.sock_model.specs.sock_words.specs.Totals.{total}

abbrev start : ℕ → SlotFacts
start first = record { tag = 0; version = first; nref = 0; link = 0; code = 0; marks = [] ∷ [] }

only_one : (P : List Mark → Type 0) → P [] → Each ([] ∷ []) P
only_one P p zero m e = subst P (some-injective [] m e) p
only_one P p (suc j) m e = absurd (some-ne-none m (sym e))

fresh_law : (first : ℕ) → first % 2 ≡ 0 → first ≤ 4294967292 → SlotLaw first 0 (start first)
fresh_law first even low = record {
  tag = record {
    tagged = omega arith;
    busy_once = omega arith;
    busy_taken = λ p. absurd (omega arith);
    busy_even = λ p. absurd (omega arith);
    free_even = λ p. even;
    free_low = λ p. low;
    claimed_low = λ p. low;
    recycled = λ w p. absurd (omega arith);
    taken_by = λ p. absurd (omega arith);
    staged = λ n k p. absurd (omega arith);
  };
  word = record {
    counted = omega arith;
    few = only_one (λ m. total is_ref m ≤ 65540) (omega arith);
    begun = omega arith;
    top = omega arith;
    held = λ h p. absurd (omega arith);
    saw = λ w p. absurd (omega arith);
    zero_noted = λ p q. absurd (omega arith);
    known = λ h p. absurd (omega arith);
    born = λ h. omega (arith, life-none first h (first + 0) (omega arith));
    failed = λ h. omega (arith, life-none first h first (omega arith));
    ended = λ h. omega (arith, life-none first h (first - 1) (omega arith));
  };
  code = record {
    codes = only_one KeepsCodes ((λ h. omega arith), λ h p. absurd (omega arith));
    coding_once = omega arith;
    coding_odd = λ p. absurd (omega arith);
    code_none = λ p. refl;
    code_is = λ h c p. absurd (omega arith);
    code_even = λ h c p. absurd (omega arith);
    code_by = λ p q. absurd (omega arith);
    told = λ h c p. absurd (omega arith);
  };
  link = record {
    link_low = λ h k p. absurd (omega arith);
    link_even = λ h k p. absurd (omega arith);
    link_begun = λ h k p. absurd (omega arith);
    met = λ h k p. absurd (omega arith);
    link_is = λ h k p q. absurd (omega arith);
    link_live = λ p. absurd (omega arith);
    link_odd = λ p. absurd (omega arith);
    link_last = λ p. absurd (omega arith);
  };
}

module _ {S : Type 0} where
  pub opening_keeps : (p : Plan) (ws : List ℕ) (homes : List (Option S)) (ps : List ℕ) (more : ℕ) → Unused p ws → ((k : ℕ) → total (only k) ps ≤ 1) → 1 + more ≤ 512
      → p.first % 2 ≡ 0 → p.first ≤ 4294967292 → References p record { words = ws; homes = homes; views = newcomer p ps more ∷ [] }
  opening_keeps p ws homes ps more u once small even low = let s : State S View = record { words = ws; homes = homes; views = newcomer p ps more ∷ [] } in record {
    sized = u.sized;
    seat_limit = omega arith;
    slots = λ i inside. let r = u.refs i inside in let e₀ = u.tags i inside in let e₁ : vref_version (get_or ws (ref_index i) 0) ≡ p.first = omega arith in let e₁' : vref_nref (get_or ws (ref_index i) 0) ≡ 0 = omega arith in
        let e₂ = u.links i inside in let e₄ = u.codes i inside in
        let is : slot_facts s i ≡ start p.first = λ q. record { tag = e₀ q; version = e₁ q; nref = e₁' q; link = e₂ q; code = e₄ q; marks = [] ∷ [] } in
        subst (λ (l : SlotFacts). SlotLaw p.first (live l) l) (sym is) (subst (λ (x : ℕ). SlotLaw p.first x (start p.first)) (sym (live-free 0 p.first 0 refl)) (fresh_law p.first even low));
    links = λ k. omega (arith, once k);
    named = record {
      names = λ n inside ne. absurd (ne (u.names n inside));
      opens = λ o inside full ne. absurd (ne (u.opens o inside));
      names_by = λ n inside ne. absurd (ne (u.names n inside));
      opens_by = λ o inside ne. absurd (ne (u.opens o inside));
    };
  }

pub about-append : (i : ℕ) (a b : List SlotMark) → about i (a ++ b) ≡ about i a ++ about i b
about-append i [] b = refl
about-append i (e ∷ es) b = let ih = about-append i es b in dite (ℕ_discrete e.slot i)
    (λ y. let q = eq-eqb e.slot i y in simp (q, ih)) (λ n. let q = ne_eqb e.slot i n in simp (q, ih))

-- the same marks in other seats' hands
recounted : (first lives : ℕ) (l : SlotFacts) (ms : List (List Mark)) → ((f : Mark → ℕ) → tally f ms ≡ tally f l.marks) → Each ms (λ m. total is_ref m ≤ 65540) → Each ms KeepsCodes
    → SlotLaw first lives l → SlotLaw first lives record l { marks = ms }
recounted first lives l ms same few codes law = record {
  tag = record {
    tagged = law.tagged;
    busy_once = omega (arith, same is_busy, law.busy_once);
    busy_taken = λ p. law.busy_taken (omega (arith, same is_busy));
    busy_even = λ p. law.busy_even (omega (arith, same is_busy));
    free_even = law.free_even;
    free_low = law.free_low;
    claimed_low = λ p. law.claimed_low (omega (arith, same is_claimed));
    recycled = λ v p. law.recycled v (omega (arith, same (is_recycled v)));
    taken_by = λ p. omega (arith, same is_claimed, same is_tried, law.taken_by);
    staged = λ n k p. law.staged n k (omega (arith, same (is_stage n k)));
  };
  word = record {
    counted = omega (arith, same is_ref, law.counted);
    few = few;
    begun = law.begun;
    top = law.top;
    held = λ h p. law.held h (omega (arith, same (is_hold h)));
    saw = λ v p. law.saw v (omega (arith, same (is_saw v)));
    zero_noted = λ p q. omega (arith, same (is_zero l.version), law.zero_noted p q);
    known = λ h p. law.known h (omega (arith, same (is_known h)));
    born = λ h. omega (arith, same (is_born h), law.born h);
    failed = λ h. omega (arith, same (is_failer h), law.failed h);
    ended = λ h. omega (arith, same (is_freer h), law.ended h);
  };
  code = record {
    codes = codes;
    coding_once = omega (arith, same is_any_coding, law.coding_once);
    coding_odd = λ p. law.coding_odd (omega (arith, same is_any_coding));
    code_none = λ p. law.code_none (omega (arith, same is_any_coding));
    code_is = λ h c p. law.code_is h c (omega (arith, same (is_stored h c)));
    code_even = λ h c p. law.code_even h c (omega (arith, same (is_stored h c)));
    code_by = λ p q. omega (arith, same (is_stored (l.version - 1) l.code), law.code_by p q);
    told = λ h c p. omega (arith, same (is_stored h c), law.told h c (omega (arith, same (is_told h c))));
  };
  link = record {
    link_low = λ h k p. law.link_low h k (omega (arith, same (is_linked h k)));
    link_even = λ h k p. law.link_even h k (omega (arith, same (is_linked h k)));
    link_begun = λ h k p. law.link_begun h k (omega (arith, same (is_linked h k)));
    met = λ h k p. omega (arith, same (is_linked h k), law.met h k (omega (arith, same (is_met h k))));
    link_is = λ h k p q. law.link_is h k (omega (arith, same (is_linked h k))) (omega (arith, same is_recycling));
    link_live = λ p. omega (arith, same (is_linked l.version l.link), law.link_live p);
    link_odd = λ p. omega (arith, same (is_linked (l.version - 1) l.link), law.link_odd p);
    link_last = λ p. omega (arith, same (is_linked (l.version - 2) l.link), law.link_last (omega (arith, same is_recycling)));
  };
}

module _ {S : Type 0} (p : Plan) (s : State S View) (law : References p s) (vs : List View)
    (same : (i : ℕ) (f : Mark → ℕ) → tally f (map (λ (u : View). about i u.marks) vs) ≡ tally f (map (λ (u : View). about i u.marks) s.views))
    (few : (i : ℕ) → i < p.slots → Each (map (λ (u : View). about i u.marks) vs) (λ m. total is_ref m ≤ 65540))
    (codes : (i : ℕ) → i < p.slots → Each (map (λ (u : View). about i u.marks) vs) KeepsCodes)
    (links : (k : ℕ) → total (uses_of k) vs ≤ total (uses_of k) s.views) (seat_limit : length vs + total spare vs ≤ 512) (said : (x w : ℕ) → total (sayers x w) s.views ≤ total (sayers x w) vs) where
  -- seats that change hands and no word
  reseated : References p record { words = s.words; homes = s.homes; views = vs }
  reseated = let t : State S View = record { words = s.words; homes = s.homes; views = vs } in record {
    sized = law.sized;
    seat_limit = seat_limit;
    slots = λ i inside. let lv : live (slot_facts t i) ≡ live (slot_facts s i) = ap (live_by (slot_facts s i).tag (slot_facts s i).version) (same i is_busy) in
        subst (λ (x : ℕ). SlotLaw p.first x (slot_facts t i)) (sym lv) (recounted p.first (live (slot_facts s i)) (slot_facts s i) (slot_facts t i).marks (same i) (few i inside) (codes i inside) (law.slots i inside));
    links = λ k. omega (arith, links k, law.links k);
    named = record {
      names = λ n inside ne. let o = law.named.names n inside ne in let w : ℕ = get_or s.words (name_index p n) 0 in (o.0, omega (arith, o.1, same ((w - 1) % 4294967296) (is_born ((w - 1) / 4294967296))));
      opens = λ n inside full ne. let o = law.named.opens n inside full ne in let w : ℕ = get_or s.words (open_index p n) 0 in (o.0, omega (arith, o.1, same ((w - 1) % 4294967296) (is_born ((w - 1) / 4294967296))));
      names_by = λ n inside ne. let w : ℕ = get_or s.words (name_index p n) 0 in omega (arith, law.named.names_by n inside ne, said (name_index p n) w);
      opens_by = λ n inside ne. let w : ℕ = get_or s.words (open_index p n) 0 in omega (arith, law.named.opens_by n inside ne, said (open_index p n) w);
    };
  }

both_keep : (a b : List Mark) → KeepsCodes a → KeepsCodes b → KeepsCodes (a ++ b)
both_keep a b p q = (
  (λ h. omega (arith, total-append (is_failer h) a b, total-append (is_coding h) a b, total-append (is_coded h) a b, p.0 h, q.0 h)),
  (λ h r. let g = total-append (is_hold h) a b in let s = total-append (is_saw (h + 1)) a b in dite (dec_le (total (is_coding h) a) 0)
      (λ none_. let t = q.1 h (omega (arith, total-append (is_coding h) a b)) in let t₀ = t.0 in let t₁ = t.1 in (omega arith, omega arith))
      (λ some_. let t = p.1 h (omega arith) in let t₀ = t.0 in let t₁ = t.1 in (omega arith, omega arith))),
)

each_snoc : (P : List Mark → Type 0) (ms : List (List Mark)) → Each ms P → P [] → Each (ms ++ [] ∷ []) P
each_snoc P ms all p j m e = ⊎_elim (λ t. all j m t) (λ t. subst P t p) (at_snoc ms [] m j e)

module _ {S : Type 0} (p : Plan) (s : State S View) (law : References p s) (id : ℕ) (v : View) (here : get_elem? s.views id ≡ some v) where
  abbrev f : ℕ → View → List Mark
  f i u = about i u.marks

  -- the first keeps its marks
  pub split_keeps : (mine its : List ℕ) (some_ more : ℕ) → ((k : ℕ) → total (only k) mine + total (only k) its ≤ total (only k) v.passes) → some_ + more + 1 ≤ v.spare
      → References p record { words = s.words; homes = s.homes; views = set s.views id (record v { passes = mine; spare = some_ }) ++ newcomer v.plan its more ∷ [] }
  split_keeps mine its some_ more passes room = let left : View = record v { passes = mine; spare = some_ } in let right : View = newcomer v.plan its more in let vs : List View = set s.views id left in
      let is : (i : ℕ) → map (f i) (vs ++ right ∷ []) ≡ map (f i) s.views ++ [] ∷ [] = λ i. map-append (f i) vs (right ∷ []) ∙ ap (λ (x : List (List Mark)). x ++ [] ∷ []) (map-set (f i) s.views id left ∙ set_again (map (f i) s.views) id (f i v) (at_map (f i) s.views id v here)) in
      let long = length-set s.views id left in
      reseated p s law (vs ++ right ∷ [])
      (λ i g. ap (tally g) (is i) ∙ (let a = total-append (total g) (map (f i) s.views) ([] ∷ []) in let goal : tally g (map (f i) s.views ++ [] ∷ []) ≡ tally g (map (f i) s.views) = omega arith in goal))
      (λ i inside. subst (λ (x : List (List Mark)). Each x (λ m. total is_ref m ≤ 65540)) (sym (is i)) (each_snoc (λ m. total is_ref m ≤ 65540) (map (f i) s.views) (law.slots i inside).few (omega arith)))
      (λ i inside. subst (λ (x : List (List Mark)). Each x KeepsCodes) (sym (is i)) (each_snoc KeepsCodes (map (f i) s.views) (law.slots i inside).codes ((λ h. omega arith), λ h q. absurd (omega arith))))
      (λ k. omega (arith, total-append (uses_of k) vs (right ∷ []), total-set (uses_of k) s.views id v left here, passes k))
      (omega (arith, law.seat_limit, total-append spare vs (right ∷ []), total-set spare s.views id v left here, length-append vs (right ∷ [])))
      (λ x z. omega (arith, total-append (sayers x z) vs (right ∷ []), total-set (sayers x z) s.views id v left here))

  -- the other holds no reference, and its view is empty afterwards
  pub join_keeps : (other : ℕ) (w : View) → ¬ (other ≡ id) → get_elem? (set s.views id (joined v w)) other ≡ some w → ((i : ℕ) → i < p.slots → total is_ref (about i w.marks) ≡ 0)
      → References p record { words = s.words; homes = s.homes; views = set (set s.views id (joined v w)) other (spent) }
  join_keeps other w ne there idle = let both : View = joined v w in let vs : List View = set s.views id both in let void : View = spent in
      let is : (i : ℕ) → map (f i) (set vs other void) ≡ set (set (map (f i) s.views) id (f i v ++ f i w)) other [] = λ i. map-set (f i) vs other void ∙ ap (λ (x : List (List Mark)). set x other []) (map-set (f i) s.views id both ∙ ap (set (map (f i) s.views) id) (about-append i v.marks w.marks)) in
      let mine : (i : ℕ) → get_elem? (map (f i) s.views) id ≡ some (f i v) = λ i. at_map (f i) s.views id v here in
      let its : (i : ℕ) → get_elem? (set (map (f i) s.views) id (f i v ++ f i w)) other ≡ some (f i w) = λ i.
      subst (λ (x : List (List Mark)). get_elem? x other ≡ some (f i w)) (map-set (f i) s.views id both ∙ ap (set (map (f i) s.views) id) (about-append i v.marks w.marks)) (at_map (f i) vs other w there) in
      let old : get_elem? s.views other ≡ some w = sym (set_else s.views id other both ne) ∙ there in
      reseated p s law (set vs other void)
      (λ i g. ap (tally g) (is i) ∙ (let a = total-set (total g) (map (f i) s.views) id (f i v) (f i v ++ f i w) (mine i) in let b = total-set (total g) (set (map (f i) s.views) id (f i v ++ f i w)) other (f i w) [] (its i) in
      let e = total-append g (f i v) (f i w) in let goal : tally g (set (set (map (f i) s.views) id (f i v ++ f i w)) other []) ≡ tally g (map (f i) s.views) = omega arith in goal))
      (λ i inside. subst (λ (x : List (List Mark)). Each x (λ m. total is_ref m ≤ 65540)) (sym (is i))
      (each_set (λ m. total is_ref m ≤ 65540) (set (map (f i) s.views) id (f i v ++ f i w)) other [] (each_set (λ m. total is_ref m ≤ 65540) (map (f i) s.views) id (f i v ++ f i w) (law.slots i inside).few
      (let a = (law.slots i inside).few id (f i v) (mine i) in omega (arith, total-append is_ref (f i v) (f i w), idle i inside))) (omega arith)))
      (λ i inside. subst (λ (x : List (List Mark)). Each x KeepsCodes) (sym (is i))
      (each_set KeepsCodes (set (map (f i) s.views) id (f i v ++ f i w)) other [] (each_set KeepsCodes (map (f i) s.views) id (f i v ++ f i w) (law.slots i inside).codes
      (both_keep (f i v) (f i w) ((law.slots i inside).codes id (f i v) (mine i)) ((law.slots i inside).codes other (f i w) (at_map (f i) s.views other w old)))) ((λ h. omega arith), λ h q. absurd (omega arith))))
      (λ k. omega (arith, total-set (uses_of k) s.views id v both here, total-set (uses_of k) vs other w void there, total-append (only k) v.passes w.passes, total-append (uses_link k) v.marks w.marks))
      (omega (arith, law.seat_limit, total-set spare s.views id v both here, total-set spare vs other w void there, length-set s.views id both, length-set vs other void))
      (λ x z. omega (arith, total-set (sayers x z) s.views id v both here, total-set (sayers x z) vs other w void there, total-append (says x z) v.stores w.stores))

-- each number below n stands once
pub below-once : (k n : ℕ) → (total (only k) (below n) ≤ 1) × (n ≤ k → total (only k) (below n) ≡ 0)
below-once k zero = (omega arith, λ _. refl)
below-once k (suc n) = let t = below-once k n in let t₀ = t.0 in dite (ℕ_discrete n k)
    (λ e. let none_ = t.1 (omega arith) in (omega (arith, only_le k n), λ h. absurd (omega arith)))
    (λ ne. let z = only-else k n ne in (omega arith, λ h. omega (arith, t.1 (omega arith))))

pub passes-left : (k : ℕ) (ps : List ℕ) → total (only k) (later ps) + total (only k) (earliest ps) ≡ total (only k) ps
passes-left k [] = omega arith
passes-left k (p ∷ ps) = omega arith
