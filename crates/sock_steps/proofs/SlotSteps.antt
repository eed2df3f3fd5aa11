-- The steps on slots that leave the chains: each keeps the rule. A2, S3 and a won A6 stand in files of their own.
use Rattle.std.proofs.Common.{◌≡◌, ◌≢◌, ℕ, ◌+◌, ◌-◌, ◌*◌, ◌/◌, ◌%◌, ◌^◌, ◌<◌, ◌≤◌, ◌⊎◌, Bool, true, List, [], ◌∷◌, get_or, set, get_or-set_other, refl, sym, ap, ◌∙◌, subst, inl, inr, ⊎_elim, arith, bit_or, cond, eqb, lt-ltb, le-ltb, nat_lt}
use mathlib.Core.Logic.{dite}
use mathlib.Core.Option.{some}
use native.Mathlib.Decide.{ℕ_discrete, dec_le}
use lib.ListN.{get_elem?}
use lib.Seq.{set-get_or}
use Rattle.atomic_table.proofs.Lists.{set_again}
use Rattle.atomic_table.specs.Table.{State, stepped, keeps}
use Rattle.sock_model.specs.declared.marks.Mark.{Mark}
use Rattle.sock_model.specs.declared.marks.Mark.TheVariants.{Hold, Zero}
use Rattle.sock_model.specs.declared.marks.SlotMark.{SlotMark}
use Rattle.sock_model.specs.declared.chain.Right.{Right}
use Rattle.sock_model.specs.declared.home.Home.{Home}
use Rattle.sock_model.specs.sock_words.specs.declared.plain.Plan.{Plan}
use Rattle.sock_model.specs.declared.view.View.{View}
use Rattle.sock_model.specs.MarkWeights.{only, is_ref, is_probe, is_any_coding, is_stage, is_reset, is_recycled, is_hold, is_known, is_zero, is_coding, is_met, is_born}
use Rattle.sock_model.specs.Marks.{about, at, without, without_at}
use Rattle.sock_model.specs.SocketTableLayout.{tag_index, ref_index, link_index, head_index, code_index, request_index, next_index, place_index, name_index, open_index}
use Rattle.sock_model.specs.SocketSlotLaw.{count}
use Rattle.sock_model.specs.References.{slot_facts, References}
use Rattle.sock_model.specs.SlotRows.{marks_of, claimed, added, back, subbed, failed, recycled, freed, looked, linked, staged, coded, told_code, met, wrote, met_link}
use Rattle.sock_model.specs.ChainLawReads.{carries}
use Rattle.sock_model.specs.LinksInSlots.{HoldsRights}
use Rattle.sock_model.specs.LawfulSockets.{Lawful}
use Rattle.slot_steps.proofs.SlotWeightSums.{taken, about-here}
use Rattle.slot_steps.proofs.OtherSlotsUntouched.{about-without}
use Rattle.slot_steps.proofs.RuleNumbers.{only_le}
use Rattle.slot_steps.proofs.ReferenceStepsKeepSlot.{IsRef, probe-ref, hold-ref, probe_is}
use Rattle.slot_steps.proofs.KeptByTagSteps.{conds, claim_keeps, add_ref_keeps, sub_ref_keeps, life_found, set_odd_keeps, recycle_lost_keeps, free_keeps, look_keeps}
use Rattle.slot_steps.proofs.Stored.{link_keeps, wipe_keeps, code_keeps, found_code_keeps, find_keeps, meet_keeps, meet_last_keeps, store_name_keeps, store_open_keeps}
use Rattle.sock_steps.proofs.SumsAsMarksChange.{either_way}
use Rattle.sock_steps.proofs.Steady.{Steady, NoReset, Holds, SameChain, added_steady, added_holds, subbed_steady, subbed_recycling, subbed_else, failed_steady, failed_holds, looked_steady, met_steady, met_link_steady, claimed_steady, freed_steady, lost_steady, coded_steady, told_steady, wrote_steady, staged_steady, staged_reset, linked_steady}
use Rattle.sock_steps.proofs.LifeLinkSlotPlaces.{counts}
use Rattle.sock_steps.proofs.SlotFrame.{still_holds, ChainWords, slot_frame}
use Rattle.sock_model.specs.sock_words.specs.PackedWords.{vref_version, vref_nref, IDLE}
use Rattle.sock_model.specs.sock_words.specs.Totals.{total}

-- the rights of the seat that have their life in slot i keep a reference to it
abbrev pub KeepsRights : ℕ → View → Type 0
KeepsRights i v = (x : ℕ) (r : Right) (h : ℕ) → get_elem? v.rights x ≡ some r → 0 < marks_of (is_hold h) i v → 0 < marks_of (is_met h r.link) i v → (0 < marks_of is_probe i v) ⊎ (1 < marks_of (is_hold h) i v)

-- a hold of a mark that counts once
one_less : (f g : Mark → ℕ) → ((x : Mark) → f x ≤ 1) → (ms : List Mark) → 0 < total g ms → total f ms ≤ total f (without g ms) + 1
one_less f g le ms h = let t = taken g ms h in let a = t.2 f in omega (arith, le t.0)

hold_le : (h : ℕ) (x : Mark) → is_hold h x ≤ 1
hold_le h (Hold k) = only_le h k
hold_le h _ = omega arith

module _ (i found : ℕ) (v : View) (some_ref : 0 < marks_of is_ref i v) where
  sub_hold : (g : Mark → ℕ) (h : ℕ) → total (is_hold h) (without g (about i v.marks)) ≤ marks_of (is_hold h) i (subbed i found g v)
  sub_hold g h = let x : ℕ = vref_version found in let r : List SlotMark = without_at i g v.marks in let q = ap (total (is_hold h)) (about-without i g v.marks) in
      conds (eqb (x % 2) 1) (eqb (vref_nref found) 1) (at i (Zero x) ∷ r) r (λ es. total (is_hold h) (without g (about i v.marks)) ≤ total (is_hold h) (about i es)) (let a = ap (total (is_hold h)) (about-here i (Zero x) r) in omega arith) (omega arith)

  -- where a reference to the word goes, or one of two to a life, the life stays held
  pub sub_keeps_hold : (g : Mark → ℕ) (h : ℕ) → 0 < marks_of g i v → 0 < marks_of (is_hold h) i v → ((x : Mark) → 0 < g x → is_hold h x ≡ 0) ⊎ (1 < marks_of (is_hold h) i v) → 0 < marks_of (is_hold h) i (subbed i found g v)
  sub_keeps_hold g h there held how = let a = sub_hold g h in ⊎_elim (λ z. let t = taken g (about i v.marks) there in let y = z t.0 t.1 in omega (arith, t.2 (is_hold h)))
      (λ two. omega (arith, one_less (is_hold h) g (hold_le h) (about i v.marks) there)) how

module _ {S : Type 0} (shows : S → Home) (p : Plan) (s : State S View) (o : Lawful shows p s) (id : ℕ) (v : View) (here : get_elem? s.views id ≡ some v) where
  -- a word of the slots or of names, and no head
  module _ (x n : ℕ) (low : x < 6 * p.slots + p.names + p.operations) (no_head : (j : ℕ) → j < p.slots → x ≢ head_index j) where
    pub low_words : ChainWords p o.slot s.words (set s.words x n)
    low_words = record {
      heads = λ k j e. let a = o.in_slots.lives k j e in get_or-set_other s.words x (head_index j) n 0 (λ q. no_head j a.1.life.inside (sym q));
      nexts = λ r rl. get_or-set_other s.words x (next_index p r) n 0 (λ q. omega arith);
      requests = λ r rl. get_or-set_other s.words x (request_index p r) n 0 (λ q. omega arith);
      places = λ l ll. get_or-set_other s.words x (place_index p l) n 0 (λ q. omega arith);
    }

    still_reset : (w : View) → NoReset v w → (j : ℕ) → j < p.slots → 0 < count is_reset (slot_facts record { words = set s.words x n; homes = s.homes; views = set s.views id w } j) → get_or (set s.words x n) (head_index j) 0 ≡ IDLE
    still_reset w less j jl h = get_or-set_other s.words x (head_index j) n 0 (λ q. no_head j jl (sym q)) ∙ o.in_slots.reset j jl (omega (arith, counts s id v w here (set s.words x n) s.homes is_reset j, less j))

    -- a step that takes no reference back, and frees no slot
    pub slot_law : (w : View) → SameChain v w → (Steady v w × NoReset v w) × Holds v w → References p (stepped s x n id [] w keeps) → Lawful shows p (stepped s x n id [] w keeps)
    slot_law w same st refs = slot_frame shows p s o id v w here (set s.words x n) same st.0.0 low_words (still_reset w st.0.1)
        (still_holds p v w st.0.0.met st.1.hold (ap (λ (u : View). u.rights) same) (o.held id v here)) (inl st.1.recycling) refs

  module _ (i : ℕ) (inside : i < p.slots) where
    abbrev found : ℕ
    found = get_or s.words (ref_index i) 0

    -- A1
    pub claim_law : Lawful shows p (stepped s (tag_index i) 1 id [] (claimed i (get_or s.words (tag_index i) 0) v) keeps)
    claim_law = slot_law (tag_index i) 1 (omega arith) (λ j jl e. omega arith) (claimed i (get_or s.words (tag_index i) 0) v) refl (claimed_steady v i (get_or s.words (tag_index i) 0))
        (claim_keeps p s o.references id v here [] keeps i inside)

    module _ (fits : found < 18446744073709551616) where
      -- A3
      pub add_law : (is_life : Bool) → (is_life ≡ true → 0 < marks_of (is_known (vref_version found)) i v) → marks_of is_ref i v < 65540 → Lawful shows p (stepped s (ref_index i) ((found + 1) % 2 ^ 64) id [] (added i found is_life v) keeps)
      add_law is_life known room = slot_law (ref_index i) ((found + 1) % 2 ^ 64) (omega arith) (λ j jl e. omega arith) (added i found is_life v) refl (added_steady v i found is_life, added_holds v i found is_life)
          (add_ref_keeps p s o.references id v here [] keeps i inside fits is_life known room)

      -- A4, where each right of the seat keeps its life
      pub sub_law : 0 < marks_of is_ref i v → marks_of is_any_coding i v ≡ 0 → KeepsRights i v → Lawful shows p (stepped s (ref_index i) ((found + (2 ^ 64 - 1)) % 2 ^ 64) id [] (subbed i found (back i found v) v) keeps)
      sub_law there idle mine = let g : Mark → ℕ = back i found v in let w : View = subbed i found (back i found v) v in let n : ℕ = (found + (2 ^ 64 - 1)) % 2 ^ 64 in
          let x : ℕ = vref_version found in let kind : (y : Mark) → 0 < back i found v y → IsRef y = either_way (nat_lt 0 (marks_of is_probe i v)) is_probe (is_hold (x - x % 2)) (λ (f : Mark → ℕ). (y : Mark) → 0 < f y → IsRef y) probe-ref (hold-ref (x - x % 2)) in
          let st = subbed_steady v i found (back i found v) kind in
          let held : HoldsRights p (subbed i found (back i found v) v) = λ y r e. let b = o.held id v here y r e in let c = b.3 in let ch = c.held in let cm = c.met in (
            b.0,
            b.1,
            b.2,
            record {
              inside = c.inside;
              met = omega (arith, st.0.met b.1 b.2 r.link);
              held = dite (ℕ_discrete b.1 i)
                  (λ same. let h1 : 0 < marks_of (is_hold b.2) i v = subst (λ z. 0 < marks_of (is_hold b.2) z v) same c.held in
                  let m1 : 0 < marks_of (is_met b.2 r.link) i v = subst (λ z. 0 < marks_of (is_met b.2 r.link) z v) same c.met in
                  subst (λ z. 0 < marks_of (is_hold b.2) z w) (sym same) (kept_hold b.2 there h1 (mine y r b.2 e h1 m1)))
                  (λ far. omega (arith, subbed_else v i found (back i found v) kind b.1 b.2 far));
            },
          ) in
          slot_frame shows p s o id v w here (set s.words (ref_index i) n) refl st.0 (low_words (ref_index i) n (omega arith) (λ j jl e. omega arith)) (still_reset (ref_index i) n (omega arith) (λ j jl e. omega arith) w st.1)
          held (inl (subbed_recycling v i found (back i found v) kind)) (sub_ref_keeps p s o.references id v here [] keeps i inside fits there idle)
        where
          kept_hold : (h : ℕ) → 0 < marks_of is_ref i v → 0 < marks_of (is_hold h) i v → (0 < marks_of is_probe i v) ⊎ (1 < marks_of (is_hold h) i v) → 0 < marks_of (is_hold h) i (subbed i found (back i found v) v)
          kept_hold h some_ held how = dite (dec_le (marks_of is_probe i v) 0)
              (λ none_. let is : back i found v ≡ is_hold (vref_version found - vref_version found % 2) = ap (λ b. cond b is_probe (is_hold (vref_version found - vref_version found % 2))) (le-ltb 0 (marks_of is_probe i v) none_) in
              let h_is = life_found p s o.references id v here [] keeps i inside fits h held in
              subst (λ (f : Mark → ℕ). 0 < marks_of (is_hold h) i (subbed i found f v)) (sym is)
              (sub_keeps_hold i found v some_ (is_hold (vref_version found - vref_version found % 2)) h (subst (λ z. 0 < marks_of (is_hold z) i v) h_is held) held (⊎_elim (λ q. absurd (omega arith)) (λ q. inr q) how)))
              (λ some_p. let is : back i found v ≡ is_probe = ap (λ b. cond b is_probe (is_hold (vref_version found - vref_version found % 2))) (lt-ltb 0 (marks_of is_probe i v) (omega arith)) in
              subst (λ (f : Mark → ℕ). 0 < marks_of (is_hold h) i (subbed i found f v)) (sym is)
              (sub_keeps_hold i found v some_ is_probe h (omega arith) held (inl (λ x q. ap (is_hold h) (probe_is x q)))))

      -- A5
      pub set_odd_law : (h : ℕ) → 0 < marks_of (is_hold h) i v → marks_of is_ref i v < 65540 → Lawful shows p (stepped s (ref_index i) (bit_or found 4294967296) id [] (failed i found v) keeps)
      set_odd_law h there room = slot_law (ref_index i) (bit_or found 4294967296) (omega arith) (λ j jl e. omega arith) (failed i found v) refl (failed_steady v i found, failed_holds v i found)
          (set_odd_keeps p s o.references id v here [] keeps i inside fits h there room)

      -- A6, lost
      pub recycle_lost_law : (from : ℕ) → found ≢ from → vref_nref from ≡ 0 → 0 < marks_of (is_zero (vref_version from)) i v → Lawful shows p (stepped s (ref_index i) found id [] (recycled i from found v) keeps)
      recycle_lost_law from miss last there = slot_law (ref_index i) found (omega arith) (λ j jl e. omega arith) (recycled i from found v) refl (lost_steady v i from found miss)
          (recycle_lost_keeps p s o.references id v here [] keeps i inside fits from miss last there)

      -- A8, without a right
      pub look_law : Lawful shows p (stepped s (ref_index i) found id [] (looked i found v) keeps)
      look_law = slot_law (ref_index i) found (omega arith) (λ j jl e. omega arith) (looked i found v) refl (looked_steady v i found)
          (look_keeps p s o.references id v here [] keeps i inside fits)

    -- A7
    pub free_law : (x : ℕ) → 0 < marks_of (is_recycled x) i v → x ≤ 4294967292 → v.hands ≡ [] → Lawful shows p (stepped s (tag_index i) 0 id [] (freed i v) keeps)
    free_law x there last empty = let st = freed_steady v i in
        slot_frame shows p s o id v (freed i v) here (set s.words (tag_index i) 0) refl st.0.0 (low_words (tag_index i) 0 (omega arith) (λ j jl e. omega arith)) (still_reset (tag_index i) 0 (omega arith) (λ j jl e. omega arith) (freed i v) st.0.1)
        (still_holds p v (freed i v) st.0.0.met st.1 refl (o.held id v here)) (inr (λ k. ap (total (carries k)) empty)) (free_keeps p s o.references id v here [] keeps i inside x there last)

    -- S1
    pub link_law : (k : ℕ) → 0 < marks_of (is_stage 0 0) i v → 0 < total (only k) v.passes → Lawful shows p (stepped s (link_index i) k id [] (linked i k v) keeps)
    link_law k there pass = slot_law (link_index i) k (omega arith) (λ j jl e. omega arith) (linked i k v) refl (linked_steady v i k there pass)
        (link_keeps p s o.references id v here [] keeps i inside k there pass)

    -- S2, of a life that it holds
    pub meet_law : (h : ℕ) → 0 < marks_of (is_hold h) i v → Lawful shows p (stepped s (link_index i) (slot_facts s i).link id [] (met_link i h (slot_facts s i).link v) keeps)
    meet_law h there = slot_law (link_index i) (slot_facts s i).link (omega arith) (λ j jl e. omega arith) (met_link i h (slot_facts s i).link v) refl (met_link_steady v i h (slot_facts s i).link)
        (meet_keeps p s o.references id v here [] keeps i inside h there)

    -- S2, of whoever recycled the slot
    pub meet_last_law : (x : ℕ) → 0 < marks_of (is_recycled x) i v → Lawful shows p (stepped s (link_index i) (slot_facts s i).link id [] (met_link i (x - 2) (slot_facts s i).link v) keeps)
    meet_last_law x there = slot_law (link_index i) (slot_facts s i).link (omega arith) (λ j jl e. omega arith) (met_link i (x - 2) (slot_facts s i).link v) refl (met_link_steady v i (x - 2) (slot_facts s i).link)
        (meet_last_keeps p s o.references id v here [] keeps i inside x there)

    -- S4 of 0
    pub wipe_law : (k : ℕ) → 0 < marks_of (is_stage 2 k) i v → Lawful shows p (stepped s (code_index i) 0 id [] (staged i 2 k 3 v) keeps)
    wipe_law k there = let st = staged_steady v i 2 k 3 there (λ x. refl) in slot_law (code_index i) 0 (omega arith) (λ j jl e. omega arith) (staged i 2 k 3 v) refl ((st.0, staged_reset v i 2 k 3 there refl), st.1)
        (wipe_keeps p s o.references id v here [] keeps i inside k there)

    -- S4 of a code
    pub code_law : (h d : ℕ) → 0 < marks_of (is_coding h) i v → d ≢ 0 → Lawful shows p (stepped s (code_index i) d id [] (coded i h d v) keeps)
    code_law h d there some_ = slot_law (code_index i) d (omega arith) (λ j jl e. omega arith) (coded i h d v) refl (coded_steady v i h d)
        (code_keeps p s o.references id v here [] keeps i inside h d there some_)

    -- S5 of a code
    pub found_code_law : (h : ℕ) → 0 < marks_of (is_hold h) i v → 0 < (slot_facts s i).code → Lawful shows p (stepped s (code_index i) (slot_facts s i).code id [] (told_code i h (slot_facts s i).code v) keeps)
    found_code_law h there some_ = slot_law (code_index i) (slot_facts s i).code (omega arith) (λ j jl e. omega arith) (told_code i h (slot_facts s i).code v) refl (told_steady v i h (slot_facts s i).code)
        (found_code_keeps p s o.references id v here [] keeps i inside h there some_)

    -- S7, of a name or an operation's word
    pub find_law : (x h : ℕ) → x < 6 * p.slots + p.names + p.operations → ((j : ℕ) → j < p.slots → x ≢ head_index j) → 0 < count (is_born h) (slot_facts s i) → Lawful shows p (stepped s x (get_or s.words x 0) id [] (met i h v) keeps)
    find_law x h low no_head there = slot_law x (get_or s.words x 0) low no_head (met i h v) refl (met_steady v i h)
        (find_keeps p s o.references id v here [] keeps i inside x h there)

    -- S6 into a name
    pub store_name_law : (n val : ℕ) → n < p.names → (val - 1) % 4294967296 ≡ i → 0 < marks_of (is_known ((val - 1) / 4294967296)) i v → Lawful shows p (stepped s (name_index p n) val id [] (wrote (name_index p n) val v) keeps)
    store_name_law n val inside_n at_i known = slot_law (name_index p n) val (omega arith) (λ j jl e. omega arith) (wrote (name_index p n) val v) refl (wrote_steady v (name_index p n) val)
        (store_name_keeps p s o.references id v here [] keeps i inside n val inside_n at_i known)

    -- S6 into an operation's word
    pub store_open_law : (n val : ℕ) → n < p.operations → (val ≡ 18446744073709551615) ⊎ (((val - 1) % 4294967296 ≡ i) × (0 < marks_of (is_known ((val - 1) / 4294967296)) i v)) → Lawful shows p (stepped s (open_index p n) val id [] (wrote (open_index p n) val v) keeps)
    store_open_law n val inside_n how = slot_law (open_index p n) val (omega arith) (λ j jl e. omega arith) (wrote (open_index p n) val v) refl (wrote_steady v (open_index p n) val)
        (store_open_keeps p s o.references id v here [] keeps i inside n val inside_n how)

  -- a load that tells nothing: S5 and S7 of 0, C5 of UNCONNECTED
  pub idle_law : (x : ℕ) → Lawful shows p (stepped s x (get_or s.words x 0) id [] v keeps)
  idle_law x = subst (λ ws. Lawful shows p record { words = ws; homes = s.homes; views = set s.views id v }) (sym (set-get_or s.words x 0)) (subst (λ vs. Lawful shows p record { words = s.words; homes = s.homes; views = vs }) (sym (set_again s.views id v here)) o)
