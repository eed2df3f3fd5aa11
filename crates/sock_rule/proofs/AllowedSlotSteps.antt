-- Each step on a slot is allowed to a seat whose view meets its condition: the law of the step, as it stands, and what the step tells.
use Rattle.std.proofs.Common.{◌≡◌, ℕ, ◌+◌, ◌-◌, ◌*◌, ◌%◌, ◌^◌, ◌<◌, ◌≤◌, Bool, [], bit_or, eqb, ltb-true, get_or, set, refl, sym, ap, subst, arith}
use mathlib.Core.Logic.{dite}
use mathlib.Core.Option.{Option, none, some}
use native.Mathlib.Decide.{ℕ_discrete}
use lib.ListN.{get_elem?}
use prog.Atomic.{either}
use Rattle.atomic_table.specs.Table.{State, Me, step, keeps, stepped, Allows}
use Rattle.atomic_table.proofs.Lists.{exchanged}
use Rattle.sock_words.specs.declared.plain.Plan.{Plan}
use Rattle.sock_model.specs.declared.home.Home.{Home}
use Rattle.sock_model.specs.declared.view.View.{View}
use Rattle.sock_model.specs.declared.marks.Mark.{Mark}
use Rattle.sock_model.specs.declared.marks.Mark.TheVariants.{Claimed}
use Rattle.sock_model.specs.Marks.{about}
use Rattle.sock_model.specs.Rule.{Rule}
use Rattle.sock_model.specs.MarkWeights.{is_claimed, is_busy, is_ref, is_any_coding, is_stage, is_recycled, is_hold, is_known, is_zero, is_saw}
use Rattle.sock_model.specs.SocketTableLayout.{tag_index, ref_index}
use Rattle.sock_model.specs.References.{slot_facts}
use Rattle.sock_model.specs.SlotRows.{marks_of, knows, claimed, gave_birth, added, back, subbed, failed, recycled, freed, looked}
use Rattle.chain_core.specs.slot_steps.proofs.RuleNumbers.{pair_le}
use Rattle.chain_core.specs.slot_steps.proofs.SlotWeightSums.{total_mono}
use Rattle.chain_core.specs.slot_steps.proofs.KeptByTagSteps.{few_refs, life_found, known_found, some_ref, one_claim}
use Rattle.chain_core.specs.sock_steps.proofs.SlotSteps.{KeepsRights}
use Rattle.chain_core.specs.sock_steps.proofs.LifeLinkSlotPlaces.{own_count}
use Rattle.chain_core.specs.sock_steps.proofs.RuleSteps.{claim_rule, birth_rule, add_rule, sub_rule, set_odd_rule, recycle_rule, recycle_lost_rule, look_rule, free_rule}
use Rattle.sock_rule.specs.OnTable.{OnTable}
use Rattle.sock_rule.specs.SocketPlays.{WordFits, claim_told, birth_told, add_told, sub_told, fail_told, recycle_told, free_told, look_told}
use Rattle.sock_rule.proofs.KeptBesideSocketRule.{beside}
use Rattle.sock_rule.proofs.LinkFaultNotes.{claimed_same, birth_same, added_same, subbed_same, failed_same, recycled_same, freed_same}
use Rattle.sock_rule.proofs.CodesAndHomesSettling.{slot_settled}
use Rattle.sock_words.specs.PackedWords.{vref_version, vref_nref}

-- a claim is one mark that its seat has of the slot
staged_claimed : (k : ℕ) (m : Mark) → is_stage 3 k m ≤ is_claimed m
staged_claimed k (Claimed n d) = pair_le 3 k n d
staged_claimed k _ = omega arith

staged_busy : (k : ℕ) (m : Mark) → is_stage 3 k m ≤ is_busy m
staged_busy k (Claimed n d) = pair_le 3 k n d
staged_busy k _ = omega arith

module _ {S : Type 0} (shows : S → Home) (rose : S → ℕ) (p : Plan) (slots id : ℕ) (me : Me S View) (mine : me.0.plan ≡ p) (some_ : 0 < me.0.share) (i : ℕ) (inside : i < p.slots) where
  abbrev v : View
  v = me.0

  -- the slot of a word is one
  of_ref : (f : ℕ → View) (x : ℕ) → ref_index i ≡ ref_index x → ◌≡◌ {A = Me S View} (f i, me.1) (f x, me.1)
  of_ref f x at = let e : i ≡ x = omega arith in ap (λ (y : ℕ). (f y, me.1)) e

  of_tag : (f : ℕ → View) (x : ℕ) → tag_index i ≡ tag_index x → ◌≡◌ {A = Me S View} (f i, me.1) (f x, me.1)
  of_tag f x at = let e : i ≡ x = omega arith in ap (λ (y : ℕ). (f y, me.1)) e

  -- what the seat knows of the word that it finds
  pub word_fits : (s : State S View) → OnTable shows rose p s → get_elem? s.views id ≡ some me.0 → get_or s.words (ref_index i) 0 < 18446744073709551616 → (x : ℕ) → ref_index i ≡ ref_index x → WordFits x (get_or s.words (ref_index i) 0) me.0
  word_fits s t here fits x at = let e : i ≡ x = omega arith in let refs = t.rule.lawful.references in subst (λ (y : ℕ). WordFits y (get_or s.words (ref_index i) 0) me.0) e record {
    known = λ h some_known. known_found p s refs id me.0 here me.1 keeps i inside h some_known;
    held = λ h some_held. life_found p s refs id me.0 here me.1 keeps i inside fits h some_held;
    saw = λ w some_saw. (refs.slots i inside).saw w (omega (arith, own_count s id me.0 here (is_saw w) i));
  }

  -- A1
  pub claims : Allows (OnTable shows rose p) slots id me (tag_index i) (λ _. 1) (claim_told (step slots (tag_index i) 1 0 none) me)
  claims s t long here fits = let tag : ℕ = get_or s.words (tag_index i) 0 in (
    claimed i tag v,
    keeps,
    tt,
    beside t id v (claimed i tag v) here some_ (set s.words (tag_index i) 1) s.homes (refl, λ l ll. refl) record { share = refl; lists = refl; finds = refl; stores = λ x y. omega arith; accepts = λ l. omega arith; labels = λ x. x } record { faults = λ l. claimed_same l i v tag; outs = λ l. omega arith; hands = λ k. refl } (slot_settled t.settled _ _ (omega arith) (λ j e. omega arith)) (claim_rule t.rule id v here mine i inside),
    of_tag (λ y. claimed y tag v),
  )

  -- A2
  pub births : (k : ℕ) → 0 < marks_of (is_stage 3 k) i v → Allows (OnTable shows rose p) slots id me (ref_index i) (λ n. (n + 1) % 2 ^ 64) (birth_told (step slots (ref_index i) 1 0 none) me)
  births k there s t long here fits = let found : ℕ = get_or s.words (ref_index i) 0 in let refs = t.rule.lawful.references in let law = refs.slots i inside in let few = few_refs p s refs i inside in (
    gave_birth i found k v,
    keeps,
    tt,
    beside t id v (gave_birth i found k v) here some_ (set s.words (ref_index i) ((found + 1) % 2 ^ 64)) s.homes (refl, λ l ll. refl) record { share = refl; lists = refl; finds = refl; stores = λ x y. omega arith; accepts = λ l. omega arith; labels = λ x. x } record { faults = λ l. birth_same l i v found k; outs = λ l. omega arith; hands = λ k. refl } (slot_settled t.settled _ _ (omega arith) (λ j e. omega arith))
        (birth_rule t.rule id v here mine i inside fits k there),
    (
      omega arith,
      λ x g at other. let e : i ≡ x = omega arith in let mine_too : 0 < marks_of (is_stage 3 g) i v = subst (λ (y : ℕ). 0 < marks_of (is_stage 3 g) y v) (sym e) other in
          let same : k ≡ g = one_claim p s refs id v here me.1 keeps i inside k g there mine_too in
          let busy = own_count s id v here is_claimed i in let claims_it = total_mono (is_stage 3 g) is_claimed (staged_claimed g) (about i v.marks) in
          let busy_too = own_count s id v here is_busy i in let busy_it = total_mono (is_stage 3 g) is_busy (staged_busy g) (about i v.marks) in
          ((λ q. (gave_birth (e q) found (same q) v, me.1)), law.claimed_low (omega arith), law.busy_even (omega arith)),
    ),
  )

  -- A3
  pub adds : marks_of is_ref i v < 65540 → Allows (OnTable shows rose p) slots id me (ref_index i) (λ n. (n + 1) % 2 ^ 64) (add_told (step slots (ref_index i) 1 0 none) me)
  adds room s t long here fits = let found : ℕ = get_or s.words (ref_index i) 0 in let h : ℕ = vref_version found in let few = few_refs p s t.rule.lawful.references i inside in let b : Bool = knows i h v in (
    added i found b v,
    keeps,
    tt,
    beside t id v (added i found b v) here some_ (set s.words (ref_index i) ((found + 1) % 2 ^ 64)) s.homes (refl, λ l ll. refl) record { share = refl; lists = refl; finds = refl; stores = λ x y. omega arith; accepts = λ l. omega arith; labels = λ x. x } record { faults = λ l. added_same l i v found b; outs = λ l. omega arith; hands = λ k. refl } (slot_settled t.settled _ _ (omega arith) (λ j e. omega arith))
        (add_rule t.rule id v here mine i inside fits b (λ e. ltb-true 0 (marks_of (is_known h) i v) e) room),
    (omega arith, λ x at. (of_ref (λ y. added y found (knows y h v) v) x at, word_fits s t here fits x at)),
  )

  -- A4
  pub subs : 0 < marks_of is_ref i v → marks_of is_any_coding i v ≡ 0 → KeepsRights i v → Allows (OnTable shows rose p) slots id me (ref_index i) (λ n. (n + (2 ^ 64 - 1)) % 2 ^ 64) (sub_told (step slots (ref_index i) 1 0 none) me)
  subs there idle rights s t long here fits = let found : ℕ = get_or s.words (ref_index i) 0 in let refs = t.rule.lawful.references in (
    subbed i found (back i found v) v,
    keeps,
    tt,
    beside t id v (subbed i found (back i found v) v) here some_ (set s.words (ref_index i) ((found + (2 ^ 64 - 1)) % 2 ^ 64)) s.homes (refl, λ l ll. refl) record { share = refl; lists = refl; finds = refl; stores = λ x y. omega arith; accepts = λ l. omega arith; labels = λ x. x } record { faults = λ l. subbed_same l i v found; outs = λ l. omega arith; hands = λ k. refl } (slot_settled t.settled _ _ (omega arith) (λ j e. omega arith))
        (sub_rule t.rule id v here mine i inside fits there idle rights),
    (some_ref p s refs id v here me.1 keeps i inside there, (refs.slots i inside).top, λ x at. (of_ref (λ y. subbed y found (back y found v) v) x at, word_fits s t here fits x at, (let own = own_count s id v here is_ref i in let counted = (refs.slots i inside).counted in let e : i ≡ x = omega arith in subst (λ (y : ℕ). marks_of is_ref y v ≤ vref_nref found) e (omega arith)))),
  )

  -- A5
  pub fails : (h : ℕ) → 0 < marks_of (is_hold h) i v → marks_of is_ref i v < 65540 → Allows (OnTable shows rose p) slots id me (ref_index i) (λ n. bit_or n 4294967296) (fail_told (step slots (ref_index i) 4294967296 0 none) me)
  fails h there room s t long here fits = let found : ℕ = get_or s.words (ref_index i) 0 in (
    failed i found v,
    keeps,
    tt,
    beside t id v (failed i found v) here some_ (set s.words (ref_index i) (bit_or found 4294967296)) s.homes (refl, λ l ll. refl) record { share = refl; lists = refl; finds = refl; stores = λ x y. omega arith; accepts = λ l. omega arith; labels = λ x. x } record { faults = λ l. failed_same l i v found; outs = λ l. omega arith; hands = λ k. refl } (slot_settled t.settled _ _ (omega arith) (λ j e. omega arith))
        (set_odd_rule t.rule id v here mine i inside fits h there room),
    λ x at. (of_ref (λ y. failed y found v) x at, word_fits s t here fits x at),
  )

  -- A6, won or lost
  pub recycles : (from next : ℕ) → next ≡ from + 4294967296 → vref_version from % 2 ≡ 1 → vref_nref from ≡ 0 → 0 < marks_of (is_zero (vref_version from)) i v → (said : Option S)
      → Allows (OnTable shows rose p) slots id me (ref_index i) (λ n. either (eqb n from) next n) (recycle_told (step slots (ref_index i) from next said) me)
  recycles from next is odd last there said s t long here fits = let found : ℕ = get_or s.words (ref_index i) 0 in let w : View = recycled i from found v in let is_next : (vref_version from + 1) * 4294967296 ≡ next = omega arith in (
    w,
    keeps,
    tt,
    beside t id v w here some_ (set s.words (ref_index i) (either (eqb found from) next found)) s.homes (refl, λ l ll. refl) record { share = refl; lists = refl; finds = refl; stores = λ x y. omega arith; accepts = λ l. omega arith; labels = λ x. x } record { faults = λ l. recycled_same l i v from found; outs = λ l. omega arith; hands = λ k. refl } (slot_settled t.settled _ _ (omega arith) (λ j e. omega arith))
        (exchanged found from next (λ n. Rule shows p (stepped s (ref_index i) n id [] w keeps))
        (λ hit. subst (λ (n : ℕ). Rule shows p (stepped s (ref_index i) n id [] w keeps)) is_next (recycle_rule t.rule id v here mine i inside fits from hit odd last there))
        (λ miss. recycle_lost_rule t.rule id v here mine i inside fits from miss last there)),
    λ x at. let e : i ≡ x = omega arith in (
      of_ref (λ y. recycled y from found v) x at,
      λ hit. let busy = own_count s id v here is_busy i in let law = t.rule.lawful.references.slots i inside in
          let none_ : marks_of is_busy i me.0 ≡ 0 = dite (ℕ_discrete (marks_of is_busy i me.0) 0) (λ z. z) (λ n. let even = law.busy_even (omega arith) in let same : (slot_facts s i).version ≡ vref_version from = ap vref_version hit in absurd (omega arith)) in
          subst (λ (y : ℕ). marks_of is_busy y me.0 ≡ 0) e none_,
    ),
  )

  -- A7
  pub frees : (x : ℕ) → 0 < marks_of (is_recycled x) i v → x ≤ 4294967292 → v.hands ≡ [] → Allows (OnTable shows rose p) slots id me (tag_index i) (λ _. 0) (λ _. free_told (step slots (tag_index i) 0 0 none) me 0)
  frees x there low empty s t long here fits = (
    freed i v,
    keeps,
    tt,
    beside t id v (freed i v) here some_ (set s.words (tag_index i) 0) s.homes (refl, λ l ll. refl) record { share = refl; lists = refl; finds = refl; stores = λ y z. omega arith; accepts = λ l. omega arith; labels = λ x. x } record { faults = λ l. freed_same l i v; outs = λ l. omega arith; hands = λ k. refl } (slot_settled t.settled _ _ (omega arith) (λ j e. omega arith)) (free_rule t.rule id v here mine i inside x there low empty),
    of_tag (λ y. freed y v),
  )

  -- A8
  pub looks : Allows (OnTable shows rose p) slots id me (ref_index i) (λ n. n) (look_told (step slots (ref_index i) 0 0 none) me)
  looks s t long here fits = let found : ℕ = get_or s.words (ref_index i) 0 in (
    looked i found v,
    keeps,
    tt,
    beside t id v (looked i found v) here some_ (set s.words (ref_index i) found) s.homes (refl, λ l ll. refl) record { share = refl; lists = refl; finds = refl; stores = λ x y. omega arith; accepts = λ l. omega arith; labels = λ x. x } record { faults = λ l. omega arith; outs = λ l. omega arith; hands = λ k. refl } (slot_settled t.settled _ _ (omega arith) (λ j e. omega arith)) (look_rule t.rule id v here mine i inside fits),
    λ x at. (of_ref (λ y. looked y found v) x at, word_fits s t here fits x at),
  )
