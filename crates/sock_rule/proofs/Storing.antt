-- S1 to S7 are allowed to a seat whose view meets their condition.
use Rattle.std.proofs.Common.{◌≡◌, ◌≢◌, ℕ, ◌+◌, ◌-◌, ◌*◌, ◌/◌, ◌%◌, ◌<◌, ◌≤◌, ◌⊎◌, [], ◌∷◌, cond, eqb, eq-eqb, ne_eqb, get_or, set, refl, sym, ap, ◌∙◌, subst, arith}
use mathlib.Core.Logic.{dite}
use mathlib.Core.Option.{none, some}
use native.Mathlib.Decide.{ℕ_discrete}
use lib.ListN.{get_elem?}
use lib.Seq.{set-get_or}
use Rattle.atomic_table.specs.Table.{State, Me, step, keeps, stepped, Allows}
use Rattle.sock_words.specs.declared.plain.Plan.{Plan}
use Rattle.sock_model.specs.declared.home.Home.{Home}
use Rattle.sock_model.specs.declared.view.View.{View}
use Rattle.sock_model.specs.declared.marks.Mark.{Mark}
use Rattle.sock_model.specs.Marks.{about}
use Rattle.sock_model.specs.MarkWeights.{tally, only, is_busy, is_recycling, is_stage, is_recycled, is_hold, is_known, is_coding, is_told, is_met}
use Rattle.sock_model.specs.SocketTableLayout.{link_index, head_index, code_index, name_index, open_index}
use Rattle.sock_model.specs.References.{slot_facts, Names, Stores}
use Rattle.sock_model.specs.SlotRows.{marks_of, linked, staged, coded, told_code, met, met_link}
use Rattle.sock_model.specs.Rule.{Lasting, of_name, of_open, noting, Rule}
use Rattle.chain_core.specs.slot_steps.proofs.SlotLawClauses.{link_held, code_stays}
use Rattle.chain_core.specs.slot_steps.proofs.RuleNumbers.{live_le}
use Rattle.chain_core.specs.slot_steps.proofs.ReferenceStepsKeepSlot.{recycled_le}
use Rattle.chain_core.specs.slot_steps.proofs.SlotWeightSums.{total_mono}
use Rattle.atomic_table.proofs.Lists.{at_map}
use Rattle.chain_core.specs.sock_steps.proofs.LifeLinkSlotPlaces.{own_count}
use Rattle.chain_core.specs.sock_steps.proofs.SlotSteps.{idle_law}
use Rattle.chain_core.specs.sock_steps.proofs.RuleSteps.{load_rule, link_rule, meet_rule, meet_last_rule, reset_rule, wipe_rule, code_rule, found_code_rule, find_note_rule, store_name_note_rule, store_open_note_rule}
use Rattle.chain_core.specs.sock_steps.proofs.NotingLastingWords.{step_notes}
use Rattle.sock_rule.specs.OnTable.{put_in, OnTable}
use Rattle.sock_rule.specs.NotesBesideRows.{finding, put_at}
use Rattle.sock_rule.specs.SocketPlays.{link_told, meet_told, meet_last_told, reset_told, wipe_told, code_told, read_told, store_told, find_told, find_name_told}
use Rattle.sock_rule.proofs.KeptBesideSocketRule.{SameShare, beside}
use Rattle.sock_rule.proofs.LinkFaultNotes.{linked_same, staged_same, coded_same}
use Rattle.sock_rule.proofs.CodesAndHomesSettling.{slot_settled, name_settled, code_settled, load_settled}
use Rattle.sock_rule.proofs.FindsOfStoredWords.{was_put, finds_beside, puts_beside, found_history, stored_history}
use Rattle.sock_words.specs.PackedWords.{IDLE, NO_SOCKET}
use Rattle.sock_words.specs.Totals.{total}

-- the link of a life that a seat holds, and of one that it ended, is one of the table
module _ {S : Type 0} {shows : S → Home} {rose : S → ℕ} {p : Plan} (s : State S View) (t : OnTable shows rose p s) (id : ℕ) (u : View) (here : get_elem? s.views id ≡ some u) (i : ℕ) (inside : i < p.slots) where
  pub held_linked : (h : ℕ) → 0 < marks_of (is_hold h) i u → get_or s.words (link_index i) 0 < p.links
  held_linked h held = let law = t.rule.lawful.references.slots i inside in
      let its = link_held p.first (slot_facts s i) law id (about i u.marks) (at_map (λ (y : View). about i y.marks) s.views id u here) h held in
      t.rule.lawful.in_slots.small i h (get_or s.words (link_index i) 0) record { inside = inside; given = its }

  last_linked : (w : ℕ) → 0 < marks_of (is_recycled w) i u → get_or s.words (link_index i) 0 < p.links
  last_linked w there = let law = t.rule.lawful.references.slots i inside in let a = own_count s id u here is_recycling i in let b = total_mono (is_recycled w) is_recycling (recycled_le w) (about i u.marks) in
      t.rule.lawful.in_slots.small i ((slot_facts s i).version - 2) (get_or s.words (link_index i) 0) record { inside = inside; given = law.link_last (omega arith) }

module _ {S : Type 0} (shows : S → Home) (rose : S → ℕ) (p : Plan) (slots id : ℕ) (me : Me S View) (mine : me.0.plan ≡ p) (some_ : 0 < me.0.share) where
  abbrev v : View
  v = me.0

  module _ (i : ℕ) (inside : i < p.slots) where
    -- S1
    pub links : (k : ℕ) → 0 < marks_of (is_stage 0 0) i v → 0 < total (only k) v.passes → Allows (OnTable shows rose p) slots id me (link_index i) (λ _. k) (λ _. link_told (step slots (link_index i) k 0 none) me k)
    links k there pass s t long here fits = (
      linked i k v,
      keeps,
      tt,
      beside t id v (linked i k v) here some_ (set s.words (link_index i) k) s.homes (refl, λ l ll. refl) record { share = refl; lists = refl; finds = refl; stores = λ x y. omega arith; accepts = λ l. omega arith; labels = λ x. x } record { faults = λ l. linked_same l i v k; outs = λ l. omega arith; hands = λ k. refl } (slot_settled t.settled _ _ (omega arith) (λ j e. omega arith)) (link_rule t.rule id v here mine i inside k there pass),
      λ x at. let e : i ≡ x = omega arith in ap (λ (y : ℕ). (linked y k v, me.1)) e,
    )

    -- the life that a seat holds is one, and so is the version to which it recycled the slot
    pub held_is : (s : State S View) → OnTable shows rose p s → get_elem? s.views id ≡ some me.0 → (h g : ℕ) → 0 < marks_of (is_hold h) i me.0 → 0 < marks_of (is_hold g) i me.0 → h ≡ g
    held_is s t here h g a b = let law = t.rule.lawful.references.slots i inside in let x = law.held h (omega (arith, own_count s id me.0 here (is_hold h) i)) in let y = law.held g (omega (arith, own_count s id me.0 here (is_hold g) i)) in let x₀ = x.0 in let y₀ = y.0 in omega arith

    last_is : (s : State S View) → OnTable shows rose p s → get_elem? s.views id ≡ some me.0 → (h g : ℕ) → 0 < marks_of (is_recycled h) i me.0 → 0 < marks_of (is_recycled g) i me.0 → h ≡ g
    last_is s t here h g a b = let law = t.rule.lawful.references.slots i inside in law.recycled h (omega (arith, own_count s id me.0 here (is_recycled h) i)) ∙ sym (law.recycled g (omega (arith, own_count s id me.0 here (is_recycled g) i)))

    staged_is : (s : State S View) → OnTable shows rose p s → get_elem? s.views id ≡ some me.0 → (n h g : ℕ) → 1 ≤ n → 0 < marks_of (is_stage n h) i me.0 → 0 < marks_of (is_stage n g) i me.0 → h ≡ g
    staged_is s t here n h g late a b = let law = t.rule.lawful.references.slots i inside in
        sym ((law.staged n h (omega (arith, own_count s id me.0 here (is_stage n h) i))).0 late) ∙ (law.staged n g (omega (arith, own_count s id me.0 here (is_stage n g) i))).0 late

    coding_is : (s : State S View) → OnTable shows rose p s → get_elem? s.views id ≡ some me.0 → (h g : ℕ) → 0 < marks_of (is_coding h) i me.0 → 0 < marks_of (is_coding g) i me.0 → h ≡ g
    coding_is s t here h g a b = let law = t.rule.lawful.references.slots i inside in let c = (law.codes id (about i me.0.marks) (at_map (λ (y : View). about i y.marks) s.views id me.0 here)).1 in let x = c h a in let y = c g b in held_is s t here h g x.0 y.0

    -- the link that it met for the life that it holds stands in the slot
    pub met_is : (s : State S View) → OnTable shows rose p s → get_elem? s.views id ≡ some me.0 → (h l : ℕ) → 0 < marks_of (is_hold h) i me.0 → 0 < marks_of (is_met h l) i me.0 → get_or s.words (link_index i) 0 ≡ l
    met_is s t here h l held met = let law = t.rule.lawful.references.slots i inside in
        let lk = law.met h l (omega (arith, own_count s id me.0 here (is_met h l) i)) in let hh = law.held h (omega (arith, own_count s id me.0 here (is_hold h) i)) in let hh₀ = hh.0 in
        law.link_is h l lk (omega (arith, live_le (slot_facts s i).tag (slot_facts s i).version (tally is_busy (slot_facts s i).marks)))

    at_slot : (f : Mark → ℕ) (x : ℕ) → i ≡ x → 0 < marks_of f x me.0 → 0 < marks_of f i me.0
    at_slot f x e there = subst (λ (y : ℕ). 0 < marks_of f y me.0) (sym e) there

    -- S2
    pub meets : (h : ℕ) → 0 < marks_of (is_hold h) i v → Allows (OnTable shows rose p) slots id me (link_index i) (λ n. n) (meet_told (step slots (link_index i) 0 0 none) me)
    meets h there s t long here fits = let k : ℕ = get_or s.words (link_index i) 0 in let refs = t.rule.lawful.references in let law = refs.slots i inside in
        let its = held_linked s t id v here i inside h there in (
          met_link i h k v,
          keeps,
          tt,
          beside t id v (met_link i h k v) here some_ (set s.words (link_index i) k) s.homes (refl, λ l ll. refl) record { share = refl; lists = refl; finds = refl; stores = λ x y. omega arith; accepts = λ l. omega arith; labels = λ x. x } record { faults = λ l. omega arith; outs = λ l. omega arith; hands = λ k. refl } (slot_settled t.settled _ _ (omega arith) (λ j e. omega arith)) (meet_rule t.rule id v here mine i inside h there),
          λ x g at other. let e : i ≡ x = omega arith in let same : h ≡ g = held_is s t here h g there (at_slot (is_hold g) x e other) in (
            (λ q. (met_link (e q) (same q) k v, me.1)),
            (λ l mt. let m1 : 0 < marks_of (is_met g l) i v = at_slot (is_met g l) x e mt in let hg : 0 < marks_of (is_hold g) i v = at_slot (is_hold g) x e other in
                let lk = law.met g l (omega (arith, own_count s id v here (is_met g l) i)) in let hh = law.held g (omega (arith, own_count s id v here (is_hold g) i)) in let hh₀ = hh.0 in
                law.link_is g l lk (omega (arith, live_le (slot_facts s i).tag (slot_facts s i).version (tally is_busy (slot_facts s i).marks)))),
            subst (λ (q : Plan). k < q.links) (sym mine) its,
          ),
        )

    -- S2 of whoever recycled the slot
    pub meets_last : (w : ℕ) → 0 < marks_of (is_recycled w) i v → Allows (OnTable shows rose p) slots id me (link_index i) (λ n. n) (meet_last_told (step slots (link_index i) 0 0 none) me)
    meets_last w there s t long here fits = let k : ℕ = get_or s.words (link_index i) 0 in let its = last_linked s t id v here i inside w there in (
      met_link i (w - 2) k v,
      keeps,
      tt,
      beside t id v (met_link i (w - 2) k v) here some_ (set s.words (link_index i) k) s.homes (refl, λ l ll. refl) record { share = refl; lists = refl; finds = refl; stores = λ x y. omega arith; accepts = λ l. omega arith; labels = λ x. x } record { faults = λ l. omega arith; outs = λ l. omega arith; hands = λ k. refl } (slot_settled t.settled _ _ (omega arith) (λ j e. omega arith)) (meet_last_rule t.rule id v here mine i inside w there),
      λ x g at other. let e : i ≡ x = omega arith in let same : w ≡ g = last_is s t here w g there (at_slot (is_recycled g) x e other) in ((λ q. (met_link (e q) (same q - 2) k v, me.1)), subst (λ (q : Plan). k < q.links) (sym mine) its),
    )

    -- S3
    pub resets : (k : ℕ) → 0 < marks_of (is_stage 1 k) i v → Allows (OnTable shows rose p) slots id me (head_index i) (λ _. IDLE) (λ _. reset_told (step slots (head_index i) IDLE 0 none) me IDLE)
    resets k there s t long here fits = (
      staged i 1 k 2 v,
      keeps,
      tt,
      beside t id v (staged i 1 k 2 v) here some_ (set s.words (head_index i) IDLE) s.homes (refl, λ l ll. refl) record { share = refl; lists = refl; finds = refl; stores = λ x y. omega arith; accepts = λ l. omega arith; labels = λ x. x } record { faults = λ l. staged_same l i v 1 k 2; outs = λ l. omega arith; hands = λ k. refl } (slot_settled t.settled _ _ (omega arith) (λ j e. omega arith)) (reset_rule t.rule id v here mine i inside k there),
      λ x g at other. let e : i ≡ x = omega arith in let same : k ≡ g = staged_is s t here 1 k g (omega arith) there (at_slot (is_stage 1 g) x e other) in λ q. (staged (e q) 1 (same q) 2 v, me.1),
    )

    -- S4 of 0
    pub wipes : (k : ℕ) → 0 < marks_of (is_stage 2 k) i v → Allows (OnTable shows rose p) slots id me (code_index i) (λ _. 0) (λ _. wipe_told (step slots (code_index i) 0 0 none) me 0)
    wipes k there s t long here fits = (
      staged i 2 k 3 v,
      keeps,
      tt,
      beside t id v (staged i 2 k 3 v) here some_ (set s.words (code_index i) 0) s.homes (refl, λ l ll. refl) record { share = refl; lists = refl; finds = refl; stores = λ x y. omega arith; accepts = λ l. omega arith; labels = λ x. x } record { faults = λ l. staged_same l i v 2 k 3; outs = λ l. omega arith; hands = λ k. refl } (code_settled t.settled i 0 inside (omega arith) (omega (arith, t.rule.lawful.references.sized))) (wipe_rule t.rule id v here mine i inside k there),
      λ x g at other. let e : i ≡ x = omega arith in let same : k ≡ g = staged_is s t here 2 k g (omega arith) there (at_slot (is_stage 2 g) x e other) in λ q. (staged (e q) 2 (same q) 3 v, me.1),
    )

    -- S4 of a code
    pub codes : (h c : ℕ) → 0 < marks_of (is_coding h) i v → c ≢ 0 → c < 4096 → Allows (OnTable shows rose p) slots id me (code_index i) (λ _. c) (λ _. code_told (step slots (code_index i) c 0 none) me c)
    codes h c there no_zero small s t long here fits = (
      coded i h c v,
      keeps,
      tt,
      beside t id v (coded i h c v) here some_ (set s.words (code_index i) c) s.homes (refl, λ l ll. refl) record { share = refl; lists = refl; finds = refl; stores = λ x y. omega arith; accepts = λ l. omega arith; labels = λ x. x } record { faults = λ l. coded_same l i v h c; outs = λ l. omega arith; hands = λ k. refl } (code_settled t.settled i c inside small (omega (arith, t.rule.lawful.references.sized))) (code_rule t.rule id v here mine i inside h c there no_zero),
      λ x g at other. let e : i ≡ x = omega arith in let same : h ≡ g = coding_is s t here h g there (at_slot (is_coding g) x e other) in λ q. (coded (e q) (same q) c v, me.1),
    )

    -- S5
    pub reads : (h : ℕ) → 0 < marks_of (is_hold h) i v → Allows (OnTable shows rose p) slots id me (code_index i) (λ n. n) (read_told (step slots (code_index i) 0 0 none) me)
    reads h there s t long here fits = let c : ℕ = get_or s.words (code_index i) 0 in
        let told : (g d : ℕ) → 0 < marks_of (is_hold g) i v → 0 < marks_of (is_told g d) i v → get_or s.words (code_index i) 0 ≡ d =
        λ g d a b. (code_stays p.first (slot_facts s i) (t.rule.lawful.references.slots i inside) id (about i v.marks) (at_map (λ (y : View). about i y.marks) s.views id v here) g d a b).0 in
        let also : (x g : ℕ) → i ≡ x → 0 < marks_of (is_hold g) x v → (d : ℕ) → 0 < marks_of (is_told g d) x v → get_or s.words (code_index i) 0 ≡ d = λ x g e other d td. told g d (at_slot (is_hold g) x e other) (at_slot (is_told g d) x e td) in
        let small : get_or s.words (code_index i) 0 < 4096 = t.settled.codes i inside in
        dite (ℕ_discrete (get_or s.words (code_index i) 0) 0)
        (λ zero_. (
          v,
          keeps,
          tt,
          beside t id v v here some_ (set s.words (code_index i) c) s.homes (refl, λ l ll. refl) record { share = refl; lists = refl; finds = refl; stores = λ x y. omega arith; accepts = λ l. omega arith; labels = λ x. x } record { faults = λ l. omega arith; outs = λ l. omega arith; hands = λ k. refl } (load_settled t.settled _)
              (load_rule t.rule id v here mine (code_index i) c refl v record { plan = refl; found = refl; lists = refl } (idle_law shows p s t.rule.lawful id v here (code_index i))),
          λ x g at other. let e : i ≡ x = omega arith in (ap (λ b. (cond b v (told_code x g c v), me.1)) (sym (eq-eqb c 0 zero_)), also x g e other, small),
        ))
        (λ no_zero. (
          told_code i h c v,
          keeps,
          tt,
          beside t id v (told_code i h c v) here some_ (set s.words (code_index i) c) s.homes (refl, λ l ll. refl) record { share = refl; lists = refl; finds = refl; stores = λ x y. omega arith; accepts = λ l. omega arith; labels = λ x. x } record { faults = λ l. omega arith; outs = λ l. omega arith; hands = λ k. refl } (load_settled t.settled _) (found_code_rule t.rule id v here mine i inside h there (omega arith)),
          λ x g at other. let e : i ≡ x = omega arith in let same : h ≡ g = held_is s t here h g there (at_slot (is_hold g) x e other) in ((λ q. (told_code (e q) (same q) c v, me.1)) ∙ ap (λ b. (cond b v (told_code x g c v), me.1)) (sym (ne_eqb c 0 no_zero)), also x g e other, small),
        ))

  -- S6 into a name: the word of an id that the seat knows
  pub stores_name : (n word : ℕ) → n < p.names → word ≢ 0 → (word - 1) % 4294967296 < p.slots → 0 < marks_of (is_known ((word - 1) / 4294967296)) ((word - 1) % 4294967296) v
      → Allows (OnTable shows rose p) slots id me (name_index p n) (λ _. word) (λ _. store_told (step slots (name_index p n) word 0 none) me word)
  stores_name n word low some_word inside known s t long here fits = (
    put_at (name_index p n) word (record { place = name_index p n; word = word } ∷ t.stored) v,
    keeps,
    tt,
    puts_beside t id v here some_ mine (set s.words (name_index p n) word) (name_index p n) word (omega arith) (name_settled t.settled _ _ (omega arith) (omega arith) (omega (arith, t.rule.lawful.references.sized)))
        (store_name_note_rule t.rule id v here mine n low word some_word inside known),
    record { all = record { place = name_index p n; word = word } ∷ t.stored; view = refl; history = stored_history t id v here (name_index p n) word },
  )

  -- S6 into the word of an operation
  pub stores_open : (n word i : ℕ) → n < p.operations → word ≢ 0 → i < p.slots → (word ≡ NO_SOCKET) ⊎ (((word - 1) % 4294967296 ≡ i) × (0 < marks_of (is_known ((word - 1) / 4294967296)) i v))
      → Allows (OnTable shows rose p) slots id me (open_index p n) (λ _. word) (λ _. store_told (step slots (open_index p n) word 0 none) me word)
  stores_open n word i low some_word inside how s t long here fits = (
    put_at (open_index p n) word (record { place = open_index p n; word = word } ∷ t.stored) v,
    keeps,
    tt,
    puts_beside t id v here some_ mine (set s.words (open_index p n) word) (open_index p n) word (omega arith) (name_settled t.settled _ _ (omega arith) (omega arith) (omega (arith, t.rule.lawful.references.sized)))
        (store_open_note_rule t.rule id v here mine n low word i some_word inside how),
    record { all = record { place = open_index p n; word = word } ∷ t.stored; view = refl; history = stored_history t id v here (open_index p n) word },
  )

  -- S7 at a place whose word, other than 0, is the id of a life that was born or says that there is none, and was stored there
  finds_at : (x : ℕ) → Lasting p x → 6 * p.slots ≤ x → x < 6 * p.slots + p.names + p.operations
      → ((s : State S View) → OnTable shows rose p s → get_or s.words x 0 ≢ NO_SOCKET → Names p s (get_or s.words x 0)) → ((s : State S View) → OnTable shows rose p s → Stores s x)
      → Allows (OnTable shows rose p) slots id me x (λ n. n) (find_told (step slots x 0 0 none) me)
  finds_at x last high low names stores s t long here fits = let w : ℕ = get_or s.words x 0 in let i : ℕ = (w - 1) % 4294967296 in let h : ℕ = (w - 1) / 4294967296 in
      let fresh : get_or s.words x 0 ≢ NO_SOCKET → get_or s.words x 0 ≢ 0 → (get_or s.words x 0 - 1) % 4294967296 < me.0.plan.slots = λ n z. subst (λ (q : Plan). (get_or s.words x 0 - 1) % 4294967296 < q.slots) (sym mine) (names s t n z).0 in
      let stays : (k : ℕ) → get_elem? me.0.found k ≡ some x → get_or s.words x 0 ≢ 0 = λ k e. (t.rule.found_words id v here k x e).1 in
      let quiet : SameShare p v v = record { share = refl; lists = refl; finds = refl; stores = λ y z. omega arith; accepts = λ l. omega arith; labels = λ x. x } in
      let read : Rule shows p (stepped s x (get_or s.words x 0) id [] me.0 keeps) = load_rule t.rule id v here mine x w refl v record { plan = refl; found = refl; lists = refl } (idle_law shows p s t.rule.lawful id v here x) in
      dite (ℕ_discrete (get_or s.words x 0) 0)
      (λ zero_. (
        v,
        keeps,
        tt,
        beside t id v v here some_ (set s.words x w) s.homes (refl, λ l ll. refl) quiet record { faults = λ l. omega arith; outs = λ l. omega arith; hands = λ k. refl } (load_settled t.settled x) read,
        (record { all = t.stored; view = ap (λ b. (cond b v (cond (eqb w 18446744073709551615) (finding x w t.stored v) (finding x w t.stored (met i h v))), me.1)) (sym (eq-eqb w 0 zero_)); history = found_history t id v here x high low }, (λ z n. fresh n z), stays),
      ))
      (λ some_word. let was : 0 < total (put_in x w) s.views = omega (arith, stores s t some_word, was_put x w some_word s.views) in
      let there : get_or (set s.words x (get_or s.words x 0)) x 0 ≢ 0 = λ z. some_word (sym (ap (λ ws. get_or ws x 0) (set-get_or s.words x 0)) ∙ z) in
      dite (ℕ_discrete (get_or s.words x 0) 18446744073709551615)
      (λ nothing. (
        finding x w t.stored v,
        keeps,
        tt,
        finds_beside t id v (noting x v) here some_ mine (set s.words x w) x w was record { share = refl; lists = refl; finds = refl; stores = λ y z. omega arith; accepts = λ l. omega arith; labels = λ x. x } record { faults = λ l. omega arith; outs = λ l. omega arith; hands = λ k. refl } (load_settled t.settled _)
            (step_notes s.views id v v (set s.words x w) s.homes here mine x last there read),
        (record { all = t.stored; view = ap (λ b. (cond b (finding x w t.stored v) (finding x w t.stored (met i h v)), me.1)) (sym (eq-eqb w 18446744073709551615 nothing)) ∙ ap (λ b. (cond b v (cond (eqb w 18446744073709551615) (finding x w t.stored v) (finding x w t.stored (met i h v))), me.1)) (sym (ne_eqb w 0 some_word)); history = found_history t id v here x high low }, (λ z n. fresh n z), stays),
      ))
      (λ an_id. let its = names s t an_id some_word in (
        finding x w t.stored (met i h v),
        keeps,
        tt,
        finds_beside t id v (noting x (met i h v)) here some_ mine (set s.words x w) x w was record { share = refl; lists = refl; finds = refl; stores = λ y z. omega arith; accepts = λ l. omega arith; labels = λ x. x } record { faults = λ l. omega arith; outs = λ l. omega arith; hands = λ k. refl } (load_settled t.settled _)
            (find_note_rule t.rule id v here mine i its.0 x last h low its.1 some_word),
        (record { all = t.stored; view = ap (λ b. (cond b (finding x w t.stored v) (finding x w t.stored (met i h v)), me.1)) (sym (ne_eqb w 18446744073709551615 an_id)) ∙ ap (λ b. (cond b v (cond (eqb w 18446744073709551615) (finding x w t.stored v) (finding x w t.stored (met i h v))), me.1)) (sym (ne_eqb w 0 some_word)); history = found_history t id v here x high low }, (λ z n. fresh n z), stays),
      )))

  -- S7 of a name
  pub finds_name : (n : ℕ) → n < p.names → Allows (OnTable shows rose p) slots id me (name_index p n) (λ n. n) (find_name_told (step slots (name_index p n) 0 0 none) me)
  finds_name n low s t long here fits = let a = finds_at (name_index p n) (of_name n low refl) (omega arith) (omega arith) (λ s t other. t.rule.lawful.references.named.names n low) (λ s t. t.rule.lawful.references.named.names_by n low) s t long here fits in
      (a.0, a.1, a.2, a.3, (a.4, λ z. subst (λ (q : Plan). (get_or s.words (name_index p n) 0 - 1) % 4294967296 < q.slots) (sym mine) (t.rule.lawful.references.named.names n low z).0))

  -- S7 of the word of an operation
  pub finds_open : (n : ℕ) → n < p.operations → Allows (OnTable shows rose p) slots id me (open_index p n) (λ n. n) (find_told (step slots (open_index p n) 0 0 none) me)
  finds_open n low = finds_at (open_index p n) (of_open n low refl) (omega arith) (omega arith) (λ s t other. t.rule.lawful.references.named.opens n low other) (λ s t. t.rule.lawful.references.named.opens_by n low)
