-- Steps of whoever sends a message are allowed to a seat whose view meets their condition: C1, M1, C7, C2 and C3.
use Rattle.std.proofs.Common.{◌≡◌, ℕ, zero, suc, ◌+◌, ◌-◌, ◌*◌, ◌/◌, ◌%◌, ◌<◌, ◌≤◌, true, false, List, [], ◌∷◌, ◌++◌, length, cond, bit_or, get_or, set, refl, sym, ap, ◌∙◌, subst, lt_of_not-le, arith}
use mathlib.Core.Logic.{dite}
use mathlib.Core.Option.{Option, none, some, some-injective, some-ne-none}
use native.Mathlib.Decide.{dec_le, ℕ_discrete}
use lib.ListN.{get_elem?}
use Rattle.atomic_table.specs.Table.{State, Me, step, keeps, takes, put_back, rest, Allows}
use Rattle.atomic_table.specs.Table.{gives as gives_back}
use Rattle.sock_words.specs.declared.plain.Plan.{Plan}
use Rattle.sock_model.specs.declared.home.Home.{Home}
use Rattle.sock_model.specs.declared.home.Home.TheVariants.{Message}
use Rattle.sock_model.specs.declared.view.View.{View}
use Rattle.sock_model.specs.declared.chain.Claim.{Claim}
use Rattle.sock_model.specs.declared.chain.Entry.{Entry}
use Rattle.sock_model.specs.declared.chain.Heading.{Heading}
use Rattle.sock_model.specs.declared.chain.Loose.{Loose}
use Rattle.sock_model.specs.MarkWeights.{is_hold, is_met}
use Rattle.sock_model.specs.SocketTableLayout.{request_index, next_index, head_index, link_index}
use Rattle.sock_model.specs.SlotRows.{marks_of, met_link}
use Rattle.sock_model.specs.ChainRows.{with_claim, fresh_claim, filled_claim, ready_claim, queued, righted, without_loose, more, entry_of}
use Rattle.sock_model.specs.ChainStepConditions.{MayExchange}
use Rattle.sock_model.specs.LawfulSockets.{Lawful}
use Rattle.sock_model.specs.Rule.{MOST_ACCEPTED, noting, Rule}
use Rattle.chain_core.specs.slot_steps.proofs.SlotWeightSums.{total-append}
use Rattle.chain_core.specs.chain_steps.proofs.Bits.{or_one_even, or_one_odd}
use Rattle.chain_core.specs.chain_steps.proofs.TicketLists.{at_length, at_snoc, old, new}
use Rattle.chain_core.specs.sock_steps.proofs.Maps.{set_at, set_twice}
use Rattle.chain_core.specs.sock_steps.proofs.ClaimSteps.{claiming_law, readying_law, filling_law, claim_alone}
use Rattle.chain_core.specs.sock_steps.proofs.NotingLastingWords.{tried_rule}
use Rattle.chain_core.specs.sock_steps.proofs.RuleFrame.{word_rule}
use Rattle.chain_core.specs.sock_steps.proofs.RuleSteps.{meet_rule}
use Rattle.chain_core.specs.sock_steps.proofs.RuleChains.{queued_rule, righted_rule, connecting_rule, ready_rule, fill_rule}
use Rattle.sock_rule.specs.OnTable.{LabelledIn, Labelled, OnTable}
use Rattle.sock_model.specs.MessageLabels.{blank}
use Rattle.sock_rule.specs.ChainPlays.{filled_with, request_told, fill_told, ready_told, swap_told, connect_told}
use Rattle.sock_rule.proofs.KeptBesideSocketRule.{beside, homes_else}
use Rattle.sock_rule.proofs.CodesAndHomesSettling.{slot_settled, next_settled, taken_settled, home_back_settled, load_settled}
use Rattle.sock_rule.proofs.Reached.{free_generation, free_home_law}
use Rattle.sock_rule.proofs.Storing.{held_linked, held_is, met_is}
use Rattle.sock_words.specs.PackedWords.{IDLE, UNCONNECTED}
use Rattle.sock_words.specs.Totals.{total}

the_claim : (l : List Claim) (c d : Claim) → l ≡ c ∷ [] → l ≡ d ∷ [] → c ≡ d
the_claim l c d e f = let h : c ∷ [] ≡ d ∷ [] = sym e ∙ f in cc

-- an entry more in the own list is no list more
same_lists : (v : View) (made : List Entry) (taken_in : List (List Entry)) (e : Entry) → v.lists ≡ made ∷ taken_in → length (more v.lists e) ≡ length v.lists
same_lists v made taken_in e own = ap (λ (l : List (List Entry)). length (more l e)) own ∙ sym (ap length own)

-- and no message less
more_accepts : (f : Entry → ℕ) (v : View) (e : Entry) → total (total f) v.lists ≤ total (total f) (more v.lists e)
more_accepts f v e = in_lists v.lists
  where
    in_lists : (ls : List (List Entry)) → total (total f) ls ≤ total (total f) (more ls e)
    in_lists [] = omega arith
    in_lists (first ∷ others) = omega (arith, total-append f first (e ∷ []))

odd_stays : (n : ℕ) → n % 2 ≡ 1 → bit_or n 1 ≡ n
odd_stays n odd = let e : n ≡ 2 * (n / 2) + 1 = omega arith in ap (λ x. bit_or x 1) e ∙ (or_one_odd (n / 2) ∙ sym e)

abbrev head_or : {S : Type 0} → ℕ × S → List (ℕ × S) → ℕ × S
head_or a [] = a
head_or a (b ∷ l) = b

pub first_is : {S : Type 0} (a b : ℕ × S) (l m : List (ℕ × S)) → a ∷ l ≡ b ∷ m → a ≡ b
first_is {S} a b l m e = ap {A = List (ℕ × S)} (head_or a) e

-- ## Labels

claim_at : (c d : Claim) (i : ℕ) → get_elem? (c ∷ []) i ≡ some d → c ≡ d
claim_at c d zero e = some-injective c d e
claim_at c d (suc i) e = absurd (some-ne-none d (sym e))

claim_labelled : (p : Plan) (v : View) (c : Claim) → (c.filled ≡ true → c.heading.label.place < 8 * p.operations) → Labelled p v → Labelled p (with_claim v c)
claim_labelled p v c label l = record { entries = l.entries; claimed = λ i d e f. subst (λ (x : Claim). x.filled ≡ true → x.heading.label.place < 8 * p.operations) (claim_at c d i e) label f }

more_labelled : (p : Plan) (lists : List (List Entry)) (claims : List Claim) (e : Entry) → e.heading.label.place < 8 * p.operations → LabelledIn p lists claims → LabelledIn p (more lists e) []
more_labelled p [] claims e low l = record { entries = λ n m f. absurd (some-ne-none m (sym f)); claimed = λ i c f. absurd (some-ne-none c (sym f)) }
more_labelled p (first ∷ others) claims e low l = record { entries = entries; claimed = λ i c f. absurd (some-ne-none c (sym f)) }
  where
    entries : (n : ℕ) (m : List Entry) → get_elem? ((first ++ e ∷ []) ∷ others) n ≡ some m → (i : ℕ) (x : Entry) → get_elem? m i ≡ some x → x.heading.label.place < 8 * p.operations
    entries zero m f i x g = elim (at_snoc first e i x (ap (λ (y : List Entry). get_elem? y i) (some-injective (first ++ e ∷ []) m f) ∙ g)) [
      | old h z ↦ l.entries 0 first refl i x h
      | new h z ↦ subst (λ (y : Entry). y.heading.label.place < 8 * p.operations) z low
    ]
    entries (suc n) m f i x g = l.entries (suc n) m f i x g

module _ {S : Type 0} (shows : S → Home) (rose : S → ℕ) (p : Plan) (slots id : ℕ) (me : Me S View) (mine : me.0.plan ≡ p) (some_ : 0 < me.0.share) where
  abbrev v : View
  v = me.0

  -- a claim's label is one of a place word
  label_of : (s : State S View) → OnTable shows rose p s → get_elem? s.views id ≡ some me.0 → (c : Claim) → me.0.claims ≡ c ∷ [] → c.filled ≡ true → c.heading.label.place < 8 * p.operations
  label_of s t here c is filled = (t.labelled id me.0 here).claimed 0 c (ap (λ (l : List Claim). get_elem? l 0) is) filled

  -- C1: the home of the request goes with the seat that claims it
  pub asks : (r : ℕ) → r < p.requests → v.claims ≡ [] → Allows (OnTable shows rose p) slots id me (request_index p r) (λ n. bit_or n 1) (request_told (step slots (request_index p r) 1 0 none) me)
  asks r inside idle s t long here fits = let found : ℕ = get_or s.words (request_index p r) 0 in let o = t.rule.lawful in dite (ℕ_discrete (get_or s.words (request_index p r) 0 % 2) 0)
      (λ even. let g : ℕ = found / 2 in let c : Claim = fresh_claim 0 r found blank [] in let is : get_or s.words (request_index p r) 0 ≡ 2 * g = omega arith in
      let next : 2 * g + 1 ≡ bit_or (get_or s.words (request_index p r) 0) 1 = sym (ap (λ n. bit_or n 1) is ∙ or_one_even g) in
      let home = t.settled.present r inside even in let hs : List (Option S) = set s.homes r none in
      let w : View = with_claim v (fresh_claim 0 r found blank []) in
      let o' = free_home_law o id v here r none inside even in
      let at' = set_at s.views id v (at_length s.views id v here) in
      let law = claiming_law shows p id r g v (fresh_claim 0 r found blank []) record { words = s.words; homes = set s.homes r none; views = set s.views id v } o' at' inside idle refl refl refl refl is in
      let law' : Lawful shows p record { words = set s.words (request_index p r) (2 * g + 1); homes = set s.homes r none; views = set s.views id (with_claim v (fresh_claim 0 r found blank [])) } =
      subst (λ vs. Lawful shows p record { words = set s.words (request_index p r) (2 * g + 1); homes = set s.homes r none; views = vs }) (set_twice s.views id v w) law in
      let rule = word_rule t.rule id v here mine w (request_index p r) (2 * g + 1) hs record { plan = refl; found = refl; lists = refl } (λ l z. absurd (omega arith)) law' in (
        with_claim v (fresh_claim 0 r found blank []),
        takes r home.0,
        home.1,
        beside t id v (with_claim v (fresh_claim 0 r found blank [])) here some_ (set s.words (request_index p r) (bit_or found 1)) (set s.homes r none) (homes_else p s.homes r none inside)
            record { share = refl; lists = refl; finds = refl; stores = λ y z. omega arith; accepts = λ l. omega arith; labels = claim_labelled p v (fresh_claim 0 r found blank []) (λ f. absurd (no_truth f)) } record { faults = λ l. omega arith; outs = λ l. omega arith; hands = λ k. refl }
            (subst (λ n. Rattle.sock_rule.specs.OnTable.Settled p t.stored t.placed (set s.words (request_index p r) n) (set s.homes r none)) next (taken_settled t.settled r (2 * g + 1) inside (omega arith) (omega (arith, o.references.sized))))
            (subst (λ n. Rule shows p record { words = set s.words (request_index p r) n; homes = set s.homes r none; views = set s.views id (with_claim v (fresh_claim 0 r found blank [])) }) next rule),
        λ q at. let e = same_request r q mine at in (
          (λ z. (home.0, free_generation o r inside even, ap (λ (x : ℕ). (with_claim v (fresh_claim 0 x found blank []), (x, home.0) ∷ me.1)) e)),
          (λ odd. absurd (odd even)),
        ),
      ))
      (λ odd. (
        noting (request_index p r) v,
        keeps,
        tt,
        beside t id v (noting (request_index p r) v) here some_ (set s.words (request_index p r) (bit_or found 1)) s.homes (refl, λ l ll. refl) record { share = refl; lists = refl; finds = refl; stores = λ y z. omega arith; accepts = λ l. omega arith; labels = λ x. x } record { faults = λ l. omega arith; outs = λ l. omega arith; hands = λ k. refl }
            (subst (λ n. Rattle.sock_rule.specs.OnTable.Settled p t.stored t.placed (set s.words (request_index p r) n) s.homes) (sym (odd_stays found (omega arith))) (load_settled t.settled (request_index p r)))
            (tried_rule t.rule id v here mine r inside (omega arith)),
        λ q at. ((λ even. absurd (odd even)), λ z. ap (λ (x : ℕ). (noting x v, me.1)) at),
      ))
    where
      no_truth : false ≡ true → ⊥
      no_truth e = let n : ℕ ≡ ⊥ = ap (λ b. cond b ⊥ ℕ) e in subst (λ (x : Type 0). x) n 0

      same_request : (r q : ℕ) → me.0.plan ≡ p → request_index p r ≡ request_index me.0.plan q → r ≡ q
      same_request r q plan at = let e : request_index p r ≡ request_index p q = at ∙ ap (λ (z : Plan). request_index z q) plan in omega arith

  -- M1: the message goes home, and the link of the life that the seat holds is noted
  pub fills : (i h : ℕ) (c : Claim) (y : S) (below : List (ℕ × S)) (heading : Heading) (bytes : List ℕ) → i < p.slots → 0 < marks_of (is_hold h) i v → me.0.claims ≡ c ∷ [] → c.request < p.requests → me.1 ≡ (c.request, y) ∷ below
      → shows y ≡ Message heading bytes → heading.label.place < 8 * p.operations → Allows (OnTable shows rose p) slots id me (link_index i) (λ n. n) (fill_told shows (step slots (link_index i) 0 0 none) me)
  fills i h c y below heading bytes inside there claim low top shown label s t long here fits = let k : ℕ = get_or s.words (link_index i) 0 in let its = held_linked s t id v here i inside h there in
      let w₁ : View = met_link i h k v in let c' : Claim = filled_claim (record c { link = k }) heading bytes in let w : View = with_claim w₁ c' in
      let met = meet_rule t.rule id v here mine i inside h there in
      let s₁ : State S View = record { words = set s.words (link_index i) k; homes = s.homes; views = set s.views id w₁ } in
      let at₁ = set_at s.views id w₁ (at_length s.views id v here) in let short : c.request < length s.homes = omega (arith, t.housed) in
      let filled = fill_rule {s = s₁} met id w₁ at₁ mine c' (set s.homes c.request (some y)) (filling_law {s = s₁} met.lawful id c.request w₁ c c' at₁ low claim refl refl y shown short refl refl) in
      let rule = subst (λ vs. Rule shows p record { words = set s.words (link_index i) k; homes = set s.homes c.request (some y); views = vs }) (set_twice s.views id w₁ w) filled in (
        with_claim (met_link i h k v) (filled_claim (record c { link = k }) heading bytes),
        gives_back,
        tt,
        subst (λ (l : List (ℕ × S)). OnTable shows rose p record { words = set s.words (link_index i) k; homes = put_back s.homes l; views = set s.views id (with_claim (met_link i h k v) (filled_claim (record c { link = k }) heading bytes)) }) (sym top)
            (beside t id v (with_claim (met_link i h k v) (filled_claim (record c { link = k }) heading bytes)) here some_ (set s.words (link_index i) k) (set s.homes c.request (some y)) (homes_else p s.homes c.request (some y) low)
            record { share = refl; lists = refl; finds = refl; stores = λ a b. omega arith; accepts = λ l. omega arith; labels = claim_labelled p v (filled_claim (record c { link = k }) heading bytes) (λ f. label) } record { faults = λ l. omega arith; outs = λ l. omega arith; hands = λ k. refl }
            (home_back_settled (load_settled t.settled (link_index i)) c.request y short) rule),
        λ d z x g is at word other. let e : i ≡ x = omega arith in let same : h ≡ g = held_is shows rose p slots id me mine some_ i inside s t here h g there (subst (λ (q : ℕ). 0 < marks_of (is_hold g) q me.0) (sym e) other) in
            let same_c = the_claim me.0.claims c d claim is in let same_y : (c.request, y) ≡ z = first_is (c.request, y) z below (rest me.1) (sym top ∙ at) in
            let shows_z : filled_claim (record c { link = k }) heading bytes ≡ filled_with d k (shows z.1) = ap (filled_with c k) (sym shown) ∙ (λ q. filled_with (same_c q) k (shows (same_y q).1)) in (
              ((λ q. (with_claim (met_link (e q) (same q) k v) (shows_z q), rest (top q))) ∙ (λ q. (with_claim (met_link x g k v) (filled_with d k (shows z.1)), rest (sym top q)))),
              subst (λ (q : Plan). k < q.links) (sym mine) its,
              (λ l mt. met_is shows rose p slots id me mine some_ i inside s t here g l (subst (λ (q : ℕ). 0 < marks_of (is_hold g) q me.0) (sym e) other) (subst (λ (q : ℕ). 0 < marks_of (is_met g l) q me.0) (sym e) mt)),
            ),
      )

  -- C7
  pub readies : (c : Claim) → me.0.claims ≡ c ∷ [] → c.request < p.requests → Allows (OnTable shows rose p) slots id me (next_index p c.request) (λ _. UNCONNECTED) (λ _. ready_told (step slots (next_index p c.request) UNCONNECTED 0 none) me UNCONNECTED)
  readies c claim low s t long here fits = let o = t.rule.lawful in let alone = claim_alone o id c.request v c (ready_claim c) here low claim refl refl in (
    with_claim v (ready_claim c),
    keeps,
    tt,
    beside t id v (with_claim v (ready_claim c)) here some_ (set s.words (next_index p c.request) UNCONNECTED) s.homes (refl, λ l ll. refl) record { share = refl; lists = refl; finds = refl; stores = λ y z. omega arith; accepts = λ l. omega arith; labels = claim_labelled p v (ready_claim c) (label_of s t here c claim) } record { faults = λ l. omega arith; outs = λ l. omega arith; hands = λ k. refl }
        (next_settled t.settled c.request UNCONNECTED low)
        (ready_rule t.rule id v here mine c.request UNCONNECTED (ready_claim c) (readying_law o id c.request v c (ready_claim c) here low claim refl refl refl (λ f. o.messages.claimed c.request c low alone f))),
    λ d is. ap (λ (x : Claim). (with_claim v (ready_claim x), me.1)) (the_claim me.0.claims c d claim is),
  )

  -- C2
  pub swaps : (i own : ℕ) (x : MayExchange p v i own) → i < p.slots → length x.made < MOST_ACCEPTED → Allows (OnTable shows rose p) slots id me (head_index i) (λ _. own) (swap_told (step slots (head_index i) own 0 none) me)
  swaps i own x inside room s t long here fits = let found : ℕ = get_or s.words (head_index i) 0 in dite (dec_le IDLE (get_or s.words (head_index i) 0))
      (λ high. let r = righted_rule t.rule id v here mine i own x inside room high in (
        righted v x.claim found r.0 r.1,
        keeps,
        tt,
        beside t id v (righted v x.claim found r.0 r.1) here some_ (set s.words (head_index i) own) s.homes (refl, λ l ll. refl)
            record { share = refl; lists = same_lists v x.made x.taken_in (entry_of x.claim (found - IDLE)) x.lists; finds = refl; stores = λ y z. omega arith; accepts = λ l. more_accepts l v (entry_of x.claim (found - IDLE)); labels = more_labelled p v.lists v.claims (entry_of x.claim (found - IDLE)) (label_of s t here x.claim x.claims x.is_filled) } record { faults = λ l. omega arith; outs = λ l. omega arith; hands = λ k. refl }
            (slot_settled t.settled (head_index i) own (omega arith) (λ j e. omega arith)) r.2,
        λ c is. let q = the_claim me.0.claims x.claim c x.claims is in (refl, (λ low. absurd (omega arith)), λ h. (r.0, r.1, ap (λ (y : Claim). righted me.0 y (get_or s.words (head_index i) 0) r.0 r.1) q)),
      ))
      (λ low. (
        queued v x.claim found,
        keeps,
        tt,
        beside t id v (queued v x.claim found) here some_ (set s.words (head_index i) own) s.homes (refl, λ l ll. refl)
            record { share = refl; lists = same_lists v x.made x.taken_in (entry_of x.claim found) x.lists; finds = refl; stores = λ y z. omega arith; accepts = λ l. more_accepts l v (entry_of x.claim found); labels = more_labelled p v.lists v.claims (entry_of x.claim found) (label_of s t here x.claim x.claims x.is_filled) } record { faults = λ l. omega arith; outs = λ l. omega arith; hands = λ k. refl }
            (slot_settled t.settled (head_index i) own (omega arith) (λ j e. omega arith))
            (queued_rule t.rule id v here mine i own x inside room (lt_of_not-le low)),
        λ c is. let q = the_claim me.0.claims x.claim c x.claims is in (refl, (λ h. ap (λ (y : Claim). queued me.0 y (get_or s.words (head_index i) 0)) q), λ high. absurd (low high)),
      ))

  -- C3
  pub connects : (n : ℕ) (l : Loose) → l.request < p.requests → get_elem? v.loose n ≡ some l → Allows (OnTable shows rose p) slots id me (next_index p l.request) (λ _. l.before) (λ _. connect_told (step slots (next_index p l.request) l.before 0 none) me l.before)
  connects n l low has s t long here fits = (
    without_loose v l.request,
    keeps,
    tt,
    beside t id v (without_loose v l.request) here some_ (set s.words (next_index p l.request) l.before) s.homes (refl, λ l ll. refl) record { share = refl; lists = refl; finds = refl; stores = λ y z. omega arith; accepts = λ l. omega arith; labels = λ x. x } record { faults = λ l. omega arith; outs = λ l. omega arith; hands = λ k. refl }
        (next_settled t.settled l.request l.before low) (connecting_rule t.rule id v here mine n l low has),
    λ q at. let e : next_index p l.request ≡ next_index p q = at ∙ ap (λ (z : Plan). next_index z q) mine in let same : l.request ≡ q = omega arith in ap (λ (x : ℕ). (without_loose v x, me.1)) same,
  )
