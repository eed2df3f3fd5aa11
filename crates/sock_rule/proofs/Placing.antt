-- P1: the word of a place index changes, and a seat notes that it dropped a message. A second store at the same index means that two accepted messages have it.
use Rattle.std.proofs.Common.{◌≡◌, ◌≢◌, ℕ, zero, suc, ◌+◌, ◌-◌, ◌*◌, ◌/◌, ◌%◌, ◌<◌, ◌≤◌, List, [], ◌∷◌, length, length-set, map, get_or, set, true, cond, ne_eqb, inl, refl, sym, ap, ◌∙◌, subst, ⊎_elim, arith}
use mathlib.Core.Logic.{dite}
use mathlib.Core.Option.{some, some-injective}
use native.Mathlib.Decide.{ℕ_discrete}
use lib.ListN.{get_elem?}
use lib.Seq.{map-set}
use Rattle.atomic_table.specs.Table.{State}
use Rattle.atomic_table.proofs.Lists.{at_map, at_set, set_again}
use Rattle.sock_words.specs.declared.plain.Plan.{Plan}
use Rattle.sock_model.specs.declared.chain.Heading.{Heading}
use Rattle.sock_model.specs.declared.chain.Right.{Right}
use Rattle.sock_model.specs.declared.chain.Stage.TheVariants.{Writes}
use Rattle.sock_model.specs.declared.home.Home.{Home}
use Rattle.sock_model.specs.declared.marks.Mark.{Mark}
use Rattle.sock_model.specs.declared.view.View.{View}
use Rattle.sock_model.specs.declared.view.StoredWord.{StoredWord}
use Rattle.sock_model.specs.MarkWeights.{is_born, is_reset}
use Rattle.sock_model.specs.Marks.{about, latest}
use Rattle.sock_model.specs.Entries.{on}
use Rattle.sock_model.specs.SocketTableLayout.{name_index, open_index, place_index}
use Rattle.sock_model.specs.SocketSlotLaw.{SlotFacts, live, count, SlotLaw}
use Rattle.sock_model.specs.SlotRows.{wrote}
use Rattle.sock_model.specs.References.{uses_of, sayers, spare, slot_facts, Names, Stores, References}
use Rattle.sock_model.specs.Deliveries.{no_place, one_place}
use Rattle.sock_model.specs.LawfulSockets.{Lawful}
use Rattle.sock_model.specs.Rule.{lists_of, Rule}
use Rattle.chain_core.specs.chain_steps.proofs.ChainLettersStay.{writes_room}
use Rattle.chain_core.specs.chain_steps.proofs.TicketLists.{at_length, at_some}
use Rattle.chain_core.specs.slot_steps.proofs.RuleNumbers.{only-at, only-else, pair_only, pair_is, pair-at}
use Rattle.chain_core.specs.slot_steps.proofs.Stored.{noted-else}
use Rattle.chain_core.specs.slot_steps.proofs.SlotWeightSums.{total-set, term_le}
use Rattle.chain_core.specs.sock_steps.proofs.Maps.{put, put-at, put-else, set_at, set_twice}
use Rattle.chain_core.specs.sock_steps.proofs.RightSteps.{right_in, right_alone}
use Rattle.chain_core.specs.sock_steps.proofs.RuleFrame.{lasts_all, same_rule}
use Rattle.chain_core.specs.sock_steps.proofs.SlotFrame.{still_holds, slot_frame}
use Rattle.chain_core.specs.sock_steps.proofs.Steady.{wrote_steady}
use Rattle.sock_rule.specs.OnTable.{share_of, is_put, put_in, is_labelled, labelled_in, is_headed, headed_in, IsDropKept, Follows, Settled, Labelled, OnTable}
use Rattle.sock_rule.proofs.KeptBesideSocketRule.{SameShare, Calm, drop_stays, beside_placed}
use Rattle.sock_rule.proofs.LinkFaultNotes.{calm}
use Rattle.sock_rule.proofs.LastSeatOfSockets.{two_terms}
use Rattle.sock_rule.proofs.WeightedEntryCounts.{log_weight, on_weight, on_both}
use Rattle.sock_rule.proofs.FindsOfStoredWords.{wrote_more, aside_rule}
use Rattle.sock_rule.specs.NotesBesideRows.{dropped_at}
use Rattle.sock_words.specs.PackedWords.{DROPPED}
use Rattle.sock_words.specs.Totals.{total}

-- ## A note of a store elsewhere than at names and operations

module _ {S : Type 0} (shows : S → Home) (p : Plan) (s : State S View) (id : ℕ) (v : View) (here : get_elem? s.views id ≡ some v) (x word : ℕ) (high : 6 * p.slots + p.names + p.operations ≤ x) where
  abbrev w : View
  w = wrote x word v

  abbrev t : State S View
  t = record { words = s.words; homes = s.homes; views = set s.views id (wrote x word v) }

  abbrev f : ℕ → View → List Mark
  f j u = about j u.marks

  marks_same : (j : ℕ) → map (f j) (set s.views id w) ≡ map (f j) s.views
  marks_same j = map-set (f j) s.views id w ∙ set_again (map (f j) s.views) id (f j v) (at_map (f j) s.views id v here)

  local_same : (i : ℕ) → slot_facts t i ≡ slot_facts s i
  local_same i = ap (λ (ms : List (List Mark)). record (slot_facts s i) { marks = ms }) (marks_same i)

  stores_same : (y : ℕ) → x ≢ y → Stores s y → Stores t y
  stores_same y ne a some_ = let z : ℕ = get_or s.words y 0 in omega (arith, a some_, total-set (sayers y z) s.views id v w here, noted-else y z record { place = x; word = word } ne v.stores)

  names_same : (n : ℕ) → Names p s n → Names p t n
  names_same n a ne = let r = a ne in (r.0, subst (λ (l : SlotFacts). 0 < count (is_born ((n - 1) / 4294967296)) l) (sym (local_same ((n - 1) % 4294967296))) r.1)

  noted_references : References p s → References p t
  noted_references law = record {
    sized = law.sized;
    seat_limit = omega (arith, law.seat_limit, length-set s.views id w, total-set spare s.views id v w here);
    slots = λ i l. subst (λ (y : SlotFacts). SlotLaw p.first (live y) y) (sym (local_same i)) (law.slots i l);
    links = λ k. omega (arith, total-set (uses_of k) s.views id v w here, law.links k);
    named = record {
      names = λ n l. names_same (get_or s.words (name_index p n) 0) (law.named.names n l);
      opens = λ n l ne. names_same (get_or s.words (open_index p n) 0) (law.named.opens n l ne);
      names_by = λ n l. stores_same (name_index p n) (λ e. omega arith) (law.named.names_by n l);
      opens_by = λ n l. stores_same (open_index p n) (λ e. omega arith) (law.named.opens_by n l);
    };
  }

  noted_law : Lawful shows p s → Lawful shows p t
  noted_law o = slot_frame shows p s o id v w here s.words refl (wrote_steady v x word).0.0
      record { heads = λ k j e. refl; nexts = λ r l. refl; requests = λ r l. refl; places = λ l ll. refl }
      (λ j jl r. o.in_slots.reset j jl (subst (λ (l : SlotFacts). 0 < count is_reset l) (local_same j) r)) (still_holds p v w (λ j h k. omega arith) (λ j h. omega arith) refl (o.held id v here)) (inl (λ j y. omega arith)) (noted_references o.references)

  -- the rule reads no such note
  pub noted_rule : Rule shows p s → v.plan ≡ p → Rule shows p record { words = s.words; homes = s.homes; views = set s.views id (wrote x word v) }
  noted_rule r mine = same_rule r id v here mine (wrote x word v) s.words s.homes record { plan = refl; found = refl; lists = refl } (lasts_all p s.words) (noted_law r.lawful)

abbrev noting_drop : ℕ → ℕ → StoredWord
noting_drop x word = record { place = x; word = word }

-- ## A place index whose word isn't 0

module _ {S : Type 0} {shows : S → Home} {rose : S → ℕ} {p : Plan} {s : State S View} (t : OnTable shows rose p s) (id : ℕ) (v : View) (here : get_elem? s.views id ≡ some v) (r : Right) (one : v.rights ≡ r ∷ []) (now : ℕ) (stage : r.stage ≡ Writes now) (taken : r.taken ≡ true) (low : r.heading.label.place < 8 * p.operations) where
  -- two accepted messages have the index of the message in hand, where its word tells a place
  placed_twice : t.placed r.heading.label.place ≢ 0 → 2 ≤ total (labelled_in r.heading.label.place) s.views
  placed_twice some_ = let o = t.rule.lawful in let l : ℕ = r.heading.label.place in
      let has_ = ap (λ (y : List Right). get_elem? y 0) one in let kl = right_in o id 0 v r here has_ in let alone = right_alone o id 0 v r here has_ in
      let e = at_some (on r.link o.log) (o.places r.link) (writes_room o.chains r.link r now kl alone stage) in
      let its : e.0.heading.label.place ≡ r.heading.label.place = sym (ap (λ (h : Heading). h.label.place) (o.messages.in_hand r.link r e.0 kl alone taken e.1).0) in
      let word = t.settled.places r.heading.label.place low in
      let weighs : total (is_labelled r.heading.label.place) o.log ≤ total (labelled_in r.heading.label.place) s.views = log_weight (is_labelled r.heading.label.place) (λ (y : View). y.lists) s.views o.log o.authors in
      elim (o.delivered.shown r.heading.label.place low) [
        | no_place z h ↦ absurd (some_ (sym word ∙ z))
        | one_place k i d ks il g same value ↦ (let a = only-at r.heading.label.place d.heading.label.place same in let b = only-at r.heading.label.place e.0.heading.label.place its in dite (ℕ_discrete k r.link)
            (λ q. let g' : get_elem? (on r.link o.log) i ≡ some d = subst (λ (y : ℕ). get_elem? (on y o.log) i ≡ some d) q g in let late : i < o.places r.link = subst (λ (y : ℕ). i < o.places y) q il in
            omega (arith, two_terms (is_labelled r.heading.label.place) (on r.link o.log) i (o.places r.link) d e.0 g' e.1 (λ z. omega arith), on_weight (is_labelled r.heading.label.place) r.link o.log))
            (λ n. omega (arith, term_le (is_labelled r.heading.label.place) (on k o.log) i d g, term_le (is_labelled r.heading.label.place) (on r.link o.log) (o.places r.link) e.0 e.1, on_both (is_labelled r.heading.label.place) k r.link o.log n)))
      ]

  -- the message in hand was accepted
  headed_there : 0 < total (headed_in r.heading) s.views
  headed_there = let o = t.rule.lawful in
      let has_ = ap (λ (y : List Right). get_elem? y 0) one in let kl = right_in o id 0 v r here has_ in let alone = right_alone o id 0 v r here has_ in
      let e = at_some (on r.link o.log) (o.places r.link) (writes_room o.chains r.link r now kl alone stage) in
      let its : r.heading ≡ e.0.heading = (o.messages.in_hand r.link r e.0 kl alone taken e.1).0 in
      let place = only-at r.heading.label.place e.0.heading.label.place (sym (ap (λ (h : Heading). h.label.place) its)) in
      let rest_ = pair-at r.heading.label.attempt r.heading.owner e.0.heading.label.attempt e.0.heading.owner (sym (ap (λ (h : Heading). h.label.attempt) its)) (sym (ap (λ (h : Heading). h.owner) its)) in
      let one_ : is_headed r.heading e.0 ≡ 1 = λ i. place i * rest_ i in
      omega (arith, one_, term_le (is_headed r.heading) (on r.link o.log) (o.places r.link) e.0 e.1, on_weight (is_headed r.heading) r.link o.log, log_weight (is_headed r.heading) (λ (y : View). y.lists) s.views o.log o.authors)

  -- so no message with this index was dropped before, where it is that of one message
  no_drop : total (labelled_in r.heading.label.place) s.views ≤ 1 → (n : ℕ) → 0 < total (put_in (place_index p r.heading.label.place) n) s.views → ⊥
  no_drop one_ n some_ = let a = (t.drops r.heading.label.place low).stays one_ n some_ in let z = placed_twice (λ e. (let b = a.0 in let c = a.1 in omega arith)) in omega arith

  -- P1 of a message that its link took whole
  pub places_beside : (value : ℕ) (w : View) → value < DROPPED → 0 < v.share → SameShare p v w → Calm v w → w.lists ≡ v.lists → Settled p t.stored (put t.placed r.heading.label.place value) (set s.words (place_index p r.heading.label.place) value) s.homes
      → Rule shows p record { words = set s.words (place_index p r.heading.label.place) value; homes = s.homes; views = set s.views id w }
      → OnTable shows rose p record { words = set s.words (place_index p r.heading.label.place) value; homes = s.homes; views = set s.views id w }
  places_beside value w small some_ same c lists kept rule = beside_placed t id v w here some_ (set s.words (place_index p r.heading.label.place) value) s.homes (put t.placed r.heading.label.place value) drops (λ k kl. calm id v w here (set s.words (place_index p r.heading.label.place) value) s.homes k (t.faults k kl) refl (c.faults k) (c.outs k) (c.faults (p.links + k)) (c.hands k)) refl same kept rule
    where
      puts : (l n : ℕ) → total (put_in (place_index p l) n) s.views ≡ total (put_in (place_index p l) n) (set s.views id w)
      puts l n = omega (arith, total-set (put_in (place_index p l) n) s.views id v w here, same.stores (place_index p l) n)

      labels : (l : ℕ) → total (labelled_in l) s.views ≡ total (labelled_in l) (set s.views id w)
      labels l = omega (arith, total-set (labelled_in l) s.views id v w here, ap (total (total (is_labelled l))) lists)

      drops : (l : ℕ) → l < 8 * p.operations → IsDropKept p (set s.views id w) l (put t.placed r.heading.label.place value l)
      drops l ll = dite (ℕ_discrete l r.heading.label.place)
          (λ e. subst (IsDropKept p (set s.views id w) l) (sym (put-at t.placed r.heading.label.place l value e))
          record { told = λ high. absurd (omega arith); stays = λ one_ n there. absurd (no_drop (omega (arith, labels l, ap (λ (y : ℕ). total (labelled_in y) s.views) e)) n (omega (arith, puts l n, ap (λ (y : ℕ). total (put_in (place_index p y) n) s.views) e))) })
          (λ ne. subst (IsDropKept p (set s.views id w) l) (sym (put-else t.placed r.heading.label.place l value ne)) (drop_stays p s.views (set s.views id w) l (t.placed l) (puts l) (omega (arith, labels l)) (t.drops l ll)))

  -- P1 of one that is dropped, which the seat notes
  pub drops_beside : (value : ℕ) (u : View) → DROPPED ≤ value → 0 < v.share → u.plan ≡ p → SameShare p v u → Calm v u → u.lists ≡ v.lists → place_index p r.heading.label.place < length s.words
      → ((noted : List StoredWord) → ((y : ℕ) → y < 6 * p.slots + p.names + p.operations → latest y noted ≡ latest y t.stored) → Settled p noted (put t.placed r.heading.label.place value) (set s.words (place_index p r.heading.label.place) value) s.homes)
      → Rule shows p record { words = set s.words (place_index p r.heading.label.place) value; homes = s.homes; views = set s.views id u }
      → OnTable shows rose p record { words = set s.words (place_index p r.heading.label.place) value; homes = s.homes; views = set s.views id (dropped_at (place_index p r.heading.label.place) value r.heading u) }
  drops_beside value u high some_ mine same c lists long kept rule = let w : View = dropped_at (place_index p r.heading.label.place) value r.heading u in let wrote_it : View = wrote (place_index p r.heading.label.place) value u in record {
    rule = subst (λ vs. Rule shows p record { words = set s.words (place_index p r.heading.label.place) value; homes = s.homes; views = vs }) (set_twice s.views id wrote_it w)
        (aside_rule {s = record { words = set s.words (place_index p r.heading.label.place) value; homes = s.homes; views = set s.views id wrote_it }} id wrote_it (set_at s.views id wrote_it (at_length s.views id v here))
        (subst (λ vs. Rule shows p record { words = set s.words (place_index p r.heading.label.place) value; homes = s.homes; views = vs }) (set_twice s.views id u wrote_it)
        (noted_rule shows p record { words = set s.words (place_index p r.heading.label.place) value; homes = s.homes; views = set s.views id u } id u (set_at s.views id u (at_length s.views id v here)) (place_index p r.heading.label.place) value (omega arith) rule mine))
        mine u.share u.finds u.histories (r.heading ∷ u.drops));
    housed = t.housed;
    shares = (let a = t.shares in omega (arith, same.share, total-set share_of s.views id v w here));
    listed = λ j z g. ⊎_elim (λ y. subst (λ (q : View). lists_of q ≤ q.share) y.1 (omega (arith, t.listed id v here, same.lists, same.share))) (λ y. t.listed j z y.1) (at_set s.views id j w z g);
    idle = λ j z g none_. ⊎_elim (λ y. absurd (omega (arith, ap (λ (q : View). q.share) y.1, same.share))) (λ y. t.idle j z y.1 none_) (at_set s.views id j w z g);
    stored = noting_drop (place_index p r.heading.label.place) value ∷ t.stored;
    put = λ y z. omega (arith, t.put y z, puts y z);
    placed = put t.placed r.heading.label.place value;
    drops = drops;
    faults = λ k kl. calm id v w here (set s.words (place_index p r.heading.label.place) value) s.homes k (t.faults k kl) refl (c.faults k) (c.outs k) (c.faults (p.links + k)) (c.hands k);
    settled = kept (noting_drop (place_index p r.heading.label.place) value ∷ t.stored) (λ y low_. ap (λ b. cond b value (latest y t.stored)) (ne_eqb (place_index p r.heading.label.place) y (λ e. omega arith)));
    met = λ j z g n h e. further h (⊎_elim (λ y. t.met id v here n h (subst (λ (l : List (List StoredWord)). get_elem? l n ≡ some h) (ap (λ (q : List StoredWord × (List (List StoredWord) × List Heading)). q.1.0) same.finds) (subst (λ (q : View). get_elem? q.histories n ≡ some h) (sym y.1) e)))
        (λ y. t.met j z y.1 n h e) (at_set s.views id j w z g));
    labelled = λ j z g. ⊎_elim (λ y. subst (Labelled p) y.1 (same.labels (t.labelled id v here))) (λ y. t.labelled j z y.1) (at_set s.views id j w z g);
    found_was = λ j z g n f e. ⊎_elim (λ y. let x : get_elem? v.finds n ≡ some f = subst (λ (l : List StoredWord). get_elem? l n ≡ some f) (ap (λ (q : List StoredWord × (List (List StoredWord) × List Heading)). q.0) same.finds) (subst (λ (q : View). get_elem? q.finds n ≡ some f) (sym y.1) e) in omega (arith, t.found_was id v here n f x, puts f.place f.word))
        (λ y. omega (arith, t.found_was j z y.1 n f e, puts f.place f.word)) (at_set s.views id j w z g);
    dropped_was = λ j z g n f e. ⊎_elim (λ y. own n f (subst (λ (q : View). get_elem? q.drops n ≡ some f) (sym y.1) e)) (λ y. omega (arith, t.dropped_was j z y.1 n f e, headed f)) (at_set s.views id j w z g);
  }
    where
      puts : (y z : ℕ) → is_put y z (noting_drop (place_index p r.heading.label.place) value) + total (put_in y z) s.views ≡ total (put_in y z) (set s.views id (dropped_at (place_index p r.heading.label.place) value r.heading u))
      puts y z = omega (arith, total-set (put_in y z) s.views id v (dropped_at (place_index p r.heading.label.place) value r.heading u) here, wrote_more (place_index p r.heading.label.place) value y z u, same.stores y z)

      further : (h : List StoredWord) → Follows t.stored h → Follows (noting_drop (place_index p r.heading.label.place) value ∷ t.stored) h
      further h g = (noting_drop (place_index p r.heading.label.place) value ∷ g.0, ap (λ (l : List StoredWord). noting_drop (place_index p r.heading.label.place) value ∷ l) g.1)

      headed : (f : Heading) → total (headed_in f) s.views ≡ total (headed_in f) (set s.views id (dropped_at (place_index p r.heading.label.place) value r.heading u))
      headed f = omega (arith, total-set (headed_in f) s.views id v (dropped_at (place_index p r.heading.label.place) value r.heading u) here, ap (total (total (is_headed f))) lists)

      own : (n : ℕ) (f : Heading) → get_elem? (r.heading ∷ u.drops) n ≡ some f → 0 < total (headed_in f) (set s.views id (dropped_at (place_index p r.heading.label.place) value r.heading u))
      own zero f e = subst (λ (q : Heading). 0 < total (headed_in q) (set s.views id (dropped_at (place_index p r.heading.label.place) value r.heading u))) (some-injective r.heading f e) (omega (arith, headed_there, headed r.heading))
      own (suc n) f e = omega (arith, t.dropped_was id v here n f (subst (λ (l : List Heading). get_elem? l n ≡ some f) (ap (λ (q : List StoredWord × (List (List StoredWord) × List Heading)). q.1.1) same.finds) e), headed f)

      labels : (l : ℕ) → total (labelled_in l) s.views ≡ total (labelled_in l) (set s.views id (dropped_at (place_index p r.heading.label.place) value r.heading u))
      labels l = omega (arith, total-set (labelled_in l) s.views id v (dropped_at (place_index p r.heading.label.place) value r.heading u) here, ap (total (total (is_labelled l))) lists)

      drops : (l : ℕ) → l < 8 * p.operations → IsDropKept p (set s.views id (dropped_at (place_index p r.heading.label.place) value r.heading u)) l (put t.placed r.heading.label.place value l)
      drops l ll = dite (ℕ_discrete l r.heading.label.place)
          (λ e. subst (IsDropKept p (set s.views id (dropped_at (place_index p r.heading.label.place) value r.heading u)) l) (sym (put-at t.placed r.heading.label.place l value e)) record {
            told = λ h. omega (arith, puts (place_index p l) value, pair-at (place_index p l) value (place_index p r.heading.label.place) value (ap (place_index p) (sym e)) refl);
            stays = λ one_ n there. dite (ℕ_discrete value n) (λ y. (y, (let z = high in omega arith)))
                (λ ne. absurd (dite (ℕ_discrete (total (put_in (place_index p l) n) s.views) 0)
                (λ none_. ne (pair_is (place_index p l) n (place_index p r.heading.label.place) value (omega (arith, puts (place_index p l) n))).1)
                (λ some_. no_drop (omega (arith, labels l, ap (λ (y : ℕ). total (labelled_in y) s.views) e)) n (omega (arith, ap (λ (y : ℕ). total (put_in (place_index p y) n) s.views) e)))));
          })
          (λ ne. subst (IsDropKept p (set s.views id (dropped_at (place_index p r.heading.label.place) value r.heading u)) l) (sym (put-else t.placed r.heading.label.place l value ne))
          (drop_stays p s.views (set s.views id (dropped_at (place_index p r.heading.label.place) value r.heading u)) l (t.placed l) (λ n. omega (arith, puts (place_index p l) n, pair_only (place_index p l) n (place_index p r.heading.label.place) value, only-else (place_index p l) (place_index p r.heading.label.place) (λ e. ne (omega arith)))) (omega (arith, labels l)) (t.drops l ll)))
