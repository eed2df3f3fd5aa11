-- A new table meets the rule, and so does one of which a seat was split in two or two were joined.
use Rattle.std.proofs.Common.{◌≡◌, ℕ, zero, suc, ◌+◌, ◌-◌, ◌*◌, ◌<◌, ◌≤◌, ◌⊎◌, inl, inr, ⊎_elim, List, [], ◌∷◌, ◌++◌, length-append, map, false, get_or, set, refl, sym, ap, ◌∙◌, subst, arith}
use Rattle.std.proofs.lemmas.Bool.{cases_lt}
use Rattle.std.proofs.lemmas.List.{length-map}
use mathlib.Core.Option.{Option, some, some-injective, some-ne-none}
use lib.ListN.{get_elem?}
use Rattle.atomic_table.specs.Table.{State, Splits, Joins, opening}
use Rattle.atomic_table.proofs.Lists.{at_set, at_snoc, at_map, some_there}
use Rattle.sock_words.specs.declared.plain.Plan.{Plan}
use Rattle.sock_model.specs.declared.home.Home.{Home}
use Rattle.sock_model.specs.declared.chain.Entry.{Entry}
use Rattle.sock_model.specs.declared.chain.Heading.{Heading}
use Rattle.sock_model.specs.declared.home.Home.TheVariants.{Link}
use Rattle.sock_model.specs.declared.view.View.{View}
use Rattle.sock_model.specs.declared.view.StoredWord.{StoredWord}
use Rattle.sock_model.specs.SocketTableLayout.{place_index}
use Rattle.sock_model.specs.ChainLawReads.{carries, as_link, shown, link_at}
use Rattle.sock_model.specs.ViewsOfSplitSeats.{newcomer, carrier, earliest, later, joined, spent, first_view, lighter}
use Rattle.sock_model.specs.Rule.{lists_of, Rule}
use Rattle.chain_core.specs.chain_steps.proofs.TicketLists.{at_length}
use Rattle.chain_core.specs.slot_steps.proofs.SlotWeightSums.{total-set, total-append}
use Rattle.chain_core.specs.slot_steps.proofs.SplitSeatsKeepSlot.{passes-left}
use Rattle.chain_core.specs.sock_steps.proofs.Maps.{set_at, set_twice}
use Rattle.chain_core.specs.sock_steps.proofs.Reseat.{opening_law}
use Rattle.chain_core.specs.sock_steps.proofs.RuleSeats.{opening_rule, splitting_rule, joining_rule}
use Rattle.chain_core.specs.sock_steps.proofs.Carriers.{carrying_rule}
use Rattle.sock_rule.specs.OnTable.{share_of, is_put, put_in, is_labelled, labelled_in, is_headed, headed_in, IsIdle, Labelled, OnTable, opener}
use Rattle.sock_rule.specs.SocketSeatSplits.{giving, given, MayGive, passed, IsDone, IsNew}
use Rattle.sock_rule.specs.LinkFaultNotes.{faults_link, faults_of, away, out_of}
use Rattle.sock_rule.proofs.KeptBesideSocketRule.{Calm, drop_stays}
use Rattle.sock_rule.proofs.LinkFaultNotes.{new_faults, split_faults, join_faults}
use Rattle.sock_rule.proofs.FindsOfStoredWords.{aside_rule}
use Rattle.sock_words.specs.Totals.{total}

-- of a weight that is at most another, and less by d at one place, the sum is less by d
less_by : {A : Type 0} (f g : A → ℕ) (d : ℕ) (l : List A) (i : ℕ) (a : A) → ((j : ℕ) (b : A) → get_elem? l j ≡ some b → f b ≤ g b) → get_elem? l i ≡ some a → f a + d ≤ g a → total f l + d ≤ total g l
less_by f g d [] i a le e less = absurd (some-ne-none a (sym e))
less_by f g d (x ∷ xs) zero a le e less = let q = some-injective x a e in let h : f x + d ≤ g x = subst (λ y. f y + d ≤ g y) (sym q) less in let r = all f g xs (λ j b m. le (suc j) b m) in omega arith
  where
    all : {A : Type 0} (f g : A → ℕ) (l : List A) → ((j : ℕ) (b : A) → get_elem? l j ≡ some b → f b ≤ g b) → total f l ≤ total g l
    all f g [] le = omega arith
    all f g (y ∷ ys) le = omega (arith, le zero y refl, all f g ys (λ j b m. le (suc j) b m))
less_by f g d (x ∷ xs) (suc i) a le e less = let h = le zero x refl in let r = less_by f g d xs i a (λ j b m. le (suc j) b m) e less in omega arith

at_append : {A : Type 0} (xs ys : List A) (i : ℕ) (a : A) → get_elem? (xs ++ ys) i ≡ some a → (get_elem? xs i ≡ some a) ⊎ ((k : ℕ) × (get_elem? ys k ≡ some a))
at_append [] ys i a e = inr (i, e)
at_append (x ∷ xs) ys zero a e = inl e
at_append (x ∷ xs) ys (suc i) a e = at_append xs ys i a e

-- a new table
pub opens : {S : Type 0} (shows : S → Home) (rose : S → ℕ) (p : Plan) (ws : List ℕ) (xs : List S) → IsNew shows p ws xs → OnTable shows rose p (opening ws xs (opener p))
opens {S} shows rose p ws xs new = let hs : List (Option S) = map some xs in let v : View = first_view p in
    let at : (k : ℕ) → k < p.links → link_at shows p (map some xs) k ≡ some (Link k [] 0 false) = λ k kl. let y = new.links k kl in
    ap (λ h. as_link (shown shows h)) (at_map some xs (p.requests + k) y.0 y.1) ∙ ap (λ (h : Home). as_link (some h)) y.2 in
    let r : Rule shows p record { words = ws; homes = map some xs; views = first_view p ∷ [] } = opening_rule shows p ws (map some xs) new.some_seats new.few_seats (opening_law shows p ws (map some xs) new.unused new.fits new.first_low new.requests new.places at) in
    record {
      rule = aside_rule {s = record { words = ws; homes = map some xs; views = first_view p ∷ [] }} 0 v refl r refl p.seats [] [] [];
      housed = length-map xs some ∙ new.homes;
      shares = omega arith;
      listed = λ id u e. subst (λ (z : View). lists_of z ≤ z.share) (one_view (opener p) u id e) new.some_seats;
      idle = λ id u e none_. let a = ap (λ (z : View). z.share) (one_view (opener p) u id e) in let b = new.some_seats in absurd (omega arith);
      stored = [];
      put = λ x w. omega arith;
      met = λ id u e n h g. absurd (some-ne-none h (sym (subst (λ (z : View). get_elem? z.histories n ≡ some h) (sym (one_view (opener p) u id e)) g)));
      placed = λ l. 0;
      drops = λ l ll. record { told = λ high. absurd (omega arith); stays = λ one n some_. absurd (omega arith) };
      faults = λ k kl. (let y = new.links k kl in new_faults p ws (map some xs) (opener p) k y.0 (at_map some xs (p.requests + k) y.0 y.1) refl refl refl);
      settled = record { names = new_names; places = new.places; codes = λ i il. omega (arith, new.unused.codes i il); present = λ r rl even. some_there xs r (omega (arith, new.homes)) };
      labelled = λ id u e. subst (Labelled p) (one_view (opener p) u id e) record { entries = λ n l f i x g. no_entries n l f i x g; claimed = λ i c f. absurd (some-ne-none c (sym f)) };
      found_was = λ id u e n x g. absurd (some-ne-none x (sym (subst (λ (z : View). get_elem? z.finds n ≡ some x) (sym (one_view (opener p) u id e)) g)));
      dropped_was = λ id u e n h g. absurd (some-ne-none h (sym (subst (λ (z : View). get_elem? z.drops n ≡ some h) (sym (one_view (opener p) u id e)) g)));
    }
  where
    new_names : (x : ℕ) → 6 * p.slots ≤ x → x < 6 * p.slots + p.names + p.operations → get_or ws x 0 ≡ 0
    new_names x high low = ⊎_elim
        (λ below. subst (λ (y : ℕ). get_or ws y 0 ≡ 0) (omega arith) (new.unused.names (x - 6 * p.slots) (omega arith)))
        (λ above. subst (λ (y : ℕ). get_or ws y 0 ≡ 0) (omega arith) (new.unused.opens (x - (6 * p.slots + p.names)) (omega arith)))
        (cases_lt x (6 * p.slots + p.names))

    no_entries : (n : ℕ) (l : List Entry) → get_elem? ([] ∷ []) n ≡ some l → (i : ℕ) (e : Entry) → get_elem? l i ≡ some e → e.heading.label.place < 8 * p.operations
    no_entries zero l e i x f = absurd (some-ne-none x (sym (ap (λ (y : List Entry). get_elem? y i) (some-injective [] l e) ∙ f)))
    no_entries (suc n) l e i x f = absurd (some-ne-none l (sym e))

    one_view : (v u : View) (i : ℕ) → get_elem? (v ∷ []) i ≡ some u → v ≡ u
    one_view v u zero e = some-injective v u e
    one_view v u (suc i) e = absurd (some-ne-none u (sym e))

module _ {S : Type 0} (shows : S → Home) (rose : S → ℕ) (p : Plan) (id : ℕ) (v : View) (mine : v.plan ≡ p) where
  -- what holds beside the rule once a seat is added that found nothing
  adds_seat : (s : State S View) (t : OnTable shows rose p s) → get_elem? s.views id ≡ some v → (left right : View) → 0 < left.share → ◌≡◌ {A = List StoredWord × (List (List StoredWord) × List Heading)} (left.finds, (left.histories, left.drops)) (v.finds, (v.histories, v.drops)) → left.stores ≡ v.stores → Calm v left → ((k : ℕ) → (faults_of k right ≡ 0) × (out_of k right ≡ 0)) → ((f : Entry → ℕ) → total (total f) v.lists ≤ total (total f) left.lists) → lists_of left ≤ left.share → left.share + right.share ≡ v.share
      → lists_of right ≤ right.share → (right.share ≡ 0 → IsIdle right) → ◌≡◌ {A = List StoredWord × (List (List StoredWord) × (List (List StoredWord) × List Heading))} (right.finds, (right.histories, (right.stores, right.drops))) ([], ([], ([] ∷ [], []))) → (Labelled p v → Labelled p left) → Labelled p right → Rule shows p record { words = s.words; homes = s.homes; views = set s.views id left ++ right ∷ [] }
      → OnTable shows rose p record { words = s.words; homes = s.homes; views = set s.views id left ++ right ∷ [] }
  adds_seat s t here left right some_left finds stores calm none_noted accepts fits sum fits_too idle_too none_found labels labels_too r = let first : List View = set s.views id left in
      let finds_stay : left.finds ≡ v.finds = ap (λ (q : List StoredWord × (List (List StoredWord) × List Heading)). q.0) finds in let met_stay : left.histories ≡ v.histories = ap (λ (q : List StoredWord × (List (List StoredWord) × List Heading)). q.1.0) finds in let drops_stay : left.drops ≡ v.drops = ap (λ (q : List StoredWord × (List (List StoredWord) × List Heading)). q.1.1) finds in
      let no_finds : right.finds ≡ [] = ap (λ (q : List StoredWord × (List (List StoredWord) × (List (List StoredWord) × List Heading))). q.0) none_found in let no_met : right.histories ≡ [] = ap (λ (q : List StoredWord × (List (List StoredWord) × (List (List StoredWord) × List Heading))). q.1.0) none_found in let no_drops : right.drops ≡ [] = ap (λ (q : List StoredWord × (List (List StoredWord) × (List (List StoredWord) × List Heading))). q.1.1.1) none_found in
      let no_stores : right.stores ≡ [] ∷ [] = ap (λ (q : List StoredWord × (List (List StoredWord) × (List (List StoredWord) × List Heading))). q.1.1.0) none_found in
      let more : (x w : ℕ) → total (put_in x w) s.views ≡ total (put_in x w) (set s.views id left ++ right ∷ []) = λ x w. omega (arith, total-append (put_in x w) first (right ∷ []), total-set (put_in x w) s.views id v left here, ap (total (total (is_put x w))) stores, ap (total (total (is_put x w))) no_stores) in
      record {
        rule = r;
        housed = t.housed;
        shares = (let a = t.shares in omega (arith, total-append share_of first (right ∷ []), total-set share_of s.views id v left here));
        listed = λ j u g. ⊎_elim (λ a. ⊎_elim (λ y. subst (λ (z : View). lists_of z ≤ z.share) y.1 fits) (λ y. t.listed j u y.1) (at_set s.views id j left u a)) (λ e. subst (λ (z : View). lists_of z ≤ z.share) e fits_too) (at_snoc first right u j g);
        idle = λ j u g none_. ⊎_elim (λ a. ⊎_elim (λ y. absurd (omega (arith, ap share_of y.1))) (λ y. t.idle j u y.1 none_) (at_set s.views id j left u a))
            (λ e. subst IsIdle e (idle_too (ap share_of e ∙ none_))) (at_snoc first right u j g);
        stored = t.stored;
        put = λ x w. t.put x w ∙ more x w;
        placed = t.placed;
        drops = λ l ll. drop_stays p s.views (set s.views id left ++ right ∷ []) l (t.placed l) (λ n. more (place_index p l) n) (omega (arith, total-append (labelled_in l) first (right ∷ []), total-set (labelled_in l) s.views id v left here, accepts (is_labelled l))) (t.drops l ll);
        faults = λ k kl. split_faults id v left right here k (t.faults k kl) (calm.faults k) (calm.outs k) (none_noted k).0 (none_noted k).1 (calm.faults (p.links + k)) (calm.hands k) (none_noted (p.links + k)).0;
        settled = t.settled;
        met = λ j u g n h e. ⊎_elim
            (λ a. ⊎_elim (λ y. t.met id v here n h (subst (λ (l : List (List StoredWord)). get_elem? l n ≡ some h) met_stay (subst (λ (z : View). get_elem? z.histories n ≡ some h) (sym y.1) e))) (λ y. t.met j u y.1 n h e) (at_set s.views id j left u a))
            (λ y. absurd (some-ne-none h (sym (subst (λ (l : List (List StoredWord)). get_elem? l n ≡ some h) no_met (subst (λ (z : View). get_elem? z.histories n ≡ some h) (sym y) e))))) (at_snoc first right u j g);
        labelled = λ j u g. ⊎_elim (λ a. ⊎_elim (λ y. subst (Labelled p) y.1 (labels (t.labelled id v here))) (λ y. t.labelled j u y.1) (at_set s.views id j left u a)) (λ e. subst (Labelled p) e labels_too) (at_snoc first right u j g);
        found_was = λ j u g n x e. ⊎_elim
            (λ a. ⊎_elim (λ y. omega (arith, more x.place x.word, t.found_was id v here n x (subst (λ (l : List StoredWord). get_elem? l n ≡ some x) finds_stay (subst (λ (z : View). get_elem? z.finds n ≡ some x) (sym y.1) e)))) (λ y. omega (arith, more x.place x.word, t.found_was j u y.1 n x e)) (at_set s.views id j left u a))
            (λ y. absurd (some-ne-none x (sym (subst (λ (l : List StoredWord). get_elem? l n ≡ some x) no_finds (subst (λ (z : View). get_elem? z.finds n ≡ some x) (sym y) e))))) (at_snoc first right u j g);
        dropped_was = λ j u g n h e. let more_h : total (headed_in h) s.views ≤ total (headed_in h) (set s.views id left ++ right ∷ []) = omega (arith, total-append (headed_in h) first (right ∷ []), total-set (headed_in h) s.views id v left here, accepts (is_headed h)) in ⊎_elim
            (λ a. ⊎_elim (λ y. omega (arith, more_h, t.dropped_was id v here n h (subst (λ (l : List Heading). get_elem? l n ≡ some h) drops_stay (subst (λ (z : View). get_elem? z.drops n ≡ some h) (sym y.1) e)))) (λ y. omega (arith, more_h, t.dropped_was j u y.1 n h e)) (at_set s.views id j left u a))
            (λ y. absurd (some-ne-none h (sym (subst (λ (l : List Heading). get_elem? l n ≡ some h) no_drops (subst (λ (z : View). get_elem? z.drops n ≡ some h) (sym y) e))))) (at_snoc first right u j g);
      }

  -- a seat is split off
  pub gives : MayGive v → Splits (OnTable shows rose p) id v (giving v) (given v)
  gives may s t here = let v' : View = record v { share = v.share - 1 } in let s' : State S View = record { words = s.words; homes = s.homes; views = set s.views id (record v { share = v.share - 1 }) } in
      let less = less_by lists_of share_of 1 s.views id v t.listed here (omega (arith, may.more)) in
      let r' : Rule shows p record { words = s.words; homes = s.homes; views = set s.views id (record v { share = v.share - 1 }) } = aside_rule id v here t.rule mine (v.share - 1) v.finds v.histories v.drops in
      let two = splitting_rule r' id v' (set_at s.views id v' (at_length s.views id v here)) mine v.passes [] (v.spare - 1) 0 (λ k. omega arith) (omega (arith, may.spare)) (let a = t.shares in omega (arith, total-set lists_of s.views id v v' here)) in
      let is : newcomer p [] 0 ≡ newcomer v.plan [] 0 = ap (λ (q : Plan). newcomer q [] 0) (sym mine) in
      let r : Rule shows p record { words = s.words; homes = s.homes; views = set s.views id (giving v) ++ given v ∷ [] } =
      subst (λ (z : View). Rule shows p record { words = s.words; homes = s.homes; views = set s.views id (giving v) ++ z ∷ [] }) is
      (subst (λ vs. Rule shows p record { words = s.words; homes = s.homes; views = vs ++ newcomer p [] 0 ∷ [] }) (set_twice s.views id v' (giving v)) two) in
      adds_seat s t here (giving v) (given v) (omega (arith, may.another)) refl refl record { faults = λ k. refl; outs = λ k. refl; hands = λ k. refl } (λ k. (refl, refl)) (λ l. omega arith) (omega (arith, may.more)) (omega (arith, may.another)) (omega arith) (λ e. absurd (omega arith)) refl (λ x. record { entries = x.entries; claimed = x.claimed }) record { entries = λ n l e i x f. no_entries n l e i x f; claimed = λ i c e. absurd (some-ne-none c (sym e)) } r
    where
      no_entries : (n : ℕ) (l : List Entry) → get_elem? ([] ∷ []) n ≡ some l → (i : ℕ) (e : Entry) → get_elem? l i ≡ some e → e.heading.label.place < 8 * p.operations
      no_entries zero l e i x f = absurd (some-ne-none x (sym (ap (λ (y : List Entry). get_elem? y i) (some-injective [] l e) ∙ f)))
      no_entries (suc n) l e i x f = absurd (some-ne-none l (sym e))

  -- a pass becomes a seat of its own
  pub passes_out : 0 < v.spare → 0 < v.share → Splits (OnTable shows rose p) id v (lighter v) (passed v)
  passes_out room some_ s t here = let two = carrying_rule t.rule id v here mine (later v.passes) (earliest v.passes) (v.spare - 1) (λ k. omega (arith, passes-left k v.passes)) (omega (arith, room)) in
      let r : Rule shows p record { words = s.words; homes = s.homes; views = set s.views id (lighter v) ++ passed v ∷ [] } =
      subst (λ (q : Plan). Rule shows p record { words = s.words; homes = s.homes; views = set s.views id (lighter v) ++ carrier q (earliest v.passes) ∷ [] }) (sym mine) two in
      adds_seat s t here (lighter v) (passed v) some_ refl refl record { faults = λ k. refl; outs = λ k. refl; hands = λ k. refl } (λ k. (refl, refl)) (λ l. omega arith) (t.listed id v here) (omega arith) (omega arith) (λ e. record { marks = refl; lists = refl; finds = refl; stores = λ x w. refl; claims = refl; loose = refl; rights = refl; hands = refl }) refl (λ x. record { entries = x.entries; claimed = x.claimed }) record { entries = λ n l e. absurd (some-ne-none l (sym e)); claimed = λ i c e. absurd (some-ne-none c (sym e)) } r

  -- a seat takes in another
  pub takes : 0 < v.share → (other : ℕ) (w : View) → IsDone p w → Joins (OnTable shows rose p) id v other w (joined v w) spent
  takes some_ other w done s t here ne there = let both : View = joined v w in let first : List View = set s.views id (joined v w) in
      let its : get_elem? s.views other ≡ some w = ⊎_elim (λ y. absurd (ne y.0)) (λ y. y.1) (at_set s.views id other both w there) in
      let more : (x y : ℕ) → total (put_in x y) s.views ≡ total (put_in x y) (set (set s.views id (joined v w)) other spent) = λ x y.
      omega (arith, total-set (put_in x y) s.views id v both here, total-set (put_in x y) first other w spent there, total-append (total (is_put x y)) v.stores w.stores) in
      record {
        rule = joining_rule t.rule id other v w here mine ne there done.bare done.unheld;
        housed = t.housed;
        shares = (let a = t.shares in omega (arith, total-set share_of s.views id v both here, total-set share_of first other w spent there));
        listed = λ j u g. ⊎_elim (λ y. subst (λ (z : View). lists_of z ≤ z.share) y.1 (omega arith))
            (λ y. ⊎_elim (λ q. subst (λ (z : View). lists_of z ≤ z.share) q.1 (omega (arith, length-append v.lists w.lists, t.listed id v here, t.listed other w its))) (λ q. t.listed j u q.1) (at_set s.views id j both u y.1)) (at_set first other j spent u g);
        idle = λ j u g none_. ⊎_elim (λ y. subst IsIdle y.1 record { marks = refl; lists = refl; finds = refl; stores = λ x y. refl; claims = refl; loose = refl; rights = refl; hands = refl })
            (λ y. ⊎_elim (λ q. absurd (omega (arith, ap share_of q.1))) (λ q. t.idle j u q.1 none_) (at_set s.views id j both u y.1)) (at_set first other j spent u g);
        stored = t.stored;
        put = λ x y. t.put x y ∙ more x y;
        placed = t.placed;
        drops = λ l ll. drop_stays p s.views (set first other spent) l (t.placed l) (λ n. more (place_index p l) n) (omega (arith, total-set (labelled_in l) s.views id v both here, total-set (labelled_in l) first other w spent there, total-append (total (is_labelled l)) v.lists w.lists)) (t.drops l ll);
        faults = λ k kl. join_faults id other v w (joined v w) spent here there k (t.faults k kl) (total-append (faults_link k) v.marks w.marks) refl (omega (arith, ap (total (away k)) done.bare.rights, ap (total (carries k)) done.bare.hands)) refl refl (total-append (faults_link (p.links + k)) v.marks w.marks) refl refl;
        settled = t.settled;
        met = λ j u g n h e. ⊎_elim (λ y. absurd (some-ne-none h (sym (subst (λ (z : View). get_elem? z.histories n ≡ some h) (sym y.1) e))))
            (λ y. ⊎_elim (λ q. ⊎_elim (λ a. t.met id v here n h a) (λ a. t.met other w its a.0 h a.1) (at_append v.histories w.histories n h (subst (λ (z : View). get_elem? z.histories n ≡ some h) (sym q.1) e)))
            (λ q. t.met j u q.1 n h e) (at_set s.views id j both u y.1)) (at_set first other j spent u g);
        labelled = λ j u g. ⊎_elim (λ y. subst (Labelled p) y.1 record { entries = λ n l e. absurd (some-ne-none l (sym e)); claimed = λ i c e. absurd (some-ne-none c (sym e)) })
            (λ y. ⊎_elim (λ q. subst (Labelled p) q.1 (joins (t.labelled id v here) (t.labelled other w its))) (λ q. t.labelled j u q.1) (at_set s.views id j both u y.1)) (at_set first other j spent u g);
        found_was = λ j u g n x e. ⊎_elim (λ y. absurd (some-ne-none x (sym (subst (λ (z : View). get_elem? z.finds n ≡ some x) (sym y.1) e))))
            (λ y. ⊎_elim (λ q. ⊎_elim (λ a. omega (arith, more x.place x.word, t.found_was id v here n x a)) (λ a. omega (arith, more x.place x.word, t.found_was other w its a.0 x a.1)) (at_append v.finds w.finds n x (subst (λ (z : View). get_elem? z.finds n ≡ some x) (sym q.1) e)))
            (λ q. omega (arith, more x.place x.word, t.found_was j u q.1 n x e)) (at_set s.views id j both u y.1)) (at_set first other j spent u g);
        dropped_was = λ j u g n h e. let more_h : total (headed_in h) s.views ≡ total (headed_in h) (set first other spent) = omega (arith, total-set (headed_in h) s.views id v both here, total-set (headed_in h) first other w spent there, total-append (total (is_headed h)) v.lists w.lists) in
            ⊎_elim (λ y. absurd (some-ne-none h (sym (subst (λ (z : View). get_elem? z.drops n ≡ some h) (sym y.1) e))))
            (λ y. ⊎_elim (λ q. ⊎_elim (λ a. omega (arith, more_h, t.dropped_was id v here n h a)) (λ a. omega (arith, more_h, t.dropped_was other w its a.0 h a.1)) (at_append v.drops w.drops n h (subst (λ (z : View). get_elem? z.drops n ≡ some h) (sym q.1) e)))
            (λ q. omega (arith, more_h, t.dropped_was j u q.1 n h e)) (at_set s.views id j both u y.1)) (at_set first other j spent u g);
      }
    where
      joins : Labelled p v → Labelled p w → Labelled p (joined v w)
      joins a b = record { entries = λ n l e. ⊎_elim (λ x. a.entries n l x) (λ x. b.entries x.0 l x.1) (at_append v.lists w.lists n l e); claimed = a.claimed }
