-- A seat notes what it found at a name or an operation, which one of the seats stored there.
use Rattle.std.proofs.Common.{◌≡◌, ◌≢◌, ℕ, zero, suc, ◌+◌, ◌*◌, ◌<◌, ◌≤◌, List, [], ◌∷◌, get_or, cond, eq-eqb, ne_eqb, set, refl, sym, ap, ◌∙◌, subst, ⊎_elim, arith}
use mathlib.Core.Logic.{dite}
use mathlib.Core.Option.{some, some-injective}
use native.Mathlib.Decide.{ℕ_discrete}
use lib.ListN.{get_elem?}
use Rattle.atomic_table.specs.Table.{State}
use Rattle.atomic_table.proofs.Lists.{at_set}
use Rattle.sock_words.specs.declared.plain.Plan.{Plan}
use Rattle.sock_model.specs.declared.home.Home.{Home}
use Rattle.sock_model.specs.declared.view.View.{View}
use Rattle.sock_model.specs.declared.view.StoredWord.{StoredWord}
use Rattle.sock_model.specs.declared.chain.Heading.{Heading}
use Rattle.sock_model.specs.MarkWeights.{only}
use Rattle.sock_model.specs.SocketTableLayout.{place_index}
use Rattle.sock_model.specs.Marks.{latest, says, noted}
use Rattle.sock_model.specs.SlotRows.{wrote}
use Rattle.sock_model.specs.ChainLawReads.{claims_of, loose_at, tokens, message}
use Rattle.sock_model.specs.References.{sayers}
use Rattle.sock_model.specs.LawfulSockets.{Lawful}
use Rattle.sock_model.specs.Rule.{lists_of, Rule}
use Rattle.chain_core.specs.chain_steps.proofs.UntouchedByChainSteps.{chains_frame}
use Rattle.chain_core.specs.chain_steps.proofs.Gather.{gather_same}
use Rattle.chain_core.specs.chain_steps.proofs.ChainLettersStay.{messages_frame}
use Rattle.chain_core.specs.chain_steps.proofs.TicketLists.{at_length}
use Rattle.chain_core.specs.slot_steps.proofs.RuleNumbers.{only-else, only_le, pair-at, pair_only}
use Rattle.chain_core.specs.slot_steps.proofs.SlotWeightSums.{total-set, total_mono}
use Rattle.chain_core.specs.sock_steps.proofs.ChainWordChanges.{beside_all}
use Rattle.chain_core.specs.sock_steps.proofs.ChainFrame.{SameSlots}
use Rattle.chain_core.specs.sock_steps.proofs.ClaimSteps.{rights_stay, other_base}
use Rattle.chain_core.specs.sock_steps.proofs.Maps.{set_at, set_twice}
use Rattle.chain_core.specs.sock_steps.proofs.RuleFrame.{lasts_all, same_rule}
use Rattle.sock_model.specs.Rule.{noting}
use Rattle.sock_rule.specs.OnTable.{share_of, is_put, put_in, is_labelled, labelled_in, is_headed, headed_in, Follows, Settled, Labelled, OnTable}
use Rattle.sock_rule.specs.NotesBesideRows.{IsHistory, put_at}
use Rattle.sock_rule.proofs.KeptBesideSocketRule.{SameShare, Calm, drop_stays, beside}
use Rattle.sock_rule.proofs.LinkFaultNotes.{calm}
use Rattle.sock_words.specs.Totals.{total}

-- the last word that was stored was stored
latest_put : (x w : ℕ) → w ≢ 0 → (ns : List StoredWord) → says x w ns ≤ total (is_put x w) ns
latest_put x w some_ [] = let a = only-else w 0 (λ e. some_ (sym e)) in omega arith
latest_put x w some_ (n ∷ ns) = dite (ℕ_discrete n.place x)
    (λ e. let q : latest x (n ∷ ns) ≡ n.word = ap (λ b. cond b n.word (latest x ns)) (eq-eqb n.place x e) in let k = ap (only w) q in
    dite (ℕ_discrete n.word w) (λ f. let c = pair-at x w n.place n.word e f in let d = only_le w n.word in omega arith) (λ f. let c = only-else w n.word f in omega arith))
    (λ ne. let q : latest x (n ∷ ns) ≡ latest x ns = ap (λ b. cond b n.word (latest x ns)) (ne_eqb n.place x ne) in let k = ap (only w) q in let a = latest_put x w some_ ns in omega arith)

pub was_put : (x w : ℕ) → w ≢ 0 → (views : List View) → total (sayers x w) views ≤ total (put_in x w) views
was_put x w some_ views = total_mono (sayers x w) (put_in x w) (λ v. total_mono (says x w) (total (is_put x w)) (latest_put x w some_) v.stores) views

-- a store adds itself
noted_more : (x w : ℕ) (n : StoredWord) (ss : List (List StoredWord)) → total (total (is_put x w)) (noted n ss) ≡ is_put x w n + total (total (is_put x w)) ss
noted_more x w n [] = omega arith
noted_more x w n (ns ∷ rest) = omega arith

pub wrote_more : (y word x w : ℕ) (v : View) → put_in x w (wrote y word v) ≡ is_put x w record { place = y; word = word } + put_in x w v
wrote_more y word x w v = noted_more x w record { place = y; word = word } v.stores

module _ {S : Type 0} {shows : S → Home} {p : Plan} {s : State S View} (id : ℕ) (v : View) (here : get_elem? s.views id ≡ some v) where
  -- what is lawful reads nothing of what seats found, nor for how many they stand
  pub aside_law : Lawful shows p s → (share : ℕ) (finds : List StoredWord) (met : List (List StoredWord)) (drops : List Heading) → Lawful shows p record { words = s.words; homes = s.homes; views = set s.views id (record v { share = share; finds = finds; histories = met; drops = drops }) }
  aside_law o share finds met drops = let same : SameSlots v (record v { share = share; finds = finds; histories = met; drops = drops }) = record { plan = refl; marks = refl; passes = λ k. omega arith; spare = refl; stores = refl } in
      let rights : (k : ℕ) → (tokens (set s.views id (record v { share = share; finds = finds; histories = met; drops = drops }))).rights k ≡ (tokens s.views).rights k = rights_stay o id v (record v { share = share; finds = finds; histories = met; drops = drops }) here same refl refl refl in
      let claims : (q : ℕ) → (tokens (set s.views id (record v { share = share; finds = finds; histories = met; drops = drops }))).claims q ≡ (tokens s.views).claims q = λ q. gather_same (claims_of q) s.views id v (record v { share = share; finds = finds; histories = met; drops = drops }) here refl in
      other_base o id v (record v { share = share; finds = finds; histories = met; drops = drops }) here same refl refl refl s.words s.homes (beside_all p o.slot s.words) (λ k. refl) (λ l ll. refl)
      (chains_frame o.chains (λ k kl. refl) (λ q ql. refl) (λ q ql. refl) (λ k kl. rights k) (λ q ql. claims q) (λ q ql. gather_same (loose_at q) s.views id v (record v { share = share; finds = finds; histories = met; drops = drops }) here refl))
      (messages_frame o.chains o.messages (tokens (set s.views id (record v { share = share; finds = finds; histories = met; drops = drops }))) (message shows s.homes) (λ q ql. refl) (λ q ql. claims q)
      (λ k e kl u. record { right = u.right; has = rights k ∙ u.has; stage = u.stage; taken = u.taken }) (λ k r kl h g. (r, sym (rights k) ∙ h, g, refl, refl, refl)))

  pub aside_rule : Rule shows p s → v.plan ≡ p → (share : ℕ) (finds : List StoredWord) (met : List (List StoredWord)) (drops : List Heading) → Rule shows p record { words = s.words; homes = s.homes; views = set s.views id (record v { share = share; finds = finds; histories = met; drops = drops }) }
  aside_rule r mine share finds met drops = same_rule r id v here mine (record v { share = share; finds = finds; histories = met; drops = drops }) s.words s.homes record { plan = refl; found = refl; lists = refl } (lasts_all p s.words) (aside_law r.lawful share finds met drops)

-- a seat that notes what it finds, which was stored there
pub finds_beside : {S : Type 0} {shows : S → Home} {rose : S → ℕ} {p : Plan} {s : State S View} (t : OnTable shows rose p s) (id : ℕ) (v u : View) (here : get_elem? s.views id ≡ some v) (some_ : 0 < v.share) (mine : u.plan ≡ p) (ws : List ℕ) (x word : ℕ) → 0 < total (put_in x word) s.views
    → SameShare p v u → Calm v u → Settled p t.stored t.placed ws s.homes → Rule shows p record { words = ws; homes = s.homes; views = set s.views id u }
    → OnTable shows rose p record { words = ws; homes = s.homes; views = set s.views id (record u { finds = record { place = x; word = word } ∷ u.finds; histories = t.stored ∷ u.histories }) }
finds_beside {S} {shows} {rose} {p} {s} t id v u here some_ mine ws x word was same c kept r = let fs : List StoredWord = record { place = x; word = word } ∷ u.finds in let w : View = record u { finds = record { place = x; word = word } ∷ u.finds; histories = t.stored ∷ u.histories } in
    let o : OnTable shows rose p record { words = ws; homes = s.homes; views = set s.views id u } = beside t id v u here some_ ws s.homes (refl, λ l ll. refl) same c kept r in
    let more : (y z : ℕ) → total (put_in y z) s.views ≡ total (put_in y z) (set s.views id w) = λ y z. omega (arith, total-set (put_in y z) s.views id v w here, same.stores y z) in
    record {
      rule = subst (λ vs. Rule shows p record { words = ws; homes = s.homes; views = vs }) (set_twice s.views id u w) (aside_rule {s = record { words = ws; homes = s.homes; views = set s.views id u }} id u (set_at s.views id u (at_length s.views id v here)) r mine u.share fs (t.stored ∷ u.histories) u.drops);
      housed = t.housed;
      shares = (let a = t.shares in omega (arith, same.share, total-set share_of s.views id v w here));
      listed = λ j z g. ⊎_elim (λ y. subst (λ (q : View). lists_of q ≤ q.share) y.1 (omega (arith, t.listed id v here, same.lists, same.share))) (λ y. t.listed j z y.1) (at_set s.views id j w z g);
      idle = λ j z g none_. ⊎_elim (λ y. absurd (omega (arith, ap (λ (q : View). q.share) y.1, same.share))) (λ y. t.idle j z y.1 none_) (at_set s.views id j w z g);
      stored = t.stored;
      put = λ y z. t.put y z ∙ more y z;
      placed = t.placed;
      drops = λ l ll. drop_stays p s.views (set s.views id w) l (t.placed l) (λ n. more (place_index p l) n) (omega (arith, total-set (labelled_in l) s.views id v w here, same.accepts (is_labelled l))) (t.drops l ll);
      faults = λ k kl. calm id v w here ws s.homes k (t.faults k kl) refl (c.faults k) (c.outs k) (c.faults (p.links + k)) (c.hands k);
      settled = kept;
      met = λ j z g n h e. ⊎_elim (λ y. own_met n h (subst (λ (q : View). get_elem? q.histories n ≡ some h) (sym y.1) e)) (λ y. t.met j z y.1 n h e) (at_set s.views id j w z g);
      labelled = λ j z g. ⊎_elim (λ y. subst (Labelled p) y.1 (same.labels (t.labelled id v here))) (λ y. t.labelled j z y.1) (at_set s.views id j w z g);
      found_was = λ j z g n f e. ⊎_elim (λ y. own (set s.views id w) more n f (subst (λ (q : View). get_elem? q.finds n ≡ some f) (sym y.1) e)) (λ y. omega (arith, t.found_was j z y.1 n f e, more f.place f.word)) (at_set s.views id j w z g);
      dropped_was = λ j z g n h e. let l = o.dropped_was in let same_ = total-set (headed_in h) s.views id v w here in let as_u = total-set (headed_in h) s.views id v u here in
          ⊎_elim (λ y. omega (arith, l id u (set_at s.views id u (at_length s.views id v here)) n h (subst (λ (q : View). get_elem? q.drops n ≡ some h) (sym y.1) e), same_, as_u))
          (λ y. omega (arith, t.dropped_was j z y.1 n h e, same_, same.accepts (is_headed h))) (at_set s.views id j w z g);
    }
  where
    own_met : (n : ℕ) (h : List StoredWord) → get_elem? (t.stored ∷ u.histories) n ≡ some h → Follows t.stored h
    own_met zero h e = ([], some-injective t.stored h e)
    own_met (suc n) h e = t.met id v here n h (subst (λ (l : List (List StoredWord)). get_elem? l n ≡ some h) (ap (λ (q : List StoredWord × (List (List StoredWord) × List Heading)). q.1.0) same.finds) e)

    own : (vs : List View) → ((y z : ℕ) → total (put_in y z) s.views ≡ total (put_in y z) vs) → (n : ℕ) (f : StoredWord) → get_elem? (record { place = x; word = word } ∷ u.finds) n ≡ some f → 0 < total (put_in f.place f.word) vs
    own vs more zero f e = subst (λ (q : StoredWord). 0 < total (put_in q.place q.word) vs) (some-injective (record { place = x; word = word }) f e) (omega (arith, was, more x word))
    own vs more (suc n) f e = omega (arith, t.found_was id v here n f (subst (λ (l : List StoredWord). get_elem? l n ≡ some f) (ap (λ (q : List StoredWord × (List (List StoredWord) × List Heading)). q.0) same.finds) e), more f.place f.word)

-- a seat that stores a word, which stands before all that was stored then
pub puts_beside : {S : Type 0} {shows : S → Home} {rose : S → ℕ} {p : Plan} {s : State S View} (t : OnTable shows rose p s) (id : ℕ) (v : View) (here : get_elem? s.views id ≡ some v) (some_ : 0 < v.share) (mine : v.plan ≡ p) (ws : List ℕ) (x word : ℕ) → x < 6 * p.slots + p.names + p.operations
    → Settled p (record { place = x; word = word } ∷ t.stored) t.placed ws s.homes → Rule shows p record { words = ws; homes = s.homes; views = set s.views id (noting x (wrote x word v)) }
    → OnTable shows rose p record { words = ws; homes = s.homes; views = set s.views id (put_at x word (record { place = x; word = word } ∷ t.stored) v) }
puts_beside {S} {shows} {rose} {p} {s} t id v here some_ mine ws x word low kept r = let u : View = noting x (wrote x word v) in let w : View = put_at x word (record { place = x; word = word } ∷ t.stored) v in
    let more : (y z : ℕ) → is_put y z record { place = x; word = word } + total (put_in y z) s.views ≡ total (put_in y z) (set s.views id w) = λ y z. omega (arith, total-set (put_in y z) s.views id v w here, wrote_more x word y z v) in
    record {
      rule = subst (λ vs. Rule shows p record { words = ws; homes = s.homes; views = vs }) (set_twice s.views id u w) (aside_rule {s = record { words = ws; homes = s.homes; views = set s.views id u }} id u (set_at s.views id u (at_length s.views id v here)) r mine u.share u.finds ((record { place = x; word = word } ∷ t.stored) ∷ v.histories) u.drops);
      housed = t.housed;
      shares = (let a = t.shares in omega (arith, total-set share_of s.views id v w here));
      listed = λ j z g. ⊎_elim (λ y. subst (λ (q : View). lists_of q ≤ q.share) y.1 (t.listed id v here)) (λ y. t.listed j z y.1) (at_set s.views id j w z g);
      idle = λ j z g none_. ⊎_elim (λ y. absurd (omega (arith, ap (λ (q : View). q.share) y.1))) (λ y. t.idle j z y.1 none_) (at_set s.views id j w z g);
      stored = record { place = x; word = word } ∷ t.stored;
      put = λ y z. let a = t.put y z in omega (arith, more y z);
      placed = t.placed;
      drops = λ l ll. drop_stays p s.views (set s.views id w) l (t.placed l) (λ n. omega (arith, more (place_index p l) n, pair_only (place_index p l) n x word, only-else (place_index p l) x (λ e. omega arith))) (omega (arith, total-set (labelled_in l) s.views id v w here)) (t.drops l ll);
      faults = λ k kl. calm id v w here ws s.homes k (t.faults k kl) refl refl refl refl refl;
      settled = kept;
      met = λ j z g n h e. ⊎_elim (λ y. own n h (subst (λ (q : View). get_elem? q.histories n ≡ some h) (sym y.1) e)) (λ y. further h (t.met j z y.1 n h e)) (at_set s.views id j w z g);
      labelled = λ j z g. ⊎_elim (λ y. subst (Labelled p) y.1 (t.labelled id v here)) (λ y. t.labelled j z y.1) (at_set s.views id j w z g);
      found_was = λ j z g n f e. ⊎_elim (λ y. omega (arith, t.found_was id v here n f (subst (λ (q : View). get_elem? q.finds n ≡ some f) (sym y.1) e), more f.place f.word))
          (λ y. omega (arith, t.found_was j z y.1 n f e, more f.place f.word)) (at_set s.views id j w z g);
      dropped_was = λ j z g n h e. let same_ = total-set (headed_in h) s.views id v w here in
          ⊎_elim (λ y. omega (arith, t.dropped_was id v here n h (subst (λ (q : View). get_elem? q.drops n ≡ some h) (sym y.1) e), same_)) (λ y. omega (arith, t.dropped_was j z y.1 n h e, same_)) (at_set s.views id j w z g);
    }
  where
    further : (h : List StoredWord) → Follows t.stored h → Follows (record { place = x; word = word } ∷ t.stored) h
    further h f = (record { place = x; word = word } ∷ f.0, ap (λ (l : List StoredWord). record { place = x; word = word } ∷ l) f.1)

    own : (n : ℕ) (h : List StoredWord) → get_elem? ((record { place = x; word = word } ∷ t.stored) ∷ v.histories) n ≡ some h → Follows (record { place = x; word = word } ∷ t.stored) h
    own zero h e = ([], some-injective (record { place = x; word = word } ∷ t.stored) h e)
    own (suc n) h e = further h (t.met id v here n h e)

-- what a seat that finds a word, or stores one, meets goes on behind all that it met before
module _ {S : Type 0} {shows : S → Home} {rose : S → ℕ} {p : Plan} {s : State S View} (t : OnTable shows rose p s) (id : ℕ) (v : View) (here : get_elem? s.views id ≡ some v) (x : ℕ) where
  pub found_history : 6 * p.slots ≤ x → x < 6 * p.slots + p.names + p.operations → IsHistory x (get_or s.words x 0) v t.stored
  found_history high low = record { last = sym (t.settled.names x high low); later = t.met id v here }

  pub stored_history : (word : ℕ) → IsHistory x word v (record { place = x; word = word } ∷ t.stored)
  stored_history word = record {
    last = ap (λ b. cond b word (latest x t.stored)) (eq-eqb x x refl);
    later = λ n h e. let f = t.met id v here n h e in (record { place = x; word = word } ∷ f.0, ap (λ (l : List StoredWord). record { place = x; word = word } ∷ l) f.1);
  }
