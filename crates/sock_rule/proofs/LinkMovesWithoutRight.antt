-- L1 and L2 of a link without a right are allowed to a seat whose view meets their condition.
use Rattle.std.proofs.Common.{◌≡◌, ℕ, ◌+◌, ◌-◌, ◌<◌, ◌≢◌, inl, Bool, true, false, cond, not, eqb, eq-eqb, List, [], ◌∷◌, length-set, get_or, set, refl, sym, ap, ◌∙◌, subst, arith}
use Rattle.std.specs.List.{filter}
use mathlib.Core.Option.{Option, none, some}
use lib.ListN.{get_elem?}
use lib.Seq.{set-get_or}
use Rattle.atomic_table.specs.Table.{State, Me, step, takes, put_back, rest, Allows}
use Rattle.atomic_table.specs.Table.{gives as gives_back}
use Rattle.sock_words.specs.declared.plain.Plan.{Plan}
use Rattle.sock_model.specs.declared.home.Home.{Home}
use Rattle.sock_model.specs.declared.home.Home.TheVariants.{Link}
use Rattle.sock_model.specs.declared.view.View.{View}
use Rattle.sock_model.specs.declared.view.Hand.{Hand}
use Rattle.sock_model.specs.MarkWeights.{only, is_recycling, is_recycled, is_met}
use Rattle.sock_model.specs.Marks.{about}
use Rattle.sock_model.specs.SocketTableLayout.{link_index}
use Rattle.sock_model.specs.References.{slot_facts}
use Rattle.sock_model.specs.ChainLawReads.{waits_of, carries, hands_of}
use Rattle.sock_model.specs.SlotRows.{marks_of}
use Rattle.sock_model.specs.ChainRows.{with_hand, without_hand, spent_hand}
use Rattle.sock_rule.proofs.Light.{Alike}
use Rattle.chain_core.specs.slot_steps.proofs.RuleNumbers.{only-same, only-else}
use Rattle.chain_core.specs.slot_steps.proofs.ReferenceStepsKeepSlot.{recycled_le}
use Rattle.chain_core.specs.slot_steps.proofs.SlotWeightSums.{total_mono, term_le}
use Rattle.chain_core.specs.sock_steps.proofs.LifeLinkSlotPlaces.{own_count}
use Rattle.chain_core.specs.sock_steps.proofs.HandSteps.{take_last_law, put_hand_law, spend_law}
use Rattle.chain_core.specs.sock_steps.proofs.RuleSteps.{take_rule, spend_rule, put_rule}
use Rattle.sock_rule.specs.OnTable.{OnTable}
use Rattle.sock_rule.specs.SocketPlays.{TookLink, take_last_told, spend_told, put_told}
use Rattle.sock_rule.specs.LinkFaultNotes.{faults_of, fault_found, fault_left, noting_end, is_over, out_of}
use Rattle.sock_rule.proofs.LinkFaultNotes.{found_alike, left_alike, alike_then, found_else, left_none, left_other, knows_taken, takes_link, puts_link}
use Rattle.sock_rule.proofs.KeptBesideSocketRule.{beside_faults, alike_share, light_after}
use Rattle.sock_rule.proofs.CodesAndHomesSettling.{home_settled}
use Rattle.sock_words.specs.Totals.{total}

-- a word that is loaded stays
module _ {S : Type 0} {shows : S → Home} {rose : S → ℕ} {p : Plan} (s : State S View) (x id : ℕ) (w : View) (hs : List (Option S)) where
  pub loaded : OnTable shows rose p record { words = s.words; homes = hs; views = set s.views id w } → OnTable shows rose p record { words = set s.words x (get_or s.words x 0); homes = hs; views = set s.views id w }
  loaded t = subst (λ ws. OnTable shows rose p record { words = ws; homes = hs; views = set s.views id w }) (sym (set-get_or s.words x 0)) t

module _ {S : Type 0} (shows : S → Home) (rose : S → ℕ) (p : Plan) (slots id : ℕ) (me : Me S View) (mine : me.0.plan ≡ p) (some_ : 0 < me.0.share) where
  abbrev v : View
  v = me.0

  -- L1 of whoever recycled slot i
  pub takes_last : (i w k : ℕ) → i < p.slots → 0 < marks_of (is_recycled w) i v → 0 < marks_of (is_met (w - 2) k) i v → hands_of k v ≡ 0
      → Allows (OnTable shows rose p) slots id me (link_index i) (λ n. n) (take_last_told shows rose (step slots (link_index i) 0 0 none) me)
  takes_last i w k inside there met empty s t long here fits = let o = t.rule.lawful in let law = o.references.slots i inside in
      let a = take_last_law shows p s o id v here i w k inside there met empty in
      let h : Hand = record { link = k; took = a.1; next = a.2 } in let hs : List (Option S) = set s.homes (p.requests + k) none in
      let u : View = with_hand v record { link = k; took = a.1; next = a.2 } in let n : View = fault_found (rose a.0) 0 k u in let alike = found_alike (rose a.0) 0 k u in
      let is_last : w ≡ (slot_facts s i).version = law.recycled w (omega (arith, own_count s id v here (is_recycled w) i)) in
      let link_of : (l : ℕ) → 0 < marks_of (is_met (w - 2) l) i v → (slot_facts s i).link ≡ l =
      λ l m. law.link_is (w - 2) l (law.met (w - 2) l (omega (arith, own_count s id v here (is_met (w - 2) l) i))) (omega (arith, own_count s id v here is_recycling i, total_mono (is_recycled w) is_recycling (recycled_le w) (about i v.marks))) in
      let low : k < p.links = o.in_slots.small i (w - 2) k record { inside = inside; given = law.met (w - 2) k (omega (arith, own_count s id v here (is_met (w - 2) k) i)) } in (
        fault_found (rose a.0) 0 k (with_hand v record { link = k; took = a.1; next = a.2 }),
        takes (p.requests + k) a.0,
        a.4,
        loaded s (link_index i) id n hs
            (beside_faults t id v n here some_ s.words hs (takes_link t.faults id v u here k a.0 low (omega (arith, t.housed)) s.words 0 a.4 refl (λ l. omega arith) (λ l ne. omega (arith, only-else l k (λ z. ne (sym z)))) (inl (omega (arith, only-same k)))) (length-set s.homes (p.requests + k) none) (alike_share p v u n record { share = refl; lists = refl; finds = refl; stores = λ x y. omega arith; accepts = λ l. omega arith; labels = λ x. x } alike) (home_settled t.settled (p.requests + k) _ (omega arith))
            (light_after shows p s id v u n here s.words hs alike mine (take_rule t.rule id v here mine h hs (a.6 none refl)))),
        λ x z l at some_z some_met. let e : i ≡ x = omega arith in
            let its : 0 < marks_of (is_recycled z) i v = subst (λ (y : ℕ). 0 < marks_of (is_recycled z) y v) (sym e) some_z in
            let same_w : z ≡ w = law.recycled z (omega (arith, own_count s id v here (is_recycled z) i)) ∙ sym is_last in
            let met_i : 0 < marks_of (is_met (w - 2) l) i v = subst (λ (y : ℕ). 0 < marks_of (is_met (y - 2) l) i v) same_w (subst (λ (y : ℕ). 0 < marks_of (is_met (z - 2) l) y v) (sym e) some_met) in
            let same : k ≡ l = sym (link_of k met) ∙ link_of l met_i in
            subst (λ (y : ℕ). TookLink shows rose me (fault_found (rose a.0) 0 k (with_hand v record { link = k; took = a.1; next = a.2 }), (p.requests + k, a.0) ∷ me.1) y (λ took next. with_hand v record { link = y; took = took; next = next })) same record {
              value = a.0;
              took = a.1;
              next = a.2;
              done = a.3;
              shown = a.5;
              inside = subst (λ (q : Plan). k < q.links) (sym mine) low;
              view = refl;
              known = knows_taken id v v here s.words s.homes k (t.faults k low) a.0 a.4;
              slots = ap (λ (q : Plan). (q.requests + k, a.0) ∷ me.1) (sym mine);
            },
      )

  -- L1 of a pass that gets no socket
  pub spends : (x k : ℕ) → me.0.passes ≡ k ∷ [] → Allows (OnTable shows rose p) slots id me x (λ n. n) (spend_told shows rose (step slots x 0 0 none) me)
  spends x k pass s t long here fits = let o = t.rule.lawful in
      let one : 0 < total (only k) v.passes = subst (λ (l : List ℕ). 0 < total (only k) l) (sym pass) (omega (arith, only-same k)) in
      let a = spend_law shows p s o id v here k one in
      let h : Hand = record { link = k; took = []; next = 0 } in let hs : List (Option S) = set s.homes (p.requests + k) none in
      let low : k < p.links = (o.homes.waiting k (omega (arith, term_le (waits_of k) s.views id v here))).0 in
      let u : View = spent_hand v record { link = k; took = []; next = 0 } in let n : View = fault_found (rose a.0) 0 k u in let alike = found_alike (rose a.0) 0 k u in (
        fault_found (rose a.0) 0 k (spent_hand v record { link = k; took = []; next = 0 }),
        takes (p.requests + k) a.0,
        a.1,
        loaded s x id n hs
            (beside_faults t id v n here some_ s.words hs (takes_link t.faults id v u here k a.0 low (omega (arith, t.housed)) s.words 0 a.1 refl (λ l. omega arith) (λ l ne. omega (arith, only-else l k (λ z. ne (sym z)))) (inl (omega (arith, only-same k)))) (length-set s.homes (p.requests + k) none) (alike_share p v u n record { share = refl; lists = refl; finds = refl; stores = λ y z. omega arith; accepts = λ l. omega arith; labels = λ x. x } alike) (home_settled t.settled (p.requests + k) _ (omega arith))
            (light_after shows p s id v u n here s.words hs alike mine (spend_rule t.rule id v here mine h hs (a.3 none refl)))),
        λ l other. let same : k ≡ l = ap (λ (y : List ℕ). get_or y 0 0) (sym pass ∙ other) in
            subst (λ (y : ℕ). TookLink shows rose me (fault_found (rose a.0) 0 k (spent_hand v record { link = k; took = []; next = 0 }), (p.requests + k, a.0) ∷ me.1) y (λ took next. spent_hand v record { link = y; took = took; next = next })) same record {
              value = a.0;
              took = [];
              next = 0;
              done = false;
              shown = a.2;
              inside = subst (λ (q : Plan). k < q.links) (sym mine) low;
              view = refl;
              known = knows_taken id v v here s.words s.homes k (t.faults k low) a.0 a.1;
              slots = ap (λ (q : Plan). (q.requests + k, a.0) ∷ me.1) (sym mine);
            },
      )

  -- L2: the link in hand goes home finished
  pub puts : (i : ℕ) (h : Hand) (y : S) (below : List (ℕ × S)) → me.0.hands ≡ h ∷ [] → h.link < p.links → me.1 ≡ (p.requests + h.link, y) ∷ below → shows y ≡ Link h.link h.took h.next true → (0 < faults_of h.link v → 0 < rose y)
      → Allows (OnTable shows rose p) slots id me (link_index i) (λ n. n) (put_told rose (step slots (link_index i) 0 0 none) me)
  puts i h y below one low top shown known s t long here fits = let o = t.rule.lawful in let hs : List (Option S) = set s.homes (p.requests + h.link) (some y) in let x : ℕ = link_index i in
      let law = put_hand_law shows p s o id v here 0 h (ap (λ (l : List Hand). get_elem? l 0) one) y true shown (omega (arith, t.housed)) in
      let u : View = without_hand v h.link in let n : View = noting_end p i h.link (fault_left (rose y) h.link u) in let alike = after_put i h y in (
        noting_end p i h.link (fault_left (rose y) h.link (without_hand v h.link)),
        gives_back,
        tt,
        subst (λ (c : List (ℕ × S)). OnTable shows rose p record { words = set s.words (link_index i) (get_or s.words (link_index i) 0); homes = put_back s.homes c; views = set s.views id (noting_end p i h.link (fault_left (rose y) h.link (without_hand v h.link))) }) (sym top)
            (loaded s x id n hs (beside_faults t id v n here some_ s.words hs (puts_link t.faults id v n here h.link y low (omega (arith, t.housed)) s.words (λ l ne more. found_else 1 i (p.links + h.link) l (fault_left (rose y) h.link u) (λ z. more (sym z)) ∙ left_other (rose y) h.link l u (λ z. ne (sym z)))
            (λ z. found_else 1 i (p.links + h.link) h.link (fault_left (rose y) h.link u) (λ e. omega arith) ∙ left_none (rose y) h.link h.link u z) outs known hands (inl (ap is_over shown))) (length-set s.homes (p.requests + h.link) (some y)) (alike_share p v u n record { share = refl; lists = refl; finds = refl; stores = λ y z. omega arith; accepts = λ l. omega arith; labels = λ x. x } alike) (home_settled t.settled (p.requests + h.link) _ (omega arith))
            (light_after shows p s id v u n here s.words hs alike mine (put_rule t.rule id v here mine h.link hs law)))),
        λ j k z others word at. let q : (p.requests + h.link, y) ∷ below ≡ (me.0.plan.requests + k, z) ∷ others = sym top ∙ at in
            let same_slot : i ≡ j = omega arith in
            let same : h.link ≡ k = (let a = ap (λ (c : List (ℕ × S)). first_of c) q in let b = ap (λ (z : Plan). z.requests) mine in omega arith) in
            let tail : below ≡ others = ap (λ (c : List (ℕ × S)). rest c) q in
            let value : y ≡ z = ap (λ (c : List (ℕ × S)). value_of y c) q in
            ap (λ (c : List (ℕ × S)). (noting_end p i h.link (fault_left (rose y) h.link (without_hand v h.link)), rest c)) top ∙ (λ b. (noting_end (sym mine b) (same_slot b) (same b) (fault_left (rose (value b)) (same b) (without_hand v (same b))), tail b)),
      )
    where
      first_of : List (ℕ × S) → ℕ
      first_of [] = 0
      first_of (c ∷ cs) = c.0

      value_of : S → List (ℕ × S) → S
      value_of d [] = d
      value_of d (c ∷ cs) = c.1

      after_put : (i : ℕ) (h : Hand) (y : S) → Alike (without_hand v h.link) (noting_end p i h.link (fault_left (rose y) h.link (without_hand v h.link)))
      after_put i h y = alike_then (without_hand v h.link) (fault_left (rose y) h.link (without_hand v h.link)) (noting_end p i h.link (fault_left (rose y) h.link (without_hand v h.link))) (left_alike (rose y) h.link (without_hand v h.link)) (found_alike 1 i (p.links + h.link) (fault_left (rose y) h.link (without_hand v h.link)))

      gone : (without_hand v h.link).hands ≡ []
      gone = ap (filter (λ (x : Hand). not (eqb x.link h.link))) one ∙ ap (λ b. cond (not b) (h ∷ []) []) (eq-eqb h.link h.link refl)

      hands : (l : ℕ) → l ≢ h.link → hands_of l (noting_end p i h.link (fault_left (rose y) h.link (without_hand v h.link))) ≡ hands_of l v
      hands l ne = omega (arith, ap (hands_of l) (after_put i h y).others, ap (total (carries l)) gone, ap (total (carries l)) one, only-else l h.link (λ z. ne (sym z)))

      outs : (l : ℕ) → out_of l v ≡ out_of l (noting_end p i h.link (fault_left (rose y) h.link (without_hand v h.link))) + only l h.link
      outs l = omega (arith, ap (out_of l) (after_put i h y).others, ap (total (carries l)) gone, ap (total (carries l)) one)
