-- Steps of whoever writes a link are allowed to a seat whose view meets their condition: A8, L1, L2, M2, P1, C5, C8, C4 and C6. The seat has one right.
use Rattle.std.proofs.Common.{inr, ◌≡◌, ◌≢◌, ℕ, suc, ◌+◌, ◌*◌, ◌%◌, ◌<◌, ne_eqb, Bool, true, false, List, [], ◌∷◌, length-set, cond, not, eqb, eq-eqb, get_or, get_or-set_same, set, refl, sym, ap, ◌∙◌, subst, arith}
use Rattle.std.specs.List.{filter}
use mathlib.Core.Logic.{dite}
use mathlib.Core.Option.{Option, none, some}
use native.Mathlib.Decide.{ℕ_discrete}
use lib.ListN.{get_elem?}
use prog.Atomic.{either}
use Rattle.atomic_table.specs.Table.{State, Me, step, keeps, takes, put_back, rest, Allows}
use Rattle.atomic_table.specs.Table.{gives as gives_back}
use Rattle.sock_words.specs.declared.plain.Plan.{Plan}
use Rattle.sock_model.specs.declared.chain.Right.{Right}
use Rattle.sock_model.specs.declared.chain.Stage.{Stage}
use Rattle.sock_model.specs.declared.chain.Stage.TheVariants.{Writes, Placed, Empties, Reversing, ReversesNext}
use Rattle.sock_model.specs.declared.home.Home.{Home}
use Rattle.sock_model.specs.declared.home.Home.TheVariants.{Link}
use Rattle.sock_model.specs.declared.view.View.{View}
use Rattle.sock_model.specs.MarkWeights.{only, is_hold, is_saw}
use Rattle.sock_model.specs.SocketTableLayout.{ref_index, link_index, head_index, request_index, next_index, place_index}
use Rattle.sock_model.specs.References.{slot_facts}
use Rattle.sock_model.specs.SlotRows.{marks_of, looked}
use Rattle.sock_rule.specs.NotesBesideRows.{dropped_at}
use Rattle.sock_model.specs.ChainRows.{with_right, without_right, walking_right, passing_right, reading_right, turned_right, freed_stage, freed_right, placed_right, dropped_right, taken_right}
use Rattle.sock_model.specs.ChainStepConditions.{HasRight, MayPlace, MayDrop, MayTake, MayEmpty, MayTurn}
use Rattle.sock_model.specs.LinksInSlots.{HoldsLink, Failed}
use Rattle.sock_model.specs.LawfulSockets.{Lawful}
use Rattle.chain_core.specs.slot_steps.proofs.RuleNumbers.{life-in, only-at, only-same}
use Rattle.chain_core.specs.chain_steps.proofs.Frees.{Leads, to_end, to_next, now_slot}
use Rattle.chain_core.specs.chain_steps.proofs.TicketLists.{at_length}
use Rattle.chain_core.specs.sock_steps.proofs.Maps.{set_at, set_twice}
use Rattle.chain_core.specs.sock_steps.proofs.LifeLinkSlotPlaces.{own_count, holder_lives}
use Rattle.chain_core.specs.sock_steps.proofs.RightSteps.{right_in, right_alone}
use Rattle.chain_core.specs.sock_steps.proofs.LinkSteps.{link_goes_law, link_comes_law, link_home_law, clean_look_law}
use Rattle.chain_core.specs.sock_steps.proofs.WalkSteps.{passing_law, reading_law, walking_law}
use Rattle.chain_core.specs.sock_steps.proofs.WriteSteps.{taking_law, placing_law, dropping_law, freeing_law, retiring_law}
use Rattle.chain_core.specs.sock_steps.proofs.SlotSteps.{idle_law}
use Rattle.chain_core.specs.sock_steps.proofs.RuleFrame.{word_rule}
use Rattle.chain_core.specs.sock_steps.proofs.RuleSteps.{look_rule, load_rule}
use Rattle.chain_core.specs.sock_steps.proofs.RuleChains.{right_rule, place_rule, emptied_rule, turning_rule}
use Rattle.sock_rule.specs.OnTable.{OnTable}
use Rattle.sock_rule.specs.HoldingWriteRight.{Part}
use Rattle.sock_rule.specs.ChainPlays.{IsTicket, TookLetter, TookOwn, took_in, clean_told, take_own_told, note_fault_told, put_own_told, take_letter_told, place_told, drop_told, read_next_told, free_request_told, empty_told, turn_told}
use Rattle.sock_rule.proofs.AllowedSlotSteps.{word_fits}
use Rattle.sock_rule.specs.LinkFaultNotes.{faults_of, noting_fault, fault_found, is_over, away, out_of, LinkFaults}
use Rattle.sock_rule.proofs.LinkFaultNotes.{found_alike, found_else, calm, noting_more, knows_taken, takes_link, puts_link}
use Rattle.sock_rule.proofs.Light.{light_rule}
use Rattle.sock_rule.proofs.KeptBesideSocketRule.{SameShare, Calm, beside, beside_faults, homes_else, alike_share, light_after}
use Rattle.sock_rule.proofs.LinkMovesWithoutRight.{loaded}
use Rattle.sock_rule.proofs.Chaining.{first_is}
use Rattle.sock_rule.proofs.CodesAndHomesSettling.{slot_settled, next_settled, place_settled, load_settled, home_settled, home_taken_settled, back_settled, home_back_settled}
use Rattle.sock_rule.proofs.Placing.{places_beside, drops_beside}
use Rattle.sock_rule.proofs.Reached.{writes_ticket, writes_taken, passes_ticket, walk_ticket, turns_ticket, turn_ticket, free_home_law, spent_home_law, hand_label, next_few}
use Rattle.sock_words.specs.PackedWords.{ticket_request, ticket_generation, vref_version, place_word, IDLE, UNCONNECTED}
use Rattle.sock_words.specs.Totals.{total}

pub the_right : (l : List Right) (a b : Right) → l ≡ a ∷ [] → l ≡ b ∷ [] → a ≡ b
the_right l a b e f = let h : a ∷ [] ≡ b ∷ [] = sym e ∙ f in cc

pub stage_of : (v : View) (a b : Right) (now : ℕ) → v.rights ≡ a ∷ [] → v.rights ≡ b ∷ [] → a.stage ≡ Writes now → b.stage ≡ Writes now
stage_of v a b now e f st = subst (λ (r : Right). r.stage ≡ Writes now) (the_right v.rights a b e f) st

writes_same : (a b : ℕ) → Writes a ≡ Writes b → a ≡ b
writes_same a b e = cc

placed_same : (a b : ℕ) → Placed a ≡ Placed b → a ≡ b
placed_same a b e = cc

-- the right is one, and whatever it becomes is the one right again
pub one_right : (v : View) (r r' : Right) → v.rights ≡ r ∷ [] → r'.link ≡ r.link → (with_right v r').rights ≡ r' ∷ []
one_right v r r' one same = ap (λ (l : List Right). r' ∷ l) (ap (filter (λ (x : Right). not (eqb x.link r'.link))) one ∙ ap (λ b. cond (not b) (r ∷ []) []) (eq-eqb r.link r'.link (sym same)))

abbrev turned_by : Right → ℕ → ℕ → ℕ → Bool → Right
turned_by r top a before b = cond b (record r { last = top; stage = Writes a; turned = 0; noted = r.noted + suc r.turned }) (record r { stage = Reversing top before a; turned = suc r.turned })

-- a turn keeps the link of its right, and where that is
turn_kept : (r : Right) (top a before : ℕ) → ((turned_right r top a before).link ≡ r.link) × ((turned_right r top a before).at_home ≡ r.at_home)
turn_kept r top a before = by_case (eqb before r.last)
  where
    by_case : (b : Bool) → ((turned_by r top a before b).link ≡ r.link) × ((turned_by r top a before b).at_home ≡ r.at_home)
    by_case true = (refl, refl)
    by_case false = (refl, refl)

leads_freed : (last now : ℕ) (a b : Stage) → Leads last a now b → freed_stage a ≡ b
leads_freed last now a b (to_end _ e) = refl
leads_freed last now a b (to_next _ next) = refl

module _ {S : Type 0} (shows : S → Home) (rose : S → ℕ) (p : Plan) (slots id : ℕ) (me : Me S View) (mine : me.0.plan ≡ p) (some_ : 0 < me.0.share) (r : Right) (one : me.0.rights ≡ r ∷ []) where
  abbrev v : View
  v = me.0

  abbrev has_one : HasRight me.0
  has_one = record { right = r; place = 0; has = ap (λ (l : List Right). get_elem? l 0) one }

  quiet : (r' : Right) → SameShare p v (with_right v r')
  quiet r' = record { share = refl; lists = refl; finds = refl; stores = λ x y. omega arith; accepts = λ l. omega arith; labels = λ x. x }

  -- a right to write the link, which is at home or in hand as before
  steady : (r' : Right) → r'.link ≡ r.link → r'.at_home ≡ r.at_home → Calm v (with_right v r')
  steady r' link home = record {
    faults = λ k. refl;
    outs = λ k. (let same : away k r' ≡ away k r = (λ i. cond (home i) 0 (only k (link i))) in omega (arith, ap (total (away k)) (one_right v r r' one link), ap (total (away k)) one));
    hands = λ k. refl;
  }

  its : (q : Right) → me.0.rights ≡ q ∷ [] → r ≡ q
  its q e = the_right me.0.rights r q one e

  -- the state after a step by which only the right changed
  after : (s : State S View) → get_elem? s.views id ≡ some me.0 → (w : View) → get_elem? (set s.views id w) id ≡ some w
  after s here w = set_at s.views id w (at_length s.views id v here)

  -- A8: where the life is live the right is clean
  pub looks_clean : (i h : ℕ) → HoldsLink p v i h r.link → Allows (OnTable shows rose p) slots id me (ref_index i) (λ n. n) (clean_told (step slots (ref_index i) 0 0 none) me)
  looks_clean i h holds s t long here fits = let found : ℕ = get_or s.words (ref_index i) 0 in let inside = holds.inside in
      let told : (x : ℕ) → ref_index i ≡ ref_index x → Rattle.sock_rule.specs.SocketPlays.WordFits x found v = λ x at. word_fits shows rose p slots id me mine some_ i inside s t here fits x at in
      dite (ℕ_discrete (vref_version (get_or s.words (ref_index i) 0) % 2) 0)
      (λ even. let w : View = with_right (looked i found v) (record r { clean = true }) in (
        with_right (looked i found v) (record r { clean = true }),
        keeps,
        tt,
        beside t id v w here some_ (set s.words (ref_index i) found) s.homes (refl, λ l ll. refl) record { share = refl; lists = refl; finds = refl; stores = λ x y. omega arith; accepts = λ l. omega arith; labels = λ x. x } record { faults = λ l. omega arith; outs = (steady (record r { clean = true }) refl refl).outs; hands = λ k. refl } (slot_settled t.settled (ref_index i) found (omega arith) (λ j e. omega arith))
            (load_rule t.rule id v here mine (ref_index i) found refl w record { plan = refl; found = refl; lists = refl } (clean_look_law shows p s t.rule.lawful id v here has_one i h holds fits even)),
        λ q x e at. let same : i ≡ x = omega arith in let k = its q e in (told x at, (λ z. λ y. (with_right (looked (same y) found v) (record (k y) { clean = true }), me.1)), λ odd. absurd (odd even)),
      ))
      (λ odd. (
        looked i found v,
        keeps,
        tt,
        beside t id v (looked i found v) here some_ (set s.words (ref_index i) found) s.homes (refl, λ l ll. refl) record { share = refl; lists = refl; finds = refl; stores = λ x y. omega arith; accepts = λ l. omega arith; labels = λ x. x } record { faults = λ l. omega arith; outs = λ l. omega arith; hands = λ k. refl } (slot_settled t.settled (ref_index i) found (omega arith) (λ j e. omega arith))
            (look_rule t.rule id v here mine i inside fits),
        λ q x e at. let same : i ≡ x = omega arith in (told x at, (λ even. absurd (odd even)), λ z. λ y. (looked (same y) found v, me.1)),
      ))

  -- L1
  pub takes_own : (i : ℕ) → r.at_home ≡ true → Allows (OnTable shows rose p) slots id me (link_index i) (λ n. n) (take_own_told shows rose (step slots (link_index i) 0 0 none) me)
  takes_own i home s t long here fits = let o = t.rule.lawful in let a = link_home_law shows p s o id v here has_one home in let u : View = with_right v (record r { at_home = false }) in let w : View = fault_found (rose a.0) i r.link u in let alike = found_alike (rose a.0) i r.link u in
      let low : r.link < p.links = right_in o id 0 v r here has_one.has in let hs : List (Option S) = set s.homes (p.requests + r.link) none in (
        fault_found (rose a.0) i r.link (with_right v (record r { at_home = false })),
        takes (p.requests + r.link) a.0,
        a.1,
        loaded s (link_index i) id w hs (beside_faults t id v w here some_ s.words hs (takes_link t.faults id v u here r.link a.0 low (omega (arith, t.housed)) s.words i a.1 refl taken (λ l ne. refl) (inr (ap is_over a.2))) (length-set s.homes (p.requests + r.link) none) (alike_share p v u w (quiet (record r { at_home = false })) alike) (home_settled t.settled (p.requests + r.link) none (omega arith))
            (light_after shows p s id v u w here s.words hs alike mine (right_rule t.rule id v here mine (record r { at_home = false }) hs (link_goes_law shows p s o id v here has_one none refl (omega (arith, t.housed)))))),
        λ q j e at. subst (λ (z : Right). TookOwn shows rose me (fault_found (rose a.0) i r.link (with_right v (record r { at_home = false })), (p.requests + r.link, a.0) ∷ me.1) z j) (its q e)
            (subst (λ (z : ℕ). TookOwn shows rose me (fault_found (rose a.0) i r.link (with_right v (record r { at_home = false })), (p.requests + r.link, a.0) ∷ me.1) r z) (let same : i ≡ j = omega arith in same) record {
              value = a.0;
              shown = a.2;
              inside = subst (λ (z : Plan). r.link < z.links) (sym mine) low;
              view = refl;
              known = knows_taken id v v here s.words s.homes r.link (t.faults r.link low) a.0 a.1;
              slots = ap (λ (z : Plan). (z.requests + r.link, a.0) ∷ me.1) (sym mine);
            }),
      )
    where
      taken : (l : ℕ) → out_of l (with_right v (record r { at_home = false })) ≡ out_of l v + only l r.link
      taken l = omega (arith, ap (total (away l)) (one_right v r (record r { at_home = false }) one refl), ap (total (away l)) one, ap (λ b. cond b 0 (only l r.link)) home)

  -- a fault of the link in hand is noted
  pub notes_fault : (i : ℕ) → r.at_home ≡ false → Allows (OnTable shows rose p) slots id me (link_index i) (λ n. n) (note_fault_told (step slots (link_index i) 0 0 none) me)
  notes_fault i gone s t long here fits = let w : View = noting_fault i r.link v in let alike = found_alike 1 i r.link v in let low : r.link < p.links = right_in t.rule.lawful id 0 v r here has_one.has in (
    noting_fault i r.link v,
    keeps,
    tt,
    loaded s (link_index i) id w s.homes (beside_faults t id v w here some_ s.words s.homes (noted s t here low) refl record { share = refl; lists = refl; finds = refl; stores = λ x y. omega arith; accepts = λ l. omega arith; labels = λ x. record { entries = x.entries; claimed = x.claimed } } t.settled
        (light_rule shows p s id v w here alike t.rule mine)),
    λ q j e at. let same = its q e in let same_i : i ≡ j = omega arith in λ z. (noting_fault (same_i z) (same z).link v, me.1),
  )
    where
      noted : (s : State S View) (t : OnTable shows rose p s) → get_elem? s.views id ≡ some me.0 → r.link < p.links → (l : ℕ) → l < p.links → LinkFaults shows rose p record { words = s.words; homes = s.homes; views = set s.views id (noting_fault i r.link me.0) } l
      noted s t here low l ll = dite (ℕ_discrete l r.link)
          (λ e. let in_hand : 0 < out_of l v = omega (arith, ap (total (away l)) one, ap (λ b. cond b 0 (only l r.link)) gone, only-at l r.link (sym e)) in noting_more id v (noting_fault i r.link v) here s.words s.homes l (t.faults l ll) refl in_hand (omega arith) refl (found_else 1 i r.link (p.links + l) v (λ z. omega arith)) refl)
          (λ ne. calm id v (noting_fault i r.link v) here s.words s.homes l (t.faults l ll) refl (found_else 1 i r.link l v (λ z. ne (sym z))) refl (found_else 1 i r.link (p.links + l) v (λ z. omega arith)) refl)

  -- L2
  pub puts_own : (x : ℕ) (y : S) (below : List (ℕ × S)) → me.1 ≡ (p.requests + r.link, y) ∷ below → shows y ≡ Link r.link r.sent r.places false → r.at_home ≡ false → (0 < faults_of r.link v → 0 < rose y) → Allows (OnTable shows rose p) slots id me x (λ n. n) (put_own_told (step slots x 0 0 none) me)
  puts_own x y below top shown gone known s t long here fits = let o = t.rule.lawful in let w : View = with_right v (record r { at_home = true }) in
      let low : r.link < p.links = right_in o id 0 v r here has_one.has in let hs : List (Option S) = set s.homes (p.requests + r.link) (some y) in (
        with_right v (record r { at_home = true }),
        gives_back,
        tt,
        subst (λ (l : List (ℕ × S)). OnTable shows rose p record { words = set s.words x (get_or s.words x 0); homes = put_back s.homes l; views = set s.views id (with_right v (record r { at_home = true })) }) (sym top)
            (loaded s x id w hs (beside_faults t id v w here some_ s.words hs (puts_link t.faults id v w here r.link y low (omega (arith, t.housed)) s.words (λ l ne more. refl) (λ z. refl) put known (λ l ne. refl) (inr (omega (arith, ap (total (away r.link)) one, ap (λ b. cond b 0 (only r.link r.link)) gone, only-same r.link), refl))) (length-set s.homes (p.requests + r.link) (some y)) (quiet (record r { at_home = true })) (home_settled t.settled (p.requests + r.link) (some y) (omega arith))
            (right_rule t.rule id v here mine (record r { at_home = true }) hs (link_comes_law shows p s o id v here has_one y shown (omega (arith, t.housed)))))),
        λ q e. let k = its q e in λ z. (with_right v (record (k z) { at_home = true }), rest me.1),
      )
    where
      put : (l : ℕ) → out_of l v ≡ out_of l (with_right v (record r { at_home = true })) + only l r.link
      put l = omega (arith, ap (total (away l)) (one_right v r (record r { at_home = true }) one refl), ap (total (away l)) one, ap (λ b. cond b 0 (only l r.link)) gone)

  -- M2
  pub takes_letter : (x now : ℕ) → r.stage ≡ Writes now → r.taken ≡ false → Allows (OnTable shows rose p) slots id me x (λ n. n) (take_letter_told shows (step slots x 0 0 none) me)
  takes_letter x now stage idle s t long here fits = let o = t.rule.lawful in let may : MayTake v = record { mine = has_one; now = now; stage = stage; idle = idle } in
      let a = taking_law shows p id v may s o here in let y = a.0 in let l = a.1 in let bytes = a.2 in
      let hs : List (Option S) = set s.homes (ticket_request now) none in let r' : Right = taken_right r a.1 a.2 in let w : View = with_right v r' in
      let t' : OnTable shows rose p record { words = s.words; homes = set s.homes (ticket_request now) none; views = set s.views id (with_right v (taken_right r a.1 a.2)) } =
      beside t id v w here some_ s.words hs (homes_else p s.homes (ticket_request now) none (writes_ticket o id v here r one now stage).inside) (quiet r') (steady r' refl refl) (home_taken_settled t.settled (ticket_request now) (writes_taken o id v here r one now stage)) (right_rule t.rule id v here mine r' hs (a.5 none refl)) in
      let label : a.1.label.place < 8 * p.operations = hand_label t'.rule.lawful t'.labelled id w (after s here w) r' now (one_right v r r' one refl) stage refl in (
        with_right v (taken_right r a.1 a.2),
        takes (ticket_request now) a.0,
        a.3,
        loaded s x id w hs t',
        λ q m e st. let same = its q e in let sm : now ≡ m = writes_same now m (sym stage ∙ (ap (λ (z : Right). z.stage) same ∙ st)) in
            subst (λ (z : Right). TookLetter shows me (with_right v (taken_right r a.1 a.2), (ticket_request now, a.0) ∷ me.1) z m) same
            (subst (λ (z : ℕ). TookLetter shows me (with_right v (taken_right r a.1 a.2), (ticket_request now, a.0) ∷ me.1) r z) sm record {
              value = a.0;
              heading = a.1;
              bytes = a.2;
              shown = a.4;
              label_in = subst (λ (z : Plan). a.1.label.place < 8 * z.operations) (sym mine) label;
              few = next_few t.rule id v here r now one stage;
              view = refl;
              slots = refl;
            }),
      )

  -- P1
  pub places : (now : ℕ) → r.stage ≡ Writes now → r.taken ≡ true → r.clean ≡ true → r.at_home ≡ false → r.heading.label.place < 8 * p.operations → r.link < 65536
      → Allows (OnTable shows rose p) slots id me (place_index p r.heading.label.place) (λ _. place_word false r.link r.places) (λ _. place_told (step slots (place_index p r.heading.label.place) (place_word false r.link r.places) 0 none) me (place_word false r.link r.places))
  places now stage taken clean away label narrow s t long here fits = let may : MayPlace p v = record { mine = has_one; now = now; stage = stage; taken = taken; is_clean = clean; away = away; label_in = label } in let w : View = with_right v (placed_right r now) in
      let value : ℕ = place_word false r.link r.places in (
        with_right v (placed_right r now),
        keeps,
        tt,
        places_beside t id v here r one now stage taken label value w (omega (arith, next_few t.rule id v here r now one stage)) some_ (quiet (placed_right r now)) (steady (placed_right r now) refl refl) refl (place_settled t.settled r.heading.label.place value t.stored (λ y yl. refl) (omega (arith, t.rule.lawful.references.sized)))
            (place_rule t.rule id v here mine r.heading.label.place value (placed_right r now) s.homes (placing_law shows p id v may s t.rule.lawful here)),
        λ q m e st. let same = its q e in let sm : now ≡ m = writes_same now m (sym stage ∙ (ap (λ (z : Right). z.stage) same ∙ st)) in λ z. (with_right v (placed_right (same z) (sm z)), me.1),
      )

  -- the life of a link whose life the seat holds and found failed was failed
  failed_life : (s : State S View) → OnTable shows rose p s → get_elem? s.views id ≡ some me.0 → (j h : ℕ) → HoldsLink p me.0 j h r.link → 0 < marks_of (is_saw (h + 1)) j me.0 → Failed p s r.link
  failed_life s t here j h holds seen = let o = t.rule.lawful in let l = o.references.slots j holds.inside in let life = holder_lives p s o.references id me.0 j h r.link here holds in let held = holds.held in
      let saw = l.saw (h + 1) (omega (arith, own_count s id me.0 here (is_saw (h + 1)) j)) in let k = l.held h (omega (arith, own_count s id me.0 here (is_hold h) j)) in let even = k.1 in
      let first = l.link_begun h r.link life.life.given in
      record { slot = j; version = h; life = life.life; failed = omega (arith, l.failed h, life-in p.first h (slot_facts s j).version first (omega arith) even) }

  -- P1 with the dropped bit: the link lies in the slot that was taken last
  pub drops : (now j h : ℕ) (y : ℕ × S) → r.stage ≡ Writes now → r.taken ≡ true → r.at_home ≡ false → r.heading.label.place < 8 * p.operations → Part r (took_in (shows y.1)) → me.1 ≡ y ∷ rest me.1 → HoldsLink p v j h r.link → 0 < marks_of (is_saw (h + 1)) j v
      → Allows (OnTable shows rose p) slots id me (place_index p r.heading.label.place) (λ _. place_word true r.link r.places) (λ _. drop_told shows (step slots (place_index p r.heading.label.place) (place_word true r.link r.places) 0 none) me (place_word true r.link r.places))
  drops now j h y stage taken away label part top holds seen s t long here fits = let may : MayDrop p v = record { mine = has_one; now = now; sent = took_in (shows y.1); stage = stage; taken = taken; away = away; label_in = label; part = part } in
      let u : View = with_right v (dropped_right r now (took_in (shows y.1))) in let x : ℕ = place_index p r.heading.label.place in let value : ℕ = place_word true r.link r.places in (
        dropped_at (place_index p r.heading.label.place) (place_word true r.link r.places) r.heading (with_right v (dropped_right r now (took_in (shows y.1)))),
        keeps,
        tt,
        drops_beside t id v here r one now stage taken label value u (omega arith) some_ mine (quiet (dropped_right r now (took_in (shows y.1)))) (steady (dropped_right r now (took_in (shows y.1))) refl refl) refl (omega (arith, t.rule.lawful.references.sized)) (λ noted same. place_settled t.settled r.heading.label.place value noted same (omega (arith, t.rule.lawful.references.sized)))
            (place_rule t.rule id v here mine r.heading.label.place value (dropped_right r now (took_in (shows y.1))) s.homes (dropping_law shows p id v may s t.rule.lawful here (failed_life s t here j h holds seen))),
        λ q m z e st at. let same = its q e in let sm : now ≡ m = writes_same now m (sym stage ∙ (ap (λ (u : Right). u.stage) same ∙ st)) in let sy : y ≡ z = first_is y z (rest me.1) (rest me.1) (sym top ∙ at) in
            λ i. (dropped_at x value (same i).heading (with_right v (dropped_right (same i) (sm i) (took_in (shows (sy i).1)))), me.1),
      )

  -- C5 after a message that has its place
  pub reads_on : (now : ℕ) → r.stage ≡ Placed now → now ≢ r.last → Allows (OnTable shows rose p) slots id me (next_index p (ticket_request now)) (λ n. n) (read_next_told (step slots (next_index p (ticket_request now)) 0 0 none) me)
  reads_on now stage ne s t long here fits = let o = t.rule.lawful in let x : ℕ = next_index p (ticket_request now) in let found : ℕ = get_or s.words (next_index p (ticket_request now)) 0 in
      let r' : Right = passing_right r now found in let w : View = with_right v r' in
      let t' : OnTable shows rose p record { words = s.words; homes = s.homes; views = set s.views id (with_right v (passing_right r now found)) } =
      beside t id v w here some_ s.words s.homes (refl, λ l ll. refl) (quiet r') (steady r' refl refl) t.settled (right_rule t.rule id v here mine r' s.homes (passing_law shows p s o id v here has_one now stage ne)) in
      let ticket : IsTicket me.0.plan found = subst (λ (z : Plan). IsTicket z found) (sym mine) (passes_ticket t'.rule.lawful id w (after s here w) r' (one_right v r r' one refl) now found refl) in (
        with_right v (passing_right r now found),
        keeps,
        tt,
        loaded s x id w s.homes t',
        λ q e. let same = its q e in (
          (λ m st far. let sm : now ≡ m = placed_same now m (sym stage ∙ (ap (λ (u : Right). u.stage) same ∙ st)) in ((λ u. (with_right v (passing_right (same u) (sm u) found), me.1)), ticket)),
          (λ top at_ after_ st. absurd (let z : Placed now ≡ Reversing top at_ after_ = sym stage ∙ (ap (λ (u : Right). u.stage) same ∙ st) in cc)),
        ),
      )

  -- C5 on the walk
  pub reads_back : (top a next : ℕ) → r.stage ≡ Reversing top a next → Allows (OnTable shows rose p) slots id me (next_index p (ticket_request a)) (λ n. n) (read_next_told (step slots (next_index p (ticket_request a)) 0 0 none) me)
  reads_back top a next stage s t long here fits = let o = t.rule.lawful in let x : ℕ = next_index p (ticket_request a) in let found : ℕ = get_or s.words (next_index p (ticket_request a)) 0 in
      let not_placed : (q : Right) (m : ℕ) → me.0.rights ≡ q ∷ [] → q.stage ≡ Placed m → ⊥ = λ q m e st. (let z : Reversing top a next ≡ Placed m = sym stage ∙ (ap (λ (u : Right). u.stage) (its q e) ∙ st) in cc) in
      dite (ℕ_discrete (get_or s.words (next_index p (ticket_request a)) 0) UNCONNECTED)
      (λ waits. (
        v,
        keeps,
        tt,
        beside t id v v here some_ (set s.words x found) s.homes (refl, λ l ll. refl) record { share = refl; lists = refl; finds = refl; stores = λ y z. omega arith; accepts = λ l. omega arith; labels = λ y. y } record { faults = λ l. omega arith; outs = λ l. omega arith; hands = λ k. refl } (load_settled t.settled x)
            (load_rule t.rule id v here mine x found refl v record { plan = refl; found = refl; lists = refl } (idle_law shows p s o id v here x)),
        λ q e. ((λ m st far. absurd (not_placed q m e st)), (λ top_ at_ after_ st. ((λ z. refl), λ ne. absurd (ne waits)))),
      ))
      (λ there. let r' : Right = reading_right r top a next found in let w : View = with_right v r' in
      let t' : OnTable shows rose p record { words = s.words; homes = s.homes; views = set s.views id (with_right v (reading_right r top a next found)) } =
      beside t id v w here some_ s.words s.homes (refl, λ l ll. refl) (quiet r') (steady r' refl refl) t.settled (right_rule t.rule id v here mine r' s.homes (reading_law shows p s o id v here has_one top a next stage there)) in
      let ticket : IsTicket me.0.plan found = subst (λ (z : Plan). IsTicket z found) (sym mine) (turns_ticket t'.rule.lawful id w (after s here w) r' (one_right v r r' one refl) top a next found refl) in (
        with_right v (reading_right r top a next found),
        keeps,
        tt,
        loaded s x id w s.homes t',
        λ q e. let same = its q e in (
          (λ m st far. absurd (not_placed q m e st)),
          (λ top_ at_ after_ st. ((λ z. absurd (there z)), λ ne. (walks_as top a next top_ at_ after_ (sym stage ∙ (ap (λ (u : Right). u.stage) same ∙ st)) q same found, ticket))),
        ),
      ))
    where
      walks_as : (a b c d e f : ℕ) → Reversing a b c ≡ Reversing d e f → (q : Right) → r ≡ q → (found : ℕ) → ◌≡◌ {A = Me S View} (with_right v (reading_right r a b c found), me.1) (with_right v (reading_right q d e f found), me.1)
      walks_as a b c d e f g q same found = let x : a ≡ d = cc in let y : b ≡ e = cc in let z : c ≡ f = cc in λ u. (with_right v (reading_right (same u) (x u) (y u) (z u) found), me.1)

  -- C8
  pub frees : (now : ℕ) (b : Stage) (y : S) (below : List (ℕ × S)) → Leads r.last r.stage now b → ticket_generation now < 140737488355327 → me.1 ≡ (ticket_request now, y) ∷ below
      → Allows (OnTable shows rose p) slots id me (request_index p (ticket_request now)) (λ _. 2 * (ticket_generation now + 1)) (λ _. free_request_told (step slots (request_index p (ticket_request now)) (2 * (ticket_generation now + 1)) 0 none) me (2 * (ticket_generation now + 1)))
  frees now b y below leads small top s t long here fits = let o = t.rule.lawful in let x : ℕ = request_index p (ticket_request now) in let n : ℕ = 2 * (ticket_generation now + 1) in
      let kl = right_in o id 0 v r here has_one.has in let alone = right_alone o id 0 v r here has_one.has in
      let low : ticket_request now < p.requests = now_slot o.chains r.link r kl alone o.fits.narrow now b leads in
      let r' : Right = record r { stage = b } in let w : View = with_right v r' in let hs : List (Option S) = set s.homes (ticket_request now) (some y) in
      let law = freeing_law shows p id 0 now b v r s o here has_one.has leads small in
      let even : get_or (set s.words (request_index p (ticket_request now)) (2 * (ticket_generation now + 1))) (request_index p (ticket_request now)) 0 % 2 ≡ 0 =
      (let e = get_or-set_same s.words (request_index p (ticket_request now)) (2 * (ticket_generation now + 1)) 0 (omega (arith, o.references.sized)) in omega arith) in
      let homed = free_home_law {s = record { words = set s.words (request_index p (ticket_request now)) (2 * (ticket_generation now + 1)); homes = s.homes; views = set s.views id (with_right v (record r { stage = b })) }} law id w (after s here w) (ticket_request now) (some y) low even in
      let law' = subst (λ vs. Lawful shows p record { words = set s.words (request_index p (ticket_request now)) (2 * (ticket_generation now + 1)); homes = set s.homes (ticket_request now) (some y); views = vs }) (set_twice s.views id w w) homed in (
        with_right v (record r { stage = b }),
        gives_back,
        tt,
        subst (λ (l : List (ℕ × S)). OnTable shows rose p record { words = set s.words (request_index p (ticket_request now)) (2 * (ticket_generation now + 1)); homes = put_back s.homes l; views = set s.views id (with_right v (record r { stage = b })) }) (sym top)
            (beside t id v w here some_ (set s.words x n) hs (homes_else p s.homes (ticket_request now) (some y) low) (quiet r') (steady r' refl refl) (back_settled t.settled (ticket_request now) n y low (omega (arith, t.housed)))
            (word_rule t.rule id v here mine w x n hs record { plan = refl; found = refl; lists = refl } (λ l z. absurd (omega arith)) law')),
        λ q e. let same = its q e in let st = leads_freed r.last now r.stage b leads in (λ u. (with_right v (record r { stage = sym st u }), rest me.1)) ∙ (λ u. (with_right v (freed_right (same u)), rest me.1)),
      )

  -- C8 of the last generation: the request stays taken, and a load gives its home back
  pub retires : (x now : ℕ) (b : Stage) (y : S) (below : List (ℕ × S)) → Leads r.last r.stage now b → ticket_generation now ≡ 140737488355327 → me.1 ≡ (ticket_request now, y) ∷ below
      → Allows (OnTable shows rose p) slots id me x (λ n. n) (free_request_told (step slots x 0 0 none) me)
  retires x now b y below leads last_one top s t long here fits = let o = t.rule.lawful in let kl = right_in o id 0 v r here has_one.has in let alone = right_alone o id 0 v r here has_one.has in
      let low : ticket_request now < p.requests = now_slot o.chains r.link r kl alone o.fits.narrow now b leads in
      let r' : Right = record r { stage = b } in let w : View = with_right v r' in let hs : List (Option S) = set s.homes (ticket_request now) (some y) in
      let homed = spent_home_law o id v here r one now b (some y) leads in
      let law = retiring_law shows p id 0 now b v r record { words = s.words; homes = set s.homes (ticket_request now) (some y); views = set s.views id v } homed (set_at s.views id v (at_length s.views id v here)) has_one.has leads last_one in
      let law' = subst (λ vs. Lawful shows p record { words = s.words; homes = set s.homes (ticket_request now) (some y); views = vs }) (set_twice s.views id v w) law in (
        with_right v (record r { stage = b }),
        gives_back,
        tt,
        subst (λ (l : List (ℕ × S)). OnTable shows rose p record { words = set s.words x (get_or s.words x 0); homes = put_back s.homes l; views = set s.views id (with_right v (record r { stage = b })) }) (sym top)
            (loaded s x id w hs (beside t id v w here some_ s.words hs (homes_else p s.homes (ticket_request now) (some y) low) (quiet r') (steady r' refl refl) (home_back_settled t.settled (ticket_request now) y (omega (arith, t.housed)))
            (right_rule t.rule id v here mine r' hs law'))),
        λ q e. let same = its q e in let st = leads_freed r.last now r.stage b leads in (λ u. (with_right v (record r { stage = sym st u }), rest me.1)) ∙ (λ u. (with_right v (freed_right (same u)), rest me.1)),
      )

  -- C4
  pub empties : (i h : ℕ) → r.stage ≡ Empties → r.at_home ≡ true → HoldsLink p v i h r.link
      → Allows (OnTable shows rose p) slots id me (head_index i) (λ n. either (eqb n r.last) (IDLE + r.last) n) (empty_told (step slots (head_index i) r.last (IDLE + r.last) none) me)
  empties i h stage home holds s t long here fits = let o = t.rule.lawful in
      let one_gone : (without_right v r.link).rights ≡ [] = ap (filter (λ (x : Right). not (eqb x.link r.link))) one ∙ ap (λ b. cond (not b) (r ∷ []) []) (eq-eqb r.link r.link refl) in let x : ℕ = head_index i in let found : ℕ = get_or s.words (head_index i) 0 in
      let may : MayEmpty p v i r.last (IDLE + r.last) = record { mine = has_one; stage = stage; link_home = home; last_is = refl; empty_is = refl; life = h; holds = holds } in
      dite (ℕ_discrete (get_or s.words (head_index i) 0) r.last)
      (λ won. (
        without_right v r.link,
        keeps,
        tt,
        subst (λ (b : Bool). OnTable shows rose p record { words = set s.words (head_index i) (either b (IDLE + r.last) found); homes = s.homes; views = set s.views id (without_right v r.link) }) (sym (eq-eqb found r.last won))
            (beside t id v (without_right v r.link) here some_ (set s.words x (IDLE + r.last)) s.homes (refl, λ l ll. refl) record { share = refl; lists = refl; finds = refl; stores = λ y z. omega arith; accepts = λ l. omega arith; labels = λ y. y } record { faults = λ l. refl; outs = λ l. omega (arith, ap (total (away l)) one_gone, ap (total (away l)) one, ap (λ b. cond b 0 (only l r.link)) home); hands = λ k. refl } (slot_settled t.settled x (IDLE + r.last) (let a = holds.inside in omega arith) (λ j e. omega arith))
            (emptied_rule t.rule id v here mine i r.last (IDLE + r.last) may holds.inside won)),
        λ q e. let same = its q e in ((λ z. λ u. (without_right v (same u).link, me.1)), λ ne. absurd (ne won)),
      ))
      (λ lost. let r' : Right = walking_right r found in let w : View = with_right v r' in
      let t' : OnTable shows rose p record { words = s.words; homes = s.homes; views = set s.views id (with_right v (walking_right r found)) } =
      beside t id v w here some_ s.words s.homes (refl, λ l ll. refl) (quiet r') (steady r' refl refl) t.settled (right_rule t.rule id v here mine r' s.homes (walking_law shows p s o id i r.last (IDLE + r.last) v here may found refl lost)) in
      let ticket : IsTicket me.0.plan found = subst (λ (z : Plan). IsTicket z found) (sym mine) (walk_ticket t'.rule.lawful id w (after s here w) r' (one_right v r r' one refl) found found 0 refl) in (
        with_right v (walking_right r found),
        keeps,
        tt,
        subst (λ (b : Bool). OnTable shows rose p record { words = set s.words (head_index i) (either b (IDLE + r.last) found); homes = s.homes; views = set s.views id (with_right v (walking_right r found)) }) (sym (ne_eqb found r.last lost))
            (loaded s x id w s.homes t'),
        λ q e. let same = its q e in ((λ z. absurd (lost z)), λ ne. ((λ u. (with_right v (walking_right (same u) found), me.1)), ticket)),
      ))

  -- C6
  pub turns : (top a next before : ℕ) → r.stage ≡ ReversesNext top a next before → Allows (OnTable shows rose p) slots id me (next_index p (ticket_request a)) (λ _. next) (λ _. turn_told (step slots (next_index p (ticket_request a)) next 0 none) me next)
  turns top a next before stage s t long here fits = let x : MayTurn v next = record { mine = has_one; top = top; at = a; before = before; stage = stage } in let w : View = with_right v (turned_right r top a before) in (
    with_right v (turned_right r top a before),
    keeps,
    tt,
    beside t id v w here some_ (set s.words (next_index p (ticket_request a)) next) s.homes (refl, λ l ll. refl) (quiet (turned_right r top a before)) (steady (turned_right r top a before) (turn_kept r top a before).0 (turn_kept r top a before).1) (next_settled t.settled (ticket_request a) next (turn_ticket t.rule.lawful id v here r one top a next before stage).inside) (turning_rule t.rule id v here mine next x),
    λ q top_ at_ after_ before_ e st. turns_as top a next before top_ at_ after_ before_ (sym stage ∙ (ap (λ (u : Right). u.stage) (its q e) ∙ st)) q (its q e),
  )
    where
      turns_as : (a b c d e f g h : ℕ) → ReversesNext a b c d ≡ ReversesNext e f g h → (q : Right) → r ≡ q → ◌≡◌ {A = Me S View} (with_right v (turned_right r a b d), me.1) (with_right v (turned_right q e f h), me.1)
      turns_as a b c d e f g h i q same = let x : a ≡ e = cc in let y : b ≡ f = cc in let z : d ≡ h = cc in λ u. (with_right v (turned_right (same u) (x u) (y u) (z u)), me.1)
