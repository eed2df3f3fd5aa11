-- A link that is taken out of its home stands as it stood there.
use Rattle.std.proofs.Common.{◌≡◌, ◌≢◌, ℕ, ◌+◌, ◌-◌, ◌<◌, ◌≤◌, ⊎_elim, eqb, eq-eqb, ne_eqb, nat_lt, cond, List, [], ◌∷◌, map, set, refl, sym, ap, ◌∙◌, subst, arith}
use Rattle.std.specs.List.{filter, flat_map}
use mathlib.Core.Logic.{dite}
use mathlib.Core.Option.{some, none, some-injective, some-ne-none}
use native.Mathlib.Decide.{ℕ_discrete, dec_le}
use lib.ListN.{get_elem?}
use Rattle.atomic_table.specs.Table.{State}
use Rattle.atomic_table.proofs.Lists.{at_map, set_else}
use Rattle.sock_words.specs.declared.plain.Plan.{Plan}
use Rattle.sock_model.specs.declared.marks.Mark.{Mark}
use Rattle.sock_model.specs.declared.marks.Mark.TheVariants.{Recycling}
use Rattle.sock_model.specs.declared.home.Home.{Home}
use Rattle.sock_model.specs.declared.home.Home.TheVariants.{Link}
use Rattle.sock_model.specs.declared.view.View.{View}
use Rattle.sock_model.specs.declared.view.Hand.{Hand}
use Rattle.sock_model.specs.declared.chain.Right.{Right}
use Rattle.sock_model.specs.Marks.{about}
use Rattle.sock_model.specs.MarkWeights.{only, is_recycled, is_recycling, is_busy, is_met}
use Rattle.sock_model.specs.SlotRows.{marks_of}
use Rattle.sock_model.specs.LinksInSlots.{Given}
use Rattle.sock_model.specs.LinkHomes.{Unborn, Recycles}
use Rattle.sock_model.specs.ChainRows.{with_hand, spent_hand}
use Rattle.sock_model.specs.ChainLawReads.{rights_on, link_home, took_of, as_link, shown, waits_of, carries, hands_of}
use Rattle.sock_model.specs.LawfulSockets.{Lawful}
use Rattle.slot_steps.proofs.RuleNumbers.{only-same}
use Rattle.slot_steps.proofs.SlotWeightSums.{term_le, total_mono, total_some}
use Rattle.slot_steps.proofs.ReferenceStepsKeepSlot.{recycled_le}
use Rattle.chain_steps.proofs.TicketLists.{at_length}
use Rattle.chain_steps.proofs.Gather.{gather_own, gather_none}
use Rattle.sock_steps.proofs.Maps.{set_at, gather_nil}
use Rattle.sock_steps.proofs.SumsAsMarksChange.{either_way}
use Rattle.sock_steps.proofs.LifeLinkSlotPlaces.{own_count, given_once, two_seats}
use Rattle.seat_programs.specs.TableSteps.{OnLink, TakeLink}
use Rattle.seat_programs.specs.Cores.{Core}
use Rattle.seat_programs.specs.StepTables.{hand_at}
use Rattle.seat_programs.specs.StepsOfLinks.{taken}
use Rattle.seat_programs.specs.StepTables.{May}
use Rattle.sock_runs.specs.program_steps.specs.SoundSeats.{state}
use Rattle.sock_runs.proofs.HandTicks.{AtHome, taking, found_hand}
use Rattle.message_events.specs.MessageStanding.{hands_on, by_home, stand}
use Rattle.message_events.proofs.OtherMessageSteps.{stand_of, stand_on}
use Rattle.sock_words.specs.Totals.{total}

-- none of these has the link
pub no_hands : (k : ℕ) (hs : List Hand) → total (carries k) hs ≡ 0 → filter (λ (h : Hand). eqb h.link k) hs ≡ []
no_hands k [] none_ = refl
no_hands k (h ∷ hs) none_ = dite (ℕ_discrete h.link k)
    (λ e. absurd (let q = ap (only k) e in omega (arith, q, only-same k, none_)))
    (λ ne. ap (λ b. cond b (h ∷ filter (λ (h : Hand). eqb h.link k) hs) (filter (λ (h : Hand). eqb h.link k) hs)) (ne_eqb h.link k ne) ∙ no_hands k hs (omega (arith, none_)))

module _ (p : Plan) (c : Core) (views : List View) (o : Lawful (λ home. home) p (state c views)) (i : ℕ) (v : View) (at : get_elem? views i ≡ some v) where
  abbrev s : State Home View
  s = state c views

  busy_of : (j : ℕ) (u : View) (y : ℕ) → 0 < marks_of (is_recycled y) j u → 0 < marks_of is_busy j u
  busy_of j u y h = omega (arith, total_mono (is_recycled y) is_recycling (recycled_le y) (about j u.marks), total_mono is_recycling is_busy recycling_busy (about j u.marks))
    where
      recycling_busy : (m : Mark) → is_recycling m ≤ is_busy m
      recycling_busy (Recycling w) = omega arith
      recycling_busy _ = omega arith

  -- no other seat has the link of a slot that the seat recycles
  pub one_hand : (j x k : ℕ) → 0 < marks_of (is_recycled x) j v → Given p s j (x - 2) k → (id : ℕ) (u : View) → get_elem? views id ≡ some u → 0 < hands_of k u → id ≢ i → ⊥
  one_hand j x k recycling life id u there has ne = ⊎_elim (λ (n : Unborn (λ home. home) p s k). n j (x - 2) life)
      (λ (r : Recycles (λ home. home) p s u k). let q = given_once p s o.references j r.slot (x - 2) (r.version - 2) k life r.life in
      let here : 0 < marks_of (is_recycled r.version) j u = subst (λ y. 0 < marks_of (is_recycled r.version) y u) (sym q.0) r.recycling in
      let f : View → List Mark = λ w. about j w.marks in
      let two = two_seats (total is_busy) (map f views) i id (f v) (f u) (λ e. ne (sym e)) (at_map f views i v at) (at_map f views id u there) in
      omega (arith, two, busy_of j v x recycling, busy_of j u r.version here, (o.references.slots j life.inside).busy_once))
      (o.homes.hand_of id k u there has)

  -- nobody has in hand what may be taken
  none_in_hand : (k : ℕ) → May p v (OnLink (TakeLink k)) → total (hands_of k) views ≡ 0
  none_in_hand k may = dite (dec_le 1 (total (hands_of k) views))
      (λ some_. absurd (dite (dec_le 1 (total (only k) v.passes))
      (λ pass. let a = (o.homes.hands k (omega (arith, some_))).1 in omega (arith, a, pass, term_le (waits_of k) views i v at))
      (λ spent. ⊎_elim (λ pass. omega (arith, spent, pass))
      (λ e. let life : Given p s e.0 (e.1 - 2) k = record { inside = e.2; given = (o.references.slots e.0 e.2).met (e.1 - 2) k (let m = e.4 in omega (arith, m, own_count s i v at (is_met (e.1 - 2) k) e.0)) } in
      let a = total_some (hands_of k) views (omega (arith, some_)) in one_hand e.0 e.1 k e.3 life a.0 a.1 a.2 a.3
      (λ q. let same : v ≡ a.1 = some-injective v a.1 (sym at ∙ (ap (get_elem? views) (sym q) ∙ a.2)) in let b = a.3 in
      let empty : hands_of k v ≡ 0 = ap (total (carries k)) may.1 in omega (arith, b, empty, ap (hands_of k) same)))
      may.2)))
      (λ none_. omega (arith, none_))

  none_gathered : (k : ℕ) → May p v (OnLink (TakeLink k)) → flat_map (hands_on k) views ≡ []
  none_gathered k may = gather_nil (hands_on k) views (λ id u there. no_hands k u.hands (omega (arith, term_le (hands_of k) views id u there, none_in_hand k may)))

  -- a link in a slot is in no hand
  pub no_hand : (k j : ℕ) → o.slot k ≡ some j → flat_map (hands_on k) views ≡ []
  no_hand k j slot = gather_nil (hands_on k) views (λ id u there. no_hands k u.hands (omega (arith, term_le (hands_of k) views id u there, none_)))
    where
      none_ : total (hands_of k) views ≡ 0
      none_ = dite (dec_le 1 (total (hands_of k) views))
          (λ some_. absurd (some-ne-none j (sym slot ∙ (o.homes.hands k (omega (arith, some_))).0)))
          (λ less. omega (arith, less))

  module _ (k : ℕ) (may : May p v (OnLink (TakeLink k))) (c' : Core) (homes : c'.homes ≡ set c.homes (p.requests + k) none) where
    there : AtHome p c.homes k
    there = (taking p s o i v at k may).0

    abbrev in_hand : Hand
    in_hand = record { link = k; took = there.took; next = there.next }

    after : (taken in_hand v).rights ≡ v.rights
    after = either_way (nat_lt 0 (total (only k) v.passes)) (spent_hand v in_hand) (with_hand v in_hand) (λ (w : View). w.rights ≡ v.rights) refl refl

    hands_after : (taken in_hand v).hands ≡ in_hand ∷ v.hands
    hands_after = either_way (nat_lt 0 (total (only k) v.passes)) (spent_hand v in_hand) (with_hand v in_hand) (λ (w : View). w.hands ≡ in_hand ∷ v.hands) refl refl

    rights_same : (j : ℕ) → rights_on j (taken in_hand v) ≡ rights_on j v
    rights_same j = ap (filter (λ (x : Right). eqb x.link j)) after

    home_before : link_home (λ home. home) p c.homes k ≡ some (there.took, there.next)
    home_before = ap (λ y. took_of (as_link (shown (λ (home : Home). home) y))) there.is

    home_after : link_home (λ home. home) p c'.homes k ≡ none
    home_after = ap (λ hs. link_home (λ home. home) p hs k) homes
        ∙ ap (λ y. took_of (as_link (shown (λ (home : Home). home) y))) (set_at c.homes (p.requests + k) none (at_length c.homes (p.requests + k) (some (Link k there.took there.next there.done)) there.is))

    own_none : hands_on k v ≡ []
    own_none = gather_none (hands_on k) views i v at (none_gathered k may)

    gathered : flat_map (hands_on k) (set views i (taken in_hand v)) ≡ in_hand ∷ []
    gathered = gather_own (hands_on k) views i v (taken in_hand v) at (none_gathered k may ∙ sym own_none)
        ∙ (ap (filter (λ (h : Hand). eqb h.link k)) hands_after ∙ (ap (λ b. cond b (in_hand ∷ hands_on k v) (hands_on k v)) (eq-eqb k k refl) ∙ ap (λ l. in_hand ∷ l) own_none))

    takes_here : stand p c' (set views i (taken in_hand v)) k ≡ stand p c views k
    takes_here = stand_of p c c' views i v at (taken in_hand v) k (rights_same k)
        (ap (by_home (link_home (λ home. home) p c'.homes k)) gathered ∙ sym (ap (by_home (link_home (λ home. home) p c.homes k)) (none_gathered k may) ∙ ap (λ h. by_home h []) home_before))

    takes_else : (j : ℕ) → j ≢ k → stand p c' (set views i (taken in_hand v)) j ≡ stand p c views j
    takes_else j ne = stand_on p c c' views i v at (taken in_hand v) j (rights_same j)
        (ap (filter (λ (h : Hand). eqb h.link j)) hands_after ∙ ap (λ b. cond b (in_hand ∷ hands_on j v) (hands_on j v)) (ne_eqb k j (λ e. ne (sym e))))
        (ap (λ hs. link_home (λ home. home) p hs j) homes ∙ ap (λ y. took_of (as_link (shown (λ (home : Home). home) y))) (set_else c.homes (p.requests + k) (p.requests + j) none (λ e. ne (omega (arith, e)))))

    -- each link stands as before
    pub stand_takes : (j : ℕ) → stand p c' (set views i (taken (hand_at p c.words c.homes (OnLink (TakeLink k))) v)) j ≡ stand p c views j
    unfolding there
    stand_takes j = subst (λ h. stand p c' (set views i (taken h v)) j ≡ stand p c views j) (sym (found_hand p s o i v at k may))
        (dite (ℕ_discrete j k) (λ e. subst (λ z. stand p c' (set views i (taken in_hand v)) z ≡ stand p c views z) (sym e) takes_here) (takes_else j))
