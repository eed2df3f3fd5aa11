-- A link that is put into its home stands as it stood in hand.
use Rattle.std.proofs.Common.{◌≡◌, ◌≢◌, ℕ, zero, suc, ◌+◌, ◌<◌, ⊎_elim, eqb, eq-eqb, ne_eqb, eqb-true, not, cond, List, [], ◌∷◌, length, set, refl, sym, ap, ◌∙◌, subst, arith}
use Rattle.std.specs.List.{filter, flat_map}
use mathlib.Core.Logic.{dite}
use mathlib.Core.Option.{Option, some, some-injective, some-ne-none}
use native.Mathlib.Decide.{ℕ_discrete}
use lib.ListN.{get_elem?}
use Rattle.atomic_table.proofs.Lists.{set_else}
use Rattle.sock_words.specs.declared.plain.Plan.{Plan}
use Rattle.sock_model.specs.declared.home.Home.{Home}
use Rattle.sock_model.specs.declared.view.View.{View}
use Rattle.sock_model.specs.declared.view.Hand.{Hand}
use Rattle.sock_model.specs.declared.chain.Entry.{Entry}
use Rattle.sock_model.specs.Entries.{on}
use Rattle.sock_model.specs.MarkWeights.{only}
use Rattle.sock_model.specs.LinksInSlots.{Given}
use Rattle.sock_model.specs.LinkHomes.{Unborn, Recycles}
use Rattle.sock_model.specs.Deliveries.{Taken}
use Rattle.sock_model.specs.ChainRows.{without_hand}
use Rattle.sock_model.specs.ChainLawReads.{link_home, took_of, as_link, shown, carries, hands_of}
use Rattle.sock_model.specs.LawfulSockets.{Lawful}
use Rattle.slot_steps.proofs.RuleNumbers.{only-same}
use Rattle.slot_steps.proofs.SlotWeightSums.{term_le}
use Rattle.chain_steps.proofs.TicketLists.{filter_at, filter_in}
use Rattle.atomic_table.proofs.Lists.{at_set}
use Rattle.sock_steps.proofs.Maps.{set_at, no_members}
use Rattle.seat_programs.specs.Cores.{Core, first_of}
use Rattle.seat_programs.specs.StepsOfLinks.{HasInHand}
use Rattle.sock_runs.specs.program_steps.specs.SoundSeats.{state, AreInHand}
use Rattle.sock_runs.proofs.HandTicks.{TheOne, the_one}
use Rattle.message_events.specs.MessageStanding.{Stand, hands_on, of_hand, by_home, stand}
use Rattle.message_events.proofs.AcceptedOrderSteps.{In, gathered_in, gathered_of}
use Rattle.message_events.proofs.OtherMessageSteps.{stand_of, stand_on}
use Rattle.message_events.proofs.Carried.{one_hand}

-- where each hand on the link tells the same, and its home does where there is none, this is how it stands
all_tell : (k : ℕ) (vs : List View) (home : Option (List ℕ × ℕ)) (t : Stand) → ((g : Hand) → In (flat_map (hands_on k) vs) g → of_hand g ≡ t) → (flat_map (hands_on k) vs ≡ [] → by_home home [] ≡ t) → by_home home (flat_map (hands_on k) vs) ≡ t
all_tell k vs home t = go (flat_map (hands_on k) vs)
  where
    go : (hs : List Hand) → ((g : Hand) → In hs g → of_hand g ≡ t) → (hs ≡ [] → by_home home [] ≡ t) → by_home home hs ≡ t
    go [] all then_ = then_ refl
    go (h ∷ hs) all then_ = all h (zero, refl)

-- of a link that accepted nothing nothing was taken
took_none : (es : List Entry) (n : ℕ) (took : List ℕ) → es ≡ [] → Taken es n took → took ≡ []
took_none [] n took e t = ⊎_elim (λ a. t.took_is ∙ a) (λ a. absurd (some-ne-none a.0 (sym a.2))) t.of_next
took_none (x ∷ es) n took e t = absurd (omega (arith, ap length e))

at_one : (h g : Hand) (n : ℕ) → get_elem? (h ∷ []) n ≡ some g → g ≡ h
at_one h g zero e = sym (some-injective h g e)
at_one h g (suc n) e = absurd (some-ne-none g (sym e))

module _ (p : Plan) (c : Core) (views : List View) (o : Lawful (λ home. home) p (state c views)) (i : ℕ) (v : View) (at : get_elem? views i ≡ some v) where
  -- a link without a life accepted nothing
  unborn_none : (k : ℕ) → Unborn (λ home. home) p (state c views) k → on k o.log ≡ []
  unborn_none k unborn = no_members (on k o.log) (λ n e h. let a = filter_at (λ (d : Entry). eqb d.link k) o.log n e h in let b = o.in_slots.entered a.0 e a.1 in
      unborn b.0 b.1 (subst (λ z. Given p (state c views) b.0 b.1 z) (eqb-true e.link k a.2) b.2))

  unborn_hand : (k : ℕ) → Unborn (λ home. home) p (state c views) k → (id n : ℕ) (u : View) (g : Hand) → get_elem? views id ≡ some u → get_elem? u.hands n ≡ some g → g.link ≡ k → of_hand g ≡ record { placed = o.places k; took = [] }
  unborn_hand k unborn id n u g there has is = let t = o.carried id n u g there has in
      let took : g.took ≡ [] = took_none (on g.link o.log) (o.kept g.link) g.took (ap (λ z. on z o.log) is ∙ unborn_none k unborn) t.0 in let next : g.next ≡ o.places k = t.2 ∙ ap o.places is in
      ap (λ x. record { placed = x; took = g.took }) next ∙ ap (λ x. record { placed = o.places k; took = x }) took

  module _ (k : ℕ) (in_hand : List Home) (are : AreInHand in_hand v.hands) (has : HasInHand v k) (c' : Core) (homes : c'.homes ≡ set c.homes (p.requests + k) (first_of in_hand)) (long : p.requests + k < length c.homes) where
    one : TheOne in_hand v.hands k
    one = the_one in_hand v.hands k are has

    own_at : get_elem? v.hands 0 ≡ some one.hand
    own_at = ap (λ l. get_elem? l 0) one.hands_is

    own_has : 0 < hands_of k v
    own_has = omega (arith, term_le (carries k) v.hands 0 one.hand own_at, ap (only k) one.link_is, only-same k)

    -- each hand on the link tells what this one does
    tells : (id : ℕ) (u : View) → get_elem? views id ≡ some u → (n : ℕ) (g : Hand) → get_elem? (hands_on k u) n ≡ some g → of_hand g ≡ of_hand one.hand
    tells id u there n g e = let a = filter_at (λ (h : Hand). eqb h.link k) u.hands n g e in let is : g.link ≡ k = eqb-true g.link k a.2 in
        dite (ℕ_discrete id i)
        (λ same. let q : u ≡ v = some-injective u v (sym there ∙ (ap (get_elem? views) same ∙ at)) in
        ap of_hand (at_one one.hand g a.0 (sym (ap (λ l. get_elem? l a.0) one.hands_is) ∙ (sym (ap (λ (z : View). get_elem? z.hands a.0) q) ∙ a.1))))
        (λ ne. ⊎_elim (λ unborn. unborn_hand k unborn id a.0 u g there a.1 is ∙ sym (unborn_hand k unborn i 0 v one.hand at own_at one.link_is))
        (λ (r : Recycles (λ home. home) p (state c views) v k). absurd (one_hand p c views o i v at r.slot r.version k r.recycling r.life id u there (omega (arith, term_le (carries k) u.hands a.0 g a.1, ap (only k) is, only-same k)) ne))
        (o.homes.hand_of i k v at own_has))

    none_left : filter (λ (h : Hand). not (eqb h.link k)) v.hands ≡ []
    none_left = ap (filter (λ (h : Hand). not (eqb h.link k))) one.hands_is ∙ ap (λ b. cond (not b) (one.hand ∷ []) []) (eq-eqb one.hand.link k one.link_is)

    own_in : In (hands_on k v) one.hand
    own_in = filter_in (λ (h : Hand). eqb h.link k) v.hands 0 one.hand own_at (eq-eqb one.hand.link k one.link_is)

    gone : hands_on k (without_hand v k) ≡ []
    gone = ap (filter (λ (h : Hand). eqb h.link k)) none_left

    before : by_home (link_home (λ home. home) p c.homes k) (flat_map (hands_on k) views) ≡ of_hand one.hand
    before = all_tell k views (link_home (λ home. home) p c.homes k) (of_hand one.hand)
        (λ g has_. let a = gathered_of (hands_on k) views g has_ in tells a.0 a.1 a.2 a.3.0 g a.3.1)
        (λ none_. let a = gathered_in (hands_on k) views i v one.hand at own_in in absurd (some-ne-none one.hand (sym a.1 ∙ ap (λ l. get_elem? l a.0) none_)))

    behind : (home : Option (List ℕ × ℕ)) → home ≡ some (one.hand.took, one.hand.next) → by_home home (flat_map (hands_on k) (set views i (without_hand v k))) ≡ of_hand one.hand
    behind home is = all_tell k (set views i (without_hand v k)) home (of_hand one.hand)
        (λ g has_. let a = gathered_of (hands_on k) (set views i (without_hand v k)) g has_ in ⊎_elim
        (λ b. absurd (some-ne-none g (sym a.3.1 ∙ ap (λ l. get_elem? l a.3.0) (ap (hands_on k) (sym b.1) ∙ gone))))
        (λ b. tells a.0 a.1 b.1 a.3.0 g a.3.1)
        (at_set views i a.0 (without_hand v k) a.1 a.2))
        (λ none_. ap (λ h. by_home h []) is)

    home_after : link_home (λ home. home) p c'.homes k ≡ some (one.hand.took, one.hand.next)
    home_after = ap (λ hs. link_home (λ home. home) p hs k) homes ∙ (ap (λ y. took_of (as_link (shown (λ (home : Home). home) y))) (set_at c.homes (p.requests + k) (first_of in_hand) long)
        ∙ (ap (λ l. took_of (as_link (shown (λ (home : Home). home) (some (first_of l))))) one.hand_is ∙ ap (λ x. took_of (as_link (shown (λ (home : Home). home) (some (some x))))) one.first_is))

    puts_here : stand p c' (set views i (without_hand v k)) k ≡ stand p c views k
    puts_here = stand_of p c c' views i v at (without_hand v k) k refl
        (behind (link_home (λ home. home) p c'.homes k) home_after ∙ sym before)

    puts_else : (j : ℕ) → j ≢ k → stand p c' (set views i (without_hand v k)) j ≡ stand p c views j
    puts_else j ne = stand_on p c c' views i v at (without_hand v k) j refl
        (ap (filter (λ (h : Hand). eqb h.link j)) none_left ∙ sym (ap (filter (λ (h : Hand). eqb h.link j)) one.hands_is ∙ ap (λ b. cond b (one.hand ∷ []) []) (ne_eqb one.hand.link j (λ e. ne (sym e ∙ one.link_is)))))
        (ap (λ hs. link_home (λ home. home) p hs j) homes ∙ ap (λ y. took_of (as_link (shown (λ (home : Home). home) y))) (set_else c.homes (p.requests + k) (p.requests + j) (first_of in_hand) (λ e. ne (omega (arith, e)))))

    -- each link stands as before
    pub stand_puts : (j : ℕ) → stand p c' (set views i (without_hand v k)) j ≡ stand p c views j
    stand_puts j = dite (ℕ_discrete j k) (λ e. subst (λ z. stand p c' (set views i (without_hand v k)) z ≡ stand p c views z) (sym e) puts_here) (puts_else j)
