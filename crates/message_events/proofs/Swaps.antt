-- The exchange of a head: the link accepts the message of the claim, and nothing else becomes of it.
use Rattle.std.proofs.Common.{◌≡◌, ℕ, ◌-◌, ◌<◌, ◌≤◌, ltb, cond, Bool, true, false, eq-eqb, ne_eqb, le-ltb, lt-ltb, List, [], ◌∷◌, get_or, set, sym, refl, ap, ◌∙◌, subst, arith}
use Rattle.std.specs.List.{flat_map}
use native.Mathlib.Decide.{dec_le, ℕ_discrete}
use mathlib.Core.Logic.{dite}
use mathlib.Core.Option.{Option, some}
use lib.ListN.{get_elem?}
use Rattle.sock_words.specs.declared.plain.Plan.{Plan}
use Rattle.sock_model.specs.declared.chain.Entry.{Entry}
use Rattle.sock_model.specs.declared.chain.Right.{Right}
use Rattle.sock_model.specs.declared.home.Home.{Home}
use Rattle.sock_model.specs.declared.view.View.{View}
use Rattle.sock_model.specs.declared.view.Hand.{Hand}
use Rattle.sock_model.specs.ChainRows.{entry_of, more, queued, righted, new_right}
use Rattle.sock_model.specs.ChainStepConditions.{MayExchange}
use Rattle.sock_model.specs.LawfulSockets.{Lawful}
use Rattle.sock_model.specs.SocketTableLayout.{head_index, link_index}
use Rattle.sock_model.specs.LinksInSlots.{Lives}
use Rattle.sock_model.specs.ChainLawReads.{memory, tokens, link_home, rights_on, head_at}
use Rattle.chain_steps.proofs.Gather.{gather_own, gather_same, gather_none}
use Rattle.chain_steps.proofs.Grow.{idle_found}
use Rattle.sock_steps.proofs.LifeLinkSlotPlaces.{holder_lives}
use Rattle.seat_programs.specs.TableSteps.{OnChain, SwapHead}
use Rattle.seat_programs.specs.Cores.{Core}
use Rattle.seat_programs.specs.StepTables.{row, hand_at}
use Rattle.seat_programs.specs.StepsOfLinks.{as_hand}
use Rattle.seat_programs.specs.StepViews.{by_claim}
use Rattle.seat_programs.specs.StepsOfChain.{exchanged}
use Rattle.sock_runs.specs.program_steps.specs.SoundSeats.{state}
use Rattle.sock_runs.proofs.ChainTicks.{held_link_is}
use Rattle.message_events.specs.MessageStanding.{hands_on, by_rights, by_home, stand}
use Rattle.message_events.proofs.Carried.{no_hand}
use Rattle.message_events.proofs.LinkWrittenByRight.{home_of, same_stand}
use Rattle.sock_words.specs.PackedWords.{IDLE}

module _ (p : Plan) (c : Core) (views : List View) (o : Lawful (λ (home : Home). home) p (state c views)) (i : ℕ) (v : View) (at : get_elem? views i ≡ some v) (j own : ℕ) (x : MayExchange p v j own) where
  abbrev found : ℕ
  found = get_or c.words (head_index j) 0

  abbrev pub entry : Bool → Entry
  entry b = entry_of x.claim (cond b found (found - IDLE))

  abbrev hand : Hand
  hand = hand_at p c.words c.homes (OnChain (SwapHead j own))

  abbrev pub after : Bool → View
  after b = cond b (queued v x.claim found) (righted v x.claim found hand.took hand.next)

  pub swap_row : row p (OnChain (SwapHead j own)) found hand v ≡ after (ltb found IDLE)
  swap_row = ap (λ cs. by_claim cs (exchanged found hand v) v) x.claims

  pub swap_lists : (b : Bool) → (after b).lists ≡ more v.lists (entry b)
  swap_lists true = refl
  swap_lists false = refl

  life : Lives p (state c views) j x.life x.claim.link
  life = holder_lives p (state c views) o.references i v j x.life x.claim.link at x.holds

  inside : x.claim.link < p.links
  inside = o.in_slots.small j x.life x.claim.link life.life

  in_slot : o.slot x.claim.link ≡ some j
  in_slot = o.in_slots.alone j x.life x.claim.link life

  head_is : (memory p o.slot c.words).head x.claim.link ≡ some found
  head_is = ap (head_at c.words) in_slot

  link_is : get_or c.words (link_index j) 0 ≡ x.claim.link
  link_is = held_link_is p (state c views) o i v at j x.life (x.holds.inside, x.holds.held) x.claim.link x.holds.met

  busy_stand : (c' : Core) → c'.homes ≡ c.homes → (k : ℕ) → stand p c' (set views i (after true)) k ≡ stand p c views k
  busy_stand c' homes k = same_stand p c views o i v at c' (queued v x.claim found) refl refl k (ap (λ (hs : List (Option Home)). link_home (λ (h : Home). h) p hs k) homes)

  module _ (c' : Core) (homes : c'.homes ≡ c.homes) (high : IDLE ≤ found) where
    nobody : (tokens views).rights x.claim.link ≡ []
    nobody = (idle_found o.chains x.claim.link found inside o.fits.narrow head_is high).rights

    at_home : (took : List ℕ) × (next : ℕ) × (home_of p c x.claim.link ≡ some (took, next))
    at_home = o.homes.idle x.claim.link j inside in_slot nobody

    hand_is : hand ≡ record { link = x.claim.link; took = at_home.0; next = at_home.1 }
    hand_is = ap (λ z. as_hand z (link_home (λ (h : Home). h) p c.homes z)) link_is ∙ ap (as_hand x.claim.link) at_home.2

    fresh : Right
    fresh = new_right x.claim found hand.took hand.next

    own_none : rights_on x.claim.link v ≡ []
    own_none = gather_none (rights_on x.claim.link) views i v at nobody

    same_home : (k : ℕ) → home_of p c' k ≡ home_of p c k
    same_home k = ap (λ (hs : List (Option Home)). link_home (λ (h : Home). h) p hs k) homes

    here : stand p c' (set views i (after false)) x.claim.link ≡ stand p c views x.claim.link
    here = ap (λ rs. by_rights rs (home_of p c' x.claim.link) (flat_map (hands_on x.claim.link) (set views i (after false))))
        (gather_own (rights_on x.claim.link) views i v (after false) at (nobody ∙ sym own_none)
        ∙ (ap (λ b. cond b (new_right x.claim found hand.took hand.next ∷ rights_on x.claim.link v) (rights_on x.claim.link v)) (eq-eqb x.claim.link x.claim.link refl) ∙ ap (λ l. new_right x.claim found hand.took hand.next ∷ l) own_none))
        ∙ ((λ k. record { placed = (ap (λ (h : Hand). h.next) hand_is) k; took = (ap (λ (h : Hand). h.took) hand_is) k })
        ∙ sym (ap (λ rs. by_rights rs (home_of p c x.claim.link) (flat_map (hands_on x.claim.link) views)) nobody ∙ (ap (by_home (home_of p c x.claim.link)) (no_hand p c views o i v at x.claim.link j in_slot) ∙ ap (λ h. by_home h []) at_home.2)))

    idle_stand : (k : ℕ) → stand p c' (set views i (after false)) k ≡ stand p c views k
    idle_stand k = dite (ℕ_discrete k x.claim.link)
        (λ e. subst (λ j. stand p c' (set views i (after false)) j ≡ stand p c views j) (sym e) here)
        (λ ne. ap (λ rs. by_rights rs (home_of p c' k) (flat_map (hands_on k) (set views i (after false))))
        (gather_same (rights_on k) views i v (after false) at (ap (λ b. cond b (new_right x.claim found hand.took hand.next ∷ rights_on k v) (rights_on k v)) (ne_eqb x.claim.link k (λ q. ne (sym q)))))
        ∙ ap (λ h. by_rights ((tokens views).rights k) h (flat_map (hands_on k) (set views i (after false)))) (same_home k)
        ∙ ap (λ hs. by_rights ((tokens views).rights k) (home_of p c k) hs) (gather_same (hands_on k) views i v (after false) at refl))

  pub swap_stand : (c' : Core) → c'.homes ≡ c.homes → (k : ℕ) → stand p c' (set views i (after (ltb found IDLE))) k ≡ stand p c views k
  swap_stand c' homes k = dite (dec_le IDLE found)
      (λ idle. subst (λ b. stand p c' (set views i (after b)) k ≡ stand p c views k) (sym (le-ltb found IDLE idle)) (idle_stand c' homes idle k))
      (λ busy. let low : found < IDLE = omega (arith, busy) in subst (λ b. stand p c' (set views i (after b)) k ≡ stand p c views k) (sym (lt-ltb found IDLE low)) (busy_stand c' homes k))
