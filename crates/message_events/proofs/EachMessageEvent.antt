-- Each step, move and put is one event of the plain model of messages, or none.
use Rattle.std.proofs.Common.{◌≡◌, ◌≢◌, ℕ, suc, ◌+◌, ◌%◌, ◌<◌, ◌⊎◌, inl, inr, ⊎_elim, eqb, ltb, not, cond, Bool, true, false, eq-eqb, List, [], ◌∷◌, ◌++◌, length, take, set, slice_index, sym, refl, ap, ◌∙◌, subst, ne_eqb, arith}
use Rattle.std.proofs.Math.Seq.{take-length}
use Rattle.std.specs.List.{filter}
use mathlib.Core.Logic.{dite}
use mathlib.Core.Option.{Option, none, some}
use native.Mathlib.Decide.{ℕ_discrete}
use lib.ListN.{get_elem?}
use Rattle.sock_words.specs.declared.plain.Plan.{Plan}
use Rattle.sock_words.specs.PackedWords.{socket_id_slot, IDLE}
use Rattle.sock_io.specs.declared.link.Put.{Put}
use Rattle.sock_io.specs.declared.link.Put.TheVariants.{Took, Again, Failed}
use Rattle.sock_model.specs.declared.chain.Heading.{Heading}
use Rattle.sock_model.specs.declared.chain.Right.{Right}
use Rattle.sock_model.specs.declared.chain.Stage.TheVariants as stages
use Rattle.sock_model.specs.declared.home.Home.{Home}
use Rattle.sock_model.specs.declared.view.View.{View}
use Rattle.sock_model.specs.declared.view.Hand.{Hand}
use Rattle.sock_model.specs.ChainRows.{with_right, without_right, walking_right, put_right}
use Rattle.sock_model.specs.LawfulSockets.{Lawful}
use Rattle.sock_model.specs.SocketTableLayout.{head_index, request_index}
use Rattle.sock_steps.proofs.WriteSteps.{writes_in}
use Rattle.seat_programs.specs.TableSteps.{TableStep, OnSlot, OnChain, OnPlace, OnLink, TakeLink, PutLink, LookWord, ClaimRequest, SwapHead, EmptyHead, ReadNext, ReverseNext, FreeRequest, StorePlace, DropPlace}
use Rattle.seat_programs.specs.Cores.{Core, found_at, words_after, homes_after, link_place}
use Rattle.seat_programs.specs.StepTables.{word_of, word_after}
use Rattle.seat_programs.specs.Ticks.{FitsPut}
use Rattle.seat_programs.specs.StepTables.{row, hand_at}
use Rattle.seat_programs.specs.StepViews.{by_right}
use Rattle.seat_programs.specs.StepsOfSlots.{looked_clean}
use Rattle.seat_programs.specs.StepsOfChain.{emptied}
use Rattle.seat_programs.specs.StepsOfMessages.{took_message}
use Rattle.seat_programs.specs.StepsOfLinks.{link_away, link_home_again, took_bytes}
use Rattle.sock_model.specs.SlotRows.{looked}
use Rattle.seat_programs.specs.StepTables.{May}
use Rattle.sock_runs.specs.program_steps.specs.SoundSeats.{AreInHand, AreHeld, state}
use Rattle.sock_runs.specs.program_steps.specs.Writes.{MayTakeMessage, Writes, MayPut}
use Rattle.sock_runs.specs.program_steps.proofs.Leaves.{is_exchange, lists_stay}
use Rattle.sock_runs.proofs.ChainTicks.{free_inside}
use Rattle.sock_runs.proofs.HeldLinksByRights.{held_in_hand}
use Rattle.message_events.specs.MessageModel.{Event, Nothing, Claim, Take, Place, Dropped, Becomes}
use Rattle.message_events.specs.MessageEventOfStep.{accept_event, event_of, put_event}
use Rattle.message_events.specs.MessageStanding.{Stand, taken_of, of_right, stand, messages}
use Rattle.message_events.proofs.AcceptedOrderSteps.{order_is, accepted_same, accepted_more, accept_may, message_lists, away_lists, home_lists, bytes_lists}
use Rattle.message_events.proofs.RequestWordsBehindSteps.{on_request, requests_after, claims_even, claims_odd, frees_at}
use Rattle.message_events.proofs.OtherMessageSteps.{leaves_links, stand_stays, home_else, claim_may, free_word, free_may}
use Rattle.message_events.proofs.LinkWrittenByRight.{home_of, SameHomes, same_homes, homes_set, same_stand, inside, alone, stands_by, Keeps, keeps_with, kept, became, looks_keeps, reads_keeps, turns_keeps, frees_keeps, places_makes, drops_makes, takes_keeps, away_keeps, home_keeps, puts_makes, goes_home, place_may, drop_may, dropped_part, take_may, took_more}
use Rattle.message_events.proofs.Carried.{stand_takes}
use Rattle.message_events.proofs.Home.{stand_puts}
use Rattle.message_events.proofs.Swaps.{entry, after, swap_row, swap_lists, swap_stand}

abbrev pub IsEvent : Plan → Core → List View → Event → Core → List View → Type 0
IsEvent p c views event c' views' = Becomes p (messages p c views) event (messages p c' views')

-- where nothing changes
pub no_event : (p : Plan) (c : Core) (views : List View) → IsEvent p c views Nothing c views
no_event p c views = record { may = tt; accepted = λ d. ((λ h. h), (λ h. h)); placed = λ k kl. refl; took = λ k kl. refl; request = λ r rl. refl }

module _ (p : Plan) (c : Core) (views : List View) (o : Lawful (λ (home : Home). home) p (state c views)) (i : ℕ) (v : View) (at : get_elem? views i ≡ some v) where
  module _ (c' : Core) (w : View) (lists : w.lists ≡ v.lists) where
    -- neither a message, nor a place, nor a byte, nor a request
    nothing : ((k : ℕ) → stand p c' (set views i w) k ≡ stand p c views k) → ((r : ℕ) → r < p.requests → slice_index c'.words (request_index p r) ≡ slice_index c.words (request_index p r)) → IsEvent p c views Nothing c' (set views i w)
    nothing stands requests = record {
      may = tt;
      accepted = accepted_same p c views o i v at w lists;
      placed = λ k kl. ap (λ (s : Stand). s.placed) (stands k);
      took = λ k kl. ap (λ (s : Stand). s.took) (stands k);
      request = requests;
    }

  -- ## Steps on words

  module _ (c' : Core) (in_hand : List Home) where
    abbrev found : TableStep → ℕ
    found call = found_at c.words (word_of p call)

    abbrev hand : TableStep → Hand
    hand call = hand_at p c.words c.homes call

    abbrev Behind : TableStep → Type 0
    Behind call = (c'.words ≡ words_after c.words (word_of p call) (word_after call (found call))) × (c'.homes ≡ homes_after p call in_hand c.homes)

    abbrev IsStep : TableStep → Type 0
    IsStep call = IsEvent p c views (event_of call (found call) v) c' (set views i (row p call (found call) (hand call) v))

    requests_of : (call : TableStep) → Behind call → May p v call → on_request call ≡ false → (r : ℕ) → r < p.requests → slice_index c'.words (request_index p r) ≡ slice_index c.words (request_index p r)
    requests_of call b may is r rl = ap (λ l. slice_index l (request_index p r)) b.0 ∙ requests_after p c.words r rl v call (found call) may is

    -- a step that leaves each link
    leaves : (call : TableStep) → event_of call (found call) v ≡ Nothing → Behind call → May p v call → leaves_links call ≡ true → on_request call ≡ false → is_exchange call ≡ false → IsStep call
    leaves call none_ b may links word other = subst (λ e. IsEvent p c views e c' (set views i (row p call (found call) (hand call) v))) (sym none_) (nothing c' (row p call (found call) (hand call) v) (lists_stay p v (found call) (hand call) call other)
        (stand_stays p c c' views i v at call (found call) (hand call) in_hand may links b.1) (requests_of call b may word))

    claims : (id q : ℕ) → Behind (OnChain (ClaimRequest id q)) → May p v (OnChain (ClaimRequest id q)) → IsStep (OnChain (ClaimRequest id q))
    claims id q b may = let call : TableStep = OnChain (ClaimRequest id q) in let lists = lists_stay p v (found (OnChain (ClaimRequest id q))) (hand (OnChain (ClaimRequest id q))) (OnChain (ClaimRequest id q)) refl in
        let stands = stand_stays p c c' views i v at (OnChain (ClaimRequest id q)) (found (OnChain (ClaimRequest id q))) (hand (OnChain (ClaimRequest id q))) in_hand may refl b.1 in dite (ℕ_discrete (slice_index c.words (request_index p q) % 2) 0)
        (λ even. subst (λ (e : Event). IsEvent p c views e c' (set views i (row p (OnChain (ClaimRequest id q)) (found (OnChain (ClaimRequest id q))) (hand (OnChain (ClaimRequest id q))) v))) (sym (ap (λ b. cond b (Claim q) Nothing) (eq-eqb (slice_index c.words (request_index p q) % 2) 0 even))) record {
          may = claim_may p c views q even;
          accepted = accepted_same p c views o i v at (row p (OnChain (ClaimRequest id q)) (found (OnChain (ClaimRequest id q))) (hand (OnChain (ClaimRequest id q))) v) lists;
          placed = λ k kl. ap (λ (s : Stand). s.placed) (stands k);
          took = λ k kl. ap (λ (s : Stand). s.took) (stands k);
          request = λ r rl. subst (λ l. ((r ≡ q) × (slice_index l (request_index p r) ≡ suc (slice_index c.words (request_index p q)))) ⊎ ((r ≢ q) × (slice_index l (request_index p r) ≡ slice_index c.words (request_index p r)))) (sym b.0) (claims_even p c.words o.references.sized q may.0 id even r);
        })
        (λ odd. subst (λ (e : Event). IsEvent p c views e c' (set views i (row p (OnChain (ClaimRequest id q)) (found (OnChain (ClaimRequest id q))) (hand (OnChain (ClaimRequest id q))) v))) (sym (ap (λ b. cond b (Claim q) Nothing) (ne_eqb (slice_index c.words (request_index p q) % 2) 0 odd)))
        (nothing c' (row p (OnChain (ClaimRequest id q)) (found (OnChain (ClaimRequest id q))) (hand (OnChain (ClaimRequest id q))) v) lists stands (λ r rl. ap (λ l. slice_index l (request_index p r)) b.0 ∙ claims_odd p c.words o.references.sized q may.0 id odd r)))

    swaps : (j own : ℕ) → Behind (OnChain (SwapHead j own)) → May p v (OnChain (SwapHead j own)) → IsStep (OnChain (SwapHead j own))
    swaps j own b may = let x = may.1 in let in_head : Bool = ltb (slice_index c.words (head_index j)) IDLE in
        subst (λ (w : View). IsEvent p c views (event_of (OnChain (SwapHead j own)) (found (OnChain (SwapHead j own))) v) c' (set views i w)) (sym (swap_row p c views o i v at j own x))
        (subst (λ (e : Event). IsEvent p c views e c' (set views i (after p c views o i v at j own x (ltb (slice_index c.words (head_index j)) IDLE)))) (sym (ap (accept_event (slice_index c.words (head_index j))) x.claims)) record {
          may = accept_may p c views o i v at j own may.0 x;
          accepted = accepted_more p c views o i v at (after p c views o i v at j own x in_head) (entry p c views o i v at j own x in_head) x.made x.taken_in x.lists (swap_lists p c views o i v at j own x in_head);
          placed = λ k kl. ap (λ (s : Stand). s.placed) (swap_stand p c views o i v at j own x c' b.1 k);
          took = λ k kl. ap (λ (s : Stand). s.took) (swap_stand p c views o i v at j own x c' b.1 k);
          request = requests_of (OnChain (SwapHead j own)) b may refl;
        })

    looks : (id : ℕ) → Behind (OnSlot (LookWord id)) → May p v (OnSlot (LookWord id)) → IsStep (OnSlot (LookWord id))
    looks id b may = let call : TableStep = OnSlot (LookWord id) in let lists = lists_stay p v (found (OnSlot (LookWord id))) (hand (OnSlot (LookWord id))) (OnSlot (LookWord id)) refl in
        let requests = requests_of (OnSlot (LookWord id)) b may refl in let w : View = row p (OnSlot (LookWord id)) (found (OnSlot (LookWord id))) (hand (OnSlot (LookWord id))) v in ⊎_elim
        (λ idle. nothing c' w lists (λ k. same_stand p c views o i v at c' w
        (ap (λ rs. (by_right rs (looked_clean (socket_id_slot id) (found (OnSlot (LookWord id))) v) (looked (socket_id_slot id) (found (OnSlot (LookWord id))) v)).rights) idle)
        (ap (λ rs. (by_right rs (looked_clean (socket_id_slot id) (found (OnSlot (LookWord id))) v) (looked (socket_id_slot id) (found (OnSlot (LookWord id))) v)).hands) idle)
        k (ap (λ hs. home_of p (record c { homes = hs }) k) b.1)) requests)
        (λ mine. nothing c' w lists (kept p c views o i v at mine.0 mine.1 c' w (looks_keeps p c views o i v at mine.0 mine.1 id (found (OnSlot (LookWord id))) (hand (OnSlot (LookWord id)))) (same_homes p c c' mine.0.link b.1)) requests)
        may.1

    other_step : (call : TableStep) → is_exchange call ≡ false → (row p call (found call) (hand call) v).lists ≡ v.lists
    other_step call other = lists_stay p v (found call) (hand call) call other

    -- a step that leaves what the right tells
    keeps_right : (call : TableStep) → event_of call (found call) v ≡ Nothing → Behind call → May p v call → on_request call ≡ false → homes_after p call in_hand c.homes ≡ c.homes → is_exchange call ≡ false → (r : Right) (one : v.rights ≡ r ∷ [])
        → Keeps p c views o i v at r one (row p call (found call) (hand call) v) (of_right r) → IsStep call
    keeps_right call none_ b may word homes other r one k = subst (λ e. IsEvent p c views e c' (set views i (row p call (found call) (hand call) v))) (sym none_) (nothing c' (row p call (found call) (hand call) v) (other_step call other)
        (kept p c views o i v at r one c' (row p call (found call) (hand call) v) k (same_homes p c c' r.link (b.1 ∙ homes))) (requests_of call b may word))

    empties : (j last : ℕ) → Behind (OnChain (EmptyHead j last)) → May p v (OnChain (EmptyHead j last)) → IsStep (OnChain (EmptyHead j last))
    empties j last b may = let x = may.1.0 in let r : Right = x.mine.right in let one = may.1.1 in let requests = requests_of (OnChain (EmptyHead j last)) b may refl in
        let lists = other_step (OnChain (EmptyHead j last)) refl in let w : View = row p (OnChain (EmptyHead j last)) (found (OnChain (EmptyHead j last))) (hand (OnChain (EmptyHead j last))) v in
        let is : row p (OnChain (EmptyHead j last)) (found (OnChain (EmptyHead j last))) (hand (OnChain (EmptyHead j last))) v ≡ emptied last (found (OnChain (EmptyHead j last))) v x.mine.right = ap (λ rs. by_right rs (emptied last (found (OnChain (EmptyHead j last))) v) v) one in
        let stands : (b : Bool) → eqb (found (OnChain (EmptyHead j last))) last ≡ b → (k : ℕ) → stand p c' (set views i (row p (OnChain (EmptyHead j last)) (found (OnChain (EmptyHead j last))) (hand (OnChain (EmptyHead j last))) v)) k ≡ stand p c views k = λ b' e k.
        subst (λ (u : View). stand p c' (set views i u) k ≡ stand p c views k) (sym (is ∙ ap (λ q. cond q (without_right v x.mine.right.link) (with_right v (walking_right x.mine.right (found (OnChain (EmptyHead j last)))))) e)) (ends b' x.mine.right one x.stage x.link_home b.1 k) in
        nothing c' (row p (OnChain (EmptyHead j last)) (found (OnChain (EmptyHead j last))) (hand (OnChain (EmptyHead j last))) v) lists (stands (eqb (found (OnChain (EmptyHead j last))) last) refl) requests
      where
        ends : (q : Bool) (r : Right) (one : v.rights ≡ r ∷ []) → r.stage ≡ stages.Empties → r.at_home ≡ true → c'.homes ≡ c.homes → (k : ℕ)
            → stand p c' (set views i (cond q (without_right v r.link) (with_right v (walking_right r (found (OnChain (EmptyHead j last))))))) k ≡ stand p c views k
        ends true r one stage home homes k = goes_home p c views o i v at r one c' (without_right v r.link) stage home
            (ap (filter (λ (x : Right). not (eqb x.link r.link))) one ∙ ap (λ b. cond (not b) (r ∷ []) []) (eq-eqb r.link r.link refl)) refl homes k
        ends false r one stage home homes k = kept p c views o i v at r one c' (with_right v (walking_right r (found (OnChain (EmptyHead j last)))))
            (keeps_with p c views o i v at r one v (walking_right r (found (OnChain (EmptyHead j last)))) (of_right r) one refl refl refl) (same_homes p c c' r.link homes) k

    reads : (q : ℕ) → Behind (OnChain (ReadNext q)) → May p v (OnChain (ReadNext q)) → IsStep (OnChain (ReadNext q))
    reads q b may = keeps_right (OnChain (ReadNext q)) refl b may refl refl refl may.0 may.1
        (reads_keeps p c views o i v at may.0 may.1 q (found (OnChain (ReadNext q))) (hand (OnChain (ReadNext q))) (⊎_elim (λ a. inl (a.0, a.1)) (λ a. inr (a.0, a.1, a.2, a.3)) may.2))

    turns : (q value : ℕ) → Behind (OnChain (ReverseNext q value)) → May p v (OnChain (ReverseNext q value)) → IsStep (OnChain (ReverseNext q value))
    turns q value b may = let x = may.0 in keeps_right (OnChain (ReverseNext q value)) refl b may refl refl refl x.mine.right may.1
        (turns_keeps p c views o i v at x.mine.right may.1 q value (found (OnChain (ReverseNext q value))) x.top x.at x.before (hand (OnChain (ReverseNext q value))) x.stage)

    frees : (q g : ℕ) → q < p.requests → Behind (OnChain (FreeRequest q g)) → May p v (OnChain (FreeRequest q g)) → IsStep (OnChain (FreeRequest q g))
    frees q g inside b may = let r : Right = may.4.0 in let one = may.4.1 in
        let stands = kept p c views o i v at may.4.0 one c' (row p (OnChain (FreeRequest q g)) (found (OnChain (FreeRequest q g))) (hand (OnChain (FreeRequest q g))) v) (frees_keeps p c views o i v at may.4.0 one q g (found (OnChain (FreeRequest q g))) (hand (OnChain (FreeRequest q g)))) (same_homes p c c' may.4.0.link b.1) in record {
          may = free_may p c views o i v at (λ k. order_is p c views o i v at k) q g may;
          accepted = accepted_same p c views o i v at (row p (OnChain (FreeRequest q g)) (found (OnChain (FreeRequest q g))) (hand (OnChain (FreeRequest q g))) v) (other_step (OnChain (FreeRequest q g)) refl);
          placed = λ k kl. ap (λ (s : Stand). s.placed) (stands k);
          took = λ k kl. ap (λ (s : Stand). s.took) (stands k);
          request = λ r rl. subst (λ l. ((r ≡ q) × (slice_index l (request_index p r) ≡ suc (slice_index c.words (request_index p q)))) ⊎ ((r ≢ q) × (slice_index l (request_index p r) ≡ slice_index c.words (request_index p r)))) (sym b.0)
              (frees_at p c.words o.references.sized q inside g (free_word p c views o i v at q g may) r);
        }

    -- one more message has its place
    module _ (r : Right) (one : v.rights ≡ r ∷ []) (w : View) (t : List ℕ) (k : Keeps p c views o i v at r one w (record { placed = suc r.places; took = t })) (same : t ≡ taken_of r) (homes : SameHomes p c c' r.link) where
      stood : (j : ℕ) → ((j ≡ r.link) × (stand p c' (set views i w) j ≡ record { placed = suc r.places; took = t })) ⊎ ((j ≢ r.link) × (stand p c' (set views i w) j ≡ stand p c views j))
      stood = became p c views o i v at r one c' w (record { placed = suc r.places; took = t }) k homes

      own : stand p c views r.link ≡ of_right r
      own = stands_by p c views o i v at r one

      more_placed : (j : ℕ) → ((j ≡ r.link) × ((stand p c' (set views i w) j).placed ≡ suc (stand p c views r.link).placed)) ⊎ ((j ≢ r.link) × ((stand p c' (set views i w) j).placed ≡ (stand p c views j).placed))
      more_placed j = ⊎_elim
          (λ a. inl (a.0, ap (λ (s : Stand). s.placed) a.1 ∙ ap suc (sym (ap (λ (s : Stand). s.placed) own))))
          (λ a. inr (a.0, ap (λ (s : Stand). s.placed) a.1))
          (stood j)

      as_taken : (j : ℕ) → (stand p c' (set views i w) j).took ≡ (stand p c views j).took
      as_taken j = ⊎_elim
          (λ a. ap (λ (s : Stand). s.took) a.1 ∙ (same ∙ (sym (ap (λ (s : Stand). s.took) own) ∙ ap (λ l. (stand p c views l).took) (sym a.0))))
          (λ a. ap (λ (s : Stand). s.took) a.1)
          (stood j)

    whole_taken : (r : Right) → r.taken ≡ true → r.put ≡ length r.bytes → r.sent ++ r.bytes ≡ taken_of r
    whole_taken r taken put = sym (ap (λ b. cond b (r.sent ++ take r.put r.bytes) r.sent) taken ∙ ap (λ l. r.sent ++ l) (ap (λ n. take n r.bytes) put ∙ take-length r.bytes))

    places : (l k n : ℕ) → Behind (OnPlace (StorePlace l k n)) → May p v (OnPlace (StorePlace l k n)) → IsStep (OnPlace (StorePlace l k n))
    places l k n b may = let x = may.0 in let r : Right = x.mine.right in let one = may.1 in let w : View = row p (OnPlace (StorePlace l k n)) (found (OnPlace (StorePlace l k n))) (hand (OnPlace (StorePlace l k n))) v in
        let makes = places_makes p c views o i v at x.mine.right one l k n (found (OnPlace (StorePlace l k n))) x.now (hand (OnPlace (StorePlace l k n))) x.stage in
        let same = whole_taken x.mine.right x.taken may.5 in let homes = same_homes p c c' x.mine.right.link b.1 in
        subst (λ (z : ℕ). IsEvent p c views (Place z) c' (set views i (row p (OnPlace (StorePlace l k n)) (found (OnPlace (StorePlace l k n))) (hand (OnPlace (StorePlace l k n))) v))) (sym may.3) record {
          may = place_may p c views o i v at x.mine.right one (λ k. order_is p c views o i v at k) x.now x.stage x.taken x.is_clean may.5;
          accepted = accepted_same p c views o i v at (row p (OnPlace (StorePlace l k n)) (found (OnPlace (StorePlace l k n))) (hand (OnPlace (StorePlace l k n))) v) (other_step (OnPlace (StorePlace l k n)) refl);
          placed = λ j jl. more_placed x.mine.right one (row p (OnPlace (StorePlace l k n)) (found (OnPlace (StorePlace l k n))) (hand (OnPlace (StorePlace l k n))) v) (x.mine.right.sent ++ x.mine.right.bytes) makes same homes j;
          took = λ j jl. as_taken x.mine.right one (row p (OnPlace (StorePlace l k n)) (found (OnPlace (StorePlace l k n))) (hand (OnPlace (StorePlace l k n))) v) (x.mine.right.sent ++ x.mine.right.bytes) makes same homes j;
          request = requests_of (OnPlace (StorePlace l k n)) b may refl;
        }

    drops : (l k n : ℕ) → Behind (OnPlace (DropPlace l k n)) → May p v (OnPlace (DropPlace l k n)) → IsStep (OnPlace (DropPlace l k n))
    drops l k n b may = let x = may.0 in let one = may.1 in let makes = drops_makes p c views o i v at x.mine.right one l k n (found (OnPlace (DropPlace l k n))) x.now (hand (OnPlace (DropPlace l k n))) x.stage in
        let same : x.mine.right.sent ++ take x.mine.right.put x.mine.right.bytes ≡ taken_of x.mine.right = sym (ap (λ b. cond b (x.mine.right.sent ++ take x.mine.right.put x.mine.right.bytes) x.mine.right.sent) x.taken) in
        let homes = same_homes p c c' x.mine.right.link b.1 in let orders = λ (k : ℕ). order_is p c views o i v at k in
        subst (λ (z : ℕ). IsEvent p c views (Dropped z) c' (set views i (row p (OnPlace (DropPlace l k n)) (found (OnPlace (DropPlace l k n))) (hand (OnPlace (DropPlace l k n))) v))) (sym may.3) record {
          may = drop_may p c views o i v at x.mine.right one orders x.now x.stage x.taken (dropped_part p c views o i v at x.mine.right one orders x.now x.stage x.sent x.taken may.5 x.part);
          accepted = accepted_same p c views o i v at (row p (OnPlace (DropPlace l k n)) (found (OnPlace (DropPlace l k n))) (hand (OnPlace (DropPlace l k n))) v) (other_step (OnPlace (DropPlace l k n)) refl);
          placed = λ j jl. more_placed x.mine.right one (row p (OnPlace (DropPlace l k n)) (found (OnPlace (DropPlace l k n))) (hand (OnPlace (DropPlace l k n))) v) (x.mine.right.sent ++ take x.mine.right.put x.mine.right.bytes) makes same homes j;
          took = λ j jl. as_taken x.mine.right one (row p (OnPlace (DropPlace l k n)) (found (OnPlace (DropPlace l k n))) (hand (OnPlace (DropPlace l k n))) v) (x.mine.right.sent ++ take x.mine.right.put x.mine.right.bytes) makes same homes j;
          request = requests_of (OnPlace (DropPlace l k n)) b may refl;
        }

    takes_link : (k : ℕ) → Behind (OnLink (TakeLink k)) → May p v (OnLink (TakeLink k)) → IsStep (OnLink (TakeLink k))
    takes_link k b may = nothing c' (row p (OnLink (TakeLink k)) (found (OnLink (TakeLink k))) (hand (OnLink (TakeLink k))) v) (other_step (OnLink (TakeLink k)) refl)
        (stand_takes p c views o i v at k may c' b.1) (requests_of (OnLink (TakeLink k)) b may refl)

    puts_link : (k : ℕ) → AreInHand in_hand v.hands → length c.homes ≡ p.requests + p.links → Behind (OnLink (PutLink k)) → May p v (OnLink (PutLink k)) → IsStep (OnLink (PutLink k))
    puts_link k are sized b may = let k_in = may.0 in nothing c' (row p (OnLink (PutLink k)) (found (OnLink (PutLink k))) (hand (OnLink (PutLink k))) v) (other_step (OnLink (PutLink k)) refl)
        (stand_puts p c views o i v at k in_hand are may.1 c' b.1 (omega (arith, sized, k_in))) (requests_of (OnLink (PutLink k)) b may refl)

    -- each step is one event or none
    pub each_call : (call : TableStep) → AreHeld in_hand v.rights v.hands → length c.homes ≡ p.requests + p.links → Behind call → May p v call → IsStep call
    each_call (OnLink (TakeLink k)) held sized b may = takes_link k b may
    each_call (OnLink (PutLink k)) held sized b may = puts_link k (held_in_hand in_hand v.rights v.hands may.2 held) sized b may
    each_call (OnSlot (LookWord id)) held sized b may = looks id b may
    each_call (OnChain (ClaimRequest id q)) held sized b may = claims id q b may
    each_call (OnChain (SwapHead j own)) held sized b may = swaps j own b may
    each_call (OnChain (EmptyHead j last)) held sized b may = empties j last b may
    each_call (OnChain (ReadNext q)) held sized b may = reads q b may
    each_call (OnChain (ReverseNext q value)) held sized b may = turns q value b may
    each_call (OnChain (FreeRequest q g)) held sized b may = frees q g (free_inside p (state c views) o i v at q g may) b may
    each_call (OnPlace (StorePlace l k n)) held sized b may = places l k n b may
    each_call (OnPlace (DropPlace l k n)) held sized b may = drops l k n b may
    each_call call held sized b may = leaves call refl b may refl refl refl

  -- ## Moves and puts

  module _ (c' : Core) (words : c'.words ≡ c.words) where
    same_requests : (r : ℕ) → r < p.requests → slice_index c'.words (request_index p r) ≡ slice_index c.words (request_index p r)
    same_requests r rl = ap (λ l. slice_index l (request_index p r)) words

    moves : (r : Right) (one : v.rights ≡ r ∷ []) (w : View) → w.lists ≡ v.lists → Keeps p c views o i v at r one w (of_right r) → SameHomes p c c' r.link → IsEvent p c views Nothing c' (set views i w)
    moves r one w lists k homes = nothing c' w lists (kept p c views o i v at r one c' w k homes) same_requests

    pub takes_letter : (q : ℕ) (heading : Heading) (bytes : List ℕ) → c'.homes ≡ set c.homes q none → MayTakeMessage v q → IsEvent p c views Nothing c' (set views i (took_message heading bytes v))
    takes_letter q heading bytes homes may = let r : Right = may.0 in let one = may.2 in
        let low = writes_in (λ (home : Home). home) p i 0 may.1 v may.0 (state c views) o at (ap (λ (l : List Right). get_elem? l 0) one) may.3 in
        moves may.0 one (took_message heading bytes v) (message_lists heading bytes v) (takes_keeps p c views o i v at may.0 one heading bytes may.4)
        (λ k ne. ap (λ hs. home_of p (record c { homes = hs }) k) homes ∙ home_else p c.homes q k none (let is = may.5 in λ e. omega (arith, low, is, e)))

    pub goes_away : (k : ℕ) (r : Right) → c'.homes ≡ set c.homes (link_place p k) none → Writes v k true r → IsEvent p c views Nothing c' (set views i (link_away v))
    goes_away k r homes mine = moves r mine.0 (link_away v) (away_lists v) (away_keeps p c views o i v at r mine.0) (subst (SameHomes p c c') (sym mine.1) (homes_set p c c' k none homes))

    pub comes_home : (k : ℕ) (r : Right) (x : Option Home) → c'.homes ≡ set c.homes (link_place p k) x → Writes v k false r → IsEvent p c views Nothing c' (set views i (link_home_again v))
    comes_home k r x homes mine = moves r mine.0 (link_home_again v) (home_lists v) (home_keeps p c views o i v at r mine.0) (subst (SameHomes p c c') (sym mine.1) (homes_set p c c' k x homes))

    still : c'.homes ≡ c.homes → IsEvent p c views Nothing c' (set views i v)
    still homes = nothing c' v refl (λ k. same_stand p c views o i v at c' v refl refl k (ap (λ hs. home_of p (record c { homes = hs }) k) homes)) same_requests

    pub takes_bytes : (k : ℕ) (asked : Bool) (bytes : List ℕ) (answer : Put) → c'.homes ≡ c.homes → MayPut v k bytes → FitsPut asked bytes answer → IsEvent p c views (put_event k bytes answer) c' (set views i (took_bytes answer v))
    takes_bytes k asked bytes Again homes may fits = still homes
    takes_bytes k asked bytes Failed homes may fits = still homes
    takes_bytes k asked bytes (Took n) homes may fits = let r : Right = may.0 in let one = may.1.0 in
        let stage = o.messages.taken_writes may.0.link may.0 (inside p c views o i v at may.0 one) (alone p c views o i v at may.0 one) may.2 in
        let own = stands_by p c views o i v at may.0 one in
        let stood = became p c views o i v at may.0 one c' (took_bytes (Took n) v) (of_right (put_right may.0 n)) (puts_makes p c views o i v at may.0 one n) (same_homes p c c' may.0.link homes) in subst (λ (z : ℕ). IsEvent p c views (Take z (take n bytes)) c' (set views i (took_bytes (Took n) v))) may.1.1 record {
          may = take_may p c views o i v at may.0 one (λ k. order_is p c views o i v at k) stage.0 stage.1 n bytes may.5.0 may.2 may.3 may.5.1 fits.0 fits.1;
          accepted = accepted_same p c views o i v at (took_bytes (Took n) v) (bytes_lists (Took n) v);
          placed = λ j jl. ⊎_elim
              (λ a. ap (λ (s : Stand). s.placed) a.1 ∙ (sym (ap (λ (s : Stand). s.placed) own) ∙ ap (λ l. (stand p c views l).placed) (sym a.0)))
              (λ a. ap (λ (s : Stand). s.placed) a.1) (stood j);
          took = λ j jl. ⊎_elim
              (λ a. inl (a.0, ap (λ (s : Stand). s.took) a.1 ∙ (took_more p c views o i v at may.0 one n bytes may.5.0 may.2 may.5.1 fits.1 ∙ ap (λ l. l ++ take n bytes) (sym (ap (λ (s : Stand). s.took) own)))))
              (λ a. inr (a.0, ap (λ (s : Stand). s.took) a.1)) (stood j);
          request = same_requests;
        }
