-- Steps of whoever sends a message, and of whoever writes a link, keep the rule.
use Rattle.std.proofs.Common.{◌≡◌, ◌≢◌, ℕ, suc, ◌+◌, ◌-◌, ◌*◌, ◌%◌, ◌/◌, ◌<◌, ◌≤◌, ◌==◌, ◌&&◌, ⊎_elim, eqb, eq-eqb, ne_eqb, lt-ltb, le-ltb, not, cond, Bool, true, false, List, [], ◌∷◌, length, get_or, set, refl, sym, ap, ◌∙◌, subst, arith}
use Rattle.std.specs.List.{filter}
use mathlib.Core.Logic.{dite}
use mathlib.Core.Option.{some}
use native.Mathlib.Decide.{ℕ_discrete, dec_le}
use lib.ListN.{get_elem?}
use lib.Seq.{set-get_or}
use Rattle.atomic_table.specs.Table.{State}
use Rattle.sock_words.specs.PackedWords.{socket_id_version, socket_id_slot, vref_version, ticket_request, ticket_generation, place_word, IDLE, UNCONNECTED}
use Rattle.sock_words.specs.declared.plain.Plan.{Plan}
use Rattle.sock_model.specs.declared.chain.Claim.{Claim}
use Rattle.sock_model.specs.declared.chain.Heading.{Heading}
use Rattle.sock_model.specs.declared.chain.Right.{Right}
use Rattle.sock_model.specs.declared.chain.Stage.{Stage}
use Rattle.sock_model.specs.declared.chain.Stage.TheVariants.{Writes, Placed, Passes, Empties, Reversing, ReversesNext}
use Rattle.sock_model.specs.declared.home.Home.{Home}
use Rattle.sock_model.specs.declared.home.Home.TheVariants.{Message}
use Rattle.sock_model.specs.declared.view.View.{View}
use Rattle.sock_model.specs.declared.view.Hand.{Hand}
use Rattle.sock_model.specs.MarkWeights.{is_hold, is_met, is_saw, is_linked}
use Rattle.sock_model.specs.SocketTableLayout.{ref_index, link_index, head_index, code_index, request_index, next_index, place_index}
use Rattle.sock_model.specs.Entries.{ticket, on, nth}
use Rattle.sock_model.specs.LinkWritingState.{Held, InStage, OnWalk}
use Rattle.sock_model.specs.SocketSlotLaw.{count}
use Rattle.sock_model.specs.SlotRows.{marks_of, looked, told_code, met_link}
use Rattle.sock_model.specs.References.{slot_facts}
use Rattle.sock_model.specs.LinksInSlots.{Given, Failed}
use Rattle.sock_model.specs.ChainStepConditions.{HasRight, MayExchange}
use Rattle.sock_model.specs.ChainLawReads.{memory, tokens, link_home}
use Rattle.sock_model.specs.ChainRows.{with_claim, with_right, without_right, queued, righted, new_right, turned_right, placed_right, dropped_right, ready_claim, filled_claim}
use Rattle.sock_model.specs.LawfulSockets.{Lawful}
use Rattle.sock_steps.specs.slot_steps.proofs.RuleNumbers.{life-in}
use Rattle.sock_steps.specs.chain_steps.proofs.TicketLists.{at_length, at_some, ticket_at_is}
use Rattle.sock_steps.specs.chain_steps.proofs.UntouchedByChainSteps.{in_size}
use Rattle.sock_steps.specs.chain_steps.proofs.ChainHeadSteps.{held_of, slot_is}
use Rattle.sock_steps.specs.chain_steps.proofs.Nexts.{turn_slot}
use Rattle.sock_steps.specs.chain_steps.proofs.Frees.{Leads, to_end, to_next, now_small}
use Rattle.sock_steps.proofs.Maps.{set_at, set_twice}
use Rattle.sock_steps.proofs.LifeLinkSlotPlaces.{own_count, holder_lives}
use Rattle.sock_steps.proofs.SlotSteps.{look_law, meet_law, found_code_law, idle_law}
use Rattle.sock_steps.proofs.LinkSteps.{clean_look_law}
use Rattle.sock_steps.proofs.ClaimSteps.{claiming_law, connecting_law, readying_law, filling_law, claim_alone}
use Rattle.sock_steps.proofs.AcceptSteps.{queued_law, righted_law}
use Rattle.sock_steps.proofs.WalkSteps.{passing_law, reading_law, emptied_law, walking_law, turning_law}
use Rattle.sock_steps.proofs.WriteSteps.{freeing_law, retiring_law, placing_law, dropping_law}
use Rattle.sock_steps.proofs.RightSteps.{right_in, right_alone}
use Rattle.seat_programs.specs.TableSteps.{TableStep, OnSlot, OnChain, OnPlace, OnMessage, LookWord, FindLink, LoadCode, ClaimRequest, PutMessage, Unconnect, SwapHead, Connect, EmptyHead, ReadNext, ReverseNext, FreeRequest, StorePlace, DropPlace, ClaimSlot, OnName, LoadName}
use Rattle.seat_programs.specs.StepTables.{table_word, word_after}
use Rattle.program_steps.proofs.WordFrame.{AreIn, low_word}
use Rattle.seat_programs.specs.Cores.{homes_after}
use Rattle.seat_programs.specs.Programs.{LAST_GENERATION}
use Rattle.seat_programs.specs.StepTables.{row, hand_at}
use Rattle.seat_programs.specs.StepsOfLinks.{as_hand}
use Rattle.seat_programs.specs.StepViews.{by_claim, by_right, settled_stage, settled}
use Rattle.seat_programs.specs.StepsOfChain.{new_claim, exchanged, emptied, read_next, turned_next, freed_stage, freed_next}
use Rattle.seat_programs.specs.StepsOfSlots.{looked_clean}
use Rattle.seat_programs.specs.StepsOfPlaces.{placed_next, dropped_next}
use Rattle.seat_programs.specs.StepTables.{May}
use Rattle.seat_programs.specs.StepViews.{HoldsLife}
use Rattle.seat_programs.specs.StepsOfPlaces.{FoundFailed}
use Rattle.program_steps.proofs.SlotWordBounds.{law, lives_le, fits}
use Rattle.sock_runs.proofs.SlotTicks.{KeepsWord}

-- ## The one right of a seat

module _ (v : View) (r : Right) (one : v.rights ≡ r ∷ []) where
  abbrev pub has_one : HasRight v
  has_one = record { right = r; place = 0; has = ap (λ l. get_elem? l 0) one }

  -- whatever it becomes is the one right again
  pub stays_one : (r' : Right) → r'.link ≡ r.link → with_right v r' ≡ record v { rights = r' ∷ [] }
  stays_one r' same = ap (λ (l : List Right). record v { rights = r' ∷ l }) (ap (filter (λ (x : Right). not (eqb x.link r'.link))) one ∙ ap (λ b. cond (not b) (r ∷ []) []) (eq-eqb r.link r'.link (sym same)))

  pub twice_one : (r' r'' : Right) → r'.link ≡ r.link → r''.link ≡ r.link → with_right (with_right v r') r'' ≡ with_right v r''
  twice_one r' r'' a b = ap (λ (w : View). with_right w r'') (stays_one r' a)
      ∙ (ap (λ (l : List Right). record v { rights = r'' ∷ l }) (ap (λ b. cond (not b) (r' ∷ []) []) (eq-eqb r'.link r''.link (a ∙ sym b))) ∙ sym (stays_one r'' b))

-- the link of a life that a seat holds stands in the slot
module _ (p : Plan) (s : State Home View) (o : Lawful (λ home. home) p s) (i : ℕ) (v : View) (at : get_elem? s.views i ≡ some v) (j h : ℕ) (holds : HoldsLife p v j h) where
  held_link_given : Given p s j h (get_or s.words (link_index j) 0)
  held_link_given = let l = law p s o.references j holds.0 in let here = l.held h (let a = holds.1 in omega (arith, own_count s i v at (is_hold h) j)) in
      let le = lives_le p s o.references j holds.0 in let here₀ = here.0 in let here₁ = here.1 in
      dite (ℕ_discrete h (slot_facts s j).version)
      (λ e. record { inside = holds.0; given = subst (λ z. 0 < count (is_linked z (get_or s.words (link_index j) 0)) (slot_facts s j)) (sym e) (l.link_live (omega arith)) })
      (λ ne. let odd : h + 1 ≡ (slot_facts s j).version = omega arith in let before : (slot_facts s j).version - 1 ≡ h = omega arith in
      record { inside = holds.0; given = subst (λ z. 0 < count (is_linked z (get_or s.words (link_index j) 0)) (slot_facts s j)) before (l.link_odd (omega arith)) })

  pub held_link_in : get_or s.words (link_index j) 0 < p.links
  held_link_in = o.in_slots.small j h (get_or s.words (link_index j) 0) held_link_given

  pub held_link_is : (k : ℕ) → 0 < marks_of (is_met h k) j v → get_or s.words (link_index j) 0 ≡ k
  held_link_is k met = let l = law p s o.references j holds.0 in let here = l.held h (let a = holds.1 in omega (arith, own_count s i v at (is_hold h) j)) in let here₀ = here.0 in
      l.link_is h k (l.met h k (omega (arith, own_count s i v at (is_met h k) j))) (omega arith)

module _ (p : Plan) (s : State Home View) (o : Lawful (λ home. home) p s) (i : ℕ) (v : View) (at : get_elem? s.views i ≡ some v) where
  abbrev With : List ℕ → View → Type 0
  With ws w = Lawful (λ home. home) p record { words = ws; homes = s.homes; views = set s.views i w }

  still_words : (x : ℕ) (w : View) → With s.words w → With (set s.words x (get_or s.words x 0)) w
  still_words x w l = subst (λ ws. With ws w) (sym (set-get_or s.words x 0)) l

  -- the life of a link whose life the seat found failed was failed
  failed_life : (k : ℕ) → FoundFailed p v k → Failed p s k
  failed_life k f = let j : ℕ = f.0 in let h : ℕ = f.1 in let held = f.2.held in let l = law p s o.references j f.2.inside in
      let life = holder_lives p s o.references i v j h k at f.2 in
      let seen = l.saw (h + 1) (let a = f.3 in omega (arith, own_count s i v at (is_saw (h + 1)) j)) in let here = l.held h (omega (arith, own_count s i v at (is_hold h) j)) in let even = here.1 in
      let first = l.link_begun h k life.life.given in
      record { slot = j; version = h; life = life.life; failed = omega (arith, l.failed h, life-in p.first h (slot_facts s j).version first (omega arith) even) }

  -- ## Slots

  pub looks : (id : ℕ) → May p v (OnSlot (LookWord id)) → KeepsWord p s i v (OnSlot (LookWord id))
  looks id may = let j : ℕ = socket_id_slot id in let h : ℕ = socket_id_version id in let found : ℕ = get_or s.words (ref_index j) 0 in let inside = may.0 in
      let plain : With (set s.words (ref_index j) found) (looked j found v) = look_law (λ home. home) p s o i v at j inside (fits p s o.references j inside) in
      ⊎_elim
      (λ none_. subst (λ rs. With (set s.words (ref_index j) found) (by_right rs (looked_clean j found v) (looked j found v))) (sym none_) plain)
      (λ mine. let r : Right = mine.0 in subst (λ rs. With (set s.words (ref_index j) found) (by_right rs (looked_clean j found v) (looked j found v))) (sym mine.1)
      (dite (ℕ_discrete (vref_version found % 2) 0)
      (λ even. subst (λ b. With (set s.words (ref_index j) found) (cond b (with_right (looked j found v) (record r { clean = true })) (looked j found v))) (sym (eq-eqb (vref_version found % 2) 0 even))
      (clean_look_law (λ home. home) p s o i v at (has_one v r mine.1) j h mine.2 (fits p s o.references j inside) even))
      (λ odd. subst (λ b. With (set s.words (ref_index j) found) (cond b (with_right (looked j found v) (record r { clean = true })) (looked j found v))) (sym (ne_eqb (vref_version found % 2) 0 odd)) plain)))
      may.1

  pub finds_link : (j h : ℕ) → May p v (OnSlot (FindLink j h)) → KeepsWord p s i v (OnSlot (FindLink j h))
  finds_link j h may = meet_law (λ home. home) p s o i v at j may.0 h may.1

  pub loads_code : (j h : ℕ) → May p v (OnSlot (LoadCode j h)) → KeepsWord p s i v (OnSlot (LoadCode j h))
  loads_code j h may = let found : ℕ = get_or s.words (code_index j) 0 in let P : Bool → Type 0 = λ b. With (set s.words (code_index j) found) (cond b v (told_code j h found v)) in
      dite (ℕ_discrete found 0)
      (λ none_. subst P (sym (eq-eqb found 0 none_)) (idle_law (λ home. home) p s o i v at (code_index j)))
      (λ some_. subst P (sym (ne_eqb found 0 some_)) (found_code_law (λ home. home) p s o i v at j may.0 h may.1 (omega arith)))

  -- ## Whoever sends

  pub claims_request : (id q : ℕ) → May p v (OnChain (ClaimRequest id q)) → KeepsWord p s i v (OnChain (ClaimRequest id q))
  claims_request id q may = let j : ℕ = socket_id_slot id in let h : ℕ = socket_id_version id in let k : ℕ = get_or s.words (link_index j) 0 in let found : ℕ = get_or s.words (request_index p q) 0 in
      let w : View = met_link j h k v in let c : Claim = new_claim k q found in
      let P : Bool → Type 0 = λ b. With (set s.words (request_index p q) (cond b (found + 1) found)) (cond b (with_claim w c) v) in
      dite (ℕ_discrete (found % 2) 0)
      (λ even. let met : Lawful (λ home. home) p record { words = s.words; homes = s.homes; views = set s.views i w } = subst (λ ws. With ws w) (set-get_or s.words (link_index j) 0) (meet_law (λ home. home) p s o i v at j may.1.0 h may.1.1) in
      let g : ℕ = found / 2 in let word : found ≡ 2 * (found / 2) = omega (arith, even) in
      let claimed = claiming_law (λ home. home) p i q (found / 2) w c record { words = s.words; homes = s.homes; views = set s.views i w } met (set_at s.views i w (at_length s.views i v at)) may.0 may.2 refl refl refl refl word in
      let is : 2 * (found / 2) + 1 ≡ found + 1 = omega (arith, even) in
      subst P (sym (eq-eqb (found % 2) 0 even))
      (subst (λ n. With (set s.words (request_index p q) n) (with_claim w c)) is
      (subst (λ vs. Lawful (λ home. home) p record { words = set s.words (request_index p q) (2 * (found / 2) + 1); homes = s.homes; views = vs }) (set_twice s.views i w (with_claim w c)) claimed)))
      (λ odd. subst P (sym (ne_eqb (found % 2) 0 odd)) (idle_law (λ home. home) p s o i v at (request_index p q)))

  pub puts_message : (hand : List Home) (q : ℕ) (heading : Heading) (bytes : List ℕ) → q < length s.homes → May p v (OnMessage (PutMessage q heading bytes))
      → Lawful (λ home. home) p record { words = s.words; homes = homes_after p (OnMessage (PutMessage q heading bytes)) hand s.homes; views = set s.views i (row p (OnMessage (PutMessage q heading bytes)) 0 (hand_at p s.words s.homes (OnMessage (PutMessage q heading bytes))) v) }
  puts_message hand q heading bytes long may = let c : Claim = may.1.0 in
      subst (λ cs. Lawful (λ home. home) p record { words = s.words; homes = set s.homes q (some (Message heading bytes)); views = set s.views i (by_claim cs (λ c. with_claim v (filled_claim c heading bytes)) v) }) (sym may.1.1)
      (filling_law o i q v c (filled_claim c heading bytes) at may.0 may.1.1 may.1.2 may.1.2 (Message heading bytes) refl long refl refl)

  pub unconnects : (q : ℕ) → May p v (OnChain (Unconnect q)) → KeepsWord p s i v (OnChain (Unconnect q))
  unconnects q may = let c : Claim = may.1.0 in let alone = claim_alone o i q v c (ready_claim c) at may.0 may.1.1 may.1.2 may.1.2 in
      subst (λ cs. With (set s.words (next_index p q) UNCONNECTED) (by_claim cs (λ c. with_claim v (ready_claim c)) v)) (sym may.1.1)
      (readying_law o i q v c (ready_claim c) at may.0 may.1.1 may.1.2 may.1.2 refl (λ filled. o.messages.claimed q c may.0 alone filled))

  pub swaps_head : (j own : ℕ) → May p v (OnChain (SwapHead j own)) → KeepsWord p s i v (OnChain (SwapHead j own))
  swaps_head j own may = let x = may.1 in let c : Claim = x.claim in let found : ℕ = get_or s.words (head_index j) 0 in let hand : Hand = hand_at p s.words s.homes (OnChain (SwapHead j own)) in
      let P : Bool → Type 0 = λ b. With (set s.words (head_index j) own) (cond b (queued v c found) (righted v c found hand.took hand.next)) in
      subst (λ cs. With (set s.words (head_index j) own) (by_claim cs (exchanged found hand v) v)) (sym x.claims)
      (dite (dec_le IDLE found)
      (λ idle. subst P (sym (le-ltb found IDLE idle)) (becomes_right x idle))
      (λ busy. let low : found < IDLE = omega arith in subst P (sym (lt-ltb found IDLE low)) (queued_law (λ home. home) p s o i j own v at x low)))
    where
      hand_is : (k : ℕ) (sent : List ℕ) (places : ℕ) → get_or s.words (link_index j) 0 ≡ k → link_home (λ home. home) p s.homes k ≡ some (sent, places) → hand_at p s.words s.homes (OnChain (SwapHead j own)) ≡ record { link = k; took = sent; next = places }
      hand_is k sent places e h = ap (λ z. as_hand z (link_home (λ home. home) p s.homes z)) e ∙ ap (as_hand k) h

      becomes_right : (x : MayExchange p v j own) → IDLE ≤ get_or s.words (head_index j) 0
          → With (set s.words (head_index j) own) (righted v x.claim (get_or s.words (head_index j) 0) (hand_at p s.words s.homes (OnChain (SwapHead j own))).took (hand_at p s.words s.homes (OnChain (SwapHead j own))).next)
      becomes_right x idle = let found : ℕ = get_or s.words (head_index j) 0 in let k : ℕ = x.claim.link in let a = righted_law (λ home. home) p s o i j own v at x idle in let w : View = righted v x.claim found a.0 a.1 in
          let r : Right = new_right x.claim found a.0 a.1 in let here = set_at s.views i w (at_length s.views i v at) in
          let alone = right_alone a.2 i 0 w r here refl in
          let kl : k < p.links = o.in_slots.small j x.life x.claim.link (holder_lives p s o.references i v j x.life x.claim.link at x.holds).life in
          let home : link_home (λ home. home) p s.homes x.claim.link ≡ some (a.0, a.1) = a.2.homes.busy x.claim.link r kl alone in
          let link : get_or s.words (link_index j) 0 ≡ x.claim.link = held_link_is p s o i v at j x.life (x.holds.inside, x.holds.held) x.claim.link x.holds.met in
          subst (λ (z : Hand). With (set s.words (head_index j) own) (righted v x.claim found z.took z.next)) (sym (hand_is x.claim.link a.0 a.1 link home)) a.2

  pub connects : (q before : ℕ) → May p v (OnChain (Connect q before)) → KeepsWord p s i v (OnChain (Connect q before))
  connects q before may = connecting_law (λ home. home) p i may.1.0 v record { request = q; before = before } s o at may.0 may.1.1

  -- ## Whoever writes

  pub empties : (j last : ℕ) → May p v (OnChain (EmptyHead j last)) → KeepsWord p s i v (OnChain (EmptyHead j last))
  empties j last may = let x = may.1.0 in let r : Right = x.mine.right in let found : ℕ = get_or s.words (head_index j) 0 in
      let P : Bool → Type 0 = λ b. With (set s.words (head_index j) (cond b (IDLE + last) found)) (cond b (without_right v r.link) (with_right v (record r { stage = Reversing found found 0 }))) in
      subst (λ rs. With (set s.words (head_index j) (word_after (OnChain (EmptyHead j last)) found)) (by_right rs (emptied last found v) v)) (sym may.1.1)
      (dite (ℕ_discrete found last)
      (λ won. subst P (sym (eq-eqb found last won)) (emptied_law (λ home. home) p s o i j last (IDLE + last) v at x won))
      (λ lost. subst P (sym (ne_eqb found last lost)) (still_words (head_index j) (with_right v (record r { stage = Reversing found found 0 })) (walking_law (λ home. home) p s o i j last (IDLE + last) v at x found refl lost))))

  -- a right whose request is of the last generation goes on at once
  module _ (ws : List ℕ) (r : Right) (one : v.rights ≡ r ∷ []) (r' : Right) (same : r'.link ≡ r.link) (o' : With ws (with_right v r')) where
    retire : (now : ℕ) (b : Stage) → Leads r'.last r'.stage now b → ticket_generation now ≡ LAST_GENERATION → With ws (with_right v (record r' { stage = b }))
    retire now b leads old = let w : View = with_right v r' in let r'' : Right = record r' { stage = b } in
        let l = retiring_law (λ home. home) p i 0 now b w r' record { words = ws; homes = s.homes; views = set s.views i w } o' (set_at s.views i w (at_length s.views i v at)) refl leads old in
        subst (λ u. With ws u) (twice_one v r one r' r'' same same)
        (subst (λ vs. Lawful (λ home. home) p record { words = ws; homes = s.homes; views = vs }) (set_twice s.views i w (with_right w r'')) l)

    stays : (b : Stage) → r'.stage ≡ b → With ws (with_right v (record r' { stage = b }))
    stays b e = subst (λ z. With ws (with_right v (record r' { stage = z }))) e o'

    settles_at : (b : Stage) → r'.stage ≡ b → With ws (with_right v (record r' { stage = settled_stage r'.last b }))
    settles_at (Placed now) e = let P : Bool → Bool → Type 0 = λ a b. With ws (with_right v (record r' { stage = cond (a && b) Empties (Placed now) })) in
        dite (ℕ_discrete now r'.last)
        (λ end_. dite (ℕ_discrete (ticket_generation now) LAST_GENERATION)
        (λ old. subst (λ a. P a (ticket_generation now == LAST_GENERATION)) (sym (eq-eqb now r'.last end_)) (subst (P true) (sym (eq-eqb (ticket_generation now) LAST_GENERATION old))
        (retire now Empties (subst (λ z. Leads r'.last z now Empties) (sym e) (to_end now end_)) old)))
        (λ new. subst (λ a. P a (ticket_generation now == LAST_GENERATION)) (sym (eq-eqb now r'.last end_)) (subst (P true) (sym (ne_eqb (ticket_generation now) LAST_GENERATION new)) (stays (Placed now) e))))
        (λ far. subst (λ a. P a (ticket_generation now == LAST_GENERATION)) (sym (ne_eqb now r'.last far)) (stays (Placed now) e))
    settles_at (Passes now next) e = let P : Bool → Type 0 = λ b. With ws (with_right v (record r' { stage = cond b (Writes next) (Passes now next) })) in
        dite (ℕ_discrete (ticket_generation now) LAST_GENERATION)
        (λ old. subst P (sym (eq-eqb (ticket_generation now) LAST_GENERATION old)) (retire now (Writes next) (subst (λ z. Leads r'.last z now (Writes next)) (sym e) (to_next now next)) old))
        (λ new. subst P (sym (ne_eqb (ticket_generation now) LAST_GENERATION new)) (stays (Passes now next) e))
    settles_at (Writes now) e = stays (Writes now) e
    settles_at Empties e = stays Empties e
    settles_at (Reversing top a after) e = stays (Reversing top a after) e
    settles_at (ReversesNext top a after before) e = stays (ReversesNext top a after before) e

    pub settles : With ws (with_right v (settled r'))
    settles = settles_at r'.stage refl

  pub reads_next : (q : ℕ) → May p v (OnChain (ReadNext q)) → KeepsWord p s i v (OnChain (ReadNext q))
  reads_next q may = let r : Right = may.0 in let found : ℕ = get_or s.words (next_index p q) 0 in
      still_words (next_index p q) (row p (OnChain (ReadNext q)) found (hand_at p s.words s.homes (OnChain (ReadNext q))) v)
      (subst (λ rs. With s.words (by_right rs (λ r. read_next found v r r.stage) v)) (sym may.1)
      (⊎_elim (λ x. passes r may.1 x.0 x.1 x.2 x.3) (λ x. walks r may.1 x.0 x.1 x.2 x.3 x.4) may.2))
    where
      passes : (r : Right) → v.rights ≡ r ∷ [] → (now : ℕ) → r.stage ≡ Placed now → now ≢ r.last → ticket_request now ≡ q → With s.words (read_next (get_or s.words (next_index p q) 0) v r r.stage)
      passes r one now stage ne is = let found : ℕ = get_or s.words (next_index p q) 0 in
          subst (λ b. With s.words (read_next (get_or s.words (next_index p q) 0) v r b)) (sym stage)
          (settles s.words r one (record r { stage = Passes now found }) refl
          (subst (λ z. With s.words (with_right v (record r { stage = Passes now (get_or s.words (next_index p z) 0) }))) is (passing_law (λ home. home) p s o i v at (has_one v r one) now stage ne)))

      walks : (r : Right) → v.rights ≡ r ∷ [] → (top a after : ℕ) → r.stage ≡ Reversing top a after → ticket_request a ≡ q → With s.words (read_next (get_or s.words (next_index p q) 0) v r r.stage)
      walks r one top a after stage is = let found : ℕ = get_or s.words (next_index p q) 0 in let P : Bool → Type 0 = λ b. With s.words (cond b v (with_right v (record r { stage = ReversesNext top a after found }))) in
          subst (λ b. With s.words (read_next (get_or s.words (next_index p q) 0) v r b)) (sym stage)
          (dite (ℕ_discrete found UNCONNECTED)
          (λ waits. subst P (sym (eq-eqb found UNCONNECTED waits)) (subst (λ ws. With ws v) (set-get_or s.words (next_index p q) 0) (idle_law (λ home. home) p s o i v at (next_index p q))))
          (λ there. subst P (sym (ne_eqb found UNCONNECTED there))
          (subst (λ z. With s.words (with_right v (record r { stage = ReversesNext top a after (get_or s.words (next_index p z) 0) }))) is
          (reading_law (λ home. home) p s o i v at (has_one v r one) top a after stage (λ e. there (ap (λ z. get_or s.words (next_index p z) 0) (sym is) ∙ e))))))

  pub turns_next : (q value : ℕ) → May p v (OnChain (ReverseNext q value)) → KeepsWord p s i v (OnChain (ReverseNext q value))
  turns_next q value may = let x = may.0 in let r : Right = x.mine.right in
      subst (λ rs. With (set s.words (next_index p q) value) (by_right rs (λ r. turned_next v r r.stage) v)) (sym may.1)
      (subst (λ b. With (set s.words (next_index p q) value) (turned_next v r b)) (sym x.stage)
      (subst (λ z. With (set s.words (next_index p z) value) (with_right v (turned_right r x.top x.at x.before))) may.2 (turning_law (λ home. home) p s o i value v at x)))

  -- which isn't of the last generation, since generations are bounded
  pub free_small : (q g : ℕ) → May p v (OnChain (FreeRequest q g)) → g < LAST_GENERATION
  free_small q g may = let now : ℕ = may.0 in let r : Right = may.4.0 in
      let low : ticket_generation now < 140737488355328 = ⊎_elim (λ x. small r may.4.1 now Empties (subst (λ z. Leads r.last z now Empties) (sym x.0) (to_end now x.1)))
      (λ x. small r may.4.1 now (Writes x.0) (subst (λ z. Leads r.last z now (Writes x.0)) (sym x.1) (to_next now x.0))) may.4.2 in
      omega (arith, low, may.2, may.3)
    where
      small : (r : Right) → v.rights ≡ r ∷ [] → (now : ℕ) (b : Stage) → Leads r.last r.stage now b → ticket_generation now < 140737488355328
      small r one now b leads = let has = ap (λ l. get_elem? l 0) one in now_small o.chains r.link r (right_in o i 0 v r at has) (right_alone o i 0 v r at has) o.fits.narrow now b leads

  pub frees_request : (q g : ℕ) → May p v (OnChain (FreeRequest q g)) → KeepsWord p s i v (OnChain (FreeRequest q g))
  frees_request q g may = let now : ℕ = may.0 in let r : Right = may.4.0 in
      subst (λ rs. With (set s.words (request_index p q) (2 * (g + 1))) (by_right rs (freed_next v) v)) (sym may.4.1)
      (⊎_elim (λ x. goes r may.4.1 now Empties (subst (λ z. Leads r.last z now Empties) (sym x.0) (to_end now x.1)) may.1 may.2 (free_small q g may) (ap freed_stage x.0))
      (λ x. goes r may.4.1 now (Writes x.0) (subst (λ z. Leads r.last z now (Writes x.0)) (sym x.1) (to_next now x.0)) may.1 may.2 (free_small q g may) (ap freed_stage x.1)) may.4.2)
    where
      goes : (r : Right) → v.rights ≡ r ∷ [] → (now : ℕ) (b : Stage) → Leads r.last r.stage now b → ticket_request now ≡ q → ticket_generation now ≡ g → g < LAST_GENERATION → freed_stage r.stage ≡ b
          → With (set s.words (request_index p q) (2 * (g + 1))) (freed_next v r)
      goes r one now b leads slot is small to = let low : ticket_generation now < 140737488355327 = omega (arith, is, small) in
          subst (λ z. With (set s.words (request_index p q) (2 * (g + 1))) (with_right v (record r { stage = z }))) (sym to)
          (subst (λ z. With (set s.words (request_index p z) (2 * (g + 1))) (with_right v (record r { stage = b }))) slot
          (subst (λ z. With (set s.words (request_index p (ticket_request now)) (2 * (z + 1))) (with_right v (record r { stage = b }))) is
          (freeing_law (λ home. home) p i 0 now b v r s o at (ap (λ l. get_elem? l 0) one) leads low)))

  pub stores_place : (l k n : ℕ) → May p v (OnPlace (StorePlace l k n)) → KeepsWord p s i v (OnPlace (StorePlace l k n))
  stores_place l k n may = let x = may.0 in let r : Right = x.mine.right in let ws : List ℕ = set s.words (place_index p l) (place_word false k n) in
      let placed = placing_law (λ home. home) p i v x s o at in
      let placed₁ : With (set s.words (place_index p l) (place_word false r.link r.places)) (with_right v (placed_right r x.now)) = subst (λ z. With (set s.words (place_index p z) (place_word false r.link r.places)) (with_right v (placed_right r x.now))) (sym may.2) placed in
      let placed₂ : With (set s.words (place_index p l) (place_word false k r.places)) (with_right v (placed_right r x.now)) = subst (λ z. With (set s.words (place_index p l) (place_word false z r.places)) (with_right v (placed_right r x.now))) (sym may.3) placed₁ in
      let placed₃ : With (set s.words (place_index p l) (place_word false k n)) (with_right v (placed_right r x.now)) = subst (λ z. With (set s.words (place_index p l) (place_word false k z)) (with_right v (placed_right r x.now))) (sym may.4) placed₂ in
      subst (λ rs. With (set s.words (place_index p l) (place_word false k n)) (by_right rs (λ r. placed_next v r r.stage) v)) (sym may.1)
      (subst (λ b. With (set s.words (place_index p l) (place_word false k n)) (placed_next v r b)) (sym x.stage)
      (settles ws r may.1 (placed_right r x.now) refl placed₃))

  pub drops_place : (l k n : ℕ) → May p v (OnPlace (DropPlace l k n)) → KeepsWord p s i v (OnPlace (DropPlace l k n))
  drops_place l k n may = let x = may.0 in let r : Right = x.mine.right in let ws : List ℕ = set s.words (place_index p l) (place_word true k n) in
      let dropped = dropping_law (λ home. home) p i v x s o at (failed_life r.link may.6) in
      let w : View = with_right v (dropped_right r x.now x.sent) in
      let dropped₁ : With (set s.words (place_index p l) (place_word true r.link r.places)) w = subst (λ z. With (set s.words (place_index p z) (place_word true r.link r.places)) w) (sym may.2) dropped in
      let dropped₂ : With (set s.words (place_index p l) (place_word true k r.places)) w = subst (λ z. With (set s.words (place_index p l) (place_word true z r.places)) w) (sym may.3) dropped₁ in
      let dropped₃ : With (set s.words (place_index p l) (place_word true k n)) w = subst (λ z. With (set s.words (place_index p l) (place_word true k z)) w) (sym may.4) dropped₂ in
      subst (λ rs. With (set s.words (place_index p l) (place_word true k n)) (by_right rs (λ r. dropped_next v r r.stage) v)) (sym may.1)
      (subst (λ b. With (set s.words (place_index p l) (place_word true k n)) (dropped_next v r b)) (sym x.stage)
      (subst (λ z. With (set s.words (place_index p l) (place_word true k n)) (with_right v (settled (dropped_right r x.now z)))) may.5
      (settles ws r may.1 (dropped_right r x.now x.sent) refl dropped₃)))

  -- ## The requests of which these are

  -- the request of each entry is one of the table
  entry_inside : (k n now : ℕ) → n < length (on k o.log) → nth (on k o.log) (suc n) ≡ now → ticket_request now < p.requests
  entry_inside k n now inside is = let e = at_some (on k o.log) n inside in let size = in_size o.chains k n e.0 e.1 in let narrow = o.fits.narrow in
      let tick : ticket e.0 ≡ now = sym (ticket_at_is (on k o.log) n e.0 e.1) ∙ is in let small : e.0.request < 65535 = (let z = size.1 in omega arith) in
      let slot : ticket_request now ≡ e.0.request = ap ticket_request (sym tick) ∙ slot_is e.0 small in let z = size.1 in omega arith

  module _ (r : Right) (one : v.rights ≡ r ∷ []) where
    inside_link : r.link < p.links
    inside_link = right_in o i 0 v r at (ap (λ l. get_elem? l 0) one)

    alone : (tokens s.views).rights r.link ≡ r ∷ []
    alone = right_alone o i 0 v r at (ap (λ l. get_elem? l 0) one)

    held : Held (memory p o.slot s.words) (tokens s.views) (on r.link o.log) (o.freed r.link) (o.places r.link) r
    held = (held_of o.chains r.link r inside_link alone).1

    in_stage : (b : Stage) → r.stage ≡ b → InStage (memory p o.slot s.words) (tokens s.views) (on r.link o.log) held.counts (o.freed r.link) (o.places r.link) b
    in_stage b e = subst (InStage (memory p o.slot s.words) (tokens s.views) (on r.link o.log) held.counts (o.freed r.link) (o.places r.link)) e held.stage_is

    placed_inside : (now : ℕ) → r.stage ≡ Placed now → ticket_request now < p.requests
    placed_inside now stage = let f = held.fits in let st = in_stage (Placed now) stage in let some_ = st.2 in entry_inside r.link (o.freed r.link) now (omega (arith, f.1, f.2, f.3, some_)) st.3

    passed_inside : (now next : ℕ) → r.stage ≡ Passes now next → ticket_request now < p.requests
    passed_inside now next stage = let f = held.fits in let st = in_stage (Passes now next) stage in let some_ = st.2 in entry_inside r.link (o.freed r.link) now (omega (arith, f.1, f.2, f.3, some_)) st.3

    walk_inside : (top a after : ℕ) → r.stage ≡ Reversing top a after → ticket_request a < p.requests
    walk_inside top a after stage = let f = held.fits in let walk : OnWalk (on r.link o.log) held.counts (o.freed r.link) (o.places r.link) top a after = in_stage (Reversing top a after) stage in let some_ = walk.some_left in
        let back : suc (held.counts.left - 1) ≡ held.counts.left = omega arith in
        entry_inside r.link (held.counts.left - 1) a (omega (arith, f.2, f.3, some_)) (ap (nth (on r.link o.log)) back ∙ walk.at_is)

  pub read_inside : (q : ℕ) → May p v (OnChain (ReadNext q)) → q < p.requests
  read_inside q may = ⊎_elim (λ x. subst (λ z. z < p.requests) x.3 (placed_inside may.0 may.1 x.0 x.1)) (λ x. subst (λ z. z < p.requests) x.4 (walk_inside may.0 may.1 x.0 x.1 x.2 x.3)) may.2

  pub turn_inside : (q value : ℕ) → May p v (OnChain (ReverseNext q value)) → q < p.requests
  turn_inside q value may = let x = may.0 in subst (λ z. z < p.requests) may.2
      (turn_slot o.chains x.mine.right.link x.mine.right (right_in o i x.mine.place v x.mine.right at x.mine.has) (right_alone o i x.mine.place v x.mine.right at x.mine.has) o.fits.narrow x.top x.at value x.before x.stage).5

  pub free_inside : (q g : ℕ) → May p v (OnChain (FreeRequest q g)) → q < p.requests
  free_inside q g may = subst (λ z. z < p.requests) may.1 (⊎_elim (λ x. placed_inside may.4.0 may.4.1 may.0 x.0) (λ x. passed_inside may.4.0 may.4.1 may.0 x.0 x.1) may.4.2)

  -- the word of a step is one of the table
  pub word_inside : (call : TableStep) → May p v call → AreIn p (table_word call)
  word_inside (OnChain (ReadNext q)) may = read_inside q may
  word_inside (OnChain (ReverseNext q value)) may = turn_inside q value may
  word_inside (OnChain (FreeRequest q g)) may = free_inside q g may
  word_inside (OnChain (ClaimRequest id q)) may = may.0
  word_inside (OnChain (Unconnect q)) may = may.0
  word_inside (OnChain (Connect q before)) may = may.0
  word_inside (OnPlace (StorePlace l k n)) may = let inside = may.0.label_in in omega (arith, inside, may.2)
  word_inside (OnPlace (DropPlace l k n)) may = let inside = may.0.label_in in omega (arith, inside, may.2)
  word_inside (OnSlot (ClaimSlot i)) may = low_word p v (OnSlot (ClaimSlot i)) may
  word_inside (OnName (LoadName n)) may = low_word p v (OnName (LoadName n)) may
  word_inside call may = low_word p v call may
