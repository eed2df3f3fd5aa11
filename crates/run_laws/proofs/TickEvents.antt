-- Each tick is its event of the plain model, or none.
use Rattle.std.proofs.Common.{◌≡◌, ◌≢◌, ℕ, ◌+◌, ◌-◌, ◌%◌, ◌<◌, ◌++◌, inl, inr, ⊎_elim, Bool, true, false, eqb, cond, eq-eqb, ne_eqb, nat_lt, List, [], ◌∷◌, set, refl, sym, ap, ◌∙◌, subst, arith}
use Rattle.std.specs.Prelude.{Contains}
use Rattle.std.proofs.lemmas.Bool.Decides.{nat_tests}
use mathlib.Core.Logic.{dite}
use mathlib.Core.Option.{Option, none, some}
use native.Mathlib.Decide.{ℕ_discrete}
use lib.ListN.{get_elem?}
use Rattle.sock_words.specs.declared.plain.Plan.{Plan}
use Rattle.sock_words.specs.PackedWords.{socket_id_version, socket_id_slot, vref_version}
use Rattle.sock_io.specs.declared.link.Put.{Put}
use Rattle.sock_io.specs.declared.link.Put.TheVariants as puts
use Rattle.sock_io.specs.declared.link.Ready.{Ready}
use Rattle.sock_io.specs.declared.link.Ready.TheVariants as asks
use Rattle.sock_model.specs.declared.chain.Claim.{Claim}
use Rattle.sock_model.specs.declared.chain.Entry.{Entry}
use Rattle.sock_model.specs.declared.chain.Right.{Right}
use Rattle.sock_model.specs.declared.home.Home.{Home}
use Rattle.sock_model.specs.declared.view.View.{View}
use Rattle.sock_model.specs.MarkWeights.{pair, is_failer, is_linked, is_probe, is_stage}
use Rattle.sock_model.specs.ChainRows.{taken_right}
use Rattle.sock_model.specs.LinksInSlots.{Given}
use Rattle.sock_model.specs.PlainReferences.{Life, life_at, plain}
use Rattle.sock_model.specs.PlainReferences as lives
use Rattle.sock_model.specs.References.{slot_facts}
use Rattle.sock_model.specs.SocketSlotLaw.{count}
use Rattle.sock_model.specs.SlotRows.{marks_of}
use Rattle.slot_steps.proofs.SlotWeightSums.{total-set}
use Rattle.sock_steps.proofs.LifeLinkSlotPlaces.{holder_lives, claimed_unborn, own_count}
use Rattle.seat_programs.specs.TableSteps.{TableStep, OnSlot, OnChain, OnPlace, CreateLife, ClaimSlot, AddRef, SubRef, SetOdd, Recycle, LookWord, ClaimRequest, SwapHead, StorePlace, DropPlace}
use Rattle.seat_programs.specs.Programs.{Program, Do, PutBytes, AskReady}
use Rattle.seat_programs.specs.Cores.{Core, SeatState, found_at, with_seat, stepped, lies_at, first_of, others_of, link_place}
use Rattle.seat_programs.specs.StepTables.{word_of}
use Rattle.seat_programs.specs.Ticks.{OfPut, OfReady, Moment, FitsPut, fed, with_places, onto_first, ticked, asked_link, is_refusal, broken_at}
use Rattle.seat_programs.specs.StepTables.{row, hand_at}
use Rattle.seat_programs.specs.StepsOfMessages.{took_message}
use Rattle.seat_programs.specs.StepsOfLinks.{link_away, link_home_again, took_bytes}
use Rattle.seat_programs.specs.StepTables.{May}
use Rattle.seat_programs.specs.StepsOfSlots.{even_version}
use Rattle.programs_allowed.specs.program_steps.specs.Writes.{MayPut}
use Rattle.programs_allowed.specs.program_steps.specs.SoundSeats.{state, views_after}
use Rattle.programs_allowed.specs.program_steps.proofs.TickCases.{with_rights, right_rights, put_rights, tick_does}
use Rattle.outcome_stories.specs.OperationStories.{adds}
use Rattle.outcome_stories.proofs.Added.{linked_note, row_adds}
use Rattle.life_events.specs.LifeEventOfStep.{life_of}
use Rattle.life_events.specs.LifeEventOfStep as lives_seen
use Rattle.life_events.proofs.EachLifeEvent.{each_step}
use Rattle.life_events.proofs.Histories.{given_unheld}
use Rattle.life_events.proofs.LifeLaws.{counted, plain_law}
use Rattle.life_events.proofs.ReadingsOfViews.{own_holds}
use Rattle.life_events.proofs.StepsAsLifeEvents.{marks_event}
use Rattle.message_events.specs.MessageEventOfStep as messages_seen
use Rattle.message_events.specs.MessageModel as messages
use Rattle.message_events.specs.MessageStanding as standing
use Rattle.message_events.proofs.EachMessageEvent.{no_event, each_call, takes_letter, goes_away, comes_home, takes_bytes}
use Rattle.run_laws.specs.World.{World, Event, Nothing, Hold, Drop, Fail, End, Dropped, of_lives, of_messages, IsCutOff, NeedsBoth, links_after, stopped_after, Becomes}
use Rattle.run_laws.specs.World as world
use Rattle.run_laws.specs.Seen.{accept_event, stop_event, step_event, put_event, ready_event, next_event, event_at, links_of, world_of}
use Rattle.run_laws.proofs.Modes.{Mode, Comes}
use Rattle.run_laws.proofs.WrittenLinkLives.{odd_failed}
use Rattle.run_laws.proofs.EventlessTicks.{still_nothing}
use Rattle.run_laws.proofs.KeptBySeats.{FitsRight, IsGiven, Kept, mode, mode_guarded, mode_fits}
use Rattle.run_laws.proofs.Stops.{live}
use Rattle.run_laws.proofs.Breaks.{asked_first}
use Rattle.run_laws.proofs.Full.{cut_off}
use Rattle.seat_programs.specs.LoopRounds.{first_step}

-- ## What an event is for lives, for messages and for links

lives_if : (b : Bool) (x y : Event) → of_lives (cond b x y) ≡ cond b (of_lives x) (of_lives y)
lives_if true x y = refl
lives_if false x y = refl

messages_if : (b : Bool) (x y : Event) → of_messages (cond b x y) ≡ cond b (of_messages x) (of_messages y)
messages_if true x y = refl
messages_if false x y = refl

none_if : {A : Type 0} (b : Bool) (x : A) → cond b x x ≡ x
none_if true x = refl
none_if false x = refl

claims_lives : (i found : ℕ) (cs : List Claim) → of_lives (accept_event i found cs) ≡ lives.Nothing
claims_lives i found [] = refl
claims_lives i found (c ∷ cs) = refl

rights_lives : (rs : List Right) → of_lives (stop_event rs) ≡ lives.Nothing
rights_lives [] = refl
rights_lives (r ∷ rs) = refl

rights_messages : (rs : List Right) → of_messages (stop_event rs) ≡ messages.Nothing
rights_messages [] = refl
rights_messages (r ∷ rs) = refl

step_lives : (i : ℕ) (call : TableStep) (found : ℕ) (v : View) → of_lives (step_event i call found v) ≡ lives_seen.event_of i call found v
step_lives i (OnSlot (AddRef id)) found v = lives_if (eqb (vref_version found) (socket_id_version id)) (Hold (life_of id) i) Nothing
step_lives i (OnSlot (SubRef j)) found v = lives_if (nat_lt 0 (marks_of is_probe j v)) Nothing (Drop (life_at j (even_version found)) i)
step_lives i (OnSlot (SetOdd j)) found v = lives_if (eqb (vref_version found % 2) 0) (Fail (life_at j (vref_version found)) i) Nothing
step_lives i (OnSlot (Recycle j from)) found v = lives_if (eqb found from) (End (life_at j (vref_version from - 1))) Nothing
step_lives i (OnSlot (LookWord id)) found v = lives_if (eqb (vref_version found % 2) 0) Nothing (stop_event v.rights) ∙ (ap (λ e. cond (eqb (vref_version found % 2) 0) lives.Nothing e) (rights_lives v.rights) ∙ none_if (eqb (vref_version found % 2) 0) lives.Nothing)
step_lives i (OnChain (ClaimRequest id q)) found v = lives_if (eqb (found % 2) 0) (world.Claim q) Nothing ∙ none_if (eqb (found % 2) 0) lives.Nothing
step_lives i (OnChain (SwapHead j own)) found v = claims_lives i found v.claims
step_lives i (OnPlace (StorePlace l k n)) found v = refl
step_lives i _ found v = refl

claims_messages : (i found : ℕ) (cs : List Claim) → of_messages (accept_event i found cs) ≡ messages_seen.accept_event found cs
claims_messages i found [] = refl
claims_messages i found (c ∷ cs) = refl

step_messages : (i : ℕ) (call : TableStep) (found : ℕ) (v : View) → of_messages (step_event i call found v) ≡ messages_seen.event_of call found v
step_messages i (OnSlot (AddRef id)) found v = messages_if (eqb (vref_version found) (socket_id_version id)) (Hold (life_of id) i) Nothing ∙ none_if (eqb (vref_version found) (socket_id_version id)) messages.Nothing
step_messages i (OnSlot (SubRef j)) found v = messages_if (nat_lt 0 (marks_of is_probe j v)) Nothing (Drop (life_at j (even_version found)) i) ∙ none_if (nat_lt 0 (marks_of is_probe j v)) messages.Nothing
step_messages i (OnSlot (SetOdd j)) found v = messages_if (eqb (vref_version found % 2) 0) (Fail (life_at j (vref_version found)) i) Nothing ∙ none_if (eqb (vref_version found % 2) 0) messages.Nothing
step_messages i (OnSlot (Recycle j from)) found v = messages_if (eqb found from) (End (life_at j (vref_version from - 1))) Nothing ∙ none_if (eqb found from) messages.Nothing
step_messages i (OnSlot (LookWord id)) found v = messages_if (eqb (vref_version found % 2) 0) Nothing (stop_event v.rights) ∙ (ap (λ e. cond (eqb (vref_version found % 2) 0) messages.Nothing e) (rights_messages v.rights) ∙ none_if (eqb (vref_version found % 2) 0) messages.Nothing)
step_messages i (OnChain (ClaimRequest id q)) found v = messages_if (eqb (found % 2) 0) (world.Claim q) Nothing
step_messages i (OnChain (SwapHead j own)) found v = claims_messages i found v.claims
step_messages i (OnPlace (StorePlace l k n)) found v = refl
step_messages i _ found v = refl

put_lives : (k : ℕ) (bytes : List ℕ) (answer : Put) → of_lives (put_event k bytes answer) ≡ lives.Nothing
put_lives k bytes (puts.Took n) = refl
put_lives k bytes _ = refl

put_messages : (k : ℕ) (bytes : List ℕ) (answer : Put) → of_messages (put_event k bytes answer) ≡ messages_seen.put_event k bytes answer
put_messages k bytes (puts.Took n) = refl
put_messages k bytes _ = refl

put_links : (k : ℕ) (bytes : List ℕ) (answer : Put) (links : world.Links) → links_after (put_event k bytes answer) links ≡ links
put_links k bytes (puts.Took n) links = refl
put_links k bytes _ links = refl

ready_lives : (k : ℕ) (answer : Ready) → of_lives (ready_event k answer) ≡ lives.Nothing
ready_lives k asks.Now = refl
ready_lives k _ = refl

ready_messages : (k : ℕ) (answer : Ready) → of_messages (ready_event k answer) ≡ messages.Nothing
ready_messages k asks.Now = refl
ready_messages k _ = refl

ready_links : (k : ℕ) (answer : Ready) (links : world.Links) → links_after (ready_event k answer) links ≡ links
ready_links k asks.Now links = refl
ready_links k _ links = refl

-- a birth alone gives a life its link
links_if : (links : world.Links) (b : Bool) (x y : Event) → links_after x links ≡ links → links_after y links ≡ links → links_after (cond b x y) links ≡ links
links_if links true x y p q = p
links_if links false x y p q = q

zero_if : (b : Bool) → cond {A = ℕ} b 0 0 ≡ 0
zero_if b = none_if b 0

pair_swap : (h k w b i j : ℕ) → cond (eqb i j) (0 + pair h k w b) 0 ≡ cond (eqb k b) (pair i w j h) 0
unfolding pair
pair_swap h k w b i j = grind (arith, nat_tests)

step_links : (i : ℕ) (call : TableStep) (found : ℕ) (v : View) (links : world.Links) (l : Life) (k : ℕ) → links_after (step_event i call found v) links l k ≡ links l k + adds (is_linked l.version k) l.slot call found
step_links i (OnSlot (CreateLife j b)) found v links l k = ap (λ n. links l k + n) (sym (pair_swap l.version k (vref_version found) b j l.slot))
step_links i (OnSlot (ClaimSlot j)) found v links l k = let z = ap (λ n. cond (eqb j l.slot) n 0) (zero_if (eqb found 0)) in let y = zero_if (eqb j l.slot) in omega arith
step_links i (OnSlot (AddRef id)) found v links l k = let e = ap (λ (x : world.Links). x l k) (links_if links (eqb (vref_version found) (socket_id_version id)) (Hold (life_of id) i) Nothing refl refl) in omega arith
step_links i (OnSlot (SubRef j)) found v links l k = let e = ap (λ (x : world.Links). x l k) (links_if links (nat_lt 0 (marks_of is_probe j v)) Nothing (Drop (life_at j (even_version found)) i) refl refl) in omega arith
step_links i (OnSlot (SetOdd j)) found v links l k = let e = ap (λ (x : world.Links). x l k) (links_if links (eqb (vref_version found % 2) 0) (Fail (life_at j (vref_version found)) i) Nothing refl refl) in
    let z = ap (λ n. cond (eqb j l.slot) n 0) (zero_if (eqb (vref_version found % 2) 0)) in let y = zero_if (eqb j l.slot) in omega arith
step_links i (OnSlot (Recycle j from)) found v links l k = let e = ap (λ (x : world.Links). x l k) (links_if links (eqb found from) (End (life_at j (vref_version from - 1))) Nothing refl refl) in omega arith
step_links i (OnSlot (LookWord id)) found v links l k = let e = ap (λ (x : world.Links). x l k) (links_if links (eqb (vref_version found % 2) 0) Nothing (stop_event v.rights) refl (by_rights v.rights)) in omega arith
  where
    by_rights : (rs : List Right) → links_after (stop_event rs) links ≡ links
    by_rights [] = refl
    by_rights (r ∷ rs) = refl
step_links i (OnChain (ClaimRequest id q)) found v links l k = let e = ap (λ (x : world.Links). x l k) (links_if links (eqb (found % 2) 0) (world.Claim q) Nothing refl refl) in omega arith
step_links i (OnChain (SwapHead j own)) found v links l k = let e = ap (λ (x : world.Links). x l k) (by_claims v.claims) in omega arith
  where
    by_claims : (cs : List Claim) → links_after (accept_event i found cs) links ≡ links
    by_claims [] = refl
    by_claims (c ∷ cs) = refl
step_links i (OnPlace (StorePlace l' k' n)) found v links l k = omega arith
step_links i _ found v links l k = omega arith

-- ## A tick

module _ (p : Plan) (c : Core) (views : List View) (stopped : ℕ → Bool) (m : Moment) (kept : Kept p c views stopped) (answered : IsGiven p c m)
    (some_bytes : (e : Entry) → messages.Has (standing.messages p c views).accepted e → e.bytes ≢ []) where
  abbrev old : World
  old = world_of p c views stopped

  abbrev IsTick : Event → Core → List View → Type 0
  IsTick e d us = Becomes p (broken_at c m) (world_of p c views stopped) e (world_of p d us (stopped_after e stopped))

  -- where nothing changes
  nothing : IsTick Nothing c views
  nothing = record { lives = (tt, refl); messages = no_event p c views; both = tt; links = λ l k. refl; stopped = refl }

  -- how often each life has a link, behind a step of a seat
  links_set : (v w : View) → get_elem? views m.seat ≡ some v → (l : Life) (k n : ℕ) → marks_of (is_linked l.version k) l.slot w ≡ marks_of (is_linked l.version k) l.slot v + n → links_of (set views m.seat w) l k ≡ links_of views l k + n
  links_set v w here l k n e = omega (arith, e, total-set (marks_of (is_linked l.version k) l.slot) views m.seat v w here)

  -- a life has the link that it was given
  has_link : (j h k : ℕ) → Given p (state c views) j h k → 0 < old.links (life_at j h) k
  has_link j h k given = let a = given.given in omega (arith, counted (state c views) (is_linked h k) j)

  is_stopped : (j h k : ℕ) → Given p (state c views) j h k → 0 < count (is_failer h) (slot_facts (state c views) j) → (l : Life) × world.IsLinkOf (world_of p c views stopped) l k × (0 < (plain views).fails l)
  is_stopped j h k given some_ = (life_at j h, has_link j h k given, omega (arith, some_, counted (state c views) (is_failer h) j))

  -- ## Steps on words

  module _ (seat : SeatState) (v : View) (at_seat : get_elem? c.seats m.seat ≡ some seat) (here : get_elem? views m.seat ≡ some v) where
    abbrev own_mode : Mode
    own_mode = mode p c views stopped kept m.seat seat v at_seat here

    abbrev found : TableStep → ℕ
    found call = found_at c.words (word_of p call)

    abbrev Both : TableStep → Type 0
    Both call = NeedsBoth p (broken_at c m) (world_of p c views stopped) (step_event m.seat call (found call) v)

    both_if : (b : Bool) (x y : Event) → NeedsBoth p (broken_at c m) (world_of p c views stopped) x → NeedsBoth p (broken_at c m) (world_of p c views stopped) y → NeedsBoth p (broken_at c m) (world_of p c views stopped) (cond b x y)
    both_if true x y a b = a
    both_if false x y a b = b

    comes : (call : TableStep) (next : ℕ → Program) → first_step seat.program ≡ Do call next → Comes own_mode call
    comes call next is = (mode_guarded p c views stopped kept m.seat seat v at_seat here (Do call next) is).0

    stop_both : (id : ℕ) → May p v (OnSlot (LookWord id)) → vref_version (found (OnSlot (LookWord id))) % 2 ≢ 0 → NeedsBoth p (broken_at c m) (world_of p c views stopped) (stop_event v.rights)
    stop_both id may odd = ⊎_elim (λ idle. subst (λ rs. NeedsBoth p (broken_at c m) (world_of p c views stopped) (stop_event rs)) (sym idle) tt)
        (λ x. subst (λ rs. NeedsBoth p (broken_at c m) (world_of p c views stopped) (stop_event rs)) (sym x.1)
        (let f = odd_failed p (state c views) kept.sound.lawful m.seat v here (socket_id_slot id) (socket_id_version id) x.0.link x.2 (omega (arith, odd)) in inl (is_stopped f.slot f.version x.0.link f.life f.failed)))
        may.1

    accept_both : (j own : ℕ) → May p v (OnChain (SwapHead j own)) → NeedsBoth p (broken_at c m) (world_of p c views stopped) (accept_event m.seat (found (OnChain (SwapHead j own))) v.claims)
    accept_both j own may = let x = may.1 in let holds = x.holds in let some_ = holds.held in subst (λ cs. NeedsBoth p (broken_at c m) (world_of p c views stopped) (accept_event m.seat (found (OnChain (SwapHead j own))) cs)) (sym x.claims) (
      life_at j x.life,
      has_link j x.life x.claim.link (holder_lives p (state c views) kept.sound.lawful.references m.seat v j x.life x.claim.link here x.holds).life,
      omega (arith, some_, own_holds views m.seat v here (life_at j x.life)),
    )

    link_unborn : (j k : ℕ) → May p v (OnSlot (CreateLife j k)) → (l : Life) → l.slot < p.slots → links_of views l k ≡ 0
    link_unborn j k may l inside = dite (ℕ_discrete (links_of views l k) 0) (λ z. z)
        (λ n. let mine = may.1 in absurd (claimed_unborn p (state c views) kept.sound.lawful.references j 2 k (omega (arith, mine, own_count (state c views) m.seat v here (is_stage 3 k) j)) l.slot l.version
        (record { inside = inside; given = omega (arith, n, counted (state c views) (is_linked l.version k) l.slot) })))

    place_both : (l k n : ℕ) → Comes own_mode (OnPlace (StorePlace l k n)) → May p v (OnPlace (StorePlace l k n)) → stopped k ≡ false
    place_both l k n fed may = let x = may.0 in ap stopped may.3 ∙ subst (λ y. FitsRight p v stopped y x.mine.right) fed (mode_fits p c views stopped kept m.seat seat v at_seat here x.mine.right may.1)

    drop_both : (l k n : ℕ) → Comes own_mode (OnPlace (DropPlace l k n)) → May p v (OnPlace (DropPlace l k n)) → stopped k ≡ true
    drop_both l k n dead may = let x = may.0 in ap stopped may.3 ∙ subst (λ y. FitsRight p v stopped y x.mine.right) dead (mode_fits p c views stopped kept m.seat seat v at_seat here x.mine.right may.1)

    cut : (k : ℕ) → messages.MayCome (standing.messages p c views) (messages.Dropped k) → IsCutOff (world_of p c views stopped) k
    cut k may = let es : List Entry = may.0 in let order = may.2 in let t = may.5 in let part : List ℕ = t.part in
        let x = cut_off es (λ i e at. some_bytes e (order.each i e at).0) may.1 ((standing.messages p c views).placed k) may.4 may.3 part t.of_next in
        (es, x.0, order, x.1 ∙ ap (λ z. z ++ x.0) (sym t.took_is), x.2)

    step_both : (call : TableStep) (next : ℕ → Program) → first_step seat.program ≡ Do call next → May p v call → lives.MayCome (plain views) (lives_seen.event_of m.seat call (found call) v)
        → messages.MayCome (standing.messages p c views) (messages_seen.event_of call (found call) v) → Both call
    step_both (OnSlot (CreateLife j k)) next is may b q = (link_unborn j k may, given_unheld p.slots (plain views) (plain_law (λ (home : Home). home) p (state c views) kept.sound.lawful) (life_at j (vref_version (found (OnSlot (CreateLife j k))))) may.0 b)
    step_both (OnSlot (AddRef id)) next is may b q = both_if (eqb (vref_version (found (OnSlot (AddRef id)))) (socket_id_version id)) (Hold (life_of id) m.seat) Nothing tt tt
    step_both (OnSlot (SubRef j)) next is may b q = both_if (nat_lt 0 (marks_of is_probe j v)) Nothing (Drop (life_at j (even_version (found (OnSlot (SubRef j))))) m.seat) tt tt
    step_both (OnSlot (SetOdd j)) next is may b q = both_if (eqb (vref_version (found (OnSlot (SetOdd j))) % 2) 0) (Fail (life_at j (vref_version (found (OnSlot (SetOdd j))))) m.seat) Nothing tt tt
    step_both (OnSlot (Recycle j from)) next is may b q = both_if (eqb (found (OnSlot (Recycle j from))) from) (End (life_at j (vref_version from - 1))) Nothing tt tt
    step_both (OnChain (ClaimRequest id r)) next is may b q = both_if (eqb (found (OnChain (ClaimRequest id r)) % 2) 0) (world.Claim r) Nothing tt tt
    step_both (OnSlot (LookWord id)) next is may b q = dite (ℕ_discrete (vref_version (found (OnSlot (LookWord id))) % 2) 0)
        (λ even. subst (λ b. NeedsBoth p (broken_at c m) (world_of p c views stopped) (cond b Nothing (stop_event v.rights))) (sym (eq-eqb (vref_version (found (OnSlot (LookWord id))) % 2) 0 even)) tt)
        (λ odd. subst (λ b. NeedsBoth p (broken_at c m) (world_of p c views stopped) (cond b Nothing (stop_event v.rights))) (sym (ne_eqb (vref_version (found (OnSlot (LookWord id))) % 2) 0 odd)) (stop_both id may odd))
    step_both (OnChain (SwapHead j own)) next is may b q = accept_both j own may
    step_both (OnPlace (StorePlace l k n)) next is may b q = place_both l k n (comes (OnPlace (StorePlace l k n)) next is) may
    step_both (OnPlace (DropPlace l k n)) next is may b q = (drop_both l k n (comes (OnPlace (DropPlace l k n)) next is) may, cut k q)
    step_both call next is may b q = tt

    step_tick : (call : TableStep) (next : ℕ → Program) → first_step seat.program ≡ Do call next → May p v call
        → IsTick (step_event m.seat call (found call) v) (stepped p m.seat seat call next c) (set views m.seat (row p call (found call) (hand_at p c.words c.homes call) v))
    step_tick call next is may =
        let w : View = row p call (found call) (hand_at p c.words c.homes call) v in
        let of_l = each_step (λ (home : Home). home) p (state c views) kept.sound.lawful m.seat v here call (hand_at p c.words c.homes call) may in
        let of_m = each_call p c views kept.sound.lawful m.seat v here (stepped p m.seat seat call next c) seat.hand call (kept.sound.seats m.seat seat v at_seat here).hand kept.sound.homes (refl, refl) may in record {
          lives = subst (λ e. lives.Becomes (plain views) e (plain (set views m.seat (row p call (found call) (hand_at p c.words c.homes call) v)))) (sym (step_lives m.seat call (found call) v))
              of_l;
          messages = subst (λ e. messages.Becomes p (standing.messages p c views) e (standing.messages p (stepped p m.seat seat call next c) (set views m.seat (row p call (found call) (hand_at p c.words c.homes call) v))))
              (sym (step_messages m.seat call (found call) v)) of_m;
          both = step_both call next is may of_l.0 of_m.may;
          links = λ l k. links_set v w here l k (adds (is_linked l.version k) l.slot call (found call)) (row_adds (is_linked l.version k) (linked_note l.version k) l.slot p call (found call) (hand_at p c.words c.homes call) v)
              ∙ sym (step_links m.seat call (found call) v (links_of views) l k);
          stopped = refl;
        }

    -- ## Moves, puts and questions

    -- the views are the same but for the rights of the seat
    lives_same : (w : View) → (rights : List Right) × (w ≡ with_rights v rights) → lives.Becomes (plain views) lives.Nothing (plain (set views m.seat w))
    lives_same w x = marks_event (λ (home : Home). home) p (state c views) kept.sound.lawful m.seat v here w (ap (λ (u : View). u.marks) x.1)

    links_same : (w : View) → (rights : List Right) × (w ≡ with_rights v rights) → (l : Life) (k : ℕ) → links_of (set views m.seat w) l k ≡ links_of views l k
    links_same w x l k = let e = ap (λ (u : View). marks_of (is_linked l.version k) l.slot u) x.1 in let a = links_set v w here l k 0 (omega (arith, e)) in omega (arith, a)

    move_tick : (d : Core) (w : View) → (rights : List Right) × (w ≡ with_rights v rights) → messages.Becomes p (standing.messages p c views) messages.Nothing (standing.messages p d (set views m.seat w)) → IsTick Nothing d (set views m.seat w)
    move_tick d w x of_m = record { lives = lives_same w x; messages = of_m; both = tt; links = links_same w x; stopped = refl }

    -- what the link that was asked answered
    broken_here : (k : ℕ) (first : Program) → first_step seat.program ≡ first → asked_link first ≡ k ∷ [] → is_refusal m.answer ≡ true → Contains (broken_at c m) k
    broken_here k first is asks refuses = subst (λ l. Contains l k)
        (sym (ap (λ b. cond b (elim (get_elem? c.seats m.seat) as (λ o. List ℕ) [ none ↦ [] | some seat ↦ asked_link seat.program ]) []) refuses
        ∙ (ap (λ (o : Option SeatState). elim o as (λ o. List ℕ) [ none ↦ [] | some seat ↦ asked_link seat.program ]) at_seat ∙ (sym (asked_first seat.program) ∙ (ap asked_link is ∙ asks))))) (0, omega arith, refl)

    put_both : (k : ℕ) (asked : Bool) (bytes : List ℕ) (next : Put → Program) (is : first_step seat.program ≡ PutBytes k asked bytes next) (may : MayPut v k bytes) (answer : Put) → m.answer ≡ OfPut answer
        → NeedsBoth p (broken_at c m) (world_of p c views stopped) (put_event k bytes answer)
    put_both k asked bytes next is may (puts.Took n) e = subst (λ z. stopped z ≡ false) may.1.1 (live p c views stopped kept m.seat seat v at_seat here k asked bytes next is may).0
    put_both k asked bytes next is may puts.Again e = tt
    put_both k asked bytes next is may puts.Failed e = inr (broken_here k (PutBytes k asked bytes next) is refl (ap is_refusal e))

    put_tick : (k : ℕ) (asked : Bool) (bytes : List ℕ) (next : Put → Program) (is : first_step seat.program ≡ PutBytes k asked bytes next) (may : MayPut v k bytes) (answer : Put) → m.answer ≡ OfPut answer → FitsPut asked bytes answer
        → IsTick (put_event k bytes answer) (with_seat m.seat (next answer) (onto_first (fed bytes answer) seat.hand) c.words c.homes c) (set views m.seat (took_bytes answer v))
    put_tick k asked bytes next is may answer e fits = let d : Core = with_seat m.seat (next answer) (onto_first (fed bytes answer) seat.hand) c.words c.homes c in let x = put_rights v answer in record {
      lives = subst (λ z. lives.Becomes (plain views) z (plain (set views m.seat (took_bytes answer v)))) (sym (put_lives k bytes answer)) (lives_same (took_bytes answer v) x);
      messages = subst (λ z. messages.Becomes p (standing.messages p c views) z (standing.messages p (with_seat m.seat (next answer) (onto_first (fed bytes answer) seat.hand) c.words c.homes c) (set views m.seat (took_bytes answer v)))) (sym (put_messages k bytes answer))
          (takes_bytes p c views kept.sound.lawful m.seat v here d refl k asked bytes answer refl may fits);
      both = put_both k asked bytes next is may answer e;
      links = λ l j. links_same (took_bytes answer v) x l j ∙ ap (λ (y : world.Links). y l j) (sym (put_links k bytes answer (links_of views)));
      stopped = refl;
    }

    ready_both : (k : ℕ) (next : Ready → Program) (is : first_step seat.program ≡ AskReady k next) (answer : Ready) → m.answer ≡ OfReady answer → NeedsBoth p (broken_at c m) (world_of p c views stopped) (ready_event k answer)
    ready_both k next is asks.Now e = tt
    ready_both k next is asks.NotYet e = tt
    ready_both k next is asks.Failed e = inr (broken_here k (AskReady k next) is refl (ap is_refusal e))

    ready_tick : (k : ℕ) (next : Ready → Program) (is : first_step seat.program ≡ AskReady k next) (answer : Ready) → m.answer ≡ OfReady answer → IsTick (ready_event k answer) (with_seat m.seat (next answer) seat.hand c.words c.homes c) views
    ready_tick k next is answer e = record {
      lives = subst (λ z. lives.Becomes (plain views) z (plain views)) (sym (ready_lives k answer)) (tt, refl);
      messages = subst (λ z. messages.Becomes p (standing.messages p c views) z (standing.messages p c views)) (sym (ready_messages k answer)) (no_event p c views);
      both = ready_both k next is answer e;
      links = λ l j. ap (λ (y : world.Links). y l j) (sym (ready_links k answer (links_of views)));
      stopped = refl;
    }

  -- each tick is its event
  pub each_tick : IsTick (event_at p c views m) (ticked p c m) (views_after p c views m)
  each_tick = tick_does p c views m kept.sound answered.0 (next_event p m.seat c.words) Nothing (still_nothing p m.seat c.words) IsTick (λ none_. nothing) (λ seat at_seat still. nothing)
      (λ seat v call next at_seat here is goes. step_tick seat v at_seat here call next is goes.0)
      (λ seat v q next heading bytes at_seat here is goes lies. let d : Core = with_seat m.seat (next heading bytes) seat.hand c.words (set c.homes q none) c in
      move_tick seat v at_seat here d (took_message heading bytes v) (right_rights v v.rights (λ r. taken_right r heading bytes)) (takes_letter p c views kept.sound.lawful m.seat v here d refl q heading bytes refl goes.0))
      (λ seat v k next took n at_seat here is goes lies. let d : Core = with_seat m.seat (next n) (lies_at c.homes (link_place p k) ++ seat.hand) c.words (set c.homes (link_place p k) none) c in
      move_tick seat v at_seat here d (link_away v) (right_rights v v.rights (λ r. record r { at_home = false })) (goes_away p c views kept.sound.lawful m.seat v here d refl k goes.0 refl goes.1))
      (λ seat v k n after at_seat here is goes. let d : Core = with_seat m.seat after (others_of seat.hand) c.words (set c.homes (link_place p k) (first_of (onto_first (with_places n) seat.hand))) c in
      move_tick seat v at_seat here d (link_home_again v) (right_rights v v.rights (λ r. record r { at_home = true })) (comes_home p c views kept.sound.lawful m.seat v here d refl k goes.0 (first_of (onto_first (with_places n) seat.hand)) refl goes.1))
      (λ seat v k asked bytes next answer at_seat here is goes answer_is fits. put_tick seat v at_seat here k asked bytes next is goes.0 answer answer_is fits)
      (λ seat v k next answer at_seat here is goes answer_is. ready_tick seat v at_seat here k next is answer answer_is)
      (λ seat v s next found at_seat here is goes found_is. nothing)
