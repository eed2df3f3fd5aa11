-- Each tick of a run keeps what its seats keep to, with the links that its event stops.
use Rattle.std.proofs.Common.{◌≡◌, ◌≢◌, ℕ, ◌-◌, ◌%◌, ◌≤◌, ◌++◌, ◌⊎◌, inl, inr, ⊎_elim, Bool, true, false, eqb, cond, eq-eqb, ne_eqb, nat_lt, List, [], ◌∷◌, set, refl, sym, ap, ◌∙◌, subst, arith}
use Rattle.std.proofs.lemmas.Bool.{true≢false}
use mathlib.Core.List.{cons-ne-nil}
use mathlib.Core.Logic.{dite}
use mathlib.Core.Option.{Option, none, some, some-injective}
use native.Mathlib.Decide.{ℕ_discrete}
use lib.ListN.{get_elem?}
use Rattle.atomic_table.proofs.Lists.{set_again, set_here}
use Rattle.sock_words.specs.declared.plain.Plan.{Plan}
use Rattle.sock_words.specs.PackedWords.{socket_id_version, socket_id_slot, vref_version}
use Rattle.sock_io.specs.declared.link.Put.{Put}
use Rattle.sock_io.specs.declared.link.Put.TheVariants as puts
use Rattle.sock_io.specs.declared.link.Ready.{Ready}
use Rattle.sock_io.specs.declared.link.Ready.TheVariants as asks
use Rattle.sock_model.specs.declared.chain.Claim.{Claim}
use Rattle.sock_model.specs.declared.chain.Right.{Right}
use Rattle.sock_model.specs.declared.home.Home.{Home}
use Rattle.sock_model.specs.declared.marks.Mark.{Mark}
use Rattle.sock_model.specs.declared.marks.Mark.TheVariants as mark
use Rattle.sock_model.specs.declared.marks.SlotMark.{SlotMark}
use Rattle.sock_model.specs.declared.view.View.{View}
use Rattle.sock_model.specs.MarkWeights.{only, is_probe, is_hold, is_met, is_failer, is_linked}
use Rattle.sock_model.specs.ChainRows.{with_right, taken_right}
use Rattle.sock_model.specs.Marks.{about, at}
use Rattle.sock_model.specs.PlainReferences.{life_at}
use Rattle.life_events.specs.LifeEventOfStep.{life_of}
use Rattle.seat_programs.specs.StepsOfSlots.{even_version}
use Rattle.sock_model.specs.LinksInSlots.{HoldsLink, Given, Failed}
use Rattle.sock_model.specs.SlotRows.{marks_of, looked, told_code}
use Rattle.slot_steps.proofs.RuleNumbers.{only-same}
use Rattle.chain_steps.proofs.TicketLists.{at_length}
use Rattle.sock_steps.proofs.LifeLinkSlotPlaces.{own_count, holder_lives}
use Rattle.seat_programs.specs.TableSteps.{TableStep, OnSlot, OnChain, OnPlace, AddRef, SubRef, SetOdd, Recycle, LookWord, LoadCode, ClaimRequest, SwapHead, StorePlace, DropPlace}
use Rattle.seat_programs.specs.Programs.{Program, Do, TakeMessage, TakeHome, PutHome, PutBytes, AskReady, Aside}
use Rattle.seat_programs.specs.FoundAndChangedAside.{calls_after}
use Rattle.seat_programs.specs.Cores.{Calls, Core, SeatState, words_after, homes_after, hand_after, found_at, lies_at, first_of, others_of, link_place, with_seat, stepped}
use Rattle.seat_programs.specs.StepTables.{word_of, word_after}
use Rattle.seat_programs.specs.Ticks.{Moment, fed, with_places, onto_first, ticked}
use Rattle.seat_programs.specs.StepTables.{row, hand_at}
use Rattle.seat_programs.specs.StepViews.{by_right}
use Rattle.seat_programs.specs.StepsOfSlots.{looked_clean}
use Rattle.seat_programs.specs.StepsOfMessages.{took_message}
use Rattle.seat_programs.specs.StepsOfLinks.{link_away, link_home_again, took_bytes}
use Rattle.seat_programs.specs.StepTables.{May}
use Rattle.programs_allowed.specs.program_steps.specs.Writes.{Writes, MayPut}
use Rattle.programs_allowed.specs.program_steps.specs.SoundSeats.{Sound, state, views_after}
use Rattle.programs_allowed.specs.program_steps.proofs.TickCases.{with_rights, right_rights, put_rights, tick_does}
use Rattle.programs_allowed.specs.sock_runs.proofs.TicksKeepSeatsSound.{sound_ticks}
use Rattle.outcome_stories.specs.OperationStories.{adds}
use Rattle.outcome_stories.proofs.Added.{failer_note, linked_note, row_adds}
use Rattle.message_events.proofs.LinkWrittenByRight.{Keeps, looks_keeps, puts_makes}
use Rattle.message_events.specs.MessageStanding.{of_right}
use Rattle.run_laws.specs.World.{Event, Nothing, Hold, Drop, Fail, End, Stop, stopped_after}
use Rattle.run_laws.specs.World as world
use Rattle.run_laws.specs.Seen.{accept_event, stop_event, step_event, put_event, ready_event, next_event, event_at}
use Rattle.run_laws.proofs.Modes.{Mode, Unknown, Live, Fed, Dead, Asks, Broken, IsWhole, IsOfSlot, Comes, looked_mode, mode_behind, put_mode, ready_mode, Guarded}
use Rattle.run_laws.proofs.WrittenLinkLives.{one_writer, live_unfailed, odd_failed, even_is, more_count, failed_stays}
use Rattle.run_laws.proofs.EventlessTicks.{still_nothing}
use Rattle.run_laws.proofs.KeptBySeats.{HoldsAt, FitsRight, Fits, IsBroken, IsGiven, Kept, first_broken, mode_at, mode_here, mode, mode_guarded, mode_fits, not_broken, broken_else, steps}
use Rattle.seat_programs.specs.LoopRounds.{first_step}
use Rattle.sock_words.specs.Totals.{total}

-- ## Small facts

heads_same : (x y : Right) → x ∷ [] ≡ y ∷ [] → x ≡ y
heads_same x y e = cc

if_stops : (stopped : ℕ → Bool) (b : Bool) (x y : Event) → stopped_after x stopped ≡ stopped → stopped_after y stopped ≡ stopped → stopped_after (cond b x y) stopped ≡ stopped
if_stops stopped true x y p q = p
if_stops stopped false x y p q = q

abbrev is_look : TableStep → Bool
is_look (OnSlot (LookWord id)) = true
is_look other = false

abbrev is_odd : TableStep → Bool
is_odd (OnSlot (SetOdd i)) = true
is_odd other = false

abbrev is_code : TableStep → Bool
is_code (OnSlot (LoadCode i h)) = true
is_code other = false

-- only a look stops a link
stops_none : (stopped : ℕ → Bool) (i : ℕ) (call : TableStep) (found : ℕ) (v : View) → is_look call ≡ false → stopped_after (step_event i call found v) stopped ≡ stopped
stops_none stopped i (OnSlot (LookWord id)) found v e = absurd (true≢false e)
stops_none stopped i (OnSlot (AddRef id)) found v e = if_stops stopped (eqb (vref_version found) (socket_id_version id)) (Hold (life_of id) i) Nothing refl refl
stops_none stopped i (OnSlot (SubRef j)) found v e = if_stops stopped (nat_lt 0 (marks_of is_probe j v)) Nothing (Drop (life_at j (even_version found)) i) refl refl
stops_none stopped i (OnSlot (SetOdd j)) found v e = if_stops stopped (eqb (vref_version found % 2) 0) (Fail (life_at j (vref_version found)) i) Nothing refl refl
stops_none stopped i (OnSlot (Recycle j from)) found v e = if_stops stopped (eqb found from) (End (life_at j (vref_version from - 1))) Nothing refl refl
stops_none stopped i (OnChain (ClaimRequest id q)) found v e = if_stops stopped (eqb (found % 2) 0) (world.Claim q) Nothing refl refl
stops_none stopped i (OnChain (SwapHead j own)) found v e = by_claims v.claims
  where
    by_claims : (cs : List Claim) → stopped_after (accept_event i found cs) stopped ≡ stopped
    by_claims [] = refl
    by_claims (c ∷ cs) = refl
stops_none stopped i (OnPlace (StorePlace l k n)) found v e = refl
stops_none stopped i _ found v e = refl

behind_unknown : (m : Mode) (call : TableStep) (found : ℕ) → is_look call ≡ false → is_code call ≡ false → mode_behind m call found ≡ Unknown
behind_unknown m (OnSlot (LookWord id)) found e d = absurd (true≢false e)
behind_unknown m (OnSlot (LoadCode i h)) found e d = absurd (true≢false d)
behind_unknown m _ found e d = refl

comes_whole : (m : Mode) (call : TableStep) → is_odd call ≡ false → Comes m call → IsWhole m
comes_whole m (OnSlot (SetOdd i)) e comes = absurd (true≢false e)
comes_whole m (OnPlace (StorePlace l k n)) e comes = subst IsWhole (sym comes) tt
comes_whole m (OnPlace (DropPlace l k n)) e comes = subst IsWhole (sym comes) tt
comes_whole m _ e comes = comes

about_more : (f : Mark → ℕ) (j i : ℕ) (m : Mark) (es : List SlotMark) → total f (about j es) ≤ total f (about j (at i m ∷ es))
about_more f j i m es = by_test (eqb i j)
  where
    by_test : (b : Bool) → total f (about j es) ≤ total f (cond b (m ∷ about j es) (about j es))
    by_test true = omega arith
    by_test false = omega arith

-- whichever way a right goes on, a seat with other rights has the same marks
pub same_more : (f : Mark → ℕ) (j : ℕ) (v w : View) → w.marks ≡ v.marks → marks_of f j v ≤ marks_of f j w
same_more f j v w e = let a = ap (λ (es : List SlotMark). total f (about j es)) e in omega arith

module _ (p : Plan) (c : Core) (views : List View) (stopped : ℕ → Bool) (kept : Kept p c views stopped) (i : ℕ) (seat : SeatState) (v : View) (at_seat : get_elem? c.seats i ≡ some seat) (here : get_elem? views i ≡ some v) where
  abbrev m : Mode
  m = mode p c views stopped kept i seat v at_seat here

  module _ (a : Calls) (w : View) (m' : Mode) (program : Program) (hand : List Home) (ws : List ℕ) (hs : List (Option Home))
      (fails : (j h : ℕ) → marks_of (is_failer h) j v ≤ marks_of (is_failer h) j w) (links : (k j h : ℕ) → marks_of (is_linked h k) j v ≤ marks_of (is_linked h k) j w)
      (sound : Sound p (with_seat i program hand ws hs (record c { calls = a })) (set views i w)) (guarded : Guarded m' program) where
    abbrev after : Core
    after = with_seat i program hand ws hs (record c { calls = a })

    abbrev Behind : ℕ → Type 0
    Behind k = Failed p (state after (set views i w)) k ⊎ IsBroken (set views i w) (mode_at i m' kept.modes) k

    stays : (k : ℕ) → Failed p (state c views) k → Failed p (state after (set views i w)) k
    stays k f = failed_stays (state c views) ws hs i v w here p k fails (λ j h. links k j h) f

    -- what stopped before is still so, where the seat isn't to set its life failed
    stays_behind : IsWhole m → (k : ℕ) → stopped k ≡ true → Behind k
    stays_behind whole k e = ⊎_elim (λ f. inl (stays k f))
        (λ b. inr (broken_else p c views stopped kept i seat v at_seat here a w m' program hand ws hs stopped k b
        (λ same. not_broken p c views stopped kept i seat v at_seat here whole b.slot (ap kept.modes (sym same) ∙ b.mode))))
        (kept.stops k e)

    -- a step that stops nothing
    calm : IsWhole m → Fits p w stopped m' → Kept p (with_seat i program hand ws hs (record c { calls = a })) (set views i w) stopped
    calm whole fits = steps p c views stopped kept i seat v at_seat here a w m' program hand ws hs stopped sound guarded fits (λ x u ne there f. f) (stays_behind whole)

    -- a step that stops the link that the seat writes
    module _ (r : Right) (one : v.rights ≡ r ∷ []) where
      abbrev stopped' : ℕ → Bool
      stopped' = stopped_after (Stop r.link) stopped

      other_right : (x : ℕ) (u : View) → x ≢ i → get_elem? views x ≡ some u → (q : Right) → u.rights ≡ q ∷ [] → (n : Mode) → FitsRight p u stopped n q → FitsRight p u stopped' n q
      other_right x u ne there q mine n fits = by_mode n fits
        where
          else_ : stopped' q.link ≡ stopped q.link
          else_ = ap (λ b. cond b true (stopped q.link)) (ne_eqb q.link r.link (λ e. ne (one_writer p (state c views) kept.sound.lawful x i u v q r there here mine one e)))

          by_mode : (n : Mode) → FitsRight p u stopped n q → FitsRight p u stopped' n q
          by_mode Unknown f = tt
          by_mode (Live s) f = (else_ ∙ f.0, f.1)
          by_mode Fed f = else_ ∙ f
          by_mode Dead f = else_ ∙ f
          by_mode (Asks s) f = f
          by_mode (Broken s) f = f

      stopping : IsWhole m → Fits p w stopped' m' → Behind r.link → Kept p (with_seat i program hand ws hs (record c { calls = a })) (set views i w) stopped'
      stopping whole fits now = steps p c views stopped kept i seat v at_seat here a w m' program hand ws hs stopped' sound guarded fits
          (λ x u ne there f q mine. other_right x u ne there q mine (kept.modes x) (f q mine))
          (λ k e. dite (ℕ_discrete k r.link) (λ same. subst Behind (sym same) now)
          (λ n. stays_behind whole k (sym (ap (λ b. cond b true (stopped k)) (ne_eqb k r.link n)) ∙ e)))

  -- ## Steps on words

  abbrev found : TableStep → ℕ
  found call = found_at c.words (word_of p call)

  abbrev row_of : TableStep → View
  row_of call = row p call (found call) (hand_at p c.words c.homes call) v

  module _ (call : TableStep) (next : ℕ → Program) (is : first_step seat.program ≡ Do call next) (may : May p v call) (sound : Sound p (stepped p i seat call next c) (set views i (row_of call))) where
    pub fails_more : (j h : ℕ) → marks_of (is_failer h) j v ≤ marks_of (is_failer h) j (row_of call)
    fails_more j h = omega (arith, row_adds (is_failer h) (failer_note h) j p call (found call) (hand_at p c.words c.homes call) v)

    pub links_more : (k j h : ℕ) → marks_of (is_linked h k) j v ≤ marks_of (is_linked h k) j (row_of call)
    links_more k j h = omega (arith, row_adds (is_linked h k) (linked_note h k) j p call (found call) (hand_at p c.words c.homes call) v)

    pub behind : Comes m call × ((x : ℕ) → Guarded (mode_behind m call x) (next x))
    behind = mode_guarded p c views stopped kept i seat v at_seat here (Do call next) is

    abbrev KeptWith : (ℕ → Bool) → Type 0
    KeptWith s = Kept p (stepped p i seat call next c) (set views i (row_of call)) s

    calm_step : IsWhole m → Fits p (row_of call) stopped (mode_behind m call (found call)) → KeptWith stopped
    calm_step whole fits = calm c.calls (row_of call) (mode_behind m call (found call)) (next (found call)) (hand_after p call c.homes seat.hand) (words_after c.words (word_of p call) (word_after call (found call))) (homes_after p call seat.hand c.homes)
        fails_more links_more sound (behind.1 (found call)) whole fits

    stopping_step : (r : Right) (one : v.rights ≡ r ∷ []) → IsWhole m → Fits p (row_of call) (stopped_after (Stop r.link) stopped) (mode_behind m call (found call)) → Failed p (state c views) r.link → KeptWith (stopped_after (Stop r.link) stopped)
    stopping_step r one whole fits f = stopping c.calls (row_of call) (mode_behind m call (found call)) (next (found call)) (hand_after p call c.homes seat.hand) (words_after c.words (word_of p call) (word_after call (found call))) (homes_after p call seat.hand c.homes)
        fails_more links_more sound (behind.1 (found call)) r one whole fits
        (inl (stays c.calls (row_of call) (mode_behind m call (found call)) (next (found call)) (hand_after p call c.homes seat.hand) (words_after c.words (word_of p call) (word_after call (found call))) (homes_after p call seat.hand c.homes)
        fails_more links_more sound (behind.1 (found call)) r.link f))

    -- any step but these
    plain_step : is_look call ≡ false → is_code call ≡ false → is_odd call ≡ false → KeptWith (stopped_after (step_event i call (found call) v) stopped)
    plain_step a b d = subst KeptWith (sym (stops_none stopped i call (found call) v a))
        (calm_step (comes_whole m call d behind.0) (subst (Fits p (row_of call) stopped) (sym (behind_unknown m call (found call) a b)) (λ r one. tt)))

  -- ## A look

  module _ (id : ℕ) (next : ℕ → Program) (is : first_step seat.program ≡ Do (OnSlot (LookWord id)) next) (may : May p v (OnSlot (LookWord id))) (sound : Sound p (stepped p i seat (OnSlot (LookWord id)) next c) (set views i (row_of (OnSlot (LookWord id))))) where
    abbrev slot : ℕ
    slot = socket_id_slot id

    abbrev word : ℕ
    word = found (OnSlot (LookWord id))

    abbrev w : View
    w = row_of (OnSlot (LookWord id))

    abbrev KeptBy : Event → Type 0
    KeptBy e = KeptWith (OnSlot (LookWord id)) next is may sound (stopped_after e stopped)

    whole : IsWhole m
    whole = (behind (OnSlot (LookWord id)) next is may sound).0

    pub no_right : v.rights ≡ [] → w.rights ≡ []
    no_right idle = ap (λ rs. (by_right rs (looked_clean slot word v) (looked slot word v)).rights) idle ∙ idle

    idle_fits : v.rights ≡ [] → (s : ℕ → Bool) (n : Mode) → Fits p w s n
    idle_fits idle s n r one = absurd (cons-ne-nil r [] (sym one ∙ no_right idle))

    idle_step : v.rights ≡ [] → KeptBy Nothing
    idle_step idle = calm_step (OnSlot (LookWord id)) next is may sound whole (idle_fits idle stopped (looked_mode slot word))

    module _ (r : Right) (one : v.rights ≡ r ∷ []) (holds : HoldsLink p v slot (socket_id_version id) r.link) where
      pub k : Keeps p c views kept.sound.lawful i v here r one w (of_right r)
      k = looks_keeps p c views kept.sound.lawful i v here r one id word (hand_at p c.words c.homes (OnSlot (LookWord id)))

      pub link_of : (q : Right) → w.rights ≡ q ∷ [] → q.link ≡ r.link
      link_of q is_q = ap (λ (x : Right). x.link) (heads_same q k.right (sym is_q ∙ k.rights)) ∙ k.link

      marks_are : w.marks ≡ at slot (mark.Saw (vref_version word)) ∷ v.marks
      marks_are = ap (λ rs. (by_right rs (looked_clean slot word v) (looked slot word v)).marks) one ∙ by_test (eqb (vref_version word % 2) 0)
        where
          by_test : (b : Bool) → (cond b (with_right (looked slot word v) (record r { clean = true })) (looked slot word v)).marks ≡ at slot (mark.Saw (vref_version word)) ∷ v.marks
          by_test true = refl
          by_test false = refl

      more : (f : Mark → ℕ) (j : ℕ) → marks_of f j v ≤ marks_of f j w
      more f j = let e = ap (λ (es : List SlotMark). total f (about j es)) marks_are in omega (arith, e, about_more f j slot (mark.Saw (vref_version word)) v.marks)

      pub not_stopped : vref_version word % 2 ≡ 0 → (b : Bool) → stopped r.link ≡ b → stopped r.link ≡ false
      not_stopped even false e = e
      not_stopped even true e = absurd (⊎_elim (λ f. live_unfailed p (state c views) kept.sound.lawful i v here slot (socket_id_version id) r.link holds even f)
          (λ b. let same = one_writer p (state c views) kept.sound.lawful b.seat i b.view v b.right r b.there here b.one one b.link in
          not_broken p c views stopped kept i seat v at_seat here whole b.slot (ap kept.modes (sym same) ∙ b.mode)) (kept.stops r.link e))

      live_fits : vref_version word % 2 ≡ 0 → Fits p w stopped (Live slot)
      live_fits even q is_q = let same = link_of q is_q in let a = holds.held in let b = holds.met in (
        ap stopped same ∙ not_stopped even (stopped r.link) refl,
        (
          socket_id_version id,
          subst (HoldsLink p w slot (socket_id_version id)) (sym same)
              (record { inside = holds.inside; held = omega (arith, more (is_hold (socket_id_version id)) slot); met = omega (arith, more (is_met (socket_id_version id) r.link) slot) }),
        ),
      )

      live_step : vref_version word % 2 ≡ 0 → KeptBy Nothing
      live_step even = calm_step (OnSlot (LookWord id)) next is may sound whole (subst (λ b. Fits p w stopped (cond b (Live slot) Dead)) (sym (eq-eqb (vref_version word % 2) 0 even)) (live_fits even))

      dead_fits : Fits p w (stopped_after (Stop r.link) stopped) Dead
      dead_fits q is_q = ap (λ b. cond b true (stopped q.link)) (eq-eqb q.link r.link (link_of q is_q))

      dead_step : vref_version word % 2 ≢ 0 → KeptBy (Stop r.link)
      dead_step odd = stopping_step (OnSlot (LookWord id)) next is may sound r one whole (subst (λ b. Fits p w (stopped_after (Stop r.link) stopped) (cond b (Live slot) Dead)) (sym (ne_eqb (vref_version word % 2) 0 odd)) dead_fits)
          (odd_failed p (state c views) kept.sound.lawful i v here slot (socket_id_version id) r.link holds (omega (arith, odd)))

    look_kept : KeptBy (step_event i (OnSlot (LookWord id)) word v)
    look_kept = dite (ℕ_discrete (vref_version word % 2) 0)
        (λ even. subst (λ b. KeptBy (cond b Nothing (stop_event v.rights))) (sym (eq-eqb (vref_version word % 2) 0 even)) (⊎_elim idle_step (λ mine. live_step mine.0 mine.1 mine.2 even) may.1))
        (λ odd. subst (λ b. KeptBy (cond b Nothing (stop_event v.rights))) (sym (ne_eqb (vref_version word % 2) 0 odd))
        (⊎_elim (λ idle. subst (λ rs. KeptBy (stop_event rs)) (sym idle) (idle_step idle)) (λ mine. subst (λ rs. KeptBy (stop_event rs)) (sym mine.1) (dead_step mine.0 mine.1 mine.2 odd)) may.1))

  -- ## The step that sets a life failed

  module _ (j : ℕ) (next : ℕ → Program) (is : first_step seat.program ≡ Do (OnSlot (SetOdd j)) next) (may : May p v (OnSlot (SetOdd j))) (sound : Sound p (stepped p i seat (OnSlot (SetOdd j)) next c) (set views i (row_of (OnSlot (SetOdd j))))) where
    abbrev odd_view : View
    odd_view = row_of (OnSlot (SetOdd j))

    abbrev odd_word : ℕ
    odd_word = found (OnSlot (SetOdd j))

    abbrev odd_core : Core
    odd_core = stepped p i seat (OnSlot (SetOdd j)) next c

    there : get_elem? (set views i odd_view) i ≡ some odd_view
    there = set_here views i odd_view (at_length views i v here)

    -- a live life is failed behind it
    pub fails_even : (h k : ℕ) → Given p (state c views) j h k → vref_version odd_word ≡ h → vref_version odd_word % 2 ≡ 0 → Failed p (state odd_core (set views i odd_view)) k
    fails_even h k life is_h even = let given = life.given in
        let adds_one : adds (is_failer h) j (OnSlot (SetOdd j)) odd_word ≡ 1 = ap (λ b. cond b (cond (eqb (vref_version odd_word % 2) 0) (is_failer h (mark.Failer (vref_version odd_word))) 0) 0) (eq-eqb j j refl)
        ∙ (ap (λ b. cond b (only h (vref_version odd_word)) 0) (eq-eqb (vref_version odd_word % 2) 0 even) ∙ (ap (only h) is_h ∙ only-same h)) in
        record {
          slot = j;
          version = h;
          life = record { inside = life.inside; given = omega (arith, given, more_count (state c views) odd_core.words odd_core.homes i v odd_view here (is_linked h k) j (links_more (OnSlot (SetOdd j)) next is may sound k j h)) };
          failed = omega (arith, adds_one, row_adds (is_failer h) (failer_note h) j p (OnSlot (SetOdd j)) odd_word (hand_at p c.words c.homes (OnSlot (SetOdd j))) v, own_count (state odd_core (set views i odd_view)) i odd_view there (is_failer h) j);
        }

    -- the life of the link that whoever writes it sets failed is failed behind it
    own_failed : (r : Right) → v.rights ≡ r ∷ [] → (h : ℕ) → HoldsLink p v j h r.link → Failed p (state odd_core (set views i odd_view)) r.link
    own_failed r one h holds = dite (ℕ_discrete (vref_version odd_word % 2) 0)
        (λ even. fails_even h r.link (holder_lives p (state c views) kept.sound.lawful.references i v j h r.link here holds).life (even_is p (state c views) kept.sound.lawful i v here j h r.link holds even) even)
        (λ odd. failed_stays (state c views) odd_core.words odd_core.homes i v odd_view here p r.link (λ a b. fails_more (OnSlot (SetOdd j)) next is may sound a b) (λ a b. links_more (OnSlot (SetOdd j)) next is may sound r.link a b)
        (odd_failed p (state c views) kept.sound.lawful i v here j h r.link holds (omega (arith, odd))))

    odd_stops : (k : ℕ) → stopped k ≡ true → Failed p (state odd_core (set views i odd_view)) k ⊎ IsBroken (set views i odd_view) (mode_at i Unknown kept.modes) k
    odd_stops k e = ⊎_elim
        (λ f. inl (failed_stays (state c views) odd_core.words odd_core.homes i v odd_view here p k (λ a b. fails_more (OnSlot (SetOdd j)) next is may sound a b) (λ a b. links_more (OnSlot (SetOdd j)) next is may sound k a b) f))
        (λ b. dite (ℕ_discrete b.seat i)
        (λ same. let mine : v.rights ≡ b.right ∷ [] = ap (λ (x : View). x.rights) (some-injective v b.view (sym here ∙ (ap (get_elem? views) (sym same) ∙ b.there))) ∙ b.one in
        let broken : m ≡ Broken b.slot = first_broken (kept.modes i) b.slot seat.program (kept.guarded i seat at_seat) (ap kept.modes (sym same) ∙ b.mode) in
        let at_slot : b.slot ≡ j = subst (IsOfSlot j) broken (behind (OnSlot (SetOdd j)) next is may sound).0 in
        let x : HoldsAt p v b.slot b.right.link = subst (λ n. FitsRight p v stopped n b.right) broken (mode_fits p c views stopped kept i seat v at_seat here b.right mine) in
        inl (subst (Failed p (state odd_core (set views i odd_view))) b.link (own_failed b.right mine x.0 (subst (λ z. HoldsLink p v z x.0 b.right.link) at_slot x.1))))
        (λ ne. inr (broken_else p c views stopped kept i seat v at_seat here c.calls odd_view Unknown (next odd_word) (hand_after p (OnSlot (SetOdd j)) c.homes seat.hand) (words_after c.words (word_of p (OnSlot (SetOdd j))) (word_after (OnSlot (SetOdd j)) odd_word)) (homes_after p (OnSlot (SetOdd j)) seat.hand c.homes) stopped k b ne)))
        (kept.stops k e)

    odd_kept : KeptWith (OnSlot (SetOdd j)) next is may sound (stopped_after (step_event i (OnSlot (SetOdd j)) odd_word v) stopped)
    odd_kept = subst (KeptWith (OnSlot (SetOdd j)) next is may sound) (sym (stops_none stopped i (OnSlot (SetOdd j)) odd_word v refl))
        (steps p c views stopped kept i seat v at_seat here c.calls odd_view Unknown (next odd_word) (hand_after p (OnSlot (SetOdd j)) c.homes seat.hand) (words_after c.words (word_of p (OnSlot (SetOdd j))) (word_after (OnSlot (SetOdd j)) odd_word)) (homes_after p (OnSlot (SetOdd j)) seat.hand c.homes) stopped
        sound ((behind (OnSlot (SetOdd j)) next is may sound).1 odd_word) (λ r one. tt) (λ x u ne at_x f. f) odd_stops)

  -- ## The code of a life

  code_kept : (j h : ℕ) (next : ℕ → Program) (is : first_step seat.program ≡ Do (OnSlot (LoadCode j h)) next) (may : May p v (OnSlot (LoadCode j h))) (sound : Sound p (stepped p i seat (OnSlot (LoadCode j h)) next c) (set views i (row_of (OnSlot (LoadCode j h)))))
      → KeptWith (OnSlot (LoadCode j h)) next is may sound stopped
  code_kept j h next is may sound = calm_step (OnSlot (LoadCode j h)) next is may sound (behind (OnSlot (LoadCode j h)) next is may sound).0 (λ r one. by_mode r m (mode_fits p c views stopped kept i seat v at_seat here r (sym same_rights ∙ one)))
    where
      same_rights : (row_of (OnSlot (LoadCode j h))).rights ≡ v.rights
      same_rights = by_test (eqb (found (OnSlot (LoadCode j h))) 0)
        where
          by_test : (b : Bool) → (cond b v (told_code j h (found (OnSlot (LoadCode j h))) v)).rights ≡ v.rights
          by_test true = refl
          by_test false = refl

      by_mode : (r : Right) (n : Mode) → FitsRight p v stopped n r → FitsRight p (row_of (OnSlot (LoadCode j h))) stopped (mode_behind n (OnSlot (LoadCode j h)) (found (OnSlot (LoadCode j h)))) r
      by_mode r Dead f = f
      by_mode r _ f = tt

  step_kept : (call : TableStep) (next : ℕ → Program) (is : first_step seat.program ≡ Do call next) (may : May p v call) (sound : Sound p (stepped p i seat call next c) (set views i (row_of call)))
      → Kept p (stepped p i seat call next c) (set views i (row_of call)) (stopped_after (step_event i call (found call) v) stopped)
  step_kept (OnSlot (LookWord id)) next is may sound = look_kept id next is may sound
  step_kept (OnSlot (SetOdd j)) next is may sound = odd_kept j next is may sound
  step_kept (OnSlot (LoadCode j h)) next is may sound = code_kept j h next is may sound
  step_kept call next is may sound = plain_step call next is may sound refl refl refl

  -- ## Moves, puts and questions

  module _ (rights : List Right) (program first : Program) (hand : List Home) (hs : List (Option Home)) (sound : Sound p (with_seat i program hand c.words hs c) (set views i (with_rights v rights))) where
    -- a step that changes nothing but the rights of the seat, and stops nothing
    move_kept : (m' : Mode) → Guarded m' program → IsWhole m → Fits p (with_rights v rights) stopped m' → Kept p (with_seat i program hand c.words hs c) (set views i (with_rights v rights)) stopped
    move_kept m' guarded whole fits = calm c.calls (with_rights v rights) m' program hand c.words hs (λ j h. same_more (is_failer h) j v (with_rights v rights) refl) (λ k j h. same_more (is_linked h k) j v (with_rights v rights) refl) sound guarded whole fits

    -- and one in which the link answers that it failed
    break_kept : (slot : ℕ) (r : Right) (one : v.rights ≡ r ∷ []) → rights ≡ v.rights → Guarded (Broken slot) program → IsWhole m → HoldsAt p v slot r.link
        → Kept p (with_seat i program hand c.words hs c) (set views i (with_rights v rights)) (stopped_after (Stop r.link) stopped)
    break_kept slot r one same guarded whole holds = stopping c.calls (with_rights v rights) (Broken slot) program hand c.words hs (λ j h. same_more (is_failer h) j v (with_rights v rights) refl) (λ k j h. same_more (is_linked h k) j v (with_rights v rights) refl)
        sound guarded r one whole
        (λ q is_q. let link : q.link ≡ r.link = ap (λ (x : Right). x.link) (heads_same q r (sym is_q ∙ (same ∙ one))) in (
          holds.0,
          subst (HoldsLink p (with_rights v rights) slot holds.0) (sym link) (record { inside = holds.1.inside; held = holds.1.held; met = holds.1.met }),
        ))
        (inr record {
          seat = i;
          view = with_rights v rights;
          right = r;
          slot = slot;
          there = set_here views i (with_rights v rights) (at_length views i v here);
          mode = mode_here i (Broken slot) kept.modes;
          one = same ∙ one;
          link = refl;
        })

  -- what a view is, where its rights are these
  abbrev IsKept : Program → List Home → List (Option Home) → View → (ℕ → Bool) → Type 0
  IsKept program hand hs w s = Sound p (with_seat i program hand c.words hs c) (set views i w) → Kept p (with_seat i program hand c.words hs c) (set views i w) s

  moves : (program : Program) (hand : List Home) (hs : List (Option Home)) (w : View) → (rights : List Right) × (w ≡ with_rights v rights) → Guarded Unknown program → IsWhole m → IsKept program hand hs w stopped
  moves program hand hs w x guarded whole = subst (λ u. IsKept program hand hs u stopped) (sym x.1) (λ sound. move_kept x.0 program program hand hs sound Unknown guarded whole (λ r one. tt))

  module _ (k : ℕ) (asked : Bool) (bytes : List ℕ) (next : Put → Program) (is : first_step seat.program ≡ PutBytes k asked bytes next) (may : MayPut v k bytes) where
    pub guard : (s : ℕ) × (m ≡ Live s) × ((answer : Put) → Guarded (put_mode s answer) (next answer))
    guard = mode_guarded p c views stopped kept i seat v at_seat here (PutBytes k asked bytes next) is

    pub live : FitsRight p v stopped (Live guard.0) may.0
    live = subst (λ n. FitsRight p v stopped n may.0) guard.1 (mode_fits p c views stopped kept i seat v at_seat here may.0 may.1.0)

    whole_live : IsWhole m
    whole_live = subst IsWhole (sym guard.1) tt

    put_kept : (answer : Put) (hand : List Home) (hs : List (Option Home)) → IsKept (next answer) hand hs (took_bytes answer v) (stopped_after (put_event k bytes answer) stopped)
    put_kept (puts.Took n) hand hs = let x = put_rights v (puts.Took n) in let g = puts_makes p c views kept.sound.lawful i v here may.0 may.1.0 n in
        subst (λ u. IsKept (next (puts.Took n)) hand hs u stopped) (sym x.1) (λ sound. move_kept x.0 (next (puts.Took n)) (next (puts.Took n)) hand hs sound Fed (guard.2 (puts.Took n)) whole_live
        (λ q is_q. ap stopped (ap (λ (y : Right). y.link) (heads_same q g.right (sym is_q ∙ (sym (ap (λ (u : View). u.rights) x.1) ∙ g.rights))) ∙ g.link) ∙ live.0))
    put_kept puts.Again hand hs = moves (next puts.Again) hand hs v (v.rights, refl) (guard.2 puts.Again) whole_live
    put_kept puts.Failed hand hs = subst (λ l. IsKept (next puts.Failed) hand hs v (stopped_after (Stop l) stopped)) may.1.1
        (λ sound. break_kept v.rights (next puts.Failed) (next puts.Failed) hand hs sound guard.0 may.0 may.1.0 refl (guard.2 puts.Failed) whole_live live.1)

  module _ (k : ℕ) (next : Ready → Program) (is : first_step seat.program ≡ AskReady k next) (may : (r : Right) × Writes v k false r) where
    asking : (s : ℕ) × (m ≡ Asks s) × ((answer : Ready) → Guarded (ready_mode s answer) (next answer))
    asking = mode_guarded p c views stopped kept i seat v at_seat here (AskReady k next) is

    asks_at : HoldsAt p v asking.0 may.0.link
    asks_at = subst (λ n. FitsRight p v stopped n may.0) asking.1 (mode_fits p c views stopped kept i seat v at_seat here may.0 may.1.0)

    whole_asks : IsWhole m
    whole_asks = subst IsWhole (sym asking.1) tt

    ready_kept : (answer : Ready) (hand : List Home) (hs : List (Option Home)) → IsKept (next answer) hand hs v (stopped_after (ready_event k answer) stopped)
    ready_kept asks.Now hand hs = moves (next asks.Now) hand hs v (v.rights, refl) (asking.2 asks.Now) whole_asks
    ready_kept asks.NotYet hand hs = moves (next asks.NotYet) hand hs v (v.rights, refl) (asking.2 asks.NotYet) whole_asks
    ready_kept asks.Failed hand hs = subst (λ l. IsKept (next asks.Failed) hand hs v (stopped_after (Stop l) stopped)) may.1.1
        (λ sound. break_kept v.rights (next asks.Failed) (next asks.Failed) hand hs sound asking.0 may.0 may.1.0 refl (asking.2 asks.Failed) whole_asks asks_at)

-- ## Ticks

pub kept_tick : (p : Plan) (c : Core) (views : List View) (stopped : ℕ → Bool) (m : Moment) → Kept p c views stopped → IsGiven p c m → Kept p (ticked p c m) (views_after p c views m) (stopped_after (event_at p c views m) stopped)
kept_tick p c views stopped m kept answered = tick_does p c views m kept.sound answered.0 (next_event p m.seat c.words) Nothing (still_nothing p m.seat c.words) (λ e d us. Sound p d us → Kept p d us (stopped_after e stopped)) (λ none_ sound. kept) (λ seat at_seat still sound. kept)
    (λ seat v call next at_seat at_view is goes sound. step_kept p c views stopped kept m.seat seat v at_seat at_view call next is goes.0 sound)
    (λ seat v q next heading bytes at_seat at_view is goes lies. let g = mode_guarded p c views stopped kept m.seat seat v at_seat at_view (TakeMessage q next) is in
    moves p c views stopped kept m.seat seat v at_seat at_view (next heading bytes) seat.hand (set c.homes q none) (took_message heading bytes v) (right_rights v v.rights (λ r. taken_right r heading bytes)) (g.1 heading bytes) g.0)
    (λ seat v k next took n at_seat at_view is goes lies. let g = mode_guarded p c views stopped kept m.seat seat v at_seat at_view (TakeHome k next) is in
    moves p c views stopped kept m.seat seat v at_seat at_view (next n) (lies_at c.homes (link_place p k) ++ seat.hand) (set c.homes (link_place p k) none) (link_away v) (right_rights v v.rights (λ r. record r { at_home = false })) (g.1 n) g.0)
    (λ seat v k n after at_seat at_view is goes. let g = mode_guarded p c views stopped kept m.seat seat v at_seat at_view (PutHome k n after) is in
    moves p c views stopped kept m.seat seat v at_seat at_view after (others_of seat.hand) (set c.homes (link_place p k) (first_of (onto_first (with_places n) seat.hand))) (link_home_again v) (right_rights v v.rights (λ r. record r { at_home = true })) g.1 g.0)
    (λ seat v k asked bytes next answer at_seat at_view is goes answer_is fits. put_kept p c views stopped kept m.seat seat v at_seat at_view k asked bytes next is goes.0 answer (onto_first (fed bytes answer) seat.hand) c.homes)
    (λ seat v k next answer at_seat at_view is goes answer_is.
    subst (λ us. Sound p (with_seat m.seat (next answer) seat.hand c.words c.homes c) us → Kept p (with_seat m.seat (next answer) seat.hand c.words c.homes c) us (stopped_after (ready_event k answer) stopped)) (set_again views m.seat v at_view)
    (ready_kept p c views stopped kept m.seat seat v at_seat at_view k next is goes.0 answer seat.hand c.homes))
    (λ seat v s next found at_seat at_view is goes found_is. let g = mode_guarded p c views stopped kept m.seat seat v at_seat at_view (Aside s next) is in
    let d : Core = with_seat m.seat (next found) seat.hand c.words c.homes (record c { calls = calls_after s found c.calls }) in
    subst (λ us. Sound p d us → Kept p d us stopped) (set_again views m.seat v at_view)
    (λ sound. calm p c views stopped kept m.seat seat v at_seat at_view (calls_after s found c.calls) v Unknown (next found) seat.hand c.words c.homes (λ j h. same_more (is_failer h) j v v refl) (λ k j h. same_more (is_linked h k) j v v refl)
    sound (g.1 found) g.0 (λ r one. tt)))
    (sound_ticks p kept.retries_go c views m kept.sound answered.0 answered.1)
