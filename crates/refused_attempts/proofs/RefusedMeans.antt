-- What the steps of a seat say of sockets and requests stays so: a life that was found failed was failed, and a request that was found taken was used.
use Rattle.std.proofs.Common.{true, false, ◌≡◌, ◌≢◌, ℕ, ◌+◌, ◌%◌, ◌<◌, ◌≤◌, inl, inr, List, [], ◌∷◌, ◌++◌, set, refl, sym, ap, subst, arith}
use Rattle.std.specs.Prelude.{slice_index}
use mathlib.Core.Option.{Option, some, none}
use lib.ListN.{get_elem?}
use Rattle.atomic_table.proofs.Lists.{set_again}
use Rattle.sock_words.specs.PackedWords.{socket_id_version, socket_id_slot, vref_version}
use Rattle.sock_words.specs.declared.plain.Plan.{Plan}
use Rattle.sock_model.specs.declared.home.Home.{Home}
use Rattle.sock_model.specs.declared.chain.Right.{Right}
use Rattle.sock_model.specs.declared.view.View.{View}
use Rattle.sock_model.specs.MarkWeights.{is_busy, is_hold, is_known, is_failer}
use Rattle.sock_model.specs.SocketTableLayout.{request_index}
use Rattle.sock_model.specs.SocketSlotLaw.{SlotLaw, live, count}
use Rattle.sock_model.specs.References.{slot_facts}
use Rattle.sock_model.specs.SlotRows.{marks_of}
use Rattle.sock_model.specs.ChainRows.{taken_right}
use Rattle.attempted_calls.specs.Below.slot_steps.proofs.RuleNumbers.{live_le, life_is, life-in}
use Rattle.attempted_calls.specs.Below.sock_steps.proofs.LifeLinkSlotPlaces.{own_count, counts}
use Rattle.seat_programs.specs.FoundAndChangedAside.{calls_after}
use Rattle.seat_programs.specs.TableSteps.{TableStep, OnSlot, OnChain, AddRef, LookWord, ClaimRequest}
use Rattle.seat_programs.specs.Programs.{Program, Do}
use Rattle.seat_programs.specs.Cores.{Calls, Core, SeatState, words_after, found_at, homes_after, with_seat, stepped, link_place, first_of, others_of, lies_at}
use Rattle.seat_programs.specs.StepTables.{word_of, word_after}
use Rattle.seat_programs.specs.Ticks.{Moment, AreAnswered, IsAnswered, ticked, run, onto_first, with_places, fed}
use Rattle.attempted_calls.specs.Below.programs_allowed.specs.program_steps.specs.ProgramGoesOn.{GoesOn}
use Rattle.seat_programs.specs.StepTables.{May}
use Rattle.seat_programs.specs.StepTables.{row, hand_at}
use Rattle.seat_programs.specs.StepsOfMessages.{took_message}
use Rattle.seat_programs.specs.StepsOfLinks.{link_away, link_home_again, took_bytes}
use Rattle.attempted_calls.specs.Below.programs_allowed.specs.program_steps.specs.SoundSeats.{Sound, AreFitting, state, views_after, views_along}
use Rattle.attempted_calls.specs.Below.programs_allowed.specs.program_steps.proofs.TickCases.{goes_first, with_rights, right_rights, put_rights, tick_cases, elem_there}
use Rattle.attempted_calls.specs.Below.programs_allowed.specs.sock_runs.proofs.LinkTicks.{RetriesGo}
use Rattle.attempted_calls.specs.Below.programs_allowed.specs.sock_runs.proofs.TicksKeepSeatsSound.{sound_ticks}
use Rattle.attempted_calls.specs.Below.outcome_stories.proofs.Added.{failer_note, row_adds}
use Rattle.attempted_calls.specs.Below.outcome_stories.proofs.UsedRequestStays.{word_stays}
use Rattle.attempted_calls.specs.accept_counts.specs.RefusedOrDropped.{Deed, DidStep, DidAt, DidIn}

module _ (p : Plan) where
  -- the life of version h of slot j was failed
  abbrev pub IsFailed : Core → List View → ℕ → ℕ → Type 0
  IsFailed c vs j h = (j < p.slots) × (0 < count (is_failer h) (slot_facts (state c vs) j))

  abbrev pub Says : Core → List View → TableStep → ℕ → Type 0
  Says c vs (OnChain (ClaimRequest id r)) found = found % 2 ≡ 1 → (r < p.requests) × (0 < slice_index c.words (request_index p r))
  Says c vs (OnSlot (AddRef id)) found = vref_version found ≢ socket_id_version id → IsFailed c vs (socket_id_slot id) (socket_id_version id)
  Says c vs (OnSlot (LookWord id)) found = vref_version found % 2 ≡ 1 → IsFailed c vs (socket_id_slot id) (socket_id_version id)
  Says c vs other found = Unit {0}

  abbrev pub IsSo : Core → List View → Deed → Type 0
  IsSo c vs (DidStep call found) = Says c vs call found
  IsSo c vs other = Unit {0}

  module _ (c : Core) (vs : List View) (sound : Sound p c vs) where
    abbrev law : (j : ℕ) → j < p.slots → SlotLaw p.first (live (slot_facts (state c vs) j)) (slot_facts (state c vs) j)
    law j l = sound.lawful.references.slots j l

    lives_le : (j : ℕ) → live (slot_facts (state c vs) j) ≤ 1
    lives_le j = live_le (slot_facts (state c vs) j).tag (slot_facts (state c vs) j).version (count is_busy (slot_facts (state c vs) j))

    module _ (i : ℕ) (v : View) (here : get_elem? vs i ≡ some v) where
      -- a life that was known, where the slot has another version
      known_failed : (j h : ℕ) → j < p.slots → 0 < marks_of (is_known h) j v → (slot_facts (state c vs) j).version ≢ h → 0 < count (is_failer h) (slot_facts (state c vs) j)
      known_failed j h inside known ne = let o = law j inside in let k = own_count (state c vs) i v here (is_known h) j in
          let l = life_is p.first h ((slot_facts (state c vs) j).version + live (slot_facts (state c vs) j)) (omega (arith, o.known h (omega (arith, k, known)))) in
          let l₀ = l.0 in let l₁ = l.1 in let le = lives_le j in
          let a = life-in p.first h (slot_facts (state c vs) j).version l₀ (omega (arith, l₁, le, ne)) l.2 in omega (arith, o.failed h, a)

      -- a life that is held, where its version is odd
      odd_failed : (j h : ℕ) → j < p.slots → 0 < marks_of (is_hold h) j v → (slot_facts (state c vs) j).version % 2 ≡ 1 → 0 < count (is_failer h) (slot_facts (state c vs) j)
      odd_failed j h inside held odd = let o = law j inside in let k = own_count (state c vs) i v here (is_hold h) j in let t = o.held h (omega (arith, k, held)) in let t₀ = t.0 in let t₁ = t.1 in let le = lives_le j in
          let begun = o.begun in let even = sound.lawful.fits.even in
          let a = life-in p.first h (slot_facts (state c vs) j).version (omega arith) (omega arith) t₁ in omega (arith, o.failed h, a)

      says_of : (call : TableStep) → May p v call → Says c vs call (found_at c.words (word_of p call))
      says_of (OnChain (ClaimRequest id r)) may = λ odd. (may.0, omega (arith, odd))
      says_of (OnSlot (AddRef id)) may = λ ne. (may.0.0, known_failed (socket_id_slot id) (socket_id_version id) may.0.0 may.0.1 ne)
      says_of (OnSlot (LookWord id)) may = λ odd. (may.0, odd_failed (socket_id_slot id) (socket_id_version id) may.0 may.2 odd)
      says_of _ may = tt

    -- what a seat does in a tick is so as the tick begins
    pub did_so : (m : Moment) (j : ℕ) (d : Deed) → DidAt p c m j d → IsSo c vs d
    did_so m j (DidStep call found) x = let v = elem_there c.seats vs j x.1 sound.each x.3 in
        let g : GoesOn p v.0 (Do call x.2) = subst (GoesOn p v.0) x.4 (goes_first p v.0 x.1.program (sound.seats j x.1 v.0 x.3 v.1).goes_on) in
        subst (Says c vs call) (sym x.5) (says_of j v.0 v.1 call g.0)
    did_so m j _ x = tt

  -- ## Ticks

  module _ (c : Core) (vs : List View) (sound : Sound p c vs) (m : Moment) (answered : IsAnswered c m) where
    abbrev Keeps : Core → List View → Type 0
    Keeps c' vs' = (d : Deed) → IsSo c vs d → IsSo c' vs' d

    -- where words of requests and marks of failed lives stay
    by_parts : (c' : Core) (vs' : List View) → ((r : ℕ) → r < p.requests → 0 < slice_index c.words (request_index p r) → 0 < slice_index c'.words (request_index p r))
        → ((j h : ℕ) → 0 < count (is_failer h) (slot_facts (state c vs) j) → 0 < count (is_failer h) (slot_facts (state c' vs') j)) → Keeps c' vs'
    by_parts c' vs' used failed (DidStep call found) so = by call so
      where
        by : (call : TableStep) → Says c vs call found → Says c' vs' call found
        by (OnChain (ClaimRequest id r)) s = λ odd. let x = s odd in (x.0, used r x.0 x.1)
        by (OnSlot (AddRef id)) s = λ ne. let x = s ne in (x.0, failed (socket_id_slot id) (socket_id_version id) x.1)
        by (OnSlot (LookWord id)) s = λ odd. let x = s odd in (x.0, failed (socket_id_slot id) (socket_id_version id) x.1)
        by _ s = tt
    by_parts c' vs' used failed _ so = tt

    module _ (v : View) (here : get_elem? vs m.seat ≡ some v) where
      -- a move, which leaves words and marks
      moved : (program : Program) (hand : List Home) (hs : List (Option Home)) (a : Calls) (w : View) (rights : List Right) → w ≡ with_rights v rights → Keeps (with_seat m.seat program hand c.words hs (record c { calls = a })) (set vs m.seat w)
      moved program hand hs a w rights is = by_parts (with_seat m.seat program hand c.words hs (record c { calls = a })) (set vs m.seat w) (λ r low x. x)
          (λ j h x. let b = counts (state c vs) m.seat v w here c.words hs (is_failer h) j in let e : marks_of (is_failer h) j w ≡ marks_of (is_failer h) j v = ap (marks_of (is_failer h) j) is in omega (arith, b, e, x))

      stepped_so : (seat : SeatState) (call : TableStep) (next : ℕ → Program) → May p v call → Keeps (stepped p m.seat seat call next c) (set vs m.seat (row p call (found_at c.words (word_of p call)) (hand_at p c.words c.homes call) v))
      stepped_so seat call next may = let found : ℕ = found_at c.words (word_of p call) in let hand = hand_at p c.words c.homes call in
          by_parts (stepped p m.seat seat call next c) (set vs m.seat (row p call (found_at c.words (word_of p call)) (hand_at p c.words c.homes call) v))
          (λ r low x. word_stays p v c.words sound.lawful.references.sized r low x call may)
          (λ j h x. let b = counts (state c vs) m.seat v (row p call (found_at c.words (word_of p call)) (hand_at p c.words c.homes call) v) here (words_after c.words (word_of p call) (word_after call (found_at c.words (word_of p call)))) (homes_after p call seat.hand c.homes) (is_failer h) j in
          let e = row_adds (is_failer h) (failer_note h) j p call (found_at c.words (word_of p call)) (hand_at p c.words c.homes call) v in omega (arith, b, e, x))

    pub tick_keeps : Keeps (ticked p c m) (views_after p c vs m)
    tick_keeps = tick_cases p c vs m sound answered Keeps (λ d so. so)
        (λ seat v call next at here is goes. stepped_so v here seat call next goes.0)
        (λ seat v r next heading bytes at here is goes lies. let w = right_rights v v.rights (λ x. taken_right x heading bytes) in moved v here (next heading bytes) seat.hand (set c.homes r none) c.calls (took_message heading bytes v) w.0 w.1)
        (λ seat v k next took n at here is goes lies. let w = right_rights v v.rights (λ x. record x { at_home = false }) in moved v here (next n) (lies_at c.homes (link_place p k) ++ seat.hand) (set c.homes (link_place p k) none) c.calls (link_away v) w.0 w.1)
        (λ seat v k n after at here is goes. let w = right_rights v v.rights (λ x. record x { at_home = true }) in
        moved v here after (others_of seat.hand) (set c.homes (link_place p k) (first_of (onto_first (with_places n) seat.hand))) c.calls (link_home_again v) w.0 w.1)
        (λ seat v k asked bytes next answer at here is goes answer_is fits. let w = put_rights v answer in moved v here (next answer) (onto_first (fed bytes answer) seat.hand) c.homes c.calls (took_bytes answer v) w.0 w.1)
        (λ seat v k next answer at here is goes answer_is. subst (λ xs. Keeps (with_seat m.seat (next answer) seat.hand c.words c.homes c) xs) (set_again vs m.seat v here) (moved v here (next answer) seat.hand c.homes c.calls v v.rights refl))
        (λ seat v s next found at here is goes found_is. subst (λ xs. Keeps (with_seat m.seat (next found) seat.hand c.words c.homes (record c { calls = calls_after s found c.calls })) xs) (set_again vs m.seat v here)
        (moved v here (next found) seat.hand c.homes (calls_after s found c.calls) v v.rights refl))

  -- ## Runs

  pub run_keeps : RetriesGo p → (ms : List Moment) (c : Core) (vs : List View) → Sound p c vs → AreAnswered p c ms → AreFitting p c ms → (d : Deed) → IsSo c vs d → IsSo (run p c ms) (views_along p c vs ms) d
  run_keeps go [] c vs sound answered fitting d so = so
  run_keeps go (m ∷ ms) c vs sound answered fitting d so = run_keeps go ms (ticked p c m) (views_after p c vs m) (sound_ticks p go c vs m sound answered.0 fitting.0) answered.1 fitting.1 d (tick_keeps c vs sound m answered.0 d so)

  -- what was done in some ticks is so behind them
  pub run_so : RetriesGo p → (ms : List Moment) (c : Core) (vs : List View) → Sound p c vs → AreAnswered p c ms → AreFitting p c ms → (j : ℕ) (d : Deed) → DidIn p c ms j d → IsSo (run p c ms) (views_along p c vs ms) d
  run_so go [] c vs sound answered fitting j d x = absurd x
  run_so go (m ∷ ms) c vs sound answered fitting j d (inl now) = run_keeps go (m ∷ ms) c vs sound answered fitting d (did_so c vs sound m j d now)
  run_so go (m ∷ ms) c vs sound answered fitting j d (inr later) = run_so go ms (ticked p c m) (views_after p c vs m) (sound_ticks p go c vs m sound answered.0 fitting.0) answered.1 fitting.1 j d later
