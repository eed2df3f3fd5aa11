-- Behind the ending of a run each life that was made before is past, wherever clients wait: its slot has a later version.
use Rattle.std.proofs.Common.{◌≡◌, ◌≢◌, ℕ, zero, suc, ◌+◌, ◌-◌, ◌*◌, ◌%◌, ◌<◌, ◌≤◌, ◌⊎◌, ◌==◌, ◌&&◌, nat_le, Bool, true, false, List, [], ◌∷◌, ◌++◌, length-set, replicate, get_or, inl, inr, ⊎_elim, refl, sym, ap, ◌∙◌, subst, arith}
use mathlib.Core.Logic.{dite}
use mathlib.Core.Option.{none, some, some-injective, some-ne-none}
use native.Mathlib.Decide.{ℕ_discrete}
use lib.ListN.{get_elem?}
use Rattle.atomic_table.proofs.Lists.{at_set, set_else}
use Rattle.sock_words.specs.PackedWords.{socket_id, socket_id_version, socket_id_slot, vref_version, vref_nref, NO_SOCKET}
use Rattle.sock_words.specs.declared.plain.Plan.{Plan}
use Rattle.sock_model.specs.declared.view.View.{View}
use Rattle.sock_model.specs.SocketTableLayout.{ref_index, open_index}
use Rattle.sock_model.specs.SocketSlotLaw.{count, live}
use Rattle.sock_model.specs.References.{slot_facts}
use Rattle.sock_model.specs.MarkWeights.{is_born, is_linked}
use Rattle.ended_calls.specs.refused_attempts.specs.Below.slot_steps.proofs.RuleNumbers.{life-in, life_is}
use Rattle.ended_calls.specs.refused_attempts.specs.Below.chain_steps.proofs.TicketLists.{at_some}
use Rattle.ended_calls.specs.refused_attempts.specs.Below.sock_steps.proofs.LifeLinkSlotPlaces.{counts}
use Rattle.ended_calls.specs.refused_attempts.specs.Below.sock_steps.proofs.SumsAsMarksChange.{either_way}
use Rattle.seat_programs.specs.brpc_model.specs.Items.{Item}
use Rattle.seat_programs.specs.brpc_model.specs.Operations.{Turn}
use Rattle.seat_programs.specs.TableSteps.{TableStep, OnSlot, SetOdd}
use Rattle.seat_programs.specs.LoopHeads.{Retry}
use Rattle.seat_programs.specs.Programs.{Program, Do, Rest, LAST_VERSION, recycle, release}
use Rattle.seat_programs.specs.ClientProgram.{ending_of}
use Rattle.seat_programs.specs.Cores.{Core, SeatState, found_at, words_after, homes_after, resolved, next_step, waiting_at}
use Rattle.seat_programs.specs.StepTables.{word_of, word_after}
use Rattle.seat_programs.specs.Tasks.{opens, plan_of}
use Rattle.seat_programs.specs.Ticks.{Moment, IsAnswered, AreAnswered, quiet, ticked, run}
use Rattle.seat_programs.specs.ScriptSetupToEnding.{played, IsRunWithCalls}
use Rattle.seat_programs.specs.StepTables.{row, hand_at}
use Rattle.ended_calls.specs.refused_attempts.specs.Below.programs_allowed.specs.program_steps.specs.SoundSeats.{state, Sound, IsFitting, AreFitting, views_after, views_along}
use Rattle.ended_calls.specs.refused_attempts.specs.Below.programs_allowed.specs.sock_runs.proofs.SoundAlongRuns.{seat_rests}
use Rattle.ended_calls.specs.refused_attempts.specs.Below.programs_allowed.specs.program_steps.proofs.SlotWordBounds.{law, lives_le}
use Rattle.ended_calls.specs.refused_attempts.specs.Below.programs_allowed.specs.program_steps.proofs.TickCases.{ComesNext, with_rights, tick_keeps_marks}
use Rattle.ended_calls.specs.refused_attempts.specs.Below.programs_allowed.specs.program_walks.proofs.LivesFailedByEnding.{Fails, fails_ending, what_fails}
use Rattle.ended_calls.specs.refused_attempts.specs.Below.programs_allowed.specs.sock_runs.proofs.LinkNotes.{links_only}
use Rattle.ended_calls.specs.refused_attempts.specs.Below.programs_allowed.specs.sock_runs.proofs.LinksStay.{IsGiven, run_given}
use Rattle.ended_calls.specs.refused_attempts.specs.Below.programs_allowed.specs.sock_runs.proofs.LinkTicks.{RetriesGo}
use Rattle.ended_calls.specs.refused_attempts.specs.Below.programs_allowed.specs.sock_runs.proofs.NotesOfSteps.{bears}
use Rattle.ended_calls.specs.refused_attempts.specs.Below.programs_allowed.specs.sock_runs.proofs.Quiets.{run_seats}
use Rattle.ended_calls.specs.refused_attempts.specs.Below.programs_allowed.specs.program_walks.proofs.Records.{stores, next_stores, opens_same}
use Rattle.ended_calls.specs.refused_attempts.specs.Below.programs_allowed.specs.program_walks.proofs.Recorded.{Recorded, IsPending}
use Rattle.ended_calls.specs.refused_attempts.specs.Below.programs_allowed.specs.sock_runs.proofs.TicksKeepSeatsSound.{sound_ticks}
use Rattle.ended_calls.specs.refused_attempts.specs.Below.programs_allowed.specs.sock_runs.proofs.SlotVersionsRise.{versions_on, odd_past}
use Rattle.ended_calls.specs.refused_attempts.specs.Below.programs_allowed.specs.program_walks.proofs.WholeScriptSound.{closing_of, views_played, views_closed, end_answered, closing_sound, rested_ahead, recorded_closing, closed_ahead}
use Rattle.ended_calls.specs.refused_attempts.specs.Below.joint_runs.proofs.RunsOfBothTables.{AreMade, first_views}
use Rattle.ended_calls.specs.refused_attempts.specs.accept_counts.proofs.EarlyClosedSockets.{start, go, fitting}
use Rattle.ended_calls.specs.refused_attempts.specs.accept_counts.proofs.RestsWithoutCalls.{many, aside}
use Rattle.corr_core.proofs.NoteSums.{at_length}
use Rattle.seat_programs.specs.LoopRounds.{first_step}

-- a life that was given a link was born
pub given_born : (p : Plan) (c : Core) (vs : List View) → Sound p c vs → (i h k : ℕ) → i < p.slots → IsGiven c vs i h k → 0 < count (is_born h) (slot_facts (state c vs) i)
given_born p c vs sound i h k inside given = let l = law p (state c vs) sound.lawful.references i inside in let low = l.link_low h k given in let even = l.link_even h k given in let begun = l.link_begun h k given in
    let one = life-in p.first h ((slot_facts (state c vs) i).version + live (slot_facts (state c vs) i)) begun low even in let born = l.born h in omega (arith, one, born)

-- and is no later one than the slot's
given_low : (p : Plan) (c : Core) (vs : List View) → Sound p c vs → (i h k : ℕ) → i < p.slots → IsGiven c vs i h k → h ≤ vref_version (get_or c.words (ref_index i) 0)
given_low p c vs sound i h k inside given = let l = law p (state c vs) sound.lawful.references i inside in let low = l.link_low h k given in let le = lives_le p (state c vs) sound.lawful.references i inside in omega (arith, low, le)

-- ## The program of the ending

-- it makes no life, and stores no word of an `open`
abbrev Still : Program → Type 0
Still (Do call next) = (stores call ≡ none) × (bears call ≡ none) × ((found : ℕ) → Still (next found))
Still Rest = Unit {0}
Still other = ⊥

still_recycle : (i from : ℕ) (next : Bool → Program) → ((b : Bool) → Still (next b)) → Still (recycle i from next)
still_recycle i from next after = (
  refl,
  refl,
  λ found. either_way (found == from) _ _ Still
      (refl, refl, λ _. (refl, refl, λ _. (refl, refl, λ _. (refl, refl, λ _. either_way (nat_le (vref_version from + 1) LAST_VERSION) _ _ Still (refl, refl, λ _. after true) (after true))))) (after false),
)

still_release : (i : ℕ) (next : Bool → Program) → ((b : Bool) → Still (next b)) → Still (release i next)
still_release i next after = (refl, refl, λ found. either_way ((vref_version found % 2 == 1) && (vref_nref found == 1)) _ _ Still (still_recycle i (found - 1) next after) (after false))

still_ending : (os : List ℕ) → Still (ending_of os)
still_ending [] = tt
still_ending (o ∷ os) = let rest = still_ending os in (
  refl,
  refl,
  λ word. either_way (word == 0) _ _ Still rest (either_way (word == NO_SOCKET) _ _ Still rest (
    refl,
    refl,
    λ found. either_way (vref_version found == socket_id_version (word - 1)) _ _ Still
        (refl, refl, λ odd. either_way (vref_version odd % 2 == 0) _ _ Still (refl, refl, λ _. (refl, refl, λ _. still_release (socket_id_slot (word - 1)) (λ _. ending_of os) (λ _. rest))) (still_release (socket_id_slot (word - 1)) (λ _. ending_of os) (λ _. rest)))
        (still_release (socket_id_slot (word - 1)) (λ _. ending_of os) (λ _. rest)),
  )),
)

first_is : (program : Program) → Still program → first_step program ≡ program
first_is (Do call next) x = refl
first_is Rest x = refl
first_is _ x = absurd x

next_is : (ws : List Retry) (program : Program) → Still program → next_step (resolved ws program) ≡ program
next_is ws (Do call next) x = refl
next_is ws Rest x = refl
next_is ws _ x = absurd x

stores_none : (program : Program) → Still program → next_stores program ≡ none
stores_none (Do call next) x = x.0
stores_none Rest x = refl
stores_none _ x = absurd x

never_comes : (p : Plan) (first program : Program) → Still first → ComesNext p first program → ⊥
never_comes p (Do call next) program x comes = comes
never_comes p Rest program x comes = comes
never_comes p _ program x comes = x

-- ## Its ticks

abbrev IsPast : Core → ℕ → ℕ → Type 0
IsPast c i h = h < vref_version (get_or c.words (ref_index i) 0)

module _ (p : Plan) (retries : RetriesGo p) where
  -- seat 0 makes the ending
  abbrev MakesEnding : Core → Type 0
  MakesEnding c = (seat : SeatState) → get_elem? c.seats 0 ≡ some seat → Still seat.program

  makes_ticks : (c : Core) (vs : List View) (m : Moment) → m.seat ≡ 0 → Sound p c vs → IsAnswered c m → IsFitting p c m → MakesEnding c → MakesEnding (ticked p c m)
  makes_ticks c vs m own sound answered fits e = tick_keeps_marks p c vs m sound answered fits (λ d ws. MakesEnding d) e
      (λ seat v call next at_seat at_view is goes s at. let x = e seat (sym (ap (get_elem? c.seats) own) ∙ at_seat) in let y = subst Still (sym (first_is seat.program x) ∙ is) x in
      ⊎_elim (λ a. subst (λ (z : SeatState). Still z.program) a.1 (subst Still (sym (next_is (waiting_at c.calls.waiting m.seat) (next (found_at c.words (word_of p call))) (y.2 (found_at c.words (word_of p call))))) (y.2 (found_at c.words (word_of p call)))))
      (λ a. absurd (a.0 (sym own))) (at_set c.seats m.seat 0 _ s at))
      (λ seat v program rights hand hs a at_seat at_view comes. let x = e seat (sym (ap (get_elem? c.seats) own) ∙ at_seat) in absurd (never_comes p (first_step seat.program) program (subst Still (sym (first_is seat.program x)) x) comes))

  -- no life is made
  back_ticks : (i h k : ℕ) (c : Core) (vs : List View) (m : Moment) → m.seat ≡ 0 → Sound p c vs → IsAnswered c m → IsFitting p c m → MakesEnding c → IsGiven (ticked p c m) (views_after p c vs m) i h k → IsGiven c vs i h k
  back_ticks i h k c vs m own sound answered fits e = tick_keeps_marks p c vs m sound answered fits (λ d ws. IsGiven d ws i h k → IsGiven c vs i h k) (λ g. g)
      (λ seat v call next at_seat at_view is goes given. let x = e seat (sym (ap (get_elem? c.seats) own) ∙ at_seat) in let y = subst Still (sym (first_is seat.program x) ∙ is) x in
      let w : View = row p call (found_at c.words (word_of p call)) (hand_at p c.words c.homes call) v in
      let moved = counts (state c vs) m.seat v w at_view (words_after c.words (word_of p call) (word_after call (found_at c.words (word_of p call)))) (homes_after p call seat.hand c.homes) (is_linked h k) i in
      omega (arith, given, moved, links_only p v (found_at c.words (word_of p call)) (hand_at p c.words c.homes call) h k call y.1 i))
      (λ seat v program rights hand hs a at_seat at_view comes given. let moved = counts (state c vs) m.seat v (with_rights v rights) at_view c.words hs (is_linked h k) i in omega (arith, given, moved))

  back_along : (i h k n : ℕ) (c : Core) (vs : List View) → Sound p c vs → AreAnswered p c (replicate n (quiet 0)) → AreFitting p c (replicate n (quiet 0)) → MakesEnding c
      → IsGiven (run p c (replicate n (quiet 0))) (views_along p c vs (replicate n (quiet 0))) i h k → IsGiven c vs i h k
  back_along i h k zero c vs sound answered fits e given = given
  back_along i h k (suc n) c vs sound answered fits e given = back_ticks i h k c vs (quiet 0) refl sound answered.0 fits.0 e (back_along i h k n (ticked p c (quiet 0)) (views_after p c vs (quiet 0))
      (sound_ticks p retries c vs (quiet 0) sound answered.0 fits.0) answered.1 fits.1 (makes_ticks c vs (quiet 0) refl sound answered.0 fits.0 e) given)

  module _ (i h k o : ℕ) (inside : i < p.slots) (within : o < p.operations) where
    -- the life stands in the word of the `open`, and it is past, or seat 0 has still to set it failed
    record Passing (c : Core) (vs : List View) : Type 0 where
      given : IsGiven c vs i h k
      word : get_or c.words (open_index p o) 0 ≡ socket_id h i + 1
      makes : MakesEnding c
      fails : (seat : SeatState) → get_elem? c.seats 0 ≡ some seat → IsPast c i h ⊎ Fails o (socket_id h i + 1) seat.program

    passing_step : (c : Core) (vs : List View) (j : ℕ) (v : View) (call : TableStep) (next : ℕ → Program) → Sound p c vs → get_elem? vs j ≡ some v → Rattle.seat_programs.specs.StepTables.May p v call → IsGiven c vs i h k → get_or c.words (open_index p o) 0 ≡ socket_id h i + 1
        → IsPast c i h ⊎ Fails o (socket_id h i + 1) (Do call next)
        → (h < vref_version (get_or (words_after c.words (word_of p call) (word_after call (found_at c.words (word_of p call)))) (ref_index i) 0)) ⊎ Fails o (socket_id h i + 1) (next (found_at c.words (word_of p call)))
    passing_step c vs j v call next sound at may given word x = ⊎_elim (λ past. gone past)
        (λ f. ⊎_elim (λ a. let id_is = a.1 in let few = sound.limits.slots in let slot_is : socket_id_slot a.0 ≡ i = omega (arith, id_is, few, inside) in let version_is : socket_id_version a.0 ≡ h = omega (arith, id_is, few, inside) in
        let far = a.2 in let low = given_low p c vs sound i h k inside given in
        let other : vref_version (get_or c.words (ref_index i) 0) ≢ h = (λ e. far (ap (λ z. vref_version (get_or c.words (ref_index z) 0)) slot_is ∙ (e ∙ sym version_is))) in gone (omega (arith, low, other)))
        (λ b. ⊎_elim (λ made. let few = sound.limits.slots in let slot_is : socket_id_slot (socket_id h i + 1 - 1) ≡ i = omega (arith, few, inside) in let is : call ≡ OnSlot (SetOdd i) = made ∙ ap (λ j. OnSlot (SetOdd j)) slot_is in
        inl (subst (λ y. h < vref_version (get_or (words_after c.words (word_of p y) (word_after y (found_at c.words (word_of p y)))) (ref_index i) 0)) (sym is) (odd_past p c vs sound j v at i h inside (given_born p c vs sound i h k inside given)))) (λ g. inr g) b)
        (what_fails p c.words o (socket_id h i + 1) call next word f)) x
      where
        gone : IsPast c i h → (h < vref_version (get_or (words_after c.words (word_of p call) (word_after call (found_at c.words (word_of p call)))) (ref_index i) 0)) ⊎ Fails o (socket_id h i + 1) (next (found_at c.words (word_of p call)))
        gone past = let on = versions_on p c vs sound j v at call may i inside in inl (omega (arith, past, on))

    passing_ticks : (c : Core) (vs : List View) (m : Moment) → m.seat ≡ 0 → Sound p c vs → IsAnswered c m → IsFitting p c m → Passing c vs → Passing (ticked p c m) (views_after p c vs m)
    passing_ticks c vs m own sound answered fits r = let x = both in record {
      given = run_given p i h k retries c vs (m ∷ []) sound (answered, tt) (fits, tt) r.given;
      word = x.0;
      makes = makes_ticks c vs m own sound answered fits r.makes;
      fails = x.1;
    }
      where
        both : (get_or (ticked p c m).words (open_index p o) 0 ≡ socket_id h i + 1) × ((seat : SeatState) → get_elem? (ticked p c m).seats 0 ≡ some seat → IsPast (ticked p c m) i h ⊎ Fails o (socket_id h i + 1) seat.program)
        both = tick_keeps_marks p c vs m sound answered fits
            (λ d ws. (get_or d.words (open_index p o) 0 ≡ socket_id h i + 1) × ((seat : SeatState) → get_elem? d.seats 0 ≡ some seat → IsPast d i h ⊎ Fails o (socket_id h i + 1) seat.program)) (r.word, r.fails)
            (λ seat v call next at_seat at_view is goes. let at_zero = sym (ap (get_elem? c.seats) own) ∙ at_seat in let x = r.makes seat at_zero in let program_is = sym (first_is seat.program x) ∙ is in let y = subst Still program_is x in (
              opens_same p c.words v o within call goes.0 y.0 ∙ r.word,
              λ s at. ⊎_elim (λ a. subst (λ (z : SeatState). (h < vref_version (get_or (words_after c.words (word_of p call) (word_after call (found_at c.words (word_of p call)))) (ref_index i) 0)) ⊎ Fails o (socket_id h i + 1) z.program) a.1
                  (subst (λ z. (h < vref_version (get_or (words_after c.words (word_of p call) (word_after call (found_at c.words (word_of p call)))) (ref_index i) 0)) ⊎ Fails o (socket_id h i + 1) z) (sym (next_is (waiting_at c.calls.waiting m.seat) (next (found_at c.words (word_of p call))) (y.2 (found_at c.words (word_of p call)))))
                  (passing_step c vs m.seat v call next sound at_view goes.0 r.given r.word (subst (λ z. IsPast c i h ⊎ Fails o (socket_id h i + 1) z) program_is (r.fails seat at_zero)))))
                  (λ a. absurd (a.0 (sym own))) (at_set c.seats m.seat 0 _ s at),
            ))
            (λ seat v program rights hand hs a at_seat at_view comes. let x = r.makes seat (sym (ap (get_elem? c.seats) own) ∙ at_seat) in absurd (never_comes p (first_step seat.program) program (subst Still (sym (first_is seat.program x)) x) comes))

    passing_along : (n : ℕ) (c : Core) (vs : List View) → Sound p c vs → AreAnswered p c (replicate n (quiet 0)) → AreFitting p c (replicate n (quiet 0)) → Passing c vs → Passing (run p c (replicate n (quiet 0))) (views_along p c vs (replicate n (quiet 0)))
    passing_along zero c vs sound answered fits r = r
    passing_along (suc n) c vs sound answered fits r = passing_along n (ticked p c (quiet 0)) (views_after p c vs (quiet 0)) (sound_ticks p retries c vs (quiet 0) sound answered.0 fits.0) answered.1 fits.1 (passing_ticks c vs (quiet 0) refl sound answered.0 fits.0 r)

-- ## A run

module _ (script : List Item) (made : AreMade script) (turns : List Turn) (core : Core) (is : IsRunWithCalls script turns core) where
  abbrev closing : Core
  closing = closing_of script turns core is

  abbrev views : List View
  views = views_played script turns core is (first_views script)

  abbrev closed : Core
  closed = run (plan_of script) (closing_of script turns core is) (replicate is.last (quiet 0))

  closing_is_sound : Sound (plan_of script) (closing_of script turns core is) (views_played script turns core is (first_views script))
  closing_is_sound = closing_sound script made.are (first_views script) (start script made turns core is) (go script made turns core is) turns core is (fitting script made turns core is)

  answered : AreAnswered (plan_of script) (closing_of script turns core is) (replicate is.last (quiet 0))
  answered = end_answered script made.are (first_views script) (start script made turns core is) (go script made turns core is) turns core is (fitting script made turns core is)

  recorded : Recorded (plan_of script) (Rattle.ended_calls.specs.refused_attempts.specs.Below.programs_allowed.specs.program_walks.proofs.WholeScriptSound.IsListed script) (closing_of script turns core is) (views_played script turns core is (first_views script))
  recorded = recorded_closing script made.are (first_views script) (start script made turns core is) (go script made turns core is) turns core is (fitting script made turns core is)

  -- seat 0 as it begins the ending
  abbrev first_of_ending : SeatState
  first_of_ending = record { program = next_step (resolved (waiting_at (played script is.setup (is.scheduled ++ is.later)).calls.waiting 0) (ending_of (opens script))); hand = [] }

  makes : MakesEnding (plan_of script) (go script made turns core is) (closing_of script turns core is)
  makes seat at = ⊎_elim (λ a. subst (λ (z : SeatState). Still z.program) a.1 (subst Still (sym (next_is (waiting_at (played script is.setup (is.scheduled ++ is.later)).calls.waiting 0) (ending_of (opens script)) (still_ending (opens script)))) (still_ending (opens script))))
      (λ a. absurd (a.0 refl)) (at_set (played script is.setup (is.scheduled ++ is.later)).seats 0 0 first_of_ending seat at)

  -- no seat is about to store the word of an `open`
  none_pending : (id : ℕ) → IsPending (closing_of script turns core is) id → ⊥
  none_pending id x = some-ne-none (x.operation, id + 1) (sym x.next ∙ dite (ℕ_discrete x.place 0)
      (λ z. stores_none x.seat.program (makes x.seat (sym (ap (get_elem? closing.seats) z) ∙ x.there)))
      (λ far. let at = sym (set_else (played script is.setup (is.scheduled ++ is.later)).seats 0 x.place first_of_ending far) ∙ x.there in
      ⊎_elim (λ rest. ap next_stores (seat_rests (played script is.setup (is.scheduled ++ is.later)) (rested_ahead script made.are (first_views script) (start script made turns core is) (go script made turns core is) turns core is (fitting script made turns core is)) x.place rest x.seat at))
      (λ a. ap next_stores (ap (λ (s : SeatState). s.program) (some-injective x.seat a.0 (sym at ∙ a.1)) ∙ a.2.2))
      (aside script made turns core is x.place (at_length (played script is.setup (is.scheduled ++ is.later)).seats x.place x.seat at))))

  low : (i h : ℕ) → i < (plan_of script).slots → 0 < count (is_born h) (slot_facts (state (closing_of script turns core is) (views_played script turns core is (first_views script))) i) → socket_id h i + 1 ≢ NO_SOCKET
  low i h inside born e = let sound = closing_is_sound in let s : Rattle.atomic_table.specs.Table.State Rattle.sock_model.specs.declared.home.Home.Home View = state closing views in
      let l = law (plan_of script) (state closing views) sound.lawful.references i inside in let t = life_is (plan_of script).first h ((slot_facts (state closing views) i).version + live (slot_facts (state closing views) i)) (let b = l.born h in omega (arith, born, b)) in
      let t₁ = t.1 in let top = l.top in let few = sound.limits.slots in let e' : h * 4294967296 + i + 1 ≡ 18446744073709551615 = e in omega (arith, t₁, top, lives_le (plan_of script) (state closing views) sound.lawful.references i inside, few, e')

  closed_past : (i h k : ℕ) → i < (plan_of script).slots → IsGiven closed (views_closed script turns core is (first_views script)) i h k → IsPast closed i h
  closed_past i h k inside given = ⊎_elim
      (λ x. let there = x.2.1 in let r = x.3 in
      let passed = passing_along (plan_of script) (go script made turns core is) i h k x.1 inside r.inside is.last closing views closing_is_sound answered (let f = fitting script made turns core is in f.of_closing) (record {
        given = before;
        word = r.word;
        makes = makes;
        fails = λ seat at. inr (⊎_elim (λ a. subst (λ (z : SeatState). Fails x.1 (socket_id h i + 1) z.program) a.1 (subst (Fails x.1 (socket_id h i + 1)) (sym (next_is (waiting_at (played script is.setup (is.scheduled ++ is.later)).calls.waiting 0) (ending_of (opens script)) (still_ending (opens script))))
            (fails_ending x.1 (socket_id h i + 1) (omega arith) (low i h inside born) (opens script) there.0 there.1))) (λ a. absurd (a.0 refl)) (at_set (played script is.setup (is.scheduled ++ is.later)).seats 0 0 first_of_ending seat at));
      }) in
      ⊎_elim (λ past. past) (λ f. absurd (subst (Fails x.1 (socket_id h i + 1)) (at_rest seat.0 seat.1) f)) (passed.fails seat.0 seat.1))
      (λ x. absurd (none_pending (socket_id h i) x))
      (recorded.lives i h inside born)
    where
      before : IsGiven closing views i h k
      before = back_along (plan_of script) (go script made turns core is) i h k is.last closing views closing_is_sound answered (let f = fitting script made turns core is in f.of_closing) makes given

      born : 0 < count (is_born h) (slot_facts (state closing views) i)
      born = given_born (plan_of script) closing views closing_is_sound i h k inside before

      seat : (s : SeatState) × (get_elem? closed.seats 0 ≡ some s)
      seat = at_some closed.seats 0 (let r = run_seats (plan_of script) closing (replicate is.last (quiet 0)) in let l = length-set (played script is.setup (is.scheduled ++ is.later)).seats 0 first_of_ending in let m = many script made turns core is in omega (arith, r, l, m))

      at_rest : (s : SeatState) → get_elem? closed.seats 0 ≡ some s → s.program ≡ Rest
      at_rest s at = seat_rests is.ended (closed_ahead script made.are (first_views script) (start script made turns core is) (go script made turns core is) turns core is (fitting script made turns core is)) 0 is.is_over s (ap (λ (d : Core). get_elem? d.seats 0) is.is_ended ∙ at)

  -- where seat 0 has made the ending, each life that was made is past
  pub ended_past : (i h k : ℕ) → i < (plan_of script).slots → IsGiven is.ended (views_closed script turns core is (first_views script)) i h k → h < vref_version (get_or is.ended.words (ref_index i) 0)
  ended_past i h k inside given = subst (λ (d : Core). h < vref_version (get_or d.words (ref_index i) 0)) (sym is.is_ended)
      (closed_past i h k inside (subst (λ d. IsGiven d (views_closed script turns core is (first_views script)) i h k) is.is_ended given))
