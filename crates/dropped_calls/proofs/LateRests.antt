-- Where the ending of a run begins, and where seat 0 has made it, no seat has claimed a request or writes a link, and each waits at a head where it has nothing in hand, or is at rest.
use Rattle.std.proofs.Common.{◌≡◌, ◌≢◌, ℕ, zero, suc, ◌<◌, ◌⊎◌, Bool, true, false, List, [], ◌∷◌, ◌++◌, length, replicate, inl, inr, ⊎_elim, refl, sym, ap, ◌∙◌, subst}
use Rattle.std.proofs.lemmas.Bool.{true≢false}
use mathlib.Core.Logic.{dite}
use mathlib.Core.Option.{Option, none, some, some-injective}
use native.Mathlib.Decide.{ℕ_discrete}
use lib.ListN.{get_elem?}
use Rattle.atomic_table.proofs.Lists.{set_else}
use Rattle.sock_words.specs.declared.plain.Plan.{Plan}
use Rattle.sock_model.specs.declared.chain.Claim.{Claim}
use Rattle.sock_model.specs.declared.chain.Right.{Right}
use Rattle.sock_model.specs.declared.view.View.{View}
use Rattle.seat_programs.specs.brpc_model.specs.Items.{Item}
use Rattle.seat_programs.specs.brpc_model.specs.Operations.{Turn}
use Rattle.seat_programs.specs.ClientProgram.{client_from}
use Rattle.seat_programs.specs.LoopHeads.{Head, Exit, Posts, Unlocks, Decides}
use Rattle.seat_programs.specs.Programs.{Program, Rest, Round}
use Rattle.seat_programs.specs.Cores.{Core, SeatState, resolved, next_step}
use Rattle.seat_programs.specs.ScheduledRuns.{IsAtRest}
use Rattle.seat_programs.specs.Tasks.{opens, calls, plan_of, id_plan_of}
use Rattle.seat_programs.specs.Ticks.{Answer, Moment, AreAnswered, IsAnswered, quiet, ticked, run, waits, waits_at}
use Rattle.seat_programs.specs.ScriptSetupToEnding.{sizes_of, programs, readers_from, all_programs, all_tasks, opened, set_up, played, IsRunWithCalls}
use Rattle.ended_calls.specs.refused_attempts.specs.Below.programs_allowed.specs.program_steps.specs.ProgramGoesOn.{GoesOn, HasNothing}
use Rattle.ended_calls.specs.refused_attempts.specs.Below.programs_allowed.specs.program_steps.specs.SoundSeats.{Sound, IsFitting, AreFitting, views_after, views_along}
use Rattle.ended_calls.specs.refused_attempts.specs.Below.programs_allowed.specs.sock_runs.proofs.SoundAlongRuns.{seat_rests}
use Rattle.ended_calls.specs.refused_attempts.specs.Below.programs_allowed.specs.program_steps.proofs.TickCases.{tick_keeps_marks}
use Rattle.ended_calls.specs.refused_attempts.specs.Below.programs_allowed.specs.sock_runs.proofs.LinkTicks.{RetriesGo}
use Rattle.ended_calls.specs.refused_attempts.specs.Below.programs_allowed.specs.program_walks.proofs.OpenedLivesRecorded.{mapped}
use Rattle.ended_calls.specs.refused_attempts.specs.Below.programs_allowed.specs.sock_runs.proofs.TicksKeepSeatsSound.{sound_ticks}
use Rattle.ended_calls.specs.refused_attempts.specs.Below.programs_allowed.specs.sock_runs.proofs.TicksOfWaitingSeats.{StandsAside}
use Rattle.ended_calls.specs.refused_attempts.specs.Below.programs_allowed.specs.program_walks.proofs.WholeScriptSound.{closing_of, views_played, views_closed, set_up_answered, end_answered, set_up_sound, played_sound, closing_sound, closed_sound, rested_ahead, closed_ahead}
use Rattle.ended_calls.specs.refused_attempts.specs.Below.programs_allowed.specs.SeatOpenings.{all_seats}
use Rattle.ended_calls.specs.refused_attempts.specs.Below.joint_runs.proofs.RunsOfBothTables.{AreMade, first_views}
use Rattle.ended_calls.specs.refused_attempts.specs.Below.programs_allowed.proofs.FreshSeatsAtStart.{opening_rights, opening_claims}
use Rattle.ended_calls.specs.refused_attempts.specs.accept_counts.proofs.ProgramsAtBeginning.{all_begin}
use Rattle.ended_calls.specs.refused_attempts.specs.accept_counts.proofs.EarlyClosedSockets.{start, go, fitting}
use Rattle.dropped_calls.proofs.LateLooks.{Mode, Idle, Looks, client_looks, reader_looks, looks_next}
use Rattle.dropped_calls.proofs.LateSeats.{Claiming, Righted, Never, Stands, AllStand, Tells, stand_ticks}
use Rattle.ended_calls.specs.refused_attempts.specs.accept_counts.proofs.RestsWithoutCalls.{still, aside}
use Rattle.corr_core.proofs.NoteSums.{at_length}

-- of all links, and no life is old
abbrev pub Any : ℕ → Type 0
Any k = Unit {0}

abbrev pub NoOld : ℕ → ℕ → Type 0
NoOld i h = ⊥

abbrev pub HasNone : View → Type 0
HasNone v = (v.claims ≡ []) × (v.rights ≡ [])

none_claimed : (cs : List Claim) → Claiming Never cs → cs ≡ []
none_claimed [] e = refl
none_claimed (c ∷ cs) e = absurd e.0

none_written : (rs : List Right) → Righted Never rs → rs ≡ []
none_written [] e = refl
none_written (r ∷ rs) e = absurd e.0

-- a seat that has none stands so, of whatever links
pub none_stands : (p : Plan) (L : ℕ → Type 0) (Old : ℕ → ℕ → Type 0) (v : View) → HasNone v → Stands p L Old Idle v
none_stands p L Old v e = record { claims = subst (Claiming Never) (sym e.0) tt; rights = subst (Righted Never) (sym e.1) tt; new = tt }

stands_none : (p : Plan) (v : View) → Stands p Any NoOld Idle v → HasNone v
stands_none p v s = (none_claimed v.claims s.claims, none_written v.rights s.rights)

module _ (p : Plan) where
  no_tell : (c : Core) (vs : List View) → Tells p Any NoOld c vs
  no_tell c vs = record { live = λ j v id at may even old. old; given = λ j v id q at may new. tt }

  stand_along : RetriesGo p → (ms : List Moment) (c : Core) (vs : List View) → Sound p c vs → AreAnswered p c ms → AreFitting p c ms → AllStand p Any NoOld c vs → AllStand p Any NoOld (run p c ms) (views_along p c vs ms)
  stand_along goes [] c vs sound answered fits all = all
  stand_along goes (m ∷ ms) c vs sound answered fits all = stand_along goes ms (ticked p c m) (views_after p c vs m) (sound_ticks p goes c vs m sound answered.0 fits.0) answered.1 fits.1
      (stand_ticks p Any NoOld c vs m sound answered.0 fits.0 (no_tell c vs) all)

  -- ## Ticks of another seat

  others_tick : (j : ℕ) (c : Core) (vs : List View) (m : Moment) → j ≢ m.seat → Sound p c vs → IsAnswered c m → IsFitting p c m → (get_elem? (ticked p c m).seats j ≡ get_elem? c.seats j) × (get_elem? (views_after p c vs m) j ≡ get_elem? vs j)
  others_tick j c vs m far sound answered fitting = tick_keeps_marks p c vs m sound answered fitting (λ d ws. (get_elem? d.seats j ≡ get_elem? c.seats j) × (get_elem? ws j ≡ get_elem? vs j)) (refl, refl)
      (λ seat v call next at_seat at_view is goes. (set_else c.seats m.seat j _ far, set_else vs m.seat j _ far))
      (λ seat v program rights hand hs a at_seat at_view comes. (set_else c.seats m.seat j _ far, set_else vs m.seat j _ far))

  pub others_along : RetriesGo p → (j i : ℕ) → j ≢ i → (n : ℕ) (c : Core) (vs : List View) → Sound p c vs → AreAnswered p c (replicate n (quiet i)) → AreFitting p c (replicate n (quiet i))
      → (get_elem? (run p c (replicate n (quiet i))).seats j ≡ get_elem? c.seats j) × (get_elem? (views_along p c vs (replicate n (quiet i))) j ≡ get_elem? vs j)
  others_along goes j i far zero c vs sound answered fits = (refl, refl)
  others_along goes j i far (suc n) c vs sound answered fits = let one = others_tick j c vs (quiet i) far sound answered.0 fits.0 in
      let more = others_along goes j i far n (ticked p c (quiet i)) (views_after p c vs (quiet i)) (sound_ticks p goes c vs (quiet i) sound answered.0 fits.0) answered.1 fits.1 in (more.0 ∙ one.0, more.1 ∙ one.1)

-- who waits at a head has nothing in hand
waits_idle : (p : Plan) (c : Core) (answer : Answer) (m : Mode) (head : Head) (next : Exit head → Program) → waits_at p c answer (Round head next) ≡ true → Looks m (Round head next) → m ≡ Idle
waits_idle p c answer m (Posts id e w) next is x = absurd (true≢false (sym is))
waits_idle p c answer m (Unlocks i w advance) next is x = absurd (true≢false (sym is))
waits_idle p c answer m (Decides id asked w e) next is x = absurd (true≢false (sym is))
waits_idle p c answer m _ next is x = x.0

of_seat : (p : Plan) (c : Core) (m : Moment) (j : ℕ) (seat : SeatState) → m.seat ≡ j → get_elem? c.seats j ≡ some seat → waits p c m ≡ true → waits_at p c m.answer seat.program ≡ true
of_seat p c m j seat same at is = sym (ap (λ (o : Option SeatState). elim o as (λ o. Bool) [ none ↦ false | some seat ↦ waits_at p c m.answer seat.program ]) (ap (get_elem? c.seats) same ∙ at)) ∙ is

module _ (script : List Item) (made : AreMade script) (turns : List Turn) (core : Core) (is : IsRunWithCalls script turns core) where
  opened_stand : AllStand (plan_of script) Any NoOld (opened script) (first_views script)
  opened_stand j seat v at at_view = let x = mapped (λ (program : Program). record { program = next_step (resolved [] program); hand = [] }) (all_programs (programs (sizes_of (plan_of script) (id_plan_of script)) (all_tasks script)) (readers_from (calls script) 0 (opens script))) j seat at in
      let looks = all_begin (Looks Idle) tt (calls script) (reader_looks (calls script)) (programs (sizes_of (plan_of script) (id_plan_of script)) (all_tasks script)) (opens script) j x.0
      (λ of_client. let y = mapped (client_from (sizes_of (plan_of script) (id_plan_of script)) []) (all_tasks script) j x.0 of_client in subst (Looks Idle) y.2 (client_looks (sizes_of (plan_of script) (id_plan_of script)) y.0 [] Idle tt)) x.1 in
      let y = looks_next Idle [] x.0 looks in subst (λ (s : SeatState). (m : Mode) × Looks m s.program × Stands (plan_of script) Any NoOld m v) x.2 (
        Idle,
        subst (λ n. Looks n (next_step (resolved [] x.0))) (idle y.0 y.1) y.2,
        none_stands (plan_of script) Any NoOld v (opening_claims (plan_of script) (all_seats (all_tasks script) (length (opens script))) j v at_view, opening_rights (plan_of script) (all_seats (all_tasks script) (length (opens script))) j v at_view),
      )
    where
      idle : (n : Mode) → (n ≡ Idle) ⊎ (Unit {0} × (n ≡ Idle)) → n ≡ Idle
      idle n (inl e) = e
      idle n (inr e) = e.1

  played_stand : AllStand (plan_of script) Any NoOld (played script is.setup (is.scheduled ++ is.later)) (views_played script turns core is (first_views script))
  played_stand = let g = go script made turns core is in let f = fitting script made turns core is in let s = start script made turns core is in
      stand_along (plan_of script) g (is.scheduled ++ is.later) (set_up script is.setup) (views_along (plan_of script) (opened script) (first_views script) (replicate is.setup (quiet 0)))
      (set_up_sound script made.are (first_views script) s g turns core is f) is.answered f.of_played
      (stand_along (plan_of script) g (replicate is.setup (quiet 0)) (opened script) (first_views script) s.sound (set_up_answered script made.are (first_views script) s g turns core is f) f.of_setup opened_stand)

  -- the seat is at rest or waits, with no claim and no right
  abbrev pub IsIdle : Program → View → Type 0
  IsIdle program v = Looks Idle program × HasNone v

  rests_idle : (c : Core) (ws : List View) → Sound (plan_of script) c ws → (j : ℕ) (seat : SeatState) (v : View) → get_elem? c.seats j ≡ some seat → get_elem? ws j ≡ some v → seat.program ≡ Rest → IsIdle seat.program v
  rests_idle c ws sound j seat v at at_view rest = let n : HasNothing v = subst (GoesOn (plan_of script) v) rest (sound.seats j seat v at at_view).goes_on in let q = n.quiet in (subst (Looks Idle) (sym rest) tt, (q.claims, q.rights))

  -- where the ending begins
  pub played_idle : (j : ℕ) (seat : SeatState) (v : View) → get_elem? (played script is.setup (is.scheduled ++ is.later)).seats j ≡ some seat → get_elem? (views_played script turns core is (first_views script)) j ≡ some v → IsIdle seat.program v
  played_idle j seat v at at_view = ⊎_elim (λ rest. resting rest)
      (λ w. ⊎_elim (λ rest. resting rest) (λ a. waiting w a) (aside script made turns core is j inside)) (still script made turns core is j inside)
    where
      inside : j < length (played script is.setup (is.scheduled ++ is.later)).seats
      inside = at_length (played script is.setup (is.scheduled ++ is.later)).seats j seat at

      resting : IsAtRest (played script is.setup (is.scheduled ++ is.later)) j → IsIdle seat.program v
      resting rest = rests_idle (played script is.setup (is.scheduled ++ is.later)) (views_played script turns core is (first_views script)) (played_sound script made.are (first_views script) (start script made turns core is) (go script made turns core is) turns core is (fitting script made turns core is))
          j seat v at at_view (seat_rests (played script is.setup (is.scheduled ++ is.later)) (rested_ahead script made.are (first_views script) (start script made turns core is) (go script made turns core is) turns core is (fitting script made turns core is)) j rest seat at)

      waiting : (m : Moment) × (m.seat ≡ j) × Rattle.seat_programs.specs.Ticks.IsAlwaysReady m × (waits (plan_of script) (played script is.setup (is.scheduled ++ is.later)) m ≡ true) → StandsAside (played script is.setup (is.scheduled ++ is.later)) j → IsIdle seat.program v
      waiting w a = let same : a.0 ≡ seat = some-injective a.0 seat (sym a.1 ∙ at) in let at_head = ap (λ (s : SeatState). s.program) (sym same) ∙ a.2.2 in
          let x = played_stand j seat v at at_view in
          let idle = waits_idle (plan_of script) (played script is.setup (is.scheduled ++ is.later)) w.0.answer x.0 a.2.0 a.2.1
          (sym (ap (waits_at (plan_of script) (played script is.setup (is.scheduled ++ is.later)) w.0.answer) at_head) ∙ of_seat (plan_of script) (played script is.setup (is.scheduled ++ is.later)) w.0 j seat w.1 at w.3) (subst (Looks x.0) at_head x.1) in
          (subst (λ n. Looks n seat.program) idle x.1, stands_none (plan_of script) v (subst (λ n. Stands (plan_of script) Any NoOld n v) idle x.2))

  -- and where seat 0 has made it
  pub ended_idle : (j : ℕ) (seat : SeatState) (v : View) → get_elem? is.ended.seats j ≡ some seat → get_elem? (views_closed script turns core is (first_views script)) j ≡ some v → IsIdle seat.program v
  ended_idle j seat v at at_view = dite (ℕ_discrete j 0) (λ z. resting z) (λ far. going far)
    where
      g : RetriesGo (plan_of script)
      g = go script made turns core is

      resting : j ≡ 0 → IsIdle seat.program v
      resting z = rests_idle is.ended (views_closed script turns core is (first_views script)) (closed_sound script made.are (first_views script) (start script made turns core is) g turns core is (fitting script made turns core is)) j seat v at at_view
          (seat_rests is.ended (closed_ahead script made.are (first_views script) (start script made turns core is) g turns core is (fitting script made turns core is)) j (subst (IsAtRest is.ended) (sym z) is.is_over) seat at)

      going : j ≢ 0 → IsIdle seat.program v
      going far = let f = fitting script made turns core is in let s = start script made turns core is in
          let same = others_along (plan_of script) g j 0 far is.last (closing_of script turns core is) (views_played script turns core is (first_views script)) (closing_sound script made.are (first_views script) s g turns core is f) (end_answered script made.are (first_views script) s g turns core is f) f.of_closing in
          played_idle j seat v (sym (set_else (played script is.setup (is.scheduled ++ is.later)).seats 0 j _ far) ∙ (sym same.0 ∙ (sym (ap (λ (d : Core). get_elem? d.seats j) is.is_ended) ∙ at))) (sym same.1 ∙ at_view)
