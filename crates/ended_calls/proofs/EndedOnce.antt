-- In a whole run no attempt has two at words.
use Rattle.std.proofs.Common.{◌≡◌, ℕ, ◌≤◌, ⊎_elim, List, [], ◌∷◌, ◌++◌, map, refl, sym, ◌∙◌, subst, arith}
use Rattle.std.proofs.lemmas.List.{length-map}
use mathlib.Core.Option.{some}
use lib.ListN.{get_elem?}
use Rattle.sock_words.specs.declared.plain.Plan.{Plan}
use Rattle.sock_model.specs.declared.view.View.{View}
use Rattle.seat_programs.specs.brpc_model.specs.Items.{Item}
use Rattle.seat_programs.specs.brpc_model.specs.Operations.{Turn}
use Rattle.corr_core.specs.declared.marks.Plan.{Plan as IdPlan}
use Rattle.sock_message.specs.Asked.{Asked}
use Rattle.seat_programs.specs.ClientProgram.{ending_of}
use Rattle.seat_programs.specs.Cores.{Core, SeatState, resolved, next_step}
use Rattle.seat_programs.specs.Programs.{Program, Say, Sent, Keep, Retries}
use Rattle.seat_programs.specs.Ticks.{Moment, AreAnswered, ticked, run}
use Rattle.seat_programs.specs.Tasks.{opens, calls, plan_of, id_plan_of}
use Rattle.seat_programs.specs.ScriptSetupToEnding.{sizes_of, programs, readers_from, all_programs, all_tasks, beginning, opened, set_up, played, IsRunWithCalls}
use Rattle.refused_attempts.specs.attempted_calls.specs.Below.programs_allowed.specs.program_steps.specs.SoundSeats.{Sound, AreFitting, views_after, views_along}
use Rattle.refused_attempts.specs.attempted_calls.specs.Below.programs_allowed.specs.program_steps.proofs.TickCases.{elem_there}
use Rattle.refused_attempts.specs.attempted_calls.specs.Below.programs_allowed.specs.sock_runs.proofs.LinkTicks.{RetriesGo}
use Rattle.refused_attempts.specs.attempted_calls.specs.Below.programs_allowed.specs.program_walks.proofs.OpenedLivesRecorded.{mapped}
use Rattle.refused_attempts.specs.attempted_calls.specs.Below.programs_allowed.specs.sock_runs.proofs.TicksKeepSeatsSound.{sound_ticks}
use Rattle.refused_attempts.specs.attempted_calls.specs.Below.programs_allowed.specs.program_walks.proofs.WholeScriptSound.{closing_of, views_played, views_closed, set_up_answered, end_answered, set_up_sound, closing_sound, closed_sound}
use Rattle.refused_attempts.specs.attempted_calls.specs.Below.outcome_stories.specs.OperationStories.{In}
use Rattle.refused_attempts.specs.attempted_calls.specs.Below.outcome_causes.proofs.Final.{at_there}
use Rattle.refused_attempts.specs.attempted_calls.specs.Below.outcome_stories.proofs.Members.{contains_in}
use Rattle.refused_attempts.specs.attempted_calls.specs.Below.outcome_causes.proofs.PlainOutcomeCauses.{in_left, in_right, in_both}
use Rattle.refused_attempts.specs.attempted_calls.specs.Below.outcome_causes.proofs.Begin.{no_call}
use Rattle.refused_attempts.specs.attempted_calls.specs.Below.joint_runs.proofs.RunsOfBothTables.{AreMade, first_views}
use Rattle.refused_attempts.specs.attempted_calls.specs.Below.label_runs.specs.AttemptLabelsLeft.{Trial, Idle, Labels}
use Rattle.refused_attempts.specs.attempted_calls.specs.Below.label_runs.proofs.ProgramsKeepAttempts.{ending_goes}
use Rattle.refused_attempts.specs.attempted_calls.specs.Below.call_owing.specs.LivesOfLinks.{ClosesInRun}
use Rattle.refused_attempts.specs.attempted_calls.specs.accept_counts.specs.AttemptCounts.{AreLabelled}
use Rattle.refused_attempts.specs.attempted_calls.specs.accept_counts.specs.EndedCalls.{Store, stored_at, stores_of_run, AreStoredOnce}
use Rattle.refused_attempts.specs.attempted_calls.specs.Below.call_stories.proofs.RunTicks.{in_setup, in_clients, in_closing}
use Rattle.refused_attempts.specs.attempted_calls.specs.accept_counts.proofs.EarlyClosedSockets.{start, go, fitting}
use Rattle.refused_attempts.specs.attempted_calls.specs.accept_counts.proofs.RunsKeepAttemptLaw.{AreLabelledIn, IsCallOf, behind_ids, asked_by, programs_go, none_waits}
use Rattle.refused_attempts.specs.attempted_calls.specs.sent_once.proofs.SocketOperationsTold.{narrow}
use Rattle.refused_attempts.specs.attempted_calls.specs.own_decisions.proofs.EndedTryTicks.{of_try, OnceLaw, moves, once_ticks}
use Rattle.ended_calls.proofs.EndedWhole.{seats_played}
use Rattle.sock_words.specs.Totals.{total}
use Rattle.refused_attempts.specs.attempted_calls.specs.Below.outcome_stories.specs.Facts.{shown_in}

-- ## How a run begins

none_try : (id n : ℕ) (xs : List Program) → total (of_try id n) (map (λ (x : Program). Idle) xs) ≡ 0
none_try id n [] = refl
none_try id n (x ∷ xs) = let r = none_try id n xs in omega (arith, r)

idle_stays : (is_call : Asked → Type 0) (x : Program) → Labels is_call Idle x → Labels is_call Idle (next_step (resolved [] x))
idle_stays is_call (Say o outcome next) g = idle_stays is_call next g
idle_stays is_call (Sent o next) g = idle_stays is_call next g
idle_stays is_call (Keep r next) g = absurd (let e = g.0 in cc)
idle_stays is_call (Retries n after) g = idle_stays is_call after g
idle_stays is_call _ g = g

module _ (p : Plan) (q : IdPlan) (narrow : q.slots ≤ 65536) (is_call : Asked → Type 0) (ids : ℕ → ℕ) where
  begins_once : (xs : List Program) → ((i : ℕ) (x : Program) → get_elem? xs i ≡ some x → Labels is_call Idle x) → OnceLaw is_call ids q [] (beginning p q xs) (map (λ (x : Program). Idle) xs)
  begins_once xs goes = record {
    once = λ id n. (let a = none_try id n xs in let b = none_waits id n q.seats in omega (arith, a, b));
    made = λ id n some_. absurd (let a = none_try id n xs in let b = none_waits id n q.seats in omega (arith, a, b, some_));
    calls = λ k asked e. absurd (no_call q.slots k asked e);
    each = length-map xs (λ (x : Program). Idle) ∙ sym (length-map xs (λ (x : Program). record { program = next_step (resolved [] x); hand = [] }));
    programs = λ j seat t es et. let x = mapped (λ (x : Program). record { program = next_step (resolved [] x); hand = [] }) xs j seat es in
        subst (λ (s : SeatState). Labels is_call t s.program) x.2 (subst (λ y. Labels is_call y (next_step (resolved [] x.0))) (mapped (λ (x : Program). Idle) xs j t et).2 (idle_stays is_call x.0 (goes j x.0 x.1)));
    gone = λ x there. absurd there;
    single = λ x y there. absurd there;
  }

  -- ## Ticks one after another

  -- behind these ticks; all that they stored is among what is told
  pub record Behind (done : List Store) (c : Core) (ms : List Moment) (d : Core) : Type 0 where
    pub all : List Store
    pub trials : List Trial
    pub law : OnceLaw is_call ids q all d trials
    pub old : (x : Store) → In x done → In x all
    pub new : (x : Store) → In x (shown_in stored_at p c ms) → In x all

  pub run_once : RetriesGo p → (ms : List Moment) (c : Core) (vs : List View) → Sound p c vs → AreAnswered p c ms → AreFitting p c ms → AreLabelled ids p q c ms → (done : List Store) (ts : List Trial) → OnceLaw is_call ids q done c ts → Behind done c ms (run p c ms)
  run_once retries [] c vs sound answered fits labelled done ts law = record { all = done; trials = ts; law = law; old = λ x there. there; new = λ x there. absurd there }
  run_once retries (m ∷ ms) c vs sound answered fits labelled done ts law =
      let next = once_ticks p q narrow is_call ids done c ts law labelled.0.0 labelled.0.1 vs sound m answered.0 labelled.1 labelled.2 in
      let r = run_once retries ms (ticked p c m) (views_after p c vs m) (sound_ticks p retries c vs m sound answered.0 fits.0) answered.1 fits.1 labelled.3 (stored_at c m ++ done) next.0 next.1 in record {
        all = r.all;
        trials = r.trials;
        law = r.law;
        old = λ x there. r.old x (in_right (stored_at c m) done x there);
        new = λ x there. ⊎_elim (λ a. r.old x (in_left (stored_at c m) done x a)) (λ a. r.new x a) (in_both (stored_at c m) (shown_in stored_at p (ticked p c m) ms) x there);
      }

-- ## A whole run

module _ (script : List Item) (made : AreMade script) (turns : List Turn) (core : Core) (is : IsRunWithCalls script turns core) (closes : ClosesInRun script turns core is) (ids : ℕ → ℕ) (labelled : AreLabelledIn ids script turns core is) where
  abbrev B : List Store → Core → List Moment → Core → Type 0
  B done c ms d = Behind (plan_of script) (id_plan_of script) (narrow script made turns core is closes) (IsCallOf script) ids done c ms d

  abbrev L : List Store → Core → List Trial → Type 0
  L done c ts = OnceLaw (IsCallOf script) ids (id_plan_of script) done c ts

  abbrev vs : List View
  vs = first_views script

  setup_part : B [] (opened script) (in_setup is) (set_up script is.setup)
  setup_part = run_once (plan_of script) (id_plan_of script) (narrow script made turns core is closes) (IsCallOf script) ids (go script made turns core is) (in_setup is) (opened script) vs (let s = start script made turns core is in s.sound)
      (set_up_answered script made.are vs (start script made turns core is) (go script made turns core is) turns core is (fitting script made turns core is)) (let f = fitting script made turns core is in f.of_setup) labelled.of_setup []
      (map (λ (x : Program). Idle) (all_programs (programs (sizes_of (plan_of script) (id_plan_of script)) (all_tasks script)) (readers_from (calls script) 0 (opens script))))
      (begins_once (plan_of script) (id_plan_of script) (narrow script made turns core is closes) (IsCallOf script) ids (all_programs (programs (sizes_of (plan_of script) (id_plan_of script)) (all_tasks script)) (readers_from (calls script) 0 (opens script)))
      (programs_go (IsCallOf script) (sizes_of (plan_of script) (id_plan_of script)) (all_tasks script) (asked_by script) (calls script) (opens script)))

  clients_part : B setup_part.all (set_up script is.setup) (in_clients is) (played script is.setup (in_clients is))
  clients_part = run_once (plan_of script) (id_plan_of script) (narrow script made turns core is closes) (IsCallOf script) ids (go script made turns core is) (in_clients is) (set_up script is.setup) (views_along (plan_of script) (opened script) vs (in_setup is))
      (set_up_sound script made.are vs (start script made turns core is) (go script made turns core is) turns core is (fitting script made turns core is)) is.answered (let f = fitting script made turns core is in f.of_played) labelled.of_played setup_part.all setup_part.trials setup_part.law

  -- seat 0 begins the ending
  closing_law : (ts : List Trial) × L clients_part.all (closing_of script turns core is) ts
  closing_law = let k = clients_part in let many = seats_played script made turns core is in
      let seat = at_there (played script is.setup (in_clients is)).seats 0 (omega (arith, many)) in
      let t = elem_there (played script is.setup (in_clients is)).seats k.trials 0 seat.0 k.law.each seat.1 in
      let us = behind_ids (plan_of script) (id_plan_of script) (narrow script made turns core is closes) (IsCallOf script) ids (in_clients is) (set_up script is.setup) labelled.of_played in
      let b = moves (plan_of script) (id_plan_of script) (narrow script made turns core is closes) (IsCallOf script) ids k.all (played script is.setup (in_clients is)) k.trials k.law us.0 us.1 0 seat.0 t.0 seat.1 t.1 (ending_of (opens script)) [] (played script is.setup (in_clients is)).homes (ending_goes (IsCallOf script) (opens script)) in
      (b.trials, b.behind)

  closing_part : B clients_part.all (closing_of script turns core is) (in_closing is) (run (plan_of script) (closing_of script turns core is) (in_closing is))
  closing_part = run_once (plan_of script) (id_plan_of script) (narrow script made turns core is closes) (IsCallOf script) ids (go script made turns core is) (in_closing is) (closing_of script turns core is) (views_played script turns core is vs)
      (closing_sound script made.are vs (start script made turns core is) (go script made turns core is) turns core is (fitting script made turns core is)) (end_answered script made.are vs (start script made turns core is) (go script made turns core is) turns core is (fitting script made turns core is))
      (let f = fitting script made turns core is in f.of_closing) labelled.of_closing clients_part.all closing_law.0 closing_law.1

  closed_law : L closing_part.all is.ended closing_part.trials
  closed_law = let l = closing_part.law in subst (λ d. L closing_part.all d closing_part.trials) (sym is.is_ended)
      (record { once = l.once; made = l.made; calls = l.calls; each = l.each; programs = l.programs; gone = λ x there. (let g = l.gone x there in record { attempt = g.attempt; link = g.link; word = g.word; small = g.small; few = g.few; slot = g.slot; none_ = g.none_; made = g.made }); single = l.single })

  final_part : B closing_part.all is.ended is.final (run (plan_of script) is.ended is.final)
  final_part = run_once (plan_of script) (id_plan_of script) (narrow script made turns core is closes) (IsCallOf script) ids (go script made turns core is) is.final is.ended (views_closed script turns core is vs)
      (closed_sound script made.are vs (start script made turns core is) (go script made turns core is) turns core is (fitting script made turns core is)) is.answered_again (let f = fitting script made turns core is in f.of_final) labelled.of_final closing_part.all closing_part.trials closed_law

  all_there : (x : Store) → In x (stores_of_run script turns core is) → In x final_part.all
  all_there x there = ⊎_elim (λ a. final_part.old x (closing_part.old x (clients_part.old x (setup_part.new x a))))
      (λ b. ⊎_elim (λ a. final_part.old x (closing_part.old x (clients_part.new x a)))
      (λ b. ⊎_elim (λ a. final_part.old x (closing_part.new x a)) (λ a. final_part.new x a) (in_both (shown_in stored_at (plan_of script) (closing_of script turns core is) (in_closing is)) (shown_in stored_at (plan_of script) is.ended is.final) x b))
      (in_both (shown_in stored_at (plan_of script) (set_up script is.setup) (in_clients is)) (shown_in stored_at (plan_of script) (closing_of script turns core is) (in_closing is) ++ shown_in stored_at (plan_of script) is.ended is.final) x b))
      (in_both (shown_in stored_at (plan_of script) (opened script) (in_setup is)) (shown_in stored_at (plan_of script) (set_up script is.setup) (in_clients is) ++ (shown_in stored_at (plan_of script) (closing_of script turns core is) (in_closing is) ++ shown_in stored_at (plan_of script) is.ended is.final)) x there)

  -- no attempt has two at words
  pub run_stored_once : AreStoredOnce script turns core is
  run_stored_once o v w at_v at_w same = final_part.law.single (record { operation = o; word = v }) (record { operation = o; word = w })
      (all_there (record { operation = o; word = v }) (contains_in (stores_of_run script turns core is) (record { operation = o; word = v }) at_v)) (all_there (record { operation = o; word = w }) (contains_in (stores_of_run script turns core is) (record { operation = o; word = w }) at_w)) refl same
