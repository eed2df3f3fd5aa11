-- What the steps by which messages were dropped tell at the end of a whole run.
use Rattle.std.proofs.Common.{true, false, ◌≡◌, ℕ, ◌+◌, ◌≤◌, ◌⊎◌, inl, inr, ⊎_elim, ◌++◌, List, [], ◌∷◌, length, replicate, refl, sym, ap, subst, arith}
use Rattle.std.specs.Prelude.{slice_get, Some}
use mathlib.Core.Logic.{dite}
use mathlib.Core.Option.{some}
use native.Mathlib.Decide.{ℕ_discrete}
use lib.ListN.{get_elem?}
use Rattle.atomic_table.proofs.Lists.{at_set}
use Rattle.seat_programs.specs.brpc_model.specs.Items.{Item}
use Rattle.seat_programs.specs.brpc_model.specs.Operations.{Turn}
use Rattle.sock_model.specs.declared.view.View.{View}
use Rattle.sock_model.specs.References.{slot_facts}
use Rattle.sock_model.specs.SocketSlotLaw.{live}
use Rattle.accept_counts.specs.Below.slot_steps.proofs.RuleNumbers.{life-in}
use Rattle.seat_programs.specs.declared.task.Op.{Op}
use Rattle.seat_programs.specs.declared.task.Op.TheVariants as ops
use Rattle.seat_programs.specs.declared.task.Sizes.{Sizes}
use Rattle.seat_programs.specs.declared.task.Task.{Task}
use Rattle.seat_programs.specs.ClientProgram.{client_from, ending_of}
use Rattle.seat_programs.specs.Cores.{Core, SeatState, resolved, waiting_at, next_step}
use Rattle.seat_programs.specs.Programs.{Program}
use Rattle.seat_programs.specs.ScriptSetupToEnding.{sizes_of, programs, readers_from, all_programs, all_tasks, opened, set_up, is_ending, IsRunWithCalls}
use Rattle.seat_programs.specs.Tasks.{opens, calls, plan_of, id_plan_of}
use Rattle.seat_programs.specs.Ticks.{quiet, run}
use Rattle.seat_programs.specs.Explained.{AreTasks}
use Rattle.accept_counts.specs.Below.programs_allowed.specs.program_steps.specs.SoundSeats.{state, Sound, views_along}
use Rattle.accept_counts.specs.Below.programs_allowed.specs.program_steps.proofs.SlotWordBounds.{law}
use Rattle.accept_counts.specs.Below.programs_allowed.specs.sock_runs.proofs.LinkTicks.{RetriesGo}
use Rattle.accept_counts.specs.Below.programs_allowed.specs.program_walks.proofs.OpenedLivesRecorded.{mapped}
use Rattle.accept_counts.specs.Below.programs_allowed.specs.program_walks.proofs.WholeScriptSound.{Begins, AreFittingIn, closing_of, rested_of, views_played, views_closed, views_ended, set_up_answered, end_answered, closing_sound, closed_sound}
use Rattle.accept_counts.specs.Below.outcome_stories.specs.Explains.{is_plain}
use Rattle.accept_counts.specs.Below.outcome_stories.specs.KeptStory.{Story}
use Rattle.accept_counts.specs.Below.outcome_stories.specs.PlainTasks.{told_tasks_of}
use Rattle.accept_counts.specs.Below.outcome_stories.specs.OperationStories.{Event, In}
use Rattle.accept_counts.specs.Below.outcome_ticks.proofs.Lifted.{down}
use Rattle.accept_counts.specs.Below.outcome_stories.proofs.Members.{all_of}
use Rattle.accept_counts.specs.Below.outcome_causes.proofs.ExplainedOpenings.{are_seats}
use Rattle.accept_counts.specs.Below.outcome_causes.proofs.RunsKeepStory.{set_up_over}
use Rattle.accept_counts.specs.Below.outcome_causes.proofs.SocketCausesOfScripts.{story_opened, story_closing, story_ended}
use Rattle.accept_counts.specs.Below.joint_runs.proofs.BothTablesSound.{AreBounded}
use Rattle.accept_counts.proofs.ProgramsAtBeginning.{all_begin}
use Rattle.accept_counts.specs.RefusedOrDropped.{Deed, DidInRun}
use Rattle.sent_once.proofs.SourcesOfSocketCodes.{Failing, NoFail, Stores, OwnsFail, IsOtherCode, client_codes, ending_codes, reader_codes, codes_next}
use Rattle.sent_once.proofs.DropRuns.{Tells, tells_on, Scene, Along, seats_along, setup_along}
use Rattle.sent_once.proofs.DropTicks.{IsFailOf, SeatCodes, CodesLaw}
use Rattle.sent_once.proofs.DropWords.{version_in}
use Rattle.accept_counts.proofs.RunsKeepAttemptLaw.{AreLabelledIn, IsCallOf, first, closing_law, closed_law}
use Rattle.accept_counts.specs.Below.owned_ids.proofs.OpensStored.{place_at}

-- ## How a run begins

module _ (script : List Item) (are : AreTasks (plan_of script) (all_tasks script)) where
  -- each `fail` of a client is one that is told
  owns_fail : (j : ℕ) (ts : List Task) → slice_get (all_tasks script) j ≡ Some ts → (t : Task) → In t ts → OwnsFail (IsFailOf (told_tasks_of script) j) IsOtherCode (inl refl) t.number t.op
  owns_fail j ts at t there = by t.op refl
    where
      by : (op : Op) → t.op ≡ op → OwnsFail (IsFailOf (told_tasks_of script) j) IsOtherCode (inl refl) t.number op
      by (ops.Fail name code) is = (t, name, down (all_tasks script) (length (opens script)) j t (ts, at, there) (ap is_plain is), refl, is)
      by _ is = tt

  clients_codes : (j : ℕ) (x : Program) → get_elem? (programs (sizes_of (plan_of script) (id_plan_of script)) (all_tasks script)) j ≡ some x → Stores (IsFailOf (told_tasks_of script) j) IsOtherCode NoFail x
  clients_codes j x at = let sizes : Sizes = sizes_of (plan_of script) (id_plan_of script) in let t = mapped (client_from sizes []) (all_tasks script) j x at in
      subst (Stores (IsFailOf (told_tasks_of script) j) IsOtherCode NoFail) t.2 (client_codes (IsFailOf (told_tasks_of script) j) IsOtherCode (inl refl) sizes t.0 [] (all_of (λ (u : Task). OwnsFail (IsFailOf (told_tasks_of script) j) IsOtherCode (inl refl) u.number u.op) t.0 (owns_fail j t.0 (place_at (all_tasks script) j t.0 t.1))))

  all_codes : (j : ℕ) (x : Program) → get_elem? (all_programs (programs (sizes_of (plan_of script) (id_plan_of script)) (all_tasks script)) (readers_from (calls script) 0 (opens script))) j ≡ some x → Stores (IsFailOf (told_tasks_of script) j) IsOtherCode NoFail x
  all_codes j x at = all_begin (Stores (IsFailOf (told_tasks_of script) j) IsOtherCode NoFail) tt (calls script) (λ k o. reader_codes (IsFailOf (told_tasks_of script) j) IsOtherCode (inl refl) (λ code other. other) (calls script) k o)
      (programs (sizes_of (plan_of script) (id_plan_of script)) (all_tasks script)) (opens script) j x (λ a. clients_codes j x a) at

  -- no life has failed
  pub opening_codes : (vs : List View) (lost : List ℕ) → Sound (plan_of script) (opened script) vs → Story (plan_of script) (told_tasks_of script) false (opened script) vs [] lost → CodesLaw (told_tasks_of script) (plan_of script) (opened script) vs []
  opening_codes vs lost sound story = record {
    known = λ j h inside even version some_. absurd (
        let l = law (plan_of script) (state (opened script) vs) sound.lawful.references j inside in let none_ = story.births j inside h in let born = l.born h in let begun = l.begun in let first_even = sound.lawful.fits.even in
        let one = life-in (plan_of script).first h (version_in (opened script).words j + live (slot_facts (state (opened script) vs) j)) (omega (arith, begun, version, even, first_even)) (omega (arith, version)) even in omega (arith, one, born, none_)
        );
    seats = λ j. record {
      failing = NoFail;
      program = λ seat at. let x = mapped (λ (x : Program). record { program = next_step (resolved [] x); hand = [] }) (all_programs (programs (sizes_of (plan_of script) (id_plan_of script)) (all_tasks script)) (readers_from (calls script) 0 (opens script))) j seat at in
          subst (λ (s : SeatState). Stores (IsFailOf (told_tasks_of script) j) IsOtherCode NoFail s.program) x.2 (none_next j x.0 (all_codes j x.0 x.1));
      has = tt;
    };
  }
    where
      none_next : (j : ℕ) (x : Program) → Stores (IsFailOf (told_tasks_of script) j) IsOtherCode NoFail x → Stores (IsFailOf (told_tasks_of script) j) IsOtherCode NoFail (next_step (resolved [] x))
      none_next j x stores = let r = codes_next (IsFailOf (told_tasks_of script) j) IsOtherCode (inl refl) NoFail [] x stores in subst (λ g. Stores (IsFailOf (told_tasks_of script) j) IsOtherCode g (next_step (resolved [] x))) (⊎_elim (λ e. e.0) (λ e. e) r.1) r.2

module _ (script : List Item) (are : AreTasks (plan_of script) (all_tasks script)) (vs : List View) (begins : Begins script vs) (fresh : (i : ℕ) (v : View) → get_elem? vs i ≡ some v → v.lists ≡ [] ∷ []) (bare : (i : ℕ) (v : View) → get_elem? vs i ≡ some v → v.claims ≡ []) (go : RetriesGo (plan_of script))
    (turns : List Turn) (core : Core) (is : IsRunWithCalls script turns core) (fitting : AreFittingIn script turns core is) (narrow : (id_plan_of script).slots ≤ 65536) (ids : ℕ → ℕ) (labelled : AreLabelledIn ids script turns core is) (most more : ℕ)
    (bounded_setup : AreBounded (plan_of script) most (opened script) vs (replicate is.setup (quiet 0)))
    (bounded_clients : AreBounded (plan_of script) most (set_up script is.setup) (views_along (plan_of script) (opened script) vs (replicate is.setup (quiet 0))) (is.scheduled ++ is.later))
    (bounded_closing : AreBounded (plan_of script) more (closing_of script turns core is) (views_played script turns core is vs) (replicate is.last (quiet 0)))
    (bounded_final : AreBounded (plan_of script) more is.ended (views_closed script turns core is vs) is.final) where
  abbrev pub SceneOf : Core → List View → Type 0
  SceneOf c ws = Scene (plan_of script) (id_plan_of script) (IsCallOf script) ids (told_tasks_of script) true c ws

  pub seats : AreTasks (plan_of script) (told_tasks_of script)
  seats = are_seats (plan_of script) (all_tasks script) are (length (opens script))

  pub both : (i : ℕ) (v : View) → get_elem? vs i ≡ some v → (v.claims ≡ []) × (v.lists ≡ [] ∷ [])
  both i v at = (bare i v at, fresh i v at)

  -- ## The setup

  pub first_story : Story (plan_of script) (told_tasks_of script) false (opened script) vs [] []
  first_story = story_opened script are vs begins fresh

  abbrev pub first_scene : Scene (plan_of script) (id_plan_of script) (IsCallOf script) ids (told_tasks_of script) false (opened script) vs
  first_scene = let l = first script are vs begins go turns core is fitting narrow both ids labelled in record {
    events = [];
    lost = [];
    sound = begins.sound;
    story = first_story;
    trials = l.0;
    labels = l.1;
    codes = opening_codes script are vs [] begins.sound first_story;
  }

  abbrev pub views_set : List View
  views_set = views_along (plan_of script) (opened script) vs (replicate is.setup (quiet 0))

  pub setup_goes : Along (plan_of script) (id_plan_of script) (IsCallOf script) ids (told_tasks_of script) narrow seats go false (opened script) vs (replicate is.setup (quiet 0)) first_scene
  setup_goes = setup_along (plan_of script) (id_plan_of script) (IsCallOf script) ids (told_tasks_of script) narrow seats go most is.setup (opened script) vs (set_up_answered script are vs begins go turns core is fitting) fitting.of_setup labelled.of_setup bounded_setup first_scene (λ e m. absurd m)

  pub over_scene : (s : SceneOf (set_up script is.setup) views_set) × (s.events ≡ setup_goes.after.events)
  over_scene = let t = setup_goes.after in let o = set_up_over (plan_of script) (told_tasks_of script) seats (set_up script is.setup) views_set (record { events = t.events; lost = t.lost; sound = t.sound; story = t.story }) is.is_set_up in (
    record { events = o.0.events; lost = o.0.lost; sound = o.0.sound; story = o.0.story; trials = t.trials; labels = t.labels; codes = subst (CodesLaw (told_tasks_of script) (plan_of script) (set_up script is.setup) views_set) (sym o.1) t.codes },
    o.1,
  )

  -- ## The clients

  pub clients_go : Along (plan_of script) (id_plan_of script) (IsCallOf script) ids (told_tasks_of script) narrow seats go true (set_up script is.setup) views_set (is.scheduled ++ is.later) over_scene.0
  clients_go = seats_along (plan_of script) (id_plan_of script) (IsCallOf script) ids (told_tasks_of script) narrow seats go most (is.scheduled ++ is.later) (set_up script is.setup) views_set is.answered fitting.of_played labelled.of_played bounded_clients over_scene.0

  -- ## The ending

  pub ending_law : (es : List Event) → CodesLaw (told_tasks_of script) (plan_of script) (rested_of script turns core is) (views_played script turns core is vs) es → CodesLaw (told_tasks_of script) (plan_of script) (closing_of script turns core is) (views_played script turns core is vs) es
  ending_law es l = record {
    known = l.known;
    seats = λ j. dite (ℕ_discrete j 0) (λ e. subst (λ n. SeatCodes (told_tasks_of script) n (closing_of script turns core is) (views_played script turns core is vs) es) (sym e) here) (λ ne. record {
      failing = (l.seats j).failing;
      program = λ seat at. ⊎_elim (λ b. absurd (ne b.0)) (λ b. (l.seats j).program seat b.1) (at_set (rested_of script turns core is).seats 0 j _ seat at);
      has = (l.seats j).has;
    });
  }
    where
      r : (g : Failing) × (((g ≡ NoFail) × (next_step (resolved (waiting_at (rested_of script turns core is).calls.waiting 0) (ending_of (opens script))) ≡ ending_of (opens script))) ⊎ (g ≡ NoFail))
          × Stores (IsFailOf (told_tasks_of script) 0) IsOtherCode g (next_step (resolved (waiting_at (rested_of script turns core is).calls.waiting 0) (ending_of (opens script))))
      r = codes_next (IsFailOf (told_tasks_of script) 0) IsOtherCode (inl refl) NoFail (waiting_at (rested_of script turns core is).calls.waiting 0) (ending_of (opens script)) (ending_codes (IsFailOf (told_tasks_of script) 0) IsOtherCode (inl refl) (inr (inl refl)) (opens script))

      here : SeatCodes (told_tasks_of script) 0 (closing_of script turns core is) (views_played script turns core is vs) es
      here = record {
        failing = NoFail;
        program = λ seat at. ⊎_elim (λ b. subst (λ (z : SeatState). Stores (IsFailOf (told_tasks_of script) 0) IsOtherCode NoFail z.program) b.1 (subst (λ g. Stores (IsFailOf (told_tasks_of script) 0) IsOtherCode g (next_step (resolved (waiting_at (rested_of script turns core is).calls.waiting 0) (ending_of (opens script))))) (⊎_elim (λ e. e.0) (λ e. e) r.1) r.2))
            (λ b. absurd (b.0 refl)) (at_set (rested_of script turns core is).seats 0 0 _ seat at);
        has = tt;
      }

  abbrev pub closing_scene : SceneOf (closing_of script turns core is) (views_played script turns core is vs)
  closing_scene = let t = clients_go.after in let l = closing_law script are vs begins go turns core is fitting narrow both ids labelled in record {
    events = t.events;
    lost = t.lost;
    sound = closing_sound script are vs begins go turns core is fitting;
    story = story_closing script are vs begins go turns core is fitting t.events t.lost t.sound t.story;
    trials = l.0;
    labels = l.1;
    codes = ending_law t.events t.codes;
  }

  pub closing_goes : Along (plan_of script) (id_plan_of script) (IsCallOf script) ids (told_tasks_of script) narrow seats go true (closing_of script turns core is) (views_played script turns core is vs) (replicate is.last (quiet 0)) closing_scene
  closing_goes = seats_along (plan_of script) (id_plan_of script) (IsCallOf script) ids (told_tasks_of script) narrow seats go more (replicate is.last (quiet 0)) (closing_of script turns core is) (views_played script turns core is vs) (end_answered script are vs begins go turns core is fitting) fitting.of_closing labelled.of_closing bounded_closing closing_scene

  pub on_codes : (c : Core) (ws : List View) (es : List Event) → CodesLaw (told_tasks_of script) (plan_of script) c ws es → CodesLaw (told_tasks_of script) (plan_of script) (is_ending c) ws es
  on_codes c ws es l = record { known = l.known; seats = λ j. record { failing = (l.seats j).failing; program = (l.seats j).program; has = (l.seats j).has } }

  abbrev pub ended_scene : SceneOf is.ended (views_closed script turns core is vs)
  ended_scene = let t = closing_goes.after in let l = closed_law script are vs begins go turns core is fitting narrow both ids labelled in record {
    events = t.events;
    lost = t.lost;
    sound = closed_sound script are vs begins go turns core is fitting;
    story = story_ended script are vs begins go turns core is fitting t.events t.lost t.story;
    trials = l.0;
    labels = l.1;
    codes = subst (λ c. CodesLaw (told_tasks_of script) (plan_of script) c (views_closed script turns core is vs) t.events) (sym is.is_ended) (on_codes (run (plan_of script) (closing_of script turns core is) (replicate is.last (quiet 0))) (views_closed script turns core is vs) t.events t.codes);
  }

  pub final_goes : Along (plan_of script) (id_plan_of script) (IsCallOf script) ids (told_tasks_of script) narrow seats go true is.ended (views_closed script turns core is vs) is.final ended_scene
  final_goes = seats_along (plan_of script) (id_plan_of script) (IsCallOf script) ids (told_tasks_of script) narrow seats go more is.final is.ended (views_closed script turns core is vs) is.answered_again fitting.of_final labelled.of_final bounded_final ended_scene

  -- ## The end

  pub story_end : (lost : List ℕ) × Story (plan_of script) (told_tasks_of script) true core (views_ended script turns core is vs) final_goes.after.events lost
  story_end = (final_goes.after.lost, subst (λ c. Story (plan_of script) (told_tasks_of script) true c (views_ended script turns core is vs) final_goes.after.events final_goes.after.lost) (sym is.is_end) final_goes.after.story)

  abbrev pub TellsIn : Core → List Event → Deed → Type 0
  TellsIn c es deed = Tells (plan_of script) (id_plan_of script) (IsCallOf script) ids (told_tasks_of script) c es deed

  at_end : (deed : Deed) → TellsIn is.ended ended_scene.events deed → TellsIn core final_goes.after.events deed
  at_end deed t = subst (λ c. TellsIn c final_goes.after.events deed) (sym is.is_end) (tells_on (plan_of script) (id_plan_of script) (IsCallOf script) ids (told_tasks_of script) is.ended (run (plan_of script) is.ended is.final) ended_scene.events final_goes.after.events final_goes.kept final_goes.stay deed t)

  on_tells : (c : Core) (es : List Event) (deed : Deed) → TellsIn c es deed → TellsIn (is_ending c) es deed
  on_tells c es deed t = tells_on (plan_of script) (id_plan_of script) (IsCallOf script) ids (told_tasks_of script) c (is_ending c) es es (λ e m. m) (λ o n l spoken few label low written. refl) deed t

  at_closed : (deed : Deed) → TellsIn (run (plan_of script) (closing_of script turns core is) (replicate is.last (quiet 0))) closing_goes.after.events deed → TellsIn is.ended closing_goes.after.events deed
  at_closed deed t = subst (λ c. TellsIn c closing_goes.after.events deed) (sym is.is_ended) (on_tells (run (plan_of script) (closing_of script turns core is) (replicate is.last (quiet 0))) closing_goes.after.events deed t)

  at_ended : (deed : Deed) → TellsIn (closing_of script turns core is) closing_scene.events deed → TellsIn is.ended closing_goes.after.events deed
  at_ended deed t = at_closed deed (tells_on (plan_of script) (id_plan_of script) (IsCallOf script) ids (told_tasks_of script) (closing_of script turns core is) (run (plan_of script) (closing_of script turns core is) (replicate is.last (quiet 0))) closing_scene.events closing_goes.after.events closing_goes.kept closing_goes.stay deed t)

  at_rested : (deed : Deed) → TellsIn (rested_of script turns core is) clients_go.after.events deed → TellsIn core final_goes.after.events deed
  at_rested deed t = at_end deed (at_ended deed (tells_on (plan_of script) (id_plan_of script) (IsCallOf script) ids (told_tasks_of script) (rested_of script turns core is) (closing_of script turns core is) clients_go.after.events clients_go.after.events (λ e m. m) (λ o n l spoken few label low written. refl) deed t))

  -- what was done at any time of the run tells so in the end
  pub run_tells : (seat : ℕ) (deed : Deed) → DidInRun script turns core is seat deed → TellsIn core final_goes.after.events deed
  run_tells seat deed (inl (inl d)) = at_rested deed (tells_on (plan_of script) (id_plan_of script) (IsCallOf script) ids (told_tasks_of script) (set_up script is.setup) (rested_of script turns core is) over_scene.0.events clients_go.after.events clients_go.kept clients_go.stay deed
      (subst (λ es. TellsIn (set_up script is.setup) es deed) (sym over_scene.1) (setup_goes.told seat deed d)))
  run_tells seat deed (inl (inr d)) = at_rested deed (clients_go.told seat deed d)
  run_tells seat deed (inr (inl d)) = at_end deed (at_closed deed (closing_goes.told seat deed d))
  run_tells seat deed (inr (inr d)) = subst (λ c. TellsIn c final_goes.after.events deed) (sym is.is_end) (final_goes.told seat deed d)
