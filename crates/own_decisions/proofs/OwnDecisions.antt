-- In a whole run each decision on an error of an attempt is made by the seat that posted it.
use Rattle.std.proofs.Common.{◌≡◌, ◌≢◌, ◌⊎◌, ℕ, inl, inr, ⊎_elim, List, [], ◌++◌, map, sym, subst, arith}
use Rattle.std.proofs.lemmas.List.{append-nil}
use Rattle.std.specs.List.{AllByRecursion}
use Rattle.seat_programs.specs.brpc_model.specs.Items.{Item}
use Rattle.seat_programs.specs.brpc_model.specs.Operations.{Turn}
use Rattle.corr_core.specs.IdSlotWord.{attempt_of}
use Rattle.corr_core.specs.EndedByRangeOrAttempt.{WHOLE}
use Rattle.seat_programs.specs.ClientProgram.{ending_of}
use Rattle.seat_programs.specs.Cores.{Core}
use Rattle.seat_programs.specs.Programs.{Program}
use Rattle.seat_programs.specs.Ticks.{Moment}
use Rattle.seat_programs.specs.Tasks.{opens, calls, plan_of, id_plan_of}
use Rattle.seat_programs.specs.ScriptSetupToEnding.{sizes_of, programs, readers_from, all_programs, all_tasks, opened, set_up, played, IsRunWithCalls}
use Rattle.sent_once.specs.Below.programs_allowed.specs.program_steps.specs.SoundSeats.{views_along}
use Rattle.sent_once.specs.Below.programs_allowed.specs.program_steps.proofs.TickCases.{elem_there}
use Rattle.sent_once.specs.Below.programs_allowed.specs.program_walks.proofs.WholeScriptSound.{closing_of, views_played, views_closed}
use Rattle.sent_once.specs.Below.outcome_causes.proofs.Final.{at_there}
use Rattle.sent_once.specs.Below.joint_runs.proofs.BothTablesSound.{behind_both}
use Rattle.sent_once.specs.Below.joint_runs.proofs.RunsOfBothTables.{AreMade, first_views, IsSoundRun, joint_runs}
use Rattle.sent_once.specs.Below.script_facts.proofs.ReadScriptFacts.{InRange}
use Rattle.sent_once.specs.Below.script_facts.proofs.Targets.{AreThere}
use Rattle.sent_once.specs.Below.call_owing.specs.LivesOfLinks.{ClosesInRun}
use Rattle.sent_once.specs.Below.call_stories.specs.Decided.{posted_by, Decision, decided_by}
use Rattle.sent_once.specs.Below.call_stories.specs.LinkReadingLists.{advanced_at, gave_in}
use Rattle.sent_once.specs.Below.call_stories.specs.PostsOfRun.{Post, posted_at}
use Rattle.sent_once.specs.Below.call_stories.specs.Scenes.{LeadsTo}
use Rattle.sent_once.specs.Below.story_ticks.proofs.Claiming.{HaveSlots}
use Rattle.sent_once.specs.Below.story_steps.proofs.NumberedTasks.{AreNumbered}
use Rattle.sent_once.specs.Below.story_ticks.proofs.StoryOpening.{Begins}
use Rattle.sent_once.specs.Below.call_causes.proofs.RunOfCallStory as runs
use Rattle.sent_once.specs.Below.story_ticks.proofs.ScriptTasksFitStory.{are_numbered, have_slots, begins}
use Rattle.sent_once.specs.Below.call_stories.proofs.RunTicks.{in_setup, in_clients, in_closing, parts}
use Rattle.sent_once.specs.Below.story_ticks.proofs.RunFacts.{run_facts, leadings}
use Rattle.sent_once.specs.accept_counts.proofs.RestsWithoutCalls.{many}
use Rattle.sent_once.proofs.SocketOperationsTold.{narrow}
use Rattle.own_decisions.proofs.OwnDecisionsPrograms.{ending_goes}
use Rattle.own_decisions.proofs.OwnDecisionsRuns.{in_right, AllQueued, setup_queued, played_queued, Along, run_aims, all_aim, begins_aims}
use Rattle.sent_once.specs.Below.story_steps.proofs.AttemptsBehindAsides.{in_front as in_left}
use Rattle.sent_once.specs.Below.call_causes.proofs.RunOfCallStory.{in_either}
use Rattle.own_decisions.proofs.OwnDecisionsStands.{Stand, Calm}
use Rattle.own_decisions.proofs.OwnDecisionsTicks.{AimLaw, law_more, restarts}
use Rattle.sent_once.specs.Below.outcome_stories.specs.OperationStories.{In}
use Rattle.sent_once.specs.Below.outcome_stories.specs.Facts.{shown_in, shown_in_run}

module _ (script : List Item) (made : AreMade script) (there : AreThere script) (range : AllByRecursion InRange script) (turns : List Turn) (core : Core) (is : IsRunWithCalls script turns core) (closes : ClosesInRun script turns core is) where
  leads : LeadsTo (plan_of script) (id_plan_of script) (all_tasks script) (gave_in core) core
  leads k = ([], append-nil (gave_in core k))

  abbrev numbered : AreNumbered (plan_of script) (id_plan_of script) (all_tasks script) (gave_in core)
  numbered = are_numbered script made there range (gave_in core)

  abbrev slots : HaveSlots (plan_of script) (id_plan_of script) (all_tasks script) (gave_in core)
  slots = have_slots script made there range (gave_in core)

  abbrev fit : Begins (plan_of script) (id_plan_of script) (all_tasks script) (gave_in core) (are_numbered script made there range (gave_in core)) (have_slots script made there range (gave_in core)) (opens script)
  fit = begins script made there range (gave_in core)

  sound : IsSoundRun script turns core is
  sound = joint_runs script turns core is made

  -- ## The ticks of each part

  open parts posted_at is use {setup as posts_in_setup, clients as posts_in_clients, closing as posts_in_closing}
  open parts advanced_at is use {setup as advanced_in_setup, clients as advanced_in_clients, closing as advanced_in_closing}
  open run_facts script made turns core is use {set_up_ahead, ended_ahead}
  open leadings script turns core is (gave_in core) leads use {set_up_leads, played_leads, closed_leads}

  queued_setup : AllQueued (id_plan_of script) (plan_of script) [] (opened script) (in_setup is)
  queued_setup = let s = sound in setup_queued (plan_of script) (id_plan_of script) (all_tasks script) (gave_in core) numbered slots (runs.small script made (gave_in core) numbered slots fit turns core is leads) is.setup [] [] (opened script) (first_views script) s.setup
      set_up_leads (runs.first_tale script made (gave_in core) numbered slots fit turns core is leads).0

  queued_clients : AllQueued (id_plan_of script) (plan_of script) posts_in_setup (set_up script is.setup) (in_clients is)
  queued_clients = let s = sound in played_queued (plan_of script) (id_plan_of script) (all_tasks script) (gave_in core) numbered slots (runs.small script made (gave_in core) numbered slots fit turns core is leads) (in_clients is) posts_in_setup
      advanced_in_setup (set_up script is.setup) (views_along (plan_of script) (opened script) (first_views script) (in_setup is)) s.clients
      set_up_ahead is.is_set_up played_leads (runs.set_up_tale script made (gave_in core) numbered slots fit turns core is leads).0

  queued_closing : AllQueued (id_plan_of script) (plan_of script) (posts_in_setup ++ posts_in_clients) (closing_of script turns core is) (in_closing is)
  queued_closing = let s = sound in setup_queued (plan_of script) (id_plan_of script) (all_tasks script) (gave_in core) numbered slots (runs.small script made (gave_in core) numbered slots fit turns core is leads) is.last (posts_in_setup ++ posts_in_clients)
      (advanced_in_setup ++ advanced_in_clients) (closing_of script turns core is) (views_played script turns core is (first_views script)) s.closing
      closed_leads (runs.ending_tale script made (gave_in core) numbered slots fit turns core is leads).0

  queued_final : AllQueued (id_plan_of script) (plan_of script) ((posts_in_setup ++ posts_in_clients) ++ posts_in_closing) is.ended is.final
  queued_final = let s = sound in played_queued (plan_of script) (id_plan_of script) (all_tasks script) (gave_in core) numbered slots (runs.small script made (gave_in core) numbered slots fit turns core is leads) is.final ((posts_in_setup ++ posts_in_clients) ++ posts_in_closing)
      ((advanced_in_setup ++ advanced_in_clients) ++ advanced_in_closing)
      is.ended (views_closed script turns core is (first_views script)) s.final
      ended_ahead is.is_over (subst (LeadsTo (plan_of script) (id_plan_of script) (all_tasks script) (gave_in core)) is.is_end leads) (runs.ended_tale script made (gave_in core) numbered slots fit turns core is leads).0

  -- ## The parts one after another

  abbrev L : List Post → (ℕ → Post → Type 0) → Core → List Stand → Type 0
  L posted Mine c ss = AimLaw (id_plan_of script) (λ x. In x posted) Mine c ss

  abbrev A : List Post → (ℕ → Post → Type 0) → Core → List Moment → Type 0
  A posted Mine c ms = Along (plan_of script) (id_plan_of script) (narrow script made turns core is closes) posted Mine c ms

  abbrev Mine₀ : ℕ → Post → Type 0
  Mine₀ j x = ⊥

  abbrev Mine₁ : ℕ → Post → Type 0
  Mine₁ j x = Mine₀ j x ⊎ In x (shown_in (posted_by j) (plan_of script) (opened script) (in_setup is))

  abbrev Mine₂ : ℕ → Post → Type 0
  Mine₂ j x = Mine₁ j x ⊎ In x (shown_in (posted_by j) (plan_of script) (set_up script is.setup) (in_clients is))

  abbrev Mine₃ : ℕ → Post → Type 0
  Mine₃ j x = Mine₂ j x ⊎ In x (shown_in (posted_by j) (plan_of script) (closing_of script turns core is) (in_closing is))

  setup_part : A [] Mine₀ (opened script) (in_setup is)
  setup_part = let s = sound in run_aims (plan_of script) (id_plan_of script) (narrow script made turns core is closes) (in_setup is) [] Mine₀ (opened script) (first_views script) s.setup queued_setup
      (map (λ (x : Program). Calm) (all_programs (programs (sizes_of (plan_of script) (id_plan_of script)) (all_tasks script)) (readers_from (calls script) 0 (opens script))))
      (begins_aims (plan_of script) (id_plan_of script) (all_programs (programs (sizes_of (plan_of script) (id_plan_of script)) (all_tasks script)) (readers_from (calls script) 0 (opens script)))
      (all_aim (sizes_of (plan_of script) (id_plan_of script)) (all_tasks script) (calls script) (opens script)))

  clients_part : A posts_in_setup Mine₁ (set_up script is.setup) (in_clients is)
  clients_part = let s = sound in run_aims (plan_of script) (id_plan_of script) (narrow script made turns core is closes) (in_clients is) posts_in_setup Mine₁ (set_up script is.setup) (views_along (plan_of script) (opened script) (first_views script) (in_setup is)) s.clients queued_clients
      setup_part.stands setup_part.law

  -- seat 0 begins the ending
  closing_law : (ss : List Stand) × L (posts_in_setup ++ posts_in_clients) Mine₂ (closing_of script turns core is) ss
  closing_law = let s = sound in let k = clients_part in let c : Core = played script is.setup (in_clients is) in let some_ = many script made turns core is in
      let seat = at_there (played script is.setup (in_clients is)).seats 0 (omega (arith, some_)) in
      let t = elem_there (played script is.setup (in_clients is)).seats k.stands 0 seat.0 k.law.each seat.1 in
      let both = behind_both (plan_of script) (id_plan_of script) (set_up script is.setup) (views_along (plan_of script) (opened script) (first_views script) (in_setup is)) (in_clients is) s.clients in
      let b = restarts (plan_of script) (id_plan_of script) (narrow script made turns core is closes) (λ x. In x (posts_in_setup ++ posts_in_clients)) Mine₂ (played script is.setup (in_clients is)) k.stands k.law both.id_views both.ids 0 seat.0 t.0 seat.1 t.1
      (ending_of (opens script)) (ending_goes (opens script)) in (
        b.0,
        law_more (id_plan_of script) (λ x. In x (posts_in_setup ++ posts_in_clients) ⊎ In x []) (λ x. In x (posts_in_setup ++ posts_in_clients)) (λ j x. Mine₂ j x ⊎ ((j ≡ 0) × In x [])) Mine₂ (closing_of script turns core is) b.0 (λ x old. inl old)
            (λ j x mine. ⊎_elim (λ old. old) (λ now. absurd now.1) mine) b.1,
      )

  closing_part : A (posts_in_setup ++ posts_in_clients) Mine₂ (closing_of script turns core is) (in_closing is)
  closing_part = let s = sound in run_aims (plan_of script) (id_plan_of script) (narrow script made turns core is closes) (in_closing is) (posts_in_setup ++ posts_in_clients) Mine₂ (closing_of script turns core is) (views_played script turns core is (first_views script)) s.closing queued_closing
      closing_law.0 closing_law.1

  closed_law : L ((posts_in_setup ++ posts_in_clients) ++ posts_in_closing) Mine₃ is.ended closing_part.stands
  closed_law = let l = closing_part.law in subst (λ d. L ((posts_in_setup ++ posts_in_clients) ++ posts_in_closing) Mine₃ d closing_part.stands) (sym is.is_ended)
      (record { once = l.once; made = l.made; each = l.each; programs = l.programs; stands = l.stands; ats = l.ats; homes = l.homes; hands = l.hands; posts = l.posts })

  final_part : A ((posts_in_setup ++ posts_in_clients) ++ posts_in_closing) Mine₃ is.ended is.final
  final_part = let s = sound in run_aims (plan_of script) (id_plan_of script) (narrow script made turns core is closes) is.final ((posts_in_setup ++ posts_in_clients) ++ posts_in_closing) Mine₃ is.ended (views_closed script turns core is (first_views script)) s.final queued_final
      closing_part.stands closed_law

  -- ## The whole run

  module _ (j : ℕ) where
    abbrev a : List Post
    a = shown_in (posted_by j) (plan_of script) (opened script) (in_setup is)

    abbrev b : List Post
    b = shown_in (posted_by j) (plan_of script) (set_up script is.setup) (in_clients is)

    abbrev c : List Post
    c = shown_in (posted_by j) (plan_of script) (closing_of script turns core is) (in_closing is)

    abbrev d : List Post
    d = shown_in (posted_by j) (plan_of script) is.ended is.final

    first_there : (x : Post) → Mine₁ j x → In x (a ++ (b ++ (c ++ d)))
    first_there x (inl none_) = absurd none_
    first_there x (inr now) = in_left x a (b ++ (c ++ d)) now

    second_there : (x : Post) → Mine₂ j x → In x (a ++ (b ++ (c ++ d)))
    second_there x (inl old) = first_there x old
    second_there x (inr now) = in_right x a (b ++ (c ++ d)) (in_left x b (c ++ d) now)

    third_there : (x : Post) → Mine₃ j x → In x (a ++ (b ++ (c ++ d)))
    third_there x (inl old) = second_there x old
    third_there x (inr now) = in_right x a (b ++ (c ++ d)) (in_right x b (c ++ d) (in_left x c d now))

    last_there : (x : Post) → Mine₃ j x ⊎ In x d → In x (a ++ (b ++ (c ++ d)))
    last_there x (inl old) = third_there x old
    last_there x (inr now) = in_right x a (b ++ (c ++ d)) (in_right x b (c ++ d) (in_right x c d now))

  -- who decides on an error that isn't for the whole call has posted it
  pub own_decisions : (j : ℕ) (d : Decision) → In d (shown_in_run script turns core is (decided_by j)) → attempt_of d.error ≢ WHOLE → In (record { id = d.id; error = d.error }) (shown_in_run script turns core is (posted_by j))
  own_decisions j d at own = ⊎_elim (λ x. first_there j (record { id = d.id; error = d.error }) (setup_part.owned j d x own))
      (λ rest. ⊎_elim (λ x. second_there j (record { id = d.id; error = d.error }) (clients_part.owned j d x own))
      (λ rest. ⊎_elim (λ x. third_there j (record { id = d.id; error = d.error }) (closing_part.owned j d x own)) (λ x. last_there j (record { id = d.id; error = d.error }) (final_part.owned j d x own))
      (in_either d (shown_in (decided_by j) (plan_of script) (closing_of script turns core is) (in_closing is)) (shown_in (decided_by j) (plan_of script) is.ended is.final) rest))
      (in_either d (shown_in (decided_by j) (plan_of script) (set_up script is.setup) (in_clients is)) (shown_in (decided_by j) (plan_of script) (closing_of script turns core is) (in_closing is) ++ shown_in (decided_by j) (plan_of script) is.ended is.final) rest))
      (in_either d (shown_in (decided_by j) (plan_of script) (opened script) (in_setup is))
      (shown_in (decided_by j) (plan_of script) (set_up script is.setup) (in_clients is) ++ (shown_in (decided_by j) (plan_of script) (closing_of script turns core is) (in_closing is) ++ shown_in (decided_by j) (plan_of script) is.ended is.final)) at)
