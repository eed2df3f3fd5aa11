-- What stands at each part of a run: that no seat has an outcome to say before its next step, how many seats there are, and what its links are to give.
use Rattle.std.proofs.Common.{◌≡◌, ℕ, zero, suc, ◌≤◌, List, [], ◌∷◌, ◌++◌, length, length-set, replicate, sym, ap, ◌∙◌, subst, arith}
use Rattle.std.proofs.lemmas.List.{length-map, append-nil}
use Rattle.std.specs.List.{AllByRecursion}
use mathlib.Core.Option.{some, some-injective, some-ne-none}
use lib.ListN.{get_elem?}
use Rattle.seat_programs.specs.brpc_model.specs.Items.{Item}
use Rattle.seat_programs.specs.brpc_model.specs.Operations.{Turn}
use Rattle.seat_programs.specs.Programs.{Program}
use Rattle.seat_programs.specs.ClientProgram.{ending_of}
use Rattle.seat_programs.specs.Cores.{Core, resolved, waiting_at, next_step}
use Rattle.seat_programs.specs.Ticks.{quiet, run}
use Rattle.seat_programs.specs.Tasks.{opens, calls, plan_of, id_plan_of}
use Rattle.seat_programs.specs.ScriptSetupToEnding.{sizes_of, programs, readers_from, all_programs, all_tasks, opened, ending, set_up, played, is_ending, IsRunWithCalls}
use Rattle.story_steps.specs.Below.programs_allowed.specs.program_steps.specs.SoundSeats.{IsAhead}
use Rattle.story_steps.specs.Below.programs_allowed.specs.sock_runs.proofs.SoundAlongRuns.{seat_ahead, run_ahead, beginning_ahead}
use Rattle.story_steps.specs.Below.programs_allowed.specs.sock_runs.proofs.Quiets.{run_seats}
use Rattle.story_steps.specs.Below.programs_allowed.proofs.LastingTicksOfRuns.{length_all}
use Rattle.seat_programs.specs.id_rule.specs.LawfulIdTable.{newcomer}
use Rattle.story_steps.specs.Below.id_runs.specs.Goes.{IdGoesOn}
use Rattle.story_steps.specs.Below.id_runs.proofs.IdRuleOpening.{all_go}
use Rattle.story_steps.specs.Below.joint_runs.proofs.RunsOfBothTables.{AreMade}
use Rattle.story_steps.specs.Below.joint_runs.proofs.StartsWithBothRules.{narrow}
use Rattle.story_steps.specs.call_stories.specs.LinkReadingLists.{gave_in}
use Rattle.story_steps.specs.call_stories.specs.Scenes.{LeadsTo}
use Rattle.story_steps.specs.call_stories.proofs.LeadingBytesGiven.{run_leads}
use Rattle.story_ticks.proofs.SaidBeforeNextStep.{KeepsFew}
use Rattle.story_ticks.proofs.TicksKeepCallStory.{keeps_few}

module _ (script : List Item) (made : AreMade script) (turns : List Turn) (core : Core) (is : IsRunWithCalls script turns core) where
  pub record RunFacts : Type 0 where
    pub length_is : length (all_programs (programs (sizes_of (plan_of script) (id_plan_of script)) (all_tasks script)) (readers_from (calls script) 0 (opens script))) ≡ (id_plan_of script).seats
    pub few_tries : (i : ℕ) (x : Program) → get_elem? (all_programs (programs (sizes_of (plan_of script) (id_plan_of script)) (all_tasks script)) (readers_from (calls script) 0 (opens script))) i ≡ some x → KeepsFew x
    pub opened_ahead : IsAhead (opened script)
    pub set_up_ahead : IsAhead (set_up script is.setup)
    pub played_ahead : IsAhead (played script is.setup (is.scheduled ++ is.later))
    pub ending_ahead : IsAhead (ending script (played script is.setup (is.scheduled ++ is.later)))
    pub ended_ahead : IsAhead is.ended
    pub end_ahead : IsAhead core
    pub many_played : length (played script is.setup (is.scheduled ++ is.later)).seats ≡ (id_plan_of script).seats
    pub many_closed : length (run (plan_of script) (ending script (played script is.setup (is.scheduled ++ is.later))) (replicate is.last (quiet 0))).seats ≡ (id_plan_of script).seats
    pub many_seats : length core.seats ≡ (id_plan_of script).seats

  small : (id_plan_of script).slots ≤ 65536
  small = narrow (plan_of script) (id_plan_of script) (all_tasks script) (calls script) (opens script) made

  length_is : length (all_programs (programs (sizes_of (plan_of script) (id_plan_of script)) (all_tasks script)) (readers_from (calls script) 0 (opens script))) ≡ (id_plan_of script).seats
  length_is = let seats = made.seats in omega (arith, seats, length_all (plan_of script) (id_plan_of script) (all_tasks script) (calls script) (opens script) made.few_clients)

  few_tries : (i : ℕ) (x : Program) → get_elem? (all_programs (programs (sizes_of (plan_of script) (id_plan_of script)) (all_tasks script)) (readers_from (calls script) 0 (opens script))) i ≡ some x → KeepsFew x
  few_tries i x at = keeps_few (plan_of script) (id_plan_of script) newcomer x (at_place (all_programs (programs (sizes_of (plan_of script) (id_plan_of script)) (all_tasks script)) (readers_from (calls script) 0 (opens script))) i (all_go (plan_of script) (id_plan_of script) small made.operations (all_tasks script) (calls script) (opens script) (let are = made.are in are.fit) made.calls_in made.slots) at)
    where
      at_place : (xs : List Program) (i : ℕ) → AllByRecursion (IdGoesOn (plan_of script) (id_plan_of script) newcomer) xs → get_elem? xs i ≡ some x → IdGoesOn (plan_of script) (id_plan_of script) newcomer x
      at_place [] i go at = absurd (some-ne-none x (sym at))
      at_place (y ∷ ys) zero go at = subst (IdGoesOn (plan_of script) (id_plan_of script) newcomer) (some-injective y x at) go.0
      at_place (y ∷ ys) (suc i) go at = at_place ys i go.1 at

  opened_ahead : IsAhead (opened script)
  opened_ahead = beginning_ahead (plan_of script) (id_plan_of script) (all_programs (programs (sizes_of (plan_of script) (id_plan_of script)) (all_tasks script)) (readers_from (calls script) 0 (opens script)))

  set_up_ahead : IsAhead (set_up script is.setup)
  set_up_ahead = run_ahead (plan_of script) (opened script) (replicate is.setup (quiet 0)) opened_ahead

  played_ahead : IsAhead (played script is.setup (is.scheduled ++ is.later))
  played_ahead = run_ahead (plan_of script) (set_up script is.setup) (is.scheduled ++ is.later) set_up_ahead

  ending_ahead : IsAhead (ending script (played script is.setup (is.scheduled ++ is.later)))
  ending_ahead = let c = played script is.setup (is.scheduled ++ is.later) in seat_ahead c 0 (ending_of (opens script)) [] c.words c.homes played_ahead

  ended_ahead : IsAhead is.ended
  ended_ahead = subst IsAhead (sym is.is_ended) (run_ahead (plan_of script) (ending script (played script is.setup (is.scheduled ++ is.later))) (replicate is.last (quiet 0)) ending_ahead)

  -- no seat has an outcome to say before its next step at the end
  end_ahead : IsAhead core
  end_ahead = subst IsAhead (sym is.is_end) (run_ahead (plan_of script) is.ended is.final ended_ahead)

  many_played : length (played script is.setup (is.scheduled ++ is.later)).seats ≡ (id_plan_of script).seats
  many_played = run_seats (plan_of script) (set_up script is.setup) (is.scheduled ++ is.later) ∙ (run_seats (plan_of script) (opened script) (replicate is.setup (quiet 0))
      ∙ (length-map (all_programs (programs (sizes_of (plan_of script) (id_plan_of script)) (all_tasks script)) (readers_from (calls script) 0 (opens script))) (λ (program : Program). record { program = next_step (resolved [] program); hand = [] }) ∙ length_is))

  many_closed : length (run (plan_of script) (ending script (played script is.setup (is.scheduled ++ is.later))) (replicate is.last (quiet 0))).seats ≡ (id_plan_of script).seats
  many_closed = run_seats (plan_of script) (ending script (played script is.setup (is.scheduled ++ is.later))) (replicate is.last (quiet 0))
      ∙ (length-set (played script is.setup (is.scheduled ++ is.later)).seats 0 (let c = played script is.setup (is.scheduled ++ is.later) in record { program = next_step (resolved (waiting_at c.calls.waiting 0) (ending_of (opens script))); hand = [] }) ∙ many_played)

  many_seats : length core.seats ≡ (id_plan_of script).seats
  many_seats = ap (λ (d : Core). length d.seats) is.is_end ∙ (run_seats (plan_of script) is.ended is.final ∙ (ap (λ (d : Core). length d.seats) is.is_ended ∙ many_closed))

  pub run_facts : RunFacts
  run_facts = record { length_is = length_is; few_tries = few_tries; opened_ahead = opened_ahead; set_up_ahead = set_up_ahead; played_ahead = played_ahead; ending_ahead = ending_ahead; ended_ahead = ended_ahead; end_ahead = end_ahead; many_played = many_played; many_closed = many_closed; many_seats = many_seats }

-- the bytes that the links of the run gave lead to those that they gave in the end
module _ (script : List Item) (turns : List Turn) (core : Core) (is : IsRunWithCalls script turns core) (gives : ℕ → List ℕ) (leads : LeadsTo (plan_of script) (id_plan_of script) (all_tasks script) gives core) where
  abbrev Leads : Core → Type 0
  Leads c = LeadsTo (plan_of script) (id_plan_of script) (all_tasks script) gives c

  pub record Leadings : Type 0 where
    pub ended_leads : Leads is.ended
    pub told_leads : Leads (is_ending (run (plan_of script) (ending script (played script is.setup (is.scheduled ++ is.later))) (replicate is.last (quiet 0))))
    pub closed_leads : Leads (run (plan_of script) (ending script (played script is.setup (is.scheduled ++ is.later))) (replicate is.last (quiet 0)))
    pub ending_leads : Leads (ending script (played script is.setup (is.scheduled ++ is.later)))
    pub played_leads : Leads (played script is.setup (is.scheduled ++ is.later))
    pub set_up_leads : Leads (set_up script is.setup)
    pub opened_leads : Leads (opened script)

  ended_leads : Leads is.ended
  ended_leads = run_leads (plan_of script) (id_plan_of script) (all_tasks script) gives is.final is.ended (subst Leads is.is_end leads)

  told_leads : Leads (is_ending (run (plan_of script) (ending script (played script is.setup (is.scheduled ++ is.later))) (replicate is.last (quiet 0))))
  told_leads = subst Leads is.is_ended ended_leads

  closed_leads : Leads (run (plan_of script) (ending script (played script is.setup (is.scheduled ++ is.later))) (replicate is.last (quiet 0)))
  closed_leads = λ k. told_leads k

  ending_leads : Leads (ending script (played script is.setup (is.scheduled ++ is.later)))
  ending_leads = run_leads (plan_of script) (id_plan_of script) (all_tasks script) gives (replicate is.last (quiet 0)) (ending script (played script is.setup (is.scheduled ++ is.later))) closed_leads

  played_leads : Leads (played script is.setup (is.scheduled ++ is.later))
  played_leads = λ k. ending_leads k

  set_up_leads : Leads (set_up script is.setup)
  set_up_leads = run_leads (plan_of script) (id_plan_of script) (all_tasks script) gives (is.scheduled ++ is.later) (set_up script is.setup) played_leads

  opened_leads : Leads (opened script)
  opened_leads = run_leads (plan_of script) (id_plan_of script) (all_tasks script) gives (replicate is.setup (quiet 0)) (opened script) set_up_leads

  pub leadings : Leadings
  leadings = record { ended_leads = ended_leads; told_leads = told_leads; closed_leads = closed_leads; ending_leads = ending_leads; played_leads = played_leads; set_up_leads = set_up_leads; opened_leads = opened_leads }

pub own_leads : (script : List Item) (core : Core) → LeadsTo (plan_of script) (id_plan_of script) (all_tasks script) (gave_in core) core
own_leads script core k = ([], append-nil (gave_in core k))
