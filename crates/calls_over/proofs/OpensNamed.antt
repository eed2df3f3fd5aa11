-- Each at word that stands where the ending begins was stored before, for an attempt of the call that is its operation.
use Rattle.std.proofs.Common.{◌≡◌, ◌≢◌, ℕ, ◌+◌, ◌<◌, ◌≤◌, get_or, true, false, List, [], ◌++◌, length, map, replicate, refl, sym, subst}
use Rattle.std.specs.Prelude.{Bool}
use Rattle.sock_model.specs.declared.view.View.{View}
use Rattle.brpc_model.specs.Items.{Item}
use Rattle.brpc_model.specs.Operations.{Turn, clients}
use Rattle.corr_core.specs.declared.marks.Plan.{Plan as IdPlan}
use Rattle.sock_message.specs.Asked.{Asked}
use Rattle.seat_programs.specs.Cores.{Core}
use Rattle.seat_programs.specs.Programs.{Program}
use Rattle.seat_programs.specs.Ticks.{Moment, quiet}
use Rattle.seat_programs.specs.Tasks.{opens, calls, plan_of, id_plan_of}
use Rattle.seat_programs.specs.ScriptSetupToEnding.{sizes_of, programs, readers_from, all_programs, all_tasks, opened, set_up, played, IsRunWithCalls}
use Rattle.seat_programs.specs.Explained.{AreTasks}
use Rattle.served_fits.specs.Below.programs_allowed.specs.program_steps.specs.SoundSeats.{views_along}
use Rattle.served_fits.specs.Below.programs_allowed.specs.program_walks.proofs.WholeScriptSound.{set_up_answered, set_up_sound}
use Rattle.served_fits.specs.Below.outcome_stories.specs.PlainTasks.{told_tasks_of}
use Rattle.served_fits.specs.Below.outcome_stories.specs.OperationStories.{Event, In}
use Rattle.served_fits.specs.Below.outcome_causes.proofs.Begin.{start_story}
use Rattle.served_fits.specs.Below.outcome_causes.proofs.PlainOutcomeCauses.{in_left, in_right}
use Rattle.served_fits.specs.Below.outcome_causes.proofs.ExplainedOpenings.{are_seats, all_explained}
use Rattle.served_fits.specs.Below.outcome_causes.proofs.RunsKeepStory.{IsStoried, set_up_over}
use Rattle.served_fits.specs.Below.outcome_causes.proofs.SocketCausesOfScripts.{own_from}
use Rattle.id_rule.specs.LawfulIdTable.{at_index}
use Rattle.served_fits.specs.Below.accept_counts.specs.EndedCalls.{Store, stored_at}
use Rattle.served_fits.specs.Below.accept_counts.proofs.RunsKeepAttemptLaw.{AreLabelledIn, IsCallOf, asked_by}
use Rattle.served_fits.specs.Below.attempted_calls.proofs.EndedTrails.{lost}
use Rattle.served_fits.specs.Below.attempted_calls.proofs.EndedNamed.{all_follow, begins_named, Named, Behind, seats_named, setup_named}
use Rattle.served_fits.specs.Below.attempted_calls.proofs.EndedNames.{NameLaw, StoredFor}
use Rattle.sock_words.specs.PackedWords as sockets
use Rattle.served_fits.specs.Below.joint_runs.proofs.RunsOfBothTables.{AreMade}
use Rattle.served_fits.specs.Below.call_owing.specs.LivesOfLinks.{ClosesInRun}
use Rattle.served_fits.specs.Below.call_owing.specs.SoundOwing.{at_of}
use Rattle.served_fits.specs.Below.accept_counts.proofs.EarlyClosedSockets.{start, go, fitting, first_fresh}
use Rattle.served_fits.specs.Below.sent_once.proofs.SocketOperationsTold.{narrow, opening_bare}
use Rattle.served_fits.specs.Below.accept_counts.proofs.SeatsStandingAtEnding.{both}
use Rattle.served_fits.specs.Below.accept_counts.proofs.Grounds.{setting}
use Rattle.sock_words.specs.PackedWords.{id_slot, id_first}
use Rattle.served_fits.specs.Below.outcome_stories.specs.Facts.{shown_in}

-- what is known of an at word that was stored before the ending
pub record IsEarly (script : List Item) (turns : List Turn) (core : Core) (is : IsRunWithCalls script turns core) (o w : ℕ) : Type 0 where
  pub asked : Asked
  pub called : IsCallOf script asked
  pub operation : asked.operation ≡ o
  pub id : ℕ
  pub attempt : ℕ
  pub link : ℕ
  pub word : w ≡ sockets.at_word (id_first id) (id_slot id) link attempt
  pub slot : id_slot id < 65536
  pub small : link < 65535
  pub few : attempt ≤ 6
  pub stored : In (record { operation = o; word = w }) (shown_in stored_at (plan_of script) (opened script) (replicate is.setup (quiet 0)) ++ shown_in stored_at (plan_of script) (set_up script is.setup) (is.scheduled ++ is.later))

module _ (script : List Item) (made : AreMade script) (turns : List Turn) (core : Core) (is : IsRunWithCalls script turns core) (closes : ClosesInRun script turns core is) (ids : ℕ → ℕ) (labelled : AreLabelledIn ids script turns core is) where
  open setting script use {p, q, vs}

  abbrev in_setup : List Moment
  in_setup = replicate is.setup (quiet 0)

  abbrev in_clients : List Moment
  in_clients = is.scheduled ++ is.later

  abbrev s₁ : List Store
  s₁ = shown_in stored_at (plan_of script) (opened script) in_setup

  abbrev s₂ : List Store
  s₂ = shown_in stored_at (plan_of script) (set_up script is.setup) in_clients

  few_slots : (id_plan_of script).slots ≤ 65536
  few_slots = narrow script made turns core is closes

  tasks_are : AreTasks (plan_of script) (told_tasks_of script)
  tasks_are = are_seats (plan_of script) (all_tasks script) made.are (length (opens script))

  abbrev Keeps : Bool → Core → List View → Type 0
  Keeps over c ws = Named (plan_of script) (id_plan_of script) few_slots (IsCallOf script) (s₁ ++ s₂) (told_tasks_of script) tasks_are ids over c ws

  abbrev After : Bool → List Event → Core → List View → List Moment → Type 0
  After over before c ws ms = Behind (plan_of script) (id_plan_of script) few_slots (IsCallOf script) (s₁ ++ s₂) (told_tasks_of script) tasks_are ids over before c ws ms

  first : Keeps false (opened script) vs
  first = record {
    events = [];
    lost_links = [];
    story = start_story (plan_of script) (id_plan_of script) (told_tasks_of script) tasks_are _ (all_explained (plan_of script) (all_tasks script) made.are (length (opens script)) (id_plan_of script) (own_from script 0 (clients script + 1)) (calls script) (opens script) refl) vs
        (first_fresh script) (let s = start script made turns core is in s.sound);
    trails = map (λ (x : Program). lost) (all_programs (programs (sizes_of (plan_of script) (id_plan_of script)) (all_tasks script)) (readers_from (calls script) 0 (opens script)));
    law = begins_named (plan_of script) (id_plan_of script) (IsCallOf script) (s₁ ++ s₂) [] (all_programs (programs (sizes_of (plan_of script) (id_plan_of script)) (all_tasks script)) (readers_from (calls script) 0 (opens script)))
        (all_follow (IsCallOf script) (sizes_of (plan_of script) (id_plan_of script)) (all_tasks script) (asked_by script) (calls script) (opens script)) vs (opening_bare script);
  }

  setup_part : After false [] (opened script) vs in_setup
  unfolding first
  setup_part = let s = start script made turns core is in let f = fitting script made turns core is in
      setup_named p q few_slots (IsCallOf script) (s₁ ++ s₂) (told_tasks_of script) tasks_are ids (go script made turns core is) is.setup (opened script) vs s.sound
      (set_up_answered script made.are vs s (go script made turns core is) turns core is f) f.of_setup labelled.of_setup (λ x there. in_left s₁ s₂ x there) first (λ e m. absurd m)

  -- the setup is over
  over_part : Keeps true (set_up script is.setup) (views_along (plan_of script) (opened script) vs in_setup)
  over_part = let k = setup_part.named in let s = start script made turns core is in let f = fitting script made turns core is in
      let t : IsStoried (plan_of script) (told_tasks_of script) tasks_are false (set_up script is.setup) (views_along (plan_of script) (opened script) vs in_setup) = record { events = k.events; lost = k.lost_links; sound = set_up_sound script made.are vs s (go script made turns core is) turns core is f; story = k.story } in
      let o = set_up_over (plan_of script) (told_tasks_of script) tasks_are (set_up script is.setup) (views_along (plan_of script) (opened script) vs in_setup) t is.is_set_up in
      record { events = o.0.events; lost_links = o.0.lost; story = o.0.story; trails = k.trails; law = subst (λ es. NameLaw (IsCallOf script) (s₁ ++ s₂) es (set_up script is.setup) (views_along (plan_of script) (opened script) vs in_setup) k.trails) (sym o.1) k.law }

  clients_part : After true over_part.events (set_up script is.setup) (views_along (plan_of script) (opened script) vs in_setup) in_clients
  clients_part = let s = start script made turns core is in let f = fitting script made turns core is in
      seats_named p q few_slots (IsCallOf script) (s₁ ++ s₂) (told_tasks_of script) tasks_are ids (go script made turns core is) in_clients (set_up script is.setup) (views_along (plan_of script) (opened script) vs in_setup)
      (set_up_sound script made.are vs s (go script made turns core is) turns core is f) is.answered f.of_played labelled.of_played (λ x there. in_right s₁ s₂ x there) over_part

  -- an at word that stands there
  pub stored_early : (o : ℕ) → o < (id_plan_of script).operations → at_of (id_plan_of script) (played script is.setup (is.scheduled ++ is.later)) o ≢ 0 → IsEarly script turns core is o (at_of (id_plan_of script) (played script is.setup (is.scheduled ++ is.later)) o)
  stored_early o low some_ = let b = both script made turns core is in let ids = b.ids in let c = played script is.setup in_clients in let n = clients_part.named in
      let x = subst (λ (plan : IdPlan). o < plan.operations → get_or c.calls.words (at_index plan o) 0 ≢ 0 → StoredFor (IsCallOf script) (s₁ ++ s₂) n.events o (get_or c.calls.words (at_index plan o) 0)) ids.plan (n.law.ats o) low some_ in record { asked = x.of.asked; called = x.of.called; operation = x.of.operation; id = x.of.id; attempt = x.of.attempt; link = x.of.link; word = x.of.word; slot = x.slot; small = x.of.small; few = x.of.few; stored = x.stored }
