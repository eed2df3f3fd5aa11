-- Where no `send` is to the socket of a link, no message of a `send` stands on the link's chain, at no time of the run.
use Rattle.std.proofs.Common.{◌≡◌, ℕ, zero, suc, ◌⊎◌, inl, inr, ⊎_elim, Bool, true, false, List, [], ◌∷◌, length, replicate, sym, ap, ◌∙◌, subst}
use Rattle.std.specs.List.{AllByRecursion}
use mathlib.Core.Option.{some, some-injective, some-ne-none}
use lib.ListN.{get_elem?}
use Rattle.sock_model.specs.declared.chain.Entry.{Entry}
use Rattle.sock_model.specs.declared.view.View.{View}
use Rattle.brpc_model.specs.Items.{Item}
use Rattle.brpc_model.specs.Operations.{Turn}
use Rattle.served_fits.specs.Below.script_facts.proofs.FilteredLists.{all_at}
use Rattle.seat_programs.specs.declared.task.Op.TheVariants as ops
use Rattle.seat_programs.specs.declared.task.Task.{Task}
use Rattle.seat_programs.specs.Cores.{Core}
use Rattle.seat_programs.specs.Tasks.{opens, plan_of}
use Rattle.seat_programs.specs.Ticks.{quiet}
use Rattle.seat_programs.specs.Explained.{IsTask, Made}
use Rattle.seat_programs.specs.ExplainedCalls.{Accepted}
use Rattle.seat_programs.specs.ScriptSetupToEnding.{all_tasks, IsRunWithCalls}
use Rattle.served_fits.specs.Below.programs_allowed.specs.program_steps.specs.SoundSeats.{Sound, AllRest}
use Rattle.served_fits.specs.Below.programs_allowed.specs.program_walks.proofs.WholeScriptSound.{IsOwed, closing_of, views_played, views_closed, views_ended, end_answered, closing_sound, closed_sound, ended_sound, end_rests}
use Rattle.served_fits.specs.Below.outcome_stories.specs.KeptStory.{is_of_send, IsSpoken}
use Rattle.served_fits.specs.Below.outcome_stories.specs.PlainTasks.{told_tasks_of}
use Rattle.served_fits.specs.Below.outcome_stories.specs.TaskCauses as causes
use Rattle.served_fits.specs.Below.outcome_stories.proofs.Delivered.{accepted_of}
use Rattle.served_fits.specs.Below.outcome_ticks.proofs.Lifted.{task_up, made_up}
use Rattle.served_fits.specs.Below.outcome_causes.proofs.MessagesOfTasks.{each_made, message_of, number_of}
use Rattle.served_fits.specs.Below.outcome_causes.proofs.SocketCausesOfScripts.{seats, final_told, story_end, orders, run_told}
use Rattle.served_fits.specs.Below.outcome_stories.proofs.SendersOfLogEntries.{HasSent, sent_stands}
use Rattle.served_fits.specs.Below.joint_runs.proofs.RunsOfBothTables.{AreMade, first_views}
use Rattle.served_fits.specs.Below.call_owing.specs.LivesOfLinks.{ClosesInRun}
use Rattle.served_fits.specs.Below.call_owing.proofs.EndsStill as still
use Rattle.served_fits.specs.Below.accept_counts.specs.AttemptCounts.{EntryFits}
use Rattle.served_fits.specs.Below.accept_counts.proofs.EarlyClosedSockets.{first_fresh}
use Rattle.served_fits.specs.Below.accept_counts.proofs.RunsKeepAttemptLaw.{IsCallOf, end_law}
use Rattle.served_fits.specs.Below.sent_once.proofs.SocketOperationsTold.{owed, narrow, few_clients, labelled, opening_bare}
use Rattle.served_fits.specs.Below.sent_once.proofs.Labelled.{ids_of_run}
use Rattle.served_fits.specs.Below.accept_counts.proofs.Grounds.{setting, grounds}
use Rattle.calls_over.proofs.SoonLists.{Stood, run_stay}
use Rattle.calls_over.proofs.SoonPieces.{NonePlain}

-- a seat that keeps one list has what stands in its lists there
stood_there : (vs : List View) (e : Entry) (s : Stood vs e) (made : List Entry) → s.view.lists ≡ made ∷ [] → HasSent vs s.seat s.place e
stood_there vs e s made one = record { view = s.view; here = s.here; made = made; lists = one; stands = by s.list (sym (ap (λ ls. get_elem? ls s.list) one) ∙ s.lists) }
  where
    by : (a : ℕ) → get_elem? (made ∷ []) a ≡ some s.made → get_elem? made s.place ≡ some e
    by zero at = ap (λ l. get_elem? l s.place) (some-injective made s.made at) ∙ s.stands
    by (suc a) at = absurd (some-ne-none s.made (sym at))

module _ (script : List Item) (made : AreMade script) (turns : List Turn) (core : Core) (is : IsRunWithCalls script turns core) (closes : ClosesInRun script turns core is) (k : ℕ)
    (unsent : (client : ℕ) (t : Task) (name slot version : ℕ) (bytes : List ℕ) → IsTask (all_tasks script) core.outcomes client t → t.op ≡ ops.Send name bytes → Made (all_tasks script) core.outcomes name k slot version → ⊥) where
  open setting script use {vs}
  open grounds script made turns core is use {begins, goes, fits}

  abbrev owes : IsOwed script turns core is
  owes = owed script made turns core is closes

  abbrev ids : ℕ → ℕ
  ids = ids_of_run script made turns core is (narrow script made turns core is closes) (few_clients script made turns core is closes)

  abbrev sound : Sound (plan_of script) core (views_ended script turns core is (first_views script))
  sound = ended_sound script made.are (first_views script) begins goes turns core is fits

  abbrev rests : AllRest core
  rests = end_rests script made.are (first_views script) begins goes turns core is fits owes

  -- ## The end

  -- a message of a `send` that stands on a link is to its socket
  sent_end : (e : Entry) (i n : ℕ) → HasSent (views_ended script turns core is (first_views script)) i n e → e.link ≡ k → is_of_send e ≡ true → ⊥
  sent_end e i n h own send = let there = sent_stands (plan_of script) core (views_ended script turns core is vs) sound.lawful i n e h in
      by (all_at (λ (a : Accepted). causes.IsSent (told_tasks_of script) core.outcomes e.link a ⊎ IsSpoken (told_tasks_of script) a.operation) (orders script made.are vs begins (first_fresh script) goes turns core is fits owes e.link).accepted (accepted_of e)
      ((run_told script made.are vs begins (first_fresh script) goes turns core is fits owes).sent e.link there.0) (there.1, there.2))
    where
      by : causes.IsSent (told_tasks_of script) core.outcomes e.link (accepted_of e) ⊎ IsSpoken (told_tasks_of script) e.heading.label.operation → ⊥
      by (inl s) = unsent s.client s.task s.name s.slot s.version e.bytes (task_up (all_tasks script) (length (opens script)) core.outcomes s.client s.task s.is) s.op
          (subst (λ l. Made (all_tasks script) core.outcomes s.name l s.slot s.version) own (made_up (all_tasks script) (length (opens script)) core.outcomes s.name e.link s.slot s.version s.life))
      by (inr spoken) = let t = final_told script made.are vs begins (first_fresh script) goes turns core is fits in
          let x = message_of (plan_of script) (told_tasks_of script) (seats script made.are vs begins (first_fresh script) goes turns core is fits) true core (views_ended script turns core is vs) t.after.events t.after.lost sound (story_end script made.are vs begins (first_fresh script) goes turns core is fits owes) rests i n e h send in
          spoken i x.task x.asks (sym (number_of (plan_of script) (told_tasks_of script) (seats script made.are vs begins (first_fresh script) goes turns core is fits) true core (views_ended script turns core is vs) t.after.events t.after.lost sound (story_end script made.are vs begins (first_fresh script) goes turns core is fits owes) rests i e x))

  -- what has no owner is of a `send`
  plain_send : (e : Entry) → Stood (views_ended script turns core is (first_views script)) e → e.heading.owner ≡ 0 → is_of_send e ≡ true
  plain_send e s plain = let law = end_law script made.are vs begins goes turns core is fits (narrow script made turns core is closes) (opening_bare script) (ids_of_run script made turns core is (narrow script made turns core is closes) (few_clients script made turns core is closes)) (labelled script made turns core is closes) in
      let fits_entry = still.all_at (EntryFits (IsCallOf script) ids (plan_of script)) s.made s.place e (still.all_at (AllByRecursion (EntryFits (IsCallOf script) ids (plan_of script))) s.view.lists s.list s.made (law.1.views s.seat s.view s.here).1 s.lists) s.stands in
      ⊎_elim (λ none_. ap (λ (l : List ℕ). elim l as (λ l. Bool) [ [] ↦ true | x ∷ xs ↦ false ]) none_.1) (λ call. absurd (call.0 plain)) fits_entry.0

  -- none is there in the end
  plain_end : NonePlain k (views_ended script turns core is (first_views script))
  plain_end e s own plain = let t = final_told script made.are vs begins (first_fresh script) goes turns core is fits in
      let one = each_made (plan_of script) (told_tasks_of script) (seats script made.are vs begins (first_fresh script) goes turns core is fits) true core (views_ended script turns core is vs) t.after.events t.after.lost sound (story_end script made.are vs begins (first_fresh script) goes turns core is fits owes) rests s.seat s.view s.here in
      sent_end e s.seat s.place (stood_there (views_ended script turns core is vs) e s one.0 one.1) own (plain_send e s plain)

  -- ## Before

  plain_closed : NonePlain k (views_closed script turns core is (first_views script))
  plain_closed e s own plain = plain_end e (run_stay (plan_of script) goes is.final is.ended (views_closed script turns core is vs) (closed_sound script made.are vs begins goes turns core is fits) is.answered_again fits.of_final e s) own plain

  -- and so none is there where the ending begins
  pub plain_played : NonePlain k (views_played script turns core is (first_views script))
  plain_played e s own plain = plain_closed e (run_stay (plan_of script) goes (replicate is.last (quiet 0)) (closing_of script turns core is) (views_played script turns core is vs) (closing_sound script made.are vs begins goes turns core is fits)
      (end_answered script made.are vs begins goes turns core is fits) fits.of_closing e s) own plain
