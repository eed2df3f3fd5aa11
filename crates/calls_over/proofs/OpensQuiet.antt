-- Where each link has the server and nothing went wrong, no link failed before the ending, no reader throws bytes away, and each message that a link accepted is the request of a call.
use Rattle.std.proofs.Common.{◌≡◌, ℕ, ◌<◌, ◌≤◌, ◌⊎◌, inl, inr, ⊎_elim, List, ◌++◌, length, replicate, Some, None, sym, ap, ◌∙◌, subst, arith}
use Rattle.std.specs.Prelude.{Contains}
use Rattle.sock_model.specs.LinksInSlots.{Failed}
use Rattle.brpc_model.specs.LinkFailureCauses.{HasFault, reading_limit}
use Rattle.brpc_model.specs.Items.{Open, Fail}
use Rattle.brpc_model.specs.ReturnedLink.{LinkEnd}
use Rattle.brpc_model.specs.Operations.{link_names, link_shapes}
use Rattle.brpc_model.specs.LinePlaceFaults.{names}
use Rattle.served_fits.specs.Below.script_facts.proofs.KnownScript as known
use Rattle.served_fits.specs.Below.report_fits.proofs.LinkOrderLines.{Given}
use Rattle.served_fits.specs.Below.script_facts.proofs.FilteredLists.{all_at, has_from, contains_from, within}
use Rattle.served_fits.specs.Below.report_fits.proofs.LivesInReport as lives
use Rattle.served_fits.specs.Below.report_fits.proofs.PrintableCallRun.{known_of}
use Rattle.served_fits.specs.Below.script_facts.proofs.TaskLemmas.{numbers_at, task_is, fail_asks}
use Rattle.seat_programs.specs.declared.task.Op.TheVariants as ops
use Rattle.seat_programs.specs.declared.task.Task.{Task}
use Rattle.seat_programs.specs.Asides.{AtEnd, Broken}
use Rattle.seat_programs.specs.Cores.{Core}
use Rattle.seat_programs.specs.LoopHeads.{Discards}
use Rattle.seat_programs.specs.Programs.{Rest, Round}
use Rattle.seat_programs.specs.ReaderProgram.{LIMIT, reader}
use Rattle.seat_programs.specs.ScriptSetupToEnding.{all_tasks, opened, set_up, played}
use Rattle.seat_programs.specs.Tasks.{opens, calls, numbered, plan_of, id_plan_of}
use Rattle.seat_programs.specs.Ticks.{Moment, quiet, broken_in}
use Rattle.seat_programs.specs.Explained.{IsTask, IsFail, Made}
use Rattle.served_fits.specs.Below.programs_allowed.specs.program_steps.specs.SoundSeats.{state}
use Rattle.served_fits.specs.Below.programs_allowed.specs.program_walks.proofs.WholeScriptSound.{views_played}
use Rattle.served_fits.specs.Below.outcome_stories.specs.Facts.{shown_in, broken_of_run, closed_before_ending}
use Rattle.served_fits.specs.Below.outcome_stories.specs.LinkLosses.{closed_at, lost_in}
use Rattle.served_fits.specs.Below.outcome_stories.specs.PlainTasks.{told_tasks_of}
use Rattle.served_fits.specs.Below.outcome_stories.specs.OperationStories.{In}
use Rattle.served_fits.specs.Below.outcome_ticks.proofs.Lifted.{task_up}
use Rattle.served_fits.specs.Below.outcome_stories.proofs.Members.{in_contains, contains_in}
use Rattle.served_fits.specs.Below.outcome_causes.proofs.PlainOutcomeCauses.{in_left, in_right, in_both}
use Rattle.served_fits.specs.Below.joint_runs.proofs.RunsOfBothTables.{first_views}
use Rattle.served_fits.specs.Below.run_theorems.specs.Heard.{heard_takes, given_by}
use Rattle.served_fits.specs.Below.run_theorems.proofs.GaveTakeByTake.{gave_heard}
use Rattle.served_fits.specs.Below.run_theorems.proofs.RunLengths.{ended_length}
use Rattle.served_fits.specs.Below.call_stories.specs.LinkReadingLists.{gave_in}
use Rattle.served_fits.specs.Below.call_stories.specs.Scenes.{LeadsTo}
use Rattle.served_fits.specs.Below.story_ticks.proofs.RunFacts.{own_leads, leadings}
use Rattle.served_fits.specs.Below.accept_counts.proofs.EarlyClosedSockets.{start, go, fitting, closed_early, first_fresh}
use Rattle.served_fits.specs.Below.call_stories.proofs.StreamFramesStay.{faults_more}
use Rattle.served_fits.specs.Below.sent_once.proofs.SocketOperationsTold.{owed, lost_so}
use Rattle.served_fits.specs.Below.outcome_causes.proofs.SocketCausesOfScripts.{run_tells, failed_early}
use Rattle.served_fits.specs.served_runs.specs.ServedLinks.{IsForCalls}
use Rattle.served_fits.specs.served_runs.proofs.GivenByReadingEnd.{Holds}
use Rattle.served_fits.specs.served_runs.proofs.OwnReplies.{id_small}
use Rattle.served_fits.specs.served_runs.proofs.ReadingsOver.{Goes}
use Rattle.served_fits.specs.served_runs.proofs.RepliesOfWholeRun.{played_holds}
use Rattle.served_fits.specs.served_runs.proofs.ServedLinks.{shapes_many, gives_last, gives_no_fault}
use Rattle.served_fits.specs.served_calls.specs.QuietRuns.{HasServer}
use Rattle.served_fits.specs.served_calls.proofs.RequestsTakenByLinks.{never_last}
use Rattle.served_fits.specs.served_calls.proofs.CalmServedRuns.{named_shape}
use Rattle.served_fits.specs.served_sizes.proofs.FewBytesFromServer as sizes
use Rattle.calls_over.proofs.OpensEntered.{rested_sound}
use Rattle.calls_over.proofs.OpensOwed.{NoneThrown}
use Rattle.calls_over.proofs.Soon.{no_end, no_stray}
use Rattle.calls_over.proofs.OpensGiven.{CalmRun, are_made, targets, range}
use Rattle.corr_core.proofs.NoteSums.{at_length}

module _ (calm : CalmRun) where
  open calm use {bytes, script, reads, short, turns, core, is, closes, offers, fixed, orders, tells, report, took, ends, reports, told, given_back, shown, breaks, served, untroubled}

  abbrev all_given : Given
  all_given = record { run = known_of bytes script reads core fixed (gave_in core) orders (ended_length bytes script reads turns core is) tells; report = report; took = took; ends = ends; reports = reports; told = told; given = given_back }

  -- ## Links

  pub has_server : (k : ℕ) → k < length (link_names script) → HasServer script turns core is k
  has_server k low = let s = within (link_shapes script) k (let m = shapes_many script in omega (arith, low, m)) in let x = named_shape script k s.0 s.1 in (s.0, s.1, served x.0 s.0 (contains_from script (Open x.0 s.0) x.2))

  module _ (k : ℕ) (low : k < length (link_names script)) where
    abbrev s : HasServer script turns core is k
    s = has_server k low

    -- no `send` has its socket
    pub unsent : (client : ℕ) (t : Task) (name slot version : ℕ) (sent : List ℕ) → IsTask (all_tasks script) core.outcomes client t → t.op ≡ ops.Send name sent → Made (all_tasks script) core.outcomes name k slot version → ⊥
    unsent = no_stray bytes script reads turns core is closes offers fixed orders tells report took ends reports told given_back untroubled k s.0 s.1 s.2

    end_of : lives.EndOf all_given k
    end_of = lives.end_at all_given k low

    faultless : (end_of.end.put_faults ≡ 0) × (end_of.end.take_faults ≡ 0)
    faultless = all_at (λ (x : LinkEnd). (x.put_faults ≡ 0) × (x.take_faults ≡ 0)) ends end_of.end untroubled.put (has_from ends end_of.end end_of.there)

    endless_shape : s.0.end ≡ None
    endless_shape = no_end bytes script reads turns core is closes offers fixed orders tells report took ends reports told given_back untroubled k s.0 s.1

    for_calls : IsForCalls script turns core is k s.0
    for_calls = record { opened = s.1; serves = s.2; unsent = unsent }

    no_fault : HasFault (gave_in core k) → ⊥
    no_fault = gives_no_fault script (are_made calm) (targets calm) (range calm) turns core is closes offers k s.0 for_calls

    few : length (gave_in core k) < LIMIT
    few = sizes.few bytes script reads short turns core is closes offers fixed orders tells untroubled.few_attempts k s.0 s.1 s.2

    endless : Contains (heard_takes is k) AtEnd → ⊥
    endless ended = never_last script (are_made calm) turns core is fixed orders tells (id_small script (are_made calm) (targets calm) (range calm) turns core is closes) k low unsent s.0 endless_shape
        (gives_last script (are_made calm) (targets calm) (range calm) turns core is closes offers k s.0 s.1 s.2 ended)

    unbroken : Contains (heard_takes is k) Broken → ⊥
    unbroken broken = let x = shown.1 k end_of.end end_of.there end_of.is.numbered broken in let y = faultless.1 in let z : ⊥ = omega (arith, x, y) in z

    unput : Contains (broken_of_run script turns core is) k → ⊥
    unput broken = let x = end_of.is.failed (breaks k broken) in let y = faultless.0 in let z : ⊥ = omega (arith, x, y) in z

    unclosed : In k (closed_before_ending script turns core is) → ⊥
    unclosed closed = by (closed_early script (are_made calm) turns core is k closed).1
      where
        same : gave_in core k ≡ given_by (heard_takes is k)
        same = gave_heard bytes script reads turns core is k low

        by : Contains (heard_takes is k) AtEnd ⊎ (HasFault (given_by (heard_takes is k)) ⊎ ((reading_limit ≤ length (given_by (heard_takes is k))) ⊎ Contains (heard_takes is k) Broken)) → ⊥
        by (inl ended) = endless ended
        by (inr (inl fault)) = no_fault (subst HasFault (sym same) fault)
        by (inr (inr (inl most))) = let l = ap length same in let f = few in let z : ⊥ = omega (arith, l, most, f) in z
        by (inr (inr (inr broken))) = unbroken broken

  -- ## Failures

  -- no link's life was failed before the ending
  pub unfailed : (k : ℕ) → Failed (plan_of script) (state (played script is.setup (is.scheduled ++ is.later)) (views_played script turns core is (first_views script))) k → ⊥
  unfailed k failed = ⊎_elim (λ lost. by_lost (contains_in _ k lost))
      (λ at_fail.
      let tale = run_tells script (are_made calm).are (first_views script) (start script (are_made calm) turns core is) (first_fresh script) (go script (are_made calm) turns core is) turns core is (fitting script (are_made calm) turns core is) (owed script (are_made calm) turns core is closes) in
      let t = tale.tells in let f : IsFail (told_tasks_of script) core.outcomes (at_fail.0, k) = all_at (IsFail (told_tasks_of script) core.outcomes) t.fails (at_fail.0, k) t.are (has_from t.fails (at_fail.0, k) at_fail.1) in
      let it = task_up (all_tasks script) (length (opens script)) core.outcomes f.client f.task f.is in
      let w = task_is script core.outcomes f.client f.task it in let m = fail_asks (numbered script) (names script) (numbers_at script f.task.number w.operation) w.operation.item f.name f.code (w.asks ∙ ap Some f.op) in
      untroubled.no_fail m.0 f.code (contains_from script (Fail m.0 f.code) (known.in_script all_given.run f.task.number w.operation w.there (Fail m.0 f.code) m.1)))
      (failed_early script (are_made calm).are (first_views script) (start script (are_made calm) turns core is) (first_fresh script) (go script (are_made calm) turns core is) turns core is (fitting script (are_made calm) turns core is) (owed script (are_made calm) turns core is closes) k failed)
    where
      low : k < length (link_names script)
      low = let o = (rested_sound script (are_made calm) turns core is).lawful in o.in_slots.small failed.slot failed.version k failed.life

      ones : List Moment
      ones = replicate is.setup (quiet 0)

      by_one : In k (broken_in (plan_of script) (opened script) (replicate is.setup (quiet 0))) ⊎ In k (shown_in closed_at (plan_of script) (opened script) (replicate is.setup (quiet 0))) → ⊥
      by_one (inl b) = unput k low (in_contains (broken_of_run script turns core is) k (in_left (broken_in (plan_of script) (opened script) (replicate is.setup (quiet 0))) _ k b))
      by_one (inr b) = unclosed k low (in_left (shown_in closed_at (plan_of script) (opened script) (replicate is.setup (quiet 0))) _ k b)

      by_two : In k (broken_in (plan_of script) (set_up script is.setup) (is.scheduled ++ is.later)) ⊎ In k (shown_in closed_at (plan_of script) (set_up script is.setup) (is.scheduled ++ is.later)) → ⊥
      by_two (inl b) = unput k low (in_contains (broken_of_run script turns core is) k (in_right (broken_in (plan_of script) (opened script) (replicate is.setup (quiet 0))) _ k (in_left (broken_in (plan_of script) (set_up script is.setup) (is.scheduled ++ is.later)) _ k b)))
      by_two (inr b) = unclosed k low (in_right (shown_in closed_at (plan_of script) (opened script) (replicate is.setup (quiet 0))) _ k b)

      by_lost : In k (lost_in (plan_of script) (opened script) (replicate is.setup (quiet 0)) ++ lost_in (plan_of script) (set_up script is.setup) (is.scheduled ++ is.later)) → ⊥
      by_lost m = ⊎_elim (λ a. by_one (lost_so (plan_of script) (opened script) (replicate is.setup (quiet 0)) k a)) (λ a. by_two (lost_so (plan_of script) (set_up script is.setup) (is.scheduled ++ is.later) k a))
          (in_both (lost_in (plan_of script) (opened script) (replicate is.setup (quiet 0))) (lost_in (plan_of script) (set_up script is.setup) (is.scheduled ++ is.later)) k m)

  -- ## Readers

  -- no reader throws bytes away
  pub none_thrown : NoneThrown script (are_made calm) turns core is closes (targets calm) (range calm)
  none_thrown k o at seat there l total next e = ⊎_elim (λ x. absurd (let z : reader (calls script) k o ≡ Round (Discards l total) next = sym x.0 ∙ e in cc))
      (λ other. ⊎_elim (λ x. absurd (let z : Rest ≡ Round (Discards l total) next = sym x.0 ∙ e in cc))
      (λ x. let g = subst (Goes k (gave_in before k) held.last) e x in by_fault g.2) other)
      (held.reader seat there)
    where
      low : k < length (link_names script)
      low = let i = at_length (opens script) k o at in let many = (let x = Rattle.served_fits.specs.Below.accept_counts.proofs.EarlyClosedSockets.known script (are_made calm) turns core is in x.as_many) in omega (arith, i, many)

      server : HasServer script turns core is k
      server = has_server k low

      before : Core
      before = played script is.setup (is.scheduled ++ is.later)

      held : Holds script k o server.0 (In Broken (heard_takes is k)) before
      held = played_holds script (are_made calm) turns core is offers k o at server.0 server.1

      leads : LeadsTo (plan_of script) (id_plan_of script) (all_tasks script) (gave_in core) (played script is.setup (is.scheduled ++ is.later))
      leads = let l = leadings script turns core is (gave_in core) (own_leads script core) in l.played_leads

      by_fault : HasFault (gave_in (played script is.setup (is.scheduled ++ is.later)) k) → ⊥
      by_fault fault = let m = leads k in no_fault k low (subst HasFault m.1 (faults_more (gave_in (played script is.setup (is.scheduled ++ is.later)) k) m.0 fault))
