-- Of a call that failed, each response that a link gave came before its range was made, where the link's reader posted an error to its id; and where that reader decided on the error, the
-- link gave none.
use Rattle.std.proofs.Common.{◌≡◌, ℕ, ◌+◌, ◌<◌, ◌≤◌, ◌&&◌, true, nat_lt, lt-ltb, List, Ok, None, Some, IsSome, Option, slice_get, refl, sym, ap, ◌∙◌, subst, arith}
use Rattle.std.specs.Prelude.{Contains}
use Rattle.std.specs.List.{AllByRecursion}
use mathlib.Core.Option.{some}
use lib.ListN.{get_elem?}
use Rattle.sock_words.specs.declared.outcome.Outcome.TheVariants as outcomes
use Rattle.seat_programs.specs.brpc_model.specs.Meta.{ResponseMeta}
use Rattle.seat_programs.specs.brpc_model.specs.Frame.{Frame}
use Rattle.seat_programs.specs.brpc_model.specs.FrameStream.{stream}
use Rattle.seat_programs.specs.brpc_model.specs.Items.{Item}
use Rattle.seat_programs.specs.brpc_model.specs.Operations.{Turn}
use Rattle.seat_programs.specs.brpc_model.specs.Script.{script_of}
use Rattle.sock_message.specs.Asked.{Asked}
use Rattle.seat_programs.specs.declared.task.Op.TheVariants as ops
use Rattle.seat_programs.specs.declared.task.Task.{Task}
use Rattle.seat_programs.specs.ReaderProgram.{has_response, slot_in, version_in}
use Rattle.seat_programs.specs.Cores.{Core}
use Rattle.seat_programs.specs.Tasks.{opens, plan_of, id_plan_of}
use Rattle.seat_programs.specs.ScriptSetupToEnding.{all_tasks, IsRunWithCalls}
use Rattle.seat_programs.specs.Explained.{IsTask, Became}
use Rattle.seat_programs.specs.ExplainedCalls.{Gave, IsResponse, IsPlaced}
use Rattle.refused_attempts.specs.attempted_calls.specs.Below.joint_runs.proofs.RunsOfBothTables.{AreMade}
use Rattle.refused_attempts.specs.attempted_calls.specs.Below.script_facts.proofs.ReadScriptFacts.{InRange}
use Rattle.refused_attempts.specs.attempted_calls.specs.Below.script_facts.proofs.Targets.{AreThere}
use Rattle.refused_attempts.specs.attempted_calls.specs.Below.call_owing.specs.LivesOfLinks.{ClosesInRun}
use Rattle.refused_attempts.specs.attempted_calls.specs.Below.run_theorems.proofs.GaveTakeByTake.{gave_heard}
use Rattle.refused_attempts.specs.attempted_calls.specs.Below.call_stories.specs.LinkReadingLists.{gave_in, soon_of_run}
use Rattle.refused_attempts.specs.attempted_calls.specs.Below.call_stories.specs.Decided.{decided_by}
use Rattle.refused_attempts.specs.attempted_calls.specs.Below.story_steps.proofs.ExpireAndJoinWhys.{in_contains}
use Rattle.refused_attempts.specs.attempted_calls.specs.Below.call_causes.proofs.HandledWhole.{PostedLate, soon_behind, silent_of_readers, failed_inside}
use Rattle.refused_attempts.specs.attempted_calls.specs.sent_once.proofs.OtherTasksBesideCalls.{gave_of_run, fixed_of_run, orders_here}
use Rattle.refused_attempts.specs.attempted_calls.specs.Below.outcome_stories.specs.OperationStories.{In}
use Rattle.sock_words.specs.PackedWords.{id_slot, id_first}
use Rattle.refused_attempts.specs.attempted_calls.specs.Below.outcome_stories.specs.Facts.{shown_in_run}

pub some_response : (r : Option ResponseMeta) → IsSome r → has_response r ≡ true
some_response (Some r) e = refl
some_response None e = absurd (cc)

module _ (script : List Item) (made : AreMade script) (there : AreThere script) (range : AllByRecursion InRange script) (turns : List Turn) (core : Core) (is : IsRunWithCalls script turns core) (closes : ClosesInRun script turns core is)
    (bytes : List ℕ) (reads : script_of bytes ≡ Ok script) (client : ℕ) (t : Task) (asked : Asked) (id code : ℕ) (is_task : IsTask (all_tasks script) core.outcomes client t) (op : t.op ≡ ops.Call asked) (has : Became (all_tasks script) core.outcomes t.number (outcomes.CallFailed id code))
    (k o : ℕ) (at : get_elem? (opens script) k ≡ some o) where
  abbrev Gives : ℕ → Frame → Type 0
  Gives m frame = Gave (plan_of script) (all_tasks script) core.outcomes (fixed_of_run script made turns core is closes) (gave_of_run script made turns core is closes) (orders_here script made turns core is closes) k m frame

  abbrev Responds : Frame → Type 0
  Responds frame = IsResponse (plan_of script) (all_tasks script) core.outcomes (fixed_of_run script made turns core is closes) (gave_of_run script made turns core is closes) (orders_here script made turns core is closes) asked id frame

  inside : (id_slot id < (id_plan_of script).slots) × (id_first id + asked.range ≤ 67108856)
  inside = failed_inside script made there range turns core is closes client t asked id code is_task op has

  there_too : (m : ℕ) (frame : Frame) → Gives m frame → slice_get (stream (gave_in core k)).frames m ≡ Some frame
  there_too m frame g = subst (λ b. slice_get (stream b).frames m ≡ Some frame) (sym (gave_heard bytes script reads turns core is k g.0)) g.1

  slot_is : (frame : Frame) → Responds frame → slot_in frame ≡ id_slot id
  slot_is frame r = let low = r.1 in let high = r.2 in let few = inside.1 in omega (arith, low, high, few)

  behind : (frame : Frame) → Responds frame → id_first id < version_in frame
  behind frame r = let low = r.1 in let high = r.2 in let few = inside.1 in omega (arith, low, high, few)

  before : (frame : Frame) → Responds frame → version_in frame < id_first id + asked.range
  before frame r = let low = r.1 in let high = r.2 in let few = inside.1 in omega (arith, low, high, few)

  responds : (frame : Frame) → Responds frame → (has_response frame.meta.response && nat_lt (slot_in frame) (id_plan_of script).slots) ≡ true
  responds frame r = ap (λ b. b && nat_lt (slot_in frame) (id_plan_of script).slots) (some_response frame.meta.response r.0) ∙ lt-ltb (slot_in frame) (id_plan_of script).slots (subst (λ i. i < (id_plan_of script).slots) (sym (slot_is frame r)) inside.0)

  -- or an error was posted to it, by whatever seat, behind the end of the link's reading
  pub soon_where_late : (e : ℕ) → PostedLate script made there range turns core is k o at (record { id = id; error = e }) → (m : ℕ) (frame : Frame) → Gives m frame → Responds frame → Contains (soon_of_run script turns core is) (k, m)
  soon_where_late e posted m frame g r = in_contains (soon_of_run script turns core is) (k, m)
      (soon_behind script made there range turns core is k o at (record { id = id; error = e }) posted m frame (there_too m frame g) (responds frame r) (slot_is frame r) (behind frame r))

  -- where it decided on the error, as whoever ends a call by it
  pub unanswered_where_decided : (e n : ℕ) → In (record { id = id; asked = asked; error = e }) (shown_in_run script turns core is (decided_by (32 + k))) → (m : ℕ) (frame : Frame) → Gives m frame → Responds frame
      → (IsPlaced (plan_of script) (all_tasks script) core.outcomes (fixed_of_run script made turns core is closes) (gave_of_run script made turns core is closes) (orders_here script made turns core is closes) t.number n → ⊥) × Contains (soon_of_run script turns core is) (k, m)
  unanswered_where_decided e n decided m frame g r = absurd (silent_of_readers script made there range turns core is k o at (record { id = id; asked = asked; error = e }) decided m frame (there_too m frame g) (responds frame r) (slot_is frame r) (behind frame r) (before frame r))
