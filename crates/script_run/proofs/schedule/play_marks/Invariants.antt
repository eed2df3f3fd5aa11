use Rattle.std.proofs.Common.{map, take, ◌≡◌}
use Rattle.brpc_model.specs.Operations.{schedule}
use Rattle.script_run.specs.Outlines.{meant}
use Rattle.seat_programs.specs.ScheduledRuns.{Scheduled}
use Rattle.machine_model.specs.MachineRuns.{SameLinks}
use Rattle.script_run.specs.Played.{IsPlayable, HasPlayed}
use Rattle.script_run.proofs.schedule.play_marks.Given as goal

abbrev pub invariant-loop-mark : goal.invariant-loop-mark
invariant-loop-mark g l = record {
  played : HasPlayed (λ c. Scheduled l.initial.machine.plan c (schedule (map meant (take l.mark-index l.marks)))) l.initial.machine l.machine;
  playable : IsPlayable l.machine;
  ends : SameLinks l.initial.machine l.machine;
  says : g.L.Linker.state l.links ≡ g.L.Linker.state l.initial.links;
}
