use Rattle.std.proofs.Common.{◌≡◌, length}
use Rattle.brpc_model.specs.Operations.{clients, operations}
use Rattle.script_draw.specs.DrawnSeats.{seat_count}
use Rattle.seat_programs.specs.ScheduledRuns.{Scheduled}
use Rattle.machine_model.specs.MachineRuns.{SameLinks}
use Rattle.script_run.specs.Played.{IsPlayable, HasPlayed}
use Rattle.script_run.proofs.ScheduleLines.{drawn_so_far, draws_of, seats_in}
use Rattle.script_run.proofs.schedule.play.Given as goal

abbrev pub invariant-loop : goal.invariant-loop
invariant-loop g l = record {
  draws : l.seats ≡ draws_of l.script l.counter l.seed;
  count : l.end ≡ seat_count (seats_in l.script) (length (operations l.script));
  played : HasPlayed (λ c. Scheduled l.initial.machine.plan c (drawn_so_far (seats_in l.script) (clients l.script) l.counter l.seed)) l.initial.machine l.machine;
  playable : IsPlayable l.machine;
  ends : SameLinks l.initial.machine l.machine;
  says : g.L.Linker.state l.links ≡ g.L.Linker.state l.initial.links;
}
