use Rattle.std.proofs.Common.{◌≡◌, replicate}
use Rattle.seat_programs.specs.Ticks.{seats_of}
use Rattle.machine_model.specs.MachineRuns.{SameLinks}
use Rattle.script_run.specs.Played.{IsPlayable, HasPlayed}
use Rattle.script_run.proofs.schedule.play_ticks.Given as goal

abbrev pub invariant-loop : goal.invariant-loop
invariant-loop g l = record {
  played : HasPlayed (λ c moments. seats_of moments ≡ replicate l.counter l.seat) l.initial.machine l.machine;
  playable : IsPlayable l.machine;
  ends : SameLinks l.initial.machine l.machine;
  says : g.L.Linker.state l.links ≡ g.L.Linker.state l.initial.links;
}
