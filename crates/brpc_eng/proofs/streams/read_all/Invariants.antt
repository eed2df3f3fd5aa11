use Rattle.std.proofs.Common.{◌≡◌, ◌≤◌, ◌-◌, vec_len}
use Rattle.std.specs.Io.KnownBytes.{Consumes}
use Rattle.brpc_eng.proofs.streams.read_all.Given as goal

abbrev pub invariant-loop-room : goal.invariant-loop-room
invariant-loop-room g l = record {
  came : Consumes (g.S.Source.state l.initial.source).left (g.S.Source.state l.source).left l.bytes.items;
  few : vec_len l.bytes ≤ 1048577;
  kept : (g.S.Source.state l.source).faults ≡ (g.S.Source.state l.initial.source).faults;
}

abbrev pub decreases-loop-room : goal.decreases-loop-room
decreases-loop-room g l = 1048577 - vec_len l.bytes
