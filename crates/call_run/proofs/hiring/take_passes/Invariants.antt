use Rattle.std.proofs.Common.{◌≡◌, ◌++◌, length, reverse}
use Rattle.std.specs.Vec.{vec_len, vec_capacity}
use Rattle.call_run.proofs.hiring.take_passes.Given as goal

abbrev pub invariant-passes : goal.invariant-passes
invariant-passes g l = record {
  all : l.fn.all.items ≡ l.all.items ++ reverse l.own.items;
  count : length l.own.items ≡ l.counter;
  len : vec_len l.own ≡ l.counter;
  capacity : vec_capacity l.own ≡ l.count;
}
