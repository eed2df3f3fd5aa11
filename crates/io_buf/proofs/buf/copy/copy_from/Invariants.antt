use Rattle.std.proofs.Common.{◌≡◌, ◌+◌, ◌-◌, ◌≤◌, length, take, drop}
use Rattle.std.specs.List.{concat}
use Rattle.io_buf.proofs.buf.copy.copy_from.Given as goal

abbrev pub invariant-loop-done : goal.invariant-loop-done
invariant-loop-done l =
    let all = length l.initial.room in
    let wanted = take all (drop l.fn.start (concat l.pieces.items)) in
    let rest = concat (drop l.place l.pieces.items) in
    record {
      place : l.place ≤ length l.pieces.items;
      done : l.done ≤ all;
      fits : l.skip + (all - l.done) ≤ length rest;
      front : take l.done l.room ≡ take l.done wanted;
      rest : take (all - l.done) (drop l.skip rest) ≡ drop l.done wanted;
    }

abbrev pub decreases-loop-done : goal.decreases-loop-done
decreases-loop-done l = length l.pieces.items - l.place
