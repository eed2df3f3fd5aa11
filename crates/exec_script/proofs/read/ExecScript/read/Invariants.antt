use Rattle.std.proofs.Common.{◌≡◌, ◌≤◌, ◌+◌, length, Ok}
use Rattle.std.specs.Prelude.{fold, All}
use Rattle.std.specs.Str.Lines.{lines}
use Rattle.exec_script.specs.Scripts.{script_of, with_line, IsOp}
use Rattle.exec_script.proofs.read.ExecScript.read.Given as goal

abbrev pub invariant-loop-rest : goal.invariant-loop-rest
invariant-loop-rest l = record {
  said : script_of l.bytes ≡ fold with_line (Ok l.ops.items) (lines l.rest);
  number : l.number ≡ length l.ops.items + 1;
  room : length l.ops.items ≤ 4096;
  accounts : All IsOp l.ops.items;
}

abbrev pub decreases-loop-rest : goal.decreases-loop-rest
decreases-loop-rest l = length l.rest
