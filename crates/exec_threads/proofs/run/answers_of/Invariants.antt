use Rattle.std.proofs.Common.{◌≡◌, ◌≤◌, ◌%◌, ◌/◌, ℕ, Some, length}
use Rattle.std.specs.Prelude.{slice_get}
use Rattle.std.specs.Vec.{vec_len, vec_capacity}
use Rattle.exec_threads.specs.ScriptDone.{AreDealt}
use Rattle.exec_threads.proofs.run.answers_of.Given as goal

abbrev pub invariant-loop-place : goal.invariant-loop-place
invariant-loop-place g l = record {
  dealt : AreDealt l.workers l.place l.answers.items;
  count : vec_len l.answers ≡ l.place;
  room : l.lines ≤ vec_capacity l.answers;
}
