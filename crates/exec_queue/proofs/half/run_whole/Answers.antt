use Rattle.std.proofs.Common.{◌≡◌, ◌++◌, [], ◌∷◌, ℕ, ◌*◌, take, drop, List, Some, None, sym, ap, ◌∙◌, arith}
use Rattle.std.proofs.lemmas.List.{append-nil}
use Rattle.exec_queue.specs.declared.task.Task.{Task}
use Rattle.exec_queue.specs.Tasks.{task_of, tasks_upto}
use Rattle.exec_queue.proofs.TasksOfBytes.{next_task}
use Rattle.exec_queue.proofs.half.run_whole.Goals as goal
use Rattle.exec_queue.proofs.half.run_whole.Goals.{in-Some, in_default}

pub loop-read-preserved : goal.loop-read-preserved
loop-read-preserved g c = record {
  inside = omega arith;
  ran = (let at : c.piece_at-piece.result ≡ take 16 (drop (16 * c.loop-read.read) c.args.taken.now) = c.piece_at-piece.ensures ∙ ap (λ (m : ℕ). take 16 (drop m c.args.taken.now)) (let e : c.loop-read.read * 16 ≡ 16 * c.loop-read.read = omega arith in e) in
      elim c.match-read.branch [
        | in-Some w ↦ ap g.R.Runner.ran w.runner-is ∙ (w.run.ensures ∙ (ap (λ (ts : List Task). ts ++ w.in-Some.task ∷ []) c.loop-read.invariant.ran ∙ sym (next_task c.loop-read.read c.args.taken.now (Some w.in-Some.task) (w.in-Some.ensures ∙ ap task_of at))))
        | in_default w ↦ ap g.R.Runner.ran w.runner-is ∙ (c.loop-read.invariant.ran ∙ (sym (append-nil (tasks_upto c.loop-read.read c.args.taken.now)) ∙ sym (next_task c.loop-read.read c.args.taken.now None (w.in_default.ensures ∙ ap task_of at))))
      ]);
}
