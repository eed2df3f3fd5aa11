use Rattle.std.proofs.Common.{◌≡◌, inl, inr, ◌+◌, ◌*◌, List, length, refl, sym, ap, ◌∙◌, subst, arith}
use mathlib.Core.Logic.{dite}
use native.Mathlib.Decide.{dec_lt}
use Rattle.exec_queue.specs.declared.task.Task.{Task}
use Rattle.exec_queue.specs.Tasks.{tasks_of}
use Rattle.exec_queue.specs.EndedQueue.{Ran, stops_of}
use Rattle.exec_queue.proofs.BytesOfTasks.{tasks_again, bytes_long}
use Rattle.exec_queue.proofs.exec.finish.Goals as goal

pub returns-in-Ok-clause-ran : goal.returns-in-Ok-clause-ran
returns-in-Ok-clause-ran g c = λ tss are once.
    let e = c.in-Ok.ensures.ended tss are once in
    let o = c.in-Ok.field-0.out in
    let taken_is = e.tells o.taken refl ∙ e.took_is in
    let again = c.runner.ensures.tasks ∙ (ap tasks_of taken_is ∙ tasks_again e.part e.tasks e.whole e.part_few) in
    let long : length o.taken ≡ 16 * length e.tasks + length e.part = ap length taken_is ∙ bytes_long e.part e.tasks in
    subst (λ (ts : List Task). Ran tss (stops_of c.args.submitters.items) c.in-Ok.field-0.order.items c.in-Ok.field-0.ran ts) (sym again)
    (e.ran (dite (dec_lt 0 o.faults)
    (λ some_. inr (let full = c.runner.ensures.full some_ in let few = e.few in let part = e.part_few in omega arith))
    (λ none_. inl (omega arith))))

pub returns-in-Ok-clause-answers : goal.returns-in-Ok-clause-answers
returns-in-Ok-clause-answers g c = λ tss are once.
    let e = c.in-Ok.ensures.ended tss are once in
    let o = c.in-Ok.field-0.out in
    let taken_is = e.tells o.taken refl ∙ e.took_is in
    let long : length o.taken ≡ 16 * length e.tasks + length e.part = ap length taken_is ∙ bytes_long e.part e.tasks in
    e.answers (dite (dec_lt 0 o.faults)
    (λ some_. absurd (let full = c.runner.ensures.full some_ in let few = e.few in let part = e.part_few in omega arith))
    (λ none_. omega arith))
