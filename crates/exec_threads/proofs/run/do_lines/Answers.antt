use Rattle.std.proofs.Common.{refl, sym, ap, ◌∙◌, length, map, arith, subst}
use Rattle.exec_threads.specs.ScriptDone.{AreWaiting}
use Rattle.exec_threads.proofs.AllSubmitters.{whole_again}
use Rattle.exec_threads.proofs.run.do_lines.Goals as goal

pub answers_by-requires-clause-waiting : goal.answers_by-requires-clause-waiting
answers_by-requires-clause-waiting g c κs within = subst (AreWaiting c.args.queue.now c.args.ops.now c.args.step) (sym c.deref_mut.ensures.value) (subst (λ n. AreWaiting c.args.queue.now c.args.ops.now n c.in_ok-workers.workers.items) c.requires.count c.in_ok-workers.ensures.waiting)

pub returns : goal.returns
returns g c = let e = c.answers_by.ensures in let old = c.in_ok-workers.workers.items in let d = c.deref_mut.ensures.value in let n = c.in_ok-workers.ensures.count in record {
  workers = c.answers_by.new.workers;
  count = e.count ∙ (ap length d ∙ (n ∙ c.requires.count));
  have = e.worked;
  enough = c.in_ok-answers.ensures.enough;
  submitters = c.in_ok-submitters.ensures ∙ ap (λ ws. map (λ w. w.by) ws) (whole_again c.in_ok-workers.workers.len c.answers_by.new.workers _ (e.count ∙ (ap length d ∙ sym c.in_ok-workers.workers.ok.0)));
  dealt = c.in_ok-answers.ensures.dealt;
}
