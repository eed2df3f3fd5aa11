use Rattle.std.proofs.Common.{◌≡◌, ◌<◌, ◌+◌, false, refl, sym, ap, ◌∙◌, ◌++◌, ◌∷◌, [], length, length-append, arith, subst}
use Rattle.std.proofs.lemmas.List.{append_assoc}
use Rattle.exec_queue.specs.NewQueue.{AreNewFrom}
use Rattle.exec_threads.proofs.AllSubmitters.{begins, waiting_then}
use Rattle.exec_threads.proofs.run.workers_of.Goals as goal

pub loop-by-preserved : goal.loop-by-preserved
loop-by-preserved g c = let q = c.args.queue.now in let e = c.push_reserved.ensures in let inv = c.loop-by.invariant in let one = c.in-Some.ensures.steps.0 in
    let new = subst (AreNewFrom q (length c.loop-by.workers.items + 1)) one inv.rest in
    let a = ap length inv.all in let b = length-append c.loop-by.yielded c.loop-by.by-iterator.rest.items in let d = ap length one in let l = ap length e.items in let m = length-append c.loop-by.workers.items (record { by = c.in-Some.by; answers = c.in_ok-answers.answers; short = false } ∷ []) in let y = length-append c.loop-by.yielded (c.in-Some.by ∷ []) in record {
      all = append_assoc c.loop-by.yielded (c.in-Some.by ∷ []) c.next.new.self.rest.items ∙ (ap (λ r. c.loop-by.yielded ++ r) (sym one) ∙ inv.all);
      waiting = waiting_then q c.args.ops.now (length c.args.submitters.items) c.loop-by.workers.items _ _ inv.waiting (begins q c.args.ops.now (length c.args.submitters.items) (length c.loop-by.workers.items) (record { by = c.in-Some.by; answers = c.in_ok-answers.answers; short = false }) new.0 (let k = inv.long in omega (arith, a, b, d, k)) c.in_ok-answers.ensures.items (let k = c.in_ok-answers.ensures.capacity in omega (arith, k)) refl) e.items;
      rest = subst (λ n. AreNewFrom q n c.next.new.self.rest.items) (omega (arith, l, m)) new.1;
      long = (let k = inv.long in omega (arith, l, m, y, k));
      count = (let k = inv.count in let v = e.len in omega (arith, y, k, v));
      room = rw e.capacity inv.room;
    }
