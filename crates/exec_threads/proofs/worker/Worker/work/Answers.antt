use Rattle.std.proofs.Common.{◌≡◌, ◌+◌, ◌*◌, length, refl, sym, ap, ◌∙◌, arith, suc}
use Rattle.std.proofs.Math.Nat.{mul-suc}
use Rattle.exec_threads.specs.LinesDone.{own_place}
use Rattle.exec_threads.proofs.worker.Worker.work.Goals as goal

pub loop-place-preserved : goal.loop-place-preserved
loop-place-preserved g c = let w = c.loop-place.self in let e = c.do_line.ensures in record {
  at = e.at;
  number = e.number ∙ c.loop-place.invariant.number;
  place = (let m = mul-suc c.args.step (length w.answers.items) in let f = c.from-place-in-loop-place.ensures in let p = c.loop-place.invariant.place in
      (let s : c.loop-place.place + c.from-place-in-loop-place.result ≡ own_place c.args.step w.by.number (suc (length w.answers.items)) = omega (arith, m, f, p) in s)
      ∙ (ap (λ n. own_place c.args.step n (suc (length w.answers.items))) (sym e.number) ∙ ap (λ n. own_place c.args.step c.do_line.new.self.by.number n) (let k = e.more c.if-self.false in omega (arith, k))));
}
