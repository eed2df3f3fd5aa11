use Rattle.std.proofs.Common.{◌≡◌, ◌%◌, ◌/◌, ◌<◌, Some, length, refl, sym, ap, ◌∙◌, arith, subst}
use Rattle.std.specs.Prelude.{slice_get}
use Rattle.std.proofs.lemmas.Option.{slice_get-get_or}
use Rattle.std.proofs.Math.Nat.{mod-lt}
use Rattle.exec_threads.proofs.AllSubmitters.{dealt_then}
use Rattle.exec_threads.proofs.run.answers_of.Goals as goal

pub loop-place-preserved : goal.loop-place-preserved
loop-place-preserved g c = let e = c.push_reserved.ensures in let inv = c.loop-place.invariant in let ws = c.args.workers.now in let w = c.index-workers-place.result in let p = c.loop-place.place in
    let there : slice_get ws (p % length ws) ≡ Some w = slice_get-get_or ws (p % length ws) _ (mod-lt p (let s = c.requires.some in omega (arith, s))) ∙ ap Some (sym c.index-workers-place.is) in
    let answer : slice_get w.answers.items (p / length ws) ≡ Some c.index.result.now = slice_get-get_or w.answers.items (p / length ws) _ (c.requires.all p w c.loop-place-test.true there) ∙ ap Some (sym c.index.ensures) in record {
      dealt = dealt_then ws p c.loop-place.answers.items _ w _ inv.dealt there answer e.items;
      count = (let l = e.len in let k = inv.count in omega (arith, l, k));
      room = rw e.capacity inv.room;
    }
