use Rattle.std.proofs.Common.{◌∙◌, sym, refl, arith}
use Rattle.id_points.specs.IdsAndAttemptNumbers.{id_of}
use Rattle.reader_points.proofs.FirstKept.{next_kept, none_kept, first_at}
use Rattle.reader_points.proofs.keeping.first_kept.Goals as goal

pub loop-i-init : goal.loop-i-init
loop-i-init c = record { within = omega arith; same = refl }

pub loop-i-preserved : goal.loop-i-preserved
loop-i-preserved c = record {
  within = omega (arith, c.loop-i-test.true);
  same = next_kept (id_of c.args.id) c.args.range _ _ c.index-kept-i.result c.loop-i.invariant.same (sym c.index-kept-i.is) c.loop-i-test.true (sym c.is_of.ensures ∙ c.if-is_of.false);
}

pub returns-then-is_of-clause-some : goal.returns-then-is_of-clause-some
returns-then-is_of-clause-some c =
    first_at (id_of c.args.id) c.args.range _ _ c.index-kept-i.result c.loop-i.invariant.same (sym c.index-kept-i.is) c.loop-i-test.true (sym c.is_of.ensures ∙ c.if-is_of.true)

pub returns-clause-none : goal.returns-clause-none
returns-clause-none c = none_kept (id_of c.args.id) c.args.range _ c.loop-i.i c.loop-i.invariant.same c.loop-i-test.false
