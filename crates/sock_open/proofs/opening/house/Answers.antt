use Rattle.std.proofs.Common.{[], ◌∷◌, length-append, arith, sym, ◌∙◌}
use Rattle.sock_open.proofs.NewTableWords.{one_housed, may_be_fresh, all_housed, all_halves}
use Rattle.sock_open.proofs.opening.house.Goals as goal

pub fresh-requires : goal.fresh-requires
fresh-requires g c = may_be_fresh c.args.plan.now c.args.outs.items c.loop-out.yielded c.loop-out.out-iterator.rest.items c.next.new.self.rest.items c.in-Some.out c.loop-out.homes.items c.requires.outs c.loop-out.invariant.0 c.in-Some.ensures.steps.0

pub loop-out-preserved : goal.loop-out-preserved
loop-out-preserved g c = (
  one_housed c.args.plan.now c.args.outs.items c.loop-out.yielded c.loop-out.out-iterator.rest.items c.next.new.self.rest.items c.in-Some.out c.loop-out.homes.items c.push_reserved-in-loop-out.new.self.items c.fresh.result c.requires.outs c.loop-out.invariant.0 c.in-Some.ensures.steps.0 c.push_reserved-in-loop-out.ensures.items c.fresh.ensures.out c.fresh.ensures.took.0 c.fresh.ensures.took.1,
  omega (arith, c.push_reserved-in-loop-out.ensures.len, c.loop-out.invariant.1, length-append c.loop-out.yielded (c.in-Some.out ∷ [])),
  c.push_reserved-in-loop-out.ensures.capacity ∙ c.loop-out.invariant.2,
)

pub returns-clause-new : goal.returns-clause-new
returns-clause-new g c = all_housed c.args.plan.now c.args.outs.items c.loop-out.yielded c.loop-out.out-iterator.rest.items c.loop-out.homes.items c.requires.outs c.loop-out.invariant.0 (sym c.loop-out.out-iterator.rest.ok.0 ∙ c.in-None.ensures.steps.0)

pub returns-clause-outs : goal.returns-clause-outs
returns-clause-outs g c = all_halves c.args.plan.now c.args.outs.items c.loop-out.yielded c.loop-out.out-iterator.rest.items c.loop-out.homes.items c.requires.outs c.loop-out.invariant.0 (sym c.loop-out.out-iterator.rest.ok.0 ∙ c.in-None.ensures.steps.0)
