use Rattle.std.proofs.Common.{arith}
use Rattle.call_run.proofs.PartingLinks.{parting_next, links_next, links_one, all_parted}
use Rattle.call_run.proofs.links.part_all.Goals as goal

pub part_one-requires : goal.part_one-requires
part_one-requires g c = links_one _ _ _ c.parts.left c.parts.invariant.2.more c.in-Some.ensures.steps.0

pub parts-preserved : goal.parts-preserved
parts-preserved g c = let i = c.parts.invariant.2 in let one = c.in-Some.ensures.steps.0 in let e = c.part_one.ensures in (
  tt,
  tt,
  record {
    parting = parting_next _ _ c.args.besides.items c.in-Some.beside c.parts.left c.part_one.new.left i.parting one e;
    more = links_next _ _ c.in-Some.beside c.parts.left c.part_one.new.left i.more one e;
  },
)

pub returns : goal.returns
returns g c = let i = c.parts.invariant.2 in let none_ = c.in-None.ensures.steps.0 in all_parted _ c.args.besides.items c.parts.left i.parting (omega (arith, none_, c.parts.beside-iterator.rest.ok.0)) i.more
