use Rattle.std.proofs.Common.{ap, ◌∙◌, length, length-append, get_or, arith}
use Rattle.call_run.specs.declared.opened.Opening.{Opening}
use Rattle.call_run.specs.Threads.{name_if}
use Rattle.call_run.proofs.SetupNames.{if_few, names_on, names_all}
use Rattle.call_run.proofs.opened.opened_names.Goals as goal

pub names-preserved : goal.names-preserved
names-preserved c = let e = c.push_name.ensures in let i = c.names.invariant in let none_ : Opening = record { number = 0; name = 0 } in let o = get_or c.args.openings.now c.names.opening-index none_ in let t = c.args.told.now in let f = i.few in record {
  names = names_on t c.args.openings.now c.names.opening-index none_ c.names.names.items c.push_name.new.names.items c.names-test.true i.names e.items;
  few = omega (arith, ap length e.items, length-append c.names.names.items (name_if t o), if_few t o, f);
  capacity = e.capacity ∙ i.capacity;
}

pub returns : goal.returns
returns c = names_all c.args.told.now c.args.openings.now c.names.opening-index c.names.names.items c.names-test.false c.names.invariant.names
