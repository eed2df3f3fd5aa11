use Rattle.std.proofs.Common.{sym, ◌∙◌}
use Rattle.call_run.proofs.SetupNames.{opened_on, opened_here, opened_none}
use Rattle.call_run.proofs.opened.was_opened.Goals as goal

pub tolds-preserved : goal.tolds-preserved
tolds-preserved c = opened_on c.args.number c.args.told.now c.tolds.one-index c.one-item.result c.tolds-test.true c.one-item.is (sym c.if-opened.false ∙ c.tells_opened-opened.ensures) c.tolds.invariant

pub returns-then-opened : goal.returns-then-opened
returns-then-opened c = opened_here c.args.number c.args.told.now c.tolds.one-index c.one-item.result c.tolds-test.true c.one-item.is (sym c.if-opened.true ∙ c.tells_opened-opened.ensures) c.tolds.invariant

pub returns : goal.returns
returns c = opened_none c.args.number c.args.told.now c.tolds.one-index c.tolds-test.false c.tolds.invariant
