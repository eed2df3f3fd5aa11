use Rattle.std.proofs.Common.{length, refl, ap}
use Rattle.call_client.proofs.TestingTables.{may_make}
use Rattle.part_rows.proofs.callers.tasks_of.Goals as goal

pub returns-in-Ok : goal.returns-in-Ok
returns-in-Ok c = (may_make c.args.call _ _ _ c.in-Ok.ensures.items refl refl refl c.requires.0 c.requires.1, ap length c.in-Ok.ensures.items)
