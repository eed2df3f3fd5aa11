use Rattle.std.proofs.Common.{sym, ◌∙◌}
use Rattle.reader_points.proofs.ReaderAfterWordSteps.{loads_post, loads_none}
use Rattle.reader_points.proofs.point.Closing.loaded.Goals as goal

pub returns-then-is_named-clause-program : goal.returns-then-is_named-clause-program
returns-then-is_named-clause-program c a o =
    loads_post a c.args.self c.lost_at-lost.result o c.args.found c.lost_at-lost.ensures.closing c.lost_at-lost.ensures.id c.lost_at-lost.ensures.attempt (sym c.is_named.ensures ∙ c.if-is_named.true)

pub returns-else-is_named-clause-program : goal.returns-else-is_named-clause-program
returns-else-is_named-clause-program c a o = loads_none a c.args.self o c.args.found (sym c.is_named.ensures ∙ c.if-is_named.false)
