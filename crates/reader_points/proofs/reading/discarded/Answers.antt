use Rattle.std.proofs.Common.{◌∙◌, sym}
use Rattle.reader_points.specs.declared.point.Taken.TheVariants as takens
use Rattle.reader_points.proofs.ReaderBehindTake.{threw_bytes, threw_all, threw_nothing, threw_last}
use Rattle.reader_points.proofs.reading.discarded.Goals as goal

pub returns-then-is_below_limit-clause-program : goal.returns-then-is_below_limit-clause-program
returns-then-is_below_limit-clause-program c a taking is =
    threw_bytes a c.args.link c.args.total c.plus-total.result c.in-Bytes.count taking c.plus-total.ensures (sym c.is_below_limit.ensures ∙ c.if-is_below_limit.true) (rw c.in-Bytes.is at is)

pub returns-else-is_below_limit-clause-program : goal.returns-else-is_below_limit-clause-program
returns-else-is_below_limit-clause-program c a taking is =
    threw_all a c.args.link c.args.total c.plus-total.result c.in-Bytes.count taking c.plus-total.ensures (sym c.is_below_limit.ensures ∙ c.if-is_below_limit.false) (rw c.in-Bytes.is at is)

pub returns-in-Nothing-clause-program : goal.returns-in-Nothing-clause-program
returns-in-Nothing-clause-program c a taking is = threw_nothing a c.args.link c.args.total taking (rw c.in-Nothing.is at is)

pub returns-in-Over-clause-program : goal.returns-in-Over-clause-program
returns-in-Over-clause-program c a taking is = threw_last a c.args.link c.args.total takens.Over taking tt (rw c.in-Over.is at is)

pub returns-in-Closed-clause-program : goal.returns-in-Closed-clause-program
returns-in-Closed-clause-program c a taking is = threw_last a c.args.link c.args.total takens.Closed taking tt (rw c.in-Closed.is at is)
