use Rattle.reader_points.proofs.ReaderBehindTake.{took_bytes, took_nothing, took_last, took_close}
use Rattle.reader_points.proofs.point.Reader.taken.Goals as goal

pub returns-in-Bytes-clause-program : goal.returns-in-Bytes-clause-program
returns-in-Bytes-clause-program c a taking is = took_bytes a c.args.self c.plus.result c.in-Bytes.count taking c.plus.ensures (rw c.in-Bytes.is at is)

pub returns-in-Nothing-clause-program : goal.returns-in-Nothing-clause-program
returns-in-Nothing-clause-program c a taking is = rw c.to_take.ensures (took_nothing a c.args.self taking (rw c.in-Nothing.is at is))

pub returns-in-Over-clause-program : goal.returns-in-Over-clause-program
returns-in-Over-clause-program c a taking is = rw c.closing.ensures (took_last a c.args.self taking (rw c.in-Over.is at is))

pub returns-in-Closed-clause-program : goal.returns-in-Closed-clause-program
returns-in-Closed-clause-program c a taking is = rw c.closing-in-Closed.ensures (took_close a c.args.self taking (rw c.in-Closed.is at is))
