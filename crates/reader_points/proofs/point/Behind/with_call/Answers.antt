use Rattle.id_points.specs.IdsAndAttemptNumbers.{id_of}
use Rattle.reader_points.proofs.ReaderAfterWordSteps.{ends_asked}
use Rattle.reader_points.proofs.point.Behind.with_call.Goals as goal

pub returns-clause-program : goal.returns-clause-program
returns-clause-program c a asked e = ends_asked a asked c.args.self (id_of c.args.id) c.args.operation e
