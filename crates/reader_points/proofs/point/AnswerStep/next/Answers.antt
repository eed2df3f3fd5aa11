use Rattle.id_points.specs.IdsAndAttemptNumbers.{id_of}
use Rattle.reader_points.specs.ReaderPoints.{said_program}
use Rattle.reader_points.proofs.point.AnswerStep.next.Goals as goal
use Rattle.sock_words.specs.PackedWords.{id_slot}

pub returns-in-Some-clause-program : goal.returns-in-Some-clause-program
returns-in-Some-clause-program c a = rw c.in-End.is (c.in-Some.ensures (id_slot (id_of c.args.id)) (said_program a c.args.behind (id_of c.args.id) c.in-End.operation))

pub returns-in-None-clause-program : goal.returns-in-None-clause-program
returns-in-None-clause-program c a = rw c.in-End.is (c.in-None.ensures (id_slot (id_of c.args.id)) (said_program a c.args.behind (id_of c.args.id) c.in-End.operation))
