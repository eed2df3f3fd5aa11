use Rattle.std.proofs.Common.{refl, ap, arith, take}
use Rattle.sock_io.specs.declared.link.Take.TheVariants as take_
use Rattle.rpc_reader.specs.declared.reading.How.TheVariants as how
use Rattle.rpc_reader.specs.ReaderBooks.{books}
use Rattle.rpc_reader.specs.ReadingTakeByTake.{goes_on}
use Rattle.rpc_reader.proofs.SuccessiveTakes.{read_bytes, read_nothing, read_end}
use Rattle.rpc_reader.proofs.reading.read_once.Goals as goal

pub returns-in-Took-clause-read : goal.returns-in-Took-clause-read
returns-in-Took-clause-read g c = read_bytes c.args.ending (g.I.In.state c.args.inn.now) (g.I.In.state c.take.new.self) c.take.new.room c.args.ids.now.plan.slots c.args.intake.now (books c.args.calls.now) c.in-Took.count (take c.in-Took.count c.take.new.room) c.take_in.result c.take_in.new.intake (books c.take_in.new.calls) c.in-Took.ensures refl c.take_in.ensures.total (let k = c.take.auto.room in let r = c.requires.room in omega arith) c.take_in.ensures.fed

pub returns-then-ending-clause-read : goal.returns-then-ending-clause-read
returns-then-ending-clause-read g c = read_end c.args.ending (g.I.In.state c.args.inn.now) (g.I.In.state c.take.new.self) c.take.new.room c.args.ids.now.plan.slots c.args.intake.now (books c.args.calls.now) take_.Empty how.Empty c.in-Empty.ensures refl c.requires.below (refl, c.if-ending.true, c.requires.waits)

pub returns-else-ending-clause-read : goal.returns-else-ending-clause-read
returns-else-ending-clause-read g c = read_nothing c.args.ending (g.I.In.state c.args.inn.now) (g.I.In.state c.take.new.self) c.take.new.room c.args.ids.now.plan.slots c.args.intake.now (books c.args.calls.now) take_.Empty c.in-Empty.ensures refl c.requires.below c.requires.waits (ap (λ e. goes_on e take_.Empty) c.if-ending.false)

pub returns-in-End-clause-read : goal.returns-in-End-clause-read
returns-in-End-clause-read g c = read_end c.args.ending (g.I.In.state c.args.inn.now) (g.I.In.state c.take.new.self) c.take.new.room c.args.ids.now.plan.slots c.args.intake.now (books c.args.calls.now) take_.End how.End c.in-End.ensures refl c.requires.below (refl, c.requires.waits)

pub returns-in-Closed-clause-read : goal.returns-in-Closed-clause-read
returns-in-Closed-clause-read g c = read_end c.args.ending (g.I.In.state c.args.inn.now) (g.I.In.state c.take.new.self) c.take.new.room c.args.ids.now.plan.slots c.args.intake.now (books c.args.calls.now) take_.Closed how.Closed c.in-Closed.ensures refl c.requires.below (refl, c.requires.waits)

pub returns-in-Failed-clause-read : goal.returns-in-Failed-clause-read
returns-in-Failed-clause-read g c = read_end c.args.ending (g.I.In.state c.args.inn.now) (g.I.In.state c.take.new.self) c.take.new.room c.args.ids.now.plan.slots c.args.intake.now (books c.args.calls.now) take_.Failed how.Failed c.in-Failed.ensures refl c.requires.below (refl, c.requires.waits)
