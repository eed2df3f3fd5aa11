use Rattle.std.proofs.Common.{inl, refl, ap, arith}
use Rattle.sock_io.specs.declared.link.Take.TheVariants as take_
use Rattle.rpc_reader.specs.ReadingTakeByTake.{goes_on}
use Rattle.rpc_reader.proofs.SuccessiveTakes.{threw_bytes, threw_nothing}
use Rattle.rpc_reader.proofs.throwing.throw_once.Goals as goal

pub returns-in-Took : goal.returns-in-Took
returns-in-Took g c = threw_bytes c.args.ending _ _ c.take.new.room c.in-Took.count c.args.total.now c.is_full.result c.in-Took.ensures (let k = c.take.auto.room in let r = c.requires in omega arith) c.is_full.ensures.full c.is_full.ensures.below

pub returns-then-ending : goal.returns-then-ending
returns-then-ending g c = threw_nothing c.args.ending _ _ c.take.new.room take_.Empty c.args.total.now _ c.in-Empty.ensures refl (let r = c.requires in omega arith) (inl (ap (λ e. goes_on e take_.Empty) c.if-ending.true))

pub returns-else-ending : goal.returns-else-ending
returns-else-ending g c = threw_nothing c.args.ending _ _ c.take.new.room take_.Empty c.args.total.now _ c.in-Empty.ensures refl (let r = c.requires in omega arith) (ap (λ e. goes_on e take_.Empty) c.if-ending.false, (let r = c.requires in omega arith))

pub returns-in-End : goal.returns-in-End
returns-in-End g c = threw_nothing c.args.ending _ _ c.take.new.room take_.End c.args.total.now _ c.in-End.ensures refl (let r = c.requires in omega arith) (inl refl)

pub returns-in-Closed : goal.returns-in-Closed
returns-in-Closed g c = threw_nothing c.args.ending _ _ c.take.new.room take_.Closed c.args.total.now _ c.in-Closed.ensures refl (let r = c.requires in omega arith) (inl refl)

pub returns-in-Failed : goal.returns-in-Failed
returns-in-Failed g c = threw_nothing c.args.ending _ _ c.take.new.room take_.Failed c.args.total.now _ c.in-Failed.ensures refl (let r = c.requires in omega arith) (inl refl)
