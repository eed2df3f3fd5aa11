use Rattle.std.proofs.Common.{drop, arith}
use Rattle.std.proofs.lemmas.List.{length-take}
use Rattle.machine_steps.proofs.SeatBehindEachStep.{written}
use Rattle.machine_tables.proofs.reading.take_into.Goals as goal

pub returns : goal.returns
returns g c = let kept = c.take.auto.room in let all = length-take c.args.count c.args.room.now in let few = c.requires.fits in
    rw (written c.args.count c.take.new.room (drop c.args.count c.args.room.now) (omega (arith, kept, all, few))) c.take.ensures
