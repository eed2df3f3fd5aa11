use Rattle.std.proofs.Common.{◌%◌, ◌==◌, false}
use Rattle.sock_words.specs.PackedWords.{vref_version}
use Rattle.seat_states.specs.declared.point.WriteStep.TheVariants as writes
use Rattle.seat_states.proofs.ProgramBehindSteps.{writes_by}
use Rattle.seat_states.proofs.point.Writer.next.Goals as goal

pub returns-in-ReverseNext-clause-program : goal.returns-in-ReverseNext-clause-program
returns-in-ReverseNext-clause-program c a = rw c.in-ReverseNext.is (c.turned.ensures.program a c.in-ReverseNext.field-2 c.args.found)

pub returns-in-DropPlace-clause-program : goal.returns-in-DropPlace-clause-program
returns-in-DropPlace-clause-program c a = rw c.in-DropPlace.is (c.dropped.ensures.program a c.args.found)

pub returns-in-FirstLook-clause-program : goal.returns-in-FirstLook-clause-program
returns-in-FirstLook-clause-program c a = let m = c.in-FirstLook.current in rw (c.in-FirstLook.is, c.by_life.ensures) (writes_by a c.args.self (vref_version c.args.found % 2 == 0) (writes.Put m false) (writes.Look m false))

pub returns-in-Look-clause-program : goal.returns-in-Look-clause-program
returns-in-Look-clause-program c a = let m = c.in-Look.current in rw (c.in-Look.is, c.by_life-in-Look.ensures) (writes_by a c.args.self (vref_version c.args.found % 2 == 0) (writes.Put m c.in-Look.asked) (writes.LoadCode m))

pub returns-in-SetOdd-clause-program : goal.returns-in-SetOdd-clause-program
returns-in-SetOdd-clause-program c a = let m = c.in-SetOdd.current in rw (c.in-SetOdd.is, c.by_life-in-SetOdd.ensures) (writes_by a c.args.self (vref_version c.args.found % 2 == 0) (writes.StoreCode m) (writes.Look m false))
