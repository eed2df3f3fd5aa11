use Rattle.std.proofs.Common.{arith, subst, IfSome, IfNone}
use Rattle.machine_model.specs.Machines.{MachineState}
use Rattle.machine_model.specs.ReadingSteps.{NextReadIs, HasNoRead}
use Rattle.machine_steps.proofs.SeatMemoryPlaces.{view_of}
use Rattle.machine_steps.proofs.TablePlaces.{read_named, read_unnamed, read_past}
use Rattle.machine_tables.proofs.tables.Tables.next_read.Goals as goal

pub returns-then-at-len-clause-some : goal.returns-then-at-len-clause-some
returns-then-at-len-clause-some g c =
    subst (λ (m : MachineState). IfSome c.step.result (λ step. NextReadIs m c.args.link step)) c.self.view_is
    (read_named (view_of c.self.inside.table c.self.inside.seats.items c.self.inside.readers.items c.self.inside.opens.items c.self.inside.short) c.args.link c.from-at.result c.from-at.ensures c.index.result.now c.step.result (omega arith) c.index.ensures (c.step.ensures.program c.self.inside.table.calls))

pub returns-then-at-len-clause-none : goal.returns-then-at-len-clause-none
returns-then-at-len-clause-none g c =
    subst (λ (m : MachineState). IfNone c.step.result (HasNoRead m c.args.link)) c.self.view_is
    (read_unnamed (view_of c.self.inside.table c.self.inside.seats.items c.self.inside.readers.items c.self.inside.opens.items c.self.inside.short) c.args.link c.from-at.result c.from-at.ensures c.index.result.now c.step.result (omega arith) c.index.ensures (c.step.ensures.program c.self.inside.table.calls))

pub returns-else-at-len-clause-none : goal.returns-else-at-len-clause-none
returns-else-at-len-clause-none g c =
    subst (λ (m : MachineState). HasNoRead m c.args.link) c.self.view_is (read_past (view_of c.self.inside.table c.self.inside.seats.items c.self.inside.readers.items c.self.inside.opens.items c.self.inside.short) c.args.link c.from-at.result c.from-at.ensures (omega arith))
