use Rattle.std.proofs.Common.{refl, sym, subst, arith}
use Rattle.std.proofs.Math.ListN.{length-set}
use Rattle.machine_model.specs.Machines.{MachineState, table_of, IsSized}
use Rattle.machine_model.specs.ReadingSteps.{ReadFits}
use Rattle.machine_steps.proofs.SeatMemoryPlaces.{view_of}
use Rattle.machine_steps.proofs.TablePlaces.{reader_within, fit_here, read_told, read_in, read_along}
use Rattle.machine_steps.proofs.TableCuts.{cut_none, cut_machine, short_along}
use Rattle.machine_tables.proofs.tables.Tables.read.Goals as goal

pub returns-then-not-has_reader-clause-err : goal.returns-then-not-has_reader-clause-err
returns-then-not-has_reader-clause-err g c = short_along c.self.view_is (cut_machine _ _ (cut_none refl) refl refl refl refl)

pub index_mut-reader-requires : goal.index_mut-reader-requires
index_mut-reader-requires g c =
    let n = read_in c.self.view_is c.requires.next in
    let h = reader_within (view_of c.self.inside.table c.self.inside.seats.items c.self.inside.readers.items c.self.inside.opens.items c.self.inside.short) c.args.link c.from.result c.from.ensures n.reader n.at in
    omega (arith, h, c.self.inside.readers.ok)

pub overflow_add-link : goal.overflow_add-link
overflow_add-link g c = let h = c.has_reader.ensures c.if-not-has_reader.false in omega (arith, h)

pub read-requires-clause-may : goal.read-requires-clause-may
read-requires-clause-may g c κs within = fit_here (view_of c.self.inside.table c.self.inside.seats.items c.self.inside.readers.items c.self.inside.opens.items c.self.inside.short) c.args.link c.from.result c.from.ensures c.index_mut-reader.result.now c.index_mut-reader.ensures.value c.args.step (read_in c.self.view_is c.requires.next) (subst (λ (m : MachineState). ReadFits m c.args.link c.args.step) (sym c.self.view_is) c.requires.fits)

pub read-requires-clause-sized : goal.read-requires-clause-sized
read-requires-clause-sized g c κs within = subst (λ (m : MachineState). IsSized (table_of m)) (sym c.self.view_is) c.requires.sized

pub returns-in_default-clause-err : goal.returns-in_default-clause-err
returns-in_default-clause-err g c = short_along c.self.view_is (cut_machine _ _ c.in_default.ensures.err refl refl refl (length-set c.self.inside.readers.items c.from.result c.read.new.reader))

pub returns-clause-ok : goal.returns-clause-ok
returns-clause-ok g c = read_along c.self.view_is (read_told (view_of c.self.inside.table c.self.inside.seats.items c.self.inside.readers.items c.self.inside.opens.items c.self.inside.short) c.args.link c.from.result c.from.ensures c.index_mut-reader.result.now c.index_mut-reader.ensures.value c.args.step (read_in c.self.view_is c.requires.next) _ _ c.read.new.reader refl refl refl refl c.in-Ok.ensures.ok)
