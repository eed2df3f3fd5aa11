use Rattle.std.proofs.Common.{length, ap, sym, ◌∙◌, arith}
use Rattle.std.proofs.Props.{props}
use Rattle.std.proofs.Math.Logic.{∥∥₁_elim}
use Rattle.machine_model.specs.Machines.{MachineState}
use Rattle.sock_core.proofs.machine.Machine.clients.Goals as goal

pub returns-clause-seats : goal.returns-clause-seats
returns-clause-seats g c = ∥∥₁_elim c.self.invariant.0.sizes (hlevel props) (λ h. c.seat_count.ensures ∙ sym h.seats_are ∙ ap (λ (m : MachineState). length m.seats) c.self.view_is)

pub returns-clause-some : goal.returns-clause-some
returns-clause-some g c = ∥∥₁_elim c.self.invariant.0.sizes (hlevel props) (λ h. let a = h.some_seat in let b = h.seats_are in let e = c.seat_count.ensures in omega (arith, a, b, e))

pub returns-clause-few : goal.returns-clause-few
returns-clause-few g c = ∥∥₁_elim c.self.invariant.0.sizes (hlevel props) (λ h. let a = h.few_seats in let b = h.seats_are in let e = c.seat_count.ensures in omega (arith, a, b, e))
