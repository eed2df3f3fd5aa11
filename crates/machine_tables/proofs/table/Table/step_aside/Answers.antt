use Rattle.std.proofs.Common.{◌≡◌, refl, ℕ, subst}
use Rattle.call_points.specs.declared.aside.Aside.TheVariants as steps
use Rattle.call_points.specs.declared.aside.Aside as code
use Rattle.seat_states.specs.declared.point.Step.TheVariants as firsts
use Rattle.client_seats.specs.ClientSeatState.{seat_data, around, asked_or_nothing}
use Rattle.machine_model.specs.Machines.{table_sizes}
use Rattle.machine_model.specs.MachineSteps.{IsNext, IsFitStep, IsOnWord}
use Rattle.machine_model.proofs.Tellings.{aside_moved, aside_waited}
use Rattle.machine_steps.proofs.TableAsides.{takes_none}
use Rattle.machine_steps.proofs.TableTellings.{moved_aside}
use Rattle.machine_tables.proofs.table.Table.step_aside.Goals as goal

pub returns-in_ok-put_call-in-PutCall-clause-ok : goal.returns-in_ok-put_call-in-PutCall-clause-ok
returns-in_ok-put_call-in-PutCall-clause-ok g c i = moved_aside (steps.PutCall c.in-PutCall.slot) tt c.in-PutCall.is c.requires.may.next (c.kind-kind.ensures (asked_or_nothing (seat_data c.args.place.now).call)) (c.in_ok-put_call-in-PutCall.ensures.ok i)

pub returns-in_ok-take_call-in-TakeCall-clause-ok : goal.returns-in_ok-take_call-in-TakeCall-clause-ok
returns-in_ok-take_call-in-TakeCall-clause-ok g c i = moved_aside (steps.TakeCall c.in-TakeCall.slot) tt c.in-TakeCall.is c.requires.may.next (c.kind-kind.ensures (asked_or_nothing (seat_data c.args.place.now).call)) (c.in_ok-take_call-in-TakeCall.ensures.ok i)

pub returns-in-Some-clause-ok : goal.returns-in-Some-clause-ok
returns-in-Some-clause-ok g c i =
    let seat = seat_data c.args.place.now in
    let waits = c.make_aside.ensures.waits in
    aside_waited c.kind-kind.result c.requires.may.next (c.kind-kind.ensures (asked_or_nothing seat.call)) c.args.step waits.0 c.make_aside.result c.in-Some.on refl (c.make_aside.ensures.made i) waits.1 waits.2 c.make_aside.ensures.on c.in-Some.is

pub returns-in-None-clause-ok : goal.returns-in-None-clause-ok
returns-in-None-clause-ok g c i =
    let seat = seat_data c.args.place.now in
    let waits = c.make_aside.ensures.waits in
    aside_moved c.kind-kind.result c.requires.may.next (c.kind-kind.ensures (asked_or_nothing seat.call)) c.args.step waits.0 c.make_aside.result refl (c.make_aside.ensures.made i) waits.1 waits.2 c.in-None.is

on_word : (s : code.Aside) → ((i : ℕ) → s ≡ steps.PutCall i → ⊥) → ((i : ℕ) → s ≡ steps.TakeCall i → ⊥) → ((k n : ℕ) → s ≡ steps.TakeBytes k n → ⊥) → IsOnWord s
on_word (steps.PutCall i) put take bytes = put i refl
on_word (steps.TakeCall i) put take bytes = take i refl
on_word (steps.TakeBytes k n) put take bytes = bytes k n refl
on_word _ put take bytes = tt

-- no client takes bytes of a link
pub make_aside-requires-clause-kind : goal.make_aside-requires-clause-kind
make_aside-requires-clause-kind g c =
    let seat = seat_data c.args.place.now in
    let t = c.args.self.now in
    on_word c.args.step c.in_default.not-PutCall c.in_default.not-TakeCall (λ k n e. takes_none (around (table_sizes t) seat) seat.point k n (subst (λ (s : code.Aside). IsNext t seat (firsts.Aside s)) e c.requires.may.next))

pub put_call-requires-clause-may : goal.put_call-requires-clause-may
put_call-requires-clause-may g c = subst (λ (s : code.Aside). IsFitStep c.args.self.now (seat_data c.args.place.now) (firsts.Aside s)) c.in-PutCall.is c.requires.may

pub take_call-requires-clause-may : goal.take_call-requires-clause-may
take_call-requires-clause-may g c = subst (λ (s : code.Aside). IsFitStep c.args.self.now (seat_data c.args.place.now) (firsts.Aside s)) c.in-TakeCall.is c.requires.may
