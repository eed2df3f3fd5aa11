use Rattle.std.proofs.Common.{◌≢◌, ◌∙◌, refl, sym, subst, inr, ⊎_elim}
use Rattle.seat_programs.specs.TableSteps as calls
use Rattle.sock_io.specs.declared.link.Ready.TheVariants as asks
use Rattle.seat_states.specs.declared.point.Step.{Step}
use Rattle.seat_states.specs.declared.point.Step.TheVariants as firsts
use Rattle.seat_states.specs.ProgramAtPoint.{heading_by}
use Rattle.client_seats.specs.ClientSeatState.{seat_data, around, seat_program, bytes_of, parts_of}
use Rattle.machine_model.specs.Machines.{table_sizes}
use Rattle.machine_model.specs.MachineSteps.{IsNext, IsFitStep}
use Rattle.machine_model.proofs.Tellings.{call_moved, call_waited, letter_moved, message_moved, link_moved, home_moved, put_moved, ready_moved, ready_waited}
use Rattle.machine_model.proofs.TableRoom.{needs, puts_none}
use Rattle.machine_steps.proofs.TableTellings.{told_aside}
use Rattle.machine_tables.proofs.table.Table.step.Goals as goal

now_not : asks.Now ≢ asks.NotYet
now_not e = cc

failed_not : asks.Failed ≢ asks.NotYet
failed_not e = cc

pub returns-in-Some-clause-ok : goal.returns-in-Some-clause-ok
returns-in-Some-clause-ok g c = call_waited c.kind-kind.result c.requires.may.next (c.kind-kind.ensures (around (table_sizes c.args.self.now) (seat_data c.args.place.now))) c.in-Table.step _ c.make_table_step.result c.in-Some.on c.in-Table.is c.make_table_step.ensures.made refl c.make_table_step.ensures.waits c.make_table_step.ensures.on c.in-Some.is

pub returns-in-None-clause-ok : goal.returns-in-None-clause-ok
returns-in-None-clause-ok g c = call_moved c.kind-kind.result c.requires.may.next (c.kind-kind.ensures (around (table_sizes c.args.self.now) (seat_data c.args.place.now))) c.in-Table.step _ c.make_table_step.result c.in-Table.is c.make_table_step.ensures.made refl c.make_table_step.ensures.waits c.in-None.is

pub returns-in-Aside-clause-ok : goal.returns-in-Aside-clause-ok
returns-in-Aside-clause-ok g c = told_aside c.args.self.now c.step_aside.new.self (seat_data c.args.place.now) (seat_data c.step_aside.new.place) c.args.step.now c.in-Aside.step c.step_aside.result c.in-Aside.is c.step_aside.ensures.ok c.args.seat

pub returns-in-Aside-clause-none : goal.returns-in-Aside-clause-none
returns-in-Aside-clause-none g c plain = needs c.args.self.now (seat_data c.args.place.now) (firsts.Aside c.in-Aside.step) (λ call. call) c.in-Aside.is c.requires.may.next (inr plain)

pub returns-in_ok-put_message-in-PutMessage-clause-ok : goal.returns-in_ok-put_message-in-PutMessage-clause-ok
returns-in_ok-put_message-in-PutMessage-clause-ok g c = letter_moved c.kind-kind.result c.requires.may.next (c.kind-kind.ensures (around (table_sizes c.args.self.now) (seat_data c.args.place.now))) c.in-PutMessage.request c.in-PutMessage.author c.in-PutMessage.is (c.in_ok-put_message-in-PutMessage.ensures.ok c.args.seat)

-- where a message goes home there is one
pub returns-in_err-put_message-in-PutMessage-clause-none : goal.returns-in_err-put_message-in-PutMessage-clause-none
returns-in_err-put_message-in-PutMessage-clause-none g c plain =
    let seat = seat_data c.args.place.now in
    let heading = heading_by c.in-PutMessage.author (parts_of seat.message) in
    absurd (puts_none (seat_program (table_sizes c.args.self.now) seat) (calls.OnMessage (calls.PutMessage c.in-PutMessage.request heading (bytes_of seat.message))) (subst (λ (step : Step). IsNext c.args.self.now seat step) c.in-PutMessage.is c.requires.may.next) plain)

pub returns-in-TakeMessage-clause-ok : goal.returns-in-TakeMessage-clause-ok
returns-in-TakeMessage-clause-ok g c = message_moved c.kind-kind.result c.requires.may.next (c.kind-kind.ensures (around (table_sizes c.args.self.now) (seat_data c.args.place.now))) c.in-TakeMessage.request c.in-TakeMessage.is (c.take_message.ensures c.args.seat)

pub returns-in-TakeHome-clause-ok : goal.returns-in-TakeHome-clause-ok
returns-in-TakeHome-clause-ok g c = link_moved c.kind-kind.result c.requires.may.next (c.kind-kind.ensures (around (table_sizes c.args.self.now) (seat_data c.args.place.now))) c.in-TakeHome.link c.in-TakeHome.is c.take_home.ensures

pub returns-in-PutHome-clause-ok : goal.returns-in-PutHome-clause-ok
returns-in-PutHome-clause-ok g c = home_moved c.kind-kind.result c.requires.may.next (c.kind-kind.ensures (around (table_sizes c.args.self.now) (seat_data c.args.place.now))) c.in-PutHome.link c.in-PutHome.places c.in-PutHome.is (c.put_home.ensures c.args.seat)

pub returns-in_ok-put_bytes-in-PutBytes-clause-ok : goal.returns-in_ok-put_bytes-in-PutBytes-clause-ok
returns-in_ok-put_bytes-in-PutBytes-clause-ok g c = put_moved c.kind-kind.result c.requires.may.next (c.kind-kind.ensures (around (table_sizes c.args.self.now) (seat_data c.args.place.now))) c.in-PutBytes.link c.in-PutBytes.field-1 c.in-PutBytes.author c.in_ok-put_bytes-in-PutBytes.field-0 c.in-PutBytes.is (c.in_ok-put_bytes-in-PutBytes.ensures.ok c.args.seat c.in-PutBytes.field-1)

pub returns-in-NotYet-clause-ok : goal.returns-in-NotYet-clause-ok
returns-in-NotYet-clause-ok g c = ready_waited c.kind-kind.result c.requires.may.next (c.kind-kind.ensures (around (table_sizes c.args.self.now) (seat_data c.args.place.now))) c.in-AskReady.link c.in-AskReady.is (c.in-NotYet.ensures c.args.seat)

pub returns-in-Now-clause-ok : goal.returns-in-Now-clause-ok
returns-in-Now-clause-ok g c = ready_moved c.kind-kind.result c.requires.may.next (c.kind-kind.ensures (around (table_sizes c.args.self.now) (seat_data c.args.place.now))) c.in-AskReady.link c.ask_ready.result (λ e. ⊎_elim (λ a. now_not (sym a ∙ e)) (λ a. failed_not (sym a ∙ e)) c.in-Now.is) c.in-AskReady.is (c.ask_ready.ensures c.args.seat)

pub step_aside-requires-clause-room : goal.step_aside-requires-clause-room
step_aside-requires-clause-room g c = needs c.args.self.now (seat_data c.args.place.now) (firsts.Aside c.in-Aside.step) (λ call. call) c.in-Aside.is c.requires.may.next c.requires.room

pub take_message-requires-clause-room : goal.take_message-requires-clause-room
take_message-requires-clause-room g c = needs c.args.self.now (seat_data c.args.place.now) (firsts.TakeMessage c.in-TakeMessage.request) (λ call. call) c.in-TakeMessage.is c.requires.may.next c.requires.room

pub take_home-requires-clause-room : goal.take_home-requires-clause-room
take_home-requires-clause-room g c = needs c.args.self.now (seat_data c.args.place.now) (firsts.TakeHome c.in-TakeHome.link) (λ call. call) c.in-TakeHome.is c.requires.may.next c.requires.room

pub put_home-requires-clause-room : goal.put_home-requires-clause-room
put_home-requires-clause-room g c = needs c.args.self.now (seat_data c.args.place.now) (firsts.PutHome c.in-PutHome.link c.in-PutHome.places) (λ call. call) c.in-PutHome.is c.requires.may.next c.requires.room

pub put_bytes-requires-clause-room : goal.put_bytes-requires-clause-room
put_bytes-requires-clause-room g c = needs c.args.self.now (seat_data c.args.place.now) (firsts.PutBytes c.in-PutBytes.link c.in-PutBytes.field-1 c.in-PutBytes.author) (λ call. call) c.in-PutBytes.is c.requires.may.next c.requires.room

pub ask_ready-requires-clause-room : goal.ask_ready-requires-clause-room
ask_ready-requires-clause-room g c = needs c.args.self.now (seat_data c.args.place.now) (firsts.AskReady c.in-AskReady.link) (λ call. call) c.in-AskReady.is c.requires.may.next c.requires.room

pub make_table_step-requires-clause-may : goal.make_table_step-requires-clause-may
make_table_step-requires-clause-may g c = subst (λ (s : Step). IsFitStep c.args.self.now (seat_data c.args.place.now) s) c.in-Table.is c.requires.may

pub step_aside-requires-clause-may : goal.step_aside-requires-clause-may
step_aside-requires-clause-may g c = subst (λ (s : Step). IsFitStep c.args.self.now (seat_data c.args.place.now) s) c.in-Aside.is c.requires.may

pub put_message-requires-clause-may : goal.put_message-requires-clause-may
put_message-requires-clause-may g c = subst (λ (s : Step). IsFitStep c.args.self.now (seat_data c.args.place.now) s) c.in-PutMessage.is c.requires.may
