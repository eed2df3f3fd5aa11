use Rattle.std.proofs.Common.{inr, refl, arith, ap, map, ◌∙◌}
use Rattle.seat_programs.specs.ScriptSetupToEnding.{sizes_of}
use Rattle.seat_states.specs.ProgramAtPoint.{next_program}
use Rattle.client_seats.specs.ClientSeatState.{seat_data, around}
use Rattle.seat_states.specs.ProgramAtPoint.{after_ready}
use Rattle.sock_io.specs.LinkHalves.{end_of}
use Rattle.machine_steps.proofs.SeatBehindEachStep.{written, makes_along, goes, link_asked, same_sizes, asked_in}
use Rattle.seat_states.proofs.StepFacts.{asks}
use Rattle.machine_model.specs.Machines.{table_sizes}
use Rattle.machine_tables.proofs.table.Table.ask_ready.Goals as goal

pub ready_answered-next-requires : goal.ready_answered-next-requires
ready_answered-next-requires g c = let seat = seat_data c.args.place.now in record { step = (asks (around (table_sizes c.args.self.now) seat) seat.point c.args.link c.requires.next).0 }

pub follow-requires : goal.follow-requires
follow-requires g c = record { room = λ o name id e. c.requires.room.0; more = inr c.requires.room.1 }

pub returns : goal.returns
returns g c seat =
    makes_along c.self.view_is (
      _,
      refl,
      link_asked
          (goes (next_program (around c.sizes.result (seat_data c.args.place.now)) c.ready_answered-next.result) (record { plans = record { plan = refl; id_plan = refl; calls = refl; ending = refl }; inns = ap (map (λ e. g.I.In.state e.inn)) (written c.self.inside.ends.len c.ask_ready-answer.new.ends _ (omega (arith, c.self.inside.ends.ok))) ∙ c.ask_ready-answer.ensures.inns ∙ ap (map (λ e. g.I.In.state e.inn)) c.deref_mut.ensures.value }) c.sizes.ensures c.deref_mut-2.ensures.value (written c.self.inside.outcomes.len c.follow.new.outcomes _ (omega (arith, c.self.inside.outcomes.ok))) c.follow.ensures refl
          (c.ready_answered-next.ensures.program (around c.sizes.result (seat_data c.args.place.now)) ∙ same_sizes c.sizes.result (sizes_of c.self.inside.plan c.self.inside.ids.plan) (seat_data c.args.place.now) (λ x. after_ready x c.ask_ready-answer.result) c.sizes.ensures))
          (asked_in (λ e. g.O.Out.state e.out) (λ e. end_of (g.O.Out.state e.out) (g.I.In.state e.inn)) c.deref_mut.ensures.value (written c.self.inside.ends.len c.ask_ready-answer.new.ends _ (omega (arith, c.self.inside.ends.ok))) c.ask_ready-answer.ensures.outs)
          refl refl refl refl refl,
    )
