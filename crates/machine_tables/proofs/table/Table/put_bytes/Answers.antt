use Rattle.std.proofs.Common.{◌≡◌, refl, arith, ap, map, sym, ◌∙◌, inr, Some, option_map}
use Rattle.sock_io.specs.LinkHalves.{end_of}
use Rattle.seat_programs.specs.ScriptSetupToEnding.{sizes_of}
use Rattle.seat_programs.specs.BufferParts.{part}
use Rattle.message_parts.specs.Parcels.{outgoing_of}
use Rattle.seat_states.specs.ProgramAtPoint.{next_program, parts_by, is_whole}
use Rattle.seat_states.proofs.StepFacts.{puts_piece}
use Rattle.client_seats.specs.ClientSeatState.{seat_data, around, left_of, taken_of, left_parts_of}
use Rattle.machine_model.specs.Machines.{table_sizes}
use Rattle.machine_model.specs.MachineSteps.{left_behind, taken_behind}
use Rattle.machine_steps.proofs.SeatBehindEachStep.{written, makes_along, goes, link_asked, put_is, put_part, asked_bytes, asked_in}
use Rattle.machine_tables.proofs.table.Table.put_bytes.Goals as goal

pub put_answered-next-requires : goal.put_answered-next-requires
put_answered-next-requires g c =
    let seat = seat_data c.args.place.now in
    record { step = (puts_piece (around (table_sizes c.args.self.now) seat) seat.point c.args.link c.requires.next.0 (part (parts_by c.args.author (left_parts_of seat.out)) (left_of seat.out) (taken_of seat.out)) c.requires.next.1).0 }

pub follow-requires : goal.follow-requires
follow-requires g c = record { room = λ o name id e. c.requires.room.0; more = inr c.requires.room.1 }

pub returns-clause-ok : goal.returns-clause-ok
returns-clause-ok g c seat_number asked =
    let seat = seat_data c.args.place.now in
    let put = c.put_bytes-answer.result.0 in
    let out = outgoing_of c.in-Some.out in
    let is : seat.out ≡ Some out = ap (option_map outgoing_of) c.in-Some.is in
    let ends = written c.self.inside.ends.len c.put_bytes-answer.new.ends _ (omega (arith, c.self.inside.ends.ok)) in
    makes_along c.self.view_is (
      put,
      refl,
      link_asked
          (goes (next_program (around c.sizes.result (record seat { out = Some (outgoing_of c.put_bytes-answer.new.out) })) c.put_answered-next.result)
          (record { plans = record { plan = refl; id_plan = refl; calls = refl; ending = refl }; inns = ap (map (λ e. g.I.In.state e.inn)) ends ∙ c.put_bytes-answer.ensures.inns ∙ ap (map (λ e. g.I.In.state e.inn)) c.deref_mut.ensures.value })
          c.sizes.ensures c.deref_mut-2.ensures.value (written c.self.inside.outcomes.len c.follow.new.outcomes _ (omega (arith, c.self.inside.outcomes.ok))) c.follow.ensures refl
          (put_is c.sizes.result (sizes_of c.self.inside.plan c.self.inside.ids.plan) seat (Some (outgoing_of c.put_bytes-answer.new.out)) c.put_answered-next.result put c.put_bytes-answer.result.1 c.sizes.ensures
          (c.put_bytes-answer.ensures.left ∙ sym (ap (λ o. left_behind put (left_of o)) is))
          (c.put_bytes-answer.ensures.taken ∙ sym (ap (λ o. taken_behind put (taken_of o)) is))
          (c.put_bytes-answer.ensures.parts ∙ sym (ap left_parts_of is))
          (c.put_bytes-answer.ensures.whole ∙ sym (ap (λ o. is_whole (left_of o) put) is))
          c.put_answered-next.ensures.program))
          (asked_in (λ e. g.O.Out.state e.out) (λ e. end_of (g.O.Out.state e.out) (g.I.In.state e.inn)) c.deref_mut.ensures.value ends (asked_bytes (sym (put_part seat.out out c.args.author is (c.is_of.ensures c.if-not-is_of.false))) c.put_bytes-answer.ensures.outs))
          refl refl refl refl refl,
    )
