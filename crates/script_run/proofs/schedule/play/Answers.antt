use Rattle.std.proofs.Common.{◌<◌, ◌+◌, ap, sym, subst, arith, ◌∙◌, refl}
use Rattle.brpc_model.specs.Operations.{clients}
use Rattle.calm_runs.specs.Below.script_facts.proofs.ScriptSizes.{keeps_limits}
use Rattle.script_draw.specs.DrawnSeats.{SeatDraws}
use Rattle.seat_programs.specs.ScriptSetupToEnding.{drawn_turns}
use Rattle.sock_words.specs.declared.plain.Plan.{Plan}
use Rattle.machine_model.specs.Driving.{FirstRests}
use Rattle.machine_model.proofs.Same.{same_links_none, same_links_join}
use Rattle.script_run.specs.Played.{turns_of}
use Rattle.script_run.proofs.ScheduleLines.{seats_in, none_drawn, begins_drawing, count_is, seats_there, draws_on, seat_drawn, drawn_more, drawn_played, by_marks, by_draws}
use Rattle.script_run.proofs.RunFromSetup.{playable_of, run_answered, plan_answered}
use Rattle.script_run.proofs.schedule.play.Goals.{in-Own+in_ok-play_marks-in-Own, in-Drawn+else-loop-test}
use Rattle.script_run.proofs.schedule.play.Goals as goal

pub play_marks-requires-clause-playable : goal.play_marks-requires-clause-playable
play_marks-requires-clause-playable g c κs within = playable_of c.requires.script.0 c.args.script.now c.args.machine.now c.requires.script.1 c.requires.made

-- ## Seats that are drawn

pub new-seats-requires : goal.new-seats-requires
new-seats-requires g c =
    let limits = (keeps_limits c.requires.script.0 c.args.script.now c.requires.script.1).links in
    let plan = ap (λ (p : Plan). p.links) c.plan-plan.ensures in omega (arith, limits, plan)

pub loop-init : goal.loop-init
loop-init g c =
    let plan = c.plan-plan.ensures in
    let begins = begins_drawing c.args.script.now c.plan-plan.result c.new-seats.result c.in-Drawn.seed plan c.new-seats.ensures in record {
      draws = begins;
      count = count_is c.args.script.now c.plan-plan.result c.new-seats.result 0 c.in-Drawn.seed c.count-end.result plan begins c.count-end.ensures;
      played = none_drawn (seats_in c.args.script.now) (clients c.args.script.now) c.in-Drawn.seed c.args.machine.now;
      playable = playable_of c.requires.script.0 c.args.script.now c.args.machine.now c.requires.script.1 c.requires.made;
      ends = same_links_none c.args.machine.now;
      says = refl;
    }

pub next_seat-seat-requires : goal.next_seat-seat-requires
next_seat-seat-requires g c =
    let i = c.loop.invariant in
    subst (λ (s : SeatDraws). 0 < s.clients + s.links) (sym i.draws) (seats_there c.args.script.now c.loop.counter c.count-end.result c.loop-test.true i.count)

pub tick_seat-requires-clause-playable : goal.tick_seat-requires-clause-playable
tick_seat-requires-clause-playable g c κs within = c.loop.invariant.playable

pub returns-in_err-tick_seat-in-Drawn-clause-ends : goal.returns-in_err-tick_seat-in-Drawn-clause-ends
returns-in_err-tick_seat-in-Drawn-clause-ends g c = same_links_join c.args.machine.now c.loop.machine c.tick_seat.new.machine c.loop.invariant.ends c.tick_seat.ensures.ends

pub returns-in_err-tick_seat-in-Drawn-clause-says : goal.returns-in_err-tick_seat-in-Drawn-clause-says
returns-in_err-tick_seat-in-Drawn-clause-says g c = c.tick_seat.ensures.says ∙ c.loop.invariant.says

pub loop-preserved : goal.loop-preserved
loop-preserved g c =
    let i = c.loop.invariant in
    let step = c.in_ok-tick_seat-in-Drawn.ensures in
    let script = c.args.script.now in record {
      draws = draws_on script c.loop.counter c.in-Drawn.seed c.loop.seats c.next_seat-seat.new.self i.draws c.next_seat-seat.ensures.after;
      count = i.count;
      played = drawn_more (seats_in script) (clients script) c.loop.counter c.in-Drawn.seed c.next_seat-seat.result c.args.machine.now c.loop.machine c.tick_seat.new.machine
          (seats_there script c.loop.counter c.count-end.result c.loop-test.true i.count) (seat_drawn script c.loop.counter c.in-Drawn.seed c.next_seat-seat.result c.loop.seats i.draws c.next_seat-seat.ensures.seat) i.played step.ticked;
      playable = step.playable;
      ends = same_links_join c.args.machine.now c.loop.machine c.tick_seat.new.machine i.ends step.ends;
      says = step.says ∙ i.says;
    }

-- ## Behind the schedule

pub settle-requires-clause-rest : goal.settle-requires-clause-rest
settle-requires-clause-rest g c κs within = elim c.match-schedule.branch [
  | in-Own+in_ok-play_marks-in-Own w ↦ subst FirstRests (sym w.machine-is) w.in_ok-play_marks-in-Own.ensures.playable.first
  | in-Drawn+else-loop-test w ↦ subst FirstRests (sym w.machine-is) w.loop.invariant.playable.first
]

pub returns : goal.returns
returns g c =
    let start = c.args.machine.now in let script = c.args.script.now in let turns = turns_of script c.args.schedule in let settled = c.settle.ensures in
    elim c.match-schedule.branch [
      | in-Own+in_ok-play_marks-in-Own w ↦ let step = w.in_ok-play_marks-in-Own.ensures in
          let played = by_marks script w.marks.result.now turns start w.play_marks.new.machine w.marks.ensures (ap (turns_of script) w.in-Own.is) step.played in record {
            run = run_answered script turns start c.match-schedule.machine c.settle.new.self c.settle.result c.requires.made (rw w.machine-is played) settled.settled;
            plan = plan_answered start c.match-schedule.machine c.settle.new.self c.settle.result (rw w.machine-is played.0.plan) (rw w.machine-is played.0.id_plan) settled.settled;
            ends = same_links_join start c.match-schedule.machine c.settle.new.self (rw w.machine-is step.ends) settled.ends;
            says = settled.says ∙ (rw w.links-is step.says);
          }
      | in-Drawn+else-loop-test w ↦ let i = w.loop.invariant in
          let most = w.loop.auto.counter-end in
          let least = w.loop-test.false in
          let played = by_draws turns (drawn_turns script w.in-Drawn.seed) start w.loop.machine (ap (turns_of script) w.in-Drawn.is) (drawn_played script w.loop.counter w.count-end.result w.in-Drawn.seed start w.loop.machine i.count (omega (arith, most, least)) i.played) in record {
            run = run_answered script turns start c.match-schedule.machine c.settle.new.self c.settle.result c.requires.made (rw w.machine-is played) settled.settled;
            plan = plan_answered start c.match-schedule.machine c.settle.new.self c.settle.result (rw w.machine-is played.0.plan) (rw w.machine-is played.0.id_plan) settled.settled;
            ends = same_links_join start c.match-schedule.machine c.settle.new.self (rw w.machine-is i.ends) settled.ends;
            says = settled.says ∙ (rw w.links-is i.says);
          }
    ]
