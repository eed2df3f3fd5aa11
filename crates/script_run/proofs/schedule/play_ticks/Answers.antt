use Rattle.std.proofs.Common.{◌≡◌, replicate, subst, refl, arith, ◌∙◌}
use Rattle.seat_programs.specs.Ticks.{seats_of}
use Rattle.script_run.specs.Played.{HasPlayed}
use Rattle.machine_model.proofs.Same.{same_links_none, same_links_join}
use Rattle.script_run.proofs.Playing.{none_played}
use Rattle.script_run.proofs.ScheduleLines.{one_more_tick, ticks_left}
use Rattle.script_run.proofs.schedule.play_ticks.Goals as goal

pub loop-init : goal.loop-init
loop-init g c = record {
  played = none_played (λ d moments. seats_of moments ≡ replicate 0 c.args.seat) c.args.machine.now (λ d. refl);
  playable = c.requires.playable;
  ends = same_links_none c.args.machine.now;
  says = refl;
}

pub returns-in_err-tick_seat-clause-ends : goal.returns-in_err-tick_seat-clause-ends
returns-in_err-tick_seat-clause-ends g c = same_links_join c.args.machine.now c.loop.machine c.tick_seat.new.machine c.loop.invariant.ends c.tick_seat.ensures.ends

pub returns-in_err-tick_seat-clause-says : goal.returns-in_err-tick_seat-clause-says
returns-in_err-tick_seat-clause-says g c = c.tick_seat.ensures.says ∙ c.loop.invariant.says

pub returns-then-not-branch-clause-played : goal.returns-then-not-branch-clause-played
returns-then-not-branch-clause-played g c =
    let step = c.in_ok-tick_seat.ensures in
    let was = c.in_ok-tick_seat.was in
    let test = c.if-not-branch.true in
    ticks_left c.args.seat c.args.ticks c.loop.counter c.args.machine.now c.loop.machine c.tick_seat.new.machine c.loop-test.true c.loop.invariant.played (step.idle (cc))

pub returns-then-not-branch-clause-ends : goal.returns-then-not-branch-clause-ends
returns-then-not-branch-clause-ends g c = same_links_join c.args.machine.now c.loop.machine c.tick_seat.new.machine c.loop.invariant.ends c.in_ok-tick_seat.ensures.ends

pub returns-then-not-branch-clause-says : goal.returns-then-not-branch-clause-says
returns-then-not-branch-clause-says g c = c.tick_seat.ensures.says ∙ c.loop.invariant.says

pub loop-preserved : goal.loop-preserved
loop-preserved g c =
    let i = c.loop.invariant in
    let step = c.in_ok-tick_seat.ensures in record {
      played = one_more_tick c.args.seat c.loop.counter c.args.machine.now c.loop.machine c.tick_seat.new.machine i.played step.ticked;
      playable = step.playable;
      ends = same_links_join c.args.machine.now c.loop.machine c.tick_seat.new.machine i.ends step.ends;
      says = step.says ∙ i.says;
    }

pub returns-clause-played : goal.returns-clause-played
returns-clause-played g c =
    let most = c.loop.auto.counter-end in
    let least = c.loop-test.false in
    subst (λ n. HasPlayed (λ d moments. seats_of moments ≡ replicate n c.args.seat) c.args.machine.now c.loop.machine) (omega (arith, most, least)) c.loop.invariant.played
