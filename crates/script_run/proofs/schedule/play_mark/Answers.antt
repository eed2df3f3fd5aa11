use Rattle.std.proofs.Common.{refl}
use Rattle.machine_model.proofs.Same.{same_links_none}
use Rattle.sock_core.proofs.MachineBeforeEnding.{on_ok}
use Rattle.script_run.proofs.Playing.{playable_by, led_played}
use Rattle.script_run.proofs.ScheduleLines.{tick_mark, to_mark, unscheduled_mark}
use Rattle.script_run.proofs.schedule.play_mark.Goals as goal

pub returns-in-Tick-clause-played : goal.returns-in-Tick-clause-played
returns-in-Tick-clause-played g c =
    on_ok c.play_ticks.result (tick_mark c.args.machine.now c.play_ticks.new.machine c.in-Tick.seat c.in-Tick.ticks c.seat_number.result c.args.mark.now c.in-Tick.is c.seat_number.ensures c.requires.playable) c.play_ticks.ensures.played

pub returns-in-To-clause-played : goal.returns-in-To-clause-played
returns-in-To-clause-played g c =
    on_ok c.tick_until.result (λ led. to_mark c.args.machine.now c.tick_until.new.self c.in-To.seat c.in-To.kind c.seat_number-in-To.result c.args.mark.now c.in-To.is c.seat_number-in-To.ensures c.requires.playable
    (led_played c.args.machine.now c.tick_until.new.self c.seat_number-in-To.result c.in-To.kind led)) c.tick_until.ensures.led

pub returns-in-To-clause-playable : goal.returns-in-To-clause-playable
returns-in-To-clause-playable g c = on_ok c.tick_until.result (λ rest. playable_by c.tick_until.new.self rest c.tick_until.ensures.sizes) c.tick_until.ensures.rest

pub returns-in_default : goal.returns-in_default
returns-in_default g c = record {
  played = unscheduled_mark c.args.machine.now c.args.mark.now c.in_default.not-Tick c.in_default.not-To;
  playable = c.requires.playable;
  ends = same_links_none c.args.machine.now;
  says = refl;
}
