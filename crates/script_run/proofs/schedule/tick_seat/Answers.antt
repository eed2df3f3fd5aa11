use Rattle.std.proofs.Common.{subst}
use Rattle.machine_model.specs.MachineRuns.{Ticked}
use Rattle.script_run.proofs.Playing.{playable_by, tick_played, idle_ticks}
use Rattle.script_run.proofs.schedule.tick_seat.Goals as goal

pub returns-in-Moved : goal.returns-in-Moved
returns-in-Moved g c =
    let step = c.in_ok-tick.ensures in record {
      ticked = tick_played c.args.machine.now c.tick.new.self c.args.seat c.in_ok-tick.field-0 step.tick;
      idle = λ e. absurd (cc);
      playable = playable_by c.tick.new.self step.rest step.sizes;
      ends = step.same.1;
      says = step.says;
    }

pub returns-in-Idle-clause-ticked : goal.returns-in-Idle-clause-ticked
returns-in-Idle-clause-ticked g c = tick_played c.args.machine.now c.tick.new.self c.args.seat c.in_ok-tick.field-0 c.in_ok-tick.ensures.tick

pub returns-in-Idle-clause-idle : goal.returns-in-Idle-clause-idle
returns-in-Idle-clause-idle g c same n = idle_ticks c.args.machine.now c.tick.new.self c.args.seat n (subst (Ticked c.args.machine.now c.tick.new.self c.args.seat) c.in-Idle.is c.in_ok-tick.ensures.tick)

pub returns-in-Idle-clause-playable : goal.returns-in-Idle-clause-playable
returns-in-Idle-clause-playable g c = let step = c.in_ok-tick.ensures in playable_by c.tick.new.self step.rest step.sizes
