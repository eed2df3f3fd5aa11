use Rattle.std.proofs.Common.{sym}
use Rattle.seat_programs.specs.CallAndRetryPrograms.{retry_locked}
use Rattle.id_points.specs.IdsAndAttemptNumbers.{id_of, number_of}
use Rattle.call_points.specs.CallIdPoints.{lock_program}
use Rattle.call_points.specs.AsideCodeSteps.{step_of}
use Rattle.seat_states.specs.ProgramAtPoint.{client_on, locker_of}
use Rattle.seat_states.proofs.AsidesAndAttempts.{in_aside}
use Rattle.seat_states.proofs.point.Retrying.step.Goals as goal

pub returns-in-Lock : goal.returns-in-Lock
returns-in-Lock c a h =
    let k = retry_locked a.sizes.requests (id_of c.args.self.attempt.id) (number_of c.args.self.attempt.number) (client_on a) in
    rw c.in-Lock.is (in_aside (lock_program (locker_of c.args.self) k c.in-Lock.at) (step_of a.asked c.step.result) (rw (sym c.locker.ensures) (sym (c.step.ensures a.asked k))))
