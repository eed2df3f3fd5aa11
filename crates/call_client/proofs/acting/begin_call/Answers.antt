use Rattle.std.proofs.Common.{◌+◌, refl, subst}
use Rattle.call_attempts.specs.CallBeginning.{CalledBy}
use Rattle.call_attempts.proofs.LeftByAttempt.{err_by}
use Rattle.call_client.specs.ClientBetweenOperations.{stand, both_of}
use Rattle.call_client.specs.ClientRun.{NotCalled, for_memory, for_slots}
use Rattle.call_client.proofs.ClientAfterOperations.{room_for_one}
use Rattle.call_client.proofs.acting.begin_call.Goals as goal

pub call_one-requires-clause-room : goal.call_one-requires-clause-room
call_one-requires-clause-room g c = room_for_one c.args.caller.now.sent c.args.caller.now.seat.me.0 c.requires.own c.requires.room

pub returns-in-Unopened-clause-called : goal.returns-in-Unopened-clause-called
returns-in-Unopened-clause-called g c = let d = record c.args.caller.now { seat = c.call_one.new.seat; calls = c.call_one.new.calls; sent = c.args.caller.now.sent + 1 } in λ number. (subst (λ k. CalledBy g.O.Out.state c.args.at.now.tables.now.socks.rule.plan c.args.at.now.tables.now.ids.plan c.args.call k (both_of (stand c.args.caller.now)) (both_of (stand d))) c.in-Unopened.is c.in_ok-called.ensures.by, record { held = refl; passes = refl })

pub returns-in-Begun-clause-called : goal.returns-in-Begun-clause-called
returns-in-Begun-clause-called g c = let d = record c.args.caller.now { seat = c.call_one.new.seat; calls = c.call_one.new.calls; sent = c.args.caller.now.sent + 1 } in λ number. (c.in-Begun.field-0, subst (λ k. CalledBy g.O.Out.state c.args.at.now.tables.now.socks.rule.plan c.args.at.now.tables.now.ids.plan c.args.call k (both_of (stand c.args.caller.now)) (both_of (stand d))) c.in-Begun.is c.in_ok-called.ensures.by, record { held = refl; passes = refl })

pub returns-in-NoSlot-clause-not_called : goal.returns-in-NoSlot-clause-not_called
returns-in-NoSlot-clause-not_called g c = let d = record c.args.caller.now { seat = c.call_one.new.seat; calls = c.call_one.new.calls; sent = c.args.caller.now.sent + 1 } in for_slots (subst (λ k. CalledBy g.O.Out.state c.args.at.now.tables.now.socks.rule.plan c.args.at.now.tables.now.ids.plan c.args.call k (both_of (stand c.args.caller.now)) (both_of (stand d))) c.in-NoSlot.is c.in_ok-called.ensures.by)

pub returns-in_err-called-clause-not_called : goal.returns-in_err-called-clause-not_called
returns-in_err-called-clause-not_called g c = let d = record c.args.caller.now { seat = c.call_one.new.seat; calls = c.call_one.new.calls; sent = c.args.caller.now.sent + 1 } in err_by c.from_residual.result (λ _. NotCalled g.O.Out.state c.args.at.now.tables.now.socks.rule.plan c.args.at.now.tables.now.ids.plan c.args.call (stand c.args.caller.now) (stand d)) (λ _. for_memory c.in_err-called.ensures.wanted)

pub returns-in-Unopened-clause-own : goal.returns-in-Unopened-clause-own
returns-in-Unopened-clause-own g c = c.call_one.ensures.own c.args.caller.now.sent c.requires.own

pub returns-in-Begun-clause-own : goal.returns-in-Begun-clause-own
returns-in-Begun-clause-own g c = c.call_one.ensures.own c.args.caller.now.sent c.requires.own

pub returns-in-NoSlot-clause-own : goal.returns-in-NoSlot-clause-own
returns-in-NoSlot-clause-own g c = c.call_one.ensures.own c.args.caller.now.sent c.requires.own

pub returns-in_err-called-clause-own : goal.returns-in_err-called-clause-own
returns-in_err-called-clause-own g c = c.call_one.ensures.own c.args.caller.now.sent c.requires.own
