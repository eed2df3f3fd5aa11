use Rattle.std.proofs.Common.{refl, ◌∙◌}
use Rattle.sock_core.proofs.MachineBeforeEnding.{passed_none, passed_more, passed_last}
use Rattle.machine_model.proofs.Same.{both_join}
use Rattle.sock_core.proofs.machine.Machine.tick_until.Goals as goal

pub loop-init : goal.loop-init
loop-init g c = record {
  so_far = passed_none c.args.self.now c.args.seat c.args.kind c.requires.rest c.in_ok-end.ensures.left;
  says = refl;
}

pub tick-requires-clause-rest : goal.tick-requires-clause-rest
tick-requires-clause-rest g c κs within = c.loop.invariant.so_far.rest

pub returns-then-is_last-clause-led : goal.returns-then-is_last-clause-led
returns-then-is_last-clause-led g c = passed_last c.args.self.now c.loop.self c.tick.new.self c.args.seat c.args.kind c.loop.counter c.loop.invariant.so_far c.in_ok-tick.field-0 (c.is_last.ensures.last c.if-is_last.true) c.in_ok-tick.ensures.tick

pub returns-then-is_last-clause-same : goal.returns-then-is_last-clause-same
returns-then-is_last-clause-same g c = let i = c.loop.invariant.so_far in both_join c.args.self.now c.loop.self c.tick.new.self (i.passed.0, i.passed.1) c.tick.ensures.same

pub returns-in_err-tick-clause-same : goal.returns-in_err-tick-clause-same
returns-in_err-tick-clause-same g c = let i = c.loop.invariant.so_far in both_join c.args.self.now c.loop.self c.tick.new.self (i.passed.0, i.passed.1) c.tick.ensures.same

pub returns-then-is_last-clause-says : goal.returns-then-is_last-clause-says
returns-then-is_last-clause-says g c = c.tick.ensures.says ∙ c.loop.invariant.says

pub returns-in_err-tick-clause-says : goal.returns-in_err-tick-clause-says
returns-in_err-tick-clause-says g c = c.tick.ensures.says ∙ c.loop.invariant.says

pub loop-preserved : goal.loop-preserved
loop-preserved g c = record {
  so_far = passed_more c.args.self.now c.loop.self c.tick.new.self c.args.seat c.args.kind c.loop.counter c.loop.invariant.so_far c.in_ok-tick.field-0 (c.is_last.ensures.other c.if-is_last.false) c.in_ok-tick.ensures.tick c.in_ok-tick.ensures.left c.in_ok-tick.ensures.rest;
  says = c.tick.ensures.says ∙ c.loop.invariant.says;
}
