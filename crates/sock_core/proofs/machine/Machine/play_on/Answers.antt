use Rattle.std.proofs.Common.{Ok, ap, ◌∙◌, refl}
use Rattle.machine_model.proofs.Same.{both_join}
use Rattle.sock_core.proofs.Rounding.{played_none, played_more, played_last}
use Rattle.sock_core.proofs.machine.Machine.play_on.Goals as goal

pub loop-init : goal.loop-init
loop-init g c = record {
  so_far = played_none c.args.self.now c.requires.rest c.in_ok-end.ensures.left;
  says = refl;
}

pub round-requires-clause-enough : goal.round-requires-clause-enough
round-requires-clause-enough g c κs within = c.loop.invariant.so_far.left.0

pub round-requires-clause-rest : goal.round-requires-clause-rest
round-requires-clause-rest g c κs within = c.loop.invariant.so_far.rest

pub returns-in_err-round-clause-same : goal.returns-in_err-round-clause-same
returns-in_err-round-clause-same g c = let i = c.loop.invariant.so_far in both_join c.args.self.now c.loop.self c.round.new.self (i.ran.0, i.ran.1) c.round.ensures.same

pub returns-in_err-round-clause-says : goal.returns-in_err-round-clause-says
returns-in_err-round-clause-says g c = c.round.ensures.says ∙ c.loop.invariant.says

pub returns-then-not-branch-clause-says : goal.returns-then-not-branch-clause-says
returns-then-not-branch-clause-says g c = c.round.ensures.says ∙ c.loop.invariant.says

pub returns-then-not-branch-clause-ok : goal.returns-then-not-branch-clause-ok
returns-then-not-branch-clause-ok g c = let still = c.in_ok-round.ensures.still (ap Ok c.if-not-branch.true) in (played_last c.args.self.now c.loop.self c.round.new.self c.loop.counter c.loop.invariant.so_far still.0, still.1)

pub returns-then-not-branch-clause-same : goal.returns-then-not-branch-clause-same
returns-then-not-branch-clause-same g c = let i = c.loop.invariant.so_far in both_join c.args.self.now c.loop.self c.round.new.self (i.ran.0, i.ran.1) c.round.ensures.same

pub loop-preserved : goal.loop-preserved
loop-preserved g c = let moved = c.in_ok-round.ensures.moved (ap Ok c.if-not-branch.false) in record {
  so_far = played_more c.args.self.now c.loop.self c.round.new.self c.loop.counter c.loop.invariant.so_far moved.0 c.in_ok-round.ensures.rest moved.1;
  says = c.round.ensures.says ∙ c.loop.invariant.says;
}
