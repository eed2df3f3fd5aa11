use Rattle.std.proofs.Common.{sym, ◌∙◌}
use Rattle.std.proofs.lemmas.Bool.{true≢false}
use Rattle.sock_core.proofs.MachineBeforeEnding.{plain_rests}
use Rattle.sock_core.proofs.Rounding.{first_none, first_more, first_last, leaves_fewer}
use Rattle.sock_core.proofs.machine.Machine.run_first.Goals as goal

pub returns-in_default : goal.returns-in_default
returns-in_default g c = absurd (true≢false (sym c.in_default.ensures.short ∙ c.requires.enough))

pub loop-init : goal.loop-init
loop-init g c = first_none c.args.self.now c.requires.plain c.in-Ok.ensures.sizes c.in-Ok.ensures.left

pub returns-then-not-is_moved-clause-rest : goal.returns-then-not-is_moved-clause-rest
returns-then-not-is_moved-clause-rest g c = let i = c.loop.invariant in (
  plain_rests c.loop.self c.advance_first.new.self c.advance_first.result _ i.plain i.sizes i.left (c.is_moved.ensures.still c.if-not-is_moved.true) c.advance_first.ensures.tick,
  λ seat at. (c.advance_first.ensures.first.0 seat at).1,
)

pub returns-then-not-is_moved-clause-ran : goal.returns-then-not-is_moved-clause-ran
returns-then-not-is_moved-clause-ran g c = let i = c.loop.invariant in
    first_last c.args.self.now c.loop.self c.advance_first.new.self c.loop.counter c.advance_first.result i c.advance_first.ensures.tick c.advance_first.ensures.first
    (plain_rests c.loop.self c.advance_first.new.self c.advance_first.result _ i.plain i.sizes i.left (c.is_moved.ensures.still c.if-not-is_moved.true) c.advance_first.ensures.tick)

pub loop-preserved : goal.loop-preserved
loop-preserved g c = let moved = c.is_moved.ensures.moved c.if-not-is_moved.false in
    first_more c.args.self.now c.loop.self c.advance_first.new.self c.loop.counter c.advance_first.result c.loop.invariant c.advance_first.ensures.tick c.advance_first.ensures.first
    (leaves_fewer moved.0 c.advance_first.result c.loop.self c.advance_first.new.self moved.1 c.advance_first.ensures.left) c.advance_first.ensures.sizes
