use Rattle.std.proofs.Common.{sym, ◌∙◌, subst}
use Rattle.sock_table.specs.LinkPasses.{IsPass}
use Rattle.sock_open.proofs.SeatsHoldingNothing.{done_between, kept_done}
use Rattle.part_rows.proofs.sockets.renew.Goals as goal

pub create-requires-clause-seat : goal.create-requires-clause-seat
create-requires-clause-seat c = c.loop.invariant.0.seat

pub create-requires-clause-pass : goal.create-requires-clause-pass
create-requires-clause-pass c = c.loop.invariant.1

pub create-requires-clause-between : goal.create-requires-clause-between
create-requires-clause-between c = let z = c.args.table.now.rule.table.shared.table_id in let p = c.args.table.now.rule.plan in done_between z p c.loop.seat c.loop.invariant.0

pub loop-preserved : goal.loop-preserved
loop-preserved c = let z = c.args.table.now.rule.table.shared.table_id in let p = c.args.table.now.rule.plan in (
  kept_done z p c.loop.seat c.create.new.seat c.loop.invariant.0 c.create.ensures.seat c.create.ensures.slots c.create.ensures.between c.create.ensures.same,
  subst (λ x. IsPass z p x) (sym c.in-Err.ensures.full.0) c.loop.invariant.1,
  c.create.ensures.same.share ∙ c.loop.invariant.2,
)

pub returns-in-Ok-clause-seat : goal.returns-in-Ok-clause-seat
returns-in-Ok-clause-seat c = let z = c.args.table.now.rule.table.shared.table_id in let p = c.args.table.now.rule.plan in kept_done z p c.loop.seat c.create.new.seat c.loop.invariant.0 c.create.ensures.seat c.create.ensures.slots c.create.ensures.between c.create.ensures.same

pub returns-in-Ok-clause-share : goal.returns-in-Ok-clause-share
returns-in-Ok-clause-share c = c.create.ensures.same.share ∙ c.loop.invariant.2

pub returns-in-Ok-clause-known : goal.returns-in-Ok-clause-known
returns-in-Ok-clause-known c = record { inside = c.in-Ok.ensures.made.0; known = c.in-Ok.ensures.made.1 }

pub returns-clause-seat : goal.returns-clause-seat
returns-clause-seat c = c.loop.invariant.0

pub returns-clause-share : goal.returns-clause-share
returns-clause-share c = c.loop.invariant.2
