use Rattle.std.proofs.Common.{subst, Some, ◌∙◌}
use Rattle.sock_open.specs.NewTableContents.{PassesFrom}
use Rattle.sock_open.proofs.Racing.{pass_popped}
use Rattle.sock_open.proofs.SeatsHoldingNothing.{done_between}
use Rattle.write_chain.proofs.SeatBetweenMessages.{kept_free, stored_ready}
use Rattle.chain_orders.proofs.SenderCalls.{same_sent}
use Rattle.two_senders.proofs.pair.born.Goals as goal

pub create-requires-clause-seat : goal.create-requires-clause-seat
create-requires-clause-seat g c = c.requires.seat.done.seat

pub create-requires-clause-between : goal.create-requires-clause-between
create-requires-clause-between g c = done_between c.args.table.now.rule.table.shared.table_id c.args.table.now.rule.plan c.args.seat c.requires.seat.done

pub create-requires-clause-pass : goal.create-requires-clause-pass
create-requires-clause-pass g c = let z = c.args.table.now.rule.table.shared.table_id in let p = c.args.table.now.rule.plan in (pass_popped z p 0 c.pop.new.self.items (Some c.in_ok-pass.pass) (subst (PassesFrom z p 0) c.in_ok-pass.ensures.items c.requires.passes)).1

pub publish-requires-clause-known : goal.publish-requires-clause-known
publish-requires-clause-known g c = record { inside = c.in-Ok.ensures.made.0; known = c.in-Ok.ensures.made.1 }

pub returns : goal.returns
returns g c = let z = c.args.table.now.rule.table.shared.table_id in let p = c.args.table.now.rule.plan in (
  stored_ready z p _ _ c.in-Ok.id.0 c.create.new.seat c.publish.new.seat (kept_free z p c.args.seat c.create.new.seat c.requires.seat c.create.ensures.seat c.create.ensures.slots c.create.ensures.between c.create.ensures.same)
      record { inside = c.in-Ok.ensures.made.0; known = c.in-Ok.ensures.made.1 } c.publish.ensures.seat c.publish.ensures.published c.publish.ensures.between c.publish.ensures.same,
  same_sent p c.create.new.seat.me.0 c.publish.new.seat.me.0 c.publish.ensures.same ∙ (same_sent p c.args.seat.me.0 c.create.new.seat.me.0 c.create.ensures.same ∙ c.requires.new),
)
