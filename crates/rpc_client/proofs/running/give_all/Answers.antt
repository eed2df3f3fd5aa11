use Rattle.std.proofs.Common.{◌∙◌}
use Rattle.rpc_client.proofs.FindingReferences.{rest_then}
use Rattle.rpc_client.proofs.ToldAndGivenBack.{gives_on}
use Rattle.rpc_client.proofs.running.give_all.Goals as goal

pub gives-preserved : goal.gives-preserved
gives-preserved g c = let z = c.args.table.now.rule.table.shared.table_id in let p = c.args.table.now.rule.plan in record {
  rest = rest_then z p c.args.seat.now c.gives.seat c.give_back.new.seat c.gives.invariant.rest c.give_back.ensures.rest;
  holder = c.give_back.ensures.holder;
  given = gives_on c.args.held.now.items c.gives.held.items c.give_back.new.held.items c.give_back.result c.args.seat.now.me.0 c.gives.seat.me.0 c.give_back.new.seat.me.0 c.gives.invariant.given c.give_back.ensures.by;
  lists = c.give_back.ensures.lists ∙ c.gives.invariant.lists;
}
