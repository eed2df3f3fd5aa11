use Rattle.std.proofs.Common.{List, sym, subst}
use Rattle.rpc_client.specs.declared.holding.Held.{Held}
use Rattle.rpc_client.specs.HoldAndDropOutcomes.{IsHolder}
use Rattle.rpc_client.proofs.CountedReferences.{holder_more}
use Rattle.rpc_client.proofs.FindingReferences.{here_inside}
use Rattle.rpc_client.proofs.holding.hold_one.Goals as goal

pub returns-in-Here-clause-holder : goal.returns-in-Here-clause-holder
returns-in-Here-clause-holder g c = let p = c.args.table.now.rule.plan in subst (λ (h : List Held). IsHolder p h c.find_socket.new.seat.me.0) (sym c.push_reserved.ensures.items)
    (holder_more p c.args.held.now.items c.args.seat.now.me.0 c.requires.holder record { name = c.args.name; id = c.in-Here.sock.id } c.find_socket.new.seat.me.0 (here_inside p c.args.name c.in-Here.sock c.args.seat.now.me.0 c.find_socket.new.seat.me.0 c.in-Here.ensures.reached) c.in-Here.ensures.refs)
