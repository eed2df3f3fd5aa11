use Rattle.std.proofs.Common.{◌≡◌, ◌∷◌, ◌∙◌, length, sym, subst}
use Rattle.std.specs.Prelude.{List}
use Rattle.seat_programs.specs.declared.task.Task.{Task}
use Rattle.rpc_client.proofs.CountedReferences.{refs_then}
use Rattle.call_client.specs.ClientBetweenOperations.{stand}
use Rattle.call_client.specs.ClientRun.{LeftAll}
use Rattle.call_client.proofs.RunBehindOperation.{may_next, may_rest, left_passes}
use Rattle.call_client.proofs.running.leave_all.Goals as goal

pub leave_one-requires-clause-may : goal.leave_one-requires-clause-may
leave_one-requires-clause-may g c = (may_next c.args.tables.now.socks.rule.plan c.args.tables.now.ids.plan c.leaves.tasks.items c.pop_front.new.self.items c.in-Some.task (length c.leaves.caller.passes.items) c.in-Some.ensures.items c.leaves.invariant.may).0

pub leaves-preserved : goal.leaves-preserved
leaves-preserved g c =
    let p = c.args.tables.now.socks.rule.plan in let q = c.args.tables.now.ids.plan in let i = c.leaves.invariant in let e = c.leave_one.ensures in let x = c.in-Some.task in let rest = c.pop_front.new.self.items in
    let one : c.leaves.tasks.items ≡ x ∷ rest = c.in-Some.ensures.items in record {
      idle = e.rest.idle;
      share = e.rest.share ∙ i.share;
      passes = e.passes;
      may = may_rest g.O.Out.state p q c.leaves.tasks.items rest x (stand c.leaves.caller) (stand c.leave_one.new.caller) one (left_passes g.O.Out.state p q x.number x.op (stand c.leaves.caller) (stand c.leave_one.new.caller) e.left) i.may;
      left = λ t more. i.left t (subst (λ (l : List Task). LeftAll p l (stand c.leaves.caller) t) (sym one) (stand c.leave_one.new.caller, e.left, more));
      refs = refs_then c.args.caller.now.seat.me.0 c.leaves.caller.seat.me.0 c.leave_one.new.caller.seat.me.0 i.refs e.refs;
      held = e.others.0 ∙ i.held;
      outcomes = e.others.1 ∙ i.outcomes;
      calls = e.others.2 ∙ i.calls;
    }
