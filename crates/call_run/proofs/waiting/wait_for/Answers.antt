use Rattle.std.proofs.Common.{Some, refl, ◌∙◌, subst}
use Rattle.sock_table.specs.NamesStoredAndFound.{Found}
use Rattle.call_client.specs.rpc_client.proofs.FindingReferences.{rest_same, rest_waited}
use Rattle.call_run.proofs.waiting.wait_for.Goals as goal

pub waits-init : goal.waits-init
waits-init g c = record { can_go = tt; is_finite = tt; still = record { idle = c.requires.idle; same = refl } }

pub waits-preserved : goal.waits-preserved
waits-preserved g c = let p = c.args.table.now.rule.plan in let w = c.waits.invariant.still in let e = c.find.ensures in
    let none_ = subst (λ o. Found p c.args.name o c.waits.seat.me.0 c.find.new.seat.me.0) c.in_default.is e.found in record {
      can_go = tt;
      is_finite = tt;
      still = record {
        idle = (rest_same c.args.table.now.rule.table.shared.table_id p c.waits.seat c.find.new.seat w.idle e.seat e.slots (e.between w.idle.between) e.same).idle;
        same = (λ x. (none_.0 x, e.slots x)) ∙ w.same;
      };
    }

pub find-requires-clause-seat : goal.find-requires-clause-seat
find-requires-clause-seat g c = c.waits.invariant.still.idle.seat

pub returns-in-Some-find-clause-rest : goal.returns-in-Some-find-clause-rest
returns-in-Some-find-clause-rest g c = let z = c.args.table.now.rule.table.shared.table_id in let p = c.args.table.now.rule.plan in let w = c.waits.invariant.still in let e = c.find.ensures in
    rest_waited z p c.args.seat.now c.waits.seat c.find.new.seat w (rest_same z p c.waits.seat c.find.new.seat w.idle e.seat e.slots (e.between w.idle.between) e.same)

pub returns-in-Some-find-clause-found : goal.returns-in-Some-find-clause-found
returns-in-Some-find-clause-found g c = (c.in-Some-find._id, subst (λ m. Found c.args.table.now.rule.plan c.args.name (Some c.in-Some-find._id) m.0 c.find.new.seat.me.0) c.waits.invariant.still.same c.in-Some-find.ensures.found)
