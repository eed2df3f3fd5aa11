use Rattle.std.proofs.Common.{Some, None, refl, ◌∙◌, subst, ap}
use Rattle.rpc_client.specs.SeatBetweenOperations.{SameRefs, StaysSeen}
use Rattle.rpc_client.proofs.FindingReferences.{rest_same, rest_waited}
use Rattle.rpc_reader.specs.ReaderSocketFailing.{OpenedBy}
use Rattle.rpc_reader.proofs.ReaderSocket.{opened_refs, opened_seen}
use Rattle.rpc_reader.proofs.opening.wait_open.Goals as goal

pub waits-init : goal.waits-init
waits-init g c = record { can_go = tt; is_finite = tt; still = record { idle = c.requires.idle; same = refl } }

pub waits-preserved : goal.waits-preserved
waits-preserved g c = let w = c.waits.invariant.still in let e = c.noted.ensures in record {
  can_go = tt;
  is_finite = tt;
  still = record {
    idle = (rest_same c.args.table.now.rule.table.shared.table_id c.args.table.now.rule.plan c.waits.seat c.noted.new.seat w.idle e.seat e.slots (e.between w.idle.between) e.same).idle;
    same = (λ x. (c.in-NotYet.ensures.noted.0 x, e.slots x)) ∙ w.same;
  };
}

pub noted-requires-clause-seat : goal.noted-requires-clause-seat
noted-requires-clause-seat g c = c.waits.invariant.still.idle.seat

pub returns-in-Id-clause-rest : goal.returns-in-Id-clause-rest
returns-in-Id-clause-rest g c = let z = c.args.table.now.rule.table.shared.table_id in let p = c.args.table.now.rule.plan in let w = c.waits.invariant.still in let e = c.noted.ensures in
    rest_waited z p c.args.seat.now c.waits.seat c.noted.new.seat w (rest_same z p c.waits.seat c.noted.new.seat w.idle e.seat e.slots (e.between w.idle.between) e.same)

pub returns-in-Id-clause-opened : goal.returns-in-Id-clause-opened
returns-in-Id-clause-opened g c = subst (λ m. OpenedBy c.args.table.now.rule.plan c.args.operation (Some c.in-Id.id) m.0 c.noted.new.seat.me.0) c.waits.invariant.still.same c.in-Id.ensures.noted

pub returns-in-Id-clause-refs : goal.returns-in-Id-clause-refs
returns-in-Id-clause-refs g c = subst (λ m. SameRefs m.0 c.noted.new.seat.me.0) c.waits.invariant.still.same (opened_refs c.args.table.now.rule.plan c.args.operation c.waits.seat.me.0 c.noted.new.seat.me.0 (Some c.in-Id.id) c.in-Id.ensures.noted)

pub returns-in-Id-clause-lists : goal.returns-in-Id-clause-lists
returns-in-Id-clause-lists g c = c.noted.ensures.same.lists ∙ ap (λ m. m.0.lists) c.waits.invariant.still.same

pub returns-in-Id-clause-seen : goal.returns-in-Id-clause-seen
returns-in-Id-clause-seen g c = subst (λ m. StaysSeen m.0 c.noted.new.seat.me.0) c.waits.invariant.still.same (opened_seen c.args.table.now.rule.plan c.args.operation c.waits.seat.me.0 c.noted.new.seat.me.0 (Some c.in-Id.id) c.in-Id.ensures.noted)

pub returns-in-Nothing-clause-rest : goal.returns-in-Nothing-clause-rest
returns-in-Nothing-clause-rest g c = let z = c.args.table.now.rule.table.shared.table_id in let p = c.args.table.now.rule.plan in let w = c.waits.invariant.still in let e = c.noted.ensures in
    rest_waited z p c.args.seat.now c.waits.seat c.noted.new.seat w (rest_same z p c.waits.seat c.noted.new.seat w.idle e.seat e.slots (e.between w.idle.between) e.same)

pub returns-in-Nothing-clause-opened : goal.returns-in-Nothing-clause-opened
returns-in-Nothing-clause-opened g c = subst (λ m. OpenedBy c.args.table.now.rule.plan c.args.operation None m.0 c.noted.new.seat.me.0) c.waits.invariant.still.same c.in-Nothing.ensures.noted

pub returns-in-Nothing-clause-refs : goal.returns-in-Nothing-clause-refs
returns-in-Nothing-clause-refs g c = subst (λ m. SameRefs m.0 c.noted.new.seat.me.0) c.waits.invariant.still.same (opened_refs c.args.table.now.rule.plan c.args.operation c.waits.seat.me.0 c.noted.new.seat.me.0 None c.in-Nothing.ensures.noted)

pub returns-in-Nothing-clause-lists : goal.returns-in-Nothing-clause-lists
returns-in-Nothing-clause-lists g c = c.noted.ensures.same.lists ∙ ap (λ m. m.0.lists) c.waits.invariant.still.same

pub returns-in-Nothing-clause-seen : goal.returns-in-Nothing-clause-seen
returns-in-Nothing-clause-seen g c = subst (λ m. StaysSeen m.0 c.noted.new.seat.me.0) c.waits.invariant.still.same (opened_seen c.args.table.now.rule.plan c.args.operation c.waits.seat.me.0 c.noted.new.seat.me.0 None c.in-Nothing.ensures.noted)
