use Rattle.call_run.proofs.ClientsHandingIn.{handing_next, room_one}
use Rattle.call_run.proofs.leaving.hand_in_all.Goals as goal

pub hand_in-requires : goal.hand_in-requires
hand_in-requires g c = room_one _ _ _ c.hands.left c.hands.invariant.2.more c.in-Some.ensures.steps.0

pub hands-preserved : goal.hands-preserved
hands-preserved g c = (tt, tt, handing_next _ _ c.args.workers.items c.in-Some.worker c.args.left.now c.hands.left c.hand_in.new.left c.hands.invariant.2 c.in-Some.ensures.steps.0 c.hand_in.ensures)
