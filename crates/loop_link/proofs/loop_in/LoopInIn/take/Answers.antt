use Rattle.std.proofs.Common.{refl, subst}
use Rattle.sock_io.specs.LinkHalves.{TakeStep}
use Rattle.loop_link.specs.ServingFedBytes.{LoopInState, loop_in}
use Rattle.loop_link.proofs.LinkOffersStay.{step_taken}
use Rattle.loop_link.proofs.loop_in.LoopInIn.take.Goals as goal

pub returns-clause-step : goal.returns-clause-step
returns-clause-step c =
    let peer = c.self.inside.peer in
    subst (λ (i : LoopInState). TakeStep (loop_in i) (loop_in (record { half = c.take.new.self; peer = peer })) c.take.new.room c.take.result) c.self.view_is
    (step_taken (record { half = c.self.inside.half; peer = peer }) (record { half = c.take.new.self; peer = peer }) c.args.room.now c.take.new.room c.take.result c.take.auto.room c.take.ensures.step c.take.ensures.answer c.take.ensures.bytes c.take.ensures.ending refl)
