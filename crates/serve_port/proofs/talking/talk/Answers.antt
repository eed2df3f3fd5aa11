use Rattle.std.proofs.Common.{sym, subst, arith, length-take}
use Rattle.serve_port.specs.ServingConnections.{Serves}
use Rattle.sock_io.specs.LinkHalves.{end_of}
use Rattle.serve_port.proofs.ConnectionServed.{begins_talking, at_limit, at_end, take_failed, goes_on, stops, in_front}
use Rattle.serve_port.proofs.talking.talk.Goals as goal

pub takes-init : goal.takes-init
takes-init g c = record { can_go = tt; is_finite = tt; talks = begins_talking c.args.conn.now _ _ c.requires.both c.requires.anew }

pub returns-then-left-eq0 : goal.returns-then-left-eq0
returns-then-left-eq0 g c = subst (λ s. Serves s (end_of (g.O.Out.state c.takes.out) (g.I.In.state c.takes.inn))) (sym c.service.ensures) (at_limit _ _ _ _ c.takes.invariant.talks c.if-left-eq0.true)

pub returns-in-Err : goal.returns-in-Err
returns-in-Err g c = subst (λ s. Serves s (end_of (g.O.Out.state c.answer.new.out) (g.I.In.state c.take.new.self))) (sym c.service-in-Err.ensures)
    (stops c.takes.left c.in-Took.count c.takes.conn c.answer.new.conn (g.O.Out.state c.takes.out) (g.O.Out.state c.answer.new.out) (g.I.In.state c.takes.inn) (g.I.In.state c.take.new.self) c.take.new.room _ c.take.result
    c.takes.invariant.talks c.take.ensures c.in-Took.is (in_front c.take.new.room _ c.in-Took.count c.take.result c.in-Took.is c.take.ensures.count)
    (omega (arith, c.take.auto.room, c.min-most.ensures, length-take c.min-most.result c.takes.room))
    c.answer.result c.answer.ensures c.in-Err.end c.in-Err.is)

pub takes-preserved-in_default : goal.takes-preserved-in_default
takes-preserved-in_default g c = record {
  can_go = tt;
  is_finite = tt;
  talks = goes_on c.takes.left c.in-Took.count c.takes.conn c.answer.new.conn (g.O.Out.state c.takes.out) (g.O.Out.state c.answer.new.out) (g.I.In.state c.takes.inn) (g.I.In.state c.take.new.self) c.take.new.room _ c.take.result
      c.takes.invariant.talks c.take.ensures c.in-Took.is (in_front c.take.new.room _ c.in-Took.count c.take.result c.in-Took.is c.take.ensures.count)
      (omega (arith, c.take.auto.room, c.min-most.ensures, length-take c.min-most.result c.takes.room))
      c.answer.result c.answer.ensures c.in_default.is;
}

pub returns-in-End : goal.returns-in-End
returns-in-End g c = subst (λ s. Serves s (end_of (g.O.Out.state c.takes.out) (g.I.In.state c.take.new.self))) (sym c.service-in-End.ensures) (at_end c.takes.left c.takes.conn _ _ _ c.take.new.room c.take.result c.takes.invariant.talks c.take.ensures c.in-End.is)

pub returns-in-Failed : goal.returns-in-Failed
returns-in-Failed g c = subst (λ s. Serves s (end_of (g.O.Out.state c.takes.out) (g.I.In.state c.take.new.self))) (sym c.service-in-Failed.ensures) (take_failed c.takes.left c.takes.conn _ _ _ c.take.new.room c.take.result c.takes.invariant.talks c.take.ensures c.in-Failed.is)
