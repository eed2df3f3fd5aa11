use Rattle.std.proofs.Common.{subst, arith}
use Rattle.rpc_reader.specs.Throwing.{ThrewOnce}
use Rattle.rpc_reader.proofs.SuccessiveTakes.{threw_none, threw_more, threw_last}
use Rattle.rpc_reader.proofs.throwing.throw_all.Goals as goal

pub throws-init : goal.throws-init
throws-init g c = record { can_go = tt; is_finite = tt; on = threw_none c.args.ending c.args.total (g.I.In.state c.args.inn.now) (omega arith) }

pub throws-preserved : goal.throws-preserved
throws-preserved g c = record {
  can_go = tt;
  is_finite = tt;
  on = threw_more c.args.ending c.args.total (g.I.In.state c.args.inn.now) (g.I.In.state c.throws.inn) (g.I.In.state c.throw_once.new.inn) c.throws.total c.throw_once.new.total c.throws.invariant.on (subst (λ b. ThrewOnce c.args.ending b (g.I.In.state c.throws.inn) (g.I.In.state c.throw_once.new.inn) c.throws.total c.throw_once.new.total) c.if-throw_once.false c.throw_once.ensures);
}

pub returns-then-throw_once : goal.returns-then-throw_once
returns-then-throw_once g c = threw_last c.args.ending c.args.total (g.I.In.state c.args.inn.now) (g.I.In.state c.throws.inn) (g.I.In.state c.throw_once.new.inn) c.throws.total c.throw_once.new.total c.throws.invariant.on (subst (λ b. ThrewOnce c.args.ending b (g.I.In.state c.throws.inn) (g.I.In.state c.throw_once.new.inn) c.throws.total c.throw_once.new.total) c.if-throw_once.true c.throw_once.ensures)
