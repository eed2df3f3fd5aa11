use Rattle.std.proofs.Common.{sym, ap, subst}
use Rattle.std.proofs.lemmas.Result.{on_ok_weaker}
use Rattle.sock_io.specs.LinkHalves.{IsSettled}
use Rattle.sock_io.specs.LinksInMemory.{MemInState}
use Rattle.loop_link.specs.ServingFedBytes.{loop_in}
use Rattle.prog_link.specs.AnyLinkHalves.{prog_in, prog_out}
use Rattle.prog_link.specs.declared.prog_in.ProgIn.{ProgIn}
use Rattle.prog_link.proofs.UnsettledLinks.{settled_loop, settled_other}
use Rattle.prog_link.proofs.prog_linker.ProgLinkerLinker.settle.Goals as goal

pub returns-clause-settled : goal.returns-clause-settled
returns-clause-settled g c = let out = c.args.ends.now.out in let new = c.settle.new.self in on_ok_weaker c.settle.result
    (λ settled. subst (λ (i : ProgIn). IsSettled (prog_out out) (prog_in i) (loop_in new)) (sym c.in-Loop.is)
    (settled_loop (prog_out out) c.taken.result.now c.is_finished-finished.result c.in-Loop.inn new c.taken.ensures c.is_finished-finished.ensures.told settled (ap (λ (h : MemInState). h.given) c.settle.ensures.half)))
    c.settle.ensures.settled

pub returns-in_default-clause-settled : goal.returns-in_default-clause-settled
returns-in_default-clause-settled g c = settled_other (prog_out c.args.ends.now.out) c.args.ends.now.inn c.in_default.not-Loop
