use Rattle.std.proofs.Common.{◌+◌, [], ◌∷◌, length, length-set, length-append, arith, sym, ap, ◌∙◌, subst}
use mathlib.Core.Option.{some}
use Rattle.atomic_table.proofs.Lists.{set_else}
use Rattle.sock_table.specs.ClosedSocketTable.{OutsOf}
use Rattle.sock_table.proofs.CloseLoopLasts.{one_out, is_link}
use Rattle.sock_open.proofs.NewTableWords.{elem_at}
use Rattle.sock_open.proofs.opening.take_back.Goals as goal

pub unreachable-requires : goal.unreachable-requires
unreachable-requires g c = let h = c.loop-k.invariant in let r = c.args.plan.now.requests in let k = c.loop-k.k in
    is_link r c.args.homes.items c.args.plan.now.links k c.replace-home.result c.requires.links c.loop-k-test.true
    (sym (h.1 k (omega arith)) ∙ (elem_at c.loop-k.homes.items (r + k) c.index_mut.result.now (omega (arith, h.0, c.loop-k-test.true)) ∙ ap some (sym c.index_mut.ensures.value ∙ sym c.replace-home.ensures.value))) c.in_default.not-Link

pub loop-k-preserved : goal.loop-k-preserved
loop-k-preserved g c = let h = c.loop-k.invariant in let r = c.args.plan.now.requests in let k = c.loop-k.k in (
  length-set c.loop-k.homes.items (r + k) c.replace-home.new.dest ∙ h.0,
  λ j le. set_else c.loop-k.homes.items (r + k) (r + j) c.replace-home.new.dest (λ q. omega arith) ∙ h.1 j (omega arith),
  ap length c.push_reserved.ensures.items ∙ omega (arith, h.2, length-append c.loop-k.back.items (c.in-Link.home.out ∷ [])),
  omega (arith, c.push_reserved.ensures.len, h.3),
  c.push_reserved.ensures.capacity ∙ h.4,
  omega (arith, c.loop-k-test.true),
  subst (λ l. OutsOf c.args.plan.now.requests (c.loop-k.k + 1) l c.args.homes.items) (sym c.push_reserved.ensures.items)
      (one_out r c.args.homes.items k c.loop-k.back.items c.in-Link.home h.2
      (sym (h.1 k (omega arith)) ∙ (elem_at c.loop-k.homes.items (r + k) c.index_mut.result.now (omega (arith, h.0, c.loop-k-test.true)) ∙ ap some (sym c.index_mut.ensures.value ∙ sym c.in-Link.ensures.value))) h.6),
)

pub returns-clause-outs : goal.returns-clause-outs
returns-clause-outs g c = λ k kl. c.loop-k.invariant.6 k (omega (arith, c.loop-k-test.false))
