use Rattle.std.proofs.Common.{◌+◌, ◌-◌, false, true, [], ◌∷◌, length, arith, ap, sym, ◌∙◌, subst}
use lib.ListN.{get_elem?}
use Rattle.std.specs.Mem.Slots.{slots_items, slots_filled, slots_len}
use Rattle.sock_table.specs.ClosedSocketTable.{OutsOf}
use Rattle.sock_table.proofs.CloseLoopLasts.{still_full, now_empty, one_out, is_link}
use Rattle.sock_table.proofs.closing.take_outs.Goals as goal

pub loop-k-preserved : goal.loop-k-preserved
loop-k-preserved g c = let h = c.loop-k.invariant in let e = c.take.ensures.others in (
  e.0 ∙ h.0,
  e.2 ∙ h.1,
  still_full (slots_filled c.loop-k.table.slots) (slots_filled c.take.new.self.slots) c.loop-k.k (slots_len c.loop-k.table.slots) (slots_len c.take.new.self.slots) e.1 e.2 h.2,
  now_empty (slots_filled c.loop-k.table.slots) (slots_filled c.take.new.self.slots) c.loop-k.k e.1 h.3,
  omega (arith, c.loop-k-test.true),
)

pub loop-link-init : goal.loop-link-init
loop-link-init g c = let h = c.loop-k.invariant in let t = c.loop-k-test.false in let le = h.4 in (
  h.0,
  h.1,
  λ k le lt. h.2 k (omega arith) lt,
  λ j lt. h.3 j (omega arith),
  c.requires.empty.1,
  ap length c.requires.empty.0,
  c.requires.room,
  λ k lt. absurd (omega arith),
  omega arith,
)

pub unreachable-requires : goal.unreachable-requires
unreachable-requires g c = let h = c.loop-link.invariant in is_link c.args.plan.now.requests (slots_items c.args.table.now.slots) c.args.plan.now.links c.loop-link.link c.take-home.result c.requires.links c.loop-link-test.true
    (ap (λ l. get_elem? l (c.args.plan.now.requests + c.loop-link.link)) (sym h.0) ∙ c.take-home.ensures.value) c.in_default.not-Link

pub loop-link-preserved : goal.loop-link-preserved
loop-link-preserved g c = let h = c.loop-link.invariant in let e = c.take-home.ensures.others in (
  e.0 ∙ h.0,
  e.2 ∙ h.1,
  λ k le lt. still_full (slots_filled c.loop-link.table.slots) (slots_filled c.take-home.new.self.slots) (c.args.plan.now.requests + c.loop-link.link) (slots_len c.loop-link.table.slots) (slots_len c.take-home.new.self.slots) e.1 e.2 h.2 k (omega arith) lt,
  λ j lt. now_empty (slots_filled c.loop-link.table.slots) (slots_filled c.take-home.new.self.slots) (c.args.plan.now.requests + c.loop-link.link) e.1 h.3 j (omega arith),
  omega (arith, c.push_reserved.ensures.len, h.4),
  ap length c.push_reserved.ensures.items ∙ omega (arith, h.5, Rattle.std.proofs.Common.length-append c.loop-link.outs.items (c.in-Link.home.out ∷ [])),
  c.push_reserved.ensures.capacity ∙ h.6,
  subst (λ l. OutsOf c.args.plan.now.requests (c.loop-link.link + 1) l (slots_items c.args.table.now.slots)) (sym c.push_reserved.ensures.items)
      (one_out c.args.plan.now.requests (slots_items c.args.table.now.slots) c.loop-link.link c.loop-link.outs.items c.in-Link.home h.5
      (ap (λ l. get_elem? l (c.args.plan.now.requests + c.loop-link.link)) (sym h.0) ∙ c.in-Link.ensures.value) h.7),
  omega (arith, c.loop-link-test.true),
)

pub returns-clause-outs : goal.returns-clause-outs
returns-clause-outs g c = λ k kl. c.loop-link.invariant.7 k (omega (arith, c.loop-link-test.false))

pub returns-clause-count : goal.returns-clause-count
returns-clause-count g c = let h = c.loop-link.invariant in omega (arith, c.loop-link-test.false, h.5, h.8)
