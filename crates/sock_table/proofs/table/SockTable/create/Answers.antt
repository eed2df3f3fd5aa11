use Rattle.std.proofs.Common.{ℕ, ◌≡◌, true, false, cond, arith, refl, sym, ap, ◌∙◌, subst}
use Rattle.sock_table.specs.LinkPasses.{TriedTo}
use Rattle.sock_table.proofs.QuietBetweenCalls.{tried_between}
use Rattle.sock_table.proofs.LifeMaking.{tries, wins, won_claim, made_between, made_known, tried_more, same_none, same_then, became_same, made_same, none_tried, one_tried, created}
use Rattle.sock_table.proofs.table.SockTable.create.Goals as goal

false_true : false ≡ true → ⊥
false_true e = let n : ℕ ≡ ⊥ = ap (λ b. cond b ⊥ ℕ) e in subst (λ (x : Type 0). x) n 0

pub loop-at-init : goal.loop-at-init
loop-at-init g c = (c.requires.seat, refl, refl, refl, c.requires.between, λ j lt. absurd (omega arith), same_none _ _, none_tried _)

pub claim_slot-step-requires-clause-seat : goal.claim_slot-step-requires-clause-seat
claim_slot-step-requires-clause-seat g c = c.loop-at.invariant.0

pub make-requires-clause-claimed : goal.make-requires-clause-claimed
make-requires-clause-claimed g c = won_claim c.loop-at.at c.loop-at.seat.me.0 c.claim_slot-step.new.seat.me.0 (wins c.loop-at.at c.claim_slot-step.result.found c.loop-at.seat.me.0 c.claim_slot-step.new.seat.me.0 (ap (λ m. m.0) c.claim_slot-step.ensures.view) (c.claim_slot-step.ensures.won.0 c.if-step.true))

pub returns-then-step-clause-slots : goal.returns-then-step-clause-slots
returns-then-step-clause-slots g c = c.make.ensures.slots ∙ (ap (λ m. m.1) c.claim_slot-step.ensures.view ∙ c.loop-at.invariant.3)

pub returns-then-step-clause-made : goal.returns-then-step-clause-made
returns-then-step-clause-made g c = (omega (arith, c.make.ensures.made.slot, c.loop-at-test.true), made_known c.args.self.now.rule.plan c.loop-at.at c.make.result.0 _ c.loop-at.seat.me.0 c.claim_slot-step.new.seat.me.0 c.make.new.seat.me.0 c.loop-at.invariant.4 (wins c.loop-at.at c.claim_slot-step.result.found c.loop-at.seat.me.0 c.claim_slot-step.new.seat.me.0 (ap (λ m. m.0) c.claim_slot-step.ensures.view) (c.claim_slot-step.ensures.won.0 c.if-step.true)) c.make.ensures.made)

pub returns-then-step-clause-between : goal.returns-then-step-clause-between
returns-then-step-clause-between g c = made_between c.args.self.now.rule.plan c.loop-at.at c.make.result.0 _ c.loop-at.seat.me.0 c.claim_slot-step.new.seat.me.0 c.make.new.seat.me.0 c.loop-at.invariant.4 (wins c.loop-at.at c.claim_slot-step.result.found c.loop-at.seat.me.0 c.claim_slot-step.new.seat.me.0 (ap (λ m. m.0) c.claim_slot-step.ensures.view) (c.claim_slot-step.ensures.won.0 c.if-step.true)) c.make.ensures.made

pub loop-at-preserved : goal.loop-at-preserved
loop-at-preserved g c = let t = (tries c.loop-at.at c.claim_slot-step.result.found c.loop-at.seat.me.0 c.claim_slot-step.new.seat.me.0 (ap (λ m. m.0) c.claim_slot-step.ensures.view) (λ e. (let q = sym c.if-step.false ∙ c.claim_slot-step.ensures.won.1 e in false_true q))) in (
  c.claim_slot-step.ensures.seat,
  refl,
  refl,
  ap (λ m. m.1) c.claim_slot-step.ensures.view ∙ c.loop-at.invariant.3,
  tried_between c.args.self.now.rule.plan c.loop-at.at c.loop-at.seat.me.0 c.claim_slot-step.new.seat.me.0 c.loop-at.invariant.4 t,
  tried_more c.loop-at.at c.loop-at.at c.loop-at.seat.me.0 c.claim_slot-step.new.seat.me.0 t refl c.loop-at.invariant.5,
  same_then c.args.self.now.rule.plan _ _ _ c.loop-at.invariant.6 (became_same c.args.self.now.rule.plan c.loop-at.at c.loop-at.seat.me.0 c.claim_slot-step.new.seat.me.0 _ _ t refl),
  one_tried c.loop-at.at c.args.seat.now.me.0 c.loop-at.seat.me.0 c.claim_slot-step.new.seat.me.0 c.loop-at.invariant.7 t,
)

pub returns-clause-seat : goal.returns-clause-seat
returns-clause-seat g c = c.loop-at.invariant.0

pub returns-clause-slots : goal.returns-clause-slots
returns-clause-slots g c = c.loop-at.invariant.3

pub returns-clause-between : goal.returns-clause-between
returns-clause-between g c = c.loop-at.invariant.4

pub returns-clause-full : goal.returns-clause-full
returns-clause-full g c = (c.loop-at.invariant.1, λ i il. c.loop-at.invariant.5 i (omega (arith, c.loop-at-test.false)))

pub returns-then-step-clause-same : goal.returns-then-step-clause-same
returns-then-step-clause-same g c = let won = wins c.loop-at.at c.claim_slot-step.result.found c.loop-at.seat.me.0 c.claim_slot-step.new.seat.me.0 (ap (λ m. m.0) c.claim_slot-step.ensures.view) (c.claim_slot-step.ensures.won.0 c.if-step.true) in
    same_then c.args.self.now.rule.plan _ _ _ c.loop-at.invariant.6 (made_same c.args.self.now.rule.plan c.loop-at.at c.make.result.0 _ c.loop-at.seat.me.0 c.claim_slot-step.new.seat.me.0 c.make.new.seat.me.0 won c.make.ensures.made)

pub returns-then-step-clause-created : goal.returns-then-step-clause-created
returns-then-step-clause-created g c = created c.args.self.now.rule.plan c.loop-at.at c.make.result.0 _ c.args.seat.now.me.0 c.loop-at.seat.me.0 c.claim_slot-step.new.seat.me.0 c.make.new.seat.me.0 c.loop-at.invariant.7
    (wins c.loop-at.at c.claim_slot-step.result.found c.loop-at.seat.me.0 c.claim_slot-step.new.seat.me.0 (ap (λ m. m.0) c.claim_slot-step.ensures.view) (c.claim_slot-step.ensures.won.0 c.if-step.true)) c.make.ensures.made

pub returns-clause-tried : goal.returns-clause-tried
returns-clause-tried g c = let t = c.loop-at.invariant.7 in let done = c.loop-at-test.false in let up = c.loop-at.auto.at-end in subst (λ (n : ℕ). TriedTo n c.args.seat.now.me.0 c.loop-at.seat.me.0) (omega arith) t

pub returns-clause-same : goal.returns-clause-same
returns-clause-same g c = c.loop-at.invariant.6
