use Rattle.std.proofs.Common.{[], refl, sym, ap, ◌∙◌}
use Rattle.atomic_table.specs.Table.{rest}
use Rattle.sock_model.specs.ChainRows.{fresh_claim}
use Rattle.message_parts.specs.Parcels.{parcel_of}
use Rattle.sock_model.specs.MessageLabels.{blank}
use Rattle.sock_rule.specs.Shows.{heading_of}
use Rattle.write_chain.proofs.Accepting.{asks_first, asks_next, asks_still, missed_slots, started_after, false_true}
use Rattle.write_chain.proofs.SeatOnceAccepted.{begins}
use Rattle.write_chain.proofs.entry.start.Goals as goal

pub loop-at-init : goal.loop-at-init
loop-at-init g c = let missed = c.in_default-claim_likely.ensures.missed in (
  c.claim_likely.ensures.seat,
  refl,
  refl,
  refl,
  missed_slots c.args.table.now.rule.plan c.look.new.seat.me c.claim_likely.new.seat.me missed ∙ c.look.ensures.slots,
  asks_still c.args.table.now.rule.plan c.args.sock.id.0 c.args.seat.now.me.0 c.look.new.seat.me c.claim_likely.new.seat.me (asks_first c.args.table.now.rule.plan c.args.sock.id.0 c.args.seat.now.me.0 c.look.new.seat.me.0 c.in_default.ensures.live) missed,
)

pub accept-requires-clause-claimed : goal.accept-requires-clause-claimed
accept-requires-clause-claimed g c = let y = c.in-Some.ensures.claimed.2.0 c.in-Some.ensures.claimed.1 in (fresh_claim 0 c.in-Some.claimed.at c.in-Some.claimed.found blank [], ap (λ m. m.0.claims) y.2, refl, refl)

pub returns-in-Some-clause-started : goal.returns-in-Some-clause-started
returns-in-Some-clause-started g c = let y = c.in-Some.ensures.claimed.2.0 c.in-Some.ensures.claimed.1 in
    started_after c.args.table.now.rule.plan c.args.sock 0 (heading_of c.args.msg) (parcel_of c.args.msg.bytes).bytes (fresh_claim 0 c.in-Some.claimed.at c.in-Some.claimed.found blank []) c.accept.result c.args.seat.now.me.0 c.look.new.seat.me.0 c.claim_likely.new.seat.me.0 c.accept.new.seat.me.0 (asks_first c.args.table.now.rule.plan c.args.sock.id.0 c.args.seat.now.me.0 c.look.new.seat.me.0 c.in_default.ensures.live) (ap (λ m. m.0) y.2) c.accept.ensures.started

pub returns-in-Some-clause-begins : goal.returns-in-Some-clause-begins
returns-in-Some-clause-begins g c = let y = c.in-Some.ensures.claimed.2.0 c.in-Some.ensures.claimed.1 in λ none_ room. begins c.args.table.now.rule.plan c.args.sock (heading_of c.args.msg) (parcel_of c.args.msg.bytes).bytes c.accept.result c.args.seat.now.me.0 c.accept.new.seat.me c.requires.may.between c.requires.held room (returns-in-Some-clause-started g c) (c.accept.ensures.slots ∙ (ap (λ m. rest m.1) y.2 ∙ (c.look.ensures.slots ∙ none_)))

pub claim_request-step-requires-clause-seat : goal.claim_request-step-requires-clause-seat
claim_request-step-requires-clause-seat g c = c.loop-at.invariant.0

pub claim_request-step-requires-clause-unclaimed : goal.claim_request-step-requires-clause-unclaimed
claim_request-step-requires-clause-unclaimed g c = ap (λ v. v.claims) c.loop-at.invariant.5.others ∙ c.requires.may.claims

pub loop-at-preserved : goal.loop-at-preserved
loop-at-preserved g c = let odd = c.claim_request-step.ensures.asked.1 (λ e. false_true (sym c.if-step.false ∙ c.claim_request-step.ensures.won.1 e)) in (
  c.claim_request-step.ensures.seat,
  refl,
  refl,
  refl,
  ap (λ m. m.1) odd ∙ c.loop-at.invariant.4,
  asks_next c.args.table.now.rule.plan c.args.sock.id.0 c.loop-at.at c.args.seat.now.me.0 c.loop-at.seat.me.0 c.claim_request-step.new.seat.me.0 c.loop-at.invariant.5 (ap (λ m. m.0) odd),
)

pub accept-requires-then-step-clause-claimed : goal.accept-requires-then-step-clause-claimed
accept-requires-then-step-clause-claimed g c = let y = c.claim_request-step.ensures.asked.0 (c.claim_request-step.ensures.won.0 c.if-step.true) in (fresh_claim 0 c.loop-at.at c.claim_request-step.result.found blank [], ap (λ m. m.0.claims) y.2, refl, refl)

pub returns-then-step-clause-started : goal.returns-then-step-clause-started
returns-then-step-clause-started g c = let y = c.claim_request-step.ensures.asked.0 (c.claim_request-step.ensures.won.0 c.if-step.true) in
    started_after c.args.table.now.rule.plan c.args.sock c.loop-at.at (heading_of c.args.msg) (parcel_of c.args.msg.bytes).bytes (fresh_claim 0 c.loop-at.at c.claim_request-step.result.found blank []) c.accept-then-step.result c.args.seat.now.me.0 c.loop-at.seat.me.0 c.claim_request-step.new.seat.me.0 c.accept-then-step.new.seat.me.0 c.loop-at.invariant.5 (ap (λ m. m.0) y.2) c.accept-then-step.ensures.started

pub returns-then-step-clause-begins : goal.returns-then-step-clause-begins
returns-then-step-clause-begins g c = let y = c.claim_request-step.ensures.asked.0 (c.claim_request-step.ensures.won.0 c.if-step.true) in λ none_ room. begins c.args.table.now.rule.plan c.args.sock (heading_of c.args.msg) (parcel_of c.args.msg.bytes).bytes c.accept-then-step.result c.args.seat.now.me.0 c.accept-then-step.new.seat.me c.requires.may.between c.requires.held room (returns-then-step-clause-started g c) (c.accept-then-step.ensures.slots ∙ (ap (λ m. rest m.1) y.2 ∙ (c.loop-at.invariant.4 ∙ none_)))
