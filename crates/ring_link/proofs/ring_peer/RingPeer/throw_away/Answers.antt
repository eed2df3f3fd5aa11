use Rattle.std.proofs.Common.{◌≡◌, ◌&&◌, true, false, take, refl, ap, sym, ◌∙◌, subst, ◌++◌}
use Rattle.sock_io.specs.Peer.{has_ended}
use Rattle.sock_io.specs.declared.ending.Ending.TheVariants as ending
use Rattle.ring_link.specs.RingHalves.{RingPeerState, SameRings}
use Rattle.ring_link.proofs.Peers.{idle, some_got, thrown}
use Rattle.ring_link.proofs.Repeating.{both, repeats_thrown}
use Rattle.ring_link.proofs.ring_peer.RingPeer.throw_away.Goals as goal

pub returns-then-is_ended-clause-step : goal.returns-then-is_ended-clause-step
returns-then-is_ended-clause-step c =
    let seen : has_ended c.args.self.now.reader.ending ≡ true = ap (λ (s : RingPeerState). has_ended s.reader.ending) (sym c.self.view_is) ∙ sym c.is_ended.ensures ∙ c.if-is_ended.true in
    (idle c.args.self.now (λ _. seen), λ k. c.requires k && seen k, refl)

pub invariant_of-self : goal.invariant_of-self
invariant_of-self c =
    let s = c.self.inside in
    let i = c.self.invariant in
    let over : has_ended s.writer.ending ≡ true = ap (λ (s : RingPeerState). has_ended s.writer.ending) c.self.view_is ∙ c.requires in
    let live : has_ended s.reader.ending ≡ false = sym c.is_ended.ensures ∙ c.if-is_ended.false in (
      i.0,
      λ e. absurd (both s.ended (i.0 ∙ over) e),
      λ e. absurd (both (has_ended s.reader.ending) (i.2 e) live),
      λ e. repeats_thrown s.inner s.reader c.fetch.new.self s.writer (take c.in-Some.field-0 c.fetch.new.room) (i.3 e) over live c.in-Some.ensures.bytes,
    )

pub returns-in-Some-clause-step : goal.returns-in-Some-clause-step
returns-in-Some-clause-step c =
    let p = c.args.self.now in
    let v = c.self.view_is in
    let q : RingPeerState = record { reader = c.fetch.new.self; writer = c.self.inside.writer; inner = c.self.inside.inner; starved = c.self.inside.starved } in
    let got = take c.in-Some.field-0 c.fetch.new.room in
    let live : has_ended p.reader.ending ≡ false = ap (λ (s : RingPeerState). has_ended s.reader.ending) (sym v) ∙ sym c.is_ended.ensures ∙ c.if-is_ended.false in
    let rings : SameRings p q = (c.fetch.ensures.ring ∙ ap (λ (s : RingPeerState). s.reader.ring) v, ap (λ (s : RingPeerState). s.writer.ring) v, (ap (λ (s : RingPeerState). s.inner.inn.peer.serve) v, ap (λ (s : RingPeerState). s.inner.inn.peer.end) v)) in
    thrown p q got c.moved.result rings live (ap (λ (s : RingPeerState). s.writer) v) (c.in-Some.ensures.bytes ∙ ap (λ (s : RingPeerState). s.reader.bytes ++ got) v)
    (some_got c.in-Some.field-0 c.fetch.new.room _ c.in-Some.ensures.within c.in-Some.ensures.some)
    (subst (λ (s : RingPeerState). s.writer.ending ≡ ending.Closed → has_ended s.reader.ending ≡ true) v c.self.invariant.2) (ap (λ (s : RingPeerState). s.starved) v) c.moved.ensures
