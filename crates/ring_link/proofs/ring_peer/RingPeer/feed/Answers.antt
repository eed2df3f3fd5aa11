use Rattle.std.proofs.Common.{rules, ◌≡◌, ◌++◌, false, true, take, refl, ap, sym, ◌∙◌}
use Rattle.sock_io.specs.Peer.{has_ended}
use Rattle.ring_link.specs.RingHalves.{RingPeerState, SameRings}
use Rattle.sock_io.specs.declared.ending.Ending.TheVariants as ending
use Rattle.ring_link.proofs.Peers.{fed, starved, some_got}
use Rattle.ring_link.proofs.Repeating.{open_closed, repeats_fed}
use Rattle.ring_link.proofs.ring_peer.RingPeer.feed.Goals as goal

pub returns-in-Ok-clause-step : goal.returns-in-Ok-clause-step
returns-in-Ok-clause-step c =
    let p = c.args.self.now in
    let v = c.self.view_is in
    let live : has_ended p.reader.ending ≡ false = ap (λ (s : RingPeerState). has_ended s.reader.ending) (sym v) ∙ sym c.is_ended.ensures ∙ c.if-is_ended.false in
    let rings : SameRings p (record { reader = c.fetch.new.self; writer = c.self.inside.writer; inner = c.feed.new.self; starved = c.self.inside.starved }) = (c.fetch.ensures.ring ∙ ap (λ (s : RingPeerState). s.reader.ring) v, ap (λ (s : RingPeerState). s.writer.ring) v, (c.feed.ensures.asked.0 ∙ ap (λ (s : RingPeerState). s.inner.inn.peer.serve) v, c.feed.ensures.asked.1 ∙ ap (λ (s : RingPeerState). s.inner.inn.peer.end) v)) in
    let got = take c.in-Some.count c.fetch.new.room in
    fed p (record { reader = c.fetch.new.self; writer = c.self.inside.writer; inner = c.feed.new.self; starved = c.self.inside.starved }) got rings c.requires.1 live (ap (λ (s : RingPeerState). s.writer.bytes) v) (ap (λ (s : RingPeerState). s.writer.ending) v)
    (c.in-Some.ensures.bytes ∙ ap (λ (s : RingPeerState). s.reader.bytes ++ got) v) (some_got c.in-Some.count c.fetch.new.room _ c.in-Some.ensures.within c.in-Some.ensures.some) (ap (λ (s : RingPeerState). s.starved) v)

pub returns-in-Err-clause-step : goal.returns-in-Err-clause-step
returns-in-Err-clause-step c =
    let p = c.args.self.now in
    let v = c.self.view_is in
    let live : has_ended p.reader.ending ≡ false = ap (λ (s : RingPeerState). has_ended s.reader.ending) (sym v) ∙ sym c.is_ended.ensures ∙ c.if-is_ended.false in
    let rings : SameRings p (record { reader = c.fetch.new.self; writer = c.end.new.self; inner = c.feed.new.self; starved = true }) = (c.fetch.ensures.ring ∙ ap (λ (s : RingPeerState). s.reader.ring) v, c.end.ensures.0 ∙ ap (λ (s : RingPeerState). s.writer.ring) v, (c.feed.ensures.asked.0 ∙ ap (λ (s : RingPeerState). s.inner.inn.peer.serve) v, c.feed.ensures.asked.1 ∙ ap (λ (s : RingPeerState). s.inner.inn.peer.end) v)) in
    let got = take c.in-Some.count c.fetch.new.room in (
      starved p (record { reader = c.fetch.new.self; writer = c.end.new.self; inner = c.feed.new.self; starved = true }) got rings c.requires.1 live (c.end.ensures.1 ∙ ap (λ (s : RingPeerState). s.writer.bytes) v) c.end.ensures.2
          (c.in-Some.ensures.bytes ∙ ap (λ (s : RingPeerState). s.reader.bytes ++ got) v),
      refl,
      c.requires.1,
      c.end.ensures.2,
      refl,
    )

pub invariant_of-self-in-Ok : goal.invariant_of-self-in-Ok
invariant_of-self-in-Ok c =
    let s = c.self.inside in
    let i = c.self.invariant in
    let f = c.in-Ok.ensures in
    let got = take c.in-Some.count c.fetch.new.room in
    let o : s.writer.ending ≡ ending.Open = ap (λ (s : RingPeerState). s.writer.ending) c.self.view_is ∙ c.requires.1 in
    let took : c.feed.new.self.took ≡ s.inner.took ++ got = search rules in (
      i.0,
      λ _. f.took.1 ∙ c.is_ended-2.ensures,
      λ e. absurd (open_closed s.writer.ending o e),
      λ e. repeats_fed s.inner c.feed.new.self s.reader c.fetch.new.self s.writer s.writer got (i.3 e) o took f.gave f.served c.in-Some.ensures.bytes refl refl,
    )
