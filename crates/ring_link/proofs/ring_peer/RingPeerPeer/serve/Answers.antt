use Rattle.std.proofs.Common.{rules, ◌≡◌, ◌++◌, true, ap, sym, ◌∙◌}
use Rattle.sock_io.specs.declared.ending.Ending.TheVariants as ending
use Rattle.sock_io.specs.declared.link.Take.TheVariants as take_
use Rattle.sock_io.specs.LinkHalves.{given_of}
use Rattle.sock_io.specs.Peer.{has_ended}
use Rattle.ring_link.specs.RingHalves.{RingPeerState, SameRings}
use Rattle.ring_link.proofs.Peers.{given}
use Rattle.ring_link.proofs.ring_peer.RingPeerPeer.serve.Goals as goal

pub returns-in_default-clause-step : goal.returns-in_default-clause-step
returns-in_default-clause-step c =
    let p = c.args.self.now in
    let g = c.give in
    let o : p.writer.ending ≡ ending.Open = search rules in
    let reader : g.new.self.reader ≡ p.reader = g.ensures.reader ∙ ap (λ (s : RingPeerState). s.reader) c.self.view_is in
    let rings : SameRings p g.new.self = search rules in
    let more : g.new.self.writer.bytes ≡ p.writer.bytes ++ given_of g.new.room g.result = search rules in
    let closed : g.result ≡ take_.Closed → has_ended p.reader.ending ≡ true = λ e. ap (λ (s : RingPeerState). has_ended s.reader.ending) (sym c.self.view_is) ∙ g.ensures.closed e in
    let calm : g.new.self.starved ≡ p.starved = g.ensures.starved ∙ ap (λ (s : RingPeerState). s.starved) c.self.view_is in
    given p g.new.self g.new.room g.result c.moved.result rings o reader g.ensures.count more g.ensures.ending closed g.ensures.never c.in_default.not-Empty calm c.moved.ensures
