use Rattle.std.proofs.Common.{◌≡◌, true, false, not, ap, ◌∙◌, subst}
use Rattle.sock_io.specs.declared.ending.Ending.TheVariants as ending
use Rattle.ring_link.specs.InsideRingLink.{met_after}
use Rattle.ring_link.specs.RingHalves.{RingOutState, RingInState, RingPeerState, Repeats}
use Rattle.ring_link.proofs.RingEndFindings.{met_step}
use Rattle.ring_link.proofs.ring_peer.RingPeer.meet.Goals as goal

pub returns-clause-inn : goal.returns-clause-inn
returns-clause-inn c =
    let p = c.args.self.now in let out = c.args.out.now in let inn = c.args.inn.now in
    let v = c.self.view_is in let u = c.inn.view_is in
    let rp = c.meet.new.self in let wo = c.meet.new.writer in let ri = c.meet-2.new.self in let wp = c.meet-2.new.writer in
    let e1 : rp ≡ record p.reader { seen = rp.seen } = c.meet.ensures.reader ∙ ap (λ (s : RingPeerState). record s.reader { seen = rp.seen }) v in
    let e2 : wo ≡ record out.writer { places = wo.places } = c.meet.ensures.writer ∙ ap (λ (s : RingOutState). record s.writer { places = wo.places }) c.out.view_is in
    let e3 : ri ≡ record inn.reader { seen = ri.seen } = c.meet-2.ensures.reader ∙ ap (λ (s : RingInState). record s.reader { seen = ri.seen }) u in
    let e4 : wp ≡ record p.writer { places = wp.places } = c.meet-2.ensures.writer ∙ ap (λ (s : RingPeerState). record s.writer { places = wp.places }) v in
    met_step out p inn rp wo ri wp e1 e2 e3 e4 c.meet.ensures.taken c.meet-2.ensures.taken
    (subst (λ (s : RingPeerState). s.starved ≡ false → Repeats s.inner s.reader s.writer) v c.self.invariant.3)
    (subst (λ (s : RingInState). s.gave_end ≡ true → s.reader.ending ≡ ending.Ended) u c.inn.invariant.0)
    (subst (λ (s : RingInState). s.closed ≡ true → s.reader.ending ≡ ending.Closed) u c.inn.invariant.1)
    c.learn.new.self
    (c.learn.ensures ∙ (λ k. record (u k) { reader = ri; met = met_after (not (v k).starved) (e3 k).ending (u k).met (v k).inner.inn }))
