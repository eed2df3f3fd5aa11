use Rattle.std.proofs.Common.{◌<◌, Bool, false, length, take, drop, ap, sym, ◌∙◌, arith, rules}
use Rattle.sock_io.specs.LinksInMemory.{MemInState}
use Rattle.loop_link.specs.ServingFedBytes.{LoopPeerState, ending_for}
use Rattle.loop_link.proofs.LinkOffersStay.{answers_idle, answers_over, answers_served}
use Rattle.loop_link.proofs.loop_peer.LoopPeer.answer.Goals as goal

pub returns-then-not-serves-clause-ok : goal.returns-then-not-serves-clause-ok
returns-then-not-serves-clause-ok c = answers_idle c.args.self.now c.pass.new.self c.args.took.now c.args.inn.now (search rules) c.pass.ensures

pub returns-then-is_over-clause-ok : goal.returns-then-is_over-clause-ok
returns-then-is_over-clause-ok c = answers_over _ _ _ (c.is_over.ensures.over c.if-is_over.true)

pub returns-clause-ok : goal.returns-clause-ok
returns-clause-ok c =
    answers_served
    c.args.self.now
    c.keep.new.self
    c.args.took.now
    c.split_at.result.0.now
    c.split_at.result.1.now
    c.in_ok-server.server
    c.in_ok-fed.fed.server
    c.in_ok-fed.fed.replies.items
    (take c.given_len-count.result c.deref-2.result.now)
    c.args.inn.now
    c.give.new.self
    c.end_where.new.inn
    c.end-end.result
    c.replies-given.result
    c.replies-made.result
    c.in_ok-fed.fed.faulty
    (search rules)
    (c.is_over.ensures.live c.if-is_over.false)
    (c.split_at.ensures.front ∙ ap (λ n. take n c.args.took.now) c.fed_len.ensures)
    (c.split_at.ensures.back ∙ ap (λ n. drop n c.args.took.now) c.fed_len.ensures)
    c.in_ok-server.ensures.fed
    c.in_ok-fed.ensures.fed
    c.in_ok-fed.ensures.replies
    c.in_ok-fed.ensures.faulty
    c.end-end.ensures
    c.replies-given.ensures
    c.replies-made.ensures
    (λ frames are.
    let small : length c.deref.result.now < 4294967296 = omega (arith, c.in_ok-bytes.ensures.small, ap length c.deref.ensures.value) in
    ap (take c.given_len-count.result) (c.deref-2.ensures.value ∙ sym c.deref.ensures.value) ∙ c.given_len-count.ensures.given frames small (c.deref.ensures.value ∙ c.in_ok-bytes.ensures.bytes ∙ are))
    c.in_ok-give.ensures.ok
    (c.end_where.ensures ∙ ap (λ (b : Bool). let i : MemInState = record c.give.new.self { ending = ending_for b false } in i) c.gives_end.ensures)
    (c.keep.ensures ∙ ap (λ (p : LoopPeerState). let q : LoopPeerState = record p { fed = c.in_ok-fed.fed.server } in q) c.begun.ensures.same)
