use Rattle.std.proofs.Common.{◌≡◌, ℕ, length, subst, arith}
use Rattle.rpc_meta.specs.Straight.{SpanNext, NumberOrNone}
use Rattle.rpc_meta.proofs.NextFields.{straight_is}
use Rattle.rpc_meta.proofs.straight.gather_straight.Goals as goal

pub returns : goal.returns
returns c =
    let bytes = c.args.bytes.now in
    let r = c.in_ok-from in
    let s = c.in_ok-service_from in
    let m = c.in_ok-method_from in
    let k = c.in_ok-compress_type in
    let i = c.in_ok-correlation_id in
    let a = c.in_ok-attachment_size in
    let filled : m.method_to ≡ r.to = omega (arith, c.if-method_to-to.false) in
    let all : a.at ≡ length bytes = omega (arith, c.if-at-bytes.false) in
    let P : ℕ → Type 0 = λ n. SpanNext bytes 2 s.service_to m.method_from n in
    let Q : ℕ → Type 0 = λ n. NumberOrNone bytes 5 i.at a.attachment_size n in
    rw filled (straight_is bytes r.from r.to s.service_from s.service_to m.method_from k.compress_type k.at i.correlation_id i.at a.attachment_size r.ensures.spelled s.ensures.spelled (subst P filled m.ensures.spelled) k.ensures.spelled i.ensures.spelled (subst Q all a.ensures.spelled))
