use Rattle.std.proofs.Common.{◌-◌, ◌+◌, ◌≤◌, length, arith, ap}
use Rattle.io_buf.specs.Buffer.{Buffer}
use Rattle.io_buf.proofs.BufferFronts.{LosesFront-start, LosesFront-step}
use Rattle.io_buf.proofs.buf.IoBuf.pop_front.Goals as goal

pub loop-self-init : goal.loop-self-init
loop-self-init c = LosesFront-start (c.self.inside.len - c.args.n) c.args.self.now (omega (arith, c.self.invariant.len, ap (λ (b : Buffer). length b.items) c.self.view_is))

pub loop-self-preserved : goal.loop-self-preserved
loop-self-preserved c =
    let known = c.advance_first-in-loop-self.ensures in
    let keep = c.self.inside.len - c.args.n in
    let n = c.advance_first.inside.len - keep in
    let fits : keep + n ≤ length c.loop-self.self.items = omega (arith, ap (λ (b : Buffer). length b.items) c.advance_first.view_is, c.advance_first.invariant.len, c.loop-self.invariant.keeps, c.self-in-loop-self.invariant.len, ap (λ (b : Buffer). length b.items) c.self-in-loop-self.view_is) in
    LosesFront-step keep n c.args.self.now c.loop-self.self c.advance_first-in-loop-self.new.self c.loop-self.invariant fits known.shorter known.items known.sizes
