use Rattle.std.proofs.Common.{◌≡◌, length, arith, ap, sym, refl, subst}
use Rattle.std.proofs.lemmas.List.{take_all}
use Rattle.io_buf.specs.Buffer.{Buffer, front_sizes}
use Rattle.io_buf.proofs.ReferenceSizesAtEnds.{front_sizes-whole}
use Rattle.io_buf.proofs.PieceLoopSteps.{take_again, front_sizes_again}
use Rattle.io_buf.proofs.buf.IoBuf.pop_back.Goals as goal

pub loop-self-init : goal.loop-self-init
loop-self-init c =
    let old = c.args.self.now in
    let P : Buffer → Type 0 = λ b. b.sizes ≡ front_sizes (length b.items) b.sizes in
    record {
      keeps = omega (arith, c.self.invariant.len, ap (λ (b : Buffer). length b.items) c.self.view_is);
      less = omega arith;
      items = sym (take_all (length old.items) old.items (omega arith));
      sizes = subst P c.self.view_is (sym (front_sizes-whole c.self.inside.pieces.items c.self.invariant.pieces));
      spare = refl;
    }

pub loop-self-preserved : goal.loop-self-preserved
loop-self-preserved c =
    let old = c.args.self.now in
    let before = c.loop-self.self in
    let after = c.retreat_last-in-loop-self.new.self in
    let shorter = c.retreat_last-in-loop-self.ensures.shorter in
    let known = c.loop-self.invariant in
    let tested = ap (λ (b : Buffer). length b.items) c.self-in-loop-self.view_is in
    let passed = ap (λ (b : Buffer). length b.items) c.retreat_last.view_is in
    record {
      keeps = omega (arith, c.self-in-loop-self.invariant.len, c.retreat_last.invariant.len);
      less = omega arith;
      items = take_again old.items before.items after.items (omega arith) known.items c.retreat_last-in-loop-self.ensures.items;
      sizes = front_sizes_again old.sizes before.sizes after.sizes (length before.items) (length after.items) (omega arith) known.sizes c.retreat_last-in-loop-self.ensures.sizes;
      spare = omega arith;
    }
