use Rattle.std.proofs.Common.{arith, ap, length, ◌∷◌, []}
use Rattle.io_buf.specs.Buffer.{Buffer}
use Rattle.message_parts.proofs.FrameParts.{lies_whole}
use Rattle.message_parts.proofs.frame.CallFrame.begin.Goals as goal

pub invariant_of-result : goal.invariant_of-result
invariant_of-result c = lies_whole (c.self.inside.head ∷ c.self.inside.payload ∷ c.self.inside.attachment ∷ []) c.self.inside.buf.value c.self.invariant (omega (arith, c.len.ensures, c.len.type_inv, ap (λ (b : Buffer). length b.items) c.deref.ensures))
