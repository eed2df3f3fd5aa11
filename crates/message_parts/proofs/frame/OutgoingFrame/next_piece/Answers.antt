use Rattle.std.proofs.Common.{◌≡◌, ◌<◌, ℕ, List, ◌∷◌, [], length, get_or, arith, ap, sym, subst, ◌∙◌, length-take}
use Rattle.io_buf.specs.Buffer.{Buffer}
use Rattle.seat_programs.specs.BufferParts.{part}
use Rattle.message_parts.specs.FramesByParts.{OutgoingData, LiesBehindIn}
use Rattle.message_parts.proofs.FrameParts.{first_is_part}
use Rattle.message_parts.proofs.frame.OutgoingFrame.next_piece.Goals as goal

pub returns : goal.returns
returns c =
    let s = c.self.inside in
    let buf = c.deref.result.now in
    let same = c.deref.ensures in
    let parts : List ℕ = s.head ∷ s.payload ∷ s.attachment ∷ [] in
    let lies : LiesBehindIn parts s.taken buf = subst (LiesBehindIn parts s.taken) (sym same) c.self.invariant in
    let known = c.first_piece.ensures in
    let P : OutgoingData → Type 0 = λ o. c.first_piece.result.now ≡ part o.parts o.left o.taken in
    let some : 0 < length buf.items = omega (arith, known.some, ap length known.front, length-take (get_or buf.sizes 0 0) buf.items) in
    subst P c.self.view_is (known.front ∙ first_is_part parts s.taken buf lies some ∙ ap (λ (b : Buffer). part parts b.items s.taken) same)
