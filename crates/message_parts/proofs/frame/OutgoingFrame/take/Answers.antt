use Rattle.std.proofs.Common.{◌≤◌, ℕ, List, ◌∷◌, [], length, arith, ap, sym, subst, length-take}
use Rattle.io_buf.specs.Buffer.{Buffer}
use Rattle.seat_programs.specs.BufferParts.{room_of_part}
use Rattle.message_parts.specs.FramesByParts.{OutgoingData, LiesBehindIn}
use Rattle.message_parts.proofs.FrameParts.{lies_dropped}
use Rattle.message_parts.proofs.frame.OutgoingFrame.take.Goals as goal

pub invariant_of-self : goal.invariant_of-self
invariant_of-self c =
    let s = c.self.inside in
    let old = c.deref_mut.result.now in
    let is = c.deref_mut.ensures.value in
    let parts : List ℕ = s.head ∷ s.payload ∷ s.attachment ∷ [] in
    let lies : LiesBehindIn parts s.taken old = subst (LiesBehindIn parts s.taken) (sym is) c.self.invariant in
    let now : OutgoingData = c.args.self.now in
    let same = ap (λ (o : OutgoingData). length o.left) c.self.view_is in
    let fits : c.args.count ≤ length s.buf.value.items = omega (arith, c.requires, same, length-take (room_of_part now.parts now.taken) now.left) in
    lies_dropped parts s.taken c.args.count old c.pop_front.new.self lies (omega (arith, fits, ap (λ (b : Buffer). length b.items) is)) c.pop_front.ensures.items c.pop_front.ensures.sizes
