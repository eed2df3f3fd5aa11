use Rattle.std.proofs.Common.{◌≡◌, ◌<◌, ℕ, List, length, get_or, arith, ap, sym, subst, ◌∙◌, length-take}
use Rattle.io_buf.specs.Buffer.{Buffer}
use Rattle.sock_message.specs.MessagePieces.{OnItsWay, piece}
use Rattle.sock_message.specs.InsideMessages.{LiesBehind}
use Rattle.sock_message.specs.BodiesOfMessages.{left_of, IsLeftOf}
use Rattle.sock_message.proofs.Blocks.{first_is_piece}
use Rattle.sock_message.proofs.outgoing.Outgoing.next_piece.Goals as goal

pub returns-else-is_empty : goal.returns-else-is_empty
returns-else-is_empty c =
    let taken = c.self.inside.taken in
    let buf = c.deref-in-Blocks.result.now in
    let same = c.deref-in-Blocks.ensures in
    let known = c.first_piece.ensures in
    let lies : LiesBehind taken buf = subst (LiesBehind taken) (sym same) (subst (IsLeftOf taken) c.in-Blocks.is c.self.invariant) in
    let some : 0 < length buf.items = omega (arith, known.some, ap length known.front, length-take (get_or buf.sizes 0 0) buf.items) in
    let items = ap (λ (b : Buffer). b.items) same ∙ sym (ap (left_of taken) c.in-Blocks.is) in
    let P : OnItsWay → Type 0 = λ o. c.first_piece.result.now ≡ piece o.left o.taken in
    subst P c.self.view_is (known.front ∙ first_is_piece taken buf lies some ∙ ap (λ (l : List ℕ). piece l taken) items)
