use Rattle.std.proofs.Common.{◌≡◌, ◌+◌, ◌-◌, ◌%◌, ◌≤◌, length, arith, ap, sym, subst, ◌∙◌, length-take, length-drop}
use Rattle.io_buf.specs.Buffer.{Buffer}
use Rattle.sock_message.specs.InsideMessages.{LiesBehind}
use Rattle.sock_message.specs.MessagePieces.{OnItsWay}
use Rattle.sock_message.specs.BodiesOfMessages.{left_of, IsLeftOf}
use Rattle.sock_message.specs.declared.message.Body.{Body}
use Rattle.sock_message.specs.declared.outgoing.Outgoing.TheInside.{Inside}
use Rattle.sock_message.proofs.Blocks.{LiesBehind-drop}
use Rattle.sock_message.proofs.outgoing.Outgoing.take.Goals.{in-Blocks, in_default}
use Rattle.sock_message.proofs.outgoing.Outgoing.take.Goals as goal

pub invariant_of-self : goal.invariant_of-self
invariant_of-self c =
    let taken = c.self.inside.taken in
    let count = c.args.count in
    let same = ap (λ (o : OnItsWay). length o.left) c.self.view_is in
    let bound = length-take (8192 - c.args.self.now.taken % 8192) c.args.self.now.left in
    let fits : count ≤ length (left_of taken c.self.inside.body) = omega (arith, c.requires, same, bound) in
    let P : Inside → Type 0 = λ i. IsLeftOf (i.taken + count) i.body in
    elim c.match-self.branch [
      | in-Blocks w ↦
          let old = w.deref_mut.result.now in
          let is = w.deref_mut.ensures.value in
          let lies : LiesBehind taken old = subst (LiesBehind taken) (sym is) (subst (IsLeftOf taken) w.in-Blocks.is c.self.invariant) in
          let here : length (left_of taken c.self.inside.body) ≡ length old.items = ap (λ (b : Body). length (left_of taken b)) w.in-Blocks.is ∙ ap (λ (b : Buffer). length b.items) (sym is) in
          let goes = LiesBehind-drop taken count old w.pop_front.new.self lies (omega (arith, fits, here)) w.pop_front.ensures.items w.pop_front.ensures.sizes in
          subst P (sym w.self-inside-is) goes
      | in_default w ↦
          let few = w.in_default.field-0 in
          let was : (length few ≤ 40) × (taken ≤ length few) = subst (IsLeftOf taken) w.in_default.is c.self.invariant in
          let here : length (left_of taken c.self.inside.body) ≡ length few - taken = ap (λ (b : Body). length (left_of taken b)) w.in_default.is ∙ length-drop taken few in
          let goes : IsLeftOf (taken + count) c.self.inside.body = subst (IsLeftOf (taken + count)) (sym w.in_default.is) (was.0, omega (arith, was.1, fits, here)) in
          subst P (sym w.self-inside-is) goes
    ]
