use Rattle.std.proofs.Common.{◌<◌, ◌≤◌, ◌^◌, length, arith, ap, sym, subst}
use Rattle.io_buf.specs.Buffer.{Buffer}
use Rattle.sock_message.specs.InsideMessages.{LiesBehind}
use Rattle.sock_message.specs.BodiesOfMessages.{LiesWhole, IsLeftOf}
use Rattle.sock_message.proofs.Blocks.{LiesBehind-whole}
use Rattle.sock_message.proofs.outgoing.Outgoing.whole.Goals.{in-Blocks, in_default}
use Rattle.sock_message.proofs.outgoing.Outgoing.whole.Goals as goal

pub invariant_of-result : goal.invariant_of-result
invariant_of-result c =
    elim c.match-body.branch [
      | in-Blocks w ↦
          let buf = w.in-Blocks.buf.value in
          let same = ap (λ (b : Buffer). length b.items) w.deref.ensures in
          let counted : length buf.items < 2 ^ 64 = omega (arith, w.len.type_inv, w.len.ensures, same) in
          let lies : LiesBehind 0 buf = LiesBehind-whole buf (subst LiesWhole w.in-Blocks.is c.requires) counted in
          subst (IsLeftOf 0) (sym w.in-Blocks.is) lies
      | in_default w ↦
          let few : length w.in_default.field-0 ≤ 40 = subst LiesWhole w.in_default.is c.requires in
          subst (IsLeftOf 0) (sym w.in_default.is) (few, omega arith)
    ]
