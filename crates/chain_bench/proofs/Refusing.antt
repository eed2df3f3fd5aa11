-- A message that was refused comes back, and the seat is as it was but for notes.
use Rattle.std.proofs.Common.{◌≡◌, ◌∙◌, subst}
use Rattle.atomic_table.specs.Seated.{TableId}
use Rattle.atomic_table.specs.declared.shared.Seat.{Seat}
use Rattle.sock_words.specs.declared.plain.Plan.{Plan}
use Rattle.sock_model.specs.declared.view.View.{View}
use Rattle.sock_rule.specs.SocketSeatSplits.{IsSeat}
use Rattle.sock_rule.specs.declared.homes.Letter.{Letter}
use Rattle.sock_table.specs.declared.refs.SockRef.{SockRef}
use Rattle.write_chain.specs.SendingIntoChain.{RefusedBy}
use Rattle.write_chain.specs.ReadyToSend.{refused_of}
use Rattle.write_chain.specs.declared.entry.Refused.{Refused}
use Rattle.write_chain.specs.declared.entry.Refused.TheVariants as refused
use Rattle.write_chain.proofs.SeatBetweenMessages.{refused_ups, refused_ones}
use Rattle.chain_bench.specs.SenderWithOneReference.{IsHolding}

-- the reference is held still
pub refused_holding : {S : Type 0} (z : TableId) (p : Plan) (sock : SockRef) (msg : Letter) (r : Refused) (s t : Seat S View) → IsHolding z p sock.id.0 s → IsSeat z p t → t.me.1 ≡ s.me.1 → RefusedBy p sock msg r s.me.0 t.me.0 → IsHolding z p (refused_of r).id.0 t
refused_holding z p sock msg r s t h is slots b = record {
  seat = is;
  up = refused_ups p sock msg r s.me.0 t.me b h.up.between h.up.holds (slots ∙ h.up.slots);
  one = refused_ones p sock msg r s.me.0 t.me b h.one;
}

-- the message is the one that was handed in
pub refused_full : (p : Plan) (sock : SockRef) (msg : Letter) (r : Refused) (s : SockRef) (m : Letter) (v w : View) → r ≡ refused.Full s m → RefusedBy p sock msg r v w → m ≡ msg
refused_full p sock msg r s m v w is b = (subst (λ (x : Refused). RefusedBy p sock msg x v w) is b).1
