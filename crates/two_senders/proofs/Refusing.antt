-- A message that was refused comes back, and the seat is as it was but for notes; one that was accepted is one more.
use Rattle.std.proofs.Common.{◌≡◌, ℕ, ◌∙◌, ap, List, sym, subst}
use Rattle.atomic_table.specs.Seated.{TableId}
use Rattle.atomic_table.specs.declared.shared.Seat.{Seat}
use Rattle.sock_io.specs.declared.link.Out.{Ghosts}
use Rattle.sock_words.specs.declared.plain.Plan.{Plan}
use Rattle.sock_model.specs.declared.chain.Heading.{Heading}
use Rattle.sock_model.specs.declared.view.View.{View}
use Rattle.sock_rule.specs.SocketSeatSplits.{IsSeat}
use Rattle.sock_rule.specs.declared.homes.Letter.{Letter}
use Rattle.sock_table.specs.declared.refs.SockRef.{SockRef}
use Rattle.write_chain.specs.SendingIntoChain.{HasRoom, RefusedBy, StartedBy}
use Rattle.write_chain.specs.ReadyToSend.{refused_of}
use Rattle.write_chain.specs.declared.entry.Started.{Started}
use Rattle.write_chain.specs.declared.entry.Refused.{Refused}
use Rattle.write_chain.specs.declared.entry.Refused.TheVariants as refused
use Rattle.write_chain.proofs.SeatBetweenMessages.{refused_ups, refused_ones}
use Rattle.chain_orders.specs.SentMessages.{sent_of, SameLists, SentOneMore}
use Rattle.chain_orders.proofs.SenderCalls.{started_sent}
use Rattle.two_senders.specs.SentTexts.{IsHolding}

-- the same lists have the same room
pub same_room : (v w : View) → w.lists ≡ v.lists → HasRoom v → HasRoom w
same_room v w same r = record { made = r.made; taken_in = r.taken_in; lists = same ∙ r.lists; room = r.room }

-- the reference is held still
pub refused_holding : {S : Type 0} (z : TableId) (p : Plan) (sock : SockRef) (msg : Letter) (r : Refused) (s t : Seat S View) → IsHolding z p sock.id.0 s → IsSeat z p t → t.me.1 ≡ s.me.1 → RefusedBy p sock msg r s.me.0 t.me.0 → IsHolding z p (refused_of r).id.0 t
refused_holding z p sock msg r s t h is slots b = record {
  seat = is;
  up = refused_ups p sock msg r s.me.0 t.me b h.up.between h.up.holds (slots ∙ h.up.slots);
  one = refused_ones p sock msg r s.me.0 t.me b h.one;
}

-- the message is the one that was handed in
pub refused_full : (p : Plan) (sock : SockRef) (msg : Letter) (r : Refused) (s : SockRef) (m : Letter) (v w : View) → r ≡ refused.Full s m → RefusedBy p sock msg r v w → m ≡ msg
refused_full p sock msg r s m v w is b = (subst (λ (x : Refused). RefusedBy p sock msg x v w) is b).1

pub refused_lists : (p : Plan) (sock : SockRef) (msg : Letter) (r : Refused) (v w : View) → RefusedBy p sock msg r v w → w.lists ≡ v.lists
refused_lists p sock msg (refused.Failed s m found) v w b = ap (λ (y : View). y.lists) b.3.others
refused_lists p sock msg (refused.Full s m) v w b = b.3

pub refused_same : (p : Plan) (sock : SockRef) (msg : Letter) (r : Refused) (u v w : View) → v.lists ≡ u.lists → RefusedBy p sock msg r v w → SameLists u w
refused_same p sock msg r u v w same b = ap (Rattle.std.proofs.Common.map (Rattle.std.proofs.Common.map sent_of)) (refused_lists p sock msg r v w b ∙ same)

pub started_more : {O : Type 0} {g : Ghosts O} (p : Plan) (sock : SockRef) (heading : Heading) (bytes : List ℕ) (s : Started O g) (u v w : View) → v.lists ≡ u.lists → StartedBy p sock heading bytes s v w → SentOneMore p heading bytes u w
started_more p sock heading bytes s u v w same b messages others is = started_sent p sock heading bytes s v w b messages others (ap (Rattle.std.proofs.Common.map (Rattle.std.proofs.Common.map sent_of)) same ∙ is)
