-- A seat that sends: what is accepted of it, and the room that is left.
use Rattle.std.proofs.Common.{◌≡◌, ℕ, ◌+◌, ◌<◌, ◌≤◌, inl, inr, List, [], ◌∷◌, ◌++◌, length-append, sym, ap, ◌∙◌, subst, arith}
use Rattle.atomic_table.specs.Seated.{TableId}
use Rattle.atomic_table.specs.declared.shared.Seat.{Seat}
use Rattle.sock_io.specs.declared.link.Out.{Ghosts}
use Rattle.sock_io.specs.LinkHalves.{OutState}
use Rattle.sock_words.specs.declared.plain.Plan.{Plan}
use Rattle.sock_model.specs.declared.chain.Entry.{Entry}
use Rattle.sock_model.specs.declared.chain.Heading.{Heading}
use Rattle.sock_model.specs.declared.view.View.{View}
use Rattle.sock_model.specs.ChainRows.{more}
use Rattle.sock_model.specs.Rule.{MOST_ACCEPTED}
use Rattle.sock_table.specs.declared.refs.SockRef.{SockRef}
use Rattle.sock_table.specs.ClosedSocketTable.{AllDone, IsDoneSeat}
use Rattle.sock_rule.specs.declared.homes.Letter.{Letter}
use Rattle.sock_open.specs.NewTableContents.{IsNewSeat}
use Rattle.sock_open.proofs.SeatsOfNewTable.{new_view}
use Rattle.write_chain.specs.declared.right.Undelivered.{Undelivered}
use Rattle.write_chain.specs.NotingWhileWriting.{Wrote, WroteDrop}
use Rattle.write_chain.specs.SendingIntoChain.{HasRoom, StartedBy, RefusedBy}
use Rattle.write_chain.specs.declared.entry.Started.{Started}
use Rattle.write_chain.specs.declared.entry.Started.TheVariants as started
use Rattle.write_chain.specs.declared.entry.Refused.{Refused}
use Rattle.write_chain.specs.declared.entry.Refused.TheVariants as refused
use Rattle.chain_bench.specs.SenderWithOneReference.{HasRoomFor, OneMore}

-- the same lists have the same room
pub same_room : (v w : View) → w.lists ≡ v.lists → HasRoom v → HasRoom w
same_room v w same r = record { made = r.made; taken_in = r.taken_in; lists = same ∙ r.lists; room = r.room }

pub same_room_for : (n : ℕ) (v w : View) → w.lists ≡ v.lists → HasRoomFor n v → HasRoomFor n w
same_room_for n v w same r = record { made = r.made; taken_in = r.taken_in; lists = same ∙ r.lists; room = r.room }

-- room for some is room for one
pub room_for_one : (n : ℕ) (v : View) → 0 < n → HasRoomFor n v → HasRoom v
room_for_one n v some_ r = record { made = r.made; taken_in = r.taken_in; lists = r.lists; room = (let a = r.room in omega arith) }

pub fewer_room : (n m : ℕ) (v : View) → n ≤ m → HasRoomFor m v → HasRoomFor n v
fewer_room n m v le r = record { made = r.made; taken_in = r.taken_in; lists = r.lists; room = (let a = r.room in omega arith) }

-- a message takes the room of one
pub one_less : (n m : ℕ) (v w : View) → n + 1 ≤ m → OneMore v w → HasRoomFor m v → HasRoomFor n w
one_less n m v w le (inl same) r = same_room_for n v w same (fewer_room n m v (omega arith) r)
one_less n m v w le (inr (e, is)) r = record {
  made = r.made ++ e ∷ [];
  taken_in = r.taken_in;
  lists = is ∙ ap (λ (l : List (List Entry)). more l e) r.lists;
  room = (let a = r.room in omega (arith, length-append r.made (e ∷ [])));
}

pub new_room : {S : Type 0} (z : TableId) (p : Plan) (s : Seat S View) → IsNewSeat z p s → HasRoomFor MOST_ACCEPTED s.me.0
new_room z p s n = record { made = []; taken_in = []; lists = ap (λ (y : View). y.lists) (new_view z p s n); room = omega arith }

-- what is written leaves the lists
pub wrote_lists : {O : Type 0} {state : O → OutState} (id : ℕ) (v w : View) → Wrote state id v w → w.lists ≡ v.lists
wrote_lists id v w a = ap (λ (y : View). y.lists) a.became.others

pub dropped_lists : {O : Type 0} {state : O → OutState} (p : Plan) (id : ℕ) (msg : Undelivered) (v w : View) → WroteDrop state p id msg v w → w.lists ≡ v.lists
dropped_lists p id msg v w a = ap (λ (y : View). y.lists) a.wrote.became.others

-- a message that was accepted is one more
pub started_more : {O : Type 0} {g : Ghosts O} (p : Plan) (sock : SockRef) (heading : Heading) (bytes : List ℕ) (s : Started O g) (u v w : View) → v.lists ≡ u.lists → StartedBy p sock heading bytes s v w → OneMore u w
started_more p sock heading bytes (started.Queued r) u v w same b = inr (b.1.entry, b.1.lists ∙ ap (λ (l : List (List Entry)). more l b.1.entry) same)
started_more p sock heading bytes (started.Right r) u v w same b = inr (b.2.entry, b.2.lists ∙ ap (λ (l : List (List Entry)). more l b.2.entry) same)

-- one that was refused is none
pub refused_lists : (p : Plan) (sock : SockRef) (msg : Letter) (r : Refused) (v w : View) → RefusedBy p sock msg r v w → w.lists ≡ v.lists
refused_lists p sock msg (refused.Failed s m found) v w b = ap (λ (y : View). y.lists) b.3.others
refused_lists p sock msg (refused.Full s m) v w b = b.3

pub more_then : (u v w : View) → OneMore u v → w.lists ≡ v.lists → OneMore u w
more_then u v w (inl same) e = inl (e ∙ same)
more_then u v w (inr (x, is)) e = inr (x, e ∙ is)

-- all seats of the table
pub five_done : {S : Type 0} (z : TableId) (p : Plan) (a b c d e : Seat S View) (xs : List (Seat S View)) → xs ≡ a ∷ b ∷ c ∷ d ∷ e ∷ [] → IsDoneSeat z p a → IsDoneSeat z p b → IsDoneSeat z p c → IsDoneSeat z p d → IsDoneSeat z p e → AllDone z p xs
five_done z p a b c d e xs is da db dc dd de = subst (AllDone z p) (sym is) (da, (db, (dc, (dd, (de, tt)))))
