-- What a seat sent through sockets: its list of the messages that it had accepted.
use Rattle.std.specs.Prelude.{◌≡◌, ℕ, ◌<◌, ◌==◌, List, [], ◌∷◌, ◌++◌, map, flat_map}
use Rattle.std.specs.List.{filter}
use Rattle.atomic_table.specs.declared.shared.Seat.{Seat}
use Rattle.sock_words.specs.declared.plain.Plan.{Plan}
use Rattle.sock_model.specs.declared.chain.Entry.{Entry}
use Rattle.sock_model.specs.declared.chain.Heading.{Heading}
use Rattle.sock_model.specs.declared.view.View.{View}

-- a message that was accepted: the link of the life that accepted it, what stands with it, and its bytes
pub record Sent : Type 0 where
  pub link : ℕ
  pub heading : Heading
  pub bytes : List ℕ

-- the place index of its label, at whose word the table keeps what became of it
abbrev pub index_of : Sent → ℕ
index_of m = m.heading.label.place

abbrev pub sent_of : Entry → Sent
sent_of e = record { link = e.link; heading = e.heading; bytes = e.bytes }

-- the lists of a seat: its own stands first, and behind it those of the seats that it took in, each by itself
abbrev pub lists_of : View → List (List Sent)
lists_of v = map (map sent_of) v.lists

-- the seat sent these messages, in this order, and took in none that may send
abbrev pub HasSent : View → List Sent → Type 0
HasSent v messages = lists_of v ≡ messages ∷ []

-- the lists of these seats, those of each in its place
abbrev pub sent_by : {S : Type 0} → List (Seat S View) → List (List Sent)
sent_by {S = S} seats = flat_map (λ (s : Seat S View). lists_of s.me.0) seats

-- the messages that the lives of link k accepted
abbrev pub on_link : ℕ → List Sent → List Sent
on_link k messages = filter (λ (m : Sent). m.link == k) messages

-- their bytes, one message after the other
abbrev pub bytes_of : List Sent → List ℕ
bytes_of messages = flat_map (λ (m : Sent). m.bytes) messages

-- the lists stay as they are
abbrev pub SameLists : View → View → Type 0
SameLists v w = lists_of w ≡ lists_of v

-- the own list has one message more, with this heading and these bytes, to a link of the table
abbrev pub SentOneMore : Plan → Heading → List ℕ → View → View → Type 0
SentOneMore p heading bytes v w = (messages : List Sent) (others : List (List Sent)) → lists_of v ≡ messages ∷ others → (k : ℕ) × (k < p.links) × (lists_of w ≡ (messages ++ record { link = k; heading = heading; bytes = bytes } ∷ []) ∷ others)
