-- What a seat has before it sends a message, and what becomes of the message.
use Rattle.std.specs.Prelude.{◌≡◌, ◌⊎◌, ℕ, ◌+◌, ◌<◌, true, false, List, [], ◌∷◌, ◌++◌, length}
use mathlib.Core.Option.{some}
use lib.ListN.{get_elem?}
use Rattle.sock_io.specs.declared.link.Out.{Ghosts}
use Rattle.atomic_table.specs.Table.{Me}
use Rattle.sock_words.specs.declared.plain.Plan.{Plan}
use Rattle.sock_words.specs.PackedWords.{socket_id_version, socket_id_slot, vref_version}
use Rattle.sock_model.specs.declared.chain.Entry.{Entry}
use Rattle.sock_model.specs.declared.chain.Heading.{Heading}
use Rattle.sock_model.specs.declared.chain.Right.{Right}
use Rattle.sock_model.specs.declared.chain.Stage.TheVariants.{Writes}
use Rattle.sock_model.specs.declared.marks.Mark.{Mark}
use Rattle.sock_model.specs.declared.marks.Mark.TheVariants.{Saw, Met}
use Rattle.sock_model.specs.declared.view.View.{View}
use Rattle.sock_model.specs.SocketTableLayout.{request_index}
use Rattle.sock_model.specs.ChainRows.{more}
use Rattle.sock_model.specs.Rule.{MOST_ACCEPTED, noting}
use Rattle.sock_rule.specs.MarksComeAndGo.{Became}
use Rattle.sock_rule.specs.ChainPlays.{IsTicket}
use Rattle.sock_table.specs.NamesStoredAndFound.{HasSeen}
use Rattle.sock_table.specs.ReferenceCalls.{IsBetween}
use Rattle.write_chain.specs.declared.entry.Started.{Started}
use Rattle.write_chain.specs.declared.entry.Started.TheVariants as started
use Rattle.write_chain.specs.declared.entry.Refused.{Refused}
use Rattle.write_chain.specs.declared.entry.Refused.TheVariants as refused
use Rattle.write_chain.specs.declared.right.Doing.TheVariants.{First}
use Rattle.sock_table.specs.declared.refs.SockRef.{SockRef}
use Rattle.sock_rule.specs.declared.homes.Letter.{Letter}

-- its own list of accepted messages stands first, and has room
pub record HasRoom (v : View) : Type 0 where
  pub made : List Entry
  pub taken_in : List (List Entry)
  pub lists : v.lists ≡ made ∷ taken_in
  pub room : length made < MOST_ACCEPTED

-- between two calls: no claim, no entry that isn't connected, no right
pub record MaySend (p : Plan) (v : View) : Type 0 where
  pub between : IsBetween p v
  pub claims : v.claims ≡ []
  pub loose : v.loose ≡ []
  pub room : HasRoom v

-- the message stands at the end of the seat's own list, for the link of the life of this id; all else that the seat has is as it was, but for notes
pub record Accepted (notes : List Mark) (p : Plan) (id : ℕ) (heading : Heading) (bytes : List ℕ) (v w : View) : Type 0 where
  pub entry : Entry
  pub heading_is : entry.heading ≡ heading
  pub bytes_is : entry.bytes ≡ bytes
  pub lists : w.lists ≡ more v.lists entry
  pub marks : Became (socket_id_slot id) v (record v { marks = w.marks }) (Met (socket_id_version id) entry.link ∷ notes) []
  pub inside : entry.link < p.links
  pub claims : w.claims ≡ []
  pub loose : w.loose ≡ []
  pub hands : w.hands ≡ v.hands
  pub share : w.share ≡ v.share
  pub passes : w.passes ≡ v.passes
  -- what was seen is seen still, and nothing was stored or found at names and operations
  pub seen : (x : ℕ) → HasSeen x v → HasSeen x w
  pub finds : w.finds ≡ v.finds
  pub histories : w.histories ≡ v.histories
  pub drops : w.drops ≡ v.drops
  pub stores : w.stores ≡ v.stores

-- the seat's one right is x, of this link up to this ticket, and nothing was done with it
pub record IsFirst (x : Right) (k last : ℕ) : Type 0 where
  pub link_is : x.link ≡ k
  pub last_is : x.last ≡ last
  pub stage : x.stage ≡ Writes last
  pub clean : x.clean ≡ false
  pub link_home : x.at_home ≡ true
  pub idle : x.taken ≡ false

-- these notes came beside that of the link
abbrev pub StartedWith : {O : Type 0} {g : Ghosts O} → List Mark → Plan → SockRef → Heading → List ℕ → Started O g → View → View → Type 0
StartedWith notes p sock heading bytes (started.Queued s) v w = (s ≡ sock) × Accepted notes p sock.id.0 heading bytes v w × (w.rights ≡ [])
StartedWith notes p sock heading bytes (started.Right r) v w = (r.sock ≡ sock) × (r.doing ≡ First) × (a : Accepted notes p sock.id.0 heading bytes v w) × (x : Right) × (w.rights ≡ x ∷ []) × IsFirst x a.entry.link r.last.0 × IsTicket p r.last.0

abbrev pub StartedBy : {O : Type 0} {g : Ghosts O} → Plan → SockRef → Heading → List ℕ → Started O g → View → View → Type 0
StartedBy p sock heading bytes s v w = StartedWith (Saw (socket_id_version sock.id.0) ∷ []) p sock heading bytes s v w

-- the request q is among those that were found taken
abbrev pub FoundTaken : Plan → ℕ → List ℕ → Type 0
FoundTaken p q found = (n : ℕ) × (get_elem? found n ≡ some (request_index p q))

-- what the seat found for good since v are these places, among which is each request below `at`
pub record FullNow (p : Plan) (at : ℕ) (v w : View) : Type 0 where
  pub added : List ℕ
  pub found : w.found ≡ added ++ v.found
  pub each : (q : ℕ) → q < at → FoundTaken p q added

-- the order is as it was, and all comes back: this call's look found the life failed, or it found each request taken
abbrev pub RefusedBy : Plan → SockRef → Letter → Refused → View → View → Type 0
RefusedBy p sock msg (refused.Failed s m found) v w = (s ≡ sock) × (m ≡ msg) × (vref_version found.0 ≡ socket_id_version sock.id.0 + 1) × Became (socket_id_slot sock.id.0) v w (Saw (vref_version found.0) ∷ []) []
RefusedBy p sock msg (refused.Full s m) v w = (s ≡ sock) × (m ≡ msg) × FullNow p p.requests v w × (w.lists ≡ v.lists) × (w.rights ≡ v.rights) × (w.claims ≡ []) × (w.loose ≡ []) × Became (socket_id_slot sock.id.0) v (record v { marks = w.marks }) (Saw (socket_id_version sock.id.0) ∷ []) [] × (w ≡ record v { marks = w.marks; found = w.found }) × ((x : ℕ) → HasSeen x v → HasSeen x w)

-- one request was found taken, or none was asked for
abbrev pub Missed : {S : Type 0} → Plan → Me S View → Me S View → Type 0
Missed p m n = (n ≡ m) ⊎ ((q : ℕ) × (n ≡ (noting (request_index p q) m.0, m.1)))
