-- What becomes of an `open`.
use Rattle.std.specs.Prelude.{◌≡◌, ℕ, ◌+◌, ◌<◌, Some, None}
use Rattle.atomic_table.specs.Table.{Me}
use Rattle.sock_words.specs.declared.plain.Plan.{Plan}
use Rattle.sock_words.specs.declared.outcome.Outcome.{Outcome}
use Rattle.sock_words.specs.declared.outcome.Outcome.TheVariants.{Opened, SlotsFull}
use Rattle.sock_words.specs.declared.socket_id.SocketId.{SocketId}
use Rattle.sock_words.specs.PackedWords.{socket_id_version, socket_id_slot}
use Rattle.sock_model.specs.declared.view.View.{View}
use Rattle.sock_model.specs.SocketTableLayout.{name_index}
use Rattle.sock_rule.specs.NotesBesideRows.{PutAt}
use Rattle.sock_table.specs.ReferenceCalls.{FinishedLink}
use Rattle.sock_table.specs.LinkPasses.{Created, TriedTo}
use Rattle.sock_table.specs.NamesStoredAndFound.{NotedBy}

-- the operation got no socket: that is noted, and that the half of its link is finished, and nothing else
pub record GotNone {S : Type 0} (p : Plan) (operation link : ℕ) (m n : Me S View) : Type 0 where
  pub finished : Me S View
  pub same : FinishedLink p link m.0 finished.0
  pub noted : NotedBy p operation None finished n

-- the life of this id was made with the pass of this link, noted for the operation, and published under the name
pub record GotOne {S : Type 0} (p : Plan) (name operation link : ℕ) (id : SocketId) (m n : Me S View) : Type 0 where
  -- its slot is one of the table
  pub inside : socket_id_slot id.0 < p.slots
  pub made : Me S View
  pub created : Created id.0 link m.0 made.0
  pub told : Me S View
  pub noted : NotedBy p operation (Some id) made told
  pub published : PutAt (name_index p name) (id.0 + 1) told n

-- each slot's tag was found taken
pub record FoundFull {S : Type 0} (p : Plan) (operation link : ℕ) (m n : Me S View) : Type 0 where
  pub tried : Me S View
  pub each : TriedTo p.slots m.0 tried.0
  pub none_ : GotNone p operation link tried n

abbrev pub OpenedBy : {S : Type 0} → Plan → ℕ → ℕ → ℕ → Outcome → Me S View → Me S View → Type 0
OpenedBy p name operation link (Opened slot version k) m n = (id : SocketId) × (slot ≡ socket_id_slot id.0) × (version ≡ socket_id_version id.0) × (k ≡ link) × GotOne p name operation link id m n
OpenedBy p name operation link SlotsFull m n = FoundFull p operation link m n
OpenedBy p name operation link _ m n = ⊥
