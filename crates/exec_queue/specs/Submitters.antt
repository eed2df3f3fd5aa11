-- What a submitter's seat has of its tasks.
use Rattle.std.specs.Prelude.{ℕ, ◌≡◌, ◌≢◌, ◌*◌, ◌-◌, ◌^◌, ◌<◌, ◌≤◌, List, [], ◌∷◌}
use Rattle.std.specs.List.{AllByRecursion}
use Rattle.sock_io.specs.declared.link.Out.{Ghosts}
use Rattle.sock_words.specs.declared.plain.Plan.{Plan}
use Rattle.sock_model.specs.declared.chain.Entry.{Entry}
use Rattle.sock_model.specs.declared.chain.Heading.{Heading}
use Rattle.write_chain.specs.ReadyToSend.{IsReady}
use Rattle.exec_queue.specs.declared.task.Task.{Task}
use Rattle.exec_queue.specs.declared.queue.TaskSubmitter.{TaskSubmitter}
use Rattle.exec_queue.specs.declared.queue.TaskQueue.{TaskQueue}
use Rattle.exec_queue.specs.Tasks.{IsTask, task_bytes}
use Rattle.exec_queue.specs.StoppedQueue.{NotesFit}

-- one slot, one link, one name; as many requests and lines as a queue has; and some submitter
pub record IsQueuePlan (p : Plan) : Type 0 where
  pub slots : p.slots ≡ 1
  pub links : p.links ≡ 1
  pub requests : p.requests ≡ 4096
  pub names : p.names ≡ 1
  pub operations : p.operations ≡ 4096
  pub seats : 1 ≤ p.seats

-- what stands with the task of a submitter
abbrev pub heading_of_task : ℕ → Task → Heading
heading_of_task number t = record { label = record { client = number; operation = t.line; attempt = 0; place = 8 * (t.line - 1) }; owner = 0; parts = [] }

-- its line is one of a queue
pub record HasLine (t : Task) : Type 0 where
  pub low : 1 ≤ t.line
  pub high : t.line ≤ 4096

-- the entry is that of this submitter's task
pub record IsSubmitted (number : ℕ) (t : Task) (e : Entry) : Type 0 where
  pub task : IsTask t
  pub line : HasLine t
  -- as a u64 is
  pub amount : t.amount < 2 ^ 64
  pub heading : e.heading ≡ heading_of_task number t
  pub bytes : e.bytes ≡ task_bytes t
  -- the queue has one link
  pub link : e.link ≡ 0

abbrev pub AreSubmitted : ℕ → List Task → List Entry → Type 0
AreSubmitted number [] [] = Unit {0}
AreSubmitted number (t ∷ ts) (e ∷ es) = IsSubmitted number t e × AreSubmitted number ts es
AreSubmitted number [] (e ∷ es) = ⊥
AreSubmitted number (t ∷ ts) [] = ⊥

-- none of them stands on this line
abbrev pub IsFreshLine : ℕ → List Task → Type 0
IsFreshLine line ts = AllByRecursion (λ (t : Task). t.line ≢ line) ts

-- no two stand on one line
abbrev pub LinesDiffer : List Task → Type 0
LinesDiffer [] = Unit {0}
LinesDiffer (t ∷ ts) = IsFreshLine t.line ts × LinesDiffer ts

-- a submitter of this queue: these tasks were accepted of it, in this order
pub record IsSubmitter {O : Type 0} {g : Ghosts O} (q : TaskQueue O g) (ts : List Task) (s : TaskSubmitter O g) : Type 0 where
  pub ready : IsReady q.table.rule.table.shared.table_id q.table.rule.plan q.id.0 s.seat
  pub own : List Entry
  pub lists : s.seat.me.0.lists ≡ own ∷ []
  pub submitted : AreSubmitted s.number ts own
  pub differ : LinesDiffer ts
  pub noted : NotesFit q.table.rule.plan q.id.0 s.stops s.told s.full s.seat.me.0
