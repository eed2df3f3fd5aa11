-- What a submitter noted of the queue's socket, whose id this is: whether it was stopped, and by whom, and that its requests were taken.
use Rattle.std.specs.Prelude.{ℕ, ◌≡◌, ◌+◌, ◌<◌, ◌≤◌, ◌⊎◌, Bool, true}
use Rattle.sock_words.specs.declared.plain.Plan.{Plan}
use Rattle.sock_words.specs.PackedWords.{socket_id_slot, socket_id_version, vref_version}
use Rattle.sock_model.specs.declared.view.View.{View}
use Rattle.sock_model.specs.MarkWeights.{is_failer, is_linked, is_met, is_saw}
use Rattle.sock_model.specs.SlotRows.{marks_of}
use Rattle.sock_rule.specs.LinkFaultNotes.{is_fault}
use Rattle.sock_table.specs.NamesStoredAndFound.{HasSeen}
use Rattle.sock_table.specs.ReferenceAnswers.{NoneLater}
use Rattle.write_chain.specs.NotingWhileWriting.{Met_by}
use Rattle.write_chain.specs.SendingIntoChain.{FoundTaken, FullNow}
use Rattle.sock_io.specs.declared.link.Out.{Ghosts}
use Rattle.write_chain.specs.declared.entry.Started.{Started}
use Rattle.write_chain.specs.declared.entry.Started.TheVariants as started
use Rattle.exec_queue.specs.declared.submitting.Submitted.{Submitted}
use Rattle.exec_queue.specs.declared.submitting.Submitted.TheVariants as submitted
use Rattle.exec_queue.specs.declared.submitting.NotSubmitted.{NotSubmitted}
use Rattle.exec_queue.specs.declared.submitting.NotSubmitted.TheVariants as refused

-- the seat found the life of this id failed or gone
abbrev pub SawLater : ℕ → View → Type 0
SawLater id v = (w : ℕ) × (socket_id_version id < w) × (0 < marks_of (is_saw w) (socket_id_slot id) v)

-- how often the seat failed that life
abbrev pub failings : ℕ → View → ℕ
failings id v = marks_of (is_failer (socket_id_version id)) (socket_id_slot id) v

-- the seat noted a fault of the link of that life
abbrev pub NotedFault : ℕ → View → Type 0
NotedFault id v = (k : ℕ) × (0 < marks_of (is_fault k) (socket_id_slot id) v) × Met_by id v k

-- the seat failed the life so often; oftener only where it noted a fault of its link
abbrev pub Failed : ℕ → ℕ → View → Type 0
Failed id n v = (failings id v ≡ n) ⊎ ((n ≤ failings id v) × NotedFault id v)

-- of all lives of the slot the seat made at most that of this id, with link 0
abbrev pub MadeOne : ℕ → View → Type 0
MadeOne id v = (h k : ℕ) → 0 < marks_of (is_linked h k) (socket_id_slot id) v → (h ≡ socket_id_version id) × (k ≡ 0)

-- the notes of a submitter whose calls of `stop` answered Ok so often, of which `told` and `full` say whether it was answered that the queue was stopped, and that it was full
pub record NotesFit (p : Plan) (id stops : ℕ) (told full : Bool) (v : View) : Type 0 where
  pub failed : Failed id stops v
  pub dead : 0 < failings id v → SawLater id v
  pub later : told ≡ true → SawLater id v
  pub taken : full ≡ true → (q : ℕ) → q < p.requests → FoundTaken p q v.found
  pub made : MadeOne id v

-- what the seat found for good is found still
abbrev pub FoundMore : View → View → Type 0
FoundMore v w = (x : ℕ) → HasSeen x v → HasSeen x w

-- from v to w the seat failed the life n times by a call of its own, and oftener only where it noted a fault of its link; it made no life, and what it noted it has still
pub record Grew (id n : ℕ) (v w : View) : Type 0 where
  pub saw : (x : ℕ) → marks_of (is_saw x) (socket_id_slot id) v ≤ marks_of (is_saw x) (socket_id_slot id) w
  pub fault : (k : ℕ) → marks_of (is_fault k) (socket_id_slot id) v ≤ marks_of (is_fault k) (socket_id_slot id) w
  pub met : (k : ℕ) → marks_of (is_met (socket_id_version id) k) (socket_id_slot id) v ≤ marks_of (is_met (socket_id_version id) k) (socket_id_slot id) w
  pub linked : (h k : ℕ) → marks_of (is_linked h k) (socket_id_slot id) w ≡ marks_of (is_linked h k) (socket_id_slot id) v
  pub failed : (failings id w ≡ failings id v + n) ⊎ ((failings id v + n ≤ failings id w) × NotedFault id w × SawLater id w)
  pub later : (n ≡ 0) ⊎ SawLater id w
  pub more : FoundMore v w

-- between v and w the seat found this word, which has a later version than the id
pub record FoundStopped (id found : ℕ) (v w : View) : Type 0 where
  pub later : socket_id_version id < vref_version found
  pub saw : marks_of (is_saw (vref_version found)) (socket_id_slot id) v < marks_of (is_saw (vref_version found)) (socket_id_slot id) w

-- why nothing was submitted: the queue had been stopped, each request was found taken at a step between v and w, or nothing was done
abbrev pub RefusedFor : Plan → ℕ → NotSubmitted → View → View → Type 0
RefusedFor p id (refused.Stopped found) v w = FoundStopped id found.0 v w
RefusedFor p id refused.Full v w = NoneLater id v × FullNow p p.requests v w
RefusedFor p id refused.NoMemory v w = w ≡ v

-- a message that was accepted is run by this call, where it has the right
abbrev pub submitted_by : {O : Type 0} {g : Ghosts O} → Started O g → Submitted
submitted_by (started.Queued sock) = submitted.Queued
submitted_by (started.Right right) = submitted.Ran

-- what the submitter remembers of the answer: that the queue was stopped
abbrev pub told_by : NotSubmitted → Bool → Bool
told_by (refused.Stopped found) told = true
told_by refused.Full told = told
told_by refused.NoMemory told = told

-- and that it was full
abbrev pub full_by : NotSubmitted → Bool → Bool
full_by refused.Full full = true
full_by (refused.Stopped found) full = full
full_by refused.NoMemory full = full
