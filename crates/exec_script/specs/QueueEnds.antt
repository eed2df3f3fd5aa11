-- How a queue ended whose submitters did the lines of a script.
use Rattle.std.specs.Prelude.{ℕ, ◌≡◌, ◌<◌, ◌≤◌, ◌-◌, ◌%◌, ⊤, ◌⊎◌, List, length, slice_get, Some}
use Rattle.exec_script.specs.declared.op.Op.{Op}
use Rattle.exec_script.specs.declared.op.Op.TheVariants.{Task, Stop}
use Rattle.exec_script.specs.declared.told.Answer.{Answer}
use Rattle.exec_script.specs.declared.told.Answer.TheVariants.{Accepted, Refused, Stopped, Already}
use Rattle.exec_script.specs.Accounting.{book_of}
use Rattle.exec_script.specs.Endings.{ending_text}

-- which of so many submitters does the line of this number: they go round
abbrev pub submitter_of : ℕ → ℕ → ℕ
submitter_of submitters line = (line - 1) % submitters

-- the line of this number was answered so
abbrev pub IsAnswered : List Answer → ℕ → Answer → Type 0
IsAnswered answers line answer = (1 ≤ line) × (slice_get answers (line - 1) ≡ Some answer)

-- some line stopped the queue
abbrev pub SomeStopped : List Answer → Type 0
SomeStopped answers = (line : ℕ) × IsAnswered answers line Stopped

-- a task is accepted or refused, and a stop stops the queue or finds it stopped
abbrev pub Answers : Op → Answer → Type 0
Answers (Task change) Accepted = ⊤
Answers (Task change) Refused = ⊤
Answers Stop Stopped = ⊤
Answers Stop Already = ⊤
Answers op answer = ⊥

-- each line was answered, by what it asks for
pub record AreAnswered (script : List Op) (answers : List Answer) : Type 0 where
  pub each : length answers ≡ length script
  pub fit : (place : ℕ) (op : Op) (answer : Answer) → slice_get script place ≡ Some op → slice_get answers place ≡ Some answer → Answers op answer

-- the order has each line that was accepted once and no other, those of a submitter as they stand in the script
pub record IsOrder (submitters : ℕ) (answers : List Answer) (order : List ℕ) : Type 0 where
  pub all : (line : ℕ) → IsAnswered answers line Accepted → (place : ℕ) × (slice_get order place ≡ Some line)
  pub none_else : (place line : ℕ) → slice_get order place ≡ Some line → IsAnswered answers line Accepted
  pub own : (place later line next : ℕ) → slice_get order place ≡ Some line → slice_get order later ≡ Some next → submitter_of submitters line ≡ submitter_of submitters next → place < later → line < next

-- one line at most stopped the queue; only then a task is dropped or refused, or a stop finds the queue stopped, and that never in a line that stands before the one of its own submitter that stopped it
pub record IsStoppedOnce (submitters : ℕ) (answers : List Answer) (order : List ℕ) (ran : ℕ) : Type 0 where
  pub once : (line other : ℕ) → IsAnswered answers line Stopped → IsAnswered answers other Stopped → line ≡ other
  pub dropped : ran < length order → SomeStopped answers
  pub refused : (line : ℕ) → IsAnswered answers line Refused → SomeStopped answers
  pub already : (line : ℕ) → IsAnswered answers line Already → SomeStopped answers
  pub behind : (line stop : ℕ) → IsAnswered answers line Refused ⊎ IsAnswered answers line Already → IsAnswered answers stop Stopped → submitter_of submitters line ≡ submitter_of submitters stop → stop < line

-- the text tells what each line was answered, the order of those that were accepted, of which the first so many ran, and the accounts behind these
pub record IsEndingText (submitters : ℕ) (script : List Op) (text : List ℕ) : Type 0 where
  pub answers : List Answer
  pub order : List ℕ
  pub ran : ℕ
  pub answered : AreAnswered script answers
  pub ordered : IsOrder submitters answers order
  pub few : ran ≤ length order
  pub stopped : IsStoppedOnce submitters answers order ran
  pub is_text : text ≡ ending_text (book_of script order ran) answers order
