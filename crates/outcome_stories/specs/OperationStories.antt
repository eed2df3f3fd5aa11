-- The story of a run: each step that was made for an operation, the latest first.
use Rattle.std.specs.Prelude.{ℕ, ◌+◌, ◌%◌, ◌==◌, ◌&&◌, ◌⊎◌, ◌≡◌, if◌then◌else◌, List, [], ◌∷◌}
use Rattle.sock_words.specs.PackedWords.{vref_version}
use Rattle.sock_model.specs.declared.marks.Mark.{Mark}
use Rattle.sock_model.specs.declared.marks.Mark.TheVariants.{Tried, Born, Failer, Linked}
use Rattle.seat_programs.specs.TableSteps.{TableStep, OnSlot, OnName, ClaimSlot, CreateLife, SetOdd, StoreName}
use Rattle.seat_programs.specs.declared.task.Task.{Task}
use Rattle.sock_words.specs.Totals.{total}

-- a step and the word that it found
pub record Entry : Type 0 where
  pub call : TableStep
  pub found : ℕ

-- a step of a client for an operation
pub record Event : Type 0 where
  pub client : ℕ
  pub number : ℕ
  pub entry : Entry

-- x is one of the list
abbrev pub In : {A : Type 0} → A → List A → Type 0
In x [] = ⊥
In x (y ∷ ys) = (x ≡ y) ⊎ In x ys

-- the steps of client c for operation o
abbrev pub trace_of : ℕ → ℕ → List Event → List Entry
trace_of c o [] = []
trace_of c o (e ∷ es) = if (e.client == c) && (e.number == o) then e.entry ∷ trace_of c o es else trace_of c o es

-- the story with one more step, for the first of these tasks; steps behind the last task are left out
abbrev pub told_of : ℕ → List Task → Entry → List Event → List Event
told_of c [] entry es = es
told_of c (t ∷ ts) entry es = (record { client = c; number = t.number; entry = entry }) ∷ es

-- the steps of the operation in hand
abbrev pub trace_now : ℕ → List Task → List Event → List Entry
trace_now c [] es = []
trace_now c (t ∷ ts) es = trace_of c t.number es

-- the word that was stored last for name n, or 0
abbrev pub stored_by : ℕ → TableStep → ℕ → ℕ
stored_by n (OnName (StoreName m w)) before = if m == n then w else before
stored_by n other before = before

abbrev pub last_name : ℕ → List Event → ℕ
last_name n [] = 0
last_name n (e ∷ es) = stored_by n e.entry.call (last_name n es)

-- how much a step adds to the marks of slot j that stay: a slot found taken, a life made, with its link, a life failed
abbrev pub adds : (Mark → ℕ) → ℕ → TableStep → ℕ → ℕ
adds f j (OnSlot (ClaimSlot i)) found = if i == j then (if found == 0 then 0 else f Tried) else 0
adds f j (OnSlot (CreateLife i k)) found = if i == j then f (Born (vref_version found)) + f (Linked (vref_version found) k) else 0
adds f j (OnSlot (SetOdd i)) found = if i == j then (if vref_version found % 2 == 0 then f (Failer (vref_version found)) else 0) else 0
adds f j other found = 0

abbrev pub added_by : (Mark → ℕ) → ℕ → Event → ℕ
added_by f j e = adds f j e.entry.call e.entry.found

-- all that the story added
abbrev pub marked : (Mark → ℕ) → ℕ → List Event → ℕ
marked f j es = total (added_by f j) es
