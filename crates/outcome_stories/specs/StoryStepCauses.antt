-- What each step of a story means, by what was done before it.
use Rattle.std.specs.Prelude.{ℕ, ◌%◌, ◌≡◌, ◌≢◌, ◌<◌, ◌≤◌, ◌⊎◌, List, [], ◌∷◌, slice_get, Some}
use Rattle.sock_words.specs.declared.plain.Plan.{Plan}
use Rattle.sock_words.specs.PackedWords.{socket_id_version, socket_id_slot, vref_version}
use Rattle.sock_model.specs.MarkWeights.{is_failer, is_linked}
use Rattle.seat_programs.specs.TableSteps.{TableStep, OnSlot, OnName, CreateLife, AddRef, SetOdd, LoadName, LookWord, FindLink}
use Rattle.seat_programs.specs.declared.task.Task.{Task}
use Rattle.outcome_stories.specs.OperationStories.{Entry, Event, In, trace_of, last_name, marked}
use Rattle.outcome_stories.specs.Explains.{Fits, holds}

-- client c has this task
abbrev pub Asks : List (List Task) → ℕ → Task → Type 0
Asks clients c t = (ts : List Task) × (slice_get clients c ≡ Some ts) × In t ts

-- the life of version h of slot i was made with link k
abbrev pub WasGiven : List Event → ℕ → ℕ → ℕ → Type 0
WasGiven es i h k = 0 < marked (is_linked h k) i es

-- the link of the life of version h of slot i is one of these, which failed
abbrev pub IsLost : List ℕ → List Event → ℕ → ℕ → Type 0
IsLost broken es i h = (k : ℕ) × In k broken × WasGiven es i h k

-- the life of version h of slot i was failed by an operation, or its link failed
abbrev pub WasFailed : List ℕ → List Event → ℕ → ℕ → Type 0
WasFailed broken es i h = (0 < marked (is_failer h) i es) ⊎ IsLost broken es i h

-- what is found where the life of version h of slot i is set failed
abbrev pub OddAt : List ℕ → List Event → ℕ → ℕ → ℕ → Type 0
OddAt broken es i h found = (vref_version found % 2 ≡ 0 → vref_version found ≡ h) × (vref_version found % 2 ≡ 1 → WasFailed broken es i h)

-- what a step found, behind this story and these steps of its operation
abbrev pub FoundCause : Plan → List ℕ → List Event → List Entry → TableStep → ℕ → Type 0
-- the word of a name is what was stored there last
FoundCause p broken es trace (OnName (LoadName n)) found = found ≡ last_name n es
-- a life is made in a slot of the table, with an even version that isn't below the first
FoundCause p broken es trace (OnSlot (CreateLife i k)) found = (i < p.slots) × (vref_version found % 2 ≡ 0) × (p.first ≤ vref_version found)
-- where the slot has another version, the life was failed
FoundCause p broken es trace (OnSlot (AddRef id)) found = vref_version found ≢ socket_id_version id → WasFailed broken es (socket_id_slot id) (socket_id_version id)
-- the life that is held is set failed, or was failed before
FoundCause p broken es trace (OnSlot (SetOdd i)) found = (h : ℕ) → 0 < holds i h trace → OddAt broken es i h found
-- it is seen live, or was failed before
FoundCause p broken es trace (OnSlot (LookWord id)) found = 0 < holds (socket_id_slot id) (socket_id_version id) trace → vref_version found % 2 ≡ 1 → WasFailed broken es (socket_id_slot id) (socket_id_version id)
-- its link is the one with which it was made
FoundCause p broken es trace (OnSlot (FindLink i h)) found = WasGiven es i h found
FoundCause p broken es trace other found = Unit {0}

pub record Cause (p : Plan) (clients : List (List Task)) (broken : List ℕ) (es : List Event) (e : Event) : Type 0 where
  -- a client's steps are for its operations in order
  pub order : (x : Event) → In x es → x.client ≡ e.client → x.number ≤ e.number
  -- those of the setup come first
  pub setup : (x : Event) → In x es → e.client ≡ 0 → x.client ≡ 0
  -- the task for which the step was made
  pub task : Task
  pub is : Asks clients e.client task
  pub numbered : task.number ≡ e.number
  pub fits : Fits task broken (trace_of e.client e.number es) e.entry.call
  pub means : FoundCause p broken es (trace_of e.client e.number es) e.entry.call e.entry.found

-- each step has its cause in what was done before it, and in links that failed
abbrev pub Good : Plan → List (List Task) → List ℕ → List Event → Type 0
Good p clients broken [] = Unit {0}
Good p clients broken (e ∷ es) = Cause p clients broken es e × Good p clients broken es
