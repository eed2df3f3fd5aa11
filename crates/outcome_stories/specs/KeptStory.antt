-- What the steps of a run keep: a story that explains all outcomes so far, tied to the words and to the marks of the seats.
use Rattle.std.specs.Prelude.{ℕ, ◌+◌, ◌%◌, ◌≡◌, ◌≢◌, ◌<◌, ◌≤◌, ◌⊎◌, Bool, true, false, List, [], ◌∷◌, ◌++◌, length, slice_get, slice_index, Option, Some, None}
use Rattle.std.specs.List.{AllByRecursion, filter}
use mathlib.Core.Option as core
use lib.ListN.{get_elem?}
use Rattle.sock_words.specs.declared.plain.Plan.{Plan}
use Rattle.sock_words.specs.declared.outcome.Outcome.{Outcome}
use Rattle.sock_words.specs.PackedWords.{socket_id_version, socket_id_slot}
use Rattle.sock_model.specs.declared.chain.Heading.{Heading}
use Rattle.sock_model.specs.declared.chain.Claim.{Claim}
use Rattle.sock_model.specs.declared.chain.Entry as chain
use Rattle.sock_model.specs.declared.view.View.{View}
use Rattle.sock_model.specs.MarkWeights.{is_hold, is_born, is_failer, is_tried, is_linked}
use Rattle.sock_model.specs.SocketTableLayout.{name_index, request_index}
use Rattle.sock_model.specs.SocketSlotLaw.{count}
use Rattle.sock_model.specs.References.{slot_facts}
use Rattle.sock_model.specs.SlotRows.{marks_of}
use Rattle.seat_programs.specs.sock_message.specs.Asked.{Asked}
use Rattle.seat_programs.specs.FoundAndChangedAside.{call_at}
use Rattle.seat_programs.specs.TableSteps.{OnSlot, OnName, OnChain, OnMessage, ClaimRequest, PutMessage, Unconnect, LoadName, FindLink}
use Rattle.seat_programs.specs.declared.task.Op.TheVariants as ops
use Rattle.seat_programs.specs.declared.task.Task.{Task}
use Rattle.seat_programs.specs.Programs.{Program, Say, Sent, Keep, Retries}
use Rattle.seat_programs.specs.SendAndWritePrograms.{heading_of}
use Rattle.seat_programs.specs.Cores.{Core, SeatState}
use Rattle.program_walks.specs.program_steps.specs.SoundSeats.{state}
use Rattle.outcome_stories.specs.OperationStories.{Entry, Event, In, trace_of, trace_now, last_name, marked}
use Rattle.outcome_stories.specs.Explains.{Way, Own, Beside, Closing, Done, IsExplainedBy, Tells, ExplainsBy, holds, swapped, step}
use Rattle.outcome_stories.specs.StoryStepCauses.{Asks, Good, WasGiven, WasFailed}

-- the tasks done, the latest first, before those still to do
abbrev pub undo : List Done → List Task → List Task
undo [] todo = todo
undo (d ∷ ds) todo = undo ds (d.task ∷ todo)

-- each task done is explained by its steps
abbrev pub AreKept : ℕ → ℕ → List Event → ℕ → List Done → Type 0
AreKept slots requests es c [] = Unit {0}
AreKept slots requests es c (d ∷ ds) = IsExplainedBy slots requests ds (trace_of c d.task.number es) d.task.op d.outcome × AllByRecursion (Tells d.task.op d.outcome) (trace_of c d.task.number es)
    × AreKept slots requests es c ds

-- ## Messages

-- an accepted message is that of client c's task, to the link of the life that the task found under its name
pub record IsOfTask (es : List Event) (c : ℕ) (t : Task) (e : chain.Entry) : Type 0 where
  pub heading : e.heading ≡ heading_of t.number
  pub name : ℕ
  pub op : t.op ≡ ops.Send name e.bytes
  pub id : ℕ
  pub load : In (step (OnName (LoadName name)) (id + 1)) (trace_of c t.number es)
  pub link : WasGiven es (socket_id_slot id) (socket_id_version id) e.link

-- where the operation exchanged a head, its message is the last of these
abbrev pub EndsIn : List Event → ℕ → Task → List chain.Entry → List chain.Entry → Bool → Type 0
EndsIn es c t before made true = (e : chain.Entry) × (made ≡ before ++ e ∷ []) × IsOfTask es c t e
EndsIn es c t before made false = made ≡ before

-- these are the messages of the tasks done, the latest last
abbrev pub AreMade : List Event → ℕ → List Done → List chain.Entry → Type 0
AreMade es c [] made = made ≡ []
AreMade es c (d ∷ ds) made = (before : List chain.Entry) × EndsIn es c d.task before made (swapped (trace_of c d.task.number es)) × AreMade es c ds before

-- and of the task in hand
abbrev pub AreMadeNow : List Event → ℕ → List Done → List Task → List chain.Entry → Type 0
AreMadeNow es c done [] made = AreMade es c done made
AreMadeNow es c done (t ∷ ts) made = (before : List chain.Entry) × EndsIn es c t before made (swapped (trace_of c t.number es)) × AreMade es c done before

-- a claim is for the link of the life of this id
abbrev pub IsFor : List Event → ℕ → Claim → Type 0
IsFor es id x = WasGiven es (socket_id_slot id) (socket_id_version id) x.link

-- of the steps by which a request is claimed, filled and marked, what the seat's one claim has so far
pub record AreClaims (es : List Event) (trace : List Entry) (claims : List Claim) : Type 0 where
  pub new : (x : Claim) (id q found : ℕ) (before : List Entry) → claims ≡ x ∷ [] → trace ≡ step (OnChain (ClaimRequest id q)) found ∷ before → found % 2 ≡ 0 → IsFor es id x
  pub filled : (x : Claim) (id q found word : ℕ) (heading : Heading) (bytes : List ℕ) (before : List Entry) → claims ≡ x ∷ []
      → trace ≡ step (OnMessage (PutMessage q heading bytes)) word ∷ step (OnChain (ClaimRequest id q)) found ∷ before → found % 2 ≡ 0 → IsFor es id x × (x.heading ≡ heading) × (x.bytes ≡ bytes)
  pub marked : (x : Claim) (id q found word next : ℕ) (heading : Heading) (bytes : List ℕ) (before : List Entry) → claims ≡ x ∷ []
      → trace ≡ step (OnChain (Unconnect q)) next ∷ step (OnMessage (PutMessage q heading bytes)) word ∷ step (OnChain (ClaimRequest id q)) found ∷ before → found % 2 ≡ 0 → IsFor es id x × (x.heading ≡ heading) × (x.bytes ≡ bytes)

-- ## Seats

-- messages of sends; those of calls have parts
abbrev pub is_of_send : chain.Entry → Bool
is_of_send e = elim e.heading.parts as (λ l. Bool) [ [] ↦ true | x ∷ xs ↦ false ]

abbrev pub of_sends : List chain.Entry → List chain.Entry
of_sends es = filter is_of_send es

-- a message that isn't a send's is a call's
abbrev pub IsOfCall : (ℕ → Type 0) → chain.Entry → Type 0
IsOfCall calls e = is_of_send e ≡ false → calls e.heading.label.operation

-- the steps of the task in hand, where its program is at work, are those of the story; beside the tasks none was made for the next task
abbrev pub IsTraced : Way → List Entry → ℕ → List Task → List Event → Type 0
IsTraced Own trace c todo es = trace ≡ trace_now c todo es
IsTraced Beside trace c todo es = trace_now c todo es ≡ []
IsTraced Closing trace c todo es = (trace ≡ []) × (trace_now c todo es ≡ [])

-- seat 0 ends the run, and readers' seats begin at 32
abbrev pub MayClose : ℕ → Type 0
MayClose c = (c ≡ 0) ⊎ (32 ≤ c)

-- client c, whose tasks these are, has done some, and its program does the others; the setup is over or not
pub record SeatAt (p : Plan) (calls : ℕ → Type 0) (over : Bool) (es : List Event) (broken : List ℕ) (outcomes : List (Option Outcome)) (c : ℕ) (tasks : List Task) (way : Way) (trace : List Entry) (done : List Done) (todo : List Task) (program : Program) (v : View) : Type 0 where
  pub set_up : over ≡ true → c ≡ 0 → todo ≡ []
  pub closes : way ≡ Closing → MayClose c
  pub traced : IsTraced way trace c todo es
  -- its tasks are those done and those to do
  pub all : tasks ≡ undo done todo
  -- those done have their outcomes
  pub became : AllByRecursion (λ (d : Done). slice_get outcomes d.task.number ≡ Some d.outcome) done
  -- those to do have none yet
  pub unsaid : AllByRecursion (λ (t : Task). slice_get outcomes t.number ≡ Some None) todo
  -- each explained by its steps
  pub kept : AreKept p.slots p.requests es c done
  -- it made no step for the tasks behind the first
  pub past : (e : Event) → In e es → e.client ≡ c → AllByRecursion (λ (t : Task). e.number ≤ t.number) todo
  -- and its program explains the others
  pub explains : ExplainsBy p.slots p.requests calls way broken done trace todo program
  -- it holds what it took references to
  pub holding : (i h : ℕ) → holds i h trace ≤ marks_of (is_hold h) i v
  -- the links that it found are those with which the lives were made
  pub linked : (i h k : ℕ) → In (step (OnSlot (FindLink i h)) k) trace → WasGiven es i h k
  -- its claim is for its message
  pub claims : AreClaims es trace v.claims
  -- and its accepted messages are those of its tasks, and of calls
  pub made : List chain.Entry
  pub lists : v.lists ≡ made ∷ []
  pub are_made : AreMadeNow es c done todo (of_sends made)
  pub of_calls : AllByRecursion (IsOfCall calls) made

pub record SeatStory (p : Plan) (calls : ℕ → Type 0) (over : Bool) (es : List Event) (broken : List ℕ) (outcomes : List (Option Outcome)) (c : ℕ) (tasks : List Task) (program : Program) (v : View) : Type 0 where
  pub way : Way
  pub trace : List Entry
  pub done : List Done
  pub todo : List Task
  pub at : SeatAt p calls over es broken outcomes c tasks way trace done todo program v

-- its outcomes are said
abbrev pub IsReady : Program → Type 0
IsReady (Say o outcome more) = ⊥
IsReady (Sent o more) = ⊥
IsReady (Keep r more) = ⊥
IsReady (Retries n more) = ⊥
IsReady other = Unit {0}

-- a request that a step found claimed, its word isn't 0 since
abbrev pub StaysUsed : Plan → List ℕ → Entry → Type 0
StaysUsed p ws e = elim e.call as (λ c. Type 0) [
  | OnChain (ClaimRequest id q) ↦ e.found % 2 ≡ 1 → (q < p.requests) × (0 < slice_index ws (request_index p q))
  | _ ↦ Unit {0}
]

-- no client has a task with this number: it is that of a call, or of what is done with one
abbrev pub IsSpoken : List (List Task) → ℕ → Type 0
IsSpoken clients o = (d : ℕ) (t : Task) → Asks clients d t → t.number ≢ o

-- of the tasks of all clients but those on calls; the setup is over or not, and these links failed, or their sockets were closed
pub record Story (p : Plan) (clients : List (List Task)) (over : Bool) (c : Core) (views : List View) (es : List Event) (broken : List ℕ) : Type 0 where
  -- each operation has its place among the outcomes
  pub sized : length c.outcomes ≡ p.operations
  -- each client is a seat
  pub each : length c.seats ≡ length clients
  -- no outcome is still to be said before a seat's next step
  pub ready : (i : ℕ) (seat : SeatState) → get_elem? c.seats i ≡ core.some seat → IsReady seat.program
  -- each step has its cause
  pub good : Good p clients broken es
  -- the marks that stay are those of the story
  pub births : (j : ℕ) → j < p.slots → (h : ℕ) → count (is_born h) (slot_facts (state c views) j) ≡ marked (is_born h) j es
  pub links : (j : ℕ) → j < p.slots → (h k : ℕ) → count (is_linked h k) (slot_facts (state c views) j) ≡ marked (is_linked h k) j es
  pub fails : (j : ℕ) → j < p.slots → (h : ℕ) → marked (is_failer h) j es ≤ count (is_failer h) (slot_facts (state c views) j)
  -- a life that was failed was so by an operation, or its link failed
  pub lost : (j : ℕ) → j < p.slots → (h : ℕ) → 0 < count (is_failer h) (slot_facts (state c views) j) → WasFailed broken es j h
  pub tries : (j : ℕ) → j < p.slots → count is_tried (slot_facts (state c views) j) ≡ marked is_tried j es
  -- the words of names are those of the story
  pub named : (n : ℕ) → n < p.names → slice_index c.words (name_index p n) ≡ last_name n es
  -- and requests that were found claimed were used
  pub used : (e : Event) → In e es → StaysUsed p c.words e.entry
  -- the calls at home are none of these tasks
  pub spoken : (i : ℕ) (asked : Asked) → call_at (get_elem? c.calls.homes i) ≡ core.some asked → IsSpoken clients asked.operation
  -- each client did its tasks so far
  pub seats : (i : ℕ) (tasks : List Task) (seat : SeatState) (v : View) → slice_get clients i ≡ Some tasks → get_elem? c.seats i ≡ core.some seat → get_elem? views i ≡ core.some v
      → SeatStory p (IsSpoken clients) over es broken c.outcomes i tasks seat.program v
