-- The story of a run as far as calls go: how what happened so far stands to the words, the homes and the marks of all seats.
use Rattle.std.specs.Prelude.{ℕ, ◌==◌, if◌then◌else◌, ◌++◌, ◌≡◌, ◌≢◌, ◌+◌, ◌<◌, ◌≤◌, ◌⊎◌, List, [], ◌∷◌, length, slice_get, slice_index, slice_index_or, Option, Some, None}
use Rattle.std.specs.List.{AllByRecursion}
use mathlib.Core.Option as core
use lib.ListN.{get_elem?}
use Rattle.sock_words.specs.PackedWords.{at_word_attempt, call_id, id_slot, id_first, bit}
use Rattle.sock_words.specs.declared.plain.Plan.{Plan}
use Rattle.sock_words.specs.declared.outcome.Outcome.{Outcome}
use Rattle.sock_model.specs.SocketTableLayout.{code_index}
use Rattle.corr_core.specs.IdSlotWord.{Parts, parts}
use Rattle.corr_core.specs.declared.marks.Plan.{Plan as IdPlan}
use Rattle.seat_programs.specs.id_rule.specs.LawfulIdTable.{tag_index, id_index, call_index, at_index}
use Rattle.sock_message.specs.Asked.{Asked}
use Rattle.seat_programs.specs.declared.task.Op.TheVariants as ops
use Rattle.seat_programs.specs.declared.task.Task.{Task}
use Rattle.seat_programs.specs.Asides.{Step, ClaimId, PutCall, MakeId, StoreCall, LoadCall, StoreAt, LoadAt, LoadIdWord, LockId, PostId, UnlockId, EndId, FreeId, TakeCall, TakeBytes, Found}
use Rattle.seat_programs.specs.FoundAndChangedAside.{calls_after}
use Rattle.seat_programs.specs.Cores.{Core, SeatState}
use Rattle.call_stories.specs.LinkReadingLists.{gave_in, times, advances_by}
use Rattle.call_stories.specs.PostsOfRun.{Post, posts_by}
use Rattle.call_stories.specs.Decided.{Decision}
use Rattle.call_stories.specs.Scenes.{Birth, Claim, Saying, Scene, IsOver, Said, IsBorn, IsOther, MayAdvance, CauseOf, Begun, IsTaskOf, WhyEnded, WhyOwn, AreTold, IsClaimed, Later}
use Rattle.call_stories.specs.Says.{Shape, shape_of, with_attempt, unlocked_by, Slot, NoSlot, Claims, Locked, Holds, Leaves, Mark, with_slot, with_owed, with_made, with_done, put_in, taken_out, given_more, SaysOn}
use Rattle.outcome_stories.specs.OperationStories.{In}

abbrev pub At : List Mark → ℕ → Mark → Type 0
At ms j m = get_elem? ms j ≡ core.some m

-- ## Id slots

abbrev pub word_at : Scene → ℕ → Parts
word_at w i = parts (slice_index w.core.calls.words (id_index i))

abbrev pub tag_at : Scene → ℕ → ℕ
tag_at w i = slice_index w.core.calls.words (tag_index i)

abbrev pub LiesAt : Scene → ℕ → Asked → Type 0
LiesAt w i asked = get_elem? w.core.calls.homes i ≡ core.some (core.some (Some asked))

abbrev pub InSlot : ℕ → Slot → Type 0
InSlot i NoSlot = ⊥
InSlot i (Claims j c) = j ≡ i
InSlot i (Locked j f shape) = j ≡ i
InSlot i (Holds j f shape asked) = j ≡ i
InSlot i (Leaves j) = j ≡ i

-- a call that was put into the home of a claimed slot lies there
abbrev pub PutThere : Scene → ℕ → Option Asked → Type 0
PutThere w i None = Unit {0}
PutThere w i (Some asked) = (a : Asked) → LiesAt w i a → a ≡ asked

module _ (q : IdPlan) where
  abbrev pub IsLockedAt : Scene → ℕ → ℕ → Shape → Type 0
  IsLockedAt w i f shape = (i < q.slots) × (tag_at w i ≢ 0) × ((word_at w i).state ≡ 2) × ((word_at w i).first ≡ f) × ((word_at w i).range ≡ shape.range) × ((word_at w i).attempt ≡ shape.attempt)

  abbrev pub SlotFits : Scene → Slot → Type 0
  SlotFits w NoSlot = Unit {0}
  SlotFits w (Claims i c) = (i < q.slots) × (tag_at w i ≢ 0) × ((word_at w i).state ≡ 0) × PutThere w i c
  SlotFits w (Locked i f shape) = IsLockedAt w i f shape
  SlotFits w (Holds i f shape asked) = IsLockedAt w i f shape
  SlotFits w (Leaves i) = (i < q.slots) × (tag_at w i ≢ 0) × ((word_at w i).state ≡ 0)

  -- what each seat has of a slot is so, and no other seat has it
  pub record SlotsLaw (w : Scene) (ms : List Mark) : Type 0 where
    pub fits : (j : ℕ) (m : Mark) → At ms j m → SlotFits w m.slot
    pub single : (j l i : ℕ) (m n : Mark) → At ms j m → At ms l n → InSlot i m.slot → InSlot i n.slot → j ≡ l

-- ## Ids that were made

abbrev pub HasPassed : Scene → Birth → Type 0
HasPassed w b = id_first b.id + b.asked.range ≤ (word_at w (id_slot b.id)).first

abbrev pub IsCurrent : Scene → Birth → Type 0
IsCurrent w b = ((word_at w (id_slot b.id)).first ≡ id_first b.id) × (0 < (word_at w (id_slot b.id)).state) × ((word_at w (id_slot b.id)).range ≡ b.asked.range)

abbrev pub AreApart : Birth → Birth → Type 0
AreApart a b = ((a.id + a.asked.range ≤ b.id) ⊎ (b.id + b.asked.range ≤ a.id)) × (a.asked.operation ≢ b.asked.operation)

abbrev pub AllApart : List Birth → Type 0
AllApart [] = Unit {0}
AllApart (b ∷ bs) = AllByRecursion (AreApart b) bs × AllApart bs

module _ (p : Plan) (q : IdPlan) (clients : List (List Task)) (gives : ℕ → List ℕ) where
  pub record BirthsLaw (w : Scene) : Type 0 where
    -- each was in its slot, or is, and each range that hasn't ended was made
    pub born : (b : Birth) → In b w.births → (id_slot b.id < q.slots) × (2 ≤ b.asked.range) × (b.asked.range ≤ 8) × (HasPassed w b ⊎ IsCurrent w b)
    pub alive : (i : ℕ) → i < q.slots → 0 < (word_at w i).state → (asked : Asked) × IsBorn w (call_id i (word_at w i).first) asked
    -- no two have a version or an operation in common
    pub apart : AllApart w.births
    -- the call at home is that of the range
    pub homes : (i : ℕ) (asked : Asked) → i < q.slots → 0 < (word_at w i).state → LiesAt w i asked → IsBorn w (call_id i (word_at w i).first) asked
    -- each error that waits has its cause, and each code of a socket is that of an error
    pub errors : (i : ℕ) → i < q.slots → 0 < (word_at w i).state
        → ((word_at w i).oldest ≢ 0 → CauseOf p q clients gives w (call_id i (word_at w i).first) (word_at w i).oldest) × ((word_at w i).second ≢ 0 → CauseOf p q clients gives w (call_id i (word_at w i).first) (word_at w i).second)
    -- the attempt of an id is how often it was advanced, and of no call without an id it was
    pub attempts : (b : Birth) → In b w.births → IsCurrent w b → (word_at w (id_slot b.id)).attempt ≡ times b.asked.operation w.advances
    -- which was less often than the range has attempts, and each time by an error that was posted for the attempt before
    pub few : (b : Birth) → In b w.births → times b.asked.operation w.advances + 2 ≤ b.asked.range
    pub advanced : (b : Birth) → In b w.births → (n : ℕ) → n < times b.asked.operation w.advances → MayAdvance p q clients gives w b.id n
    pub unmade : (o : ℕ) → ((b : Birth) → In b w.births → b.asked.operation ≢ o) → times o w.advances ≡ 0
    pub codes : (i : ℕ) → i < p.slots → slice_index w.core.words (code_index i) ≢ 0 → IsOther p q clients gives (slice_index w.core.words (code_index i))
    -- where an attempt went is written of an attempt that a range may have
    pub ats : (o : ℕ) → o < q.operations → at_word_attempt (slice_index w.core.calls.words (at_index q o)) ≤ 6

  -- ## Tasks, and what is said

  abbrev pub undo : List Task → List Task → List Task
  undo [] todo = todo
  undo (t ∷ done) todo = undo done (t ∷ todo)

  -- of which nothing is said yet: the tasks to do, but for one whose id was made
  abbrev pub tasks_behind : List Task → List Task
  tasks_behind [] = []
  tasks_behind (t ∷ ts) = ts

  abbrev pub ahead : List Birth → List Task → List Task
  ahead [] todo = todo
  ahead (b ∷ bs) todo = tasks_behind todo

  abbrev pub IsUntold : List (Option Outcome) → ℕ → Type 0
  IsUntold os o = slice_get os o ≡ Some None

  -- the call of the id was begun by this seat, and its word is stored or is to be stored next
  abbrev pub IsBegunBy : Mark → Birth → Task → Type 0
  IsBegunBy m b t = (t.op ≡ ops.Call b.asked) × (t.number ≡ b.asked.operation) × (In t m.done ⊎ ((ts : List Task) × (m.todo ≡ t ∷ ts) × (m.makes ≡ b ∷ [])))

  abbrev pub IsOwed : List Mark → Birth → Type 0
  IsOwed ms b = (j : ℕ) × (m : Mark) × At ms j m × (m.owes ≡ b ∷ [])

  -- of no operation two outcomes are said
  abbrev pub AreOnce : List Saying → Type 0
  AreOnce [] = Unit {0}
  AreOnce (s ∷ ss) = ((x : Outcome) → In (record { number = s.number; outcome = x }) ss → ⊥) × AreOnce ss

  -- a message that a task of client c was to send, behind these tasks, has no outcome, or one that has its cause
  abbrev pub QuietOf : Scene → List (Option Outcome) → ℕ → List Task → Task → Type 0
  QuietOf w os c before t = (n : ℕ) (bytes : List ℕ) → t.op ≡ ops.Send n bytes → IsUntold os t.number ⊎ ((x : Outcome) × Said w t.number x × WhyOwn p q clients gives w c before t.op x)

  abbrev pub AreQuiet : Scene → List (Option Outcome) → ℕ → List Task → Type 0
  AreQuiet w os c [] = Unit {0}
  AreQuiet w os c (t ∷ ts) = QuietOf w os c ts t × AreQuiet w os c ts

  -- with these outcomes, by what was said of them
  pub record TasksLaw (w : Scene) (os : List (Option Outcome)) (ss : List Saying) (ms : List Mark) : Type 0 where
    pub client : (j : ℕ) (m : Mark) → At ms j m → m.client ≡ j
    pub placed : (j : ℕ) (m : Mark) → At ms j m → undo m.done m.todo ≡ slice_index_or clients j []
    pub told : (j : ℕ) (m : Mark) → At ms j m → AreTold p q clients gives w m.client m.done
    pub quiet : (j : ℕ) (m : Mark) → At ms j m → AreQuiet w os m.client m.done
    -- each id is one of a call that a client began, and each word of a call is such an id
    pub begun : (b : Birth) → In b w.births → (j : ℕ) × (m : Mark) × (t : Task) × At ms j m × IsBegunBy m b t
    pub made : (j : ℕ) (m : Mark) (b : Birth) → At ms j m → m.makes ≡ b ∷ [] → In b w.births
    pub called : (o : ℕ) → o < q.operations → Begun p q clients gives w o → (b : Birth) × In b w.births × (b.id ≡ slice_index w.core.calls.words (call_index q o)) × (b.asked.operation ≡ o) × (j : ℕ) × (m : Mark) × (t : Task) × At ms j m × In t m.done × (t.op ≡ ops.Call b.asked) × (t.number ≡ o)
    -- what was said is there, and nothing else
    pub said : (o : ℕ) (x : Outcome) → In (record { number = o; outcome = x }) ss → slice_get os o ≡ Some (Some x)
    pub outcomes : (o : ℕ) (x : Outcome) → slice_get os o ≡ Some (Some x) → In (record { number = o; outcome = x }) ss
    pub once : AreOnce ss
    pub fresh : (j : ℕ) (m : Mark) (t : Task) → At ms j m → In t (ahead m.makes m.todo) → IsUntold os t.number
    -- of a range that hasn't ended nothing is said, and of one that has its outcome, or a seat is to say it
    pub untold : (b : Birth) → In b w.births → IsCurrent w b ⊎ IsOwed ms b → IsUntold os b.asked.operation
    pub ended : (b : Birth) → In b w.births → HasPassed w b → ((x : Outcome) × Said w b.asked.operation x × WhyEnded p q clients gives w b x) ⊎ IsOwed ms b
    pub owed : (j : ℕ) (m : Mark) (b : Birth) → At ms j m → m.owes ≡ b ∷ [] → In b w.births × HasPassed w b
    pub owed_once : (j l : ℕ) (m n : Mark) (b : Birth) → At ms j m → At ms l n → m.owes ≡ b ∷ [] → n.owes ≡ b ∷ [] → j ≡ l

  -- ## Claims and readings

  -- the tasks for which no slot was claimed yet
  abbrev pub unclaimed : Slot → List Birth → List Task → List Task
  unclaimed (Claims i c) bs todo = tasks_behind todo
  unclaimed other bs todo = ahead bs todo

  -- each slot that is taken was claimed for a call, and no call claims twice
  pub record ClaimsLaw (w : Scene) (ms : List Mark) : Type 0 where
    pub taken : (i : ℕ) → i < q.slots → tag_at w i ≢ 0 → (o : ℕ) × IsClaimed w i o
    pub calls : (c : Claim) → In c w.claims → (client : ℕ) × (t : Task) × (asked : Asked) × IsTaskOf p q clients gives client t × (t.op ≡ ops.Call asked) × (t.number ≡ c.operation)
    pub once : (a b : Claim) → In a w.claims → In b w.claims → a.operation ≡ b.operation → a ≡ b
    pub free : (j : ℕ) (m : Mark) (t : Task) → At ms j m → In t (unclaimed m.slot m.makes m.todo) → (i : ℕ) → IsClaimed w i t.number → ⊥

  pub record ReadsLaw (w : Scene) (ms : List Mark) : Type 0 where
    pub bytes : (j k : ℕ) (m : Mark) → At ms j m → m.link ≡ k ∷ [] → gave_in w.core k ≡ m.bytes
    pub tied : (j k : ℕ) (m : Mark) → At ms j m → m.link ≡ k ∷ [] → j ≡ 32 + k
    pub inside : (j k : ℕ) (m : Mark) → At ms j m → m.link ≡ k ∷ [] → k < length w.core.calls.gave

  -- ## What a step aside makes of them

  -- the call that was put into the home of a claimed slot
  abbrev pub put_of : Slot → List Asked
  put_of (Claims i (Some asked)) = asked ∷ []
  put_of other = []

  abbrev pub born_by : ℕ → List Asked → List Birth
  born_by id [] = []
  born_by id (asked ∷ more) = (record { id = id; asked = asked }) ∷ []

  abbrev pub ended_of : Slot → List Birth
  ended_of (Holds i f shape asked) = (record { id = call_id i f; asked = asked }) ∷ []
  ended_of other = []

  abbrev pub claimed_by : ℕ → List Task → List Claim
  claimed_by i [] = []
  claimed_by i (t ∷ ts) = (record { slot = i; operation = t.number }) ∷ []

  abbrev pub stored_by : List Task → Mark → Mark
  stored_by [] m = m
  stored_by (t ∷ ts) m = with_done t ts (with_made [] m)

  abbrev pub births_after : (step : Step) → Found step → Mark → List Birth → List Birth
  births_after (MakeId i range) found m bs = born_by (call_id i (parts found).first) (put_of m.slot) ++ bs
  births_after other found m bs = bs

  abbrev pub claims_after : (step : Step) → Found step → Mark → List Claim → List Claim
  claims_after (ClaimId i) found m cs = if found == 0 then claimed_by i m.todo ++ cs else cs
  claims_after other found m cs = cs

  abbrev pub mark_after : (step : Step) → Found step → Mark → Mark
  mark_after (ClaimId i) found m = if found == 0 then with_slot (Claims i None) m else m
  mark_after (PutCall i asked) found m = with_slot (put_in asked m.slot) m
  mark_after (MakeId i range) found m = with_made (born_by (call_id i (parts found).first) (put_of m.slot)) (with_slot NoSlot m)
  mark_after (StoreCall o id) found m = stored_by m.todo m
  mark_after (LockId i from) found m = if found == from then with_slot (Locked i (parts from).first (shape_of (parts from))) m else m
  mark_after (PostId i from e) found m = if found == from then (if (parts from).state == 1 then with_slot (Locked i (parts from).first (shape_of (parts from))) m else m) else m
  mark_after (UnlockId i from advance) found m = if found == from then (if (parts from).oldest == 0 then with_slot NoSlot m else with_slot (with_attempt (parts (unlocked_by from advance)).attempt m.slot) m) else m
  mark_after (EndId i) found m = with_owed (ended_of m.slot) (with_slot (Leaves i) m)
  mark_after (FreeId i) found m = with_slot NoSlot m
  mark_after (TakeCall i) found m = with_slot (taken_out found m.slot) m
  mark_after (TakeBytes k room) found m = given_more found m
  mark_after other found m = m

  -- w' is behind the step, which found this, as far as the table of ids, the links and what was said go
  pub record IsBehind (w w' : Scene) (m : Mark) (step : Step) (found : Found step) : Type 0 where
    pub words : w'.core.calls.words ≡ (calls_after step found w.core.calls).words
    pub homes : w'.core.calls.homes ≡ (calls_after step found w.core.calls).homes
    pub gave : w'.core.calls.gave ≡ (calls_after step found w.core.calls).gave
    pub births : w'.births ≡ births_after step found m w.births
    pub claims : w'.claims ≡ claims_after step found m w.claims
    pub advances : w'.advances ≡ advances_by step found w.core.calls ++ w.advances
    pub posts : w'.posts ≡ posts_by step found ++ w.posts
    pub decided : (d : Decision) → In d w.decisions → In d w'.decisions
    pub sayings : (s : Saying) → In s w.sayings → In s w'.sayings
    pub overs : (a b : Saying) → IsOver a b w.sayings → IsOver a b w'.sayings

  -- ## What the rule of the ids says of a step

  abbrev pub IsWordAt : Scene → ℕ → ℕ → Type 0
  IsWordAt w i found = (i < q.slots) × (parts found ≡ word_at w i)

  -- a slot with an id is taken, and a free one is free
  abbrev pub IsTakenWith : Scene → ℕ → Type 0
  IsTakenWith w i = (0 < (word_at w i).state → tag_at w i ≢ 0) × (tag_at w i ≡ 0 → (word_at w i).state ≡ 0)

  -- the second error waits behind the oldest
  abbrev pub HasOldest : ℕ → Type 0
  HasOldest found = 0 < (parts found).state → (parts found).oldest ≡ 0 → (parts found).second ≡ 0

  abbrev pub KnowsStep : Scene → (step : Step) → Found step → Type 0
  KnowsStep w (ClaimId i) found = (i < q.slots) × (found ≡ tag_at w i) × IsTakenWith w i
  KnowsStep w (PutCall i asked) found = i < q.slots
  KnowsStep w (MakeId i range) found = IsWordAt w i found × ((parts found).first ≤ 67108856) × (2 ≤ range) × (range ≤ 8)
  KnowsStep w (StoreCall o id) found = (o < q.operations) × (id ≢ 0)
  KnowsStep w (LoadCall o) found = (o < q.operations) × (found ≡ slice_index w.core.calls.words (call_index q o))
  KnowsStep w (StoreAt o x) found = o < q.operations
  KnowsStep w (LoadAt o) found = (o < q.operations) × (found ≡ slice_index w.core.calls.words (at_index q o))
  KnowsStep w (LoadIdWord i) found = IsWordAt w i found × HasOldest found
  KnowsStep w (LockId i from) found = IsWordAt w i found × ((parts from).state ≡ 1) × IsTakenWith w i
  KnowsStep w (PostId i from e) found = IsWordAt w i found × (((parts from).state ≡ 1) ⊎ (((parts from).state ≡ 2) × ((parts from).second ≡ 0))) × (e < 32768) × IsTakenWith w i × HasOldest found
  KnowsStep w (UnlockId i from advance) found = IsWordAt w i found × ((parts from).state ≡ 2) × ((parts from).attempt + bit advance ≤ 6) × ((asked : Asked) × LiesAt w i asked) × ((parts from).attempt + bit advance + 2 ≤ (parts from).range)
  KnowsStep w (EndId i) found = IsWordAt w i found
  KnowsStep w (FreeId i) found = i < q.slots
  KnowsStep w (TakeCall i) found = (i < q.slots) × LiesAt w i found
  KnowsStep w (TakeBytes k room) found = k < length w.core.calls.gave

  pub record CallStory (w : Scene) (ms : List Mark) : Type 0 where
    pub each : length ms ≡ length w.core.seats
    pub slots : SlotsLaw q w ms
    pub births : BirthsLaw w
    pub tasks : TasksLaw w w.core.outcomes w.sayings ms
    pub claims : ClaimsLaw w ms
    pub reads : ReadsLaw w ms
    pub seats : (j : ℕ) (seat : SeatState) (m : Mark) → get_elem? w.core.seats j ≡ core.some seat → At ms j m → SaysOn p q clients gives w m seat.program

  -- the story of a core, up to which ids took these errors, and these calls' attempts were advanced, each the latest first
  pub record HasStory (posted : List Post) (advanced : List ℕ) (c : Core) : Type 0 where
    pub scene : Scene
    pub marks : List Mark
    pub is : scene.core ≡ c
    pub shown : scene.advances ≡ advanced
    pub shown_posts : scene.posts ≡ posted
    pub story : CallStory scene marks

  -- it goes on from this scene, and seats decided on these errors up to its core
  pub record GoesOn (w : Scene) (decided : List Decision) (posted : List Post) (advanced : List ℕ) (c : Core) : Type 0 where
    pub has : HasStory posted advanced c
    pub shown_decisions : has.scene.decisions ≡ decided
    pub later : Later p q clients gives w has.scene
