-- A client's run: its operations one after the other, before each of them and behind the last the retries that wait, and what it gives back in the end.
use Rattle.std.specs.Prelude.{◌≡◌, ◌≢◌, ℕ, zero, suc, ◌-◌, ◌≤◌, Bool, true, false, cond, List, [], ◌∷◌, ◌++◌, Option, Some, All, length, drop}
use mathlib.Core.Option.{some}
use lib.ListN.{get_elem?}
use Rattle.sock_io.specs.declared.link.Out.{Ghosts}
use Rattle.sock_io.specs.LinkHalves.{OutState}
use Rattle.sock_words.specs.declared.plain.Plan.{Plan}
use Rattle.sock_words.specs.declared.outcome.Outcome.{Outcome}
use Rattle.sock_words.specs.declared.outcome.Outcome.TheVariants.{Unopened}
use Rattle.sock_model.specs.SocketTableLayout.{name_index}
use Rattle.corr_core.specs.declared.marks.Plan as id_plan
use Rattle.sock_table.specs.NamesStoredAndFound.{HasSeen}
use Rattle.sock_table.specs.declared.passes.LinkPass.{LinkPass}
use Rattle.sock_message.specs.Asked.{Asked, name_of}
use Rattle.seat_programs.specs.declared.task.Op.{Op}
use Rattle.seat_programs.specs.declared.task.Op.TheVariants as ops
use Rattle.seat_programs.specs.declared.task.Task.{Task}
use Rattle.rpc_client.specs.declared.acting.Told.{Told}
use Rattle.rpc_client.specs.OpenOutcomes.{GotNone}
use Rattle.rpc_client.specs.ToldOfOperation.{finds_name, telling, GaveFirst}
use Rattle.call_errors.specs.ClientBooks.{stand_of}
use Rattle.call_errors.specs.Starving.{StarvedBy}
use Rattle.call_attempts.specs.declared.calling.Called.TheVariants as called
use Rattle.call_attempts.specs.ClientAtBothTables.{wanting}
use Rattle.call_attempts.specs.CallBeginning.{CalledBy, WantedBy}
use Rattle.call_attempts.specs.WaitingRetries.{RetriedAll, RanOut}
use Rattle.call_client.specs.declared.caller.Caller.{Caller}
use Rattle.call_client.specs.ClientBetweenOperations.{Stand, stand, both_of, KeepsOwn, MayMake, Acted}

-- the name to which an operation goes; of another call none is asked
abbrev pub names_in : Op → List ℕ
names_in (ops.Open n k) = n ∷ []
names_in (ops.Send n bytes) = n ∷ []
names_in (ops.Call asked) = name_of asked 0 ∷ []
names_in (ops.Expire of) = []
names_in (ops.Join of) = []
names_in (ops.Hold n) = n ∷ []
names_in (ops.Drop n) = n ∷ []
names_in (ops.Fail n code) = n ∷ []

-- where a run has come: what the client has, what it told of its operations, and the names that it opened or found
pub record Course {O : Type 0} (g : Ghosts O) : Type 0 where
  pub has : Stand g
  pub told : List Told
  pub names : List ℕ

module _ {O : Type 0} {g : Ghosts O} (state : O → OutState) (p : Plan) (q : id_plan.Plan) where
  -- the retries that waited were made, the oldest first, until none did
  pub record RetriedHere (s t : Stand g) : Type 0 where
    pub all : RetriedAll state p q (both_of s) (both_of t)
    pub own : KeepsOwn s t

  -- the operation behind others, and its outcome: `unopened` only where none of those opened or found the name
  pub record Made (x : Task) (s t : Course g) : Type 0 where
    pub ready : Stand g
    pub retried : RetriedHere s.has ready
    pub by : Option Outcome
    pub acted : Acted state p q x.number x.op by ready t.has
    pub told : t.told ≡ s.told ++ telling x.number by
    pub names : t.names ≡ cond (finds_name by) (names_in x.op ++ s.names) s.names
    pub first : by ≡ Some Unopened → All (λ n. All (λ m. m ≢ n) s.names) (names_in x.op)

  -- the first n operations, each behind the one before
  abbrev pub Ran : List Task → ℕ → Course g → Course g → Type 0
  Ran xs zero s t = t ≡ s
  Ran xs (suc n) s t = (u : Course g) × (x : Task) × Ran xs n s u × (get_elem? xs n ≡ some x) × Made x u t

  -- the call that was to be made next didn't begin, or ended by want of memory; or each id slot was found taken
  pub data NotCalled (asked : Asked) (s t : Stand g) : Type 0 where
    for_memory : WantedBy state p q asked (both_of s) (both_of t) → NotCalled asked s t
    for_slots : CalledBy state p q asked called.NoSlot (both_of s) (both_of t) → NotCalled asked s t

  -- why no operation is made behind the first n: there is no room for what more of them would tell, hold or send; memory was wanting while retries were made; or the next call wasn't made
  pub data Stops (xs : List Task) (n : ℕ) (s t : Stand g) : Type 0 where
    without_room : t ≡ record s { calls = wanting s.calls } → Stops xs n s t
    while_retrying : (sent : ℕ) → RanOut state p q sent (both_of s) (both_of t) → KeepsOwn s t → Stops xs n s t
    while_calling : (r : Stand g) (number : ℕ) (asked : Asked) → RetriedHere s r → get_elem? xs n ≡ some (record { number = number; op = ops.Call asked }) → NotCalled asked r t → KeepsOwn r t → Stops xs n s t

-- a client that did nothing yet
abbrev pub begins : {O : Type 0} {g : Ghosts O} → Caller O g → Course g
begins c = record { has = stand c; told = c.outcomes.items; names = [] }

-- a client has come from there to here by its first n operations, and knows the names that it opened or found
pub record RanTo {O : Type 0} {g : Ghosts O} (state : O → OutState) (p : Plan) (q : id_plan.Plan) (xs : List Task) (n : ℕ) (c d : Caller O g) : Type 0 where
  pub names : List ℕ
  pub ran : Ran state p q xs n (begins c) record { has = stand d; told = d.outcomes.items; names = names }
  pub known : All (λ x. HasSeen (name_index p x) d.seat.me.0) names

-- how many passes are left behind an operation
abbrev pub left_by : Op → ℕ → ℕ
left_by (ops.Open n k) passes = passes - 1
left_by _ passes = passes

-- each operation is one that the tables have, and there is one pass for each `open`
abbrev pub MayMakeAll : Plan → id_plan.Plan → List Task → ℕ → Type 0
MayMakeAll p q [] passes = passes ≡ 0
MayMakeAll p q (x ∷ xs) passes = MayMake p q x passes × MayMakeAll p q xs (left_by x.op passes)

-- an operation that isn't made any more: an `open` gets no socket, and its pass is spent
abbrev pub LeftBy : {O : Type 0} {g : Ghosts O} → Plan → ℕ → Op → Stand g → Stand g → Type 0
LeftBy {O} {g} p number (ops.Open n k) s t = (pass : LinkPass O g) × (s.passes ≡ t.passes ++ pass ∷ []) × GotNone p number pass.link s.me t.me × (t.held ≡ s.held) × (t.calls ≡ s.calls)
LeftBy p number _ s t = t ≡ s

-- these operations were left like that
abbrev pub LeftAll : {O : Type 0} {g : Ghosts O} → Plan → List Task → Stand g → Stand g → Type 0
LeftAll p [] s t = t ≡ s
LeftAll {O} {g} p (x ∷ xs) s t = (u : Stand g) × LeftBy p x.number x.op s u × LeftAll p xs u t

-- behind the operations that were made: all of them, and then the retries that waited; or memory was wanting, and each call whose retry waited was ended by that
abbrev pub EndsBy : {O : Type 0} {g : Ghosts O} → (O → OutState) → Plan → id_plan.Plan → (short : Bool) → List Task → ℕ → Stand g → Stand g → Type 0
EndsBy state p q false xs n s t = (n ≡ length xs) × RetriedHere state p q s t
EndsBy {O} {g} state p q true xs n s t = (u : Stand g) × Stops state p q xs n s u × StarvedBy q.slots u.calls t.calls × (t.me ≡ u.me) × KeepsOwn u t

-- the first operations were made, the rest were left, and then all references were given back; `short` tells whether memory was wanting
pub record RunBy {O : Type 0} {g : Ghosts O} (state : O → OutState) (p : Plan) (q : id_plan.Plan) (short : Bool) (xs : List Task) (c d : Caller O g) : Type 0 where
  pub made : ℕ
  pub few : made ≤ length xs
  pub came : Caller O g
  pub ran : RanTo state p q xs made c came
  pub told : d.outcomes ≡ came.outcomes
  pub last : Stand g
  pub ends : EndsBy state p q short xs made (stand came) last
  pub end : Stand g
  pub left : LeftAll p (drop made xs) last end
  pub given : GaveFirst end.held (length end.held) end.me.0 d.seat.me.0
  pub calls : stand_of d.calls ≡ end.calls
