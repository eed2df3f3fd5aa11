-- The cause of each outcome, as a report shows it.
use Rattle.std.specs.Prelude.{ℕ, ◌≡◌, ◌≢◌, ◌<◌, ◌⊎◌, List, take, count_by, slice_get, Some, Contains}
use Rattle.sock_words.specs.declared.outcome.Outcome.{Outcome}
use Rattle.sock_words.specs.declared.outcome.Outcome.TheVariants.{Opened, Unopened}
use Rattle.brpc_model.specs.Items.{Item, Open, Send, Call, Expire, Join, Fail, Hold, Drop, CallLine, is_open}
use Rattle.brpc_model.specs.Operations.{Operation, operations, slots, first_version}
use Rattle.brpc_model.specs.Run.{Run, IsOperation, HasOutcome, IsLinkOf, HasSocket, StandsAt}
use Rattle.brpc_model.specs.LinkFailureCauses.{Failing, FailingFor, MayFindNone, MayBeFull}
use Rattle.brpc_model.specs.Attempts.{attempt, IsAnsweredBy, FailedBy}
use Rattle.brpc_model.specs.Why.{Opening, Finding, Sending, Calling, Target}
use Rattle.brpc_model.specs.Why as why

-- ## Opening

-- the number of `open` lines before operation i, which is the number of its own link
abbrev pub opens_before : Run → ℕ → ℕ
opens_before run i = count_by (λ (op : Operation). is_open op.item) (take i (operations run.script))

-- each slot stands in an `open` outcome
abbrev pub EachSlotOpened : Run → Type 0
EachSlotOpened run = (slot : ℕ) → slot < slots run.script → (j version k : ℕ) × HasOutcome run j (Opened slot version k)

-- an `open` gets the link of its own line; where no slot is free there are more `open` lines than slots
abbrev pub opening_of : Run → ℕ → Opening
opening_of run i = record {
  link = opens_before run i;
  slots = slots run.script;
  first = first_version run.script;
  NoneFree = EachSlotOpened run × (slots run.script < count_by (λ (op : Operation). is_open op.item) (operations run.script));
}

-- ## Finding a socket

-- a life of a link of the name, of which this holds of its version, while the link was failing for this operation or the
-- run was ending
abbrev pub FoundFailed : Run → ℕ → List ℕ → (ℕ → Type 0) → Type 0
FoundFailed run i name P = (k j slot version : ℕ) × HasOutcome run j (Opened slot version k) × IsLinkOf run k name × P version
    × (FailingFor run i k ⊎ Contains run.late.operations i)

abbrev pub finding_of : Run → ℕ → Operation → List ℕ → Finding
finding_of run i op name = record {
  FoundNone = MayFindNone run op.client i name;
  FoundFailed = λ P. FoundFailed run i name P;
  HasSocket = HasSocket run name;
}

-- the message of a send is that of its first attempt
abbrev pub sending_of : Run → ℕ → Operation → List ℕ → Sending
sending_of run i op name = record {
  find = finding_of run i op name;
  WasFull = MayBeFull run;
  WasPlaced = λ k p. StandsAt run (attempt i 0) k p;
  WasDropped = λ k p. StandsAt run (attempt i 0) k p × Failing run k;
}

-- why a send has its outcome
abbrev pub SendCause : Run → ℕ → Operation → List ℕ → Outcome → Type 0
SendCause run i op name outcome = why.SendCause (sending_of run i op name) outcome

-- ## Giving back

-- operation h is the last `hold` of the name by the same client before operation i
pub record IsHoldBefore (run : Run) (i : ℕ) (op : Operation) (name : List ℕ) (h : ℕ) : Type 0 where
  pub before : h < i
  pub hold : Operation
  pub there : IsOperation run h hold
  pub own : hold.client ≡ op.client
  pub same : hold.item ≡ Hold name
  pub last : (j : ℕ) (other : Operation) → h < j → j < i → IsOperation run j other → other.client ≡ op.client → other.item ≢ Hold name

-- the hold before it has an outcome of which this holds
abbrev pub AfterHold : Run → ℕ → Operation → List ℕ → (Outcome → Type 0) → Type 0
AfterHold run i op name P = (h : ℕ) × (outcome : Outcome) × IsHoldBefore run i op name h × HasOutcome run h outcome × P outcome

-- ## Calls

-- the last attempt of a call is that of the story
abbrev pub calling_of : Run → ℕ → Operation → CallLine → Calling
calling_of run i op call = record {
  FoundNone = (name : List ℕ) → Some name ≡ slice_get call.names 0 → MayFindNone run op.client i name;
  IsAnswered = λ id P. IsAnsweredBy run call id P;
  HasFailed = λ id code. FailedBy run i call id code (attempt i (run.story.last i));
}

-- ## What is said of another call

-- operation t is the call `C.I`
abbrev pub IsTarget : Run → ℕ → ℕ → ℕ → Type 0
IsTarget run client number t = (call : Operation) × IsOperation run t call × (call.client ≡ client) × (call.number ≡ number)

-- the call had begun: it isn't `unopened`, and among the operations of this client it stands before
abbrev pub HasBegun : Run → ℕ → Operation → ℕ → ℕ → Type 0
HasBegun run i op client number = (t : ℕ) × IsTarget run client number t × (HasOutcome run t Unopened → ⊥) × (client ≡ op.client → t < i)

-- the call may not have begun: where it is one of this client's that stands before, it is `unopened`
abbrev pub MayNotHaveBegun : Run → ℕ → Operation → ℕ → ℕ → Type 0
MayNotHaveBegun run i op client number = (t : ℕ) → IsTarget run client number t → client ≡ op.client → t < i → HasOutcome run t Unopened

abbrev pub target_of : Run → ℕ → Operation → ℕ → ℕ → Target
target_of run i op client number = record {
  HasOutcome = λ outcome. (t : ℕ) × IsTarget run client number t × HasOutcome run t outcome;
  HasBegun = HasBegun run i op client number;
  MayNotHaveBegun = MayNotHaveBegun run i op client number;
}

-- ## Any operation

-- why an operation has its outcome; a `fail` fails a life of its name
abbrev pub Cause : Run → ℕ → Operation → Item → Outcome → Type 0
Cause run i op (Open name shape) outcome = why.OpenCause (opening_of run i) outcome
Cause run i op (Send name bytes) outcome = SendCause run i op name outcome
Cause run i op (Call call) outcome = why.CallCause (calling_of run i op call) outcome
Cause run i op (Expire client number) outcome = why.ExpireCause (target_of run i op client number) outcome
Cause run i op (Join client number) outcome = why.JoinCause (target_of run i op client number) outcome
Cause run i op (Fail name code) outcome = why.FailCause (finding_of run i op name) (HasSocket run name) outcome
Cause run i op (Hold name) outcome = why.HoldCause (finding_of run i op name) outcome
Cause run i op (Drop name) outcome = why.DropCause (λ P. AfterHold run i op name P) outcome
Cause run i op other outcome = ⊥
