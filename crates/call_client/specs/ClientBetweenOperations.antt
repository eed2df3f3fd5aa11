-- A client with calls between two operations, and what one operation of it comes to.
use Rattle.std.specs.Prelude.{◌≡◌, ℕ, ◌<◌, ◌≤◌, List, [], ◌∷◌, ◌++◌, length, Option, Some, None, All}
use Rattle.std.proofs.Common.{zero-le}
use Rattle.atomic_table.specs.Table.{Me}
use Rattle.atomic_table.specs.Seated.{TableId}
use Rattle.sock_io.specs.declared.link.Out.{Ghosts}
use Rattle.sock_io.specs.LinkHalves.{OutState}
use Rattle.sock_words.specs.declared.plain.Plan.{Plan}
use Rattle.sock_words.specs.declared.outcome.Outcome.{Outcome}
use Rattle.sock_words.specs.declared.outcome.Outcome.TheVariants.{Unopened}
use Rattle.sock_model.specs.declared.view.View.{View}
use Rattle.corr_core.specs.declared.marks.Plan as id_plan
use Rattle.message_parts.specs.declared.parcel.Parcel.TheVariants.{Message}
use Rattle.sock_rule.specs.declared.homes.Letter.{Letter}
use Rattle.sock_rule.specs.declared.homes.SockHome.{SockHome}
use Rattle.sock_table.specs.declared.passes.LinkPass.{LinkPass}
use Rattle.sock_table.specs.LinkPasses.{IsPass}
use Rattle.sock_message.specs.Asked.{name_of}
use Rattle.seat_programs.specs.declared.task.Op.{Op}
use Rattle.seat_programs.specs.declared.task.Op.TheVariants as ops
use Rattle.seat_programs.specs.declared.task.Task.{Task}
use Rattle.rpc_client.specs.declared.holding.Held.{Held}
use Rattle.rpc_client.specs.SeatBetweenOperations.{Idle}
use Rattle.rpc_client.specs.OpenOutcomes.{OpenedBy}
use Rattle.rpc_client.specs.HoldAndDropOutcomes.{IsHolder, HeldBy, DroppedBy}
use Rattle.rpc_client.specs.FailOutcomes.{FailedBy}
use Rattle.rpc_client.specs.AcceptedClientMessages.{OwnList}
use Rattle.call_errors.specs.ClientBooks.{CallStand, stand_of, HasNoLock}
use Rattle.call_errors.specs.ExpireAndJoinOutcomes.{ExpiredBy, JoinedBy}
use Rattle.call_attempts.specs.call_writes.specs.MessageFateBesideCalls.{SentCalling}
use Rattle.call_attempts.specs.declared.calling.Called.TheVariants as called
use Rattle.call_attempts.specs.ClientAtBothTables.{Both}
use Rattle.call_attempts.specs.CallBeginning.{CalledBy}
use Rattle.sock_model.specs.MessageLabels.{attempt_label}
use Rattle.call_client.specs.declared.caller.Caller.{Caller}

-- what a client has: its seat's view and homes in hand, the references that it keeps, the passes that are left, the next one last, and what it knows of calls
pub record Stand {O : Type 0} (g : Ghosts O) : Type 0 where
  pub me : Me (SockHome O g) View
  pub held : List Held
  pub passes : List (LinkPass O g)
  pub calls : CallStand

abbrev pub stand : {O : Type 0} {g : Ghosts O} → Caller O g → Stand g
stand c = record { me = c.seat.me; held = c.held.items; passes = c.passes.items; calls = stand_of c.calls }

abbrev pub both_of : {O : Type 0} {g : Ghosts O} → Stand g → Both
both_of s = record { socks = s.me.0; calls = s.calls }

-- the message of the send that is this operation
abbrev pub letter_of : ℕ → List ℕ → Letter
letter_of number bytes = record { bytes = Message bytes; label = attempt_label number 0; owner = 0; numbered = zero-le }

-- a client that made n operations: its seat of the sockets is idle but for the references that it keeps, and its seat of the ids has no lock
pub record MayGo {O : Type 0} {g : Ghosts O} (z : TableId) (p : Plan) (y : TableId) (n : ℕ) (c : Caller O g) : Type 0 where
  pub idle : Idle z p c.seat
  pub holder : IsHolder p c.held.items c.seat.me.0
  pub passes : All (IsPass z p) c.passes.items
  pub few : length c.held.items ≤ n
  -- of the messages that were accepted of it no more are in its list than it counts
  pub own : OwnList c.sent c.seat.me.0
  pub ids : HasNoLock y c.calls

-- what the tables must have for an operation of this number, and the client: a pass for an `open`, and for a `fail` a code from 1 to 4095
abbrev pub Needs : Plan → id_plan.Plan → ℕ → Op → ℕ → Type 0
Needs p q number (ops.Open n k) passes = (n < p.names) × (0 < passes)
Needs p q number (ops.Send n bytes) passes = n < p.names
Needs p q number (ops.Call asked) passes = (name_of asked 0 < p.names) × (asked.operation ≡ number) × (number < q.operations)
Needs p q number (ops.Expire t) passes = t < q.operations
Needs p q number (ops.Join t) passes = t < q.operations
Needs p q number (ops.Hold n) passes = n < p.names
Needs p q number (ops.Drop n) passes = n < p.names
Needs p q number (ops.Fail n code) passes = (n < p.names) × (1 ≤ code) × (code ≤ 4095)

-- an operation that the tables have
pub record MayMake (p : Plan) (q : id_plan.Plan) (t : Task) (passes : ℕ) : Type 0 where
  pub number : t.number < p.operations
  pub needs : Needs p q t.number t.op passes

-- an `open` of the next pass
pub record OpenedNext {O : Type 0} {g : Ghosts O} (p : Plan) (name number : ℕ) (by : Outcome) (old : List (LinkPass O g)) (m : Me (SockHome O g) View) (new : List (LinkPass O g)) (n : Me (SockHome O g) View) : Type 0 where
  pub pass : LinkPass O g
  pub next : old ≡ new ++ pass ∷ []
  pub opened : OpenedBy p name number pass.link by m n
  -- it leaves the lists of accepted messages
  pub lists : n.0.lists ≡ m.0.lists

-- what a client keeps in an operation that is none on a socket of its own
pub record KeepsOwn {O : Type 0} {g : Ghosts O} (s t : Stand g) : Type 0 where
  pub held : t.held ≡ s.held
  pub passes : t.passes ≡ s.passes

-- by what it does, with its outcome: none of a send that was accepted, and of a call that has begun
abbrev pub Acted : {O : Type 0} {g : Ghosts O} → (O → OutState) → Plan → id_plan.Plan → ℕ → Op → Option Outcome → Stand g → Stand g → Type 0
Acted state p q number (ops.Open n k) (Some by) s t = OpenedNext p n number by s.passes s.me t.passes t.me × (t.held ≡ s.held) × (t.calls ≡ s.calls)
Acted state p q number (ops.Send n bytes) by s t = SentCalling state p q.slots n (letter_of number bytes) by s.me.0 s.calls t.me.0 t.calls × KeepsOwn s t
Acted state p q number (ops.Call asked) (Some Unopened) s t = CalledBy state p q asked called.Unopened (both_of s) (both_of t) × KeepsOwn s t
Acted state p q number (ops.Call asked) None s t = (id : ℕ) × CalledBy state p q asked (called.Begun id) (both_of s) (both_of t) × KeepsOwn s t
Acted state p q number (ops.Expire of) (Some by) s t = ExpiredBy q of by s.calls t.calls × (t.me ≡ s.me) × KeepsOwn s t
Acted state p q number (ops.Join of) (Some by) s t = JoinedBy q of by s.calls t.calls × (t.me ≡ s.me) × KeepsOwn s t
Acted state p q number (ops.Hold n) (Some by) s t = HeldBy p n by s.held s.me.0 t.held t.me.0 × (t.passes ≡ s.passes) × (t.calls ≡ s.calls)
Acted state p q number (ops.Drop n) (Some by) s t = DroppedBy n by s.held s.me.0 t.held t.me.0 × (t.passes ≡ s.passes) × (t.calls ≡ s.calls)
Acted state p q number (ops.Fail n code) (Some by) s t = FailedBy p n code by s.me.0 t.me.0 × KeepsOwn s t × (t.calls ≡ s.calls)
Acted state p q number _ _ s t = ⊥
