-- The steps of a service: bytes that are put whole, and a piece that is answered.
use Rattle.std.specs.Prelude.{ℕ, ◌≡◌, ◌+◌, ◌≤◌, true, false, List, [], ◌∷◌, ◌++◌, length, reverse, All, IfSome, Result, Ok, Err, OnOk, OnErr}
use Rattle.std.specs.Io.KnownBytes.{append_known}
use Rattle.brpc_model.specs.Reply.{replies}
use Rattle.rpc_server.specs.HeldByConnection.{Held}
use Rattle.sock_io.specs.declared.link.OpenFault.{OpenFault}
use Rattle.sock_io.specs.declared.link.OpenFault.TheVariants as open_
use Rattle.sock_io.specs.declared.stream.Failed.{Failed}
use Rattle.sock_io.specs.FaultCauses.{Rose}
use Rattle.sock_io.specs.LinkHalves.{OutState, InState, LinkerState, end_of}
use Rattle.loop_link.specs.ServingFedBytes.{Goes}
use Rattle.serve_port.specs.declared.service.ServiceEnd.{ServiceEnd}
use Rattle.serve_port.specs.declared.service.ServiceEnd.TheVariants as end_
use Rattle.serve_port.specs.declared.connection.Connection.{Connection}
use Rattle.serve_port.specs.declared.tally.Tally.{Tally}
use Rattle.serve_port.specs.ServingConnections.{ServedConnection, Serves, any_failing, any_faulty, all_whole, frames_of}

-- ## Putting

-- a beginning of these bytes was put: all of them, or a put or the wait for one failed
pub record Puts (old new : OutState) (bytes : List ℕ) (result : Result (Unit {0}) Failed) : Type 0 where
  pub part : List ℕ
  pub left : List ℕ
  pub begins : part ++ left ≡ bytes
  pub took : new.took ≡ append_known old.took part
  pub finished : new.finished ≡ old.finished
  pub whole : OnOk result ((left ≡ []) × (new.faults ≡ old.faults))
  pub failed : OnErr result (Rose old.faults new.faults)

-- ## A piece

-- why the service goes on or ends behind a piece
abbrev pub GoesOn : OutState → Held → List ℕ → Result (Unit {0}) ServiceEnd → OutState → Held → (left : List ℕ) → Type 0
GoesOn out c piece (Ok _) out' c' left = Goes c piece c' [] (replies (c.bytes ++ piece)) false × (left ≡ []) × (out'.faults ≡ out.faults)
GoesOn out c piece (Err end_.AtFault) out' c' left = Goes c piece c' [] (replies (c.bytes ++ piece)) true × (left ≡ []) × (out'.faults ≡ out.faults)
GoesOn out c piece (Err end_.PutFailed) out' c' left = Rose out.faults out'.faults
GoesOn out c piece (Err end_.NoMemory) out' c' left = out'.faults ≡ out.faults
GoesOn out c piece (Err other) out' c' left = ⊥

-- a piece was fed, and a beginning of the replies to what became whole was put
pub record AnswersPiece (out : OutState) (c : Held) (piece : List ℕ) (result : Result (Unit {0}) ServiceEnd) (out' : OutState) (c' : Held) : Type 0 where
  pub part : List ℕ
  pub left : List ℕ
  pub begins : part ++ left ≡ replies (c.bytes ++ piece)
  pub took : out'.took ≡ append_known out.took part
  pub finished : out'.finished ≡ out.finished
  pub goes : GoesOn out c piece result out' c' left

-- ## Connections

-- a connection, with how its service ended
abbrev pub as_served : {O I : Type 0} → (O → OutState) → (I → InState) → Connection O I → ServedConnection
as_served out inn c = record { service = c.service; connection = end_of (out c.out) (inn c.inn) }

-- its writing half was finished
abbrev pub IsFinished : {O I : Type 0} → (O → OutState) → Connection O I → Type 0
IsFinished out c = (out c.out).finished ≡ true

pub record HasServed {O I : Type 0} (out : O → OutState) (inn : I → InState) (c : Connection O I) : Type 0 where
  pub serves : Serves c.service (end_of (out c.out) (inn c.inn))
  pub finished : IsFinished out c

-- so many were to be accepted and all were; or an accept failed by the count of faults; or memory ran out
abbrev pub AcceptedBy : (count accepted before now : ℕ) → Result (Unit {0}) OpenFault → Type 0
AcceptedBy count accepted before now (Ok _) = (accepted ≡ count) × (now ≡ before)
AcceptedBy count accepted before now (Err open_.Failed) = Rose before now
AcceptedBy count accepted before now (Err open_.NoMemory) = now ≡ before

-- These were accepted, in this order, and served, and stand behind those that were kept before, the last one first.
pub record AcceptsRest {G : Type 0} (served : G → Type 0) (count : ℕ) (old new : LinkerState) (kept kept' : List G) (result : Result (Unit {0}) OpenFault) : Type 0 where
  pub news : List G
  pub stacked : kept' ≡ kept ++ reverse news
  pub few : length news ≤ count
  pub each : All served news
  pub links : new ≡ record old { accepted = old.accepted + length news; faults = new.faults }
  pub answer : AcceptedBy count (length news) old.faults new.faults result

-- one was served beside these, and stands behind them
pub record AcceptsBeside {G : Type 0} (served : G → Type 0) (count : ℕ) (old new : LinkerState) (kept kept' : List G) (result : Result (Unit {0}) OpenFault) : Type 0 where
  pub guest : G
  pub stack : List G
  pub is_served : served guest
  pub last : kept' ≡ stack ++ guest ∷ []
  pub others : AcceptsRest served count old new kept stack result

-- what the services of these connections come to; no number where the replies are more than are counted
pub record IsTally (served : List ServedConnection) (t : Tally) : Type 0 where
  pub frames : IfSome t.frames (λ n. n ≡ frames_of served)
  pub failing : t.failing ≡ any_failing served
  pub faulty : t.faulty ≡ any_faulty served
  pub whole : t.whole ≡ all_whole served
