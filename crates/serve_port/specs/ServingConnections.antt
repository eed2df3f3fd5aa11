-- What it is to serve connections.
use Rattle.std.specs.Prelude.{ℕ, ◌≡◌, ◌+◌, ◌<◌, ◌≤◌, ◌++◌, Bool, true, false, List, length, map, sum, All, IfSome, Result, Ok, Err}
use Rattle.std.specs.List.{list_all, list_any}
use Rattle.brpc_model.specs.LinkFailureCauses.{reading_limit}
use Rattle.brpc_model.specs.Reply.{reply_frames, replies}
use Rattle.brpc_model.specs.ReturnedLink.{LinkEnd}
use Rattle.rpc_server.specs.Feeding.{has_fault}
use Rattle.sock_io.specs.FaultCauses.{Rose}
use Rattle.sock_io.specs.LinkHalves.{OutState, InState, LinkerState, end_of}
use Rattle.serve_port.specs.declared.service.Service.{Service}
use Rattle.serve_port.specs.declared.service.ServiceEnd.{ServiceEnd}
use Rattle.serve_port.specs.declared.service.ServiceEnd.TheVariants as end_
use Rattle.serve_port.specs.declared.service.ServeFault.{ServeFault}
use Rattle.serve_port.specs.declared.service.ServeFault.TheVariants as fault_

-- ## A connection

-- what was put are the replies to all that came, and so many they are
pub record AllAnswered (came put : List ℕ) (frames : ℕ) : Type 0 where
  pub put_is : put ≡ replies came
  pub frames_are : frames ≡ length (reply_frames came)

-- neither half failed
pub record NoneFailed (c : LinkEnd) : Type 0 where
  pub puts : c.put_faults ≡ 0
  pub takes : c.take_faults ≡ 0

-- why its service ended: what came before a fault was answered in each case but where a put failed or memory ran out
abbrev pub EndsBy : ServiceEnd → (came put : List ℕ) → (frames : ℕ) → LinkEnd → Type 0
EndsBy end_.AtEnd came put frames c = AllAnswered came put frames × (has_fault came ≡ false) × (c.gave_end ≡ true) × NoneFailed c
EndsBy end_.AtLimit came put frames c = AllAnswered came put frames × (has_fault came ≡ false) × (length came ≡ reading_limit) × NoneFailed c
EndsBy end_.AtFault came put frames c = AllAnswered came put frames × (has_fault came ≡ true) × NoneFailed c
EndsBy end_.TakeFailed came put frames c = AllAnswered came put frames × (has_fault came ≡ false) × (0 < c.take_faults) × (c.put_faults ≡ 0)
EndsBy end_.PutFailed came put frames c = (0 < c.put_faults) × (c.take_faults ≡ 0)
EndsBy end_.NoMemory came put frames c = NoneFailed c

-- A connection that was served: these bytes came, no more than are read of one, and these were put, which is what it gave and took where it tells
-- that. What was put is a beginning of the replies to what came.
pub record Serves (s : Service) (c : LinkEnd) : Type 0 where
  pub came : List ℕ
  pub put : List ℕ
  pub left : List ℕ
  pub gave : IfSome c.gave (λ bytes. bytes ≡ came)
  pub count : c.gave_count ≡ length came
  pub few : length came ≤ reading_limit
  pub took : IfSome c.took (λ bytes. bytes ≡ put)
  pub begins : put ++ left ≡ replies came
  pub ended : EndsBy s.end came put s.frames c

-- ## All connections

-- how the service of a connection ended, and the connection
pub record ServedConnection : Type 0 where
  pub service : Service
  pub connection : LinkEnd

abbrev pub IsServed : ServedConnection → Type 0
IsServed s = Serves s.service s.connection

-- a put or a take failed
abbrev pub is_failing : ServiceEnd → Bool
is_failing end_.PutFailed = true
is_failing end_.TakeFailed = true
is_failing other = false

-- the bytes went on with no frame
abbrev pub is_faulty : ServiceEnd → Bool
is_faulty end_.AtFault = true
is_faulty other = false

-- all was read, or the most that is read
abbrev pub is_whole : ServiceEnd → Bool
is_whole end_.AtEnd = true
is_whole end_.AtLimit = true
is_whole other = false

abbrev pub any_failing : List ServedConnection → Bool
any_failing served = list_any (λ (s : ServedConnection). is_failing s.service.end) served

abbrev pub any_faulty : List ServedConnection → Bool
any_faulty served = list_any (λ (s : ServedConnection). is_faulty s.service.end) served

abbrev pub all_whole : List ServedConnection → Bool
all_whole served = list_all (λ (s : ServedConnection). is_whole s.service.end) served

-- how many frames had replies in all
abbrev pub frames_of : List ServedConnection → ℕ
frames_of served = sum (map (λ (s : ServedConnection). s.service.frames) served)

-- ## Finished

-- halves that ended so, of which the writing half was finished; a connection that was given back doesn't tell that itself
pub record IsEndOfFinished {O I : Type 0} (out_of : O → OutState) (in_of : I → InState) (c : LinkEnd) : Type 0 where
  pub out : O
  pub inn : I
  pub is_end : c ≡ end_of (out_of out) (in_of inn)
  pub finished : (out_of out).finished ≡ true

-- each connection that was given back meanwhile was finished first
pub record GivesBackFinished {O I : Type 0} (out_of : O → OutState) (in_of : I → InState) (old new : LinkerState) : Type 0 where
  pub given : List LinkEnd
  pub last : new.done ≡ old.done ++ given
  pub each : All (IsEndOfFinished out_of in_of) given

-- ## The answer

-- What serving so many connections answers, with the linker's count of faults before and now: the number of replies where each was served whole; that
-- an accept failed, by that count; else that a put or a take of a connection failed; else that one met a frame fault; else want of memory.
abbrev pub AnswersBy : (count before now : ℕ) → List ServedConnection → Result ℕ ServeFault → Type 0
AnswersBy count before now served (Ok frames) = (length served ≡ count) × (all_whole served ≡ true) × (frames ≡ frames_of served) × (now ≡ before)
AnswersBy count before now served (Err fault_.AcceptFailed) = Rose before now
AnswersBy count before now served (Err fault_.ConnectionFailed) = (any_failing served ≡ true) × (now ≡ before)
AnswersBy count before now served (Err fault_.FaultyFrame) = (any_failing served ≡ false) × (any_faulty served ≡ true) × (now ≡ before)
AnswersBy count before now served (Err fault_.NoMemory) = (any_failing served ≡ false) × (any_faulty served ≡ false) × (now ≡ before)

-- Of so many connections these were accepted, in this order; each was served, and all were given back, in the same order. Of the links nothing changed.
pub record ServesConnections (count : ℕ) (old new : LinkerState) (result : Result ℕ ServeFault) : Type 0 where
  pub served : List ServedConnection
  pub few : length served ≤ count
  pub each : All IsServed served
  pub links : new ≡ record old { accepted = old.accepted + length served; done = old.done ++ map (λ (s : ServedConnection). s.connection) served; faults = new.faults }
  pub answer : AnswersBy count old.faults new.faults served result
