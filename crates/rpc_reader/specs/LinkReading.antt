-- A reading, from its first take to its end.
use Rattle.std.specs.Prelude.{◌≡◌, ◌+◌, ◌<◌, ◌≤◌, ℕ, Bool, true, List, [], ◌∷◌, ◌++◌, length, Option, Some, None}
use Rattle.sock_words.specs.ErrorCodes.{EEOF, EINTERNAL, ERESPONSE}
use Rattle.brpc_model.specs.Frame.{FrameFault, NoneYet, Faulty, judged}
use Rattle.sock_io.specs.LinkHalves.{InState, TakeStep}
use Rattle.sock_io.specs.declared.link.Take.{Take}
use Rattle.sock_io.specs.declared.link.Take.TheVariants as take_
use Rattle.rpc_reader.specs.declared.reading.How.{How}
use Rattle.rpc_reader.specs.declared.reading.How.TheVariants as how
use Rattle.rpc_reader.specs.declared.reading.Intake.{Intake}
use Rattle.rpc_reader.specs.declared.cutting.Stop.{Stop}
use Rattle.rpc_reader.specs.declared.cutting.Stop.TheVariants as stop
use Rattle.rpc_reader.specs.ReaderBooks.{Books}
use Rattle.rpc_reader.specs.Met.{MetAll}
use Rattle.rpc_reader.specs.ReadingTakeByTake.{Took, Takes, GoOn, goes_on, piece_of, bytes_of}

-- the most bytes that are read from a link
abbrev pub LIMIT : ℕ
LIMIT = 16777216

-- the bytes that a cutter holds
abbrev pub held_by : Intake → List ℕ
held_by i = i.cutter.bytes

-- none of the bytes that are left is a whole frame; or they have a fault; or memory was wanting
abbrev pub StopsAt : Stop → List ℕ → Type 0
StopsAt stop.Waits left = judged left ≡ NoneYet
StopsAt stop.Fault left = (fault : FrameFault) × (judged left ≡ Faulty fault)
StopsAt stop.NoMemory left = Unit {0}

-- why it ended behind a piece: the limit, a fault, or want of memory
abbrev pub EndsFed : How → List ℕ → ℕ → Type 0
EndsFed how.Limit left total = (total ≡ LIMIT) × (judged left ≡ NoneYet)
EndsFed how.Fault left total = (fault : FrameFault) × (judged left ≡ Faulty fault)
EndsFed how.NoMemory left total = Unit {0}
EndsFed _ left total = ⊥

-- why it ended, by what the last take answered, the bytes behind the last frame, and how many bytes came
abbrev pub EndsBy : Bool → How → Take → List ℕ → ℕ → Type 0
EndsBy ending how.End answer left total = (answer ≡ take_.End) × (judged left ≡ NoneYet)
EndsBy ending how.Closed answer left total = (answer ≡ take_.Closed) × (judged left ≡ NoneYet)
EndsBy ending how.Failed answer left total = (answer ≡ take_.Failed) × (judged left ≡ NoneYet)
EndsBy ending how.Empty answer left total = (answer ≡ take_.Empty) × (ending ≡ true) × (judged left ≡ NoneYet)
EndsBy ending how.Limit answer left total = EndsFed how.Limit left total
EndsBy ending how.Fault answer left total = EndsFed how.Fault left total
EndsBy ending how.NoMemory answer left total = EndsFed how.NoMemory left total

-- the code with which it ended
abbrev pub code_of : How → ℕ
code_of how.Fault = ERESPONSE
code_of how.NoMemory = EINTERNAL
code_of _ = EEOF

-- the frames with which these bytes begin were met: more is to be taken behind what the cutter holds, or the reading has ended
abbrev pub HeldMet : ℕ → List ℕ → Option How → Intake → Books → Books → Type 0
HeldMet slots bytes None i b b' = MetAll slots bytes (held_by i) b b' × (judged (held_by i) ≡ NoneYet) × (i.total < LIMIT)
HeldMet slots bytes (Some how) i b b' = (left : List ℕ) × MetAll slots bytes left b b' × EndsFed how left i.total

-- the same behind a piece that was fed
abbrev pub FedIn : ℕ → List ℕ → Option How → Intake → Intake → Books → Books → Type 0
FedIn slots piece result i i' b b' = HeldMet slots (held_by i ++ piece) result i' b b'

-- the same of a take, by what it answered
abbrev pub TookIn : ℕ → Bool → Take → List ℕ → Option How → Intake → Intake → Books → Books → Type 0
TookIn slots ending answer piece None i i' b b' = MetAll slots (held_by i ++ piece) (held_by i') b b' × (judged (held_by i') ≡ NoneYet) × (i'.total < LIMIT) × (goes_on ending answer ≡ true)
TookIn slots ending answer piece (Some how) i i' b b' = (left : List ℕ) × MetAll slots (held_by i ++ piece) left b b' × EndsBy ending how answer left i'.total

-- one take, and the frames that became whole by it
pub record ReadOnce (slots : ℕ) (ending : Bool) (result : Option How) (s t : InState) (i i' : Intake) (b b' : Books) : Type 0 where
  pub last : Took
  pub step : TakeStep s t last.room last.answer
  pub total : i'.total ≡ i.total + length (piece_of last)
  pub few : i'.total ≤ LIMIT
  pub by : TookIn slots ending last.answer (piece_of last) result i i' b b'

-- where a reading has come: the takes so far, and all frames of their bytes
pub record ReadOn (slots : ℕ) (ending : Bool) (s t : InState) (i : Intake) (b b' : Books) : Type 0 where
  pub takes : List Took
  pub on : GoOn ending takes
  pub steps : Takes takes s t
  pub total : i.total ≡ length (bytes_of takes)
  pub met : MetAll slots (bytes_of takes) (held_by i) b b'
  pub waits : judged (held_by i) ≡ NoneYet
  pub below : i.total < LIMIT

-- a whole reading: it went on behind each take but the last
pub record ReadBy (slots : ℕ) (ending : Bool) (how : How) (s t : InState) (total : ℕ) (b b' : Books) : Type 0 where
  pub earlier : List Took
  pub on : GoOn ending earlier
  pub last : Took
  pub steps : Takes (earlier ++ last ∷ []) s t
  pub left : List ℕ
  pub met : MetAll slots (bytes_of (earlier ++ last ∷ [])) left b b'
  pub all : total ≡ length (bytes_of (earlier ++ last ∷ []))
  pub few : total ≤ LIMIT
  pub ends : EndsBy ending how last.answer left total
