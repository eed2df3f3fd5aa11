-- Where the statuses 3 and 6 of `replay`, `sim` and `run` come: exactly where the bytes that came say so, unless memory ran out, the source
-- failed, or more came than a script may have, before.
use Rattle.std.proofs.Common.{◌≡◌, ◌≢◌, ℕ, ◌<◌, ◌⊎◌, inl, inr, List, length, Ok, Err, sym, ◌∙◌, arith}
use Rattle.brpc_model.specs.Items.{Item}
use Rattle.brpc_model.specs.Operations.{Turn}
use Rattle.brpc_model.specs.Script.{script_of}
use Rattle.sock_io.specs.declared.link.Mode.{Mode}
use Rattle.brpc_eng.specs.WholeSourceRead.{script_limit, IsAtEnd}
use Rattle.brpc_eng.specs.ProgramAnswers.{HaveRisen, Input, Output, Links, TextWritten, Ran, Reported, MemoryRanOut, OpenFailed, RanOnThreads, ThreadsReported, ThreadsRanOut, ThreadsNotOpened, ScriptEnd, by_turns, FaultWritten, Replayed, RanScript, FaultyScript, SourceFailed, TooLong, NoMemory, ReplayedInput}

-- ## What each way of ending says of the bytes that came

abbrev IsRun : ℕ → Type 0
IsRun status = (status ≡ 0) ⊎ (status ≡ 5) ⊎ (status ≡ 7) ⊎ (status ≡ 8)

pub data Ends (input : Input) (bytes : List ℕ) (status : ℕ) : Type 0 where
  WasRun : IsAtEnd input.left → (script : List Item) → script_of bytes ≡ Ok script → IsRun status → Ends input bytes status
  WasFaulty : IsAtEnd input.left → (line kind : ℕ) → script_of bytes ≡ Err (line, kind) → (status ≡ 3) ⊎ (status ≡ 7) → Ends input bytes status
  WasCut : status ≡ 4 → HaveRisen input.faults → Ends input bytes status
  WasLong : status ≡ 6 → script_limit < length bytes → Ends input bytes status
  RanOut : status ≡ 7 → Ends input bytes status

-- where a script was read, another status than that of a run doesn't come
abbrev pub AreRuns : ScriptEnd → Type 1
AreRuns ran = (script : List Item) (out : Output) (links : Links) (status : ℕ) → ran script out links status → IsRun status

is_written : (out : Output) (text : List ℕ) (status : ℕ) → TextWritten out text status → IsRun status
is_written out text status (inl w) = inl w.0
is_written out text status (inr w) = inr (inl w.0)

is_run : (turns : List Turn) (script : List Item) (out : Output) (links : Links) (status : ℕ) → Ran turns script out links status → IsRun status
is_run turns script out links status (Reported text fits of_run wrote) = is_written out text status wrote
is_run turns script out links status (MemoryRanOut s wrote) = inr (inr (inl s))
is_run turns script out links status (OpenFailed s rose back wrote) = inr (inr (inr s))

pub turns_run : (turns : List Item → List Turn) → AreRuns (by_turns turns)
turns_run turns script out links status ran = is_run (turns script) script out links status ran

pub threads_run : (mode : Mode) → AreRuns (RanOnThreads mode)
threads_run mode script out links status (ThreadsReported text is wrote) = is_written out text status wrote
threads_run mode script out links status (ThreadsRanOut s wrote) = inr (inr (inl s))
threads_run mode script out links status (ThreadsNotOpened s rose back wrote) = inr (inr (inr s))

fault_status : (out : Output) (line kind status : ℕ) → FaultWritten out line kind status → (status ≡ 3) ⊎ (status ≡ 7)
fault_status out line kind status (inl w) = inl w.0
fault_status out line kind status (inr w) = inr w.0

ends_of : {mode : Mode} (ran : ScriptEnd) → AreRuns ran → (input : Input) (out : Output) (links : Links) (bytes : List ℕ) (status : ℕ) → Replayed mode ran input out links bytes status → Ends input bytes status
ends_of ran runs input out links bytes status (RanScript end script is opened ended) = WasRun end script is (runs script out links status ended)
ends_of ran runs input out links bytes status (FaultyScript end line kind is back wrote) = WasFaulty end line kind is (fault_status out line kind status wrote)
ends_of ran runs input out links bytes status (SourceFailed s rose back wrote) = WasCut s rose
ends_of ran runs input out links bytes status (TooLong s long back wrote) = WasLong s long
ends_of ran runs input out links bytes status (NoMemory s back wrote) = RanOut s

not_run : (status n : ℕ) → IsRun status → status ≡ n → n ≢ 0 → n ≢ 5 → n ≢ 7 → n ≢ 8 → ⊥
not_run status n (inl e) is a b c d = a (sym is ∙ e)
not_run status n (inr (inl e)) is a b c d = b (sym is ∙ e)
not_run status n (inr (inr (inl e))) is a b c d = c (sym is ∙ e)
not_run status n (inr (inr (inr e))) is a b c d = d (sym is ∙ e)

-- ## The exact statuses

-- the bytes that came don't tell all: the source failed, more came than a script may have, or memory ran out
abbrev pub EndedBefore : Input → List ℕ → ℕ → Type 0
EndedBefore input bytes status = ((status ≡ 4) × HaveRisen input.faults) ⊎ ((status ≡ 6) × (script_limit < length bytes)) ⊎ (status ≡ 7)

-- 3: the input was read to its end, and its bytes are no script
three : (input : Input) (bytes : List ℕ) (status : ℕ) → Ends input bytes status → status ≡ 3 → IsAtEnd input.left × ((line : ℕ) × (kind : ℕ) × (script_of bytes ≡ Err (line, kind)))
three input bytes status (WasRun end script is run) e = absurd (not_run status 3 run e (λ x. absurd (omega (arith, x))) (λ x. absurd (omega (arith, x))) (λ x. absurd (omega (arith, x))) (λ x. absurd (omega (arith, x))))
three input bytes status (WasFaulty end line kind is s) e = (end, (line, kind, is))
three input bytes status (WasCut s rose) e = absurd (omega (arith, s, e))
three input bytes status (WasLong s long) e = absurd (omega (arith, s, e))
three input bytes status (RanOut s) e = absurd (omega (arith, s, e))

no_script : (input : Input) (bytes : List ℕ) (status line kind : ℕ) → Ends input bytes status → script_of bytes ≡ Err (line, kind) → (status ≡ 3) ⊎ EndedBefore input bytes status
no_script input bytes status line kind (WasRun end script is run) e = absurd (cc)
no_script input bytes status line kind (WasFaulty end l k is (inl s)) e = inl s
no_script input bytes status line kind (WasFaulty end l k is (inr s)) e = inr (inr (inr s))
no_script input bytes status line kind (WasCut s rose) e = inr (inl (s, rose))
no_script input bytes status line kind (WasLong s long) e = inr (inr (inl (s, long)))
no_script input bytes status line kind (RanOut s) e = inr (inr (inr s))

pub faulty_script_exactly : {mode : Mode} (ran : ScriptEnd) → AreRuns ran → (input : Input) (out : Output) (links : Links) (status : ℕ) → (read : ReplayedInput mode ran input out links status) →
    (status ≡ 3 → IsAtEnd input.left × ((line : ℕ) × (kind : ℕ) × (script_of read.bytes ≡ Err (line, kind))))
    × ((line kind : ℕ) → script_of read.bytes ≡ Err (line, kind) → (status ≡ 3) ⊎ EndedBefore input read.bytes status)
faulty_script_exactly ran runs input out links status read =
    let ends = ends_of ran runs input out links read.bytes status read.replayed in
    (three input read.bytes status ends, λ line kind e. no_script input read.bytes status line kind ends e)

-- 6: more bytes came than a script may have, unless memory ran out before
six : (input : Input) (bytes : List ℕ) (status : ℕ) → Ends input bytes status → status ≡ 6 → script_limit < length bytes
six input bytes status (WasRun end script is run) e = absurd (not_run status 6 run e (λ x. absurd (omega (arith, x))) (λ x. absurd (omega (arith, x))) (λ x. absurd (omega (arith, x))) (λ x. absurd (omega (arith, x))))
six input bytes status (WasFaulty end line kind is (inl s)) e = absurd (omega (arith, s, e))
six input bytes status (WasFaulty end line kind is (inr s)) e = absurd (omega (arith, s, e))
six input bytes status (WasCut s rose) e = absurd (omega (arith, s, e))
six input bytes status (WasLong s long) e = long
six input bytes status (RanOut s) e = absurd (omega (arith, s, e))

pub long_script_exactly : {mode : Mode} (ran : ScriptEnd) → AreRuns ran → (input : Input) (out : Output) (links : Links) (status : ℕ) → (read : ReplayedInput mode ran input out links status) →
    (status ≡ 6 → script_limit < length read.bytes) × (script_limit < length read.bytes → (status ≡ 6) ⊎ (status ≡ 7))
long_script_exactly ran runs input out links status read = (six input read.bytes status (ends_of ran runs input out links read.bytes status read.replayed), read.too_long)
