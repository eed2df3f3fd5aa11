-- What is said beside the output where a command ended early.
use Rattle.std.specs.Prelude.{ℕ, ◌≡◌, ◌==◌, ◌⊎◌, if◌then◌else◌, List, [], codes, Option, Some, None}
use Rattle.brpc_eng.specs.ProgramAnswers.{Output, Wrote}
use Rattle.brpc_main.specs.ProgramEnding.{begins_with_serve}
use Rattle.brpc_reasons.specs.WrongWords.{words_text}
use Rattle.script_reasons.specs.ScriptFaultWords.{script_text, unknown_text}

-- a line for each status that the output itself doesn't always explain: nothing stands there, or a part
abbrev pub status_text : ℕ → List ℕ
status_text status =
    if status == 4 then codes "brpc: the input failed\n"
    else if status == 5 then codes "brpc: the output failed\n"
    else if status == 6 then codes "brpc: the input is longer than the command takes\n"
    else if status == 7 then codes "brpc: memory ran out\n"
    else if status == 8 then codes "brpc: a link could not be opened, or a connection failed\n"
    else []

-- of a faulty frame where it came from
abbrev pub frame_text : List (List ℕ) → List ℕ
frame_text words = if begins_with_serve words then codes "brpc: a connection gave a faulty frame\n" else codes "brpc: the input has a faulty frame\n"

-- where the words are no command, which of them is wrong, and the form that is nearest
abbrev pub other_text : List (List ℕ) → ℕ → List ℕ
other_text words status =
    if status == 2 then words_text words
    else if status == 9 then frame_text words
    else status_text status

-- of a script that was read and is faulty: by what was kept of it, where all was kept
abbrev pub kept_text : Option (List ℕ) → List ℕ
kept_text (Some bytes) = script_text bytes
kept_text None = unknown_text

-- what is said where a command ends with a status: of a script that is faulty what is wrong in which line
abbrev pub reason_text : List (List ℕ) → Option (List ℕ) → ℕ → List ℕ
reason_text words kept status = if status == 3 then kept_text kept else other_text words status

-- so it was said; or, where memory ran out as the script was read again, that it is faulty
abbrev pub Explained : Output → List (List ℕ) → Option (List ℕ) → ℕ → Type 0
Explained out words kept status = Wrote out (reason_text words kept status) ⊎ ((status ≡ 3) × Wrote out unknown_text)
