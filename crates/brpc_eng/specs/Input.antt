-- What the input is as a script.
use Rattle.std.specs.Prelude.{ℕ, ◌≡◌, ◌≤◌, ◌+◌, List, length, Option, Result, Ok, Err}
use Rattle.std.specs.Io.KnownBytes.{Consumes}
use Rattle.brpc_model.specs.Items.{Item}
use Rattle.brpc_model.specs.Script.{script_of}
use Rattle.brpc_eng.specs.declared.input.NoScript.{NoScript}
use Rattle.brpc_eng.specs.declared.input.NoScript.TheVariants.{Unread, Faulty}
use Rattle.brpc_eng.specs.declared.streams.InputFault.TheVariants as unread
use Rattle.brpc_eng.specs.WholeSourceRead.{script_limit, IsAtEnd}
use Rattle.brpc_eng.specs.ProgramAnswers.{Output, WroteNothing, FaultWritten}

-- the bytes that came are a script, or they are none, and why
abbrev pub IsRead : Option (List ℕ) → List ℕ → Result (List Item) NoScript → Type 0
IsRead left bytes (Ok script) = IsAtEnd left × (length bytes ≤ script_limit) × (script_of bytes ≡ Ok script)
IsRead left bytes (Err (Faulty line kind)) = IsAtEnd left × (length bytes ≤ script_limit) × (script_of bytes ≡ Err (line, kind))
IsRead left bytes (Err (Unread unread.Failed)) = length bytes ≤ script_limit
IsRead left bytes (Err (Unread unread.TooLong)) = length bytes ≡ script_limit + 1
IsRead left bytes (Err (Unread unread.NoMemory)) = length bytes ≤ script_limit + 1

-- these bytes came, and this is what they are as a script
pub record CameAs (given left : Option (List ℕ)) (read : Result (List Item) NoScript) : Type 0 where
  pub bytes : List ℕ
  pub came : Consumes given left bytes
  pub is : IsRead left bytes read

-- what is written where there is no script to run, and the status
abbrev pub NoScriptTold : NoScript → Output → ℕ → Type 0
NoScriptTold (Unread unread.Failed) out status = (status ≡ 4) × WroteNothing out
NoScriptTold (Unread unread.TooLong) out status = (status ≡ 6) × WroteNothing out
NoScriptTold (Unread unread.NoMemory) out status = (status ≡ 7) × WroteNothing out
NoScriptTold (Faulty line kind) out status = FaultWritten out line kind status
