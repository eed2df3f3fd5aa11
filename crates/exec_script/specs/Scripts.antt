-- The script of an execution queue that some bytes are, or the first line with a fault and the kind of the fault.
use Rattle.std.specs.Prelude.{ℕ, ◌+◌, ◌≤◌, ◌==◌, ⊤, nat_le, if◌then◌else◌, List, [], ◌∷◌, ◌++◌, length, fold, codes, bytes_eq, ok_or, decimal, Ok, Err}
use Rattle.std.specs.Str.Lines.{lines}
use Rattle.brpc_model.specs.Text.{words}
use Rattle.brpc_model.specs.NumberInRange.{number}
use Rattle.brpc_model.specs.LinePartReads.{Reads, ◌>>=◌}
use Rattle.brpc_model.specs.Script.{Faulty}
use Rattle.exec_script.specs.declared.op.Op.{Op}
use Rattle.exec_script.specs.declared.op.Op.TheVariants.{Task, Stop}
use Rattle.exec_script.specs.declared.op.Change.{Change}
use Rattle.exec_script.specs.declared.op.Change.TheVariants.{Add, Sub, Move}
use Rattle.exec_script.specs.declared.op.ChangeParts.{ChangeParts}

-- ## A line

-- an account, 0 to 15; else fault 3
abbrev pub account_in : List ℕ → Reads ℕ
account_in word = ok_or (number 0 15 word) 3

-- an amount of 64 bits; else fault 3
abbrev pub amount_in : List ℕ → Reads ℕ
amount_in word = ok_or (number 0 18446744073709551615 word) 3

-- what stands behind `add` and `sub`: an account and an amount
abbrev pub with_amount : (ℕ → ℕ → Change) → List (List ℕ) → Reads Op
with_amount make (a ∷ n ∷ []) = account_in a >>= (λ account. amount_in n >>= (λ amount. Ok (Task (make account amount))))
with_amount make others = Err 2

-- which were read, or have a fault
abbrev pub with_two : (ℕ → ℕ → Change) → Reads (ℕ × ℕ) → Reads Op
with_two make (Ok read) = Ok (Task (make read.0 read.1))
with_two make (Err kind) = Err kind

-- what stands behind `move`: two accounts and an amount
abbrev pub with_move : List (List ℕ) → Reads Op
with_move (a ∷ b ∷ n ∷ []) = account_in a >>= (λ from_. account_in b >>= (λ to. amount_in n >>= (λ amount. Ok (Task (Move from_ to amount)))))
with_move others = Err 2

-- nothing stands behind `stop`
abbrev pub with_nothing : List (List ℕ) → Reads Op
with_nothing [] = Ok Stop
with_nothing others = Err 2

-- what a line of these words asks for
abbrev pub op_of_words : List (List ℕ) → Reads Op
op_of_words [] = Err 1
op_of_words (first ∷ args) =
    if bytes_eq first (codes "add") then with_amount (λ a n. Add a n) args
    else if bytes_eq first (codes "sub") then with_amount (λ a n. Sub a n) args
    else if bytes_eq first (codes "move") then with_move args
    else if bytes_eq first (codes "stop") then with_nothing args
    else Err 1

-- a script has at most 4,096 lines
abbrev pub in_room : ℕ → Op → Reads Op
in_room line op = if nat_le line 4096 then Ok op else Err 4

-- what the line of this number asks for, or the lowest kind of its faults
abbrev pub op_at : ℕ → List ℕ → Reads Op
op_at line text = op_of_words (words text) >>= in_room line

-- ## All lines

-- what was asked for so far, and by one more line; a line counts from 1
abbrev pub one_more : List Op → Reads Op → Faulty (List Op)
one_more ops (Ok op) = Ok (ops ++ op ∷ [])
one_more ops (Err kind) = Err (length ops + 1, kind)

-- with this line, where none before it has a fault
abbrev pub with_line : Faulty (List Op) → List ℕ → Faulty (List Op)
with_line (Ok ops) text = one_more ops (op_at (length ops + 1) text)
with_line (Err fault) text = Err fault

-- the script that these bytes are, or its first faulty line and the kind of the fault
abbrev pub script_of : List ℕ → Faulty (List Op)
script_of bytes = fold with_line (Ok []) (lines bytes)

-- the accounts of a change are among the sixteen
abbrev pub IsChange : Change → Type 0
IsChange (Add account amount) = account ≤ 15
IsChange (Sub account amount) = account ≤ 15
IsChange (Move from_ to amount) = (from_ ≤ 15) × (to ≤ 15)

-- the same of what a line asks for
abbrev pub IsOp : Op → Type 0
IsOp (Task change) = IsChange change
IsOp Stop = ⊤

-- the change that these numbers are
abbrev pub change_of : ChangeParts → Change
change_of parts = if parts.kind == 1 then Add parts.a parts.amount else if parts.kind == 2 then Sub parts.a parts.amount else Move parts.a parts.b parts.amount

-- the line that is printed where a script has a fault
abbrev pub fault_text : ℕ → ℕ → List ℕ
fault_text line kind = codes "exec fault line " ++ decimal line ++ codes " kind " ++ decimal kind ++ codes "\n"
