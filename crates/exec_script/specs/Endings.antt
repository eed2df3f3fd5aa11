-- What is printed of a queue that ended.
use Rattle.std.specs.Prelude.{ℕ, ◌+◌, ◌==◌, if◌then◌else◌, List, [], ◌∷◌, ◌++◌, flat_map, codes, decimal, slice_index_or, Option, Some, None}
use Rattle.sock_words.specs.PrintedWords.{word}
use Rattle.exec_script.specs.declared.told.Told.{Told}
use Rattle.exec_script.specs.declared.told.Told.TheVariants.{Fine, Low, High}
use Rattle.exec_script.specs.declared.told.Answer.{Answer}
use Rattle.exec_script.specs.declared.told.Answer.TheVariants.{Accepted, Refused, Stopped, Already}
use Rattle.exec_script.specs.Accounting.{Book}

-- what became of a task that was accepted: it ran, or was dropped
abbrev pub told_text : Option Told → List ℕ
told_text None = codes "dropped"
told_text (Some Fine) = codes "ok"
told_text (Some (Low have)) = codes "low" ++ word (decimal have)
told_text (Some (High have)) = codes "high" ++ word (decimal have)

-- what became of a line
abbrev pub answer_text : Answer → Option Told → List ℕ
answer_text Accepted told = told_text told
answer_text Refused told = codes "refused"
answer_text Stopped told = codes "stopped"
answer_text Already told = codes "already"

-- the line of a line
abbrev pub line_text : ℕ → Answer → Option Told → List ℕ
line_text line answer told = decimal line ++ word (answer_text answer told) ++ 10 ∷ []

-- the lines of these, behind so many
abbrev pub lines_text : List (Option Told) → ℕ → List Answer → List ℕ
lines_text told before [] = []
lines_text told before (answer ∷ answers) = line_text (before + 1) answer (slice_index_or told before None) ++ lines_text told (before + 1) answers

-- the lines that were accepted, in their order
abbrev pub order_text : List ℕ → List ℕ
order_text order = codes "order" ++ flat_map (λ line. word (decimal line)) order ++ 10 ∷ []

-- the line of an account, which has none where it is 0
abbrev pub balance_text : ℕ → ℕ → List ℕ
balance_text account balance = if balance == 0 then [] else codes "balance" ++ word (decimal account) ++ word (decimal balance) ++ 10 ∷ []

-- the lines of these accounts, behind so many
abbrev pub balances_text : ℕ → List ℕ → List ℕ
balances_text before [] = []
balances_text before (balance ∷ balances) = balance_text before balance ++ balances_text (before + 1) balances

-- all of it
abbrev pub ending_text : Book → List Answer → List ℕ → List ℕ
ending_text book answers order = lines_text book.told 0 answers ++ order_text order ++ balances_text 0 book.balances ++ codes "end\n"
