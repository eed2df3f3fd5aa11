-- Sixteen accounts, and what changes do to them, one after another.
use Rattle.std.specs.Prelude.{ℕ, ◌+◌, ◌-◌, ◌==◌, nat_lt, nat_le, if◌then◌else◌, List, length, fold, filter_map, take, replicate, slice_get, slice_index, slice_set, Option, Some, None, option_and_then}
use Rattle.exec_script.specs.declared.op.Op.{Op}
use Rattle.exec_script.specs.declared.op.Op.TheVariants.{Task, Stop}
use Rattle.exec_script.specs.declared.op.Change.{Change}
use Rattle.exec_script.specs.declared.op.Change.TheVariants.{Add, Sub, Move}
use Rattle.exec_script.specs.declared.told.Told.{Told}
use Rattle.exec_script.specs.declared.told.Told.TheVariants.{Fine, Low, High}

-- what an account that has this much tells of so much more
abbrev pub told_of_more : ℕ → ℕ → Told
told_of_more have amount = if nat_le (have + amount) 18446744073709551615 then Fine else High have

-- what is told of a change: whether the account that it is taken off has enough, and then whether the one that grows may hold it. A move within one account changes nothing
abbrev pub told_of : List ℕ → Change → Told
told_of balances (Add a n) = told_of_more (slice_index balances a) n
told_of balances (Sub a n) = if nat_le n (slice_index balances a) then Fine else Low (slice_index balances a)
told_of balances (Move a b n) =
    if nat_le n (slice_index balances a) then (if a == b then Fine else told_of_more (slice_index balances b) n)
    else Low (slice_index balances a)

-- the balances with so much more or less on an account
abbrev pub more_on : List ℕ → ℕ → ℕ → List ℕ
more_on balances a n = slice_set balances a (slice_index balances a + n)

abbrev pub less_on : List ℕ → ℕ → ℕ → List ℕ
less_on balances a n = slice_set balances a (slice_index balances a - n)

-- the balances behind a change that is fine
abbrev pub changed : List ℕ → Change → List ℕ
changed balances (Add a n) = more_on balances a n
changed balances (Sub a n) = less_on balances a n
changed balances (Move a b n) = more_on (less_on balances a n) b n

-- nothing changes unless the change is fine
abbrev pub where_fine : Told → List ℕ → List ℕ → List ℕ
where_fine Fine new old = new
where_fine other new old = old

abbrev pub balances_behind : List ℕ → Change → List ℕ
balances_behind balances change = where_fine (told_of balances change) (changed balances change) balances

-- ## Accounts and what was told

pub record Book : Type 0 where
  -- of each of the sixteen accounts
  pub balances : List ℕ
  -- of each line what was told of its task, where that ran
  pub told : List (Option Told)

-- before the first task, over so many lines
abbrev pub new_book : ℕ → Book
new_book lines = record { balances = replicate 16 0; told = replicate lines None }

-- what is told of a line stands at its place; lines count from 1, and another number is told nothing
abbrev pub told_at : List (Option Told) → ℕ → Told → List (Option Told)
told_at told line is = if nat_lt 0 line then slice_set told (line - 1) (Some is) else told

-- the task of a line: what it changes
pub record Run : Type 0 where
  pub line : ℕ
  pub change : Change

-- behind one more task
abbrev pub book_behind : Book → Run → Book
book_behind book run = record { balances = balances_behind book.balances run.change; told = told_at book.told run.line (told_of book.balances run.change) }

-- behind these, one after another
abbrev pub book_after : ℕ → List Run → Book
book_after lines runs = fold book_behind (new_book lines) runs

-- ## The tasks of a script

-- what the operation of a line is as a task
abbrev pub run_of : ℕ → Op → Option Run
run_of line (Task change) = Some (record { line = line; change = change })
run_of line Stop = None

-- the task of the line of this number
abbrev pub run_at : List Op → ℕ → Option Run
run_at script line = if nat_lt 0 line then option_and_then (run_of line) (slice_get script (line - 1)) else None

-- the accounts behind the tasks of the first so many of these lines
abbrev pub book_of : List Op → List ℕ → ℕ → Book
book_of script order ran = book_after (length script) (filter_map (run_at script) (take ran order))
