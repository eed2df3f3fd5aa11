-- Tasks, `open`s and calls, line by line.
use Rattle.std.specs.Prelude.{◌≡◌, ℕ, ◌+◌, Bool, if◌then◌else◌, List, [], ◌∷◌, ◌++◌, option_map, option_to_list, unwrap_or}
use Rattle.brpc_model.specs.Items.{Item, Call, is_client, is_operation, is_open}
use Rattle.sock_message.specs.InsideMessages.{KeepsLimits}
use Rattle.seat_programs.specs.declared.task.Op.{Op}
use Rattle.seat_programs.specs.declared.task.Task.{Task}
use Rattle.seat_programs.specs.Tasks.{Numbered, number_of, asked_of, op_of}
use Rattle.script_lang.specs.OperationNumbers.{Numbers, operation_in}

-- an item as an operation of this number; for an `open` with the number of its link
abbrev pub numbered_as : ℕ → ℕ → Item → Numbered
numbered_as number link item = record { number = number; link = link; op = record { client = 0; number = 0; item = item } }

-- the task of an operation of this number, if it has one, where these are all operations
abbrev pub task_at : List Numbered → List (List ℕ) → ℕ → ℕ → Item → List Task
task_at all names number link item = option_to_list (option_map (λ (op : Op). record { number = number; op = op }) (op_of all names (numbered_as number link item) item))

-- the tasks of the client in hand, some of which are known, and of each later one, along these items
abbrev pub tasks_along : List Numbered → List (List ℕ) → ℕ → ℕ → List Task → List Item → List (List Task)
tasks_along all names number link own [] = own ∷ []
tasks_along all names number link own (item ∷ items) =
    if is_client item then own ∷ tasks_along all names number link [] items
    else if is_operation item then tasks_along all names (number + 1) (if is_open item then link + 1 else link) (own ++ task_at all names number link item) items
    else tasks_along all names number link own items

-- the numbers of the operations of one sort along these items, where the next operation has this one
abbrev pub numbers_along : (Item → Bool) → ℕ → List Item → List ℕ
numbers_along sort number [] = []
numbers_along sort number (item ∷ items) =
    if is_operation item then (if sort item then number ∷ numbers_along sort (number + 1) items else numbers_along sort (number + 1) items)
    else numbers_along sort number items

-- by these numbers each `C.I` is found among all operations
abbrev pub AreNumbersOf : Numbers → List Numbered → Type 0
AreNumbersOf numbers all = (client i : ℕ) → number_of all client i ≡ unwrap_or (operation_in numbers client i) 0

-- a call keeps the limits of calls
abbrev pub IsShort : Item → Type 0
IsShort (Call call) = (names : List (List ℕ)) (o : ℕ) → KeepsLimits (asked_of names o call)
IsShort other = Unit {0}
