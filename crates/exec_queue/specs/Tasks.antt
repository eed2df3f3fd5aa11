-- Tasks, and the bytes that are theirs.
use Rattle.std.specs.Prelude.{ℕ, ◌*◌, ◌/◌, ◌≤◌, ◌&&◌, ◌==◌, nat_le, suc, zero, if◌then◌else◌, Option, None, Some, List, [], ◌∷◌, ◌++◌, length, take, drop, slice_index}
use Rattle.std.specs.Option.{option_to_list}
use Rattle.std.specs.Int.{w32, w64, to_be_bytes, from_be_bytes}
use Rattle.exec_queue.specs.declared.task.Task.{Task}

-- it asks for one of the three, on two of sixteen accounts
pub record IsTask (t : Task) : Type 0 where
  pub some_kind : 1 ≤ t.kind
  pub kind : t.kind ≤ 3
  pub a : t.a ≤ 15
  pub b : t.b ≤ 15

abbrev pub task_bytes : Task → List ℕ
task_bytes t = t.kind ∷ t.a ∷ t.b ∷ 0 ∷ to_be_bytes w32 t.line ++ to_be_bytes w64 t.amount

-- the task that has these sixteen bytes
abbrev pub task_of : List ℕ → Option Task
task_of b = if nat_le 1 (slice_index b 0) && (nat_le (slice_index b 0) 3 && (nat_le (slice_index b 1) 15 && (nat_le (slice_index b 2) 15 && (slice_index b 3 == 0))))
    then Some record {
      kind = slice_index b 0;
      a = slice_index b 1;
      b = slice_index b 2;
      line = from_be_bytes w32 (slice_index b 4 ∷ slice_index b 5 ∷ slice_index b 6 ∷ slice_index b 7 ∷ []);
      amount = from_be_bytes w64 (slice_index b 8 ∷ slice_index b 9 ∷ slice_index b 10 ∷ slice_index b 11 ∷ slice_index b 12 ∷ slice_index b 13 ∷ slice_index b 14 ∷ slice_index b 15 ∷ []);
    }
    else None

-- the tasks among the first n times sixteen bytes, in their order; sixteen bytes that are no task are passed over
abbrev pub tasks_upto : ℕ → List ℕ → List Task
tasks_upto zero bytes = []
tasks_upto (suc n) bytes = tasks_upto n bytes ++ option_to_list (task_of (take 16 (drop (16 * n) bytes)))

-- and among all that stand there whole
abbrev pub tasks_of : List ℕ → List Task
tasks_of bytes = tasks_upto (length bytes / 16) bytes
