-- The tasks among bytes, as more of these come.
use Rattle.std.proofs.Common.{◌≡◌, ℕ, ◌+◌, ◌*◌, ◌≤◌, suc, zero, Option, List, ◌++◌, length, take, drop, refl, sym, ap, ◌∙◌, arith}
use Rattle.std.specs.Option.{option_to_list}
use Rattle.std.proofs.lemmas.List.{take-append-le, drop-append-le, length-drop}
use Rattle.exec_queue.specs.declared.task.Task.{Task}
use Rattle.exec_queue.specs.Tasks.{task_of, tasks_upto}

-- what stands whole stays when bytes come behind it
pub piece_stays : (at : ℕ) (xs ys : List ℕ) → at + 16 ≤ length xs → take 16 (drop at (xs ++ ys)) ≡ take 16 (drop at xs)
piece_stays at xs ys le = ap (take 16) (drop-append-le at xs ys (omega arith)) ∙ take-append-le 16 (drop at xs) ys (let e = length-drop at xs in omega arith)

pub upto_stays : (n : ℕ) (xs ys : List ℕ) → 16 * n ≤ length xs → tasks_upto n (xs ++ ys) ≡ tasks_upto n xs
upto_stays zero xs ys le = refl
upto_stays (suc n) xs ys le = ap (λ (ts : List Task). ts ++ option_to_list (task_of (take 16 (drop (16 * n) (xs ++ ys))))) (upto_stays n xs ys (omega arith))
    ∙ ap (λ (b : List ℕ). tasks_upto n xs ++ option_to_list (task_of b)) (piece_stays (16 * n) xs ys (omega arith))

-- sixteen bytes that are a task, and such that are none
pub next_task : (n : ℕ) (bytes : List ℕ) (o : Option Task) → o ≡ task_of (take 16 (drop (16 * n) bytes)) → tasks_upto (n + 1) bytes ≡ tasks_upto n bytes ++ option_to_list o
next_task n bytes o is = ap (λ (m : ℕ). tasks_upto m bytes) (let e : n + 1 ≡ suc n = omega arith in e) ∙ ap (λ (x : Option Task). tasks_upto n bytes ++ option_to_list x) (sym is)
