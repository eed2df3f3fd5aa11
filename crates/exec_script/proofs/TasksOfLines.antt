-- The accounts behind tasks that are those of their lines, for whoever runs them.
use Rattle.std.proofs.Common.{◌≡◌, ℕ, zero, suc, List, [], ◌∷◌, ◌++◌, Some, take, refl, ap, ◌∙◌}
use Rattle.std.specs.Prelude.{length, map, fold, filter_map}
use Rattle.std.specs.List.{AllByRecursion}
use Rattle.exec_script.specs.declared.op.Op.{Op}
use Rattle.exec_script.specs.Accounting.{Run, book_behind, book_after, run_at, book_of}

fold_more : {A B : Type 0} (f : A → B → A) (a : A) (xs : List B) (x : B) → fold f a (xs ++ x ∷ []) ≡ f (fold f a xs) x
fold_more f a [] x = refl
fold_more f a (y ∷ xs) x = fold_more f (f a y) xs x

-- one task more
pub book_more : (lines : ℕ) (runs : List Run) (run : Run) → book_after lines (runs ++ run ∷ []) ≡ book_behind (book_after lines runs) run
book_more lines runs run = fold_more book_behind _ runs run

module _ {Task : Type 0} (line : Task → ℕ) (run : Task → Run) (script : List Op) where
  runs_of : (tasks : List Task) (n : ℕ) → AllByRecursion (λ (t : Task). run_at script (line t) ≡ Some (run t)) tasks → filter_map (run_at script) (take n (map line tasks)) ≡ map run (take n tasks)
  runs_of tasks zero are = refl
  runs_of [] (suc n) are = refl
  runs_of (t ∷ tasks) (suc n) are = rw are.0 (ap (λ (rs : List Run). run t ∷ rs) (runs_of tasks n are.1))

  -- the accounts of a script by an order are those behind the tasks of its lines
  pub book_of_tasks : (tasks : List Task) (order : List ℕ) (n : ℕ) → AllByRecursion (λ (t : Task). run_at script (line t) ≡ Some (run t)) tasks → order ≡ map line tasks → book_of script order n ≡ book_after (length script) (map run (take n tasks))
  book_of_tasks tasks order n are lines = ap (λ (ls : List ℕ). book_of script ls n) lines ∙ ap (λ (rs : List Run). book_after (length script) rs) (runs_of tasks n are)
