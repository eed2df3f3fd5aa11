-- The text of an ending needs only what was told of the lines of its script.
use Rattle.std.proofs.Common.{◌≡◌, ℕ, zero, suc, ◌+◌, ◌-◌, ◌<◌, ◌≤◌, Bool, true, false, Option, Some, None, List, [], ◌∷◌, ◌++◌, length, take, replicate, refl, sym, ap, ◌∙◌, arith}
use Rattle.std.specs.Prelude.{slice_index_or, slice_set, fold, filter_map, nat_lt, if◌then◌else◌, codes}
use Rattle.exec_script.specs.declared.op.Op.{Op}
use Rattle.exec_script.specs.declared.told.Told.{Told}
use Rattle.exec_script.specs.declared.told.Answer.{Answer}
use Rattle.exec_script.specs.Accounting.{Book, Run, new_book, told_at, told_of, balances_behind, book_behind, book_after, run_at}
use Rattle.exec_script.specs.QueueEnds.{IsEndingText}
use Rattle.exec_threads.specs.declared.run.Done.{Done}
use Rattle.exec_threads.specs.TasksOfLines.{most_lines, IsScript}
use Rattle.exec_threads.specs.ScriptDone.{IsDone}
use Rattle.exec_script.specs.Endings.{line_text, lines_text, order_text, balances_text, ending_text}

-- a book with as much room, and one that has the first lines of it
record IsCut (n : ℕ) (all cut : Book) : Type 0 where
  balances : cut.balances ≡ all.balances
  told : cut.told ≡ take n all.told

take_replicate : {A : Type 0} (n m : ℕ) (x : A) → n ≤ m → replicate n x ≡ take n (replicate m x)
take_replicate zero m x le = refl
take_replicate (suc n) zero x le = absurd (omega (arith, le))
take_replicate (suc n) (suc m) x le = ap (λ l. x ∷ l) (take_replicate n m x (omega (arith, le)))

take_set : {A : Type 0} (n i : ℕ) (x : A) (xs : List A) → slice_set (take n xs) i x ≡ take n (slice_set xs i x)
take_set zero i x xs = refl
take_set (suc n) i x [] = refl
take_set (suc n) zero x (y ∷ xs) = refl
take_set (suc n) (suc i) x (y ∷ xs) = ap (λ l. y ∷ l) (take_set n i x xs)

take_told : (n : ℕ) (told : List (Option Told)) (line : ℕ) (is : Told) → told_at (take n told) line is ≡ take n (told_at told line is)
take_told n told line is = elim (nat_lt 0 line) as (λ b. (if b then slice_set (take n told) (line - 1) (Some is) else take n told) ≡ take n (if b then slice_set told (line - 1) (Some is) else told)) [
  | true ↦ take_set n (line - 1) (Some is) told
  | false ↦ refl
]

cut_behind : (n : ℕ) (all cut : Book) (run : Run) → IsCut n all cut → IsCut n (book_behind all run) (book_behind cut run)
cut_behind n all cut run is = record {
  balances = ap (λ (b : List ℕ). balances_behind b run.change) is.balances;
  told = ap (λ (b : List ℕ). told_at cut.told run.line (told_of b run.change)) is.balances ∙ (ap (λ (t : List (Option Told)). told_at t run.line (told_of all.balances run.change)) is.told ∙ take_told n all.told run.line (told_of all.balances run.change));
}

cut_after : (n : ℕ) (all cut : Book) (runs : List Run) → IsCut n all cut → IsCut n (fold book_behind all runs) (fold book_behind cut runs)
cut_after n all cut [] is = is
cut_after n all cut (run ∷ runs) is = cut_after n (book_behind all run) (book_behind cut run) runs (cut_behind n all cut run is)

index_taken : {A : Type 0} (n i : ℕ) (xs : List A) (d : A) → i < n → slice_index_or (take n xs) i d ≡ slice_index_or xs i d
index_taken zero i xs d lt = absurd (omega (arith, lt))
index_taken (suc n) i [] d lt = refl
index_taken (suc n) zero (x ∷ xs) d lt = refl
index_taken (suc n) (suc i) (x ∷ xs) d lt = index_taken n i xs d (omega (arith, lt))

lines_cut : (n : ℕ) (told : List (Option Told)) (before : ℕ) (answers : List Answer) → before + length answers ≤ n → lines_text (take n told) before answers ≡ lines_text told before answers
lines_cut n told before [] le = refl
lines_cut n told before (answer ∷ answers) le =
    ap (λ (t : Option Told). line_text (before + 1) answer t ++ lines_text (take n told) (before + 1) answers) (index_taken n before told None (omega (arith, le)))
    ∙ ap (λ (l : List ℕ). line_text (before + 1) answer (slice_index_or told before None) ++ l) (lines_cut n told (before + 1) answers (omega (arith, le)))

pub text_cut : (n m : ℕ) (runs : List Run) (answers : List Answer) (order : List ℕ) → n ≤ m → length answers ≤ n → ending_text (book_after m runs) answers order ≡ ending_text (book_after n runs) answers order
text_cut n m runs answers order le few =
    let cut = cut_after n (new_book m) (new_book n) runs (record { balances = refl; told = take_replicate n m None le }) in
    ap (λ (l : List ℕ). l ++ order_text order ++ balances_text 0 (book_after m runs).balances ++ codes "end\n") (sym (lines_cut n (book_after m runs).told 0 answers (omega (arith, few))) ∙ ap (λ (t : List (Option Told)). lines_text t 0 answers) (sym cut.told))
    ∙ ap (λ (b : List ℕ). lines_text (book_after n runs).told 0 answers ++ order_text order ++ balances_text 0 b ++ codes "end\n") (sym cut.balances)

-- what is printed of a script that was done
pub is_ending : (step : ℕ) (script : List Op) (done : Done) (text : List ℕ) → IsScript script → IsDone step script done → text ≡ ending_text done.accounts done.answers.items done.order.items → IsEndingText step script text
is_ending step script done text is d told = record {
  answers = done.answers.items;
  order = done.order.items;
  ran = done.ran;
  answered = d.answered;
  ordered = d.ordered;
  few = d.few;
  stopped = d.stopped;
  is_text = told ∙ (ap (λ (b : Book). ending_text b done.answers.items done.order.items) d.accounts ∙ text_cut (length script) most_lines (filter_map (run_at script) (take done.ran done.order.items)) done.answers.items done.order.items is.room (let e = d.answered.each in omega (arith, e)));
}
