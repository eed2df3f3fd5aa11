-- The text of a schedule.
use Rattle.std.proofs.Common.{◌≡◌, ℕ, Bool, true, false, ◌||◌, List, [], ◌∷◌, ◌++◌, filter, codes, refl, ap, sym, ◌∙◌, append_assoc, append-nil}
use Rattle.std.specs.List.{list_any}
use Rattle.std.proofs.lemmas.Bool.{cond-true, cond-false, false≢true, or_parts}
use Rattle.brpc_model.specs.Items.{Item, is_turn}
use Rattle.brpc_model.specs.ScriptText.{scheduled}
use Rattle.script_print.specs.PrintedParts.{lines_text, schedule_items}
use Rattle.script_print.proofs.ReorderedScriptLines.{by_test}

-- what a script without a schedule prints of it
unscheduled : (xs : List Item) → list_any is_turn xs ≡ false → filter is_turn xs ≡ []
unscheduled [] e = refl
unscheduled (x ∷ xs) e =
    let parts = or_parts (is_turn x) (list_any is_turn xs) e in
    cond-false (is_turn x) (x ∷ filter is_turn xs) (filter is_turn xs) parts.0 ∙ unscheduled xs parts.1

pub no_schedule : (text : List ℕ) (xs : List Item) → list_any is_turn xs ≡ false → text ≡ text ++ lines_text (schedule_items xs)
no_schedule text xs e = sym (ap (λ turns. text ++ lines_text (scheduled turns)) (unscheduled xs e) ∙ append-nil text)

-- whether there is an element
abbrev is_some_list : List Item → Bool
is_some_list [] = false
is_some_list (x ∷ xs) = true

some_turn : (xs : List Item) → list_any is_turn xs ≡ true → is_some_list (filter is_turn xs) ≡ true
some_turn [] e = absurd (false≢true e)
some_turn (x ∷ xs) e = by_test (is_turn x) (is_some_list (filter is_turn (x ∷ xs)) ≡ true)
    (λ turn. ap is_some_list (cond-true (is_turn x) (x ∷ filter is_turn xs) (filter is_turn xs) turn))
    (λ other. ap is_some_list (cond-false (is_turn x) (x ∷ filter is_turn xs) (filter is_turn xs) other) ∙ some_turn xs (sym (ap (λ t. t || list_any is_turn xs) other) ∙ e))

begun : (turns : List Item) → is_some_list turns ≡ true → lines_text (scheduled turns) ≡ codes "sched\n" ++ lines_text turns
begun [] e = absurd (false≢true e)
begun (t ∷ turns) e = refl

-- what a script with a schedule prints of it
pub with_schedule : (text : List ℕ) (xs : List Item) → list_any is_turn xs ≡ true → (text ++ codes "sched\n") ++ lines_text (filter is_turn xs) ≡ text ++ lines_text (schedule_items xs)
with_schedule text xs e = append_assoc text (codes "sched\n") (lines_text (filter is_turn xs)) ∙ ap (λ t. text ++ t) (sym (begun (filter is_turn xs) (some_turn xs e)))
