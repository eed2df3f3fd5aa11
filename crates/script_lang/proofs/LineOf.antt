-- The first line that names a call of some sort, by the calls that lines name.
use Rattle.std.proofs.Common.{◌≡◌, ℕ, suc, ◌+◌, Bool, true, false, cond, List, [], ◌∷◌, ◌++◌, length, Option, Some, None, option_map, refl, ap, sym, ◌∙◌, append_assoc, append-nil, arith}
use Rattle.std.proofs.lemmas.Iterator.Adapters.{position_from-zero}
use Rattle.std.specs.List.{find, position, position_from}
use Rattle.std.specs.Option.{option_and_then, option_to_list}
use Rattle.brpc_model.specs.Items.{Item, Expire, Join}
use Rattle.brpc_model.specs.Script.{says}
use Rattle.script_lang.specs.declared.uses.CallUse.{CallUse}
use Rattle.script_lang.specs.CallsUsedByLines.{use_of, uses_from}

-- one more line
pub uses_more : (line : ℕ) (said : List (Option Item)) (one : Option Item) → uses_from line (said ++ one ∷ []) ≡ uses_from line said ++ option_to_list (option_and_then (use_of (line + length said)) one)
uses_more line [] one = let same : line ≡ line + 0 = omega arith in append-nil _ ∙ ap (λ n. option_to_list (option_and_then (use_of n) one)) same
uses_more line (first ∷ said) one =
    let here = option_to_list (option_and_then (use_of line) first) in
    let same : line + 1 + length said ≡ line + suc (length said) = omega arith in
    ap (λ us. here ++ us) (uses_more (line + 1) said one)
    ∙ sym (append_assoc here (uses_from (line + 1) said) (option_to_list (option_and_then (use_of (line + 1 + length said)) one)))
    ∙ ap (λ n. (here ++ uses_from (line + 1) said) ++ option_to_list (option_and_then (use_of n) one)) same

-- an item passes one test where the call that it names passes the other
abbrev pub passes : (CallUse → Bool) → Option CallUse → Bool
passes test None = false
passes test (Some used) = test used

-- what is named has the line's number
HasLine : ℕ → Option CallUse → Type 0
HasLine line None = Unit {0}
HasLine line (Some used) = used.line ≡ line

has_line : (line : ℕ) (item : Item) → HasLine line (use_of line item)
unfolding HasLine
has_line line (Expire client number) = refl
has_line line (Join client number) = refl
has_line line _ = tt

-- the line that says this item, or one behind it
one_line : (names : CallUse → Bool) (line : ℕ) (used : Option CallUse) (test : Bool) (place : Option ℕ) (rest : List CallUse) → HasLine (line + 1) used → test ≡ passes names used →
    option_map (λ p. p + 1) place ≡ option_map (λ u. u.line) (find names rest) → option_map (λ p. p + 1) (cond test (Some line) place) ≡ option_map (λ u. u.line) (find names (option_to_list used ++ rest))
unfolding HasLine
one_line names line None test place rest has same behind = ap (λ b. option_map (λ p. p + 1) (cond b (Some line) place)) same ∙ behind
one_line names line (Some used) test place rest has same behind =
    ap (λ b. option_map (λ p. p + 1) (cond b (Some line) place)) same ∙ here (names used)
  where
    here : (b : Bool) → option_map (λ p. p + 1) (cond b (Some line) place) ≡ option_map (λ u. u.line) (cond b (Some used) (find names rest))
    here true = ap (λ n. Some n) (sym has)
    here false = behind

-- the first such line, counted from 1
pub first_line_is : (test : Item → Bool) (names : CallUse → Bool) → ((line : ℕ) (item : Item) → test item ≡ passes names (use_of line item)) → (line : ℕ) (said : List (Option Item)) →
    option_map (λ p. p + 1) (position_from (says test) line said) ≡ option_map (λ u. u.line) (find names (uses_from (line + 1) said))
first_line_is test names same line [] = refl
first_line_is test names same line (None ∷ said) = first_line_is test names same (line + 1) said
first_line_is test names same line (Some item ∷ said) =
    one_line names line (use_of (line + 1) item) (test item) _ _ (has_line (line + 1) item) (same (line + 1) item) (first_line_is test names same (line + 1) said)

pub position_is : (test : Item → Bool) (names : CallUse → Bool) → ((line : ℕ) (item : Item) → test item ≡ passes names (use_of line item)) → (said : List (Option Item)) →
    option_map (λ p. p + 1) (position (says test) said) ≡ option_map (λ u. u.line) (find names (uses_from 1 said))
position_is test names same said = ap (option_map (λ p. p + 1)) (position_from-zero (says test) said) ∙ first_line_is test names same 0 said
