-- The sums of a run are those of its first operations together with those of the others.
use Rattle.std.proofs.Common.{◌≡◌, ℕ, zero, suc, ◌+◌, ◌<◌, ◌≤◌, Bool, true, false, cond, if◌then◌else◌, List, [], ◌∷◌, length, drop, map, slice_get, slice_index_or, Option, Some, None, Bor, refl, sym, ap, ◌∙◌, subst, arith}
use Rattle.std.specs.Prelude.{zip, filter, MatchOption, HoldsAt}
use Rattle.std.proofs.lemmas.List.{drop_more, drop_all}
use Rattle.std.proofs.lemmas.Option.{same_Some}
use Rattle.std.proofs.lemmas.List.Sums.{sum_by-cons}
use Rattle.sock_words.specs.declared.outcome.Outcome.{Outcome}
use Rattle.sock_words.specs.declared.place_word.PlaceWord.{PlaceWord}
use Rattle.brpc_model.specs.Items.{Item, Client, is_call, is_operation}
use Rattle.brpc_model.specs.Operations.{Operation, operations_from}
use Rattle.brpc_model.specs.PlaceWords.{outcome_of, outcomes_from}
use Rattle.script_items.specs.declared.line.Line.{Line}
use Rattle.script_items.specs.LineMeaning.{item}
use Rattle.script_report.specs.declared.sums.Sums.{Sums}
use Rattle.script_report.specs.RunSummary.{AreFew, one_of, together, told_of, sums_of, is_send, is_placed_send, is_answered_call, is_other, placed_bytes, answered_bytes}

-- those of operations of these lines with these outcomes
abbrev pub sums_behind : List Item → List Outcome → Sums
sums_behind items outcomes = sums_of (zip (filter is_operation items) outcomes)

-- an item in front of the operations behind it, where it is one
item_first : (b : Bool) (client number : ℕ) (item : Item) (own same : List Operation) (items : List Item) → map (λ (op : Operation). op.item) own ≡ items → map (λ (op : Operation). op.item) same ≡ items →
    map (λ (op : Operation). op.item) (if b then record { client = client; number = number; item = item } ∷ own else same) ≡ (if b then item ∷ items else items)
item_first true client number item own same items of_own of_same = ap (λ l. item ∷ l) of_own
item_first false client number item own same items of_own of_same = of_same

-- the operations of a script are its lines that are operations
pub items_are : (client number : ℕ) (items : List Item) → map (λ (op : Operation). op.item) (operations_from client number items) ≡ filter is_operation items
items_are client number [] = refl
items_are client number (Client ∷ items) = items_are (client + 1) 1 items
items_are client number (item ∷ items) =
    item_first (is_operation item) client number item (operations_from client (number + 1) items) (operations_from client number items) (filter is_operation items) (items_are client (number + 1) items) (items_are client number items)

pub sums_cons : (item : Item) (outcome : Outcome) (told : List (Item × Outcome)) → sums_of ((item, outcome) ∷ told) ≡ together (one_of item outcome) (sums_of told)
sums_cons item outcome told = λ i. record {
  sends = sum_by-cons (λ (x : Item × Outcome). cond (is_send x.0) 1 0) (item, outcome) told i;
  placed = sum_by-cons (λ (x : Item × Outcome). cond (is_placed_send x.0 x.1) 1 0) (item, outcome) told i;
  placed_bytes = sum_by-cons (λ (x : Item × Outcome). placed_bytes x.0 x.1) (item, outcome) told i;
  calls = sum_by-cons (λ (x : Item × Outcome). cond (is_call x.0) 1 0) (item, outcome) told i;
  answered = sum_by-cons (λ (x : Item × Outcome). cond (is_answered_call x.0 x.1) 1 0) (item, outcome) told i;
  answered_bytes = sum_by-cons (λ (x : Item × Outcome). answered_bytes x.0 x.1) (item, outcome) told i;
  other = sum_by-cons (λ (x : Item × Outcome). cond (is_other x.0 x.1) 1 0) (item, outcome) told i;
}

plus : (a b c : ℕ) → (a + b) + c ≡ a + (b + c)
plus a b c = omega arith

pub together_assoc : (a b c : Sums) → together (together a b) c ≡ together a (together b c)
together_assoc a b c = λ i. record {
  sends = plus a.sends b.sends c.sends i;
  placed = plus a.placed b.placed c.placed i;
  placed_bytes = plus a.placed_bytes b.placed_bytes c.placed_bytes i;
  calls = plus a.calls b.calls c.calls i;
  answered = plus a.answered b.answered c.answered i;
  answered_bytes = plus a.answered_bytes b.answered_bytes c.answered_bytes i;
  other = plus a.other b.other c.other i;
}

-- ## Along the lines

first : (n : ℕ) → 0 + n ≡ n
first n = omega arith

last : (n : ℕ) → n + 0 ≡ n
last n = omega arith

none_before : (s : Sums) → together (record { sends = 0; placed = 0; placed_bytes = 0; calls = 0; answered = 0; answered_bytes = 0; other = 0 }) s ≡ s
none_before s = λ i. record { sends = first s.sends i; placed = first s.placed i; placed_bytes = first s.placed_bytes i; calls = first s.calls i; answered = first s.answered i; answered_bytes = first s.answered_bytes i; other = first s.other i }

none_behind : (s : Sums) → together s (record { sends = 0; placed = 0; placed_bytes = 0; calls = 0; answered = 0; answered_bytes = 0; other = 0 }) ≡ s
none_behind s = λ i. record { sends = last s.sends i; placed = last s.placed i; placed_bytes = last s.placed_bytes i; calls = last s.calls i; answered = last s.answered i; answered_bytes = last s.answered_bytes i; other = last s.other i }

pub sums_begun : (script : List Item) (outcomes : List Outcome) → together (record { sends = 0; placed = 0; placed_bytes = 0; calls = 0; answered = 0; answered_bytes = 0; other = 0 }) (sums_behind script outcomes) ≡ sums_of (told_of script outcomes)
sums_begun script outcomes = none_before (sums_behind script outcomes) ∙ ap (λ (l : List Item). sums_of (zip l outcomes)) (sym (items_are 0 1 script))

-- a line that is no operation counts nothing
pub sums_passed : (sums all : Sums) (item : Item) (items : List Item) (outcomes : List Outcome) → is_operation item ≡ false → together sums (sums_behind (item ∷ items) outcomes) ≡ all → together sums (sums_behind items outcomes) ≡ all
sums_passed sums all item items outcomes passed before = ap (λ b. together sums (sums_of (zip (cond b (item ∷ filter is_operation items) (filter is_operation items)) outcomes))) (sym passed) ∙ before

-- an operation with its outcome is counted
pub sums_more : (sums one new all : Sums) (item : Item) (items : List Item) (outcome : Outcome) (outcomes : List Outcome) → is_operation item ≡ true → one ≡ one_of item outcome → new ≡ together sums one →
    together sums (sums_behind (item ∷ items) (outcome ∷ outcomes)) ≡ all → together new (sums_behind items outcomes) ≡ all
sums_more sums one new all item items outcome outcomes counts is grown before =
    ap (λ s. together s (sums_behind items outcomes)) (grown ∙ ap (together sums) is)
    ∙ together_assoc sums (one_of item outcome) (sums_behind items outcomes)
    ∙ ap (together sums) (sym (sums_cons item outcome (zip (filter is_operation items) outcomes)))
    ∙ ap (λ b. together sums (sums_of (zip (cond b (item ∷ filter is_operation items) (filter is_operation items)) (outcome ∷ outcomes)))) (sym counts)
    ∙ before

-- behind the last outcome nothing is counted
without : (items : List Item) → zip {K = Item} {X = Outcome} items [] ≡ []
without [] = refl
without (item ∷ items) = refl

pub sums_spent : (sums all : Sums) (item : Item) (items : List Item) → together sums (sums_behind (item ∷ items) []) ≡ all → together sums (sums_behind items []) ≡ all
sums_spent sums all item items before = ap (λ (l : List (Item × Outcome)). together sums (sums_of l)) (without (filter is_operation items) ∙ sym (without (filter is_operation (item ∷ items)))) ∙ before

pub sums_ended : (sums all : Sums) (outcomes : List Outcome) → together sums (sums_behind [] outcomes) ≡ all → sums ≡ all
sums_ended sums all outcomes before = sym (none_behind sums) ∙ before

-- ## One line more

-- what a lookup that found nothing tells
pub none_there : {A : Type 0} (r : Option (Bor A)) (xs : List A) (i : ℕ) → r ≡ None → MatchOption r (length xs ≤ i) (λ (y : Bor A). (i < length xs) × HoldsAt (λ z. y.now ≡ z) xs i) → length xs ≤ i
none_there {A} r xs i e h = subst (λ (o : Option (Bor A)). MatchOption o (length xs ≤ i) (λ (y : Bor A). (i < length xs) × HoldsAt (λ z. y.now ≡ z) xs i)) e h

-- what more is left of a list
taken_off : {A : Type 0} (xs : List A) (i : ℕ) (x : A) → slice_get xs i ≡ Some x → drop i xs ≡ x ∷ drop (i + 1) xs
taken_off [] i x e = absurd (cc)
taken_off (y ∷ ys) zero x e = ap (λ z. z ∷ ys) (same_Some y x e)
taken_off (y ∷ ys) (suc i) x e = let next : suc i + 1 ≡ suc (i + 1) = omega arith in taken_off ys i x e ∙ ap (λ m. x ∷ drop m (y ∷ ys)) (sym next)

module _ (lines : List Line) (words : List PlaceWord) (said : List (Option Outcome)) (i : ℕ) (line : Line) (inside : i < length lines) (is_line : line ≡ slice_index_or lines i line) where
  left_is : drop i lines ≡ line ∷ drop (i + 1) lines
  left_is = drop_more lines i line inside ∙ ap (λ x. x ∷ drop (i + 1) lines) (sym is_line)

  -- an operation with its outcome
  pub told_more : (n next : ℕ) (here : Option Outcome) (sums one new all : Sums) → slice_get said n ≡ Some here → next ≡ n + 1 → is_operation (item line) ≡ true → one ≡ one_of (item line) (outcome_of words n here) → new ≡ together sums one →
      together sums (sums_behind (map item (drop i lines)) (outcomes_from words n (drop n said))) ≡ all →
      together new (sums_behind (map item (drop (i + 1) lines)) (outcomes_from words next (drop next said))) ≡ all
  told_more n next here sums one new all there follows counts is grown before =
      ap (λ m. together new (sums_behind (map item (drop (i + 1) lines)) (outcomes_from words m (drop m said)))) follows
      ∙ sums_more sums one new all (item line) (map item (drop (i + 1) lines)) (outcome_of words n here) (outcomes_from words (n + 1) (drop (n + 1) said)) counts is grown
      (ap (λ (l : List Line). together sums (sums_behind (map item l) (outcome_of words n here ∷ outcomes_from words (n + 1) (drop (n + 1) said)))) (sym left_is)
      ∙ ap (λ (os : List (Option Outcome)). together sums (sums_behind (map item (drop i lines)) (outcomes_from words n os))) (sym (taken_off said n here there)) ∙ before)

  -- an operation behind the last outcome
  pub told_spent : (n next : ℕ) (sums new all : Sums) → new ≡ sums → length said ≤ n → length said ≤ next →
      together sums (sums_behind (map item (drop i lines)) (outcomes_from words n (drop n said))) ≡ all →
      together new (sums_behind (map item (drop (i + 1) lines)) (outcomes_from words next (drop next said))) ≡ all
  told_spent n next sums new all same spent still before =
      ap (λ s. together s (sums_behind (map item (drop (i + 1) lines)) (outcomes_from words next (drop next said)))) same
      ∙ ap (λ (os : List (Option Outcome)). together sums (sums_behind (map item (drop (i + 1) lines)) (outcomes_from words next os))) (drop_all next said still)
      ∙ sums_spent sums all (item line) (map item (drop (i + 1) lines))
      (ap (λ (l : List Line). together sums (sums_behind (map item l) [])) (sym left_is)
      ∙ ap (λ (os : List (Option Outcome)). together sums (sums_behind (map item (drop i lines)) (outcomes_from words n os))) (sym (drop_all n said spent)) ∙ before)

  -- another line
  told_passed : (n : ℕ) (sums all : Sums) → is_operation (item line) ≡ false →
      together sums (sums_behind (map item (drop i lines)) (outcomes_from words n (drop n said))) ≡ all →
      together sums (sums_behind (map item (drop (i + 1) lines)) (outcomes_from words n (drop n said))) ≡ all
  told_passed n sums all passed before = sums_passed sums all (item line) (map item (drop (i + 1) lines)) (outcomes_from words n (drop n said)) passed
      (ap (λ (l : List Line). together sums (sums_behind (map item l) (outcomes_from words n (drop n said)))) (sym left_is) ∙ before)

  pub told_passed_on : (n next : ℕ) (sums new all : Sums) → new ≡ sums → next ≡ n → is_operation (item line) ≡ false →
      together sums (sums_behind (map item (drop i lines)) (outcomes_from words n (drop n said))) ≡ all →
      together new (sums_behind (map item (drop (i + 1) lines)) (outcomes_from words next (drop next said))) ≡ all
  told_passed_on n next sums new all same still passed before =
      ap (λ s. together s (sums_behind (map item (drop (i + 1) lines)) (outcomes_from words next (drop next said)))) same
      ∙ ap (λ m. together sums (sums_behind (map item (drop (i + 1) lines)) (outcomes_from words m (drop m said)))) still
      ∙ told_passed n sums all passed before

pub told_out : (lines : List Line) (words : List PlaceWord) (said : List (Option Outcome)) (i n : ℕ) (sums all : Sums) → length lines ≤ i → together sums (sums_behind (map item (drop i lines)) (outcomes_from words n (drop n said))) ≡ all → sums ≡ all
told_out lines words said i n sums all end_ before = sums_ended sums all (outcomes_from words n (drop n said)) (ap (λ (l : List Line). together sums (sums_behind (map item l) (outcomes_from words n (drop n said)))) (sym (drop_all i lines end_)) ∙ before)

-- ## So many operations

pub few_more : (n next : ℕ) (sums one new : Sums) → AreFew n sums → AreFew 1 one → next ≡ n + 1 → new ≡ together sums one → AreFew next new
few_more n next sums one new few single follows grown = subst (λ s. AreFew next s) (sym grown) (record {
  sends = omega (arith, few.sends, single.sends, follows);
  placed = omega (arith, few.placed, single.placed, follows);
  placed_bytes = omega (arith, few.placed_bytes, single.placed_bytes, follows);
  calls = omega (arith, few.calls, single.calls, follows);
  answered = omega (arith, few.answered, single.answered, follows);
  answered_bytes = omega (arith, few.answered_bytes, single.answered_bytes, follows);
  other = omega (arith, few.other, single.other, follows);
})

pub few_still : (n next : ℕ) (sums new : Sums) → AreFew n sums → n ≤ next → new ≡ sums → AreFew next new
few_still n next sums new few follows same = subst (λ s. AreFew next s) (sym same) (record {
  sends = omega (arith, few.sends, follows);
  placed = omega (arith, few.placed, follows);
  placed_bytes = omega (arith, few.placed_bytes, follows);
  calls = omega (arith, few.calls, follows);
  answered = omega (arith, few.answered, follows);
  answered_bytes = omega (arith, few.answered_bytes, follows);
  other = omega (arith, few.other, follows);
})
