-- The calls that `expire` and `join` name: each stands in the script, and by client and number it is one operation.
use Rattle.std.proofs.Common.{◌≡◌, ℕ, zero, suc, ◌+◌, ◌<◌, ◌≤◌, ◌==◌, ◌&&◌, ◌||◌, ◌⊎◌, inl, inr, Bool, true, false, not, cond, if◌then◌else◌, List, [], ◌∷◌, fold, position, length, nat_lt, slice_get, Option, Some, None, Ok, Err, refl, ap, sym, ◌∙◌, subst, arith}
use Rattle.std.proofs.lemmas.Bool.Decides.{nat_tests}
use Rattle.std.specs.List.{list_any, position_or_len}
use Rattle.std.specs.Str.Lines.{lines}
use Rattle.brpc_model.specs.Items.{Item, Expire, Join, is_open, is_call}
use Rattle.brpc_model.specs.Operations.{Operation, operations_from, operations}
use Rattle.brpc_model.specs.Script.{Faulty, items, with_line, whole, fault_at, says, is_lost, may_hang, is_the_call, script_of}
use Rattle.seat_programs.specs.Tasks.{numbered, numbered_from, number_of}
use Rattle.script_facts.proofs.FilteredLists.{Has, has_first, has_later, has_none, some_is, filter_map_has}
use Rattle.script_facts.proofs.OperationNumbering.{behind_item}

-- ## By client and number

-- the operation is of this client from this number on, or of a later one
abbrev AtLeast : ℕ → ℕ → Operation → Type 0
AtLeast client number op = (client < op.client) ⊎ ((op.client ≡ client) × (number ≤ op.number))

abbrev AllLeast : ℕ → ℕ → List Operation → Type 0
AllLeast client number ops = (i : ℕ) (op : Operation) → slice_get ops i ≡ Some op → AtLeast client number op

more_least : (client number : ℕ) (op : Operation) → AtLeast client (number + 1) op → AtLeast client number op
more_least client number op (inl h) = inl h
more_least client number op (inr h) = inr (h.0, omega (arith, h.1))

next_least : (client number : ℕ) (op : Operation) → AtLeast (client + 1) 1 op → AtLeast client number op
next_least client number op (inl h) = inl (omega (arith, h))
next_least client number op (inr h) = inl (omega (arith, h.0))

first_least : (client number : ℕ) (item : Item) (ops : List Operation) → AllLeast client (number + 1) ops → AllLeast client number ((record { client = client; number = number; item = item }) ∷ ops)
first_least client number item ops again zero op e =
    let first : Operation = record { client = client; number = number; item = item } in
    let P : Operation → Type 0 = λ x. AtLeast client number x in
    subst P (some_is first op e) (inr (refl, omega arith))
first_least client number item ops again (suc i) op e = more_least client number op (again i op e)

at_least : (client number : ℕ) (items : List Item) → AllLeast client number (operations_from client number items)
at_least client number [] = λ i op e. absurd (cc)
at_least client number (item ∷ items) =
    let next : AllLeast (client + 1) 1 (operations_from (client + 1) 1 items) = at_least (client + 1) 1 items in
    let own : AllLeast client (number + 1) (operations_from client (number + 1) items) = at_least client (number + 1) items in
    let same : AllLeast client number (operations_from client number items) = at_least client number items in
    behind_item client number item items (AllLeast client number)
    (λ c i op e. next_least client number op (next i op e))
    (λ c o. first_least client number item (operations_from client (number + 1) items) own)
    (λ c o. same)

-- no two operations have one client and one number
abbrev Apart : List Operation → Type 0
Apart ops = (i j : ℕ) (p q : Operation) → i < j → slice_get ops i ≡ Some p → slice_get ops j ≡ Some q → p.client ≡ q.client → p.number ≡ q.number → ⊥

first_apart : (client number : ℕ) (item : Item) (ops : List Operation) → AllLeast client (number + 1) ops → Apart ops → Apart ((record { client = client; number = number; item = item }) ∷ ops)
first_apart client number item ops least again i zero p q less e f own same = omega (arith, less)
first_apart client number item ops least again zero (suc j) p q less e f own same =
    let first : Operation = record { client = client; number = number; item = item } in
    let is = some_is first p e in
    let client_is : client ≡ q.client = ap (λ (x : Operation). x.client) is ∙ own in
    let number_is : number ≡ q.number = ap (λ (x : Operation). x.number) is ∙ same in
    by_case client_is number_is (least j q f)
  where
    by_case : client ≡ q.client → number ≡ q.number → AtLeast client (number + 1) q → ⊥
    by_case c n (inl h) = omega (arith, h, c)
    by_case c n (inr h) = omega (arith, h.1, n)
first_apart client number item ops least again (suc i) (suc j) p q less e f own same = again i j p q (omega (arith, less)) e f own same

apart : (client number : ℕ) (items : List Item) → Apart (operations_from client number items)
apart client number [] = λ i j p q less e f own same. absurd (cc)
apart client number (item ∷ items) =
    let next : Apart (operations_from (client + 1) 1 items) = apart (client + 1) 1 items in
    let own : Apart (operations_from client (number + 1) items) = apart client (number + 1) items in
    let same : Apart (operations_from client number items) = apart client number items in
    behind_item client number item items Apart
    (λ c. next)
    (λ c o. first_apart client number item (operations_from client (number + 1) items) (at_least client (number + 1) items) own)
    (λ c o. same)

-- ## The number that is found

both_true : (a b c d : ℕ) → a ≡ b → c ≡ d → ((a == b) && (c == d)) ≡ true
both_true a b c d e f = grind (arith, nat_tests)

both_false : (a b c d : ℕ) → (a ≡ b → c ≡ d → ⊥) → ((a == b) && (c == d)) ≡ false
both_false a b c d other = elim ((a == b) && (c == d)) as (λ x. ((a == b) && (c == d)) ≡ x → x ≡ false) [
  | true ↦ λ t. let first : a ≡ b = grind (arith, nat_tests) in
      let second : c ≡ d = grind (arith, nat_tests) in absurd (other first second)
  | false ↦ λ t. refl
] refl

found : (c k : ℕ) (ops : List Operation) (place link t : ℕ) (q : Operation) → slice_get ops t ≡ Some q → q.client ≡ c → q.number ≡ k →
    ((i : ℕ) (p : Operation) → i < t → slice_get ops i ≡ Some p → p.client ≡ c → p.number ≡ k → ⊥) → number_of (numbered_from place link ops) c k ≡ place + t
found c k [] place link t q e own same none = absurd (cc)
found c k (o ∷ ops) place link zero q e own same none =
    let is = some_is o q e in
    let here : ((o.client == c) && (o.number == k)) ≡ true = both_true o.client c o.number k (ap (λ (x : Operation). x.client) is ∙ own) (ap (λ (x : Operation). x.number) is ∙ same) in
    let first : place ≡ place + 0 = omega arith in
    ap (λ b. cond b place (number_of (numbered_from (place + 1) (if is_open o.item then link + 1 else link) ops) c k)) here ∙ first
found c k (o ∷ ops) place link (suc t) q e own same none =
    let other : ((o.client == c) && (o.number == k)) ≡ false = both_false o.client c o.number k (λ x y. none zero o (omega arith) refl x y) in
    let next : (place + 1) + t ≡ place + suc t = omega arith in
    ap (λ b. cond b place (number_of (numbered_from (place + 1) (if is_open o.item then link + 1 else link) ops) c k)) other
    ∙ found c k ops (place + 1) (if is_open o.item then link + 1 else link) t q e own same (λ i p less f x y. none (suc i) p (omega (arith, less)) f x y)
    ∙ next

-- an operation is found under its client and number
pub target_is : (script : List Item) (c k t : ℕ) (q : Operation) → slice_get (operations script) t ≡ Some q → q.client ≡ c → q.number ≡ k → number_of (numbered script) c k ≡ t
target_is script c k t q e own same =
    let zero_ : 0 + t ≡ t = omega arith in
    found c k (operations script) 0 0 t q e own same (λ i p less f x y. apart 0 1 script i t p q less f e (x ∙ sym own) (y ∙ sym same)) ∙ zero_

-- ## Each is there

any_some : {A : Type 0} (test : A → Bool) (xs : List A) → list_any test xs ≡ true → (x : A) × Has xs x × (test x ≡ true)
any_some {A} test [] e = absurd (cc)
any_some {A} test (x ∷ xs) e = elim (test x) as (λ b. test x ≡ b → (b || list_any test xs) ≡ true → (y : A) × Has (x ∷ xs) y × (test y ≡ true)) [
  | true ↦ λ t f. (x, has_first x xs, t)
  | false ↦ λ t f. let w = any_some test xs f in (w.0, has_later x xs w.0 w.1, w.2)
] refl e

-- the call that is operation t is `C.I`
pub record IsTarget (script : List Item) (c k t : ℕ) : Type 0 where
  pub call : Operation
  pub there : slice_get (operations script) t ≡ Some call
  pub own : call.client ≡ c
  pub number : call.number ≡ k
  pub is : is_call call.item ≡ true

the_call : (c k : ℕ) (q : Operation) → is_the_call c k q ≡ true → (q.client ≡ c) × (q.number ≡ k) × (is_call q.item ≡ true)
the_call c k q e =
    let first : q.client ≡ c = grind (arith, nat_tests) in
    let second : q.number ≡ k = grind (arith, nat_tests) in
    let third : is_call q.item ≡ true = grind (arith, nat_tests) in
    (first, second, third)

not_false : (b : Bool) → not b ≡ false → b ≡ true
not_false true e = refl
not_false false e = absurd (cc)

target : (script : List Item) (c k : ℕ) → not (list_any (is_the_call c k) (operations script)) ≡ false → IsTarget script c k (number_of (numbered script) c k)
target script c k e =
    let w = any_some (is_the_call c k) (operations script) (not_false _ e) in
    let is = the_call c k w.0 w.2 in
    let place = target_is script c k w.1.0 w.0 w.1.1 is.0 is.1 in
    record { call = w.0; there = ap (slice_get (operations script)) place ∙ w.1.1; own = is.0; number = is.1; is = is.2 }

-- the calls that a script's operations name stand in it
abbrev pub AreThere : List Item → Type 0
AreThere script = (item : Item) → Has script item → is_lost script item ≡ false

pub expired : (script : List Item) → AreThere script → (c k : ℕ) → Has script (Expire c k) → IsTarget script c k (number_of (numbered script) c k)
expired script there c k h = target script c k (there (Expire c k) h)

pub joined : (script : List Item) → AreThere script → (c k : ℕ) → Has script (Join c k) → IsTarget script c k (number_of (numbered script) c k)
joined script there c k h = target script c k (there (Join c k) h)

-- ## So it is in each script that was read

past_len : {A : Type 0} (test : A → Bool) (xs : List A) (x : A) → Has xs x → test x ≡ true → position_or_len test xs < length xs
past_len test [] x h e = absurd (has_none x h)
past_len test (y ∷ ys) x h e = elim (test y) as (λ b. test y ≡ b → cond {A = ℕ} (not b) (1 + position_or_len test ys) 0 < suc (length ys)) [
  | true ↦ λ t. omega arith
  | false ↦ λ t. omega (arith, past_len test ys x (later h t) e)
] refl
  where
    later : Has (y ∷ ys) x → test y ≡ false → Has ys x
    later (zero, f) t = absurd (let no : true ≡ false = sym e ∙ ap test (sym (some_is y x f)) ∙ t in cc)
    later (suc i, f) t = (i, f)

none_passes : {A : Type 0} (test : A → Bool) (xs : List A) (x : A) → position test xs ≡ None → Has xs x → test x ≡ false
none_passes test xs x e h = elim (test x) as (λ b. test x ≡ b → b ≡ false) [
  | true ↦ λ t.
      let low : nat_lt (position_or_len test xs) (length xs) ≡ true = grind (arith, nat_tests, past_len test xs x h t) in
      let some_ : Some (position_or_len test xs) ≡ None = ap {B = Option ℕ} (λ b. cond b (Some (position_or_len test xs)) None) (sym low) ∙ e in
      absurd (cc)
  | false ↦ λ t. refl
] refl

none_lost : (said : List (Option Item)) (script : List Item) (o : Option ℕ) → position (says (is_lost (items said))) said ≡ o → fault_at o 10 (fault_at (position (says (may_hang (items said))) said) 11 (Ok (items said))) ≡ Ok script →
    (items said ≡ script) × AreThere (items said)
none_lost said script (Some place) p e = absurd (cc)
none_lost said script None p e = (
  kept (position (says (may_hang (items said))) said) e,
  λ item h.
      let w = filter_map_has (λ (i : Option Item). i) said item h in
      sym (ap (says (is_lost (items said))) w.2) ∙ none_passes (says (is_lost (items said))) said w.0 p w.1,
)
  where
    kept : (o : Option ℕ) → fault_at o 11 (Ok (items said)) ≡ Ok script → items said ≡ script
    kept (Some place) f = absurd (cc)
    kept None f = cc

by_whole : (read : Faulty (List (Option Item))) (script : List Item) → whole read ≡ Ok script → AreThere script
by_whole (Err fault) script e = absurd (cc)
by_whole (Ok said) script e = let w = none_lost said script (position (says (is_lost (items said))) said) refl e in subst AreThere w.0 w.1

pub are_there : (bytes : List ℕ) (script : List Item) → script_of bytes ≡ Ok script → AreThere script
are_there bytes script e = by_whole (fold with_line (Ok []) (lines bytes)) script e
