-- What depends on the items of the setup and the clients alone stays where the other lines are put elsewhere.
use Rattle.std.proofs.Common.{◌≡◌, ℕ, ◌+◌, Bool, true, false, cond, if◌then◌else◌, ◌||◌, List, [], ◌∷◌, ◌++◌, fold, flat_map, filter, filter_map, count_by, Option, None, refl, ap, sym, ◌∙◌, arith}
use Rattle.std.specs.List.{list_any, cons_option}
use Rattle.std.proofs.lemmas.Bool.{cond-true, cond-false, false≢true, true≢false}
use Rattle.brpc_model.specs.Items.{Item, Seat, Slots, Requests, First, Open, Client, Send, Call, Expire, Join, Fail, Hold, Drop, Sched, Tick, To, is_client, is_open, is_size, is_sched, is_turn, is_operation, mentioned, opened_name}
use Rattle.brpc_model.specs.LinePlaceFaults.{names, with_names, is_held, held_behind}
use Rattle.brpc_model.specs.Operations.{operations, operations_from, link_names, turn_of, schedule}
use Rattle.brpc_model.specs.Script.{is_unserved}
use Rattle.script_print.specs.PrintedParts.{is_body}

-- ## Cases

-- what holds of the lines of sizes and of the schedule
pub other_cases : (P : Item → Type 0) → ((n : ℕ) → P (Slots n)) → ((n : ℕ) → P (Requests n)) → ((v : ℕ) → P (First v)) → P Sched → ((s : Seat) (n : ℕ) → P (Tick s n)) → ((s : Seat) (k : List ℕ) → P (To s k)) → (i : Item) → is_body i ≡ false → P i
other_cases P a b c d t u (Slots n) e = a n
other_cases P a b c d t u (Requests n) e = b n
other_cases P a b c d t u (First v) e = c v
other_cases P a b c d t u (Open name shape) e = absurd (true≢false e)
other_cases P a b c d t u Client e = absurd (true≢false e)
other_cases P a b c d t u (Send name bytes) e = absurd (true≢false e)
other_cases P a b c d t u (Call call) e = absurd (true≢false e)
other_cases P a b c d t u (Expire client number) e = absurd (true≢false e)
other_cases P a b c d t u (Join client number) e = absurd (true≢false e)
other_cases P a b c d t u (Fail name code) e = absurd (true≢false e)
other_cases P a b c d t u (Hold name) e = absurd (true≢false e)
other_cases P a b c d t u (Drop name) e = absurd (true≢false e)
other_cases P a b c d t u Sched e = d
other_cases P a b c d t u (Tick s n) e = t s n
other_cases P a b c d t u (To s k) e = u s k

-- what holds of the lines of the schedule
pub turn_cases : (P : Item → Type 0) → ((s : Seat) (n : ℕ) → P (Tick s n)) → ((s : Seat) (k : List ℕ) → P (To s k)) → (i : Item) → is_turn i ≡ true → P i
turn_cases P t u (Slots n) e = absurd (false≢true e)
turn_cases P t u (Requests n) e = absurd (false≢true e)
turn_cases P t u (First v) e = absurd (false≢true e)
turn_cases P t u (Open name shape) e = absurd (false≢true e)
turn_cases P t u Client e = absurd (false≢true e)
turn_cases P t u (Send name bytes) e = absurd (false≢true e)
turn_cases P t u (Call call) e = absurd (false≢true e)
turn_cases P t u (Expire client number) e = absurd (false≢true e)
turn_cases P t u (Join client number) e = absurd (false≢true e)
turn_cases P t u (Fail name code) e = absurd (false≢true e)
turn_cases P t u (Hold name) e = absurd (false≢true e)
turn_cases P t u (Drop name) e = absurd (false≢true e)
turn_cases P t u Sched e = absurd (false≢true e)
turn_cases P t u (Tick s n) e = t s n
turn_cases P t u (To s k) e = u s k

-- what holds of operations and of `client`
pub body_cases : (P : Item → Type 0) → ((i : Item) → is_size i ≡ false → is_sched i ≡ false → is_turn i ≡ false → P i) → (i : Item) → is_body i ≡ true → P i
body_cases P k (Slots n) e = absurd (false≢true e)
body_cases P k (Requests n) e = absurd (false≢true e)
body_cases P k (First v) e = absurd (false≢true e)
body_cases P k (Open name shape) e = k (Open name shape) refl refl refl
body_cases P k Client e = k Client refl refl refl
body_cases P k (Send name bytes) e = k (Send name bytes) refl refl refl
body_cases P k (Call call) e = k (Call call) refl refl refl
body_cases P k (Expire client number) e = k (Expire client number) refl refl refl
body_cases P k (Join client number) e = k (Join client number) refl refl refl
body_cases P k (Fail name code) e = k (Fail name code) refl refl refl
body_cases P k (Hold name) e = k (Hold name) refl refl refl
body_cases P k (Drop name) e = k (Drop name) refl refl refl
body_cases P k Sched e = absurd (false≢true e)
body_cases P k (Tick s n) e = absurd (false≢true e)
body_cases P k (To s kind) e = absurd (false≢true e)

-- ## Over lists

-- both cases of a test
pub by_test : (test : Bool) (P : Type 0) → (test ≡ true → P) → (test ≡ false → P) → P
by_test true P here there = here refl
by_test false P here there = there refl

pub fold_filter : {A B : Type 0} (f : B → A → B) (q : A → Bool) → ((b : B) (x : A) → q x ≡ false → f b x ≡ b) → (b : B) (xs : List A) → fold f b (filter q xs) ≡ fold f b xs
fold_filter f q h b [] = refl
fold_filter f q h b (x ∷ xs) = by_test (q x) (fold f b (filter q (x ∷ xs)) ≡ fold f (f b x) xs)
    (λ e. ap (fold f b) (cond-true (q x) (x ∷ filter q xs) (filter q xs) e) ∙ fold_filter f q h (f b x) xs)
    (λ e. ap (fold f b) (cond-false (q x) (x ∷ filter q xs) (filter q xs) e) ∙ fold_filter f q h b xs ∙ ap (λ a. fold f a xs) (sym (h b x e)))

pub any_filter : {A : Type 0} (f q : A → Bool) → ((x : A) → q x ≡ false → f x ≡ false) → (xs : List A) → list_any f (filter q xs) ≡ list_any f xs
any_filter f q h [] = refl
any_filter f q h (x ∷ xs) = by_test (q x) (list_any f (filter q (x ∷ xs)) ≡ (f x || list_any f xs))
    (λ e. ap (list_any f) (cond-true (q x) (x ∷ filter q xs) (filter q xs) e) ∙ ap (λ b. f x || b) (any_filter f q h xs))
    (λ e. ap (list_any f) (cond-false (q x) (x ∷ filter q xs) (filter q xs) e) ∙ any_filter f q h xs ∙ ap (λ b. b || list_any f xs) (sym (h x e)))

pub flat_filter : {A B : Type 0} (f : A → List B) (q : A → Bool) → ((x : A) → q x ≡ false → f x ≡ []) → (xs : List A) → flat_map f (filter q xs) ≡ flat_map f xs
flat_filter f q h [] = refl
flat_filter f q h (x ∷ xs) = by_test (q x) (flat_map f (filter q (x ∷ xs)) ≡ f x ++ flat_map f xs)
    (λ e. ap (flat_map f) (cond-true (q x) (x ∷ filter q xs) (filter q xs) e) ∙ ap (λ b. f x ++ b) (flat_filter f q h xs))
    (λ e. ap (flat_map f) (cond-false (q x) (x ∷ filter q xs) (filter q xs) e) ∙ flat_filter f q h xs ∙ ap (λ b. b ++ flat_map f xs) (sym (h x e)))

-- what is put before a list
cons_some : {A B : Type 0} (f : A → Option B) (x : A) (xs : List A) → f x ≡ None → filter_map f (x ∷ xs) ≡ filter_map f xs
cons_some f x xs e = rw e refl

pub map_filter : {A B : Type 0} (f : A → Option B) (q : A → Bool) → ((x : A) → q x ≡ false → f x ≡ None) → (xs : List A) → filter_map f (filter q xs) ≡ filter_map f xs
map_filter f q h [] = refl
map_filter f q h (x ∷ xs) = by_test (q x) (filter_map f (filter q (x ∷ xs)) ≡ filter_map f (x ∷ xs))
    (λ e. ap (filter_map f) (cond-true (q x) (x ∷ filter q xs) (filter q xs) e) ∙ ap (λ ys. cons_option (f x) ys) (map_filter f q h xs))
    (λ e. ap (filter_map f) (cond-false (q x) (x ∷ filter q xs) (filter q xs) e) ∙ map_filter f q h xs ∙ sym (cons_some f x xs (h x e)))

pub filter_twice : {A : Type 0} (p q : A → Bool) → ((x : A) → q x ≡ true → p x ≡ false) → (xs : List A) → filter p (filter q xs) ≡ []
filter_twice p q h [] = refl
filter_twice p q h (x ∷ xs) = by_test (q x) (filter p (filter q (x ∷ xs)) ≡ [])
    (λ e. ap (filter p) (cond-true (q x) (x ∷ filter q xs) (filter q xs) e) ∙ cond-false (p x) (x ∷ filter p (filter q xs)) (filter p (filter q xs)) (h x e) ∙ filter_twice p q h xs)
    (λ e. ap (filter p) (cond-false (q x) (x ∷ filter q xs) (filter q xs) e) ∙ filter_twice p q h xs)

pub filter_again : {A : Type 0} (q : A → Bool) (xs : List A) → filter q (filter q xs) ≡ filter q xs
filter_again q [] = refl
filter_again q (x ∷ xs) = by_test (q x) (filter q (filter q (x ∷ xs)) ≡ filter q (x ∷ xs))
    (λ e. ap (filter q) (cond-true (q x) (x ∷ filter q xs) (filter q xs) e) ∙ cond-true (q x) (x ∷ filter q (filter q xs)) (filter q (filter q xs)) e ∙ ap (λ ys. x ∷ ys) (filter_again q xs) ∙ sym (cond-true (q x) (x ∷ filter q xs) (filter q xs) e))
    (λ e. ap (filter q) (cond-false (q x) (x ∷ filter q xs) (filter q xs) e) ∙ filter_again q xs ∙ sym (cond-false (q x) (x ∷ filter q xs) (filter q xs) e))

-- ## What a script's body tells alone

module _ {B : Type 0} (f : List Item → B) (by_body : (xs : List Item) → f (filter is_body xs) ≡ f xs) where
  pub same_by_body : (a b : List Item) → filter is_body a ≡ filter is_body b → f a ≡ f b
  same_by_body a b e = sym (by_body a) ∙ ap f e ∙ by_body b

count_by_body : (p : Item → Bool) → ((i : Item) → is_body i ≡ false → p i ≡ false) → (xs : List Item) → count_by p (filter is_body xs) ≡ count_by p xs
count_by_body p h xs = fold_filter (λ n i. n + cond (p i) 1 0) is_body (λ n i e. ap (λ t. n + cond t 1 0) (h i e) ∙ plain n) 0 xs
  where
    plain : (n : ℕ) → n + 0 ≡ n
    plain n = omega arith

pub clients_same : (a b : List Item) → filter is_body a ≡ filter is_body b → count_by is_client a ≡ count_by is_client b
clients_same a b e = same_by_body (count_by is_client) (count_by_body is_client (other_cases (λ i. is_client i ≡ false) (λ n. refl) (λ n. refl) (λ n. refl) refl (λ s n. refl) (λ s k. refl))) a b e

pub opens_same : (a b : List Item) → filter is_body a ≡ filter is_body b → count_by is_open a ≡ count_by is_open b
opens_same a b e = same_by_body (count_by is_open) (count_by_body is_open (other_cases (λ i. is_open i ≡ false) (λ n. refl) (λ n. refl) (λ n. refl) refl (λ s n. refl) (λ s k. refl))) a b e

pub operations_count_same : (a b : List Item) → filter is_body a ≡ filter is_body b → count_by is_operation a ≡ count_by is_operation b
operations_count_same a b e = same_by_body (count_by is_operation) (count_by_body is_operation (other_cases (λ i. is_operation i ≡ false) (λ n. refl) (λ n. refl) (λ n. refl) refl (λ s n. refl) (λ s k. refl))) a b e

pub any_same : (p : Item → Bool) → ((i : Item) → is_body i ≡ false → p i ≡ false) → (a b : List Item) → filter is_body a ≡ filter is_body b → list_any p a ≡ list_any p b
any_same p h a b e = same_by_body (list_any p) (any_filter p is_body h) a b e

pub any_client_same : (a b : List Item) → filter is_body a ≡ filter is_body b → list_any is_client a ≡ list_any is_client b
any_client_same a b e = any_same is_client (other_cases (λ i. is_client i ≡ false) (λ n. refl) (λ n. refl) (λ n. refl) refl (λ s n. refl) (λ s k. refl)) a b e

pub unserved_same : (a b : List Item) → filter is_body a ≡ filter is_body b → list_any is_unserved a ≡ list_any is_unserved b
unserved_same a b e = any_same is_unserved (other_cases (λ i. is_unserved i ≡ false) (λ n. refl) (λ n. refl) (λ n. refl) refl (λ s n. refl) (λ s k. refl)) a b e

pub names_same : (a b : List Item) → filter is_body a ≡ filter is_body b → names a ≡ names b
names_same a b e = same_by_body names (λ xs. ap (with_names []) (flat_filter mentioned is_body (other_cases (λ i. mentioned i ≡ []) (λ n. refl) (λ n. refl) (λ n. refl) refl (λ s n. refl) (λ s k. refl)) xs)) a b e

pub held_same : (a b : List Item) (name : List ℕ) → filter is_body a ≡ filter is_body b → is_held a name ≡ is_held b name
held_same a b name e = same_by_body (λ xs. is_held xs name) (λ xs. fold_filter (held_behind name) is_body (λ held i. other_cases (λ i. held_behind name held i ≡ held) (λ n. refl) (λ n. refl) (λ n. refl) refl (λ s n. refl) (λ s k. refl) i) false xs) a b e

pub link_names_same : (a b : List Item) → filter is_body a ≡ filter is_body b → link_names a ≡ link_names b
link_names_same a b e = same_by_body link_names (map_filter opened_name is_body (other_cases (λ i. opened_name i ≡ None) (λ n. refl) (λ n. refl) (λ n. refl) refl (λ s n. refl) (λ s k. refl))) a b e

-- a line of no operation and no client leaves the numbers of the operations
passed : (client number : ℕ) (i : Item) (is : List Item) → is_body i ≡ false → operations_from client number (i ∷ is) ≡ operations_from client number is
passed client number i is e = other_cases (λ j. operations_from client number (j ∷ is) ≡ operations_from client number is) (λ n. refl) (λ n. refl) (λ n. refl) refl (λ s n. refl) (λ s k. refl) i e

operations_of : (client number : ℕ) (xs : List Item) → operations_from client number (filter is_body xs) ≡ operations_from client number xs
operations_of client number [] = refl
operations_of client number (i ∷ is) = by_test (is_body i) (operations_from client number (filter is_body (i ∷ is)) ≡ operations_from client number (i ∷ is))
    (λ e. ap (operations_from client number) (cond-true (is_body i) (i ∷ filter is_body is) (filter is_body is) e) ∙ begun (operations_of (client + 1) 1 is) (operations_of client (number + 1) is) (operations_of client number is) (is_client i) (is_operation i))
    (λ e. ap (operations_from client number) (cond-false (is_body i) (i ∷ filter is_body is) (filter is_body is) e) ∙ operations_of client number is ∙ sym (passed client number i is e))
  where
    begun : operations_from (client + 1) 1 (filter is_body is) ≡ operations_from (client + 1) 1 is → operations_from client (number + 1) (filter is_body is) ≡ operations_from client (number + 1) is → operations_from client number (filter is_body is) ≡ operations_from client number is
        → (c o : Bool) → (if c then operations_from (client + 1) 1 (filter is_body is) else if o then record { client = client; number = number; item = i } ∷ operations_from client (number + 1) (filter is_body is) else operations_from client number (filter is_body is))
        ≡ (if c then operations_from (client + 1) 1 is else if o then record { client = client; number = number; item = i } ∷ operations_from client (number + 1) is else operations_from client number is)
    begun next one same true o = next
    begun next one same false true = ap (λ ops. record { client = client; number = number; item = i } ∷ ops) one
    begun next one same false false = same

pub operations_same : (a b : List Item) → filter is_body a ≡ filter is_body b → operations a ≡ operations b
operations_same a b e = same_by_body operations (operations_of 0 1) a b e

-- ## What the lines of the schedule tell alone

no_turn : (i : Item) → is_turn i ≡ false → turn_of i ≡ None
no_turn (Tick s n) e = absurd (true≢false e)
no_turn (To s k) e = absurd (true≢false e)
no_turn _ e = refl

pub schedule_same : (a b : List Item) → filter is_turn a ≡ filter is_turn b → schedule a ≡ schedule b
schedule_same a b e = sym (map_filter turn_of is_turn no_turn a) ∙ ap schedule e ∙ map_filter turn_of is_turn no_turn b

pub turns_same : (a b : List Item) → filter is_turn a ≡ filter is_turn b → count_by is_turn a ≡ count_by is_turn b
turns_same a b e = sym (of a) ∙ ap (count_by is_turn) e ∙ of b
  where
    plain : (n : ℕ) → n + 0 ≡ n
    plain n = omega arith

    of : (xs : List Item) → count_by is_turn (filter is_turn xs) ≡ count_by is_turn xs
    of xs = fold_filter (λ n i. n + cond (is_turn i) 1 0) is_turn (λ n i e. ap (λ t. n + cond t 1 0) e ∙ plain n) 0 xs
