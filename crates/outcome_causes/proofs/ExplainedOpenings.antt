-- How the run of a script begins: each seat's program explains its tasks, and those on calls are told of nowhere.
use Rattle.std.proofs.Common.{◌≡◌, ℕ, zero, suc, ◌+◌, ◌-◌, ◌<◌, ◌≤◌, ◌&&◌, Bool, true, false, cond, List, [], ◌∷◌, ◌++◌, map, length, replicate, inl, inr, sym, refl, ap, ◌∙◌, subst, arith}
use Rattle.std.proofs.lemmas.Bool.{true≢false}
use Rattle.std.proofs.lemmas.List.{length-map}
use Rattle.std.specs.Prelude.{Some, slice_get}
use Rattle.std.specs.List.{AllByRecursion, filter}
use Rattle.brpc_model.specs.Order.{EachBefore}
use Rattle.sock_words.specs.declared.plain.Plan.{Plan}
use Rattle.seat_programs.specs.corr_core.specs.declared.marks.Plan.{Plan as IdPlan}
use Rattle.seat_programs.specs.declared.task.Op.{Op}
use Rattle.seat_programs.specs.declared.task.Op.TheVariants as ops
use Rattle.seat_programs.specs.declared.task.Task.{Task}
use Rattle.seat_programs.specs.Programs.{Program, Rest}
use Rattle.seat_programs.specs.ScriptSetupToEnding.{sizes_of, programs, readers_from, all_programs}
use Rattle.seat_programs.specs.Explained.{AreTasks, TaskFits, Differ, IsOpen, goes_well, in_hand_behind, alternate}
use Rattle.outcome_ticks.specs.outcome_stories.specs.OperationStories.{In}
use Rattle.outcome_ticks.specs.outcome_stories.specs.Explains.{Own, Closing, is_plain, plain_tasks}
use Rattle.outcome_ticks.specs.outcome_stories.specs.StoryStepCauses.{Asks}
use Rattle.outcome_ticks.specs.outcome_stories.specs.KeptStory.{IsSpoken}
use Rattle.outcome_ticks.specs.outcome_stories.specs.PlainTasks.{no_tasks, seats_tasks, OwnsCall}
use Rattle.outcome_ticks.specs.outcome_stories.proofs.Members.{all_in, all_of}
use Rattle.outcome_ticks.proofs.TableTasksDistinct.{Apart, InOrder, one_task}
use Rattle.outcome_ticks.proofs.ClientOutcomes.{SaysOf, client_explains}
use Rattle.outcome_ticks.proofs.SilentClosingSteps.{reader_explains}
use Rattle.outcome_causes.proofs.Begin.{IsExplained, AreExplained, length_same}

-- ## Parts of lists

module _ {A : Type 0} (f : A → Bool) where
  filter_all : (P : A → Type 0) (xs : List A) → AllByRecursion P xs → AllByRecursion P (filter f xs)
  filter_all P [] h = tt
  filter_all P (x ∷ xs) h = by_test (f x) (filter_all P xs h.1)
    where
      by_test : (b : Bool) → AllByRecursion P (filter f xs) → AllByRecursion P (cond b (x ∷ filter f xs) (filter f xs))
      by_test true k = (h.0, k)
      by_test false k = k

  filter_each : (R : A → A → Type 0) (xs : List A) → EachBefore R xs → EachBefore R (filter f xs)
  filter_each R [] h = tt
  filter_each R (x ∷ xs) h = by_test (f x) (filter_all (R x) xs h.0) (filter_each R xs h.1)
    where
      by_test : (b : Bool) → AllByRecursion (R x) (filter f xs) → EachBefore R (filter f xs) → EachBefore R (cond b (x ∷ filter f xs) (filter f xs))
      by_test true a k = (a, k)
      by_test false a k = k

  filter_short : (xs : List A) (n : ℕ) → length xs ≤ n → length (filter f xs) ≤ n
  filter_short [] n l = l
  filter_short (x ∷ xs) n l = by_test (f x) (filter_short xs (n - 1) (omega arith))
    where
      by_test : (b : Bool) → length (filter f xs) ≤ n - 1 → length (cond b (x ∷ filter f xs) (filter f xs)) ≤ n
      by_test true k = omega arith
      by_test false k = omega arith

  in_filter : (xs : List A) (x : A) → In x (filter f xs) → In x xs × (f x ≡ true)
  in_filter [] x m = absurd m
  in_filter (y ∷ ys) x m = by_test (f y) refl (in_filter ys x) m
    where
      by_test : (b : Bool) → f y ≡ b → (In x (filter f ys) → In x ys × (f x ≡ true)) → In x (cond b (y ∷ filter f ys) (filter f ys)) → In x (y ∷ ys) × (f x ≡ true)
      by_test true is later (inl e) = (inl e, ap f e ∙ is)
      by_test true is later (inr m) = let t = later m in (inr t.0, t.1)
      by_test false is later m = let t = later m in (inr t.0, t.1)

module _ {A : Type 0} where
  all_append : (P : A → Type 0) (xs ys : List A) → AllByRecursion P xs → AllByRecursion P ys → AllByRecursion P (xs ++ ys)
  all_append P [] ys a b = b
  all_append P (x ∷ xs) ys a b = (a.0, all_append P xs ys a.1 b)

  all_same : (P : A → Type 0) (n : ℕ) (x : A) → P x → AllByRecursion P (replicate n x)
  all_same P zero x h = tt
  all_same P (suc n) x h = (h, all_same P n x h)

  each_append : (R : A → A → Type 0) (xs ys : List A) → EachBefore R xs → EachBefore R ys → AllByRecursion (λ x. AllByRecursion (R x) ys) xs → EachBefore R (xs ++ ys)
  each_append R [] ys a b h = b
  each_append R (x ∷ xs) ys a b h = (all_append (R x) xs ys a.0 h.0, each_append R xs ys a.1 b h.1)

  each_same : (R : A → A → Type 0) (n : ℕ) (x : A) → R x x → EachBefore R (replicate n x)
  each_same R zero x h = tt
  each_same R (suc n) x h = (all_same (R x) n x h, each_same R n x h)

map_all : {A B : Type 0} (f : A → B) (P : B → Type 0) (xs : List A) → AllByRecursion (λ x. P (f x)) xs → AllByRecursion P (map f xs)
map_all f P [] h = tt
map_all f P (x ∷ xs) h = (h.0, map_all f P xs h.1)

map_each : {A B : Type 0} (f : A → B) (R : B → B → Type 0) (xs : List A) → EachBefore (λ x y. R (f x) (f y)) xs → EachBefore R (map f xs)
map_each f R [] h = tt
map_each f R (x ∷ xs) h = (map_all f (R (f x)) xs h.0, map_each f R xs h.1)

before_with : {A : Type 0} (R Q : A → A → Type 0) (g : (a b : A) → R a b → Q a b) (xs : List A) → EachBefore R xs → EachBefore Q xs
before_with R Q g [] h = tt
before_with R Q g (x ∷ xs) h = (all_with xs h.0, before_with R Q g xs h.1)
  where
    all_with : (ys : List _) → AllByRecursion (R x) ys → AllByRecursion (Q x) ys
    all_with [] h = tt
    all_with (y ∷ ys) h = (g x y h.0, all_with ys h.1)

all_with : {A : Type 0} (P Q : A → Type 0) (g : (a : A) → P a → Q a) (xs : List A) → AllByRecursion P xs → AllByRecursion Q xs
all_with P Q g [] h = tt
all_with P Q g (x ∷ xs) h = (g x h.0, all_with P Q g xs h.1)

-- ## Tasks but those on calls

plain_alternates : (n : ℕ) (ts : List Task) (held : Bool) → alternate n held ts ≡ true → alternate n held (plain_tasks ts) ≡ true
plain_alternates n [] held a = a
plain_alternates n (t ∷ ts) held a = by_op t.op (λ h b. plain_alternates n ts h b) a
  where
    both : (x y : Bool) → (x && y) ≡ true → ((y ≡ true) → (z : Bool) → (z ≡ true) → (x && z) ≡ true)
    both true y e q z f = f
    both false y e q z f = absurd (true≢false (sym e))

    right : (x y : Bool) → (x && y) ≡ true → y ≡ true
    right true y e = e
    right false y e = absurd (true≢false (sym e))

    by_op : (op : Op) → ((h : Bool) → alternate n h ts ≡ true → alternate n h (plain_tasks ts) ≡ true) → (goes_well n op held && alternate n (in_hand_behind n op held) ts) ≡ true
        → alternate n held (cond (is_plain op) (record { number = t.number; op = op } ∷ plain_tasks ts) (plain_tasks ts)) ≡ true
    by_op (ops.Call asked) later a = later held a
    by_op (ops.Expire o) later a = later held a
    by_op (ops.Join o) later a = later held a
    by_op (ops.Open m k) later a = let g = right (goes_well n (ops.Open m k) held) (alternate n (in_hand_behind n (ops.Open m k) held) ts) a in
        both (goes_well n (ops.Open m k) held) (alternate n (in_hand_behind n (ops.Open m k) held) ts) a g (alternate n (in_hand_behind n (ops.Open m k) held) (plain_tasks ts)) (later (in_hand_behind n (ops.Open m k) held) g)
    by_op (ops.Send m bytes) later a = let g = right (goes_well n (ops.Send m bytes) held) (alternate n (in_hand_behind n (ops.Send m bytes) held) ts) a in
        both (goes_well n (ops.Send m bytes) held) (alternate n (in_hand_behind n (ops.Send m bytes) held) ts) a g (alternate n (in_hand_behind n (ops.Send m bytes) held) (plain_tasks ts)) (later (in_hand_behind n (ops.Send m bytes) held) g)
    by_op (ops.Hold m) later a = let g = right (goes_well n (ops.Hold m) held) (alternate n (in_hand_behind n (ops.Hold m) held) ts) a in
        both (goes_well n (ops.Hold m) held) (alternate n (in_hand_behind n (ops.Hold m) held) ts) a g (alternate n (in_hand_behind n (ops.Hold m) held) (plain_tasks ts)) (later (in_hand_behind n (ops.Hold m) held) g)
    by_op (ops.Drop m) later a = let g = right (goes_well n (ops.Drop m) held) (alternate n (in_hand_behind n (ops.Drop m) held) ts) a in
        both (goes_well n (ops.Drop m) held) (alternate n (in_hand_behind n (ops.Drop m) held) ts) a g (alternate n (in_hand_behind n (ops.Drop m) held) (plain_tasks ts)) (later (in_hand_behind n (ops.Drop m) held) g)
    by_op (ops.Fail m c) later a = let g = right (goes_well n (ops.Fail m c) held) (alternate n (in_hand_behind n (ops.Fail m c) held) ts) a in
        both (goes_well n (ops.Fail m c) held) (alternate n (in_hand_behind n (ops.Fail m c) held) ts) a g (alternate n (in_hand_behind n (ops.Fail m c) held) (plain_tasks ts)) (later (in_hand_behind n (ops.Fail m c) held) g)

module _ (p : Plan) (clients : List (List Task)) (are : AreTasks p clients) (readers : ℕ) where
  abbrev all_seats : List (List Task)
  all_seats = seats_tasks clients readers

  abbrev others : List (List Task)
  others = replicate (32 - length clients) no_tasks ++ replicate readers no_tasks

  -- what holds of the tasks of each client holds of those of each seat
  of_all : (P : List Task → Type 0) → ((ts : List Task) → P ts → P (plain_tasks ts)) → P no_tasks → AllByRecursion P clients → AllByRecursion P (seats_tasks clients readers)
  of_all P part none_ h = all_append P (map plain_tasks clients) (replicate (32 - length clients) no_tasks ++ replicate readers no_tasks) (map_all plain_tasks P clients (all_with P (λ ts. P (plain_tasks ts)) part clients h))
      (all_append P (replicate (32 - length clients) no_tasks) (replicate readers no_tasks) (all_same P (32 - length clients) no_tasks none_) (all_same P readers no_tasks none_))

  apart_part : (ts us : List Task) → Apart ts us → Apart (plain_tasks ts) (plain_tasks us)
  apart_part ts us h = filter_all (λ (t : Task). is_plain t.op) (λ (t : Task). AllByRecursion (Differ t) (plain_tasks us)) ts
      (all_with (λ (t : Task). AllByRecursion (Differ t) us) (λ (t : Task). AllByRecursion (Differ t) (plain_tasks us)) (λ t k. filter_all (λ (u : Task). is_plain u.op) (Differ t) us k) ts h)

  apart_none : (ts : List Task) → Apart ts no_tasks
  apart_none ts = all_of (λ (t : Task). AllByRecursion (Differ t) no_tasks) ts (λ t m. tt)

  first_seat : (ts : List Task) → slice_get (seats_tasks clients readers) 0 ≡ Some ts → AllByRecursion (λ (t : Task). IsOpen t.op) ts
  first_seat ts e = by_clients clients are.some_ are.setup e
    where
      by_clients : (cs : List (List Task)) → 0 < length cs → ((us : List Task) → slice_get cs 0 ≡ Some us → AllByRecursion (λ (t : Task). IsOpen t.op) us) → slice_get (seats_tasks cs readers) 0 ≡ Some ts → AllByRecursion (λ (t : Task). IsOpen t.op) ts
      by_clients [] some_ setup e = absurd (omega arith)
      by_clients (c ∷ cs) some_ setup e = let same : plain_tasks c ≡ ts = cc in subst (AllByRecursion (λ (t : Task). IsOpen t.op)) same (filter_all (λ (t : Task). is_plain t.op) (λ (t : Task). IsOpen t.op) c (setup c refl))

  some_seat : 0 < length (seats_tasks clients readers)
  some_seat = by_clients clients are.some_
    where
      by_clients : (cs : List (List Task)) → 0 < length cs → 0 < length (seats_tasks cs readers)
      by_clients [] some_ = absurd (omega arith)
      by_clients (c ∷ cs) some_ = omega arith

  -- they are tasks of the table
  pub are_seats : AreTasks p (seats_tasks clients readers)
  are_seats = record {
    some_ = some_seat;
    fit = of_all (AllByRecursion (TaskFits p)) (λ ts h. filter_all (λ (t : Task). is_plain t.op) (TaskFits p) ts h) tt are.fit;
    in_order = of_all (EachBefore InOrder) (λ ts h. filter_each (λ (t : Task). is_plain t.op) InOrder ts h) tt are.in_order;
    differ = each_append Apart (map plain_tasks clients) others (map_each plain_tasks Apart clients (before_with Apart (λ ts us. Apart (plain_tasks ts) (plain_tasks us)) apart_part clients are.differ))
        (each_append Apart (replicate (32 - length clients) no_tasks) (replicate readers no_tasks) (each_same Apart (32 - length clients) no_tasks tt) (each_same Apart readers no_tasks tt)
        (all_same (λ ts. AllByRecursion (Apart ts) (replicate readers no_tasks)) (32 - length clients) no_tasks (all_same (Apart no_tasks) readers no_tasks tt)))
        (all_of (λ ts. AllByRecursion (Apart ts) others) (map plain_tasks clients) (λ ts m. all_append (Apart ts) (replicate (32 - length clients) no_tasks) (replicate readers no_tasks)
        (all_same (Apart ts) (32 - length clients) no_tasks (apart_none ts)) (all_same (Apart ts) readers no_tasks (apart_none ts))));
    setup = first_seat;
    alternating = λ n. of_all (λ ts. alternate n false ts ≡ true) (λ ts h. plain_alternates n ts false h) refl (are.alternating n);
    few = of_all (λ ts. length ts ≤ 4096) (λ ts h. filter_short (λ (t : Task). is_plain t.op) ts 4096 h) (omega arith) are.few;
  }

  -- ## Numbers of calls

  -- a task of a seat is one of its client
  from_seat : (d : ℕ) (t : Task) → Asks (seats_tasks clients readers) d t → Asks clients d t × (is_plain t.op ≡ true)
  from_seat d t a = by_place clients d a.0 a.1 a.2
    where
      none_in : (n k d : ℕ) (ts : List Task) → slice_get (replicate n no_tasks ++ replicate k no_tasks) d ≡ Some ts → In t ts → ⊥
      none_in zero zero d ts e m = absurd (cc)
      none_in zero (suc k) zero ts e m = let same : no_tasks ≡ ts = cc in subst (In t) (sym same) m
      none_in zero (suc k) (suc d) ts e m = none_in zero k d ts e m
      none_in (suc n) k zero ts e m = let same : no_tasks ≡ ts = cc in subst (In t) (sym same) m
      none_in (suc n) k (suc d) ts e m = none_in n k d ts e m

      by_list : (n k : ℕ) (cs : List (List Task)) (d : ℕ) (ts : List Task) → slice_get (map plain_tasks cs ++ (replicate n no_tasks ++ replicate k no_tasks)) d ≡ Some ts → In t ts → Asks cs d t × (is_plain t.op ≡ true)
      by_list n k [] d ts e m = absurd (none_in n k d ts e m)
      by_list n k (c ∷ cs) zero ts e m = let same : plain_tasks c ≡ ts = cc in let x = in_filter (λ (u : Task). is_plain u.op) c t (subst (In t) (sym same) m) in ((c, refl, x.0), x.1)
      by_list n k (c ∷ cs) (suc d) ts e m = let x = by_list n k cs d ts e m in ((x.0.0, x.0.1, x.0.2), x.1)

      by_place : (cs : List (List Task)) (d : ℕ) (ts : List Task) → slice_get (seats_tasks cs readers) d ≡ Some ts → In t ts → Asks cs d t × (is_plain t.op ≡ true)
      by_place cs d ts e m = by_list (32 - length cs) readers cs d ts e m

  -- the number of a task on calls is no other's
  call_spoken : (d : ℕ) (t : Task) → Asks clients d t → is_plain t.op ≡ false → IsSpoken (seats_tasks clients readers) t.number
  call_spoken d t asks other = λ e u a same. let x = from_seat e u a in let one : u ≡ t = (one_task p clients are e d u t x.0 asks same).1 in true≢false (sym x.1 ∙ (ap (λ (z : Task). is_plain z.op) one ∙ other))

  says_of : (d : ℕ) (t : Task) → Asks clients d t → OwnsCall t.number t.op → SaysOf (IsSpoken (seats_tasks clients readers)) t.number t.op
  says_of d t asks owns = by_op t.op refl owns
    where
      by_op : (op : Op) → t.op ≡ op → OwnsCall t.number op → SaysOf (IsSpoken (seats_tasks clients readers)) t.number op
      by_op (ops.Call asked) e own = subst (IsSpoken (seats_tasks clients readers)) (sym own) (call_spoken d t asks (ap is_plain e))
      by_op (ops.Expire o) e own = call_spoken d t asks (ap is_plain e)
      by_op (ops.Join o) e own = call_spoken d t asks (ap is_plain e)
      by_op (ops.Open n k) e own = tt
      by_op (ops.Send n bytes) e own = tt
      by_op (ops.Hold n) e own = tt
      by_op (ops.Drop n) e own = tt
      by_op (ops.Fail n c) e own = tt

  -- ## The programs

  module _ (q : IdPlan) (owns : AllByRecursion (AllByRecursion (λ (t : Task). OwnsCall t.number t.op)) clients) where
    one_client : (seat d : ℕ) (ts : List Task) → slice_get clients d ≡ Some ts → AllByRecursion (λ (t : Task). OwnsCall t.number t.op) ts → ((n : ℕ) → alternate n false ts ≡ true) → IsExplained p (IsSpoken (seats_tasks clients readers)) seat (plain_tasks ts) (Rattle.seat_programs.specs.ClientProgram.client_from (sizes_of p q) [] ts)
    one_client seat d ts at own alt = record {
      way = Own;
      closes = λ e. absurd (cc);
      explains = client_explains p.slots p.requests q.slots (IsSpoken (seats_tasks clients readers)) ts alt
          (all_of (λ (t : Task). SaysOf (IsSpoken (seats_tasks clients readers)) t.number t.op) ts (λ t m. says_of d t (ts, at, m) (all_in (λ (t : Task). OwnsCall t.number t.op) ts t own m))) [];
    }

    clients_explained : (seat d : ℕ) (cs : List (List Task)) → ((i : ℕ) (ts : List Task) → slice_get cs i ≡ Some ts → slice_get clients (d + i) ≡ Some ts) → AllByRecursion (AllByRecursion (λ (t : Task). OwnsCall t.number t.op)) cs → AllByRecursion (λ ts. (n : ℕ) → alternate n false ts ≡ true) cs
        → AreExplained p (IsSpoken (seats_tasks clients readers)) seat (map plain_tasks cs) (programs (sizes_of p q) cs)
    clients_explained seat d [] at own alt = tt
    clients_explained seat d (c ∷ cs) at own alt = (
      one_client seat d c (subst (λ n. slice_get clients n ≡ Some c) (let z : d + 0 ≡ d = omega arith in z) (at 0 c refl)) own.0 alt.0,
      clients_explained (suc seat) (suc d) cs (λ i ts e. subst (λ n. slice_get clients n ≡ Some ts) (let z : d + suc i ≡ suc d + i = omega arith in z) (at (suc i) ts e)) own.1 alt.1,
    )

    rests_explained : (seat n : ℕ) → AreExplained p (IsSpoken (seats_tasks clients readers)) seat (replicate n no_tasks) (replicate n Rest)
    rests_explained seat zero = tt
    rests_explained seat (suc n) = (record { way = Own; closes = λ e. absurd (cc); explains = refl }, rests_explained (suc seat) n)

    readers_explained : (seat : ℕ) → 32 ≤ seat → (calls : List ℕ) (k : ℕ) (os : List ℕ) → AreExplained p (IsSpoken (seats_tasks clients readers)) seat (replicate (length os) no_tasks) (readers_from calls k os)
    readers_explained seat late calls k [] = tt
    readers_explained seat late calls k (o ∷ os) = (
      record { way = Closing; closes = λ e. inr late; explains = reader_explains p.slots p.requests (IsSpoken (seats_tasks clients readers)) [] [] [] calls k o },
      readers_explained (suc seat) (omega arith) calls (k + 1) os,
    )

    explained_on : (seat : ℕ) (xs : List (List Task)) (qs : List Program) (ys : List (List Task)) (rs : List Program) → AreExplained p (IsSpoken (seats_tasks clients readers)) seat xs qs → AreExplained p (IsSpoken (seats_tasks clients readers)) (seat + length xs) ys rs
        → AreExplained p (IsSpoken (seats_tasks clients readers)) seat (xs ++ ys) (qs ++ rs)
    explained_on seat [] [] ys rs a b = subst (λ n. AreExplained p (IsSpoken (seats_tasks clients readers)) n ys rs) (let z : seat + 0 ≡ seat = omega arith in z) b
    explained_on seat [] (r ∷ qs) ys rs a b = absurd a
    explained_on seat (x ∷ xs) [] ys rs a b = absurd a
    explained_on seat (x ∷ xs) (r ∷ qs) ys rs a b = (a.0, explained_on (suc seat) xs qs ys rs a.1 (subst (λ n. AreExplained p (IsSpoken (seats_tasks clients readers)) n ys rs) (let z : seat + suc (length xs) ≡ suc seat + length xs = omega arith in z) b))

    -- each seat's program explains its tasks
    pub all_explained : (calls os : List ℕ) → readers ≡ length os → AreExplained p (IsSpoken (seats_tasks clients readers)) 0 (seats_tasks clients readers) (all_programs (programs (sizes_of p q) clients) (readers_from calls 0 os))
    all_explained calls os many = let n : ℕ = 32 - length clients in let same : length (programs (sizes_of p q) clients) ≡ length clients = length-map clients _ in let plain : length (map plain_tasks clients) ≡ length clients = length-map clients plain_tasks in
        subst (λ z. AreExplained p (IsSpoken (seats_tasks clients readers)) 0 (seats_tasks clients readers) (programs (sizes_of p q) clients ++ (replicate (32 - z) Rest ++ readers_from calls 0 os))) (sym same)
        (explained_on 0 (map plain_tasks clients) (programs (sizes_of p q) clients) (replicate n no_tasks ++ replicate readers no_tasks) (replicate n Rest ++ readers_from calls 0 os)
        (clients_explained 0 0 clients (λ i ts e. subst (λ n. slice_get clients n ≡ Some ts) (let z : i ≡ 0 + i = omega arith in z) e) owns (all_of (λ ts. (n : ℕ) → alternate n false ts ≡ true) clients (λ ts m n. all_in (λ ts. alternate n false ts ≡ true) clients ts (are.alternating n) m)))
        (explained_on (0 + length (map plain_tasks clients)) (replicate n no_tasks) (replicate n Rest) (replicate readers no_tasks) (readers_from calls 0 os) (rests_explained (0 + length (map plain_tasks clients)) n)
        (subst (λ z. AreExplained p (IsSpoken (seats_tasks clients readers)) (0 + length (map plain_tasks clients) + length (replicate n no_tasks)) (replicate z no_tasks) (readers_from calls 0 os)) (sym many)
        (readers_explained (0 + length (map plain_tasks clients) + length (replicate n no_tasks)) (let m = length_same n no_tasks in omega (arith, plain, m)) calls 0 os))))
