-- The programs of clients store each life in the word of an `open` of their own, so each life of a run is recorded from the beginning on.
use Rattle.std.proofs.Common.{◌≡◌, ℕ, zero, suc, ◌+◌, ◌<◌, ◌==◌, ◌&&◌, ◌||◌, not, Bool, true, false, eqb-true, eq-eqb, ne_eqb, List, [], ◌∷◌, ◌++◌, map, length, replicate, ◌≤◌, ◌⊎◌, inl, inr, ⊎_elim, refl, sym, ap, ◌∙◌, subst, arith, ◌-◌, ◌*◌, get_or}
use Rattle.std.proofs.lemmas.Bool.{true≢false}
use Rattle.std.specs.List.{AllByRecursion}
use mathlib.Core.Logic.{dite}
use mathlib.Core.Option.{Option, some, none, some-injective, some-ne-none}
use native.Mathlib.Decide.{ℕ_discrete, dec_le}
use lib.ListN.{get_elem?}
use Rattle.sock_words.specs.declared.plain.Plan.{Plan}
use Rattle.seat_programs.specs.brpc_model.specs.Order.{EachBefore}
use Rattle.sock_model.specs.declared.view.View.{View}
use Rattle.sock_model.specs.MarkWeights.{is_born}
use Rattle.sock_model.specs.Marks.{about}
use Rattle.sock_steps.proofs.SumsAsMarksChange.{either_way}
use Rattle.seat_programs.specs.declared.task.Op.{Op}
use Rattle.seat_programs.specs.declared.task.Op.TheVariants as ops
use Rattle.seat_programs.specs.declared.task.Task.{Task}
use Rattle.seat_programs.specs.declared.task.Sizes.{Sizes}
use Rattle.seat_programs.specs.Programs.{Program, Rest, open_from, make_socket, no_socket}
use Rattle.seat_programs.specs.ClientProgram.{HeldLife, operation, client_from}
use Rattle.seat_programs.specs.Cores.{SeatState, resolved, next_step}
use Rattle.seat_programs.specs.ScriptSetupToEnding.{free_slots, opening_words, sizes_of, beginning, programs, readers_from}
use Rattle.sock_model.specs.SocketTableLayout.{all_words, open_index}
use Rattle.seat_programs.specs.corr_core.specs.declared.marks.Plan.{Plan as IdPlan}
use Rattle.seat_programs.specs.Explained.{HaveOwnLinks, Differ, AreTasks}
use Rattle.sock_runs.proofs.FailedLivesEnded.{none_has}
use Rattle.seat_programs.specs.ReaderProgram.{reader}
use Rattle.program_walks.proofs.Records.{but, Records}
use Rattle.program_walks.proofs.Recorded.{Recorded, nothing, records_more}
use Rattle.program_walks.proofs.Through.{any_end, through_any_failed, records_passes, records_opens, records_follow}
use Rattle.program_walks.proofs.ThroughCalls.{through_reader, through_next}
use Rattle.program_walks.proofs.ThroughClients.{through_back, through_any}
use Rattle.sock_words.specs.Totals.{total}

-- ## The operations of a client

abbrev pub is_opening : Op → Bool
is_opening (ops.Open n k) = true
is_opening _ = false

-- whether operation o is an `open` among these tasks
abbrev pub opens_in : List Task → ℕ → Bool
opens_in [] o = false
opens_in (t ∷ ts) o = (is_opening t.op && (t.number == o)) || opens_in ts o

module _ (left : ℕ → Bool) (o name k : ℕ) (mine : left o ≡ true) (next : Program) (after : Records (but o left) next) where
  records_none : Records left (no_socket o k next)
  records_none = λ _ _ _. (mine, λ _. after)

  records_open : (more i : ℕ) → Records left (open_from more i o name k next)
  records_open zero i = records_none
  records_open (suc more) i = λ found. either_way (found == 0) (make_socket o name k i next) (open_from more (i + 1) o name k next) (Records left)
      (λ _ _ _ word. ((o, refl), (mine, λ _ _. after))) (records_open more (i + 1))

-- one operation: an `open` stores in its own word, and the others in none
records_operation : (left : ℕ → Bool) (sizes : Sizes) (held : List HeldLife) (o : ℕ) (next : List HeldLife → Program) (op : Op) → (is_opening op ≡ true → left o ≡ true) → (is_opening op ≡ true → (h : List HeldLife) → Records (but o left) (next h))
    → (is_opening op ≡ false → (h : List HeldLife) → Records left (next h)) → Records left (operation sizes held o next op)
records_operation left sizes held o next (ops.Open name k) mine opened other = records_open left o name k (mine refl) (next held) (opened refl held) sizes.slots 0
records_operation left sizes held o next op mine opened other = through_any (Records left) (records_passes left) sizes held o next op (other refl) (λ name k e. absurd (true≢false (ap is_opening (sym e))))

pub or_cases : (a b : Bool) (P : Type 0) → (a ≡ true → P) → (b ≡ true → P) → (a || b) ≡ true → P
or_cases true b P x y e = x refl
or_cases false b P x y e = y e

pub or_first : (a b : Bool) → a ≡ true → (a || b) ≡ true
or_first true b e = refl
or_first false b e = absurd (true≢false (sym e))

pub or_second : (a b : Bool) → b ≡ true → (a || b) ≡ true
or_second true b e = refl
or_second false b e = e

pub second_true : (a b : Bool) → (a && b) ≡ true → b ≡ true
second_true true b e = e
second_true false b e = absurd (true≢false (sym e))

pub both_true : (a b : Bool) → a ≡ true → b ≡ true → (a && b) ≡ true
both_true true b x y = y
both_true false b x y = x

-- a later task has a greater number
later : (n : ℕ) (R : Task → Type 0) → ((t : Task) → R t → n < t.number) → (ts : List Task) → AllByRecursion R ts → (o : ℕ) → opens_in ts o ≡ true → n < o
later n R less [] all o there = absurd (true≢false (sym there))
later n R less (t ∷ ts) all o there = or_cases (is_opening t.op && (t.number == o)) (opens_in ts o) (n < o)
    (λ here. subst (λ z. n < z) (eqb-true t.number o (second_true (is_opening t.op) (t.number == o) here)) (less t all.0)) (λ more. later n R less ts all.1 o more) there

pub records_client : (sizes : Sizes) (ts : List Task) (held : List HeldLife) (left : ℕ → Bool) → ((o : ℕ) → opens_in ts o ≡ true → left o ≡ true)
    → EachBefore (λ (a b : Task). (a.number < b.number) × HaveOwnLinks a.op b.op) ts → Records left (client_from sizes held ts)
records_client sizes [] held left mine order = through_back (Records left) (records_passes left).sends.plain.words tt held
records_client sizes (t ∷ ts) held left mine order = records_operation left sizes held t.number (λ h. client_from sizes h ts) t.op
    (λ opening. mine t.number (or_first (is_opening t.op && (t.number == t.number)) (opens_in ts t.number) (both_true (is_opening t.op) (t.number == t.number) opening (eq-eqb t.number t.number refl))))
    (λ opening h. records_client sizes ts h (but t.number left) (λ o there. both_true (left o) (not (o == t.number)) (mine o (or_second (is_opening t.op && (t.number == o)) (opens_in ts o) there))
    (ap not (ne_eqb o t.number (λ e. let less = later t.number (λ (b : Task). (t.number < b.number) × HaveOwnLinks t.op b.op) (λ b x. x.0) ts order.0 o there in omega arith)))) order.1)
    (λ _ h. records_client sizes ts h left (λ o there. mine o (or_second (is_opening t.op && (t.number == o)) (opens_in ts o) there)) order.1)

-- ## All clients

-- what holds of each and of each before another, by places
pub all_at : {A : Type 0} (P : A → Type 0) (l : List A) (i : ℕ) (a : A) → AllByRecursion P l → get_elem? l i ≡ some a → P a
all_at P [] i a all at = absurd (some-ne-none a (sym at))
all_at P (x ∷ xs) zero a all at = subst P (some-injective x a at) all.0
all_at P (x ∷ xs) (suc i) a all at = all_at P xs i a all.1 at

before_at : {A : Type 0} (R : A → A → Type 0) (l : List A) (i j : ℕ) (a b : A) → EachBefore R l → i < j → get_elem? l i ≡ some a → get_elem? l j ≡ some b → R a b
before_at R [] i j a b each less at_a at_b = absurd (some-ne-none a (sym at_a))
before_at R (x ∷ xs) i zero a b each less at_a at_b = absurd (omega arith)
before_at R (x ∷ xs) zero (suc j) a b each less at_a at_b = subst (λ y. R y b) (some-injective x a at_a) (all_at (R x) xs j b each.0 at_b)
before_at R (x ∷ xs) (suc i) (suc j) a b each less at_a at_b = before_at R xs i j a b each.1 (omega arith) at_a at_b

pub mapped : {A B : Type 0} (f : A → B) (l : List A) (i : ℕ) (b : B) → get_elem? (map f l) i ≡ some b → (a : A) × (get_elem? l i ≡ some a) × (f a ≡ b)
mapped f [] i b at = absurd (some-ne-none b (sym at))
mapped f (x ∷ xs) zero b at = (x, refl, some-injective (f x) b at)
mapped f (x ∷ xs) (suc i) b at = mapped f xs i b at

pub appended : {A : Type 0} (xs ys : List A) (j : ℕ) (a : A) → get_elem? (xs ++ ys) j ≡ some a → (get_elem? xs j ≡ some a) ⊎ ((k : ℕ) × (get_elem? ys k ≡ some a))
appended [] ys j a at = inr (j, at)
appended (x ∷ xs) ys zero a at = inl at
appended (x ∷ xs) ys (suc j) a at = appended xs ys j a at

-- a task with that number is an `open` of the client
opener : (ts : List Task) (o : ℕ) (P : Task → Type 0) → AllByRecursion P ts → opens_in ts o ≡ true → (t : Task) × P t × (t.number ≡ o)
opener [] o P all there = absurd (true≢false (sym there))
opener (t ∷ ts) o P all there = or_cases (is_opening t.op && (t.number == o)) (opens_in ts o) ((t : Task) × P t × (t.number ≡ o))
    (λ here. (t, all.0, eqb-true t.number o (second_true (is_opening t.op) (t.number == o) here))) (λ more. opener ts o P all.1 more) there

all_same : (n i x : ℕ) → get_or (replicate n x) i x ≡ x
all_same zero i x = refl
all_same (suc n) zero x = refl
all_same (suc n) (suc i) x = all_same n i x

past_zeros : (n : ℕ) (l : List ℕ) (i : ℕ) → length l ≤ i → get_or (l ++ replicate n 0) i 0 ≡ 0
past_zeros n [] i high = all_same n i 0
past_zeros n (x ∷ xs) zero high = absurd (let z : ⊥ = omega (arith, high) in z)
past_zeros n (x ∷ xs) (suc i) high = past_zeros n xs i (omega (arith, high))

many_slots : (first n : ℕ) → length (free_slots first n) ≡ 6 * n
many_slots first zero = refl
many_slots first (suc n) = let m = many_slots first n in omega (arith, m)

-- no word of an operation is stored at the beginning
unstored : (p : Plan) (o : ℕ) → get_or (opening_words p) (open_index p o) 0 ≡ 0
unstored p o = past_zeros (all_words p - 6 * p.slots) (free_slots p.first p.slots) (open_index p o) (let m = many_slots p.first p.slots in omega (arith, m))

module _ (p : Plan) (clients : List (List Task)) (are : AreTasks p clients) where
  -- the operations of which client j stores the words
  abbrev pub own_opens : ℕ → ℕ → Bool
  own_opens j o = elim (get_elem? clients j) as (λ q. Bool) [ none ↦ false | some ts ↦ opens_in ts o ]

  pub own_is : (j o : ℕ) → own_opens j o ≡ true → (ts : List Task) × (get_elem? clients j ≡ some ts) × (opens_in ts o ≡ true)
  own_is j o there = by_client (get_elem? clients j) refl there
    where
      by_client : (q : Option (List Task)) → get_elem? clients j ≡ q → elim q as (λ q. Bool) [ none ↦ false | some ts ↦ opens_in ts o ] ≡ true → (ts : List Task) × (get_elem? clients j ≡ some ts) × (opens_in ts o ≡ true)
      by_client none at e = absurd (true≢false (sym e))
      by_client (some ts) at e = (ts, at, e)

  -- no two clients have one operation
  never_both : (j k o : ℕ) → j < k → own_opens j o ≡ true → own_opens k o ≡ true → ⊥
  never_both j k o less a b = let x = own_is j o a in let y = own_is k o b in
      let differ = before_at (λ (ts us : List Task). AllByRecursion (λ (t : Task). AllByRecursion (Differ t) us) ts) clients j k x.0 y.0 are.differ less x.1 y.1 in
      let t = opener x.0 o (λ (t : Task). AllByRecursion (Differ t) y.0) differ x.2 in let u = opener y.0 o (Differ t.0) t.1 y.2 in u.1.0 (t.2 ∙ sym u.2)

  apart : (j k o : ℕ) → own_opens j o ≡ true → own_opens k o ≡ true → j ≡ k
  apart j k o a b = dite (ℕ_discrete j k) (λ e. e) (λ far. dite (dec_le j k) (λ le. absurd (never_both j k o (omega arith) a b)) (λ gt. absurd (never_both k j o (omega arith) b a)))

  -- no life is made before the first step; behind the clients' seats stand some that make none
  pub beginning_recorded : (q : IdPlan) (others : List Program) → ((k : ℕ) (x : Program) → get_elem? others k ≡ some x → Records nothing x) → (Q : ℕ → ℕ → Type 0) → ((j o : ℕ) → own_opens j o ≡ true → Q j o)
      → (vs : List View) → ((j : ℕ) (v : View) → get_elem? vs j ≡ some v → v.marks ≡ []) → Recorded p Q (beginning p q (programs (sizes_of p q) clients ++ others)) vs
  beginning_recorded q others still Q among vs blank = record {
    left = own_opens;
    among = among;
    apart = apart;
    records = λ j seat at. let a = mapped (λ (program : Program). record { program = next_step (resolved [] program); hand = [] }) (programs (sizes_of p q) clients ++ others) j seat at in
        subst (λ (s : SeatState). Records (own_opens j) s.program) a.2 (through_next (Records (own_opens j)) (records_passes (own_opens j)) (records_follow (own_opens j)) [] a.0 (⊎_elim
        (λ mine. let b = mapped (client_from (sizes_of p q) []) clients j a.0 mine in subst (Records (own_opens j)) b.2
        (records_client (sizes_of p q) b.0 [] (own_opens j) (λ o there. ap (λ q. elim q as (λ q. Bool) [ none ↦ false | some ts ↦ opens_in ts o ]) b.1 ∙ there)
        (all_at (EachBefore (λ (a b : Task). (a.number < b.number) × HaveOwnLinks a.op b.op)) clients j b.0 are.in_order b.1)))
        (λ other. records_more a.0 nothing (own_opens j) (λ o e. absurd (true≢false (sym e))) (still other.0 a.0 other.1))
        (appended (programs (sizes_of p q) clients) others j a.0 a.1)));
    once = λ o inside some_ j. absurd (some_ (unstored p o));
    lives = λ i h inside born. let none_ = none_has (is_born h) i vs (λ j v at. ap (λ l. total (is_born h) (about i l)) (blank j v at)) in absurd (omega (arith, born, none_));
  }

-- neither a reader nor a seat that has nothing to do makes a life
readers_still : (calls os : List ℕ) (k i : ℕ) (x : Program) → get_elem? (readers_from calls k os) i ≡ some x → Records nothing x
readers_still calls [] k i x at = absurd (some-ne-none x (sym at))
readers_still calls (o ∷ os) k zero x at = subst (Records nothing) (some-injective (reader calls k o) x at) (through_reader any_end (Records nothing) (records_passes nothing).reads (λ how e. through_any_failed (Records nothing) (records_passes nothing) how.code) tt (records_opens nothing) calls k o)
readers_still calls (o ∷ os) k (suc i) x at = readers_still calls os (k + 1) i x at

pub others_still : (n : ℕ) (calls os : List ℕ) (k i : ℕ) (x : Program) → get_elem? (replicate n Rest ++ readers_from calls k os) i ≡ some x → Records nothing x
others_still zero calls os k i x at = readers_still calls os k i x at
others_still (suc n) calls os k zero x at = subst (Records nothing) (some-injective Rest x at) tt
others_still (suc n) calls os k (suc i) x at = others_still n calls os k i x at
