-- Tasks are read again from their bytes.
use Rattle.std.proofs.Common.{◌≡◌, ℕ, ◌+◌, ◌*◌, ◌/◌, ◌<◌, ◌≤◌, suc, zero, Bool, true, false, nat_le, ◌&&◌, if◌then◌else◌, Option, None, Some, List, [], ◌∷◌, ◌++◌, length, take, drop, flat_map, refl, sym, ap, ◌∙◌, arith, append_assoc, length-append}
use Rattle.std.specs.Option.{option_to_list}
use Rattle.std.specs.Int.{w64, to_be_bytes, from_be_bytes}
use Rattle.std.proofs.lemmas.Nat.{from_be_bytes-to_be_bytes_4, from_be_bytes-to_be_bytes_8}
use Rattle.std.proofs.lemmas.Bool.Decides.{nat_tests}
use Rattle.std.proofs.Math.Seq.{take-append_seam, drop-append-add}
use mathlib.Core.Option.{some, some-injective, some-ne-none}
use lib.ListN.{get_elem?}
use Rattle.exec_queue.specs.declared.task.Task.{Task}
use Rattle.exec_queue.specs.EndedQueue.{IsWhole, AllWhole}
use Rattle.exec_queue.specs.Tasks.{task_bytes, task_of, tasks_upto, tasks_of}

chosen : (c : Bool) (x y : Task) → c ≡ true → x ≡ y → (if c then Some x else None) ≡ Some y
chosen true x y e is = ap Some is
chosen false x y e is = absurd (cc)

all_true : (a b c d e : Bool) → a ≡ true → b ≡ true → c ≡ true → d ≡ true → e ≡ true → (a && (b && (c && (d && e)))) ≡ true
all_true true true true true true _ _ _ _ _ = refl
all_true false b c d e p _ _ _ _ = absurd (cc)
all_true true false c d e _ p _ _ _ = absurd (cc)
all_true true true false d e _ _ p _ _ = absurd (cc)
all_true true true true false e _ _ _ p _ = absurd (cc)
all_true true true true true false _ _ _ _ p = absurd (cc)

le_true : (m n : ℕ) → m ≤ n → nat_le m n ≡ true
le_true m n h = grind (arith, nat_tests)

-- of its own bytes the task comes
pub task_again : (t : Task) → IsWhole t → task_of (task_bytes t) ≡ Some t
task_again t is =
    let k = is.task in
    let some_ : nat_le 1 t.kind ≡ true = le_true 1 t.kind k.some_kind in
    let kind : nat_le t.kind 3 ≡ true = le_true t.kind 3 k.kind in
    let a : nat_le t.a 15 ≡ true = le_true t.a 15 k.a in
    let b : nat_le t.b 15 ≡ true = le_true t.b 15 k.b in
    chosen _ _ t (all_true (nat_le 1 t.kind) (nat_le t.kind 3) (nat_le t.a 15) (nat_le t.b 15) true some_ kind a b refl)
    (ap (λ (n : ℕ). record { kind = t.kind; a = t.a; b = t.b; line = n; amount = from_be_bytes w64 (to_be_bytes w64 t.amount) }) (from_be_bytes-to_be_bytes_4 t.line is.line)
    ∙ ap (λ (n : ℕ). record { kind = t.kind; a = t.a; b = t.b; line = t.line; amount = n }) (from_be_bytes-to_be_bytes_8 t.amount is.amount))

pub sixteen : (t : Task) → length (task_bytes t) ≡ 16
sixteen t = refl

-- ## Many tasks

module _ (part : List ℕ) where
  abbrev bytes_of_all : List Task → List ℕ
  bytes_of_all ts = flat_map task_bytes ts ++ part

  next_piece : (t : Task) (ts : List Task) (m : ℕ) → drop (16 + m) (bytes_of_all (t ∷ ts)) ≡ drop m (bytes_of_all ts)
  next_piece t ts m = ap (drop (16 + m)) (append_assoc (task_bytes t) (flat_map task_bytes ts) part) ∙ drop-append-add (task_bytes t) (bytes_of_all ts) m

  first_piece : (t : Task) (ts : List Task) → take 16 (bytes_of_all (t ∷ ts)) ≡ task_bytes t
  first_piece t ts = ap (take 16) (append_assoc (task_bytes t) (flat_map task_bytes ts) part) ∙ take-append_seam (task_bytes t) (bytes_of_all ts)

  -- the sixteen bytes of one
  piece_of : (ts : List Task) (n : ℕ) (t : Task) → get_elem? ts n ≡ some t → take 16 (drop (16 * n) (bytes_of_all ts)) ≡ task_bytes t
  piece_of [] n t at = absurd (some-ne-none t (sym at))
  piece_of (x ∷ xs) zero t at = first_piece x xs ∙ ap task_bytes (some-injective x t at)
  piece_of (x ∷ xs) (suc n) t at = ap (λ (m : ℕ). take 16 (drop m (bytes_of_all (x ∷ xs)))) (let e : 16 * suc n ≡ 16 + 16 * n = omega arith in e) ∙ (ap (take 16) (next_piece x xs (16 * n)) ∙ piece_of xs n t at)

  some_at : {A : Type 0} (l : List A) (i : ℕ) → i < length l → (a : A) × (get_elem? l i ≡ some a)
  some_at [] i h = absurd (omega arith)
  some_at (x ∷ xs) zero h = (x, refl)
  some_at (x ∷ xs) (suc i) h = some_at xs i (omega arith)

  take_next : {A : Type 0} (l : List A) (i : ℕ) (a : A) → get_elem? l i ≡ some a → take (suc i) l ≡ take i l ++ a ∷ []
  take_next [] i a at = absurd (some-ne-none a (sym at))
  take_next (x ∷ xs) zero a at = ap (λ y. y ∷ []) (some-injective x a at)
  take_next (x ∷ xs) (suc i) a at = ap (λ l. x ∷ l) (take_next xs i a at)

  take_whole : {A : Type 0} (l : List A) → take (length l) l ≡ l
  take_whole [] = refl
  take_whole (x ∷ xs) = ap (λ l. x ∷ l) (take_whole xs)

  first_tasks : (ts : List Task) → AllWhole ts → (n : ℕ) → n ≤ length ts → tasks_upto n (bytes_of_all ts) ≡ take n ts
  first_tasks ts whole zero le = refl
  first_tasks ts whole (suc n) le =
      let w = some_at ts n (omega arith) in
      ap (λ (xs : List Task). xs ++ option_to_list (task_of (take 16 (drop (16 * n) (bytes_of_all ts))))) (first_tasks ts whole n (omega arith))
      ∙ (ap (λ (b : List ℕ). take n ts ++ option_to_list (task_of b)) (piece_of ts n w.0 w.1)
      ∙ (ap (λ (o : Option Task). take n ts ++ option_to_list o) (task_again w.0 (whole n w.0 w.1)) ∙ sym (take_next ts n w.0 w.1)))

  pub bytes_long : (ts : List Task) → length (bytes_of_all ts) ≡ 16 * length ts + length part
  bytes_long [] = omega arith
  bytes_long (t ∷ ts) = ap length (append_assoc (task_bytes t) (flat_map task_bytes ts) part) ∙ (length-append (task_bytes t) (bytes_of_all ts) ∙ (let e = bytes_long ts in let s = sixteen t in omega arith))

  -- the tasks among their bytes are these
  pub tasks_again : (ts : List Task) → AllWhole ts → length part < 16 → tasks_of (bytes_of_all ts) ≡ ts
  tasks_again ts whole few = ap (λ (n : ℕ). tasks_upto n (bytes_of_all ts)) (let e = bytes_long ts in let q : length (bytes_of_all ts) / 16 ≡ length ts = omega arith in q) ∙ (first_tasks ts whole (length ts) (omega arith) ∙ take_whole ts)
