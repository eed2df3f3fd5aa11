-- What each kind of change of an id word is counted for.
use Rattle.std.proofs.Common.{◌≡◌, ◌≢◌, ℕ, zero, suc, ◌+◌, ◌-◌, ◌*◌, ◌<◌, ◌≤◌, Bool, true, false, List, length, set, refl, sym, ap, ap₂, ◌∙◌, subst, arith, cond, eqb, eq-eqb, get_or-set_other}
use Rattle.std.specs.Prelude.{slice_index}
use Rattle.seat_programs.specs.corr_core.specs.IdSlotWord.{Parts, parts, made_word, locked_word, posted_word, unlocked_word, free_word}
use Rattle.seat_programs.specs.corr_core.specs.declared.marks.Plan.{Plan as IdPlan}
use Rattle.seat_programs.specs.id_rule.specs.LawfulIdTable.{tag_index, id_index, call_index, at_index}
use Rattle.seat_programs.specs.PostPrograms.{packed}
use Rattle.sock_runs.specs.program_steps.specs.TicksLeftAtMost.{ERROR, attempt_cost, popped_gain, id_left, ids_left}
use Rattle.sock_runs.specs.program_steps.proofs.AsideStepsPass.{packed_attempt, packed_range}
use Rattle.runs_end.proofs.IdsLeft.{ids_set, made_left, freed_left, locked_left, queued_left, unlocked_left}
use Rattle.sock_words.specs.PackedWords.{bit}

-- ## Words

packed_state : (w : Parts) → w.state < 4 → 1 ≤ w.range → w.range ≤ 8 → w.attempt < 8 → w.oldest < 32768 → w.second < 32768 → (parts (packed w)).state ≡ w.state
packed_state w st r1 r a o s = omega arith

packed_oldest : (w : Parts) → w.oldest < 32768 → w.second < 32768 → (parts (packed w)).oldest ≡ w.oldest
packed_oldest w o s = omega arith

packed_second : (w : Parts) → w.second < 32768 → (parts (packed w)).second ≡ w.second
packed_second w s = omega arith

-- what a word is counted for, it is packed
packed_left : (requests : ℕ) (w : Parts) → w.state < 4 → 1 ≤ w.range → w.range ≤ 8 → w.attempt < 8 → w.oldest < 32768 → w.second < 32768 → id_left requests (parts (packed w)) ≡ id_left requests w
packed_left requests w st r1 r a o s = let e1 : (parts (packed w)).state ≡ w.state = packed_state w st r1 r a o s in let e2 : (parts (packed w)).range ≡ w.range = packed_range w r1 r a o s in let e3 : (parts (packed w)).attempt ≡ w.attempt = packed_attempt w r a o s in
    let e4 : (parts (packed w)).oldest ≡ w.oldest = packed_oldest w o s in let e5 : (parts (packed w)).second ≡ w.second = packed_second w s in
    λ j. id_left requests record { first = w.first; state = e1 j; range = e2 j; attempt = e3 j; oldest = e4 j; second = e5 j }

-- the fields of any word have these sizes
range_sized : (w : ℕ) → (parts w).range ≤ 8
range_sized w = omega arith

range_some : (w : ℕ) → 1 ≤ (parts w).range
range_some w = omega arith

attempt_sized : (w : ℕ) → (parts w).attempt < 8
attempt_sized w = omega arith

oldest_sized : (w : ℕ) → (parts w).oldest < 32768
oldest_sized w = omega arith

second_sized : (w : ℕ) → (parts w).second < 32768
second_sized w = omega arith

locked_packed : (requests from : ℕ) → id_left requests (parts (packed (locked_word (parts from)))) ≡ id_left requests (locked_word (parts from))
locked_packed requests from = packed_left requests (locked_word (parts from)) (omega arith) (range_some from) (range_sized from) (attempt_sized from) (oldest_sized from) (second_sized from)

posted_open : (from e : ℕ) → (parts from).state ≡ 1 → posted_word (parts from) e ≡ locked_word (parts from)
posted_open from e one = ap (λ b. cond b (locked_word (parts from)) record { first = (parts from).first; state = 2; range = (parts from).range; attempt = (parts from).attempt; oldest = cond (eqb (parts from).oldest 0) e (parts from).oldest; second = cond (eqb (parts from).oldest 0) 0 e }) (eq-eqb (parts from).state 1 one)

small_of : (b : Bool) (m n : ℕ) → m < 32768 → n < 32768 → cond b m n < 32768
small_of true m n a c = a
small_of false m n a c = c

posted_locked : (from e : ℕ) → (parts from).state ≡ 2 → posted_word (parts from) e ≡ record { first = (parts from).first; state = 2; range = (parts from).range; attempt = (parts from).attempt; oldest = cond (eqb (parts from).oldest 0) e (parts from).oldest; second = cond (eqb (parts from).oldest 0) 0 e }
posted_locked from e two = ap (λ n. cond (eqb n 1) (locked_word (parts from)) record { first = (parts from).first; state = 2; range = (parts from).range; attempt = (parts from).attempt; oldest = cond (eqb (parts from).oldest 0) e (parts from).oldest; second = cond (eqb (parts from).oldest 0) 0 e }) two

queued_packed : (requests from e : ℕ) → (parts from).state ≡ 2 → e < 32768 → id_left requests (parts (packed (posted_word (parts from) e))) ≡ id_left requests (posted_word (parts from) e)
queued_packed requests from e two small = subst (λ (w : Parts). id_left requests (parts (packed w)) ≡ id_left requests w) (sym (posted_locked from e two))
    (packed_left requests record { first = (parts from).first; state = 2; range = (parts from).range; attempt = (parts from).attempt; oldest = cond (eqb (parts from).oldest 0) e (parts from).oldest; second = cond (eqb (parts from).oldest 0) 0 e }
    (omega arith) (range_some from) (range_sized from) (attempt_sized from) (small_of (eqb (parts from).oldest 0) e (parts from).oldest small (oldest_sized from)) (small_of (eqb (parts from).oldest 0) 0 e (omega arith) small))

state_of : (b : Bool) → cond b 1 2 < 4
state_of true = omega arith
state_of false = omega arith

unlocked_packed : (requests from more : ℕ) → (parts from).attempt + more + 2 ≤ (parts from).range → id_left requests (parts (packed (unlocked_word (parts from) more))) ≡ id_left requests (unlocked_word (parts from) more)
unlocked_packed requests from more room = packed_left requests (unlocked_word (parts from) more) (state_of (eqb (parts from).oldest 0)) (range_some from) (range_sized from) (omega (arith, room, range_sized from)) (second_sized from) (omega arith)

-- ## All ids

count_sum : (a b c d x y : ℕ) → a + b ≡ c + d → d + y ≤ b + x → a + y ≤ c + x
count_sum a b c d x y set_ le = omega (arith, set_, le)

module _ (requests : ℕ) (ws : List ℕ) (i n : ℕ) (inside : id_index i < length ws) (slot : i < n) where
  -- a new call has its attempts
  pub made_counts : (first range : ℕ) → 2 ≤ range → range ≤ 8 → ids_left requests (set ws (id_index i) (packed (made_word first range))) n ≤ ids_left requests ws n + (range - 2) * attempt_cost requests
  made_counts first range low high = let w : ℕ = packed (made_word first range) in
      let is : id_left requests (parts (packed (made_word first range))) ≡ (range - 2) * attempt_cost requests = packed_left requests (made_word first range) (omega arith) (omega (arith, low)) high (omega arith) (omega arith) (omega arith) ∙ made_left requests first range in
      made_sum (ids_left requests (set ws (id_index i) (packed (made_word first range))) n) (id_left requests (parts (slice_index ws (id_index i)))) (ids_left requests ws n) (id_left requests (parts (packed (made_word first range)))) ((range - 2) * attempt_cost requests) (ids_set requests ws i (packed (made_word first range)) inside n slot) is
    where
      made_sum : (a b c d x : ℕ) → a + b ≡ c + d → d ≡ x → a ≤ c + x
      made_sum a b c d x set_ is = omega (arith, set_, is)

  pub ended_counts : (first : ℕ) → ids_left requests (set ws (id_index i) (packed (free_word first))) n ≤ ids_left requests ws n
  ended_counts first = let is : id_left requests (parts (packed (free_word first))) ≡ 0 = packed_left requests (free_word first) (omega arith) (omega arith) (omega arith) (omega arith) (omega arith) (omega arith) ∙ freed_left requests first in
      ended_sum (ids_left requests (set ws (id_index i) (packed (free_word first))) n) (id_left requests (parts (slice_index ws (id_index i)))) (ids_left requests ws n) (id_left requests (parts (packed (free_word first)))) (ids_set requests ws i (packed (free_word first)) inside n slot) is
    where
      ended_sum : (a b c d : ℕ) → a + b ≡ c + d → d ≡ 0 → a ≤ c
      ended_sum a b c d set_ is = omega (arith, set_, is)

  module _ (from : ℕ) (found : slice_index ws (id_index i) ≡ from) where
    old_is : id_left requests (parts (slice_index ws (id_index i))) ≡ id_left requests (parts from)
    old_is = ap (λ w. id_left requests (parts w)) found

    counts : (w x y : ℕ) → id_left requests (parts w) + y ≤ id_left requests (parts from) + x → ids_left requests (set ws (id_index i) w) n + y ≤ ids_left requests ws n + x
    counts w x y le = count_sum (ids_left requests (set ws (id_index i) w) n) (id_left requests (parts (slice_index ws (id_index i)))) (ids_left requests ws n) (id_left requests (parts w)) x y (ids_set requests ws i w inside n slot)
        (subst (λ m. id_left requests (parts w) + y ≤ m + x) (sym old_is) le)

    same_sum : (a b : ℕ) → a ≡ b → a + 0 ≤ b + 0
    same_sum a b is = omega (arith, is)

    -- an open id is locked
    pub locked_counts : (e : ℕ) → (parts from).state ≡ 1 → ids_left requests (set ws (id_index i) (packed (posted_word (parts from) e))) n + 0 ≤ ids_left requests ws n + 0
    locked_counts e one = counts (packed (posted_word (parts from) e)) 0 0 (same_sum (id_left requests (parts (packed (posted_word (parts from) e)))) (id_left requests (parts from))
        (ap (λ (w : Parts). id_left requests (parts (packed w))) (posted_open from e one) ∙ (locked_packed requests from ∙ locked_left requests (parts from) one)))

    -- an error is queued
    pub queued_counts : (e : ℕ) → (parts from).state ≡ 2 → (parts from).second ≡ 0 → e < 32768 → ids_left requests (set ws (id_index i) (packed (posted_word (parts from) e))) n + 0 ≤ ids_left requests ws n + ERROR
    queued_counts e two room small = counts (packed (posted_word (parts from) e)) ERROR 0
        (queued_sum (id_left requests (parts (packed (posted_word (parts from) e)))) (id_left requests (posted_word (parts from) e)) (id_left requests (parts from)) (queued_packed requests from e two small) (queued_left requests (parts from) e two room))
      where
        queued_sum : (a b c : ℕ) → a ≡ b → b ≤ c + ERROR → a + 0 ≤ c + ERROR
        queued_sum a b c is le = omega (arith, is, le)

    -- a lock is given back
    pub unlocked_counts : (advance : Bool) → 0 < (parts from).state → (parts from).attempt + bit advance + 2 ≤ (parts from).range
        → ids_left requests (set ws (id_index i) (packed (unlocked_word (parts from) (bit advance)))) n + (popped_gain from + cond advance (attempt_cost requests) 0) ≤ ids_left requests ws n + 0
    unlocked_counts advance some_ room = counts (packed (unlocked_word (parts from) (bit advance))) 0 (popped_gain from + cond advance (attempt_cost requests) 0)
        (unlocked_sum (id_left requests (parts (packed (unlocked_word (parts from) (bit advance))))) (id_left requests (unlocked_word (parts from) (bit advance))) (popped_gain from + cond advance (attempt_cost requests) 0) (id_left requests (parts from))
        (unlocked_packed requests from (bit advance) room) (unlocked_left requests (parts from) advance some_ room))
      where
        unlocked_sum : (a b y c : ℕ) → a ≡ b → b + y ≤ c → a + y ≤ c + 0
        unlocked_sum a b y c is le = omega (arith, is, le)

-- ## Words beside them

-- a word that is none of the ids' changes none of them
beside_same : (ws : List ℕ) (x w : ℕ) → ((j : ℕ) → id_index j ≢ x) → (j : ℕ) → slice_index (set ws x w) (id_index j) ≡ slice_index ws (id_index j)
beside_same ws x w other j = get_or-set_other ws x (id_index j) w 0 (λ e. other j e)

pub tag_same : (ws : List ℕ) (i w : ℕ) (j : ℕ) → slice_index (set ws (tag_index i) w) (id_index j) ≡ slice_index ws (id_index j)
tag_same ws i w = beside_same ws (tag_index i) w (λ j e. omega (arith, e))

pub call_same : (q : IdPlan) (ws : List ℕ) (o w : ℕ) (j : ℕ) → slice_index (set ws (call_index q o) w) (id_index j) ≡ slice_index ws (id_index j)
call_same q ws o w = beside_same ws (call_index q o) w (λ j e. omega (arith, e))

-- an at word is none of the table's ids
pub at_counts : (requests : ℕ) (q : IdPlan) (ws : List ℕ) (o w : ℕ) (n : ℕ) → n ≤ q.slots → ids_left requests (set ws (at_index q o) w) n ≡ ids_left requests ws n
at_counts requests q ws o w zero few = refl
at_counts requests q ws o w (suc n) few = ap₂ (λ a b. a + b) (ap (λ x. id_left requests (parts x)) (get_or-set_other ws (at_index q o) (id_index n) w 0 (λ e. omega (arith, e, few)))) (at_counts requests q ws o w n (omega (arith, few)))
