-- What is counted for ids falls by what a step on an id word gains, and rises by what it costs at most.
use Rattle.std.proofs.Common.{◌≡◌, ◌≢◌, ℕ, zero, suc, ◌+◌, ◌-◌, ◌*◌, ◌<◌, ◌≤◌, Bool, true, false, List, [], ◌∷◌, length, set, refl, sym, ap, ap₂, ◌∙◌, subst, arith, cond, eqb, eqb-true, get_or-set_same, get_or-set_other}
use mathlib.Core.Logic.{dite}
use native.Mathlib.Decide.{ℕ_discrete}
use Rattle.std.specs.Prelude.{slice_index, Some}
use Rattle.seat_programs.specs.corr_core.specs.IdSlotWord.{Parts, parts, made_word, locked_word, posted_word, unlocked_word, free_word}
use Rattle.seat_programs.specs.id_rule.specs.LawfulIdTable.{id_index}
use Rattle.seat_programs.specs.LoopHeads.{Head, Posts, Unlocks, Locks}
use Rattle.seat_programs.specs.Programs.{Program, Round}
use Rattle.seat_programs.specs.Cores.{SeatState}
use Rattle.sock_runs.specs.program_steps.specs.TicksLeftAtMost.{STALE, ERROR, attempt_cost, expected, expects, stale_cost, queued_errors, id_left, ids_left}
use Rattle.sock_words.specs.PackedWords.{id_slot}
use Rattle.sock_words.specs.Totals.{total}

-- ## Stale words

stale_small : (b : Bool) → cond b 0 STALE ≤ STALE
stale_small true = omega arith
stale_small false = omega arith

one_stale : (words : List ℕ) (x : ℕ × ℕ) → total (stale_cost words) (x ∷ []) ≤ STALE
one_stale words x = let small = stale_small (eqb (slice_index words (id_index x.0)) x.1) in omega (arith, small)

head_stale : (words : List ℕ) (head : Head) → total (stale_cost words) (expected head) ≤ STALE
head_stale words (Posts id e w) = one_stale words (id_slot id, w)
head_stale words (Unlocks i w advance) = one_stale words (i, w)
head_stale words (Locks i sought (Some w)) = one_stale words (i, w)
head_stale words _ = omega arith

seat_stale : (words : List ℕ) (program : Program) → total (stale_cost words) (expects program) ≤ STALE
seat_stale words (Round head next) = head_stale words head
seat_stale words _ = omega arith

-- whatever the words are, each seat counts for at most this
pub all_stale : (words : List ℕ) (seats : List SeatState) → total (λ (s : SeatState). total (stale_cost words) (expects s.program)) seats ≤ STALE * length seats
all_stale words [] = omega arith
all_stale words (s ∷ seats) = let one = seat_stale words s.program in let rest = all_stale words seats in omega (arith, one, rest)

-- ## One id

-- an attempt more
one_more : (k a : ℕ) → suc k * a ≡ k * a + a
one_more k a = omega arith

left_by : (requests : ℕ) (w : Parts) → 0 < w.state → id_left requests w ≡ (w.range - (2 + w.attempt)) * attempt_cost requests + queued_errors w
left_by requests w some_ = by_state (eqb w.state 0) refl
  where
    by_state : (b : Bool) → eqb w.state 0 ≡ b → cond b 0 ((w.range - (2 + w.attempt)) * attempt_cost requests + queued_errors w) ≡ (w.range - (2 + w.attempt)) * attempt_cost requests + queued_errors w
    by_state true is = absurd (let z = eqb-true w.state 0 is in omega (arith, z, some_))
    by_state false is = refl

-- a new id has all its attempts
pub made_left : (requests first range : ℕ) → id_left requests (made_word first range) ≡ (range - 2) * attempt_cost requests
made_left requests first range = omega arith

pub freed_left : (requests first : ℕ) → id_left requests (free_word first) ≡ 0
freed_left requests first = refl

-- a lock counts as the open id did
pub locked_left : (requests : ℕ) (w : Parts) → w.state ≡ 1 → id_left requests (locked_word w) ≡ id_left requests w
locked_left requests w is_open = sym (left_by requests w (omega (arith, is_open)))

-- an error that is queued counts
pub queued_left : (requests : ℕ) (w : Parts) (e : ℕ) → w.state ≡ 2 → w.second ≡ 0 → id_left requests (posted_word w e) ≤ id_left requests w + ERROR
queued_left requests w e locked room =
    subst (λ (x : Parts). id_left requests x ≤ id_left requests w + ERROR) (sym (ap (λ n. cond (eqb n 1) (locked_word w) (record { first = w.first; state = 2; range = w.range; attempt = w.attempt; oldest = cond (eqb w.oldest 0) e w.oldest; second = cond (eqb w.oldest 0) 0 e })) locked))
    (subst (λ n. (w.range - (2 + w.attempt)) * attempt_cost requests + (cond (eqb (cond (eqb w.oldest 0) e w.oldest) 0) 0 ERROR + cond (eqb (cond (eqb w.oldest 0) 0 e) 0) 0 ERROR) ≤ n + ERROR) (sym (left_by requests w (omega (arith, locked))))
    (by_oldest (eqb w.oldest 0) (eqb e 0) refl (eqb w.second 0)))
  where
    by_oldest : (o z : Bool) → eqb w.oldest 0 ≡ o → (s : Bool)
        → (w.range - (2 + w.attempt)) * attempt_cost requests + (cond (eqb (cond o e w.oldest) 0) 0 ERROR + cond (eqb (cond o 0 e) 0) 0 ERROR) ≤ (w.range - (2 + w.attempt)) * attempt_cost requests + (cond o 0 ERROR + cond s 0 ERROR) + ERROR
    by_oldest true z is s = let a = error_small (eqb e 0) in omega (arith, a)
      where
        error_small : (b : Bool) → cond b 0 ERROR ≤ ERROR
        error_small true = omega arith
        error_small false = omega arith
    by_oldest false z is s = let a = error_small (eqb e 0) in let b = ap (λ (t : Bool). cond t 0 ERROR) is in omega (arith, a, b)
      where
        error_small : (b : Bool) → cond b 0 ERROR ≤ ERROR
        error_small true = omega arith
        error_small false = omega arith

-- an unlocking takes an error out, and advances the attempt or doesn't
pub unlocked_left : (requests : ℕ) (w : Parts) (advance : Bool) → 0 < w.state → w.attempt + cond advance 1 0 + 2 ≤ w.range
    → id_left requests (unlocked_word w (cond advance 1 0)) + (cond (eqb w.oldest 0) 0 ERROR + cond advance (attempt_cost requests) 0) ≤ id_left requests w
unlocked_left requests w advance some_ room =
    subst (λ n. id_left requests (unlocked_word w (cond advance 1 0)) + (cond (eqb w.oldest 0) 0 ERROR + cond advance (attempt_cost requests) 0) ≤ n) (sym (left_by requests w some_))
    (subst (λ n. n + (cond (eqb w.oldest 0) 0 ERROR + cond advance (attempt_cost requests) 0) ≤ (w.range - (2 + w.attempt)) * attempt_cost requests + queued_errors w) (sym (left_by requests (unlocked_word w (cond advance 1 0)) (still (eqb w.oldest 0))))
    (by_advance advance room))
  where
    still : (b : Bool) → 0 < cond b 1 2
    still true = omega arith
    still false = omega arith

    by_advance : (a : Bool) → w.attempt + cond a 1 0 + 2 ≤ w.range
        → (w.range - (2 + (w.attempt + cond a 1 0))) * attempt_cost requests + (cond (eqb w.second 0) 0 ERROR + 0) + (cond (eqb w.oldest 0) 0 ERROR + cond a (attempt_cost requests) 0) ≤ (w.range - (2 + w.attempt)) * attempt_cost requests + (cond (eqb w.oldest 0) 0 ERROR + cond (eqb w.second 0) 0 ERROR)
    by_advance true room = let k : ℕ = w.range - (2 + (w.attempt + 1)) in let is : w.range - (2 + w.attempt) ≡ suc k = omega (arith, room) in
        let more : (w.range - (2 + w.attempt)) * attempt_cost requests ≡ k * attempt_cost requests + attempt_cost requests = ap (λ n. n * attempt_cost requests) is ∙ one_more k (attempt_cost requests) in
        subst (λ n. k * attempt_cost requests + (cond (eqb w.second 0) 0 ERROR + 0) + (cond (eqb w.oldest 0) 0 ERROR + attempt_cost requests) ≤ n + (cond (eqb w.oldest 0) 0 ERROR + cond (eqb w.second 0) 0 ERROR)) (sym more) (omega arith)
    by_advance false room = let same : w.range - (2 + (w.attempt + 0)) ≡ w.range - (2 + w.attempt) = omega arith in
        subst (λ n. n * attempt_cost requests + (cond (eqb w.second 0) 0 ERROR + 0) + (cond (eqb w.oldest 0) 0 ERROR + 0) ≤ (w.range - (2 + w.attempt)) * attempt_cost requests + (cond (eqb w.oldest 0) 0 ERROR + cond (eqb w.second 0) 0 ERROR)) (sym same) (omega arith)

-- ## All ids

module _ (requests : ℕ) (ws : List ℕ) (i w : ℕ) (inside : id_index i < length ws) where
  head_else : (n : ℕ) → n ≢ i → id_left requests (parts (slice_index (set ws (id_index i) w) (id_index n))) ≡ id_left requests (parts (slice_index ws (id_index n)))
  head_else n other = ap (λ x. id_left requests (parts x)) (get_or-set_other ws (id_index i) (id_index n) w 0 (λ e. other (omega (arith, e))))

  ids_else : (n : ℕ) → n ≤ i → ids_left requests (set ws (id_index i) w) n ≡ ids_left requests ws n
  ids_else zero few = refl
  ids_else (suc n) few = ap₂ (λ a b. a + b) (head_else n (λ e. omega (arith, e, few))) (ids_else n (omega (arith, few)))

  -- one word counts for another
  pub ids_set : (n : ℕ) → i < n → ids_left requests (set ws (id_index i) w) n + id_left requests (parts (slice_index ws (id_index i))) ≡ ids_left requests ws n + id_left requests (parts w)
  ids_set zero less = absurd (omega (arith, less))
  ids_set (suc n) less = dite (ℕ_discrete n i)
      (λ same. let here : id_left requests (parts (slice_index (set ws (id_index i) w) (id_index n))) ≡ id_left requests (parts w) = ap (λ x. id_left requests (parts x)) (ap (λ j. slice_index (set ws (id_index i) w) (id_index j)) same ∙ get_or-set_same ws (id_index i) w 0 inside) in
      let old : id_left requests (parts (slice_index ws (id_index n))) ≡ id_left requests (parts (slice_index ws (id_index i))) = ap (λ j. id_left requests (parts (slice_index ws (id_index j)))) same in
      let rest = ids_else n (omega (arith, same)) in sum_here _ _ _ _ _ _ here old rest)
      (λ other. let rest = ids_set n (omega (arith, less, other)) in sum_there _ _ _ _ _ _ (head_else n other) rest)
    where
      sum_here : (x y a b c d : ℕ) → x ≡ c → a ≡ b → y ≡ d → (x + y) + b ≡ (a + d) + c
      sum_here x y a b c d here old rest = omega (arith, here, old, rest)

      sum_there : (x y a b c d : ℕ) → x ≡ a → y + b ≡ d + c → (x + y) + b ≡ (a + d) + c
      sum_there x y a b c d same rest = omega (arith, same, rest)
