-- The number of a seat that goes on: with the retries that wait at it, and with what it paid for a word that it expects.
use Rattle.std.proofs.Common.{◌≡◌, ℕ, zero, suc, ◌+◌, ◌-◌, ◌*◌, ◌≤◌, Bool, true, false, ◌&&◌, List, [], ◌∷◌, ◌++◌, length, length-append, set, refl, sym, ap, ◌∙◌, subst, arith, cond, eqb, eq-eqb, eqb-true, Some, None}
use Rattle.std.proofs.lemmas.Bool.{and_parts}
use Rattle.std.specs.Prelude.{slice_index, slice_index_or}
use Rattle.std.specs.Prelude as std
use Rattle.sock_words.specs.declared.plain.Plan.{Plan}
use Rattle.sock_model.specs.declared.view.View.{View}
use Rattle.seat_programs.specs.id_rule.specs.LawfulIdTable.{id_index}
use Rattle.seat_programs.specs.LoopHeads.{Head, Exit, Retry, Posts, Unlocks, Locks}
use Rattle.seat_programs.specs.Programs.{Program, Say, Sent, Round, Keep, Retries}
use Rattle.seat_programs.specs.CallAndRetryPrograms.{retry}
use Rattle.seat_programs.specs.Cores.{resolved, still_waiting, next_step}
use Rattle.sock_runs.specs.program_steps.specs.ProgramGoesOn.{GoesOn}
use Rattle.sock_runs.specs.program_steps.specs.TicksLeftAtMost.{LastsFor, STALE, attempt_cost, expects, arriving, stale_cost, fresh, fresh_at}
use Rattle.runs_end.proofs.IdCosts.{lasts_more}
use Rattle.runs_end.proofs.AttemptCosts.{retry_lasts}
use Rattle.sock_words.specs.Totals.{total}

-- ## Words that are expected

-- whoever is at a head paid for its word
arrives_at : (p : Plan) (v : View) (head : Head) (next : Exit head → Program) (m : ℕ) → LastsFor p v (Round head next) m → arriving (Round head next) ≤ m
arrives_at p v (Posts id e w) next m l = let a = l.1 in omega (arith, a)
arrives_at p v (Unlocks i w advance) next m l = let a = l.1 in omega (arith, a)
arrives_at p v (Locks i sought (Some w)) next m l = let a = l.1 in omega (arith, a)
arrives_at p v _ next m l = omega arith

-- the word that a step left is there
abbrev pub IsThere : List ℕ → std.Option (ℕ × ℕ) → Type 0
IsThere words None = Unit {0}
IsThere words (Some y) = slice_index words (id_index y.0) ≡ y.1

one_paid : (words : List ℕ) (y x : ℕ × ℕ) → slice_index words (id_index y.0) ≡ y.1 → stale_cost words x + fresh_at y x ≤ STALE
one_paid words y x there = by_same ((eqb x.0 y.0) && (eqb x.1 y.1)) refl (eqb (slice_index words (id_index x.0)) x.1) refl
  where
    by_same : (b : Bool) → ((eqb x.0 y.0) && (eqb x.1 y.1)) ≡ b → (s : Bool) → eqb (slice_index words (id_index x.0)) x.1 ≡ s → cond s 0 STALE + cond b STALE 0 ≤ STALE
    by_same false other true is = omega arith
    by_same false other false is = omega arith
    by_same true same true is = omega arith
    by_same true same false is = let a = eqb-true x.0 y.0 (and_parts (eqb x.0 y.0) (eqb x.1 y.1) same).0 in let b = eqb-true x.1 y.1 (and_parts (eqb x.0 y.0) (eqb x.1 y.1) same).1 in
        let here : slice_index words (id_index x.0) ≡ x.1 = ap (λ n. slice_index words (id_index n)) a ∙ (there ∙ sym b) in
        let never : true ≡ false = sym (eq-eqb (slice_index words (id_index x.0)) x.1 here) ∙ is in cc

some_paid : (words : List ℕ) (y : ℕ × ℕ) (xs : List (ℕ × ℕ)) → slice_index words (id_index y.0) ≡ y.1 → total (stale_cost words) xs + total (fresh_at y) xs ≤ total (λ (x : ℕ × ℕ). STALE) xs
some_paid words y [] there = omega arith
some_paid words y (x ∷ xs) there = let a = one_paid words y x there in let b = some_paid words y xs there in omega (arith, a, b)

one_small : (words : List ℕ) (x : ℕ × ℕ) → stale_cost words x ≤ STALE
one_small words x = small (eqb (slice_index words (id_index x.0)) x.1)
  where
    small : (s : Bool) → cond s 0 STALE ≤ STALE
    small true = omega arith
    small false = omega arith

all_small : (words : List ℕ) (xs : List (ℕ × ℕ)) → total (stale_cost words) xs ≤ total (λ (x : ℕ × ℕ). STALE) xs
all_small words [] = omega arith
all_small words (x ∷ xs) = let a = one_small words x in let b = all_small words xs in omega (arith, a, b)

paid : (words : List ℕ) (left : std.Option (ℕ × ℕ)) (program : Program) → IsThere words left → total (stale_cost words) (expects program) + fresh left program ≤ arriving program
paid words None program there = let a = all_small words (expects program) in omega (arith, a)
paid words (Some y) program there = some_paid words y (expects program) there

-- ## Retries that wait

-- what waits costs this
abbrev pub waiting_left : Plan → List Retry → ℕ
waiting_left p ws = length ws * attempt_cost p.requests

one_more : (k a : ℕ) → suc k * a ≡ k * a + a
one_more k a = omega arith

kept_left : (p : Plan) (ws : List Retry) (r : Retry) → waiting_left p (ws ++ r ∷ []) ≡ waiting_left p ws + attempt_cost p.requests
kept_left p ws r = let n : length (ws ++ r ∷ []) ≡ suc (length ws) = omega (arith, length-append ws (r ∷ [])) in ap (λ k. k * attempt_cost p.requests) n ∙ one_more (length ws) (attempt_cost p.requests)

-- one seat's retries are others
pub waiting_set : (p : Plan) (ws : List (List Retry)) (i : ℕ) (x : List Retry) → total (waiting_left p) (set ws i x) + waiting_left p (slice_index_or ws i []) ≤ total (waiting_left p) ws + waiting_left p x
waiting_set p [] i x = omega arith
waiting_set p (w ∷ ws) zero x = omega arith
waiting_set p (w ∷ ws) (suc i) x = let a = waiting_set p ws i x in omega (arith, a)

-- ## The number behind

module _ (p : Plan) (v : View) (words : List ℕ) (left : std.Option (ℕ × ℕ)) (there : IsThere words left) where
  -- with this number, a seat that goes on with the program and these retries has no more than before
  abbrev pub Settled : List Retry → Program → ℕ → Type 0
  Settled ws program m = (y : ℕ) × (y + total (stale_cost words) (expects (next_step (resolved ws program))) + fresh left program + waiting_left p (still_waiting ws program) ≤ m + waiting_left p ws)
      × LastsFor p v (next_step (resolved ws program)) (y + arriving (next_step (resolved ws program)))

  here : (program : Program) (m : ℕ) → arriving program ≤ m → LastsFor p v program m → (y : ℕ) × (y + total (stale_cost words) (expects program) + fresh left program ≤ m) × LastsFor p v program (y + arriving program)
  here program m small l = let a = paid words left program there in let same : m ≡ m - arriving program + arriving program = omega (arith, small) in (m - arriving program, omega (arith, a, small), subst (LastsFor p v program) same l)

  stays : (ws : List Retry) (program : Program) (m : ℕ) → arriving program ≤ m → LastsFor p v program m
      → (y : ℕ) × (y + total (stale_cost words) (expects program) + fresh left program + waiting_left p ws ≤ m + waiting_left p ws) × LastsFor p v program (y + arriving program)
  stays ws program m small l = let h = here program m small l in (h.0, add_both (h.0 + total (stale_cost words) (expects program) + fresh left program) m (waiting_left p ws) h.1, h.2)
    where
      add_both : (a b n : ℕ) → a ≤ b → a + n ≤ b + n
      add_both a b n le = omega (arith, le)

  no_fresh : (program : Program) → expects program ≡ [] → fresh left program ≡ 0
  no_fresh program none_ = by_left left
    where
      by_left : (x : std.Option (ℕ × ℕ)) → fresh x program ≡ 0
      by_left None = refl
      by_left (Some y) = ap (total (fresh_at y)) none_

  said_sum : (y s f z w m n : ℕ) → z ≡ 0 → y + s + f + w ≤ m + n → y + s + z + w ≤ m + n
  said_sum y s f z w m n none_ le = omega (arith, none_, le)

  kept_sum : (y s f z w m k a b n : ℕ) → z ≡ 0 → a ≡ b + n → k + n ≤ m → y + s + f + w ≤ k + a → y + s + z + w ≤ m + b
  kept_sum y s f z w m k a b n none_ more few le = omega (arith, none_, more, few, le)

  tried_sum : (z w m a n : ℕ) → z ≡ 0 → a ≡ w + n → (n + m) + 0 + z + w ≤ m + a
  tried_sum z w m a n none_ more = omega (arith, none_, more)

  pub settled : (ws : List Retry) (program : Program) (m : ℕ) → GoesOn p v program → LastsFor p v program m → Settled ws program m
  settled ws (Say o outcome next) m g l = let r = settled ws next m g l in
      (r.0, said_sum r.0 (total (stale_cost words) (expects (next_step (resolved ws next)))) (fresh left next) (fresh left (Say o outcome next)) (waiting_left p (still_waiting ws next)) m (waiting_left p ws) (no_fresh (Say o outcome next) refl) r.1, r.2)
  settled ws (Sent o next) m g l = let r = settled ws next m g l in
      (r.0, said_sum r.0 (total (stale_cost words) (expects (next_step (resolved ws next)))) (fresh left next) (fresh left (Sent o next)) (waiting_left p (still_waiting ws next)) m (waiting_left p ws) (no_fresh (Sent o next) refl) r.1, r.2)
  settled ws (Keep k next) m g l = let r = settled (ws ++ k ∷ []) next l.0 g.1 l.2 in (
    r.0,
    kept_sum r.0 (total (stale_cost words) (expects (next_step (resolved (ws ++ k ∷ []) next)))) (fresh left next) (fresh left (Keep k next)) (waiting_left p (still_waiting (ws ++ k ∷ []) next)) m l.0 (waiting_left p (ws ++ k ∷ [])) (waiting_left p ws) (attempt_cost p.requests)
        (no_fresh (Keep k next) refl) (kept_left p ws k) l.1 r.1,
    r.2,
  )
  settled [] (Retries requests after) m g l = let r = settled [] after m (g.1.5 g.1.0 v g.1.3) (l v) in
      (r.0, said_sum r.0 (total (stale_cost words) (expects (next_step (resolved [] after)))) (fresh left after) (fresh left (Retries requests after)) (waiting_left p (still_waiting [] after)) m (waiting_left p []) (no_fresh (Retries requests after) refl) r.1, r.2)
  settled (k ∷ ws) (Retries requests after) m g l = (
    attempt_cost p.requests + m,
    tried_sum (fresh left (Retries requests after)) (waiting_left p ws) m (waiting_left p (k ∷ ws)) (attempt_cost p.requests) (no_fresh (Retries requests after) refl) (one_more (length ws) (attempt_cost p.requests)),
    subst (λ n. LastsFor p v (retry n k.id k.attempt (Retries requests after)) (attempt_cost p.requests + m + 0)) (sym g.0)
        (lasts_more p v (retry p.requests k.id k.attempt (Retries requests after)) (attempt_cost p.requests + m) (attempt_cost p.requests + m + 0) (omega arith) (retry_lasts p k.id k.attempt (Retries requests after) m (λ u. l) v)),
  )
  settled ws (Round head next) m g l = stays ws (Round head next) m (arrives_at p v head next m l) l
  settled ws program m g l = stays ws program m (omega arith) l
