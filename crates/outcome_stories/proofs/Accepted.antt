-- Messages as links accepted them, by whatever shows their operations and attempts: which they are, how many, and what a link took.
use Rattle.std.proofs.Common.{◌≡◌, ◌≢◌, ℕ, zero, suc, ◌+◌, ◌<◌, ◌≤◌, cond, List, [], ◌∷◌, ◌++◌, length, take, drop, flat_map, map, sum_by, eq-eqb, ne_eqb, ⊎_elim, refl, sym, ap, ◌∙◌, subst, arith}
use Rattle.std.proofs.lemmas.Option.{none-some, same_Some}
use Rattle.std.proofs.lemmas.List.Sums.{sum_by-cons}
use Rattle.std.specs.Prelude.{Some, slice_get}
use mathlib.Core.Logic.{dite}
use mathlib.Core.Option.{some, some-injective, some-ne-none}
use native.Mathlib.Decide.{ℕ_discrete}
use lib.ListN.{get_elem?}
use Rattle.brpc_model.specs.Order.{IsCut}
use Rattle.sock_model.specs.declared.chain.Entry.{Entry}
use Rattle.sock_model.specs.Entries.{on}
use Rattle.sock_model.specs.Deliveries.{whole, Taken}
use Rattle.seat_programs.specs.ScheduledRuns.{from_to}
use Rattle.seat_programs.specs.ExplainedCalls.{Accepted, bytes_of, IsTaken}

module _ (operation attempt : Entry → ℕ) where
  abbrev accepted_of : Entry → Accepted
  accepted_of e = record { operation = operation e; attempt = attempt e; bytes = e.bytes }

  pub accepted_at : (es : List Entry) (i : ℕ) (a : Accepted) → slice_get (map accepted_of es) i ≡ Some a → (e : Entry) × (get_elem? es i ≡ some e) × (accepted_of e ≡ a)
  accepted_at [] i a h = absurd (none-some a h)
  accepted_at (e ∷ es) zero a h = (e, refl, same_Some (accepted_of e) a h)
  accepted_at (e ∷ es) (suc i) a h = accepted_at es i a h

  pub accepted_there : (es : List Entry) (i : ℕ) (e : Entry) → get_elem? es i ≡ some e → slice_get (map accepted_of es) i ≡ Some (accepted_of e)
  accepted_there [] i e h = absurd (some-ne-none e (sym h))
  accepted_there (x ∷ es) zero e h = ap (λ y. Some (accepted_of y)) (some-injective x e h)
  accepted_there (x ∷ es) (suc i) e h = accepted_there es i e h

  -- ## How many there are

  abbrev size : ℕ → List Entry → ℕ
  size k log = length (map accepted_of (on k log))

  abbrev sizes : ℕ → ℕ → List Entry → ℕ
  sizes a n log = sum_by (λ k. size k log) (from_to a n)

  size_here : (k : ℕ) (e : Entry) (es : List Entry) → e.link ≡ k → size k (e ∷ es) ≡ suc (size k es)
  size_here k e es y = ap (λ b. length (map accepted_of (cond b (e ∷ on k es) (on k es)))) (eq-eqb e.link k y)

  size_else : (k : ℕ) (e : Entry) (es : List Entry) → e.link ≢ k → size k (e ∷ es) ≡ size k es
  size_else k e es n = ap (λ b. length (map accepted_of (cond b (e ∷ on k es) (on k es)))) (ne_eqb e.link k n)

  sizes_cons : (a n : ℕ) (log : List Entry) → sizes a (suc n) log ≡ size a log + sizes (a + 1) n log
  sizes_cons a n log = sum_by-cons (λ k. size k log) a (from_to (a + 1) n)

  sizes_else : (a n : ℕ) (e : Entry) (es : List Entry) → e.link < a → sizes a n (e ∷ es) ≡ sizes a n es
  sizes_else a zero e es l = refl
  sizes_else a (suc n) e es l = omega (arith, sizes_cons a n (e ∷ es), sizes_cons a n es, size_else a e es (λ q. omega arith), sizes_else (a + 1) n e es (omega arith))

  sizes_in : (a n : ℕ) (e : Entry) (es : List Entry) → a ≤ e.link → e.link < a + n → sizes a n (e ∷ es) ≡ suc (sizes a n es)
  sizes_in a zero e es low high = absurd (omega arith)
  sizes_in a (suc n) e es low high = dite (ℕ_discrete e.link a)
      (λ y. omega (arith, sizes_cons a n (e ∷ es), sizes_cons a n es, size_here a e es y, sizes_else (a + 1) n e es (omega arith)))
      (λ ne. omega (arith, sizes_cons a n (e ∷ es), sizes_cons a n es, size_else a e es ne, sizes_in (a + 1) n e es (omega arith) (omega arith)))

  sizes_none : (a n : ℕ) → sizes a n [] ≡ 0
  sizes_none a zero = refl
  sizes_none a (suc n) = omega (arith, sizes_cons a n [], sizes_none (a + 1) n)

  -- the chains of all links are the log
  pub sizes_all : (n : ℕ) (log : List Entry) → ((i : ℕ) (e : Entry) → get_elem? log i ≡ some e → e.link < n) → sizes 0 n log ≡ length log
  sizes_all n [] below = sizes_none 0 n
  sizes_all n (e ∷ es) below = omega (arith, sizes_in 0 n e es (omega arith) (omega (arith, below 0 e refl)), sizes_all n es (λ i x g. below (suc i) x g))

  -- ## What a link took

  -- the first n messages, one after another
  whole_of : (es : List Entry) (n : ℕ) → whole es n ≡ flat_map bytes_of (take n (map accepted_of es))
  whole_of [] zero = refl
  whole_of [] (suc n) = refl
  whole_of (e ∷ es) zero = refl
  whole_of (e ∷ es) (suc n) = ap (λ l. e.bytes ++ l) (whole_of es n)

  -- nothing of the next message
  cut_none : (es : List Entry) (n : ℕ) → ((i : ℕ) (e : Entry) → get_elem? es i ≡ some e → 0 < length e.bytes) → IsCut [] (map bytes_of (drop n (map accepted_of es)))
  cut_none [] zero some_ = refl
  cut_none [] (suc n) some_ = refl
  cut_none (e ∷ es) zero some_ = (e.bytes, some_ 0 e refl, refl)
  cut_none (e ∷ es) (suc n) some_ = cut_none es n (λ i x g. some_ (suc i) x g)

  -- or a proper prefix of it
  cut_some : (es : List Entry) (n : ℕ) (e : Entry) (part rest : List ℕ) → get_elem? es n ≡ some e → e.bytes ≡ part ++ rest → 0 < length rest → IsCut part (map bytes_of (drop n (map accepted_of es)))
  cut_some [] n e part after g is more = absurd (some-ne-none e (sym g))
  cut_some (x ∷ es) zero e part after g is more = (after, more, sym is ∙ ap (λ (y : Entry). y.bytes) (sym (some-injective x e g)))
  cut_some (x ∷ es) (suc n) e part after g is more = cut_some es n e part after g is more

  some_length : (bytes : List ℕ) → bytes ≢ [] → 0 < length bytes
  some_length [] n = absurd (n refl)
  some_length (b ∷ bs) n = omega arith

  -- what a link took in order, where each message has a byte
  pub taken_of : (es : List Entry) (n : ℕ) (took : List ℕ) → ((i : ℕ) (e : Entry) → get_elem? es i ≡ some e → e.bytes ≢ []) → Taken es n took → IsTaken (record { accepted = map accepted_of es; placed = n }) took
  taken_of es n took some_ t = record {
    cut = t.part;
    took_is = t.took_is ∙ ap (λ l. l ++ t.part) (whole_of es n);
    is_cut = ⊎_elim (λ e. subst (λ l. IsCut l (map bytes_of (drop n (map accepted_of es)))) (sym e) (cut_none es n (λ i e g. some_length e.bytes (some_ i e g))))
        (λ x. cut_some es n x.0 t.part x.1 x.2 x.3 (some_length x.1 x.4)) t.of_next;
  }
