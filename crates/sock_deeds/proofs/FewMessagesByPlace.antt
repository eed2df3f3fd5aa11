-- Messages with different place indices below n are no more than n.
use Rattle.std.proofs.Common.{◌≡◌, ◌≢◌, ℕ, zero, suc, ◌<◌, ◌≤◌, cond, eqb, eq-eqb, ne_eqb, List, length, sym, ap, ◌∙◌, arith}
use mathlib.Core.Logic.{dite}
use native.Mathlib.Decide.{ℕ_discrete}
use mathlib.Core.Option as core
use mathlib.Core.Option.{some, none}
use lib.ListN.{get_elem?}
use Rattle.sock_model.specs.declared.chain.Entry.{Entry}
use Rattle.rpc_client.specs.sock_rule.specs.ClosingWordsAndNotes.{PlacesDiffer}
use Rattle.sock_deeds.proofs.ListPlaces.{place_there}

-- the number of m in place of n
abbrev moved : (ℕ → ℕ) → ℕ → ℕ → ℕ → ℕ
moved f n m i = cond (eqb (f i) n) (f m) (f i)

moved_here : (f : ℕ → ℕ) (n m i : ℕ) → f i ≡ n → moved f n m i ≡ f m
moved_here f n m i e = ap (λ b. cond b (f m) (f i)) (eq-eqb (f i) n e)

moved_else : (f : ℕ → ℕ) (n m i : ℕ) → f i ≢ n → moved f n m i ≡ f i
moved_else f n m i ne = ap (λ b. cond b (f m) (f i)) (ne_eqb (f i) n ne)

abbrev AreLow : (ℕ → ℕ) → ℕ → ℕ → Type 0
AreLow f m n = (i : ℕ) → i < m → f i < n

abbrev AreApart : (ℕ → ℕ) → ℕ → Type 0
AreApart f m = (i j : ℕ) → i < m → j < m → f i ≡ f j → i ≡ j

few_below : (n m : ℕ) (f : ℕ → ℕ) → AreLow f m n → AreApart f m → m ≤ n
few_below n zero f low apart = omega arith
few_below zero (suc m) f low apart = absurd (let h = low 0 (omega arith) in omega arith)
few_below (suc n) (suc m) f low apart = let r = few_below n m (moved f n m) lower further in omega arith
  where
    last_else : (i : ℕ) → i < m → f i ≡ n → f m ≢ n
    last_else i lt e q = let same = apart i m (omega arith) (omega arith) (e ∙ sym q) in omega arith

    lower : AreLow (moved f n m) m n
    lower i lt = dite (ℕ_discrete (f i) n)
        (λ e. let a = moved_here f n m i e in let b = last_else i lt e in let c = low m (omega arith) in omega arith)
        (λ ne. let a = moved_else f n m i ne in let c = low i (omega arith) in omega arith)

    further : AreApart (moved f n m) m
    further i j li lj e = dite (ℕ_discrete (f i) n)
        (λ a. dite (ℕ_discrete (f j) n)
        (λ b. apart i j (omega arith) (omega arith) (a ∙ sym b))
        (λ b. absurd (let s = apart m j (omega arith) (omega arith) (sym (moved_here f n m i a) ∙ (e ∙ moved_else f n m j b)) in omega arith)))
        (λ a. dite (ℕ_discrete (f j) n)
        (λ b. absurd (let s = apart i m (omega arith) (omega arith) (sym (moved_else f n m i a) ∙ (e ∙ moved_here f n m j b)) in omega arith))
        (λ b. apart i j (omega arith) (omega arith) (sym (moved_else f n m i a) ∙ (e ∙ moved_else f n m j b))))

abbrev place_of : core.Option Entry → ℕ
place_of o = elim o as (λ o. ℕ) [ none ↦ 0 | some e ↦ e.heading.label.place ]

pub few_entries : (n : ℕ) (es : List Entry) → PlacesDiffer es → ((i : ℕ) (e : Entry) → get_elem? es i ≡ some e → e.heading.label.place < n) → length es ≤ n
few_entries n es differ low = few_below n (length es) (λ i. place_of (get_elem? es i))
    (λ i lt. let w = place_there es i lt in let a = ap place_of w.1 in let b = low i w.0 w.1 in omega arith)
    (λ i j li lj same. let v = place_there es i li in let w = place_there es j lj in differ i j v.0 w.0 v.1 w.1 (sym (ap place_of v.1) ∙ (same ∙ ap place_of w.1)))
