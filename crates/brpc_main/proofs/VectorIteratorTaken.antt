-- What the iterator of a vector gives until it has no more.
use Rattle.std.proofs.Common.{◌≡◌, refl, ◌+◌, List, [], ◌∷◌, ◌++◌, length, ap, sym, ◌∙◌, arith, length-append, append-nil}
use Rattle.std.specs.Iterator.{Yields}
use Rattle.std.specs.Vec.Iter.{into_iter_items, into_iter_len, into_iter_steps}
use Rattle.std.specs.declared.vec.IntoIter.{IntoIter}

-- what it has given is a front of its items
taken_front : {X A : Type 0} (s : IntoIter X A) (xs : List X) (t : IntoIter X A) → Yields into_iter_steps s xs t → into_iter_items s ≡ xs ++ into_iter_items t
taken_front s [] t y = ap into_iter_items y
taken_front s (x ∷ xs) t y = y.1.0 ∙ ap (λ ys. x ∷ ys) (taken_front y.0 xs t y.2)

taken_len : {X A : Type 0} (s : IntoIter X A) (xs : List X) (t : IntoIter X A) → Yields into_iter_steps s xs t → into_iter_len s ≡ length xs + into_iter_len t
taken_len s [] t y = let same : into_iter_len s ≡ into_iter_len t = ap into_iter_len y in omega (arith, same)
taken_len s (x ∷ xs) t y = let more = taken_len y.0 xs t y.2 in omega (arith, y.1.1, more)

no_items : {X : Type 0} (xs : List X) → length xs ≡ 0 → xs ≡ []
no_items [] e = refl
no_items (x ∷ xs) e = absurd (omega (arith, e))

-- where it has no more, it has given all
pub all_taken : {X A : Type 0} (s : IntoIter X A) (xs : List X) (t : IntoIter X A) → Yields into_iter_steps s xs t → into_iter_len t ≡ 0 → into_iter_len s ≡ length (into_iter_items s) → xs ≡ into_iter_items s
all_taken s xs t y none whole =
    let front = taken_front s xs t y in
    let few : length (into_iter_items t) ≡ 0 = omega (arith, taken_len s xs t y, none, whole, ap length front, length-append xs (into_iter_items t)) in
    sym (front ∙ ap (λ ys. xs ++ ys) (no_items (into_iter_items t) few) ∙ append-nil xs)
