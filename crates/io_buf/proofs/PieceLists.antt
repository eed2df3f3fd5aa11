-- Lists of pieces, and their bytes in a row.
use Rattle.std.proofs.Common.{◌≡◌, ℕ, zero, suc, ◌+◌, ◌*◌, ◌<◌, ◌≤◌, List, [], ◌∷◌, ◌++◌, length, take, drop, get_or, map, sum, All, ap, sym, refl, ◌∙◌, arith, append_assoc, append-nil, length-append}
use Rattle.std.proofs.lemmas.List.{take_at, drop_at, drop-drop}
use Rattle.std.proofs.lemmas.List.Elements.{All-head, All-tail}
use Rattle.std.proofs.lemmas.List.Sums.{sum-map, sum_by-cons}
use Rattle.std.specs.List.{concat, fold, sum_by}
use Rattle.io_block.specs.declared.pool.TheConstants.{BLOCK_BYTES}
use Rattle.io_buf.specs.Buffer.{IsPiece}

pub concat-append : (xs ys : List (List ℕ)) → concat (xs ++ ys) ≡ concat xs ++ concat ys
concat-append [] ys = refl
concat-append (x ∷ xs) ys = ap (λ l. x ++ l) (concat-append xs ys) ∙ sym (append_assoc x (concat xs) (concat ys))

pub concat_push : (xs : List (List ℕ)) (y : List ℕ) → concat (xs ++ y ∷ []) ≡ concat xs ++ y
concat_push xs y = concat-append xs (y ∷ []) ∙ ap (λ l. concat xs ++ l) (append-nil y)

pub sum-cons : (x : ℕ) (xs : List ℕ) → sum (x ∷ xs) ≡ x + sum xs
sum-cons x xs = from x xs (0 + x) (omega arith)
  where
    from : (x : ℕ) (xs : List ℕ) (a : ℕ) → a ≡ x → fold ◌+◌ a xs ≡ x + sum xs
    from x [] a e = omega arith
    from x (y ∷ xs) a e = omega (arith, from (x + y) xs (a + y) (omega arith), from y xs (0 + y) (omega arith))

-- as many bytes as the sizes say
pub sum-sizes : (ps : List (List ℕ)) → sum (map length ps) ≡ length (concat ps)
sum-sizes ps = sum-map length ps ∙ by ps
  where
    by : (ps : List (List ℕ)) → sum_by length ps ≡ length (concat ps)
    by [] = refl
    by (p ∷ ps) = sum_by-cons length p ps ∙ ap (λ n. length p + n) (by ps) ∙ sym (length-append p (concat ps))

-- pieces of at most a block each have at most as many bytes as their blocks
pub length-concat-le : (ps : List (List ℕ)) → All IsPiece ps → length (concat ps) ≤ BLOCK_BYTES * length ps
length-concat-le [] all = omega arith
length-concat-le (p ∷ ps) all =
    omega (arith, All-head IsPiece p ps all, length-concat-le ps (All-tail IsPiece p ps all), length-append p (concat ps))

-- where there are bytes there is a piece
pub some_piece : (ps : List (List ℕ)) → 0 < length (concat ps) → 0 < length ps
some_piece [] some = some
some_piece (p ∷ ps) some = omega arith

-- without bytes there are no sizes
pub no_sizes : (ps : List (List ℕ)) → All IsPiece ps → concat ps ≡ [] → map length ps ≡ []
no_sizes [] all none = refl
no_sizes (p ∷ ps) all none = absurd (omega (arith, All-head IsPiece p ps all, ap length none, length-append p (concat ps)))

-- the piece at a place lies behind the bytes of those before it
pub piece_lies : (ps : List (List ℕ)) (i : ℕ) (p d : List ℕ) → i < length ps → p ≡ get_or ps i d → p ≡ take (get_or (map length ps) i 0) (drop (sum (take i (map length ps))) (concat ps))
piece_lies ps i p d within is = is ∙ by ps i within
  where
    by : (ps : List (List ℕ)) (i : ℕ) → i < length ps → get_or ps i d ≡ take (get_or (map length ps) i 0) (drop (sum (take i (map length ps))) (concat ps))
    by [] i within = absurd (omega arith)
    by (x ∷ ps) zero within = sym (take_at x (concat ps) (length x) refl)
    by (x ∷ ps) (suc i) within =
        let lens = map length ps in
        let before : sum (length x ∷ take i lens) ≡ length x + sum (take i lens) = sum-cons (length x) (take i lens) in
        by ps i (omega arith)
        ∙ ap (take (get_or lens i 0)) (ap (drop (sum (take i lens))) (sym (drop_at x (concat ps) (length x) refl)) ∙ drop-drop (sum (take i lens)) (length x) (x ++ concat ps))
        ∙ ap (λ (n : ℕ). take (get_or lens i 0) (drop n (x ++ concat ps))) (sym before)
