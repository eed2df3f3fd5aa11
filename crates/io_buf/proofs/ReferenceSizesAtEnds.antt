-- The sizes of the references at either end.
use Rattle.std.proofs.Common.{◌≡◌, ℕ, suc, ◌+◌, ◌-◌, ◌/◌, ◌%◌, ◌<◌, ◌≤◌, inl, inr, ◌==◌, nat_lt, true, false, Bool, cond, min, List, [], ◌∷◌, ◌++◌, length, map, replicate, All, ap, sym, refl, ◌∙◌, arith, append-nil, length-append}
use Rattle.std.proofs.lemmas.Bool.{cases_lt, lt-ltb, le-ltb, ne_eqb}
use Rattle.std.proofs.lemmas.List.Elements.{All-head, All-tail}
use Rattle.std.specs.List.{concat}
use Rattle.io_block.specs.declared.pool.TheConstants.{BLOCK_BYTES}
use Rattle.io_buf.specs.Buffer.{Buffer, front_sizes, rest_sizes, block_sizes, IsPiece, PutsPieceFirst, TakesLast}

pub rest_sizes-zero : (ss : List ℕ) → rest_sizes 0 ss ≡ ss
rest_sizes-zero [] = refl
rest_sizes-zero (s ∷ ss) = refl

pub rest_sizes-less : (n s : ℕ) (ss : List ℕ) → 0 < n → n < s → rest_sizes n (s ∷ ss) ≡ (s - n) ∷ ss
rest_sizes-less n s ss some less =
    let a : (n == 0) ≡ false = ne_eqb n 0 (λ (e : n ≡ 0). omega arith) in
    let b : nat_lt n s ≡ true = lt-ltb n s less in
    rw (a, b)

pub rest_sizes-more : (n s : ℕ) (ss : List ℕ) → 0 < n → s ≤ n → rest_sizes n (s ∷ ss) ≡ rest_sizes (n - s) ss
rest_sizes-more n s ss some more =
    let a : (n == 0) ≡ false = ne_eqb n 0 (λ (e : n ≡ 0). omega arith) in
    let b : nat_lt n s ≡ false = le-ltb n s more in
    rw (a, b)

pub front_sizes-zero : (ss : List ℕ) → front_sizes 0 ss ≡ []
front_sizes-zero [] = refl
front_sizes-zero (s ∷ ss) = refl

pub front_sizes-less : (n s : ℕ) (ss : List ℕ) → 0 < n → n < s → front_sizes n (s ∷ ss) ≡ n ∷ []
front_sizes-less n s ss some less =
    let a : (n == 0) ≡ false = ne_eqb n 0 (λ (e : n ≡ 0). omega arith) in
    let b : nat_lt n s ≡ true = lt-ltb n s less in
    rw (a, b)

pub front_sizes-more : (n s : ℕ) (ss : List ℕ) → 0 < n → s ≤ n → front_sizes n (s ∷ ss) ≡ s ∷ front_sizes (n - s) ss
front_sizes-more n s ss some more =
    let a : (n == 0) ≡ false = ne_eqb n 0 (λ (e : n ≡ 0). omega arith) in
    let b : nat_lt n s ≡ false = le-ltb n s more in
    rw (a, b)

-- dropping twice is dropping both
pub rest_sizes-rest_sizes : (a b : ℕ) (ss : List ℕ) → rest_sizes a (rest_sizes b ss) ≡ rest_sizes (b + a) ss
rest_sizes-rest_sizes a b [] = refl
rest_sizes-rest_sizes a b (s ∷ ss) =
    elim (cases_lt 0 b) [
      | inr none ↦
          let z : b ≡ 0 = omega arith in
          let w : b + a ≡ a = omega arith in
          ap (λ (n : ℕ). rest_sizes a (rest_sizes n (s ∷ ss))) z ∙ sym (ap (λ (n : ℕ). rest_sizes n (s ∷ ss)) w)
      | inl some ↦
          elim (cases_lt b s) [
            | inl less ↦ ap (rest_sizes a) (rest_sizes-less b s ss some less) ∙ within a b s ss some less
            | inr more ↦
                ap (rest_sizes a) (rest_sizes-more b s ss some more)
                ∙ rest_sizes-rest_sizes a (b - s) ss
                ∙ ap (λ (n : ℕ). rest_sizes n ss) (omega arith)
                ∙ sym (rest_sizes-more (b + a) s ss (omega arith) (omega arith))
          ]
    ]
  where
    within : (a b s : ℕ) (ss : List ℕ) → 0 < b → b < s → rest_sizes a ((s - b) ∷ ss) ≡ rest_sizes (b + a) (s ∷ ss)
    within a b s ss some less =
        elim (cases_lt 0 a) [
          | inr none ↦
              let z : a ≡ 0 = omega arith in
              let w : b + a ≡ b = omega arith in
              ap (λ (n : ℕ). rest_sizes n ((s - b) ∷ ss)) z
              ∙ sym (ap (λ (n : ℕ). rest_sizes n (s ∷ ss)) w ∙ rest_sizes-less b s ss some less)
          | inl more ↦
              elim (cases_lt a (s - b)) [
                | inl inside ↦
                    let same : s - b - a ≡ s - (b + a) = omega arith in
                    rest_sizes-less a (s - b) ss more inside ∙ ap (λ (n : ℕ). n ∷ ss) same ∙ sym (rest_sizes-less (b + a) s ss (omega arith) (omega arith))
                | inr past ↦
                    let same : a - (s - b) ≡ b + a - s = omega arith in
                    rest_sizes-more a (s - b) ss more past ∙ ap (λ (n : ℕ). rest_sizes n ss) same ∙ sym (rest_sizes-more (b + a) s ss (omega arith) (omega arith))
              ]
        ]

-- a front has no more references
pub front_sizes-fewer : (n : ℕ) (ss : List ℕ) → length (front_sizes n ss) ≤ length ss
front_sizes-fewer n [] = omega arith
front_sizes-fewer n (s ∷ ss) =
    elim (cases_lt 0 n) [
      | inr none ↦
          let z : n ≡ 0 = omega arith in
          omega (arith, ap (λ (m : ℕ). length (front_sizes m (s ∷ ss))) z)
      | inl some ↦
          elim (cases_lt n s) [
            | inl less ↦ omega (arith, ap length (front_sizes-less n s ss some less))
            | inr more ↦ omega (arith, ap length (front_sizes-more n s ss some more), front_sizes-fewer (n - s) ss)
          ]
    ]

-- the front of a longer front
pub front_sizes-front_sizes : (a b : ℕ) (ss : List ℕ) → a ≤ b → front_sizes a (front_sizes b ss) ≡ front_sizes a ss
front_sizes-front_sizes a b [] le = refl
front_sizes-front_sizes a b (s ∷ ss) le =
    elim (cases_lt 0 a) [
      | inr none ↦
          let z : a ≡ 0 = omega arith in
          ap (λ (n : ℕ). front_sizes n (front_sizes b (s ∷ ss))) z ∙ front_sizes-zero (front_sizes b (s ∷ ss)) ∙ sym (ap (λ (n : ℕ). front_sizes n (s ∷ ss)) z)
      | inl some ↦
          elim (cases_lt b s) [
            | inl less ↦
                ap (front_sizes a) (front_sizes-less b s ss (omega arith) less)
                ∙ alone a b some le
                ∙ sym (front_sizes-less a s ss some (omega arith))
            | inr more ↦
                ap (front_sizes a) (front_sizes-more b s ss (omega arith) more) ∙ onward a b s ss some le more (λ past. front_sizes-front_sizes (a - s) (b - s) ss (omega arith))
          ]
    ]
  where
    alone : (a b : ℕ) → 0 < a → a ≤ b → front_sizes a (b ∷ []) ≡ a ∷ []
    alone a b some le =
        elim (cases_lt a b) [
          | inl less ↦ front_sizes-less a b [] some less
          | inr more ↦ let e : b ≡ a = omega arith in front_sizes-more a b [] some more ∙ ap (λ (n : ℕ). n ∷ []) e
        ]

    onward : (a b s : ℕ) (ss : List ℕ) → 0 < a → a ≤ b → s ≤ b → (s ≤ a → front_sizes (a - s) (front_sizes (b - s) ss) ≡ front_sizes (a - s) ss) → front_sizes a (s ∷ front_sizes (b - s) ss) ≡ front_sizes a (s ∷ ss)
    onward a b s ss some le more again =
        elim (cases_lt a s) [
          | inl less ↦ front_sizes-less a s _ some less ∙ sym (front_sizes-less a s ss some less)
          | inr past ↦
              front_sizes-more a s _ some past ∙ ap (λ (l : List ℕ). s ∷ l) (again past) ∙ sym (front_sizes-more a s ss some past)
        ]

-- with no byte left out, the sizes are the same
pub front_sizes-whole : (ps : List (List ℕ)) → All IsPiece ps → front_sizes (length (concat ps)) (map length ps) ≡ map length ps
front_sizes-whole [] all = refl
front_sizes-whole (p ∷ ps) all =
    let size = length-append p (concat ps) in
    let head = All-head IsPiece p ps all in
    let rest : length (p ++ concat ps) - length p ≡ length (concat ps) = omega arith in
    front_sizes-more (length (p ++ concat ps)) (length p) (map length ps) (omega (arith, head.0)) (omega arith)
    ∙ ap (λ (n : ℕ). length p ∷ front_sizes n (map length ps)) rest
    ∙ ap (λ (l : List ℕ). length p ∷ l) (front_sizes-whole ps (All-tail IsPiece p ps all))

-- a front that ends in the last piece
pub front_sizes-push : (ps : List (List ℕ)) (m s : ℕ) → All IsPiece ps → front_sizes (length (concat ps) + m) (map length ps ++ s ∷ []) ≡ map length ps ++ front_sizes m (s ∷ [])
front_sizes-push [] m s all = let e : 0 + m ≡ m = omega arith in ap (λ (n : ℕ). front_sizes n (s ∷ [])) e
front_sizes-push (p ∷ ps) m s all =
    let size = length-append p (concat ps) in
    let head = All-head IsPiece p ps all in
    let rest : length (p ++ concat ps) + m - length p ≡ length (concat ps) + m = omega arith in
    front_sizes-more (length (p ++ concat ps) + m) (length p) (map length ps ++ s ∷ []) (omega (arith, head.0)) (omega arith)
    ∙ ap (λ (n : ℕ). length p ∷ front_sizes n (map length ps ++ s ∷ [])) rest
    ∙ ap (λ (l : List ℕ). length p ∷ l) (front_sizes-push ps m s (All-tail IsPiece p ps all))

-- a first piece that went whole
pub dropped_first : (old new : Buffer) (piece : List ℕ) → 0 < length piece → PutsPieceFirst new old piece → new.sizes ≡ rest_sizes (length old.items - length new.items) old.sizes
dropped_first old new piece some put =
    let gone : length old.items - length new.items ≡ length piece = omega (arith, ap length put.items, length-append piece new.items) in
    let none : length piece - length piece ≡ 0 = omega arith in
    sym (ap (λ (n : ℕ). rest_sizes n old.sizes) gone
    ∙ ap (rest_sizes (length piece)) put.sizes
    ∙ rest_sizes-more (length piece) (length piece) new.sizes some (omega arith)
    ∙ ap (λ (n : ℕ). rest_sizes n new.sizes) none
    ∙ rest_sizes-zero new.sizes)

-- a last piece that went whole
pub dropped_last : (old new : Buffer) (piece : List ℕ) → TakesLast old new piece → new.sizes ≡ front_sizes (length new.items) old.sizes
dropped_last old new piece took =
    let same : length new.items + 0 ≡ length new.items = omega arith in
    sym (sym (ap (λ (n : ℕ). front_sizes n old.sizes) same) ∙ took.fronts 0 ∙ append-nil new.sizes)

-- so many whole blocks, and the rest
abbrev blocks_and : ℕ → ℕ → List ℕ
blocks_and q r = replicate q BLOCK_BYTES ++ cond (r == 0) [] (r ∷ [])

-- one block after another
pub block_sizes-step : (n : ℕ) → 0 < n → block_sizes n ≡ min n BLOCK_BYTES ∷ block_sizes (n - min n BLOCK_BYTES)
block_sizes-step n some =
    elim (cases_lt n BLOCK_BYTES) [
      | inl less ↦
          let quotient : n / BLOCK_BYTES ≡ 0 = omega arith in
          let remainder : n % BLOCK_BYTES ≡ n = omega arith in
          let all : min n BLOCK_BYTES ≡ n = omega arith in
          let none : n - min n BLOCK_BYTES ≡ 0 = omega arith in
          let zero : (n == 0) ≡ false = ne_eqb n 0 (λ (e : n ≡ 0). omega arith) in
          ap (λ (q : ℕ). blocks_and q (n % BLOCK_BYTES)) quotient
          ∙ ap (blocks_and 0) remainder
          ∙ ap (λ (b : Bool). cond b [] (n ∷ [])) zero
          ∙ sym (ap (λ (m : ℕ). m ∷ block_sizes (n - min n BLOCK_BYTES)) all ∙ ap (λ (m : ℕ). n ∷ block_sizes m) none)
      | inr more ↦
          let quotient : n / BLOCK_BYTES ≡ suc ((n - BLOCK_BYTES) / BLOCK_BYTES) = omega arith in
          let remainder : n % BLOCK_BYTES ≡ (n - BLOCK_BYTES) % BLOCK_BYTES = omega arith in
          let all : min n BLOCK_BYTES ≡ BLOCK_BYTES = omega arith in
          ap (λ (q : ℕ). blocks_and q (n % BLOCK_BYTES)) quotient
          ∙ ap (blocks_and (suc ((n - BLOCK_BYTES) / BLOCK_BYTES))) remainder
          ∙ sym (ap (λ (m : ℕ). m ∷ block_sizes (n - m)) all)
    ]

-- a message of at most a block lies in one piece
pub block_sizes-one : (n : ℕ) → 0 < n → n ≤ BLOCK_BYTES → block_sizes n ≡ n ∷ []
block_sizes-one n some few =
    let all : min n BLOCK_BYTES ≡ n = omega arith in
    let none : n - n ≡ 0 = omega arith in
    block_sizes-step n some ∙ ap (λ (m : ℕ). m ∷ block_sizes (n - m)) all ∙ ap (λ (m : ℕ). n ∷ block_sizes m) none
