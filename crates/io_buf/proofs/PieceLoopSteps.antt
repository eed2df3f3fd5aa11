-- The steps of the loops over pieces.
use Rattle.std.proofs.Common.{◌≡◌, ℕ, ◌+◌, ◌-◌, ◌<◌, ◌≤◌, inl, inr, min, List, [], ◌∷◌, ◌++◌, length, take, drop, get_or, ap, sym, ◌∙◌, arith, append-nil, length-drop}
use Rattle.std.proofs.lemmas.Bool.{cases_lt}
use Rattle.std.proofs.lemmas.List.{drop_more, drop-drop, drop-take, drop_at, take-append-drop, take-append-le, take-take, take_all}
use Rattle.std.proofs.Math.Seq.{take-append-add}
use Rattle.std.specs.List.{concat}
use Rattle.bytes.proofs.Chunks.{drop-append_min}
use Rattle.bytes.proofs.Ranges.{drop-take_less}
use Rattle.io_buf.specs.Buffer.{front_sizes, rest_sizes}
use Rattle.io_buf.proofs.PieceLists.{some_piece}
use Rattle.io_buf.proofs.ReferenceSizesAtEnds.{front_sizes-less, front_sizes-more, front_sizes-zero, front_sizes-front_sizes, rest_sizes-rest_sizes, rest_sizes-zero, rest_sizes-less}

-- where bytes are left there is a piece
pub place_within : (ps : List (List ℕ)) (i n : ℕ) → 0 < n → n ≤ length (concat (drop i ps)) → i < length ps
place_within ps i n some fits = omega (arith, some_piece (drop i ps) (omega arith), length-drop i ps)

-- the piece that a place names, and those behind it
pub at_place : (ps : List (List ℕ)) (i : ℕ) (p : List ℕ) → i < length ps → p ≡ get_or ps i p → drop i ps ≡ p ∷ drop (i + 1) ps
at_place ps i p within is = drop_more ps i p within ∙ ap (λ (q : List ℕ). q ∷ drop (i + 1) ps) (sym is)

-- a front takes what it can from the first list
pub take-append_min : (xs ys : List ℕ) (n t : ℕ) → t ≡ min n (length xs) → take n (xs ++ ys) ≡ take t xs ++ take (n - t) ys
take-append_min xs ys n t is =
    elim (cases_lt (length xs) n) [
      | inr inside ↦
          let all : t ≡ n = omega arith in
          let none : n - t ≡ 0 = omega arith in
          take-append-le n xs ys inside
          ∙ ap (λ (m : ℕ). take m xs) (sym all)
          ∙ sym (append-nil (take t xs))
          ∙ ap (λ (m : ℕ). take t xs ++ take m ys) (sym none)
      | inl past ↦
          let all : t ≡ length xs = omega arith in
          let both : length xs + (n - t) ≡ n = omega arith in
          ap (λ (m : ℕ). take m (xs ++ ys)) (sym both)
          ∙ take-append-add xs ys (n - t)
          ∙ ap (λ (l : List ℕ). l ++ take (n - t) ys) (sym (take_all t xs (omega arith)))
    ]

-- so do the sizes
pub front_sizes-step : (s n t : ℕ) (ss : List ℕ) → 0 < n → t ≡ min n s → front_sizes n (s ∷ ss) ≡ t ∷ front_sizes (n - t) ss
front_sizes-step s n t ss some is =
    elim (cases_lt n s) [
      | inl less ↦
          let all : t ≡ n = omega arith in
          let none : n - t ≡ 0 = omega arith in
          front_sizes-less n s ss some less
          ∙ ap (λ (m : ℕ). m ∷ []) (sym all)
          ∙ sym (ap (λ (m : ℕ). t ∷ front_sizes m ss) none ∙ ap (λ (l : List ℕ). t ∷ l) (front_sizes-zero ss))
      | inr more ↦
          let all : s ≡ t = omega arith in
          front_sizes-more n s ss some more ∙ ap (λ (m : ℕ). m ∷ front_sizes (n - m) ss) all
    ]

-- a part of the first list
pub part_lies : (p more : List ℕ) (from to : ℕ) → from ≤ to → to ≤ length p → take (to - from) (drop from p) ≡ drop from (take to (p ++ more))
part_lies p more from to a b = sym (ap (drop from) (take-append-le to p more b) ∙ drop-take_less p from to a)

-- its size
pub part_sizes : (s from to : ℕ) (ss : List ℕ) → from < to → to ≤ s → (to - from) ∷ [] ≡ rest_sizes from (front_sizes to (s ∷ ss))
part_sizes s from to ss some within = sym (ap (rest_sizes from) front ∙ behind)
  where
    front : front_sizes to (s ∷ ss) ≡ to ∷ []
    front =
        let none : to - to ≡ 0 = omega arith in
        front_sizes-step s to to ss (omega arith) (omega arith) ∙ ap (λ (n : ℕ). to ∷ front_sizes n ss) none ∙ ap (λ (l : List ℕ). to ∷ l) (front_sizes-zero ss)

    behind : rest_sizes from (to ∷ []) ≡ (to - from) ∷ []
    behind =
        elim (cases_lt 0 from) [
          | inl some_more ↦ rest_sizes-less from to [] some_more some
          | inr none ↦
              let z : from ≡ 0 = omega arith in
              let all : to ≡ to - from = omega arith in
              ap (λ (n : ℕ). rest_sizes n (to ∷ [])) z ∙ rest_sizes-zero (to ∷ []) ∙ ap (λ (n : ℕ). n ∷ []) all
        ]

-- dropping in two steps
pub drop_again : (a b c : List ℕ) → length b ≤ length a → length c ≤ length b → b ≡ drop (length a - length b) a → c ≡ drop (length b - length c) b → c ≡ drop (length a - length c) a
drop_again a b c p q e f =
    let both : length a - length b + (length b - length c) ≡ length a - length c = omega arith in
    f ∙ ap (drop (length b - length c)) e ∙ drop-drop (length b - length c) (length a - length b) a ∙ ap (λ (n : ℕ). drop n a) both

pub rest_sizes_again : (ss ts us : List ℕ) (x y z : ℕ) → ts ≡ rest_sizes x ss → us ≡ rest_sizes y ts → x + y ≡ z → us ≡ rest_sizes z ss
rest_sizes_again ss ts us x y z e f both = f ∙ ap (rest_sizes y) e ∙ rest_sizes-rest_sizes y x ss ∙ ap (λ (n : ℕ). rest_sizes n ss) both

-- keeping in two steps
pub take_again : (a b c : List ℕ) → length c ≤ length b → b ≡ take (length b) a → c ≡ take (length c) b → c ≡ take (length c) a
take_again a b c q e f = f ∙ ap (take (length c)) e ∙ take-take (length c) (length b) a q

pub front_sizes_again : (ss ts us : List ℕ) (x y : ℕ) → y ≤ x → ts ≡ front_sizes x ss → us ≡ front_sizes y ts → us ≡ front_sizes y ss
front_sizes_again ss ts us x y le e f = f ∙ ap (front_sizes y) e ∙ front_sizes-front_sizes y x ss le

-- the next bytes, and those behind them
pub take-append-drop_on : (xs : List ℕ) (at t : ℕ) → take t (drop at xs) ++ drop (at + t) xs ≡ drop at xs
take-append-drop_on xs at t = ap (λ (l : List ℕ). take t (drop at xs) ++ l) (sym (drop-drop t at xs)) ∙ take-append-drop t (drop at xs)

-- Copying from the first piece p on: `from` of the `skip` bytes lie in p, and `taken` are copied, of those that are wanted.
module _ (p more wanted : List ℕ) (skip done all from taken : ℕ) where
  -- what is copied is what is wanted
  pub copied : from ≡ min skip (length p) → taken ≡ min (length p - from) (all - done) → take (all - done) (drop skip (p ++ more)) ≡ drop done wanted → take taken (drop from p) ≡ take taken (drop done wanted)
  copied a b rest =
      let cut : drop skip (p ++ more) ≡ drop from p ++ drop (skip - from) more =
      drop-append_min p more skip ∙ ap (λ (n : ℕ). drop n p ++ drop (skip - n) more) (sym a)
      in
      sym (ap (take taken) (sym rest)
      ∙ take-take taken (all - done) (drop skip (p ++ more)) (omega arith)
      ∙ ap (take taken) cut
      ∙ take-append-le taken (drop from p) (drop (skip - from) more) (omega (arith, length-drop from p)))

  -- what is left is what is left to copy
  pub left : from ≡ min skip (length p) → taken ≡ min (length p - from) (all - done) → done ≤ all → take (all - done) (drop skip (p ++ more)) ≡ drop done wanted → take (all - (done + taken)) (drop (skip - from) more) ≡ drop (done + taken) wanted
  left a b fits rest =
      let cut : drop skip (p ++ more) ≡ drop from p ++ drop (skip - from) more =
      drop-append_min p more skip ∙ ap (λ (n : ℕ). drop n p ++ drop (skip - n) more) (sym a)
      in
      let sum : taken + (all - (done + taken)) ≡ all - done = omega arith in
      let behind : drop (done + taken) wanted ≡ take (all - (done + taken)) (drop taken (drop from p ++ drop (skip - from) more)) =
      sym (drop-drop taken done wanted)
      ∙ ap (drop taken) (sym rest)
      ∙ ap (λ (l : List ℕ). drop taken (take (all - done) l)) cut
      ∙ ap (λ (n : ℕ). drop taken (take n (drop from p ++ drop (skip - from) more))) (sym sum)
      ∙ drop-take taken (all - (done + taken)) (drop from p ++ drop (skip - from) more)
      in
      elim (cases_lt taken (length p - from)) [
        | inr whole ↦
            sym (behind ∙ ap (take (all - (done + taken))) (drop_at (drop from p) (drop (skip - from) more) taken (omega (arith, length-drop from p))))
        | inl part ↦
            let none : all - (done + taken) ≡ 0 = omega arith in
            ap (λ (n : ℕ). take n (drop (skip - from) more)) none
            ∙ sym (behind ∙ ap (λ (n : ℕ). take n (drop taken (drop from p ++ drop (skip - from) more))) none)
      ]
