-- Lists whose elements stand in one order, those of each list in its own.
use Rattle.std.specs.Prelude.{◌≡◌, ℕ, ◌==◌, ◌<◌, cond, List, [], ◌∷◌, length}
use mathlib.Core.Option.{some}
use lib.ListN.{get_elem?}

-- the elements of list c, where `by` has beside each element the number of its list
abbrev pub part_of : {A : Type 0} → ℕ → List ℕ → List A → List A
part_of c [] xs = []
part_of c (b ∷ bs) [] = []
part_of c (b ∷ bs) (x ∷ xs) = cond (b == c) (x ∷ part_of c bs xs) (part_of c bs xs)

-- the order has each element of these lists once and no other, and those of each list as they stand there
pub record AreMerged {A : Type 0} (lists : List (List A)) (order : List A) : Type 0 where
  -- the number of the list of each element
  pub by : List ℕ
  pub long : length by ≡ length order
  pub inside : (q c : ℕ) → get_elem? by q ≡ some c → c < length lists
  pub own : (c : ℕ) (l : List A) → get_elem? lists c ≡ some l → part_of c by order ≡ l
