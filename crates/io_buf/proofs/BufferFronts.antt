-- A buffer that loses bytes in front, step by step.
use Rattle.std.proofs.Common.{◌≡◌, ℕ, ◌+◌, ◌-◌, ◌≤◌, length, drop, arith, ap, sym, refl, ◌∙◌}
use Rattle.io_buf.specs.Buffer.{Buffer, rest_sizes, IsShorter}
use Rattle.io_buf.proofs.ReferenceSizesAtEnds.{rest_sizes-zero}
use Rattle.io_buf.proofs.PieceLoopSteps.{drop_again, rest_sizes_again}

-- now is old without some first bytes, and still has `keep` of them
pub record LosesFront (keep : ℕ) (old now : Buffer) : Type 0 where
  pub keeps : keep ≤ length now.items
  pub less : length now.items ≤ length old.items
  pub items : now.items ≡ drop (length old.items - length now.items) old.items
  pub sizes : now.sizes ≡ rest_sizes (length old.items - length now.items) old.sizes
  pub spare : now.spare + length now.sizes ≡ old.spare + length old.sizes

pub LosesFront-start : (keep : ℕ) (old : Buffer) → keep ≤ length old.items → LosesFront keep old old
LosesFront-start keep old fits =
    let none : length old.items - length old.items ≡ 0 = omega arith in
    record {
      keeps = fits;
      less = omega arith;
      items = sym (ap (λ (n : ℕ). drop n old.items) none);
      sizes = sym (ap (λ (n : ℕ). rest_sizes n old.sizes) none ∙ rest_sizes-zero old.sizes);
      spare = refl;
    }

pub LosesFront-step : (keep n : ℕ) (old now after : Buffer) → LosesFront keep old now → keep + n ≤ length now.items → IsShorter now after n → after.items ≡ drop (length now.items - length after.items) now.items → after.sizes ≡ rest_sizes (length now.items - length after.items) now.sizes → LosesFront keep old after
LosesFront-step keep n old now after known fits shorter items sizes =
    record {
      keeps = omega (arith, shorter.at_most);
      less = omega (arith, shorter.less, known.less);
      items = drop_again old.items now.items after.items known.less (omega (arith, shorter.less)) known.items items;
      sizes =
          rest_sizes_again old.sizes now.sizes after.sizes (length old.items - length now.items) (length now.items - length after.items) (length old.items - length after.items)
          known.sizes sizes (omega (arith, known.less, shorter.less));
      spare = shorter.spare ∙ known.spare;
    }
