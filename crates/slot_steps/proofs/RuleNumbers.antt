-- The numbers that the rule counts by.
use Rattle.std.proofs.Common.{◌≡◌, ℕ, ◌+◌, ◌-◌, ◌*◌, ◌/◌, ◌%◌, ◌<◌, ◌≤◌, ◌≢◌, arith, bit_or, bit_and}
use Rattle.std.proofs.lemmas.Bool.Decides.{nat_tests}
use Rattle.std.proofs.lemmas.Nat.Bits.{and_pow}
use Rattle.std.specs.Int.Bits.{or_add_and}
use Rattle.sock_model.specs.MarkWeights.{only, pair, life}
use Rattle.sock_model.specs.SocketSlotLaw.{live_by}

pub only-same : (k : ℕ) → only k k ≡ 1
unfolding only
only-same k = grind (arith, nat_tests)

pub only-at : (k x : ℕ) → x ≡ k → only k x ≡ 1
unfolding only
only-at k x e = grind (arith, nat_tests)

pub only-else : (k x : ℕ) → x ≢ k → only k x ≡ 0
unfolding only
only-else k x n = grind (arith, nat_tests)

pub only_is : (k x : ℕ) → 0 < only k x → x ≡ k
unfolding only
only_is k x h = grind (arith, nat_tests)

pub only_le : (k x : ℕ) → only k x ≤ 1
unfolding only
only_le k x = grind (arith, nat_tests)

pub life-in : (a h b : ℕ) → a ≤ h → h < b → h % 2 ≡ 0 → life a h b ≡ 1
unfolding life
life-in a h b p q r = grind (arith, nat_tests)

pub life-high : (a h b : ℕ) → b ≤ h → life a h b ≡ 0
unfolding life
life-high a h b p = grind (arith, nat_tests)

pub life_is : (a h b : ℕ) → 0 < life a h b → (a ≤ h) × (h < b) × (h % 2 ≡ 0)
unfolding life
life_is a h b p = grind (arith, nat_tests)

pub live-yes : (t v b : ℕ) → t ≡ 1 → v % 2 ≡ 0 → v ≤ 4294967292 → b ≡ 0 → live_by t v b ≡ 1
unfolding live_by
live-yes t v b p q r s = grind (arith, nat_tests)

pub live_le : (t v b : ℕ) → live_by t v b ≤ 1
unfolding live_by
live_le t v b = grind (arith, nat_tests)

pub live_is : (t v b : ℕ) → 0 < live_by t v b → (t ≡ 1) × (v % 2 ≡ 0) × (v ≤ 4294967292) × (b ≡ 0)
unfolding live_by
live_is t v b p = grind (arith, nat_tests)

-- one more version below the bound
pub life-more : (a h v : ℕ) → a ≤ v → v % 2 ≡ 0 → life a h (v + 1) ≡ life a h v + only h v
unfolding life only
life-more a h v p q = grind (arith, nat_tests)

pub life-odd_more : (a h v : ℕ) → v % 2 ≡ 1 → life a h (v + 1) ≡ life a h v
unfolding life
life-odd_more a h v q = grind (arith, nat_tests)

pub pair_is : (a b x y : ℕ) → 0 < pair a b x y → (x ≡ a) × (y ≡ b)
unfolding pair
pair_is a b x y h = grind (arith, nat_tests)

pub pair-same : (a b : ℕ) → pair a b a b ≡ 1
unfolding pair
pair-same a b = grind (arith, nat_tests)

pub pair-at : (a b x y : ℕ) → x ≡ a → y ≡ b → pair a b x y ≡ 1
unfolding pair
pair-at a b x y p q = grind (arith, nat_tests)

pub life-less : (a h v : ℕ) → v % 2 ≡ 0 → life a h (v - 1) ≡ life a h v
unfolding life
life-less a h v q = grind (arith, nat_tests)

pub live-odd : (t v b : ℕ) → v % 2 ≡ 1 → live_by t v b ≡ 0
unfolding live_by
live-odd t v b p = grind (arith, nat_tests)

pub live-busy : (t v b : ℕ) → 0 < b → live_by t v b ≡ 0
unfolding live_by
live-busy t v b p = grind (arith, nat_tests)

pub live-free : (t v b : ℕ) → t ≡ 0 → live_by t v b ≡ 0
unfolding live_by
live-free t v b p = grind (arith, nat_tests)

-- to set bit 32
pub or-even : (n : ℕ) → n / 4294967296 % 2 ≡ 0 → bit_or n 4294967296 ≡ n + 4294967296
or-even n e = let a = or_add_and n 4294967296 in let b : bit_and n 4294967296 ≡ n / 4294967296 % 2 * 4294967296 = and_pow n 32 in omega arith

pub or-odd : (n : ℕ) → n / 4294967296 % 2 ≡ 1 → bit_or n 4294967296 ≡ n
or-odd n e = let a = or_add_and n 4294967296 in let b : bit_and n 4294967296 ≡ n / 4294967296 % 2 * 4294967296 = and_pow n 32 in omega arith

pub life-none : (a h b : ℕ) → b ≤ a → life a h b ≡ 0
unfolding life
life-none a h b p = grind (arith, nat_tests)

pub life_le : (a h b : ℕ) → life a h b ≤ 1
unfolding life
life_le a h b = grind (arith, nat_tests)

pub pair_le : (a b x y : ℕ) → pair a b x y ≤ 1
unfolding pair
pair_le a b x y = grind (arith, nat_tests)

pub pair_only : (a b x y : ℕ) → pair a b x y ≤ only a x
unfolding pair only
pair_only a b x y = grind (arith, nat_tests)
