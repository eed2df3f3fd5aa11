-- How long pieces are that stand behind one another.
use Rattle.std.proofs.Common.{◌≡◌, ℕ, ◌+◌, ◌*◌, ◌^◌, ◌<◌, ◌≤◌, List, ◌++◌, length, Option, Some, None, ◌∙◌, arith, length-append}
use Rattle.std.specs.Prelude.{IfSome, IfNone}
use Rattle.std.specs.Option.{SomeIff}
use Rattle.pb_wire.specs.brpc_model.specs.Wire.{varint_bytes}
use Rattle.pb_wire.specs.brpc_model.specs.Spelling.{where_some}
use Rattle.rpc_meta.specs.MetaWriting.{part_field}

-- a sum that fits
pub summed : (o : Option ℕ) (P : Type 0) (s n : ℕ) → SomeIff o P s → s ≡ n → IfSome o (λ m. m ≡ n)
summed None P s n h e = tt
summed (Some m) P s n h e = h.1 ∙ e

-- and one that doesn't
pub unfit : (o : Option ℕ) (s n : ℕ) → SomeIff o (s < 2 ^ 64) s → s ≡ n → IfNone o (2 ^ 64 ≤ n)
unfit None s n h e = omega (arith, h, e)
unfit (Some m) s n h e = tt

-- what holds anyway holds where there is none
pub anyway : {A : Type 0} (o : Option A) (P : Type 0) → P → IfNone o P
anyway None P p = p
anyway (Some a) P p = tt

-- the fields of a part are no more than the part
pub fields_within : {S : Type 0} (number : ℕ) (bytes : S → List ℕ) (o : Option S) → length (where_some bytes o) ≤ length (part_field number bytes o)
fields_within number bytes None = omega arith
fields_within number bytes (Some part) = omega (arith, length-append (varint_bytes (number * 8 + 2) ++ varint_bytes (length (bytes part))) (bytes part))

pub two : (a b : List ℕ) (n m : ℕ) → n ≡ length a → m ≡ length b → n + m ≡ length (a ++ b)
two a b n m p q = omega (arith, p, q, length-append a b)

pub five : (a b c d e : List ℕ) (x u v p q r : ℕ) → x ≡ u + v → u ≡ length a → v ≡ length b → p ≡ length c → q ≡ length d → r ≡ length e → x + (p + q + r) ≡ length (a ++ b ++ c ++ d ++ e)
five a b c d e x u v p q r s h i j k l = omega (arith, s, h, i, j, k, l, length-append (a ++ b ++ c ++ d) e, length-append (a ++ b ++ c) d, length-append (a ++ b) c, length-append a b)
