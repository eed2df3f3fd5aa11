-- A varint that is put byte by byte.
use Rattle.std.proofs.Common.{◌≡◌, ℕ, zero, suc, ◌<◌, ◌≤◌, ◌+◌, ◌-◌, ◌/◌, ◌%◌, ◌^◌, List, [], ◌∷◌, ◌++◌, length, ap, sym, ◌∙◌, subst, arith, append_assoc, length-append}
use Rattle.pb_wire.specs.brpc_model.specs.Wire.{varint_up_to}
use Rattle.pb_wire.proofs.Groups.{spell_more, spell_last}

-- a byte that is followed by another is put behind these
pub put_more : (xs : List ℕ) (room n : ℕ) → 0 < room → 128 ≤ n → n < 128 ^ room →
    (0 < room - 1) × (n / 128 < 128 ^ (room - 1)) × ((xs ++ (n % 128 + 128) ∷ []) ++ varint_up_to (room - 1) (n / 128) ≡ xs ++ varint_up_to room n)
put_more xs room n some more fits =
    let e : room - 0 ≡ room = omega arith in
    let P : ℕ → Type 0 = λ m. n < 128 ^ m in
    let s = spell_more room 0 n some more (subst P (sym e) fits) in (
      omega (arith, s.0),
      s.1,
      append_assoc xs ((n % 128 + 128) ∷ []) (varint_up_to (room - 1) (n / 128))
          ∙ ap (λ l. xs ++ l) (s.2 (0 ∷ []) (omega arith) ∙ ap (λ m. varint_up_to m n) e),
    )

-- the last byte
pub put_last : (room n : ℕ) → 0 < room → n < 128 → n ∷ [] ≡ varint_up_to room n
put_last room n some last =
    let e : room - 0 ≡ room = omega arith in spell_last room 0 n (0 ∷ []) some last (omega arith) ∙ ap (λ m. varint_up_to m n) e

-- a varint has a byte, so there is room for one
pub some_room : (xs old bytes : List ℕ) (most room n : ℕ) → 0 < room → n < 128 ^ room → xs ++ varint_up_to room n ≡ old ++ bytes → length old + length bytes ≤ most → length xs < most
some_room xs old bytes most zero n some fits e fit = absurd (omega (arith, some))
some_room xs old bytes most (suc room) n some fits e fit =
    omega (arith, fit, ap length e, length-append xs (varint_up_to (suc room) n), length-append old bytes, one n)
  where
    one : (n : ℕ) → 0 < length (varint_up_to (suc room) n)
    one n = grind arith
