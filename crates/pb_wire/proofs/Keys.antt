-- A field is read as its key, the parts of the key, and the value behind it.
use Rattle.std.proofs.Common.{◌≡◌, ℕ, ◌<◌, ◌≤◌, ◌+◌, ◌-◌, ◌/◌, ◌%◌, ◌||◌, ◌==◌, nat_lt, nat_le, Bool, true, false, if◌then◌else◌, List, drop, Ok, Err, refl, ap, sym, ◌∙◌, arith}
use Rattle.std.proofs.lemmas.List.{drop-drop}
use Rattle.brpc_model.specs.Wire.{WireFault, BadKey, Group, Wire, ◌>>=◌, Front, Value, Field, varint, value, with_key, field, field_of}

abbrev pair : ℕ → ℕ → Wire (ℕ × ℕ)
pair number type = Ok (number, type)

unless_twice : {A B : Type 0} (s t : Bool) (x y : WireFault) (r : Wire A) (g : A → Wire B) →
    (if s then Err x else if t then Err y else (r >>= g)) ≡ (if s then Err x else if t then Err y else r) >>= g
unless_twice true t x y r g = refl
unless_twice false true x y r g = refl
unless_twice false false x y r g = refl

key_with : {B : Type 0} (at key : ℕ) (f : ℕ → ℕ → Wire B) → with_key at key f ≡ with_key at key pair >>= (λ p. f p.0 p.1)
key_with at key f =
    unless_twice (nat_lt 4294967295 key || key / 8 == 0 || nat_le 6 (key % 8)) (key % 8 == 3 || key % 8 == 4) (BadKey at) (Group at) (pair (key / 8) (key % 8)) (λ p. f p.0 p.1)

-- a value with the number of its field and the size of its key before it
abbrev pub with_number : ℕ → ℕ → Front Value → Wire (Front Field)
with_number number size v = Ok (record { value = record { number = number; value = v.value }; size = size + v.size })

-- the field that begins with this key has the value behind it
pub field_by_value : (at next : ℕ) (bytes : List ℕ) (key number type : ℕ) (v : Wire (Front Value)) → at < next →
    Ok (record { value = key; size = next - at }) ≡ varint at (drop at bytes) →
    Ok (number, type) ≡ with_key at key pair →
    v ≡ value type next (drop next bytes) →
    field at (drop at bytes) ≡ v >>= with_number number (next - at)
field_by_value at next bytes key number type v later e k w =
    let place : at + (next - at) ≡ next = omega arith in
    ap (λ r. r >>= (λ k. with_key at k.value (field_of at (drop at bytes) k.size))) (sym e)
    ∙ key_with at key (field_of at (drop at bytes) (next - at))
    ∙ ap (λ r. r >>= (λ p. field_of at (drop at bytes) (next - at) p.0 p.1)) (sym k)
    ∙ ap (λ l. value type (at + (next - at)) l >>= with_number number (next - at)) (drop-drop (next - at) at bytes)
    ∙ ap (λ p. value type p (drop p bytes) >>= with_number number (next - at)) place
    ∙ ap (λ r. r >>= with_number number (next - at)) (sym w)

-- the place behind the value is the place behind the field
pub with_number_upto : (at next end number : ℕ) (v : Value) → at < next → next ≤ end →
    with_number number (next - at) (record { value = v; size = end - next }) ≡ Ok (record { value = record { number = number; value = v }; size = end - at })
with_number_upto at next end number v later h =
    let size : (next - at) + (end - next) ≡ end - at = omega arith in
    ap (λ n. Ok (record { value = record { number = number; value = v }; size = n })) size
