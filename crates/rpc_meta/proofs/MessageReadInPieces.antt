-- A message is read piece by piece.
use Rattle.std.proofs.Common.{◌≡◌, ℕ, ◌<◌, ◌≤◌, ◌+◌, ◌*◌, ◌^◌, List, [], ◌∷◌, ◌++◌, length, drop, Ok, Err, refl, ap, sym, ◌∙◌, subst, append_assoc, arith}
use Rattle.std.proofs.lemmas.List.{append-nil, length-append, drop_at}
use Rattle.pb_wire.specs.brpc_model.specs.Wire.{Wire, ◌>>=◌, Varint, Span, Field, varint_bytes, fields_with}
use Rattle.pb_wire.specs.brpc_model.specs.Spelling.{number_field, bytes_field}
use Rattle.pb_wire.specs.Form.{IsVarint, IsField}
use Rattle.pb_wire.proofs.FieldForms.{form_read_field}
use Rattle.pb_wire.proofs.FieldReadings.{fields_go_on}
use Rattle.pb_wire.proofs.Shortest.{shortest_form}

-- a number under a number, as a field
pub number_is : (at k n : ℕ) → 1 ≤ k → k < 2 ^ 29 → n < 2 ^ 64 → IsField at (number_field k n) (record { number = k; value = Varint n })
number_is at k n one short h = record {
  type = 0;
  key = varint_bytes (k * 8);
  value = varint_bytes n;
  parts = refl;
  key_is = let P : ℕ → Type 0 = λ m. IsVarint (varint_bytes (k * 8)) m in let e : k * 8 ≡ k * 8 + 0 = omega arith in subst P e (shortest_form (k * 8) (omega (arith, short)));
  numbered = one;
  short = short;
  value_is = (refl, shortest_form n h);
}

-- the place where the bytes of a field begin
abbrev pub inner_place : ℕ → ℕ → List ℕ → ℕ
inner_place at k bytes = at + length (varint_bytes (k * 8 + 2)) + length (varint_bytes (length bytes))

-- bytes under a number, as a field
pub bytes_is : (at k : ℕ) (bytes : List ℕ) → 1 ≤ k → k < 2 ^ 29 → length bytes < 2 ^ 64 → IsField at (bytes_field k bytes) (record { number = k; value = Span (inner_place at k bytes) bytes })
bytes_is at k bytes one short h = record {
  type = 2;
  key = varint_bytes (k * 8 + 2);
  value = varint_bytes (length bytes) ++ bytes;
  parts = append_assoc (varint_bytes (k * 8 + 2)) (varint_bytes (length bytes)) bytes;
  key_is = shortest_form (k * 8 + 2) (omega (arith, short));
  numbered = one;
  short = short;
  value_is = (refl, record { size = varint_bytes (length bytes); parts = refl; size_is = shortest_form (length bytes) h; from_is = refl });
}

-- these bytes, which begin at this place, say these values, whatever follows them
abbrev pub Says : {A : Type 0} → (Field → Wire A) → ℕ → List ℕ → List A → Type 0
Says inner at bytes values = (more : List ℕ) → fields_with inner at (bytes ++ more) ≡ fields_with inner (at + length bytes) more >>= (λ rest. Ok (values ++ rest))

same_rest : {A : Type 0} (r : Wire (List A)) → r ≡ r >>= (λ rest. Ok ([] ++ rest))
same_rest (Ok rest) = refl
same_rest (Err x) = refl

pub says_none : {A : Type 0} (inner : Field → Wire A) (at : ℕ) → Says inner at [] []
says_none inner at more = let e : at ≡ at + 0 = omega arith in ap (λ a. fields_with inner a more) e ∙ same_rest (fields_with inner (at + 0) more)

-- a field that is read on to this value
pub says_one : {A : Type 0} (inner : Field → Wire A) (at : ℕ) (bytes : List ℕ) (f : Field) (value : A) → IsField at bytes f → inner f ≡ Ok value → Says inner at bytes (value ∷ [])
says_one inner at bytes f value i e more =
    fields_go_on inner at (bytes ++ more) (record { value = f; size = length bytes }) (form_read_field at bytes more f i)
    ∙ ap (λ r. r >>= (λ first. fields_with inner (at + length bytes) (drop (length bytes) (bytes ++ more)) >>= (λ rest. Ok (first ∷ rest)))) e
    ∙ ap (λ l. fields_with inner (at + length bytes) l >>= (λ rest. Ok (value ∷ rest))) (drop_at bytes more (length bytes) refl)

joined : {A : Type 0} (r : Wire (List A)) (xs ys : List A) → (r >>= (λ rest. Ok (ys ++ rest))) >>= (λ rest. Ok (xs ++ rest)) ≡ r >>= (λ rest. Ok ((xs ++ ys) ++ rest))
joined (Ok rest) xs ys = ap (λ l. Ok l) (sym (append_assoc xs ys rest))
joined (Err x) xs ys = refl

-- one piece behind another
pub says_both : {A : Type 0} (inner : Field → Wire A) (at : ℕ) (a b : List ℕ) (xs ys : List A) → Says inner at a xs → Says inner (at + length a) b ys → Says inner at (a ++ b) (xs ++ ys)
says_both inner at a b xs ys h k more =
    let place : (at + length a) + length b ≡ at + length (a ++ b) = omega (arith, length-append a b) in
    ap (λ l. fields_with inner at l) (append_assoc a b more)
    ∙ h (b ++ more)
    ∙ ap (λ r. r >>= (λ rest. Ok (xs ++ rest))) (k more)
    ∙ joined (fields_with inner ((at + length a) + length b) more) xs ys
    ∙ ap (λ p. fields_with inner p more >>= (λ rest. Ok ((xs ++ ys) ++ rest))) place

-- nothing follows
pub says_all : {A : Type 0} (inner : Field → Wire A) (at : ℕ) (bytes : List ℕ) (values : List A) → Says inner at bytes values → fields_with inner at bytes ≡ Ok values
says_all inner at bytes values h =
    ap (λ l. fields_with inner at l) (sym (append-nil bytes)) ∙ h [] ∙ ap (λ l. Ok l) (append-nil values)
