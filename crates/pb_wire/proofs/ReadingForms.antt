-- The next field of a reader is what the bytes at its place spell.
use Rattle.std.proofs.Common.{◌≡◌, ℕ, ◌≤◌, ◌+◌, ◌-◌, List, [], ◌∷◌, ◌++◌, length, take, drop, slice_range, Option, Some, None, Ok, Err, ap, sym, ◌∙◌, arith, subst}
use Rattle.std.proofs.lemmas.List.{length-take, length-drop, take-append-drop, take-take}
use Rattle.brpc_model.specs.Wire as wire
use Rattle.brpc_model.specs.Wire.{WireFault, Wire, ◌>>=◌, Front, field}
use Rattle.pb_wire.specs.FieldReader.{Reading, rest, first_field, unless_met, ahead}
use Rattle.pb_wire.specs.Form.{IsField}
use Rattle.pb_wire.proofs.FieldForms.{read_field_form, form_read_field}

first_is : (at : ℕ) (bytes : List ℕ) (f : Front wire.Field) → field at bytes ≡ Ok f → first_field at bytes ≡ Ok (Some f)
first_is at [] f e = absurd (cc)
first_is at (b ∷ bytes) f e = ap (λ r. r >>= (λ f. Ok (Some f))) e

-- each field that the bytes spell comes
pub each_form : (r : Reading) (f : wire.Field) (to : ℕ) → r.fault ≡ None → r.end ≤ length r.bytes → r.at ≤ to → to ≤ r.end → IsField r.at (slice_range r.bytes r.at to) f →
    ahead r ≡ Ok (Some (record { value = f; size = to - r.at }))
each_form r f to met short h k i =
    let size : length (slice_range r.bytes r.at to) ≡ to - r.at = simp (length-take, length-drop) (omega arith) in
    let front : take (to - r.at) (rest r) ≡ slice_range r.bytes r.at to = take-take (to - r.at) (r.end - r.at) (drop r.at r.bytes) (omega (arith, h, k)) in
    let read : field r.at (rest r) ≡ Ok (record { value = f; size = to - r.at }) =
    ap (field r.at) (sym (take-append-drop (to - r.at) (rest r)) ∙ ap (λ l. l ++ drop (to - r.at) (rest r)) front)
    ∙ form_read_field r.at (slice_range r.bytes r.at to) (drop (to - r.at) (rest r)) f i
    ∙ ap (λ s. Ok (record { value = f; size = s })) size in
    ap (λ m. unless_met m (first_field r.at (rest r))) met ∙ first_is r.at (rest r) (record { value = f; size = to - r.at }) read

first_form : (at : ℕ) (bytes : List ℕ) (f : Front wire.Field) → first_field at bytes ≡ Ok (Some f) → (f.size ≤ length bytes) × IsField at (take f.size bytes) f.value
first_form at [] f e = absurd (cc)
first_form at (b ∷ bytes) f e = read_field_form at (b ∷ bytes) f (read (field at (b ∷ bytes)) e)
  where
    read : (r : Wire (Front wire.Field)) → r >>= (λ f. Ok (Some f)) ≡ Ok (Some f) → r ≡ Ok f
    read (Ok g) e = cc
    read (Err x) e = absurd (cc)

-- what comes is spelled by the bytes up to where the reader then stands
pub spelled_form : (r : Reading) (f : Front wire.Field) → ahead r ≡ Ok (Some f) → IsField r.at (slice_range r.bytes r.at (r.at + f.size)) f.value
spelled_form r f e = unmet r.fault e
  where
    found : first_field r.at (rest r) ≡ Ok (Some f) → IsField r.at (slice_range r.bytes r.at (r.at + f.size)) f.value
    found e =
        let g = first_form r.at (rest r) f e in
        let size = length-take (r.end - r.at) (drop r.at r.bytes) in
        let same : take f.size (rest r) ≡ slice_range r.bytes r.at (r.at + f.size) =
        take-take f.size (r.end - r.at) (drop r.at r.bytes) (omega (arith, g.0, size)) ∙ ap (λ n. take n (drop r.at r.bytes)) (place f.size) in
        let P : List ℕ → Type 0 = λ l. IsField r.at l f.value in
        subst P same g.1
      where
        place : (n : ℕ) → n ≡ (r.at + n) - r.at
        place n = omega arith

    unmet : (m : Option WireFault) → unless_met m (first_field r.at (rest r)) ≡ Ok (Some f) → IsField r.at (slice_range r.bytes r.at (r.at + f.size)) f.value
    unmet None e = found e
    unmet (Some x) e = absurd (cc)
