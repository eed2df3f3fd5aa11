-- The fields of a message are read exactly where the bytes spell them.
use Rattle.std.proofs.Common.{◌≡◌, ◌↔◌, ℕ, ◌+◌, List, [], ◌∷◌, length, take, drop, Ok, Err, refl, ap, sym, ◌∙◌, subst}
use Rattle.std.proofs.lemmas.List.{take-append-drop, length-take-le, drop_at}
use Rattle.brpc_model.specs.Wire.{WireFault, Wire, ◌>>=◌, Front, Field, field, fields, fields_up_to}
use Rattle.pb_wire.specs.Form.{IsField, IsMessage}
use Rattle.pb_wire.proofs.FieldForms.{read_field_form, form_read_field}
use Rattle.pb_wire.proofs.FieldReadings.{fields_go_on}

first_read : {B : Type 0} (r : Wire (Front Field)) (g : Front Field → Wire B) (b : B) → r >>= g ≡ Ok b → (f : Front Field) × (r ≡ Ok f)
first_read (Ok f) g b e = (f, refl)
first_read (Err x) g b e = absurd (no_fault x e)
  where
    no_fault : (x : WireFault) → Err x ≡ Ok b → ⊥
    no_fault x e = cc

record Split (a : Field) (r : Wire (List Field)) (fs : List Field) : Type 0 where
  rest : List Field
  read : r ≡ Ok rest
  same : a ∷ rest ≡ fs

split_read : (a : Field) (r : Wire (List Field)) (fs : List Field) → r >>= (λ rest. Ok (a ∷ rest)) ≡ Ok fs → Split a r fs
split_read a (Ok rest) fs e = record { rest = rest; read = refl; same = cc }
split_read a (Err x) fs e = absurd (no_fault x e)
  where
    no_fault : (x : WireFault) → ◌≡◌ {A = Wire (List Field)} (Err x) (Ok fs) → ⊥
    no_fault x e = cc

-- the first field of a message that was read, and the rest of it
front_read : (at b : ℕ) (bytes : List ℕ) (fs : List Field) → fields at (b ∷ bytes) ≡ Ok fs →
    (f : Front Field) × (field at (b ∷ bytes) ≡ Ok f) × Split f.value (fields (at + f.size) (drop f.size (b ∷ bytes))) fs
front_read at b bytes fs e =
    let r = first_read (field at (b ∷ bytes)) (λ f. fields_up_to (λ f. Ok f) (length bytes) (at + f.size) (drop f.size (b ∷ bytes)) >>= (λ rest. Ok (f.value ∷ rest))) fs e in
    (r.0, r.1, split_read r.0.value (fields (at + r.0.size) (drop r.0.size (b ∷ bytes))) fs (sym (fields_go_on (λ f. Ok f) at (b ∷ bytes) r.0 r.1) ∙ e))

-- what is read is a message
pub read_message_form : (fs : List Field) (at : ℕ) (bytes : List ℕ) → fields at bytes ≡ Ok fs → IsMessage at bytes fs
read_message_form [] at [] e = refl
read_message_form [] at (b ∷ bytes) e = let r = front_read at b bytes [] e in absurd (some r.0.value r.2.rest r.2.same)
  where
    some : (a : Field) (rest : List Field) → a ∷ rest ≡ [] → ⊥
    some a rest e = cc
read_message_form (f ∷ fs) at [] e = absurd (cc)
read_message_form (f ∷ fs) at (b ∷ bytes) e =
    let r = front_read at b bytes (f ∷ fs) e in
    let form = read_field_form at (b ∷ bytes) r.0 r.1 in
    let size : length (take r.0.size (b ∷ bytes)) ≡ r.0.size = length-take-le r.0.size (b ∷ bytes) form.0 in
    let value : r.0.value ≡ f = heads r.0.value f r.2.rest fs r.2.same in
    let tail : r.2.rest ≡ fs = tails r.0.value f r.2.rest fs r.2.same in
    let P : Field → Type 0 = λ f. IsField at (take r.0.size (b ∷ bytes)) f in
    let Q : ℕ → Type 0 = λ s. IsMessage (at + s) (drop r.0.size (b ∷ bytes)) fs in (
      take r.0.size (b ∷ bytes),
      drop r.0.size (b ∷ bytes),
      sym (take-append-drop r.0.size (b ∷ bytes)),
      subst P value form.1,
      subst Q (sym size) (read_message_form fs (at + r.0.size) (drop r.0.size (b ∷ bytes)) (r.2.read ∙ ap (λ l. Ok l) tail)),
    )
  where
    heads : (a c : Field) (more cs : List Field) → a ∷ more ≡ c ∷ cs → a ≡ c
    heads a c more cs e = cc

    tails : (a c : Field) (more cs : List Field) → a ∷ more ≡ c ∷ cs → more ≡ cs
    tails a c more cs e = cc

-- a message is read
pub form_read_message : (fs : List Field) (at : ℕ) (bytes : List ℕ) → IsMessage at bytes fs → fields at bytes ≡ Ok fs
form_read_message [] at bytes m = ap (fields at) m
form_read_message (f ∷ fs) at bytes m =
    let first = m.0 in
    let rest = m.1 in
    let read : field at bytes ≡ Ok (record { value = f; size = length first }) = ap (field at) m.2 ∙ form_read_field at first rest f m.3 in
    fields_go_on (λ f. Ok f) at bytes (record { value = f; size = length first }) read
    ∙ ap (λ l. fields (at + length first) l >>= (λ rest. Ok (f ∷ rest))) (ap (drop (length first)) m.2 ∙ drop_at first rest (length first) refl)
    ∙ ap (λ r. r >>= (λ rest. Ok (f ∷ rest))) (form_read_message fs (at + length first) rest m.4)

pub message_is_read : (at : ℕ) (bytes : List ℕ) (fs : List Field) → (fields at bytes ≡ Ok fs) ↔ IsMessage at bytes fs
message_is_read at bytes fs = (read_message_form fs at bytes, form_read_message fs at bytes)
