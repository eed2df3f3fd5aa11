-- A field is read exactly where the bytes spell one.
use Rattle.std.proofs.Common.{◌≡◌, ◌≢◌, ℕ, ◌<◌, ◌≤◌, ◌+◌, ◌*◌, ◌/◌, ◌%◌, ◌^◌, ◌==◌, ◌||◌, nat_le, nat_lt, Bool, true, false, if◌then◌else◌, List, ◌++◌, length, take, drop, Ok, Err, refl, ap, sym, ◌∙◌, subst, ⊎_elim, arith}
use Rattle.std.proofs.Math.Seq.{take-add}
use Rattle.std.proofs.lemmas.List.{length-drop, length-take-le, take_at, drop_at, append_assoc, length-append}
use Rattle.std.proofs.lemmas.Nat.{div-mul-add, mod-mul-add, div-add-mod'}
use Rattle.std.proofs.lemmas.Bool.Decides.{leb_tells, eqb_tells}
use Rattle.std.proofs.lemmas.Bool.{le-leb, lt-leb, le-ltb}
use Rattle.std.proofs.lemmas.Grind.{common_steps}
use Rattle.brpc_model.specs.Wire.{WireFault, Truncated, BadKey, Group, Wire, ◌>>=◌, Front, Value, Varint, Eight, Span, Four, Field, varint, bytes_of, span, value, with_key, field_of, field, least_first}
use Rattle.pb_wire.specs.Form.{IsVarint, IsSpan, IsValue, IsField}
use Rattle.pb_wire.proofs.Varints.{read_form, form_read}

bind_ok : {A B : Type 0} (r : Wire A) (g : A → Wire B) (b : B) → r >>= g ≡ Ok b → (a : A) × (r ≡ Ok a) × (g a ≡ Ok b)
bind_ok (Ok a) g b e = (a, refl, e)
bind_ok (Err x) g b e = absurd (no_fault x e)
  where
    no_fault : (x : WireFault) → Err x ≡ Ok b → ⊥
    no_fault x e = cc

not_fault : {B : Type 0} (t : Bool) (x : WireFault) (r : Wire B) (b : B) → (if t then Err x else r) ≡ Ok b → (t ≡ false) × (r ≡ Ok b)
not_fault true x r b e = absurd (no_fault e)
  where
    no_fault : Err x ≡ Ok b → ⊥
    no_fault e = cc
not_fault false x r b e = (refl, e)

same_ok : {B : Type 0} (a b : B) → ◌≡◌ {A = Wire B} (Ok a) (Ok b) → a ≡ b
same_ok a b e = cc

-- ## From a value that was read

bytes_form : (n at : ℕ) (bytes : List ℕ) (b : Front (List ℕ)) → bytes_of n at bytes ≡ Ok b → (n ≤ length bytes) × (b ≡ record { value = take n bytes; size = n })
bytes_form n at bytes b e =
    ⊎_elim (λ (y : (nat_le n (length bytes) ≡ true) × (n ≤ length bytes)).
    (y.1, sym (same_ok (record { value = take n bytes; size = n }) b (ap (λ t. if t then Ok (record { value = take n bytes; size = n }) else Err (Truncated at)) (sym y.0) ∙ e))))
    (λ (y : (nat_le n (length bytes) ≡ false) × (length bytes < n)).
    absurd (no_fault (ap (λ t. if t then Ok (record { value = take n bytes; size = n }) else Err (Truncated at)) (sym y.0) ∙ e)))
    (leb_tells n (length bytes))
  where
    no_fault : Err (Truncated at) ≡ Ok b → ⊥
    no_fault e = cc

-- a value that was read, and its form
abbrev Formed : ℕ → ℕ → List ℕ → Front Value → Type 0
Formed type at bytes v = (v.size ≤ length bytes) × IsValue type at (take v.size bytes) v.value

varint_form : (at : ℕ) (bytes : List ℕ) (v : Front Value) → varint at bytes >>= (λ n. Ok (record { value = Varint n.value; size = n.size })) ≡ Ok v → Formed 0 at bytes v
varint_form at bytes v e =
    let n = bind_ok (varint at bytes) (λ n. Ok (record { value = Varint n.value; size = n.size })) v e in
    let r = read_form at bytes n.0 n.1 in
    subst (Formed 0 at bytes) (same_ok (record { value = Varint n.0.value; size = n.0.size }) v n.2) (r.0, (refl, r.1))

fixed_form : (type n at : ℕ) (bytes : List ℕ) (make : ℕ → Value) (v : Front Value) →
    ((bytes : List ℕ) → length bytes ≡ n → IsValue type at bytes (make (least_first bytes))) →
    bytes_of n at bytes >>= (λ b. Ok (record { value = make (least_first b.value); size = n })) ≡ Ok v → Formed type at bytes v
fixed_form type n at bytes make v is e =
    let b = bind_ok (bytes_of n at bytes) (λ b. Ok (record { value = make (least_first b.value); size = n })) v e in
    let f = bytes_form n at bytes b.0 b.1 in
    let q : record { value = make (least_first (take n bytes)); size = n } ≡ v = ap (λ (b : Front (List ℕ)). record { value = make (least_first b.value); size = n }) (sym f.1) ∙ same_ok (record { value = make (least_first b.0.value); size = n }) v b.2 in
    subst (Formed type at bytes) q (f.0, is (take n bytes) (length-take-le n bytes f.0))

span_form : (at : ℕ) (bytes : List ℕ) (v : Front Value) → span at bytes ≡ Ok v → Formed 2 at bytes v
span_form at bytes v e =
    let n = bind_ok (varint at bytes) (λ n. bytes_of n.value at (drop n.size bytes) >>= spanned n) v e in
    let b = bind_ok (bytes_of n.0.value at (drop n.0.size bytes)) (spanned n.0) v n.2 in
    let r = read_form at bytes n.0 n.1 in
    let f = bytes_form n.0.value at (drop n.0.size bytes) b.0 b.1 in
    let inner = take n.0.value (drop n.0.size bytes) in
    let q : record { value = Span (at + n.0.size) inner; size = n.0.size + n.0.value } ≡ v = ap (whole n.0) (sym f.1) ∙ same_ok (whole n.0 b.0) v b.2 in
    let long : length inner ≡ n.0.value = length-take-le n.0.value (drop n.0.size bytes) f.0 in
    let size : length (take n.0.size bytes) ≡ n.0.size = length-take-le n.0.size bytes r.0 in
    let P : ℕ → Type 0 = λ k. IsVarint (take n.0.size bytes) k in
    let rest = length-drop n.0.size bytes in
    subst (Formed 2 at bytes) q (
      omega (arith, r.0, f.0, rest),
      (
        refl,
        record {
          size = take n.0.size bytes;
          parts = take-add n.0.size n.0.value bytes;
          size_is = subst P (sym long) r.1;
          from_is = ap (λ s. at + s) (sym size);
        },
      ),
    )
  where
    whole : Front ℕ → Front (List ℕ) → Front Value
    whole n b = record { value = Span (at + n.size) b.value; size = n.size + b.size }

    spanned : Front ℕ → Front (List ℕ) → Wire (Front Value)
    spanned n b = Ok (whole n b)

value_form : (type at : ℕ) (bytes : List ℕ) (v : Front Value) → (type ≢ 0 → type ≢ 1 → type ≢ 2 → type ≡ 5) → value type at bytes ≡ Ok v → Formed type at bytes v
value_form type at bytes v last e =
    ⊎_elim (λ (y : ((type == 0) ≡ true) × (type ≡ 0)). moved 0 y.1 (varint_form at bytes v (ap (λ t. if t then a else if type == 1 then b else if type == 2 then c else d) (sym y.0) ∙ e)))
    (λ (y : ((type == 0) ≡ false) × (type ≢ 0)).
    let e1 = ap (λ t. if t then a else if type == 1 then b else if type == 2 then c else d) (sym y.0) ∙ e in
    ⊎_elim (λ (z : ((type == 1) ≡ true) × (type ≡ 1)). moved 1 z.1 (fixed_form 1 8 at bytes Eight v (λ l h. (refl, h, refl)) (ap (λ t. if t then b else if type == 2 then c else d) (sym z.0) ∙ e1)))
    (λ (z : ((type == 1) ≡ false) × (type ≢ 1)).
    let e2 = ap (λ t. if t then b else if type == 2 then c else d) (sym z.0) ∙ e1 in
    ⊎_elim (λ (w : ((type == 2) ≡ true) × (type ≡ 2)). moved 2 w.1 (span_form at bytes v (ap (λ t. if t then c else d) (sym w.0) ∙ e2)))
    (λ (w : ((type == 2) ≡ false) × (type ≢ 2)).
    moved 5 (last y.1 z.1 w.1) (fixed_form 5 4 at bytes Four v (λ l h. (refl, h, refl)) (ap (λ t. if t then c else d) (sym w.0) ∙ e2)))
    (eqb_tells type 2))
    (eqb_tells type 1))
    (eqb_tells type 0)
  where
    a : Wire (Front Value)
    a = varint at bytes >>= (λ n. Ok (record { value = Varint n.value; size = n.size }))

    b : Wire (Front Value)
    b = bytes_of 8 at bytes >>= (λ b. Ok (record { value = Eight (least_first b.value); size = 8 }))

    c : Wire (Front Value)
    c = span at bytes

    d : Wire (Front Value)
    d = bytes_of 4 at bytes >>= (λ b. Ok (record { value = Four (least_first b.value); size = 4 }))

    moved : (n : ℕ) → type ≡ n → Formed n at bytes v → Formed type at bytes v
    moved n e f = let P : ℕ → Type 0 = λ n. Formed n at bytes v in subst P (sym e) f

-- ## From a field that was read

-- what a key says that is no fault
record Keyed (key : ℕ) : Type 0 where
  short : key ≤ 4294967295
  numbered : key / 8 ≢ 0
  below : key % 8 < 6
  not_start : key % 8 ≢ 3
  not_end : key % 8 ≢ 4

key_form : {B : Type 0} (at key : ℕ) (f : ℕ → ℕ → Wire B) (b : B) → with_key at key f ≡ Ok b → Keyed key × (f (key / 8) (key % 8) ≡ Ok b)
key_form at key f b e =
    let first = not_fault (nat_lt 4294967295 key || key / 8 == 0 || nat_le 6 (key % 8)) (BadKey at) (if key % 8 == 3 || key % 8 == 4 then Err (Group at) else f (key / 8) (key % 8)) b e in
    let second = not_fault (key % 8 == 3 || key % 8 == 4) (Group at) (f (key / 8) (key % 8)) b first.1 in
    (keyed key first.0 second.0, second.1)
  where
    keyed : (key : ℕ) → (nat_lt 4294967295 key || key / 8 == 0 || nat_le 6 (key % 8)) ≡ false → (key % 8 == 3 || key % 8 == 4) ≡ false → Keyed key
    keyed key h k = record { short = grind (arith, common_steps); numbered = grind (arith, common_steps); below = grind (arith, common_steps); not_start = grind (arith, common_steps); not_end = grind (arith, common_steps) }

-- what is read is a field
pub read_field_form : (at : ℕ) (bytes : List ℕ) (f : Front Field) → field at bytes ≡ Ok f → (f.size ≤ length bytes) × IsField at (take f.size bytes) f.value
read_field_form at bytes f e =
    let k = bind_ok (varint at bytes) (λ key. with_key at key.value (field_of at bytes key.size)) f e in
    let key = k.0.value in
    let size = k.0.size in
    let w = key_form at key (field_of at bytes size) f k.2 in
    let v = bind_ok (value (key % 8) (at + size) (drop size bytes)) (numbered (key / 8) size) f w.1 in
    let r = read_form at bytes k.0 k.1 in
    let g = value_form (key % 8) (at + size) (drop size bytes) v.0 (λ a b c. omega (arith, a, b, c, w.0.below, w.0.not_start, w.0.not_end)) v.1 in
    let P : Front Field → Type 0 = λ f. (f.size ≤ length bytes) × IsField at (take f.size bytes) f.value in
    let rest = length-drop size bytes in
    let spelled : length (take size bytes) ≡ size = length-take-le size bytes r.0 in
    let whole : key / 8 * 8 + key % 8 ≡ key = div-add-mod' key 8 in
    let Q : ℕ → Type 0 = λ n. IsVarint (take size bytes) n in
    let R : ℕ → Type 0 = λ s. IsValue (key % 8) (at + s) (take v.0.size (drop size bytes)) v.0.value in
    subst P {x = made (key / 8) size v.0} (same_ok (made (key / 8) size v.0) f v.2) (
      omega (arith, r.0, g.0, rest),
      record {
        type = key % 8;
        key = take size bytes;
        value = take v.0.size (drop size bytes);
        parts = take-add size v.0.size bytes;
        key_is = subst Q (sym whole) r.1;
        numbered = omega (arith, w.0.numbered);
        short = omega (arith, whole, w.0.short);
        value_is = subst R (sym spelled) g.1;
      },
    )
  where
    made : ℕ → ℕ → Front Value → Front Field
    made number size v = record { value = record { number = number; value = v.value }; size = size + v.size }

    numbered : ℕ → ℕ → Front Value → Wire (Front Field)
    numbered number size v = Ok (made number size v)

-- ## From a form to what is read

bytes_read : (n at : ℕ) (bytes more : List ℕ) → length bytes ≡ n → bytes_of n at (bytes ++ more) ≡ Ok (record { value = bytes; size = n })
bytes_read n at bytes more h =
    ap (λ t. if t then Ok (record { value = take n (bytes ++ more); size = n }) else Err (Truncated at))
    (le-leb n (length (bytes ++ more)) (omega (arith, h, length-append bytes more)))
    ∙ ap (λ l. Ok (record { value = l; size = n })) (take_at bytes more n h)

-- a number of so many bytes
abbrev fixed : (ℕ → Value) → ℕ → Front (List ℕ) → Wire (Front Value)
fixed make n b = Ok (record { value = make (least_first b.value); size = n })

fixed_read : (n at : ℕ) (bytes more : List ℕ) (make : ℕ → Value) (m : ℕ) → length bytes ≡ n → m ≡ least_first bytes →
    bytes_of n at (bytes ++ more) >>= fixed make n ≡ Ok (record { value = make m; size = length bytes })
fixed_read n at bytes more make m h e =
    ap (λ r. r >>= fixed make n) (bytes_read n at bytes more h)
    ∙ ap (λ k. ok_value (make k) n) (sym e)
    ∙ ap (λ s. ok_value (make m) s) (sym h)
  where
    ok_value : Value → ℕ → Wire (Front Value)
    ok_value v s = Ok (record { value = v; size = s })

span_read : (at : ℕ) (bytes more : List ℕ) (from : ℕ) (inner : List ℕ) → IsSpan bytes at from inner → span at (bytes ++ more) ≡ Ok (record { value = Span from inner; size = length bytes })
span_read at bytes more from inner s =
    let joined : bytes ++ more ≡ s.size ++ (inner ++ more) = ap (λ l. l ++ more) s.parts ∙ append_assoc s.size inner more in
    let all : length bytes ≡ length s.size + length inner = ap length s.parts ∙ length-append s.size inner in
    ap (span at) joined
    ∙ ap (λ r. r >>= (λ n. bytes_of n.value at (drop n.size (s.size ++ (inner ++ more))) >>= spanned n)) (form_read at s.size (inner ++ more) (length inner) s.size_is)
    ∙ ap (λ l. bytes_of (length inner) at l >>= spanned (record { value = length inner; size = length s.size })) (drop_at s.size (inner ++ more) (length s.size) refl)
    ∙ ap (λ r. r >>= spanned (record { value = length inner; size = length s.size })) (bytes_read (length inner) at inner more refl)
    ∙ ap (λ f. Ok (record { value = Span f inner; size = length s.size + length inner })) (sym s.from_is)
    ∙ ap (λ k. Ok (record { value = Span from inner; size = k })) (sym all)
  where
    spanned : Front ℕ → Front (List ℕ) → Wire (Front Value)
    spanned n b = Ok (record { value = Span (at + n.size) b.value; size = n.size + b.size })

form_read_value : (type at : ℕ) (bytes more : List ℕ) (v : Value) → IsValue type at bytes v → value type at (bytes ++ more) ≡ Ok (record { value = v; size = length bytes })
form_read_value type at bytes more (Varint n) h =
    ap (λ t. value t at (bytes ++ more)) h.0
    ∙ ap (λ r. r >>= (λ n. Ok (record { value = Varint n.value; size = n.size }))) (form_read at bytes more n h.1)
form_read_value type at bytes more (Eight n) h =
    ap (λ t. value t at (bytes ++ more)) h.0 ∙ fixed_read 8 at bytes more Eight n h.1 h.2
form_read_value type at bytes more (Span from inner) h =
    ap (λ t. value t at (bytes ++ more)) h.0 ∙ span_read at bytes more from inner h.1
form_read_value type at bytes more (Four n) h =
    ap (λ t. value t at (bytes ++ more)) h.0 ∙ fixed_read 4 at bytes more Four n h.1 h.2

type_known : (type at : ℕ) (bytes : List ℕ) (v : Value) → IsValue type at bytes v → (type < 6) × (type ≢ 3) × (type ≢ 4)
type_known type at bytes (Varint n) h = (omega (arith, h.0), λ e. omega (arith, h.0, e), λ e. omega (arith, h.0, e))
type_known type at bytes (Eight n) h = (omega (arith, h.0), λ e. omega (arith, h.0, e), λ e. omega (arith, h.0, e))
type_known type at bytes (Span from inner) h = (omega (arith, h.0), λ e. omega (arith, h.0, e), λ e. omega (arith, h.0, e))
type_known type at bytes (Four n) h = (omega (arith, h.0), λ e. omega (arith, h.0, e), λ e. omega (arith, h.0, e))

key_read : {B : Type 0} (at number type : ℕ) (f : ℕ → ℕ → Wire B) → 1 ≤ number → number < 2 ^ 29 → (type < 6) × (type ≢ 3) × (type ≢ 4) → with_key at (number * 8 + type) f ≡ f number type
key_read {B} at number type f one short t =
    let n : (number * 8 + type) / 8 ≡ number = div-mul-add number 8 type (omega (arith, t.0)) in
    let k : (number * 8 + type) % 8 ≡ type = mod-mul-add number 8 type (omega (arith, t.0)) in
    ap (λ n. tested (nat_lt 4294967295 (number * 8 + type)) n ((number * 8 + type) % 8)) n
    ∙ ap (λ k. tested (nat_lt 4294967295 (number * 8 + type)) number k) k
    ∙ ap (λ t. if t then Err (BadKey at) else if type == 3 || type == 4 then Err (Group at) else f number type) (good number type one short t)
    ∙ ap (λ t. if t then Err (Group at) else f number type) (no_group type t)
  where
    tested : Bool → ℕ → ℕ → Wire B
    tested long n k = if long || n == 0 || nat_le 6 k then Err (BadKey at) else if k == 3 || k == 4 then Err (Group at) else f n k

    not_none : (number : ℕ) → 1 ≤ number → (number == 0) ≡ false
    not_none number one = grind (arith, common_steps)

    good : (number type : ℕ) → 1 ≤ number → number < 2 ^ 29 → (type < 6) × (type ≢ 3) × (type ≢ 4) → (nat_lt 4294967295 (number * 8 + type) || number == 0 || nat_le 6 type) ≡ false
    good number type one short t =
        rw (le-ltb 4294967295 (number * 8 + type) (omega (arith, short, t.0)), lt-leb 6 type t.0) (ap (λ b. b || false) (not_none number one))

    no_group : (type : ℕ) → (type < 6) × (type ≢ 3) × (type ≢ 4) → (type == 3 || type == 4) ≡ false
    no_group type t = grind (arith, common_steps, t.1, t.2)

-- a field is read, whatever follows it
pub form_read_field : (at : ℕ) (bytes more : List ℕ) (f : Field) → IsField at bytes f → field at (bytes ++ more) ≡ Ok (record { value = f; size = length bytes })
form_read_field at bytes more f i =
    let joined : bytes ++ more ≡ i.key ++ (i.value ++ more) = ap (λ l. l ++ more) i.parts ∙ append_assoc i.key i.value more in
    let all : length bytes ≡ length i.key + length i.value = ap length i.parts ∙ length-append i.key i.value in
    let l = i.key ++ (i.value ++ more) in
    ap (field at) joined
    ∙ ap (λ r. r >>= (λ key. with_key at key.value (field_of at l key.size))) (form_read at i.key (i.value ++ more) (f.number * 8 + i.type) i.key_is)
    ∙ key_read at f.number i.type (field_of at l (length i.key)) i.numbered i.short (type_known i.type (at + length i.key) i.value f.value i.value_is)
    ∙ ap (λ l. value i.type (at + length i.key) l >>= numbered) (drop_at i.key (i.value ++ more) (length i.key) refl)
    ∙ ap (λ r. r >>= numbered) (form_read_value i.type (at + length i.key) i.value more f.value i.value_is)
    ∙ ap (λ s. Ok (record { value = f; size = s })) (sym all)
  where
    numbered : Front Value → Wire (Front Field)
    numbered v = Ok (record { value = record { number = f.number; value = v.value }; size = length i.key + v.size })
