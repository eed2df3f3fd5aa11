-- How many bytes spell the meta of a request at least.
use Rattle.std.proofs.Common.{◌≡◌, ℕ, zero, suc, ◌+◌, ◌*◌, ◌≤◌, ◌==◌, Bool, true, false, if◌then◌else◌, List, [], ◌∷◌, ◌++◌, length, take, drop, Option, Some, None, Result, Ok, Err, refl, ap, sym, ◌∙◌, subst, arith, length-append, length-drop}
use Rattle.std.specs.Prelude.{flat_map, option_map, unwrap_or}
use Rattle.std.specs.List.{last_or}
use Rattle.std.proofs.lemmas.List.{length-take-le}
use Rattle.std.proofs.lemmas.Bool.{eqb-true}
use Rattle.brpc_model.specs.Wire.{Wire, ◌>>=◌, Value, Varint, Eight, Span, Four, Field, field, fields, fields_up_to, varint_bytes}
use Rattle.brpc_model.specs.Meta.{RequestMeta, ResponseMeta, Meta, MetaFault, Part, Request, Response, Plain, part_of, parts, requests_in, responses_in, plain_in, varint_of, span_of, last_of, merged, names_of, request_of, response_of, meta_of, meta_of_parts, read_meta}
use Rattle.pb_wire.specs.Form.{IsVarint, IsValue, IsField, IsMessage}
use Rattle.pb_wire.proofs.Shortest.{none_shorter}
use Rattle.pb_wire.proofs.FieldForms.{read_field_form}
use Rattle.pb_wire.proofs.MessageFields.{read_message_form}

bind_ok : {A B : Type 0} (r : Wire A) (g : A → Wire B) (b : B) → r >>= g ≡ Ok b → (a : A) × (r ≡ Ok a) × (g a ≡ Ok b)
bind_ok (Ok a) g b e = (a, refl, e)
bind_ok (Err x) g b e = absurd (cc)

abbrev total : {A : Type 0} → (A → ℕ) → List A → ℕ
total w [] = 0
total w (x ∷ xs) = w x + total w xs

last_from : {A : Type 0} (w : A → ℕ) (a : A) (xs : List A) (x : A) → last_or (Some a) xs ≡ Some x → w x ≤ w a + total w xs
last_from w a [] x e = let same : a ≡ x = cc in omega (arith, ap w same)
last_from w a (y ∷ xs) x e = omega (arith, last_from w y xs x e)

last_in : {A : Type 0} (w : A → ℕ) (xs : List A) (x : A) → last_or None xs ≡ Some x → w x ≤ total w xs
last_in w [] x e = absurd (cc)
last_in w (y ∷ xs) x e = last_from w y xs x e

-- ## The spans of a request, each with two bytes before it at least

abbrev span_weight : Value → ℕ
span_weight (Varint n) = 0
span_weight (Eight n) = 0
span_weight (Span at bytes) = 2 + length bytes
span_weight (Four n) = 0

abbrev spans : List Field → ℕ
spans [] = 0
spans (f ∷ fs) = span_weight f.value + spans fs

some_byte : (bytes : List ℕ) (n : ℕ) → IsVarint bytes n → 1 ≤ length bytes
some_byte bytes n v = omega (arith, ap length v.parts, length-append v.front (v.last ∷ []))

value_span : (type at : ℕ) (bytes : List ℕ) (v : Value) → IsValue type at bytes v → span_weight v ≤ 1 + length bytes
value_span type at bytes (Varint n) is = omega arith
value_span type at bytes (Eight n) is = omega arith
value_span type at bytes (Span from inner) is = let s = is.1 in omega (arith, ap length s.parts, length-append s.size inner, some_byte s.size (length inner) s.size_is)
value_span type at bytes (Four n) is = omega arith

field_span : (at : ℕ) (bytes : List ℕ) (f : Field) → IsField at bytes f → span_weight f.value ≤ length bytes
field_span at bytes f is =
    omega (arith, ap length is.parts, length-append is.key is.value, some_byte is.key (f.number * 8 + is.type) is.key_is, value_span is.type (at + length is.key) is.value f.value is.value_is)

message_spans : (fs : List Field) (at : ℕ) (bytes : List ℕ) → IsMessage at bytes fs → spans fs ≤ length bytes
message_spans [] at bytes m = omega arith
message_spans (f ∷ fs) at bytes m = omega (arith, ap length m.2, length-append m.0 m.1, field_span at m.0 f m.3, message_spans fs (at + length m.0) m.1 m.4)

abbrev size_behind : List ℕ → ℕ
size_behind bytes = 2 + length bytes

abbrev found_spans : ℕ → List Field → List (List ℕ)
found_spans number fs = flat_map (λ (f : Field). if f.number == number then span_of f.value else []) fs

picked_span : (b : Bool) (v : Value) (l : List (List ℕ)) → total size_behind ((if b then span_of v else []) ++ l) ≤ (if b then span_weight v else 0) + total size_behind l
picked_span true (Varint n) l = omega arith
picked_span true (Eight n) l = omega arith
picked_span true (Span at bytes) l = omega arith
picked_span true (Four n) l = omega arith
picked_span false v l = omega arith

one_number : (n w : ℕ) → (if n == 1 then w else 0) + (if n == 2 then w else 0) ≤ w
one_number n w = by (n == 1) (n == 2) (λ a b. omega (arith, eqb-true n 1 a, eqb-true n 2 b))
  where
    by : (a b : Bool) → (a ≡ true → b ≡ true → ⊥) → (if a then w else 0) + (if b then w else 0) ≤ w
    by true true h = absurd (h refl refl)
    by true false h = omega arith
    by false true h = omega arith
    by false false h = omega arith

both_spans : (fs : List Field) → total size_behind (found_spans 1 fs) + total size_behind (found_spans 2 fs) ≤ spans fs
both_spans [] = omega arith
both_spans (f ∷ fs) =
    omega (
      arith,
      picked_span (f.number == 1) f.value (found_spans 1 fs),
      picked_span (f.number == 2) f.value (found_spans 2 fs),
      one_number f.number (span_weight f.value),
      both_spans fs,
    )

names_within : (fs : List Field) (r : RequestMeta) → request_of (Some fs) ≡ Ok (Some r) → 4 + length r.service + length r.method ≤ spans fs
names_within fs r e = by (last_of span_of 1 fs) (last_of span_of 2 fs) refl refl e
  where
    by : (s t : Option (List ℕ)) → last_of span_of 1 fs ≡ s → last_of span_of 2 fs ≡ t → names_of s t (last_of varint_of 3 fs) ≡ Ok (Some r) → 4 + length r.service + length r.method ≤ spans fs
    by None t a b e = absurd (cc)
    by (Some s) None a b e = absurd (cc)
    by (Some s) (Some t) a b e =
        let is : record { service = s; method = t; log_id = last_of varint_of 3 fs } ≡ r = cc in
        omega (
          arith,
          ap (λ (r : RequestMeta). length r.service) is,
          ap (λ (r : RequestMeta). length r.method) is,
          last_in size_behind (found_spans 1 fs) s a,
          last_in size_behind (found_spans 2 fs) t b,
          both_spans fs,
        )

spans_append : (a b : List Field) → spans (a ++ b) ≡ spans a + spans b
spans_append [] b = omega arith
spans_append (f ∷ a) b = omega (arith, spans_append a b)

abbrev request_weight : List Field → ℕ
request_weight fs = 2 + spans fs

spans_merged : (ll : List (List Field)) → spans (flat_map (λ fs. fs) ll) ≤ total request_weight ll
spans_merged [] = omega arith
spans_merged (l ∷ ll) = omega (arith, spans_append l (flat_map (λ fs. fs) ll), spans_merged ll)

merged_within : (ll : List (List Field)) (r : RequestMeta) → request_of (merged ll) ≡ Ok (Some r) → 6 + length r.service + length r.method ≤ total request_weight ll
merged_within [] r e = absurd (cc)
merged_within (l ∷ ll) r e =
    omega (arith, names_within (flat_map (λ fs. fs) (l ∷ ll)) r e, spans_append l (flat_map (λ fs. fs) ll), spans_merged ll)

-- ## The numbers outside of it, each with a byte before it at least

abbrev number_weight : ℕ → ℕ
number_weight n = 1 + length (varint_bytes n)

abbrev varint_weight : Value → ℕ
varint_weight (Varint n) = number_weight n
varint_weight (Eight n) = 0
varint_weight (Span at bytes) = 0
varint_weight (Four n) = 0

abbrev numbers : List Field → ℕ
numbers [] = 0
numbers (f ∷ fs) = varint_weight f.value + numbers fs

abbrev found_numbers : ℕ → List Field → List ℕ
found_numbers number fs = flat_map (λ (f : Field). if f.number == number then varint_of f.value else []) fs

picked_number : (b : Bool) (v : Value) (l : List ℕ) → total number_weight ((if b then varint_of v else []) ++ l) ≤ varint_weight v + total number_weight l
picked_number true (Varint n) l = omega arith
picked_number true (Eight n) l = omega arith
picked_number true (Span at bytes) l = omega arith
picked_number true (Four n) l = omega arith
picked_number false v l = omega arith

found_within : (number : ℕ) (fs : List Field) → total number_weight (found_numbers number fs) ≤ numbers fs
found_within number [] = omega arith
found_within number (f ∷ fs) = omega (arith, picked_number (f.number == number) f.value (found_numbers number fs), found_within number fs)

-- ## The parts

abbrev part_weight : Part → ℕ
part_weight (Request inside) = request_weight inside
part_weight (Response inside) = 0
part_weight (Plain f) = varint_weight f.value

span_part : (a b : Bool) (number from : ℕ) (inner : List ℕ) (p : Part) →
    (if a then fields from inner >>= (λ inside. Ok (Request inside)) else if b then fields from inner >>= (λ inside. Ok (Response inside)) else Ok (Plain (record { number = number; value = Span from inner }))) ≡ Ok p
    → part_weight p ≤ 2 + length inner
span_part true b number from inner p e =
    let r = bind_ok (fields from inner) (λ inside. Ok (Request inside)) p e in
    let is : Request r.0 ≡ p = let made = r.2 in cc in
    subst (λ (p : Part). part_weight p ≤ 2 + length inner) is (omega (arith, message_spans r.0 from inner (read_message_form r.0 from inner r.1)))
span_part false true number from inner p e =
    let r = bind_ok (fields from inner) (λ inside. Ok (Response inside)) p e in
    let is : Response r.0 ≡ p = let made = r.2 in cc in
    subst (λ (p : Part). part_weight p ≤ 2 + length inner) is (omega arith)
span_part false false number from inner p e =
    let is : Plain (record { number = number; value = Span from inner }) ≡ p = cc in
    subst (λ (p : Part). part_weight p ≤ 2 + length inner) is (omega arith)

value_part : (number type at : ℕ) (bytes : List ℕ) (v : Value) (p : Part) → IsValue type at bytes v → part_of number v ≡ Ok p → part_weight p ≤ 1 + length bytes
value_part number type at bytes (Varint n) p is e =
    let same : Plain (record { number = number; value = Varint n }) ≡ p = cc in
    subst (λ (p : Part). part_weight p ≤ 1 + length bytes) same (omega (arith, none_shorter n bytes is.1))
value_part number type at bytes (Eight n) p is e =
    let same : Plain (record { number = number; value = Eight n }) ≡ p = cc in
    subst (λ (p : Part). part_weight p ≤ 1 + length bytes) same (omega arith)
value_part number type at bytes (Span from inner) p is e =
    let s = is.1 in
    omega (arith, span_part (number == 1) (number == 2) number from inner p e, ap length s.parts, length-append s.size inner, some_byte s.size (length inner) s.size_is)
value_part number type at bytes (Four n) p is e =
    let same : Plain (record { number = number; value = Four n }) ≡ p = cc in
    subst (λ (p : Part). part_weight p ≤ 1 + length bytes) same (omega arith)

field_part : (at : ℕ) (bytes : List ℕ) (f : Field) (p : Part) → IsField at bytes f → part_of f.number f.value ≡ Ok p → part_weight p ≤ length bytes
field_part at bytes f p is e =
    omega (arith, ap length is.parts, length-append is.key is.value, some_byte is.key (f.number * 8 + is.type) is.key_is, value_part f.number is.type (at + length is.key) is.value f.value p is.value_is e)

abbrev part_in : Field → Wire Part
part_in f = part_of f.number f.value

parts_within : (most at : ℕ) (bytes : List ℕ) (ps : List Part) → fields_up_to part_in most at bytes ≡ Ok ps → total part_weight ps ≤ length bytes
parts_within zero at bytes ps e = let is : [] ≡ ps = cc in subst (λ l. total part_weight l ≤ length bytes) is (omega arith)
parts_within (suc most) at [] ps e = let is : [] ≡ ps = cc in subst (λ l. total part_weight l ≤ 0) is (omega arith)
parts_within (suc most) at (b ∷ bytes) ps e =
    let f = bind_ok (field at (b ∷ bytes)) (λ f. part_in f.value >>= (λ first. fields_up_to part_in most (at + f.size) (drop f.size (b ∷ bytes)) >>= (λ rest. Ok (first ∷ rest)))) ps e in
    let size = f.0.size in
    let p = bind_ok (part_in f.0.value) (λ first. fields_up_to part_in most (at + size) (drop size (b ∷ bytes)) >>= (λ rest. Ok (first ∷ rest))) ps f.2 in
    let r = bind_ok (fields_up_to part_in most (at + size) (drop size (b ∷ bytes))) (λ rest. Ok (p.0 ∷ rest)) ps p.2 in
    let form = read_field_form at (b ∷ bytes) f.0 f.1 in
    let is : p.0 ∷ r.0 ≡ ps = let made = r.2 in cc in
    subst (λ l. total part_weight l ≤ length (b ∷ bytes)) is (omega (
      arith,
      parts_within most (at + size) (drop size (b ∷ bytes)) r.0 r.1,
      field_part at (take size (b ∷ bytes)) f.0.value p.0 form.1 p.1,
      length-take-le size (b ∷ bytes) form.0,
      length-drop size (b ∷ bytes),
      form.0,
    ))

by_kind : (ps : List Part) → total request_weight (flat_map requests_in ps) + numbers (flat_map plain_in ps) ≤ total part_weight ps
by_kind [] = omega arith
by_kind (Request inside ∷ ps) = omega (arith, by_kind ps)
by_kind (Response inside ∷ ps) = omega (arith, by_kind ps)
by_kind (Plain f ∷ ps) = omega (arith, by_kind ps)

-- ## The meta

record Said (ps : List Part) (m : Meta) : Type 0 where
  request : request_of (merged (flat_map requests_in ps)) ≡ Ok m.request
  id : m.correlation_id ≡ unwrap_or (last_of varint_of 4 (flat_map plain_in ps)) 0

said_by : (ps : List Part) (m : Meta) (q : Result (Option RequestMeta) MetaFault) (response : Option ResponseMeta) →
    request_of (merged (flat_map requests_in ps)) ≡ q → meta_of q response (flat_map plain_in ps) ≡ Ok m → Said ps m
said_by ps m (Err fault) response is e = absurd (cc)
said_by ps m (Ok None) None is e = absurd (cc)
said_by ps m (Ok None) (Some x) is e = let made : meta_of (Ok None) (Some x) (flat_map plain_in ps) ≡ Ok m = e in record { request = is ∙ cc; id = cc }
said_by ps m (Ok (Some r)) None is e = record { request = is ∙ cc; id = cc }
said_by ps m (Ok (Some r)) (Some x) is e = record { request = is ∙ cc; id = cc }

said : (bytes : List ℕ) (m : Meta) → read_meta bytes ≡ Ok m → (ps : List Part) × (parts bytes ≡ Ok ps) × Said ps m
said bytes m e = by (parts bytes) refl e
  where
    by : (w : Wire (List Part)) → parts bytes ≡ w → meta_of_parts w ≡ Ok m → (ps : List Part) × (parts bytes ≡ Ok ps) × Said ps m
    by (Err fault) is e = absurd (cc)
    by (Ok ps) is e = (ps, is, said_by ps m (request_of (merged (flat_map requests_in ps))) (option_map response_of (merged (flat_map responses_in ps))) refl e)

-- six bytes before service and method, which are there, and then the id, if it isn't 0
pub request_least : (bytes : List ℕ) (m : Meta) (r : RequestMeta) → read_meta bytes ≡ Ok m → m.request ≡ Some r → 5 + length r.service + length r.method + length (varint_bytes m.correlation_id) ≤ length bytes
request_least bytes m r e there = by (said bytes m e)
  where
    by_id : (ps : List Part) (o : Option ℕ) → last_of varint_of 4 (flat_map plain_in ps) ≡ o → m.correlation_id ≡ unwrap_or o 0 → 6 + length r.service + length r.method + numbers (flat_map plain_in ps) ≤ length bytes →
        5 + length r.service + length r.method + length (varint_bytes m.correlation_id) ≤ length bytes
    by_id ps None is id h = omega (arith, h, ap (λ n. length (varint_bytes n)) id)
    by_id ps (Some n) is id h =
        omega (arith, h, ap (λ n. length (varint_bytes n)) id, last_in number_weight (found_numbers 4 (flat_map plain_in ps)) n is, found_within 4 (flat_map plain_in ps))

    by : ((ps : List Part) × (parts bytes ≡ Ok ps) × Said ps m) → 5 + length r.service + length r.method + length (varint_bytes m.correlation_id) ≤ length bytes
    by (ps, read, s) =
        let names = merged_within (flat_map requests_in ps) r (s.request ∙ ap (λ (o : Option RequestMeta). Ok o) there) in
        let all = parts_within (length bytes) 0 bytes ps read in
        by_id ps (last_of varint_of 4 (flat_map plain_in ps)) refl s.id (omega (arith, names, all, by_kind ps))
