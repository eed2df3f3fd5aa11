-- Fields that stand one behind another are gathered as they stand.
use Rattle.std.proofs.Common.{◌≡◌, ℕ, suc, ◌<◌, ◌≤◌, ◌+◌, ◌-◌, ◌*◌, List, [], ◌∷◌, ◌++◌, length, get_or, take, drop, slice_range, fold, Some, None, Ok, refl, ap, sym, ◌∙◌, subst, arith, inl, inr}
use Rattle.std.proofs.lemmas.List.{length-take, length-drop, drop_more}
use Rattle.std.proofs.lemmas.List.Folds.{drop_split}
use Rattle.std.proofs.Math.Seq.{take-append-add, drop-length}
use Rattle.pb_wire.specs.brpc_model.specs.Wire.{Wire, ◌>>=◌, Varint, Span, Field, fields, fields_with}
use Rattle.pb_wire.specs.brpc_model.specs.Meta.{Part, Request, Plain}
use Rattle.pb_wire.specs.Form.{IsVarint, IsField}
use Rattle.pb_wire.proofs.MessageFields.{form_read_message}
use Rattle.pb_wire.proofs.Shortest.{shortest_form}
use Rattle.rpc_meta.specs.Gathered.{Gathered, Names, nothing, part_added}
use Rattle.rpc_meta.specs.MetaGatheringSteps.{gathered_after}
use Rattle.rpc_meta.specs.Straight.{SpanNext, NumberNext, NumberOrNone}
use Rattle.rpc_meta.proofs.MetaFieldGathering.{folded_front, part}
use Rattle.rpc_meta.proofs.MessageReadInPieces.{says_one}
use Rattle.rpc_meta.proofs.VarintPutByBytes.{put_last}

-- ## What a field is

slice_more : (bytes : List ℕ) (at to d : ℕ) → at < to → to ≤ length bytes → slice_range bytes at to ≡ get_or bytes at d ∷ slice_range bytes (at + 1) to
slice_more bytes at to d h k =
    let n : to - at ≡ suc (to - (at + 1)) = omega (arith, h) in
    ap (λ (l : List ℕ). take (to - at) l) (drop_more bytes at d (omega (arith, h, k))) ∙ ap (λ (n : ℕ). take n (get_or bytes at d ∷ drop (at + 1) bytes)) n

slice_size : (bytes : List ℕ) (at to : ℕ) → to ≤ length bytes → length (slice_range bytes at to) ≡ to - at
slice_size bytes at to k = simp (length-take, length-drop) (omega (arith, k))

-- a byte without its high bit is a varint
one_byte : (n : ℕ) → n < 128 → IsVarint (n ∷ []) n
one_byte n h = let P : List ℕ → Type 0 = λ l. IsVarint l n in subst P (sym (put_last 10 n (omega arith) h)) (shortest_form n (omega (arith, h)))

-- a key and a length of a byte each, and so many bytes
pub span_is : (bytes : List ℕ) (at number size c d : ℕ) → 1 ≤ number → number < 15 → at + 2 + size ≤ length bytes →
    get_or bytes at c ≡ number * 8 + 2 → get_or bytes (at + 1) d ≡ size → size < 128 → SpanNext bytes number at (at + 2) (at + 2 + size)
span_is bytes at number size c d one few inside key length_is short =
    let two : at + 1 + 1 ≡ at + 2 = omega arith in
    let inner = slice_range bytes (at + 2) (at + 2 + size) in
    let same : length inner ≡ size = slice_size bytes (at + 2) (at + 2 + size) inside ∙ omega arith in
    let P : ℕ → Type 0 = λ n. IsVarint (size ∷ []) n in
    record {
      later = omega arith;
      order = omega arith;
      inside = inside;
      spelled = record {
        type = 2;
        key = (number * 8 + 2) ∷ [];
        value = size ∷ inner;
        parts = slice_more bytes at (at + 2 + size) c (omega arith) inside
            ∙ ap (λ (k : ℕ). k ∷ slice_range bytes (at + 1) (at + 2 + size)) key
            ∙ ap (λ (l : List ℕ). (number * 8 + 2) ∷ l) (slice_more bytes (at + 1) (at + 2 + size) d (omega arith) inside
            ∙ ap (λ (k : ℕ). k ∷ slice_range bytes (at + 1 + 1) (at + 2 + size)) length_is
            ∙ ap (λ (p : ℕ). size ∷ slice_range bytes p (at + 2 + size)) two);
        key_is = one_byte (number * 8 + 2) (omega (arith, few));
        numbered = one;
        short = omega (arith, few);
        value_is = (refl, record { size = size ∷ []; parts = refl; size_is = subst P (sym same) (one_byte size short); from_is = omega arith });
      };
    }

-- a key of a byte, and a varint
pub number_next_is : (bytes : List ℕ) (at number n to c : ℕ) → 1 ≤ number → number < 15 → at + 1 ≤ to → to ≤ length bytes →
    get_or bytes at c ≡ number * 8 → IsVarint (slice_range bytes (at + 1) to) n → NumberNext bytes number at n to
number_next_is bytes at number n to c one few later inside key spelled =
    let P : ℕ → Type 0 = λ k. IsVarint ((number * 8) ∷ []) k in
    let plain : number * 8 ≡ number * 8 + 0 = omega arith in
    record {
      later = omega (arith, later);
      inside = inside;
      spelled = record {
        type = 0;
        key = (number * 8) ∷ [];
        value = slice_range bytes (at + 1) to;
        parts = slice_more bytes at to c (omega (arith, later)) inside ∙ ap (λ (k : ℕ). k ∷ slice_range bytes (at + 1) to) key;
        key_is = subst P plain (one_byte (number * 8) (omega (arith, few)));
        numbered = one;
        short = omega (arith, few);
        value_is = (refl, spelled);
      };
    }

-- ## What is gathered from a place on

abbrev gathered_on : Gathered → ℕ → List ℕ → Wire Gathered
gathered_on g at bytes = fields_with part at (drop at bytes) >>= (λ ps. Ok (fold part_added g ps))

part_next : (g : Gathered) (bytes : List ℕ) (at to : ℕ) (f : Field) (p : Part) → at ≤ to → to ≤ length bytes → IsField at (slice_range bytes at to) f → part f ≡ Ok p →
    gathered_on g at bytes ≡ gathered_on (part_added g p) to bytes
part_next g bytes at to f p later inside is e =
    let place : at + length (slice_range bytes at to) ≡ to = omega (arith, slice_size bytes at to inside, later) in
    ap (λ r. r >>= (λ ps. Ok (fold part_added g ps)))
    (ap (fields_with part at) (drop_split bytes at to later)
    ∙ says_one part at (slice_range bytes at to) f p is e (drop to bytes)
    ∙ ap (λ (a : ℕ). fields_with part a (drop to bytes) >>= (λ rest. Ok (p ∷ rest))) place)
    ∙ folded_front part_added g p (fields_with part to (drop to bytes))

plain_next : (g : Gathered) (bytes : List ℕ) (number at n to : ℕ) → NumberNext bytes number at n to →
    gathered_on g at bytes ≡ gathered_on (part_added g (Plain (record { number = number; value = Varint n }))) to bytes
plain_next g bytes number at n to k = part_next g bytes at to (record { number = number; value = Varint n }) (Plain (record { number = number; value = Varint n })) k.later k.inside k.spelled refl

-- a number that is spelled or is 0
may_next : (with : ℕ → Gathered) (bytes : List ℕ) (number at n to : ℕ) → ((m : ℕ) → part_added (with 0) (Plain (record { number = number; value = Varint m })) ≡ with m) →
    NumberOrNone bytes number at n to → gathered_on (with 0) at bytes ≡ gathered_on (with n) to bytes
may_next with bytes number at n to added (inl none) = ap (λ (a : ℕ). gathered_on (with 0) a bytes) (sym none.0) ∙ ap (λ (m : ℕ). gathered_on (with m) to bytes) (sym none.1)
may_next with bytes number at n to added (inr k) = plain_next (with 0) bytes number at n to k ∙ ap (λ (g : Gathered). gathered_on g to bytes) (added n)

slice_join : (bytes : List ℕ) (from at to : ℕ) → from ≤ at → at ≤ to → to ≤ length bytes → slice_range bytes from to ≡ slice_range bytes from at ++ slice_range bytes at to
slice_join bytes from at to h k inside =
    let size = slice_size bytes from at (omega (arith, k, inside)) in
    let n : to - from ≡ length (slice_range bytes from at) + (to - at) = omega (arith, size, h, k) in
    ap (λ (l : List ℕ). take (to - from) l) (drop_split bytes from at h)
    ∙ ap (λ (n : ℕ). take n (slice_range bytes from at ++ drop at bytes)) n
    ∙ take-append-add (slice_range bytes from at) (drop at bytes) (to - at)

abbrev spanned : ℕ → ℕ → List ℕ → Field
spanned number from inner = record { number = number; value = Span from inner }

-- two fields that fill a request
two_fields : (bytes : List ℕ) (from at to : ℕ) (f g : Field) → from ≤ at → at ≤ to → to ≤ length bytes → IsField from (slice_range bytes from at) f → IsField at (slice_range bytes at to) g →
    fields from (slice_range bytes from to) ≡ Ok (f ∷ g ∷ [])
two_fields bytes from at to f g h k inside first second =
    let place : at ≡ from + length (slice_range bytes from at) = omega (arith, slice_size bytes from at (omega (arith, k, inside)), h) in
    let P : ℕ → Type 0 = λ a. IsField a (slice_range bytes at to) g in
    form_read_message (f ∷ g ∷ []) from (slice_range bytes from to)
    (slice_range bytes from at, slice_range bytes at to, slice_join bytes from at to h k inside, first, (slice_range bytes at to, [], nothing_behind (slice_range bytes at to), subst P place second, refl))
  where
    nothing_behind : (l : List ℕ) → l ≡ l ++ []
    nothing_behind [] = refl
    nothing_behind (x ∷ l) = ap (λ l. x ∷ l) (nothing_behind l)

abbrev of_request : Names → ℕ → ℕ → ℕ → Gathered
of_request names c i s = record { request = Some names; response = None; compress_type = c; correlation_id = i; attachment_size = s }

-- a request of a service and a method, then the numbers
pub straight_is : (bytes : List ℕ) (from to service_from service_to method_from c c_to i i_to s : ℕ) → SpanNext bytes 1 0 from to → SpanNext bytes 1 from service_from service_to →
    SpanNext bytes 2 service_to method_from to → NumberOrNone bytes 3 to c c_to → NumberOrNone bytes 4 c_to i i_to → NumberOrNone bytes 5 i_to s (length bytes) →
    Ok (of_request (record { service = Some (slice_range bytes service_from service_to); method = Some (slice_range bytes method_from to); log_id = None }) c i s) ≡ gathered_after nothing bytes
straight_is bytes from to service_from service_to method_from c c_to i i_to s request service method compress id size =
    let inside = two_fields bytes from service_to to (spanned 1 service_from (slice_range bytes service_from service_to)) (spanned 2 method_from (slice_range bytes method_from to)) service.later method.later request.inside service.spelled method.spelled in
    let names : Names = record { service = Some (slice_range bytes service_from service_to); method = Some (slice_range bytes method_from to); log_id = None } in
    let ends : gathered_on (of_request names c i s) (length bytes) bytes ≡ Ok (of_request names c i s) =
    ap (λ (l : List ℕ). fields_with part (length bytes) l >>= (λ ps. Ok (fold part_added (of_request names c i s) ps))) (drop-length bytes) in
    sym
    (part_next nothing bytes 0 to (spanned 1 from (slice_range bytes from to)) (Request _) request.later request.inside request.spelled (ap (λ r. r >>= (λ inside. Ok (Request inside))) inside)
    ∙ may_next (λ c. of_request names c 0 0) bytes 3 to c c_to (λ m. refl) compress
    ∙ may_next (λ i. of_request names c i 0) bytes 4 c_to i i_to (λ m. refl) id
    ∙ may_next (λ s. of_request names c i s) bytes 5 i_to s (length bytes) (λ m. refl) size
    ∙ ends)
