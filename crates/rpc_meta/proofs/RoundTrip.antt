-- A meta that was written is read as itself.
use Rattle.std.proofs.Common.{◌≡◌, ◌⊎◌, ℕ, zero, suc, ℤ, pos, negsuc, neg_ℤ, ◌<◌, ◌≤◌, ◌+◌, ◌-◌, ◌*◌, ◌%◌, ◌^◌, nat_lt, true, if◌then◌else◌, List, [], ◌∷◌, ◌++◌, length, fold, Option, Some, None, option_map, IfSome, Ok, refl, ap, sym, ◌∙◌, inl, inr, arith}
use Rattle.std.specs.Option.{is_some}
use Rattle.std.proofs.Math.Nat.{mod-eq_of_lt}
use Rattle.std.proofs.lemmas.List.{length-append}
use Rattle.std.proofs.lemmas.List.Sums.{fold-append}
use Rattle.std.proofs.lemmas.Bool.{lt-ltb, le-ltb}
use lib.Signed.{mag}
use Rattle.pb_wire.specs.brpc_model.specs.Wire.{Wire, ◌>>=◌, Varint, Span, Field, varint_bytes}
use Rattle.pb_wire.specs.brpc_model.specs.Meta.{RequestMeta, ResponseMeta, Meta, Request, Response, Plain, int32, read_meta}
use Rattle.pb_wire.specs.brpc_model.specs.Spelling.{number_field, bytes_field, spelled_int, where_some, where_not_0, where_not_empty, request_bytes, response_bytes, meta_bytes}
use Rattle.pb_wire.specs.Form.{IsField}
use Rattle.rpc_meta.specs.Gathered.{Names, Outcome, Gathered, no_names, no_outcome, nothing, name_added, outcome_added, part_added}
use Rattle.rpc_meta.specs.MetaGatheringSteps.{gathered_after}
use Rattle.rpc_meta.specs.Answer.{request_from, response_from}
use Rattle.rpc_meta.specs.MetaWriting.{HasPart, RequestFits, ResponseFits, MetaFits}
use Rattle.rpc_meta.proofs.MetaFieldGathering.{part}
use Rattle.rpc_meta.proofs.Merging.{meta_is_read}
use Rattle.rpc_meta.proofs.Building.{built}
use Rattle.rpc_meta.proofs.MessageReadInPieces.{number_is, bytes_is, inner_place, Says, says_none, says_one, says_both, says_all}

-- ## An int32

-- a number below this has 31 bits and a sign
abbrev IsInt : ℤ → Type 0
IsInt z = mag z < 2 ^ 31

spelled_fits : (z : ℤ) → IsInt z → spelled_int z < 2 ^ 64
spelled_fits (pos n) h = omega (arith, h)
spelled_fits (negsuc n) h = omega (arith, h)

int32_spelled : (z : ℤ) → IsInt z → int32 (spelled_int z) ≡ z
int32_spelled (pos n) h =
    let low : n % 2 ^ 32 ≡ n = mod-eq_of_lt (omega (arith, h)) in
    ap (λ l. if nat_lt l (2 ^ 31) then pos l else neg_ℤ (pos (2 ^ 32 - l))) low
    ∙ ap (λ b. if b then pos n else neg_ℤ (pos (2 ^ 32 - n))) (lt-ltb n (2 ^ 31) h)
int32_spelled (negsuc n) h =
    let low : (2 ^ 64 - suc n) % 2 ^ 32 ≡ 2 ^ 32 - suc n = omega (arith, h) in
    let back : 2 ^ 32 - (2 ^ 32 - suc n) ≡ suc n = omega (arith, h) in
    ap (λ l. if nat_lt l (2 ^ 31) then pos l else neg_ℤ (pos (2 ^ 32 - l))) low
    ∙ ap (λ b. if b then pos (2 ^ 32 - suc n) else neg_ℤ (pos (2 ^ 32 - (2 ^ 32 - suc n)))) (le-ltb (2 ^ 32 - suc n) (2 ^ 31) (omega (arith, h)))
    ∙ ap (λ k. neg_ℤ (pos k)) back

-- ## Pieces of a message

-- these bytes, which begin at this place, take what was gathered from one state to another
record Step {A S : Type 0} (inner : Field → Wire A) (add : S → A → S) (at : ℕ) (bytes : List ℕ) (before after : S) : Type 0 where
  values : List A
  says : Says inner at bytes values
  adds : fold add before values ≡ after

step_none : {A S : Type 0} (inner : Field → Wire A) (add : S → A → S) (at : ℕ) (s : S) → Step inner add at [] s s
step_none inner add at s = record { values = []; says = says_none inner at; adds = refl }

step_both : {A S : Type 0} (inner : Field → Wire A) (add : S → A → S) (at : ℕ) (a b : List ℕ) (s t u : S) → Step inner add at a s t → Step inner add (at + length a) b t u → Step inner add at (a ++ b) s u
step_both inner add at a b s t u first second = record {
  values = first.values ++ second.values;
  says = says_both inner at a b first.values second.values first.says second.says;
  adds = fold-append add s first.values second.values ∙ ap (λ t. fold add t second.values) first.adds ∙ second.adds;
}

step_field : {A S : Type 0} (inner : Field → Wire A) (add : S → A → S) (at : ℕ) (bytes : List ℕ) (f : Field) (value : A) (s t : S) →
    IsField at bytes f → inner f ≡ Ok value → add s value ≡ t → Step inner add at bytes s t
step_field inner add at bytes f value s t i e a = record { values = value ∷ []; says = says_one inner at bytes f value i e; adds = a }

abbrev numbered : ℕ → ℕ → Field
numbered k n = record { number = k; value = Varint n }

abbrev spanned : ℕ → ℕ → List ℕ → Field
spanned at k bytes = record { number = k; value = Span (inner_place at k bytes) bytes }

-- ## The request and the response

abbrev kept : Field → Wire Field
kept f = Ok f

number_added : {S : Type 0} (add : S → Field → S) (at k n : ℕ) (s t : S) → 1 ≤ k → k < 2 ^ 29 → n < 2 ^ 64 → add s (numbered k n) ≡ t → Step kept add at (number_field k n) s t
number_added add at k n s t one short h e = step_field kept add at (number_field k n) (numbered k n) (numbered k n) s t (number_is at k n one short h) refl e

bytes_added : {S : Type 0} (add : S → Field → S) (at k : ℕ) (bytes : List ℕ) (s t : S) → 1 ≤ k → k < 2 ^ 29 → length bytes < 2 ^ 64 → add s (spanned at k bytes) ≡ t → Step kept add at (bytes_field k bytes) s t
bytes_added add at k bytes s t one short h e = step_field kept add at (bytes_field k bytes) (spanned at k bytes) (spanned at k bytes) s t (bytes_is at k bytes one short h) refl e

-- the bytes of a field are no longer than the field
inner_short : (k : ℕ) (bytes : List ℕ) → length bytes ≤ length (bytes_field k bytes)
inner_short k bytes = omega (arith, length-append (varint_bytes (k * 8 + 2) ++ varint_bytes (length bytes)) bytes)

abbrev name_state : Option (List ℕ) → Option (List ℕ) → Option ℕ → Names
name_state s m l = record { service = s; method = m; log_id = l }

log_added : (at : ℕ) (service method : List ℕ) (log : Option ℕ) → IfSome log (λ n. n < 2 ^ 64) →
    Step kept name_added at (where_some (number_field 3) log) (name_state (Some service) (Some method) None) (name_state (Some service) (Some method) log)
log_added at service method None h = step_none kept name_added at (name_state (Some service) (Some method) None)
log_added at service method (Some n) h =
    number_added name_added at 3 n (name_state (Some service) (Some method) None) (name_state (Some service) (Some method) (Some n)) (omega arith) (omega arith) h refl

request_added : (at : ℕ) (r : RequestMeta) → length r.service < 2 ^ 64 → length r.method < 2 ^ 64 → IfSome r.log_id (λ n. n < 2 ^ 64) →
    Step kept name_added at (request_bytes r) no_names (name_state (Some r.service) (Some r.method) r.log_id)
request_added at r h k l =
    let a = bytes_field 1 r.service in
    let b = bytes_field 2 r.method in
    step_both kept name_added at (a ++ b) (where_some (number_field 3) r.log_id) no_names (name_state (Some r.service) (Some r.method) None) (name_state (Some r.service) (Some r.method) r.log_id)
    (step_both kept name_added at a b no_names (name_state (Some r.service) None None) (name_state (Some r.service) (Some r.method) None)
    (bytes_added name_added at 1 r.service no_names (name_state (Some r.service) None None) (omega arith) (omega arith) h refl)
    (bytes_added name_added (at + length a) 2 r.method (name_state (Some r.service) None None) (name_state (Some r.service) (Some r.method) None) (omega arith) (omega arith) k refl))
    (log_added (at + length (a ++ b)) r.service r.method r.log_id l)

abbrev outcome_state : ℕ → List ℕ → Outcome
outcome_state c t = record { code = c; text = t }

text_added : (at c : ℕ) (text : List ℕ) → length text < 2 ^ 64 → Step kept outcome_added at (where_not_empty 2 text) (outcome_state c []) (outcome_state c text)
text_added at c [] h = step_none kept outcome_added at (outcome_state c [])
text_added at c (b ∷ text) h = bytes_added outcome_added at 2 (b ∷ text) (outcome_state c []) (outcome_state c (b ∷ text)) (omega arith) (omega arith) h refl

response_added : (at : ℕ) (r : ResponseMeta) → IsInt r.code → length r.text < 2 ^ 64 → Step kept outcome_added at (response_bytes r) no_outcome (outcome_state (spelled_int r.code) r.text)
response_added at r h k =
    let a = number_field 1 (spelled_int r.code) in
    step_both kept outcome_added at a (where_not_empty 2 r.text) no_outcome (outcome_state (spelled_int r.code) []) (outcome_state (spelled_int r.code) r.text)
    (number_added outcome_added at 1 (spelled_int r.code) no_outcome (outcome_state (spelled_int r.code) []) (omega arith) (omega arith) (spelled_fits r.code h) refl)
    (text_added (at + length a) (spelled_int r.code) r.text k)

-- ## The meta

abbrev state : Option Names → Option Outcome → ℕ → ℕ → ℕ → Gathered
state r p c i s = record { request = r; response = p; compress_type = c; correlation_id = i; attachment_size = s }

abbrev MetaStep : ℕ → List ℕ → Gathered → Gathered → Type 0
MetaStep at bytes g h = Step part part_added at bytes g h

number_step : (at k n : ℕ) (g h : Gathered) → 1 ≤ k → k < 2 ^ 29 → n < 2 ^ 64 → part_added g (Plain (numbered k n)) ≡ h → MetaStep at (number_field k n) g h
number_step at k n g h one short fits e = step_field part part_added at (number_field k n) (numbered k n) (Plain (numbered k n)) g h (number_is at k n one short fits) refl e

compress_step : (at : ℕ) (z : ℤ) (r : Option Names) (p : Option Outcome) → IsInt z → MetaStep at (where_not_0 3 z) (state r p 0 0 0) (state r p (spelled_int z) 0 0)
compress_step at (pos zero) r p h = step_none part part_added at (state r p 0 0 0)
compress_step at (pos (suc n)) r p h = number_step at 3 (suc n) (state r p 0 0 0) (state r p (suc n) 0 0) (omega arith) (omega arith) (spelled_fits (pos (suc n)) h) refl
compress_step at (negsuc n) r p h = number_step at 3 (spelled_int (negsuc n)) (state r p 0 0 0) (state r p (spelled_int (negsuc n)) 0 0) (omega arith) (omega arith) (spelled_fits (negsuc n) h) refl

size_step : (at : ℕ) (z : ℤ) (r : Option Names) (p : Option Outcome) (c i : ℕ) → IsInt z → MetaStep at (where_not_0 5 z) (state r p c i 0) (state r p c i (spelled_int z))
size_step at (pos zero) r p c i h = step_none part part_added at (state r p c i 0)
size_step at (pos (suc n)) r p c i h = number_step at 5 (suc n) (state r p c i 0) (state r p c i (suc n)) (omega arith) (omega arith) (spelled_fits (pos (suc n)) h) refl
size_step at (negsuc n) r p c i h = number_step at 5 (spelled_int (negsuc n)) (state r p c i 0) (state r p c i (spelled_int (negsuc n))) (omega arith) (omega arith) (spelled_fits (negsuc n) h) refl

id_step : (at n : ℕ) (r : Option Names) (p : Option Outcome) (c : ℕ) → n < 2 ^ 64 → MetaStep at (number_field 4 n) (state r p c 0 0) (state r p c n 0)
id_step at n r p c h = number_step at 4 n (state r p c 0 0) (state r p c n 0) (omega arith) (omega arith) h refl

abbrev named : RequestMeta → Names
named r = name_state (Some r.service) (Some r.method) r.log_id

abbrev ended : ResponseMeta → Outcome
ended r = outcome_state (spelled_int r.code) r.text

abbrev asked : Option RequestMeta → List ℕ
asked o = where_some (λ (r : RequestMeta). bytes_field 1 (request_bytes r)) o

abbrev answered : Option ResponseMeta → List ℕ
answered o = where_some (λ (r : ResponseMeta). bytes_field 2 (response_bytes r)) o

request_made : (at : ℕ) (r : RequestMeta) → Step kept name_added (inner_place at 1 (request_bytes r)) (request_bytes r) no_names (named r) → length (request_bytes r) < 2 ^ 64 →
    MetaStep at (bytes_field 1 (request_bytes r)) nothing (state (Some (named r)) None 0 0 0)
request_made at r step short =
    step_field part part_added at (bytes_field 1 (request_bytes r)) (spanned at 1 (request_bytes r)) (Request step.values) nothing (state (Some (named r)) None 0 0 0)
    (bytes_is at 1 (request_bytes r) (omega arith) (omega arith) short)
    (ap (λ w. w >>= (λ inside. Ok (Request inside))) (says_all kept (inner_place at 1 (request_bytes r)) (request_bytes r) step.values step.says))
    (ap (λ (n : Names). state (Some n) None 0 0 0) step.adds)

request_step : (at : ℕ) (o : Option RequestMeta) → RequestFits o → length (asked o) < 2 ^ 64 → MetaStep at (asked o) nothing (state (option_map named o) None 0 0 0)
request_step at None h k = step_none part part_added at nothing
request_step at (Some r) h k =
    let whole = inner_short 1 (request_bytes r) in
    let all = length-append (bytes_field 1 r.service ++ bytes_field 2 r.method) (where_some (number_field 3) r.log_id) in
    let both = length-append (bytes_field 1 r.service) (bytes_field 2 r.method) in
    let service = inner_short 1 r.service in
    let method = inner_short 2 r.method in
    request_made at r
    (request_added (inner_place at 1 (request_bytes r)) r (omega (arith, k, whole, all, both, service)) (omega (arith, k, whole, all, both, method)) h)
    (omega (arith, k, whole))

response_made : (at : ℕ) (q : Option Names) (r : ResponseMeta) → Step kept outcome_added (inner_place at 2 (response_bytes r)) (response_bytes r) no_outcome (ended r) → length (response_bytes r) < 2 ^ 64 →
    MetaStep at (bytes_field 2 (response_bytes r)) (state q None 0 0 0) (state q (Some (ended r)) 0 0 0)
response_made at q r step short =
    step_field part part_added at (bytes_field 2 (response_bytes r)) (spanned at 2 (response_bytes r)) (Response step.values) (state q None 0 0 0) (state q (Some (ended r)) 0 0 0)
    (bytes_is at 2 (response_bytes r) (omega arith) (omega arith) short)
    (ap (λ w. w >>= (λ inside. Ok (Response inside))) (says_all kept (inner_place at 2 (response_bytes r)) (response_bytes r) step.values step.says))
    (ap (λ (n : Outcome). state q (Some n) 0 0 0) step.adds)

response_step : (at : ℕ) (q : Option Names) (o : Option ResponseMeta) → ResponseFits o → length (answered o) < 2 ^ 64 → MetaStep at (answered o) (state q None 0 0 0) (state q (option_map ended o) 0 0 0)
response_step at q None h k = step_none part part_added at (state q None 0 0 0)
response_step at q (Some r) h k =
    let whole = inner_short 2 (response_bytes r) in
    let all = length-append (number_field 1 (spelled_int r.code)) (where_not_empty 2 r.text) in
    response_made at q r
    (response_added (inner_place at 2 (response_bytes r)) r h.sfits (omega (arith, k, whole, all, text_short r.text)))
    (omega (arith, k, whole))
  where
    text_short : (text : List ℕ) → length text ≤ length (where_not_empty 2 text)
    text_short [] = omega arith
    text_short (b ∷ text) = inner_short 2 (b ∷ text)

meta_step : (m : Meta) → MetaFits m → length (meta_bytes m) < 2 ^ 64 → MetaStep 0 (meta_bytes m) nothing (state (option_map named m.request) (option_map ended m.response) (spelled_int m.compress_type) m.correlation_id (spelled_int m.attachment_size))
meta_step m fit short =
    let q = option_map named m.request in
    let p = option_map ended m.response in
    let a = asked m.request in
    let b = answered m.response in
    let c = where_not_0 3 m.compress_type in
    let d = number_field 4 m.correlation_id in
    let e = where_not_0 5 m.attachment_size in
    let l1 = length-append (a ++ b ++ c ++ d) e in
    let l2 = length-append (a ++ b ++ c) d in
    let l3 = length-append (a ++ b) c in
    let l4 = length-append a b in
    step_both part part_added 0 (a ++ b ++ c ++ d) e nothing (state q p (spelled_int m.compress_type) m.correlation_id 0) (state q p (spelled_int m.compress_type) m.correlation_id (spelled_int m.attachment_size))
    (step_both part part_added 0 (a ++ b ++ c) d nothing (state q p (spelled_int m.compress_type) 0 0) (state q p (spelled_int m.compress_type) m.correlation_id 0)
    (step_both part part_added 0 (a ++ b) c nothing (state q p 0 0 0) (state q p (spelled_int m.compress_type) 0 0)
    (step_both part part_added 0 a b nothing (state q None 0 0 0) (state q p 0 0 0)
    (request_step 0 m.request fit.request (omega (arith, short, l1, l2, l3, l4)))
    (response_step (0 + length a) q m.response fit.response (omega (arith, short, l1, l2, l3, l4))))
    (compress_step (0 + length (a ++ b)) m.compress_type q p fit.compress_type.sfits))
    (id_step (0 + length (a ++ b ++ c)) m.correlation_id q p (spelled_int m.compress_type) fit.correlation_id))
    (size_step (0 + length (a ++ b ++ c ++ d)) m.attachment_size q p (spelled_int m.compress_type) m.correlation_id fit.attachment_size.sfits)

request_back : (o : Option RequestMeta) → Ok o ≡ request_from (option_map named o)
request_back None = refl
request_back (Some r) = refl

response_back : (o : Option ResponseMeta) → ResponseFits o → o ≡ option_map response_from (option_map ended o)
response_back None h = refl
response_back (Some r) h = ap (λ (z : ℤ). Some (record { code = z; text = r.text })) (sym (int32_spelled r.code h.sfits))

-- what a meta has of its parts, its gathered fields have
there : {A B : Type 0} (f : A → B) (o : Option A) → is_some o ≡ true → is_some (option_map f o) ≡ true
there f None e = e
there f (Some a) e = refl

-- a meta that has a request or a response is read as itself
pub round_trip : (m : Meta) → MetaFits m → length (meta_bytes m) < 2 ^ 64 → HasPart m → read_meta (meta_bytes m) ≡ Ok m
round_trip m fit short present =
    let step = meta_step m fit short in
    let g = state (option_map named m.request) (option_map ended m.response) (spelled_int m.compress_type) m.correlation_id (spelled_int m.attachment_size) in
    let read = says_all part 0 (meta_bytes m) step.values step.says in
    let gathered : Ok g ≡ gathered_after nothing (meta_bytes m) = sym (ap (λ r. r >>= (λ ps. Ok (fold part_added nothing ps))) read ∙ ap (λ g. Ok g) step.adds) in
    sym (built g m.request m.response m.compress_type m.attachment_size (read_meta (meta_bytes m)) (moved present) (request_back m.request) (response_back m.response fit.response)
    (sym (int32_spelled m.compress_type fit.compress_type.sfits)) (sym (int32_spelled m.attachment_size fit.attachment_size.sfits)) (meta_is_read (meta_bytes m) g gathered))
  where
    moved : HasPart m → (is_some (option_map named m.request) ≡ true) ⊎ (is_some (option_map ended m.response) ≡ true)
    moved (inl h) = inl (there named m.request h)
    moved (inr h) = inr (there ended m.response h)
