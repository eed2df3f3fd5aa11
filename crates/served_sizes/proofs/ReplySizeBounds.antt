-- The replies to some bytes are at most 41 / 12 times as long: each is to a frame of at least 12 bytes, and has what that carries or a few bytes.
use Rattle.std.proofs.Common.{◌≡◌, ℕ, zero, suc, ◌+◌, ◌-◌, ◌*◌, ◌≤◌, nat_lt, not, ◌&&◌, ltb-false, eqb, Bool, true, false, cond, List, [], ◌∷◌, ◌++◌, length, take, drop, flat_map, filter_map, sum, Option, Some, None, Result, Ok, Err, ℤ, pos, negsuc, length-append, length-drop, refl, arith}
use Rattle.std.proofs.lemmas.List.{length-reverse}
use Rattle.std.specs.Prelude.{codes, bytes_eq, reverse, option_map}
use Rattle.std.specs.List.{cons_option}
use Rattle.std.specs.Int.{w64, to_be_bytes}
use Rattle.sock_steps.proofs.SumsAsMarksChange.{either_way}
use Rattle.brpc_model.specs.Items.{Shape}
use Rattle.brpc_model.specs.Wire.{varint_bytes}
use Rattle.brpc_model.specs.Meta.{Meta, MetaFault, RequestMeta, read_meta}
use Rattle.brpc_model.specs.Spelling.{number_field, bytes_field, response_bytes, where_not_0, meta_bytes}
use Rattle.brpc_model.specs.Frame.{Frame, BadMagic, TooBig, MetaOver, AttachOver, Judged, NoneYet, Faulty, Begins, frame_bytes, high_first, matching, body_limit, with_attachment, body_judged, judged}
use Rattle.brpc_model.specs.FrameStream.{goes_on, stream_up_to}
use Rattle.brpc_model.specs.Reply.{Answer, Gives, Refuses, echo, summing, served, response_with, answered_by, reply, reply_frames}
use Rattle.brpc_model.specs.ServedForTakenBytes.{first_of, given_for}
use Rattle.served_calls.specs.served_runs.specs.Below.script_facts.proofs.CallFrameSizes.{varint_short}
use Rattle.served_calls.specs.served_runs.proofs.WholeFrameStreams.{framed_length}

-- ## Sizes of metas

id_short : (id : ℕ) → length (number_field 4 id) ≤ 11
id_short id = let one : length (varint_bytes 32) ≡ 1 = refl in let few = varint_short 10 id in let both = length-append (varint_bytes 32) (varint_bytes id) in omega (arith, one, few, both)

size_short : (n : ℕ) → length (where_not_0 5 (pos n)) ≤ 11
size_short zero = omega arith
size_short (suc n) = let one : length (varint_bytes 40) ≡ 1 = refl in let few = varint_short 10 (suc n) in let both = length-append (varint_bytes 40) (varint_bytes (suc n)) in omega (arith, one, few, both)

-- that of a response with a code and a text that take so many bytes
response_short : (id code : ℕ) (text payload attachment : List ℕ) (n m : ℕ) → length (bytes_field 2 (response_bytes (record { code = pos code; text = text }))) ≤ n → length (where_not_0 5 (pos (length attachment))) ≤ m
    → length (frame_bytes (response_with id code text payload attachment)) ≤ 23 + n + m + length payload + length attachment
response_short id code text payload attachment n m few size =
    let l = framed_length (meta_bytes (response_with id code text payload attachment).meta) payload attachment in
    let s : length (meta_bytes (response_with id code text payload attachment).meta) ≤ n + 11 + m = meta_sums (bytes_field 2 (response_bytes (record { code = pos code; text = text }))) (number_field 4 id) (where_not_0 5 (pos (length attachment))) few (id_short id) size in
    omega (arith, l, s)
  where
    meta_sums : (x y z : List ℕ) → length x ≤ n → length y ≤ 11 → length z ≤ m → length ([] ++ x ++ [] ++ y ++ z) ≤ n + 11 + m
    meta_sums x y z p q r = omega (arith, p, q, r, length-append (([] ++ x ++ []) ++ y) z, length-append ([] ++ x ++ []) y, length-append x [])

-- ## Sizes of replies

-- the answer takes no more than this
abbrev IsShort : ℕ → Answer → Type 0
IsShort n a = (id : ℕ) → length (frame_bytes (answered_by id a)) ≤ 41 + n

gives_short : (payload attachment : List ℕ) (n : ℕ) → length payload + length attachment ≤ n → IsShort n (Gives payload attachment)
gives_short payload attachment n few id = let l : length (bytes_field 2 (response_bytes (record { code = pos 0; text = [] }))) ≡ 4 = refl in let s = response_short id 0 [] payload attachment 4 11 (omega (arith, l)) (size_short (length attachment)) in omega (arith, s, few)

plain_short : (payload : List ℕ) (n : ℕ) → length payload ≤ n + 8 → IsShort n (Gives payload [])
plain_short payload n few id = let l : length (bytes_field 2 (response_bytes (record { code = pos 0; text = [] }))) ≡ 4 = refl in let s = response_short id 0 [] payload [] 4 0 (omega (arith, l)) (omega arith) in omega (arith, s, few)

no_service : (n : ℕ) → IsShort n (Refuses 1001 (codes "no service"))
no_service n id = let l : length (bytes_field 2 (response_bytes (record { code = pos 1001; text = codes "no service" }))) ≡ 17 = refl in let s = response_short id 1001 (codes "no service") [] [] 17 0 (omega (arith, l)) (omega arith) in omega (arith, s)

no_method : (n : ℕ) → IsShort n (Refuses 1002 (codes "no method"))
no_method n id = let l : length (bytes_field 2 (response_bytes (record { code = pos 1002; text = codes "no method" }))) ≡ 16 = refl in let s = response_short id 1002 (codes "no method") [] [] 16 0 (omega (arith, l)) (omega arith) in omega (arith, s)

bad_request : (n : ℕ) → IsShort n (Refuses 1003 (codes "bad request"))
bad_request n id = let l : length (bytes_field 2 (response_bytes (record { code = pos 1003; text = codes "bad request" }))) ≡ 18 = refl in let s = response_short id 1003 (codes "bad request") [] [] 18 0 (omega (arith, l)) (omega arith) in omega (arith, s)

module _ (payload attachment : List ℕ) where
  abbrev n : ℕ
  n = length payload + length attachment

  echo_short : (method : List ℕ) → IsShort n (echo method payload attachment)
  echo_short method = either_way (bytes_eq method (codes "Echo")) (Gives payload attachment) (cond (bytes_eq method (codes "Reverse")) (Gives (reverse payload) []) (Refuses 1002 (codes "no method"))) (IsShort n) (gives_short payload attachment n (omega arith))
      (either_way (bytes_eq method (codes "Reverse")) (Gives (reverse payload) []) (Refuses 1002 (codes "no method")) (IsShort n) (plain_short (reverse payload) n (let l = length-reverse payload in omega (arith, l))) (no_method n))

  summing_short : (method : List ℕ) → IsShort n (summing method payload)
  summing_short method = either_way (bytes_eq method (codes "Bytes")) (Gives (to_be_bytes w64 (sum payload)) []) (Refuses 1002 (codes "no method")) (IsShort n) (plain_short (to_be_bytes w64 (sum payload)) n (let l : length (to_be_bytes w64 (sum payload)) ≡ 8 = refl in omega (arith, l))) (no_method n)

  served_short : (compressed : ℤ) (request : RequestMeta) → IsShort n (served compressed request payload attachment)
  served_short (pos zero) request = either_way (bytes_eq request.service (codes "Echo")) (echo request.method payload attachment) (cond (bytes_eq request.service (codes "Sum")) (summing request.method payload) (Refuses 1001 (codes "no service"))) (IsShort n) (echo_short request.method)
      (either_way (bytes_eq request.service (codes "Sum")) (summing request.method payload) (Refuses 1001 (codes "no service")) (IsShort n) (summing_short request.method) (no_service n))
  served_short (pos (suc k)) request = bad_request n
  served_short (negsuc k) request = bad_request n

-- the bytes of the reply, none where there is none
abbrev reply_bytes : Option Frame → List ℕ
reply_bytes None = []
reply_bytes (Some g) = frame_bytes g

reply_short : (f : Frame) → length (reply_bytes (reply f)) ≤ 41 + (length f.payload + length f.attachment)
reply_short f = by f.meta.request
  where
    by : (o : Option RequestMeta) → length (reply_bytes (option_map (λ request. answered_by f.meta.correlation_id (served f.meta.compress_type request f.payload f.attachment)) o)) ≤ 41 + (length f.payload + length f.attachment)
    by None = omega arith
    by (Some request) = served_short f.payload f.attachment f.meta.compress_type request f.meta.correlation_id

-- ## Frames of streams

take_short : (k : ℕ) (w : List ℕ) → (length (take k w) ≤ k) × (length (take k w) ≤ length w)
take_short zero w = (omega arith, omega arith)
take_short (suc k) [] = (omega arith, omega arith)
take_short (suc k) (b ∷ w) = let few = take_short k w in (omega (arith, few.0), omega (arith, few.1))

-- the frame has room in its body
abbrev HasRoom : ℕ → Judged → Type 0
HasRoom body (Begins f n) = (n ≡ body) × (length f.payload + length f.attachment ≤ body)
HasRoom body other = Unit {0}

-- and its body in these bytes
abbrev IsInside : List ℕ → Judged → Type 0
IsInside bytes (Begins f n) = (12 + n ≤ length bytes) × (length f.payload + length f.attachment ≤ n)
IsInside bytes other = Unit {0}

with_room : (meta : Meta) (z : ℤ) (behind : List ℕ) (body : ℕ) → length behind ≤ body → HasRoom body (with_attachment meta z behind body)
with_room meta (negsuc k) behind body few = tt
with_room meta (pos k) behind body few = either_way (nat_lt (length behind) k) (Faulty (AttachOver (pos k) (length behind))) (Begins (record { meta = meta; payload = take (length behind - k) behind; attachment = drop (length behind - k) behind }) body) (HasRoom body) tt
    (refl, (let t = take_short (length behind - k) behind in let d = length-drop (length behind - k) behind in omega (arith, t.0, t.1, d, few)))

body_room : (r : Result Meta MetaFault) (behind : List ℕ) (body : ℕ) → length behind ≤ body → HasRoom body (body_judged r behind body)
body_room (Err fault) behind body few = tt
body_room (Ok meta) behind body few = with_room meta meta.attachment_size behind body few

inside : (bytes : List ℕ) (body : ℕ) (j : Judged) → 12 + body ≤ length bytes → HasRoom body j → IsInside bytes j
inside bytes body NoneYet le h = tt
inside bytes body (Faulty fault) le h = tt
inside bytes body (Begins f n) le h = (omega (arith, le, h.0), omega (arith, h.1, h.0))

module _ (bytes : List ℕ) where
  abbrev body_size : ℕ
  body_size = high_first (take 4 (drop 4 bytes))

  abbrev meta_size : ℕ
  meta_size = high_first (take 4 (drop 8 bytes))

  abbrev body_part : List ℕ
  body_part = take body_size (drop 12 bytes)

  abbrev last_case : Judged
  last_case = body_judged (read_meta (take meta_size body_part)) (drop meta_size body_part) body_size

  by_more : (b : Bool) → nat_lt (length bytes) (12 + body_size) ≡ b → IsInside bytes (cond b NoneYet last_case)
  by_more true e = tt
  by_more false e = inside bytes body_size last_case (ltb-false (length bytes) (12 + body_size) e) (body_room (read_meta (take meta_size body_part)) (drop meta_size body_part) body_size (let t = take_short body_size (drop 12 bytes) in let d = length-drop meta_size body_part in omega (arith, t.0, d)))

  by_tests : (wrong short big over : Bool) → IsInside bytes (cond wrong (Faulty (BadMagic (matching bytes))) (cond short NoneYet (cond big (Faulty (TooBig body_size)) (cond over (Faulty (MetaOver meta_size body_size)) (cond (nat_lt (length bytes) (12 + body_size)) NoneYet last_case)))))
  by_tests true short big over = tt
  by_tests false true big over = tt
  by_tests false false true over = tt
  by_tests false false false true = tt
  by_tests false false false false = by_more (nat_lt (length bytes) (12 + body_size)) refl

  judged_inside : IsInside bytes (judged bytes)
  judged_inside = by_tests (not (eqb (matching bytes) 4) && not (eqb (matching bytes) (length bytes))) (nat_lt (length bytes) 12) (nat_lt body_limit body_size) (nat_lt body_size meta_size)

replies_more : (o : Option Frame) (gs : List Frame) → length (flat_map frame_bytes (cons_option o gs)) ≡ length (reply_bytes o) + length (flat_map frame_bytes gs)
replies_more None gs = omega arith
replies_more (Some g) gs = length-append (frame_bytes g) (flat_map frame_bytes gs)

abbrev all_replies : List Frame → ℕ
all_replies fs = length (flat_map frame_bytes (filter_map reply fs))

sums : (r a b d l n c : ℕ) → b ≡ r + a → r ≤ 41 + c → 12 * a ≤ 41 * d → d ≡ l - (12 + n) → 12 + n ≤ l → c ≤ n → 12 * b ≤ 41 * l
sums r a b d l n c e p q s t u = omega (arith, e, p, q, s, t, u)

up_to : (most at : ℕ) (bytes : List ℕ) → 12 * all_replies (stream_up_to most at bytes).frames ≤ 41 * length bytes
up_to zero at bytes = omega arith
up_to (suc most) at bytes = by (judged bytes) (judged_inside bytes) (λ body. up_to most (at + (12 + body)) (drop (12 + body) bytes))
  where
    by : (j : Judged) → IsInside bytes j → ((body : ℕ) → 12 * all_replies (stream_up_to most (at + (12 + body)) (drop (12 + body) bytes)).frames ≤ 41 * length (drop (12 + body) bytes))
        → 12 * all_replies (goes_on at bytes j (λ body. stream_up_to most (at + (12 + body)) (drop (12 + body) bytes))).frames ≤ 41 * length bytes
    by NoneYet room later = omega arith
    by (Faulty fault) room later = omega arith
    by (Begins f body) room later = let fs : List Frame = (stream_up_to most (at + (12 + body)) (drop (12 + body) bytes)).frames in
        sums (length (reply_bytes (reply f))) (all_replies fs) (all_replies (f ∷ fs)) (length (drop (12 + body) bytes)) (length bytes) body (length f.payload + length f.attachment) (replies_more (reply f) (filter_map reply fs)) (reply_short f) (later body) (length-drop (12 + body) bytes) room.0 room.1

first_short : (o : Option ℕ) (gs : List Frame) → length (flat_map frame_bytes (first_of o gs)) ≤ length (flat_map frame_bytes gs)
first_short None gs = omega arith
first_short (Some k) gs = by k gs
  where
    by : (k : ℕ) (gs : List Frame) → length (flat_map frame_bytes (take k gs)) ≤ length (flat_map frame_bytes gs)
    by zero gs = omega arith
    by (suc k) [] = omega arith
    by (suc k) (g ∷ gs) = let a = length-append (frame_bytes g) (flat_map frame_bytes (take k gs)) in let b = length-append (frame_bytes g) (flat_map frame_bytes gs) in let c = by k gs in omega (arith, a, b, c)

pub replies_short : (shape : Shape) (took : List ℕ) → 12 * length (given_for shape took) ≤ 41 * length took
replies_short shape took = let a = first_short shape.end (reply_frames took) in let b = up_to (suc (length took)) 0 took in omega (arith, a, b)
