-- The frames of streams that are made of whole frames, and that requests of calls and their replies are such frames.
use Rattle.std.proofs.Common.{◌≡◌, ℕ, ◌+◌, ◌-◌, ◌^◌, ◌<◌, ◌≤◌, List, [], ◌∷◌, ◌++◌, length, drop, flat_map, sum, Some, None, length-append, inl, inr, refl, sym, ap, ◌∙◌, subst, arith}
use Rattle.std.proofs.lemmas.List.{length-reverse}
use Rattle.std.proofs.lemmas.Int.{fits_signed_from_abs}
use Rattle.std.proofs.Math.Seq.{drop-append_seam}
use Rattle.std.specs.List.{AllByRecursion}
use Rattle.std.specs.Prelude.{pos, codes, bytes_eq}
use Rattle.std.specs.Int.{w32, w64, to_be_bytes}
use Rattle.calm_runs.specs.send_causes.specs.Below.sock_steps.proofs.SumsAsMarksChange.{either_way}
use Rattle.brpc_model.specs.Spelling.{number_field, bytes_field, response_bytes, where_not_0, where_not_empty, meta_bytes}
use Rattle.brpc_model.specs.Frame.{Frame, IsFrame, magic, framed, frame_bytes}
use Rattle.brpc_model.specs.FrameStream.{Stream, Rest, stream_from, goes_on}
use Rattle.brpc_model.specs.Reply.{Answer, Gives, Refuses, echo, summing, served, response_with, answered_by, reply}
use Rattle.brpc_model.proofs.StreamBehindFirstFrame.{stream_goes_on}
use Rattle.prpc_frame.proofs.Encoded.{frame_judged}
use Rattle.prpc_frame.specs.rpc_meta.proofs.RoundTrip.{round_trip}
use Rattle.sock_message.specs.Asked.{Asked, meta_of, request_of, frame_of}
use Rattle.calm_runs.specs.send_causes.specs.Below.script_facts.proofs.CallFrameSizes.{number_short, bytes_short, size_short}

-- ## Streams of whole frames

-- how many bytes a frame has
pub framed_length : (meta payload attachment : List ℕ) → length (framed meta payload attachment) ≡ 12 + (length meta + length payload + length attachment)
framed_length meta payload attachment = sums (to_be_bytes w32 (length meta + length payload + length attachment)) (to_be_bytes w32 (length meta)) refl refl
  where
    sums : (x y : List ℕ) → length x ≡ 4 → length y ≡ 4 → length (magic ++ x ++ y ++ meta ++ payload ++ attachment) ≡ 12 + (length meta + length payload + length attachment)
    sums x y p q = omega (arith, p, q, length-append (magic ++ x ++ y ++ meta ++ payload) attachment, length-append (magic ++ x ++ y ++ meta) payload, length-append (magic ++ x ++ y) meta, length-append (magic ++ x) y, length-append magic x)

frame_long : (bytes : List ℕ) (f : Frame) → IsFrame bytes f → 12 ≤ length bytes
frame_long bytes f i = let l = framed_length i.spelled f.payload f.attachment in let e = ap length i.made in omega (arith, l, e)

-- behind a whole frame the others follow
frame_then : (at : ℕ) (bytes more : List ℕ) (f : Frame) → IsFrame bytes f → (stream_from at (bytes ++ more)).frames ≡ f ∷ (stream_from (at + (12 + (length bytes - 12))) more).frames
frame_then at bytes more f i = ap (λ (s : Stream). s.frames) (stream_goes_on at (bytes ++ more))
    ∙ (ap (λ j. (goes_on at (bytes ++ more) j (λ b. stream_from (at + (12 + b)) (drop (12 + b) (bytes ++ more)))).frames) (frame_judged bytes more f i)
    ∙ ap (λ l. f ∷ (stream_from (at + (12 + (length bytes - 12))) l).frames) (ap (λ n. drop n (bytes ++ more)) (let l = frame_long bytes f i in let z : 12 + (length bytes - 12) ≡ length bytes = omega (arith, l) in z) ∙ drop-append_seam bytes more))

ends_then : (at : ℕ) (bytes more : List ℕ) (f : Frame) → IsFrame bytes f → (stream_from at (bytes ++ more)).ending ≡ (stream_from (at + (12 + (length bytes - 12))) more).ending
ends_then at bytes more f i = ap (λ (s : Stream). s.ending) (stream_goes_on at (bytes ++ more))
    ∙ (ap (λ j. (goes_on at (bytes ++ more) j (λ b. stream_from (at + (12 + b)) (drop (12 + b) (bytes ++ more)))).ending) (frame_judged bytes more f i)
    ∙ ap (λ l. (stream_from (at + (12 + (length bytes - 12))) l).ending) (ap (λ n. drop n (bytes ++ more)) (let l = frame_long bytes f i in let z : 12 + (length bytes - 12) ≡ length bytes = omega (arith, l) in z) ∙ drop-append_seam bytes more))

-- pieces that are frames of which this holds
pub record IsPiece (Q : Frame → Type 0) (bytes : List ℕ) : Type 0 where
  pub frame : Frame
  pub is : IsFrame bytes frame
  pub holds : Q frame

module _ {A : Type 0} (bytes_of : A → List ℕ) (Q : Frame → Type 0) where
  pub piece_frames : (xs : List A) → AllByRecursion (λ x. IsPiece Q (bytes_of x)) xs → (at : ℕ) → AllByRecursion Q (stream_from at (flat_map bytes_of xs)).frames
  piece_frames [] all at = tt
  piece_frames (x ∷ xs) all at = let p = all.0 in subst (AllByRecursion Q) (sym (frame_then at (bytes_of x) (flat_map bytes_of xs) p.frame p.is)) (p.holds, piece_frames xs all.1 (at + (12 + (length (bytes_of x) - 12))))

  -- and they end without a fault
  pub pieces_end : (xs : List A) → AllByRecursion (λ x. IsPiece Q (bytes_of x)) xs → (at : ℕ) → (stream_from at (flat_map bytes_of xs)).ending ≡ Rest 0
  pieces_end [] all at = refl
  pieces_end (x ∷ xs) all at = let p = all.0 in ends_then at (bytes_of x) (flat_map bytes_of xs) p.frame p.is ∙ pieces_end xs all.1 (at + (12 + (length (bytes_of x) - 12)))

-- ## The sizes of metas

text_short : (text : List ℕ) → length (where_not_empty 2 text) ≤ 20 + length text
text_short [] = omega arith
text_short (b ∷ bytes) = bytes_short 2 (b ∷ bytes)

response_short : (code : ℕ) (text : List ℕ) → length (response_bytes (record { code = pos code; text = text })) ≤ 40 + length text
response_short code text = omega (arith, length-append (number_field 1 code) (where_not_empty 2 text), number_short 1 code, text_short text)

reply_short : (id code size : ℕ) (text : List ℕ) → length (meta_bytes (record { request = None; response = Some (record { code = pos code; text = text }); compress_type = pos 0; correlation_id = id; attachment_size = pos size })) ≤ 100 + length text
reply_short id code size text = let r : List ℕ = response_bytes (record { code = pos code; text = text }) in let a = bytes_short 2 (response_bytes (record { code = pos code; text = text })) in let b = response_short code text in let c = number_short 4 id in let d = size_short size in
    let x : List ℕ = bytes_field 2 r in let y : List ℕ = number_field 4 id in let z : List ℕ = where_not_0 5 (pos size) in
    sums (bytes_field 2 (response_bytes (record { code = pos code; text = text }))) (number_field 4 id) (where_not_0 5 (pos size)) (omega (arith, a, b)) c d
  where
    sums : (x y z : List ℕ) → length x ≤ 60 + length text → length y ≤ 20 → length z ≤ 20 → length ([] ++ x ++ [] ++ y ++ z) ≤ 100 + length text
    sums x y z p q r = omega (arith, p, q, r, length-append (([] ++ x ++ []) ++ y) z, length-append ([] ++ x ++ []) y, length-append x [])

-- ## Requests

-- a call's frames are no longer than a message may be, and its correlation ids are numbers of 64 bits
pub record IsSmall (asked : Asked) (id n : ℕ) : Type 0 where
  pub short : length (frame_of asked id n) ≤ 131072
  pub low : id + n + 1 < 2 ^ 64

pub bodies_short : (asked : Asked) (id n : ℕ) → IsSmall asked id n → length asked.payload + length asked.attachment ≤ 131072
bodies_short asked id n small = let l = framed_length (meta_bytes (meta_of asked id n)) asked.payload asked.attachment in let s = small.short in omega (arith, l, s)

pub request_is : (asked : Asked) (id n : ℕ) → IsSmall asked id n → IsFrame (frame_of asked id n) (request_of asked id n)
request_is asked id n small = record {
  spelled = meta_bytes (meta_of asked id n);
  means = round_trip (meta_of asked id n)
      (record { request = tt; response = tt; compress_type = fits_signed_from_abs w32 (pos 0) (omega arith); correlation_id = small.low; attachment_size = fits_signed_from_abs w32 (pos (length asked.attachment)) (let b = bodies_short asked id n small in omega (arith, b)) })
      (omega (arith, fits)) (inl refl);
  made = refl;
  sized = refl;
  small = omega (arith, fits);
}
  where
    fits : length (meta_bytes (meta_of asked id n)) + length asked.payload + length asked.attachment ≤ 131072
    fits = let l = framed_length (meta_bytes (meta_of asked id n)) asked.payload asked.attachment in let s = small.short in omega (arith, l, s)

-- ## Replies

abbrev AnswerFits : Answer → Type 0
AnswerFits (Gives payload attachment) = length payload + length attachment ≤ 131072
AnswerFits (Refuses code text) = (code < 2 ^ 31) × (length text ≤ 64)

response_is : (id code : ℕ) (text payload attachment : List ℕ) → id < 2 ^ 64 → code < 2 ^ 31 → length text ≤ 64 → length payload + length attachment ≤ 131072 → IsFrame (frame_bytes (response_with id code text payload attachment)) (response_with id code text payload attachment)
response_is id code text payload attachment low small few short = let m = reply_short id code (length attachment) text in record {
  spelled = meta_bytes (response_with id code text payload attachment).meta;
  means = round_trip (response_with id code text payload attachment).meta
      (record { request = tt; response = fits_signed_from_abs w32 (pos code) small; compress_type = fits_signed_from_abs w32 (pos 0) (omega arith); correlation_id = low; attachment_size = fits_signed_from_abs w32 (pos (length attachment)) (omega (arith, short)) })
      (omega (arith, m, few)) (inr refl);
  made = refl;
  sized = refl;
  small = omega (arith, m, few, short);
}

answer_is : (id : ℕ) (a : Answer) → id < 2 ^ 64 → AnswerFits a → IsFrame (frame_bytes (answered_by id a)) (answered_by id a)
answer_is id (Gives payload attachment) low fits = response_is id 0 [] payload attachment low (omega arith) (omega arith) fits
answer_is id (Refuses code text) low fits = response_is id code text [] [] low fits.0 fits.1 (omega arith)

echo_fits : (method payload attachment : List ℕ) → length payload + length attachment ≤ 131072 → AnswerFits (echo method payload attachment)
echo_fits method payload attachment short = either_way (bytes_eq method (codes "Echo")) _ _ AnswerFits short
    (either_way (bytes_eq method (codes "Reverse")) _ _ AnswerFits (let l = length-reverse payload in omega (arith, l, short)) (omega arith, omega arith))

summing_fits : (method payload : List ℕ) → AnswerFits (summing method payload)
summing_fits method payload = either_way (bytes_eq method (codes "Bytes")) _ _ AnswerFits (let l : length (to_be_bytes w64 (sum payload)) ≡ 8 = refl in omega (arith, l)) (omega arith, omega arith)

served_fits : (asked : Asked) → length asked.payload + length asked.attachment ≤ 131072 → AnswerFits (served (pos 0) (record { service = asked.service; method = asked.method; log_id = None }) asked.payload asked.attachment)
served_fits asked short = either_way (bytes_eq asked.service (codes "Echo")) _ _ AnswerFits (echo_fits asked.method asked.payload asked.attachment short)
    (either_way (bytes_eq asked.service (codes "Sum")) _ _ AnswerFits (summing_fits asked.method asked.payload) (omega arith, omega arith))

abbrev answer_to : Asked → Answer
answer_to asked = served (pos 0) (record { service = asked.service; method = asked.method; log_id = None }) asked.payload asked.attachment

-- the reply to a call's request is a frame, of the same correlation id
pub reply_is : (asked : Asked) (id n : ℕ) (g : Frame) → IsSmall asked id n → reply (request_of asked id n) ≡ Some g → IsFrame (frame_bytes g) g × (g.meta.correlation_id ≡ id + n + 1)
reply_is asked id n g small is = (subst (λ f. IsFrame (frame_bytes f) f) same (answer_is (id + n + 1) (answer_to asked) small.low (served_fits asked (bodies_short asked id n small))), ap (λ (f : Frame). f.meta.correlation_id) (sym same) ∙ with_id (id + n + 1) (answer_to asked))
  where
    same : answered_by (id + n + 1) (served (pos 0) (record { service = asked.service; method = asked.method; log_id = None }) asked.payload asked.attachment) ≡ g
    same = let z : Some (answered_by (id + n + 1) (served (pos 0) (record { service = asked.service; method = asked.method; log_id = None }) asked.payload asked.attachment)) ≡ Some g = is in cc

    with_id : (id : ℕ) (a : Answer) → (answered_by id a).meta.correlation_id ≡ id
    with_id id (Gives payload attachment) = refl
    with_id id (Refuses code text) = refl
