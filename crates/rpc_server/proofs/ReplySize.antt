-- The reply to a frame is no larger than a frame may be.
use Rattle.std.proofs.Common.{◌≡◌, ℕ, zero, suc, ◌+◌, ◌/◌, ◌%◌, ◌^◌, ◌<◌, ◌≤◌, Bool, true, false, if◌then◌else◌, List, [], ◌∷◌, ◌++◌, length, ℤ, pos, negsuc, Option, Some, None, refl, ap, sym, ◌∙◌, subst, ⊎_elim, arith, length-append}
use Rattle.std.specs.Prelude.{bytes_eq, codes, sum, reverse, option_map}
use Rattle.std.specs.Int.{w64, to_be_bytes}
use Rattle.std.proofs.Math.Nat.{pow-suc}
use Rattle.std.proofs.lemmas.Nat.{div_below}
use Rattle.std.proofs.lemmas.List.{length-reverse}
use Rattle.std.proofs.lemmas.Bool.{cases_lt, lt-ltb, le-ltb}
use Rattle.std.proofs.lemmas.Slice.Eq.{bytes_eq-Decides}
use Rattle.brpc_model.specs.Wire.{varint_up_to, varint_bytes}
use Rattle.brpc_model.specs.Meta.{RequestMeta, read_meta}
use Rattle.brpc_model.specs.Spelling.{number_field, bytes_field, where_not_0, meta_bytes}
use Rattle.brpc_model.specs.Frame.{Frame, Begins, judged, body_limit}
use Rattle.brpc_model.specs.Reply.{Answer, Gives, Refuses, echo, summing, served, response_with, answered_by, reply}
use Rattle.rpc_server.specs.ReplySize.{frame_size}
use Rattle.rpc_server.proofs.RequestMetaLeast.{request_least}
use Rattle.rpc_server.proofs.ResponseMetaSize.{response_size}
use Rattle.rpc_server.proofs.SmallFrames.{load, begun_from}

few_bytes : (most n k : ℕ) → n < 128 ^ suc k → length (varint_up_to most n) ≤ suc k
few_bytes zero n k h = omega arith
few_bytes (suc most) n k h =
    ⊎_elim (λ (small : n < 128). rw (lt-ltb n 128 small) (omega arith))
    (λ (large : 128 ≤ n). rw (le-ltb n 128 large) (more k (λ k h. few_bytes most (n / 128) k h) large h))
    (cases_lt n 128)
  where
    more : (k : ℕ) → ((k : ℕ) → n / 128 < 128 ^ suc k → length (varint_up_to most (n / 128)) ≤ suc k) → 128 ≤ n → n < 128 ^ suc k → suc (length (varint_up_to most (n / 128))) ≤ suc k
    more zero rest large h = absurd (omega (arith, h, large))
    more (suc k) rest large h =
        let below : n / 128 < 128 ^ suc k = div_below n 128 (128 ^ suc k) (omega arith) (rw (← pow-suc 128 (suc k)) h) in
        omega (arith, rest k below)

-- an attachment's size takes five bytes at most
size_field : (n : ℕ) → n ≤ body_limit → length (where_not_0 5 (pos n)) ≤ 5
size_field zero h = omega arith
size_field (suc n) h = omega (arith, length-append (varint_bytes 40) (varint_bytes (suc n)), few_bytes 10 40 0 (omega arith), few_bytes 10 (suc n) 3 (omega (arith, h)))

-- the meta of a response that isn't refused
given_size : (id : ℕ) (payload attachment : List ℕ) → length attachment ≤ body_limit → length (meta_bytes (response_with id 0 [] payload attachment).meta) ≤ 10 + length (varint_bytes id)
given_size id payload attachment h =
    let inner = number_field 1 0 ++ [] in
    let size = where_not_0 5 (pos (length attachment)) in
    omega (
      arith,
      length-append ((([] ++ bytes_field 2 inner) ++ []) ++ number_field 4 id) size,
      length-append (([] ++ bytes_field 2 inner) ++ []) (number_field 4 id),
      length-append ([] ++ bytes_field 2 inner) [],
      length-append (varint_bytes 32) (varint_bytes id),
      few_bytes 10 32 0 (omega arith),
      size_field (length attachment) h,
    )

-- ## What is served

module _ (id : ℕ) (payload attachment : List ℕ) (room : length payload + length attachment ≤ body_limit) where
  -- a response whose load is no larger, to a request whose names have four bytes each
  abbrev Room : RequestMeta → Type 0
  Room r = 5 + length r.service + length r.method + length (varint_bytes id) + (length payload + length attachment) ≤ body_limit

  refused : (code : ℕ) (text : List ℕ) → length text ≤ 11 → frame_size (answered_by id (Refuses code text)) ≤ body_limit
  refused code text short = omega (arith, short, response_size id code text [] [])

  echoed : (r : RequestMeta) → Room r → 4 ≤ length r.service → frame_size (answered_by id (echo r.method payload attachment)) ≤ body_limit
  echoed r fits named = by (bytes_eq r.method (codes "Echo")) (bytes_eq r.method (codes "Reverse")) (bytes_eq-Decides r.method (codes "Echo")).0 (bytes_eq-Decides r.method (codes "Reverse")).0
    where
      by : (a b : Bool) → (a ≡ true → r.method ≡ codes "Echo") → (b ≡ true → r.method ≡ codes "Reverse") →
          frame_size (answered_by id (if a then Gives payload attachment else if b then Gives (reverse payload) [] else Refuses 1002 (codes "no method"))) ≤ body_limit
      by true b e k = omega (arith, fits, named, ap length (e refl), given_size id payload attachment (omega (arith, room)))
      by false true e k = omega (arith, fits, named, ap length (k refl), given_size id (reverse payload) [] (omega arith), length-reverse payload)
      by false false e k = refused 1002 (codes "no method") (omega arith)

  summed : (method : List ℕ) → frame_size (answered_by id (summing method payload)) ≤ body_limit
  summed method = by (bytes_eq method (codes "Bytes"))
    where
      by : (a : Bool) → frame_size (answered_by id (if a then Gives (to_be_bytes w64 (sum payload)) [] else Refuses 1002 (codes "no method"))) ≤ body_limit
      by true = omega (arith, response_size id 0 [] (to_be_bytes w64 (sum payload)) [])
      by false = refused 1002 (codes "no method") (omega arith)

  served_size : (compressed : ℤ) (r : RequestMeta) → Room r → frame_size (answered_by id (served compressed r payload attachment)) ≤ body_limit
  served_size (negsuc n) r fits = refused 1003 (codes "bad request") (omega arith)
  served_size (pos (suc n)) r fits = refused 1003 (codes "bad request") (omega arith)
  served_size (pos zero) r fits = by (bytes_eq r.service (codes "Echo")) (bytes_eq r.service (codes "Sum")) (bytes_eq-Decides r.service (codes "Echo")).0
    where
      by : (a b : Bool) → (a ≡ true → r.service ≡ codes "Echo") →
          frame_size (answered_by id (if a then echo r.method payload attachment else if b then summing r.method payload else Refuses 1001 (codes "no service"))) ≤ body_limit
      by true b e = echoed r fits (omega (arith, ap length (e refl)))
      by false true e = summed r.method
      by false false e = refused 1001 (codes "no service") (omega arith)

-- what is answered to the request of a frame with which some bytes begin
pub answer_fits : (bytes : List ℕ) (f : Frame) (n : ℕ) (compressed : ℤ) (r : RequestMeta) → judged bytes ≡ Begins f n → f.meta.request ≡ Some r →
    frame_size (answered_by f.meta.correlation_id (served compressed r f.payload f.attachment)) ≤ body_limit
answer_fits bytes f n compressed r begins there =
    let x = begun_from bytes f n begins in
    let least = request_least x.0 f.meta r x.1 there in
    served_size f.meta.correlation_id f.payload f.attachment (omega (arith, x.2)) compressed r (omega (arith, least, x.2))
