-- How many bytes a frame of a call has at most.
use Rattle.std.proofs.Common.{ℕ, zero, suc, ◌+◌, ◌*◌, ◌/◌, ◌%◌, ◌≤◌, Bool, true, false, nat_lt, cond, List, [], ◌∷◌, ◌++◌, length, length-append, refl, ap, ◌≡◌, arith, Some, None}
use Rattle.std.specs.Prelude.{pos}
use Rattle.std.specs.Int.{w32, to_be_bytes}
use Rattle.brpc_model.specs.Wire.{varint_up_to, varint_bytes}
use Rattle.brpc_model.specs.Spelling.{number_field, bytes_field, request_bytes, where_not_0, meta_bytes}
use Rattle.brpc_model.specs.Frame.{magic, framed}
use Rattle.seat_programs.specs.sock_message.specs.Asked.{Asked, meta_of, frame_of}

pub varint_short : (most n : ℕ) → length (varint_up_to most n) ≤ most
varint_short zero n = omega arith
varint_short (suc most) n = by_size (nat_lt n 128) (varint_short most (n / 128))
  where
    by_size : (b : Bool) → length (varint_up_to most (n / 128)) ≤ most → length (cond b (n ∷ []) ((n % 128 + 128) ∷ varint_up_to most (n / 128))) ≤ suc most
    by_size true few = omega arith
    by_size false few = omega (arith, few)

pub number_short : (number n : ℕ) → length (number_field number n) ≤ 20
number_short number n = omega (arith, length-append (varint_bytes (number * 8)) (varint_bytes n), varint_short 10 (number * 8), varint_short 10 n)

pub bytes_short : (number : ℕ) (bytes : List ℕ) → length (bytes_field number bytes) ≤ 20 + length bytes
bytes_short number bytes = let a : List ℕ = varint_bytes (number * 8 + 2) in let b : List ℕ = varint_bytes (length bytes) in
    omega (arith, length-append (varint_bytes (number * 8 + 2) ++ varint_bytes (length bytes)) bytes, length-append (varint_bytes (number * 8 + 2)) (varint_bytes (length bytes)), varint_short 10 (number * 8 + 2), varint_short 10 (length bytes))

pub size_short : (n : ℕ) → length (where_not_0 5 (pos n)) ≤ 20
size_short zero = omega arith
size_short (suc n) = number_short 5 (suc n)

-- the parts of a meta, one after another
parts_short : (a b c : List ℕ) (x y z : ℕ) → length a ≤ x → length b ≤ y → length c ≤ z → length (a ++ b ++ c) ≤ x + y + z
parts_short a b c x y z p q r = omega (arith, length-append (a ++ b) c, length-append a b, p, q, r)

nothing_short : (a b : List ℕ) (x : ℕ) → length a ≤ x → b ≡ [] → length (a ++ b) ≤ x
nothing_short a b x p none_ = omega (arith, length-append a b, p, ap length none_)

pub request_short : (service method : List ℕ) → length service ≤ 64 → length method ≤ 64 → length (request_bytes (record { service = service; method = method; log_id = None })) ≤ 168
request_short service method s m = let a = bytes_short 1 service in let b = bytes_short 2 method in
    omega (arith, s, m, parts_short (bytes_field 1 service) (bytes_field 2 method) [] (20 + length service) (20 + length method) 0 a b (omega arith))

pub meta_short : (service method : List ℕ) (id size : ℕ) → length service ≤ 64 → length method ≤ 64
    → length (meta_bytes (record { request = Some (record { service = service; method = method; log_id = None }); response = None; compress_type = pos 0; correlation_id = id; attachment_size = pos size })) ≤ 228
meta_short service method id size s m = let r : List ℕ = request_bytes (record { service = service; method = method; log_id = None }) in
    let a = bytes_short 1 (request_bytes (record { service = service; method = method; log_id = None })) in
    parts_short (bytes_field 1 r ++ [] ++ []) (number_field 4 id) (where_not_0 5 (pos size)) 188 20 20 (nothing_short (bytes_field 1 r ++ []) [] 188 (nothing_short (bytes_field 1 r) [] 188 (omega (arith, a, request_short service method s m)) refl) refl) (number_short 4 id) (size_short size)

framed_short : (meta payload attachment : List ℕ) → length meta ≤ 228 → length payload + length attachment ≤ 65280 → length (framed meta payload attachment) ≤ 65520
framed_short meta payload attachment m b = sums (to_be_bytes w32 (length meta + length payload + length attachment)) (to_be_bytes w32 (length meta)) refl refl
  where
    sums : (x y : List ℕ) → length x ≡ 4 → length y ≡ 4 → length (magic ++ x ++ y ++ meta ++ payload ++ attachment) ≤ 65520
    sums x y p q = omega (arith, m, b, p, q, length-append (magic ++ x ++ y ++ meta ++ payload) attachment, length-append (magic ++ x ++ y ++ meta) payload, length-append (magic ++ x ++ y) meta, length-append (magic ++ x) y, length-append magic x)

-- whatever the attempt is
pub frame_short : (asked : Asked) → length asked.service ≤ 64 → length asked.method ≤ 64 → length asked.payload + length asked.attachment ≤ 65280 → (id n : ℕ) → length (frame_of asked id n) ≤ 131072
frame_short asked s m b id n = up (length (frame_of asked id n)) (framed_short (meta_bytes (meta_of asked id n)) asked.payload asked.attachment (meta_short asked.service asked.method (id + n + 1) (length asked.attachment) s m) b)
  where
    up : (k : ℕ) → k ≤ 65520 → k ≤ 131072
    up k le = omega (arith, le)
