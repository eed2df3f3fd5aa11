-- How long the meta of a request with few bytes is.
use Rattle.std.proofs.Common.{◌≡◌, ℕ, ◌+◌, ◌*◌, ◌<◌, ◌≤◌, ℤ, pos, List, [], ◌++◌, length, Option, Some, None, ap, sym, ◌∙◌, subst, arith, length-append}
use Rattle.pb_wire.specs.brpc_model.specs.Wire.{varint_bytes}
use Rattle.pb_wire.specs.brpc_model.specs.Meta as meta
use Rattle.pb_wire.specs.brpc_model.specs.Spelling.{number_field, bytes_field, request_bytes, meta_bytes}
use Rattle.rpc_meta.specs.MetaSizes.{AreSizes}
use Rattle.rpc_meta.proofs.VarintPutByBytes.{put_last}

one : (n : ℕ) → n < 128 → length (varint_bytes n) ≡ 1
one n few = sym (ap length (put_last 10 n (omega arith) few))

field : (number : ℕ) (bytes : List ℕ) → number < 15 → length bytes < 128 → length (bytes_field number bytes) ≡ 2 + length bytes
field number bytes low few =
    omega (
      arith,
      length-append (varint_bytes (number * 8 + 2) ++ varint_bytes (length bytes)) bytes,
      length-append (varint_bytes (number * 8 + 2)) (varint_bytes (length bytes)),
      one (number * 8 + 2) (omega (arith, low)),
      one (length bytes) few,
    )

-- a request without a log id, and a meta of nothing else but it and an id
abbrev names : List ℕ → List ℕ → meta.RequestMeta
names service method = record { service = service; method = method; log_id = None }

abbrev meta_of : Option meta.RequestMeta → Option meta.ResponseMeta → ℤ → ℕ → ℤ → meta.Meta
meta_of request response compress id size = record { request = request; response = response; compress_type = compress; correlation_id = id; attachment_size = size }

abbrev named : List ℕ → List ℕ → ℕ → meta.Meta
named service method id = meta_of (Some (names service method)) None (pos 0) id (pos 0)

request_size : (service method : List ℕ) → length service ≤ 31 → length method ≤ 31 → length (request_bytes (names service method)) ≡ 4 + length service + length method
request_size service method h k =
    let inner = bytes_field 1 service ++ bytes_field 2 method in
    omega (arith, length-append inner [], length-append (bytes_field 1 service) (bytes_field 2 method), field 1 service (omega arith) (omega (arith, h)), field 2 method (omega arith) (omega (arith, k)))

meta_size : (service method : List ℕ) (id : ℕ) → length service ≤ 31 → length method ≤ 31 →
    length (meta_bytes (named service method id)) ≡ 3 + (4 + length service + length method) + length (varint_bytes id)
meta_size service method id h k =
    let request = request_bytes (names service method) in
    let size = request_size service method h k in
    omega (
      arith,
      length-append (((bytes_field 1 request ++ []) ++ []) ++ number_field 4 id) [],
      length-append ((bytes_field 1 request ++ []) ++ []) (number_field 4 id),
      length-append (bytes_field 1 request ++ []) [],
      length-append (bytes_field 1 request) [],
      length-append (varint_bytes 32) (varint_bytes id),
      one 32 (omega arith),
      size,
      field 1 request (omega arith) (omega (arith, size, h, k)),
    )

-- the sizes of such a meta
pub few_are : (m : meta.Meta) (r : meta.RequestMeta) (s t v : ℕ) → m.request ≡ Some r → m.response ≡ None → m.compress_type ≡ pos 0 → m.attachment_size ≡ pos 0 → r.log_id ≡ None
    → s ≡ length r.service → s ≤ 31 → t ≡ length r.method → t ≤ 31 → v ≡ length (varint_bytes m.correlation_id)
    → AreSizes (record { all = 3 + (4 + s + t) + v; request = 4 + s + t; response = 0 }) m
few_are m r s t v is alone plain none unnamed e h f k g =
    let same : named r.service r.method m.correlation_id ≡ m = sym (is_named m r is alone plain none unnamed) in
    subst (λ (m : meta.Meta). AreSizes (record { all = 3 + (4 + s + t) + v; request = 4 + s + t; response = 0 }) m) same (record {
      all = omega (arith, meta_size r.service r.method m.correlation_id (omega (arith, e, h)) (omega (arith, f, k)), e, f, g);
      request = omega (arith, request_size r.service r.method (omega (arith, e, h)) (omega (arith, f, k)), e, f);
      response = tt;
    })
  where
    is_named : (m : meta.Meta) (r : meta.RequestMeta) → m.request ≡ Some r → m.response ≡ None → m.compress_type ≡ pos 0 → m.attachment_size ≡ pos 0 → r.log_id ≡ None → m ≡ named r.service r.method m.correlation_id
    is_named m r is alone plain none unnamed =
        ap (λ (o : Option meta.RequestMeta). meta_of o m.response m.compress_type m.correlation_id m.attachment_size) (is ∙ ap (λ (l : Option ℕ). Some (record { service = r.service; method = r.method; log_id = l })) unnamed)
        ∙ ap (λ (o : Option meta.ResponseMeta). meta_of (Some (names r.service r.method)) o m.compress_type m.correlation_id m.attachment_size) alone
        ∙ ap (λ (z : ℤ). meta_of (Some (names r.service r.method)) None z m.correlation_id m.attachment_size) plain
        ∙ ap (λ (z : ℤ). meta_of (Some (names r.service r.method)) None (pos 0) m.correlation_id z) none
