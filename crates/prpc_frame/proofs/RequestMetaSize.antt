-- How long the meta of a request is at most.
use Rattle.std.proofs.Common.{ℕ, ◌+◌, ◌*◌, ◌/◌, ◌%◌, ◌≤◌, suc, zero, Bool, true, false, pos, List, [], ◌∷◌, ◌++◌, length, Some, None, arith, length-append}
use Rattle.std.specs.Prelude.{nat_lt, if◌then◌else◌}
use Rattle.rpc_meta.specs.brpc_model.specs.Wire.{varint_up_to, varint_bytes}
use Rattle.rpc_meta.specs.brpc_model.specs.Meta.{Meta}
use Rattle.rpc_meta.specs.brpc_model.specs.Spelling.{number_field, bytes_field, meta_bytes}

pub varint_size : (most n : ℕ) → length (varint_up_to most n) ≤ most
varint_size zero n = omega arith
varint_size (suc most) n = by (nat_lt n 128) (varint_size most (n / 128))
  where
    by : (b : Bool) → length (varint_up_to most (n / 128)) ≤ most → length (if b then n ∷ [] else (n % 128 + 128) ∷ varint_up_to most (n / 128)) ≤ suc most
    by true h = omega arith
    by false h = omega arith

pub number_size : (number n : ℕ) → length (number_field number n) ≤ 20
number_size number n = omega (arith, length-append (varint_bytes (number * 8)) (varint_bytes n), varint_size 10 (number * 8), varint_size 10 n)

pub bytes_size : (number : ℕ) (bytes : List ℕ) → length (bytes_field number bytes) ≤ 20 + length bytes
bytes_size number bytes =
    omega (
      arith,
      length-append (varint_bytes (number * 8 + 2) ++ varint_bytes (length bytes)) bytes,
      length-append (varint_bytes (number * 8 + 2)) (varint_bytes (length bytes)),
      varint_size 10 (number * 8 + 2),
      varint_size 10 (length bytes),
    )

-- the meta of a request with neither a log id, nor a compress type, nor an attachment
abbrev pub request_with : List ℕ → List ℕ → ℕ → Meta
request_with service method id = record {
  request = Some (record { service = service; method = method; log_id = None });
  response = None;
  compress_type = pos 0;
  correlation_id = id;
  attachment_size = pos 0;
}

pub request_size : (service method : List ℕ) (id : ℕ) → length (meta_bytes (request_with service method id)) ≤ 80 + length service + length method
request_size service method id =
    let inner = bytes_field 1 service ++ bytes_field 2 method in
    omega (
      arith,
      length-append (((bytes_field 1 (inner ++ []) ++ []) ++ []) ++ number_field 4 id) [],
      length-append ((bytes_field 1 (inner ++ []) ++ []) ++ []) (number_field 4 id),
      length-append (bytes_field 1 (inner ++ []) ++ []) [],
      length-append (bytes_field 1 (inner ++ [])) [],
      length-append inner [],
      length-append (bytes_field 1 service) (bytes_field 2 method),
      bytes_size 1 (inner ++ []),
      bytes_size 1 service,
      bytes_size 2 method,
      number_size 4 id,
    )
