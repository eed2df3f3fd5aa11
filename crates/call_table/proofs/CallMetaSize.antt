-- How long the meta of a call's request is at most.
use Rattle.std.proofs.Common.{ℕ, ◌+◌, ◌<◌, ◌≤◌, suc, zero, pos, negsuc, ◌-◌, ◌^◌, List, [], ◌++◌, length, Some, None, arith, length-append}
use Rattle.std.specs.Prelude.{ℤ}
use Rattle.sock_message.specs.brpc_model.specs.Spelling.{number_field, bytes_field, where_not_0, meta_bytes}
use Rattle.prpc_frame.proofs.RequestMetaSize.{number_size, bytes_size}

size_part : (number : ℕ) (n : ℤ) → length (where_not_0 number n) ≤ 20
size_part number (pos zero) = omega arith
size_part number (pos (suc n)) = number_size number (suc n)
size_part number (negsuc n) = number_size number (2 ^ 64 - suc n)

-- a request's meta, whatever it is numbered
pub short_meta : (service method : List ℕ) (correlation_id : ℕ) (attached : ℤ) → length service ≤ 64 → length method ≤ 64
    → length (meta_bytes record { request = Some (record { service = service; method = method; log_id = None }); response = None; compress_type = pos 0; correlation_id = correlation_id; attachment_size = attached }) < 512
short_meta service method correlation_id attached short_service short_method =
    let names : List ℕ = bytes_field 1 service ++ bytes_field 2 method in
    let request : List ℕ = names ++ [] in
    let head : List ℕ = bytes_field 1 request in
    omega (
      arith,
      length-append (bytes_field 1 service) (bytes_field 2 method),
      length-append names [],
      bytes_size 1 service,
      bytes_size 2 method,
      bytes_size 1 request,
      length-append head [],
      length-append (head ++ []) [],
      length-append ((head ++ []) ++ []) (number_field 4 correlation_id),
      length-append (((head ++ []) ++ []) ++ number_field 4 correlation_id) (where_not_0 5 attached),
      number_size 4 correlation_id,
      size_part 5 attached,
    )
