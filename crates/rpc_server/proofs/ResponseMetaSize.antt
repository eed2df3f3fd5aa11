-- How long the meta of a response is at most.
use Rattle.std.proofs.Common.{ℕ, ◌+◌, ◌≤◌, zero, suc, List, [], ◌∷◌, ◌++◌, length, pos, arith, length-append}
use Rattle.brpc_model.specs.Spelling.{number_field, bytes_field, where_not_0, where_not_empty, meta_bytes}
use Rattle.brpc_model.specs.Reply.{response_with}
use Rattle.prpc_frame.proofs.RequestMetaSize.{number_size, bytes_size}

not_0_size : (number n : ℕ) → length (where_not_0 number (pos n)) ≤ 20
not_0_size number zero = omega arith
not_0_size number (suc n) = number_size number (suc n)

text_size : (number : ℕ) (text : List ℕ) → length (where_not_empty number text) ≤ 20 + length text
text_size number [] = omega arith
text_size number (b ∷ text) = bytes_size number (b ∷ text)

pub response_size : (id code : ℕ) (text payload attachment : List ℕ) → length (meta_bytes (response_with id code text payload attachment).meta) ≤ 100 + length text
response_size id code text payload attachment =
    let inner = number_field 1 code ++ where_not_empty 2 text in
    let size = where_not_0 5 (pos (length attachment)) in
    omega (
      arith,
      length-append ((([] ++ bytes_field 2 inner) ++ []) ++ number_field 4 id) size,
      length-append (([] ++ bytes_field 2 inner) ++ []) (number_field 4 id),
      length-append ([] ++ bytes_field 2 inner) [],
      length-append (number_field 1 code) (where_not_empty 2 text),
      bytes_size 2 inner,
      number_size 1 code,
      text_size 2 text,
      number_size 4 id,
      not_0_size 5 (length attachment),
    )
