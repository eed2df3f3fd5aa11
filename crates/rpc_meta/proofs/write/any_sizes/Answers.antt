use Rattle.std.proofs.Common.{◌≡◌, ℕ, ℤ, ◌+◌, ◌^◌, ◌≤◌, List, length, option_map, refl, ◌∙◌, ap, arith, rules, w32, to_z, of_z}
use Rattle.pb_wire.specs.brpc_model.specs.Meta as meta
use Rattle.pb_wire.specs.brpc_model.specs.Spelling.{number_field, where_not_0, bytes_field, where_some, request_bytes, response_bytes, meta_bytes}
use Rattle.rpc_meta.specs.MetaMeaning.{request_of, response_of, meaning}
use Rattle.rpc_meta.specs.declared.meta.RpcMeta.{RpcMeta}
use Rattle.rpc_meta.proofs.SummedPieceLengths.{anyway, fields_within, five}
use Rattle.rpc_meta.proofs.write.any_sizes.Goals as goal

pub returns-clause-sizes : goal.returns-clause-sizes
returns-clause-sizes c =
    let m = c.args.meta.now in
    let asked : List ℕ = where_some (λ (r : meta.RequestMeta). bytes_field 1 (request_bytes r)) (option_map request_of m.request) in
    let answered : List ℕ = where_some (λ (r : meta.ResponseMeta). bytes_field 2 (response_bytes r)) (option_map response_of m.response) in
    let fits : to_z w32 (of_z w32 m.compress_type) ≡ m.compress_type = search rules in
    let size_fits : to_z w32 (of_z w32 m.attachment_size) ≡ m.attachment_size = search rules in
    record {
      all = c.in_ok-all.ensures.1
          ∙ five asked answered (where_not_0 3 m.compress_type) (number_field 4 m.correlation_id) (where_not_0 5 m.attachment_size) c.in_ok-checked_add.field-0 c.in_ok-asked.asked c.in_ok-answered.answered c.int_size.result c.number_size.result c.int_size-2.result c.in_ok-checked_add.ensures.1
          c.in_ok-asked.ensures.size c.in_ok-answered.ensures.size (c.int_size.ensures.size ∙ ap (λ (z : ℤ). length (where_not_0 3 z)) fits) c.number_size.ensures.size (c.int_size-2.ensures.size ∙ ap (λ (z : ℤ). length (where_not_0 5 z)) size_fits);
      request = c.in_ok-request.ensures.size;
      response = c.in_ok-response.ensures.size;
    }

abbrev asked : RpcMeta → List ℕ
asked m = where_some (λ (r : meta.RequestMeta). bytes_field 1 (request_bytes r)) (option_map request_of m.request)

abbrev answered : RpcMeta → List ℕ
answered m = where_some (λ (r : meta.ResponseMeta). bytes_field 2 (response_bytes r)) (option_map response_of m.response)

abbrev size : RpcMeta → ℕ
size m = length (meta_bytes (meaning m))

-- the pieces are the whole
whole : (m : RpcMeta) → length (asked m) + length (answered m) + (length (where_not_0 3 m.compress_type) + length (number_field 4 m.correlation_id) + length (where_not_0 5 m.attachment_size)) ≡ size m
whole m = five (asked m) (answered m) (where_not_0 3 m.compress_type) (number_field 4 m.correlation_id) (where_not_0 5 m.attachment_size) _ _ _ _ _ _ refl refl refl refl refl refl

pub returns-in_err-request-clause-none : goal.returns-in_err-request-clause-none
returns-in_err-request-clause-none c =
    let m = c.args.meta.now in let all = whole m in let within = fields_within 1 request_bytes (option_map request_of m.request) in
    let past = c.in_err-request.ensures.none in anyway c.from_residual.result (2 ^ 64 ≤ size m) (omega arith)

pub returns-in_err-response-clause-none : goal.returns-in_err-response-clause-none
returns-in_err-response-clause-none c =
    let m = c.args.meta.now in let all = whole m in let within = fields_within 2 response_bytes (option_map response_of m.response) in
    let past = c.in_err-response.ensures.none in anyway c.from_residual-in_err-response.result (2 ^ 64 ≤ size m) (omega arith)

pub returns-in_err-asked-clause-none : goal.returns-in_err-asked-clause-none
returns-in_err-asked-clause-none c =
    let m = c.args.meta.now in let all = whole m in
    let past = c.in_err-asked.ensures.none in anyway c.from_residual-in_err-asked.result (2 ^ 64 ≤ size m) (omega arith)

pub returns-in_err-answered-clause-none : goal.returns-in_err-answered-clause-none
returns-in_err-answered-clause-none c =
    let m = c.args.meta.now in let all = whole m in
    let past = c.in_err-answered.ensures.none in anyway c.from_residual-in_err-answered.result (2 ^ 64 ≤ size m) (omega arith)

pub returns-in_err-checked_add-clause-none : goal.returns-in_err-checked_add-clause-none
returns-in_err-checked_add-clause-none c =
    let m = c.args.meta.now in let all = whole m in
    let past = c.in_err-checked_add.ensures in anyway c.from_residual-in_err-checked_add.result (2 ^ 64 ≤ size m) (omega (arith, past, c.in_ok-asked.ensures.size, c.in_ok-answered.ensures.size))

pub returns-in_err-all-clause-none : goal.returns-in_err-all-clause-none
returns-in_err-all-clause-none c =
    let m = c.args.meta.now in let all = whole m in
    let fits : to_z w32 (of_z w32 m.compress_type) ≡ m.compress_type = search rules in
    let size_fits : to_z w32 (of_z w32 m.attachment_size) ≡ m.attachment_size = search rules in
    let third = c.int_size.ensures.size ∙ ap (λ (z : ℤ). length (where_not_0 3 z)) fits in
    let fifth = c.int_size-2.ensures.size ∙ ap (λ (z : ℤ). length (where_not_0 5 z)) size_fits in
    let past = c.in_err-all.ensures in
    anyway c.from_residual-in_err-all.result (2 ^ 64 ≤ size m) (omega (arith, past, third, fifth, c.number_size.ensures.size, c.in_ok-checked_add.ensures.1, c.in_ok-asked.ensures.size, c.in_ok-answered.ensures.size))
