use Rattle.std.proofs.Common.{◌≡◌, ℕ, ℤ, List, ◌++◌, option_map, ap, subst, ◌∙◌, rules, w32, to_z, of_z}
use Rattle.std.proofs.lemmas.Result.{err_from_is_err_and}
use Rattle.pb_wire.specs.brpc_model.specs.Spelling.{number_field, where_not_0, bytes_field, where_some, request_bytes, response_bytes}
use Rattle.pb_wire.specs.brpc_model.specs.Meta as meta
use Rattle.rpc_meta.specs.MetaMeaning.{request_of, response_of}
use Rattle.rpc_meta.specs.declared.meta.RpcMeta.{RpcMeta}
use Rattle.rpc_meta.specs.MetaWriting.{Appends}
use Rattle.rpc_meta.proofs.Appending.{kept, behind, joined}
use Rattle.rpc_meta.proofs.write.append_meta.Goals as goal

abbrev asked : RpcMeta → List ℕ
asked m = where_some (λ (r : meta.RequestMeta). bytes_field 1 (request_bytes r)) (option_map request_of m.request)

abbrev answered : RpcMeta → List ℕ
answered m = where_some (λ (r : meta.ResponseMeta). bytes_field 2 (response_bytes r)) (option_map response_of m.response)

pub returns-in_err-append_part-2-clause-written : goal.returns-in_err-append_part-2-clause-written
returns-in_err-append_part-2-clause-written c =
    let p = err_from_is_err_and c.from_residual-in_err-append_part-2.result c.from_residual-in_err-append_part-2.ensures.1 in
    rw p.1 (kept c.args.out.now.items c.append_part.new.out.items c.append_part-2.new.out.items (asked c.args.meta.now) c.in_ok-append_part.ensures.written c.in_err-append_part-2.ensures.written)

pub returns-in_err-append_int-clause-written : goal.returns-in_err-append_int-clause-written
returns-in_err-append_int-clause-written c =
    let p = err_from_is_err_and c.from_residual-in_err-append_int.result c.from_residual-in_err-append_int.ensures.1 in
    let two = joined c.args.out.now.items c.append_part.new.out.items c.append_part-2.new.out.items (asked c.args.meta.now) (answered c.args.meta.now) c.in_ok-append_part.ensures.written c.in_ok-append_part-2.ensures.written in
    rw p.1 (kept c.args.out.now.items c.append_part-2.new.out.items c.append_int.new.out.items (asked c.args.meta.now ++ answered c.args.meta.now) two c.in_err-append_int.ensures)

pub returns-in_err-append_number-clause-written : goal.returns-in_err-append_number-clause-written
returns-in_err-append_number-clause-written c =
    let p = err_from_is_err_and c.from_residual-in_err-append_number.result c.from_residual-in_err-append_number.ensures.1 in
    let m = c.args.meta.now in
    let two = joined c.args.out.now.items c.append_part.new.out.items c.append_part-2.new.out.items (asked m) (answered m) c.in_ok-append_part.ensures.written c.in_ok-append_part-2.ensures.written in
    let fits : to_z w32 (of_z w32 m.compress_type) ≡ m.compress_type = search rules in
    let three = joined c.args.out.now.items c.append_part-2.new.out.items c.append_int.new.out.items (asked m ++ answered m) (where_not_0 3 m.compress_type) two (c.in_ok-append_int.ensures ∙ ap (λ (z : ℤ). c.append_part-2.new.out.items ++ where_not_0 3 z) fits) in
    rw p.1 (kept c.args.out.now.items c.append_int.new.out.items c.append_number.new.out.items (asked m ++ answered m ++ where_not_0 3 m.compress_type) three c.in_err-append_number.ensures)

pub returns-clause-written : goal.returns-clause-written
returns-clause-written c =
    let m = c.args.meta.now in
    let two = joined c.args.out.now.items c.append_part.new.out.items c.append_part-2.new.out.items (asked m) (answered m) c.in_ok-append_part.ensures.written c.in_ok-append_part-2.ensures.written in
    let fits : to_z w32 (of_z w32 m.compress_type) ≡ m.compress_type = search rules in
    let three = joined c.args.out.now.items c.append_part-2.new.out.items c.append_int.new.out.items (asked m ++ answered m) (where_not_0 3 m.compress_type) two (c.in_ok-append_int.ensures ∙ ap (λ (z : ℤ). c.append_part-2.new.out.items ++ where_not_0 3 z) fits) in
    let four = joined c.args.out.now.items c.append_int.new.out.items c.append_number.new.out.items (asked m ++ answered m ++ where_not_0 3 m.compress_type) (number_field 4 m.correlation_id) three c.in_ok-append_number.ensures in
    let size_fits : to_z w32 (of_z w32 m.attachment_size) ≡ m.attachment_size = search rules in
    let P : ℤ → Type 0 = λ z. Appends c.append_number.new.out.items (where_not_0 5 z) c.append_int-2.result c.append_int-2.new.out.items in
    behind c.args.out.now.items c.append_number.new.out.items c.append_int-2.new.out.items (asked m ++ answered m ++ where_not_0 3 m.compress_type ++ number_field 4 m.correlation_id) (where_not_0 5 m.attachment_size) c.append_int-2.result four (subst P size_fits c.append_int-2.ensures)
