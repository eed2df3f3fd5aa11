use Rattle.std.proofs.lemmas.Result.{err_from_is_err_and}
use Rattle.std.proofs.Common.{◌++◌}
use Rattle.pb_wire.specs.brpc_model.specs.Spelling.{bytes_field}
use Rattle.rpc_meta.proofs.Appending.{kept, joined}
use Rattle.rpc_meta.proofs.fields.RequestMetaMetaPart.append_fields.Goals as goal

pub returns-in_err-append_bytes-2-clause-written : goal.returns-in_err-append_bytes-2-clause-written
returns-in_err-append_bytes-2-clause-written c =
    let p = err_from_is_err_and c.from_residual-in_err-append_bytes-2.result c.from_residual-in_err-append_bytes-2.ensures.1 in
    rw p.1 (kept c.args.out.now.items c.append_bytes.new.out.items c.append_bytes-2.new.out.items (bytes_field 1 c.as_slice.result.now) c.in_ok-append_bytes.ensures c.in_err-append_bytes-2.ensures)

pub returns-in_err-append_number-clause-written : goal.returns-in_err-append_number-clause-written
returns-in_err-append_number-clause-written c =
    let p = err_from_is_err_and c.from_residual-in_err-append_number.result c.from_residual-in_err-append_number.ensures.1 in
    let service = bytes_field 1 c.as_slice.result.now in
    let method = bytes_field 2 c.as_slice-2.result.now in
    let two = joined c.args.out.now.items c.append_bytes.new.out.items c.append_bytes-2.new.out.items service method c.in_ok-append_bytes.ensures c.in_ok-append_bytes-2.ensures in
    rw p.1 (kept c.args.out.now.items c.append_bytes-2.new.out.items c.append_number.new.out.items (service ++ method) two c.in_err-append_number.ensures)
