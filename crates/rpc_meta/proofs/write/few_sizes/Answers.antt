use Rattle.std.proofs.Common.{◌≡◌, option_map, false, sym, ap, ◌∙◌, rules, w32, to_z, of_z}
use Rattle.std.specs.Option.{is_some}
use Rattle.rpc_meta.specs.MetaMeaning.{request_of, response_of, meaning}
use Rattle.rpc_meta.proofs.Building.{none_is}
use Rattle.rpc_meta.proofs.MetaOfFewBytes.{few_are}
use Rattle.rpc_meta.proofs.write.few_sizes.Goals as goal

pub returns : goal.returns
returns c =
    let m = c.args.meta.now in
    let r = c.in-Some.request in
    let fits : to_z w32 (of_z w32 m.compress_type) ≡ m.compress_type = search rules in
    let size_fits : to_z w32 (of_z w32 m.attachment_size) ≡ m.attachment_size = search rules in
    let alone : is_some m.response ≡ false = search rules in
    let unnamed : is_some r.log_id ≡ false = search rules in
    let plain : of_z w32 m.compress_type ≡ 0 = search rules in
    let none : of_z w32 m.attachment_size ≡ 0 = search rules in
    few_are (meaning m) (request_of r) c.in_ok-service.service c.in_ok-method.method c.varint_size.result
    (ap (option_map request_of) c.in-Some.is)
    (ap (option_map response_of) (none_is m.response alone))
    (sym fits ∙ ap (to_z w32) plain)
    (sym size_fits ∙ ap (to_z w32) none)
    (none_is r.log_id unnamed)
    c.in_ok-service.ensures.0 c.in_ok-service.ensures.1 c.in_ok-method.ensures.0 c.in_ok-method.ensures.1 c.varint_size.ensures.size
