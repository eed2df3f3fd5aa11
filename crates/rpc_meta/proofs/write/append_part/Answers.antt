use Rattle.std.proofs.Common.{◌<◌, ◌^◌, length, arith}
use Rattle.rpc_meta.proofs.Appending.{headed_by}
use Rattle.rpc_meta.proofs.write.append_part.Goals as goal

pub returns-clause-written : goal.returns-clause-written
returns-clause-written g c =
    let p = g.P.MetaPart in
    let few : length c.append_fields.new.out.items < 2 ^ 64 = omega (arith, c.append_fields.new.out.ok, c.append_fields.new.out.small) in
    rw c.in-Some.is (headed_by c.args.number c.unwrap_or-size.result _ c.args.out.now.items c.append_head.new.out.items c.append_fields.new.out.items (p.bytes (p.said c.in-Some.part)) c.append_fields.result
    c.fields_size.result c.fields_size.ensures.size c.fields_size.ensures.none c.unwrap_or-size.ensures c.in_ok-append_head.ensures c.append_fields.ensures.written few)
