use Rattle.std.proofs.Common.{◌∙◌}
use Rattle.sock_words.specs.PackedWords.{socket_id_slot}
use Rattle.sock_table.proofs.QuietBetweenCalls.{between_rests, rests_between}
use Rattle.rpc_client.proofs.FindingReferences.{rest_became}
use Rattle.rpc_client.proofs.failing.fail_socket.Goals as goal

pub set_failed-requires-clause-rests : goal.set_failed-requires-clause-rests
set_failed-requires-clause-rests g c = between_rests c.args.table.now.rule.plan c.args.seat.now.me.0 c.requires.idle.between

pub returns-in-Ok-clause-rest : goal.returns-in-Ok-clause-rest
returns-in-Ok-clause-rest g c = let e = c.set_failed.ensures in
    rest_became c.args.table.now.rule.table.shared.table_id c.args.table.now.rule.plan (socket_id_slot c.args.sock.now.id.0) c.args.seat.now c.set_failed.new.seat _ _ c.requires.idle e.seat e.slots (rests_between c.args.table.now.rule.plan c.set_failed.new.seat.me.0 (e.rights ∙ c.requires.idle.between.no_rights) e.rests) c.in-Ok.ensures.ok

pub returns-in-Err-clause-rest : goal.returns-in-Err-clause-rest
returns-in-Err-clause-rest g c = let e = c.set_failed.ensures in
    rest_became c.args.table.now.rule.table.shared.table_id c.args.table.now.rule.plan (socket_id_slot c.args.sock.now.id.0) c.args.seat.now c.set_failed.new.seat _ _ c.requires.idle e.seat e.slots (rests_between c.args.table.now.rule.plan c.set_failed.new.seat.me.0 (e.rights ∙ c.requires.idle.between.no_rights) e.rests) c.in-Err.ensures.err.1
