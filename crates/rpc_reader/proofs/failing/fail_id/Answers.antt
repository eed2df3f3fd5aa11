use Rattle.std.proofs.Common.{inl, ◌∙◌, ap}
use Rattle.sock_words.specs.PackedWords.{socket_id_slot}
use Rattle.rpc_client.proofs.CountedReferences.{gone_refs}
use Rattle.rpc_client.proofs.FindingReferences.{holds_still, set_refs, set_others, seen_others, seen_then, seen_became, rest_then, rest_became}
use Rattle.rpc_reader.proofs.ReaderSocket.{may_reach, came_held, came_set, came_refs}
use Rattle.rpc_reader.proofs.failing.fail_id.Goals as goal

pub add_reference-requires-clause-may : goal.add_reference-requires-clause-may
add_reference-requires-clause-may g c = may_reach c.args.table.now.rule.table.shared.table_id c.args.table.now.rule.plan c.args.seat.now c.args.id.0 c.requires.may c.requires.known

pub returns-in-Err-clause-rest : goal.returns-in-Err-clause-rest
returns-in-Err-clause-rest g c = rest_became c.args.table.now.rule.table.shared.table_id c.args.table.now.rule.plan (socket_id_slot c.args.id.0) c.args.seat.now c.add_reference.new.seat _ _ c.requires.may.idle c.add_reference.ensures.seat c.add_reference.ensures.slots c.add_reference.ensures.between c.in-Err.ensures.gone.became

pub returns-in-Err-clause-by : goal.returns-in-Err-clause-by
returns-in-Err-clause-by g c = inl (_, c.in-Err.ensures.gone)

pub returns-in-Err-clause-refs : goal.returns-in-Err-clause-refs
returns-in-Err-clause-refs g c = gone_refs c.args.id.0 _ c.args.seat.now.me.0 c.add_reference.new.seat.me.0 c.in-Err.ensures.gone

pub returns-in-Err-clause-lists : goal.returns-in-Err-clause-lists
returns-in-Err-clause-lists g c = ap (λ y. y.lists) c.in-Err.ensures.gone.became.others

pub returns-in-Err-clause-seen : goal.returns-in-Err-clause-seen
returns-in-Err-clause-seen g c = seen_became (socket_id_slot c.args.id.0) c.args.seat.now.me.0 c.add_reference.new.seat.me.0 _ _ c.in-Err.ensures.gone.became

pub fail_socket-requires-clause-idle : goal.fail_socket-requires-clause-idle
fail_socket-requires-clause-idle g c = (rest_became c.args.table.now.rule.table.shared.table_id c.args.table.now.rule.plan (socket_id_slot c.args.id.0) c.args.seat.now c.add_reference.new.seat _ _ c.requires.may.idle c.add_reference.ensures.seat c.add_reference.ensures.slots c.add_reference.ensures.between c.in-Ok.ensures.held.1).idle

pub fail_socket-requires-clause-held : goal.fail_socket-requires-clause-held
fail_socket-requires-clause-held g c = (came_held c.args.table.now.rule.table.shared.table_id c.args.table.now.rule.plan c.args.id c.in-Ok.sock c.args.seat.now c.add_reference.new.seat.me.0 c.in-Ok.ensures.held c.requires.may c.requires.known).0

pub fail_socket-requires-clause-room : goal.fail_socket-requires-clause-room
fail_socket-requires-clause-room g c = (came_held c.args.table.now.rule.table.shared.table_id c.args.table.now.rule.plan c.args.id c.in-Ok.sock c.args.seat.now c.add_reference.new.seat.me.0 c.in-Ok.ensures.held c.requires.may c.requires.known).1

pub release-requires-clause-held : goal.release-requires-clause-held
release-requires-clause-held g c = let z = c.args.table.now.rule.table.shared.table_id in let p = c.args.table.now.rule.plan in let u = c.add_reference.new.seat.me.0 in let t = c.fail_socket.new.seat.me.0 in
    holds_still p c.in-Ok.sock.id.0 u t (came_held z p c.args.id c.in-Ok.sock c.args.seat.now u c.in-Ok.ensures.held c.requires.may c.requires.known).0 (set_refs c.in-Ok.sock.id.0 c.args.code c.fail_socket.result u t c.fail_socket.ensures.by)

pub returns-in-Ok-clause-rest : goal.returns-in-Ok-clause-rest
returns-in-Ok-clause-rest g c = let z = c.args.table.now.rule.table.shared.table_id in let p = c.args.table.now.rule.plan in
    rest_then z p c.args.seat.now c.add_reference.new.seat c.release.new.seat (rest_became z p (socket_id_slot c.args.id.0) c.args.seat.now c.add_reference.new.seat _ _ c.requires.may.idle c.add_reference.ensures.seat c.add_reference.ensures.slots c.add_reference.ensures.between c.in-Ok.ensures.held.1)
    (rest_then z p c.add_reference.new.seat c.fail_socket.new.seat c.release.new.seat c.fail_socket.ensures.rest
    (rest_became z p (socket_id_slot c.in-Ok.sock.id.0) c.fail_socket.new.seat c.release.new.seat _ _ c.fail_socket.ensures.rest.idle c.release.ensures.seat c.release.ensures.slots c.release.ensures.between c.release.ensures.back.became))

pub returns-in-Ok-clause-by : goal.returns-in-Ok-clause-by
returns-in-Ok-clause-by g c = came_set c.args.table.now.rule.table.shared.table_id c.args.table.now.rule.plan c.args.id c.in-Ok.sock c.args.seat.now c.add_reference.new.seat.me.0 c.in-Ok.ensures.held c.args.code c.fail_socket.result _ c.fail_socket.new.seat.me.0 c.release.new.seat.me.0 c.in-Ok.ensures.stays c.fail_socket.ensures.by c.release.ensures.back

pub returns-in-Ok-clause-refs : goal.returns-in-Ok-clause-refs
returns-in-Ok-clause-refs g c = came_refs c.args.table.now.rule.table.shared.table_id c.args.table.now.rule.plan c.args.id c.in-Ok.sock c.args.seat.now c.add_reference.new.seat.me.0 c.in-Ok.ensures.held c.args.code c.fail_socket.result _ c.fail_socket.new.seat.me.0 c.release.new.seat.me.0 c.fail_socket.ensures.by c.release.ensures.back

pub returns-in-Ok-clause-lists : goal.returns-in-Ok-clause-lists
returns-in-Ok-clause-lists g c = ap (λ y. y.lists) c.release.ensures.back.became.others ∙ (ap (λ y. y.lists) (set_others c.in-Ok.sock.id.0 c.args.code c.fail_socket.result c.add_reference.new.seat.me.0 c.fail_socket.new.seat.me.0 c.fail_socket.ensures.by) ∙ ap (λ y. y.lists) c.in-Ok.ensures.held.1.others)

pub returns-in-Ok-clause-seen : goal.returns-in-Ok-clause-seen
returns-in-Ok-clause-seen g c = seen_then c.args.seat.now.me.0 c.add_reference.new.seat.me.0 c.release.new.seat.me.0 (seen_became (socket_id_slot c.args.id.0) c.args.seat.now.me.0 c.add_reference.new.seat.me.0 _ _ c.in-Ok.ensures.held.1)
    (seen_then c.add_reference.new.seat.me.0 c.fail_socket.new.seat.me.0 c.release.new.seat.me.0
    (seen_others c.add_reference.new.seat.me.0 c.fail_socket.new.seat.me.0 (set_others c.in-Ok.sock.id.0 c.args.code c.fail_socket.result c.add_reference.new.seat.me.0 c.fail_socket.new.seat.me.0 c.fail_socket.ensures.by))
    (seen_became (socket_id_slot c.in-Ok.sock.id.0) c.fail_socket.new.seat.me.0 c.release.new.seat.me.0 _ _ c.release.ensures.back.became))
