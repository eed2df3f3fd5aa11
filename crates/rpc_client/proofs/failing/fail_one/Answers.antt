use Rattle.std.proofs.Common.{◌∙◌, ap}
use Rattle.sock_words.specs.PackedWords.{socket_id_slot}
use Rattle.rpc_client.proofs.CountedReferences.{given, then_more}
use Rattle.rpc_client.proofs.FindingReferences.{has_one, here_inside, holds_still, set_refs, set_others, seen_others, seen_then, seen_became, tried_failed, rest_then, rest_became}
use Rattle.rpc_client.proofs.failing.fail_one.Goals as goal

pub fail_socket-outcome-requires-clause-held : goal.fail_socket-outcome-requires-clause-held
fail_socket-outcome-requires-clause-held g c = let z = c.args.table.now.rule.table.shared.table_id in let p = c.args.table.now.rule.plan in (has_one z p c.in-Here.sock.id.0 c.args.seat.now c.find_socket.new.seat.me.0 c.requires.may (here_inside p c.args.name c.in-Here.sock c.args.seat.now.me.0 c.find_socket.new.seat.me.0 c.in-Here.ensures.reached) c.in-Here.ensures.refs).0

pub fail_socket-outcome-requires-clause-room : goal.fail_socket-outcome-requires-clause-room
fail_socket-outcome-requires-clause-room g c = let z = c.args.table.now.rule.table.shared.table_id in let p = c.args.table.now.rule.plan in (has_one z p c.in-Here.sock.id.0 c.args.seat.now c.find_socket.new.seat.me.0 c.requires.may (here_inside p c.args.name c.in-Here.sock c.args.seat.now.me.0 c.find_socket.new.seat.me.0 c.in-Here.ensures.reached) c.in-Here.ensures.refs).1

pub release-requires-clause-held : goal.release-requires-clause-held
release-requires-clause-held g c = let p = c.args.table.now.rule.plan in holds_still p c.in-Here.sock.id.0 c.find_socket.new.seat.me.0 c.fail_socket-outcome.new.seat.me.0 (has_one c.args.table.now.rule.table.shared.table_id p c.in-Here.sock.id.0 c.args.seat.now c.find_socket.new.seat.me.0 c.requires.may (here_inside p c.args.name c.in-Here.sock c.args.seat.now.me.0 c.find_socket.new.seat.me.0 c.in-Here.ensures.reached) c.in-Here.ensures.refs).0 (set_refs c.in-Here.sock.id.0 c.args.code c.fail_socket-outcome.result c.find_socket.new.seat.me.0 c.fail_socket-outcome.new.seat.me.0 c.fail_socket-outcome.ensures.by)

pub returns-in-Here-clause-rest : goal.returns-in-Here-clause-rest
returns-in-Here-clause-rest g c = let z = c.args.table.now.rule.table.shared.table_id in let p = c.args.table.now.rule.plan in
    rest_then z p c.args.seat.now c.find_socket.new.seat c.release.new.seat c.in-Here.ensures.rest (rest_then z p c.find_socket.new.seat c.fail_socket-outcome.new.seat c.release.new.seat c.fail_socket-outcome.ensures.rest
    (rest_became z p (socket_id_slot c.in-Here.sock.id.0) c.fail_socket-outcome.new.seat c.release.new.seat _ _ c.fail_socket-outcome.ensures.rest.idle c.release.ensures.seat c.release.ensures.slots c.release.ensures.between c.release.ensures.back.became))

pub returns-in-Here-clause-by : goal.returns-in-Here-clause-by
returns-in-Here-clause-by g c = let p = c.args.table.now.rule.plan in tried_failed p c.args.name c.args.code c.fail_socket-outcome.result c.in-Here.sock _ c.args.seat.now.me.0 c.find_socket.new.seat.me.0 c.fail_socket-outcome.new.seat.me.0 c.release.new.seat.me.0 c.in-Here.ensures.reached c.fail_socket-outcome.ensures.by c.release.ensures.back

pub returns-in-Here-clause-refs : goal.returns-in-Here-clause-refs
returns-in-Here-clause-refs g c = given c.in-Here.sock.id.0 c.args.seat.now.me.0 c.fail_socket-outcome.new.seat.me.0 c.release.new.seat.me.0 _ (then_more c.in-Here.sock.id.0 c.args.seat.now.me.0 c.find_socket.new.seat.me.0 c.fail_socket-outcome.new.seat.me.0 c.in-Here.ensures.refs (set_refs c.in-Here.sock.id.0 c.args.code c.fail_socket-outcome.result c.find_socket.new.seat.me.0 c.fail_socket-outcome.new.seat.me.0 c.fail_socket-outcome.ensures.by)) c.release.ensures.back

pub returns-in-Here-clause-lists : goal.returns-in-Here-clause-lists
returns-in-Here-clause-lists g c = ap (λ y. y.lists) c.release.ensures.back.became.others ∙ (ap (λ y. y.lists) (set_others c.in-Here.sock.id.0 c.args.code c.fail_socket-outcome.result c.find_socket.new.seat.me.0 c.fail_socket-outcome.new.seat.me.0 c.fail_socket-outcome.ensures.by) ∙ c.in-Here.ensures.lists)

pub returns-in-Here-clause-seen : goal.returns-in-Here-clause-seen
returns-in-Here-clause-seen g c = seen_then c.args.seat.now.me.0 c.find_socket.new.seat.me.0 c.release.new.seat.me.0 c.in-Here.ensures.seen (seen_then c.find_socket.new.seat.me.0 c.fail_socket-outcome.new.seat.me.0 c.release.new.seat.me.0
    (seen_others c.find_socket.new.seat.me.0 c.fail_socket-outcome.new.seat.me.0 (set_others c.in-Here.sock.id.0 c.args.code c.fail_socket-outcome.result c.find_socket.new.seat.me.0 c.fail_socket-outcome.new.seat.me.0 c.fail_socket-outcome.ensures.by))
    (seen_became (socket_id_slot c.in-Here.sock.id.0) c.fail_socket-outcome.new.seat.me.0 c.release.new.seat.me.0 _ _ c.release.ensures.back.became))
