use Rattle.sock_words.specs.PackedWords.{socket_id_slot}
use Rattle.sock_table.specs.ReferenceAnswers.{is_freed}
use Rattle.call_errors.specs.rpc_client.proofs.FindingReferences.{rest_became}
use Rattle.call_attempts.specs.ClientAtBothTables.{both}
use Rattle.call_attempts.proofs.LeftByAttempt.{refused_failed, refused_full}
use Rattle.call_attempts.proofs.call_tables.CallTables.refuse_frame.Goals as goal

pub returns-in-Failed-clause-rest : goal.returns-in-Failed-clause-rest
returns-in-Failed-clause-rest g c = rest_became c.args.self.now.tables.now.socks.rule.table.shared.table_id c.args.self.now.tables.now.socks.rule.plan (socket_id_slot c.in-Failed.sock.id.0) c.args.seat.now c.release.new.seat _ _ c.requires.idle c.release.ensures.seat c.release.ensures.slots c.release.ensures.between c.release.ensures.back.became

pub returns-in-Failed-clause-by : goal.returns-in-Failed-clause-by
returns-in-Failed-clause-by g c = refused_failed c.args.self.now.tables.now.ids.plan c.args.refused c.in-Failed.sock c.in-Failed.msg _ (both c.args.seat.now.me.0 c.args.calls.now) (both c.release.new.seat.me.0 c.post_for.new.calls) c.in-Failed.is c.post_for.ensures.posted record { ended = is_freed c.release.result; back = c.release.ensures.back }

pub returns-in-Full-clause-rest : goal.returns-in-Full-clause-rest
returns-in-Full-clause-rest g c = rest_became c.args.self.now.tables.now.socks.rule.table.shared.table_id c.args.self.now.tables.now.socks.rule.plan (socket_id_slot c.in-Full.sock.id.0) c.args.seat.now c.release-in-Full.new.seat _ _ c.requires.idle c.release-in-Full.ensures.seat c.release-in-Full.ensures.slots c.release-in-Full.ensures.between c.release-in-Full.ensures.back.became

pub returns-in-Full-clause-by : goal.returns-in-Full-clause-by
returns-in-Full-clause-by g c = refused_full c.args.self.now.tables.now.ids.plan c.args.refused c.in-Full.sock c.in-Full.msg (both c.args.seat.now.me.0 c.args.calls.now) (both c.release-in-Full.new.seat.me.0 c.post_for-in-Full.new.calls) c.in-Full.is c.post_for-in-Full.ensures.posted record { ended = is_freed c.release-in-Full.result; back = c.release-in-Full.ensures.back }
