use Rattle.std.proofs.Common.{◌∙◌, ap, sym, subst}
use Rattle.sock_words.specs.PackedWords.{socket_id_version, socket_id_slot}
use Rattle.sock_model.specs.declared.marks.Mark.TheVariants.{Hold}
use Rattle.sock_table.specs.ReferenceCalls.{GaveBack}
use Rattle.sock_table.specs.ReferenceAnswers.{Holds, is_freed}
use Rattle.sock_table.specs.declared.refs.SockRef.{SockRef}
use Rattle.call_errors.specs.ClientBooks.{stand_of}
use Rattle.call_writes.proofs.Drains.{drained_all}
use Rattle.call_writes.proofs.shared_tables.SharedTables.see_through.Goals as goal
use Rattle.write_chain.specs.ReadyToSend.{sock_of}

pub release-requires-clause-held : goal.release-requires-clause-held
release-requires-clause-held g c = let gave = c.write_if-sock.ensures.gave in subst (λ (y : SockRef). Holds c.args.self.now.socks.now.rule.plan c.write_if-sock.new.seat.me.0 y.id.0) (sym gave.0) gave.1.holds

pub release-requires-clause-between : goal.release-requires-clause-between
release-requires-clause-between g c = c.write_if-sock.ensures.gave.1.between

pub returns-clause-idle : goal.returns-clause-idle
returns-clause-idle g c = let wrote = drained_all c.args.self.now.socks.now.rule.plan c.args.self.now.ids.now.plan.slots (sock_of c.args.started).id.0 c.args.seat.now.me.0 c.write_if-sock.new.seat.me.0 (stand_of c.args.calls.now) (stand_of c.write_if-sock.new.calls) c.write_if-sock.ensures.drained in record {
  seat = c.release.ensures.seat;
  slots = c.release.ensures.slots ∙ c.write_if-sock.ensures.gave.1.slots;
  between = c.release.ensures.between;
  claims = ap (λ y. y.claims) c.release.ensures.back.became.others ∙ (ap (λ y. y.claims) wrote.became.others ∙ c.requires.claims.0);
  loose = ap (λ y. y.loose) c.release.ensures.back.became.others ∙ (ap (λ y. y.loose) wrote.became.others ∙ c.requires.claims.1);
}

pub returns-clause-by : goal.returns-clause-by
returns-clause-by g c = record {
  wrote = c.write_if-sock.new.seat.me.0;
  drained = c.write_if-sock.ensures.drained;
  returned = record { ended = is_freed c.release.result; back = subst (λ (y : SockRef). GaveBack (socket_id_slot y.id.0) c.write_if-sock.new.seat.me.0 c.release.new.seat.me.0 (Hold (socket_id_version y.id.0)) (is_freed c.release.result)) c.write_if-sock.ensures.gave.0 c.release.ensures.back };
}
