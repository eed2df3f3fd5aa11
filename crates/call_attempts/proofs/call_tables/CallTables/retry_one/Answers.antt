use Rattle.std.proofs.Common.{◌≡◌, ℕ, ◌+◌, ◌*◌, sym, refl, subst, arith}
use Rattle.sock_words.specs.declared.plain.Label.{Label}
use Rattle.sock_rule.specs.declared.homes.Letter.{Letter}
use Rattle.corr_core.specs.IdSlotWord.{parts}
use Rattle.corr_id.proofs.TestingOneLock.{sits_on, did_free, quiet_free}
use Rattle.corr_id.specs.declared.calls.IdLock.{IdLock}
use Rattle.sock_message.specs.Asked.{Asked, name_of}
use Rattle.sock_model.specs.MessageLabels.{attempt_label}
use Rattle.call_errors.proofs.KeepingThroughErrors.{stays_then}
use Rattle.call_attempts.specs.ClientAtBothTables.{both, IsCallId}
use Rattle.call_attempts.specs.WaitingRetries.{WentTo, had_ended, overtaken, went_again}
use Rattle.call_attempts.proofs.LockingIds.{id_short, version_low, locked_but, let_go_free, next_locks, next_but}
use Rattle.call_attempts.proofs.LeftByAttempt.{own_after, keeps_leaves, none_keeps, not_ok, both_err, rested_still}
use Rattle.call_attempts.proofs.Framing.{letter_is}
use Rattle.call_attempts.proofs.call_tables.CallTables.retry_one.Goals as goal
use Rattle.sock_words.specs.PackedWords.{id_first}

pub new-requires : goal.new-requires
new-requires g c = id_short c.args.retry.id c.args.retry.attempt (omega (arith, c.in-Ok.ensures.inside, c.in-Ok.ensures.locked.0)) (omega arith)

pub end_call-requires-clause-seat : goal.end_call-requires-clause-seat
end_call-requires-clause-seat g c = sits_on c.args.self.now.tables.now.ids.table.shared.table_id c.args.calls.now.seat c.lock.new.seat c.lock.ensures.seat c.in-Ok.ensures.locked.1.1.did.share c.requires.ids.0

pub end_call-requires-clause-lock : goal.end_call-requires-clause-lock
end_call-requires-clause-lock g c = (c.in-Ok.ensures.inside, c.in-Ok.ensures.locked.1.1.locks)

pub unlock-requires-clause-seat : goal.unlock-requires-clause-seat
unlock-requires-clause-seat g c = sits_on c.args.self.now.tables.now.ids.table.shared.table_id c.args.calls.now.seat c.lock.new.seat c.lock.ensures.seat c.in-Ok.ensures.locked.1.1.did.share c.requires.ids.0

pub unlock-requires-clause-lock : goal.unlock-requires-clause-lock
unlock-requires-clause-lock g c = (c.in-Ok.ensures.inside, c.in-Ok.ensures.locked.1.1.locks)

pub handle-requires-clause-seat : goal.handle-requires-clause-seat
handle-requires-clause-seat g c = sits_on c.args.self.now.tables.now.ids.table.shared.table_id c.lock.new.seat c.unlock.new.seat c.unlock.ensures.seat c.in-Next.ensures.unlocked.3.share (sits_on c.args.self.now.tables.now.ids.table.shared.table_id c.args.calls.now.seat c.lock.new.seat c.lock.ensures.seat c.in-Ok.ensures.locked.1.1.did.share c.requires.ids.0)

pub handle-requires-clause-lock : goal.handle-requires-clause-lock
handle-requires-clause-lock g c = let u = c.in-Next.ensures.unlocked in next_locks c.args.self.now.tables.now.ids.plan.slots c.in-Ok.lock.slot c.in-Next.next c.in-Ok.lock.content c.unlock.new.seat.me.0 c.in-Ok.ensures.inside u.0 u.1 u.2

pub returns-in_default-clause-by : goal.returns-in_default-clause-by
returns-in_default-clause-by g c = let e = not_ok c.lock.result _ c.in_default.not-Ok (both_err c.lock.result _ _ c.lock.ensures.gone (both_err c.lock.result _ _ c.lock.ensures.advanced c.lock.ensures.gone_now)) in had_ended record { gone = record { quiet = e.1.0.0; found = e.0.found; cause = e.1.0.1; now = e.1.1.1; later = e.1.1.0 }; books = refl; socks = refl }

pub returns-in_default-clause-rested : goal.returns-in_default-clause-rested
returns-in_default-clause-rested g c = let z = c.args.self.now.tables.now.socks.rule.table.shared.table_id in let p = c.args.self.now.tables.now.socks.rule.plan in let y = c.args.self.now.tables.now.ids.table.shared.table_id in
    rested_still z p y c.args.seat.now c.args.calls.now (record c.args.calls.now { seat = c.lock.new.seat }) c.requires.may record { stays = c.lock.ensures.seat; ids = (sits_on y c.args.calls.now.seat c.lock.new.seat c.lock.ensures.seat (not_ok c.lock.result _ c.in_default.not-Ok c.lock.ensures.gone).1.0.share c.requires.ids.0, quiet_free c.args.calls.now.seat.me.0 c.lock.new.seat.me.0 (not_ok c.lock.result _ c.in_default.not-Ok c.lock.ensures.gone).1.0 c.requires.ids.1) }

pub returns-in_default-clause-own : goal.returns-in_default-clause-own
returns-in_default-clause-own g c = own_after c.args.seat.now.me.0 c.args.seat.now.me.0 (keeps_leaves c.args.seat.now.me.0 c.args.seat.now.me.0 (none_keeps c.args.seat.now.me.0))

pub returns-in_default-new-clause-gave_up : goal.returns-in_default-new-clause-gave_up
returns-in_default-new-clause-gave_up g c = record { lock = c.in-Ok.lock; at = (both c.args.seat.now.me.0 (record c.args.calls.now { seat = c.lock.new.seat })); locked = record { got = record { slot_is = c.in-Ok.ensures.locked.0; inside = c.in-Ok.ensures.inside; from_first = c.in-Ok.ensures.of_range.0; to_last = c.in-Ok.ensures.of_range.1; word = c.in-Ok.ensures.locked.1.0; got = c.in-Ok.ensures.locked.1.1; now = c.in-Ok.ensures.found_now }; books = refl; socks = refl }; ended = c.end_call.ensures.ended; socks = refl }

pub returns-in_default-new-clause-rested : goal.returns-in_default-new-clause-rested
returns-in_default-new-clause-rested g c = let z = c.args.self.now.tables.now.socks.rule.table.shared.table_id in let p = c.args.self.now.tables.now.socks.rule.plan in let y = c.args.self.now.tables.now.ids.table.shared.table_id in
    rested_still z p y c.args.seat.now c.args.calls.now c.end_call.new.calls c.requires.may record { stays = stays_then c.args.calls.now.seat c.lock.new.seat c.end_call.new.calls.seat c.lock.ensures.seat c.end_call.ensures.seat; ids = (c.end_call.ensures.sits, let_go_free c.in-Ok.lock.slot c.lock.new.seat.me.0 c.end_call.new.calls.seat.me.0 c.end_call.ensures.let_go (locked_but c.in-Ok.lock.slot c.in-Ok.ensures.locked.1.0 _ c.in-Ok.lock.content c.args.calls.now.seat.me.0 c.lock.new.seat.me.0 c.in-Ok.ensures.locked.1.1 c.requires.ids.1)) }

pub returns-in_default-new-clause-own : goal.returns-in_default-new-clause-own
returns-in_default-new-clause-own g c = own_after c.args.seat.now.me.0 c.args.seat.now.me.0 (keeps_leaves c.args.seat.now.me.0 c.args.seat.now.me.0 (none_keeps c.args.seat.now.me.0))

pub returns-in-Next-clause-by : goal.returns-in-Next-clause-by
returns-in-Next-clause-by g c = overtaken c.in-Ok.lock (both c.args.seat.now.me.0 (record c.args.calls.now { seat = c.lock.new.seat })) record { got = record { slot_is = c.in-Ok.ensures.locked.0; inside = c.in-Ok.ensures.inside; from_first = c.in-Ok.ensures.of_range.0; to_last = c.in-Ok.ensures.of_range.1; word = c.in-Ok.ensures.locked.1.0; got = c.in-Ok.ensures.locked.1.1; now = c.in-Ok.ensures.found_now }; books = refl; socks = refl } record { next = c.in-Next.next; code = c.in-Next.code; attempt = c.in-Next.attempt; view = c.unlock.new.seat.me.0; unlocked = c.in-Next.ensures.unlocked; decided = c.handle.ensures.decided; socks = refl }

pub returns-in-Next-clause-rested : goal.returns-in-Next-clause-rested
returns-in-Next-clause-rested g c = let z = c.args.self.now.tables.now.socks.rule.table.shared.table_id in let p = c.args.self.now.tables.now.socks.rule.plan in let y = c.args.self.now.tables.now.ids.table.shared.table_id in
    rested_still z p y c.args.seat.now c.args.calls.now c.handle.new.calls c.requires.may record { stays = stays_then c.args.calls.now.seat c.unlock.new.seat c.handle.new.calls.seat (stays_then c.args.calls.now.seat c.lock.new.seat c.unlock.new.seat c.lock.ensures.seat c.unlock.ensures.seat) c.handle.ensures.seat; ids = (c.handle.ensures.sits, let_go_free c.in-Next.next.slot c.unlock.new.seat.me.0 c.handle.new.calls.seat.me.0 c.handle.ensures.let_go (next_but c.in-Ok.lock.slot c.in-Next.next c.in-Ok.lock.content (parts c.in-Ok.lock.word.0) c.lock.new.seat.me.0 c.unlock.new.seat.me.0 c.in-Next.ensures.unlocked.0 c.in-Next.ensures.unlocked.3 (locked_but c.in-Ok.lock.slot c.in-Ok.ensures.locked.1.0 _ c.in-Ok.lock.content c.args.calls.now.seat.me.0 c.lock.new.seat.me.0 c.in-Ok.ensures.locked.1.1 c.requires.ids.1))) }

pub returns-in-Next-clause-own : goal.returns-in-Next-clause-own
returns-in-Next-clause-own g c = own_after c.args.seat.now.me.0 c.args.seat.now.me.0 (keeps_leaves c.args.seat.now.me.0 c.args.seat.now.me.0 (none_keeps c.args.seat.now.me.0))

pub returns-in-Open-clause-rested : goal.returns-in-Open-clause-rested
returns-in-Open-clause-rested g c = let e = c.go_to.ensures.rested in record { rest = e.rest; refs = e.refs; seen = e.seen; keeps = record { stays = stays_then c.args.calls.now.seat c.unlock.new.seat c.go_to.new.calls.seat (stays_then c.args.calls.now.seat c.lock.new.seat c.unlock.new.seat c.lock.ensures.seat c.unlock.ensures.seat) e.keeps.stays; ids = e.keeps.ids } }

pub returns-in-Open-clause-by : goal.returns-in-Open-clause-by
returns-in-Open-clause-by g c = let m = letter_is c.in-Ok.lock.content c.content.result.now c.args.retry.id c.args.retry.attempt c.args.retry.low c.in-Ok-new.frame c.letter_of-msg.result c.content.ensures c.in-Ok-new.ensures c.letter_of-msg.ensures.bytes (subst (λ (k : IdLock Asked). c.letter_of-msg.result.label ≡ attempt_label k.content.operation c.args.retry.attempt) c.lock-2.view_is c.letter_of-msg.ensures.label) c.letter_of-msg.ensures.owner in went_again c.in-Ok.lock (both c.args.seat.now.me.0 (record c.args.calls.now { seat = c.lock.new.seat })) record { got = record { slot_is = c.in-Ok.ensures.locked.0; inside = c.in-Ok.ensures.inside; from_first = c.in-Ok.ensures.of_range.0; to_last = c.in-Ok.ensures.of_range.1; word = c.in-Ok.ensures.locked.1.0; got = c.in-Ok.ensures.locked.1.1; now = c.in-Ok.ensures.found_now }; books = refl; socks = refl } record {
  view = c.unlock.new.seat.me.0;
  unlocked = c.in-Open.ensures.unlocked;
  went = subst (λ (x : Letter). WentTo g.O.Out.state c.args.self.now.tables.now.socks.rule.plan c.args.self.now.tables.now.ids.plan (name_of c.in-Ok.lock.content c.args.retry.attempt) x (both c.args.seat.now.me.0 (record c.args.calls.now { seat = c.unlock.new.seat })) (both c.go_to.new.seat.me.0 c.go_to.new.calls)) m (subst (λ (n : ℕ). WentTo g.O.Out.state c.args.self.now.tables.now.socks.rule.plan c.args.self.now.tables.now.ids.plan n c.letter_of-msg.result (both c.args.seat.now.me.0 (record c.args.calls.now { seat = c.unlock.new.seat })) (both c.go_to.new.seat.me.0 c.go_to.new.calls)) c.name-name.ensures.name c.go_to.ensures.by);
}

pub go_to-requires-clause-ids : goal.go_to-requires-clause-ids
go_to-requires-clause-ids g c = (sits_on c.args.self.now.tables.now.ids.table.shared.table_id c.lock.new.seat c.unlock.new.seat c.unlock.ensures.seat c.in-Open.ensures.unlocked.4.share (sits_on c.args.self.now.tables.now.ids.table.shared.table_id c.args.calls.now.seat c.lock.new.seat c.lock.ensures.seat c.in-Ok.ensures.locked.1.1.did.share c.requires.ids.0), did_free c.in-Ok.lock.slot c.lock.new.seat.me.0 c.unlock.new.seat.me.0 _ c.in-Open.ensures.unlocked.4 (locked_but c.in-Ok.lock.slot c.in-Ok.ensures.locked.1.0 _ c.in-Ok.lock.content c.args.calls.now.seat.me.0 c.lock.new.seat.me.0 c.in-Ok.ensures.locked.1.1 c.requires.ids.1))

pub go_to-requires-clause-id : goal.go_to-requires-clause-id
go_to-requires-clause-id g c = subst (λ (o : ℕ). IsCallId c.args.self.now.tables.now.ids.plan o) (sym c.letter_of-msg.ensures.owner) record { inside = omega (arith, c.in-Ok.ensures.inside, c.in-Ok.ensures.locked.0); low = version_low (id_first c.args.retry.id) (parts c.in-Ok.lock.word.0).first (parts c.in-Ok.lock.word.0).range c.in-Ok.lock.fits.low c.in-Ok.lock.fits.range_high c.in-Ok.ensures.of_range.1 }

pub go_to-requires-clause-place : goal.go_to-requires-clause-place
go_to-requires-clause-place g c = subst (λ (l : Label). l.place ≡ 8 * l.operation + l.attempt) (sym c.letter_of-msg.ensures.label) refl
