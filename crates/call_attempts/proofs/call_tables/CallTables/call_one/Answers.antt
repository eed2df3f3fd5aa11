use Rattle.std.proofs.Common.{◌≡◌, ℕ, ◌<◌, ◌≤◌, ◌+◌, ◌*◌, true, Some, None, zero-le, sym, refl, subst, arith}
use Rattle.sock_words.specs.declared.plain.Label.{Label}
use Rattle.sock_rule.specs.declared.homes.Letter.{Letter}
use Rattle.id_rule.specs.LawfulIdTable.{call_index, with_kept}
use Rattle.corr_id.specs.SeatBehindIdCalls.{MadeAs}
use Rattle.corr_id.proofs.TestingOneLock.{sits_on, quiet_free}
use Rattle.sock_message.specs.Asked.{Asked}
use Rattle.sock_table.specs.NamesStoredAndFound.{Found}
use Rattle.call_errors.specs.rpc_client.proofs.FindingReferences.{rest_same, may_still}
use Rattle.call_errors.specs.rpc_client.proofs.SeatBehindDelivering.{room_still}
use Rattle.call_errors.proofs.KeepingThroughErrors.{stays_then, keeps_none}
use Rattle.call_attempts.specs.ClientAtBothTables.{both, IsCallId}
use Rattle.sock_model.specs.MessageLabels.{attempt_label}
use Rattle.call_attempts.specs.Attempting.{AttemptedBy}
use Rattle.call_attempts.specs.CallBeginning.{WantedBy, before_id, behind_id}
use Rattle.call_attempts.proofs.LeftByAttempt.{err_by, found_keeps, keeps_leaves, own_after, own_keeps, not_ok, not_named, rested_found, rested_then}
use Rattle.call_attempts.proofs.LockingIds.{id_some, id_short, noted_free}
use Rattle.call_attempts.proofs.Framing.{letter_is}
use Rattle.call_attempts.proofs.call_tables.CallTables.call_one.Goals as goal

pub create-requires-clause-range : goal.create-requires-clause-range
create-requires-clause-range g c = subst (λ (a : Asked). (2 ≤ a.range) × (a.range ≤ 8)) (sym c.call.view_is) (c.name.ensures.limits.some_range, c.name.ensures.limits.few_versions)

pub note-requires-clause-seat : goal.note-requires-clause-seat
note-requires-clause-seat g c = sits_on c.args.self.now.tables.now.ids.table.shared.table_id c.args.calls.now.seat c.create.new.seat c.create.ensures.seat c.in-Ok.ensures.made.did.share c.requires.ids.0

pub note-requires-clause-some : goal.note-requires-clause-some
note-requires-clause-some g c = id_some c.in-Ok.id c.in-Ok.ensures.made.first_some

pub new-requires : goal.new-requires
new-requires g c = id_short c.in-Ok.id 0 (omega (arith, c.in-Ok.ensures.made.inside)) (omega arith)

pub give_up-requires : goal.give_up-requires
give_up-requires g c = record { ids = noted_free c.args.self.now.tables.now.ids.table.shared.table_id c.args.calls.now.seat c.create.new.seat c.note.new.seat _ _ _ _ _ _ c.requires.ids.0 c.requires.ids.1 c.create.ensures.seat c.in-Ok.ensures.made c.note.ensures.seat c.note.ensures.stored }

pub attempt-requires-clause-may : goal.attempt-requires-clause-may
attempt-requires-clause-may g c = let z = c.args.self.now.tables.now.socks.rule.table.shared.table_id in let p = c.args.self.now.tables.now.socks.rule.plan in
    may_still z p c.args.seat.now c.find.new.seat c.requires.may (rest_same z p c.args.seat.now c.find.new.seat c.requires.may.idle c.find.ensures.seat c.find.ensures.slots (c.find.ensures.between c.requires.may.idle.between) c.find.ensures.same).idle (found_keeps p c.name.result c.find.result c.args.seat.now.me.0 c.find.new.seat.me.0 c.find.ensures.found).refs

pub attempt-requires-clause-known : goal.attempt-requires-clause-known
attempt-requires-clause-known g c = c.in-Some.ensures.found.0

pub attempt-requires-clause-room : goal.attempt-requires-clause-room
attempt-requires-clause-room g c = room_still c.args.seat.now.me.0 c.find.new.seat.me.0 (found_keeps c.args.self.now.tables.now.socks.rule.plan c.name.result c.find.result c.args.seat.now.me.0 c.find.new.seat.me.0 c.find.ensures.found).lists c.requires.room

pub attempt-requires-clause-ids : goal.attempt-requires-clause-ids
attempt-requires-clause-ids g c = noted_free c.args.self.now.tables.now.ids.table.shared.table_id c.args.calls.now.seat c.create.new.seat c.note.new.seat _ _ _ _ _ _ c.requires.ids.0 c.requires.ids.1 c.create.ensures.seat c.in-Ok.ensures.made c.note.ensures.seat c.note.ensures.stored

pub attempt-requires-clause-operation : goal.attempt-requires-clause-operation
attempt-requires-clause-operation g c = subst (λ (l : Label). l.operation < c.args.self.now.tables.now.ids.plan.operations) (sym c.letter_of-msg.ensures.label) (subst (λ (a : Asked). a.operation < c.args.self.now.tables.now.ids.plan.operations) (sym c.call.view_is) c.requires.operation.1)

pub attempt-requires-clause-id : goal.attempt-requires-clause-id
attempt-requires-clause-id g c = subst (λ (o : ℕ). IsCallId c.args.self.now.tables.now.ids.plan o) (sym c.letter_of-msg.ensures.owner) record { inside = c.in-Ok.ensures.made.inside; low = omega (arith, c.in-Ok.ensures.low) }

pub attempt-requires-clause-label : goal.attempt-requires-clause-label
attempt-requires-clause-label g c = subst (λ (l : Label). l.place < 8 * c.args.self.now.tables.now.socks.rule.plan.operations) (sym c.letter_of-msg.ensures.label) (subst (λ (a : Asked). 8 * a.operation + 0 < 8 * c.args.self.now.tables.now.socks.rule.plan.operations) (sym c.call.view_is) (omega (arith, c.requires.operation.0)))

pub returns-in_default-clause-by : goal.returns-in_default-clause-by
returns-in_default-clause-by g c = (subst (λ (n : ℕ). Found c.args.self.now.tables.now.socks.rule.plan n None c.args.seat.now.me.0 c.find.new.seat.me.0) c.name.ensures.name (not_named c.args.self.now.tables.now.socks.rule.plan c.name.result c.find.result c.args.seat.now.me.0 c.find.new.seat.me.0 c.in_default.not-Some c.find.ensures.found), refl)

pub returns-in_default-clause-rested : goal.returns-in_default-clause-rested
returns-in_default-clause-rested g c = let z = c.args.self.now.tables.now.socks.rule.table.shared.table_id in let p = c.args.self.now.tables.now.socks.rule.plan in let y = c.args.self.now.tables.now.ids.table.shared.table_id in let e = c.find.ensures in
    rested_found z p y c.args.seat.now c.find.new.seat c.args.calls.now c.args.calls.now c.requires.may e.seat e.slots e.between e.same (found_keeps p c.name.result c.find.result c.args.seat.now.me.0 c.find.new.seat.me.0 e.found) (keeps_none y c.args.calls.now c.requires.ids)

pub returns-in_default-clause-own : goal.returns-in_default-clause-own
returns-in_default-clause-own g c = own_after c.args.seat.now.me.0 c.find.new.seat.me.0 (keeps_leaves c.args.seat.now.me.0 c.find.new.seat.me.0 (found_keeps c.args.self.now.tables.now.socks.rule.plan c.name.result c.find.result c.args.seat.now.me.0 c.find.new.seat.me.0 c.find.ensures.found))

pub returns-in_err-kept-clause-wanted : goal.returns-in_err-kept-clause-wanted
returns-in_err-kept-clause-wanted g c = err_by c.from_residual.result (λ _. WantedBy g.O.Out.state c.args.self.now.tables.now.socks.rule.plan c.args.self.now.tables.now.ids.plan c.args.call (both c.args.seat.now.me.0 c.args.calls.now) (both c.find.new.seat.me.0 c.args.calls.now)) (λ _. before_id c.in-Some.socket record { found = (subst (λ (n : ℕ). Found c.args.self.now.tables.now.socks.rule.plan n (Some c.in-Some.socket) c.args.seat.now.me.0 c.find.new.seat.me.0) c.name.ensures.name c.in-Some.ensures.found); calls = refl })

pub returns-in_err-kept-clause-rested : goal.returns-in_err-kept-clause-rested
returns-in_err-kept-clause-rested g c = let z = c.args.self.now.tables.now.socks.rule.table.shared.table_id in let p = c.args.self.now.tables.now.socks.rule.plan in let y = c.args.self.now.tables.now.ids.table.shared.table_id in let e = c.find.ensures in
    rested_found z p y c.args.seat.now c.find.new.seat c.args.calls.now c.args.calls.now c.requires.may e.seat e.slots e.between e.same (found_keeps p c.name.result c.find.result c.args.seat.now.me.0 c.find.new.seat.me.0 e.found) (keeps_none y c.args.calls.now c.requires.ids)

pub returns-in_err-kept-clause-own : goal.returns-in_err-kept-clause-own
returns-in_err-kept-clause-own g c = own_after c.args.seat.now.me.0 c.find.new.seat.me.0 (keeps_leaves c.args.seat.now.me.0 c.find.new.seat.me.0 (found_keeps c.args.self.now.tables.now.socks.rule.plan c.name.result c.find.result c.args.seat.now.me.0 c.find.new.seat.me.0 c.find.ensures.found))

pub returns-in_default-create-clause-by : goal.returns-in_default-create-clause-by
returns-in_default-create-clause-by g c = let f = (not_ok c.create.result _ c.in_default-create.not-Ok c.create.ensures.full) in record { socket = c.in-Some.socket; found = (subst (λ (n : ℕ). Found c.args.self.now.tables.now.socks.rule.plan n (Some c.in-Some.socket) c.args.seat.now.me.0 c.find.new.seat.me.0) c.name.ensures.name c.in-Some.ensures.found); quiet = f.1.1; taken = (not_ok c.create.result _ c.in_default-create.not-Ok c.create.ensures.full_now).1; books = refl }

pub returns-in_default-create-clause-rested : goal.returns-in_default-create-clause-rested
returns-in_default-create-clause-rested g c = let z = c.args.self.now.tables.now.socks.rule.table.shared.table_id in let p = c.args.self.now.tables.now.socks.rule.plan in let y = c.args.self.now.tables.now.ids.table.shared.table_id in let e = c.find.ensures in let quiet = (not_ok c.create.result _ c.in_default-create.not-Ok c.create.ensures.full).1.1 in
    rested_found z p y c.args.seat.now c.find.new.seat c.args.calls.now (record c.args.calls.now { seat = c.create.new.seat }) c.requires.may e.seat e.slots e.between e.same (found_keeps p c.name.result c.find.result c.args.seat.now.me.0 c.find.new.seat.me.0 e.found) record { stays = c.create.ensures.seat; ids = (sits_on y c.args.calls.now.seat c.create.new.seat c.create.ensures.seat quiet.share c.requires.ids.0, quiet_free c.args.calls.now.seat.me.0 c.create.new.seat.me.0 quiet c.requires.ids.1) }

pub returns-in_default-create-clause-own : goal.returns-in_default-create-clause-own
returns-in_default-create-clause-own g c = own_after c.args.seat.now.me.0 c.find.new.seat.me.0 (keeps_leaves c.args.seat.now.me.0 c.find.new.seat.me.0 (found_keeps c.args.self.now.tables.now.socks.rule.plan c.name.result c.find.result c.args.seat.now.me.0 c.find.new.seat.me.0 c.find.ensures.found))

pub returns-in_default-new-clause-wanted : goal.returns-in_default-new-clause-wanted
returns-in_default-new-clause-wanted g c = behind_id c.in-Ok.id c.in-Some.socket (both c.find.new.seat.me.0 (record c.args.calls.now { seat = c.note.new.seat })) record { found = (subst (λ (n : ℕ). Found c.args.self.now.tables.now.socks.rule.plan n (Some c.in-Some.socket) c.args.seat.now.me.0 c.find.new.seat.me.0) c.name.ensures.name c.in-Some.ensures.found); view = c.create.new.seat.me.0; made = (subst (λ (a : Asked). MadeAs c.args.calls.now.seat.me.0 c.create.new.seat.me.0 c.args.self.now.tables.now.ids.plan.slots c.in-Ok.id a.range c.args.call) c.call.view_is c.in-Ok.ensures.made); noted = (subst (λ (a : Asked). c.note.new.seat.me.0 ≡ with_kept (call_index c.args.self.now.tables.now.ids.plan a.operation) true c.in-Ok.id c.create.new.seat.me.0) c.call.view_is c.note.ensures.stored); books = refl } refl c.give_up.ensures.given_up

pub returns-in_default-new-clause-rested : goal.returns-in_default-new-clause-rested
returns-in_default-new-clause-rested g c = let z = c.args.self.now.tables.now.socks.rule.table.shared.table_id in let p = c.args.self.now.tables.now.socks.rule.plan in let y = c.args.self.now.tables.now.ids.table.shared.table_id in let e = c.find.ensures in
    let noted = stays_then c.args.calls.now.seat c.create.new.seat c.note.new.seat c.create.ensures.seat c.note.ensures.seat in
    rested_found z p y c.args.seat.now c.find.new.seat c.args.calls.now c.give_up.new.calls c.requires.may e.seat e.slots e.between e.same (found_keeps p c.name.result c.find.result c.args.seat.now.me.0 c.find.new.seat.me.0 e.found) record { stays = stays_then c.args.calls.now.seat c.note.new.seat c.give_up.new.calls.seat noted c.give_up.ensures.keeps.stays; ids = c.give_up.ensures.keeps.ids }

pub returns-in_default-new-clause-own : goal.returns-in_default-new-clause-own
returns-in_default-new-clause-own g c = own_after c.args.seat.now.me.0 c.find.new.seat.me.0 (keeps_leaves c.args.seat.now.me.0 c.find.new.seat.me.0 (found_keeps c.args.self.now.tables.now.socks.rule.plan c.name.result c.find.result c.args.seat.now.me.0 c.find.new.seat.me.0 c.find.ensures.found))

pub returns-clause-by : goal.returns-clause-by
returns-clause-by g c = record { socket = c.in-Some.socket; at = (both c.find.new.seat.me.0 (record c.args.calls.now { seat = c.note.new.seat })); made_for = record { found = (subst (λ (n : ℕ). Found c.args.self.now.tables.now.socks.rule.plan n (Some c.in-Some.socket) c.args.seat.now.me.0 c.find.new.seat.me.0) c.name.ensures.name c.in-Some.ensures.found); view = c.create.new.seat.me.0; made = (subst (λ (a : Asked). MadeAs c.args.calls.now.seat.me.0 c.create.new.seat.me.0 c.args.self.now.tables.now.ids.plan.slots c.in-Ok.id a.range c.args.call) c.call.view_is c.in-Ok.ensures.made); noted = (subst (λ (a : Asked). c.note.new.seat.me.0 ≡ with_kept (call_index c.args.self.now.tables.now.ids.plan a.operation) true c.in-Ok.id c.create.new.seat.me.0) c.call.view_is c.note.ensures.stored); books = refl }; attempted = subst (λ (m : Letter). AttemptedBy g.O.Out.state c.args.self.now.tables.now.socks.rule.plan c.args.self.now.tables.now.ids.plan c.in-Some.socket m (both c.find.new.seat.me.0 (record c.args.calls.now { seat = c.note.new.seat })) (both c.attempt.new.seat.me.0 c.attempt.new.calls)) (letter_is c.args.call c.in_ok-kept.kept c.in-Ok.id 0 zero-le c.in-Ok-new.frame c.letter_of-msg.result c.in_ok-kept.ensures c.in-Ok-new.ensures c.letter_of-msg.ensures.bytes (subst (λ (a : Asked). c.letter_of-msg.result.label ≡ attempt_label a.operation 0) c.call.view_is c.letter_of-msg.ensures.label) c.letter_of-msg.ensures.owner) c.attempt.ensures.by }

pub returns-clause-rested : goal.returns-clause-rested
returns-clause-rested g c = let z = c.args.self.now.tables.now.socks.rule.table.shared.table_id in let p = c.args.self.now.tables.now.socks.rule.plan in let y = c.args.self.now.tables.now.ids.table.shared.table_id in let e = c.find.ensures in let noted = record c.args.calls.now { seat = c.note.new.seat } in
    rested_then z p y c.args.seat.now c.find.new.seat c.attempt.new.seat c.args.calls.now noted _ c.attempt.new.calls
    (rested_found z p y c.args.seat.now c.find.new.seat c.args.calls.now noted c.requires.may e.seat e.slots e.between e.same (found_keeps p c.name.result c.find.result c.args.seat.now.me.0 c.find.new.seat.me.0 e.found) record { stays = stays_then c.args.calls.now.seat c.create.new.seat c.note.new.seat c.create.ensures.seat c.note.ensures.seat; ids = noted_free y c.args.calls.now.seat c.create.new.seat c.note.new.seat _ _ _ _ _ _ c.requires.ids.0 c.requires.ids.1 c.create.ensures.seat c.in-Ok.ensures.made c.note.ensures.seat c.note.ensures.stored }) c.attempt.ensures.rested refl

pub returns-clause-own : goal.returns-clause-own
returns-clause-own g c = λ n o. c.attempt.ensures.own n (own_keeps n c.args.seat.now.me.0 c.find.new.seat.me.0 (found_keeps c.args.self.now.tables.now.socks.rule.plan c.name.result c.find.result c.args.seat.now.me.0 c.find.new.seat.me.0 c.find.ensures.found) o)
