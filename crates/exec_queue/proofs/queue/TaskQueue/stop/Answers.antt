use Rattle.std.proofs.Common.{ℕ, sym, ap, ◌∙◌, subst, arith, refl, ◌≡◌, List, []}
use Rattle.sock_words.specs.declared.socket_id.SocketId.{SocketId}
use Rattle.sock_table.specs.ReferenceAnswers.{Holds}
use Rattle.sock_open.proofs.SeatsHoldingNothing.{done_between, no_notes, holds_it, failed_notes}
use Rattle.write_chain.proofs.SeatBetweenMessages.{held_one}
use Rattle.sock_model.specs.declared.view.View.{View}
use Rattle.sock_table.specs.ReferenceAnswers.{is_freed}
use Rattle.write_chain.specs.ReadyToSend.{HoldsOne}
use Rattle.exec_queue.proofs.SubmitterNotes.{now_told, notes_still, gone_grew, gone_stopped, stopped_later, failed_grew, found_failed_grew, found_failed_stopped, never_stopped}
use Rattle.exec_queue.proofs.SubmitterCalls.{kept_submitter, gone_ready, released, noticed_one, call_told, call_stopped, call_stops, call_failed}
use Rattle.sock_words.specs.PackedWords.{socket_id_slot}
use Rattle.sock_words.specs.Totals.{total}
use Rattle.sock_model.specs.declared.marks.Mark.{Mark}
use Rattle.sock_model.specs.MarkWeights.{is_ref}
use Rattle.sock_rule.specs.MarksComeAndGo.{Became}
use Rattle.exec_queue.proofs.queue.TaskQueue.stop.Goals as goal

pub add_reference-requires-clause-between : goal.add_reference-requires-clause-between
add_reference-requires-clause-between g c = done_between c.args.self.now.table.rule.table.shared.table_id c.args.self.now.table.rule.plan c.args.by.now.seat c.requires.1.1.ready.done

pub set_failed-stopped-requires-clause-held : goal.set_failed-stopped-requires-clause-held
set_failed-stopped-requires-clause-held g c = let q = c.args.self.now in let p = q.table.rule.plan in let a = c.in-Ok.ensures.held in
    subst (λ (x : ℕ). Holds p c.add_reference.new.seat.me.0 x) (sym (ap (λ (x : SocketId). x.0) a.0)) (holds_it p q.id.0 c.args.by.now.seat.me.0 c.add_reference.new.seat.me.0 c.add_reference.new.seat.me.0 c.requires.1.1.ready.known.inside a.1 (no_notes q.id.0 c.add_reference.new.seat.me.0))

pub release-requires-clause-held : goal.release-requires-clause-held
release-requires-clause-held g c = let q = c.args.self.now in let p = q.table.rule.plan in let a = c.in-Ok.ensures.held in let i = ap (λ (x : SocketId). x.0) a.0 in
    subst (λ (x : ℕ). Holds p c.set_failed-stopped.new.seat.me.0 x) (sym i) (holds_it p q.id.0 c.args.by.now.seat.me.0 c.add_reference.new.seat.me.0 c.set_failed-stopped.new.seat.me.0 c.requires.1.1.ready.known.inside a.1
    (subst (λ (x : ℕ). (adds : List Mark) × (total is_ref adds ≡ 0) × Became (socket_id_slot x) c.add_reference.new.seat.me.0 c.set_failed-stopped.new.seat.me.0 adds []) i (failed_notes c.in-Ok.sock.id.0 1009 c.add_reference.new.seat.me.0 c.set_failed-stopped.new.seat.me.0 c.set_failed-stopped.result c.set_failed-stopped.ensures.ok c.set_failed-stopped.ensures.err)))

pub returns-in-Err-clause-by : goal.returns-in-Err-clause-by
returns-in-Err-clause-by g c = let q = c.args.self.now in let z = q.table.rule.table.shared.table_id in let p = q.table.rule.plan in let s = c.args.by.now in let t = c.add_reference.new.seat in let is = c.requires.1.1 in let gone = c.in-Err.ensures.gone in
    kept_submitter q g.ts s _ is refl (gone_ready z p q.id.0 _ s.seat t is.ready c.add_reference.ensures.seat gone c.add_reference.ensures.between c.add_reference.ensures.slots) (ap (λ (y : View). y.lists) gone.became.others)
    (now_told q.id.0 p s.stops s.told s.full t.me.0 (notes_still q.id.0 p s.stops s.told s.full s.seat.me.0 t.me.0 is.noted (gone_grew q.id.0 s.seat.me.0 t.me.0 _ gone)) (stopped_later q.id.0 _ s.seat.me.0 t.me.0 (gone_stopped q.id.0 s.seat.me.0 t.me.0 _ gone)))

pub returns-in-Err-clause-already : goal.returns-in-Err-clause-already
returns-in-Err-clause-already g c = gone_stopped c.args.self.now.id.0 c.args.by.now.seat.me.0 c.add_reference.new.seat.me.0 _ c.in-Err.ensures.gone

pub returns-in-Ok-stopped-clause-first : goal.returns-in-Ok-stopped-clause-first
returns-in-Ok-stopped-clause-first g c = let s = c.args.by.now in never_stopped c.args.self.now.id.0 c.args.self.now.table.rule.plan s.stops s.told s.full s.seat.me.0 c.requires.1.1.noted c.in-Ok.ensures.stays

pub returns-in-Ok-stopped-clause-by : goal.returns-in-Ok-stopped-clause-by
returns-in-Ok-stopped-clause-by g c = let q = c.args.self.now in let p = q.table.rule.plan in let z = q.table.rule.table.shared.table_id in let is = c.requires.1.1 in let s = c.args.by.now in let a = c.in-Ok.ensures.held in let i = ap (λ (x : SocketId). x.0) a.0 in let id = c.in-Ok.sock.id.0 in
    let v = c.add_reference.new.seat.me.0 in let w = c.set_failed-stopped.new.seat.me.0 in let x = c.release.new.seat.me.0 in let r = c.release.ensures in
    let one = noticed_one p id v w (failed_notes id 1009 v w c.set_failed-stopped.result c.set_failed-stopped.ensures.ok c.set_failed-stopped.ensures.err) (subst (λ (y : ℕ). HoldsOne p y v) (sym i) (held_one z p q.id.0 s.seat v is.ready a.1).0) in
    released q g.ts s _ c.set_failed-stopped.new.seat id (is_freed c.release.result) is refl i one (c.set_failed-stopped.ensures.slots ∙ (c.add_reference.ensures.slots ∙ is.ready.done.slots)) r.seat r.back r.between r.slots
    (ap (λ (y : View). y.lists) c.in-Ok-stopped.ensures.ok.others ∙ ap (λ (y : View). y.lists) a.1.others)
    (call_stops q g.ts s is id id v w x i i a.1 (is_freed c.release.result) r.back _ (never_stopped q.id.0 p s.stops s.told s.full s.seat.me.0 is.noted c.in-Ok.ensures.stays).1 (let none_ = (never_stopped q.id.0 p s.stops s.told s.full s.seat.me.0 is.noted c.in-Ok.ensures.stays).1 in omega (arith, c.saturating_add-by.ensures, none_)) (failed_grew id v w 1009 c.in-Ok-stopped.ensures.ok))

pub returns-in-Ok-stopped-clause-stopped : goal.returns-in-Ok-stopped-clause-stopped
returns-in-Ok-stopped-clause-stopped g c = let q = c.args.self.now in let p = q.table.rule.plan in let z = q.table.rule.table.shared.table_id in let is = c.requires.1.1 in let s = c.args.by.now in let a = c.in-Ok.ensures.held in let i = ap (λ (x : SocketId). x.0) a.0 in let id = c.in-Ok.sock.id.0 in
    let v = c.add_reference.new.seat.me.0 in let w = c.set_failed-stopped.new.seat.me.0 in let x = c.release.new.seat.me.0 in let r = c.release.ensures in
    ((let none_ = (never_stopped q.id.0 p s.stops s.told s.full s.seat.me.0 is.noted c.in-Ok.ensures.stays).1 in omega (arith, c.saturating_add-by.ensures, none_)), call_failed q g.ts s is id id v w x i i a.1 (is_freed c.release.result) r.back c.in-Ok.ensures.stays 1009 c.in-Ok-stopped.ensures.ok)

pub returns-in-Err-stopped-clause-by : goal.returns-in-Err-stopped-clause-by
returns-in-Err-stopped-clause-by g c = let q = c.args.self.now in let p = q.table.rule.plan in let z = q.table.rule.table.shared.table_id in let is = c.requires.1.1 in let s = c.args.by.now in let a = c.in-Ok.ensures.held in let i = ap (λ (x : SocketId). x.0) a.0 in let id = c.in-Ok.sock.id.0 in
    let v = c.add_reference.new.seat.me.0 in let w = c.set_failed-stopped.new.seat.me.0 in let x = c.release.new.seat.me.0 in let r = c.release.ensures in
    let one = noticed_one p id v w (failed_notes id 1009 v w c.set_failed-stopped.result c.set_failed-stopped.ensures.ok c.set_failed-stopped.ensures.err) (subst (λ (y : ℕ). HoldsOne p y v) (sym i) (held_one z p q.id.0 s.seat v is.ready a.1).0) in
    released q g.ts s _ c.set_failed-stopped.new.seat id (is_freed c.release.result) is refl i one (c.set_failed-stopped.ensures.slots ∙ (c.add_reference.ensures.slots ∙ is.ready.done.slots)) r.seat r.back r.between r.slots
    (ap (λ (y : View). y.lists) c.in-Err-stopped.ensures.err.1.others ∙ ap (λ (y : View). y.lists) a.1.others)
    (call_told q g.ts s is id id v w x i i a.1 (is_freed c.release.result) r.back _ (found_failed_grew id v w _ c.in-Err-stopped.ensures.err) (found_failed_stopped id v w _ c.in-Err-stopped.ensures.err))

pub returns-in-Err-stopped-clause-already : goal.returns-in-Err-stopped-clause-already
returns-in-Err-stopped-clause-already g c = let q = c.args.self.now in let p = q.table.rule.plan in let z = q.table.rule.table.shared.table_id in let is = c.requires.1.1 in let s = c.args.by.now in let a = c.in-Ok.ensures.held in let i = ap (λ (x : SocketId). x.0) a.0 in let id = c.in-Ok.sock.id.0 in
    let v = c.add_reference.new.seat.me.0 in let w = c.set_failed-stopped.new.seat.me.0 in let x = c.release.new.seat.me.0 in let r = c.release.ensures in
    call_stopped q g.ts s is id id v w x i i a.1 (is_freed c.release.result) r.back _ (found_failed_stopped id v w _ c.in-Err-stopped.ensures.err)
