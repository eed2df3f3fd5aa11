use Rattle.std.proofs.Common.{ℕ, sym, ap, ◌∙◌, subst, arith, refl}
use Rattle.sock_words.specs.declared.socket_id.SocketId.{SocketId}
use Rattle.sock_table.specs.declared.refs.SockRef.{SockRef}
use Rattle.sock_table.specs.ReferenceAnswers.{Holds}
use Rattle.sock_open.proofs.SeatsHoldingNothing.{done_between, no_notes, holds_it}
use Rattle.write_chain.specs.ReadyToSend.{HoldsOne, refused_of}
use Rattle.write_chain.specs.WritingRightInHand.{GaveUp}
use Rattle.sock_model.specs.declared.view.View.{View}
use Rattle.sock_table.specs.ReferenceAnswers.{is_freed}
use Rattle.write_chain.proofs.SeatBetweenMessages.{held_one, started_one, sock_is, refused_ups, refused_ones, refused_is}
use Rattle.exec_queue.specs.StoppedQueue.{Grew}
use Rattle.exec_queue.proofs.SubmitterNotes.{now_told, notes_still, gone_grew, gone_stopped, stopped_later, refused_grew, failed_stopped, full_now, grew_then, started_grew, never_stopped}
use Rattle.exec_queue.proofs.SubmitterCalls.{kept_submitter, gone_ready, released, released_more, started_entry, refused_lists, call_told, call_stopped, call_full, call_full_now, call_notes}
use Rattle.sock_model.specs.ChainRows.{more}
use Rattle.exec_queue.proofs.queue.TaskQueue.submit.Goals as goal

pub add_reference-requires-clause-between : goal.add_reference-requires-clause-between
add_reference-requires-clause-between g c = done_between c.args.self.now.table.rule.table.shared.table_id c.args.self.now.table.rule.plan c.args.by.now.seat c.requires.1.1.1.0.ready.done

pub returns-in-Err-clause-err : goal.returns-in-Err-clause-err
returns-in-Err-clause-err g c = let q = c.args.self.now in let z = q.table.rule.table.shared.table_id in let p = q.table.rule.plan in let s = c.args.by.now.seat in let t = c.add_reference.new.seat in
    let r = gone_ready z p q.id.0 _ s t c.requires.1.1.1.0.ready c.add_reference.ensures.seat c.in-Err.ensures.gone c.add_reference.ensures.between c.add_reference.ensures.slots in
    kept_submitter q g.ts c.args.by.now _ c.requires.1.1.1.0 refl r (ap (λ y. y.lists) c.in-Err.ensures.gone.became.others)
    (now_told q.id.0 p c.args.by.now.stops c.args.by.now.told c.args.by.now.full t.me.0 (notes_still q.id.0 p c.args.by.now.stops c.args.by.now.told c.args.by.now.full s.me.0 t.me.0 c.requires.1.1.1.0.noted (gone_grew q.id.0 s.me.0 t.me.0 _ c.in-Err.ensures.gone)) (stopped_later q.id.0 _ s.me.0 t.me.0 (gone_stopped q.id.0 s.me.0 t.me.0 _ c.in-Err.ensures.gone)))

pub start-requires-clause-held : goal.start-requires-clause-held
start-requires-clause-held g c = let q = c.args.self.now in let p = q.table.rule.plan in let a = c.in-Ok.ensures.held in
    subst (λ (x : ℕ). Holds p c.add_reference.new.seat.me.0 x) (sym (ap (λ (x : SocketId). x.0) a.0)) (holds_it p q.id.0 c.args.by.now.seat.me.0 c.add_reference.new.seat.me.0 c.add_reference.new.seat.me.0 c.requires.1.1.1.0.ready.known.inside a.1 (no_notes q.id.0 c.add_reference.new.seat.me.0))

pub start-requires-clause-may : goal.start-requires-clause-may
start-requires-clause-may g c = let q = c.args.self.now in let z = q.table.rule.table.shared.table_id in let p = q.table.rule.plan in let a = c.in-Ok.ensures.held in let h = held_one z p q.id.0 c.args.by.now.seat c.add_reference.new.seat.me.0 c.requires.1.1.1.0.ready a.1 in
    record { between = c.add_reference.ensures.between; claims = h.0.claims; loose = h.0.loose; room = h.1 }

pub follow-submitted-requires-clause-one : goal.follow-submitted-requires-clause-one
follow-submitted-requires-clause-one g c = let q = c.args.self.now in let z = q.table.rule.table.shared.table_id in let p = q.table.rule.plan in let a = c.in-Ok.ensures.held in
    let h = held_one z p q.id.0 c.args.by.now.seat c.add_reference.new.seat.me.0 c.requires.1.1.1.0.ready a.1 in
    started_one p c.in-Ok.sock _ _ c.in-Ok-start.started c.add_reference.new.seat.me.0 c.start.new.seat.me.0 c.in-Ok-start.ensures.started (subst (λ (x : ℕ). HoldsOne p x c.add_reference.new.seat.me.0) (sym (ap (λ (x : SocketId). x.0) a.0)) h.0)

pub release-requires-in-Err-Failed-clause-held : goal.release-requires-in-Err-Failed-clause-held
release-requires-in-Err-Failed-clause-held g c = let q = c.args.self.now in let p = q.table.rule.plan in let z = q.table.rule.table.shared.table_id in let a = c.in-Ok.ensures.held in let f = c.in-Err-Failed in let i = sym (ap (λ (x : SocketId). x.0) a.0) in
    (subst (λ (y : SockRef). GaveUp p y.id.0 c.start.new.seat.me) (ap refused_of f.field-0-is) (refused_ups p c.in-Ok.sock c.in-Some.msg f.field-0 c.add_reference.new.seat.me.0 c.start.new.seat.me f.ensures.refused c.add_reference.ensures.between (subst (λ (x : ℕ). Holds p c.add_reference.new.seat.me.0 x) i (holds_it p q.id.0 c.args.by.now.seat.me.0 c.add_reference.new.seat.me.0 c.add_reference.new.seat.me.0 c.requires.1.1.1.0.ready.known.inside a.1 (no_notes q.id.0 c.add_reference.new.seat.me.0))) (c.start.ensures.slots ∙ (c.add_reference.ensures.slots ∙ c.requires.1.1.1.0.ready.done.slots)))).holds

pub release-requires-in-Err-Failed-clause-between : goal.release-requires-in-Err-Failed-clause-between
release-requires-in-Err-Failed-clause-between g c = let q = c.args.self.now in let p = q.table.rule.plan in let z = q.table.rule.table.shared.table_id in let a = c.in-Ok.ensures.held in let f = c.in-Err-Failed in let i = sym (ap (λ (x : SocketId). x.0) a.0) in
    (subst (λ (y : SockRef). GaveUp p y.id.0 c.start.new.seat.me) (ap refused_of f.field-0-is) (refused_ups p c.in-Ok.sock c.in-Some.msg f.field-0 c.add_reference.new.seat.me.0 c.start.new.seat.me f.ensures.refused c.add_reference.ensures.between (subst (λ (x : ℕ). Holds p c.add_reference.new.seat.me.0 x) i (holds_it p q.id.0 c.args.by.now.seat.me.0 c.add_reference.new.seat.me.0 c.add_reference.new.seat.me.0 c.requires.1.1.1.0.ready.known.inside a.1 (no_notes q.id.0 c.add_reference.new.seat.me.0))) (c.start.ensures.slots ∙ (c.add_reference.ensures.slots ∙ c.requires.1.1.1.0.ready.done.slots)))).between

pub returns-in-Err-Failed-clause-err : goal.returns-in-Err-Failed-clause-err
returns-in-Err-Failed-clause-err g c = let q = c.args.self.now in let p = q.table.rule.plan in let z = q.table.rule.table.shared.table_id in let a = c.in-Ok.ensures.held in let f = c.in-Err-Failed in let i = sym (ap (λ (x : SocketId). x.0) a.0) in let r = c.release-in-Err-Failed in
    let v = c.add_reference.new.seat.me.0 in let w = c.start.new.seat.me.0 in let x = r.new.seat.me.0 in let rb = f.ensures.refused in
    let e = ap (λ (y : SockRef). y.id.0) (sym (ap refused_of f.field-0-is) ∙ refused_is p c.in-Ok.sock c.in-Some.msg f.field-0 v w rb) ∙ sym i in
    let one = refused_ones p c.in-Ok.sock c.in-Some.msg f.field-0 v c.start.new.seat.me rb (subst (λ (x : ℕ). HoldsOne p x v) i (held_one z p q.id.0 c.args.by.now.seat v c.requires.1.1.1.0.ready a.1).0) in
    released q g.ts c.args.by.now _ c.start.new.seat f.sock.id.0 (is_freed r.result) c.requires.1.1.1.0 refl e
    (subst (λ (y : SockRef). HoldsOne p y.id.0 w) (ap refused_of f.field-0-is) one) (c.start.ensures.slots ∙ (c.add_reference.ensures.slots ∙ c.requires.1.1.1.0.ready.done.slots)) r.ensures.seat r.ensures.back r.ensures.between r.ensures.slots
    (refused_lists p c.in-Ok.sock c.in-Some.msg f.field-0 v w rb ∙ ap (λ (y : View). y.lists) a.1.others)
    (call_told q g.ts c.args.by.now c.requires.1.1.1.0 c.in-Ok.sock.id.0 f.sock.id.0 v w x (sym i) e a.1 (is_freed r.result) r.ensures.back _ (refused_grew v w p c.in-Ok.sock c.in-Some.msg f.field-0 rb) (failed_stopped v w p c.in-Ok.sock c.in-Some.msg _ f.sock f.found f.field-0 f.field-0-is rb))

pub returns-in-Err-Failed-clause-refused : goal.returns-in-Err-Failed-clause-refused
returns-in-Err-Failed-clause-refused g c = let q = c.args.self.now in let p = q.table.rule.plan in let z = q.table.rule.table.shared.table_id in let a = c.in-Ok.ensures.held in let f = c.in-Err-Failed in let i = sym (ap (λ (x : SocketId). x.0) a.0) in let r = c.release-in-Err-Failed in
    let v = c.add_reference.new.seat.me.0 in let w = c.start.new.seat.me.0 in let x = r.new.seat.me.0 in let rb = f.ensures.refused in
    let e = ap (λ (y : SockRef). y.id.0) (sym (ap refused_of f.field-0-is) ∙ refused_is p c.in-Ok.sock c.in-Some.msg f.field-0 v w rb) ∙ sym i in
    call_stopped q g.ts c.args.by.now c.requires.1.1.1.0 c.in-Ok.sock.id.0 f.sock.id.0 v w x (sym i) e a.1 (is_freed r.result) r.ensures.back _ (failed_stopped v w p c.in-Ok.sock c.in-Some.msg _ f.sock f.found f.field-0 f.field-0-is rb)

pub release-requires-in-Err-Full-clause-held : goal.release-requires-in-Err-Full-clause-held
release-requires-in-Err-Full-clause-held g c = let q = c.args.self.now in let p = q.table.rule.plan in let z = q.table.rule.table.shared.table_id in let a = c.in-Ok.ensures.held in let f = c.in-Err-Full in let i = sym (ap (λ (x : SocketId). x.0) a.0) in
    (subst (λ (y : SockRef). GaveUp p y.id.0 c.start.new.seat.me) (ap refused_of f.field-0-is) (refused_ups p c.in-Ok.sock c.in-Some.msg f.field-0 c.add_reference.new.seat.me.0 c.start.new.seat.me f.ensures.refused c.add_reference.ensures.between (subst (λ (x : ℕ). Holds p c.add_reference.new.seat.me.0 x) i (holds_it p q.id.0 c.args.by.now.seat.me.0 c.add_reference.new.seat.me.0 c.add_reference.new.seat.me.0 c.requires.1.1.1.0.ready.known.inside a.1 (no_notes q.id.0 c.add_reference.new.seat.me.0))) (c.start.ensures.slots ∙ (c.add_reference.ensures.slots ∙ c.requires.1.1.1.0.ready.done.slots)))).holds

pub release-requires-in-Err-Full-clause-between : goal.release-requires-in-Err-Full-clause-between
release-requires-in-Err-Full-clause-between g c = let q = c.args.self.now in let p = q.table.rule.plan in let z = q.table.rule.table.shared.table_id in let a = c.in-Ok.ensures.held in let f = c.in-Err-Full in let i = sym (ap (λ (x : SocketId). x.0) a.0) in
    (subst (λ (y : SockRef). GaveUp p y.id.0 c.start.new.seat.me) (ap refused_of f.field-0-is) (refused_ups p c.in-Ok.sock c.in-Some.msg f.field-0 c.add_reference.new.seat.me.0 c.start.new.seat.me f.ensures.refused c.add_reference.ensures.between (subst (λ (x : ℕ). Holds p c.add_reference.new.seat.me.0 x) i (holds_it p q.id.0 c.args.by.now.seat.me.0 c.add_reference.new.seat.me.0 c.add_reference.new.seat.me.0 c.requires.1.1.1.0.ready.known.inside a.1 (no_notes q.id.0 c.add_reference.new.seat.me.0))) (c.start.ensures.slots ∙ (c.add_reference.ensures.slots ∙ c.requires.1.1.1.0.ready.done.slots)))).between

pub returns-in-Err-Full-clause-err : goal.returns-in-Err-Full-clause-err
returns-in-Err-Full-clause-err g c = let q = c.args.self.now in let p = q.table.rule.plan in let z = q.table.rule.table.shared.table_id in let a = c.in-Ok.ensures.held in let f = c.in-Err-Full in let i = sym (ap (λ (x : SocketId). x.0) a.0) in let r = c.release-in-Err-Full in
    let v = c.add_reference.new.seat.me.0 in let w = c.start.new.seat.me.0 in let x = r.new.seat.me.0 in let rb = f.ensures.refused in
    let e = ap (λ (y : SockRef). y.id.0) (sym (ap refused_of f.field-0-is) ∙ refused_is p c.in-Ok.sock c.in-Some.msg f.field-0 v w rb) ∙ sym i in
    let one = refused_ones p c.in-Ok.sock c.in-Some.msg f.field-0 v c.start.new.seat.me rb (subst (λ (x : ℕ). HoldsOne p x v) i (held_one z p q.id.0 c.args.by.now.seat v c.requires.1.1.1.0.ready a.1).0) in
    released q g.ts c.args.by.now _ c.start.new.seat f.sock.id.0 (is_freed r.result) c.requires.1.1.1.0 refl e
    (subst (λ (y : SockRef). HoldsOne p y.id.0 w) (ap refused_of f.field-0-is) one) (c.start.ensures.slots ∙ (c.add_reference.ensures.slots ∙ c.requires.1.1.1.0.ready.done.slots)) r.ensures.seat r.ensures.back r.ensures.between r.ensures.slots
    (refused_lists p c.in-Ok.sock c.in-Some.msg f.field-0 v w rb ∙ ap (λ (y : View). y.lists) a.1.others)
    (call_full q g.ts c.args.by.now c.requires.1.1.1.0 c.in-Ok.sock.id.0 f.sock.id.0 v w x (sym i) e a.1 (is_freed r.result) r.ensures.back (refused_grew v w p c.in-Ok.sock c.in-Some.msg f.field-0 rb) (full_now v w p c.in-Ok.sock c.in-Some.msg _ f.sock f.field-0 f.field-0-is rb))

pub returns-in-Err-Full-clause-refused : goal.returns-in-Err-Full-clause-refused
returns-in-Err-Full-clause-refused g c = let q = c.args.self.now in let p = q.table.rule.plan in let z = q.table.rule.table.shared.table_id in let a = c.in-Ok.ensures.held in let f = c.in-Err-Full in let i = sym (ap (λ (x : SocketId). x.0) a.0) in let r = c.release-in-Err-Full in
    let v = c.add_reference.new.seat.me.0 in let w = c.start.new.seat.me.0 in let x = r.new.seat.me.0 in let rb = f.ensures.refused in
    let e = ap (λ (y : SockRef). y.id.0) (sym (ap refused_of f.field-0-is) ∙ refused_is p c.in-Ok.sock c.in-Some.msg f.field-0 v w rb) ∙ sym i in
    (c.in-Ok.ensures.stays, call_full_now q g.ts c.args.by.now c.requires.1.1.1.0 c.in-Ok.sock.id.0 f.sock.id.0 v w x (sym i) e a.1 (is_freed r.result) r.ensures.back (full_now v w p c.in-Ok.sock c.in-Some.msg _ f.sock f.field-0 f.field-0-is rb))

pub returns-in-Ok-start-clause-ok : goal.returns-in-Ok-start-clause-ok
returns-in-Ok-start-clause-ok g c = let q = c.args.self.now in let p = q.table.rule.plan in let a = c.in-Ok.ensures.held in let f = c.follow-submitted.ensures in let r = c.release in let i = ap (λ (x : SocketId). x.0) a.0 in
    let by = c.in-Ok-start.ensures.started in let x = started_entry p c.in-Ok.sock _ _ c.in-Ok-start.started c.add_reference.new.seat.me.0 c.start.new.seat.me.0 by in
    released_more q g.ts c.args.by.now _ c.follow-submitted.new.seat c.follow-submitted.result.0.id.0 (is_freed r.result) c.requires.1.1.1.0 refl
    (ap (λ (y : SockRef). y.id.0) (f.same ∙ sock_is p c.in-Ok.sock _ _ c.in-Ok-start.started c.add_reference.new.seat.me.0 c.start.new.seat.me.0 by) ∙ i) f.one f.up.slots r.ensures.seat r.ensures.back r.ensures.between r.ensures.slots
    c.args.task.now x.0 (f.lists ∙ (x.3 ∙ ap (λ l. more l x.0) (ap (λ (y : View). y.lists) a.1.others)))
    record { task = c.requires.1.1.1.1.0; line = c.requires.1.1.1.1.1.0; heading = x.1 ∙ c.in-Some.ensures.heading; bytes = x.2 ∙ c.in-Some.ensures.bytes; link = (let plan = c.requires.1.1.0 in let low = x.4 in omega arith); amount = c.in-Some.ensures.amount }
    c.requires.1.1.1.1.1.1
    (let v = c.add_reference.new.seat.me.0 in let w = c.start.new.seat.me.0 in let u = c.follow-submitted.new.seat.me.0 in let e = ap (λ (y : SockRef). y.id.0) (sock_is p c.in-Ok.sock _ _ c.in-Ok-start.started v w by) in
    call_notes q g.ts c.args.by.now c.requires.1.1.1.0 c.in-Ok.sock.id.0 c.follow-submitted.result.0.id.0 v u r.new.seat.me.0 i (ap (λ (y : SockRef). y.id.0) f.same ∙ (e ∙ i)) a.1 (is_freed r.result) r.ensures.back
    (grew_then c.in-Ok.sock.id.0 0 0 v w u (started_grew v w p c.in-Ok.sock _ _ c.in-Ok-start.started by) (subst (λ (y : ℕ). Grew y 0 w u) e f.notes)))

pub returns-in-Err-clause-refused : goal.returns-in-Err-clause-refused
returns-in-Err-clause-refused g c = gone_stopped c.args.self.now.id.0 c.args.by.now.seat.me.0 c.add_reference.new.seat.me.0 _ c.in-Err.ensures.gone

pub returns-in-Ok-start-clause-live : goal.returns-in-Ok-start-clause-live
returns-in-Ok-start-clause-live g c = let q = c.args.self.now in let s = c.args.by.now in never_stopped q.id.0 q.table.rule.plan s.stops s.told s.full s.seat.me.0 c.requires.1.1.1.0.noted c.in-Ok.ensures.stays
