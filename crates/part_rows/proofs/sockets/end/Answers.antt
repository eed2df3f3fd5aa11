use Rattle.std.proofs.Common.{ℕ, ◌<◌, sym, ap, ◌∙◌, subst, arith}
use Rattle.sock_words.specs.declared.socket_id.SocketId.{SocketId}
use Rattle.sock_words.specs.PackedWords.{socket_id_slot}
use Rattle.sock_table.specs.ReferenceAnswers.{Holds, Held}
use Rattle.sock_table.proofs.QuietBetweenCalls.{between_rests, rests_between}
use Rattle.sock_open.proofs.SeatsHoldingNothing.{done_between, kept_done, may_address, gone_same, visited, failed_notes, no_notes, holds_it, one_ref}
use Rattle.sock_open.proofs.Racing.{linked_notes, then_notes}
use Rattle.part_rows.proofs.sockets.end.Goals as goal

pub add_reference-requires-clause-seat : goal.add_reference-requires-clause-seat
add_reference-requires-clause-seat c = c.requires.seat.seat

pub add_reference-requires-clause-may : goal.add_reference-requires-clause-may
add_reference-requires-clause-may c = may_address _ _ c.args.seat c.args.id.0 c.requires.seat c.requires.known.inside c.requires.known.known

pub add_reference-requires-clause-between : goal.add_reference-requires-clause-between
add_reference-requires-clause-between c = done_between c.args.table.now.rule.table.shared.table_id c.args.table.now.rule.plan c.args.seat c.requires.seat

pub returns-in_default-clause-seat : goal.returns-in_default-clause-seat
returns-in_default-clause-seat c = let z = c.args.table.now.rule.table.shared.table_id in let p = c.args.table.now.rule.plan in kept_done z p c.args.seat c.add_reference.new.seat c.requires.seat c.add_reference.ensures.seat c.add_reference.ensures.slots c.add_reference.ensures.between (gone_same p c.args.id.0 _ c.args.seat.me.0 c.add_reference.new.seat.me.0 c.in_default.ensures.gone)

pub returns-in_default-clause-share : goal.returns-in_default-clause-share
returns-in_default-clause-share c = (gone_same c.args.table.now.rule.plan c.args.id.0 _ c.args.seat.me.0 c.add_reference.new.seat.me.0 c.in_default.ensures.gone).share

pub link_of-link-requires-clause-held : goal.link_of-link-requires-clause-held
link_of-link-requires-clause-held c = let z = c.args.table.now.rule.table.shared.table_id in let p = c.args.table.now.rule.plan in let i : ℕ = c.args.id.0 in let a = c.in-Ok.ensures.held in let e = ap (λ (x : SocketId). x.0) a.0 in subst (λ (x : ℕ). Holds p c.add_reference.new.seat.me.0 x) (sym e) (holds_it p i c.args.seat.me.0 c.add_reference.new.seat.me.0 c.add_reference.new.seat.me.0 c.requires.known.inside a.1 (no_notes i c.add_reference.new.seat.me.0))

pub set_failed-requires-clause-held : goal.set_failed-requires-clause-held
set_failed-requires-clause-held c = let z = c.args.table.now.rule.table.shared.table_id in let p = c.args.table.now.rule.plan in let i : ℕ = c.args.id.0 in let a = c.in-Ok.ensures.held in let e = ap (λ (x : SocketId). x.0) a.0 in let j : ℕ = c.in-Ok.sock.id.0 in let held = subst (λ (x : ℕ). Held x c.args.seat.me.0 c.add_reference.new.seat.me.0) (sym e) a.1 in holds_it p j c.args.seat.me.0 c.add_reference.new.seat.me.0 c.link_of-link.new.seat.me.0 (subst (λ (x : ℕ). socket_id_slot x < p.slots) (sym e) c.requires.known.inside) held (linked_notes p _ j _ _ c.link_of-link.ensures.link)

pub set_failed-requires-clause-rests : goal.set_failed-requires-clause-rests
set_failed-requires-clause-rests c = between_rests c.args.table.now.rule.plan c.link_of-link.new.seat.me.0 (c.link_of-link.ensures.between c.add_reference.ensures.between)

pub set_failed-requires-clause-room : goal.set_failed-requires-clause-room
set_failed-requires-clause-room c = let z = c.args.table.now.rule.table.shared.table_id in let p = c.args.table.now.rule.plan in let i : ℕ = c.args.id.0 in let a = c.in-Ok.ensures.held in let e = ap (λ (x : SocketId). x.0) a.0 in let r = one_ref p i c.in-Ok.sock.id.0 c.args.seat.me.0 c.add_reference.new.seat.me.0 (ap (λ (x : SocketId). socket_id_slot x.0) a.0) (c.requires.seat.done.unheld (socket_id_slot i) c.requires.known.inside) a.1 in let l = c.link_of-link.ensures.link.became.here Rattle.sock_model.specs.MarkWeights.is_ref in omega arith

pub release-requires-clause-between : goal.release-requires-clause-between
release-requires-clause-between c = rests_between c.args.table.now.rule.plan c.set_failed.new.seat.me.0 (c.set_failed.ensures.rights ∙ (c.link_of-link.ensures.between c.add_reference.ensures.between).no_rights) c.set_failed.ensures.rests

pub release-requires-clause-held : goal.release-requires-clause-held
release-requires-clause-held c = let z = c.args.table.now.rule.table.shared.table_id in let p = c.args.table.now.rule.plan in let i : ℕ = c.args.id.0 in let a = c.in-Ok.ensures.held in let e = ap (λ (x : SocketId). x.0) a.0 in let j : ℕ = c.in-Ok.sock.id.0 in let held = subst (λ (x : ℕ). Held x c.args.seat.me.0 c.add_reference.new.seat.me.0) (sym e) a.1 in
    let notes = then_notes j _ _ _ (linked_notes p _ j _ _ c.link_of-link.ensures.link) (failed_notes j 1500 c.link_of-link.new.seat.me.0 c.set_failed.new.seat.me.0 c.set_failed.result c.set_failed.ensures.ok c.set_failed.ensures.err) in
    holds_it p j c.args.seat.me.0 c.add_reference.new.seat.me.0 c.set_failed.new.seat.me.0 (subst (λ (x : ℕ). socket_id_slot x < p.slots) (sym e) c.requires.known.inside) held notes

pub returns-clause-seat : goal.returns-clause-seat
returns-clause-seat c = let z = c.args.table.now.rule.table.shared.table_id in let p = c.args.table.now.rule.plan in let i : ℕ = c.args.id.0 in let a = c.in-Ok.ensures.held in let e = ap (λ (x : SocketId). x.0) a.0 in let j : ℕ = c.in-Ok.sock.id.0 in let held = subst (λ (x : ℕ). Held x c.args.seat.me.0 c.add_reference.new.seat.me.0) (sym e) a.1 in
    let notes = then_notes j _ _ _ (linked_notes p _ j _ _ c.link_of-link.ensures.link) (failed_notes j 1500 c.link_of-link.new.seat.me.0 c.set_failed.new.seat.me.0 c.set_failed.result c.set_failed.ensures.ok c.set_failed.ensures.err) in
    let same = visited p j c.args.seat.me.0 c.add_reference.new.seat.me.0 c.set_failed.new.seat.me.0 c.release.new.seat.me.0 _ held notes c.release.ensures.back in
    kept_done z p c.args.seat c.release.new.seat c.requires.seat c.release.ensures.seat (c.release.ensures.slots ∙ (c.set_failed.ensures.slots ∙ (c.link_of-link.ensures.slots ∙ c.add_reference.ensures.slots))) c.release.ensures.between same

pub returns-clause-share : goal.returns-clause-share
returns-clause-share c = let z = c.args.table.now.rule.table.shared.table_id in let p = c.args.table.now.rule.plan in let i : ℕ = c.args.id.0 in let a = c.in-Ok.ensures.held in let e = ap (λ (x : SocketId). x.0) a.0 in let j : ℕ = c.in-Ok.sock.id.0 in let held = subst (λ (x : ℕ). Held x c.args.seat.me.0 c.add_reference.new.seat.me.0) (sym e) a.1 in
    let notes = then_notes j _ _ _ (linked_notes p _ j _ _ c.link_of-link.ensures.link) (failed_notes j 1500 c.link_of-link.new.seat.me.0 c.set_failed.new.seat.me.0 c.set_failed.result c.set_failed.ensures.ok c.set_failed.ensures.err) in
    (visited p j c.args.seat.me.0 c.add_reference.new.seat.me.0 c.set_failed.new.seat.me.0 c.release.new.seat.me.0 _ held notes c.release.ensures.back).share
