use Rattle.std.proofs.Common.{ℕ, refl, sym, ap, ◌∙◌, subst}
use Rattle.sock_model.specs.declared.marks.Mark.TheVariants.{Hold}
use Rattle.sock_words.specs.declared.socket_id.SocketId.{SocketId}
use Rattle.sock_words.specs.PackedWords.{socket_id_version, socket_id_slot}
use Rattle.sock_table.specs.ReferenceCalls.{GaveBack}
use Rattle.sock_table.specs.ReferenceAnswers.{Holds, LinkOf, is_freed}
use Rattle.sock_open.proofs.SeatsHoldingNothing.{done_between, kept_done, may_address, gone_same, visited, no_notes, holds_it, known_by}
use Rattle.sock_open.proofs.Racing.{linked_notes}
use Rattle.part_rows.proofs.sockets.poke.Goals as goal

pub add_reference-requires : goal.add_reference-requires
add_reference-requires c = let s = c.loop.invariant.0 in let k = c.loop.invariant.1 in record { seat = s.seat; may = may_address _ _ c.loop.seat c.args.id.0 s k.inside k.known; between = done_between c.args.table.now.rule.table.shared.table_id c.args.table.now.rule.plan c.loop.seat s }

pub link_of-found-requires-clause-held : goal.link_of-found-requires-clause-held
link_of-found-requires-clause-held c = let z = c.args.table.now.rule.table.shared.table_id in let p = c.args.table.now.rule.plan in let i : ℕ = c.args.id.0 in let a = c.in-Ok.ensures.held in let e = ap (λ (x : SocketId). x.0) a.0 in subst (λ (x : ℕ). Holds p c.add_reference.new.seat.me.0 x) (sym e) (holds_it p i c.loop.seat.me.0 c.add_reference.new.seat.me.0 c.add_reference.new.seat.me.0 c.loop.invariant.1.inside a.1 (no_notes i c.add_reference.new.seat.me.0))

pub release-requires-clause-held : goal.release-requires-clause-held
release-requires-clause-held c = let z = c.args.table.now.rule.table.shared.table_id in let p = c.args.table.now.rule.plan in let i : ℕ = c.args.id.0 in let a = c.in-Ok.ensures.held in let e = ap (λ (x : SocketId). x.0) a.0 in let found = subst (λ (x : ℕ). LinkOf p c.link_of-found.result x c.add_reference.new.seat.me.0 c.link_of-found.new.seat.me.0) e c.link_of-found.ensures.link in subst (λ (x : ℕ). Holds p c.link_of-found.new.seat.me.0 x) (sym e) (holds_it p i c.loop.seat.me.0 c.add_reference.new.seat.me.0 c.link_of-found.new.seat.me.0 c.loop.invariant.1.inside a.1 (linked_notes p _ i _ _ found))

pub loop-preserved : goal.loop-preserved
loop-preserved c = let z = c.args.table.now.rule.table.shared.table_id in let p = c.args.table.now.rule.plan in let i : ℕ = c.args.id.0 in let a = c.in-Ok.ensures.held in let e = ap (λ (x : SocketId). x.0) a.0 in
    let k = c.loop.invariant.1 in let found = subst (λ (x : ℕ). LinkOf p c.link_of-found.result x c.add_reference.new.seat.me.0 c.link_of-found.new.seat.me.0) e c.link_of-found.ensures.link in
    let back = subst (λ (x : ℕ). GaveBack (socket_id_slot x) c.link_of-found.new.seat.me.0 c.release.new.seat.me.0 (Hold (socket_id_version x)) (is_freed c.release.result)) e c.release.ensures.back in
    let same = visited p i c.loop.seat.me.0 c.add_reference.new.seat.me.0 c.link_of-found.new.seat.me.0 c.release.new.seat.me.0 _ a.1 (linked_notes p _ i _ _ found) back in (
      kept_done z p c.loop.seat c.release.new.seat c.loop.invariant.0 c.release.ensures.seat (c.release.ensures.slots ∙ (c.link_of-found.ensures.slots ∙ c.add_reference.ensures.slots)) c.release.ensures.between same,
      record { inside = k.inside; known = known_by _ _ _ _ _ _ _ back.became refl (known_by _ _ _ _ _ _ _ found.became refl (known_by _ _ _ _ _ _ _ a.1 refl k.known)) },
      same.share ∙ c.loop.invariant.2,
    )

pub loop-preserved-in_default : goal.loop-preserved-in_default
loop-preserved-in_default c = let z = c.args.table.now.rule.table.shared.table_id in let p = c.args.table.now.rule.plan in let k = c.loop.invariant.1 in let gone = c.in_default.ensures.gone in
    let same = gone_same p c.args.id.0 _ c.loop.seat.me.0 c.add_reference.new.seat.me.0 gone in (
      kept_done z p c.loop.seat c.add_reference.new.seat c.loop.invariant.0 c.add_reference.ensures.seat c.add_reference.ensures.slots c.add_reference.ensures.between same,
      record { inside = k.inside; known = known_by _ _ _ _ _ _ _ gone.became refl k.known },
      same.share ∙ c.loop.invariant.2,
    )
