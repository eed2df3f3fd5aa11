use Rattle.std.proofs.Common.{◌+◌, ◌∷◌, refl, sym, ap, ◌∙◌, subst}
use Rattle.atomic_table.specs.Table.{rest}
use Rattle.sock_words.specs.declared.plain.Plan.{Plan}
use Rattle.sock_rule.specs.declared.homes.SockHome.TheVariants.{Empty}
use Rattle.sock_rule.specs.ChainPlays.{IsTicket}
use Rattle.write_chain.proofs.NotingWhileWriting.{rights_only, rights_then}
use Rattle.write_chain.proofs.WriterThroughSteps.{link_home, may_empty, gave_up, walks_from}
use Rattle.write_chain.proofs.right.HeldChain.leave.Goals as goal

pub slot_at-slot-requires : goal.slot_at-slot-requires
slot_at-slot-requires g c = record { inside = c.requires.may.writer.holds.inside }

pub put_own_link-requires-clause-inside : goal.put_own_link-requires-clause-inside
put_own_link-requires-clause-inside g c = c.requires.may.has.link_in

pub put_own_link-requires-clause-top : goal.put_own_link-requires-clause-top
put_own_link-requires-clause-top g c = let h = c.requires.may in h.slots ∙ ap (λ l. (c.args.self.table.now.rule.plan.requests + c.args.link.link, Empty) ∷ l) (sym (ap rest h.slots))

pub put_own_link-requires-clause-right : goal.put_own_link-requires-clause-right
put_own_link-requires-clause-right g c = let h = c.requires.may in (h.right_is, h.writer.one, h.writer.link_is, h.has.away, h.took, h.has.places_are)

pub put_own_link-requires-clause-noted : goal.put_own_link-requires-clause-noted
put_own_link-requires-clause-noted g c = c.requires.may.noted

pub put_own_link-requires-clause-link : goal.put_own_link-requires-clause-link
put_own_link-requires-clause-link g c = (c.requires.may.has.own, c.requires.may.has.unfinished)

pub put_own_link-requires-clause-way : goal.put_own_link-requires-clause-way
put_own_link-requires-clause-way g c = c.requires.may.has.way

pub empty_head-step-requires-clause-may : goal.empty_head-step-requires-clause-may
empty_head-step-requires-clause-may g c = let h = c.requires.may in may_empty c.slot_at-slot.result c.slot_at-slot.ensures.slot (link_home c.args.link c.args.seat.now.me c.put_own_link.new.seat.me h (c.put_own_link.ensures.view h.right_is h.writer.one))

pub empty_head-step-requires-clause-ticket : goal.empty_head-step-requires-clause-ticket
empty_head-step-requires-clause-ticket g c = c.requires.may.writer.last_ticket.small

pub returns-then-step-last-clause-once : goal.returns-then-step-last-clause-once
returns-then-step-last-clause-once g c = let h = c.requires.may in let s = link_home c.args.link c.args.seat.now.me c.put_own_link.new.seat.me h (c.put_own_link.ensures.view h.right_is h.writer.one) in
    (refl, gave_up c.put_own_link.new.seat.me c.empty_head-step.new.seat.me s ((c.empty_head-step.ensures.view s.right_is s.writer.one).0 c.if-step-last.true))

pub returns-then-step-last-clause-others : goal.returns-then-step-last-clause-others
returns-then-step-last-clause-others g c = let h = c.requires.may in let put = c.put_own_link.ensures.view h.right_is h.writer.one in let s = link_home c.args.link c.args.seat.now.me c.put_own_link.new.seat.me h put in
    rights_then c.args.seat.now.me.0 c.put_own_link.new.seat.me.0 c.empty_head-step.new.seat.me.0 (rights_only c.args.seat.now.me.0 c.put_own_link.new.seat.me.0 _ (ap (λ m. m.0) put))
    (rights_only c.put_own_link.new.seat.me.0 c.empty_head-step.new.seat.me.0 _ (ap (λ m. m.0) ((c.empty_head-step.ensures.view s.right_is s.writer.one).0 c.if-step-last.true)))

pub returns-clause-once : goal.returns-clause-once
returns-clause-once g c = let h = c.requires.may in let s = link_home c.args.link c.args.seat.now.me c.put_own_link.new.seat.me h (c.put_own_link.ensures.view h.right_is h.writer.one) in
    let lost = (c.empty_head-step.ensures.view s.right_is s.writer.one).1 c.if-step-last.false in (
      refl,
      (walks_from c.empty_head-step.result.found c.put_own_link.new.seat.me c.empty_head-step.new.seat.me s lost.0, subst (λ (q : Plan). IsTicket q c.empty_head-step.result.found) c.put_own_link.ensures.seat.1 lost.1),
      tt,
    )

pub returns-clause-others : goal.returns-clause-others
returns-clause-others g c = let h = c.requires.may in let put = c.put_own_link.ensures.view h.right_is h.writer.one in let s = link_home c.args.link c.args.seat.now.me c.put_own_link.new.seat.me h put in
    rights_then c.args.seat.now.me.0 c.put_own_link.new.seat.me.0 c.empty_head-step.new.seat.me.0 (rights_only c.args.seat.now.me.0 c.put_own_link.new.seat.me.0 _ (ap (λ m. m.0) put))
    (rights_only c.put_own_link.new.seat.me.0 c.empty_head-step.new.seat.me.0 _ (ap (λ m. m.0) ((c.empty_head-step.ensures.view s.right_is s.writer.one).1 c.if-step-last.false).0))

pub returns-then-step-last-clause-left : goal.returns-then-step-last-clause-left
returns-then-step-last-clause-left g c = tt

pub returns-clause-left : goal.returns-clause-left
returns-clause-left g c = tt
