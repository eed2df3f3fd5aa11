use Rattle.std.proofs.Common.{[], false, refl, sym, ap, ◌∙◌, subst}
use Rattle.sock_words.specs.PackedWords.{socket_id_slot}
use Rattle.sock_model.specs.ChainRows.{with_right}
use Rattle.sock_model.specs.declared.view.View.{View}
use Rattle.sock_rule.specs.MarksComeAndGo.{Became}
use Rattle.sock_rule.specs.LinkFaultNotes.{fault_found}
use Rattle.write_chain.proofs.Faulting.{found_marks, found_noted, found_became, found_rights}
use Rattle.write_chain.proofs.WriterThroughSteps.{link_fetched}
use Rattle.write_chain.proofs.right.HeldChain.fetch_link.Goals as goal

pub slot_at-slot-requires : goal.slot_at-slot-requires
slot_at-slot-requires g c = record { inside = c.requires.may.2.writer.holds.inside }

pub returns-clause-has : goal.returns-clause-has
returns-clause-has g c = let e = c.take_link-home.ensures in λ last stage s. link_fetched c.args.link stage record { link = c.args.link; home = c.take_link-home.result } c.args.seat.now.me c.take_link-home.new.seat.me s refl e.came.link_in (e.came.link_is, e.unfinished) e.came.way_is (e.took s.right_is s.writer.one) c.slot_at-slot.result c.slot_at-slot.ensures.slot e.came.known (e.view s.right_is s.writer.one)

pub returns-clause-wrote : goal.returns-clause-wrote
returns-clause-wrote g c = let s = c.requires.may.2 in let n = (g.O.Out.state c.take_link-home.result.out).faults in let v = c.args.seat.now.me.0 in
    let by = ap (λ m. record m.0 { rights = v.rights }) (c.take_link-home.ensures.view s.right_is s.writer.one) ∙ found_rights n c.slot_at-slot.result c.args.link v (with_right v (record s.right_is { at_home = false })).rights in record {
      notes = found_marks n c.args.link;
      noted = found_noted n c.args.link;
      became = subst (λ (y : View). Became (socket_id_slot c.args.self.now.sock.id.0) v y (found_marks n c.args.link) []) (sym by) (subst (λ j. Became j v (fault_found n c.slot_at-slot.result c.args.link v) (found_marks n c.args.link) []) c.slot_at-slot.ensures.slot (found_became n c.slot_at-slot.result c.args.link v));
    }
