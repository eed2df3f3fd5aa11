use Rattle.std.proofs.Common.{◌≡◌, ℕ, ◌+◌, ◌<◌, true, List, ◌∷◌, arith, refl, sym, ap, ◌∙◌, subst}
use Rattle.atomic_table.specs.Table.{rest}
use Rattle.sock_words.specs.PackedWords.{socket_id_version, socket_id_slot, place_word, ticket_request}
use Rattle.sock_model.specs.declared.marks.SlotMark.{SlotMark}
use Rattle.sock_model.specs.declared.view.View.{View}
use Rattle.sock_model.specs.ChainRows.{dropped_right}
use Rattle.sock_model.specs.SocketTableLayout.{place_index}
use Rattle.sock_model.specs.Marks.{about, noted}
use Rattle.sock_model.specs.MarkWeights.{is_met}
use Rattle.sock_model.specs.LinksInSlots.{HoldsLink}
use Rattle.sock_rule.specs.declared.homes.SockHome.TheVariants.{Empty}
use Rattle.sock_rule.proofs.HoldingWriteRight.{one_right}
use Rattle.write_chain.proofs.NotingWhileWriting.{wrote_notes, wrote_rights, drop_then, rights_but_store}
use Rattle.write_chain.proofs.WriterThroughSteps.{part_noted, part_of, part_dropped}
use Rattle.write_chain.proofs.Faulting.{code_faults}
use Rattle.write_chain.proofs.Dropping.{code_noted, is_code, still_dead, dead_dropped}
use Rattle.write_chain.proofs.right.HeldChain.drop_one.Goals as goal
use Rattle.sock_words.specs.Totals.{total}

pub code-told-requires-clause-held : goal.code-told-requires-clause-held
code-told-requires-clause-held g c = let w = c.requires.may.0.0.writer in record { inside = w.holds.inside; held = w.holds.held }

pub drop_place-home-requires-clause-may : goal.drop_place-home-requires-clause-may
drop_place-home-requires-clause-may g c = let h = part_noted c.args.hand c.args.seat.now.me c.code-told.new.seat.me (code_noted {state = g.O.Out.state} c.code-told.result c.args.self.now.sock.id.0 c.args.seat.now.me.0 c.code-told.new.seat.me.0 c.code-told.ensures.code).notes (code_noted {state = g.O.Out.state} c.code-told.result c.args.self.now.sock.id.0 c.args.seat.now.me.0 c.code-told.new.seat.me.0 c.code-told.ensures.code).noted (code_noted {state = g.O.Out.state} c.code-told.result c.args.self.now.sock.id.0 c.args.seat.now.me.0 c.code-told.new.seat.me.0 c.code-told.ensures.code).became c.code-told.ensures.slots (λ t. c.requires.may.0.0.noted (code_faults c.args.hand.link c.code-told.result c.args.self.now.sock.id.0 c.args.seat.now.me.0 c.code-told.new.seat.me.0 c.code-told.ensures.code t)) c.requires.may.0 in (
  c.args.hand.link,
  c.args.hand.home.next,
  record {
    placing = record {
      right = h.0.right_is;
      one = h.0.writer.one;
      now = c.args.hand.now.0;
      stage = h.0.stage_is;
      taken = h.0.taken;
      away = h.0.has.away;
      place_is = ap (λ l. l.place) h.0.label_is;
      place_in = h.0.place_in;
      link_is = h.0.writer.link_is;
      places_are = sym h.0.has.places_are;
    };
    part = part_of c.args.hand c.code-told.new.seat.me h;
    slot = socket_id_slot c.args.self.now.sock.id.0;
    life = socket_id_version c.args.self.now.sock.id.0;
    holds = subst (λ (k : ℕ). HoldsLink c.args.self.now.table.now.rule.plan c.code-told.new.seat.me.0 (socket_id_slot c.args.self.now.sock.id.0) (socket_id_version c.args.self.now.sock.id.0) k) (sym h.0.writer.link_is) h.0.writer.holds;
    seen = still_dead {state = g.O.Out.state} c.args.self.now.sock.id.0 c.args.seat.now.me.0 c.code-told.new.seat.me.0 (wrote_notes c.args.seat.now.me.0 c.code-told.new.seat.me.0 (code_noted {state = g.O.Out.state} c.code-told.result c.args.self.now.sock.id.0 c.args.seat.now.me.0 c.code-told.new.seat.me.0 c.code-told.ensures.code).notes (code_noted {state = g.O.Out.state} c.code-told.result c.args.self.now.sock.id.0 c.args.seat.now.me.0 c.code-told.new.seat.me.0 c.code-told.ensures.code).noted (code_noted {state = g.O.Out.state} c.code-told.result c.args.self.now.sock.id.0 c.args.seat.now.me.0 c.code-told.new.seat.me.0 c.code-told.ensures.code).became) c.requires.may.1;
  },
  omega (arith, c.pack-place.ensures.word),
)

pub drop_place-home-requires-clause-ticket : goal.drop_place-home-requires-clause-ticket
drop_place-home-requires-clause-ticket g c = let t = c.requires.may.0.0.ticket in (t.some_slot, t.small)

pub drop_place-home-requires-clause-top : goal.drop_place-home-requires-clause-top
drop_place-home-requires-clause-top g c = let h = part_noted c.args.hand c.args.seat.now.me c.code-told.new.seat.me (code_noted {state = g.O.Out.state} c.code-told.result c.args.self.now.sock.id.0 c.args.seat.now.me.0 c.code-told.new.seat.me.0 c.code-told.ensures.code).notes (code_noted {state = g.O.Out.state} c.code-told.result c.args.self.now.sock.id.0 c.args.seat.now.me.0 c.code-told.new.seat.me.0 c.code-told.ensures.code).noted (code_noted {state = g.O.Out.state} c.code-told.result c.args.self.now.sock.id.0 c.args.seat.now.me.0 c.code-told.new.seat.me.0 c.code-told.ensures.code).became c.code-told.ensures.slots (λ t. c.requires.may.0.0.noted (code_faults c.args.hand.link c.code-told.result c.args.self.now.sock.id.0 c.args.seat.now.me.0 c.code-told.new.seat.me.0 c.code-told.ensures.code t)) c.requires.may.0 in h.0.slots ∙ ap (λ l. (ticket_request c.args.hand.now.0, Empty) ∷ l) (sym (ap rest h.0.slots))

pub go_past-doing-requires-clause-may : goal.go_past-doing-requires-clause-may
go_past-doing-requires-clause-may g c = let h = part_noted c.args.hand c.args.seat.now.me c.code-told.new.seat.me (code_noted {state = g.O.Out.state} c.code-told.result c.args.self.now.sock.id.0 c.args.seat.now.me.0 c.code-told.new.seat.me.0 c.code-told.ensures.code).notes (code_noted {state = g.O.Out.state} c.code-told.result c.args.self.now.sock.id.0 c.args.seat.now.me.0 c.code-told.new.seat.me.0 c.code-told.ensures.code).noted (code_noted {state = g.O.Out.state} c.code-told.result c.args.self.now.sock.id.0 c.args.seat.now.me.0 c.code-told.new.seat.me.0 c.code-told.ensures.code).became c.code-told.ensures.slots (λ t. c.requires.may.0.0.noted (code_faults c.args.hand.link c.code-told.result c.args.self.now.sock.id.0 c.args.seat.now.me.0 c.code-told.new.seat.me.0 c.code-told.ensures.code t)) c.requires.may.0 in let is = c.drop_place-home.ensures.home in let n = c.count_place.ensures in (
  part_dropped c.args.hand c.count_place.new.self c.code-told.new.seat.me c.drop_place-home.new.seat.me h.0 (n.same.0 ∙ ap (λ y. y.took.list) is, n.same.1 ∙ ap (λ y. y.next + 1) is) (n.out ∙ ap (λ y. y.out) is) (place_index c.args.self.now.table.now.rule.plan c.args.hand.label.place) c.pack-place.result.0
      (c.drop_place-home.ensures.view h.0.right_is c.args.hand.now.0 h.0.writer.one h.0.stage_is),
  h.0.ticket,
)

pub returns-clause-wrote : goal.returns-clause-wrote
returns-clause-wrote g c = let h = part_noted c.args.hand c.args.seat.now.me c.code-told.new.seat.me (code_noted {state = g.O.Out.state} c.code-told.result c.args.self.now.sock.id.0 c.args.seat.now.me.0 c.code-told.new.seat.me.0 c.code-told.ensures.code).notes (code_noted {state = g.O.Out.state} c.code-told.result c.args.self.now.sock.id.0 c.args.seat.now.me.0 c.code-told.new.seat.me.0 c.code-told.ensures.code).noted (code_noted {state = g.O.Out.state} c.code-told.result c.args.self.now.sock.id.0 c.args.seat.now.me.0 c.code-told.new.seat.me.0 c.code-told.ensures.code).became c.code-told.ensures.slots (λ t. c.requires.may.0.0.noted (code_faults c.args.hand.link c.code-told.result c.args.self.now.sock.id.0 c.args.seat.now.me.0 c.code-told.new.seat.me.0 c.code-told.ensures.code t)) c.requires.may.0 in
    let left = rights_but_store c.code-told.new.seat.me.0 c.drop_place-home.new.seat.me.0 c.go_past-doing.new.seat.me.0 (place_index c.args.self.now.table.now.rule.plan c.args.hand.label.place) c.pack-place.result.0 h.0.right_is.heading (dropped_right h.0.right_is c.args.hand.now.0 c.args.hand.home.took.list)
    (ap (λ m. m.0) (c.drop_place-home.ensures.view h.0.right_is c.args.hand.now.0 h.0.writer.one h.0.stage_is)) c.go_past-doing.ensures.others in
    let dropped = dropped_right h.0.right_is c.args.hand.now.0 c.args.hand.home.took.list in
    let kept = c.go_past-doing.ensures.message dropped (ap (λ m. m.0.rights) (c.drop_place-home.ensures.view h.0.right_is c.args.hand.now.0 h.0.writer.one h.0.stage_is) ∙ one_right c.code-told.new.seat.me.0 h.0.right_is dropped h.0.writer.one refl) in
    let value : c.pack-place.result.0 ≡ place_word true c.args.hand.link c.args.hand.home.next = omega (arith, c.pack-place.ensures.word) in
    let begun = wrote_notes c.args.seat.now.me.0 c.code-told.new.seat.me.0 (code_noted {state = g.O.Out.state} c.code-told.result c.args.self.now.sock.id.0 c.args.seat.now.me.0 c.code-told.new.seat.me.0 c.code-told.ensures.code).notes (code_noted {state = g.O.Out.state} c.code-told.result c.args.self.now.sock.id.0 c.args.seat.now.me.0 c.code-told.new.seat.me.0 c.code-told.ensures.code).noted (code_noted {state = g.O.Out.state} c.code-told.result c.args.self.now.sock.id.0 c.args.seat.now.me.0 c.code-told.new.seat.me.0 c.code-told.ensures.code).became in
    drop_then {state = g.O.Out.state} c.args.self.now.table.now.rule.plan record { left = c.args.hand.bytes; label = c.args.hand.label; owner = c.args.hand.owner; numbered = c.result-1.given.0 } c.args.seat.now.me.0 c.code-told.new.seat.me.0 c.go_past-doing.new.seat.me.0 begun record {
      link = c.args.hand.link;
      position = c.args.hand.home.next;
      low = c.requires.may.0.0.few;
      met = subst (λ (l : List SlotMark). 0 < total (is_met (socket_id_version c.args.self.now.sock.id.0) c.args.hand.link) (about (socket_id_slot c.args.self.now.sock.id.0) l)) (sym (ap (λ (y : View). y.marks) left.0)) h.0.writer.holds.met;
      stores = left.1 ∙ ap (λ (x : ℕ). noted record { place = place_index c.args.self.now.table.now.rule.plan c.args.hand.label.place; word = x } c.code-told.new.seat.me.0.stores) value;
      heading = h.0.right_is.heading;
      drops = left.2;
      label_is = h.0.label_is;
      owner_is = h.0.owner_is;
      right = kept.0;
      one = kept.1;
      heading_is = kept.2;
      before = h.0.right_is.sent;
      begun = h.0.begun;
      sent = kept.4 ∙ h.0.took;
      bytes = kept.3 ∙ h.0.bytes_are;
      wrote = wrote_rights c.code-told.new.seat.me.0 (record c.go_past-doing.new.seat.me.0 { stores = c.code-told.new.seat.me.0.stores; drops = c.code-told.new.seat.me.0.drops }) left.0;
    }

pub returns-clause-dead : goal.returns-clause-dead
returns-clause-dead g c = dead_dropped c.args.self.now.table.now.rule.plan c.args.self.now.sock.id.0 _ c.args.seat.now.me.0 c.go_past-doing.new.seat.me.0 (returns-clause-wrote g c) c.requires.may.1

pub returns-clause-code : goal.returns-clause-code
returns-clause-code g c = let h = part_noted c.args.hand c.args.seat.now.me c.code-told.new.seat.me (code_noted {state = g.O.Out.state} c.code-told.result c.args.self.now.sock.id.0 c.args.seat.now.me.0 c.code-told.new.seat.me.0 c.code-told.ensures.code).notes (code_noted {state = g.O.Out.state} c.code-told.result c.args.self.now.sock.id.0 c.args.seat.now.me.0 c.code-told.new.seat.me.0 c.code-told.ensures.code).noted (code_noted {state = g.O.Out.state} c.code-told.result c.args.self.now.sock.id.0 c.args.seat.now.me.0 c.code-told.new.seat.me.0 c.code-told.ensures.code).became c.code-told.ensures.slots (λ t. c.requires.may.0.0.noted (code_faults c.args.hand.link c.code-told.result c.args.self.now.sock.id.0 c.args.seat.now.me.0 c.code-told.new.seat.me.0 c.code-told.ensures.code t)) c.requires.may.0 in is_code c.code_or-code.result c.code-told.result c.args.self.now.sock.id.0 c.args.seat.now.me.0 c.code-told.new.seat.me.0 c.go_past-doing.new.seat.me.0 c.code-told.ensures.code c.code_or-code.ensures.code c.code-told.ensures.small
    (ap (λ v. v.marks) c.go_past-doing.ensures.others ∙ ap (λ m. m.0.marks) (c.drop_place-home.ensures.view h.0.right_is c.args.hand.now.0 h.0.writer.one h.0.stage_is))
