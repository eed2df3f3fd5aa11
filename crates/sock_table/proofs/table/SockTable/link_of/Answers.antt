use Rattle.std.proofs.Common.{ℕ, ◌<◌, sym, ap, subst}
use Rattle.sock_words.specs.PackedWords.{socket_id_version}
use Rattle.sock_model.specs.MarkWeights.{is_hold}
use Rattle.sock_model.specs.SlotRows.{marks_of}
use Rattle.sock_table.proofs.Learning.{link_of, link_between}
use Rattle.sock_table.proofs.table.SockTable.link_of.Goals as goal

pub load_link-found-requires-clause-held : goal.load_link-found-requires-clause-held
load_link-found-requires-clause-held g c = (socket_id_version c.args.sock.now.id.0, (subst (λ (j : ℕ). 0 < marks_of (is_hold (socket_id_version c.args.sock.now.id.0)) j c.args.seat.now.me.0) (sym c.slot-slot.ensures) c.requires.held.held))

pub returns-clause-link : goal.returns-clause-link
returns-clause-link g c = let h = (subst (λ (j : ℕ). 0 < marks_of (is_hold (socket_id_version c.args.sock.now.id.0)) j c.args.seat.now.me.0) (sym c.slot-slot.ensures) c.requires.held.held) in link_of c.args.self.now.rule.plan c.slot-slot.result c.args.sock.now.id.0 c.args.seat.now.me.0 c.load_link-found.new.seat.me.0 c.slot-slot.ensures c.load_link-found.result (ap (λ m. m.0) (c.load_link-found.ensures.view _ h)) (λ d. c.load_link-found.ensures.same _ d h) c.load_link-found.ensures.inside

pub returns-clause-between : goal.returns-clause-between
returns-clause-between g c = link_between c.args.self.now.rule.plan c.slot-slot.result c.args.sock.now.id.0 c.args.seat.now.me.0 c.load_link-found.new.seat.me.0 c.slot-slot.ensures c.load_link-found.result (returns-clause-link g c)

pub returns-clause-slots : goal.returns-clause-slots
returns-clause-slots g c = let h = (subst (λ (j : ℕ). 0 < marks_of (is_hold (socket_id_version c.args.sock.now.id.0)) j c.args.seat.now.me.0) (sym c.slot-slot.ensures) c.requires.held.held) in ap (λ m. m.1) (c.load_link-found.ensures.view _ h)
