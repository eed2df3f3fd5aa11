use Rattle.std.proofs.Common.{ℕ, ◌<◌, sym, ap, subst}
use Rattle.sock_words.specs.PackedWords.{socket_id_version}
use Rattle.sock_model.specs.MarkWeights.{is_hold}
use Rattle.sock_model.specs.SlotRows.{marks_of}
use Rattle.sock_table.proofs.Learning.{code_of, code_between}
use Rattle.sock_table.proofs.table.SockTable.code.Goals as goal

pub load_code-found-requires-clause-held : goal.load_code-found-requires-clause-held
load_code-found-requires-clause-held g c = (socket_id_version c.args.sock.now.id.0, (subst (λ (j : ℕ). 0 < marks_of (is_hold (socket_id_version c.args.sock.now.id.0)) j c.args.seat.now.me.0) (sym c.slot-slot.ensures) c.requires.held.held))

pub returns-clause-code : goal.returns-clause-code
returns-clause-code g c = let h = (subst (λ (j : ℕ). 0 < marks_of (is_hold (socket_id_version c.args.sock.now.id.0)) j c.args.seat.now.me.0) (sym c.slot-slot.ensures) c.requires.held.held) in code_of c.args.self.now.rule.plan c.slot-slot.result c.args.sock.now.id.0 c.args.seat.now.me.0 c.load_code-found.new.seat.me.0 c.slot-slot.ensures c.load_code-found.result (ap (λ m. m.0) (c.load_code-found.ensures.view _ h)) (λ d. c.load_code-found.ensures.same _ d h)

pub returns-clause-between : goal.returns-clause-between
returns-clause-between g c = let h = (subst (λ (j : ℕ). 0 < marks_of (is_hold (socket_id_version c.args.sock.now.id.0)) j c.args.seat.now.me.0) (sym c.slot-slot.ensures) c.requires.held.held) in code_between c.args.self.now.rule.plan c.slot-slot.result c.args.sock.now.id.0 c.args.seat.now.me.0 c.load_code-found.new.seat.me.0 c.slot-slot.ensures c.load_code-found.result (ap (λ m. m.0) (c.load_code-found.ensures.view _ h))

pub returns-clause-slots : goal.returns-clause-slots
returns-clause-slots g c = let h = (subst (λ (j : ℕ). 0 < marks_of (is_hold (socket_id_version c.args.sock.now.id.0)) j c.args.seat.now.me.0) (sym c.slot-slot.ensures) c.requires.held.held) in ap (λ m. m.1) (c.load_code-found.ensures.view _ h)
