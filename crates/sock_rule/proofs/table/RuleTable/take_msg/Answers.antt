use Rattle.std.proofs.Common.{◌*◌, ◌<◌, ◌∷◌, arith, refl, ◌∙◌, sym, subst}
use Rattle.sock_rule.specs.OnKey.{shows_by}
use Rattle.sock_rule.specs.Shows.{rose}
use Rattle.sock_rule.proofs.SeatStaysInTable.{still_seat}
use Rattle.sock_rule.proofs.WaysByTableKey.{letters_alike}
use Rattle.sock_rule.proofs.HoldingWriteRight.{takes_letter, stage_of}
use Rattle.sock_rule.proofs.HandingLinkFromHome.{must_letter, letter_label, letter_after}
use Rattle.sock_rule.proofs.table.RuleTable.take_msg.Goals as goal

pub load-requires : goal.load-requires
load-requires g c = let a = c.requires.seat in let r = c.requires.may in (a.0, omega (arith, c.args.self.now.sized, c.args.self.now.some_slots), letters_alike c.args.self.now.table.shared.key.plan c.args.self.now.table.shared.key.ways.list _ _ _ _ _ (takes_letter (shows_by c.args.self.now.table.shared.key) rose c.args.self.now.table.shared.key.plan _ _ _ (a.1 ∙ sym c.args.self.now.planned) a.2 r.right r.one 0 c.args.now.0 r.stage r.idle))

pub exchange-value-requires : goal.exchange-value-requires
exchange-value-requires g c = let t = (c.load.ensures.2 c.requires.may.right c.args.now.0 c.requires.may.one c.requires.may.stage) in (c.load.ensures.0 ∙ c.requires.seat.0, (t.value, t.slots ∙ (λ i. (sym c.request-home_index.ensures i, t.value) ∷ Rattle.atomic_table.specs.Table.rest (sym t.slots i))))

pub unreachable-requires : goal.unreachable-requires
unreachable-requires g c = must_letter _ _ _ _ (c.load.ensures.2 c.requires.may.right c.args.now.0 c.requires.may.one c.requires.may.stage) _ _ c.exchange-value.ensures.2 c.in_default.not-Message

pub returns-clause-view : goal.returns-clause-view
returns-clause-view g c = λ r one. letter_after _ _ r c.args.now.0 (c.load.ensures.2 r c.args.now.0 one (stage_of c.args.seat.now.me.0 c.requires.may.right r c.args.now.0 c.requires.may.one one c.requires.may.stage)) _ _ c.exchange-value.ensures.2 c.in-Message.msg c.in-Message.is c.request-home_index.ensures _ c.exchange-value.ensures.3

pub returns-clause-label : goal.returns-clause-label
returns-clause-label g c = subst (λ q. c.in-Message.msg.label.place < 8 * q.operations) c.requires.seat.1 (letter_label _ _ _ _ (c.load.ensures.2 c.requires.may.right c.args.now.0 c.requires.may.one c.requires.may.stage) _ _ c.exchange-value.ensures.2 c.in-Message.msg c.in-Message.is)

pub returns-clause-seat : goal.returns-clause-seat
returns-clause-seat g c = still_seat _ _ c.args.seat.now c.exchange-value.new.seat _ c.requires.seat (c.exchange-value.ensures.0 ∙ c.load.ensures.0) (letter_after _ _ _ _ (c.load.ensures.2 c.requires.may.right c.args.now.0 c.requires.may.one c.requires.may.stage) _ _ c.exchange-value.ensures.2 c.in-Message.msg c.in-Message.is c.request-home_index.ensures _ c.exchange-value.ensures.3) refl refl

pub returns-clause-few : goal.returns-clause-few
returns-clause-few g c = λ r one. (c.load.ensures.2 r c.args.now.0 one (stage_of c.args.seat.now.me.0 c.requires.may.right r c.args.now.0 c.requires.may.one one c.requires.may.stage)).few
