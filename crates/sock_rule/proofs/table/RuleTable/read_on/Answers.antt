use Rattle.std.proofs.Common.{◌≡◌, arith, refl, ◌∙◌, sym, ap, subst}
use Rattle.sock_model.specs.declared.chain.Stage.TheVariants.{Placed}
use Rattle.sock_rule.specs.OnKey.{shows_by}
use Rattle.sock_rule.specs.Shows.{rose}
use Rattle.sock_rule.proofs.SeatStaysInTable.{still_seat}
use Rattle.sock_rule.proofs.HoldingWriteRight.{the_right}
use Rattle.sock_rule.proofs.LinkOwnerSteps.{reads_on_on}
use Rattle.sock_rule.proofs.table.RuleTable.read_on.Goals as goal

pub next_index-index-requires : goal.next_index-index-requires
next_index-index-requires g c = omega (arith, c.requires.ticket.1, c.request.ensures)

pub load-requires : goal.load-requires
load-requires g c = let a = c.requires.seat in (a.0, omega (arith, c.args.self.now.sized, c.requires.ticket.1, c.request.ensures, c.next_index-index.ensures), reads_on_on (shows_by c.args.self.now.table.shared.key) rose c.args.self.now.table.shared.key.plan c.args.self.now.plan _ _ _ a.1 a.2 c.args.self.now.planned c.args.now.0 _ (omega (arith, c.request.ensures, c.next_index-index.ensures)) c.requires.may)

pub returns-clause-view : goal.returns-clause-view
returns-clause-view g c = λ r one. let m = c.requires.may in let same = the_right c.args.seat.now.me.0.rights m.right r m.one one in
    (c.load.ensures.2 r one).0 c.args.now.0 (subst (λ x. x.stage ≡ Placed c.args.now.0) same m.stage) (λ e. m.more (e ∙ ap (λ x. x.last) (sym same)))

pub returns-clause-seat : goal.returns-clause-seat
returns-clause-seat g c = let m = c.requires.may in still_seat _ _ c.args.seat.now c.load.new.seat _ c.requires.seat c.load.ensures.0 (((c.load.ensures.2 m.right m.one).0 c.args.now.0 m.stage m.more).0) refl refl
