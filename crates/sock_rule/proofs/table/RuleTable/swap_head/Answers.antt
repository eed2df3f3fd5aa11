use Rattle.std.proofs.Common.{◌<◌, arith, ◌∙◌, sym, subst}
use Rattle.sock_rule.specs.OnKey.{shows_by}
use Rattle.sock_rule.specs.Shows.{rose}
use Rattle.sock_rule.specs.SendingOnRequestWords.{MaySwap}
use Rattle.sock_rule.proofs.Chaining.{swaps}
use Rattle.sock_rule.proofs.SendingOnRequestWords.{swapped_seat}
use Rattle.sock_rule.proofs.table.RuleTable.swap_head.Goals as goal

pub swap-found-requires : goal.swap-found-requires
swap-found-requires g c = let a = c.requires.seat in let m = subst (λ q. MaySwap q c.args.seat.now.me.0 c.args.at c.args.own.0) (sym c.args.self.now.planned) c.requires.may in
    (a.0, omega (arith, c.head_index-index.ensures, c.args.self.now.sized, c.requires.slot), rw c.head_index-index.ensures (swaps (shows_by c.args.self.now.table.shared.key) rose c.args.self.now.table.shared.key.plan _ _ _ (a.1 ∙ sym c.args.self.now.planned) a.2 c.args.at c.args.own.0 m.exchange (subst (λ q. c.args.at < q.slots) (sym c.args.self.now.planned) c.requires.slot) m.room))

pub returns-clause-view : goal.returns-clause-view
returns-clause-view g c = λ d is. rw c.swap_head.ensures.step.0 (c.swap-found.ensures.2 d is)

pub returns-clause-seat : goal.returns-clause-seat
returns-clause-seat g c = swapped_seat _ _ c.args.seat.now c.swap-found.new.seat c.requires.may.exchange.claim c.swap-found.result c.requires.seat c.swap-found.ensures.0 (c.swap-found.ensures.2 c.requires.may.exchange.claim c.requires.may.exchange.claims)
