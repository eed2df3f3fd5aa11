use Rattle.std.proofs.Common.{ℕ, ◌+◌, ◌∷◌, false, arith, ◌∙◌, sym, ap, subst}
use Rattle.sock_rule.specs.LinkFaultNotes.{fault_found, CameOut}
use Rattle.sock_model.specs.ChainRows.{with_right}
use Rattle.sock_rule.specs.declared.homes.SockHome.TheVariants.{Empty}
use Rattle.sock_rule.specs.OnKey.{shows_by, LinkOnTop}
use Rattle.sock_rule.specs.Shows.{rose, SaysWays}
use Rattle.sock_rule.proofs.SeatStaysInTable.{still_seat}
use Rattle.sock_rule.proofs.WaysByTableKey.{owns_said}
use Rattle.sock_rule.proofs.LinkFaultNotes.{found_alike}
use Rattle.sock_rule.proofs.HoldingWriteRight.{takes_own, the_right}
use Rattle.sock_rule.proofs.HandingLinkFromHome.{own_came, came_home, came_out, came_done, came_took, came_after}
use Rattle.sock_rule.proofs.table.RuleTable.take_link.Goals as goal

pub compare_exchange_with-requires : goal.compare_exchange_with-requires
compare_exchange_with-requires g c = let a = c.requires.seat in let r = c.requires.home in (a.0, omega (arith, c.link_index.ensures, c.args.self.now.sized, c.requires.slot), rw c.link_index.ensures (owns_said c.args.self.now.table.shared.key.plan c.args.self.now.table.shared.key.ways.list _ _ _ _ _ (a.1 ∙ sym c.args.self.now.planned) _ (subst (λ w. SaysWays w c.said-said.result) (sym c.args.self.now.keyed) c.said-said.ensures) (takes_own (shows_by c.args.self.now.table.shared.key) rose c.args.self.now.table.shared.key.plan _ _ _ (a.1 ∙ sym c.args.self.now.planned) a.2 r.right r.one c.args.at r.home)))

pub take_link_home-requires-clause-seat : goal.take_link_home-requires-clause-seat
take_link_home-requires-clause-seat g c = c.compare_exchange_with.ensures.0 ∙ c.requires.seat.0

pub take_link_home-requires-clause-home : goal.take_link_home-requires-clause-home
take_link_home-requires-clause-home g c = let t = own_came c.args.seat.now.me.0.plan c.args.self.now.ways.list (c.compare_exchange_with.ensures.2 c.args.self.now.ways.list c.said-said.ensures c.requires.home.right c.args.at c.requires.home.one c.link_index.ensures) in subst (λ (k : ℕ). LinkOnTop (c.args.self.now.plan.requests + k) c.compare_exchange_with.new.seat.me) c.requires.home.link_is (came_home t c.args.self.now.plan c.requires.seat.1)

pub returns-clause-view : goal.returns-clause-view
returns-clause-view g c = λ r one. came_after (own_came c.args.seat.now.me.0.plan c.args.self.now.ways.list (c.compare_exchange_with.ensures.2 c.args.self.now.ways.list c.said-said.ensures r c.args.at one c.link_index.ensures)) (c.args.self.now.plan.requests + c.args.link) c.take_link_home.result c.take_link_home.ensures.home _ c.take_link_home.ensures.view ∙ ap (λ (k : ℕ). (fault_found (g.O.Out.state c.take_link_home.result.out).faults c.args.at k (with_right c.args.seat.now.me.0 (record r { at_home = false })), (c.args.self.now.plan.requests + c.args.link, Empty) ∷ c.args.seat.now.me.1)) (ap (λ q. q.link) (the_right c.args.seat.now.me.0.rights r c.requires.home.right one c.requires.home.one) ∙ c.requires.home.link_is)

pub returns-clause-took : goal.returns-clause-took
returns-clause-took g c = λ r one. came_took (own_came c.args.seat.now.me.0.plan c.args.self.now.ways.list (c.compare_exchange_with.ensures.2 c.args.self.now.ways.list c.said-said.ensures r c.args.at one c.link_index.ensures)) (c.args.self.now.plan.requests + c.args.link) c.take_link_home.result c.take_link_home.ensures.home

pub returns-clause-came : goal.returns-clause-came
returns-clause-came g c = let t = own_came c.args.seat.now.me.0.plan c.args.self.now.ways.list (c.compare_exchange_with.ensures.2 c.args.self.now.ways.list c.said-said.ensures c.requires.home.right c.args.at c.requires.home.one c.link_index.ensures) in
    subst (λ (k : ℕ). CameOut c.args.self.now.plan c.args.self.now.ways.list k c.args.seat.now.me.0 (g.O.Out.state c.take_link_home.result.out)) c.requires.home.link_is (came_out t (c.args.self.now.plan.requests + c.args.link) c.take_link_home.result c.take_link_home.ensures.home t.inside c.args.self.now.plan c.requires.seat.1)

pub returns-clause-unfinished : goal.returns-clause-unfinished
returns-clause-unfinished g c = let t = own_came c.args.seat.now.me.0.plan c.args.self.now.ways.list (c.compare_exchange_with.ensures.2 c.args.self.now.ways.list c.said-said.ensures c.requires.home.right c.args.at c.requires.home.one c.link_index.ensures) in came_done t (c.args.self.now.plan.requests + c.args.link) c.take_link_home.result c.take_link_home.ensures.home

pub returns-clause-seat : goal.returns-clause-seat
returns-clause-seat g c = let r = c.requires.home.right in let same = (found_alike (g.O.Out.state c.take_link_home.result.out).faults c.args.at c.args.link (with_right c.args.seat.now.me.0 (record r { at_home = false }))).others in
    still_seat _ _ c.args.seat.now c.take_link_home.new.seat _ c.requires.seat (c.take_link_home.ensures.seat ∙ c.compare_exchange_with.ensures.0) (returns-clause-view g c r c.requires.home.one) (ap (λ v. v.plan) same) (sym (ap (λ v. v.share) same))
