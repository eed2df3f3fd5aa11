use Rattle.std.proofs.Common.{◌+◌, arith, ◌∙◌, sym, ap, subst}
use Rattle.sock_model.specs.ChainRows.{spent_hand}
use Rattle.sock_rule.specs.LinksInHand.{hand_of}
use Rattle.sock_rule.specs.OnKey.{shows_by}
use Rattle.sock_rule.specs.Shows.{rose, SaysWays}
use Rattle.sock_rule.proofs.LinkFaultNotes.{found_alike}
use Rattle.sock_rule.proofs.LinkMovesWithoutRight.{spends}
use Rattle.sock_rule.proofs.HandingLinkFromHome.{link_came, came_home, came_out, came_after}
use Rattle.sock_rule.proofs.SeatStaysInTable.{still_seat}
use Rattle.sock_rule.proofs.WaysByTableKey.{spends_said}
use Rattle.sock_rule.proofs.table.RuleTable.spend_pass.Goals as goal

pub compare_exchange_with-requires : goal.compare_exchange_with-requires
compare_exchange_with-requires g c = let a = c.requires.seat in (a.0, omega (arith, c.args.self.now.sized, c.args.self.now.some_slots), spends_said c.args.self.now.table.shared.key.plan c.args.self.now.table.shared.key.ways.list _ _ _ _ _ (a.1 ∙ sym c.args.self.now.planned) _ (subst (λ w. SaysWays w c.said-said.result) (sym c.args.self.now.keyed) c.said-said.ensures) (spends (shows_by c.args.self.now.table.shared.key) rose c.args.self.now.table.shared.key.plan _ _ _ (a.1 ∙ sym c.args.self.now.planned) a.2 0 c.args.link c.requires.pass))

pub take_link_home-requires-clause-seat : goal.take_link_home-requires-clause-seat
take_link_home-requires-clause-seat g c = c.compare_exchange_with.ensures.0 ∙ c.requires.seat.0

pub take_link_home-requires-clause-home : goal.take_link_home-requires-clause-home
take_link_home-requires-clause-home g c = let t = link_came c.args.seat.now.me.0.plan c.args.self.now.ways.list (c.compare_exchange_with.ensures.2 c.args.self.now.ways.list c.said-said.ensures c.args.link c.requires.pass) in came_home t c.args.self.now.plan c.requires.seat.1

pub returns-clause-view : goal.returns-clause-view
returns-clause-view g c = let t = link_came c.args.seat.now.me.0.plan c.args.self.now.ways.list (c.compare_exchange_with.ensures.2 c.args.self.now.ways.list c.said-said.ensures c.args.link c.requires.pass) in came_after t (c.args.self.now.plan.requests + c.args.link) c.take_link_home.result c.take_link_home.ensures.home _ c.take_link_home.ensures.view

pub returns-clause-came : goal.returns-clause-came
returns-clause-came g c = let t = link_came c.args.seat.now.me.0.plan c.args.self.now.ways.list (c.compare_exchange_with.ensures.2 c.args.self.now.ways.list c.said-said.ensures c.args.link c.requires.pass) in came_out t (c.args.self.now.plan.requests + c.args.link) c.take_link_home.result c.take_link_home.ensures.home t.inside c.args.self.now.plan c.requires.seat.1

pub returns-clause-seat : goal.returns-clause-seat
returns-clause-seat g c = let same = (found_alike (g.O.Out.state c.take_link_home.result.out).faults 0 c.args.link (spent_hand c.args.seat.now.me.0 (hand_of c.args.link c.take_link_home.result.took.list c.take_link_home.result.next))).others in still_seat _ _ c.args.seat.now c.take_link_home.new.seat _ c.requires.seat (c.take_link_home.ensures.seat ∙ c.compare_exchange_with.ensures.0) (returns-clause-view g c) (ap (λ v. v.plan) same) (sym (ap (λ v. v.share) same))
