use Rattle.std.proofs.Common.{◌+◌, ◌<◌, arith, ◌∙◌, sym, ap, subst}
use Rattle.sock_model.specs.ChainLawReads.{carries}
use Rattle.sock_model.specs.ChainRows.{with_hand}
use Rattle.sock_rule.specs.LinksInHand.{hand_of}
use Rattle.sock_rule.specs.OnKey.{shows_by}
use Rattle.sock_rule.specs.Shows.{rose, SaysWays}
use Rattle.sock_rule.proofs.LinkFaultNotes.{found_alike}
use Rattle.sock_rule.proofs.LinkMovesWithoutRight.{takes_last}
use Rattle.sock_rule.proofs.HandingLinkFromHome.{link_came, came_home, came_out, came_after}
use Rattle.sock_rule.proofs.SeatStaysInTable.{still_seat}
use Rattle.sock_rule.proofs.WaysByTableKey.{lasts_said}
use Rattle.sock_rule.proofs.table.RuleTable.take_last_link.Goals as goal
use Rattle.sock_words.specs.Totals.{total}

pub compare_exchange_with-requires : goal.compare_exchange_with-requires
compare_exchange_with-requires g c = let a = c.requires.seat in let r = c.requires.recycled in (
  a.0,
  omega (arith, c.link_index.ensures, c.args.self.now.sized, c.requires.slot),
  rw c.link_index.ensures (lasts_said c.args.self.now.table.shared.key.plan c.args.self.now.table.shared.key.ways.list _ _ _ _ _ (a.1 ∙ sym c.args.self.now.planned) _ (subst (λ w. SaysWays w c.said-said.result) (sym c.args.self.now.keyed) c.said-said.ensures) (takes_last (shows_by c.args.self.now.table.shared.key) rose c.args.self.now.table.shared.key.plan _ _ _ (a.1 ∙ sym c.args.self.now.planned) a.2 c.args.at r.version c.args.link (subst (λ q. c.args.at < q.slots) (sym c.args.self.now.planned) c.requires.slot) r.recycled r.met (ap (total (carries c.args.link)) c.requires.empty))),
)

pub take_link_home-requires-clause-seat : goal.take_link_home-requires-clause-seat
take_link_home-requires-clause-seat g c = c.compare_exchange_with.ensures.0 ∙ c.requires.seat.0

pub take_link_home-requires-clause-home : goal.take_link_home-requires-clause-home
take_link_home-requires-clause-home g c = let t = link_came c.args.seat.now.me.0.plan c.args.self.now.ways.list (c.compare_exchange_with.ensures.2 c.args.self.now.ways.list c.said-said.ensures c.args.at c.requires.recycled.version c.args.link c.link_index.ensures c.requires.recycled.recycled c.requires.recycled.met) in came_home t c.args.self.now.plan c.requires.seat.1

pub returns-clause-view : goal.returns-clause-view
returns-clause-view g c = let t = link_came c.args.seat.now.me.0.plan c.args.self.now.ways.list (c.compare_exchange_with.ensures.2 c.args.self.now.ways.list c.said-said.ensures c.args.at c.requires.recycled.version c.args.link c.link_index.ensures c.requires.recycled.recycled c.requires.recycled.met) in came_after t (c.args.self.now.plan.requests + c.args.link) c.take_link_home.result c.take_link_home.ensures.home _ c.take_link_home.ensures.view

pub returns-clause-came : goal.returns-clause-came
returns-clause-came g c = let t = link_came c.args.seat.now.me.0.plan c.args.self.now.ways.list (c.compare_exchange_with.ensures.2 c.args.self.now.ways.list c.said-said.ensures c.args.at c.requires.recycled.version c.args.link c.link_index.ensures c.requires.recycled.recycled c.requires.recycled.met) in came_out t (c.args.self.now.plan.requests + c.args.link) c.take_link_home.result c.take_link_home.ensures.home t.inside c.args.self.now.plan c.requires.seat.1

pub returns-clause-seat : goal.returns-clause-seat
returns-clause-seat g c = let same = (found_alike (g.O.Out.state c.take_link_home.result.out).faults 0 c.args.link (with_hand c.args.seat.now.me.0 (hand_of c.args.link c.take_link_home.result.took.list c.take_link_home.result.next))).others in still_seat _ _ c.args.seat.now c.take_link_home.new.seat _ c.requires.seat (c.take_link_home.ensures.seat ∙ c.compare_exchange_with.ensures.0) (returns-clause-view g c) (ap (λ v. v.plan) same) (sym (ap (λ v. v.share) same))
