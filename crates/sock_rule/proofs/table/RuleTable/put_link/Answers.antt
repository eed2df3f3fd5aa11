use Rattle.std.proofs.Common.{ℕ, ◌<◌, arith, ◌∙◌, sym, ap, subst}
use Rattle.atomic_table.specs.Table.{rest}
use Rattle.sock_model.specs.declared.home.Home.TheVariants.{Link}
use Rattle.sock_rule.specs.declared.homes.SockHome.TheVariants as at_home
use Rattle.sock_rule.specs.LinksInHand.{hand_of}
use Rattle.sock_rule.specs.LinkFaultNotes.{faults_of}
use Rattle.sock_rule.specs.OnKey.{shows_by}
use Rattle.sock_rule.specs.Shows.{rose, way_at}
use Rattle.sock_model.specs.ChainRows.{without_hand}
use Rattle.sock_rule.proofs.LinkFaultNotes.{left_alike}
use Rattle.sock_rule.proofs.LinkMovesWithoutRight.{puts}
use Rattle.sock_rule.proofs.HandingLinkFromHome.{put_slots, back_home}
use Rattle.sock_rule.proofs.SeatStaysInTable.{still_seat}
use Rattle.sock_rule.proofs.WaysByTableKey.{is_number}
use Rattle.sock_rule.proofs.table.RuleTable.put_link.Goals as goal

pub load-requires : goal.load-requires
load-requires g c = let a = c.requires.seat in let same = ap (λ m. m.0) c.lay_home.ensures.view in (
  c.lay_home.ensures.seat ∙ a.0,
  omega (arith, c.link_index.ensures, c.args.self.now.sized, c.requires.slot),
  rw c.link_index.ensures (puts (shows_by c.args.self.now.table.shared.key) rose c.args.self.now.table.shared.key.plan _ _ _ (ap (λ v. v.plan) same ∙ (a.1 ∙ sym c.args.self.now.planned)) (subst (λ (n : ℕ). 0 < n) (sym (ap (λ v. v.share) same)) a.2) c.args.at (hand_of c.args.link c.args.home.took.list c.args.home.next) (at_home.Link c.args.home) (rest c.args.seat.now.me.1)
      (ap (λ v. v.hands) same ∙ c.requires.hand) (subst (λ q. c.args.link < q.links) (sym c.args.self.now.planned) c.requires.came.link_in)
      (put_slots c.args.self.now.table.shared.key.plan c.args.self.now.plan c.lay_home.new.seat.me.1 c.args.link (at_home.Link c.args.home) (rest c.args.seat.now.me.1) c.args.self.now.planned (ap (λ m. m.1) c.lay_home.ensures.view))
      (λ b. Link (is_number c.args.self.now.table.shared.key.plan c.args.self.now.table.shared.key.ways.list (g.O.Out.state c.args.home.out) c.args.link c.requires.came.link_is (c.requires.came.way_is ∙ ap (λ w. way_at w c.args.link) (sym c.args.self.now.keyed)) b) c.args.home.took.list c.args.home.next (c.requires.finished b))
      (λ some_. c.requires.came.known (subst (λ (n : ℕ). 0 < n) (ap (λ v. faults_of c.args.link v) same) some_))),
)

pub returns-clause-view : goal.returns-clause-view
returns-clause-view g c = back_home rose c.args.seat.now.me c.lay_home.new.seat.me c.load.new.seat.me c.args.self.now.plan c.args.at c.args.link (at_home.Link c.args.home) c.requires.seat.1 c.lay_home.ensures.view (λ j z below. c.load.ensures.2 c.args.at j z below c.link_index.ensures)

pub returns-clause-seat : goal.returns-clause-seat
returns-clause-seat g c = let same = (left_alike (g.O.Out.state c.args.home.out).faults c.args.link (without_hand c.args.seat.now.me.0 c.args.link)).others in still_seat _ _ c.args.seat.now c.load.new.seat _ c.requires.seat (c.load.ensures.0 ∙ c.lay_home.ensures.seat) (returns-clause-view g c) (ap (λ v. v.plan) same) (sym (ap (λ v. v.share) same))
