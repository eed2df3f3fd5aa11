use Rattle.std.proofs.Common.{ℕ, ◌<◌, true, arith, refl, ◌∙◌, sym, ap, subst}
use Rattle.sock_rule.specs.LinkFaultNotes.{faults_of}
use Rattle.sock_rule.specs.OnKey.{shows_by}
use Rattle.sock_rule.specs.Shows.{rose, way_at}
use Rattle.sock_rule.proofs.SeatStaysInTable.{still_seat}
use Rattle.sock_rule.proofs.WaysByTableKey.{is_number}
use Rattle.atomic_table.specs.Table.{rest}
use Rattle.sock_model.specs.declared.home.Home.TheVariants as home
use Rattle.sock_model.specs.ChainRows.{with_right}
use Rattle.sock_rule.specs.declared.homes.SockHome.TheVariants as at_home
use Rattle.sock_rule.proofs.LinkOwnerSteps.{puts_on}
use Rattle.sock_rule.proofs.table.RuleTable.put_own_link.Goals as goal

pub load-requires : goal.load-requires
load-requires g c = let a = c.requires.seat in let same = ap (λ m. m.0) c.lay_home.ensures.view in let r = c.requires.right in (
  c.lay_home.ensures.seat ∙ a.0,
  omega (arith, c.args.self.now.sized, c.args.self.now.some_slots),
  puts_on (shows_by c.args.self.now.table.shared.key) rose c.args.self.now.table.shared.key.plan c.args.self.now.plan _ _ _ (ap (λ v. v.plan) same ∙ a.1) (subst (λ (n : ℕ). 0 < n) (sym (ap (λ v. v.share) same)) a.2) c.args.self.now.planned r.0 0 c.args.link (at_home.Link c.args.home) (rest c.args.seat.now.me.1)
      (ap (λ v. v.rights) same ∙ r.1) r.2 (ap (λ m. m.1) c.lay_home.ensures.view) (λ i. home.Link (is_number c.args.self.now.table.shared.key.plan c.args.self.now.table.shared.key.ways.list (g.O.Out.state c.args.home.out) c.args.link c.requires.link.0 (c.requires.way ∙ ap (λ w. way_at w c.args.link) (sym c.args.self.now.keyed)) i) (r.4 i) (r.5 i) (c.requires.link.1 i)) r.3 (λ some_. c.requires.noted (subst (λ (n : ℕ). 0 < n) (ap (λ v. faults_of c.args.link v) same) some_)),
)

pub returns-clause-view : goal.returns-clause-view
returns-clause-view g c = let same = ap (λ m. m.0) c.lay_home.ensures.view in let top = ap (λ m. m.1) c.lay_home.ensures.view in λ r one. c.load.ensures.2 r (ap (λ v. v.rights) same ∙ one) ∙ (λ i. (with_right (same i) (record r { at_home = true }), rest (top i)))

pub returns-clause-seat : goal.returns-clause-seat
returns-clause-seat g c = still_seat _ _ c.args.seat.now c.load.new.seat _ c.requires.seat (c.load.ensures.0 ∙ c.lay_home.ensures.seat) (returns-clause-view g c c.requires.right.0 c.requires.right.1) refl refl
