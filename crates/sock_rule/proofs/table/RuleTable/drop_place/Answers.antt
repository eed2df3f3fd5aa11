use Rattle.std.proofs.Common.{ℕ, ◌<◌, ◌∷◌, arith, refl, ◌∙◌, sym, ap, subst}
use Rattle.atomic_table.specs.Table.{rest}
use Rattle.sock_model.specs.declared.view.View.{View}
use Rattle.sock_model.specs.ChainRows.{with_right, dropped_right}
use Rattle.sock_rule.specs.NotesBesideRows.{dropped_at}
use Rattle.sock_rule.specs.declared.homes.SockHome.TheVariants.{Empty, Link}
use Rattle.sock_rule.specs.HoldingWriteRight.{MayDropPlace}
use Rattle.sock_rule.specs.OnKey.{shows_by}
use Rattle.sock_rule.specs.Shows.{rose}
use Rattle.sock_rule.proofs.SeatStaysInTable.{still_seat}
use Rattle.sock_rule.proofs.WaysByTableKey.{drops_alike}
use Rattle.sock_rule.proofs.LinkOwnerSteps.{drops_on}
use Rattle.sock_rule.proofs.HandingLinkFromHome.{same_link, laid_top, laid_still, dropped_after}
use Rattle.sock_rule.proofs.table.RuleTable.drop_place.Goals as goal

pub lay_home-requires-clause-top : goal.lay_home-requires-clause-top
lay_home-requires-clause-top g c = c.requires.top ∙ (λ i. (sym c.request-home_index.ensures i, Empty) ∷ rest c.args.seat.now.me.1)

pub place_index-index-requires : goal.place_index-index-requires
place_index-index-requires g c = record { place = c.requires.may.2.placing.place_in }

pub store-requires : goal.store-requires
store-requires g c = let same = ap (λ m. m.0) c.lay_home.ensures.view in let a = c.requires.seat in let m = c.requires.may in (
  c.lay_home.ensures.seat ∙ a.0,
  omega (arith, c.args.self.now.sized, m.2.placing.place_in, c.place_index-index.ensures),
  drops_alike c.args.self.now.table.shared.key.plan c.args.self.now.table.shared.key.ways.list _ _ _ _ _ _ (drops_on (shows_by c.args.self.now.table.shared.key) rose c.args.self.now.table.shared.key.plan c.args.self.now.plan _ _ _ (ap (λ v. v.plan) same ∙ a.1) (subst (λ (n : ℕ). 0 < n) (sym (ap (λ v. v.share) same)) a.2) c.args.self.now.planned c.args.at m.0 m.1 _ c.args.value.0 (c.request-home_index.result, Link c.args.home) c.place_index-index.ensures m.3
      (subst (λ (v : View). MayDropPlace c.args.self.now.plan c.args.at m.0 m.1 c.args.home.took.list v) (sym same) m.2) (laid_top c.args.seat.now.me c.lay_home.new.seat.me c.request-home_index.result c.args.now.0 c.args.home c.request-home_index.ensures c.requires.top c.lay_home.ensures.view)),
)

pub take_home-requires-clause-seat : goal.take_home-requires-clause-seat
take_home-requires-clause-seat g c = c.store.ensures.0 ∙ (c.lay_home.ensures.seat ∙ c.requires.seat.0)

pub take_home-requires-clause-home : goal.take_home-requires-clause-home
take_home-requires-clause-home g c = let same = ap (λ m. m.0) c.lay_home.ensures.view in let top = laid_top c.args.seat.now.me c.lay_home.new.seat.me c.request-home_index.result c.args.now.0 c.args.home c.request-home_index.ensures c.requires.top c.lay_home.ensures.view in let m = c.requires.may.2.placing in (c.args.home, laid_still c.args.seat.now.me c.lay_home.new.seat.me c.request-home_index.result c.args.now.0 c.args.home c.request-home_index.ensures c.requires.top c.lay_home.ensures.view c.store.new.seat.me m.right m.now c.place_index-index.result c.args.value.0 (c.store.ensures.2 m.right m.now (c.request-home_index.result, Link c.args.home) (ap (λ v. v.rights) same ∙ m.one) m.stage top))

pub returns-clause-home : goal.returns-clause-home
returns-clause-home g c = let same = ap (λ m. m.0) c.lay_home.ensures.view in let top = laid_top c.args.seat.now.me c.lay_home.new.seat.me c.request-home_index.result c.args.now.0 c.args.home c.request-home_index.ensures c.requires.top c.lay_home.ensures.view in let m = c.requires.may.2.placing in
    same_link c.store.new.seat.me.1 c.request-home_index.result c.args.home c.take_home.result (rest c.store.new.seat.me.1) (laid_still c.args.seat.now.me c.lay_home.new.seat.me c.request-home_index.result c.args.now.0 c.args.home c.request-home_index.ensures c.requires.top c.lay_home.ensures.view c.store.new.seat.me m.right m.now c.place_index-index.result c.args.value.0 (c.store.ensures.2 m.right m.now (c.request-home_index.result, Link c.args.home) (ap (λ v. v.rights) same ∙ m.one) m.stage top)) c.take_home.ensures.home

pub returns-clause-view : goal.returns-clause-view
returns-clause-view g c = λ r n one stage. let same = ap (λ m. m.0) c.lay_home.ensures.view in let top = laid_top c.args.seat.now.me c.lay_home.new.seat.me c.request-home_index.result c.args.now.0 c.args.home c.request-home_index.ensures c.requires.top c.lay_home.ensures.view in
    dropped_after c.args.seat.now.me c.lay_home.new.seat.me c.request-home_index.result c.args.now.0 c.args.home c.request-home_index.ensures c.requires.top c.lay_home.ensures.view c.store.new.seat.me r n c.place_index-index.result c.args.value.0 (c.store.ensures.2 r n (c.request-home_index.result, Link c.args.home) (ap (λ v. v.rights) same ∙ one) stage top) c.take_home.new.seat.me c.take_home.ensures.view
    ∙ (λ i. (dropped_at (c.place_index-index.ensures i) c.args.value.0 r.heading (with_right c.args.seat.now.me.0 (dropped_right r n c.args.home.took.list)), c.args.seat.now.me.1))

pub returns-clause-seat : goal.returns-clause-seat
returns-clause-seat g c = let m = c.requires.may.2.placing in still_seat _ _ c.args.seat.now c.take_home.new.seat _ c.requires.seat (c.take_home.ensures.seat ∙ (c.store.ensures.0 ∙ c.lay_home.ensures.seat)) (returns-clause-view g c m.right m.now m.one m.stage) refl refl
