use Rattle.std.proofs.Common.{ℕ, ◌<◌, ◌∷◌, arith, refl, ◌∙◌, sym, ap, subst}
use Rattle.sock_rule.specs.OnKey.{shows_by}
use Rattle.sock_rule.specs.Shows.{shows, rose}
use Rattle.sock_rule.proofs.SeatStaysInTable.{still_seat}
use Rattle.atomic_table.specs.Table.{rest}
use Rattle.sock_model.specs.declared.view.View.{View}
use Rattle.sock_rule.specs.declared.homes.SockHome.TheVariants as at_home
use Rattle.message_parts.specs.Parcels.{parcel_of}
use Rattle.sock_rule.specs.Shows.{heading_of}
use Rattle.sock_rule.proofs.Chaining.{fills}
use Rattle.sock_rule.proofs.WaysByTableKey.{fills_alike}
use Rattle.sock_rule.proofs.SendingOnRequestWords.{filled_me}
use Rattle.sock_rule.proofs.table.RuleTable.put_msg.Goals as goal

pub exchange-old-requires : goal.exchange-old-requires
exchange-old-requires g c = (c.requires.seat.0, c.requires.home)

pub load-requires : goal.load-requires
load-requires g c = let a = c.requires.seat in let r = c.requires.claimed in let same = ap (λ m. m.0) c.exchange-old.ensures.3 in let h = c.requires.held in (
  c.exchange-old.ensures.0 ∙ a.0,
  omega (arith, c.link_index-index.ensures, c.args.self.now.sized, c.requires.slot),
  rw c.link_index-index.ensures (fills_alike c.args.self.now.table.shared.key.plan c.args.self.now.table.shared.key.ways.list _ _ _ _ _ (fills (shows_by c.args.self.now.table.shared.key) rose c.args.self.now.table.shared.key.plan _ _ _ (ap (λ v. v.plan) same ∙ (a.1 ∙ sym c.args.self.now.planned)) (subst (λ (n : ℕ). 0 < n) (sym (ap (λ v. v.share) same)) a.2) c.args.slot h.0 r.0 (at_home.Message c.args.msg) (rest c.args.seat.now.me.1) (heading_of c.args.msg) (parcel_of c.args.msg.bytes).bytes
      (subst (λ q. c.args.slot < q.slots) (sym c.args.self.now.planned) c.requires.slot) (subst (λ (v : View). 0 < Rattle.sock_model.specs.SlotRows.marks_of (Rattle.sock_model.specs.MarkWeights.is_hold h.0) c.args.slot v) (sym same) h.1) (ap (λ v. v.claims) same ∙ r.1) (let e = r.2 in let q = ap (λ z. z.requests) c.args.self.now.planned in let i = c.requires.request in omega arith)
      (ap (λ m. m.1) c.exchange-old.ensures.3 ∙ ap (λ (k : ℕ). (k, at_home.Message c.args.msg) ∷ rest c.args.seat.now.me.1) (sym r.2)) refl (let q = ap (λ z. z.operations) c.args.self.now.planned in let l = c.requires.label in omega arith))),
)

pub returns-clause-view : goal.returns-clause-view
returns-clause-view g c = filled_me shows c.args.seat.now.me c.exchange-old.new.seat.me c.load.new.seat.me c.args.slot c.args.at c.load.result (at_home.Message c.args.msg) c.exchange-old.ensures.3 (λ k y i h claims top is held. c.load.ensures.2 k y i h claims top (c.link_index-index.ensures ∙ is) held)

pub returns-clause-link : goal.returns-clause-link
returns-clause-link g c = let same = ap (λ m. m.0) c.exchange-old.ensures.3 in let r = c.requires.claimed in let h = c.requires.held in
    subst (λ q. c.load.result < q.links) (ap (λ v. v.plan) same ∙ c.requires.seat.1) ((c.load.ensures.2 r.0 (c.args.at, at_home.Message c.args.msg) c.args.slot h.0 (ap (λ v. v.claims) same ∙ r.1) (ap (λ m. m.1) c.exchange-old.ensures.3 ∙ (λ i. (c.args.at, at_home.Message c.args.msg) ∷ rest (sym (ap (λ m. m.1) c.exchange-old.ensures.3) i))) c.link_index-index.ensures (subst (λ (v : View). 0 < Rattle.sock_model.specs.SlotRows.marks_of (Rattle.sock_model.specs.MarkWeights.is_hold h.0) c.args.slot v) (sym same) h.1)).1)

pub returns-clause-met : goal.returns-clause-met
returns-clause-met g c = let same = ap (λ m. m.0) c.exchange-old.ensures.3 in let r = c.requires.claimed in λ h k held met.
    (c.load.ensures.2 r.0 (c.args.at, at_home.Message c.args.msg) c.args.slot h (ap (λ v. v.claims) same ∙ r.1) (ap (λ m. m.1) c.exchange-old.ensures.3 ∙ (λ i. (c.args.at, at_home.Message c.args.msg) ∷ rest (sym (ap (λ m. m.1) c.exchange-old.ensures.3) i))) c.link_index-index.ensures (subst (λ (v : View). 0 < Rattle.sock_model.specs.SlotRows.marks_of (Rattle.sock_model.specs.MarkWeights.is_hold h) c.args.slot v) (sym same) held)).2 k
    (subst (λ (v : View). 0 < Rattle.sock_model.specs.SlotRows.marks_of (Rattle.sock_model.specs.MarkWeights.is_met h k) c.args.slot v) (sym same) met)

pub returns-clause-seat : goal.returns-clause-seat
returns-clause-seat g c = still_seat _ _ c.args.seat.now c.load.new.seat _ c.requires.seat (c.load.ensures.0 ∙ c.exchange-old.ensures.0) (returns-clause-view g c c.requires.claimed.0 c.requires.held.0 c.requires.claimed.1 c.requires.held.1) refl refl
