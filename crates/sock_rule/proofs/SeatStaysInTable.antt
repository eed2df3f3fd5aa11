-- A seat stays one of the table.
use Rattle.std.proofs.Common.{◌≡◌, Bool, true, false, cond, ap, ◌∙◌, arith}
use Rattle.atomic_table.specs.Seated.{TableId}
use Rattle.atomic_table.specs.Table.{Me}
use Rattle.atomic_table.specs.declared.shared.Seat.{Seat}
use Rattle.sock_words.specs.declared.plain.Plan.{Plan}
use Rattle.sock_model.specs.declared.view.View.{View}
use Rattle.sock_rule.specs.SocketSeatSplits.{IsSeat}

pub still_seat : {S : Type 0} (z : TableId) (p : Plan) (s t : Seat S View) (n : Me S View) → IsSeat z p s → t.table_id ≡ s.table_id → t.me ≡ n → n.0.plan ≡ s.me.0.plan → s.me.0.share ≡ n.0.share → IsSeat z p t
still_seat {S} z p s t n is same view plan share = (same ∙ is.0, ap (λ (m : Me S View). m.0.plan) view ∙ (plan ∙ is.1), (let a = ap (λ (m : Me S View). m.0.share) view in let b = is.2 in omega arith))

-- the same where the view becomes one of two
pub cond_seat : {S : Type 0} (z : TableId) (p : Plan) (s t : Seat S View) (b : Bool) (v w : View) → IsSeat z p s → t.table_id ≡ s.table_id → t.me ≡ (cond b v w, s.me.1) → (v.plan ≡ s.me.0.plan) × (s.me.0.share ≡ v.share) → (w.plan ≡ s.me.0.plan) × (s.me.0.share ≡ w.share) → IsSeat z p t
cond_seat {S} z p s t true v w is same view a b = still_seat z p s t (v, s.me.1) is same view a.0 a.1
cond_seat {S} z p s t false v w is same view a b = still_seat z p s t (w, s.me.1) is same view b.0 b.1
