-- What a new table is made with.
use Rattle.std.specs.Prelude.{◌≡◌, ℕ, ◌+◌, List, [], ◌∷◌, length}
use Rattle.atomic_table.specs.Seated.{TableId}
use Rattle.atomic_table.specs.declared.shared.Seat.{Seat}
use Rattle.sock_io.specs.declared.link.Out.{Ghosts}
use Rattle.sock_words.specs.declared.plain.Plan.{Plan}
use Rattle.sock_model.specs.declared.view.View.{View}
use Rattle.sock_model.specs.ViewsOfSplitSeats.{newcomer}
use Rattle.sock_table.specs.declared.passes.LinkPass.{LinkPass}
use Rattle.sock_table.specs.LinkPasses.{IsPass}
use Rattle.sock_words.specs.Totals.{total}

-- a seat that made no call yet: it stands for itself, and has nothing
pub record IsNewSeat {S : Type 0} (z : TableId) (p : Plan) (s : Seat S View) : Type 0 where
  pub table : s.table_id ≡ z
  pub spare : ℕ
  pub me : s.me ≡ (newcomer p [] spare, [])

abbrev pub AreNewSeats : {S : Type 0} → TableId → Plan → List (Seat S View) → Type 0
AreNewSeats z p [] = Unit {0}
AreNewSeats z p (s ∷ ss) = IsNewSeat z p s × AreNewSeats z p ss

-- the passes of the links from n on, in their order
abbrev pub PassesFrom : {O : Type 0} {g : Ghosts O} → TableId → Plan → ℕ → List (LinkPass O g) → Type 0
PassesFrom z p n [] = Unit {0}
PassesFrom z p n (x ∷ xs) = IsPass z p x × (x.link ≡ n) × PassesFrom z p (n + 1) xs

-- all seats of the table, and the pass of each of its links
pub record AreMade {O S : Type 0} {g : Ghosts O} (z : TableId) (p : Plan) (seats : List (Seat S View)) (passes : List (LinkPass O g)) : Type 0 where
  pub seats_are : AreNewSeats z p seats
  pub count : length seats ≡ p.seats
  pub all : total (λ (s : Seat S View). s.me.0.share) seats ≡ p.seats
  pub passes_are : PassesFrom z p 0 passes
  pub links : length passes ≡ p.links
