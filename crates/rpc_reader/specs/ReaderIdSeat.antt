-- The seat of ids of a reader, before and behind each of its calls.
use Rattle.std.specs.Prelude.{◌≡◌, Option}
use Rattle.atomic_table.specs.Seated.{TableId}
use Rattle.atomic_table.specs.declared.shared.Seat.{Seat}
use Rattle.corr_core.specs.declared.marks.View.{View}
use Rattle.corr_id.specs.IdTableSeat.{Sits, Stays, IsFree}

module _ {C : Type 0} where
  -- it is one of the table, and has no lock
  pub record IsOpen (z : TableId) (s : Seat (Option C) (View C)) : Type 0 where
    pub sits : Sits z s
    pub free : IsFree s.me.0

  -- it is the same seat, it stands for as many seats, and has no lock
  pub record Rests (s t : Seat (Option C) (View C)) : Type 0 where
    pub stays : Stays s t
    pub share : t.me.0.share ≡ s.me.0.share
    pub free : IsFree t.me.0
