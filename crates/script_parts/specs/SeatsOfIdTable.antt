-- The seats of the table of ids, of which one takes in the others once all have ended.
use Rattle.std.specs.Prelude.{◌≡◌, List, Option}
use Rattle.std.specs.List.{flat_map}
use Rattle.atomic_table.specs.declared.shared.Seat.{Seat}
use Rattle.corr_core.specs.declared.marks.View.{View}
use Rattle.sock_message.specs.Asked.{Asked}

abbrev pub IdSeat : Type 0
IdSeat = Seat (Option Asked) (View Asked)

-- it has what all of these noted, and what they keep in mind, one behind the other
pub record TookAll (seats : List IdSeat) (s : IdSeat) : Type 0 where
  pub notes : s.me.0.notes ≡ flat_map (λ (x : IdSeat). x.me.0.notes) seats
  pub kept : s.me.0.kept ≡ flat_map (λ (x : IdSeat). x.me.0.kept) seats
