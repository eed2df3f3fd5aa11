-- How a seat of the table is split in two, and what a new table is.
use Rattle.std.specs.Prelude.{◌≡◌, ℕ, ◌+◌, ◌-◌, ◌*◌, ◌<◌, ◌≤◌, List, [], length, false, slice_index}
use mathlib.Core.Option.{some}
use lib.ListN.{get_elem?}
use Rattle.atomic_table.specs.Seated.{TableId}
use Rattle.atomic_table.specs.declared.shared.Seat.{Seat}
use Rattle.sock_words.specs.declared.plain.Plan.{Plan}
use Rattle.sock_model.specs.declared.home.Home.{Home}
use Rattle.sock_model.specs.declared.home.Home.TheVariants.{Link}
use Rattle.sock_model.specs.declared.view.View.{View}
use Rattle.sock_model.specs.MarkWeights.{is_ref}
use Rattle.sock_model.specs.SocketTableLayout.{request_index, place_index}
use Rattle.sock_model.specs.SlotRows.{marks_of}
use Rattle.sock_model.specs.ViewsOfSplitSeats.{newcomer, carrier, earliest, IsBare, Unused}
use Rattle.sock_model.specs.LawfulSockets.{PlanFits}
use Rattle.sock_model.specs.Rule.{lists_of}

-- a seat of the table, which stands for itself at least
abbrev pub IsSeat : {S : Type 0} → TableId → Plan → Seat S View → Type 0
IsSeat z p s = (s.table_id ≡ z) × (s.me.0.plan ≡ p) × (0 < s.me.0.share)

-- a seat that gives away one of those for which it stands
abbrev pub giving : View → View
giving v = record v { spare = v.spare - 1; share = v.share - 1 }

-- and the new one
abbrev pub given : View → View
given v = newcomer v.plan [] 0

-- it stands for more than itself and those that it took in
pub record MayGive (v : View) : Type 0 where
  pub more : lists_of v < v.share
  pub another : 1 < v.share
  pub spare : 0 < v.spare

abbrev pub passed : View → View
passed v = carrier v.plan (earliest v.passes)

-- a seat that another may take in: it holds no reference, right or link
pub record IsDone (p : Plan) (v : View) : Type 0 where
  pub bare : IsBare v
  pub unheld : (i : ℕ) → i < p.slots → marks_of is_ref i v ≡ 0

-- the words and homes of a table before any step
pub record IsNew {S : Type 0} (shows : S → Home) (p : Plan) (ws : List ℕ) (xs : List S) : Type 0 where
  pub unused : Unused p ws
  pub fits : PlanFits p
  pub first_low : p.first ≤ 4294967292
  pub some_seats : 1 ≤ p.seats
  pub few_seats : p.seats ≤ 64
  pub requests : (r : ℕ) → r < p.requests → slice_index ws (request_index p r) ≡ 0
  pub places : (l : ℕ) → l < 8 * p.operations → slice_index ws (place_index p l) ≡ 0
  pub homes : length xs ≡ p.requests + p.links
  pub links : (k : ℕ) → k < p.links → (y : S) × (get_elem? xs (p.requests + k) ≡ some y) × (shows y ≡ Link k [] 0 false)
