-- References in a row, the first two of which are held in place.
use Rattle.std.specs.Prelude.{◌≡◌, ℕ, ◌+◌, ◌^◌, ◌≤◌, List, [], ◌++◌, None, IfNone}
use Rattle.std.specs.Option.{option_to_list}
use Rattle.std.specs.VecDeque.{deque_capacity}
use Rattle.io_buf.specs.declared.refs.Refs.TheInside.{Inside}

-- the bytes of each, and how many there is room for
pub record RefsState : Type 0 where
  pub items : List (List ℕ)
  pub capacity : ℕ

abbrev pub refs_view : Inside → RefsState
refs_view r = record { items = option_to_list r.first ++ (option_to_list r.second ++ r.rest.items); capacity = 2 + deque_capacity r.rest }

-- each is behind another or the first, and there is room for few enough that their number fits
pub record IsRefs (r : Inside) : Type 0 where
  pub second : IfNone r.first (r.second ≡ None)
  pub behind : IfNone r.second (r.rest.items ≡ [])
  pub few : 2 + deque_capacity r.rest ≤ 2 ^ 50
