-- A line at its place: fault kinds 8, 9 and 12, by the items of the lines before it.
use Rattle.std.specs.Prelude.{ℕ, Bool, true, false, ◌&&◌, ◌||◌, not, nat_lt, nat_le, if◌then◌else◌, List, [], ◌∷◌, ◌++◌, length, fold, flat_map, count_by, bytes_eq, Option, Some, None, Ok, Err}
use Rattle.std.specs.List.{list_any}
use Rattle.brpc_model.specs.LinePartReads.{Reads}
use Rattle.brpc_model.specs.Items.{Item, Slots, Requests, First, Client, Hold, Drop, is_client, is_open, is_size, is_sched, is_turn, is_operation, mentioned}

-- ## Kind 8: a line at a wrong place

-- both lines give the same size
abbrev pub is_same_size : Item → Item → Bool
is_same_size (Slots n) (Slots m) = true
is_same_size (Requests n) (Requests m) = true
is_same_size (First n) (First m) = true
is_same_size item other = false

-- a size line behind another sort of line or given twice, an operation other than `open` before the first `client`,
-- an operation, a `client` or a second `sched` behind `sched`, and a line of the schedule before it
abbrev pub is_misplaced : List Item → Item → Bool
is_misplaced before item =
    (is_size item && list_any (λ i. not (is_size i) || is_same_size item i) before)
    || (is_operation item && not (is_open item) && not (list_any is_client before))
    || ((is_operation item || is_client item || is_sched item) && list_any is_sched before)
    || (is_turn item && not (list_any is_sched before))

-- ## Kind 9: one too many of its sort

-- the names with those that they don't have yet behind them, each once
abbrev pub with_names : List (List ℕ) → List (List ℕ) → List (List ℕ)
with_names names [] = names
with_names names (name ∷ more) = with_names (if list_any (bytes_eq name) names then names else names ++ name ∷ []) more

-- the names of a script in the order of first mention
abbrev pub names : List Item → List (List ℕ)
names items = with_names [] (flat_map mentioned items)

-- the item is one client, link, operation, line of the schedule or name too many
abbrev pub is_too_many : List Item → Item → Bool
is_too_many before item =
    (is_client item && nat_le 31 (count_by is_client before))
    || (is_open item && nat_le 31 (count_by is_open before))
    || (is_operation item && nat_le 4096 (count_by is_operation before))
    || (is_turn item && nat_le 4096 (count_by is_turn before))
    || nat_lt 64 (length (names (before ++ item ∷ [])))

-- ## Kind 12: holds and drops that don't alternate

-- whether the client in hand holds the name behind one more item
abbrev pub held_behind : List ℕ → Bool → Item → Bool
held_behind name held Client = false
held_behind name held (Hold n) = bytes_eq n name || held
held_behind name held (Drop n) = not (bytes_eq n name) && held
held_behind name held other = held

-- whether the last client of these items holds the name behind them
abbrev pub is_held : List Item → List ℕ → Bool
is_held before name = fold (held_behind name) false before

-- a second `hold` without a `drop` between, or a `drop` of what isn't held
abbrev pub is_unpaired : List Item → Item → Bool
is_unpaired before (Hold name) = is_held before name
is_unpaired before (Drop name) = not (is_held before name)
is_unpaired before other = false

-- what a line says where it may stand behind these items
abbrev pub at_its_place : List Item → Option Item → Reads (Option Item)
at_its_place before None = Ok None
at_its_place before (Some item) =
    if is_misplaced before item then Err 8
    else if is_too_many before item then Err 9
    else if is_unpaired before item then Err 12
    else Ok (Some item)
