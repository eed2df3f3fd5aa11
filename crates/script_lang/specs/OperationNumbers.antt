-- What is noted of the operations while lines are read: which are calls, the numbers of those that matter later, and where each client's are.
use Rattle.std.specs.Prelude.{ℕ, zero, suc, ◌+◌, ◌-◌, ◌&&◌, nat_le, nat_lt, Bool, false, if◌then◌else◌, List, [], ◌∷◌, ◌++◌, map, filter, count_by, slice_index_or, Option, Some, None}
use Rattle.brpc_model.specs.Items.{Item, is_client, is_operation, is_open, is_call}
use Rattle.seat_programs.specs.Tasks.{opens, calls}

pub record Numbers : Type 0 where
  -- how many operations there are
  pub operations : ℕ
  -- of each operation whether it is a call
  pub are_calls : List Bool
  -- the numbers of those that open a link
  pub opens : List ℕ
  -- and of those that are calls
  pub calls : List ℕ
  -- of each client but the setup the number of its first operation
  pub begins : List ℕ

-- the number of the next operation where each client begins along these items, before which so many came
abbrev pub begins_along : ℕ → List Item → List ℕ
begins_along number [] = []
begins_along number (item ∷ items) =
    if is_client item then number ∷ begins_along number items
    else if is_operation item then begins_along (number + 1) items
    else begins_along number items

-- the numbers of these items
abbrev pub numbers_of : List Item → Numbers
numbers_of items = record {
  operations = count_by is_operation items;
  are_calls = map is_call (filter is_operation items);
  opens = opens items;
  calls = calls items;
  begins = begins_along 0 items;
}

-- before the first item
abbrev pub no_numbers : Numbers
no_numbers = record { operations = 0; are_calls = []; opens = []; calls = []; begins = [] }

-- these and one number more, if it is noted
abbrev pub and_number : Bool → List ℕ → ℕ → List ℕ
and_number noted numbers number = if noted then numbers ++ number ∷ [] else numbers

-- those behind one more item, which has this number if it is an operation
abbrev pub numbers_behind : Numbers → ℕ → Item → Numbers
numbers_behind before number item = record {
  operations = if is_operation item then number + 1 else before.operations;
  are_calls = if is_operation item then before.are_calls ++ is_call item ∷ [] else before.are_calls;
  opens = and_number (is_open item) before.opens number;
  calls = and_number (is_call item) before.calls number;
  begins = and_number (is_client item) before.begins number;
}

-- ## The operation `C.I`

-- where the operations of a client end, the setup's first, and where they begin
abbrev pub end_of : Numbers → ℕ → ℕ
end_of numbers client = slice_index_or numbers.begins client numbers.operations

abbrev pub start_of : Numbers → ℕ → ℕ
start_of numbers zero = 0
start_of numbers (suc client) = end_of numbers client

-- whether a client whose operations from number k on are those from `start` to `finish` of the script has one of number i
abbrev pub is_within : ℕ → ℕ → ℕ → ℕ → Bool
is_within start k finish i = nat_le k i && nat_lt i (k + (finish - start))

-- and which that is
abbrev pub within : ℕ → ℕ → ℕ → ℕ → Option ℕ
within start k finish i = if is_within start k finish i then Some (start + (i - k)) else None

-- the operation `C.I`, if there is one
abbrev pub operation_in : Numbers → ℕ → ℕ → Option ℕ
operation_in numbers client i = within (start_of numbers client) 1 (end_of numbers client) i

-- whether it is a call
abbrev pub is_call_at : List Bool → Option ℕ → Bool
is_call_at are_calls None = false
is_call_at are_calls (Some number) = slice_index_or are_calls number false

abbrev pub has_call : Numbers → ℕ → ℕ → Bool
has_call numbers client i = is_call_at numbers.are_calls (operation_in numbers client i)
