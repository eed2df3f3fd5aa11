-- What is counted of the lines so far, and what the counts say of the next line.
use Rattle.std.specs.Prelude.{ℕ, ◌+◌, ◌≤◌, Bool, false, ◌&&◌, ◌||◌, not, true, nat_lt, nat_le, if◌then◌else◌, is_some, List, count_by, filter_map, slice_get, Option, None}
use Rattle.std.specs.List.{list_any}
use Rattle.std.specs.Option.{option_or}
use Rattle.brpc_model.specs.Items.{Item, Slots, Requests, First, is_client, is_open, is_call, is_size, is_sched, is_turn, is_operation}
use Rattle.brpc_model.specs.Operations.{slots_in, requests_in, first_in}
use Rattle.brpc_model.specs.Script.{is_unserved}
use Rattle.script_lang.specs.declared.counts.Counts.{Counts}

-- ## The counts

-- the size that the first of these items gives that gives one
abbrev pub given : (Item → Option ℕ) → List Item → Option ℕ
given size items = slice_get (filter_map size items) 0

-- the counts of these items
abbrev pub counts_of : List Item → Counts
counts_of items = record {
  slots = given slots_in items;
  requests = given requests_in items;
  first = given first_in items;
  others = list_any (λ i. not (is_size i)) items;
  clients = count_by is_client items;
  links = count_by is_open items;
  operations = count_by is_operation items;
  calls = count_by is_call items;
  scheduled = list_any is_sched items;
  turns = count_by is_turn items;
  unserved = list_any is_unserved items;
}

-- before the first item
abbrev pub no_counts : Counts
no_counts = record { slots = None; requests = None; first = None; others = false; clients = 0; links = 0; operations = 0; calls = 0; scheduled = false; turns = 0; unserved = false }

-- a test that passed before or passes now
abbrev pub or_now : Bool → Bool → Bool
or_now now before = if now then true else before

-- a count and one more, if this is one
abbrev pub and_one : Bool → ℕ → ℕ
and_one is n = if is then n + 1 else n

-- the counts with one more item
abbrev pub counted : Counts → Item → Counts
counted c item = record {
  slots = option_or c.slots (slots_in item);
  requests = option_or c.requests (requests_in item);
  first = option_or c.first (first_in item);
  others = or_now (not (is_size item)) c.others;
  clients = and_one (is_client item) c.clients;
  links = and_one (is_open item) c.links;
  operations = and_one (is_operation item) c.operations;
  calls = and_one (is_call item) c.calls;
  scheduled = or_now (is_sched item) c.scheduled;
  turns = and_one (is_turn item) c.turns;
  unserved = or_now (is_unserved item) c.unserved;
}

-- each count is at most its limit
pub record IsWithinLimits (c : Counts) : Type 0 where
  pub clients : c.clients ≤ 31
  pub links : c.links ≤ 31
  pub operations : c.operations ≤ 4096
  pub calls : c.calls ≤ c.operations
  pub turns : c.turns ≤ 4096

-- ## The next line, by the counts

-- this size was given
abbrev pub is_given : Counts → Item → Bool
is_given c (Slots n) = is_some c.slots
is_given c (Requests n) = is_some c.requests
is_given c (First v) = is_some c.first
is_given c other = false

-- the line is at a wrong place
abbrev pub stands_wrong : Counts → Item → Bool
stands_wrong c item =
    (is_size item && (c.others || is_given c item))
    || (is_operation item && not (is_open item) && not (nat_lt 0 c.clients))
    || ((is_operation item || is_client item || is_sched item) && c.scheduled)
    || (is_turn item && not c.scheduled)

-- the line is a client, link, operation or schedule line too many
abbrev pub is_one_too_many : Counts → Item → Bool
is_one_too_many c item =
    (is_client item && nat_le 31 c.clients)
    || (is_open item && nat_le 31 c.links)
    || (is_operation item && nat_le 4096 c.operations)
    || (is_turn item && nat_le 4096 c.turns)
