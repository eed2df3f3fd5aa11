-- The operations of a script with numbers in place of names and links.
use Rattle.std.specs.Prelude.{ℕ, ◌+◌, ◌==◌, ◌&&◌, if◌then◌else◌, List, [], ◌∷◌, length, map, filter, filter_map, option_map, bytes_eq, Option, Some, None}
use Rattle.sock_model.specs.sock_words.specs.declared.plain.Plan.{Plan}
use Rattle.seat_programs.specs.declared.task.Op.{Op}
use Rattle.seat_programs.specs.declared.task.Op.TheVariants as ops
use Rattle.seat_programs.specs.declared.task.Task.{Task}
use Rattle.sock_message.specs.Asked.{Asked}
use Rattle.corr_core.specs.declared.marks.Plan.{Plan as IdPlan}
use Rattle.sock_message.specs.brpc_model.specs.Items.{Item, Open, Send, Call, Expire, Join, Fail, Hold, Drop, CallLine, is_open, is_call}
use Rattle.sock_message.specs.brpc_model.specs.LinePlaceFaults.{names}
use Rattle.sock_message.specs.brpc_model.specs.Operations.{Operation, operations, clients, link_names, slots, requests, first_version}

-- the number of a name, by the order of first mention
abbrev pub name_number : List (List ℕ) → List ℕ → ℕ
name_number [] name = 0
name_number (n ∷ ns) name = if bytes_eq n name then 0 else name_number ns name + 1

-- an operation with its number in the script, and for an `open` the number of its link
pub record Numbered : Type 0 where
  pub number : ℕ
  pub link : ℕ
  pub op : Operation

-- these operations with their numbers, of which the next are given
abbrev pub numbered_from : ℕ → ℕ → List Operation → List Numbered
numbered_from number link [] = []
numbered_from number link (op ∷ ops) =
    (record { number = number; link = link; op = op }) ∷ numbered_from (number + 1) (if is_open op.item then link + 1 else link) ops

abbrev pub numbered : List Item → List Numbered
numbered script = numbered_from 0 0 (operations script)

-- those of a client
abbrev pub of_client : ℕ → List Numbered → List Numbered
of_client client ops = filter (λ (n : Numbered). n.op.client == client) ops

-- the number of the call `C.I`
abbrev pub number_of : List Numbered → ℕ → ℕ → ℕ
number_of [] client i = 0
number_of (n ∷ ns) client i = if (n.op.client == client) && (n.op.number == i) then n.number else number_of ns client i

abbrev pub asked_of : List (List ℕ) → ℕ → CallLine → Asked
asked_of names o call = record {
  operation = o;
  names = map (name_number names) call.names;
  service = call.service;
  method = call.method;
  payload = call.payload;
  attachment = call.attachment;
  range = call.retry + 2;
}

-- what an item asks for, by numbers
abbrev pub op_of : List Numbered → List (List ℕ) → Numbered → Item → Option Op
op_of all names n (Open name shape) = Some (ops.Open (name_number names name) n.link)
op_of all names n (Send name bytes) = Some (ops.Send (name_number names name) bytes)
op_of all names n (Call call) = Some (ops.Call (asked_of names n.number call))
op_of all names n (Expire client i) = Some (ops.Expire (number_of all client i))
op_of all names n (Join client i) = Some (ops.Join (number_of all client i))
op_of all names n (Hold name) = Some (ops.Hold (name_number names name))
op_of all names n (Drop name) = Some (ops.Drop (name_number names name))
op_of all names n (Fail name code) = Some (ops.Fail (name_number names name) code)
op_of all names n other = None

abbrev pub task_of : List Numbered → List (List ℕ) → Numbered → Option Task
task_of all names n = option_map (λ (op : Op). record { number = n.number; op = op }) (op_of all names n n.op.item)

-- the tasks of a client, in order; client 0 is the setup
abbrev pub tasks : List Item → ℕ → List Task
tasks script client = filter_map (task_of (numbered script) (names script)) (of_client client (numbered script))

-- the numbers of the `open` operations, in order of their links
abbrev pub opens : List Item → List ℕ
opens script = filter_map (λ (n : Numbered). if is_open n.op.item then Some n.number else None) (numbered script)

-- and of the `call` operations
abbrev pub calls : List Item → List ℕ
calls script = filter_map (λ (n : Numbered). if is_call n.op.item then Some n.number else None) (numbered script)

-- the sizes of its table of ids: each call has an id slot, and each client and reader a seat
abbrev pub id_plan_of : List Item → IdPlan
id_plan_of script = record { slots = length (calls script); operations = length (operations script); seats = 32 + length (link_names script) }

-- the sizes of a script's table
abbrev pub plan_of : List Item → Plan
plan_of script = record {
  slots = slots script;
  links = length (link_names script);
  requests = requests script;
  names = length (names script);
  operations = length (operations script);
  seats = clients script + 1;
  first = first_version script;
}
