-- The calls of a script that was read keep the limits of calls.
use Rattle.std.proofs.Common.{◌≡◌, ℕ, List, [], ◌∷◌, length, map, arith}
use Rattle.std.proofs.lemmas.List.{length-map}
use Rattle.std.specs.List.{AllByRecursion}
use Rattle.brpc_model.specs.Items.{Item, Call, CallLine}
use Rattle.script_facts.proofs.CallLines.{CallInRange}
use Rattle.script_facts.proofs.ReadScriptFacts.{InRange}
use Rattle.sock_message.specs.InsideMessages.{KeepsLimits}
use Rattle.seat_programs.specs.Tasks.{name_number, asked_of}
use Rattle.script_lang.specs.TasksByLine.{IsShort}

call_short : (call : CallLine) → CallInRange call → (names : List (List ℕ)) (o : ℕ) → KeepsLimits (asked_of names o call)
call_short call range names o =
    let count : length (map (name_number names) call.names) ≡ length call.names = length-map call.names (name_number names) in record {
      some_name = omega (arith, count, range.names.0);
      two_names = omega (arith, count, range.names.1);
      short_service = range.service;
      short_method = range.method;
      short_body = range.bodies;
      some_range = omega arith;
      few_versions = omega (arith, range.retry);
    }

item_short : (item : Item) → InRange item → IsShort item
item_short (Call call) range = call_short call range
item_short _ range = tt

pub are_short : (script : List Item) → AllByRecursion InRange script → AllByRecursion IsShort script
are_short [] all = tt
are_short (item ∷ items) all = (item_short item all.0, are_short items all.1)
