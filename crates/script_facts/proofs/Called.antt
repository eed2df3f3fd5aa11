-- What a call of a script asks for is what a table of ids may be asked for.
use Rattle.std.proofs.Common.{◌≡◌, ℕ, zero, suc, ◌%◌, ◌<◌, ◌≤◌, Bool, true, false, cond, eqb, List, [], ◌∷◌, length, map, refl, sym, subst, arith}
use Rattle.std.proofs.lemmas.List.{length-map}
use Rattle.std.specs.Prelude.{slice_index}
use Rattle.std.specs.List.{AllByRecursion}
use Rattle.brpc_model.specs.Items.{Item, CallLine, Call}
use Rattle.brpc_model.specs.Operations.{operations}
use Rattle.brpc_model.specs.LinePlaceFaults.{names}
use Rattle.seat_programs.specs.Tasks.{name_number, asked_of, plan_of}
use Rattle.seat_programs.specs.Explained.{AskedFits}
use Rattle.script_facts.proofs.FilteredLists.{Has, all_at, has_first, has_later}
use Rattle.script_facts.proofs.NameNumbers.{number_within, mentioned_has}
use Rattle.script_facts.proofs.CallFrameSizes.{frame_short}
use Rattle.script_facts.proofs.ReadScriptFacts.{InRange}

-- each of these names is one of those
mapped_within : (ns xs : List (List ℕ)) → ((x : List ℕ) → Has xs x → Has ns x) → (i : ℕ) → i < length xs → slice_index (map (name_number ns) xs) i < length ns
mapped_within ns [] all i inside = absurd (omega (arith, inside))
mapped_within ns (x ∷ xs) all zero inside = number_within ns x (all x (has_first x xs))
mapped_within ns (x ∷ xs) all (suc i) inside = mapped_within ns xs (λ y h. all y (has_later x xs y h)) i (omega (arith, inside))

-- an attempt goes to the first name or to the second
pub inside_names : (n k : ℕ) → 1 ≤ k → k ≤ 2 → cond (eqb k 1) 0 (n % 2) < k
inside_names n k some_ few = by_one (eqb k 1) refl
  where
    by_one : (b : Bool) → eqb k 1 ≡ b → cond b 0 (n % 2) < k
    by_one true is = omega (arith, some_)
    by_one false is = by_two k some_ is
      where
        by_two : (k : ℕ) → 1 ≤ k → eqb k 1 ≡ false → n % 2 < k
        by_two zero some_ is = absurd (omega (arith, some_))
        by_two (suc zero) some_ is = absurd (let z : true ≡ false = is in cc)
        by_two (suc (suc k)) some_ is = omega arith

pub called_fits : (script : List Item) → AllByRecursion InRange script → (call : CallLine) → Has script (Call call) → (o : ℕ) → o < length (operations script) → AskedFits (plan_of script) (asked_of (names script) o call)
called_fits script range call there o inside = let w = all_at InRange script (Call call) range there in record {
  operation = inside;
  names = λ n. mapped_within (names script) call.names (λ x h. mentioned_has script (Call call) x there h) (cond (eqb (length (map (name_number (names script)) call.names)) 1) 0 (n % 2))
      (subst (λ k. cond (eqb k 1) 0 (n % 2) < length call.names) (sym (length-map call.names (name_number (names script)))) (inside_names n (length call.names) w.names.0 w.names.1));
  range_low = omega arith;
  range_high = let few = w.retry in omega (arith, few);
  short = frame_short (asked_of (names script) o call) w.service w.method w.bodies;
}
