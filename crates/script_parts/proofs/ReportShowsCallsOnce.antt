-- No call is told twice in a run, and so no two outcomes of its report show the end of one call.
use Rattle.std.proofs.Common.{◌≡◌, ℕ, ◌+◌, ◌≤◌, List, [], ◌∷◌, ◌++◌, append_assoc, map, Some, None, replicate, refl, ap, arith}
use Rattle.std.specs.Prelude.{Option, slice_set}
use Rattle.std.specs.List.{flat_map}
use Rattle.sock_words.specs.declared.outcome.Outcome.{Outcome}
use Rattle.corr_core.specs.declared.marks.View.{View}
use Rattle.sock_message.specs.Asked.{Asked}
use Rattle.rpc_client.specs.declared.acting.Told.{Told}
use Rattle.script_parts.specs.OutcomesSaidByNumber.{said_by, said_by_each}
use Rattle.calls_done.specs.call_whys.specs.call_told.specs.ToldOnce.{told_ends, shows}
use Rattle.calls_done.specs.call_whys.specs.call_told.proofs.CallEndShownOnce.{shown_none, shown_set}
use Rattle.script_parts.specs.SeatsOfIdTable.{IdSeat}
use Rattle.script_parts.specs.ThreadScriptTold.{outcomes_of}
use Rattle.sock_words.specs.Totals.{total}

abbrev pub view_of : IdSeat → View Asked
view_of s = s.me.0

pub flat_mapped : {A B C : Type 0} (f : A → B) (g : B → List C) (xs : List A) → flat_map (λ x. g (f x)) xs ≡ flat_map g (map f xs)
flat_mapped f g [] = refl
flat_mapped f g (x ∷ xs) = ap (λ l. g (f x) ++ l) (flat_mapped f g xs)

-- ## Put together by the numbers of operations

said_few : (id : ℕ) (said : List (Option Outcome)) (ts : List Told) → total (shows id) (said_by said ts) ≤ total (shows id) said + told_ends id ts
said_few id said [] = omega arith
said_few id said (t ∷ ts) = let a = said_few id (slice_set said t.number (Some t.outcome)) ts in let b = shown_set id said t.number t.outcome in omega arith

each_few : (id : ℕ) (said : List (Option Outcome)) (tss : List (List Told)) → total (shows id) (said_by_each said tss) ≤ total (shows id) said + total (told_ends id) tss
each_few id said [] = omega arith
each_few id said (ts ∷ tss) = let a = each_few id (said_by said ts) tss in let b = said_few id said ts in omega arith

-- the ends of a call that are shown are no more than those that are told
pub outcomes_few : (n : ℕ) (told ended : List (List Told)) (read : List Told) (id : ℕ) → total (shows id) (outcomes_of n told ended read) ≤ total (told_ends id) (told ++ (ended ++ read ∷ []))
outcomes_few n told ended read id =
    let a = each_few id (replicate n None) ((told ++ ended) ++ read ∷ []) in
    let b = shown_none id n in
    let c = ap (total (told_ends id)) (append_assoc told ended (read ∷ [])) in omega arith
