-- Where no end of a call is told twice, no two operations have it as their outcome.
use Rattle.std.proofs.Common.{◌≡◌, ℕ, zero, suc, ◌+◌, ◌≤◌, true, false, List, [], ◌∷◌, ◌++◌, Some, None, replicate, refl, arith}
use Rattle.std.specs.Prelude.{Option, slice_set}
use Rattle.std.specs.List.{AllByRecursion}
use Rattle.sock_words.specs.declared.outcome.Outcome.{Outcome}
use Rattle.sock_words.specs.declared.outcome.Outcome.TheVariants as outcomes
use Rattle.corr_id.proofs.IdSeatSplits.{total_append}
use Rattle.call_deeds.specs.Below.RpcClient.Told.{Told}
use Rattle.call_told.specs.TellersOfCallEnds.{is_end_of_call, IsOwn}
use Rattle.call_told.specs.ToldOnce.{ends_of, told_ends, ToldOnce, shows, ShownOnce}
use Rattle.sock_words.specs.Totals.{total}

-- ## Put together by their numbers

pub shown_none : (id n : ℕ) → total (shows id) (replicate n None) ≡ 0
shown_none id zero = refl
shown_none id (suc n) = let a = shown_none id n in omega arith

-- one is told more
pub shown_set : (id : ℕ) (outcomes : List (Option Outcome)) (i : ℕ) (by : Outcome) → total (shows id) (slice_set outcomes i (Some by)) ≤ total (shows id) outcomes + ends_of id by
shown_set id [] i by = omega arith
shown_set id (o ∷ os) zero by = omega arith
shown_set id (o ∷ os) (suc i) by = let a = shown_set id os i by in omega arith

-- ## What clients tell of their own operations

own_by : (id : ℕ) (o : Outcome) → is_end_of_call o ≡ false → ends_of id o ≡ 0
own_by id (outcomes.Answered ended payload attachment) e = let k : true ≡ false = e in absurd (cc)
own_by id (outcomes.Peer ended code) e = let k : true ≡ false = e in absurd (cc)
own_by id (outcomes.CallFailed ended code) e = let k : true ≡ false = e in absurd (cc)
own_by id _ e = refl

own_ends : (id : ℕ) (xs : List Told) → AllByRecursion IsOwn xs → told_ends id xs ≡ 0
own_ends id [] a = refl
own_ends id (x ∷ xs) a = let y = own_by id x.outcome a.0 in let z = own_ends id xs a.1 in omega arith

owns_end : (id : ℕ) (own : List (List Told)) → AllByRecursion (λ xs. AllByRecursion IsOwn xs) own → total (told_ends id) own ≡ 0
owns_end id [] a = refl
owns_end id (xs ∷ own) a = let y = own_ends id xs a.0 in let z = owns_end id own a.1 in omega arith

-- outcomes that show no more than what clients tell of their own operations and what is told of calls that ended
pub shown_once : (slots : ℕ) (outcomes : List (Option Outcome)) (own tellers : List (List Told)) → ((id : ℕ) → total (shows id) outcomes ≤ total (told_ends id) (own ++ tellers)) → AllByRecursion (λ xs. AllByRecursion IsOwn xs) own → ToldOnce slots tellers → ShownOnce slots outcomes
shown_once slots outcomes own tellers few owns once id inside =
    let a = few id in let b = total_append (told_ends id) own tellers in let c = owns_end id own owns in let d = once id inside in omega arith
