-- A client tells of each id as many ends as its seat noted, unless memory was wanting.
use Rattle.std.proofs.Common.{◌≡◌, ℕ, ◌+◌, ◌*◌, ◌⊎◌, inl, inr, Bool, true, false, List, [], ◌∷◌, drop, refl, ◌∙◌, ap, sym, subst, arith}
use Rattle.std.specs.Prelude.{Option}
use Rattle.std.specs.List.{AllByRecursion}
use Rattle.std.proofs.lemmas.List.{drop_all}
use Rattle.atomic_table.specs.Table.{Me}
use Rattle.sock_io.specs.declared.link.Out.{Ghosts}
use Rattle.sock_io.specs.LinkHalves.{OutState}
use Rattle.sock_words.specs.declared.plain.Plan.{Plan}
use Rattle.seat_programs.specs.declared.task.Task.{Task}
use Rattle.corr_core.specs.declared.marks.Plan as id_plan
use Rattle.corr_core.specs.declared.marks.View.{View}
use Rattle.id_rule.specs.LawfulIdTable.{newcomer}
use Rattle.sock_message.specs.Asked.{Asked}
use Rattle.corr_id.proofs.IdSeatSplits.{total_append}
use Rattle.call_deeds.specs.Below.RpcClient.Told.{Told}
use Rattle.call_deeds.specs.Below.CallErrors.ClientBooks.{Books, CallStand, stand_of, books_of}
use Rattle.call_deeds.specs.Below.CallErrors.Accounts as errors
use Rattle.call_deeds.specs.Below.CallClient.Caller.{Caller}
use Rattle.call_deeds.specs.Below.CallClient.ClientBetweenOperations.{Stand}
use Rattle.call_deeds.specs.Below.CallClient.ClientRun.{LeftAll, RunBy}
use Rattle.call_deeds.specs.Below.CallClient.EndedCallsTelling.{run_tells}
use Rattle.call_told.specs.TellersOfCallEnds.{IsFailure, TellsOnly}
use Rattle.call_told.specs.ToldOnce.{ends_of, told_ends}
use Rattle.call_told.proofs.Balance.{noted_ends, Accounted, Balanced, told_more, balanced_more}
use Rattle.call_told.proofs.ClientTellings.{ended_fails}
use Rattle.sock_words.specs.Totals.{total}

failure_ends : (id : ℕ) (x : Told) → IsFailure x → errors.is_end id x ≡ ends_of id x.outcome
failure_ends id x h = ap (errors.fails id) h.is ∙ sym (ap (ends_of id) h.is)

failures_end : (id : ℕ) (xs : List Told) → AllByRecursion IsFailure xs → total (errors.is_end id) xs ≡ told_ends id xs
failures_end id [] a = refl
failures_end id (x ∷ xs) a = let y = failure_ends id x a.0 in let z = failures_end id xs a.1 in omega arith

-- of those that only failed
only_failures : (id : ℕ) (old new : List Told) → TellsOnly IsFailure old new → told_ends id new + total (errors.is_end id) old ≡ told_ends id old + total (errors.is_end id) new
only_failures id old new h =
    let a = ap (told_ends id) h.1 in let b = told_more id old h.0 in
    let c = ap (total (errors.is_end id)) h.1 in let d = total_append (errors.is_end id) old h.0 in
    let e = failures_end id h.0 h.2 in omega arith

module _ {O : Type 0} {g : Ghosts O} (state : O → OutState) (p : Plan) (q : id_plan.Plan) where
  pub run_accounts : {short : Bool} {xs : List Task} (c d : Caller O g) → RunBy state p q short xs c d
      → (d.calls.starved ≡ true) ⊎ Accounted c.calls.told.items c.calls.seat.me.0.notes d.calls.told.items d.calls.seat.me.0.notes
  run_accounts c d r = by (run_tells c d r)
    where
      by : errors.Accounts (stand_of c.calls) (stand_of d.calls) → (d.calls.starved ≡ true) ⊎ Accounted c.calls.told.items c.calls.seat.me.0.notes d.calls.told.items d.calls.seat.me.0.notes
      by (inl x) = inl x
      by (inr a) = inr (λ slot first low. let x = a slot first low in let y = only_failures (slot * 4294967296 + first) c.calls.told.items d.calls.told.items (ended_fails state p q c d r).ended in omega arith)

  pub none_left : (s t : Stand g) (xs : List Task) → xs ≡ [] → LeftAll p xs s t → t ≡ s
  none_left s t xs e h = subst (λ (l : List Task). LeftAll p l s t) e h

  -- memory was not wanting where the run says so
  run_fed : {xs : List Task} (c d : Caller O g) → RunBy state p q false xs c d → d.calls.starved ≡ false
  run_fed {xs} c d r =
      let all : drop r.made xs ≡ [] = let n = r.ends.0 in drop_all r.made xs (omega arith) in
      ap (λ (s : CallStand). s.books.starved) r.calls ∙ (ap (λ (s : Stand g). s.calls.books.starved) (none_left r.last r.end (drop r.made xs) all r.left) ∙ r.ends.1.all.fed)

  -- a client that began with a new seat and had told nothing
  pub client_balanced : {xs : List Task} (c d : Caller O g) → c.calls.seat.me ≡ (newcomer, []) → books_of c.calls ≡ record { retries = []; told = []; starved = false } → RunBy state p q false xs c d → Balanced d.calls.told.items d.calls.seat.me.0.notes
  client_balanced c d fresh nothing r = by (run_accounts c d r)
    where
      notes : c.calls.seat.me.0.notes ≡ []
      notes = ap (λ (m : Me (Option Asked) (View Asked)). m.0.notes) fresh

      told : c.calls.told.items ≡ []
      told = ap (λ (b : Books). b.told) nothing

      by : (d.calls.starved ≡ true) ⊎ Accounted c.calls.told.items c.calls.seat.me.0.notes d.calls.told.items d.calls.seat.me.0.notes → Balanced d.calls.told.items d.calls.seat.me.0.notes
      by (inl x) = let k : true ≡ false = sym x ∙ run_fed c d r in absurd (cc)
      by (inr a) = balanced_more c.calls.told.items d.calls.told.items c.calls.seat.me.0.notes d.calls.seat.me.0.notes a
          (λ slot first low. ap (told_ends (slot * 4294967296 + first)) told ∙ sym (ap (noted_ends slot first) notes))
