-- Each answer that is reported is that of a call, and comes from a whole response to it that a link gave.
use Rattle.std.proofs.Common.{ℕ, List, [], ◌∷◌, ◌++◌, replicate, inl, inr, None, ap, ◌∙◌, subst}
use Rattle.std.specs.Prelude.{slice_get}
use Rattle.std.specs.List.{AllByRecursion}
use Rattle.brpc_model.specs.Operations.{Operation}
use Rattle.rpc_client.specs.declared.acting.Told.{Told}
use Rattle.script_parts.proofs.ClientSayingsByNumber.{told_each, none_told}
use Rattle.calls_done.specs.call_whys.specs.call_told.specs.TellersOfCallEnds.{IsFailure, IsOwn, HasAnswer, HaveAnswers}
use Rattle.calls_done.specs.call_whys.specs.call_told.proofs.ListElementsByPlace.{all_both, all_then, all_at}
use Rattle.calls_done.specs.call_whys.specs.call_told.proofs.ToldAnswers.{Answers, AllHave, failure_answer, own_answer}
use Rattle.script_parts.specs.ThreadScriptTold.{outcomes_of}

module _ (links : ℕ) (gave : ℕ → List ℕ) (ops : List Operation) where
  -- what tells of failures only
  pub failures_have : (ended : List (List Told)) → AllByRecursion (λ ts. AllByRecursion IsFailure ts) ended → AllByRecursion (AllHave links gave ops) ended
  failures_have ended failures = all_then (λ ts. AllByRecursion IsFailure ts) (AllHave links gave ops) ended (λ ts. all_then IsFailure (Answers links gave ops) ts (failure_answer links gave ops)) failures

  -- put together by the numbers of operations: by what clients told of their own, where none of it is an answer, by what was told of ends of calls, and by what was told behind that
  pub outcomes_have : (n : ℕ) (told ended : List (List Told)) (read : List Told) → AllByRecursion (λ ts. AllByRecursion IsOwn ts) told → AllByRecursion (AllHave links gave ops) ended → AllHave links gave ops read → HaveAnswers links gave ops (outcomes_of n told ended read)
  outcomes_have n told ended read owns ends has k by at op there = elim (told_each (replicate n None) tellers k by at) [
    | inl e ↦ absurd (none_told n k by e)
    | inr w ↦ (let t = w.3.1 in let a = all_at (Answers links gave ops) w.1 w.3.0 t (all_at (AllHave links gave ops) tellers w.0 w.1 all w.2) w.3.2 in subst (HasAnswer links gave op.item) w.3.4 (a op (ap (slice_get ops) w.3.3 ∙ there)))
  ]
    where
      tellers : List (List Told)
      tellers = (told ++ ended) ++ read ∷ []

      all : AllByRecursion (AllHave links gave ops) tellers
      all = all_both (AllHave links gave ops) (told ++ ended) (read ∷ [])
          (all_both (AllHave links gave ops) told ended
          (all_then (λ ts. AllByRecursion IsOwn ts) (AllHave links gave ops) told (λ ts. all_then IsOwn (Answers links gave ops) ts (own_answer links gave ops)) owns)
          ends)
          (has, tt)
