-- What the cause of a post says of the call that it ended, and of the attempt that it ended.
use Rattle.std.proofs.Common.{◌≡◌, ℕ, ◌+◌, ◌≤◌, ◌⊎◌, inl, inr, ⊎_elim, true, false, List, Option, arith}
use Rattle.sock_words.specs.declared.plain.Plan.{Plan}
use Rattle.sock_words.specs.declared.outcome.Outcome.{Outcome}
use Rattle.sock_words.specs.ErrorCodes.{is_final}
use Rattle.sock_message.specs.Asked.{Asked, name_of}
use Rattle.seat_programs.specs.declared.task.Task.{Task}
use Rattle.seat_programs.specs.ExplainedCalls.{Fixed, Order, IsDropped, WhyLost, WhyAgain, AfterDrop, AfterLoss, AfterFull, FailedBy, ByFrameFault, ByEnd, BySocket, ByRequests, ByFail}
use Rattle.dropped_calls.specs.accept_counts.specs.PostCauses.{PostCause, OfLoss, OfWant, OfDrop, OfFail, OfFault, OfEnd}

-- codes that end no call by themselves
not_final : (code : ℕ) → is_final code ≡ true → (code ≡ 1009) ⊎ ((code ≡ 3001) ⊎ ((1500 ≤ code) × (code ≤ 1999))) → ⊥
not_final code final (inl e) = grind (arith, final, e)
not_final code final (inr (inl e)) = grind (arith, final, e)
not_final code final (inr (inr e)) = grind (arith, final, e.0, e.1)

pub never_final : (code : ℕ) → is_final code ≡ false → (code ≡ 1014) ⊎ (code ≡ 2002) → ⊥
never_final code open_ (inl e) = grind (arith, open_, e)
never_final code open_ (inr e) = grind (arith, open_, e)

module _ (p : Plan) (clients : List (List Task)) (outcomes : List (Option Outcome)) (fixed : Fixed) (gave : ℕ → List ℕ) (orders : ℕ → Order) (c o : ℕ) (asked : Asked) (id code n : ℕ)
    (lost : IsDropped p clients outcomes fixed gave orders o n → WhyLost p clients outcomes fixed gave orders c o n (name_of asked n)) where
  used : (is_final code ≡ true) ⊎ (n + 2 ≡ asked.range) → (code ≡ 1009) ⊎ ((code ≡ 3001) ⊎ ((1500 ≤ code) × (code ≤ 1999))) → n + 2 ≡ asked.range
  used ends is = ⊎_elim (λ final. absurd (not_final code final is)) (λ last. last) ends

  -- a call that ended by such a post
  pub failed_by_post : (is_final code ≡ true) ⊎ (n + 2 ≡ asked.range) → PostCause p clients outcomes fixed gave orders c o asked id code n → FailedBy p clients outcomes fixed gave orders c o asked id code n
  failed_by_post ends (OfLoss is unordered why) = BySocket is (used ends (inl is)) (inl unordered) why
  failed_by_post ends (OfWant is unordered full) = ByRequests is (used ends (inr (inl is))) unordered full
  failed_by_post ends (OfDrop is dropped) = BySocket is (used ends (inl is)) (inr dropped) (lost dropped)
  failed_by_post ends (OfFail low high dropped failed) = ByFail low high (used ends (inr (inr (low, high)))) dropped failed
  failed_by_post ends (OfFault is k on gave_one) = ByFrameFault is k on gave_one
  failed_by_post ends (OfEnd is k ended) = ByEnd is k ended

  -- an attempt that was given up for such a post
  pub again_by_post : is_final code ≡ false → PostCause p clients outcomes fixed gave orders c o asked id code n → WhyAgain p clients outcomes fixed gave orders c o n (name_of asked n)
  again_by_post open_ (OfLoss is unordered why) = AfterLoss unordered why
  again_by_post open_ (OfWant is unordered full) = AfterFull unordered full
  again_by_post open_ (OfDrop is dropped) = AfterDrop dropped
  again_by_post open_ (OfFail low high dropped failed) = AfterDrop dropped
  again_by_post open_ (OfFault is k on gave_one) = absurd (never_final code open_ (inr is))
  again_by_post open_ (OfEnd is k ended) = absurd (never_final code open_ (inl is))
