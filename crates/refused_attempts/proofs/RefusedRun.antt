-- What a whole run tells of the errors that clients posted for attempts that they were refused.
use Rattle.std.proofs.Common.{◌≡◌, ◌≢◌, ℕ, ◌<◌, ◌≤◌, ◌⊎◌, inl, inr, ⊎_elim, List, [], ◌∷◌, Ok, sym, ap, ◌∙◌, subst, arith}
use Rattle.std.specs.List.{AllByRecursion}
use Rattle.sock_model.specs.declared.chain.Heading.{Heading}
use Rattle.seat_programs.specs.brpc_model.specs.Items.{Item}
use Rattle.seat_programs.specs.brpc_model.specs.Operations.{Turn}
use Rattle.seat_programs.specs.brpc_model.specs.Script.{script_of}
use Rattle.corr_core.specs.IdSlotWord.{error_of, code_of, attempt_of}
use Rattle.corr_core.specs.EndedByRangeOrAttempt.{WHOLE}
use Rattle.sock_message.specs.Asked.{Asked, name_of}
use Rattle.seat_programs.specs.Cores.{Core}
use Rattle.seat_programs.specs.Tasks.{plan_of}
use Rattle.seat_programs.specs.ScriptSetupToEnding.{all_tasks, IsRunWithCalls}
use Rattle.seat_programs.specs.ExplainedCalls.{IsUnordered, WhyLost, WasFull}
use Rattle.attempted_calls.specs.Below.outcome_stories.specs.OperationStories.{In}
use Rattle.attempted_calls.specs.Below.joint_runs.proofs.RunsOfBothTables.{AreMade}
use Rattle.attempted_calls.specs.Below.call_owing.specs.LivesOfLinks.{ClosesInRun}
use Rattle.attempted_calls.specs.Below.call_stories.specs.Decided.{posted_by}
use Rattle.attempted_calls.specs.Below.call_stories.specs.PostsOfRun.{Post}
use Rattle.attempted_calls.specs.accept_counts.specs.RefusedOrDropped.{Deed, DidEarly, DidLate, DidInRun, FoundNothing, IsRefusal, IsDrop, RunWouldOwn, ByReader, ByExpiry, ByRefusal, ByDrop}
use Rattle.attempted_calls.specs.sent_once.proofs.OtherTasksBesideCalls.{fixed_of_run, gave_of_run, orders_here}
use Rattle.attempted_calls.specs.accept_counts.proofs.RunsKeepAttemptLaw.{AreLabelledIn, IsCallOf}
use Rattle.refused_attempts.proofs.RefusedGone.{unordered}
use Rattle.refused_attempts.proofs.RefusedLost.{early_lost, late_lost}
use Rattle.refused_attempts.proofs.RefusedMeans.{IsSo}
use Rattle.refused_attempts.proofs.RefusedWhole.{end_views, IsGone, KindOfPost, kinds_of_seat}
use Rattle.refused_attempts.proofs.RefusedWhys.{full, before_so, late_so}
use Rattle.refused_attempts.proofs.RefusedPosts.{all_done}
use Rattle.attempted_calls.specs.Below.outcome_stories.specs.Facts.{shown_in_run}

code_is : (e code n : ℕ) → n ≤ 6 → e ≡ error_of code n → (code_of e ≡ code) × (attempt_of e ≡ n)
code_is e code n few is = (ap code_of is ∙ (let z : code_of (error_of code n) ≡ code = omega (arith, few) in z), ap attempt_of is ∙ (let z : attempt_of (error_of code n) ≡ n = omega (arith, few) in z))

module _ (script : List Item) (made : AreMade script) (turns : List Turn) (core : Core) (is : IsRunWithCalls script turns core) (closes : ClosesInRun script turns core is) (ids : ℕ → ℕ) (labelled : AreLabelledIn ids script turns core is) (would : RunWouldOwn ids script turns core is) where
  abbrev IsUnordered_ : ℕ → ℕ → Type 0
  IsUnordered_ o n = IsUnordered (plan_of script) (all_tasks script) core.outcomes (fixed_of_run script made turns core is closes) (gave_of_run script made turns core is closes) (orders_here script made turns core is closes) o n

  abbrev WasFull_ : Type 0
  WasFull_ = WasFull (plan_of script) (all_tasks script) core.outcomes (fixed_of_run script made turns core is closes) (gave_of_run script made turns core is closes) (orders_here script made turns core is closes)

  abbrev WhyLost_ : ℕ → ℕ → ℕ → ℕ → Type 0
  WhyLost_ c o n name = WhyLost (plan_of script) (all_tasks script) core.outcomes (fixed_of_run script made turns core is closes) (gave_of_run script made turns core is closes) (orders_here script made turns core is closes) c o n name

  -- the error was posted for an attempt that was refused, of the call with this id, whatever its client c
  pub record IsOfRefusal (x : Post) : Type 0 where
    pub asked : Asked
    pub called : IsCallOf script asked
    pub own : ids asked.operation ≡ x.id
    pub few : attempt_of x.error ≤ 6
    pub unordered : IsUnordered_ asked.operation (attempt_of x.error)
    pub why : ((code_of x.error ≡ 3001) × WasFull_)
        ⊎ ((code_of x.error ≡ 1009) × (((c : ℕ) → WhyLost_ c asked.operation (attempt_of x.error) (name_of asked (attempt_of x.error))) ⊎ FoundNothing script turns core is asked.operation (attempt_of x.error) (name_of asked (attempt_of x.error))))

  module _ (bytes : List ℕ) (reads : script_of bytes ≡ Ok script) where
    -- what is said of the attempt by the error alone
    of_attempt : (x : Post) (n : ℕ) → attempt_of x.error ≡ n → (r : Asked) → IsCallOf script r → ids r.operation ≡ x.id → n ≤ 6 → IsGone script made turns core is closes ids labelled would x.id n
        → ((code_of x.error ≡ 3001) × WasFull_) ⊎ ((code_of x.error ≡ 1009) × (((c : ℕ) → WhyLost_ c r.operation n (name_of r n)) ⊎ FoundNothing script turns core is r.operation n (name_of r n))) → IsOfRefusal x
    of_attempt x n same r called own few gone why = record {
      asked = r;
      called = called;
      own = own;
      few = subst (λ z. z ≤ 6) (sym same) few;
      unordered = subst (IsUnordered_ r.operation) (sym same) (unordered script made turns core is closes ids labelled would n r called (subst (λ z. IsGone script made turns core is closes ids labelled would z n) (sym own) gone));
      why = subst (λ z. ((code_of x.error ≡ 3001) × WasFull_) ⊎ ((code_of x.error ≡ 1009) × (((c : ℕ) → WhyLost_ c r.operation z (name_of r z)) ⊎ FoundNothing script turns core is r.operation z (name_of r z)))) (sym same) why;
    }

    all_so : (Did : Deed → Type 0) → ((d : Deed) → Did d → IsSo (plan_of script) core (end_views script made turns core is closes) d) → (ds : List Deed) → AllByRecursion Did ds → AllByRecursion (λ (d : Deed). IsSo (plan_of script) core (end_views script made turns core is closes) d) ds
    all_so Did f [] a = tt
    all_so Did f (d ∷ ds) a = (f d a.0, all_so Did f ds a.1)

    early_refusal : (x : Post) (seat n code : ℕ) (ds : List Deed) → seat < 32 → AllByRecursion (DidEarly script turns core is seat) ds → IsRefusal (plan_of script).requests (IsCallOf script) ids x.id n code ds
        → IsGone script made turns core is closes ids labelled would x.id n → x.error ≡ error_of code n → IsOfRefusal x
    early_refusal x seat n code ds client did r gone e = let parts = code_is x.error code n r.few e in
        of_attempt x n parts.1 r.asked r.called r.own r.few gone (⊎_elim
        (λ f. inl (parts.0 ∙ f.0, full script made turns core is closes ds f.1 (all_so (DidEarly script turns core is seat) (before_so script made turns core is closes seat) ds did)))
        (λ l. inr (parts.0 ∙ l.0, ⊎_elim (λ w. inl w) (λ w. inr (w.0, seat, w.1.0, client, w.1.1)) (early_lost script made turns core is closes bytes reads r.asked.operation n (name_of r.asked n) seat ds did l.1))) r.why)

    late_refusal : (x : Post) (seat n code : ℕ) (ds : List Deed) → AllByRecursion (DidLate script turns core is seat) ds → IsRefusal (plan_of script).requests (IsCallOf script) ids x.id n code ds
        → IsGone script made turns core is closes ids labelled would x.id n → x.error ≡ error_of code n → IsOfRefusal x
    late_refusal x seat n code ds did r gone e = let parts = code_is x.error code n r.few e in
        of_attempt x n parts.1 r.asked r.called r.own r.few gone (⊎_elim
        (λ f. inl (parts.0 ∙ f.0, full script made turns core is closes ds f.1 (all_so (DidLate script turns core is seat) (late_so script made turns core is closes seat) ds did)))
        (λ l. inr (parts.0 ∙ l.0, inl (λ c. late_lost script made turns core is closes bytes reads c n (name_of r.asked n) seat r.asked ds did r.put))) r.why)

    -- why seat j posted an error
    pub data WhyPosted (j : ℕ) (x : Post) : Type 0 where
      PostedByReader : (n : ℕ) → 32 ≤ j → (x.error ≡ error_of 1014 n) ⊎ (x.error ≡ error_of 2002 n) → WhyPosted j x
      PostedByExpiry : j < 32 → x.error ≡ error_of 1008 WHOLE → WhyPosted j x
      PostedByRefusal : j < 32 → IsOfRefusal x → WhyPosted j x
      PostedByDrop : (heading : Heading) (code : ℕ) (ds : List Deed) → j < 32 → AllByRecursion (DidInRun script turns core is j) ds → IsDrop heading code ds → heading.owner ≢ 0 → heading.owner ≡ x.id
          → x.error ≡ error_of (Rattle.std.specs.Prelude.if◌then◌else◌ (Rattle.std.specs.Prelude.◌==◌ code 0) 1009 code) heading.label.attempt → WhyPosted j x

    pub refused_of_seat : (j : ℕ) (x : Post) → In x (shown_in_run script turns core is (posted_by j)) → WhyPosted j x
    refused_of_seat j x at = ⊎_elim early late (kinds_of_seat script made turns core is closes ids labelled would j x at)
      where
        early : KindOfPost script made turns core is closes ids labelled would (DidEarly script turns core is) j x → WhyPosted j x
        early (ByReader n high e) = PostedByReader n high e
        early (ByExpiry low e) = PostedByExpiry low e
        early (ByRefusal n code ds low did r gone e) = PostedByRefusal low (early_refusal x j n code ds low did r gone e)
        early (ByDrop heading code ds low did drop owner same e) = PostedByDrop heading code ds low (all_done (DidEarly script turns core is j) (DidInRun script turns core is j) (λ d y. inl y) ds did) drop owner same e

        late : KindOfPost script made turns core is closes ids labelled would (DidLate script turns core is) j x → WhyPosted j x
        late (ByReader n high e) = PostedByReader n high e
        late (ByExpiry low e) = PostedByExpiry low e
        late (ByRefusal n code ds low did r gone e) = PostedByRefusal low (late_refusal x j n code ds did r gone e)
        late (ByDrop heading code ds low did drop owner same e) = PostedByDrop heading code ds low (all_done (DidLate script turns core is j) (DidInRun script turns core is j) (λ d y. inr (inr y)) ds did) drop owner same e
