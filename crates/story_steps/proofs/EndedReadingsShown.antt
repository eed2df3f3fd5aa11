-- What the lists of readings that ended show of a run: early only where a take found the end of a link, or that it failed, or where its bytes have a frame fault or are the most;
-- closed only where a take found so.
use Rattle.std.proofs.Common.{◌≡◌, ℕ, ◌≤◌, ◌⊎◌, inl, inr, ⊎_elim, ◌&&◌, ◌||◌, Bool, true, false, cond, eqb, eqb-true, nat_le, leb-true, List, [], ◌∷◌, length, Contains, refl, sym, subst}
use Rattle.std.specs.List.{filter, list_any}
use Rattle.seat_programs.specs.brpc_model.specs.Items.{Item}
use Rattle.seat_programs.specs.brpc_model.specs.Operations.{Turn}
use Rattle.seat_programs.specs.brpc_model.specs.LinkFailureCauses.{HasFault}
use Rattle.seat_programs.specs.brpc_model.specs.FrameStream.{Ending, Rest, Fault, stream, is_fault}
use Rattle.seat_programs.specs.Asides.{Taking}
use Rattle.seat_programs.specs.ReaderProgram.{LIMIT}
use Rattle.seat_programs.specs.Cores.{Core}
use Rattle.seat_programs.specs.ScheduledRuns.{from_to}
use Rattle.seat_programs.specs.Tasks.{plan_of}
use Rattle.seat_programs.specs.ScriptSetupToEnding.{IsRunWithCalls}
use Rattle.call_stories.specs.LinkReadingLists.{Take, gave_in, takes_of_run, is_last, is_closed, found_so, early_of_run, closed_of_run}
use Rattle.call_stories.proofs.PostLoopCauses.{and_left, and_right, or_cases}
use Rattle.story_steps.proofs.StoryAtRunEnd.{contains_in}
use Rattle.call_stories.specs.Below.outcome_stories.specs.OperationStories.{In}

kept_passes : (f : ℕ → Bool) (xs : List ℕ) (k : ℕ) → In k (filter f xs) → f k ≡ true
kept_passes f [] k there = absurd there
kept_passes f (x ∷ xs) k there = by_test (f x) refl there (kept_passes f xs k)
  where
    by_test : (b : Bool) → f x ≡ b → In k (cond b (x ∷ filter f xs) (filter f xs)) → (In k (filter f xs) → f k ≡ true) → f k ≡ true
    by_test true is (inl same) rest = subst (λ n. f n ≡ true) (sym same) is
    by_test true is (inr later) rest = rest later
    by_test false is later rest = rest later

module _ (script : List Item) (turns : List Turn) (end_ : Core) (r : IsRunWithCalls script turns end_) where
  -- a take of link k found this
  pub record WasFound (holds : Taking → Bool) (k : ℕ) : Type 0 where
    pub take : Take
    pub there : In take (takes_of_run script turns end_ r)
    pub link : take.link ≡ k
    pub so : holds take.found ≡ true

  some_take : (holds : Taking → Bool) (k : ℕ) (ts : List Take) → list_any (λ (t : Take). eqb t.link k && holds t.found) ts ≡ true → (t : Take) × In t ts × (t.link ≡ k) × (holds t.found ≡ true)
  some_take holds k [] is = absurd (let z : false ≡ true = is in cc)
  some_take holds k (t ∷ ts) is = ⊎_elim (λ here. (t, inl refl, eqb-true t.link k (and_left (eqb t.link k) (holds t.found) here), and_right (eqb t.link k) (holds t.found) here))
      (λ later. let x = some_take holds k ts later in (x.0, inr x.1, x.2, x.3)) (or_cases (eqb t.link k && holds t.found) (list_any (λ (t : Take). eqb t.link k && holds t.found) ts) is)

  was_found : (holds : Taking → Bool) (k : ℕ) → found_so script turns end_ r holds k ≡ true → WasFound holds k
  was_found holds k is = let x = some_take holds k (takes_of_run script turns end_ r) is in record { take = x.0; there = x.1; link = x.2; so = x.3 }

  fault_there : (e : Ending) (bytes : List ℕ) → (stream bytes).ending ≡ e → is_fault e ≡ true → HasFault bytes
  fault_there (Rest n) bytes same is = absurd (let z : false ≡ true = is in cc)
  fault_there (Fault at fault) bytes same is = (at, fault, same)

  pub shows_early : (k : ℕ) → Contains (early_of_run script turns end_ r) k → WasFound (is_last script turns end_ r) k ⊎ (HasFault (gave_in end_ k) ⊎ (LIMIT ≤ length (gave_in end_ k)))
  shows_early k c =
      let is = kept_passes (λ n. found_so script turns end_ r (is_last script turns end_ r) n || (is_fault (stream (gave_in end_ n)).ending || nat_le LIMIT (length (gave_in end_ n)))) (from_to 0 (plan_of script).links) k (contains_in (early_of_run script turns end_ r) k c.0 c.1 c.2) in
      ⊎_elim (λ x. inl (was_found (is_last script turns end_ r) k x))
      (λ x. inr (⊎_elim (λ y. inl (fault_there (stream (gave_in end_ k)).ending (gave_in end_ k) refl y)) (λ y. inr (leb-true LIMIT (length (gave_in end_ k)) y)) (or_cases (is_fault (stream (gave_in end_ k)).ending) (nat_le LIMIT (length (gave_in end_ k))) x)))
      (or_cases (found_so script turns end_ r (is_last script turns end_ r) k) (is_fault (stream (gave_in end_ k)).ending || nat_le LIMIT (length (gave_in end_ k))) is)

  pub shows_closed : (k : ℕ) → Contains (closed_of_run script turns end_ r) k → WasFound (is_closed script turns end_ r) k
  shows_closed k c = was_found (is_closed script turns end_ r) k (kept_passes (found_so script turns end_ r (is_closed script turns end_ r)) (from_to 0 (plan_of script).links) k (contains_in (closed_of_run script turns end_ r) k c.0 c.1 c.2))
