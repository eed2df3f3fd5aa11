-- Where nothing went wrong, the first attempt of a call that whoever read the links ended stands in the order of a link, and that link gave no response of the call.
use Rattle.std.proofs.Common.{◌≡◌, ℕ, ◌*◌, ◌<◌, ◌⊎◌, inl, inr, slice_get, slice_index, Some, sym, ap, ◌∙◌, subst, arith}
use Rattle.std.proofs.lemmas.Option.{slice_get_within}
use Rattle.std.specs.Prelude.{Contains}
use Rattle.sock_words.specs.declared.outcome.Outcome.TheVariants.{Unopened, CallFailed}
use Rattle.brpc_model.specs.Attempts.{IsResponse}
use Rattle.brpc_model.specs.Complete.{IsUntroubled}
use Rattle.brpc_model.specs.Frame.{Frame}
use Rattle.brpc_model.specs.Items.{Call, CallLine}
use Rattle.brpc_model.specs.Operations.{Operation, operations}
use Rattle.brpc_model.specs.Run.{IsOperation}
use Rattle.brpc_model.specs.FrameStream.{stream}
use Rattle.seat_programs.specs.sock_model.specs.SocketTableLayout.{place_index}
use Rattle.seat_programs.specs.ScriptSetupToEnding.{all_tasks}
use Rattle.seat_programs.specs.Tasks.{plan_of}
use Rattle.seat_programs.specs.Explained.{Became}
use Rattle.seat_programs.specs.ExplainedCalls as told
use Rattle.seat_programs.specs.ExplainedCalls.{Accepted, StandsAt, StandsOn, MayBeOn, label}
use Rattle.sock_message.specs.Asked.{Asked, name_of}
use Rattle.callless_fits.proofs.EverySendPlaced.{run_of, links, inside, unfailed, life_low}
use Rattle.callless_fits.specs.sock_deeds.specs.SocketsTold.{fixed_by}
use Rattle.served_told.specs.failed_told.specs.failed_reasons.specs.CallsEndedByReading.{AtFault, AtEnd, AtFaultDrop, AtEndDrop, LeftOver}
use Rattle.calls_done.proofs.CalmSingleAttempts.{WasFull_, no_drop, unfull}
use Rattle.calls_done.proofs.ServedCallCauses.{asked, task, Ended_}
use Rattle.calls_done.proofs.KnownCallRun.{Known}
use Rattle.calls_done.proofs.FaultlessLinks.{link_at, faultless}
use Rattle.calls_done.specs.FirstAttempts.{FirstAttempt, Stands, BecameUnopened, FoundFailing, FoundFull}
use Rattle.calls_done.specs.OwedToCalls.{GivesWell}

module _ (s : Known) (untroubled : IsUntroubled s.run.script s.run.ends) (none_early : (k : ℕ) → k < links s.run → Contains s.run.early k → ⊥) (well : GivesWell (run_of s.run)) (i : ℕ) (op : Operation) (call : CallLine) (there : IsOperation (run_of s.run) i op) (item : op.item ≡ Call call) where
  abbrev its : Asked
  its = asked s untroubled none_early well i op call there item

  abbrev On_ : ℕ → Type 0
  On_ k = StandsOn (plan_of s.run.script) (all_tasks s.run.script) s.run.outcomes (fixed_by s.run.broken s.run.early s.run.fails) s.run.gave s.run.orders i 0 k

  -- ## Its first attempt

  abbrev word : ℕ → ℕ
  word n = slice_index s.run.core.words (place_index (plan_of s.run.script) n)

  -- its place word tells nothing where no link accepted it
  unplaced : word (8 * i) ≡ 0 → (k : ℕ) → On_ k → ⊥
  unplaced none_ k (p, (low, a, at, number, first)) =
      let same : label a ≡ 8 * i = omega (arith, number, first) in
      let written = s.run.tells.are_orders.written k p a low at in let e = ap word same in let z : ⊥ = omega (arith, written, e, none_) in z

  by_word : WasFull_ s untroubled none_early → (word (8 * i) ≡ 0) ⊎ ((k p : ℕ) × (a : Accepted) × (k < links s.run) × StandsAt s.run.orders k p a × (8 * i ≡ label a)) → (k : ℕ) × On_ k
  by_word full (inl none_) = absurd (unfull s untroubled none_early i op call there item (unplaced none_) full)
  by_word full (inr (k, p, a, low, at, same)) = let few = (inside s.run k p a low at).2 in (k, (p, (low, a, at, omega (arith, same, few), omega (arith, same, few))))

  by_first : (id code : ℕ) → Became (all_tasks s.run.script) s.run.outcomes i (CallFailed id code) → FirstAttempt (plan_of s.run.script) (all_tasks s.run.script) s.run.outcomes (fixed_by s.run.broken s.run.early s.run.fails) s.run.gave s.run.orders i (name_of its 0) → (k : ℕ) × On_ k
  by_first id code b (Stands k on) = (k, on)
  by_first id code b (BecameUnopened unopened) = absurd (let e : Some (Some Unopened) ≡ Some (Some (CallFailed id code)) = sym unopened ∙ b in cc)
  by_first id code b (FoundFailing k slot version life failing) = absurd (unfailed s.run untroubled none_early (λ f. Unit {0}) k (life_low s.run untroubled none_early (name_of its 0) k slot version life) failing)
  by_first id code b (FoundFull full) = by_word full (s.run.tells.are_orders.alone (8 * i) (let low = slice_get_within (operations s.run.script) i op there in omega (arith, low)))

  -- stands in an order
  pub call_stands : (id code : ℕ) → Became (all_tasks s.run.script) s.run.outcomes i (CallFailed id code) → (k : ℕ) × On_ k
  call_stands id code b = by_first id code b (s.begun op.client i its (task s untroubled none_early well i op call there item))

  -- ## Its end

  faulty : (k : ℕ) → k < links s.run → told.GaveFault (plan_of s.run.script) (all_tasks s.run.script) s.run.outcomes (fixed_by s.run.broken s.run.early s.run.fails) s.run.gave s.run.orders k → ⊥
  faulty k low fault = faultless s untroubled well k (link_at s untroubled k low) fault

  dropped : told.IsDropped (plan_of s.run.script) (all_tasks s.run.script) s.run.outcomes (fixed_by s.run.broken s.run.early s.run.fails) s.run.gave s.run.orders i 0 → ⊥
  dropped (k, p, at, behind) = no_drop s untroubled none_early i 0 k p at behind

  -- so no link on which the attempt stands gave a response of the call
  pub unanswered : (id code k n : ℕ) (frame : Frame) → Ended_ s untroubled none_early well i op call there item id code 0 → On_ k → slice_get (stream (s.run.gave k)).frames n ≡ Some frame → IsResponse call id frame → ⊥
  unanswered id code k n frame (AtFault e l (slot, version, life, alone) fault) on gave (some_, above, below) = faulty l (life_low s.run untroubled none_early (name_of its 0) l slot version life) fault
  unanswered id code k n frame (AtEnd e l w none_) on gave (some_, above, below) = by w.on
    where
      by : MayBeOn (plan_of s.run.script) (all_tasks s.run.script) s.run.outcomes (fixed_by s.run.broken s.run.early s.run.fails) s.run.gave s.run.orders i 0 (name_of its 0) l → ⊥
      by (slot, version, life, alone) = none_ n frame (subst (λ m. (m < links s.run) × (slice_get (stream (s.run.gave m)).frames n ≡ Some frame)) (alone k on) (on.1.0, gave)) (some_, above, omega (arith, below))
  unanswered id code k n frame (AtFaultDrop e l w fault) on gave is = dropped w.dropped
  unanswered id code k n frame (AtEndDrop e l w) on gave is = dropped w.dropped
  unanswered id code k n frame (LeftOver e at each) on gave (some_, above, below) = elim (each k on.1.0) [
    | inl fault ↦ faulty k on.1.0 fault
    | inr none_ ↦ none_ n frame (on.1.0, gave) (some_, above, omega (arith, below))
  ]
