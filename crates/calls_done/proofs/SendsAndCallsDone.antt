-- A run on threads where nothing went wrong is complete: each send is done, and each served call that no `expire` names.
use Rattle.std.proofs.Common.{◌≡◌, ℕ, ◌<◌, ◌⊎◌, inl, inr, List, slice_get, Some, refl, subst}
use Rattle.std.specs.Prelude.{Contains}
use Rattle.sock_words.specs.declared.outcome.Outcome.{Outcome}
use Rattle.sock_words.specs.declared.outcome.Outcome.TheVariants.{CallFailed}
use Rattle.brpc_model.specs.Complete.{IsUntroubled, IsServed, CallDone, Completeness}
use Rattle.brpc_model.specs.Items.{Call, Expire, CallLine}
use Rattle.brpc_model.specs.Operations.{Operation}
use Rattle.brpc_model.specs.Run.{IsOperation, HasOutcome}
use Rattle.callless_fits.proofs.EverySendPlaced.{run_of, links, sends_done}
use Rattle.calls_done.proofs.FirstAttemptAnswered.{answered}
use Rattle.calls_done.proofs.ServedCallCauses.{WasEndedByReading, answered_own}
use Rattle.calls_done.proofs.FirstAttemptUnanswered.{call_stands, unanswered}
use Rattle.calls_done.proofs.KnownCallRun.{Known}
use Rattle.calls_done.proofs.FaultlessLinks.{none_early}
use Rattle.calls_done.specs.OwedToCalls.{GivesWell, GaveFew}

module _ (s : Known) (untroubled : IsUntroubled s.run.script s.run.ends) (none_early : (k : ℕ) → k < links s.run → Contains s.run.early k → ⊥) (well : GivesWell (run_of s.run)) where
  -- none is ended by whoever read the links: the link of its attempt gave the reply
  pub calls_done : (i : ℕ) (op : Operation) (call : CallLine) (name : List ℕ) (outcome : Outcome) → IsOperation (run_of s.run) i op → op.item ≡ Call call → HasOutcome (run_of s.run) i outcome → slice_get call.names 0 ≡ Some name → IsServed s.run.script name
      → (Contains s.run.script (Expire op.client op.number) → ⊥) → CallDone (run_of s.run) i op call name outcome
  calls_done i op call name outcome there item has first served unexpired = by (answered_own s untroubled none_early well i op call there item unexpired name first outcome has)
    where
      by : CallDone (run_of s.run) i op call name outcome ⊎ WasEndedByReading s untroubled none_early well i op call there item outcome → CallDone (run_of s.run) i op call name outcome
      by (inl done) = done
      by (inr w) =
          let failed : HasOutcome (run_of s.run) i (CallFailed w.id w.code) = subst (HasOutcome (run_of s.run) i) w.is has in
          let at = call_stands s untroubled none_early well i op call there item w.id w.code w.became in
          let g = answered s untroubled none_early well i op call there item name first served (CallFailed w.id w.code) w.id failed refl at.0 at.1.0 at.1.1 in
          absurd (unanswered s untroubled none_early well i op call there item w.id w.code at.0 g.0 g.1 w.by at.1 g.2.1 g.3)

pub complete : (s : Known) → GivesWell (run_of s.run) → GaveFew s.run.script s.run.ends → Completeness (run_of s.run)
complete s well few untroubled = record { sends = sends_done s.run untroubled early; calls = calls_done s untroubled early well }
  where
    early : (k : ℕ) → k < links s.run → Contains s.run.early k → ⊥
    early = none_early s untroubled well few
