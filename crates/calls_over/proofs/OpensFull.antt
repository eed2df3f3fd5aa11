-- Where there are requests for all attempts, not each request was taken as long as the log lacks an attempt.
use Rattle.std.proofs.Common.{◌≡◌, ℕ, zero, suc, ◌*◌, ◌<◌, ◌≤◌, ◌⊎◌, inl, inr, ⊎_elim, true, eqb, List, [], ◌∷◌, ◌++◌, length, map, slice_get, Some, Ok, refl, sym, ap, ◌∙◌, subst, arith}
use Rattle.std.proofs.lemmas.List.{length-map}
use Rattle.std.specs.List.{AllByRecursion, filter}
use mathlib.Core.Logic.{dite}
use mathlib.Core.Option.{some, some-injective, some-ne-none}
use native.Mathlib.Decide.{ℕ_discrete}
use lib.ListN.{get_elem?}
use Rattle.sock_model.specs.declared.chain.Claim.{Claim}
use Rattle.sock_model.specs.declared.chain.Entry.{Entry}
use Rattle.sock_model.specs.Entries.{on, ticket}
use Rattle.sock_model.specs.ChainLawReads.{tokens, claims_of}
use Rattle.chain_steps.proofs.LogTotals.{log_full}
use Rattle.sock_steps.proofs.Maps.{gather_nil}
use Rattle.brpc_model.specs.Items.{Item, attempts_of}
use Rattle.brpc_model.specs.Operations.{Operation, Turn, operations, attempts, requests}
use Rattle.brpc_model.specs.Order.{EachBefore}
use Rattle.brpc_model.specs.Script.{script_of}
use Rattle.served_fits.specs.Below.script_facts.proofs.KnownScript.{Known, sent_at, inside}
use Rattle.served_fits.specs.Below.script_facts.proofs.LabelCounts.{is_attempt, attempt_there, Differ}
use Rattle.served_fits.specs.Below.script_facts.proofs.FilteredLists.{Has, all_from, all_at, before_from}
use Rattle.served_fits.specs.Below.script_facts.proofs.OperationNumbering.{are_from}
use Rattle.served_fits.specs.Below.report_fits.proofs.PrintableCallRun.{known_of}
use Rattle.served_fits.specs.Below.script_facts.proofs.ReadScriptFacts.{InRange}
use Rattle.served_fits.specs.Below.script_facts.proofs.AcceptedMessageLabels.{range_small, lacking}
use Rattle.seat_programs.specs.Cores.{Core}
use Rattle.seat_programs.specs.ScriptSetupToEnding.{all_tasks, played, IsRunWithCalls}
use Rattle.seat_programs.specs.Tasks.{plan_of}
use Rattle.seat_programs.specs.ExplainedCalls.{Accepted, Fixed, ExplainedCalls, label}
use Rattle.served_fits.specs.Below.programs_allowed.specs.program_walks.proofs.WholeScriptSound.{views_played}
use Rattle.served_fits.specs.Below.outcome_stories.proofs.Delivered.{accepted_of, accepted_at, used_once}
use Rattle.served_fits.specs.Below.joint_runs.proofs.RunsOfBothTables.{AreMade, first_views}
use Rattle.served_fits.specs.Below.call_owing.specs.LivesOfLinks.{ClosesInRun}
use Rattle.served_fits.specs.send_causes.proofs.ClosedLostTicks.{AreTaken}
use Rattle.served_fits.specs.Below.sent_once.proofs.SocketOperationsTold.{orders_of_run}
use Rattle.calls_over.proofs.OpensEntered.{early_log, late_log, rested_sound, idle_there, StandsLater, stands_later}
use Rattle.served_fits.specs.Below.dropped_calls.proofs.LateRests.{NoOld}

-- a message of the attempt is in the list, or none is
module _ (o n : ℕ) where
  abbrev pub IsIn : List Entry → Type 0
  IsIn es = (i : ℕ) × (e : Entry) × (get_elem? es i ≡ some e) × (e.heading.label.operation ≡ o) × (e.heading.label.attempt ≡ n)

  find : (es : List Entry) → IsIn es ⊎ (IsIn es → ⊥)
  find [] = inr (λ t. some-ne-none t.1 (sym t.2))
  find (x ∷ es) = dite (ℕ_discrete x.heading.label.operation o)
      (λ own. dite (ℕ_discrete x.heading.label.attempt n) (λ is. inl (0, x, refl, own, is)) (λ other. by (find es) (λ own' is. other is)))
      (λ other. by (find es) (λ own is. other own))
    where
      none_here : (x.heading.label.operation ≡ o → x.heading.label.attempt ≡ n → ⊥) → (IsIn es → ⊥) → IsIn (x ∷ es) → ⊥
      none_here other none_ (zero, e, at, own, is) = let same : x ≡ e = some-injective x e at in other (ap (λ (y : Entry). y.heading.label.operation) same ∙ own) (ap (λ (y : Entry). y.heading.label.attempt) same ∙ is)
      none_here other none_ (suc i, e, at, own, is) = none_ (i, e, at, own, is)

      by : IsIn es ⊎ (IsIn es → ⊥) → (x.heading.label.operation ≡ o → x.heading.label.attempt ≡ n → ⊥) → IsIn (x ∷ es) ⊎ (IsIn (x ∷ es) → ⊥)
      by (inl t) other = inl (suc t.0, t.1, t.2, t.3, t.4)
      by (inr none_) other = inr (none_here other none_)

module _ (bytes : List ℕ) (script : List Item) (reads : script_of bytes ≡ Ok script) (made : AreMade script) (turns : List Turn) (core : Core) (is : IsRunWithCalls script turns core) (closes : ClosesInRun script turns core is) (fixed : Fixed) (gave : ℕ → List ℕ)
    (tells : ExplainedCalls (plan_of script) (all_tasks script) core.outcomes fixed gave (orders_of_run script made turns core is closes) core) (long : length core.outcomes ≡ length (operations script)) where
  abbrev rested : Core
  rested = played script is.setup (is.scheduled ++ is.later)

  abbrev es : List Entry
  es = early_log script made turns core is

  abbrev known : Known
  known = known_of bytes script reads core fixed gave (orders_of_run script made turns core is closes) long tells

  abbrev Ops : List Operation
  Ops = operations script

  small : AllByRecursion (λ (op : Operation). attempts_of op.item ≤ 8) Ops
  small = all_from (λ (op : Operation). attempts_of op.item ≤ 8) Ops (λ q h. range_small q.item (all_at InRange script q.item known.range (are_from 0 1 script h.0 q h.1).there))

  abbrev most : ℕ
  most = 8 * length Ops

  later : (i : ℕ) (e : Entry) → get_elem? es i ≡ some e → StandsLater script made turns core is closes e
  later i e at = stands_later script made turns core is closes i e at

  labels_there : (i : ℕ) (e : Entry) → get_elem? es i ≡ some e → (label (accepted_of e) < most) × (is_attempt Ops (label (accepted_of e)) ≡ true) × (e.heading.label.attempt < 8)
  labels_there i e at = let t = later i e at in let w = sent_at known e.link t.place (accepted_of e) t.low t.stands in let x = inside known e.link t.place (accepted_of e) t.low t.stands in
      let low = x.1 in let eight = x.2 in (omega (arith, low, eight), attempt_there Ops e.heading.label.operation e.heading.label.attempt w.operation w.there w.counts eight, eight)

  -- no two are of one attempt
  apart : (i j : ℕ) (d e : Entry) → get_elem? es i ≡ some d → get_elem? es j ≡ some e → label (accepted_of d) ≡ label (accepted_of e) → i ≡ j
  apart i j d e at bt same = let x = later i d at in let y = later j e bt in let are = tells.are_orders in
      let z = are.apart d.link e.link x.place y.place (accepted_of d) (accepted_of e) x.low y.low x.stands y.stands same in
      let one : d ≡ e = some-injective d e (sym x.here ∙ ((λ w. get_elem? (on (z.0 w) (late_log script made turns core is)) (z.1 w)) ∙ y.here)) in
      let o = (rested_sound script made turns core is).lawful in o.chains.differ i j d e at bt (ap ticket one)

  all_differ : EachBefore Differ (map accepted_of es)
  all_differ = before_from Differ (map accepted_of es) (λ i j a b less at bt same. let d = accepted_at es i a at in let e = accepted_at es j b bt in
      let z = apart i j d.0 e.0 d.1 e.1 (ap label d.2 ∙ (same ∙ sym (ap label e.2))) in omega (arith, less, z))

  -- where it lacks an attempt, it has fewer messages than there are attempts
  fewer : (o n : ℕ) (q : Operation) → slice_get Ops o ≡ Some q → n < attempts_of q.item → (IsIn o n es → ⊥) → length es < attempts script
  fewer o n q there counts out = omega (arith, length-map es accepted_of, lacking script small (map accepted_of es) all_differ labels o n q there counts others)
    where
      labels : (a : Accepted) → Has (map accepted_of es) a → (a.attempt < 8) × (label a < most) × (is_attempt Ops (label a) ≡ true)
      labels a h = let d = accepted_at es h.0 a h.1 in let l = labels_there h.0 d.0 d.1 in
          subst (λ (x : Accepted). (x.attempt < 8) × (label x < most) × (is_attempt Ops (label x) ≡ true)) d.2 (l.2, l.0, l.1)

      others : (a : Accepted) → Has (map accepted_of es) a → a.operation ≡ o → a.attempt ≡ n → ⊥
      others a h operation attempt = let d = accepted_at es h.0 a h.1 in out (h.0, d.0, d.1, ap (λ (x : Accepted). x.operation) d.2 ∙ operation, ap (λ (x : Accepted). x.attempt) d.2 ∙ attempt)

  -- so the log has the attempt, where each request was taken
  pub taken_has : attempts script ≤ requests script → AreTaken (plan_of script) NoOld (played script is.setup (is.scheduled ++ is.later)) (views_played script turns core is (first_views script)) (plan_of script).requests
      → (o n : ℕ) (q : Operation) → slice_get (operations script) o ≡ Some q → n < attempts_of q.item → IsIn o n (early_log script made turns core is)
  taken_has enough taken o n q there counts = ⊎_elim (λ t. t) (λ out. absurd (let a = fewer o n q there counts out in let b = used in let z : ⊥ = omega (arith, a, b, enough) in z)) (find o n es)
    where
      none_claimed : (r : ℕ) → (tokens (views_played script turns core is (first_views script))).claims r ≡ []
      none_claimed r = gather_nil (claims_of r) (views_played script turns core is (first_views script)) (λ i v at. ap (λ l. filter (λ (x : Claim). eqb x.request r) l) (idle_there script made turns core is i v at).0)

      used : (plan_of script).requests ≤ length es
      used = let o = (rested_sound script made turns core is).lawful in log_full (plan_of script).requests es (λ r low. used_once o.chains r low (λ e. let t = taken r low in let s = (t.3 t.2).1 in let z : ⊥ = omega (arith, s, e) in z) (none_claimed r))
