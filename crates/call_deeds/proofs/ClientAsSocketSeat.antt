-- A whole client with calls as a seat of the sockets with its deeds.
use Rattle.std.proofs.Common.{◌≡◌, ℕ, Option, List, [], ◌++◌, length, take, drop, flat_map, append-nil, refl, sym, ap, ◌∙◌, subst, arith}
use Rattle.std.proofs.lemmas.List.{take_all, drop_all}
use mathlib.Core.Option.{some}
use lib.ListN.{get_elem?}
use Rattle.sock_io.specs.declared.link.Out.{Ghosts}
use Rattle.sock_io.specs.LinkHalves.{OutState}
use Rattle.sock_words.specs.declared.outcome.Outcome.{Outcome}
use Rattle.sock_words.specs.declared.plain.Plan.{Plan}
use Rattle.sock_model.specs.ViewsOfSplitSeats.{newcomer}
use Rattle.seat_programs.specs.declared.task.Task.{Task}
use Rattle.corr_core.specs.declared.marks.Plan as id_plan
use Rattle.call_places.specs.Below.RpcClient.Held.{Held}
use Rattle.call_places.specs.Below.CallClient.ClientBetweenOperations.{Stand, stand, both_of}
use Rattle.call_places.specs.Below.CallClient.ClientRun.{begins, LeftAll}
use Rattle.call_places.specs.Below.CallRun.Threads.{Thread, IsThread}
use Rattle.call_places.specs.sock_deeds.specs.Deeds.{Hand}
use Rattle.call_places.specs.sock_deeds.specs.SocketTableRun.{IsOperation, IsFor, numbers_at, Seated}
use Rattle.call_places.specs.sock_deeds.proofs.StepsOfDeeds.{then_steps, steps_as}
use Rattle.call_places.specs.sock_deeds.proofs.WaitingForNames.{Waited, seated}
use Rattle.call_deeds.specs.RetriedCalls.{asked_before, asked_in, all_asked}
use Rattle.call_deeds.specs.ScriptsWithCalls.{HaveLinks}
use Rattle.call_deeds.proofs.OperationsAsDeeds.{hand_of, IsSaid, StepsFor}
use Rattle.call_deeds.proofs.DeedsBesideOperations.{waiting, gave_steps}
use Rattle.call_deeds.proofs.LinksOfTasks.{IsOwnCall}
use Rattle.call_deeds.proofs.Ran.{Result, AreLater, later_first, later_last, waiting_steps, ran_steps}
use Rattle.call_deeds.proofs.OperationsToldOnce.{came, made, all_results}

-- ## A whole client

module _ {O : Type 0} (g : Ghosts O) (state : O → OutState) (p : Plan) (q : id_plan.Plan) (clients : List (List Task)) (outcomes : List (Option Outcome)) (c first : ℕ) (x : Thread g) (th : IsThread state p q first x) where
  all_made : drop th.ran.made x.tasks ≡ []
  all_made = let n = th.ran.ends.0 in drop_all th.ran.made x.tasks (omega arith)

  left_none : (s t : Stand g) (ts : List Task) → ts ≡ [] → LeftAll p ts s t → t ≡ s
  left_none s t ts e h = subst (λ (l : List Task). LeftAll p l s t) e h

  -- no operation was left
  end_is : th.ran.end ≡ th.ran.last
  end_is = left_none th.ran.last th.ran.end (drop th.ran.made x.tasks) all_made th.ran.left

  -- its seat as it was left, and the list of what it held, of which all is given back
  abbrev pub left_hand : Hand
  left_hand = record { view = x.ended.seat.me.0; held = th.ran.end.held }

  abbrev pub FitsTasks : Type 0
  FitsTasks = (k : ℕ) (t : Task) → get_elem? x.tasks k ≡ some t → IsOperation clients outcomes c t.number t.op × IsOwnCall t.number t.op

  abbrev pub SaysAll : Type 0
  SaysAll = (k : ℕ) (r : Result) → get_elem? (all_results x th) k ≡ some r → IsSaid clients outcomes r.task.number r.task.op r.by

  pub client_steps : HaveLinks first x.tasks → FitsTasks → SaysAll → AreLater clients outcomes (all_asked x th) → StepsFor g state p clients outcomes c (flat_map numbers_at x.tasks) record { view = x.began.seat.me.0; held = [] } left_hand
  client_steps links fits says later =
      let early = asked_before state p q x.tasks th.ran.made (begins x.began) (came x th) (made x th) in
      let late = asked_in state p q (both_of (stand th.ran.came)) (both_of th.ran.last) th.ran.ends.1.all.retried in
      let ran = ran_steps g state p q clients outcomes c first x.tasks links fits th.ran.made (begins x.began) (came x th) (made x th) th.passes says (later_first clients outcomes early late later) in
      let waited = waiting_steps g state p q clients outcomes c (stand th.ran.came) th.ran.last th.ran.ends.1 (later_last clients outcomes early late later) in
      let at_end = subst (λ (s : Stand g). StepsFor g state p clients outcomes c [] (hand_of (stand th.ran.came)) (hand_of s)) (sym end_is) waited in
      let gave = gave_steps g state p clients outcomes c th.ran.end.held th.ran.end.held (length th.ran.end.held) th.ran.end.me.0 x.ended.seat.me.0 th.ran.given in
      let all : flat_map numbers_at (take th.ran.made x.tasks) ++ [] ≡ flat_map numbers_at x.tasks = append-nil (flat_map numbers_at (take th.ran.made x.tasks)) ∙ ap (flat_map numbers_at) (let n = th.ran.ends.0 in take_all th.ran.made x.tasks (omega arith)) in
      let begin : hand_of (stand x.began) ≡ record { view = x.began.seat.me.0; held = [] } = ap (λ (h : List Held). record { view = x.began.seat.me.0; held = h }) th.nothing.none_held in
      subst (λ (s : Hand). StepsFor g state p clients outcomes c (flat_map numbers_at x.tasks) s left_hand) begin
      (steps_as (flat_map numbers_at (take th.ran.made x.tasks) ++ []) (flat_map numbers_at x.tasks) (hand_of (stand x.began)) left_hand all
      (then_steps (flat_map numbers_at (take th.ran.made x.tasks)) [] (hand_of (stand x.began)) (hand_of (stand th.ran.came)) left_hand ran
      (then_steps [] [] (hand_of (stand th.ran.came)) (hand_of th.ran.end) left_hand at_end gave)))

  -- as a seat
  pub client_seated : HaveLinks first x.tasks → FitsTasks → SaysAll → AreLater clients outcomes (all_asked x th) → (y : Seated g state p) × (y.seat ≡ x.ended.seat) × Waited g state p (IsFor clients outcomes c) x.names (flat_map numbers_at x.tasks) y
  client_seated links fits says later =
      seated g state p (IsFor clients outcomes c) x.names (flat_map numbers_at x.tasks) th.spare x.began.seat.me.0 (λ n. tt) (waiting g state p x.names (newcomer p [] th.spare) x.began.seat.me.0 th.waited) left_hand (client_steps links fits says later) x.ended.seat refl
