-- The tables of a script within its limits are made for it.
use Rattle.std.proofs.Common.{◌≡◌, ℕ, suc, ◌+◌, ◌<◌, ◌≤◌, Bool, true, false, List, [], ◌∷◌, length, refl, sym, ap, subst, arith, cond}
use Rattle.std.specs.Prelude.{Option, Some, None, filter_map, unwrap_or}
use Rattle.std.specs.List.{AllByRecursion, cons_option}
use Rattle.sock_model.specs.LawfulSockets.{PlanFits}
use Rattle.seat_programs.specs.brpc_model.specs.Items.{Item, Slots, Requests, First, Open, Client, Send, Call, Expire, Join, Fail, Hold, Drop, Sched, Tick, To, is_open, is_call, opened_name}
use Rattle.seat_programs.specs.brpc_model.specs.Operations.{Operation, operations_from, operations, link_names}
use Rattle.seat_programs.specs.Tasks.{Numbered, numbered_from, opens, plan_of}
use Rattle.seat_programs.specs.ScriptSetupToEnding.{all_tasks}
use Rattle.seat_programs.specs.Explained.{AreTasks}
use Rattle.programs_allowed.specs.program_steps.specs.SoundSeats.{IsWithinLimits}
use Rattle.joint_runs.proofs.RunsOfBothTables.{AreMade}

-- ## Operations of one sort

module _ (sort : Item → Bool) where
  -- the numbers of those of this sort
  abbrev of_sort : List Numbered → List ℕ
  of_sort ns = filter_map (λ (x : Numbered). cond (sort x.op.item) (Some x.number) None) ns

  more_in : (found : Option ℕ) (os : List ℕ) (n : ℕ) → AllByRecursion (λ (o : ℕ). o < n) os → ((o : ℕ) → found ≡ Some o → o < n) → AllByRecursion (λ (o : ℕ). o < n) (cons_option found os)
  more_in None os n all one = all
  more_in (Some o) os n all one = (one o refl, all)

  one_in : (b : Bool) (number o n : ℕ) → number < n → cond b (Some number) None ≡ Some o → o < n
  one_in true number o n less e = subst (λ x. x < n) (ap (λ (q : Option ℕ). unwrap_or q 0) e) less
  one_in false number o n less e = cc

  -- each is one of the operations, and there are no more of them
  all_in : (number link : ℕ) (ops : List Operation) (n : ℕ) → number + length ops ≡ n → AllByRecursion (λ (o : ℕ). o < n) (filter_map (λ (x : Numbered). cond (sort x.op.item) (Some x.number) None) (numbered_from number link ops))
  all_in number link [] n e = tt
  all_in number link (op ∷ ops) n e = more_in (cond (sort op.item) (Some number) None) (filter_map (λ (x : Numbered). cond (sort x.op.item) (Some x.number) None) (numbered_from (number + 1) (cond (is_open op.item) (link + 1) link) ops)) n
      (all_in (number + 1) (cond (is_open op.item) (link + 1) link) ops n (omega (arith, e))) (λ o is. one_in (sort op.item) number o n (omega (arith, e)) is)

  few_more : (found : Option ℕ) (os : List ℕ) → length (cons_option found os) ≤ suc (length os)
  few_more None os = omega arith
  few_more (Some o) os = omega arith

  few_of : (number link : ℕ) (ops : List Operation) → length (filter_map (λ (x : Numbered). cond (sort x.op.item) (Some x.number) None) (numbered_from number link ops)) ≤ length ops
  few_of number link [] = omega arith
  few_of number link (op ∷ ops) = omega (
    arith,
    few_more (cond (sort op.item) (Some number) None) (filter_map (λ (x : Numbered). cond (sort x.op.item) (Some x.number) None) (numbered_from (number + 1) (cond (is_open op.item) (link + 1) link) ops)),
    few_of (number + 1) (cond (is_open op.item) (link + 1) link) ops,
  )

-- ## Links

-- each `open` has its link
opens_length : (client number n l : ℕ) (script : List Item) → length (filter_map (λ (x : Numbered). cond (is_open x.op.item) (Some x.number) None) (numbered_from n l (operations_from client number script))) ≡ length (filter_map opened_name script)
opens_length client number n l [] = refl
opens_length client number n l (Client ∷ items) = opens_length (client + 1) 1 n l items
opens_length client number n l (Slots s ∷ items) = opens_length client number n l items
opens_length client number n l (Requests s ∷ items) = opens_length client number n l items
opens_length client number n l (First s ∷ items) = opens_length client number n l items
opens_length client number n l (Sched ∷ items) = opens_length client number n l items
opens_length client number n l (Tick seat s ∷ items) = opens_length client number n l items
opens_length client number n l (To seat kind ∷ items) = opens_length client number n l items
opens_length client number n l (Open name shape ∷ items) = ap suc (opens_length client (number + 1) (n + 1) (l + 1) items)
opens_length client number n l (Send name bytes ∷ items) = opens_length client (number + 1) (n + 1) l items
opens_length client number n l (Call call ∷ items) = opens_length client (number + 1) (n + 1) l items
opens_length client number n l (Expire c i ∷ items) = opens_length client (number + 1) (n + 1) l items
opens_length client number n l (Join c i ∷ items) = opens_length client (number + 1) (n + 1) l items
opens_length client number n l (Fail name code ∷ items) = opens_length client (number + 1) (n + 1) l items
opens_length client number n l (Hold name ∷ items) = opens_length client (number + 1) (n + 1) l items
opens_length client number n l (Drop name ∷ items) = opens_length client (number + 1) (n + 1) l items

-- ## A script

pub are_made : (script : List Item) → AreTasks (plan_of script) (all_tasks script) → IsWithinLimits (plan_of script) → PlanFits (plan_of script) → length (all_tasks script) ≤ 32 → length (link_names script) ≤ 32 → AreMade script
are_made script are limits plan few_clients few_links = record {
  are = are;
  limits = limits;
  plan = plan;
  few_clients = few_clients;
  few_opens = omega (arith, few_links, same);
  opens_in = all_in is_open 0 0 (operations script) (length (operations script)) (omega arith);
  calls_in = all_in is_call 0 0 (operations script) (length (operations script)) (omega arith);
  slots = refl;
  few_slots = let many = limits.operations in omega (arith, many, few_of is_call 0 0 (operations script));
  operations = refl;
  seats = ap (λ n. 32 + n) (sym same);
}
  where
    same : length (opens script) ≡ length (link_names script)
    same = opens_length 0 1 0 0 script
