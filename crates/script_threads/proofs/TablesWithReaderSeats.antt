-- The tables of a script that have a seat more for the reader of each link.
use Rattle.std.proofs.Common.{◌≡◌, ℕ, ◌+◌, ◌<◌, ◌≤◌, Ok, List, ◌∷◌, length, refl, sym, ap, ◌∙◌, subst, arith}
use Rattle.std.specs.List.{All}
use Rattle.brpc_model.specs.Items.{Item}
use Rattle.brpc_model.specs.Operations.{link_names}
use Rattle.brpc_model.specs.Script.{script_of}
use Rattle.sock_words.specs.declared.plain.Plan.{Plan}
use Rattle.corr_core.specs.declared.marks.Plan as id_plan
use Rattle.seat_programs.specs.declared.task.Task.{Task}
use Rattle.seat_programs.specs.ScriptSetupToEnding.{all_tasks}
use Rattle.seat_programs.specs.Tasks.{plan_of, opens, calls}
use Rattle.script_parts.specs.script_facts.proofs.ScriptSizes.{keeps_limits}
use Rattle.call_run.specs.sock_open.specs.SocketTableOpening.{MayBegin}
use Rattle.call_run.specs.Threads.{MayRunAll, ids_of}
use Rattle.script_parts.proofs.MayCall.{script_seats, seated_may, seated_begins}
use Rattle.script_parts.proofs.SortNumberBounds.{few_operations, opens_below, calls_below, calls_low}
use Rattle.script_threads.specs.ServedScriptTold.{seated_plan, seated_ids}
use Rattle.script_threads.proofs.OpenedLinkCount.{opens_many}

-- those that a run makes are those
pub seated_is : (script : List Item) (asked p : Plan) (links : ℕ) → asked ≡ plan_of script → links ≡ length (link_names script) → p ≡ record asked { seats = links + asked.seats } → p ≡ seated_plan script
seated_is script asked p links is many e = e ∙ (ap (λ (x : Plan). record x { seats = links + x.seats }) is ∙ ap (λ (n : ℕ). record (plan_of script) { seats = n + (plan_of script).seats }) many)

module _ (bytes : List ℕ) (script : List Item) (reads : script_of bytes ≡ Ok script) where
  pub few_seats : (asked : Plan) (links : ℕ) → asked ≡ plan_of script → links ≡ length (link_names script) → links + asked.seats ≤ 64
  few_seats asked links is many =
      let k = keeps_limits bytes script reads in let a = k.clients in let b = k.links in let s : asked.seats ≡ (plan_of script).seats = ap (λ (x : Plan). x.seats) is in omega arith

  module _ (p : Plan) (is : p ≡ seated_plan script) where
    pub begins : MayBegin p
    begins = let k = keeps_limits bytes script reads in let a = k.clients in let b = k.links in subst MayBegin (sym is) (seated_begins bytes script reads (seated_plan script).seats (omega arith) (omega arith))

    pub numbers : p.operations ≤ 4096
    numbers = let e : p.operations ≡ (plan_of script).operations = ap (λ (x : Plan). x.operations) is in let f = few_operations bytes script reads (plan_of script) refl in omega arith

    pub fits : (slots : ℕ) (setup : List Task) (clients : List (List Task)) → setup ∷ clients ≡ all_tasks script → MayRunAll p (ids_of p slots) setup clients
    fits slots setup clients are = subst (λ (x : Plan). MayRunAll x (ids_of x slots) setup clients) (sym is)
        (seated_may bytes script reads (seated_plan script).seats slots setup clients are (let n = script_seats script setup clients are in omega arith))

module _ (script : List Item) (p : Plan) (is : p ≡ seated_plan script) where
  pub opens_within : (os : List ℕ) → os ≡ opens script → All (λ (o : ℕ). o < p.operations) os
  opens_within os are = subst (λ (x : Plan). All (λ (o : ℕ). o < x.operations) os) (sym is) (opens_below script (plan_of script) refl os are)

  pub calls_within : (cs : List ℕ) → cs ≡ calls script → All (λ (o : ℕ). o < p.operations) cs
  calls_within cs are = subst (λ (x : Plan). All (λ (o : ℕ). o < x.operations) cs) (sym is) (calls_low script (plan_of script) refl cs are)

  -- a seat for each reader, each client and the setup
  pub all_seats : (setup : List Task) (clients : List (List Task)) (links : ℕ) → setup ∷ clients ≡ all_tasks script → links ≡ length (link_names script) → links + (length clients + 1) ≡ p.seats
  all_seats setup clients links are many = let n = script_seats script setup clients are in let s : p.seats ≡ (seated_plan script).seats = ap (λ (x : Plan). x.seats) is in omega arith

  pub all_opens : (os : List ℕ) (links : ℕ) → os ≡ opens script → links ≡ length (link_names script) → length os ≡ links
  all_opens os links are many = let n = opens_many script in let s = ap length are in omega arith

  pub all_links : (links : ℕ) → links ≡ length (link_names script) → links ≡ p.links
  all_links links many = many ∙ ap (λ (x : Plan). x.links) (sym is)

  pub ids_are : (q : id_plan.Plan) (slots : ℕ) → q ≡ ids_of p slots → slots ≡ length (calls script) → q ≡ seated_ids script
  ids_are q slots same many = same ∙ (ap (λ (x : Plan). ids_of x slots) is ∙ ap (ids_of (seated_plan script)) many)

-- the table of ids has a seat and an operation, and one for each call
module _ (script : List Item) (q : id_plan.Plan) (is : q ≡ seated_ids script) where
  pub some_ids : (1 ≤ q.seats) × (1 ≤ q.operations)
  some_ids =
      let s : q.seats ≡ (seated_plan script).seats = ap (λ (x : id_plan.Plan). x.seats) is in
      let o : q.operations ≡ (plan_of script).operations + 1 = ap (λ (x : id_plan.Plan). x.operations) is in (omega arith, omega arith)

  pub call_ids : (cs : List ℕ) → cs ≡ calls script → All (λ (o : ℕ). o < q.operations) cs
  call_ids cs are = subst (λ (x : id_plan.Plan). All (λ (o : ℕ). o < x.operations) cs) (sym is) (calls_below script (plan_of script) refl (length (calls script)) (ids_of (plan_of script) (length (calls script))) refl cs are)
