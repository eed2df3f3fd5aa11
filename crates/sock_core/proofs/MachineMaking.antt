-- A machine that is made for a script.
use Rattle.std.proofs.Common.{◌≡◌, ◌≢◌, ℕ, zero, suc, ◌+◌, true, false, List, [], ◌∷◌, length, map, replicate, Option, Some, None, IfSome, refl, sym, ap, ap₂, ◌∙◌, subst, arith, Ok, cond, ◌==◌, Bool, slice_get}
use Rattle.std.proofs.lemmas.Bool.{true≢false}
use Rattle.std.specs.List.{AllByRecursion}
use mathlib.Core.Option as core
use lib.ListN.{get_elem?}
use Rattle.sock_words.specs.declared.plain.Plan.{Plan}
use Rattle.sock_words.specs.declared.outcome.Outcome.{Outcome}
use Rattle.brpc_model.specs.Items.{Item}
use Rattle.brpc_model.specs.ReturnedLink.{LinkEnd}
use Rattle.brpc_model.specs.Script.{script_of}
use Rattle.brpc_model.specs.Operations.{clients, link_names}
use Rattle.corr_core.specs.declared.marks.Plan.{Plan as IdPlan}
use Rattle.sock_io.specs.LinkHalves.{OutState, InState}
use Rattle.seat_programs.specs.declared.task.Op.{Op}
use Rattle.seat_programs.specs.declared.task.Op.TheVariants as ops
use Rattle.seat_programs.specs.declared.task.Task.{Task}
use Rattle.seat_programs.specs.declared.task.Sizes.{Sizes}
use Rattle.seat_programs.specs.Programs.{Program, Do, Say, Sent, Rest, Retries, open_from}
use Rattle.seat_programs.specs.ClientProgram.{HeldLife, operation, client_from}
use Rattle.seat_programs.specs.Cores.{resolved, next_step}
use Rattle.seat_programs.specs.Ticks.{quiet, run}
use Rattle.seat_programs.specs.ScriptSetupToEnding.{all_tasks, all_programs, beginning, programs, readers_from, opened, sizes_of}
use Rattle.seat_programs.specs.Tasks.{calls, opens, plan_of, id_plan_of}
use Rattle.seat_programs.specs.Explained.{AreTasks, IsOpen}
use Rattle.machine_model.specs.run_theorems.specs.Below.script_facts.proofs.TaskLemmas.{tasks_length}
use Rattle.machine_model.specs.run_theorems.proofs.ScriptStartsSoundly.{made}
use Rattle.machine_model.specs.run_theorems.specs.Below.joint_runs.proofs.StartsWithBothRules.{AreFor}
use Rattle.call_slots.specs.CallSlotState.{SlotState}
use Rattle.reader_seats.specs.ReaderState.{ReaderData}
use Rattle.client_seats.specs.ClientSeatState.{SeatData, seat_program}
use Rattle.machine_model.specs.MachineLinks.{LinksData, Agrees, AgreesGave, AreAlwaysReady, TellClosing, ClosedAreDone}
use Rattle.machine_model.specs.Machines.{MachineState, core_with}
use Rattle.machine_model.specs.MachineRuns.{RanFirst}
use Rattle.machine_model.specs.declared.home_message.HomeMessage.{HomeMessage}
use Rattle.machine_model.specs.MachineParts.{AreBegun, AreParts}
use Rattle.sock_core.specs.MachineBeginning.{IsMade}
use Rattle.machine_model.specs.Driving.{AsksNone, IsPlain, FirstRests}
use Rattle.sock_core.proofs.Starting.{AreNew}

-- ## What a script that was read asks for

abbrev pub Reads : List Item → Type 0
Reads script = (bytes : List ℕ) × (script_of bytes ≡ Ok script)

module _ (script : List Item) (reads : Reads script) (p : Plan) (q : IdPlan) (is : p ≡ plan_of script) (ids : q ≡ id_plan_of script) (ts : List (List Task)) (tasks : ts ≡ all_tasks script) (cs : List ℕ) (calls_is : cs ≡ calls script) (os : List ℕ) (opens_is : os ≡ opens script) where
  -- the tables are made for its clients, calls and `open`s
  pub are_for : AreFor p q ts cs os
  are_for = subst (λ x. AreFor p q ts cs x) (sym opens_is) (subst (λ x. AreFor p q ts x (opens script)) (sym calls_is) (subst (λ x. AreFor p q x (calls script) (opens script)) (sym tasks)
      (subst (λ x. AreFor p x (all_tasks script) (calls script) (opens script)) (sym ids) (subst (λ x. AreFor x (id_plan_of script) (all_tasks script) (calls script) (opens script)) (sym is) (made reads.0 script reads.1)))))

  pub as_many_seats : length ts ≡ p.seats
  as_many_seats = ap length tasks ∙ (tasks_length script 0 (clients script + 1) ∙ sym (ap (λ (x : Plan). x.seats) is))

  pub as_many_links : length (link_names script) ≡ p.links
  as_many_links = ap (λ (x : Plan). x.links) (sym is)

  same_opens : length (opens script) ≡ length (link_names script)
  same_opens = let e = (made reads.0 script reads.1).seats in omega (arith, e)

  pub as_many_opens : length os ≡ p.links
  as_many_opens = ap length opens_is ∙ same_opens ∙ as_many_links

-- ## A machine of the parts

-- what holds of each holds of what is read off it
all_at : {A B : Type 0} (P : B → Type 0) (f : A → B) (xs : List A) → AllByRecursion (λ (x : A). P (f x)) xs → (k : ℕ) (b : B) → get_elem? (map f xs) k ≡ core.some b → P b
all_at P f [] all k b at = absurd (core.none-ne-some b at)
all_at P f (x ∷ xs) all zero b at = subst P (core.some-injective (f x) b at) all.0
all_at P f (x ∷ xs) all (suc k) b at = all_at P f xs all.1 k b at

module _ {E : Type 0} (out : E → OutState) (es : List E) (l : LinksData) (outs : l.outs ≡ map out es) where
  there : (k : ℕ) (o : OutState) → get_elem? l.outs k ≡ core.some o → get_elem? (map out es) k ≡ core.some o
  there k o at = ap (λ (os : List OutState). get_elem? os k) (sym outs) ∙ at

  pub all_open : AllByRecursion (λ (e : E). (out e).finished ≡ false) es → (k : ℕ) (o : OutState) → get_elem? l.outs k ≡ core.some o → o.finished ≡ false
  all_open all k o at = all_at (λ (o : OutState). o.finished ≡ false) out es all k o (there k o at)

  pub nothing_taken : AllByRecursion (λ (e : E). IfSome (out e).took (λ bytes. bytes ≡ [])) es → Agrees l (λ k. [])
  nothing_taken all k o at = all_at (λ (o : OutState). IfSome o.took (λ bytes. bytes ≡ [])) out es all k o (there k o at)

  pub all_prompt : AllByRecursion (λ (e : E). (out e).always_ready ≡ true) es → AreAlwaysReady l
  all_prompt all k o at = all_at (λ (o : OutState). o.always_ready ≡ true) out es all k o (there k o at)

module _ {E : Type 0} (inn : E → InState) (es : List E) (l : LinksData) (inns : l.inns ≡ map inn es) where
  inn_at : (k : ℕ) (i : InState) → get_elem? l.inns k ≡ core.some i → get_elem? (map inn es) k ≡ core.some i
  inn_at k i at = ap (λ (is : List InState). get_elem? is k) (sym inns) ∙ at

  pub nothing_given : AllByRecursion (λ (e : E). ((inn e).gave ≡ 0) × IfSome (inn e).gave_bytes (λ bytes. bytes ≡ [])) es → AgreesGave l (λ k. [])
  nothing_given all k i at = all_at (λ (i : InState). (i.gave ≡ 0) × IfSome i.gave_bytes (λ bytes. bytes ≡ [])) inn es all k i (inn_at k i at)

  pub none_closing : AllByRecursion (λ (e : E). IfSome (inn e).closing (λ closing. closing ≡ false)) es → ClosedAreDone l
  none_closing all k i at closing = absurd (true≢false (subst (λ o. IfSome o (λ (b : Bool). b ≡ false)) closing (all_at (λ (i : InState). IfSome i.closing (λ b. b ≡ false)) inn es all k i (inn_at k i at))))

  pub all_tell : AllByRecursion (λ (e : E). (inn e).closing ≢ None) es → TellClosing l
  all_tell all k i at = all_at (λ (i : InState). i.closing ≢ None) inn es all k i (inn_at k i at)

-- the machine that begins with these parts
abbrev pub machine_of_parts : (p : Plan) (ws : List ℕ) (letters : List (Option HomeMessage)) (l : LinksData) (ids : SlotState) (cs : List ℕ) (ss : List SeatData) (rs : List ReaderData) (os : List ℕ) (outcomes : List (Option Outcome)) (ends : List LinkEnd) → MachineState
machine_of_parts p ws letters l ids cs ss rs os outcomes ends = record { table = record { plan = p; words = ws; letters = letters; links = l; ids = ids; calls = cs; ending = false; outcomes = outcomes; ends = ends }; seats = ss; readers = rs; opens = os; short = false }

pub parts_new : (p : Plan) (q : IdPlan) (clients : List (List Task)) (cs opens : List ℕ) (l : LinksData) (ws : List ℕ) (letters : List (Option HomeMessage)) (ids : SlotState) (ss : List SeatData) (rs : List ReaderData) (os : List (Option Outcome)) →
    AreParts p q clients cs opens ws letters l.holders l.nexts ids ss rs os → ((k : ℕ) (out : OutState) → get_elem? l.outs k ≡ core.some out → out.finished ≡ false) → AreNew p l letters
parts_new p q clients cs opens l ws letters ids ss rs os parts open_ = record { letters_are = parts.letters_are; holders_are = parts.holders_are; nexts_are = parts.nexts_are; open_ = open_ }

-- ## Seat 0 asks no link

either : (b : Bool) (x y : Program) → AsksNone x → AsksNone y → AsksNone (cond b x y)
either true x y a b = a
either false x y a b = b

open_none : (more i o name k : ℕ) (next : Program) → AsksNone next → AsksNone (open_from more i o name k next)
open_none zero i o name k next x = (tt, λ a. (tt, λ b. (tt, λ d. (tt, λ e. (λ h. cc, x)))))
open_none (suc more) i o name k next x =
    (tt, λ found. either (found == 0) _ _ (tt, λ a. (tt, λ b. (tt, λ d. (tt, λ e. (tt, λ f. (tt, λ g. (λ h. cc, x))))))) (open_none more (i + 1) o name k next x))

task_none : (sizes : Sizes) (o : ℕ) (next : List HeldLife → Program) (op : Op) → IsOpen op → AsksNone (next []) → AsksNone (operation sizes [] o next op)
task_none sizes o next (ops.Open name k) own x = open_none sizes.slots 0 o name k (next []) x
task_none sizes o next other own x = absurd own

opens_none : (sizes : Sizes) (ts : List Task) → AllByRecursion (λ (t : Task). IsOpen t.op) ts → AsksNone (client_from sizes [] ts)
opens_none sizes [] all = tt
opens_none sizes (t ∷ ts) all = task_none sizes t.number (λ (held : List HeldLife). client_from sizes held ts) t.op all.0 (opens_none sizes ts all.1)

-- where nothing waits, what follows asks none either
resolved_none : (program : Program) → AsksNone program → AsksNone (next_step (resolved [] program))
resolved_none (Say o outcome next) x = resolved_none next x.1
resolved_none (Sent o next) x = resolved_none next x
resolved_none (Do call next) x = x
resolved_none Rest x = x
resolved_none (Retries requests after) x = resolved_none after x
resolved_none _ x = absurd x

plain_first : (sizes : Sizes) (ss : List SeatData) (clients : List (List Task)) → AreBegun sizes ss clients → ((ts : List Task) → slice_get clients 0 ≡ Some ts → AllByRecursion (λ (t : Task). IsOpen t.op) ts) →
    (seat : SeatData) → get_elem? ss 0 ≡ core.some seat → AsksNone (seat_program sizes seat) × (seat.waiting ≡ [])
plain_first sizes [] clients e opens seat at = absurd (core.none-ne-some seat at)
plain_first sizes (s ∷ ss) [] e opens seat at = let f = e.0 in absurd cc
plain_first sizes (s ∷ ss) (ts ∷ clients) e opens seat at =
    let f = e.0 in
    let first : seat_program sizes s ≡ next_step (resolved [] (client_from sizes [] ts)) = cc in
    subst (λ (x : SeatData). AsksNone (seat_program sizes x) × (x.waiting ≡ [])) (core.some-injective s seat at) (subst AsksNone (sym first) (resolved_none (client_from sizes [] ts) (opens_none sizes ts (opens ts refl))), e.1.0)

pub begins_plain : (m : MachineState) (p : Plan) (q : IdPlan) (clients : List (List Task)) → m.plan ≡ p → m.ids.plan ≡ q → AreTasks p clients → AreBegun (sizes_of p q) m.seats clients → IsPlain m
begins_plain m p q clients plan ids are begun seat at = subst (λ (z : Sizes). AsksNone (seat_program z seat) × (seat.waiting ≡ [])) (ap₂ sizes_of (sym plan) (sym ids)) (plain_first (sizes_of p q) m.seats clients begun are.setup seat at)

-- ## Behind its setup

module _ (script : List Item) (p : Plan) (q : IdPlan) (ts : List (List Task)) (cs os : List ℕ) (start : MachineState) (is : p ≡ plan_of script) (id_is : q ≡ id_plan_of script) (tasks : ts ≡ all_tasks script) (calls_is : cs ≡ calls script) (numbers : os ≡ opens script)
    (core_is : core_with start (λ k. []) (λ k. []) ≡ beginning p q (all_programs (programs (sizes_of p q) ts) (readers_from cs 0 os))) (plan : (start.plan ≡ p) × (start.ids.plan ≡ q)) (own : (start.opens ≡ os) × (start.calls ≡ cs))
    (agrees : Agrees start.links (λ k. []) × AgreesGave start.links (λ k. [])) (m : MachineState) (ran : RanFirst start m) where
  -- the machine begins as a run of the script does
  begun : core_with start (λ k. []) (λ k. []) ≡ opened script
  begun = core_is ∙ ap₂ (λ (x : Plan) (y : IdPlan). beginning x y (all_programs (programs (sizes_of x y) ts) (readers_from cs 0 os))) is id_is
      ∙ ap (λ l. beginning (plan_of script) (id_plan_of script) (all_programs (programs (sizes_of (plan_of script) (id_plan_of script)) l) (readers_from cs 0 os))) tasks
      ∙ ap₂ (λ (x y : List ℕ). beginning (plan_of script) (id_plan_of script) (all_programs (programs (sizes_of (plan_of script) (id_plan_of script)) (all_tasks script)) (readers_from x 0 y))) calls_is numbers

  -- and its setup has been done
  pub is_made : FirstRests m → IsMade script m
  is_made first = let r = ran.core (λ k. []) (λ k. []) agrees.0 agrees.1 in record {
    plan = ran.same.0.plan ∙ (plan.0 ∙ is);
    id_plan = ran.same.0.id_plan ∙ (plan.1 ∙ id_is);
    opens = ran.same.0.opens ∙ (own.0 ∙ numbers);
    calls = ran.same.0.calls ∙ (own.1 ∙ calls_is);
    agrees = r.0;
    agrees_gave = r.1;
    setup = (ran.steps, (ran.core (λ k. []) (λ k. []) agrees.0 agrees.1).2 ∙ (ap (λ x. run x (core_with start (λ k. []) (λ k. [])) (replicate ran.steps (quiet 0))) (plan.0 ∙ is) ∙ ap (λ c. run (plan_of script) c (replicate ran.steps (quiet 0))) begun));
    first = first;
  }

-- ## What is left of it

pub map_map : {A B C : Type 0} (f : A → B) (g : B → C) (xs : List A) → map g (map f xs) ≡ map (λ (x : A). g (f x)) xs
map_map f g [] = refl
map_map f g (x ∷ xs) = ap (λ (l : List _). g (f x) ∷ l) (map_map f g xs)

-- what each half tells, and what its end tells, where both are read off the same
pub told_alike : {A B C D : Type 0} (half : A → B) (end : A → C) (f : B → D) (g : C → D) (xs : List A) (bs : List B) (cs : List C) → bs ≡ map half xs → cs ≡ map end xs → map (λ (x : A). f (half x)) xs ≡ map (λ (x : A). g (end x)) xs → map f bs ≡ map g cs
told_alike half end f g xs bs cs halves ends same = ap (map f) halves ∙ (map_map half f xs ∙ (same ∙ sym (ap (map g) ends ∙ map_map end g xs)))
