-- What a run with calls fixes besides its outcomes: the links that failed, the operations and links of its ending, and each call's last attempt.
use Rattle.std.specs.Prelude.{ℕ, ◌+◌, ◌==◌, ◌&&◌, ◌≡◌, ◌≢◌, ◌<◌, ◌≤◌, ◌⊎◌, Bool, true, false, if◌then◌else◌, List, [], ◌∷◌, ◌++◌, map, flat_map, length, replicate, slice_get, slice_index, Option, Some, None, sum_by}
use Rattle.std.specs.List.{AllByRecursion, filter}
use mathlib.Core.Option.{none, some}
use lib.ListN.{get_elem?}
use Rattle.sock_words.specs.declared.plain.Plan.{Plan}
use Rattle.sock_words.specs.declared.outcome.Outcome.{Outcome}
use Rattle.sock_words.specs.declared.outcome.Outcome.TheVariants.{Unopened}
use Rattle.brpc_model.specs.Items.{Item}
use Rattle.brpc_model.specs.Operations.{Turn}
use Rattle.brpc_model.specs.Order.{EachBefore}
use Rattle.seat_programs.specs.corr_core.specs.IdSlotWord.{parts}
use Rattle.seat_programs.specs.corr_core.specs.EndedByRangeOrAttempt.{ends_call}
use Rattle.seat_programs.specs.id_rule.specs.LawfulIdTable.{id_index}
use Rattle.seat_programs.specs.sock_message.specs.Asked.{Asked, name_of}
use Rattle.seat_programs.specs.declared.task.Op.{Op}
use Rattle.seat_programs.specs.declared.task.Op.TheVariants as ops
use Rattle.seat_programs.specs.declared.task.Task.{Task}
use Rattle.seat_programs.specs.Asides.{PutCall}
use Rattle.seat_programs.specs.FoundAndChangedAside.{call_at}
use Rattle.seat_programs.specs.TableSteps.{TableStep, OnSlot, CreateLife}
use Rattle.seat_programs.specs.SlotFreedByDrop.{call_in}
use Rattle.seat_programs.specs.LoopHeads.{Decides, Unlocks}
use Rattle.seat_programs.specs.Programs.{Program, Aside, Round}
use Rattle.seat_programs.specs.Cores.{Calls, Core}
use Rattle.seat_programs.specs.Ticks.{Moment, quiet, ticked, broken_in}
use Rattle.seat_programs.specs.Tasks.{plan_of}
use Rattle.seat_programs.specs.Explained.{IsTask, Became, Made, IsFail}
use Rattle.seat_programs.specs.ScriptSetupToEnding.{all_tasks, opened, ending, set_up, played, IsRunWithCalls}
use Rattle.seat_programs.specs.ExplainedCalls.{Order, Fixed, SeeksName, AreOrders, StandsOn, OutcomeCause, WhyAgain, IsSent, InOwnOrder, IsFailing}
use Rattle.outcome_stories.specs.Explains.{is_plain, plain_tasks}
use Rattle.outcome_stories.specs.LinkLosses.{closed_at}

-- ## What a tick shows

-- the link of the life that a step makes
abbrev pub born_of : Option TableStep → List ℕ
born_of (Some (OnSlot (CreateLife i k))) = k ∷ []
born_of other = []

abbrev pub born_at : Core → Moment → List ℕ
born_at c m = elim (get_elem? c.seats m.seat) as (λ o. List ℕ) [ none ↦ [] | some seat ↦ born_of (call_in seat.program) ]

-- the call that a step puts into its home
abbrev pub put_by : Program → List ℕ
put_by (Aside (PutCall i asked) next) = asked.operation ∷ []
put_by (Round (Decides id asked w e) next) = if ends_call (parts w) e then [] else asked.operation ∷ []
put_by other = []

abbrev pub put_at : Core → Moment → List ℕ
put_at c m = elim (get_elem? c.seats m.seat) as (λ o. List ℕ) [ none ↦ [] | some seat ↦ put_by seat.program ]

-- the call whose attempt a step advances: the exchange finds the word that it expects, and the call lies at home
abbrev pub called_at : Calls → ℕ → List ℕ
called_at a i = elim (call_at (get_elem? a.homes i)) as (λ o. List ℕ) [ none ↦ [] | some asked ↦ asked.operation ∷ [] ]

abbrev pub advanced_by : Calls → Program → List ℕ
advanced_by a (Round (Unlocks i from true) next) = if slice_index a.words (id_index i) == from then called_at a i else []
advanced_by a other = []

abbrev pub advanced_at : Core → Moment → List ℕ
advanced_at c m = elim (get_elem? c.seats m.seat) as (λ o. List ℕ) [ none ↦ [] | some seat ↦ advanced_by c.calls seat.program ]

-- what these ticks show, one after another
module _ {A : Type 0} (shown : Core → Moment → List A) where
  abbrev pub shown_in : Plan → Core → List Moment → List A
  shown_in p c [] = []
  shown_in p c (m ∷ ms) = shown c m ++ shown_in p (ticked p c m) ms

-- how often a number stands in a list
abbrev pub times : ℕ → List ℕ → ℕ
times o ns = sum_by (λ n. if n == o then 1 else 0) ns

-- ## The parts of a run

module _ (script : List Item) (turns : List Turn) (end_ : Core) (is : IsRunWithCalls script turns end_) where
  -- where the ending begins
  abbrev pub before_ending : Core
  before_ending = played script is.setup (is.scheduled ++ is.later)

  -- what the ticks of the whole run show, of the setup first
  abbrev pub shown_in_run : {A : Type 0} → (Core → Moment → List A) → List A
  shown_in_run shown = let p = plan_of script in shown_in shown p (opened script) (replicate is.setup (quiet 0))
      ++ (shown_in shown p (set_up script is.setup) (is.scheduled ++ is.later)
      ++ (shown_in shown p (ending script before_ending) (replicate is.last (quiet 0)) ++ shown_in shown p is.ended is.final))

  -- the links that answered a put that they failed
  abbrev pub broken_of_run : List ℕ
  broken_of_run = let p = plan_of script in broken_in p (opened script) (replicate is.setup (quiet 0))
      ++ (broken_in p (set_up script is.setup) (is.scheduled ++ is.later)
      ++ (broken_in p (ending script before_ending) (replicate is.last (quiet 0)) ++ broken_in p is.ended is.final))

  -- the links whose sockets their readers set failed before the run was ending
  abbrev pub closed_before_ending : List ℕ
  closed_before_ending = let p = plan_of script in shown_in closed_at p (opened script) (replicate is.setup (quiet 0)) ++ shown_in closed_at p (set_up script is.setup) (is.scheduled ++ is.later)

  -- the links that became a socket's while the run was ending
  abbrev pub late_links_of_run : List ℕ
  late_links_of_run = shown_in born_at (plan_of script) is.ended is.final

  -- an operation of which nothing is said, and one of which an outcome is said
  abbrev pub is_untold : Core → ℕ → Bool
  is_untold c o = elim (slice_get c.outcomes o) as (λ x. Bool) [ None ↦ false | Some x ↦ elim x as (λ y. Bool) [ None ↦ true | Some outcome ↦ false ] ]

  abbrev pub is_told : Core → ℕ → Bool
  is_told c o = elim (slice_get c.outcomes o) as (λ x. Bool) [ None ↦ false | Some x ↦ elim x as (λ y. Bool) [ None ↦ false | Some outcome ↦ true ] ]

  -- an operation that had its outcome while the run was ending
  abbrev pub is_said_late : ℕ → Bool
  is_said_late o = is_untold before_ending o && is_told end_ o

  abbrev pub numbers_of : List Task → List ℕ
  numbers_of ts = map (λ (t : Task). t.number) (plain_tasks ts)

  -- the operations that had a step while the run was ending: those that aren't on calls and had their outcome then, and the calls of which an attempt was begun or ended then
  abbrev pub late_of_run : List ℕ
  late_of_run = filter is_said_late (flat_map numbers_of (all_tasks script)) ++ shown_in put_at (plan_of script) is.ended is.final

  -- the number of the last attempt of a call: so often its attempt was advanced
  abbrev pub last_attempt : ℕ → ℕ
  last_attempt o = times o (shown_in_run advanced_at)

-- ## What is told

-- the first name that an operation looks for
abbrev pub Seeks : ℕ → Op → Type 0
Seeks = SeeksName

-- where an operation found a name without a socket, a call of the same client before it found so too
abbrev pub CallsFoundNone : List (List Task) → List (Option Outcome) → Type 0
CallsFoundNone clients outcomes = (c : ℕ) (t u : Task) (asked : Asked) (n : ℕ) → IsTask clients outcomes c t → IsTask clients outcomes c u → Seeks n t.op → Became clients outcomes t.number Unopened → u.number < t.number
    → u.op ≡ ops.Call asked → name_of asked 0 ≡ n → Became clients outcomes u.number Unopened

-- why each `open`, `send`, `hold`, `drop` and `fail` has its outcome, what links accepted and took, and why attempts of calls were followed by others:
-- all that is told of a run with calls but why calls ended, and what was found of them by `expire` and `join`
pub record ToldSends (p : Plan) (clients : List (List Task)) (outcomes : List (Option Outcome)) (fixed : Fixed) (gave : ℕ → List ℕ) (orders : ℕ → Order) (last : ℕ → ℕ) (c : Core) : Type 0 where
  pub are_orders : AreOrders p c orders
  pub told : (client : ℕ) (t : Task) → IsTask clients outcomes client t → is_plain t.op ≡ true → ((outcome : Outcome) × Became clients outcomes t.number outcome) ⊎ ((k : ℕ) × StandsOn p clients outcomes fixed gave orders t.number 0 k)
  pub are : AllByRecursion (IsFail clients outcomes) fixed.fails
  pub once : EachBefore (λ (f g : ℕ × ℕ). (f.0 ≢ g.0) × (f.1 ≢ g.1)) fixed.fails
  pub lives : (n k m l slot version : ℕ) (a : Made clients outcomes n k slot version) (b : Made clients outcomes m l slot version) → a.task.number ≡ b.task.number
  pub why : (client : ℕ) (t : Task) (outcome : Outcome) → IsTask clients outcomes client t → is_plain t.op ≡ true → Became clients outcomes t.number outcome → OutcomeCause p clients outcomes fixed gave orders last client t.number t.op outcome
  pub again : (client : ℕ) (t : Task) (asked : Asked) → IsTask clients outcomes client t → t.op ≡ ops.Call asked
      → (last t.number + 2 ≤ asked.range) × ((n : ℕ) → n < last t.number → WhyAgain p clients outcomes fixed gave orders client t.number n (name_of asked n))
  pub sent : (k : ℕ) → k < p.links → AllByRecursion (IsSent p clients outcomes fixed gave orders last k) (orders k).accepted
  pub own_order : (k : ℕ) → k < p.links → EachBefore (InOwnOrder p clients outcomes fixed gave orders) (orders k).accepted
  pub dropped : (k : ℕ) → k < p.links → (orders k).placed < length (orders k).accepted → IsFailing p clients outcomes fixed gave orders k

-- the parts of it on tasks that aren't on calls, but for the orders
pub record ToldPlain (p : Plan) (clients : List (List Task)) (outcomes : List (Option Outcome)) (fixed : Fixed) (gave : ℕ → List ℕ) (orders : ℕ → Order) (last : ℕ → ℕ) : Type 0 where
  pub told : (client : ℕ) (t : Task) → IsTask clients outcomes client t → is_plain t.op ≡ true → ((outcome : Outcome) × Became clients outcomes t.number outcome) ⊎ ((k : ℕ) × StandsOn p clients outcomes fixed gave orders t.number 0 k)
  pub are : AllByRecursion (IsFail clients outcomes) fixed.fails
  pub once : EachBefore (λ (f g : ℕ × ℕ). (f.0 ≢ g.0) × (f.1 ≢ g.1)) fixed.fails
  pub lives : (n k m l slot version : ℕ) (a : Made clients outcomes n k slot version) (b : Made clients outcomes m l slot version) → a.task.number ≡ b.task.number
  pub why : (client : ℕ) (t : Task) (outcome : Outcome) → IsTask clients outcomes client t → is_plain t.op ≡ true → Became clients outcomes t.number outcome → OutcomeCause p clients outcomes fixed gave orders last client t.number t.op outcome
