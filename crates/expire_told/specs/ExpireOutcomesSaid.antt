-- Why an `expire` has its outcome; what the outcomes of a run are said by, and what a closed table of ids keeps of its seats.
use Rattle.std.specs.Prelude.{◌≡◌, ℕ, ◌≤◌, List, slice_get, Option, Some}
use mathlib.Core.Option.{some}
use lib.ListN.{get_elem?}
use Rattle.sock_words.specs.ErrorCodes.{ERPCTIMEDOUT}
use Rattle.sock_words.specs.declared.plain.Plan.{Plan}
use Rattle.sock_words.specs.declared.outcome.Outcome.{Outcome}
use Rattle.sock_words.specs.declared.outcome.Outcome.TheVariants.{Expired, Queued, Late, Crowded, NotBegun, CallFailed}
use Rattle.seat_programs.specs.declared.task.Op.TheVariants as ops
use Rattle.seat_programs.specs.declared.task.Task.{Task}
use Rattle.seat_programs.specs.Explained.{IsTask, Became}
use Rattle.seat_programs.specs.ExplainedCalls.{Fixed, Order, HasBegun, MayNotHaveBegun}
use Rattle.corr_core.specs.declared.marks.Kept.{Kept}
use Rattle.corr_core.specs.declared.marks.View.{View}
use Rattle.id_rule.specs.LawfulIdTable.{is_stored}
use Rattle.sock_message.specs.Asked.{Asked}
use Rattle.call_told.specs.Below.RpcClient.Told.{Told}
use Rattle.sock_words.specs.Totals.{total}

-- whatever one of these told is what became of that operation
abbrev pub AreSaid : List (Option Outcome) → List (List Told) → Type 0
AreSaid outcomes told = (c i : ℕ) (ts : List Told) (t : Told) → get_elem? told c ≡ some ts → get_elem? ts i ≡ some t → slice_get outcomes t.number ≡ Some (Some t.outcome)

-- whatever has the number of which an `expire` asks is a call
abbrev pub AreOfCalls : List (List Task) → List (Option Outcome) → Type 0
AreOfCalls clients outcomes = (c d : ℕ) (t u : Task) → IsTask clients outcomes c t → t.op ≡ ops.Expire u.number → IsTask clients outcomes d u → (asked : Asked) × (u.op ≡ ops.Call asked)

-- these words are at least those that these seats keep in mind, and no more of them are stored than the seats stored
pub record HaveKeptOf (views : List (View Asked)) (kept : List Kept) : Type 0 where
  pub all : (f : Kept → ℕ) → total (λ (v : View Asked). total f v.kept) views ≤ total f kept
  pub stored : (place word : ℕ) → total (is_stored place word) kept ≤ total (λ (v : View Asked). total (is_stored place word) v.kept) views

-- ## Why

module _ (p : Plan) (clients : List (List Task)) (outcomes : List (Option Outcome)) (fixed : Fixed) (gave : ℕ → List ℕ) (orders : ℕ → Order) where
  -- why operation o of client c, the `expire` of operation t, has this outcome. Which codes were queued isn't said
  abbrev pub WhyExpired : ℕ → ℕ → ℕ → Outcome → Type 0
  WhyExpired c o t Expired = (id : ℕ) × Became clients outcomes t (CallFailed id ERPCTIMEDOUT)
  WhyExpired c o t Queued = HasBegun p clients outcomes fixed gave orders c o t
  WhyExpired c o t Late = HasBegun p clients outcomes fixed gave orders c o t
  WhyExpired c o t (Crowded a b) = HasBegun p clients outcomes fixed gave orders c o t
  WhyExpired c o t NotBegun = MayNotHaveBegun p clients outcomes fixed gave orders c o t
  WhyExpired c o t other = ⊥
