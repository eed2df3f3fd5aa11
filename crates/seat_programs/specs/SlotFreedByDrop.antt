-- Whether a `drop` freed its slot, as the steps of the run show.
use Rattle.std.specs.Prelude.{ℕ, ◌≡◌, ◌≢◌, ◌-◌, ◌%◌, ◌<◌, ◌⊎◌, List, [], ◌∷◌, ◌++◌, slice_get, Option, Some, None, Contains}
use mathlib.Core.Option.{none, some}
use lib.ListN.{get_elem?}
use Rattle.sock_model.specs.sock_words.specs.declared.plain.Plan.{Plan}
use Rattle.sock_model.specs.sock_words.specs.PackedWords.{vref_version, vref_nref, ticket_request}
use Rattle.sock_model.specs.sock_words.specs.declared.outcome.Outcome.{Outcome}
use Rattle.sock_model.specs.sock_words.specs.declared.outcome.Outcome.TheVariants.{Freed, Kept}
use Rattle.sock_message.specs.brpc_model.specs.Items.{Item}
use Rattle.sock_message.specs.brpc_model.specs.Operations.{Turn}
use Rattle.seat_programs.specs.declared.task.Op.TheVariants as ops
use Rattle.seat_programs.specs.declared.task.Task.{Task}
use Rattle.seat_programs.specs.TableSteps.{TableStep, OnSlot, OnChain, SubRef, Recycle, LookWord, ReadNext}
use Rattle.seat_programs.specs.Writings.{Writing, Puts, Reversing}
use Rattle.seat_programs.specs.Programs.{Program, Do, Write}
use Rattle.seat_programs.specs.Cores.{Core, found_at}
use Rattle.seat_programs.specs.StepTables.{word_of}
use Rattle.seat_programs.specs.Ticks.{Moment, ticked}
use Rattle.seat_programs.specs.Tasks.{plan_of}
use Rattle.seat_programs.specs.ScriptSetupToEnding.{IsRunOf, all_tasks, set_up}
use Rattle.seat_programs.specs.Explained.{IsTask, Became}

-- ## The steps of a run

-- the step on a word from the head of a loop
abbrev pub head_call : Writing → Option TableStep
head_call (Puts h now heading left taken asked) = Some (OnSlot (LookWord h.id))
head_call (Reversing h top at after) = Some (OnChain (ReadNext (ticket_request at)))
head_call other = None

-- the step on a word that comes next, where one does
abbrev pub call_in : Program → Option TableStep
call_in (Do call next) = Some call
call_in (Write w after) = head_call w
call_in other = None

abbrev pub next_call : Core → ℕ → Option TableStep
next_call c i = elim (get_elem? c.seats i) as (λ o. Option TableStep) [ none ↦ None | some seat ↦ call_in seat.program ]

module _ (p : Plan) (clients : List (List Task)) where
  -- client i is at operation o: nothing is said of it yet, and each operation of the client before it has its outcome or is a `send`,
  -- of which nothing is said where it was accepted
  pub record IsAt (c : Core) (i o : ℕ) : Type 0 where
    pub unsaid : slice_get c.outcomes o ≡ Some None
    pub earlier : (tasks : List Task) (t : Task) → slice_get clients i ≡ Some tasks → Contains tasks t → t.number < o
        → ((outcome : Outcome) × (slice_get c.outcomes t.number ≡ Some (Some outcome))) ⊎ ((n : ℕ) × (bytes : List ℕ) × (t.op ≡ ops.Send n bytes))

  -- in this tick client i makes this step for operation o, and finds this word
  pub record Makes (c : Core) (m : Moment) (i o : ℕ) (call : TableStep) (found : ℕ) : Type 0 where
    pub seat : m.seat ≡ i
    pub at : IsAt c i o
    pub next : next_call c i ≡ Some call
    pub word : found_at c.words (word_of p call) ≡ found

  -- in one of these ticks, of which the first is in this core
  abbrev pub MadeIn : Core → List Moment → ℕ → ℕ → TableStep → ℕ → Type 0
  MadeIn c [] i o call found = ⊥
  MadeIn c (m ∷ ms) i o call found = Makes c m i o call found ⊎ MadeIn (ticked p c m) ms i o call found

  -- ## Freed or kept

  -- the operation's own exchange recycled a slot: it found the word that it expected
  abbrev pub WonRecycling : Core → List Moment → ℕ → ℕ → Type 0
  WonRecycling c ms i o = (slot from : ℕ) × MadeIn c ms i o (OnSlot (Recycle slot from)) from

  -- it gave a reference back, and won no exchange: it had not the last one to a failed life, or the exchange found another word
  abbrev pub GaveBackOnly : Core → List Moment → ℕ → ℕ → Type 0
  GaveBackOnly c ms i o = (slot found : ℕ) × MadeIn c ms i o (OnSlot (SubRef slot)) found
      × ((((vref_version found % 2 ≡ 1) × (vref_nref found ≡ 1)) → ⊥) ⊎ ((other : ℕ) × MadeIn c ms i o (OnSlot (Recycle slot (found - 1))) other × (other ≢ found - 1)))

-- each `drop` that was answered `freed` recycled its slot, and each that was answered `kept` gave its reference back and recycled none
pub record AreDropsTold (p : Plan) (clients : List (List Task)) (outcomes : List (Option Outcome)) (c : Core) (ms : List Moment) : Type 0 where
  pub freed : (i : ℕ) (t : Task) (n : ℕ) → IsTask clients outcomes i t → t.op ≡ ops.Drop n → Became clients outcomes t.number Freed → WonRecycling p clients c ms i t.number
  pub kept : (i : ℕ) (t : Task) (n : ℕ) → IsTask clients outcomes i t → t.op ≡ ops.Drop n → Became clients outcomes t.number Kept → GaveBackOnly p clients c ms i t.number

-- so the run of a script tells of its drops, by its ticks behind the setup
abbrev pub DropsTold : {script : List Item} {turns : List Turn} {end_ : Core} → IsRunOf script turns end_ → Type 0
DropsTold {script} {turns} {end_} r = AreDropsTold (plan_of script) (all_tasks script) end_.outcomes (set_up script r.setup) (r.scheduled ++ r.later)
