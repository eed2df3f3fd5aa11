-- How the readings of a run's links ended, and which responses came before their call began.
use Rattle.std.specs.Prelude.{ℕ, ◌+◌, ◌==◌, ◌&&◌, ◌||◌, Bool, true, false, if◌then◌else◌, nat_le, nat_lt, List, [], ◌∷◌, length, flat_map, drop, slice_index, slice_index_or}
use Rattle.std.specs.List.{filter, list_any}
use mathlib.Core.Option.{Option, none, some}
use lib.ListN.{get_elem?}
use Rattle.sock_words.specs.declared.plain.Plan.{Plan}
use Rattle.seat_programs.specs.brpc_model.specs.Items.{Item}
use Rattle.seat_programs.specs.brpc_model.specs.Operations.{Turn}
use Rattle.seat_programs.specs.brpc_model.specs.Frame.{Frame}
use Rattle.seat_programs.specs.brpc_model.specs.FrameStream.{stream, is_fault}
use Rattle.seat_programs.specs.id_rule.specs.LawfulIdTable.{id_index}
use Rattle.seat_programs.specs.Asides.{Step, Found, UnlockId, Taking, NoMore, AtEnd, Closed, Broken}
use Rattle.seat_programs.specs.Programs.{Program, Aside}
use Rattle.corr_core.specs.IdSlotWord.{parts}
use Rattle.corr_core.specs.IdRangeVersions.{is_early}
use Rattle.seat_programs.specs.ReaderProgram.{LIMIT, has_response, slot_in, version_in}
use Rattle.seat_programs.specs.FoundAndChangedAside.{found_in, taking_in}
use Rattle.seat_programs.specs.Cores.{Calls, Core}
use Rattle.seat_programs.specs.ScheduledRuns.{from_to}
use Rattle.seat_programs.specs.Ticks.{Moment, taken, ticked}
use Rattle.seat_programs.specs.Tasks.{plan_of}
use Rattle.seat_programs.specs.ScriptSetupToEnding.{IsRunWithCalls}
pub use Rattle.owed_calls.specs.call_owing.specs.LinkTakenBySeat.{taken_link}
use Rattle.seat_programs.specs.LoopRounds.{first_step}
use Rattle.outcome_stories.specs.Facts.{called_at, shown_in_run}

-- ## Takes

-- a take of a link, and what it found
pub record Take : Type 0 where
  pub link : ℕ
  pub found : Taking

abbrev pub takes_by : Calls → Moment → List ℕ → List Take
takes_by a m [] = []
takes_by a m (k ∷ ks) = elim (taking_in a.ending (taken m.answer)) as (λ o. List Take) [ none ↦ [] | some t ↦ (record { link = k; found = t }) ∷ [] ]

abbrev pub takes_at : Core → Moment → List Take
takes_at c m = elim (get_elem? c.seats m.seat) as (λ o. List Take) [ none ↦ [] | some seat ↦ takes_by c.calls m (taken_link seat.program) ]

-- ## Attempts

-- how often a number stands in a list
abbrev pub times : ℕ → List ℕ → ℕ
times o [] = 0
times o (n ∷ ns) = (if n == o then 1 else 0) + times o ns

-- the call whose attempt the step advances: the exchange finds the word that it expects
abbrev pub advances_by : (step : Step) → Found step → Calls → List ℕ
advances_by (UnlockId i from true) found a = if found == from then called_at a i else []
advances_by other found a = []

abbrev pub advanced_with : Calls → Option Taking → Program → List ℕ
advanced_with a t (Aside step next) = elim (found_in step a t) as (λ o. List ℕ) [ none ↦ [] | some found ↦ advances_by step found a ]
advanced_with a t other = []

abbrev pub advanced_at : Core → Moment → List ℕ
advanced_at c m = elim (get_elem? c.seats m.seat) as (λ o. List ℕ) [ none ↦ [] | some seat ↦ advanced_with c.calls (taken m.answer) (first_step seat.program) ]

-- ## Responses that came before their call began

-- link k's bytes so far
abbrev pub gave_in : Core → ℕ → List ℕ
gave_in c k = slice_index_or c.calls.gave k []

-- by the id words a response is of no range that was made so far
abbrev pub is_soon : Core → Frame → Bool
is_soon c f = has_response f.meta.response && (nat_lt (slot_in f) c.calls.plan.slots && is_early (version_in f) (parts (slice_index c.calls.words (id_index (slot_in f)))))

-- those among these frames of link k, of which the first has this place
abbrev pub soon_from : Core → ℕ → ℕ → List Frame → List (ℕ × ℕ)
soon_from c k n [] = []
soon_from c k n (f ∷ fs) = if is_soon c f then (k, n) ∷ soon_from c k (n + 1) fs else soon_from c k (n + 1) fs

-- those that were made whole between these two cores
abbrev pub soon_by : Core → Core → Take → List (ℕ × ℕ)
soon_by c c' take = let before = length (stream (gave_in c take.link)).frames in soon_from c' take.link before (drop before (stream (gave_in c' take.link)).frames)

abbrev pub soon_at : Plan → Core → Moment → List (ℕ × ℕ)
soon_at p c m = flat_map (soon_by c (ticked p c m)) (takes_at c m)

-- ## In a run

module _ (script : List Item) (turns : List Turn) (end_ : Core) (is : IsRunWithCalls script turns end_) where
  abbrev pub takes_of_run : List Take
  takes_of_run = shown_in_run script turns end_ is takes_at

  -- the link gave its end, or failed
  abbrev pub is_last : Taking → Bool
  is_last AtEnd = true
  is_last Broken = true
  is_last other = false

  abbrev pub is_closed : Taking → Bool
  is_closed Closed = true
  is_closed other = false

  abbrev pub is_no_more : Taking → Bool
  is_no_more NoMore = true
  is_no_more other = false

  -- a take of link k found this
  abbrev pub found_so : (Taking → Bool) → ℕ → Bool
  found_so holds k = list_any (λ (t : Take). (t.link == k) && holds t.found) takes_of_run

  -- the links whose reading ended early: a take found their end, or that they failed, or their bytes have a frame fault, or are the most
  abbrev pub early_of_run : List ℕ
  early_of_run = filter (λ k. found_so is_last k || (is_fault (stream (gave_in end_ k)).ending || nat_le LIMIT (length (gave_in end_ k)))) (from_to 0 (plan_of script).links)

  -- those that answered that they were closed, and those with nothing there once the run was ending
  abbrev pub closed_of_run : List ℕ
  closed_of_run = filter (found_so is_closed) (from_to 0 (plan_of script).links)

  abbrev pub silent_of_run : List ℕ
  silent_of_run = filter (found_so is_no_more) (from_to 0 (plan_of script).links)

  -- the number of the last attempt of a call: so often its attempt was advanced
  abbrev pub attempts_of_run : ℕ → ℕ
  attempts_of_run o = times o (shown_in_run script turns end_ is advanced_at)

  -- the responses, by link and place, that were whole before a range of theirs was made
  abbrev pub soon_of_run : List (ℕ × ℕ)
  soon_of_run = shown_in_run script turns end_ is (soon_at (plan_of script))
