-- The word of each call names an id whose first version has room, behind each step on the ids.
use Rattle.std.proofs.Common.{◌≢◌, ℕ, ◌<◌, false, List, [], length, slice_set, get_or, sym, subst, arith}
use Rattle.std.proofs.Math.ListN.{get_or-eq_default, length-set}
use Rattle.std.proofs.lemmas.List.{get_or-set_same, get_or-set_other}
use mathlib.Core.Logic.{dite}
use native.Mathlib.Decide.{ℕ_discrete, dec_lt}
use mathlib.Core.Option as core
use Rattle.corr_core.specs.declared.marks.Plan.{Plan as IdPlan}
use Rattle.id_rule.specs.LawfulIdTable.{tag_index, id_index, call_index, at_index}
use Rattle.id_points.specs.declared.call_id.CallId.{CallId}
use Rattle.id_points.specs.IdsAndAttemptNumbers.{id_of}
use Rattle.sock_message.specs.Asked.{Asked}
use Rattle.seat_programs.specs.Asides.{Found, Taking, Bytes}
use Rattle.seat_programs.specs.FoundAndChangedAside.{calls_after, more_given}
use Rattle.seat_programs.specs.Cores.{Calls}
use Rattle.call_points.specs.declared.aside.Aside.{Aside}
use Rattle.call_points.specs.declared.aside.Aside.TheVariants as code
use Rattle.call_points.specs.AsideCodeSteps.{step_of}
use Rattle.call_slots.specs.CallSlotState.{SlotState, calls_with}
use Rattle.call_slots.specs.CallSlotSteps as slots
use Rattle.machine_model.specs.Machines.{TableState, AreCalled}
use Rattle.machine_model.specs.MachineSteps.{FitsSlots}
use Rattle.sock_words.specs.PackedWords.{id_first}

abbrev IsBelow : ℕ → Type 0
IsBelow word = id_first word < 67108864

-- so are those of these ids and calls
abbrev CalledIn : Calls → Type 0
CalledIn a = (o : ℕ) → o < a.plan.operations → IsBelow (get_or a.words (call_index a.plan o) 0)

zero_below : IsBelow 0
zero_below = omega arith

own_below : (id : CallId) → IsBelow (id_of id)
own_below id = omega arith

-- another word is stored, or this one
other_below : (ws : List ℕ) (x y v : ℕ) → x ≢ y → IsBelow (get_or ws x 0) → IsBelow (get_or (slice_set ws y v) x 0)
other_below ws x y v differ below = subst IsBelow (sym (get_or-set_other ws y x v 0 differ)) below

same_below : (ws : List ℕ) (x v : ℕ) → IsBelow v → IsBelow (get_or (slice_set ws x v) x 0)
same_below ws x v below = dite (dec_lt x (length ws))
    (λ inside. subst IsBelow (sym (get_or-set_same ws x v 0 inside)) below)
    (λ past. subst IsBelow (sym (get_or-eq_default (slice_set ws x v) 0 (let e = length-set ws x v in omega (arith, past, e)))) zero_below)

given_called : (k : ℕ) (t : Taking) (a : Calls) → CalledIn a → CalledIn (more_given k t a)
given_called k (Bytes bytes) a called = called
given_called k _ a called = called

module _ (t : TableState) (asked : Asked) where
  abbrev a : Calls
  a = calls_with t.ids [] [] false

  abbrev q : IdPlan
  q = t.ids.plan

  step_called : (step : Aside) (found : Found (step_of asked step)) → FitsSlots t step → CalledIn a → CalledIn (calls_after (step_of asked step) found a)
  step_called (code.ClaimId i) found fits called o inside = let within = fits.0 in other_below t.ids.words (call_index q o) (tag_index i) 1 (λ e. omega (arith, e, within)) (called o inside)
  step_called (code.MakeId i range) found fits called o inside = let within = fits.0 in other_below t.ids.words (call_index q o) (id_index i) _ (λ e. omega (arith, e, within)) (called o inside)
  step_called (code.StoreCall x id) found fits called o inside = dite (ℕ_discrete o x)
      (λ same. subst (λ y. IsBelow (get_or (slice_set t.ids.words (call_index q x) (id_of id)) (call_index q y) 0)) (sym same) (same_below t.ids.words (call_index q x) (id_of id) (own_below id)))
      (λ differ. other_below t.ids.words (call_index q o) (call_index q x) (id_of id) (λ e. differ (omega (arith, e))) (called o inside))
  step_called (code.StoreAt x w) found fits called o inside = other_below t.ids.words (call_index q o) (at_index q x) w.0 (λ e. omega (arith, e)) (called o inside)
  step_called (code.LockId i from) found fits called o inside = let within = fits.0 in other_below t.ids.words (call_index q o) (id_index i) _ (λ e. omega (arith, e, within)) (called o inside)
  step_called (code.PostId i from e) found fits called o inside = let within = fits.0 in other_below t.ids.words (call_index q o) (id_index i) _ (λ e. omega (arith, e, within)) (called o inside)
  step_called (code.UnlockId i from advance) found fits called o inside = let within = fits.0 in other_below t.ids.words (call_index q o) (id_index i) _ (λ e. omega (arith, e, within)) (called o inside)
  step_called (code.EndId i) found fits called o inside = let within = fits.0 in other_below t.ids.words (call_index q o) (id_index i) _ (λ e. omega (arith, e, within)) (called o inside)
  step_called (code.FreeId i) found fits called o inside = let within = fits.0 in other_below t.ids.words (call_index q o) (tag_index i) 0 (λ e. omega (arith, e, within)) (called o inside)
  step_called (code.TakeBytes k room) found fits called o inside = given_called k found a called o inside
  step_called _ found fits called o inside = called o inside

  -- behind a step on the ids
  pub called_behind : (step : Aside) (found : Found (step_of asked step)) (ids' : SlotState) → slots.Makes t.ids (step_of asked step) (core.some found) ids' → FitsSlots t step → AreCalled t.ids → AreCalled ids'
  called_behind step found ids' makes fits called = subst CalledIn (sym (makes.changes [] [] false)) (step_called step found fits called)
