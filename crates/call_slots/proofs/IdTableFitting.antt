-- The next step of a seat of a sound core fits the table of ids.
use Rattle.std.proofs.Common.{◌≡◌, ℕ, ◌+◌, ◌<◌, ◌≤◌, Bool, true, false, IsTrue, List, [], Some, get_or, sym, ap, ◌∙◌, subst, arith}
use Rattle.std.proofs.Props.{props}
use mathlib.Core.Option as core
use lib.ListN.{get_elem?}
use Rattle.sock_words.specs.declared.plain.Plan.{Plan}
use Rattle.corr_core.specs.IdSlotWord.{parts}
use Rattle.corr_core.specs.IdSlotLaw.{LAST}
use Rattle.corr_core.specs.declared.marks.Plan.{Plan as IdPlan}
use Rattle.corr_core.specs.declared.marks.Hand.TheVariants.{Empty}
use Rattle.corr_core.specs.declared.marks.Token.TheVariants.{Locked}
use Rattle.corr_core.proofs.IdStepsKeepSlot.{is_lock}
use Rattle.corr_core.specs.IdTableLayout.{id_index}
use Rattle.id_rule.specs.LawfulIdTable.{local}
use Rattle.id_rule.proofs.AllowedIdSteps as allowed
use Rattle.sock_message.specs.Asked.{Asked}
use Rattle.seat_programs.specs.Asides.{Step, PutCall, TakeCall}
use Rattle.seat_programs.specs.Programs.{Program, Aside, Round}
use Rattle.seat_programs.specs.LoopRounds.{round}
use Rattle.seat_programs.specs.LoopHeads.{Retry}
use Rattle.seat_programs.specs.Cores.{Calls, Core, SeatState}
use Rattle.id_runs.specs.HeldIdTokens.{IdView, id_state, HasOne, MayId}
use Rattle.id_runs.specs.Goes.{IdGoesOn, SoundIds}
use Rattle.id_runs.proofs.IdLoopRounds.{ids_round}
use Rattle.call_points.specs.AsideCodeSteps.{step_of, aside_of, aside_in}
use Rattle.call_points.specs.declared.aside.Aside as code
use Rattle.call_points.specs.declared.aside.Aside.TheVariants as steps
use Rattle.call_slots.specs.CallSlotState.{SlotState, calls_with}
use Rattle.call_slots.specs.WordOfStep.{index_of, IsWithin, WordFits}
use Rattle.call_slots.specs.CallSlotSteps.{StepFits}
use Rattle.sock_words.specs.PackedWords.{bit}

-- a step that `CallSlots::step` makes
abbrev pub IsOnWord : code.Aside → Type 0
IsOnWord (steps.PutCall i) = ⊥
IsOnWord (steps.TakeCall i) = ⊥
IsOnWord (steps.TakeBytes k room) = ⊥
IsOnWord other = Unit {0}

-- ## That a step fits has one proof at most

within_prop : (p : IdPlan) (step : code.Aside) → IsProp (IsWithin p step)
within_prop p (steps.ClaimId i) = hlevel props
within_prop p _ = hlevel props

room_prop : (step : code.Aside) (found : ℕ) → IsProp (WordFits step found)
room_prop (steps.ClaimId i) found = hlevel props
room_prop _ found = hlevel props

pub fits_prop : (s : SlotState) (step : code.Aside) → IsProp (StepFits s step)
fits_prop s step = hlevel (props, within_prop, room_prop)

-- ## The next step of a program that goes on

module _ (p : Plan) (q : IdPlan) (u : IdView) (step : Step) where
  may_first : (program : Program) → IdGoesOn p q u program → aside_of program ≡ Some step → MayId p q u step
  may_first (Aside own next) go e = let same : own ≡ step = cc in subst (MayId p q u) same go.0
  may_first _ go e = absurd (cc)

  -- at the head of a loop it is the first step of the next round
  pub may_next : (program : Program) → IdGoesOn p q u program → aside_in program ≡ Some step → MayId p q u step
  may_next (Round head next) go e = may_first (round head next) (ids_round p q u head next go) e
  may_next (Aside own next) go e = may_first (Aside own next) go e
  may_next _ go e = absurd (cc)

-- ## What is allowed fits

room_of : (advance : Bool) (att rg : ℕ) → att + bit advance + 2 ≤ rg → IsTrue advance → att + 2 < rg
room_of true att rg h e = omega (arith, h)
room_of false att rg h e = let z : false ≡ true = e in absurd (cc)

module _ (p : Plan) (q : IdPlan) (c : Core) (us : List IdView) (sound : SoundIds p q c us) (k : ℕ) (u : IdView) (at : get_elem? us k ≡ core.some u) where
  -- a range that its seat ends began low enough
  ends_low : (i : ℕ) → i < q.slots → (f rg att o s : ℕ) (asked : Asked) → HasOne i (Locked f rg att asked o s Empty) u → (parts (get_or c.calls.words (id_index i) 0)).first ≤ LAST
  ends_low i inside f rg att o s asked has =
      let state = id_state c.calls us in
      (is_lock (local state i) (sound.rule.slots i inside) f rg att asked o s Empty (allowed.own q k (u, []) i inside (sound.real k u at) state sound.rule at (Locked f rg att asked o s Empty) has)).live.low

  within : (asked : Asked) (step : code.Aside) → IsOnWord step → MayId p q u (step_of asked step) → IsWithin q step
  within asked (steps.ClaimId i) on may = may
  within asked (steps.PutCall i) on may = on
  within asked (steps.LoadCall o) on may = may
  within asked (steps.LoadAt o) on may = may
  within asked (steps.LoadIdWord i) on may = may
  within asked (steps.TakeCall i) on may = on
  within asked (steps.TakeBytes l room) on may = on
  within asked _ on may = may.0

  room : (asked : Asked) (step : code.Aside) → MayId p q u (step_of asked step) → WordFits step (get_or c.calls.words (index_of q step) 0)
  room asked (steps.MakeId i range) may = let low = may.2 in (omega (arith, low), may.3)
  room asked (steps.LockId i from) may = may.1
  room asked (steps.PostId i from e) may = may.3
  room asked (steps.UnlockId i from advance) may =
      let l = may.1.7 in
      let least : (parts from.0).attempt + bit advance + 2 ≤ (parts from.0).range = (let more = may.1.8 in omega (arith, more, l.attempt_is, l.range_is)) in
      (l.state_is, room_of advance (parts from.0).attempt (parts from.0).range least)
  room asked (steps.EndId i) may =
      let m = may.1 in
      let low = ends_low i may.0 m.0 m.1 m.2 m.3 m.4 m.5 m.6 in omega (arith, low)
  room asked _ may = tt

  module _ (s : SlotState) (waiting : List (List Retry)) (gave : List (List ℕ)) (ending : Bool) (is : calls_with s waiting gave ending ≡ c.calls) where
    plan_is : q ≡ s.plan
    plan_is = sym (ap (λ (a : Calls). a.plan) is ∙ sound.plan)

    words_are : c.calls.words ≡ s.words
    words_are = sym (ap (λ (a : Calls). a.words) is)

    pub may_fits : (asked : Asked) (step : code.Aside) → IsOnWord step → MayId p q u (step_of asked step) → StepFits s step
    may_fits asked step on may = (
      subst (λ (r : IdPlan). IsWithin r step) plan_is (within asked step on may),
      subst (λ (r : IdPlan). WordFits step (get_or s.words (index_of r step) 0)) plan_is (subst (λ ws. WordFits step (get_or ws (index_of q step) 0)) words_are (room asked step may)),
    )

    -- the slot of a call that is put or taken is one of the table
    pub put_fits : (i : ℕ) (asked : Asked) → MayId p q u (PutCall i asked) → i < s.plan.slots
    put_fits i asked may = subst (λ (r : IdPlan). i < r.slots) plan_is may.0

    pub take_fits : (i : ℕ) → MayId p q u (TakeCall i) → i < s.plan.slots
    take_fits i may = subst (λ (r : IdPlan). i < r.slots) plan_is may.0

    -- a seat whose next step is one aside of the sockets, on a word
    pub fits_step : (seat : SeatState) → get_elem? c.seats k ≡ core.some seat → (asked : Asked) (step : code.Aside) → IsOnWord step → aside_in seat.program ≡ Some (step_of asked step) → StepFits s step
    fits_step seat at_seat asked step on next = may_fits asked step on (may_next p q u (step_of asked step) seat.program (sound.seats k seat u at_seat at) next)
