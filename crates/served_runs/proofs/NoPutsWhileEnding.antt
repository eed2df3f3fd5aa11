-- While a run is ending no bytes are put into a link that became a socket's before.
use Rattle.std.proofs.Common.{ℕ, List, [], ◌∷◌, inl, subst, arith}
use Rattle.sock_model.specs.declared.view.View.{View}
use Rattle.brpc_model.specs.Items.{Item}
use Rattle.brpc_model.specs.Operations.{Turn}
use Rattle.seat_programs.specs.Cores.{Core}
use Rattle.seat_programs.specs.Tasks.{plan_of}
use Rattle.seat_programs.specs.Ticks.{Moment, IsAnswered, ticked}
use Rattle.seat_programs.specs.ScriptSetupToEnding.{IsRunWithCalls}
use Rattle.calm_runs.specs.send_causes.specs.Below.programs_allowed.specs.program_steps.specs.ProgramGoesOn.{GoesOn}
use Rattle.calm_runs.specs.send_causes.specs.Below.programs_allowed.specs.program_steps.specs.SoundSeats.{Sound, IsFitting, views_after}
use Rattle.calm_runs.specs.send_causes.specs.Below.programs_allowed.specs.program_steps.proofs.TickCases.{goes_first}
use Rattle.calm_runs.specs.send_causes.specs.Below.programs_allowed.specs.program_walks.proofs.WholeScriptSound.{views_closed}
use Rattle.calm_runs.specs.send_causes.specs.Below.outcome_stories.specs.Facts.{born_at, shown_in, late_links_of_run}
use Rattle.calm_runs.specs.send_causes.specs.Below.outcome_stories.specs.OperationStories.{In}
use Rattle.calm_runs.specs.send_causes.specs.Below.outcome_causes.proofs.PlainOutcomeCauses.{in_left, in_right}
use Rattle.calm_runs.specs.send_causes.specs.Below.joint_runs.proofs.RunsOfBothTables.{AreMade, first_views}
use Rattle.calm_runs.specs.send_causes.specs.Below.call_owing.proofs.EndsStill.{view_of}
use Rattle.calm_runs.specs.send_causes.specs.Below.dropped_calls.proofs.LateEnding.{ended_past}
use Rattle.calm_runs.specs.send_causes.specs.Below.dropped_calls.proofs.LateLives.{WasPast, Lives, lives_tell, lives_ticks}
use Rattle.calm_runs.specs.send_causes.specs.Below.dropped_calls.proofs.LateLooks.{Mode, Idle, Writes}
use Rattle.calm_runs.specs.send_causes.specs.Below.dropped_calls.proofs.LateRests.{none_stands, ended_idle}
use Rattle.calm_runs.specs.send_causes.specs.Below.dropped_calls.proofs.LateSeats.{Righted, rights_of, AllStand, stand_ticks}
use Rattle.served_runs.proofs.LinkPlacesAtTicks.{IsPut}

module _ (script : List Item) (made : AreMade script) (turns : List Turn) (core : Core) (is : IsRunWithCalls script turns core) where
  abbrev pub IsLate : ℕ → Type 0
  IsLate k = In k (late_links_of_run script turns core is)

  -- seats have to do with links of lives alone that were made behind the ending
  abbrev pub AreLate : Core → List View → List Moment → Type 0
  AreLate c vs ms = Lives (plan_of script) is.ended IsLate c vs × AllStand (plan_of script) IsLate (WasPast (plan_of script) is.ended IsLate) c vs × ((n : ℕ) → In n (shown_in born_at (plan_of script) c ms) → IsLate n)

  pub late_first : AreLate is.ended (views_closed script turns core is (first_views script)) is.final
  late_first = (
    record { later = λ i inside. omega arith; links = λ i h k inside given. inl (ended_past script made turns core is i h k inside given) },
    (λ j seat v at at_view. let x = ended_idle script made turns core is j seat v at at_view in (Idle, x.0, none_stands (plan_of script) IsLate (WasPast (plan_of script) is.ended IsLate) v x.1)),
    λ n there. there,
  )

  pub late_on : (c : Core) (vs : List View) (m : Moment) (ms : List Moment) → Sound (plan_of script) c vs → IsAnswered c m → IsFitting (plan_of script) c m → AreLate c vs (m ∷ ms) → AreLate (ticked (plan_of script) c m) (views_after (plan_of script) c vs m) ms
  late_on c vs m ms sound answered fitting late = (
    lives_ticks (plan_of script) is.ended IsLate c vs m sound answered fitting (λ n there. late.2 n (in_left (born_at c m) (shown_in born_at (plan_of script) (ticked (plan_of script) c m) ms) n there)) late.0,
    stand_ticks (plan_of script) IsLate (WasPast (plan_of script) is.ended IsLate) c vs m sound answered fitting (lives_tell (plan_of script) is.ended IsLate c vs sound late.0) late.1,
    λ n there. late.2 n (in_right (born_at c m) (shown_in born_at (plan_of script) (ticked (plan_of script) c m) ms) n there),
  )

  late_right : (m : Mode) (k : ℕ) → rights_of (plan_of script) IsLate (WasPast (plan_of script) is.ended IsLate) m k → IsLate k
  late_right Writes k x = x
  late_right _ k x = absurd x

  -- so whoever puts bytes into a link has such a one
  pub late_put : (k : ℕ) (c : Core) (vs : List View) (m : Moment) (ms : List Moment) → Sound (plan_of script) c vs → AreLate c vs (m ∷ ms) → IsPut (plan_of script) k c m → IsLate k
  late_put k c vs m ms sound late put = let v = view_of c.seats vs m.seat put.seat put.at sound.each in
      let goes = subst (GoesOn (plan_of script) v.0) put.is (goes_first (plan_of script) v.0 put.seat.program (sound.seats m.seat put.seat v.0 put.at v.1).goes_on) in
      let may = goes.0 in let x = late.1 m.seat put.seat v.0 put.at v.1 in
      let mine : Righted (rights_of (plan_of script) IsLate (WasPast (plan_of script) is.ended IsLate) x.0) (may.0 ∷ []) = subst (Righted (rights_of (plan_of script) IsLate (WasPast (plan_of script) is.ended IsLate) x.0)) may.1.0 x.2.rights in
      subst IsLate may.1.1 (late_right x.0 may.0.link mine.0)
