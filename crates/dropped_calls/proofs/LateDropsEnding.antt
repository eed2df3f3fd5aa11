-- While a run is ending, messages are dropped only of links of lives that were made then.
use Rattle.std.proofs.Common.{◌≡◌, ℕ, ◌<◌, ◌⊎◌, inl, inr, ⊎_elim, List, [], ◌∷◌, get_or, sym, subst, arith}
use mathlib.Core.Logic.{dite}
use mathlib.Core.Option.{some}
use native.Mathlib.Decide.{dec_le}
use lib.ListN.{get_elem?}
use Rattle.seat_programs.specs.brpc_model.specs.Items.{Item}
use Rattle.seat_programs.specs.brpc_model.specs.Operations.{Turn}
use Rattle.sock_words.specs.PackedWords.{vref_version}
use Rattle.sock_words.specs.declared.plain.Plan.{Plan}
use Rattle.sock_model.specs.declared.view.View.{View}
use Rattle.sock_model.specs.SocketTableLayout.{ref_index}
use Rattle.ended_calls.specs.refused_attempts.specs.Below.chain_steps.proofs.TicketLists.{at_some}
use Rattle.seat_programs.specs.TableSteps.{OnPlace, DropPlace}
use Rattle.seat_programs.specs.Cores.{Core, SeatState}
use Rattle.seat_programs.specs.Programs.{Program, Do}
use Rattle.seat_programs.specs.Tasks.{plan_of}
use Rattle.seat_programs.specs.Ticks.{Moment, AreAnswered, ticked, run}
use Rattle.seat_programs.specs.ScriptSetupToEnding.{IsRunWithCalls}
use Rattle.ended_calls.specs.refused_attempts.specs.Below.programs_allowed.specs.program_steps.specs.ProgramGoesOn.{GoesOn}
use Rattle.seat_programs.specs.StepTables.{May}
use Rattle.ended_calls.specs.refused_attempts.specs.Below.programs_allowed.specs.program_steps.specs.SoundSeats.{Sound, AreFitting, views_after, views_along}
use Rattle.ended_calls.specs.refused_attempts.specs.Below.programs_allowed.specs.program_steps.proofs.TickCases.{goes_first}
use Rattle.ended_calls.specs.refused_attempts.specs.Below.programs_allowed.specs.sock_runs.proofs.LinksStay.{IsGiven, run_given}
use Rattle.ended_calls.specs.refused_attempts.specs.Below.programs_allowed.specs.sock_runs.proofs.LinkTicks.{RetriesGo}
use Rattle.ended_calls.specs.refused_attempts.specs.Below.programs_allowed.specs.sock_runs.proofs.TicksKeepSeatsSound.{sound_ticks}
use Rattle.ended_calls.specs.refused_attempts.specs.Below.programs_allowed.specs.program_walks.proofs.WholeScriptSound.{views_closed, views_ended, closed_sound}
use Rattle.ended_calls.specs.refused_attempts.specs.Below.joint_runs.proofs.RunsOfBothTables.{AreMade, first_views}
use Rattle.ended_calls.specs.refused_attempts.specs.accept_counts.specs.RefusedOrDropped.{DidStep, DidAt, DidIn}
use Rattle.ended_calls.specs.refused_attempts.specs.accept_counts.proofs.EarlyClosedSockets.{start, go, fitting}
use Rattle.dropped_calls.proofs.LateLives.{WasPast, Lives, lives_tell, lives_ticks}
use Rattle.dropped_calls.proofs.LateLooks.{Mode, Idle, Writes}
use Rattle.dropped_calls.proofs.LateRests.{none_stands, ended_idle, Any}
use Rattle.dropped_calls.proofs.LateSeats.{Righted, rights_of, Stands, AllStand, Tells, stand_ticks}
use Rattle.corr_core.proofs.NoteSums.{at_length}
use Rattle.seat_programs.specs.LoopRounds.{first_step}

module _ (p : Plan) (base : Core) (L : ℕ → Type 0) where
  -- a life of before
  abbrev Old : ℕ → ℕ → Type 0
  Old = WasPast p base L

  late_right : (m : Mode) (k : ℕ) → rights_of p L Old m k → L k
  late_right Writes k x = x
  late_right _ k x = absurd x

  -- whoever drops a message writes its link
  drop_right : (m : Mode) (v : View) → Stands p L Old m v → (l k n : ℕ) → May p v (OnPlace (DropPlace l k n)) → L k
  drop_right m v stands l k n may = let x : Righted (rights_of p L Old m) (may.0.mine.right ∷ []) = subst (Righted (rights_of p L Old m)) may.1 stands.rights in subst L (sym may.3) (late_right m (let y = may.0 in let z = y.mine in let r = z.right in r.link) x.0)

  drop_now : (c : Core) (vs : List View) (m : Moment) → Sound p c vs → AllStand p L Old c vs → (j l k n found : ℕ) → DidAt p c m j (DidStep (OnPlace (DropPlace l k n)) found) → L k
  drop_now c vs m sound stands j l k n found d = by d.1 d.2 d.3 d.4
    where
      by : (s : SeatState) (next : ℕ → Program) → get_elem? c.seats j ≡ some s → first_step s.program ≡ Do (OnPlace (DropPlace l k n)) next → L k
      by s next at is = let v = at_some vs j (let i = at_length c.seats j s at in let e = sound.each in omega (arith, i, e)) in let x = stands j s v.0 at v.1 in
          drop_right x.0 v.0 x.2 l k n (subst (GoesOn p v.0) is (goes_first p v.0 s.program (sound.seats j s v.0 at v.1).goes_on)).0

  pub drops_late : RetriesGo p → (ms : List Moment) (c : Core) (vs : List View) → Sound p c vs → AreAnswered p c ms → AreFitting p c ms → ((i h k : ℕ) → i < p.slots → IsGiven (run p c ms) (views_along p c vs ms) i h k → Old i h ⊎ L k)
      → Lives p base Any c vs → AllStand p L Old c vs → (j l k n found : ℕ) → DidIn p c ms j (DidStep (OnPlace (DropPlace l k n)) found) → L k
  drops_late goes [] c vs sound answered fits fresh lives stands j l k n found d = absurd d
  drops_late goes (m ∷ ms) c vs sound answered fits fresh lives stands j l k n found d = ⊎_elim
      (λ now. drop_now c vs m sound stands j l k n found now)
      (λ later. drops_late goes ms (ticked p c m) (views_after p c vs m) (sound_ticks p goes c vs m sound answered.0 fits.0) answered.1 fits.1 fresh (lives_ticks p base Any c vs m sound answered.0 fits.0 (λ k there. tt) lives)
      (stand_ticks p L Old c vs m sound answered.0 fits.0 tells stands) j l k n found later) d
    where
      tells : Tells p L Old c vs
      tells = lives_tell p base L c vs sound (record { later = lives.later; links = λ i h k inside given. fresh i h k inside (run_given p i h k goes c vs (m ∷ ms) sound answered fits given) })

module _ (script : List Item) (made : AreMade script) (turns : List Turn) (core : Core) (is : IsRunWithCalls script turns core) where
  -- the life wasn't there before the run was ending
  abbrev pub IsNew : ℕ → ℕ → Type 0
  IsNew i h = WasPast (plan_of script) is.ended Any i h → ⊥

  -- in the end the link is that of such a life
  abbrev pub IsOfNew : ℕ → Type 0
  IsOfNew k = (i : ℕ) × (h : ℕ) × (i < (plan_of script).slots) × IsGiven core (views_ended script turns core is (first_views script)) i h k × IsNew i h

  pub drops_of_new : (j l k n found : ℕ) → DidIn (plan_of script) is.ended is.final j (DidStep (OnPlace (DropPlace l k n)) found) → IsOfNew k
  drops_of_new = drops_late (plan_of script) is.ended IsOfNew (go script made turns core is) is.final is.ended (views_closed script turns core is (first_views script))
      (closed_sound script made.are (first_views script) (start script made turns core is) (go script made turns core is) turns core is (fitting script made turns core is)) is.answered_again (let f = fitting script made turns core is in f.of_final)
      (λ i h k inside given. dite (dec_le (vref_version (get_or is.ended.words (ref_index i) 0)) h)
      (λ high. inr (i, h, inside, subst (λ d. IsGiven d (views_ended script turns core is (first_views script)) i h k) (sym is.is_end) given, λ old. omega (arith, high, old)))
      (λ low. inl (omega (arith, low))))
      (record { later = λ i inside. omega arith; links = λ i h k inside given. inr tt })
      (λ j seat v at at_view. let x = ended_idle script made turns core is j seat v at at_view in (Idle, x.0, none_stands (plan_of script) IsOfNew (WasPast (plan_of script) is.ended IsOfNew) v x.1))
