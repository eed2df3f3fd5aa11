-- What each link of a run tells of what it was offered at its takes says what it was given at each of them, whatever it had taken by then.
use Rattle.std.proofs.Common.{◌≡◌, ℕ, List, [], ◌∷◌, ◌++◌, take, drop, Bool, true, refl, sym, ap, ◌∙◌, subst, append_assoc}
use Rattle.std.proofs.lemmas.List.{take-append-drop}
use Rattle.std.specs.Prelude.{slice_get, Some}
use mathlib.Core.Option as core
use Rattle.sock_model.specs.declared.home.Home.{Home}
use Rattle.sock_model.specs.declared.home.Home.TheVariants.{Link}
use Rattle.sock_model.specs.declared.view.View.{View}
use Rattle.brpc_model.specs.Items.{Item, Shape}
use Rattle.brpc_model.specs.Operations.{Turn, link_shapes}
use Rattle.seat_programs.specs.Asides.{TakeBytes, Taking, Bytes, Nothing, NoMore, AtEnd, Closed, Broken}
use Rattle.seat_programs.specs.Programs.{Program, Aside}
use Rattle.seat_programs.specs.Cores.{Core}
use Rattle.seat_programs.specs.Tasks.{plan_of}
use Rattle.seat_programs.specs.Ticks.{Answer, Moment, AreAnswered, taken, ticked, run}
use Rattle.seat_programs.specs.ScriptSetupToEnding.{opened, set_up, played, IsRunWithCalls}
use Rattle.served_sizes.specs.served_calls.specs.served_runs.specs.Below.programs_allowed.specs.program_steps.specs.SoundSeats.{Sound, AreFitting, views_after, views_along}
use Rattle.served_sizes.specs.served_calls.specs.served_runs.specs.Below.programs_allowed.specs.sock_runs.proofs.LinkTicks.{RetriesGo}
use Rattle.served_sizes.specs.served_calls.specs.served_runs.specs.Below.programs_allowed.specs.sock_runs.proofs.TicksKeepSeatsSound.{sound_ticks}
use Rattle.served_sizes.specs.served_calls.specs.served_runs.specs.Below.programs_allowed.specs.program_walks.proofs.WholeScriptSound.{closing_of, views_played, views_closed, set_up_answered, end_answered, set_up_sound, closing_sound, closed_sound}
use Rattle.served_sizes.specs.served_calls.specs.served_runs.specs.Below.joint_runs.proofs.RunsOfBothTables.{AreMade, first_views}
use Rattle.served_sizes.specs.served_calls.specs.served_runs.specs.Below.call_owing.specs.LivesOfLinks.{IsFinished, ClosesAt, ClosesInTime, ClosesInRun}
use Rattle.served_sizes.specs.served_calls.specs.served_runs.specs.Below.owing_ticks.proofs.OwingRuns.{same_first}
use Rattle.served_sizes.specs.served_calls.specs.served_runs.specs.Below.run_theorems.specs.OfferedAtTakes.{GaveSo, HasTaken}
use Rattle.served_sizes.specs.served_calls.specs.served_runs.specs.Below.run_theorems.specs.OfferedAtTakes as told
use Rattle.served_sizes.specs.served_calls.specs.served_runs.specs.Below.run_theorems.specs.OfferedRuns as runs
use Rattle.served_sizes.specs.served_calls.specs.served_runs.specs.Below.call_stories.specs.LinkReadingLists.{gave_in}
use Rattle.served_sizes.specs.served_calls.specs.served_runs.specs.Below.accept_counts.proofs.EarlyClosedSockets.{start, go, fitting}
use Rattle.served_sizes.specs.served_calls.specs.served_runs.specs.Below.call_stories.proofs.RunTicks.{in_setup, in_clients, in_closing}
use Rattle.served_sizes.specs.served_calls.specs.served_runs.specs.OfferedReplies.{TookSoFar, IsDone, IsOfferedSo, OffersAt, AreOffered, OffersInRun}
use Rattle.offered_runs.proofs.WritingHalfOnce.{IsOnce, one_link, once_tick, once_along, once_opened, once_ending}
use Rattle.seat_programs.specs.LoopRounds.{first_step}

-- what a link took, and whether it is finished
abbrev took_of : Home → List ℕ
took_of (Link k took next done) = took
took_of other = []

abbrev done_of : Home → Bool
done_of (Link k took next done) = done
done_of other = true

module _ (script : List Item) where
  -- what a tick tells of each link
  abbrev Tells : Core → Answer → Program → Type 0
  Tells c answer program = (k : ℕ) (shape : Shape) → slice_get (link_shapes script) k ≡ Some shape → told.OffersAt (plan_of script) k shape.serve shape.end c answer program

  abbrev AllOnce : Core → Type 0
  AllOnce c = (k : ℕ) → IsOnce (plan_of script) k c

  module _ (c : Core) (once : AllOnce c) (k : ℕ) (shape : Shape) where
    one_took : (took t : List ℕ) (finished : Bool) → HasTaken (plan_of script) k c took finished → TookSoFar (plan_of script) c k t → took ≡ t
    one_took took t finished a b = ap took_of (one_link (plan_of script) k c took t a.0 b.0 finished b.1 (once k) a.1 b.2)

    -- what a take found and what it left are all that waited
    parts : (gave waiting bytes : List ℕ) (room : ℕ) → bytes ≡ take room waiting → (gave ++ bytes) ++ drop room waiting ≡ gave ++ waiting
    parts gave waiting bytes room is = append_assoc gave bytes (drop room waiting) ∙ ap (λ l. gave ++ l) (ap (λ l. l ++ drop room waiting) is ∙ take-append-drop room waiting)

    offered_so : (room : ℕ) (taking : Taking) (took : List ℕ) (finished : Bool) → HasTaken (plan_of script) k c took finished → GaveSo shape.serve shape.end took finished (gave_in c k) room taking → (taking ≡ Closed → IsDone (plan_of script) c k)
        → IsOfferedSo (plan_of script) shape c k taking
    offered_so room (Bytes bytes) took finished has gave done = λ t b. (drop room gave.0, parts (gave_in c k) gave.0 bytes room gave.2 ∙ gave.1 ∙ ap (told.offered shape.serve shape.end) (one_took took t finished has b))
    offered_so room Nothing took finished has gave done = λ t b. gave.0 ∙ ap (told.offered shape.serve shape.end) (one_took took t finished has b)
    offered_so room AtEnd took finished has gave done = λ t more b. gave more ∙ ap (λ x. told.offered shape.serve shape.end (x ++ more)) (one_took took t finished has b)
    offered_so room Closed took finished has gave done = (λ t b. gave ∙ ap (told.offered shape.serve shape.end) (one_took took t finished has b), done refl)
    offered_so room NoMore took finished has gave done = tt
    offered_so room Broken took finished has gave done = tt

    -- it was finished, wherever it lay
    is_done : IsFinished (plan_of script) c k → IsDone (plan_of script) c k
    is_done f took next done lies = ap done_of (one_link (plan_of script) k c took f.0 next f.1 done true (once k) lies f.2)

  offered_at : (c : Core) (answer : Answer) → AllOnce c → (program : Program) → Tells c answer program → ClosesAt (plan_of script) c answer program → OffersAt script c answer program
  offered_at c answer once (Aside (TakeBytes k room) next) tells closes = λ shape taking at is. let o = tells k shape at refl taking (ap taken is) in
      offered_so c once k shape room taking o.0 o.1 o.2 o.3 (λ closed. is_done c once k shape (closes (ap taken is ∙ ap core.some closed)))
  offered_at c answer once _ tells closes = tt

  -- and those of ticks, one after another
  abbrev TellsAll : Core → List Moment → Type 0
  TellsAll c ms = (k : ℕ) (shape : Shape) → slice_get (link_shapes script) k ≡ Some shape → told.AreOffered (plan_of script) k shape.serve shape.end c ms

  offered_along : RetriesGo (plan_of script) → (ms : List Moment) (c : Core) (vs : List View) → Sound (plan_of script) c vs → AreAnswered (plan_of script) c ms → AreFitting (plan_of script) c ms → AllOnce c → TellsAll c ms → ClosesInTime (plan_of script) c ms → AreOffered script c ms
  offered_along retries [] c vs sound answered fits once tells closes = tt
  offered_along retries (m ∷ ms) c vs sound answered fits once tells closes = (
    λ seat at. subst (OffersAt script c m.answer) (same_first seat.program) (offered_at c m.answer once (first_step seat.program) (λ k shape there. (tells k shape there).0 seat at) (closes.0 seat at)),
    offered_along retries ms (ticked (plan_of script) c m) (views_after (plan_of script) c vs m) (sound_ticks (plan_of script) retries c vs m sound answered.0 fits.0) answered.1 fits.1
        (λ k. once_tick (plan_of script) k retries c vs m sound answered.0 fits.0 (once k)) (λ k shape there. (tells k shape there).1) closes.1,
  )

module _ (script : List Item) (made : AreMade script) (turns : List Turn) (core : Core) (is : IsRunWithCalls script turns core) where
  abbrev set_up_views : List View
  set_up_views = views_along (plan_of script) (opened script) (first_views script) (in_setup is)

  begun : Sound (plan_of script) (set_up script is.setup) set_up_views
  begun = set_up_sound script made.are (first_views script) (start script made turns core is) (go script made turns core is) turns core is (fitting script made turns core is)

  set_up_once : AllOnce script (set_up script is.setup)
  set_up_once k = once_along (plan_of script) k (go script made turns core is) (in_setup is) (opened script) (first_views script) (let s = start script made turns core is in s.sound)
      (set_up_answered script made.are (first_views script) (start script made turns core is) (go script made turns core is) turns core is (fitting script made turns core is)) (let f = fitting script made turns core is in f.of_setup)
      (once_opened script k)

  played_once : AllOnce script (played script is.setup (in_clients is))
  played_once k = once_along (plan_of script) k (go script made turns core is) (in_clients is) (set_up script is.setup) set_up_views begun is.answered (let f = fitting script made turns core is in f.of_played) (set_up_once k)

  closed_once : AllOnce script (run (plan_of script) (closing_of script turns core is) (in_closing is))
  closed_once k = once_along (plan_of script) k (go script made turns core is) (in_closing is) (closing_of script turns core is) (views_played script turns core is (first_views script))
      (closing_sound script made.are (first_views script) (start script made turns core is) (go script made turns core is) turns core is (fitting script made turns core is))
      (end_answered script made.are (first_views script) (start script made turns core is) (go script made turns core is) turns core is (fitting script made turns core is)) (let f = fitting script made turns core is in f.of_closing)
      (once_ending script k (played script is.setup (in_clients is)) (played_once k))

  ended_once : AllOnce script is.ended
  ended_once k = subst (IsOnce (plan_of script) k) (sym is.is_ended) (closed_once k)

  -- each link was given at each take what belongs to what it took
  pub offers_in_run : ((k : ℕ) (shape : Shape) → slice_get (link_shapes script) k ≡ Some shape → runs.OffersInRun script turns core is k shape.serve shape.end) → ClosesInRun script turns core is → OffersInRun script turns core is
  offers_in_run offers closes = record {
    played = offered_along script (go script made turns core is) (in_clients is) (set_up script is.setup) set_up_views begun is.answered (let f = fitting script made turns core is in f.of_played) set_up_once (λ k shape there. (offers k shape there).played) closes.played;
    final = offered_along script (go script made turns core is) is.final is.ended (views_closed script turns core is (first_views script))
        (closed_sound script made.are (first_views script) (start script made turns core is) (go script made turns core is) turns core is (fitting script made turns core is)) is.answered_again (let f = fitting script made turns core is in f.of_final)
        ended_once (λ k shape there. (offers k shape there).final) closes.final;
  }
