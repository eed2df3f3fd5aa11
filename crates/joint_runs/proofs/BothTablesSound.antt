-- Both tables stay sound, tick by tick, and each tick is as each table relies on.
use Rattle.std.proofs.Common.{ℕ, ◌≡◌, ◌<◌, ◌≤◌, List, [], ◌∷◌}
use Rattle.sock_words.specs.declared.plain.Plan.{Plan}
use Rattle.sock_model.specs.declared.view.View.{View}
use Rattle.seat_programs.specs.corr_core.specs.declared.marks.Plan.{Plan as IdPlan}
use Rattle.seat_programs.specs.Cores.{Core}
use Rattle.seat_programs.specs.Ticks.{Moment, IsAnswered, AreAnswered, IsAlwaysReady, ticked, run}
use Rattle.programs_allowed.specs.program_steps.specs.SoundSeats.{Sound, IsFitting, AreFitting, views_after, views_along}
use Rattle.programs_allowed.specs.program_steps.specs.TicksLeftAtMost.{IsCounted, AreCounted, MOST_PAID}
use Rattle.programs_allowed.specs.runs_end.proofs.Bounded.{IsBounded, bounded_ticks}
use Rattle.std.specs.List.{AllByRecursion}
use Rattle.programs_allowed.specs.sock_runs.proofs.TicksKeepSeatsSound.{sound_ticks}
use Rattle.programs_allowed.proofs.RetryAllowed.{retries_go}
use Rattle.programs_allowed.specs.id_runs.specs.HeldIdTokens.{IdView}
use Rattle.programs_allowed.specs.id_runs.specs.Goes.{SoundIds, IsFittingIds}
use Rattle.programs_allowed.specs.id_runs.proofs.TicksKeepIdRule.{ids_ticks}
use Rattle.joint_runs.proofs.Joint.{is_fitting, is_counted, is_fitting_ids}

-- the table of the sockets is sound with these views, and that of the ids with some
pub record BothSound (p : Plan) (q : IdPlan) (c : Core) (vs : List View) : Type 0 where
  pub sockets : Sound p c vs
  pub id_views : List IdView
  pub ids : SoundIds p q c id_views

-- a tick finds what each table relies on
pub record FitsBoth (p : Plan) (c : Core) (m : Moment) : Type 0 where
  pub fitting : IsFitting p c m
  pub fitting_ids : IsFittingIds p c m
  pub counted : IsCounted c m

-- both are sound at each of these moments and behind them, and each tick is as each relies on
abbrev pub AreBoth : Plan → IdPlan → Core → List View → List Moment → Type 0
AreBoth p q c vs [] = BothSound p q c vs
AreBoth p q c vs (m ∷ moments) = BothSound p q c vs × FitsBoth p c m × AreBoth p q (ticked p c m) (views_after p c vs m) moments

-- and few ticks are left at each of them
abbrev pub AreBounded : Plan → ℕ → Core → List View → List Moment → Type 0
AreBounded p most c vs [] = IsBounded p most c vs
AreBounded p most c vs (m ∷ moments) = IsBounded p most c vs × AreBounded p most (ticked p c m) (views_after p c vs m) moments

module _ (p : Plan) (q : IdPlan) (narrow : q.slots ≤ 65536) (same : q.operations ≡ p.operations) where
  pub fits_both : (c : Core) (vs : List View) (m : Moment) → BothSound p q c vs → IsAnswered c m → FitsBoth p c m
  fits_both c vs m b answered = record {
    fitting = is_fitting p q narrow c b.id_views b.ids m;
    fitting_ids = is_fitting_ids p q c vs b.id_views b.sockets b.ids m;
    counted = is_counted p q narrow c b.id_views b.ids m answered;
  }

  -- a tick of any seat whose link, if it asks one, answers
  pub joint_ticks : (c : Core) (vs : List View) (m : Moment) → BothSound p q c vs → IsAnswered c m → BothSound p q (ticked p c m) (views_after p c vs m)
  joint_ticks c vs m b answered = let f = fits_both c vs m b answered in let u = ids_ticks p q narrow same c b.id_views m b.ids f.fitting_ids in record {
    sockets = sound_ticks p (retries_go p b.sockets.limits.requests) c vs m b.sockets answered f.fitting;
    id_views = u.0;
    ids = u.1;
  }

  pub joint_along : (c : Core) (vs : List View) (moments : List Moment) → BothSound p q c vs → AreAnswered p c moments → AreBoth p q c vs moments
  joint_along c vs [] b answered = b
  joint_along c vs (m ∷ moments) b answered = (b, fits_both c vs m b answered.0, joint_along (ticked p c m) (views_after p c vs m) moments (joint_ticks c vs m b answered.0) answered.1)

module _ (p : Plan) (q : IdPlan) where
  pub behind_both : (c : Core) (vs : List View) (moments : List Moment) → AreBoth p q c vs moments → BothSound p q (run p c moments) (views_along p c vs moments)
  behind_both c vs [] are = are
  behind_both c vs (m ∷ moments) are = behind_both (ticked p c m) (views_after p c vs m) moments are.2

  pub are_fitting : (c : Core) (vs : List View) (moments : List Moment) → AreBoth p q c vs moments → AreFitting p c moments
  are_fitting c vs [] are = tt
  are_fitting c vs (m ∷ moments) are = (are.1.fitting, are_fitting (ticked p c m) (views_after p c vs m) moments are.2)

  pub are_counted : (c : Core) (vs : List View) (moments : List Moment) → AreBoth p q c vs moments → AreCounted p c moments
  are_counted c vs [] are = tt
  are_counted c vs (m ∷ moments) are = (are.1.counted, are_counted (ticked p c m) (views_after p c vs m) moments are.2)

  -- where each link is prompt, no tick leaves more
  pub bounded_along : (most : ℕ) → most < MOST_PAID → (c : Core) (vs : List View) (moments : List Moment) → AreBoth p q c vs moments → AreAnswered p c moments → AllByRecursion IsAlwaysReady moments → IsBounded p most c vs → AreBounded p most c vs moments
  bounded_along most small c vs [] are answered always_ready b = b
  bounded_along most small c vs (m ∷ moments) are answered always_ready b = let sockets = are.0.sockets in let limits = sockets.limits in (
    b,
    bounded_along most small (ticked p c m) (views_after p c vs m) moments are.2 answered.1 always_ready.1 (bounded_ticks p (retries_go p limits.requests) c vs m are.0.sockets answered.0 always_ready.0 are.1.fitting are.1.counted most small b),
  )

  pub behind_bounded : (most : ℕ) (c : Core) (vs : List View) (moments : List Moment) → AreBounded p most c vs moments → IsBounded p most (run p c moments) (views_along p c vs moments)
  behind_bounded most c vs [] b = b
  behind_bounded most c vs (m ∷ moments) b = behind_bounded most (ticked p c m) (views_after p c vs m) moments b.1
