-- Over ticks calm seats stay calm, since the calls at home are the script's all along; and where all are calm nothing is begun.
use Rattle.std.proofs.Common.{◌≡◌, ◌≢◌, ℕ, zero, suc, true, List, [], ◌∷◌, ◌++◌, replicate, refl, ap, ◌∙◌}
use Rattle.std.specs.Prelude.{slice_get}
use Rattle.sock_words.specs.declared.plain.Plan.{Plan}
use Rattle.sock_model.specs.declared.view.View.{View}
use Rattle.seat_programs.specs.declared.task.Task.{Task}
use Rattle.seat_programs.specs.Cores.{Core}
use Rattle.seat_programs.specs.Ticks.{Moment, quiet, ticked, run, IsAnswered, AreAnswered}
use Rattle.seat_programs.specs.Explained.{AreTasks}
use Rattle.send_causes.specs.Below.programs_allowed.specs.program_steps.specs.SoundSeats.{IsFitting, AreFitting, views_after}
use Rattle.send_causes.specs.Below.programs_allowed.specs.sock_runs.proofs.LinkTicks.{RetriesGo}
use Rattle.send_causes.specs.Below.outcome_stories.specs.Facts.{born_at, put_at, shown_in}
use Rattle.send_causes.specs.Below.outcome_stories.specs.KeptStory.{IsSpoken}
use Rattle.send_causes.specs.Below.outcome_causes.proofs.RunsKeepStory.{IsStoried, Goes, seats_run}
use Rattle.calm_runs.proofs.TicksOfCalmSeats.{AreCalls, CalmAt, AllCalm, calm_tick, calm_beside, quiet_outcomes, none_born, no_put}

-- ticks of seat 0 leave another as it is
pub calm_setup : (S : ℕ → Type 0) (p : Plan) (n : ℕ) (c : Core) (j : ℕ) → j ≢ 0 → CalmAt S j c → CalmAt S j (run p c (replicate n (quiet 0)))
calm_setup S p zero c j differ x = x
calm_setup S p (suc n) c j differ x = calm_setup S p n (ticked p c (quiet 0)) j differ (calm_beside S p c (quiet 0) j differ x)

module _ (p : Plan) (clients : List (List Task)) (are : AreTasks p clients) (retries : RetriesGo p) where
  abbrev Storied : Core → List View → Type 0
  Storied c vs = IsStoried p clients are true c vs

  abbrev S : ℕ → Type 0
  S = IsSpoken clients

  calls_home : (c : Core) (vs : List View) → Storied c vs → AreCalls S c.calls
  calls_home c vs t = let s = t.story in s.spoken

  next_told : (c : Core) (vs : List View) (m : Moment) → IsAnswered c m → IsFitting p c m → Storied c vs → Storied (ticked p c m) (views_after p c vs m)
  next_told c vs m answered fits t = let g : Goes p clients are true (m ∷ []) c vs t = seats_run p clients are retries (m ∷ []) c vs (answered, tt) (fits, tt) t in g.after

  pub calm_along : (ms : List Moment) (c : Core) (vs : List View) → AreAnswered p c ms → AreFitting p c ms → Storied c vs → (j : ℕ) → CalmAt (IsSpoken clients) j c → CalmAt (IsSpoken clients) j (run p c ms)
  calm_along [] c vs answered fits t j x = x
  calm_along (m ∷ ms) c vs answered fits t j x = calm_along ms (ticked p c m) (views_after p c vs m) answered.1 fits.1 (next_told c vs m answered.0 fits.0 t) j (calm_tick S p c m j (calls_home c vs t) x)

  -- nothing is said but of calls, no link gets a socket, and no call is put home
  pub record StaysQuiet (c : Core) (ms : List Moment) : Type 0 where
    pub outcomes : (n : ℕ) → (IsSpoken clients n → ⊥) → slice_get (run p c ms).outcomes n ≡ slice_get c.outcomes n
    pub born : shown_in born_at p c ms ≡ []
    pub put : shown_in put_at p c ms ≡ []

  pub quiet_along : (ms : List Moment) (c : Core) (vs : List View) → AreAnswered p c ms → AreFitting p c ms → Storied c vs → AllCalm (IsSpoken clients) c → StaysQuiet c ms
  quiet_along [] c vs answered fits t x = record { outcomes = λ n none_. refl; born = refl; put = refl }
  quiet_along (m ∷ ms) c vs answered fits t x = let more = quiet_along ms (ticked p c m) (views_after p c vs m) answered.1 fits.1 (next_told c vs m answered.0 fits.0 t) (λ j. calm_tick S p c m j (calls_home c vs t) (x j)) in record {
    outcomes = λ n none_. more.outcomes n none_ ∙ quiet_outcomes S p c m (calls_home c vs t) x n none_;
    born = ap (λ (l : List ℕ). l ++ shown_in born_at p (ticked p c m) ms) (none_born S c m x) ∙ more.born;
    put = ap (λ (l : List ℕ). l ++ shown_in put_at p (ticked p c m) ms) (no_put S c m x) ∙ more.put;
  }
