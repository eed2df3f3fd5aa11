-- Over the ticks of a run: what became of attempts whose at words were stored; and how each program begins.
use Rattle.std.proofs.Common.{◌≡◌, ℕ, zero, suc, ◌<◌, ⊎_elim, true, List, [], ◌∷◌, replicate, refl, subst}
use Rattle.std.specs.Prelude as std
use mathlib.Core.Option.{none, some}
use lib.ListN.{get_elem?}
use Rattle.sock_words.specs.PackedWords.{socket_id_version, socket_id_slot, vref_version, at_word_link, at_word_attempt}
use Rattle.sock_words.specs.declared.plain.Plan.{Plan}
use Rattle.sock_model.specs.declared.view.View.{View}
use Rattle.sock_model.specs.SocketTableLayout.{ref_index}
use Rattle.corr_core.specs.declared.marks.Plan.{Plan as IdPlan}
use Rattle.seat_programs.specs.Cores.{Core, SeatState, resolved, next_step}
use Rattle.seat_programs.specs.ClientProgram.{client_from}
use Rattle.seat_programs.specs.Programs.{Program, Do, Rest, Aside}
use Rattle.seat_programs.specs.declared.task.Sizes.{Sizes}
use Rattle.seat_programs.specs.declared.task.Task.{Task}
use Rattle.seat_programs.specs.ScriptSetupToEnding.{programs, readers_from, all_programs, beginning}
use Rattle.seat_programs.specs.Ticks.{Answer, Moment, IsAnswered, AreAnswered, quiet, ticked, run, waits_at}
use Rattle.dropped_calls.specs.Below.programs_allowed.specs.program_steps.specs.SoundSeats.{Sound, IsFitting, AreFitting, views_after, views_along}
use Rattle.dropped_calls.specs.Below.programs_allowed.specs.sock_runs.proofs.LinkTicks.{RetriesGo}
use Rattle.dropped_calls.specs.Below.programs_allowed.specs.program_walks.proofs.OpenedLivesRecorded.{mapped}
use Rattle.dropped_calls.specs.Below.programs_allowed.specs.sock_runs.proofs.TicksKeepSeatsSound.{sound_ticks}
use Rattle.dropped_calls.specs.Below.outcome_stories.specs.OperationStories.{In}
use Rattle.dropped_calls.specs.Below.outcome_causes.proofs.PlainOutcomeCauses.{in_both}
use Rattle.dropped_calls.specs.accept_counts.specs.EndedCalls.{Store, stores_by, stored_at}
use Rattle.dropped_calls.specs.refused_attempts.proofs.RefusedClosing.{OnSockets, MakesSteps, tick_steps}
use Rattle.dropped_calls.specs.accept_counts.proofs.ProgramsAtBeginning.{all_begin}
use Rattle.send_causes.proofs.ClosedLostPrograms.{Mode, Free, Goes, client_goes, reader_goes, goes_next}
use Rattle.send_causes.proofs.ClosedLostTicks.{Entered, AllStand, Fate, keeps_here, tick_stands, tick_stores}
use Rattle.seat_programs.specs.LoopRounds.{first_step}
use Rattle.dropped_calls.specs.Below.outcome_stories.specs.Facts.{shown_in}

-- ## Ticks one after another

module _ (p : Plan) (Old : ℕ → ℕ → Type 0) (retries : RetriesGo p) (Holds : Core → List View → Type 0)
    (stays : (c : Core) (vs : List View) (m : Moment) → Sound p c vs → IsAnswered c m → IsFitting p c m → Holds c vs → Holds (ticked p c m) (views_after p c vs m))
    (fresh : (c : Core) (vs : List View) → Holds c vs → (id : ℕ) → socket_id_slot id < p.slots → vref_version (std.slice_index c.words (ref_index (socket_id_slot id))) ≡ socket_id_version id → Old (socket_id_slot id) (socket_id_version id) → ⊥) where
  pub record Behind (c : Core) (vs : List View) (ms : List Moment) : Type 0 where
    pub stands : AllStand p Old (run p c ms) (views_along p c vs ms)
    pub fates : (o n k : ℕ) → Fate p Old c vs o n k → Fate p Old (run p c ms) (views_along p c vs ms) o n k
    pub stores : (x : Store) → In x (shown_in stored_at p c ms) → Fate p Old (run p c ms) (views_along p c vs ms) x.operation (at_word_attempt x.word) (at_word_link x.word)

  pub run_fates : (ms : List Moment) (c : Core) (vs : List View) → Sound p c vs → AreAnswered p c ms → AreFitting p c ms → Holds c vs → AllStand p Old c vs → Behind c vs ms
  run_fates [] c vs sound answered fitting holds all = record { stands = all; fates = λ o n k f. f; stores = λ x there. absurd there }
  run_fates (m ∷ ms) c vs sound answered fitting holds all =
      let one = tick_stands p Old retries c vs sound m answered.0 fitting.0 (fresh c vs holds) all in
      let r = run_fates ms (ticked p c m) (views_after p c vs m) (sound_ticks p retries c vs m sound answered.0 fitting.0) answered.1 fitting.1 (stays c vs m sound answered.0 fitting.0 holds) one.0 in record {
        stands = r.stands;
        fates = λ o n k f. r.fates o n k (one.1 o n k f);
        stores = λ x there. ⊎_elim (λ now. r.fates x.operation (at_word_attempt x.word) (at_word_link x.word) (tick_stores p Old retries c vs sound m answered.0 fitting.0 (fresh c vs holds) all x now)) (λ later. r.stores x later)
            (in_both (stored_at c m) (shown_in stored_at p (ticked p c m) ms) x there);
      }

-- what was accepted stays so
pub run_entered : (p : Plan) → RetriesGo p → (ms : List Moment) (c : Core) (vs : List View) → Sound p c vs → AreAnswered p c ms → AreFitting p c ms → (o n : ℕ) → Entered o n vs → Entered o n (views_along p c vs ms)
run_entered p retries [] c vs sound answered fitting o n e = e
run_entered p retries (m ∷ ms) c vs sound answered fitting o n e = run_entered p retries ms (ticked p c m) (views_after p c vs m) (sound_ticks p retries c vs m sound answered.0 fitting.0) answered.1 fitting.1 o n
    (let k = keeps_here p (λ i h. ⊥) retries c vs sound m answered.0 fitting.0 (λ id inside same old. old) in k.entered o n e)

-- seat 0 stores no at word while it closes what was opened
module _ (p : Plan) where
  none_stored : (c : Core) → MakesSteps c → (x : Store) → In x (stored_at c (quiet 0)) → ⊥
  none_stored c s x at = by s.0.program s.2 (subst (λ o. In x (elim o as (λ o. List Store) [ none ↦ [] | some seat ↦ stores_by (first_step seat.program) ])) s.1 at)
    where
      by : (y : Program) → OnSockets y → In x (stores_by (first_step y)) → ⊥
      by (Do call next) g m = m
      by Rest g m = m
      by _ g m = absurd g

  pub none_closing : (n : ℕ) (c : Core) → MakesSteps c → (x : Store) → In x (shown_in stored_at p c (replicate n (quiet 0))) → ⊥
  none_closing zero c s x at = at
  none_closing (suc n) c s x at = ⊎_elim (none_stored c s x) (none_closing n (ticked p c (quiet 0)) (tick_steps p c s) x) (in_both (stored_at c (quiet 0)) (shown_in stored_at p (ticked p c (quiet 0)) (replicate n (quiet 0))) x at)

-- ## How a run begins

module _ (requests : ℕ) where
  -- each seat is at no attempt
  abbrev pub AllFree : Core → Type 0
  AllFree c = (j : ℕ) (seat : SeatState) → get_elem? c.seats j ≡ some seat → Goes requests Free seat.program

  pub begins_free : (p : Plan) (q : IdPlan) (sizes : Sizes) → sizes.requests ≡ requests → (clients : List (List Task)) (calls os : List ℕ) → AllFree (beginning p q (all_programs (programs sizes clients) (readers_from calls 0 os)))
  begins_free p q sizes size clients calls os j seat at = let x = mapped (λ (program : Program). record { program = next_step (resolved [] program); hand = [] }) (all_programs (programs sizes clients) (readers_from calls 0 os)) j seat at in
      let goes = all_begin (Goes requests Free) tt calls (reader_goes requests calls) (programs sizes clients) os j x.0
      (λ of_client. let y = mapped (client_from sizes []) clients j x.0 of_client in subst (Goes requests Free) y.2 (client_goes requests sizes size y.0 [])) x.1 in
      subst (λ (s : SeatState). Goes requests Free s.program) x.2 (goes_next requests Free [] x.0 tt goes)

  -- who is at rest is at none
  pub rests_free : (m : Mode) → Goes requests m Rest → m ≡ Free
  rests_free Free g = refl
  rests_free m g = absurd g

  -- nor is who waits at the head of a loop
  pub waits_free : (p : Plan) (c : Core) (answer : Answer) (program : Program) → waits_at p c answer program ≡ true → (m : Mode) → Goes requests m program → m ≡ Free
  waits_free p c answer program e Free g = refl
  waits_free p c answer (Do call next) e m g = absurd (cc)
  waits_free p c answer (Aside step next) e m g = absurd (cc)
  waits_free p c answer _ e m g = absurd g
