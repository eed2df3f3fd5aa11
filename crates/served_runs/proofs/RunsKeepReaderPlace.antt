-- Ticks one after another keep where the reader of a link stands, and that a link of which the reading is over gave all.
use Rattle.std.proofs.Common.{◌≡◌, ◌≢◌, ℕ, zero, suc, ◌+◌, ◌<◌, ◌==◌, cond, ne_eqb, true, List, [], ◌∷◌, ◌++◌, length, map, filter, replicate, get_or, ⊎_elim, refl, sym, ap, ◌∙◌, subst, arith}
use Rattle.std.specs.Prelude.{slice_get, Some}
use mathlib.Core.Logic.{dite}
use mathlib.Core.Option.{Option, none, some}
use native.Mathlib.Decide.{dec_le}
use lib.ListN.{get_elem?}
use Rattle.sock_words.specs.declared.plain.Plan.{Plan}
use Rattle.sock_model.specs.declared.view.View.{View}
use Rattle.sock_model.specs.SocketTableLayout.{open_index}
use Rattle.brpc_model.specs.Items.{Item, Shape}
use Rattle.brpc_model.specs.Operations.{link_shapes}
use Rattle.seat_programs.specs.Asides.{TakeBytes, Taking, Broken}
use Rattle.seat_programs.specs.Programs.{Program, Aside}
use Rattle.seat_programs.specs.Cores.{Core, SeatState}
use Rattle.seat_programs.specs.Tasks.{opens, calls, plan_of}
use Rattle.seat_programs.specs.Ticks.{Answer, Unasked, OfTake, Moment, IsAnswered, AreAnswered, quiet, ticked, run}
use Rattle.calm_runs.specs.send_causes.specs.Below.programs_allowed.specs.program_steps.specs.SoundSeats.{Sound, IsFitting, AreFitting, views_after}
use Rattle.calm_runs.specs.send_causes.specs.Below.programs_allowed.specs.sock_runs.proofs.LinkTicks.{RetriesGo}
use Rattle.calm_runs.specs.send_causes.specs.Below.programs_allowed.specs.program_walks.proofs.OpensStay.{run_word}
use Rattle.calm_runs.specs.send_causes.specs.Below.programs_allowed.specs.program_walks.proofs.Recorded.{Recorded, recorded_ticks}
use Rattle.calm_runs.specs.send_causes.specs.Below.programs_allowed.specs.sock_runs.proofs.TicksKeepSeatsSound.{sound_ticks}
use Rattle.calm_runs.specs.send_causes.specs.Below.outcome_stories.specs.OperationStories.{In}
use Rattle.calm_runs.specs.send_causes.specs.Below.outcome_causes.proofs.PlainOutcomeCauses.{in_left, in_right, in_both}
use Rattle.calm_runs.specs.send_causes.specs.Below.run_theorems.specs.Heard.{as_taken, taken_link, taken_at, taken_in}
use Rattle.calm_runs.specs.send_causes.specs.Below.run_theorems.proofs.HeardRuns.{taken_append}
use Rattle.calm_runs.specs.send_causes.specs.Below.run_theorems.proofs.RunLengths.{tick_long}
use Rattle.calm_runs.specs.send_causes.specs.Below.accept_counts.proofs.EarlyClosedSockets.{Any, ends_anyhow}
use Rattle.calm_runs.specs.send_causes.specs.Below.accept_counts.proofs.ReaderRuns.{Keeps, reader_of, view_at, state_at, keeps_ticks}
use Rattle.calm_runs.specs.send_causes.specs.Below.accept_counts.proofs.ReadingsAtTicks.{found_by, takes_own}
use Rattle.calm_runs.specs.send_causes.specs.Below.accept_counts.proofs.Takeless.{none_taken}
use Rattle.served_runs.specs.OfferedReplies.{OffersAt, AreOffered}
use Rattle.served_runs.proofs.LinkPlacesAtTicks.{IsPut}
use Rattle.served_runs.proofs.GivenByReadingEnd.{Holds, holds_tick}
use Rattle.seat_programs.specs.LoopRounds.{first_step}

-- ## Ticks that ask no link

unasked : (script : List Item) (c : Core) (program : Program) → OffersAt script c Unasked program
unasked script c (Aside (TakeBytes k room) next) = λ shape taking is e. absurd (none_told taking e)
  where
    none_told : (taking : Taking) → Unasked ≡ OfTake taking → ⊥
    none_told taking e = cc
unasked script c _ = tt

pub quiet_offered : (script : List Item) (n : ℕ) (c : Core) → AreOffered script c (replicate n (quiet 0))
quiet_offered script zero c = tt
quiet_offered script (suc n) c = (λ seat at. unasked script c (first_step seat.program), quiet_offered script n (ticked (plan_of script) c (quiet 0)))

none_answered : (ks : List ℕ) → as_taken (map (λ (k : ℕ). Unasked) ks) ≡ []
none_answered [] = refl
none_answered (x ∷ ks) = none_answered ks

pub quiet_takes : (p : Plan) (k n : ℕ) (c : Core) (t : Taking) → In t (as_taken (taken_in p c (replicate n (quiet 0)) k)) → ⊥
quiet_takes p k zero c t there = there
quiet_takes p k (suc n) c t there = ⊎_elim
    (λ a. by_seat (get_elem? c.seats 0) a) (λ b. quiet_takes p k n (ticked p c (quiet 0)) t b)
    (in_both (as_taken (taken_at c (quiet 0) k)) (as_taken (taken_in p (ticked p c (quiet 0)) (replicate n (quiet 0)) k)) t (subst (In t) (taken_append (taken_at c (quiet 0) k) (taken_in p (ticked p c (quiet 0)) (replicate n (quiet 0)) k)) there))
  where
    by_seat : (s : Option SeatState) → In t (as_taken (elim s as (λ o. List Answer) [ none ↦ [] | some s ↦ map (λ (j : ℕ). Unasked) (filter (λ j. j == k) (taken_link s.program)) ])) → ⊥
    by_seat none a = a
    by_seat (some s) a = subst (In t) (none_answered (filter (λ j. j == k) (taken_link s.program))) a

-- ## Ticks

module _ (script : List Item) (in_os : (k o : ℕ) → get_elem? (opens script) k ≡ some o → o < (plan_of script).operations) where
  abbrev pub Kept : Core → List View → (ℕ → List Taking) → Type 0
  Kept c vs h = Keeps (plan_of script) (calls script) (opens script) in_os Any (Unit {0}) ends_anyhow c vs h

  -- no seat but its reader takes bytes of a link
  pub others_none : (c : Core) (vs : List View) (h : ℕ → List Taking) → Sound (plan_of script) c vs → Kept c vs h → (j : ℕ) (seat : SeatState) → get_elem? c.seats j ≡ some seat → (n : ℕ) → j ≢ 32 + n → filter (λ l. l == n) (taken_link seat.program) ≡ []
  others_none c vs h sound k j seat at n far = dite (dec_le 32 j)
      (λ high. let r = reader_of (plan_of script) (calls script) (opens script) in_os Any (Unit {0}) ends_anyhow c vs h k j seat at high in let v = view_at (plan_of script) (calls script) (opens script) in_os Any (Unit {0}) ends_anyhow c vs sound j seat at in
      ⊎_elim (λ e. ap (filter (λ l. l == n)) e)
      (λ t. ap (filter (λ l. l == n)) t.1 ∙ ap (λ b. cond b (t.0 ∷ []) []) (ne_eqb t.0 n (λ e. far (r.2 ∙ ap (λ x. 32 + x) (sym t.2 ∙ e)))))
      (takes_own (plan_of script) (calls script) r.0 r.1 (in_os r.0 r.1 r.3) Any (Unit {0}) (ends_anyhow r.0) (get_or c.words (open_index (plan_of script) r.1) 0) (h r.0) seat.program v.0
      (state_at (plan_of script) (calls script) (opens script) in_os Any (Unit {0}) ends_anyhow c vs h k j seat v.0 at v.1 r)))
      (λ low. ap (filter (λ l. l == n)) (none_taken (Unit {0}) seat.program (k.clients j (omega (arith, low)) seat at)))

  module _ (Q : ℕ → ℕ → Type 0) (go : RetriesGo (plan_of script)) (k o : ℕ) (inside : o < (plan_of script).operations) (shape : Shape) (shape_is : slice_get (link_shapes script) k ≡ Some shape) (Fails : Type 0) where
    -- while the run is ending no bytes are put into the link
    module _ (Calm : Core → List View → List Moment → Type 0)
        (unput : (c : Core) (vs : List View) (m : Moment) (ms : List Moment) → Sound (plan_of script) c vs → Calm c vs (m ∷ ms) → c.calls.ending ≡ true → IsPut (plan_of script) k c m → ⊥)
        (calm_on : (c : Core) (vs : List View) (m : Moment) (ms : List Moment) → Sound (plan_of script) c vs → IsAnswered c m → IsFitting (plan_of script) c m → Calm c vs (m ∷ ms) → Calm (ticked (plan_of script) c m) (views_after (plan_of script) c vs m) ms) where
      pub holds_along : (ms : List Moment) (c : Core) (vs : List View) (h : ℕ → List Taking) → Sound (plan_of script) c vs → AreAnswered (plan_of script) c ms → AreFitting (plan_of script) c ms → Recorded (plan_of script) Q c vs → Kept c vs h → AreOffered script c ms
          → k < length c.calls.gave → (In Broken (as_taken (taken_in (plan_of script) c ms k)) → Fails) → Calm c vs ms → Holds script k o shape Fails c → Holds script k o shape Fails (run (plan_of script) c ms)
      holds_along [] c vs h sound answered fitting recorded kept offered low fails calm holds = holds
      holds_along (m ∷ ms) c vs h sound answered fitting recorded kept offered low fails calm holds =
          holds_along ms (ticked (plan_of script) c m) (views_after (plan_of script) c vs m) (λ n. h n ++ found_by c m n) (sound_ticks (plan_of script) go c vs m sound answered.0 fitting.0) answered.1 fitting.1 (recorded_ticks (plan_of script) Q c vs m sound answered.0 fitting.0 recorded)
          (keeps_ticks (plan_of script) (calls script) (opens script) in_os Any (Unit {0}) ends_anyhow Q go c vs m h sound answered.0 fitting.0 recorded (λ e. tt) kept) offered.1
          (let long = (tick_long (plan_of script) m c).gave in omega (arith, long, low))
          (λ there. fails (subst (In Broken) (sym (taken_append (taken_at c m k) (taken_in (plan_of script) (ticked (plan_of script) c m) ms k))) (in_right (as_taken (taken_at c m k)) (as_taken (taken_in (plan_of script) (ticked (plan_of script) c m) ms k)) Broken there)))
          (calm_on c vs m ms sound answered.0 fitting.0 calm)
          (holds_tick script k o shape Fails go shape_is c vs m sound answered.0 fitting.0 offered.0
          (λ some_. run_word (plan_of script) Q o inside go c vs (m ∷ []) sound (answered.0, tt) (fitting.0, tt) recorded some_) low (λ seat at far. others_none c vs h sound kept m.seat seat at k far)
          (unput c vs m ms sound calm)
          (λ there. fails (subst (In Broken) (sym (taken_append (taken_at c m k) (taken_in (plan_of script) (ticked (plan_of script) c m) ms k))) (in_left (as_taken (taken_at c m k)) (as_taken (taken_in (plan_of script) (ticked (plan_of script) c m) ms k)) Broken there)))
          holds)
