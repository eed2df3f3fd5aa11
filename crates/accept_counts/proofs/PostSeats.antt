-- The errors that ids take in ticks, by the seats that post them.
use Rattle.std.proofs.Common.{◌≡◌, ℕ, ◌≤◌, ◌==◌, if◌then◌else◌, eqb-true, eq-eqb, le-leb, ◌⊎◌, inl, inr, ⊎_elim, Bool, true, false, List, [], ◌∷◌, ◌++◌, replicate, refl, sym, subst}
use Rattle.sock_words.specs.declared.plain.Plan.{Plan}
use Rattle.seat_programs.specs.brpc_model.specs.Items.{Item}
use Rattle.seat_programs.specs.brpc_model.specs.Operations.{Turn}
use Rattle.seat_programs.specs.Cores.{Core}
use Rattle.seat_programs.specs.Tasks.{plan_of}
use Rattle.seat_programs.specs.Ticks.{Moment, quiet, ticked}
use Rattle.seat_programs.specs.ScriptSetupToEnding.{opened, ending, set_up, played, IsRunWithCalls}
use Rattle.call_causes.specs.Below.outcome_stories.specs.OperationStories.{In}
use Rattle.outcome_causes.proofs.PlainOutcomeCauses.{in_both, in_left, in_right}
use Rattle.call_causes.specs.call_stories.specs.Decided.{posted_by}
use Rattle.call_causes.specs.call_stories.specs.PostsOfRun.{Post, posted_at, posts_of_run}
use Rattle.accept_counts.specs.EndedCalls.{reader_posts_at, reader_posts_of_run}
use Rattle.call_causes.specs.Below.outcome_stories.specs.Facts.{shown_in, shown_in_run}

-- ## A tick

-- it is the seat's tick
pub of_tick : (j : ℕ) (c : Core) (m : Moment) (x : Post) → In x (posted_by j c m) → (m.seat ≡ j) × In x (posted_at c m)
of_tick j c m x at = by (m.seat == j) refl at
  where
    by : (b : Bool) → (m.seat == j) ≡ b → In x (if b then posted_at c m else []) → (m.seat ≡ j) × In x (posted_at c m)
    by true e here = (eqb-true m.seat j e, here)
    by false e here = absurd here

by_tick : (c : Core) (m : Moment) (x : Post) → In x (posted_at c m) → In x (posted_by m.seat c m)
by_tick c m x at = subst (λ b. In x (if b then posted_at c m else [])) (sym (eq-eqb m.seat m.seat refl)) at

reader_tick : (j : ℕ) → 32 ≤ j → (c : Core) (m : Moment) (x : Post) → In x (posted_by j c m) → In x (reader_posts_at c m)
reader_tick j high c m x at = let y = of_tick j c m x at in subst (λ b. In x (if b then posted_at c m else [])) (sym (le-leb 32 m.seat (subst (λ k. 32 ≤ k) (sym y.0) high))) y.1

-- ## Ticks one after another

-- what one list shows in each tick another shows too
module _ (shown more : Core → Moment → List Post) (f : (c : Core) (m : Moment) (x : Post) → In x (shown c m) → In x (more c m)) (p : Plan) where
  shows_more : (ms : List Moment) (c : Core) (x : Post) → In x (shown_in shown p c ms) → In x (shown_in more p c ms)
  shows_more [] c x at = at
  shows_more (m ∷ ms) c x at = ⊎_elim (λ now. in_left (more c m) (shown_in more p (ticked p c m) ms) x (f c m x now)) (λ later. in_right (more c m) (shown_in more p (ticked p c m) ms) x (shows_more ms (ticked p c m) x later))
      (in_both (shown c m) (shown_in shown p (ticked p c m) ms) x at)

pub of_all : (j : ℕ) (p : Plan) (ms : List Moment) (c : Core) (x : Post) → In x (shown_in (posted_by j) p c ms) → In x (shown_in posted_at p c ms)
of_all j p = shows_more (posted_by j) posted_at (λ c m x at. (of_tick j c m x at).1) p

seat_in : (p : Plan) (ms : List Moment) (c : Core) (x : Post) → In x (shown_in posted_at p c ms) → (j : ℕ) × In x (shown_in (posted_by j) p c ms)
seat_in p [] c x at = absurd at
seat_in p (m ∷ ms) c x at = ⊎_elim (λ now. (m.seat, in_left (posted_by m.seat c m) (shown_in (posted_by m.seat) p (ticked p c m) ms) x (by_tick c m x now)))
    (λ later. let r = seat_in p ms (ticked p c m) x later in (r.0, in_right (posted_by r.0 c m) (shown_in (posted_by r.0) p (ticked p c m) ms) x r.1))
    (in_both (posted_at c m) (shown_in posted_at p (ticked p c m) ms) x at)

-- ## A whole run

module _ (script : List Item) (turns : List Turn) (core : Core) (is : IsRunWithCalls script turns core) where
  abbrev Shows : (Core → Moment → List Post) → Core → List Moment → List Post
  Shows shown c ms = shown_in shown (plan_of script) c ms

  -- where x is in one of the four parts of the run
  in_parts : (shown : Core → Moment → List Post) (x : Post) → In x (shown_in_run script turns core is shown)
      → In x (Shows shown (opened script) (replicate is.setup (quiet 0))) ⊎ (In x (Shows shown (set_up script is.setup) (is.scheduled ++ is.later))
      ⊎ (In x (Shows shown (ending script (played script is.setup (is.scheduled ++ is.later))) (replicate is.last (quiet 0))) ⊎ In x (Shows shown is.ended is.final)))
  in_parts shown x at = ⊎_elim (λ a. inl a)
      (λ b. ⊎_elim (λ a. inr (inl a)) (λ b. inr (inr (in_both (Shows shown (ending script (played script is.setup (is.scheduled ++ is.later))) (replicate is.last (quiet 0))) (Shows shown is.ended is.final) x b)))
      (in_both (Shows shown (set_up script is.setup) (is.scheduled ++ is.later)) (Shows shown (ending script (played script is.setup (is.scheduled ++ is.later))) (replicate is.last (quiet 0)) ++ Shows shown is.ended is.final) x b))
      (in_both (Shows shown (opened script) (replicate is.setup (quiet 0)))
      (Shows shown (set_up script is.setup) (is.scheduled ++ is.later) ++ (Shows shown (ending script (played script is.setup (is.scheduled ++ is.later))) (replicate is.last (quiet 0)) ++ Shows shown is.ended is.final)) x at)

  of_parts : (shown : Core → Moment → List Post) (x : Post) → In x (Shows shown (opened script) (replicate is.setup (quiet 0))) ⊎ (In x (Shows shown (set_up script is.setup) (is.scheduled ++ is.later))
      ⊎ (In x (Shows shown (ending script (played script is.setup (is.scheduled ++ is.later))) (replicate is.last (quiet 0))) ⊎ In x (Shows shown is.ended is.final))) → In x (shown_in_run script turns core is shown)
  of_parts shown x (inl a) = in_left (Shows shown (opened script) (replicate is.setup (quiet 0))) _ x a
  of_parts shown x (inr (inl a)) = in_right (Shows shown (opened script) (replicate is.setup (quiet 0))) _ x (in_left (Shows shown (set_up script is.setup) (is.scheduled ++ is.later)) _ x a)
  of_parts shown x (inr (inr (inl a))) = in_right (Shows shown (opened script) (replicate is.setup (quiet 0))) _ x (in_right (Shows shown (set_up script is.setup) (is.scheduled ++ is.later)) _ x
      (in_left (Shows shown (ending script (played script is.setup (is.scheduled ++ is.later))) (replicate is.last (quiet 0))) _ x a))
  of_parts shown x (inr (inr (inr a))) = in_right (Shows shown (opened script) (replicate is.setup (quiet 0))) _ x (in_right (Shows shown (set_up script is.setup) (is.scheduled ++ is.later)) _ x
      (in_right (Shows shown (ending script (played script is.setup (is.scheduled ++ is.later))) (replicate is.last (quiet 0))) _ x a))

  run_more : (shown more : Core → Moment → List Post) → ((c : Core) (m : Moment) (x : Post) → In x (shown c m) → In x (more c m)) → (x : Post) → In x (shown_in_run script turns core is shown) → In x (shown_in_run script turns core is more)
  run_more shown more f x at = of_parts more x (⊎_elim (λ a. inl (shows_more shown more f (plan_of script) (replicate is.setup (quiet 0)) (opened script) x a))
      (λ b. inr (⊎_elim (λ a. inl (shows_more shown more f (plan_of script) (is.scheduled ++ is.later) (set_up script is.setup) x a))
      (λ b. inr (⊎_elim (λ a. inl (shows_more shown more f (plan_of script) (replicate is.last (quiet 0)) (ending script (played script is.setup (is.scheduled ++ is.later))) x a)) (λ a. inr (shows_more shown more f (plan_of script) is.final is.ended x a)) b)) b)) (in_parts shown x at))

  -- each error that an id took was posted by a seat
  pub seat_of_post : (x : Post) → In x (posts_of_run script turns core is) → (j : ℕ) × In x (shown_in_run script turns core is (posted_by j))
  seat_of_post x at = ⊎_elim (λ a. let s = seat_in (plan_of script) (replicate is.setup (quiet 0)) (opened script) x a in (s.0, of_parts (posted_by s.0) x (inl s.1)))
      (λ b. ⊎_elim (λ a. let s = seat_in (plan_of script) (is.scheduled ++ is.later) (set_up script is.setup) x a in (s.0, of_parts (posted_by s.0) x (inr (inl s.1))))
      (λ b. ⊎_elim (λ a. let s = seat_in (plan_of script) (replicate is.last (quiet 0)) (ending script (played script is.setup (is.scheduled ++ is.later))) x a in (s.0, of_parts (posted_by s.0) x (inr (inr (inl s.1)))))
      (λ a. let s = seat_in (plan_of script) is.final is.ended x a in (s.0, of_parts (posted_by s.0) x (inr (inr (inr s.1))))) b) b) (in_parts posted_at x at)

  -- and those of the readers' seats are posts by readers
  pub reader_post_of : (j : ℕ) → 32 ≤ j → (x : Post) → In x (shown_in_run script turns core is (posted_by j)) → In x (reader_posts_of_run script turns core is)
  reader_post_of j high = run_more (posted_by j) reader_posts_at (reader_tick j high)
