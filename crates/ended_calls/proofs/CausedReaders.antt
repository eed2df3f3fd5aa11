-- The post of a reader tells of the link of the seat that posted it: the reading of that link ended, and the reader loaded an at word that names it.
use Rattle.std.proofs.Common.{◌≡◌, ℕ, ◌+◌, ◌<◌, ◌==◌, eqb-true, Bool, true, false, cond, List, [], ◌∷◌, ◌++◌, length, append-nil, append_assoc, ⊎_elim, Ok, refl, ap, ◌∙◌, subst, arith}
use mathlib.Core.Option.{Option, none, some}
use lib.ListN.{get_elem?}
use Rattle.sock_words.specs.declared.plain.Plan.{Plan}
use Rattle.sock_model.specs.declared.view.View.{View}
use Rattle.seat_programs.specs.brpc_model.specs.Items.{Item}
use Rattle.seat_programs.specs.brpc_model.specs.Operations.{Turn}
use Rattle.seat_programs.specs.brpc_model.specs.Script.{script_of}
use Rattle.seat_programs.specs.Asides.{Taking}
use Rattle.seat_programs.specs.Cores.{Core, SeatState}
use Rattle.seat_programs.specs.Tasks.{opens, calls, plan_of}
use Rattle.seat_programs.specs.Ticks.{Moment, AreAnswered, taken, ticked}
use Rattle.seat_programs.specs.ScriptSetupToEnding.{opened, set_up, IsRunWithCalls}
use Rattle.refused_attempts.specs.attempted_calls.specs.Below.programs_allowed.specs.program_steps.specs.SoundSeats.{Sound, AreFitting, views_after, views_along}
use Rattle.refused_attempts.specs.attempted_calls.specs.Below.programs_allowed.specs.sock_runs.proofs.LinkTicks.{RetriesGo}
use Rattle.refused_attempts.specs.attempted_calls.specs.Below.programs_allowed.specs.program_walks.proofs.Recorded.{Recorded, recorded_ticks}
use Rattle.refused_attempts.specs.attempted_calls.specs.Below.programs_allowed.specs.sock_runs.proofs.TicksKeepSeatsSound.{sound_ticks}
use Rattle.refused_attempts.specs.attempted_calls.specs.Below.programs_allowed.specs.program_walks.proofs.WholeScriptSound.{IsListed, closing_of, views_played, views_closed, set_up_answered, end_answered, set_up_sound, closing_sound, closed_sound, recorded_opened, recorded_set_up, recorded_closing, recorded_closed}
use Rattle.refused_attempts.specs.attempted_calls.specs.Below.outcome_stories.specs.OperationStories.{In}
use Rattle.refused_attempts.specs.attempted_calls.specs.Below.outcome_stories.proofs.Members.{in_contains}
use Rattle.refused_attempts.specs.attempted_calls.specs.Below.outcome_causes.proofs.PlainOutcomeCauses.{in_left, in_right, in_both}
use Rattle.refused_attempts.specs.attempted_calls.specs.Below.joint_runs.proofs.RunsOfBothTables.{AreMade, first_views}
use Rattle.refused_attempts.specs.attempted_calls.specs.Below.call_stories.specs.PostsOfRun.{Post, posted_with, posted_at}
use Rattle.refused_attempts.specs.attempted_calls.specs.Below.call_stories.specs.Decided.{posted_by}
use Rattle.refused_attempts.specs.attempted_calls.specs.accept_counts.specs.EndedCalls.{Load, loaded_at, loads_of_run, IsEndPost}
use Rattle.refused_attempts.specs.attempted_calls.specs.accept_counts.proofs.EarlyClosedSockets.{Any, ends_anyhow, start, go, fitting, known}
use Rattle.ended_calls.proofs.EndedReads.{MayPost, post_more}
use Rattle.ended_calls.proofs.EndedRuns.{Keeping, finds, Seen, AllTold, told_along}
use Rattle.ended_calls.proofs.EndedTicks.{told_posts}
use Rattle.refused_attempts.specs.attempted_calls.specs.Below.call_stories.proofs.RunTicks.{in_setup, in_clients, in_closing, parts}
use Rattle.ended_calls.proofs.EndedWhole.{opened_keeps, opened_told, h₁, h₂, h₃, h₄, setup_part, set_up_keeps, closing_keeps, closing_told, closed_keeps, closed_told, ended_so}
use Rattle.refused_attempts.specs.attempted_calls.specs.accept_counts.proofs.ReaderRuns.{keeps_along}
use Rattle.refused_attempts.specs.attempted_calls.specs.accept_counts.proofs.ReadingsAtTicks.{found_by}
use Rattle.corr_core.proofs.NoteSums.{at_length}
use Rattle.seat_programs.specs.LoopRounds.{first_step}
use Rattle.refused_attempts.specs.attempted_calls.specs.Below.outcome_stories.specs.Facts.{shown_in, shown_in_run}

-- ## Ticks one after another

module _ (p : Plan) (calls os : List ℕ) (in_os : (k o : ℕ) → get_elem? os k ≡ some o → o < p.operations) (seen : List Load) (k : ℕ) where
  -- it may post the error, and the link is there
  abbrev May : List Taking → Post → Type 0
  May h x = (k < length os) × MayPost k (Seen p calls os in_os seen k) h x.id x.error

  may_more : (h later : List Taking) (x : Post) → May h x → May (h ++ later) x
  may_more h later x y = (y.0, post_more k (Seen p calls os in_os seen k) h later x.id x.error y.1)

  tick_may : (c : Core) (vs : List View) (m : Moment) (h : ℕ → List Taking) → Keeping p calls os in_os c vs h → AllTold p calls os in_os seen h c → (x : Post) → In x (posted_by (32 + k) c m) → May (h k) x
  tick_may c vs m h keeps told x there = by (m.seat == 32 + k) refl there
    where
      inside : m.seat ≡ 32 + k → In x (posted_at c m) → (o : Option SeatState) → get_elem? c.seats m.seat ≡ o → k < length os
      inside own z none e = absurd (subst (λ o. In x (elim o as (λ o. List Post) [ none ↦ [] | some seat ↦ posted_with c.calls (taken m.answer) (first_step seat.program) ])) e z)
      inside own z (some seat) e = let l = at_length c.seats m.seat seat e in let many = keeps.many in omega (arith, l, many, own)

      by : (b : Bool) → (m.seat == 32 + k) ≡ b → In x (cond b (posted_at c m) []) → May (h k) x
      by true own z = let mine = eqb-true m.seat (32 + k) own in (inside mine z (get_elem? c.seats m.seat) refl, told_posts p k (Seen p calls os in_os seen k) (h k) c m (told k) mine x z)
      by false own z = absurd z

  module _ (Q : ℕ → ℕ → Type 0) (go : RetriesGo p) where
    seat_may : (ms : List Moment) (c : Core) (vs : List View) (h : ℕ → List Taking) → Sound p c vs → AreAnswered p c ms → AreFitting p c ms → Recorded p Q c vs → Keeping p calls os in_os c vs h → AllTold p calls os in_os seen h c
        → ((l : Load) → In l (shown_in loaded_at p c ms) → In l seen) → (x : Post) → In x (shown_in (posted_by (32 + k)) p c ms) → May (h k ++ finds p calls os in_os c ms k) x
    seat_may [] c vs h sound answered fits recorded keeps told loads x there = absurd there
    seat_may (m ∷ ms) c vs h sound answered fits recorded keeps told loads x there = ⊎_elim
        (λ now. may_more (h k) (finds p calls os in_os c (m ∷ ms) k) x (tick_may c vs m h keeps told x now))
        (λ later. subst (λ l. May l x) (ap (λ l. (h k ++ l) ++ finds p calls os in_os (ticked p c m) ms k) (append-nil (found_by c m k)) ∙ append_assoc (h k) (found_by c m k) (finds p calls os in_os (ticked p c m) ms k))
        (seat_may ms (ticked p c m) (views_after p c vs m) (λ n. h n ++ finds p calls os in_os c (m ∷ []) n) (sound_ticks p go c vs m sound answered.0 fits.0) answered.1 fits.1 (recorded_ticks p Q c vs m sound answered.0 fits.0 recorded)
        (keeps_along p calls os in_os Any (Unit {0}) ends_anyhow Q go (m ∷ []) c vs h sound (answered.0, tt) (fits.0, tt) recorded (λ e. tt) keeps)
        (told_along p calls os in_os seen Q go (m ∷ []) c vs h sound (answered.0, tt) (fits.0, tt) recorded keeps told first_loads).0
        (λ l z. loads l (in_right (loaded_at c m) (shown_in loaded_at p (ticked p c m) ms) l z)) x later))
        (in_both (posted_by (32 + k) c m) (shown_in (posted_by (32 + k)) p (ticked p c m) ms) x there)
      where
        first_loads : (l : Load) → In l (loaded_at c m ++ []) → In l seen
        first_loads l z = loads l (in_left (loaded_at c m) (shown_in loaded_at p (ticked p c m) ms) l (subst (In l) (append-nil (loaded_at c m)) z))

-- ## A whole run

module _ (script : List Item) (made : AreMade script) (turns : List Turn) (core : Core) (is : IsRunWithCalls script turns core) where
  abbrev in_script : (n o : ℕ) → get_elem? (opens script) n ≡ some o → o < (plan_of script).operations
  in_script = let facts = known script made turns core is in facts.in_script

  module _ (k : ℕ) (x : Post) where
    abbrev Here : (ℕ → List Taking) → Type 0
    Here h = May (plan_of script) (calls script) (opens script) in_script (loads_of_run script turns core is) k (h k) x

    abbrev finds_in : Core → List Moment → ℕ → List Taking
    finds_in c ms n = finds (plan_of script) (calls script) (opens script) in_script c ms n

    more : (h later : ℕ → List Taking) → Here h → Here (λ n. h n ++ later n)
    more h later y = may_more (plan_of script) (calls script) (opens script) in_script (loads_of_run script turns core is) k (h k) (later k) x y

    open parts loaded_at is use {setup as l₁, clients as l₂, closing as l₃, final as l₄}

    from_final : In x (shown_in (posted_by (32 + k)) (plan_of script) is.ended is.final) → Here (h₄ script made turns core is)
    from_final there = seat_may (plan_of script) (calls script) (opens script) in_script (loads_of_run script turns core is) k (IsListed script) (go script made turns core is) is.final is.ended (views_closed script turns core is (first_views script)) (h₃ script made turns core is)
        (closed_sound script made.are (first_views script) (start script made turns core is) (go script made turns core is) turns core is (fitting script made turns core is)) is.answered_again (let f = fitting script made turns core is in f.of_final)
        (recorded_closed script made.are (first_views script) (start script made turns core is) (go script made turns core is) turns core is (fitting script made turns core is)) (closed_keeps script made turns core is) (closed_told script made turns core is)
        (λ l z. in_right l₁ (l₂ ++ (l₃ ++ l₄)) l (in_right l₂ (l₃ ++ l₄) l (in_right l₃ l₄ l z))) x there

    from_closing : In x (shown_in (posted_by (32 + k)) (plan_of script) (closing_of script turns core is) (in_closing is)) → Here (h₄ script made turns core is)
    from_closing there = more (h₃ script made turns core is) (finds_in is.ended is.final)
        (seat_may (plan_of script) (calls script) (opens script) in_script (loads_of_run script turns core is) k (IsListed script) (go script made turns core is) (in_closing is) (closing_of script turns core is) (views_played script turns core is (first_views script)) (h₂ script made turns core is)
        (closing_sound script made.are (first_views script) (start script made turns core is) (go script made turns core is) turns core is (fitting script made turns core is))
        (end_answered script made.are (first_views script) (start script made turns core is) (go script made turns core is) turns core is (fitting script made turns core is)) (let f = fitting script made turns core is in f.of_closing)
        (recorded_closing script made.are (first_views script) (start script made turns core is) (go script made turns core is) turns core is (fitting script made turns core is)) (closing_keeps script made turns core is) (closing_told script made turns core is)
        (λ l z. in_right l₁ (l₂ ++ (l₃ ++ l₄)) l (in_right l₂ (l₃ ++ l₄) l (in_left l₃ l₄ l z))) x there)

    from_clients : In x (shown_in (posted_by (32 + k)) (plan_of script) (set_up script is.setup) (in_clients is)) → Here (h₄ script made turns core is)
    from_clients there = more (h₃ script made turns core is) (finds_in is.ended is.final) (more (h₂ script made turns core is) (finds_in (closing_of script turns core is) (in_closing is))
        (seat_may (plan_of script) (calls script) (opens script) in_script (loads_of_run script turns core is) k (IsListed script) (go script made turns core is) (in_clients is) (set_up script is.setup) (views_along (plan_of script) (opened script) (first_views script) (in_setup is)) (h₁ script made turns core is)
        (set_up_sound script made.are (first_views script) (start script made turns core is) (go script made turns core is) turns core is (fitting script made turns core is)) is.answered (let f = fitting script made turns core is in f.of_played)
        (recorded_set_up script made.are (first_views script) (start script made turns core is) (go script made turns core is) turns core is (fitting script made turns core is)) (set_up_keeps script made turns core is) (setup_part script made turns core is).0
        (λ l z. in_right l₁ (l₂ ++ (l₃ ++ l₄)) l (in_left l₂ (l₃ ++ l₄) l z)) x there))

    from_setup : In x (shown_in (posted_by (32 + k)) (plan_of script) (opened script) (in_setup is)) → Here (h₄ script made turns core is)
    from_setup there = more (h₃ script made turns core is) (finds_in is.ended is.final) (more (h₂ script made turns core is) (finds_in (closing_of script turns core is) (in_closing is)) (more (h₁ script made turns core is) (finds_in (set_up script is.setup) (in_clients is))
        (seat_may (plan_of script) (calls script) (opens script) in_script (loads_of_run script turns core is) k (IsListed script) (go script made turns core is) (in_setup is) (opened script) (first_views script) (λ n. [])
        (let s = start script made turns core is in s.sound) (set_up_answered script made.are (first_views script) (start script made turns core is) (go script made turns core is) turns core is (fitting script made turns core is)) (let f = fitting script made turns core is in f.of_setup)
        (recorded_opened script made.are (first_views script) (start script made turns core is) (go script made turns core is) turns core is (fitting script made turns core is)) (opened_keeps script made turns core is) (opened_told script made turns core is)
        (λ l z. in_left l₁ (l₂ ++ (l₃ ++ l₄)) l z) x there)))

    abbrev s₂ : List Post
    s₂ = shown_in (posted_by (32 + k)) (plan_of script) (set_up script is.setup) (in_clients is)

    abbrev s₃ : List Post
    s₃ = shown_in (posted_by (32 + k)) (plan_of script) (closing_of script turns core is) (in_closing is)

    abbrev s₄ : List Post
    s₄ = shown_in (posted_by (32 + k)) (plan_of script) is.ended is.final

    in_run : In x (shown_in_run script turns core is (posted_by (32 + k))) → Here (h₄ script made turns core is)
    in_run there = ⊎_elim from_setup
        (λ l. ⊎_elim from_clients (λ l. ⊎_elim from_closing from_final (in_both s₃ s₄ x l)) (in_both s₂ (s₃ ++ s₄) x l))
        (in_both (shown_in (posted_by (32 + k)) (plan_of script) (opened script) (in_setup is)) (s₂ ++ (s₃ ++ s₄)) x there)

    -- each post by the reader of a link
    pub seat_end_posts : (bytes : List ℕ) → script_of bytes ≡ Ok script → In x (shown_in_run script turns core is (posted_by (32 + k))) → (o word code : ℕ) × (k < (plan_of script).links) × IsEndPost script turns core is k o word code x
    seat_end_posts bytes reads there = let y = in_run there in let may = y.1 in let low : k < (plan_of script).links = (let facts = known script made turns core is in let many = facts.as_many in let l = y.0 in omega (arith, l, many)) in (
      may.operation,
      may.word,
      may.code,
      low,
      record {
        loaded = in_contains (loads_of_run script turns core is) (record { seat = 32 + k; operation = may.operation; word = may.word }) may.loaded;
        some_ = may.some_;
        link = may.link;
        id = may.id_is;
        error = may.error_is;
        ended = ended_so script made turns core is bytes reads k low may.code may.over;
      },
    )
