-- Each post by a reader in a whole run: the reading of its link ended, and it loaded an at word that names its link.
use Rattle.std.proofs.Common.{◌≡◌, ℕ, ◌+◌, ◌<◌, ◌==◌, ◌&&◌, ◌||◌, eq-eqb, Bool, true, false, cond, nat_le, le-leb, List, [], ◌∷◌, ◌++◌, length, length-set, append-nil, inl, inr, ⊎_elim, ◌⊎◌, Ok, refl, sym, ap, ◌∙◌, subst, arith}
use Rattle.std.proofs.lemmas.List.Concat.{flat_map-append}
use Rattle.std.specs.Prelude.{Contains}
use Rattle.std.specs.List.{filter}
use Rattle.atomic_table.proofs.Lists.{at_set, set_else}
use Rattle.refused_attempts.specs.attempted_calls.specs.Below.chain_steps.proofs.TicketLists.{at_some}
use Rattle.sock_model.specs.declared.view.View.{View}
use Rattle.seat_programs.specs.brpc_model.specs.Items.{Item}
use Rattle.seat_programs.specs.brpc_model.specs.Operations.{Turn}
use Rattle.seat_programs.specs.brpc_model.specs.Script.{script_of}
use Rattle.seat_programs.specs.brpc_model.specs.FrameStream.{stream, is_fault}
use Rattle.seat_programs.specs.Asides.{Taking, NoMore, AtEnd, Closed, Broken}
use Rattle.seat_programs.specs.ClientProgram.{ending_of}
use Rattle.seat_programs.specs.Cores.{Core, SeatState}
use Rattle.seat_programs.specs.ReaderProgram.{LIMIT}
use Rattle.seat_programs.specs.ScheduledRuns.{from_to}
use Rattle.seat_programs.specs.Tasks.{opens, calls, plan_of}
use Rattle.seat_programs.specs.Ticks.{Moment, ticked, run}
use Rattle.seat_programs.specs.ScriptSetupToEnding.{all_tasks, opened, set_up, played, IsRunWithCalls}
use Rattle.refused_attempts.specs.attempted_calls.specs.Below.programs_allowed.specs.program_steps.specs.SoundSeats.{views_along}
use Rattle.refused_attempts.specs.attempted_calls.specs.Below.programs_allowed.specs.program_walks.proofs.WholeScriptSound.{IsListed, closing_of, views_played, views_closed, set_up_answered, end_answered, set_up_sound, closing_sound, closed_sound, recorded_opened, recorded_set_up, recorded_closing, recorded_closed}
use Rattle.refused_attempts.specs.attempted_calls.specs.Below.outcome_stories.specs.OperationStories.{In}
use Rattle.refused_attempts.specs.attempted_calls.specs.Below.outcome_ticks.proofs.Lifted.{filtered_in}
use Rattle.refused_attempts.specs.attempted_calls.specs.Below.outcome_stories.proofs.Members.{in_contains}
use Rattle.refused_attempts.specs.attempted_calls.specs.Below.outcome_causes.proofs.PlainOutcomeCauses.{in_left, in_right, in_both}
use Rattle.refused_attempts.specs.attempted_calls.specs.Below.programs_allowed.specs.SeatOpenings.{all_seats}
use Rattle.refused_attempts.specs.attempted_calls.specs.Below.call_stories.proofs.RunTicks.{in_setup, in_clients, in_closing, parts}
use Rattle.refused_attempts.specs.attempted_calls.specs.Below.joint_runs.proofs.RunsOfBothTables.{AreMade, first_views}
use Rattle.refused_attempts.specs.attempted_calls.specs.Below.owed_calls.proofs.NothingOwedAtEnd.{opened_seats}
use Rattle.refused_attempts.specs.attempted_calls.specs.Below.run_theorems.specs.Heard.{as_taken, bytes_found, taken_in, heard_takes, given_by}
use Rattle.refused_attempts.specs.attempted_calls.specs.Below.run_theorems.proofs.GaveTakeByTake.{gave_heard}
use Rattle.refused_attempts.specs.attempted_calls.specs.Below.run_theorems.proofs.HeardRuns.{taken_append}
use Rattle.refused_attempts.specs.attempted_calls.specs.Below.call_stories.specs.LinkReadingLists.{Take, takes_at, gave_in, takes_of_run, is_last, is_closed, is_no_more, found_so, early_of_run}
use Rattle.refused_attempts.specs.attempted_calls.specs.Below.call_stories.specs.PostsOfRun.{Post, posted_at, posts_of_run}
use Rattle.refused_attempts.specs.attempted_calls.specs.Below.programs_allowed.proofs.FreshSeatsAtStart.{opening_rights}
use Rattle.refused_attempts.specs.attempted_calls.specs.accept_counts.specs.EndedCalls.{loaded_at, reader_posts_at, client_posts_at, loads_of_run, reader_posts_of_run, client_posts_of_run, EndedSo, IsEndPost}
use Rattle.refused_attempts.specs.attempted_calls.specs.accept_counts.proofs.EarlyClosedSockets.{EndedBy, Any, ends_anyhow, start, go, fitting, known, begins_at, opened_takes, quiet_founds}
use Rattle.ended_calls.proofs.EndedReads.{WasOver, Tells, reader_tells}
use Rattle.ended_calls.proofs.EndedRuns.{Keeping, finds, Seen, AllTold, IsPostOf, more_post, told_along, finds_taken, finds_give}
use Rattle.refused_attempts.specs.attempted_calls.specs.accept_counts.proofs.ReaderRuns.{keeps_along}
use Rattle.refused_attempts.specs.attempted_calls.specs.accept_counts.proofs.EndedReadingLists.{any_in, in_range}
use Rattle.refused_attempts.specs.attempted_calls.specs.accept_counts.proofs.Takeless.{NoTakes, ending_takes, takes_next}
use Rattle.corr_core.proofs.NoteSums.{at_length}
use Rattle.refused_attempts.specs.attempted_calls.specs.Below.outcome_stories.specs.Facts.{shown_in}

module _ (script : List Item) (made : AreMade script) (turns : List Turn) (core : Core) (is : IsRunWithCalls script turns core) where
  abbrev K : Core → List View → (ℕ → List Taking) → Type 0
  K c vs h = Keeping (plan_of script) (calls script) (opens script) (let k = known script made turns core is in k.in_script) c vs h

  abbrev F : Core → List Moment → ℕ → List Taking
  F c ms n = finds (plan_of script) (calls script) (opens script) (let k = known script made turns core is in k.in_script) c ms n

  abbrev T : (ℕ → List Taking) → Core → Type 0
  T h c = AllTold (plan_of script) (calls script) (opens script) (let k = known script made turns core is in k.in_script) (loads_of_run script turns core is) h c

  abbrev P : (ℕ → List Taking) → Post → Type 0
  P h x = IsPostOf (plan_of script) (calls script) (opens script) (let k = known script made turns core is in k.in_script) (loads_of_run script turns core is) h x

  -- ## The parts of the run

  pub opened_keeps : K (opened script) (first_views script) (λ n. [])
  opened_keeps = record {
    readers = λ n o at seat v at_seat at_view. (opening_rights (plan_of script) (all_seats (all_tasks script) (length (opens script))) (32 + n) v at_view, inl (begins_at script made turns core is n o at seat at_seat, refl));
    clients = λ j low. opened_takes script made turns core is (Unit {0}) j low (λ ts at t has o e. tt);
    many = opened_seats script (let k = known script made turns core is in k.few);
  }

  pub opened_told : T (λ n. []) (opened script)
  opened_told n seat at = let o = at_some (opens script) n (let l = at_length (opened script).seats (32 + n) seat at in let m = opened_seats script (let k = known script made turns core is in k.few) in omega (arith, l, m)) in
      subst (Tells n (Seen (plan_of script) (calls script) (opens script) (let k = known script made turns core is in k.in_script) (loads_of_run script turns core is) n) []) (sym (begins_at script made turns core is n o.0 o.1 seat at)) (reader_tells n (Seen (plan_of script) (calls script) (opens script) (let k = known script made turns core is in k.in_script) (loads_of_run script turns core is) n) (calls script) o.0)

  abbrev pub h₁ : ℕ → List Taking
  h₁ n = [] ++ F (opened script) (in_setup is) n

  abbrev pub h₂ : ℕ → List Taking
  h₂ n = h₁ n ++ F (set_up script is.setup) (in_clients is) n

  abbrev pub h₃ : ℕ → List Taking
  h₃ n = h₂ n ++ F (closing_of script turns core is) (in_closing is) n

  abbrev pub h₄ : ℕ → List Taking
  h₄ n = h₃ n ++ F is.ended is.final n

  -- what the parts load
  open parts loaded_at is use {setup as l₁, clients as l₂, closing as l₃, final as l₄}

  -- ## What is said of the parts

  pub setup_part : T h₁ (set_up script is.setup) × ((x : Post) → In x (shown_in reader_posts_at (plan_of script) (opened script) (in_setup is)) → P h₁ x)
  setup_part = told_along (plan_of script) (calls script) (opens script) (let k = known script made turns core is in k.in_script) (loads_of_run script turns core is) (IsListed script) (go script made turns core is) (in_setup is) (opened script) (first_views script) (λ n. [])
      (let s = start script made turns core is in s.sound) (set_up_answered script made.are (first_views script) (start script made turns core is) (go script made turns core is) turns core is (fitting script made turns core is)) (let f = fitting script made turns core is in f.of_setup)
      (recorded_opened script made.are (first_views script) (start script made turns core is) (go script made turns core is) turns core is (fitting script made turns core is)) opened_keeps opened_told
      (λ l there. in_left l₁ (l₂ ++ (l₃ ++ l₄)) l there)

  pub set_up_keeps : K (set_up script is.setup) (views_along (plan_of script) (opened script) (first_views script) (in_setup is)) h₁
  set_up_keeps = keeps_along (plan_of script) (calls script) (opens script) (let k = known script made turns core is in k.in_script) Any (Unit {0}) ends_anyhow (IsListed script) (go script made turns core is) (in_setup is) (opened script) (first_views script) (λ n. [])
      (let s = start script made turns core is in s.sound) (set_up_answered script made.are (first_views script) (start script made turns core is) (go script made turns core is) turns core is (fitting script made turns core is)) (let f = fitting script made turns core is in f.of_setup)
      (recorded_opened script made.are (first_views script) (start script made turns core is) (go script made turns core is) turns core is (fitting script made turns core is)) (λ e. tt) opened_keeps

  pub clients_part : T h₂ (played script is.setup (in_clients is)) × ((x : Post) → In x (shown_in reader_posts_at (plan_of script) (set_up script is.setup) (in_clients is)) → P h₂ x)
  clients_part = told_along (plan_of script) (calls script) (opens script) (let k = known script made turns core is in k.in_script) (loads_of_run script turns core is) (IsListed script) (go script made turns core is) (in_clients is) (set_up script is.setup) (views_along (plan_of script) (opened script) (first_views script) (in_setup is)) h₁
      (set_up_sound script made.are (first_views script) (start script made turns core is) (go script made turns core is) turns core is (fitting script made turns core is)) is.answered (let f = fitting script made turns core is in f.of_played)
      (recorded_set_up script made.are (first_views script) (start script made turns core is) (go script made turns core is) turns core is (fitting script made turns core is)) set_up_keeps setup_part.0
      (λ l there. in_right l₁ (l₂ ++ (l₃ ++ l₄)) l (in_left l₂ (l₃ ++ l₄) l there))

  played_keeps : K (played script is.setup (in_clients is)) (views_played script turns core is (first_views script)) h₂
  played_keeps = keeps_along (plan_of script) (calls script) (opens script) (let k = known script made turns core is in k.in_script) Any (Unit {0}) ends_anyhow (IsListed script) (go script made turns core is) (in_clients is) (set_up script is.setup) (views_along (plan_of script) (opened script) (first_views script) (in_setup is)) h₁
      (set_up_sound script made.are (first_views script) (start script made turns core is) (go script made turns core is) turns core is (fitting script made turns core is)) is.answered (let f = fitting script made turns core is in f.of_played)
      (recorded_set_up script made.are (first_views script) (start script made turns core is) (go script made turns core is) turns core is (fitting script made turns core is)) (λ e. tt) set_up_keeps

  pub seats_played : length (played script is.setup (in_clients is)).seats ≡ 32 + length (opens script)
  seats_played = let k = played_keeps in k.many

  -- seat 0 alone gets a program for the ending
  pub closing_keeps : K (closing_of script turns core is) (views_played script turns core is (first_views script)) h₂
  closing_keeps = let k = played_keeps in record {
    readers = λ n o at seat v at_seat at_view. k.readers n o at seat v (sym (set_else (played script is.setup (in_clients is)).seats 0 (32 + n) _ (λ e. let z : ⊥ = omega (arith, e) in z)) ∙ at_seat) at_view;
    clients = λ j low seat at. ⊎_elim (λ a. subst (λ (s : SeatState). NoTakes (Unit {0}) s.program) a.1 (takes_next (Unit {0}) _ (ending_of (opens script)) (ending_takes (Unit {0}) (opens script)))) (λ a. k.clients j low seat a.1) (at_set (played script is.setup (in_clients is)).seats 0 j _ seat at);
    many = length-set (played script is.setup (in_clients is)).seats 0 _ ∙ k.many;
  }

  pub closing_told : T h₂ (closing_of script turns core is)
  closing_told n seat at = clients_part.0 n seat (sym (set_else (played script is.setup (in_clients is)).seats 0 (32 + n) _ (λ e. let z : ⊥ = omega (arith, e) in z)) ∙ at)

  closing_part : T h₃ (run (plan_of script) (closing_of script turns core is) (in_closing is)) × ((x : Post) → In x (shown_in reader_posts_at (plan_of script) (closing_of script turns core is) (in_closing is)) → P h₃ x)
  closing_part = told_along (plan_of script) (calls script) (opens script) (let k = known script made turns core is in k.in_script) (loads_of_run script turns core is) (IsListed script) (go script made turns core is) (in_closing is) (closing_of script turns core is) (views_played script turns core is (first_views script)) h₂
      (closing_sound script made.are (first_views script) (start script made turns core is) (go script made turns core is) turns core is (fitting script made turns core is))
      (end_answered script made.are (first_views script) (start script made turns core is) (go script made turns core is) turns core is (fitting script made turns core is)) (let f = fitting script made turns core is in f.of_closing)
      (recorded_closing script made.are (first_views script) (start script made turns core is) (go script made turns core is) turns core is (fitting script made turns core is)) closing_keeps closing_told
      (λ l there. in_right l₁ (l₂ ++ (l₃ ++ l₄)) l (in_right l₂ (l₃ ++ l₄) l (in_left l₃ l₄ l there)))

  run_keeps : K (run (plan_of script) (closing_of script turns core is) (in_closing is)) (views_closed script turns core is (first_views script)) h₃
  run_keeps = keeps_along (plan_of script) (calls script) (opens script) (let k = known script made turns core is in k.in_script) Any (Unit {0}) ends_anyhow (IsListed script) (go script made turns core is) (in_closing is) (closing_of script turns core is) (views_played script turns core is (first_views script)) h₂
      (closing_sound script made.are (first_views script) (start script made turns core is) (go script made turns core is) turns core is (fitting script made turns core is))
      (end_answered script made.are (first_views script) (start script made turns core is) (go script made turns core is) turns core is (fitting script made turns core is)) (let f = fitting script made turns core is in f.of_closing)
      (recorded_closing script made.are (first_views script) (start script made turns core is) (go script made turns core is) turns core is (fitting script made turns core is)) (λ e. tt) closing_keeps

  -- that the run is ending the seats don't see
  pub closed_keeps : K is.ended (views_closed script turns core is (first_views script)) h₃
  closed_keeps = subst (λ d. K d (views_closed script turns core is (first_views script)) h₃) (sym is.is_ended) (let k = run_keeps in record { readers = k.readers; clients = k.clients; many = k.many })

  pub closed_told : T h₃ is.ended
  closed_told = subst (λ d. T h₃ d) (sym is.is_ended) (λ n seat at. closing_part.0 n seat at)

  final_part : T h₄ (run (plan_of script) is.ended is.final) × ((x : Post) → In x (shown_in reader_posts_at (plan_of script) is.ended is.final) → P h₄ x)
  final_part = told_along (plan_of script) (calls script) (opens script) (let k = known script made turns core is in k.in_script) (loads_of_run script turns core is) (IsListed script) (go script made turns core is) is.final is.ended (views_closed script turns core is (first_views script)) h₃
      (closed_sound script made.are (first_views script) (start script made turns core is) (go script made turns core is) turns core is (fitting script made turns core is)) is.answered_again (let f = fitting script made turns core is in f.of_final)
      (recorded_closed script made.are (first_views script) (start script made turns core is) (go script made turns core is) turns core is (fitting script made turns core is)) closed_keeps closed_told
      (λ l there. in_right l₁ (l₂ ++ (l₃ ++ l₄)) l (in_right l₂ (l₃ ++ l₄) l (in_right l₃ l₄ l there)))

  abbrev more : (h later : ℕ → List Taking) (x : Post) → P h x → P (λ n. h n ++ later n) x
  more h later x y = more_post (plan_of script) (calls script) (opens script) (let k = known script made turns core is in k.in_script) (loads_of_run script turns core is) h later x y

  -- each post by a reader, by all that was taken of its link
  all_posts : (x : Post) → In x (reader_posts_of_run script turns core is) → P h₄ x
  all_posts x there = ⊎_elim
      (λ a. more h₃ (F is.ended is.final) x (more h₂ (F (closing_of script turns core is) (in_closing is)) x (more h₁ (F (set_up script is.setup) (in_clients is)) x (setup_part.1 x a))))
      (λ b. ⊎_elim (λ a. more h₃ (F is.ended is.final) x (more h₂ (F (closing_of script turns core is) (in_closing is)) x (clients_part.1 x a)))
      (λ b. ⊎_elim (λ a. more h₃ (F is.ended is.final) x (closing_part.1 x a)) (λ a. final_part.1 x a)
      (in_both (shown_in reader_posts_at (plan_of script) (closing_of script turns core is) (in_closing is)) (shown_in reader_posts_at (plan_of script) is.ended is.final) x b))
      (in_both (shown_in reader_posts_at (plan_of script) (set_up script is.setup) (in_clients is)) (shown_in reader_posts_at (plan_of script) (closing_of script turns core is) (in_closing is) ++ shown_in reader_posts_at (plan_of script) is.ended is.final) x b))
      (in_both (shown_in reader_posts_at (plan_of script) (opened script) (in_setup is)) (shown_in reader_posts_at (plan_of script) (set_up script is.setup) (in_clients is) ++ (shown_in reader_posts_at (plan_of script) (closing_of script turns core is) (in_closing is) ++ shown_in reader_posts_at (plan_of script) is.ended is.final)) x there)

  -- ## What was taken

  -- each take of a reader is one of the run
  all_taken : (n : ℕ) (t : Taking) → In t (h₄ n) → In (record { link = n; found = t }) (takes_of_run script turns core is)
  all_taken n t there = ⊎_elim
      (λ a. ⊎_elim (λ a. ⊎_elim (λ a. in_left s₁ (s₂ ++ (s₃ ++ s₄)) x (finds_taken (plan_of script) (calls script) (opens script) (let k = known script made turns core is in k.in_script) (in_setup is) (opened script) n t a))
      (λ b. in_right s₁ (s₂ ++ (s₃ ++ s₄)) x (in_left s₂ (s₃ ++ s₄) x (finds_taken (plan_of script) (calls script) (opens script) (let k = known script made turns core is in k.in_script) (in_clients is) (set_up script is.setup) n t b)))
      (in_both (h₁ n) (F (set_up script is.setup) (in_clients is) n) t a))
      (λ b. in_right s₁ (s₂ ++ (s₃ ++ s₄)) x (in_right s₂ (s₃ ++ s₄) x (in_left s₃ s₄ x (finds_taken (plan_of script) (calls script) (opens script) (let k = known script made turns core is in k.in_script) (in_closing is) (closing_of script turns core is) n t b))))
      (in_both (h₂ n) (F (closing_of script turns core is) (in_closing is) n) t a))
      (λ b. in_right s₁ (s₂ ++ (s₃ ++ s₄)) x (in_right s₂ (s₃ ++ s₄) x (in_right s₃ s₄ x (finds_taken (plan_of script) (calls script) (opens script) (let k = known script made turns core is in k.in_script) is.final is.ended n t b))))
      (in_both (h₃ n) (F is.ended is.final n) t there)
    where
      x : Take
      x = record { link = n; found = t }

      open parts takes_at is use {setup as s₁, clients as s₂, closing as s₃, final as s₄}

  -- the bytes are those that the link gave
  all_given : (n : ℕ) → given_by (h₄ n) ≡ given_by (heard_takes is n)
  all_given n = ap (λ l. given_by (((l ++ F (set_up script is.setup) (in_clients is) n) ++ F (closing_of script turns core is) (in_closing is) n) ++ F is.ended is.final n)) (quiet_founds (plan_of script) (calls script) (opens script) (let k = known script made turns core is in k.in_script) Any (Unit {0}) ends_anyhow (opened script) is.setup n)
      ∙ (ap (λ l. given_by ((F (set_up script is.setup) (in_clients is) n ++ l) ++ F is.ended is.final n)) (quiet_founds (plan_of script) (calls script) (opens script) (let k = known script made turns core is in k.in_script) Any (Unit {0}) ends_anyhow (closing_of script turns core is) is.last n)
      ∙ (ap (λ l. given_by (l ++ F is.ended is.final n)) (append-nil (F (set_up script is.setup) (in_clients is) n))
      ∙ (flat_map-append bytes_found (F (set_up script is.setup) (in_clients is) n) (F is.ended is.final n)
      ∙ (ap (λ l. l ++ given_by (F is.ended is.final n)) (finds_give (plan_of script) (calls script) (opens script) (let k = known script made turns core is in k.in_script) (in_clients is) (set_up script is.setup) n)
      ∙ (ap (λ l. given_by (as_taken (taken_in (plan_of script) (set_up script is.setup) (in_clients is) n)) ++ l) (finds_give (plan_of script) (calls script) (opens script) (let k = known script made turns core is in k.in_script) is.final is.ended n)
      ∙ (sym (flat_map-append bytes_found (as_taken (taken_in (plan_of script) (set_up script is.setup) (in_clients is) n)) (as_taken (taken_in (plan_of script) is.ended is.final n)))
      ∙ ap given_by (sym (taken_append (taken_in (plan_of script) (set_up script is.setup) (in_clients is) n) (taken_in (plan_of script) is.ended is.final n)))))))))

  -- ## The lists

  -- a take of the link found so
  found_here : (holds : Taking → Bool) (k : ℕ) (t : Taking) → In t (h₄ k) → holds t ≡ true → found_so script turns core is holds k ≡ true
  found_here holds k t there good = any_in (λ (x : Take). (x.link == k) && holds x.found) (takes_of_run script turns core is) (record { link = k; found = t }) (all_taken k t there)
      (ap (λ b. b && holds t) (eq-eqb k k refl) ∙ good)

  listed : (holds : ℕ → Bool) (k : ℕ) → k < (plan_of script).links → holds k ≡ true → Contains (filter holds (from_to 0 (plan_of script).links)) k
  listed holds k low good = in_contains (filter holds (from_to 0 (plan_of script).links)) k (filtered_in holds (from_to 0 (plan_of script).links) k (in_range 0 (plan_of script).links k (omega arith) (omega (arith, low))) good)

  module _ (bytes : List ℕ) (reads : script_of bytes ≡ Ok script) (k : ℕ) (low : k < (plan_of script).links) where
    same : gave_in core k ≡ given_by (h₄ k)
    same = gave_heard bytes script reads turns core is k low ∙ sym (all_given k)

    either : (a b : Bool) → b ≡ true → (a || b) ≡ true
    either true b e = refl
    either false b e = e

    early : (found_so script turns core is (is_last script turns core is) k || (is_fault (stream (gave_in core k)).ending || nat_le LIMIT (length (gave_in core k)))) ≡ true → Contains (early_of_run script turns core is) k
    early e = listed (λ n. found_so script turns core is (is_last script turns core is) n || (is_fault (stream (gave_in core n)).ending || nat_le LIMIT (length (gave_in core n)))) k low e

    by_take : (t : Taking) → In t (h₄ k) → is_last script turns core is t ≡ true → Contains (early_of_run script turns core is) k
    by_take t there good = early (ap (λ b. b || (is_fault (stream (gave_in core k)).ending || nat_le LIMIT (length (gave_in core k)))) (found_here (is_last script turns core is) k t there good))

    spoilt : (is_fault (stream (gave_in core k)).ending || nat_le LIMIT (length (gave_in core k))) ≡ true → Contains (early_of_run script turns core is) k
    spoilt e = early (either (found_so script turns core is (is_last script turns core is) k) (is_fault (stream (gave_in core k)).ending || nat_le LIMIT (length (gave_in core k))) e)

    ended_early : EndedBy (h₄ k) → Contains (early_of_run script turns core is) k
    ended_early (inl m) = by_take AtEnd m refl
    ended_early (inr (inl f)) = spoilt (ap (λ b. b || nat_le LIMIT (length (gave_in core k))) (ap (is_fault) (ap (λ l. (stream l).ending) same ∙ f.2)))
    ended_early (inr (inr (inl l))) = spoilt (either (is_fault (stream (gave_in core k)).ending) (nat_le LIMIT (length (gave_in core k))) (le-leb LIMIT (length (gave_in core k)) (let e = ap length same in omega (arith, e, l))))
    ended_early (inr (inr (inr m))) = by_take Broken m refl

    pub ended_so : (code : ℕ) → WasOver code (h₄ k) → EndedSo script turns core is k code
    ended_so code (inl (e, inl x)) = inl (e, inl (ended_early x))
    ended_so code (inl (e, inr (inl m))) = inl (e, inr (inl (listed (found_so script turns core is (is_closed script turns core is)) k low (found_here (is_closed script turns core is) k Closed m refl))))
    ended_so code (inl (e, inr (inr m))) = inl (e, inr (inr (listed (found_so script turns core is (is_no_more script turns core is)) k low (found_here (is_no_more script turns core is) k NoMore m refl))))
    ended_so code (inr (e, f)) = inr (e, (f.0, f.1, ap (λ l. (stream l).ending) same ∙ f.2))

  -- each post by a reader
  pub run_end_posts : (bytes : List ℕ) → script_of bytes ≡ Ok script → (x : Post) → In x (reader_posts_of_run script turns core is) → (k o word code : ℕ) × (k < (plan_of script).links) × IsEndPost script turns core is k o word code x
  run_end_posts bytes reads x there = let y = all_posts x there in let may = y.may in
      let low : y.link < (plan_of script).links = (let i = y.inside in let many = (let k = known script made turns core is in k.as_many) in omega (arith, i, many)) in (
        y.link,
        may.operation,
        may.word,
        may.code,
        low,
        record {
          loaded = in_contains (loads_of_run script turns core is) (record { seat = 32 + y.link; operation = may.operation; word = may.word }) may.loaded;
          some_ = may.some_;
          link = may.link;
          id = may.id_is;
          error = may.error_is;
          ended = ended_so bytes reads y.link low may.code may.over;
        },
      )

  -- ## Who posted

  tick_split : (c : Core) (m : Moment) (x : Post) → In x (posted_at c m) → In x (client_posts_at c m) ⊎ In x (reader_posts_at c m)
  tick_split c m x there = by (nat_le 32 m.seat)
    where
      by : (b : Bool) → In x (cond b [] (posted_at c m)) ⊎ In x (cond b (posted_at c m) [])
      by true = inr there
      by false = inl there

  ticks_split : (ms : List Moment) (c : Core) (x : Post) → In x (shown_in posted_at (plan_of script) c ms) → In x (shown_in client_posts_at (plan_of script) c ms) ⊎ In x (shown_in reader_posts_at (plan_of script) c ms)
  ticks_split [] c x there = absurd there
  ticks_split (m ∷ ms) c x there = ⊎_elim
      (λ a. ⊎_elim (λ b. inl (in_left (client_posts_at c m) (shown_in client_posts_at (plan_of script) (ticked (plan_of script) c m) ms) x b)) (λ b. inr (in_left (reader_posts_at c m) (shown_in reader_posts_at (plan_of script) (ticked (plan_of script) c m) ms) x b)) (tick_split c m x a))
      (λ a. ⊎_elim (λ b. inl (in_right (client_posts_at c m) (shown_in client_posts_at (plan_of script) (ticked (plan_of script) c m) ms) x b)) (λ b. inr (in_right (reader_posts_at c m) (shown_in reader_posts_at (plan_of script) (ticked (plan_of script) c m) ms) x b)) (ticks_split ms (ticked (plan_of script) c m) x a))
      (in_both (posted_at c m) (shown_in posted_at (plan_of script) (ticked (plan_of script) c m) ms) x there)

  -- each post is one by a client, or one by a reader
  pub posts_split : (x : Post) → In x (posts_of_run script turns core is) → In x (client_posts_of_run script turns core is) ⊎ In x (reader_posts_of_run script turns core is)
  posts_split x there = ⊎_elim (λ a. first_ (split (in_setup is) (opened script) a))
      (λ b. ⊎_elim (λ a. second (split (in_clients is) (set_up script is.setup) a))
      (λ b. ⊎_elim (λ a. third (split (in_closing is) (closing_of script turns core is) a)) (λ a. fourth (split is.final is.ended a)) (in_both (shown_in posted_at (plan_of script) (closing_of script turns core is) (in_closing is)) (shown_in posted_at (plan_of script) is.ended is.final) x b))
      (in_both (shown_in posted_at (plan_of script) (set_up script is.setup) (in_clients is)) (shown_in posted_at (plan_of script) (closing_of script turns core is) (in_closing is) ++ shown_in posted_at (plan_of script) is.ended is.final) x b))
      (in_both (shown_in posted_at (plan_of script) (opened script) (in_setup is)) (shown_in posted_at (plan_of script) (set_up script is.setup) (in_clients is) ++ (shown_in posted_at (plan_of script) (closing_of script turns core is) (in_closing is) ++ shown_in posted_at (plan_of script) is.ended is.final)) x there)
    where
      split : (ms : List Moment) (c : Core) → In x (shown_in posted_at (plan_of script) c ms) → In x (shown_in client_posts_at (plan_of script) c ms) ⊎ In x (shown_in reader_posts_at (plan_of script) c ms)
      split ms c a = ticks_split ms c x a

      open parts client_posts_at is use {setup as c₁, clients as c₂, closing as c₃, final as c₄}
      open parts reader_posts_at is use {setup as r₁, clients as r₂, closing as r₃, final as r₄}

      first_ : In x c₁ ⊎ In x r₁ → In x (client_posts_of_run script turns core is) ⊎ In x (reader_posts_of_run script turns core is)
      first_ (inl a) = inl (in_left c₁ (c₂ ++ (c₃ ++ c₄)) x a)
      first_ (inr a) = inr (in_left r₁ (r₂ ++ (r₃ ++ r₄)) x a)

      second : In x c₂ ⊎ In x r₂ → In x (client_posts_of_run script turns core is) ⊎ In x (reader_posts_of_run script turns core is)
      second (inl a) = inl (in_right c₁ (c₂ ++ (c₃ ++ c₄)) x (in_left c₂ (c₃ ++ c₄) x a))
      second (inr a) = inr (in_right r₁ (r₂ ++ (r₃ ++ r₄)) x (in_left r₂ (r₃ ++ r₄) x a))

      third : In x c₃ ⊎ In x r₃ → In x (client_posts_of_run script turns core is) ⊎ In x (reader_posts_of_run script turns core is)
      third (inl a) = inl (in_right c₁ (c₂ ++ (c₃ ++ c₄)) x (in_right c₂ (c₃ ++ c₄) x (in_left c₃ c₄ x a)))
      third (inr a) = inr (in_right r₁ (r₂ ++ (r₃ ++ r₄)) x (in_right r₂ (r₃ ++ r₄) x (in_left r₃ r₄ x a)))

      fourth : In x c₄ ⊎ In x r₄ → In x (client_posts_of_run script turns core is) ⊎ In x (reader_posts_of_run script turns core is)
      fourth (inl a) = inl (in_right c₁ (c₂ ++ (c₃ ++ c₄)) x (in_right c₂ (c₃ ++ c₄) x (in_right c₃ c₄ x a)))
      fourth (inr a) = inr (in_right r₁ (r₂ ++ (r₃ ++ r₄)) x (in_right r₂ (r₃ ++ r₄) x (in_right r₃ r₄ x a)))
