-- Each attempt of a call whose at word names a link: the link was failing, or accepted the attempt, or none did and each request was found taken.
use Rattle.std.proofs.Common.{◌≡◌, ℕ, zero, suc, ◌+◌, ◌<◌, ◌⊎◌, inl, inr, ⊎_elim, Bool, true, false, List, [], ◌∷◌, ◌++◌, length, replicate, get_or, Ok, refl, sym, ap, ◌∙◌, subst, arith}
use Rattle.std.specs.Prelude.{Some, slice_get}
use mathlib.Core.Logic.{dite}
use mathlib.Core.Option.{none, some}
use native.Mathlib.Decide.{ℕ_discrete, dec_le}
use lib.ListN.{get_elem?}
use Rattle.atomic_table.proofs.Lists.{set_else}
use Rattle.sock_words.specs.PackedWords.{at_word_link, at_word_attempt, vref_version, socket_id_slot, socket_id_version, id_slot, id_first}
use Rattle.sock_words.specs.declared.plain.Plan.{Plan}
use Rattle.sock_model.specs.declared.chain.Entry.{Entry}
use Rattle.sock_model.specs.declared.view.View.{View}
use Rattle.sock_model.specs.SocketTableLayout.{ref_index}
use Rattle.seat_programs.specs.brpc_model.specs.Items.{Item}
use Rattle.seat_programs.specs.brpc_model.specs.Operations.{Turn}
use Rattle.seat_programs.specs.brpc_model.specs.Script.{script_of}
use Rattle.seat_programs.specs.TableSteps.{OnChain, ClaimRequest}
use Rattle.seat_programs.specs.ClientProgram.{ending_of}
use Rattle.seat_programs.specs.Cores.{Core, SeatState, waiting_at}
use Rattle.seat_programs.specs.ScheduledRuns.{IsAtRest}
use Rattle.seat_programs.specs.Tasks.{opens, calls, plan_of, id_plan_of}
use Rattle.seat_programs.specs.Ticks.{Moment, AreAnswered, IsAlwaysReady, quiet, ticked, run, waits, waits_at}
use Rattle.seat_programs.specs.ScriptSetupToEnding.{sizes_of, all_tasks, opened, set_up, played, IsRunWithCalls}
use Rattle.seat_programs.specs.ExplainedCalls.{Accepted, StandsOn, IsUnordered, IsFailing, WasFull}
use Rattle.dropped_calls.specs.Below.programs_allowed.specs.program_steps.specs.SoundSeats.{Sound, AreFitting, views_after, views_along}
use Rattle.dropped_calls.specs.Below.programs_allowed.specs.program_steps.proofs.TickCases.{elem_there}
use Rattle.dropped_calls.specs.Below.programs_allowed.specs.sock_runs.proofs.SoundAlongRuns.{seat_rests}
use Rattle.dropped_calls.specs.Below.programs_allowed.specs.sock_runs.proofs.LinkTicks.{RetriesGo}
use Rattle.dropped_calls.specs.Below.programs_allowed.specs.sock_runs.proofs.TicksKeepSeatsSound.{sound_ticks}
use Rattle.dropped_calls.specs.Below.programs_allowed.specs.program_walks.proofs.WholeScriptSound.{closing_of, views_played, views_closed, set_up_answered, end_answered, rested_ahead, set_up_sound, played_sound, closing_sound, closed_sound, closed_ahead}
use Rattle.dropped_calls.specs.Below.outcome_stories.specs.Facts.{late_links_of_run, born_at, shown_in}
use Rattle.dropped_calls.specs.Below.outcome_stories.specs.PlainTasks.{told_tasks_of}
use Rattle.dropped_calls.specs.Below.outcome_stories.specs.OperationStories.{In}
use Rattle.dropped_calls.specs.Below.outcome_stories.proofs.Delivered.{accepted_of, requests_used}
use Rattle.dropped_calls.specs.Below.outcome_causes.proofs.Final.{at_there}
use Rattle.dropped_calls.specs.Below.outcome_stories.proofs.Members.{in_contains, contains_in}
use Rattle.dropped_calls.specs.Below.outcome_causes.proofs.MessagesOfTasks.{each_made}
use Rattle.dropped_calls.specs.Below.outcome_causes.proofs.PlainOutcomeCauses.{in_both, in_left, in_right}
use Rattle.dropped_calls.specs.Below.outcome_stories.proofs.SendersOfLogEntries.{sent_stands}
use Rattle.dropped_calls.specs.Below.joint_runs.proofs.RunsOfBothTables.{AreMade, first_views}
use Rattle.dropped_calls.specs.Below.call_owing.specs.LivesOfLinks.{ClosesInRun}
use Rattle.dropped_calls.specs.Below.call_stories.specs.PostsOfRun.{Post}
use Rattle.dropped_calls.specs.accept_counts.specs.EndedCalls.{Store, stored_at, stores_of_run, loads_of_run, IsEndPost}
use Rattle.dropped_calls.specs.accept_counts.specs.RefusedOrDropped.{DidStep}
use Rattle.dropped_calls.specs.sent_once.proofs.OtherTasksBesideCalls.{fixed_of_run, gave_of_run, orders_here, failing_of_run}
use Rattle.dropped_calls.specs.accept_counts.proofs.EarlyClosedSockets.{start, go, fitting}
use Rattle.dropped_calls.specs.ended_calls.proofs.EndedAttempts.{IsAttemptOn, ending, of_load, only_link}
use Rattle.dropped_calls.specs.ended_calls.proofs.EndedOnce.{run_stored_once}
use Rattle.dropped_calls.proofs.LateEnding.{ended_past}
use Rattle.dropped_calls.proofs.LateLives.{Lives, lives_ticks}
use Rattle.dropped_calls.proofs.LateRests.{others_along, Any, NoOld}
use Rattle.dropped_calls.specs.refused_attempts.proofs.RefusedClosing.{OnSockets, alone, set_first}
use Rattle.dropped_calls.specs.refused_attempts.proofs.RefusedClosing as closing
use Rattle.dropped_calls.specs.refused_attempts.proofs.RefusedMeans.{IsSo, run_keeps}
use Rattle.dropped_calls.specs.accept_counts.proofs.RestsWithoutCalls.{many, still}
use Rattle.dropped_calls.specs.accept_counts.proofs.RunsKeepAttemptLaw.{AreLabelledIn}
use Rattle.dropped_calls.specs.sent_once.proofs.ToldEnd.{told_end}
use Rattle.dropped_calls.specs.sent_once.proofs.WholeLinkOrders.{quiet_there}
use Rattle.send_causes.proofs.ClosedLostPrograms.{Mode, Free, Goes}
use Rattle.send_causes.proofs.ClosedLostTicks.{Entered, Works, AreTaken, Ended, Fate, word_link, word_attempt}
use Rattle.send_causes.proofs.ClosedLostRuns.{Behind, run_fates, run_entered, none_closing, AllFree, begins_free, rests_free, waits_free}
use Rattle.dropped_calls.specs.accept_counts.proofs.Grounds.{setting, stages}
use Rattle.corr_core.proofs.NoteSums.{at_length}

-- ## Lists

at_of : {A : Type 0} (xs : List A) (x : A) → In x xs → (i : ℕ) × (get_elem? xs i ≡ some x)
at_of [] x there = absurd there
at_of (y ∷ xs) x (inl e) = (0, ap (λ z. some z) (sym e))
at_of (y ∷ xs) x (inr there) = let r = at_of xs x there in (suc r.0, r.1)

-- a message of the attempt stands there, or none does
module _ (o n : ℕ) where
  abbrev IsThere : List Accepted → Type 0
  IsThere xs = (i : ℕ) × (a : Accepted) × (slice_get xs i ≡ Some a) × (a.operation ≡ o) × (a.attempt ≡ n)

  find : (xs : List Accepted) → IsThere xs ⊎ (IsThere xs → ⊥)
  find [] = inr (λ t. let e = t.2 in absurd (cc))
  find (x ∷ xs) = dite (ℕ_discrete x.operation o)
      (λ own. dite (ℕ_discrete x.attempt n) (λ is. inl (0, x, refl, own, is)) (λ no_. by (find xs) (λ a own' is. no_ is)))
      (λ no_. by (find xs) (λ a own is. no_ own))
    where
      later : IsThere xs → IsThere (x ∷ xs)
      later t = (suc t.0, t.1, t.2, t.3, t.4)

      none_here : (Unit {0} → x.operation ≡ o → x.attempt ≡ n → ⊥) → (IsThere xs → ⊥) → IsThere (x ∷ xs) → ⊥
      none_here no_ none_ (zero, a, e, own, is) = let same : x ≡ a = cc in no_ tt (ap (λ (y : Accepted). y.operation) same ∙ own) (ap (λ (y : Accepted). y.attempt) same ∙ is)
      none_here no_ none_ (suc i, a, e, own, is) = none_ (i, a, e, own, is)

      by : IsThere xs ⊎ (IsThere xs → ⊥) → (Unit {0} → x.operation ≡ o → x.attempt ≡ n → ⊥) → IsThere (x ∷ xs) ⊎ (IsThere (x ∷ xs) → ⊥)
      by (inl t) no_ = inl (later t)
      by (inr none_) no_ = inr (none_here no_ none_)

-- each life that isn't past has a link that became a socket's
lives_along : (p : Plan) (base : Core) (L : ℕ → Type 0) → RetriesGo p → (ms : List Moment) (c : Core) (vs : List View) → Sound p c vs → AreAnswered p c ms → AreFitting p c ms → ((k : ℕ) → In k (shown_in born_at p c ms) → L k) → Lives p base L c vs
    → Lives p base L (run p c ms) (views_along p c vs ms)
lives_along p base L retries [] c vs sound answered fits born lives = lives
lives_along p base L retries (m ∷ ms) c vs sound answered fits born lives = lives_along p base L retries ms (ticked p c m) (views_after p c vs m) (sound_ticks p retries c vs m sound answered.0 fits.0) answered.1 fits.1
    (λ k there. born k (in_right (born_at c m) (shown_in born_at p (ticked p c m) ms) k there)) (lives_ticks p base L c vs m sound answered.0 fits.0 (λ k there. born k (in_left (born_at c m) (shown_in born_at p (ticked p c m) ms) k there)) lives)

-- ## A whole run

module _ (script : List Item) (made : AreMade script) (turns : List Turn) (core : Core) (is : IsRunWithCalls script turns core) where
  open setting script use {p}

  abbrev goes : RetriesGo (plan_of script)
  goes = go script made turns core is

  open stages script turns core is use {set_views, rested, rested_views, closed_views, end_views}

  abbrev rest_sound : Sound (plan_of script) rested rested_views
  rest_sound = played_sound script made.are (first_views script) (start script made turns core is) (go script made turns core is) turns core is (fitting script made turns core is)

  abbrev close_sound : Sound (plan_of script) (closing_of script turns core is) rested_views
  close_sound = closing_sound script made.are (first_views script) (start script made turns core is) (go script made turns core is) turns core is (fitting script made turns core is)

  abbrev over_sound : Sound (plan_of script) is.ended closed_views
  over_sound = closed_sound script made.are (first_views script) (start script made turns core is) (go script made turns core is) turns core is (fitting script made turns core is)

  -- ## Before the ending

  abbrev Early : Core → List View → List Moment → Type 0
  Early c vs ms = Behind (plan_of script) NoOld goes (λ c vs. Unit {0}) (λ c vs m s a f h. tt) (λ c vs h id inside same old. old) c vs ms

  pub setup_fates : Early (opened script) (first_views script) (replicate is.setup (quiet 0))
  setup_fates = run_fates (plan_of script) NoOld goes (λ c vs. Unit {0}) (λ c vs m s a f h. tt) (λ c vs h id inside same old. old) (replicate is.setup (quiet 0)) (opened script) (first_views script) (start script made turns core is).sound
      (set_up_answered script made.are (first_views script) (start script made turns core is) (go script made turns core is) turns core is (fitting script made turns core is)) (fitting script made turns core is).of_setup tt
      (λ j seat v at at_view. (Free, begins_free (plan_of script).requests (plan_of script) (id_plan_of script) (sizes_of (plan_of script) (id_plan_of script)) refl (all_tasks script) (calls script) (opens script) j seat at, tt))

  pub played_fates : Early (set_up script is.setup) set_views (is.scheduled ++ is.later)
  played_fates = run_fates (plan_of script) NoOld goes (λ c vs. Unit {0}) (λ c vs m s a f h. tt) (λ c vs h id inside same old. old) (is.scheduled ++ is.later) (set_up script is.setup) set_views
      (set_up_sound script made.are (first_views script) (start script made turns core is) (go script made turns core is) turns core is (fitting script made turns core is)) is.answered (fitting script made turns core is).of_played tt setup_fates.stands

  -- then no seat is at an attempt
  rested_mode : (j : ℕ) (seat : SeatState) → get_elem? rested.seats j ≡ some seat → (m : Mode) → Goes (plan_of script).requests m seat.program → m ≡ Free
  rested_mode j seat at m g = by (still script made turns core is j (at_length rested.seats j seat at))
    where
      by : IsAtRest (played script is.setup (is.scheduled ++ is.later)) j ⊎ ((w : Moment) × (w.seat ≡ j) × IsAlwaysReady w × (waits (plan_of script) (played script is.setup (is.scheduled ++ is.later)) w ≡ true)) → m ≡ Free
      by (inl rest) = rests_free (plan_of script).requests m (subst (Goes (plan_of script).requests m)
          (seat_rests (played script is.setup (is.scheduled ++ is.later)) (rested_ahead script made.are (first_views script) (start script made turns core is) (go script made turns core is) turns core is (fitting script made turns core is)) j rest seat at) g)
      by (inr w) = waits_free (plan_of script).requests (plan_of script) (played script is.setup (is.scheduled ++ is.later)) w.0.answer seat.program
          (subst (λ o. elim o as (λ o. Bool) [ none ↦ false | some x ↦ waits_at (plan_of script) (played script is.setup (is.scheduled ++ is.later)) w.0.answer x.program ] ≡ true)
          (subst (λ i. get_elem? (played script is.setup (is.scheduled ++ is.later)).seats i ≡ some seat) (sym w.1) at) w.3) m g

  pub early_ended : (o n k : ℕ) → Fate (plan_of script) NoOld rested rested_views o n k → Ended (plan_of script) NoOld rested rested_views o n k
  early_ended o n k (inl w) = absurd (subst (Works (plan_of script) NoOld o n k) (rested_mode w.0 w.1 w.3 w.5 w.6) w.8)
  early_ended o n k (inr e) = e

  -- ## The ending

  rested_free : AllFree (plan_of script).requests rested
  rested_free j seat at = let v = elem_there rested.seats rested_views j seat rest_sound.each at in let x = played_fates.stands j seat v.0 at v.1 in
      subst (λ m. Goes (plan_of script).requests m seat.program) (rested_mode j seat at x.0 x.1) x.1

  ended_free : AllFree (plan_of script).requests is.ended
  ended_free j seat at = dite (ℕ_discrete j 0)
      (λ z. subst (Goes (plan_of script).requests Free) (sym (seat_rests is.ended (closed_ahead script made.are (first_views script) (start script made turns core is) (go script made turns core is) turns core is (fitting script made turns core is)) j (subst (IsAtRest is.ended) (sym z) is.is_over) seat at)) tt)
      (λ far. let same = others_along (plan_of script) goes j 0 far is.last (closing_of script turns core is) rested_views close_sound
      (end_answered script made.are (first_views script) (start script made turns core is) (go script made turns core is) turns core is (fitting script made turns core is)) (fitting script made turns core is).of_closing in
      rested_free j seat (sym (set_else (played script is.setup (is.scheduled ++ is.later)).seats 0 j _ far) ∙ (sym same.0 ∙ (sym (ap (λ (d : Core). get_elem? d.seats j) is.is_ended) ∙ at))))

  abbrev Past : ℕ → ℕ → Type 0
  Past i h = h < vref_version (get_or is.ended.words (ref_index i) 0)

  abbrev Late : Core → List View → List Moment → Type 0
  Late c vs ms = Behind (plan_of script) Past goes (Lives (plan_of script) is.ended Any) (λ c vs m s a f h. lives_ticks (plan_of script) is.ended Any c vs m s a f (λ k there. tt) h)
      (λ c vs h id inside same old. let l = h.later (socket_id_slot id) inside in let z : ⊥ = omega (arith, l, same, old) in z) c vs ms

  late_fates : Late is.ended closed_views is.final
  late_fates = run_fates (plan_of script) Past goes (Lives (plan_of script) is.ended Any) (λ c vs m s a f h. lives_ticks (plan_of script) is.ended Any c vs m s a f (λ k there. tt) h)
      (λ c vs h id inside same old. let l = h.later (socket_id_slot id) inside in let z : ⊥ = omega (arith, l, same, old) in z) is.final is.ended closed_views over_sound is.answered_again (fitting script made turns core is).of_final
      (record { later = λ i inside. omega arith; links = λ i h k inside given. inr tt }) (λ j seat v at at_view. (Free, ended_free j seat at, tt))

  abbrev IsLate : ℕ → Type 0
  IsLate k = In k (late_links_of_run script turns core is)

  -- in the end each life that wasn't past has a late link
  late_lives : Lives (plan_of script) is.ended IsLate core end_views
  late_lives = subst (λ d. Lives (plan_of script) is.ended IsLate d end_views) (sym is.is_end) (lives_along (plan_of script) is.ended IsLate goes is.final is.ended closed_views over_sound is.answered_again (fitting script made turns core is).of_final (λ k there. there)
      (record { later = λ i inside. omega arith; links = λ i h k inside given. inl (ended_past script made turns core is i h k inside given) }))

  -- seat 0 stores no at word while it closes what was opened
  none_closes : (x : Store) → In x (shown_in stored_at (plan_of script) (closing_of script turns core is) (replicate is.last (quiet 0))) → ⊥
  none_closes x at = none_closing (plan_of script) is.last (closing_of script turns core is)
      (let seat = at_there rested.seats 0 some_ in (_, set_first rested.seats seat.0 _ seat.1, subst OnSockets (sym (alone (waiting_at rested.calls.waiting 0) (ending_of (opens script)) (closing.ending_goes (opens script)))) (closing.ending_goes (opens script)))) x at
    where
      some_ : 0 < length (played script is.setup (is.scheduled ++ is.later)).seats
      some_ = let m = many script made turns core is in omega (arith, m)

  -- what was accepted before the ending still is
  entered_on : (o n : ℕ) → Entered o n rested_views → Entered o n end_views
  entered_on o n e = run_entered (plan_of script) goes is.final is.ended closed_views over_sound is.answered_again (fitting script made turns core is).of_final o n
      (run_entered (plan_of script) goes (replicate is.last (quiet 0)) (closing_of script turns core is) rested_views close_sound
      (end_answered script made.are (first_views script) (start script made turns core is) (go script made turns core is) turns core is (fitting script made turns core is)) (fitting script made turns core is).of_closing o n e)

  -- and a request that was found taken was used
  taken_on : (id r found : ℕ) → IsSo (plan_of script) rested rested_views (DidStep (OnChain (ClaimRequest id r)) found) → IsSo (plan_of script) core end_views (DidStep (OnChain (ClaimRequest id r)) found)
  taken_on id r found so = subst (λ c. IsSo (plan_of script) c end_views (DidStep (OnChain (ClaimRequest id r)) found)) (sym is.is_end)
      (run_keeps (plan_of script) goes is.final is.ended closed_views over_sound is.answered_again (fitting script made turns core is).of_final (DidStep (OnChain (ClaimRequest id r)) found) at_end)
    where
      closed : IsSo (plan_of script) (run (plan_of script) (closing_of script turns core is) (replicate is.last (quiet 0))) (views_closed script turns core is (first_views script)) (DidStep (OnChain (ClaimRequest id r)) found)
      closed = run_keeps (plan_of script) (go script made turns core is) (replicate is.last (quiet 0)) (closing_of script turns core is) (views_played script turns core is (first_views script))
          (closing_sound script made.are (first_views script) (start script made turns core is) (go script made turns core is) turns core is (fitting script made turns core is))
          (end_answered script made.are (first_views script) (start script made turns core is) (go script made turns core is) turns core is (fitting script made turns core is)) (fitting script made turns core is).of_closing (DidStep (OnChain (ClaimRequest id r)) found) so

      at_end : IsSo (plan_of script) is.ended (views_closed script turns core is (first_views script)) (DidStep (OnChain (ClaimRequest id r)) found)
      at_end = subst (λ c. IsSo (plan_of script) c (views_closed script turns core is (first_views script)) (DidStep (OnChain (ClaimRequest id r)) found)) (sym is.is_ended) closed

  -- ## In the end

  module _ (closes : ClosesInRun script turns core is) where
    abbrev Stands : ℕ → ℕ → ℕ → Type 0
    Stands o n k = StandsOn (plan_of script) (all_tasks script) core.outcomes (fixed_of_run script made turns core is closes) (gave_of_run script made turns core is closes) (orders_here script made turns core is closes) o n k

    abbrev Full : Type 0
    Full = WasFull (plan_of script) (all_tasks script) core.outcomes (fixed_of_run script made turns core is closes) (gave_of_run script made turns core is closes) (orders_here script made turns core is closes)

    -- why the reader of link k may end the call by attempt n of operation o, whose at word names the link
    abbrev pub Lost : ℕ → ℕ → ℕ → Type 0
    Lost o n k = IsFailing (plan_of script) (all_tasks script) core.outcomes (fixed_of_run script made turns core is closes) (gave_of_run script made turns core is closes) (orders_here script made turns core is closes) k
        ⊎ (StandsOn (plan_of script) (all_tasks script) core.outcomes (fixed_of_run script made turns core is closes) (gave_of_run script made turns core is closes) (orders_here script made turns core is closes) o n k
        ⊎ (IsUnordered (plan_of script) (all_tasks script) core.outcomes (fixed_of_run script made turns core is closes) (gave_of_run script made turns core is closes) (orders_here script made turns core is closes) o n
        × WasFull (plan_of script) (all_tasks script) core.outcomes (fixed_of_run script made turns core is closes) (gave_of_run script made turns core is closes) (orders_here script made turns core is closes)))

    open told_end script made turns core is closes use {told_run, told_story, told_seats, end_sound, rests}

    -- what was accepted stands on some link
    pub entered_stands : (o n : ℕ) → Entered o n end_views → (l : ℕ) × Stands o n l
    entered_stands o n (i, v, at, (l, e, in_l, in_e, own, attempt)) =
        let made_ = each_made (plan_of script) (told_tasks_of script) told_seats true core end_views told_run.after.events told_run.after.lost end_sound told_story rests i v at in
        let there = at_of made_.0 e (subst (λ z. In e z) (one_list l made_.0 (subst (In l) made_.1 in_l)) in_e) in
        let y = sent_stands (plan_of script) core end_views end_sound.lawful i there.0 e (record { view = v; here = at; made = made_.0; lists = made_.1; stands = there.1 }) in
        (e.link, (y.1, (y.0, accepted_of e, y.2, own, attempt)))
      where
        one_list : (l m : List Entry) → In l (m ∷ []) → l ≡ m
        one_list l m (inl same) = same
        one_list l m (inr z) = absurd z

    full : AreTaken (plan_of script) NoOld core end_views (plan_of script).requests → Full
    full taken = requests_used (plan_of script) core end_views end_sound.lawful (quiet_there (plan_of script) core end_views end_sound rests) (λ q low e. let t = taken q low in let s = (t.3 t.2).1 in omega (arith, s, e))

    -- where it was refused, no link accepted it, or this one did
    module _ (o n k : ℕ) (only : (l : ℕ) → Stands o n l → l ≡ k) where
      of_full : AreTaken (plan_of script) NoOld core end_views (plan_of script).requests → Lost o n k
      of_full taken = dite (dec_le (plan_of script).links k) (λ high. inr (inr (λ l s. (let e = only l s in let low = s.1.0 in let z : ⊥ = omega (arith, high, e, low) in z), full taken)))
          (λ low. ⊎_elim (λ t. inr (inl (t.0, (omega (arith, low), t.1, t.2, t.3, t.4))))
          (λ none_. inr (inr (λ l s. none_ (subst (λ z. IsThere o n (orders_here script made turns core is closes z).accepted) (only l s) (s.0, s.1.1, s.1.2, s.1.3, s.1.4)), full taken)))
          (find o n (orders_here script made turns core is closes k).accepted))

      of_entered : Entered o n end_views → Lost o n k
      of_entered e = let s = entered_stands o n e in inr (inl (subst (Stands o n) (only s.0 s.1) s.1))

      of_late : Fate (plan_of script) Past core end_views o n k → Lost o n k
      of_late (inl w) = absurd (subst (Works (plan_of script) Past o n k) (rests_free (plan_of script).requests w.5 (subst (Goes (plan_of script).requests w.5) (rests w.0 w.1 w.3) w.6)) w.8)
      of_late (inr (inl e)) = of_entered e
      of_late (inr (inr (inl l))) = ⊎_elim (λ past. absurd (l.5 past)) (λ late. inl (inr (inr (inr (in_contains (late_links_of_run script turns core is) k late)))))
          (late_lives.links (socket_id_slot l.0) (socket_id_version l.0) k (l.3 l.2).0 l.4)
      of_late (inr (inr (inr t))) = of_full t

      of_early : (bytes : List ℕ) → script_of bytes ≡ Ok script → Ended (plan_of script) NoOld rested rested_views o n k → Lost o n k
      of_early bytes reads (inl e) = of_entered (entered_on o n e)
      of_early bytes reads (inr (inl l)) = inl (failing_of_run script made turns core is closes bytes reads k
          (record { slot = socket_id_slot l.0; version = socket_id_version l.0; life = record { inside = (l.3 l.2).0; given = l.4 }; failed = (l.3 l.2).1 }))
      of_early bytes reads (inr (inr t)) = of_full (λ r low. let x = t r low in (x.0, x.1, x.2, taken_on x.0 r x.1 x.3))

    module _ (bytes : List ℕ) (reads : script_of bytes ≡ Ok script) where
      -- each at word that was stored
      pub stored_lost : (x : Store) → In x (stores_of_run script turns core is) → ((l : ℕ) → Stands x.operation (at_word_attempt x.word) l → l ≡ at_word_link x.word) → Lost x.operation (at_word_attempt x.word) (at_word_link x.word)
      stored_lost x there only = ⊎_elim (λ a. early (played_fates.fates x.operation (at_word_attempt x.word) (at_word_link x.word) (setup_fates.stores x a)))
          (λ b. ⊎_elim (λ a. early (played_fates.stores x a))
          (λ b. ⊎_elim (λ a. absurd (none_closes x a)) (λ a. of_late x.operation (at_word_attempt x.word) (at_word_link x.word) only (subst (λ d. Fate (plan_of script) Past d end_views x.operation (at_word_attempt x.word) (at_word_link x.word)) (sym is.is_end) (late_fates.stores x a)))
          (in_both (shown_in stored_at (plan_of script) (closing_of script turns core is) (replicate is.last (quiet 0))) (shown_in stored_at (plan_of script) is.ended is.final) x b))
          (in_both (shown_in stored_at (plan_of script) (set_up script is.setup) (is.scheduled ++ is.later)) _ x b))
          (in_both (shown_in stored_at (plan_of script) (opened script) (replicate is.setup (quiet 0))) _ x there)
        where
          early : Fate (plan_of script) NoOld (played script is.setup (is.scheduled ++ is.later)) (views_played script turns core is (first_views script)) x.operation (at_word_attempt x.word) (at_word_link x.word) → Lost x.operation (at_word_attempt x.word) (at_word_link x.word)
          early f = of_early x.operation (at_word_attempt x.word) (at_word_link x.word) only bytes reads (early_ended x.operation (at_word_attempt x.word) (at_word_link x.word) f)

-- ## Readers

module _ (script : List Item) (made : AreMade script) (turns : List Turn) (core : Core) (is : IsRunWithCalls script turns core) (closes : ClosesInRun script turns core is) (ids : ℕ → ℕ) (labelled : AreLabelledIn ids script turns core is) (bytes : List ℕ) (reads : script_of bytes ≡ Ok script) where
  -- an at word that tells of an attempt over a link
  on_lost : (o word : ℕ) → IsAttemptOn script made turns core is closes ids labelled o word → Lost script made turns core is closes o (at_word_attempt word) (at_word_link word)
  on_lost o word a = let n_is : a.attempt ≡ at_word_attempt word = word_attempt (id_first (ids o)) (id_slot (ids o)) a.link a.attempt a.small a.few ∙ ap at_word_attempt (sym a.word) in
      let k_is : a.link ≡ at_word_link word = word_link (id_first (ids o)) (id_slot (ids o)) a.link a.attempt a.small a.few ∙ ap at_word_link (sym a.word) in
      stored_lost script made turns core is closes bytes reads (record { operation = o; word = word }) a.stored
      (λ l s. only_link script made turns core is closes ids labelled (run_stored_once script made turns core is closes ids labelled) (fixed_of_run script made turns core is closes) (gave_of_run script made turns core is closes) o word a l
      (subst (λ z. StandsOn (plan_of script) (all_tasks script) core.outcomes (fixed_of_run script made turns core is closes) (gave_of_run script made turns core is closes) (orders_here script made turns core is closes) o z l) (sym n_is) s) ∙ k_is)

  -- where a reader posted an error for an at word, its link was failing, or accepted the attempt, or no link did, and each request was found taken
  pub end_lost : (k o word code : ℕ) (x : Post) → IsEndPost script turns core is k o word code x → Lost script made turns core is closes o (at_word_attempt word) k
  end_lost k o word code x post = let e = ending script made turns core is closes ids labelled in
      subst (λ z. Lost script made turns core is closes o (at_word_attempt word) z) post.link
      (on_lost o word (of_load script made turns core is closes ids labelled o word (e.loads (record { seat = 32 + k; operation = o; word = word }) (contains_in (loads_of_run script turns core is) (record { seat = 32 + k; operation = o; word = word }) post.loaded) post.some_)))
