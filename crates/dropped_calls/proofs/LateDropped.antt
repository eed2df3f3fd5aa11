-- In a run with calls a link whose messages were dropped had failed before the ending, or became a socket's while the run was ending.
use Rattle.std.proofs.Common.{◌≡◌, ℕ, zero, suc, ◌+◌, ◌*◌, ◌<◌, ◌≤◌, ◌⊎◌, Bool, true, false, le-leb, leb-true, List, [], ◌∷◌, ◌++◌, length, replicate, get_or, inl, inr, ⊎_elim, refl, sym, ap, ◌∙◌, subst, arith}
use Rattle.std.specs.Prelude.{nat_le, slice_get, slice_index, Some}
use Rattle.std.proofs.lemmas.List.{length-map}
use mathlib.Core.Logic.{dite}
use native.Mathlib.Decide.{dec_le}
use Rattle.sock_words.specs.declared.plain.Plan.{Plan}
use Rattle.sock_model.specs.declared.view.View.{View}
use Rattle.sock_model.specs.Deliveries.{ShownAt, no_place, one_place}
use Rattle.sock_model.specs.Entries.{on}
use Rattle.sock_model.specs.SocketTableLayout.{place_index}
use Rattle.sock_model.specs.LinksInSlots.{Failed}
use Rattle.seat_programs.specs.brpc_model.specs.Items.{Item}
use Rattle.seat_programs.specs.brpc_model.specs.Operations.{Turn}
use Rattle.seat_programs.specs.brpc_model.specs.Script.{script_of}
use Rattle.std.proofs.Common.{Ok}
use Rattle.seat_programs.specs.Cores.{Core}
use Rattle.seat_programs.specs.Tasks.{opens, plan_of}
use Rattle.seat_programs.specs.Ticks.{Moment, quiet}
use Rattle.seat_programs.specs.ScriptSetupToEnding.{all_tasks, played, IsRunWithCalls}
use Rattle.seat_programs.specs.ExplainedCalls.{Accepted, label, IsFailing}
use Rattle.ended_calls.specs.refused_attempts.specs.Below.programs_allowed.specs.program_steps.specs.SoundSeats.{state, Sound, AreFew}
use Rattle.ended_calls.specs.refused_attempts.specs.Below.programs_allowed.specs.sock_runs.proofs.SoundAlongRuns.{seat_rests}
use Rattle.ended_calls.specs.refused_attempts.specs.Below.programs_allowed.specs.program_walks.proofs.WholeScriptSound.{closing_of, views_played, views_closed, views_ended, end_answered, played_sound, closing_sound, closed_sound, ended_sound, rested_ahead, rested_idle}
use Rattle.ended_calls.specs.refused_attempts.specs.Below.outcome_stories.specs.Facts.{late_links_of_run}
use Rattle.ended_calls.specs.refused_attempts.specs.Below.outcome_stories.specs.OperationStories.{In}
use Rattle.ended_calls.specs.refused_attempts.specs.Below.outcome_stories.proofs.Members.{get_there, in_contains}
use Rattle.ended_calls.specs.refused_attempts.specs.Below.joint_runs.proofs.BothTablesSound.{AreBounded}
use Rattle.ended_calls.specs.refused_attempts.specs.Below.joint_runs.proofs.RunsOfBothTables.{AreMade, first_views, joint_runs, joint_bounded}
use Rattle.ended_calls.specs.refused_attempts.specs.Below.call_owing.specs.LivesOfLinks.{ClosesInRun}
use Rattle.ended_calls.specs.refused_attempts.specs.sent_once.proofs.OtherTasksBesideCalls.{gave_of_run, fixed_of_run, orders_here, failing_of_run}
use Rattle.ended_calls.specs.refused_attempts.specs.sent_once.proofs.Dropped.{ending_begins, ending_places, log_small}
use Rattle.ended_calls.specs.refused_attempts.specs.accept_counts.proofs.EarlyClosedSockets.{start, go, fitting}
use Rattle.dropped_calls.proofs.LateEnding.{ended_past}
use Rattle.dropped_calls.proofs.LateLooks.{Idle}
use Rattle.dropped_calls.proofs.LatePlaces.{IsEnding, ending_along}
use Rattle.dropped_calls.proofs.LateRests.{none_stands, ended_idle}
use Rattle.dropped_calls.proofs.LateLives.{WasPast}
use Rattle.ended_calls.specs.refused_attempts.specs.sent_once.proofs.SocketOperationsTold.{orders_are}
use Rattle.ended_calls.specs.refused_attempts.specs.Below.sock_steps.proofs.Positions.{on_shorter}
use Rattle.ended_calls.specs.refused_attempts.specs.Below.programs_allowed.specs.program_steps.specs.TicksLeftAtMost.{MOST_TICKS}
use Rattle.corr_core.proofs.NoteSums.{at_length}
use Rattle.sock_words.specs.PackedWords.{place_word}

-- a place word tells that the message at this position of the link was dropped: then the link had failed
failed_here : (p : Plan) (c : Core) (vs : List View) (sound : Sound p c vs) → AreFew vs → (l k position : ℕ) → l < 8 * p.operations → k < p.links → position < 2147483648 → get_or c.words (place_index p l) 0 ≡ place_word true k position → Failed p (state c vs) k
failed_here p c vs sound few l k position low kl small word = by_shown (sound.lawful.delivered.shown l low)
  where
    by_shown : ShownAt p.links (λ l. slice_index c.words (place_index p l)) sound.lawful.log sound.lawful.places sound.lawful.kept l → Failed p (state c vs) k
    by_shown (no_place z none_) = absurd (let e : get_or c.words (place_index p l) 0 ≡ 0 = z in omega (arith, e, word))
    by_shown (one_place j i e jl il at is w) = by (nat_le (sound.lawful.kept j) i) refl w
      where
        others : i < 2147483648
        others = let s = log_small p c vs sound few in let o = on_shorter j sound.lawful.log in let n = at_length (on j sound.lawful.log) i e at in omega (arith, s, o, n)

        by : (b : Bool) → nat_le (sound.lawful.kept j) i ≡ b → get_or c.words (place_index p l) 0 ≡ place_word b j i → Failed p (state c vs) k
        by true le w = let one : j ≡ k = (let y = others in omega (arith, word, w, small, y)) in subst (Failed p (state c vs)) one (sound.lawful.delivered.failed j jl (let less = leb-true (sound.lawful.kept j) i le in omega (arith, less, il)))
        by false le w = absurd (let y = others in let few_links = sound.limits.links in omega (arith, word, w, small, y, few_links, jl))

-- and such a word tells of one link
same_link : (d : Bool) (j k i n : ℕ) → j < 256 → i < 4294967295 → n < 2147483648 → place_word d j i ≡ place_word true k n → j ≡ k
same_link true j k i n few small less e = omega (arith, small, less, e)
same_link false j k i n few small less e = absurd (let z : ⊥ = omega (arith, few, small, less, e) in z)

module _ (script : List Item) (made : AreMade script) (turns : List Turn) (core : Core) (is : IsRunWithCalls script turns core) where
  abbrev IsLate : ℕ → Type 0
  IsLate k = In k (late_links_of_run script turns core is)

  -- where the links that become sockets' still have to
  begun : IsEnding (plan_of script) is.ended IsLate is.ended (views_closed script turns core is (first_views script))
  begun = record {
    lives = record { later = λ i inside. omega arith; links = λ i h k inside given. inl (ended_past script made turns core is i h k inside given) };
    stands = λ j seat v at at_view. let x = ended_idle script made turns core is j seat v at at_view in (Idle, x.0, none_stands (plan_of script) IsLate (WasPast (plan_of script) is.ended IsLate) v x.1);
    places = λ l low. inl refl;
  }

  bounded : AreBounded (plan_of script) (MOST_TICKS + 20 * length (opens script)) is.ended (views_closed script turns core is (first_views script)) is.final
  bounded = let b = joint_bounded script turns core is made (joint_runs script turns core is made) in b.final

  over : IsEnding (plan_of script) is.ended IsLate core (views_ended script turns core is (first_views script))
  over = let f = fitting script made turns core is in subst (λ d. IsEnding (plan_of script) is.ended IsLate d (views_ended script turns core is (first_views script))) (sym is.is_end)
      (ending_along (plan_of script) is.ended IsLate (go script made turns core is) (MOST_TICKS + 20 * length (opens script)) is.final is.ended (views_closed script turns core is (first_views script))
      (closed_sound script made.are (first_views script) (start script made turns core is) (go script made turns core is) turns core is (fitting script made turns core is)) is.answered_again f.of_final bounded (λ k there. there) begun)

  -- seat 0 changes no place word while it makes the ending
  ended_places : (l : ℕ) → l < 8 * (plan_of script).operations → get_or is.ended.words (place_index (plan_of script) l) 0 ≡ get_or (played script is.setup (is.scheduled ++ is.later)).words (place_index (plan_of script) l) 0
  ended_places l low = let f = fitting script made turns core is in let g = go script made turns core is in let s = start script made turns core is in
      ap (λ (d : Core). get_or d.words (place_index (plan_of script) l) 0) is.is_ended
      ∙ ending_places (plan_of script) g l low is.last (closing_of script turns core is) (views_played script turns core is (first_views script)) (closing_sound script made.are (first_views script) s g turns core is f) (end_answered script made.are (first_views script) s g turns core is f) f.of_closing
      (ending_begins (plan_of script) (played script is.setup (is.scheduled ++ is.later)) (views_played script turns core is (first_views script)) (opens script) (played_sound script made.are (first_views script) s g turns core is f)
      (λ seat at. seat_rests (played script is.setup (is.scheduled ++ is.later)) (rested_ahead script made.are (first_views script) s g turns core is f) 0 (rested_idle script made.are (first_views script) s g turns core is f) seat at))

  -- a place word that tells of a dropped message is as old as the ending, or tells of a late link
  dropped_word : (l k n : ℕ) → l < 8 * (plan_of script).operations → k < (plan_of script).links → n < 2147483648 → get_or core.words (place_index (plan_of script) l) 0 ≡ place_word true k n
      → Failed (plan_of script) (state (played script is.setup (is.scheduled ++ is.later)) (views_played script turns core is (first_views script))) k ⊎ In k (late_links_of_run script turns core is)
  dropped_word l k n low kl small word = ⊎_elim
      (λ same. inl (failed_here (plan_of script) (played script is.setup (is.scheduled ++ is.later)) (views_played script turns core is (first_views script)) sound (first_few (replicate is.last (quiet 0)) (MOST_TICKS + 20 * length (opens script)) (let b = joint_bounded script turns core is made (joint_runs script turns core is made) in b.closing)) l k n low kl small
      (sym (same ∙ ended_places l low) ∙ word)))
      (λ late. inr (subst IsLate (same_link late.dropped late.link k late.position n (let inside = late.inside in let few = sound.limits.links in omega (arith, inside, few)) late.small small (sym late.is ∙ word)) late.late))
      (over.places l low)
    where
      sound : Sound (plan_of script) (played script is.setup (is.scheduled ++ is.later)) (views_played script turns core is (first_views script))
      sound = played_sound script made.are (first_views script) (start script made turns core is) (go script made turns core is) turns core is (fitting script made turns core is)

      first_few : (ms : List Moment) (most : ℕ) → AreBounded (plan_of script) most (closing_of script turns core is) (views_played script turns core is (first_views script)) ms → AreFew (views_played script turns core is (first_views script))
      first_few [] most b = b.few
      first_few (m ∷ ms) most b = let x = b.0 in x.few

  module _ (closes : ClosesInRun script turns core is) (bytes : List ℕ) (reads : script_of bytes ≡ Ok script) where
    -- a link that dropped a message is failing
    pub dropped_of_run : (k : ℕ) → k < (plan_of script).links → (orders_here script made turns core is closes k).placed < length (orders_here script made turns core is closes k).accepted
        → IsFailing (plan_of script) (all_tasks script) core.outcomes (fixed_of_run script made turns core is closes) (gave_of_run script made turns core is closes) (orders_here script made turns core is closes) k
    dropped_of_run k kl less = dite (dec_le (8 * (plan_of script).operations) (label a.0)) (λ high. absurd (outside high))
        (λ low. ⊎_elim (λ failed. failing_of_run script made turns core is closes bytes reads k failed) (λ late. inr (inr (inr (in_contains (late_links_of_run script turns core is) k late))))
        (dropped_word (label a.0) k i (omega (arith, low)) kl place_low word))
      where
        i : ℕ
        i = (orders_here script made turns core is closes k).placed

        a : (x : Accepted) × (slice_get (orders_here script made turns core is closes k).accepted (orders_here script made turns core is closes k).placed ≡ Some x)
        a = get_there (orders_here script made turns core is closes k).accepted (orders_here script made turns core is closes k).placed less

        word : get_or core.words (place_index (plan_of script) (label a.0)) 0 ≡ place_word true k (orders_here script made turns core is closes k).placed
        word = let are = orders_are script made turns core is closes in are.written k (orders_here script made turns core is closes k).placed a.0 kl a.1
            ∙ ap (λ b. place_word b k (orders_here script made turns core is closes k).placed) (le-leb (orders_here script made turns core is closes k).placed (orders_here script made turns core is closes k).placed (omega arith))

        sound : Sound (plan_of script) core (views_ended script turns core is (first_views script))
        sound = ended_sound script made.are (first_views script) (start script made turns core is) (go script made turns core is) turns core is (fitting script made turns core is)

        beyond : (xs : List ℕ) (n : ℕ) → length xs ≤ n → get_or xs n 0 ≡ 0
        beyond [] n low = refl
        beyond (x ∷ xs) zero low = absurd (let z : ⊥ = omega (arith, low) in z)
        beyond (x ∷ xs) (suc n) low = beyond xs n (omega (arith, low))

        outside : 8 * (plan_of script).operations ≤ label a.0 → ⊥
        outside high = let sized = sound.lawful.references.sized in let z = beyond core.words (place_index (plan_of script) (label a.0)) (omega (arith, sized, high)) in omega (arith, z, word)

        place_low : (orders_here script made turns core is closes k).placed < 2147483648
        place_low = let b = joint_bounded script turns core is made (joint_runs script turns core is made) in let over_ = b.over in
            let s = log_small (plan_of script) core (views_ended script turns core is (first_views script)) sound over_.few in let o = on_shorter k sound.lawful.log in let m = length-map (on k sound.lawful.log) Rattle.ended_calls.specs.refused_attempts.specs.Below.outcome_stories.proofs.Delivered.accepted_of in omega (arith, s, o, m, less)
