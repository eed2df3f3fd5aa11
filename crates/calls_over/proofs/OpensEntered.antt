-- Of an attempt whose at word stands where the ending begins a link accepted the message before, or each request was found taken; where no life was failed.
use Rattle.std.proofs.Common.{◌≡◌, ℕ, ◌<◌, ◌⊎◌, inl, inr, ⊎_elim, List, ◌++◌, replicate, sym, ap, ◌∙◌, subst, arith}
use mathlib.Core.Option.{some}
use lib.ListN.{get_elem?}
use Rattle.sock_words.specs.PackedWords.{at_word, at_word_link, at_word_attempt, socket_id_slot, socket_id_version, id_slot, id_first}
use Rattle.sock_model.specs.declared.chain.Entry.{Entry}
use Rattle.sock_model.specs.declared.view.View.{View}
use Rattle.sock_model.specs.Entries.{on}
use Rattle.sock_model.specs.LinksInSlots.{Failed}
use Rattle.brpc_model.specs.Items.{Item}
use Rattle.brpc_model.specs.Operations.{Turn}
use Rattle.seat_programs.specs.Cores.{Core}
use Rattle.seat_programs.specs.ScriptSetupToEnding.{all_tasks, opened, set_up, played, IsRunWithCalls}
use Rattle.seat_programs.specs.Tasks.{plan_of}
use Rattle.seat_programs.specs.Ticks.{quiet}
use Rattle.seat_programs.specs.ExplainedCalls.{Accepted, Fixed, StandsAt, StandsOn}
use Rattle.served_fits.specs.Below.programs_allowed.specs.program_steps.specs.SoundSeats.{state, Sound}
use Rattle.served_fits.specs.Below.programs_allowed.specs.program_walks.proofs.WholeScriptSound.{closing_of, views_played, views_closed, views_ended, end_answered, played_sound, closing_sound, closed_sound, ended_sound}
use Rattle.served_fits.specs.Below.outcome_stories.specs.KeptStory.{IsSpoken}
use Rattle.served_fits.specs.Below.outcome_stories.specs.PlainTasks.{told_tasks_of}
use Rattle.served_fits.specs.Below.outcome_stories.specs.OperationStories.{In}
use Rattle.served_fits.specs.Below.outcome_stories.proofs.Delivered.{accepted_of, accepted_there}
use Rattle.served_fits.specs.Below.outcome_causes.proofs.Final.{at_there}
use Rattle.served_fits.specs.Below.outcome_stories.proofs.Members.{in_contains}
use Rattle.served_fits.specs.Below.outcome_causes.proofs.PlainOutcomeCauses.{in_both, in_left, in_right}
use Rattle.served_fits.specs.Below.joint_runs.proofs.RunsOfBothTables.{AreMade, first_views}
use Rattle.served_fits.specs.Below.call_owing.specs.LivesOfLinks.{ClosesInRun}
use Rattle.served_fits.specs.Below.accept_counts.specs.EndedCalls.{Store, stored_at, stores_of_run}
use Rattle.served_fits.specs.send_causes.proofs.ClosedLost.{setup_fates, played_fates, early_ended}
use Rattle.served_fits.specs.send_causes.proofs.ClosedLostTicks.{AreTaken, Ended, word_link, word_attempt}
use Rattle.served_fits.specs.Below.accept_counts.proofs.EarlyClosedSockets.{start, go, fitting}
use Rattle.served_fits.specs.Below.ended_calls.proofs.EndedAttempts.{all_stored, at_place, spoken_call, own_store}
use Rattle.served_fits.specs.Below.ended_calls.proofs.EndedOnce.{run_stored_once}
use Rattle.served_fits.specs.Below.dropped_calls.proofs.LateRests.{HasNone, played_idle, NoOld}
use Rattle.served_fits.specs.Below.accept_counts.proofs.RunsKeepAttemptLaw.{AreLabelledIn}
use Rattle.served_fits.specs.Below.sent_once.proofs.SocketOperationsTold.{orders_of_run}
use Rattle.calls_over.proofs.OpensHeld.{IsHeld, run_held}
use Rattle.calls_over.proofs.OpensLog.{log, held_logged, logged_held, logged_on}
use Rattle.calls_over.proofs.OpensNamed.{IsEarly}
use Rattle.corr_core.proofs.NoteSums.{at_length}
use Rattle.served_fits.specs.Below.outcome_stories.specs.Facts.{shown_in}

module _ (script : List Item) (made : AreMade script) (turns : List Turn) (core : Core) (is : IsRunWithCalls script turns core) where
  abbrev rested : Core
  rested = played script is.setup (is.scheduled ++ is.later)

  abbrev pub rested_views : List View
  rested_views = views_played script turns core is (first_views script)

  abbrev pub end_views : List View
  end_views = views_ended script turns core is (first_views script)

  pub rested_sound : Sound (plan_of script) (played script is.setup (is.scheduled ++ is.later)) (views_played script turns core is (first_views script))
  rested_sound = played_sound script made.are (first_views script) (start script made turns core is) (go script made turns core is) turns core is (fitting script made turns core is)

  abbrev pub end_sound : Sound (plan_of script) core (views_ended script turns core is (first_views script))
  end_sound = ended_sound script made.are (first_views script) (start script made turns core is) (go script made turns core is) turns core is (fitting script made turns core is)

  -- no seat has a claim or a right there
  pub idle_there : (i : ℕ) (v : View) → get_elem? (views_played script turns core is (first_views script)) i ≡ some v → HasNone v
  idle_there i v at = let seat = at_there rested.seats i (let each = rested_sound.each in let low = at_length rested_views i v at in omega (arith, each, low)) in (played_idle script made turns core is i seat.0 v seat.1 at).1

  -- the log where the ending begins
  abbrev pub early_log : List Entry
  early_log = log (plan_of script) (played script is.setup (is.scheduled ++ is.later)) (views_played script turns core is (first_views script)) rested_sound

  -- and in the end
  abbrev pub late_log : List Entry
  late_log = log (plan_of script) core (views_ended script turns core is (first_views script)) end_sound

  -- what was accepted before the ending still is in the end
  held_on : (e : Entry) → IsHeld e rested_views → IsHeld e end_views
  held_on e h = let s = start script made turns core is in let g = go script made turns core is in let f = fitting script made turns core is in
      run_held e (plan_of script) g is.final is.ended (views_closed script turns core is (first_views script)) (closed_sound script made.are (first_views script) s g turns core is f) is.answered_again f.of_final
      (run_held e (plan_of script) g (replicate is.last (quiet 0)) (closing_of script turns core is) rested_views (closing_sound script made.are (first_views script) s g turns core is f)
      (end_answered script made.are (first_views script) s g turns core is f) f.of_closing h)

  pub logged_later : (q : ℕ) (e : Entry) → get_elem? early_log q ≡ some e → (r : ℕ) × (get_elem? late_log r ≡ some e)
  logged_later q e at = held_logged (plan_of script) core end_views end_sound e (held_on e (logged_held (plan_of script) rested rested_views rested_sound q e at))

  -- it stands on its link in the end
  pub record StandsLater (closes : ClosesInRun script turns core is) (e : Entry) : Type 0 where
    pub low : e.link < (plan_of script).links
    pub place : ℕ
    pub here : get_elem? (on e.link late_log) place ≡ some e
    pub stands : StandsAt (orders_of_run script made turns core is closes) e.link place (accepted_of e)

  pub stands_later : (closes : ClosesInRun script turns core is) (q : ℕ) (e : Entry) → get_elem? early_log q ≡ some e → StandsLater closes e
  stands_later closes q e at = let r = logged_later q e at in let m = logged_on (plan_of script) core end_views end_sound r.0 e r.1 in let o = end_sound.lawful in record {
    low = (o.chains.sized r.0 e r.1).0;
    place = m.0;
    here = m.1;
    stands = accepted_there (on e.link o.log) m.0 e m.1;
  }

  -- ## An attempt

  module _ (closes : ClosesInRun script turns core is) (ids : ℕ → ℕ) (labelled : AreLabelledIn ids script turns core is) (o w : ℕ) (x : IsEarly script turns core is o w) where
    abbrev s₁ : List Store
    s₁ = shown_in stored_at (plan_of script) (opened script) (replicate is.setup (quiet 0))

    abbrev s₂ : List Store
    s₂ = shown_in stored_at (plan_of script) (set_up script is.setup) (is.scheduled ++ is.later)

    in_run : In (record { operation = o; word = w }) (stores_of_run script turns core is)
    in_run = let s₃ = shown_in stored_at (plan_of script) (closing_of script turns core is) (replicate is.last (quiet 0)) in let s₄ = shown_in stored_at (plan_of script) is.ended is.final in
        ⊎_elim (λ a. in_left s₁ (s₂ ++ (s₃ ++ s₄)) (record { operation = o; word = w }) a) (λ a. in_right s₁ (s₂ ++ (s₃ ++ s₄)) (record { operation = o; word = w }) (in_left s₂ (s₃ ++ s₄) (record { operation = o; word = w }) a))
        (in_both s₁ s₂ (record { operation = o; word = w }) x.stored)

    -- its call has the id
    pub own_early : (ids o ≡ x.id) × (x.id ≡ 0 → ⊥)
    own_early = own_store script made turns core is closes ids labelled (record { operation = o; word = w }) in_run x.id x.attempt x.link x.word x.small x.few x.slot

    link_is : x.link ≡ at_word_link w
    link_is = word_link (id_first x.id) (id_slot x.id) x.link x.attempt x.small x.few ∙ ap at_word_link (sym x.word)

    attempt_is : x.attempt ≡ at_word_attempt w
    attempt_is = word_attempt (id_first x.id) (id_slot x.id) x.link x.attempt x.small x.few ∙ ap at_word_attempt (sym x.word)

    -- where the attempt is accepted in the end, it is by the link that the word names
    module _ (fixed : Fixed) (gave : ℕ → List ℕ) where
      abbrev Stands : ℕ → Type 0
      Stands l = StandsOn (plan_of script) (all_tasks script) core.outcomes fixed gave (orders_of_run script made turns core is closes) o x.attempt l

      only_early : (l : ℕ) → Stands l → l ≡ x.link
      only_early l s =
          let a : Accepted = s.1.1 in
          let here = at_place script made turns core is closes ids labelled (λ (a : Accepted). IsSpoken (told_tasks_of script) a.operation → In (record { operation = a.operation; word = at_word (id_first (ids a.operation)) (id_slot (ids a.operation)) l a.attempt }) (stores_of_run script turns core is))
          (orders_of_run script made turns core is closes l).accepted (all_stored script made turns core is closes ids labelled l) s.0 s.1.1 s.1.2 in
          let there : In (record { operation = a.operation; word = at_word (id_first (ids a.operation)) (id_slot (ids a.operation)) l a.attempt }) (stores_of_run script turns core is) =
          here (subst (λ z. IsSpoken (told_tasks_of script) z) (x.operation ∙ sym s.1.3) (spoken_call script made turns core is closes ids labelled x.asked x.called)) in
          let stands : In (record { operation = o; word = at_word (id_first (ids o)) (id_slot (ids o)) l x.attempt }) (stores_of_run script turns core is) =
          subst (λ z. In (record { operation = o; word = at_word (id_first (ids o)) (id_slot (ids o)) l z }) (stores_of_run script turns core is)) s.1.4
          (subst (λ z. In (record { operation = z; word = at_word (id_first (ids z)) (id_slot (ids z)) l a.attempt }) (stores_of_run script turns core is)) s.1.3 there) in
          let low : l < 65535 = (let a = s.1.0 in let b = end_sound.limits in let c = b.links in omega (arith, a, c)) in
          let n_v : x.attempt ≡ at_word_attempt (at_word (id_first (ids o)) (id_slot (ids o)) l x.attempt) = word_attempt (id_first (ids o)) (id_slot (ids o)) l x.attempt low x.few in
          let same : at_word (id_first (ids o)) (id_slot (ids o)) l x.attempt ≡ w = run_stored_once script made turns core is closes ids labelled o (at_word (id_first (ids o)) (id_slot (ids o)) l x.attempt) w
          (in_contains (stores_of_run script turns core is) (record { operation = o; word = at_word (id_first (ids o)) (id_slot (ids o)) l x.attempt }) stands)
          (in_contains (stores_of_run script turns core is) (record { operation = o; word = w }) in_run) (sym n_v ∙ attempt_is) in
          word_link (id_first (ids o)) (id_slot (ids o)) l x.attempt low x.few ∙ (ap at_word_link same ∙ sym link_is)

    -- what became of it
    fate : Ended (plan_of script) NoOld rested rested_views o (at_word_attempt w) (at_word_link w)
    fate = early_ended script made turns core is o (at_word_attempt w) (at_word_link w) (⊎_elim
        (λ a. (played_fates script made turns core is).fates o (at_word_attempt w) (at_word_link w) ((setup_fates script made turns core is).stores (record { operation = o; word = w }) a))
        (λ a. (played_fates script made turns core is).stores (record { operation = o; word = w }) a)
        (in_both s₁ s₂ (record { operation = o; word = w }) x.stored))

    -- the link accepted its message
    pub record IsAccepted : Type 0 where
      pub place : ℕ
      pub entry : Entry
      pub there : get_elem? early_log place ≡ some entry
      pub own : entry.heading.label.operation ≡ o
      pub tried : entry.heading.label.attempt ≡ x.attempt
      pub over : entry.link ≡ x.link

    -- a message of it in the log is that
    pub accepted_so : Fixed → (ℕ → List ℕ) → (q : ℕ) (e : Entry) → get_elem? early_log q ≡ some e → e.heading.label.operation ≡ o → e.heading.label.attempt ≡ x.attempt → IsAccepted
    accepted_so fixed gave q e at own tried = let s = stands_later closes q e at in
        record { place = q; entry = e; there = at; own = own; tried = tried; over = only_early fixed gave e.link (s.place, (s.low, accepted_of e, s.stands, own, tried)) }

    abbrev pub AllTaken : Type 0
    AllTaken = AreTaken (plan_of script) NoOld (played script is.setup (is.scheduled ++ is.later)) (views_played script turns core is (first_views script)) (plan_of script).requests

    pub accepted_or : Fixed → (ℕ → List ℕ) → (Failed (plan_of script) (state (played script is.setup (is.scheduled ++ is.later)) (views_played script turns core is (first_views script))) x.link → ⊥) → IsAccepted ⊎ AllTaken
    accepted_or fixed gave unfailed = by fate
      where
        by : Ended (plan_of script) NoOld rested rested_views o (at_word_attempt w) (at_word_link w) → IsAccepted ⊎ AllTaken
        by (inl (i, v, at, (l, e, in_l, in_e, own, tried))) = let q = held_logged (plan_of script) rested rested_views rested_sound e (i, v, at, (l, in_l, in_e)) in inl (accepted_so fixed gave q.0 e q.1 own (tried ∙ sym attempt_is))
        by (inr (inl l)) = absurd (unfailed (subst (λ k. Failed (plan_of script) (state rested rested_views) k) (sym link_is)
            (record { slot = socket_id_slot l.0; version = socket_id_version l.0; life = record { inside = (l.3 l.2).0; given = l.4 }; failed = (l.3 l.2).1 })))
        by (inr (inr t)) = inr t
