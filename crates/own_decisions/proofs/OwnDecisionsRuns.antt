-- Along the ticks of a run: errors that wait were posted before, and each seat decides on its own, but for those that are for the whole call.
use Rattle.std.proofs.Common.{◌≡◌, ◌≢◌, ℕ, zero, suc, ◌<◌, ◌≤◌, ◌==◌, ◌⊎◌, inl, inr, ⊎_elim, Bool, true, false, cond, eqb-true, append_assoc, List, [], ◌∷◌, ◌++◌, map, replicate, refl, sym, ap, ◌∙◌, subst, arith}
use Rattle.std.proofs.lemmas.List.{length-map, append-nil}
use mathlib.Core.Option.{some}
use lib.ListN.{get_elem?}
use Rattle.sock_words.specs.declared.plain.Plan.{Plan}
use Rattle.sock_model.specs.declared.home.Home.TheVariants.{Empty, Link, Message}
use Rattle.sock_model.specs.declared.view.View.{View}
use Rattle.corr_core.specs.IdSlotWord.{error_of, attempt_of}
use Rattle.corr_core.specs.declared.marks.Plan.{Plan as IdPlan}
use Rattle.corr_core.specs.EndedByRangeOrAttempt.{WHOLE}
use Rattle.seat_programs.specs.id_rule.specs.LawfulIdTable.{at_index}
use Rattle.sent_once.specs.Below.id_runs.specs.HeldIdTokens.{IdView}
use Rattle.sent_once.specs.Below.id_runs.specs.Goes.{SoundIds}
use Rattle.sent_once.specs.Below.id_runs.proofs.IdRuleOpening.{unused}
use Rattle.sent_once.specs.Below.programs_allowed.proofs.WordsAtBeginning.{no_message}
use Rattle.sock_message.specs.Asked.{Asked}
use Rattle.sock_model.specs.declared.chain.Heading.{Heading}
use Rattle.seat_programs.specs.declared.task.Sizes.{Sizes}
use Rattle.seat_programs.specs.declared.task.Task.{Task}
use Rattle.seat_programs.specs.ClientProgram.{client_from}
use Rattle.seat_programs.specs.Cores.{Core, SeatState, resolved, next_step}
use Rattle.seat_programs.specs.Programs.{Program, Say, Sent, Keep, Retries}
use Rattle.seat_programs.specs.ScheduledRuns.{IsAtRest}
use Rattle.seat_programs.specs.ScriptSetupToEnding.{opening_homes, programs, readers_from, all_programs, beginning}
use Rattle.seat_programs.specs.Ticks.{Moment, quiet, ticked, run}
use Rattle.sent_once.specs.Below.programs_allowed.specs.program_steps.specs.SoundSeats.{IsAhead, views_after}
use Rattle.sent_once.specs.Below.programs_allowed.specs.sock_runs.proofs.SoundAlongRuns.{seat_rests, ticked_ahead}
use Rattle.sent_once.specs.Below.programs_allowed.specs.program_walks.proofs.OpenedLivesRecorded.{mapped}
use Rattle.sent_once.specs.Below.programs_allowed.specs.sock_runs.proofs.Quiets.{ticked_rests}
use Rattle.sent_once.specs.Below.joint_runs.proofs.BothTablesSound.{BothSound, AreBoth}
use Rattle.sent_once.specs.Below.call_stories.specs.Decided.{posted_by, Decision, decided_at, decided_by}
use Rattle.sent_once.specs.Below.call_stories.specs.LinkReadingLists.{times, advanced_at}
use Rattle.sent_once.specs.Below.call_stories.specs.PostsOfRun.{Post, posted_at}
use Rattle.sent_once.specs.Below.call_stories.specs.Says.{Mark}
use Rattle.sent_once.specs.Below.call_stories.specs.Scenes.{Birth, Scene, LeadsTo, CauseOf, of_expiry, of_other}
use Rattle.sent_once.specs.Below.call_stories.specs.CallStories.{IsCurrent, CallStory}
use Rattle.sent_once.specs.Below.story_ticks.proofs.Claiming.{HaveSlots}
use Rattle.sent_once.specs.Below.call_stories.proofs.LeadingBytesGiven.{run_leads}
use Rattle.sent_once.specs.Below.story_steps.proofs.NumberedTasks.{AreNumbered}
use Rattle.sent_once.specs.Below.call_causes.proofs.RunOfCallStory.{Story, one_tick, in_either}
use Rattle.sent_once.specs.accept_counts.proofs.ProgramsAtBeginning.{all_begin}
use Rattle.sent_once.specs.accept_counts.specs.AttemptCounts.{word_of_id}
use Rattle.sent_once.specs.Below.id_runs.specs.Goes.{HandFits, HomesFit}
use Rattle.own_decisions.proofs.OwnDecisionsPrograms.{client_goes, reader_goes}
use Rattle.own_decisions.proofs.OwnDecisionsStands.{Stand, Calm, Aims}
use Rattle.own_decisions.proofs.OwnDecisionsTicks.{of_stand, IsPast, StandFits, HeadFits, AimLaw, QueuedAt, AreQueued, law_more, aim_ticks, decided_own}
use Rattle.sent_once.specs.Below.story_steps.proofs.AttemptsBehindAsides.{in_front}
use Rattle.sent_once.specs.accept_counts.proofs.RunsKeepAttemptLaw.{none_waits}
use Rattle.sent_once.specs.Below.outcome_stories.specs.OperationStories.{In}
use Rattle.sock_words.specs.PackedWords.{call_id, id_slot, id_first}
use Rattle.sock_words.specs.Totals.{total}
use Rattle.sent_once.specs.Below.outcome_stories.specs.Facts.{shown_in}

-- ## Lists

pub in_right : {A : Type 0} (x : A) (xs ys : List A) → In x ys → In x (xs ++ ys)
in_right x [] ys there = there
in_right x (z ∷ xs) ys there = inr (in_right x xs ys there)

-- ## Errors that wait

-- before each of these ticks, with these errors posted before
abbrev pub AllQueued : IdPlan → Plan → List Post → Core → List Moment → Type 0
AllQueued q p posted c [] = Unit {0}
AllQueued q p posted c (m ∷ ms) = AreQueued q (λ x. In x posted) c × AllQueued q p (posted ++ posted_at c m) (ticked p c m) ms

queued_more : (q : IdPlan) (Taken Taken' : Post → Type 0) (c : Core) → ((x : Post) → Taken x → Taken' x) → AreQueued q Taken c → AreQueued q Taken' c
queued_more q Taken Taken' c f known k inside some_ = let z = known k inside some_ in (
  λ waits. ⊎_elim (λ whole. inl whole) (λ x. inr (f (record { id = call_id k (word_of_id c.calls.words k).first; error = (word_of_id c.calls.words k).oldest }) x)) (z.0 waits),
  λ n less. let y = z.1 n less in (y.0, f (record { id = call_id k (word_of_id c.calls.words k).first; error = error_of y.0 n }) y.1),
)

module _ (p : Plan) (q : IdPlan) (clients : List (List Task)) (gives : ℕ → List ℕ) (numbered : AreNumbered p q clients gives) (slots : HaveSlots p q clients gives) (small : q.slots ≤ 65536) where
  module _ (w : Scene) (ms : List Mark) (story : CallStory p q clients gives w ms) (us : List IdView) (ids : SoundIds p q w.core us) (k : ℕ) (inside : k < q.slots) (some_ : 0 < (word_of_id w.core.calls.words k).state) where
    waits_so : (id e : ℕ) → CauseOf p q clients gives w id e → (attempt_of e ≡ WHOLE) ⊎ In (record { id = id; error = e }) w.posts
    waits_so id e (of_expiry asked is born expired) = inl (let z : attempt_of (error_of 1008 7) ≡ 7 = omega arith in ap attempt_of is ∙ z)
    waits_so id e (of_other code own posted) = inr posted

    low : (word_of_id w.core.calls.words k).first ≤ 67108856
    low = (ids.rule.slots k inside).first_low

    slot_is : id_slot (call_id k (word_of_id w.core.calls.words k).first) ≡ k
    slot_is = let small = low in omega (arith, small)

    first_is : id_first (call_id k (word_of_id w.core.calls.words k).first) ≡ (word_of_id w.core.calls.words k).first
    first_is = let small = low in omega (arith, small)

    born : (asked : Asked) × In (record { id = call_id k (word_of_id w.core.calls.words k).first; asked = asked }) w.births
    born = let births = story.births in births.alive k inside some_

    abbrev birth : Birth
    birth = record { id = call_id k (word_of_id w.core.calls.words k).first; asked = born.0 }

    current : IsCurrent w birth
    current = let births = story.births in let b = births.born birth born.1 in let wide = b.1 in ⊎_elim
        (λ passed. absurd (let here : (word_of_id w.core.calls.words (id_slot birth.id)).first ≡ (word_of_id w.core.calls.words k).first = ap (λ j. (word_of_id w.core.calls.words j).first) slot_is in let first = first_is in omega (arith, passed, here, first, wide)))
        (λ z. z) b.3

    advances : (word_of_id w.core.calls.words k).attempt ≡ times born.0.operation w.advances
    advances = let births = story.births in sym (ap (λ j. (word_of_id w.core.calls.words j).attempt) slot_is) ∙ births.attempts birth born.1 current

    given_up : (n : ℕ) → n < (word_of_id w.core.calls.words k).attempt → (code : ℕ) × In (record { id = call_id k (word_of_id w.core.calls.words k).first; error = error_of code n }) w.posts
    given_up n less = let births = story.births in let a = births.advanced birth born.1 n (let is = advances in omega (arith, is, less)) in (a.0, a.1)

    queued : QueuedAt (λ x. In x w.posts) k (word_of_id w.core.calls.words k)
    queued = let births = story.births in (λ waits. waits_so (call_id k (word_of_id w.core.calls.words k).first) (word_of_id w.core.calls.words k).oldest ((births.errors k inside some_).0 waits), given_up)

  story_queued : (posted : List Post) (shown : List ℕ) (c : Core) (vs : List View) → BothSound p q c vs → Story p q clients gives numbered slots small posted shown c → AreQueued q (λ x. In x posted) c
  story_queued posted shown c vs both h = queued_more q (λ x. In x h.2.scene.posts) (λ x. In x posted) c (λ x there. h.3 x (subst (In x) h.2.shown_posts there))
      (subst (λ d. AreQueued q (λ x. In x h.2.scene.posts) d) h.2.is (λ k inside some_. queued h.2.scene h.2.marks h.2.story both.id_views (subst (λ d. SoundIds p q d both.id_views) (sym h.2.is) both.ids) k inside some_))

  -- ticks of seat 0
  pub setup_queued : (n : ℕ) (posted : List Post) (shown : List ℕ) (c : Core) (vs : List View) → AreBoth p q c vs (replicate n (quiet 0)) → LeadsTo p q clients gives (run p c (replicate n (quiet 0))) → Story p q clients gives numbered slots small posted shown c → AllQueued q p posted c (replicate n (quiet 0))
  setup_queued zero posted shown c vs are lead h = tt
  setup_queued (suc n) posted shown c vs are lead h = (
    story_queued posted shown c vs are.0 h,
    setup_queued n (posted ++ posted_at c (quiet 0)) (shown ++ advanced_at c (quiet 0)) (ticked p c (quiet 0)) (views_after p c vs (quiet 0)) are.2 lead
        (one_tick p q clients gives numbered slots small posted shown c vs (quiet 0) are.0 are.1 (λ other. absurd (other refl)) (run_leads p q clients gives (replicate n (quiet 0)) (ticked p c (quiet 0)) lead) h),
  )

  -- ticks behind seat 0, which has no step left
  pub played_queued : (ms : List Moment) (posted : List Post) (shown : List ℕ) (c : Core) (vs : List View) → AreBoth p q c vs ms → IsAhead c → IsAtRest c 0 → LeadsTo p q clients gives (run p c ms) → Story p q clients gives numbered slots small posted shown c → AllQueued q p posted c ms
  played_queued [] posted shown c vs are ahead rests lead h = tt
  played_queued (m ∷ ms) posted shown c vs are ahead rests lead h = (
    story_queued posted shown c vs are.0 h,
    played_queued ms (posted ++ posted_at c m) (shown ++ advanced_at c m) (ticked p c m) (views_after p c vs m) are.2 (ticked_ahead p c m ahead) (ticked_rests p c m 0 rests) lead
        (one_tick p q clients gives numbered slots small posted shown c vs m are.0 are.1 (λ _ seat at. seat_rests c ahead 0 rests seat at) (run_leads p q clients gives ms (ticked p c m) lead) h),
  )

-- ## Ticks one after another

module _ (p : Plan) (q : IdPlan) (narrow : q.slots ≤ 65536) where
  -- a decision of seat j on an error that isn't for the whole call is on one that the seat posted
  abbrev pub Owned : (ℕ → Post → Type 0) → (ℕ → List Decision) → (ℕ → List Post) → Type 0
  Owned Mine decisions posts = (j : ℕ) (d : Decision) → In d (decisions j) → attempt_of d.error ≢ WHOLE → Mine j (record { id = d.id; error = d.error }) ⊎ In (record { id = d.id; error = d.error }) (posts j)

  -- behind these ticks
  pub record Along (posted : List Post) (Mine : ℕ → Post → Type 0) (c : Core) (ms : List Moment) : Type 0 where
    pub stands : List Stand
    pub law : AimLaw q (λ x. In x (posted ++ shown_in posted_at p c ms)) (λ j x. Mine j x ⊎ In x (shown_in (posted_by j) p c ms)) (run p c ms) stands
    pub owned : Owned Mine (λ j. shown_in (decided_by j) p c ms) (λ j. shown_in (posted_by j) p c ms)

  pub run_aims : (ms : List Moment) (posted : List Post) (Mine : ℕ → Post → Type 0) (c : Core) (vs : List View) → AreBoth p q c vs ms → AllQueued q p posted c ms → (ss : List Stand) → AimLaw q (λ x. In x posted) Mine c ss → Along posted Mine c ms
  run_aims [] posted Mine c vs are known ss law = record {
    stands = ss;
    law = law_more q (λ x. In x posted) (λ x. In x (posted ++ [])) Mine (λ j x. Mine j x ⊎ ⊥) c ss (λ x there. subst (In x) (append-nil posted) there) (λ j x mine. inl mine) law;
    owned = λ j d none_. absurd none_;
  }
  run_aims (m ∷ ms) posted Mine c vs are known ss law =
      let b = aim_ticks p q narrow (λ x. In x posted) Mine c ss law are.0.id_views are.0.ids m known.0 are.1.fitting_ids in
      let r = run_aims ms (posted ++ posted_at c m) (λ j x. Mine j x ⊎ In x (posted_by j c m)) (ticked p c m) (views_after p c vs m) are.2 known.1 b.0
      (law_more q (λ x. In x posted ⊎ In x (posted_at c m)) (λ x. In x (posted ++ posted_at c m)) (λ j x. Mine j x ⊎ In x (posted_by j c m)) (λ j x. Mine j x ⊎ In x (posted_by j c m)) (ticked p c m) b.0 (λ x there. in_either x posted (posted_at c m) there) (λ j x mine. mine) b.1) in record {
        stands = r.stands;
        law = law_more q (λ x. In x ((posted ++ posted_at c m) ++ shown_in posted_at p (ticked p c m) ms)) (λ x. In x (posted ++ (posted_at c m ++ shown_in posted_at p (ticked p c m) ms)))
            (λ j x. (Mine j x ⊎ In x (posted_by j c m)) ⊎ In x (shown_in (posted_by j) p (ticked p c m) ms)) (λ j x. Mine j x ⊎ In x (posted_by j c m ++ shown_in (posted_by j) p (ticked p c m) ms)) (run p c (m ∷ ms)) r.stands
            (λ x there. subst (In x) (sym (append_assoc posted (posted_at c m) (shown_in posted_at p (ticked p c m) ms))) there) regroup r.law;
        owned = λ j d there own. ⊎_elim (λ now. inl (here j d now own)) (λ later. regroup j (record { id = d.id; error = d.error }) (r.owned j d later own)) (in_either d (decided_by j c m) (shown_in (decided_by j) p (ticked p c m) ms) there);
      }
    where
      regroup : (j : ℕ) (x : Post) → (Mine j x ⊎ In x (posted_by j c m)) ⊎ In x (shown_in (posted_by j) p (ticked p c m) ms) → Mine j x ⊎ In x (posted_by j c m ++ shown_in (posted_by j) p (ticked p c m) ms)
      regroup j x (inl (inl old)) = inl old
      regroup j x (inl (inr now)) = inr (in_front x (posted_by j c m) (shown_in (posted_by j) p (ticked p c m) ms) now)
      regroup j x (inr later) = inr (in_right x (posted_by j c m) (shown_in (posted_by j) p (ticked p c m) ms) later)

      here : (j : ℕ) (d : Decision) → In d (decided_by j c m) → attempt_of d.error ≢ WHOLE → Mine j (record { id = d.id; error = d.error })
      here j d now own = by (m.seat == j) refl now
        where
          by : (b : Bool) → (m.seat == j) ≡ b → In d (cond b (decided_at c m) []) → Mine j (record { id = d.id; error = d.error })
          by true is z = subst (λ k. Mine k (record { id = d.id; error = d.error })) (eqb-true m.seat j is) (decided_own p q narrow (λ x. In x posted) Mine c ss law are.0.id_views are.0.ids m d z own)
          by false is z = absurd z

-- ## How a run begins

pub all_aim : (sizes : Sizes) (cs : List (List Task)) (calls os : List ℕ) (i : ℕ) (x : Program) → get_elem? (all_programs (programs sizes cs) (readers_from calls 0 os)) i ≡ some x → Aims Calm x
all_aim sizes cs calls os i x e = all_begin (Aims Calm) tt calls (λ k o. reader_goes calls k o) (programs sizes cs) os i x
    (λ a. let t = mapped (client_from sizes []) cs i x a in subst (Aims Calm) t.2 (client_goes sizes [] t.0)) e

none_try : (id n : ℕ) (xs : List Program) → total (of_stand id n) (map (λ (x : Program). Calm) xs) ≡ 0
none_try id n [] = refl
none_try id n (x ∷ xs) = let r = none_try id n xs in omega (arith, r)

calm_stays : (x : Program) → Aims Calm x → Aims Calm (next_step (resolved [] x))
calm_stays (Say o outcome next) g = calm_stays next g
calm_stays (Sent o next) g = calm_stays next g
calm_stays (Keep r next) g = absurd (let e = g.0 in cc)
calm_stays (Retries n after) g = calm_stays after g
calm_stays _ g = g

module _ (p : Plan) (q : IdPlan) where
  no_messages : (F : Heading → Type 0) → HomesFit F (opening_homes p)
  no_messages F i (Message heading bytes) at = absurd (no_message p i heading bytes at)
  no_messages F i (Link k took next done) at = tt
  no_messages F i Empty at = tt

  pub begins_aims : (xs : List Program) → ((i : ℕ) (x : Program) → get_elem? xs i ≡ some x → Aims Calm x) → AimLaw q (λ x. In x []) (λ j x. ⊥) (beginning p q xs) (map (λ (x : Program). Calm) xs)
  begins_aims xs goes = record {
    once = λ id n. (let a = none_try id n xs in let b = none_waits id n q.seats in omega (arith, a, b));
    made = λ id n some_. absurd (let a = none_try id n xs in let b = none_waits id n q.seats in omega (arith, a, b, some_));
    each = length-map xs (λ (x : Program). Calm) ∙ sym (length-map xs (λ (x : Program). record { program = next_step (resolved [] x); hand = [] }));
    programs = λ j seat s es et. let x = mapped (λ (x : Program). record { program = next_step (resolved [] x); hand = [] }) xs j seat es in
        subst (λ (z : SeatState). Aims s z.program) x.2 (subst (λ y. Aims y (next_step (resolved [] x.0))) (mapped (λ (x : Program). Calm) xs j s et).2 (calm_stays x.0 (goes j x.0 x.1)));
    stands = λ j s et. subst (StandFits (IsPast q (beginning p q xs) (map (λ (x : Program). Calm) xs)) (λ x. ⊥)) (mapped (λ (x : Program). Calm) xs j s et).2 tt;
    ats = λ o inside some_. absurd (some_ ((unused q).rest (at_index q o) (omega arith)));
    homes = no_messages (HeadFits (IsPast q (beginning p q xs) (map (λ (x : Program). Calm) xs)));
    hands = λ j seat es. let x = mapped (λ (x : Program). record { program = next_step (resolved [] x); hand = [] }) xs j seat es in subst (λ (z : SeatState). HandFits (HeadFits (IsPast q (beginning p q xs) (map (λ (x : Program). Calm) xs))) z.hand) x.2 tt;
    posts = λ x there. absurd there;
  }
