-- Over the ticks of a run: where a client posts an error with the code of the end of a reading, it dropped a message, and the reader of the socket whose code it found was behind the end of its reading before.
use Rattle.std.proofs.Common.{◌≡◌, ◌≢◌, ℕ, zero, suc, ◌+◌, ◌<◌, ◌≤◌, ◌==◌, ◌⊎◌, inl, inr, ⊎_elim, Bool, true, false, cond, ne_eqb, List, [], ◌∷◌, ◌++◌, replicate, get_or, refl, sym, ap, ◌∙◌, subst, arith}
use Rattle.std.specs.Prelude.{◌||◌, ◌&&◌}
use Rattle.std.proofs.lemmas.Bool.{true≢false}
use mathlib.Core.Option.{Option, none, some}
use lib.ListN.{get_elem?}
use Rattle.sock_words.specs.PackedWords.{socket_id_version, socket_id_slot}
use Rattle.sock_words.specs.declared.plain.Plan.{Plan}
use Rattle.sock_model.specs.declared.view.View.{View}
use Rattle.sock_model.specs.SocketTableLayout.{open_index}
use Rattle.corr_core.specs.IdSlotWord.{code_of}
use Rattle.corr_core.specs.declared.marks.Plan.{Plan as IdPlan}
use Rattle.sock_message.specs.Asked.{Asked}
use Rattle.seat_programs.specs.Asides.{Taking}
use Rattle.seat_programs.specs.TableSteps.{OnSlot, LoadCode}
use Rattle.seat_programs.specs.Cores.{Core, SeatState}
use Rattle.seat_programs.specs.Ticks.{Moment, AreAnswered, IsAnswered, quiet, ticked, run}
use Rattle.ended_calls.specs.refused_attempts.specs.Below.programs_allowed.specs.program_steps.specs.SoundSeats.{Sound, AreFitting, IsFitting, views_after, views_along}
use Rattle.ended_calls.specs.refused_attempts.specs.Below.programs_allowed.specs.sock_runs.proofs.LinkTicks.{RetriesGo}
use Rattle.ended_calls.specs.refused_attempts.specs.Below.programs_allowed.specs.program_walks.proofs.OpensStay.{run_word}
use Rattle.ended_calls.specs.refused_attempts.specs.Below.programs_allowed.specs.program_walks.proofs.Recorded.{Recorded, recorded_ticks}
use Rattle.ended_calls.specs.refused_attempts.specs.Below.programs_allowed.specs.sock_runs.proofs.TicksKeepSeatsSound.{sound_ticks}
use Rattle.ended_calls.specs.refused_attempts.specs.Below.outcome_stories.specs.OperationStories.{In}
use Rattle.ended_calls.specs.refused_attempts.specs.Below.outcome_stories.proofs.Members.{all_in}
use Rattle.ended_calls.specs.refused_attempts.specs.Below.outcome_causes.proofs.PlainOutcomeCauses.{in_left, in_right, in_both}
use Rattle.ended_calls.specs.refused_attempts.specs.Below.call_stories.specs.Decided.{posted_by, is_late_step, late_at, late_in, posted_behind}
use Rattle.ended_calls.specs.refused_attempts.specs.Below.call_stories.specs.PostsOfRun.{Post, posted_at}
use Rattle.ended_calls.specs.refused_attempts.specs.accept_counts.specs.AttemptCounts.{AreLabelled}
use Rattle.ended_calls.specs.refused_attempts.specs.accept_counts.specs.RefusedOrDropped.{Deed, DidStep, Doing, DidAt, DidIn, ChargeLaw, AllWouldOwn}
use Rattle.ended_calls.specs.refused_attempts.specs.accept_counts.proofs.Closers.{Ends}
use Rattle.dropped_calls.proofs.LateDropsCodes.{Stored, stored_more, LateLaw, late_more, late_ticks, found_stored}
use Rattle.ended_calls.specs.refused_attempts.proofs.RefusedPosts.{all_done}
use Rattle.dropped_calls.proofs.LateDropsPosts.{DropPost, tick_drop}
use Rattle.ended_calls.specs.refused_attempts.specs.accept_counts.proofs.ReadingsAtTicks.{found_by}
use Rattle.ended_calls.specs.refused_attempts.proofs.RefusedRuns.{law_more}
use Rattle.ended_calls.specs.refused_attempts.proofs.RefusedTicks.{charge_ticks}
use Rattle.ended_calls.specs.refused_attempts.specs.accept_counts.proofs.RunsKeepAttemptLaw.{Lawful_}
use Rattle.ended_calls.specs.refused_attempts.specs.accept_counts.proofs.TicksKeepAttemptLaw.{label_ticks}
use Rattle.ended_calls.specs.refused_attempts.specs.accept_counts.proofs.PostSeats.{of_tick}
use Rattle.seat_programs.specs.LoopRounds.{first_step}
use Rattle.ended_calls.specs.refused_attempts.specs.Below.outcome_stories.specs.Facts.{shown_in}

-- ## Lists of posts

-- what is posted behind a late step is posted
behind_shown : (j : ℕ) (p : Plan) (ms : List Moment) (c : Core) (x : Post) → In x (posted_behind j p c ms) → In x (shown_in posted_at p c ms)
behind_shown j p [] c x at = absurd at
behind_shown j p (m ∷ ms) c x at = by (late_at j c m) at (behind_shown j p ms (ticked p c m) x)
  where
    by : (b : Bool) → In x (cond b (shown_in posted_at p c (m ∷ ms)) (posted_behind j p (ticked p c m) ms)) → (In x (posted_behind j p (ticked p c m) ms) → In x (shown_in posted_at p (ticked p c m) ms)) → In x (shown_in posted_at p c (m ∷ ms))
    by true z later = z
    by false z later = in_right (posted_at c m) (shown_in posted_at p (ticked p c m) ms) x (later z)

behind_now : (j : ℕ) (p : Plan) (c : Core) (m : Moment) (ms : List Moment) (x : Post) → late_at j c m ≡ true → In x (shown_in posted_at p c (m ∷ ms)) → In x (posted_behind j p c (m ∷ ms))
behind_now j p c m ms x late at = subst (λ b. In x (cond b (shown_in posted_at p c (m ∷ ms)) (posted_behind j p (ticked p c m) ms))) (sym late) at

behind_later : (j : ℕ) (p : Plan) (c : Core) (m : Moment) (ms : List Moment) (x : Post) → In x (posted_behind j p (ticked p c m) ms) → In x (posted_behind j p c (m ∷ ms))
behind_later j p c m ms x at = by (late_at j c m)
  where
    by : (b : Bool) → In x (cond b (shown_in posted_at p c (m ∷ ms)) (posted_behind j p (ticked p c m) ms))
    by true = in_right (posted_at c m) (shown_in posted_at p (ticked p c m) ms) x (behind_shown j p ms (ticked p c m) x at)
    by false = at

-- ## Ticks of one seat

-- another seat makes no late step in them
never_late : (n : ℕ) (c : Core) (i : ℕ) → late_at (32 + n) c (quiet 0) ≡ false
never_late n c i = by (get_elem? c.seats 0)
  where
    by : (o : Option SeatState) → (elim o as (λ o. Bool) [ none ↦ false | some s ↦ (0 == 32 + n) && is_late_step (first_step s.program) ]) ≡ false
    by none = refl
    by (some s) = ap (λ b. b && is_late_step (first_step s.program)) (ne_eqb 0 (32 + n) (λ e. let z : ⊥ = omega (arith, e) in z))

pub none_late : (p : Plan) (n i : ℕ) (c : Core) → late_in (32 + n) p c (replicate i (quiet 0)) ≡ true → ⊥
none_late p n zero c late = true≢false (sym late)
none_late p n (suc i) c late = none_late p n i (ticked p c (quiet 0)) (sym (ap (λ b. b || late_in (32 + n) p (ticked p c (quiet 0)) (replicate i (quiet 0))) (never_late n c i)) ∙ late)

pub none_behind : (p : Plan) (n i : ℕ) (c : Core) (x : Post) → In x (posted_behind (32 + n) p c (replicate i (quiet 0))) → ⊥
none_behind p n zero c x at = at
none_behind p n (suc i) c x at = none_behind p n i (ticked p c (quiet 0)) x
    (subst (λ b. In x (cond b (shown_in posted_at p c (quiet 0 ∷ replicate i (quiet 0))) (posted_behind (32 + n) p (ticked p c (quiet 0)) (replicate i (quiet 0))))) (never_late n c i) at)

either : (b d : Bool) → (b ≡ true) ⊎ (d ≡ true) → (b || d) ≡ true
either b d (inl e) = ap (λ x. x || d) e
either true d (inr e) = refl
either false d (inr e) = e

-- ## Ticks one after another

module _ (p : Plan) (q : IdPlan) (narrow : q.slots ≤ 65536) (is_call : Asked → Type 0) (ids : ℕ → ℕ) (calls os : List ℕ) (in_os : (k o : ℕ) → get_elem? os k ≡ some o → o < p.operations) (Odd : List Taking → Type 0) (Lasts : Type 0) (ends : (n id : ℕ) → Ends n id Odd Lasts)
    (P : ℕ → Type 0) (gone : P 1009) (W : List ℕ) (New : ℕ → ℕ → Type 0) where
  abbrev pub Law : (ℕ → Type 0) → Core → List View → (ℕ → List Taking) → Type 0
  Law Late c vs taken = LateLaw p calls os in_os Odd Lasts ends P gone W New Late c vs taken

  abbrev pub Of : (ℕ → Type 0) → ℕ → ℕ → ℕ → Type 0
  Of Late i h code = Stored p calls os in_os Odd Lasts ends P gone W New Late i h code

  -- what deeds tell of codes
  abbrev pub Says : (ℕ → Type 0) → Deed → Type 0
  Says Late (DidStep (OnSlot (LoadCode i h)) code) = code ≢ 0 → New i h → Of Late i h code
  Says Late other = Unit {0}

  pub says_more : (Late Then : ℕ → Type 0) → ((n : ℕ) → Late n → Then n) → (d : Deed) → Says Late d → Says Then d
  says_more Late Then f (DidStep (OnSlot (LoadCode i h)) code) s = λ some_ new. stored_more p calls os in_os Odd Lasts ends P gone W New Late Then f i h code (s some_ new)
  says_more Late Then f other s = tt

  abbrev pub Told : (ℕ → Deed → Type 0) → (ℕ → Type 0) → ℕ → Deed → Type 0
  Told Done Late j d = Done j d × Says Late d

  abbrev pub Charged : (ℕ → Deed → Type 0) → (ℕ → Type 0) → Core → List View → List Doing → Type 0
  Charged Done Late c vs ss = ChargeLaw p.requests is_call ids p q (Told Done Late) c vs ss

  -- an error that seat j posted for a dropped message; InTime tells of the link whose socket it was
  pub record LatePost (Done : Deed → Type 0) (InTime : ℕ → Type 0) (x : Post) : Type 0 where
    pub post : DropPost Done x
    pub whose : post.code ≢ 0 → New (socket_id_slot post.drop.holder.id) (socket_id_version post.drop.holder.id) → Of InTime (socket_id_slot post.drop.holder.id) (socket_id_version post.drop.holder.id) post.code

  pub late_post_more : (Did Done : Deed → Type 0) (Now Then : ℕ → Type 0) → ((d : Deed) → Did d → Done d) → ((n : ℕ) → Now n → Then n) → (x : Post) → LatePost Did Now x → LatePost Done Then x
  late_post_more Did Done Now Then f g x y = record {
    post = record { heading = y.post.heading; code = y.post.code; deeds = y.post.deeds; did = all_done Did Done f y.post.deeds y.post.did; drop = y.post.drop; owned = y.post.owned; owner = y.post.owner; error = y.post.error };
    whose = λ some_ new. stored_more p calls os in_os Odd Lasts ends P gone W New Now Then g _ _ _ (y.whose some_ new);
  }

  -- in these ticks it was posted behind a late step of link n's reader, which may have been made before them
  abbrev pub InTime : (ℕ → Type 0) → Core → List Moment → Post → ℕ → Type 0
  InTime Late c ms x n = (Late n × In x (shown_in posted_at p c ms)) ⊎ In x (posted_behind (32 + n) p c ms)

  abbrev pub With : (ℕ → Type 0) → Core → List Moment → ℕ → Type 0
  With Late c ms n = Late n ⊎ (late_in (32 + n) p c ms ≡ true)

  abbrev pub Done_ : (ℕ → Deed → Type 0) → Core → List Moment → ℕ → Deed → Type 0
  Done_ Done c ms j d = Done j d ⊎ DidIn p c ms j d

  -- behind these ticks
  pub record Behind (Done : ℕ → Deed → Type 0) (Late : ℕ → Type 0) (c : Core) (vs : List View) (ms : List Moment) : Type 0 where
    pub taken : ℕ → List Taking
    pub law : Law (With Late c ms) (run p c ms) (views_along p c vs ms) taken
    pub doings : List Doing
    pub charges : Charged (Done_ Done c ms) (With Late c ms) (run p c ms) (views_along p c vs ms) doings
    pub posts : (j : ℕ) → j < 32 → (x : Post) → In x (shown_in (posted_by j) p c ms) → code_of x.error ≡ 1014 → LatePost (Done_ Done c ms j) (InTime Late c ms x) x

  module _ (Q : ℕ → ℕ → Type 0) (go : RetriesGo p) (lasts : Lasts) where
    -- a post of one tick
    module _ (Done : ℕ → Deed → Type 0) (Late : ℕ → Type 0) (c : Core) (vs : List View) (m : Moment) (taken : ℕ → List Taking) (ss : List Doing) (sound : Sound p c vs) (answered : IsAnswered c m) (fitting : IsFitting p c m) (recorded : Recorded p Q c vs)
        (ahead : (o : ℕ) → o < p.operations → get_or c.words (open_index p o) 0 ≢ 0 → get_or W (open_index p o) 0 ≡ get_or c.words (open_index p o) 0) (law : Law Late c vs taken) where
      now_told : (j : ℕ) (d : Deed) → DidAt p c m j d → Says Late d
      now_told j (DidStep (OnSlot (LoadCode i h)) code) d = λ some_ new. found_stored p calls os in_os Odd Lasts ends P gone W New Q go c vs m taken sound answered fitting recorded ahead Late law j i h code d some_ new
      now_told j other d = tt

      pub told_now : (j : ℕ) (d : Deed) → Told Done Late j d ⊎ DidAt p c m j d → (Done j d ⊎ DidAt p c m j d) × Says Late d
      told_now j d (inl x) = (inl x.0, x.1)
      told_now j d (inr x) = (inr x, now_told j d x)

      -- the code that it found stands among what it did
      pub as_late : (j : ℕ) (Then : ℕ → Type 0) → ((n : ℕ) → Late n → Then n) → (x : Post) → DropPost (λ d. Told Done Late j d ⊎ DidAt p c m j d) x → LatePost (λ d. Done j d ⊎ DidAt p c m j d) Then x
      as_late j Then f x y = record {
        post = record { heading = y.heading; code = y.code; deeds = y.deeds; did = all_done (λ d. Told Done Late j d ⊎ DidAt p c m j d) (λ d. Done j d ⊎ DidAt p c m j d) (λ d t. (told_now j d t).0) y.deeds y.did; drop = y.drop; owned = y.owned; owner = y.owner; error = y.error };
        whose = λ some_ new. stored_more p calls os in_os Odd Lasts ends P gone W New Late Then f _ _ _ ((told_now j (DidStep (OnSlot (LoadCode (socket_id_slot y.drop.holder.id) (socket_id_version y.drop.holder.id))) y.code)
            (all_in (λ d. Told Done Late j d ⊎ DidAt p c m j d) y.deeds (DidStep (OnSlot (LoadCode (socket_id_slot y.drop.holder.id) (socket_id_version y.drop.holder.id))) y.code) y.did y.drop.load)).1 some_ new);
      }

    -- the links whose readers were behind the end of their readings, with one tick more
    abbrev Next : (ℕ → Type 0) → Core → Moment → ℕ → Type 0
    Next Late c m n = Late n ⊎ (late_at (32 + n) c m ≡ true)

    grouped : (Done : ℕ → Deed → Type 0) (c : Core) (m : Moment) (ms : List Moment) (j : ℕ) (d : Deed) → (Done j d ⊎ DidAt p c m j d) ⊎ DidIn p (ticked p c m) ms j d → Done_ Done c (m ∷ ms) j d
    grouped Done c m ms j d (inl (inl a)) = inl a
    grouped Done c m ms j d (inl (inr b)) = inr (inl b)
    grouped Done c m ms j d (inr e) = inr (inr e)

    with_next : (Late : ℕ → Type 0) (c : Core) (m : Moment) (ms : List Moment) (n : ℕ) → With (Next Late c m) (ticked p c m) ms n → With Late c (m ∷ ms) n
    with_next Late c m ms n (inl (inl a)) = inl a
    with_next Late c m ms n (inl (inr b)) = inr (either (late_at (32 + n) c m) (late_in (32 + n) p (ticked p c m) ms) (inl b))
    with_next Late c m ms n (inr e) = inr (either (late_at (32 + n) c m) (late_in (32 + n) p (ticked p c m) ms) (inr e))

    time_next : (Late : ℕ → Type 0) (c : Core) (m : Moment) (ms : List Moment) (x : Post) (n : ℕ) → InTime (Next Late c m) (ticked p c m) ms x n → InTime Late c (m ∷ ms) x n
    time_next Late c m ms x n (inl (inl a, at)) = inl (a, in_right (posted_at c m) (shown_in posted_at p (ticked p c m) ms) x at)
    time_next Late c m ms x n (inl (inr b, at)) = inr (behind_now (32 + n) p c m ms x b (in_right (posted_at c m) (shown_in posted_at p (ticked p c m) ms) x at))
    time_next Late c m ms x n (inr e) = inr (behind_later (32 + n) p c m ms x e)

    pub posts_along : (ms : List Moment) (Done : ℕ → Deed → Type 0) (Late : ℕ → Type 0) (c : Core) (vs : List View) → Sound p c vs → AreAnswered p c ms → AreFitting p c ms → Recorded p Q c vs → AreLabelled ids p q c ms → AllWouldOwn ids p c ms
        → Lawful_ p q narrow is_call ids c vs → ((o : ℕ) → o < p.operations → get_or (run p c ms).words (open_index p o) 0 ≢ 0 → get_or W (open_index p o) 0 ≡ get_or (run p c ms).words (open_index p o) 0)
        → (taken : ℕ → List Taking) → Law Late c vs taken → (ss : List Doing) → Charged Done Late c vs ss → Behind Done Late c vs ms
    posts_along [] Done Late c vs sound answered fitting recorded are own labels ahead taken law ss charges = record {
      taken = taken;
      law = late_more p calls os in_os Odd Lasts ends P gone W New Late (With Late c []) (λ n l. inl l) c vs taken law;
      doings = ss;
      charges = law_more p q narrow is_call ids (Told Done Late) (Told (Done_ Done c []) (With Late c [])) (λ j d t. (inl t.0, says_more Late (With Late c []) (λ n l. inl l) d t.1)) c vs ss charges;
      posts = λ j low x at. absurd at;
    }
    posts_along (m ∷ ms) Done Late c vs sound answered fitting recorded are own labels ahead taken law ss charges =
        let next = label_ticks p q narrow is_call ids c vs labels.0 labels.1 are.0.0 are.0.1 sound m answered.0 are.1 are.2 in
        let mine = charge_ticks p q narrow is_call ids (Told Done Late) c vs ss charges labels.1.calls are.0.0 are.0.1 m sound answered.0 are.1 are.2 own.0 in
        let r = posts_along ms (λ j d. Done j d ⊎ DidAt p c m j d) (Next Late c m) (ticked p c m) (views_after p c vs m) (sound_ticks p go c vs m sound answered.0 fitting.0) answered.1 fitting.1 (recorded_ticks p Q c vs m sound answered.0 fitting.0 recorded) are.3 own.1 (next.0, next.1) ahead
        (λ n. taken n ++ found_by c m n) (late_ticks p calls os in_os Odd Lasts ends P gone W New Q go c vs m taken sound answered.0 fitting.0 recorded open_ahead Late law (λ e. lasts)) mine.0
        (law_more p q narrow is_call ids (λ j d. Told Done Late j d ⊎ DidAt p c m j d) (Told (λ j d. Done j d ⊎ DidAt p c m j d) (Next Late c m)) told_next (ticked p c m) (views_after p c vs m) mine.0 mine.1) in record {
          taken = r.taken;
          law = late_more p calls os in_os Odd Lasts ends P gone W New (With (Next Late c m) (ticked p c m) ms) (With Late c (m ∷ ms)) (with_next Late c m ms) (run p (ticked p c m) ms) (views_along p (ticked p c m) (views_after p c vs m) ms) r.taken r.law;
          doings = r.doings;
          charges = law_more p q narrow is_call ids (Told (Done_ (λ j d. Done j d ⊎ DidAt p c m j d) (ticked p c m) ms) (With (Next Late c m) (ticked p c m) ms)) (Told (Done_ Done c (m ∷ ms)) (With Late c (m ∷ ms)))
              (λ j d t. (grouped Done c m ms j d t.0, says_more (With (Next Late c m) (ticked p c m) ms) (With Late c (m ∷ ms)) (with_next Late c m ms) d t.1)) (run p (ticked p c m) ms) (views_along p (ticked p c m) (views_after p c vs m) ms) r.doings r.charges;
          posts = λ j low x at code. ⊎_elim
              (λ now. let o = of_tick j c m x now in late_post_more (λ d. Done j d ⊎ DidAt p c m j d) (Done_ Done c (m ∷ ms) j) (λ n. Late n × In x (shown_in posted_at p c (m ∷ ms))) (InTime Late c (m ∷ ms) x) (λ d y. grouped Done c m ms j d (inl y)) (λ n y. inl y) x
              (as_late Done Late c vs m taken ss sound answered.0 fitting.0 recorded open_ahead law j (λ n. Late n × In x (shown_in posted_at p c (m ∷ ms))) (λ n l. (l, in_left (posted_at c m) (shown_in posted_at p (ticked p c m) ms) x o.1)) x
              (subst (λ i. DropPost (λ d. Told Done Late i d ⊎ DidAt p c m i d) x) o.0 (tick_drop p q narrow is_call ids (Told Done Late) c vs ss charges labels.1.calls are.0.0 are.0.1 m sound (let e = o.0 in omega (arith, e, low)) x o.1 code))))
              (λ later. late_post_more (Done_ (λ j d. Done j d ⊎ DidAt p c m j d) (ticked p c m) ms j) (Done_ Done c (m ∷ ms) j) (InTime (Next Late c m) (ticked p c m) ms x) (InTime Late c (m ∷ ms) x) (λ d y. grouped Done c m ms j d y) (time_next Late c m ms x) x
              (r.posts j low x later code))
              (in_both (posted_by j c m) (shown_in (posted_by j) p (ticked p c m) ms) x at);
        }
      where
        -- words of opens stay
        open_ahead : (o : ℕ) → o < p.operations → get_or c.words (open_index p o) 0 ≢ 0 → get_or W (open_index p o) 0 ≡ get_or c.words (open_index p o) 0
        open_ahead o inside some_ = let stays = run_word p Q o inside go c vs (m ∷ ms) sound answered fitting recorded some_ in ahead o inside (λ z. some_ (sym stays ∙ z)) ∙ stays

        told_next : (j : ℕ) (d : Deed) → Told Done Late j d ⊎ DidAt p c m j d → Told (λ j d. Done j d ⊎ DidAt p c m j d) (Next Late c m) j d
        told_next j d t = let y = told_now Done Late c vs m taken ss sound answered.0 fitting.0 recorded open_ahead law j d t in (y.0, says_more Late (Next Late c m) (λ n l. inl l) d y.1)
