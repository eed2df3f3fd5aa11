-- In a whole run each post by a reader is behind the end of its reading, and for an at word that it loaded which names its link.
use Rattle.std.proofs.Common.{◌≡◌, ℕ, ◌+◌, ◌<◌, ◌≤◌, ◌==◌, eqb-true, Bool, true, false, cond, nat_le, leb-true, List, [], ◌∷◌, ◌++◌, length, map, filter, append-nil, append_assoc, inl, inr, ⊎_elim, ◌⊎◌, refl, sym, ap, ◌∙◌, subst}
use Rattle.std.proofs.lemmas.List.Concat.{flat_map-append}
use mathlib.Core.Option.{Option, none, some}
use lib.ListN.{get_elem?}
use Rattle.sock_words.specs.declared.plain.Plan.{Plan}
use Rattle.sock_model.specs.declared.view.View.{View}
use Rattle.seat_programs.specs.Asides.{Taking, Bytes}
use Rattle.seat_programs.specs.FoundAndChangedAside.{at_last, taking_in}
use Rattle.seat_programs.specs.Cores.{Core, SeatState}
use Rattle.seat_programs.specs.Ticks.{Answer, Unasked, OfPut, OfReady, OfTake, Moment, AreAnswered, taken, ticked, run}
use Rattle.refused_attempts.specs.attempted_calls.specs.Below.programs_allowed.specs.program_steps.specs.SoundSeats.{Sound, AreFitting, views_after}
use Rattle.refused_attempts.specs.attempted_calls.specs.Below.programs_allowed.specs.sock_runs.proofs.LinkTicks.{RetriesGo}
use Rattle.refused_attempts.specs.attempted_calls.specs.Below.programs_allowed.specs.program_walks.proofs.Recorded.{Recorded, recorded_ticks}
use Rattle.refused_attempts.specs.attempted_calls.specs.Below.programs_allowed.specs.sock_runs.proofs.TicksKeepSeatsSound.{sound_ticks}
use Rattle.refused_attempts.specs.attempted_calls.specs.Below.outcome_stories.specs.OperationStories.{In}
use Rattle.refused_attempts.specs.attempted_calls.specs.Below.outcome_causes.proofs.PlainOutcomeCauses.{in_left, in_right, in_both}
use Rattle.refused_attempts.specs.attempted_calls.specs.Below.run_theorems.specs.Heard.{as_taken, bytes_found, taken_link, taken_at, taken_in, given_by}
use Rattle.refused_attempts.specs.attempted_calls.specs.Below.run_theorems.proofs.HeardRuns.{taken_append}
use Rattle.refused_attempts.specs.attempted_calls.specs.Below.call_stories.specs.LinkReadingLists.{Take, takes_by, takes_at}
use Rattle.refused_attempts.specs.attempted_calls.specs.Below.call_stories.specs.PostsOfRun.{Post, posted_with, posted_at}
use Rattle.refused_attempts.specs.attempted_calls.specs.accept_counts.specs.EndedCalls.{Load, loaded_at, reader_posts_at}
use Rattle.refused_attempts.specs.attempted_calls.specs.accept_counts.proofs.EarlyClosedSockets.{Any, ends_anyhow}
use Rattle.ended_calls.proofs.EndedReads.{MayPost, post_more}
use Rattle.ended_calls.proofs.EndedTicks.{HasTold, LoadsSo, told_ticks, told_posts}
use Rattle.refused_attempts.specs.attempted_calls.specs.accept_counts.proofs.ReaderRuns.{Keeps, founds, keeps_ticks, reader_of, others_none}
use Rattle.refused_attempts.specs.attempted_calls.specs.accept_counts.proofs.ReadingsAtTicks.{found_by, takes_or_not}
use Rattle.corr_core.proofs.NoteSums.{at_length}
use Rattle.refused_attempts.specs.attempted_calls.specs.Below.outcome_stories.specs.Facts.{shown_in}

module _ (p : Plan) (calls os : List ℕ) (in_os : (k o : ℕ) → get_elem? os k ≡ some o → o < p.operations) where
  abbrev pub Keeping : Core → List View → (ℕ → List Taking) → Type 0
  Keeping c vs h = Keeps p calls os in_os Any (Unit {0}) ends_anyhow c vs h

  abbrev pub finds : Core → List Moment → ℕ → List Taking
  finds c ms n = founds p calls os in_os Any (Unit {0}) ends_anyhow c ms n

  module _ (seen : List Load) where
    abbrev pub Seen : ℕ → ℕ → ℕ → Type 0
    Seen n o w = In (record { seat = 32 + n; operation = o; word = w }) seen

    -- all readers, behind these takes of their links
    abbrev pub AllTold : (ℕ → List Taking) → Core → Type 0
    AllTold h c = (n : ℕ) → HasTold p n (Seen n) (h n) c

    -- a reader's post
    pub record IsPostOf (h : ℕ → List Taking) (x : Post) : Type 0 where
      pub link : ℕ
      pub inside : link < length os
      pub may : MayPost link (Seen link) (h link) x.id x.error

    loads_so : (c : Core) (m : Moment) → ((l : Load) → In l (loaded_at c m) → In l seen) → (n : ℕ) → LoadsSo p n (Seen n) c m
    loads_so c m all n l there own = subst (λ s. In (record { seat = s; operation = l.operation; word = l.word }) seen) own (all l there)

    tick_posts : (c : Core) (vs : List View) (m : Moment) (h : ℕ → List Taking) → Keeping c vs h → AllTold h c → (x : Post) → In x (reader_posts_at c m) → IsPostOf h x
    tick_posts c vs m h k told x there = by_seat (nat_le 32 m.seat) refl there
      where
        by_state : 32 ≤ m.seat → In x (posted_at c m) → (o : Option SeatState) → get_elem? c.seats m.seat ≡ o → IsPostOf h x
        by_state high there none e = absurd (subst (λ o. In x (elim o as (λ o. List Post) [ none ↦ [] | some seat ↦ posted_with c.calls (taken m.answer) (Rattle.seat_programs.specs.LoopRounds.first_step seat.program) ])) e there)
        by_state high there (some seat) e = let r = reader_of p calls os in_os Any (Unit {0}) ends_anyhow c vs h k m.seat seat e high in record { link = r.0; inside = at_length os r.0 r.1 r.3; may = told_posts p r.0 (Seen r.0) (h r.0) c m (told r.0) r.2 x there }

        by_seat : (b : Bool) → nat_le 32 m.seat ≡ b → In x (cond b (posted_at c m) []) → IsPostOf h x
        by_seat true e there = by_state (leb-true 32 m.seat e) there (get_elem? c.seats m.seat) refl
        by_seat false e there = absurd there

    pub more_post : (h later : ℕ → List Taking) (x : Post) → IsPostOf h x → IsPostOf (λ n. h n ++ later n) x
    more_post h later x r = record { link = r.link; inside = r.inside; may = post_more r.link (Seen r.link) (h r.link) (later r.link) x.id x.error r.may }

    module _ (Q : ℕ → ℕ → Type 0) (go : RetriesGo p) where
      keeps_tick : (c : Core) (vs : List View) (m : Moment) (ms : List Moment) (h : ℕ → List Taking) → Sound p c vs → AreAnswered p c (m ∷ ms) → AreFitting p c (m ∷ ms) → Recorded p Q c vs → Keeping c vs h → Keeping (ticked p c m) (views_after p c vs m) (λ n. h n ++ found_by c m n)
      keeps_tick c vs m ms h sound answered fitting recorded k = keeps_ticks p calls os in_os Any (Unit {0}) ends_anyhow Q go c vs m h sound answered.0 fitting.0 recorded (λ e. tt) k

      joined : (c : Core) (vs : List View) (m : Moment) (ms : List Moment) (h : ℕ → List Taking) → Keeping c vs h → AllTold h c
          → AllTold (λ n. (h n ++ found_by c m n) ++ finds (ticked p c m) ms n) (run p (ticked p c m) ms) × ((x : Post) → In x (shown_in reader_posts_at p (ticked p c m) ms) → IsPostOf (λ n. (h n ++ found_by c m n) ++ finds (ticked p c m) ms n) x)
          → AllTold (λ n. h n ++ finds c (m ∷ ms) n) (run p c (m ∷ ms)) × ((x : Post) → In x (shown_in reader_posts_at p c (m ∷ ms)) → IsPostOf (λ n. h n ++ finds c (m ∷ ms) n) x)
      joined c vs m ms h k told rest = (
        λ n. subst (λ l. HasTold p n (Seen n) l (run p c (m ∷ ms))) (append_assoc (h n) (found_by c m n) (finds (ticked p c m) ms n)) (rest.0 n),
        λ x there. ⊎_elim
            (λ now. more_post h (λ n. finds c (m ∷ ms) n) x (tick_posts c vs m h k told x now))
            (λ later. let y = rest.1 x later in record { link = y.link; inside = y.inside; may = subst (λ l. MayPost y.link (Seen y.link) l x.id x.error) (append_assoc (h y.link) (found_by c m y.link) (finds (ticked p c m) ms y.link)) y.may })
            (in_both (reader_posts_at c m) (shown_in reader_posts_at p (ticked p c m) ms) x there),
      )

      pub told_along : (ms : List Moment) (c : Core) (vs : List View) (h : ℕ → List Taking) → Sound p c vs → AreAnswered p c ms → AreFitting p c ms → Recorded p Q c vs → Keeping c vs h → AllTold h c → ((l : Load) → In l (shown_in loaded_at p c ms) → In l seen)
          → AllTold (λ n. h n ++ finds c ms n) (run p c ms) × ((x : Post) → In x (shown_in reader_posts_at p c ms) → IsPostOf (λ n. h n ++ finds c ms n) x)
      told_along [] c vs h sound answered fitting recorded k told loads = (λ n. subst (λ l. HasTold p n (Seen n) l c) (sym (append-nil (h n))) (told n), λ x there. absurd there)
      told_along (m ∷ ms) c vs h sound answered fitting recorded k told loads = joined c vs m ms h k told
          (told_along ms (ticked p c m) (views_after p c vs m) (λ n. h n ++ found_by c m n) (sound_ticks p go c vs m sound answered.0 fitting.0) answered.1 fitting.1 (recorded_ticks p Q c vs m sound answered.0 fitting.0 recorded)
          (keeps_tick c vs m ms h sound answered fitting recorded k)
          (λ n. told_ticks p n (Seen n) (h n) c m (told n) (loads_so c m (λ l there. loads l (in_left (loaded_at c m) (shown_in loaded_at p (ticked p c m) ms) l there)) n) (λ seat at far. others_none p calls os in_os Any (Unit {0}) ends_anyhow c vs h sound k m.seat seat at n far))
          (λ l there. loads l (in_right (loaded_at c m) (shown_in loaded_at p (ticked p c m) ms) l there)))

  -- ## What was found

  -- each is a take of the run
  tick_take : (c : Core) (m : Moment) (n : ℕ) (t : Taking) → In t (found_by c m n) → In (record { link = n; found = t }) (takes_at c m)
  tick_take c m n t there = by_seat (get_elem? c.seats m.seat) there
    where
      by_answer : (a : Answer) (l : ℕ) → l ≡ n → In t (map (at_last c.calls.ending) (as_taken (map (λ (j : ℕ). a) (l ∷ [])))) → In (record { link = n; found = t }) (elim (taking_in c.calls.ending (taken a)) as (λ o. List Take) [ none ↦ [] | some x ↦ (record { link = l; found = x }) ∷ [] ])
      by_answer (OfTake x) l e (inl same) = inl (ap (λ y. record { link = n; found = y }) same ∙ ap (λ k. record { link = k; found = at_last c.calls.ending x }) (sym e))
      by_answer (OfTake x) l e (inr z) = absurd z
      by_answer Unasked l e z = absurd z
      by_answer (OfPut x) l e z = absurd z
      by_answer (OfReady x) l e z = absurd z

      by_test : (l : ℕ) (b : Bool) → (l == n) ≡ b → In t (map (at_last c.calls.ending) (as_taken (map (λ (j : ℕ). m.answer) (cond b (l ∷ []) [])))) → In (record { link = n; found = t }) (takes_by c.calls m (l ∷ []))
      by_test l true e z = by_answer m.answer l (eqb-true l n e) z
      by_test l false e z = absurd z

      by_link : (ls : List ℕ) → (ls ≡ []) ⊎ ((x : ℕ) × (ls ≡ x ∷ [])) → In t (map (at_last c.calls.ending) (as_taken (map (λ (j : ℕ). m.answer) (filter (λ j. j == n) ls)))) → In (record { link = n; found = t }) (takes_by c.calls m ls)
      by_link ls (inl e) z = absurd (subst (λ l. In t (map (at_last c.calls.ending) (as_taken (map (λ (j : ℕ). m.answer) (filter (λ j. j == n) l))))) e z)
      by_link ls (inr x) z = subst (λ l. In (record { link = n; found = t }) (takes_by c.calls m l)) (sym x.1)
          (by_test x.0 (x.0 == n) refl (subst (λ l. In t (map (at_last c.calls.ending) (as_taken (map (λ (j : ℕ). m.answer) (filter (λ j. j == n) l))))) x.1 z))

      by_seat : (o : Option SeatState) → In t (map (at_last c.calls.ending) (as_taken (elim o as (λ o. List Answer) [ none ↦ [] | some s ↦ map (λ (j : ℕ). m.answer) (filter (λ j. j == n) (taken_link s.program)) ])))
          → In (record { link = n; found = t }) (elim o as (λ o. List Take) [ none ↦ [] | some seat ↦ takes_by c.calls m (taken_link seat.program) ])
      by_seat none z = absurd z
      by_seat (some seat) z = by_link (taken_link seat.program) (⊎_elim (λ e. inl e) (λ t. inr (t.link, t.takes)) (takes_or_not seat.program)) z

  pub finds_taken : (ms : List Moment) (c : Core) (n : ℕ) (t : Taking) → In t (finds c ms n) → In (record { link = n; found = t }) (shown_in takes_at p c ms)
  finds_taken [] c n t there = absurd there
  finds_taken (m ∷ ms) c n t there = ⊎_elim (λ now. in_left (takes_at c m) (shown_in takes_at p (ticked p c m) ms) (record { link = n; found = t }) (tick_take c m n t now))
      (λ later. in_right (takes_at c m) (shown_in takes_at p (ticked p c m) ms) (record { link = n; found = t }) (finds_taken ms (ticked p c m) n t later)) (in_both (found_by c m n) (finds (ticked p c m) ms n) t there)

  -- the bytes are those that were answered
  last_gives : (b : Bool) (ts : List Taking) → given_by (map (at_last b) ts) ≡ given_by ts
  last_gives b [] = refl
  last_gives b (t ∷ ts) = by b t (last_gives b ts)
    where
      by : (b : Bool) (t : Taking) → given_by (map (at_last b) ts) ≡ given_by ts → given_by (map (at_last b) (t ∷ ts)) ≡ given_by (t ∷ ts)
      by true (Bytes bytes) e = ap (λ l. bytes ++ l) e
      by false (Bytes bytes) e = ap (λ l. bytes ++ l) e
      by true other e = e
      by false other e = e

  pub finds_give : (ms : List Moment) (c : Core) (n : ℕ) → given_by (finds c ms n) ≡ given_by (as_taken (taken_in p c ms n))
  finds_give [] c n = refl
  finds_give (m ∷ ms) c n = flat_map-append bytes_found (found_by c m n) (finds (ticked p c m) ms n)
      ∙ (ap (λ l. l ++ given_by (finds (ticked p c m) ms n)) (last_gives c.calls.ending (as_taken (taken_at c m n))) ∙ (ap (λ l. given_by (as_taken (taken_at c m n)) ++ l) (finds_give ms (ticked p c m) n)
      ∙ (sym (flat_map-append bytes_found (as_taken (taken_at c m n)) (as_taken (taken_in p (ticked p c m) ms n))) ∙ ap given_by (sym (taken_append (taken_at c m n) (taken_in p (ticked p c m) ms n))))))
