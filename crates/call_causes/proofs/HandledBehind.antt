-- Behind the end of a reading each error that an id takes, from whatever seat, leaves no response of its link but soon ones.
use Rattle.std.proofs.Common.{◌≡◌, ℕ, ◌+◌, ◌==◌, ◌⊎◌, inl, inr, ⊎_elim, ◌&&◌, ◌||◌, Bool, true, false, cond, eqb-true, append_assoc, List, [], ◌∷◌, ◌++◌, length, refl, sym, ap, ◌∙◌, subst}
use Rattle.std.proofs.lemmas.Bool.{true≢false}
use mathlib.Core.Option.{Option, none, some, some-injective}
use lib.ListN.{get_elem?}
use Rattle.sock_words.specs.declared.plain.Plan.{Plan}
use Rattle.corr_core.specs.declared.marks.Plan.{Plan as IdPlan}
use Rattle.seat_programs.specs.Asides.{PostId}
use Rattle.seat_programs.specs.TableSteps.{OnName, LoadOpen}
use Rattle.seat_programs.specs.Programs.{Program, Do, Aside}
use Rattle.seat_programs.specs.Cores.{Core, SeatState}
use Rattle.seat_programs.specs.Ticks.{Moment, ticked, run}
use Rattle.story_ticks.specs.call_stories.specs.LinkReadingLists.{soon_at}
use Rattle.story_ticks.specs.call_stories.specs.PostsOfRun.{Post, posted_at}
use Rattle.story_ticks.specs.call_stories.specs.Decided.{is_late_step, late_at, late_in, posted_behind}
use Rattle.call_causes.proofs.HandledResponses.{Sit}
use Rattle.call_causes.proofs.HandledSteps.{State, state_on, onward}
use Rattle.call_causes.proofs.HandledTicks.{sit, Known, HasReader, reader_ticks}
use Rattle.call_causes.proofs.HandledPosts.{IsLate, late_over, With, with_on, with_onward, HasClaims, claims_at}
use Rattle.call_causes.proofs.HandledRuns.{AreKnown, along, Reads', claims_along}
use Rattle.seat_programs.specs.LoopRounds.{first_step}
use Rattle.story_ticks.specs.Below.outcome_stories.specs.OperationStories.{In}
use Rattle.story_ticks.specs.Below.outcome_stories.specs.Facts.{shown_in}

-- a step that is late
late_step : (k ids : ℕ) (calls : List ℕ) (o : ℕ) (many : length calls ≡ ids) (x : Program) → is_late_step x ≡ true → IsLate k ids calls o many x
late_step k ids calls o many (Do (OnName (LoadOpen n)) next) e = absurd (true≢false (sym e))
late_step k ids calls o many (Do call next) e = tt
late_step k ids calls o many (Aside (PostId i from x) next) e = tt
late_step k ids calls o many other e = absurd (true≢false (sym e))

module _ (p : Plan) (q : IdPlan) (k : ℕ) (calls : List ℕ) (o : ℕ) (many : length calls ≡ q.slots) where
  -- nothing is claimed besides
  abbrev None' : Sit → Type 0
  None' s = Unit {0}

  abbrev none_on : (s t : Sit) → Rattle.call_causes.proofs.HandledResponses.frames_in t.bytes ≡ Rattle.call_causes.proofs.HandledResponses.frames_in s.bytes → ((x : ℕ × ℕ) → In x s.soon → In x t.soon) → None' s → None' t
  none_on s t same soon x = tt

  abbrev pub IsBehind : List (ℕ × ℕ) → Core → Type 0
  IsBehind soon c = HasReader p q k (With k q.slots None' none_on) (with_on k q.slots None' none_on) (with_onward k q.slots None' none_on) soon c

  late_here : (c : Core) (m : Moment) (soon : List (ℕ × ℕ)) → Reads' p q k calls o many soon c → late_at (32 + k) c m ≡ true → IsBehind soon c
  late_here c m soon h late seat at = by_seat (get_elem? c.seats m.seat) refl late
    where
      by_test : (s : SeatState) → get_elem? c.seats m.seat ≡ some s → (b d : Bool) → (m.seat == 32 + k) ≡ b → is_late_step (first_step s.program) ≡ d → (b && d) ≡ true → With k q.slots None' none_on (sit k c soon) seat.program
      by_test s e true true own is z = (
        late_over k q.slots calls o many (sit k c soon) seat.program (h seat at) (late_step k q.slots calls o many (first_step seat.program)
            (ap (λ (y : SeatState). is_late_step (first_step y.program)) (some-injective seat s (sym at ∙ (ap (get_elem? c.seats) (sym (eqb-true m.seat (32 + k) own)) ∙ e))) ∙ is)),
        tt,
      )
      by_test s e true false own is z = absurd (true≢false (sym z))
      by_test s e false d own is z = absurd (true≢false (sym z))

      by_seat : (x : Option SeatState) → get_elem? c.seats m.seat ≡ x → (elim x as (λ o. Bool) [ none ↦ false | some s ↦ (m.seat == 32 + k) && is_late_step (first_step s.program) ]) ≡ true → With k q.slots None' none_on (sit k c soon) seat.program
      by_seat none e z = absurd (true≢false (sym z))
      by_seat (some s) e z = by_test s e (m.seat == 32 + k) (is_late_step (first_step s.program)) refl refl z

  in_both : {A : Type 0} (x : A) (xs ys : List A) → In x (xs ++ ys) → In x xs ⊎ In x ys
  in_both x [] ys there = inr there
  in_both x (z ∷ xs) ys (inl same) = inl (inl same)
  in_both x (z ∷ xs) ys (inr there) = ⊎_elim (λ a. inl (inr a)) (λ a. inr a) (in_both x xs ys there)

  pub behind_along : (ms : List Moment) (soon : List (ℕ × ℕ)) (c : Core) → AreKnown p q c ms → IsBehind soon c → IsBehind (soon ++ shown_in (soon_at p) p c ms) (run p c ms)
  behind_along ms soon c known h = along p q k (With k q.slots None' none_on) (with_on k q.slots None' none_on) (with_onward k q.slots None' none_on) ms soon c known h

  -- from there on
  pub behind_claims : (x : Post) (ms : List Moment) (soon : List (ℕ × ℕ)) (c : Core) → AreKnown p q c ms → IsBehind soon c → In x (shown_in posted_at p c ms) → HasClaims p q k x (soon ++ shown_in (soon_at p) p c ms) (run p c ms)
  behind_claims x [] soon c known h there = absurd there
  behind_claims x (m ∷ ms) soon c known h there = ⊎_elim
      (λ now. claims_along p q k calls o many x (m ∷ ms) soon c known (claims_at p q k c m known.0 x now soon (λ seat at. (h seat at).0)))
      (λ later. subst (λ l. HasClaims p q k x l (run p (ticked p c m) ms)) (append_assoc soon (soon_at p c m) (shown_in (soon_at p) p (ticked p c m) ms))
      (behind_claims x ms (soon ++ soon_at p c m) (ticked p c m) known.1 (reader_ticks p q k (With k q.slots None' none_on) (with_on k q.slots None' none_on) (with_onward k q.slots None' none_on) soon c m known.0 h) later))
      (in_both x (posted_at c m) (shown_in posted_at p (ticked p c m) ms) there)

  reads_next : (c : Core) (m : Moment) (soon : List (ℕ × ℕ)) → Known q c m → Reads' p q k calls o many soon c → Reads' p q k calls o many (soon ++ soon_at p c m) (ticked p c m)
  reads_next c m soon known h = reader_ticks p q k (State k q.slots calls o many) (state_on k q.slots calls o many) (onward k q.slots calls o many) soon c m known h

  -- from its first late step on
  pub late_claims : (x : Post) (ms : List Moment) (soon : List (ℕ × ℕ)) (c : Core) → AreKnown p q c ms → Reads' p q k calls o many soon c → In x (posted_behind (32 + k) p c ms) → HasClaims p q k x (soon ++ shown_in (soon_at p) p c ms) (run p c ms)
  late_claims x [] soon c known h there = absurd there
  late_claims x (m ∷ ms) soon c known h there = by_late (late_at (32 + k) c m) refl there (late_claims x ms (soon ++ soon_at p c m) (ticked p c m) known.1 (reads_next c m soon known.0 h))
    where
      by_late : (b : Bool) → late_at (32 + k) c m ≡ b → In x (cond b (shown_in posted_at p c (m ∷ ms)) (posted_behind (32 + k) p (ticked p c m) ms))
          → (In x (posted_behind (32 + k) p (ticked p c m) ms) → HasClaims p q k x ((soon ++ soon_at p c m) ++ shown_in (soon_at p) p (ticked p c m) ms) (run p (ticked p c m) ms)) → HasClaims p q k x (soon ++ shown_in (soon_at p) p c (m ∷ ms)) (run p c (m ∷ ms))
      by_late true late z later = behind_claims x (m ∷ ms) soon c known (late_here c m soon h late) z
      by_late false late z later = subst (λ l. HasClaims p q k x l (run p (ticked p c m) ms)) (append_assoc soon (soon_at p c m) (shown_in (soon_at p) p (ticked p c m) ms)) (later z)

  -- where it made one, it is behind
  pub late_behind : (ms : List Moment) (soon : List (ℕ × ℕ)) (c : Core) → AreKnown p q c ms → Reads' p q k calls o many soon c → late_in (32 + k) p c ms ≡ true → IsBehind (soon ++ shown_in (soon_at p) p c ms) (run p c ms)
  late_behind [] soon c known h late = absurd (true≢false (sym late))
  late_behind (m ∷ ms) soon c known h late = by_late (late_at (32 + k) c m) refl late (λ e. late_behind ms (soon ++ soon_at p c m) (ticked p c m) known.1 (reads_next c m soon known.0 h) e)
    where
      by_late : (b : Bool) → late_at (32 + k) c m ≡ b → (b || late_in (32 + k) p (ticked p c m) ms) ≡ true
          → (late_in (32 + k) p (ticked p c m) ms ≡ true → IsBehind ((soon ++ soon_at p c m) ++ shown_in (soon_at p) p (ticked p c m) ms) (run p (ticked p c m) ms)) → IsBehind (soon ++ shown_in (soon_at p) p c (m ∷ ms)) (run p c (m ∷ ms))
      by_late true is e later = behind_along (m ∷ ms) soon c known (late_here c m soon h is)
      by_late false is e later = subst (λ l. IsBehind l (run p (ticked p c m) ms)) (append_assoc soon (soon_at p c m) (shown_in (soon_at p) p (ticked p c m) ms)) (later e)
