-- A tick keeps what is said of the posts of a reader.
use Rattle.std.proofs.Common.{◌≡◌, ◌≢◌, ℕ, ◌+◌, ◌==◌, eq-eqb, Bool, true, false, cond, List, [], ◌∷◌, ◌++◌, map, filter, set, append-nil, inl, inr, ⊎_elim, refl, sym, ap, ◌∙◌, subst}
use Rattle.std.specs.Prelude.{slice_index}
use mathlib.Core.Logic.{dite}
use mathlib.Core.Option.{Option, none, some}
use native.Mathlib.Decide.{ℕ_discrete}
use lib.ListN.{get_elem?}
use Rattle.atomic_table.proofs.Lists.{at_set, set_else}
use Rattle.sock_words.specs.declared.plain.Plan.{Plan}
use Rattle.sock_model.specs.ChainLawReads.{message, link_home}
use Rattle.sock_model.specs.UnplacedMessages.{HeadedBytes}
use Rattle.sock_io.specs.declared.link.Put.{Put}
use Rattle.sock_io.specs.declared.link.Ready.{Ready}
use Rattle.corr_core.specs.IdSlotWord.{parts}
use Rattle.seat_programs.specs.id_rule.specs.LawfulIdTable.{at_index}
use Rattle.seat_programs.specs.Asides.{Step, Found, LoadAt, PostId, TakeBytes, Taking}
use Rattle.seat_programs.specs.FoundAndChangedAside.{at_last, taking_in, found_in}
use Rattle.seat_programs.specs.Programs.{Program, Do, TakeMessage, TakeHome, PutHome, PutBytes, AskReady, Aside, Round, Say, Sent, Rest, Keep}
use Rattle.seat_programs.specs.Cores.{Core, SeatState, found_at, waiting_at}
use Rattle.seat_programs.specs.StepTables.{word_of}
use Rattle.seat_programs.specs.Ticks.{Answer, OfPut, OfReady, OfTake, Moment, taken, with_message, with_link, with_put, with_ready, with_found, step_with, tick_with, ticked}
use Rattle.refused_attempts.specs.attempted_calls.specs.Below.programs_allowed.specs.program_steps.proofs.TickCases.{ticks_first}
use Rattle.refused_attempts.specs.attempted_calls.specs.Below.outcome_stories.specs.OperationStories.{In}
use Rattle.refused_attempts.specs.attempted_calls.specs.Below.owing_ticks.proofs.OwingRuns.{same_first}
use Rattle.refused_attempts.specs.attempted_calls.specs.Below.run_theorems.specs.Heard.{as_taken, taken_link}
use Rattle.refused_attempts.specs.attempted_calls.specs.Below.call_stories.specs.PostsOfRun.{Post, posts_by, posted_with, posted_at}
use Rattle.refused_attempts.specs.attempted_calls.specs.Below.call_causes.proofs.HandledTicks.{take_of, taken_first}
use Rattle.refused_attempts.specs.attempted_calls.specs.accept_counts.specs.EndedCalls.{Load, loaded_with, loaded_at}
use Rattle.ended_calls.proofs.EndedReads.{Tells, MayPost, tell_first, tell_next}
use Rattle.refused_attempts.specs.attempted_calls.specs.accept_counts.proofs.ReadingsAtTicks.{found_by}
use Rattle.seat_programs.specs.LoopRounds.{first_step}
use Rattle.sock_words.specs.PackedWords.{call_id}

-- a tick leaves the other seats as they are
module _ (p : Plan) (c : Core) (m : Moment) (j : ℕ) (far : j ≢ m.seat) where
  moved : (x : SeatState) → get_elem? (set c.seats m.seat x) j ≡ get_elem? c.seats j
  moved x = set_else c.seats m.seat j x far

  module _ (seat : SeatState) where
    letter : (q : ℕ) (o : Option HeadedBytes) (next : HeadedBytes → Program) → get_elem? (with_message p m.seat seat c q o next).seats j ≡ get_elem? c.seats j
    letter q none next = refl
    letter q (some x) next = moved _

    home : (k : ℕ) (o : Option (List ℕ × ℕ)) (next : ℕ → Program) → get_elem? (with_link p m.seat seat c k o next).seats j ≡ get_elem? c.seats j
    home k none next = refl
    home k (some x) next = moved _

    put : (bytes : List ℕ) (a : Answer) (next : Put → Program) → get_elem? (with_put p m.seat seat c bytes a next).seats j ≡ get_elem? c.seats j
    put bytes (OfPut a) next = moved _
    put bytes _ next = refl

    ready : (a : Answer) (next : Ready → Program) → get_elem? (with_ready p m.seat seat c a next).seats j ≡ get_elem? c.seats j
    ready (OfReady a) next = moved _
    ready _ next = refl

    found_else : (step : Step) (o : Option (Found step)) (next : Found step → Program) → get_elem? (with_found p m.seat seat c step o next).seats j ≡ get_elem? c.seats j
    found_else step none next = refl
    found_else step (some found) next = moved _

    step_else : (x : Program) → get_elem? (step_with p m.seat seat c m.answer x).seats j ≡ get_elem? c.seats j
    step_else (Do call next) = moved _
    step_else (TakeMessage q next) = letter q (message (λ home. home) c.homes q) (λ letter. next letter.0 letter.1)
    step_else (TakeHome k next) = home k (link_home (λ home. home) p c.homes k) next
    step_else (PutHome k n after) = moved _
    step_else (PutBytes k asked bytes next) = put bytes m.answer next
    step_else (AskReady k next) = ready m.answer next
    step_else (Aside step next) = found_else step (found_in step c.calls (taken m.answer)) next
    step_else _ = refl

  by_seat_else : (o : Option SeatState) → get_elem? (elim o as (λ o. Core) [ none ↦ c | some seat ↦ tick_with p m.seat seat c m.answer seat.program ]).seats j ≡ get_elem? c.seats j
  by_seat_else none = refl
  by_seat_else (some seat) = ap (λ (d : Core). get_elem? d.seats j) (ticks_first p m.seat seat c m.answer seat.program) ∙ step_else seat (first_step seat.program)

  pub seats_else : get_elem? (ticked p c m).seats j ≡ get_elem? c.seats j
  seats_else = by_seat_else (get_elem? c.seats m.seat)

module _ (p : Plan) (n : ℕ) (At : ℕ → ℕ → Type 0) where
  -- of the reader of link n, behind these takes of the link
  abbrev pub HasTold : List Taking → Core → Type 0
  HasTold h c = (seat : SeatState) → get_elem? c.seats (32 + n) ≡ some seat → Tells n At h seat.program

  -- what a tick loads is known
  abbrev pub LoadsSo : Core → Moment → Type 0
  LoadsSo c m = (l : Load) → In l (loaded_at c m) → l.seat ≡ 32 + n → At l.operation l.word

  module _ (h : List Taking) (c : Core) (m : Moment) (before : HasTold h c) where
    still : (d : Core) → HasTold h d → HasTold (h ++ []) d
    still d x = subst (λ g. HasTold g d) (sym (append-nil h)) x

    -- its own step
    module _ (own : m.seat ≡ 32 + n) (loads : LoadsSo c m) (seat : SeatState) (at : get_elem? c.seats m.seat ≡ some seat) where
      set_own : (g : List Taking) (x : SeatState) → Tells n At g x.program → (s : SeatState) → get_elem? (set c.seats m.seat x) (32 + n) ≡ some s → Tells n At g s.program
      set_own g x t s at_s = ⊎_elim (λ a. subst (λ (y : SeatState). Tells n At g y.program) a.1 t) (λ a. absurd (a.0 (sym own))) (at_set c.seats m.seat (32 + n) x s at_s)

      beside : (step : Step) (next : Found step → Program) → ((found : Found step) → Tells n At h (next found)) → (o : Option (Found step)) → HasTold (h ++ []) (with_found p m.seat seat c step o next)
      beside step next x none = still c before
      beside step next x (some found) = still (with_found p m.seat seat c step (some found) next) (λ s at_s. set_own h _ (tell_next n At h _ (next found) (x found)) s at_s)

      takes : (l room : ℕ) (next : Taking → Program) → ((t : Taking) → Tells n At (h ++ t ∷ []) (next t)) → (a : Answer)
          → HasTold (h ++ map (at_last c.calls.ending) (as_taken (map (λ (j : ℕ). a) (l ∷ [])))) (with_found p m.seat seat c (TakeBytes l room) (taking_in c.calls.ending (taken a)) next)
      takes l room next x (OfTake t) = λ s at_s. set_own (h ++ at_last c.calls.ending t ∷ []) _ (tell_next n At (h ++ at_last c.calls.ending t ∷ []) _ (next (at_last c.calls.ending t)) (x (at_last c.calls.ending t))) s at_s
      takes l room next x _ = still c before

      loaded : (o : ℕ) (next : ℕ → Program) → first_step seat.program ≡ Aside (LoadAt o) next → At o (slice_index c.calls.words (at_index c.calls.plan o))
      loaded o next is = loads (record { seat = m.seat; operation = o; word = slice_index c.calls.words (at_index c.calls.plan o) }) (subst (In (record { seat = m.seat; operation = o; word = slice_index c.calls.words (at_index c.calls.plan o) })) (sym same) (inl refl)) own
        where
          same : loaded_at c m ≡ (record { seat = m.seat; operation = o; word = slice_index c.calls.words (at_index c.calls.plan o) }) ∷ []
          same = ap (λ x. elim x as (λ o. List Load) [ none ↦ [] | some seat ↦ loaded_with m.seat c.calls (taken m.answer) (first_step seat.program) ]) at ∙ ap (loaded_with m.seat c.calls (taken m.answer)) is

      own_step : (x : Program) → first_step seat.program ≡ x → Tells n At h x → HasTold (h ++ map (at_last c.calls.ending) (as_taken (map (λ (j : ℕ). m.answer) (filter (λ j. j == n) (take_of x))))) (step_with p m.seat seat c m.answer x)
      own_step (Aside (TakeBytes l room) next) is x = subst (λ b. HasTold (h ++ map (at_last c.calls.ending) (as_taken (map (λ (j : ℕ). m.answer) (cond b (l ∷ []) [])))) (step_with p m.seat seat c m.answer (Aside (TakeBytes l room) next))) (sym (eq-eqb l n x.0))
          (takes l room next x.1 m.answer)
      own_step (Aside (LoadAt o) next) is x = still (step_with p m.seat seat c m.answer (Aside (LoadAt o) next)) (λ s at_s. set_own h _ (tell_next n At h _ (next (slice_index c.calls.words (at_index c.calls.plan o))) (x (slice_index c.calls.words (at_index c.calls.plan o)) (loaded o next is))) s at_s)
      own_step (Aside (PostId i from e) next) is x = beside (PostId i from e) next x.1 (found_in (PostId i from e) c.calls (taken m.answer))
      own_step (Aside step next) is x = beside step next x (found_in step c.calls (taken m.answer))
      own_step (Do call next) is x = still (step_with p m.seat seat c m.answer (Do call next)) (λ s at_s. set_own h _ (tell_next n At h (waiting_at c.calls.waiting m.seat) (next (found_at c.words (word_of p call))) (x (found_at c.words (word_of p call)))) s at_s)
      own_step (Say o outcome next) is x = still c before
      own_step (Sent o next) is x = still c before
      own_step Rest is x = still c before
      own_step (Round head next) is x = still c before
      own_step (Keep r next) is x = still c before
      own_step _ is x = absurd x

      own_tick : HasTold (h ++ map (at_last c.calls.ending) (as_taken (map (λ (j : ℕ). m.answer) (filter (λ j. j == n) (taken_link seat.program))))) (tick_with p m.seat seat c m.answer seat.program)
      own_tick = subst (λ d. HasTold (h ++ map (at_last c.calls.ending) (as_taken (map (λ (j : ℕ). m.answer) (filter (λ j. j == n) (taken_link seat.program))))) d) (sym (ticks_first p m.seat seat c m.answer seat.program))
          (subst (λ l. HasTold (h ++ map (at_last c.calls.ending) (as_taken (map (λ (j : ℕ). m.answer) (filter (λ j. j == n) l)))) (step_with p m.seat seat c m.answer (first_step seat.program))) (sym (taken_first seat.program))
          (own_step (first_step seat.program) refl (tell_first n At h seat.program (before seat (sym (ap (get_elem? c.seats) own) ∙ at)))))

    -- any tick, where no other seat takes bytes of the link
    pub told_ticks : LoadsSo c m → ((seat : SeatState) → get_elem? c.seats m.seat ≡ some seat → m.seat ≢ 32 + n → filter (λ j. j == n) (taken_link seat.program) ≡ []) → HasTold (h ++ found_by c m n) (ticked p c m)
    told_ticks loads others = dite (ℕ_discrete m.seat (32 + n)) (λ own. near own (get_elem? c.seats m.seat) refl)
        (λ apart. subst (λ l. HasTold (h ++ l) (ticked p c m)) (sym (none_found apart (get_elem? c.seats m.seat) refl)) (still (ticked p c m) (λ s at. before s (sym (seats_else p c m (32 + n) (λ e. apart (sym e))) ∙ at))))
      where
        near : m.seat ≡ 32 + n → (o : Option SeatState) → get_elem? c.seats m.seat ≡ o
            → HasTold (h ++ map (at_last c.calls.ending) (as_taken (elim o as (λ o. List Answer) [ none ↦ [] | some s ↦ map (λ (j : ℕ). m.answer) (filter (λ j. j == n) (taken_link s.program)) ]))) (elim o as (λ o. Core) [ none ↦ c | some seat ↦ tick_with p m.seat seat c m.answer seat.program ])
        near own none e = still c before
        near own (some seat) e = own_tick own loads seat e

        none_found : m.seat ≢ 32 + n → (o : Option SeatState) → get_elem? c.seats m.seat ≡ o → map (at_last c.calls.ending) (as_taken (elim o as (λ o. List Answer) [ none ↦ [] | some s ↦ map (λ (j : ℕ). m.answer) (filter (λ j. j == n) (taken_link s.program)) ])) ≡ []
        none_found apart none e = refl
        none_found apart (some seat) e = ap (λ l. map (at_last c.calls.ending) (as_taken (map (λ (j : ℕ). m.answer) l))) (others seat e apart)

    -- what it posts
    pub told_posts : m.seat ≡ 32 + n → (x : Post) → In x (posted_at c m) → MayPost n At h x.id x.error
    told_posts own x there = by_seat (get_elem? c.seats m.seat) refl there
      where
        by_step : (step : Step) (next : Found step → Program) → Tells n At h (Aside step next) → (o : Option (Found step)) → In x (elim o as (λ o. List Post) [ none ↦ [] | some found ↦ posts_by step found ]) → MayPost n At h x.id x.error
        by_step (PostId i from e) next t none z = absurd z
        by_step (PostId i from e) next t (some found) z = by_test (found == from) z
          where
            by_test : (b : Bool) → In x (cond b ((record { id = call_id i (parts from).first; error = e }) ∷ []) []) → MayPost n At h x.id x.error
            by_test true (inl same) = subst (λ (y : Post). MayPost n At h y.id y.error) (sym same) t.0
            by_test true (inr z) = absurd z
            by_test false z = absurd z
        by_step _ next t none z = absurd z
        by_step _ next t (some found) z = absurd z

        by_program : (program : Program) → Tells n At h program → In x (posted_with c.calls (taken m.answer) program) → MayPost n At h x.id x.error
        by_program (Aside step next) t z = by_step step next t (found_in step c.calls (taken m.answer)) z
        by_program _ t z = absurd z

        by_seat : (o : Option SeatState) → get_elem? c.seats m.seat ≡ o → In x (elim o as (λ o. List Post) [ none ↦ [] | some seat ↦ posted_with c.calls (taken m.answer) (first_step seat.program) ]) → MayPost n At h x.id x.error
        by_seat none e z = absurd z
        by_seat (some seat) e z = by_program (first_step seat.program) (tell_first n At h seat.program (before seat (sym (ap (get_elem? c.seats) own) ∙ e))) (subst (λ y. In x (posted_with c.calls (taken m.answer) y)) (same_first seat.program) z)
