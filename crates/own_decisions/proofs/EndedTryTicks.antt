-- Each tick keeps that no attempt has two at words.
use Rattle.std.proofs.Common.{◌≡◌, ◌≢◌, ℕ, ◌+◌, ◌<◌, ◌≤◌, ◌⊎◌, inl, inr, ⊎_elim, Bool, true, false, cond, eqb, eqb-true, List, [], ◌∷◌, ◌++◌, length-set, set, refl, sym, ap, ◌∙◌, subst, arith}
use Rattle.std.specs.List.{AllByRecursion}
use Rattle.std.specs.Prelude as std
use mathlib.Core.Logic.{dite}
use native.Mathlib.Decide.{ℕ_discrete}
use mathlib.Core.Option.{Option, some, none}
use lib.ListN.{get_elem?}
use Rattle.sock_words.specs.declared.plain.Plan.{Plan}
use Rattle.sock_words.specs.PackedWords.{at_word, at_word_attempt, call_id, id_slot, id_first}
use Rattle.sock_model.specs.declared.home.Home.{Home}
use Rattle.sock_model.specs.declared.view.View.{View}
use Rattle.sent_once.specs.Below.slot_steps.proofs.SlotWeightSums.{term_le, total-append}
use Rattle.corr_core.specs.IdSlotWord.{parts}
use Rattle.corr_core.specs.declared.marks.Plan.{Plan as IdPlan}
use Rattle.sent_once.specs.Below.id_runs.specs.HeldIdTokens.{IdView, MayId}
use Rattle.sent_once.specs.Below.id_runs.specs.Goes.{FindsId, SoundIds, IsFittingIds}
use Rattle.sent_once.specs.Below.id_runs.proofs.AsideStepsKeepRule.{finds_ids}
use Rattle.seat_programs.specs.Asides.{Step, Found, PutCall, MakeId, StoreCall, StoreAt, UnlockId, TakeCall, Taking}
use Rattle.sock_message.specs.Asked.{Asked}
use Rattle.seat_programs.specs.FoundAndChangedAside.{found_in, calls_after}
use Rattle.seat_programs.specs.TableSteps.{TableStep, OnMessage, PutMessage}
use Rattle.seat_programs.specs.LoopHeads.{Retry}
use Rattle.seat_programs.specs.Programs.{Program, Do, Say, Sent, Rest, TakeMessage, TakeHome, PutHome, PutBytes, AskReady, Aside, Keep, Retries}
use Rattle.seat_programs.specs.Cores.{Calls, Core, SeatState, found_at, words_after, homes_after, hand_after, lies_at, first_of, others_of, link_place, resolved, still_waiting, waiting_at, next_step, with_seat}
use Rattle.seat_programs.specs.StepTables.{word_of, word_after}
use Rattle.seat_programs.specs.Ticks.{Moment, IsAnswered, fed, with_places, onto_first, taken, step_with, tick_with, ticked}
use Rattle.sent_once.specs.Below.programs_allowed.specs.program_steps.specs.SoundSeats.{Sound}
use Rattle.sent_once.specs.Below.programs_allowed.specs.program_steps.proofs.TickCases.{tick_cases, ticks_first, calls_waiting}
use Rattle.sent_once.specs.Below.outcome_stories.specs.OperationStories.{In}
use Rattle.sent_once.specs.Below.label_runs.specs.AttemptLabelsLeft.{Trial, Idle, Tries, put_behind, Kept, Storing, unlocked_trial, Labels}
use Rattle.sent_once.specs.accept_counts.specs.AttemptCounts.{pair_of, of_retry, with_waiting, WasMade, WasNow, StoresOwn}
use Rattle.sent_once.specs.accept_counts.specs.EndedCalls.{Store, stores_by, stored_at}
use Rattle.sent_once.specs.accept_counts.proofs.IdWordsGoForward.{made_on, finds_label, words_forward, makes_new, advances_new}
use Rattle.sent_once.specs.Below.outcome_stories.proofs.HomeCalls.{AreCalls, PutsAsked, calls_behind}
use Rattle.sent_once.specs.accept_counts.proofs.TicksKeepAttemptLaw.{few_more, few_of, fits_as, pair_now, untried, waiting_set, once_more, old_or_new, pairs_set, labels_first}
use Rattle.sent_once.specs.Below.story_ticks.proofs.SaidBeforeNextStep.{AreFewTries as AreTries}
use Rattle.sent_once.specs.Below.label_runs.proofs.ProgramsKeepAttempts.{retry_goes}
use Rattle.sent_once.specs.accept_counts.proofs.SeatFacts.{seat_facts}
use Rattle.own_decisions.proofs.OwnDecisionsTicks.{pair_self}
use Rattle.seat_programs.specs.LoopRounds.{first_step}
use Rattle.sock_words.specs.Totals.{total}

-- ## Attempts that are tried

-- 1 where the seat tries attempt n of the call with this id, and hasn't stored its at word
abbrev pub of_try : ℕ → ℕ → Trial → ℕ
of_try id n (Tries i m) = pair_of id n i m
of_try id n other = 0

abbrev pub tries_of : ℕ → ℕ → Core → List Trial → ℕ
tries_of = with_waiting of_try

module _ (is_call : Asked → Type 0) (ids : ℕ → ℕ) (q : IdPlan) where
  -- the at word was stored for an attempt that nobody tries any more
  pub record IsGone (c : Core) (ts : List Trial) (x : Store) : Type 0 where
    pub attempt : ℕ
    pub link : ℕ
    pub word : x.word ≡ at_word (id_first (ids x.operation)) (id_slot (ids x.operation)) link attempt
    pub small : link < 65535
    pub few : attempt ≤ 6
    pub slot : id_slot (ids x.operation) < 65536
    pub none_ : tries_of (ids x.operation) attempt c ts ≡ 0
    pub made : WasMade q c.calls.words (ids x.operation) attempt

  pub record OnceLaw (done : List Store) (c : Core) (ts : List Trial) : Type 0 where
    pub once : (id n : ℕ) → tries_of id n c ts ≤ 1
    pub made : (id n : ℕ) → 0 < tries_of id n c ts → WasMade q c.calls.words id n
    pub calls : AreCalls is_call c.calls
    pub each : std.length ts ≡ std.length c.seats
    pub programs : (j : ℕ) (seat : SeatState) (t : Trial) → get_elem? c.seats j ≡ some seat → get_elem? ts j ≡ some t → Labels is_call t seat.program
    pub gone : (x : Store) → In x done → IsGone c ts x
    pub single : (x y : Store) → In x done → In y done → x.operation ≡ y.operation → at_word_attempt x.word ≡ at_word_attempt y.word → x.word ≡ y.word

-- ## Sums

word_attempt : (f s k n : ℕ) → f < 4294967296 → s < 65536 → k < 65535 → n ≤ 6 → at_word_attempt (at_word f s k n) ≡ n
word_attempt f s k n first slot link few = omega (arith, first, slot, link, few)

-- ## Retries that are kept and taken up

record Resolved (is_call : Asked → Type 0) (t : Trial) (ws : List Retry) (x : Program) : Type 0 where
  pub trial : Trial
  pub stows : Labels is_call trial (next_step (resolved ws x))
  pub fewer : (id n : ℕ) → of_try id n trial + total (of_retry id n) (still_waiting ws x) ≤ of_try id n t + total (of_retry id n) ws

stays : (is_call : Asked → Type 0) (t : Trial) (ws : List Retry) (x : Program) → Labels is_call t (next_step (resolved ws x)) → still_waiting ws x ≡ ws → Resolved is_call t ws x
stays is_call t ws x g e = record { trial = t; stows = g; fewer = λ id n. (let z : total (of_retry id n) (still_waiting ws x) ≡ total (of_retry id n) ws = ap (total (of_retry id n)) e in omega (arith, z)) }

resolves : (is_call : Asked → Type 0) (t : Trial) (ws : List Retry) (x : Program) → AreTries ws → Labels is_call t x → Resolved is_call t ws x
resolves is_call t ws (Say o outcome next) few g = let r = resolves is_call t ws next few g in record { trial = r.trial; stows = r.stows; fewer = r.fewer }
resolves is_call t ws (Sent o next) few g = let r = resolves is_call t ws next few g in record { trial = r.trial; stows = r.stows; fewer = r.fewer }
resolves is_call t ws (Keep k next) few g = let r = resolves is_call Idle (ws ++ k ∷ []) next (few_more ws k few g.1) g.2 in record {
  trial = r.trial;
  stows = r.stows;
  fewer = λ id n. (let a = r.fewer id n in let b : total (of_retry id n) (ws ++ k ∷ []) ≡ total (of_retry id n) ws + (of_retry id n k + 0) = total-append (of_retry id n) ws (k ∷ []) in let e : of_try id n t ≡ of_retry id n k = ap (of_try id n) g.0 in omega (arith, a, b, e));
}
resolves is_call t [] (Retries requests after) few g = let r = resolves is_call Idle [] after tt g in record { trial = r.trial; stows = r.stows; fewer = λ id n. (let a = r.fewer id n in omega (arith, a)) }
resolves is_call t (k ∷ ws) (Retries requests after) few g = record { trial = Tries k.id k.attempt; stows = retry_goes is_call requests k.id k.attempt (Retries requests after) few.0 g; fewer = λ id n. omega arith }
resolves is_call t ws program few g = stays is_call t ws program g refl

kept_count : (id n : ℕ) (t u : Trial) → Kept t u → of_try id n u ≤ of_try id n t
kept_count id n t u (inl e) = let z : of_try id n u ≡ of_try id n t = ap (of_try id n) e in omega (arith, z)
kept_count id n t u (inr e) = let z : of_try id n u ≡ 0 = ap (of_try id n) e in omega (arith, z)

put_count : (id n : ℕ) (t : Trial) (call : TableStep) → of_try id n (put_behind t call) ≤ of_try id n t
put_count id n t (OnMessage (PutMessage r heading bytes)) = omega arith
put_count id n t _ = omega arith

-- ## A tick

module _ (p : Plan) (q : IdPlan) (narrow : q.slots ≤ 65536) (is_call : Asked → Type 0) (ids : ℕ → ℕ) (done : List Store) (c : Core) (ts : List Trial) (law : OnceLaw is_call ids q done c ts) (us : List IdView) (real_ids : SoundIds p q c us) where
  module _ (i : ℕ) (seat : SeatState) (t : Trial) (at_seat : get_elem? c.seats i ≡ some seat) (at_trial : get_elem? ts i ≡ some t) where
    -- the seat goes on with this program and trial; these attempts are made by the step
    record Goes (a : Calls) (x : Program) (u : Trial) : Type 0 where
      pub stows : Labels is_call u x
      pub kept : a.waiting ≡ c.calls.waiting
      pub words : (id n : ℕ) → WasMade q c.calls.words id n → WasMade q a.words id n
      pub calls : AreCalls is_call a
      pub new : ℕ → ℕ → ℕ
      pub fewer : (id n : ℕ) → of_try id n u ≤ of_try id n t + new id n
      pub fresh : (id n : ℕ) → 0 < new id n → (new id n ≤ 1) × (tries_of id n c ts ≡ 0) × WasNow q a.words id n × (WasMade q c.calls.words id n → ⊥)

    -- behind it; and how often an attempt is tried
    pub record After (d : Core) (u : Trial) (new : ℕ → ℕ → ℕ) : Type 0 where
      pub trials : List Trial
      pub behind : OnceLaw is_call ids q done d trials
      pub bound : (id n : ℕ) → tries_of id n d trials + of_try id n t ≤ tries_of id n c ts + of_try id n u

    module _ (a : Calls) (x : Program) (hand : List Home) (ws : List ℕ) (hs : List (Option Home)) (u : Trial) (g : Goes a x u) where
      few : AreTries (waiting_at a.waiting i)
      few = few_of q (waiting_at a.waiting i) (subst (λ (l : List (List Retry)). AllByRecursion (Rattle.sent_once.specs.Below.id_runs.specs.Goes.FitsRetryId q) (waiting_at l i)) (sym g.kept) (real_ids.waiting i))

      abbrev r : Resolved is_call u (waiting_at a.waiting i) x
      r = resolves is_call u (waiting_at a.waiting i) x few g.stows

      abbrev next_seat : SeatState
      next_seat = record { program = next_step (resolved (waiting_at a.waiting i) x); hand = hand }

      near : (id n : ℕ) → tries_of id n (with_seat i x hand ws hs (record c { calls = a })) (set ts i r.trial) + of_try id n t ≤ tries_of id n c ts + of_try id n u
      near id n = waiting_set (of_try id n) (of_retry id n) ts i t r.trial u a.waiting c.calls.waiting (still_waiting (waiting_at a.waiting i) x) at_trial g.kept (r.fewer id n)

      bound : (id n : ℕ) → tries_of id n (with_seat i x hand ws hs (record c { calls = a })) (set ts i r.trial) ≤ tries_of id n c ts + g.new id n
      bound id n = let b = near id n in let f = g.fewer id n in omega (arith, b, f)

      still_gone : (y : Store) → IsGone is_call ids q c ts y → IsGone is_call ids q (with_seat i x hand ws hs (record c { calls = a })) (set ts i r.trial) y
      still_gone y z = record {
        attempt = z.attempt;
        link = z.link;
        word = z.word;
        small = z.small;
        few = z.few;
        slot = z.slot;
        none_ = dite (ℕ_discrete (g.new (ids y.operation) z.attempt) 0) (λ e. let b = bound (ids y.operation) z.attempt in let n = z.none_ in omega (arith, b, e, n))
            (λ ne. absurd ((g.fresh (ids y.operation) z.attempt (omega (arith, ne))).3 z.made));
        made = g.words (ids y.operation) z.attempt z.made;
      }

      goes_on : After (with_seat i x hand ws hs (record c { calls = a })) u g.new
      goes_on = record {
        trials = set ts i r.trial;
        behind = record {
          once = λ id n. once_more _ (g.new id n) _ (bound id n) (law.once id n) (λ more. let f = g.fresh id n more in (f.0, f.1));
          made = λ id n some_. old_or_new _ (g.new id n) _ (bound id n) (λ there. g.words id n (law.made id n there)) (λ more. let f = g.fresh id n more in (f.2.0, inr f.2.1)) some_;
          calls = g.calls;
          each = length-set ts i r.trial ∙ (law.each ∙ sym (length-set c.seats i next_seat));
          programs = pairs_set (λ (y : Trial) (z : SeatState). Labels is_call y z.program) c.seats ts i next_seat r.trial law.programs r.stows;
          gone = λ y there. still_gone y (law.gone y there);
          single = law.single;
        };
        bound = near;
      }

    abbrev none_new : ℕ → ℕ → ℕ
    none_new id n = 0

    -- a step that leaves the table of the ids, behind which the seat tries no more
    leaves : (x : Program) (hand : List Home) (ws : List ℕ) (hs : List (Option Home)) (u : Trial) → ((id n : ℕ) → of_try id n u ≤ of_try id n t) → Labels is_call u x → After (with_seat i x hand ws hs (record c { calls = c.calls })) u none_new
    leaves x hand ws hs u fewer g = goes_on c.calls x hand ws hs u record {
      stows = g;
      kept = refl;
      words = λ id n m. m;
      calls = law.calls;
      new = λ id n. 0;
      fewer = λ id n. (let a = fewer id n in omega (arith, a));
      fresh = λ id n z. absurd (omega (arith, z));
    }

    pub moves : (x : Program) (hand : List Home) (hs : List (Option Home)) → Labels is_call Idle x → After (with_seat i x hand c.words hs (record c { calls = c.calls })) Idle none_new
    moves x hand hs g = leaves x hand c.words hs Idle (λ id n. omega arith) g

    module _ (u : IdView) (at : get_elem? us i ≡ some u) (step : Step) (next : Found step → Program) (found : Found step) (answer : Option Taking) (is : found_in step c.calls answer ≡ some found) (may : MayId p q u step) (puts : PutsAsked is_call step) where
      finds : FindsId p q u step found
      finds = finds_ids p q c.calls real_ids.plan us real_ids.rule i u at (real_ids.real i u at) (real_ids.called, real_ids.placed) real_ids.homes step answer found is may

      words_on : (id n : ℕ) → WasMade q c.calls.words id n → WasMade q (calls_after step found c.calls).words id n
      words_on = made_on q c.calls.words (calls_after step found c.calls).words (words_forward p q c us real_ids i u at step answer found is may finds)

      -- the attempt of the seat stays, or is given up
      aside : (w : Trial) → Labels is_call w (next found) → ((id n : ℕ) → of_try id n w ≤ of_try id n t) → After (with_seat i (next found) seat.hand c.words c.homes (record c { calls = calls_after step found c.calls })) w none_new
      aside w g fewer = goes_on (calls_after step found c.calls) (next found) seat.hand c.words c.homes w record {
        stows = g;
        kept = calls_waiting step found c.calls;
        words = words_on;
        calls = calls_behind is_call step found c.calls puts law.calls;
        new = λ id n. 0;
        fewer = λ id n. (let a = fewer id n in omega (arith, a));
        fresh = λ id n z. absurd (omega (arith, z));
      }

      -- a new attempt
      makes : (id₀ n₀ : ℕ) → Labels is_call (Tries id₀ n₀) (next found) → WasNow q (calls_after step found c.calls).words id₀ n₀ → (WasMade q c.calls.words id₀ n₀ → ⊥) → After (with_seat i (next found) seat.hand c.words c.homes (record c { calls = calls_after step found c.calls })) (Tries id₀ n₀) (λ id n. pair_of id n id₀ n₀)
      makes id₀ n₀ g made unmade = goes_on (calls_after step found c.calls) (next found) seat.hand c.words c.homes (Tries id₀ n₀) record {
        stows = g;
        kept = calls_waiting step found c.calls;
        words = words_on;
        calls = calls_behind is_call step found c.calls puts law.calls;
        new = λ id n. pair_of id n id₀ n₀;
        fewer = λ id n. omega arith;
        fresh = λ id n some_. let m = pair_now q c.calls.words (calls_after step found c.calls).words id₀ n₀ made unmade id n some_ in (m.0, untried (tries_of id n c ts) (law.made id n) m.2, m.1, m.2);
      }

    abbrev pub End : List Store → Core → Type 0
    End more d = (xs : List Trial) × OnceLaw is_call ids q more d xs

    module _ (u : IdView) (at : get_elem? us i ≡ some u) where
      -- the slot of an id that the seat tries is one of the table
      tried : (id n : ℕ) → t ≡ Tries id n → 0 < tries_of id n c ts
      tried id n e = let here : of_try id n t ≡ 1 = ap (of_try id n) e ∙ pair_self id n in let some_ = term_le (of_try id n) ts i t at_trial in omega (arith, here, some_)

      module _ (o w : ℕ) (next : ℕ → Program) (found : ℕ) (answer : Option Taking) (is : found_in (StoreAt o w) c.calls answer ≡ some found) (may : MayId p q u (StoreAt o w))
          (own : (id n k : ℕ) → w ≡ at_word (id_first id) (id_slot id) k n → k < 65535 → n ≤ 6 → id_slot id < 65536 → (ids o ≡ id) × (id ≢ 0)) (x : Trial) (s : Storing o w t x) (g : Labels is_call x (next found)) where
        abbrev d : Core
        d = with_seat i (next found) seat.hand c.words c.homes (record c { calls = calls_after (StoreAt o w) found c.calls })

        b : After (with_seat i (next found) seat.hand c.words c.homes (record c { calls = calls_after (StoreAt o w) found c.calls })) x none_new
        b = aside u at (StoreAt o w) next found answer is may tt x g (λ id n. (let z : of_try id n x ≡ 0 = ap (of_try id n) s.7 in omega (arith, z)))

        slot : id_slot s.0 < 65536
        slot = let made = (law.made s.0 s.1 (tried s.0 s.1 s.3)).0 in omega (arith, made, narrow)

        id_is : ids o ≡ s.0
        id_is = (own s.0 s.1 s.2 s.4 s.5 s.6 slot).0

        attempt_is : at_word_attempt w ≡ s.1
        attempt_is = let first : id_first s.0 < 4294967296 = omega arith in ap at_word_attempt s.4 ∙ word_attempt (id_first s.0) (id_slot s.0) s.2 s.1 first slot s.5 s.6

        none_left : tries_of s.0 s.1 d b.trials ≡ 0
        none_left = let near = b.bound s.0 s.1 in let mine : of_try s.0 s.1 t ≡ 1 = ap (of_try s.0 s.1) s.3 ∙ pair_self s.0 s.1 in let z : of_try s.0 s.1 x ≡ 0 = ap (of_try s.0 s.1) s.7 in let one = law.once s.0 s.1 in omega (arith, near, mine, z, one)

        now : IsGone is_call ids q d b.trials (record { operation = o; word = w })
        now = record {
          attempt = s.1;
          link = s.2;
          word = s.4 ∙ ap (λ z. at_word (id_first z) (id_slot z) s.2 s.1) (sym id_is);
          small = s.5;
          few = s.6;
          slot = subst (λ z. id_slot z < 65536) (sym id_is) slot;
          none_ = subst (λ z. tries_of z s.1 d b.trials ≡ 0) (sym id_is) none_left;
          made = subst (λ z. WasMade q (calls_after (StoreAt o w) found c.calls).words z s.1) (sym id_is) (words_on u at (StoreAt o w) next found answer is may tt s.0 s.1 (law.made s.0 s.1 (tried s.0 s.1 s.3)));
        }

        -- none was stored before for the attempt
        apart : (y : Store) → In y done → y.operation ≡ o → at_word_attempt y.word ≡ at_word_attempt w → ⊥
        apart y there op same = let old = law.gone y there in let first : id_first (ids y.operation) < 4294967296 = omega arith in
            let n_is : old.attempt ≡ s.1 = sym (word_attempt (id_first (ids y.operation)) (id_slot (ids y.operation)) old.link old.attempt first old.slot old.small old.few) ∙ (sym (ap at_word_attempt old.word) ∙ (same ∙ attempt_is)) in
            let none_now : tries_of s.0 s.1 c ts ≡ 0 = subst (λ z. tries_of z s.1 c ts ≡ 0) (ap ids op ∙ id_is) (subst (λ z. tries_of (ids y.operation) z c ts ≡ 0) n_is old.none_) in
            let some_ = tried s.0 s.1 s.3 in omega (arith, none_now, some_)

        single_now : (y z : Store) → (y ≡ record { operation = o; word = w }) ⊎ In y done → (z ≡ record { operation = o; word = w }) ⊎ In z done → y.operation ≡ z.operation → at_word_attempt y.word ≡ at_word_attempt z.word → y.word ≡ z.word
        single_now y z (inl e) (inl f) same_op same_attempt = ap (λ (v : Store). v.word) e ∙ sym (ap (λ (v : Store). v.word) f)
        single_now y z (inl e) (inr m) same_op same_attempt = absurd (apart z m (sym same_op ∙ ap (λ (v : Store). v.operation) e) (sym same_attempt ∙ ap (λ (v : Store). at_word_attempt v.word) e))
        single_now y z (inr m) (inl f) same_op same_attempt = absurd (apart y m (same_op ∙ ap (λ (v : Store). v.operation) f) (same_attempt ∙ ap (λ (v : Store). at_word_attempt v.word) f))
        single_now y z (inr m) (inr k) same_op same_attempt = law.single y z m k same_op same_attempt

        stored : End ((record { operation = o; word = w }) ∷ done) (with_seat i (next found) seat.hand c.words c.homes (record c { calls = calls_after (StoreAt o w) found c.calls }))
        stored = let l = b.behind in (
          b.trials,
          record { once = l.once; made = l.made; calls = l.calls; each = l.each; programs = l.programs; gone = λ y there. ⊎_elim (λ e. subst (IsGone is_call ids q d b.trials) (sym e) now) (λ m. l.gone y m) there; single = single_now },
        )

      -- each step aside
      asides : (step : Step) (next : Found step → Program) (found : Found step) (answer : Option Taking) → found_in step c.calls answer ≡ some found → MayId p q u step → Labels is_call t (Aside step next)
          → ((o w : ℕ) → step ≡ StoreAt o w → (id n k : ℕ) → w ≡ at_word (id_first id) (id_slot id) k n → k < 65535 → n ≤ 6 → id_slot id < 65536 → (ids o ≡ id) × (id ≢ 0))
          → End (stores_by (Aside step next) ++ done) (with_seat i (next found) seat.hand c.words c.homes (record c { calls = calls_after step found c.calls }))
      asides (MakeId k range) next found answer is may g own = let x = g found tt in let m = makes_new p q c us real_ids i u at k range found is may (finds u at (MakeId k range) next found answer is may tt) in
          let b = makes u at (MakeId k range) next found answer is may tt (call_id k (parts found).first) 0 (subst (λ y. Labels is_call y (next found)) x.1 x.2) m.0 (m.1 0) in (b.trials, b.behind)
      asides (StoreAt o w) next found answer is may g own = let x = g found tt in stored o w next found answer is may (own o w refl) x.0 x.1 x.2
      asides (UnlockId k from false) next found answer is may g own = let l = finds_label p q c us real_ids i u at (UnlockId k from false) found may (finds u at (UnlockId k from false) next found answer is may tt) in let x = g found l in
          let b = aside u at (UnlockId k from false) next found answer is may tt x.0 x.2 (λ id n. kept_count id n t x.0 (inl x.1)) in (b.trials, b.behind)
      asides (UnlockId k from true) next found answer is may g own = let l = finds_label p q c us real_ids i u at (UnlockId k from true) found may (finds u at (UnlockId k from true) next found answer is may tt) in let x = g found l in by (eqb found from) refl x.0 x.1 x.2
        where
          by : (b : Bool) → eqb found from ≡ b → (y : Trial) → y ≡ unlocked_trial k from true found t → Labels is_call y (next found) → End done (with_seat i (next found) seat.hand c.words c.homes (record c { calls = calls_after (UnlockId k from true) found c.calls }))
          by true hit y e h = let m = advances_new p q c us real_ids i u at k from found is (eqb-true found from hit) may (finds_label p q c us real_ids i u at (UnlockId k from true) found may (finds u at (UnlockId k from true) next found answer is may tt)) in
              let b = makes u at (UnlockId k from true) next found answer is may tt (call_id k (parts from).first) ((parts from).attempt + 1) (subst (λ z. Labels is_call z (next found)) (e ∙ ap (λ b. cond b (Tries (call_id k (parts from).first) ((parts from).attempt + 1)) t) hit) h) m.0 m.1 in (b.trials, b.behind)
          by false miss y e h = let b = aside u at (UnlockId k from true) next found answer is may tt y h (λ id n. kept_count id n t y (inl (e ∙ ap (λ b. cond b (Tries (call_id k (parts from).first) ((parts from).attempt + 1)) t) miss))) in (b.trials, b.behind)
      asides (PutCall k asked) next found answer is may g own = let x = g found tt in let b = aside u at (PutCall k asked) next found answer is may x.1.1 x.0 x.2 (λ id n. kept_count id n t x.0 x.1.0) in (b.trials, b.behind)
      asides (StoreCall o id) next found answer is may g own = let x = g found tt in let b = aside u at (StoreCall o id) next found answer is may tt x.0 x.2 (λ id n. kept_count id n t x.0 x.1) in (b.trials, b.behind)
      asides (TakeCall k) next found answer is may g own = let x = g found (law.calls k found is) in let b = aside u at (TakeCall k) next found answer is may tt x.0 x.2 (λ id n. kept_count id n t x.0 x.1) in (b.trials, b.behind)
      asides other next found answer is may g own = let x = g found tt in let b = aside u at other next found answer is may tt x.0 x.2 (λ id n. kept_count id n t x.0 x.1) in (b.trials, b.behind)

  -- a tick of any seat
  module _ (vs : List View) (sound : Sound p c vs) (m : Moment) (answered : IsAnswered c m) (fitting : IsFittingIds p c m) (own : StoresOwn ids c m) where
    abbrev Result : Core → Type 0
    Result d = (xs : List Trial) × OnceLaw is_call ids q (stored_at c m ++ done) d xs

    open seat_facts (Labels is_call) (labels_first is_call) p q narrow c ts law.each law.programs us real_ids m.seat use {stand_of as trial_of, view_of, first_as, may_as}

    -- what the tick stores
    as_stored : (seat : SeatState) → get_elem? c.seats m.seat ≡ some seat → (x : Program) → first_step seat.program ≡ x → (d : Core) → (xs : List Trial) × OnceLaw is_call ids q (stores_by x ++ done) d xs → Result d
    as_stored seat at x is d r = subst (λ l. (xs : List Trial) × OnceLaw is_call ids q (l ++ done) d xs) (sym (ap (λ x. elim x as (λ o. List Store) [ none ↦ [] | some seat ↦ stores_by (first_step seat.program) ]) at ∙ ap stores_by is)) r

    -- where it stores none
    quiet : stored_at c m ≡ [] → Result (ticked p c m)
    quiet none_ = tick_cases p c vs m sound answered (λ d ws. Result d) (subst (λ l. (xs : List Trial) × OnceLaw is_call ids q (l ++ done) c xs) (sym none_) (ts, law))
        (λ seat v call next at here is goes. let t = trial_of seat at in let g = first_as seat at (Do call next) is in let u = g.1 (found_at c.words (word_of p call)) (fits_as p c seat.program call next is (fitting seat at)) in
        let b = leaves m.seat seat t.0 at t.1 (next (found_at c.words (word_of p call))) (hand_after p call c.homes seat.hand) (words_after c.words (word_of p call) (word_after call (found_at c.words (word_of p call)))) (Rattle.seat_programs.specs.Cores.homes_after p call seat.hand c.homes) u.0
        (λ id n. (let x = kept_count id n (put_behind t.0 call) u.0 u.1 in let y = put_count id n t.0 call in omega (arith, x, y))) u.2 in as_stored seat at (Do call next) is _ (b.trials, b.behind))
        (λ seat v r next heading bytes at here is goes lies. let t = trial_of seat at in let b = moves m.seat seat t.0 at t.1 (next heading bytes) seat.hand (set c.homes r none) (first_as seat at (TakeMessage r next) is heading bytes) in as_stored seat at (TakeMessage r next) is _ (b.trials, b.behind))
        (λ seat v k next took n at here is goes lies. let t = trial_of seat at in let b = moves m.seat seat t.0 at t.1 (next n) (lies_at c.homes (link_place p k) ++ seat.hand) (set c.homes (link_place p k) none) (first_as seat at (TakeHome k next) is n) in as_stored seat at (TakeHome k next) is _ (b.trials, b.behind))
        (λ seat v k n after at here is goes. let t = trial_of seat at in let b = moves m.seat seat t.0 at t.1 after (others_of seat.hand) (set c.homes (link_place p k) (first_of (onto_first (with_places n) seat.hand))) (first_as seat at (PutHome k n after) is) in as_stored seat at (PutHome k n after) is _ (b.trials, b.behind))
        (λ seat v k asked bytes next answer at here is goes answer_is fits. let t = trial_of seat at in let b = moves m.seat seat t.0 at t.1 (next answer) (onto_first (fed bytes answer) seat.hand) c.homes (first_as seat at (PutBytes k asked bytes next) is answer) in as_stored seat at (PutBytes k asked bytes next) is _ (b.trials, b.behind))
        (λ seat v k next answer at here is goes answer_is. let t = trial_of seat at in let b = moves m.seat seat t.0 at t.1 (next answer) seat.hand c.homes (first_as seat at (AskReady k next) is answer) in as_stored seat at (AskReady k next) is _ (b.trials, b.behind))
        (λ seat v s next found at here is goes found_is. let t = trial_of seat at in let u = view_of seat at in
        as_stored seat at (Aside s next) is _ (asides m.seat seat t.0 at t.1 u.0 u.1 s next found (taken m.answer) found_is (may_as seat at (Aside s next) is).0 (first_as seat at (Aside s next) is) (stored_own seat at s next is)))
      where
        stored_own : (seat : SeatState) → get_elem? c.seats m.seat ≡ some seat → (s : Step) (next : Found s → Program) → first_step seat.program ≡ Aside s next → (o w : ℕ) → s ≡ StoreAt o w → (id n k : ℕ) → w ≡ at_word (id_first id) (id_slot id) k n → k < 65535 → n ≤ 6 → id_slot id < 65536 → (ids o ≡ id) × (id ≢ 0)
        stored_own seat at (StoreAt o' w') next is o w e = λ id n k x low few small. own seat o w next at (is ∙ (let a : o' ≡ o = cc in let b : w' ≡ w = cc in λ z. Aside (StoreAt (a z) (b z)) next)) id n k x low few small
        stored_own seat at _ next is o w e = absurd (cc)

    -- where it stores one
    stores : (seat : SeatState) → get_elem? c.seats m.seat ≡ some seat → (o w : ℕ) (next : ℕ → Program) → first_step seat.program ≡ Aside (StoreAt o w) next → Result (ticked p c m)
    stores seat at o w next is = let t = trial_of seat at in let u = view_of seat at in let found : ℕ = std.slice_index c.calls.words (Rattle.seat_programs.specs.id_rule.specs.LawfulIdTable.at_index c.calls.plan o) in
        subst Result (sym after) (as_stored seat at (Aside (StoreAt o w) next) is _ (asides m.seat seat t.0 at t.1 u.0 u.1 (StoreAt o w) next (std.slice_index c.calls.words (Rattle.seat_programs.specs.id_rule.specs.LawfulIdTable.at_index c.calls.plan o)) (taken m.answer) refl (may_as seat at (Aside (StoreAt o w) next) is).0
        (first_as seat at (Aside (StoreAt o w) next) is) (λ o' w' e id n k x low few small. own seat o' w' next at (is ∙ ap (λ s. as_store s) e) id n k x low few small)))
      where
        after : ticked p c m ≡ step_with p m.seat seat c m.answer (Aside (StoreAt o w) next)
        after = ap (λ x. elim x as (λ x. Core) [ none ↦ c | some s ↦ tick_with p m.seat s c m.answer s.program ]) at ∙ (ticks_first p m.seat seat c m.answer seat.program ∙ ap (step_with p m.seat seat c m.answer) is)

        as_store : Step → Program
        as_store (StoreAt o' w') = Aside (StoreAt o' w') next
        as_store other = Rest

    pub once_ticks : Result (ticked p c m)
    once_ticks = by_seat (get_elem? c.seats m.seat) refl
      where
        by_program : (seat : SeatState) → get_elem? c.seats m.seat ≡ some seat → (x : Program) → first_step seat.program ≡ x → stored_at c m ≡ stores_by x → Result (ticked p c m)
        by_program seat at (Aside (StoreAt o w) next) is same = stores seat at o w next is
        by_program seat at (Aside step next) is same = quiet same
        by_program seat at _ is same = quiet same

        by_seat : (x : Option SeatState) → get_elem? c.seats m.seat ≡ x → Result (ticked p c m)
        by_seat none e = quiet (ap (λ x. elim x as (λ o. List Store) [ none ↦ [] | some seat ↦ stores_by (first_step seat.program) ]) e)
        by_seat (some seat) e = by_program seat e (first_step seat.program) refl (ap (λ x. elim x as (λ o. List Store) [ none ↦ [] | some seat ↦ stores_by (first_step seat.program) ]) e)
