-- In a whole run each post is a reader's, an expiry, that of a refused attempt of which nothing is left, or that of a dropped message.
use Rattle.std.proofs.Common.{◌≡◌, ℕ, zero, suc, ◌+◌, ◌-◌, ◌<◌, ◌≤◌, ◌⊎◌, inl, inr, ⊎_elim, Bool, true, false, nat_le, le-leb, leb-true, List, [], ◌∷◌, ◌++◌, length, map, replicate, refl, sym, ap, ◌∙◌, subst, arith}
use Rattle.std.specs.List.{AllByRecursion}
use Rattle.std.proofs.lemmas.List.{length-map, length-replicate}
use mathlib.Core.Option.{some, some-injective, some-ne-none}
use lib.ListN.{get_elem?}
use Rattle.sock_words.specs.declared.plain.Plan.{Plan}
use Rattle.sock_model.specs.declared.view.View.{View}
use Rattle.corr_core.specs.declared.marks.Plan.{Plan as IdPlan}
use Rattle.corr_core.proofs.NoteSums.{at_length}
use Rattle.sock_message.specs.Asked.{Asked}
use Rattle.seat_programs.specs.LoopHeads.{Retry}
use Rattle.seat_programs.specs.declared.task.Sizes.{Sizes}
use Rattle.seat_programs.specs.declared.task.Task.{Task}
use Rattle.seat_programs.specs.Programs.{Program, Do, Say, Sent, Rest, Write, Aside, Keep, Retries}
use Rattle.seat_programs.specs.ClientProgram.{client_from}
use Rattle.seat_programs.specs.ReaderProgram.{reader}
use Rattle.seat_programs.specs.Cores.{Core, SeatState, resolved, next_step, waiting_at}
use Rattle.seat_programs.specs.Ticks.{Moment, AreAnswered, ticked, run}
use Rattle.seat_programs.specs.Tasks.{calls}
use Rattle.seat_programs.specs.ScriptSetupToEnding.{programs, readers_from, all_programs, beginning}
use Rattle.attempted_calls.specs.Below.programs_allowed.specs.program_steps.specs.SoundSeats.{Sound, AreFitting, views_after, views_along}
use Rattle.attempted_calls.specs.Below.programs_allowed.specs.sock_runs.proofs.LinkTicks.{RetriesGo}
use Rattle.attempted_calls.specs.Below.programs_allowed.specs.sock_runs.proofs.TicksKeepSeatsSound.{sound_ticks}
use Rattle.attempted_calls.specs.Below.programs_allowed.specs.program_walks.proofs.OpenedLivesRecorded.{mapped}
use Rattle.attempted_calls.specs.Below.outcome_stories.specs.OperationStories.{In}
use Rattle.attempted_calls.specs.Below.outcome_causes.proofs.PlainOutcomeCauses.{in_both}
use Rattle.attempted_calls.specs.Below.label_runs.specs.AttemptLabelsLeft.{Trial, Idle}
use Rattle.attempted_calls.specs.Below.label_runs.proofs.OperationsKeepKnown.{OpCalls}
use Rattle.attempted_calls.specs.Below.call_stories.specs.Decided.{posted_by}
use Rattle.attempted_calls.specs.Below.call_stories.specs.PostsOfRun.{Post}
use Rattle.attempted_calls.specs.accept_counts.specs.AttemptCounts.{of_trial, of_view, times_of, TrialFits, AreLabelled}
use Rattle.attempted_calls.specs.accept_counts.specs.RefusedOrDropped.{Deed, DidStep, DidPut, DidRound, DidMiss, Doing, idle, trial_in, Charges, DidAt, DidIn, IsSpent, ChargeFits, ChargeLaw, PostKind, AllWouldOwn}
use Rattle.attempted_calls.specs.accept_counts.proofs.TicksKeepAttemptLaw.{label_ticks}
use Rattle.attempted_calls.specs.accept_counts.proofs.RunsKeepAttemptLaw.{IsBare, Lawful_, total_none, none_waits, bare_count}
use Rattle.refused_attempts.proofs.RefusedTicks.{charge_ticks}
use Rattle.attempted_calls.specs.accept_counts.proofs.PostSeats.{of_tick}
use Rattle.refused_attempts.proofs.RefusedPosts.{kind_more, tick_kinds}
use Rattle.refused_attempts.proofs.RefusedPrograms.{client_goes, reader_goes}
use Rattle.seat_programs.specs.LoopRounds.{first_step}
use Rattle.attempted_calls.specs.Below.outcome_stories.specs.Facts.{shown_in}

-- ## Lists

at_append : {A : Type 0} (xs ys : List A) (i : ℕ) (a : A) → get_elem? (xs ++ ys) i ≡ some a → (get_elem? xs i ≡ some a) ⊎ ((k : ℕ) × (i ≡ length xs + k) × (get_elem? ys k ≡ some a))
at_append [] ys i a e = inr (i, omega arith, e)
at_append (x ∷ xs) ys zero a e = inl e
at_append (x ∷ xs) ys (suc i) a e = ⊎_elim (λ t. inl t) (λ t. let n = t.1 in inr (t.0, omega (arith, n), t.2)) (at_append xs ys i a e)

in_replicate : {A : Type 0} (n : ℕ) (x : A) (i : ℕ) (a : A) → get_elem? (replicate n x) i ≡ some a → x ≡ a
in_replicate zero x i a e = absurd (some-ne-none a (sym e))
in_replicate (suc n) x zero a e = some-injective x a e
in_replicate (suc n) x (suc i) a e = in_replicate n x i a e

module _ (p : Plan) (q : IdPlan) (narrow : q.slots ≤ 65536) (is_call : Asked → Type 0) (ids : ℕ → ℕ) where
  abbrev Law : (ℕ → Deed → Type 0) → Core → List View → List Doing → Type 0
  Law Did c vs ss = ChargeLaw p.requests is_call ids p q Did c vs ss

  abbrev Spent : Core → List View → List Doing → ℕ → ℕ → Type 0
  Spent c vs ss id n = IsSpent p.requests is_call ids p q c vs ss id n

  abbrev Kind : (ℕ → Deed → Type 0) → (ℕ → ℕ → Type 0) → ℕ → Post → Type 0
  Kind Did Gone j x = PostKind p.requests is_call ids Did Gone j x

  all_more : (Did Done : ℕ → Deed → Type 0) (j : ℕ) → ((d : Deed) → Did j d → Done j d) → (ds : List Deed) → AllByRecursion (Did j) ds → AllByRecursion (Done j) ds
  all_more Did Done j f [] a = tt
  all_more Did Done j f (d ∷ ds) a = (f d a.0, all_more Did Done j f ds a.1)

  pub law_more : (Did Done : ℕ → Deed → Type 0) → ((j : ℕ) (d : Deed) → Did j d → Done j d) → (c : Core) (vs : List View) (ss : List Doing) → Law Did c vs ss → Law Done c vs ss
  law_more Did Done f c vs ss law = record { once = law.once; made = law.made; each = law.each; later = law.later; trials = law.trials; did = λ j s at. all_more Did Done j (f j) s.deeds (law.did j s at); due = law.due; programs = law.programs }

  -- ## Ticks one after another

  -- behind these ticks
  pub record Behind (Did : ℕ → Deed → Type 0) (c : Core) (vs : List View) (ss : List Doing) (ms : List Moment) : Type 0 where
    pub doings : List Doing
    pub law : Law (λ j d. Did j d ⊎ DidIn p c ms j d) (run p c ms) (views_along p c vs ms) doings
    pub spent : (id n : ℕ) → Spent c vs ss id n → Spent (run p c ms) (views_along p c vs ms) doings id n
    -- of the posts of each seat
    pub kinds : (j : ℕ) (x : Post) → In x (shown_in (posted_by j) p c ms) → Kind (λ j d. Did j d ⊎ DidIn p c ms j d) (Spent (run p c ms) (views_along p c vs ms) doings) j x

  pub run_charges : RetriesGo p → (ms : List Moment) (Did : ℕ → Deed → Type 0) (c : Core) (vs : List View) → Sound p c vs → AreAnswered p c ms → AreFitting p c ms → AreLabelled ids p q c ms → AllWouldOwn ids p c ms
      → Lawful_ p q narrow is_call ids c vs → (ss : List Doing) → Law Did c vs ss → Behind Did c vs ss ms
  run_charges go [] Did c vs sound answered fitting are own labels ss law = record { doings = ss; law = law_more Did (λ j d. Did j d ⊎ ⊥) (λ j d x. inl x) c vs ss law; spent = λ id n x. x; kinds = λ j x m. absurd m }
  run_charges go (m ∷ ms) Did c vs sound answered fitting are own labels ss law =
      let next = label_ticks p q narrow is_call ids c vs labels.0 labels.1 are.0.0 are.0.1 sound m answered.0 are.1 are.2 in
      let mine = charge_ticks p q narrow is_call ids Did c vs ss law labels.1.calls are.0.0 are.0.1 m sound answered.0 are.1 are.2 own.0 in
      let r = run_charges go ms (λ j d. Did j d ⊎ DidAt p c m j d) (ticked p c m) (views_after p c vs m) (sound_ticks p go c vs m sound answered.0 fitting.0) answered.1 fitting.1 are.3 own.1 (next.0, next.1) mine.0 mine.1 in record {
        doings = r.doings;
        law = law_more (λ j d. (Did j d ⊎ DidAt p c m j d) ⊎ DidIn p (ticked p c m) ms j d) (λ j d. Did j d ⊎ (DidAt p c m j d ⊎ DidIn p (ticked p c m) ms j d)) regroup (run p c (m ∷ ms)) (views_along p c vs (m ∷ ms)) r.doings r.law;
        spent = λ id n x. r.spent id n (mine.2 id n x);
        kinds = λ j x at. ⊎_elim
            (λ now. let y = of_tick j c m x now in kind_more p.requests is_call ids (λ j d. Did j d ⊎ DidAt p c m j d) (λ j d. Did j d ⊎ (DidAt p c m j d ⊎ DidIn p (ticked p c m) ms j d)) (Spent c vs ss) (Spent (run p c (m ∷ ms)) (views_along p c vs (m ∷ ms)) r.doings)
            (λ j d z. regroup j d (inl z)) (λ id n z. r.spent id n (mine.2 id n z)) j x
            (subst (λ j. Kind (λ j d. Did j d ⊎ DidAt p c m j d) (Spent c vs ss) j x) y.0 (tick_kinds p q narrow is_call ids Did c vs ss law labels.1.calls are.0.0 are.0.1 m sound x y.1)))
            (λ later. kind_more p.requests is_call ids (λ j d. (Did j d ⊎ DidAt p c m j d) ⊎ DidIn p (ticked p c m) ms j d) (λ j d. Did j d ⊎ (DidAt p c m j d ⊎ DidIn p (ticked p c m) ms j d))
            (Spent (run p c (m ∷ ms)) (views_along p c vs (m ∷ ms)) r.doings) (Spent (run p c (m ∷ ms)) (views_along p c vs (m ∷ ms)) r.doings) regroup (λ id n y. y) j x (r.kinds j x later))
            (in_both (posted_by j c m) (shown_in (posted_by j) p (ticked p c m) ms) x at);
      }
    where
      regroup : (j : ℕ) (d : Deed) → (Did j d ⊎ DidAt p c m j d) ⊎ DidIn p (ticked p c m) ms j d → Did j d ⊎ (DidAt p c m j d ⊎ DidIn p (ticked p c m) ms j d)
      regroup j d (inl (inl a)) = inl a
      regroup j d (inl (inr b)) = inr (inl b)
      regroup j d (inr e) = inr (inr e)

  -- ## How a run begins

  abbrev pub none_did : ℕ → Deed → Type 0
  none_did j d = ⊥

  idle_stays : (reads : Bool) (x : Program) → Charges p.requests is_call reads idle x → Charges p.requests is_call reads idle (next_step (resolved [] x))
  idle_stays reads (Say o outcome next) g = idle_stays reads next g
  idle_stays reads (Sent o next) g = idle_stays reads next g
  idle_stays reads (Keep r next) g = absurd (let e = g.0 in cc)
  idle_stays reads (Retries n after) g = idle_stays reads after g.2
  idle_stays reads _ g = g

  none_later : (n i : ℕ) → AllByRecursion (λ (r : Retry). 0 < r.attempt) (waiting_at (replicate n []) i)
  none_later zero i = tt
  none_later (suc n) zero = tt
  none_later (suc n) (suc i) = none_later n i

  all_idle : (xs : List Program) (i : ℕ) (s : Doing) → get_elem? (map (λ (x : Program). idle) xs) i ≡ some s → s ≡ idle
  all_idle xs i s e = sym (mapped (λ (x : Program). idle) xs i s e).2

  pub begins_charges : (xs : List Program) → ((i : ℕ) (x : Program) → get_elem? xs i ≡ some x → Charges p.requests is_call (nat_le 32 i) idle x) → (vs : List View) → ((i : ℕ) (v : View) → get_elem? vs i ≡ some v → IsBare p q narrow is_call ids v)
      → Law none_did (beginning p q xs) vs (map (λ (x : Program). idle) xs)
  begins_charges xs goes vs bare = record {
    once = λ id n. let z = none_at id n in omega (arith, z);
    made = λ id n some_. absurd (let z = none_at id n in omega (arith, z, some_));
    each = length-map xs (λ (x : Program). idle) ∙ sym (length-map xs (λ (x : Program). record { program = next_step (resolved [] x); hand = [] }));
    later = none_later q.seats;
    trials = λ j s e. subst (λ (d : Doing). TrialFits ids d.trial) (sym (all_idle xs j s e)) tt;
    did = λ j s e. subst (λ (d : Doing). AllByRecursion (none_did j) d.deeds) (sym (all_idle xs j s e)) tt;
    due = λ j s e. subst (λ (d : Doing). ChargeFits p.requests is_call ids p q (beginning p q xs) vs (map (λ (x : Program). idle) xs) d.charge d.deeds) (sym (all_idle xs j s e)) tt;
    programs = λ j seat s es et. let x = mapped (λ (x : Program). record { program = next_step (resolved [] x); hand = [] }) xs j seat es in
        subst (λ (y : SeatState). Charges p.requests is_call (nat_le 32 j) s y.program) x.2 (subst (λ d. Charges p.requests is_call (nat_le 32 j) d (next_step (resolved [] x.0))) (sym (all_idle xs j s et)) (idle_stays (nat_le 32 j) x.0 (goes j x.0 x.1)));
  }
    where
      trials_idle : (i : ℕ) (t : Trial) → get_elem? (map trial_in (map (λ (x : Program). idle) xs)) i ≡ some t → t ≡ Idle
      trials_idle i t e = let x = mapped trial_in (map (λ (x : Program). idle) xs) i t e in sym x.2 ∙ ap trial_in (all_idle xs i x.0 x.1)

      none_at : (id n : ℕ) → times_of id n (beginning p q xs) vs (map trial_in (map (λ (x : Program). idle) xs)) ≡ 0
      none_at id n = let a = total_none p q narrow is_call ids (of_trial id n) (map trial_in (map (λ (x : Program). idle) xs)) (λ i t e. ap (of_trial id n) (trials_idle i t e)) in let b = none_waits id n q.seats in
          let d = total_none p q narrow is_call ids (of_view id n) vs (λ i v e. bare_count p q narrow is_call ids id n v (bare i v e)) in omega (arith, a, b, d)

-- ## Seats

low_false : (i : ℕ) → i < 32 → nat_le 32 i ≡ false
low_false i low = by (nat_le 32 i) refl
  where
    by : (b : Bool) → nat_le 32 i ≡ b → b ≡ false
    by false e = refl
    by true e = absurd (let l = leb-true 32 i e in omega (arith, l, low))

high_true : (i : ℕ) → 32 ≤ i → nat_le 32 i ≡ true
high_true i high = le-leb 32 i high

reader_at : (calls os : List ℕ) (k i : ℕ) (x : Program) → get_elem? (readers_from calls k os) i ≡ some x → (l o : ℕ) × (reader calls l o ≡ x)
reader_at calls [] k i x at = absurd (some-ne-none x (sym at))
reader_at calls (o ∷ os) k zero x at = (k, o, some-injective (reader calls k o) x at)
reader_at calls (o ∷ os) k (suc i) x at = reader_at calls os (k + 1) i x at

pub seats_charge : (requests : ℕ) (is_call : Asked → Type 0) (sizes : Sizes) → sizes.requests ≡ requests → (cs : List (List Task)) → length cs ≤ 32 → ((i : ℕ) (ts : List Task) → get_elem? cs i ≡ some ts → AllByRecursion (λ (t : Task). OpCalls is_call t.op) ts) → (calls os : List ℕ) (i : ℕ) (x : Program)
    → get_elem? (all_programs (programs sizes cs) (readers_from calls 0 os)) i ≡ some x → Charges requests is_call (nat_le 32 i) idle x
seats_charge requests is_call sizes size cs few asks calls os i x at = ⊎_elim
    (λ a. let t = mapped (client_from sizes []) cs i x a in let low = at_length (programs sizes cs) i x a in let e = low_false i (omega (arith, low, long, few)) in
    subst (λ b. Charges requests is_call b idle x) (sym e) (subst (Charges requests is_call false idle) t.2 (client_goes requests is_call false refl sizes size [] t.0 (asks i t.0 t.1))))
    (λ a. ⊎_elim (λ b. subst (Charges requests is_call (nat_le 32 i) idle) (in_replicate (32 - length (programs sizes cs)) Rest a.0 x b) tt)
    (λ b. let r = reader_at calls os 0 b.0 x b.2 in let n = a.1 in let m = b.1 in let e = high_true i (omega (arith, n, m, long, few, length-replicate (32 - length (programs sizes cs)) Rest)) in
    subst (λ y. Charges requests is_call y idle x) (sym e) (subst (Charges requests is_call true idle) r.2 (reader_goes requests is_call true refl calls r.0 r.1)))
    (at_append (replicate (32 - length (programs sizes cs)) Rest) (readers_from calls 0 os) a.0 x a.2))
    (at_append (programs sizes cs) (replicate (32 - length (programs sizes cs)) Rest ++ readers_from calls 0 os) i x at)
  where
    long : length (programs sizes cs) ≡ length cs
    long = length-map cs (client_from sizes [])

-- nobody does a thing in a tick of a seat that rests
pub none_done : (p : Plan) (c : Core) (m : Moment) (seat : SeatState) → get_elem? c.seats m.seat ≡ some seat → seat.program ≡ Rest → (j : ℕ) (d : Deed) → DidAt p c m j d → ⊥
none_done p c m seat at rests j (DidStep call found) x = let same : seat ≡ x.1 = some-injective seat x.1 (sym at ∙ (ap (get_elem? c.seats) x.0 ∙ x.3)) in
    let e : Rest ≡ Do call x.2 = ap first_step (sym rests ∙ ap (λ (s : SeatState). s.program) same) ∙ x.4 in cc
none_done p c m seat at rests j (DidMiss name o id n) x = let same : seat ≡ x.1 = some-injective seat x.1 (sym at ∙ (ap (get_elem? c.seats) x.0 ∙ x.3)) in
    let e : Rest ≡ Do _ x.2 = ap first_step (sym rests ∙ ap (λ (s : SeatState). s.program) same) ∙ x.4 in cc
none_done p c m seat at rests j (DidPut asked) x = let same : seat ≡ x.1 = some-injective seat x.1 (sym at ∙ (ap (get_elem? c.seats) x.0 ∙ x.4)) in
    let e : Rest ≡ Aside _ _ = ap first_step (sym rests ∙ ap (λ (s : SeatState). s.program) same) ∙ x.5 in cc
none_done p c m seat at rests j (DidRound w) x = let same : seat ≡ x.1 = some-injective seat x.1 (sym at ∙ (ap (get_elem? c.seats) x.0 ∙ x.3)) in
    let e : Rest ≡ Write w x.2 = sym rests ∙ (ap (λ (s : SeatState). s.program) same ∙ x.4) in cc
