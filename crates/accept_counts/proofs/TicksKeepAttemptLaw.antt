-- Each tick keeps the law of attempts: none stands in two places, and none before it is made.
use Rattle.std.proofs.Common.{◌≡◌, ◌≢◌, ℕ, zero, suc, ◌+◌, ◌*◌, ◌<◌, ◌≤◌, ◌⊎◌, inl, inr, ⊎_elim, Bool, true, false, cond, eqb, eqb-true, eq-eqb, List, [], ◌∷◌, ◌++◌, length-set, get_or, set, refl, sym, ap, ◌∙◌, subst, arith}
use Rattle.std.specs.List.{AllByRecursion}
use mathlib.Core.Logic.{dite}
use native.Mathlib.Decide.{ℕ_discrete}
use mathlib.Core.Option.{Option, some}
use lib.ListN.{get_elem?}
use Rattle.atomic_table.proofs.Lists.{at_set, set_again}
use Rattle.sock_words.specs.declared.plain.Plan.{Plan}
use Rattle.sock_words.specs.PackedWords.{at_word, call_id, id_slot, id_first}
use Rattle.sock_model.specs.declared.chain.Right.{Right}
use Rattle.sock_model.specs.declared.chain.Heading.{Heading}
use Rattle.sock_model.specs.declared.home.Home.{Home}
use Rattle.sock_model.specs.declared.view.View.{View}
use Rattle.call_causes.specs.Below.programs_allowed.specs.slot_steps.proofs.SlotWeightSums.{term_le, total-append, total-set}
use Rattle.corr_core.specs.IdSlotWord.{parts}
use Rattle.corr_core.specs.declared.marks.Plan.{Plan as IdPlan}
use Rattle.call_causes.specs.Below.id_runs.specs.HeldIdTokens.{IdView, MayId}
use Rattle.call_causes.specs.Below.id_runs.specs.Goes.{FitsRetryId, FitsSock, FindsId, SoundIds, FitsFirst, IsFittingIds}
use Rattle.call_causes.specs.Below.id_runs.proofs.AsideStepsKeepRule.{finds_ids}
use Rattle.seat_programs.specs.Asides.{Step, Found, PutCall, MakeId, StoreAt, UnlockId, TakeCall, Taking}
use Rattle.sock_message.specs.Asked.{Asked, frame_of}
use Rattle.seat_programs.specs.FoundAndChangedAside.{found_in, calls_after}
use Rattle.seat_programs.specs.TableSteps.{TableStep, OnMessage, PutMessage}
use Rattle.seat_programs.specs.LoopHeads.{Retry}
use Rattle.seat_programs.specs.Programs.{Program, Do, Say, Sent, Rest, TakeMessage, TakeHome, PutHome, PutBytes, AskReady, Write, Aside, Round, Keep, Retries}
use Rattle.seat_programs.specs.Cores.{Calls, Core, SeatState, found_at, words_after, homes_after, hand_after, resolved, still_waiting, waiting_at, next_step, with_seat, stepped}
use Rattle.seat_programs.specs.StepTables.{word_of, word_after}
use Rattle.seat_programs.specs.Ticks.{Moment, IsAnswered, taken, ticked}
use Rattle.seat_programs.specs.StepTables.{May}
use Rattle.seat_programs.specs.StepTables.{row, hand_at}
use Rattle.outcome_causes.specs.program_steps.specs.SoundSeats.{Sound, views_after}
use Rattle.outcome_causes.specs.program_steps.proofs.TickCases.{with_rights, calls_waiting}
use Rattle.label_runs.specs.AttemptLabelsLeft.{Trial, Idle, Tries, Sends, IsOfTrial, MayPut, put_behind, Kept, Storing, unlocked_trial, Labels}
use Rattle.label_runs.proofs.ProgramsKeepAttempts.{labels_round, block_goes, retry_goes}
use Rattle.accept_counts.specs.AttemptCounts.{pair_of, of_trial, of_retry, of_view, times_of, WasMade, WasNow, ViewFits, TrialFits, IsOfCall, LabelLaw, StoresOwn}
use Rattle.accept_counts.proofs.IdWordsGoForward.{made_on, finds_label, words_forward, makes_new, advances_new}
use Rattle.call_causes.specs.Below.outcome_stories.proofs.HomeCalls.{AreCalls, PutsAsked, calls_behind}
use Rattle.accept_counts.proofs.SeatFacts.{seat_facts, tick_moves}
use Rattle.accept_counts.proofs.ClaimViewsBehindSteps.{put_of, row_count, rights_count, PutsFit, row_fits, rights_fit}
use Rattle.call_causes.specs.story_ticks.proofs.SaidBeforeNextStep.{AreFewTries}
use Rattle.seat_programs.specs.LoopRounds.{first_step}
use Rattle.sock_words.specs.Totals.{total}

-- ## Pairs

pub pair_one : (id n i m : ℕ) → pair_of id n i m ≤ 1
pair_one id n i m = by (eqb i id) (eqb m n)
  where
    by : (a b : Bool) → cond a (cond b 1 0) 0 ≤ 1
    by true true = omega arith
    by true false = omega arith
    by false b = omega arith

pub pair_same : (id n i m : ℕ) → 0 < pair_of id n i m → (i ≡ id) × (m ≡ n)
pair_same id n i m some_ = by (eqb i id) (eqb m n) refl refl some_
  where
    by : (a b : Bool) → eqb i id ≡ a → eqb m n ≡ b → 0 < cond a (cond b 1 0) 0 → (i ≡ id) × (m ≡ n)
    by true true x y s = (eqb-true i id x, eqb-true m n y)
    by true false x y s = absurd (omega (arith, s))
    by false b x y s = absurd (omega (arith, s))

-- where one attempt is made now, which wasn't made before, so is each that is made
pub pair_now : (q : IdPlan) (old new : List ℕ) (id₀ n₀ : ℕ) → WasNow q new id₀ n₀ → (WasMade q old id₀ n₀ → ⊥) → (id n : ℕ) → 0 < pair_of id n id₀ n₀ → (pair_of id n id₀ n₀ ≤ 1) × WasNow q new id n × (WasMade q old id n → ⊥)
pair_now q old new id₀ n₀ now unmade id n some_ = let same = pair_same id n id₀ n₀ some_ in (
  pair_one id n id₀ n₀,
  subst (λ x. WasNow q new x n) same.0 (subst (WasNow q new id₀) same.1 now),
  λ was. unmade (subst (λ x. WasMade q old x n₀) (sym same.0) (subst (WasMade q old id) (sym same.1) was)),
)

-- what wasn't made was tried by none
pub untried : {Made : Type 0} (tries : ℕ) → (0 < tries → Made) → (Made → ⊥) → tries ≡ 0
untried tries made unmade = dite (ℕ_discrete tries 0) (λ z. z) (λ ne. absurd (unmade (made (omega (arith, ne)))))

-- ## Sums

-- the lists of retries with one changed
pub waits_set : {A : Type 0} (f : List A → ℕ) → f [] ≡ 0 → (ws : List (List A)) (i : ℕ) (x : List A) → total f (set ws i x) + f (get_or ws i []) ≤ total f ws + f x
waits_set f none_ [] i x = omega (arith, none_)
waits_set f none_ (w ∷ ws) zero x = omega arith
waits_set f none_ (w ∷ ws) (suc i) x = let r = waits_set f none_ ws i x in omega (arith, r)

-- a state that changed, and with it the retries that wait of its seat
pub waiting_set : {A : Type 0} (f : A → ℕ) (retry : Retry → ℕ) (ss : List A) (i : ℕ) (s t u : A) (waiting old : List (List Retry)) (rest : List Retry) → get_elem? ss i ≡ some s → waiting ≡ old → f t + total retry rest ≤ f u + total retry (waiting_at waiting i)
    → (total f (set ss i t) + total (total retry) (set waiting i rest)) + f s ≤ (total f ss + total (total retry) old) + f u
waiting_set f retry ss i s t u waiting old rest at kept fewer = let one = total-set f ss i s t at in let two = waits_set (total retry) refl waiting i rest in let three = ap (total (total retry)) kept in omega (arith, one, two, three, fewer)

-- so much there was, and no more came than is new: at most one, where nothing comes anew to what was there; and so what there is was there or is new
pub once_more : (old new all : ℕ) → all ≤ old + new → old ≤ 1 → (0 < new → (new ≤ 1) × (old ≡ 0)) → all ≤ 1
once_more old new all bound once fresh = dite (ℕ_discrete new 0) (λ z. omega (arith, bound, once, z)) (λ ne. let f = fresh (omega (arith, ne)) in let one = f.0 in let none_ = f.1 in omega (arith, bound, one, none_))

pub old_or_new : {M : Type 0} (old new all : ℕ) → all ≤ old + new → (0 < old → M) → (0 < new → M) → 0 < all → M
old_or_new old new all bound there fresh some_ = dite (ℕ_discrete new 0) (λ z. there (omega (arith, bound, z, some_))) (λ ne. fresh (omega (arith, ne)))

-- what is so of two lists, place by place, is so where it is of what is put in
pub pairs_set : {A B : Type 0} (R : B → A → Type 0) (xs : List A) (ys : List B) (i : ℕ) (x : A) (y : B) → ((j : ℕ) (a : A) (b : B) → get_elem? xs j ≡ some a → get_elem? ys j ≡ some b → R b a) → R y x
    → (j : ℕ) (a : A) (b : B) → get_elem? (set xs i x) j ≡ some a → get_elem? (set ys i y) j ≡ some b → R b a
pairs_set R xs ys i x y there new j a b at_a at_b = ⊎_elim
    (λ p. ⊎_elim (λ q. subst (R b) p.1 (subst (λ z. R z x) q.1 new)) (λ q. absurd (q.0 p.0)) (at_set ys i j y b at_b))
    (λ p. ⊎_elim (λ q. absurd (p.0 q.0)) (λ q. there j a b p.1 q.1) (at_set ys i j y b at_b)) (at_set xs i j x a at_a)

-- ## Retries that are kept and taken up

pub few_more : (ws : List Retry) (r : Retry) → AreFewTries ws → r.attempt ≤ 6 → AreFewTries (ws ++ r ∷ [])
few_more [] r all one = (one, tt)
few_more (w ∷ ws) r all one = (all.0, few_more ws r all.1 one)

pub few_of : (q : IdPlan) (ws : List Retry) → AllByRecursion (FitsRetryId q) ws → AreFewTries ws
few_of q [] all = tt
few_of q (w ∷ ws) all = (all.0.1, few_of q ws all.1)

record Resolved (is_call : Asked → Type 0) (ids : ℕ → ℕ) (t : Trial) (ws : List Retry) (x : Program) : Type 0 where
  pub trial : Trial
  pub labels : Labels is_call trial (next_step (resolved ws x))
  pub fewer : (id n : ℕ) → of_trial id n trial + total (of_retry id n) (still_waiting ws x) ≤ of_trial id n t + total (of_retry id n) ws
  pub fits : TrialFits ids t → TrialFits ids trial

stays : (is_call : Asked → Type 0) (ids : ℕ → ℕ) (t : Trial) (ws : List Retry) (x : Program) → Labels is_call t (next_step (resolved ws x)) → still_waiting ws x ≡ ws → Resolved is_call ids t ws x
stays is_call ids t ws x g e = record { trial = t; labels = g; fewer = λ id n. (let z : total (of_retry id n) (still_waiting ws x) ≡ total (of_retry id n) ws = ap (total (of_retry id n)) e in omega (arith, z)); fits = λ f. f }

resolves : (is_call : Asked → Type 0) (ids : ℕ → ℕ) (t : Trial) (ws : List Retry) (x : Program) → AreFewTries ws → Labels is_call t x → Resolved is_call ids t ws x
resolves is_call ids t ws (Say o outcome next) few g = let r = resolves is_call ids t ws next few g in record { trial = r.trial; labels = r.labels; fewer = r.fewer; fits = r.fits }
resolves is_call ids t ws (Sent o next) few g = let r = resolves is_call ids t ws next few g in record { trial = r.trial; labels = r.labels; fewer = r.fewer; fits = r.fits }
resolves is_call ids t ws (Keep k next) few g = let r = resolves is_call ids Idle (ws ++ k ∷ []) next (few_more ws k few g.1) g.2 in record {
  trial = r.trial;
  labels = r.labels;
  fewer = λ id n. (let a = r.fewer id n in let b : total (of_retry id n) (ws ++ k ∷ []) ≡ total (of_retry id n) ws + (of_retry id n k + 0) = total-append (of_retry id n) ws (k ∷ []) in let e : of_trial id n t ≡ of_retry id n k = ap (of_trial id n) g.0 in omega (arith, a, b, e));
  fits = λ f. r.fits tt;
}
resolves is_call ids t [] (Retries requests after) few g = let r = resolves is_call ids Idle [] after tt g in record { trial = r.trial; labels = r.labels; fewer = λ id n. (let a = r.fewer id n in omega (arith, a)); fits = λ f. r.fits tt }
resolves is_call ids t (k ∷ ws) (Retries requests after) few g = record {
  trial = Tries k.id k.attempt;
  labels = retry_goes is_call requests k.id k.attempt (Retries requests after) few.0 g;
  fewer = λ id n. omega arith;
  fits = λ f. tt;
}
resolves is_call ids t ws (Do call next) few g = stays is_call ids t ws (Do call next) g refl
resolves is_call ids t ws Rest few g = stays is_call ids t ws Rest g refl
resolves is_call ids t ws (TakeMessage q next) few g = stays is_call ids t ws (TakeMessage q next) g refl
resolves is_call ids t ws (TakeHome k next) few g = stays is_call ids t ws (TakeHome k next) g refl
resolves is_call ids t ws (PutHome k n after) few g = stays is_call ids t ws (PutHome k n after) g refl
resolves is_call ids t ws (PutBytes k asked bytes next) few g = stays is_call ids t ws (PutBytes k asked bytes next) g refl
resolves is_call ids t ws (AskReady k next) few g = stays is_call ids t ws (AskReady k next) g refl
resolves is_call ids t ws (Write w after) few g = stays is_call ids t ws (Write w after) g refl
resolves is_call ids t ws (Aside step next) few g = stays is_call ids t ws (Aside step next) g refl
resolves is_call ids t ws (Round head next) few g = stays is_call ids t ws (Round head next) g refl

-- ## First steps

pub labels_first : (is_call : Asked → Type 0) (t : Trial) (program : Program) → Labels is_call t program → Labels is_call t (first_step program)
labels_first is_call t (Write w after) g = block_goes is_call t w after g
labels_first is_call t (Round head next) g = labels_round is_call t head next g
labels_first is_call t _ g = g

-- what is found of a step on the sockets
pub fits_as : (p : Plan) (c : Core) (program : Program) (call : TableStep) (next : ℕ → Program) → first_step program ≡ Do call next → FitsFirst p c (first_step program) → FitsSock call (found_at c.words (word_of p call))
fits_as p c program call next e f = by program e f
  where
    by : (program : Program) → first_step program ≡ Do call next → FitsFirst p c (first_step program) → FitsSock call (found_at c.words (word_of p call))
    by (Write w after) e f = subst (FitsFirst p c) e f
    by _ e f = subst (FitsFirst p c) e f

-- ## Retries that wait

pub kept_count : (id n : ℕ) (t u : Trial) → Kept t u → of_trial id n u ≤ of_trial id n t
kept_count id n t u (inl e) = let z : of_trial id n u ≡ of_trial id n t = ap (of_trial id n) e in omega (arith, z)
kept_count id n t u (inr e) = let z : of_trial id n u ≡ 0 = ap (of_trial id n) e in omega (arith, z)

pub kept_fits : (ids : ℕ → ℕ) (t u : Trial) → Kept t u → TrialFits ids t → TrialFits ids u
kept_fits ids t u (inl e) f = subst (TrialFits ids) (sym e) f
kept_fits ids t u (inr e) f = subst (TrialFits ids) (sym e) tt

-- a message of a call takes the attempt with it
pub put_count : (is_call : Asked → Type 0) (v : View) (id n : ℕ) (t : Trial) (call : TableStep) → MayPut is_call t call → of_trial id n (put_behind t call) + put_of v id n call ≤ of_trial id n t
put_count is_call v id n t (OnMessage (PutMessage r heading bytes)) may = ⊎_elim
    (λ none_. (let z : cond (eqb heading.owner 0) 0 (pair_of id n heading.owner heading.label.attempt) ≡ 0 = ap (λ b. cond b 0 (pair_of id n heading.owner heading.label.attempt)) (eq-eqb heading.owner 0 none_.0) in omega (arith, z)))
    (λ h. by (eqb heading.owner 0) (as_trial t h)) may
  where
    as_trial : (t : Trial) → IsOfTrial is_call t heading bytes → pair_of id n heading.owner heading.label.attempt ≤ of_trial id n t
    as_trial (Sends o j m) h = let z : pair_of id n heading.owner heading.label.attempt ≡ pair_of id n j m = ap (λ (x : Heading). pair_of id n x.owner x.label.attempt) h.3 in omega (arith, z)
    as_trial Idle h = absurd h
    as_trial (Tries j m) h = absurd h

    by : (b : Bool) → pair_of id n heading.owner heading.label.attempt ≤ of_trial id n t → 0 + cond b 0 (pair_of id n heading.owner heading.label.attempt) ≤ of_trial id n t
    by true a = omega arith
    by false a = omega (arith, a)
put_count is_call v id n t _ may = omega arith

-- ## A tick
module _ (p : Plan) (q : IdPlan) (narrow : q.slots ≤ 65536) (is_call : Asked → Type 0) (ids : ℕ → ℕ) (c : Core) (vs : List View) (ts : List Trial) (law : LabelLaw is_call ids p q c vs ts) (us : List IdView) (real_ids : SoundIds p q c us) where
  abbrev pub After : Core → List View → Type 0
  After c' vs' = (ts' : List Trial) × LabelLaw is_call ids p q c' vs' ts'
      -- what stands there stood there before, or is the attempt to which its id has come
      × ((id n : ℕ) → 0 < times_of id n c' vs' ts' → (0 < times_of id n c vs ts) ⊎ WasNow q c'.calls.words id n)

  module _ (i : ℕ) (seat : SeatState) (v : View) (t : Trial) (at_seat : get_elem? c.seats i ≡ some seat) (at_view : get_elem? vs i ≡ some v) (at_trial : get_elem? ts i ≡ some t) where
    -- the seat goes on with this program, trial and view; these attempts are made by the step
    record Goes (a : Calls) (x : Program) (u : Trial) (w : View) : Type 0 where
      pub labels : Labels is_call u x
      pub kept : a.waiting ≡ c.calls.waiting
      pub words : (id n : ℕ) → WasMade q c.calls.words id n → WasMade q a.words id n
      pub fits : TrialFits ids u
      pub view : ViewFits is_call ids p w
      pub calls : AreCalls is_call a
      pub new : ℕ → ℕ → ℕ
      pub fewer : (id n : ℕ) → of_trial id n u + of_view id n w ≤ of_trial id n t + of_view id n v + new id n
      pub fresh : (id n : ℕ) → 0 < new id n → (new id n ≤ 1) × (times_of id n c vs ts ≡ 0) × WasNow q a.words id n

    module _ (a : Calls) (x : Program) (hand : List Home) (ws : List ℕ) (hs : List (Option Home)) (u : Trial) (w : View) (g : Goes a x u w) where
      few : AreFewTries (waiting_at a.waiting i)
      few = few_of q (waiting_at a.waiting i) (subst (λ (l : List (List Retry)). AllByRecursion (FitsRetryId q) (waiting_at l i)) (sym g.kept) (real_ids.waiting i))

      abbrev r : Resolved is_call ids u (waiting_at a.waiting i) x
      r = resolves is_call ids u (waiting_at a.waiting i) x few g.labels

      abbrev next_seat : SeatState
      next_seat = record { program = next_step (resolved (waiting_at a.waiting i) x); hand = hand }

      bound : (id n : ℕ) → times_of id n (with_seat i x hand ws hs (record c { calls = a })) (set vs i w) (set ts i r.trial) ≤ times_of id n c vs ts + g.new id n
      bound id n = let one = waiting_set (of_trial id n) (of_retry id n) ts i t r.trial u a.waiting c.calls.waiting (still_waiting (waiting_at a.waiting i) x) at_trial g.kept (r.fewer id n) in
          let two = total-set (of_view id n) vs i v w at_view in let three = g.fewer id n in omega (arith, one, two, three)

      goes_on : After (with_seat i x hand ws hs (record c { calls = a })) (set vs i w)
      goes_on = (
        set ts i r.trial,
        record {
          once = λ id n. once_more _ (g.new id n) _ (bound id n) (law.once id n) (λ more. let f = g.fresh id n more in (f.0, f.1));
          made = λ id n some_. old_or_new _ (g.new id n) _ (bound id n) (λ there. g.words id n (law.made id n there)) (λ more. let f = g.fresh id n more in (f.2.0, inr f.2.1)) some_;
          views = λ j y e. ⊎_elim (λ b. subst (ViewFits is_call ids p) b.1 g.view) (λ b. law.views j y b.1) (at_set vs i j w y e);
          trials = λ j y e. ⊎_elim (λ b. subst (TrialFits ids) b.1 (r.fits g.fits)) (λ b. law.trials j y b.1) (at_set ts i j r.trial y e);
          calls = g.calls;
          each = length-set ts i r.trial ∙ (law.each ∙ sym (length-set c.seats i next_seat));
          programs = pairs_set (λ (y : Trial) (z : SeatState). Labels is_call y z.program) c.seats ts i next_seat r.trial law.programs r.labels;
        },
        λ id n some_. old_or_new _ (g.new id n) _ (bound id n) (λ there. inl there) (λ more. inr (g.fresh id n more).2) some_,
      )

    fits_view : ViewFits is_call ids p v
    fits_view = law.views i v at_view

    fits_trial : TrialFits ids t
    fits_trial = law.trials i t at_trial

    -- a move of the seat that is no step on words
    pub moves : (x : Program) (hand : List Home) (hs : List (Option Home)) (w : View) (rights : List Right) → w ≡ with_rights v rights → Labels is_call Idle x → After (with_seat i x hand c.words hs (record c { calls = c.calls })) (set vs i w)
    moves x hand hs w rights e g = goes_on c.calls x hand c.words hs Idle w record {
      labels = g;
      kept = refl;
      words = λ id n m. m;
      fits = tt;
      calls = law.calls;
      view = rights_fit v is_call ids p fits_view w rights e;
      new = λ id n. 0;
      fewer = λ id n. (let a = rights_count v id n w rights e in omega (arith, a));
      fresh = λ id n z. absurd (omega (arith, z));
    }

    put_fits : (call : TableStep) → MayPut is_call t call → PutsFit v is_call ids p fits_view call
    put_fits (OnMessage (PutMessage r heading bytes)) may = ⊎_elim (λ none_. inl none_) (λ h. inr (of_t t h fits_trial)) may
      where
        of_t : (t : Trial) → IsOfTrial is_call t heading bytes → TrialFits ids t → IsOfCall is_call ids heading bytes
        of_t (Sends o j m) h f = let owner : heading.owner ≡ j = ap (λ (x : Heading). x.owner) h.3 in let attempt : heading.label.attempt ≡ m = ap (λ (x : Heading). x.label.attempt) h.3 in
            let operation : heading.label.operation ≡ h.0.operation = ap (λ (x : Heading). x.label.operation) h.3 in let place : heading.label.place ≡ 8 * h.0.operation + m = ap (λ (x : Heading). x.label.place) h.3 in (
              (λ z. f.1 (sym owner ∙ z)),
              ap ids (operation ∙ h.2) ∙ (f.0 ∙ sym owner),
              omega (arith, place, operation, attempt),
              (let few = f.2 in omega (arith, attempt, few)),
              (h.0, h.1, sym operation, h.4 ∙ frames h.0 j heading.owner m heading.label.attempt (sym owner) (sym attempt)),
            )
          where
            frames : (asked : Asked) (x y m n : ℕ) → x ≡ y → m ≡ n → frame_of asked x m ≡ frame_of asked y n
            frames asked x y m n e f = ap (λ z. frame_of asked z m) e ∙ ap (frame_of asked y) f
        of_t Idle h f = absurd h
        of_t (Tries j m) h f = absurd h
    put_fits _ may = tt

    behind_fits : (call : TableStep) → TrialFits ids (put_behind t call)
    behind_fits (OnMessage (PutMessage r heading bytes)) = tt
    behind_fits _ = fits_trial

    -- a step on the sockets
    steps : (call : TableStep) (next : ℕ → Program) → May p v call → Labels is_call t (Do call next) → FitsSock call (found_at c.words (word_of p call)) → After (stepped p i seat call next c) (set vs i (row p call (found_at c.words (word_of p call)) (hand_at p c.words c.homes call) v))
    steps call next may g fits = let found : ℕ = found_at c.words (word_of p call) in let u = g.1 (found_at c.words (word_of p call)) fits in
        goes_on c.calls (next (found_at c.words (word_of p call))) (hand_after p call c.homes seat.hand) (words_after c.words (word_of p call) (word_after call (found_at c.words (word_of p call)))) (homes_after p call seat.hand c.homes) u.0
        (row p call (found_at c.words (word_of p call)) (hand_at p c.words c.homes call) v) record {
          labels = u.2;
          kept = refl;
          words = λ id n m. m;
          fits = kept_fits ids (put_behind t call) u.0 u.1 (behind_fits call);
          calls = law.calls;
          view = row_fits v is_call ids p fits_view (found_at c.words (word_of p call)) (hand_at p c.words c.homes call) call may (put_fits call g.0);
          new = λ id n. 0;
          fewer = λ id n. (let a = row_count v id n p (found_at c.words (word_of p call)) (hand_at p c.words c.homes call) call in let b = put_count is_call v id n t call g.0 in let d = kept_count id n (put_behind t call) u.0 u.1 in omega (arith, a, b, d));
          fresh = λ id n z. absurd (omega (arith, z));
        }

    module _ (u : IdView) (at : get_elem? us i ≡ some u) where
      -- a step aside
      module _ (step : Step) (next : Found step → Program) (found : Found step) (answer : Option Taking) (is : found_in step c.calls answer ≡ some found) (may : MayId p q u step) (puts : PutsAsked is_call step) where
        finds : FindsId p q u step found
        finds = finds_ids p q c.calls real_ids.plan us real_ids.rule i u at (real_ids.real i u at) (real_ids.called, real_ids.placed) real_ids.homes step answer found is may

        words_on : (id n : ℕ) → WasMade q c.calls.words id n → WasMade q (calls_after step found c.calls).words id n
        words_on = made_on q c.calls.words (calls_after step found c.calls).words (words_forward p q c us real_ids i u at step answer found is may finds)

        abbrev Ends : Type 0
        Ends = After (with_seat i (next found) seat.hand c.words c.homes (record c { calls = calls_after step found c.calls })) vs

        -- the seat goes on with this trial, and these attempts are new
        goes_with : (w : Trial) → Labels is_call w (next found) → TrialFits ids w → (new : ℕ → ℕ → ℕ) → ((id n : ℕ) → of_trial id n w ≤ of_trial id n t + new id n)
            → ((id n : ℕ) → 0 < new id n → (new id n ≤ 1) × (times_of id n c vs ts ≡ 0) × WasNow q (calls_after step found c.calls).words id n) → Ends
        goes_with w g fits new fewer fresh = subst (λ xs. After (with_seat i (next found) seat.hand c.words c.homes (record c { calls = calls_after step found c.calls })) xs) (set_again vs i v at_view)
            (goes_on (calls_after step found c.calls) (next found) seat.hand c.words c.homes w v record {
              labels = g;
              kept = calls_waiting step found c.calls;
              words = words_on;
              fits = fits;
              calls = calls_behind is_call step found c.calls puts law.calls;
              view = fits_view;
              new = new;
              fewer = λ id n. (let a = fewer id n in omega (arith, a));
              fresh = fresh;
            })

        -- the attempt of the seat stays, or is given up
        still : (w : Trial) → Labels is_call w (next found) → TrialFits ids w → ((id n : ℕ) → of_trial id n w ≤ of_trial id n t) → Ends
        still w g fits fewer = goes_with w g fits (λ id n. 0) (λ id n. (let a = fewer id n in omega (arith, a))) (λ id n z. absurd (omega (arith, z)))

        keeps : (w : Trial) → Kept t w → Labels is_call w (next found) → Ends
        keeps w k g = still w g (kept_fits ids t w k fits_trial) (λ id n. kept_count id n t w k)

        -- a new attempt
        makes : (id₀ n₀ : ℕ) → Labels is_call (Tries id₀ n₀) (next found) → WasNow q (calls_after step found c.calls).words id₀ n₀ → (WasMade q c.calls.words id₀ n₀ → ⊥) → Ends
        makes id₀ n₀ g made unmade = goes_with (Tries id₀ n₀) g tt (λ id n. pair_of id n id₀ n₀) (λ id n. omega arith)
            (λ id n some_. let m = pair_now q c.calls.words (calls_after step found c.calls).words id₀ n₀ made unmade id n some_ in (m.0, untried (times_of id n c vs ts) (law.made id n) m.2, m.1))

      -- the slot of an id that the seat tries is one of the table
      tried_low : (id n : ℕ) → t ≡ Tries id n → id_slot id < 65536
      tried_low id n e = let here : of_trial id n t ≡ 1 = ap (of_trial id n) e ∙ (ap (λ b. cond b (cond (eqb n n) 1 0) 0) (eq-eqb id id refl) ∙ ap (λ b. cond b 1 0) (eq-eqb n n refl)) in
          let some_ = term_le (of_trial id n) ts i t at_trial in let made = (law.made id n (omega (arith, here, some_))).0 in omega (arith, made, narrow)

      stored_ends : (o w : ℕ) (next : ℕ → Program) (found : ℕ) (answer : Option Taking) (is : found_in (StoreAt o w) c.calls answer ≡ some found) (may : MayId p q u (StoreAt o w)) → ((id n k : ℕ) → w ≡ at_word (id_first id) (id_slot id) k n → k < 65535 → n ≤ 6 → id_slot id < 65536 → (ids o ≡ id) × (id ≢ 0))
          → (x : Trial) → Storing o w t x → Labels is_call x (next found) → After (with_seat i (next found) seat.hand c.words c.homes (record c { calls = calls_after (StoreAt o w) found c.calls })) vs
      stored_ends o w next found answer is may own x s g = still (StoreAt o w) next found answer is may tt x g
          (subst (TrialFits ids) (sym s.7) (let y = own s.0 s.1 s.2 s.4 s.5 s.6 (tried_low s.0 s.1 s.3) in (y.0, y.1, s.6))) (λ id n. (let a : of_trial id n x ≡ pair_of id n s.0 s.1 = ap (of_trial id n) s.7 in let b : of_trial id n t ≡ pair_of id n s.0 s.1 = ap (of_trial id n) s.3 in omega (arith, a, b)))

      -- each step aside
      asides : (step : Step) (next : Found step → Program) (found : Found step) (answer : Option Taking) (is : found_in step c.calls answer ≡ some found) (may : MayId p q u step) → Labels is_call t (Aside step next)
          → ((o w : ℕ) (e : step ≡ StoreAt o w) → (id n k : ℕ) → w ≡ at_word (id_first id) (id_slot id) k n → k < 65535 → n ≤ 6 → id_slot id < 65536 → (ids o ≡ id) × (id ≢ 0))
          → After (with_seat i (next found) seat.hand c.words c.homes (record c { calls = calls_after step found c.calls })) vs
      asides (MakeId k range) next found answer is may g own = let x = g found tt in let f = finds (MakeId k range) next found answer is may tt in let m = makes_new p q c us real_ids i u at k range found is may f in
          makes (MakeId k range) next found answer is may tt (call_id k (parts found).first) 0 (subst (λ y. Labels is_call y (next found)) x.1 x.2) m.0 (m.1 0)
      asides (StoreAt o w) next found answer is may g own = let x = g found tt in stored_ends o w next found answer is may (own o w refl) x.0 x.1 x.2
      asides (UnlockId k from false) next found answer is may g own = let l = finds_label p q c us real_ids i u at (UnlockId k from false) found may (finds (UnlockId k from false) next found answer is may tt) in let x = g found l in
          keeps (UnlockId k from false) next found answer is may tt x.0 (inl x.1) x.2
      asides (UnlockId k from true) next found answer is may g own = let l = finds_label p q c us real_ids i u at (UnlockId k from true) found may (finds (UnlockId k from true) next found answer is may tt) in let x = g found l in by (eqb found from) refl x.0 x.1 x.2
        where
          by : (b : Bool) → eqb found from ≡ b → (y : Trial) → y ≡ unlocked_trial k from true found t → Labels is_call y (next found) → After (with_seat i (next found) seat.hand c.words c.homes (record c { calls = calls_after (UnlockId k from true) found c.calls })) vs
          by true hit y e h = let m = advances_new p q c us real_ids i u at k from found is (eqb-true found from hit) may (finds_label p q c us real_ids i u at (UnlockId k from true) found may (finds (UnlockId k from true) next found answer is may tt)) in
              makes (UnlockId k from true) next found answer is may tt (call_id k (parts from).first) ((parts from).attempt + 1) (subst (λ z. Labels is_call z (next found)) (e ∙ ap (λ b. cond b (Tries (call_id k (parts from).first) ((parts from).attempt + 1)) t) hit) h) m.0 m.1
          by false miss y e h = keeps (UnlockId k from true) next found answer is may tt y (inl (e ∙ ap (λ b. cond b (Tries (call_id k (parts from).first) ((parts from).attempt + 1)) t) miss)) h
      asides (PutCall k asked) next found answer is may g own = let x = g found tt in keeps (PutCall k asked) next found answer is may x.1.1 x.0 x.1.0 x.2
      asides (TakeCall k) next found answer is may g own = let x = g found (law.calls k found is) in keeps (TakeCall k) next found answer is may tt x.0 x.1 x.2
      asides other next found answer is may g own = let x = g found tt in keeps other next found answer is may tt x.0 x.1 x.2

  -- a tick of any seat
  module _ (sound : Sound p c vs) (m : Moment) (answered : IsAnswered c m) (fitting : IsFittingIds p c m) (own : StoresOwn ids c m) where
    open seat_facts (Labels is_call) (labels_first is_call) p q narrow c ts law.each law.programs us real_ids m.seat use {stand_of as trial_of, view_of, first_as, may_as}

    pub label_ticks : After (ticked p c m) (views_after p c vs m)
    label_ticks = tick_moves (Labels is_call) Idle (record { message = λ t q next g. g; home = λ t k next g. g; puts_home = λ t k n after g. g; put = λ t k asked bytes next g. g; ask = λ t k next g. g }) p c vs m sound answered After (ts, law, λ id n some_. inl some_)
        (λ seat v at here x is. (trial_of seat at).0)
        (λ seat v at here x is. first_as seat at x is)
        (λ seat v at here. let t = trial_of seat at in moves m.seat seat v t.0 at here t.1)
        (λ seat v call next at here is goes. let t = trial_of seat at in steps m.seat seat v t.0 at here t.1 call next goes.0 (first_as seat at (Do call next) is) (fits_as p c seat.program call next is (fitting seat at)))
        (λ seat v s next found at here is goes found_is. let t = trial_of seat at in let u = view_of seat at in
        asides m.seat seat v t.0 at here t.1 u.0 u.1 s next found (taken m.answer) found_is (may_as seat at (Aside s next) is).0 (first_as seat at (Aside s next) is) (stored_own seat at s next is))
      where
        stored_own : (seat : SeatState) → get_elem? c.seats m.seat ≡ some seat → (s : Step) (next : Found s → Program) → first_step seat.program ≡ Aside s next → (o w : ℕ) → s ≡ StoreAt o w → (id n k : ℕ) → w ≡ at_word (id_first id) (id_slot id) k n → k < 65535 → n ≤ 6 → id_slot id < 65536 → (ids o ≡ id) × (id ≢ 0)
        stored_own seat at (StoreAt o' w') next is o w e = λ id n k x low few small. own seat o w next at (is ∙ (let a : o' ≡ o = cc in let b : w' ≡ w = cc in λ z. Aside (StoreAt (a z) (b z)) next)) id n k x low few small
        stored_own seat at _ next is o w e = absurd (cc)
