-- Each tick keeps the law of charges: whoever is refused an attempt gives it up, and nothing is left of it.
use Rattle.std.proofs.Common.{◌≡◌, ◌≢◌, ℕ, zero, suc, ◌+◌, ◌<◌, ◌≤◌, ◌⊎◌, inl, inr, ⊎_elim, Bool, true, false, cond, eqb, eqb-true, nat_le, List, [], ◌∷◌, ◌++◌, length-set, map, set, refl, sym, ap, ◌∙◌, subst, arith}
use Rattle.std.specs.List.{AllByRecursion}
use mathlib.Core.Logic.{dite}
use native.Mathlib.Decide.{ℕ_discrete}
use mathlib.Core.Option.{Option, some}
use lib.ListN.{get_elem?}
use Rattle.atomic_table.proofs.Lists.{at_set, set_again}
use Rattle.sock_words.specs.declared.plain.Plan.{Plan}
use Rattle.sock_words.specs.PackedWords.{at_word, call_id, id_slot, id_first}
use Rattle.sock_model.specs.declared.chain.Right.{Right}
use Rattle.sock_model.specs.declared.chain.Heading.{Heading}
use Rattle.sock_model.specs.declared.home.Home.{Home}
use Rattle.sock_model.specs.declared.view.Hand.{Hand}
use Rattle.sock_model.specs.declared.view.View.{View}
use Rattle.attempted_calls.specs.Below.slot_steps.proofs.SlotWeightSums.{term_le, total-append, total-set}
use Rattle.corr_core.specs.IdSlotWord.{parts}
use Rattle.corr_core.specs.declared.marks.Plan.{Plan as IdPlan}
use Rattle.attempted_calls.specs.Below.id_runs.specs.HeldIdTokens.{IdView, MayId}
use Rattle.attempted_calls.specs.Below.id_runs.specs.Goes.{FitsRetryId, FitsSock, FindsId, IdGoesOn, SoundIds, IsFittingIds}
use Rattle.attempted_calls.specs.Below.id_runs.proofs.AsideStepsKeepRule.{finds_ids}
use Rattle.seat_programs.specs.Asides.{Step, Found, PutCall, MakeId, StoreAt, UnlockId, TakeCall, Taking}
use Rattle.sock_message.specs.Asked.{Asked}
use Rattle.seat_programs.specs.FoundAndChangedAside.{found_in, calls_after}
use Rattle.seat_programs.specs.CallAndRetryPrograms.{retry}
use Rattle.seat_programs.specs.TableSteps.{TableStep, OnMessage, PutMessage}
use Rattle.seat_programs.specs.LoopHeads.{Retry}
use Rattle.seat_programs.specs.Programs.{Program, Do, Say, Sent, Rest, TakeMessage, TakeHome, PutHome, PutBytes, AskReady, Write, Aside, Round, Keep, Retries}
use Rattle.seat_programs.specs.Cores.{Calls, Core, SeatState, found_at, words_after, homes_after, hand_after, resolved, still_waiting, waiting_at, next_step, with_seat, stepped}
use Rattle.seat_programs.specs.StepTables.{word_of, word_after}
use Rattle.seat_programs.specs.Ticks.{Moment, IsAnswered, taken, ticked}
use Rattle.seat_programs.specs.StepTables.{row, hand_at}
use Rattle.attempted_calls.specs.Below.programs_allowed.specs.program_steps.specs.SoundSeats.{Sound, views_after}
use Rattle.attempted_calls.specs.Below.programs_allowed.specs.program_steps.proofs.TickCases.{with_rights, elem_there, calls_waiting}
use Rattle.attempted_calls.specs.Below.call_owing.proofs.EndsStill.{mapped_at}
use Rattle.attempted_calls.specs.Below.label_runs.specs.AttemptLabelsLeft.{Trial, Idle, Tries, Sends, put_behind, Kept, Storing, unlocked_trial}
use Rattle.attempted_calls.specs.accept_counts.specs.AttemptCounts.{pair_of, of_trial, of_retry, of_view, times_of, WasMade, WasNow, TrialFits, StoresOwn}
use Rattle.attempted_calls.specs.accept_counts.specs.RefusedOrDropped.{Deed, DidStep, DidPut, Charge, NoCharge, IsRefused, HasDropped, Doing, idle, begins, trial_in, FoundTaken, FoundLost, WasOther, WasOdd, WasNone, WhyRefused, WouldStore, WouldOwn, IsTrying, IsLast, Refuses, Moves, Remembers, Charges, did_aside, DidAt, IsRefusal, IsDrop, IsSpent, ChargeFits, ChargeLaw}
use Rattle.attempted_calls.specs.accept_counts.proofs.SeatFacts.{ids_first}
use Rattle.attempted_calls.specs.Below.outcome_stories.proofs.HomeCalls.{AreCalls}
use Rattle.attempted_calls.specs.accept_counts.proofs.SeatFacts.{tick_moves}
use Rattle.attempted_calls.specs.accept_counts.proofs.TicksKeepAttemptLaw.{put_count, few_more, few_of, fits_as, kept_count, kept_fits, pair_now, waits_set}
use Rattle.attempted_calls.specs.accept_counts.proofs.ClaimViewsBehindSteps.{row_count, rights_count}
use Rattle.attempted_calls.specs.accept_counts.proofs.IdWordsGoForward.{made_on, finds_label, words_forward, makes_new, advances_new}
use Rattle.refused_attempts.proofs.RefusedLoops.{bare, charges_round}
use Rattle.refused_attempts.proofs.RefusedPrograms.{block_goes, retry_goes}
use Rattle.attempted_calls.specs.Below.script_facts.proofs.FilteredLists.{all_map}
use Rattle.attempted_calls.specs.own_decisions.proofs.OwnDecisionsTicks.{pair_self}
use Rattle.seat_programs.specs.LoopRounds.{first_step}
use Rattle.sock_words.specs.Totals.{total}

-- ## Lists

map_set : {A B : Type 0} (f : A → B) (xs : List A) (i : ℕ) (x : A) → map f (set xs i x) ≡ set (map f xs) i (f x)
map_set f [] i x = refl
map_set f (y ∷ xs) zero x = refl
map_set f (y ∷ xs) (suc i) x = ap (λ (l : List _). f y ∷ l) (map_set f xs i x)

abbrev AreLater : List Retry → Type 0
AreLater ws = AllByRecursion (λ (r : Retry). 0 < r.attempt) ws

later_more : (ws : List Retry) (r : Retry) → AreLater ws → 0 < r.attempt → AreLater (ws ++ r ∷ [])
later_more [] r all one = (one, tt)
later_more (w ∷ ws) r all one = (all.0, later_more ws r all.1 one)

-- the lists of retries with one changed
set_waits : (P : List Retry → Type 0) (ws : List (List Retry)) (i j : ℕ) (x : List Retry) → P x → ((j : ℕ) → P (waiting_at ws j)) → P (waiting_at (set ws i x) j)
set_waits P [] i j x new all = all j
set_waits P (w ∷ ws) zero zero x new all = new
set_waits P (w ∷ ws) zero (suc j) x new all = all (suc j)
set_waits P (w ∷ ws) (suc i) zero x new all = all 0
set_waits P (w ∷ ws) (suc i) (suc j) x new all = set_waits P ws i j x new (λ k. all (suc k))

-- ## What was done stays so

taken_more : (requests : ℕ) (d : Deed) (ds : List Deed) → FoundTaken requests ds → FoundTaken requests (d ∷ ds)
taken_more requests d ds t q low = let x = t q low in (x.0, x.1, inr x.2, x.3)

lost_more : (o name n : ℕ) (d : Deed) (ds : List Deed) → FoundLost o name n ds → FoundLost o name n (d ∷ ds)
lost_more o name n d ds (WasOther id found a b e) = WasOther id found (inr a) (inr b) e
lost_more o name n d ds (WasOdd id found a b e) = WasOdd id found (inr a) (inr b) e
lost_more o name n d ds (WasNone id some_ a) = WasNone id some_ (inr a)

why_more : (requests : ℕ) (asked : Asked) (n code : ℕ) (d : Deed) (ds : List Deed) → WhyRefused requests asked n code ds → WhyRefused requests asked n code (d ∷ ds)
why_more requests asked n code d ds (inl f) = inl (f.0, taken_more requests d ds f.1)
why_more requests asked n code d ds (inr l) = inr (l.0, lost_more _ _ n d ds l.1)

refusal_more : (requests : ℕ) (is_call : Asked → Type 0) (ids : ℕ → ℕ) (id n code : ℕ) (d : Deed) (ds : List Deed) → IsRefusal requests is_call ids id n code ds → IsRefusal requests is_call ids id n code (d ∷ ds)
refusal_more requests is_call ids id n code d ds r = record { asked = r.asked; called = r.called; own = r.own; few = r.few; put = inr r.put; why = why_more requests r.asked n code d ds r.why }

drop_more : (heading : Heading) (code : ℕ) (d : Deed) (ds : List Deed) → IsDrop heading code ds → IsDrop heading code (d ∷ ds)
drop_more heading code d ds r = record { holder = r.holder; now = r.now; left = r.left; taken = r.taken; asked = r.asked; found = r.found; round = inr r.round; load = inr r.load; drop = inr r.drop }

-- ## Retries that are kept and taken up

record Resolved (requests : ℕ) (is_call : Asked → Type 0) (reads : Bool) (ids : ℕ → ℕ) (s : Doing) (ws : List Retry) (x : Program) : Type 0 where
  pub doing : Doing
  pub goes : Charges requests is_call reads doing (next_step (resolved ws x))
  pub later : AreLater (still_waiting ws x)
  pub fewer : (id n : ℕ) → of_trial id n doing.trial + total (of_retry id n) (still_waiting ws x) ≤ of_trial id n s.trial + total (of_retry id n) ws
  pub fits : TrialFits ids s.trial → TrialFits ids doing.trial
  pub remembers : Remembers requests is_call reads s.deeds s doing

module _ (requests : ℕ) (is_call : Asked → Type 0) (reads : Bool) (ids : ℕ → ℕ) where
  abbrev R : Doing → List Retry → Program → Type 0
  R s ws x = Resolved requests is_call reads ids s ws x

  stays : (s : Doing) (ws : List Retry) (x : Program) → AreLater ws → Charges requests is_call reads s (next_step (resolved ws x)) → still_waiting ws x ≡ ws → R s ws x
  stays s ws x later g e = record {
    doing = s;
    goes = g;
    later = subst AreLater (sym e) later;
    fewer = λ id n. (let z : total (of_retry id n) (still_waiting ws x) ≡ total (of_retry id n) ws = ap (total (of_retry id n)) e in omega (arith, z));
    fits = λ f. f;
    remembers = inl (refl, refl);
  }

  -- behind a retry nothing is remembered
  forgot : (s : Doing) (ws vs : List Retry) (x y : Program) → (r : R idle ws x) → Charges requests is_call reads r.doing (next_step (resolved vs y)) → AreLater (still_waiting vs y)
      → ((id n : ℕ) → of_trial id n r.doing.trial + total (of_retry id n) (still_waiting vs y) ≤ of_trial id n s.trial + total (of_retry id n) vs) → R s vs y
  forgot s ws vs x y r g later fewer = record {
    doing = r.doing;
    goes = g;
    later = later;
    fewer = fewer;
    fits = λ _. r.fits tt;
    remembers = ⊎_elim (λ e. inr (e.0, e.1)) (λ e. inr e) r.remembers;
  }

  resolves : (s : Doing) (ws : List Retry) (x : Program) → AreLater ws → AllByRecursion (λ (r : Retry). r.attempt ≤ 6) ws → Charges requests is_call reads s x → R s ws x
  resolves s ws (Say o outcome next) later few g = let r = resolves s ws next later few g in record { doing = r.doing; goes = r.goes; later = r.later; fewer = r.fewer; fits = r.fits; remembers = r.remembers }
  resolves s ws (Sent o next) later few g = let r = resolves s ws next later few g in record { doing = r.doing; goes = r.goes; later = r.later; fewer = r.fewer; fits = r.fits; remembers = r.remembers }
  resolves s ws (Keep k next) later few g = let r = resolves idle (ws ++ k ∷ []) next (later_more ws k later g.2) (few_more ws k few g.1) g.3 in
      forgot s (ws ++ k ∷ []) ws next (Keep k next) r r.goes r.later
      (λ id n. (let a = r.fewer id n in let b : total (of_retry id n) (ws ++ k ∷ []) ≡ total (of_retry id n) ws + (of_retry id n k + 0) = total-append (of_retry id n) ws (k ∷ []) in let e : of_trial id n s.trial ≡ of_retry id n k = ap (of_trial id n) g.0 in omega (arith, a, b, e)))
  resolves s [] (Retries many after) later few g = let r = resolves idle [] after tt tt g.2 in forgot s [] [] after (Retries many after) r r.goes r.later (λ id n. (let a = r.fewer id n in omega (arith, a)))
  resolves s (k ∷ ws) (Retries many after) later few g = record {
    doing = bare (Tries k.id k.attempt) [];
    goes = subst (λ m. Charges requests is_call reads (bare (Tries k.id k.attempt) []) (retry m k.id k.attempt (Retries many after))) (sym g.1) (retry_goes requests is_call reads g.0 k.id k.attempt (Retries many after) few.0 later.0 g);
    later = later.1;
    fewer = λ id n. omega arith;
    fits = λ f. tt;
    remembers = inr (refl, refl);
  }
  resolves s ws (Do call next) later few g = stays s ws (Do call next) later g refl
  resolves s ws Rest later few g = stays s ws Rest later g refl
  resolves s ws (TakeMessage q next) later few g = stays s ws (TakeMessage q next) later g refl
  resolves s ws (TakeHome k next) later few g = stays s ws (TakeHome k next) later g refl
  resolves s ws (PutHome k n after) later few g = stays s ws (PutHome k n after) later g refl
  resolves s ws (PutBytes k asked bytes next) later few g = stays s ws (PutBytes k asked bytes next) later g refl
  resolves s ws (AskReady k next) later few g = stays s ws (AskReady k next) later g refl
  resolves s ws (Write w after) later few g = stays s ws (Write w after) later g refl
  resolves s ws (Aside step next) later few g = stays s ws (Aside step next) later g refl
  resolves s ws (Round head next) later few g = stays s ws (Round head next) later g refl

-- ## A tick

module _ (p : Plan) (q : IdPlan) (narrow : q.slots ≤ 65536) (is_call : Asked → Type 0) (ids : ℕ → ℕ) (Did : ℕ → Deed → Type 0) (c : Core) (vs : List View) (ss : List Doing) (law : ChargeLaw p.requests is_call ids p q Did c vs ss)
    (calls : AreCalls is_call c.calls) (us : List IdView) (real_ids : SoundIds p q c us) (m : Moment) where
  -- with what is done in the tick
  abbrev pub Then : ℕ → Deed → Type 0
  Then j d = Did j d ⊎ DidAt p c m j d

  abbrev Times : Core → List View → List Doing → ℕ → ℕ → ℕ
  Times c vs ss id n = times_of id n c vs (map trial_in ss)

  abbrev Spent : Core → List View → List Doing → ℕ → ℕ → Type 0
  Spent c vs ss id n = IsSpent p.requests is_call ids p q c vs ss id n

  abbrev pub After : Core → List View → Type 0
  After c' vs' = (ss' : List Doing) × ChargeLaw p.requests is_call ids p q Then c' vs' ss' × ((id n : ℕ) → Spent c vs ss id n → Spent c' vs' ss' id n)

  due_as : (d vs' ss' : _) → ((id n : ℕ) → Spent c vs ss id n → Spent d vs' ss' id n) → (x : Charge) (ds : List Deed) → ChargeFits p.requests is_call ids p q c vs ss x ds → ChargeFits p.requests is_call ids p q d vs' ss' x ds
  due_as d vs' ss' spent NoCharge ds f = tt
  due_as d vs' ss' spent (IsRefused id n code) ds f = (f.0, spent id n f.1)
  due_as d vs' ss' spent (HasDropped heading code) ds f = f

  due_more : (x : Charge) (d : Deed) (ds : List Deed) → ChargeFits p.requests is_call ids p q c vs ss x ds → ChargeFits p.requests is_call ids p q c vs ss x (d ∷ ds)
  due_more NoCharge d ds f = tt
  due_more (IsRefused id n code) d ds f = (refusal_more p.requests is_call ids id n code d ds f.0, f.1)
  due_more (HasDropped heading code) d ds f = drop_more heading code d ds f

  nothing : After c vs
  nothing = (
    ss,
    record { once = law.once; made = law.made; each = law.each; later = law.later; trials = law.trials; did = λ j s at. all_map (Did j) (Then j) (λ d x. inl x) s.deeds (law.did j s at); due = law.due; programs = law.programs },
    λ id n x. x,
  )

  abbrev i : ℕ
  i = m.seat

  module _ (seat : SeatState) (v : View) (s : Doing) (at_seat : get_elem? c.seats m.seat ≡ some seat) (at_view : get_elem? vs m.seat ≡ some v) (at_doing : get_elem? ss m.seat ≡ some s) where
    abbrev reads : Bool
    reads = nat_le 32 m.seat

    -- the seat goes on with this program, state and view; these attempts are made by the step
    record Goes (a : Calls) (x : Program) (u : Doing) (w : View) : Type 0 where
      pub charges : Charges p.requests is_call reads u x
      pub kept : a.waiting ≡ c.calls.waiting
      pub words : (id n : ℕ) → WasMade q c.calls.words id n → WasMade q a.words id n
      pub fits : TrialFits ids u.trial
      pub did : AllByRecursion (Then m.seat) u.deeds
      pub new : ℕ → ℕ → ℕ
      pub fewer : (id n : ℕ) → of_trial id n u.trial + of_view id n w ≤ of_trial id n s.trial + of_view id n v + new id n
      pub fresh : (id n : ℕ) → 0 < new id n → (new id n ≤ 1) × (WasMade q c.calls.words id n → ⊥) × WasMade q a.words id n
      -- what it is charged with it was before, or it gives an attempt up
      pub due : ChargeFits p.requests is_call ids p q c vs ss u.charge u.deeds
          ⊎ ((id n code : ℕ) × (u.charge ≡ IsRefused id n code) × IsRefusal p.requests is_call ids id n code u.deeds × (new id n ≡ 0) × WasMade q c.calls.words id n × (of_trial id n u.trial + of_view id n w + 1 ≤ of_trial id n s.trial + of_view id n v))

    module _ (a : Calls) (x : Program) (hand : List Home) (ws : List ℕ) (hs : List (Option Home)) (u : Doing) (w : View) (g : Goes a x u w) where
      later_here : AreLater (waiting_at a.waiting i)
      later_here = subst (λ (l : List (List Retry)). AreLater (waiting_at l m.seat)) (sym g.kept) (law.later m.seat)

      few_here : AllByRecursion (λ (r : Retry). r.attempt ≤ 6) (waiting_at a.waiting m.seat)
      few_here = few_of q (waiting_at a.waiting m.seat) (subst (λ (l : List (List Retry)). AllByRecursion (FitsRetryId q) (waiting_at l m.seat)) (sym g.kept) (real_ids.waiting m.seat))

      r : Resolved p.requests is_call reads ids u (waiting_at a.waiting m.seat) x
      r = resolves p.requests is_call reads ids u (waiting_at a.waiting m.seat) x later_here few_here g.charges

      abbrev next_seat : SeatState
      next_seat = record { program = next_step (resolved (waiting_at a.waiting m.seat) x); hand = hand }

      abbrev next_core : Core
      next_core = with_seat m.seat x hand ws hs (record c { calls = a })

      abbrev next_doing : List Doing
      next_doing = set ss m.seat r.doing

      bound : (id n : ℕ) → Times next_core (set vs m.seat w) next_doing id n + of_trial id n s.trial + of_view id n v ≤ Times c vs ss id n + of_trial id n u.trial + of_view id n w
      bound id n = let zero_ : total (of_trial id n) (map trial_in (set ss m.seat r.doing)) ≡ total (of_trial id n) (set (map trial_in ss) m.seat r.doing.trial) = ap (total (of_trial id n)) (map_set trial_in ss m.seat r.doing) in
          let one = total-set (of_trial id n) (map trial_in ss) m.seat s.trial r.doing.trial (mapped_at trial_in ss m.seat s at_doing) in let two = total-set (of_view id n) vs m.seat v w at_view in
          let three = waits_set (total (of_retry id n)) refl a.waiting m.seat (still_waiting (waiting_at a.waiting m.seat) x) in
          let four : total (total (of_retry id n)) a.waiting ≡ total (total (of_retry id n)) c.calls.waiting = ap (total (total (of_retry id n))) g.kept in
          let five = r.fewer id n in omega (arith, zero_, one, two, three, four, five)

      -- nothing is made again
      none_new : (id n : ℕ) → WasMade q c.calls.words id n → g.new id n ≡ 0
      none_new id n was = dite (ℕ_discrete (g.new id n) 0) (λ z. z) (λ ne. absurd ((g.fresh id n (omega (arith, ne))).1 was))

      spent_on : (id n : ℕ) → Spent c vs ss id n → Spent next_core (set vs m.seat w) next_doing id n
      spent_on id n t = ((let b = bound id n in let f = g.fewer id n in let z = none_new id n t.1 in let none_ = t.0 in omega (arith, b, f, z, none_)), g.words id n t.1)

      none_before : (id n : ℕ) → (WasMade q c.calls.words id n → ⊥) → Times c vs ss id n ≡ 0
      none_before id n never = dite (ℕ_discrete (Times c vs ss id n) 0) (λ z. z) (λ ne. absurd (never (law.made id n (omega (arith, ne)))))

      due_u : ChargeFits p.requests is_call ids p q next_core (set vs m.seat w) next_doing u.charge u.deeds
      due_u = ⊎_elim (λ f. due_as next_core (set vs m.seat w) next_doing spent_on u.charge u.deeds f)
          (λ d. subst (λ y. ChargeFits p.requests is_call ids p q next_core (set vs m.seat w) next_doing y u.deeds) (sym d.3)
          (d.4, ((let b = bound d.0 d.1 in let less = d.7 in let once = law.once d.0 d.1 in omega (arith, b, less, once)), g.words d.0 d.1 d.6))) g.due

      did_r : AllByRecursion (Then m.seat) r.doing.deeds
      did_r = ⊎_elim (λ e. subst (AllByRecursion (Then m.seat)) (sym e.1) g.did) (λ e. subst (AllByRecursion (Then m.seat)) (sym e.1) tt) r.remembers

      due_r : ChargeFits p.requests is_call ids p q next_core (set vs m.seat w) next_doing r.doing.charge r.doing.deeds
      due_r = ⊎_elim (λ e. subst (λ y. ChargeFits p.requests is_call ids p q next_core (set vs m.seat w) next_doing y r.doing.deeds) (sym e.0) (subst (λ y. ChargeFits p.requests is_call ids p q next_core (set vs m.seat w) next_doing u.charge y) (sym e.1) due_u))
          (λ e. subst (λ y. ChargeFits p.requests is_call ids p q next_core (set vs m.seat w) next_doing y r.doing.deeds) (sym e.0) tt) r.remembers

      goes_on : After next_core (set vs m.seat w)
      goes_on = (
        next_doing,
        record {
          once = λ id n. dite (ℕ_discrete (g.new id n) 0) (λ z. let b = bound id n in let o = law.once id n in let f = g.fewer id n in omega (arith, b, z, o, f))
              (λ ne. let b = bound id n in let new = g.fresh id n (omega (arith, ne)) in let one = new.0 in let f = g.fewer id n in let none_ = none_before id n new.1 in omega (arith, b, f, one, none_));
          made = λ id n some_. dite (ℕ_discrete (g.new id n) 0) (λ z. let b = bound id n in let f = g.fewer id n in g.words id n (law.made id n (omega (arith, b, f, z, some_)))) (λ ne. (g.fresh id n (omega (arith, ne))).2);
          each = length-set ss m.seat r.doing ∙ (law.each ∙ sym (length-set c.seats m.seat next_seat));
          later = λ j. set_waits AreLater a.waiting m.seat j (still_waiting (waiting_at a.waiting m.seat) x) r.later (λ k. subst (λ (l : List (List Retry)). AreLater (waiting_at l k)) (sym g.kept) (law.later k));
          trials = λ j y e. ⊎_elim (λ b. subst (λ (d : Doing). TrialFits ids d.trial) b.1 (r.fits g.fits)) (λ b. law.trials j y b.1) (at_set ss m.seat j r.doing y e);
          did = λ j y e. ⊎_elim (λ b. subst (λ z. AllByRecursion (Then z) y.deeds) (sym b.0) (subst (λ (d : Doing). AllByRecursion (Then m.seat) d.deeds) b.1 did_r))
              (λ b. all_map (Did j) (Then j) (λ d z. inl z) y.deeds (law.did j y b.1)) (at_set ss m.seat j r.doing y e);
          due = λ j y e. ⊎_elim (λ b. subst (λ (d : Doing). ChargeFits p.requests is_call ids p q next_core (set vs m.seat w) next_doing d.charge d.deeds) b.1 due_r)
              (λ b. due_as next_core (set vs m.seat w) next_doing spent_on y.charge y.deeds (law.due j y b.1)) (at_set ss m.seat j r.doing y e);
          programs = λ j s' y es et. ⊎_elim
              (λ b. ⊎_elim
              (λ d. subst (λ k. Charges p.requests is_call (nat_le 32 k) y s'.program) (sym b.0) (subst (λ (z : SeatState). Charges p.requests is_call reads y z.program) b.1 (subst (λ (z : Doing). Charges p.requests is_call reads z next_seat.program) d.1 r.goes)))
              (λ d. absurd (d.0 b.0)) (at_set ss m.seat j r.doing y et))
              (λ b. ⊎_elim (λ d. absurd (b.0 d.0)) (λ d. law.programs j s' y b.1 d.1) (at_set ss m.seat j r.doing y et)) (at_set c.seats m.seat j next_seat s' es);
        },
        spent_on,
      )

    -- ## The seat's first step

    -- at the head of a loop the round is begun
    pub record First (program : Program) : Type 0 where
      pub doing : Doing
      pub goes : Charges p.requests is_call reads doing program
      pub fewer : (id n : ℕ) → of_trial id n doing.trial ≤ of_trial id n s.trial
      pub fits : TrialFits ids doing.trial
      pub did : AllByRecursion (Then m.seat) doing.deeds
      pub due : ChargeFits p.requests is_call ids p q c vs ss doing.charge doing.deeds

    as_is : (program : Program) → Charges p.requests is_call reads s program → First program
    as_is program g = record {
      doing = s;
      goes = g;
      fewer = λ id n. omega arith;
      fits = law.trials m.seat s at_doing;
      did = all_map (Did m.seat) (Then m.seat) (λ d x. inl x) s.deeds (law.did m.seat s at_doing);
      due = law.due m.seat s at_doing;
    }

    first_of_seat : (program : Program) → seat.program ≡ program → Charges p.requests is_call reads s program → First (first_step program)
    first_of_seat (Write w after) is g = record {
      doing = begins w;
      goes = block_goes p.requests is_call reads g.0 w after g.1;
      fewer = λ id n. omega arith;
      fits = tt;
      did = (inr (refl, seat, after, at_seat, is), tt);
      due = tt;
    }
    first_of_seat (Round head next) is g = as_is (first_step (Round head next)) (charges_round p.requests is_call reads s head next g)
    first_of_seat program is g = as_is program g

    first_here : First (first_step seat.program)
    first_here = first_of_seat seat.program refl (law.programs m.seat seat s at_seat at_doing)

    pub first_as : (program : Program) → first_step seat.program ≡ program → First program
    first_as program is = subst First is first_here

    -- a move of the seat that is no step on words
    pub moves : (x : Program) (hand : List Home) (hs : List (Option Home)) (w : View) (rights : List Right) → w ≡ with_rights v rights → Charges p.requests is_call reads idle x → After (with_seat m.seat x hand c.words hs (record c { calls = c.calls })) (set vs m.seat w)
    moves x hand hs w rights e g = goes_on c.calls x hand c.words hs idle w record {
      charges = g;
      kept = refl;
      words = λ id n y. y;
      fits = tt;
      did = tt;
      new = λ id n. 0;
      fewer = λ id n. (let a = rights_count v id n w rights e in omega (arith, a));
      fresh = λ id n z. absurd (omega (arith, z));
      due = inl tt;
    }

    -- ## Steps on the sockets

    behind_fits : (t : Trial) (call : TableStep) → TrialFits ids t → TrialFits ids (put_behind t call)
    behind_fits t (OnMessage (PutMessage r heading bytes)) f = tt
    behind_fits t _ f = f

    -- where the right words were found it stored an at word of its operation
    abbrev pub WouldOwnBy : Program → Type 0
    WouldOwnBy program = (o id n : ℕ) → n ≤ 6 → id_slot id < 65536 → WouldStore o id n program → ids o ≡ id

    module _ (call : TableStep) (next : ℕ → Program) (is : first_step seat.program ≡ Do call next) (f : First (Do call next)) (would : WouldOwnBy (Do call next)) (found : ℕ) (found_is : found ≡ found_at c.words (word_of p call)) where
      abbrev d : Doing
      d = f.doing

      made_now : Then m.seat (DidStep call found)
      made_now = inr (refl, seat, next, at_seat, is, found_is)

      -- the attempt that the seat tries counts
      counts : (t : Trial) (o id n : ℕ) → IsTrying t o id n (Do call next) → of_trial id n t ≡ 1
      counts t o id n (inl e) = ap (of_trial id n) e ∙ pair_self id n
      counts t o id n (inr e) = ap (of_trial id n) e.0 ∙ pair_self id n

      stands : (id n : ℕ) → of_trial id n d.trial ≡ 1 → 0 < Times c vs ss id n
      stands id n one = let a = term_le (of_trial id n) (map trial_in ss) m.seat s.trial (mapped_at trial_in ss m.seat s at_doing) in let b = f.fewer id n in omega (arith, a, b, one)

      low : (id n : ℕ) → of_trial id n d.trial ≡ 1 → id_slot id < 65536
      low id n one = let a = (law.made id n (stands id n one)).0 in omega (arith, a, narrow)

      own_of : (t : Trial) (o id n : ℕ) → d.trial ≡ t → n ≤ 6 → IsTrying t o id n (Do call next) → ids o ≡ id
      own_of t o id n same few (inl e) = let fits : TrialFits ids (Sends o id n) = subst (TrialFits ids) (same ∙ e) f.fits in fits.0
      own_of t o id n same few (inr e) = would o id n few (low id n (counts d.trial o id n (inr (same ∙ e.0, e.1)))) e.1

      module _ (hand : Hand) where
        abbrev w : View
        w = row p call found hand v

        abbrev CF : Charge → List Deed → Type 0
        CF x ds = ChargeFits p.requests is_call ids p q c vs ss x ds

        same_due : (u : Doing) → (u.charge ≡ d.charge) × (u.deeds ≡ DidStep call found ∷ d.deeds) → CF u.charge u.deeds
        same_due u e = subst (λ y. CF y u.deeds) (sym e.0) (subst (λ y. CF d.charge y) (sym e.1) (due_more d.charge (DidStep call found) d.deeds f.due))

        none_due : (u : Doing) → u.charge ≡ NoCharge → CF u.charge u.deeds
        none_due u e = subst (λ y. CF y u.deeds) (sym e) tt

        did_more : (u : Doing) → u.deeds ≡ DidStep call found ∷ d.deeds → AllByRecursion (Then m.seat) u.deeds
        did_more u e = subst (AllByRecursion (Then m.seat)) (sym e) (made_now, f.did)

        last_now : (o id n : ℕ) (deed : Deed) → IsLast call next found o id n deed → Then m.seat deed
        last_now o id n deed (inl e) = subst (Then m.seat) (sym e) made_now
        last_now o id n deed (inr x) = subst (Then m.seat) (sym x.3) (inr (refl, seat, next, at_seat, is ∙ ap (λ (y : TableStep). Do y next) x.1, ap (λ (y : TableStep). found_at c.words (word_of p y)) (sym x.1) ∙ (sym found_is ∙ x.2), subst (WouldStore o id n) (sym is) x.4))

        no_less : (id n : ℕ) (u : Doing) → u.trial ≡ Idle → of_trial id n u.trial + of_view id n w ≤ of_trial id n s.trial + of_view id n v + 0
        no_less id n u e = let z : of_trial id n u.trial ≡ 0 = ap (of_trial id n) e in let a = row_count v id n p found hand call in let b = put_count is_call v id n d.trial call f.goes.0 in let x = f.fewer id n in omega (arith, z, a, b, x)

        refused : (u : Doing) (x : Refuses p.requests is_call reads call next found d u) → IsRefusal p.requests is_call ids x.id x.attempt x.code u.deeds
        refused u x = subst (IsRefusal p.requests is_call ids x.id x.attempt x.code) (sym x.deeds)
            record { asked = x.asked; called = x.called; own = own_of d.trial x.asked.operation x.id x.attempt refl x.few x.trying; few = x.few; put = inr x.put; why = x.why }

        given_up : (u : Doing) (x : Refuses p.requests is_call reads call next found d u) → of_trial x.id x.attempt u.trial + of_view x.id x.attempt w + 1 ≤ of_trial x.id x.attempt s.trial + of_view x.id x.attempt v
        given_up u x = let z : of_trial x.id x.attempt u.trial ≡ 0 = ap (of_trial x.id x.attempt) x.gives_up in let a = row_count v x.id x.attempt p found hand call in
            let b = put_count is_call v x.id x.attempt d.trial call f.goes.0 in let still : of_trial x.id x.attempt (put_behind d.trial call) ≡ of_trial x.id x.attempt d.trial = ap (of_trial x.id x.attempt) x.still in
            let one = counts d.trial x.asked.operation x.id x.attempt x.trying in let y = f.fewer x.id x.attempt in omega (arith, z, a, b, still, one, y)

        after_move : (u : Doing) → Moves p.requests is_call reads call next found d u → Charges p.requests is_call reads u (next found) → Goes c.calls (next found) u w
        after_move u (inl k) g = record {
          charges = g;
          kept = refl;
          words = λ id n y. y;
          fits = kept_fits ids (put_behind d.trial call) u.trial k.0 (behind_fits d.trial call f.fits);
          did = ⊎_elim (λ e. did_more u e.1) (λ e. subst (AllByRecursion (Then m.seat)) (sym e.1) tt) k.1;
          new = λ id n. 0;
          fewer = λ id n. (let a = row_count v id n p found hand call in let b = put_count is_call v id n d.trial call f.goes.0 in let e = kept_count id n (put_behind d.trial call) u.trial k.0 in let x = f.fewer id n in omega (arith, a, b, e, x));
          fresh = λ id n z. absurd (omega (arith, z));
          due = inl (⊎_elim (same_due u) (λ e. none_due u e.0) k.1);
        }
        after_move u (inr (inl x)) g = record {
          charges = g;
          kept = refl;
          words = λ id n y. y;
          fits = subst (TrialFits ids) (sym x.gives_up) tt;
          did = subst (AllByRecursion (Then m.seat)) (sym x.deeds) (last_now x.asked.operation x.id x.attempt x.deed x.last, f.did);
          new = λ id n. 0;
          fewer = λ id n. no_less id n u x.gives_up;
          fresh = λ id n z. absurd (omega (arith, z));
          due = inr (x.id, x.attempt, x.code, x.charge, refused u x, refl, law.made x.id x.attempt (stands x.id x.attempt (counts d.trial x.asked.operation x.id x.attempt x.trying)), given_up u x);
        }
        after_move u (inr (inr x)) g = record {
          charges = g;
          kept = refl;
          words = λ id n y. y;
          fits = subst (TrialFits ids) (sym x.gives_up) tt;
          did = did_more u x.deeds;
          new = λ id n. 0;
          fewer = λ id n. no_less id n u x.gives_up;
          fresh = λ id n z. absurd (omega (arith, z));
          due = inl (subst (λ y. CF y u.deeds) (sym x.charge) (subst (IsDrop x.heading x.code) (sym x.deeds)
              record { holder = x.holder; now = x.now; left = x.left; taken = x.taken; asked = x.asked; found = found; round = inr x.round; load = inr x.load; drop = inl (ap (λ (y : TableStep). DidStep y found) (sym x.is)) }));
        }

    pub steps : (call : TableStep) (next : ℕ → Program) → first_step seat.program ≡ Do call next → First (Do call next) → WouldOwnBy (Do call next) → FitsSock call (found_at c.words (word_of p call))
        → After (stepped p m.seat seat call next c) (set vs m.seat (row p call (found_at c.words (word_of p call)) (hand_at p c.words c.homes call) v))
    steps call next is f would fits = let u = f.goes.1 (found_at c.words (word_of p call)) fits in
        goes_on c.calls (next (found_at c.words (word_of p call))) (hand_after p call c.homes seat.hand) (words_after c.words (word_of p call) (word_after call (found_at c.words (word_of p call)))) (homes_after p call seat.hand c.homes) u.0
        (row p call (found_at c.words (word_of p call)) (hand_at p c.words c.homes call) v)
        (after_move call next is f would (found_at c.words (word_of p call)) refl (hand_at p c.words c.homes call) u.0 u.1 u.2)

    -- ## Steps aside

    module _ (u : IdView) (at : get_elem? us m.seat ≡ some u) where
      module _ (step : Step) (next : Found step → Program) (is : first_step seat.program ≡ Aside step next) (f : First (Aside step next)) (found : Found step) (answer : Option Taking) (found_is : found_in step c.calls answer ≡ some found) (may : MayId p q u step) where
        abbrev t : Doing
        t = f.doing

        finds : FindsId p q u step found
        finds = finds_ids p q c.calls real_ids.plan us real_ids.rule m.seat u at (real_ids.real m.seat u at) (real_ids.called, real_ids.placed) real_ids.homes step answer found found_is may

        words_on : (id n : ℕ) → WasMade q c.calls.words id n → WasMade q (calls_after step found c.calls).words id n
        words_on = made_on q c.calls.words (calls_after step found c.calls).words (words_forward p q c us real_ids m.seat u at step answer found found_is may finds)

        abbrev Ends : Type 0
        Ends = After (with_seat m.seat (next found) seat.hand c.words c.homes (record c { calls = calls_after step found c.calls })) vs

        abbrev Held : Doing → Type 0
        Held y = Remembers p.requests is_call reads (did_aside p.requests is_call reads step t.deeds) t y

        did_here : (x : Step) (k : Found x → Program) → first_step seat.program ≡ Aside x k → AllByRecursion (Then m.seat) (did_aside p.requests is_call reads x t.deeds)
        did_here (PutCall i asked) k e = (inr (refl, seat, i, k, at_seat, e), f.did)
        did_here _ k e = f.did

        due_here : (x : Step) → ChargeFits p.requests is_call ids p q c vs ss t.charge (did_aside p.requests is_call reads x t.deeds)
        due_here (PutCall i asked) = due_more t.charge (DidPut asked) t.deeds f.due
        due_here _ = f.due

        did_then : (y : Doing) → Held y → AllByRecursion (Then m.seat) y.deeds
        did_then y (inl e) = subst (AllByRecursion (Then m.seat)) (sym e.1) (did_here step next is)
        did_then y (inr e) = subst (AllByRecursion (Then m.seat)) (sym e.1) tt

        due_then : (y : Doing) → Held y → ChargeFits p.requests is_call ids p q c vs ss y.charge y.deeds
        due_then y (inl e) = subst (λ z. ChargeFits p.requests is_call ids p q c vs ss z y.deeds) (sym e.0) (subst (ChargeFits p.requests is_call ids p q c vs ss t.charge) (sym e.1) (due_here step))
        due_then y (inr e) = subst (λ z. ChargeFits p.requests is_call ids p q c vs ss z y.deeds) (sym e.0) tt

        ends : (y : Doing) → Goes (calls_after step found c.calls) (next found) y v → Ends
        ends y g = subst (λ xs. After (with_seat m.seat (next found) seat.hand c.words c.homes (record c { calls = calls_after step found c.calls })) xs) (set_again vs m.seat v at_view)
            (goes_on (calls_after step found c.calls) (next found) seat.hand c.words c.homes y v g)

        -- the attempt of the seat stays, or is given up
        still : (y : Doing) → Charges p.requests is_call reads y (next found) → Held y → TrialFits ids y.trial → ((id n : ℕ) → of_trial id n y.trial ≤ of_trial id n t.trial) → Ends
        still y g held fits fewer = ends y record {
          charges = g;
          kept = calls_waiting step found c.calls;
          words = words_on;
          fits = fits;
          did = did_then y held;
          new = λ id n. 0;
          fewer = λ id n. (let a = fewer id n in let b = f.fewer id n in omega (arith, a, b));
          fresh = λ id n z. absurd (omega (arith, z));
          due = inl (due_then y held);
        }

        keeps : (y : Doing) → Kept t.trial y.trial → Held y → Charges p.requests is_call reads y (next found) → Ends
        keeps y k held g = still y g held (kept_fits ids t.trial y.trial k f.fits) (λ id n. kept_count id n t.trial y.trial k)

        -- a new attempt
        makes : (id₀ n₀ : ℕ) (y : Doing) → y.trial ≡ Tries id₀ n₀ → Held y → Charges p.requests is_call reads y (next found) → WasNow q (calls_after step found c.calls).words id₀ n₀ → (WasMade q c.calls.words id₀ n₀ → ⊥) → Ends
        makes id₀ n₀ y e held g now unmade = ends y record {
          charges = g;
          kept = calls_waiting step found c.calls;
          words = words_on;
          fits = subst (TrialFits ids) (sym e) tt;
          did = did_then y held;
          new = λ id n. pair_of id n id₀ n₀;
          fewer = λ id n. (let z : of_trial id n y.trial ≡ pair_of id n id₀ n₀ = ap (of_trial id n) e in omega (arith, z));
          fresh = λ id n some_. let m = pair_now q c.calls.words (calls_after step found c.calls).words id₀ n₀ now unmade id n some_ in (m.0, m.2, (m.1.0, inr m.1.1));
          due = inl (due_then y held);
        }

        -- the slot of an id that the seat tries is one of the table
        tried_low : (id n : ℕ) → t.trial ≡ Tries id n → id_slot id < 65536
        tried_low id n e = let here : of_trial id n t.trial ≡ 1 = ap (of_trial id n) e ∙ pair_self id n in
            let some_ = term_le (of_trial id n) (map trial_in ss) m.seat s.trial (mapped_at trial_in ss m.seat s at_doing) in let b = f.fewer id n in
            let made = (law.made id n (omega (arith, here, some_, b))).0 in omega (arith, made, narrow)

        stored : (w : ℕ) (o : ℕ) → ((id n k : ℕ) → w ≡ at_word (id_first id) (id_slot id) k n → k < 65535 → n ≤ 6 → id_slot id < 65536 → (ids o ≡ id) × (id ≢ 0))
            → (y : Doing) → Storing o w t.trial y.trial → Held y → Charges p.requests is_call reads y (next found) → Ends
        stored w o own y x held g = still y g held
            (subst (TrialFits ids) (sym x.7) (let z = own x.0 x.1 x.2 x.4 x.5 x.6 (tried_low x.0 x.1 x.3) in (z.0, z.1, x.6)))
            (λ id n. (let a : of_trial id n y.trial ≡ pair_of id n x.0 x.1 = ap (of_trial id n) x.7 in let b : of_trial id n t.trial ≡ pair_of id n x.0 x.1 = ap (of_trial id n) x.3 in omega (arith, a, b)))

      -- each step aside
      pub asides : (step : Step) (next : Found step → Program) → first_step seat.program ≡ Aside step next → First (Aside step next) → (found : Found step) (answer : Option Taking) → found_in step c.calls answer ≡ some found → MayId p q u step
          → ((o w : ℕ) → step ≡ StoreAt o w → (id n k : ℕ) → w ≡ at_word (id_first id) (id_slot id) k n → k < 65535 → n ≤ 6 → id_slot id < 65536 → (ids o ≡ id) × (id ≢ 0))
          → After (with_seat m.seat (next found) seat.hand c.words c.homes (record c { calls = calls_after step found c.calls })) vs
      asides (MakeId k range) next is f found answer found_is may own = let x = f.goes.1 found tt in let n = makes_new p q c us real_ids m.seat u at k range found found_is may (finds (MakeId k range) next is f found answer found_is may) in
          makes (MakeId k range) next is f found answer found_is may (call_id k (parts found).first) 0 x.0 x.1.0 x.1.1 x.2 n.0 (n.1 0)
      asides (StoreAt o w) next is f found answer found_is may own = let x = f.goes.1 found tt in stored (StoreAt o w) next is f found answer found_is may w o (own o w refl) x.0 x.1.0 x.1.1 x.2
      asides (UnlockId k from false) next is f found answer found_is may own = let l = finds_label p q c us real_ids m.seat u at (UnlockId k from false) found may (finds (UnlockId k from false) next is f found answer found_is may) in let x = f.goes.1 found l in
          keeps (UnlockId k from false) next is f found answer found_is may x.0 (inl x.1.0) x.1.1 x.2
      asides (UnlockId k from true) next is f found answer found_is may own = let l = finds_label p q c us real_ids m.seat u at (UnlockId k from true) found may (finds (UnlockId k from true) next is f found answer found_is may) in let x = f.goes.1 found l in
          by (eqb found from) refl x.0 x.1.0 x.1.1 x.2
        where
          by : (b : Bool) → eqb found from ≡ b → (y : Doing) → y.trial ≡ unlocked_trial k from true found f.doing.trial → Remembers p.requests is_call reads f.doing.deeds f.doing y → Charges p.requests is_call reads y (next found)
              → After (with_seat m.seat (next found) seat.hand c.words c.homes (record c { calls = calls_after (UnlockId k from true) found c.calls })) vs
          by true hit y e held g = let n = advances_new p q c us real_ids m.seat u at k from found found_is (eqb-true found from hit) may
              (finds_label p q c us real_ids m.seat u at (UnlockId k from true) found may (finds (UnlockId k from true) next is f found answer found_is may)) in
              makes (UnlockId k from true) next is f found answer found_is may (call_id k (parts from).first) ((parts from).attempt + 1) y (e ∙ ap (λ b. cond b (Tries (call_id k (parts from).first) ((parts from).attempt + 1)) f.doing.trial) hit) held g n.0 n.1
          by false miss y e held g = keeps (UnlockId k from true) next is f found answer found_is may y (inl (e ∙ ap (λ b. cond b (Tries (call_id k (parts from).first) ((parts from).attempt + 1)) f.doing.trial) miss)) held g
      asides (PutCall k asked) next is f found answer found_is may own = let x = f.goes.1 found tt in keeps (PutCall k asked) next is f found answer found_is may x.0 x.1.0.0 x.1.1 x.2
      asides (TakeCall k) next is f found answer found_is may own = let x = f.goes.1 found (calls k found found_is) in keeps (TakeCall k) next is f found answer found_is may x.0 x.1.0 x.1.1 x.2
      asides other next is f found answer found_is may own = let x = f.goes.1 found tt in keeps other next is f found answer found_is may x.0 x.1.0 x.1.1 x.2

  -- a tick of any seat
  module _ (sound : Sound p c vs) (answered : IsAnswered c m) (fitting : IsFittingIds p c m) (own : StoresOwn ids c m) (would : WouldOwn ids c m) where
    doing_of : (seat : SeatState) → get_elem? c.seats m.seat ≡ some seat → (s : Doing) × (get_elem? ss m.seat ≡ some s)
    doing_of seat at = elem_there c.seats ss m.seat seat law.each at

    view_of : (seat : SeatState) → get_elem? c.seats m.seat ≡ some seat → (u : IdView) × (get_elem? us m.seat ≡ some u)
    view_of seat at = elem_there c.seats us m.seat seat real_ids.each at

    may_as : (seat : SeatState) (at : get_elem? c.seats m.seat ≡ some seat) (x : Program) → first_step seat.program ≡ x → IdGoesOn p q (view_of seat at).0 x
    may_as seat at x is = let u = view_of seat at in subst (IdGoesOn p q u.0) is (ids_first p q narrow u.0 seat.program (real_ids.seats m.seat seat u.0 at u.1))

    would_as : (seat : SeatState) (v : View) (s : Doing) (at : get_elem? c.seats m.seat ≡ some seat) (here : get_elem? vs m.seat ≡ some v) (doing : get_elem? ss m.seat ≡ some s) (x : Program) → first_step seat.program ≡ x → WouldOwnBy seat v s at here doing x
    would_as seat v s at here doing x is = subst (WouldOwnBy seat v s at here doing) is (would seat at)

    pub charge_ticks : After (ticked p c m) (views_after p c vs m)
    charge_ticks = tick_moves (Charges p.requests is_call (nat_le 32 m.seat)) idle (record { message = λ t q next g. g; home = λ t k next g. g; puts_home = λ t k n after g. g; put = λ t k asked bytes next g. g; ask = λ t k next g. g }) p c vs m sound answered After nothing
        (λ seat v at here x is. let d = doing_of seat at in (first_as seat v d.0 at here d.1 x is).doing)
        (λ seat v at here x is. let d = doing_of seat at in (first_as seat v d.0 at here d.1 x is).goes)
        (λ seat v at here. let d = doing_of seat at in moves seat v d.0 at here d.1)
        (λ seat v call next at here is goes. let d = doing_of seat at in steps seat v d.0 at here d.1 call next is (first_as seat v d.0 at here d.1 (Do call next) is) (would_as seat v d.0 at here d.1 (Do call next) is) (fits_as p c seat.program call next is (fitting seat at)))
        (λ seat v x next found at here is goes found_is. let d = doing_of seat at in let u = view_of seat at in
        asides seat v d.0 at here d.1 u.0 u.1 x next is (first_as seat v d.0 at here d.1 (Aside x next) is) found (taken m.answer) found_is (may_as seat at (Aside x next) is).0 (stored_own seat at x next is))
      where
        stored_own : (seat : SeatState) → get_elem? c.seats m.seat ≡ some seat → (x : Step) (next : Found x → Program) → first_step seat.program ≡ Aside x next → (o w : ℕ) → x ≡ StoreAt o w → (id n k : ℕ) → w ≡ at_word (id_first id) (id_slot id) k n → k < 65535 → n ≤ 6 → id_slot id < 65536 → (ids o ≡ id) × (id ≢ 0)
        stored_own seat at (StoreAt o' w') next is o w e = λ id n k x low few small. own seat o w next at (is ∙ (let a : o' ≡ o = cc in let b : w' ≡ w = cc in λ z. Aside (StoreAt (a z) (b z)) next)) id n k x low few small
        stored_own seat at _ next is o w e = absurd (cc)
