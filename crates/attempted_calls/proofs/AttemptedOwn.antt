-- Each tick keeps that whoever tries an attempt knows the id of its call, and that each range that lives is that of a call.
use Rattle.std.proofs.Common.{◌≡◌, ◌≢◌, ℕ, ◌<◌, ◌≤◌, inl, inr, ⊎_elim, Bool, cond, List, [], ◌∷◌, ◌++◌, length-set, get_or, set, get_or-set_same, get_or-set_other, refl, sym, ap, ◌∙◌, subst, arith, eq-eqb}
use Rattle.std.specs.List.{AllByRecursion}
use Rattle.std.specs.Prelude as std
use mathlib.Core.Logic.{dite}
use native.Mathlib.Decide.{ℕ_discrete}
use mathlib.Core.Option.{Option, some, none, some-injective}
use lib.ListN.{get_elem?}
use Rattle.atomic_table.proofs.Lists.{at_set, set_else, set_here}
use Rattle.own_decisions.specs.Below.chain_steps.proofs.TicketLists.{at_length}
use Rattle.sock_words.specs.declared.plain.Plan.{Plan}
use Rattle.sock_model.specs.declared.home.Home.{Home}
use Rattle.sock_model.specs.declared.view.View.{View}
use Rattle.corr_core.specs.IdSlotWord.{parts}
use Rattle.corr_core.specs.IdSlotLaw.{Births, Local, Stands, vacant, retired, claimed, opened, locked, leaving}
use Rattle.corr_core.specs.declared.marks.Plan.{Plan as IdPlan}
use Rattle.corr_core.specs.declared.marks.Hand.{Hand}
use Rattle.corr_core.specs.declared.marks.Hand.TheVariants.{Full, Empty}
use Rattle.corr_core.specs.declared.marks.Token.{Token}
use Rattle.corr_core.specs.declared.marks.Token.TheVariants.{Claimed, Locked, Leaving}
use Rattle.seat_programs.specs.id_rule.specs.LawfulIdTable.{id_index, tag_index, call_index, at_index, all_words, local, tokens_of, tokens_in, with_token}
use Rattle.seat_programs.specs.id_rule.specs.IdPlays.{with_hand}
use Rattle.seat_programs.specs.id_rule.proofs.AllowedIdSteps as allowed
use Rattle.seat_programs.specs.id_rule.proofs.OtherIdsUntouched.{token_here}
use Rattle.own_decisions.specs.Below.id_runs.specs.HeldIdTokens.{IdView, MayId, HasOne, id_state, id_row, one, by_token}
use Rattle.own_decisions.specs.Below.id_runs.specs.Goes.{FitsRetryId, IdGoesOn, SoundIds, IsFittingIds}
use Rattle.own_decisions.specs.Below.id_runs.proofs.AsideStepsKeepRule.{finds_ids, no_call}
use Rattle.seat_programs.specs.Asides.{Step, Found, ClaimId, PutCall, MakeId, StoreCall, StoreAt, LockId, PostId, UnlockId, EndId, FreeId, TakeCall, TakeBytes, Taking, Bytes}
use Rattle.seat_programs.specs.LoopHeads.{Exit, Unlocks}
use Rattle.sock_message.specs.Asked.{Asked}
use Rattle.seat_programs.specs.FoundAndChangedAside.{found_in, calls_after}
use Rattle.seat_programs.specs.TableSteps.{TableStep, OnSlot, OnName, OnChain, LoadName, FindLink, ClaimRequest}
use Rattle.seat_programs.specs.LoopHeads.{Retry}
use Rattle.seat_programs.specs.Programs.{Program, Do, TakeMessage, TakeHome, PutHome, PutBytes, AskReady, Aside, Round}
use Rattle.seat_programs.specs.Cores.{Calls, Core, SeatState, found_at, words_after, homes_after, hand_after, lies_at, first_of, others_of, link_place, resolved, waiting_at, next_step, with_seat}
use Rattle.seat_programs.specs.StepTables.{word_of, word_after}
use Rattle.seat_programs.specs.Ticks.{Moment, IsAnswered, fed, with_places, onto_first, taken, ticked}
use Rattle.own_decisions.specs.Below.programs_allowed.specs.program_steps.specs.SoundSeats.{Sound}
use Rattle.own_decisions.specs.Below.programs_allowed.specs.program_steps.proofs.TickCases.{tick_cases, calls_waiting}
use Rattle.own_decisions.specs.Below.label_runs.specs.AttemptLabelsLeft.{FindsLabel}
use Rattle.own_decisions.specs.accept_counts.specs.AttemptCounts.{word_of_id}
use Rattle.own_decisions.specs.accept_counts.proofs.IdWordsGoForward.{finds_label}
use Rattle.own_decisions.specs.Below.outcome_stories.proofs.HomeCalls.{AreCalls, PutsAsked, calls_behind}
use Rattle.own_decisions.specs.accept_counts.proofs.TicksKeepAttemptLaw.{few_of, fits_as, pairs_set}
use Rattle.attempted_calls.proofs.AttemptedWords.{Rise, is_new, is_same, is_more, IsMakeAt, risen, Advances}
use Rattle.attempted_calls.proofs.EndedTrails.{StoresNext, Of, NoCall, Makes, Knows, Trail, lost, Stays, GoesDo, GoesAside, Follows}
use Rattle.attempted_calls.proofs.EndedNames.{follows_first, resolves}
use Rattle.own_decisions.specs.accept_counts.proofs.SeatFacts.{seat_facts}
use Rattle.attempted_calls.proofs.AttemptedFacts.{IsStored, IsStoring, IsOwn, Facts}
use Rattle.seat_programs.specs.LoopRounds.{first_step}
use Rattle.sock_words.specs.PackedWords.{call_id}

-- what is known of a call
abbrev pub IsTrueOf : IdPlan → Core → Of → Type 0
IsTrueOf q c (Knows o id) = IsOwn q c o id
IsTrueOf q c other = Unit {0}

pub record CallLaw (q : IdPlan) (is_call : Asked → Type 0) (c : Core) (ts : List Trail) : Type 0 where
  pub knows : (j : ℕ) (t : Trail) → get_elem? ts j ≡ some t → IsTrueOf q c t.of
  pub ranges : (i : ℕ) → i < q.slots → 0 < (word_of_id c.calls.words i).state → (o : ℕ) × IsOwn q c o (call_id i (word_of_id c.calls.words i).first)
  pub calls : AreCalls is_call c.calls
  pub each : std.length ts ≡ std.length c.seats
  pub programs : (j : ℕ) (seat : SeatState) (t : Trail) → get_elem? c.seats j ≡ some seat → get_elem? ts j ≡ some t → Follows is_call t seat.program

-- the first version of a lock that a seat has
locked_first : (b : Births Asked) (l : Local Asked) (f rg att : ℕ) (c : Asked) (o s : ℕ) (h : Hand Asked) → Stands b l → l.tokens ≡ Locked f rg att c o s h ∷ [] → (l.word.first ≡ f) × (l.word.state ≡ 2)
locked_first b l f rg att c o s h (vacant t g st x y) has = let e : [] ≡ Locked f rg att c o s h ∷ [] = sym t ∙ has in absurd cc
locked_first b l f rg att c o s h (retired t g st x y) has = let e : [] ≡ Locked f rg att c o s h ∷ [] = sym t ∙ has in absurd cc
locked_first b l f rg att c o s h (claimed seen h' t g st x y z) has = let e : Claimed seen h' ∷ [] ≡ Locked f rg att c o s h ∷ [] = sym t ∙ has in absurd cc
locked_first b l f rg att c o s h (opened d t st live x y z) has = let e : [] ≡ Locked f rg att c o s h ∷ [] = sym t ∙ has in absurd cc
locked_first b l f rg att c o s h (locked d x y h' t st live z w v) has = let e : Locked l.word.first l.word.range l.word.attempt d x y h' ∷ [] ≡ Locked f rg att c o s h ∷ [] = sym t ∙ has in (let same : l.word.first ≡ f = cc in same, st)
locked_first b l f rg att c o s h (leaving t g st x y) has = let e : Leaving ∷ [] ≡ Locked f rg att c o s h ∷ [] = sym t ∙ has in absurd cc

module _ (p : Plan) (q : IdPlan) (narrow : q.slots ≤ 65536) (is_call : Asked → Type 0) (c : Core) (vs : List View) (ts : List Trail) (law : CallLaw q is_call c ts) (us : List IdView) (real_ids : SoundIds p q c us) (facts : Facts q c) where
  -- behind the tick the law holds, and what was so of ids stays so
  abbrev pub After : Core → List View → Type 0
  After d ws = (xs : List Trail) × CallLaw q is_call d xs × ((o id : ℕ) → IsOwn q c o id → IsOwn q d o id)

  module _ (i : ℕ) (seat : SeatState) (t : Trail) (at_seat : get_elem? c.seats i ≡ some seat) (at_trail : get_elem? ts i ≡ some t) where
    module _ (a : Calls) (x : Program) (hand : List Home) (ws : List ℕ) (hs : List (Option Home)) (waits : a.waiting ≡ c.calls.waiting) where
      abbrev Now : Core
      Now = with_seat i x hand ws hs (record c { calls = a })

      abbrev next_seat : SeatState
      next_seat = record { program = next_step (resolved (waiting_at a.waiting i) x); hand = hand }

      -- ids of calls stay so
      own_on : ((o id : ℕ) → o < q.operations → id ≢ 0 → IsStored q c o id → IsStored q Now o id) → ((o id : ℕ) (next : Found (StoreCall o id) → Program) → o < q.operations → seat.program ≡ Aside (StoreCall o id) next → IsStored q Now o id)
          → (o id : ℕ) → IsOwn q c o id → IsOwn q Now o id
      own_on stored mine o id own = record {
        inside = own.inside;
        some_ = own.some_;
        low = own.low;
        either = ⊎_elim (λ s. inl (stored o id own.inside own.some_ s)) (λ (s : IsStoring q c o id). dite (ℕ_discrete s.seat i)
            (λ here. inl (mine o id s.next own.inside (subst (λ (z : SeatState). z.program ≡ Aside (StoreCall o id) s.next) (some-injective s.state seat (sym s.at ∙ ap (get_elem? c.seats) here ∙ at_seat)) s.is)))
            (λ far. inr (record { seat = s.seat; state = s.state; next = s.next; at = set_else c.seats i s.seat next_seat far ∙ s.at; is = s.is }))) own.either;
      }

      goes_on : (u : Trail) → AreCalls is_call a → Follows is_call u x → ((o id : ℕ) → IsOwn q c o id → IsOwn q Now o id) → IsTrueOf q Now u.of → ((k : ℕ) → k < q.slots → 0 < (word_of_id a.words k).state → (o : ℕ) × IsOwn q Now o (call_id k (word_of_id a.words k).first)) → After Now vs
      goes_on u calls follows stays true_ ranges = let few = few_of q (waiting_at a.waiting i) (subst (λ (l : List (List Retry)). AllByRecursion (FitsRetryId q) (waiting_at l i)) (sym waits) (real_ids.waiting i)) in
          let r = resolves is_call u (waiting_at a.waiting i) x few follows in (
            set ts i r.0,
            record {
              knows = λ j y e. ⊎_elim (λ b. subst (λ (z : Trail). IsTrueOf q Now z.of) b.1 (⊎_elim (λ s. subst (λ (z : Trail). IsTrueOf q Now z.of) (sym s) true_) (λ s. subst (λ (z : Trail). IsTrueOf q Now z.of) (sym s) tt) r.1)) (λ b. of_on stays y.of (law.knows j y b.1)) (at_set ts i j r.0 y e);
              ranges = ranges;
              calls = calls;
              each = length-set ts i r.0 ∙ (law.each ∙ sym (length-set c.seats i next_seat));
              programs = pairs_set (λ (y : Trail) (z : SeatState). Follows is_call y z.program) c.seats ts i next_seat r.0 law.programs r.2;
            },
            stays,
          )
        where
          of_on : ((o id : ℕ) → IsOwn q c o id → IsOwn q Now o id) → (x : Of) → IsTrueOf q c x → IsTrueOf q Now x
          of_on stays NoCall h = tt
          of_on stays (Makes id) h = tt
          of_on stays (Knows o id) h = stays o id h

    -- a move that is no step aside
    pub beside : (x : Program) (hand : List Home) (ws : List ℕ) (hs : List (Option Home)) (u : Trail) → ((o id : ℕ) (next : Found (StoreCall o id) → Program) → seat.program ≡ Aside (StoreCall o id) next → ⊥) → Follows is_call u x → (IsTrueOf q c t.of → IsTrueOf q c u.of) → After (with_seat i x hand ws hs (record c { calls = c.calls })) vs
    beside x hand ws hs u none_ follows true_ = let stays = own_on c.calls x hand ws hs refl (λ o id low some_ s. s) (λ o id next low e. absurd (none_ o id next e)) in
        goes_on c.calls x hand ws hs refl u law.calls follows stays (of_on u.of (true_ (law.knows i t at_trail))) (λ k low live. let r = law.ranges k low live in (r.0, stays r.0 (call_id k (word_of_id c.calls.words k).first) r.1))
      where
        of_on : (y : Of) → IsTrueOf q c y → IsTrueOf q (with_seat i x hand ws hs (record c { calls = c.calls })) y
        of_on NoCall h = tt
        of_on (Makes id) h = tt
        of_on (Knows o id) h = own_on c.calls x hand ws hs refl (λ o id low some_ s. s) (λ o id next low e. absurd (none_ o id next e)) o id h

    of_do : (call : TableStep) (found : ℕ) (u : Trail) → GoesDo t call found u → IsTrueOf q c t.of → IsTrueOf q c u.of
    of_do (OnName (LoadName m)) found u g h = ⊎_elim (λ e. subst (λ (z : Trail). IsTrueOf q c z.of) (sym e) h) (λ x. ⊎_elim (λ e. subst (λ (z : Trail). IsTrueOf q c z.of) (sym e) tt) (λ y. subst (λ (z : Trail). IsTrueOf q c z.of) (sym y.1) h) x) g
    of_do (OnChain (ClaimRequest s r)) found u g h = ⊎_elim (λ e. subst (λ (z : Trail). IsTrueOf q c z.of) (sym e) h) (λ x. ⊎_elim (λ e. subst (λ (z : Trail). IsTrueOf q c z.of) (sym e) tt) (λ y. subst (λ (z : Trail). IsTrueOf q c z.of) (sym y.3) h) x) g
    of_do (OnSlot (FindLink slot version)) found u g h = ⊎_elim (λ e. subst (λ (z : Trail). IsTrueOf q c z.of) (sym e) h) (λ x. ⊎_elim (λ e. subst (λ (z : Trail). IsTrueOf q c z.of) (sym e) tt) (λ y. subst (λ (z : Trail). IsTrueOf q c z.of) (sym y.5) h) x) g
    of_do call found u g h = of_stays u g h
      where
        of_stays : (u : Trail) → Stays t u → IsTrueOf q c t.of → IsTrueOf q c u.of
        of_stays u (inl e) h = subst (λ (z : Trail). IsTrueOf q c z.of) (sym e) h
        of_stays u (inr e) h = subst (λ (z : Trail). IsTrueOf q c z.of) (sym e) tt

    -- ## Steps aside

    module _ (u : IdView) (at : get_elem? us i ≡ some u) where
      sized : std.length c.calls.words ≡ all_words q
      sized = real_ids.rule.sized

      abbrev Then : (step : Step) → Found step → Program → Core
      Then step found x = with_seat i x seat.hand c.words c.homes (record c { calls = calls_after step found c.calls })

      other_kept : (x w o id : ℕ) → call_index q o ≢ x → IsStored q c o id → get_or (set c.calls.words x w) (call_index q o) 0 ≡ id
      other_kept x w o id ne s = get_or-set_other c.calls.words x (call_index q o) w 0 ne ∙ s

      stored_here : (o id : ℕ) → o < q.operations → get_or (set c.calls.words (call_index c.calls.plan o) id) (call_index q o) 0 ≡ id
      stored_here o id low = subst (λ (r : IdPlan). get_or (set c.calls.words (call_index r o) id) (call_index q o) 0 ≡ id) (sym real_ids.plan) (get_or-set_same c.calls.words (call_index q o) id 0 (omega (arith, sized, low)))

      -- the word of a call stays
      words_kept : (step : Step) (next : Found step → Program) (found : Found step) → first_step seat.program ≡ Aside step next → MayId p q u step → (o id : ℕ) → o < q.operations → id ≢ 0 → IsStored q c o id → get_or (calls_after step found c.calls).words (call_index q o) 0 ≡ id
      words_kept (ClaimId k) next found is may o id low some_ s = other_kept (tag_index k) 1 o id (λ e. omega (arith, e, may)) s
      words_kept (MakeId k range) next found is may o id low some_ s = let in_ = may.0 in other_kept (id_index k) _ o id (λ e. omega (arith, e, in_)) s
      words_kept (StoreCall x y) next found is may o id low some_ s = dite (ℕ_discrete x o)
          (λ same. let one = facts.one_store o id y i seat (λ z. next z) low some_ s at_seat (is ∙ ap (λ n. Aside (StoreCall n y) next) same) in
          subst (λ n. get_or (set c.calls.words (call_index c.calls.plan n) y) (call_index q o) 0 ≡ id) (sym same) (stored_here o y low ∙ one))
          (λ far. subst (λ (r : IdPlan). get_or (set c.calls.words (call_index r x) y) (call_index q o) 0 ≡ id) (sym real_ids.plan) (other_kept (call_index q x) y o id (λ e. far (omega (arith, e))) s))
      words_kept (StoreAt x w) next found is may o id low some_ s = subst (λ (r : IdPlan). get_or (set c.calls.words (at_index r x) w) (call_index q o) 0 ≡ id) (sym real_ids.plan) (other_kept (at_index q x) w o id (λ e. omega (arith, e)) s)
      words_kept (LockId k from) next found is may o id low some_ s = let in_ = may.0 in other_kept (id_index k) _ o id (λ e. omega (arith, e, in_)) s
      words_kept (PostId k from e) next found is may o id low some_ s = let in_ = may.0 in other_kept (id_index k) _ o id (λ e. omega (arith, e, in_)) s
      words_kept (UnlockId k from advance) next found is may o id low some_ s = let in_ = may.0 in other_kept (id_index k) _ o id (λ e. omega (arith, e, in_)) s
      words_kept (EndId k) next found is may o id low some_ s = let in_ = may.0 in other_kept (id_index k) _ o id (λ e. omega (arith, e, in_)) s
      words_kept (FreeId k) next found is may o id low some_ s = let in_ = may.0 in other_kept (tag_index k) 0 o id (λ e. omega (arith, e, in_)) s
      words_kept (TakeBytes k room) next (Bytes bytes) is may o id low some_ s = s
      words_kept _ next found is may o id low some_ s = s

      -- a seat that was to store it has stored it
      store_mine : (step : Step) (next : Found step → Program) (found : Found step) (o id : ℕ) (after : Found (StoreCall o id) → Program) → o < q.operations → Aside step next ≡ Aside (StoreCall o id) after → get_or (calls_after step found c.calls).words (call_index q o) 0 ≡ id
      store_mine (StoreCall x y) next found o id after low e = let a : x ≡ o = cc in let b : y ≡ id = cc in subst (λ n. get_or (set c.calls.words (call_index c.calls.plan n) y) (call_index q o) 0 ≡ id) (sym a) (stored_here o y low ∙ b)
      store_mine _ next found o id after low e = absurd cc

      stays_aside : (step : Step) (next : Found step → Program) (found : Found step) → first_step seat.program ≡ Aside step next → MayId p q u step → (o id : ℕ) → IsOwn q c o id → IsOwn q (Then step found (next found)) o id
      stays_aside step next found is may = own_on (calls_after step found c.calls) (next found) seat.hand c.words c.homes (calls_waiting step found c.calls) (words_kept step next found is may) (λ o id after low e. store_mine step next found o id after low (sym is ∙ ap first_step e))

      -- ## A new range

      -- what stores the word of its call
      storing_of : (id : ℕ) (program : Program) → StoresNext id program → (o x : ℕ) × (after : Found (StoreCall o x) → Program) × (program ≡ Aside (StoreCall o x) after) × (x ≡ id)
      storing_of id (Aside (StoreCall o x) after) h = (o, x, after, refl, h)
      storing_of id _ h = absurd h

      made_own : (k range : ℕ) (next : ℕ → Program) (found : ℕ) → IdGoesOn p q (id_row q (MakeId k range) found no_call u) (next found) → StoresNext (call_id k (parts found).first) (next found) → (o : ℕ) × IsOwn q (Then (MakeId k range) found (next found)) o (call_id k (parts found).first)
      made_own k range next found ahead storing = let s = storing_of (call_id k (parts found).first) (next found) storing in
          let may : MayId p q (id_row q (MakeId k range) found no_call u) (StoreCall s.0 s.1) = (subst (IdGoesOn p q (id_row q (MakeId k range) found no_call u)) s.3 ahead).0 in (
            s.0,
            subst (IsOwn q (Then (MakeId k range) found (next found)) s.0) s.4 (record {
              inside = may.0;
              some_ = may.1;
              low = may.2;
              either = inr (record {
                seat = i;
                state = record { program = next_step (resolved (waiting_at c.calls.waiting i) (next found)); hand = seat.hand };
                next = s.2;
                at = set_here c.seats i (record { program = next_step (resolved (waiting_at c.calls.waiting i) (next found)); hand = seat.hand }) (at_length c.seats i seat at_seat);
                is = ap (λ x. next_step (resolved (waiting_at c.calls.waiting i) x)) s.3;
              });
            }),
          )

      made_range : (step : Step) (next : Found step → Program) (found : Found step) (x : Trail) → IdGoesOn p q (id_row q step found no_call u) (next found) → GoesAside is_call t step (next found) found x → (k : ℕ) → IsMakeAt step found k (word_of_id (calls_after step found c.calls).words k)
          → (o : ℕ) × IsOwn q (Then step found (next found)) o (call_id k (word_of_id (calls_after step found c.calls).words k).first)
      made_range (MakeId m range) next found x ahead g k made = let r = made_own m range next found ahead g.1 in
          (r.0, subst (IsOwn q (Then (MakeId m range) found (next found)) r.0) (ap (λ n. call_id n (parts found).first) made.0 ∙ ap (call_id k) (sym made.1)) r.1)
      made_range _ next found x ahead g k made = absurd made

      -- each range that lives behind the step is that of a call
      ranges_after : (step : Step) (next : Found step → Program) (found : Found step) (answer : Option Taking) → first_step seat.program ≡ Aside step next → found_in step c.calls answer ≡ some found → MayId p q u step → (x : Trail) → IdGoesOn p q (id_row q step found no_call u) (next found)
          → GoesAside is_call t step (next found) found x → (k : ℕ) → k < q.slots → 0 < (word_of_id (calls_after step found c.calls).words k).state → (o : ℕ) × IsOwn q (Then step found (next found)) o (call_id k (word_of_id (calls_after step found c.calls).words k).first)
      ranges_after step next found answer first_is is may x ahead g k low live = by_rise (risen p q c us real_ids i u at step answer found is may k low live)
        where
          old : 0 < (word_of_id c.calls.words k).state → (word_of_id (calls_after step found c.calls).words k).first ≡ (word_of_id c.calls.words k).first → (o : ℕ) × IsOwn q (Then step found (next found)) o (call_id k (word_of_id (calls_after step found c.calls).words k).first)
          old some_ first = let r = law.ranges k low some_ in (r.0, subst (λ f. IsOwn q (Then step found (next found)) r.0 (call_id k f)) (sym first) (stays_aside step next found first_is may r.0 (call_id k (word_of_id c.calls.words k).first) r.1))

          by_rise : Rise (word_of_id c.calls.words k) (word_of_id (calls_after step found c.calls).words k) (IsMakeAt step found k (word_of_id (calls_after step found c.calls).words k)) (Advances p q c us real_ids step found k)
              → (o : ℕ) × IsOwn q (Then step found (next found)) o (call_id k (word_of_id (calls_after step found c.calls).words k).first)
          by_rise (is_new made zero_) = made_range step next found x ahead g k made
          by_rise (is_same first some_ same) = old some_ first
          by_rise (is_more first some_ one_more more) = old some_ first

      -- ## A call that is put back

      has_one : (k : ℕ) (w : IdView) (tok : Token Asked) → w.tokens ≡ one k tok → tokens_in k w ≡ tok ∷ []
      has_one k w tok e = ap (tokens_of k) e ∙ ap (λ b. cond b (tok ∷ []) []) (eq-eqb k k refl)

      back_row : (k found : ℕ) (asked : Asked) (tok : Token Asked) → HasOne k tok u → tokens_in k (id_row q (PutCall k asked) found no_call u) ≡ with_hand tok (Full asked) ∷ []
      back_row k found asked tok has = ap (λ l. tokens_in k (by_token l (λ x. with_token k (with_hand x (Full asked)) u) u)) has ∙ token_here k (with_hand tok (Full asked)) u

      own_as : (k o x f a b g : ℕ) → IsOwn q c o (call_id k f) → o ≡ x → f ≡ a → a ≡ b → b ≡ g → IsOwn q c x (call_id k g)
      own_as k o x f a b g own e h i j = subst (λ n. IsOwn q c x (call_id k n)) (h ∙ (i ∙ j)) (subst (λ y. IsOwn q c y (call_id k f)) e own)

      put_own : (k : ℕ) (asked : Asked) (next : ℕ → Program) (found : ℕ) → first_step seat.program ≡ Aside (PutCall k asked) next → MayId p q u (PutCall k asked) → (w : ℕ) (advance : Bool) (after : Exit (Unlocks k w advance) → Program) → next found ≡ Round (Unlocks k w advance) after
          → IdGoesOn p q (id_row q (PutCall k asked) found no_call u) (next found) → IsOwn q c asked.operation (call_id k (parts w).first)
      put_own k asked next found first_is may w advance after is ahead = let l = (subst (IdGoesOn p q (id_row q (PutCall k asked) found no_call u)) is ahead).0.1 in ⊎_elim
          (λ claims. absurd (let e : Claimed claims.0 (Full asked) ∷ [] ≡ Locked l.f l.rg l.att l.c l.o l.s (Full l.c) ∷ [] = sym (back_row k found asked (Claimed claims.0 Empty) claims.1) ∙ has_one k (id_row q (PutCall k asked) found no_call u) (Locked l.f l.rg l.att l.c l.o l.s (Full l.c)) l.tokens in cc))
          (λ lock. let e : Locked lock.0 lock.1 lock.2 asked lock.3 lock.4 (Full asked) ∷ [] ≡ Locked l.f l.rg l.att l.c l.o l.s (Full l.c) ∷ [] = sym (back_row k found asked (Locked lock.0 lock.1 lock.2 asked lock.3 lock.4 Empty) lock.5) ∙ has_one k (id_row q (PutCall k asked) found no_call u) (Locked l.f l.rg l.att l.c l.o l.s (Full l.c)) l.tokens in
          let same : lock.0 ≡ l.f = cc in
          let here = locked_first (real_ids.rule.slots k may.0).b (local (id_state c.calls us) k) lock.0 lock.1 lock.2 asked lock.3 lock.4 Empty (real_ids.rule.slots k may.0).stands
          (allowed.own q i (u, []) k may.0 (real_ids.real i u at) (id_state c.calls us) real_ids.rule at (Locked lock.0 lock.1 lock.2 asked lock.3 lock.4 Empty) lock.5) in
          let two : (word_of_id c.calls.words k).state ≡ 2 = here.1 in let first : (word_of_id c.calls.words k).first ≡ lock.0 = here.0 in
          let r = law.ranges k may.0 (omega (arith, two)) in let o = facts.put_back k r.0 i asked seat next at_seat first_is two r.1 in
          own_as k r.0 asked.operation (word_of_id c.calls.words k).first lock.0 l.f (parts w).first r.1 o first same l.word_is.first_is) may.1

      abbrev Holds : (step : Step) → Found step → Program → Trail → Type 0
      Holds step found x y = IsTrueOf q (Then step found x) y.of

      stays_of : (step : Step) (next : Found step → Program) (found : Found step) → first_step seat.program ≡ Aside step next → MayId p q u step → (x : Trail) → Stays t x → Holds step found (next found) x
      stays_of step next found first_is may x (inr e) = subst (λ (y : Trail). Holds step found (next found) y) (sym e) tt
      stays_of step next found first_is may x (inl e) = subst (λ (y : Trail). Holds step found (next found) y) (sym e) (by_of t.of (law.knows i t at_trail))
        where
          by_of : (y : Of) → IsTrueOf q c y → IsTrueOf q (Then step found (next found)) y
          by_of NoCall h = tt
          by_of (Makes id) h = tt
          by_of (Knows o id) h = stays_aside step next found first_is may o id h

      of_aside : (step : Step) (next : Found step → Program) (found : Found step) → first_step seat.program ≡ Aside step next → MayId p q u step → (x : Trail) → IdGoesOn p q (id_row q step found no_call u) (next found) → GoesAside is_call t step (next found) found x → Holds step found (next found) x
      of_aside (MakeId k range) next found first_is may x ahead g = subst (λ (y : Trail). Holds (MakeId k range) found (next found) y) (sym g.0) tt
      of_aside (StoreCall o id) next found first_is may x ahead g = ⊎_elim (λ e. subst (λ (y : Trail). Holds (StoreCall o id) found (next found) y) (sym e) tt)
          (λ y. subst (λ (z : Trail). Holds (StoreCall o id) found (next found) z) (sym y.1) (record { inside = may.0; some_ = may.1; low = may.2; either = inl (stored_here o id may.0) })) g
      of_aside (StoreAt o w) next found first_is may x ahead g = ⊎_elim (λ e. stays_of (StoreAt o w) next found first_is may x (inr e))
          (λ e. subst (λ (z : Trail). Holds (StoreAt o w) found (next found) z) (sym e) (stays_of (StoreAt o w) next found first_is may t (inl refl))) g.0
      of_aside (PutCall k asked) next found first_is may x ahead g = ⊎_elim (λ s. stays_of (PutCall k asked) next found first_is may x s)
          (λ y. subst (λ (z : Trail). Holds (PutCall k asked) found (next found) z) (sym y.4) (stays_aside (PutCall k asked) next found first_is may asked.operation (call_id k (parts y.0).first) (put_own k asked next found first_is may y.0 y.1 y.2 y.3 ahead))) g.0
      of_aside step next found first_is may x ahead g = stays_of step next found first_is may x g

      finds_step : (step : Step) (answer : Option Taking) (found : Found step) → found_in step c.calls answer ≡ some found → MayId p q u step → FindsLabel is_call step found
      finds_step (UnlockId k from advance) answer found is may = finds_label p q c us real_ids i u at (UnlockId k from advance) found may (finds_ids p q c.calls real_ids.plan us real_ids.rule i u at (real_ids.real i u at) (real_ids.called, real_ids.placed) real_ids.homes (UnlockId k from advance) answer found is may)
      finds_step (TakeCall k) answer found is may = law.calls k found is
      finds_step _ answer found is may = tt

      puts_step : (step : Step) (after : Program) (found : Found step) (x : Trail) → GoesAside is_call t step after found x → PutsAsked is_call step
      puts_step (PutCall k asked) after found x g = g.1
      puts_step _ after found x g = tt

      -- a step aside
      asides : (step : Step) (next : Found step → Program) (found : Found step) (answer : Option Taking) → first_step seat.program ≡ Aside step next → found_in step c.calls answer ≡ some found → IdGoesOn p q u (Aside step next) → Follows is_call t (Aside step next)
          → After (with_seat i (next found) seat.hand c.words c.homes (record c { calls = calls_after step found c.calls })) vs
      asides step next found answer first_is is go g = let may = go.0 in let x = g found (finds_step step answer found is may) in
          let ahead = go.1 found no_call (finds_ids p q c.calls real_ids.plan us real_ids.rule i u at (real_ids.real i u at) (real_ids.called, real_ids.placed) real_ids.homes step answer found is may) in
          goes_on (calls_after step found c.calls) (next found) seat.hand c.words c.homes (calls_waiting step found c.calls) x.0 (calls_behind is_call step found c.calls (puts_step step (next found) found x.0 x.1) law.calls) x.2
          (stays_aside step next found first_is may) (of_aside step next found first_is may x.0 ahead x.1) (ranges_after step next found answer first_is is may x.0 ahead x.1)

  -- ## A tick of any seat

  module _ (sound : Sound p c vs) (m : Moment) (answered : IsAnswered c m) (fitting : IsFittingIds p c m) where
    open seat_facts (Follows is_call) (follows_first is_call) p q narrow c ts law.each law.programs us real_ids m.seat use {stand_of as trail_of, view_of, first_as, may_as}

    unchanged : (ws : List View) → After c ws
    unchanged ws = (ts, law, λ o id own. own)

    -- After says nothing of views
    abbrev Behind : Core → List View → Type 0
    Behind d ws = After d vs

    pub own_ticks : After (ticked p c m) vs
    own_ticks = tick_cases p c vs m sound answered Behind (unchanged vs)
        (λ seat v call next at here is goes. let t = trail_of seat at in let g = first_as seat at (Do call next) is in let found : ℕ = found_at c.words (word_of p call) in let u = g.1 (found_at c.words (word_of p call)) (fits_as p c seat.program call next is (fitting seat at)) in
        beside m.seat seat t.0 at t.1 (next (found_at c.words (word_of p call))) (hand_after p call c.homes seat.hand) (words_after c.words (word_of p call) (word_after call (found_at c.words (word_of p call)))) (homes_after p call seat.hand c.homes) u.0
        (λ o id after e. (let z : Do call next ≡ Aside (StoreCall o id) after = sym is ∙ ap first_step e in cc)) u.2 (of_do m.seat seat t.0 at t.1 call (found_at c.words (word_of p call)) u.0 u.1))
        (λ seat v r next heading bytes at here is goes lies. let t = trail_of seat at in
        beside m.seat seat t.0 at t.1 (next heading bytes) seat.hand c.words (set c.homes r none) lost (λ o id after e. (let z : TakeMessage r next ≡ Aside (StoreCall o id) after = sym is ∙ ap first_step e in cc)) (first_as seat at (TakeMessage r next) is heading bytes) (λ h. tt))
        (λ seat v k next took n at here is goes lies. let t = trail_of seat at in
        beside m.seat seat t.0 at t.1 (next n) (lies_at c.homes (link_place p k) ++ seat.hand) c.words (set c.homes (link_place p k) none) lost (λ o id after e. (let z : TakeHome k next ≡ Aside (StoreCall o id) after = sym is ∙ ap first_step e in cc)) (first_as seat at (TakeHome k next) is n) (λ h. tt))
        (λ seat v k n after' at here is goes. let t = trail_of seat at in
        beside m.seat seat t.0 at t.1 after' (others_of seat.hand) c.words (set c.homes (link_place p k) (first_of (onto_first (with_places n) seat.hand))) lost (λ o id after e. (let z : PutHome k n after' ≡ Aside (StoreCall o id) after = sym is ∙ ap first_step e in cc)) (first_as seat at (PutHome k n after') is) (λ h. tt))
        (λ seat v k asked bytes next answer at here is goes answer_is fits. let t = trail_of seat at in
        beside m.seat seat t.0 at t.1 (next answer) (onto_first (fed bytes answer) seat.hand) c.words c.homes lost (λ o id after e. (let z : PutBytes k asked bytes next ≡ Aside (StoreCall o id) after = sym is ∙ ap first_step e in cc)) (first_as seat at (PutBytes k asked bytes next) is answer) (λ h. tt))
        (λ seat v k next answer at here is goes answer_is. let t = trail_of seat at in
        beside m.seat seat t.0 at t.1 (next answer) seat.hand c.words c.homes lost (λ o id after e. (let z : AskReady k next ≡ Aside (StoreCall o id) after = sym is ∙ ap first_step e in cc)) (first_as seat at (AskReady k next) is answer) (λ h. tt))
        (λ seat v s next found at here is goes found_is. let t = trail_of seat at in let u = view_of seat at in
        asides m.seat seat t.0 at t.1 u.0 u.1 s next found (taken m.answer) is found_is (may_as seat at (Aside s next) is) (first_as seat at (Aside s next) is))
