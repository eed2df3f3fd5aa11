-- What a tick makes of the attempts in the words of the ids: a new range begins with none, and one more is made by an exchange that advances.
use Rattle.std.proofs.Common.{◌≡◌, ◌≢◌, ℕ, ◌+◌, ◌<◌, ◌≤◌, ⊎_elim, Bool, true, false, cond, eqb, eqb-true, eq-eqb, List, [], ◌∷◌, length, set, get_or, get_or-set_same, get_or-set_other, refl, sym, ap, ◌∙◌, subst, arith}
use Rattle.std.specs.Prelude as std
use mathlib.Core.Logic.{dite}
use native.Mathlib.Decide.{ℕ_discrete}
use mathlib.Core.Option.{Option, some, none, some-injective}
use lib.ListN.{get_elem?}
use Rattle.sock_words.specs.declared.plain.Plan.{Plan}
use Rattle.sock_io.specs.declared.link.Put.{Put}
use Rattle.sock_io.specs.declared.link.Ready.{Ready}
use Rattle.sock_model.specs.UnplacedMessages.{HeadedBytes}
use Rattle.sock_model.specs.declared.home.Home.{Home}
use Rattle.sock_model.specs.ChainLawReads.{message, link_home}
use Rattle.corr_core.specs.IdSlotWord.{Parts, parts, made_word, locked_word, posted_word, unlocked_word, free_word}
use Rattle.corr_core.specs.declared.marks.Plan.{Plan as IdPlan}
use Rattle.corr_core.specs.declared.marks.Hand.TheVariants.{Full}
use Rattle.corr_core.specs.declared.marks.Token.TheVariants.{Locked}
use Rattle.seat_programs.specs.id_rule.specs.LawfulIdTable.{id_index, tag_index, call_index, at_index, all_words}
use Rattle.own_decisions.specs.Below.id_runs.specs.HeldIdTokens.{IdView, MayId}
use Rattle.own_decisions.specs.Below.id_runs.specs.Goes.{SoundIds, FindsId, IdGoesOn}
use Rattle.own_decisions.specs.Below.id_runs.proofs.AsidesKeepingIdRule.{parts_packed}
use Rattle.own_decisions.specs.Below.id_runs.proofs.IdLoopRounds.{ids_round}
use Rattle.own_decisions.specs.Below.id_runs.proofs.IdPrograms.{block_goes}
use Rattle.own_decisions.specs.Below.id_runs.proofs.AsideStepsKeepRule.{finds_ids, call_there}
use Rattle.sock_message.specs.Asked.{Asked}
use Rattle.seat_programs.specs.Asides.{Step, Found, ClaimId, PutCall, MakeId, StoreCall, LoadCall, StoreAt, LoadAt, LoadIdWord, LockId, PostId, UnlockId, EndId, FreeId, TakeCall, TakeBytes, Taking, Bytes}
use Rattle.seat_programs.specs.FoundAndChangedAside.{found_in, calls_after, call_at}
use Rattle.seat_programs.specs.Cores.{Core, SeatState}
use Rattle.seat_programs.specs.PostPrograms.{packed}
use Rattle.seat_programs.specs.Programs.{Program, TakeMessage, TakeHome, PutBytes, AskReady, Write, Aside, Round}
use Rattle.seat_programs.specs.LoopRounds.{round, first_step}
use Rattle.seat_programs.specs.SendAndWritePrograms.{block}
use Rattle.seat_programs.specs.Ticks.{Answer, OfPut, OfReady, Moment, taken, with_message, with_link, with_put, with_ready, with_found, step_with, tick_with, ticked}
use Rattle.own_decisions.specs.Below.call_owing.proofs.EndsStill.{view_of}
use Rattle.own_decisions.specs.Below.call_stories.specs.LinkReadingLists.{advances_by, advanced_with, advanced_at}
use Rattle.own_decisions.specs.accept_counts.specs.AttemptCounts.{word_of_id}
use Rattle.own_decisions.specs.accept_counts.proofs.IdWordsGoForward.{state_fits, small_first}
use Rattle.sock_words.specs.PackedWords.{bit}
use Rattle.own_decisions.specs.Below.outcome_stories.specs.Facts.{called_at}

-- the word of an id that lives, and what it was: its range is new, or its attempt is as it was, or one more; and what holds of a new one, and of one more
pub data Rise (old new : Parts) (New More : Type 0) : Type 0 where
  is_new : New → new.attempt ≡ 0 → Rise old new New More
  is_same : new.first ≡ old.first → 0 < old.state → new.attempt ≡ old.attempt → Rise old new New More
  is_more : new.first ≡ old.first → 0 < old.state → new.attempt ≡ old.attempt + 1 → More → Rise old new New More

pub rise_on : (old new : Parts) (M P Q : Type 0) → (P → Q) → Rise old new M P → Rise old new (Unit {0}) Q
rise_on old new M P Q f (is_new n z) = is_new tt z
rise_on old new M P Q f (is_same a b x) = is_same a b x
rise_on old new M P Q f (is_more a b x m) = is_more a b x (f m)

-- the step makes the new range of this slot
abbrev pub IsMakeAt : (step : Step) → Found step → ℕ → Parts → Type 0
IsMakeAt (MakeId k range) found i new = (k ≡ i) × (new.first ≡ (parts found).first)
IsMakeAt other found i new = ⊥

-- ## Words

-- a post or a lock leaves the attempt
posted_rise : (from e : ℕ) (M : Type 0) → e < 32768 → 0 < (parts from).state → Rise (parts from) (parts (packed (posted_word (parts from) e))) ⊥ M
posted_rise from e M small live = by (eqb (parts from).state 1)
  where
    by : (b : Bool) → Rise (parts from) (parts (packed (cond b (locked_word (parts from)) record { first = (parts from).first; state = 2; range = (parts from).range; attempt = (parts from).attempt; oldest = cond (eqb (parts from).oldest 0) e (parts from).oldest; second = cond (eqb (parts from).oldest 0) 0 e }))) ⊥ M
    by true = let is = parts_packed (locked_word (parts from)) (omega arith) (omega arith) (omega arith) (omega arith) (omega arith) (omega arith) in is_same (ap (λ (w : Parts). w.first) is) live (ap (λ (w : Parts). w.attempt) is)
    by false = let w : Parts = record { first = (parts from).first; state = 2; range = (parts from).range; attempt = (parts from).attempt; oldest = cond (eqb (parts from).oldest 0) e (parts from).oldest; second = cond (eqb (parts from).oldest 0) 0 e } in
        let is : parts (packed w) ≡ w = parts_packed w (omega arith) (omega arith) (omega arith) (omega arith) (small_first (eqb (parts from).oldest 0) e (parts from).oldest small (omega arith)) (small_first (eqb (parts from).oldest 0) 0 e (omega arith) small) in
        is_same (ap (λ (x : Parts). x.first) is) live (ap (λ (x : Parts). x.attempt) is)

unlocked_parts : (from n : ℕ) → (parts from).attempt + n ≤ 6 → parts (packed (unlocked_word (parts from) n)) ≡ unlocked_word (parts from) n
unlocked_parts from n few = parts_packed (unlocked_word (parts from) n) (state_fits (eqb (parts from).oldest 0)) (omega arith) (omega arith) (omega (arith, few)) (omega arith) (omega arith)

module _ (p : Plan) (q : IdPlan) (c : Core) (us : List IdView) (ids : SoundIds p q c us) where
  abbrev Raw : ℕ → ℕ
  Raw i = get_or c.calls.words (id_index i) 0

  abbrev Old : ℕ → Parts
  Old i = word_of_id c.calls.words i

  -- the step advances the call at home there
  abbrev pub Advances : (step : Step) → Found step → ℕ → Type 0
  Advances step found i = (asked : Asked) × (get_elem? c.calls.homes i ≡ some (some (std.Some asked))) × (advances_by step found c.calls ≡ asked.operation ∷ [])

  sized : length c.calls.words ≡ all_words q
  sized = ids.rule.sized

  same_rise : (i : ℕ) (M : Type 0) → 0 < (Old i).state → Rise (Old i) (Old i) ⊥ M
  same_rise i M live = is_same refl live refl

  other_rise : (x w i : ℕ) (N M : Type 0) → id_index i ≢ x → 0 < (word_of_id (set c.calls.words x w) i).state → Rise (Old i) (word_of_id (set c.calls.words x w) i) N M
  other_rise x w i N M ne live = subst (λ z. 0 < z.state → Rise (Old i) z N M) (sym (ap parts (get_or-set_other c.calls.words x (id_index i) w 0 ne))) (λ some_. is_same refl some_ refl) live

  one_rise : (k w i : ℕ) (N M : Type 0) → k < q.slots → (i ≡ k → word_of_id (set c.calls.words (id_index k) w) i ≡ parts w → 0 < (parts w).state → Rise (Old i) (parts w) N M) → 0 < (word_of_id (set c.calls.words (id_index k) w) i).state → Rise (Old i) (word_of_id (set c.calls.words (id_index k) w) i) N M
  one_rise k w i N M inside f live = dite (ℕ_discrete i k)
      (λ same. let word : word_of_id (set c.calls.words (id_index k) w) i ≡ parts w = ap (λ x. word_of_id (set c.calls.words (id_index k) w) x) same ∙ ap parts (get_or-set_same c.calls.words (id_index k) w 0 (omega (arith, sized, inside))) in
      subst (λ z. 0 < z.state → Rise (Old i) z N M) (sym word) (f same word) live)
      (λ far. other_rise (id_index k) w i N M (λ e. far (omega (arith, e))) live)

  -- an exchange of an id word
  exchange_rise : (k from w i : ℕ) (M : Type 0) → k < q.slots → (Raw k ≡ from → i ≡ k → 0 < (parts w).state → Rise (parts from) (parts w) ⊥ M)
      → 0 < (word_of_id (set c.calls.words (id_index k) (cond (eqb (Raw k) from) w (Raw k))) i).state → Rise (Old i) (word_of_id (set c.calls.words (id_index k) (cond (eqb (Raw k) from) w (Raw k))) i) ⊥ M
  exchange_rise k from w i M inside f live = by (eqb (Raw k) from) refl live
    where
      by : (b : Bool) → eqb (Raw k) from ≡ b → 0 < (word_of_id (set c.calls.words (id_index k) (cond b w (Raw k))) i).state → Rise (Old i) (word_of_id (set c.calls.words (id_index k) (cond b w (Raw k))) i) ⊥ M
      by true hit live = one_rise k w i ⊥ M inside (λ here _ some_. let same : Raw k ≡ from = eqb-true (Raw k) from hit in subst (λ z. Rise z (parts w) ⊥ M) (sym (ap Old here ∙ ap parts same)) (f same here some_)) live
      by false miss live = one_rise k (Raw k) i ⊥ M inside (λ here _ some_. subst (λ z. Rise z (parts (Raw k)) ⊥ M) (sym (ap Old here)) (is_same refl some_ refl)) live

  as_found : (k found : ℕ) (P : ℕ → Type 0) → some (Raw k) ≡ some found → P (Raw k) → P found
  as_found k found P e x = subst P (some-injective (Raw k) found e) x

  module _ (j : ℕ) (u : IdView) (at : get_elem? us j ≡ some u) where
    finds : (step : Step) (t : Option Taking) (found : Found step) → found_in step c.calls t ≡ some found → MayId p q u step → FindsId p q u step found
    finds step t found is may = finds_ids p q c.calls ids.plan us ids.rule j u at (ids.real j u at) (ids.called, ids.placed) ids.homes step t found is may

    few_more : (k from : ℕ) (advance : Bool) → MayId p q u (UnlockId k from advance) → ((parts from).attempt + bit advance ≤ 6) × ((parts from).state ≡ 2)
    few_more k from advance may = let x = may.1 in let l = x.7 in let att = l.attempt_is in let rg = l.range_is in let room = x.8 in let eight : (parts from).range ≤ 8 = omega arith in (omega (arith, att, rg, room, eight), l.state_is)

    -- the call of a lock is at home
    at_home : (k from : ℕ) (advance : Bool) → MayId p q u (UnlockId k from advance) → (asked : Asked) × (get_elem? c.calls.homes k ≡ some (some (std.Some asked)))
    at_home k from advance may = let x = may.1 in call_there p q c.calls ids.plan us ids.rule j u at (ids.real j u at) k may.0 (Locked x.0 x.1 x.2 x.5 x.3 x.4 (Full x.5), x.5, x.6, refl)

    -- the word of each id behind a step aside
    pub risen : (step : Step) (t : Option Taking) (found : Found step) → found_in step c.calls t ≡ some found → MayId p q u step → (i : ℕ) → i < q.slots → 0 < (word_of_id (calls_after step found c.calls).words i).state
        → Rise (word_of_id c.calls.words i) (word_of_id (calls_after step found c.calls).words i) (IsMakeAt step found i (word_of_id (calls_after step found c.calls).words i)) (Advances step found i)
    risen (ClaimId k) t found is may i low live = other_rise (tag_index k) 1 i ⊥ (Advances (ClaimId k) found i) (λ e. omega (arith, e)) live
    risen (PutCall k asked) t found is may i low live = same_rise i (Advances (PutCall k asked) found i) live
    risen (MakeId k range) t found is may i low live = let f = finds (MakeId k range) t found is may in let small = f.1 in
        let made : parts (packed (made_word (parts found).first range)) ≡ made_word (parts found).first range = parts_packed (made_word (parts found).first range) (omega arith) (let two = may.2 in omega (arith, two)) may.3 (omega arith) (omega arith) (omega arith) in
        one_rise k (packed (made_word (parts found).first range)) i (IsMakeAt (MakeId k range) found i (word_of_id (calls_after (MakeId k range) found c.calls).words i)) (Advances (MakeId k range) found i) may.0
        (λ here word some_. is_new (sym here, ap (λ (w : Parts). w.first) word ∙ ap (λ (w : Parts). w.first) made) (ap (λ (w : Parts). w.attempt) made)) live
    risen (StoreCall o id) t found is may i low live = other_rise (call_index c.calls.plan o) id i ⊥ (Advances (StoreCall o id) found i) (subst (λ (r : IdPlan). id_index i ≢ call_index r o) (sym ids.plan) (λ e. omega (arith, e, low))) live
    risen (LoadCall o) t found is may i low live = same_rise i (Advances (LoadCall o) found i) live
    risen (StoreAt o w) t found is may i low live = other_rise (at_index c.calls.plan o) w i ⊥ (Advances (StoreAt o w) found i) (subst (λ (r : IdPlan). id_index i ≢ at_index r o) (sym ids.plan) (λ e. omega (arith, e, low))) live
    risen (LoadAt o) t found is may i low live = same_rise i (Advances (LoadAt o) found i) live
    risen (LoadIdWord k) t found is may i low live = same_rise i (Advances (LoadIdWord k) found i) live
    risen (LockId k from) t found is may i low live = as_found k found (λ n. 0 < (word_of_id (set c.calls.words (id_index k) (cond (eqb n from) (packed (posted_word (parts from) 0)) n)) i).state → Rise (Old i) (word_of_id (set c.calls.words (id_index k) (cond (eqb n from) (packed (posted_word (parts from) 0)) n)) i) ⊥ (Advances (LockId k from) n i)) is
        (exchange_rise k from (packed (posted_word (parts from) 0)) i (Advances (LockId k from) (Raw k) i) may.0 (λ _ _ _. posted_rise from 0 (Advances (LockId k from) (Raw k) i) (omega arith) (let one = may.1 in omega (arith, one)))) live
    risen (PostId k from e) t found is may i low live = as_found k found (λ n. 0 < (word_of_id (set c.calls.words (id_index k) (cond (eqb n from) (packed (posted_word (parts from) e)) n)) i).state → Rise (Old i) (word_of_id (set c.calls.words (id_index k) (cond (eqb n from) (packed (posted_word (parts from) e)) n)) i) ⊥ (Advances (PostId k from e) n i)) is
        (exchange_rise k from (packed (posted_word (parts from) e)) i (Advances (PostId k from e) (Raw k) i) may.0 (λ _ _ _. posted_rise from e (Advances (PostId k from e) (Raw k) i) may.3 (⊎_elim (λ one. omega (arith, one)) (λ two. let z = two.0 in omega (arith, z)) may.1))) live
    risen (UnlockId k from false) t found is may i low live = as_found k found (λ n. 0 < (word_of_id (set c.calls.words (id_index k) (cond (eqb n from) (packed (unlocked_word (parts from) 0)) n)) i).state → Rise (Old i) (word_of_id (set c.calls.words (id_index k) (cond (eqb n from) (packed (unlocked_word (parts from) 0)) n)) i) ⊥ (Advances (UnlockId k from false) n i)) is
        (exchange_rise k from (packed (unlocked_word (parts from) 0)) i (Advances (UnlockId k from false) (Raw k) i) may.0
        (λ _ _ _. let f = few_more k from false may in let two = f.1 in let w = unlocked_parts from 0 f.0 in is_same (ap (λ (x : Parts). x.first) w) (omega (arith, two)) (ap (λ (x : Parts). x.attempt) w ∙ (let z : (parts from).attempt + 0 ≡ (parts from).attempt = omega arith in z)))) live
    risen (UnlockId k from true) t found is may i low live = as_found k found (λ n. 0 < (word_of_id (set c.calls.words (id_index k) (cond (eqb n from) (packed (unlocked_word (parts from) 1)) n)) i).state → Rise (Old i) (word_of_id (set c.calls.words (id_index k) (cond (eqb n from) (packed (unlocked_word (parts from) 1)) n)) i) ⊥ (Advances (UnlockId k from true) n i)) is
        (exchange_rise k from (packed (unlocked_word (parts from) 1)) i (Advances (UnlockId k from true) (Raw k) i) may.0
        (λ hit here _. let f = few_more k from true may in let two = f.1 in let w = unlocked_parts from 1 f.0 in let h = at_home k from true may in
        is_more (ap (λ (x : Parts). x.first) w) (omega (arith, two)) (ap (λ (x : Parts). x.attempt) w)
        (h.0, ap (get_elem? c.calls.homes) here ∙ h.1, ap (λ b. cond b (called_at c.calls k) []) (eq-eqb (Raw k) from hit) ∙ ap (λ x. elim (call_at x) as (λ o. List ℕ) [ none ↦ [] | some asked ↦ asked.operation ∷ [] ]) h.1))) live
    risen (EndId k) t found is may i low live = one_rise k (packed (free_word ((parts found).first + (parts found).range))) i ⊥ (Advances (EndId k) found i) may.0
        (λ here word some_. absurd (let free : (parts (packed (free_word ((parts found).first + (parts found).range)))).state ≡ 0 = ap (λ (w : Parts). w.state) (parts_packed (free_word ((parts found).first + (parts found).range)) (omega arith) (omega arith) (omega arith) (omega arith) (omega arith) (omega arith)) in omega (arith, free, some_))) live
    risen (FreeId k) t found is may i low live = other_rise (tag_index k) 0 i ⊥ (Advances (FreeId k) found i) (λ e. omega (arith, e)) live
    risen (TakeCall k) t found is may i low live = same_rise i (Advances (TakeCall k) found i) live
    risen (TakeBytes k room) t (Bytes bytes) is may i low live = same_rise i (Advances (TakeBytes k room) (Bytes bytes) i) live
    risen (TakeBytes k room) t found is may i low live = same_rise i (Advances (TakeBytes k room) found i) live

-- ## A tick

-- what became of the calls: nothing, or a step aside was made
data Effect (p : Plan) (q : IdPlan) (c : Core) (u : IdView) (d : Core) (shown : List ℕ) : Type 0 where
  none_aside : d.calls.words ≡ c.calls.words → d.calls.homes ≡ c.calls.homes → shown ≡ [] → Effect p q c u d shown
  one_aside : (step : Step) (t : Option Taking) (found : Found step) → found_in step c.calls t ≡ some found → MayId p q u step
      → d.calls.words ≡ (calls_after step found c.calls).words → d.calls.homes ≡ (calls_after step found c.calls).homes → shown ≡ advances_by step found c.calls → Effect p q c u d shown

module _ (p : Plan) (q : IdPlan) (narrow : q.slots ≤ 65536) (c : Core) (j : ℕ) (seat : SeatState) (u : IdView) where
  by_letter : (r : ℕ) (x : Option HeadedBytes) (next : HeadedBytes → Program) → Effect p q c u (with_message p j seat c r x next) []
  by_letter r none next = none_aside refl refl refl
  by_letter r (some letter) next = none_aside refl refl refl

  by_link : (k : ℕ) (x : Option (List ℕ × ℕ)) (next : ℕ → Program) → Effect p q c u (with_link p j seat c k x next) []
  by_link k none next = none_aside refl refl refl
  by_link k (some home) next = none_aside refl refl refl

  by_put : (bytes : List ℕ) (answer : Answer) (next : Put → Program) → Effect p q c u (with_put p j seat c bytes answer next) []
  by_put bytes (OfPut answer) next = none_aside refl refl refl
  by_put bytes _ next = none_aside refl refl refl

  by_ready : (answer : Answer) (next : Ready → Program) → Effect p q c u (with_ready p j seat c answer next) []
  by_ready (OfReady answer) next = none_aside refl refl refl
  by_ready _ next = none_aside refl refl refl

  by_found : (step : Step) (t : Option Taking) (next : Found step → Program) → MayId p q u step → (x : Option (Found step)) → found_in step c.calls t ≡ x
      → Effect p q c u (with_found p j seat c step x next) (elim x as (λ o. List ℕ) [ none ↦ [] | some found ↦ advances_by step found c.calls ])
  by_found step t next may none is = none_aside refl refl refl
  by_found step t next may (some found) is = one_aside step t found is may refl refl refl

  first_effect : (answer : Answer) (program : Program) → IdGoesOn p q u program → Effect p q c u (step_with p j seat c answer program) (advanced_with c.calls (taken answer) program)
  first_effect answer (Aside step next) go = by_found step (taken answer) next go.0 (found_in step c.calls (taken answer)) refl
  first_effect answer (TakeMessage r next) go = by_letter r (message (λ (h : Home). h) c.homes r) (λ letter. next letter.0 letter.1)
  first_effect answer (TakeHome k next) go = by_link k (link_home (λ (h : Home). h) p c.homes k) next
  first_effect answer (PutBytes k asked bytes next) go = by_put bytes answer next
  first_effect answer (AskReady k next) go = by_ready answer next
  first_effect answer _ go = none_aside refl refl refl

  tick_effect : (answer : Answer) (program : Program) → IdGoesOn p q u program → Effect p q c u (tick_with p j seat c answer program) (advanced_with c.calls (taken answer) (first_step program))
  tick_effect answer (Write w after) go = first_effect answer (block w after) (block_goes p q narrow u w after go)
  tick_effect answer (Round head next) go = first_effect answer (round head next) (ids_round p q u head next go)
  tick_effect answer other go = first_effect answer other go

-- the call at home there is advanced in the tick
abbrev pub AdvancesAt : Core → Moment → ℕ → Type 0
AdvancesAt c m i = (asked : Asked) × (get_elem? c.calls.homes i ≡ some (some (std.Some asked))) × (advanced_at c m ≡ asked.operation ∷ [])

module _ (p : Plan) (q : IdPlan) (narrow : q.slots ≤ 65536) (c : Core) (us : List IdView) (ids : SoundIds p q c us) (m : Moment) where
  abbrev Rises : Core → List ℕ → Type 0
  Rises d shown = (i : ℕ) → i < q.slots → 0 < (word_of_id d.calls.words i).state
      → Rise (word_of_id c.calls.words i) (word_of_id d.calls.words i) (Unit {0}) ((asked : Asked) × (get_elem? c.calls.homes i ≡ some (some (std.Some asked))) × (shown ≡ asked.operation ∷ []))

  of_effect : (j : ℕ) (u : IdView) → get_elem? us j ≡ some u → (d : Core) (shown : List ℕ) → Effect p q c u d shown → Rises d shown
  of_effect j u at d shown (none_aside words homes none_) i low live = subst (λ ws. 0 < (word_of_id ws i).state → Rise (word_of_id c.calls.words i) (word_of_id ws i) (Unit {0}) ((asked : Asked) × (get_elem? c.calls.homes i ≡ some (some (std.Some asked))) × (shown ≡ asked.operation ∷ []))) (sym words) (λ some_. is_same refl some_ refl) live
  of_effect j u at d shown (one_aside step t found is may words homes by) i low live = subst (λ ws. 0 < (word_of_id ws i).state → Rise (word_of_id c.calls.words i) (word_of_id ws i) (Unit {0}) ((asked : Asked) × (get_elem? c.calls.homes i ≡ some (some (std.Some asked))) × (shown ≡ asked.operation ∷ []))) (sym words)
      (λ some_. rise_on _ _ _ (Advances p q c us ids step found i) _ (λ a. (a.0, a.1, by ∙ a.2)) (risen p q c us ids j u at step t found is may i low some_)) live

  -- the word of each id behind a tick
  pub tick_rises : (i : ℕ) → i < q.slots → 0 < (word_of_id (ticked p c m).calls.words i).state → Rise (word_of_id c.calls.words i) (word_of_id (ticked p c m).calls.words i) (Unit {0}) (AdvancesAt c m i)
  tick_rises = by_seat (get_elem? c.seats m.seat) refl
    where
      by_seat : (x : Option SeatState) → get_elem? c.seats m.seat ≡ x → Rises (elim x as (λ o. Core) [ none ↦ c | some seat ↦ tick_with p m.seat seat c m.answer seat.program ]) (elim x as (λ o. List ℕ) [ none ↦ [] | some seat ↦ advanced_with c.calls (taken m.answer) (first_step seat.program) ])
      by_seat none e = λ i low live. is_same refl live refl
      by_seat (some seat) e = let v = view_of c.seats us m.seat seat e ids.each in of_effect m.seat v.0 v.1 _ _ (tick_effect p q narrow c m.seat seat v.0 m.answer seat.program (ids.seats m.seat seat v.0 e v.1))
