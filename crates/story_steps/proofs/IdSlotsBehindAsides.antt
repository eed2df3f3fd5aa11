-- What each seat has of an id slot stays so behind a step aside of any seat.
use Rattle.std.proofs.Common.{◌≡◌, ◌≢◌, ℕ, ◌+◌, ◌<◌, ◌⊎◌, inl, inr, ⊎_elim, Bool, true, false, cond, eqb, eqb-true, List, [], ◌∷◌, length, set, Option, None, Some, refl, sym, ap, ◌∙◌, subst, arith}
use mathlib.Core.Option as core
use mathlib.Core.Option.{some-injective}
use mathlib.Core.Logic.{dite}
use native.Mathlib.Decide.{ℕ_discrete}
use lib.ListN.{get_elem?}
use Rattle.sock_words.specs.declared.plain.Plan.{Plan}
use Rattle.corr_core.specs.IdSlotWord.{Parts, parts, locked_word, posted_word, unlocked_word, free_word}
use Rattle.corr_core.specs.declared.marks.Plan.{Plan as IdPlan}
use Rattle.seat_programs.specs.id_rule.specs.LawfulIdTable.{tag_index, id_index, all_words}
use Rattle.sock_message.specs.Asked.{Asked}
use Rattle.seat_programs.specs.declared.task.Task.{Task}
use Rattle.seat_programs.specs.Asides.{Step, ClaimId, PutCall, MakeId, StoreCall, LoadCall, StoreAt, LoadAt, LoadIdWord, LockId, PostId, UnlockId, EndId, FreeId, TakeCall, TakeBytes, Bytes, Found}
use Rattle.seat_programs.specs.PostPrograms.{packed}
use Rattle.call_stories.specs.Below.id_runs.proofs.AsidesKeepingIdRule.{parts_packed}
use Rattle.call_stories.specs.Scenes.{Scene}
use Rattle.call_stories.specs.Says.{Shape, shape_of, with_attempt, unlocked_by, Slot, NoSlot, Claims, Locked, Holds, Leaves, Mark, with_slot, put_in, taken_out, MayAside}
use Rattle.call_stories.specs.CallStories.{word_at, tag_at, LiesAt, InSlot, PutThere, SlotFits, IsBehind, KnowsStep, mark_after, stored_by}
use Rattle.call_stories.proofs.PostLoopCauses.{locked_parts}
use Rattle.call_stories.proofs.Effects.{Touches, SameAt, beside, word_is, tag_stays, tag_is, word_stays, lies_is}
use Rattle.sock_words.specs.PackedWords.{bit}

module _ (q : IdPlan) where
  -- slot k has the same range in the same state, and is still taken
  pub record LikeAt (k : ℕ) (w w' : Scene) : Type 0 where
    pub tag : tag_at w k ≢ 0 → tag_at w' k ≢ 0
    pub first : (word_at w' k).first ≡ (word_at w k).first
    pub range : (word_at w' k).range ≡ (word_at w k).range
    pub state : (word_at w' k).state ≡ (word_at w k).state
    pub attempt : (word_at w' k).attempt ≡ (word_at w k).attempt
    pub home : (asked : Asked) → LiesAt w' k asked → LiesAt w k asked

  put_like : (w w' : Scene) (i : ℕ) (c : Option Asked) → LikeAt i w w' → PutThere w i c → PutThere w' i c
  put_like w w' i None l x = tt
  put_like w w' i (Some asked) l x = λ a lies. x a (l.home a lies)

  pub like_fits : (w w' : Scene) (s : Slot) → ((k : ℕ) → k < q.slots → InSlot k s → LikeAt k w w') → SlotFits q w s → SlotFits q w' s
  like_fits w w' NoSlot like f = tt
  like_fits w w' (Claims i c) like f = let l = like i f.0 refl in (f.0, l.tag f.1, l.state ∙ f.2, put_like w w' i c l f.3)
  like_fits w w' (Locked i first range) like f = let l = like i f.0 refl in (f.0, l.tag f.1, l.state ∙ f.2, l.first ∙ f.3, l.range ∙ f.4, l.attempt ∙ f.5)
  like_fits w w' (Holds i first range asked) like f = let l = like i f.0 refl in (f.0, l.tag f.1, l.state ∙ f.2, l.first ∙ f.3, l.range ∙ f.4, l.attempt ∙ f.5)
  like_fits w w' (Leaves i) like f = let l = like i f.0 refl in (f.0, l.tag f.1, l.state ∙ f.2)

  -- a slot of which a seat has something is taken, and its id isn't open
  pub in_tag : (w : Scene) (s : Slot) (k : ℕ) → SlotFits q w s → InSlot k s → (tag_at w k ≢ 0) × ((word_at w k).state ≢ 1)
  in_tag w NoSlot k f x = absurd x
  in_tag w _ k f x = subst (λ n. (tag_at w n ≢ 0) × ((word_at w n).state ≢ 1)) x (f.1, (let z = f.2 in λ e. omega (arith, e, z)))

module _ (p : Plan) (q : IdPlan) (clients : List (List Task)) (gives : ℕ → List ℕ) (w w' : Scene) (m : Mark) (plan : w.core.calls.plan ≡ q) (sized : length w.core.calls.words ≡ all_words q) where
  of_same : (k : ℕ) → SameAt p q clients gives k w w' → LikeAt q k w w'
  of_same k s = record {
    tag = λ n e. n (sym s.tag ∙ e);
    first = ap (λ (x : Parts). x.first) s.word;
    range = ap (λ (x : Parts). x.range) s.word;
    state = ap (λ (x : Parts). x.state) s.word;
    attempt = ap (λ (x : Parts). x.attempt) s.word;
    home = λ asked lies. sym s.home ∙ lies;
  }

  abbrev Behind : (step : Step) → Found step → Type 0
  Behind step found = IsBehind p q clients gives w w' m step found

  -- where the id word of the slot becomes this one
  by_word : (i v : ℕ) → i < q.slots → w'.core.calls.words ≡ set w.core.calls.words (id_index i) v → w'.core.calls.homes ≡ w.core.calls.homes → (parts v).first ≡ (word_at w i).first → (parts v).range ≡ (word_at w i).range → (parts v).state ≡ (word_at w i).state → (parts v).attempt ≡ (word_at w i).attempt → LikeAt q i w w'
  by_word i v inside words homes first range state attempt = let x = word_is p q clients gives w w' m plan i inside sized v words in record {
    tag = λ n e. n (sym (tag_stays p q clients gives w w' m plan i inside sized v words) ∙ e);
    first = ap (λ (y : Parts). y.first) x ∙ first;
    range = ap (λ (y : Parts). y.range) x ∙ range;
    state = ap (λ (y : Parts). y.state) x ∙ state;
    attempt = ap (λ (y : Parts). y.attempt) x ∙ attempt;
    home = λ asked lies. ap (λ hs. get_elem? hs i) (sym homes) ∙ lies;
  }

  -- a word that was found is written again
  again : (i found : ℕ) → i < q.slots → parts found ≡ word_at w i → w'.core.calls.words ≡ set w.core.calls.words (id_index i) found → w'.core.calls.homes ≡ w.core.calls.homes → LikeAt q i w w'
  again i found inside is words homes = by_word i found inside words homes (ap (λ (y : Parts). y.first) is) (ap (λ (y : Parts). y.range) is) (ap (λ (y : Parts). y.state) is) (ap (λ (y : Parts). y.attempt) is)

  -- an error more waits at a locked id
  pub queued_parts : (from e : ℕ) → (parts from).state ≡ 2 → e < 32768 → ((parts (packed (posted_word (parts from) e))).first ≡ (parts from).first) × ((parts (packed (posted_word (parts from) e))).range ≡ (parts from).range) × ((parts (packed (posted_word (parts from) e))).state ≡ 2) × ((parts (packed (posted_word (parts from) e))).attempt ≡ (parts from).attempt)
  queued_parts from e two few = by_state (eqb (parts from).state 1) refl
    where
      small : (b : Bool) → (cond b e (parts from).oldest < 32768) × (cond b 0 e < 32768)
      small true = (few, omega arith)
      small false = (omega arith, few)

      by_state : (b : Bool) → eqb (parts from).state 1 ≡ b → ((parts (packed (cond b (locked_word (parts from)) record { first = (parts from).first; state = 2; range = (parts from).range; attempt = (parts from).attempt; oldest = cond (eqb (parts from).oldest 0) e (parts from).oldest; second = cond (eqb (parts from).oldest 0) 0 e }))).first ≡ (parts from).first)
          × ((parts (packed (cond b (locked_word (parts from)) record { first = (parts from).first; state = 2; range = (parts from).range; attempt = (parts from).attempt; oldest = cond (eqb (parts from).oldest 0) e (parts from).oldest; second = cond (eqb (parts from).oldest 0) 0 e }))).range ≡ (parts from).range)
          × ((parts (packed (cond b (locked_word (parts from)) record { first = (parts from).first; state = 2; range = (parts from).range; attempt = (parts from).attempt; oldest = cond (eqb (parts from).oldest 0) e (parts from).oldest; second = cond (eqb (parts from).oldest 0) 0 e }))).state ≡ 2)
          × ((parts (packed (cond b (locked_word (parts from)) record { first = (parts from).first; state = 2; range = (parts from).range; attempt = (parts from).attempt; oldest = cond (eqb (parts from).oldest 0) e (parts from).oldest; second = cond (eqb (parts from).oldest 0) 0 e }))).attempt ≡ (parts from).attempt)
      by_state true is = absurd (let z = eqb-true (parts from).state 1 is in omega (arith, z, two))
      by_state false is = let x = parts_packed (record { first = (parts from).first; state = 2; range = (parts from).range; attempt = (parts from).attempt; oldest = cond (eqb (parts from).oldest 0) e (parts from).oldest; second = cond (eqb (parts from).oldest 0) 0 e }) (omega arith) (omega arith) (omega arith) (omega arith) (small (eqb (parts from).oldest 0)).0 (small (eqb (parts from).oldest 0)).1 in (ap (λ (y : Parts). y.first) x, ap (λ (y : Parts). y.range) x, ap (λ (y : Parts). y.state) x, ap (λ (y : Parts). y.attempt) x)

  -- a step that may come upon a slot of another seat
  abbrev IsShared : Step → Type 0
  IsShared (PutCall i asked) = ⊥
  IsShared (MakeId i range) = ⊥
  IsShared (UnlockId i from advance) = ⊥
  IsShared (EndId i) = ⊥
  IsShared (FreeId i) = ⊥
  IsShared (TakeCall i) = ⊥
  IsShared other = Unit {0}

  claimed_like : (i : ℕ) (found : ℕ) → i < q.slots → Behind (ClaimId i) found → LikeAt q i w w'
  claimed_like i found inside b = let x = word_stays p q clients gives w w' m plan i inside sized 1 b.words in record {
    tag = λ _ e. omega (arith, e, tag_is p q clients gives w w' m plan i inside sized 1 b.words);
    first = ap (λ (y : Parts). y.first) x;
    range = ap (λ (y : Parts). y.range) x;
    state = ap (λ (y : Parts). y.state) x;
    attempt = ap (λ (y : Parts). y.attempt) x;
    home = λ asked lies. ap (λ hs. get_elem? hs i) (sym b.homes) ∙ lies;
  }

  lock_like : (i from found : ℕ) → KnowsStep p q clients gives w (LockId i from) found → (word_at w i).state ≢ 1 → w'.core.calls.homes ≡ w.core.calls.homes → (b : Bool) → eqb found from ≡ b → w'.core.calls.words ≡ set w.core.calls.words (id_index i) (cond b (packed (posted_word (parts from) 0)) found) → LikeAt q i w w'
  lock_like i from found knows closed homes true hit words = absurd (closed (ap (λ (y : Parts). y.state) (sym knows.0.1) ∙ (ap (λ n. (parts n).state) (eqb-true found from hit) ∙ knows.1)))
  lock_like i from found knows closed homes false hit words = again i found knows.0.0 knows.0.1 words homes

  post_like : (i from e found : ℕ) → KnowsStep p q clients gives w (PostId i from e) found → (word_at w i).state ≢ 1 → w'.core.calls.homes ≡ w.core.calls.homes → (b : Bool) → eqb found from ≡ b → w'.core.calls.words ≡ set w.core.calls.words (id_index i) (cond b (packed (posted_word (parts from) e)) found) → LikeAt q i w w'
  post_like i from e found knows closed homes true hit words = ⊎_elim
      (λ one. absurd (closed (ap (λ (y : Parts). y.state) (sym knows.0.1) ∙ (ap (λ n. (parts n).state) (eqb-true found from hit) ∙ one))))
      (λ two. let x = queued_parts from e two.0 knows.2 in let is : parts from ≡ word_at w i = ap parts (sym (eqb-true found from hit)) ∙ knows.0.1 in
      by_word i (packed (posted_word (parts from) e)) knows.0.0 words homes (x.0 ∙ ap (λ (y : Parts). y.first) is) (x.1 ∙ ap (λ (y : Parts). y.range) is) (x.2 ∙ (sym two.0 ∙ ap (λ (y : Parts). y.state) is)) (x.3 ∙ ap (λ (y : Parts). y.attempt) is)) knows.1
  post_like i from e found knows closed homes false hit words = again i found knows.0.0 knows.0.1 words homes

  shared_like : (step : Step) (found : Found step) → IsShared step → Behind step found → KnowsStep p q clients gives w step found → (s : Slot) → SlotFits q w s → (k : ℕ) → k < q.slots → InSlot k s → LikeAt q k w w'
  shared_like (ClaimId i) found sh b knows s f k low there = dite (ℕ_discrete i k) (λ same. subst (λ n. LikeAt q n w w') same (claimed_like i found knows.0 b)) (λ ne. of_same k (beside p q clients gives w w' m plan (ClaimId i) found b k low ne))
  shared_like (LockId i from) found sh b knows s f k low there = dite (ℕ_discrete i k)
      (λ same. subst (λ n. LikeAt q n w w') same (lock_like i from found knows (subst (λ n. (word_at w n).state ≢ 1) (sym same) (in_tag q w s k f there).1) b.homes (eqb found from) refl b.words)) (λ ne. of_same k (beside p q clients gives w w' m plan (LockId i from) found b k low ne))
  shared_like (PostId i from e) found sh b knows s f k low there = dite (ℕ_discrete i k)
      (λ same. subst (λ n. LikeAt q n w w') same (post_like i from e found knows (subst (λ n. (word_at w n).state ≢ 1) (sym same) (in_tag q w s k f there).1) b.homes (eqb found from) refl b.words)) (λ ne. of_same k (beside p q clients gives w w' m plan (PostId i from e) found b k low ne))
  shared_like (StoreCall o id) found sh b knows s f k low there = of_same k (beside p q clients gives w w' m plan (StoreCall o id) found b k low (λ x. x))
  shared_like (LoadCall o) found sh b knows s f k low there = of_same k (beside p q clients gives w w' m plan (LoadCall o) found b k low (λ x. x))
  shared_like (StoreAt o x) found sh b knows s f k low there = of_same k (beside p q clients gives w w' m plan (StoreAt o x) found b k low (λ x. x))
  shared_like (LoadAt o) found sh b knows s f k low there = of_same k (beside p q clients gives w w' m plan (LoadAt o) found b k low (λ x. x))
  shared_like (LoadIdWord i) found sh b knows s f k low there = of_same k (beside p q clients gives w w' m plan (LoadIdWord i) found b k low (λ x. x))
  shared_like (TakeBytes l room) found sh b knows s f k low there = of_same k (beside p q clients gives w w' m plan (TakeBytes l room) found b k low (λ x. x))
  shared_like _ found sh b knows s f k low there = absurd sh

  -- where the step is made at the seat's own slot, which is no other's
  alone : (step : Step) (found : Found step) → Behind step found → (i : ℕ) → ((k : ℕ) → Touches step k → i ≡ k) → InSlot i m.slot → (s : Slot) → ((k : ℕ) → InSlot k s → InSlot k m.slot → ⊥) → (k : ℕ) → k < q.slots → InSlot k s → LikeAt q k w w'
  alone step found b i own mine s apart k low there = of_same k (beside p q clients gives w w' m plan step found b k low (λ t. apart k there (subst (λ n. InSlot n m.slot) (own k t) mine)))

  -- another seat's slot
  pub other_like : (step : Step) (found : Found step) → Behind step found → KnowsStep p q clients gives w step found → MayAside p q clients gives w m step → (s : Slot) → SlotFits q w s → ((k : ℕ) → InSlot k s → InSlot k m.slot → ⊥) → (k : ℕ) → k < q.slots → InSlot k s → LikeAt q k w w'
  other_like (PutCall i asked) found b knows may s f apart = alone (PutCall i asked) found b i (λ k t. t) (⊎_elim (λ e. subst (InSlot i) (sym e) refl) (λ e. subst (InSlot i) (sym e.2) refl) may) s apart
  other_like (MakeId i range) found b knows may s f apart = alone (MakeId i range) found b i (λ k t. t) (subst (InSlot i) (sym may.3) refl) s apart
  other_like (UnlockId i from advance) found b knows may s f apart = alone (UnlockId i from advance) found b i (λ k t. t) (subst (InSlot i) (sym may.2) refl) s apart
  other_like (EndId i) found b knows may s f apart = alone (EndId i) found b i (λ k t. t) (subst (InSlot i) (sym may.3) refl) s apart
  other_like (FreeId i) found b knows may s f apart = alone (FreeId i) found b i (λ k t. t) (subst (InSlot i) (sym may) refl) s apart
  other_like (TakeCall i) found b knows may s f apart = alone (TakeCall i) found b i (λ k t. t) (subst (InSlot i) (sym may.2) refl) s apart
  other_like other found b knows may s f apart = shared_like other found tt b knows s f

  -- ## The own slot

  stays : (step : Step) (found : Found step) → IsShared step → Behind step found → KnowsStep p q clients gives w step found → SlotFits q w m.slot → SlotFits q w' m.slot
  stays step found sh b knows f = like_fits q w w' m.slot (shared_like step found sh b knows m.slot f) f

  -- an id that was open is locked
  got_lock : (i from e found : ℕ) → found ≡ from → (parts from).state ≡ 1 → i < q.slots → parts found ≡ word_at w i → tag_at w i ≢ 0 → w'.core.calls.words ≡ set w.core.calls.words (id_index i) (packed (posted_word (parts from) e)) → SlotFits q w' (Locked i (parts from).first (shape_of (parts from)))
  got_lock i from e found same one inside is taken words = let x = word_is p q clients gives w w' m plan i inside sized (packed (posted_word (parts from) e)) words ∙ locked_parts p q clients gives from e one in
      (inside, (λ z. taken (sym (tag_stays p q clients gives w w' m plan i inside sized (packed (posted_word (parts from) e)) words) ∙ z)), ap (λ (y : Parts). y.state) x, ap (λ (y : Parts). y.first) x, ap (λ (y : Parts). y.range) x, ap (λ (y : Parts). y.attempt) x)

  taken_there : (i from found : ℕ) → found ≡ from → (parts from).state ≡ 1 → parts found ≡ word_at w i → (0 < (word_at w i).state → tag_at w i ≢ 0) → tag_at w i ≢ 0
  taken_there i from found same one is taken = taken (let x : (word_at w i).state ≡ 1 = ap (λ (y : Parts). y.state) (sym is) ∙ (ap (λ n. (parts n).state) same ∙ one) in omega (arith, x))

  lock_own : (i from found : ℕ) → Behind (LockId i from) found → KnowsStep p q clients gives w (LockId i from) found → SlotFits q w m.slot → (b : Bool) → eqb found from ≡ b → SlotFits q w' (cond b (with_slot (Locked i (parts from).first (shape_of (parts from))) m) m).slot
  lock_own i from found b knows f true hit = let same = eqb-true found from hit in
      got_lock i from 0 found same knows.1 knows.0.0 knows.0.1 (taken_there i from found same knows.1 knows.0.1 knows.2.0) (b.words ∙ ap (λ z. set w.core.calls.words (id_index i) (cond z (packed (posted_word (parts from) 0)) found)) hit)
  lock_own i from found b knows f false hit = stays (LockId i from) found tt b knows f

  post_own : (i from e found : ℕ) → Behind (PostId i from e) found → KnowsStep p q clients gives w (PostId i from e) found → SlotFits q w m.slot → (b c : Bool) → eqb found from ≡ b → eqb (parts from).state 1 ≡ c → SlotFits q w' (cond b (cond c (with_slot (Locked i (parts from).first (shape_of (parts from))) m) m) m).slot
  post_own i from e found b knows f true true hit one = let same = eqb-true found from hit in let state = eqb-true (parts from).state 1 one in
      got_lock i from e found same state knows.0.0 knows.0.1 (taken_there i from found same state knows.0.1 knows.3.0) (b.words ∙ ap (λ z. set w.core.calls.words (id_index i) (cond z (packed (posted_word (parts from) e)) found)) hit)
  post_own i from e found b knows f true false hit one = stays (PostId i from e) found tt b knows f
  post_own i from e found b knows f false c hit one = stays (PostId i from e) found tt b knows f

  -- the own slot where neither its words nor its tag change
  put_own : (i : ℕ) (asked : Asked) (s : Slot) → Behind (PutCall i asked) 0 → (s ≡ Claims i None) ⊎ ((f : ℕ) × (shape : Shape) × (s ≡ Holds i f shape asked)) → SlotFits q w s → SlotFits q w' (put_in asked s)
  put_own i asked s b (inl is) f = let x = subst (SlotFits q w) is f in subst (λ y. SlotFits q w' (put_in asked y)) (sym is) (
    x.0,
    (λ e. x.1 (ap (λ ws. Rattle.std.proofs.Common.get_or ws (tag_index i) 0) (sym b.words) ∙ e)),
    ap (λ ws. (parts (Rattle.std.proofs.Common.get_or ws (id_index i) 0)).state) b.words ∙ x.2,
    λ a lies. let z = some-injective (Some asked) (Some a) (lies_is p q clients gives w w' m plan i (core.some (Some asked)) a b.homes lies) in let y : a ≡ asked = cc in y,
  )
  put_own i asked s b (inr is) f = let x = subst (SlotFits q w) is.2 f in subst (λ y. SlotFits q w' (put_in asked y)) (sym is.2) (locked_still i is.0 is.1 b.words x)
    where
      locked_still : (i f : ℕ) (range : Shape) → w'.core.calls.words ≡ w.core.calls.words → SlotFits q w (Locked i f range) → SlotFits q w' (Locked i f range)
      locked_still i f range words x = (
        x.0,
        (λ e. x.1 (ap (λ ws. Rattle.std.proofs.Common.get_or ws (tag_index i) 0) (sym words) ∙ e)),
        ap (λ ws. (parts (Rattle.std.proofs.Common.get_or ws (id_index i) 0)).state) words ∙ x.2,
        ap (λ ws. (parts (Rattle.std.proofs.Common.get_or ws (id_index i) 0)).first) words ∙ x.3,
        ap (λ ws. (parts (Rattle.std.proofs.Common.get_or ws (id_index i) 0)).range) words ∙ x.4,
        ap (λ ws. (parts (Rattle.std.proofs.Common.get_or ws (id_index i) 0)).attempt) words ∙ x.5,
      )

  -- ## All seats

  pub own_fits : (step : Step) (found : Found step) → Behind step found → KnowsStep p q clients gives w step found → MayAside p q clients gives w m step → SlotFits q w m.slot → SlotFits q w' (mark_after p q clients gives step found m).slot
  own_fits (ClaimId i) found b knows may f = by_found (eqb found 0) refl
    where
      by_found : (c : Bool) → eqb found 0 ≡ c → SlotFits q w' (cond c (with_slot (Claims i None) m) m).slot
      by_found true is = (
        knows.0,
        (λ e. omega (arith, e, tag_is p q clients gives w w' m plan i knows.0 sized 1 b.words)),
        ap (λ (y : Parts). y.state) (word_stays p q clients gives w w' m plan i knows.0 sized 1 b.words) ∙ knows.2.1 (sym knows.1 ∙ eqb-true found 0 is),
        tt,
      )
      by_found false is = stays (ClaimId i) found tt b knows f
  own_fits (PutCall i asked) found b knows may f = put_own i asked m.slot (record { words = b.words; homes = b.homes; gave = b.gave; births = b.births; claims = b.claims; advances = b.advances; posts = b.posts; decided = b.decided; sayings = b.sayings; overs = b.overs }) (⊎_elim (λ e. inl e) (λ e. inr (e.0, e.1, e.2)) may) f
  own_fits (MakeId i range) found b knows may f = tt
  own_fits (StoreCall o id) found b knows may f = by_todo m.todo
    where
      by_todo : (ts : List Task) → SlotFits q w' (stored_by p q clients gives ts m).slot
      by_todo [] = stays (StoreCall o id) found tt b knows f
      by_todo (t ∷ ts) = stays (StoreCall o id) found tt b knows f
  own_fits (LockId i from) found b knows may f = lock_own i from found b knows f (eqb found from) refl
  own_fits (PostId i from e) found b knows may f = post_own i from e found b knows f (eqb found from) (eqb (parts from).state 1) refl refl
  own_fits (UnlockId i from advance) found b knows may f = by_found (eqb found from) refl b.words (subst (SlotFits q w) may.2 f)
    where
      moved : (v : ℕ) → w'.core.calls.words ≡ set w.core.calls.words (id_index i) v → (parts v).first ≡ (word_at w i).first → (parts v).range ≡ (word_at w i).range → (parts v).state ≡ (word_at w i).state → (parts v).attempt ≡ (word_at w i).attempt → SlotFits q w (Locked i may.0 may.1) → SlotFits q w' m.slot
      moved v words first range state attempt x = subst (SlotFits q w') (sym may.2) (like_fits q w w' (Locked i may.0 may.1) (λ k low there. subst (λ n. LikeAt q n w w') there (by_word i v knows.0.0 words b.homes first range state attempt)) x)

      popped : (c : Bool) → eqb (parts from).oldest 0 ≡ c → found ≡ from → w'.core.calls.words ≡ set w.core.calls.words (id_index i) (packed (unlocked_word (parts from) (bit advance))) → SlotFits q w (Locked i may.0 may.1) → SlotFits q w' (cond c (with_slot NoSlot m) (with_slot (with_attempt (parts (unlocked_by from advance)).attempt m.slot) m)).slot
      popped true none_ same words x = tt
      popped false some_ same words x = let is : parts from ≡ word_at w i = ap parts (sym same) ∙ knows.0.1 in
          let y = parts_packed (unlocked_word (parts from) (bit advance)) (state_fits (eqb (parts from).oldest 0)) (omega arith) (omega arith) (let z = knows.2 in omega (arith, z)) (omega arith) (omega arith) in
          let there = word_is p q clients gives w w' m plan i knows.0.0 sized (packed (unlocked_word (parts from) (bit advance))) words in
          subst (λ s. SlotFits q w' (with_attempt (parts (unlocked_by from advance)).attempt s)) (sym may.2) (
            x.0,
            (λ e. x.1 (sym (tag_stays p q clients gives w w' m plan i knows.0.0 sized (packed (unlocked_word (parts from) (bit advance))) words) ∙ e)),
            ap (λ (z : Parts). z.state) (there ∙ y) ∙ ap (λ c. cond c 1 2) some_,
            ap (λ (z : Parts). z.first) (there ∙ y) ∙ (ap (λ (z : Parts). z.first) is ∙ x.3),
            ap (λ (z : Parts). z.range) (there ∙ y) ∙ (ap (λ (z : Parts). z.range) is ∙ x.4),
            ap (λ (z : Parts). z.attempt) there,
          )
        where
          state_fits : (c : Bool) → cond c 1 2 < 4
          state_fits true = omega arith
          state_fits false = omega arith

      by_found : (c : Bool) → eqb found from ≡ c → w'.core.calls.words ≡ set w.core.calls.words (id_index i) (cond (eqb found from) (packed (unlocked_word (parts from) (bit advance))) found) → SlotFits q w (Locked i may.0 may.1)
          → SlotFits q w' (cond c (cond (eqb (parts from).oldest 0) (with_slot NoSlot m) (with_slot (with_attempt (parts (unlocked_by from advance)).attempt m.slot) m)) m).slot
      by_found true hit words x = popped (eqb (parts from).oldest 0) refl (eqb-true found from hit) (words ∙ ap (λ z. set w.core.calls.words (id_index i) (cond z (packed (unlocked_word (parts from) (bit advance))) found)) hit) x
      by_found false hit words x = moved found (words ∙ ap (λ z. set w.core.calls.words (id_index i) (cond z (packed (unlocked_word (parts from) (bit advance))) found)) hit) (ap (λ (y : Parts). y.first) knows.0.1) (ap (λ (y : Parts). y.range) knows.0.1) (ap (λ (y : Parts). y.state) knows.0.1) (ap (λ (y : Parts). y.attempt) knows.0.1) x
  own_fits (EndId i) found b knows may f = let x = subst (SlotFits q w) may.3 f in let v : ℕ = packed (free_word ((parts found).first + (parts found).range)) in (
    x.0,
    (λ e. x.1 (sym (tag_stays p q clients gives w w' m plan i x.0 sized v b.words) ∙ e)),
    ap (λ (y : Parts). y.state) (word_is p q clients gives w w' m plan i x.0 sized v b.words ∙ parts_packed (free_word ((parts found).first + (parts found).range)) (omega arith) (omega arith) (omega arith) (omega arith) (omega arith) (omega arith)),
  )
  own_fits (FreeId i) found b knows may f = tt
  own_fits (TakeCall i) found b knows may f = subst (λ s. SlotFits q w' (taken_out found s)) (sym may.2) (let x = subst (SlotFits q w) may.2 f in (
    x.0,
    (λ e. x.1 (ap (λ ws. Rattle.std.proofs.Common.get_or ws (tag_index i) 0) (sym b.words) ∙ e)),
    ap (λ ws. (parts (Rattle.std.proofs.Common.get_or ws (id_index i) 0)).state) b.words ∙ x.2,
    ap (λ ws. (parts (Rattle.std.proofs.Common.get_or ws (id_index i) 0)).first) b.words ∙ x.3,
    ap (λ ws. (parts (Rattle.std.proofs.Common.get_or ws (id_index i) 0)).range) b.words ∙ x.4,
    ap (λ ws. (parts (Rattle.std.proofs.Common.get_or ws (id_index i) 0)).attempt) b.words ∙ x.5,
  ))
  own_fits (TakeBytes l room) (Bytes bytes) b knows may f = stays (TakeBytes l room) (Bytes bytes) tt b knows f
  own_fits (TakeBytes l room) Rattle.seat_programs.specs.Asides.Nothing b knows may f = stays (TakeBytes l room) Rattle.seat_programs.specs.Asides.Nothing tt b knows f
  own_fits (TakeBytes l room) Rattle.seat_programs.specs.Asides.NoMore b knows may f = stays (TakeBytes l room) Rattle.seat_programs.specs.Asides.NoMore tt b knows f
  own_fits (TakeBytes l room) Rattle.seat_programs.specs.Asides.AtEnd b knows may f = stays (TakeBytes l room) Rattle.seat_programs.specs.Asides.AtEnd tt b knows f
  own_fits (TakeBytes l room) Rattle.seat_programs.specs.Asides.Closed b knows may f = stays (TakeBytes l room) Rattle.seat_programs.specs.Asides.Closed tt b knows f
  own_fits (TakeBytes l room) Rattle.seat_programs.specs.Asides.Broken b knows may f = stays (TakeBytes l room) Rattle.seat_programs.specs.Asides.Broken tt b knows f
  own_fits other found b knows may f = stays other found tt b knows f
