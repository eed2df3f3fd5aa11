-- Behind a step aside what happened before has happened, and more.
use Rattle.std.proofs.Common.{◌≡◌, ◌≢◌, ℕ, ◌+◌, ◌<◌, ◌≤◌, ◌⊎◌, inl, inr, ⊎_elim, Bool, true, false, cond, eqb, List, [], ◌∷◌, ◌++◌, length, get_or, set, get_or-set_other, get_or-set_same, slice_get, None, Some, refl, sym, ap, ◌∙◌, subst, arith}
use mathlib.Core.Option as core
use mathlib.Core.Option.{some-injective}
use mathlib.Core.Logic.{dite}
use native.Mathlib.Decide.{ℕ_discrete}
use lib.ListN.{get_elem?}
use Rattle.sock_words.specs.PackedWords.{at_word_attempt, call_id, bit}
use Rattle.sock_words.specs.declared.plain.Plan.{Plan}
use Rattle.seat_programs.specs.brpc_model.specs.Frame.{Frame}
use Rattle.seat_programs.specs.brpc_model.specs.FrameStream as streams
use Rattle.corr_core.specs.IdSlotWord.{Parts, parts, made_word, posted_word, unlocked_word, free_word}
use Rattle.corr_core.specs.declared.marks.Plan.{Plan as IdPlan}
use Rattle.seat_programs.specs.id_rule.specs.LawfulIdTable.{tag_index, id_index, call_index, at_index, all_words}
use Rattle.sock_message.specs.Asked.{Asked}
use Rattle.seat_programs.specs.declared.task.Task.{Task}
use Rattle.seat_programs.specs.Asides.{Step, ClaimId, PutCall, MakeId, StoreCall, LoadCall, StoreAt, LockId, PostId, UnlockId, EndId, FreeId, TakeCall, TakeBytes, Bytes, Found}
use Rattle.seat_programs.specs.Asides as asides
use Rattle.seat_programs.specs.PostPrograms.{packed}
use Rattle.call_stories.specs.Below.id_runs.proofs.AsidesKeepingIdRule.{parts_packed}
use Rattle.call_stories.specs.PostsOfRun.{posts_by}
use Rattle.call_stories.specs.Scenes.{Birth, Scene, IsBorn, IsClaimed, Came, Begun, StaysWithin, Later}
use Rattle.call_stories.specs.Says.{Claims, Holds, Mark, MayAside}
use Rattle.call_stories.specs.CallStories.{word_at, LiesAt, SlotFits, BirthsLaw, IsBehind, KnowsStep, put_of, born_by, claimed_by}
use Rattle.call_stories.proofs.StreamFramesStay.{frames_stay}
use Rattle.call_stories.proofs.Effects.{beside, word_is, lies_is}
use Rattle.story_steps.proofs.Births.{IsMake}
use Rattle.story_steps.proofs.AttemptsBehindAsides.{in_behind, ended_still}
use Rattle.story_steps.proofs.BirthTicks.{Made, no_more, one_more, one_call, born, born_still, apart}
use Rattle.call_stories.specs.Below.outcome_stories.specs.OperationStories.{In}

module _ (p : Plan) (q : IdPlan) (clients : List (List Task)) (gives : ℕ → List ℕ) (w w' : Scene) (m : Mark) (plan : w.core.calls.plan ≡ q) (sized : length w.core.calls.words ≡ all_words q) (fits : SlotFits q w m.slot) (law : BirthsLaw p q clients gives w)
    (low : (k : ℕ) → k < q.slots → (word_at w k).first ≤ 67108856) where
  -- whether the step makes an id
  pub made_of : (step : Step) (found : Found step) (b : IsBehind p q clients gives w w' m step found) (knows : KnowsStep p q clients gives w step found) (may : MayAside p q clients gives w m step) → Made p q clients gives w w' m plan sized fits law low step found b knows may
  made_of (MakeId i range) found b knows may =
      let f = subst (SlotFits q w) may.3 fits in
      let word = word_is p q clients gives w w' m plan i knows.0.0 sized (packed (made_word (parts found).first range)) b.words ∙ parts_packed (made_word (parts found).first range) (omega arith) (let z = knows.2 in omega (arith, z)) knows.3 (omega arith) (omega arith) (omega arith) in
      one_more i may.0 refl knows.0.0 may.3
      (b.births ∙ (ap (λ s. born_by p q clients gives (call_id i (parts found).first) (put_of p q clients gives s) ++ w.births) may.3 ∙ ap (λ (y : Parts). (record { id = call_id i y.first; asked = may.0 }) ∷ w.births) knows.0.1))
      f.2 (word ∙ (ap (λ (y : Parts). made_word y.first range) knows.0.1 ∙ ap (made_word (word_at w i).first) may.4)) (subst (λ n. (2 ≤ n) × (n ≤ 8)) may.4 (knows.2, knows.3))
      (λ a lies. f.3 a (ap (λ hs. get_elem? hs i) (sym b.homes) ∙ lies)) (λ k inside ne. beside p q clients gives w w' m plan (MakeId i range) found b k inside ne)
  made_of (StoreAt o x) found b knows may = no_more b.births (λ k x. x)
  made_of _ found b knows may = no_more b.births (λ k x. x)

  abbrev Behind : (step : Step) → Found step → Type 0
  Behind step found = IsBehind p q clients gives w w' m step found

  -- what lies at home lay there, or is the call of the range
  pub home_before : (step : Step) (found : Found step) → Behind step found → KnowsStep p q clients gives w step found → MayAside p q clients gives w m step → (k : ℕ) (a : Asked) → k < q.slots → LiesAt w' k a → LiesAt w k a ⊎ (0 < (word_at w k).state → IsBorn w (call_id k (word_at w k).first) a)
  home_before (PutCall i asked) found b knows may k a inside lies = dite (ℕ_discrete i k)
      (λ here. inr (subst (λ n. 0 < (word_at w n).state → IsBorn w (call_id n (word_at w n).first) a) here (λ live.
      let z = some-injective (Some asked) (Some a) (lies_is p q clients gives w w' m plan i (core.some (Some asked)) a b.homes (subst (λ n. LiesAt w' n a) (sym here) lies)) in
      let same : asked ≡ a = cc in
      ⊎_elim (λ claimed. absurd (let f : SlotFits q w (Claims i None) = subst (SlotFits q w) claimed fits in let z = f.2 in omega (arith, z, live)))
      (λ held. let f : SlotFits q w (Holds i held.0 held.1 asked) = subst (SlotFits q w) held.2 fits in subst (λ n. IsBorn w (call_id i n) a) (sym f.3) (subst (IsBorn w (call_id i held.0)) same held.3)) may)))
      (λ ne. inl (sym (beside p q clients gives w w' m plan (PutCall i asked) found b k inside ne).home ∙ lies))
  home_before (TakeCall i) found b knows may k a inside lies = dite (ℕ_discrete i k)
      (λ here. absurd (let z = some-injective None (Some a) (lies_is p q clients gives w w' m plan i (core.some None) a b.homes (subst (λ n. LiesAt w' n a) (sym here) lies)) in cc))
      (λ ne. inl (sym (beside p q clients gives w w' m plan (TakeCall i) found b k inside ne).home ∙ lies))
  home_before (TakeBytes l room) (Bytes bytes) b knows may k a inside lies = inl (ap (λ hs. get_elem? hs k) (sym b.homes) ∙ lies)
  home_before (TakeBytes l room) asides.Nothing b knows may k a inside lies = inl (ap (λ hs. get_elem? hs k) (sym b.homes) ∙ lies)
  home_before (TakeBytes l room) asides.NoMore b knows may k a inside lies = inl (ap (λ hs. get_elem? hs k) (sym b.homes) ∙ lies)
  home_before (TakeBytes l room) asides.AtEnd b knows may k a inside lies = inl (ap (λ hs. get_elem? hs k) (sym b.homes) ∙ lies)
  home_before (TakeBytes l room) asides.Closed b knows may k a inside lies = inl (ap (λ hs. get_elem? hs k) (sym b.homes) ∙ lies)
  home_before (TakeBytes l room) asides.Broken b knows may k a inside lies = inl (ap (λ hs. get_elem? hs k) (sym b.homes) ∙ lies)
  home_before _ found b knows may k a inside lies = inl (ap (λ hs. get_elem? hs k) (sym b.homes) ∙ lies)

  -- ## Words of calls

  word_beside : (x v o : ℕ) → w'.core.calls.words ≡ set w.core.calls.words x v → call_index q o ≢ x → Begun p q clients gives w o → Begun p q clients gives w' o
  word_beside x v o words ne begun = λ e. begun (sym (ap (λ ws. get_or ws (call_index q o) 0) words ∙ get_or-set_other w.core.calls.words x (call_index q o) v 0 ne) ∙ e)

  words_still : (o : ℕ) → w'.core.calls.words ≡ w.core.calls.words → Begun p q clients gives w o → Begun p q clients gives w' o
  words_still o words begun = λ e. begun (ap (λ ws. get_or ws (call_index q o) 0) (sym words) ∙ e)

  pub stored_is : (o id : ℕ) → o < q.operations → w'.core.calls.words ≡ set w.core.calls.words (call_index w.core.calls.plan o) id → get_or w'.core.calls.words (call_index q o) 0 ≡ id
  stored_is o id inside words = ap (λ ws. get_or ws (call_index q o) 0) (words ∙ ap (λ (r : IdPlan). set w.core.calls.words (call_index r o) id) plan) ∙ get_or-set_same w.core.calls.words (call_index q o) id 0 (omega (arith, sized, inside))

  pub begun_still : (step : Step) (found : Found step) → Behind step found → KnowsStep p q clients gives w step found → (o : ℕ) → Begun p q clients gives w o → Begun p q clients gives w' o
  begun_still (ClaimId i) found b knows o = word_beside (tag_index i) 1 o b.words (let z = knows.0 in λ e. omega (arith, z, e))
  begun_still (MakeId i range) found b knows o = word_beside (id_index i) (packed (made_word (parts found).first range)) o b.words (λ e. omega (arith, e))
  begun_still (StoreCall u id) found b knows o = dite (ℕ_discrete u o)
      (λ here. λ _ e. knows.1 (sym (stored_is u id knows.0 b.words) ∙ (ap (λ n. get_or w'.core.calls.words (call_index q n) 0) here ∙ e)))
      (λ ne. word_beside (call_index q u) id o (b.words ∙ ap (λ (r : IdPlan). set w.core.calls.words (call_index r u) id) plan) (λ e. ne (omega (arith, e))))
  begun_still (StoreAt u x) found b knows o = word_beside (at_index q u) x o (b.words ∙ ap (λ (r : IdPlan). set w.core.calls.words (at_index r u) x) plan) (λ e. omega (arith, e))
  begun_still (LockId i from) found b knows o = word_beside (id_index i) (cond (eqb found from) (packed (posted_word (parts from) 0)) found) o b.words (λ e. omega (arith, e))
  begun_still (PostId i from e) found b knows o = word_beside (id_index i) (cond (eqb found from) (packed (posted_word (parts from) e)) found) o b.words (λ z. omega (arith, z))
  begun_still (UnlockId i from advance) found b knows o = word_beside (id_index i) (cond (eqb found from) (packed (unlocked_word (parts from) (bit advance))) found) o b.words (λ e. omega (arith, e))
  begun_still (EndId i) found b knows o = word_beside (id_index i) (packed (free_word ((parts found).first + (parts found).range))) o b.words (λ e. omega (arith, e))
  begun_still (FreeId i) found b knows o = word_beside (tag_index i) 0 o b.words (λ e. omega (arith, knows, e))
  begun_still (TakeBytes l room) (Bytes bytes) b knows o = words_still o b.words
  begun_still (TakeBytes l room) asides.Nothing b knows o = words_still o b.words
  begun_still (TakeBytes l room) asides.NoMore b knows o = words_still o b.words
  begun_still (TakeBytes l room) asides.AtEnd b knows o = words_still o b.words
  begun_still (TakeBytes l room) asides.Closed b knows o = words_still o b.words
  begun_still (TakeBytes l room) asides.Broken b knows o = words_still o b.words
  begun_still _ found b knows o = words_still o b.words

  -- ## Words of where attempts went

  at_beside : (x v o : ℕ) → o < q.operations → w'.core.calls.words ≡ set w.core.calls.words x v → at_index q o ≢ x → at_word_attempt (get_or w'.core.calls.words (at_index q o) 0) ≤ 6
  at_beside x v o inside words ne = subst (λ n. at_word_attempt n ≤ 6) (sym (ap (λ ws. get_or ws (at_index q o) 0) words ∙ get_or-set_other w.core.calls.words x (at_index q o) v 0 ne)) (law.ats o inside)

  ats_same : (o : ℕ) → o < q.operations → w'.core.calls.words ≡ w.core.calls.words → at_word_attempt (get_or w'.core.calls.words (at_index q o) 0) ≤ 6
  ats_same o inside words = subst (λ ws. at_word_attempt (get_or ws (at_index q o) 0) ≤ 6) (sym words) (law.ats o inside)

  pub ats_still : (step : Step) (found : Found step) → Behind step found → KnowsStep p q clients gives w step found → MayAside p q clients gives w m step → (o : ℕ) → o < q.operations → at_word_attempt (get_or w'.core.calls.words (at_index q o) 0) ≤ 6
  ats_still (ClaimId i) found b knows may o inside = at_beside (tag_index i) 1 o inside b.words (λ e. omega (arith, e))
  ats_still (PutCall i asked) found b knows may o inside = ats_same o inside b.words
  ats_still (MakeId i range) found b knows may o inside = at_beside (id_index i) (packed (made_word (parts found).first range)) o inside b.words (let z = knows.0.0 in λ e. omega (arith, z, e))
  ats_still (StoreCall u id) found b knows may o inside = at_beside (call_index q u) id o inside (b.words ∙ ap (λ (r : IdPlan). set w.core.calls.words (call_index r u) id) plan) (λ e. omega (arith, e))
  ats_still (LoadCall u) found b knows may o inside = ats_same o inside b.words
  ats_still (StoreAt u x) found b knows may o inside =
      let words : w'.core.calls.words ≡ set w.core.calls.words (at_index q u) x = b.words ∙ ap (λ (r : IdPlan). set w.core.calls.words (at_index r u) x) plan in
      dite (ℕ_discrete u o)
      (λ here. subst (λ n. at_word_attempt (get_or w'.core.calls.words (at_index q n) 0) ≤ 6) here
      (subst (λ n. at_word_attempt n ≤ 6) (sym (ap (λ ws. get_or ws (at_index q u) 0) words ∙ get_or-set_same w.core.calls.words (at_index q u) x 0 (omega (arith, sized, knows)))) may))
      (λ ne. at_beside (at_index q u) x o inside words (λ e. ne (omega (arith, e))))
  ats_still (LockId i from) found b knows may o inside = at_beside (id_index i) (cond (eqb found from) (packed (posted_word (parts from) 0)) found) o inside b.words (let z = knows.0.0 in λ e. omega (arith, z, e))
  ats_still (PostId i from e) found b knows may o inside = at_beside (id_index i) (cond (eqb found from) (packed (posted_word (parts from) e)) found) o inside b.words (let z = knows.0.0 in λ x. omega (arith, z, x))
  ats_still (UnlockId i from advance) found b knows may o inside = at_beside (id_index i) (cond (eqb found from) (packed (unlocked_word (parts from) (bit advance))) found) o inside b.words (let z = knows.0.0 in λ e. omega (arith, z, e))
  ats_still (EndId i) found b knows may o inside = at_beside (id_index i) (packed (free_word ((parts found).first + (parts found).range))) o inside b.words (let z = knows.0 in λ e. omega (arith, z, e))
  ats_still (FreeId i) found b knows may o inside = at_beside (tag_index i) 0 o inside b.words (λ e. omega (arith, e))
  ats_still (TakeBytes l room) (Bytes bytes) b knows may o inside = ats_same o inside b.words
  ats_still (TakeBytes l room) asides.Nothing b knows may o inside = ats_same o inside b.words
  ats_still (TakeBytes l room) asides.NoMore b knows may o inside = ats_same o inside b.words
  ats_still (TakeBytes l room) asides.AtEnd b knows may o inside = ats_same o inside b.words
  ats_still (TakeBytes l room) asides.Closed b knows may o inside = ats_same o inside b.words
  ats_still (TakeBytes l room) asides.Broken b knows may o inside = ats_same o inside b.words
  ats_still _ found b knows may o inside = ats_same o inside b.words

  -- ## Frames

  gave_same : w'.core.calls.gave ≡ w.core.calls.gave → (k n : ℕ) (f : Frame) → Came w k n f → Came w' k n f
  gave_same same k n f there = subst (λ g. slice_get (streams.stream (get_or g k [])).frames n ≡ Some f) (sym same) there

  came_more : (l room : ℕ) (bytes : List ℕ) → Behind (TakeBytes l room) (Bytes bytes) → l < length w.core.calls.gave → (k n : ℕ) (f : Frame) → Came w k n f → Came w' k n f
  came_more l room bytes b knows k n f there = dite (ℕ_discrete k l)
      (λ here. subst (λ i. Came w' i n f) (sym here) (subst (λ xs. slice_get (streams.stream xs).frames n ≡ Some f) (sym (ap (λ g. get_or g l []) b.gave ∙ get_or-set_same w.core.calls.gave l (get_or w.core.calls.gave l [] ++ bytes) [] knows))
      (frames_stay (length (get_or w.core.calls.gave l []) + 1) 0 (get_or w.core.calls.gave l []) bytes n f (omega arith)
      (subst (λ j. slice_get (streams.stream_up_to j 0 (get_or w.core.calls.gave l [])).frames n ≡ Some f) (let z : Rattle.std.proofs.Common.suc (length (get_or w.core.calls.gave l [])) ≡ length (get_or w.core.calls.gave l []) + 1 = omega arith in z) (subst (λ i. Came w i n f) here there)))))
      (λ ne. subst (λ xs. slice_get (streams.stream xs).frames n ≡ Some f) (sym (ap (λ g. get_or g k []) b.gave ∙ get_or-set_other w.core.calls.gave l k (get_or w.core.calls.gave l [] ++ bytes) [] ne)) there)

  pub came_still : (step : Step) (found : Found step) → Behind step found → KnowsStep p q clients gives w step found → (k n : ℕ) (f : Frame) → Came w k n f → Came w' k n f
  came_still (TakeBytes l room) (Bytes bytes) b knows = came_more l room bytes b knows
  came_still (TakeBytes l room) asides.Nothing b knows = gave_same b.gave
  came_still (TakeBytes l room) asides.NoMore b knows = gave_same b.gave
  came_still (TakeBytes l room) asides.AtEnd b knows = gave_same b.gave
  came_still (TakeBytes l room) asides.Closed b knows = gave_same b.gave
  came_still (TakeBytes l room) asides.Broken b knows = gave_same b.gave
  came_still _ found b knows = gave_same b.gave

  -- ## Claims

  pub claims_still : (step : Step) (found : Found step) → Behind step found → (i o : ℕ) → IsClaimed w i o → IsClaimed w' i o
  claims_still (ClaimId k) found b i o there = subst (In (record { slot = i; operation = o })) (sym b.claims) (by_found (eqb found 0))
    where
      by_found : (c : Bool) → In (record { slot = i; operation = o }) (cond c (claimed_by p q clients gives k m.todo ++ w.claims) w.claims)
      by_found true = in_behind (record { slot = i; operation = o }) (claimed_by p q clients gives k m.todo) w.claims there
      by_found false = there
  claims_still _ found b i o there = subst (In (record { slot = i; operation = o })) (sym b.claims) there

  -- ## All of it

  -- no call is given up: there is room for each
  pub later : (step : Step) (found : Found step) (b : Behind step found) (knows : KnowsStep p q clients gives w step found) (may : MayAside p q clients gives w m step) → w'.core.words ≡ w.core.words → StaysWithin p q clients gives w'
      → ((c : Birth) (i : ℕ) (asked : Asked) → IsMake step i → In c w.births → m.slot ≡ Claims i (Some asked) → asked.operation ≢ c.asked.operation) → Later p q clients gives w w'
  later step found b knows may words room fresh = let made = made_of step found b knows may in record {
    said = λ o x s. b.sayings (record { number = o; outcome = x }) s;
    over = b.overs;
    named = λ n named. (named.0, (λ e. named.1 (ap (λ ws. get_or ws (Rattle.sock_model.specs.SocketTableLayout.name_index p n) 0) (sym words) ∙ e)));
    begun = begun_still step found b knows;
    born = born_still p q clients gives w w' m plan sized fits law low step found b knows may made fresh;
    came = came_still step found b knows;
    claimed = claims_still step found b;
    posted = λ x there. subst (In x) (sym b.posts) (in_behind x (posts_by step found) w.posts there);
    decided = b.decided;
    ended = ended_still p q clients gives w w' m plan sized fits law low step found b knows may made fresh;
    within = room;
    apart = one_call w'.births (apart p q clients gives w w' m plan sized fits law low step found b knows may made fresh) (λ c there. (born p q clients gives w w' m plan sized fits law low step found b knows may made fresh c there).1);
  }
