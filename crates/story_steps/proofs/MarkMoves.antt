-- What a step aside makes of the mark of its seat, and what it shows, is as the laws say.
use Rattle.std.proofs.Common.{◌≡◌, ◌≢◌, ℕ, ◌+◌, ◌<◌, ◌≤◌, ◌⊎◌, inl, inr, ⊎_elim, Bool, true, false, cond, eqb, eq-eqb, ne_eqb, List, [], ◌∷◌, ◌++◌, length, get_or, get_or-set_same, Option, None, Some, refl, sym, ap, ◌∙◌, subst, arith}
use mathlib.Core.Option.{some-injective}
use lib.ListN.{get_elem?}
use Rattle.sock_words.specs.PackedWords.{at_word_attempt, call_id, id_slot, id_first, bit}
use Rattle.sock_words.specs.declared.plain.Plan.{Plan}
use Rattle.sock_words.specs.declared.outcome.Outcome.{Outcome}
use Rattle.corr_core.specs.IdSlotWord.{Parts, parts, code_of, unlocked_word, free_word}
use Rattle.seat_programs.specs.PostPrograms.{packed}
use Rattle.call_stories.specs.Below.id_runs.proofs.AsidesKeepingIdRule.{parts_packed}
use Rattle.corr_core.specs.declared.marks.Plan.{Plan as IdPlan}
use Rattle.seat_programs.specs.id_rule.specs.LawfulIdTable.{call_index, all_words}
use Rattle.sock_message.specs.Asked.{Asked}
use Rattle.seat_programs.specs.declared.task.Task.{Task}
use Rattle.seat_programs.specs.Asides.{Step, ClaimId, MakeId, StoreCall, LoadCall, LoadAt, LoadIdWord, LockId, PostId, UnlockId, EndId, TakeCall, TakeBytes, Bytes, Found}
use Rattle.seat_programs.specs.Asides as asides
use Rattle.call_stories.specs.Scenes.{Birth, Saying, Scene, IsBorn, IsErrorCode, IsTaskOf, EndedAt, CauseOf, of_expiry, of_other, Later}
use Rattle.call_stories.specs.Says.{Shape, shape_of, with_attempt, unlocked_by, Slot, NoSlot, Claims, Locked, Holds, Leaves, Mark, with_slot, with_owed, with_made, IsVacant, HasCodes, MayAside, Moves}
use Rattle.call_stories.specs.CallStories.{At, word_at, SlotFits, IsCurrent, BirthsLaw, TasksLaw, ClaimsLaw, ReadsLaw, undo, ahead, unclaimed, IsBehind, KnowsStep, put_of, born_by, ended_of, stored_by, mark_after}
use Rattle.call_stories.proofs.LastingCallStories.{cause_on, are_told_on}
use Rattle.call_stories.specs.LinkReadingLists.{times}
use Rattle.call_stories.proofs.Effects.{word_is}
use Rattle.story_steps.proofs.LaterHappenings.{stored_is}
use Rattle.call_stories.specs.Below.outcome_stories.specs.OperationStories.{In}

module _ (p : Plan) (q : IdPlan) (clients : List (List Task)) (gives : ℕ → List ℕ) where
  -- a task that is done is one of the tasks
  pub in_todo : (done todo : List Task) (t : Task) → In t todo → In t (undo p q clients gives done todo)
  in_todo [] todo t there = there
  in_todo (d ∷ done) todo t there = in_todo done (d ∷ todo) t (inr there)

  pub in_done : (done todo : List Task) (t : Task) → In t done → In t (undo p q clients gives done todo)
  in_done [] todo t there = absurd there
  in_done (d ∷ done) todo t (inl same) = in_todo done (d ∷ todo) t (inl same)
  in_done (d ∷ done) todo t (inr there) = in_done done (d ∷ todo) t there

  pub listed : (cs : List (List Task)) (c : ℕ) (t : Task) → In t (get_or cs c []) → (ts : List Task) × (Rattle.std.specs.Prelude.slice_get cs c ≡ Some ts) × In t ts
  listed [] c t there = absurd there
  listed (ts ∷ cs) Rattle.std.proofs.Common.zero t there = (ts, refl, there)
  listed (ts ∷ cs) (Rattle.std.proofs.Common.suc c) t there = listed cs c t there

  error_code : (w : Scene) (id e : ℕ) → CauseOf p q clients gives w id e → IsErrorCode p q clients gives (code_of e)
  error_code w id e (of_expiry asked is born x) = inl (ap code_of is ∙ omega arith)
  error_code w id e (of_other x part there) = inr x

  -- for a seat that holds no id no slot was claimed
  pub free_unclaimed : (s : Slot) (bs : List Birth) (todo : List Task) (t : Task) → IsVacant s → bs ≡ [] → In t todo → In t (unclaimed p q clients gives s bs todo)
  free_unclaimed NoSlot bs todo t v is there = subst (λ xs. In t (ahead p q clients gives xs todo)) (sym is) there
  free_unclaimed (Leaves i) bs todo t v is there = subst (λ xs. In t (ahead p q clients gives xs todo)) (sym is) there
  free_unclaimed _ bs todo t v is there = absurd v

module _ (p : Plan) (q : IdPlan) (clients : List (List Task)) (gives : ℕ → List ℕ) (w w' : Scene) (ms : List Mark) (os : List (Option Outcome)) (ss : List Saying) (j : ℕ) (m : Mark) (plan : w.core.calls.plan ≡ q) (sized : length w.core.calls.words ≡ all_words q) (fits : SlotFits q w m.slot)
    (law : BirthsLaw p q clients gives w) (low : (k : ℕ) → k < q.slots → (word_at w k).first ≤ 67108856) (at : At ms j m) (tasks : TasksLaw p q clients gives w os ss ms) (claims : ClaimsLaw p q clients gives w ms) (reads : ReadsLaw p q clients gives w ms) (l : Later p q clients gives w w') where
  pub task_at : (k : ℕ) (n : Mark) (t : Task) → At ms k n → In t n.done → IsTaskOf p q clients gives k t
  task_at k n t there done = listed p q clients gives clients k t (subst (In t) (tasks.placed k n there) (in_done p q clients gives n.done n.todo t done))

  live_at : (i found : ℕ) → parts found ≡ word_at w i → 0 < (parts found).state → 0 < (word_at w i).state
  live_at i found is live = subst (λ (y : Parts). 0 < y.state) is live

  has_codes : (i found : ℕ) → i < q.slots → parts found ≡ word_at w i → (0 < (parts found).state → (parts found).oldest ≡ 0 → (parts found).second ≡ 0) → HasCodes p q clients gives found
  has_codes i found inside is oldest two second = let live : 0 < (parts found).state = omega (arith, two) in let e = law.errors i inside (live_at i found is live) in
      let some_ : (parts found).oldest ≢ 0 = λ z. second (oldest live z) in (
        subst (λ (y : Parts). IsErrorCode p q clients gives (code_of y.oldest)) (sym is) (error_code p q clients gives w (call_id i (word_at w i).first) (word_at w i).oldest (e.0 (subst (λ (y : Parts). y.oldest ≢ 0) is some_))),
        subst (λ (y : Parts). IsErrorCode p q clients gives (code_of y.second)) (sym is) (error_code p q clients gives w (call_id i (word_at w i).first) (word_at w i).second (e.1 (subst (λ (y : Parts). y.second ≢ 0) is second))),
      )

  -- ## A range that ends

  module _ (i found : ℕ) (b : IsBehind p q clients gives w w' m (EndId i) found) (knows : KnowsStep p q clients gives w (EndId i) found) (may : MayAside p q clients gives w m (EndId i)) (f : ℕ) (shape : Shape) (asked : Asked) (slot : m.slot ≡ Holds i f shape asked) where
    held : SlotFits q w (Holds i f shape asked)
    held = subst (SlotFits q w) slot fits

    small : f ≤ 67108856
    small = subst (λ n. n ≤ 67108856) held.3 (low i held.0)

    slot_is : id_slot (call_id i f) ≡ i
    slot_is = omega (arith, small)

    first_is : id_first (call_id i f) ≡ f
    first_is = omega (arith, small)

    there : In (record { id = call_id i f; asked = asked }) w.births
    there = let same : Holds i may.0 may.1 may.2 ≡ Holds i f shape asked = sym may.3 ∙ slot in let first : may.0 ≡ f = cc in let call : may.2 ≡ asked = cc in
        subst (λ a. In (record { id = call_id i f; asked = a }) w.births) call (subst (λ n. In (record { id = call_id i n; asked = may.2 }) w.births) first may.4)

    now : IsCurrent w (record { id = call_id i f; asked = asked })
    now = let x = law.born (record { id = call_id i f; asked = asked }) there in
        ⊎_elim (λ past. absurd (let two = x.1 in let first = held.3 in let z : id_first (call_id i f) + asked.range ≤ (word_at w i).first = subst (λ n. id_first (call_id i f) + asked.range ≤ (word_at w n).first) slot_is past in omega (arith, two, first, first_is, z))) (λ y. y) x.3

    ended : (word_at w' i).first ≡ (word_at w i).first + (word_at w i).range
    ended = let x = word_is p q clients gives w w' m plan i held.0 sized (packed (free_word ((parts found).first + (parts found).range))) b.words ∙ parts_packed (free_word ((parts found).first + (parts found).range)) (omega arith) (omega arith) (omega arith) (omega arith) (omega arith) (omega arith) in
        ap (λ (y : Parts). y.first) x ∙ ap (λ (y : Parts). y.first + y.range) knows.1

    used : EndedAt p q clients gives w' (record { id = call_id i f; asked = asked }) shape.attempt
    used = (
      l.born (call_id i f) asked there,
      subst (λ n. id_first (call_id i f) + asked.range ≤ (word_at w' n).first) (sym slot_is)
          (let one = held.3 in let range : (word_at w i).range ≡ asked.range = subst (λ n. (word_at w n).range ≡ asked.range) slot_is now.2 in omega (arith, ended, one, range, first_is)),
      ap (times asked.operation) b.advances ∙ (sym (law.attempts (record { id = call_id i f; asked = asked }) there now) ∙ (ap (λ n. (word_at w n).attempt) slot_is ∙ held.5)),
    )

  -- ## Each step

  pub moves : (step : Step) (found : Found step) → IsBehind p q clients gives w w' m step found → KnowsStep p q clients gives w step found → MayAside p q clients gives w m step → Moves p q clients gives w' m step found (mark_after p q clients gives step found m)
  moves (ClaimId i) found b knows may = (
    (λ z. ap (λ c. cond c (with_slot (Claims i None) m) m) (eq-eqb found 0 z)),
    (λ ne. (
      ap (λ c. cond c (with_slot (Claims i None) m) m) (ne_eqb found 0 ne),
      λ t ts todo. let x = claims.taken i knows.0 (λ e. ne (knows.1 ∙ e)) in (x.0, l.claimed i x.0 x.1, λ same. claims.free j m t at (free_unclaimed p q clients gives m.slot m.makes m.todo t may.0.0 may.0.2 (subst (In t) (sym todo) (inl refl))) i (subst (λ n. In (record { slot = i; operation = n }) w.claims) same x.1)),
    )),
  )
  moves (MakeId i range) found b knows may = λ asked slot. (
    ap (λ s. with_made (born_by p q clients gives (call_id i (parts found).first) (put_of p q clients gives s)) (with_slot NoSlot m)) slot,
    subst (In (record { id = call_id i (parts found).first; asked = asked })) (sym (b.births ∙ ap (λ s. born_by p q clients gives (call_id i (parts found).first) (put_of p q clients gives s) ++ w.births) slot)) (inl refl),
  )
  moves (StoreCall o id) found b knows may = λ t ts todo. (ap (λ us. stored_by p q clients gives us m) todo, λ e. knows.1 (sym (stored_is p q clients gives w w' m plan sized fits law low o id knows.0 b.words) ∙ e))
  moves (LoadCall o) found b knows may = (
    refl,
    (λ some_. let c = tasks.called o knows.0 (λ e. some_ (knows.1 ∙ e)) in (
      (
        c.4,
        c.6,
        c.0.id,
        c.0.asked,
        task_at c.4 c.5 c.6 c.7 c.8,
        c.9,
        c.10,
        c.3,
        l.born c.0.id c.0.asked c.1,
        λ same. subst (λ (n : Mark). In c.6 n.done) (some-injective c.5 m (sym c.7 ∙ (ap (get_elem? ms) (same ∙ tasks.client j m at) ∙ at))) c.8,
      ),
      (c.0.asked, subst (λ n. IsBorn w' n c.0.asked) (c.2 ∙ sym knows.1) (l.born c.0.id c.0.asked c.1), c.3),
    )),
    (λ none_. ((λ begun. begun (ap (λ ws. get_or ws (call_index q o) 0) b.words ∙ (sym knows.1 ∙ none_))), are_told_on p q clients gives w w' l m.client m.done (tasks.told j m at))),
  )
  moves (LoadAt o) found b knows may = (refl, subst (λ n. at_word_attempt n ≤ 6) (sym knows.1) (law.ats o knows.0))
  moves (LoadIdWord i) found b knows may = (refl, has_codes i found knows.0.0 knows.0.1 knows.1)
  moves (LockId i from) found b knows may = let x : Mark = with_slot (Locked i (parts from).first (shape_of (parts from))) m in ((λ same. ap (λ c. cond c x m) (eq-eqb found from same)), (λ ne. ap (λ c. cond c x m) (ne_eqb found from ne)))
  moves (PostId i from e) found b knows may = let x : Mark = with_slot (Locked i (parts from).first (shape_of (parts from))) m in let y : Mark = cond (eqb (parts from).state 1) x m in (
    (λ same one. ap (λ c. cond c y m) (eq-eqb found from same) ∙ ap (λ c. cond c x m) (eq-eqb (parts from).state 1 one)),
    (λ same other. ap (λ c. cond c y m) (eq-eqb found from same) ∙ ap (λ c. cond c x m) (ne_eqb (parts from).state 1 other)),
    (λ ne. (ap (λ c. cond c y m) (ne_eqb found from ne), has_codes i found knows.0.0 knows.0.1 knows.4)),
    (λ same. subst (In (record { id = call_id i (parts from).first; error = e })) (sym (b.posts ∙ ap (λ (c : Bool). cond c ((record { id = call_id i (parts from).first; error = e }) ∷ []) [] ++ w.posts) (eq-eqb found from same))) (inl refl)),
  )
  moves (UnlockId i from advance) found b knows may = let x : Mark = with_slot NoSlot m in let z : Mark = with_slot (with_attempt (parts (unlocked_by from advance)).attempt m.slot) m in let y : Mark = cond (eqb (parts from).oldest 0) x z in (
    (λ same none_. ap (λ c. cond c y m) (eq-eqb found from same) ∙ ap (λ c. cond c x z) (eq-eqb (parts from).oldest 0 none_)),
    (λ same some_. (
      ap (λ c. cond c y m) (eq-eqb found from same) ∙ ap (λ c. cond c x z) (ne_eqb (parts from).oldest 0 some_),
      λ f shape slot.
          let held : SlotFits q w (Locked i f shape) = subst (SlotFits q w) slot fits in
          let is : parts from ≡ word_at w i = ap parts (sym same) ∙ knows.0.1 in
          let e = law.errors i held.0 (let z = held.2 in omega (arith, z)) in
          let packed_is = parts_packed (unlocked_word (parts from) (bit advance)) (state_fits (eqb (parts from).oldest 0)) (omega arith) (omega arith) (let z = knows.2 in omega (arith, z)) (omega arith) (omega arith) in (
            subst (λ n. CauseOf p q clients gives w' (call_id i f) n) (sym (ap (λ (z : Parts). z.oldest) is))
                (subst (λ n. CauseOf p q clients gives w' (call_id i n) (word_at w i).oldest) held.3 (cause_on p q clients gives w w' l (call_id i (word_at w i).first) (word_at w i).oldest (e.0 (subst (λ (z : Parts). z.oldest ≢ 0) is some_)))),
            ap (λ (z : Parts). z.range) packed_is ∙ (ap (λ (z : Parts). z.range) is ∙ held.4),
          ),
    )),
    (λ ne. ap (λ c. cond c y m) (ne_eqb found from ne)),
  )
    where
      state_fits : (c : Bool) → cond c 1 2 < 4
      state_fits true = omega arith
      state_fits false = omega arith
  moves (EndId i) found b knows may = λ f shape asked slot. (ap (λ s. with_owed (ended_of p q clients gives s) (with_slot (Leaves i) m)) slot, used i found b knows may f shape asked slot)
  moves (TakeCall i) found b knows may = (refl, taken)
    where
      taken : (f : ℕ) (shape : Shape) → m.slot ≡ Locked i f shape → IsBorn w' (call_id i f) found × (found.range ≡ shape.range)
      taken f shape slot =
          let held : SlotFits q w (Locked i f shape) = subst (SlotFits q w) slot fits in
          let live : 0 < (word_at w i).state = let z = held.2 in omega (arith, z) in
          let there = law.homes i found knows.0 live knows.1 in
          let x = law.born (record { id = call_id i (word_at w i).first; asked = found }) there in
          let small = low i knows.0 in
          let slot_is : id_slot (call_id i (word_at w i).first) ≡ i = omega (arith, small) in
          let first_is : id_first (call_id i (word_at w i).first) ≡ (word_at w i).first = omega (arith, small) in (
            l.born (call_id i f) found (subst (λ n. IsBorn w (call_id i n) found) held.3 there),
            ⊎_elim (λ passed. absurd (let z : id_first (call_id i (word_at w i).first) + found.range ≤ (word_at w i).first = subst (λ n. id_first (call_id i (word_at w i).first) + found.range ≤ (word_at w n).first) slot_is passed in let two = x.1 in omega (arith, z, first_is, two)))
                (λ now. sym (subst (λ n. (word_at w n).range ≡ found.range) slot_is now.2) ∙ held.4) x.3,
          )
  moves (TakeBytes k room) (Bytes bytes) b knows may = (refl, λ own. ap (λ g. get_or g k []) b.gave ∙ (get_or-set_same w.core.calls.gave k (get_or w.core.calls.gave k [] ++ bytes) [] knows ∙ ap (λ xs. xs ++ bytes) (reads.bytes j k m at own)))
  moves (TakeBytes k room) asides.Nothing b knows may = (refl, λ own. ap (λ g. get_or g k []) b.gave ∙ reads.bytes j k m at own)
  moves (TakeBytes k room) asides.NoMore b knows may = (refl, λ own. ap (λ g. get_or g k []) b.gave ∙ reads.bytes j k m at own)
  moves (TakeBytes k room) asides.AtEnd b knows may = (refl, λ own. ap (λ g. get_or g k []) b.gave ∙ reads.bytes j k m at own)
  moves (TakeBytes k room) asides.Closed b knows may = (refl, λ own. ap (λ g. get_or g k []) b.gave ∙ reads.bytes j k m at own)
  moves (TakeBytes k room) asides.Broken b knows may = (refl, λ own. ap (λ g. get_or g k []) b.gave ∙ reads.bytes j k m at own)
  moves _ found b knows may = refl
