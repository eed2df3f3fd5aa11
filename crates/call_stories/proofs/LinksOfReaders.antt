-- What each reader has of its link is what the link gave, behind a step aside of any seat.
use Rattle.std.proofs.Common.{◌≡◌, ◌≢◌, ℕ, ◌+◌, ◌<◌, ⊎_elim, Bool, true, false, cond, eqb, List, [], ◌∷◌, ◌++◌, length, length-set, get_or, set, get_or-set_other, get_or-set_same, refl, sym, ap, ◌∙◌, subst, arith}
use Rattle.atomic_table.proofs.Lists.{at_set}
use Rattle.sock_words.specs.declared.plain.Plan.{Plan}
use Rattle.corr_core.specs.IdSlotWord.{parts}
use Rattle.corr_core.specs.declared.marks.Plan.{Plan as IdPlan}
use Rattle.seat_programs.specs.declared.task.Task.{Task}
use Rattle.seat_programs.specs.Asides.{Step, ClaimId, PutCall, MakeId, StoreCall, LockId, PostId, UnlockId, EndId, FreeId, TakeCall, TakeBytes, Bytes, Found}
use Rattle.seat_programs.specs.Asides as asides
use Rattle.call_stories.specs.LinkReadingLists.{gave_in}
use Rattle.call_stories.specs.Scenes.{Scene}
use Rattle.call_stories.specs.Says.{with_attempt, unlocked_by, shape_of, NoSlot, Claims, Locked, Mark, with_slot, MayAside}
use Rattle.call_stories.specs.CallStories.{At, ReadsLaw, IsBehind, KnowsStep, stored_by, mark_after}

module _ (p : Plan) (q : IdPlan) (clients : List (List Task)) (gives : ℕ → List ℕ) (w w' : Scene) (ms : List Mark) (j : ℕ) (m : Mark) (at : At ms j m) (reads : ReadsLaw p q clients gives w ms) where
  abbrev Behind : (step : Step) → Found step → Type 0
  Behind step found = IsBehind p q clients gives w w' m step found

  -- of the seat's link, and of the others
  either : (P : ℕ → Mark → Type 0) (m' : Mark) → P j m' → ((l : ℕ) (n : Mark) → l ≢ j → At ms l n → P l n) → (l : ℕ) (n : Mark) → At (set ms j m') l n → P l n
  either P m' own other l n there = ⊎_elim (λ x. subst (λ k. P k n) (sym x.0) (subst (P j) x.1 own)) (λ x. other l n x.0 x.1) (at_set ms j l m' n there)

  -- where no link gave anything
  same_reads : w'.core.calls.gave ≡ w.core.calls.gave → (m' : Mark) → m'.link ≡ m.link → m'.bytes ≡ m.bytes → ReadsLaw p q clients gives w' (set ms j m')
  same_reads same m' link bytes = record {
    bytes = λ l k n there own. either (λ l n. n.link ≡ k ∷ [] → gave_in w'.core k ≡ n.bytes) m' (λ x. ap (λ g. get_or g k []) same ∙ (reads.bytes j k m at (sym link ∙ x) ∙ sym bytes)) (λ l n ne there x. ap (λ g. get_or g k []) same ∙ reads.bytes l k n there x) l n there own;
    tied = λ l k n there own. either (λ l n. n.link ≡ k ∷ [] → l ≡ 32 + k) m' (λ x. reads.tied j k m at (sym link ∙ x)) (λ l n ne there x. reads.tied l k n there x) l n there own;
    inside = λ l k n there own. either (λ l n. n.link ≡ k ∷ [] → k < length w'.core.calls.gave) m' (λ x. subst (λ g. k < length g) (sym same) (reads.inside j k m at (sym link ∙ x))) (λ l n ne there x. subst (λ g. k < length g) (sym same) (reads.inside l k n there x)) l n there own;
  }

  tested : (c : Bool) (n : Mark) → n.link ≡ m.link → n.bytes ≡ m.bytes → ((cond c n m).link ≡ m.link) × ((cond c n m).bytes ≡ m.bytes)
  tested true n a b = (a, b)
  tested false n a b = (refl, refl)

  either_of : (c : Bool) (n o : Mark) → n.link ≡ m.link → n.bytes ≡ m.bytes → o.link ≡ m.link → o.bytes ≡ m.bytes → ((cond c n o).link ≡ m.link) × ((cond c n o).bytes ≡ m.bytes)
  either_of true n o a b d e = (a, b)
  either_of false n o a b d e = (d, e)

  stored : (ts : List Task) → ((stored_by p q clients gives ts m).link ≡ m.link) × ((stored_by p q clients gives ts m).bytes ≡ m.bytes)
  stored [] = (refl, refl)
  stored (t ∷ ts) = (refl, refl)

  more_reads : (k : ℕ) (bytes : List ℕ) → k < length w.core.calls.gave → w'.core.calls.gave ≡ set w.core.calls.gave k (get_or w.core.calls.gave k [] ++ bytes) → (m' : Mark) → m.link ≡ k ∷ [] → m'.link ≡ m.link → m'.bytes ≡ m.bytes ++ bytes → ReadsLaw p q clients gives w' (set ms j m')
  more_reads k bytes low gave m' mine link is = record {
    bytes = λ l i n there own. either (λ l n. n.link ≡ i ∷ [] → gave_in w'.core i ≡ n.bytes) m'
        (λ x. let e : k ∷ [] ≡ i ∷ [] = sym mine ∙ (sym link ∙ x) in let same : k ≡ i = cc in
        subst (λ a. gave_in w'.core a ≡ m'.bytes) same (ap (λ g. get_or g k []) gave ∙ (get_or-set_same w.core.calls.gave k (get_or w.core.calls.gave k [] ++ bytes) [] low ∙ (ap (λ xs. xs ++ bytes) (reads.bytes j k m at mine) ∙ sym is))))
        (λ l n ne there x. ap (λ g. get_or g i []) gave ∙ (get_or-set_other w.core.calls.gave k i (get_or w.core.calls.gave k [] ++ bytes) [] (λ e. ne (reads.tied l i n there x ∙ (ap (λ a. 32 + a) e ∙ sym (reads.tied j k m at mine)))) ∙ reads.bytes l i n there x)) l n there own;
    tied = λ l i n there own. either (λ l n. n.link ≡ i ∷ [] → l ≡ 32 + i) m' (λ x. reads.tied j i m at (sym link ∙ x)) (λ l n ne there x. reads.tied l i n there x) l n there own;
    inside = λ l i n there own. either (λ l n. n.link ≡ i ∷ [] → i < length w'.core.calls.gave) m' (λ x. long i (reads.inside j i m at (sym link ∙ x))) (λ l n ne there x. long i (reads.inside l i n there x)) l n there own;
  }
    where
      long : (i : ℕ) → i < length w.core.calls.gave → i < length w'.core.calls.gave
      long i less = let e : length w'.core.calls.gave ≡ length w.core.calls.gave = ap length gave ∙ length-set w.core.calls.gave k (get_or w.core.calls.gave k [] ++ bytes) in omega (arith, less, e)

  pub reads_after_step : (step : Step) (found : Found step) → Behind step found → KnowsStep p q clients gives w step found → MayAside p q clients gives w m step → ReadsLaw p q clients gives w' (set ms j (mark_after p q clients gives step found m))
  reads_after_step (TakeBytes k room) (Bytes bytes) b knows may = more_reads k bytes knows b.gave (mark_after p q clients gives (TakeBytes k room) (Bytes bytes) m) may refl refl
  reads_after_step (TakeBytes k room) asides.Nothing b knows may = same_reads b.gave m refl refl
  reads_after_step (TakeBytes k room) asides.NoMore b knows may = same_reads b.gave m refl refl
  reads_after_step (TakeBytes k room) asides.AtEnd b knows may = same_reads b.gave m refl refl
  reads_after_step (TakeBytes k room) asides.Closed b knows may = same_reads b.gave m refl refl
  reads_after_step (TakeBytes k room) asides.Broken b knows may = same_reads b.gave m refl refl
  reads_after_step (ClaimId i) found b knows may = let z = tested (eqb found 0) (with_slot (Claims i Rattle.std.proofs.Common.None) m) refl refl in same_reads b.gave (mark_after p q clients gives (ClaimId i) found m) z.0 z.1
  reads_after_step (PutCall i asked) found b knows may = same_reads b.gave (mark_after p q clients gives (PutCall i asked) found m) refl refl
  reads_after_step (MakeId i range) found b knows may = same_reads b.gave (mark_after p q clients gives (MakeId i range) found m) refl refl
  reads_after_step (StoreCall o id) found b knows may = let z = stored m.todo in same_reads b.gave (mark_after p q clients gives (StoreCall o id) found m) z.0 z.1
  reads_after_step (LockId i from) found b knows may = let z = tested (eqb found from) (with_slot (Locked i (parts from).first (shape_of (parts from))) m) refl refl in same_reads b.gave (mark_after p q clients gives (LockId i from) found m) z.0 z.1
  reads_after_step (PostId i from e) found b knows may = let x = tested (eqb (parts from).state 1) (with_slot (Locked i (parts from).first (shape_of (parts from))) m) refl refl in
      let z = tested (eqb found from) (cond (eqb (parts from).state 1) (with_slot (Locked i (parts from).first (shape_of (parts from))) m) m) x.0 x.1 in same_reads b.gave (mark_after p q clients gives (PostId i from e) found m) z.0 z.1
  reads_after_step (UnlockId i from advance) found b knows may = let y : Mark = with_slot (with_attempt (parts (unlocked_by from advance)).attempt m.slot) m in let x = either_of (eqb (parts from).oldest 0) (with_slot NoSlot m) y refl refl refl refl in let z = tested (eqb found from) (cond (eqb (parts from).oldest 0) (with_slot NoSlot m) y) x.0 x.1 in same_reads b.gave (mark_after p q clients gives (UnlockId i from advance) found m) z.0 z.1
  reads_after_step (EndId i) found b knows may = same_reads b.gave (mark_after p q clients gives (EndId i) found m) refl refl
  reads_after_step (FreeId i) found b knows may = same_reads b.gave (mark_after p q clients gives (FreeId i) found m) refl refl
  reads_after_step (TakeCall i) found b knows may = same_reads b.gave (mark_after p q clients gives (TakeCall i) found m) refl refl
  reads_after_step _ found b knows may = same_reads b.gave m refl refl
