-- Behind a step aside each seat still has what its mark says of an id slot, and no other seat has it.
use Rattle.std.proofs.Common.{◌≡◌, ◌≢◌, ℕ, ◌⊎◌, inl, inr, ⊎_elim, Bool, true, false, cond, eqb, eqb-true, List, [], ◌∷◌, length, set, None, refl, sym, ap, ◌∙◌, subst}
use Rattle.atomic_table.proofs.Lists.{at_set}
use Rattle.sock_words.specs.declared.plain.Plan.{Plan}
use Rattle.corr_core.specs.IdSlotWord.{Parts, parts}
use Rattle.corr_core.specs.declared.marks.Plan.{Plan as IdPlan}
use Rattle.seat_programs.specs.id_rule.specs.LawfulIdTable.{all_words}
use Rattle.sock_message.specs.Asked.{Asked}
use Rattle.seat_programs.specs.declared.task.Task.{Task}
use Rattle.seat_programs.specs.Asides.{Step, ClaimId, PutCall, MakeId, StoreCall, StoreAt, LockId, PostId, UnlockId, EndId, FreeId, TakeCall, TakeBytes, Bytes, Found}
use Rattle.seat_programs.specs.Asides as asides
use Rattle.call_stories.specs.Scenes.{Scene}
use Rattle.call_stories.specs.Says.{shape_of, with_attempt, unlocked_by, Slot, NoSlot, Claims, Locked, Mark, with_slot, put_in, taken_out, MayAside}
use Rattle.call_stories.specs.CallStories.{At, word_at, tag_at, InSlot, SlotsLaw, IsBehind, KnowsStep, mark_after, stored_by}
use Rattle.story_steps.proofs.IdSlotsBehindAsides.{like_fits, in_tag, other_like, own_fits}

put_slot : (asked : Asked) (k : ℕ) (s : Slot) → InSlot k (put_in asked s) → InSlot k s
put_slot asked k NoSlot x = x
put_slot asked k _ x = x

attempt_slot : (n k : ℕ) (s : Slot) → InSlot k (with_attempt n s) → InSlot k s
attempt_slot n k NoSlot x = x
attempt_slot n k _ x = x

taken_slot : (asked : Asked) (k : ℕ) (s : Slot) → InSlot k (taken_out asked s) → InSlot k s
taken_slot asked k NoSlot x = x
taken_slot asked k _ x = x

module _ (p : Plan) (q : IdPlan) (clients : List (List Task)) (gives : ℕ → List ℕ) (w w' : Scene) (ms : List Mark) (j : ℕ) (m : Mark) (plan : w.core.calls.plan ≡ q) (sized : length w.core.calls.words ≡ all_words q) (law : SlotsLaw q w ms) (at : At ms j m) where
  -- no other seat has something of the slot
  abbrev IsNew : ℕ → Type 0
  IsNew k = (l : ℕ) (n : Mark) → At ms l n → InSlot k n.slot → ⊥

  untaken : (k : ℕ) → tag_at w k ≡ 0 → IsNew k
  untaken k free = λ l n there x. (in_tag q w n.slot k (law.fits l n there) x).0 free

  unlocked : (k : ℕ) → (word_at w k).state ≡ 1 → IsNew k
  unlocked k one = λ l n there x. (in_tag q w n.slot k (law.fits l n there) x).1 one

  state_found : (i from found : ℕ) → found ≡ from → (parts from).state ≡ 1 → parts found ≡ word_at w i → (word_at w i).state ≡ 1
  state_found i from found same one is = ap (λ (y : Parts). y.state) (sym is) ∙ (ap (λ n. (parts n).state) same ∙ one)

  new_slot : (step : Step) (found : Found step) → KnowsStep p q clients gives w step found → MayAside p q clients gives w m step → (k : ℕ) → InSlot k (mark_after p q clients gives step found m).slot → InSlot k m.slot ⊎ IsNew k
  new_slot (ClaimId i) found knows may k = by_found (eqb found 0) refl
    where
      by_found : (c : Bool) → eqb found 0 ≡ c → InSlot k (cond c (with_slot (Claims i None) m) m).slot → InSlot k m.slot ⊎ IsNew k
      by_found true is x = inr (subst IsNew x (untaken i (sym knows.1 ∙ eqb-true found 0 is)))
      by_found false is x = inl x
  new_slot (PutCall i asked) found knows may k = λ x. inl (put_slot asked k m.slot x)
  new_slot (MakeId i range) found knows may k = λ x. absurd x
  new_slot (StoreCall o id) found knows may k = by_todo m.todo
    where
      by_todo : (ts : List Task) → InSlot k (stored_by p q clients gives ts m).slot → InSlot k m.slot ⊎ IsNew k
      by_todo [] x = inl x
      by_todo (t ∷ ts) x = inl x
  new_slot (LockId i from) found knows may k = by_found (eqb found from) refl
    where
      by_found : (c : Bool) → eqb found from ≡ c → InSlot k (cond c (with_slot (Locked i (parts from).first (shape_of (parts from))) m) m).slot → InSlot k m.slot ⊎ IsNew k
      by_found true is x = inr (subst IsNew x (unlocked i (state_found i from found (eqb-true found from is) knows.1 knows.0.1)))
      by_found false is x = inl x
  new_slot (PostId i from e) found knows may k = by_found (eqb found from) (eqb (parts from).state 1) refl refl
    where
      by_found : (c d : Bool) → eqb found from ≡ c → eqb (parts from).state 1 ≡ d → InSlot k (cond c (cond d (with_slot (Locked i (parts from).first (shape_of (parts from))) m) m) m).slot → InSlot k m.slot ⊎ IsNew k
      by_found true true is one x = inr (subst IsNew x (unlocked i (state_found i from found (eqb-true found from is) (eqb-true (parts from).state 1 one) knows.0.1)))
      by_found true false is one x = inl x
      by_found false d is one x = inl x
  new_slot (UnlockId i from advance) found knows may k = by_found (eqb found from) (eqb (parts from).oldest 0)
    where
      by_found : (c d : Bool) → InSlot k (cond c (cond d (with_slot NoSlot m) (with_slot (with_attempt (parts (unlocked_by from advance)).attempt m.slot) m)) m).slot → InSlot k m.slot ⊎ IsNew k
      by_found true true x = absurd x
      by_found true false x = inl (attempt_slot (parts (unlocked_by from advance)).attempt k m.slot x)
      by_found false d x = inl x
  new_slot (EndId i) found knows may k = λ x. inl (subst (InSlot k) (sym may.3) x)
  new_slot (FreeId i) found knows may k = λ x. absurd x
  new_slot (TakeCall i) found knows may k = λ x. inl (taken_slot found k m.slot x)
  new_slot (TakeBytes l room) (Bytes bytes) knows may k = λ x. inl x
  new_slot (TakeBytes l room) asides.Nothing knows may k = λ x. inl x
  new_slot (TakeBytes l room) asides.NoMore knows may k = λ x. inl x
  new_slot (TakeBytes l room) asides.AtEnd knows may k = λ x. inl x
  new_slot (TakeBytes l room) asides.Closed knows may k = λ x. inl x
  new_slot (TakeBytes l room) asides.Broken knows may k = λ x. inl x
  new_slot (StoreAt o x) found knows may k = λ x. inl x
  new_slot _ found knows may k = λ x. inl x

  pub slots_after : (step : Step) (found : Found step) → IsBehind p q clients gives w w' m step found → KnowsStep p q clients gives w step found → MayAside p q clients gives w m step → SlotsLaw q w' (set ms j (mark_after p q clients gives step found m))
  slots_after step found b knows may = record { fits = fits; single = single }
    where
      fits : (l : ℕ) (n : Mark) → At (set ms j (mark_after p q clients gives step found m)) l n → Rattle.call_stories.specs.CallStories.SlotFits q w' n.slot
      fits l n e = ⊎_elim (λ x. subst (λ (y : Mark). Rattle.call_stories.specs.CallStories.SlotFits q w' y.slot) x.1 (own_fits p q clients gives w w' m plan sized step found b knows may (law.fits j m at)))
          (λ x. like_fits q w w' n.slot (other_like p q clients gives w w' m plan sized step found b knows may n.slot (law.fits l n x.1) (λ k a c. x.0 (law.single l j k n m x.1 at a c))) (law.fits l n x.1))
          (at_set ms j l (mark_after p q clients gives step found m) n e)

      -- the seat itself beside another one
      beside_own : (l k : ℕ) (n : Mark) → l ≢ j → At ms l n → InSlot k (mark_after p q clients gives step found m).slot → InSlot k n.slot → ⊥
      beside_own l k n ne there own other = ⊎_elim (λ x. ne (law.single l j k n m there at other x)) (λ x. x l n there other) (new_slot step found knows may k own)

      single : (a c k : ℕ) (x y : Mark) → At (set ms j (mark_after p q clients gives step found m)) a x → At (set ms j (mark_after p q clients gives step found m)) c y → InSlot k x.slot → InSlot k y.slot → a ≡ c
      single a c k x y e f s t = ⊎_elim
          (λ u. ⊎_elim (λ v. u.0 ∙ sym v.0) (λ v. absurd (beside_own c k y v.0 v.1 (subst (λ (z : Mark). InSlot k z.slot) (sym u.1) s) t)) (at_set ms j c (mark_after p q clients gives step found m) y f))
          (λ u. ⊎_elim (λ v. absurd (beside_own a k x u.0 u.1 (subst (λ (z : Mark). InSlot k z.slot) (sym v.1) t) s)) (λ v. law.single a c k x y u.1 v.1 s t) (at_set ms j c (mark_after p q clients gives step found m) y f))
          (at_set ms j a (mark_after p q clients gives step found m) x e)
