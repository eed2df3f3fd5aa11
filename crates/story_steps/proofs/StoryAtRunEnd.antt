-- Where a run has ended: each task on calls has its outcome, each call that had an id ended by a cause, and no two calls share a version.
use Rattle.std.proofs.Common.{◌≡◌, ◌≢◌, ℕ, zero, suc, ◌+◌, ◌<◌, ◌≤◌, ◌⊎◌, inl, inr, ⊎_elim, List, [], ◌∷◌, length, get_or, slice_get, slice_index_or, None, Some, sym, ap, ◌∙◌, subst, arith}
use Rattle.sock_words.specs.declared.plain.Plan.{Plan}
use Rattle.sock_words.specs.declared.outcome.Outcome.{Outcome}
use Rattle.sock_words.specs.declared.outcome.Outcome.TheVariants as outcomes
use Rattle.seat_programs.specs.brpc_model.specs.Frame.{Frame}
use Rattle.seat_programs.specs.brpc_model.specs.MessageOfLabel.{shown_id}
use Rattle.corr_core.specs.declared.marks.Plan.{Plan as IdPlan}
use Rattle.sock_message.specs.Asked.{Asked}
use Rattle.seat_programs.specs.declared.task.Op.TheVariants as ops
use Rattle.seat_programs.specs.declared.task.Task.{Task}
use Rattle.seat_programs.specs.Explained.{IsTask, Became}
use Rattle.seat_programs.specs.ExplainedCalls.{Fixed, Order, IsAnsweredBy}
use Rattle.call_stories.specs.LinkReadingLists.{gave_in}
use Rattle.call_stories.specs.Target.{IsOnCalls}
use Rattle.call_stories.specs.Scenes.{Birth, Scene, IsAnsweredIn, WhyEnded, WhyOwn, ToldOf, was_said, was_sent, was_begun, AreTold}
use Rattle.call_stories.specs.Says.{Mark}
use Rattle.call_stories.specs.CallStories.{At, word_at, undo, BirthsLaw, TasksLaw}
use Rattle.story_steps.proofs.BirthTicks.{two_of}
use Rattle.call_stories.specs.Below.outcome_stories.specs.OperationStories.{In}
use Rattle.sock_words.specs.PackedWords.{id_slot}

-- ## Lists

pub contains_in : {A : Type 0} (xs : List A) (x : A) (k : ℕ) → k < length xs → slice_index_or xs k x ≡ x → In x xs
contains_in [] x k low is = absurd (omega (arith, low))
contains_in (y ∷ ys) x zero low is = inl (sym is)
contains_in (y ∷ ys) x (suc k) low is = inr (contains_in ys x k (omega (arith, low)) is)

pub listed_or : {A : Type 0} (xs : List (List A)) (c : ℕ) (ys : List A) → slice_get xs c ≡ Some ys → get_or xs c [] ≡ ys
listed_or [] c ys is = absurd (let z : None ≡ Some ys = is in cc)
listed_or (x ∷ xs) zero ys is = let e : x ≡ ys = cc in e
listed_or (x ∷ xs) (suc c) ys is = listed_or xs c ys is

module _ (p : Plan) (q : IdPlan) (clients : List (List Task)) (gives : ℕ → List ℕ) where
  pub undo_done : (done todo : List Task) (t : Task) → In t (undo p q clients gives done todo) → In t done ⊎ In t todo
  undo_done [] todo t there = inr there
  undo_done (d ∷ done) todo t there = ⊎_elim (λ x. inl (inr x)) (λ x. ⊎_elim (λ same. inl (inl same)) (λ y. inr y) x) (undo_done done (d ∷ todo) t there)

  -- the story at the end of a run: nothing is left to do, and no id is left
  pub record HasEnded (w : Scene) (ms : List Mark) : Type 0 where
    pub births : BirthsLaw p q clients gives w
    pub tasks : TasksLaw p q clients gives w w.core.outcomes w.sayings ms
    pub idle : (j : ℕ) (m : Mark) → At ms j m → (m.todo ≡ []) × (m.owes ≡ [])
    pub free : (i : ℕ) → i < q.slots → (word_at w i).state ≡ 0
    pub seated : (c : ℕ) (ts : List Task) → slice_get clients c ≡ Some ts → (m : Mark) × At ms c m

  module _ (w : Scene) (ms : List Mark) (e : HasEnded w ms) where
    abbrev Has : ℕ → Outcome → Type 0
    Has o x = Became clients w.core.outcomes o x

    pub one_outcome : (o : ℕ) (x y : Outcome) → Has o x → Has o y → x ≡ y
    one_outcome o x y a b = let z : Some (Some x) ≡ Some (Some y) = sym a ∙ b in cc

    -- each call that had an id ended by a cause
    pub ended_call : (c : Birth) → In c w.births → (x : Outcome) × Has c.asked.operation x × WhyEnded p q clients gives w c x
    ended_call c there = let y = e.births.born c there in
        ⊎_elim (λ over. ⊎_elim (λ x. (x.0, e.tasks.said c.asked.operation x.0 x.1, x.2)) (λ x. absurd (let z : [] ≡ c ∷ [] = sym (e.idle x.0 x.1 x.2).1 ∙ x.3 in cc)) (e.tasks.ended c there over))
        (λ now. absurd (let live = now.1 in let none_ = e.free (id_slot c.id) y.0 in omega (arith, live, none_))) y.3

    told_at : (c : ℕ) (ts : List Task) (t : Task) → AreTold p q clients gives w c ts → In t ts → (before : List Task) × ToldOf p q clients gives w c before t
    told_at c [] t all there = absurd there
    told_at c (u ∷ us) t all (inl same) = (us, subst (ToldOf p q clients gives w c us) (sym same) all.0)
    told_at c (u ∷ us) t all (inr there) = told_at c us t all.1 there

    -- what became of a task
    became : (c : ℕ) (t : Task) → IsTask clients w.core.outcomes c t → (before : List Task) × ToldOf p q clients gives w c before t
    became c t is =
        let s = e.seated c is.0 is.1 in
        let there : In t (undo p q clients gives s.0.done s.0.todo) = subst (In t) (sym (e.tasks.placed c s.0 s.1 ∙ listed_or clients c is.0 is.1)) (contains_in is.0 t is.2.0 is.2.1 is.2.2) in
        let done : In t s.0.done = ⊎_elim (λ x. x) (λ x. absurd (subst (In t) (e.idle c s.0 s.1).0 x)) (undo_done s.0.done s.0.todo t there) in
        told_at c s.0.done t (subst (λ n. AreTold p q clients gives w n s.0.done) (e.tasks.client c s.0 s.1) (e.tasks.told c s.0 s.1)) done

    -- each task on calls has an outcome
    pub told : (c : ℕ) (t : Task) → IsTask clients w.core.outcomes c t → IsOnCalls t.op → (x : Outcome) × Has t.number x
    told c t is on = let y = became c t is in by_told y.0 y.1
      where
        by_told : (before : List Task) → ToldOf p q clients gives w c before t → (x : Outcome) × Has t.number x
        by_told before (was_said x s why just) = (x, e.tasks.said t.number x s)
        by_told before (was_sent n bytes op named) = absurd (subst IsOnCalls op on)
        by_told before (was_begun id asked op own born begun named) = let z = ended_call (record { id = id; asked = asked }) born in (z.0, subst (λ o. Has o z.0) (sym own) z.1)

    -- a call found no socket, or had an id, and then its outcome has its cause
    pub call_of : (c : ℕ) (t : Task) (asked : Asked) (x : Outcome) → IsTask clients w.core.outcomes c t → t.op ≡ ops.Call asked → Has t.number x
        → ((before : List Task) × WhyOwn p q clients gives w c before (ops.Call asked) x) ⊎ ((id : ℕ) × In (record { id = id; asked = asked }) w.births × WhyEnded p q clients gives w (record { id = id; asked = asked }) x × (t.number ≡ asked.operation))
    call_of c t asked x is op has = let y = became c t is in by_told y.0 y.1
      where
        by_told : (before : List Task) → ToldOf p q clients gives w c before t → ((before : List Task) × WhyOwn p q clients gives w c before (ops.Call asked) x) ⊎ ((id : ℕ) × In (record { id = id; asked = asked }) w.births × WhyEnded p q clients gives w (record { id = id; asked = asked }) x × (t.number ≡ asked.operation))
        by_told before (was_said y s why just) = inl (before, subst (λ o. WhyOwn p q clients gives w c before o x) op (subst (WhyOwn p q clients gives w c before t.op) (one_outcome t.number y x (e.tasks.said t.number y s) has) why))
        by_told before (was_sent n bytes sent named) = absurd (let z : ops.Send n bytes ≡ ops.Call asked = sym sent ∙ op in cc)
        by_told before (was_begun id a call own born begun named) =
            let same_op : ops.Call a ≡ ops.Call asked = sym call ∙ op in
            let same : a ≡ asked = cc in
            let z = ended_call (record { id = id; asked = a }) born in
            inr (
              id,
              subst (λ v. In (record { id = id; asked = v }) w.births) same born,
              subst (λ v. WhyEnded p q clients gives w (record { id = id; asked = v }) x) same (subst (WhyEnded p q clients gives w (record { id = id; asked = a })) (one_outcome t.number z.0 x (subst (λ o. Has o z.0) (sym own) z.1) has) z.2),
              own ∙ ap (λ (v : Asked). v.operation) same,
            )

    -- the id that an outcome shows is that of the call
    pub shows_own : (b : Birth) (x : Outcome) (i : ℕ) → WhyEnded p q clients gives w b x → shown_id x ≡ Some i → b.id ≡ i
    shows_own b (outcomes.Answered id payload attachment) i why is = sym why.0 ∙ (let z : id ≡ i = cc in z)
    shows_own b (outcomes.Peer id c) i why is = sym why.0 ∙ (let z : id ≡ i = cc in z)
    shows_own b (outcomes.CallFailed id c) i why is = sym why.0 ∙ (let z : id ≡ i = cc in z)
    shows_own b _ i why is = absurd why

    shows_none : (c : ℕ) (before : List Task) (asked : Asked) (x : Outcome) (i : ℕ) → WhyOwn p q clients gives w c before (ops.Call asked) x → shown_id x ≡ Some i → ⊥
    shows_none c before asked outcomes.Unopened i why is = let z : None ≡ Some i = is in cc
    shows_none c before asked _ i why is = absurd why

    -- no two calls have a version in common
    pub versions : (c d : ℕ) (t u : Task) (a b : Asked) (x y : Outcome) (i j : ℕ) → IsTask clients w.core.outcomes c t → IsTask clients w.core.outcomes d u → t.op ≡ ops.Call a → u.op ≡ ops.Call b → Has t.number x → Has u.number y
        → shown_id x ≡ Some i → shown_id y ≡ Some j → t.number ≢ u.number → (i + a.range ≤ j) ⊎ (j + b.range ≤ i)
    versions c d t u a b x y i j is_t is_u op_t op_u has_t has_u shows_t shows_u ne = ⊎_elim (λ s. absurd (shows_none c s.0 a x i s.1 shows_t)) (λ s. ⊎_elim (λ r. absurd (shows_none d r.0 b y j r.1 shows_u)) (λ r. both s.0 r.0 s.1 r.1 s.2 r.2 s.3 r.3) (call_of d u b y is_u op_u has_u)) (call_of c t a x is_t op_t has_t)
      where
        both : (k l : ℕ) → In (record { id = k; asked = a }) w.births → In (record { id = l; asked = b }) w.births → WhyEnded p q clients gives w (record { id = k; asked = a }) x → WhyEnded p q clients gives w (record { id = l; asked = b }) y → t.number ≡ a.operation → u.number ≡ b.operation → (i + a.range ≤ j) ⊎ (j + b.range ≤ i)
        both k l s r why_s why_r own_s own_r =
            let ki = shows_own (record { id = k; asked = a }) x i why_s shows_t in let lj = shows_own (record { id = l; asked = b }) y j why_r shows_u in
            ⊎_elim (λ same. absurd (ne (own_s ∙ (ap (λ (v : Birth). v.asked.operation) same ∙ sym own_r))))
            (λ apart. ⊎_elim (λ z. ⊎_elim (λ v. inl (omega (arith, v, ki, lj))) (λ v. inr (omega (arith, v, ki, lj))) z.0) (λ z. ⊎_elim (λ v. inr (omega (arith, v, ki, lj))) (λ v. inl (omega (arith, v, ki, lj))) z.0) apart)
            (two_of w.births e.births.apart (record { id = k; asked = a }) (record { id = l; asked = b }) s r)

    -- ## Responses

    -- a call that a response ended was answered by it
    pub answered : (fixed : Fixed) (orders : ℕ → Order) (id : ℕ) (asked : Asked) (P : Frame → Type 0) → IsAnsweredIn p q clients gives w id asked P → IsAnsweredBy p clients w.core.outcomes fixed (gave_in w.core) orders asked id P
    answered fixed orders id asked P a = (a.0, a.1, a.2, (a.3, a.4), a.5, a.6)
