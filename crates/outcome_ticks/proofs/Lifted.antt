-- What is told of the tasks but those on calls, in words of all tasks of a script.
use Rattle.std.proofs.Common.{◌≡◌, ◌≢◌, ℕ, zero, suc, ◌-◌, ◌%◌, ◌⊎◌, Bool, true, false, cond, List, [], ◌∷◌, ◌++◌, length, map, filter, replicate, inl, inr, ⊎_elim, refl, sym, ap, ◌∙◌, subst}
use Rattle.std.proofs.lemmas.Bool.{true≢false}
use Rattle.std.specs.Prelude.{Option, Some, slice_get, Contains}
use Rattle.std.specs.List.{AllByRecursion}
use Rattle.sock_words.specs.PackedWords.{vref_version}
use Rattle.sock_words.specs.declared.plain.Plan.{Plan}
use Rattle.sock_words.specs.declared.outcome.Outcome.{Outcome}
use Rattle.sock_words.specs.declared.outcome.Outcome.TheVariants.{Opened, SlotsFull, Unopened, Gone, Full, Held, Failed, Already}
use Rattle.brpc_model.proofs.CauseLeads.{drop_leads}
use Rattle.seat_programs.specs.sock_message.specs.Asked.{Asked, name_of}
use Rattle.seat_programs.specs.declared.task.Op.{Op}
use Rattle.seat_programs.specs.declared.task.Op.TheVariants as ops
use Rattle.seat_programs.specs.declared.task.Task.{Task}
use Rattle.seat_programs.specs.Explained.{AreTasks, IsTask, Became, Made, OpensNone, IsNoLater, AfterHold, HasLife, IsFail}
use Rattle.seat_programs.specs.Explained as plain
use Rattle.seat_programs.specs.ExplainedCalls.{Order, Fixed, StandsOn, Seeks, FoundNone, FoundFailed, MayFail, OutcomeCause}
use Rattle.outcome_stories.specs.StoryStepCauses.{Asks}
use Rattle.outcome_stories.specs.Explains.{is_plain, plain_tasks}
use Rattle.outcome_stories.specs.Facts.{CallsFoundNone}
use Rattle.outcome_stories.specs.Facts as facts
use Rattle.outcome_stories.specs.PlainTasks.{no_tasks, seats_tasks}
use Rattle.outcome_stories.specs.OperationStories.{In}
use Rattle.outcome_stories.specs.TaskCauses as causes
use Rattle.outcome_stories.specs.TaskCauses.{ToldTasks}
use Rattle.outcome_stories.proofs.Members.{all_in, all_of, in_contains, contains_in}
use Rattle.outcome_ticks.proofs.TableTasksDistinct.{one_task}

-- ## Tasks of seats and tasks of clients

module _ {A : Type 0} (f : A → Bool) where
  in_cond : (b : Bool) (x y : A) (ys : List A) → f y ≡ b → In x (cond b (y ∷ ys) ys) → ((x ≡ y) × (f x ≡ true)) ⊎ In x ys
  in_cond true x y ys is (inl e) = inl (e, ap f e ∙ is)
  in_cond true x y ys is (inr m) = inr m
  in_cond false x y ys is m = inr m

  pub in_filtered : (xs : List A) (x : A) → In x (filter f xs) → In x xs × (f x ≡ true)
  in_filtered [] x m = absurd m
  in_filtered (y ∷ ys) x m = ⊎_elim (λ e. (inl e.0, e.1)) (λ n. let t = in_filtered ys x n in (inr t.0, t.1)) (in_cond (f y) x y (filter f ys) refl m)

  has_cond : (b : Bool) (x y : A) (ys : List A) → b ≡ true → (x ≡ y) ⊎ In x ys → In x (cond b (y ∷ ys) ys)
  has_cond true x y ys e m = m
  has_cond false x y ys e m = absurd (true≢false (sym e))

  skip_cond : (b : Bool) (x y : A) (ys : List A) → In x ys → In x (cond b (y ∷ ys) ys)
  skip_cond true x y ys m = inr m
  skip_cond false x y ys m = m

  pub filtered_in : (xs : List A) (x : A) → In x xs → f x ≡ true → In x (filter f xs)
  filtered_in [] x m is = absurd m
  filtered_in (y ∷ ys) x (inl e) is = has_cond (f y) x y (filter f ys) (ap f (sym e) ∙ is) (inl e)
  filtered_in (y ∷ ys) x (inr m) is = skip_cond (f y) x y (filter f ys) (filtered_in ys x m is)

only_empty : (m : ℕ) (rest : List (List Task)) → ((i : ℕ) (us : List Task) → slice_get rest i ≡ Some us → us ≡ []) → (i : ℕ) (us : List Task) → slice_get (replicate m no_tasks ++ rest) i ≡ Some us → us ≡ []
only_empty zero rest h i us e = h i us e
only_empty (suc m) rest h zero us e = same e
  where
    same : Some no_tasks ≡ Some us → us ≡ []
    same e = cc
only_empty (suc m) rest h (suc i) us e = only_empty m rest h i us e

empty_only : (m i : ℕ) (us : List Task) → slice_get (replicate m no_tasks) i ≡ Some us → us ≡ []
empty_only zero i us e = absurd (cc)
empty_only (suc m) zero us e = same e
  where
    same : Some no_tasks ≡ Some us → us ≡ []
    same e = cc
empty_only (suc m) (suc i) us e = empty_only m i us e

up_from : (clients rest : List (List Task)) → ((i : ℕ) (us : List Task) → slice_get rest i ≡ Some us → us ≡ []) → (c : ℕ) (us : List Task) (t : Task) → slice_get (map plain_tasks clients ++ rest) c ≡ Some us → In t us
    → (ts : List Task) × (slice_get clients c ≡ Some ts) × In t ts × (is_plain t.op ≡ true)
up_from [] rest h c us t e m = absurd (subst (In t) (h c us e) m)
up_from (ts ∷ tss) rest h zero us t e m = let x = in_filtered (λ (t : Task). is_plain t.op) ts t (subst (In t) (sym (same e)) m) in (ts, refl, x.0, x.1)
  where
    same : Some (plain_tasks ts) ≡ Some us → plain_tasks ts ≡ us
    same e = cc
up_from (ts ∷ tss) rest h (suc c) us t e m = up_from tss rest h c us t e m

down_from : (clients rest : List (List Task)) (c : ℕ) (ts : List Task) → slice_get clients c ≡ Some ts → slice_get (map plain_tasks clients ++ rest) c ≡ Some (plain_tasks ts)
down_from [] rest c ts e = absurd (cc)
down_from (us ∷ tss) rest zero ts e = same e
  where
    same : Some us ≡ Some ts → Some (plain_tasks us) ≡ Some (plain_tasks ts)
    same e = cc
down_from (us ∷ tss) rest (suc c) ts e = down_from tss rest c ts e

module _ (clients : List (List Task)) (readers : ℕ) where
  abbrev cs : List (List Task)
  cs = seats_tasks clients readers

  pub up : (c : ℕ) (t : Task) → Asks cs c t → Asks clients c t × (is_plain t.op ≡ true)
  up c t a = let x = up_from clients _ (only_empty (32 - length clients) (replicate readers no_tasks) (empty_only readers)) c a.0 t a.1 a.2 in ((x.0, x.1, x.2), x.3)

  pub down : (c : ℕ) (t : Task) → Asks clients c t → is_plain t.op ≡ true → Asks cs c t
  down c t a is = (plain_tasks a.0, down_from clients _ c a.0 a.1, filtered_in (λ (t : Task). is_plain t.op) a.0 t a.2 is)

  module _ (outcomes : List (Option Outcome)) where
    pub task_up : (c : ℕ) (t : Task) → IsTask cs outcomes c t → IsTask clients outcomes c t
    task_up c t is = let a = up c t (is.0, is.1, contains_in is.0 t is.2) in (a.0.0, a.0.1, in_contains a.0.0 t a.0.2)

    pub task_down : (c : ℕ) (t : Task) → IsTask clients outcomes c t → is_plain t.op ≡ true → IsTask cs outcomes c t
    task_down c t is plain_ = let a = down c t (is.0, is.1, contains_in is.0 t is.2) plain_ in (a.0, a.1, in_contains a.0 t a.2)

    pub made_up : (n k slot version : ℕ) → Made cs outcomes n k slot version → Made clients outcomes n k slot version
    made_up n k slot version a = record { client = a.client; task = a.task; is = task_up a.client a.task a.is; op = a.op; became = a.became }

    pub made_down : (n k slot version : ℕ) → Made clients outcomes n k slot version → Made cs outcomes n k slot version
    made_down n k slot version a = record { client = a.client; task = a.task; is = task_down a.client a.task a.is (ap is_plain a.op); op = a.op; became = a.became }

    fail_up : (f : ℕ × ℕ) → IsFail cs outcomes f → IsFail clients outcomes f
    fail_up f x = record { client = x.client; task = x.task; is = task_up x.client x.task x.is; numbered = x.numbered; name = x.name; code = x.code; op = x.op; became = x.became; slot = x.slot; version = x.version; life = made_up x.name f.1 x.slot x.version x.life }

    -- ## What is told

    module _ (p : Plan) (are : AreTasks p clients) (fixed : Fixed) (gave : ℕ → List ℕ) (orders : ℕ → Order) (last : ℕ → ℕ) (lost few : List ℕ) (late : ℕ → Type 0) (tells : ToldTasks cs outcomes p orders lost few late)
        (fails_are : fixed.fails ≡ tells.fails) (failing : (k : ℕ) → Contains few k → Contains fixed.broken k ⊎ Contains fixed.early k)
        (lates : (c : ℕ) (t : Task) → IsTask clients outcomes c t → is_plain t.op ≡ true → late t.number → Contains fixed.late t.number) (in_vain : CallsFoundNone clients outcomes) where
      asks : (c : ℕ) (t : Task) → IsTask clients outcomes c t → Asks clients c t
      asks c t is = (is.0, is.1, contains_in is.0 t is.2)

      fail_of : (f : ℕ × ℕ) → Contains tells.fails f → IsFail cs outcomes f
      fail_of f m = all_in (IsFail cs outcomes) tells.fails f tells.are (contains_in tells.fails f m)

      -- a `fail` is no later one of the client, among all tasks either
      no_later : (c o : ℕ) (f : ℕ × ℕ) → Contains tells.fails f → IsNoLater cs outcomes c o f.0 → IsNoLater clients outcomes c o f.0
      no_later c o f m h t is e = let x = fail_of f m in let same = (one_task p clients are c x.client t x.task (asks c t is) (asks x.client x.task (task_up x.client x.task x.is)) (e ∙ sym x.numbered)).1 in
          h t (task_down c t is (ap (λ (z : Task). is_plain z.op) same ∙ ap is_plain x.op)) e

      may_fail : (c : ℕ) (t : Task) (k : ℕ) → IsTask clients outcomes c t → is_plain t.op ≡ true → plain.WasFailed cs outcomes tells.fails few c t.number k ⊎ late t.number → MayFail p clients outcomes fixed gave orders c t.number k ⊎ Contains fixed.late t.number
      may_fail c t k is plain_ (inl (inl f)) = inl (inl (f.0, subst (λ l. Contains l (f.0, k)) (sym fails_are) f.1, no_later c t.number (f.0, k) f.1 f.2))
      may_fail c t k is plain_ (inl (inr m)) = inl (inr (⊎_elim (λ b. inl b) (λ e. inr (inl e)) (failing k m)))
      may_fail c t k is plain_ (inr l) = inr (lates c t is plain_ l)

      found_failed : (c : ℕ) (t : Task) (n : ℕ) (P : ℕ → Type 0) → IsTask clients outcomes c t → is_plain t.op ≡ true → causes.FoundFailed cs outcomes tells.fails few late c t.number n P → FoundFailed p clients outcomes fixed gave orders c t.number n P
      found_failed c t n P is plain_ x = record { link = x.link; slot = x.slot; version = x.version; made = made_up n x.link x.slot x.version x.made; holds = x.holds; failed = may_fail c t x.link is plain_ x.failed }

      opens_none : (d : ℕ) (u : Task) (n : ℕ) → IsTask clients outcomes d u → (IsTask cs outcomes d u → OpensNone cs outcomes n u) → OpensNone clients outcomes n u
      opens_none d u n is h k slot version op became = h (task_down d u is (ap is_plain op)) k slot version op became

      seeks_op : (n : ℕ) (op : Op) (P : Type 0) → Seeks p clients outcomes fixed gave orders n op → (((code : ℕ) × (op ≡ ops.Fail n code)) ⊎ ((op ≡ ops.Hold n) ⊎ ((bytes : List ℕ) × (op ≡ ops.Send n bytes))) → P) → ((asked : Asked) → op ≡ ops.Call asked → name_of asked 0 ≡ n → P) → P
      seeks_op n (ops.Fail m code) P e plain_ call = plain_ (inl (code, ap (λ z. ops.Fail z code) e))
      seeks_op n (ops.Hold m) P e plain_ call = plain_ (inr (inl (ap (λ z. ops.Hold z) e)))
      seeks_op n (ops.Send m bytes) P e plain_ call = plain_ (inr (inr (bytes, ap (λ z. ops.Send z bytes) e)))
      seeks_op n (ops.Call asked) P e plain_ call = call asked refl e
      seeks_op n (ops.Open m k) P e plain_ call = absurd e
      seeks_op n (ops.Drop m) P e plain_ call = absurd e
      seeks_op n (ops.Expire t) P e plain_ call = absurd e
      seeks_op n (ops.Join t) P e plain_ call = absurd e

      plain_seeks : (n : ℕ) (op : Op) → ((code : ℕ) × (op ≡ ops.Fail n code)) ⊎ ((op ≡ ops.Hold n) ⊎ ((bytes : List ℕ) × (op ≡ ops.Send n bytes))) → is_plain op ≡ true
      plain_seeks n op how = ⊎_elim (λ h. ap is_plain h.1) (λ h. ⊎_elim (λ h. ap is_plain h) (λ h. ap is_plain h.1) h) how

      found_none : (c : ℕ) (t : Task) (n : ℕ) → IsTask clients outcomes c t → Seeks p clients outcomes fixed gave orders n t.op → Became clients outcomes t.number Unopened → plain.FoundNone cs outcomes c t.number n → FoundNone p clients outcomes fixed gave orders c t.number n
      found_none c t n is seeks became x = record {
        setup = λ u it. opens_none 0 u n it (λ d. x.setup u d);
        own = λ u it less. (
          opens_none c u n it (λ d. (x.own u d less).0),
          λ s. seeks_op n u.op (Became clients outcomes u.number Unopened) s (λ how. (x.own u (task_down c u it (plain_seeks n u.op how)) less).1 how)
              (λ asked op same. in_vain c t u asked n is it (named n t.op seeks) became less op same),
        );
      }
        where
          named : (n : ℕ) (op : Op) → Seeks p clients outcomes fixed gave orders n op → facts.Seeks n op
          named n (ops.Fail m code) s = s
          named n (ops.Hold m) s = s
          named n (ops.Send m bytes) s = s
          named n (ops.Call asked) s = s
          named n (ops.Open m k) s = absurd s
          named n (ops.Drop m) s = absurd s
          named n (ops.Expire t) s = absurd s
          named n (ops.Join t) s = absurd s

      after_hold : (c o n : ℕ) (P : Outcome → Type 0) → AfterHold cs outcomes c o n P → AfterHold clients outcomes c o n P
      after_hold c o n P x = record {
        hold = x.hold;
        is = task_up c x.hold x.is;
        op = x.op;
        before = x.before;
        last = λ t is more less e. x.last t (task_down c t is (ap is_plain e)) more less e;
        outcome = x.outcome;
        became = x.became;
        holds = x.holds;
      }

      has_life : (n : ℕ) → HasLife cs outcomes n → HasLife clients outcomes n
      has_life n l = (l.0, l.1, l.2, made_up n l.0 l.1 l.2 l.3)

      module _ (c : ℕ) (t : Task) (is : IsTask clients outcomes c t) where
        abbrev Lifts : Op → Outcome → Type 0
        Lifts op o = t.op ≡ op → Became clients outcomes t.number o → causes.OutcomeCause cs outcomes p tells.fails few late orders c t.number op o → OutcomeCause p clients outcomes fixed gave orders last c t.number op o

        seeks_it : (n : ℕ) (op : Op) → t.op ≡ op → Seeks p clients outcomes fixed gave orders n op → Seeks p clients outcomes fixed gave orders n t.op
        seeks_it n op e s = subst (Seeks p clients outcomes fixed gave orders n) (sym e) s

        none : (n : ℕ) (op : Op) → t.op ≡ op → Seeks p clients outcomes fixed gave orders n op → Became clients outcomes t.number Unopened → plain.FoundNone cs outcomes c t.number n → FoundNone p clients outcomes fixed gave orders c t.number n
        none n op e s b w = found_none c t n is (seeks_it n op e s) b w

        lift_open : (n k : ℕ) (o : Outcome) → Lifts (ops.Open n k) o
        lift_open n k (Opened slot version l) e b w = w
        lift_open n k SlotsFull e b w = λ slot low. let x = w slot low in (x.0, x.1, x.2, made_up x.0 x.1 slot x.2 x.3)
        lift_open n k _ e b w = absurd w

        lift_send : (n : ℕ) (bytes : List ℕ) (o : Outcome) → Lifts (ops.Send n bytes) o
        lift_send n bytes Unopened e b w = none n (ops.Send n bytes) e refl b w
        lift_send n bytes (Gone found) e b w = found_failed c t n (λ version. vref_version found.0 ≢ version) is (ap is_plain e) w
        lift_send n bytes Full e b w = (has_life n w.0, w.1)
        lift_send n bytes _ e b w = absurd w

        lift_hold : (n : ℕ) (o : Outcome) → Lifts (ops.Hold n) o
        lift_hold n Unopened e b w = none n (ops.Hold n) e refl b w
        lift_hold n (Gone found) e b w = found_failed c t n (λ version. vref_version found.0 ≢ version) is (ap is_plain e) w
        lift_hold n Held e b w = has_life n w
        lift_hold n _ e b w = absurd w

        lift_fail : (n code : ℕ) (o : Outcome) → Lifts (ops.Fail n code) o
        lift_fail n code Unopened e b w = none n (ops.Fail n code) e refl b w
        lift_fail n code (Gone found) e b w = found_failed c t n (λ version. vref_version found.0 ≢ version) is (ap is_plain e) w
        lift_fail n code (Already found) e b w = found_failed c t n (λ version. vref_version found.0 % 2 ≡ 1) is (ap is_plain e) w
        lift_fail n code Failed e b w = (w.0, subst (λ l. Contains l (t.number, w.0)) (sym fails_are) w.1)
        lift_fail n code _ e b w = absurd w

        lift_drop : (n : ℕ) (o : Outcome) → Lifts (ops.Drop n) o
        lift_drop n o e b w = drop_leads (λ P. AfterHold cs outcomes c t.number n P) (λ P. AfterHold clients outcomes c t.number n P) (after_hold c t.number n) o w

        lifts : (op : Op) (o : Outcome) → is_plain op ≡ true → Lifts op o
        lifts (ops.Open n k) o plain_ = lift_open n k o
        lifts (ops.Send n bytes) o plain_ = lift_send n bytes o
        lifts (ops.Hold n) o plain_ = lift_hold n o
        lifts (ops.Drop n) o plain_ = lift_drop n o
        lifts (ops.Fail n code) o plain_ = lift_fail n code o
        lifts _ o plain_ = absurd (true≢false (sym plain_))

      -- each outcome of a task that isn't on calls has its cause
      pub why_lifted : (c : ℕ) (t : Task) (o : Outcome) → IsTask clients outcomes c t → is_plain t.op ≡ true → Became clients outcomes t.number o → OutcomeCause p clients outcomes fixed gave orders last c t.number t.op o
      why_lifted c t o is plain_ became = lifts c t is t.op o plain_ refl became (tells.why c t o (task_down c t is plain_) became)

      pub told_lifted : (c : ℕ) (t : Task) → IsTask clients outcomes c t → is_plain t.op ≡ true → ((o : Outcome) × Became clients outcomes t.number o) ⊎ ((k : ℕ) × StandsOn p clients outcomes fixed gave orders t.number 0 k)
      told_lifted c t is plain_ = ⊎_elim (λ x. inl x) (λ x. inr (x.0, (x.1, (x.3, x.2, x.4, x.5, x.6)))) (tells.told c t (task_down c t is plain_))

      pub are_lifted : AllByRecursion (IsFail clients outcomes) fixed.fails
      are_lifted = subst (AllByRecursion (IsFail clients outcomes)) (sym fails_are) (all_of (IsFail clients outcomes) tells.fails (λ f m. fail_up f (all_in (IsFail cs outcomes) tells.fails f tells.are m)))

      pub lives_lifted : (n k m l slot version : ℕ) (a : Made clients outcomes n k slot version) (b : Made clients outcomes m l slot version) → a.task.number ≡ b.task.number
      unfolding made_down
      lives_lifted n k m l slot version a b = tells.lives n k m l slot version (made_down n k slot version a) (made_down m l slot version b)
