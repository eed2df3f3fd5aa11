-- The tasks that were accepted of one submitter's lines: which lines they are of, and in which order they stand.
use Rattle.std.proofs.Common.{◌≡◌, ◌≢◌, ℕ, zero, suc, ◌+◌, ◌-◌, ◌*◌, ◌<◌, ◌≤◌, ◌⊎◌, inl, inr, Option, Some, None, List, [], ◌∷◌, ◌++◌, length, flat_map, refl, sym, ap, ◌∙◌, subst, arith}
use Rattle.std.specs.Prelude.{slice_get}
use Rattle.std.proofs.Math.Nat.{mul-suc, mul_comm}
use Rattle.std.proofs.lemmas.Nat.{same_from_place}
use Rattle.std.proofs.lemmas.Option.{slice_get_within}
use mathlib.Core.Option.{some, some-injective, some-ne-none}
use lib.ListN.{get_elem?}
use Rattle.exec_queue.specs.declared.task.Task as queue
use Rattle.exec_queue.specs.Submitters.{IsFreshLine, LinesDiffer}
use Rattle.exec_queue.specs.EndedQueue.{NoLineTwice}
use Rattle.exec_script.specs.declared.op.Op.{Op}
use Rattle.exec_script.specs.declared.op.Op.TheVariants.{Task, Stop}
use Rattle.exec_script.specs.declared.op.Change.{Change}
use Rattle.exec_script.specs.declared.op.Change.TheVariants.{Add, Sub, Move}
use Rattle.exec_script.specs.declared.told.Answer.{Answer}
use Rattle.exec_script.specs.declared.told.Answer.TheVariants.{Accepted, Refused, Stopped, Already}
use Rattle.exec_threads.specs.TasksOfLines.{task_on, accepted_at, accepted_from}

-- ## Places of lists

module _ {A : Type 0} where
  pub got : (xs : List A) (k : ℕ) (x : A) → slice_get xs k ≡ Some x → get_elem? xs k ≡ some x
  got [] k x e = absurd cc
  got (y ∷ ys) zero x e = ap some (let same : y ≡ x = cc in same)
  got (y ∷ ys) (suc k) x e = got ys k x e

  pub got_back : (xs : List A) (k : ℕ) (x : A) → get_elem? xs k ≡ some x → slice_get xs k ≡ Some x
  got_back [] k x e = absurd (some-ne-none x (sym e))
  got_back (y ∷ ys) zero x e = ap (λ (z : A). Some z) (some-injective y x e)
  got_back (y ∷ ys) (suc k) x e = got_back ys k x e

  -- an element of two lists is one of the first, or stands so far behind it in the second
  either : (xs ys : List A) (k : ℕ) (x : A) → get_elem? (xs ++ ys) k ≡ some x → (get_elem? xs k ≡ some x) ⊎ ((m : ℕ) × (get_elem? ys m ≡ some x) × (k ≡ length xs + m))
  either [] ys k x e = inr (k, e, omega arith)
  either (z ∷ xs) ys zero x e = inl e
  either (z ∷ xs) ys (suc k) x e = later (either xs ys k x e)
    where
      later : ((get_elem? xs k ≡ some x) ⊎ ((m : ℕ) × (get_elem? ys m ≡ some x) × (k ≡ length xs + m))) → (get_elem? xs k ≡ some x) ⊎ ((m : ℕ) × (get_elem? ys m ≡ some x) × (suc k ≡ length (z ∷ xs) + m))
      later (inl f) = inl f
      later (inr f) = inr (f.0, f.1, (let g = f.2 in omega (arith, g)))

  behind : (xs ys : List A) (m : ℕ) (x : A) → get_elem? ys m ≡ some x → (k : ℕ) × (get_elem? (xs ++ ys) k ≡ some x)
  behind [] ys m x e = (m, e)
  behind (z ∷ xs) ys m x e = let w = behind xs ys m x e in (suc w.0, w.1)

  -- an element of joined lists is one of some list
  pub joined_from : (lists : List (List A)) (k : ℕ) (x : A) → get_elem? (flat_map (λ (l : List A). l) lists) k ≡ some x → (c n : ℕ) × (l : List A) × (get_elem? lists c ≡ some l) × (get_elem? l n ≡ some x)
  joined_from [] k x e = absurd (some-ne-none x (sym e))
  joined_from (l ∷ lists) k x e = by_cases (λ m at. joined_from lists m x at) (either l (flat_map (λ (l : List A). l) lists) k x e)
    where
      by_cases : ((m : ℕ) → get_elem? (flat_map (λ (l : List A). l) lists) m ≡ some x → (c n : ℕ) × (own : List A) × (get_elem? lists c ≡ some own) × (get_elem? own n ≡ some x))
          → ((get_elem? l k ≡ some x) ⊎ ((m : ℕ) × (get_elem? (flat_map (λ (l : List A). l) lists) m ≡ some x) × (k ≡ length l + m))) → (c n : ℕ) × (own : List A) × (get_elem? (l ∷ lists) c ≡ some own) × (get_elem? own n ≡ some x)
      by_cases others (inl f) = (0, k, l, refl, f)
      by_cases others (inr f) = let w = others f.0 f.1 in (suc w.0, w.1, w.2, w.3, w.4)

-- ## The line of a task

pub line_is : (line : ℕ) (change : Change) → (task_on line change).line ≡ line
line_is line (Add a n) = refl
line_is line (Sub a n) = refl
line_is line (Move a b n) = refl

-- ## The tasks of one submitter

module _ (step : ℕ) (script : List Op) where
  -- a task is that of an accepted line
  pub record IsAccepted (place : ℕ) (answers : List Answer) (t : queue.Task) : Type 0 where
    pub n : ℕ
    pub change : Change
    pub answer : slice_get answers n ≡ Some Accepted
    pub asked : slice_get script (place + step * n) ≡ Some (Task change)
    pub task : t ≡ task_on (place + step * n + 1) change

  -- the first task is that of this line, or there is none of it
  abbrev FirstOr : ℕ → Option Op → Answer → List queue.Task → ℕ → queue.Task → Type 0
  FirstOr place o a rest m t = ((change : Change) × (o ≡ Some (Task change)) × (a ≡ Accepted) × (t ≡ task_on (place + 1) change) × (m ≡ 0)) ⊎ ((r : ℕ) × (get_elem? rest r ≡ some t) × (m ≡ length (accepted_at place o a) + r))

  first_or : (place : ℕ) (o : Option Op) (a : Answer) (rest : List queue.Task) (m : ℕ) (t : queue.Task) → get_elem? (accepted_at place o a ++ rest) m ≡ some t → FirstOr place o a rest m t
  first_or place None a rest m t e = inr (m, e, omega arith)
  first_or place (Some Stop) a rest m t e = inr (m, e, omega arith)
  first_or place (Some (Task change)) Accepted rest zero t e = inl (change, refl, refl, sym (some-injective _ t e), refl)
  first_or place (Some (Task change)) Accepted rest (suc m) t e = inr (m, e, omega arith)
  first_or place (Some (Task change)) Refused rest m t e = inr (m, e, omega arith)
  first_or place (Some (Task change)) Stopped rest m t e = inr (m, e, omega arith)
  first_or place (Some (Task change)) Already rest m t e = inr (m, e, omega arith)

  no_step : (place : ℕ) → place ≡ place + step * 0
  no_step place = omega arith

  one_step : (place n : ℕ) → (place + step) + step * n ≡ place + step * suc n
  one_step place n = (let e = mul-suc step n in omega (arith, e))

  pub accepted_is : (place : ℕ) (answers : List Answer) (m : ℕ) (t : queue.Task) → get_elem? (accepted_from step script place answers) m ≡ some t → IsAccepted place answers t
  accepted_is place [] m t e = absurd (some-ne-none t (sym e))
  accepted_is place (a ∷ answers) m t e = by_cases (λ r at. accepted_is (place + step) answers r t at) (first_or place (slice_get script place) a (accepted_from step script (place + step) answers) m t e)
    where
      by_cases : ((r : ℕ) → get_elem? (accepted_from step script (place + step) answers) r ≡ some t → IsAccepted (place + step) answers t) → FirstOr place (slice_get script place) a (accepted_from step script (place + step) answers) m t → IsAccepted place (a ∷ answers) t
      by_cases others (inl f) = record {
        n = 0;
        change = f.0;
        answer = ap (λ (b : Answer). Some b) f.2;
        asked = ap (λ (p : ℕ). slice_get script p) (sym (no_step place)) ∙ f.1;
        task = f.3 ∙ ap (λ (p : ℕ). task_on (p + 1) f.0) (no_step place);
      }
      by_cases others (inr f) = let w = others f.0 f.1 in record {
        n = suc w.n;
        change = w.change;
        answer = w.answer;
        asked = ap (λ (p : ℕ). slice_get script p) (sym (one_step place w.n)) ∙ w.asked;
        task = w.task ∙ ap (λ (p : ℕ). task_on (p + 1) w.change) (one_step place w.n);
      }

  -- and each accepted line has its task
  pub accepted_there : (place : ℕ) (answers : List Answer) (n : ℕ) (change : Change) → slice_get answers n ≡ Some Accepted → slice_get script (place + step * n) ≡ Some (Task change) → (m : ℕ) × (get_elem? (accepted_from step script place answers) m ≡ some (task_on (place + step * n + 1) change))
  accepted_there place [] n change e asked = absurd cc
  accepted_there place (a ∷ answers) zero change e asked =
      let here : a ≡ Accepted = cc in
      let op : slice_get script place ≡ Some (Task change) = ap (λ (p : ℕ). slice_get script p) (no_step place) ∙ asked in (
        0,
        ap (λ (o : Option Op). get_elem? (accepted_at place o a ++ accepted_from step script (place + step) answers) 0) op
            ∙ (ap (λ (b : Answer). get_elem? (accepted_at place (Some (Task change)) b ++ accepted_from step script (place + step) answers) 0) here
            ∙ ap (λ (p : ℕ). some (task_on (p + 1) change)) (no_step place)),
      )
  accepted_there place (a ∷ answers) (suc n) change e asked =
      let w = accepted_there (place + step) answers n change e (ap (λ (p : ℕ). slice_get script p) (one_step place n) ∙ asked) in
      let b = behind (accepted_at place (slice_get script place) a) (accepted_from step script (place + step) answers) w.0 _ w.1 in
      (b.0, b.1 ∙ ap (λ (p : ℕ). some (task_on (p + 1) change)) (one_step place n))

  -- the line of an accepted task
  pub line_of_accepted : (place : ℕ) (answers : List Answer) (t : queue.Task) (w : IsAccepted place answers t) → t.line ≡ place + step * w.n + 1
  line_of_accepted place answers t w = ap (λ (u : queue.Task). u.line) w.task ∙ line_is (place + step * w.n + 1) w.change

  -- the tasks stand in the order of their lines
  pub lines_rise : 1 ≤ step → (place : ℕ) (answers : List Answer) (i j : ℕ) (t u : queue.Task) → get_elem? (accepted_from step script place answers) i ≡ some t → get_elem? (accepted_from step script place answers) j ≡ some u → i < j → t.line < u.line
  lines_rise some_ place [] i j t u e f less = absurd (some-ne-none t (sym e))
  lines_rise some_ place (a ∷ answers) i j t u e f less = by_cases (λ r q at bt low. lines_rise some_ (place + step) answers r q t u at bt low) (first_or place (slice_get script place) a (accepted_from step script (place + step) answers) i t e) (first_or place (slice_get script place) a (accepted_from step script (place + step) answers) j u f)
    where
      by_cases : ((r q : ℕ) → get_elem? (accepted_from step script (place + step) answers) r ≡ some t → get_elem? (accepted_from step script (place + step) answers) q ≡ some u → r < q → t.line < u.line)
          → FirstOr place (slice_get script place) a (accepted_from step script (place + step) answers) i t → FirstOr place (slice_get script place) a (accepted_from step script (place + step) answers) j u → t.line < u.line
      by_cases others d (inl g) = absurd (let h = g.4 in omega (arith, h, less))
      by_cases others (inl d) (inr g) =
          let w = accepted_is (place + step) answers g.0 u g.1 in
          let l = line_of_accepted (place + step) answers u w in
          let k : t.line ≡ place + 1 = ap (λ (v : queue.Task). v.line) d.3 ∙ line_is (place + 1) d.0 in
          omega (arith, l, k, some_)
      by_cases others (inr d) (inr g) = others d.0 g.0 d.1 g.1 (let h = d.2 in let k = g.2 in omega (arith, h, k, less))

-- ## Tasks on lines that differ

fresh_from : (line : ℕ) (ts : List queue.Task) → ((j : ℕ) (u : queue.Task) → get_elem? ts j ≡ some u → u.line ≢ line) → IsFreshLine line ts
fresh_from line [] others = tt
fresh_from line (t ∷ ts) others = (others 0 t refl, fresh_from line ts (λ j. others (suc j)))

differ_from : (ts : List queue.Task) → ((i j : ℕ) (t u : queue.Task) → get_elem? ts i ≡ some t → get_elem? ts j ≡ some u → i < j → t.line < u.line) → LinesDiffer ts
differ_from [] rise = tt
differ_from (t ∷ ts) rise = (fresh_from t.line ts (λ j u at same. (let h = rise 0 (suc j) t u refl at (omega arith) in omega (arith, h, same))), differ_from ts (λ i j v u at bt less. rise (suc i) (suc j) v u at bt (omega (arith, less))))

differ_both : (xs ys : List queue.Task) → LinesDiffer xs → LinesDiffer ys → ((i j : ℕ) (t u : queue.Task) → get_elem? xs i ≡ some t → get_elem? ys j ≡ some u → u.line ≢ t.line) → LinesDiffer (xs ++ ys)
differ_both [] ys d e apart = e
differ_both (x ∷ xs) ys d e apart = (both_fresh xs d.0, differ_both xs ys d.1 e (λ i. apart (suc i)))
  where
    both_fresh : (zs : List queue.Task) → IsFreshLine x.line zs → IsFreshLine x.line (zs ++ ys)
    both_fresh [] f = fresh_from x.line ys (λ j u at. apart 0 j x u refl at)
    both_fresh (z ∷ zs) f = (f.0, both_fresh zs f.1)

-- ## The tasks of all submitters

-- of these submitters, the first of which has this place
abbrev pub accepted_of : ℕ → List Op → ℕ → List (List Answer) → List (List queue.Task)
accepted_of step script place [] = []
accepted_of step script place (answers ∷ more) = accepted_from step script place answers ∷ accepted_of step script (place + 1) more

module _ (step : ℕ) (script : List Op) where
  pub own_tasks : (place : ℕ) (own : List (List Answer)) (k : ℕ) (answers : List Answer) → slice_get own k ≡ Some answers → get_elem? (accepted_of step script place own) k ≡ some (accepted_from step script (place + k) answers)
  own_tasks place [] k answers e = absurd cc
  own_tasks place (bs ∷ more) zero answers e = (let same : bs ≡ answers = cc in
      ap (λ (x : List Answer). some (accepted_from step script place x)) same ∙ ap (λ (p : ℕ). some (accepted_from step script p answers)) (let h : place ≡ place + 0 = omega arith in h))
  own_tasks place (bs ∷ more) (suc k) answers e = own_tasks (place + 1) more k answers e ∙ ap (λ (p : ℕ). some (accepted_from step script p answers)) (let h : (place + 1) + k ≡ place + suc k = omega arith in h)

  pub of_own : (place : ℕ) (own : List (List Answer)) (k : ℕ) (ts : List queue.Task) → get_elem? (accepted_of step script place own) k ≡ some ts → (answers : List Answer) × (slice_get own k ≡ Some answers) × (accepted_from step script (place + k) answers ≡ ts)
  of_own place [] k ts e = absurd (some-ne-none ts (sym e))
  of_own place (bs ∷ more) zero ts e = (bs, refl, ap (λ (p : ℕ). accepted_from step script p bs) (let h : place + 0 ≡ place = omega arith in h) ∙ some-injective _ ts e)
  of_own place (bs ∷ more) (suc k) ts e = let w = of_own (place + 1) more k ts e in (w.0, w.1, ap (λ (p : ℕ). accepted_from step script p w.0) (let h : place + suc k ≡ (place + 1) + k = omega arith in h) ∙ w.2)

  -- no two of all of them are on one line
  pub none_twice : 1 ≤ step → (place : ℕ) (own : List (List Answer)) → place + length own ≤ step → NoLineTwice (accepted_of step script place own)
  none_twice some_ place [] low = tt
  none_twice some_ place (answers ∷ more) low =
      differ_both (accepted_from step script place answers) (flat_map (λ (ts : List queue.Task). ts) (accepted_of step script (place + 1) more))
      (differ_from (accepted_from step script place answers) (lines_rise step script some_ place answers))
      (none_twice some_ (place + 1) more (omega (arith, low)))
      apart
    where
      apart : (i j : ℕ) (t u : queue.Task) → get_elem? (accepted_from step script place answers) i ≡ some t → get_elem? (flat_map (λ (ts : List queue.Task). ts) (accepted_of step script (place + 1) more)) j ≡ some u → u.line ≢ t.line
      apart i j t u at bt same =
          let w = accepted_is step script place answers i t at in
          let f = joined_from (accepted_of step script (place + 1) more) j u bt in
          let o = of_own (place + 1) more f.0 f.2 f.3 in
          let v = accepted_is step script ((place + 1) + f.0) o.0 f.1 u (ap (λ (ts : List queue.Task). get_elem? ts f.1) o.2 ∙ f.4) in
          let l = line_of_accepted step script place answers t w in
          let m = line_of_accepted step script ((place + 1) + f.0) o.0 u v in
          let low_ = slice_get_within more f.0 o.0 o.1 in
          let p = same_from_place v.n ((place + 1) + f.0) w.n place step (omega (arith, low, low_)) (omega (arith, low)) (let a = mul_turned v.n in let b = mul_turned w.n in omega (arith, l, m, same, a, b)) in
          let q = p.1 in omega (arith, q)
        where
          mul_turned : (n : ℕ) → step * n ≡ n * step
          mul_turned n = mul_comm step n
