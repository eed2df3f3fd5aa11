-- What the events of a good story have to do with one another.
use Rattle.std.proofs.Common.{◌≡◌, ◌≢◌, ℕ, ◌+◌, ◌%◌, ◌<◌, ◌≤◌, ◌⊎◌, Bool, true, false, cond, eqb, eq-eqb, ne_eqb, List, [], ◌∷◌, inl, inr, ⊎_elim, sym, refl, ap, ◌∙◌, subst, arith}
use mathlib.Core.Logic.{dite}
use native.Mathlib.Decide.{ℕ_discrete}
use Rattle.sock_words.specs.declared.plain.Plan.{Plan}
use Rattle.sock_words.specs.PackedWords.{vref_version}
use Rattle.sock_model.specs.declared.marks.Mark.{Mark}
use Rattle.sock_model.specs.declared.marks.Mark.TheVariants.{Born, Failer, Linked}
use Rattle.sock_model.specs.MarkWeights.{is_born, is_failer, is_linked, is_tried}
use Rattle.outcome_stories.specs.program_steps.specs.slot_steps.proofs.RuleNumbers.{only_is, only-at, pair_is, pair-at}
use Rattle.seat_programs.specs.declared.task.Task.{Task}
use Rattle.seat_programs.specs.TableSteps.{TableStep, OnSlot, OnName, ClaimSlot, CreateLife, SetOdd, StoreName}
use Rattle.outcome_stories.specs.OperationStories.{Entry, Event, In, trace_of, stored_by, last_name, adds, added_by, marked}
use Rattle.outcome_stories.specs.Explains.{Fits, step}
use Rattle.outcome_stories.specs.StoryStepCauses.{Cause, Good}
use Rattle.sock_words.specs.Totals.{total}

abbrev pub event : ℕ → ℕ → TableStep → ℕ → Event
event c o call found = record { client = c; number = o; entry = step call found }

-- ## Sums over events

module _ {A : Type 0} (g : A → ℕ) where
  some_in : (xs : List A) (x : A) → In x xs → g x ≤ total g xs
  some_in [] x m = absurd m
  some_in (y ∷ ys) x (inl e) = omega (arith, ap g e)
  some_in (y ∷ ys) x (inr m) = omega (arith, some_in ys x m)

  -- of a weight that comes once there is one member
  pub once : (xs : List A) (x y : A) → total g xs ≤ 1 → In x xs → In y xs → 0 < g x → 0 < g y → x ≡ y
  once [] x y l m n p q = absurd m
  once (z ∷ zs) x y l (inl e) (inl f) p q = e ∙ sym f
  once (z ∷ zs) x y l (inl e) (inr n) p q = let a = ap g e in let b = some_in zs y n in absurd (omega arith)
  once (z ∷ zs) x y l (inr m) (inl f) p q = let a = ap g f in let b = some_in zs x m in absurd (omega arith)
  once (z ∷ zs) x y l (inr m) (inr n) p q = once zs x y (omega arith) m n p q

pub in_marked : (f : Mark → ℕ) (j : ℕ) (es : List Event) (e : Event) → In e es → 0 < added_by f j e → 0 < marked f j es
in_marked f j es e m p = let a = some_in (added_by f j) es e m in omega arith

same_test : (j : ℕ) (n : ℕ) → cond (eqb j j) n 0 ≡ n
same_test j n = ap (λ b. cond b n 0) (eq-eqb j j refl)

pub birth_adds : (c o j k found h : ℕ) → vref_version found ≡ h → 0 < added_by (is_born h) j (event c o (OnSlot (CreateLife j k)) found)
birth_adds c o j k found h e = let a = same_test j (is_born h (Born (vref_version found)) + is_born h (Linked (vref_version found) k)) in let b = only-at h (vref_version found) e in omega arith

pub fail_adds : (c o j found h : ℕ) → vref_version found ≡ h → h % 2 ≡ 0 → 0 < added_by (is_failer h) j (event c o (OnSlot (SetOdd j)) found)
fail_adds c o j found h e even = let n : ℕ = is_failer h (Failer (vref_version found)) in let q = eq-eqb (vref_version found % 2) 0 (ap (λ z. z % 2) e ∙ even) in
    let a = same_test j (cond (eqb (vref_version found % 2) 0) n 0) in let d : cond (eqb (vref_version found % 2) 0) n 0 ≡ n = ap (λ b. cond b n 0) q in let b = only-at h (vref_version found) e in omega arith

pub try_adds : (c o j found : ℕ) → found ≢ 0 → 0 < added_by is_tried j (event c o (OnSlot (ClaimSlot j)) found)
try_adds c o j found ne = let n : ℕ = cond {A = ℕ} (eqb found 0) 0 1 in let a = same_test j n in let d : n ≡ 1 = ap (λ b. cond {A = ℕ} b 0 1) (ne_eqb found 0 ne) in omega arith

-- ## From sums to events

-- a life that was made
pub record BirthIn (es : List Event) (j h : ℕ) : Type 0 where
  pub client : ℕ
  pub number : ℕ
  pub link : ℕ
  pub found : ℕ
  pub is : In (event client number (OnSlot (CreateLife j link)) found) es
  pub version : vref_version found ≡ h

-- a life that was failed
pub record FailIn (es : List Event) (j h : ℕ) : Type 0 where
  pub client : ℕ
  pub number : ℕ
  pub found : ℕ
  pub is : In (event client number (OnSlot (SetOdd j)) found) es
  pub version : vref_version found ≡ h
  pub even : vref_version found % 2 ≡ 0

more_birth : (e : Event) (es : List Event) (j h : ℕ) → BirthIn es j h → BirthIn (e ∷ es) j h
more_birth e es j h b = record { client = b.client; number = b.number; link = b.link; found = b.found; is = inr b.is; version = b.version }

more_fail : (e : Event) (es : List Event) (j h : ℕ) → FailIn es j h → FailIn (e ∷ es) j h
more_fail e es j h b = record { client = b.client; number = b.number; found = b.found; is = inr b.is; version = b.version; even = b.even }

test_of : (i j n : ℕ) → 0 < cond (eqb i j) n 0 → (i ≡ j) × (0 < n)
test_of i j n p = dite (ℕ_discrete i j) (λ e. let a : cond (eqb i j) n 0 ≡ n = ap (λ b. cond b n 0) (eq-eqb i j e) in (e, omega arith)) (λ ne. let a : cond (eqb i j) n 0 ≡ 0 = ap (λ b. cond b n 0) (ne_eqb i j ne) in absurd (omega arith))

none_added : (i j : ℕ) → cond {A = ℕ} (eqb i j) 0 0 ≡ 0
none_added i j = dite (ℕ_discrete i j) (λ e. ap (λ b. cond {A = ℕ} b 0 0) (eq-eqb i j e)) (λ ne. ap (λ b. cond {A = ℕ} b 0 0) (ne_eqb i j ne))

neither : (b d : Bool) → cond {A = ℕ} b (cond d 0 0) 0 ≡ 0
neither true true = refl
neither true false = refl
neither false d = refl

birth_added : (c o : ℕ) (call : TableStep) (found j h : ℕ) → 0 < adds (is_born h) j call found → (k : ℕ) × (call ≡ OnSlot (CreateLife j k)) × (vref_version found ≡ h)
birth_added c o (OnSlot (CreateLife i k)) found j h p = let t = test_of i j (is_born h (Born (vref_version found)) + is_born h (Linked (vref_version found) k)) p in
    (k, ap (λ z. OnSlot (CreateLife z k)) t.0, only_is h (vref_version found) (let a = t.1 in omega (arith, a)))
birth_added c o (OnSlot (ClaimSlot i)) found j h p = let a = neither (eqb i j) (eqb found 0) in absurd (omega arith)
birth_added c o (OnSlot (SetOdd i)) found j h p = let a = neither (eqb i j) (eqb (vref_version found % 2) 0) in absurd (omega arith)
birth_added c o _ found j h p = absurd (omega arith)

pub fail_added : (c o : ℕ) (call : TableStep) (found j h : ℕ) → 0 < adds (is_failer h) j call found → (call ≡ OnSlot (SetOdd j)) × (vref_version found ≡ h) × (vref_version found % 2 ≡ 0)
fail_added c o (OnSlot (SetOdd i)) found j h p = let t = test_of i j (cond (eqb (vref_version found % 2) 0) (is_failer h (Failer (vref_version found))) 0) p in let u = test_of (vref_version found % 2) 0 (is_failer h (Failer (vref_version found))) t.1 in
    (ap (λ j. OnSlot (SetOdd j)) t.0, only_is h (vref_version found) u.1, u.0)
fail_added c o (OnSlot (ClaimSlot i)) found j h p = let a = neither (eqb i j) (eqb found 0) in absurd (omega arith)
fail_added c o (OnSlot (CreateLife i k)) found j h p = let a = none_added i j in absurd (omega arith)
fail_added c o _ found j h p = absurd (omega arith)

given_added : (call : TableStep) (found j h k : ℕ) → 0 < adds (is_linked h k) j call found → (call ≡ OnSlot (CreateLife j k)) × (vref_version found ≡ h)
given_added (OnSlot (CreateLife i l)) found j h k p = let t = test_of i j (is_linked h k (Born (vref_version found)) + is_linked h k (Linked (vref_version found) l)) p in
    let q = pair_is h k (vref_version found) l (let a = t.1 in omega (arith, a)) in ((λ n. OnSlot (CreateLife (t.0 n) (q.1 n))), q.0)
given_added (OnSlot (ClaimSlot i)) found j h k p = let a = neither (eqb i j) (eqb found 0) in absurd (omega arith)
given_added (OnSlot (SetOdd i)) found j h k p = let a = neither (eqb i j) (eqb (vref_version found % 2) 0) in absurd (omega arith)
given_added _ found j h k p = absurd (omega arith)

-- a life that was made with a link was made by a step
pub marked_given : (es : List Event) (j h k : ℕ) → 0 < marked (is_linked h k) j es → (c o found : ℕ) × In (event c o (OnSlot (CreateLife j k)) found) es × (vref_version found ≡ h)
marked_given [] j h k p = absurd (omega arith)
marked_given (e ∷ es) j h k p = dite (ℕ_discrete (added_by (is_linked h k) j e) 0) (λ z. let t = marked_given es j h k (omega arith) in (t.0, t.1, t.2, inr t.3, t.4))
    (λ n. let t = given_added e.entry.call e.entry.found j h k (omega arith) in (e.client, e.number, e.entry.found, inl (ap (λ z. event e.client e.number z e.entry.found) (sym t.0)), t.1))

-- and a step makes it so
pub given_by : (es : List Event) (c o found j h k : ℕ) → In (event c o (OnSlot (CreateLife j k)) found) es → vref_version found ≡ h → 0 < marked (is_linked h k) j es
given_by es c o found j h k m e = let n : ℕ = is_linked h k (Born (vref_version found)) + is_linked h k (Linked (vref_version found) k) in
    let a = same_test j n in let b = pair-at h k (vref_version found) k e refl in let d = some_in (added_by (is_linked h k) j) es (event c o (OnSlot (CreateLife j k)) found) m in omega (arith, a, b, d)

pub marked_birth : (es : List Event) (j h : ℕ) → 0 < marked (is_born h) j es → BirthIn es j h
marked_birth [] j h p = absurd (omega arith)
marked_birth (e ∷ es) j h p = dite (ℕ_discrete (added_by (is_born h) j e) 0) (λ z. more_birth e es j h (marked_birth es j h (omega arith)))
    (λ n. let t = birth_added e.client e.number e.entry.call e.entry.found j h (omega arith) in record { client = e.client; number = e.number; link = t.0; found = e.entry.found; is = inl (ap (λ z. event e.client e.number z e.entry.found) (sym t.1)); version = t.2 })

pub marked_fail : (es : List Event) (j h : ℕ) → 0 < marked (is_failer h) j es → FailIn es j h
marked_fail [] j h p = absurd (omega arith)
marked_fail (e ∷ es) j h p = dite (ℕ_discrete (added_by (is_failer h) j e) 0) (λ z. more_fail e es j h (marked_fail es j h (omega arith)))
    (λ n. let t = fail_added e.client e.number e.entry.call e.entry.found j h (omega arith) in record { client = e.client; number = e.number; found = e.entry.found; is = inl (ap (λ z. event e.client e.number z e.entry.found) (sym t.0)); version = t.1; even = t.2 })

-- ## Before and after

module _ (p : Plan) (clients : List (List Task)) (broken : List ℕ) where
  -- the part of the story before this event
  pub record BeforeIn (es : List Event) (e : Event) : Type 0 where
    pub story : List Event
    pub good : Good p clients broken story
    pub cause : Cause p clients broken story e
    pub part : (x : Event) → In x story → In x es

  -- each event has its cause in the part before it
  pub cause_of : (es : List Event) → Good p clients broken es → (e : Event) → In e es → BeforeIn es e
  cause_of [] g e m = absurd m
  cause_of (x ∷ es) g e (inl same) = subst (BeforeIn (x ∷ es)) (sym same) record { story = es; good = g.1; cause = g.0; part = λ y n. inr n }
  cause_of (x ∷ es) g e (inr m) = let b = cause_of es g.1 e m in record { story = b.story; good = b.good; cause = b.cause; part = λ y n. inr (b.part y n) }

  -- x comes before e
  abbrev pub Comes : Event → Event → Type 0
  Comes x e = (s : List Event) × Good p clients broken s × Cause p clients broken s e × In x s

  pub compare : (es : List Event) → Good p clients broken es → (x e : Event) → In x es → In e es → Comes x e ⊎ ((x ≡ e) ⊎ Comes e x)
  compare [] g x e m n = absurd m
  compare (y ∷ es) g x e (inl a) (inl b) = inr (inl (a ∙ sym b))
  compare (y ∷ es) g x e (inl a) (inr n) = inr (inr (subst (Comes e) (sym a) (es, g.1, g.0, n)))
  compare (y ∷ es) g x e (inr m) (inl b) = inl (subst (Comes x) (sym b) (es, g.1, g.0, m))
  compare (y ∷ es) g x e (inr m) (inr n) = compare es g.1 x e m n

  -- ## Words of names

  stores_some : (t : Task) (trace : List Entry) (n w : ℕ) → Fits t broken trace (OnName (StoreName n w)) → w ≢ 0
  stores_some t trace n w f = λ z. let e = f.5 in omega arith

  stored_zero : (n : ℕ) (call : TableStep) (before : ℕ) (t : Task) (trace : List Entry) → Fits t broken trace call → stored_by n call before ≡ 0 → before ≡ 0
  stored_zero n (OnName (StoreName m w)) before t trace f z = dite (ℕ_discrete m n)
      (λ e. absurd (stores_some t trace m w f (sym (ap (λ b. cond b w before) (eq-eqb m n e)) ∙ z)))
      (λ ne. sym (ap (λ b. cond b w before) (ne_eqb m n ne)) ∙ z)
  stored_zero n _ before t trace f z = z

  -- where the word is 0 nothing was stored
  pub last_zero : (es : List Event) → Good p clients broken es → (n : ℕ) → last_name n es ≡ 0 → (c o w found : ℕ) → In (event c o (OnName (StoreName n w)) found) es → ⊥
  last_zero [] g n z c o w found m = m
  last_zero (e ∷ es) g n z c o w found (inl same) = let q : e.entry.call ≡ OnName (StoreName n w) = ap (λ (x : Event). x.entry.call) (sym same) in
      let f : Fits g.0.task broken (trace_of e.client e.number es) (OnName (StoreName n w)) = subst (Fits g.0.task broken (trace_of e.client e.number es)) q g.0.fits in
      let a : stored_by n (OnName (StoreName n w)) (last_name n es) ≡ 0 = subst (λ x. stored_by n x (last_name n es) ≡ 0) q z in
      stores_some g.0.task (trace_of e.client e.number es) n w f (sym (ap (λ b. cond b w (last_name n es)) (eq-eqb n n refl)) ∙ a)
  last_zero (e ∷ es) g n z c o w found (inr m) = last_zero es g.1 n (stored_zero n e.entry.call (last_name n es) g.0.task (trace_of e.client e.number es) g.0.fits z) c o w found m

stored_from : (n : ℕ) (call : TableStep) (before : ℕ) → (call ≡ OnName (StoreName n (stored_by n call before))) ⊎ (stored_by n call before ≡ before)
stored_from n (OnName (StoreName m w)) before = dite (ℕ_discrete m n)
    (λ e. inl (let q : cond (eqb m n) w before ≡ w = ap (λ b. cond b w before) (eq-eqb m n e) in ap (λ z. OnName (StoreName z w)) e ∙ ap (λ x. OnName (StoreName n x)) (sym q)))
    (λ ne. inr (ap (λ b. cond b w before) (ne_eqb m n ne)))
stored_from n _ before = inr refl

-- where it isn't, it was stored
pub last_some : (es : List Event) (n : ℕ) → last_name n es ≢ 0 → (c o found : ℕ) × In (event c o (OnName (StoreName n (last_name n es))) found) es
last_some [] n ne = absurd (ne refl)
last_some (e ∷ es) n ne = ⊎_elim (λ q. (e.client, e.number, e.entry.found, inl (ap (λ z. event e.client e.number z e.entry.found) (sym q))))
    (λ q. let t = last_some es n (λ z. ne (q ∙ z)) in (t.0, t.1, t.2, inr (subst (λ w. In (event t.0 t.1 (OnName (StoreName n w)) t.2) es) (sym q) t.3)))
    (stored_from n e.entry.call (last_name n es))
