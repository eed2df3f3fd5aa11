-- All operations that failed a life, each with the link of the life.
use Rattle.std.proofs.Common.{◌≡◌, ◌≢◌, ℕ, ◌%◌, ◌⊎◌, List, [], ◌∷◌, inl, inr, ⊎_elim, sym, refl, ap, ◌∙◌, subst}
use Rattle.std.specs.Prelude.{Option}
use mathlib.Core.Logic.{dite}
use native.Mathlib.Decide.{ℕ_discrete}
use Rattle.brpc_model.specs.Order.{EachBefore}
use Rattle.sock_words.specs.PackedWords.{socket_id_version, vref_version}
use Rattle.sock_words.specs.declared.plain.Plan.{Plan}
use Rattle.sock_words.specs.declared.outcome.Outcome.{Outcome}
use Rattle.seat_programs.specs.declared.task.Op.TheVariants as ops
use Rattle.seat_programs.specs.declared.task.Task.{Task}
use Rattle.seat_programs.specs.TableSteps.{TableStep, OnSlot, SetOdd}
use Rattle.seat_programs.specs.Explained.{Made}
use Rattle.seat_programs.specs.ExplainedCalls.{Order}
use Rattle.outcome_ticks.specs.outcome_stories.specs.OperationStories.{Event, In, trace_of}
use Rattle.outcome_ticks.specs.outcome_stories.specs.Explains.{FailsLife, FailsLink, step}
use Rattle.outcome_ticks.specs.outcome_stories.specs.StoryStepCauses.{Asks, Cause, Good}
use Rattle.outcome_ticks.specs.outcome_stories.proofs.Members.{all_of, to_trace}
use Rattle.outcome_ticks.proofs.EventsOfGoodStory.{event}
use Rattle.outcome_causes.proofs.LivesByTask.{World, FailOf, odd_means, link_means, odd_life, given_made, one_life, one_fail}
use Rattle.outcome_ticks.proofs.TableTasksDistinct.{one_task}

module _ (p : Plan) (clients : List (List Task)) (outcomes : List (Option Outcome)) (broken : List ℕ) (orders : ℕ → Order) (es : List Event) (world : World p clients outcomes broken orders es) where
  abbrev pub Fail : List Event → ℕ × ℕ → Type 0
  Fail xs f = FailOf p clients outcomes broken orders es world xs f

  abbrev Another : ℕ × ℕ → ℕ × ℕ → Type 0
  Another f g = (f.0 ≢ g.0) × (f.1 ≢ g.1)

  -- operation o of client c is a `send`
  abbrev pub IsSender : ℕ → ℕ → Type 0
  IsSender c o = (t : Task) × Asks clients c t × (t.number ≡ o) × (n : ℕ) × (bytes : List ℕ) × (t.op ≡ ops.Send n bytes)

  -- of a part of the story, the operations that failed a life; where none did, its link failed
  pub record Gathered (xs : List Event) : Type 0 where
    pub fails : List (ℕ × ℕ)
    pub are : (f : ℕ × ℕ) → In f fails → Fail xs f
    pub all : (c o i found : ℕ) → In (event c o (OnSlot (SetOdd i)) found) xs → vref_version found % 2 ≡ 0 → (n k : ℕ) → Made clients outcomes n k i (vref_version found) → In (o, k) fails ⊎ (In k broken × IsSender c o)
    pub once : EachBefore Another fails

  pub more_fail : (xs ys : List Event) → ((x : Event) → In x xs → In x ys) → (f : ℕ × ℕ) → Fail xs f → Fail ys f
  more_fail xs ys part f x = record { client = x.client; slot = x.slot; found = x.found; is = part (event x.client f.0 (OnSlot (SetOdd x.slot)) x.found) x.is; even = x.even; name = x.name; code = x.code; task = x.task; asks = x.asks; numbered = x.numbered; op = x.op; life = x.life }

  one_number : (f g : ℕ × ℕ) → Fail es f → Fail es g → f.1 ≡ g.1 → f.0 ≡ g.0
  one_number f g x y e = ap (λ (z : Event). z.number) (one_fail p clients outcomes broken orders es world f g x y e)

  -- another step
  kept : (e : Event) (xs : List Event) → ((i : ℕ) → e.entry.call ≡ OnSlot (SetOdd i) → vref_version e.entry.found % 2 ≡ 0 → ⊥) → Gathered xs → Gathered (e ∷ xs)
  kept e xs none_ g = record {
    fails = g.fails;
    are = λ f m. more_fail xs (e ∷ xs) (λ x n. inr n) f (g.are f m);
    all = λ c o i found m even n k made. ⊎_elim (λ same. absurd (none_ i (ap (λ (x : Event). x.entry.call) (sym same)) (ap (λ (x : Event). vref_version x.entry.found % 2) (sym same) ∙ even))) (λ m. g.all c o i found m even n k made) m;
    once = g.once;
  }

  added : (c o i found : ℕ) (xs : List Event) → (cause : Cause p clients broken xs (event c o (OnSlot (SetOdd i)) found)) → FailsLife cause.task.op (trace_of c o xs) i → ((x : Event) → In x (event c o (OnSlot (SetOdd i)) found ∷ xs) → In x es) → vref_version found % 2 ≡ 0 → Gathered xs → Gathered (event c o (OnSlot (SetOdd i)) found ∷ xs)
  added c o i found xs cause life part even g = let e : Event = event c o (OnSlot (SetOdd i)) found in
      let m = odd_means p clients outcomes broken orders es world broken xs c o i found cause (λ x n. part x (inr n)) life in let l = odd_life p clients outcomes broken orders es world broken xs c o i found cause.task m even in
      let new_fail : Fail (e ∷ xs) (o, l.0) = record { client = c; slot = i; found = found; is = inl refl; even = even; name = m.name; code = m.code; task = cause.task; asks = cause.is; numbered = cause.numbered; op = m.op; life = l.1 } in
      let number_apart : (f : ℕ × ℕ) → In f g.fails → o ≢ f.0 = λ f n q. let y = g.are f n in let same = (one_task p clients world.are c y.client cause.task y.task cause.is y.asks (cause.numbered ∙ (q ∙ sym y.numbered))).0 in
      m.first y.slot y.found (subst (λ z. In (step (OnSlot (SetOdd y.slot)) y.found) (trace_of c z xs)) (sym q) (subst (λ z. In (step (OnSlot (SetOdd y.slot)) y.found) (trace_of z f.0 xs)) (sym same) (to_trace xs (event y.client f.0 (OnSlot (SetOdd y.slot)) y.found) y.is))) in record {
        fails = (o, l.0) ∷ g.fails;
        are = λ f n. ⊎_elim (λ q. subst (Fail (e ∷ xs)) (sym q) new_fail) (λ n. more_fail xs (e ∷ xs) (λ x n. inr n) f (g.are f n)) n;
        all = λ c' o' i' found' n ev name k made. ⊎_elim
            (λ same. inl (inl (let calls : OnSlot (SetOdd i') ≡ OnSlot (SetOdd i) = ap (λ (x : Event). x.entry.call) same in let slots : i' ≡ i = cc in
            let founds : found' ≡ found = ap (λ (x : Event). x.entry.found) same in
            let here : Made clients outcomes name k i (vref_version found) = subst (λ z. Made clients outcomes name k i (vref_version z)) founds (subst (λ z. Made clients outcomes name k z (vref_version found')) slots made) in
            let links = (one_life p clients outcomes broken orders es world name m.name k l.0 i (vref_version found) here l.1).1 in let numbers : o' ≡ o = ap (λ (x : Event). x.number) same in
            λ j. (numbers j, links j))))
            (λ n. ⊎_elim (λ y. inl (inr y)) (λ y. inr y) (g.all c' o' i' found' n ev name k made)) n;
        once = (
          all_of (Another (o, l.0)) g.fails (λ f n. (
            number_apart f n,
            λ q. number_apart f n
                (one_number (o, l.0) f (more_fail (e ∷ xs) es part (o, l.0) new_fail) (more_fail xs es (λ x k. part x (inr k)) f (g.are f n)) q),
          )),
          g.once,
        );
      }

  -- a `send` set a life failed whose link failed
  refused : (c o i found : ℕ) (xs : List Event) → (cause : Cause p clients broken xs (event c o (OnSlot (SetOdd i)) found)) → FailsLink cause.task broken (trace_of c o xs) i → ((x : Event) → In x (event c o (OnSlot (SetOdd i)) found ∷ xs) → In x es) → vref_version found % 2 ≡ 0
      → Gathered xs → Gathered (event c o (OnSlot (SetOdd i)) found ∷ xs)
  refused c o i found xs cause link part even g = let e : Event = event c o (OnSlot (SetOdd i)) found in
      let m = link_means p clients outcomes broken orders es world broken xs c o i found cause (λ x n. part x (inr n)) link in
      let l = given_made p clients outcomes broken orders es world i (socket_id_version m.id) m.link m.given in
      let version : vref_version found ≡ socket_id_version m.id = m.odd.0 even in record {
        fails = g.fails;
        are = λ f n. more_fail xs (e ∷ xs) (λ x n. inr n) f (g.are f n);
        all = λ c' o' i' found' n ev name k made. ⊎_elim
            (λ same. let calls : OnSlot (SetOdd i') ≡ OnSlot (SetOdd i) = ap (λ (x : Event). x.entry.call) same in let slots : i' ≡ i = cc in
            let founds : found' ≡ found = ap (λ (x : Event). x.entry.found) same in
            let here : Made clients outcomes name k i (socket_id_version m.id) = subst (λ z. Made clients outcomes name k i z) (ap vref_version founds ∙ version) (subst (λ z. Made clients outcomes name k z (vref_version found')) slots made) in
            let links : k ≡ m.link = (one_life p clients outcomes broken orders es world name l.0 k m.link i (socket_id_version m.id) here l.1).1 in
            let clients_ : c' ≡ c = ap (λ (x : Event). x.client) same in let numbers : o' ≡ o = ap (λ (x : Event). x.number) same in
            inr (subst (λ z. In z broken) (sym links) m.refused, subst (λ z. IsSender z o') (sym clients_) (subst (IsSender c) (sym numbers) (cause.task, cause.is, cause.numbered, m.name, m.bytes, m.op))))
            (λ n. g.all c' o' i' found' n ev name k made) n;
        once = g.once;
      }

  fits_odd : (c o i found : ℕ) (xs : List Event) → (cause : Cause p clients broken xs (event c o (OnSlot (SetOdd i)) found)) → ((x : Event) → In x (event c o (OnSlot (SetOdd i)) found ∷ xs) → In x es) → vref_version found % 2 ≡ 0 → Gathered xs → Gathered (event c o (OnSlot (SetOdd i)) found ∷ xs)
  fits_odd c o i found xs cause part even g = ⊎_elim (λ f. added c o i found xs cause f part even g) (λ f. refused c o i found xs cause f part even g) cause.fits

  grow : (e : Event) (xs : List Event) → Cause p clients broken xs e → ((x : Event) → In x (e ∷ xs) → In x es) → Gathered xs → (call : TableStep) → e.entry.call ≡ call → Gathered (e ∷ xs)
  grow e xs cause part g (OnSlot (SetOdd i)) q = dite (ℕ_discrete (vref_version e.entry.found % 2) 0)
      (λ even. let same : event e.client e.number (OnSlot (SetOdd i)) e.entry.found ≡ e = ap (λ z. event e.client e.number z e.entry.found) (sym q) in
      subst (λ x. Gathered (x ∷ xs)) same (fits_odd e.client e.number i e.entry.found xs (subst (Cause p clients broken xs) (sym same) cause) (subst (λ y. (x : Event) → In x (y ∷ xs) → In x es) (sym same) part) even g))
      (λ odd. kept e xs (λ j r even. odd even) g)
  grow e xs cause part g call q = kept e xs (λ j r even. absurd (cc)) g

  pub gather : (xs : List Event) → Good p clients broken xs → ((x : Event) → In x xs → In x es) → Gathered xs
  gather [] good part = record { fails = []; are = λ f m. absurd m; all = λ c o i found m. absurd m; once = tt }
  gather (e ∷ xs) good part = grow e xs good.0 part (gather xs good.1 (λ x m. part x (inr m))) e.entry.call refl
