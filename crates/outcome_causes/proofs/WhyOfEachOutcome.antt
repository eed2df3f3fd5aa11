-- Each outcome has its cause.
use Rattle.std.proofs.Common.{◌≡◌, ◌≢◌, ℕ, ◌+◌, ◌%◌, ◌<◌, ◌≤◌, ◌⊎◌, true, List, [], ◌∷◌, inl, inr, ⊎_elim, sym, refl, ap, ◌∙◌, subst, arith}
use Rattle.std.proofs.lemmas.Bool.{true≢false}
use Rattle.std.specs.Prelude.{Option, Some, None, slice_get, Contains}
use mathlib.Core.Logic.{dite}
use native.Mathlib.Decide.{ℕ_discrete}
use Rattle.sock_words.specs.PackedWords.{socket_id, socket_id_version, socket_id_slot, vref_version}
use Rattle.sock_words.specs.declared.plain.Plan.{Plan}
use Rattle.sock_words.specs.declared.outcome.Outcome.{Outcome}
use Rattle.sock_words.specs.declared.outcome.Outcome.TheVariants.{Opened, SlotsFull, Unopened, Gone, Full, Held, Freed, Kept, NotHeld, Failed, Already}
use Rattle.sock_model.specs.MarkWeights.{is_tried}
use Rattle.seat_programs.specs.declared.task.Op.{Op}
use Rattle.seat_programs.specs.declared.task.Op.TheVariants as ops
use Rattle.seat_programs.specs.declared.task.Task.{Task}
use Rattle.seat_programs.specs.TableSteps.{TableStep, OnSlot, OnName, OnChain, ClaimSlot, CreateLife, AddRef, SetOdd, StoreName, LoadName, LookWord, ClaimRequest, SwapHead}
use Rattle.seat_programs.specs.Explained as Told
use Rattle.seat_programs.specs.Explained.{IsOpen, IsTask, Became, Made, SeeksInVain, OpensNone, FoundNone, AfterHold, HasLife, EachOpened}
use Rattle.seat_programs.specs.ExplainedCalls.{Order}
use Rattle.outcome_ticks.specs.outcome_stories.specs.OperationStories.{Entry, Event, In, trace_of, last_name}
use Rattle.outcome_ticks.specs.outcome_stories.specs.Explains.{Done, LastHold, Because, IsExplainedBy, WasGone, WasOdd, IsReadied, FailsLife, swaps, swapped, step}
use Rattle.outcome_ticks.specs.outcome_stories.specs.StoryStepCauses.{Asks, WasFailed, Cause, Good}
use Rattle.outcome_ticks.specs.outcome_stories.specs.TaskCauses.{FoundFailed, OutcomeCause}
use Rattle.outcome_ticks.specs.outcome_stories.proofs.Members.{all_in, in_contains, from_trace}
use Rattle.outcome_ticks.proofs.EventsOfGoodStory.{event, in_marked, try_adds, marked_birth, marked_fail, BeforeIn, cause_of, Comes, compare, last_zero, last_some}
use Rattle.outcome_ticks.proofs.ClaimAndAcceptedMessages.{no_swap}
use Rattle.outcome_causes.proofs.Final.{Falls, one_said}
use Rattle.outcome_causes.proofs.LivesByTask.{World, task_of, asks_of, birth_made, birth_means, named_life, one_life, given_made, given_later, made_event, odd_means, odd_life, link_means, fail_says}
use Rattle.outcome_causes.proofs.OperationsThatFailLives.{Gathered, IsSender}
use Rattle.outcome_ticks.proofs.TableTasksDistinct.{one_task, setup_opens}

-- the name that an operation has
abbrev name_of : Op → ℕ
name_of (ops.Open n k) = n
name_of (ops.Send n bytes) = n
name_of (ops.Hold n) = n
name_of (ops.Drop n) = n
name_of (ops.Fail n code) = n
name_of _ = 0

one_some : (o : Option Outcome) (x y : Outcome) → o ≡ Some x → o ≡ Some y → x ≡ y
one_some o x y e f = cc

-- ## Holds

-- the last `hold` of a name, and that none came after it
last_hold : (n : ℕ) (P : Outcome → Type 0) (ds : List Done) → Falls ds → LastHold n P ds
    → (x : Done) × In x ds × (x.task.op ≡ ops.Hold n) × (outcome : Outcome) × (x.outcome ≡ Some outcome) × P outcome × ((y : Done) → In y ds → x.task.number < y.task.number → y.task.op ≢ ops.Hold n)
last_hold n P [] f h = absurd h
last_hold n P (d ∷ ds) f (inl h) = (
  d,
  inl refl,
  h.0,
  h.1,
  h.2,
  h.3,
  λ y m less. ⊎_elim (λ e. let q : y.task.number ≡ d.task.number = ap (λ (z : Done). z.task.number) e in absurd (omega arith))
      (λ m. let q = all_in (λ (z : Done). z.task.number < d.task.number) ds y f.0 m in absurd (omega arith)) m,
)
last_hold n P (d ∷ ds) f (inr h) = let t = last_hold n P ds f.1 h.1 in
    (t.0, inr t.1, t.2, t.3, t.4, t.5, λ y m less. ⊎_elim (λ e q. h.0 (ap (λ (z : Done). z.task.op) (sym e) ∙ q)) (λ m. t.6 y m less) m)

-- ## What operations that seek a name did

-- it found none, or it loaded the name of one, or it set a life failed, or it exchanged a head
abbrev Sought : ℕ → List Entry → Option Outcome → Type 0
Sought n tr outcome = (outcome ≡ Some Unopened) ⊎ (((id : ℕ) × In (step (OnName (LoadName n)) (id + 1)) tr) ⊎ (((i found : ℕ) × In (step (OnSlot (SetOdd i)) found) tr) ⊎ ((i own found : ℕ) × In (step (OnChain (SwapHead i own)) found) tr)))

abbrev HasSwap : List Entry → Type 0
HasSwap tr = (i own found : ℕ) × In (step (OnChain (SwapHead i own)) found) tr

swap_here : (x : Entry) (xs : List Entry) (call : TableStep) → x.call ≡ call → (swapped xs ≡ true → HasSwap xs) → swaps call (swapped xs) ≡ true → HasSwap (x ∷ xs)
swap_here x xs (OnChain (SwapHead i own)) is ih e = (i, own, x.found, inl (ap (λ z. step z x.found) (sym is)))
swap_here x xs call is ih e = let t = ih (sym (no_swap call (swapped xs) tt) ∙ e) in (t.0, t.1, t.2, inr t.3)

swapped_in : (tr : List Entry) → swapped tr ≡ true → HasSwap tr
swapped_in [] e = absurd (true≢false (sym e))
swapped_in (x ∷ xs) e = swap_here x xs x.call refl (λ q. swapped_in xs q) e

seeks_hold : (slots requests : ℕ) (done : List Done) (tr : List Entry) (n : ℕ) (outcome : Option Outcome) → IsExplainedBy slots requests done tr (ops.Hold n) outcome → Sought n tr outcome
seeks_hold slots requests done tr n None b = absurd b.0
seeks_hold slots requests done tr n (Some Unopened) b = inl refl
seeks_hold slots requests done tr n (Some (Gone found)) b = inr (inl (b.0.0, b.0.1))
seeks_hold slots requests done tr n (Some Held) b = inr (inl (b.0.0, b.0.1))
seeks_hold slots requests done tr n (Some _) b = absurd b.0

seeks_fail : (slots requests : ℕ) (done : List Done) (tr : List Entry) (n code : ℕ) (outcome : Option Outcome) → IsExplainedBy slots requests done tr (ops.Fail n code) outcome → Sought n tr outcome
seeks_fail slots requests done tr n code None b = absurd b.0
seeks_fail slots requests done tr n code (Some Unopened) b = inl refl
seeks_fail slots requests done tr n code (Some (Gone found)) b = inr (inl (b.0.0, b.0.1))
seeks_fail slots requests done tr n code (Some (Already found)) b = inr (inr (inl (b.0.0, found.0, b.0.1)))
seeks_fail slots requests done tr n code (Some Failed) b = inr (inr (inl (b.0.0, b.0.1, b.0.2)))
seeks_fail slots requests done tr n code (Some _) b = absurd b.0

seeks_send : (slots requests : ℕ) (done : List Done) (tr : List Entry) (n : ℕ) (bytes : List ℕ) (outcome : Option Outcome) → IsExplainedBy slots requests done tr (ops.Send n bytes) outcome → Sought n tr outcome
seeks_send slots requests done tr n bytes None b = inr (inr (inr (swapped_in tr b.1)))
seeks_send slots requests done tr n bytes (Some Unopened) b = inl refl
seeks_send slots requests done tr n bytes (Some (Gone found)) b = ⊎_elim (λ x. inr (inl (x.0, x.1))) (λ x. inr (inl (x.0, x.1))) b.0
seeks_send slots requests done tr n bytes (Some Full) b = inr (inl b.0.0)
seeks_send slots requests done tr n bytes (Some _) b = absurd b.0

-- of all steps, each that a task made is one of these of the story so far, where these links were lost, or the task is a late one
pub record Timely (p : Plan) (clients : List (List Task)) (outcomes : List (Option Outcome)) (es : List Event) (few : List ℕ) (late : ℕ → Type 0) : Type 0 where
  pub story : List Event
  pub good : Good p clients few story
  pub part : (x : Event) → In x story → In x es
  pub either : (c : ℕ) (t : Task) → Asks clients c t → (o : Outcome) → Became clients outcomes t.number o → (call : TableStep) (found : ℕ) → In (event c t.number call found) es → In (event c t.number call found) story ⊎ late t.number

module _ (p : Plan) (clients : List (List Task)) (outcomes : List (Option Outcome)) (broken : List ℕ) (orders : ℕ → Order) (es : List Event) (world : World p clients outcomes broken orders es) (g : Gathered p clients outcomes broken orders es world es)
    (few : List ℕ) (late : ℕ → Type 0) (timely : Timely p clients outcomes es few late) where
  before : (e : Event) → In e es → BeforeIn p clients broken es e
  before e m = cause_of p clients broken es world.good e m

  -- ## A name without a socket

  -- nothing was stored before a step that found 0
  unstored : (c o d u w found : ℕ) (n : ℕ) → Comes p clients broken (event d u (OnName (StoreName n w)) found) (event c o (OnName (LoadName n)) 0) → ⊥
  unstored c o d u w found n t = last_zero p clients broken t.0 t.1 n (sym t.2.means) d u w found t.3

  module _ (c : ℕ) (t : Task) (a : Asks clients c t) (n : ℕ) (m : In (event c t.number (OnName (LoadName n)) 0) es) where
    abbrev here : Event
    here = event c t.number (OnName (LoadName n)) 0

    opens_none : (d : ℕ) (u : Task) → IsTask clients outcomes d u → ((x : Event) → x.client ≡ d → x.number ≡ u.number → Comes p clients broken here x → ⊥) → OpensNone clients outcomes n u
    opens_none d u is later k slot version op became = let made : Made clients outcomes n k slot version = record { client = d; task = u; is = is; op = op; became = became } in
        let x = made_event p clients outcomes broken orders es world n k slot version made in let e : Event = event d u.number (OnName (StoreName n (socket_id version slot + 1))) x.1 in
        ⊎_elim (λ h. unstored c t.number d u.number (socket_id version slot + 1) x.1 n h)
        (λ h. ⊎_elim (λ q. let calls : OnName (StoreName n (socket_id version slot + 1)) ≡ OnName (LoadName n) = ap (λ (y : Event). y.entry.call) q in absurd (cc)) (λ h. later e refl refl h) h)
        (compare p clients broken es world.good e here x.4 m)

    -- a task before it found no socket either
    unfound : (u : Task) → u.number < t.number → (id : ℕ) → In (event c u.number (OnName (LoadName n)) (id + 1)) es → ⊥
    unfound u less id k = let y : Event = event c u.number (OnName (LoadName n)) (id + 1) in
        ⊎_elim (λ h. let b = cause_of p clients broken h.0 h.1 y h.3 in let w : id + 1 ≡ last_name n b.story = b.cause.means in let s = last_some b.story n (λ z. omega arith) in
        last_zero p clients broken h.0 h.1 n (sym h.2.means) s.0 s.1 (last_name n b.story) s.2 (b.part (event s.0 s.1 (OnName (StoreName n (last_name n b.story))) s.2) s.3))
        (λ h. ⊎_elim (λ q. let f : id + 1 ≡ 0 = ap (λ (z : Event). z.entry.found) q in absurd (omega arith)) (λ h. let o = h.2.order here h.3 refl in absurd (omega arith)) h)
        (compare p clients broken es world.good y here k m)

    module _ (u : Task) (b : Asks clients c u) (less : u.number < t.number) (named : name_of u.op ≡ n) where
      -- it would have loaded the name of a socket
      loaded : (name id : ℕ) → name_of u.op ≡ name → In (event c u.number (OnName (LoadName name)) (id + 1)) es → ⊥
      loaded name id is m = let same : name ≡ n = sym is ∙ named in unfound u less id (subst (λ z. In (event c u.number (OnName (LoadName z)) (id + 1)) es) same m)

      task_is : (call : TableStep) (found : ℕ) (q : BeforeIn p clients broken es (event c u.number call found)) → q.cause.task ≡ u
      task_is call found q = (one_task p clients world.are c c q.cause.task u q.cause.is b q.cause.numbered).1

      name_is : (v : Task) (op : Op) → v ≡ u → v.op ≡ op → name_of u.op ≡ name_of op
      name_is v op same is = ap (λ (z : Task). name_of z.op) (sym same) ∙ ap name_of is

      odd : (i found : ℕ) → In (event c u.number (OnSlot (SetOdd i)) found) es → ⊥
      odd i found k = let q = before (event c u.number (OnSlot (SetOdd i)) found) k in let same = task_is (OnSlot (SetOdd i)) found q in ⊎_elim
          (λ f. let x = odd_means p clients outcomes broken orders es world broken q.story c u.number i found q.cause q.part f in loaded x.name x.id (name_is q.cause.task (ops.Fail x.name x.code) same x.op) x.load)
          (λ f. let w = f.2 in let load : Entry = step (OnName (LoadName w.name)) (f.0 + 1) in loaded w.name f.0 (name_is q.cause.task (ops.Send w.name w.bytes) same w.op) (q.part (event c u.number (OnName (LoadName w.name)) (f.0 + 1)) (from_trace c u.number q.story load w.load)))
          q.cause.fits

      exchanged : (i own found : ℕ) → In (event c u.number (OnChain (SwapHead i own)) found) es → ⊥
      exchanged i own found k = let q = before (event c u.number (OnChain (SwapHead i own)) found) k in let same = task_is (OnChain (SwapHead i own)) found q in
          let r : IsReadied q.cause.task (trace_of c u.number q.story) = q.cause.fits in let load : Entry = step (OnName (LoadName r.name)) (r.id + 1) in
          let m : In load (trace_of c u.number q.story) = subst (In load) (sym r.trace_is) (inr (inr (inr r.load))) in
          loaded r.name r.id (name_is q.cause.task (ops.Send r.name r.bytes) same r.op) (q.part (event c u.number (OnName (LoadName r.name)) (r.id + 1)) (from_trace c u.number q.story load m))

      sought_in_vain : Sought n (trace_of c u.number es) (world.final c u b).outcome → Became clients outcomes u.number Unopened
      sought_in_vain s = let tr : List Entry = trace_of c u.number es in ⊎_elim (λ q. (world.final c u b).became ∙ ap (λ (o : Option Outcome). Some o) q)
          (λ s. ⊎_elim (λ y. absurd (unfound u less y.0 (from_trace c u.number es (step (OnName (LoadName n)) (y.0 + 1)) y.1)))
          (λ s. ⊎_elim (λ y. absurd (odd y.0 y.1 (from_trace c u.number es (step (OnSlot (SetOdd y.0)) y.1) y.2)))
          (λ y. absurd (exchanged y.0 y.1 y.2 (from_trace c u.number es (step (OnChain (SwapHead y.0 y.1)) y.2) y.3))) s) s) s

    in_vain : (u : Task) → Asks clients c u → u.number < t.number → SeeksInVain clients outcomes n u
    in_vain u b less = λ how. let fin = world.final c u b in let tr : List Entry = trace_of c u.number es in
        let as_op : (op : Op) → u.op ≡ op → IsExplainedBy p.slots p.requests fin.before tr op fin.outcome = λ op is. subst (λ z. IsExplainedBy p.slots p.requests fin.before tr z fin.outcome) is fin.explained in
        ⊎_elim
        (λ h. sought_in_vain u b less (ap name_of h.1) (seeks_fail p.slots p.requests fin.before tr n h.0 fin.outcome (as_op (ops.Fail n h.0) h.1)))
        (λ h. ⊎_elim
        (λ h. sought_in_vain u b less (ap name_of h) (seeks_hold p.slots p.requests fin.before tr n fin.outcome (as_op (ops.Hold n) h)))
        (λ h. sought_in_vain u b less (ap name_of h.1) (seeks_send p.slots p.requests fin.before tr n h.0 fin.outcome (as_op (ops.Send n h.0) h.1))) h) how

    pub found_none : (c ≡ 0 → ⊥) → FoundNone clients outcomes c t.number n
    found_none client = record {
      setup = λ u is. opens_none 0 u is (λ x q r h. client (h.2.setup here h.3 q));
      own = λ u is less. (opens_none c u is (λ x q r h. let o = h.2.order here h.3 (sym q) in omega arith), in_vain u (asks_of p clients outcomes broken orders es world c u is) less);
    }

  -- ## A life that was failed

  -- who failed a life before a step of a task that failed none
  failed_by : (c : ℕ) (t : Task) (a : Asks clients c t) (call : TableStep) (found : ℕ) (b : BeforeIn p clients few timely.story (event c t.number call found)) → (i h n k : ℕ) → WasFailed few b.story i h → Made clients outcomes n k i h → (world.final c t a).outcome ≢ Some Failed
      → Told.WasFailed clients outcomes g.fails few c t.number k
  failed_by c t a call found b i h n k (inr lost) made ne = let g = given_made p clients outcomes broken orders es world i h lost.0 (given_later p clients outcomes broken orders es world b.story es (λ x m. timely.part x (b.part x m)) i h lost.0 lost.2) in
      let same : k ≡ lost.0 = (one_life p clients outcomes broken orders es world n g.0 k lost.0 i h made g.1).1 in inr (in_contains few k (subst (λ z. In z few) (sym same) lost.1))
  failed_by c t a call found b i h n k (inl was) made ne = let y = marked_fail b.story i h was in let e : Event = event y.client y.number (OnSlot (SetOdd i)) y.found in
      let soon : In e timely.story = b.part e y.is in let m : In e es = timely.part e soon in ⊎_elim
      (λ there. inl (
        y.number,
        in_contains g.fails (y.number, k) there,
        λ u is q. let x = before e m in let same = (one_task p clients world.are c y.client u x.cause.task (asks_of p clients outcomes broken orders es world c u is) x.cause.is (q ∙ sym x.cause.numbered)).0 in
            let le = b.cause.order e y.is (sym same) in
            dite (ℕ_discrete y.number t.number)
            (λ r. let f = g.are (y.number, k) there in let who = one_task p clients world.are f.client c f.task t f.asks a (f.numbered ∙ r) in
            absurd (ne (fail_says p clients outcomes broken orders es world c t.number f.slot f.found f.name f.code t a refl (ap (λ (z : Task). z.op) (sym who.1) ∙ f.op)
            (subst (λ z. In (event z t.number (OnSlot (SetOdd f.slot)) f.found) es) who.0 (subst (λ z. In (event f.client z (OnSlot (SetOdd f.slot)) f.found) es) r f.is)) f.even)))
            (λ far. omega (arith, le, far)),
      ))
      (λ r. inr (in_contains few k (refused_in y.client y.number y.found soon (cause_of p clients few timely.story timely.good e soon) y.even y.version r.1)))
      (g.all y.client y.number i y.found m y.even n k (subst (λ z. Made clients outcomes n k i z) (sym y.version) made))
    where
      -- where a `send` set it failed, its link is one of those that failed
      refused_in : (d o found : ℕ) → In (event d o (OnSlot (SetOdd i)) found) timely.story → (x : BeforeIn p clients few timely.story (event d o (OnSlot (SetOdd i)) found)) → vref_version found % 2 ≡ 0 → vref_version found ≡ h → IsSender p clients outcomes broken orders es world d o → In k few
      refused_in d o found there x even version sends = ⊎_elim
          (λ f. let q : ops.Send sends.3 sends.4 ≡ ops.Fail f.0 f.1 = sym sends.5 ∙ (ap (λ (z : Task). z.op) (one_task p clients world.are d d sends.0 x.cause.task sends.1 x.cause.is (sends.2 ∙ sym x.cause.numbered)).1 ∙ f.4) in absurd (cc))
          (λ f. let l = link_means p clients outcomes broken orders es world few x.story d o i found x.cause (λ z m. timely.part z (x.part z m)) f in
          let v : h ≡ socket_id_version l.id = sym version ∙ l.odd.0 even in
          let other = given_made p clients outcomes broken orders es world i (socket_id_version l.id) l.link l.given in
          let same : k ≡ l.link = (one_life p clients outcomes broken orders es world n other.0 k l.link i (socket_id_version l.id) (subst (λ z. Made clients outcomes n k i z) v made) other.1).1 in subst (λ z. In z few) (sym same) l.refused)
          x.cause.fits

  -- so a step of the task that was made in time tells why, or the task is late
  found_by : (c : ℕ) (t : Task) (a : Asks clients c t) (o : Outcome) → (world.final c t a).outcome ≡ Some o → (call : TableStep) (found : ℕ) → In (event c t.number call found) es → (i h n k : ℕ)
      → ((lost : List ℕ) (xs : List Event) → Cause p clients lost xs (event c t.number call found) → WasFailed lost xs i h) → Made clients outcomes n k i h → (world.final c t a).outcome ≢ Some Failed
      → Told.WasFailed clients outcomes g.fails few c t.number k ⊎ late t.number
  found_by c t a o is call found m i h n k why made ne = ⊎_elim
      (λ soon. let b = cause_of p clients few timely.story timely.good (event c t.number call found) soon in inl (failed_by c t a call found b i h n k (why few b.story b.cause) made ne))
      (λ l. inr l) (timely.either c t a o ((world.final c t a).became ∙ ap (λ (x : Option Outcome). Some x) is) call found m)

  -- ## Each outcome

  each_opened : (c o : ℕ) → ((i : ℕ) → i < p.slots → (found : ℕ) × In (step (OnSlot (ClaimSlot i)) found) (trace_of c o es) × (found ≢ 0)) → EachOpened clients outcomes p
  each_opened c o b i l = let x = b i l in let m = from_trace c o es (step (OnSlot (ClaimSlot i)) x.0) x.1 in
      let y = marked_birth es i p.first (world.tried_born i l (in_marked is_tried i es (event c o (OnSlot (ClaimSlot i)) x.0) m (try_adds c o i x.0 x.2))) in
      let made = birth_made p clients outcomes broken orders es world y.client y.number i y.link y.found y.is in (made.0, y.link, vref_version y.found, made.1)

  gone : (c : ℕ) (t : Task) (a : Asks clients c t) (o : Outcome) → (world.final c t a).outcome ≡ Some o → (n found : ℕ) → WasGone n (trace_of c t.number es) found → (world.final c t a).outcome ≢ Some Failed → FoundFailed clients outcomes g.fails few late c t.number n (λ version. vref_version found ≢ version)
  gone c t a o is n found x nf = let id : ℕ = x.0 in let life = named_life p clients outcomes broken orders es world c t.number n id (from_trace c t.number es (step (OnName (LoadName n)) (id + 1)) x.1) in
      record {
        link = life.0;
        slot = socket_id_slot id;
        version = socket_id_version id;
        made = life.1;
        holds = x.3;
        failed = found_by c t a o is (OnSlot (AddRef id)) found (from_trace c t.number es (step (OnSlot (AddRef id)) found) x.2) (socket_id_slot id) (socket_id_version id) n life.0 (λ lost xs cause. cause.means x.3) life.1 nf;
      }

  -- a life that was held was found to be failed
  looked_odd : (c : ℕ) (t : Task) (a : Asks clients c t) (o : Outcome) → (world.final c t a).outcome ≡ Some o → (n found : ℕ) → WasOdd n (trace_of c t.number es) found → (world.final c t a).outcome ≢ Some Failed → FoundFailed clients outcomes g.fails few late c t.number n (λ version. vref_version found ≢ version)
  looked_odd c t a o is n found x nf = let id : ℕ = x.0 in let life = named_life p clients outcomes broken orders es world c t.number n id (from_trace c t.number es (step (OnName (LoadName n)) (id + 1)) x.1) in
      let made = made_event p clients outcomes broken orders es world n life.0 (socket_id_slot id) (socket_id_version id) life.1 in
      let even = (birth_means p clients outcomes broken orders es world life.1.client life.1.task.number (socket_id_slot id) life.0 made.0 made.2).1 in
      let version = made.3 in
      record {
        link = life.0;
        slot = socket_id_slot id;
        version = socket_id_version id;
        made = life.1;
        holds = λ e. omega (arith, x.3, even, version, e);
        failed = found_by c t a o is (OnSlot (LookWord id)) found (from_trace c t.number es (step (OnSlot (LookWord id)) found) x.2) (socket_id_slot id) (socket_id_version id) n life.0 (λ lost xs cause. cause.means cause.fits x.3) life.1 nf;
      }

  own_task : (c : ℕ) (t : Task) (a : Asks clients c t) (call : TableStep) (found : ℕ) (lost : List ℕ) (xs : List Event) (cause : Cause p clients lost xs (event c t.number call found)) → cause.task ≡ t
  own_task c t a call found lost xs cause = (one_task p clients world.are c c cause.task t cause.is a cause.numbered).1

  -- a `fail` sets a life failed as such
  fails_life : (c : ℕ) (t : Task) (a : Asks clients c t) (n code : ℕ) → t.op ≡ ops.Fail n code → (i found : ℕ) (lost : List ℕ) (xs : List Event) (cause : Cause p clients lost xs (event c t.number (OnSlot (SetOdd i)) found)) → FailsLife cause.task.op (trace_of c t.number xs) i
  fails_life c t a n code op i found lost xs cause = ⊎_elim (λ f. f) (λ f. let q : ops.Send f.2.name f.2.bytes ≡ ops.Fail n code = sym f.2.op ∙ (ap (λ (z : Task). z.op) (own_task c t a (OnSlot (SetOdd i)) found lost xs cause) ∙ op) in absurd (cc)) cause.fits

  -- a life that it set failed was so already, and who did so
  already_by : (c : ℕ) (t : Task) (a : Asks clients c t) (n code : ℕ) → t.op ≡ ops.Fail n code → (i found : ℕ) (lost : List ℕ) (b : BeforeIn p clients lost es (event c t.number (OnSlot (SetOdd i)) found)) → vref_version found % 2 ≡ 1
      → ((h k : ℕ) → WasFailed lost b.story i h → Made clients outcomes n k i h → Told.WasFailed clients outcomes g.fails few c t.number k ⊎ late t.number) → FoundFailed clients outcomes g.fails few late c t.number n (λ version. vref_version found % 2 ≡ 1)
  already_by c t a n code op i found lost b odd why =
      let x = odd_means p clients outcomes broken orders es world lost b.story c t.number i found b.cause b.part (fails_life c t a n code op i found lost b.story b.cause) in
      let names : ops.Fail x.name x.code ≡ ops.Fail n code = sym x.op ∙ (ap (λ (z : Task). z.op) (own_task c t a (OnSlot (SetOdd i)) found lost b.story b.cause) ∙ op) in let name : x.name ≡ n = cc in
      let life = named_life p clients outcomes broken orders es world c t.number n x.id (subst (λ z. In (event c t.number (OnName (LoadName z)) (x.id + 1)) es) name x.load) in
      let made : Made clients outcomes n life.0 i (socket_id_version x.id) = subst (λ z. Made clients outcomes n life.0 z (socket_id_version x.id)) (sym x.slot) life.1 in
      record { link = life.0; slot = i; version = socket_id_version x.id; made = made; holds = odd; failed = why (socket_id_version x.id) life.0 (x.odd.1 odd) made }

  already : (c : ℕ) (t : Task) (a : Asks clients c t) (o : Outcome) → (world.final c t a).outcome ≡ Some o → (n code : ℕ) → t.op ≡ ops.Fail n code → (i found : ℕ) → In (step (OnSlot (SetOdd i)) found) (trace_of c t.number es) → vref_version found % 2 ≡ 1
      → (world.final c t a).outcome ≢ Some Failed → FoundFailed clients outcomes g.fails few late c t.number n (λ version. vref_version found % 2 ≡ 1)
  already c t a o is n code op i found set odd nf = let m = from_trace c t.number es (step (OnSlot (SetOdd i)) found) set in ⊎_elim
      (λ soon. let b = cause_of p clients few timely.story timely.good (event c t.number (OnSlot (SetOdd i)) found) soon in
      already_by c t a n code op i found few (record { story = b.story; good = b.good; cause = b.cause; part = λ x q. timely.part x (b.part x q) }) odd (λ h k was made. inl (failed_by c t a (OnSlot (SetOdd i)) found b i h n k was made nf)))
      (λ l. already_by c t a n code op i found broken (before (event c t.number (OnSlot (SetOdd i)) found) m) odd (λ h k was made. inr l))
      (timely.either c t a o ((world.final c t a).became ∙ ap (λ (x : Option Outcome). Some x) is) (OnSlot (SetOdd i)) found m)

  failed : (c : ℕ) (t : Task) (a : Asks clients c t) (n code : ℕ) → t.op ≡ ops.Fail n code → (i found : ℕ) → In (step (OnSlot (SetOdd i)) found) (trace_of c t.number es) → vref_version found % 2 ≡ 0 → (k : ℕ) × Contains g.fails (t.number, k)
  failed c t a n code op i found set even = let m = from_trace c t.number es (step (OnSlot (SetOdd i)) found) set in let b = before (event c t.number (OnSlot (SetOdd i)) found) m in
      let x = odd_means p clients outcomes broken orders es world broken b.story c t.number i found b.cause b.part (fails_life c t a n code op i found broken b.story b.cause) in
      let l = odd_life p clients outcomes broken orders es world broken b.story c t.number i found b.cause.task x even in (
        l.0,
        in_contains g.fails (t.number, l.0) (⊎_elim (λ y. y)
            (λ y. let s = y.1 in let who = (one_task p clients world.are c c s.0 t s.1 a s.2).1 in let q : ops.Send s.3 s.4 ≡ ops.Fail n code = sym s.5 ∙ (ap (λ (z : Task). z.op) who ∙ op) in absurd (cc))
            (g.all c t.number i found m even x.name l.0 l.1)),
      )

  after_hold : (c : ℕ) (t : Task) (a : Asks clients c t) (n : ℕ) (P : Outcome → Type 0) → LastHold n P (world.final c t a).before → AfterHold clients outcomes c t.number n P
  after_hold c t a n P h = let fin = world.final c t a in let x = last_hold n P fin.before fin.falls h in let y = fin.are x.0 x.1 in record {
    hold = x.0.task;
    is = task_of p clients outcomes broken orders es world c x.0.task y.0;
    op = x.2;
    before = y.2;
    last = λ u is more less. let z = fin.each u (asks_of p clients outcomes broken orders es world c u is) less in subst (λ (q : Task). q.op ≢ ops.Hold n) z.2 (x.6 z.0 z.1 (let e : z.0.task.number ≡ u.number = ap (λ (q : Task). q.number) z.2 in omega (arith, e, more)));
    outcome = x.3;
    became = y.1 ∙ ap (λ (o : Option Outcome). Some o) x.4;
    holds = x.5;
  }

  module _ (c : ℕ) (t : Task) (a : Asks clients c t) where
    abbrev outcome : Option Outcome
    outcome = (world.final c t a).outcome

    abbrev Holds : Op → Outcome → Type 0
    Holds op o = t.op ≡ op → outcome ≡ Some o → Because p.slots p.requests (world.final c t a).before (trace_of c t.number es) op o → OutcomeCause clients outcomes p g.fails few late orders c t.number op o

    no_setup : (op : Op) → t.op ≡ op → (IsOpen op → ⊥) → c ≡ 0 → ⊥
    no_setup op e no_open z = no_open (subst IsOpen e (setup_opens p clients world.are t (subst (λ n. Asks clients n t) z a)))

    zero_load : (n : ℕ) → In (step (OnName (LoadName n)) 0) (trace_of c t.number es) → In (event c t.number (OnName (LoadName n)) 0) es
    zero_load n m = from_trace c t.number es (step (OnName (LoadName n)) 0) m

    -- the outcome isn't that of an operation that failed a life
    not_failed : (o : Outcome) → outcome ≡ Some o → (o ≡ Failed → ⊥) → outcome ≢ Some Failed
    not_failed o e ne q = ne (one_some outcome o Failed e q)

    has_life : (n id : ℕ) → In (step (OnName (LoadName n)) (id + 1)) (trace_of c t.number es) → HasLife clients outcomes n
    has_life n id m = let l = named_life p clients outcomes broken orders es world c t.number n id (from_trace c t.number es (step (OnName (LoadName n)) (id + 1)) m) in (l.0, socket_id_slot id, socket_id_version id, l.1)

    why_open : (n k : ℕ) (o : Outcome) → Holds (ops.Open n k) o
    why_open n k (Opened slot version l) op e b = let x = birth_means p clients outcomes broken orders es world c t.number slot k b.1 (from_trace c t.number es (step (OnSlot (CreateLife slot k)) b.1) b.3) in
        (b.0, x.0, subst (λ z. z % 2 ≡ 0) (sym b.4) x.1, subst (λ z. p.first ≤ z) (sym b.4) x.2)
    why_open n k SlotsFull op e b = each_opened c t.number b
    why_open n k _ op e b = absurd b

    why_send : (n : ℕ) (bytes : List ℕ) (o : Outcome) → Holds (ops.Send n bytes) o
    why_send n bytes Unopened op e b = found_none c t a n (zero_load n b) (no_setup (ops.Send n bytes) op (λ x. x))
    why_send n bytes (Gone found) op e b = let ne = not_failed (Gone found) e (λ q. absurd (cc)) in ⊎_elim (λ x. gone c t a (Gone found) e n found.0 x ne) (λ x. looked_odd c t a (Gone found) e n found.0 x ne) b
    why_send n bytes Full op e b = (has_life n b.0.0 b.0.1, world.full (λ q l. let x = b.1 q l in (c, t.number, x.0, x.1, from_trace c t.number es (step (OnChain (ClaimRequest x.0 q)) x.1) x.2, x.3)))
    why_send n bytes _ op e b = absurd b

    why_hold : (n : ℕ) (o : Outcome) → Holds (ops.Hold n) o
    why_hold n Unopened op e b = found_none c t a n (zero_load n b) (no_setup (ops.Hold n) op (λ x. x))
    why_hold n (Gone found) op e b = gone c t a (Gone found) e n found.0 b (not_failed (Gone found) e (λ q. absurd (cc)))
    why_hold n Held op e b = has_life n b.0 b.1
    why_hold n _ op e b = absurd b

    why_fail : (n code : ℕ) (o : Outcome) → Holds (ops.Fail n code) o
    why_fail n code Unopened op e b = found_none c t a n (zero_load n b) (no_setup (ops.Fail n code) op (λ x. x))
    why_fail n code (Gone found) op e b = gone c t a (Gone found) e n found.0 b (not_failed (Gone found) e (λ q. absurd (cc)))
    why_fail n code (Already found) op e b = already c t a (Already found) e n code op b.0 found.0 b.1 b.2 (not_failed (Already found) e (λ q. absurd (cc)))
    why_fail n code Failed op e b = failed c t a n code op b.0 b.1 b.2 b.3
    why_fail n code _ op e b = absurd b

    why_drop : (n : ℕ) (o : Outcome) → Holds (ops.Drop n) o
    why_drop n NotHeld op e b = after_hold c t a n (λ x. x ≢ Held) b
    why_drop n Freed op e b = after_hold c t a n (λ x. x ≡ Held) b.0
    why_drop n Kept op e b = after_hold c t a n (λ x. x ≡ Held) b.0
    why_drop n _ op e b = absurd b

    why_each : (op : Op) (o : Outcome) → Holds op o
    why_each (ops.Open n k) o = why_open n k o
    why_each (ops.Send n bytes) o = why_send n bytes o
    why_each (ops.Hold n) o = why_hold n o
    why_each (ops.Drop n) o = why_drop n o
    why_each (ops.Fail n code) o = why_fail n code o
    why_each _ o = λ op e b. absurd b

    -- the outcome of a task has its cause
    pub why_told : (o : Outcome) → Became clients outcomes t.number o → OutcomeCause clients outcomes p g.fails few late orders c t.number t.op o
    why_told o became = let fin = world.final c t a in let q : fin.outcome ≡ Some o = one_said (slice_get outcomes t.number) fin.outcome (Some o) fin.became became in
        why_each t.op o refl q (subst (IsExplainedBy p.slots p.requests fin.before (trace_of c t.number es) t.op) q fin.explained).0
