-- Where no seat has anything left to do, the story tells why each task has its outcome, and what links accepted.
use Rattle.std.proofs.Common.{◌≡◌, ◌≢◌, ℕ, ◌+◌, ◌-◌, ◌%◌, ◌<◌, ◌⊎◌, Bool, true, false, List, inl, inr, ⊎_elim, sym, refl, ap, ◌∙◌, subst, arith}
use Rattle.std.specs.Prelude.{Option, Some, None, slice_get, Contains}
use Rattle.std.proofs.lemmas.List.{length-map}
use mathlib.Core.Option.{some}
use lib.ListN.{get_elem?}
use Rattle.sock_words.specs.PackedWords.{socket_id_version, socket_id_slot, vref_version}
use Rattle.sock_words.specs.declared.plain.Plan.{Plan}
use Rattle.sock_words.specs.declared.outcome.Outcome.{Outcome}
use Rattle.sock_words.specs.declared.outcome.Outcome.TheVariants.{Freed, Kept}
use Rattle.sock_model.specs.declared.chain.Entry.{Entry}
use Rattle.sock_model.specs.declared.chain.Heading.{Heading}
use Rattle.sock_model.specs.declared.view.View.{View}
use Rattle.sock_model.specs.Entries.{on}
use Rattle.sock_model.specs.LinksInSlots.{Failed}
use Rattle.seat_programs.specs.declared.task.Task.{Task}
use Rattle.seat_programs.specs.TableSteps.{TableStep, OnSlot, OnName, SubRef, Recycle, SetOdd, LoadName}
use Rattle.seat_programs.specs.Cores.{Core}
use Rattle.seat_programs.specs.declared.task.Op.{Op}
use Rattle.seat_programs.specs.declared.task.Op.TheVariants as ops
use Rattle.seat_programs.specs.Explained.{AreTasks, IsOpen, IsTask, Became, Made, IsFail}
use Rattle.seat_programs.specs.ExplainedCalls.{Accepted, Order, StandsAt}
use Rattle.outcome_ticks.specs.program_steps.specs.SoundSeats.{state, Sound, AllRest}
use Rattle.outcome_ticks.specs.outcome_stories.specs.OperationStories.{Event, In, trace_of}
use Rattle.outcome_ticks.specs.outcome_stories.specs.Explains.{step, Because, IsExplainedBy, WonRecycling, GaveBackOnly}
use Rattle.outcome_ticks.specs.outcome_stories.specs.StoryStepCauses.{Asks, WasGiven, WasFailed}
use Rattle.outcome_ticks.specs.outcome_stories.specs.KeptStory.{is_of_send, IsSpoken, Story}
use Rattle.outcome_ticks.specs.outcome_stories.specs.TaskCauses.{ToldTasks, DropsMade, IsSent, InOwnOrder}
use Rattle.std.specs.List.{filter}
use Rattle.std.specs.Prelude.{cond}
use Rattle.std.proofs.Common.{suc, [], ◌∷◌}
use Rattle.outcome_ticks.specs.outcome_stories.proofs.Members.{all_of, in_contains, from_trace, get_within}
use Rattle.outcome_ticks.proofs.TableTasksDistinct.{one_task, setup_opens, same_some}
use Rattle.outcome_ticks.proofs.SendingExplained.{Within}
use Rattle.outcome_ticks.proofs.EventsOfGoodStory.{event, BeforeIn, marked_fail, cause_of}
use Rattle.outcome_causes.proofs.Final.{Final, IsMessage, sends, at_there, final}
use Rattle.outcome_causes.proofs.LivesByTask.{World, task_of, asks_of, named_life, one_life, given_made, given_later, link_means, fail_is}
use Rattle.outcome_causes.proofs.OperationsThatFailLives.{Gathered, IsSender, gather}
use Rattle.outcome_causes.proofs.WhyOfEachOutcome.{Timely, why_told}
use Rattle.outcome_ticks.specs.outcome_stories.proofs.Delivered.{accepted_of, orders_of, AreQuiet, places_all, dropped_failed}
use Rattle.outcome_ticks.specs.outcome_stories.proofs.SendersOfLogEntries.{HasSent, all_sent, each_before, sent_stands}
use Rattle.outcome_causes.proofs.Worlds.{quiet, world_of}
use Rattle.outcome_causes.proofs.MessagesOfTasks.{number_of, each_made, message_of, call_of, sooner}

-- links that were lost are among these
module _ (p : Plan) (clients : List (List Task)) (are : AreTasks p clients) (over : Bool) (c : Core) (vs : List View) (es : List Event) (failed broken : List ℕ) (within : Within failed broken) (sound : Sound p c vs) (story : Story p clients over c vs es failed) (settled : AllRest c)
    (few : List ℕ) (late : ℕ → Type 0) (timely : Timely p clients c.outcomes es few late) where
  abbrev orders : ℕ → Order
  orders = orders_of p c vs sound.lawful

  abbrev all_quiet : AreQuiet vs
  all_quiet = quiet p c vs sound settled

  abbrev each_final : (i : ℕ) (t : Task) → Asks clients i t → Final p.slots p.requests clients es c.outcomes i t
  each_final = final p clients are over c vs es failed sound story settled

  abbrev world : World p clients c.outcomes broken orders es
  world = world_of p clients are over c vs es failed broken within sound story settled

  all_fails : Gathered p clients c.outcomes broken orders es world es
  all_fails = gather p clients c.outcomes broken orders es world es world.good (λ x m. m)

  -- ## What the links accepted

  abbrev IsOf : ℕ → Entry → Type 0
  IsOf i e = IsMessage p clients are over c vs es failed sound story settled i e

  of_seat : (i n : ℕ) (e : Entry) → HasSent vs i n e → is_of_send e ≡ true → IsOf i e
  of_seat i n e h is = message_of p clients are over c vs es failed sound story settled i n e h is

  of_call : (i n : ℕ) (e : Entry) → HasSent vs i n e → is_of_send e ≡ false → IsSpoken clients e.heading.label.operation
  of_call i n e h is = call_of p clients are over c vs es failed sound story settled i n e h is

  numbered : (i : ℕ) (e : Entry) (x : IsOf i e) → e.heading.label.operation ≡ x.task.number
  numbered i e x = number_of p clients are over c vs es failed sound story settled i e x

  -- a task of which nothing is said had its message accepted
  untold_stands : (i : ℕ) (t : Task) → Asks clients i t → slice_get c.outcomes t.number ≡ Some None → (k j : ℕ) × (a : Accepted) × (k < p.links) × StandsAt orders k j a × (a.operation ≡ t.number) × (a.attempt ≡ 0)
  untold_stands i t asks none_ = let inside = get_within clients i asks.0 asks.1 in let u = at_there vs i (omega (arith, story.each, sound.each, inside)) in
      let s = sends p clients are over c vs es failed sound story settled i u.0 u.1 in let x = s.each_sent t asks none_ in let n = kept_at is_of_send s.made x.0 x.1 in
      let h : HasSent vs i n.0 x.0 = record { view = u.0; here = u.1; made = s.made; lists = s.lists; stands = n.1 } in
      let y = sent_stands p c vs sound.lawful i n.0 x.0 h in (x.0.link, y.1, accepted_of x.0, y.0, y.2, ap (λ (z : Heading). z.label.operation) x.2.heading, ap (λ (z : Heading). z.label.attempt) x.2.heading)
    where
      kept_at : (f : Entry → Bool) (xs : List Entry) (x : Entry) → In x (filter f xs) → (n : ℕ) × (get_elem? xs n ≡ some x)
      kept_at f [] x m = absurd m
      kept_at f (y ∷ ys) x m = by_test (f y) (kept_at f ys x) m
        where
          by_test : (b : Bool) → (In x (filter f ys) → (n : ℕ) × (get_elem? ys n ≡ some x)) → In x (cond b (y ∷ filter f ys) (filter f ys)) → (n : ℕ) × (get_elem? (y ∷ ys) n ≡ some x)
          by_test true later (inl e) = (0, ap (λ (z : Entry). some z) (sym e))
          by_test true later (inr m) = let t = later m in (suc t.0, t.1)
          by_test false later m = let t = later m in (suc t.0, t.1)

  told_or_sent : (i : ℕ) (t : Task) → IsTask clients c.outcomes i t → ((outcome : Outcome) × Became clients c.outcomes t.number outcome) ⊎ ((k j : ℕ) × (a : Accepted) × (k < p.links) × StandsAt orders k j a × (a.operation ≡ t.number) × (a.attempt ≡ 0))
  told_or_sent i t is = let asks = asks_of p clients c.outcomes broken orders es world i t is in let f = each_final i t asks in by asks f.outcome f.became
    where
      by : Asks clients i t → (x : Option Outcome) → slice_get c.outcomes t.number ≡ Some x → ((outcome : Outcome) × Became clients c.outcomes t.number outcome) ⊎ ((k j : ℕ) × (a : Accepted) × (k < p.links) × StandsAt orders k j a × (a.operation ≡ t.number) × (a.attempt ≡ 0))
      by asks (Some outcome) e = inl (outcome, e)
      by asks None e = inr (untold_stands i t asks e)

  -- what a link accepted was sent to its socket
  sent_to : (k i n : ℕ) (e : Entry) → HasSent vs i n e → is_of_send e ≡ true → e.link ≡ k → IsSent clients c.outcomes k (accepted_of e)
  sent_to k i n e h send link = let x = of_seat i n e h send in let t = x.of_task in
      let life = named_life p clients c.outcomes broken orders es world i x.task.number t.name t.id (from_trace i x.task.number es (step (OnName (LoadName t.name)) (t.id + 1)) t.load) in
      let given = given_made p clients c.outcomes broken orders es world (socket_id_slot t.id) (socket_id_version t.id) e.link t.link in
      let same : life.0 ≡ e.link = (one_life p clients c.outcomes broken orders es world t.name given.0 life.0 e.link (socket_id_slot t.id) (socket_id_version t.id) life.1 given.1).1 in record {
        client = i;
        task = x.task;
        is = task_of p clients c.outcomes broken orders es world i x.task x.asks;
        numbered = sym (numbered i e x);
        name = t.name;
        op = t.op;
        first = ap (λ (z : Heading). z.label.attempt) t.heading;
        slot = socket_id_slot t.id;
        version = socket_id_version t.id;
        life = subst (λ z. Made clients c.outcomes t.name z (socket_id_slot t.id) (socket_id_version t.id)) (same ∙ link) life.1;
        untold = subst (λ z. slice_get c.outcomes z ≡ Some None) (sym (numbered i e x)) x.untold;
      }

  sent_or_call : (k i n : ℕ) (e : Entry) → HasSent vs i n e → e.link ≡ k → IsSent clients c.outcomes k (accepted_of e) ⊎ IsSpoken clients e.heading.label.operation
  sent_or_call k i n e h link = by (is_of_send e) refl
    where
      by : (b : Bool) → is_of_send e ≡ b → IsSent clients c.outcomes k (accepted_of e) ⊎ IsSpoken clients e.heading.label.operation
      by true is = inl (sent_to k i n e h is link)
      by false is = inr (of_call i n e h is)

  -- a task's message isn't a call's
  of_task : (i j n : ℕ) (e : Entry) (t : Task) → HasSent vs j n e → IsTask clients c.outcomes i t → t.number ≡ e.heading.label.operation → is_of_send e ≡ true
  of_task i j n e t h is same = by (is_of_send e) refl
    where
      by : (b : Bool) → is_of_send e ≡ b → is_of_send e ≡ true
      by true e = e
      by false not_ = absurd (of_call j n e h not_ i t (asks_of p clients c.outcomes broken orders es world i t is) same)

  -- by each client in the order of its operations
  own_before : (i m n : ℕ) (a b : Entry) → HasSent vs i m a → HasSent vs i n b → m < n → InOwnOrder clients c.outcomes (accepted_of a) (accepted_of b)
  own_before i m n a b g h l = λ c' t u is ir q r. let s = sooner p clients are over c vs es failed sound story settled i m n a b g h (of_task c' i m a t g is q) (of_task c' i n b u h ir r) l in omega (arith, s, q, r)

  other_before : (i j m n : ℕ) (a b : Entry) → i ≢ j → HasSent vs i m a → HasSent vs j n b → InOwnOrder clients c.outcomes (accepted_of a) (accepted_of b)
  other_before i j m n a b far g h = λ c' t u is ir q r. let x = of_seat i m a g (of_task c' i m a t g is q) in let y = of_seat j n b h (of_task c' j n b u h ir r) in
      absurd (far (sym (one_task p clients are c' i t x.task (asks_of p clients c.outcomes broken orders es world c' t is) x.asks (q ∙ numbered i a x)).0
      ∙ (one_task p clients are c' j u y.task (asks_of p clients c.outcomes broken orders es world c' u ir) y.asks (r ∙ numbered j b y)).0))

  -- ## Messages that were dropped

  -- the life of a link was failed by an operation, or the link was lost
  link_failed : (k : ℕ) → Failed p (state c vs) k → Contains broken k ⊎ ((fail : ℕ) × Contains all_fails.fails (fail, k))
  link_failed k f = let inside = f.life.inside in let tie = story.links f.slot inside f.version k in let given : WasGiven es f.slot f.version k = omega (arith, tie, f.life.given) in
      let m = given_made p clients c.outcomes broken orders es world f.slot f.version k given in ⊎_elim
      (λ marked. let y = marked_fail es f.slot f.version marked in
      ⊎_elim (λ there. inr (y.number, in_contains all_fails.fails (y.number, k) there)) (λ r. inl (in_contains broken k r.0))
      (all_fails.all y.client y.number f.slot y.found y.is y.even m.0 k (subst (λ z. Made clients c.outcomes m.0 k f.slot z) (sym y.version) m.1)))
      (λ lost. let g = given_made p clients c.outcomes broken orders es world f.slot f.version lost.0 lost.2 in
      let same : k ≡ lost.0 = (one_life p clients c.outcomes broken orders es world m.0 g.0 k lost.0 f.slot f.version m.1 g.1).1 in inl (in_contains broken k (within k (subst (λ z. In z failed) (sym same) lost.1))))
      (story.lost f.slot inside f.version f.failed)

  -- each task has its outcome or its message was accepted, each outcome its cause, and each message its link
  pub told_tasks : ToldTasks clients c.outcomes p orders broken few late
  told_tasks = record {
    within = λ k kl. omega (arith, sound.lawful.delivered.kept_fits k kl, places_all p c vs sound.lawful all_quiet k kl, length-map (on k sound.lawful.log) accepted_of);
    told = told_or_sent;
    fails = all_fails.fails;
    are = all_of (IsFail clients c.outcomes) all_fails.fails (λ f m. fail_is p clients c.outcomes broken orders es world f (all_fails.are f m));
    once = all_fails.once;
    lives = λ n k m l slot version a b. (one_life p clients c.outcomes broken orders es world n m k l slot version a b).0;
    why = λ i t outcome is became. why_told p clients c.outcomes broken orders es world all_fails few late timely i t (asks_of p clients c.outcomes broken orders es world i t is) outcome became;
    sent = λ k kl. all_sent p c vs sound.lawful (each_made p clients are over c vs es failed sound story settled) (λ (a : Accepted). IsSent clients c.outcomes k a ⊎ IsSpoken clients a.operation) k (sent_or_call k);
    own_order = λ k kl. each_before p c vs sound.lawful (each_made p clients are over c vs es failed sound story settled) (InOwnOrder clients c.outcomes) k own_before other_before;
    dropped = λ k kl less. link_failed k (dropped_failed p c vs sound.lawful all_quiet k kl (omega (arith, less, length-map (on k sound.lawful.log) accepted_of)));
  }

  -- ## Links that failed in time

  -- a life that was failed in the story so far was so by an operation that counts, or its link was lost so far
  failed_so : (j h k : ℕ) → WasGiven timely.story j h k → WasFailed few timely.story j h → Contains few k ⊎ ((fail : ℕ) × Contains all_fails.fails (fail, k))
  failed_so j h k given (inr lost) = let m = given_made p clients c.outcomes broken orders es world j h k (given_later p clients c.outcomes broken orders es world timely.story es timely.part j h k given) in
      let g = given_made p clients c.outcomes broken orders es world j h lost.0 (given_later p clients c.outcomes broken orders es world timely.story es timely.part j h lost.0 lost.2) in
      let same : k ≡ lost.0 = (one_life p clients c.outcomes broken orders es world m.0 g.0 k lost.0 j h m.1 g.1).1 in inl (in_contains few k (subst (λ z. In z few) (sym same) lost.1))
  failed_so j h k given (inl was) = let made = given_made p clients c.outcomes broken orders es world j h k (given_later p clients c.outcomes broken orders es world timely.story es timely.part j h k given) in let y = marked_fail timely.story j h was in let e : Event = event y.client y.number (OnSlot (SetOdd j)) y.found in
      let m : In e es = timely.part e y.is in ⊎_elim
      (λ there. inr (y.number, in_contains all_fails.fails (y.number, k) there))
      (λ r. inl (in_contains few k (refused_in made.0 made.1 y.client y.number y.found (cause_of p clients few timely.story timely.good e y.is) y.even y.version r.1)))
      (all_fails.all y.client y.number j y.found m y.even made.0 k (subst (λ z. Made clients c.outcomes made.0 k j z) (sym y.version) made.1))
    where
      refused_in : (n : ℕ) → Made clients c.outcomes n k j h → (d o found : ℕ) → (x : BeforeIn p clients few timely.story (event d o (OnSlot (SetOdd j)) found)) → vref_version found % 2 ≡ 0 → vref_version found ≡ h → IsSender p clients c.outcomes broken orders es world d o → In k few
      refused_in n made d o found x even version sends = ⊎_elim
          (λ f. let q : ops.Send sends.3 sends.4 ≡ ops.Fail f.0 f.1 = sym sends.5 ∙ (ap (λ (z : Task). z.op) (one_task p clients are d d sends.0 x.cause.task sends.1 x.cause.is (sends.2 ∙ sym x.cause.numbered)).1 ∙ f.4) in absurd (cc))
          (λ f. let l = link_means p clients c.outcomes broken orders es world few x.story d o j found x.cause (λ z m. timely.part z (x.part z m)) f in
          let v : h ≡ socket_id_version l.id = sym version ∙ l.odd.0 even in
          let other = given_made p clients c.outcomes broken orders es world j (socket_id_version l.id) l.link l.given in
          let same : k ≡ l.link = (one_life p clients c.outcomes broken orders es world n other.0 k l.link j (socket_id_version l.id) (subst (λ z. Made clients c.outcomes n k j z) v made) other.1).1 in subst (λ z. In z few) (sym same) l.refused)
          x.cause.fits

  -- what is told, and why a link failed in time
  pub record Tells : Type 0 where
    pub tells : ToldTasks clients c.outcomes p orders broken few late
    pub early : (j h k : ℕ) → WasGiven timely.story j h k → WasFailed few timely.story j h → Contains few k ⊎ ((fail : ℕ) × Contains tells.fails (fail, k))

  pub told_so : Tells
  unfolding told_tasks
  told_so = record { tells = told_tasks; early = failed_so }

  -- ## Drops

  -- where of each step of the story but the setup's this holds
  module _ (Shown : ℕ → ℕ → TableStep → ℕ → Type 0) (steps : (e : Event) → In e es → (e.client ≡ 0) ⊎ Shown e.client e.number e.entry.call e.entry.found) where
    made_step : (i o : ℕ) → (i ≡ 0 → ⊥) → (call : TableStep) (found : ℕ) → In (step call found) (trace_of i o es) → Shown i o call found
    made_step i o later call found m = ⊎_elim (λ z. absurd (later z)) (λ x. x) (steps (event i o call found) (from_trace i o es (step call found) m))

    -- the setup has no drops
    drops_later : (i n : ℕ) (t : Task) → Asks clients i t → t.op ≡ ops.Drop n → i ≡ 0 → ⊥
    drops_later i n t asks op z = subst IsOpen op (setup_opens p clients are t (subst (λ k. Asks clients k t) z asks))

    because : (i : ℕ) (t : Task) (asks : Asks clients i t) (op : Op) (o : Outcome) → t.op ≡ op → Became clients c.outcomes t.number o → Because p.slots p.requests (each_final i t asks).before (trace_of i t.number es) op o
    because i t asks op o is became = let fin = each_final i t asks in let q : fin.outcome ≡ Some o = same_some (slice_get c.outcomes t.number) fin.outcome (Some o) fin.became became in
        subst (λ (z : Op). Because p.slots p.requests fin.before (trace_of i t.number es) z o) is (subst (IsExplainedBy p.slots p.requests fin.before (trace_of i t.number es) t.op) q fin.explained).0

    -- each drop was answered by what its own steps did
    pub drops_told : DropsMade clients c.outcomes Shown
    drops_told = record {
      freed = λ i t n is op became. let asks = asks_of p clients c.outcomes broken orders es world i t is in let x = because i t asks (ops.Drop n) Freed op became in let w : WonRecycling (trace_of i t.number es) = x.1 in
          (w.0, w.1, made_step i t.number (drops_later i n t asks op) (OnSlot (Recycle w.0 w.1)) w.1 w.2);
      kept = λ i t n is op became. let asks = asks_of p clients c.outcomes broken orders es world i t is in let x = because i t asks (ops.Drop n) Kept op became in let g : GaveBackOnly (trace_of i t.number es) = x.1 in
          let later = drops_later i n t asks op in
          (g.0, g.1, made_step i t.number later (OnSlot (SubRef g.0)) g.1 g.2, ⊎_elim (λ none_. inl none_) (λ lost. inr (lost.0, made_step i t.number later (OnSlot (Recycle g.0 (g.1 - 1))) lost.0 lost.1, lost.2)) g.3);
    }
