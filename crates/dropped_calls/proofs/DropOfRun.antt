-- Why each error was posted for a message that was dropped: it is that of an attempt that stands dropped in the end, and its code is that of a link that failed, of the ending, of a reader, or of a `fail` that failed the socket of the message's link.
use Rattle.std.proofs.Common.{true, false, ◌≡◌, ◌≢◌, ℕ, ◌+◌, ◌*◌, ◌%◌, ◌<◌, ◌≤◌, ◌⊎◌, ◌==◌, if◌then◌else◌, Bool, inl, inr, ⊎_elim, ne_eqb, eq-eqb, List, [], ◌∷◌, length, get_or, nat_le, leb-true, refl, sym, ap, ◌∙◌, subst, arith}
use Rattle.std.proofs.lemmas.Bool.{true≢false}
use Rattle.std.specs.Prelude.{Option, Some, slice_get, slice_index}
use Rattle.std.specs.List.{AllByRecursion}
use mathlib.Core.Logic.{dite}
use mathlib.Core.Option.{some, some-ne-none}
use native.Mathlib.Decide.{ℕ_discrete}
use lib.ListN.{get_elem?}
use Rattle.seat_programs.specs.brpc_model.specs.Items.{Item}
use Rattle.seat_programs.specs.brpc_model.specs.Operations.{Turn}
use Rattle.sock_words.specs.PackedWords.{socket_id, socket_id_slot, socket_id_version, vref_version, place_word}
use Rattle.sock_words.specs.declared.outcome.Outcome.{Outcome}
use Rattle.sock_words.specs.declared.outcome.Outcome.TheVariants.{Failed}
use Rattle.sock_model.specs.declared.chain.Entry.{Entry}
use Rattle.sock_model.specs.declared.chain.Heading.{Heading}
use Rattle.sock_words.specs.declared.plain.Plan.{Plan}
use Rattle.sock_model.specs.declared.view.View.{View}
use Rattle.sock_model.specs.Entries.{on}
use Rattle.sock_model.specs.SocketTableLayout.{open_index, place_index, request_index}
use Rattle.sock_model.specs.Rule.{lists_of}
use Rattle.ended_calls.specs.refused_attempts.specs.Below.sock_steps.proofs.Positions.{few_log, on_shorter}
use Rattle.ended_calls.specs.refused_attempts.specs.Below.slot_steps.proofs.RuleNumbers.{life_le, life_is}
use Rattle.ended_calls.specs.refused_attempts.specs.Below.slot_steps.proofs.SlotWeightSums.{total_bound}
use Rattle.ended_calls.specs.refused_attempts.specs.Below.chain_steps.proofs.UntouchedByChainSteps.{in_log}
use Rattle.corr_core.specs.IdSlotWord.{error_of, code_of, attempt_of}
use Rattle.corr_core.proofs.NoteSums.{at_length}
use Rattle.sock_message.specs.Asked.{Asked}
use Rattle.seat_programs.specs.declared.task.Op.TheVariants as ops
use Rattle.seat_programs.specs.declared.task.Task.{Task}
use Rattle.seat_programs.specs.TableSteps.{OnSlot, OnChain, OnPlace, CreateLife, SetOdd, ClaimRequest, LoadCode, DropPlace}
use Rattle.seat_programs.specs.Cores.{Core}
use Rattle.seat_programs.specs.Tasks.{opens, plan_of, id_plan_of}
use Rattle.seat_programs.specs.ScriptSetupToEnding.{all_tasks, IsRunWithCalls}
use Rattle.seat_programs.specs.Explained.{AreTasks, IsTask, Became, Made}
use Rattle.seat_programs.specs.ExplainedCalls.{Accepted, Order, IsAt}
use Rattle.seat_programs.specs.Writings.{Puts}
use Rattle.ended_calls.specs.refused_attempts.specs.Below.programs_allowed.specs.program_steps.specs.SoundSeats.{state, Sound, AllRest, MOST_PLACES}
use Rattle.ended_calls.specs.refused_attempts.specs.Below.programs_allowed.specs.program_steps.specs.ProgramGoesOn.{GoesOn, HasNothing}
use Rattle.sock_model.specs.References.{slot_facts}
use Rattle.sock_model.specs.SocketSlotLaw.{SlotLaw, live, count}
use Rattle.sock_model.specs.MarkWeights.{is_born}
use Rattle.ended_calls.specs.refused_attempts.specs.Below.slot_steps.proofs.SlotLawClauses.{taken_for}
use Rattle.ended_calls.specs.refused_attempts.specs.Below.programs_allowed.specs.sock_runs.proofs.LinksStay.{IsGiven}
use Rattle.ended_calls.specs.refused_attempts.specs.Below.programs_allowed.specs.program_steps.proofs.SlotWordBounds.{lives_le}
use Rattle.ended_calls.specs.refused_attempts.specs.Below.programs_allowed.specs.program_walks.proofs.Recorded.{Recorded, Stands, run_recorded}
use Rattle.ended_calls.specs.refused_attempts.specs.Below.programs_allowed.specs.program_walks.proofs.Records.{next_stores}
use Rattle.ended_calls.specs.refused_attempts.specs.Below.programs_allowed.specs.program_walks.proofs.WholeScriptSound.{IsListed, views_closed, views_ended, closed_sound, recorded_closed, ended_sound, end_rests}
use Rattle.ended_calls.specs.refused_attempts.specs.Below.outcome_stories.specs.StoryStepCauses.{WasGiven, Cause}
use Rattle.ended_calls.specs.refused_attempts.specs.Below.outcome_stories.specs.Explains.{FailsLife, FailsLink, is_plain, step}
use Rattle.ended_calls.specs.refused_attempts.specs.Below.outcome_stories.specs.KeptStory.{IsSpoken, StaysUsed, Story}
use Rattle.ended_calls.specs.refused_attempts.specs.Below.outcome_stories.specs.PlainTasks.{told_tasks_of}
use Rattle.ended_calls.specs.refused_attempts.specs.Below.outcome_stories.specs.OperationStories.{Event, In, trace_of}
use Rattle.ended_calls.specs.refused_attempts.specs.Below.outcome_stories.proofs.Delivered.{accepted_at, AreQuiet, requests_used}
use Rattle.ended_calls.specs.refused_attempts.specs.Below.outcome_causes.proofs.ExplainedOpenings.{are_seats}
use Rattle.ended_calls.specs.refused_attempts.specs.Below.outcome_ticks.proofs.EventsOfGoodStory.{event, BeforeIn, cause_of, in_marked, birth_adds, marked_given}
use Rattle.ended_calls.specs.refused_attempts.specs.Below.outcome_causes.proofs.Final.{at_there, idle, final}
use Rattle.ended_calls.specs.refused_attempts.specs.Below.outcome_ticks.proofs.Lifted.{up, task_up, made_up, made_down}
use Rattle.ended_calls.specs.refused_attempts.specs.Below.outcome_causes.proofs.LivesByTask.{World, birth_means, task_of, given_made, one_life, odd_means, odd_life, fail_says}
use Rattle.ended_calls.specs.refused_attempts.specs.Below.outcome_stories.proofs.Members.{all_in, contains_in, in_contains}
use Rattle.ended_calls.specs.refused_attempts.specs.Below.outcome_ticks.proofs.TableTasksDistinct.{one_task}
use Rattle.ended_calls.specs.refused_attempts.specs.Below.programs_allowed.specs.SeatOpenings.{all_seats}
use Rattle.ended_calls.specs.refused_attempts.specs.Below.programs_allowed.proofs.FreshSeatsAtStart.{opening_fresh, opening_claims}
use Rattle.ended_calls.specs.refused_attempts.specs.Below.joint_runs.proofs.RunsOfBothTables.{AreMade, first_views, joint_runs, joint_bounded}
use Rattle.ended_calls.specs.refused_attempts.specs.Below.call_owing.specs.LivesOfLinks.{ClosesInRun}
use Rattle.ended_calls.specs.refused_attempts.specs.Below.call_stories.specs.PostsOfRun.{Post}
use Rattle.ended_calls.specs.refused_attempts.specs.accept_counts.specs.RefusedOrDropped.{Deed, DidStep, DidRound, DidInRun, IsDrop}
use Rattle.ended_calls.specs.refused_attempts.specs.sent_once.proofs.OtherTasksBesideCalls.{gave_of_run, fixed_of_run, orders_here}
use Rattle.ended_calls.specs.refused_attempts.specs.accept_counts.proofs.EarlyClosedSockets.{start, go, fitting}
use Rattle.ended_calls.specs.refused_attempts.specs.accept_counts.proofs.RunsKeepAttemptLaw.{AreLabelledIn, IsCallOf, end_law}
use Rattle.ended_calls.specs.refused_attempts.specs.sent_once.proofs.SocketOperationsTold.{owed, narrow, orders_are}
use Rattle.ended_calls.specs.refused_attempts.specs.sent_once.proofs.SourcesOfSocketCodes.{IsOtherCode}
use Rattle.ended_calls.specs.refused_attempts.specs.sent_once.proofs.DropPlaces.{log_few}
use Rattle.ended_calls.specs.refused_attempts.specs.sent_once.proofs.DropRuns.{IsCalls, IsDropAt, Tells}
use Rattle.ended_calls.specs.refused_attempts.specs.sent_once.proofs.DropTicks.{FailedWith}
use Rattle.ended_calls.specs.refused_attempts.specs.sent_once.proofs.DropWhole as whole
use Rattle.ended_calls.specs.refused_attempts.specs.Below.owned_ids.proofs.OpensStored.{place_at}

-- the parts of an error
decodes : (code n : ℕ) → n ≤ 6 → (attempt_of (error_of code n) ≡ n) × (code_of (error_of code n) ≡ code)
decodes code n few = (omega (arith, few), omega (arith, few))

module _ (script : List Item) (made : AreMade script) (turns : List Turn) (core : Core) (is : IsRunWithCalls script turns core) (closes : ClosesInRun script turns core is) (ids : ℕ → ℕ) (labelled : AreLabelledIn ids script turns core is) where
  abbrev p : Plan
  p = plan_of script

  abbrev told : List (List Task)
  told = told_tasks_of script

  -- what the links accepted
  abbrev orders : ℕ → Order
  orders = orders_here script made turns core is closes

  abbrev views : List View
  views = views_ended script turns core is (first_views script)

  fresh : (i : ℕ) (v : View) → get_elem? (first_views script) i ≡ some v → v.lists ≡ [] ∷ []
  fresh = opening_fresh p (all_seats (all_tasks script) (length (opens script)))

  bare : (i : ℕ) (v : View) → get_elem? (first_views script) i ≡ some v → v.claims ≡ []
  bare = opening_claims p (all_seats (all_tasks script) (length (opens script)))

  abbrev TellsHere : List Event → Deed → Type 0
  TellsHere es deed = Tells p (id_plan_of script) (IsCallOf script) ids told core es deed

  -- the story to the end of the run, and what the deeds of the run tell
  pub record EndStory : Type 0 where
    pub events : List Event
    pub lost : List ℕ
    pub story : Story p told true core views events lost
    pub tells : (seat : ℕ) (deed : Deed) → DidInRun script turns core is seat deed → TellsHere events deed

  pub ends : EndStory
  ends = let runs = joint_runs script turns core is made in let b = joint_bounded script turns core is made runs in
      let s = whole.story_end script made.are (first_views script) (start script made turns core is) fresh bare (go script made turns core is) turns core is (fitting script made turns core is) (narrow script made turns core is closes)
      ids labelled _ _ b.setup b.clients b.closing b.final in record {
        events = _;
        lost = s.0;
        story = s.1;
        tells = whole.run_tells script made.are (first_views script) (start script made turns core is) fresh bare (go script made turns core is) turns core is (fitting script made turns core is) (narrow script made turns core is closes)
            ids labelled _ _ b.setup b.clients b.closing b.final;
      }

  -- ## Where a message stands that was dropped

  abbrev pub end_sound : Sound p core views
  end_sound = ended_sound script made.are (first_views script) (start script made turns core is) (go script made turns core is) turns core is (fitting script made turns core is)

  -- a call's message was dropped, so its attempt stands so on the link
  pub record IsDroppedOn (o n k : ℕ) : Type 0 where
    pub place : ℕ
    pub at : IsAt p (all_tasks script) core.outcomes (fixed_of_run script made turns core is closes) (gave_of_run script made turns core is closes) orders o n k place
    pub late : (orders k).placed ≤ place

  -- few messages are accepted
  few_accepted : (k i : ℕ) (e : Entry) → get_elem? (on k end_sound.lawful.log) i ≡ some e → i < 2147483648
  few_accepted k i e at = let runs = joint_runs script turns core is made in let b = joint_bounded script turns core is made runs in let f = b.over in let few = f.few in
      let all = few_log views end_sound.lawful.log end_sound.lawful.authors
      (let n = few.few_seats in let t = total_bound lists_of 1 views (λ j v there. (few.short j v there).0) in omega (arith, n, t)) (λ j v there. (few.short j v there).1) in
      let less = at_length (on k end_sound.lawful.log) i e at in let shorter = on_shorter k end_sound.lawful.log in omega (arith, all, less, shorter)

  few_attempts : (k i : ℕ) (e : Entry) → get_elem? (on k end_sound.lawful.log) i ≡ some e → e.heading.label.attempt ≤ 6
  few_attempts k i e at = let l = in_log end_sound.lawful.chains k i e at in let s = ends in
      let law = end_law script made.are (first_views script) (start script made turns core is) (go script made turns core is) turns core is (fitting script made turns core is) (narrow script made turns core is closes) (λ j v there. (bare j v there, fresh j v there))
      ids labelled in
      log_few p (id_plan_of script) (IsCallOf script) ids told true core views
      s.events s.lost end_sound s.story law.0 law.1 l.0 e l.1

  -- by the place word
  dropped_by : (o n l k m : ℕ) → IsDropAt p (id_plan_of script) (IsCallOf script) ids told core l k m
      → IsSpoken told o → n ≤ 6 → l ≡ 8 * o + n → IsDroppedOn o n k
  dropped_by o n l k m x spoken few label_is = let word = x.word o n spoken (omega (arith, few)) label_is in let are = orders_are script made turns core is closes in ⊎_elim
      (λ z. let none_ : get_or core.words (place_index p l) 0 ≡ 0 = z in absurd (omega (arith, word, none_)))
      (λ y. let j : ℕ = y.0 in let i : ℕ = y.1 in let a : Accepted = y.2 in let e = accepted_at (on j end_sound.lawful.log) i a y.4 in let low = few_accepted j i e.0 e.1 in let small = few_attempts j i e.0 e.1 in
      let attempt : a.attempt ≤ 6 = subst (λ (z : Accepted). z.attempt ≤ 6) e.2 small in let limits = end_sound.limits in let links = limits.links in
      let shown : get_or core.words (place_index p l) 0 ≡ place_word (nat_le (orders j).placed i) j i = ap (λ z. get_or core.words (place_index p z) 0) y.5 ∙ are.written j i a y.3 y.4 in
      by j i a y.3 y.4 (omega (arith, y.5, label_is, attempt, few)) (omega (arith, y.5, label_is, attempt, few)) low (nat_le (orders j).placed i) refl shown word links x.link x.small)
      (are.alone l x.low)
    where
      by : (j i : ℕ) (a : Accepted) → j < p.links → slice_get (orders j).accepted i ≡ Some a → a.operation ≡ o → a.attempt ≡ n → i < 2147483648 → (b : Bool) → nat_le (orders j).placed i ≡ b
          → get_or core.words (place_index p l) 0 ≡ place_word b j i → get_or core.words (place_index p l) 0 ≡ place_word true k m → p.links ≤ 256 → k < p.links → m < MOST_PLACES → IsDroppedOn o n k
      by j i a jl at op att low true late shown word links kl small = let same : j ≡ k = omega (arith, shown, word, low, small) in record {
        place = i;
        at = (kl, a, subst (λ z. slice_get (orders z).accepted i ≡ Some a) same at, op, att);
        late = subst (λ z. (orders z).placed ≤ i) same (leb-true (orders j).placed i late);
      }
      by j i a jl at op att low false late shown word links kl small = absurd (omega (arith, shown, word, low, jl, links))

  -- ## Who failed a life

  seats : AreTasks p told
  seats = are_seats p (all_tasks script) made.are (length (opens script))

  pub settled : AllRest core
  settled = end_rests script made.are (first_views script) (start script made turns core is) (go script made turns core is) turns core is (fitting script made turns core is) (owed script made turns core is closes)

  quiet : AreQuiet views
  quiet i v at = let seat = at_there core.seats i (let l = at_length views i v at in let e = end_sound.each in omega (arith, l, e)) in
      let n : HasNothing v = subst (GoesOn p v) (settled i seat.0 seat.1) (end_sound.seats i seat.0 v seat.1 at).goes_on in n.quiet

  slot_law : (j : ℕ) → j < p.slots → SlotLaw p.first (live (slot_facts (state core views) j)) (slot_facts (state core views) j)
  slot_law j l = end_sound.lawful.references.slots j l

  -- a request that was found claimed was used
  word_used : (q i u id found : ℕ) → In (event i u (OnChain (ClaimRequest id q)) found) ends.events → found % 2 ≡ 1 → slice_index core.words (request_index p q) ≢ 0
  word_used q i u id found m odd = let s = ends.story in let x : StaysUsed p core.words (step (OnChain (ClaimRequest id q)) found) = s.used (event i u (OnChain (ClaimRequest id q)) found) m in let y = (x odd).1 in λ e. omega (arith, y, e)

  world : World p told core.outcomes ends.lost orders ends.events
  world = let s = ends.story in record {
    are = seats;
    few = (let limits = end_sound.limits in limits.slots);
    good = s.good;
    final = λ i t a. final p told seats true core views ends.events ends.lost end_sound ends.story settled i t a;
    born_once = λ j l h. (let a = s.births j l h in let b = (slot_law j l).born h in let c = life_le p.first h ((slot_facts (state core views) j).version + live (slot_facts (state core views) j)) in omega (arith, a, b, c));
    failed_once = λ j l h. (let a = s.fails j l h in let b = (slot_law j l).failed h in let c = life_le p.first h (slot_facts (state core views) j).version in omega (arith, a, b, c));
    tried_born = λ j l t. let a = s.tries j l in ⊎_elim
        (λ claimed. let b = idle p told seats true core views ends.events ends.lost end_sound ends.story settled j in absurd (omega (arith, claimed, b)))
        (λ born. let b = s.births j l p.first in omega (arith, b, born))
        (taken_for p.first (slot_facts (state core views) j) (slot_law j l) end_sound.lawful.fits.even (omega (arith, a, t)));
    full = λ h. requests_used p core views end_sound.lawful quiet (λ q l. let x = h q l in word_used q x.0 x.1 x.2 x.3 x.4 x.5);
  }

  -- a `fail` with this code was answered `failed`: it failed this life
  pub record FailedLife (slot version code : ℕ) : Type 0 where
    pub client : ℕ
    pub task : Task
    pub name : ℕ
    pub link : ℕ
    pub is_task : IsTask (all_tasks script) core.outcomes client task
    pub op : task.op ≡ ops.Fail name code
    pub became : Became (all_tasks script) core.outcomes task.number Failed
    pub life : Made (all_tasks script) core.outcomes name link slot version

  failed_life : (j h code : ℕ) → FailedWith told ends.events j h code → FailedLife j h code
  failed_life j h code f = by cause.fits
    where
      before : BeforeIn p told ends.lost ends.events (event f.client f.operation (OnSlot (SetOdd j)) f.found)
      before = cause_of p told ends.lost ends.events ends.story.good (event f.client f.operation (OnSlot (SetOdd j)) f.found) f.is

      cause : Cause p told ends.lost before.story (event f.client f.operation (OnSlot (SetOdd j)) f.found)
      cause = before.cause

      same : cause.task ≡ f.own.0
      same = (one_task p told seats f.client f.client cause.task f.own.0 cause.is f.own.2 (cause.numbered ∙ sym f.own.3)).1

      by : FailsLife cause.task.op (trace_of f.client f.operation before.story) j ⊎ FailsLink cause.task ends.lost (trace_of f.client f.operation before.story) j → FailedLife j h code
      by (inr x) = absurd (let z : ops.Send x.2.name x.2.bytes ≡ ops.Fail f.own.1 code = sym x.2.op ∙ (ap (λ (y : Task). y.op) same ∙ f.own.4) in cc)
      by (inl x) = let m = odd_means p told core.outcomes ends.lost orders ends.events world ends.lost before.story f.client f.operation j f.found cause before.part x in
          let life = odd_life p told core.outcomes ends.lost orders ends.events world ends.lost before.story f.client f.operation j f.found cause.task m f.even in
          let op : ops.Fail m.name m.code ≡ ops.Fail f.own.1 code = sym m.op ∙ (ap (λ (y : Task). y.op) same ∙ f.own.4) in let named : m.name ≡ f.own.1 = cc in record {
            client = f.client;
            task = f.own.0;
            name = f.own.1;
            link = life.0;
            is_task = task_up (all_tasks script) (length (opens script)) core.outcomes f.client f.own.0 (task_of p told core.outcomes ends.lost orders ends.events world f.client f.own.0 f.own.2);
            op = f.own.4;
            became = (world.final f.client f.own.0 f.own.2).became ∙ ap (λ (o : Option Outcome). Some o) (fail_says p told core.outcomes ends.lost orders ends.events world f.client f.operation j f.found f.own.1 code f.own.0 f.own.2 f.own.3 f.own.4 f.is f.even);
            life = made_up (all_tasks script) (length (opens script)) core.outcomes f.own.1 life.0 j h (subst (λ z. Made told core.outcomes z life.0 j h) named (subst (Made told core.outcomes m.name life.0 j) f.version life.1));
          }

  -- of a life that has a link, it is this one
  its_link : (j h k code : ℕ) → WasGiven ends.events j h k → (f : FailedLife j h code) → f.link ≡ k
  its_link j h k code given f = let g = given_made p told core.outcomes ends.lost orders ends.events world j h k given in
      (one_life p told core.outcomes ends.lost orders ends.events world f.name g.0 f.link k j h (made_down (all_tasks script) (length (opens script)) core.outcomes f.name f.link j h f.life) g.1).1

  -- a life has one link
  pub one_given : (j h k l : ℕ) → WasGiven ends.events j h k → WasGiven ends.events j h l → k ≡ l
  one_given j h k l a b = let g = given_made p told core.outcomes ends.lost orders ends.events world j h k a in let g' = given_made p told core.outcomes ends.lost orders ends.events world j h l b in
      (one_life p told core.outcomes ends.lost orders ends.events world g.0 g'.0 k l j h g.1 g'.1).1

  -- that it was given its link the story knows
  pub story_given : (j h k : ℕ) → j < p.slots → IsGiven core views j h k → WasGiven ends.events j h k
  story_given j h k inside given = let s = ends.story in let tie = s.links j inside h k in omega (arith, tie, given)

  -- ## Opens

  recorded_end : Recorded p (IsListed script) core views
  recorded_end = subst (λ c. Recorded p (IsListed script) c views) (sym is.is_end)
      (run_recorded p (go script made turns core is) (IsListed script) is.ended (views_closed script turns core is (first_views script)) is.final
      (closed_sound script made.are (first_views script) (start script made turns core is) (go script made turns core is) turns core is (fitting script made turns core is)) is.answered_again (let f = fitting script made turns core is in f.of_final)
      (recorded_closed script made.are (first_views script) (start script made turns core is) (go script made turns core is) turns core is (fitting script made turns core is)))

  -- the life stands in the word of the `open` of a link
  pub record IsOpened (j h : ℕ) : Type 0 where
    pub link : ℕ
    pub operation : ℕ
    pub at : get_elem? (opens script) link ≡ some operation
    pub word : get_or core.words (open_index p operation) 0 ≡ socket_id h j + 1
    pub inside : j < p.slots
    pub low : h < 4294967295

  -- as each life does that was given a link
  pub given_opened : (j h k : ℕ) → WasGiven ends.events j h k → IsOpened j h
  given_opened j h k given = let r = recorded_end in by (r.lives j h means.0 born)
    where
      made_by : (c o found : ℕ) × In (event c o (OnSlot (CreateLife j k)) found) ends.events × (vref_version found ≡ h)
      made_by = marked_given ends.events j h k given

      means : (j < p.slots) × (vref_version made_by.2 % 2 ≡ 0) × (p.first ≤ vref_version made_by.2)
      means = birth_means p told core.outcomes ends.lost orders ends.events world made_by.0 made_by.1 j k made_by.2 made_by.3

      born : 0 < count (is_born h) (slot_facts (state core views) j)
      born = let s = ends.story in let a = s.births j means.0 h in let b = in_marked (is_born h) j ends.events (event made_by.0 made_by.1 (OnSlot (CreateLife j k)) made_by.2) made_by.3 (birth_adds made_by.0 made_by.1 j k made_by.2 h made_by.4) in omega (arith, a, b)

      low : h < 4294967295
      low = let l = slot_law j means.0 in let b = l.born h in let t = l.top in let x = life_is p.first h ((slot_facts (state core views) j).version + live (slot_facts (state core views) j)) (let c = born in omega (arith, b, c)) in
          let few = lives_le p (state core views) end_sound.lawful.references j means.0 in let less = x.1 in let even = x.2 in omega (arith, t, few, less, even)

      by : Stands p (IsListed script) core (let r = recorded_end in r.left) (socket_id h j) → IsOpened j h
      by (inl (c, o, listed, x)) = record { link = listed.1.0; operation = o; at = listed.1.1; word = x.word; inside = means.0; low = low }
      by (inr x) = absurd (some-ne-none (x.operation, socket_id h j + 1) (sym x.next ∙ ap next_stores (settled x.place x.seat x.there)))

  -- ## Steps of the run

  -- a call is none of the tasks that are told
  call_spoken : (c : ℕ) (t : Task) (asked : Asked) → IsTask (all_tasks script) core.outcomes c t → t.op ≡ ops.Call asked → IsSpoken told t.number
  call_spoken c t asked it op d u asks number = let a = up (all_tasks script) (length (opens script)) d u asks in
      let same : u ≡ t = (one_task p (all_tasks script) made.are d c u t a.0 (it.0, it.1, contains_in it.0 t it.2) number).1 in true≢false (sym a.1 ∙ ap is_plain (ap (λ (z : Task). z.op) same ∙ op))

  -- a message of a call that was dropped in the run stands so in the end
  pub dropped_of_run : (seat client : ℕ) (t : Task) (asked : Asked) (n k m found : ℕ) → IsTask (all_tasks script) core.outcomes client t → t.op ≡ ops.Call asked → n ≤ 6 → DidInRun script turns core is seat (DidStep (OnPlace (DropPlace (8 * t.number + n) k m)) found) → IsDroppedOn t.number n k
  dropped_of_run seat client t asked n k m found it op few did = dropped_by t.number n (8 * t.number + n) k m (ends.tells seat (DidStep (OnPlace (DropPlace (8 * t.number + n) k m)) found) did) (call_spoken client t asked it op) few refl

  -- a code of a life that was found in the run is one of the others, or that of a `fail` that failed the life
  pub code_of_run : (seat i h code : ℕ) → DidInRun script turns core is seat (DidStep (OnSlot (LoadCode i h)) code) → code ≢ 0 → IsOtherCode code ⊎ FailedLife i h code
  code_of_run seat i h code did some_ = ⊎_elim (λ other. inl other) (λ f. inr (failed_life i h code f)) (ends.tells seat (DidStep (OnSlot (LoadCode i h)) code) did some_)

  -- ## Errors that were posted for dropped messages

  abbrev pub IsFailedOn : ℕ → ℕ → Type 0
  IsFailedOn k code = (slot version : ℕ) × (f : FailedLife slot version code) × (f.link ≡ k)

  pub record DropOf (x : Post) : Type 0 where
    -- the call
    pub client : ℕ
    pub task : Task
    pub asked : Asked
    pub is_task : IsTask (all_tasks script) core.outcomes client task
    pub op : task.op ≡ ops.Call asked
    pub own : ids task.number ≡ x.id
    -- the attempt that was dropped, and on which link
    pub few : attempt_of x.error ≤ 6
    pub link : ℕ
    pub dropped : IsDroppedOn task.number (attempt_of x.error) link
    -- the life of the link whose code was found
    pub found : (code_of x.error ≡ 1009) ⊎ ((seat slot version : ℕ) × DidInRun script turns core is seat (DidStep (OnSlot (LoadCode slot version)) (code_of x.error)) × (code_of x.error ≢ 0) × WasGiven ends.events slot version link)
    -- whose code it is
    pub code : IsOtherCode (code_of x.error) ⊎ IsFailedOn link (code_of x.error)

  pub drop_of_run : (x : Post) (seat : ℕ) (heading : Heading) (code : ℕ) (deeds : List Deed) → AllByRecursion (DidInRun script turns core is seat) deeds → IsDrop heading code deeds → heading.owner ≢ 0 → heading.owner ≡ x.id
      → x.error ≡ error_of (if code == 0 then 1009 else code) heading.label.attempt → DropOf x
  drop_of_run x seat heading code deeds did d owned id error = record {
    client = call.0;
    task = call.2;
    asked = calls.asked;
    is_task = (call.1, place_at (all_tasks script) call.0 call.1 call.3, in_contains call.1 call.2 call.4);
    op = call.5;
    own = ap ids number ∙ (calls.owner ∙ id);
    few = (let f = calls.few in omega (arith, attempt, f));
    link = d.holder.link;
    dropped = subst (λ z. IsDroppedOn z (attempt_of x.error) d.holder.link) (sym number) (subst (λ z. IsDroppedOn heading.label.operation z d.holder.link) (sym attempt)
        (dropped_by heading.label.operation heading.label.attempt heading.label.place d.holder.link d.holder.places (ends.tells seat (DidStep (OnPlace (DropPlace heading.label.place d.holder.link d.holder.places)) d.found) (all_in (DidInRun script turns core is seat) deeds (DidStep (OnPlace (DropPlace heading.label.place d.holder.link d.holder.places)) d.found) did d.drop))
        calls.spoken calls.few calls.place));
    found = dite (ℕ_discrete code 0)
        (λ z. inl (code_is ∙ ap (λ b. if b then 1009 else code) (eq-eqb code 0 z)))
        (λ n. let same : code_of x.error ≡ code = code_is ∙ ap (λ b. if b then 1009 else code) (ne_eqb code 0 n) in inr (
          seat,
          socket_id_slot d.holder.id,
          socket_id_version d.holder.id,
          subst (λ z. DidInRun script turns core is seat (DidStep (OnSlot (LoadCode (socket_id_slot d.holder.id) (socket_id_version d.holder.id))) z)) (sym same)
              (all_in (DidInRun script turns core is seat) deeds (DidStep (OnSlot (LoadCode (socket_id_slot d.holder.id) (socket_id_version d.holder.id))) code) did d.load),
          λ z. n (sym same ∙ z),
          round.0,
        ));
    code = subst (λ z. IsOtherCode z ⊎ IsFailedOn d.holder.link z) (sym code_is) whose;
  }
    where
      round : WasGiven ends.events (socket_id_slot d.holder.id) (socket_id_version d.holder.id) d.holder.link
          × (heading.owner ≢ 0 → IsCalls p (id_plan_of script) (IsCallOf script) ids told heading)
      round = ends.tells seat (DidRound (Puts d.holder d.now heading d.left d.taken d.asked)) (all_in (DidInRun script turns core is seat) deeds (DidRound (Puts d.holder d.now heading d.left d.taken d.asked)) did d.round)

      calls : IsCalls p (id_plan_of script) (IsCallOf script) ids told heading
      calls = round.1 owned

      call : IsCallOf script calls.asked
      call = calls.called

      number : call.2.number ≡ heading.label.operation
      number = sym call.6 ∙ calls.own

      attempt : attempt_of x.error ≡ heading.label.attempt
      attempt = ap attempt_of error ∙ (let f = calls.few in decodes (if code == 0 then 1009 else code) heading.label.attempt f).0

      code_is : code_of x.error ≡ (if code == 0 then 1009 else code)
      code_is = ap code_of error ∙ (let f = calls.few in decodes (if code == 0 then 1009 else code) heading.label.attempt f).1

      whose : IsOtherCode (if code == 0 then 1009 else code) ⊎ IsFailedOn d.holder.link (if code == 0 then 1009 else code)
      whose = dite (ℕ_discrete code 0)
          (λ z. inl (inl (ap (λ b. if b then 1009 else code) (eq-eqb code 0 z))))
          (λ n. subst (λ z. IsOtherCode z ⊎ IsFailedOn d.holder.link z) (sym (ap (λ b. if b then 1009 else code) (ne_eqb code 0 n)))
          (⊎_elim (λ other. inl other) (λ f. inr (socket_id_slot d.holder.id, socket_id_version d.holder.id, f, its_link (socket_id_slot d.holder.id) (socket_id_version d.holder.id) d.holder.link code round.0 f))
          (code_of_run seat (socket_id_slot d.holder.id) (socket_id_version d.holder.id) code (all_in (DidInRun script turns core is seat) deeds (DidStep (OnSlot (LoadCode (socket_id_slot d.holder.id) (socket_id_version d.holder.id))) code) did d.load) n)))
