-- A tick of any seat goes on with the story of the calls.
use Rattle.std.proofs.Common.{◌≡◌, ◌≢◌, ℕ, ◌<◌, ◌≤◌, ◌⊎◌, inl, inr, ⊎_elim, List, [], ◌∷◌, ◌++◌, length, length-set, get_or, get_or-set_same, set, refl, sym, ap, ◌∙◌, subst, arith}
use Rattle.std.specs.List.{AllByRecursion}
use mathlib.Core.Option.{Option, none, some, some-ne-none}
use lib.ListN.{get_elem?}
use Rattle.atomic_table.proofs.Lists.{at_set}
use Rattle.sock_words.specs.declared.plain.Plan.{Plan}
use Rattle.sock_io.specs.declared.link.Put.{Put}
use Rattle.sock_io.specs.declared.link.Ready.{Ready}
use Rattle.sock_model.specs.declared.chain.Heading.{Heading}
use Rattle.sock_model.specs.declared.home.Home.{Home}
use Rattle.sock_model.specs.declared.home.Home.TheVariants.{Message}
use Rattle.sock_model.specs.declared.view.View.{View}
use Rattle.sock_model.specs.SocketTableLayout.{name_index, all_words}
use Rattle.sock_model.specs.UnplacedMessages.{HeadedBytes}
use Rattle.sock_model.specs.ChainLawReads.{message, link_home}
use Rattle.corr_core.specs.declared.marks.Plan.{Plan as IdPlan}
use Rattle.seat_programs.specs.declared.task.Op.TheVariants as ops
use Rattle.seat_programs.specs.declared.task.Task.{Task}
use Rattle.seat_programs.specs.TableSteps.{TableStep, OnSlot, OnName, StoreName, LoadName, LoadCode}
use Rattle.seat_programs.specs.Asides.{Step, Taking, Found}
use Rattle.seat_programs.specs.LoopHeads.{Retry}
use Rattle.seat_programs.specs.Programs.{Program, Do, Say, Sent, Rest, TakeMessage, TakeHome, PutHome, PutBytes, AskReady, Write, Aside, Round, Keep, Retries}
use Rattle.seat_programs.specs.SendAndWritePrograms.{block}
use Rattle.seat_programs.specs.LoopRounds.{round, first_step}
use Rattle.seat_programs.specs.Cores.{Core, SeatState, found_at, words_after, homes_after, hand_after, lies_at, first_of, others_of, link_place, resolved, waiting_at, next_step, with_seat}
use Rattle.seat_programs.specs.StepTables.{May, word_of, word_after}
use Rattle.seat_programs.specs.FoundAndChangedAside.{found_in, calls_after}
use Rattle.seat_programs.specs.ScriptSetupToEnding.{is_ending}
use Rattle.seat_programs.specs.Ticks.{Answer, OfPut, OfReady, Moment, fed, with_places, onto_first, taken, with_message, with_link, with_put, with_ready, with_found, step_with, tick_with, ticked}
use Rattle.story_steps.specs.Below.id_runs.specs.HeldIdTokens.{IdView, id_row}
use Rattle.story_steps.specs.Below.id_runs.specs.Goes.{FitsRetryId, IdGoesOn, SoundIds, FitsFirst, IsFittingIds}
use Rattle.story_steps.specs.Below.id_runs.proofs.IdLoopRounds.{ids_round}
use Rattle.story_steps.specs.Below.id_runs.proofs.IdPrograms.{block_goes}
use Rattle.story_steps.specs.Below.id_runs.proofs.OwnersStayIds.{steps_on}
use Rattle.story_steps.specs.Below.owing_ticks.proofs.OwingTicks.{message_there}
use Rattle.story_steps.specs.Below.joint_runs.specs.Below.sock_steps.proofs.Maps.{set_twice}
use Rattle.story_steps.specs.call_stories.specs.LinkReadingLists.{advances_by, advanced_with, advanced_at}
use Rattle.story_steps.specs.call_stories.specs.PostsOfRun.{Post, posts_by, posted_with, posted_at}
use Rattle.story_steps.specs.call_stories.specs.Decided.{Decision, decision_in, decided_at}
use Rattle.story_steps.specs.call_stories.specs.Scenes.{Scene, IsTaskOf, Named, HasNoneOf, ToldOf, was_said, was_sent, was_begun, AreTold, HasRoom, LeadsTo, StaysWithin, Later}
use Rattle.story_steps.specs.call_stories.specs.Says.{Mark, SaidBy, MayDo, FindsDo, NoneOfSetup, SaysOn}
use Rattle.story_steps.specs.call_stories.specs.CallStories.{At, SlotsLaw, ClaimsLaw, ReadsLaw, IsBehind, births_after, claims_after, mark_after, CallStory, HasStory, GoesOn, undo}
use Rattle.story_steps.specs.call_stories.proofs.LastingCallStories.{far, here_later, are_told_on, says_on}
use Rattle.story_steps.specs.call_stories.proofs.CausedCallPrograms.{block_says}
use Rattle.story_steps.proofs.CausedRounds.{round_says}
use Rattle.story_steps.proofs.CausesOfCallSayings.{told_at, open_named}
use Rattle.story_steps.proofs.NumberedTasks.{AreNumbered, listed_or}
use Rattle.story_steps.proofs.BirthTicks.{one_call}
use Rattle.story_steps.proofs.AttemptsBehindAsides.{in_behind, in_front}
use Rattle.story_steps.specs.call_stories.proofs.LeadingBytesGiven.{run_leads}
use Rattle.story_ticks.proofs.SayingKeepsStory.{put_at}
use Rattle.story_ticks.proofs.Claiming.{HaveSlots, has_room, claims_after_step}
use Rattle.story_steps.specs.call_stories.proofs.LinksOfReaders.{reads_after_step}
use Rattle.story_steps.specs.call_stories.proofs.KnowingBeforeAsides.{is_sized, are_low, finds, knows}
use Rattle.story_steps.specs.call_stories.proofs.SockWords.{names_after, AreOther, codes_after}
use Rattle.story_ticks.proofs.SaidBeforeNextStep.{sayings_of, AreFewTries, KeepsFew}
use Rattle.story_ticks.proofs.KeptForAlikeMarks.{kept_slots, kept_claims, kept_reads}
use Rattle.story_ticks.proofs.LawsBehindAsideTicks.{sayings_keep, overs_keep, is_later, aside_ticks}
use Rattle.story_ticks.proofs.SockTicks.{IsBeside, beside_later, beside_slots, beside_births, beside_tasks, beside_said, beside_ticks}
use Rattle.story_steps.specs.Below.programs_allowed.specs.program_steps.proofs.TickCases.{elem_there, calls_waiting}
use Rattle.story_steps.specs.call_stories.specs.Below.outcome_stories.specs.OperationStories.{In}

module _ (p : Plan) (q : IdPlan) where
  few_of : (ws : List Retry) → AllByRecursion (FitsRetryId q) ws → AreFewTries ws
  few_of [] all = tt
  few_of (r ∷ ws) all = (all.0.1, few_of ws all.1)

  -- what the ids allow keeps retries of few attempts
  pub keeps_few : (u : IdView) (x : Program) → IdGoesOn p q u x → KeepsFew x
  keeps_few u (Say o outcome next) g = keeps_few u next g
  keeps_few u (Sent o next) g = keeps_few u next g
  keeps_few u (Keep r next) g = (g.0.1, keeps_few u next g.1)
  keeps_few u (Retries requests after) g = keeps_few u after (g.1 u g.0)
  keeps_few u _ g = tt

-- the scene in which these errors are noted
abbrev pub noted : List Decision → Scene → Scene
noted ds w = record { core = w.core; claims = w.claims; births = w.births; advances = w.advances; posts = w.posts; decisions = ds ++ w.decisions; sayings = w.sayings }

-- the view of the seat allows the step of the program
abbrev pub AllowsDo : Plan → Program → Type 0
AllowsDo p (Do call next) = (v : View) × May p v call
AllowsDo p other = Unit {0}

-- seat 0 has nothing left to do
abbrev pub IsSetUp : Core → Type 0
IsSetUp c = (seat : SeatState) → get_elem? c.seats 0 ≡ some seat → seat.program ≡ Rest

module _ (p : Plan) (q : IdPlan) (clients : List (List Task)) (gives : ℕ → List ℕ) (numbered : AreNumbered p q clients gives) (slots : HaveSlots p q clients gives) (narrow : q.slots ≤ 65536) where
  -- the story goes on to a scene that is as told
  stands : (w v : Scene) (ns : List Mark) → Later p q clients gives w v → CallStory p q clients gives v ns → GoesOn p q clients gives w v.decisions v.posts v.advances v.core
  stands w v ns later story = record { has = record { scene = v; marks = ns; is = refl; shown = refl; shown_posts = refl; story = story }; shown_decisions = refl; later = later }

  -- where nothing happens
  stays : (w : Scene) (ms : List Mark) → CallStory p q clients gives w ms → LeadsTo p q clients gives w.core → GoesOn p q clients gives w w.decisions w.posts w.advances w.core
  stays w ms story lead = stands w w ms (here_later p q clients gives w (has_room p q clients gives slots w ms story.claims, lead) (let births = story.births in one_call w.births births.apart (λ b there. (births.born b there).1))) story

  module _ (w : Scene) (ms : List Mark) (story : CallStory p q clients gives w ms) (us : List IdView) (ids : SoundIds p q w.core us) (sized : length w.core.words ≡ all_words p) (i : ℕ) (seat : SeatState) (at_seat : get_elem? w.core.seats i ≡ some seat) (u : IdView) (at_view : get_elem? us i ≡ some u) (m : Mark) (at : At ms i m)
      (over : i ≢ 0 → (n : Mark) → At ms 0 n → n.todo ≡ []) where
    abbrev waits : List Retry
    waits = waiting_at w.core.calls.waiting i

    abbrev Leads : Core → Type 0
    Leads c = LeadsTo p q clients gives c

    -- the story goes on behind the step
    abbrev Goes : List Post → List ℕ → Core → Type 0
    Goes posted advanced c = GoesOn p q clients gives w w.decisions posted advanced c

    room : HasRoom p q clients gives w
    room = has_room p q clients gives slots w ms story.claims

    before : Leads w.core → Goes w.posts w.advances w.core
    before lead = stays w ms story lead

    -- the seats behind a step
    seats_after : (w' : Scene) (seat' : SeatState) (mark : Mark) → w'.core.seats ≡ set w.core.seats i seat' → Later p q clients gives w w' → SaysOn p q clients gives w' mark seat'.program
        → (k : ℕ) (s : SeatState) (n : Mark) → get_elem? w'.core.seats k ≡ some s → At (set ms i mark) k n → SaysOn p q clients gives w' n s.program
    seats_after w' seat' mark are l says k s n at_s at_n = ⊎_elim
        (λ a. ⊎_elim (λ b. subst (λ (y : SeatState). SaysOn p q clients gives w' n y.program) a.1 (subst (λ (y : Mark). SaysOn p q clients gives w' y seat'.program) b.1 says)) (λ b. absurd (b.0 a.0)) (at_set ms i k mark n at_n))
        (λ a. ⊎_elim (λ b. absurd (a.0 b.0)) (λ b. says_on p q clients gives w w' l n s.program (story.seats k s n a.1 b.1)) (at_set ms i k mark n at_n))
        (at_set w.core.seats i k seat' s (subst (λ l. get_elem? l k ≡ some s) are at_s))

    -- ## Steps that aren't aside

    module _ (x : Program) (hand : List Home) (ws : List ℕ) (hs : List (Option Home)) where
      abbrev scene : Scene
      scene = record { core = with_seat i x hand ws hs w.core; claims = w.claims; births = w.births; advances = w.advances; posts = w.posts; decisions = w.decisions; sayings = sayings_of (resolved (waiting_at w.core.calls.waiting i) x) w.sayings }

      on_sockets : ((n : ℕ) → n < p.names → get_or w.core.words (name_index p n) 0 ≢ 0 → get_or ws (name_index p n) 0 ≢ 0) → AreOther p q clients gives ws → KeepsFew x → Leads (with_seat i x hand ws hs w.core)
          → ((v : Scene) → v.core.words ≡ ws → Later p q clients gives w v → SaidBy v x → SaysOn p q clients gives v m x) → Goes w.posts w.advances (with_seat i x hand ws hs w.core)
      on_sockets names codes keeps lead says =
          let b : IsBeside p q clients gives numbered w scene ms i m at story.slots story.births story.tasks (room, lead) = record { words = refl; homes = refl; gave = refl; births_are = refl; claims_are = refl; advances_are = refl; posts_are = refl; decided = λ d there. there; named = λ n y. (y.0, names n y.0 y.1); codes = codes } in
          let few = few_of p q (waiting_at w.core.calls.waiting i) (ids.waiting i) in
          let l = beside_later p q clients gives numbered w scene ms i m at story.slots story.births story.tasks (room, lead) b x (waiting_at w.core.calls.waiting i) few keeps refl refl in
          let said = beside_said p q clients gives numbered w scene ms i m at story.slots story.births story.tasks (room, lead) b x (waiting_at w.core.calls.waiting i) few keeps refl refl in
          let r = beside_ticks p q clients gives numbered w scene ms i m at story.slots story.births story.tasks (room, lead) b x (waiting_at w.core.calls.waiting i) few keeps refl refl (says scene refl l said) in
          stands w scene (set ms i r.mark) l (record {
            each = length-set ms i r.mark ∙ (story.each ∙ sym (length-set w.core.seats i (record { program = next_step (resolved (waiting_at w.core.calls.waiting i) x); hand = hand })));
            slots = kept_slots p q clients gives scene ms i m r.mark at r.kept r.slots_law;
            births = r.births_law;
            tasks = r.tasks_law;
            claims = kept_claims p q clients gives scene ms i m r.mark at r.kept (record { taken = story.claims.taken; calls = story.claims.calls; once = story.claims.once; free = story.claims.free });
            reads = kept_reads p q clients gives scene ms i m r.mark at r.kept (record { bytes = story.reads.bytes; tied = story.reads.tied; inside = story.reads.inside });
            seats = seats_after scene (record { program = next_step (resolved (waiting_at w.core.calls.waiting i) x); hand = hand }) r.mark refl l r.says_on;
          })

    -- where no word changes
    pub on_homes : (x : Program) (hand : List Home) (hs : List (Option Home)) → KeepsFew x → Leads (with_seat i x hand w.core.words hs w.core) → ((v : Scene) → Later p q clients gives w v → SaidBy v x → SaysOn p q clients gives v m x) → Goes w.posts w.advances (with_seat i x hand w.core.words hs w.core)
    on_homes x hand hs keeps lead says = on_sockets x hand w.core.words hs (λ n low some_. some_) story.births.codes keeps lead (λ v _ l s. says v l s)

    -- ## The run is ending

    abbrev told_scene : Scene
    told_scene = record { core = is_ending w.core; claims = w.claims; births = w.births; advances = w.advances; posts = w.posts; decisions = w.decisions; sayings = w.sayings }

    pub told_story : Leads (is_ending w.core) → Goes w.posts w.advances (is_ending w.core)
    told_story lead =
        let b : IsBeside p q clients gives numbered w told_scene ms i m at story.slots story.births story.tasks (room, lead) = record { words = refl; homes = refl; gave = refl; births_are = refl; claims_are = refl; advances_are = refl; posts_are = refl; decided = λ d there. there; named = λ n y. y; codes = story.births.codes } in
        let l = beside_later p q clients gives numbered w told_scene ms i m at story.slots story.births story.tasks (room, lead) b Rest [] tt tt refl refl in stands w told_scene ms l (record {
          each = story.each;
          slots = beside_slots p q clients gives numbered w told_scene ms i m at story.slots story.births story.tasks (room, lead) b Rest [] tt tt refl refl;
          births = beside_births p q clients gives numbered w told_scene ms i m at story.slots story.births story.tasks (room, lead) b Rest [] tt tt refl refl;
          tasks = beside_tasks p q clients gives numbered w told_scene ms i m at story.slots story.births story.tasks (room, lead) b Rest [] tt tt refl refl;
          claims = record { taken = story.claims.taken; calls = story.claims.calls; once = story.claims.once; free = story.claims.free };
          reads = record { bytes = story.reads.bytes; tied = story.reads.tied; inside = story.reads.inside };
          seats = λ k s n at_s at_n. says_on p q clients gives w told_scene l n s.program (story.seats k s n at_s at_n);
        })

    -- ## Errors on which a seat decides are noted

    module _ (ds : List Decision) (lead : Leads w.core) where
      noted_beside : IsBeside p q clients gives numbered w (noted ds w) ms i m at story.slots story.births story.tasks (room, lead)
      noted_beside = record { words = refl; homes = refl; gave = refl; births_are = refl; claims_are = refl; advances_are = refl; posts_are = refl; decided = λ d there. in_behind d ds w.decisions there; named = λ n y. y; codes = story.births.codes }

      pub noted_later : Later p q clients gives w (noted ds w)
      noted_later = beside_later p q clients gives numbered w (noted ds w) ms i m at story.slots story.births story.tasks (room, lead) noted_beside Rest [] tt tt refl refl

      pub noted_story : CallStory p q clients gives (noted ds w) ms
      noted_story = record {
        each = story.each;
        slots = beside_slots p q clients gives numbered w (noted ds w) ms i m at story.slots story.births story.tasks (room, lead) noted_beside Rest [] tt tt refl refl;
        births = beside_births p q clients gives numbered w (noted ds w) ms i m at story.slots story.births story.tasks (room, lead) noted_beside Rest [] tt tt refl refl;
        tasks = beside_tasks p q clients gives numbered w (noted ds w) ms i m at story.slots story.births story.tasks (room, lead) noted_beside Rest [] tt tt refl refl;
        claims = record { taken = story.claims.taken; calls = story.claims.calls; once = story.claims.once; free = story.claims.free };
        reads = record { bytes = story.reads.bytes; tied = story.reads.tied; inside = story.reads.inside };
        seats = λ k s n at_s at_n. says_on p q clients gives w (noted ds w) noted_later n s.program (story.seats k s n at_s at_n);
      }

    -- ## What a step on the table of the sockets finds

    setup_done : i ≢ 0 → (t : Task) → IsTaskOf p q clients gives 0 t → (n : Mark) × (before : List Task) × ToldOf p q clients gives w 0 before t
    setup_done other t is =
        let first = first_mark ms i m at in
        let none_ = over other first.0 first.1 in
        let there : In t first.0.done = in_undo first.0.done first.0.todo none_ (subst (In t) (sym (story.tasks.placed 0 first.0 first.1 ∙ listed_or clients 0 is.0 is.1)) is.2) in
        let told = subst (λ c. AreTold p q clients gives w c first.0.done) (story.tasks.client 0 first.0 first.1) (story.tasks.told 0 first.0 first.1) in
        let x = told_at p q clients gives w 0 first.0.done t told there in (first.0, x.0, x.1)
      where
        first_mark : (l : List Mark) (k : ℕ) (n : Mark) → get_elem? l k ≡ some n → (o : Mark) × (get_elem? l 0 ≡ some o)
        first_mark [] k n e = absurd (some-ne-none n (sym e))
        first_mark (x ∷ xs) k n e = (x, refl)

        undone : (done todo : List Task) → In t (undo p q clients gives done todo) → In t done ⊎ In t todo
        undone [] todo there = inr there
        undone (d ∷ done) todo there = ⊎_elim (λ y. inl (inr y)) (λ y. ⊎_elim (λ same. inl (inl same)) (λ z. inr z) y) (undone done (d ∷ todo) there)

        in_undo : (done todo : List Task) → todo ≡ [] → In t (undo p q clients gives done todo) → In t done
        in_undo done todo none_ there = ⊎_elim (λ y. y) (λ y. absurd (subst (In t) none_ y)) (undone done todo there)

    none_of_setup : i ≢ 0 → (n : ℕ) → (Named p q clients gives w n → ⊥) → (v : Scene) → Later p q clients gives w v → NoneOfSetup p q clients gives v n
    none_of_setup other n unnamed v l t is = let x = setup_done other t is in λ k op. by_told x.1 x.2 k op
      where
        by_told : (before : List Task) → ToldOf p q clients gives w 0 before t → HasNoneOf p q clients gives v n t
        by_told before (was_said y s why just) k op = (y, l.said t.number y s, (λ opened. unnamed (open_named p q clients gives w 0 before n k y (subst (λ o. Rattle.story_steps.specs.call_stories.specs.Scenes.WhyOwn p q clients gives w 0 before o y) op why) opened)))
        by_told before (was_sent a bytes sent named) k op = absurd (let z : ops.Send a bytes ≡ ops.Open n k = sym sent ∙ op in cc)
        by_told before (was_begun id asked call own born begun named) k op = absurd (let z : ops.Call asked ≡ ops.Open n k = sym call ∙ op in cc)

    -- the seat's mark is that of client i
    client_is : m.client ≡ i
    client_is = story.tasks.client i m at

    finds_do : (x : View) (call : TableStep) → May p x call → MayDo p q clients gives call → (v : Scene) → v.core.words ≡ words_after w.core.words (word_of p call) (word_after call (found_at w.core.words (word_of p call))) → Later p q clients gives w v → FindsDo p q clients gives v m call (found_at w.core.words (word_of p call))
    finds_do x (OnName (StoreName n word)) in_ may v words l = (in_.0, (λ e. may (sym (ap (λ ws. get_or ws (name_index p n) 0) words ∙ get_or-set_same w.core.words (name_index p n) word 0 (omega (arith, sized, in_.0))) ∙ e)))
    finds_do x (OnName (LoadName n)) in_ may v words l = (
      (λ none_. (
        (λ named. named.1 (here ∙ none_)),
        (λ other. none_of_setup (λ e. other (client_is ∙ e)) n (λ named. named.1 none_) v l),
        are_told_on p q clients gives w v l m.client m.done (story.tasks.told i m at),
      )),
      (λ some_. (in_, (λ e. some_ (sym here ∙ e)))),
    )
      where
        here : get_or v.core.words (name_index p n) 0 ≡ get_or w.core.words (name_index p n) 0
        here = ap (λ ws. get_or ws (name_index p n) 0) words ∙ get_or-set_same w.core.words (name_index p n) (get_or w.core.words (name_index p n) 0) 0 (omega (arith, sized, in_))
    finds_do x (OnSlot (LoadCode k h)) in_ may v words l = λ some_. story.births.codes k in_.0 some_
    finds_do x _ in_ may v words l = tt

    -- ## Steps aside

    module _ (step : Step) (next : Found step → Program) (t : Option Taking) (says : SaysOn p q clients gives w m (Aside step next)) (go : IdGoesOn p q u (Aside step next)) (found : Found step) (is : found_in step w.core.calls t ≡ some found) where
      abbrev retries : List Retry
      retries = waiting_at (calls_after step found w.core.calls).waiting i

      abbrev aside_scene : Scene
      aside_scene = record {
        core = with_seat i (next found) seat.hand w.core.words w.core.homes (record w.core { calls = calls_after step found w.core.calls });
        claims = claims_after p q clients gives step found m w.claims;
        births = births_after p q clients gives step found m w.births;
        advances = advances_by step found w.core.calls ++ w.advances;
        posts = posts_by step found ++ w.posts;
        decisions = w.decisions;
        sayings = sayings_of (resolved (waiting_at (calls_after step found w.core.calls).waiting i) (next found)) w.sayings;
      }

      abbrev moved : Mark
      moved = mark_after p q clients gives step found m

      on_ids : Leads (with_seat i (next found) seat.hand w.core.words w.core.homes (record w.core { calls = calls_after step found w.core.calls })) → Goes (posts_by step found ++ w.posts) (advances_by step found w.core.calls ++ w.advances) (with_seat i (next found) seat.hand w.core.words w.core.homes (record w.core { calls = calls_after step found w.core.calls }))
      on_ids lead =
          let b : IsBehind p q clients gives w aside_scene m step found = record { words = refl; homes = refl; gave = refl; births = refl; claims = refl; advances = refl; posts = refl; decided = λ d there. there; sayings = λ s there. sayings_keep (resolved (waiting_at (calls_after step found w.core.calls).waiting i) (next found)) w.sayings s there; overs = λ x y there. overs_keep (resolved (waiting_at (calls_after step found w.core.calls).waiting i) (next found)) w.sayings x y there } in
          let kn = knows p q clients gives w us ids ms i m at story.reads u at_view step t found is go.0 says.0 in
          let law = claims_after_step p q clients gives numbered w aside_scene ms i m at ids.plan (is_sized p q clients gives w us ids) (story.slots.fits i m at) story.births w.core.outcomes w.sayings story.tasks story.claims step found b kn says.0 in
          let room' : StaysWithin p q clients gives aside_scene = (has_room p q clients gives slots aside_scene (set ms i (mark_after p q clients gives step found m)) law, lead) in
          let few = few_of p q (waiting_at (calls_after step found w.core.calls).waiting i) (subst (λ (x : List (List Retry)). AllByRecursion (FitsRetryId q) (waiting_at x i)) (sym (calls_waiting step found w.core.calls)) (ids.waiting i)) in
          let keeps = keeps_few p q (id_row q step found Rattle.story_steps.specs.Below.id_runs.proofs.AsideStepsKeepRule.no_call u) (next found) (go.1 found Rattle.story_steps.specs.Below.id_runs.proofs.AsideStepsKeepRule.no_call (finds p q clients gives w us ids ms i m at story.reads u at_view step t found is go.0)) in
          let l = is_later p q clients gives numbered w aside_scene ms i m at ids.plan (is_sized p q clients gives w us ids) (are_low p q clients gives w us ids) story.slots story.births story.tasks story.claims story.reads step found b kn refl room' says.0 in
          let r = aside_ticks p q clients gives numbered w aside_scene ms i m at ids.plan (is_sized p q clients gives w us ids) (are_low p q clients gives w us ids) story.slots story.births story.tasks story.claims story.reads step found b kn refl room' next says (waiting_at (calls_after step found w.core.calls).waiting i) few keeps refl refl in
          let at1 = put_at ms i m (mark_after p q clients gives step found m) at in
          let twice = set_twice ms i (mark_after p q clients gives step found m) r.mark in
          stands w aside_scene (set ms i r.mark) l (record {
            each = length-set ms i r.mark ∙ (story.each ∙ sym (length-set w.core.seats i (record { program = next_step (resolved (waiting_at (calls_after step found w.core.calls).waiting i) (next found)); hand = seat.hand })));
            slots = subst (SlotsLaw q aside_scene) twice (kept_slots p q clients gives aside_scene (set ms i (mark_after p q clients gives step found m)) i (mark_after p q clients gives step found m) r.mark at1 r.kept r.slots_law);
            births = r.births_law;
            tasks = r.tasks_law;
            claims = subst (ClaimsLaw p q clients gives aside_scene) twice (kept_claims p q clients gives aside_scene (set ms i (mark_after p q clients gives step found m)) i (mark_after p q clients gives step found m) r.mark at1 r.kept law);
            reads = subst (ReadsLaw p q clients gives aside_scene) twice (kept_reads p q clients gives aside_scene (set ms i (mark_after p q clients gives step found m)) i (mark_after p q clients gives step found m) r.mark at1 r.kept (reads_after_step p q clients gives w aside_scene ms i m at story.reads step found b kn says.0));
            seats = seats_after aside_scene (record { program = next_step (resolved (waiting_at (calls_after step found w.core.calls).waiting i) (next found)); hand = seat.hand }) r.mark refl l r.says_on;
          })

    by_found : (step : Step) (next : Found step → Program) (t : Option Taking) → SaysOn p q clients gives w m (Aside step next) → IdGoesOn p q u (Aside step next) → (x : Option (Found step)) → found_in step w.core.calls t ≡ x → Leads (with_found p i seat w.core step x next) → Goes (elim x as (λ o. List Post) [ none ↦ [] | some found ↦ posts_by step found ] ++ w.posts) (elim x as (λ o. List ℕ) [ none ↦ [] | some found ↦ advances_by step found w.core.calls ] ++ w.advances) (with_found p i seat w.core step x next)
    by_found step next t says go none is lead = before lead
    by_found step next t says go (some found) is lead = on_ids step next t says go found is lead

    -- ## Each step

    by_letter : (r : ℕ) (next : Heading → List ℕ → Program) → SaysOn p q clients gives w m (TakeMessage r next) → IdGoesOn p q u (TakeMessage r next) → (x : Option HeadedBytes) → message (λ (h : Home). h) w.core.homes r ≡ x → Leads (with_message p i seat w.core r x (λ letter. next letter.0 letter.1)) → Goes w.posts w.advances (with_message p i seat w.core r x (λ letter. next letter.0 letter.1))
    by_letter r next says go none is lead = before lead
    by_letter r next says go (some letter) is lead = let owner = ids.owners r (Message letter.0 letter.1) (message_there (get_elem? w.core.homes r) letter is) in
        on_homes (next letter.0 letter.1) seat.hand (set w.core.homes r none) (keeps_few p q u (next letter.0 letter.1) (go letter.0 letter.1 owner)) lead (λ v l s. says letter.0 letter.1 v owner l s)

    by_link : (k : ℕ) (next : ℕ → Program) → SaysOn p q clients gives w m (TakeHome k next) → IdGoesOn p q u (TakeHome k next) → (x : Option (List ℕ × ℕ)) → Leads (with_link p i seat w.core k x next) → Goes w.posts w.advances (with_link p i seat w.core k x next)
    by_link k next says go none lead = before lead
    by_link k next says go (some home) lead = on_homes (next home.1) (lies_at w.core.homes (link_place p k) ++ seat.hand) (set w.core.homes (link_place p k) none) (keeps_few p q u (next home.1) (go home.1)) lead (λ v l s. says home.1 v l s)

    by_put : (bytes : List ℕ) (next : Put → Program) → ((answer : Put) (v : Scene) → Later p q clients gives w v → SaidBy v (next answer) → SaysOn p q clients gives v m (next answer)) → ((answer : Put) → IdGoesOn p q u (next answer)) → (answer : Answer) → Leads (with_put p i seat w.core bytes answer next) → Goes w.posts w.advances (with_put p i seat w.core bytes answer next)
    by_put bytes next says go (OfPut answer) lead = on_homes (next answer) (onto_first (fed bytes answer) seat.hand) w.core.homes (keeps_few p q u (next answer) (go answer)) lead (λ v l s. says answer v l s)
    by_put bytes next says go _ lead = before lead

    by_ready : (next : Ready → Program) → ((answer : Ready) (v : Scene) → Later p q clients gives w v → SaidBy v (next answer) → SaysOn p q clients gives v m (next answer)) → ((answer : Ready) → IdGoesOn p q u (next answer)) → (answer : Answer) → Leads (with_ready p i seat w.core answer next) → Goes w.posts w.advances (with_ready p i seat w.core answer next)
    by_ready next says go (OfReady answer) lead = on_homes (next answer) seat.hand w.core.homes (keeps_few p q u (next answer) (go answer)) lead (λ v l s. says answer v l s)
    by_ready next says go _ lead = before lead

    of_first : (answer : Answer) (program : Program) → SaysOn p q clients gives w m program → IdGoesOn p q u program → FitsFirst p w.core program → AllowsDo p program → Leads (step_with p i seat w.core answer program) → Goes (posted_with w.core.calls (taken answer) program ++ w.posts) (advanced_with w.core.calls (taken answer) program ++ w.advances) (step_with p i seat w.core answer program)
    of_first answer (Do call next) says go fits in_ lead = let found : ℕ = found_at w.core.words (word_of p call) in
        on_sockets (next found) (hand_after p call w.core.homes seat.hand) (words_after w.core.words (word_of p call) (word_after call (found_at w.core.words (word_of p call)))) (homes_after p call seat.hand w.core.homes)
        (λ n low some_. names_after p q clients gives in_.0 call in_.1 says.0 w.core.words sized n low some_) (codes_after p q clients gives call says.0 w.core.words story.births.codes)
        (keeps_few p q u (next found) ((steps_on p q u call next go).1 found fits)) lead (λ v words l s. says.1 found v l s (finds_do in_.0 call in_.1 says.0 v words l))
    of_first answer (TakeMessage r next) says go fits in_ lead = by_letter r next says go (message (λ (h : Home). h) w.core.homes r) refl lead
    of_first answer (TakeHome k next) says go fits in_ lead = by_link k next says go (link_home (λ (h : Home). h) p w.core.homes k) lead
    of_first answer (PutHome k n after) says go fits in_ lead = on_homes after (others_of seat.hand) (set w.core.homes (link_place p k) (first_of (onto_first (with_places n) seat.hand))) (keeps_few p q u after go) lead (λ v l s. says v l s)
    of_first answer (PutBytes k asked bytes next) says go fits in_ lead = by_put bytes next says go answer lead
    of_first answer (AskReady k next) says go fits in_ lead = by_ready next says go answer lead
    of_first answer (Aside step next) says go fits in_ lead = by_found step next (taken answer) says go (found_in step w.core.calls (taken answer)) refl lead
    of_first answer _ says go fits in_ lead = before lead

    -- where the error on which the seat decides is noted, if it decides on one
    any_step : (answer : Answer) (program : Program) → ((d : Decision) → In d (decision_in program) → In d w.decisions) → SaysOn p q clients gives w m program → IdGoesOn p q u program → FitsFirst p w.core (first_step program) → AllowsDo p (first_step program) → Leads (tick_with p i seat w.core answer program) → Goes (posted_with w.core.calls (taken answer) (first_step program) ++ w.posts) (advanced_with w.core.calls (taken answer) (first_step program) ++ w.advances) (tick_with p i seat w.core answer program)
    any_step answer (Write x after) on says go fits in_ lead = of_first answer (block x after) (block_says p q clients gives w m x after says) (block_goes p q narrow u x after go) fits in_ lead
    any_step answer (Round head next) on says go fits in_ lead = of_first answer (round head next) (round_says p q clients gives w m head next on says) (ids_round p q u head next go) fits in_ lead
    any_step answer (Do call next) on says go fits in_ lead = of_first answer (Do call next) says go fits in_ lead
    any_step answer (TakeMessage r next) on says go fits in_ lead = of_first answer (TakeMessage r next) says go fits in_ lead
    any_step answer (TakeHome k next) on says go fits in_ lead = of_first answer (TakeHome k next) says go fits in_ lead
    any_step answer (PutHome k n after) on says go fits in_ lead = of_first answer (PutHome k n after) says go fits in_ lead
    any_step answer (PutBytes k asked bytes next) on says go fits in_ lead = of_first answer (PutBytes k asked bytes next) says go fits in_ lead
    any_step answer (AskReady k next) on says go fits in_ lead = of_first answer (AskReady k next) says go fits in_ lead
    any_step answer (Aside step next) on says go fits in_ lead = of_first answer (Aside step next) says go fits in_ lead
    any_step answer _ on says go fits in_ lead = before lead

  -- the view of each seat allows its step
  abbrev pub Allows : Core → Moment → Type 0
  Allows c mm = (seat : SeatState) → get_elem? c.seats mm.seat ≡ some seat → AllowsDo p (first_step seat.program)

  -- a tick of any seat goes on with the story, with the error noted on which it decides; behind seat 0 once it has nothing left to do
  pub story_lasts : (ps : List Post) (ns : List ℕ) (c : Core) (us : List IdView) (mm : Moment) → SoundIds p q c us → IsFittingIds p c mm → length c.words ≡ all_words p → Allows c mm → (mm.seat ≢ 0 → IsSetUp c) → LeadsTo p q clients gives (ticked p c mm) → (h : HasStory p q clients gives ps ns c)
      → GoesOn p q clients gives h.scene (decided_at c mm ++ h.scene.decisions) (posted_at c mm ++ ps) (advanced_at c mm ++ ns) (ticked p c mm)
  story_lasts ps ns c us mm ids fitting sized allows set_up lead h =
      subst (λ ks. GoesOn p q clients gives h.scene (decided_at c mm ++ h.scene.decisions) (posted_at c mm ++ ks) (advanced_at c mm ++ ns) (ticked p c mm)) h.shown_posts
      (subst (λ ks. GoesOn p q clients gives h.scene (decided_at c mm ++ h.scene.decisions) (posted_at c mm ++ h.scene.posts) (advanced_at c mm ++ ks) (ticked p c mm)) h.shown
      (subst (λ d. GoesOn p q clients gives h.scene (decided_at d mm ++ h.scene.decisions) (posted_at d mm ++ h.scene.posts) (advanced_at d mm ++ h.scene.advances) (ticked p d mm)) h.is
      (of_scene h.scene h.marks h.story (subst (λ d. SoundIds p q d us) (sym h.is) ids) (subst (λ d. IsFittingIds p d mm) (sym h.is) fitting) (subst (λ (d : Core). length d.words ≡ all_words p) (sym h.is) sized) (subst (λ d. Allows d mm) (sym h.is) allows) (subst (λ d. mm.seat ≢ 0 → IsSetUp d) (sym h.is) set_up) (subst (λ d. LeadsTo p q clients gives (ticked p d mm)) (sym h.is) lead))))
    where
      of_scene : (w : Scene) (ms : List Mark) → CallStory p q clients gives w ms → SoundIds p q w.core us → IsFittingIds p w.core mm → length w.core.words ≡ all_words p → Allows w.core mm → (mm.seat ≢ 0 → IsSetUp w.core) → LeadsTo p q clients gives (ticked p w.core mm) → GoesOn p q clients gives w (decided_at w.core mm ++ w.decisions) (posted_at w.core mm ++ w.posts) (advanced_at w.core mm ++ w.advances) (ticked p w.core mm)
      of_scene w ms story ids fitting sized allows set_up lead = by_seat (get_elem? w.core.seats mm.seat) refl lead
        where
          over : mm.seat ≢ 0 → (n : Mark) → At ms 0 n → n.todo ≡ []
          over other n there = let s = elem_there ms w.core.seats 0 n (sym story.each) there in let g = subst (SaysOn p q clients gives w n) (set_up other s.0 s.1) (story.seats 0 s.0 n s.1 there) in g.1

          here : LeadsTo p q clients gives w.core
          here = run_leads p q clients gives (mm ∷ []) w.core lead

          by_seat : (x : Option SeatState) → get_elem? w.core.seats mm.seat ≡ x → LeadsTo p q clients gives (elim x as (λ o. Core) [ none ↦ w.core | some seat ↦ tick_with p mm.seat seat w.core mm.answer seat.program ]) → GoesOn p q clients gives w (elim x as (λ o. List Decision) [ none ↦ [] | some seat ↦ decision_in seat.program ] ++ w.decisions) (elim x as (λ o. List Post) [ none ↦ [] | some seat ↦ posted_with w.core.calls (taken mm.answer) (first_step seat.program) ] ++ w.posts) (elim x as (λ o. List ℕ) [ none ↦ [] | some seat ↦ advanced_with w.core.calls (taken mm.answer) (first_step seat.program) ] ++ w.advances) (elim x as (λ o. Core) [ none ↦ w.core | some seat ↦ tick_with p mm.seat seat w.core mm.answer seat.program ])
          by_seat none e lead = stays w ms story here
          by_seat (some seat) e lead = let u = elem_there w.core.seats us mm.seat seat ids.each e in let m = elem_there w.core.seats ms mm.seat seat story.each e in
              let told = noted_story w ms story us ids sized mm.seat seat e u.0 u.1 m.0 m.1 over (decision_in seat.program) here in
              let k = any_step (noted (decision_in seat.program) w) ms told us ids sized mm.seat seat e u.0 u.1 m.0 m.1 over mm.answer seat.program (λ d there. in_front d (decision_in seat.program) w.decisions there) (told.seats mm.seat seat m.0 e m.1) (ids.seats mm.seat seat u.0 e u.1) (fitting seat e) (allows seat e) lead in record {
                has = k.has;
                shown_decisions = k.shown_decisions;
                later = far p q clients gives w (noted (decision_in seat.program) w) (let h = k.has in h.scene) (noted_later w ms story us ids sized mm.seat seat e u.0 u.1 m.0 m.1 over (decision_in seat.program) here) k.later;
              }

  pub story_ticks : (ps : List Post) (ns : List ℕ) (c : Core) (us : List IdView) (mm : Moment) → SoundIds p q c us → IsFittingIds p c mm → length c.words ≡ all_words p → Allows c mm → (mm.seat ≢ 0 → IsSetUp c) → LeadsTo p q clients gives (ticked p c mm) → HasStory p q clients gives ps ns c → HasStory p q clients gives (posted_at c mm ++ ps) (advanced_at c mm ++ ns) (ticked p c mm)
  story_ticks ps ns c us mm ids fitting sized allows set_up lead h = let k = story_lasts ps ns c us mm ids fitting sized allows set_up lead h in k.has
