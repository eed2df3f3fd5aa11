-- In a whole run the word of each call is that of its id as the run ends, and whoever stores an at word stores one of that id.
use Rattle.std.proofs.Common.{◌≡◌, ◌≢◌, ℕ, zero, suc, ◌<◌, ◌≤◌, ◌⊎◌, inl, inr, ⊎_elim, List, [], ◌∷◌, ◌++◌, length, map, replicate, get_or, refl, sym, ap, ◌∙◌, subst, arith}
use Rattle.std.specs.List.{AllByRecursion}
use Rattle.std.proofs.lemmas.List.{get_or_past}
use mathlib.Core.Logic.{dite}
use native.Mathlib.Decide.{dec_le}
use Rattle.sock_words.specs.declared.plain.Plan.{Plan}
use Rattle.sock_words.specs.PackedWords.{at_word, call_id, id_slot, id_first}
use Rattle.sock_model.specs.declared.view.View.{View}
use Rattle.seat_programs.specs.brpc_model.specs.Items.{Item}
use Rattle.seat_programs.specs.brpc_model.specs.Operations.{Turn}
use Rattle.corr_core.specs.IdSlotWord.{Parts}
use Rattle.corr_core.specs.declared.marks.Plan.{Plan as IdPlan}
use Rattle.seat_programs.specs.id_rule.specs.LawfulIdTable.{call_index}
use Rattle.own_decisions.specs.Below.id_runs.proofs.IdRuleOpening.{unused}
use Rattle.sock_message.specs.Asked.{Asked}
use Rattle.seat_programs.specs.Asides.{StoreCall, StoreAt}
use Rattle.seat_programs.specs.TableSteps.{TableStep, OnSlot, OnName, OnChain, LoadName, FindLink, ClaimRequest}
use Rattle.seat_programs.specs.ClientProgram.{ending_of}
use Rattle.seat_programs.specs.Cores.{Core, with_seat}
use Rattle.seat_programs.specs.declared.task.Task.{Task}
use Rattle.seat_programs.specs.Programs.{Program, Rest, Do, Aside}
use Rattle.seat_programs.specs.ScheduledRuns.{IsAtRest}
use Rattle.seat_programs.specs.Ticks.{Moment, AreAnswered, quiet, ticked, run}
use Rattle.seat_programs.specs.Tasks.{opens, calls, plan_of, id_plan_of}
use Rattle.seat_programs.specs.ScriptSetupToEnding.{sizes_of, programs, readers_from, all_programs, all_tasks, opened, ending, set_up, played, is_ending, IsRunWithCalls}
use Rattle.own_decisions.specs.Below.programs_allowed.specs.program_steps.specs.SoundSeats.{IsAhead, AllRest, views_after, views_along}
use Rattle.own_decisions.specs.Below.programs_allowed.specs.program_steps.proofs.TickCases.{elem_there}
use Rattle.own_decisions.specs.Below.programs_allowed.specs.sock_runs.proofs.SoundAlongRuns.{seat_rests, ticked_ahead}
use Rattle.own_decisions.specs.Below.programs_allowed.specs.sock_runs.proofs.Quiets.{ticked_rests, run_rests}
use Rattle.own_decisions.specs.Below.programs_allowed.specs.program_walks.proofs.WholeScriptSound.{views_played, views_closed, set_up_answered, end_answered}
use Rattle.own_decisions.specs.Below.outcome_causes.proofs.Final.{at_there}
use Rattle.own_decisions.specs.Below.joint_runs.proofs.BothTablesSound.{BothSound, AreBoth, behind_both}
use Rattle.own_decisions.specs.Below.joint_runs.proofs.RunsOfBothTables.{AreMade, first_views, joint_runs}
use Rattle.own_decisions.specs.Below.script_facts.proofs.ReadScriptFacts.{InRange}
use Rattle.own_decisions.specs.Below.script_facts.proofs.Targets.{AreThere}
use Rattle.own_decisions.specs.Below.call_stories.specs.LinkReadingLists.{gave_in, advanced_at}
use Rattle.own_decisions.specs.Below.call_stories.specs.Scenes.{LeadsTo}
use Rattle.own_decisions.specs.Below.call_stories.specs.PostsOfRun.{Post, posted_at}
use Rattle.own_decisions.specs.Below.call_stories.specs.CallStories.{HasStory}
use Rattle.own_decisions.specs.Below.story_ticks.proofs.Allowing.{allows}
use Rattle.own_decisions.specs.Below.story_ticks.proofs.Claiming.{HaveSlots}
use Rattle.own_decisions.specs.Below.call_stories.proofs.LeadingBytesGiven.{run_leads}
use Rattle.own_decisions.specs.Below.story_steps.proofs.NumberedTasks.{AreNumbered}
use Rattle.own_decisions.specs.Below.story_ticks.proofs.StoryOpening.{first_story}
use Rattle.own_decisions.specs.Below.call_causes.proofs.RunOfCallStory.{ending_story, told_on}
use Rattle.own_decisions.specs.Below.story_ticks.proofs.RunFacts.{own_leads, run_facts, leadings}
use Rattle.own_decisions.specs.Below.story_ticks.proofs.ScriptTasksFitStory as scripts
use Rattle.own_decisions.specs.Below.story_ticks.proofs.TicksKeepCallStory.{IsSetUp, story_ticks}
use Rattle.own_decisions.specs.accept_counts.specs.AttemptCounts.{word_of_id, StoresOwn, AreLabelled}
use Rattle.own_decisions.specs.accept_counts.proofs.EarlyClosedSockets.{start, go, fitting}
use Rattle.own_decisions.specs.accept_counts.proofs.RunsKeepAttemptLaw.{AreLabelledIn, IsCallOf, asked_by}
use Rattle.own_decisions.specs.sent_once.proofs.SocketOperationsTold.{opening_bare}
use Rattle.own_decisions.specs.sent_once.proofs.Labelled.{named_id}
use Rattle.attempted_calls.proofs.AttemptedWords.{Rise, AdvancesAt, is_new, is_same, is_more, tick_rises}
use Rattle.attempted_calls.proofs.AttemptedIds.{AdvancesId, AreRising, AreRisingIn}
use Rattle.own_decisions.specs.accept_counts.specs.RefusedOrDropped.{WouldStore, WouldOwn, AllWouldOwn, RunWouldOwn}
use Rattle.attempted_calls.proofs.EndedTrails.{Trail, Knows, lost, Follows, GoesDo, Stays, NoCall, Makes, Of}
use Rattle.attempted_calls.proofs.EndedPrograms.{ending_goes}
use Rattle.attempted_calls.proofs.EndedNames.{follows_first}
use Rattle.attempted_calls.proofs.EndedNamed.{all_follow, begins_named}
use Rattle.attempted_calls.proofs.AttemptedCalls.{AreStored}
use Rattle.attempted_calls.proofs.AttemptedFacts.{IsStoring, IsOwn, facts}
use Rattle.attempted_calls.proofs.AttemptedOwn.{IsTrueOf, CallLaw, beside, own_ticks}
use Rattle.own_decisions.specs.Below.programs_allowed.specs.program_walks.proofs.OpenedLivesRecorded.{mapped}
use Rattle.own_decisions.specs.Below.joint_runs.proofs.StartsWithBothRules.{narrow}
use Rattle.seat_programs.specs.LoopRounds.{first_step}

-- a step on the sockets leaves which call is known, or forgets it
stays_of : (t u : Trail) → Stays t u → (u.of ≡ t.of) ⊎ (u.of ≡ NoCall)
stays_of t u (inl same) = inl (ap (λ (x : Trail). x.of) same)
stays_of t u (inr none_) = inr (ap (λ (x : Trail). x.of) none_)

goes_of : (t u : Trail) (call : TableStep) (found : ℕ) → GoesDo t call found u → (u.of ≡ t.of) ⊎ (u.of ≡ NoCall)
goes_of t u (OnName (LoadName m)) found g = ⊎_elim (λ same. inl (ap (λ (x : Trail). x.of) same)) (λ rest. ⊎_elim (λ none_. inr (ap (λ (x : Trail). x.of) none_)) (λ a. inl (ap (λ (x : Trail). x.of) a.1)) rest) g
goes_of t u (OnChain (ClaimRequest s q)) found g = ⊎_elim (λ same. inl (ap (λ (x : Trail). x.of) same)) (λ rest. ⊎_elim (λ none_. inr (ap (λ (x : Trail). x.of) none_)) (λ a. inl (ap (λ (x : Trail). x.of) a.3)) rest) g
goes_of t u (OnSlot (FindLink i h)) found g = ⊎_elim (λ same. inl (ap (λ (x : Trail). x.of) same)) (λ rest. ⊎_elim (λ none_. inr (ap (λ (x : Trail). x.of) none_)) (λ a. inl (ap (λ (x : Trail). x.of) a.5)) rest) g
goes_of t u other found g = stays_of t u g

-- whoever would store an at word knows its call
pub record Would (of : Of) (o id n : ℕ) : Type 0 where
  pub own : ℕ
  pub attempt : ℕ
  pub link : ℕ
  pub other : ℕ
  pub word : ℕ
  pub knows : of ≡ Knows o own
  pub mine : word ≡ at_word (id_first own) (id_slot own) link attempt
  pub low : link < 65535
  pub few : attempt ≤ 6
  pub theirs : word ≡ at_word (id_first id) (id_slot id) other n
  pub low_too : other < 65535

pub would_of : (is_call : Asked → Type 0) (t : Trail) (x : Program) (o id n : ℕ) → Follows is_call t x → WouldStore o id n x → Would t.of o id n
would_of is_call t (Do call next) o id n f (found, fits, would) = let g = f.1 found fits in let r = would_of is_call g.0 (next found) o id n g.2 would in
    ⊎_elim (λ same. record { own = r.own; attempt = r.attempt; link = r.link; other = r.other; word = r.word; knows = sym same ∙ r.knows; mine = r.mine; low = r.low; few = r.few; theirs = r.theirs; low_too = r.low_too })
    (λ none_. absurd (let z : NoCall ≡ Knows o r.own = sym none_ ∙ r.knows in cc)) (goes_of t g.0 call found g.1)
would_of is_call t (Aside (StoreAt x w) next) o id n f (k, same, is, low) = let own = (f 0 tt).1.1 in
    record { own = own.of.id; attempt = own.of.attempt; link = own.of.link; other = k; word = w; knows = own.knows ∙ ap (λ z. Knows z own.of.id) same; mine = own.of.word; low = own.of.small; few = own.of.few; theirs = is; low_too = low }
would_of is_call t other o id n f would = absurd would

-- behind seat 0, once it has nothing left to do
abbrev pub AreSetUp : Plan → Core → List Moment → Type 0
AreSetUp p c [] = Unit {0}
AreSetUp p c (m ∷ ms) = (m.seat ≢ 0 → IsSetUp c) × AreSetUp p (ticked p c m) ms

pub alone_set_up : (p : Plan) (n : ℕ) (c : Core) → AreSetUp p c (replicate n (quiet 0))
alone_set_up p zero c = tt
alone_set_up p (suc n) c = ((λ other. absurd (other refl)), alone_set_up p n (ticked p c (quiet 0)))

pub rests_set_up : (p : Plan) (ms : List Moment) (c : Core) → IsAhead c → IsAtRest c 0 → AreSetUp p c ms
rests_set_up p [] c ahead rests = tt
rests_set_up p (m ∷ ms) c ahead rests = ((λ _ seat at. seat_rests c ahead 0 rests seat at), rests_set_up p ms (ticked p c m) (ticked_ahead p c m ahead) (ticked_rests p c m 0 rests))

module _ (p : Plan) (q : IdPlan) (clients : List (List Task)) (gives : ℕ → List ℕ) (numbered : AreNumbered p q clients gives) (slots : HaveSlots p q clients gives) (small : q.slots ≤ 65536) (is_call : Asked → Type 0) where
  -- these are the ids of the calls
  abbrev pub AreOf : Core → (ℕ → ℕ) → Type 0
  AreOf c ids = (o id : ℕ) → IsOwn q c o id → ids o ≡ id

  -- the story of a core, and the law of its calls
  pub record Owns (c : Core) : Type 0 where
    pub posted : List Post
    pub shown : List ℕ
    pub story : HasStory p q clients gives posted shown c
    pub trails : List Trail
    pub law : CallLaw q is_call c trails

  -- of some ticks, for each choice of ids that has those of the last
  pub record Ahead (c : Core) (ms : List Moment) : Type 0 where
    pub owns : Owns (run p c ms)
    pub stays : (o id : ℕ) → IsOwn q c o id → IsOwn q (run p c ms) o id
    pub are : (ids : ℕ → ℕ) → AreOf (run p c ms) ids → AreLabelled ids p q c ms × AreRising ids p q c ms
    pub would : (ids : ℕ → ℕ) → AreOf (run p c ms) ids → AllWouldOwn ids p c ms

  module _ (c : Core) (k : Owns c) (ids : ℕ → ℕ) (are : AreOf c ids) where
    stores_own : (m : Moment) → StoresOwn ids c m
    stores_own m seat o w next at is id n l same low few slot = let t = elem_there c.seats k.trails m.seat seat k.law.each at in
        let f = subst (Follows is_call t.0) is (follows_first is_call t.0 seat.program (k.law.programs m.seat seat t.0 at t.1)) in let own = (f 0 tt).1.1 in
        let knows : IsOwn q c o own.of.id = subst (IsTrueOf q c) own.knows (k.law.knows m.seat t.0 t.1) in
        let mine = named_id own.of.id own.of.link own.of.attempt w own.of.word own.of.small own.of.few (let z = knows.low in omega (arith, z, small)) in let theirs = named_id id l n w same low few slot in
        let one : own.of.id ≡ id = sym mine ∙ theirs in (are o own.of.id knows ∙ one, (λ z. knows.some_ (one ∙ z)))

    would_own : (m : Moment) → WouldOwn ids c m
    would_own m seat at o id n few slot would = let t = elem_there c.seats k.trails m.seat seat k.law.each at in
        let w = would_of is_call t.0 (first_step seat.program) o id n (follows_first is_call t.0 seat.program (k.law.programs m.seat seat t.0 at t.1)) would in
        let knows : IsOwn q c o w.own = subst (IsTrueOf q c) w.knows (k.law.knows m.seat t.0 t.1) in
        let mine = named_id w.own w.link w.attempt w.word w.mine w.low w.few (let z = knows.low in omega (arith, z, small)) in let theirs = named_id id w.other n w.word w.theirs w.low_too few slot in
        are o w.own knows ∙ (sym mine ∙ theirs)

    own_rise : (m : Moment) (i : ℕ) → i < q.slots → (d : Core) → Rise (word_of_id c.calls.words i) (word_of_id d.calls.words i) (Unit {0}) (AdvancesAt c m i)
        → Rise (word_of_id c.calls.words i) (word_of_id d.calls.words i) (Unit {0}) (AdvancesId ids c m (call_id i (word_of_id c.calls.words i).first))
    own_rise m i low d (is_new n z) = is_new n z
    own_rise m i low d (is_same f live a) = is_same f live a
    own_rise m i low d (is_more f live a more) = let r = k.law.ranges i low live in let same = (facts p q clients gives k.posted k.shown c k.story).at_home i r.0 more.0 low live more.1 r.1 in
        let has = are r.0 (call_id i (word_of_id c.calls.words i).first) r.1 in is_more f live a (r.0, (λ z. r.1.some_ (sym has ∙ z)), has, more.2 ∙ ap (λ n. n ∷ []) (sym same))

  along : (ms : List Moment) (c : Core) (vs : List View) → AreBoth p q c vs ms → AreAnswered p c ms → AreSetUp p c ms → LeadsTo p q clients gives (run p c ms) → Owns c → Ahead c ms
  along [] c vs both answered over lead k = record { owns = k; stays = λ o id own. own; are = λ ids a. ((both.id_views, both.ids), tt); would = λ ids a. tt }
  along (m ∷ ms) c vs both answered over lead k =
      let t = own_ticks p q small is_call c vs k.trails k.law both.0.id_views both.0.ids (facts p q clients gives k.posted k.shown c k.story) both.0.sockets m answered.0 both.1.fitting_ids in
      let next : Owns (ticked p c m) = record {
        posted = posted_at c m ++ k.posted;
        shown = advanced_at c m ++ k.shown;
        story = story_ticks p q clients gives numbered slots small k.posted k.shown c both.0.id_views m both.0.ids both.1.fitting_ids (let s = both.0.sockets in s.lawful.references.sized) (allows p c vs m both.0.sockets) over.0 (run_leads p q clients gives ms (ticked p c m) lead) k.story;
        trails = t.0;
        law = t.1;
      } in
      let r = along ms (ticked p c m) (views_after p c vs m) both.2 answered.1 over.1 lead next in record {
        owns = r.owns;
        stays = λ o id own. r.stays o id (t.2 o id own);
        are = λ ids a. let rest = r.are ids a in let here : AreOf c ids = λ o id own. a o id (r.stays o id (t.2 o id own)) in (
          ((both.0.id_views, both.0.ids), both.1.fitting_ids, stores_own c k ids here m, rest.0),
          (λ i low live. own_rise c k ids here m i low (ticked p c m) (tick_rises p q small c both.0.id_views both.0.ids m i low live), rest.1),
        );
        would = λ ids a. (would_own c k ids (λ o id own. a o id (r.stays o id (t.2 o id own))) m, r.would ids a);
      }

  -- the readers are told that the run is ending
  told_own : (c : Core) (o id : ℕ) → IsOwn q c o id → IsOwn q (is_ending c) o id
  told_own c o id own = record { inside = own.inside; some_ = own.some_; low = own.low; either = ⊎_elim (λ s. inl s) (λ (s : IsStoring q c o id). inr (record { seat = s.seat; state = s.state; next = s.next; at = s.at; is = s.is })) own.either }

  told_of : (c : Core) (x : Of) → IsTrueOf q c x → IsTrueOf q (is_ending c) x
  told_of c NoCall h = tt
  told_of c (Makes id) h = tt
  told_of c (Knows o id) h = told_own c o id h

  told_owns : (c : Core) (vs : List View) → BothSound p q c vs → 0 < length c.seats → LeadsTo p q clients gives (is_ending c) → Owns c → Owns (is_ending c)
  told_owns c vs both some_ lead k = let h = told_on p q clients gives numbered slots small k.posted k.shown c vs both some_ lead (k.posted, k.shown, k.story, (λ x there. there), λ o. refl) in record {
    posted = h.0;
    shown = h.1;
    story = h.2;
    trails = k.trails;
    law = record {
      knows = λ j t at. told_of c t.of (k.law.knows j t at);
      ranges = λ i low live. let r = k.law.ranges i low live in (r.0, told_own c r.0 (call_id i (word_of_id c.calls.words i).first) r.1);
      calls = k.law.calls;
      each = k.law.each;
      programs = k.law.programs;
    };
  }

  -- seat 0 begins the ending
  ending_owns : (os : List ℕ) (c : Core) (vs : List View) → BothSound p q c vs → 0 < length c.seats → IsAhead c → IsAtRest c 0 → LeadsTo p q clients gives (with_seat 0 (ending_of os) [] c.words c.homes c) → Owns c
      → Owns (with_seat 0 (ending_of os) [] c.words c.homes c) × ((o id : ℕ) → IsOwn q c o id → IsOwn q (with_seat 0 (ending_of os) [] c.words c.homes c) o id)
  ending_owns os c vs both some_ ahead rests lead k = let h = ending_story p q clients gives numbered slots small os k.posted k.shown c vs both some_ ahead rests lead (k.posted, k.shown, k.story, (λ x there. there), λ o. refl) in
      let seat = at_there c.seats 0 some_ in let t = elem_there c.seats k.trails 0 seat.0 k.law.each seat.1 in let rest = seat_rests c ahead 0 rests seat.0 seat.1 in
      let b = beside p q small is_call c vs k.trails k.law both.id_views both.ids (facts p q clients gives k.posted k.shown c k.story) 0 seat.0 t.0 seat.1 t.1 (ending_of os) [] c.words c.homes lost (λ o id after e. (let z : Rest ≡ Aside (StoreCall o id) after = sym rest ∙ e in cc)) (ending_goes is_call os) (λ z. tt) in
      (record { posted = h.0; shown = h.1; story = h.2; trails = b.0; law = b.1 }, b.2)

-- ## A whole run

-- the id of the call that is operation o, as the run ends
abbrev pub ids_at : List Item → Core → ℕ → ℕ
ids_at script core o = get_or core.calls.words (call_index (id_plan_of script) o) 0

module _ (script : List Item) (made : AreMade script) (there : AreThere script) (range : AllByRecursion InRange script) (turns : List Turn) (core : Core) (is : IsRunWithCalls script turns core) where
  abbrev p : Plan
  p = plan_of script

  abbrev q : IdPlan
  q = id_plan_of script

  abbrev gives : ℕ → List ℕ
  gives = gave_in core

  abbrev pub numbered : AreNumbered (plan_of script) (id_plan_of script) (all_tasks script) (gave_in core)
  numbered = scripts.are_numbered script made there range (gave_in core)

  abbrev pub slots : HaveSlots (plan_of script) (id_plan_of script) (all_tasks script) (gave_in core)
  slots = scripts.have_slots script made there range (gave_in core)

  abbrev pub small : (id_plan_of script).slots ≤ 65536
  small = narrow (plan_of script) (id_plan_of script) (all_tasks script) (calls script) (opens script) made

  abbrev pub Leads : Core → Type 0
  Leads c = LeadsTo (plan_of script) (id_plan_of script) (all_tasks script) (gave_in core) c

  abbrev Has : Core → Type 0
  Has c = Owns (plan_of script) (id_plan_of script) (all_tasks script) (gave_in core) numbered slots small (IsCallOf script) c

  abbrev Goes : Core → List Moment → Type 0
  Goes c ms = Ahead (plan_of script) (id_plan_of script) (all_tasks script) (gave_in core) numbered slots small (IsCallOf script) c ms

  open run_facts script made turns core is use {length_is, few_tries, set_up_ahead, played_ahead, ended_ahead, many_played, many_closed}
  open leadings script turns core is (gave_in core) (own_leads script core) use {ended_leads, told_leads, closed_leads, ending_leads, played_leads, set_up_leads, opened_leads}

  first : Has (opened script)
  first = let n = begins_named (plan_of script) (id_plan_of script) (IsCallOf script) [] [] (all_programs (programs (sizes_of (plan_of script) (id_plan_of script)) (all_tasks script)) (readers_from (calls script) 0 (opens script)))
      (all_follow (IsCallOf script) (sizes_of (plan_of script) (id_plan_of script)) (all_tasks script) (asked_by script) (calls script) (opens script)) (first_views script)
      (opening_bare script) in record {
        posted = [];
        shown = [];
        story = first_story (plan_of script) (id_plan_of script) (all_tasks script) (gave_in core) numbered slots (calls script) (opens script) (scripts.begins script made there range (gave_in core)) made.seats length_is few_tries opened_leads;
        trails = map (λ (x : Program). lost) (all_programs (programs (sizes_of (plan_of script) (id_plan_of script)) (all_tasks script)) (readers_from (calls script) 0 (opens script)));
        law = record {
          knows = λ j t at. subst (λ (y : Trail). IsTrueOf (id_plan_of script) (opened script) y.of) (mapped (λ (x : Program). lost) (all_programs (programs (sizes_of (plan_of script) (id_plan_of script)) (all_tasks script)) (readers_from (calls script) 0 (opens script))) j t at).2 tt;
          ranges = λ i low live. absurd (let free : (word_of_id (opened script).calls.words i).state ≡ 0 = ap (λ (w : Parts). w.state) ((unused (id_plan_of script)).ids i low) in omega (arith, free, live));
          calls = n.calls;
          each = n.each;
          programs = n.programs;
        };
      }

  pub setup_goes : Goes (opened script) (replicate is.setup (quiet 0))
  setup_goes = let s = joint_runs script turns core is made in along p q (all_tasks script) gives numbered slots small (IsCallOf script) (replicate is.setup (quiet 0)) (opened script) (first_views script) s.setup
      (set_up_answered script made.are (first_views script) (start script made turns core is) (go script made turns core is) turns core is (fitting script made turns core is)) (alone_set_up p is.setup (opened script)) set_up_leads first

  clients_go : Goes (set_up script is.setup) (is.scheduled ++ is.later)
  clients_go = let s = joint_runs script turns core is made in along p q (all_tasks script) gives numbered slots small (IsCallOf script) (is.scheduled ++ is.later) (set_up script is.setup) (views_along (plan_of script) (opened script) (first_views script) (replicate is.setup (quiet 0))) s.clients
      is.answered (rests_set_up p (is.scheduled ++ is.later) (set_up script is.setup) set_up_ahead is.is_set_up) played_leads setup_goes.owns

  pub played_both : BothSound (plan_of script) (id_plan_of script) (played script is.setup (is.scheduled ++ is.later)) (views_played script turns core is (first_views script))
  played_both = let s = joint_runs script turns core is made in behind_both p q (set_up script is.setup) (views_along (plan_of script) (opened script) (first_views script) (replicate is.setup (quiet 0))) (is.scheduled ++ is.later) s.clients

  pub some_seats : 0 < (id_plan_of script).seats
  some_seats = let seats = made.seats in omega (arith, seats)

  begun : Has (ending script (played script is.setup (is.scheduled ++ is.later))) × ((o id : ℕ) → IsOwn (id_plan_of script) (played script is.setup (is.scheduled ++ is.later)) o id → IsOwn (id_plan_of script) (ending script (played script is.setup (is.scheduled ++ is.later))) o id)
  begun = ending_owns p q (all_tasks script) gives numbered slots small (IsCallOf script) (opens script) (played script is.setup (is.scheduled ++ is.later)) (views_played script turns core is (first_views script)) played_both (let m = many_played in let s = some_seats in omega (arith, m, s)) played_ahead
      (run_rests (plan_of script) (set_up script is.setup) (is.scheduled ++ is.later) 0 is.is_set_up) ending_leads clients_go.owns

  closing_goes : Goes (ending script (played script is.setup (is.scheduled ++ is.later))) (replicate is.last (quiet 0))
  closing_goes = let s = joint_runs script turns core is made in along p q (all_tasks script) gives numbered slots small (IsCallOf script) (replicate is.last (quiet 0)) (ending script (played script is.setup (is.scheduled ++ is.later))) (views_played script turns core is (first_views script)) s.closing
      (end_answered script made.are (first_views script) (start script made turns core is) (go script made turns core is) turns core is (fitting script made turns core is)) (alone_set_up p is.last (ending script (played script is.setup (is.scheduled ++ is.later)))) closed_leads begun.0

  ended_owns : Has is.ended × ((o id : ℕ) → IsOwn (id_plan_of script) (run (plan_of script) (ending script (played script is.setup (is.scheduled ++ is.later))) (replicate is.last (quiet 0))) o id → IsOwn (id_plan_of script) is.ended o id)
  ended_owns = let s = joint_runs script turns core is made in let c : Core = run (plan_of script) (ending script (played script is.setup (is.scheduled ++ is.later))) (replicate is.last (quiet 0)) in
      let both = behind_both p q (ending script (played script is.setup (is.scheduled ++ is.later))) (views_played script turns core is (first_views script)) (replicate is.last (quiet 0)) s.closing in
      subst (λ d. Has d × ((o id : ℕ) → IsOwn (id_plan_of script) (run (plan_of script) (ending script (played script is.setup (is.scheduled ++ is.later))) (replicate is.last (quiet 0))) o id → IsOwn (id_plan_of script) d o id)) (sym is.is_ended) (
        told_owns p q (all_tasks script) gives numbered slots small (IsCallOf script) (run (plan_of script) (ending script (played script is.setup (is.scheduled ++ is.later))) (replicate is.last (quiet 0))) (views_closed script turns core is (first_views script)) both (let m = many_closed in let s = some_seats in omega (arith, m, s)) told_leads closing_goes.owns,
        told_own p q (all_tasks script) gives numbered slots small (IsCallOf script) (run (plan_of script) (ending script (played script is.setup (is.scheduled ++ is.later))) (replicate is.last (quiet 0))),
      )

  final_goes : Goes is.ended is.final
  final_goes = let s = joint_runs script turns core is made in along p q (all_tasks script) gives numbered slots small (IsCallOf script) is.final is.ended (views_closed script turns core is (first_views script)) s.final
      is.answered_again (rests_set_up p is.final is.ended ended_ahead is.is_over) (subst Leads is.is_end (own_leads script core)) ended_owns.0

  module _ (settled : AllRest core) where
    end_are : (o id : ℕ) → IsOwn (id_plan_of script) (run (plan_of script) is.ended is.final) o id → ids_at script core o ≡ id
    end_are o id own = by_core (subst (λ d. IsOwn (id_plan_of script) d o id) (sym is.is_end) own)
      where
        by_core : IsOwn (id_plan_of script) core o id → ids_at script core o ≡ id
        by_core own = ⊎_elim (λ s. s) (λ (s : IsStoring (id_plan_of script) core o id). absurd (let z : Rest ≡ Aside (StoreCall o id) s.next = sym (settled s.seat s.state s.at) ∙ s.is in cc)) own.either

    -- whoever stores an at word stores one of that id, and the call that a tick advances has the id of its slot
    pub stored_run : AreLabelledIn (ids_at script core) script turns core is × AreRisingIn (ids_at script core) script turns core is
    stored_run = let four = final_goes.are (ids_at script core) end_are in
        let three = closing_goes.are (ids_at script core) (λ o id own. end_are o id (final_goes.stays o id (ended_owns.1 o id own))) in
        let two = clients_go.are (ids_at script core) (λ o id own. end_are o id (final_goes.stays o id (ended_owns.1 o id (closing_goes.stays o id (begun.1 o id own))))) in
        let one = setup_goes.are (ids_at script core) (λ o id own. end_are o id (final_goes.stays o id (ended_owns.1 o id (closing_goes.stays o id (begun.1 o id (clients_go.stays o id own)))))) in (
          record { of_setup = one.0; of_played = two.0; of_closing = three.0; of_final = four.0 },
          record { of_setup = one.1; of_played = two.1; of_closing = three.1; of_final = four.1 },
        )

    -- and so would each attempt do that is refused before it stores one
    pub would_run : RunWouldOwn (ids_at script core) script turns core is
    would_run = record {
      of_setup = setup_goes.would (ids_at script core) (λ o id own. end_are o id (final_goes.stays o id (ended_owns.1 o id (closing_goes.stays o id (begun.1 o id (clients_go.stays o id own))))));
      of_played = clients_go.would (ids_at script core) (λ o id own. end_are o id (final_goes.stays o id (ended_owns.1 o id (closing_goes.stays o id (begun.1 o id own)))));
      of_closing = closing_goes.would (ids_at script core) (λ o id own. end_are o id (final_goes.stays o id (ended_owns.1 o id own)));
      of_final = final_goes.would (ids_at script core) end_are;
    }

  -- the words of the calls are those of calls of the table
  pub words_stored : AreStored (ids_at script core) script core
  words_stored o some_ = let both = (joint_runs script turns core is made).over in let sized = both.ids.rule.sized in
      (dite (dec_le (id_plan_of script).operations o) (λ past. absurd (some_ (get_or_past core.calls.words (call_index (id_plan_of script) o) 0 (omega (arith, past, sized))))) (λ less. omega (arith, less)), refl)
