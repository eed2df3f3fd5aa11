-- In a whole run each post is a reader's, an expiry, that of a refused attempt of which nothing is left, or that of a dropped message; and whatever was done for it was done before the run was ending, or behind that.
use Rattle.std.proofs.Common.{◌≡◌, ◌≢◌, ℕ, zero, suc, ◌<◌, ◌≤◌, ◌⊎◌, inl, inr, ⊎_elim, Bool, true, false, nat_le, List, [], ◌∷◌, ◌++◌, length, map, replicate, refl, sym, ap, ◌∙◌, subst, arith}
use Rattle.std.proofs.lemmas.List.{length-map}
use Rattle.std.specs.List.{AllByRecursion}
use Rattle.std.specs.Prelude as std
use mathlib.Core.Logic.{dite}
use native.Mathlib.Decide.{ℕ_discrete}
use mathlib.Core.Option.{Option, none, some, some-injective, some-ne-none}
use lib.ListN.{get_elem?}
use Rattle.atomic_table.proofs.Lists.{set_again, set_else}
use Rattle.sock_words.specs.declared.plain.Plan.{Plan}
use Rattle.sock_io.specs.declared.link.Put.{Put}
use Rattle.sock_model.specs.declared.view.View.{View}
use Rattle.sock_model.specs.declared.home.Home.{Home}
use Rattle.sock_model.specs.UnplacedMessages.{HeadedBytes}
use Rattle.sock_model.specs.ChainLawReads.{message, link_home}
use Rattle.seat_programs.specs.brpc_model.specs.Items.{Item}
use Rattle.seat_programs.specs.brpc_model.specs.Operations.{Turn}
use Rattle.corr_core.specs.declared.marks.Plan.{Plan as IdPlan}
use Rattle.corr_core.proofs.NoteSums.{at_length}
use Rattle.sock_message.specs.Asked.{Asked}
use Rattle.seat_programs.specs.Asides.{Step, Found}
use Rattle.seat_programs.specs.FoundAndChangedAside.{found_in}
use Rattle.seat_programs.specs.ClientProgram.{ending_of}
use Rattle.seat_programs.specs.LoopHeads.{Posts, Unlocks, Decides, Locks, Joins, Opens, Reads, Discards}
use Rattle.seat_programs.specs.Programs.{Program, Do, Rest, TakeMessage, TakeHome, PutHome, PutBytes, AskReady, Write, Aside, Round}
use Rattle.seat_programs.specs.LoopRounds.{round}
use Rattle.seat_programs.specs.ScheduledRuns.{IsAtRest}
use Rattle.seat_programs.specs.SendAndWritePrograms.{block}
use Rattle.seat_programs.specs.Cores.{Core, SeatState, waiting_at}
use Rattle.seat_programs.specs.Ticks.{Answer, OfPut, OfReady, Moment, IsAlwaysReady, waits, waits_at, quiet, ticked, run, taken, with_message, with_link, with_put, with_ready, with_found, step_with, tick_with}
use Rattle.seat_programs.specs.Tasks.{opens, calls, plan_of, id_plan_of}
use Rattle.seat_programs.specs.ScriptSetupToEnding.{sizes_of, programs, readers_from, all_programs, all_tasks, opened, set_up, played, is_ending, IsRunWithCalls}
use Rattle.attempted_calls.specs.Below.programs_allowed.specs.program_steps.specs.SoundSeats.{views_along}
use Rattle.attempted_calls.specs.Below.programs_allowed.specs.program_steps.proofs.TickCases.{elem_there}
use Rattle.attempted_calls.specs.Below.programs_allowed.specs.sock_runs.proofs.SoundAlongRuns.{seat_rests}
use Rattle.attempted_calls.specs.Below.programs_allowed.specs.program_walks.proofs.WholeScriptSound.{closing_of, views_played, views_closed, views_ended, set_up_answered, end_answered, rested_ahead, rested_idle, set_up_sound, played_sound, closing_sound, closed_sound, closed_ahead}
use Rattle.attempted_calls.specs.Below.outcome_stories.specs.OperationStories.{In}
use Rattle.attempted_calls.specs.Below.outcome_causes.proofs.Final.{at_there}
use Rattle.attempted_calls.specs.Below.outcome_causes.proofs.PlainOutcomeCauses.{in_both}
use Rattle.attempted_calls.specs.Below.joint_runs.proofs.RunsOfBothTables.{AreMade, first_views}
use Rattle.attempted_calls.specs.Below.call_owing.specs.LivesOfLinks.{ClosesInRun}
use Rattle.attempted_calls.specs.Below.call_stories.specs.Decided.{posted_by}
use Rattle.attempted_calls.specs.Below.call_stories.specs.PostsOfRun.{Post, posted_at}
use Rattle.attempted_calls.specs.accept_counts.specs.AttemptCounts.{times_of, TrialFits}
use Rattle.attempted_calls.specs.accept_counts.specs.RefusedOrDropped.{Deed, Charge, NoCharge, IsRefused, HasDropped, Doing, idle, trial_in, Charges, DidAt, DidIn, DidEarly, DidLate, IsSpent, ChargeFits, ChargeLaw, PostKind, RunWouldOwn}
use Rattle.attempted_calls.specs.accept_counts.proofs.EarlyClosedSockets.{start, go, fitting}
use Rattle.attempted_calls.specs.accept_counts.proofs.RestsWithoutCalls.{still}
use Rattle.attempted_calls.specs.accept_counts.proofs.RunsKeepAttemptLaw.{AreLabelledIn, IsCallOf, asked_by, behind_ids}
use Rattle.attempted_calls.specs.accept_counts.proofs.RunsKeepAttemptLaw as labels
use Rattle.attempted_calls.specs.sent_once.proofs.SocketOperationsTold.{narrow, few_clients, opening_bare}
use Rattle.refused_attempts.proofs.RefusedClosing.{OnSockets, ending_goes as on_sockets, alone, set_first, none_closing}
use Rattle.refused_attempts.proofs.RefusedLoops.{bare}
use Rattle.attempted_calls.specs.accept_counts.proofs.PostSeats.{of_all}
use Rattle.refused_attempts.proofs.RefusedPosts.{kind_more}
use Rattle.refused_attempts.proofs.RefusedPrograms.{ending_goes}
use Rattle.refused_attempts.proofs.RefusedRuns.{law_more, Behind, run_charges, none_did, begins_charges, seats_charge, none_done}
use Rattle.refused_attempts.proofs.RefusedTicks.{moves}
use Rattle.attempted_calls.specs.accept_counts.proofs.Grounds.{setting}
use Rattle.sock_words.specs.Totals.{total}
use Rattle.attempted_calls.specs.Below.outcome_stories.specs.Facts.{shown_in, shown_in_run}

-- ## Seats that wait

-- a seat that waits is at the head of a loop, and tries nothing but a retry whose lock it waits for
abbrev IsAtEase : Program → Type 0
IsAtEase Rest = Unit {0}
IsAtEase (Write w after) = Unit {0}
IsAtEase (Round (Posts id e w) next) = ⊥
IsAtEase (Round (Unlocks i w advance) next) = ⊥
IsAtEase (Round (Decides id asked w e) next) = ⊥
IsAtEase (Round head next) = Unit {0}
IsAtEase other = ⊥

waits_ease : (p : Plan) (c : Core) (answer : Answer) (program : Program) → waits_at p c answer program ≡ true → IsAtEase program
waits_ease p c answer (Write w after) e = tt
waits_ease p c answer (Round (Posts id x w) next) e = absurd (cc)
waits_ease p c answer (Round (Unlocks i w advance) next) e = absurd (cc)
waits_ease p c answer (Round (Decides id asked w x) next) e = absurd (cc)
waits_ease p c answer (Round (Locks i sought w) next) e = tt
waits_ease p c answer (Round (Joins id) next) e = tt
waits_ease p c answer (Round (Opens o) next) e = tt
waits_ease p c answer (Round (Reads r) next) e = tt
waits_ease p c answer (Round (Discards k total) next) e = tt
waits_ease p c answer _ e = absurd (cc)

abbrev ease : Doing → Doing
ease s = bare s.trial []

eased : (requests : ℕ) (is_call : Asked → Type 0) (reads : Bool) (s : Doing) (program : Program) → IsAtEase program → Charges requests is_call reads s program → Charges requests is_call reads (ease s) program
eased requests is_call reads s Rest a g = tt
eased requests is_call reads s (Write w after) a g = g
eased requests is_call reads s (Round (Posts id e w) next) a g = absurd a
eased requests is_call reads s (Round (Unlocks i w advance) next) a g = absurd a
eased requests is_call reads s (Round (Decides id asked w e) next) a g = absurd a
eased requests is_call reads s (Round (Locks i sought w) next) a g = g
eased requests is_call reads s (Round (Joins id) next) a g = g
eased requests is_call reads s (Round (Opens o) next) a g = g
eased requests is_call reads s (Round (Reads r) next) a g = g
eased requests is_call reads s (Round (Discards k total) next) a g = g
eased requests is_call reads s _ a g = absurd a

same_trials : (ss : List Doing) → map trial_in (map ease ss) ≡ map trial_in ss
same_trials [] = refl
same_trials (s ∷ ss) = ap (λ l. s.trial ∷ l) (same_trials ss)

mapped_back : (ss : List Doing) (j : ℕ) (s : Doing) → get_elem? (map ease ss) j ≡ some s → (d : Doing) × (get_elem? ss j ≡ some d) × (ease d ≡ s)
mapped_back [] j s at = absurd (some-ne-none s (sym at))
mapped_back (d ∷ ss) zero s at = (d, refl, some-injective (ease d) s at)
mapped_back (d ∷ ss) (suc j) s at = mapped_back ss j s at

-- ## Ticks of another seat

module _ (p : Plan) (c : Core) (m : Moment) (j : ℕ) (other : j ≢ m.seat) (seat : SeatState) where
  abbrev Same : Core → Type 0
  Same d = get_elem? d.seats j ≡ get_elem? c.seats j

  else_ : (new : SeatState) → get_elem? (std.slice_set c.seats m.seat new) j ≡ get_elem? c.seats j
  else_ new = set_else c.seats m.seat j new other

  by_letter : (r : ℕ) (x : Option HeadedBytes) (next : HeadedBytes → Program) → Same (with_message p m.seat seat c r x next)
  by_letter r none next = refl
  by_letter r (some letter) next = else_ _

  by_home : (k : ℕ) (x : Option (List ℕ × ℕ)) (next : ℕ → Program) → Same (with_link p m.seat seat c k x next)
  by_home k none next = refl
  by_home k (some home) next = else_ _

  by_put : (bytes : List ℕ) (answer : Answer) (next : Put → Program) → Same (with_put p m.seat seat c bytes answer next)
  by_put bytes (OfPut answer) next = else_ _
  by_put bytes _ next = refl

  by_ready : (answer : Answer) (next : _) → Same (with_ready p m.seat seat c answer next)
  by_ready (OfReady answer) next = else_ _
  by_ready _ next = refl

  by_found : (step : Step) (x : Option (Found step)) (next : Found step → Program) → Same (with_found p m.seat seat c step x next)
  by_found step none next = refl
  by_found step (some found) next = else_ _

  by_step : (answer : Answer) (program : Program) → Same (step_with p m.seat seat c answer program)
  by_step answer (Do call next) = else_ _
  by_step answer (TakeMessage r next) = by_letter r (message (λ (home : Home). home) c.homes r) (λ letter. next letter.0 letter.1)
  by_step answer (TakeHome k next) = by_home k (link_home (λ (home : Home). home) p c.homes k) next
  by_step answer (PutHome k n after) = else_ _
  by_step answer (PutBytes k asked bytes next) = by_put bytes answer next
  by_step answer (AskReady k next) = by_ready answer next
  by_step answer (Aside step next) = by_found step (found_in step c.calls (taken answer)) next
  by_step answer _ = refl

  by_tick : (answer : Answer) (program : Program) → Same (tick_with p m.seat seat c answer program)
  by_tick answer (Write w after) = by_step answer (block w after)
  by_tick answer (Round head next) = by_step answer (round head next)
  by_tick answer program = by_step answer program

tick_other : (p : Plan) (c : Core) (m : Moment) (j : ℕ) → j ≢ m.seat → get_elem? (ticked p c m).seats j ≡ get_elem? c.seats j
tick_other p c m j other = by (get_elem? c.seats m.seat)
  where
    by : (o : Option SeatState) → get_elem? (elim o as (λ o. Core) [ none ↦ c | some seat ↦ tick_with p m.seat seat c m.answer seat.program ]).seats j ≡ get_elem? c.seats j
    by none = refl
    by (some seat) = by_tick p c m j other seat m.answer seat.program

-- so do ticks of seat 0, one after another
run_other : (p : Plan) (n : ℕ) (c : Core) (j : ℕ) → j ≢ 0 → get_elem? (run p c (replicate n (quiet 0))).seats j ≡ get_elem? c.seats j
run_other p zero c j other = refl
run_other p (suc n) c j other = run_other p n (ticked p c (quiet 0)) j other ∙ tick_other p c (quiet 0) j other

module _ (p : Plan) (q : IdPlan) (narrow : q.slots ≤ 65536) (is_call : Asked → Type 0) (ids : ℕ → ℕ) where
  abbrev Spent_ : Core → List View → List Doing → ℕ → ℕ → Type 0
  Spent_ c vs ss id n = IsSpent p.requests is_call ids p q c vs ss id n

  forgot_spent : (c : Core) (vs : List View) (ss : List Doing) (id n : ℕ) → Spent_ c vs ss id n → Spent_ c vs (map ease ss) id n
  forgot_spent c vs ss id n x = (ap (times_of id n c vs) (same_trials ss) ∙ x.0, x.1)

  -- where each seat waits, what was done before is forgotten
  forgotten : (Did : ℕ → Deed → Type 0) (c : Core) (vs : List View) (ss : List Doing) → ChargeLaw p.requests is_call ids p q Did c vs ss → ((j : ℕ) (seat : SeatState) → get_elem? c.seats j ≡ some seat → IsAtEase seat.program)
      → ChargeLaw p.requests is_call ids p q (none_did p q narrow is_call ids) c vs (map ease ss)
  forgotten Did c vs ss law at_ease = record {
    once = λ id n. (let z = ap (times_of id n c vs) (same_trials ss) in let o = law.once id n in omega (arith, z, o));
    made = λ id n some_. law.made id n (let z = ap (times_of id n c vs) (same_trials ss) in omega (arith, z, some_));
    each = length-map ss ease ∙ law.each;
    later = law.later;
    trials = λ j s at. let d = mapped_back ss j s at in subst (λ (x : Doing). TrialFits ids x.trial) d.2 (law.trials j d.0 d.1);
    did = λ j s at. let d = mapped_back ss j s at in subst (λ (x : Doing). AllByRecursion (none_did p q narrow is_call ids j) x.deeds) d.2 tt;
    due = λ j s at. let d = mapped_back ss j s at in subst (λ (x : Doing). ChargeFits p.requests is_call ids p q c vs (map ease ss) x.charge x.deeds) d.2 tt;
    programs = λ j seat s at_seat at. let d = mapped_back ss j s at in
        subst (λ (x : Doing). Charges p.requests is_call (nat_le 32 j) x seat.program) d.2 (eased p.requests is_call (nat_le 32 j) d.0 seat.program (at_ease j seat at_seat) (law.programs j seat d.0 at_seat d.1));
  }

-- ## A whole run

module _ (script : List Item) (made : AreMade script) (turns : List Turn) (core : Core) (is : IsRunWithCalls script turns core) (closes : ClosesInRun script turns core is) where
  abbrev pub end_views : List View
  end_views = views_ended script turns core is (first_views script)

-- the calls have these ids, and whoever stores an at word, or would store one, has its own operation's
module _ (script : List Item) (made : AreMade script) (turns : List Turn) (core : Core) (is : IsRunWithCalls script turns core) (closes : ClosesInRun script turns core is) (ids : ℕ → ℕ) (labelled : AreLabelledIn ids script turns core is) (would : RunWouldOwn ids script turns core is) where
  open setting script use {p, q, vs}

  abbrev pub few_slots : (id_plan_of script).slots ≤ 65536
  few_slots = narrow script made turns core is closes

  abbrev pub Law : (ℕ → Deed → Type 0) → Core → List View → List Doing → Type 0
  Law Did c ws ss = ChargeLaw (plan_of script).requests (IsCallOf script) ids (plan_of script) (id_plan_of script) Did c ws ss

  abbrev Gone : Core → List View → List Doing → ℕ → ℕ → Type 0
  Gone c ws ss id n = IsSpent (plan_of script).requests (IsCallOf script) ids (plan_of script) (id_plan_of script) c ws ss id n

  abbrev Runs : (ℕ → Deed → Type 0) → Core → List View → List Doing → List Moment → Type 0
  Runs Did c ws ss ms = Behind (plan_of script) (id_plan_of script) few_slots (IsCallOf script) ids Did c ws ss ms

  abbrev seats_first : List Program
  seats_first = all_programs (programs (sizes_of (plan_of script) (id_plan_of script)) (all_tasks script)) (readers_from (calls script) 0 (opens script))

  abbrev pub first_doings : List Doing
  first_doings = map (λ (x : Program). idle) seats_first

  abbrev pub Nothing : ℕ → Deed → Type 0
  Nothing = none_did (plan_of script) (id_plan_of script) few_slots (IsCallOf script) ids

  pub first_charges : Law Nothing (opened script) (first_views script) first_doings
  first_charges = begins_charges (plan_of script) (id_plan_of script) few_slots (IsCallOf script) ids seats_first
      (seats_charge (plan_of script).requests (IsCallOf script) (sizes_of (plan_of script) (id_plan_of script)) refl (all_tasks script) (few_clients script made turns core is closes) (asked_by script) (calls script) (opens script))
      (first_views script) (opening_bare script)

  setup_runs : Runs Nothing (opened script) (first_views script) first_doings (replicate is.setup (quiet 0))
  setup_runs = run_charges (plan_of script) (id_plan_of script) few_slots (IsCallOf script) ids (go script made turns core is) (replicate is.setup (quiet 0)) Nothing (opened script) (first_views script) (start script made turns core is).sound
      (set_up_answered script made.are (first_views script) (start script made turns core is) (go script made turns core is) turns core is (fitting script made turns core is)) (fitting script made turns core is).of_setup labelled.of_setup would.of_setup
      (labels.first script made.are (first_views script) (start script made turns core is) (go script made turns core is) turns core is (fitting script made turns core is) few_slots (opening_bare script) ids labelled) first_doings first_charges

  abbrev DidSetup : ℕ → Deed → Type 0
  DidSetup j d = Nothing j d ⊎ DidIn (plan_of script) (opened script) (replicate is.setup (quiet 0)) j d

  abbrev set_views : List View
  set_views = views_along (plan_of script) (opened script) (first_views script) (replicate is.setup (quiet 0))

  played_runs : Runs DidSetup (set_up script is.setup) set_views setup_runs.doings (is.scheduled ++ is.later)
  played_runs = run_charges (plan_of script) (id_plan_of script) few_slots (IsCallOf script) ids (go script made turns core is) (is.scheduled ++ is.later) DidSetup (set_up script is.setup) set_views
      (set_up_sound script made.are (first_views script) (start script made turns core is) (go script made turns core is) turns core is (fitting script made turns core is)) is.answered (fitting script made turns core is).of_played labelled.of_played would.of_played
      (labels.set_up_law script made.are (first_views script) (start script made turns core is) (go script made turns core is) turns core is (fitting script made turns core is) few_slots (opening_bare script) ids labelled) setup_runs.doings setup_runs.law

  abbrev DidPlay : ℕ → Deed → Type 0
  DidPlay j d = DidSetup j d ⊎ DidIn (plan_of script) (set_up script is.setup) (is.scheduled ++ is.later) j d

  abbrev rested : Core
  rested = played script is.setup (is.scheduled ++ is.later)

  abbrev rested_views : List View
  rested_views = views_played script turns core is (first_views script)

  -- seat 0 begins the ending
  record Begun : Type 0 where
    doings : List Doing
    law : Law DidPlay (closing_of script turns core is) rested_views doings
    spent : (id n : ℕ) → Gone rested rested_views played_runs.doings id n → Gone (closing_of script turns core is) rested_views doings id n

  begun : Begun
  begun = let c : Core = rested in let ws : List View = rested_views in
      let sound = played_sound script made.are (first_views script) (start script made turns core is) (go script made turns core is) turns core is (fitting script made turns core is) in
      let close = closing_sound script made.are (first_views script) (start script made turns core is) (go script made turns core is) turns core is (fitting script made turns core is) in
      let seat = at_there c.seats 0 many in let v = elem_there c.seats ws 0 seat.0 sound.each seat.1 in
      let labels_ = labels.played_law script made.are (first_views script) (start script made turns core is) (go script made turns core is) turns core is (fitting script made turns core is) few_slots (opening_bare script) ids labelled in
      let us = behind_ids (plan_of script) (id_plan_of script) few_slots (IsCallOf script) ids (is.scheduled ++ is.later) (set_up script is.setup) labelled.of_played in
      let d = elem_there c.seats played_runs.doings 0 seat.0 played_runs.law.each seat.1 in
      let rests = seat_rests c (rested_ahead script made.are (first_views script) (start script made turns core is) (go script made turns core is) turns core is (fitting script made turns core is)) 0
      (rested_idle script made.are (first_views script) (start script made turns core is) (go script made turns core is) turns core is (fitting script made turns core is)) seat.0 seat.1 in
      let next = moves (plan_of script) (id_plan_of script) few_slots (IsCallOf script) ids DidPlay c ws played_runs.doings played_runs.law labels_.1.calls us.0 us.1 (quiet 0) seat.0 v.0 d.0 seat.1 v.1 d.1 (ending_of (opens script)) [] c.homes v.0 v.0.rights refl
      (ending_goes (plan_of script).requests (IsCallOf script) (nat_le 32 0) (opens script)) in
      record {
        doings = next.0;
        law = law_more (plan_of script) (id_plan_of script) few_slots (IsCallOf script) ids (λ j x. DidPlay j x ⊎ DidAt (plan_of script) rested (quiet 0) j x) DidPlay
            (λ j x. ⊎_elim (λ y. y) (λ y. absurd (none_done (plan_of script) rested (quiet 0) seat.0 seat.1 rests j x y))) (closing_of script turns core is) rested_views next.0
            (subst (λ xs. Law (λ j x. DidPlay j x ⊎ DidAt (plan_of script) rested (quiet 0) j x) (closing_of script turns core is) xs next.0) (set_again rested_views 0 v.0 v.1) next.1);
        spent = λ id n x. subst (λ xs. Gone (closing_of script turns core is) xs next.0 id n) (set_again rested_views 0 v.0 v.1) (next.2 id n x);
      }
    where
      many : 0 < length (played script is.setup (is.scheduled ++ is.later)).seats
      many = let m = Rattle.attempted_calls.specs.accept_counts.proofs.RestsWithoutCalls.many script made turns core is in omega (arith, m)

  closing_runs : Runs DidPlay (closing_of script turns core is) rested_views begun.doings (replicate is.last (quiet 0))
  closing_runs = run_charges (plan_of script) (id_plan_of script) few_slots (IsCallOf script) ids (go script made turns core is) (replicate is.last (quiet 0)) DidPlay (closing_of script turns core is) rested_views
      (closing_sound script made.are (first_views script) (start script made turns core is) (go script made turns core is) turns core is (fitting script made turns core is))
      (end_answered script made.are (first_views script) (start script made turns core is) (go script made turns core is) turns core is (fitting script made turns core is)) (fitting script made turns core is).of_closing labelled.of_closing would.of_closing
      (labels.closing_law script made.are (first_views script) (start script made turns core is) (go script made turns core is) turns core is (fitting script made turns core is) few_slots (opening_bare script) ids labelled) begun.doings begun.law

  abbrev DidClose : ℕ → Deed → Type 0
  DidClose j d = DidPlay j d ⊎ DidIn (plan_of script) (closing_of script turns core is) (replicate is.last (quiet 0)) j d

  abbrev closed : Core
  closed = run (plan_of script) (closing_of script turns core is) (replicate is.last (quiet 0))

  abbrev closed_views : List View
  closed_views = views_closed script turns core is (first_views script)

  -- and has made it: each seat waits, and the run is ending
  on_law : (c : Core) (ss : List Doing) → Law DidClose c closed_views ss → Law DidClose (is_ending c) closed_views ss
  on_law c ss law = record { once = law.once; made = law.made; each = law.each; later = law.later; trials = law.trials; did = law.did; due = λ j s at. on_due s.charge s.deeds (law.due j s at); programs = law.programs }
    where
      on_due : (x : Charge) (ds : List Deed) → ChargeFits (plan_of script).requests (IsCallOf script) ids (plan_of script) (id_plan_of script) c closed_views ss x ds
          → ChargeFits (plan_of script).requests (IsCallOf script) ids (plan_of script) (id_plan_of script) (is_ending c) closed_views ss x ds
      on_due NoCharge ds f = tt
      on_due (IsRefused id n code) ds f = (f.0, (f.1.0, f.1.1))
      on_due (HasDropped heading code) ds f = f

  ended_law : Law DidClose is.ended closed_views closing_runs.doings
  ended_law = subst (λ c. Law DidClose c closed_views closing_runs.doings) (sym is.is_ended) (on_law closed closing_runs.doings closing_runs.law)

  ended_spent : (id n : ℕ) → Gone closed closed_views closing_runs.doings id n → Gone is.ended closed_views closing_runs.doings id n
  ended_spent id n x = subst (λ c. Gone c closed_views closing_runs.doings id n) (sym is.is_ended) (x.0, x.1)

  at_ease : (j : ℕ) (seat : SeatState) → get_elem? is.ended.seats j ≡ some seat → IsAtEase seat.program
  at_ease j seat at = dite (ℕ_discrete j 0)
      (λ first. subst IsAtEase (sym (seat_rests is.ended (closed_ahead script made.are (first_views script) (start script made turns core is) (go script made turns core is) turns core is (fitting script made turns core is)) 0 is.is_over seat (subst (λ i. get_elem? is.ended.seats i ≡ some seat) first at))) tt)
      (λ other. by (still script made turns core is j (at_length (played script is.setup (is.scheduled ++ is.later)).seats j seat (rested_at other))) (rested_at other))
    where
      rested_at : j ≢ 0 → get_elem? (played script is.setup (is.scheduled ++ is.later)).seats j ≡ some seat
      rested_at other = sym (set_else (played script is.setup (is.scheduled ++ is.later)).seats 0 j _ other) ∙ (sym (run_other (plan_of script) is.last (closing_of script turns core is) j other) ∙ (sym (ap (λ (c : Core). get_elem? c.seats j) is.is_ended) ∙ at))

      by : IsAtRest (played script is.setup (is.scheduled ++ is.later)) j ⊎ ((m : Moment) × (m.seat ≡ j) × IsAlwaysReady m × (waits (plan_of script) (played script is.setup (is.scheduled ++ is.later)) m ≡ true))
          → get_elem? (played script is.setup (is.scheduled ++ is.later)).seats j ≡ some seat → IsAtEase seat.program
      by (inl rest) here = subst IsAtEase (sym (seat_rests rested (rested_ahead script made.are (first_views script) (start script made turns core is) (go script made turns core is) turns core is (fitting script made turns core is)) j rest seat here)) tt
      by (inr w) here = waits_ease (plan_of script) rested w.0.answer seat.program
          (subst (λ o. elim o as (λ o. Bool) [ none ↦ false | some x ↦ waits_at (plan_of script) rested w.0.answer x.program ] ≡ true) (subst (λ i. get_elem? rested.seats i ≡ some seat) (sym w.1) here) w.3)

  -- what was done before that is forgotten
  final_law : Law Nothing is.ended closed_views (map ease closing_runs.doings)
  final_law = forgotten (plan_of script) (id_plan_of script) few_slots (IsCallOf script) ids DidClose is.ended closed_views closing_runs.doings ended_law at_ease

  pub final_doings : List Doing
  final_doings = map ease closing_runs.doings

  pub final_charges : Law Nothing is.ended closed_views final_doings
  unfolding final_doings
  final_charges = final_law

  final_runs : Runs Nothing is.ended closed_views (map ease closing_runs.doings) is.final
  final_runs = run_charges (plan_of script) (id_plan_of script) few_slots (IsCallOf script) ids (go script made turns core is) is.final Nothing is.ended closed_views
      (closed_sound script made.are (first_views script) (start script made turns core is) (go script made turns core is) turns core is (fitting script made turns core is)) is.answered_again (fitting script made turns core is).of_final labelled.of_final would.of_final
      (labels.closed_law script made.are (first_views script) (start script made turns core is) (go script made turns core is) turns core is (fitting script made turns core is) few_slots (opening_bare script) ids labelled) (map ease closing_runs.doings) final_law

  -- ## What is left of refused attempts

  abbrev last_views : List View
  last_views = views_ended script turns core is (first_views script)

  pub last_doings : List Doing
  last_doings = final_runs.doings

  -- nothing is left of the attempt as the run ends
  abbrev pub IsGone : ℕ → ℕ → Type 0
  IsGone id n = Gone core last_views last_doings id n

  from_ended : (id n : ℕ) → Gone is.ended closed_views (map ease closing_runs.doings) id n → IsGone id n
  unfolding last_doings
  from_ended id n x = subst (λ c. Gone c last_views final_runs.doings id n) (sym is.is_end) (final_runs.spent id n x)

  from_closed : (id n : ℕ) → Gone closed closed_views closing_runs.doings id n → IsGone id n
  from_closed id n x = from_ended id n (forgot_spent (plan_of script) (id_plan_of script) few_slots (IsCallOf script) ids is.ended closed_views closing_runs.doings id n (ended_spent id n x))

  from_played : (id n : ℕ) → Gone rested rested_views played_runs.doings id n → IsGone id n
  from_played id n x = from_closed id n (closing_runs.spent id n (begun.spent id n x))

  from_set_up : (id n : ℕ) → Gone (set_up script is.setup) set_views setup_runs.doings id n → IsGone id n
  from_set_up id n x = from_played id n (played_runs.spent id n x)

  -- ## The kinds of all posts

  abbrev pub KindOfPost : (ℕ → Deed → Type 0) → ℕ → Post → Type 0
  KindOfPost Did j x = PostKind (plan_of script).requests (IsCallOf script) ids Did IsGone j x

  more : (Did Done : ℕ → Deed → Type 0) (Spent : ℕ → ℕ → Type 0) → ((j : ℕ) (d : Deed) → Did j d → Done j d) → ((id n : ℕ) → Spent id n → IsGone id n) → (j : ℕ) (x : Post) → PostKind (plan_of script).requests (IsCallOf script) ids Did Spent j x → KindOfPost Done j x
  more Did Done Spent f g j x k = kind_more (plan_of script).requests (IsCallOf script) ids Did Done Spent IsGone f g j x k

  -- no error is posted while seat 0 closes what was opened
  pub closing_none : (x : Post) → In x (shown_in posted_at (plan_of script) (closing_of script turns core is) (replicate is.last (quiet 0))) → ⊥
  closing_none x at = none_closing (plan_of script) is.last (closing_of script turns core is)
      (let seat = at_there rested.seats 0 many in (_, set_first rested.seats seat.0 _ seat.1, subst OnSockets (sym (alone (waiting_at rested.calls.waiting 0) (ending_of (opens script)) (on_sockets (opens script)))) (on_sockets (opens script)))) x at
    where
      many : 0 < length (played script is.setup (is.scheduled ++ is.later)).seats
      many = let m = Rattle.attempted_calls.specs.accept_counts.proofs.RestsWithoutCalls.many script made turns core is in omega (arith, m)

  pub kinds_of_seat : (j : ℕ) (x : Post) → In x (shown_in_run script turns core is (posted_by j)) → KindOfPost (DidEarly script turns core is) j x ⊎ KindOfPost (DidLate script turns core is) j x
  unfolding last_doings
  kinds_of_seat j x at = ⊎_elim
      (λ a. inl (more DidSetup (DidEarly script turns core is) _ (λ j d. ⊎_elim (λ z. absurd z) (λ y. inl y)) from_set_up j x (setup_runs.kinds j x a)))
      (λ rest. ⊎_elim
      (λ a. inl (more DidPlay (DidEarly script turns core is) _ (λ j d. ⊎_elim (λ z. ⊎_elim (λ w. absurd w) (λ y. inl y) z) (λ y. inr y)) from_played j x (played_runs.kinds j x a)))
      (λ rest. ⊎_elim
      (λ a. absurd (closing_none x (of_all j (plan_of script) (replicate is.last (quiet 0)) (closing_of script turns core is) x a)))
      (λ a. inr (more (λ j d. Nothing j d ⊎ DidIn (plan_of script) is.ended is.final j d) (DidLate script turns core is) (Gone (run (plan_of script) is.ended is.final) last_views final_runs.doings) (λ j d. ⊎_elim (λ z. absurd z) (λ y. y))
      (λ id n y. subst (λ c. Gone c last_views final_runs.doings id n) (sym is.is_end) y) j x (final_runs.kinds j x a)))
      (in_both (shown_in (posted_by j) (plan_of script) (closing_of script turns core is) (replicate is.last (quiet 0))) (shown_in (posted_by j) (plan_of script) is.ended is.final) x rest))
      (in_both (shown_in (posted_by j) (plan_of script) (set_up script is.setup) (is.scheduled ++ is.later)) _ x rest))
      (in_both (shown_in (posted_by j) (plan_of script) (opened script) (replicate is.setup (quiet 0))) _ x at)
