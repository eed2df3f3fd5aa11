-- An attempt that found no live socket under its name: the link of the socket was failing, or the run was ending.
use Rattle.std.proofs.Common.{◌≡◌, ℕ, ◌+◌, ◌<◌, ◌⊎◌, inl, inr, Bool, true, false, cond, List, [], ◌∷◌, ◌++◌, length, replicate, Ok, None, refl, sym, ap, ◌∙◌, subst, arith}
use Rattle.std.specs.List.{AllByRecursion}
use mathlib.Core.Option.{none, some}
use lib.ListN.{get_elem?}
use Rattle.sock_words.specs.PackedWords.{socket_id_slot, socket_id_version}
use Rattle.sock_words.specs.declared.plain.Plan.{Plan}
use Rattle.sock_model.specs.declared.view.View.{View}
use Rattle.seat_programs.specs.brpc_model.specs.Items.{Item}
use Rattle.seat_programs.specs.brpc_model.specs.Operations.{Turn}
use Rattle.seat_programs.specs.brpc_model.specs.Script.{script_of}
use Rattle.corr_core.specs.IdSlotWord.{parts}
use Rattle.corr_core.specs.EndedByRangeOrAttempt.{ends_call}
use Rattle.sock_message.specs.Asked.{Asked}
use Rattle.seat_programs.specs.Asides.{PutCall}
use Rattle.seat_programs.specs.TableSteps.{OnSlot, OnName, AddRef, LookWord, LoadName}
use Rattle.seat_programs.specs.LoopHeads.{Unlocks, Decides, Locks}
use Rattle.seat_programs.specs.Programs.{Program, Write, Aside, Round}
use Rattle.seat_programs.specs.Writings.{Empties}
use Rattle.seat_programs.specs.Cores.{Core}
use Rattle.seat_programs.specs.Tasks.{opens, plan_of}
use Rattle.seat_programs.specs.Ticks.{Moment, quiet, ticked}
use Rattle.seat_programs.specs.ScriptSetupToEnding.{all_tasks, opened, set_up, IsRunWithCalls}
use Rattle.seat_programs.specs.Explained.{AreTasks}
use Rattle.seat_programs.specs.ExplainedCalls.{WhyLost, WasFailing, RunEnding}
use Rattle.attempted_calls.specs.Below.programs_allowed.specs.program_steps.specs.SoundSeats.{Sound, state}
use Rattle.attempted_calls.specs.Below.programs_allowed.specs.program_walks.proofs.WholeScriptSound.{closing_of, set_up_answered, end_answered, set_up_sound, played_sound, closing_sound, closed_sound, ended_sound, end_rests}
use Rattle.attempted_calls.specs.Below.outcome_stories.specs.Facts.{put_by, put_at, shown_in, late_of_run}
use Rattle.attempted_calls.specs.Below.outcome_stories.specs.KeptStory.{Story}
use Rattle.attempted_calls.specs.Below.outcome_stories.specs.PlainTasks.{told_tasks_of}
use Rattle.attempted_calls.specs.Below.outcome_stories.specs.OperationStories.{In}
use Rattle.attempted_calls.specs.Below.outcome_ticks.proofs.Lifted.{made_up}
use Rattle.attempted_calls.specs.Below.outcome_stories.proofs.Members.{in_contains}
use Rattle.attempted_calls.specs.Below.outcome_causes.proofs.ExplainedOpenings.{are_seats}
use Rattle.attempted_calls.specs.Below.outcome_causes.proofs.PlainOutcomeCauses.{in_left, in_right}
use Rattle.attempted_calls.specs.Below.outcome_causes.proofs.RunsKeepStory.{IsStoried, set_up_over}
use Rattle.attempted_calls.specs.Below.outcome_causes.proofs.SocketCausesOfScripts.{story_opened, story_closing, story_ended}
use Rattle.attempted_calls.specs.Below.joint_runs.proofs.RunsOfBothTables.{AreMade, first_views}
use Rattle.attempted_calls.specs.Below.call_owing.specs.LivesOfLinks.{ClosesInRun}
use Rattle.attempted_calls.specs.accept_counts.specs.RefusedOrDropped.{Deed, DidStep, DidPut, DidMiss, DidIn, DidEarly, DidLate, FoundLost, WasOther, WasOdd, WasNone}
use Rattle.attempted_calls.specs.sent_once.proofs.OtherTasksBesideCalls.{fixed_of_run, gave_of_run, orders_here, failing_of_run}
use Rattle.attempted_calls.specs.accept_counts.proofs.EarlyClosedSockets.{start, go, fitting, first_fresh}
use Rattle.attempted_calls.specs.sent_once.proofs.SocketOperationsTold.{owed}
use Rattle.attempted_calls.proofs.RefusedNames.{IsNamed, named_more, Named, Then, seats_named, setup_named, named_life}
use Rattle.refused_attempts.proofs.RefusedWhys.{early_so, all_in}
use Rattle.attempted_calls.specs.accept_counts.proofs.Grounds.{setting, stages}
use Rattle.seat_programs.specs.LoopRounds.{first_step}

-- ## Calls that are put into their homes

-- the call that the first step puts there
abbrev put_first : Program → List ℕ
put_first (Aside (PutCall i asked) next) = asked.operation ∷ []
put_first other = []

same_put : (program : Program) → put_first (first_step program) ≡ put_by program
same_put (Aside (PutCall i asked) next) = refl
same_put (Round (Decides id asked w e) next) = by (ends_call (parts w) e)
  where
    by : (b : Bool) → put_first (cond b (Rattle.seat_programs.specs.PostPrograms.end_id (Rattle.sock_words.specs.PackedWords.id_slot id) (next (Rattle.seat_programs.specs.LoopHeads.HasEnded asked.operation (Rattle.corr_core.specs.IdSlotWord.code_of e))))
        (Aside (PutCall (Rattle.sock_words.specs.PackedWords.id_slot id) asked) (λ _. Round (Unlocks (Rattle.sock_words.specs.PackedWords.id_slot id) w true) (Rattle.seat_programs.specs.PostPrograms.unlocked (record { id = id; attempt = (parts w).attempt + 1 }) next)))) ≡ cond b [] (asked.operation ∷ [])
    by true = refl
    by false = refl
same_put (Round (Locks i sought None) next) = refl
same_put (Write (Empties h) after) = refl
same_put _ = refl

put_shown : (p : Plan) (ms : List Moment) (c : Core) (j : ℕ) (asked : Asked) → DidIn p c ms j (DidPut asked) → In asked.operation (shown_in put_at p c ms)
put_shown p [] c j asked x = absurd x
put_shown p (m ∷ ms) c j asked (inr later) = in_right (put_at c m) (shown_in put_at p (ticked p c m) ms) asked.operation (put_shown p ms (ticked p c m) j asked later)
put_shown p (m ∷ ms) c j asked (inl x) = in_left (put_at c m) (shown_in put_at p (ticked p c m) ms) asked.operation
    (subst (λ o. In asked.operation (elim o as (λ o. List ℕ) [ none ↦ [] | some seat ↦ put_by seat.program ])) (sym (ap (get_elem? c.seats) x.0 ∙ x.4))
    (subst (In asked.operation) (sym (ap put_first x.5) ∙ same_put x.1.program) (inl refl)))

module _ (script : List Item) (made : AreMade script) (turns : List Turn) (core : Core) (is : IsRunWithCalls script turns core) (closes : ClosesInRun script turns core is) where
  open setting script use {p}

  told_are : AreTasks (plan_of script) (told_tasks_of script)
  told_are = are_seats (plan_of script) (all_tasks script) made.are (length (opens script))

  abbrev Keeps : Bool → Core → List View → Type 0
  Keeps over c ws = Named (plan_of script) (told_tasks_of script) told_are over c ws

  open stages script turns core is use {set_views, rested, rested_views, closed_views, end_views}

  -- ## The story of the run

  first_told : Keeps false (opened script) (first_views script)
  first_told = record {
    events = [];
    lost = [];
    story = story_opened script made.are (first_views script) (start script made turns core is) (first_fresh script);
  }

  setup_told : Then (plan_of script) (told_tasks_of script) told_are false (opened script) (first_views script) (replicate is.setup (quiet 0)) first_told.events
  unfolding first_told
  setup_told = setup_named (plan_of script) (told_tasks_of script) told_are (go script made turns core is) is.setup (opened script) (first_views script) (start script made turns core is).sound
      (set_up_answered script made.are (first_views script) (start script made turns core is) (go script made turns core is) turns core is (fitting script made turns core is)) (fitting script made turns core is).of_setup first_told (λ e m. absurd m)

  abbrev setup_sound : Sound (plan_of script) (set_up script is.setup) set_views
  setup_sound = set_up_sound script made.are (first_views script) (start script made turns core is) (go script made turns core is) turns core is (fitting script made turns core is)

  -- the setup is over
  over_told : (k : Keeps true (set_up script is.setup) set_views) × (k.events ≡ setup_told.after.events)
  over_told = let k = setup_told.after in
      let t : IsStoried (plan_of script) (told_tasks_of script) told_are false (set_up script is.setup) set_views = record { events = k.events; lost = k.lost; sound = setup_sound; story = k.story } in
      let o = set_up_over (plan_of script) (told_tasks_of script) told_are (set_up script is.setup) set_views t is.is_set_up in (record { events = o.0.events; lost = o.0.lost; story = o.0.story }, o.1)

  played_told : Then (plan_of script) (told_tasks_of script) told_are true (set_up script is.setup) set_views (is.scheduled ++ is.later) over_told.0.events
  played_told = seats_named (plan_of script) (told_tasks_of script) told_are (go script made turns core is) (is.scheduled ++ is.later) (set_up script is.setup) set_views setup_sound is.answered (fitting script made turns core is).of_played over_told.0

  -- what was found under names before the ending was stored there
  early_named : (j : ℕ) (d : Deed) → DidEarly script turns core is j d → IsNamed played_told.after.events d
  early_named j d (inl x) = named_more setup_told.after.events played_told.after.events (λ e m. played_told.kept e (subst (In e) (sym over_told.1) m)) d (setup_told.named j d x)
  early_named j d (inr x) = played_told.named j d x

  abbrev rest_sound : Sound (plan_of script) rested rested_views
  rest_sound = played_sound script made.are (first_views script) (start script made turns core is) (go script made turns core is) turns core is (fitting script made turns core is)

  -- seat 0 begins the ending
  closing_story : Story (plan_of script) (told_tasks_of script) true (closing_of script turns core is) rested_views played_told.after.events played_told.after.lost
  closing_story = let k = played_told.after in
      story_closing script made.are (first_views script) (start script made turns core is) (go script made turns core is) turns core is (fitting script made turns core is) k.events k.lost rest_sound k.story

  closed_told : Then (plan_of script) (told_tasks_of script) told_are true (closing_of script turns core is) rested_views (replicate is.last (quiet 0)) played_told.after.events
  closed_told = seats_named (plan_of script) (told_tasks_of script) told_are (go script made turns core is) (replicate is.last (quiet 0)) (closing_of script turns core is) rested_views
      (closing_sound script made.are (first_views script) (start script made turns core is) (go script made turns core is) turns core is (fitting script made turns core is))
      (end_answered script made.are (first_views script) (start script made turns core is) (go script made turns core is) turns core is (fitting script made turns core is)) (fitting script made turns core is).of_closing
      (record { events = played_told.after.events; lost = played_told.after.lost; story = closing_story })

  ended_story : Story (plan_of script) (told_tasks_of script) true is.ended closed_views closed_told.after.events closed_told.after.lost
  ended_story = let k = closed_told.after in
      story_ended script made.are (first_views script) (start script made turns core is) (go script made turns core is) turns core is (fitting script made turns core is) k.events k.lost k.story

  final_told : Then (plan_of script) (told_tasks_of script) told_are true is.ended closed_views is.final closed_told.after.events
  final_told = seats_named (plan_of script) (told_tasks_of script) told_are (go script made turns core is) is.final is.ended closed_views
      (closed_sound script made.are (first_views script) (start script made turns core is) (go script made turns core is) turns core is (fitting script made turns core is)) is.answered_again (fitting script made turns core is).of_final
      (record { events = closed_told.after.events; lost = closed_told.after.lost; story = ended_story })

  end_story : Story (plan_of script) (told_tasks_of script) true core end_views final_told.after.events final_told.after.lost
  end_story = subst (λ c. Story (plan_of script) (told_tasks_of script) true c end_views final_told.after.events final_told.after.lost) (sym is.is_end) final_told.after.story

  -- ## Lost sockets

  module _ (bytes : List ℕ) (reads : script_of bytes ≡ Ok script) where
    abbrev Lost : ℕ → ℕ → ℕ → ℕ → Type 0
    Lost c o n name = WhyLost (plan_of script) (all_tasks script) core.outcomes (fixed_of_run script made turns core is closes) (gave_of_run script made turns core is closes) (orders_here script made turns core is closes) c o n name

    -- the name's socket was found failed before the ending: its link was failing
    failed_early : (c o n name s : ℕ) → IsNamed played_told.after.events (DidStep (OnName (LoadName name)) (s + 1)) → (0 < Rattle.sock_model.specs.SocketSlotLaw.count (Rattle.sock_model.specs.MarkWeights.is_failer (socket_id_version s)) (Rattle.sock_model.specs.References.slot_facts (state rested rested_views) (socket_id_slot s))) → Lost c o n name
    failed_early c o n name s named failed = let x = named (λ z. omega (arith, z)) in
        let life = named_life (plan_of script) (told_tasks_of script) told_are core end_views final_told.after.events final_told.after.lost
        (ended_sound script made.are (first_views script) (start script made turns core is) (go script made turns core is) turns core is (fitting script made turns core is)) end_story
        (end_rests script made.are (first_views script) (start script made turns core is) (go script made turns core is) turns core is (fitting script made turns core is) (owed script made turns core is closes))
        rested rested_views played_told.after.events played_told.after.lost played_told.after.story (λ e m. final_told.kept e (closed_told.kept e m)) name s x in
        WasFailing life.0 (socket_id_slot s, socket_id_version s, made_up (all_tasks script) (length (opens script)) core.outcomes name life.0 (socket_id_slot s) (socket_id_version s) life.1)
        (failing_of_run script made turns core is closes bytes reads life.0 (record { slot = socket_id_slot s; version = socket_id_version s; life = record { inside = life.2; given = life.3 }; failed = failed }))

    -- or nothing was found under the name, before the ending
    pub early_lost : (o n name seat : ℕ) (ds : List Deed) → AllByRecursion (DidEarly script turns core is seat) ds → FoundLost o name n ds → ((c : ℕ) → Lost c o n name) ⊎ ((0 < n) × ((id : ℕ) × DidEarly script turns core is seat (DidMiss name o id n)))
    early_lost o n name seat ds did (WasOther s found load add ne) = inl (λ c. failed_early c o n name s (early_named seat (DidStep (OnName (LoadName name)) (s + 1)) (all_in (DidEarly script turns core is seat) ds (DidStep (OnName (LoadName name)) (s + 1)) did load))
        (early_so script made turns core is closes seat (DidStep (OnSlot (AddRef s)) found) (all_in (DidEarly script turns core is seat) ds (DidStep (OnSlot (AddRef s)) found) did add) ne).1)
    early_lost o n name seat ds did (WasOdd s found load look odd) = inl (λ c. failed_early c o n name s (early_named seat (DidStep (OnName (LoadName name)) (s + 1)) (all_in (DidEarly script turns core is seat) ds (DidStep (OnName (LoadName name)) (s + 1)) did load))
        (early_so script made turns core is closes seat (DidStep (OnSlot (LookWord s)) found) (all_in (DidEarly script turns core is seat) ds (DidStep (OnSlot (LookWord s)) found) did look) odd).1)
    early_lost o n name seat ds did (WasNone id later miss) = inr (later, (id, all_in (DidEarly script turns core is seat) ds (DidMiss name o id n) did miss))

    -- an attempt behind that is one of an operation that had a step while the run was ending
    pub late_lost : (c n name seat : ℕ) (asked : Asked) (ds : List Deed) → AllByRecursion (DidLate script turns core is seat) ds → In (DidPut asked) ds → Lost c asked.operation n name
    late_lost c n name seat asked ds did put = RunEnding (in_contains (late_of_run script turns core is) asked.operation
        (in_right _ (shown_in put_at (plan_of script) is.ended is.final) asked.operation (put_shown (plan_of script) is.final is.ended seat asked (all_in (DidLate script turns core is seat) ds (DidPut asked) did put))))
