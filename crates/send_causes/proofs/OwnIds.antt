-- The ids of calls are those that the words of calls tell as a run ends: the id that an outcome shows is its call's, and over these ids it is told why errors were posted.
use Rattle.std.proofs.Common.{◌≡◌, ◌≢◌, ℕ, ◌<◌, ◌≤◌, ◌==◌, if◌then◌else◌, inl, inr, ⊎_elim, List, [], ◌∷◌, get_or, Ok, None, Some, sym, ap, ◌∙◌, subst}
use Rattle.std.specs.Prelude.{Contains}
use Rattle.std.specs.List.{AllByRecursion}
use Rattle.sock_words.specs.declared.outcome.Outcome.{Outcome}
use Rattle.sock_words.specs.declared.outcome.Outcome.TheVariants as outcomes
use Rattle.sock_words.specs.declared.plain.Plan.{Plan}
use Rattle.sock_model.specs.declared.chain.Heading.{Heading}
use Rattle.seat_programs.specs.brpc_model.specs.Items.{Item}
use Rattle.seat_programs.specs.brpc_model.specs.Operations.{Turn}
use Rattle.seat_programs.specs.brpc_model.specs.Frame.{Frame}
use Rattle.seat_programs.specs.brpc_model.specs.MessageOfLabel.{shown_id}
use Rattle.seat_programs.specs.brpc_model.specs.Script.{script_of}
use Rattle.corr_core.specs.IdSlotWord.{error_of}
use Rattle.corr_core.specs.declared.marks.Plan.{Plan as IdPlan}
use Rattle.seat_programs.specs.id_rule.specs.LawfulIdTable.{call_index}
use Rattle.sock_message.specs.Asked.{Asked, name_of}
use Rattle.seat_programs.specs.declared.task.Op.TheVariants as ops
use Rattle.seat_programs.specs.declared.task.Task.{Task}
use Rattle.seat_programs.specs.Cores.{Core}
use Rattle.seat_programs.specs.Tasks.{plan_of, id_plan_of}
use Rattle.seat_programs.specs.ScriptSetupToEnding.{all_tasks, IsRunWithCalls}
use Rattle.seat_programs.specs.Explained.{IsTask, Became}
use Rattle.seat_programs.specs.ExplainedCalls.{Accepted, IsSent, Gave, IsResponse, StandsOn, MayBeOn}
use Rattle.dropped_calls.specs.Below.outcome_stories.specs.OperationStories.{In, In as Has}
use Rattle.dropped_calls.specs.Below.joint_runs.proofs.RunsOfBothTables.{AreMade}
use Rattle.dropped_calls.specs.Below.script_facts.proofs.ReadScriptFacts.{InRange}
use Rattle.dropped_calls.specs.Below.script_facts.proofs.Targets.{AreThere}
use Rattle.dropped_calls.specs.Below.call_owing.specs.LivesOfLinks.{ClosesInRun}
use Rattle.dropped_calls.specs.Below.owed_calls.proofs.OwedCallsAreEnded.{run_all_rest}
use Rattle.dropped_calls.specs.Below.call_stories.specs.Decided.{posted_by}
use Rattle.dropped_calls.specs.Below.call_stories.specs.LinkReadingLists.{gave_in}
use Rattle.dropped_calls.specs.Below.call_stories.specs.PostsOfRun.{Post}
use Rattle.dropped_calls.specs.Below.call_stories.specs.Scenes.{Scene, Begun, WhyOwn, ToldOf, was_said, was_sent, was_begun, AreTold}
use Rattle.dropped_calls.specs.Below.call_stories.specs.Says.{Mark}
use Rattle.dropped_calls.specs.Below.story_steps.proofs.StoryAtRunEnd.{HasEnded, one_outcome, call_of}
use Rattle.dropped_calls.specs.Below.call_causes.proofs.WholeCallStory.{run_has_story, run_has_ended}
use Rattle.dropped_calls.specs.accept_counts.specs.EndedCalls.{reader_posts_of_run, EndedSo}
use Rattle.dropped_calls.specs.accept_counts.specs.PostCauses.{PostCause}
use Rattle.dropped_calls.specs.accept_counts.specs.RefusedOrDropped.{Deed, DidInRun, IsDrop, RunWouldOwn}
use Rattle.send_causes.proofs.Assembled.{last_in_run}
use Rattle.dropped_calls.specs.attempted_calls.proofs.AttemptedCalls.{single, shows}
use Rattle.dropped_calls.specs.attempted_calls.proofs.AttemptedRun.{attempted_of_run}
use Rattle.dropped_calls.specs.attempted_calls.proofs.AttemptedStored.{ids_at, stored_run, would_run, words_stored}
use Rattle.send_causes.proofs.DropEndsOver.{caused_for_call}
use Rattle.dropped_calls.proofs.DropOfRun.{DropOf, drop_of_run}
use Rattle.dropped_calls.specs.ended_calls.proofs.EndedCauses.{EndedOn, run_ended_on}
use Rattle.dropped_calls.specs.refused_attempts.proofs.RefusedRun.{WhyPosted, refused_of_seat}
use Rattle.dropped_calls.specs.accept_counts.proofs.RunsKeepAttemptLaw.{AreLabelledIn}
use Rattle.send_causes.proofs.LawsOfLinkOrders.{laws}
use Rattle.dropped_calls.specs.Below.outcome_stories.specs.Facts.{shown_in_run}

-- ## Words of calls

module _ (p : Plan) (q : IdPlan) (clients : List (List Task)) (gives : ℕ → List ℕ) where
  told_in : (w : Scene) (c : ℕ) (ts : List Task) (t : Task) → AreTold p q clients gives w c ts → Has t ts → (before : List Task) × ToldOf p q clients gives w c before t
  told_in w c [] t all there = absurd there
  told_in w c (u ∷ us) t all (inl same) = (us, subst (ToldOf p q clients gives w c us) (sym same) all.0)
  told_in w c (u ∷ us) t all (inr there) = told_in w c us t all.1 there

  -- a call without an id has an outcome that shows none
  shows_none : (w : Scene) (c : ℕ) (before : List Task) (asked : Asked) (x : Outcome) (i : ℕ) → WhyOwn p q clients gives w c before (ops.Call asked) x → shown_id x ≡ Some i → ⊥
  shows_none w c before asked outcomes.Unopened i why is = let z : None ≡ Some i = is in cc
  shows_none w c before asked _ i why is = absurd why

  -- so the word of a call was stored whose outcome shows an id
  word_stored : (w : Scene) (ms : List Mark) → HasEnded p q clients gives w ms → (c : ℕ) (t : Task) (asked : Asked) (x : Outcome) (i : ℕ) → IsTask clients w.core.outcomes c t → t.op ≡ ops.Call asked → Became clients w.core.outcomes t.number x → shown_id x ≡ Some i
      → Begun p q clients gives w t.number
  word_stored w ms e c t asked x i it op has shown = ⊎_elim (λ own. absurd (shows_none w c own.0 asked x i own.1 shown)) (λ z. by z.0 z.1 z.3) (call_of p q clients gives w ms e c t asked x it op has)
    where
      of_told : (d : ℕ) (before : List Task) (u : Task) → u.op ≡ ops.Call asked → u.number ≡ t.number → ToldOf p q clients gives w d before u → Begun p q clients gives w t.number
      of_told d before u call number (was_said y said why just) = absurd (shows_none w d before asked y i (subst (λ (o : Rattle.seat_programs.specs.declared.task.Op.Op). WhyOwn p q clients gives w d before o y) call why)
          (ap shown_id (one_outcome p q clients gives w ms e t.number y x (subst (λ o. Became clients w.core.outcomes o y) number (e.tasks.said u.number y said)) has) ∙ shown))
      of_told d before u call number (was_sent n bytes sent named) = absurd (let z : ops.Send n bytes ≡ ops.Call asked = sym sent ∙ call in cc)
      of_told d before u call number (was_begun id a is own born begun named) = subst (Begun p q clients gives w) number begun

      by : (id : ℕ) → Has (record { id = id; asked = asked }) w.births → t.number ≡ asked.operation → Begun p q clients gives w t.number
      by id born own = let y = e.tasks.begun (record { id = id; asked = asked }) born in ⊎_elim
          (λ done. let d = told_in w y.1.client y.1.done y.2 (e.tasks.told y.0 y.1 y.3) done in of_told y.1.client d.0 y.2 y.4.0 (y.4.1 ∙ sym own) d.1)
          (λ todo. absurd (let z : y.2 ∷ todo.0 ≡ [] = sym todo.1 ∙ (e.idle y.0 y.1 y.3).0 in cc)) y.4.2

-- ## A whole run

module _ (script : List Item) (made : AreMade script) (there : AreThere script) (range : AllByRecursion InRange script) (turns : List Turn) (core : Core) (is : IsRunWithCalls script turns core) (closes : ClosesInRun script turns core is) where
  -- whoever stores an at word, or would store one, stores one of its operation's own id
  pub labelled_at : AreLabelledIn (ids_at script core) script turns core is
  labelled_at = (stored_run script made there range turns core is (run_all_rest script made turns core is closes)).0

  pub would_at : RunWouldOwn (ids_at script core) script turns core is
  would_at = would_run script made there range turns core is (run_all_rest script made turns core is closes)

  -- no two calls have one id
  pub single_at : (o x : ℕ) → ids_at script core o ≢ 0 → ids_at script core o ≡ ids_at script core x → o ≡ x
  single_at = single script made there range turns core is (ids_at script core) (words_stored script made there range turns core is)

  -- a call whose outcome shows an id has one
  pub some_id : (client : ℕ) (t : Task) (asked : Asked) → IsTask (all_tasks script) core.outcomes client t → t.op ≡ ops.Call asked → (outcome : Outcome) → Became (all_tasks script) core.outcomes t.number outcome → (id : ℕ) → shown_id outcome ≡ Some id → ids_at script core t.number ≢ 0
  some_id client t asked it op outcome became id shown = let h = run_has_story script made there range turns core is in
      subst (λ (d : Core). IsTask (all_tasks script) d.outcomes client t → Became (all_tasks script) d.outcomes t.number outcome → get_or d.calls.words (call_index (id_plan_of script) t.number) 0 ≢ 0) h.is
      (λ it' has. word_stored (plan_of script) (id_plan_of script) (all_tasks script) (gave_in core) h.scene h.marks (run_has_ended script made there range turns core is closes) client t asked outcome id it' op has shown) it became

  -- and it is the one that is shown
  pub own_id : (client : ℕ) (t : Task) (asked : Asked) → IsTask (all_tasks script) core.outcomes client t → t.op ≡ ops.Call asked → (outcome : Outcome) → Became (all_tasks script) core.outcomes t.number outcome → (id : ℕ) → shown_id outcome ≡ Some id → ids_at script core t.number ≡ id
  own_id client t asked it op outcome became id shown =
      let s = shows script made there range turns core is (ids_at script core) (words_stored script made there range turns core is) closes t.number (some_id client t asked it op outcome became id shown) in
      let same : s.0 ≡ outcome = (let z : Some (Some s.0) ≡ Some (Some outcome) = sym s.1 ∙ became in cc) in
      let z : Some (ids_at script core t.number) ≡ Some id = sym s.2 ∙ (ap shown_id same ∙ shown) in cc

  -- ## Posts

  module _ (bytes : List ℕ) (reads : script_of bytes ≡ Ok script) where
    open laws script made there range bytes reads turns core is closes use {p, clients, fixed, orders}

    -- why each error was posted that an id took from a seat
    pub whys_of_seat : (j : ℕ) (x : Post) → In x (shown_in_run script turns core is (posted_by j)) → WhyPosted script made turns core is closes (ids_at script core) labelled_at would_at bytes reads j x
    whys_of_seat = refused_of_seat script made turns core is closes (ids_at script core) labelled_at would_at bytes reads

    -- of an error that was posted for a dropped message
    abbrev pub DropAt : Post → Type 0
    DropAt x = DropOf script made turns core is closes (ids_at script core) labelled_at x

    pub drop_post : (x : Post) (seat : ℕ) (heading : Heading) (code : ℕ) (deeds : List Deed) → AllByRecursion (DidInRun script turns core is seat) deeds → IsDrop heading code deeds → heading.owner ≢ 0 → heading.owner ≡ x.id
        → x.error ≡ error_of (if code == 0 then 1009 else code) heading.label.attempt → DropAt x
    drop_post = drop_of_run script made turns core is closes (ids_at script core) labelled_at

    sent : (k : ℕ) → k < p.links → AllByRecursion (λ (a : Accepted). IsSent p clients core.outcomes fixed (gave_in core) orders (last_in_run script made there range bytes reads turns core is closes) k a) (orders k).accepted
    sent = attempted_of_run script made there range turns core is closes fixed (gave_in core)

    -- why it was posted, where the link's responses of an id whose code is that of the ending came before the call began
    pub drop_cause : (c : ℕ) (t : Task) (asked : Asked) (id code n : ℕ) → IsTask clients core.outcomes c t → t.op ≡ ops.Call asked → ids_at script core t.number ≡ id → id ≢ 0 → n ≤ 7 → DropAt (record { id = id; error = error_of code n })
        → ((k : ℕ) → code ≡ 1014 → (m : ℕ) (frame : Frame) → StandsOn p clients core.outcomes fixed (gave_in core) orders t.number n k → Gave p clients core.outcomes fixed (gave_in core) orders k m frame → IsResponse p clients core.outcomes fixed (gave_in core) orders asked id frame → Contains fixed.soon (k, m))
        → PostCause p clients core.outcomes fixed (gave_in core) orders c t.number asked id code n
    drop_cause = caused_for_call script made turns core is closes (ids_at script core) labelled_at there range bytes reads sent single_at

    -- ## Posts by readers

    module _ (client : ℕ) (t : Task) (asked : Asked) (it : IsTask (all_tasks script) core.outcomes client t) (op : t.op ≡ ops.Call asked) (x : Post) (at : In x (reader_posts_of_run script turns core is)) (own : x.id ≡ ids_at script core t.number) where
      -- the attempt for which a reader posted an error may be on a link whose reading ended with the code
      pub reader_post : (code n : ℕ) → x.error ≡ error_of code n → n ≤ 7 → (k : ℕ) × MayBeOn p clients core.outcomes fixed (gave_in core) orders t.number n (name_of asked n) k × EndedSo script turns core is k code
      reader_post code n error few = let e : EndedOn script made turns core is closes (ids_at script core) labelled_at single_at bytes reads client t asked it op x at own code n = run_ended_on script made turns core is closes (ids_at script core) labelled_at single_at bytes reads client t asked it op x at own code n error few in (e.link, e.on, e.ended)
