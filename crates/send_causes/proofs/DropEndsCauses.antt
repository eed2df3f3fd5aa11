-- A code 2002 that was posted for a dropped message tells of a frame fault on the link of the message.
use Rattle.std.proofs.Common.{◌≡◌, ◌≢◌, ℕ, ◌+◌, ◌*◌, ◌<◌, ◌⊎◌, inl, inr, ⊎_elim, List, ◌++◌, replicate, Ok, get_or, refl, sym, ap, ◌∙◌, subst, arith}
use Rattle.std.specs.Prelude.{Some, slice_get}
use Rattle.std.specs.List.{AllByRecursion}
use mathlib.Core.Option.{some}
use lib.ListN.{get_elem?}
use Rattle.seat_programs.specs.brpc_model.specs.Items.{Item}
use Rattle.seat_programs.specs.brpc_model.specs.Operations.{Turn}
use Rattle.seat_programs.specs.brpc_model.specs.Script.{script_of}
use Rattle.dropped_calls.specs.Below.script_facts.proofs.ReadScriptFacts.{InRange}
use Rattle.dropped_calls.specs.Below.script_facts.proofs.Targets.{AreThere}
use Rattle.sock_words.specs.PackedWords.{socket_id_slot, socket_id_version, NO_SOCKET}
use Rattle.sock_words.specs.declared.plain.Plan.{Plan}
use Rattle.sock_model.specs.SocketTableLayout.{open_index}
use Rattle.corr_core.specs.IdSlotWord.{code_of, attempt_of}
use Rattle.corr_core.proofs.NoteSums.{at_length}
use Rattle.seat_programs.specs.declared.task.Op.TheVariants as ops
use Rattle.seat_programs.specs.declared.task.Task.{Task}
use Rattle.seat_programs.specs.Cores.{Core}
use Rattle.seat_programs.specs.Tasks.{opens, plan_of}
use Rattle.seat_programs.specs.Ticks.{run, quiet}
use Rattle.seat_programs.specs.ScriptSetupToEnding.{all_tasks, opened, set_up, played, IsRunWithCalls}
use Rattle.seat_programs.specs.ExplainedCalls.{Order, Fixed, IsSent, GaveFault}
use Rattle.dropped_calls.specs.Below.programs_allowed.specs.program_steps.specs.SoundSeats.{views_along}
use Rattle.dropped_calls.specs.Below.programs_allowed.specs.program_walks.proofs.LinksOpening.{OpensLink}
use Rattle.dropped_calls.specs.Below.programs_allowed.specs.program_walks.proofs.WholeScriptSound.{closing_of, views_played, views_closed, views_ended, set_up_sound, closing_sound, closed_sound, end_answered}
use Rattle.dropped_calls.specs.Below.outcome_stories.specs.StoryStepCauses.{WasGiven}
use Rattle.dropped_calls.specs.Below.outcome_stories.specs.OperationStories.{In}
use Rattle.dropped_calls.specs.Below.outcome_stories.proofs.Members.{in_contains}
use Rattle.dropped_calls.specs.Below.joint_runs.proofs.RunsOfBothTables.{AreMade, first_views}
use Rattle.dropped_calls.specs.Below.call_owing.specs.LivesOfLinks.{ClosesInRun}
use Rattle.dropped_calls.specs.Below.owed_calls.proofs.OwedCallsAreEnded.{opens_apart}
use Rattle.dropped_calls.specs.Below.owned_ids.proofs.WordsGiven.{Named, IsOfLink, run_named, named_ending, named_on}
use Rattle.dropped_calls.specs.Below.call_stories.specs.LinkReadingLists.{gave_in}
use Rattle.dropped_calls.specs.Below.call_stories.specs.PostsOfRun.{Post}
use Rattle.dropped_calls.specs.accept_counts.specs.PostCauses.{PostCause, OfFault}
use Rattle.dropped_calls.specs.sent_once.proofs.OtherTasksBesideCalls.{orders_here}
use Rattle.dropped_calls.proofs.DropCauses.{fail_range, may_be_on, caused_by_drop}
use Rattle.dropped_calls.proofs.DropEndsWhole.{WhoseIn, whose_of_run}
use Rattle.dropped_calls.proofs.DropOfRun.{DropOf, ends, one_given, story_given}
use Rattle.dropped_calls.specs.accept_counts.proofs.EarlyClosedSockets.{start, go, fitting, known, named_set_up}
use Rattle.dropped_calls.specs.ended_calls.proofs.EndedWhole.{h₄, ended_so}
use Rattle.dropped_calls.specs.accept_counts.proofs.RunsKeepAttemptLaw.{AreLabelledIn}

module _ (script : List Item) (made : AreMade script) (turns : List Turn) (core : Core) (is : IsRunWithCalls script turns core) where
  -- the words of opens at the end of the run
  named_closing : Named (plan_of script) (OpensLink (opens script)) (closing_of script turns core is) (views_played script turns core is (first_views script))
  named_closing = named_ending (plan_of script) (OpensLink (opens script)) (opens script) (played script is.setup (is.scheduled ++ is.later)) (views_played script turns core is (first_views script))
      (run_named (plan_of script) (go script made turns core is) (OpensLink (opens script)) (set_up script is.setup) (views_along (plan_of script) (opened script) (first_views script) (replicate is.setup (quiet 0))) (is.scheduled ++ is.later)
      (set_up_sound script made.are (first_views script) (start script made turns core is) (go script made turns core is) turns core is (fitting script made turns core is)) is.answered (let f = fitting script made turns core is in f.of_played)
      (named_set_up script made turns core is))

  named_ended : Named (plan_of script) (OpensLink (opens script)) is.ended (views_closed script turns core is (first_views script))
  named_ended = subst (λ c. Named (plan_of script) (OpensLink (opens script)) c (views_closed script turns core is (first_views script))) (sym is.is_ended)
      (named_on (plan_of script) (OpensLink (opens script)) (run (plan_of script) (closing_of script turns core is) (replicate is.last (quiet 0))) (views_closed script turns core is (first_views script))
      (run_named (plan_of script) (go script made turns core is) (OpensLink (opens script)) (closing_of script turns core is) (views_played script turns core is (first_views script)) (replicate is.last (quiet 0))
      (closing_sound script made.are (first_views script) (start script made turns core is) (go script made turns core is) turns core is (fitting script made turns core is))
      (end_answered script made.are (first_views script) (start script made turns core is) (go script made turns core is) turns core is (fitting script made turns core is)) (let f = fitting script made turns core is in f.of_closing) named_closing))

  named_end : Named (plan_of script) (OpensLink (opens script)) core (views_ended script turns core is (first_views script))
  named_end = subst (λ c. Named (plan_of script) (OpensLink (opens script)) c (views_ended script turns core is (first_views script))) (sym is.is_end)
      (run_named (plan_of script) (go script made turns core is) (OpensLink (opens script)) is.ended (views_closed script turns core is (first_views script)) is.final
      (closed_sound script made.are (first_views script) (start script made turns core is) (go script made turns core is) turns core is (fitting script made turns core is)) is.answered_again (let f = fitting script made turns core is in f.of_final) named_ended)

  module _ (closes : ClosesInRun script turns core is) (ids : ℕ → ℕ) (labelled : AreLabelledIn ids script turns core is) where
    -- the life that an `open` made has its link
    pub own_link : (n o id j h k : ℕ) → get_elem? (opens script) n ≡ some o → get_or core.words (open_index (plan_of script) o) 0 ≡ id + 1 → get_or core.words (open_index (plan_of script) o) 0 ≢ NO_SOCKET → j ≡ socket_id_slot id → h ≡ socket_id_version id
        → WasGiven (ends script made turns core is closes ids labelled).events j h k → n ≡ k
    own_link n o id j h k at word socket slot version given_ = by (let w = named_end in w.words o (let i = known script made turns core is in i.in_script n o at) (λ z. omega (arith, z, word)) socket)
      where
        by : IsOfLink (OpensLink (opens script)) (plan_of script) core (views_ended script turns core is (first_views script)) o → n ≡ k
        by x = opens_apart script n x.link o at x.mine ∙ one_given script made turns core is closes ids labelled j h x.link k
            (subst (λ z. WasGiven (ends script made turns core is closes ids labelled).events z h x.link) (sym slot_is) (subst (λ z. WasGiven (ends script made turns core is closes ids labelled).events x.slot z x.link) (sym version_is)
            (story_given script made turns core is closes ids labelled x.slot x.version x.link x.inside x.given))) given_
          where
            id_is : id ≡ x.version * 4294967296 + x.slot
            id_is = let e = x.word in omega (arith, word, e)

            small : x.slot < 4294967296
            small = let s = x.inside in let m = made.limits in let l = m.slots in omega (arith, s, l)

            slot_is : j ≡ x.slot
            slot_is = slot ∙ (ap socket_id_slot id_is ∙ (let z : socket_id_slot (x.version * 4294967296 + x.slot) ≡ x.slot = omega (arith, small) in z))

            version_is : h ≡ x.version
            version_is = version ∙ (ap socket_id_version id_is ∙ (let z : socket_id_version (x.version * 4294967296 + x.slot) ≡ x.version = omega (arith, small) in z))

    module _ (there : AreThere script) (range : AllByRecursion InRange script) (bytes : List ℕ) (reads : script_of bytes ≡ Ok script) (fixed : Fixed) where
      abbrev p : Plan
      p = plan_of script

      abbrev clients : List (List Task)
      clients = all_tasks script

      abbrev orders : ℕ → Order
      orders = orders_here script made turns core is closes

      -- a code of a client or of the ending
      abbrev IsNoFault : ℕ → Type 0
      IsNoFault code = code ≢ 2002

      fits : (j : ℕ) (ts : List Task) → slice_get (all_tasks script) j ≡ Some ts → (t : Task) → In t ts → (name code : ℕ) → t.op ≡ ops.Fail name code → IsNoFault code
      fits j ts at t m name code op e = let x = fail_range script made turns core is closes ids labelled fixed (gave_in core) there range j t name code (ts, at, in_contains ts t m) op in let high = x.1 in omega (arith, e, high)

      -- the code of a frame fault
      pub fault_of_drop : (x : Post) (d : DropOf script made turns core is closes ids labelled x) → code_of x.error ≡ 2002 → GaveFault p clients core.outcomes fixed (gave_in core) orders d.link
      fault_of_drop x d code = ⊎_elim (λ e. absurd (omega (arith, e, code))) (λ f. by f.1 f.2 f.5 (whose_of_run script made turns core is IsNoFault (λ e. omega (arith, e)) fits (λ e. omega (arith, e)) f.0 f.1 f.2 (code_of x.error) f.3 f.4)) d.found
        where
          by : (j h : ℕ) → WasGiven (ends script made turns core is closes ids labelled).events j h d.link → WhoseIn script made turns core is IsNoFault (λ e. omega (arith, e)) fits core (h₄ script made turns core is) j h (code_of x.error) → GaveFault p clients core.outcomes fixed (gave_in core) orders d.link
          by j h given_ (inl other) = absurd (other code)
          by j h given_ (inr r) = subst (GaveFault p clients core.outcomes fixed (gave_in core) orders) (own_link r.link r.operation r.id j h d.link r.at r.word r.socket r.slot r.version given_)
              (⊎_elim (λ a. absurd (let e = a.0 in omega (arith, e, code))) (λ b. ⊎_elim (λ a. absurd (let e = a.0 in omega (arith, e))) (λ f. f.1)
              (ended_so script made turns core is bytes reads r.link (let low = at_length (opens script) r.link r.operation r.at in let many = (let k = known script made turns core is in k.as_many) in omega (arith, low, many)) 2002 (inr (refl, b.1)))) r.codes)

      module _ (last : ℕ → ℕ) (sent : (k : ℕ) → k < p.links → AllByRecursion (IsSent p clients core.outcomes fixed (gave_in core) orders last k) (orders k).accepted) where
        -- why an error was posted for a dropped message, where its code isn't that of the end of a reading
        pub cause_of_drop : (x : Post) (d : DropOf script made turns core is closes ids labelled x) (c id : ℕ) → PostCause p clients core.outcomes fixed (gave_in core) orders c d.task.number d.asked id (code_of x.error) (attempt_of x.error) ⊎ (code_of x.error ≡ 1014)
        cause_of_drop x d c id = ⊎_elim (λ a. inl a) (λ rest. ⊎_elim (λ e. inr e)
            (λ e. inl (OfFault e d.link (may_be_on script made turns core is closes ids labelled fixed (gave_in core) last sent x d) (fault_of_drop x d e))) rest)
            (caused_by_drop script made turns core is closes ids labelled fixed (gave_in core) last sent x d there range c id)
