-- Why calls failed with the code of the end of a reading: a reader whose reading ended decided on it, or a client for whom the attempt's message was dropped from a link of which the reader had stored that code.
use Rattle.std.proofs.Common.{◌≡◌, ◌≢◌, ℕ, ◌+◌, ◌-◌, ◌<◌, ◌≤◌, ◌⊎◌, ⊎_elim, List, Ok, refl, sym, ◌∙◌, subst, arith}
use Rattle.std.specs.Prelude.{Contains, Some, slice_get}
use Rattle.std.specs.List.{AllByRecursion}
use mathlib.Core.Logic.{dite}
use mathlib.Core.Option.{some}
use native.Mathlib.Decide.{dec_le}
use lib.ListN.{get_elem?}
use Rattle.dropped_calls.specs.Below.chain_steps.proofs.TicketLists.{at_some}
use Rattle.sock_words.specs.PackedWords.{at_word_attempt}
use Rattle.sock_words.specs.declared.outcome.Outcome.TheVariants.{CallFailed}
use Rattle.seat_programs.specs.brpc_model.specs.Items.{Item}
use Rattle.seat_programs.specs.brpc_model.specs.Operations.{Turn}
use Rattle.seat_programs.specs.brpc_model.specs.Frame.{Frame}
use Rattle.seat_programs.specs.brpc_model.specs.Script.{script_of}
use Rattle.seat_programs.specs.brpc_model.specs.FrameStream.{stream}
use Rattle.corr_core.specs.IdSlotWord.{error_of, attempt_of}
use Rattle.sock_message.specs.Asked.{Asked, name_of}
use Rattle.seat_programs.specs.declared.task.Op.TheVariants as ops
use Rattle.seat_programs.specs.declared.task.Task.{Task}
use Rattle.seat_programs.specs.Cores.{Core}
use Rattle.seat_programs.specs.Tasks.{opens, plan_of}
use Rattle.seat_programs.specs.ScriptSetupToEnding.{all_tasks, IsRunWithCalls}
use Rattle.seat_programs.specs.Explained.{IsTask, Became}
use Rattle.seat_programs.specs.ExplainedCalls.{Gave, IsResponse, IsUnordered, StandsOn, WasFull, IsFailing, MayBeOn, EndedWith}
use Rattle.dropped_calls.specs.Below.outcome_stories.specs.OperationStories.{In}
use Rattle.dropped_calls.specs.Below.joint_runs.proofs.RunsOfBothTables.{AreMade}
use Rattle.dropped_calls.specs.Below.script_facts.proofs.ReadScriptFacts.{InRange}
use Rattle.dropped_calls.specs.Below.script_facts.proofs.Targets.{AreThere}
use Rattle.dropped_calls.specs.Below.call_owing.specs.LivesOfLinks.{ClosesInRun}
use Rattle.dropped_calls.specs.Below.run_theorems.proofs.GaveTakeByTake.{gave_heard}
use Rattle.dropped_calls.specs.Below.call_stories.specs.Decided.{posted_by, decided_by}
use Rattle.dropped_calls.specs.Below.call_stories.specs.LinkReadingLists.{gave_in}
use Rattle.dropped_calls.specs.Below.call_stories.specs.PostsOfRun.{Post}
use Rattle.dropped_calls.specs.Below.call_causes.proofs.DecisionsEndCalls.{run_failed_decided}
use Rattle.dropped_calls.specs.Below.call_causes.proofs.HandledWhole.{PostedLate}
use Rattle.dropped_calls.specs.accept_counts.specs.EndedCalls.{AreStoredOnce, EndedSo, IsEndPost}
use Rattle.dropped_calls.specs.accept_counts.specs.PostCauses.{PostCause, OfLoss, OfWant, OfDrop, OfFail, OfFault, OfEnd}
use Rattle.send_causes.proofs.Assembled.{last_in_run}
use Rattle.dropped_calls.specs.attempted_calls.proofs.AttemptedRun.{one_asked, attempted_of_run}
use Rattle.dropped_calls.specs.attempted_calls.proofs.AttemptedStored.{ids_at}
use Rattle.dropped_calls.specs.sent_once.proofs.OtherTasksBesideCalls.{gave_of_run}
use Rattle.send_causes.proofs.CausedRanges.{few_last}
use Rattle.dropped_calls.specs.ended_calls.proofs.CausedReaders.{seat_end_posts}
use Rattle.send_causes.proofs.ClosedLost.{end_lost}
use Rattle.dropped_calls.proofs.DropCauses.{may_be_on}
use Rattle.dropped_calls.specs.accept_counts.proofs.EarlyClosedSockets.{known}
use Rattle.dropped_calls.specs.ended_calls.proofs.EndedAttempts.{IsReaderPost, of_word, of_word_is}
use Rattle.dropped_calls.specs.ended_calls.proofs.EndedOnce.{run_stored_once}
use Rattle.send_causes.proofs.LateDrops.{late_drop_at}
use Rattle.dropped_calls.specs.own_decisions.proofs.OwnDecisions.{own_decisions}
use Rattle.send_causes.proofs.OwnIds.{labelled_at, would_at, single_at, some_id, own_id, whys_of_seat, DropAt, drop_post, drop_cause}
use Rattle.dropped_calls.specs.refused_attempts.proofs.RefusedRun.{WhyPosted, PostedByReader, PostedByExpiry, PostedByRefusal, PostedByDrop}
use Rattle.dropped_calls.specs.ended_calls.proofs.FailedCallsUnanswered.{soon_where_late, unanswered_where_decided}
use Rattle.send_causes.proofs.LawsOfLinkOrders.{laws}
use Rattle.dropped_calls.specs.Below.outcome_stories.specs.Facts.{shown_in_run}

module _ (script : List Item) (made : AreMade script) (there : AreThere script) (range : AllByRecursion InRange script) (turns : List Turn) (core : Core) (is : IsRunWithCalls script turns core) (closes : ClosesInRun script turns core is) (bytes : List ℕ) (reads : script_of bytes ≡ Ok script) where
  open laws script made there range bytes reads turns core is closes use {p, clients, fixed, orders}

  abbrev last : ℕ → ℕ
  last = last_in_run script made there range bytes reads turns core is closes

  abbrev ids : ℕ → ℕ
  ids = ids_at script core

  abbrev May : ℕ → ℕ → ℕ → ℕ → Type 0
  May o n name k = MayBeOn p clients core.outcomes fixed (gave_in core) orders o n name k

  abbrev pub Lost : ℕ → ℕ → ℕ → Type 0
  Lost o n k = IsFailing p clients core.outcomes fixed (gave_in core) orders k ⊎ (StandsOn p clients core.outcomes fixed (gave_in core) orders o n k ⊎ (IsUnordered p clients core.outcomes fixed (gave_in core) orders o n × WasFull p clients core.outcomes fixed (gave_in core) orders))

  abbrev Responds : Asked → ℕ → Frame → Type 0
  Responds asked id frame = IsResponse p clients core.outcomes fixed (gave_in core) orders asked id frame

  abbrev Gives : ℕ → ℕ → Frame → Type 0
  Gives k m frame = Gave p clients core.outcomes fixed (gave_in core) orders k m frame

  -- what a link gave it gave by its takes
  gives_heard : (k m : ℕ) (frame : Frame) → Gives k m frame → Gave p clients core.outcomes fixed (gave_of_run script made turns core is closes) orders k m frame
  gives_heard k m frame g = (g.0, subst (λ b. slice_get (stream b).frames m ≡ Some frame) (gave_heard bytes script reads turns core is k g.0) g.1)

  -- the link of an attempt whose message was dropped
  drop_on : (x : Post) (d : DropAt script made there range turns core is closes bytes reads x) (l : ℕ) → StandsOn p clients core.outcomes fixed (gave_in core) orders d.task.number (attempt_of x.error) l → l ≡ d.link
  drop_on x d = (may_be_on script made turns core is closes ids (labelled_at script made there range turns core is closes) fixed (gave_in core) last (attempted_of_run script made there range turns core is closes fixed (gave_in core)) x d).3

  -- the cause is the end of a reading
  of_end : (c o : ℕ) (asked : Asked) (id code n : ℕ) → code ≡ 1014 → PostCause p clients core.outcomes fixed (gave_in core) orders c o asked id code n → (k : ℕ) × EndedWith p clients core.outcomes fixed (gave_in core) orders asked o n (name_of asked n) id k
  of_end c o asked id code n e (OfLoss is_ unordered why) = absurd (omega (arith, e, is_))
  of_end c o asked id code n e (OfWant is_ unordered full) = absurd (omega (arith, e, is_))
  of_end c o asked id code n e (OfDrop is_ dropped) = absurd (omega (arith, e, is_))
  of_end c o asked id code n e (OfFail low high dropped failed) = absurd (omega (arith, e, low))
  of_end c o asked id code n e (OfFault is_ k on fault) = absurd (omega (arith, e, is_))
  of_end c o asked id code n e (OfEnd is_ k ended) = (k, ended)

  -- some seat decided on the error with which a call failed
  decided : (client : ℕ) (t : Task) (asked : Asked) (id : ℕ) → IsTask (all_tasks script) core.outcomes client t → t.op ≡ ops.Call asked → Became (all_tasks script) core.outcomes t.number (CallFailed id 1014)
      → (j : ℕ) × In (record { id = id; asked = asked; error = error_of 1014 (last t.number) }) (shown_in_run script turns core is (decided_by j))
  decided client t asked id it op became = ⊎_elim (λ a. absurd (let e = a.0 in let z : ⊥ = omega (arith, e) in z)) (λ rest. ⊎_elim (λ b. absurd (let e = b.0 in let z : ⊥ = omega (arith, e) in z)) (λ c. (c.2, c.3)) rest)
      (run_failed_decided script made there range turns core is closes fixed orders client t asked id 1014 it op became)

  module _ (client : ℕ) (t : Task) (asked : Asked) (id : ℕ) (it : IsTask (all_tasks script) core.outcomes client t) (op : t.op ≡ ops.Call asked) (became : Became (all_tasks script) core.outcomes t.number (CallFailed id 1014)) where
    abbrev x : Post
    x = record { id = id; error = error_of 1014 (last t.number) }

    abbrev Ended : ℕ → Type 0
    Ended k = EndedWith p clients core.outcomes fixed (gave_in core) orders asked t.number (last t.number) (name_of asked (last t.number)) id k

    own : ids_at script core t.number ≡ id
    own = own_id script made there range turns core is closes client t asked it op (CallFailed id 1014) became id refl

    some_ : id ≢ 0
    some_ e = some_id script made there range turns core is closes client t asked it op (CallFailed id 1014) became id refl (own ∙ e)

    few : last t.number ≤ 6
    few = few_last script made there range turns core is client t asked it op

    -- ## A reader decided

    module _ (k : ℕ) (posted : In x (shown_in_run script turns core is (posted_by (32 + k)))) (decides : In (record { id = id; asked = asked; error = error_of 1014 (last t.number) }) (shown_in_run script turns core is (decided_by (32 + k)))) where
      once : AreStoredOnce script turns core is
      once = run_stored_once script made turns core is closes (ids_at script core) (labelled_at script made there range turns core is closes)

      end_ : (o word code : ℕ) × (k < (plan_of script).links) × IsEndPost script turns core is k o word code x
      end_ = seat_end_posts script made turns core is k x bytes reads posted

      abbrev ReaderPost : Type 0
      ReaderPost = IsReaderPost script made turns core is closes (ids_at script core) (labelled_at script made there range turns core is closes) once fixed (gave_in core) 1014 (last t.number) x

      attempt : at_word_attempt end_.1 ≡ last t.number
      attempt = let e : error_of 1014 (last t.number) ≡ error_of end_.2 (at_word_attempt end_.1) = end_.4.error in let f = few in omega (arith, e, f)

      opened : (o : ℕ) × (get_elem? (opens script) k ≡ some o)
      opened = at_some (opens script) k (let facts = known script made turns core is in let many = facts.as_many in let low = end_.3 in omega (arith, low, many))

      of_post : (post : ReaderPost) → post.link ≡ k → post.asked.operation ≡ end_.0 → Ended k
      of_post post link place = record {
        on = subst (May t.number (last t.number) (name_of asked (last t.number))) link (subst (λ (a : Asked). May t.number (last t.number) (name_of a (last t.number)) post.link) same (subst (λ o. May o (last t.number) (name_of post.asked (last t.number)) post.link) number post.on));
        ended = ⊎_elim (λ e. e.1) (λ f. absurd (let e = f.0 in let z : ⊥ = omega (arith, e) in z)) (subst (λ l. EndedSo script turns core is l 1014) link post.ended);
        lost = subst (λ m. Lost t.number m k) attempt (subst (λ o. Lost o (at_word_attempt end_.1) k) (sym place ∙ number) (end_lost script made turns core is closes (ids_at script core) (labelled_at script made there range turns core is closes) bytes reads k end_.0 end_.1 end_.2 x end_.4));
        unanswered = λ m frame gives responds. unanswered_where_decided script made there range turns core is closes bytes reads client t asked id 1014 it op became k opened.0 opened.1 (error_of 1014 (last t.number)) (last t.number) decides m frame (gives_heard k m frame gives) responds;
      }
        where
          number : post.asked.operation ≡ t.number
          number = single_at script made there range turns core is closes post.asked.operation t.number post.some_ (sym post.id ∙ sym own)

          same : post.asked ≡ asked
          same = one_asked script made there range turns core is closes (ids_at script core) (labelled_at script made there range turns core is closes) post.asked asked post.called client t it op number

      by_reader : Ended k
      by_reader = let small : last t.number ≤ 7 = (let f = few in omega (arith, f)) in
          let at = of_word_is script made turns core is closes (ids_at script core) (labelled_at script made there range turns core is closes) once fixed (gave_in core) k end_.0 end_.1 end_.2 x end_.3 end_.4 1014 (last t.number) refl small in
          of_post (of_word script made turns core is closes (ids_at script core) (labelled_at script made there range turns core is closes) once fixed (gave_in core) k end_.0 end_.1 end_.2 x end_.3 end_.4 1014 (last t.number) refl small) at.0 at.1

    -- ## A client decided

    by_drop : (j : ℕ) → j < 32 → In x (shown_in_run script turns core is (posted_by j)) → DropAt script made there range turns core is closes bytes reads x → (k : ℕ) × Ended k
    by_drop j low posted d = of_end client t.number asked id 1014 (last t.number) refl (drop_cause script made there range turns core is closes bytes reads client t asked id 1014 (last t.number) it op own some_ (let f = few in omega (arith, f)) d
        (λ k end_ m frame stands gives responds. soon k m frame (at_link k stands) gives responds))
      where
        late : (o : ℕ) × (at : get_elem? (opens script) d.link ≡ some o) × PostedLate script made there range turns core is d.link o at x
        late = late_drop_at script made there range turns core is closes j low x posted (let f = few in omega (arith, f)) d

        number : d.task.number ≡ t.number
        number = single_at script made there range turns core is closes d.task.number t.number (λ z. some_ (sym d.own ∙ z)) (d.own ∙ sym own)

        attempt : attempt_of (error_of 1014 (last t.number)) ≡ last t.number
        attempt = let f = few in omega (arith, f)

        at_link : (k : ℕ) → StandsOn p clients core.outcomes fixed (gave_in core) orders t.number (last t.number) k → k ≡ d.link
        at_link k stands = drop_on x d k (subst (λ o. StandsOn p clients core.outcomes fixed (gave_in core) orders o (attempt_of (error_of 1014 (last t.number))) k) (sym number)
            (subst (λ m. StandsOn p clients core.outcomes fixed (gave_in core) orders t.number m k) (sym attempt) stands))

        soon : (k m : ℕ) (frame : Frame) → k ≡ d.link → Gives k m frame → Responds asked id frame → Contains fixed.soon (k, m)
        soon k m frame same gives responds = subst (λ l. Contains fixed.soon (l, m)) (sym same) (soon_where_late script made there range turns core is closes bytes reads client t asked id 1014 it op became d.link late.0 late.1 (error_of 1014 (last t.number)) late.2 m frame
            (gives_heard d.link m frame (subst (λ l. Gives l m frame) same gives)) responds)

    by_client : (j : ℕ) → j < 32 → In x (shown_in_run script turns core is (posted_by j)) → WhyPosted script made turns core is closes (ids_at script core) (labelled_at script made there range turns core is closes) (would_at script made there range turns core is closes) bytes reads j x → (k : ℕ) × Ended k
    by_client j low posted (PostedByReader m high e) = absurd (omega (arith, low, high))
    by_client j low posted (PostedByExpiry inside e) = absurd (let f = few in omega (arith, e, f))
    by_client j low posted (PostedByRefusal inside r) = absurd (let f = few in ⊎_elim (λ a. let e = a.0 in omega (arith, e, f)) (λ a. let e = a.0 in omega (arith, e, f)) r.why)
    by_client j low posted (PostedByDrop heading c ds inside did drop owned same e) = by_drop j low posted (drop_post script made there range turns core is closes bytes reads x j heading c ds did drop owned same e)

    by_seat : (j : ℕ) → In (record { id = id; asked = asked; error = error_of 1014 (last t.number) }) (shown_in_run script turns core is (decided_by j)) → (k : ℕ) × Ended k
    by_seat j decides = let posted = own_decisions script made there range turns core is closes j (record { id = id; asked = asked; error = error_of 1014 (last t.number) }) decides (λ z. let f = few in omega (arith, z, f)) in dite (dec_le 32 j)
        (λ high. let e : j ≡ 32 + (j - 32) = omega (arith, high) in (
          j - 32,
          by_reader (j - 32) (subst (λ i. In x (shown_in_run script turns core is (posted_by i))) e posted)
              (subst (λ i. In (record { id = id; asked = asked; error = error_of 1014 (last t.number) }) (shown_in_run script turns core is (decided_by i))) e decides),
        ))
        (λ low. by_client j (omega (arith, low)) posted (whys_of_seat script made there range turns core is closes bytes reads j x posted))

  -- a call that failed with that code did so by a link whose reading ended
  pub ended_of_run : (client : ℕ) (t : Task) (asked : Asked) (id : ℕ) → IsTask (all_tasks script) core.outcomes client t → t.op ≡ ops.Call asked → Became (all_tasks script) core.outcomes t.number (CallFailed id 1014)
      → (k : ℕ) × EndedWith p clients core.outcomes fixed (gave_in core) orders asked t.number (last t.number) (name_of asked (last t.number)) id k
  ended_of_run client t asked id it op became = let d = decided client t asked id it op became in by_seat client t asked id it op became d.0 d.1
