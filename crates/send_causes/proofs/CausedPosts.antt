-- Why errors were posted for attempts of calls: each has its cause, but for those of the end of a reading.
use Rattle.std.proofs.Common.{◌≡◌, ◌≢◌, ℕ, ◌<◌, ◌≤◌, ⊎_elim, List, Ok, Some, refl, sym, ◌∙◌, subst, arith}
use Rattle.std.specs.Prelude.{Option, Contains}
use Rattle.std.specs.List.{AllByRecursion}
use mathlib.Core.Logic.{dite}
use native.Mathlib.Decide.{dec_le}
use Rattle.sock_words.specs.declared.plain.Plan.{Plan}
use Rattle.sock_words.specs.declared.outcome.Outcome.{Outcome}
use Rattle.seat_programs.specs.brpc_model.specs.Items.{Item}
use Rattle.seat_programs.specs.brpc_model.specs.Operations.{Turn}
use Rattle.seat_programs.specs.brpc_model.specs.MessageOfLabel.{shown_id}
use Rattle.seat_programs.specs.brpc_model.specs.Script.{script_of}
use Rattle.corr_core.specs.IdSlotWord.{error_of, code_of, attempt_of}
use Rattle.sock_message.specs.Asked.{Asked, name_of}
use Rattle.seat_programs.specs.declared.task.Op.TheVariants as ops
use Rattle.seat_programs.specs.declared.task.Task.{Task}
use Rattle.seat_programs.specs.Cores.{Core}
use Rattle.seat_programs.specs.ScriptSetupToEnding.{all_tasks, IsRunWithCalls}
use Rattle.seat_programs.specs.Explained.{IsTask, Became}
use Rattle.seat_programs.specs.ExplainedCalls.{Fixed, Order, IsUnordered, WhyLost, WasFailing, RunEnding, WasUnopened}
use Rattle.dropped_calls.specs.Below.outcome_stories.specs.OperationStories.{In}
use Rattle.dropped_calls.specs.Below.outcome_stories.proofs.Members.{contains_in}
use Rattle.dropped_calls.specs.Below.joint_runs.proofs.RunsOfBothTables.{AreMade}
use Rattle.dropped_calls.specs.Below.script_facts.proofs.ReadScriptFacts.{InRange}
use Rattle.dropped_calls.specs.Below.script_facts.proofs.Targets.{AreThere}
use Rattle.dropped_calls.specs.Below.call_owing.specs.LivesOfLinks.{ClosesInRun}
use Rattle.dropped_calls.specs.Below.call_stories.specs.Decided.{posted_by}
use Rattle.dropped_calls.specs.Below.call_stories.specs.LinkReadingLists.{gave_in}
use Rattle.dropped_calls.specs.Below.call_stories.specs.PostsOfRun.{Post, posts_of_run}
use Rattle.dropped_calls.specs.accept_counts.specs.EndedCalls.{reader_posts_of_run}
use Rattle.dropped_calls.specs.accept_counts.specs.PostCauses.{PostCause, OfLoss, OfWant, OfFault}
use Rattle.dropped_calls.specs.accept_counts.specs.RefusedOrDropped.{FoundNothing}
use Rattle.dropped_calls.specs.attempted_calls.proofs.AttemptedRun.{one_asked}
use Rattle.dropped_calls.specs.attempted_calls.proofs.AttemptedStored.{ids_at}
use Rattle.dropped_calls.specs.sent_once.proofs.OtherTasksBesideCalls.{gave_of_run}
use Rattle.send_causes.proofs.FoundNamesWhole.{found_lost}
use Rattle.send_causes.proofs.OwnIds.{labelled_at, would_at, single_at, some_id, own_id, whys_of_seat, drop_post, drop_cause, reader_post}
use Rattle.dropped_calls.specs.accept_counts.proofs.PostSeats.{seat_of_post, reader_post_of}
use Rattle.dropped_calls.specs.refused_attempts.proofs.RefusedRun.{IsOfRefusal, WhyPosted, PostedByReader, PostedByExpiry, PostedByRefusal, PostedByDrop}
use Rattle.send_causes.proofs.LawsOfLinkOrders.{laws}
use Rattle.dropped_calls.specs.Below.outcome_stories.specs.Facts.{shown_in_run}

-- an attempt's loss is none of what links gave
lost_over : (p : Plan) (clients : List (List Task)) (outcomes : List (Option Outcome)) (fixed : Fixed) (gave took : ℕ → List ℕ) (orders : ℕ → Order) (c o n name : ℕ) → WhyLost p clients outcomes fixed gave orders c o n name → WhyLost p clients outcomes fixed took orders c o n name
lost_over p clients outcomes fixed gave took orders c o n name (WasFailing k named failing) = WasFailing k named failing
lost_over p clients outcomes fixed gave took orders c o n name (RunEnding late) = RunEnding late
lost_over p clients outcomes fixed gave took orders c o n name (WasUnopened later client m low high before none_) = WasUnopened later client m low high before (record { setup = none_.setup; own = none_.own })

module _ (script : List Item) (made : AreMade script) (there : AreThere script) (range : AllByRecursion InRange script) (turns : List Turn) (core : Core) (is : IsRunWithCalls script turns core) (closes : ClosesInRun script turns core is) (bytes : List ℕ) (reads : script_of bytes ≡ Ok script) where
  open laws script made there range bytes reads turns core is closes use {p, clients, fixed, orders}

  abbrev pub Lost : ℕ → ℕ → ℕ → ℕ → Type 0
  Lost c o n name = WhyLost p clients core.outcomes fixed (gave_in core) orders c o n name

  module _ (client : ℕ) (t : Task) (asked : Asked) (it : IsTask (all_tasks script) core.outcomes client t) (op : t.op ≡ ops.Call asked) (id code n : ℕ) (own : ids_at script core t.number ≡ id) (some_ : id ≢ 0) (few : n ≤ 6) (other : code ≢ 1014) where
    abbrev x : Post
    x = record { id = id; error = error_of code n }

    abbrev Caused : Type 0
    Caused = PostCause p clients core.outcomes fixed (gave_in core) orders client t.number asked id code n

    code_is : code_of (error_of code n) ≡ code
    code_is = omega (arith, few)

    attempt_is : attempt_of (error_of code n) ≡ n
    attempt_is = omega (arith, few)

    by_refusal : IsOfRefusal script made turns core is closes (ids_at script core) (labelled_at script made there range turns core is closes) (would_at script made there range turns core is closes) x → Caused
    by_refusal r = ⊎_elim
        (λ full. OfWant (sym code_is ∙ full.0) unordered full.1)
        (λ gone. OfLoss (sym code_is ∙ gone.0) unordered (⊎_elim
        (λ lost. own_attempt (λ o m name. Lost client o m name) (lost_over p clients core.outcomes fixed (gave_of_run script made turns core is closes) (gave_in core) orders client r.asked.operation (attempt_of (error_of code n)) (name_of r.asked (attempt_of (error_of code n))) (lost client)))
        (λ none_. found_lost script made there range turns core is closes fixed (gave_in core) orders client t n (name_of asked n) it (own_attempt (λ o m name. FoundNothing script turns core is o m name) none_)) gone.1)) r.why
      where
        number : r.asked.operation ≡ t.number
        number = single_at script made there range turns core is closes r.asked.operation t.number (λ z. some_ (sym r.own ∙ z)) (r.own ∙ sym own)

        same : r.asked ≡ asked
        same = one_asked script made there range turns core is closes (ids_at script core) (labelled_at script made there range turns core is closes) r.asked asked r.called client t it op number

        -- what is said of the attempt that was refused is said of this one
        own_attempt : (P : ℕ → ℕ → ℕ → Type 0) → P r.asked.operation (attempt_of (error_of code n)) (name_of r.asked (attempt_of (error_of code n))) → P t.number n (name_of asked n)
        own_attempt P has = subst (λ (a : Asked). P t.number n (name_of a n)) same (subst (λ o. P o n (name_of r.asked n)) number (subst (λ m. P r.asked.operation m (name_of r.asked m)) attempt_is has))

        unordered : IsUnordered p clients core.outcomes fixed (gave_in core) orders t.number n
        unordered = own_attempt (λ o m name. IsUnordered p clients core.outcomes fixed (gave_in core) orders o m) r.unordered

    by_client : (j : ℕ) → j < 32 → WhyPosted script made turns core is closes (ids_at script core) (labelled_at script made there range turns core is closes) (would_at script made there range turns core is closes) bytes reads j x → Caused
    by_client j low (PostedByReader m high e) = absurd (omega (arith, low, high))
    by_client j low (PostedByExpiry inside e) = absurd (omega (arith, e, few))
    by_client j low (PostedByRefusal inside r) = by_refusal r
    by_client j low (PostedByDrop heading c ds inside did drop owned same e) = drop_cause script made there range turns core is closes bytes reads client t asked id code n it op own some_ (omega (arith, few))
        (drop_post script made there range turns core is closes bytes reads x j heading c ds did drop owned same e) (λ k end_. absurd (other end_))

    by_reader : In x (reader_posts_of_run script turns core is) → Caused
    by_reader at = let r = reader_post script made there range turns core is closes bytes reads client t asked it op x at (sym own) code n refl (omega (arith, few)) in
        ⊎_elim (λ end_. absurd (other end_.0)) (λ fault. OfFault fault.0 r.0 r.1 fault.1) r.2

    by_seat : (j : ℕ) → In x (shown_in_run script turns core is (posted_by j)) → Caused
    by_seat j at = dite (dec_le 32 j) (λ high. by_reader (reader_post_of script turns core is j high x at)) (λ low. by_client j (omega (arith, low)) (whys_of_seat script made there range turns core is closes bytes reads j x at))

  -- each error that the id of a call took for an attempt has its cause, but for that of the end of a reading
  pub caused_of_run : (client : ℕ) (t : Task) (asked : Asked) → IsTask (all_tasks script) core.outcomes client t → t.op ≡ ops.Call asked → (outcome : Outcome) → Became (all_tasks script) core.outcomes t.number outcome → (id code n : ℕ) → shown_id outcome ≡ Some id → n ≤ 6 → code ≢ 1014
      → Contains (posts_of_run script turns core is) (record { id = id; error = error_of code n }) → PostCause p clients core.outcomes fixed (gave_in core) orders client t.number asked id code n
  caused_of_run client t asked it op outcome became id code n shown few other posted =
      let own = own_id script made there range turns core is closes client t asked it op outcome became id shown in
      let x : Post = record { id = id; error = error_of code n } in
      let s = seat_of_post script turns core is x (contains_in (posts_of_run script turns core is) x posted) in
      by_seat client t asked it op id code n own (λ z. some_id script made there range turns core is closes client t asked it op outcome became id shown (own ∙ z)) few other s.0 s.1
