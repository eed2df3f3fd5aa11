-- An error with the code of the end of a reading that a client posted for a dropped message was posted behind the end of the reading of the message's link.
use Rattle.std.proofs.Common.{◌≡◌, ◌≢◌, ℕ, ◌+◌, ◌*◌, ◌<◌, ◌⊎◌, ◌==◌, if◌then◌else◌, inl, inr, ⊎_elim, ne_eqb, eq-eqb, List, get_or, sym, ap, ◌∙◌, subst, arith}
use Rattle.std.specs.Prelude.{Some, slice_get}
use Rattle.std.specs.List.{AllByRecursion}
use mathlib.Core.Logic.{dite}
use mathlib.Core.Option.{some, some-injective}
use native.Mathlib.Decide.{ℕ_discrete}
use lib.ListN.{get_elem?}
use Rattle.seat_programs.specs.brpc_model.specs.Items.{Item}
use Rattle.seat_programs.specs.brpc_model.specs.Operations.{Turn}
use Rattle.dropped_calls.specs.Below.script_facts.proofs.ReadScriptFacts.{InRange}
use Rattle.dropped_calls.specs.Below.script_facts.proofs.Targets.{AreThere}
use Rattle.sock_words.specs.PackedWords.{socket_id, socket_id_slot, socket_id_version}
use Rattle.sock_model.specs.declared.chain.Heading.{Heading}
use Rattle.sock_model.specs.SocketTableLayout.{open_index}
use Rattle.corr_core.specs.IdSlotWord.{error_of, code_of, attempt_of}
use Rattle.seat_programs.specs.declared.task.Op.TheVariants as ops
use Rattle.seat_programs.specs.declared.task.Task.{Task}
use Rattle.seat_programs.specs.TableSteps.{OnPlace, DropPlace}
use Rattle.seat_programs.specs.Cores.{Core}
use Rattle.seat_programs.specs.Tasks.{opens, plan_of, id_plan_of}
use Rattle.seat_programs.specs.ScriptSetupToEnding.{all_tasks, IsRunWithCalls}
use Rattle.seat_programs.specs.Writings.{Holder, Puts}
use Rattle.dropped_calls.specs.Below.outcome_stories.specs.StoryStepCauses.{WasGiven}
use Rattle.dropped_calls.specs.Below.outcome_stories.specs.PlainTasks.{told_tasks_of}
use Rattle.dropped_calls.specs.Below.outcome_stories.specs.OperationStories.{In}
use Rattle.dropped_calls.specs.Below.outcome_stories.proofs.Members.{all_in, in_contains}
use Rattle.dropped_calls.specs.Below.joint_runs.proofs.RunsOfBothTables.{AreMade}
use Rattle.dropped_calls.specs.Below.call_owing.specs.LivesOfLinks.{ClosesInRun}
use Rattle.dropped_calls.specs.Below.call_stories.specs.Decided.{posted_by}
use Rattle.dropped_calls.specs.Below.call_stories.specs.LinkReadingLists.{gave_in}
use Rattle.dropped_calls.specs.Below.call_stories.specs.PostsOfRun.{Post}
use Rattle.dropped_calls.specs.Below.call_causes.proofs.HandledWhole.{PostedLate}
use Rattle.dropped_calls.specs.accept_counts.specs.RefusedOrDropped.{Deed, DidStep, DidRound, DidInRun, DidEarly, DidLate, RunWouldOwn}
use Rattle.dropped_calls.specs.attempted_calls.proofs.AttemptedStored.{ids_at}
use Rattle.dropped_calls.specs.sent_once.proofs.OtherTasksBesideCalls.{fixed_of_run}
use Rattle.dropped_calls.proofs.DropCauses.{fail_range}
use Rattle.send_causes.proofs.DropEndsCauses.{own_link}
use Rattle.send_causes.proofs.DropEndsOver.{opened_link}
use Rattle.dropped_calls.proofs.DropOfRun.{ends, DropOf, IsDroppedOn, story_given, dropped_of_run}
use Rattle.dropped_calls.specs.sent_once.proofs.DropRuns.{IsCalls}
use Rattle.dropped_calls.proofs.LateDropsEnding.{IsNew, IsOfNew, drops_of_new}
use Rattle.dropped_calls.proofs.LateDropsPosts.{DropPost}
use Rattle.dropped_calls.proofs.LateDropsWhole.{IsNoEnd, AnyLife, LifeOf, PostOf, BehindClients, BehindEnding, posts_late}
use Rattle.send_causes.proofs.OwnIds.{labelled_at, would_at, single_at}
use Rattle.dropped_calls.specs.accept_counts.proofs.RunsKeepAttemptLaw.{AreLabelledIn, IsCallOf}
use Rattle.dropped_calls.specs.sent_once.proofs.SocketOperationsTold.{orders_are}
use Rattle.dropped_calls.specs.Below.owned_ids.proofs.OpensStored.{place_at}
use Rattle.dropped_calls.specs.Below.outcome_stories.specs.Facts.{shown_in_run}

module _ (script : List Item) (made : AreMade script) (there : AreThere script) (range : AllByRecursion InRange script) (turns : List Turn) (core : Core) (is : IsRunWithCalls script turns core) (closes : ClosesInRun script turns core is)
    (ids : ℕ → ℕ) (labelled : AreLabelledIn ids script turns core is) (would : RunWouldOwn ids script turns core is) where
  abbrev Given : ℕ → ℕ → ℕ → Type 0
  Given j h k = WasGiven (ends script made turns core is closes ids labelled).events j h k

  -- no `fail` of the script has that code
  fits : (j : ℕ) (ts : List Task) → slice_get (all_tasks script) j ≡ Some ts → (t : Task) → In t ts → (name code : ℕ) → t.op ≡ ops.Fail name code → IsNoEnd code
  fits j ts at t m name code op e = let x = fail_range script made turns core is closes ids labelled (fixed_of_run script made turns core is closes) (gave_in core) there range j t name code (ts, at, in_contains ts t m) op in let high = x.0 in omega (arith, e, high)

  -- ## Lives of a link

  -- a life of the link, by the word of the link's `open`
  record OpenedBy (j h k : ℕ) : Type 0 where
    operation : ℕ
    at : get_elem? (opens script) k ≡ some operation
    word : get_or core.words (open_index (plan_of script) operation) 0 ≡ socket_id h j + 1
    few : j < 4294967296

  opened_by : (j h k : ℕ) → Given j h k → OpenedBy j h k
  opened_by j h k given_ = let x = opened_link script made turns core is closes ids labelled j h k given_ in let o = x.0 in
      record { operation = o.operation; at = subst (λ n. get_elem? (opens script) n ≡ some o.operation) x.3 o.at; word = o.word; few = x.1 }

  -- a link has one life
  one_life : (j h i g k : ℕ) → Given j h k → Given i g k → (j ≡ i) × (h ≡ g)
  one_life j h i g k a b = by (opened_by j h k a) (opened_by i g k b)
    where
      by : OpenedBy j h k → OpenedBy i g k → (j ≡ i) × (h ≡ g)
      by x y = let o : x.operation ≡ y.operation = some-injective x.operation y.operation (sym x.at ∙ y.at) in
          let w : h * 4294967296 + j + 1 ≡ g * 4294967296 + i + 1 = sym x.word ∙ (ap (λ n. get_or core.words (open_index (plan_of script) n) 0) o ∙ y.word) in let f = x.few in let f' = y.few in (omega (arith, w, f, f'), omega (arith, w, f, f'))

  -- ## A post

  module _ (single : (o x : ℕ) → ids o ≢ 0 → ids o ≡ ids x → o ≡ x) (j : ℕ) (low : j < 32) (x : Post) (code : code_of x.error ≡ 1014) (d : DropOf script made turns core is closes ids labelled x) where
    abbrev Result : Type 0
    Result = (o : ℕ) × (at : get_elem? (opens script) d.link ≡ some o) × PostedLate script made there range turns core is d.link o at x

    module _ (Done : Deed → Type 0) (in_run : (deed : Deed) → Done deed → DidInRun script turns core is j deed) (post : DropPost Done x) where
      abbrev holder : Holder
      holder = (let y = post.drop in y.holder)

      abbrev heading : Heading
      heading = post.heading

      did : (deed : Deed) → In deed post.deeds → Done deed
      did deed m = all_in Done post.deeds deed post.did m

      round : Given (socket_id_slot holder.id) (socket_id_version holder.id) holder.link × (heading.owner ≢ 0 → IsCalls (plan_of script) (id_plan_of script) (IsCallOf script) ids (told_tasks_of script) heading)
      round = let y = post.drop in let e = ends script made turns core is closes ids labelled in
          e.tells j (DidRound (Puts y.holder y.now heading y.left y.taken y.asked)) (in_run (DidRound (Puts y.holder y.now heading y.left y.taken y.asked)) (did (DidRound (Puts y.holder y.now heading y.left y.taken y.asked)) y.round))

      calls : IsCalls (plan_of script) (id_plan_of script) (IsCallOf script) ids (told_tasks_of script) heading
      calls = round.1 post.owned

      call : IsCallOf script calls.asked
      call = calls.called

      number : call.2.number ≡ heading.label.operation
      number = sym call.6 ∙ calls.own

      attempt : attempt_of x.error ≡ heading.label.attempt
      attempt = ap attempt_of post.error ∙ (let f = calls.few in let c = post.code in let z : attempt_of (error_of (if c == 0 then 1009 else c) heading.label.attempt) ≡ heading.label.attempt = omega (arith, f) in z)

      -- the code that it found
      found : post.code ≡ 1014
      found = dite (ℕ_discrete post.code 0)
          (λ z. absurd (let y : 1014 ≡ 1009 = code_is ∙ ap (λ b. if b then 1009 else post.code) (eq-eqb post.code 0 z) in omega (arith, y)))
          (λ n. sym (code_is ∙ ap (λ b. if b then 1009 else post.code) (ne_eqb post.code 0 n)))
        where
          code_is : 1014 ≡ (if post.code == 0 then 1009 else post.code)
          code_is = sym code ∙ (ap code_of post.error ∙ (let f = calls.few in let c = post.code in let z : code_of (error_of (if c == 0 then 1009 else c) heading.label.attempt) ≡ (if c == 0 then 1009 else c) = omega (arith, f) in z))

      -- the message stands dropped on the holder's link
      dropped : IsDroppedOn script made turns core is closes ids labelled call.2.number heading.label.attempt holder.link
      dropped = let y = post.drop in dropped_of_run script made turns core is closes ids labelled j call.0 call.2 calls.asked heading.label.attempt holder.link holder.places y.found (call.1, place_at (all_tasks script) call.0 call.1 call.3, in_contains call.1 call.2 call.4) call.5 calls.few
          (subst (λ l. DidInRun script turns core is j (DidStep (OnPlace (DropPlace l holder.link holder.places)) y.found)) (calls.place ∙ ap (λ o. 8 * o + heading.label.attempt) (sym number))
          (in_run (DidStep (OnPlace (DropPlace heading.label.place holder.link holder.places)) y.found) (did (DidStep (OnPlace (DropPlace heading.label.place holder.link holder.places)) y.found) y.drop)))

      -- and that is the link of each drop of the post
      same_link : holder.link ≡ d.link
      same_link = by dropped d.dropped
        where
          same : call.2.number ≡ d.task.number
          same = single call.2.number d.task.number (λ z. post.owned (sym (ap ids number ∙ calls.owner) ∙ z)) (ap ids number ∙ (calls.owner ∙ (post.owner ∙ sym d.own)))

          by : IsDroppedOn script made turns core is closes ids labelled call.2.number heading.label.attempt holder.link → IsDroppedOn script made turns core is closes ids labelled d.task.number (attempt_of x.error) d.link → holder.link ≡ d.link
          by a b = let are = orders_are script made turns core is closes in let p = a.at in let q = b.at in (are.apart holder.link d.link a.place b.place p.1 q.1 p.0 q.0 p.2 q.2
              (let op = p.3 in let op' = q.3 in let n = p.4 in let n' = q.4 in omega (arith, op, op', n, n', same, attempt))).0

      -- so it is that of the life whose code was found
      life_link : (New : ℕ → ℕ → Type 0) (l : LifeOf script made turns core is closes ids labelled would fits New (socket_id_slot holder.id) (socket_id_version holder.id)) → l.link ≡ d.link
      life_link New l = own_link script made turns core is closes ids labelled l.link l.operation l.id (socket_id_slot holder.id) (socket_id_version holder.id) holder.link l.at l.word l.socket l.slot l.version round.0 ∙ same_link

      by_life : (New : ℕ → ℕ → Type 0) (InTime : ℕ → Type 0) → ((o : ℕ) (at : get_elem? (opens script) d.link ≡ some o) → InTime d.link → PostedLate script made there range turns core is d.link o at x)
          → IsNoEnd post.code ⊎ ((l : LifeOf script made turns core is closes ids labelled would fits New (socket_id_slot holder.id) (socket_id_version holder.id)) × InTime l.link) → Result
      by_life New InTime late (inl no_) = absurd (no_ found)
      by_life New InTime late (inr (l, time)) = let same = life_link New l in let at = subst (λ n. get_elem? (opens script) n ≡ some l.operation) same l.at in (l.operation, at, late l.operation at (subst InTime same time))

      some_code : post.code ≢ 0
      some_code z = let e = found in omega (arith, z, e)

    early : PostOf script made turns core is closes ids labelled would fits AnyLife (DidEarly script turns core is j) (BehindClients script made turns core is closes ids labelled would fits x) x → Result
    early y = by_life (DidEarly script turns core is j) (λ deed e. inl e) y.post AnyLife (BehindClients script made turns core is closes ids labelled would fits x) (λ o at time. inl time)
        (y.whose (some_code (DidEarly script turns core is j) (λ deed e. inl e) y.post) tt)

    late : PostOf script made turns core is closes ids labelled would fits (IsNew script made turns core is) (DidLate script turns core is j) (BehindEnding script made turns core is closes ids labelled would fits x) x → Result
    late y = by_life (DidLate script turns core is j) (λ deed e. inr (inr e)) y.post (IsNew script made turns core is) (BehindEnding script made turns core is closes ids labelled would fits x) (λ o at time. inr (inl time))
        (y.whose (some_code (DidLate script turns core is j) (λ deed e. inr (inr e)) y.post) (by (drops_of_new script made turns core is j y.post.heading.label.place y.post.drop.holder.link y.post.drop.holder.places y.post.drop.found
        (did (DidLate script turns core is j) (λ deed e. inr (inr e)) y.post (DidStep (OnPlace (DropPlace y.post.heading.label.place y.post.drop.holder.link y.post.drop.holder.places)) y.post.drop.found) y.post.drop.drop))))
      where
        -- the life was made behind the ending, as the link's one life was
        by : IsOfNew script made turns core is y.post.drop.holder.link → IsNew script made turns core is (socket_id_slot y.post.drop.holder.id) (socket_id_version y.post.drop.holder.id)
        by n = let same = one_life n.0 n.1 (socket_id_slot y.post.drop.holder.id) (socket_id_version y.post.drop.holder.id) y.post.drop.holder.link (story_given script made turns core is closes ids labelled n.0 n.1 y.post.drop.holder.link n.2 n.3)
            (round (DidLate script turns core is j) (λ deed e. inr (inr e)) y.post).0 in
            subst (λ i. IsNew script made turns core is i (socket_id_version y.post.drop.holder.id)) same.0 (subst (IsNew script made turns core is n.0) same.1 n.4)

  -- where no two calls have one id, each error that a client posted so for a dropped message was posted behind the end of the reading of the message's link
  pub late_drop : ((o x : ℕ) → ids o ≢ 0 → ids o ≡ ids x → o ≡ x) → (j : ℕ) → j < 32 → (x : Post) → In x (shown_in_run script turns core is (posted_by j)) → code_of x.error ≡ 1014 → (d : DropOf script made turns core is closes ids labelled x)
      → (o : ℕ) × (at : get_elem? (opens script) d.link ≡ some o) × PostedLate script made there range turns core is d.link o at x
  late_drop single j low x at code d = ⊎_elim (early single j low x code d) (late single j low x code d) (posts_late script made turns core is closes ids labelled would fits j low x at code)

-- by the ids that the calls' words tell
module _ (script : List Item) (made : AreMade script) (there : AreThere script) (range : AllByRecursion InRange script) (turns : List Turn) (core : Core) (is : IsRunWithCalls script turns core) (closes : ClosesInRun script turns core is) where
  pub late_drop_at : (j : ℕ) → j < 32 → (x : Post) → In x (shown_in_run script turns core is (posted_by j)) → code_of x.error ≡ 1014 → (d : DropOf script made turns core is closes (ids_at script core) (labelled_at script made there range turns core is closes) x)
      → (o : ℕ) × (at : get_elem? (opens script) d.link ≡ some o) × PostedLate script made there range turns core is d.link o at x
  late_drop_at = late_drop script made there range turns core is closes (ids_at script core) (labelled_at script made there range turns core is closes) (would_at script made there range turns core is closes) (single_at script made there range turns core is closes)
