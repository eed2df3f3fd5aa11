-- Each id that is open as the ending begins, in a run in which nothing went wrong, is that of a call whose request the link of its attempt took, which has the server and whose reader waits for bytes.
use Rattle.std.proofs.Common.{◌≡◌, ◌≢◌, ℕ, ◌+◌, ◌<◌, ◌≤◌, ⊎_elim, List, ◌++◌, replicate, slice_get, Some, refl, sym, ap, ◌∙◌, subst, arith}
use Rattle.sock_words.specs.declared.plain.Plan.{Plan}
use Rattle.sock_words.specs.PackedWords.{at_word, at_word_first, at_word_slot, at_word_link, at_word_attempt, id_slot, id_first, call_id}
use Rattle.brpc_model.specs.Items.{attempts_of}
use Rattle.brpc_model.specs.Operations.{Operation, operations}
use Rattle.brpc_model.specs.LinePlaceFaults.{names}
use Rattle.brpc_model.specs.FrameStream.{stream}
use Rattle.corr_core.specs.IdSlotWord.{Parts}
use Rattle.corr_core.specs.declared.marks.Plan.{Plan as IdPlan}
use Rattle.corr_core.proofs.NoteSums.{at_length}
use Rattle.id_rule.specs.LawfulIdTable.{local}
use Rattle.id_runs.specs.HeldIdTokens.{id_state}
use Rattle.served_fits.specs.Below.script_facts.proofs.FilteredLists.{Has}
use Rattle.served_fits.specs.Below.script_facts.proofs.ScriptSizes.{is_counted}
use Rattle.served_fits.specs.Below.script_facts.proofs.Targets.{are_there}
use Rattle.served_fits.specs.Below.script_facts.proofs.TaskLemmas.{numbers_at, task_is, call_asks}
use Rattle.sock_message.specs.Asked.{Asked, request_of}
use Rattle.seat_programs.specs.Cores.{Core}
use Rattle.seat_programs.specs.ScriptSetupToEnding.{all_tasks, opened, set_up, played}
use Rattle.seat_programs.specs.Tasks.{opens, numbered, plan_of, id_plan_of}
use Rattle.seat_programs.specs.Ticks.{quiet}
use Rattle.seat_programs.specs.Explained.{IsTask}
use Rattle.seat_programs.specs.ExplainedCalls.{Fixed}
use Rattle.served_fits.specs.Below.programs_allowed.specs.program_walks.proofs.WholeScriptSound.{closing_of, views_played}
use Rattle.served_fits.specs.Below.outcome_stories.proofs.Members.{in_contains}
use Rattle.served_fits.specs.Below.joint_runs.proofs.RunsOfBothTables.{first_views}
use Rattle.served_fits.specs.Below.call_owing.specs.SoundOwing.{id_word_of, at_of, IsOpen}
use Rattle.served_fits.specs.Below.owed_calls.proofs.OwedCallsAreEnded.{run_all_rest}
use Rattle.served_fits.specs.Below.run_theorems.proofs.RunLengths.{ended_length}
use Rattle.served_fits.specs.Below.run_theorems.proofs.ScriptStartsSoundly.{made}
use Rattle.served_fits.specs.Below.call_stories.specs.LinkReadingLists.{gave_in, times, advanced_at, attempts_of_run}
use Rattle.served_fits.specs.Below.call_causes.proofs.Posted.{run_few_attempts}
use Rattle.served_fits.specs.Below.call_causes.proofs.RunOfCallStory.{times_append}
use Rattle.served_fits.specs.send_causes.proofs.Assembled.{fixed_in_run}
use Rattle.served_fits.specs.Below.attempted_calls.proofs.AttemptedRuns.{Counted, played_counted}
use Rattle.served_fits.specs.Below.attempted_calls.proofs.AttemptedStored.{ids_at, stored_run}
use Rattle.served_fits.specs.send_causes.proofs.ClosedLostTicks.{word_link, word_attempt}
use Rattle.served_fits.specs.Below.accept_counts.proofs.EarlyClosedSockets.{start, go, fitting, known}
use Rattle.served_fits.specs.send_causes.proofs.OwnIds.{labelled_at, single_at}
use Rattle.served_fits.specs.Below.accept_counts.proofs.RunsKeepAttemptLaw.{AreLabelledIn, IsCallOf}
use Rattle.served_fits.specs.Below.sent_once.proofs.SocketOperationsTold.{narrow, opening_bare}
use Rattle.served_fits.specs.served_calls.specs.QuietRuns.{HasServer}
use Rattle.calls_over.specs.Open.{OpenCall}
use Rattle.calls_over.proofs.OpensEntered.{early_log, IsAccepted, AllTaken, own_early, accepted_so, accepted_or}
use Rattle.calls_over.proofs.OpensFull.{IsIn, taken_has}
use Rattle.calls_over.proofs.OpensNamed.{IsEarly, stored_early}
use Rattle.calls_over.proofs.OpensOwed.{IsRead, open_read}
use Rattle.calls_over.proofs.OpensGiven.{CalmRun, are_made, targets, range}
use Rattle.calls_over.proofs.OpensQuiet.{has_server, unfailed, none_thrown}
use Rattle.calls_over.proofs.OpensRequest.{own_told, IsAttempt, attempt_of, taken, taken_so, request_there}
use Rattle.served_fits.specs.Below.accept_counts.proofs.SeatsStandingAtEnding.{both, unlocked}
use Rattle.id_runs.proofs.AsideStepsKeepRule.{live_room}
use Rattle.served_fits.specs.Below.owned_ids.proofs.OpensStored.{place_at}
use Rattle.served_fits.specs.Below.outcome_stories.specs.Facts.{shown_in}

-- ## At words

word_first : (f s k n : ℕ) → s < 65536 → k < 65535 → n ≤ 6 → f ≡ at_word_first (at_word f s k n)
word_first f s k n slot link few = omega (arith, slot, link, few)

word_slot : (f s k n : ℕ) → s < 65536 → k < 65535 → n ≤ 6 → s ≡ at_word_slot (at_word f s k n)
word_slot f s k n slot link few = omega (arith, slot, link, few)

word_some : (f s k n w : ℕ) → w ≡ at_word f s k n → w ≢ 0
word_some f s k n w is z = omega (arith, is, z)

id_parts : (a b : ℕ) → id_slot a ≡ id_slot b → id_first a ≡ id_first b → a ≡ b
id_parts a b slot first = omega (arith, slot, first)

slot_back : (i f : ℕ) → f ≤ 67108856 → id_slot (call_id i f) ≡ i
slot_back i f low = omega (arith, low)

first_back : (i f : ℕ) → f ≤ 67108856 → id_first (call_id i f) ≡ f
first_back i f low = omega (arith, low)

module _ (calm : CalmRun) where
  open calm use {bytes, script, reads, turns, core, is, closes, took, untroubled}

  abbrev q : IdPlan
  q = id_plan_of script

  abbrev rested : Core
  rested = played script is.setup (is.scheduled ++ is.later)

  abbrev ids : ℕ → ℕ
  ids = ids_at script core

  labelled : AreLabelledIn (ids_at script core) script turns core is
  labelled = labelled_at script (are_made calm) (targets calm) (range calm) turns core is closes

  abbrev own_fixed : Fixed
  own_fixed = fixed_in_run script (made bytes script reads) (are_there bytes script reads) (is_counted bytes script reads).in_range bytes reads turns core is closes

  -- ## Attempts

  -- a call comes to no attempt that its range lacks
  within : (i : ℕ) → i < (id_plan_of script).slots → 0 < (id_word_of rested i).state → (o : ℕ) → ids_at script core o ≢ 0 → ids_at script core o ≡ call_id i (id_word_of rested i).first → (id_word_of rested i).attempt ≤ attempts_of_run script turns core is o
  within i low live o some_ same = ⊎_elim (λ z. omega (arith, z))
      (λ x. let one : o ≡ x.0 = single_at script (are_made calm) (targets calm) (range calm) turns core is closes o x.0 some_ (same ∙ sym x.1) in
      let few : (id_word_of rested i).attempt ≤ since_clients o = subst (λ y. (id_word_of rested i).attempt ≤ since_clients y) (sym one) x.2 in let more = all_parts in omega (arith, few, more))
      (counted.words i low live)
    where
      since_clients : ℕ → ℕ
      since_clients y = times y (shown_in advanced_at (plan_of script) (opened script) (replicate is.setup (quiet 0))) + times y (shown_in advanced_at (plan_of script) (set_up script is.setup) (is.scheduled ++ is.later))

      counted : Counted (plan_of script) (id_plan_of script) (narrow script (are_made calm) turns core is closes) (IsCallOf script) (ids_at script core) (single_at script (are_made calm) (targets calm) (range calm) turns core is closes) since_clients rested (views_played script turns core is (first_views script))
      counted = played_counted script (are_made calm).are (first_views script) (start script (are_made calm) turns core is) (go script (are_made calm) turns core is) turns core is (fitting script (are_made calm) turns core is) (narrow script (are_made calm) turns core is closes)
          (opening_bare script)
          (ids_at script core) (single_at script (are_made calm) (targets calm) (range calm) turns core is closes) labelled (stored_run script (are_made calm) (targets calm) (range calm) turns core is (run_all_rest script (are_made calm) turns core is closes)).1

      all_parts : since_clients o ≤ attempts_of_run script turns core is o
      all_parts = let p : Plan = plan_of script in
          let one : List ℕ = shown_in advanced_at (plan_of script) (opened script) (replicate is.setup (quiet 0)) in let two : List ℕ = shown_in advanced_at (plan_of script) (set_up script is.setup) (is.scheduled ++ is.later) in
          let three : List ℕ = shown_in advanced_at (plan_of script) (closing_of script turns core is) (replicate is.last (quiet 0)) in let four : List ℕ = shown_in advanced_at (plan_of script) is.ended is.final in
          let a = times_append o one (two ++ (three ++ four)) in let b = times_append o two (three ++ four) in omega (arith, a, b)

  -- ## An id that is open

  module _ (i : ℕ) (inside : i < (id_plan_of script).slots) (some_ : (id_word_of (played script is.setup (is.scheduled ++ is.later)) i).state ≢ 0) where
    abbrev word : Parts
    word = id_word_of (played script is.setup (is.scheduled ++ is.later)) i

    is_open : word.state ≡ 1
    is_open = ⊎_elim (λ z. absurd (some_ z)) (λ e. e) (unlocked script (are_made calm) turns core is i inside)

    live : 0 < word.state
    live = let e = is_open in omega (arith, e)

    first_low : word.first ≤ 67108856
    first_low = let b = both script (are_made calm) turns core is in (b.ids.rule.slots i inside).first_low

    room : word.attempt + 2 ≤ word.range
    room = let b = both script (are_made calm) turns core is in live_room (local (id_state rested.calls b.id_views) i) (b.ids.rule.slots i inside) live

    few : word.attempt ≤ 6
    few = let r = room in let eight : word.range ≤ 8 = omega arith in omega (arith, r, eight)

    abbrev id : ℕ
    id = call_id i (id_word_of (played script is.setup (is.scheduled ++ is.later)) i).first

    slot_is : id_slot id ≡ i
    slot_is = slot_back i word.first first_low

    first_is : id_first id ≡ word.first
    first_is = first_back i word.first first_low

    stands_open : IsOpen rested id word.attempt
    stands_open = subst (λ j. ((id_word_of rested j).first ≡ id_first id) × ((id_word_of rested j).state ≡ 1) × ((id_word_of rested j).attempt ≡ word.attempt)) (sym slot_is) (sym first_is, is_open, refl)

    is_read : IsRead script (are_made calm) turns core is closes (targets calm) (range calm) (none_thrown calm) id word.attempt
    is_read = open_read script (are_made calm) turns core is closes (targets calm) (range calm) (none_thrown calm) id word.attempt (subst (λ j. j < (id_plan_of script).slots) (sym slot_is) inside) stands_open

    abbrev o : ℕ
    o = is_read.operation

    abbrev w : ℕ
    w = at_of (id_plan_of script) rested is_read.operation

    link_low : is_read.link < (plan_of script).links
    link_low = let l = at_length (opens script) is_read.link is_read.opening_ is_read.opens_it in let many = (let x = known script (are_made calm) turns core is in x.as_many) in omega (arith, l, many)

    link_small : is_read.link < 65535
    link_small = let l = link_low in let b = both script (are_made calm) turns core is in let lim = b.sockets.limits in let few_links = lim.links in omega (arith, l, few_links)

    early : IsEarly script turns core is o w
    early = stored_early script (are_made calm) turns core is closes ids labelled o is_read.low (word_some (id_first id) (id_slot id) is_read.link word.attempt w is_read.word)

    slot_small : id_slot id < 65536
    slot_small = let s = slot_is in let n = narrow script (are_made calm) turns core is closes in omega (arith, s, inside, n)

    same_link : early.link ≡ is_read.link
    same_link = word_link (id_first early.id) (id_slot early.id) early.link early.attempt early.small early.few ∙ (ap at_word_link (sym early.word ∙ is_read.word) ∙ sym (word_link (id_first id) (id_slot id) is_read.link word.attempt link_small few))

    same_attempt : early.attempt ≡ word.attempt
    same_attempt = word_attempt (id_first early.id) (id_slot early.id) early.link early.attempt early.small early.few ∙ (ap at_word_attempt (sym early.word ∙ is_read.word) ∙ sym (word_attempt (id_first id) (id_slot id) is_read.link word.attempt link_small few))

    same_id : early.id ≡ id
    same_id = id_parts early.id id
        (word_slot (id_first early.id) (id_slot early.id) early.link early.attempt early.slot early.small early.few ∙ (ap at_word_slot (sym early.word ∙ is_read.word) ∙ sym (word_slot (id_first id) (id_slot id) is_read.link word.attempt slot_small link_small few)))
        (word_first (id_first early.id) (id_slot early.id) early.link early.attempt early.slot early.small early.few ∙ (ap at_word_first (sym early.word ∙ is_read.word) ∙ sym (word_first (id_first id) (id_slot id) is_read.link word.attempt slot_small link_small few)))

    own : ids_at script core o ≡ id
    own = (own_early script (are_made calm) turns core is closes ids labelled o w early).0 ∙ same_id

    own_some : ids_at script core o ≢ 0
    own_some z = (own_early script (are_made calm) turns core is closes ids labelled o w early).1 (sym (own_early script (are_made calm) turns core is closes ids labelled o w early).0 ∙ z)

    -- ## Its call

    abbrev call_of : IsCallOf script early.asked
    call_of = early.called

    its_task : IsTask (all_tasks script) core.outcomes early.called.0 early.called.2
    its_task = (early.called.1, place_at (all_tasks script) early.called.0 early.called.1 early.called.3, in_contains early.called.1 early.called.2 early.called.4)

    number : early.called.2.number ≡ o
    number = sym early.called.6 ∙ early.operation

    its_place : (x : Operation) × (slice_get (operations script) o ≡ Some x) × (early.attempt < attempts_of x.item)
    its_place = let u = task_is script core.outcomes early.called.0 early.called.2 its_task in
        let c = call_asks (numbered script) (names script) (numbers_at script early.called.2.number u.operation) u.operation.item early.asked (u.asks ∙ ap (λ x. Some x) early.called.5) in
        let tries = run_few_attempts script (are_made calm) (targets calm) (range calm) turns core is early.called.0 early.called.2 early.asked its_task early.called.5 in
        let most : word.attempt ≤ attempts_of_run script turns core is o = within i inside live o own_some own in
        let same = ap (attempts_of_run script turns core is) number in let has = ap (λ (a : Asked). a.range) c.2 in let counts = ap attempts_of c.1 in let n = same_attempt in
        (u.operation, subst (λ y. slice_get (operations script) y ≡ Some u.operation) number u.there, omega (arith, tries, most, same, has, counts, n))

    accepted : IsAccepted script (are_made calm) turns core is closes ids labelled o w early
    accepted = ⊎_elim (λ a. a) by_full (accepted_or script (are_made calm) turns core is closes ids labelled o w early own_fixed (gave_in core) (unfailed calm early.link))
      where
        by_full : AllTaken script (are_made calm) turns core is closes ids labelled o w early → IsAccepted script (are_made calm) turns core is closes ids labelled o w early
        by_full full = let t : IsIn o early.attempt (early_log script (are_made calm) turns core is) =
            taken_has bytes script reads (are_made calm) turns core is closes own_fixed (gave_in core) (own_told calm) (ended_length bytes script reads turns core is)
            untroubled.few_attempts full o early.attempt its_place.0 its_place.1 its_place.2 in
            accepted_so script (are_made calm) turns core is closes ids labelled o w early own_fixed (gave_in core) t.0 t.1 t.2 t.3 t.4

    over : accepted.entry.link ≡ is_read.link
    over = accepted.over ∙ same_link

    its_attempt : IsAttempt calm accepted.entry
    its_attempt = attempt_of calm accepted.place accepted.entry accepted.there

    asked_id : its_attempt.id ≡ id
    asked_id = sym its_attempt.own ∙ (ap (ids_at script core) accepted.own ∙ own)

    server : HasServer script turns core is is_read.link
    server = has_server calm is_read.link link_low

    pub open_call : OpenCall script turns core is i
    open_call = record {
      inside = inside;
      open_ = is_open;
      versions = room;
      small = let l = first_low in omega (arith, l);
      asked = its_attempt.asked;
      link = is_read.link;
      opening = is_read.opening_;
      shape = server.0;
      opens_it = is_read.opens_it;
      link_inside = link_low;
      opened = server.1;
      serves = server.2;
      took = taken calm accepted.place accepted.entry accepted.there is_read.link over;
      took_so = taken_so calm accepted.place accepted.entry accepted.there is_read.link over;
      request = subst (λ n. Has (stream (taken calm accepted.place accepted.entry accepted.there is_read.link over)).frames (request_of its_attempt.asked id n)) (accepted.tried ∙ same_attempt)
          (subst (λ y. Has (stream (taken calm accepted.place accepted.entry accepted.there is_read.link over)).frames (request_of its_attempt.asked y accepted.entry.heading.label.attempt)) asked_id
          (request_there calm accepted.place accepted.entry accepted.there is_read.link over its_attempt));
      seat = is_read.seat;
      seat_there = is_read.seat_there;
      reading = is_read.reads;
      next = is_read.next;
      reads = is_read.program;
      of_link = is_read.of_link;
    }
