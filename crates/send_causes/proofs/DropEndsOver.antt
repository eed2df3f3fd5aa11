-- The reading of each link with a life ended; so each error that was posted for a dropped message has its cause, but for responses that came before the call began.
use Rattle.std.proofs.Common.{◌≡◌, ◌≢◌, ℕ, ◌+◌, ◌*◌, ◌<◌, ◌≤◌, ◌⊎◌, inl, inr, ⊎_elim, List, length, Ok, get_or, refl, sym, ap, ◌∙◌, subst, arith}
use Rattle.std.specs.Prelude.{Contains}
use Rattle.std.specs.List.{AllByRecursion}
use mathlib.Core.Option.{some}
use lib.ListN.{get_elem?}
use Rattle.seat_programs.specs.brpc_model.specs.Items.{Item}
use Rattle.seat_programs.specs.brpc_model.specs.Operations.{Turn}
use Rattle.seat_programs.specs.brpc_model.specs.Frame.{Frame}
use Rattle.seat_programs.specs.brpc_model.specs.Script.{script_of}
use Rattle.dropped_calls.specs.Below.script_facts.proofs.ReadScriptFacts.{InRange}
use Rattle.dropped_calls.specs.Below.script_facts.proofs.Targets.{AreThere}
use Rattle.sock_words.specs.PackedWords.{socket_id, socket_id_slot, socket_id_version, NO_SOCKET}
use Rattle.sock_model.specs.declared.view.View.{View}
use Rattle.sock_model.specs.SocketTableLayout.{open_index}
use Rattle.corr_core.specs.IdSlotWord.{error_of, code_of, attempt_of}
use Rattle.corr_core.proofs.NoteSums.{at_length}
use Rattle.sock_message.specs.Asked.{Asked}
use Rattle.seat_programs.specs.declared.task.Op.TheVariants as ops
use Rattle.seat_programs.specs.Explained.{IsTask}
use Rattle.seat_programs.specs.declared.task.Task.{Task}
use Rattle.seat_programs.specs.Cores.{Core, SeatState}
use Rattle.seat_programs.specs.Programs.{Rest}
use Rattle.seat_programs.specs.ReaderProgram.{reader}
use Rattle.seat_programs.specs.Tasks.{opens, calls, plan_of}
use Rattle.seat_programs.specs.ScriptSetupToEnding.{IsRunWithCalls}
use Rattle.seat_programs.specs.ExplainedCalls.{IsSent, Gave, IsResponse, IsPlaced, StandsOn}
use Rattle.dropped_calls.specs.Below.programs_allowed.specs.program_walks.proofs.WholeScriptSound.{IsListed, views_closed, views_ended, closed_sound, recorded_closed}
use Rattle.dropped_calls.specs.Below.outcome_stories.specs.StoryStepCauses.{WasGiven}
use Rattle.dropped_calls.specs.Below.outcome_causes.proofs.Final.{at_there}
use Rattle.dropped_calls.specs.Below.outcome_stories.proofs.Members.{contains_in}
use Rattle.dropped_calls.specs.Below.outcome_ticks.proofs.TableTasksDistinct.{one_task}
use Rattle.dropped_calls.specs.Below.joint_runs.proofs.RunsOfBothTables.{AreMade, first_views}
use Rattle.dropped_calls.specs.Below.call_owing.specs.LivesOfLinks.{ClosesInRun}
use Rattle.dropped_calls.specs.Below.call_stories.specs.LinkReadingLists.{gave_in, early_of_run, closed_of_run, silent_of_run}
use Rattle.dropped_calls.specs.Below.call_stories.specs.PostsOfRun.{Post}
use Rattle.dropped_calls.specs.accept_counts.specs.PostCauses.{PostCause, OfEnd}
use Rattle.send_causes.proofs.Assembled.{last_in_run}
use Rattle.dropped_calls.specs.accept_counts.proofs.Closers.{Calm, IsOver}
use Rattle.dropped_calls.proofs.DropCauses.{may_be_on, stands_on}
use Rattle.send_causes.proofs.DropEndsCauses.{own_link, cause_of_drop}
use Rattle.dropped_calls.proofs.DropOfRun.{IsOpened, DropOf, ends, end_sound, settled, given_opened}
use Rattle.dropped_calls.specs.accept_counts.proofs.EarlyClosedSockets.{Any, ends_anyhow, start, go, fitting, known}
use Rattle.dropped_calls.specs.ended_calls.proofs.EndedWhole.{h₃, h₄, closed_keeps, ended_so}
use Rattle.dropped_calls.specs.accept_counts.proofs.ReadingsAtTicks.{State}
use Rattle.dropped_calls.specs.accept_counts.proofs.ReaderRuns.{Keeps, keeps_along}
use Rattle.dropped_calls.specs.accept_counts.proofs.RunsKeepAttemptLaw.{AreLabelledIn}
use Rattle.dropped_calls.specs.sent_once.proofs.SocketOperationsTold.{orders_are}
use Rattle.send_causes.proofs.LawsOfLinkOrders.{laws}
use Rattle.seat_programs.specs.LoopRounds.{first_step}

module _ (script : List Item) (made : AreMade script) (turns : List Turn) (core : Core) (is : IsRunWithCalls script turns core) (closes : ClosesInRun script turns core is) (ids : ℕ → ℕ) (labelled : AreLabelledIn ids script turns core is) where
  abbrev views : List View
  views = views_ended script turns core is (first_views script)

  end_keeps : Keeps (plan_of script) (calls script) (opens script) (let k = known script made turns core is in k.in_script) Any (Unit {0}) ends_anyhow core (views_ended script turns core is (first_views script)) (h₄ script made turns core is)
  end_keeps = subst (λ c. Keeps (plan_of script) (calls script) (opens script) (let k = known script made turns core is in k.in_script) Any (Unit {0}) ends_anyhow c (views_ended script turns core is (first_views script)) (h₄ script made turns core is)) (sym is.is_end)
      (keeps_along (plan_of script) (calls script) (opens script) (let k = known script made turns core is in k.in_script) Any (Unit {0}) ends_anyhow (IsListed script) (go script made turns core is) is.final is.ended
      (views_closed script turns core is (first_views script)) (h₃ script made turns core is)
      (closed_sound script made.are (first_views script) (start script made turns core is) (go script made turns core is) turns core is (fitting script made turns core is)) is.answered_again (let f = fitting script made turns core is in f.of_final)
      (recorded_closed script made.are (first_views script) (start script made turns core is) (go script made turns core is) turns core is (fitting script made turns core is)) (λ e. tt) (closed_keeps script made turns core is))

  -- the life that a link was given is that of the link's own `open`
  pub opened_link : (j h k : ℕ) → WasGiven (ends script made turns core is closes ids labelled).events j h k → (o : IsOpened script made turns core is closes ids labelled j h) × (j < 4294967296) × (get_or core.words (open_index (plan_of script) o.operation) 0 ≢ NO_SOCKET) × (o.link ≡ k)
  opened_link j h k given_ = by (given_opened script made turns core is closes ids labelled j h k given_)
    where
      by : (o : IsOpened script made turns core is closes ids labelled j h) → (o : IsOpened script made turns core is closes ids labelled j h) × (j < 4294967296) × (get_or core.words (open_index (plan_of script) o.operation) 0 ≢ NO_SOCKET) × (o.link ≡ k)
      by o = (o, few, socket, same)
        where
          few : j < 4294967296
          few = let s = o.inside in let m = made.limits in let l = m.slots in omega (arith, s, l)

          socket : get_or core.words (open_index (plan_of script) o.operation) 0 ≢ NO_SOCKET
          socket e = let w : h * 4294967296 + j + 1 ≡ 18446744073709551615 = sym o.word ∙ e in let low = o.low in omega (arith, w, low, few)

          same : o.link ≡ k
          same = own_link script made turns core is closes ids labelled o.link o.operation (socket_id h j) j h k o.at o.word socket (let z : j ≡ socket_id_slot (h * 4294967296 + j) = omega (arith, few) in z) (let z : h ≡ socket_id_version (h * 4294967296 + j) = omega (arith, few) in z) given_

  -- the reading of a link that a life was given has ended
  pub reading_over : (j h k : ℕ) → WasGiven (ends script made turns core is closes ids labelled).events j h k → (k < (plan_of script).links) × IsOver (h₄ script made turns core is k)
  reading_over j h k given_ = let x = opened_link j h k given_ in by x.0 x.1 x.2 x.3
    where
      by : (o : IsOpened script made turns core is closes ids labelled j h) → j < 4294967296 → get_or core.words (open_index (plan_of script) o.operation) 0 ≢ NO_SOCKET → o.link ≡ k → (k < (plan_of script).links) × IsOver (h₄ script made turns core is k)
      by o few socket same = subst (λ n. (n < (plan_of script).links) × IsOver (h₄ script made turns core is n)) same (
        (let many = (let k = known script made turns core is in k.as_many) in omega (arith, place, many)),
        of_seat (at_there core.seats (32 + o.link) (let k = end_keeps in let many = k.many in omega (arith, place, many))),
      )
        where
          place : o.link < length (opens script)
          place = at_length (opens script) o.link o.operation o.at

          of_seat : (seat : SeatState) × (get_elem? core.seats (32 + o.link) ≡ some seat) → IsOver (h₄ script made turns core is o.link)
          of_seat (seat, at) = let v = at_there views (32 + o.link) (let k = end_keeps in let many = k.many in let e = (end_sound script made turns core is closes ids labelled).each in omega (arith, place, many, e)) in
              let k = end_keeps in of_state (k.readers o.link o.operation o.at seat v.0 at v.1)
            where
              rests : seat.program ≡ Rest
              rests = settled script made turns core is closes ids labelled (32 + o.link) seat at

              of_state : {v : View} → State (plan_of script) (calls script) o.link o.operation (let k = known script made turns core is in k.in_script o.link o.operation o.at) Any (Unit {0}) (ends_anyhow o.link) (get_or core.words (open_index (plan_of script) o.operation) 0) (h₄ script made turns core is o.link) seat.program v
                  → IsOver (h₄ script made turns core is o.link)
              of_state (none_, inl s) = absurd (let z : first_step (reader (calls script) o.link o.operation) ≡ Rest = sym (ap first_step s.0) ∙ ap first_step rests in cc)
              of_state (none_, inr (inl s)) = absurd (socket s.1)
              of_state (none_, inr (inr s)) = subst (Calm o.link s.id Any (Unit {0}) s.held (h₄ script made turns core is o.link)) rests s.calm

  -- which the lists of ends tell
  pub ended_of_link : (bytes : List ℕ) → script_of bytes ≡ Ok script → (j h k : ℕ) → WasGiven (ends script made turns core is closes ids labelled).events j h k
      → Contains (early_of_run script turns core is) k ⊎ (Contains (closed_of_run script turns core is) k ⊎ Contains (silent_of_run script turns core is) k)
  ended_of_link bytes reads j h k given_ = let o = reading_over j h k given_ in ⊎_elim (λ a. a.1) (λ b. absurd (let e = b.0 in omega (arith, e))) (ended_so script made turns core is bytes reads k o.0 1014 (inl (refl, o.1)))

  module _ (there : AreThere script) (range : AllByRecursion InRange script) (bytes : List ℕ) (reads : script_of bytes ≡ Ok script) where
    open laws script made there range bytes reads turns core is closes use {p, clients, fixed, orders}

    -- the dropped attempt isn't placed
    not_placed : (x : Post) (d : DropOf script made turns core is closes ids labelled x) → IsPlaced p clients core.outcomes fixed (gave_in core) orders d.task.number (attempt_of x.error) → ⊥
    not_placed x d (k, i, (low, a, at, op, attempt), placed) = let are = orders_are script made turns core is closes in let mine = d.dropped.at in
        let same = are.apart k d.link i d.dropped.place a mine.1 low mine.0 at mine.2 (let b = mine.3 in let e = mine.4 in omega (arith, op, attempt, b, e)) in
        let late = d.dropped.late in let here : i < (orders d.link).placed = subst (λ n. i < (orders n).placed) same.0 placed in let place = same.1 in omega (arith, late, here, place)

    module _ (sent : (k : ℕ) → k < p.links → AllByRecursion (IsSent p clients core.outcomes fixed (gave_in core) orders (last_in_run script made there range bytes reads turns core is closes) k) (orders k).accepted) where
      -- why an error was posted for a dropped message, where the link's responses of an id whose code is that of the ending came before the call began
      pub caused_for_drop : (x : Post) (d : DropOf script made turns core is closes ids labelled x)
          → (code_of x.error ≡ 1014 → (m : ℕ) (frame : Frame) → Gave p clients core.outcomes fixed (gave_in core) orders d.link m frame → IsResponse p clients core.outcomes fixed (gave_in core) orders d.asked x.id frame → Contains fixed.soon (d.link, m))
          → (c : ℕ) → PostCause p clients core.outcomes fixed (gave_in core) orders c d.task.number d.asked x.id (code_of x.error) (attempt_of x.error)
      caused_for_drop x d soon c = ⊎_elim (λ cause. cause) (λ code. OfEnd code d.link (record {
        on = may_be_on script made turns core is closes ids labelled fixed (gave_in core) (last_in_run script made there range bytes reads turns core is closes) sent x d;
        ended = ⊎_elim (λ e. absurd (omega (arith, e, code))) (λ f. ended_of_link bytes reads f.1 f.2 d.link f.5) d.found;
        lost = inr (inl (stands_on script made turns core is closes ids labelled fixed (gave_in core) (last_in_run script made there range bytes reads turns core is closes) sent x d));
        unanswered = λ m frame gave response. (not_placed x d, soon code m frame gave response);
      })) (cause_of_drop script made turns core is closes ids labelled there range bytes reads fixed (last_in_run script made there range bytes reads turns core is closes) sent x d c x.id)

      -- of the call whose id took the error, where no two calls have one id
      module _ (single : (o x : ℕ) → ids o ≢ 0 → ids o ≡ ids x → o ≡ x) where
        pub caused_for_call : (c : ℕ) (t : Task) (asked : Asked) (id code n : ℕ) → IsTask clients core.outcomes c t → t.op ≡ ops.Call asked → ids t.number ≡ id → id ≢ 0 → n ≤ 7
            → DropOf script made turns core is closes ids labelled (record { id = id; error = error_of code n })
            → ((k : ℕ) → code ≡ 1014 → (m : ℕ) (frame : Frame) → StandsOn p clients core.outcomes fixed (gave_in core) orders t.number n k → Gave p clients core.outcomes fixed (gave_in core) orders k m frame → IsResponse p clients core.outcomes fixed (gave_in core) orders asked id frame → Contains fixed.soon (k, m))
            → PostCause p clients core.outcomes fixed (gave_in core) orders c t.number asked id code n
        caused_for_call c t asked id code n it op own some_ small d soon = subst (λ z. PostCause p clients core.outcomes fixed (gave_in core) orders c t.number asked id z n) code_is (subst (λ z. PostCause p clients core.outcomes fixed (gave_in core) orders c t.number asked id (code_of (error_of code n)) z) attempt_is
            (subst (λ z. PostCause p clients core.outcomes fixed (gave_in core) orders c t.number z id (code_of (error_of code n)) (attempt_of (error_of code n))) same_asked
            (subst (λ z. PostCause p clients core.outcomes fixed (gave_in core) orders c z d.asked id (code_of (error_of code n)) (attempt_of (error_of code n))) number
            (caused_for_drop (record { id = id; error = error_of code n }) d (λ e m frame gave response. soon d.link (sym code_is ∙ e) m frame
            (subst (λ z. StandsOn p clients core.outcomes fixed (gave_in core) orders t.number z d.link) attempt_is (subst (λ z. StandsOn p clients core.outcomes fixed (gave_in core) orders z (attempt_of (error_of code n)) d.link) number (d.dropped.place, d.dropped.at)))
            gave (subst (λ z. IsResponse p clients core.outcomes fixed (gave_in core) orders z id frame) same_asked response)) c))))
          where
            code_is : code_of (error_of code n) ≡ code
            code_is = omega (arith, small)

            attempt_is : attempt_of (error_of code n) ≡ n
            attempt_is = omega (arith, small)

            number : d.task.number ≡ t.number
            number = single d.task.number t.number (λ z. some_ (sym d.own ∙ z)) (d.own ∙ sym own)

            same : d.task ≡ t
            same = (one_task p clients made.are d.client c d.task t (let i = d.is_task in (i.0, i.1, contains_in i.0 d.task i.2)) (it.0, it.1, contains_in it.0 t it.2) number).1

            same_asked : d.asked ≡ asked
            same_asked = let z : ops.Call d.asked ≡ ops.Call asked = sym d.op ∙ (ap (λ (y : Task). y.op) same ∙ op) in cc
