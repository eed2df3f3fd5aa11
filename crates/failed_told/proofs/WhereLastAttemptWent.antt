-- Where the last attempt of a call went that no client ended, by the deed of its client.
use Rattle.std.proofs.Common.{◌≡◌, ℕ, ◌+◌, ◌*◌, ◌<◌, ◌≤◌, inl, inr, List, [], ◌∷◌, map, Some, None, refl, sym, ap, ◌∙◌, subst, arith}
use Rattle.std.specs.Prelude.{Option}
use Rattle.std.proofs.lemmas.Option.{none-some, same_Some}
use mathlib.Core.Option.{some}
use lib.ListN.{get_elem?}
use Rattle.sock_io.specs.declared.link.Out.{Ghosts}
use Rattle.sock_io.specs.LinkHalves.{OutState}
use Rattle.sock_words.specs.ErrorCodes.{EFAILEDSOCKET}
use Rattle.sock_words.specs.declared.outcome.Outcome.{Outcome}
use Rattle.sock_words.specs.declared.outcome.Outcome.TheVariants.{CallFailed}
use Rattle.sock_words.specs.declared.plain.Plan.{Plan}
use Rattle.sock_words.specs.declared.place_word.PlaceWord.{PlaceWord}
use Rattle.sock_words.specs.declared.socket_id.SocketId.{SocketId}
use Rattle.sock_words.specs.declared.vref.Vref.{Vref}
use Rattle.failed_ends.specs.Below.SockRule.ClosingWordsAndNotes.{PlacesDiffer}
use Rattle.failed_ends.specs.Below.SockRule.Letter.{Letter}
use Rattle.seat_programs.specs.declared.task.Op.{Op}
use Rattle.seat_programs.specs.declared.task.Op.TheVariants as ops
use Rattle.seat_programs.specs.declared.task.Task.{Task}
use Rattle.seat_programs.specs.Explained.{AreTasks, Became}
use Rattle.seat_programs.specs.ExplainedCalls.{IsUnordered, WhyLost, WasFailing, RunEnding, WasUnopened}
use Rattle.corr_core.specs.IdSlotLaw.{is_attempt, is_ended}
use Rattle.corr_core.specs.declared.marks.Kept.{Kept}
use Rattle.corr_core.specs.declared.marks.Note.TheVariants.{Made}
use Rattle.corr_core.specs.declared.marks.Noted.{Noted}
use Rattle.corr_core.specs.declared.marks.Plan as id_plan
use Rattle.corr_core.specs.declared.marks.View.{View}
use Rattle.corr_core.proofs.NoteSums.{only-at, total_some}
use Rattle.corr_id.specs.id_rule.specs.LawfulIdTable.{notes_of}
use Rattle.sock_message.specs.Asked.{Asked, name_of}
use Rattle.corr_id.specs.SeatBehindIdCalls.{FoundUpTo}
use Rattle.corr_id.specs.ClosingIdLists.{Closing}
use Rattle.failed_ends.specs.Below.RpcClient.Told.{Told}
use Rattle.failed_ends.specs.Below.CallAttempts.ClientAtBothTables.{Both}
use Rattle.failed_ends.specs.Below.CallAttempts.Attempting.{AttemptedBy, nowhere, over_link}
use Rattle.failed_ends.specs.Below.CallAttempts.WaitingRetries.{WentTo, stray, unopened, to_socket, had_ended, overtaken, went_again}
use Rattle.failed_ends.specs.Below.CallClient.ClientBetweenOperations.{Stand, both_of, Acted}
use Rattle.failed_ends.specs.Below.CallRun.ReadersOfLinks.{LinkReader}
use Rattle.failed_ends.specs.Below.CallRun.Threads.{Thread, RanWith, MayRunAll, ids_of}
use Rattle.failed_ends.specs.call_whys.specs.call_places.specs.ClientNotesCounted.{makes, HaveNotesOf}
use Rattle.failed_ends.specs.call_whys.specs.call_places.specs.DeedsOfCallClient.{Deed, operates, retries}
use Rattle.failed_ends.specs.call_whys.specs.call_places.proofs.Still.{advances}
use Rattle.failed_ends.specs.call_whys.specs.call_places.proofs.OwnAcceptedMessages.{deed_of}
use Rattle.failed_ends.specs.call_whys.specs.call_places.proofs.IdsOfRetries.{IsIdOf}
use Rattle.failed_ends.specs.call_whys.specs.call_places.proofs.ClientPlaces.{Client, total_map, view_of, tasks_of, deeds_of}
use Rattle.failed_ends.specs.call_whys.specs.call_places.proofs.CallPlaceOrders.{all as all_clients, views_are, noted_among, may_make, crew_of}
use Rattle.failed_ends.specs.call_whys.specs.call_told.specs.Least.{is_made_for}
use Rattle.failed_ends.specs.call_whys.specs.call_told.proofs.ListElementsByPlace.{all_at}
use Rattle.failed_ends.specs.call_whys.specs.call_deeds.specs.RetriedCalls.{all_asked}
use Rattle.failed_ends.specs.call_whys.specs.call_deeds.proofs.Ran.{AreLater}
use Rattle.failed_ends.specs.call_whys.specs.call_deeds.proofs.OperationsToldOnce.{task_at}
use Rattle.failed_ends.specs.call_whys.specs.call_places.specs.script_facts.proofs.FilteredLists.{has_from, has_none}
use Rattle.failed_ends.specs.call_whys.specs.expire_told.specs.ExpireOutcomesSaid.{AreSaid}
use Rattle.failed_ends.specs.call_whys.specs.call_places.specs.sock_deeds.specs.SocketTableRun.{IsOperation, seat_of, DeedRun}
use Rattle.failed_ends.specs.call_whys.specs.call_places.specs.sock_deeds.proofs.MessagesAcceptedByDeeds.{log}
use Rattle.failed_ends.specs.call_whys.specs.call_places.specs.sock_deeds.proofs.DeedsForTasks.{same_task}
use Rattle.failed_ends.specs.call_whys.specs.call_places.specs.sock_deeds.proofs.WholeSocketDeeds.{log_accepted, laws_of}
use Rattle.failed_ends.specs.attempts_told.specs.CountedAttempts.{last_attempt}
use Rattle.failed_ends.specs.attempts_told.proofs.Last.{IsReached, one_reached, none_further}
use Rattle.failed_ends.specs.attempts_told.proofs.RetriedLast.{WentFor, last_went}
use Rattle.failed_ends.specs.attempts_told.proofs.SendersWithCalls.{IsNoted, all_noted, made_for_there}
use Rattle.failed_ends.specs.attempts_told.proofs.AttemptsOfCallsTold.{same_asked}
use Rattle.failed_ends.specs.failed_reasons.specs.CallsEndedByReading.{LeftAt, OnLink, NoneOpened}
use Rattle.failed_ends.specs.failed_reasons.specs.Missed.{attempt_missed, went_missed, acted_missed, missed_in, id_of, IsBacked, attempt_of, socks_behind}
use Rattle.failed_ends.specs.failed_reasons.specs.ErrorReasons.{AdvancedFor}
use Rattle.failed_ends.specs.failed_reasons.proofs.AtWords.{attempt_link, went_link, acted_link, link_in}
use Rattle.failed_ends.proofs.ClientEndsByErrors.{Says, says_own, advanced_caused}
use Rattle.failed_ends.specs.failed_reasons.proofs.TasksOfRunClients.{is_task, own_call}
use Rattle.failed_ends.proofs.Fallen.{one_operation, unordered, WhyNothing, had_failed, were_full, had_none, why_nothing}
use Rattle.failed_ends.specs.failed_reasons.proofs.AttemptLosses.{WhyMissed, IsAskedIn, deed_why}
use Rattle.failed_ends.specs.failed_reasons.proofs.Makers.{made_begun}
use Rattle.failed_ends.specs.failed_reasons.proofs.Premises.{asked_so as asked_here}
use Rattle.failed_ends.proofs.Single.{laws, IsAttemptOf, at_first, again_id, again_attempt, first_id}
use Rattle.failed_told.proofs.StoredAttemptStanding.{may_be_on, lost_on}
use Rattle.failed_told.proofs.UnopenedNameOfRetry.{unopened_why}
use Rattle.failed_ends.specs.call_whys.specs.call_places.specs.sock_deeds.proofs.ListPlaces.{map_back}
use Rattle.sock_words.specs.PackedWords.{id_slot, id_first}
use Rattle.sock_words.specs.Totals.{total}

-- ## Of deeds

-- it isn't one of a call that found no socket at once
abbrev pub IsTried : {O : Type 0} {g : Ghosts O} {state : O → OutState} {p : Plan} {q : id_plan.Plan} → Deed g state p q → Type 0
IsTried (operates x by s t a) = by ≡ None
IsTried (retries r s t by) = Unit {0}

module _ {O : Type 0} (state : O → OutState) (p : Plan) (q : id_plan.Plan) where
  -- the link that was stored for an attempt is one of the plan
  attempt_low : (socket : SocketId) (msg : Letter) (s t : Both) (a : AttemptedBy state p q socket msg s t) (link : ℕ) → attempt_link state p q socket msg s t a ≡ Some link → link < p.links
  attempt_low socket msg s t (nowhere n) link is = absurd (none-some link is)
  attempt_low socket msg s t (over_link u l d) link is = subst (λ (k : ℕ). k < p.links) (same_Some l.link link is) l.link_of.inside

  went_low : (name : ℕ) (msg : Letter) (s t : Both) (w : WentTo state p q name msg s t) (link : ℕ) → went_link state p q name msg s t w ≡ Some link → link < p.links
  went_low name msg s t (stray a b c) link is = absurd (none-some link is)
  went_low name msg s t (unopened a b) link is = absurd (none-some link is)
  went_low name msg s t (to_socket socket u f e a) link is = attempt_low socket msg u t a link is

  acted_low : {g : Ghosts O} (number : ℕ) (op : Op) (by : Option Outcome) (s t : Stand g) (a : Acted state p q number op by s t) (link : ℕ) → acted_link state p q number op by s t a ≡ Some link → link < p.links
  acted_low number (ops.Call asked) None s t a link is = attempt_low a.1.socket _ a.1.at (both_of t) a.1.attempted link is
  acted_low number (ops.Call asked) (Some by) s t a link is = absurd (none-some link is)
  acted_low number _ by s t a link is = absurd (none-some link is)

  -- where none was, its socket was gone, or there was none
  attempt_nowhere : (socket : SocketId) (msg : Letter) (s t : Both) (a : AttemptedBy state p q socket msg s t) → attempt_link state p q socket msg s t a ≡ None → attempt_missed state p q socket msg s t a ≡ Some EFAILEDSOCKET
  attempt_nowhere socket msg s t (nowhere n) is = refl
  attempt_nowhere socket msg s t (over_link u l d) is = absurd (none-some l.link (sym is))

  went_nowhere : (name : ℕ) (msg : Letter) (s t : Both) (w : WentTo state p q name msg s t) → went_link state p q name msg s t w ≡ None → went_missed state p q name msg s t w ≡ Some EFAILEDSOCKET
  went_nowhere name msg s t (stray a b c) is = refl
  went_nowhere name msg s t (unopened a b) is = refl
  went_nowhere name msg s t (to_socket socket u f e a) is = attempt_nowhere socket msg u t a is

  acted_nowhere : {g : Ghosts O} (number : ℕ) (op : Op) (by : Option Outcome) (s t : Stand g) (a : Acted state p q number op by s t) (asked : Asked) → op ≡ ops.Call asked → by ≡ None → acted_link state p q number op by s t a ≡ None → acted_missed state p q number op by s t a ≡ Some EFAILEDSOCKET
  acted_nowhere number (ops.Call own) None s t a asked op tried is = attempt_nowhere a.1.socket _ a.1.at (both_of t) a.1.attempted is
  acted_nowhere number (ops.Call own) (Some by) s t a asked op tried is = absurd (none-some by (sym tried))
  acted_nowhere number _ by s t a asked op tried is = absurd (cc)

module _ {O : Type 0} {g : Ghosts O} {state : O → OutState} {p : Plan} {q : id_plan.Plan} where
  deed_low : (d : Deed g state p q) (link : ℕ) → link_in d ≡ Some link → link < p.links
  deed_low (operates x by s t a) link is = acted_low state p q x.number x.op by s t a link is
  deed_low (retries r s t (had_ended h)) link is = absurd (none-some link is)
  deed_low (retries r s t (overtaken k u l o)) link is = absurd (none-some link is)
  deed_low (retries r s t (went_again k u l w)) link is = went_low state p q _ _ _ t w.went link is

  deed_nowhere : (d : Deed g state p q) (asked : Asked) → IsAskedIn d asked → IsTried d → link_in d ≡ None → missed_in d ≡ Some EFAILEDSOCKET
  deed_nowhere (operates x by s t a) asked asks tried is = acted_nowhere state p q x.number x.op by s t a asked asks tried is
  deed_nowhere (retries r s t (had_ended h)) asked asks tried is = elim asks [ ]
  deed_nowhere (retries r s t (overtaken k u l o)) asked asks tried is = elim asks [ ]
  deed_nowhere (retries r s t (went_again k u l w)) asked asks tried is = went_nowhere state p q _ _ _ t w.went is

  one_asked : (d : Deed g state p q) (a b : Asked) → IsAskedIn d a → IsAskedIn d b → a ≡ b
  one_asked (operates x by s t c) a b is also = same_asked a b (sym is ∙ also)
  one_asked (retries r s t (had_ended h)) a b is also = elim is [ ]
  one_asked (retries r s t (overtaken k u l o)) a b is also = elim is [ ]
  one_asked (retries r s t (went_again k u l w)) a b is also = sym is ∙ also

-- ## The run

module _ {O : Type 0} {g : Ghosts O} {state : O → OutState} {readers : List (LinkReader g)} {p : Plan} {slots : ℕ} {setup : List Task} {clients : List (List Task)} {opens : List ℕ} {told ended : List (List Told)} {places : List PlaceWord} {vrefs : List Vref} {outs : List O} {ids : List (View Asked)}
    (run : RanWith g state readers p slots setup clients opens told ended places vrefs outs ids) (tasks : AreTasks p (setup ∷ clients)) (may : MayRunAll p (ids_of p slots) setup clients)
    (notes : List (Noted Asked)) (kept : List Kept) (words : List ℕ) (closing : Closing (ids_of p slots) notes kept words) (noted : HaveNotesOf ids notes)
    (outcomes : List (Option Outcome)) (said : AreSaid outcomes told)
    (later : (c : ℕ) (x : Client g state p (ids_of p slots)) → get_elem? (all_clients run) c ≡ some x → AreLater (setup ∷ clients) outcomes (all_asked x.thread x.is))
    -- none but the clients advanced attempts
    (own : (i f n : ℕ) → total (is_attempt f n) (notes_of i notes) ≤ total (λ (v : View Asked). advances i f n v) ids)
    -- what the seats did at the table of sockets
    (drun : DeedRun g state p (setup ∷ clients) outcomes places vrefs outs) (seats : map seat_of drun.seats ≡ map (λ (x : Thread g). x.ended.seat) (run.ran.main ∷ run.ran.others)) (logged : log drun ≡ run.closed.ordered.log)
    (differ : PlacesDiffer (log drun)) (gave : ℕ → List ℕ) where
  open crew_of run use {q, every, crew}

  abbrev last : ℕ → ℕ
  last = last_attempt notes

  open laws_of drun differ gave use {fixed_here, orders_here}

  abbrev LeftHere : ℕ → ℕ → Asked → ℕ → Type 0
  LeftHere client o asked n = LeftAt p every outcomes fixed_here gave orders_here client o asked n

  abbrev Unordered : ℕ → ℕ → Type 0
  Unordered o n = IsUnordered p every outcomes fixed_here gave orders_here o n

  by_lost : (client o n : ℕ) (asked : Asked) → WhyLost p every outcomes fixed_here gave orders_here client o n (name_of asked n) → Unordered o n → LeftHere client o asked n
  by_lost client o n asked (WasFailing k (slot, version, made) failing) free = OnLink k (slot, version, made, λ l stands. absurd (free l stands)) (inl failing)
  by_lost client o n asked (RunEnding late) free = absurd (has_none o (has_from [] o late))
  by_lost client o n asked (WasUnopened some_ c m low high before none_) free = NoneOpened some_ free c m low high before none_

  -- ## An attempt that was made

  module _ (c : ℕ) (x : Client g state p q) (at : get_elem? crew c ≡ some x) (i : ℕ) (d : Deed g state p q) (there : get_elem? (deeds_of x) i ≡ some d) (asked : Asked) (asks : IsAskedIn d asked) (tried : IsTried d) (backed : IsBacked (view_of x) d)
      (client : ℕ) (task : IsOperation every outcomes client asked.operation (ops.Call asked)) (its : IsIdOf slots notes asked.operation (id_of d)) (attempt : IsAttemptOf run tasks may notes kept words closing noted asked.operation (id_of d) (attempt_of d) d) (inside : id_slot (id_of d) < slots) (few : attempt_of d ≤ 6) where
    -- without a link, it came to nothing
    by_nothing : link_in d ≡ None → LeftHere client asked.operation asked (attempt_of d)
    by_nothing is = by (why_nothing run tasks may notes kept words closing noted outcomes drun seats logged differ gave (log_accepted drun differ (λ k. [])) c x at i d there EFAILEDSOCKET missed backed client asked.operation asked task why)
      where
        missed : missed_in d ≡ Some EFAILEDSOCKET
        missed = deed_nowhere d asked asks tried is

        free : Unordered asked.operation (attempt_of d)
        free =
            let f = unordered run tasks may notes kept words closing noted outcomes drun seats logged differ gave (log_accepted drun differ (λ k. [])) c x at i d there EFAILEDSOCKET missed backed inside in
            subst (λ (o : ℕ). Unordered o (attempt_of d)) (sym (f.0.asks asked asks)) f.1

        why : WhyMissed p q (name_of asked (attempt_of d)) asked.operation EFAILEDSOCKET (socks_behind d)
        why = let w = deed_why d EFAILEDSOCKET missed in subst (λ (a : Asked). WhyMissed p q (name_of a (attempt_of d)) a.operation EFAILEDSOCKET (socks_behind d)) (one_asked d w.asked asked w.is asks) w.why

        by : WhyNothing run tasks may notes kept words closing noted outcomes drun seats logged differ gave (log_accepted drun differ (λ k. [])) c x at i d there EFAILEDSOCKET missed backed client asked.operation asked → LeftHere client asked.operation asked (attempt_of d)
        by (had_failed same lost) = by_lost client asked.operation (attempt_of d) asked lost free
        by (were_full same full) = absurd (omega (arith, same))
        by (had_none same u found) = by_lost client asked.operation (attempt_of d) asked (unopened_why run tasks may notes kept words closing noted outcomes said fixed_here gave orders_here c x at i d there EFAILEDSOCKET missed asked asks client task u found) free

    deed_left : LeftHere client asked.operation asked (attempt_of d)
    deed_left = by (link_in d) refl
      where
        by : (k : Option ℕ) → link_in d ≡ k → LeftHere client asked.operation asked (attempt_of d)
        by None is = by_nothing is
        by (Some link) is = OnLink link
            (may_be_on run tasks may notes kept words closing noted outcomes drun seats logged differ gave (log_accepted drun differ (λ k. [])) c x at i d there client asked.operation (id_of d) asked task its attempt few inside asked asks refl link is)
            (lost_on run tasks may notes kept words closing noted outcomes drun seats logged differ gave (log_accepted drun differ (λ k. [])) c x at i d there client asked.operation (id_of d) asked task its attempt few inside asked asks refl link is refl (deed_low d link is))

  -- ## The last one of a call

  -- the call that is operation o
  module _ (client o : ℕ) (asked : Asked) (is : IsOperation every outcomes client o (ops.Call asked)) where
    in_words : (c m n k : ℕ) (a : Asked) → c ≡ client → m ≡ o → k ≡ n → a ≡ asked → LeftHere c m a k → LeftHere client o asked n
    in_words c m n k a ec em ek ea h =
        let on = subst (λ (y : Asked). LeftHere c m y k) ea h in let at = subst (λ (y : ℕ). LeftHere c m asked y) ek on in
        let of = subst (λ (y : ℕ). LeftHere c y asked n) em at in subst (λ (y : ℕ). LeftHere y o asked n) ec of

    -- a retry of it
    retry_left : (slot first n r k : ℕ) (content : Asked) → slot < slots → first < 4294967296 → get_elem? (notes_of slot notes) k ≡ some (Made first r content) → content.operation ≡ o
        → WentFor run notes (laws run tasks may notes kept words closing noted) noted own (slot * 4294967296 + first) n → LeftHere client o asked n
    retry_left slot first n r k content inside low made operation w =
        let d : Deed g state p q = retries w.retry w.before w.after (went_again w.lock w.inside w.locked w.again) in
        let its = again_id run tasks may notes kept words closing noted w.place w.client w.in_crew w.index w.retry w.before w.after w.lock w.inside w.locked w.again w.there in
        let attempt = again_attempt run tasks may notes kept words closing noted w.place w.client w.in_crew w.index w.retry w.before w.after w.lock w.inside w.locked w.again w.lock.content.operation w.retry.id w.retry.attempt refl refl w.there in
        let of = asked_here run tasks may notes kept words closing noted outcomes later w.place w.client w.in_crew w.index d w.there w.lock.content refl in
        let number : w.lock.content.operation ≡ o = one_operation run tasks may notes kept words closing noted outcomes drun seats logged differ gave (log_accepted drun differ (λ k. [])) w.lock.content.operation w.retry.id slot first r k content inside low its w.id_is made ∙ operation in
        let task = same_task drun of.0 client record { number = w.lock.content.operation; op = ops.Call w.lock.content } record { number = o; op = ops.Call asked } of.1 is number in
        let same : w.lock.content ≡ asked = same_asked w.lock.content asked (ap (λ (t : Task). t.op) task.1) in
        in_words of.0 w.lock.content.operation n w.retry.attempt w.lock.content task.0 number w.attempt_is same
        (deed_left w.place w.client w.in_crew w.index d w.there w.lock.content refl tt tt of.0 of.1 its attempt (let a = w.locked.got.inside in let b = w.locked.got.slot_is in omega (arith, a, b)) w.retry.low)

    abbrev its_task : Task
    its_task = record { number = o; op = ops.Call asked }

    -- the first one
    module _ (id code : ℕ) (became : Became every outcomes o (CallFailed id code)) where
      by_first : (c : ℕ) (x : Client g state p q) → get_elem? crew c ≡ some x → (k : ℕ) → get_elem? (tasks_of x) k ≡ some its_task → (by : Option Outcome) (s t : Stand g) (a : Acted state p q o (ops.Call asked) by s t) (i : ℕ) → get_elem? (deeds_of x) i ≡ some (operates its_task by s t a)
          → ((z : Outcome) → by ≡ Some z → Became every outcomes o z) → LeftHere client o asked 0
      by_first c x at k here (Some z) s t a i there tells =
          let e : z ≡ CallFailed id code = same_Some z (CallFailed id code) (same_Some (Some z) (Some (CallFailed id code)) (sym (tells z refl) ∙ became)) in
          absurd (subst (λ (y : Outcome). Acted state p q o (ops.Call asked) (Some y) s t) e a)
      by_first c x at k here None s t a i there tells =
          let d : Deed g state p q = operates its_task None s t a in
          let n = all_at (IsNoted g state p q (tasks_of x) (view_of x)) (deeds_of x) i d (all_noted x.thread x.is) there in
          let m = may_make run may c x at in
          let mine : asked.operation ≡ o = own_call p q (tasks_of x) m.0 m.1 k its_task here asked refl in
          let made_ : 0 < total (is_made_for (id_first a.0) asked.operation) (notes_of (id_slot a.0) (view_of x).notes) = n.1.1 in
          let its = first_id run tasks may notes kept words closing noted asked.operation a.0 n.1.0 (let b = noted_among run notes noted c x at (id_slot a.0) (is_made_for (id_first a.0) asked.operation) in omega (arith, b, made_)) in
          let task = subst (λ (y : ℕ). IsOperation every outcomes client y (ops.Call asked)) (sym mine) is in
          let label = only-at (8 * asked.operation + 0) (8 * asked.operation + 0) refl in
          subst (λ (y : ℕ). LeftHere client y asked 0) mine (deed_left c x at i d there asked refl refl made_ client task its (at_first refl (omega (arith, label))) n.1.0 (omega arith))

      first_left : 0 < total (makes o) notes → LeftHere client o asked 0
      first_left made =
          let v = total_some (λ (v : View Asked). total (makes o) v.notes) ids (let a = noted.made o in omega (arith, a, made)) in
          let y = map_back view_of crew v.0 v.1 (ap (λ (vs : List (View Asked)). get_elem? vs v.0) (views_are run) ∙ v.2) in
          let b = made_begun y.0.thread y.0.is o (subst (λ (z : View Asked). 0 < total (makes o) z.notes) (sym y.2) v.3) in
          let task = task_at y.0.thread y.0.is b.0 b.1 b.2 in
          let m = may_make run may v.0 y.0 y.1 in
          let mine : b.3.asked.operation ≡ b.1.task.number = own_call p q (tasks_of y.0) m.0 m.1 b.0 b.1.task task b.3.asked b.3.op in
          let one = same_task drun v.0 client b.1.task its_task (is_task run outcomes v.0 y.0 y.1 b.0 b.1.task task) is (sym mine ∙ b.3.operation) in
          let here : get_elem? (tasks_of y.0) b.0 ≡ some its_task = task ∙ ap some one.1 in
          let h = deed_of y.0.thread y.0.is b.0 its_task here in
          by_first v.0 y.0 y.1 b.0 here h.how.by h.how.before h.how.after h.how.acted h.place h.there (λ z e. (let w = h.tells z e in says_own run outcomes said v.0 y.0 y.1 w.0 record { number = o; outcome = z } w.1))

      -- no client ended it, or found a later range in its slot
      module _ (over : (slot first : ℕ) → slot < slots → first < 4294967296 → 0 < total (is_made_for first o) (notes_of slot notes) → (c : ℕ) (x : Client g state p q) → get_elem? crew c ≡ some x → (total (is_ended first) (notes_of slot (view_of x).notes) ≡ 0) × FoundUpTo slot first (view_of x)) where
        by_reached : IsReached o notes notes (last o) → LeftHere client o asked (last o)
        by_reached r =
            let m = made_for_there r.first o (notes_of r.slot notes) r.made in
            let f : View Asked → ℕ = λ v. advances r.slot r.first (last o) v in
            let s = total_some (λ (y : Client g state p q). f (view_of y)) crew (let a = own r.slot r.first (last o) in let b = total_map f view_of crew in let d = ap (total f) (views_are run) in let e = r.noted in omega (arith, a, b, d, e)) in
            let a : AdvancedFor state p q (tasks_of s.1) (Says run outcomes said) (deeds_of s.1) (view_of s.1) r.slot r.first (last o) = advanced_caused run outcomes said s.0 s.1 s.2 r.slot r.first (last o) s.3 in
            let inside : r.slot < slots = subst (λ (z : ℕ). z < slots) a.slot_is a.cause.inside in
            let low : r.first < 4294967296 = (let l = a.lock.fits.low in let e = a.first_is in omega (arith, l, e)) in
            retry_left r.slot r.first (last o) m.0 m.2 m.1 inside low m.3 m.4
            (last_went run notes (laws run tasks may notes kept words closing noted) noted own r.slot r.first (last o) m.0 m.2 m.1 inside low m.3 (λ k some_. none_further o notes r.slot r.first k notes r.made some_)
            (λ c x at. (over r.slot r.first inside low r.made c x at).0) (λ c x at. (over r.slot r.first inside low r.made c x at).1) r.noted)

        -- so it is of its last attempt
        pub left_at : 0 < total (makes o) notes → LeftHere client o asked (last o)
        left_at made = elim (one_reached o notes notes) [
          | inl none_ ↦ subst (λ (n : ℕ). LeftHere client o asked n) (sym none_) (first_left made)
          | inr r ↦ by_reached r
        ]
