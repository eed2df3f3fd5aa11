-- A retry that found no socket under its name: no task of the setup had given the name a socket, and none that its client had made before had given it one or found one.
use Rattle.std.proofs.Common.{◌≡◌, ℕ, zero, suc, ◌+◌, ◌*◌, ◌<◌, ◌≤◌, inl, inr, List, [], ◌∷◌, map, slice_get, Some, None, refl, sym, ap, ◌∙◌, subst, arith}
use Rattle.std.specs.Prelude.{Option, max}
use Rattle.std.proofs.lemmas.Option.{same_Some}
use mathlib.Core.Logic.{dite}
use mathlib.Core.Option.{some, some-injective, some-ne-none}
use native.Mathlib.Decide.{ℕ_discrete, dec_lt}
use lib.ListN.{get_elem?}
use Rattle.sock_message.specs.brpc_model.specs.Order.{EachBefore}
use Rattle.sock_io.specs.declared.link.Out.{Ghosts}
use Rattle.sock_io.specs.LinkHalves.{OutState}
use Rattle.sock_words.specs.declared.outcome.Outcome.{Outcome}
use Rattle.sock_words.specs.declared.outcome.Outcome.TheVariants as outcome
use Rattle.sock_words.specs.declared.plain.Plan.{Plan}
use Rattle.sock_words.specs.declared.place_word.PlaceWord.{PlaceWord}
use Rattle.sock_words.specs.declared.vref.Vref.{Vref}
use Rattle.sock_model.specs.declared.view.View as sock_view
use Rattle.sock_model.specs.SocketTableLayout.{name_index}
use Rattle.failed_ends.specs.Below.SockTable.NamesStoredAndFound.{Found}
use Rattle.seat_programs.specs.declared.task.Op.{Op}
use Rattle.seat_programs.specs.declared.task.Op.TheVariants as ops
use Rattle.seat_programs.specs.declared.task.Task.{Task}
use Rattle.seat_programs.specs.Explained.{AreTasks, IsTask, Became, OpensNone, IsOpen}
use Rattle.seat_programs.specs.ExplainedCalls.{Fixed, Order, Seeks, FoundNone, WhyLost, WasUnopened}
use Rattle.corr_core.specs.IdSlotWord.{parts}
use Rattle.corr_core.specs.declared.marks.Kept.{Kept}
use Rattle.corr_core.specs.declared.marks.Note.{Note}
use Rattle.corr_core.specs.declared.marks.Noted.{Noted}
use Rattle.corr_core.specs.declared.marks.View.{View}
use Rattle.corr_core.proofs.NoteSums.{total_some}
use Rattle.corr_id.specs.id_rule.specs.LawfulIdTable.{notes_of}
use Rattle.sock_message.specs.Asked.{Asked, name_of}
use Rattle.corr_id.specs.declared.calls.IdLock.{IdLock}
use Rattle.corr_id.specs.SeatBehindIdCalls.{is_saw}
use Rattle.corr_id.specs.ClosingIdLists.{Closing}
use Rattle.failed_ends.specs.Below.RpcClient.Told.{Told}
use Rattle.failed_ends.specs.Below.CallErrors.Retry.{Retry}
use Rattle.failed_ends.specs.Below.CallAttempts.ClientAtBothTables.{Both}
use Rattle.failed_ends.specs.Below.CallAttempts.CallBeginning.{BegunAs}
use Rattle.failed_ends.specs.Below.CallAttempts.WaitingRetries.{Locked, WentAgain, had_ended, overtaken, went_again}
use Rattle.failed_ends.specs.Below.CallClient.ClientBetweenOperations.{Stand, both_of, Acted}
use Rattle.failed_ends.specs.Below.CallRun.ReadersOfLinks.{LinkReader}
use Rattle.failed_ends.specs.Below.CallRun.Threads.{Thread, RanWith, MayRunAll, ids_of, opens_of, opened_names, openings}
use Rattle.failed_ends.specs.call_whys.specs.call_places.specs.ClientNotesCounted.{makes, HaveNotesOf}
use Rattle.failed_ends.specs.call_whys.specs.call_places.specs.DeedsOfCallClient.{Deed, operates, retries}
use Rattle.failed_ends.specs.call_whys.specs.call_places.proofs.Still.{again_still}
use Rattle.failed_ends.specs.call_whys.specs.call_places.proofs.RetryAndIdCounts.{locks_for, KnowsLock, Grows, lock_stays, lock_known}
use Rattle.failed_ends.specs.call_whys.specs.call_places.proofs.IdsOfRetries.{IsIdOf, some_made, version_low, locker_there, one_id}
use Rattle.failed_ends.specs.call_whys.specs.call_places.proofs.ClientPlaces.{Client, view_of, tasks_of, deeds_of}
use Rattle.failed_ends.specs.call_whys.specs.call_places.proofs.CallPlaceOrders.{all_are, views_are, noted_among, may_make, made_once, crew_of}
use Rattle.failed_ends.specs.call_whys.specs.call_told.specs.Least.{is_made_for}
use Rattle.failed_ends.specs.call_whys.specs.call_told.proofs.ListElementsByPlace.{all_at}
use Rattle.failed_ends.specs.call_whys.specs.call_deeds.proofs.Ran.{Result}
use Rattle.failed_ends.specs.call_whys.specs.call_deeds.proofs.RunsAsDeeds.{opened_there, names_there, same_task}
use Rattle.failed_ends.specs.call_whys.specs.call_deeds.proofs.OperationsToldOnce.{all_results, told_by, task_at, result_of, said_at, open_said}
use Rattle.failed_ends.specs.call_whys.specs.call_places.specs.outcome_ticks.proofs.SeatPartOfStory.{Less}
use Rattle.failed_ends.specs.call_whys.specs.call_places.specs.outcome_ticks.proofs.TableTasksDistinct.{sorted_of}
use Rattle.failed_ends.specs.call_whys.specs.call_places.specs.sock_deeds.specs.SocketTableRun.{IsOperation}
use Rattle.failed_ends.specs.call_whys.specs.call_places.specs.sock_deeds.proofs.NamesWithoutSocket.{SeenBy}
use Rattle.failed_ends.specs.call_whys.specs.call_places.specs.sock_deeds.proofs.ListPlaces.{place_low, map_back, map_there}
use Rattle.failed_ends.specs.call_whys.specs.expire_told.specs.ExpireOutcomesSaid.{AreSaid}
use Rattle.failed_ends.specs.call_whys.specs.call_told.proofs.Coming.{made_begun as begun_made}
use Rattle.failed_ends.specs.failed_reasons.specs.Missed.{missed_in, attempt_of, socks_behind}
use Rattle.failed_ends.specs.failed_reasons.proofs.AttemptLosses.{IsAskedIn}
use Rattle.failed_ends.specs.failed_reasons.proofs.SeenReachesEnd.{retry_grew}
use Rattle.failed_ends.proofs.Single.{first_id, again_later}
use Rattle.failed_ends.proofs.ClientEndsByErrors.{says_own}
use Rattle.failed_ends.specs.failed_reasons.proofs.Makers.{IsBegun, made_begun}
use Rattle.failed_ends.specs.failed_reasons.proofs.TasksOfRunClients.{tasks_there, its_tasks, place_of, is_task, own_call}
use Rattle.failed_ends.specs.failed_reasons.proofs.Before.{stands_before, IsRetry, MadeBefore, PlacedHere, all_placed, noted_last}
use Rattle.failed_ends.specs.failed_reasons.proofs.Seeking.{sought_seen, opens_seen, missed_seen, waited_seen, names_are, none_again}
use Rattle.sock_words.specs.PackedWords.{id_slot, id_first}
use Rattle.sock_words.specs.Totals.{total}

-- ## Tasks in their order

-- a number behind the first n tasks, and behind no other
pub record IsBehind (ts : List Task) (n : ℕ) : Type 0 where
  pub number : ℕ
  pub first : (k : ℕ) (t : Task) → get_elem? ts k ≡ some t → k < n → t.number < number
  pub only_first : (k : ℕ) (t : Task) → get_elem? ts k ≡ some t → t.number < number → k < n

pub behind_first : (ts : List Task) (n : ℕ) → EachBefore Less ts → IsBehind ts n
behind_first [] n sorted = record { number = 0; first = λ k t at low. absurd (some-ne-none t (sym at)); only_first = λ k t at low. absurd (some-ne-none t (sym at)) }
behind_first (t ∷ ts) zero sorted = record { number = 0; first = λ k u at low. absurd (omega arith); only_first = λ k u at low. absurd (omega arith) }
behind_first (t ∷ ts) (suc n) sorted =
    let b = behind_first ts n sorted.1 in
    record { number = max (suc t.number) b.number; first = first b; only_first = only_first b }
  where
    first : (b : IsBehind ts n) (k : ℕ) (u : Task) → get_elem? (t ∷ ts) k ≡ some u → k < suc n → u.number < max (suc t.number) b.number
    first b zero u at low = let e = ap (λ (x : Task). x.number) (some-injective t u at) in omega (arith, e)
    first b (suc k) u at low = let a = b.first k u at (omega (arith, low)) in omega (arith, a)

    only_first : (b : IsBehind ts n) (k : ℕ) (u : Task) → get_elem? (t ∷ ts) k ≡ some u → u.number < max (suc t.number) b.number → k < suc n
    only_first b zero u at low = omega arith
    only_first b (suc k) u at low = dite (dec_lt u.number b.number)
        (λ lt. let a = b.only_first k u at lt in omega (arith, a))
        (λ ge. absurd (let less = all_at (Less t) ts k u sorted.0 at in omega (arith, less, ge, low)))

-- ## The run

module _ {O : Type 0} {g : Ghosts O} {state : O → OutState} {readers : List (LinkReader g)} {p : Plan} {slots : ℕ} {setup : List Task} {clients : List (List Task)} {opens : List ℕ} {told ended : List (List Told)} {places : List PlaceWord} {vrefs : List Vref} {outs : List O} {ids : List (View Asked)}
    (run : RanWith g state readers p slots setup clients opens told ended places vrefs outs ids) (tasks : AreTasks p (setup ∷ clients)) (may : MayRunAll p (ids_of p slots) setup clients)
    (notes : List (Noted Asked)) (kept : List Kept) (words : List ℕ) (closing : Closing (ids_of p slots) notes kept words) (noted : HaveNotesOf ids notes)
    (outcomes : List (Option Outcome)) (said : AreSaid outcomes told) where
  open crew_of run use {q, crew, every}

  -- what a client told of an operation is what became of it
  became_of : (c : ℕ) (x : Client g state p q) → get_elem? crew c ≡ some x → (k : ℕ) (r : Result) → get_elem? (all_results x.thread x.is) k ≡ some r → (o : Outcome) → r.by ≡ Some o → Became every outcomes r.task.number o
  became_of c x at k r there o by = let w = said_at x.thread x.is k r o there by in says_own run outcomes said c x at w.0 record { number = r.task.number; outcome = o } w.1

  one_outcome : (n : ℕ) (a b : Outcome) → Became every outcomes n a → Became every outcomes n b → a ≡ b
  one_outcome n a b x y = same_Some a b (same_Some (Some a) (Some b) (sym x ∙ y))

  -- ## A retry that hadn't seen its name

  module _ (c : ℕ) (x : Client g state p q) (at : get_elem? crew c ≡ some x) (i : ℕ) (d : Deed g state p q) (there : get_elem? (deeds_of x) i ≡ some d) (again : IsRetry d) where
    placed : PlacedHere x.thread x.is d
    placed = all_at (PlacedHere x.thread x.is) (deeds_of x) i d (all_placed x.thread x.is) there

    cut : IsBehind (tasks_of x) placed.made
    cut = behind_first (tasks_of x) placed.made (sorted_of p every tasks c (tasks_of x) (its_tasks run outcomes c x at))

    -- the setup made no retry
    no_setup : 1 ≤ c
    no_setup = dite (ℕ_discrete c 0)
        (λ e. absurd (
        let none_ = none_again x.thread x.is (λ k t here. all_at (λ (u : Task). IsOpen u.op) (tasks_of x) k t (tasks.setup (tasks_of x) (subst (λ (z : ℕ). slice_get every z ≡ Some (tasks_of x)) e (its_tasks run outcomes c x at))) here) in
        all_at (λ (e : Deed g state p q). IsRetry e → ⊥) (deeds_of x) i d none_ there again))
        (λ ne. omega (arith, ne))

    module _ (fixed : Fixed) (gave : ℕ → List ℕ) (orders : ℕ → Order) (n : ℕ) (unseen : SeenBy p n (stands_before d).socks → ⊥) where
      -- an operation before it
      made_by : (t : Task) → IsTask every outcomes c t → t.number < cut.number → (k : ℕ) × (b : MadeBefore g state p q (all_results x.thread x.is) k (stands_before d)) × (b.operation.task ≡ t)
      made_by t is low =
          let h = place_of run outcomes c x at t is in let b = placed.first h.0 (cut.only_first h.0 t h.1 low) in
          (h.0, b, some-injective b.operation.task t (sym (task_at x.thread x.is h.0 record { task = b.operation.task; by = b.operation.by } b.operation.at) ∙ h.1))

      opened_none : (t : Task) → IsTask every outcomes c t → t.number < cut.number → OpensNone every outcomes n t
      opened_none t is low k slot version op became =
          let m = made_by t is low in let o = m.1.operation in
          let same : o.task.op ≡ ops.Open n k = ap (λ (u : Task). u.op) m.2 ∙ op in
          let w = opens_seen g state p q n k o.task.number o.by o.before o.after (subst (λ (y : Op). Acted state p q o.task.number y o.by o.before o.after) same o.acted) in
          let was = became_of c x at m.0 record { task = o.task; by = o.by } o.at w.0 w.1 in
          let is_it = one_outcome t.number w.0 (outcome.Opened slot version k) (subst (λ (u : Task). Became every outcomes u.number w.0) m.2 was) became in
          unseen (m.1.went.0.seen (name_index p n) (w.2 slot version k is_it))

      sought_none : (t : Task) → IsTask every outcomes c t → t.number < cut.number → Seeks p every outcomes fixed gave orders n t.op → Became every outcomes t.number outcome.Unopened
      sought_none t is low sought =
          let m = made_by t is low in let o = m.1.operation in
          let seeks = subst (λ (u : Task). Seeks p every outcomes fixed gave orders n u.op) (sym m.2) sought in
          elim (sought_seen g state p q every outcomes fixed gave orders n o.task.number o.task.op o.by o.before o.after o.acted seeks) [
            | inl e ↦ subst (λ (u : Task). Became every outcomes u.number outcome.Unopened) m.2 (became_of c x at m.0 record { task = o.task; by = o.by } o.at outcome.Unopened e)
            | inr seen ↦ absurd (unseen (m.1.went.0.seen (name_index p n) seen))
          ]

      -- the names that the setup opened were waited for
      setup_none : (t : Task) → IsTask every outcomes 0 t → OpensNone every outcomes n t
      setup_none t is k slot version op became =
          let main : Client g state p q = record { thread = run.ran.main; first = 0; is = run.ran.main_is } in
          let h = place_of run outcomes 0 main refl t is in
          let r = result_of run.ran.main run.ran.main_is h.0 t h.1 in
          let y = opening_told main h.0 r.0 r.1 (ap (λ (u : Task). u.op) r.2 ∙ op) in
          let number : r.0.task.number ≡ t.number = ap (λ (u : Task). u.number) r.2 in
          let is_it = one_outcome t.number y.0 (outcome.Opened slot version k) (subst (λ (m : ℕ). Became every outcomes m y.0) number (became_of 0 main refl h.0 r.0 r.1 y.0 y.1)) became in
          let told_it = said_at run.ran.main run.ran.main_is h.0 r.0 y.0 r.1 y.1 in
          let opened = opened_there (told_by run.ran.main run.ran.main_is) told_it.0 t.number slot version k (told_it.1 ∙ (λ j. some record { number = number j; outcome = is_it j })) in
          let task_is : get_elem? setup h.0 ≡ some record { number = t.number; op = ops.Open n k } = ap (λ (l : List Task). get_elem? l h.0) (sym run.ran.setup_asked) ∙ (h.1 ∙ (λ j. some record { number = t.number; op = op j })) in
          let name = names_there (told_by run.ran.main run.ran.main_is) setup h.0 t.number n k task_is opened in
          let waited = waited_seen g state p q x.thread.names _ x.thread.began.seat.me.0 x.is.waited name.0 n (ap (λ (l : List ℕ). get_elem? l name.0) its_names ∙ name.1) in
          unseen (placed.between.0.0.seen (name_index p n) waited)
        where
          opening_told : (main : Client g state p q) (j : ℕ) (r : Result) → get_elem? (all_results main.thread main.is) j ≡ some r → r.task.op ≡ ops.Open n k → (o : Outcome) × (r.by ≡ Some o)
          opening_told main j r here is_open = open_said main.thread main.is j n k r here is_open

          its_names : x.thread.names ≡ opened_names run.ran.main.ended.outcomes.items (openings setup)
          its_names = by c at no_setup
            where
              by : (b : ℕ) → get_elem? crew b ≡ some x → 1 ≤ b → x.thread.names ≡ opened_names run.ran.main.ended.outcomes.items (openings setup)
              by zero here some_ = absurd (omega (arith, some_))
              by (suc b) here some_ =
                  let threads : List (Thread g) = run.ran.main ∷ run.ran.others in
                  let list : get_elem? (map (λ (y : Thread g). y) threads) (suc b) ≡ some x.thread = ap (λ (l : List (Thread g)). get_elem? l (suc b)) (sym (all_are run (λ (y : Thread g). y))) ∙ map_there (λ (y : Client g state p q). y.thread) crew (suc b) x here in
                  let w = map_back (λ (y : Thread g). y) threads (suc b) x.thread list in
                  ap (λ (y : Thread g). y.names) (sym w.2) ∙ names_are g state p q (opened_names run.ran.main.ended.outcomes.items (openings setup)) (opens_of setup) run.ran.others run.ran.others_are b w.0 w.1

      found_none : FoundNone p every outcomes fixed gave orders c cut.number n
      found_none = record { setup = setup_none; own = λ t is low. (opened_none t is low, sought_none t is low) }

  -- ## The call of a retry began before it

  module _ (c : ℕ) (x : Client g state p q) (at : get_elem? crew c ≡ some x) (i : ℕ) (r : Retry) (s t : Both) (k : IdLock Asked) (u : Both) (l : Locked state p q r k s u) (w : WentAgain state p q r k u t) (there : get_elem? (deeds_of x) i ≡ some (retries r s t (went_again k u l w))) where
    abbrev went : Deed g state p q
    went = retries r s t (went_again k u l w)

    abbrev first : ℕ
    first = (parts k.word.0).first

    abbrev here : PlacedHere x.thread x.is went
    here = placed c x at i went there tt

    first_low : first < 4294967296
    first_low = let a = l.got.from_first in let b = version_low r.id in omega (arith, a, b)

    -- it had found the word of the id
    known : KnowsLock k t.calls.view
    known = lock_stays k u.calls.view t.calls.view (again_still state p q r k u t w).grows (lock_known slots r.id k s.calls.view u.calls.view l.got)

    to_last : Grows t.calls.view (view_of x)
    to_last j f = let a = here.between.1.1 j f in let b = noted_last x.thread x.is j f in omega (arith, a, b)

    among : (j : ℕ) (f : Note Asked → ℕ) → total f (notes_of j (view_of x).notes) ≤ total f (notes_of j notes)
    among = noted_among run notes noted c x at

    lock_is : IsIdOf slots notes k.content.operation (k.slot * 4294967296 + first)
    lock_is =
        let o : ℕ = k.content.operation in
        let locked : 0 < total (locks_for first o) (notes_of k.slot notes) = (let a = known.locked in let b = to_last k.slot (locks_for first o) in let d = among k.slot (locks_for first o) in omega (arith, a, b, d)) in
        let n = locker_there first o (notes_of k.slot notes) locked in
        let m = closing.locked_made k.slot first n.1 n.0 l.got.inside n.2 in
        record { slot = k.slot; first = first; inside = l.got.inside; low = first_low; id_is = refl; range = m.0; asked = n.0; place = m.1; made = m.2; operation = n.3 }

    -- so the id wasn't made behind it
    not_behind : (asked : Asked) (id : ℕ) (before after : Stand g) → BegunAs state p q asked id (both_of before) (both_of after) → asked.operation ≡ k.content.operation → Grows t.calls.view before.calls.view → Grows after.calls.view (view_of x) → ⊥
    not_behind asked id before after b same from to =
        let o : ℕ = asked.operation in let f : ℕ = id_first id in
        let h = begun_made q state p asked id (both_of before) (both_of after) b in
        let made_ : 0 < total (is_made_for f o) (notes_of (id_slot id) notes) = (let a = h.made in let d = to (id_slot id) (is_made_for f o) in let e = among (id_slot id) (is_made_for f o) in omega (arith, a, d, e)) in
        let its = subst (λ (z : ℕ). IsIdOf slots notes z id) same (first_id run tasks may notes kept words closing noted o id h.inside made_) in
        let one : id ≡ k.slot * 4294967296 + first = one_id slots notes k.content.operation id (k.slot * 4294967296 + first) (made_once run tasks may notes noted k.content.operation) its lock_is in
        let slot : k.slot ≡ id_slot id = (let a = first_low in omega (arith, one, a)) in
        let version : id_first id ≡ first = (let a = first_low in omega (arith, one, a)) in
        let seen = lock_stays k t.calls.view before.calls.view from known in
        let found : 0 < total (is_saw seen.word) (notes_of (id_slot id) before.calls.view.notes) = subst (λ (z : ℕ). 0 < total (is_saw seen.word) (notes_of z before.calls.view.notes)) slot seen.found in
        let less = b.made_for.made.none_found seen.word found (let a = seen.was_open in omega (arith, a)) in
        let e = seen.first_is in omega (arith, less, version, e)

    -- the result of its call
    began_first : (j : ℕ) (y : Result) → get_elem? (all_results x.thread x.is) j ≡ some y → IsBegun k.content.operation y → y.task.number < (cut c x at i went there tt).number
    began_first j y result begun = dite (dec_lt j here.made)
        (λ lt. (cut c x at i went there tt).first j y.task (task_at x.thread x.is j y result) lt)
        (λ ge. absurd (
        let b = here.rest tt j (omega (arith, ge)) (place_low (tasks_of x) j y.task (task_at x.thread x.is j y result)) in let o = b.operation in
        let same : record { task = o.task; by = o.by } ≡ y = some-injective _ y (sym o.at ∙ result) in
        let op : o.task.op ≡ ops.Call begun.asked = ap (λ (z : Result). z.task.op) same ∙ begun.op in
        let by : o.by ≡ None = ap (λ (z : Result). z.by) same ∙ begun.untold in
        let acted : Acted state p q o.task.number (ops.Call begun.asked) None o.before o.after = subst (λ (z : Option Outcome). Acted state p q o.task.number (ops.Call begun.asked) z o.before o.after) by (subst (λ (z : Op). Acted state p q o.task.number z o.by o.before o.after) op o.acted) in
        not_behind begun.asked acted.0 o.before o.after acted.1 begun.operation b.from.1 (λ m f. (let a = b.to.1 m f in let d = noted_last x.thread x.is m f in omega (arith, a, d)))))

    began_before : (asked : Asked) → asked.operation ≡ k.content.operation → (client : ℕ) → IsOperation every outcomes client asked.operation (ops.Call asked) → client ≡ c → asked.operation < (cut c x at i went there tt).number
    began_before asked same client is e =
        let o : ℕ = k.content.operation in
        let v = total_some (λ (v : View Asked). total (makes o) v.notes) ids (let a = noted.made o in let b = some_made o (k.slot * 4294967296 + first) lock_is in omega (arith, a, b)) in
        let y = map_back view_of crew v.0 v.1 (ap (λ (vs : List (View Asked)). get_elem? vs v.0) (views_are run) ∙ v.2) in
        let b = made_begun y.0.thread y.0.is o (subst (λ (z : View Asked). 0 < total (makes o) z.notes) (sym y.2) v.3) in
        let task = task_at y.0.thread y.0.is b.0 b.1 b.2 in
        let makes_all = may_make run may v.0 y.0 y.1 in
        let own : b.3.asked.operation ≡ b.1.task.number = own_call p q (tasks_of y.0) makes_all.0 makes_all.1 b.0 b.1.task task b.3.asked b.3.op in
        let number : b.1.task.number ≡ asked.operation = sym own ∙ (b.3.operation ∙ sym same) in
        let its = same_task g state p q every outcomes tasks v.0 client b.1.task record { number = asked.operation; op = ops.Call asked } (is_task run outcomes v.0 y.0 y.1 b.0 b.1.task task) is number in
        let one : y.0 ≡ x = some-injective y.0 x (sym y.1 ∙ (ap (get_elem? crew) (its.0 ∙ e) ∙ at)) in
        let low = began_first b.0 b.1 (subst (λ (z : Client g state p q). get_elem? (all_results z.thread z.is) b.0 ≡ some b.1) one b.2) b.3 in
        omega (arith, low, number)

  -- ## Why there was no socket

  pub unopened_why : (fixed : Fixed) (gave : ℕ → List ℕ) (orders : ℕ → Order) (c : ℕ) (x : Client g state p q) → get_elem? crew c ≡ some x → (i : ℕ) (d : Deed g state p q) → get_elem? (deeds_of x) i ≡ some d
      → (code : ℕ) → missed_in d ≡ Some code → (asked : Asked) → IsAskedIn d asked → (client : ℕ) → IsOperation every outcomes client asked.operation (ops.Call asked) → (u : sock_view.View) → Found p (name_of asked (attempt_of d)) None u (socks_behind d)
      → WhyLost p every outcomes fixed gave orders client asked.operation (attempt_of d) (name_of asked (attempt_of d))
  unopened_why fixed gave orders c x at i (operates y by s t a) there code is asked asks client task u found = absurd (found.1 (subst (SeenBy p (name_of asked 0)) found.0 (missed_seen g state p q code y.number y.op by s t a is asked asks)))
  unopened_why fixed gave orders c x at i (retries r s t (had_ended h)) there code is asked asks client task u found = elim asks [ ]
  unopened_why fixed gave orders c x at i (retries r s t (overtaken k v l o)) there code is asked asks client task u found = elim asks [ ]
  unopened_why fixed gave orders c x at i (retries r s t (went_again k v l w)) there code is asked asks client task u found =
      let d : Deed g state p q = retries r s t (went_again k v l w) in let n : ℕ = name_of asked r.attempt in
      let unseen : SeenBy p n s.socks → ⊥ = λ seen. found.1 (subst (SeenBy p n) found.0 ((retry_grew state p q r s t (went_again k v l w)).seen (name_index p n) seen)) in
      WasUnopened (again_later run tasks may notes kept words closing noted c x at i r s t k v l w there) c (cut c x at i d there tt).number (no_setup c x at i d there tt)
      (place_low every c (tasks_of x) (tasks_there run outcomes c x at)) (λ e. began_before c x at i r s t k v l w there asked (ap (λ (y : Asked). y.operation) (sym asks)) client task (sym e))
      (found_none c x at i d there tt fixed gave orders n unseen)
