-- What is reported of a run of a script: what each client told of its operations, and nothing of a `send` of which no client told, where all else that is told are ends of calls.
use Rattle.std.proofs.Common.{◌≡◌, ℕ, zero, suc, ◌+◌, ◌*◌, ◌<◌, ◌≤◌, ◌⊎◌, inl, inr, List, [], ◌∷◌, ◌++◌, append_assoc, length, map, replicate, slice_get, Option, Some, None, refl, sym, ap, ◌∙◌, subst, arith}
use Rattle.std.specs.List.{AllByRecursion}
use Rattle.std.proofs.lemmas.Option.{none-some, slice_get_within}
use mathlib.Core.Option.{some, some-injective, some-ne-none}
use lib.ListN.{get_elem?}
use Rattle.sock_io.specs.declared.link.Out.{Ghosts}
use Rattle.sock_io.specs.LinkHalves.{OutState}
use Rattle.sock_words.specs.declared.outcome.Outcome.{Outcome}
use Rattle.sock_words.specs.declared.outcome.Outcome.TheVariants as outcome
use Rattle.sock_words.specs.declared.plain.Plan.{Plan}
use Rattle.sock_words.specs.declared.place_word.PlaceWord.{PlaceWord}
use Rattle.sock_words.specs.declared.vref.Vref.{Vref}
use Rattle.brpc_model.specs.Items.{Item}
use Rattle.brpc_model.specs.Operations.{Operation, operations}
use Rattle.corr_core.specs.IdSlotLaw.{is_ended}
use Rattle.corr_core.specs.IdSlotWord.{Parts}
use Rattle.corr_core.specs.declared.marks.Note.TheVariants.{Made, Ended, Locker}
use Rattle.corr_core.specs.declared.marks.Noted.{Noted}
use Rattle.corr_core.specs.declared.marks.Plan as id_plan
use Rattle.corr_core.specs.declared.marks.View.{View}
use Rattle.corr_core.proofs.NoteSums.{only-at, total_some}
use Rattle.corr_id.specs.ClosingIdLists.{Closing}
use Rattle.id_rule.specs.LawfulIdTable.{notes_of}
use Rattle.sock_message.specs.Asked.{Asked}
use Rattle.seat_programs.specs.declared.task.Op.TheVariants as ops
use Rattle.seat_programs.specs.declared.task.Task.{Task}
use Rattle.seat_programs.specs.ScriptSetupToEnding.{all_tasks}
use Rattle.seat_programs.specs.Tasks.{plan_of}
use Rattle.seat_programs.specs.Explained.{AreTasks, IsTask, Became}
use Rattle.callless_fits.specs.sock_deeds.specs.outcome_ticks.proofs.TableTasksDistinct.{sorted_of}
use Rattle.callless_fits.specs.sock_deeds.specs.script_facts.proofs.FilteredLists.{some_is, contains_from, within, all_map, all_at as all_there}
use Rattle.callless_fits.specs.sock_deeds.specs.script_facts.proofs.TaskLemmas.{IsTaskOf, task_is, asks_at, asked_at, operation_task}
use Rattle.rpc_client.specs.declared.acting.Told.{Told}
use Rattle.rpc_reader.specs.ReaderBooks.{id_of}
use Rattle.call_run.specs.ReadersOfLinks.{LinkReader}
use Rattle.call_run.specs.Threads.{Thread, RanWith}
use Rattle.calls_done.specs.call_whys.specs.call_told.specs.TellersOfCallEnds.{EndedBy, by_code, by_response, ToldFrom}
use Rattle.calls_done.specs.call_whys.specs.call_told.specs.Least.{is_locked_for}
use Rattle.calls_done.specs.call_whys.specs.call_told.specs.ToldOnce.{ends_of, told_ends}
use Rattle.calls_done.specs.call_whys.specs.call_told.proofs.ToldAnswers.{noted_place}
use Rattle.calls_done.specs.call_whys.specs.call_told.proofs.Balance.{balanced_all}
use Rattle.calls_done.specs.call_whys.specs.call_told.proofs.ToldCallEnds.{IsEndIn}
use Rattle.calls_done.specs.call_whys.specs.call_told.proofs.Least.{lock_of}
use Rattle.calls_done.specs.call_whys.specs.call_told.proofs.ListElementsByPlace.{all_at}
use Rattle.calls_done.specs.call_whys.specs.call_told.proofs.ClientTellingMoves.{Fits}
use Rattle.calls_done.specs.call_whys.specs.call_told.proofs.Tallies.{ending_is}
use Rattle.calls_done.specs.call_whys.specs.call_places.specs.ClientNotesCounted.{makes, HaveNotesOf}
use Rattle.calls_done.specs.call_whys.specs.call_places.proofs.ClientPlaces.{Client, tasks_of, view_of as ids_seen}
use Rattle.calls_done.specs.call_whys.specs.call_places.proofs.CallPlaceOrders.{crew_of, all_are, tasks_are, views_are}
use Rattle.calls_done.specs.call_whys.specs.call_places.proofs.NoteWeights.{term, noted_at}
use Rattle.calls_done.specs.call_whys.specs.call_deeds.specs.ScriptsWithCalls.{Reports}
use Rattle.calls_done.specs.call_whys.specs.call_deeds.proofs.Ran.{Result}
use Rattle.calls_done.specs.call_whys.specs.call_deeds.proofs.OperationsToldOnce.{all_results, task_at, said_of, one_place}
use Rattle.callless_fits.specs.sock_deeds.specs.SocketTableRun.{IsOperation}
use Rattle.calls_done.specs.failed_reasons.proofs.Makers.{made_begun}
use Rattle.script_parts.specs.ThreadScriptTold.{outcomes_of}
use Rattle.script_parts.proofs.ClientSayingsByNumber.{long_each, told_each, none_long, none_told}
use Rattle.script_parts.proofs.Began.{thread_ends_in}
use Rattle.script_parts.proofs.ScriptClientsTold.{balanced}
use Rattle.script_parts.proofs.EachOperationHasOutcome.{task_fits}
use Rattle.script_parts.proofs.MayCall.{IsOwn, IsOwnTask, all_own}
use Rattle.script_parts.proofs.PlacedSends.{each_notes}
use Rattle.script_parts.proofs.SaidStaysAtNumber.{own_said}
use Rattle.callless_fits.specs.sock_deeds.proofs.ListPlaces.{map_back, map_there, to_slice}
use Rattle.sock_words.specs.Totals.{total}

-- what stands in a list of two parts stands in one of them
pub split : {A : Type 0} (xs ys : List A) (i : ℕ) (x : A) → get_elem? (xs ++ ys) i ≡ some x → (get_elem? xs i ≡ some x) ⊎ ((j : ℕ) × (get_elem? ys j ≡ some x))
split [] ys i x e = inr (i, e)
split (y ∷ xs) ys zero x e = inl e
split (y ∷ xs) ys (suc i) x e = split xs ys i x e

pub only_one : {A : Type 0} (a : A) (j : ℕ) (x : A) → get_elem? (a ∷ []) j ≡ some x → a ≡ x
only_one a zero x e = some-injective a x e
only_one a (suc j) x e = absurd (some-ne-none x (sym e))

-- ## Ends of calls that are told

module _ (slots : ℕ) (notes : List (Noted Asked)) where
  -- what is told of a call that ended: the id of that call was made, and this is its end
  pub record IsEndTold (x : Told) : Type 0 where
    pub slot : ℕ
    pub first : ℕ
    pub inside : slot < slots
    pub range : ℕ
    pub asked : Asked
    pub place : ℕ
    pub made : get_elem? (notes_of slot notes) place ≡ some (Made first range asked)
    pub operation : asked.operation ≡ x.number
    pub is_end : ends_of (slot * 4294967296 + first) x.outcome ≡ 1
    pub noted : 0 < total (is_ended first) (notes_of slot notes)

  pub end_made : (x : Told) → IsEndTold x → 0 < total (makes x.number) notes
  end_made x e =
      let n = noted_at e.slot notes e.place (Made e.first e.range e.asked) e.made in
      let a = term (makes x.number) notes n.0 _ n.1 in let b = only-at x.number e.asked.operation e.operation in omega arith

-- by the notes of a seat that has those of all
module _ (q : id_plan.Plan) (v : View Asked) (words : List ℕ) (closing : Closing q v.notes v.kept words) where
  -- the call of a lock was made
  abbrev locked_told : (x : Told) (slot f k : ℕ) (call : Asked) → slot < q.slots → get_elem? (notes_of slot v.notes) k ≡ some (Locker f call) → call.operation ≡ x.number → ends_of (slot * 4294967296 + f) x.outcome ≡ 1 → 0 < total (is_ended f) (notes_of slot v.notes) → IsEndTold q.slots v.notes x
  locked_told x slot f k call inside at is end_ ended_ = let m = closing.locked_made slot f k call inside at in record { slot = slot; first = f; inside = inside; range = m.0; asked = call; place = m.1; made = m.2; operation = is; is_end = end_; noted = ended_ }

  -- what was told by it of calls that ended
  pub from_told : (links : ℕ) (gave : ℕ → List ℕ) (x : Told) → ToldFrom q.slots links gave v x → IsEndTold q.slots v.notes x
  from_told links gave x t =
      let n = noted_place t.slot (Locker t.word.first t.call) v.notes t.lock.locked.0 t.lock.locked.1 in
      let m = noted_place t.slot (Ended t.word.first t.word.attempt) v.notes t.lock.ended.0 t.lock.ended.1 in
      let one = term (is_ended t.word.first) (notes_of t.slot v.notes) m.0 (Ended t.word.first t.word.attempt) m.1 in
      let same = only-at t.word.first t.word.first refl in
      locked_told x t.slot t.word.first n.0 t.call t.inside n.1 (sym t.number) (its_end t.slot t.word x.outcome t.by) (omega (arith, one, same))
    where
      its_end : (slot : ℕ) (w : Parts) (by : Outcome) → EndedBy links gave slot w by → ends_of (id_of slot w) by ≡ 1
      its_end slot w by (by_code code loss e) = ap (ends_of (id_of slot w)) e ∙ only-at (id_of slot w) (id_of slot w) refl
      its_end slot w by (by_response f given e) = ap (ends_of (id_of slot w)) e ∙ (ending_is (id_of slot w) (id_of slot w) f ∙ only-at (id_of slot w) (id_of slot w) refl)

-- ## All that tell

-- how many operations the script has, what is put together of them, and by whom
module _ (script : List Item) (told tellers : List (List Told)) (last : List Told) where
  pub record Together : Type 0 where
    pub many : ℕ
    pub outcomes : List (Option Outcome)
    pub every : List (List Told)

  abbrev pub together : Together
  together = record { many = (plan_of script).operations; outcomes = outcomes_of (plan_of script).operations told tellers last; every = (told ++ tellers) ++ last ∷ [] }

-- ## A run

module _ {O : Type 0} {g : Ghosts O} {state : O → OutState} {readers : List (LinkReader g)} {p : Plan} {slots : ℕ} {setup : List Task} {clients : List (List Task)} {opens : List ℕ} {told ended : List (List Told)} {places : List PlaceWord} {vrefs : List Vref} {outs : List O} {ids : List (View Asked)}
    (ran : RanWith g state readers p slots setup clients opens told ended places vrefs outs ids) (script : List Item) (tasks : setup ∷ clients ≡ all_tasks script) (are : AreTasks p (setup ∷ clients)) where
  open crew_of ran use {q, every as all, crew as callers}

  -- ## Tasks

  pub tasks_there : (c : ℕ) (x : Client g state p q) → get_elem? callers c ≡ some x → slice_get all c ≡ Some (tasks_of x)
  tasks_there c x at = ap (λ (l : List (List Task)). slice_get l c) (sym (tasks_are ran)) ∙ to_slice (map tasks_of callers) c (tasks_of x) (map_there tasks_of callers c x at)

  is_task : (c : ℕ) (x : Client g state p q) → get_elem? callers c ≡ some x → (k : ℕ) (t : Task) → get_elem? (tasks_of x) k ≡ some t → IsTask all [] c t
  is_task c x at k t there = (tasks_of x, tasks_there c x at, contains_from (tasks_of x) t (k, to_slice (tasks_of x) k t there))

  pub of_script : (c : ℕ) (t : Task) → IsTask all [] c t → IsTaskOf script c t
  of_script c t is = task_is script [] c t (subst (λ (l : List (List Task)). IsTask l [] c t) tasks is)

  pub low_number : (c : ℕ) (t : Task) → IsTask all [] c t → t.number < (plan_of script).operations
  low_number c t is = let w = of_script c t is in slice_get_within (operations script) t.number w.operation w.there

  -- two tasks with one number are of one client and ask for the same
  pub same_task : (c d : ℕ) (t u : Task) → IsTask all [] c t → IsTask all [] d u → t.number ≡ u.number → (c ≡ d) × (t.op ≡ u.op)
  same_task c d t u a b e =
      let v = of_script c t a in let w = of_script d u b in
      let same : v.operation ≡ w.operation = some_is v.operation w.operation (sym v.there ∙ (ap (slice_get (operations script)) e ∙ w.there)) in
      (sym v.own ∙ (ap (λ (o : Operation). o.client) same ∙ w.own), some_is t.op u.op (sym v.asks ∙ ((λ i. asks_at script (e i) (same i)) ∙ w.asks)))

  pub owns : AllByRecursion (AllByRecursion IsOwnTask) all
  owns = subst (AllByRecursion (AllByRecursion IsOwnTask)) (sym tasks) (all_own script)

  fits : AllByRecursion (AllByRecursion Fits) all
  fits = all_map (AllByRecursion IsOwnTask) (AllByRecursion Fits) (λ ts h. all_map IsOwnTask Fits (λ t own. task_fits t own) ts h) all owns

  -- ## What came of the operations of a client

  -- its result of the operation with this number, and what it told of it at once
  pub record HasResult (x : Client g state p q) (number : ℕ) (by : Option Outcome) : Type 0 where
    pub place : ℕ
    pub result : Result
    pub at : get_elem? (all_results x.thread x.is) place ≡ some result
    pub number_is : result.task.number ≡ number
    pub by_is : result.by ≡ by

  pub of_client : (c : ℕ) (x : Client g state p q) → get_elem? callers c ≡ some x → (number : ℕ) (by : Option Outcome) (r : HasResult x number by) → IsTask all [] c r.result.task
  of_client c x at number by r = is_task c x at r.place r.result.task (task_at x.thread x.is r.place r.result r.at)

  -- there is one
  one_result : (c : ℕ) (x : Client g state p q) → get_elem? callers c ≡ some x → (number : ℕ) (by so : Option Outcome) → HasResult x number by → HasResult x number so → by ≡ so
  one_result c x at number by so r s =
      let sorted = sorted_of p all are c (tasks_of x) (tasks_there c x at) in
      let place = one_place (tasks_of x) sorted r.place s.place r.result.task s.result.task (task_at x.thread x.is r.place r.result r.at) (task_at x.thread x.is s.place s.result s.at) (r.number_is ∙ sym s.number_is) in
      let same : r.result ≡ s.result = some-injective r.result s.result (sym r.at ∙ (ap (get_elem? (all_results x.thread x.is)) place ∙ s.at)) in
      sym r.by_is ∙ (ap (λ (y : Result). y.by) same ∙ s.by_is)

  -- also over all clients
  same_result : (c d : ℕ) (x y : Client g state p q) → get_elem? callers c ≡ some x → get_elem? callers d ≡ some y → (number : ℕ) (by so : Option Outcome) → HasResult x number by → HasResult y number so → by ≡ so
  same_result c d x y at also number by so r s =
      let e = (same_task c d r.result.task s.result.task (of_client c x at number by r) (of_client d y also number so s) (r.number_is ∙ sym s.number_is)).0 in
      let same : y ≡ x = some-injective y x (sym also ∙ (ap (get_elem? callers) (sym e) ∙ at)) in
      one_result c x at number by so r (subst (λ (z : Client g state p q). HasResult z number so) same s)

  -- what a client told
  record IsOwnTold (c : ℕ) (t : Told) : Type 0 where
    client : Client g state p q
    at : get_elem? callers c ≡ some client
    has : HasResult client t.number (Some t.outcome)

  own_told : (c i : ℕ) (ts : List Told) (t : Told) → get_elem? told c ≡ some ts → get_elem? ts i ≡ some t → IsOwnTold c t
  own_told c i ts t at there =
      let f : Client g state p q → List Told = λ x. x.thread.ended.outcomes.items in
      let w = map_back f callers c ts (ap (λ (l : List (List Told)). get_elem? l c) (all_are ran (λ (x : Thread g). x.ended.outcomes.items) ∙ ran.ran.told_is) ∙ at) in
      let s = said_of w.0.thread w.0.is i t (ap (λ (l : List Told). get_elem? l i) w.2 ∙ there) in
      record { client = w.0; at = w.1; has = record { place = s.0; result = s.1; at = s.2; number_is = sym s.3; by_is = s.4 } }

  -- ## Calls that began

  pub record HasBegun (o : ℕ) : Type 0 where
    pub place : ℕ
    pub client : Client g state p q
    pub at : get_elem? callers place ≡ some client
    pub has : HasResult client o None
    pub asked : Asked
    pub op : has.result.task.op ≡ ops.Call asked

  -- by notes that have those of the clients
  module _ (notes : List (Noted Asked)) (have : HaveNotesOf ids notes) where
    pub have_all : HaveNotesOf (map ids_seen callers) notes
    have_all = subst (λ (vs : List (View Asked)). HaveNotesOf vs notes) (sym (views_are ran)) have

    -- an operation for which an id was made is a call of which its client told nothing at once
    pub begun_of : (o : ℕ) → 0 < total (makes o) notes → HasBegun o
    begun_of o some_ =
        let w = total_some (λ (v : View Asked). total (makes o) v.notes) (map ids_seen callers) (let a = have_all.made o in omega arith) in
        let m = map_back ids_seen callers w.0 w.1 w.2 in
        let b = made_begun m.0.thread m.0.is o (subst (λ (v : View Asked). 0 < total (makes o) v.notes) (sym m.2) w.3) in
        let there = task_at m.0.thread m.0.is b.0 b.1 b.2 in
        let own = all_there IsOwnTask (tasks_of m.0) b.1.task (all_there (AllByRecursion IsOwnTask) all (tasks_of m.0) owns (w.0, tasks_there w.0 m.0 m.1)) (b.0, to_slice (tasks_of m.0) b.0 b.1.task there) in
        let number : b.3.asked.operation ≡ b.1.task.number = subst (IsOwn b.1.task.number) b.3.op own in
        record { place = w.0; client = m.0; at = m.1; has = record { place = b.0; result = b.1; at = b.2; number_is = sym number ∙ b.3.operation; by_is = b.3.untold }; asked = b.3.asked; op = b.3.op }

    -- no client told of a call that began
    pub apart : (c i : ℕ) (ts : List Told) (t : Told) → get_elem? told c ≡ some ts → get_elem? ts i ≡ some t → 0 < total (makes t.number) notes → ⊥
    apart c i ts t at there made =
        let o = own_told c i ts t at there in let b = begun_of t.number made in
        none-some t.outcome (same_result b.place c b.client o.client b.at o.at t.number None (Some t.outcome) b.has o.has)

  -- by the notes of a seat that has those of all
  module _ (v : View Asked) (words : List ℕ) (closing : Closing q v.notes v.kept words) (have : HaveNotesOf ids v.notes) where
    -- as many ends as the clients told were noted
    ended_noted : (slot first : ℕ) → first < 4294967296 → total (told_ends (slot * 4294967296 + first)) ended ≤ total (is_ended first) (notes_of slot v.notes)
    ended_noted slot first low =
        let a = balanced_all ended ids (balanced state p q setup clients opens told ended ran.seats ids ran.ran) slot first low in
        let b = each_notes slot (is_ended first) ids in
        let d = have.all slot (is_ended first) in omega arith

    -- of what a client told of a call that it ended, a client noted the end
    pub own_noted : (slot first : ℕ) → first < 4294967296 → (d j : ℕ) (ts : List Told) (x : Told) → get_elem? ended d ≡ some ts → get_elem? ts j ≡ some x → ends_of (slot * 4294967296 + first) x.outcome ≡ 1 → 0 < total (λ (y : View Asked). total (is_ended first) (notes_of slot y.notes)) ids
    own_noted slot first low d j ts x at there is =
        let id = slot * 4294967296 + first in
        let a = balanced_all ended ids (balanced state p q setup clients opens told ended ran.seats ids ran.ran) slot first low in
        let b = term (λ (y : Told). ends_of id y.outcome) ts j x there in let k = term (told_ends id) ended d ts at in let e = each_notes slot (is_ended first) ids in omega (arith, a, b, k, e, is)

    -- what a client told of the calls that it ended
    pub ended_told : (d j : ℕ) (ts : List Told) (x : Told) → get_elem? ended d ≡ some ts → get_elem? ts j ≡ some x → (e : IsEndTold slots v.notes x) × (e.first < 4294967296)
    ended_told d j ts x at there =
        let f : Client g state p q → List Told = λ y. y.thread.ended.calls.told.items in
        let w = map_back f callers d ts (ap (λ (l : List (List Told)). get_elem? l d) (all_are ran (λ (y : Thread g). y.ended.calls.told.items) ∙ ran.ran.ended_is) ∙ at) in
        let u = ids_seen w.0 in
        let its = all_there (AllByRecursion Fits) all (tasks_of w.0) fits (d, tasks_there d w.0 w.1) in
        let e = all_at (IsEndIn slots u) (f w.0) j x (thread_ends_in g state p q w.0.first w.0.thread its w.0.is) (ap (λ (l : List Told). get_elem? l j) w.2 ∙ there) in
        let lock = is_locked_for e.is.first x.number in
        let here = (have_all v.notes have).all e.is.slot lock in
        let one = term (λ (y : View Asked). total lock (notes_of e.is.slot y.notes)) (map ids_seen callers) d u (map_there ids_seen callers d w.0 w.1) in
        let l = total_some lock (notes_of e.is.slot v.notes) (let s = e.is.locked in omega arith) in
        let call = lock_of e.is.first x.number l.1 l.3 in
        let id = e.is.slot * 4294967296 + e.is.first in
        let its_end = e.is.is_end id ∙ only-at id id refl in (
          locked_told q v words closing x e.is.slot e.is.first l.0 call.0 e.inside (l.2 ∙ ap some call.1) call.2 its_end
              (let b = term (λ (y : Told). ends_of id y.outcome) ts j x there in let d = term (told_ends id) ended d ts at in let n = ended_noted e.is.slot e.is.first e.is.low in omega (arith, b, d, n, its_end)),
          e.is.low,
        )

  -- ## All that is told

  -- all that is told besides what the clients told of their own are ends of calls
  module _ (notes : List (Noted Asked)) (have : HaveNotesOf ids notes) (tellers : List (List Told)) (last : List Told)
      (end_told : (d j : ℕ) (ts : List Told) (x : Told) → get_elem? (tellers ++ last ∷ []) d ≡ some ts → get_elem? ts j ≡ some x → IsEndTold slots notes x) where
    open together script told tellers last use {many, outcomes, every}

    -- a client told it of its own operation, or it is the end of a call
    pub whose : (d j : ℕ) (ts : List Told) (x : Told) → get_elem? every d ≡ some ts → get_elem? ts j ≡ some x → (get_elem? told d ≡ some ts) ⊎ ((e : ℕ) × (get_elem? (tellers ++ last ∷ []) e ≡ some ts) × IsEndTold slots notes x)
    whose d j ts x at there = elim (split told (tellers ++ last ∷ []) d ts (ap (λ (l : List (List Told)). get_elem? l d) (sym (append_assoc told tellers (last ∷ []))) ∙ at)) [
      | inl own ↦ inl own
      | inr w ↦ inr (w.0, w.1, end_told w.0 j ts x w.1 there)
    ]

    -- so is each that became of an operation
    pub told_of : (n : ℕ) (o : Outcome) → Became all outcomes n o → (x : Told) × (x.number ≡ n) × (x.outcome ≡ o) × (((d j : ℕ) × (ts : List Told) × (get_elem? told d ≡ some ts) × (get_elem? ts j ≡ some x))
        ⊎ ((e j : ℕ) × (ts : List Told) × (get_elem? (tellers ++ last ∷ []) e ≡ some ts) × (get_elem? ts j ≡ some x) × IsEndTold slots notes x))
    told_of n o became = elim (told_each (replicate many None) every n o became) [
      | inl none_ ↦ absurd (none_told many n o none_)
      | inr w ↦ (w.3.1, w.3.3, w.3.4, elim (whose w.0 w.3.0 w.1 w.3.1 w.2 w.3.2) [ inl own ↦ inl (w.0, w.3.0, w.1, own, w.3.2) | inr over ↦ inr (over.0, w.3.0, w.1, over.1, w.3.2, over.2) ])
    ]

    pub long : length outcomes ≡ many
    long = long_each (replicate many None) every ∙ none_long many

    pub said : (c i : ℕ) (ts : List Told) (t : Told) → get_elem? told c ≡ some ts → get_elem? ts i ≡ some t → Became all outcomes t.number t.outcome
    said c i ts t at there =
        let o = own_told c i ts t at there in
        let less = subst (λ n. n < many) o.has.number_is (low_number c o.has.result.task (of_client c o.client o.at t.number (Some t.outcome) o.has)) in
        let h = own_said many told tellers last t.number less record { teller = c; place = i; told = ts; one = t; by = at; at = there; number = refl } in
        by h.0 h.1
      where
        by : (o : Outcome) → Became all outcomes t.number o → Became all outcomes t.number t.outcome
        by o e = let w = told_of t.number o e in elim w.3 [
          | inl own ↦ (
              let a = own_told c i ts t at there in let b = own_told own.0 own.1 own.2 w.0 own.3 own.4 in
              let same : Some w.0.outcome ≡ Some t.outcome = same_result own.0 c b.client a.client b.at a.at t.number (Some w.0.outcome) (Some t.outcome) (subst (λ n. HasResult b.client n (Some w.0.outcome)) w.1 b.has) a.has in
              e ∙ ap Some (ap Some (sym w.2) ∙ same))
          | inr over ↦ absurd (apart notes have c i ts t at there (subst (λ n. 0 < total (makes n) notes) w.1 (end_made slots notes w.0 over.5)))
        ]

    unsaid : (c number n : ℕ) (message : List ℕ) → IsOperation all outcomes c number (ops.Send n message) → ((d i : ℕ) (ts : List Told) (t : Told) → get_elem? told d ≡ some ts → get_elem? ts i ≡ some t → t.number ≡ number → ⊥) → slice_get outcomes number ≡ Some None
    unsaid c number n message is quiet =
        let sends : Task = record { number = number; op = ops.Send n message } in
        let low = low_number c sends is in
        let w = within outcomes number (let l = long in omega arith) in by w.0 w.1
      where
        by : (o : Option Outcome) → slice_get outcomes number ≡ Some o → slice_get outcomes number ≡ Some None
        by None e = e
        by (Some o) e = let w = told_of number o e in elim w.3 [
          | inl own ↦ absurd (quiet own.0 own.1 own.2 w.0 own.3 own.4 w.1)
          | inr over ↦ (
              let b = begun_of notes have number (subst (λ n. 0 < total (makes n) notes) w.1 (end_made slots notes w.0 over.5)) in
              let sends : Task = record { number = number; op = ops.Send n message } in
              let same : ops.Send n message ≡ ops.Call b.asked = (same_task c b.place sends b.has.result.task is (of_client b.place b.client b.at number None b.has) (sym b.has.number_is)).1 ∙ b.op in absurd (cc))
        ]

    -- that an operation is unopened a client told
    pub unopened : (n : ℕ) → Became all outcomes n outcome.Unopened → (c i : ℕ) × (ts : List Told) × (t : Told) × (get_elem? told c ≡ some ts) × (get_elem? ts i ≡ some t) × (t.number ≡ n)
    unopened n became = let w = told_of n outcome.Unopened became in elim w.3 [
      | inl own ↦ (own.0, own.1, own.2, w.0, own.3, own.4, w.1)
      | inr over ↦ absurd (let a = over.5.is_end in let b = ap (ends_of (over.5.slot * 4294967296 + over.5.first)) w.2 in omega arith)
    ]

    alone : (n : ℕ) (by : Outcome) → Became all outcomes n by → (c : ℕ) × (t : Task) × IsTask all outcomes c t × (t.number ≡ n)
    alone n by became =
        let low = slice_get_within outcomes n (Some by) became in
        let w = within (operations script) n (let l = long in omega arith) in let a = asked_at script n w.0 w.1 in
        let t : Task = record { number = n; op = a.0 } in
        (w.0.client, t, subst (λ (l : List (List Task)). IsTask l outcomes w.0.client t) (sym tasks) (operation_task script outcomes n w.0 a.0 w.1 a.1), refl)

    -- what became of an operation for which an id was made is the end of a call
    pub became_end : (o : ℕ) (by : Outcome) → 0 < total (makes o) notes → Became all outcomes o by → (x : Told) × IsEndTold slots notes x × (x.number ≡ o) × (x.outcome ≡ by)
    became_end o by made became = let w = told_of o by became in elim w.3 [
      | inl own ↦ absurd (apart notes have own.0 own.1 own.2 w.0 own.3 own.4 (subst (λ n. 0 < total (makes n) notes) (sym w.1) made))
      | inr over ↦ (w.0, over.5, w.1, w.2)
    ]

    -- what each client told is what is reported
    pub reports : Reports all outcomes told
    reports = record { said = said; unsaid = unsaid; unopened = unopened; alone = alone }
