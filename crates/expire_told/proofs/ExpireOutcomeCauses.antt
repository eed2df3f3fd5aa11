-- Why each `expire` of a run with calls has its outcome.
use Rattle.std.proofs.Common.{◌≡◌, ◌≢◌, ℕ, ◌+◌, ◌*◌, ◌%◌, ◌≤◌, ◌<◌, ◌⊎◌, inl, inr, false, List, [], ◌∷◌, ◌++◌, length, Some, None, refl, sym, ap, ◌∙◌, subst, arith}
use Rattle.std.specs.Prelude.{slice_get, Option}
use Rattle.std.specs.List.{AllByRecursion}
use Rattle.std.proofs.lemmas.Nat.{div-add-mod'}
use mathlib.Core.Logic.{dite}
use mathlib.Core.Option.{some, some-injective}
use native.Mathlib.Decide.{ℕ_discrete, dec_lt}
use lib.ListN.{get_elem?}
use Rattle.atomic_table.specs.Table.{Me}
use Rattle.brpc_model.specs.Order.{EachBefore}
use Rattle.call_told.specs.call_places.specs.script_facts.proofs.FilteredLists.{has_from, some_is}
use Rattle.sock_io.specs.declared.link.Out.{Ghosts}
use Rattle.sock_io.specs.LinkHalves.{OutState}
use Rattle.sock_words.specs.ErrorCodes.{ERPCTIMEDOUT}
use Rattle.sock_words.specs.declared.outcome.Outcome.{Outcome}
use Rattle.sock_words.specs.declared.outcome.Outcome.TheVariants as outcome
use Rattle.sock_words.specs.declared.plain.Plan.{Plan}
use Rattle.sock_words.specs.declared.place_word.PlaceWord.{PlaceWord}
use Rattle.sock_words.specs.declared.vref.Vref.{Vref}
use Rattle.seat_programs.specs.declared.task.Op.{Op}
use Rattle.seat_programs.specs.declared.task.Op.TheVariants as ops
use Rattle.seat_programs.specs.declared.task.Task.{Task}
use Rattle.seat_programs.specs.Explained.{HaveOwnLinks, AreTasks, IsTask, Became}
use Rattle.corr_core.specs.IdSlotWord.{parts}
use Rattle.corr_core.specs.IdSlotLaw.{is_ended}
use Rattle.corr_core.specs.declared.marks.Kept.{Kept}
use Rattle.corr_core.specs.declared.marks.Note.{Note}
use Rattle.corr_core.specs.declared.marks.Noted.{Noted}
use Rattle.corr_core.specs.declared.marks.Plan as id_plan
use Rattle.corr_core.specs.declared.marks.View.{View}
use Rattle.corr_core.proofs.NoteSums.{only-at, total_some}
use Rattle.id_rule.specs.LawfulIdTable.{call_index, notes_of, is_stored}
use Rattle.sock_message.specs.Asked.{Asked}
use Rattle.corr_id.specs.ClosingIdLists.{Closing}
use Rattle.corr_id.specs.Ruled.{is_place}
use Rattle.call_told.specs.Below.RpcClient.Told.{Told}
use Rattle.call_told.specs.Below.RpcClient.ToldOfOperation.{telling}
use Rattle.call_told.specs.call_places.specs.sock_deeds.proofs.Flats.{append_first, append_later}
use Rattle.call_told.specs.Below.CallErrors.ClientBooks.{CallStand, stand_of}
use Rattle.call_told.specs.Below.CallErrors.CallEndsWithCode.{failed}
use Rattle.call_told.specs.Below.CallErrors.LockingByVersion.{id_in}
use Rattle.call_told.specs.Below.CallErrors.ExpireAndJoinOutcomes.{ExpiredBy, TimedOut}
use Rattle.call_told.specs.Below.CallClient.ClientBetweenOperations.{Stand, stand, both_of, Acted}
use Rattle.call_told.specs.Below.CallClient.ClientRun.{begins, MayMakeAll}
use Rattle.call_told.specs.Below.CallRun.ReadersOfLinks.{LinkReader}
use Rattle.call_told.specs.Below.CallRun.Threads.{Thread, RanWith, AllMayRun, MayRunAll, ids_of}
use Rattle.call_told.specs.call_places.specs.ClientNotesCounted.{HaveNotesOf}
use Rattle.call_told.specs.call_places.proofs.NoteWeights.{term, two_terms}
use Rattle.call_told.specs.call_places.proofs.TaskNumbers.{numbered_once}
use Rattle.call_told.specs.call_places.proofs.ClientPlaces.{Client, total_map, view_of, tasks_of}
use Rattle.call_told.specs.call_places.proofs.CallPlaceOrders.{all_are, views_are, tasks_are, crew_of}
use Rattle.call_told.specs.Least.{is_made_for, HasBegun}
use Rattle.call_told.proofs.Balance.{noted_ends}
use Rattle.call_told.proofs.GrowingCallNotes.{own_at}
use Rattle.call_told.proofs.Least.{word_is, end_number}
use Rattle.call_told.proofs.ListElementsByPlace.{all_at}
use Rattle.call_told.proofs.ClientTellingMoves.{Fits, is_task, expired_by, retried_here, made_moves, end_moves, run_moves}
use Rattle.call_told.proofs.RestingCallsEnded.{is_word}
use Rattle.call_told.proofs.Coming.{begun_later, made_begun}
use Rattle.expire_told.specs.ExpireOutcomesSaid.{AreSaid, AreOfCalls, HaveKeptOf}
use Rattle.expire_told.proofs.ClientAtOperation.{GoesOn, on_then, Split, ran_split, Done, done_of, run_fed}
use Rattle.expire_told.proofs.StoredIdsOfCalls.{BegunIn, ran_stored}
use Rattle.expire_told.proofs.OperationWordStorers.{before_in, owned, placed, same_stored}
use Rattle.expire_told.proofs.ExpireEndedCall.{EndsAs, timed_out_word, timed_out_ends}
use Rattle.call_told.specs.call_places.specs.sock_deeds.proofs.ListPlaces.{map_back, to_elem, map_there}
use Rattle.sock_words.specs.PackedWords.{id_slot, id_first}
use Rattle.sock_words.specs.Totals.{total}

-- ## Calls have their own numbers

all_fits : (p : Plan) (q : id_plan.Plan) (ts : List Task) (n : ℕ) → MayMakeAll p q ts n → AllByRecursion Fits ts
all_fits p q [] n m = tt
all_fits p q (t ∷ ts) n m = (λ asked is. one t.op is m.0.needs, all_fits p q ts _ m.1)
  where
    one : (op : Op) {asked : Asked} → op ≡ ops.Call asked → Rattle.call_told.specs.Below.CallClient.ClientBetweenOperations.Needs p q t.number op n → asked.operation ≡ t.number
    one op {asked} is needs = let h : Rattle.call_told.specs.Below.CallClient.ClientBetweenOperations.Needs p q t.number (ops.Call asked) n = subst (λ (x : Op). Rattle.call_told.specs.Below.CallClient.ClientBetweenOperations.Needs p q t.number x n) is needs in h.1

each_fits : (p : Plan) (q : id_plan.Plan) (tss : List (List Task)) → AllMayRun p q tss → AllByRecursion (AllByRecursion Fits) tss
each_fits p q [] m = tt
each_fits p q (ts ∷ tss) m = (all_fits p q ts _ m.0.may, each_fits p q tss m.1)

-- an operation as this one, which is never done without an outcome, has one
pub with_outcome : {O : Type 0} {g : Ghosts O} (state : O → OutState) (p : Plan) (q : id_plan.Plan) (number : ℕ) (wanted op : Op) (by : Option Outcome) (s t : Stand g) (R : Outcome → Type 0) → op ≡ wanted
    → (Acted state p q number wanted None s t → ⊥) → ((o : Outcome) → Acted state p q number wanted (Some o) s t → R o) → Acted state p q number op by s t → (o : Outcome) × (by ≡ Some o) × R o
with_outcome {O} {g} state p q number wanted op by s t R is never gives acted = of by (subst (λ (x : Op). Acted state p q number x by s t) is acted)
  where
    of : (b : Option Outcome) → Acted state p q number wanted b s t → (o : Outcome) × (b ≡ Some o) × R o
    of None a = absurd (never a)
    of (Some o) a = (o, refl, gives o a)

-- an `expire` has an outcome, by what was done
expire_acted : {O : Type 0} {g : Ghosts O} (state : O → OutState) (p : Plan) (q : id_plan.Plan) (number of : ℕ) (op : Op) (by : Option Outcome) (s t : Stand g) → op ≡ ops.Expire of → Acted state p q number op by s t → (o : Outcome) × (by ≡ Some o) × ExpiredBy q of o s.calls t.calls
expire_acted state p q number of op by s t is = with_outcome state p q number (ops.Expire of) op by s t (λ o. ExpiredBy q of o s.calls t.calls) is (λ a. a) (λ o a. a.0)

-- a call was answered unopened, or has begun: by an id that the client had found at no operation
pub call_acted : {O : Type 0} {g : Ghosts O} (state : O → OutState) (p : Plan) (q : id_plan.Plan) (number : ℕ) (asked : Asked) (op : Op) (by : Option Outcome) (s t : Stand g) → op ≡ ops.Call asked → Acted state p q number op by s t
    → (by ≡ Some outcome.Unopened) ⊎ ((id : ℕ) × HasBegun q asked.operation id t.calls.view × ((x : ℕ) → x % 2 ≡ 0 → total (is_word x id) s.calls.view.kept ≡ 0))
call_acted {O} {g} state p q number asked op by s t is acted = with by (subst (λ (x : Op). Acted state p q number x by s t) is acted)
  where
    with : (b : Option Outcome) → Acted state p q number (ops.Call asked) b s t → (b ≡ Some outcome.Unopened) ⊎ ((id : ℕ) × HasBegun q asked.operation id t.calls.view × ((x : ℕ) → x % 2 ≡ 0 → total (is_word x id) s.calls.view.kept ≡ 0))
    with None a = inr (a.0, made_begun q state p asked a.0 (both_of s) (both_of t) a.1, a.1.made_for.made.unnoted)
    with (Some outcome.Unopened) a = inl refl
    with (Some _) a = elim a [ ]

-- an end that is noted of an id
end_at : (v : View Asked) (a b : ℕ) → a ≡ b → 1 ≤ noted_ends (id_slot a) (id_first a) v.notes → 1 ≤ noted_ends (id_slot b) (id_first b) v.notes
end_at v a b e h = subst (λ (id : ℕ). 1 ≤ noted_ends (id_slot id) (id_first id) v.notes) e h

abbrev pub InOrder : Task → Task → Type 0
InOrder a b = (a.number < b.number) × HaveOwnLinks a.op b.op

module _ {O : Type 0} {g : Ghosts O} {state : O → OutState} {readers : List (LinkReader g)} {p : Plan} {slots : ℕ} {setup : List Task} {clients : List (List Task)} {opens : List ℕ} {told ended : List (List Told)} {places : List PlaceWord} {vrefs : List Vref} {outs : List O} {ids : List (View Asked)}
    (run : RanWith g state readers p slots setup clients opens told ended places vrefs outs ids) (tasks : AreTasks p (setup ∷ clients)) (may : MayRunAll p (ids_of p slots) setup clients)
    (notes : List (Noted Asked)) (kept : List Kept) (words : List ℕ) (closing : Closing (ids_of p slots) notes kept words) (noted : HaveNotesOf ids notes) (keeps : HaveKeptOf ids kept)
    (outcomes : List (Option Outcome)) (said_own : AreSaid outcomes told) (said_ended : AreSaid outcomes ended) where
  open crew_of run use {q, every, crew}

  -- ## Clients and their tasks

  client_at : (c : ℕ) (ts : List Task) → slice_get every c ≡ Some ts → (x : Client g state p q) × (get_elem? crew c ≡ some x) × (tasks_of x ≡ ts)
  client_at c ts e = map_back tasks_of crew c ts (ap (λ (l : List (List Task)). get_elem? l c) (tasks_are run) ∙ to_elem every c ts e)

  pub tasks_at : (c : ℕ) (x : Client g state p q) → get_elem? crew c ≡ some x → get_elem? every c ≡ some (tasks_of x)
  tasks_at c x at = ap (λ (l : List (List Task)). get_elem? l c) (sym (tasks_are run)) ∙ map_there tasks_of crew c x at

  pub fits : (c : ℕ) (x : Client g state p q) → get_elem? crew c ≡ some x → AllByRecursion Fits (tasks_of x)
  fits c x at = all_at (AllByRecursion Fits) every c (tasks_of x) (all_fits p q setup _ may.setup_may.may, each_fits p q clients may.clients_may) (tasks_at c x at)

  -- a task that was made
  pub record IsMade (c : ℕ) (t : Task) : Type 0 where
    pub client : Client g state p q
    pub at : get_elem? crew c ≡ some client
    pub place : ℕ
    pub there : get_elem? (tasks_of client) place ≡ some t
    pub done : Done state p q client.thread.tasks client.thread.began client.thread.ended place t

  pub made_of : (c : ℕ) (t : Task) → IsTask every outcomes c t → IsMade c t
  made_of c t is =
      let x = client_at c is.0 is.1 in let h = has_from is.0 t is.2 in
      let there : get_elem? (tasks_of x.0) h.0 ≡ some t = ap (λ (l : List Task). get_elem? l h.0) x.2 ∙ to_elem is.0 h.0 t h.1 in record {
        client = x.0;
        at = x.1;
        place = h.0;
        there = there;
        done = done_of state p q x.0.thread.tasks x.0.thread.began x.0.thread.ended (fits c x.0 x.1) x.0.is.ran h.0 t there;
      }

  -- two tasks of a client are among the tasks of one
  here_too : (c : ℕ) (t u : Task) (m : IsMade c t) (n : IsMade c u) → get_elem? (tasks_of n.client) m.place ≡ some t
  here_too c t u m n = subst (λ (x : Client g state p q). get_elem? (tasks_of x) m.place ≡ some t) (some-injective m.client n.client (sym m.at ∙ n.at)) m.there

  record TwoMade (c : ℕ) (t u : Task) : Type 0 where
    pub first : IsMade c t
    pub second : IsMade c u
    pub there : get_elem? (tasks_of second.client) first.place ≡ some t

  two_made : (c : ℕ) (t u : Task) → IsTask every outcomes c t → IsTask every outcomes c u → TwoMade c t u
  two_made c t u tis uis = let m = made_of c t tis in let n = made_of c u uis in record { first = m; second = n; there = here_too c t u m n }

  -- what it told is what became of it
  pub own_told : (c : ℕ) (t : Task) (m : IsMade c t) (o : Outcome) → m.done.made.by ≡ Some o → Became every outcomes t.number o
  own_told c t m o is =
      let f : Thread g → List Told = λ x. x.ended.outcomes.items in let d = m.done in let one : Told = record { number = t.number; outcome = o } in
      let list : get_elem? told c ≡ some m.client.thread.ended.outcomes.items = ap (λ (l : List (List Told)). get_elem? l c) (sym (all_are run f ∙ run.ran.told_is)) ∙ map_there (λ (x : Client g state p q). f x.thread) crew c m.client m.at in
      let behind : d.after.told ≡ d.before.told ++ one ∷ [] = d.made.told ∙ ap (λ (b : Option Outcome). d.before.told ++ telling t.number b) is in
      said_own c (length d.before.told + 0) m.client.thread.ended.outcomes.items one list
      (ap (λ (l : List Told). get_elem? l (length d.before.told + 0)) (d.told.1 ∙ ap (λ (l : List Told). l ++ d.told.0) behind)
      ∙ append_first (d.before.told ++ one ∷ []) d.told.0 (length d.before.told + 0) one (append_later d.before.told (one ∷ []) 0 one refl))

  -- so an `expire` of which this is reported did this
  pub expire_made : (c of : ℕ) (t : Task) (o : Outcome) (m : IsMade c t) → t.op ≡ ops.Expire of → Became every outcomes t.number o → ExpiredBy q of o m.done.made.ready.calls m.done.after.has.calls
  expire_made c of t o m is became =
      let a = expire_acted state p q t.number of t.op m.done.made.by m.done.made.ready m.done.after.has is m.done.made.acted in
      let same : a.0 ≡ o = some_is a.0 o (some_is (Some a.0) (Some o) (sym (own_told c t m a.0 a.1) ∙ became)) in
      subst (λ (x : Outcome). ExpiredBy q of x m.done.made.ready.calls m.done.after.has.calls) same a.2

  -- ## What the closed table has of them

  within : (c : ℕ) (x : Client g state p q) → get_elem? crew c ≡ some x → (slot : ℕ) (f : Note Asked → ℕ) → total f (notes_of slot (view_of x).notes) ≤ total f (notes_of slot notes)
  within c x at slot f =
      let h : View Asked → ℕ = λ v. total f (notes_of slot v.notes) in
      let a = term (λ (y : Client g state p q). h (view_of y)) crew c x at in let b = total_map h view_of crew in let d = ap (total h) (views_are run) in let e = noted.all slot f in omega arith

  kept_within : (c : ℕ) (x : Client g state p q) → get_elem? crew c ≡ some x → (f : Kept → ℕ) → total f (view_of x).kept ≤ total f kept
  kept_within c x at f =
      let h : View Asked → ℕ = λ v. total f v.kept in
      let a = term (λ (y : Client g state p q). h (view_of y)) crew c x at in let b = total_map h view_of crew in let d = ap (total h) (views_are run) in let e = keeps.all f in omega arith

  -- a client stores as many ids for an operation as it has tasks of that number
  own_stored : (c : ℕ) (x : Client g state p q) → get_elem? crew c ≡ some x → (o : ℕ) → total (own_at (call_index q o)) (view_of x).kept ≤ total (is_task o) (tasks_of x)
  own_stored c x at o =
      let a = (run_moves q o state p x.thread.tasks x.thread.began x.thread.ended (fits c x at) x.is.ran).grows.own in
      let b = ap (λ (m : Me (Option Asked) (View Asked)). total (own_at (call_index q o)) m.0.kept) x.is.ids in omega arith

  -- which is one at most
  few_stored : (c : ℕ) (x : Client g state p q) → get_elem? crew c ≡ some x → (o : ℕ) → total (own_at (call_index q o)) (view_of x).kept ≤ 1
  few_stored c x at o =
      let a = own_stored c x at o in
      let d = term (λ (ts : List Task). total (is_task o) ts) every c (tasks_of x) (tasks_at c x at) in let e = numbered_once p every tasks o in omega arith

  -- and so do all together
  pub one_stored : (o a b c d : ℕ) (x y : Client g state p q) → get_elem? crew c ≡ some x → get_elem? crew d ≡ some y → 0 < total (is_stored (call_index q o) a) (view_of x).kept → 0 < total (is_stored (call_index q o) b) (view_of y).kept → a ≡ b
  one_stored o a b c d x y here there h k = dite (ℕ_discrete c d)
      (λ e. let same : y ≡ x = some-injective y x (sym there ∙ (ap (get_elem? crew) (sym e) ∙ here)) in
      same_stored (call_index q o) a b (view_of x).kept (few_stored c x here o) h (subst (λ (z : Client g state p q). 0 < total (is_stored (call_index q o) b) (view_of z).kept) same k))
      (λ n. absurd (
      let i = own_stored c x here o in let j = own_stored d y there o in let l = owned (call_index q o) a (view_of x).kept in let m = owned (call_index q o) b (view_of y).kept in
      let both = two_terms (λ (ts : List Task). total (is_task o) ts) every c d (tasks_of x) (tasks_of y) (tasks_at c x here) (tasks_at d y there) n in let e = numbered_once p every tasks o in
      omega (arith, i, j, l, m, both, e, h, k)
      ))

  -- whoever made the id of a call
  pub record IsMaker (o id : ℕ) : Type 0 where
    pub place : ℕ
    pub client : Client g state p q
    pub at : get_elem? crew place ≡ some client
    pub own : BegunIn q o client.thread.tasks (view_of client)
    pub begun : HasBegun q o id (view_of client)

  maker : (o id c : ℕ) (x : Client g state p q) → get_elem? crew c ≡ some x → 0 < total (is_stored (call_index q o) id) (view_of x).kept → IsMaker o id
  maker o id c x at stored =
      let r = x.is.ran in let w = call_index q o in
      let e = end_moves q o state p x.thread.tasks x.thread.began x.thread.ended r in
      let a = owned w id (view_of x).kept in let b = e.grows.own in
      let none_ = ap (λ (m : Me (Option Asked) (View Asked)). total (own_at w) m.0.kept) x.is.ids in
      let h = ran_stored q state p o x.thread.tasks (fits c x at) r.made (begins x.thread.began) (record { has = stand r.came; told = r.came.outcomes.items; names = r.ran.names }) r.ran.ran none_ (omega arith) in
      let begun = begun_later q w 0 o h.id r.came.calls.seat.me.0 (view_of x) e.grows h.begun in
      let same : h.id ≡ id = same_stored w h.id id (view_of x).kept (few_stored c x at o) begun.stored stored in record {
        place = c;
        client = x;
        at = at;
        own = record { place = h.place; task = h.task; there = h.there; asked = h.asked; is_call = h.is_call; operation = h.operation; id = h.id; begun = begun };
        begun = subst (λ (i : ℕ). HasBegun q o i (view_of x)) same begun;
      }

  -- an id that a client found where the operation's word is
  pub found_maker : (o id c : ℕ) (x : Client g state p q) → get_elem? crew c ≡ some x → 0 < total (is_word (call_index q o) id) (view_of x).kept → IsMaker o id
  found_maker o id c x at found =
      let w = call_index q o in let f : View Asked → ℕ = λ v. total (is_stored w id) v.kept in
      let k = total_some (is_word w id) kept (let a = kept_within c x at (is_word w id) in omega arith) in let is = word_is w id k.1 k.3 in
      let stored : 0 < total (is_stored w id) kept = subst (λ (y : ℕ). 0 < total (is_stored w y) kept) is.1 (subst (λ (y : ℕ). 0 < total (is_stored y k.1.word) kept) is.0 (closing.found_stored k.1 k.0 k.2)) in
      let s = total_some (λ (y : Client g state p q). f (view_of y)) crew (let a = keeps.stored w id in let b = total_map f view_of crew in let d = ap (total f) (views_are run) in omega arith) in
      maker o id s.0 s.1 s.2 s.3

  -- ## Expired

  -- the call that it ended is the one that was asked for
  its_call : (c of : ℕ) (x : Client g state p q) → get_elem? crew c ≡ some x → (s t : CallStand) (e : EndsAs q of s t) → ((slot : ℕ) (f : Note Asked → ℕ) → total f (notes_of slot t.view.notes) ≤ total f (notes_of slot (view_of x).notes)) → IsMaker of e.id → e.lock.content.operation ≡ of
  its_call c of x at s t e grows m =
      let k = e.lock in let whole : id_slot e.id * 4294967296 + id_first e.id ≡ e.id = div-add-mod' e.id 4294967296 in let slot = e.slot_is in let first = e.first_is in
      end_number q notes kept words closing of e.id (view_of x) (failed k ERPCTIMEDOUT) (within c x at) (let a = e.inside in omega arith)
      (let a = m.begun.made in let b = within m.place m.client m.at (id_slot e.id) (is_made_for (id_first e.id) of) in omega arith)
      (record {
        slot = k.slot;
        first = (parts k.word.0).first;
        low = (let l = k.fits.low in omega arith);
        is_end = λ i. refl;
        locked = (let a = e.locked in let b = grows k.slot (Rattle.call_told.specs.Least.is_locked_for (parts k.word.0).first k.content.operation) in omega arith);
      })
      (let a = only-at e.id (id_in k) (omega (arith, whole, slot, first)) in omega arith)

  -- its end was told, with its id
  pub id_became : (c of : ℕ) (x : Client g state p q) → get_elem? crew c ≡ some x → (s t : CallStand) (e : EndsAs q of s t) → GoesOn q t (stand_of x.thread.ended.calls) → Became every outcomes of (outcome.CallFailed e.id ERPCTIMEDOUT)
  id_became c of x at s t e later =
      let k = e.lock in let one : Told = failed k ERPCTIMEDOUT in let l = (later of).1 in
      let found : 0 < total (is_word (call_index q of) e.id) (view_of x).kept = (let a = e.found in let b = l.grows.kept (is_word (call_index q of) e.id) in omega (arith, a, b)) in
      let call = its_call c of x at s t e l.grows.notes (found_maker of e.id c x at found) in
      let f : Thread g → List Told = λ y. y.ended.calls.told.items in
      let list : get_elem? ended c ≡ some x.thread.ended.calls.told.items = ap (λ (y : List (List Told)). get_elem? y c) (sym (all_are run f ∙ run.ran.ended_is)) ∙ map_there (λ (y : Client g state p q). f y.thread) crew c x at in
      let there = said_ended c (length s.books.told + 0) x.thread.ended.calls.told.items one list
      (ap (λ (y : List Told). get_elem? y (length s.books.told + 0)) (l.books.told.1 ∙ ap (λ (y : List Told). y ++ l.books.told.0) e.told)
      ∙ append_first (s.books.told ++ one ∷ []) l.books.told.0 (length s.books.told + 0) one (append_later s.books.told (one ∷ []) 0 one refl)) in
      let whole : id_slot e.id * 4294967296 + id_first e.id ≡ e.id = div-add-mod' e.id 4294967296 in let slot = e.slot_is in let first = e.first_is in
      let same : id_in k ≡ e.id = omega (arith, whole, slot, first) in
      subst (λ (i : ℕ). Became every outcomes of (outcome.CallFailed i ERPCTIMEDOUT)) same (subst (λ (n : ℕ). Became every outcomes n (outcome.CallFailed (id_in k) ERPCTIMEDOUT)) call there)

  -- the client had memory behind it
  fed_behind : (c : ℕ) (t : Task) (m : IsMade c t) → m.done.after.has.calls.books.starved ≡ false
  fed_behind c t m = let x = m.client in (m.done.later 0).1.books.fed (run_fed state p q x.thread.began x.thread.ended x.is.ran)

  -- an `expire` that was answered `expired`
  expired_ends : (c of : ℕ) (t : Task) (m : IsMade c t) → t.op ≡ ops.Expire of → Became every outcomes t.number outcome.Expired → EndsAs q of m.done.made.ready.calls m.done.after.has.calls
  expired_ends c of t m op became = timed_out_ends q of m.done.made.ready.calls m.done.after.has.calls (expire_made c of t outcome.Expired m op became) (fed_behind c t m)

  pub expired_why : (c of : ℕ) (t : Task) → IsTask every outcomes c t → t.op ≡ ops.Expire of → Became every outcomes t.number outcome.Expired → (id : ℕ) × Became every outcomes of (outcome.CallFailed id ERPCTIMEDOUT)
  expired_why c of t is op became = let m = made_of c t is in let e = expired_ends c of t m op became in (e.id, id_became c of m.client m.at m.done.made.ready.calls m.done.after.has.calls e m.done.later)

  -- ## Not begun

  -- an earlier task of the same client stands before it
  pub stands_before : (c : ℕ) (x : Client g state p q) → get_elem? crew c ≡ some x → (j i : ℕ) (u t : Task) → get_elem? (tasks_of x) j ≡ some u → get_elem? (tasks_of x) i ≡ some t → u.number < t.number → j < i
  stands_before c x at j i u t a b less = dite (dec_lt j i) (λ h. h)
      (λ n. absurd (dite (ℕ_discrete i j)
      (λ e. let same : u ≡ t = some-injective u t (sym a ∙ (ap (get_elem? (tasks_of x)) (sym e) ∙ b)) in let m = ap (λ (y : Task). y.number) same in omega arith)
      (λ ne. let order = all_at (EachBefore InOrder) every c (tasks_of x) tasks.in_order (tasks_at c x at) in let h = (before_in InOrder (tasks_of x) order i j t u (omega (arith, n, ne)) b a).0 in omega arith)))

  -- what an earlier one of its client told is what became of it
  pub earlier_told : (c : ℕ) (t : Task) (m : IsMade c t) (j : ℕ) (task : Task) (s : Split state p q m.client.thread.tasks j task (begins m.client.thread.began) m.done.before) (o : Outcome) → s.made.by ≡ Some o → Became every outcomes task.number o
  earlier_told c t m j task s o is_by =
      let f : Thread g → List Told = λ x. x.ended.outcomes.items in let d = m.done in let one : Told = record { number = task.number; outcome = o } in
      let list : get_elem? told c ≡ some m.client.thread.ended.outcomes.items = ap (λ (l : List (List Told)). get_elem? l c) (sym (all_are run f ∙ run.ran.told_is)) ∙ map_there (λ (x : Client g state p q). f x.thread) crew c m.client m.at in
      let at : ℕ = length s.before.told + 0 in let now : List Told = telling t.number d.made.by in
      let first : get_elem? s.after.told at ≡ some one = ap (λ (l : List Told). get_elem? l at) (s.made.told ∙ ap (λ (b : Option Outcome). s.before.told ++ telling task.number b) is_by) ∙ append_later s.before.told (one ∷ []) 0 one refl in
      let second : get_elem? d.before.told at ≡ some one = ap (λ (l : List Told). get_elem? l at) s.told.1 ∙ append_first s.after.told s.told.0 at one first in
      let third : get_elem? d.after.told at ≡ some one = ap (λ (l : List Told). get_elem? l at) d.made.told ∙ append_first d.before.told now at one second in
      said_own c at m.client.thread.ended.outcomes.items one list (ap (λ (l : List Told). get_elem? l at) d.told.1 ∙ append_first d.after.told d.told.0 at one third)

  pub not_begun_why : AreOfCalls every outcomes → (c of : ℕ) (t : Task) → IsTask every outcomes c t → t.op ≡ ops.Expire of → Became every outcomes t.number outcome.NotBegun
      → (task : Task) → IsTask every outcomes c task → task.number ≡ of → of < t.number → Became every outcomes of outcome.Unopened
  not_begun_why calls c of t is op became task own number less = subst (λ (n : ℕ). Became every outcomes n outcome.Unopened) number (by (call_acted state p q task.number of_call.0 task.op split.made.by split.made.ready split.after.has of_call.1 split.made.acted))
    where
      open two_made c task t own is use {first as u, second as m, there}

      earlier : u.place < m.place
      earlier = stands_before c m.client m.at u.place m.place task t there m.there (omega (arith, number, less))

      split : Split state p q m.client.thread.tasks u.place task (begins m.client.thread.began) m.done.before
      split = ran_split state p q m.client.thread.tasks (fits c m.client m.at) m.place (begins m.client.thread.began) m.done.before m.done.ran u.place task earlier there

      none_ : total (is_place (call_index q of)) m.done.made.ready.calls.view.kept ≡ 0
      none_ = (expire_made c of t outcome.NotBegun m op became).unknown

      says : split.made.by ≡ Some outcome.Unopened → Became every outcomes task.number outcome.Unopened
      says = earlier_told c t m u.place task split outcome.Unopened

      -- had it begun, the id would have been there
      begun_there : (asked : Asked) (id : ℕ) → task.op ≡ ops.Call asked → HasBegun q asked.operation id split.after.has.calls.view → ⊥
      begun_there asked id is_call b =
          let fit : asked.operation ≡ task.number = all_at Fits (tasks_of m.client) u.place task (fits c m.client m.at) there asked is_call in
          let h : HasBegun q of id split.after.has.calls.view = subst (λ (o : ℕ). HasBegun q o id split.after.has.calls.view) (fit ∙ number) b in
          let w = call_index q of in let f = is_stored w id in
          let a = (split.later of).1.grows.kept f in let r = (retried_here q of state p m.done.before.has m.done.made.ready m.done.made.retried).grows.kept f in
          let z = placed w id m.done.made.ready.calls.view.kept in let s = h.stored in let n = none_ in omega (arith, a, r, z, s, n)

      of_call : (asked : Asked) × (task.op ≡ ops.Call asked)
      of_call = calls c c t task is (op ∙ ap ops.Expire (sym number)) own

      by : (split.made.by ≡ Some outcome.Unopened) ⊎ ((id : ℕ) × HasBegun q of_call.0.operation id split.after.has.calls.view × ((x : ℕ) → x % 2 ≡ 0 → total (is_word x id) split.made.ready.calls.view.kept ≡ 0)) → Became every outcomes task.number outcome.Unopened
      by (inl e) = says e
      by (inr b) = absurd (begun_there of_call.0 b.0 of_call.1 b.1)

  -- ## Begun before

  -- a call whose id an `expire` of the same client found is no later operation: behind that its id would have been made
  pub begun_before : (c of : ℕ) (t u : Task) (asked : Asked) (by : Outcome) → IsTask every outcomes c t → IsTask every outcomes c u → t.op ≡ ops.Expire of → u.op ≡ ops.Call asked → u.number ≡ of → Became every outcomes t.number by
      → ((s v : CallStand) → ExpiredBy q of by s v → TimedOut q of by s v) → (Became every outcomes of outcome.Unopened → ⊥) → of < t.number
  begun_before c of t u asked by tis uis top uop number became timed begun = dite (dec_lt of t.number) (λ h. h) (λ nl. absurd (dite (dec_lt m.place n.place) later (λ nless. dite (ℕ_discrete m.place n.place) same (λ ne. earlier (omega (arith, nless, ne)) nl))))
    where
      open two_made c t u tis uis use {first as m, second as n, there}

      same : m.place ≡ n.place → ⊥
      same e = let is : t ≡ u = some-injective t u (sym there ∙ (ap (get_elem? (tasks_of n.client)) e ∙ n.there)) in let ops_ : ops.Expire of ≡ ops.Call asked = sym top ∙ (ap (λ (y : Task). y.op) is ∙ uop) in absurd (cc)

      earlier : n.place < m.place → (of < t.number → ⊥) → ⊥
      earlier less nl = nl (let order = all_at (EachBefore InOrder) every c (tasks_of n.client) tasks.in_order (tasks_at c n.client n.at) in let h = (before_in InOrder (tasks_of n.client) order n.place m.place u t less n.there there).0 in omega (arith, h, number))

      later : m.place < n.place → ⊥
      later less = or_begun (call_acted state p q u.number asked u.op n.done.made.by n.done.made.ready n.done.after.has uop n.done.made.acted)
        where
          s : Split state p q n.client.thread.tasks m.place t (begins n.client.thread.began) n.done.before
          s = ran_split state p q n.client.thread.tasks (fits c n.client n.at) n.place (begins n.client.thread.began) n.done.before n.done.ran m.place t less there

          expired : ExpiredBy q of by s.made.ready.calls s.after.has.calls
          expired =
              let a = expire_acted state p q t.number of t.op s.made.by s.made.ready s.after.has top s.made.acted in
              let is : a.0 ≡ by = some_is a.0 by (some_is (Some a.0) (Some by) (sym (earlier_told c u n m.place t s a.0 a.1) ∙ became)) in
              subst (λ (x : Outcome). ExpiredBy q of x s.made.ready.calls s.after.has.calls) is a.2

          h : TimedOut q of by s.made.ready.calls s.after.has.calls
          h = timed s.made.ready.calls s.after.has.calls expired

          -- the id was kept in mind before the call
          kept_then : 0 < total (is_word (call_index q of) h.id) n.done.before.has.calls.view.kept
          kept_then = let a = timed_out_word q of by s.made.ready.calls s.after.has.calls h in let b = (s.later of).1.grows.kept (is_word (call_index q of) h.id) in omega (arith, a, b)

          kept_ready : 0 < total (is_word (call_index q of) h.id) n.done.made.ready.calls.view.kept
          kept_ready = let a = kept_then in let b = (retried_here q of state p n.done.before.has n.done.made.ready n.done.made.retried).grows.kept (is_word (call_index q of) h.id) in omega (arith, a, b)

          kept_last : 0 < total (is_word (call_index q of) h.id) (view_of n.client).kept
          kept_last =
              let a = kept_then in let b = (made_moves q of state p u n.done.before n.done.after (all_at Fits (tasks_of n.client) n.place u (fits c n.client n.at) n.there) n.done.made).grows.kept (is_word (call_index q of) h.id) in
              let d = (n.done.later of).1.grows.kept (is_word (call_index q of) h.id) in omega (arith, a, b, d)

          or_begun : (n.done.made.by ≡ Some outcome.Unopened) ⊎ ((id : ℕ) × HasBegun q asked.operation id n.done.after.has.calls.view × ((x : ℕ) → x % 2 ≡ 0 → total (is_word x id) n.done.made.ready.calls.view.kept ≡ 0)) → ⊥
          or_begun (inl e) = begun (subst (λ (o : ℕ). Became every outcomes o outcome.Unopened) number (own_told c u n outcome.Unopened e))
          or_begun (inr b) =
              let fit : asked.operation ≡ u.number = all_at Fits (tasks_of n.client) n.place u (fits c n.client n.at) n.there asked uop in
              let here : HasBegun q of b.0 n.done.after.has.calls.view = subst (λ (o : ℕ). HasBegun q o b.0 n.done.after.has.calls.view) (fit ∙ number) b.1 in
              let last : HasBegun q of b.0 (view_of n.client) = begun_later q (call_index q of) (n.done.later of).0 of b.0 n.done.after.has.calls.view (view_of n.client) (n.done.later of).1.grows here in
              let k = found_maker of h.id c n.client n.at kept_last in
              let id : b.0 ≡ h.id = one_stored of b.0 h.id c k.place n.client k.client n.at k.at last.stored k.begun.stored in
              let none_ : total (is_word (call_index q of) h.id) n.done.made.ready.calls.view.kept ≡ 0 = subst (λ (i : ℕ). total (is_word (call_index q of) i) n.done.made.ready.calls.view.kept ≡ 0) id (b.2 (call_index q of) (omega arith)) in
              omega (arith, none_, kept_ready)

  -- ## Once

  -- whoever expired a call noted its end
  pub record HasExpired (of : ℕ) (c : ℕ) (t : Task) (m : IsMade c t) : Type 0 where
    pub id : ℕ
    pub inside : id_slot id < slots
    pub became : Became every outcomes of (outcome.CallFailed id ERPCTIMEDOUT)
    pub more : 1 + noted_ends (id_slot id) (id_first id) m.done.made.ready.calls.view.notes ≤ noted_ends (id_slot id) (id_first id) (view_of m.client).notes

  pub has_expired : (c of : ℕ) (t : Task) (m : IsMade c t) → t.op ≡ ops.Expire of → Became every outcomes t.number outcome.Expired → HasExpired of c t m
  has_expired c of t m op became =
      let d = m.done in let e = expired_ends c of t m op became in record {
        id = e.id;
        inside = (let a = e.inside in let b = e.slot_is in omega (arith, a, b));
        became = id_became c of m.client m.at d.made.ready.calls d.after.has.calls e d.later;
        more = (let a = e.ended in let b = (d.later of).1.grows.notes (id_slot e.id) (is_ended (id_first e.id)) in omega (arith, a, b));
      }

  -- the outcome has one id
  failed_once : (of a b : ℕ) → Became every outcomes of (outcome.CallFailed a ERPCTIMEDOUT) → Became every outcomes of (outcome.CallFailed b ERPCTIMEDOUT) → a ≡ b
  failed_once of a b x y = let e : outcome.CallFailed a ERPCTIMEDOUT ≡ outcome.CallFailed b ERPCTIMEDOUT = some_is _ _ (some_is (Some (outcome.CallFailed a ERPCTIMEDOUT)) (Some (outcome.CallFailed b ERPCTIMEDOUT)) (sym x ∙ y)) in cc

  -- no two clients
  two_clients : (c d of : ℕ) (t u : Task) (m : IsMade c t) (n : IsMade d u) → c ≢ d → HasExpired of c t m → HasExpired of d u n → ⊥
  two_clients c d of t u m n ne h k =
      let same : k.id ≡ h.id = failed_once of k.id h.id k.became h.became in let i : ℕ = id_slot h.id in let f : ℕ = id_first h.id in
      let ends : View Asked → ℕ = λ v. noted_ends i f v.notes in
      let other : 1 ≤ ends (view_of n.client) = end_at (view_of n.client) k.id h.id same (let a = k.more in omega (arith, a)) in
      let both = two_terms (λ (x : Client g state p q). ends (view_of x)) crew c d m.client n.client m.at n.at ne in
      let a = total_map ends view_of crew in let b = ap (total ends) (views_are run) in let e = noted.all i (is_ended f) in let once = closing.ended_once i f h.inside in let one = h.more in
      omega (arith, both, a, b, e, once, one, other)

  -- and not twice by one
  twice : (c of : ℕ) (t u : Task) (m : IsMade c t) (n : IsMade c u) → t.op ≡ ops.Expire of → u.op ≡ ops.Expire of → Became every outcomes t.number outcome.Expired → Became every outcomes u.number outcome.Expired → t.number < u.number → ⊥
  twice c of t u m n top uop tis uis less =
      let h = has_expired c of u n uop uis in
      let there = here_too c t u m n in
      let earlier = stands_before c n.client n.at m.place n.place t u there n.there less in
      let s = ran_split state p q n.client.thread.tasks (fits c n.client n.at) n.place (begins n.client.thread.began) n.done.before n.done.ran m.place t earlier there in
      let a = expire_acted state p q t.number of t.op s.made.by s.made.ready s.after.has top s.made.acted in
      let is : a.0 ≡ outcome.Expired = some_is _ _ (some_is (Some a.0) (Some outcome.Expired) (sym (earlier_told c u n m.place t s a.0 a.1) ∙ tis)) in
      let ready = n.done.made.ready.calls in let before = n.done.before.has.calls in let after = n.done.after.has.calls in
      let went = on_then q s.after.has.calls before ready s.later (λ o. (0, retried_here q o state p n.done.before.has n.done.made.ready n.done.made.retried)) in
      let last = on_then q ready after (stand_of n.client.thread.ended.calls) (λ o. (0, expired_by q o of outcome.Expired ready after (expire_made c of u outcome.Expired n uop uis))) n.done.later in
      let all = on_then q s.after.has.calls ready (stand_of n.client.thread.ended.calls) went last in
      let e = timed_out_ends q of s.made.ready.calls s.after.has.calls (subst (λ (x : Outcome). ExpiredBy q of x s.made.ready.calls s.after.has.calls) is a.2) ((all of).1.books.fed (run_fed state p q n.client.thread.began n.client.thread.ended n.client.is.ran)) in
      let same : e.id ≡ h.id = failed_once of e.id h.id (id_became c of n.client n.at s.made.ready.calls s.after.has.calls e all) h.became in
      let first : 1 ≤ noted_ends (id_slot e.id) (id_first e.id) ready.view.notes = (let z = e.ended in let y = (went of).1.grows.notes (id_slot e.id) (is_ended (id_first e.id)) in omega (arith, z, y)) in
      let first' : 1 ≤ noted_ends (id_slot h.id) (id_first h.id) ready.view.notes = end_at ready.view e.id h.id same first in
      let second = h.more in let w = within c n.client n.at (id_slot h.id) (is_ended (id_first h.id)) in let once = closing.ended_once (id_slot h.id) (id_first h.id) h.inside in
      omega (arith, first', second, w, once)

  -- an `expire` ends a call once at most
  pub expired_once : (c d of : ℕ) (t u : Task) → IsTask every outcomes c t → IsTask every outcomes d u → t.op ≡ ops.Expire of → u.op ≡ ops.Expire of → Became every outcomes t.number outcome.Expired → Became every outcomes u.number outcome.Expired → t.number ≡ u.number
  expired_once c d of t u a b top uop tis uis = dite (ℕ_discrete c d)
      (λ e. let m = made_of c t a in let n : IsMade c u = subst (λ (k : ℕ). IsMade k u) (sym e) (made_of d u b) in
      dite (ℕ_discrete t.number u.number) (λ same. same)
      (λ ne. dite (dec_lt t.number u.number)
      (λ less. absurd (twice c of t u m n top uop tis uis less))
      (λ more. absurd (twice c of u t n m uop top uis tis (omega (arith, ne, more))))))
      (λ ne. let m = made_of c t a in let n = made_of d u b in absurd (two_clients c d of t u m n ne (has_expired c of t m top tis) (has_expired d of u n uop uis)))
