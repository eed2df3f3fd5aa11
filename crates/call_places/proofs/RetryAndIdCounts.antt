-- What a client's seat noted by its deeds: no more retries were taken out than advances were noted, and no more ids made than calls are among its operations.
use Rattle.std.proofs.Common.{◌≡◌, ℕ, zero, suc, ◌+◌, ◌*◌, ◌<◌, ◌≤◌, Bool, true, false, cond, eq-eqb, Option, Some, None, List, [], ◌∷◌, ◌++◌, length, take, refl, sym, ap, ◌∙◌, subst, arith}
use Rattle.std.specs.List.{AllByRecursion}
use mathlib.Core.Option.{some, some-injective, some-ne-none}
use lib.ListN.{get_elem?}
use Rattle.atomic_table.specs.Table.{Me}
use Rattle.sock_io.specs.declared.link.Out.{Ghosts}
use Rattle.sock_io.specs.LinkHalves.{OutState}
use Rattle.sock_words.specs.declared.outcome.Outcome.{Outcome}
use Rattle.sock_words.specs.declared.outcome.Outcome.TheVariants as outcome
use Rattle.sock_words.specs.declared.plain.Plan.{Plan}
use Rattle.sock_words.specs.declared.socket_id.SocketId.{SocketId}
use Rattle.seat_programs.specs.declared.task.Op.{Op}
use Rattle.seat_programs.specs.declared.task.Op.TheVariants as ops
use Rattle.seat_programs.specs.declared.task.Task.{Task}
use Rattle.corr_core.specs.IdSlotWord.{Parts, parts}
use Rattle.corr_core.specs.IdSlotLaw.{only, pair}
use Rattle.corr_core.specs.declared.marks.Note.{Note}
use Rattle.corr_core.specs.declared.marks.Note.TheVariants.{Made, Locker}
use Rattle.corr_core.specs.declared.marks.Noted.{Noted}
use Rattle.corr_core.specs.declared.marks.Plan as id_plan
use Rattle.corr_core.specs.declared.marks.View.{View}
use Rattle.corr_core.proofs.NoteSums.{pair-same}
use Rattle.id_rule.specs.LawfulIdTable.{notes_of}
use Rattle.sock_message.specs.Asked.{Asked}
use Rattle.corr_id.specs.declared.calls.IdLock.{IdLock}
use Rattle.corr_id.specs.SeatBehindIdCalls.{Found, one, is_event, is_saw}
use Rattle.corr_id.proofs.IdSeatSplits.{total_append}
use Rattle.call_run.specs.call_client.specs.call_errors.specs.declared.retries.Retry.{Retry}
use Rattle.call_run.specs.call_client.specs.call_errors.specs.ClientBooks.{Books, CallStand, stand_of}
use Rattle.call_run.specs.call_client.specs.call_errors.specs.LockingByVersion.{GotBy}
use Rattle.call_run.specs.call_client.specs.call_attempts.specs.ClientAtBothTables.{Both}
use Rattle.call_run.specs.call_client.specs.call_attempts.specs.CallBeginning.{MadeFor}
use Rattle.call_run.specs.call_client.specs.call_attempts.specs.WaitingRetries.{without_oldest, RetriedBy, had_ended, overtaken, went_again, Retried, none_yet, one_more}
use Rattle.call_run.specs.call_client.specs.ClientBetweenOperations.{Stand, stand, both_of, letter_of, Acted}
use Rattle.call_run.specs.call_client.specs.ClientRun.{Course, Ran, begins}
use Rattle.call_run.specs.call_client.proofs.EndedCallsTelling.{did_total}
use Rattle.call_run.specs.Threads.{Thread, IsThread}
use Rattle.call_places.specs.ClientNotesCounted.{makes}
use Rattle.call_places.specs.DeedsOfCallClient.{Deed, operates, retries, retries_of, ran_deeds, deeds}
use Rattle.call_places.proofs.NoteWeights.{did_all}
use Rattle.call_places.proofs.CallStandFollows.{expired_by, joined_by, sent_calling}
use Rattle.call_places.proofs.Walks.{Walks, retries_walk, run_walk}
use Rattle.call_places.proofs.Still.{Still, is_retry, is_first, waiting, advances, makes_silent, still_same, still_follows, attempted_still, again_still, retried_still}
use Rattle.call_places.proofs.OwnAcceptedMessages.{came, end_is}
use Rattle.sock_words.specs.PackedWords.{id_slot, id_first}
use Rattle.sock_words.specs.Totals.{total}

all_both : {A : Type 0} (P : A → Type 0) (xs ys : List A) → AllByRecursion P xs → AllByRecursion P ys → AllByRecursion P (xs ++ ys)
all_both P [] ys a b = b
all_both P (x ∷ xs) ys a b = (a.0, all_both P xs ys a.1 b)

all_then : {A : Type 0} (P Q : A → Type 0) (xs : List A) → ((x : A) → P x → Q x) → AllByRecursion P xs → AllByRecursion Q xs
all_then P Q [] f a = tt
all_then P Q (x ∷ xs) f a = (f x a.0, all_then P Q xs f a.1)

-- ## What deeds count

-- the call of this operation
abbrev pub call_in : ℕ → Op → ℕ
call_in o (ops.Call asked) = only o asked.operation
call_in o _ = 0

module _ {O : Type 0} {g : Ghosts O} {state : O → OutState} {p : Plan} {q : id_plan.Plan} where
  -- a weight of operations
  abbrev pub by_task : (Task → ℕ) → Deed g state p q → ℕ
  by_task W (operates x by s t a) = W x
  by_task W (retries r s t by) = 0

  -- and one of retries
  abbrev pub by_retry : (Retry → ℕ) → Deed g state p q → ℕ
  by_retry W (operates x by s t a) = 0
  by_retry W (retries r s t by) = W r

-- a lock of this id, whose call is of this operation
abbrev pub locks_for : ℕ → ℕ → Note Asked → ℕ
locks_for f o (Locker g asked) = pair f o g asked.operation
locks_for f o _ = 0

-- ## What a retry knows

-- the seat found the word open that it locked, and noted the lock
pub record KnowsLock (k : IdLock Asked) (v : View Asked) : Type 0 where
  pub word : ℕ
  pub found : Found k.slot word v
  pub was_open : (parts word).state ≡ 1
  pub first_is : (parts k.word.0).first ≡ (parts word).first
  pub range_is : (parts k.word.0).range ≡ (parts word).range
  pub locked : 0 < total (locks_for (parts k.word.0).first k.content.operation) (notes_of k.slot v.notes)

abbrev pub Grows : View Asked → View Asked → Type 0
Grows v w = (i : ℕ) (f : Note Asked → ℕ) → total f (notes_of i v.notes) ≤ total f (notes_of i w.notes)

pub lock_stays : (k : IdLock Asked) (v w : View Asked) → Grows v w → KnowsLock k v → KnowsLock k w
lock_stays k v w grows h = record {
  word = h.word;
  found = (let a = grows k.slot (is_saw h.word) in let b = h.found in omega arith);
  was_open = h.was_open;
  first_is = h.first_is;
  range_is = h.range_is;
  locked = (let a = grows k.slot (locks_for (parts k.word.0).first k.content.operation) in let b = h.locked in omega arith);
}

locks_silent : (f o : ℕ) (x : Note Asked) → is_event x ≡ false → locks_for f o x ≡ 0
locks_silent f o (Locker g c) e = let k : true ≡ false = e in cc
locks_silent f o _ e = refl

pub lock_known : (slots version : ℕ) (k : IdLock Asked) (v w : View Asked) → GotBy slots version k v w → KnowsLock k w
lock_known slots version k v w g = record {
  word = g.word;
  found = g.got.found;
  was_open = g.got.was_open;
  first_is = ap (λ (x : Parts). x.first) g.got.word_is;
  range_is = ap (λ (x : Parts). x.range) g.got.word_is;
  locked = here;
}
  where
    here : 0 < total (locks_for (parts k.word.0).first k.content.operation) (notes_of k.slot w.notes)
    here =
        let o = k.content.operation in let n : Note Asked = Locker (parts k.word.0).first k.content in
        let a = did_total (locks_for (parts k.word.0).first o) (locks_silent (parts k.word.0).first o) k.slot v w _ (one k.slot n) g.got.did k.slot in
        let b = ap (λ (b : Bool). total (locks_for (parts k.word.0).first o) (cond b (n ∷ []) [])) (eq-eqb k.slot k.slot refl) in
        let c = pair-same (parts k.word.0).first o in omega arith

module _ {O : Type 0} {state : O → OutState} {p : Plan} {q : id_plan.Plan} where
  abbrev pub KnowsBy : (v : View Asked) (r : Retry) (s t : Both) → RetriedBy state p q r s t → Type 0
  KnowsBy v r s t (had_ended h) = Unit {0}
  KnowsBy v r s t (overtaken k u l o) = Unit {0}
  KnowsBy v r s t (went_again k u l w) = KnowsLock k v

  known_by : (r : Retry) (s t : Both) (by : RetriedBy state p q r s t) → KnowsBy t.calls.view r s t by
  known_by r s t (had_ended h) = tt
  known_by r s t (overtaken k u l o) = tt
  known_by r s t (went_again k u l w) = lock_stays k u.calls.view t.calls.view (again_still state p q r k u t w).grows (lock_known q.slots r.id k s.calls.view u.calls.view l.got)

module _ {O : Type 0} {g : Ghosts O} {state : O → OutState} {p : Plan} {q : id_plan.Plan} where
  -- of each retry that went to a socket again
  abbrev pub Knows : View Asked → Deed g state p q → Type 0
  Knows v (operates x by s t a) = Unit {0}
  Knows v (retries r s t by) = KnowsBy v r s t by

  known_stays : (v w : View Asked) → Grows v w → (d : Deed g state p q) → Knows v d → Knows w d
  known_stays v w grows (operates x by s t a) h = tt
  known_stays v w grows (retries r s t (had_ended e)) h = tt
  known_stays v w grows (retries r s t (overtaken k u l o)) h = tt
  known_stays v w grows (retries r s t (went_again k u l o)) h = lock_stays k v w grows h

  -- ## Along deeds

  pub record Counts (ds : List (Deed g state p q)) (s t : CallStand) : Type 0 where
    pub grows : Grows s.view t.view
    pub made : (o : ℕ) → total (makes o) t.view.notes ≤ total (makes o) s.view.notes + total (by_task (λ (x : Task). call_in o x.op)) ds
    pub backed : (i f n : ℕ) → f < 4294967296 → total (by_retry (is_retry (i * 4294967296 + f) n)) ds + (waiting (i * 4294967296 + f) n t.books + advances i f n s.view) ≤ waiting (i * 4294967296 + f) n s.books + advances i f n t.view
    pub first : total (by_retry is_first) ds + total is_first t.books.retries ≤ total is_first s.books.retries
    pub knows : AllByRecursion (Knows t.view) ds

  counts_none : (s t : CallStand) → t ≡ s → Counts [] s t
  counts_none s t e = let a = still_same s t e in record {
    grows = a.grows;
    made = λ o. (let x = a.made o in omega arith);
    backed = λ i f n low. (let x = a.backed i f n low in omega arith);
    first = (let x = a.first in omega arith);
    knows = tt;
  }

  counts_then : (ds es : List (Deed g state p q)) (s u t : CallStand) → Counts ds s u → Counts es u t → Counts (ds ++ es) s t
  counts_then ds es s u t a b = record {
    grows = λ i f. (let x = a.grows i f in let y = b.grows i f in omega arith);
    made = λ o. (let x = a.made o in let y = b.made o in let z = total_append (by_task (λ (x : Task). call_in o x.op)) ds es in omega arith);
    backed = λ i f n low. (let x = a.backed i f n low in let y = b.backed i f n low in let z = total_append (by_retry (is_retry (i * 4294967296 + f) n)) ds es in omega arith);
    first = (let x = a.first in let y = b.first in let z = total_append (by_retry is_first) ds es in omega arith);
    knows = all_both (Knows t.view) ds es (all_then (Knows u.view) (Knows t.view) ds (known_stays u.view t.view b.grows) a.knows) b.knows;
  }

  -- a retry, which was taken out
  counts_retry : (u t : Both) (r : Retry) (rest : List Retry) → u.calls.books.retries ≡ r ∷ rest → (by : RetriedBy state p q r (without_oldest rest u) t) → Counts (retries r (without_oldest rest u) t by ∷ []) u.calls t.calls
  counts_retry u t r rest waits by = let a = retried_still state p q r (without_oldest rest u) t by in record {
    grows = a.grows;
    made = λ o. (let x = a.made o in omega arith);
    backed = λ i f n low. (let x = a.backed i f n low in let y = ap (total (is_retry (i * 4294967296 + f) n)) waits in omega arith);
    first = (let x = a.first in let y = ap (total is_first) waits in omega arith);
    knows = (known_by r (without_oldest rest u) t by, tt);
  }

-- ## Operations

-- of each operation so many ids were made at most
pub record Might (m : ℕ → ℕ) (s t : CallStand) : Type 0 where
  pub grows : Grows s.view t.view
  pub made : (o : ℕ) → total (makes o) t.view.notes ≤ total (makes o) s.view.notes + m o
  pub backed : (i f n : ℕ) → f < 4294967296 → waiting (i * 4294967296 + f) n t.books + advances i f n s.view ≤ waiting (i * 4294967296 + f) n s.books + advances i f n t.view
  pub first : total is_first t.books.retries ≤ total is_first s.books.retries

pub might_still : (m : ℕ → ℕ) (s t : CallStand) → Still s t → Might m s t
might_still m s t a = record { grows = a.grows; made = λ o. (let x = a.made o in omega arith); backed = a.backed; first = a.first }

pub might_then : (m : ℕ → ℕ) (s u t : CallStand) → Might m s u → Still u t → Might m s t
might_then m s u t a b = record {
  grows = λ i f. (let x = a.grows i f in let y = b.grows i f in omega arith);
  made = λ o. (let x = a.made o in let y = b.made o in omega arith);
  backed = λ i f n low. (let x = a.backed i f n low in let y = b.backed i f n low in omega arith);
  first = (let x = a.first in let y = b.first in omega arith);
}

module _ {O : Type 0} (state : O → OutState) (p : Plan) (q : id_plan.Plan) where
  -- an id was made
  pub might_make : (asked : Asked) (id : ℕ) (socket : SocketId) (s t : Both) → MadeFor state p q asked id socket s t → Might (λ o. only o asked.operation) s.calls t.calls
  might_make asked id socket s t m =
      let noted = ap (λ (v : View Asked). v.notes) m.noted in let rs = ap (λ (b : Books). b.retries) m.books in
      let d = m.made.did in record {
        grows = λ i f. (let x = d.grows i f in let y = ap (λ (l : List (Noted Asked)). total f (notes_of i l)) noted in omega arith);
        made = λ o. (let x = did_all (makes o) (makes_silent o) (id_slot id) s.calls.view m.view [] (one (id_slot id) (Made (id_first id) asked.range asked)) d in let y = ap (total (makes o)) noted in omega arith);
        backed = λ i f n low. (let x = d.grows i (Rattle.corr_core.specs.IdSlotLaw.is_attempt f n) in let y = ap (λ (l : List (Noted Asked)). total (Rattle.corr_core.specs.IdSlotLaw.is_attempt f n) (notes_of i l)) noted in
            let z = ap (total (is_retry (i * 4294967296 + f) n)) rs in omega arith);
        first = (let z = ap (total is_first) rs in omega arith);
      }

  module _ {g : Ghosts O} where
    pub acted_might : (number : ℕ) (op : Op) (by : Option Outcome) (s t : Stand g) → Acted state p q number op by s t → Might (λ o. call_in o op) s.calls t.calls
    acted_might number (ops.Open n k) (Some by) s t a = might_still (λ o. 0) s.calls t.calls (still_same s.calls t.calls a.2)
    acted_might number (ops.Send n bytes) by s t a = might_still (λ o. 0) s.calls t.calls (sent_calling q (still_follows q) state p n (letter_of number bytes) by s.me.0 s.calls t.me.0 t.calls a.0)
    acted_might number (ops.Call asked) (Some outcome.Unopened) s t a = might_still (λ o. only o asked.operation) s.calls t.calls (still_same s.calls t.calls a.0.1)
    acted_might number (ops.Call asked) None s t a = let b = a.1 in might_then (λ o. only o asked.operation) s.calls b.at.calls t.calls (might_make asked a.0 b.socket (both_of s) b.at b.made_for) (attempted_still state p q b.socket _ b.at (both_of t) b.attempted)
    acted_might number (ops.Expire of) (Some by) s t a = might_still (λ o. 0) s.calls t.calls (expired_by q (still_follows q) of by s.calls t.calls a.0)
    acted_might number (ops.Join of) (Some by) s t a = might_still (λ o. 0) s.calls t.calls (joined_by q (still_follows q) of by s.calls t.calls a.0)
    acted_might number (ops.Hold n) (Some by) s t a = might_still (λ o. 0) s.calls t.calls (still_same s.calls t.calls a.2)
    acted_might number (ops.Drop n) (Some by) s t a = might_still (λ o. 0) s.calls t.calls (still_same s.calls t.calls a.2)
    acted_might number (ops.Fail n code) (Some by) s t a = might_still (λ o. 0) s.calls t.calls (still_same s.calls t.calls a.2)
    acted_might number _ _ s t a = elim a [ ]

    counts_operation : (x : Task) (by : Option Outcome) (s t : Stand g) (a : Acted state p q x.number x.op by s t) → Counts {g = g} {state = state} {p = p} {q = q} (operates x by s t a ∷ []) s.calls t.calls
    counts_operation x by s t a = let m = acted_might x.number x.op by s t a in record {
      grows = m.grows;
      made = λ o. (let y = m.made o in omega arith);
      backed = λ i f n low. (let y = m.backed i f n low in omega arith);
      first = (let y = m.first in omega arith);
      knows = (tt, tt);
    }

    -- so it is along all deeds
    counts_walk : (xs : List Task) → Walks {g = g} state p q xs (λ ds s t. Counts ds s.calls t.calls)
    counts_walk xs = record {
      none = λ s t e. counts_none s.calls t.calls (ap (λ (y : Both). y.calls) e);
      in_turn = λ ds es s u t. counts_then ds es s.calls u.calls t.calls;
      retry = counts_retry;
      operation = λ n x at. counts_operation x;
    }

module _ {O : Type 0} {g : Ghosts O} {state : O → OutState} {p : Plan} {q : id_plan.Plan} where
  pub retries_count : (s t : Both) (r : Retried state p q s t) → Counts (retries_of {g = g} state p q s t r) s.calls t.calls
  retries_count = retries_walk state p q (counts_walk state p q {g = g} [])

-- ## The first of a list

none_taken : {A : Type 0} (W : A → ℕ) (ys : List A) → total W (take 0 ys) ≡ 0
none_taken W [] = refl
none_taken W (y ∷ ys) = refl

first_some : {A : Type 0} (W : A → ℕ) (ys : List A) (n : ℕ) (y : A) → get_elem? ys n ≡ some y → total W (take (suc n) ys) ≡ total W (take n ys) + W y
first_some W [] n y e = absurd (some-ne-none y (sym e))
first_some W (z ∷ zs) zero y e = let a = ap W (some-injective z y e) in let b = none_taken W zs in omega arith
first_some W (z ∷ zs) (suc n) y e = let a = first_some W zs n y e in omega arith

all_taken : {A : Type 0} (W : A → ℕ) (ys : List A) (n : ℕ) → length ys ≤ n → total W (take n ys) ≡ total W ys
all_taken W [] zero low = refl
all_taken W [] (suc n) low = refl
all_taken W (y ∷ ys) zero low = absurd (omega arith)
all_taken W (y ∷ ys) (suc n) low = let a = all_taken W ys n (omega arith) in omega arith

-- ## A whole run

module _ {O : Type 0} {g : Ghosts O} {state : O → OutState} {p : Plan} {q : id_plan.Plan} {first : ℕ} (x : Thread g) (th : IsThread state p q first x) where
  run_counts : Counts (deeds x th) (stand_of x.began.calls) (stand_of x.ended.calls)
  run_counts =
      let end : stand_of x.ended.calls ≡ th.ran.last.calls = th.ran.calls ∙ ap (λ (s : Stand g). s.calls) (end_is x th) in
      subst (λ (c : CallStand). Counts (deeds x th) (stand_of x.began.calls) c) (sym end) (run_walk x th (counts_walk state p q x.tasks))

  none_noted : x.began.calls.seat.me.0.notes ≡ []
  none_noted = ap (λ (m : Me (Option Asked) (View Asked)). m.0.notes) th.ids

  none_waits : x.began.calls.retries.items ≡ []
  none_waits = ap (λ (b : Books). b.retries) th.nothing.books

  -- of each attempt no more retries were made than advances noted
  pub tried_few : (i f n : ℕ) → f < 4294967296 → total (by_retry (is_retry (i * 4294967296 + f) n)) (deeds x th) ≤ advances i f n x.ended.calls.seat.me.0
  tried_few i f n low = let a = run_counts.backed i f n low in let b = ap (total (is_retry (i * 4294967296 + f) n)) none_waits in omega arith

  -- and none of a first one
  pub none_first : total (by_retry is_first) (deeds x th) ≡ 0
  none_first = let a = run_counts.first in let b = ap (total is_first) none_waits in omega arith

  pub made_few : (o : ℕ) → total (makes o) x.ended.calls.seat.me.0.notes ≤ total (by_task (λ (y : Task). call_in o y.op)) (deeds x th)
  made_few o = let a = run_counts.made o in let b = ap (total (makes o)) none_noted in omega arith

  pub all_known : AllByRecursion (Knows x.ended.calls.seat.me.0) (deeds x th)
  all_known = run_counts.knows

  -- ## Its operations

  no_operation : (W : Task → ℕ) (s t : Both) (r : Retried state p q s t) → total (by_task W) (retries_of {g = g} state p q s t r) ≡ 0
  no_operation W s _ none_yet = refl
  no_operation W s _ (one_more u t r rest before waits fed by) =
      let a = no_operation W s u before in let one : Deed g state p q = retries r (without_oldest rest u) t by in
      let b = total_append (by_task W) (retries_of {g = g} state p q s u before) (one ∷ []) in omega arith

  ran_total : (W : Task → ℕ) (ys : List Task) (n : ℕ) (s t : Course g) (h : Ran state p q ys n s t) → total (by_task W) (ran_deeds state p q ys n s t h) ≡ total W (take n ys)
  ran_total W [] zero s t e = refl
  ran_total W (y ∷ ys) zero s t e = refl
  ran_total W ys (suc n) s t h =
      let m = h.4 in
      let now : Deed g state p q = operates h.1 m.by m.ready t.has m.acted in
      let waited : List (Deed g state p q) = retries_of state p q (both_of h.0.has) (both_of m.ready) m.retried.all.retried in
      let a = ran_total W ys n s h.0 h.2 in let b = first_some W ys n h.1 h.3 in
      let c = total_append (by_task W) (ran_deeds state p q ys n s h.0 h.2) (waited ++ now ∷ []) in let d = total_append (by_task W) waited (now ∷ []) in
      let e = no_operation W (both_of h.0.has) (both_of m.ready) m.retried.all.retried in omega arith

  -- its operations are its tasks
  pub task_total : (W : Task → ℕ) → total (by_task W) (deeds x th) ≡ total W x.tasks
  task_total W =
      let a = ran_total W x.tasks th.ran.made (begins x.began) (came x th) th.ran.ran.ran in
      let b = all_taken W x.tasks th.ran.made (let n = th.ran.ends.0 in omega arith) in
      let last : List (Deed g state p q) = retries_of state p q (both_of (stand th.ran.came)) (both_of th.ran.last) th.ran.ends.1.all.retried in
      let c = total_append (by_task W) (ran_deeds state p q x.tasks th.ran.made (begins x.began) (came x th) th.ran.ran.ran) last in
      let d = no_operation W (both_of (stand th.ran.came)) (both_of th.ran.last) th.ran.ends.1.all.retried in omega arith
