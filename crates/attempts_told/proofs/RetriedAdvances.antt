-- Each advance of a call that a client noted has its retry waiting, or taken out; and what became of one that was taken out.
use Rattle.std.proofs.Common.{◌≡◌, ℕ, ◌+◌, ◌*◌, ◌<◌, ◌≤◌, ◌⊎◌, inl, inr, Bool, true, false, cond, eqb, eq-eqb, ne_eqb, List, [], ◌∷◌, ◌++◌, refl, sym, ap, ◌∙◌, subst, arith}
use Rattle.std.specs.Prelude.{Option as Maybe}
use Rattle.std.specs.List.{AllByRecursion}
use Rattle.std.proofs.lemmas.Nat.{div-add-mod'}
use mathlib.Core.Logic.{dite}
use native.Mathlib.Decide.{ℕ_discrete}
use Rattle.atomic_table.specs.Table.{Me}
use Rattle.sock_io.specs.declared.link.Out.{Ghosts}
use Rattle.sock_io.specs.LinkHalves.{OutState}
use Rattle.sock_words.specs.declared.plain.Plan.{Plan}
use Rattle.sock_words.specs.declared.socket_id.SocketId.{SocketId}
use Rattle.sock_words.specs.declared.outcome.Outcome.{Outcome}
use Rattle.seat_programs.specs.declared.task.Op.{Op}
use Rattle.seat_programs.specs.declared.task.Task.{Task}
use Rattle.corr_core.specs.IdSlotWord.{Parts, parts}
use Rattle.corr_core.specs.IdSlotLaw.{is_attempt, is_ended}
use Rattle.corr_core.specs.declared.marks.Note.{Note}
use Rattle.corr_core.specs.declared.marks.Note.TheVariants.{Made, Ended, Attempt}
use Rattle.corr_core.specs.declared.marks.Noted.{Noted}
use Rattle.corr_core.specs.declared.marks.Plan as id_plan
use Rattle.corr_core.specs.declared.marks.Token.{Token}
use Rattle.corr_core.specs.declared.marks.View.{View}
use Rattle.corr_core.proofs.NoteSums.{only-at, pair-at, pair-else, pair-else_first}
use Rattle.id_rule.specs.LawfulIdTable.{notes_of, with_kept}
use Rattle.sock_message.specs.Asked.{Asked}
use Rattle.corr_id.specs.declared.calls.IdLock.{IdLock}
use Rattle.corr_id.specs.declared.posts.Posted.{Posted}
use Rattle.corr_id.specs.declared.posts.Posted.TheVariants.{Locked as HasLock}
use Rattle.corr_id.specs.declared.unlocks.Unlocked.{Unlocked}
use Rattle.corr_id.specs.declared.unlocks.Unlocked.TheVariants.{Open, Next}
use Rattle.corr_id.specs.SeatBehindIdCalls.{Did, one, advance_note}
use Rattle.corr_id.specs.Unlocks.{UnlockOk}
use Rattle.corr_id.proofs.IdSeatSplits.{total_append}
use Rattle.call_whys.specs.Below.CallErrors.Retry.{Retry}
use Rattle.call_whys.specs.Below.CallErrors.ClientBooks.{Books, CallStand, stand_of, starving, keeping}
use Rattle.call_whys.specs.Below.CallErrors.CallEndsWithCode.{EndedWith, failed}
use Rattle.call_whys.specs.Below.CallErrors.Handling.{Advanced, IsNext, Decided}
use Rattle.call_whys.specs.Below.CallErrors.Handling as handling
use Rattle.call_whys.specs.Below.CallErrors.PostedErrors.{Handled, PostedBy}
use Rattle.call_whys.specs.Below.CallAttempts.ClientAtBothTables.{Both}
use Rattle.call_whys.specs.Below.CallAttempts.CallBeginning.{MadeFor}
use Rattle.call_whys.specs.Below.CallAttempts.WaitingRetries.{without_oldest, RetriedBy, had_ended, overtaken, went_again}
use Rattle.call_whys.specs.Below.CallClient.ClientBetweenOperations.{Stand, Acted}
use Rattle.call_whys.specs.Below.CallClient.EndedCallsTelling.{did_total, none_of_one}
use Rattle.call_whys.specs.Below.CallRun.Threads.{Thread, IsThread}
use Rattle.call_whys.specs.call_told.proofs.ListElementsByPlace.{all_both, all_then}
use Rattle.call_whys.specs.call_places.specs.DeedsOfCallClient.{Deed, operates, retries, deeds}
use Rattle.call_whys.specs.call_places.proofs.CallStandFollows.{Follows, went_to, acted}
use Rattle.call_whys.specs.call_places.proofs.Walks.{Walks, run_walk}
use Rattle.call_whys.specs.call_places.proofs.Still.{is_retry, waiting, advances, attempt_silent, decided_still, retried_still, more_waits, more_noted, tells_retries}
use Rattle.call_whys.specs.call_places.proofs.RetryAndIdCounts.{by_retry, Grows, acted_might}
use Rattle.call_whys.specs.call_places.proofs.IdsOfRetries.{version_low}
use Rattle.call_whys.specs.call_places.proofs.OwnAcceptedMessages.{end_is}
use Rattle.attempts_told.proofs.BoundsOfAttempts.{Unmoved, unmoved_then, unmoved_noted, unmoved_quiet, unmoved_got, unmoved_ended, unmoved_post, advance_none}
use Rattle.sock_words.specs.PackedWords.{id_slot, id_first}
use Rattle.sock_words.specs.Totals.{total}

-- ## Counts

-- of each attempt no more advances are noted more than retries wait more
abbrev pub Awaited : CallStand → CallStand → Type 0
Awaited s t = (i f n : ℕ) → waiting (i * 4294967296 + f) n s.books + advances i f n t.view ≤ waiting (i * 4294967296 + f) n t.books + advances i f n s.view

awaited_then : (s u t : CallStand) → Awaited s u → Awaited u t → Awaited s t
awaited_then s u t a b i f n = let x = a i f n in let y = b i f n in omega arith

-- where as many retries wait, and no attempt was noted
by_view : (s t : CallStand) → t.books.retries ≡ s.books.retries → Unmoved s.view t.view → Awaited s t
by_view s t e m i f n = let x = ap (total (is_retry (i * 4294967296 + f) n)) e in let y = m i f n in omega arith

awaited_same : (s t : CallStand) → t ≡ s → Awaited s t
awaited_same s t e = by_view s t (ap (λ (y : CallStand). y.books.retries) e) (unmoved_noted s.view t.view (ap (λ (y : CallStand). y.view.notes) e))

ended_awaited : (k : IdLock Asked) (code : ℕ) (s t : CallStand) → EndedWith k code s t → Awaited s t
ended_awaited k code s t h = by_view s t (tells_retries (failed k code) s.books t.books h.tells) (unmoved_ended k.slot (parts k.word.0).first s.view t.view h.ended)

-- one retry more waits, and the advance to its attempt is the one that was noted
module _ (k : IdLock Asked) (s t : CallStand) (r : Retry) (next : IsNext k r) (kept : t.books ≡ keeping r s.books) (q : Parts) (ts : List (Token Asked)) (up : q.attempt ≡ (parts k.word.0).attempt + 1)
    (d : Did k.slot s.view t.view ts (advance_note k.slot (parts k.word.0) q)) where
  abbrev first : ℕ
  first = (parts k.word.0).first

  abbrev Counted : ℕ → ℕ → ℕ → ℕ
  Counted i f n = cond (eqb k.slot i) (is_attempt {C = Asked} f n (Attempt first q.attempt)) 0

  -- the advance is counted where the retry is
  same_counts : (i f n : ℕ) → Counted i f n ≤ is_retry (i * 4294967296 + f) n r
  same_counts i f n = dite (ℕ_discrete k.slot i)
      (λ e.
      let z = ap (λ (b : Bool). cond b (is_attempt {C = Asked} f n (Attempt first q.attempt)) 0) (eq-eqb k.slot i e) in
      dite (ℕ_discrete first f)
      (λ y. dite (ℕ_discrete q.attempt n)
      (λ m.
      let id : r.id ≡ i * 4294967296 + f = next.id_is ∙ (λ j. e j * 4294967296 + y j) in
      let at : r.attempt ≡ n = next.attempt_is ∙ (sym up ∙ m) in
      let a = pair-at (i * 4294967296 + f) n r.id r.attempt id at in let b = pair-at f n first q.attempt y m in omega (arith, z, a, b))
      (λ ne. let b = pair-else f n first q.attempt ne in omega (arith, z, b)))
      (λ ne. let b = pair-else_first f n first q.attempt ne in omega (arith, z, b)))
      (λ ne. let z = ap (λ (b : Bool). cond b (is_attempt {C = Asked} f n (Attempt first q.attempt)) 0) (ne_eqb k.slot i ne) in omega (arith, z))

  keeps_awaited : Awaited s t
  keeps_awaited i f n = let a = more_waits k s t r next kept q ts up d (i * 4294967296 + f) n in let b = more_noted k s t r next kept q ts up d i f n in let c = same_counts i f n in omega (arith, a, b, c)

  -- it is there
  keeps_noted : 0 < advances k.slot first ((parts k.word.0).attempt + 1) t.view
  keeps_noted =
      let n : ℕ = (parts k.word.0).attempt + 1 in
      let b = more_noted k s t r next kept q ts up d k.slot first n in let c = pair-at first n first q.attempt refl up in
      let z = ap (λ (b : Bool). cond b (is_attempt {C = Asked} first n (Attempt first q.attempt)) 0) (eq-eqb k.slot k.slot refl) in omega (arith, b, c, z)

advanced_awaited : (k : IdLock Asked) (answer : Unlocked Asked) (s t : CallStand) → Advanced k answer s t → Awaited s t
advanced_awaited k Open s t a = let u = a.unlocked in keeps_awaited k s t a.retry a.is_next a.kept u.1 [] u.2.attempt_is u.4
advanced_awaited k (Next l code attempt) s t a = let u = a.unlocked in keeps_awaited k s t a.retry a.is_next a.kept (parts l.word.0) _ u.4.1.attempt_is u.3

advanced_noted : (k : IdLock Asked) (answer : Unlocked Asked) (s t : CallStand) → Advanced k answer s t → 0 < advances k.slot (parts k.word.0).first ((parts k.word.0).attempt + 1) t.view
advanced_noted k Open s t a = let u = a.unlocked in keeps_noted k s t a.retry a.is_next a.kept u.1 [] u.2.attempt_is u.4
advanced_noted k (Next l code attempt) s t a = let u = a.unlocked in keeps_noted k s t a.retry a.is_next a.kept (parts l.word.0) _ u.4.1.attempt_is u.3

-- ## Errors that are handled

decided_awaited : {s : CallStand} {k : IdLock Asked} {code : ℕ} {attempt : Maybe ℕ} {t : CallStand} → Decided s k code attempt t → Awaited s t
decided_awaited (handling.ends s k code attempt t a b e) = ended_awaited k code s t e
decided_awaited (handling.starves s k code attempt t a e) = by_view s t (tells_retries (failed k _) (starving s.books) t.books e.tells) (unmoved_ended k.slot (parts k.word.0).first s.view t.view e.ended)
decided_awaited (handling.waits s k code attempt t a b e) = advanced_awaited k Open s t e
decided_awaited (handling.goes_on s k code attempt t u l next of a b e rest) = awaited_then s u t (advanced_awaited k (Next l next of) s u e) (decided_awaited rest)

-- the end of the lock's range was noted
end_noted : (k : IdLock Asked) (s t : View Asked) → t.notes ≡ one k.slot (Ended (parts k.word.0).first (parts k.word.0).attempt) ++ s.notes → 0 < total (is_ended (parts k.word.0).first) (notes_of k.slot t.notes)
end_noted k s t e =
    let f : ℕ = (parts k.word.0).first in let x : Note Asked = Ended f (parts k.word.0).attempt in
    let a = ap (λ (l : List (Noted Asked)). total (is_ended f) (notes_of k.slot l)) e in
    let b = ap (λ (y : Bool). total (is_ended f) (cond y (x ∷ notes_of k.slot s.notes) (notes_of k.slot s.notes))) (eq-eqb k.slot k.slot refl) in
    let c = only-at f f refl in omega (arith, a, b, c)

-- the range of the lock ended by it, or it advanced to the next attempt
abbrev pub Moves : IdLock Asked → View Asked → Type 0
Moves k v = (0 < total (is_ended (parts k.word.0).first) (notes_of k.slot v.notes)) ⊎ (0 < advances k.slot (parts k.word.0).first ((parts k.word.0).attempt + 1) v)

pub decided_moves : {s : CallStand} {k : IdLock Asked} {code : ℕ} {attempt : Maybe ℕ} {t : CallStand} → Decided s k code attempt t → Moves k t.view
decided_moves (handling.ends s k code attempt t a b e) = inl (end_noted k s.view t.view e.ended.notes)
decided_moves (handling.starves s k code attempt t a e) = inl (end_noted k s.view t.view e.ended.notes)
decided_moves (handling.waits s k code attempt t a b e) = inr (advanced_noted k Open s t e)
decided_moves (handling.goes_on s k code attempt t u l next of a b e rest) =
    let n : ℕ = (parts k.word.0).attempt + 1 in let f : ℕ = (parts k.word.0).first in
    let x = advanced_noted k (Next l next of) s u e in let y = (decided_still rest).grows k.slot (is_attempt f n) in inr (omega (arith, x, y))

handled_awaited : (code : ℕ) (attempt : Maybe ℕ) (answer : Posted Asked) (s t : CallStand) → Handled code attempt answer s t → Awaited s t
handled_awaited code attempt (HasLock k) s t h = decided_awaited h
handled_awaited code attempt _ s t h = awaited_same s t h

posted_awaited : (slots : ℕ) (s t : CallStand) (id code : ℕ) (attempt : Maybe ℕ) → PostedBy slots s id code attempt t → Awaited s t
posted_awaited slots s t id code attempt p = let x = p.1 in let u : CallStand = record { view = x.view; books = s.books } in
    awaited_then s u t (by_view s u refl (unmoved_post slots s.view x.view id code attempt p.0 x.post)) (handled_awaited code attempt p.0 u t x.handled)

-- a word of an operation was noted
kept_awaited : (own : Bool) (s t : CallStand) (place word : ℕ) → t.view ≡ with_kept place own word s.view → t.books ≡ s.books → Awaited s t
kept_awaited own s t place word e b = by_view s t (ap (λ (y : Books). y.retries) b) (unmoved_noted s.view t.view (ap (λ (y : View Asked). y.notes) e))

-- so it is with all that comes by errors, messages and attempts
all_awaited : (q : id_plan.Plan) → Follows q Awaited
all_awaited q = record {
  same = awaited_same;
  in_turn = awaited_then;
  finds = kept_awaited false;
  looks = λ s t e quiet. by_view s t (ap (λ (b : Books). b.retries) e) (unmoved_quiet s.view t.view quiet);
  posts = posted_awaited q.slots;
}

-- ## Attempts

module _ {O : Type 0} (state : O → OutState) (p : Plan) (q : id_plan.Plan) where
  -- the lock was given back, and no advance was made
  unlocked_unmoved : (k : IdLock Asked) (answer : Unlocked Asked) (v w : View Asked) → UnlockOk v w k.slot (parts k.word.0) k.content false answer → Unmoved v w
  unlocked_unmoved k Open v w u i f n =
      let a = did_total (is_attempt f n) (attempt_silent f n) k.slot v w [] _ u.4 i in
      let b = ap (λ (l : List (Noted Asked)). total (is_attempt f n) (notes_of i l)) (advance_none k.slot (parts k.word.0) u.1 u.2.attempt_is) in omega arith
  unlocked_unmoved k (Next l code attempt) v w u i f n =
      let a = did_total (is_attempt f n) (attempt_silent f n) k.slot v w _ _ u.3 i in
      let b = ap (λ (y : List (Noted Asked)). total (is_attempt f n) (notes_of i y)) (advance_none k.slot (parts k.word.0) (parts l.word.0) u.4.1.attempt_is) in omega arith

  retried_awaited : (r : Retry) (s t : Both) → RetriedBy state p q r s t → Awaited s.calls t.calls
  retried_awaited r s t (had_ended h) = by_view s.calls t.calls (ap (λ (b : Books). b.retries) h.books) (unmoved_quiet s.calls.view t.calls.view h.gone.quiet)
  retried_awaited r s t (overtaken k u l o) = let x : CallStand = record { view = o.view; books = u.calls.books } in
      awaited_then s.calls x t.calls (by_view s.calls x (ap (λ (b : Books). b.retries) l.books)
      (unmoved_then s.calls.view u.calls.view o.view (unmoved_got k.slot l.got.word s.calls.view u.calls.view (parts k.word.0) k.content l.got.got) (unlocked_unmoved k (Next o.next o.code o.attempt) u.calls.view o.view o.unlocked)))
      (decided_awaited o.decided)
  retried_awaited r s t (went_again k u l w) = let x : CallStand = record { view = w.view; books = u.calls.books } in
      awaited_then s.calls x t.calls (by_view s.calls x (ap (λ (b : Books). b.retries) l.books)
      (unmoved_then s.calls.view u.calls.view w.view (unmoved_got k.slot l.got.word s.calls.view u.calls.view (parts k.word.0) k.content l.got.got) (unlocked_unmoved k Open u.calls.view w.view w.unlocked)))
      (went_to q (all_awaited q) state p (kept_awaited true) _ _ (record { socks = u.socks; calls = x }) t w.went)

  made_awaited : (asked : Asked) (id : ℕ) (socket : SocketId) (s t : Both) → MadeFor state p q asked id socket s t → Awaited s.calls t.calls
  made_awaited asked id socket s t m = by_view s.calls t.calls (ap (λ (b : Books). b.retries) m.books) (λ i f n. (
      let a = did_total (is_attempt f n) (attempt_silent f n) (id_slot id) s.calls.view m.view [] (one (id_slot id) (Made (id_first id) asked.range asked)) m.made.did i in
      let b = none_of_one (is_attempt f n) (attempt_silent f n) (id_slot id) (Made (id_first id) asked.range asked) refl i in
      let c = ap (λ (v : View Asked). advances i f n v) m.noted in omega arith))

  acted_awaited : {g : Ghosts O} (number : ℕ) (op : Op) (by : Maybe Outcome) (s t : Stand g) → Acted state p q number op by s t → Awaited s.calls t.calls
  acted_awaited = acted q (all_awaited q) state p (kept_awaited true) made_awaited

-- ## Along deeds

-- each retry that waits is one of an attempt to which the id advanced, as the seat noted
abbrev pub Backed : CallStand → Type 0
Backed s = (i f n : ℕ) → f < 4294967296 → waiting (i * 4294967296 + f) n s.books ≤ advances i f n s.view

module _ {O : Type 0} {g : Ghosts O} {state : O → OutState} {p : Plan} {q : id_plan.Plan} where
  -- a retry that was taken out was one of an attempt to which the id had advanced; and what the seat noted by it, it has still
  abbrev pub Founded : View Asked → Deed g state p q → Type 0
  Founded v (operates x by s t a) = Unit {0}
  Founded v (retries r s t by) = (0 < advances (id_slot r.id) (id_first r.id) r.attempt s.calls.view) × Grows s.calls.view t.calls.view × Grows t.calls.view v

  founded_stays : (v w : View Asked) → Grows v w → (d : Deed g state p q) → Founded v d → Founded w d
  founded_stays v w grows (operates x by s t a) h = tt
  founded_stays v w grows (retries r s t by) h = (h.0, h.1, λ i f. (let a = h.2 i f in let b = grows i f in omega (arith, a, b)))

  record Walk (ds : List (Deed g state p q)) (s t : CallStand) : Type 0 where
    pub grows : Grows s.view t.view
    pub awaited : (i f n : ℕ) → waiting (i * 4294967296 + f) n s.books + advances i f n t.view ≤ total (by_retry (is_retry (i * 4294967296 + f) n)) ds + (waiting (i * 4294967296 + f) n t.books + advances i f n s.view)
    pub backed : Backed s → Backed t
    pub each : Backed s → AllByRecursion (Founded t.view) ds

  walk_none : (s t : CallStand) → t ≡ s → Walk [] s t
  walk_none s t e = record {
    grows = λ i f. (let a = ap (λ (y : CallStand). total f (notes_of i y.view.notes)) e in omega (arith, a));
    awaited = λ i f n. (let a = awaited_same s t e i f n in omega (arith, a));
    backed = λ b. subst Backed (sym e) b;
    each = λ b. tt;
  }

  walk_then : (ds es : List (Deed g state p q)) (s u t : CallStand) → Walk ds s u → Walk es u t → Walk (ds ++ es) s t
  walk_then ds es s u t a b = record {
    grows = λ i f. (let x = a.grows i f in let y = b.grows i f in omega (arith, x, y));
    awaited = λ i f n. (let x = a.awaited i f n in let y = b.awaited i f n in let z = total_append (by_retry (is_retry (i * 4294967296 + f) n)) ds es in omega (arith, x, y, z));
    backed = λ h. b.backed (a.backed h);
    each = λ h. all_both (Founded t.view) ds es (all_then (Founded u.view) (Founded t.view) ds (founded_stays u.view t.view b.grows) (a.each h)) (b.each (a.backed h));
  }

  -- a retry, which was taken out
  walk_retry : (u t : Both) (r : Retry) (rest : List Retry) → u.calls.books.retries ≡ r ∷ rest → (by : RetriedBy state p q r (without_oldest rest u) t) → Walk (retries r (without_oldest rest u) t by ∷ []) u.calls t.calls
  walk_retry u t r rest waits by =
      let a = retried_still state p q r (without_oldest rest u) t by in let e = retried_awaited state p q r (without_oldest rest u) t by in record {
        grows = a.grows;
        awaited = λ i f n. (let x = e i f n in let y = ap (total (is_retry (i * 4294967296 + f) n)) waits in omega (arith, x, y));
        backed = λ h i f n low. (let x = a.backed i f n low in let y = ap (total (is_retry (i * 4294967296 + f) n)) waits in let z = h i f n low in omega (arith, x, y, z));
        each = λ h. ((noted h, a.grows, (λ i f. omega arith)), tt);
      }
    where
      noted : Backed u.calls → 0 < advances (id_slot r.id) (id_first r.id) r.attempt u.calls.view
      noted h =
          let slot : ℕ = id_slot r.id in let version : ℕ = id_first r.id in
          let whole : slot * 4294967296 + version ≡ r.id = div-add-mod' r.id 4294967296 in
          let y = ap (total (is_retry (slot * 4294967296 + version) r.attempt)) waits in
          let one_ = pair-at (slot * 4294967296 + version) r.attempt r.id r.attempt (sym whole) refl in
          let z = h slot version r.attempt (version_low r.id) in omega (arith, y, one_, z)

  walk_operation : (x : Task) (by : Maybe Outcome) (s t : Stand g) (a : Acted state p q x.number x.op by s t) → Walk (operates x by s t a ∷ []) s.calls t.calls
  walk_operation x by s t a = let m = acted_might state p q x.number x.op by s t a in let e = acted_awaited state p q x.number x.op by s t a in record {
    grows = m.grows;
    awaited = λ i f n. (let y = e i f n in omega (arith, y));
    backed = λ h i f n low. (let y = m.backed i f n low in let z = h i f n low in omega (arith, y, z));
    each = λ h. (tt, tt);
  }

  all_walk : (xs : List Task) → Walks state p q xs (λ ds s t. Walk ds s.calls t.calls)
  all_walk xs = record {
    none = λ s t e. walk_none s.calls t.calls (ap (λ (y : Both). y.calls) e);
    in_turn = λ ds es s u t. walk_then ds es s.calls u.calls t.calls;
    retry = walk_retry;
    operation = λ n x at. walk_operation x;
  }

-- ## A whole run

module _ {O : Type 0} {g : Ghosts O} {state : O → OutState} {p : Plan} {q : id_plan.Plan} {first : ℕ} (x : Thread g) (th : IsThread state p q first x) where
  its_walk : Walk (deeds x th) (stand_of x.began.calls) th.ran.last.calls
  its_walk = run_walk x th (all_walk x.tasks)

  last_view : x.ended.calls.seat.me.0 ≡ th.ran.last.calls.view
  last_view = ap (λ (c : CallStand). c.view) (th.ran.calls ∙ ap (λ (s : Stand g). s.calls) (end_is x th))

  none_waits : x.began.calls.retries.items ≡ []
  none_waits = ap (λ (b : Books). b.retries) th.nothing.books

  -- in the end no retry waits: each attempt to which an id advanced was taken out
  pub taken_out : (i f n : ℕ) → advances i f n x.ended.calls.seat.me.0 ≤ total (by_retry (is_retry (i * 4294967296 + f) n)) (deeds x th)
  taken_out i f n =
      let a = its_walk.awaited i f n in
      let b : advances i f n x.began.calls.seat.me.0 ≡ 0 = ap (λ (m : Me (Maybe Asked) (View Asked)). advances i f n m.0) th.ids in
      let c = ap (total (is_retry (i * 4294967296 + f) n)) th.ran.ends.1.all.none_waits in
      let d = ap (advances i f n) last_view in omega (arith, a, b, c, d)

  pub all_founded : AllByRecursion (Founded x.ended.calls.seat.me.0) (deeds x th)
  all_founded = subst (λ (v : View Asked). AllByRecursion (Founded v) (deeds x th)) (sym last_view)
      (its_walk.each (λ i f n low. (let b = ap (total (is_retry (i * 4294967296 + f) n)) none_waits in omega (arith, b))))
