-- Each word of an operation's attempts that a client stored was stored by one of its deeds: with the id and the number of that attempt, and the link of the socket to which it went.
use Rattle.std.proofs.Common.{◌≡◌, ℕ, ◌+◌, ◌<◌, ◌⊎◌, inl, inr, true, false, List, [], ◌∷◌, ◌++◌, length, Some, None, zero-le, zero-add, refl, sym, ap, ◌∙◌, subst, arith}
use Rattle.std.specs.Prelude.{Option}
use mathlib.Core.Logic.{dite}
use mathlib.Core.Option.{some}
use native.Mathlib.Decide.{ℕ_discrete}
use lib.ListN.{get_elem?}
use Rattle.atomic_table.specs.Table.{Me}
use Rattle.sock_io.specs.declared.link.Out.{Ghosts}
use Rattle.sock_io.specs.LinkHalves.{OutState}
use Rattle.sock_words.specs.ErrorCodes.{EFAILEDSOCKET}
use Rattle.sock_words.specs.PackedWords.{at_word, id_slot, id_first}
use Rattle.sock_words.specs.declared.outcome.Outcome.{Outcome}
use Rattle.sock_words.specs.declared.outcome.Outcome.TheVariants as outcome
use Rattle.sock_words.specs.declared.plain.Plan.{Plan}
use Rattle.sock_words.specs.declared.socket_id.SocketId.{SocketId}
use Rattle.attempts_told.specs.Below.SockRule.Letter.{Letter}
use Rattle.seat_programs.specs.declared.task.Op.{Op}
use Rattle.seat_programs.specs.declared.task.Op.TheVariants as ops
use Rattle.seat_programs.specs.declared.task.Task.{Task}
use Rattle.corr_core.specs.declared.marks.Kept.{Kept}
use Rattle.corr_core.specs.declared.marks.Note.TheVariants.{Made}
use Rattle.corr_core.specs.declared.marks.Plan as id_plan
use Rattle.corr_core.specs.declared.marks.View.{View}
use Rattle.corr_core.proofs.NoteSums.{pair-else_first, pair-same}
use Rattle.corr_id.specs.id_rule.specs.LawfulIdTable.{at_index, call_index, is_stored, notes_of, with_kept}
use Rattle.sock_message.specs.Asked.{Asked}
use Rattle.corr_id.specs.declared.calls.IdLock.{IdLock}
use Rattle.corr_id.specs.declared.posts.Posted.{Posted}
use Rattle.corr_id.specs.declared.posts.Posted.TheVariants.{Locked as HasLock}
use Rattle.corr_id.specs.SeatBehindIdCalls.{one}
use Rattle.corr_id.specs.PostAnswers.{PostOk}
use Rattle.attempts_told.specs.Below.CallErrors.Retry.{Retry}
use Rattle.attempts_told.specs.Below.CallErrors.ClientBooks.{CallStand, stand_of}
use Rattle.attempts_told.specs.Below.CallErrors.Handling.{Decided}
use Rattle.attempts_told.specs.Below.CallErrors.Handling as handling
use Rattle.attempts_told.specs.Below.CallErrors.PostedErrors.{Handled, PostedBy}
use Rattle.attempts_told.specs.Below.CallAttempts.ClientAtBothTables.{Both}
use Rattle.attempts_told.specs.Below.CallAttempts.Attempting.{AttemptedBy, nowhere, over_link}
use Rattle.attempts_told.specs.Below.CallAttempts.AttemptLetters.{letter_for}
use Rattle.attempts_told.specs.Below.CallAttempts.WaitingRetries.{without_oldest, WentTo, stray, unopened, to_socket, RetriedBy, had_ended, overtaken, went_again}
use Rattle.attempts_told.specs.Below.CallClient.ClientBetweenOperations.{Stand, both_of, letter_of, Acted}
use Rattle.attempts_told.specs.Below.CallRun.Threads.{Thread, IsThread}
use Rattle.attempts_told.specs.call_whys.specs.call_places.specs.DeedsOfCallClient.{Deed, operates, retries, deeds}
use Rattle.attempts_told.specs.call_whys.specs.call_places.proofs.CallStandFollows.{Follows, expired_by, joined_by, sent_calling, delivered_by}
use Rattle.attempts_told.specs.call_whys.specs.call_places.proofs.Walks.{Walks, run_walk}
use Rattle.attempts_told.specs.call_whys.specs.call_places.proofs.OwnAcceptedMessages.{end_is}
use Rattle.attempts_told.specs.call_whys.specs.call_places.proofs.Still.{attempted_still, retried_still}
use Rattle.attempts_told.specs.call_whys.specs.call_places.proofs.RetryAndIdCounts.{Grows, acted_might}
use Rattle.attempts_told.specs.Below.CallClient.EndedCallsTelling.{did_total}
use Rattle.attempts_told.specs.call_whys.specs.call_told.specs.Least.{is_made_for}
use Rattle.attempts_told.specs.call_whys.specs.call_told.proofs.ToldCallEnds.{made_silent, counted_here}
use Rattle.attempts_told.specs.call_whys.specs.call_told.proofs.Least.{word_is as kept_word}
use Rattle.attempts_told.specs.call_whys.specs.call_places.specs.sock_deeds.proofs.Flats.{append_first, append_later}
use Rattle.failed_reasons.specs.Missed.{acted_id, id_of, attempt_of}
use Rattle.failed_reasons.proofs.AttemptLosses.{IsAskedIn}
use Rattle.sock_words.specs.Totals.{total}

-- ## The link of a deed

module _ {O : Type 0} (state : O → OutState) (p : Plan) (q : id_plan.Plan) where
  -- that of the socket to which the attempt had a reference
  abbrev pub attempt_link : (socket : SocketId) (msg : Letter) (s t : Both) → AttemptedBy state p q socket msg s t → Option ℕ
  attempt_link socket msg s t (nowhere n) = None
  attempt_link socket msg s t (over_link u l d) = Some l.link

  abbrev pub went_link : (name : ℕ) (msg : Letter) (s t : Both) → WentTo state p q name msg s t → Option ℕ
  went_link name msg s t (stray a b c) = None
  went_link name msg s t (unopened a b) = None
  went_link name msg s t (to_socket socket u f e a) = attempt_link socket msg u t a

  abbrev pub retry_link : (r : Retry) (s t : Both) → RetriedBy state p q r s t → Option ℕ
  retry_link r s t (had_ended h) = None
  retry_link r s t (overtaken k u l o) = None
  retry_link r s t (went_again k u l w) = went_link _ _ _ t w.went

  abbrev pub acted_link : {g : Ghosts O} (number : ℕ) (op : Op) (by : Option Outcome) (s t : Stand g) → Acted state p q number op by s t → Option ℕ
  acted_link number (ops.Call asked) None s t a = attempt_link a.1.socket _ a.1.at (both_of t) a.1.attempted
  acted_link number _ _ s t a = None

module _ {O : Type 0} {g : Ghosts O} {state : O → OutState} {p : Plan} {q : id_plan.Plan} where
  abbrev pub link_in : Deed g state p q → Option ℕ
  link_in (operates x by s t a) = acted_link state p q x.number x.op by s t a
  link_in (retries r s t by) = retry_link state p q r s t by

  -- the id of a first attempt was made for the operation
  abbrev pub IsMadeIn : View Asked → ℕ → Deed g state p q → Type 0
  IsMadeIn v o (operates x by s t a) = 0 < total (is_made_for (id_first (acted_id state p q x.number x.op by s t a)) o) (notes_of (id_slot (acted_id state p q x.number x.op by s t a)) v.notes)
  IsMadeIn v o (retries r s t by) = Unit {0}

  -- the deed stored this word of the attempts of operation o
  pub record IsStoredBy (v : View Asked) (o word : ℕ) (d : Deed g state p q) : Type 0 where
    pub asked : Asked
    pub is : IsAskedIn d asked
    pub operation : asked.operation ≡ o
    pub link : ℕ
    pub link_is : link_in d ≡ Some link
    pub link_low : link < p.links
    pub word_is : word ≡ at_word (id_first (id_of d)) (id_slot (id_of d)) link (attempt_of d)
    pub low : id_first (id_of d) < 67108864
    pub inside : id_slot (id_of d) < q.slots
    pub made : IsMadeIn v asked.operation d

  made_stays : (v w : View Asked) → Grows v w → (o : ℕ) (d : Deed g state p q) → IsMadeIn v o d → IsMadeIn w o d
  made_stays v w grows o (operates x by s t a) h = let z = grows (id_slot (acted_id state p q x.number x.op by s t a)) (is_made_for (id_first (acted_id state p q x.number x.op by s t a)) o) in omega (arith, z, h)
  made_stays v w grows o (retries r s t by) h = tt

  stored_stays : (v w : View Asked) → Grows v w → (o word : ℕ) (d : Deed g state p q) → IsStoredBy v o word d → IsStoredBy w o word d
  stored_stays v w grows o word d h = record { asked = h.asked; is = h.is; operation = h.operation; link = h.link; link_is = h.link_is; link_low = h.link_low; word_is = h.word_is; low = h.low; inside = h.inside; made = made_stays v w grows h.asked.operation d h.made }

-- ## What stores nothing

-- how often a seat stored this word there
abbrev pub stored_in : ℕ → ℕ → View Asked → ℕ
stored_in place word v = total (is_stored place word) v.kept

abbrev Keeps : View Asked → View Asked → Type 0
Keeps v w = w.kept ≡ v.kept

-- nothing more was stored
abbrev StoresNone : View Asked → View Asked → Type 0
StoresNone v w = (place word : ℕ) → stored_in place word w ≡ stored_in place word v

none_by : (v w : View Asked) → Keeps v w → StoresNone v w
none_by v w e place word = ap (total (is_stored place word)) e

none_then : (u v w : View Asked) → StoresNone u v → StoresNone v w → StoresNone u w
none_then u v w a b place word = b place word ∙ a place word

-- a word that was found
found_none : (at seen : ℕ) (v : View Asked) → StoresNone v (with_kept at false seen v)
found_none at seen v place word = zero-add (stored_in place word v)

post_keeps : (slots : ℕ) (v w : View Asked) (id code : ℕ) (attempt : Option ℕ) (answer : Posted Asked) → PostOk slots v w id code attempt answer → Keeps v w
post_keeps slots v w id code attempt (HasLock k) p = p.4.1.did.kept
post_keeps slots v w id code attempt _ p = p.0.kept

decided_keeps : {s : CallStand} {k : IdLock Asked} {code : ℕ} {attempt : Option ℕ} {t : CallStand} → Decided s k code attempt t → Keeps s.view t.view
decided_keeps (handling.ends s k code attempt t a b e) = e.ended.kept
decided_keeps (handling.starves s k code attempt t a e) = e.ended.kept
decided_keeps (handling.waits s k code attempt t a b e) = e.unlocked.4.kept
decided_keeps (handling.goes_on s k code attempt t u l next of a b e rest) = decided_keeps rest ∙ e.unlocked.3.kept

same_keeps : (s t : CallStand) → t ≡ s → Keeps s.view t.view
same_keeps s t e = ap (λ (y : CallStand). y.view.kept) e

handled_keeps : (code : ℕ) (attempt : Option ℕ) (answer : Posted Asked) (s t : CallStand) → Handled code attempt answer s t → Keeps s.view t.view
handled_keeps code attempt (HasLock k) s t d = decided_keeps d
handled_keeps code attempt _ s t e = same_keeps s t e

posts_none : (slots : ℕ) (s t : CallStand) (id code : ℕ) (attempt : Option ℕ) → PostedBy slots s id code attempt t → StoresNone s.view t.view
posts_none slots s t id code attempt b = none_by s.view t.view (handled_keeps code attempt b.0 (record { view = b.1.view; books = s.books }) t b.1.handled ∙ post_keeps slots s.view b.1.view id code attempt b.0 b.1.post)

-- an `expire`, a `join` and what becomes of messages store none
all_none : (q : id_plan.Plan) → Follows q (λ s t. StoresNone s.view t.view)
all_none q = record {
  same = λ s t e. none_by s.view t.view (same_keeps s t e);
  in_turn = λ s u t. none_then s.view u.view t.view;
  finds = λ s t place word e b. subst (StoresNone s.view) (sym e) (found_none place word s.view);
  looks = λ s t e quiet. none_by s.view t.view quiet.kept;
  posts = posts_none q.slots;
}

-- ## Of attempts

module _ (q : id_plan.Plan) where
  -- it stored a word more of the attempts of an operation only where this holds
  abbrev StoresFor : (ℕ → ℕ → Type 0) → View Asked → View Asked → Type 0
  StoresFor Q v w = (o word : ℕ) → 0 < stored_in (at_index q o) word w → (0 < stored_in (at_index q o) word v) ⊎ Q o word

  for_none : (Q : ℕ → ℕ → Type 0) (v w : View Asked) → StoresNone v w → StoresFor Q v w
  for_none Q v w n o word h = inl (let e = n (at_index q o) word in omega (arith, e, h))

  for_then : (Q : ℕ → ℕ → Type 0) (u v w : View Asked) → StoresFor Q u v → StoresFor Q v w → StoresFor Q u w
  for_then Q u v w a b o word h = elim (b o word h) [ inl k ↦ a o word k | inr r ↦ inr r ]

  -- a word of the attempts of operation n
  for_one : (Q : ℕ → ℕ → Type 0) (n put : ℕ) (v : View Asked) → Q n put → StoresFor Q v (with_kept (at_index q n) true put v)
  for_one Q n put v here o word h = dite (ℕ_discrete (stored_in (at_index q o) word v) 0)
      (λ z. inr (
      let k : Kept = record { place = at_index q n; own = true; word = put } in
      let w = kept_word (at_index q o) word k (omega (arith, z, h)) in let at = w.0 in
      let same : n ≡ o = omega (arith, at) in
      subst (λ (y : ℕ). Q y word) same (subst (Q n) w.1 here)))
      (λ ne. inl (omega (arith, ne)))

  -- and one that is none
  for_call : (Q : ℕ → ℕ → Type 0) (n put : ℕ) (v : View Asked) → StoresFor Q v (with_kept (call_index q n) true put v)
  for_call Q n put v o word h = inl (let a = pair-else_first (at_index q o) word (call_index q n) put (λ (e : call_index q n ≡ at_index q o). omega (arith, e)) in omega (arith, a, h))

  module _ {O : Type 0} (state : O → OutState) (p : Plan) (Q : ℕ → ℕ → Type 0) where
    -- that word of the attempt in this message, with the link
    abbrev StoresLink : Letter → ℕ → Type 0
    StoresLink msg link = Q msg.label.operation (at_word (id_first msg.owner) (id_slot msg.owner) link msg.label.attempt)

    attempt_for : (socket : SocketId) (msg : Letter) (s t : Both) (a : AttemptedBy state p q socket msg s t) → ((link : ℕ) → attempt_link state p q socket msg s t a ≡ Some link → link < p.links → StoresLink msg link) → StoresFor Q s.calls.view t.calls.view
    attempt_for socket msg s t (nowhere g) why = for_none Q s.calls.view t.calls.view (posts_none q.slots s.calls t.calls msg.owner EFAILEDSOCKET (Some msg.label.attempt) g.posted)
    attempt_for socket msg s t (over_link u l d) why =
        let put : ℕ = at_word (id_first msg.owner) (id_slot msg.owner) l.link msg.label.attempt in
        for_then Q s.calls.view u.calls.view t.calls.view (subst (StoresFor Q s.calls.view) (sym l.stored) (for_one Q msg.label.operation put s.calls.view (why l.link refl l.link_of.inside))) (for_none Q u.calls.view t.calls.view (delivered_by q (all_none q) state p socket msg u t d))

    went_for : (name : ℕ) (msg : Letter) (s t : Both) (w : WentTo state p q name msg s t) → ((link : ℕ) → went_link state p q name msg s t w ≡ Some link → link < p.links → StoresLink msg link) → StoresFor Q s.calls.view t.calls.view
    went_for name msg s t (stray a e h) why = for_none Q s.calls.view t.calls.view (posts_none q.slots s.calls t.calls msg.owner EFAILEDSOCKET (Some msg.label.attempt) h)
    went_for name msg s t (unopened f h) why = for_none Q s.calls.view t.calls.view (posts_none q.slots s.calls t.calls msg.owner EFAILEDSOCKET (Some msg.label.attempt) h)
    went_for name msg s t (to_socket socket u f e a) why = for_then Q s.calls.view u.calls.view t.calls.view (for_none Q s.calls.view u.calls.view (none_by s.calls.view u.calls.view (same_keeps s.calls u.calls e))) (attempt_for socket msg u t a why)

-- ## Of deeds

module _ {O : Type 0} {g : Ghosts O} (state : O → OutState) (p : Plan) (q : id_plan.Plan) where
  -- one of these deeds stored it
  abbrev StoredAmong : List (Deed g state p q) → View Asked → ℕ → ℕ → Type 0
  StoredAmong ds v o word = (i : ℕ) × (d : Deed g state p q) × (get_elem? ds i ≡ some d) × IsStoredBy v o word d

  record Stores (ds : List (Deed g state p q)) (s t : CallStand) : Type 0 where
    pub grows : Grows s.view t.view
    pub own : StoresFor q (StoredAmong ds t.view) s.view t.view

  stores_same : (s t : CallStand) → t ≡ s → Stores [] s t
  stores_same s t e = record {
    grows = λ i f. (let a = ap (λ (y : CallStand). total f (notes_of i y.view.notes)) e in omega (arith, a));
    own = for_none q (StoredAmong [] t.view) s.view t.view (none_by s.view t.view (same_keeps s t e));
  }

  stores_then : (a b : List (Deed g state p q)) (s u t : CallStand) → Stores a s u → Stores b u t → Stores (a ++ b) s t
  stores_then a b s u t x y = record {
    grows = λ i f. (let m = x.grows i f in let n = y.grows i f in omega (arith, m, n));
    own = λ o word h. elim (y.own o word h) [
      | inl k ↦ elim (x.own o word k) [ inl z ↦ inl z | inr w ↦ inr (w.0, w.1, append_first a b w.0 w.1 w.2, stored_stays u.view t.view y.grows o word w.1 w.3) ]
      | inr w ↦ inr (length a + w.0, w.1, append_later a b w.0 w.1 w.2, w.3)
    ];
  }

  one_deed : (d : Deed g state p q) (v : View Asked) (o word : ℕ) → IsStoredBy v o word d → StoredAmong (d ∷ []) v o word
  one_deed d v o word is = (0, d, refl, is)

  retry_stores : (r : Retry) (s t : Both) (by : RetriedBy state p q r s t) → Stores (retries r s t by ∷ []) s.calls t.calls
  retry_stores r s t by = record { grows = (retried_still state p q r s t by).grows; own = own by }
    where
      own : (b : RetriedBy state p q r s t) → StoresFor q (StoredAmong (retries r s t b ∷ []) t.calls.view) s.calls.view t.calls.view
      own (had_ended h) = for_none q (StoredAmong (retries r s t (had_ended h) ∷ []) t.calls.view) s.calls.view t.calls.view (none_by s.calls.view t.calls.view h.gone.quiet.kept)
      own (overtaken k u l o) = for_none q (StoredAmong (retries r s t (overtaken k u l o) ∷ []) t.calls.view) s.calls.view t.calls.view (none_by s.calls.view t.calls.view (decided_keeps o.decided ∙ (o.unlocked.3.kept ∙ l.got.got.did.kept)))
      own (went_again k u l w) =
          let d : Deed g state p q = retries r s t (went_again k u l w) in
          let Q : ℕ → ℕ → Type 0 = StoredAmong (d ∷ []) t.calls.view in
          let x : Both = record { socks = u.socks; calls = record { view = w.view; books = u.calls.books } } in
          for_then q Q s.calls.view w.view t.calls.view (for_none q Q s.calls.view w.view (none_by s.calls.view w.view (w.unlocked.4.kept ∙ l.got.got.did.kept)))
          (went_for q state p Q _ (letter_for k.content r.id r.attempt r.low) x t w.went (λ link is small. one_deed d t.calls.view k.content.operation (at_word (id_first r.id) (id_slot r.id) link r.attempt) (record {
            asked = k.content;
            is = refl;
            operation = refl;
            link = link;
            link_is = is;
            link_low = small;
            word_is = refl;
            low = (let a = l.got.to_last in let b = k.fits.low in let c = k.fits.range_high in omega (arith, a, b, c));
            inside = (let a = l.got.inside in let b = l.got.slot_is in omega (arith, a, b));
            made = tt;
          })))

  -- what a call that began stored
  acted_for : (number : ℕ) (op : Op) (by : Option Outcome) (s t : Stand g) (a : Acted state p q number op by s t) (Q : ℕ → ℕ → Type 0)
      → ((asked : Asked) (link : ℕ) → op ≡ ops.Call asked → acted_link state p q number op by s t a ≡ Some link → link < p.links → id_first (acted_id state p q number op by s t a) < 67108864 → id_slot (acted_id state p q number op by s t a) < q.slots
      → 0 < total (is_made_for (id_first (acted_id state p q number op by s t a)) asked.operation) (notes_of (id_slot (acted_id state p q number op by s t a)) t.calls.view.notes)
      → Q asked.operation (at_word (id_first (acted_id state p q number op by s t a)) (id_slot (acted_id state p q number op by s t a)) link 0)) → StoresFor q Q s.calls.view t.calls.view
  acted_for number (ops.Open n k) (Some by) s t h Q why = for_none q Q s.calls.view t.calls.view (none_by s.calls.view t.calls.view (same_keeps s.calls t.calls h.2))
  acted_for number (ops.Send n bytes) by s t h Q why = for_none q Q s.calls.view t.calls.view (sent_calling q (all_none q) state p n (letter_of number bytes) by s.me.0 s.calls t.me.0 t.calls h.0)
  acted_for number (ops.Call asked) (Some outcome.Unopened) s t h Q why = for_none q Q s.calls.view t.calls.view (none_by s.calls.view t.calls.view (same_keeps s.calls t.calls h.0.1))
  acted_for number (ops.Call asked) None s t h Q why =
      let b = h.1 in let m = b.made_for in let at = b.at.calls.view in let id : ℕ = h.0 in
      let f = is_made_for (id_first id) asked.operation in
      let a = did_total f (made_silent (id_first id) asked.operation) (id_slot id) s.calls.view m.view _ (one (id_slot id) (Made (id_first id) asked.range asked)) m.made.did (id_slot id) in
      let c = counted_here f (id_slot id) (Made (id_first id) asked.range asked) in let e = pair-same (id_first id) asked.operation in
      let noted = ap (λ (y : View Asked). total f (notes_of (id_slot id) y.notes)) m.noted in
      let grows = (attempted_still state p q b.socket _ b.at (both_of t) b.attempted).grows (id_slot id) f in
      for_then q Q s.calls.view m.view t.calls.view (for_none q Q s.calls.view m.view (none_by s.calls.view m.view m.made.did.kept))
      (for_then q Q m.view at t.calls.view (subst (StoresFor q Q m.view) (sym m.noted) (for_call q Q asked.operation id m.view))
      (attempt_for q state p Q b.socket (letter_for asked id 0 zero-le) b.at (both_of t) b.attempted (λ link is small. why asked link refl is small (let l = m.made.low in omega (arith, l)) m.made.inside (omega (arith, a, c, e, noted, grows)))))
  acted_for number (ops.Expire of) (Some by) s t h Q why = for_none q Q s.calls.view t.calls.view (expired_by q (all_none q) of by s.calls t.calls h.0)
  acted_for number (ops.Join of) (Some by) s t h Q why = for_none q Q s.calls.view t.calls.view (joined_by q (all_none q) of by s.calls t.calls h.0)
  acted_for number (ops.Hold n) (Some by) s t h Q why = for_none q Q s.calls.view t.calls.view (none_by s.calls.view t.calls.view (same_keeps s.calls t.calls h.2))
  acted_for number (ops.Drop n) (Some by) s t h Q why = for_none q Q s.calls.view t.calls.view (none_by s.calls.view t.calls.view (same_keeps s.calls t.calls h.2))
  acted_for number (ops.Fail n code) (Some by) s t h Q why = for_none q Q s.calls.view t.calls.view (none_by s.calls.view t.calls.view (same_keeps s.calls t.calls h.2))
  acted_for number _ _ s t h Q why = elim h [ ]

  operation_stores : (x : Task) (by : Option Outcome) (s t : Stand g) (a : Acted state p q x.number x.op by s t) → Stores (operates x by s t a ∷ []) s.calls t.calls
  operation_stores x by s t a =
      let d : Deed g state p q = operates x by s t a in record {
        grows = (acted_might state p q x.number x.op by s t a).grows;
        own = acted_for x.number x.op by s t a (StoredAmong (d ∷ []) t.calls.view) (λ asked link op is small low inside made. one_deed d t.calls.view asked.operation _ (record {
          asked = asked;
          is = op;
          operation = refl;
          link = link;
          link_is = is;
          link_low = small;
          word_is = refl;
          low = low;
          inside = inside;
          made = made;
        }));
      }

  all_store : (xs : List Task) → Walks state p q xs (λ ds s t. Stores ds s.calls t.calls)
  all_store xs = record {
    none = λ s t e. stores_same s.calls t.calls (ap (λ (y : Both). y.calls) e);
    in_turn = λ ds es s u t. stores_then ds es s.calls u.calls t.calls;
    retry = λ u t r rest waits by. (let one_retry = retry_stores r (without_oldest rest u) t by in record { grows = one_retry.grows; own = one_retry.own });
    operation = λ n x at. operation_stores x;
  }

-- ## A client's run

module _ {O : Type 0} {g : Ghosts O} {state : O → OutState} {p : Plan} {q : id_plan.Plan} {first : ℕ} (x : Thread g) (th : IsThread state p q first x) where
  all_stores : Stores state p q (deeds x th) (stand_of x.began.calls) (stand_of x.ended.calls)
  all_stores =
      let end : stand_of x.ended.calls ≡ th.ran.last.calls = th.ran.calls ∙ ap (λ (s : Stand g). s.calls) (end_is x th) in
      subst (λ (c : CallStand). Stores state p q (deeds x th) (stand_of x.began.calls) c) (sym end) (run_walk x th (all_store state p q x.tasks))

  -- all that it stored one of its deeds did
  pub stored_by : (o word : ℕ) → 0 < stored_in (at_index q o) word x.ended.calls.seat.me.0 → (i : ℕ) × (d : Deed g state p q) × (get_elem? (deeds x th) i ≡ some d) × IsStoredBy x.ended.calls.seat.me.0 o word d
  stored_by o word h = elim (all_stores.own o word h) [
    | inl before ↦ absurd (let a = ap (λ (m : Me (Option Asked) (View Asked)). stored_in (at_index q o) word m.0) th.ids in omega (arith, a, before))
    | inr w ↦ w
  ]
