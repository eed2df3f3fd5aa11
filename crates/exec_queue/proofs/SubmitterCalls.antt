-- What the calls of a submitter leave of its seat.
use Rattle.std.proofs.Common.{◌≡◌, ◌≢◌, ℕ, ◌+◌, ◌<◌, ◌≤◌, ◌⊎◌, inl, inr, Bool, true, false, List, [], ◌∷◌, ◌++◌, length, suc, zero, refl, sym, ap, ◌∙◌, subst, arith}
use Rattle.std.specs.List.{AllByRecursion}
use Rattle.std.proofs.lemmas.Bool.Decides.{eqb_tells}
use Rattle.atomic_table.specs.Seated.{TableId}
use Rattle.atomic_table.specs.declared.shared.Seat.{Seat}
use Rattle.sock_io.specs.declared.link.Out.{Ghosts}
use Rattle.sock_io.specs.LinkHalves.{OutState}
use Rattle.sock_words.specs.declared.plain.Plan.{Plan}
use Rattle.sock_words.specs.PackedWords.{socket_id_slot, socket_id_version}
use Rattle.sock_model.specs.declared.chain.Entry.{Entry}
use Rattle.sock_model.specs.declared.view.View.{View}
use Rattle.sock_model.specs.ChainRows.{more}
use Rattle.sock_model.specs.Rule.{MOST_ACCEPTED}
use Rattle.sock_rule.specs.SocketSeatSplits.{IsSeat}
use Rattle.sock_table.specs.ReferenceCalls.{IsBetween, GaveBack}
use Rattle.sock_table.specs.ReferenceAnswers.{GoneFrom, Held, FailedBy, NoneLater}
use Rattle.sock_open.proofs.SeatsHoldingNothing.{gone_same, known_by}
use Rattle.write_chain.specs.declared.right.Undelivered.{Undelivered}
use Rattle.write_chain.specs.NotingWhileWriting.{Wrote, WroteDrop}
use Rattle.write_chain.specs.SendingIntoChain.{HasRoom, StartedBy, RefusedBy, FullNow}
use Rattle.write_chain.specs.ReadyToSend.{IsReady, HoldsOne}
use Rattle.write_chain.proofs.SeatBetweenMessages.{gone_spent, let_go_ready, noted_one}
use Rattle.sock_model.specs.declared.chain.Heading.{Heading}
use Rattle.sock_model.specs.declared.marks.Mark.{Mark}
use Rattle.sock_model.specs.declared.marks.Mark.TheVariants.{Hold}
use Rattle.sock_model.specs.MarkWeights.{is_ref, is_failer}
use Rattle.sock_open.specs.slot_steps.proofs.RuleNumbers.{only-same}
use Rattle.sock_rule.specs.MarksComeAndGo.{Became}
use Rattle.sock_words.specs.Totals.{total}
use Rattle.sock_rule.specs.declared.homes.Letter.{Letter}
use Rattle.sock_rule.specs.declared.homes.SockHome.{SockHome}
use Rattle.sock_table.specs.declared.refs.SockRef.{SockRef}
use Rattle.write_chain.specs.declared.entry.Started.{Started}
use Rattle.write_chain.specs.declared.entry.Started.TheVariants as started
use Rattle.write_chain.specs.declared.entry.Refused.{Refused}
use Rattle.write_chain.specs.declared.entry.Refused.TheVariants as refused
use Rattle.exec_queue.specs.declared.task.Task.{Task}
use Rattle.exec_queue.specs.declared.queue.TaskQueue.{TaskQueue}
use Rattle.exec_queue.specs.declared.queue.TaskSubmitter.{TaskSubmitter}
use Rattle.exec_queue.specs.StoppedQueue.{NotesFit, Grew, FoundStopped, failings}
use Rattle.exec_queue.specs.Submitters.{AreSubmitted, IsSubmitted, IsSubmitter, IsFreshLine, LinesDiffer}
use Rattle.exec_queue.proofs.SubmitterNotes.{ended_none, held_grew, back_grew, through, notes_still, notes_fit, stopped_through, stopped_later, now_told, now_full, all_taken, full_through, never_failed}
use Rattle.std.proofs.Math.Dec.{eqb}

-- what is written leaves the lists
pub wrote_lists : {O : Type 0} {state : O → OutState} (id : ℕ) (v w : View) → Wrote state id v w → w.lists ≡ v.lists
wrote_lists id v w a = ap (λ (y : View). y.lists) a.became.others

pub dropped_lists : {O : Type 0} {state : O → OutState} (p : Plan) (id : ℕ) (msg : Undelivered) (v w : View) → WroteDrop state p id msg v w → w.lists ≡ v.lists
dropped_lists p id msg v w a = ap (λ (y : View). y.lists) a.wrote.became.others

-- ## Lines

all_then : {X : Type 0} (P : X → Type 0) (xs : List X) (x : X) → AllByRecursion P xs → P x → AllByRecursion P (xs ++ x ∷ [])
all_then P [] x a p = (p, tt)
all_then P (y ∷ ys) x a p = (a.0, all_then P ys x a.1 p)

fresh_then : (line : ℕ) (ts : List Task) (t : Task) → IsFreshLine line ts → t.line ≢ line → IsFreshLine line (ts ++ t ∷ [])
fresh_then line ts t f ne = all_then (λ (x : Task). x.line ≢ line) ts t f ne

pub differ_then : (ts : List Task) (t : Task) → LinesDiffer ts → IsFreshLine t.line ts → LinesDiffer (ts ++ t ∷ [])
differ_then [] t d f = (tt, tt)
differ_then (x ∷ ts) t d f = (fresh_then x.line ts t d.0 (λ e. f.0 (sym e)), differ_then ts t d.1 f.1)

-- ## How many there may be

-- those that stand on line n, and those that stand on none behind it
abbrev pub one : Bool → ℕ
one true = 1
one false = 0

abbrev pub at_line : ℕ → List Task → ℕ
at_line n [] = 0
at_line n (t ∷ ts) = one (eqb t.line n) + at_line n ts

abbrev pub up_to : ℕ → List Task → ℕ
up_to zero ts = 0
up_to (suc n) ts = up_to n ts + at_line (suc n) ts

none_there : (n : ℕ) (ts : List Task) → IsFreshLine n ts → at_line n ts ≡ 0
none_there n [] f = refl
none_there n (t ∷ ts) f = by_cases (eqb_tells t.line n) (none_there n ts f.1)
  where
    by_cases : ((eqb t.line n ≡ true) × (t.line ≡ n)) ⊎ ((eqb t.line n ≡ false) × (t.line ≢ n)) → at_line n ts ≡ 0 → one (eqb t.line n) + at_line n ts ≡ 0
    by_cases (inl y) rest = absurd (f.0 y.1)
    by_cases (inr x) rest = omega (arith, ap one x.0, rest)

one_there : (n : ℕ) (ts : List Task) → LinesDiffer ts → at_line n ts ≤ 1
one_there n [] d = omega arith
one_there n (t ∷ ts) d = by_cases (eqb_tells t.line n) (one_there n ts d.1)
  where
    by_cases : ((eqb t.line n ≡ true) × (t.line ≡ n)) ⊎ ((eqb t.line n ≡ false) × (t.line ≢ n)) → at_line n ts ≤ 1 → one (eqb t.line n) + at_line n ts ≤ 1
    by_cases (inl y) rest = omega (arith, ap one y.0, none_there n ts (subst (λ (m : ℕ). IsFreshLine m ts) y.1 d.0))
    by_cases (inr x) rest = omega (arith, ap one x.0, rest)

pub few_up_to : (n : ℕ) (ts : List Task) → LinesDiffer ts → up_to n ts ≤ n
few_up_to zero ts d = omega arith
few_up_to (suc n) ts d = (let a = few_up_to n ts d in let b = one_there (suc n) ts d in omega arith)

more_up_to : (m : ℕ) (x : Task) (xs : List Task) → up_to m xs ≤ up_to m (x ∷ xs)
more_up_to zero x xs = omega arith
more_up_to (suc m) x xs = (let a = more_up_to m x xs in omega arith)

-- a task is counted on its line
pub counted : (n : ℕ) (t : Task) (ts : List Task) → 1 ≤ t.line → t.line ≤ n → up_to n ts + 1 ≤ up_to n (t ∷ ts)
counted zero t ts low high = absurd (omega (arith, low, high))
counted (suc n) t ts low high = by_cases (eqb_tells t.line (suc n)) (λ le. counted n t ts low le)
  where
    by_cases : ((eqb t.line (suc n) ≡ true) × (t.line ≡ suc n)) ⊎ ((eqb t.line (suc n) ≡ false) × (t.line ≢ suc n)) → (t.line ≤ n → up_to n ts + 1 ≤ up_to n (t ∷ ts)) → up_to n ts + at_line (suc n) ts + 1 ≤ up_to n (t ∷ ts) + (one (eqb t.line (suc n)) + at_line (suc n) ts)
    by_cases (inl y) rest = omega (arith, ap one y.0, more_up_to n t ts)
    by_cases (inr x) rest = omega (arith, ap one x.0, rest (omega (arith, high, x.1)))

-- ## Entries

pub submitted_then : (number : ℕ) (ts : List Task) (es : List Entry) (t : Task) (e : Entry) → AreSubmitted number ts es → IsSubmitted number t e → AreSubmitted number (ts ++ t ∷ []) (es ++ e ∷ [])
submitted_then number [] [] t e a is = (is, tt)
submitted_then number [] (y ∷ es) t e a is = absurd a
submitted_then number (x ∷ ts) [] t e a is = absurd a
submitted_then number (x ∷ ts) (y ∷ es) t e a is = (a.0, submitted_then number ts es t e a.1 is)

few : (n number : ℕ) (ts : List Task) (es : List Entry) → 4096 ≤ n → AreSubmitted number ts es → length es ≤ up_to n ts
few n number [] [] le a = omega arith
few n number [] (e ∷ es) le a = absurd a
few n number (t ∷ ts) [] le a = absurd a
few n number (t ∷ ts) (e ∷ es) le a = (let b = few n number ts es le a.1 in let c = counted n t ts a.0.line.low (let h = a.0.line.high in omega arith) in omega arith)

few_by : (n number : ℕ) (ts : List Task) (es : List Entry) → 4096 ≤ n → n < MOST_ACCEPTED → AreSubmitted number ts es → LinesDiffer ts → length es < MOST_ACCEPTED
few_by n number ts es le lt a d = (let b = few n number ts es le a in let s = few_up_to n ts d in omega arith)

-- so a submitter has few entries
pub few_entries : (number : ℕ) (ts : List Task) (es : List Entry) → AreSubmitted number ts es → LinesDiffer ts → length es < MOST_ACCEPTED
few_entries number ts es a d = few_by 4096 number ts es (omega arith) (omega arith) a d

-- ## The submitter

module _ {O : Type 0} {g : Ghosts O} (q : TaskQueue O g) where
  -- its list stays
  pub kept_submitter : (ts : List Task) (s t : TaskSubmitter O g) → IsSubmitter q ts s → t.number ≡ s.number → IsReady q.table.rule.table.shared.table_id q.table.rule.plan q.id.0 t.seat → t.seat.me.0.lists ≡ s.seat.me.0.lists → NotesFit q.table.rule.plan q.id.0 t.stops t.told t.full t.seat.me.0 → IsSubmitter q ts t
  kept_submitter ts s t is number ready lists noted = record { noted = noted; ready = ready; own = is.own; lists = lists ∙ is.lists; submitted = subst (λ (n : ℕ). AreSubmitted n ts is.own) (sym number) is.submitted; differ = is.differ }

  -- or gets a task more
  pub more_submitter : (ts : List Task) (t : Task) (e : Entry) (s s' : TaskSubmitter O g) → IsSubmitter q ts s → s'.number ≡ s.number → IsReady q.table.rule.table.shared.table_id q.table.rule.plan q.id.0 s'.seat → s'.seat.me.0.lists ≡ more s.seat.me.0.lists e → IsSubmitted s.number t e → IsFreshLine t.line ts → NotesFit q.table.rule.plan q.id.0 s'.stops s'.told s'.full s'.seat.me.0 → IsSubmitter q (ts ++ t ∷ []) s'
  more_submitter ts t e s s' is number ready lists of fresh noted = record {
    noted = noted;
    ready = ready;
    own = is.own ++ e ∷ [];
    lists = lists ∙ ap (λ (l : List (List Entry)). more l e) is.lists;
    submitted = subst (λ (n : ℕ). AreSubmitted n (ts ++ t ∷ []) (is.own ++ e ∷ [])) (sym number) (submitted_then s.number ts is.own t e is.submitted of);
    differ = differ_then ts t is.differ fresh;
  }

  -- with room for it
  pub more_room : (ts : List Task) (t : Task) (e : Entry) (s : TaskSubmitter O g) (w : View) → IsSubmitter q ts s → w.lists ≡ more s.seat.me.0.lists e → IsSubmitted s.number t e → IsFreshLine t.line ts → HasRoom w
  more_room ts t e s w is lists of fresh = record {
    made = is.own ++ e ∷ [];
    taken_in = [];
    lists = lists ∙ ap (λ (l : List (List Entry)). more l e) is.lists;
    room = few_entries s.number (ts ++ t ∷ []) (is.own ++ e ∷ []) (submitted_then s.number ts is.own t e is.submitted of) (differ_then ts t is.differ fresh);
  }

-- no reference came
module _ {S : Type 0} (z : TableId) (p : Plan) (id : ℕ) where
  pub gone_ready : (found : ℕ) (s t : Seat S View) → IsReady z p id s → IsSeat z p t → GoneFrom id found s.me.0 t.me.0 → IsBetween p t.me.0 → t.me.1 ≡ s.me.1 → IsReady z p id t
  gone_ready found s t r is g b slots = let d = gone_spent z p id found s t r is g b slots in let same = gone_same p id found s.me.0 t.me.0 g in record {
    done = d.0;
    known = record { inside = r.known.inside; known = known_by (socket_id_slot id) (socket_id_slot id) (socket_id_version id) s.me.0 t.me.0 _ [] g.became refl r.known.known };
    share = d.1;
    room = record { made = r.room.made; taken_in = r.room.taken_in; lists = same.lists ∙ r.room.lists; room = r.room.room };
  }

-- what was accepted
pub started_entry : {O : Type 0} {g : Ghosts O} (p : Plan) (sock : SockRef) (heading : Heading) (bytes : List ℕ) (s : Started O g) (v w : View) → StartedBy p sock heading bytes s v w → (e : Entry) × (e.heading ≡ heading) × (e.bytes ≡ bytes) × (w.lists ≡ more v.lists e) × (e.link < p.links)
started_entry p sock heading bytes (started.Queued r) v w b = (b.1.entry, b.1.heading_is, b.1.bytes_is, b.1.lists, b.1.inside)
started_entry p sock heading bytes (started.Right r) v w b = (b.2.entry, b.2.heading_is, b.2.bytes_is, b.2.lists, b.2.inside)

-- a refusal leaves the lists
pub refused_lists : (p : Plan) (sock : SockRef) (msg : Letter) (r : Refused) (v w : View) → RefusedBy p sock msg r v w → w.lists ≡ v.lists
refused_lists p sock msg (refused.Failed s m found) v w b = ap (λ (y : View). y.lists) b.3.others
refused_lists p sock msg (refused.Full s m) v w b = b.3

-- the reference that a call held goes back
module _ {O : Type 0} {g : Ghosts O} (q : TaskQueue O g) (ts : List Task) (s s' : TaskSubmitter O g) (u : Seat (SockHome O g) View) (id : ℕ) (ended : Bool) (is : IsSubmitter q ts s) (number : s'.number ≡ s.number) (e : id ≡ q.id.0)
    (one : HoldsOne q.table.rule.plan id u.me.0) (none_ : u.me.1 ≡ []) (seat : IsSeat q.table.rule.table.shared.table_id q.table.rule.plan s'.seat) (back : GaveBack (socket_id_slot id) u.me.0 s'.seat.me.0 (Hold (socket_id_version id)) ended) (b : IsBetween q.table.rule.plan s'.seat.me.0) (slots : s'.seat.me.1 ≡ u.me.1) where
  ready_again : HasRoom u.me.0 → IsReady q.table.rule.table.shared.table_id q.table.rule.plan q.id.0 s'.seat
  ready_again room = subst (λ (x : ℕ). IsReady q.table.rule.table.shared.table_id q.table.rule.plan x s'.seat) e (let_go_ready q.table.rule.table.shared.table_id q.table.rule.plan id u s'.seat ended one none_ seat back b slots room)

  same_lists : s'.seat.me.0.lists ≡ u.me.0.lists
  same_lists = ap (λ (y : View). y.lists) back.became.others

  pub released : u.me.0.lists ≡ s.seat.me.0.lists → NotesFit q.table.rule.plan q.id.0 s'.stops s'.told s'.full s'.seat.me.0 → IsSubmitter q ts s'
  released lists noted = kept_submitter q ts s s' is number (ready_again record { made = is.own; taken_in = []; lists = lists ∙ is.lists; room = few_entries s.number ts is.own is.submitted is.differ }) (same_lists ∙ lists) noted

  pub released_more : (t : Task) (x : Entry) → u.me.0.lists ≡ more s.seat.me.0.lists x → IsSubmitted s.number t x → IsFreshLine t.line ts → NotesFit q.table.rule.plan q.id.0 s'.stops s'.told s'.full s'.seat.me.0 → IsSubmitter q (ts ++ t ∷ []) s'
  released_more t x lists of fresh noted = more_submitter q ts t x s s' is number (ready_again (more_room q ts t x s u.me.0 is lists of fresh)) (same_lists ∙ lists) of fresh noted

-- ## A call's notes

-- notes that are no references leave the one reference
pub noticed_one : (p : Plan) (id : ℕ) (v w : View) → (adds : List Mark) × (total is_ref adds ≡ 0) × Became (socket_id_slot id) v w adds [] → HoldsOne p id v → HoldsOne p id w
noticed_one p id v w n h = let b = n.2 in let o = b.others in noted_one p id v w n.0 record { here = λ f. b.here f; elsewhere = λ j ne. b.elsewhere j ne; others = refl } n.1 (ap (λ (y : View). y.claims) o) (ap (λ (y : View). y.loose) o) (ap (λ (y : View). y.share) o) (ap (λ (y : View). y.lists) o) h

-- a reference came, something was noted by it, and it went back
module _ {O : Type 0} {g : Ghosts O} (q : TaskQueue O g) (ts : List Task) (s : TaskSubmitter O g) (is : IsSubmitter q ts s) (a b : ℕ) (v w x : View) (ea : a ≡ q.id.0) (eb : b ≡ q.id.0) (held : Held q.id.0 s.seat.me.0 v) (ended : Bool) (back : GaveBack (socket_id_slot b) w x (Hold (socket_id_version b)) ended) where
  pub call_grew : (n : ℕ) → Grew a n v w → Grew q.id.0 n s.seat.me.0 x
  call_grew n h = through q.id.0 a b n s.seat.me.0 v w x ea eb (held_grew q.id.0 s.seat.me.0 v held) h (back_grew b w x ended back)

  pub call_notes : Grew a 0 v w → NotesFit q.table.rule.plan q.id.0 s.stops s.told s.full x
  call_notes h = notes_still q.id.0 q.table.rule.plan s.stops s.told s.full s.seat.me.0 x is.noted (call_grew 0 h)

  pub call_stopped : (found : ℕ) → FoundStopped a found v w → FoundStopped q.id.0 found s.seat.me.0 x
  call_stopped found st = stopped_through q.id.0 a b found s.seat.me.0 v w x ea eb (held_grew q.id.0 s.seat.me.0 v held) st (back_grew b w x ended back)

  -- the queue had been stopped
  pub call_told : (found : ℕ) → Grew a 0 v w → FoundStopped a found v w → NotesFit q.table.rule.plan q.id.0 s.stops true s.full x
  call_told found h st = now_told q.id.0 q.table.rule.plan s.stops s.told s.full x (call_notes h) (stopped_later q.id.0 found s.seat.me.0 x (call_stopped found st))

  -- each request was found taken
  pub call_full_now : FullNow q.table.rule.plan q.table.rule.plan.requests v w → FullNow q.table.rule.plan q.table.rule.plan.requests s.seat.me.0 x
  call_full_now f = full_through q.table.rule.plan q.table.rule.plan.requests s.seat.me.0 v w x (ap (λ (y : View). y.found) held.others) (ap (λ (y : View). y.found) back.became.others) f

  pub call_full : Grew a 0 v w → FullNow q.table.rule.plan q.table.rule.plan.requests v w → NotesFit q.table.rule.plan q.id.0 s.stops s.told true x
  call_full h f = now_full q.id.0 q.table.rule.plan s.stops s.told s.full x (call_notes h) (all_taken q.table.rule.plan s.seat.me.0 x (call_full_now f))

  -- the queue was stopped by this call, and by no other of the seat
  pub call_stops : (n : ℕ) → s.stops ≡ 0 → n ≡ 1 → Grew a 1 v w → NotesFit q.table.rule.plan q.id.0 n s.told s.full x
  call_stops n none_ one_ h = subst (λ (m : ℕ). NotesFit q.table.rule.plan q.id.0 m s.told s.full x) (omega (arith, none_, one_)) (notes_fit q.id.0 q.table.rule.plan s.stops 1 s.told s.full s.seat.me.0 x is.noted (call_grew 1 h))

  pub call_failed : NoneLater q.id.0 s.seat.me.0 → (code : ℕ) → FailedBy a code v w → failings q.id.0 x ≡ 1
  call_failed n code f = let h : ℕ = socket_id_version q.id.0 in let i : ℕ = socket_id_slot q.id.0 in
      let none_ = never_failed q.id.0 q.table.rule.plan s.stops s.told s.full s.seat.me.0 is.noted n in
      let f' : FailedBy q.id.0 code v w = subst (λ (y : ℕ). FailedBy y code v w) ea f in
      let k : GaveBack i w x (Hold h) ended = subst (λ (y : ℕ). GaveBack (socket_id_slot y) w x (Hold (socket_id_version y)) ended) eb back in
      let one_ = held.here (is_failer h) in let two = f'.here (is_failer h) in let three = k.became.here (is_failer h) in let e = (ended_none w.plan ended k.version k.notes k.by).1 h in let o = only-same h in omega arith
