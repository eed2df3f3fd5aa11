-- What a seat has noted stays noted, whatever it does.
use Rattle.std.proofs.Common.{◌≡◌, ◌⊎◌, ℕ, suc, ◌+◌, ◌≤◌, Bool, true, false, Option, Some, None, inl, inr, List, [], ◌∷◌, length, refl, sym, ap, ◌∙◌, subst, arith}
use mathlib.Core.Logic.{dite}
use mathlib.Core.Option.{some}
use native.Mathlib.Decide.{ℕ_discrete, dec_lt}
use lib.ListN.{get_elem?}
use Rattle.atomic_table.specs.Table.{Me}
use Rattle.sock_io.specs.declared.link.Out.{Ghosts}
use Rattle.sock_io.specs.LinkHalves.{OutState}
use Rattle.sock_words.specs.declared.outcome.Outcome.{Outcome}
use Rattle.sock_words.specs.declared.outcome.Outcome.TheVariants as outcome
use Rattle.sock_words.specs.declared.plain.Plan.{Plan}
use Rattle.sock_words.specs.PackedWords.{socket_id_version, socket_id_slot}
use Rattle.sock_model.specs.declared.chain.Heading.{Heading}
use Rattle.sock_model.specs.declared.marks.Mark.{Mark}
use Rattle.sock_model.specs.declared.marks.Mark.TheVariants.{Hold, Known}
use Rattle.sock_model.specs.declared.marks.SlotMark.{SlotMark}
use Rattle.sock_model.specs.declared.view.StoredWord.{StoredWord}
use Rattle.sock_model.specs.declared.view.View.{View}
use Rattle.sock_model.specs.SocketTableLayout.{name_index, open_index}
use Rattle.sock_model.specs.Marks.{about, at, noted}
use Rattle.sock_model.specs.SlotRows.{marks_of}
use Rattle.slot_steps.proofs.SlotWeightSums.{about-here, about-other}
use Rattle.rpc_client.specs.sock_rule.specs.MarksComeAndGo.{Became}
use Rattle.rpc_client.specs.sock_rule.specs.OnTable.{is_put, put_in}
use Rattle.rpc_client.specs.sock_rule.specs.NotesBesideRows.{PutAt}
use Rattle.rpc_client.specs.sock_rule.specs.declared.homes.Letter.{Letter}
use Rattle.rpc_client.specs.sock_table.specs.ReferenceAnswers.{GoneFrom, LinkOf}
use Rattle.rpc_client.specs.sock_table.specs.NamesStoredAndFound.{HasSeen, FindsId, NotedAs}
use Rattle.rpc_client.specs.sock_table.specs.LinkPasses.{Created, TriedTo as TriedSlots}
use Rattle.rpc_client.specs.sock_rule.specs.LinkFaultNotes.{end_note}
use Rattle.rpc_client.specs.sock_table.specs.ReferenceCalls.{FinishedLink, GaveBack}
use Rattle.rpc_client.specs.sock_table.specs.declared.finding.Noted.{Noted}
use Rattle.rpc_client.specs.sock_table.specs.declared.finding.Noted.TheVariants as noteds
use Rattle.rpc_client.specs.sock_table.specs.declared.refs.SockRef.{SockRef}
use Rattle.rpc_client.specs.write_chain.specs.declared.entry.Refused.{Refused}
use Rattle.rpc_client.specs.write_chain.specs.declared.entry.Refused.TheVariants as refused
use Rattle.rpc_client.specs.write_chain.specs.SendingIntoChain.{RefusedBy}
use Rattle.rpc_client.specs.declared.holding.Held.{Held}
use Rattle.rpc_client.specs.declared.reaching.Reached.{Reached}
use Rattle.rpc_client.specs.declared.reaching.Reached.TheVariants as reached
use Rattle.rpc_client.specs.FailOutcomes.{SetBy, TriedTo, FailedBy}
use Rattle.rpc_client.specs.HoldAndDropOutcomes.{HeldBy, DroppedBy, GaveOne}
use Rattle.rpc_client.specs.OpenOutcomes.{OpenedBy, GotNone}
use Rattle.rpc_client.specs.ReachingByName.{ReachedBy}
use Rattle.rpc_client.specs.SendingOutcomes.{with_notes, WroteAll, Returned, CameBack, DeliveredBy}
use Rattle.sock_deeds.proofs.Flats.{append_later}
use Rattle.sock_deeds.specs.Deeds.{Hand, SentOver, MessageBy, Did, opens, sends, holds, drops, fails, waits, looks, takes, misses, sets, returns, DoneBy, Deed}
use Rattle.sock_words.specs.Totals.{total}

-- a mark that isn't a reference
abbrev pub IsNote : (Mark → ℕ) → Type 0
IsNote f = (h : ℕ) → f (Hold h) ≡ 0

abbrev pub HasFound : StoredWord → View → Type 0
HasFound x v = (k : ℕ) × (get_elem? v.finds k ≡ some x)

-- it dropped a message with which this stands
abbrev pub HasDropped : Heading → View → Type 0
HasDropped h v = (k : ℕ) × (get_elem? v.drops k ≡ some h)

pub record Grew (v w : View) : Type 0 where
  pub marks : (f : Mark → ℕ) → IsNote f → (i : ℕ) → marks_of f i v ≤ marks_of f i w
  pub seen : (x : ℕ) → HasSeen x v → HasSeen x w
  pub finds : (x : StoredWord) → HasFound x v → HasFound x w
  pub puts : (x n : ℕ) → put_in x n v ≤ put_in x n w
  pub dropped : (h : Heading) → HasDropped h v → HasDropped h w

pub stays : (v : View) → Grew v v
stays v = record { marks = λ f note i. omega arith; seen = λ x h. h; finds = λ x h. h; puts = λ x n. omega arith; dropped = λ x h. h }

pub stays_as : (v w : View) → w ≡ v → Grew v w
stays_as v w e = subst (λ (y : View). Grew v y) (sym e) (stays v)

pub grew_then : (u v w : View) → Grew u v → Grew v w → Grew u w
grew_then u v w a b = record {
  marks = λ f note i. omega (arith, a.marks f note i, b.marks f note i);
  seen = λ x h. b.seen x (a.seen x h);
  finds = λ x h. b.finds x (a.finds x h);
  dropped = λ x h. b.dropped x (a.dropped x h);
  puts = λ x n. omega (arith, a.puts x n, b.puts x n);
}

-- ## Steps

-- one mark more
more_marks : (f : Mark → ℕ) (i j : ℕ) (m : Mark) (es : List SlotMark) → total f (about i es) ≤ total f (about i (at j m ∷ es))
more_marks f i j m es = dite (ℕ_discrete i j)
    (λ same. subst (λ k. total f (about i es) ≤ total f (about i (at k m ∷ es))) same (let e = ap (total f) (about-here i m es) in omega arith))
    (λ ne. let e = ap (total f) (about-other i j m es ne) in omega arith)

pub found_grew : (x id : ℕ) (v w : View) → FindsId x id v w → Grew v w
found_grew x id v w d = record {
  marks = λ f note i. (let e = ap (λ (y : View). marks_of f i y) d.view in let m = more_marks f i (socket_id_slot id) (Known (socket_id_version id)) v.marks in omega arith);
  seen = λ y h. (suc h.0, ap (λ (z : View). get_elem? z.found (suc h.0)) d.view ∙ h.1);
  finds = λ y h. (suc h.0, ap (λ (z : View). get_elem? z.finds (suc h.0)) d.view ∙ h.1);
  dropped = λ y h. (h.0, ap (λ (z : View). get_elem? z.drops h.0) d.view ∙ h.1);
  puts = λ y n. (let e = ap (λ (z : View). put_in y n z) d.view in omega arith);
}

became_marks : (i : ℕ) (v w : View) (adds gone : List Mark) (f : Mark → ℕ) → total f gone ≡ 0 → Became i v w adds gone → (j : ℕ) → marks_of f j v ≤ marks_of f j w
became_marks i v w adds gone f none_ b j = dite (ℕ_discrete j i)
    (λ same. subst (λ k. marks_of f k v ≤ marks_of f k w) (sym same) (let h = b.here f in omega arith))
    (λ ne. let e = ap (total f) (b.elsewhere j ne) in omega arith)

-- marks alone changed
others_grew : (v w : View) → w ≡ record v { marks = w.marks } → ((f : Mark → ℕ) → IsNote f → (j : ℕ) → marks_of f j v ≤ marks_of f j w) → Grew v w
others_grew v w e marks = record {
  marks = marks;
  seen = λ x h. (h.0, ap (λ (z : View). get_elem? z.found h.0) e ∙ h.1);
  finds = λ x h. (h.0, ap (λ (z : View). get_elem? z.finds h.0) e ∙ h.1);
  dropped = λ x h. (h.0, ap (λ (z : View). get_elem? z.drops h.0) e ∙ h.1);
  puts = λ x n. (let q = ap (λ (z : View). put_in x n z) e in omega arith);
}

pub became_grew : (i : ℕ) (v w : View) (adds gone : List Mark) → ((f : Mark → ℕ) → IsNote f → total f gone ≡ 0) → Became i v w adds gone → Grew v w
became_grew i v w adds gone none_ b = others_grew v w b.others (λ f note j. became_marks i v w adds gone f (none_ f note) b j)

pub added_grew : (i : ℕ) (v w : View) (adds : List Mark) → Became i v w adds [] → Grew v w
added_grew i v w adds b = became_grew i v w adds [] (λ f note. refl) b

pub back_grew : (i h : ℕ) (v w : View) (ended : Bool) → GaveBack i v w (Hold h) ended → Grew v w
back_grew i h v w ended g = became_grew i v w g.notes (Hold h ∷ []) (λ f note. (let z = note h in omega arith)) g.became

pub returned_grew : (id : ℕ) (v w : View) → Returned id v w → Grew v w
returned_grew id v w r = back_grew (socket_id_slot id) (socket_id_version id) v w r.ended r.back

pub reached_grew : (p : Plan) (n : ℕ) (r : Reached) (v w : View) → ReachedBy p n r v w → Grew v w
reached_grew p n reached.Unopened v w r = stays_as v w r.0
reached_grew p n (reached.Gone found) v w r = grew_then v r.1 w (found_grew (name_index p n) r.0.0 v r.1 r.2.1) (added_grew (socket_id_slot r.0.0) r.1 w _ r.3.became)
reached_grew p n (reached.Here sock) v w r = grew_then v r.0 w (found_grew (name_index p n) sock.id.0 v r.0 r.1.1) (added_grew (socket_id_slot sock.id.0) r.0 w _ r.2)

-- ## Sending

note_more : (x n : ℕ) (y : StoredWord) (all : List (List StoredWord)) → total (total (is_put x n)) all ≤ total (total (is_put x n)) (noted y all)
note_more x n y [] = omega arith
note_more x n y (l ∷ ls) = omega arith

notes_more : (x n : ℕ) (ys : List StoredWord) (all : List (List StoredWord)) → total (total (is_put x n)) all ≤ total (total (is_put x n)) (with_notes ys all)
notes_more x n [] all = omega arith
notes_more x n (y ∷ ys) all = omega (arith, notes_more x n ys all, note_more x n y (with_notes ys all))

module _ {O : Type 0} (state : O → OutState) (p : Plan) where
  pub wrote_grew : (id : ℕ) (v w : View) → WroteAll state p id v w → Grew v w
  wrote_grew id v w a = record {
    marks = λ f note j. became_marks (socket_id_slot id) v (record w { rights = v.rights; stores = v.stores; drops = v.drops }) a.notes [] f refl a.became j;
    seen = λ x h. (h.0, ap (λ (z : View). get_elem? z.found h.0) a.became.others ∙ h.1);
    finds = λ x h. (h.0, ap (λ (z : View). get_elem? z.finds h.0) a.became.others ∙ h.1);
    dropped = λ x h. (length a.headings + h.0, ap (λ l. get_elem? l (length a.headings + h.0)) a.headings_are ∙ append_later a.headings v.drops h.0 x h.1);
    puts = λ x n. (let e = ap (total (total (is_put x n))) a.stores in let m = notes_more x n a.drops v.stores in omega arith);
  }

  refused_grew : (sock : SockRef) (msg : Letter) (r : Refused) (v w : View) → RefusedBy p sock msg r v w → Grew v w
  refused_grew sock msg (refused.Failed s m found) v w b = added_grew (socket_id_slot sock.id.0) v w _ b.3
  refused_grew sock msg (refused.Full s m) v w b = record {
    marks = λ f note j. became_marks (socket_id_slot sock.id.0) v (record v { marks = w.marks }) _ [] f refl b.7 j;
    seen = b.9;
    finds = λ x h. (h.0, ap (λ (z : View). get_elem? z.finds h.0) b.8 ∙ h.1);
    dropped = λ x h. (h.0, ap (λ (z : View). get_elem? z.drops h.0) b.8 ∙ h.1);
    puts = λ x n. (let q = ap (λ (z : View). put_in x n z) b.8 in omega arith);
  }

  came_grew : (sock : SockRef) (msg : Letter) (r : Refused) (v w : View) → CameBack p sock msg r v w → Grew v w
  came_grew sock msg r v w c = grew_then v c.refused_at w (refused_grew sock msg r v c.refused_at c.refused_by) (returned_grew sock.id.0 c.refused_at w c.returned)

  pub delivered_grew : (sock : SockRef) (msg : Letter) (by : Option Outcome) (v w : View) → DeliveredBy state p sock msg by v w → Grew v w
  delivered_grew sock msg None v w c = let a = c.accepted in grew_then v c.taken w
      record {
        marks = λ f note j. became_marks (socket_id_slot sock.id.0) v (record v { marks = c.taken.marks }) _ [] f refl a.marks j;
        seen = a.seen;
        finds = λ x h. (h.0, ap (λ l. get_elem? l h.0) a.finds ∙ h.1);
        dropped = λ x h. (h.0, ap (λ l. get_elem? l h.0) a.drops ∙ h.1);
        puts = λ x n. (let q = ap (total (total (is_put x n))) a.stores in omega arith);
      }
      (grew_then c.taken c.through.wrote w (wrote_grew sock.id.0 c.taken c.through.wrote c.through.by) (returned_grew sock.id.0 c.through.wrote w c.through.returned))
  delivered_grew sock msg (Some (outcome.Gone found)) v w c = came_grew sock msg (refused.Failed sock msg found) v w c
  delivered_grew sock msg (Some outcome.Full) v w c = came_grew sock msg (refused.Full sock msg) v w c
  delivered_grew sock msg (Some _) v w c = elim c [ ]

  asked_grew : (id : ℕ) (v w : View) → (w ≡ v) ⊎ ((k : ℕ) × LinkOf p k id v w) → Grew v w
  asked_grew id v w a = elim a [ inl same ↦ stays_as v w same | inr l ↦ added_grew (socket_id_slot id) v w _ l.1.became ]

  -- behind the reference that was got
  pub over_grew : (n : ℕ) (msg : Letter) (by : Option Outcome) (v w : View) (s : SentOver state p n msg by v w) → Grew s.has w
  over_grew n msg by v w s = grew_then s.has s.addressed w (asked_grew s.sock.id.0 s.has s.addressed s.link_asked) (delivered_grew s.sock msg by s.addressed w s.delivered)

  with_grew : (n : ℕ) (msg : Letter) (by : Option Outcome) (v w : View) → SentOver state p n msg by v w → Grew v w
  with_grew n msg by v w s = grew_then v s.has w (reached_grew p n (reached.Here s.sock) v s.has s.reached_it) (over_grew n msg by v w s)

  pub sent_grew : (n : ℕ) (msg : Letter) (by : Option Outcome) (v w : View) → MessageBy state p n msg by v w → Grew v w
  sent_grew n msg None v w s = with_grew n msg None v w s
  sent_grew n msg (Some outcome.Unopened) v w s = reached_grew p n reached.Unopened v w s
  sent_grew n msg (Some (outcome.Gone found)) v w s = elim s [ inl r ↦ reached_grew p n (reached.Gone found) v w r | inr d ↦ with_grew n msg (Some (outcome.Gone found)) v w d ]
  sent_grew n msg (Some outcome.Full) v w s = with_grew n msg (Some outcome.Full) v w s
  sent_grew n msg (Some _) v w s = elim s [ ]

-- ## Opening

pub put_grew : {S : Type 0} (x word : ℕ) (m n : Me S View) → PutAt x word m n → Grew m.0 n.0
put_grew {S} x word m n put = record {
  marks = λ f note i. (let e = ap (λ (y : Me S View). marks_of f i y.0) put.view in omega arith);
  seen = λ y h. (suc h.0, ap (λ (z : Me S View). get_elem? z.0.found (suc h.0)) put.view ∙ h.1);
  finds = λ y h. (h.0, ap (λ (z : Me S View). get_elem? z.0.finds h.0) put.view ∙ h.1);
  dropped = λ y h. (h.0, ap (λ (z : Me S View). get_elem? z.0.drops h.0) put.view ∙ h.1);
  puts = λ y k. (let e = ap (λ (z : Me S View). put_in y k z.0) put.view in let m_ = note_more y k record { place = x; word = word } m.0.stores in omega arith);
}

pub finished_grew : (p : Plan) (k : ℕ) (v w : View) → FinishedLink p k v w → Grew v w
finished_grew p k v w s = record {
  marks = λ f note i. (let e = ap (λ l. total f (about i l)) s.marks in let more = more_marks f i 0 (end_note p k) v.marks in omega arith);
  seen = λ x h. (h.0, ap (λ l. get_elem? l h.0) s.found ∙ h.1);
  finds = λ x h. (h.0, ap (λ l. get_elem? l h.0) s.finds ∙ h.1);
  dropped = λ x h. (h.0, ap (λ l. get_elem? l h.0) s.drops ∙ h.1);
  puts = λ x n. (let q = s.stores x n in omega arith);
}

tried_grew : (n : ℕ) (v w : View) → TriedSlots n v w → Grew v w
tried_grew n v w t = others_grew v w t.others (λ f note j. dite (dec_lt j n) (λ lt. let e = t.each j lt f in omega arith) (λ ge. let e = ap (total f) (t.elsewhere j (omega arith)) in omega arith))

pub created_grew : (id k : ℕ) (v w : View) → Created id k v w → Grew v w
created_grew id k v w c = record {
  marks = λ f note j. dite (ℕ_discrete j (socket_id_slot id))
      (λ same. subst (λ i. marks_of f i v ≤ marks_of f i w) (sym same) (let e = c.here f in omega arith))
      (λ ne. dite (dec_lt j (socket_id_slot id)) (λ lt. let e = c.tried j lt f in omega arith) (λ ge. let e = ap (total f) (c.elsewhere j (omega arith)) in omega arith));
  seen = λ x h. (h.0, ap (λ l. get_elem? l h.0) c.found ∙ h.1);
  finds = λ x h. (h.0, ap (λ l. get_elem? l h.0) c.finds ∙ h.1);
  dropped = λ x h. (h.0, ap (λ l. get_elem? l h.0) c.drops ∙ h.1);
  puts = λ x n. (let q = c.stores x n in omega arith);
}

pub none_grew : {S : Type 0} (p : Plan) (operation link : ℕ) (m n : Me S View) → GotNone p operation link m n → Grew m.0 n.0
none_grew {S} p operation link m n b = grew_then m.0 b.finished.0 n.0 (finished_grew p link m.0 b.finished.0 b.same) (put_grew (open_index p operation) _ b.finished n b.noted)

pub opened_grew : {S : Type 0} (p : Plan) (name operation link : ℕ) (by : Outcome) (m n : Me S View) → OpenedBy p name operation link by m n → Grew m.0 n.0
opened_grew p name operation link (outcome.Opened slot version k) m n b = let o = b.4 in grew_then m.0 o.made.0 n.0 (created_grew b.0.0 link m.0 o.made.0 o.created)
    (grew_then o.made.0 o.told.0 n.0 (put_grew (open_index p operation) (b.0.0 + 1) o.made o.told o.noted) (put_grew (name_index p name) (b.0.0 + 1) o.told n o.published))
opened_grew p name operation link outcome.SlotsFull m n b = grew_then m.0 b.tried.0 n.0 (tried_grew p.slots m.0 b.tried.0 b.each) (none_grew p operation link b.tried n b.none_)
opened_grew p name operation link _ m n b = elim b [ ]

-- ## Holding and failing

pub held_grew : (p : Plan) (n : ℕ) (by : Outcome) (h : List Held) (v : View) (k : List Held) (w : View) → HeldBy p n by h v k w → Grew v w
held_grew p n outcome.Unopened h v k w b = reached_grew p n reached.Unopened v w b.1
held_grew p n (outcome.Gone found) h v k w b = reached_grew p n (reached.Gone found) v w b.1
held_grew p n outcome.Held h v k w b = reached_grew p n (reached.Here record { id = b.0 }) v w b.2
held_grew p n _ h v k w b = elim b [ ]

one_grew : (at_ : ℕ) (ended : Bool) (h : List Held) (v : View) (k : List Held) (w : View) → GaveOne at_ ended h v k w → Grew v w
one_grew at_ ended h v k w g = back_grew (socket_id_slot g.held.id.0) (socket_id_version g.held.id.0) v w ended g.back

pub dropped_grew : (n : ℕ) (by : Outcome) (h : List Held) (v : View) (k : List Held) (w : View) → DroppedBy n by h v k w → Grew v w
dropped_grew n outcome.NotHeld h v k w b = stays_as v w b.2
dropped_grew n outcome.Freed h v k w b = one_grew b.0 true h v k w b.2
dropped_grew n outcome.Kept h v k w b = one_grew b.0 false h v k w b.2
dropped_grew n _ h v k w b = elim b [ ]

set_grew : (id code : ℕ) (by : Outcome) (v w : View) → SetBy id code by v w → Grew v w
set_grew id code outcome.Failed v w b = added_grew (socket_id_slot id) v w _ b
set_grew id code (outcome.Already found) v w b = added_grew (socket_id_slot id) v w _ b.1
set_grew id code _ v w b = elim b [ ]

tried_fail : (p : Plan) (n code : ℕ) (by : Outcome) (v w : View) → TriedTo p n code by v w → Grew v w
tried_fail p n code by v w t = grew_then v t.has w (reached_grew p n (reached.Here t.sock) v t.has t.reached_it)
    (grew_then t.has t.set w (set_grew t.sock.id.0 code by t.has t.set t.set_by) (back_grew (socket_id_slot t.sock.id.0) (socket_id_version t.sock.id.0) t.set w t.ended t.back))

pub failed_grew : (p : Plan) (n code : ℕ) (by : Outcome) (v w : View) → FailedBy p n code by v w → Grew v w
failed_grew p n code outcome.Unopened v w b = reached_grew p n reached.Unopened v w b
failed_grew p n code (outcome.Gone found) v w b = reached_grew p n (reached.Gone found) v w b
failed_grew p n code outcome.Failed v w b = tried_fail p n code outcome.Failed v w b
failed_grew p n code (outcome.Already found) v w b = tried_fail p n code (outcome.Already found) v w b
failed_grew p n code _ v w b = elim b [ ]

-- ## By the id

looked_grew : (p : Plan) (number : ℕ) (n : Noted) (v w : View) → NotedAs p number n v w → Grew v w
looked_grew p number noteds.NotYet v w b = stays_as v w b.0
looked_grew p number noteds.Nothing v w b = record {
  marks = λ f note i. (let e = ap (λ (y : View). marks_of f i y) b.view in omega arith);
  seen = λ x h. (suc h.0, ap (λ (z : View). get_elem? z.found (suc h.0)) b.view ∙ h.1);
  finds = λ x h. (suc h.0, ap (λ (z : View). get_elem? z.finds (suc h.0)) b.view ∙ h.1);
  dropped = λ x h. (h.0, ap (λ (z : View). get_elem? z.drops h.0) b.view ∙ h.1);
  puts = λ x n. (let e = ap (λ (z : View). put_in x n z) b.view in omega arith);
}
looked_grew p number (noteds.Id id) v w b = found_grew (open_index p number) id.0 v w b.1

gone_grew : (id found : ℕ) (v w : View) → GoneFrom id found v w → Grew v w
gone_grew id found v w b = added_grew (socket_id_slot id) v w _ b.became

-- ## Any deed

module _ {O : Type 0} (g : Ghosts O) (state : O → OutState) (p : Plan) where
  pub done_grew : (d : Did) (s t : Hand) → DoneBy g state p d s t → Grew s.view t.view
  done_grew (opens name number link by) s t b = opened_grew p name number link by (s.view, b.0.0) (t.view, b.0.1) b.0.2
  done_grew (sends name number attempt msg by) s t b = sent_grew state p name msg by s.view t.view b.0
  done_grew (holds name number by) s t b = held_grew p name by s.held s.view t.held t.view b
  done_grew (drops name number by) s t b = dropped_grew name by s.held s.view t.held t.view b
  done_grew (fails name number code by) s t b = failed_grew p name code by s.view t.view b.0
  done_grew (waits name) s t b = found_grew (name_index p name) b.0.0.0 s.view t.view b.0.1.1
  done_grew (looks number n) s t b = looked_grew p number n s.view t.view b.0
  done_grew (takes id) s t b = added_grew (socket_id_slot id) s.view t.view _ b.1
  done_grew (misses id found) s t b = gone_grew id found s.view t.view b.0
  done_grew (sets id code by) s t b = set_grew id code by s.view t.view b.0
  done_grew (returns id) s t b = returned_grew id s.view t.view b.0

  pub deed_grew : (d : Deed g state p) → Grew d.before.view d.after.view
  deed_grew d = done_grew d.did d.before d.after d.done
