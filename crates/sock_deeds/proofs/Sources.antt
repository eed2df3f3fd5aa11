-- Which deeds make a life, or fail one.
use Rattle.std.proofs.Common.{◌≡◌, ℕ, ◌+◌, ◌<◌, ◌⊎◌, Bool, true, false, cond, Option, Some, None, inl, inr, nat_le, List, [], ◌∷◌, refl, sym, ap, ◌∙◌, subst, arith}
use mathlib.Core.Logic.{dite}
use mathlib.Core.Option.{some}
use native.Mathlib.Decide.{ℕ_discrete, dec_lt}
use lib.ListN.{get_elem?}
use Rattle.atomic_table.specs.Table.{Me}
use Rattle.sock_io.specs.declared.link.Out.{Ghosts}
use Rattle.sock_io.specs.LinkHalves.{OutState}
use Rattle.sock_words.specs.ErrorCodes.{EFAILEDSOCKET}
use Rattle.sock_words.specs.declared.outcome.Outcome.{Outcome}
use Rattle.sock_words.specs.declared.outcome.Outcome.TheVariants as outcome
use Rattle.sock_words.specs.declared.plain.Plan.{Plan}
use Rattle.sock_words.specs.PackedWords.{socket_id_version, socket_id_slot, vref_version}
use Rattle.sock_model.specs.declared.marks.Mark.{Mark}
use Rattle.sock_model.specs.declared.marks.Mark.TheVariants.{Hold, Known, Saw, Met, Told, Tried, Freer, Recycling, Stored, Failer, Born, Linked}
use Rattle.sock_model.specs.declared.marks.SlotMark.{SlotMark}
use Rattle.sock_model.specs.declared.view.View.{View}
use Rattle.sock_model.specs.SocketTableLayout.{name_index, open_index}
use Rattle.sock_model.specs.Marks.{about, at}
use Rattle.sock_model.specs.SlotRows.{marks_of}
use Rattle.slot_steps.proofs.SlotWeightSums.{about-here, about-other}
use Rattle.rpc_client.specs.sock_rule.specs.MarksComeAndGo.{Became}
use Rattle.rpc_client.specs.sock_rule.specs.LinkFaultNotes.{fault as fault_mark}
use Rattle.rpc_client.specs.sock_rule.specs.NotesBesideRows.{PutAt}
use Rattle.rpc_client.specs.sock_rule.specs.declared.homes.Letter.{Letter}
use Rattle.rpc_client.specs.sock_table.specs.ReferenceAnswers.{Held as HeldOne, GoneFrom, LinkOf}
use Rattle.rpc_client.specs.sock_table.specs.NamesStoredAndFound.{FindsId, NotedAs}
use Rattle.rpc_client.specs.sock_table.specs.LinkPasses.{Created, TriedTo as TriedSlots}
use Rattle.rpc_client.specs.sock_rule.specs.LinkFaultNotes.{end_note}
use Rattle.rpc_client.specs.sock_table.specs.ReferenceCalls.{FinishedLink, GaveBack, EndedBy, retired}
use Rattle.rpc_client.specs.sock_table.specs.declared.finding.Noted.{Noted as NotedKind}
use Rattle.rpc_client.specs.sock_table.specs.declared.finding.Noted.TheVariants as noteds
use Rattle.rpc_client.specs.sock_table.specs.declared.refs.SockRef.{SockRef}
use Rattle.rpc_client.specs.write_chain.specs.declared.entry.Refused.{Refused}
use Rattle.rpc_client.specs.write_chain.specs.declared.entry.Refused.TheVariants as refused
use Rattle.rpc_client.specs.write_chain.specs.NotingWhileWriting.{Noted, nothing, finding, failing, IsFinding, saw, met, told, faulted, Met_by}
use Rattle.rpc_client.specs.write_chain.specs.SendingIntoChain.{RefusedBy}
use Rattle.rpc_client.specs.declared.holding.Held.{Held}
use Rattle.rpc_client.specs.declared.reaching.Reached.{Reached}
use Rattle.rpc_client.specs.declared.reaching.Reached.TheVariants as reached
use Rattle.rpc_client.specs.FailOutcomes.{TriedTo, FailedBy}
use Rattle.rpc_client.specs.HoldAndDropOutcomes.{HeldBy, DroppedBy, GaveOne}
use Rattle.rpc_client.specs.OpenOutcomes.{OpenedBy, GotNone}
use Rattle.rpc_client.specs.ReachingByName.{ReachedBy}
use Rattle.rpc_client.specs.SendingOutcomes.{WroteAll, Returned, CameBack}
use Rattle.sock_deeds.specs.Deeds.{Hand, SentOver, MessageBy, Did, opens, sends, holds, drops, fails, waits, looks, takes, misses, sets, returns, DoneBy}
use Rattle.sock_deeds.specs.BrokenLinksNoted.{noted_links, faults_by}
use Rattle.sock_deeds.proofs.GrowingSocketNotes.{Grew, returned_grew}
use Rattle.sock_words.specs.Totals.{total}

-- a life's birth, its link and its failing
abbrev pub of_life : Mark → Bool
of_life (Born h) = true
of_life (Linked h k) = true
of_life (Failer h) = true
of_life other = false

-- a weight of these marks alone
abbrev pub IsOfLife : (Mark → ℕ) → Type 0
IsOfLife f = (m : Mark) → of_life m ≡ false → f m ≡ 0

abbrev pub Same : (Mark → ℕ) → View → View → Type 0
Same f v w = (i : ℕ) → marks_of f i w ≡ marks_of f i v

pub same_then : (f : Mark → ℕ) (u v w : View) → Same f u v → Same f v w → Same f u w
same_then f u v w a b i = b i ∙ a i

pub same_as : (f : Mark → ℕ) (v w : View) → w ≡ v → Same f v w
same_as f v w e i = ap (marks_of f i) e

not_more : (f : Mark → ℕ) (v w : View) → Same f v w → (i : ℕ) → marks_of f i v < marks_of f i w → ⊥
not_more f v w same i less = let e = same i in omega arith

-- ## Marks

one_mark : (f : Mark → ℕ) (i j : ℕ) (m : Mark) (es : List SlotMark) → f m ≡ 0 → total f (about i (at j m ∷ es)) ≡ total f (about i es)
one_mark f i j m es none_ = dite (ℕ_discrete i j)
    (λ same. subst (λ k. total f (about i (at k m ∷ es)) ≡ total f (about i es)) same (let e = ap (total f) (about-here i m es) in omega arith))
    (λ ne. ap (total f) (about-other i j m es ne))

became_same : (f : Mark → ℕ) (i : ℕ) (v w : View) (adds gone : List Mark) → total f adds ≡ 0 → total f gone ≡ 0 → Became i v w adds gone → Same f v w
became_same f i v w adds gone a d b j = dite (ℕ_discrete j i)
    (λ same. subst (λ k. marks_of f k w ≡ marks_of f k v) (sym same) (let h = b.here f in omega arith))
    (λ ne. ap (total f) (b.elsewhere j ne))

-- marks of one slot alone came
became_slot : (f : Mark → ℕ) (i : ℕ) (v w : View) (adds gone : List Mark) → total f gone ≡ 0 → Became i v w adds gone → (j : ℕ) → marks_of f j v < marks_of f j w → (i ≡ j) × (0 < total f adds)
became_slot f i v w adds gone d b j less = dite (ℕ_discrete j i)
    (λ same. (sym same, subst (λ k. marks_of f k v < marks_of f k w → 0 < total f adds) (sym same) (λ l. (let h = b.here f in omega arith)) less))
    (λ ne. absurd (let e = ap (total f) (b.elsewhere j ne) in omega arith))

module _ (f : Mark → ℕ) (z : IsOfLife f) where
  retired_none : (x : ℕ) → total f (retired x) ≡ 0
  retired_none x = by_case (nat_le x 4294967292)
    where
      by_case : (b : Bool) → total f (cond b [] (Recycling x ∷ [])) ≡ 0
      by_case true = refl
      by_case false = let e = z (Recycling x) refl in omega arith

  ended_none : (p : Plan) (ended : Bool) (w : ℕ) (notes : List Mark) → EndedBy p ended w notes → total f notes ≡ 0
  ended_none p false w notes e = ap (total f) e
  ended_none p true w notes e = ap (total f) e.1 ∙ (let a = z (Freer (Rattle.std.proofs.Common.◌-◌ w 1)) refl in let b = z (Met (Rattle.std.proofs.Common.◌-◌ (w + 1) 2) e.0) refl in let c = retired_none (w + 1) in let d = z (end_note p e.0) refl in omega arith)

  pub found_same : (x id : ℕ) (v w : View) → FindsId x id v w → Same f v w
  found_same x id v w d i = ap (marks_of f i) d.view ∙ one_mark f i (socket_id_slot id) (Known (socket_id_version id)) v.marks (z (Known (socket_id_version id)) refl)

  pub back_same : (i h : ℕ) (v w : View) (ended : Bool) → GaveBack i v w (Hold h) ended → Same f v w
  back_same i h v w ended g = became_same f i v w g.notes (Hold h ∷ []) (ended_none v.plan ended g.version g.notes g.by) (let e = z (Hold h) refl in omega arith) g.became

  pub returned_same : (id : ℕ) (v w : View) → Returned id v w → Same f v w
  returned_same id v w r = back_same (socket_id_slot id) (socket_id_version id) v w r.ended r.back

  pub reached_same : (p : Plan) (n : ℕ) (r : Reached) (v w : View) → ReachedBy p n r v w → Same f v w
  reached_same p n reached.Unopened v w r = same_as f v w r.0
  reached_same p n (reached.Gone found) v w r = same_then f v r.1 w (found_same (name_index p n) r.0.0 v r.1 r.2.1)
      (became_same f (socket_id_slot r.0.0) r.1 w _ [] (let e = ended_none r.1.plan r.3.ended r.3.version r.3.notes r.3.by in let a = z (Saw (vref_version found.0)) refl in omega arith) refl r.3.became)
  reached_same p n (reached.Here sock) v w r = same_then f v r.0 w (found_same (name_index p n) sock.id.0 v r.0 r.1.1)
      (became_same f (socket_id_slot sock.id.0) r.0 w _ [] (let a = z (Saw (socket_id_version sock.id.0)) refl in let b = z (Hold (socket_id_version sock.id.0)) refl in omega arith) refl r.2)

  -- ## What is noted while a link is written

  finding_none : (h : ℕ) (m : Mark) → IsFinding h m → f m ≡ 0
  finding_none h _ (saw w) = z (Saw w) refl
  finding_none h _ (met k) = z (Met h k) refl
  finding_none h _ (told c) = z (Told h c) refl
  finding_none h _ (faulted k) = z (fault_mark k) refl

  noted_none : {O : Type 0} {state : O → OutState} {L : ℕ → Type 0} (h : ℕ) (ms : List Mark) → f (Failer h) ≡ 0 → Noted state L h ms → total f ms ≡ 0
  noted_none h _ e nothing = refl
  noted_none h _ e (finding m ms a b) = omega (arith, finding_none h m a, noted_none h ms e b)
  noted_none h _ e (failing k ms a b c) = omega (arith, e, z (fault_mark k) refl, z (Saw (h + 1)) refl, z (Stored h EFAILEDSOCKET) refl, z (Told h EFAILEDSOCKET) refl, noted_none h ms e c)

  noted_by : {O : Type 0} {state : O → OutState} {L : ℕ → Type 0} (h : ℕ) (ms : List Mark) (noted : Noted state L h ms) → 0 < total f ms → (k : ℕ) × L k × (j : ℕ) × (get_elem? (noted_links h ms noted) j ≡ some k)
  noted_by h _ nothing less = absurd (omega arith)
  noted_by h _ (finding m ms a b) less = noted_by h ms b (let e = finding_none h m a in omega arith)
  noted_by h _ (failing k ms a b c) less = (k, a, 0, refl)

  -- the seat that wrote the link of this life failed it
  pub record WroteFail {O : Type 0} (state : O → OutState) (p : Plan) (id i : ℕ) (v w : View) (all : WroteAll state p id v w) : Type 0 where
    pub slot : socket_id_slot id ≡ i
    pub weighs : 0 < f (Failer (socket_id_version id))
    pub link : ℕ
    pub link_met : Met_by id w link
    -- a fault of this link came
    pub place : ℕ
    pub listed : get_elem? (noted_links (socket_id_version id) all.notes all.noted) place ≡ some link

  module _ {O : Type 0} (state : O → OutState) (p : Plan) where
    wrote_same : (id : ℕ) (v w : View) (a : WroteAll state p id v w) (i : ℕ) → marks_of f i v < marks_of f i w → WroteFail state p id i v w a
    wrote_same id v w a i less =
        let b = became_slot f (socket_id_slot id) v (record w { rights = v.rights; stores = v.stores; drops = v.drops }) a.notes [] refl a.became i less in
        let n = noted_by (socket_id_version id) a.notes a.noted b.1 in
        let weighs : 0 < f (Failer (socket_id_version id)) = dite (ℕ_discrete (f (Failer (socket_id_version id))) 0) (λ none_. absurd (let e = noted_none (socket_id_version id) a.notes none_ a.noted in let m = b.1 in omega arith)) (λ ne. omega arith) in
        record { slot = b.0; weighs = weighs; link = n.0; link_met = n.1; place = n.2; listed = n.3 }

    refused_same : (sock : SockRef) (msg : Letter) (r : Refused) (v w : View) → RefusedBy p sock msg r v w → Same f v w
    refused_same sock msg (refused.Failed s m found) v w b = became_same f (socket_id_slot sock.id.0) v w _ [] (let a = z (Saw (vref_version found.0)) refl in omega arith) refl b.3
    refused_same sock msg (refused.Full s m) v w b = λ i. became_same f (socket_id_slot sock.id.0) v (record v { marks = w.marks }) _ [] (let a = z (Saw (socket_id_version sock.id.0)) refl in omega arith) refl b.7 i

    came_same : (sock : SockRef) (msg : Letter) (r : Refused) (v w : View) → CameBack p sock msg r v w → Same f v w
    came_same sock msg r v w c = same_then f v c.refused_at w (refused_same sock msg r v c.refused_at c.refused_by) (returned_same sock.id.0 c.refused_at w c.returned)

    asked_same : (id : ℕ) (v w : View) → (w ≡ v) ⊎ ((k : ℕ) × LinkOf p k id v w) → Same f v w
    asked_same id v w a = elim a [ inl same ↦ same_as f v w same | inr l ↦ became_same f (socket_id_slot id) v w _ [] (let y = z (Met (socket_id_version id) l.0) refl in omega arith) refl l.1.became ]

    over_same : (n : ℕ) (msg : Letter) (by : Option Outcome) (v w : View) (s : SentOver state p n msg by v w) → Same f v s.addressed
    over_same n msg by v w s = same_then f v s.has s.addressed (reached_same p n (reached.Here s.sock) v s.has s.reached_it) (asked_same s.sock.id.0 s.has s.addressed s.link_asked)

    refused_sent : (n : ℕ) (msg : Letter) (by : Outcome) (v w : View) → MessageBy state p n msg (Some by) v w → Same f v w
    refused_sent n msg outcome.Unopened v w s = reached_same p n reached.Unopened v w s
    refused_sent n msg (outcome.Gone found) v w s = elim s [
      | inl r ↦ reached_same p n (reached.Gone found) v w r
      | inr d ↦ same_then f v d.addressed w (over_same n msg _ v w d) (came_same d.sock msg _ d.addressed w d.delivered)
    ]
    refused_sent n msg outcome.Full v w s = same_then f v s.addressed w (over_same n msg _ v w s) (came_same s.sock msg _ s.addressed w s.delivered)
    refused_sent n msg _ v w s = elim s [ ]

    pub sent_source : (n : ℕ) (msg : Letter) (v w : View) (s : SentOver state p n msg None v w) (i : ℕ) → marks_of f i v < marks_of f i w → WroteFail state p s.sock.id.0 i s.delivered.taken s.delivered.through.wrote s.delivered.through.by
    sent_source n msg v w s i less =
        let a = over_same n msg None v w s i in
        let b = became_same f (socket_id_slot s.sock.id.0) s.addressed (record s.addressed { marks = s.delivered.taken.marks }) _ [] (let x = z (Saw (socket_id_version s.sock.id.0)) refl in let y = z (Met (socket_id_version s.sock.id.0) s.delivered.accepted.entry.link) refl in omega arith) refl s.delivered.accepted.marks i in
        let c = returned_same s.sock.id.0 s.delivered.through.wrote w s.delivered.through.returned i in
        wrote_same s.sock.id.0 s.delivered.taken s.delivered.through.wrote s.delivered.through.by i (omega arith)

  -- ## Opening

  put_same : {S : Type 0} (x word : ℕ) (m n : Me S View) → PutAt x word m n → Same f m.0 n.0
  put_same {S} x word m n put i = ap (λ (y : Me S View). marks_of f i y.0) put.view

  finished_same : (p : Plan) (k : ℕ) (v w : View) → FinishedLink p k v w → Same f v w
  finished_same p k v w s i = ap (λ l. total f (about i l)) s.marks ∙ one_mark f i 0 (end_note p k) v.marks (z (end_note p k) refl)

  tried_same : (n : ℕ) (v w : View) → TriedSlots n v w → Same f v w
  tried_same n v w t j = dite (dec_lt j n) (λ lt. let e = t.each j lt f in let y = z Tried refl in omega arith) (λ ge. ap (total f) (t.elsewhere j (omega arith)))

  none_same : {S : Type 0} (p : Plan) (operation link : ℕ) (m n : Me S View) → GotNone p operation link m n → Same f m.0 n.0
  none_same {S} p operation link m n b = same_then f m.0 b.finished.0 n.0 (finished_same p link m.0 b.finished.0 b.same) (put_same (open_index p operation) _ b.finished n b.noted)

  created_at : (id k : ℕ) (v w : View) → Created id k v w → (i : ℕ) → marks_of f i v < marks_of f i w → (socket_id_slot id ≡ i) × (0 < f (Linked (socket_id_version id) k) + f (Born (socket_id_version id)))
  created_at id k v w c i less = dite (ℕ_discrete i (socket_id_slot id))
      (λ same. (sym same, subst (λ j. marks_of f j v < marks_of f j w → 0 < f (Linked (socket_id_version id) k) + f (Born (socket_id_version id))) (sym same) (λ l. (let e = c.here f in let y = z (Known (socket_id_version id)) refl in omega arith)) less))
      (λ ne. absurd (dite (dec_lt i (socket_id_slot id)) (λ lt. let e = c.tried i lt f in let y = z Tried refl in omega arith) (λ ge. let e = ap (total f) (c.elsewhere i (omega arith)) in omega arith)))

  pub opened_source : {S : Type 0} (p : Plan) (name operation link : ℕ) (by : Outcome) (m n : Me S View) → OpenedBy p name operation link by m n → (i : ℕ) → marks_of f i m.0 < marks_of f i n.0
      → (version : ℕ) × (by ≡ outcome.Opened i version link) × (0 < f (Linked version link) + f (Born version))
  opened_source p name operation link (outcome.Opened slot version k) m n b i less =
      let o = b.4 in
      let e = put_same (open_index p operation) (b.0.0 + 1) o.made o.told o.noted i in
      let e' = put_same (name_index p name) (b.0.0 + 1) o.told n o.published i in
      let c = created_at b.0.0 link m.0 o.made.0 o.created i (omega arith) in
      (socket_id_version b.0.0, (λ x. outcome.Opened ((b.1 ∙ c.0) x) (b.2 x) (b.3 x)), c.1)
  opened_source p name operation link outcome.SlotsFull m n b i less = absurd (not_more f m.0 n.0 (same_then f m.0 b.tried.0 n.0 (tried_same p.slots m.0 b.tried.0 b.each) (none_same p operation link b.tried n b.none_)) i less)
  opened_source p name operation link _ m n b i less = elim b [ ]

  -- ## Holding and failing

  held_same : (p : Plan) (n : ℕ) (by : Outcome) (h : List Held) (v : View) (k : List Held) (w : View) → HeldBy p n by h v k w → Same f v w
  held_same p n outcome.Unopened h v k w b = reached_same p n reached.Unopened v w b.1
  held_same p n (outcome.Gone found) h v k w b = reached_same p n (reached.Gone found) v w b.1
  held_same p n outcome.Held h v k w b = reached_same p n (reached.Here record { id = b.0 }) v w b.2
  held_same p n _ h v k w b = elim b [ ]

  one_same : (at_ : ℕ) (ended : Bool) (h : List Held) (v : View) (k : List Held) (w : View) → GaveOne at_ ended h v k w → Same f v w
  one_same at_ ended h v k w g = back_same (socket_id_slot g.held.id.0) (socket_id_version g.held.id.0) v w ended g.back

  dropped_same : (n : ℕ) (by : Outcome) (h : List Held) (v : View) (k : List Held) (w : View) → DroppedBy n by h v k w → Same f v w
  dropped_same n outcome.NotHeld h v k w b = same_as f v w b.2
  dropped_same n outcome.Freed h v k w b = one_same b.0 true h v k w b.2
  dropped_same n outcome.Kept h v k w b = one_same b.0 false h v k w b.2
  dropped_same n _ h v k w b = elim b [ ]

  -- a `fail` that was answered `failed` failed this life
  abbrev pub FailsLife : Plan → ℕ → ℕ → Outcome → ℕ → View → View → Type 0
  FailsLife p n code by i v w = (t : TriedTo p n code outcome.Failed v w) × (by ≡ outcome.Failed) × (socket_id_slot t.sock.id.0 ≡ i) × (0 < f (Failer (socket_id_version t.sock.id.0)))

  set_failed : (id code i : ℕ) (v w : View) → Rattle.rpc_client.specs.sock_table.specs.ReferenceAnswers.FailedBy id code v w → marks_of f i v < marks_of f i w → (socket_id_slot id ≡ i) × (0 < f (Failer (socket_id_version id)))
  set_failed id code i v w b less = let s = became_slot f (socket_id_slot id) v w _ [] refl b i less in
      let h = socket_id_version id in let y = z (Saw (h + 1)) refl in let x = z (Stored h code) refl in let t = z (Told h code) refl in let more = s.1 in (s.0, omega arith)

  failed_at : (p : Plan) (n code : ℕ) (v w : View) (t : TriedTo p n code outcome.Failed v w) (i : ℕ) → marks_of f i v < marks_of f i w → FailsLife p n code outcome.Failed i v w
  failed_at p n code v w t i less =
      let a = reached_same p n (reached.Here t.sock) v t.has t.reached_it i in
      let c = back_same (socket_id_slot t.sock.id.0) (socket_id_version t.sock.id.0) t.set w t.ended t.back i in
      let s = set_failed t.sock.id.0 code i t.has t.set t.set_by (omega arith) in
      (t, refl, s.0, s.1)

  found_failed : (p : Plan) (n code : ℕ) (found : Rattle.sock_words.specs.declared.vref.Vref.Vref) (v w : View) → TriedTo p n code (outcome.Already found) v w → Same f v w
  found_failed p n code found v w t = same_then f v t.has w (reached_same p n (reached.Here t.sock) v t.has t.reached_it)
      (same_then f t.has t.set w (became_same f (socket_id_slot t.sock.id.0) t.has t.set _ [] (let a = z (Saw (vref_version found.0)) refl in omega arith) refl t.set_by.1)
      (back_same (socket_id_slot t.sock.id.0) (socket_id_version t.sock.id.0) t.set w t.ended t.back))

  pub failed_source : (p : Plan) (n code : ℕ) (by : Outcome) (v w : View) → FailedBy p n code by v w → (i : ℕ) → marks_of f i v < marks_of f i w → FailsLife p n code by i v w
  failed_source p n code outcome.Unopened v w b i less = absurd (not_more f v w (reached_same p n reached.Unopened v w b) i less)
  failed_source p n code (outcome.Gone found) v w b i less = absurd (not_more f v w (reached_same p n (reached.Gone found) v w b) i less)
  failed_source p n code outcome.Failed v w b i less = failed_at p n code v w b i less
  failed_source p n code (outcome.Already found) v w b i less = absurd (not_more f v w (found_failed p n code found v w b) i less)
  failed_source p n code _ v w b i less = elim b [ ]

  -- ## By the id

  looked_same : (p : Plan) (number : ℕ) (n : NotedKind) (v w : View) → NotedAs p number n v w → Same f v w
  looked_same p number noteds.NotYet v w b = same_as f v w b.0
  looked_same p number noteds.Nothing v w b = λ i. ap (marks_of f i) b.view
  looked_same p number (noteds.Id id) v w b = found_same (open_index p number) id.0 v w b.1

  gone_same : (id found : ℕ) (v w : View) → GoneFrom id found v w → Same f v w
  gone_same id found v w b = became_same f (socket_id_slot id) v w _ [] (let e = ended_none v.plan b.ended b.version b.notes b.by in let a = z (Saw (vref_version found)) refl in omega arith) refl b.became

  taken_same : (id : ℕ) (v w : View) → HeldOne id v w → Same f v w
  taken_same id v w b = became_same f (socket_id_slot id) v w _ [] (let a = z (Saw (socket_id_version id)) refl in let h = z (Hold (socket_id_version id)) refl in omega arith) refl b

  -- ## Any deed

  module _ {O : Type 0} (g : Ghosts O) (state : O → OutState) (p : Plan) where
    -- what a deed did where marks of such a weight came for slot i: it opened a socket, failed a life, by a name or by its id, or wrote a link that failed
    pub data Source (i : ℕ) (d : Did) (s t : Hand) (b : DoneBy g state p d s t) : Type 0 where
      by_open : (name number version link : ℕ) → d ≡ opens name number link (outcome.Opened i version link) → 0 < f (Linked version link) + f (Born version) → Source i d s t b
      by_fail : (name number code : ℕ) → d ≡ fails name number code outcome.Failed → FailsLife p name code outcome.Failed i s.view t.view → Source i d s t b
      by_set : (id code : ℕ) → d ≡ sets id code outcome.Failed → socket_id_slot id ≡ i → 0 < f (Failer (socket_id_version id)) → Source i d s t b
      by_write : (id : ℕ) (v w : View) (all : WroteAll state p id v w) → Grew w t.view → (fail : WroteFail state p id i v w all) → get_elem? (faults_by g state p d s t b) fail.place ≡ some fail.link → Source i d s t b

    set_source : (id code : ℕ) (by : Outcome) (s t : Hand) (b : DoneBy g state p (sets id code by) s t) (i : ℕ) → marks_of f i s.view < marks_of f i t.view → Source i (sets id code by) s t b
    set_source id code outcome.Failed s t b i less = let w = set_failed id code i s.view t.view b.0 less in by_set id code refl w.0 w.1
    set_source id code (outcome.Already found) s t b i less = absurd (not_more f s.view t.view (became_same f (socket_id_slot id) s.view t.view _ [] (let a = z (Saw (vref_version found.0)) refl in omega arith) refl b.0.1) i less)
    set_source id code _ s t b i less = elim b.0 [ ]

    sent_deed : (name number attempt : ℕ) (msg : Letter) (by : Option Outcome) (s t : Hand) (b : DoneBy g state p (sends name number attempt msg by) s t) (i : ℕ) → marks_of f i s.view < marks_of f i t.view → Source i (sends name number attempt msg by) s t b
    sent_deed name number attempt msg (Some by) s t b i less = absurd (not_more f s.view t.view (refused_sent state p name msg by s.view t.view b.0) i less)
    sent_deed name number attempt msg None s t b i less = let d = b.0.delivered in let w = sent_source state p name msg s.view t.view b.0 i less in
        by_write b.0.sock.id.0 d.taken d.through.wrote d.through.by (returned_grew b.0.sock.id.0 d.through.wrote t.view d.through.returned) w w.listed

    pub done_source : (d : Did) (s t : Hand) (b : DoneBy g state p d s t) (i : ℕ) → marks_of f i s.view < marks_of f i t.view → Source i d s t b
    done_source (opens name number link by) s t b i less = let w = opened_source p name number link by (s.view, b.0.0) (t.view, b.0.1) b.0.2 i less in by_open name number w.0 link (ap (opens name number link) w.1) w.2
    done_source (sends name number attempt msg by) s t b i less = sent_deed name number attempt msg by s t b i less
    done_source (holds name number by) s t b i less = absurd (not_more f s.view t.view (held_same p name by s.held s.view t.held t.view b) i less)
    done_source (drops name number by) s t b i less = absurd (not_more f s.view t.view (dropped_same name by s.held s.view t.held t.view b) i less)
    done_source (fails name number code by) s t b i less = let w = failed_source p name code by s.view t.view b.0 i less in by_fail name number code (ap (fails name number code) w.1) (w.0, refl, w.2, w.3)
    done_source (waits name) s t b i less = absurd (not_more f s.view t.view (found_same (name_index p name) b.0.0.0 s.view t.view b.0.1.1) i less)
    done_source (looks number n) s t b i less = absurd (not_more f s.view t.view (looked_same p number n s.view t.view b.0) i less)
    done_source (takes id) s t b i less = absurd (not_more f s.view t.view (taken_same id s.view t.view b.1) i less)
    done_source (misses id found) s t b i less = absurd (not_more f s.view t.view (gone_same id found s.view t.view b.0) i less)
    done_source (sets id code by) s t b i less = set_source id code by s t b i less
    done_source (returns id) s t b i less = absurd (not_more f s.view t.view (returned_same id s.view t.view b.0) i less)
