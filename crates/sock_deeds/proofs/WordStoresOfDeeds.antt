-- Which deeds store a word, at a name or at a place index.
use Rattle.std.proofs.Common.{◌≡◌, ◌≢◌, ◌⊎◌, ℕ, ◌+◌, ◌<◌, Option, Some, None, inl, inr, List, [], ◌∷◌, refl, sym, ap, ◌∙◌, arith}
use mathlib.Core.Logic.{dite}
use native.Mathlib.Decide.{ℕ_discrete, dec_lt}
use Rattle.atomic_table.specs.Table.{Me}
use Rattle.sock_io.specs.declared.link.Out.{Ghosts}
use Rattle.sock_io.specs.LinkHalves.{OutState}
use Rattle.sock_words.specs.declared.outcome.Outcome.{Outcome}
use Rattle.sock_words.specs.declared.outcome.Outcome.TheVariants as outcome
use Rattle.sock_words.specs.declared.plain.Plan.{Plan}
use Rattle.sock_words.specs.declared.socket_id.SocketId.{SocketId}
use Rattle.sock_words.specs.PackedWords.{socket_id_version, socket_id_slot, NO_SOCKET}
use Rattle.sock_model.specs.declared.view.StoredWord.{StoredWord}
use Rattle.sock_model.specs.declared.view.View.{View}
use Rattle.sock_model.specs.SocketTableLayout.{name_index, open_index, place_index}
use Rattle.sock_model.specs.Marks.{noted}
use Rattle.sock_model.specs.MarkWeights.{pair}
use Rattle.slot_steps.proofs.RuleNumbers.{pair_is}
use Rattle.rpc_client.specs.sock_rule.specs.OnTable.{is_put, put_in}
use Rattle.rpc_client.specs.sock_rule.specs.NotesBesideRows.{PutAt}
use Rattle.rpc_client.specs.sock_rule.specs.declared.homes.Letter.{Letter}
use Rattle.rpc_client.specs.sock_table.specs.ReferenceAnswers.{LinkOf}
use Rattle.rpc_client.specs.sock_table.specs.NamesStoredAndFound.{FindsId, NotedAs}
use Rattle.rpc_client.specs.sock_table.specs.declared.finding.Noted.{Noted}
use Rattle.rpc_client.specs.sock_table.specs.declared.finding.Noted.TheVariants as noteds
use Rattle.rpc_client.specs.sock_table.specs.declared.refs.SockRef.{SockRef}
use Rattle.rpc_client.specs.write_chain.specs.declared.entry.Refused.{Refused}
use Rattle.rpc_client.specs.write_chain.specs.declared.entry.Refused.TheVariants as refused
use Rattle.rpc_client.specs.write_chain.specs.SendingIntoChain.{RefusedBy}
use Rattle.rpc_client.specs.declared.holding.Held.{Held}
use Rattle.rpc_client.specs.declared.reaching.Reached.{Reached}
use Rattle.rpc_client.specs.declared.reaching.Reached.TheVariants as reached
use Rattle.rpc_client.specs.FailOutcomes.{SetBy, TriedTo, FailedBy}
use Rattle.rpc_client.specs.HoldAndDropOutcomes.{HeldBy, DroppedBy}
use Rattle.rpc_client.specs.OpenOutcomes.{OpenedBy}
use Rattle.rpc_client.specs.ReachingByName.{ReachedBy}
use Rattle.rpc_client.specs.SendingOutcomes.{CameBack}
use Rattle.rpc_client.proofs.FindingReferences.{set_others}
use Rattle.sock_deeds.specs.Deeds.{Hand, IsDropWord, SentOver, MessageBy, Did, opens, sends, holds, drops, fails, waits, looks, takes, misses, sets, returns, DoneBy}
use Rattle.sock_words.specs.Totals.{total}

pub note_is : (x n : ℕ) (y : StoredWord) (all : List (List StoredWord)) → total (total (is_put x n)) (noted y all) ≡ is_put x n y + total (total (is_put x n)) all
note_is x n y [] = omega arith
note_is x n y (l ∷ ls) = omega arith

put_is : {S : Type 0} (x n y word : ℕ) (m m' : Me S View) → PutAt y word m m' → put_in x n m'.0 ≡ pair x n y word + put_in x n m.0
put_is {S} x n y word m m' put = ap (λ (z : Me S View). put_in x n z.0) put.view ∙ note_is x n record { place = y; word = word } m.0.stores

module _ (p : Plan) (x w : ℕ) where
  -- how often a seat stored this word there
  abbrev pub puts : View → ℕ
  puts v = put_in x w v

  none_at : (y word : ℕ) → x ≢ y → pair x w y word ≡ 0
  none_at y word ne = dite (ℕ_discrete (pair x w y word) 0) (λ e. e) (λ some_. absurd (ne (sym (pair_is x w y word (omega arith)).0)))

  found_puts : (y id : ℕ) (v u : View) → FindsId y id v u → puts u ≡ puts v
  found_puts y id v u d = ap puts d.view

  others_puts : (v u : View) → u ≡ record v { marks = u.marks } → puts u ≡ puts v
  others_puts v u e = ap puts e

  reached_puts : (n : ℕ) (r : Reached) (v u : View) → ReachedBy p n r v u → puts u ≡ puts v
  reached_puts n reached.Unopened v u r = ap puts r.0
  reached_puts n (reached.Gone found) v u r = others_puts r.1 u r.3.became.others ∙ found_puts (name_index p n) r.0.0 v r.1 r.2.1
  reached_puts n (reached.Here sock) v u r = others_puts r.0 u r.2.others ∙ found_puts (name_index p n) sock.id.0 v r.0 r.1.1

  -- ## Opening

  -- an `open` stored what is noted for its number: the id of its socket, or that it got none; or that id at its name
  abbrev pub NotesOpen : ℕ → Outcome → Type 0
  NotesOpen link by = ((id : SocketId) × (by ≡ outcome.Opened (socket_id_slot id.0) (socket_id_version id.0) link) × (w ≡ id.0 + 1)) ⊎ (w ≡ NO_SOCKET)

  pub data Publishes (name number link : ℕ) (by : Outcome) : Type 0 where
    for_number : x ≡ open_index p number → NotesOpen link by → Publishes name number link by
    under_name : (id : SocketId) → by ≡ outcome.Opened (socket_id_slot id.0) (socket_id_version id.0) link → x ≡ name_index p name → w ≡ id.0 + 1 → Publishes name number link by

  opened_puts : {S : Type 0} (name number link : ℕ) (by : Outcome) (m m' : Me S View) → OpenedBy p name number link by m m' → puts m.0 < puts m'.0 → Publishes name number link by
  opened_puts name number link (outcome.Opened slot version k) m m' b less =
      let o = b.4 in
      let e1 = o.created.stores x w in
      let e2 = put_is x w (open_index p number) (b.0.0 + 1) o.made o.told o.noted in
      let e4 = put_is x w (name_index p name) (b.0.0 + 1) o.told m' o.published in
      let is : outcome.Opened slot version k ≡ outcome.Opened (socket_id_slot b.0.0) (socket_id_version b.0.0) link = λ i. outcome.Opened (b.1 i) (b.2 i) (b.3 i) in
      dite (ℕ_discrete x (open_index p number))
      (λ same. for_number same (inl (
        b.0,
        is,
        dite (dec_lt 0 (pair x w (open_index p number) (b.0.0 + 1)))
            (λ some_. sym (pair_is x w (open_index p number) (b.0.0 + 1) some_).1)
            (λ none_. sym (pair_is x w (name_index p name) (b.0.0 + 1) (omega arith)).1),
      )))
      (λ ne. (
      let e3 = none_at (open_index p number) (b.0.0 + 1) ne in
      let q = pair_is x w (name_index p name) (b.0.0 + 1) (omega arith) in
      under_name b.0 is (sym q.0) (sym q.1)))
  opened_puts name number link outcome.SlotsFull m m' b less =
      let n = b.none_ in
      let e1 = ap puts b.each.others in
      let e2 = put_is x w (open_index p number) NO_SOCKET n.finished m' n.noted in
      let e3 = n.same.stores x w in
      let q = pair_is x w (open_index p number) NO_SOCKET (omega arith) in
      for_number (sym q.0) (inr (sym q.1))
  opened_puts name number link _ m m' b less = elim b [ ]

  -- ## Messages

  module _ {O : Type 0} (state : O → OutState) where
    refused_puts : (sock : SockRef) (msg : Letter) (r : Refused) (v u : View) → RefusedBy p sock msg r v u → puts u ≡ puts v
    refused_puts sock msg (refused.Failed s m found) v u b = others_puts v u b.3.others
    refused_puts sock msg (refused.Full s m) v u b = ap puts b.8

    came_puts : (sock : SockRef) (msg : Letter) (r : Refused) (v u : View) → CameBack p sock msg r v u → puts u ≡ puts v
    came_puts sock msg r v u c = others_puts c.refused_at u c.returned.back.became.others ∙ refused_puts sock msg r v c.refused_at c.refused_by

    asked_puts : (id : ℕ) (v u : View) → (u ≡ v) ⊎ ((k : ℕ) × LinkOf p k id v u) → puts u ≡ puts v
    asked_puts id v u a = elim a [ inl same ↦ ap puts same | inr l ↦ others_puts v u l.1.became.others ]

    over_puts : (name : ℕ) (msg : Letter) (by : Option Outcome) (v u : View) (s : SentOver state p name msg by v u) → puts s.addressed ≡ puts v
    over_puts name msg by v u s = asked_puts s.sock.id.0 s.has s.addressed s.link_asked ∙ reached_puts name (reached.Here s.sock) v s.has s.reached_it

    sent_puts : (name : ℕ) (msg : Letter) (by : Outcome) (v u : View) → MessageBy state p name msg (Some by) v u → puts u ≡ puts v
    sent_puts name msg outcome.Unopened v u s = reached_puts name reached.Unopened v u s
    sent_puts name msg (outcome.Gone found) v u s = elim s [
      | inl r ↦ reached_puts name (reached.Gone found) v u r
      | inr d ↦ came_puts d.sock msg _ d.addressed u d.delivered ∙ over_puts name msg _ v u d
    ]
    sent_puts name msg outcome.Full v u s = came_puts s.sock msg _ s.addressed u s.delivered ∙ over_puts name msg _ v u s
    sent_puts name msg _ v u s = elim s [ ]

    -- of a message that was accepted it is that of a dropped one
    written_puts : (name : ℕ) (msg : Letter) (v u : View) (s : SentOver state p name msg None v u) → puts v < puts u → IsDropWord p s.sock.id.0 s.delivered.through.wrote x w
    written_puts name msg v u s less =
        let a = over_puts name msg None v u s in
        let b = ap (total (total (is_put x w))) s.delivered.accepted.stores in
        let c = others_puts s.delivered.through.wrote u s.delivered.through.returned.back.became.others in
        s.dropped x w (omega arith)

  -- ## Holding and failing

  held_puts : (name : ℕ) (by : Outcome) (h : List Held) (v : View) (k : List Held) (u : View) → HeldBy p name by h v k u → puts u ≡ puts v
  held_puts name outcome.Unopened h v k u b = reached_puts name reached.Unopened v u b.1
  held_puts name (outcome.Gone found) h v k u b = reached_puts name (reached.Gone found) v u b.1
  held_puts name outcome.Held h v k u b = reached_puts name (reached.Here record { id = b.0 }) v u b.2
  held_puts name _ h v k u b = elim b [ ]

  dropped_puts : (name : ℕ) (by : Outcome) (h : List Held) (v : View) (k : List Held) (u : View) → DroppedBy name by h v k u → puts u ≡ puts v
  dropped_puts name outcome.NotHeld h v k u b = ap puts b.2
  dropped_puts name outcome.Freed h v k u b = others_puts v u b.2.back.became.others
  dropped_puts name outcome.Kept h v k u b = others_puts v u b.2.back.became.others
  dropped_puts name _ h v k u b = elim b [ ]

  set_puts : (id code : ℕ) (by : Outcome) (v u : View) → SetBy id code by v u → puts u ≡ puts v
  set_puts id code by v u b = others_puts v u (set_others id code by v u b)

  tried_puts : (name code : ℕ) (by : Outcome) (v u : View) → TriedTo p name code by v u → puts u ≡ puts v
  tried_puts name code by v u t = others_puts t.set u t.back.became.others ∙ (set_puts t.sock.id.0 code by t.has t.set t.set_by ∙ reached_puts name (reached.Here t.sock) v t.has t.reached_it)

  failed_puts : (name code : ℕ) (by : Outcome) (v u : View) → FailedBy p name code by v u → puts u ≡ puts v
  failed_puts name code outcome.Unopened v u b = reached_puts name reached.Unopened v u b
  failed_puts name code (outcome.Gone found) v u b = reached_puts name (reached.Gone found) v u b
  failed_puts name code outcome.Failed v u b = tried_puts name code outcome.Failed v u b
  failed_puts name code (outcome.Already found) v u b = tried_puts name code (outcome.Already found) v u b
  failed_puts name code _ v u b = elim b [ ]

  looked_puts : (number : ℕ) (x_ : Noted) (v u : View) → NotedAs p number x_ v u → puts u ≡ puts v
  looked_puts number noteds.NotYet v u b = ap puts b.0
  looked_puts number noteds.Nothing v u b = ap puts b.view
  looked_puts number (noteds.Id id) v u b = found_puts (open_index p number) id.0 v u b.1

  -- ## Any deed

  -- a deed that stored the word there opened a socket, or its message was accepted and others were dropped
  pub data Storing {O : Type 0} (state : O → OutState) (d : Did) (s t : Hand) : Type 0 where
    by_open : (name number link : ℕ) (by : Outcome) → d ≡ opens name number link by → Publishes name number link by → Storing state d s t
    by_drop : (name number attempt : ℕ) (msg : Letter) → d ≡ sends name number attempt msg None → (o : SentOver state p name msg None s.view t.view) → IsDropWord p o.sock.id.0 o.delivered.through.wrote x w → Storing state d s t

  pub done_stores : {O : Type 0} (g : Ghosts O) (state : O → OutState) (d : Did) (s t : Hand) → DoneBy g state p d s t → puts s.view < puts t.view → Storing state d s t
  done_stores g state (opens name number link by) s t b less = by_open name number link by refl (opened_puts name number link by (s.view, b.0.0) (t.view, b.0.1) b.0.2 less)
  done_stores g state (sends name number attempt msg None) s t b less = by_drop name number attempt msg refl b.0 (written_puts state name msg s.view t.view b.0 less)
  done_stores g state (sends name number attempt msg (Some by)) s t b less = absurd (let e = sent_puts state name msg by s.view t.view b.0 in omega arith)
  done_stores g state (holds name number by) s t b less = absurd (let e = held_puts name by s.held s.view t.held t.view b in omega arith)
  done_stores g state (drops name number by) s t b less = absurd (let e = dropped_puts name by s.held s.view t.held t.view b in omega arith)
  done_stores g state (fails name number code by) s t b less = absurd (let e = failed_puts name code by s.view t.view b.0 in omega arith)
  done_stores g state (waits name) s t b less = absurd (let e = found_puts (name_index p name) b.0.0.0 s.view t.view b.0.1.1 in omega arith)
  done_stores g state (looks number n) s t b less = absurd (let e = looked_puts number n s.view t.view b.0 in omega arith)
  done_stores g state (takes id) s t b less = absurd (let e = others_puts s.view t.view b.1.others in omega arith)
  done_stores g state (misses id found) s t b less = absurd (let e = others_puts s.view t.view b.0.became.others in omega arith)
  done_stores g state (sets id code by) s t b less = absurd (let e = set_puts id code by s.view t.view b.0 in omega arith)
  done_stores g state (returns id) s t b less = absurd (let e = others_puts s.view t.view b.0.back.became.others in omega arith)

-- ## Of sockets that are opened

-- an `open` of this number made a socket under this name, and the word tells its id
pub record OpensAs (w name number : ℕ) (d : Did) : Type 0 where
  pub link : ℕ
  pub id : SocketId
  pub did_is : d ≡ opens name number link (outcome.Opened (socket_id_slot id.0) (socket_id_version id.0) link)
  pub word : w ≡ id.0 + 1

-- ## At a name

module _ (p : Plan) (n w : ℕ) (low : n < p.names) where
  abbrev Opens : Did → Type 0
  Opens d = (number : ℕ) × OpensAs w n number d

  -- whoever stored a word at the name opened a socket under it
  pub done_puts : {O : Type 0} (g : Ghosts O) (state : O → OutState) (d : Did) (s t : Hand) → DoneBy g state p d s t → put_in (name_index p n) w s.view < put_in (name_index p n) w t.view → Opens d
  done_puts g state d s t b less = by_storing (done_stores p (name_index p n) w g state d s t b less)
    where
      by_name : (name number link : ℕ) (by : Outcome) → d ≡ opens name number link by → Publishes p (name_index p n) w name number link by → Opens d
      -- a name's word isn't one of an operation or of a place
      by_name name number link by is (for_number e said) = absurd (omega arith)
      by_name name number link by is (under_name id by_is e word) = let same : name ≡ n = omega arith in (number, record { link = link; id = id; did_is = is ∙ (λ i. opens (same i) number link (by_is i)); word = word })

      by_storing : Storing p (name_index p n) w state d s t → Opens d
      by_storing (by_open name number link by is u) = by_name name number link by is u
      by_storing (by_drop name number attempt msg is o dropped) = absurd (let e = dropped.at_place in omega arith)

-- ## At an operation

module _ (p : Plan) (o w : ℕ) (low : o < p.operations) where
  abbrev OpensBy : Did → Type 0
  OpensBy d = (name : ℕ) × OpensAs w name o d

  -- whoever stored an id for the operation of this number opened a socket by it, the one of that id
  pub done_notes : {O : Type 0} (g : Ghosts O) (state : O → OutState) (d : Did) (s t : Hand) → DoneBy g state p d s t → ((name number link : ℕ) (by : Outcome) → d ≡ opens name number link by → name < p.names) → w ≢ NO_SOCKET → put_in (open_index p o) w s.view < put_in (open_index p o) w t.view → OpensBy d
  done_notes g state d s t b named some_ less = by_storing (done_stores p (open_index p o) w g state d s t b less)
    where
      by_open_of : (name number link : ℕ) (by : Outcome) → d ≡ opens name number link by → name < p.names → Publishes p (open_index p o) w name number link by → OpensBy d
      by_open_of name number link by is low_name (for_number e (inl said)) =
          let same : number ≡ o = omega arith in
          (name, record { link = link; id = said.0; did_is = is ∙ (λ i. opens name (same i) link (said.1 i)); word = said.2 })
      by_open_of name number link by is low_name (for_number e (inr none_)) = absurd (some_ none_)
      -- an operation's word isn't one of a name or of a place
      by_open_of name number link by is low_name (under_name id by_is e word) = absurd (omega arith)

      by_storing : Storing p (open_index p o) w state d s t → OpensBy d
      by_storing (by_open name number link by is u) = by_open_of name number link by is (named name number link by is) u
      by_storing (by_drop name number attempt msg is over dropped) = absurd (let e = dropped.at_place in omega arith)

-- ## At a place index

-- whoever stored a word there dropped a message
module _ (p : Plan) (l w : ℕ) {O : Type 0} (g : Ghosts O) (state : O → OutState) where
  pub record DropsThere (s t : Hand) : Type 0 where
    pub name : ℕ
    pub msg : Letter
    pub over : SentOver state p name msg None s.view t.view
    pub word : IsDropWord p over.sock.id.0 over.delivered.through.wrote (place_index p l) w

  pub done_drops : (d : Did) (s t : Hand) → DoneBy g state p d s t → ((name number link : ℕ) (by : Outcome) → d ≡ opens name number link by → (name < p.names) × (number < p.operations)) → put_in (place_index p l) w s.view < put_in (place_index p l) w t.view → DropsThere s t
  done_drops d s t b fits less = by_storing (done_stores p (place_index p l) w g state d s t b less)
    where
      no_open : (name number link : ℕ) (by : Outcome) → (name < p.names) × (number < p.operations) → Publishes p (place_index p l) w name number link by → ⊥
      no_open name number link by low (for_number e said) = let a = low.1 in omega arith
      no_open name number link by low (under_name id by_is e word) = let a = low.0 in omega arith

      by_storing : Storing p (place_index p l) w state d s t → DropsThere s t
      by_storing (by_open name number link by is u) = absurd (no_open name number link by (fits name number link by is) u)
      by_storing (by_drop name number attempt msg is o dropped) = record { name = name; msg = msg; over = o; word = dropped }
