-- What a writer has stays through the steps that it makes.
use Rattle.std.proofs.Common.{◌≡◌, ◌≢◌, ℕ, zero, suc, ◌+◌, ◌*◌, ◌<◌, ◌≤◌, inl, inr, Bool, true, false, cond, eqb, eq-eqb, ne_eqb, not, List, [], ◌∷◌, ◌++◌, append-nil, append_assoc, refl, sym, ap, ◌∙◌, subst, arith}
use Rattle.std.specs.List.{filter}
use Rattle.atomic_table.specs.Table.{Me, rest}
use Rattle.sock_io.specs.declared.link.Out.{Ghosts}
use Rattle.sock_io.specs.LinkHalves.{OutState}
use Rattle.sock_words.specs.declared.plain.Plan.{Plan}
use Rattle.sock_words.specs.declared.plain.Label.{Label}
use Rattle.sock_words.specs.declared.ticket.Ticket.{Ticket}
use Rattle.sock_words.specs.PackedWords.{socket_id_version, socket_id_slot, ticket_request}
use Rattle.sock_model.specs.declared.chain.Right.{Right}
use Rattle.sock_model.specs.declared.chain.Stage.{Stage}
use Rattle.sock_model.specs.declared.chain.Stage.TheVariants.{Writes, Placed, Passes, Empties, Reversing, ReversesNext}
use Rattle.sock_model.specs.declared.marks.Mark.{Mark}
use Rattle.sock_model.specs.declared.marks.Mark.TheVariants.{Met}
use Rattle.sock_model.specs.declared.view.View.{View}
use Rattle.sock_model.specs.LinksInSlots.{HoldsLink}
use Rattle.sock_model.specs.MarkWeights.{is_ref, is_hold, is_met}
use Rattle.sock_model.specs.SlotRows.{met_link}
use Rattle.sock_model.specs.declared.chain.Heading.{Heading}
use Rattle.sock_rule.specs.NotesBesideRows.{dropped_at}
use Rattle.sock_model.specs.ChainRows.{with_right, without_right, taken_right, placed_right, dropped_right, passing_right, freed_stage, freed_right, walking_right, reading_right, turned_right}
use Rattle.message_parts.specs.Parcels.{parcel_of, outgoing_of}
use Rattle.sock_rule.specs.MarksComeAndGo.{Became}
use Rattle.sock_rule.specs.LinkFaultNotes.{faults_of, fault_found}
use Rattle.sock_rule.specs.HoldingWriteRight.{Part, Follows, ends, goes_on, MayFreeRequest, MayLookToWrite, MayEmptyHead}
use Rattle.sock_rule.specs.ChainPlays.{IsTicket}
use Rattle.sock_rule.specs.declared.homes.LinkHome.{LinkHome}
use Rattle.sock_rule.specs.declared.homes.Letter.{Letter}
use Rattle.sock_rule.specs.declared.homes.SockHome.{SockHome}
use Rattle.sock_rule.specs.declared.homes.SockHome.TheVariants.{Empty}
use Rattle.sock_rule.specs.Shows.{heading_of, way_at}
use Rattle.sock_rule.proofs.HoldingWriteRight.{one_right}
use Rattle.sock_rule.proofs.MarksComeAndGo.{met_marks}
use Rattle.sock_table.proofs.QuietBetweenCalls.{rests_on, rests_between}
use Rattle.write_chain.specs.declared.right.InHand.{InHand}
use Rattle.write_chain.specs.declared.right.LinkInHand.{LinkInHand}
use Rattle.write_chain.specs.NotingWhileWriting.{met, Noted, Wrote}
use Rattle.write_chain.specs.Puts.{WentOn, Called}
use Rattle.std.specs.Prelude.{◌⊎◌}
use Rattle.sock_model.specs.MarkWeights.{is_saw}
use Rattle.sock_model.specs.SlotRows.{marks_of}
use Rattle.write_chain.specs.declared.right.LinkCall.{LinkCall}
use Rattle.write_chain.specs.declared.right.LinkCall.TheVariants as call
use Rattle.write_chain.specs.LinkCalls.{NoneFailed, MayPut, IsTurn}
use Rattle.write_chain.proofs.Turning.{turn_begun, turn_looked}
use Rattle.write_chain.specs.declared.right.Doing.{Doing}
use Rattle.write_chain.specs.declared.right.Doing.TheVariants as doing
use Rattle.write_chain.specs.WritingRightInHand.{IsWriter, Stands, HasLink, HasInHand, IsPart, JustLooked, FoundDead, HasRest, HasPart, IsClean, HasWhole, GaveUp, IsLast}
use Rattle.write_chain.proofs.Faulting.{found_marks, found_noted, found_became}
use Rattle.write_chain.proofs.NotingWhileWriting.{noted_quiet, found_it, wrote_notes}

-- ## The right changes

pub writer_on : {p : Plan} {id last link : ℕ} {x : Right} {v w : View} → IsWriter p id last link x v → (last' : ℕ) (x' : Right) → x'.link ≡ x.link → x'.last ≡ last' → IsTicket p last' → w ≡ with_right v x' → IsWriter p id last' link x' w
writer_on {p} {id} {last} {link} {x} {v} {w} is last' x' same now ticket e = subst (λ (z : View). IsWriter p id last' link x' z) (sym e) record {
  one = one_right v x x' is.one same;
  last_is = now;
  last_ticket = ticket;
  link_is = same ∙ is.link_is;
  holds = record { inside = is.holds.inside; held = is.holds.held; met = is.holds.met };
  rests = is.rests;
  room = is.room;
}

-- and a drop is noted
writer_dropped : {p : Plan} {id last link : ℕ} {x : Right} {v w : View} → IsWriter p id last link x v → (y word : ℕ) (h : Heading) (x' : Right) → x'.link ≡ x.link → x'.last ≡ last → w ≡ dropped_at y word h (with_right v x') → IsWriter p id last link x' w
writer_dropped {p} {id} {last} {link} {x} {v} {w} is y word h x' same now e = subst (λ (z : View). IsWriter p id last link x' z) (sym e) record {
  one = one_right v x x' is.one same;
  last_is = now;
  last_ticket = is.last_ticket;
  link_is = same ∙ is.link_is;
  holds = record { inside = is.holds.inside; held = is.holds.held; met = is.holds.met };
  rests = record { unclaimed = is.rests.unclaimed; unprobed = is.rests.unprobed; uncoding = is.rests.uncoding; no_zero = is.rests.no_zero; no_rights = refl; empty = is.rests.empty; no_passes = is.rests.no_passes };
  room = is.room;
}

-- ## Notes come

pub writer_noted : {O : Type 0} {state : O → OutState} {L : ℕ → Type 0} {p : Plan} {id last link : ℕ} {x : Right} {v w : View} → IsWriter p id last link x v → (notes : List Mark) → Noted state L (socket_id_version id) notes → Became (socket_id_slot id) v w notes [] → IsWriter p id last link x w
writer_noted {p = p} {id = id} {last = last} {link = link} {x = x} {v = v} {w = w} is notes noted b = let q = noted_quiet notes noted in record {
  one = ap (λ (y : View). y.rights) b.others ∙ is.one;
  last_is = is.last_is;
  last_ticket = is.last_ticket;
  link_is = is.link_is;
  holds = record {
    inside = is.holds.inside;
    held = (let a = b.here (is_hold (socket_id_version id)) in let c = is.holds.held in omega arith);
    met = (let a = b.here (is_met (socket_id_version id) link) in let c = is.holds.met in omega arith);
  };
  rests = rests_on p (socket_id_slot id) v w notes [] is.rests b q.0;
  room = (let a = b.here is_ref in let c = is.room in let d = q.1 in omega arith);
}

took_all : (sent begun bytes left took : List ℕ) → took ≡ sent ++ begun → bytes ≡ begun ++ left → left ≡ [] → took ≡ sent ++ bytes
took_all sent begun bytes left took t b none_ = t ∙ ap (λ l. sent ++ l) (sym (b ∙ (ap (λ l. begun ++ l) none_ ∙ append-nil begun)))

-- a half has faults where its seat noted one, once it is in hand
noted_in_hand : (n i k : ℕ) (v : View) → (0 < faults_of k v → 0 < n) → 0 < faults_of k (fault_found n i k v) → 0 < n
noted_in_hand zero i k v known some_ = known some_
noted_in_hand (suc n) i k v known some_ = omega arith

-- ## In hand

-- a look before found the life live
abbrev pub HasClean : {O : Type 0} {g : Ghosts O} → Plan → List (List ℕ) → ℕ → ℕ → InHand O g → Me (SockHome O g) View → Type 0
HasClean p ways id last hand m = (h : HasInHand p ways id last hand m) × (h.right_is.clean ≡ true)

module _ {O : Type 0} {g : Ghosts O} where
  none_noted : (id : ℕ) (hand : InHand O g) (m n : Me (SockHome O g) View) (notes : List Mark) → Became (socket_id_slot id) m.0 n.0 notes [] → NoneFailed hand.calls.list ⊎ FoundDead id m.0 → NoneFailed hand.calls.list ⊎ FoundDead id n.0
  none_noted id hand m n notes b (inl none_) = inl none_
  none_noted id hand m n notes b (inr dead) = inr (let x = b.here (is_saw (socket_id_version id + 1)) in let y : 0 < marks_of (is_saw (socket_id_version id + 1)) (socket_id_slot id) m.0 = dead in omega arith)

  turn_now : (old new : InHand O g) (live : Bool) → Called (call.Looked live) old new → IsTurn g.state old.came.list old.home.out old.calls.list → IsTurn g.state old.came.list old.home.out new.calls.list
  turn_now old new live c t = subst (λ (cs : List LinkCall). IsTurn g.state old.came.list old.home.out cs) (sym c.calls) (turn_looked g.state old.came.list live old.home.out old.calls.list t)

  none_looked : {D : Type 0} (old new : InHand O g) (live : Bool) → Called (call.Looked live) old new → NoneFailed old.calls.list ⊎ D → NoneFailed new.calls.list ⊎ D
  none_looked old new live c (inl none_) = inl (subst NoneFailed (sym c.calls) none_)
  none_looked old new live c (inr dead) = inr dead

module _ {O : Type 0} {g : Ghosts O} {p : Plan} {ways : List (List ℕ)} {id last : ℕ} where
  -- the right's sign that a look found the life live is this one now, and the rest of what is in hand stays
  abbrev stays_in_hand : (hand : InHand O g) (m n : Me (SockHome O g) View) (h : HasInHand p ways id last hand m) (clean : Bool) → IsWriter p id last hand.link (record h.right_is { clean = clean }) n.0 → (0 < faults_of hand.link n.0 → 0 < (g.state hand.home.out).faults) → n.1 ≡ m.1 → HasInHand p ways id last hand n
  stays_in_hand hand m n h clean writer faults slots = record { right_is = record h.right_is { clean = clean }; writer = writer; has = record { away = h.has.away; link_in = h.has.link_in; places_are = h.has.places_are; own = h.has.own; way = h.has.way; unfinished = h.has.unfinished }; stage_is = h.stage_is; ticket = h.ticket; taken = h.taken; label_is = h.label_is; owner_is = h.owner_is; place_in = h.place_in; begun = h.begun; bytes_are = h.bytes_are; took = h.took; noted = faults; few = h.few; turn = h.turn; slots = slots ∙ h.slots }

  -- where notes come
  pub rest_noted : {L : ℕ → Type 0} (hand : InHand O g) (m n : Me (SockHome O g) View) (notes : List Mark) → Noted g.state L (socket_id_version id) notes → Became (socket_id_slot id) m.0 n.0 notes [] → n.1 ≡ m.1 → (0 < faults_of hand.link n.0 → 0 < (g.state hand.home.out).faults) → HasRest p ways id last hand m → HasRest p ways id last hand n
  rest_noted hand m n notes noted b slots faults h = (stays_in_hand hand m n h.0 h.0.right_is.clean (writer_noted h.0.writer notes noted b) faults slots, h.1)

  pub part_noted : {L : ℕ → Type 0} (hand : InHand O g) (m n : Me (SockHome O g) View) (notes : List Mark) → Noted g.state L (socket_id_version id) notes → Became (socket_id_slot id) m.0 n.0 notes [] → n.1 ≡ m.1 → (0 < faults_of hand.link n.0 → 0 < (g.state hand.home.out).faults) → HasPart p ways id last hand m → HasPart p ways id last hand n
  part_noted hand m n notes noted b slots faults h = (stays_in_hand hand m n h.0 h.0.right_is.clean (writer_noted h.0.writer notes noted b) faults slots, h.1, none_noted id hand m n notes b h.2)

  -- where the look found the life live
  pub part_clean : {L : ℕ → Type 0} (hand : InHand O g) (m n : Me (SockHome O g) View) (v : View) (notes : List Mark) → Noted g.state L (socket_id_version id) notes → Became (socket_id_slot id) m.0 v notes [] → (0 < faults_of hand.link v → 0 < (g.state hand.home.out).faults) → (h : HasPart p ways id last hand m)
      → n ≡ (with_right v (record h.0.right_is { clean = true }), m.1) → HasClean p ways id last hand n
  part_clean hand m n v notes noted b faults h e = let w = writer_noted h.0.writer notes noted b in let view : n.0 ≡ with_right v (record h.0.right_is { clean = true }) = ap (λ (q : Me (SockHome O g) View). q.0) e in
      (stays_in_hand hand m n h.0 true (writer_on w last (record h.0.right_is { clean = true }) refl w.last_is w.last_ticket view) (λ t. faults (subst (λ (y : View). 0 < faults_of hand.link y) view t)) (ap (λ (q : Me (SockHome O g) View). q.1) e), refl)

  -- a look was made
  abbrev in_calls : (old new : InHand O g) (m : Me (SockHome O g) View) (numbered : old.label.attempt ≤ 6) → IsTurn g.state old.came.list old.home.out new.calls.list → HasInHand p ways id last old m → HasInHand p ways id last (record old { calls = new.calls; numbered = numbered }) m
  in_calls old new m numbered turn h = record { right_is = h.right_is; writer = h.writer; has = h.has; stage_is = h.stage_is; ticket = h.ticket; taken = h.taken; label_is = h.label_is; owner_is = h.owner_is; place_in = h.place_in; begun = h.begun; bytes_are = h.bytes_are; took = h.took; noted = h.noted; few = h.few; turn = turn; slots = h.slots }

  pub part_looked : (old new : InHand O g) (m : Me (SockHome O g) View) (live : Bool) → JustLooked old new → Called (call.Looked live) old new → HasPart p ways id last old m → HasPart p ways id last new m
  part_looked old new m live e c h = subst (λ (y : InHand O g). HasPart p ways id last y m) (sym e.1) (in_calls old new m e.0 (turn_now old new live c h.0.turn) h.0, h.1, none_looked old new live c h.2)

  pub clean_looked : (old new : InHand O g) (m : Me (SockHome O g) View) → JustLooked old new → Called (call.Looked true) old new → NoneFailed old.calls.list → HasClean p ways id last old m → IsClean p ways id last new m
  clean_looked old new m e c none_ h = subst (λ (y : InHand O g). IsClean p ways id last y m) (sym e.1) (in_calls old new m e.0 (turn_now old new true c h.0.turn) h.0, h.1, subst MayPut (sym c.calls) (tt, none_))

  -- a put was made, or the link was asked
  went_on : (old new : InHand O g) (taken : List ℕ) (m : Me (SockHome O g) View) → WentOn old new taken → IsTurn g.state new.came.list new.home.out new.calls.list → (h : HasInHand p ways id last old m) → (h' : HasInHand p ways id last new m) × (h'.right_is ≡ h.right_is) × (h'.begun ≡ h.begun ++ taken)
  went_on old new taken m w turn h = let k = w.others.0 in let t = w.others.1 in let l = w.others.2 in (
    record {
      right_is = h.right_is;
      writer = subst (λ (y : ℕ). IsWriter p id last y h.right_is m.0) (sym k) h.writer;
      has = record {
        away = h.has.away;
        link_in = subst (λ (y : ℕ). y < p.links) (sym k) h.has.link_in;
        places_are = w.next ∙ h.has.places_are;
        own = w.link ∙ (h.has.own ∙ sym k);
        way = w.way ∙ (h.has.way ∙ ap (way_at ways) (sym k));
        unfinished = w.finished ∙ h.has.unfinished;
      };
      stage_is = h.stage_is ∙ ap (λ (y : Ticket). Writes y.0) (sym t);
      ticket = subst (λ (y : Ticket). IsTicket p y.0) (sym t) h.ticket;
      taken = h.taken;
      label_is = h.label_is ∙ sym l;
      owner_is = h.owner_is ∙ sym w.others.3;
      place_in = subst (λ (y : Label). y.place < 8 * p.operations) (sym l) h.place_in;
      begun = h.begun ++ taken;
      bytes_are = h.bytes_are ∙ (ap (λ y. h.begun ++ y) w.left ∙ sym (append_assoc h.begun taken (outgoing_of new.bytes).left));
      took = w.took ∙ (ap (λ y. y ++ taken) h.took ∙ append_assoc h.right_is.sent h.begun taken);
      noted = λ t. (let a = h.noted (subst (λ (y : ℕ). 0 < faults_of y m.0) k t) in let b = w.later in omega arith);
      few = subst (λ (n : ℕ). n < 4294967295) (sym w.next) h.few;
      turn = turn;
      slots = h.slots ∙ (λ i. (ticket_request (sym t i).0, Empty) ∷ (p.requests + sym k i, Empty) ∷ []);
    },
    refl,
    refl,
  )

  pub clean_put : (old new : InHand O g) (taken : List ℕ) (m : Me (SockHome O g) View) → WentOn old new taken → IsTurn g.state new.came.list new.home.out new.calls.list → IsClean p ways id last old m → HasClean p ways id last new m
  clean_put old new taken m w turn h = let r = went_on old new taken m w turn h.0 in (r.0, ap (λ (y : Right). y.clean) r.1 ∙ h.1)

  -- the link was asked
  pub part_asked : (old new : InHand O g) (m : Me (SockHome O g) View) → WentOn old new [] → IsTurn g.state new.came.list new.home.out new.calls.list → HasPart p ways id last old m → HasRest p ways id last new m
  part_asked old new m w turn h = let r = went_on old new [] m w turn h.0 in (r.0, by_part h.1)
    where
      by_part : IsPart h.0.right_is h.0.begun (outgoing_of old.bytes).left → IsPart (went_on old new [] m w turn h.0).0.right_is (went_on old new [] m w turn h.0).0.begun (outgoing_of new.bytes).left
      by_part (inl none_) = inl ((went_on old new [] m w turn h.0).2 ∙ (append-nil h.0.begun ∙ none_))
      by_part (inr more) = inr (ap (λ (y : Right). y.clean) (went_on old new [] m w turn h.0).1 ∙ more.0, λ e. more.1 (w.left ∙ e))

  -- ## Moves

  -- L1
  pub link_fetched : (link : ℕ) (at : Stage) (hand : LinkInHand O g) (m n : Me (SockHome O g) View) (s : Stands p id last at link m) → hand.link ≡ link → link < p.links → ((g.state hand.home.out).link ≡ link) × ((g.state hand.home.out).finished ≡ false) → (g.state hand.home.out).way ≡ way_at ways link
      → (hand.home.took.list ≡ s.right_is.sent) × (hand.home.next ≡ s.right_is.places) → (slot : ℕ) → slot ≡ socket_id_slot id → (0 < faults_of link m.0 → 0 < (g.state hand.home.out).faults)
      → n ≡ (fault_found (g.state hand.home.out).faults slot link (with_right m.0 (record s.right_is { at_home = false })), (p.requests + link, Empty) ∷ m.1) → HasLink p ways id last at [] hand n
  link_fetched link at hand m n s same low half way took slot slot_is known e = let x' : Right = record s.right_is { at_home = false } in let u : View = with_right m.0 x' in let faults : ℕ = (g.state hand.home.out).faults in
      let with_notes : IsWriter p id last link x' (fault_found faults slot link u) = writer_noted {O = O} {state = g.state} {L = λ k. ⊥} (writer_on s.writer last x' refl s.writer.last_is s.writer.last_ticket refl) (found_marks faults link) (found_noted faults link)
      (subst (λ (j : ℕ). Became j u (fault_found faults slot link u) (found_marks faults link) []) slot_is (found_became faults slot link u)) in record {
        right_is = record s.right_is { at_home = false };
        writer = subst (λ (y : ℕ). IsWriter p id last y (record s.right_is { at_home = false }) n.0) (sym same) (subst (λ (z : View). IsWriter p id last link x' z) (sym (ap (λ (q : Me (SockHome O g) View). q.0) e)) with_notes);
        has = record { away = refl; link_in = subst (λ (y : ℕ). y < p.links) (sym same) low; places_are = took.1; own = half.0 ∙ sym same; way = way ∙ ap (way_at ways) (sym same); unfinished = half.1 };
        stage_is = s.stage_is;
        idle = s.idle;
        took = took.0;
        noted = λ t. noted_in_hand faults slot link u known (subst (λ (k : ℕ). 0 < faults_of k (fault_found faults slot link u)) same (subst (λ (y : View). 0 < faults_of hand.link y) (ap (λ (q : Me (SockHome O g) View). q.0) e) t));
        slots = ap (λ (q : Me (SockHome O g) View). q.1) e ∙ (λ i. (p.requests + sym same i, Empty) ∷ s.slots i);
      }

  -- the right changes, and what is in hand with it
  pub link_moves : {last' : ℕ} {at at' : Stage} {above above' : List (ℕ × SockHome O g)} (hand : LinkInHand O g) (m n : Me (SockHome O g) View) (h : HasLink p ways id last at above hand m) (x' : Right) (s : List (ℕ × SockHome O g)) → x'.link ≡ h.right_is.link → x'.last ≡ last' → IsTicket p last'
      → x'.at_home ≡ false → x'.places ≡ h.right_is.places → x'.sent ≡ h.right_is.sent → x'.taken ≡ false → x'.stage ≡ at' → n ≡ (with_right m.0 x', s) → s ≡ above' ++ (p.requests + hand.link, Empty) ∷ [] → HasLink p ways id last' at' above' hand n
  link_moves {last'} hand m n h x' s link now ticket away places sent idle stage e slots = record {
    right_is = x';
    writer = writer_on h.writer last' x' link now ticket (ap (λ (q : Me (SockHome O g) View). q.0) e);
    has = record { away = away; link_in = h.has.link_in; places_are = h.has.places_are ∙ sym places; own = h.has.own; way = h.has.way; unfinished = h.has.unfinished };
    stage_is = stage;
    idle = idle;
    took = h.took ∙ sym sent;
    noted = λ t. h.noted (subst (λ (y : View). 0 < faults_of hand.link y) (ap (λ (q : Me (SockHome O g) View). q.0) e) t);
    slots = ap (λ (q : Me (SockHome O g) View). q.1) e ∙ slots;
  }

  -- M2
  pub letter_taken : (hand : LinkInHand O g) (new : InHand O g) (now : ℕ) (msg : Letter) (m n : Me (SockHome O g) View) (h : HasLink p ways id last (Writes now) [] hand m) → IsTicket p now → msg.label.place < 8 * p.operations → h.right_is.places < 4294967295
      → n ≡ (with_right m.0 (taken_right h.right_is (heading_of msg) (parcel_of msg.bytes).bytes), (ticket_request now, Empty) ∷ m.1)
      → new.link ≡ hand.link → new.home ≡ hand.home → new.now.0 ≡ now → (outgoing_of new.bytes).left ≡ (parcel_of msg.bytes).bytes → new.label ≡ msg.label → new.owner ≡ msg.owner → new.came.list ≡ new.home.out ∷ [] → new.calls.list ≡ [] → HasPart p ways id last new n
  letter_taken hand new now msg m n h ticket label few e same_link same_home same_now left same_label same_owner came none_ = let x' : Right = taken_right h.right_is (heading_of msg) (parcel_of msg.bytes).bytes in let its : LinkHome O g → ℕ = λ y. y.next in (
    record {
      right_is = taken_right h.right_is (heading_of msg) (parcel_of msg.bytes).bytes;
      writer = subst (λ (y : ℕ). IsWriter p id last y (taken_right h.right_is (heading_of msg) (parcel_of msg.bytes).bytes) n.0) (sym same_link) (writer_on h.writer last x' refl h.writer.last_is h.writer.last_ticket (ap (λ (q : Me (SockHome O g) View). q.0) e));
      has = record {
        away = h.has.away;
        link_in = subst (λ (y : ℕ). y < p.links) (sym same_link) h.has.link_in;
        places_are = ap (λ (y : LinkHome O g). y.next) same_home ∙ h.has.places_are;
        own = ap (λ (y : LinkHome O g). (g.state y.out).link) same_home ∙ (h.has.own ∙ sym same_link);
        way = ap (λ (y : LinkHome O g). (g.state y.out).way) same_home ∙ (h.has.way ∙ ap (way_at ways) (sym same_link));
        unfinished = ap (λ (y : LinkHome O g). (g.state y.out).finished) same_home ∙ h.has.unfinished;
      };
      stage_is = h.stage_is ∙ ap (λ (y : ℕ). Writes y) (sym same_now);
      ticket = subst (IsTicket p) (sym same_now) ticket;
      taken = refl;
      label_is = sym same_label;
      owner_is = sym same_owner;
      place_in = subst (λ (y : Label). y.place < 8 * p.operations) (sym same_label) label;
      begun = [];
      bytes_are = sym left;
      took = ap (λ (y : LinkHome O g). y.took.list) same_home ∙ (h.took ∙ sym (append-nil h.right_is.sent));
      noted = λ t. subst (λ (y : LinkHome O g). 0 < (g.state y.out).faults) (sym same_home) (h.noted (subst (λ (k : ℕ). 0 < faults_of k m.0) same_link (subst (λ (y : View). 0 < faults_of new.link y) (ap (λ (q : Me (SockHome O g) View). q.0) e) t)));
      few = subst (λ (y : ℕ). y < 4294967295) (sym (ap (λ (y : LinkHome O g). y.next) same_home ∙ h.has.places_are)) few;
      turn = subst (λ (cs : List LinkCall). IsTurn g.state new.came.list new.home.out cs) (sym none_) (turn_begun g.state new.came.list new.home.out came);
      slots = ap (λ (q : Me (SockHome O g) View). q.1) e ∙ ((λ i. (ticket_request now, Empty) ∷ h.slots i) ∙ (λ i. (ticket_request (sym same_now i), Empty) ∷ (p.requests + sym same_link i, Empty) ∷ []));
    },
    inl refl,
    inl (subst NoneFailed (sym none_) tt),
  )

  -- P1
  pub whole_placed : (hand : InHand O g) (home : LinkHome O g) (m n : Me (SockHome O g) View) (h : HasWhole p ways id last hand m) → (home.took.list ≡ hand.home.took.list) × (home.next ≡ hand.home.next + 1) → home.out ≡ hand.home.out
      → n ≡ (with_right m.0 (placed_right h.0.right_is hand.now.0), m.1) → HasLink p ways id last (Placed hand.now.0) ((ticket_request hand.now.0, Empty) ∷ []) record { link = hand.link; home = home } n
  whole_placed hand home m n h more out e = let r = h.0 in let x' : Right = placed_right h.0.right_is hand.now.0 in record {
    right_is = placed_right h.0.right_is hand.now.0;
    writer = writer_on r.writer last x' refl r.writer.last_is r.writer.last_ticket (ap (λ (q : Me (SockHome O g) View). q.0) e);
    has = record { away = r.has.away; link_in = r.has.link_in; places_are = (let a = more.1 in let b = r.has.places_are in omega arith); own = ap (λ (y : O). (g.state y).link) out ∙ r.has.own; way = ap (λ (y : O). (g.state y).way) out ∙ r.has.way; unfinished = ap (λ (y : O). (g.state y).finished) out ∙ r.has.unfinished };
    stage_is = refl;
    idle = refl;
    took = more.0 ∙ took_all r.right_is.sent r.begun r.right_is.bytes (outgoing_of hand.bytes).left hand.home.took.list r.took r.bytes_are h.2;
    noted = λ t. subst (λ (y : O). 0 < (g.state y).faults) (sym out) (r.noted (subst (λ (y : View). 0 < faults_of hand.link y) (ap (λ (q : Me (SockHome O g) View). q.0) e) t));
    slots = ap (λ (q : Me (SockHome O g) View). q.1) e ∙ r.slots;
  }

  -- what the link took of a message that is dropped
  pub part_of : (hand : InHand O g) (m : Me (SockHome O g) View) (h : HasPart p ways id last hand m) → Part h.0.right_is hand.home.took.list
  part_of hand m h = by_part h.1
    where
      by_part : IsPart h.0.right_is h.0.begun (outgoing_of hand.bytes).left → Part h.0.right_is hand.home.took.list
      by_part (inl none_) = inl (h.0.took ∙ (ap (λ l. h.0.right_is.sent ++ l) none_ ∙ append-nil h.0.right_is.sent))
      by_part (inr more) = inr (more.0, h.0.begun, (outgoing_of hand.bytes).left, h.0.took, h.0.bytes_are, more.1)

  -- P1 with the dropped bit
  pub part_dropped : (hand : InHand O g) (home : LinkHome O g) (m n : Me (SockHome O g) View) (h : HasInHand p ways id last hand m) → (home.took.list ≡ hand.home.took.list) × (home.next ≡ hand.home.next + 1) → home.out ≡ hand.home.out
      → (word value : ℕ) → n ≡ (dropped_at word value h.right_is.heading (with_right m.0 (dropped_right h.right_is hand.now.0 hand.home.took.list)), m.1) → HasLink p ways id last (Placed hand.now.0) ((ticket_request hand.now.0, Empty) ∷ []) record { link = hand.link; home = home } n
  part_dropped hand home m n r more out word value e = let x' : Right = dropped_right r.right_is hand.now.0 hand.home.took.list in record {
    right_is = dropped_right r.right_is hand.now.0 hand.home.took.list;
    writer = writer_dropped r.writer word value r.right_is.heading x' refl r.writer.last_is (ap (λ (q : Me (SockHome O g) View). q.0) e);
    has = record { away = r.has.away; link_in = r.has.link_in; places_are = (let a = more.1 in let b = r.has.places_are in omega arith); own = ap (λ (y : O). (g.state y).link) out ∙ r.has.own; way = ap (λ (y : O). (g.state y).way) out ∙ r.has.way; unfinished = ap (λ (y : O). (g.state y).finished) out ∙ r.has.unfinished };
    stage_is = refl;
    idle = refl;
    took = more.0;
    noted = λ t. subst (λ (y : O). 0 < (g.state y).faults) (sym out) (r.noted (subst (λ (y : View). 0 < faults_of hand.link y) (ap (λ (q : Me (SockHome O g) View). q.0) e) t));
    slots = ap (λ (q : Me (SockHome O g) View). q.1) e ∙ r.slots;
  }

  -- C8
  pub may_free : {at : Stage} (next : Stage) (now : ℕ) (hand : LinkInHand O g) (m : Me (SockHome O g) View) (h : HasLink p ways id last at ((ticket_request now, Empty) ∷ []) hand m) → Follows h.right_is.last h.right_is.stage now next → MayFreeRequest now m
  may_free next now hand m h follows = record { right = h.right_is; one = h.writer.one; next = next; follows = follows; value = Empty; home = h.slots ∙ ap (λ (l : List (ℕ × SockHome O g)). (ticket_request now, Empty) ∷ l) (sym (ap rest h.slots)) }

  pub ends_at : (now : ℕ) (hand : LinkInHand O g) (m : Me (SockHome O g) View) (h : HasLink p ways id last (Placed now) ((ticket_request now, Empty) ∷ []) hand m) → now ≡ last → Follows h.right_is.last h.right_is.stage now Empties
  ends_at now hand m h e = subst (λ (b : Stage). Follows h.right_is.last b now Empties) (sym h.stage_is) (ends now (e ∙ sym h.writer.last_is))

  pub past_end : (now : ℕ) (hand : LinkInHand O g) (m n : Me (SockHome O g) View) (h : HasLink p ways id last (Placed now) ((ticket_request now, Empty) ∷ []) hand m) → n ≡ (with_right m.0 (freed_right h.right_is), rest m.1) → HasLink p ways id last Empties [] hand n
  past_end now hand m n h e = link_moves hand m n h (freed_right h.right_is) (rest m.1) refl h.writer.last_is h.writer.last_ticket h.has.away refl refl h.idle (ap freed_stage h.stage_is) e (ap rest h.slots)

  pub passes_by : (now found : ℕ) (hand : LinkInHand O g) (m n : Me (SockHome O g) View) (h : HasLink p ways id last (Placed now) ((ticket_request now, Empty) ∷ []) hand m) → n ≡ (with_right m.0 (passing_right h.right_is now found), m.1) → HasLink p ways id last (Passes now found) ((ticket_request now, Empty) ∷ []) hand n
  passes_by now found hand m n h e = link_moves hand m n h (passing_right h.right_is now found) m.1 refl h.writer.last_is h.writer.last_ticket h.has.away refl refl h.idle refl e h.slots

  pub goes_to : (now found : ℕ) (hand : LinkInHand O g) (m : Me (SockHome O g) View) (h : HasLink p ways id last (Passes now found) ((ticket_request now, Empty) ∷ []) hand m) → Follows h.right_is.last h.right_is.stage now (Writes found)
  goes_to now found hand m h = subst (λ (b : Stage). Follows h.right_is.last b now (Writes found)) (sym h.stage_is) (goes_on now found)

  pub past_next : (now found : ℕ) (hand : LinkInHand O g) (m n : Me (SockHome O g) View) (h : HasLink p ways id last (Passes now found) ((ticket_request now, Empty) ∷ []) hand m) → n ≡ (with_right m.0 (freed_right h.right_is), rest m.1) → HasLink p ways id last (Writes found) [] hand n
  past_next now found hand m n h e = link_moves hand m n h (freed_right h.right_is) (rest m.1) refl h.writer.last_is h.writer.last_ticket h.has.away refl refl h.idle (ap freed_stage h.stage_is) e (ap rest h.slots)

  -- L2
  pub link_home : {at : Stage} (hand : LinkInHand O g) (m n : Me (SockHome O g) View) (h : HasLink p ways id last at [] hand m) → n ≡ (with_right m.0 (record h.right_is { at_home = true }), rest m.1) → Stands p id last at hand.link n
  link_home hand m n h e = record {
    right_is = record h.right_is { at_home = true };
    writer = writer_on h.writer last (record h.right_is { at_home = true }) refl h.writer.last_is h.writer.last_ticket (ap (λ (q : Me (SockHome O g) View). q.0) e);
    stage_is = h.stage_is;
    home = refl;
    idle = h.idle;
    slots = ap (λ (q : Me (SockHome O g) View). q.1) e ∙ ap rest h.slots;
  }

-- S2
module _ {S : Type 0} {p : Plan} {id last link : ℕ} {at : Stage} (m n : Me S View) (slot found : ℕ) (slot_is : slot ≡ socket_id_slot id) (s : Stands p id last at link m) (same : found ≡ link) (e : n ≡ (met_link slot (socket_id_version id) found m.0, m.1)) where
  met_became : Became (socket_id_slot id) m.0 n.0 (Met (socket_id_version id) found ∷ []) []
  met_became = subst (λ (y : View). Became (socket_id_slot id) m.0 y (Met (socket_id_version id) found ∷ []) []) (sym (ap (λ (q : Me S View). q.0) e)) (subst (λ (j : ℕ). Became j m.0 (met_link slot (socket_id_version id) found m.0) (Met (socket_id_version id) found ∷ []) []) slot_is (met_marks slot (socket_id_version id) found m.0))

  pub met_stands : {O : Type 0} {state : O → OutState} → Noted state (λ k. ⊥) (socket_id_version id) (Met (socket_id_version id) found ∷ []) → Stands p id last at found n
  met_stands noted = subst (λ (k : ℕ). Stands p id last at k n) (sym same) record {
    right_is = s.right_is;
    writer = writer_noted s.writer (Met (socket_id_version id) found ∷ []) noted met_became;
    stage_is = s.stage_is;
    home = s.home;
    idle = s.idle;
    slots = ap (λ (q : Me S View). q.1) e ∙ s.slots;
  }

  pub met_wrote : {O : Type 0} {state : O → OutState} → Wrote state id m.0 n.0
  met_wrote = wrote_notes m.0 n.0 (Met (socket_id_version id) found ∷ []) (found_it (Met (socket_id_version id) found) (met found)) met_became

-- A8
pub may_look : {p : Plan} {id last link : ℕ} {x : Right} {v : View} (slot : ℕ) → slot ≡ socket_id_slot id → IsWriter p id last link x v → MayLookToWrite p slot v
may_look {p} {id} {last} {link} {x} {v} slot at w = record { right = x; one = w.one; life = socket_id_version id; holds = subst (λ (j : ℕ). HoldsLink p v j (socket_id_version id) x.link) (sym at) (subst (λ (k : ℕ). HoldsLink p v (socket_id_slot id) (socket_id_version id) k) (sym w.link_is) w.holds) }

-- C4
pub may_empty : {S : Type 0} {p : Plan} {id last link : ℕ} {m : Me S View} (slot : ℕ) → slot ≡ socket_id_slot id → Stands p id last Empties link m → MayEmptyHead p slot last m.0
may_empty slot at s = record { right = s.right_is; one = s.writer.one; stage = s.stage_is; home = s.home; last_is = s.writer.last_is; life = _; holds = empty_holds slot at s }
  where
    empty_holds : {S : Type 0} {p : Plan} {id last link : ℕ} {m : Me S View} (slot : ℕ) → slot ≡ socket_id_slot id → (s : Stands p id last Empties link m) → HoldsLink p m.0 slot (socket_id_version id) s.right_is.link
    empty_holds {S} {p} {id} {last} {link} {m} slot at s = subst (λ (j : ℕ). HoldsLink p m.0 j (socket_id_version id) s.right_is.link) (sym at) (subst (λ (k : ℕ). HoldsLink p m.0 (socket_id_slot id) (socket_id_version id) k) (sym s.writer.link_is) s.writer.holds)

without_one : (v : View) (r : Right) → v.rights ≡ r ∷ [] → (without_right v r.link).rights ≡ []
without_one v r one = ap (filter (λ (x : Right). not (eqb x.link r.link))) one ∙ ap (λ b. cond (not b) (r ∷ []) []) (eq-eqb r.link r.link refl)

module _ {S : Type 0} {p : Plan} {id last link : ℕ} where
  pub gave_up : (m n : Me S View) (s : Stands p id last Empties link m) → n ≡ (without_right m.0 s.right_is.link, m.1) → GaveUp p id n
  gave_up m n s e = subst (λ (q : Me S View). GaveUp p id q) (sym e) record {
    between = rests_between p (without_right m.0 s.right_is.link) (without_one m.0 s.right_is s.writer.one) s.writer.rests;
    holds = record { inside = s.writer.holds.inside; held = s.writer.holds.held };
    slots = s.slots;
  }

  pub walks_from : (found : ℕ) (m n : Me S View) (s : Stands p id last Empties link m) → n ≡ (with_right m.0 (walking_right s.right_is found), m.1) → Stands p id last (Reversing found found 0) link n
  walks_from found m n s e = record {
    right_is = walking_right s.right_is found;
    writer = writer_on s.writer last (walking_right s.right_is found) refl s.writer.last_is s.writer.last_ticket (ap (λ (q : Me S View). q.0) e);
    stage_is = refl;
    home = s.home;
    idle = s.idle;
    slots = ap (λ (q : Me S View). q.1) e ∙ s.slots;
  }

module _ {O : Type 0} {g : Ghosts O} {p : Plan} {ways : List (List ℕ)} {id last : ℕ} where
  -- C5 on the walk
  pub reads_at : (top at after found : ℕ) (hand : LinkInHand O g) (m n : Me (SockHome O g) View) (h : HasLink p ways id last (Reversing top at after) [] hand m) → n ≡ (with_right m.0 (reading_right h.right_is top at after found), m.1) → HasLink p ways id last (ReversesNext top at after found) [] hand n
  reads_at top at after found hand m n h e = link_moves hand m n h (reading_right h.right_is top at after found) m.1 refl h.writer.last_is h.writer.last_ticket h.has.away refl refl h.idle refl e h.slots

  -- C6
  module _ (top at after found : ℕ) (hand : LinkInHand O g) (m n : Me (SockHome O g) View) (h : HasLink p ways id last (ReversesNext top at after found) [] hand m) (e : n ≡ (with_right m.0 (turned_right h.right_is top at found), m.1)) where
    abbrev done : Right
    done = record h.right_is { last = top; stage = Writes at; turned = 0; noted = h.right_is.noted + suc h.right_is.turned }

    abbrev on : Right
    on = record h.right_is { stage = Reversing top found at; turned = suc h.right_is.turned }

    pub turned_last : found ≡ last → IsTicket p top → HasLink p ways id top (Writes at) [] hand n
    turned_last same ticket = link_moves hand m n h (record h.right_is { last = top; stage = Writes at; turned = 0; noted = h.right_is.noted + suc h.right_is.turned }) m.1 refl refl ticket h.has.away refl refl h.idle refl
        (e ∙ ap (λ (b : Bool). (with_right m.0 (cond b (record h.right_is { last = top; stage = Writes at; turned = 0; noted = h.right_is.noted + suc h.right_is.turned }) (record h.right_is { stage = Reversing top found at; turned = suc h.right_is.turned })), m.1)) (eq-eqb found h.right_is.last (same ∙ sym h.writer.last_is))) h.slots

    pub turned_on : found ≢ last → HasLink p ways id last (Reversing top found at) [] hand n
    turned_on other = link_moves hand m n h (record h.right_is { stage = Reversing top found at; turned = suc h.right_is.turned }) m.1 refl h.writer.last_is h.writer.last_ticket h.has.away refl refl h.idle refl
        (e ∙ ap (λ (b : Bool). (with_right m.0 (cond b (record h.right_is { last = top; stage = Writes at; turned = 0; noted = h.right_is.noted + suc h.right_is.turned }) (record h.right_is { stage = Reversing top found at; turned = suc h.right_is.turned })), m.1)) (ne_eqb found h.right_is.last (λ z. other (z ∙ h.writer.last_is)))) h.slots

-- only the last stage is the last one
pub must_last : {O : Type 0} {g : Ghosts O} (d : Doing O g) → IsLast d → ((link : LinkInHand O g) → d ≡ doing.Last link → ⊥) → ⊥
must_last (doing.Last link) is none_ = none_ link refl
must_last _ is none_ = is
