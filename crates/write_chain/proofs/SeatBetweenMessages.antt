-- A seat that sends messages, one after another: what it has between two of them, and while one is written.
use Rattle.std.proofs.Common.{◌≡◌, ℕ, Bool, zero, suc, ◌+◌, ◌*◌, ◌<◌, List, [], ◌∷◌, false, refl, sym, ap, ◌∙◌, subst, arith}
use Rattle.std.specs.Option.{ForSome}
use mathlib.Core.Logic.{dite}
use mathlib.Core.Option.{some, some-injective, some-ne-none}
use native.Mathlib.Decide.{ℕ_discrete}
use lib.ListN.{get_elem?}
use Rattle.atomic_table.specs.Table.{Me}
use Rattle.atomic_table.specs.Seated.{TableId}
use Rattle.atomic_table.specs.declared.shared.Seat.{Seat}
use Rattle.sock_io.specs.LinkHalves.{OutState}
use Rattle.sock_words.specs.declared.plain.Plan.{Plan}
use Rattle.sock_words.specs.PackedWords.{socket_id_version, socket_id_slot}
use Rattle.sock_model.specs.declared.chain.Heading.{Heading}
use Rattle.sock_model.specs.declared.marks.Mark.{Mark}
use Rattle.sock_model.specs.declared.marks.Mark.TheVariants.{Hold, Saw}
use Rattle.sock_model.specs.declared.view.View.{View}
use Rattle.sock_model.specs.SlotRows.{marks_of}
use Rattle.sock_model.specs.MarkWeights.{only, is_ref, is_hold, is_known}
use Rattle.sock_open.specs.slot_steps.proofs.RuleNumbers.{only-at, only-else, only-same}
use Rattle.sock_rule.specs.MarksComeAndGo.{Became}
use Rattle.sock_rule.specs.SocketSeatSplits.{IsSeat}
use Rattle.sock_table.specs.ReferenceAnswers.{Holds, Held, GoneFrom}
use Rattle.sock_table.specs.ClosedSocketTable.{AllDone, IsDoneSeat}
use Rattle.sock_table.specs.ReferenceCalls.{IsBetween, GaveBack, SameTokens, Knows}
use Rattle.sock_table.proofs.QuietBetweenCalls.{saw_between}
use Rattle.sock_open.proofs.SeatsHoldingNothing.{kept_done, ended_refs, gone_same, known_by}
use Rattle.sock_open.specs.NewTableContents.{IsNewSeat}
use Rattle.sock_open.specs.SocketTableOpening.{AreFresh}
use Rattle.sock_open.proofs.SeatsOfNewTable.{new_view, new_done}
use Rattle.sock_open.proofs.Racing.{stored_done, stored_known}
use Rattle.sock_rule.specs.NotesBesideRows.{PutAt}
use Rattle.write_chain.specs.declared.right.Undelivered.{Undelivered}
use Rattle.write_chain.specs.NotingWhileWriting.{Wrote, WroteDrop}
use Rattle.write_chain.specs.SendingIntoChain.{HasRoom, Accepted, StartedBy, RefusedBy}
use Rattle.write_chain.specs.WritingRightInHand.{GaveUp}
use Rattle.write_chain.specs.ReadyToSend.{IsSpent, IsFree, IsReady, HoldsOne, sock_of, refused_of}
use Rattle.write_chain.specs.declared.entry.Started.{Started}
use Rattle.write_chain.specs.declared.entry.Started.TheVariants as started
use Rattle.write_chain.specs.declared.entry.Refused.{Refused}
use Rattle.write_chain.specs.declared.entry.Refused.TheVariants as refused
use Rattle.sock_io.specs.declared.link.Out.{Ghosts}
use Rattle.sock_rule.specs.declared.homes.Letter.{Letter}
use Rattle.sock_table.specs.declared.refs.SockRef.{SockRef}
use Rattle.write_chain.proofs.NotingWhileWriting.{noted_quiet}
use Rattle.sock_words.specs.Totals.{total}

-- marks of one slot come and go; no known life is forgotten
known_on : (p : Plan) (id i : ℕ) (v w : View) (adds drops : List Mark) → Became i v w adds drops → total (is_known (socket_id_version id)) drops ≡ 0 → Knows p v id → Knows p w id
known_on p id i v w adds drops b none_ k = record { inside = k.inside; known = known_by i (socket_id_slot id) (socket_id_version id) v w adds drops b none_ k.known }

-- so many references come and go in one slot
refs_on : (p : Plan) (id n m : ℕ) (v w : View) (adds drops : List Mark) → Became (socket_id_slot id) v w adds drops → n + total is_ref adds ≡ m + total is_ref drops
    → ((j : ℕ) → j < p.slots → marks_of is_ref j v ≡ n * only (socket_id_slot id) j) → (j : ℕ) → j < p.slots → marks_of is_ref j w ≡ m * only (socket_id_slot id) j
refs_on p id n m v w adds drops b same refs j jl = dite (ℕ_discrete j (socket_id_slot id))
    (λ e. let one = only-at (socket_id_slot id) j e in let h = b.here is_ref in
    let here : marks_of is_ref (socket_id_slot id) v ≡ n = subst (λ (y : ℕ). marks_of is_ref y v ≡ n) e (refs j jl ∙ (ap (λ (y : ℕ). n * y) one ∙ omega arith)) in
    ap (λ (y : ℕ). marks_of is_ref y w) e ∙ ((let z : marks_of is_ref (socket_id_slot id) w ≡ m = omega arith in z) ∙ (sym (ap (λ (y : ℕ). m * y) one ∙ omega arith))))
    (λ ne. let none_ = only-else (socket_id_slot id) j ne in ap (total is_ref) (b.elsewhere j ne) ∙ (refs j jl ∙ (ap (λ (y : ℕ). n * y) none_ ∙ (omega arith ∙ sym (ap (λ (y : ℕ). m * y) none_)))))

-- what leaves the lists leaves the room
room_of : (v w : View) → w.lists ≡ v.lists → HasRoom v → HasRoom w
room_of v w same r = record { made = r.made; taken_in = r.taken_in; lists = same ∙ r.lists; room = r.room }

module _ {S : Type 0} (z : TableId) (p : Plan) where
  -- a seat that made no call yet
  pub new_free : (s : Seat S View) → IsNewSeat z p s → IsFree z p s
  new_free s n = let v = new_view z p s n in record { done = new_done z p s n; share = ap (λ (y : View). y.share) v; room = record { made = []; taken_in = []; lists = ap (λ (y : View). y.lists) v; room = omega arith } }

  -- a call that leaves all that it holds
  pub kept_free : (s t : Seat S View) → IsFree z p s → IsSeat z p t → t.me.1 ≡ s.me.1 → IsBetween p t.me.0 → SameTokens p s.me.0 t.me.0 → IsFree z p t
  kept_free s t f is slots b same = record { done = kept_done z p s t f.done is slots b same; share = same.share ∙ f.share; room = room_of s.me.0 t.me.0 same.lists f.room }

  -- the id was published
  pub stored_ready : (x word id : ℕ) (s t : Seat S View) → IsFree z p s → Knows p s.me.0 id → IsSeat z p t → PutAt x word s.me t.me → (IsBetween p s.me.0 → IsBetween p t.me.0) → SameTokens p s.me.0 t.me.0 → IsReady z p id t
  stored_ready x word id s t f k is view b same = record { done = stored_done z p x word s t f.done is view b same; known = stored_known z p x word id s t view k; share = same.share ∙ f.share; room = room_of s.me.0 t.me.0 same.lists f.room }

module _ {S : Type 0} (z : TableId) (p : Plan) (id : ℕ) where
  -- the reference goes back
  module _ (s t : Seat S View) (ended : Bool) (h : HoldsOne p id s.me.0) (none_ : s.me.1 ≡ []) (is : IsSeat z p t) (back : GaveBack (socket_id_slot id) s.me.0 t.me.0 (Hold (socket_id_version id)) ended) (b : IsBetween p t.me.0) (slots : t.me.1 ≡ s.me.1) where
    pub let_go_spent : IsSpent z p t
    let_go_spent = let o = back.became.others in let nr = ended_refs s.me.0.plan ended back.version back.notes back.by in (
      record {
        seat = is;
        slots = slots ∙ none_;
        done = record {
          bare = record { claims = ap (λ (y : View). y.claims) o ∙ h.claims; loose = ap (λ (y : View). y.loose) o ∙ h.loose; rights = b.no_rights; hands = b.empty };
          unheld = λ j jl. refs_on p id 1 0 s.me.0 t.me.0 back.notes (Hold (socket_id_version id) ∷ []) back.became (omega (arith, nr)) (λ k kl. h.refs k kl ∙ omega arith) j jl ∙ omega arith;
        };
        rest = record { unclaimed = b.unclaimed; uncoding = b.uncoding; no_zero = b.no_zero; no_passes = b.no_passes };
      },
      ap (λ (y : View). y.share) o ∙ h.share,
    )

    pub let_go_ready : HasRoom s.me.0 → IsReady z p id t
    let_go_ready room = record {
      done = let_go_spent.0;
      known = known_on p id (socket_id_slot id) s.me.0 t.me.0 back.notes (Hold (socket_id_version id) ∷ []) back.became refl h.known;
      share = let_go_spent.1;
      room = room_of s.me.0 t.me.0 (ap (λ (y : View). y.lists) back.became.others) room;
    }

  -- a reference comes
  pub held_one : (s : Seat S View) (w : View) → IsReady z p id s → Held id s.me.0 w → HoldsOne p id w × HasRoom w
  held_one s w r a = let o = a.others in (
    record {
      claims = ap (λ (y : View). y.claims) o ∙ r.done.done.bare.claims;
      loose = ap (λ (y : View). y.loose) o ∙ r.done.done.bare.loose;
      refs = λ j jl. refs_on p id 0 1 s.me.0 w _ [] a refl (λ k kl. r.done.done.unheld k kl ∙ omega arith) j jl ∙ omega arith;
      known = known_on p id (socket_id_slot id) s.me.0 w _ [] a refl r.known;
      share = ap (λ (y : View). y.share) o ∙ r.share;
    },
    room_of s.me.0 w (ap (λ (y : View). y.lists) o) r.room,
  )

  -- none came
  pub gone_spent : (found : ℕ) (s t : Seat S View) → IsReady z p id s → IsSeat z p t → GoneFrom id found s.me.0 t.me.0 → IsBetween p t.me.0 → t.me.1 ≡ s.me.1 → IsSpent z p t
  gone_spent found s t r is g b slots = let same = gone_same p id found s.me.0 t.me.0 g in (kept_done z p s t r.done is slots b same, same.share ∙ r.share)

-- notes that are no references leave the one
pub noted_one : (p : Plan) (id : ℕ) (v w : View) (notes : List Mark) → Became (socket_id_slot id) v (record v { marks = w.marks }) notes [] → total is_ref notes ≡ 0 → w.claims ≡ v.claims → w.loose ≡ v.loose → w.share ≡ v.share → w.lists ≡ v.lists → HoldsOne p id v → HoldsOne p id w
noted_one p id v w notes b none_ claims loose share lists h = let k = known_on p id (socket_id_slot id) v (record v { marks = w.marks }) notes [] b refl h.known in record {
  claims = claims ∙ h.claims;
  loose = loose ∙ h.loose;
  refs = λ j jl. refs_on p id 1 1 v (record v { marks = w.marks }) notes [] b (omega (arith, none_)) (λ k kl. h.refs k kl ∙ omega arith) j jl ∙ omega arith;
  known = record { inside = k.inside; known = k.known };
  share = share ∙ h.share;
}

-- the message was accepted
pub accepted_one : (p : Plan) (id : ℕ) (notes : List Mark) (heading : Heading) (bytes : List ℕ) (v w : View) → total is_ref notes ≡ 0 → Accepted notes p id heading bytes v w → HoldsOne p id v → HoldsOne p id w
accepted_one p id notes heading bytes v w none_ a h = let k = known_on p id (socket_id_slot id) v (record v { marks = w.marks }) _ [] a.marks refl h.known in record {
  claims = a.claims;
  loose = a.loose;
  refs = λ j jl. refs_on p id 1 1 v (record v { marks = w.marks }) _ [] a.marks (omega (arith, none_)) (λ k kl. h.refs k kl ∙ omega arith) j jl ∙ omega arith;
  known = record { inside = k.inside; known = k.known };
  share = a.share ∙ h.share;
}

-- what is written leaves it too
pub wrote_one : {O : Type 0} {state : O → OutState} (p : Plan) (id : ℕ) (v w : View) → Wrote state id v w → HoldsOne p id v → HoldsOne p id w
wrote_one p id v w a h = let o = a.became.others in let q = noted_quiet a.notes a.noted in
    noted_one p id v w a.notes record { here = λ f. a.became.here f; elsewhere = λ j ne. a.became.elsewhere j ne; others = refl } q.1 (ap (λ (y : View). y.claims) o) (ap (λ (y : View). y.loose) o) (ap (λ (y : View). y.share) o) (ap (λ (y : View). y.lists) o) h

pub dropped_one : {O : Type 0} {state : O → OutState} (p : Plan) (id : ℕ) (msg : Undelivered) (v w : View) → WroteDrop state p id msg v w → HoldsOne p id v → HoldsOne p id w
dropped_one p id msg v w a h = let k = wrote_one p id v (record w { stores = v.stores; drops = v.drops }) a.wrote h in record { claims = k.claims; loose = k.loose; refs = k.refs; known = record { inside = k.known.inside; known = k.known.known }; share = k.share }

-- a refusal leaves the seat as it was, but for notes
marks_alone : (i : ℕ) (v w : View) (adds : List Mark) → Became i v w adds [] → Became i v (record v { marks = w.marks }) adds []
marks_alone i v w adds b = record { here = λ f. b.here f; elsewhere = λ j ne. b.elsewhere j ne; others = refl }

module _ {S : Type 0} (p : Plan) (id x : ℕ) (v : View) (m : Me S View) (b : Became (socket_id_slot id) v (record v { marks = m.0.marks }) (Saw x ∷ []) []) (o : m.0 ≡ record v { marks = m.0.marks; found = m.0.found }) where
  pub refused_up : IsBetween p v → Holds p v id → m.1 ≡ [] → GaveUp p id m
  refused_up between h none_ = let s = saw_between p (socket_id_slot id) x v (record v { marks = m.0.marks }) between b in record {
    between = record { unclaimed = s.unclaimed; unprobed = s.unprobed; uncoding = s.uncoding; no_zero = s.no_zero; no_rights = ap (λ (y : View). y.rights) o ∙ between.no_rights; empty = ap (λ (y : View). y.hands) o ∙ between.empty; no_passes = ap (λ (y : View). y.passes) o ∙ between.no_passes };
    holds = record { inside = h.inside; held = (let a : marks_of (is_hold (socket_id_version id)) (socket_id_slot id) m.0 + 0 ≡ marks_of (is_hold (socket_id_version id)) (socket_id_slot id) v + 0 = b.here (is_hold (socket_id_version id)) in let k = h.held in omega arith) };
    slots = none_;
  }

  pub refused_one : HoldsOne p id v → HoldsOne p id m.0
  refused_one h = noted_one p id v m.0 (Saw x ∷ []) b refl (ap (λ (y : View). y.claims) o) (ap (λ (y : View). y.loose) o) (ap (λ (y : View). y.share) o) (ap (λ (y : View). y.lists) o) h

module _ {S : Type 0} (p : Plan) (id x : ℕ) (v : View) (m : Me S View) (b : Became (socket_id_slot id) v m.0 (Saw x ∷ []) []) where
  alone : m.0 ≡ record v { marks = m.0.marks; found = m.0.found }
  alone = let e = ap (λ (y : View). y.found) b.others in b.others ∙ (λ i. record v { marks = m.0.marks; found = sym e i })

  pub failed_up : IsBetween p v → Holds p v id → m.1 ≡ [] → GaveUp p id m
  failed_up = refused_up p id x v m (marks_alone (socket_id_slot id) v m.0 (Saw x ∷ []) b) alone

  pub failed_one : HoldsOne p id v → HoldsOne p id m.0
  failed_one = refused_one p id x v m (marks_alone (socket_id_slot id) v m.0 (Saw x ∷ []) b) alone

-- one reference is few
pub few_one : (p : Plan) (id : ℕ) (v : View) → socket_id_slot id < p.slots → HoldsOne p id v → marks_of is_ref (socket_id_slot id) v < 65540
few_one p id v inside h = let a = h.refs (socket_id_slot id) inside in let b = only-same (socket_id_slot id) in omega arith

-- ## A message that was accepted or refused

module _ {O : Type 0} {g : Ghosts O} (p : Plan) (sock : SockRef) (heading : Heading) (bytes : List ℕ) where
  pub sock_is : (s : Started O g) (v w : View) → StartedBy p sock heading bytes s v w → sock_of s ≡ sock
  sock_is (started.Queued r) v w b = b.0
  sock_is (started.Right r) v w b = b.0

  pub started_one : (s : Started O g) (v w : View) → StartedBy p sock heading bytes s v w → HoldsOne p sock.id.0 v → HoldsOne p (sock_of s).id.0 w
  started_one (started.Queued r) v w b h = subst (λ (y : SockRef). HoldsOne p y.id.0 w) (sym b.0) (accepted_one p sock.id.0 (Saw (socket_id_version sock.id.0) ∷ []) heading bytes v w refl b.1 h)
  started_one (started.Right r) v w b h = subst (λ (y : SockRef). HoldsOne p y.id.0 w) (sym b.0) (accepted_one p sock.id.0 (Saw (socket_id_version sock.id.0) ∷ []) heading bytes v w refl b.2 h)

module _ (p : Plan) (sock : SockRef) (msg : Letter) where
  pub refused_is : (r : Refused) (v w : View) → RefusedBy p sock msg r v w → refused_of r ≡ sock
  refused_is (refused.Failed s m found) v w b = b.0
  refused_is (refused.Full s m) v w b = b.0

  pub refused_ups : {S : Type 0} (r : Refused) (v : View) (m : Me S View) → RefusedBy p sock msg r v m.0 → IsBetween p v → Holds p v sock.id.0 → m.1 ≡ [] → GaveUp p (refused_of r).id.0 m
  refused_ups (refused.Failed s x found) v m b between h none_ = subst (λ (y : SockRef). GaveUp p y.id.0 m) (sym b.0) (failed_up p sock.id.0 _ v m b.3 between h none_)
  refused_ups (refused.Full s x) v m b between h none_ = subst (λ (y : SockRef). GaveUp p y.id.0 m) (sym b.0) (refused_up p sock.id.0 _ v m b.7 b.8 between h none_)

  pub refused_ones : {S : Type 0} (r : Refused) (v : View) (m : Me S View) → RefusedBy p sock msg r v m.0 → HoldsOne p sock.id.0 v → HoldsOne p (refused_of r).id.0 m.0
  refused_ones (refused.Failed s x found) v m b h = subst (λ (y : SockRef). HoldsOne p y.id.0 m.0) (sym b.0) (failed_one p sock.id.0 _ v m b.3 h)
  refused_ones (refused.Full s x) v m b h = subst (λ (y : SockRef). HoldsOne p y.id.0 m.0) (sym b.0) (refused_one p sock.id.0 _ v m b.7 b.8 h)

  pub refused_room : (r : Refused) (v w : View) → RefusedBy p sock msg r v w → HasRoom v → HasRoom w
  refused_room (refused.Failed s x found) v w b h = room_of v w (ap (λ (y : View). y.lists) b.3.others) h
  refused_room (refused.Full s x) v w b h = room_of v w (ap (λ (y : View). y.lists) b.8) h

pub two_done : {S : Type 0} (z : TableId) (p : Plan) (a b : Seat S View) (xs : List (Seat S View)) → xs ≡ a ∷ b ∷ [] → IsDoneSeat z p a → IsDoneSeat z p b → AllDone z p xs
two_done z p a b xs e x y = subst (AllDone z p) (sym e) (x, (y, tt))

-- one half that took nothing
pub one_fresh : {O : Type 0} (state : O → OutState) (p : Plan) (o : O) (outs : List O) → outs ≡ o ∷ [] → p.links ≡ 1 → (state o).link ≡ 0 → (state o).finished ≡ false → ForSome (state o).took (λ bytes. bytes ≡ []) → AreFresh state p outs
one_fresh {O} state p o outs e links link finished took = subst (AreFresh state p) (sym e) record { count = sym links; each = each }
  where
    each : (k : ℕ) (x : O) → get_elem? (o ∷ []) k ≡ some x → ((state x).link ≡ k) × ((state x).finished ≡ false) × ForSome (state x).took (λ bytes. bytes ≡ [])
    each zero x g = subst (λ (y : O). ((state y).link ≡ 0) × ((state y).finished ≡ false) × ForSome (state y).took (λ bytes. bytes ≡ [])) (some-injective o x g) (link, finished, took)
    each (suc k) x g = absurd (some-ne-none x (sym g))
