-- A message is accepted, view by view.
use Rattle.std.proofs.Common.{◌≡◌, ℕ, zero, suc, ◌+◌, ◌-◌, ◌<◌, ◌≤◌, true, false, cond, not, eqb, eq-eqb, List, [], ◌∷◌, ◌++◌, refl, sym, ap, ◌∙◌, subst, inl, inr, arith}
use Rattle.std.specs.List.{filter}
use mathlib.Core.Option.{some}
use lib.ListN.{get_elem?}
use Rattle.sock_io.specs.declared.link.Out.{Ghosts}
use Rattle.atomic_table.specs.Table.{Me}
use Rattle.sock_words.specs.declared.plain.Plan.{Plan}
use Rattle.sock_words.specs.PackedWords.{socket_id_version, socket_id_slot, IDLE}
use Rattle.sock_model.specs.declared.chain.Claim.{Claim}
use Rattle.sock_model.specs.declared.chain.Heading.{Heading}
use Rattle.sock_model.specs.declared.chain.Loose.{Loose}
use Rattle.sock_model.specs.declared.chain.Right.{Right}
use Rattle.sock_model.specs.declared.marks.Mark.TheVariants.{Saw, Met}
use Rattle.sock_model.specs.declared.view.View.{View}
use Rattle.sock_model.specs.Entries.{ticket_of}
use Rattle.sock_model.specs.SocketTableLayout.{request_index}
use Rattle.sock_model.specs.MarkWeights.{is_hold, is_met}
use Rattle.sock_model.specs.SlotRows.{marks_of, met_link}
use Rattle.sock_model.specs.ChainRows.{with_claim, ready_claim, queued, righted, new_right, without_loose, more, entry_of}
use Rattle.sock_open.specs.slot_steps.proofs.RuleNumbers.{pair-same}
use Rattle.sock_open.specs.slot_steps.proofs.SlotWeightSums.{about-here}
use Rattle.sock_rule.specs.MarksComeAndGo.{Became}
use Rattle.sock_rule.specs.SendingOnRequestWords.{MaySwap, filled_for}
use Rattle.sock_rule.proofs.MarksComeAndGo.{adds_mark, becomes}
use Rattle.sock_table.specs.NamesStoredAndFound.{HasSeen}
use Rattle.sock_table.specs.ReferenceAnswers.{Holds}
use Rattle.write_chain.specs.SendingIntoChain.{Missed, HasRoom, Accepted, IsFirst, FoundTaken, FullNow}
use Rattle.sock_words.specs.Totals.{total}

-- a seat that held the life of the id claims request `at`, and comes by the views a and b to the exchange
module _ (p : Plan) (v a b : View) (id slot h k at own : ℕ) (c : Claim) (heading : Heading) (bytes : List ℕ)
    (slot_is : slot ≡ socket_id_slot id) (h_is : h ≡ socket_id_version id) (inside : slot < p.slots) (held : 0 < marks_of (is_hold h) slot v)
    (claim : v.claims ≡ c ∷ []) (request : c.request ≡ at) (low : at < p.requests) (loose : v.loose ≡ []) (rights : v.rights ≡ []) (room : HasRoom v) (link : k < p.links)
    (own_is : own ≡ ticket_of at c.generation)
    (filled : a ≡ with_claim (met_link slot h k v) (filled_for c k heading bytes)) (ready : b ≡ with_claim a (ready_claim (filled_for c k heading bytes))) where
  abbrev c₂ : Claim
  c₂ = ready_claim (filled_for c k heading bytes)

  b_is : b ≡ with_claim (met_link slot h k v) (ready_claim (filled_for c k heading bytes))
  b_is = ready ∙ ap (λ (x : View). with_claim x (ready_claim (filled_for c k heading bytes))) filled

  pub may_swap : MaySwap p b slot own
  may_swap = subst (λ (x : View). MaySwap p x slot own) (sym b_is) record {
    exchange = record {
      claim = ready_claim (filled_for c k heading bytes);
      claims = refl;
      is_filled = refl;
      is_ready = refl;
      own_is = own_is ∙ ap (λ (x : ℕ). ticket_of x c.generation) (sym request);
      request_in = subst (λ (x : ℕ). x < p.requests) (sym request) low;
      life = h;
      holds = record { inside = inside; held = (let e = ap (total (is_hold h)) (about-here slot (Met h k) v.marks) in omega arith); met = (let e = ap (total (is_met h k)) (about-here slot (Met h k) v.marks) in let s = pair-same h k in omega arith) };
      made = room.made;
      taken_in = room.taken_in;
      lists = room.lists;
    };
    room = room.room;
  }

  pub claims_b : b.claims ≡ ready_claim (filled_for c k heading bytes) ∷ []
  claims_b = ap (λ (x : View). x.claims) b_is

  marks_b : (w : View) → w.marks ≡ b.marks → Became (socket_id_slot id) v (record v { marks = w.marks }) (Met (socket_id_version id) k ∷ []) []
  marks_b w same = subst (λ (y : ℕ). Became y v (record v { marks = w.marks }) (Met (socket_id_version id) k ∷ []) []) slot_is
      (subst (λ (y : ℕ). Became slot v (record v { marks = w.marks }) (Met y k ∷ []) []) h_is
      (becomes slot (ap (λ l. record v { marks = l }) (same ∙ ap (λ (x : View). x.marks) b_is)) (adds_mark slot (Met h k) v)))

  -- what stays as it was once the message is an entry of the own list, behind that which was found
  abbrev was_accepted : (found : ℕ) (x : View) (left : List Loose) (owned : List Right) → x ≡ record (met_link slot h k v) { claims = []; loose = left; rights = owned; lists = more v.lists (entry_of c₂ found) } → x.marks ≡ b.marks → x.loose ≡ [] → Accepted [] p id heading bytes v x
  was_accepted found x left owned all same none_ = record {
    entry = entry_of c₂ found;
    heading_is = refl;
    bytes_is = refl;
    lists = ap (λ (y : View). y.lists) all;
    marks = marks_b x same;
    inside = link;
    claims = ap (λ (y : View). y.claims) all;
    loose = none_;
    hands = ap (λ (y : View). y.hands) all;
    share = ap (λ (y : View). y.share) all;
    passes = ap (λ (y : View). y.passes) all;
    seen = λ n h. (h.0, ap (λ (y : View). get_elem? y.found h.0) all ∙ h.1);
    finds = ap (λ (y : View). y.finds) all;
    histories = ap (λ (y : View). y.histories) all;
    drops = ap (λ (y : View). y.drops) all;
    stores = ap (λ (y : View). y.stores) all;
  }

  -- a busy head: the next word of the entry is connected then
  module _ (found : ℕ) (w x : View) (swapped : w ≡ queued b (ready_claim (filled_for c k heading bytes)) found) (connected : x ≡ without_loose w at) where
    abbrev behind : View
    behind = without_loose (queued (with_claim (met_link slot h k v) c₂) c₂ found) at

    all : x ≡ behind
    all = connected ∙ ap (λ (y : View). without_loose y at) (swapped ∙ ap (λ (y : View). queued y (ready_claim (filled_for c k heading bytes)) found) b_is)

    pub loose_there : get_elem? w.loose 0 ≡ some record { request = c.request; before = found }
    loose_there = ap (λ (y : View). get_elem? y.loose 0) swapped

    pub was_queued : Accepted [] p id heading bytes v x × (x.rights ≡ [])
    was_queued = (
      was_accepted found x behind.loose behind.rights all (ap (λ (y : View). y.marks) connected ∙ ap (λ (y : View). y.marks) swapped)
          (ap (λ (y : View). y.loose) all ∙ (ap (λ (l : List Loose). filter (λ (z : Loose). not (eqb z.request at)) (record { request = c.request; before = found } ∷ l)) loose ∙ ap (λ t. cond (not t) (record { request = c.request; before = found } ∷ []) []) (eq-eqb c.request at request))),
      ap (λ (y : View). y.rights) all ∙ rights,
    )

  -- an idle head: the seat has the right to write
  module _ (found places : ℕ) (sent : List ℕ) (w : View) (swapped : w ≡ righted b (ready_claim (filled_for c k heading bytes)) found sent places) where
    abbrev behind_r : View
    behind_r = righted (with_claim (met_link slot h k v) c₂) c₂ found sent places

    all_r : w ≡ behind_r
    all_r = swapped ∙ ap (λ (y : View). righted y (ready_claim (filled_for c k heading bytes)) found sent places) b_is

    pub was_first : (a : Accepted [] p id heading bytes v w) × (x : Right) × (w.rights ≡ x ∷ []) × IsFirst x a.entry.link own
    was_first = (
      was_accepted (found - IDLE) w behind_r.loose behind_r.rights all_r (ap (λ (y : View). y.marks) swapped) (ap (λ (y : View). y.loose) all_r ∙ loose),
      new_right (ready_claim (filled_for c k heading bytes)) found sent places,
      ap (λ (y : View). y.rights) all_r ∙ ap (λ (l : List Right). new_right (ready_claim (filled_for c k heading bytes)) found sent places ∷ l) rights,
      record { link_is = refl; last_is = ticket_is; stage = ap Rattle.sock_model.specs.declared.chain.Stage.TheVariants.Writes ticket_is; clean = refl; link_home = refl; idle = refl },
    )
      where
        ticket_is : ticket_of c.request c.generation ≡ own
        ticket_is = ap (λ (x : ℕ). ticket_of x c.generation) request ∙ sym own_is

-- ## Asking for a request

-- the seat looked and found the life live; the requests below `at` were found taken
pub record Asking (p : Plan) (id at : ℕ) (v w : View) : Type 0 where
  pub marks : Became (socket_id_slot id) v (record v { marks = w.marks }) (Saw (socket_id_version id) ∷ []) []
  pub others : w ≡ record v { marks = w.marks; found = w.found }
  pub taken : FullNow p at v w
  pub seen : (x : ℕ) → HasSeen x v → HasSeen x w

pub asks_first : (p : Plan) (id : ℕ) (v w : View) → Became (socket_id_slot id) v w (Saw (socket_id_version id) ∷ []) [] → Asking p id 0 v w
asks_first p id v w b = record {
  marks = subst (λ (x : View). Became (socket_id_slot id) v x (Saw (socket_id_version id) ∷ []) []) b.others b;
  others = b.others ∙ (let e = ap (λ (x : View). x.found) b.others in λ i. record v { marks = w.marks; found = sym e i });
  taken = record { added = []; found = ap (λ (x : View). x.found) b.others; each = λ q lt. absurd (omega arith) };
  seen = λ x h. (h.0, ap (λ (y : View). get_elem? y.found h.0) b.others ∙ h.1);
}

pub asks_next : (p : Plan) (id at : ℕ) (v w x : View) → Asking p id at v w → x ≡ Rattle.sock_model.specs.Rule.noting (request_index p at) w → Asking p id (at + 1) v x
asks_next p id at v w x a e = record {
  marks = subst (λ l. Became (socket_id_slot id) v (record v { marks = l }) (Saw (socket_id_version id) ∷ []) []) (sym (ap (λ (y : View). y.marks) e)) a.marks;
  others = e ∙ (ap (λ (y : View). record y { found = request_index p at ∷ w.found }) a.others ∙ (let m = ap (λ (y : View). y.marks) e in let f = ap (λ (y : View). y.found) e in λ i. record v { marks = sym m i; found = sym f i }));
  taken = record {
    added = request_index p at ∷ a.taken.added;
    found = ap (λ (y : View). y.found) e ∙ ap (λ (l : List ℕ). request_index p at ∷ l) a.taken.found;
    each = λ q lt. mathlib.Core.Logic.dite (native.Mathlib.Decide.ℕ_discrete q at)
        (λ s. (0, ap (λ (z : ℕ). some (request_index p z)) (sym s)))
        (λ ne. let t = a.taken.each q (omega arith) in (suc t.0, t.1));
  };
  seen = λ n h. (let t = a.seen n h in (suc t.0, ap (λ (y : View). get_elem? y.found (suc t.0)) e ∙ t.1));
}

-- another request was found taken
pub asks_other : (p : Plan) (id : ℕ) (v w x : View) (q : ℕ) → Asking p id 0 v w → x ≡ Rattle.sock_model.specs.Rule.noting (request_index p q) w → Asking p id 0 v x
asks_other p id v w x q a e = record {
  marks = subst (λ l. Became (socket_id_slot id) v (record v { marks = l }) (Saw (socket_id_version id) ∷ []) []) (sym (ap (λ (y : View). y.marks) e)) a.marks;
  others = e ∙ (ap (λ (y : View). record y { found = request_index p q ∷ w.found }) a.others ∙ (let m = ap (λ (y : View). y.marks) e in let f = ap (λ (y : View). y.found) e in λ i. record v { marks = sym m i; found = sym f i }));
  taken = record { added = request_index p q ∷ a.taken.added; found = ap (λ (y : View). y.found) e ∙ ap (λ (l : List ℕ). request_index p q ∷ l) a.taken.found; each = λ j lt. absurd (omega arith) };
  seen = λ n h. (let t = a.seen n h in (suc t.0, ap (λ (y : View). get_elem? y.found (suc t.0)) e ∙ t.1));
}

-- all were asked for
pub full_now : (p : Plan) (at : ℕ) (v w : View) → FullNow p at v w → p.requests ≤ at → FullNow p p.requests v w
full_now p at v w a all = record { added = a.added; found = a.found; each = λ q lt. a.each q (omega arith) }

-- what stands in front of a list stands in it
in_front : (xs ys : List ℕ) (n x : ℕ) → get_elem? xs n ≡ some x → get_elem? (xs ++ ys) n ≡ some x
in_front [] ys n x e = cc e
in_front (z ∷ xs) ys zero x e = e
in_front (z ∷ xs) ys (suc n) x e = in_front xs ys n x e

-- each was found taken by then
pub full_found : (p : Plan) (v w : View) → FullNow p p.requests v w → (q : ℕ) → q < p.requests → FoundTaken p q w.found
full_found p v w a q low = let t = a.each q low in (t.0, ap (λ (l : List ℕ). get_elem? l t.0) a.found ∙ in_front a.added v.found t.0 (request_index p q) t.1)

pub false_true : false ≡ true → ⊥
false_true e = let n : ℕ ≡ ⊥ = ap (λ b. cond b ⊥ ℕ) e in subst (λ (x : Type 0). x) n 0

-- while it asks it holds the life, and its own list has room
pub still_holds : (p : Plan) (id at : ℕ) (v w : View) → Asking p id at v w → Holds p v id → Holds p w id
still_holds p id at v w a h = record { inside = h.inside; held = (let x = a.marks.here (is_hold (socket_id_version id)) in let y = h.held in omega arith) }

pub still_room : (p : Plan) (id at : ℕ) (v w : View) → Asking p id at v w → HasRoom v → HasRoom w
still_room p id at v w a r = record { made = r.made; taken_in = r.taken_in; lists = ap (λ (x : View). x.lists) a.others ∙ r.lists; room = r.room }

-- what was accepted since the request was claimed was accepted since the call began
pub accepted_after : (p : Plan) (id at : ℕ) (heading : Heading) (bytes : List ℕ) (c : Claim) (v w x : View) → Asking p id at v w → Accepted [] p id heading bytes (with_claim w c) x → Accepted (Saw (socket_id_version id) ∷ []) p id heading bytes v x
accepted_after p id at heading bytes c v w x a k = record {
  entry = k.entry;
  heading_is = k.heading_is;
  bytes_is = k.bytes_is;
  lists = k.lists ∙ ap (λ (y : View). more y.lists k.entry) a.others;
  marks = record {
    here = λ f. (let y = a.marks.here f in let z = k.marks.here f in omega arith);
    elsewhere = λ j ne. k.marks.elsewhere j ne ∙ a.marks.elsewhere j ne;
    others = refl;
  };
  inside = k.inside;
  claims = k.claims;
  loose = k.loose;
  hands = k.hands ∙ ap (λ (y : View). y.hands) a.others;
  share = k.share ∙ ap (λ (y : View). y.share) a.others;
  passes = k.passes ∙ ap (λ (y : View). y.passes) a.others;
  seen = λ n h. k.seen n (a.seen n h);
  finds = k.finds ∙ ap (λ (y : View). y.finds) a.others;
  histories = k.histories ∙ ap (λ (y : View). y.histories) a.others;
  drops = k.drops ∙ ap (λ (y : View). y.drops) a.others;
  stores = k.stores ∙ ap (λ (y : View). y.stores) a.others;
}

pub started_after : {O : Type 0} {g : Ghosts O} (p : Plan) (sock : Rattle.sock_table.specs.declared.refs.SockRef.SockRef) (at : ℕ) (heading : Heading) (bytes : List ℕ) (c : Claim) (s : Rattle.write_chain.specs.declared.entry.Started.Started O g) (v w u x : View)
    → Asking p sock.id.0 at v w → u ≡ with_claim w c → Rattle.write_chain.specs.SendingIntoChain.StartedWith [] p sock heading bytes s u x → Rattle.write_chain.specs.SendingIntoChain.StartedBy p sock heading bytes s v x
unfolding accepted_after
started_after p sock at heading bytes c (Rattle.write_chain.specs.declared.entry.Started.TheVariants.Queued r) v w u x a e (is, k, rights) = (is, accepted_after p sock.id.0 at heading bytes c v w x a (subst (λ (y : View). Accepted [] p sock.id.0 heading bytes y x) e k), rights)
started_after p sock at heading bytes c (Rattle.write_chain.specs.declared.entry.Started.TheVariants.Right r) v w u x a e (is, first, k, y, rights, f, tk) = right_after (subst (λ (y : View). Accepted [] p sock.id.0 heading bytes y x) e k) (link_same u (with_claim w c) e k f)
  where
    right_after : (l : Accepted [] p sock.id.0 heading bytes (with_claim w c) x) → IsFirst y l.entry.link r.last.0 → Rattle.write_chain.specs.SendingIntoChain.StartedBy p sock heading bytes (Rattle.write_chain.specs.declared.entry.Started.TheVariants.Right r) v x
    right_after l h = (is, first, accepted_after p sock.id.0 at heading bytes c v w x a l, y, rights, h, tk)

    link_same : (m n : View) (q : m ≡ n) (l : Accepted [] p sock.id.0 heading bytes m x) → IsFirst y l.entry.link r.last.0 → IsFirst y (subst (λ (z : View). Accepted [] p sock.id.0 heading bytes z x) q l).entry.link r.last.0
    link_same m n q l h = h

-- whichever request was found taken, or none
pub asks_still : {S : Type 0} (p : Plan) (id : ℕ) (v : View) (m n : Me S View) → Asking p id 0 v m.0 → Missed p m n → Asking p id 0 v n.0
asks_still p id v m n a (inl same) = subst (λ (x : View). Asking p id 0 v x) (sym (ap (λ x. x.0) same)) a
asks_still p id v m n a (inr noted) = asks_other p id v m.0 n.0 noted.0 a (ap (λ x. x.0) noted.1)

pub missed_slots : {S : Type 0} (p : Plan) (m n : Me S View) → Missed p m n → n.1 ≡ m.1
missed_slots p m n (inl same) = ap (λ x. x.1) same
missed_slots p m n (inr noted) = ap (λ x. x.1) noted.1
