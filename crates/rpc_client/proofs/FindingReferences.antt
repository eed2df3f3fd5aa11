-- From a name to a reference, and what a seat has seen.
use Rattle.atomic_table.specs.Seated.{TableId}
use Rattle.atomic_table.specs.Table.{Me}
use Rattle.sock_rule.specs.NotesBesideRows.{PutAt}
use Rattle.atomic_table.specs.declared.shared.Seat.{Seat}
use Rattle.sock_rule.specs.SocketSeatSplits.{IsSeat}
use Rattle.sock_table.specs.ReferenceCalls.{IsBetween, SameTokens, GaveBack}
use Rattle.sock_model.specs.MarkWeights.{is_ref}
use Rattle.sock_model.specs.SlotRows.{marks_of}
use Rattle.write_chain.specs.slot_steps.proofs.RuleNumbers.{only-same, pair-same}
use Rattle.std.proofs.Common.{◌≡◌, ℕ, suc, ◌<◌, Bool, List, ◌∷◌, Some, refl, sym, ap, ◌∙◌, subst, arith}
use lib.ListN.{get_elem?}
use Rattle.sock_words.specs.declared.plain.Plan.{Plan}
use Rattle.sock_words.specs.declared.socket_id.SocketId.{SocketId}
use Rattle.sock_words.specs.PackedWords.{socket_id_slot, socket_id_version}
use Rattle.sock_model.specs.declared.marks.Mark.{Mark}
use Rattle.sock_model.specs.declared.view.View.{View}
use Rattle.sock_model.specs.SocketTableLayout.{name_index}
use Rattle.sock_rule.specs.MarksComeAndGo.{Became}
use Rattle.sock_table.specs.declared.refs.SockRef.{SockRef}
use Rattle.sock_table.specs.ReferenceAnswers.{Held, Holds, GoneFrom, NoneLater}
use Rattle.sock_table.specs.NamesStoredAndFound.{Found, FindsId}
use Rattle.rpc_client.specs.declared.reaching.Reached.TheVariants.{Here}
use Rattle.rpc_client.specs.SeatBetweenOperations.{Idle, MayAct, AtRest, StillIdle, StaysSeen, SameRefs, OneMore}
use Rattle.rpc_client.specs.ReachingByName.{ReachedBy}
use Rattle.sock_words.specs.declared.outcome.Outcome.{Outcome}
use Rattle.sock_words.specs.declared.outcome.Outcome.TheVariants as outcome
use Rattle.sock_model.specs.declared.marks.Mark.TheVariants.{Hold}
use Rattle.rpc_client.specs.FailOutcomes.{SetBy, FailedBy}
use Rattle.rpc_client.proofs.CountedReferences.{same_refs, finds_refs, one_more, more_then}

pub seen_same : (v w : View) → w.found ≡ v.found → StaysSeen v w
seen_same v w e x (k, at) = (k, ap (λ l. get_elem? l k) e ∙ at)

pub seen_more : (y : ℕ) (v w : View) → w.found ≡ y ∷ v.found → StaysSeen v w
seen_more y v w e x (k, at) = (suc k, ap (λ l. get_elem? l (suc k)) e ∙ at)

pub seen_then : (u v w : View) → StaysSeen u v → StaysSeen v w → StaysSeen u w
seen_then u v w a b x h = b x (a x h)

pub seen_became : (i : ℕ) (v w : View) (adds drops : List Mark) → Became i v w adds drops → StaysSeen v w
seen_became i v w adds drops b = seen_same v w (ap (λ (y : View). y.found) b.others)

pub seen_found : (x id : ℕ) (v w : View) → FindsId x id v w → StaysSeen v w
seen_found x id v w d = seen_more x v w (ap (λ (y : View). y.found) d.view)

module _ (p : Plan) (n : ℕ) (id : SocketId) (v u w : View) (f : Found p n (Some id) v u) where
  pub is_here : (sock : SockRef) → (sock.id ≡ id) × Held id.0 u w → NoneLater id.0 u → ReachedBy p n (Here sock) v w
  is_here sock a none_ = subst (λ (y : SocketId). (x : View) × Found p n (Some y) v x × Held y.0 x w × NoneLater y.0 x) (sym a.0) (u, f, a.1, none_)

  pub here_refs : (sock : SockRef) → (sock.id ≡ id) × Held id.0 u w → OneMore sock.id.0 v w
  here_refs sock a = subst (λ (y : SocketId). OneMore y.0 v w) (sym a.0) (more_then id.0 v u w (finds_refs (name_index p n) id.0 v u f.1) (one_more id.0 u w a.1))

  pub here_seen : (sock : SockRef) → (sock.id ≡ id) × Held id.0 u w → StaysSeen v w
  here_seen sock a = seen_then v u w (seen_found (name_index p n) id.0 v u f.1) (seen_became (socket_id_slot id.0) u w _ _ a.1)

  pub gone_seen : (found : ℕ) → GoneFrom id.0 found u w → StaysSeen v w
  gone_seen found g = seen_then v u w (seen_found (name_index p n) id.0 v u f.1) (seen_became (socket_id_slot id.0) u w _ _ g.became)

-- ## A seat between two operations

module _ {S : Type 0} (z : TableId) (p : Plan) where
  pub rest_became : (i : ℕ) (s t : Seat S View) (adds drops : List Mark) → Idle z p s → IsSeat z p t → t.me.1 ≡ s.me.1 → IsBetween p t.me.0 → Became i s.me.0 t.me.0 adds drops → AtRest z p s t
  rest_became i s t adds drops idle seat slots between b = record {
    idle = record { seat = seat; slots = slots ∙ idle.slots; between = between; claims = ap (λ (y : View). y.claims) b.others ∙ idle.claims; loose = ap (λ (y : View). y.loose) b.others ∙ idle.loose };
    share = ap (λ (y : View). y.share) b.others;
  }

  pub rest_then : (s t u : Seat S View) → AtRest z p s t → AtRest z p t u → AtRest z p s u
  rest_then s t u a b = record { idle = b.idle; share = b.share ∙ a.share }

  pub rest_same : (s t : Seat S View) → Idle z p s → IsSeat z p t → t.me.1 ≡ s.me.1 → IsBetween p t.me.0 → SameTokens p s.me.0 t.me.0 → AtRest z p s t
  rest_same s t idle seat slots between b = record {
    idle = record { seat = seat; slots = slots ∙ idle.slots; between = between; claims = b.claims ∙ idle.claims; loose = b.loose ∙ idle.loose };
    share = b.share;
  }

  -- behind a wait
  pub rest_waited : (s t u : Seat S View) → StillIdle z p s t → AtRest z p t u → AtRest z p s u
  rest_waited s t u w r = record { idle = r.idle; share = r.share ∙ ap (λ m. m.0.share) w.same }

  pub may_still : (s t : Seat S View) → MayAct z p s → Idle z p t → SameRefs s.me.0 t.me.0 → MayAct z p t
  may_still s t may idle refs = record { idle = idle; room = λ i il. (let a = may.room i il in let b = refs.refs i in omega arith) }

  -- a reference that came is one that is held, and few are there
  pub has_one : (id : ℕ) (s : Seat S View) (w : View) → MayAct z p s → socket_id_slot id < p.slots → OneMore id s.me.0 w → Holds p w id × (marks_of is_ref (socket_id_slot id) w < 65540)
  has_one id s w may inside one = (
    record { inside = inside; held = (let a = one.lives (socket_id_slot id) (socket_id_version id) in let b = pair-same (socket_id_slot id) (socket_id_version id) in omega arith) },
    (let a = one.refs (socket_id_slot id) in let b = only-same (socket_id_slot id) in let c = may.room (socket_id_slot id) inside in omega arith),
  )

-- what was reached by a name is of a slot of the table
pub here_inside : (p : Plan) (n : ℕ) (sock : SockRef) (v w : View) → ReachedBy p n (Here sock) v w → socket_id_slot sock.id.0 < p.slots
here_inside p n sock v w r = r.1.0.inside

-- what is held is held behind notes
pub holds_still : (p : Plan) (id : ℕ) (v w : View) → Holds p v id → SameRefs v w → Holds p w id
holds_still p id v w h b = record { inside = h.inside; held = (let a = b.lives (socket_id_slot id) (socket_id_version id) in let y = h.held in omega arith) }

-- a step that failed the life, or found it failed
pub set_refs : (id code : ℕ) (by : Outcome) (v w : View) → SetBy id code by v w → SameRefs v w
set_refs id code outcome.Failed v w b = same_refs (socket_id_slot id) v w _ _ b refl refl
set_refs id code (outcome.Already found) v w b = same_refs (socket_id_slot id) v w _ _ b.1 refl refl
set_refs id code _ v w b = elim b [ ]

pub set_others : (id code : ℕ) (by : Outcome) (v w : View) → SetBy id code by v w → w ≡ record v { marks = w.marks }
set_others id code outcome.Failed v w b = b.others
set_others id code (outcome.Already found) v w b = b.1.others
set_others id code _ v w b = elim b [ ]

pub tried_failed : (p : Plan) (n code : ℕ) (by : Outcome) (sock : SockRef) (ended : Bool) (v u t w : View) → ReachedBy p n (Here sock) v u → SetBy sock.id.0 code by u t → GaveBack (socket_id_slot sock.id.0) t w (Hold (socket_id_version sock.id.0)) ended → FailedBy p n code by v w
tried_failed p n code outcome.Failed sock ended v u t w r b g = record { sock = sock; has = u; reached_it = r; set = t; set_by = b; ended = ended; back = g }
tried_failed p n code (outcome.Already found) sock ended v u t w r b g = record { sock = sock; has = u; reached_it = r; set = t; set_by = b; ended = ended; back = g }
tried_failed p n code _ sock ended v u t w r b g = elim b [ ]

-- all that was found is known still where marks alone changed
pub seen_others : (v w : View) → w ≡ record v { marks = w.marks } → StaysSeen v w
seen_others v w e = seen_same v w (ap (λ (y : View). y.found) e)

-- a word was stored
pub seen_put : {S : Type 0} (x word : ℕ) (m n : Me S View) → PutAt x word m n → StaysSeen m.0 n.0
seen_put {S} x word m n put = seen_more x m.0 n.0 (ap (λ (y : Me S View). y.0.found) put.view)
