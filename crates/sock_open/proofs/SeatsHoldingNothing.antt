-- Seats between operations, which hold nothing.
use Rattle.std.proofs.Common.{◌≡◌, ℕ, ◌+◌, ◌-◌, ◌<◌, ◌≤◌, Bool, true, false, cond, nat_le, List, [], ◌∷◌, ◌++◌, refl, sym, ap, ◌∙◌, subst, arith, IfOk, IfErr}
use Rattle.atomic_table.specs.Seated.{TableId}
use Rattle.atomic_table.specs.declared.shared.Seat.{Seat}
use Rattle.std.specs.declared.result.Result.{Result}
use Rattle.std.specs.declared.result.Result.TheVariants.{Ok, Err}
use Rattle.sock_words.specs.declared.plain.Plan.{Plan}
use Rattle.sock_words.specs.PackedWords.{socket_id_version, socket_id_slot}
use Rattle.sock_model.specs.declared.marks.Mark.{Mark}
use Rattle.sock_model.specs.declared.marks.Mark.TheVariants.{Hold, Probe, Freer, Met, Recycling, Saw}
use Rattle.sock_model.specs.declared.view.View.{View}
use Rattle.sock_model.specs.MarkWeights.{is_ref, is_probe, is_known, is_hold}
use Rattle.sock_model.specs.Marks.{about}
use Rattle.sock_model.specs.SlotRows.{marks_of}
use Rattle.sock_rule.specs.LinkFaultNotes.{end_note}
use Rattle.sock_table.specs.slot_steps.proofs.SlotWeightSums.{total_mono, total-append}
use Rattle.sock_table.specs.slot_steps.proofs.RuleNumbers.{only-same}
use Rattle.sock_rule.specs.MarksComeAndGo.{Became}
use Rattle.sock_rule.specs.SocketSeatSplits.{IsSeat}
use Rattle.sock_rule.proofs.MarksComeAndGo.{then_}
use Rattle.sock_table.specs.ReferenceCalls.{IsBetween, EndedBy, GaveBack, MayAddress, SameTokens}
use Rattle.sock_table.specs.ReferenceAnswers.{Holds, Held, GoneFrom, FailedBy, FoundFailed}
use Rattle.sock_table.specs.ClosedSocketTable.{IsDoneSeat}
use Rattle.sock_table.specs.declared.refs.Already.{Already}
use Rattle.sock_table.proofs.LifeMaking.{became_same}
use Rattle.sock_words.specs.Totals.{total}

probe_ref : (m : Mark) → is_probe m ≤ is_ref m
probe_ref Probe = omega arith
probe_ref _ = omega arith

module _ {S : Type 0} (z : TableId) (p : Plan) where
  pub done_between : (s : Seat S View) → IsDoneSeat z p s → IsBetween p s.me.0
  done_between s d = record {
    unclaimed = d.rest.unclaimed;
    unprobed = λ i il. (let a = total_mono is_probe is_ref probe_ref (about i s.me.0.marks) in let b = d.done.unheld i il in omega arith);
    uncoding = d.rest.uncoding;
    no_zero = d.rest.no_zero;
    no_rights = d.done.bare.rights;
    empty = d.done.bare.hands;
    no_passes = d.rest.no_passes;
  }

  pub kept_done : (s t : Seat S View) → IsDoneSeat z p s → IsSeat z p t → t.me.1 ≡ s.me.1 → IsBetween p t.me.0 → SameTokens p s.me.0 t.me.0 → IsDoneSeat z p t
  kept_done s t d is slots b same = record {
    seat = is;
    slots = slots ∙ d.slots;
    done = record { bare = record { claims = same.claims ∙ d.done.bare.claims; loose = same.loose ∙ d.done.bare.loose; rights = b.no_rights; hands = b.empty }; unheld = λ i il. same.refs i il ∙ d.done.unheld i il };
    rest = record { unclaimed = b.unclaimed; uncoding = b.uncoding; no_zero = b.no_zero; no_passes = b.no_passes };
  }

  pub may_address : (s : Seat S View) (id : ℕ) → IsDoneSeat z p s → socket_id_slot id < p.slots → 0 < marks_of (is_known (socket_id_version id)) (socket_id_slot id) s.me.0 → MayAddress p s.me.0 id
  may_address s id d inside known = record { inside = inside; known = known; room = (let a = d.done.unheld (socket_id_slot id) inside in omega arith) }

pub ended_refs : (p : Plan) (b : Bool) (w : ℕ) (notes : List Mark) → EndedBy p b w notes → total is_ref notes ≡ 0
ended_refs p false w notes is = ap (total is_ref) is
ended_refs p true w notes is = ap (total is_ref) is.1 ∙ by_cases (nat_le (w + 1) 4294967292)
  where
    by_cases : (b : Bool) → total is_ref (Freer (w - 1) ∷ Met (w + 1 - 2) is.0 ∷ end_note p is.0 ∷ cond b [] (Recycling (w + 1) ∷ [])) ≡ 0
    by_cases true = refl
    by_cases false = refl

pub gone_same : (p : Plan) (id found : ℕ) (v w : View) → GoneFrom id found v w → SameTokens p v w
gone_same p id found v w g = became_same p (socket_id_slot id) v w _ _ g.became (let a = ended_refs v.plan g.ended g.version g.notes g.by in omega arith)

-- a reference came and went, and between only notes came
pub visited : (p : Plan) (id : ℕ) (u v w x : View) (ended : Bool) → Held id u v → (adds : List Mark) × (total is_ref adds ≡ 0) × Became (socket_id_slot id) v w adds [] → GaveBack (socket_id_slot id) w x (Hold (socket_id_version id)) ended → SameTokens p u x
visited p id u v w x ended a b c = let i : ℕ = socket_id_slot id in let h : ℕ = socket_id_version id in let n = ended_refs w.plan ended c.version c.notes c.by in let ab = then_ i a b.2 in
    let all = then_ i ab c.became in
    became_same p (socket_id_slot id) u x _ _ all (omega (arith, total-append is_ref (Saw (socket_id_version id) ∷ Hold (socket_id_version id) ∷ [] ++ b.0) c.notes, total-append is_ref (Saw (socket_id_version id) ∷ Hold (socket_id_version id) ∷ []) b.0, n, b.1))

pub no_notes : (id : ℕ) (v : View) → (adds : List Mark) × (total is_ref adds ≡ 0) × Became (socket_id_slot id) v v adds []
no_notes id v = ([], refl, record { here = λ f. refl; elsewhere = λ j ne. refl; others = refl })

pub failed_notes : (id code : ℕ) (v w : View) (r : Result Unit Already) → IfOk r (λ _. FailedBy id code v w) → IfErr r (λ e. FoundFailed id e.found.0 v w) → (adds : List Mark) × (total is_ref adds ≡ 0) × Became (socket_id_slot id) v w adds []
failed_notes id code v w (Ok x) a b = (_, refl, a)
failed_notes id code v w (Err e) a b = (_, refl, b.1)

pub holds_it : (p : Plan) (id : ℕ) (u v w : View) → socket_id_slot id < p.slots → Held id u v → (adds : List Mark) × (total is_ref adds ≡ 0) × Became (socket_id_slot id) v w adds [] → Holds p w id
holds_it p id u v w inside a b = record { inside = inside; held = (let x = a.here (is_hold (socket_id_version id)) in let y = b.2.here (is_hold (socket_id_version id)) in let o = only-same (socket_id_version id) in omega arith) }

-- a life that is known stays known
pub known_by : (i j h : ℕ) (v w : View) (adds drops : List Mark) → Became i v w adds drops → total (is_known h) drops ≡ 0 → 0 < marks_of (is_known h) j v → 0 < marks_of (is_known h) j w
known_by i j h v w adds drops b none_ there = mathlib.Core.Logic.dite (native.Mathlib.Decide.ℕ_discrete j i) (λ e. subst (λ (y : ℕ). 0 < marks_of (is_known h) y w) (sym e) (let x = b.here (is_known h) in let t : 0 < marks_of (is_known h) i v = subst (λ (y : ℕ). 0 < marks_of (is_known h) y v) e there in omega arith)) (λ ne. let x = ap (total (is_known h)) (b.elsewhere j ne) in omega arith)

pub one_ref : (p : Plan) (id other : ℕ) (v w : View) → socket_id_slot other ≡ socket_id_slot id → marks_of is_ref (socket_id_slot id) v ≡ 0 → Held id v w → marks_of is_ref (socket_id_slot other) w < 65540
one_ref p id other v w e none_ a = subst (λ (y : ℕ). marks_of is_ref y w < 65540) (sym e) (let x = a.here is_ref in omega arith)
