-- An outcome that is told and is an answer is that of a call, and comes from a response to it that a link gave.
use Rattle.std.proofs.Common.{◌≡◌, ℕ, zero, suc, ◌+◌, ◌<◌, Bool, true, false, cond, eqb, eq-eqb, List, [], ◌∷◌, ◌++◌, Some, None, pos, negsuc, refl, sym, ap, ◌∙◌, subst, arith}
use Rattle.std.specs.Prelude.{ℤ, Option, slice_get}
use Rattle.std.specs.List.{AllByRecursion}
use mathlib.Core.Option.{some}
use lib.ListN.{get_elem?}
use Rattle.sock_words.specs.declared.outcome.Outcome.{Outcome}
use Rattle.sock_words.specs.declared.outcome.Outcome.TheVariants as outcomes
use Rattle.brpc_model.specs.Frame.{Frame}
use Rattle.brpc_model.specs.Meta.{ResponseMeta}
use Rattle.brpc_model.specs.Items.{Item, Call, CallLine}
use Rattle.brpc_model.specs.Operations.{Operation}
use Rattle.brpc_model.specs.ResponseOutcome.{by_code, outcome_by}
use Rattle.corr_core.specs.IdSlotWord.{Parts, parts}
use Rattle.corr_core.specs.declared.marks.Kept.{Kept}
use Rattle.corr_core.specs.declared.marks.Note.{Note}
use Rattle.corr_core.specs.declared.marks.Note.TheVariants.{Locker}
use Rattle.corr_core.specs.declared.marks.Noted.{Noted}
use Rattle.corr_core.specs.declared.marks.Plan.{Plan}
use Rattle.corr_core.specs.declared.marks.View.{View}
use Rattle.id_rule.specs.LawfulIdTable.{notes_of}
use Rattle.corr_id.specs.SeatBehindIdCalls.{is_event, events}
use Rattle.corr_id.specs.ClosingIdLists.{Closing}
use Rattle.corr_id.proofs.LockRangeLengths.{lock_range}
use Rattle.sock_message.specs.Asked.{Asked}
use Rattle.call_deeds.specs.Below.RpcClient.Told.{Told}
use Rattle.call_deeds.specs.Below.RpcReader.ReaderBooks.{Books, id_of}
use Rattle.call_told.specs.TellersOfCallEnds.{IsGivenResponse, EndedBy, by_code as with_code, by_response, HasEnded, ToldFrom, TellsFrom, IsFailure, is_end_of_call, IsOwn, TellsOnly, IsAnswer, HasAnswer}
use Rattle.call_told.proofs.ListElementsByPlace.{some_same, all_then}
use Rattle.call_told.proofs.IdsMadeBySeats.{AllMade, made_fits}

-- an event that a seat noted stands among the notes of its slot
module _ (slot : ℕ) (n : Note Asked) where
  abbrev Stands : List (Noted Asked) → Type 0
  Stands ns = (k : ℕ) × (get_elem? (notes_of slot ns) k ≡ some n)

  stands_later : (m : Noted Asked) (ns : List (Noted Asked)) → Stands ns → Stands (m ∷ ns)
  stands_later m ns h = elim (eqb m.slot slot) as (λ b. (k : ℕ) × (get_elem? (cond b (m.note ∷ notes_of slot ns) (notes_of slot ns)) k ≡ some n)) [ true ↦ (suc h.0, h.1) | false ↦ h ]

  stands_here : (m : Noted Asked) (ns : List (Noted Asked)) → m ≡ record { slot = slot; note = n } → Stands (m ∷ ns)
  stands_here m ns same = subst (λ (y : Noted Asked). Stands (y ∷ ns)) (sym same) (subst (λ (b : Bool). (k : ℕ) × (get_elem? (cond b (n ∷ notes_of slot ns) (notes_of slot ns)) k ≡ some n)) (sym (eq-eqb slot slot refl)) (0, refl))

  stands_by : (m : Noted Asked) (ns : List (Noted Asked)) → ((j : ℕ) → slice_get (events ns) j ≡ Some (record { slot = slot; note = n }) → Stands ns) → (b : Bool) (i : ℕ) → slice_get (cond b (m ∷ events ns) (events ns)) i ≡ Some (record { slot = slot; note = n }) → Stands (m ∷ ns)
  stands_by m ns rest true zero e = stands_here m ns (some_same m (record { slot = slot; note = n }) e)
  stands_by m ns rest true (suc j) e = stands_later m ns (rest j e)
  stands_by m ns rest false j e = stands_later m ns (rest j e)

  pub noted_place : (ns : List (Noted Asked)) (i : ℕ) → slice_get (events ns) i ≡ Some (record { slot = slot; note = n }) → Stands ns
  noted_place [] i e = absurd (cc)
  noted_place (m ∷ ns) i e = stands_by m ns (noted_place ns) (is_event m.note) i e

-- the operation of a call in these has as many versions as the call is tried, and one more
abbrev pub IsAskedIn : List Operation → ℕ → Asked → Type 0
IsAskedIn ops range asked = (op : Operation) → slice_get ops asked.operation ≡ Some op → (call : CallLine) × (op.item ≡ Call call) × (range ≡ call.retry + 2)

-- of a lock by which a call ended, where all ids were made as these operations ask
lock_asked : (ops : List Operation) (q : Plan) (v : View Asked) (kept : List Kept) (words : List ℕ) → Closing q v.notes kept words → AllMade (IsAskedIn ops) v.notes → (slot : ℕ) (w : Parts) (call : Asked) → slot < q.slots → HasEnded slot w call v → IsAskedIn ops w.range call
lock_asked ops q v kept words closing made slot w call inside h =
    let o : Parts = parts h.word in
    let first : w.first ≡ o.first = ap (λ (y : Parts). y.first) h.word_is in
    let at = noted_place slot (Locker w.first call) v.notes h.locked.0 h.locked.1 in
    let locked : get_elem? (notes_of slot v.notes) at.0 ≡ some (Locker o.first call) = at.1 ∙ ap (λ (f : ℕ). some (Locker f call)) first in
    let was = h.was_open in
    let m = lock_range q v.notes kept words closing slot h.word at.0 call inside h.found (omega arith) locked in
    subst (λ (r : ℕ). IsAskedIn ops r call) (sym (ap (λ (y : Parts). y.range) h.word_is)) (made_fits (IsAskedIn ops) slot v.notes made m.0 o.first o.range call m.1)

module _ (links : ℕ) (gave : ℕ → List ℕ) where
  module _ (slot : ℕ) (w : Parts) (f : Frame) (given : IsGivenResponse links gave slot w f) (item : Item) (call : CallLine) (is_call : item ≡ Call call) (range : w.range ≡ call.retry + 2) where
    answer_by : (r : ResponseMeta) (code : ℤ) → f.meta.compress_type ≡ pos 0 → f.meta.response ≡ Some r → r.code ≡ code → IsAnswer links gave call (id_of slot w) code f
    answer_by r code e is c = record { given = given.given; response = (given.given.responds, given.behind, (let b = given.below in omega arith)); coded = (e, r, is, c) }

    coded_answer : (r : ResponseMeta) (code : ℤ) → f.meta.compress_type ≡ pos 0 → f.meta.response ≡ Some r → r.code ≡ code → HasAnswer links gave item (by_code (id_of slot w) f code)
    coded_answer r (pos zero) e is c = (call, is_call, f, answer_by r (pos zero) e is c, refl, refl)
    coded_answer r (pos (suc n)) e is c = (call, is_call, f, answer_by r (pos (suc n)) e is c, (λ z. cc))
    coded_answer r (negsuc n) e is c = (call, is_call, f, answer_by r (negsuc n) e is c, (λ z. cc))

    response_answer : (z : ℤ) (o : Option ResponseMeta) → f.meta.compress_type ≡ z → f.meta.response ≡ o → HasAnswer links gave item (outcome_by (id_of slot w) f z o)
    response_answer (pos zero) (Some r) e is = coded_answer r r.code e is refl
    response_answer (pos zero) None e is = tt
    response_answer (pos (suc n)) o e is = tt
    response_answer (negsuc n) o e is = tt

  ended_answer : (slot : ℕ) (w : Parts) (by : Outcome) (item : Item) (call : CallLine) → item ≡ Call call → w.range ≡ call.retry + 2 → EndedBy links gave slot w by → HasAnswer links gave item by
  ended_answer slot w by item call is range (with_code code loss e) = subst (HasAnswer links gave item) (sym e) tt
  ended_answer slot w by item call is range (by_response f given e) = subst (HasAnswer links gave item) (sym e) (response_answer slot w f given item call is range f.meta.compress_type f.meta.response refl refl)

  own_by : (item : Item) (o : Outcome) → is_end_of_call o ≡ false → HasAnswer links gave item o
  own_by item (outcomes.Answered id payload attachment) e = let k : true ≡ false = e in absurd (cc)
  own_by item (outcomes.Peer id code) e = let k : true ≡ false = e in absurd (cc)
  own_by item _ e = tt

  module _ (ops : List Operation) where
    -- what was told of one of these operations
    abbrev pub Answers : Told → Type 0
    Answers x = (op : Operation) → slice_get ops x.number ≡ Some op → HasAnswer links gave op.item x.outcome

    abbrev pub AllHave : List Told → Type 0
    AllHave xs = AllByRecursion Answers xs

    pub failure_answer : (x : Told) → IsFailure x → Answers x
    failure_answer x h op at = subst (HasAnswer links gave op.item) (sym h.is) tt

    pub own_answer : (x : Told) → IsOwn x → Answers x
    own_answer x e op at = own_by op.item x.outcome e

    -- ## Lists of what was told, from nothing on

    from_none : (P : Told → Type 0) → ((x : Told) → P x → Answers x) → (old new : List Told) → old ≡ [] → TellsOnly P old new → AllHave new
    from_none P f old new e h = subst AllHave (sym (h.1 ∙ ap (λ (l : List Told). l ++ h.0) e)) (all_then P Answers h.0 f h.2)

    -- by whoever read the links, once the table of ids is closed
    module _ (q : Plan) (v : View Asked) (kept : List Kept) (words : List ℕ) (closing : Closing q v.notes kept words) (made : AllMade (IsAskedIn ops) v.notes) where
      pub told_answer : (x : Told) → ToldFrom q.slots links gave v x → Answers x
      told_answer x t op at =
          let k = lock_asked ops q v kept words closing made t.slot t.word t.call t.inside t.lock op (ap (slice_get ops) (sym t.number) ∙ at) in
          ended_answer t.slot t.word x.outcome op.item k.0 k.1 k.2 t.by

      pub tells_answers : (b b' : Books) → b.told ≡ [] → b'.view ≡ v → TellsFrom q.slots links gave b b' → AllHave b'.told
      tells_answers b b' e is t = from_none (ToldFrom q.slots links gave v) told_answer b.told b'.told e (t.more, t.told, subst (λ (y : View Asked). AllByRecursion (ToldFrom q.slots links gave y) t.more) is t.each)

    pub failures_answer : (old new : List Told) → old ≡ [] → TellsOnly IsFailure old new → AllHave new
    failures_answer old new e h = from_none IsFailure failure_answer old new e h

    pub owns_answer : (old new : List Told) → old ≡ [] → TellsOnly IsOwn old new → AllHave new
    owns_answer old new e h = from_none IsOwn own_answer old new e h
