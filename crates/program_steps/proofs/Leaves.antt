-- What each step leaves of the view of its seat, and what notes most steps add to its marks.
use Rattle.std.proofs.Common.{◌≡◌, ℕ, ◌+◌, ◌-◌, ◌%◌, ◌==◌, Bool, true, false, true≢false, cond, nat_lt, List, [], ◌∷◌, refl, sym, ap, ◌∙◌, subst, take, ◌++◌}
use Rattle.sock_words.specs.PackedWords.{socket_id_version, socket_id_slot, vref_version, IDLE, UNCONNECTED}
use Rattle.sock_words.specs.declared.plain.Plan.{Plan}
use Rattle.sock_model.specs.declared.chain.Claim.{Claim}
use Rattle.sock_model.specs.declared.chain.Right.{Right}
use Rattle.sock_model.specs.declared.chain.Stage.{Stage}
use Rattle.sock_model.specs.declared.chain.Stage.TheVariants.{Writes, Placed, Passes, Reversing, ReversesNext}
use Rattle.sock_model.specs.declared.marks.Mark.TheVariants.{Saw, Told, Met, Known}
use Rattle.sock_model.specs.declared.marks.SlotMark.{SlotMark}
use Rattle.sock_model.specs.declared.view.View.{View}
use Rattle.sock_model.specs.declared.view.Hand.{Hand}
use Rattle.sock_model.specs.Marks.{at}
use Rattle.sock_model.specs.MarkWeights.{only}
use Rattle.sock_model.specs.SlotRows.{met, looked, told_code, met_link}
use Rattle.sock_model.specs.ChainRows.{with_hand, spent_hand, with_claim, queued, righted, with_right, without_right, turned_right, placed_right, dropped_right, ready_claim, filled_claim}
use Rattle.sock_steps.proofs.SumsAsMarksChange.{either_way}
use Rattle.seat_programs.specs.TableSteps.{TableStep, OnSlot, OnName, OnChain, OnPlace, OnLink, OnMessage, LoadName, LoadOpen, TakeLink, PutLink, LookWord, LoadLink, FindLink, LoadCode, ClaimRequest, PutMessage, Unconnect, SwapHead, EmptyHead, ReadNext, ReverseNext, FreeRequest, StorePlace, DropPlace}
use Rattle.seat_programs.specs.StepTables.{row}
use Rattle.seat_programs.specs.StepViews.{by_claim, by_right, settled}
use Rattle.seat_programs.specs.StepsOfNames.{is_id, found_id}
use Rattle.seat_programs.specs.StepsOfChain.{new_claim, exchanged, emptied, read_next, turned_next, freed_next}
use Rattle.seat_programs.specs.StepsOfSlots.{looked_clean}
use Rattle.seat_programs.specs.StepsOfPlaces.{placed_next, dropped_next}
use Rattle.sock_words.specs.Totals.{total}

-- whether a step is one on whose word the right of whoever writes goes on
abbrev pub moves_right : TableStep → Bool
moves_right (OnSlot (LookWord id)) = true
moves_right (OnPlace step) = true
moves_right (OnChain (SwapHead i own)) = true
moves_right (OnChain (ReadNext q)) = true
moves_right (OnChain (EmptyHead i last)) = true
moves_right (OnChain (ReverseNext q value)) = true
moves_right (OnChain (FreeRequest q g)) = true
moves_right other = false

pub claim_way : (P : View → Type 0) (cs : List Claim) (then_ : Claim → View) (v : View) → P v → ((c : Claim) → P (then_ c)) → P (by_claim cs then_ v)
claim_way P [] then_ v a b = a
claim_way P (c ∷ cs) then_ v a b = b c

pub right_way : (P : View → Type 0) (rs : List Right) (then_ : Right → View) (v : View) → P v → ((r : Right) → P (then_ r)) → P (by_right rs then_ v)
right_way P [] then_ v a b = a
right_way P (r ∷ rs) then_ v a b = b r

-- what holds of all views that differ from this one on the chains alone holds behind a step of the chains
module _ (P : View → Type 0) (v : View) (same : P v) where
  module _ (rights : (r : Right) → P (with_right v r)) (gone : (k : ℕ) → P (without_right v k)) where
    pub reads_way : (found : ℕ) (r : Right) (stage : Stage) → P (read_next found v r stage)
    reads_way found r (Placed now) = rights (settled (record r { stage = Passes now found }))
    reads_way found r (Reversing top at_ after) = either_way (found == UNCONNECTED) v (with_right v (record r { stage = ReversesNext top at_ after found })) P same (rights (record r { stage = ReversesNext top at_ after found }))
    reads_way found r _ = same

    pub turns_way : (r : Right) (stage : Stage) → P (turned_next v r stage)
    turns_way r (ReversesNext top at_ after before) = rights (turned_right r top at_ before)
    turns_way r _ = same

    pub places_way : (r : Right) (stage : Stage) → P (placed_next v r stage)
    places_way r (Writes now) = rights (settled (placed_right r now))
    places_way r _ = same

    pub drops_way : (r : Right) (stage : Stage) → P (dropped_next v r stage)
    drops_way r (Writes now) = rights (settled (dropped_right r now (r.sent ++ take r.put r.bytes)))
    drops_way r _ = same

    pub emptied_way : (last found : ℕ) (r : Right) → P (emptied last found v r)
    emptied_way last found r = either_way (found == last) (without_right v r.link) (with_right v (record r { stage = Reversing found found 0 })) P (gone r.link) (rights (record r { stage = Reversing found found 0 }))

  pub exchanges_way : ((c : Claim) (n : ℕ) → P (queued v c n)) → ((c : Claim) (n : ℕ) (sent : List ℕ) (m : ℕ) → P (righted v c n sent m)) → (found : ℕ) (hand : Hand) (c : Claim) → P (exchanged found hand v c)
  exchanges_way busy idle found hand c = either_way (nat_lt found IDLE) (queued v c found) (righted v c found hand.took hand.next) P (busy c found) (idle c found hand.took hand.next)

-- whether it is the exchange of a head
abbrev pub is_exchange : TableStep → Bool
is_exchange (OnChain (SwapHead i own)) = true
is_exchange other = false

-- whether it is one on the claims, and whether it moves a link into or out of a hand
abbrev pub is_claiming : TableStep → Bool
is_claiming (OnChain (ClaimRequest id q)) = true
is_claiming (OnMessage (PutMessage q heading bytes)) = true
is_claiming (OnChain (Unconnect q)) = true
is_claiming (OnChain (SwapHead i own)) = true
is_claiming other = false

abbrev pub moves_hand : TableStep → Bool
moves_hand (OnLink (TakeLink k)) = true
moves_hand (OnLink (PutLink k)) = true
moves_hand other = false

-- whether it changes what the seat has and noted of slots: beside the steps on slots only those do that find an id or a link
abbrev pub moves_marks : TableStep → Bool
moves_marks (OnName (LoadName n)) = true
moves_marks (OnName (LoadOpen o)) = true
moves_marks (OnChain (ClaimRequest id q)) = true
moves_marks (OnSlot step) = true
moves_marks other = false

-- all of a view but its passes, stores, drops and entries not connected is as it was, but for the marks, claims, rights, hands and lists of accepted
-- messages where the step is on these
abbrev pub SameSeat : TableStep → View → View → Type 0
SameSeat call v w = let u : View = record v { marks = cond (moves_marks call) w.marks v.marks; passes = w.passes; stores = w.stores; drops = w.drops; loose = w.loose; claims = cond (is_claiming call) w.claims v.claims; rights = cond (moves_right call) w.rights v.rights; hands = cond (moves_hand call) w.hands v.hands; lists = cond (is_exchange call) w.lists v.lists } in w ≡ u

-- each step leaves it
module _ (p : Plan) (v : View) (found : ℕ) (hand : Hand) where
  pub row_leaves : (call : TableStep) → SameSeat call v (row p call found hand v)
  row_leaves (OnName (LoadName n)) = either_way (is_id found) (met (socket_id_slot (found - 1)) (socket_id_version (found - 1)) v) v (SameSeat (OnName (LoadName n)) v) refl refl
  row_leaves (OnName (LoadOpen o)) = either_way (is_id found) (met (socket_id_slot (found - 1)) (socket_id_version (found - 1)) v) v (SameSeat (OnName (LoadOpen o)) v) refl refl
  row_leaves (OnLink (TakeLink k)) = either_way (nat_lt 0 (total (only hand.link) v.passes)) (spent_hand v hand) (with_hand v hand) (SameSeat (OnLink (TakeLink k)) v) refl refl
  row_leaves (OnSlot (LookWord id)) = right_way (SameSeat (OnSlot (LookWord id)) v) v.rights (looked_clean (socket_id_slot id) found v) (looked (socket_id_slot id) found v) refl
      (λ r. either_way (vref_version found % 2 == 0) (with_right (looked (socket_id_slot id) found v) (record r { clean = true })) (looked (socket_id_slot id) found v) (SameSeat (OnSlot (LookWord id)) v) refl refl)
  row_leaves (OnSlot (LoadCode i h)) = either_way (found == 0) v (told_code i h found v) (SameSeat (OnSlot (LoadCode i h)) v) refl refl
  row_leaves (OnChain (ClaimRequest id q)) = let i : ℕ = socket_id_slot id in let h : ℕ = socket_id_version id in
      either_way (found % 2 == 0) (with_claim (met_link i h hand.link v) (new_claim hand.link q found)) v (SameSeat (OnChain (ClaimRequest id q)) v) refl refl
  row_leaves (OnMessage (PutMessage q heading bytes)) = claim_way (SameSeat (OnMessage (PutMessage q heading bytes)) v) v.claims (λ c. with_claim v (filled_claim c heading bytes)) v refl (λ c. refl)
  row_leaves (OnChain (Unconnect q)) = claim_way (SameSeat (OnChain (Unconnect q)) v) v.claims (λ c. with_claim v (ready_claim c)) v refl (λ c. refl)
  row_leaves (OnChain (SwapHead i own)) = claim_way (SameSeat (OnChain (SwapHead i own)) v) v.claims (exchanged found hand v) v refl (exchanges_way (SameSeat (OnChain (SwapHead i own)) v) v refl (λ c n. refl) (λ c n sent m. refl) found hand)
  row_leaves (OnChain (EmptyHead i last)) = right_way (SameSeat (OnChain (EmptyHead i last)) v) v.rights (emptied last found v) v refl (emptied_way (SameSeat (OnChain (EmptyHead i last)) v) v refl (λ r. refl) (λ k. refl) last found)
  row_leaves (OnChain (ReadNext q)) = right_way (SameSeat (OnChain (ReadNext q)) v) v.rights (λ r. read_next found v r r.stage) v refl (λ r. reads_way (SameSeat (OnChain (ReadNext q)) v) v refl (λ r. refl) (λ k. refl) found r r.stage)
  row_leaves (OnChain (ReverseNext q value)) = right_way (SameSeat (OnChain (ReverseNext q value)) v) v.rights (λ r. turned_next v r r.stage) v refl (λ r. turns_way (SameSeat (OnChain (ReverseNext q value)) v) v refl (λ r. refl) (λ k. refl) r r.stage)
  row_leaves (OnChain (FreeRequest q g)) = right_way (SameSeat (OnChain (FreeRequest q g)) v) v.rights (freed_next v) v refl (λ r. refl)
  row_leaves (OnPlace (StorePlace l k n)) = right_way (SameSeat (OnPlace (StorePlace l k n)) v) v.rights (λ r. placed_next v r r.stage) v refl (λ r. places_way (SameSeat (OnPlace (StorePlace l k n)) v) v refl (λ r. refl) (λ k. refl) r r.stage)
  row_leaves (OnPlace (DropPlace l k n)) = right_way (SameSeat (OnPlace (DropPlace l k n)) v) v.rights (λ r. dropped_next v r r.stage) v refl (λ r. drops_way (SameSeat (OnPlace (DropPlace l k n)) v) v refl (λ r. refl) (λ k. refl) r r.stage)
  row_leaves _ = refl

  pub plan_stays : (call : TableStep) → (row p call found hand v).plan ≡ v.plan
  plan_stays call = ap (λ (w : View). w.plan) (row_leaves call)

  pub marks_stay : (call : TableStep) → moves_marks call ≡ false → (row p call found hand v).marks ≡ v.marks
  marks_stay call other_ = ap (λ (w : View). w.marks) (row_leaves call) ∙ ap (λ b. cond b (row p call found hand v).marks v.marks) other_

  pub claims_stay : (call : TableStep) → is_claiming call ≡ false → (row p call found hand v).claims ≡ v.claims
  claims_stay call other_ = ap (λ (w : View). w.claims) (row_leaves call) ∙ ap (λ b. cond b (row p call found hand v).claims v.claims) other_

  pub rights_stay : (call : TableStep) → moves_right call ≡ false → (row p call found hand v).rights ≡ v.rights
  rights_stay call other_ = ap (λ (w : View). w.rights) (row_leaves call) ∙ ap (λ b. cond b (row p call found hand v).rights v.rights) other_

  pub hands_stay : (call : TableStep) → moves_hand call ≡ false → (row p call found hand v).hands ≡ v.hands
  hands_stay call other_ = ap (λ (w : View). w.hands) (row_leaves call) ∙ ap (λ b. cond b (row p call found hand v).hands v.hands) other_

  -- all but the exchange leave the lists of accepted messages
  pub lists_stay : (call : TableStep) → is_exchange call ≡ false → (row p call found hand v).lists ≡ v.lists
  lists_stay call other_ = ap (λ (w : View). w.lists) (row_leaves call) ∙ ap (λ b. cond b (row p call found hand v).lists v.lists) other_

-- whether a step leaves the marks, and adds notes at most
abbrev pub is_noting : TableStep → Bool
is_noting (OnSlot (LookWord id)) = true
is_noting (OnSlot (LoadLink i w)) = true
is_noting (OnSlot (FindLink i h)) = true
is_noting (OnSlot (LoadCode i h)) = true
is_noting (OnSlot step) = false
is_noting other = true

-- what holds of the marks, and with these notes more, holds of the marks behind each such step
module _ (p : Plan) (v : View) (found : ℕ) (hand : Hand) (Q : List SlotMark → Type 0) (same : Q v.marks) (saw : (i w : ℕ) → Q (at i (Saw w) ∷ v.marks)) (met_ : (i h k : ℕ) → Q (at i (Met h k) ∷ v.marks))
    (told : (i h c w : ℕ) → Q (at i (Told h c) ∷ at i (Saw w) ∷ v.marks)) (known : (i h : ℕ) → Q (at i (Known h) ∷ v.marks)) where
  abbrev P : View → Type 0
  P w = Q w.marks

  found_marks : P (found_id found v)
  found_marks = let i : ℕ = socket_id_slot (found - 1) in let h : ℕ = socket_id_version (found - 1) in either_way (is_id found) (met i h v) v P (known i h) same

  pub noting_marks : (call : TableStep) → is_noting call ≡ true → Q (row p call found hand v).marks
  noting_marks (OnSlot (LookWord id)) is = right_way P v.rights (looked_clean (socket_id_slot id) found v) (looked (socket_id_slot id) found v) (saw (socket_id_slot id) (vref_version found))
      (λ r. either_way (vref_version found % 2 == 0) (with_right (looked (socket_id_slot id) found v) (record r { clean = true })) (looked (socket_id_slot id) found v) P (saw (socket_id_slot id) (vref_version found)) (saw (socket_id_slot id) (vref_version found)))
  noting_marks (OnSlot (LoadLink i w)) is = met_ i (w - 2) found
  noting_marks (OnSlot (FindLink i h)) is = met_ i h found
  noting_marks (OnSlot (LoadCode i h)) is = either_way (found == 0) v (told_code i h found v) P same (told i h found (h + 1))
  noting_marks (OnName (LoadName n)) is = found_marks
  noting_marks (OnName (LoadOpen o)) is = found_marks
  noting_marks (OnChain (ClaimRequest id q)) is = let i : ℕ = socket_id_slot id in let h : ℕ = socket_id_version id in
      either_way (found % 2 == 0) (with_claim (met_link i h hand.link v) (new_claim hand.link q found)) v P (met_ i h hand.link) same
  noting_marks (OnSlot step) is = absurd (true≢false (sym is))
  noting_marks call is = subst Q (sym (marks_stay p v found hand call refl)) same
