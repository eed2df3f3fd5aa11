-- What the view of a seat has of messages, by where the seat stands in its program; each tick of a run keeps it.
use Rattle.std.proofs.Common.{◌≡◌, ℕ, ◌%◌, ◌==◌, not, nat_lt, Bool, true, false, cond, eqb-true, eq-eqb, List, [], ◌∷◌, ◌++◌, filter, get_or, set, ◌⊎◌, inl, inr, ⊎_elim, refl, sym, ap, ◌∙◌, subst}
use Rattle.std.specs.List.{AllByRecursion}
use mathlib.Core.Option.{some}
use lib.ListN.{get_elem?}
use Rattle.atomic_table.proofs.Lists.{at_set, set_again}
use Rattle.sock_words.specs.PackedWords.{socket_id_version, socket_id_slot, vref_version, IDLE, UNCONNECTED}
use Rattle.sock_words.specs.declared.plain.Plan.{Plan}
use Rattle.sock_io.specs.declared.link.Put.{Put}
use Rattle.sock_io.specs.declared.link.Put.TheVariants.{Took, Again, Failed}
use Rattle.sock_model.specs.declared.chain.Claim.{Claim}
use Rattle.sock_model.specs.declared.chain.Right.{Right}
use Rattle.sock_model.specs.declared.chain.Stage.{Stage}
use Rattle.sock_model.specs.declared.chain.Stage.TheVariants as stages
use Rattle.sock_model.specs.declared.home.Home.{Home}
use Rattle.sock_model.specs.declared.view.Hand.{Hand}
use Rattle.sock_model.specs.declared.view.View.{View}
use Rattle.sock_model.specs.ChainRows.{with_claim, with_right, without_right, queued, righted, turned_right, placed_right, dropped_right, taken_right, put_right, ready_claim, filled_claim}
use Rattle.sock_model.specs.SocketTableLayout.{ref_index}
use Rattle.sock_model.specs.SlotRows.{looked, met_link}
use Rattle.ended_calls.specs.refused_attempts.specs.Below.sock_steps.proofs.SumsAsMarksChange.{either_way}
use Rattle.seat_programs.specs.TableSteps.{TableStep, OnSlot, OnChain, OnPlace, OnMessage, LookWord, ClaimRequest, PutMessage, Unconnect, SwapHead, EmptyHead, ReadNext, ReverseNext, FreeRequest, StorePlace, DropPlace}
use Rattle.seat_programs.specs.LoopHeads.{Retry}
use Rattle.seat_programs.specs.Programs.{Program, Do}
use Rattle.seat_programs.specs.Cores.{Core, SeatState, resolved, next_step, found_at, waiting_at, hand_after, lies_at, others_of, link_place}
use Rattle.seat_programs.specs.StepTables.{word_of}
use Rattle.seat_programs.specs.Ticks.{Moment, IsAnswered, fed, onto_first, ticked}
use Rattle.seat_programs.specs.StepTables.{row, hand_at}
use Rattle.seat_programs.specs.StepsOfChain.{link_in, new_claim, exchanged, emptied, read_next, turned_next, freed_next, freed_stage}
use Rattle.seat_programs.specs.StepViews.{by_claim, by_right, settled}
use Rattle.seat_programs.specs.StepsOfMessages.{took_message}
use Rattle.seat_programs.specs.StepsOfSlots.{looked_clean}
use Rattle.seat_programs.specs.StepsOfPlaces.{placed_next, dropped_next}
use Rattle.seat_programs.specs.StepsOfLinks.{link_away, link_home_again, took_bytes}
use Rattle.seat_programs.specs.StepTables.{May}
use Rattle.ended_calls.specs.refused_attempts.specs.Below.programs_allowed.specs.program_steps.specs.SoundSeats.{Sound, IsFitting, views_after}
use Rattle.ended_calls.specs.refused_attempts.specs.Below.programs_allowed.specs.program_steps.proofs.Leaves.{claim_way, right_way, claims_stay, rights_stay}
use Rattle.ended_calls.specs.refused_attempts.specs.Below.programs_allowed.specs.program_steps.proofs.TickCases.{tick_cases}
use Rattle.dropped_calls.proofs.LateLooks.{Mode, Idle, Saw, Claims, Writes, IsCalm, seen, Looks, looks_first, looks_next}
use Rattle.ended_calls.specs.refused_attempts.specs.Below.outcome_ticks.proofs.ClaimAndAcceptedMessages.{IsNoSwap}

-- ## Claims and rights

-- each claim, and each right, is for a link with this
abbrev pub Claiming : (ℕ → Type 0) → List Claim → Type 0
Claiming C cs = AllByRecursion (λ (c : Claim). C c.link) cs

abbrev pub Righted : (ℕ → Type 0) → List Right → Type 0
Righted R rs = AllByRecursion (λ (r : Right). R r.link) rs

abbrev pub Never : ℕ → Type 0
Never k = ⊥

any_right : (R : ℕ → Type 0) (rs : List Right) → Righted Never rs → Righted R rs
any_right R [] e = tt
any_right R (r ∷ rs) e = absurd e.0

filtered : (R : ℕ → Type 0) (f : Right → Bool) (rs : List Right) → Righted R rs → Righted R (filter f rs)
filtered R f [] e = tt
filtered R f (r ∷ rs) e = let more = filtered R f rs e.1 in either_way (f r) (r ∷ filter f rs) (filter f rs) (Righted R) (e.0, more) more

claimed : (C : ℕ → Type 0) (v : View) (then_ : Claim → Claim) → ((c : Claim) → (then_ c).link ≡ c.link) → (cs : List Claim) → Claiming C cs → Claiming C v.claims → Claiming C (by_claim cs (λ c. with_claim v (then_ c)) v).claims
claimed C v then_ same [] e whole = whole
claimed C v then_ same (c ∷ cs) e whole = (subst C (sym (same c)) e.0, tt)

by_rights : (P : View → Type 0) (R : ℕ → Type 0) (v : View) (rs : List Right) (f : Right → View) → Righted R rs → P v → ((r : Right) → R r.link → P (f r)) → P (by_right rs f v)
by_rights P R v [] f e same each = same
by_rights P R v (r ∷ rs) f e same each = each r e.0

-- what becomes of a right is still that of its link
module _ (P : View → Type 0) (v : View) (same : P v) (r : Right) (rights : (s : Right) → s.link ≡ r.link → P (with_right v s)) where
  reads : (found : ℕ) (stage : Stage) → P (read_next found v r stage)
  reads found (stages.Placed now) = rights (settled (record r { stage = stages.Passes now found })) refl
  reads found (stages.Reversing top at after) = either_way (found == UNCONNECTED) v (with_right v (record r { stage = stages.ReversesNext top at after found })) P same (rights (record r { stage = stages.ReversesNext top at after found }) refl)
  reads found _ = same

  turns : (stage : Stage) → P (turned_next v r stage)
  turns (stages.ReversesNext top at after before) = rights (turned_right r top at before) (either_way (before == r.last) _ _ (λ (s : Right). s.link ≡ r.link) refl refl)
  turns _ = same

  places : (stage : Stage) → P (placed_next v r stage)
  places (stages.Writes now) = rights (settled (placed_right r now)) refl
  places _ = same

  drops : (stage : Stage) → P (dropped_next v r stage)
  drops (stages.Writes now) = rights (settled (dropped_right r now _)) refl
  drops _ = same

abbrev IsNoClaim : TableStep → Type 0
IsNoClaim (OnChain (ClaimRequest id q)) = ⊥
IsNoClaim other = Unit {0}

module _ (p : Plan) (v : View) (found : ℕ) (hand : Hand) where
  -- no other step makes a claim for another link
  module _ (C : ℕ → Type 0) (e : Claiming C v.claims) where
    abbrev P : View → Type 0
    P u = Claiming C u.claims

    claims_keep : (call : TableStep) → IsNoClaim call → Claiming C (row p call found hand v).claims
    claims_keep (OnChain (ClaimRequest id q)) no_ = absurd no_
    claims_keep (OnMessage (PutMessage q heading bytes)) no_ = claimed C v (λ c. filled_claim c heading bytes) (λ c. refl) v.claims e e
    claims_keep (OnChain (Unconnect q)) no_ = claimed C v ready_claim (λ c. refl) v.claims e e
    claims_keep (OnChain (SwapHead i own)) no_ = claim_way P v.claims (exchanged found hand v) v e (λ c. either_way (nat_lt found IDLE) (queued v c found) (righted v c found hand.took hand.next) P tt tt)
    claims_keep call no_ = subst (Claiming C) (sym (claims_stay p v found hand call refl)) e

  -- no other step gives a right to write another link
  module _ (R : ℕ → Type 0) (e : Righted R v.rights) where
    abbrev Q : View → Type 0
    Q u = Righted R u.rights

    -- a right that is still that of its link
    kept : (r : Right) → R r.link → (s : Right) → s.link ≡ r.link → Righted R (s ∷ filter (λ (x : Right). not (x.link == s.link)) v.rights)
    kept r own s same = (subst R (sym same) own, filtered R (λ (x : Right). not (x.link == s.link)) v.rights e)

    rights_keep : (call : TableStep) → IsNoSwap call → Righted R (row p call found hand v).rights
    rights_keep (OnSlot (LookWord id)) no_ = by_rights Q R (looked (socket_id_slot id) found v) v.rights (looked_clean (socket_id_slot id) found v) e e
        (λ r own. either_way (vref_version found % 2 == 0) (with_right (looked (socket_id_slot id) found v) (record r { clean = true })) (looked (socket_id_slot id) found v) Q (kept r own (record r { clean = true }) refl) e)
    rights_keep (OnChain (SwapHead i own)) no_ = absurd no_
    rights_keep (OnChain (EmptyHead i last)) no_ = by_rights Q R v v.rights (emptied last found v) e e (λ r own. either_way (found == last) (without_right v r.link) (with_right v (record r { stage = stages.Reversing found found 0 })) Q
        (filtered R (λ (x : Right). not (x.link == r.link)) v.rights e) (kept r own (record r { stage = stages.Reversing found found 0 }) refl))
    rights_keep (OnChain (ReadNext q)) no_ = by_rights Q R v v.rights (λ r. read_next found v r r.stage) e e (λ r own. reads Q v e r (kept r own) found r.stage)
    rights_keep (OnChain (ReverseNext q value)) no_ = by_rights Q R v v.rights (λ r. turned_next v r r.stage) e e (λ r own. turns Q v e r (kept r own) r.stage)
    rights_keep (OnChain (FreeRequest q g)) no_ = by_rights Q R v v.rights (freed_next v) e e (λ r own. kept r own (record r { stage = freed_stage r.stage }) refl)
    rights_keep (OnPlace (StorePlace l k n)) no_ = by_rights Q R v v.rights (λ r. placed_next v r r.stage) e e (λ r own. places Q v e r (kept r own) r.stage)
    rights_keep (OnPlace (DropPlace l k n)) no_ = by_rights Q R v v.rights (λ r. dropped_next v r r.stage) e e (λ r own. drops Q v e r (kept r own) r.stage)
    rights_keep call no_ = subst (Righted R) (sym (rights_stay p v found hand call refl)) e

    -- nor do moves and puts
    own_keep : (then_ : Right → Right) → ((r : Right) → (then_ r).link ≡ r.link) → Righted R (by_right v.rights (λ r. with_right v (then_ r)) v).rights
    own_keep then_ same = by_rights Q R v v.rights (λ r. with_right v (then_ r)) e e (λ r own. kept r own (then_ r) (same r))

-- its one right is given up
single : (r : Right) → Righted Never (filter (λ (x : Right). not (x.link == r.link)) (r ∷ []))
single r = subst (λ b. Righted Never (cond (not b) (r ∷ []) [])) (sym (eq-eqb r.link r.link refl)) tt

-- ## A seat

-- a seat has to do with links of which L is said alone, and looks at no old life as one that is live
module _ (p : Plan) (L : ℕ → Type 0) (Old : ℕ → ℕ → Type 0) where
  abbrev pub claims_of : Mode → ℕ → Type 0
  claims_of Claims k = L k
  claims_of other k = ⊥

  abbrev pub rights_of : Mode → ℕ → Type 0
  rights_of Writes k = L k
  rights_of other k = ⊥

  -- the life that its last look found live is none of the old ones
  abbrev pub IsNew : Mode → Type 0
  IsNew (Saw id) = Old (socket_id_slot id) (socket_id_version id) → ⊥
  IsNew other = Unit {0}

  -- its claims and rights are for such links, and where it has nothing in hand it has none
  pub record Stands (m : Mode) (v : View) : Type 0 where
    pub claims : Claiming (claims_of m) v.claims
    pub rights : Righted (rights_of m) v.rights
    pub new : IsNew m

  abbrev pub AllStand : Core → List View → Type 0
  AllStand c vs = (j : ℕ) (seat : SeatState) (v : View) → get_elem? c.seats j ≡ some seat → get_elem? vs j ≡ some v → (m : Mode) × Looks m seat.program × Stands m v

  pub calm_none : (m : Mode) → IsCalm m → (v : View) → Stands m v → Stands Idle v
  calm_none Idle calm v s = s
  calm_none (Saw id) calm v s = record { claims = s.claims; rights = s.rights; new = tt }
  calm_none Claims calm v s = absurd calm
  calm_none Writes calm v s = absurd calm

  eased : (m n : Mode) (v : View) → (n ≡ m) ⊎ (IsCalm m × (n ≡ Idle)) → Stands m v → Stands n v
  eased m n v (inl e) s = subst (λ k. Stands k v) (sym e) s
  eased m n v (inr e) s = subst (λ k. Stands k v) (sym e.1) (calm_none m e.0 v s)

  -- ## A step

  module _ (v : View) (found : ℕ) (hand : Hand) where
    looks_at : (id : ℕ) → (vref_version found % 2 ≡ 0 → Old (socket_id_slot id) (socket_id_version id) → ⊥) → (m : Mode) → Stands m v → Stands (seen id found m) (row p (OnSlot (LookWord id)) found hand v)
    looks_at id live Claims s = record { claims = claims_keep p v found hand L s.claims (OnSlot (LookWord id)) tt; rights = rights_keep p v found hand Never s.rights (OnSlot (LookWord id)) tt; new = tt }
    looks_at id live Writes s = record { claims = claims_keep p v found hand Never s.claims (OnSlot (LookWord id)) tt; rights = rights_keep p v found hand L s.rights (OnSlot (LookWord id)) tt; new = tt }
    looks_at id live m s = by_even (vref_version found % 2 == 0) refl
      where
        by_even : (b : Bool) → (vref_version found % 2 == 0) ≡ b → Stands (cond b (Saw id) Idle) (row p (OnSlot (LookWord id)) found hand v)
        by_even true e = record { claims = claims_keep p v found hand Never s.claims (OnSlot (LookWord id)) tt; rights = rights_keep p v found hand Never s.rights (OnSlot (LookWord id)) tt; new = live (eqb-true _ 0 e) }
        by_even false e = record { claims = claims_keep p v found hand Never s.claims (OnSlot (LookWord id)) tt; rights = rights_keep p v found hand Never s.rights (OnSlot (LookWord id)) tt; new = tt }

    claims_one : (id q : ℕ) → ((Old (socket_id_slot id) (socket_id_version id) → ⊥) → L hand.link) → Stands (Saw id) v → Stands (cond (found % 2 == 0) Claims (Saw id)) (row p (OnChain (ClaimRequest id q)) found hand v)
    claims_one id q given s = by_free (found % 2 == 0)
      where
        by_free : (b : Bool) → Stands (cond b Claims (Saw id)) (cond b (with_claim (met_link (socket_id_slot id) (socket_id_version id) hand.link v) (new_claim hand.link q found)) v)
        by_free true = record { claims = (given s.new, tt); rights = s.rights; new = tt }
        by_free false = s

    swaps : (i own : ℕ) → Stands Claims v → Stands (cond (nat_lt found IDLE) Idle Writes) (row p (OnChain (SwapHead i own)) found hand v)
    swaps i own s = by_claims v.claims refl s.claims (nat_lt found IDLE)
      where
        by_claims : (cs : List Claim) → v.claims ≡ cs → Claiming L cs → (b : Bool) → Stands (cond b Idle Writes) (by_claim cs (λ c. cond b (queued v c found) (righted v c found hand.took hand.next)) v)
        by_claims [] e a true = record { claims = subst (Claiming Never) (sym e) tt; rights = s.rights; new = tt }
        by_claims [] e a false = record { claims = subst (Claiming Never) (sym e) tt; rights = any_right L v.rights s.rights; new = tt }
        by_claims (c ∷ cs) e a true = record { claims = tt; rights = s.rights; new = tt }
        by_claims (c ∷ cs) e a false = record { claims = tt; rights = (a.0, any_right L v.rights s.rights); new = tt }

    empties : (i last : ℕ) → May p v (OnChain (EmptyHead i last)) → Stands Writes v → Stands (cond (found == last) Idle Writes) (row p (OnChain (EmptyHead i last)) found hand v)
    empties i last may s = subst (λ rs. Stands (cond (found == last) Idle Writes) (by_right rs (emptied last found v) v)) (sym may.1.1) (by_hit (found == last))
      where
        r : Right
        r = may.1.0.mine.right

        own : Righted L (r ∷ [])
        own = subst (Righted L) may.1.1 s.rights

        by_hit : (b : Bool) → Stands (cond b Idle Writes) (cond b (without_right v r.link) (with_right v (record r { stage = stages.Reversing found found 0 })))
        by_hit true = record { claims = s.claims; rights = subst (λ rs. Righted Never (filter (λ (x : Right). not (x.link == r.link)) rs)) (sym may.1.1) (single r); new = tt }
        by_hit false = record { claims = s.claims; rights = (own.0, filtered L (λ (x : Right). not (x.link == r.link)) v.rights s.rights); new = tt }

    pub step_stands : (call : TableStep) (next : ℕ → Program) (m : Mode) → Looks m (Do call next) → May p v call
        → ((id : ℕ) → call ≡ OnSlot (LookWord id) → vref_version found % 2 ≡ 0 → Old (socket_id_slot id) (socket_id_version id) → ⊥)
        → ((id q : ℕ) → call ≡ OnChain (ClaimRequest id q) → (Old (socket_id_slot id) (socket_id_version id) → ⊥) → L hand.link)
        → Stands m v → (n : Mode) × Looks n (next found) × Stands n (row p call found hand v)
    step_stands (OnSlot (LookWord id)) next m x may live given s = (seen id found m, x found, looks_at id (live id refl) m s)
    step_stands (OnChain (ClaimRequest id q)) next m x may live given s = (cond (found % 2 == 0) Claims (Saw id), x.1 found, claims_one id q (given id q refl) (subst (λ k. Stands k v) x.0 s))
    step_stands (OnChain (SwapHead i own)) next m x may live given s = (cond (nat_lt found IDLE) Idle Writes, x.1 found, swaps i own (subst (λ k. Stands k v) x.0 s))
    step_stands (OnChain (EmptyHead i last)) next m x may live given s = (cond (found == last) Idle Writes, x.1 found, empties i last may (subst (λ k. Stands k v) x.0 s))
    step_stands call next m x may live given s = (m, x found, record { claims = claims_keep p v found hand (claims_of m) s.claims call tt; rights = rights_keep p v found hand (rights_of m) s.rights call tt; new = s.new })

  -- a move or a put
  own_stands : (v : View) (m : Mode) (then_ : Right → Right) → ((r : Right) → (then_ r).link ≡ r.link) → Stands m v → Stands m (by_right v.rights (λ r. with_right v (then_ r)) v)
  own_stands v m then_ same s = record {
    claims = right_way (λ (u : View). Claiming (claims_of m) u.claims) v.rights (λ r. with_right v (then_ r)) v s.claims (λ r. s.claims);
    rights = own_keep p v 0 (record { link = 0; took = []; next = 0 }) (rights_of m) s.rights then_ same;
    new = s.new;
  }

  put_stands : (v : View) (m : Mode) (answer : Put) → Stands m v → Stands m (took_bytes answer v)
  put_stands v m (Took n) s = own_stands v m (λ r. put_right r n) (λ r. refl) s
  put_stands v m Again s = s
  put_stands v m Failed s = s

  -- ## A tick

  module _ (c : Core) (vs : List View) (i : ℕ) (all : AllStand c vs) where
    -- the seat goes on with such a program, and has such a view
    goes_on : (m : Mode) (program : Program) (w : View) → Looks m program → Stands m w → (ws : List Retry) (hand : List Home) (j : ℕ) (s : SeatState) (u : View)
        → get_elem? (set c.seats i (record { program = next_step (resolved ws program); hand = hand })) j ≡ some s → get_elem? (set vs i w) j ≡ some u → (n : Mode) × Looks n s.program × Stands n u
    goes_on m program w looks stands ws hand j s u at at_u = ⊎_elim
        (λ a. ⊎_elim (λ b. subst (λ (z : SeatState). (n : Mode) × Looks n z.program × Stands n u) a.1 (subst (λ (y : View). (n : Mode) × Looks n (next_step (resolved ws program)) × Stands n y) b.1
        (let y = looks_next m ws program looks in (y.0, y.2, eased m y.0 w y.1 stands)))) (λ b. absurd (b.0 a.0)) (at_set vs i j w u at_u))
        (λ a. ⊎_elim (λ b. absurd (a.0 b.0)) (λ b. all j s u a.1 b.1) (at_set vs i j w u at_u))
        (at_set c.seats i j (record { program = next_step (resolved ws program); hand = hand }) s at)

  -- who looks at an old life finds it failed, and the link of each other one is L
  pub record Tells (c : Core) (vs : List View) : Type 0 where
    pub live : (j : ℕ) (v : View) (id : ℕ) → get_elem? vs j ≡ some v → May p v (OnSlot (LookWord id)) → vref_version (get_or c.words (ref_index (socket_id_slot id)) 0) % 2 ≡ 0 → Old (socket_id_slot id) (socket_id_version id) → ⊥
    pub given : (j : ℕ) (v : View) (id q : ℕ) → get_elem? vs j ≡ some v → May p v (OnChain (ClaimRequest id q)) → (Old (socket_id_slot id) (socket_id_version id) → ⊥) → L (link_in c.words (socket_id_slot id))

  pub stand_ticks : (c : Core) (vs : List View) (m : Moment) → Sound p c vs → IsAnswered c m → IsFitting p c m → Tells c vs → AllStand c vs → AllStand (ticked p c m) (views_after p c vs m)
  stand_ticks c vs m sound answered fitting tells all = tick_cases p c vs m sound answered AllStand all
      (λ seat v call next at_seat at_view is goes. let x = all m.seat seat v at_seat at_view in
      let y = step_stands v (found_at c.words (word_of p call)) (hand_at p c.words c.homes call) call next x.0 (subst (Looks x.0) is (looks_first x.0 seat.program x.1)) goes.0
      (λ id e even. tells.live m.seat v id at_view (subst (May p v) e goes.0) (subst (λ k. vref_version (found_at c.words (word_of p k)) % 2 ≡ 0) e even))
      (λ id q e new. subst (λ k. L (hand_at p c.words c.homes k).link) (sym e) (tells.given m.seat v id q at_view (subst (May p v) e goes.0) new)) x.2 in
      goes_on c vs m.seat all y.0 (next (found_at c.words (word_of p call))) (row p call (found_at c.words (word_of p call)) (hand_at p c.words c.homes call) v) y.1 y.2 (waiting_at c.calls.waiting m.seat) (hand_after p call c.homes seat.hand))
      (λ seat v q next heading bytes at_seat at_view is goes at_home. let x = all m.seat seat v at_seat at_view in
      goes_on c vs m.seat all x.0 (next heading bytes) (took_message heading bytes v) (subst (Looks x.0) is (looks_first x.0 seat.program x.1) heading bytes) (own_stands v x.0 (λ r. taken_right r heading bytes) (λ r. refl) x.2) (waiting_at c.calls.waiting m.seat) seat.hand)
      (λ seat v k next took n at_seat at_view is goes at_home. let x = all m.seat seat v at_seat at_view in
      goes_on c vs m.seat all x.0 (next n) (link_away v) (subst (Looks x.0) is (looks_first x.0 seat.program x.1) n) (own_stands v x.0 (λ r. record r { at_home = false }) (λ r. refl) x.2) (waiting_at c.calls.waiting m.seat) (lies_at c.homes (link_place p k) ++ seat.hand))
      (λ seat v k n after at_seat at_view is goes. let x = all m.seat seat v at_seat at_view in
      goes_on c vs m.seat all x.0 after (link_home_again v) (subst (Looks x.0) is (looks_first x.0 seat.program x.1)) (own_stands v x.0 (λ r. record r { at_home = true }) (λ r. refl) x.2) (waiting_at c.calls.waiting m.seat) (others_of seat.hand))
      (λ seat v k asked bytes next answer at_seat at_view is goes answer_is fits. let x = all m.seat seat v at_seat at_view in
      goes_on c vs m.seat all x.0 (next answer) (took_bytes answer v) (subst (Looks x.0) is (looks_first x.0 seat.program x.1) answer) (put_stands v x.0 answer x.2) (waiting_at c.calls.waiting m.seat) (onto_first (fed bytes answer) seat.hand))
      (λ seat v k next answer at_seat at_view is goes answer_is j s u at at_u. let x = all m.seat seat v at_seat at_view in
      goes_on c vs m.seat all x.0 (next answer) v (subst (Looks x.0) is (looks_first x.0 seat.program x.1) answer) x.2 (waiting_at c.calls.waiting m.seat) seat.hand j s u at (ap (λ us. get_elem? us j) (set_again vs m.seat v at_view) ∙ at_u))
      (λ seat v step next found at_seat at_view is goes found_is j s u at at_u. let x = all m.seat seat v at_seat at_view in
      goes_on c vs m.seat all x.0 (next found) v (subst (Looks x.0) is (looks_first x.0 seat.program x.1) found) x.2 _ seat.hand j s u at (ap (λ us. get_elem? us j) (set_again vs m.seat v at_view) ∙ at_u))
