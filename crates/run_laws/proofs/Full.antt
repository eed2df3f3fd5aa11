-- No message is empty: neither one of a filled claim nor one that a link accepted.
use Rattle.std.proofs.Common.{◌≡◌, ◌≢◌, ℕ, zero, suc, ◌%◌, ◌<◌, ◌≤◌, ◌++◌, ◌⊎◌, ⊎_elim, Bool, true, false, cond, eqb, nat_lt, List, [], ◌∷◌, length, set, refl, sym, ap, ◌∙◌, subst, arith}
use Rattle.std.proofs.lemmas.Bool.{true≢false}
use Rattle.std.proofs.lemmas.List.{append_assoc}
use mathlib.Core.List.{cons-ne-nil}
use mathlib.Core.Option.{some, some-injective}
use lib.ListN.{get_elem?}
use Rattle.atomic_table.proofs.Lists.{at_set}
use Rattle.sock_words.specs.declared.plain.Plan.{Plan}
use Rattle.sock_words.specs.PackedWords.{socket_id_slot, socket_id_version, IDLE}
use Rattle.sock_model.specs.declared.chain.Claim.{Claim}
use Rattle.sock_model.specs.declared.chain.Entry.{Entry}
use Rattle.sock_model.specs.declared.chain.Right.{Right}
use Rattle.sock_model.specs.declared.view.View.{View}
use Rattle.sock_model.specs.declared.view.Hand.{Hand}
use Rattle.sock_model.specs.ChainRows.{with_claim, queued, righted, taken_right}
use Rattle.sock_model.specs.Deliveries.{whole}
use Rattle.sock_model.specs.SlotRows.{met_link}
use Rattle.seat_programs.specs.TableSteps.{TableStep, OnChain, OnMessage, ClaimRequest, PutMessage, Unconnect, SwapHead}
use Rattle.seat_programs.specs.Cores.{Core, found_at}
use Rattle.seat_programs.specs.StepTables.{word_of}
use Rattle.seat_programs.specs.Ticks.{Moment, IsAnswered}
use Rattle.seat_programs.specs.StepTables.{row, hand_at}
use Rattle.seat_programs.specs.StepViews.{by_claim}
use Rattle.seat_programs.specs.StepsOfChain.{new_claim, exchanged}
use Rattle.seat_programs.specs.StepTables.{May}
use Rattle.programs_allowed.specs.program_steps.specs.SoundSeats.{Sound, views_after}
use Rattle.programs_allowed.specs.program_steps.proofs.Leaves.{claims_stay}
use Rattle.programs_allowed.specs.program_steps.proofs.TickCases.{with_rights, right_rights, put_rights, tick_cases}

-- ## Claims

-- a claim that is filled has some byte
abbrev pub IsFull : View → Type 0
IsFull v = (c : Claim) (cs : List Claim) → v.claims ≡ c ∷ cs → c.filled ≡ true → c.bytes ≢ []

abbrev pub AreFull : List View → Type 0
AreFull views = (i : ℕ) (v : View) → get_elem? views i ≡ some v → IsFull v

either : (b : Bool) (x y : View) → IsFull x → IsFull y → IsFull (cond b x y)
either true x y p q = p
either false x y p q = q

first_is : (c d : Claim) (cs ds : List Claim) → c ∷ cs ≡ d ∷ ds → c ≡ d
first_is c d cs ds e = cc

full_with : (v : View) (c : Claim) → (c.filled ≡ true → c.bytes ≢ []) → IsFull (with_claim v c)
full_with v c f d ds e = subst (λ (x : Claim). x.filled ≡ true → x.bytes ≢ []) (first_is c d [] ds e) f

by_claim_full : (v : View) → IsFull v → (cs : List Claim) → v.claims ≡ cs → (then_ : Claim → View) → ((c : Claim) (ds : List Claim) → v.claims ≡ c ∷ ds → IsFull (then_ c)) → IsFull (by_claim cs then_ v)
by_claim_full v f [] e then_ each = f
by_claim_full v f (c ∷ cs) e then_ each = each c cs e

pub none_full : (v : View) → v.claims ≡ [] → IsFull v
none_full v none_ c cs e = absurd (cons-ne-nil c cs (sym e ∙ none_))

row_full : (p : Plan) (call : TableStep) (found : ℕ) (hand : Hand) (v : View) → May p v call → IsFull v → IsFull (row p call found hand v)
row_full p (OnChain (ClaimRequest id q)) found hand v may f = either (eqb (found % 2) 0) (with_claim (met_link (socket_id_slot id) (socket_id_version id) hand.link v) (new_claim hand.link q found)) v
    (full_with (met_link (socket_id_slot id) (socket_id_version id) hand.link v) (new_claim hand.link q found) (λ e. absurd (true≢false (sym e)))) f
row_full p (OnMessage (PutMessage q heading bytes)) found hand v may f = by_claim_full v f v.claims refl (λ c. with_claim v (record c { filled = true; heading = heading; bytes = bytes }))
    (λ c ds e. full_with v (record c { filled = true; heading = heading; bytes = bytes }) (λ y. may.3))
row_full p (OnChain (Unconnect q)) found hand v may f = by_claim_full v f v.claims refl (λ c. with_claim v (record c { ready = true })) (λ c ds e. full_with v (record c { ready = true }) (f c ds e))
row_full p (OnChain (SwapHead i own)) found hand v may f = by_claim_full v f v.claims refl (exchanged found hand v)
    (λ c ds e. either (nat_lt found IDLE) (queued v c found) (righted v c found hand.took hand.next) (none_full (queued v c found) refl) (none_full (righted v c found hand.took hand.next) refl))
row_full p call found hand v may f = λ c cs e. f c cs (sym (claims_stay p v found hand call refl) ∙ e)

module _ (p : Plan) (c : Core) (views : List View) (m : Moment) (sound : Sound p c views) (answered : IsAnswered c m) (full : AreFull views) where
  set_full : (v w : View) → IsFull w → AreFull (set views m.seat w)
  set_full v w f i u at = ⊎_elim (λ r. subst IsFull r.1 f) (λ r. full i u r.1) (at_set views m.seat i w u at)

  moved : (v w : View) → get_elem? views m.seat ≡ some v → (rights : List Right) × (w ≡ with_rights v rights) → AreFull (set views m.seat w)
  moved v w here x = set_full v w (subst IsFull (sym x.1) (full m.seat v here))

  pub full_tick : AreFull (views_after p c views m)
  full_tick = tick_cases p c views m sound answered (λ d us. AreFull us) full
      (λ seat v call next at_seat here is goes. let w : View = row p call (found_at c.words (word_of p call)) (hand_at p c.words c.homes call) v in
      set_full v w (row_full p call (found_at c.words (word_of p call)) (hand_at p c.words c.homes call) v goes.0 (full m.seat v here)))
      (λ seat v q next heading bytes at_seat here is goes lies. moved v _ here (right_rights v v.rights (λ r. taken_right r heading bytes)))
      (λ seat v k next took n at_seat here is goes lies. moved v _ here (right_rights v v.rights (λ r. record r { at_home = false })))
      (λ seat v k n after at_seat here is goes. moved v _ here (right_rights v v.rights (λ r. record r { at_home = true })))
      (λ seat v k asked bytes next answer at_seat here is goes answer_is fits. moved v _ here (put_rights v answer))
      (λ seat v k next answer at_seat here is goes answer_is. full)
      (λ seat v s next found at_seat here is goes found_is. full)

-- ## Orders

-- what a link took of such messages goes on, where it hasn't taken the last of them whole
pub cut_off : (es : List Entry) → ((i : ℕ) (e : Entry) → get_elem? es i ≡ some e → e.bytes ≢ []) → (kept n : ℕ) → kept ≤ n → n < length es → (part : List ℕ)
    → ((part ≡ []) ⊎ ((e : Entry) × (rest : List ℕ) × (get_elem? es kept ≡ some e) × (e.bytes ≡ part ++ rest) × (rest ≢ []))) → (rest : List ℕ) × (whole es (suc n) ≡ (whole es kept ++ part) ++ rest) × (rest ≢ [])
cut_off [] each kept n low less part of = absurd (omega arith)
cut_off (e ∷ es) each zero n low less part of = ⊎_elim
    (λ none_. (e.bytes ++ whole es n, ap (λ l. l ++ (e.bytes ++ whole es n)) (sym none_), some_append e.bytes (whole es n) (each 0 e refl)))
    (λ x. let rest : List ℕ = x.1 in (rest ++ whole es n, ap (λ l. l ++ whole es n) (ap (λ (y : Entry). y.bytes) (some-injective e x.0 x.2) ∙ x.3) ∙ append_assoc part rest (whole es n), some_append rest (whole es n) x.4)) of
  where
    some_append : (a b : List ℕ) → a ≢ [] → a ++ b ≢ []
    some_append [] b ne = absurd (ne refl)
    some_append (x ∷ a) b ne = cons-ne-nil x (a ++ b)
cut_off (e ∷ es) each (suc kept) zero low less part of = absurd (omega arith)
cut_off (e ∷ es) each (suc kept) (suc n) low less part of = let x = cut_off es (λ i d at. each (suc i) d at) kept n (omega arith) (omega arith) part of in
    (x.0, ap (λ l. e.bytes ++ l) x.1 ∙ (ap (λ l. e.bytes ++ l) (append_assoc (whole es kept) part x.0) ∙ (sym (append_assoc e.bytes (whole es kept) (part ++ x.0)) ∙ (sym (append_assoc (e.bytes ++ whole es kept) part x.0)))), x.2)
