-- What each step on the sockets does to the claims and accepted messages of its seat.
use Rattle.std.proofs.Common.{◌≡◌, ℕ, ◌+◌, ◌-◌, ◌%◌, ◌≤◌, ◌==◌, true, false, nat_lt, inl, List, [], ◌∷◌, ◌++◌, refl, sym, ap, ◌∙◌, subst, arith}
use Rattle.std.specs.List.{AllByRecursion}
use Rattle.std.proofs.lemmas.Bool.{true≢false}
use Rattle.sock_words.specs.declared.plain.Plan.{Plan}
use Rattle.sock_model.specs.declared.chain.Claim.{Claim}
use Rattle.sock_model.specs.declared.chain.Entry.{Entry}
use Rattle.sock_model.specs.declared.chain.Right.{Right}
use Rattle.sock_model.specs.declared.view.View.{View}
use Rattle.sock_model.specs.declared.view.Hand.{Hand}
use Rattle.sock_model.specs.ChainRows.{with_claim, entry_of, more, queued, righted, ready_claim, filled_claim}
use Rattle.call_causes.specs.Below.programs_allowed.specs.slot_steps.proofs.SlotWeightSums.{total-append}
use Rattle.sock_message.specs.Asked.{Asked}
use Rattle.seat_programs.specs.TableSteps.{TableStep, OnChain, OnMessage, ClaimRequest, PutMessage, Unconnect, SwapHead}
use Rattle.seat_programs.specs.StepTables.{row}
use Rattle.seat_programs.specs.StepViews.{by_claim}
use Rattle.seat_programs.specs.StepsOfChain.{exchanged}
use Rattle.seat_programs.specs.StepTables.{May}
use Rattle.outcome_causes.specs.program_steps.proofs.TickCases.{with_rights}
use Rattle.outcome_causes.specs.program_steps.proofs.Leaves.{is_claiming, claim_way, claims_stay, lists_stay}
use Rattle.call_causes.specs.Below.outcome_stories.proofs.Tests.{split}
use Rattle.accept_counts.specs.AttemptCounts.{of_heading, of_claim, of_entry, of_view, HeadFits, ClaimFits, EntryFits, ViewFits}
use Rattle.sock_words.specs.PackedWords.{IDLE}
use Rattle.sock_words.specs.Totals.{total}

module _ (v : View) where
  abbrev pub Same : View → Type 0
  Same u = (u.claims ≡ v.claims) × (u.lists ≡ v.lists)

  pub row_same : (p : Plan) (found : ℕ) (hand : Hand) (call : TableStep) → is_claiming call ≡ false → Same (row p call found hand v)
  row_same p found hand (OnChain (SwapHead i own)) n = absurd (true≢false n)
  row_same p found hand call n = (claims_stay p v found hand call n, lists_stay p v found hand call refl)

  -- ## How often an attempt stands there

  abbrev pub put_of : ℕ → ℕ → TableStep → ℕ
  put_of id n (OnMessage (PutMessage q heading bytes)) = of_heading id n heading
  put_of id n other = 0

  module _ (id n : ℕ) where
    abbrev AtMost : ℕ → View → Type 0
    AtMost k u = of_view id n u ≤ of_view id n v + k

    same_count : (u : View) → Same u → AtMost 0 u
    same_count u s = let a : total (of_claim id n) u.claims ≡ total (of_claim id n) v.claims = ap (total (of_claim id n)) s.0 in let b : total (total (of_entry id n)) u.lists ≡ total (total (of_entry id n)) v.lists = ap (total (total (of_entry id n))) s.1 in omega (arith, a, b)

    more_count : (ls : List (List Entry)) (e : Entry) → total (total (of_entry id n)) (more ls e) ≤ total (total (of_entry id n)) ls + of_entry id n e
    more_count [] e = omega arith
    more_count (l ∷ ls) e = let a : total (of_entry id n) (l ++ e ∷ []) ≡ total (of_entry id n) l + (of_entry id n e + 0) = total-append (of_entry id n) l (e ∷ []) in omega (arith, a)

    ready_count : (cs : List Claim) → v.claims ≡ cs → AtMost 0 (by_claim cs (λ c. with_claim v (ready_claim c)) v)
    ready_count [] e = omega arith
    ready_count (x ∷ cs) e = let a : total (of_claim id n) v.claims ≡ of_claim id n x + total (of_claim id n) cs = ap (total (of_claim id n)) e in omega (arith, a)

    swap_count : (found : ℕ) (hand : Hand) (cs : List Claim) → v.claims ≡ cs → AtMost 0 (by_claim cs (exchanged found hand v) v)
    swap_count found hand [] e = omega arith
    swap_count found hand (x ∷ cs) e = let a : total (of_claim id n) v.claims ≡ of_claim id n x + total (of_claim id n) cs = ap (total (of_claim id n)) e in
        split (nat_lt found IDLE) (queued v x found) (righted v x found hand.took hand.next) (AtMost 0)
        (let b = more_count v.lists (entry_of x found) in omega (arith, a, b)) (let b = more_count v.lists (entry_of x (found - IDLE)) in omega (arith, a, b))

    pub row_count : (p : Plan) (found : ℕ) (hand : Hand) (call : TableStep) → of_view id n (row p call found hand v) ≤ of_view id n v + put_of id n call
    row_count p found hand (OnChain (ClaimRequest i q)) = split (found % 2 == 0) _ v (AtMost 0) (omega arith) (omega arith)
    row_count p found hand (OnMessage (PutMessage q heading bytes)) = claim_way (AtMost (of_heading id n heading)) v.claims (λ c. with_claim v (filled_claim c heading bytes)) v (omega arith) (λ c. omega arith)
    row_count p found hand (OnChain (Unconnect q)) = ready_count v.claims refl
    row_count p found hand (OnChain (SwapHead i own)) = swap_count found hand v.claims refl
    row_count p found hand call = same_count (row p call found hand v) (row_same p found hand call refl)

    pub rights_count : (u : View) (rights : List Right) → u ≡ with_rights v rights → of_view id n u ≤ of_view id n v
    rights_count u rights e = subst (λ x. of_view id n x ≤ of_view id n v) (sym e) (omega arith)

  -- ## Headings

  module _ (is_call : Asked → Type 0) (ids : ℕ → ℕ) (p : Plan) (fits : ViewFits is_call ids p v) where
    abbrev Fits : View → Type 0
    Fits u = ViewFits is_call ids p u

    same_fits : (u : View) → Same u → Fits u
    same_fits u s = (subst (AllByRecursion (ClaimFits is_call ids p)) (sym s.0) fits.0, subst (AllByRecursion (AllByRecursion (EntryFits is_call ids p))) (sym s.1) fits.1)

    all_more : (l : List Entry) (e : Entry) → AllByRecursion (EntryFits is_call ids p) l → EntryFits is_call ids p e → AllByRecursion (EntryFits is_call ids p) (l ++ e ∷ [])
    all_more [] e all one = (one, tt)
    all_more (x ∷ l) e all one = (all.0, all_more l e all.1 one)

    more_fits : (ls : List (List Entry)) (e : Entry) → AllByRecursion (AllByRecursion (EntryFits is_call ids p)) ls → EntryFits is_call ids p e → AllByRecursion (AllByRecursion (EntryFits is_call ids p)) (more ls e)
    more_fits [] e all one = tt
    more_fits (l ∷ ls) e all one = (all_more l e all.0 one, all.1)

    first_fits : (cs : List Claim) (x : Claim) (xs : List Claim) → v.claims ≡ cs → cs ≡ x ∷ xs → ClaimFits is_call ids p x
    first_fits cs x xs e is = (subst (AllByRecursion (ClaimFits is_call ids p)) (e ∙ is) fits.0).0

    ready_fits : (cs : List Claim) → v.claims ≡ cs → Fits (by_claim cs (λ c. with_claim v (ready_claim c)) v)
    ready_fits [] e = fits
    ready_fits (x ∷ cs) e = ((first_fits (x ∷ cs) x cs e refl, tt), fits.1)

    swap_fits : (found : ℕ) (hand : Hand) (cs : List Claim) → v.claims ≡ cs → ((x : Claim) (xs : List Claim) → cs ≡ x ∷ xs → x.filled ≡ true) → Fits (by_claim cs (exchanged found hand v) v)
    swap_fits found hand [] e filled = fits
    swap_fits found hand (x ∷ cs) e filled = let one = first_fits (x ∷ cs) x cs e refl in let body = one.1 (filled x cs refl) in
        split (nat_lt found IDLE) (queued v x found) (righted v x found hand.took hand.next) Fits (tt, more_fits v.lists (entry_of x found) fits.1 (one.0, body)) (tt, more_fits v.lists (entry_of x (found - IDLE)) fits.1 (one.0, body))

    abbrev pub PutsFit : TableStep → Type 0
    PutsFit (OnMessage (PutMessage q heading bytes)) = HeadFits is_call ids heading bytes
    PutsFit other = Unit {0}

    filled_of : (i own : ℕ) → May p v (OnChain (SwapHead i own)) → (x : Claim) (xs : List Claim) → v.claims ≡ x ∷ xs → x.filled ≡ true
    filled_of i own may x xs e = let m = may.1 in let same : m.claim ∷ [] ≡ x ∷ xs = sym m.claims ∙ e in let one : m.claim ≡ x = cc in ap (λ (c : Claim). c.filled) (sym one) ∙ m.is_filled

    pub row_fits : (found : ℕ) (hand : Hand) (call : TableStep) → May p v call → PutsFit call → ViewFits is_call ids p (row p call found hand v)
    row_fits found hand (OnChain (ClaimRequest i q)) may h = split (found % 2 == 0) _ v Fits (((inl (refl, refl), λ e. absurd (true≢false (sym e))), tt), fits.1) fits
    row_fits found hand (OnMessage (PutMessage q heading bytes)) may h = claim_way Fits v.claims (λ c. with_claim v (filled_claim c heading bytes)) v fits (λ c. (((h, λ _. (may.2, may.3)), tt), fits.1))
    row_fits found hand (OnChain (Unconnect q)) may h = ready_fits v.claims refl
    row_fits found hand (OnChain (SwapHead i own)) may h = swap_fits found hand v.claims refl (filled_of i own may)
    row_fits found hand call may h = same_fits (row p call found hand v) (row_same p found hand call refl)

    pub rights_fit : (u : View) (rights : List Right) → u ≡ with_rights v rights → ViewFits is_call ids p u
    rights_fit u rights e = subst (ViewFits is_call ids p) (sym e) fits
