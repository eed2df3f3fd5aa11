-- What a step makes of the claim and of the accepted messages of its seat.
use Rattle.std.proofs.Common.{◌≡◌, ◌≢◌, ℕ, ◌+◌, ◌-◌, ◌%◌, Bool, true, false, cond, eq-eqb, nat_lt, List, [], ◌∷◌, ◌++◌, inr, sym, refl, ap, ◌∙◌, subst}
use Rattle.std.specs.List.{AllByRecursion}
use Rattle.std.proofs.lemmas.Bool.{true≢false}
use Rattle.sock_words.specs.PackedWords.{socket_id_version, socket_id_slot, IDLE}
use Rattle.sock_words.specs.declared.plain.Plan.{Plan}
use Rattle.sock_model.specs.declared.chain.Claim.{Claim}
use Rattle.sock_model.specs.declared.chain.Heading.{Heading}
use Rattle.sock_model.specs.declared.chain.Entry as chain
use Rattle.sock_model.specs.declared.view.View.{View}
use Rattle.sock_model.specs.declared.view.Hand.{Hand}
use Rattle.sock_model.specs.ChainRows.{with_claim, entry_of, more, queued, righted, ready_claim, filled_claim}
use Rattle.sock_model.specs.SlotRows.{met_link}
use Rattle.seat_programs.specs.declared.task.Op.TheVariants as ops
use Rattle.seat_programs.specs.declared.task.Task.{Task}
use Rattle.seat_programs.specs.TableSteps.{TableStep, OnName, OnChain, OnMessage, LoadName, ClaimRequest, PutMessage, Unconnect, SwapHead}
use Rattle.seat_programs.specs.SendAndWritePrograms.{heading_of}
use Rattle.seat_programs.specs.StepTables.{row}
use Rattle.seat_programs.specs.StepViews.{by_claim}
use Rattle.seat_programs.specs.StepsOfChain.{exchanged, new_claim}
use Rattle.seat_programs.specs.StepTables.{May}
use Rattle.outcome_stories.specs.program_steps.proofs.Leaves.{lists_stay}
use Rattle.outcome_stories.specs.OperationStories.{Entry, Event, In, trace_of}
use Rattle.outcome_stories.specs.Explains.{IsCallReadied, IsReadied, swaps, swapped, step}
use Rattle.outcome_stories.specs.StoryStepCauses.{WasGiven}
use Rattle.outcome_stories.specs.KeptStory.{is_of_send, of_sends, EndsIn, IsFor, AreClaims}

-- ## Steps but the exchange of a head

abbrev pub IsNoSwap : TableStep → Type 0
IsNoSwap (OnChain (SwapHead i own)) = ⊥
IsNoSwap other = Unit {0}

pub no_swap : (call : TableStep) (b : Bool) → IsNoSwap call → swaps call b ≡ b
no_swap (OnChain (SwapHead i own)) b n = absurd n
no_swap _ b n = refl

pub row_lists : (p : Plan) (v : View) (found : ℕ) (hand : Hand) (call : TableStep) → IsNoSwap call → (row p call found hand v).lists ≡ v.lists
row_lists p v found hand (OnChain (SwapHead i own)) n = absurd n
row_lists p v found hand call n = lists_stay p v found hand call refl

-- ## The claim

top_call : (a b : Entry) (xs ys : List Entry) → a ∷ xs ≡ b ∷ ys → a.call ≡ b.call
top_call a b xs ys e = let q : a ≡ b = cc in ap (λ (x : Entry). x.call) q

top_found : (a b : Entry) (xs ys : List Entry) → a ∷ xs ≡ b ∷ ys → a.found ≡ b.found
top_found a b xs ys e = let q : a ≡ b = cc in ap (λ (x : Entry). x.found) q

top_rest : (a b : Entry) (xs ys : List Entry) → a ∷ xs ≡ b ∷ ys → xs ≡ ys
top_rest a b xs ys e = cc

abbrev is_claiming : TableStep → Bool
is_claiming (OnChain (ClaimRequest id q)) = true
is_claiming (OnMessage (PutMessage q heading bytes)) = true
is_claiming (OnChain (Unconnect q)) = true
is_claiming other = false

one_of : (x y : Claim) (xs ys : List Claim) → x ∷ xs ≡ y ∷ ys → x ≡ y
one_of x y xs ys e = cc

module _ (p : Plan) (old fresh : List Event) (given : (i h k : ℕ) → WasGiven old i h k → WasGiven fresh i h k) (trace : List Entry) (v : View) (found : ℕ) (hand : Hand) where
  other_claims : (call : TableStep) (claims : List Claim) → is_claiming call ≡ false → AreClaims fresh (step call found ∷ trace) claims
  other_claims call claims else_ = record {
    new = λ x id q word before e f even. absurd (true≢false (ap is_claiming (sym (top_call (step call found) (step (OnChain (ClaimRequest id q)) word) trace before f)) ∙ else_));
    filled = λ x id q word put heading bytes before e f even. absurd (true≢false (ap is_claiming (sym (top_call (step call found) (step (OnMessage (PutMessage q heading bytes)) put) trace (step (OnChain (ClaimRequest id q)) word ∷ before) f)) ∙ else_));
    marked = λ x id q word put next heading bytes before e f even. absurd (true≢false (ap is_claiming (sym (top_call (step call found) (step (OnChain (Unconnect q)) next) trace (step (OnMessage (PutMessage q heading bytes)) put ∷ step (OnChain (ClaimRequest id q)) word ∷ before) f)) ∙ else_));
  }

  -- the steps that claim a request, and put a message there and mark it
  claims_new : (id q : ℕ) → WasGiven fresh (socket_id_slot id) (socket_id_version id) hand.link → AreClaims fresh (step (OnChain (ClaimRequest id q)) found ∷ trace) (row p (OnChain (ClaimRequest id q)) found hand v).claims
  claims_new id q link = record {
    new = λ x i r word before e f even. let a : OnChain (ClaimRequest id q) ≡ OnChain (ClaimRequest i r) = top_call (step (OnChain (ClaimRequest id q)) found) (step (OnChain (ClaimRequest i r)) word) trace before f in
        let b : found ≡ word = top_found (step (OnChain (ClaimRequest id q)) found) (step (OnChain (ClaimRequest i r)) word) trace before f in let ids : id ≡ i = cc in
        let c : (row p (OnChain (ClaimRequest id q)) found hand v).claims ≡ new_claim hand.link q found ∷ [] = ap (λ z. (cond z (with_claim (met_link (socket_id_slot id) (socket_id_version id) hand.link v) (new_claim hand.link q found)) v).claims) (eq-eqb (found % 2) 0 (ap (λ n. n % 2) b ∙ even)) in
        let d : new_claim hand.link q found ≡ x = one_of (new_claim hand.link q found) x [] [] (sym c ∙ e) in
        subst (λ n. WasGiven fresh (socket_id_slot n) (socket_id_version n) x.link) ids (subst (λ (y : Claim). WasGiven fresh (socket_id_slot id) (socket_id_version id) y.link) d link);
    filled = λ x i r word put heading bytes before e f even. let a : OnChain (ClaimRequest id q) ≡ OnMessage (PutMessage r heading bytes) = top_call (step (OnChain (ClaimRequest id q)) found) (step (OnMessage (PutMessage r heading bytes)) put) trace (step (OnChain (ClaimRequest i r)) word ∷ before) f in absurd (cc);
    marked = λ x i r word put next heading bytes before e f even. let a : OnChain (ClaimRequest id q) ≡ OnChain (Unconnect r) = top_call (step (OnChain (ClaimRequest id q)) found) (step (OnChain (Unconnect r)) next) trace (step (OnMessage (PutMessage r heading bytes)) put ∷ step (OnChain (ClaimRequest i r)) word ∷ before) f in absurd (cc);
  }

  filled_of : (c : Claim) (q : ℕ) (heading : Heading) (bytes : List ℕ) → v.claims ≡ c ∷ [] → (row p (OnMessage (PutMessage q heading bytes)) found hand v).claims ≡ filled_claim c heading bytes ∷ []
  filled_of c q heading bytes one = ap (λ cs. (by_claim cs (λ c. with_claim v (filled_claim c heading bytes)) v).claims) one

  ready_of : (c : Claim) (q : ℕ) → v.claims ≡ c ∷ [] → (row p (OnChain (Unconnect q)) found hand v).claims ≡ ready_claim c ∷ []
  ready_of c q one = ap (λ cs. (by_claim cs (λ c. with_claim v (ready_claim c)) v).claims) one

  claims_filled : (r : ℕ) (label : Heading) (body : List ℕ) (c : Claim) → v.claims ≡ c ∷ [] → AreClaims old trace v.claims → AreClaims fresh (step (OnMessage (PutMessage r label body)) found ∷ trace) (row p (OnMessage (PutMessage r label body)) found hand v).claims
  claims_filled r label body c one was = record {
    new = λ x id q word before e f even. let a : OnMessage (PutMessage r label body) ≡ OnChain (ClaimRequest id q) = top_call (step (OnMessage (PutMessage r label body)) found) (step (OnChain (ClaimRequest id q)) word) trace before f in absurd (cc);
    filled = λ x id q word put heading bytes before e f even. let a : OnMessage (PutMessage r label body) ≡ OnMessage (PutMessage q heading bytes) = top_call (step (OnMessage (PutMessage r label body)) found) (step (OnMessage (PutMessage q heading bytes)) put) trace (step (OnChain (ClaimRequest id q)) word ∷ before) f in
        let labels : label ≡ heading = cc in let bodies : body ≡ bytes = cc in
        let behind : trace ≡ step (OnChain (ClaimRequest id q)) word ∷ before = top_rest (step (OnMessage (PutMessage r label body)) found) (step (OnMessage (PutMessage q heading bytes)) put) trace (step (OnChain (ClaimRequest id q)) word ∷ before) f in
        let b : IsFor old id c = was.new c id q word before one behind even in
        let same : filled_claim c label body ≡ x = one_of (filled_claim c label body) x [] [] (sym (filled_of c r label body one) ∙ e) in (
          subst (λ (y : Claim). WasGiven fresh (socket_id_slot id) (socket_id_version id) y.link) same (given (socket_id_slot id) (socket_id_version id) c.link b),
          ap (λ (y : Claim). y.heading) (sym same) ∙ labels,
          ap (λ (y : Claim). y.bytes) (sym same) ∙ bodies,
        );
    marked = λ x i q word put next heading bytes before e f even. let a : OnMessage (PutMessage r label body) ≡ OnChain (Unconnect q) = top_call (step (OnMessage (PutMessage r label body)) found) (step (OnChain (Unconnect q)) next) trace (step (OnMessage (PutMessage q heading bytes)) put ∷ step (OnChain (ClaimRequest i q)) word ∷ before) f in absurd (cc);
  }

  claims_marked : (r : ℕ) (c : Claim) → v.claims ≡ c ∷ [] → AreClaims old trace v.claims → AreClaims fresh (step (OnChain (Unconnect r)) found ∷ trace) (row p (OnChain (Unconnect r)) found hand v).claims
  claims_marked r c one was = record {
    new = λ x id q word before e f even. let a : OnChain (Unconnect r) ≡ OnChain (ClaimRequest id q) = top_call (step (OnChain (Unconnect r)) found) (step (OnChain (ClaimRequest id q)) word) trace before f in absurd (cc);
    filled = λ x id q word put heading bytes before e f even. let a : OnChain (Unconnect r) ≡ OnMessage (PutMessage q heading bytes) = top_call (step (OnChain (Unconnect r)) found) (step (OnMessage (PutMessage q heading bytes)) put) trace (step (OnChain (ClaimRequest id q)) word ∷ before) f in absurd (cc);
    marked = λ x id q word put next heading bytes before e f even.
        let behind : trace ≡ step (OnMessage (PutMessage q heading bytes)) put ∷ step (OnChain (ClaimRequest id q)) word ∷ before = top_rest (step (OnChain (Unconnect r)) found) (step (OnChain (Unconnect q)) next) trace (step (OnMessage (PutMessage q heading bytes)) put ∷ step (OnChain (ClaimRequest id q)) word ∷ before) f in
        let b = was.filled c id q word put heading bytes before one behind even in
        let same : ready_claim c ≡ x = one_of (ready_claim c) x [] [] (sym (ready_of c r one) ∙ e) in (
          subst (λ (y : Claim). WasGiven fresh (socket_id_slot id) (socket_id_version id) y.link) same (given (socket_id_slot id) (socket_id_version id) c.link b.0),
          ap (λ (y : Claim). y.heading) (sym same) ∙ b.1,
          ap (λ (y : Claim). y.bytes) (sym same) ∙ b.2,
        );
  }

  -- the seat's claim has what the steps before gave it
  pub claims_row : (call : TableStep) → May p v call → ((id q : ℕ) → call ≡ OnChain (ClaimRequest id q) → WasGiven fresh (socket_id_slot id) (socket_id_version id) hand.link) → AreClaims old trace v.claims
      → AreClaims fresh (step call found ∷ trace) (row p call found hand v).claims
  claims_row (OnChain (ClaimRequest id q)) may link was = claims_new id q (link id q refl)
  claims_row (OnMessage (PutMessage q heading bytes)) may link was = claims_filled q heading bytes may.1.0 may.1.1 was
  claims_row (OnChain (Unconnect q)) may link was = claims_marked q may.1.0 may.1.1 was
  claims_row call may link was = other_claims call (row p call found hand v).claims refl

-- ## The exchange

swapped_lists : (p : Plan) (v : View) (i own found : ℕ) (hand : Hand) (claim : Claim) → v.claims ≡ claim ∷ [] → (n : ℕ) × ((row p (OnChain (SwapHead i own)) found hand v).lists ≡ more v.lists (entry_of claim n))
swapped_lists p v i own found hand claim one = let a : (row p (OnChain (SwapHead i own)) found hand v).lists ≡ (exchanged found hand v claim).lists = ap (λ cs. (by_claim cs (exchanged found hand v) v).lists) one in
    by (nat_lt found IDLE) a
  where
    by : (b : Bool) → (row p (OnChain (SwapHead i own)) found hand v).lists ≡ (cond b (queued v claim found) (righted v claim found hand.took hand.next)).lists → (n : ℕ) × ((row p (OnChain (SwapHead i own)) found hand v).lists ≡ more v.lists (entry_of claim n))
    by true e = (found, e)
    by false e = (found - IDLE, e)

-- a message more, of a send or of a call
sent_append : (made : List chain.Entry) (e : chain.Entry) → is_of_send e ≡ true → of_sends (made ++ e ∷ []) ≡ of_sends made ++ e ∷ []
sent_append [] e is = ap (λ b. cond {A = List chain.Entry} b (e ∷ []) []) is
sent_append (x ∷ xs) e is = by_first (is_of_send x) (sent_append xs e is)
  where
    by_first : (b : Bool) → of_sends (xs ++ e ∷ []) ≡ of_sends xs ++ e ∷ [] → cond b (x ∷ of_sends (xs ++ e ∷ [])) (of_sends (xs ++ e ∷ [])) ≡ cond b (x ∷ of_sends xs) (of_sends xs) ++ e ∷ []
    by_first true h = ap (λ l. x ∷ l) h
    by_first false h = h

call_append : (made : List chain.Entry) (e : chain.Entry) → is_of_send e ≡ false → of_sends (made ++ e ∷ []) ≡ of_sends made
call_append [] e is = ap (λ b. cond {A = List chain.Entry} b (e ∷ []) []) is
call_append (x ∷ xs) e is = by_first (is_of_send x) (call_append xs e is)
  where
    by_first : (b : Bool) → of_sends (xs ++ e ∷ []) ≡ of_sends xs → cond b (x ∷ of_sends (xs ++ e ∷ [])) (of_sends (xs ++ e ∷ [])) ≡ cond b (x ∷ of_sends xs) (of_sends xs)
    by_first true h = ap (λ l. x ∷ l) h
    by_first false h = h

pub all_append : (P : chain.Entry → Type 0) (xs : List chain.Entry) (y : chain.Entry) → AllByRecursion P xs → P y → AllByRecursion P (xs ++ y ∷ [])
all_append P [] y a b = (b, tt)
all_append P (x ∷ xs) y a b = (a.0, all_append P xs y a.1 b)

-- the exchange appends the message of a call
pub beside_swap : (p : Plan) (calls : ℕ → Type 0) (es : List Event) (v : View) (i own found : ℕ) (hand : Hand) (trace : List Entry) (ready : IsCallReadied calls trace) → May p v (OnChain (SwapHead i own)) → AreClaims es trace v.claims
    → (made : List chain.Entry) → v.lists ≡ made ∷ [] → (new : List chain.Entry) × ((row p (OnChain (SwapHead i own)) found hand v).lists ≡ new ∷ []) × (of_sends new ≡ of_sends made)
    × ((P : chain.Entry → Type 0) → ((e : chain.Entry) → e.heading ≡ ready.heading → P e) → AllByRecursion P made → AllByRecursion P new)
beside_swap p calls es v i own found hand trace ready may was made lists = let x = may.1 in let claim : Claim = x.claim in let l = swapped_lists p v i own found hand claim x.claims in let e : chain.Entry = entry_of claim l.0 in
    let y = was.marked claim ready.id ready.request ready.found ready.words.1 ready.words.0 ready.heading ready.bytes ready.before x.claims ready.trace_is ready.free in
    (made ++ e ∷ [], l.1 ∙ ap (λ ls. more ls e) lists, call_append made e (ap (λ (h : Heading). no_parts h.parts) y.1 ∙ some_parts ready.heading.parts ready.parts), λ P one all. all_append P made e all (one e y.1))
  where
    no_parts : List ℕ → Bool
    no_parts [] = true
    no_parts (x ∷ xs) = false

    some_parts : (l : List ℕ) → l ≢ [] → no_parts l ≡ false
    some_parts [] ne = absurd (ne refl)
    some_parts (x ∷ xs) ne = refl

module _ (old fresh : List Event) (c : ℕ) (t : Task) (given : (i h k : ℕ) → WasGiven old i h k → WasGiven fresh i h k) (has : (x : Entry) → In x (trace_of c t.number old) → In x (trace_of c t.number fresh)) where
  ends_more : (before made : List chain.Entry) (b : Bool) → EndsIn old c t before made b → EndsIn fresh c t before made b
  ends_more before made true x = (
    x.0,
    x.1,
    record { heading = x.2.heading; name = x.2.name; op = x.2.op; id = x.2.id; load = has (step (OnName (LoadName x.2.name)) (x.2.id + 1)) x.2.load; link = given (socket_id_slot x.2.id) (socket_id_version x.2.id) x.0.link x.2.link },
  )
  ends_more before made false x = x

  -- all but the exchange leave the accepted messages
  pub ends_still : (call : TableStep) (before made : List chain.Entry) (b : Bool) → IsNoSwap call → EndsIn old c t before made b → EndsIn fresh c t before made (swaps call b)
  ends_still call before made b still x = subst (EndsIn fresh c t before made) (sym (no_swap call b still)) (ends_more before made b x)

  -- the exchange appends the message of the claim
  pub ends_swap : (p : Plan) (v : View) (i own found : ℕ) (hand : Hand) (trace : List Entry) → IsReadied t trace → May p v (OnChain (SwapHead i own)) → AreClaims old trace v.claims → trace_of c t.number old ≡ trace
      → (before made : List chain.Entry) → v.lists ≡ made ∷ [] → EndsIn old c t before (of_sends made) (swapped trace)
      → (new : List chain.Entry) × ((row p (OnChain (SwapHead i own)) found hand v).lists ≡ new ∷ []) × EndsIn fresh c t before (of_sends new) true
      × ((P : chain.Entry → Type 0) → ((e : chain.Entry) → is_of_send e ≡ true → P e) → AllByRecursion P made → AllByRecursion P new)
  ends_swap p v i own found hand trace ready may was is before made lists ends = let x = may.1 in let claim : Claim = x.claim in
      let l = swapped_lists p v i own found hand claim x.claims in let e : chain.Entry = entry_of claim l.0 in
      let first : swapped trace ≡ false = ap swapped ready.trace_is ∙ ready.first in
      let none_ : of_sends made ≡ before = subst (EndsIn old c t before (of_sends made)) first ends in
      let y = was.marked claim ready.id ready.request ready.found ready.words.1 ready.words.0 (heading_of t.number) ready.bytes ready.before x.claims ready.trace_is ready.free in (
        made ++ e ∷ [],
        l.1 ∙ ap (λ ls. more ls e) lists,
        (
          e,
          sent_append made e (ap is_sent y.1) ∙ ap (λ m. m ++ e ∷ []) none_,
          record {
            heading = y.1;
            name = ready.name;
            op = ready.op ∙ ap (ops.Send ready.name) (sym y.2);
            id = ready.id;
            load = has (step (OnName (LoadName ready.name)) (ready.id + 1)) (subst (In (step (OnName (LoadName ready.name)) (ready.id + 1))) (sym (is ∙ ready.trace_is)) (inr (inr (inr ready.load))));
            link = given (socket_id_slot ready.id) (socket_id_version ready.id) claim.link y.0;
          },
        ),
        λ P one all. all_append P made e all (one e (ap is_sent y.1)),
      )
    where
      is_sent : Heading → Bool
      is_sent h = elim h.parts as (λ l. Bool) [ [] ↦ true | x ∷ xs ↦ false ]
