-- Whoever writes a link goes on, whatever its steps find and the link answers: its loops are one, whether a task's operation or an attempt of a call is at work.
use Rattle.std.proofs.Common.{◌≡◌, ◌≢◌, ℕ, ◌+◌, ◌-◌, ◌%◌, ◌<◌, Bool, true, false, cond, eqb, eq-eqb, ne_eqb, List, ◌∷◌, length, drop, inl, refl, sym, ap, ◌∙◌, subst, arith}
use Rattle.std.specs.Prelude.{nat_le, if◌then◌else◌}
use Rattle.sock_words.specs.PackedWords.{socket_id_version, socket_id_slot, vref_version, ticket_request, ticket_generation, UNCONNECTED}
use Rattle.seat_programs.specs.sock_io.specs.declared.link.Put.{Put}
use Rattle.seat_programs.specs.sock_io.specs.declared.link.Put.TheVariants as puts
use Rattle.seat_programs.specs.sock_io.specs.declared.link.Ready.{Ready}
use Rattle.seat_programs.specs.sock_io.specs.declared.link.Ready.TheVariants as asks
use Rattle.sock_model.specs.declared.chain.Heading.{Heading}
use Rattle.sock_model.specs.declared.marks.Mark.TheVariants.{Hold}
use Rattle.sock_model.specs.MarkWeights.{is_hold}
use Rattle.outcome_stories.specs.program_steps.specs.slot_steps.proofs.RuleNumbers.{only-at}
use Rattle.seat_programs.specs.declared.task.Task.{Task}
use Rattle.seat_programs.specs.TableSteps.{TableStep, OnSlot, OnChain, OnPlace, AddRef, SubRef, SetOdd, StoreCode, LookWord, LoadCode, EmptyHead, ReadNext, ReverseNext, FreeRequest, StorePlace, DropPlace}
use Rattle.seat_programs.specs.BufferParts.{part}
use Rattle.seat_programs.specs.Writings.{Holder, Writing, Puts, Waits, Empties, Reversing}
use Rattle.seat_programs.specs.Programs.{Program, Do, TakeMessage, TakeHome, PutBytes, Write, LAST_GENERATION}
use Rattle.seat_programs.specs.SendAndWritePrograms.{freed, one_more, passed_telling, tell_drop, placed, dropped, link_failed, put_answered, ready_answered, block, first_put}
use Rattle.outcome_stories.specs.program_steps.specs.Writes.{holder_of}
use Rattle.outcome_stories.specs.OperationStories.{Entry, In}
use Rattle.outcome_stories.specs.Explains.{Way, Done, ExplainsBy, holds, holds_behind, step, broken_put, broken_ready}
use Rattle.outcome_stories.proofs.Tests.{split, split_eq}
use Rattle.outcome_stories.proofs.SilentErrorSteps.{tell_goes}

-- ## References

-- a test of a number with itself
same_slot : (i : ℕ) (a b : ℕ) → cond (eqb i i) a b ≡ a
same_slot i a b = ap (λ z. cond z a b) (eq-eqb i i refl)

-- where a live life is set failed the operation has one reference more, and else it has as many
pub even_holds : (i h found n : ℕ) → 0 < n → vref_version found % 2 ≡ 0 → holds_behind i h (OnSlot (SetOdd i)) found n ≡ n + 1
even_holds i h found n some_ even = let inner : ℕ = cond (eqb n 0) 0 (n + 1) in
    same_slot i (cond (eqb (vref_version found % 2) 0) inner n) n
    ∙ (ap (λ z. cond z inner n) (eq-eqb (vref_version found % 2) 0 even) ∙ ap (λ z. cond z 0 (n + 1)) (ne_eqb n 0 (λ e. omega (arith, some_, e))))

pub odd_holds : (i h found n : ℕ) → vref_version found % 2 ≢ 0 → holds_behind i h (OnSlot (SetOdd i)) found n ≡ n
odd_holds i h found n odd = let inner : ℕ = cond (eqb n 0) 0 (n + 1) in
    same_slot i (cond (eqb (vref_version found % 2) 0) inner n) n ∙ ap (λ z. cond z inner n) (ne_eqb (vref_version found % 2) 0 odd)

pub sub_holds : (i h found n : ℕ) → holds_behind i h (OnSlot (SubRef i)) found n ≡ n - 1
sub_holds i h found n = same_slot i (n - 1) n

pub add_holds : (id found n : ℕ) → vref_version found ≡ socket_id_version id → holds_behind (socket_id_slot id) (socket_id_version id) (OnSlot (AddRef id)) found n ≡ 1 + n
add_holds id found n e = let h : ℕ = socket_id_version id in let weight : ℕ = is_hold h (Hold (vref_version found)) in
    let one : weight ≡ 1 = only-at h (vref_version found) e in
    let two : cond (eqb (vref_version found) h) weight 0 ≡ weight = ap (λ z. cond z weight 0) (eq-eqb (vref_version found) h e) in
    let three = same_slot (socket_id_slot id) (cond (eqb (vref_version found) h) weight 0) 0 in ap (λ z. z + n) (three ∙ (two ∙ one))

-- ## Steps

-- the steps of whoever holds the life of this id and writes link k, where these links failed
abbrev pub IsStep : ℕ → ℕ → List ℕ → TableStep → Type 0
IsStep id k bs (OnSlot (LookWord x)) = x ≡ id
IsStep id k bs (OnSlot (SetOdd i)) = (i ≡ socket_id_slot id) × In k bs
IsStep id k bs (OnSlot (StoreCode i h c)) = Unit {0}
IsStep id k bs (OnSlot (SubRef i)) = Unit {0}
IsStep id k bs (OnSlot (LoadCode i h)) = Unit {0}
IsStep id k bs (OnPlace step) = Unit {0}
IsStep id k bs (OnChain (ReadNext q)) = Unit {0}
IsStep id k bs (OnChain (ReverseNext q w)) = Unit {0}
IsStep id k bs (OnChain (FreeRequest q g)) = Unit {0}
IsStep id k bs (OnChain (EmptyHead i last)) = Unit {0}
IsStep id k bs other = ⊥

module _ (slots requests : ℕ) (calls : ℕ → Type 0) (way : Way) (done : List Done) (todo : List Task) (IsOn : ℕ → ℕ → List ℕ → List Entry → Type 0) (after : Program) where
  abbrev Goes : List ℕ → List Entry → Program → Type 0
  Goes bs tr program = ExplainsBy slots requests calls way bs done tr todo program

  -- the program goes on wherever someone is at work for the holder
  abbrev Once : Holder → List ℕ → Program → Type 0
  Once h bs program = (tr : List Entry) → IsOn h.id h.link bs tr → Goes bs tr program

  -- what is known of whoever is at work: its steps leave it there while it holds the life, and it may make them; it writes on, and goes on behind the loops
  pub record Writes : Type 0 where
    pub on : (id k : ℕ) (bs : List ℕ) (tr : List Entry) (call : TableStep) (found : ℕ) → IsStep id k bs call → 0 < holds (socket_id_slot id) (socket_id_version id) (step call found ∷ tr) → IsOn id k bs tr → IsOn id k bs (step call found ∷ tr)
    pub does : (id k : ℕ) (bs : List ℕ) (tr : List Entry) (call : TableStep) (next : ℕ → Program) → IsStep id k bs call → IsOn id k bs tr → ((found : ℕ) → Goes bs (step call found ∷ tr) (next found)) → Goes bs tr (Do call next)
    pub held : (id k : ℕ) (bs : List ℕ) (tr : List Entry) → IsOn id k bs tr → 0 < holds (socket_id_slot id) (socket_id_version id) tr
    pub broke : (id k : ℕ) (bs : List ℕ) (tr : List Entry) → IsOn id k bs tr → IsOn id k (k ∷ bs) tr
    pub again : (w : Writing) (bs : List ℕ) → Once (holder_of w) bs (Write w after)
    pub ends : (id k : ℕ) (bs : List ℕ) (tr : List Entry) → IsOn id k bs tr → Goes bs tr after

  module _ (its : Writes) where
    -- a step that takes and gives back no reference
    quiet : (h : Holder) (bs : List ℕ) (call : TableStep) (next : ℕ → Program) → IsStep h.id h.link bs call → ((found n : ℕ) → holds_behind (socket_id_slot h.id) (socket_id_version h.id) call found n ≡ n) → ((found : ℕ) → Once h bs (next found)) → Once h bs (Do call next)
    quiet h bs call next may same k tr a = its.does h.id h.link bs tr call next may a (λ found. k found (step call found ∷ tr)
        (its.on h.id h.link bs tr call found may (subst (λ n. 0 < n) (sym (same found (holds (socket_id_slot h.id) (socket_id_version h.id) tr))) (its.held h.id h.link bs tr a)) a))

    -- ## Behind a message

    freed_goes : (h : Holder) (bs : List ℕ) (now : ℕ) (next : Program) → Once h bs next → Once h bs (freed now next)
    freed_goes h bs now next k tr a = split (eqb (ticket_generation now) LAST_GENERATION) next (Do (OnChain (FreeRequest (ticket_request now) (ticket_generation now))) (λ _. next)) (Goes bs tr)
        (k tr a) (quiet h bs (OnChain (FreeRequest (ticket_request now) (ticket_generation now))) (λ _. next) tt (λ found n. refl) (λ found. k) tr a)

    passed_goes : (h : Holder) (bs : List ℕ) (now : ℕ) (tells : Program → Program) → ((tr : List Entry) (q : Program) → Goes bs tr q → Goes bs tr (tells q)) → Once h bs (passed_telling h now tells after)
    passed_goes h bs now tells k tr a = let last : Program = Write (Empties h) after in
        let on : ℕ → Program = λ next. TakeMessage (ticket_request next) (λ heading bytes. Write (Puts h next heading bytes 0 false) after) in
        split (eqb now h.last) (freed now (tells last)) (Do (OnChain (ReadNext (ticket_request now))) (λ next. freed now (tells (on next)))) (Goes bs tr)
        (freed_goes h bs now (tells last) (λ tr a. k tr last (its.again (Empties h) bs tr a)) tr a)
        (quiet h bs (OnChain (ReadNext (ticket_request now))) (λ next. freed now (tells (on next))) tt (λ found n. refl)
        (λ next. freed_goes h bs now (tells (on next)) (λ tr a. k tr (on next) (λ heading bytes. its.again (Puts h next heading bytes 0 false) bs tr a))) tr a)

    placed_goes : (h : Holder) (bs : List ℕ) (now : ℕ) (heading : Heading) → Once h bs (placed h now heading after)
    placed_goes h bs now heading = quiet h bs (OnPlace (StorePlace heading.label.place h.link h.places)) (λ _. passed_telling (one_more h) now (λ q. q) after) tt (λ found n. refl) (λ found. passed_goes (one_more h) bs now (λ q. q) (λ tr q g. g))

    dropped_goes : (h : Holder) (bs : List ℕ) (now : ℕ) (heading : Heading) → Once h bs (dropped h now heading after)
    dropped_goes h bs now heading = let told : ℕ → Program = λ code. passed_telling (one_more h) now (tell_drop heading code) after in
        quiet h bs (OnSlot (LoadCode (socket_id_slot h.id) (socket_id_version h.id))) (λ code. Do (OnPlace (DropPlace heading.label.place h.link h.places)) (λ _. told code)) tt (λ found n. refl)
        (λ code. quiet h bs (OnPlace (DropPlace heading.label.place h.link h.places)) (λ _. told code) tt (λ found n. refl)
        (λ found. passed_goes (one_more h) bs now (tell_drop heading code) (λ tr q g. tell_goes slots requests calls way bs done tr todo heading code q g)))

    -- ## What the link answers

    -- it failed, and so does the life: for a moment it has one reference more
    failed_goes : (h : Holder) (bs : List ℕ) (next : Program) → In h.link bs → Once h bs next → Once h bs (link_failed h next)
    failed_goes h bs next refused k tr a = let i : ℕ = socket_id_slot h.id in let v : ℕ = socket_id_version h.id in let n : ℕ = holds i v tr in let some_ : 0 < n = its.held h.id h.link bs tr a in
        its.does h.id h.link bs tr (OnSlot (SetOdd i)) (λ found. if eqb (vref_version found % 2) 0 then Do (OnSlot (StoreCode i v 1009)) (λ _. Do (OnSlot (SubRef i)) (λ _. next)) else next) (refl, refused) a
        (λ found. let one : List Entry = step (OnSlot (SetOdd i)) found ∷ tr in
        split_eq (vref_version found % 2) 0 (Do (OnSlot (StoreCode i v 1009)) (λ _. Do (OnSlot (SubRef i)) (λ _. next))) next (Goes bs one)
        (λ even. let m : ℕ = holds i v one in let count : m ≡ n + 1 = even_holds i v found n some_ even in
        let there : IsOn h.id h.link bs one = its.on h.id h.link bs tr (OnSlot (SetOdd i)) found (refl, refused) (omega (arith, count)) a in
        its.does h.id h.link bs one (OnSlot (StoreCode i v 1009)) (λ _. Do (OnSlot (SubRef i)) (λ _. next)) tt there
        (λ code. let two : List Entry = step (OnSlot (StoreCode i v 1009)) code ∷ one in
        let b : IsOn h.id h.link bs two = its.on h.id h.link bs one (OnSlot (StoreCode i v 1009)) code tt (omega (arith, count)) there in
        its.does h.id h.link bs two (OnSlot (SubRef i)) (λ _. next) tt b
        (λ word. let left : holds i v (step (OnSlot (SubRef i)) word ∷ two) ≡ m - 1 = sub_holds i v word m in
        k (step (OnSlot (SubRef i)) word ∷ two) (its.on h.id h.link bs two (OnSlot (SubRef i)) word tt (omega (arith, left, count, some_)) b))))
        (λ odd. let same : holds i v one ≡ n = odd_holds i v found n odd in k one (its.on h.id h.link bs tr (OnSlot (SetOdd i)) found (refl, refused) (omega (arith, same, some_)) a)))

    -- and the message is tried again, as one of a failed life
    refused_goes : (h : Holder) (now : ℕ) (heading : Heading) (left : List ℕ) (taken : ℕ) (bs : List ℕ) (tr : List Entry) → IsOn h.id h.link bs tr → Goes (h.link ∷ bs) tr (link_failed h (Write (Puts h now heading left taken false) after))
    refused_goes h now heading left taken bs tr a = failed_goes h (h.link ∷ bs) (Write (Puts h now heading left taken false) after) (inl refl) (its.again (Puts h now heading left taken false) (h.link ∷ bs)) tr (its.broke h.id h.link bs tr a)

    put_goes : (h : Holder) (now : ℕ) (heading : Heading) (left : List ℕ) (taken : ℕ) (bs : List ℕ) (tr : List Entry) → IsOn h.id h.link bs tr → (answer : Put) → Goes (broken_put h.link answer bs) tr (put_answered h now heading left taken after answer)
    put_goes h now heading left taken bs tr a (puts.Took n) = split (nat_le (length left) n) (placed h now heading after) (Write (Puts h now heading (drop n left) (taken + n) false) after) (Goes bs tr)
        (placed_goes h bs now heading tr a) (its.again (Puts h now heading (drop n left) (taken + n) false) bs tr a)
    put_goes h now heading left taken bs tr a puts.Again = its.again (Waits h now heading left taken) bs tr a
    put_goes h now heading left taken bs tr a puts.Failed = refused_goes h now heading left taken bs tr a

    ready_goes : (h : Holder) (now : ℕ) (heading : Heading) (left : List ℕ) (taken : ℕ) (bs : List ℕ) (tr : List Entry) → IsOn h.id h.link bs tr → (answer : Ready) → Goes (broken_ready h.link answer bs) tr (ready_answered h now heading left taken after answer)
    ready_goes h now heading left taken bs tr a asks.Now = its.again (Puts h now heading left taken true) bs tr a
    ready_goes h now heading left taken bs tr a asks.NotYet = its.again (Waits h now heading left taken) bs tr a
    ready_goes h now heading left taken bs tr a asks.Failed = refused_goes h now heading left taken bs tr a

    -- ## Rounds

    -- a look before a put, and what follows where the life is failed
    look_goes : (h : Holder) (now : ℕ) (heading : Heading) (left : List ℕ) (taken : ℕ) (asked : Bool) (piece : List ℕ) (lost : Program) (bs : List ℕ) → Once h bs lost
        → Once h bs (Do (OnSlot (LookWord h.id)) (λ found. if eqb (vref_version found % 2) 0 then PutBytes h.link asked piece (put_answered h now heading left taken after) else lost))
    look_goes h now heading left taken asked piece lost bs k = let puts_on : Program = PutBytes h.link asked piece (put_answered h now heading left taken after) in
        quiet h bs (OnSlot (LookWord h.id)) (λ found. if eqb (vref_version found % 2) 0 then puts_on else lost) refl (λ found n. refl)
        (λ found tr a. split (eqb (vref_version found % 2) 0) puts_on lost (Goes bs tr) (λ answer. put_goes h now heading left taken bs tr a answer) (k tr a))

    pub block_goes : (w : Writing) (bs : List ℕ) → Once (holder_of w) bs (block w after)
    block_goes (Puts h now heading left taken asked) bs = look_goes h now heading left taken asked (part heading.parts left taken) (dropped h now heading after) bs (dropped_goes h bs now heading)
    block_goes (Waits h now heading left taken) bs = λ tr a answer. ready_goes h now heading left taken bs tr a answer
    block_goes (Empties h) bs = let walk : ℕ → Program = λ found. TakeHome h.link (λ places. Write (Reversing (record h { places = places }) found found 0) after) in
        quiet h bs (OnChain (EmptyHead (socket_id_slot h.id) h.last)) (λ found. if eqb found h.last then after else walk found) tt (λ found n. refl)
        (λ found tr a. split (eqb found h.last) after (walk found) (Goes bs tr) (its.ends h.id h.link bs tr a) (λ places. its.again (Reversing (record h { places = places }) found found 0) bs tr a))
    block_goes (Reversing h top at behind) bs = let here : Program = TakeMessage (ticket_request at) (λ heading bytes. Write (Puts (record h { last = top }) at heading bytes 0 false) after) in
        let on : ℕ → Program = λ found. if eqb found h.last then here else Write (Reversing h top found at) after in
        let turn : ℕ → Program = λ found. Do (OnChain (ReverseNext (ticket_request at) behind)) (λ _. on found) in
        quiet h bs (OnChain (ReadNext (ticket_request at))) (λ found. if eqb found UNCONNECTED then Write (Reversing h top at behind) after else turn found) tt (λ found n. refl)
        (λ found tr a. split (eqb found UNCONNECTED) (Write (Reversing h top at behind) after) (turn found) (Goes bs tr) (its.again (Reversing h top at behind) bs tr a)
        (quiet h bs (OnChain (ReverseNext (ticket_request at) behind)) (λ _. on found) tt (λ word n. refl)
        (λ word tr a. split (eqb found h.last) here (Write (Reversing h top found at) after) (Goes bs tr)
        (λ heading bytes. its.again (Puts (record h { last = top }) at heading bytes 0 false) bs tr a) (its.again (Reversing h top found at) bs tr a)) tr a))

    pub first_goes : (h : Holder) (now : ℕ) (heading : Heading) (bytes : List ℕ) (bs : List ℕ) → Once h bs (first_put h now heading bytes after)
    first_goes h now heading bytes bs = look_goes h now heading bytes 0 false (part heading.parts bytes 0) (Write (Puts h now heading bytes 0 false) after) bs (its.again (Puts h now heading bytes 0 false) bs)
