-- A tick of any seat keeps which id the call of each operation has, and that at words and homes are of those.
use Rattle.std.proofs.Common.{◌≡◌, ◌≢◌, ℕ, ◌+◌, ◌*◌, ◌<◌, ◌≤◌, ⊎_elim, ◌==◌, not, Bool, true, false, cond, eq-eqb, eqb-true, ne_eqb, List, [], ◌∷◌, ◌++◌, get_or, set, get_or-set_other, get_or-set_same, refl, sym, ap, ◌∙◌, subst, arith}
use Rattle.std.proofs.lemmas.Bool.{true≢false}
use Rattle.std.specs.Prelude as std
use Rattle.std.specs.List.{AllByRecursion}
use mathlib.Core.Logic.{dite}
use native.Mathlib.Decide.{ℕ_discrete}
use mathlib.Core.Option.{Option, none, some, some-injective, some-ne-none}
use lib.ListN.{get_elem?}
use Rattle.atomic_table.proofs.Lists.{at_set, set_here}
use Rattle.sock_words.specs.PackedWords.{at_word as word_of_at, at_word_first, at_word_slot, call_id, id_slot, id_first, bit}
use Rattle.sock_words.specs.declared.plain.Plan.{Plan}
use Rattle.sock_io.specs.declared.link.Put.{Put}
use Rattle.sock_io.specs.declared.link.Ready.{Ready}
use Rattle.sock_model.specs.declared.home.Home.{Home}
use Rattle.sock_model.specs.UnplacedMessages.{HeadedBytes}
use Rattle.sock_model.specs.ChainLawReads.{message, link_home}
use Rattle.corr_core.specs.IdSlotWord.{Parts, parts, made_word, posted_word, unlocked_word, free_word}
use Rattle.corr_core.specs.declared.marks.Plan.{Plan as IdPlan}
use Rattle.corr_core.specs.declared.marks.Token.{Token}
use Rattle.corr_core.specs.declared.marks.Token.TheVariants.{Locked}
use Rattle.corr_core.specs.declared.marks.Hand.TheVariants.{Empty}
use Rattle.corr_core.specs.EndedByRangeOrAttempt.{ends_call}
use Rattle.seat_programs.specs.id_rule.specs.LawfulIdTable.{tag_index, id_index, call_index, at_index, tokens_of}
use Rattle.seat_programs.specs.sock_message.specs.Asked.{Asked}
use Rattle.seat_programs.specs.Asides.{Step, Found, ClaimId, PutCall, MakeId, StoreCall, LoadCall, StoreAt, LoadAt, LoadIdWord, LockId, PostId, UnlockId, EndId, FreeId, TakeCall, TakeBytes, Taking, Bytes, Nothing, NoMore, AtEnd, Closed, Broken}
use Rattle.call_owing.specs.Below.sock_steps.proofs.SumsAsMarksChange.{either_way}
use Rattle.seat_programs.specs.LoopHeads.{Head, Exit, Retry, Posts, Unlocks, Decides, Locks, Joins, Opens, Reads, Discards}
use Rattle.seat_programs.specs.Programs.{Program, Do, Say, Sent, TakeMessage, TakeHome, PutHome, PutBytes, AskReady, Write, Aside, Round, Keep, Retries}
use Rattle.seat_programs.specs.PostPrograms.{packed}
use Rattle.seat_programs.specs.SendAndWritePrograms.{block}
use Rattle.seat_programs.specs.LoopRounds.{round, first_step}
use Rattle.seat_programs.specs.FoundAndChangedAside.{found_in, calls_after, call_at, more_given}
use Rattle.seat_programs.specs.Cores.{Calls, Core, SeatState, found_at, resolved, next_step, waiting_at, with_seat}
use Rattle.seat_programs.specs.StepTables.{word_of}
use Rattle.seat_programs.specs.Ticks.{Answer, OfPut, OfReady, Moment, taken, with_message, with_link, with_put, with_ready, with_found, step_with, tick_with, ticked}
use Rattle.call_owing.specs.Below.id_runs.specs.HeldIdTokens.{IdView, one, HasOne, MayId}
use Rattle.call_owing.specs.Below.id_runs.specs.Goes.{FitsRetryId, FindsId, IdGoesOn, SoundIds, FitsFirst, IsFittingIds}
use Rattle.call_owing.specs.Below.id_runs.proofs.AsidesKeepingIdRule.{parts_packed}
use Rattle.call_owing.specs.Below.id_runs.proofs.AsideStepsKeepRule.{finds_ids}
use Rattle.call_owing.specs.Below.id_runs.proofs.IdLoopRounds.{ids_round}
use Rattle.call_owing.specs.Below.id_runs.proofs.IdPrograms as idprograms
use Rattle.call_owing.proofs.EndsStill.{view_of}
use Rattle.call_owing.specs.Owing.{InList}
use Rattle.call_owing.specs.SoundOwing.{id_word_of, at_of}
use Rattle.call_owing.specs.Owns.{Behind, Other, HasClaimed, HasPut, HasLock, HasTaken, Grows, IsIdOf, IsOwnAt, but, FindsOwn, left_behind, taken_behind, put_behind, behind, Owns, IsTrue, IsTrueOf, Owned}
use Rattle.call_owing.proofs.PostsAndDecisionsOwed.{id_back}
use Rattle.owned_ids.proofs.OwnsLoops.{later, grows_same, id_grows, owns_grows, owns_any, owns_round}
use Rattle.owned_ids.proofs.OwnsSends.{block_goes}
use Rattle.owned_ids.proofs.OwnsCalls.{retry_goes}
use Rattle.owned_ids.proofs.OwnsSteps.{one_seat, free_tag, home_inside, word_inside, Then, Keeps, Acts, step_keeps, acts_token}
use Rattle.call_owing.specs.Below.id_runs.proofs.IdLoopRounds.{and_left, and_right}

-- ## Behind what is said

few_more : (ws : List Retry) (r : Retry) → AllByRecursion (λ (x : Retry). x.attempt < 64) ws → r.attempt < 64 → AllByRecursion (λ (x : Retry). x.attempt < 64) (ws ++ r ∷ [])
few_more [] r all one = (one, tt)
few_more (w ∷ ws) r all one = (all.0, few_more ws r all.1 one)

-- where the retries that wait are of few attempts
pub resolved_owns : (c : Core) (has : ℕ → ℕ) (mine : ℕ → Bool) (ws : List Retry) → AllByRecursion (λ (x : Retry). x.attempt < 64) ws → (b : Behind) (program : Program) → Owns has mine b program → IsTrue c b → (d : Behind) × Owns has mine d (next_step (resolved ws program)) × IsTrue c d
resolved_owns c has mine ws few b (Say o outcome next) r t = resolved_owns c has mine ws few b next r t
resolved_owns c has mine ws few b (Sent o next) r t = resolved_owns c has mine ws few b next r t
resolved_owns c has mine ws few b (Keep q next) r t = resolved_owns c has mine (ws ++ q ∷ []) (few_more ws q few r.0) b next r.1 t
resolved_owns c has mine [] few b (Retries requests after) r t = resolved_owns c has mine [] tt Other after r tt
resolved_owns c has mine (w ∷ ws) few b (Retries requests after) r t = (Other, (retry_goes has mine requests w.id w.attempt (Retries requests after) few.0 (later has mine (Retries requests after) r)).goes has (grows_same has) Other, tt)
resolved_owns c has mine ws few b _ r t = (b, r, t)

few_of : (q : IdPlan) (ws : List Retry) → AllByRecursion (FitsRetryId q) ws → AllByRecursion (λ (x : Retry). x.attempt < 64) ws
few_of q [] all = tt
few_of q (w ∷ ws) all = (let few = all.0.1 in omega (arith, few), few_of q ws all.1)

-- ## What is true of the latest step

pub true_of : (c : Core) (b : Behind) (program : Program) → IsTrue c b → IsTrueOf c b program
true_of c (HasClaimed i) (Aside (PutCall j asked) next) t = λ _. t
true_of c (HasPut i x) (Aside (MakeId j range) next) t = λ _. t
true_of c (HasLock i f) (Aside (TakeCall j) next) t = λ _. t
true_of c (HasTaken i f) (Aside (PutCall j asked) next) t = λ _. t
true_of c (HasTaken i f) (Round (Decides id asked w e) next) t = λ _. t
true_of c _ program t = tt

-- what is said of a slot is the same
pub record Same (c d : Core) (n : ℕ) : Type 0 where
  pub first : (id_word_of d n).first ≡ (id_word_of c n).first
  pub none_ : (id_word_of c n).state ≡ 0 → (id_word_of d n).state ≡ 0
  pub some_ : (id_word_of c n).state ≢ 0 → (id_word_of d n).state ≢ 0
  pub home : get_elem? d.calls.homes n ≡ get_elem? c.calls.homes n

has_taken : (i : ℕ) (w : IdView) (t : Token Asked) → w.tokens ≡ one i t → HasOne i t w
has_taken i w t e = ap (tokens_of i) e ∙ ap (λ b. cond b (t ∷ []) []) (eq-eqb i i refl)

-- and so it stays true of a seat that has the slot
pub true_on : (p : Plan) (q : IdPlan) (c d : Core) (ws : List IdView) (ids : SoundIds p q c ws) (w : IdView) → ((n : ℕ) → n < q.slots → (t : Token Asked) → HasOne n t w → Same c d n) → (b : Behind) (program : Program) → IdGoesOn p q w program → IsTrueOf c b program → IsTrueOf d b program
true_on p q c d ws ids w same (HasClaimed i) (Aside (PutCall j asked) next) go t = λ e. let h = acts_token p q c ws ids w (PutCall j asked) go.0 j refl in let s = same j go.0.0 h.0 h.1 in subst (λ x. (id_word_of d x).state ≡ 0) (sym e) (s.none_ (subst (λ x. (id_word_of c x).state ≡ 0) e (t e)))
true_on p q c d ws ids w same (HasPut i x) (Aside (MakeId j range) next) go t = λ e. let h = acts_token p q c ws ids w (MakeId j range) go.0 j refl in let s = same j go.0.0 h.0 h.1 in
    subst (λ y. get_elem? d.calls.homes y ≡ some (some (std.Some x))) (sym e) (s.home ∙ subst (λ y. get_elem? c.calls.homes y ≡ some (some (std.Some x))) e (t e))
true_on p q c d ws ids w same (HasLock i f) (Aside (TakeCall j) next) go t = λ e. let h = acts_token p q c ws ids w (TakeCall j) go.0 j refl in let s = same j go.0.0 h.0 h.1 in
    subst (λ y. ((id_word_of d y).first ≡ f) × ((id_word_of d y).state ≢ 0)) (sym e) (let old = subst (λ y. ((id_word_of c y).first ≡ f) × ((id_word_of c y).state ≢ 0)) e (t e) in (s.first ∙ old.0, s.some_ old.1))
true_on p q c d ws ids w same (HasTaken i f) (Aside (PutCall j asked) next) go t = λ e. let h = acts_token p q c ws ids w (PutCall j asked) go.0 j refl in let s = same j go.0.0 h.0 h.1 in
    subst (λ y. ((id_word_of d y).first ≡ f) × ((id_word_of d y).state ≢ 0)) (sym e) (let old = subst (λ y. ((id_word_of c y).first ≡ f) × ((id_word_of c y).state ≢ 0)) e (t e) in (s.first ∙ old.0, s.some_ old.1))
true_on p q c d ws ids w same (HasTaken i f) (Round (Decides id asked x e₁) next) go t = λ e. let k = go.0.1 in let s = same (id_slot id) go.0.0 (Locked k.f k.rg k.att asked k.o k.s Empty) (has_taken (id_slot id) w (Locked k.f k.rg k.att asked k.o k.s Empty) k.tokens) in
    subst (λ y. ((id_word_of d y).first ≡ f) × ((id_word_of d y).state ≢ 0)) (sym e) (let old = subst (λ y. ((id_word_of c y).first ≡ f) × ((id_word_of c y).state ≢ 0)) e (t e) in (s.first ∙ old.0, s.some_ old.1))
true_on p q c d ws ids w same _ program go t = tt

-- ## One seat's tick

-- an at word is decoded where it is of an id of the table
pub own_at : (q : IdPlan) → q.slots ≤ 65536 → (has : ℕ → ℕ) → ((o : ℕ) → has o ≢ 0 → id_slot (has o) < q.slots) → (o w : ℕ) → IsOwnAt has o w → IsIdOf has o (call_id (at_word_slot w) (at_word_first w))
own_at q narrow has inside o w own = let id : ℕ = own.0 in let mine = own.3 in let low = own.5 in let few = own.6 in
    let slot : id_slot own.0 < 65536 = (let z = inside o (λ e. mine.0 (sym mine.1 ∙ e)) in let y : id_slot own.0 < q.slots = subst (λ x. id_slot x < q.slots) mine.1 z in omega (arith, y, narrow)) in
    let s : at_word_slot w ≡ id_slot own.0 = ap at_word_slot own.4 ∙ (let z : at_word_slot (word_of_at (id_first own.0) (id_slot own.0) own.2 own.1) ≡ id_slot own.0 = omega (arith, slot, low, few) in z) in
    let f : at_word_first w ≡ id_first own.0 = ap at_word_first own.4 ∙ (let z : at_word_first (word_of_at (id_first own.0) (id_slot own.0) own.2 own.1) ≡ id_first own.0 = omega (arith, slot, low, few) in z) in
    let e : call_id (at_word_slot w) (at_word_first w) ≡ own.0 = ap (λ x. call_id x (at_word_first w)) s ∙ ap (call_id (id_slot own.0)) f ∙ id_back own.0 in
    subst (IsIdOf has o) (sym e) mine

module _ (p : Plan) (q : IdPlan) (narrow : q.slots ≤ 65536) (calls : List ℕ) (c : Core) (ws : List IdView) (ids : SoundIds p q c ws) (has : ℕ → ℕ) (left : ℕ → ℕ → Bool) (owned : Owned q calls c has left)
    (i : ℕ) (seat : SeatState) (u : IdView) (at_seat : get_elem? c.seats i ≡ some seat) (at : get_elem? ws i ≡ some u) where
  -- some operation more may have an id behind the tick
  abbrev pub After : Core → Type 0
  After d = (more : ℕ → ℕ) × (others : ℕ → ℕ → Bool) × Grows has more × Owned q calls d more others

  before : After c
  before = (has, left, grows_same has, owned)

  few : AllByRecursion (λ (x : Retry). x.attempt < 64) (waiting_at c.calls.waiting i)
  few = few_of q (waiting_at c.calls.waiting i) (ids.waiting i)

  waits_same : (step : Step) (found : Found step) → (calls_after step found c.calls).waiting ≡ c.calls.waiting
  waits_same (TakeBytes k room) (Bytes bytes) = refl
  waits_same (TakeBytes k room) Nothing = refl
  waits_same (TakeBytes k room) NoMore = refl
  waits_same (TakeBytes k room) AtEnd = refl
  waits_same (TakeBytes k room) Closed = refl
  waits_same (TakeBytes k room) Broken = refl
  waits_same _ found = refl

  -- seat i goes on with this program, and the slots that other seats have are as they were
  module _ (a : Calls) (program : Program) (hand : List Home) (words : List ℕ) (homes : List (Option Home)) (waits : a.waiting ≡ c.calls.waiting) where
    abbrev Now : Core
    Now = with_seat i program hand words homes (record c { calls = a })

    goes_on : (more : ℕ → ℕ) (others : ℕ → ℕ → Bool) → Grows has more → ((j : ℕ) → j ≢ i → others j ≡ left j) → (b : Behind) → Owns more (others i) b program → IsTrue Now b → ((n : ℕ) → n < q.slots → (j : ℕ) (v : IdView) → get_elem? ws j ≡ some v → j ≢ i → (t : Token Asked) → HasOne n t v → Same c Now n)
        → (j : ℕ) (s : SeatState) → get_elem? Now.seats j ≡ some s → (d : Behind) × Owns more (others j) d s.program × IsTrueOf Now d s.program
    goes_on more others grows same b owns true_ stays j s at_s = ⊎_elim
        (λ x. let r = resolved_owns Now more (others i) (waiting_at a.waiting i) (subst (λ (l : List (List Retry)). AllByRecursion (λ (x : Retry). x.attempt < 64) (waiting_at l i)) (sym waits) few) b program owns true_ in
        subst (λ (y : SeatState). (d : Behind) × Owns more (others j) d y.program × IsTrueOf Now d y.program) x.1 (subst (λ k. (d : Behind) × Owns more (others k) d (next_step (resolved (waiting_at a.waiting i) program)) × IsTrueOf Now d (next_step (resolved (waiting_at a.waiting i) program))) (sym x.0)
        (r.0, r.1, true_of Now r.0 (next_step (resolved (waiting_at a.waiting i) program)) r.2)))
        (λ x. let o = owned.seats j s x.1 in let v = view_of c.seats ws j s x.1 ids.each in
        (o.0, subst (λ m. Owns more m o.0 s.program) (sym (same j x.0)) (owns_grows has more grows (left j) o.0 s.program o.1), true_on p q c Now ws ids v.0 (λ n inside t h. stays n inside j v.0 v.1 x.0 t h) o.0 s.program (ids.seats j s v.0 x.1 v.1) o.2))
        (at_set c.seats i j (record { program = next_step (resolved (waiting_at a.waiting i) program); hand = hand }) s at_s)

    true_here : (b : Behind) → IsTrue (record c { calls = a }) b → IsTrue Now b
    true_here Other t = tt
    true_here (HasClaimed n) t = t
    true_here (HasPut n x) t = t
    true_here (HasLock n f) t = t
    true_here (HasTaken n f) t = t

    -- where no operation has an id more
    settles : (b : Behind) → Owns has (left i) b program → IsTrue (record c { calls = a }) b
        → ((n : ℕ) → n < q.slots → (x : Asked) → get_elem? a.homes n ≡ some (some (std.Some x)) → (id_word_of Now n).state ≢ 0 → IsIdOf has x.operation (call_id n (id_word_of Now n).first))
        → ((o : ℕ) → o < q.operations → at_of q Now o ≢ 0 → IsIdOf has o (call_id (at_word_slot (at_of q Now o)) (at_word_first (at_of q Now o))))
        → ((n : ℕ) → n < q.slots → (j : ℕ) (v : IdView) → get_elem? ws j ≡ some v → j ≢ i → (t : Token Asked) → HasOne n t v → Same c Now n) → After Now
    settles b owns t at_home ats stays = (
      has,
      left,
      grows_same has,
      record {
        inside = owned.inside;
        once = owned.once;
        apart = owned.apart;
        ats = ats;
        homes = at_home;
        seats = goes_on has left (grows_same has) (λ j far. refl) b owns (true_here b t) stays;
      },
    )

  -- a step that none of the ids sees
  pub on_sockets : (b : Behind) (program : Program) (hand : List Home) (words : List ℕ) (homes : List (Option Home)) → Owns has (left i) b program → IsTrue c b → After (with_seat i program hand words homes c)
  on_sockets b program hand words homes owns t = settles c.calls program hand words homes refl b owns t owned.homes owned.ats (λ n inside j v at_v far x h. record { first = refl; none_ = λ z. z; some_ = λ z. z; home = refl })

  -- ## Steps on ids

  module _ (step : Step) (next : Found step → Program) (found : Found step) (t : Option Taking) (is : found_in step c.calls t ≡ some found) (may : MayId p q u step) where
    finds : FindsId p q u step found
    finds = finds_ids p q c.calls ids.plan ws ids.rule i u at (ids.real i u at) (ids.called, ids.placed) ids.homes step t found is may

    abbrev a' : Calls
    a' = calls_after step found c.calls

    abbrev D : Core
    D = Then p q c ws ids (calls_after step found c.calls)

    -- another seat's slot
    stays : (n : ℕ) → n < q.slots → (j : ℕ) (v : IdView) → get_elem? ws j ≡ some v → j ≢ i → (x : Token Asked) → HasOne n x v → Keeps p q c ws ids a' n
    stays n inside j v at_v far x h = ⊎_elim (λ acts. let mine = acts_token p q c ws ids u step may n acts in absurd (far (one_seat p q c ws ids j i v u at_v at n inside x mine.0 h mine.1))) (λ k. k) (step_keeps p q c ws ids u step t found may finds is n inside)

    -- a call at home in a slot that the step leaves alone
    kept_home : (n : ℕ) → n < q.slots → Keeps p q c ws ids a' n → (x : Asked) → get_elem? a'.homes n ≡ some (some (std.Some x)) → (id_word_of D n).state ≢ 0 → IsIdOf has x.operation (call_id n (id_word_of D n).first)
    kept_home n inside k x e some_ = subst (λ f. IsIdOf has x.operation (call_id n f)) (sym k.first) (owned.homes n inside x (sym k.home ∙ e) (λ z. some_ (k.none_ z)))

    abbrev Homes : (ℕ → ℕ) → Type 0
    Homes more = (n : ℕ) → n < q.slots → (x : Asked) → get_elem? a'.homes n ≡ some (some (std.Some x)) → (id_word_of D n).state ≢ 0 → IsIdOf more x.operation (call_id n (id_word_of D n).first)

    abbrev Ats : (ℕ → ℕ) → Type 0
    Ats more = (o : ℕ) → o < q.operations → at_of q D o ≢ 0 → IsIdOf more o (call_id (at_word_slot (at_of q D o)) (at_word_first (at_of q D o)))

    -- where no operation has an id more
    settle : (b : Behind) → Owns has (left i) b (next found) → IsTrue D b → Homes has → Ats has → After (with_seat i (next found) seat.hand c.words c.homes (record c { calls = calls_after step found c.calls }))
    settle b owns true_ homes ats = settles a' (next found) seat.hand c.words c.homes (waits_same step found) b owns true_ homes ats
        (λ n inside j v at_v far x h. let k = stays n inside j v at_v far x h in record { first = k.first; none_ = k.none_; some_ = k.some_; home = k.home })

    -- where the step leaves every slot alone
    all_homes : ((n : ℕ) → Acts p q c ws ids step n → ⊥) → Homes has
    all_homes none_ n inside x e some_ = ⊎_elim (λ acts. absurd (none_ n acts)) (λ k. kept_home n inside k x e some_) (step_keeps p q c ws ids u step t found may finds is n inside)

    -- the at words that this step leaves alone
    kept_ats : ((o : ℕ) → o < q.operations → at_of q D o ≡ at_of q c o) → Ats has
    kept_ats same o inside some_ = let e = same o inside in subst (λ w. IsIdOf has o (call_id (at_word_slot w) (at_word_first w))) (sym e) (owned.ats o inside (λ z. some_ (e ∙ z)))

  other_at : (x w o : ℕ) → at_index q o ≢ x → get_or (set c.calls.words x w) (at_index q o) 0 ≡ get_or c.calls.words (at_index q o) 0
  other_at x w o far = get_or-set_other c.calls.words x (at_index q o) w 0 (λ e. far (omega (arith, e)))

  -- a word of an id slot isn't an at word
  low_at : (x w o : ℕ) → x < 2 * q.slots → get_or (set c.calls.words x w) (at_index q o) 0 ≡ get_or c.calls.words (at_index q o) 0
  low_at x w o low = other_at x w o (λ e. omega (arith, e, low))

  called : (x : Option (Option (std.Option Asked))) (asked : Asked) → call_at x ≡ some asked → x ≡ some (some (std.Some asked))
  called none asked e = absurd (some-ne-none asked (sym e))
  called (some none) asked e = absurd (some-ne-none asked (sym e))
  called (some (some std.None)) asked e = absurd (some-ne-none asked (sym e))
  called (some (some (std.Some b))) asked e = ap (λ z. some (some (std.Some z))) (some-injective b asked e)

  same_call : (x y : Asked) → some (some (std.Some x)) ≡ some (some (std.Some y)) → x ≡ y
  same_call x y e = let z : some (std.Some x) ≡ some (std.Some y) = some-injective (some (std.Some x)) (some (std.Some y)) e in let w : std.Some x ≡ std.Some y = some-injective (std.Some x) (std.Some y) z in cc

  abbrev Goes : (step : Step) → Found step → Program → Type 0
  Goes step found program = After (with_seat i program seat.hand c.words c.homes (record c { calls = calls_after step found c.calls }))

  slot_keeps : (step : Step) (found : Found step) (t : Option Taking) → found_in step c.calls t ≡ some found → MayId p q u step → (n : ℕ) → n < q.slots → (Acts p q c ws ids step n → ⊥) → Keeps p q c ws ids (calls_after step found c.calls) n
  slot_keeps step found t is may n inside none_ = ⊎_elim (λ acts. absurd (none_ acts)) (λ k. k)
      (step_keeps p q c ws ids u step t found may (finds_ids p q c.calls ids.plan ws ids.rule i u at (ids.real i u at) (ids.called, ids.placed) ids.homes step t found is may) is n inside)

  -- ## An id that is made

  module _ (m range : ℕ) (next : ℕ → Program) (found : ℕ) (t : Option Taking) (is : found_in (MakeId m range) c.calls t ≡ some found) (may : MayId p q u (MakeId m range)) (b : Behind) (asked : Asked) (put : b ≡ HasPut m asked) (mine : left i asked.operation ≡ true)
      (goes : (more : ℕ → ℕ) → Grows has more → FindsOwn more b (MakeId m range) found → Owns more (left_behind (MakeId m range) b (left i)) Other (next found)) (at_home : get_elem? c.calls.homes m ≡ some (some (std.Some asked))) where
    abbrev o : ℕ
    o = asked.operation

    abbrev id : ℕ
    id = call_id m (parts found).first

    abbrev more : ℕ → ℕ
    more x = cond (x == asked.operation) (call_id m (parts found).first) (has x)

    abbrev others : ℕ → ℕ → Bool
    others j = cond (j == i) (but asked.operation (left i)) (left j)

    found_is : FindsId p q u (MakeId m range) found
    found_is = finds_ids p q c.calls ids.plan ws ids.rule i u at (ids.real i u at) (ids.called, ids.placed) ids.homes (MakeId m range) t found is may

    none_yet : has asked.operation ≡ 0
    none_yet = (owned.once i asked.operation mine).0

    more_here : more asked.operation ≡ call_id m (parts found).first
    more_here = ap (λ b. cond b (call_id m (parts found).first) (has asked.operation)) (eq-eqb asked.operation asked.operation refl)

    more_else : (x : ℕ) → x ≢ asked.operation → more x ≡ has x
    more_else x far = ap (λ b. cond b (call_id m (parts found).first) (has x)) (ne_eqb x asked.operation far)

    others_here : others i ≡ but asked.operation (left i)
    others_here = ap (λ b. cond b (but asked.operation (left i)) (left i)) (eq-eqb i i refl)

    others_else : (j : ℕ) → j ≢ i → others j ≡ left j
    others_else j far = ap (λ b. cond b (but asked.operation (left i)) (left j)) (ne_eqb j i far)

    left_still : (j x : ℕ) → others j x ≡ true → (left j x ≡ true) × (j ≡ i → x ≢ asked.operation)
    left_still j x e = dite (ℕ_discrete j i)
        (λ same. let l : but asked.operation (left i) x ≡ true = sym (ap (λ (f : ℕ → Bool). f x) others_here) ∙ ap (λ k. others k x) (sym same) ∙ e in
        (ap (λ k. left k x) same ∙ and_left (left i x) (not (x == asked.operation)) l, λ _ z. true≢false (sym (and_right (left i x) (not (x == asked.operation)) l) ∙ ap not (eq-eqb x asked.operation z))))
        (λ far. (sym (ap (λ (f : ℕ → Bool). f x) (others_else j far)) ∙ e, λ same. absurd (far same)))

    not_made : (j x : ℕ) → others j x ≡ true → x ≢ asked.operation
    not_made j x e z = let l = left_still j x e in l.1 (owned.apart j i x l.0 (ap (left i) z ∙ mine)) z

    grows : Grows has more
    grows x some_ = more_else x (λ z. some_ (ap has z ∙ none_yet))

    made : IsIdOf more asked.operation (call_id m (parts found).first)
    made = ((λ z. let low = found_is.0 in omega (arith, z, low)), more_here)

    abbrev Made : Core
    Made = Then p q c ws ids (calls_after (MakeId m range) found c.calls)

    homes_made : (n : ℕ) → n < q.slots → (x : Asked) → get_elem? c.calls.homes n ≡ some (some (std.Some x)) → (id_word_of Made n).state ≢ 0 → IsIdOf more x.operation (call_id n (id_word_of Made n).first)
    homes_made n inside x e some_ = dite (ℕ_discrete n m)
        (λ here. let same : x ≡ asked = same_call x asked (sym e ∙ ap (get_elem? c.calls.homes) here ∙ at_home) in
        let word : get_or (set c.calls.words (id_index m) (packed (made_word (parts found).first range))) (id_index n) 0 ≡ packed (made_word (parts found).first range) =
        ap (λ y. get_or (set c.calls.words (id_index m) (packed (made_word (parts found).first range))) (id_index y) 0) here ∙ get_or-set_same c.calls.words (id_index m) (packed (made_word (parts found).first range)) 0 (word_inside p q c ws ids m may.0) in
        let high = may.3 in let low = may.2 in let parts_are = parts_packed (made_word (parts found).first range) (omega arith) (omega (arith, low)) high (omega arith) (omega arith) (omega arith) in
        let first : (id_word_of Made n).first ≡ (parts found).first = ap (λ y. (parts y).first) word ∙ ap (λ (y : Parts). y.first) parts_are in
        subst (λ (y : Asked). IsIdOf more y.operation (call_id n (id_word_of Made n).first)) (sym same) (subst (λ f. IsIdOf more asked.operation (call_id n f)) (sym first) (subst (λ y. IsIdOf more asked.operation (call_id y (parts found).first)) (sym here) made)))
        (λ far. id_grows has more grows x.operation (call_id n (id_word_of Made n).first)
        (kept_home (MakeId m range) next found t is may n inside (slot_keeps (MakeId m range) found t is may n inside far) x e some_))

    makes : Goes (MakeId m range) found (next found)
    makes = (
      more,
      others,
      grows,
      record {
        inside = λ x some_. dite (ℕ_discrete x asked.operation)
            (λ e. let w = more_here in subst (λ y. (id_slot (more y) < q.slots) × InList y calls) (sym e) (subst (λ y. id_slot y < q.slots) (sym w) (let slot : id_slot (call_id m (parts found).first) ≡ m = (let high = found_is.1 in omega (arith, high)) in let inside = may.0 in omega (arith, slot, inside)), (owned.once i asked.operation mine).1))
            (λ far. let w = more_else x far in let old = owned.inside x (λ z. some_ (w ∙ z)) in (subst (λ y. id_slot y < q.slots) (sym w) old.0, old.1));
        once = λ j x e. let l = left_still j x e in let old = owned.once j x l.0 in (more_else x (not_made j x e) ∙ old.0, old.1);
        apart = λ j k x e f. owned.apart j k x (left_still j x e).0 (left_still k x f).0;
        ats = λ x inside some_. let e = low_at (id_index m) (packed (made_word (parts found).first range)) x (let n = may.0 in omega (arith, n)) in
            subst (λ w. IsIdOf more x (call_id (at_word_slot w) (at_word_first w))) (sym e) (id_grows has more grows x (call_id (at_word_slot (at_of q c x)) (at_word_first (at_of q c x))) (owned.ats x inside (λ z. some_ (e ∙ z))));
        homes = homes_made;
        seats = goes_on (calls_after (MakeId m range) found c.calls) (next found) seat.hand c.words c.homes refl more others grows others_else Other (subst (λ (f : ℕ → Bool). Owns more f Other (next found)) (sym others_here)
            (subst (λ y. Owns more (left_behind (MakeId m range) y (left i)) Other (next found)) put (goes more grows (λ x e. let z : HasPut m asked ≡ HasPut m x = sym put ∙ e in let same : asked ≡ x = cc in subst (λ (y : Asked). IsIdOf more y.operation (call_id m (parts found).first)) same made)))) tt
            (λ n inside j v at_v far x h. let k = stays (MakeId m range) next found t is may n inside j v at_v far x h in record { first = k.first; none_ = k.none_; some_ = k.some_; home = k.home });
      },
    )

  -- ## Each step

  on_ids : (step : Step) (next : Found step → Program) (found : Found step) (t : Option Taking) → found_in step c.calls t ≡ some found → MayId p q u step → (b : Behind) → Owns has (left i) b (Aside step next) → IsTrueOf c b (Aside step next) → Goes step found (next found)
  on_ids (ClaimId m) next found t is may b g true_ = settle (ClaimId m) next found t is may (behind (ClaimId m) found b) (g.1 found has (grows_same has) tt) (by_zero (found == 0) refl) (all_homes (ClaimId m) next found t is may (λ n e. e)) (kept_ats (ClaimId m) next found t is may (λ o inside. low_at (tag_index m) 1 o (omega (arith, may))))
    where
      by_zero : (z : Bool) → (found == 0) ≡ z → IsTrue (Then p q c ws ids (calls_after (ClaimId m) found c.calls)) (cond z (HasClaimed m) Other)
      by_zero false e = tt
      by_zero true e = (slot_keeps (ClaimId m) found t is may m may (λ e. e)).none_ (free_tag p q c ws ids m may (some-injective (get_or c.calls.words (tag_index m) 0) found is ∙ eqb-true found 0 e))
  on_ids (PutCall m asked) next found t is may b g true_ = settle (PutCall m asked) next found t is may (put_behind m asked b) (g.1 found has (grows_same has) tt) now_home homes (kept_ats (PutCall m asked) next found t is may (λ o inside. refl))
    where
      here : get_elem? (set c.calls.homes m (some (std.Some asked))) m ≡ some (some (std.Some asked))
      here = set_here c.calls.homes m (some (std.Some asked)) (home_inside p q c ws ids m may.0)

      now_home : IsTrue (Then p q c ws ids (calls_after (PutCall m asked) found c.calls)) (put_behind m asked b)
      now_home = ⊎_elim (λ e. subst (λ y. IsTrue (Then p q c ws ids (calls_after (PutCall m asked) found c.calls)) (put_behind m asked y)) (sym e) here) (λ x. subst (λ y. IsTrue (Then p q c ws ids (calls_after (PutCall m asked) found c.calls)) (put_behind m asked y)) (sym x.1) tt) g.0

      own : (id_word_of c m).state ≢ 0 → IsIdOf has asked.operation (call_id m (id_word_of c m).first)
      own some_ = ⊎_elim (λ e. let y : IsTrueOf c (HasClaimed m) (Aside (PutCall m asked) next) = subst (λ y. IsTrueOf c y (Aside (PutCall m asked) next)) e true_ in absurd (some_ (y refl)))
          (λ x. let z : IsTrueOf c (HasTaken m x.0) (Aside (PutCall m asked) next) = subst (λ y. IsTrueOf c y (Aside (PutCall m asked) next)) x.1 true_ in let f = (z refl).0 in subst (λ y. IsIdOf has asked.operation (call_id m y)) (sym f) x.2) g.0

      homes : (n : ℕ) → n < q.slots → (x : Asked) → get_elem? (set c.calls.homes m (some (std.Some asked))) n ≡ some (some (std.Some x)) → (id_word_of c n).state ≢ 0 → IsIdOf has x.operation (call_id n (id_word_of c n).first)
      homes n inside x e some_ = dite (ℕ_discrete n m)
          (λ same. let is_asked : x ≡ asked = same_call x asked (sym e ∙ ap (get_elem? (set c.calls.homes m (some (std.Some asked)))) same ∙ here) in
          subst (λ (y : Asked). IsIdOf has y.operation (call_id n (id_word_of c n).first)) (sym is_asked) (subst (λ y. IsIdOf has asked.operation (call_id y (id_word_of c y).first)) (sym same) (own (subst (λ y. (id_word_of c y).state ≢ 0) same some_))))
          (λ far. kept_home (PutCall m asked) next found t is may n inside (slot_keeps (PutCall m asked) found t is may n inside far) x e some_)
  on_ids (MakeId m range) next found t is may b g true_ = makes m range next found t is may b g.0.0 g.0.1 g.0.2 (λ more grows finds. g.1 found more grows finds) (let y : IsTrueOf c (HasPut m g.0.0) (Aside (MakeId m range) next) = subst (λ y. IsTrueOf c y (Aside (MakeId m range) next)) g.0.1 true_ in y refl)
  on_ids (StoreCall x y) next found t is may b g true_ = settle (StoreCall x y) next found t is may Other (g.1 found has (grows_same has) tt) tt (all_homes (StoreCall x y) next found t is may (λ n e. e))
      (kept_ats (StoreCall x y) next found t is may (λ n inside. subst (λ (r : IdPlan). get_or (set c.calls.words (call_index r x) y) (at_index q n) 0 ≡ get_or c.calls.words (at_index q n) 0) (sym ids.plan) (other_at (call_index q x) y n (λ e. omega (arith, e)))))
  on_ids (LoadCall o) next found t is may b g true_ = settle (LoadCall o) next found t is may Other (g.1 found has (grows_same has) tt) tt (all_homes (LoadCall o) next found t is may (λ n e. e)) (kept_ats (LoadCall o) next found t is may (λ x inside. refl))
  on_ids (StoreAt o w) next found t is may b g true_ = settle (StoreAt o w) next found t is may Other (g.1 found has (grows_same has) tt) tt (all_homes (StoreAt o w) next found t is may (λ n e. e))
      (subst (λ (r : IdPlan). (x : ℕ) → x < q.operations → get_or (set c.calls.words (at_index r o) w) (at_index q x) 0 ≢ 0 → IsIdOf has x (call_id (at_word_slot (get_or (set c.calls.words (at_index r o) w) (at_index q x) 0)) (at_word_first (get_or (set c.calls.words (at_index r o) w) (at_index q x) 0)))) (sym ids.plan) ats)
    where
      ats : (x : ℕ) → x < q.operations → get_or (set c.calls.words (at_index q o) w) (at_index q x) 0 ≢ 0 → IsIdOf has x (call_id (at_word_slot (get_or (set c.calls.words (at_index q o) w) (at_index q x) 0)) (at_word_first (get_or (set c.calls.words (at_index q o) w) (at_index q x) 0)))
      ats x inside some_ = dite (ℕ_discrete x o)
          (λ same. let e : get_or (set c.calls.words (at_index q o) w) (at_index q x) 0 ≡ w = ap (λ y. get_or (set c.calls.words (at_index q o) w) (at_index q y) 0) same ∙ get_or-set_same c.calls.words (at_index q o) w 0 (let sized = ids.rule.sized in let low = may.0 in omega (arith, sized, low)) in
          subst (λ y. IsIdOf has x (call_id (at_word_slot y) (at_word_first y))) (sym e) (subst (λ y. IsIdOf has y (call_id (at_word_slot w) (at_word_first w))) (sym same) (own_at q narrow has (λ y z. (owned.inside y z).0) o w g.0)))
          (λ far. let e = other_at (at_index q o) w x (λ z. far (let y : 2 * q.slots + 2 * x + 1 ≡ 2 * q.slots + 2 * o + 1 = z in omega (arith, y))) in
          subst (λ y. IsIdOf has x (call_id (at_word_slot y) (at_word_first y))) (sym e) (owned.ats x inside (λ z. some_ (e ∙ z))))
  on_ids (LoadAt o) next found t is may b g true_ = settle (LoadAt o) next found t is may Other (g.1 found has (grows_same has) tt) tt (all_homes (LoadAt o) next found t is may (λ n e. e)) (kept_ats (LoadAt o) next found t is may (λ x inside. refl))
  on_ids (LoadIdWord m) next found t is may b g true_ = settle (LoadIdWord m) next found t is may Other (g.1 found has (grows_same has) tt) tt (all_homes (LoadIdWord m) next found t is may (λ n e. e)) (kept_ats (LoadIdWord m) next found t is may (λ x inside. refl))
  on_ids (LockId m from) next found t is may b g true_ = settle (LockId m from) next found t is may (behind (LockId m from) found b) (g.1 found has (grows_same has) tt) (by_hit (found == from) refl) (all_homes (LockId m from) next found t is may (λ n e. e))
      (kept_ats (LockId m from) next found t is may (λ o inside. low_at (id_index m) (cond (found == from) (packed (posted_word (parts from) 0)) found) o (let low = may.0 in omega (arith, low))))
    where
      by_hit : (h : Bool) → (found == from) ≡ h → IsTrue (Then p q c ws ids (calls_after (LockId m from) found c.calls)) (cond h (HasLock m (parts found).first) Other)
      by_hit false e = tt
      by_hit true e = let k = slot_keeps (LockId m from) found t is may m may.0 (λ e. e) in let word = some-injective (get_or c.calls.words (id_index m) 0) found is in let one = may.1 in
          (k.first ∙ ap (λ y. (parts y).first) word, k.some_ (λ z. let w : (parts from).state ≡ 0 = sym (ap (λ y. (parts y).state) (word ∙ eqb-true found from e)) ∙ z in omega (arith, one, w)))
  on_ids (PostId m from x) next found t is may b g true_ = settle (PostId m from x) next found t is may (behind (PostId m from x) found b) (g.1 found has (grows_same has) tt) (by_hit (found == from) ((parts from).state == 1) refl refl) (all_homes (PostId m from x) next found t is may (λ n e. e))
      (kept_ats (PostId m from x) next found t is may (λ o inside. low_at (id_index m) (cond (found == from) (packed (posted_word (parts from) x)) found) o (let low = may.0 in omega (arith, low))))
    where
      by_hit : (h s : Bool) → (found == from) ≡ h → ((parts from).state == 1) ≡ s → IsTrue (Then p q c ws ids (calls_after (PostId m from x) found c.calls)) (cond h (cond s (HasLock m (parts found).first) Other) Other)
      by_hit false s e f = tt
      by_hit true false e f = tt
      by_hit true true e f = let k = slot_keeps (PostId m from x) found t is may m may.0 (λ e. e) in let word = some-injective (get_or c.calls.words (id_index m) 0) found is in let one = eqb-true (parts from).state 1 f in
          (k.first ∙ ap (λ y. (parts y).first) word, k.some_ (λ z. let w : (parts from).state ≡ 0 = sym (ap (λ y. (parts y).state) (word ∙ eqb-true found from e)) ∙ z in omega (arith, one, w)))
  on_ids (UnlockId m from advance) next found t is may b g true_ = settle (UnlockId m from advance) next found t is may (HasLock m (parts found).first) (g.1 found has (grows_same has) tt)
      (let k = slot_keeps (UnlockId m from advance) found t is may m may.0 (λ e. e) in let word = some-injective (get_or c.calls.words (id_index m) 0) found is in let y = may.1 in
      let two = (finds_ids p q c.calls ids.plan ws ids.rule i u at (ids.real i u at) (ids.called, ids.placed) ids.homes (UnlockId m from advance) t found is may y.0 y.1 y.2 y.3 y.4 y.5 y.6).state_is in
      (k.first ∙ ap (λ y. (parts y).first) word, k.some_ (λ z. let w : (parts found).state ≡ 0 = sym (ap (λ y. (parts y).state) word) ∙ z in omega (arith, two, w))))
      (all_homes (UnlockId m from advance) next found t is may (λ n e. e)) (kept_ats (UnlockId m from advance) next found t is may (λ o inside. low_at (id_index m) (cond (found == from) (packed (unlocked_word (parts from) (bit advance))) found) o (let low = may.0 in omega (arith, low))))
  on_ids (EndId m) next found t is may b g true_ = settle (EndId m) next found t is may Other (g.1 found has (grows_same has) tt) tt homes (kept_ats (EndId m) next found t is may (λ o inside. low_at (id_index m) (packed (free_word ((parts found).first + (parts found).range))) o (let low = may.0 in omega (arith, low))))
    where
      free : (n : ℕ) → n ≡ m → (id_word_of (Then p q c ws ids (calls_after (EndId m) found c.calls)) n).state ≡ 0
      free n same = ap (λ y. (id_word_of (Then p q c ws ids (calls_after (EndId m) found c.calls)) y).state) same ∙ ap (λ y. (parts y).state) (get_or-set_same c.calls.words (id_index m) (packed (free_word ((parts found).first + (parts found).range))) 0 (word_inside p q c ws ids m may.0))
          ∙ ap (λ (y : Parts). y.state) (parts_packed (free_word ((parts found).first + (parts found).range)) (omega arith) (omega arith) (omega arith) (omega arith) (omega arith) (omega arith))

      homes : (n : ℕ) → n < q.slots → (x : Asked) → get_elem? c.calls.homes n ≡ some (some (std.Some x)) → (id_word_of (Then p q c ws ids (calls_after (EndId m) found c.calls)) n).state ≢ 0 → IsIdOf has x.operation (call_id n (id_word_of (Then p q c ws ids (calls_after (EndId m) found c.calls)) n).first)
      homes n inside x e some_ = dite (ℕ_discrete n m) (λ same. absurd (some_ (free n same))) (λ far. kept_home (EndId m) next found t is may n inside (slot_keeps (EndId m) found t is may n inside far) x e some_)
  on_ids (FreeId m) next found t is may b g true_ = settle (FreeId m) next found t is may Other (g.1 found has (grows_same has) tt) tt (all_homes (FreeId m) next found t is may (λ n e. e)) (kept_ats (FreeId m) next found t is may (λ o inside. low_at (tag_index m) 0 o (let low = may.0 in omega (arith, low))))
  on_ids (TakeCall m) next found t is may b g true_ = settle (TakeCall m) next found t is may (taken_behind m b) (g.1 found has (grows_same has) own) (taken b true_) homes (kept_ats (TakeCall m) next found t is may (λ o inside. refl))
    where
      own : (f : ℕ) → b ≡ HasLock m f → IsIdOf has found.operation (call_id m f)
      own f e = let z : IsTrueOf c (HasLock m f) (Aside (TakeCall m) next) = subst (λ y. IsTrueOf c y (Aside (TakeCall m) next)) e true_ in let x = z refl in subst (λ y. IsIdOf has found.operation (call_id m y)) x.0 (owned.homes m may.0 found (called (get_elem? c.calls.homes m) found is) x.1)

      locked : (j f : ℕ) (e : Bool) → (j == m) ≡ e → (j ≡ m → IsTrue c (HasLock j f)) → IsTrue c (cond e (HasTaken j f) Other)
      locked j f false e x = tt
      locked j f true e x = x (eqb-true j m e)

      same_true : (d : Behind) → IsTrue c d → ((j : ℕ) (x : Asked) → d ≡ HasPut j x → ⊥) → IsTrue (Then p q c ws ids (calls_after (TakeCall m) found c.calls)) d
      same_true Other x no_ = tt
      same_true (HasClaimed j) x no_ = x
      same_true (HasPut j y) x no_ = absurd (no_ j y refl)
      same_true (HasLock j f) x no_ = x
      same_true (HasTaken j f) x no_ = x

      no_put : (j f : ℕ) (e : Bool) (k : ℕ) (x : Asked) → cond e (HasTaken j f) Other ≡ HasPut k x → ⊥
      no_put j f true k x z = let y : HasTaken j f ≡ HasPut k x = z in cc
      no_put j f false k x z = let y : Other ≡ HasPut k x = z in cc

      taken : (d : Behind) → IsTrueOf c d (Aside (TakeCall m) next) → IsTrue (Then p q c ws ids (calls_after (TakeCall m) found c.calls)) (taken_behind m d)
      taken Other x = tt
      taken (HasClaimed j) x = tt
      taken (HasPut j y) x = tt
      taken (HasLock j f) x = same_true (cond (j == m) (HasTaken j f) Other) (locked j f (j == m) refl x) (no_put j f (j == m))
      taken (HasTaken j f) x = tt

      homes : (n : ℕ) → n < q.slots → (x : Asked) → get_elem? (set c.calls.homes m (some std.None)) n ≡ some (some (std.Some x)) → (id_word_of c n).state ≢ 0 → IsIdOf has x.operation (call_id n (id_word_of c n).first)
      homes n inside x e some_ = dite (ℕ_discrete n m)
          (λ same. let z : some std.None ≡ some (std.Some x) = some-injective (some std.None) (some (std.Some x)) (sym (set_here c.calls.homes m (some std.None) (home_inside p q c ws ids m may.0)) ∙ ap (get_elem? (set c.calls.homes m (some std.None))) (sym same) ∙ e) in
          absurd (let y : std.None ≡ std.Some x = some-injective std.None (std.Some x) z in cc))
          (λ far. kept_home (TakeCall m) next found t is may n inside (slot_keeps (TakeCall m) found t is may n inside far) x e some_)
  on_ids (TakeBytes k room) next found t is may b g true_ = settle (TakeBytes k room) next found t is may Other (g.1 found has (grows_same has) tt) tt (all_homes (TakeBytes k room) next found t is may (λ n e. e)) (kept_ats (TakeBytes k room) next found t is may (λ o inside. given found o))
    where
      given : (x : Taking) (o : ℕ) → get_or (more_given k x c.calls).words (at_index q o) 0 ≡ get_or c.calls.words (at_index q o) 0
      given (Bytes bytes) o = refl
      given Nothing o = refl
      given NoMore o = refl
      given AtEnd o = refl
      given Closed o = refl
      given Broken o = refl

  -- ## Any step

  on_aside : (step : Step) (next : Found step → Program) (t : Option Taking) → IdGoesOn p q u (Aside step next) → (b : Behind) → Owns has (left i) b (Aside step next) → IsTrueOf c b (Aside step next) → (x : Option (Found step)) → found_in step c.calls t ≡ x → After (with_found p i seat c step x next)
  on_aside step next t go b g true_ none is = before
  on_aside step next t go b g true_ (some found) is = on_ids step next found t is go.0 b g true_

  by_letter : (r : ℕ) (next : HeadedBytes → Program) → ((letter : HeadedBytes) → Owns has (left i) Other (next letter)) → (x : Option HeadedBytes) → After (with_message p i seat c r x next)
  by_letter r next g none = before
  by_letter r next g (some letter) = on_sockets Other (next letter) seat.hand c.words (set c.homes r none) (g letter) tt

  by_link : (k : ℕ) (next : ℕ → Program) → ((n : ℕ) → Owns has (left i) Other (next n)) → (x : Option (List ℕ × ℕ)) → After (with_link p i seat c k x next)
  by_link k next g none = before
  by_link k next g (some home) = on_sockets Other (next home.1) _ c.words _ (g home.1) tt

  by_put : (bytes : List ℕ) (next : Put → Program) → ((answer : Put) → Owns has (left i) Other (next answer)) → (answer : Answer) → After (with_put p i seat c bytes answer next)
  by_put bytes next g (OfPut answer) = on_sockets Other (next answer) _ c.words c.homes (g answer) tt
  by_put bytes next g _ = before

  by_ready : (next : Ready → Program) → ((answer : Ready) → Owns has (left i) Other (next answer)) → (answer : Answer) → After (with_ready p i seat c answer next)
  by_ready next g (OfReady answer) = on_sockets Other (next answer) seat.hand c.words c.homes (g answer) tt
  by_ready next g _ = before

  of_first : (answer : Answer) (program : Program) (b : Behind) → Owns has (left i) b program → IsTrueOf c b program → IdGoesOn p q u program → FitsFirst p c program → After (step_with p i seat c answer program)
  of_first answer (Do call next) b g true_ go fits = on_sockets Other (next (found_at c.words (word_of p call))) _ _ _ (g (found_at c.words (word_of p call)) fits has (grows_same has)) tt
  of_first answer (TakeMessage r next) b g true_ go fits = by_letter r (λ letter. next letter.0 letter.1) (λ letter. g letter.0 letter.1 has (grows_same has)) (message (λ (h : Home). h) c.homes r)
  of_first answer (TakeHome k next) b g true_ go fits = by_link k next (λ n. g n has (grows_same has)) (link_home (λ (h : Home). h) p c.homes k)
  of_first answer (PutHome k n after) b g true_ go fits = on_sockets Other after _ c.words _ (g has (grows_same has)) tt
  of_first answer (PutBytes k asked bytes next) b g true_ go fits = by_put bytes next (λ x. g x has (grows_same has)) answer
  of_first answer (AskReady k next) b g true_ go fits = by_ready next (λ x. g x has (grows_same has)) answer
  of_first answer (Aside step next) b g true_ go fits = on_aside step next (taken answer) go b g true_ (found_in step c.calls (taken answer)) refl
  of_first answer _ b g true_ go fits = before

  -- the first step of a round
  round_true : (head : Head) (next : Exit head → Program) (b : Behind) → Owns has (left i) b (Round head next) → IsTrueOf c b (Round head next) → (d : Behind) × Owns has (left i) d (round head next) × IsTrueOf c d (round head next)
  round_true (Decides id asked w e) next b g true_ = let r = owns_round has (left i) b (Decides id asked w e) next g in (
    b,
    r,
    subst (λ y. IsTrueOf c y (round (Decides id asked w e) next)) (sym g.0.1)
        (either_way (ends_call (parts w) e) _ _ (IsTrueOf c (HasTaken (id_slot id) g.0.0)) tt (λ _. let z : IsTrueOf c (HasTaken (id_slot id) g.0.0) (Round (Decides id asked w e) next) = subst (λ y. IsTrueOf c y (Round (Decides id asked w e) next)) g.0.1 true_ in z refl)),
  )
  round_true (Posts id e w) next b g true_ = (Other, owns_round has (left i) Other (Posts id e w) next g, tt)
  round_true (Unlocks j w advance) next b g true_ = (Other, owns_round has (left i) Other (Unlocks j w advance) next g, tt)
  round_true (Locks j sought w) next b g true_ = (Other, owns_round has (left i) Other (Locks j sought w) next g, tt)
  round_true (Joins id) next b g true_ = (Other, owns_round has (left i) Other (Joins id) next g, tt)
  round_true (Opens o) next b g true_ = (Other, owns_round has (left i) Other (Opens o) next g, tt)
  round_true (Reads r) next b g true_ = (Other, owns_round has (left i) Other (Reads r) next g, tt)
  round_true (Discards k total) next b g true_ = (Other, owns_round has (left i) Other (Discards k total) next g, tt)

  any_step : (answer : Answer) (program : Program) (b : Behind) → Owns has (left i) b program → IsTrueOf c b program → IdGoesOn p q u program → FitsFirst p c (first_step program) → After (tick_with p i seat c answer program)
  any_step answer (Write w after) b g true_ go fits = of_first answer (block w after) Other ((block_goes has (left i) w after (record { goes = λ more h d. owns_any more (left i) d after (g more h) })).goes has (grows_same has) Other) tt (idprograms.block_goes p q narrow u w after go) fits
  any_step answer (Round head next) b g true_ go fits = let r = round_true head next b g true_ in of_first answer (round head next) r.0 r.1 r.2 (ids_round p q u head next go) fits
  any_step answer (Do call next) b g true_ go fits = of_first answer (Do call next) b g true_ go fits
  any_step answer (TakeMessage r next) b g true_ go fits = of_first answer (TakeMessage r next) b g true_ go fits
  any_step answer (TakeHome k next) b g true_ go fits = of_first answer (TakeHome k next) b g true_ go fits
  any_step answer (PutHome k n after) b g true_ go fits = of_first answer (PutHome k n after) b g true_ go fits
  any_step answer (PutBytes k asked bytes next) b g true_ go fits = of_first answer (PutBytes k asked bytes next) b g true_ go fits
  any_step answer (AskReady k next) b g true_ go fits = of_first answer (AskReady k next) b g true_ go fits
  any_step answer (Aside step next) b g true_ go fits = of_first answer (Aside step next) b g true_ go fits
  any_step answer _ b g true_ go fits = before

-- a tick of any seat, where the words of the sockets are as they should be
pub owns_ticks : (p : Plan) (q : IdPlan) → q.slots ≤ 65536 → (calls : List ℕ) (c : Core) (ws : List IdView) → SoundIds p q c ws → (has : ℕ → ℕ) (left : ℕ → ℕ → Bool) → Owned q calls c has left → (m : Moment) → IsFittingIds p c m
    → (more : ℕ → ℕ) × (others : ℕ → ℕ → Bool) × Grows has more × Owned q calls (ticked p c m) more others
owns_ticks p q narrow calls c ws ids has left owned m fitting = by_seat (get_elem? c.seats m.seat) refl
  where
    by_seat : (x : Option SeatState) → get_elem? c.seats m.seat ≡ x → (more : ℕ → ℕ) × (others : ℕ → ℕ → Bool) × Grows has more × Owned q calls (elim x as (λ o. Core) [ none ↦ c | some seat ↦ tick_with p m.seat seat c m.answer seat.program ]) more others
    by_seat none e = (has, left, grows_same has, owned)
    by_seat (some seat) e = let v = view_of c.seats ws m.seat seat e ids.each in let o = owned.seats m.seat seat e in
        any_step p q narrow calls c ws ids has left owned m.seat seat v.0 e v.1 m.answer seat.program o.0 o.1 o.2 (ids.seats m.seat seat v.0 e v.1) (fitting seat e)
