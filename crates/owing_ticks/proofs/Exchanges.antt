-- Each exchange on an id word keeps the law.
use Rattle.std.proofs.Common.{◌≡◌, ℕ, ◌-◌, ◌<◌, ◌≤◌, ◌⊎◌, inl, inr, ⊎_elim, Bool, true, false, cond, eqb, eq-eqb, ne_eqb, List, ◌++◌, Option, length, set, get_or, get_or-set_same, get_or-set_other, refl, sym, ap, ◌∙◌, subst, arith}
use Rattle.std.specs.Prelude as std
use mathlib.Core.Logic.{dite}
use native.Mathlib.Decide.{ℕ_discrete}
use mathlib.Core.Option.{some}
use lib.ListN.{get_elem?}
use Rattle.sock_words.specs.declared.outcome.Outcome.{Outcome}
use Rattle.corr_core.specs.IdSlotWord.{Parts, parts, attempt_of, locked_word}
use Rattle.corr_core.specs.declared.marks.Plan.{Plan as IdPlan}
use Rattle.seat_programs.specs.id_rule.specs.LawfulIdTable as ids
use Rattle.seat_programs.specs.PostPrograms.{is_first}
use Rattle.seat_programs.specs.Cores.{Core, SeatState, Calls, waiting_at}
use Rattle.call_owing.specs.Owing.{Duty, Free, Looking, Owing, Among, DutyTo, duty_tokens, with_duty, freed, Posting, posts_on, leaves, has_ended}
use Rattle.call_owing.specs.SoundOwing.{id_word_of, at_of, retry_tokens, Past, Token, Distinct, IsAt, IsOpen, ErrorPast, Stored, OwingLaw}
use Rattle.call_owing.proofs.PostsAndDecisionsOwed.{true_false}
use Rattle.call_owing.proofs.OwedMarkChanges.{past_on}
use Rattle.call_owing.proofs.QuietIdSteps.{distinct_tail}
use Rattle.call_owing.proofs.OneIdWordChanges.{Forward, WordStep, worded}
use Rattle.sock_words.specs.PackedWords.{id_slot, id_first}

module _ (q : IdPlan) (life : ℕ → Option ℕ) (calls : List ℕ) (c : Core) (us : List Owing) (i : ℕ) (u : Owing) (law : OwingLaw q life calls c us) (at : get_elem? us i ≡ some u) (sized : length c.calls.words ≡ ids.all_words q)
    (ss : List SeatState) (os : List (std.Option Outcome)) (s : ℕ) (inside : s < q.slots) where
  -- the id word of slot s becomes x
  abbrev pub Calls' : ℕ → Calls
  Calls' x = record c.calls { words = set c.calls.words (ids.id_index s) x }

  abbrev pub Set : ℕ → Core
  Set x = record { words = c.words; homes = c.homes; seats = ss; outcomes = os; calls = Calls' x }

  pub word_set : (x j : ℕ) → j < q.slots → (id_word_of (Set x) j ≡ id_word_of c j) ⊎ ((j ≡ s) × (id_word_of (Set x) j ≡ parts x))
  word_set x j low = dite (ℕ_discrete j s)
      (λ e. inr (e, ap parts (ap (λ k. get_or (set c.calls.words (ids.id_index s) x) (ids.id_index k) 0) e ∙ get_or-set_same c.calls.words (ids.id_index s) x 0 (omega (arith, sized, inside)))))
      (λ ne. inl (ap parts (get_or-set_other c.calls.words (ids.id_index s) (ids.id_index j) x 0 (λ e. ne (omega (arith, e))))))

  pub ats_set : (x o : ℕ) → o < q.operations → at_of q (Set x) o ≡ at_of q c o
  ats_set x o low = get_or-set_other c.calls.words (ids.id_index s) (ids.at_index q o) x 0 (λ e. omega (arith, e, inside))

  pub own_past : (id n : ℕ) → Among id n u.knows → Past us id n
  own_past id n a = (i, u, at, a)

  pub tail : Distinct (retry_tokens (waiting_at c.calls.waiting i))
  tail = distinct_tail (duty_tokens u.duty) (retry_tokens (waiting_at c.calls.waiting i)) (law.distinct i u at)

  -- the same marks or a duty less
  abbrev pub Step : ℕ → Owing → Type 0
  Step x v = WordStep q life calls c us i u law at (Calls' x) refl ss os v s (parts x)

  pub stored_there : (x : ℕ) (back : (id n : ℕ) → Past us id n → IsAt q (Set x) id n → IsAt q c id n) → (d : Duty) → Stored q calls c us d → Stored q calls (Set x) (set us i u) d
  stored_there x back (Looking id n k o) st = (st.0, st.1, past_on q life calls c c us i u u law at (λ j m a. a) id n st.2, λ is. ats_set x o st.0 ∙ st.3 (back id n st.2 is), st.4)
  stored_there x back _ st = tt

  -- whoever is at an attempt that is past was so before
  pub back_at : (x : ℕ) → Forward (id_word_of c s) (parts x) → (id n : ℕ) → Past us id n → IsAt q (Set x) id n → IsAt q c id n
  back_at x forward id n p is = ⊎_elim (λ same. (is.0, ap (λ (y : Parts). y.first) (sym same) ∙ is.1, subst (λ (y : Parts). 0 < y.state) same is.2, ap (λ (y : Parts). y.attempt) (sym same) ∙ is.3))
      (λ b. let first : (parts x).first ≡ id_first id = ap (λ (y : Parts). y.first) (sym b.1) ∙ is.1 in let now : (parts x).attempt ≡ n = ap (λ (y : Parts). y.attempt) (sym b.1) ∙ is.3 in
      ⊎_elim (λ e. let low : id_first id < (id_word_of c s).first = subst (λ j. id_first id < (id_word_of c j).first) b.0 e.1 in absurd (⊎_elim (λ f. omega (arith, low, f, first)) (λ f. let z = f.0 in omega (arith, low, z, first)) forward))
      (λ y. let few : n ≤ (id_word_of c s).attempt = subst (λ j. n ≤ (id_word_of c j).attempt) b.0 y.3 in let at_first : (id_word_of c s).first ≡ id_first id = ap (λ j. (id_word_of c j).first) (sym b.0) ∙ y.1 in
      (y.0, y.1, y.2, ap (λ j. (id_word_of c j).attempt) b.0 ∙ ⊎_elim (λ f. absurd (let z : ⊥ = omega (arith, f, first, at_first) in z)) (λ f. let z = (f.1 (subst (λ j. 0 < (id_word_of c j).state) b.0 y.2)).1 in omega (arith, few, z, now)) forward)) (law.past id n p))
      (word_set x (id_slot id) is.0)

  -- ## Words that say the same or lock

  -- the word goes on at the same range and attempt, and it isn't opened
  pub record Holds (x : ℕ) : Type 0 where
    pub first : (parts x).first ≡ (id_word_of c s).first
    pub attempt : (parts x).attempt ≡ (id_word_of c s).attempt
    pub state : 0 < (id_word_of c s).state → 0 < (parts x).state
    pub opens : (parts x).state ≡ 1 → (id_word_of c s).state ≡ 1
    pub errors : (id : ℕ) → id_slot id ≡ s → (parts x).first ≡ id_first id → 0 < (parts x).state → ErrorPast us id (parts x).oldest × ErrorPast us id (parts x).second

  module _ (x : ℕ) (h : Holds x) where
    forward : Forward (id_word_of c s) (parts x)
    forward = inr (h.first, λ some_. (h.state some_, (let z = h.attempt in omega (arith, z))))

    tokens_on : (id n j : ℕ) → Token c us id n j → id_slot id ≡ s → IsAt q c id n → ((id_word_of c s).first < (parts x).first) ⊎ (((parts x).first ≡ (id_word_of c s).first) × (0 < (parts x).state) × ((parts x).attempt ≡ n))
    tokens_on id n j t e is = inr (h.first, h.state (subst (λ k. 0 < (id_word_of c k).state) e is.2), h.attempt ∙ ap (λ k. (id_word_of c k).attempt) (sym e) ∙ is.3)

    opens : (id n : ℕ) (d : Duty) → id_slot id ≡ s → (parts x).first ≡ id_first id → (parts x).state ≡ 1 → (parts x).attempt ≡ n → IsOpen c id n ⊎ DutyTo id n d
    opens id n d e f st a = inl (ap (λ k. (id_word_of c k).first) e ∙ sym h.first ∙ f, ap (λ k. (id_word_of c k).state) e ∙ h.opens st, ap (λ k. (id_word_of c k).attempt) e ∙ sym h.attempt ∙ a)

    errors_on : (v : Owing) → ((id n : ℕ) → Among id n u.knows → Among id n v.knows) → (id : ℕ) → id_slot id ≡ s → (parts x).first ≡ id_first id → 0 < (parts x).state → ErrorPast (set us i v) id (parts x).oldest × ErrorPast (set us i v) id (parts x).second
    errors_on v knows id e f st = let p = h.errors id e f st in (still (parts x).oldest p.0, still (parts x).second p.1)
      where
        still : (e : ℕ) → ErrorPast us id e → ErrorPast (set us i v) id e
        still e p some_ = ⊎_elim (λ y. inl y) (λ y. inr (past_on q life calls c c us i u v law at knows id (attempt_of e) y)) (p some_)

    -- the duty is this one now, with none but its tokens
    duty_step : (d : Duty) → ((id n : ℕ) → Among id n (duty_tokens d) → Among id n (duty_tokens u.duty)) → Distinct (duty_tokens d ++ retry_tokens (waiting_at c.calls.waiting i))
        → ((id n : ℕ) → id_slot id < q.slots → IsOpen c id n → IsOpen (Set x) id n → DutyTo id n u.duty → DutyTo id n d) → Stored q calls (Set x) (set us i (with_duty d u)) d → Step x (with_duty d u)
    duty_step d tokens distinct owes own = record {
      word = word_set x;
      ats = ats_set x;
      forward = forward;
      tokens_on = tokens_on;
      opens = λ id n e f st a. opens id n d e f st a;
      errors = λ id low e f st. errors_on (with_duty d u) (λ j m y. y) id e f st;
      owes = owes;
      knows = λ id n a. a;
      learns = λ id n a. inl (own_past id n a);
      tokens = λ id n a. inl (tokens id n a);
      distinct = distinct;
      link = refl;
      left = refl;
      dead = refl;
      keeps = refl;
      own = own;
    }

    pub same_step : Step x u
    same_step = duty_step u.duty (λ id n a. a) (law.distinct i u at) (λ id n low is is' d. d) (stored_there x (back_at x forward) u.duty (law.stored i u at))

    -- and the seat owes nothing any more
    pub freed_step : ((id n : ℕ) → id_slot id < q.slots → IsOpen c id n → IsOpen (Set x) id n → DutyTo id n u.duty → ⊥) → Step x (freed u)
    freed_step none_ = duty_step Free (λ id n a. absurd a) tail none_ tt

    -- a word of the id that its seat looks for a post, a lock or a look
    pub posting_keeps : (found : ℕ) (won : Bool) (v : Owing) → parts found ≡ id_word_of c s → (won ≡ true → (parts x).state ≡ 1 → ⊥) → Posting s found won u v → OwingLaw q life calls (Set x) (set us i v)
    posting_keeps found won v is shut (posts_on e) = subst (λ y. OwingLaw q life calls (Set x) (set us i y)) (sym e) (worded q life calls c us i u law at (Calls' x) refl ss os u s (parts x) same_step)
    posting_keeps found won v is shut (leaves id n duty slot off e) = subst (λ y. OwingLaw q life calls (Set x) (set us i y)) (sym e) (worded q life calls c us i u law at (Calls' x) refl ss os (freed u) s (parts x) (freed_step none_))
      where
        none_ : (j m : ℕ) → id_slot j < q.slots → IsOpen c j m → IsOpen (Set x) j m → DutyTo j m u.duty → ⊥
        none_ j m low is_open now d = let t : (id ≡ j) × (n ≡ m) = subst (DutyTo j m) duty d in let here : id_slot j ≡ s = ap id_slot (sym t.0) ∙ slot in
            let is_c : IsOpen c id n = subst (λ k. IsOpen c k n) (sym t.0) (subst (λ k. IsOpen c j k) (sym t.1) is_open) in
            let w : won ≡ true = off (ap (λ (y : Parts). y.first) is ∙ ap (λ k. (id_word_of c k).first) (sym slot) ∙ is_c.0, ap (λ (y : Parts). y.state) is ∙ ap (λ k. (id_word_of c k).state) (sym slot) ∙ is_c.1, ap (λ (y : Parts). y.attempt) is ∙ ap (λ k. (id_word_of c k).attempt) (sym slot) ∙ is_c.2) in
            shut w (ap (λ (y : Parts). y.state) (sym (there j here low)) ∙ now.1)
          where
            there : (j : ℕ) → id_slot j ≡ s → id_slot j < q.slots → id_word_of (Set x) (id_slot j) ≡ parts x
            there j e low = ap parts (ap (λ k. get_or (set c.calls.words (ids.id_index s) x) (ids.id_index k) 0) e ∙ get_or-set_same c.calls.words (ids.id_index s) x 0 (omega (arith, sized, inside)))
    posting_keeps found won v is shut (has_ended id n duty slot off e) = subst (λ y. OwingLaw q life calls (Set x) (set us i y)) (sym e) (worded q life calls c us i u law at (Calls' x) refl ss os (freed u) s (parts x) (freed_step none_))
      where
        none_ : (j m : ℕ) → id_slot j < q.slots → IsOpen c j m → IsOpen (Set x) j m → DutyTo j m u.duty → ⊥
        none_ j m low is_open now d = let t : (id ≡ j) × (n ≡ m) = subst (DutyTo j m) duty d in
            let is_c : IsOpen c id m = subst (λ k. IsOpen c k m) (sym t.0) is_open in
            let f : (parts found).first ≡ id_first id = ap (λ (y : Parts). y.first) is ∙ ap (λ k. (id_word_of c k).first) (sym slot) ∙ is_c.0 in
            let st : (parts found).state ≡ 1 = ap (λ (y : Parts). y.state) is ∙ ap (λ k. (id_word_of c k).state) (sym slot) ∙ is_c.1 in
            true_false (is_first (id_first id) (parts found)) (Rattle.call_owing.proofs.PostsAndDecisionsOwed.both_true (eqb (parts found).first (id_first id)) (Rattle.std.proofs.Common.not (eqb (parts found).state 0)) (eq-eqb (parts found).first (id_first id) f) (ap Rattle.std.proofs.Common.not (ne_eqb (parts found).state 0 (λ z. omega (arith, z, st))))) off

  -- the word as it was
  pub stays_so : (x : ℕ) → parts x ≡ id_word_of c s → Holds x
  stays_so x is = record {
    first = ap (λ (y : Parts). y.first) is;
    attempt = ap (λ (y : Parts). y.attempt) is;
    state = λ some_. subst (λ (y : Parts). 0 < y.state) (sym is) some_;
    opens = λ one. ap (λ (y : Parts). y.state) (sym is) ∙ one;
    errors = λ id e f some_. subst (λ (y : Parts). ErrorPast us id y.oldest × ErrorPast us id y.second) (ap (id_word_of c) e ∙ sym is)
        (law.errors id (subst (λ k. k < q.slots) (sym e) inside) (ap (λ k. (id_word_of c k).first) e ∙ ap (λ (y : Parts). y.first) (sym is) ∙ f) (subst (λ k. 0 < (id_word_of c k).state) (sym e) (subst (λ (y : Parts). 0 < y.state) is some_)));
  }

  -- an open id is locked
  pub locks_so : (x : ℕ) → (id_word_of c s).state ≡ 1 → parts x ≡ locked_word (id_word_of c s) → Holds x
  locks_so x one is = record {
    first = ap (λ (y : Parts). y.first) is;
    attempt = ap (λ (y : Parts). y.attempt) is;
    state = λ some_. subst (λ (y : Parts). 0 < y.state) (sym is) (omega arith);
    opens = λ z. absurd (let y : 2 ≡ 1 = ap (λ (y : Parts). y.state) (sym is) ∙ z in let w : ⊥ = omega (arith, y) in w);
    errors = λ id e f some_. subst (λ (y : Parts). ErrorPast us id y.oldest × ErrorPast us id y.second) (sym is)
        (subst (λ k. ErrorPast us id (id_word_of c k).oldest × ErrorPast us id (id_word_of c k).second) e
        (law.errors id (subst (λ k. k < q.slots) (sym e) inside) (ap (λ k. (id_word_of c k).first) e ∙ ap (λ (y : Parts). y.first) (sym is) ∙ f) (subst (λ k. 0 < (id_word_of c k).state) (sym e) (omega (arith, one)))));
  }

  -- an error is queued behind those of a lock
  pub queues_so : (x e : ℕ) → (id_word_of c s).state ≡ 2 → parts x ≡ record { first = (id_word_of c s).first; state = 2; range = (id_word_of c s).range; attempt = (id_word_of c s).attempt; oldest = cond (eqb (id_word_of c s).oldest 0) e (id_word_of c s).oldest; second = cond (eqb (id_word_of c s).oldest 0) 0 e }
      → ((id : ℕ) → id_slot id ≡ s → (id_word_of c s).first ≡ id_first id → (attempt_of e ≡ 7) ⊎ Past us id (attempt_of e)) → Holds x
  queues_so x e two is known = record {
    first = ap (λ (y : Parts). y.first) is;
    attempt = ap (λ (y : Parts). y.attempt) is;
    state = λ some_. subst (λ (y : Parts). 0 < y.state) (sym is) (omega arith);
    opens = λ z. absurd (let y : 2 ≡ 1 = ap (λ (y : Parts). y.state) (sym is) ∙ z in let w : ⊥ = omega (arith, y) in w);
    errors = λ id h f some_. let first : (id_word_of c s).first ≡ id_first id = ap (λ (y : Parts). y.first) (sym is) ∙ f in
        subst (λ (y : Parts). ErrorPast us id y.oldest × ErrorPast us id y.second) (sym is) (by_oldest id (known id h first)
        (subst (λ k. ErrorPast us id (id_word_of c k).oldest) h (law.errors id (subst (λ k. k < q.slots) (sym h) inside) (ap (λ k. (id_word_of c k).first) h ∙ first) (subst (λ k. 0 < (id_word_of c k).state) (sym h) (omega (arith, two)))).0) (eqb (id_word_of c s).oldest 0));
  }
    where
      by_oldest : (id : ℕ) → (attempt_of e ≡ 7) ⊎ Past us id (attempt_of e) → ErrorPast us id (id_word_of c s).oldest → (b : Bool) → ErrorPast us id (cond b e (id_word_of c s).oldest) × ErrorPast us id (cond b 0 e)
      by_oldest id k o true = ((λ _. k), (λ z. absurd (z refl)))
      by_oldest id k o false = (o, (λ _. k))
