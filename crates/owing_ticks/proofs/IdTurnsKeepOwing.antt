-- The steps that make an id, give its lock back or end it keep the law.
use Rattle.std.proofs.Common.{◌≡◌, ℕ, ◌+◌, ◌<◌, ◌≤◌, ◌⊎◌, inl, inr, ⊎_elim, Bool, true, false, cond, eqb, List, ◌++◌, Option, length, set, get_or-set_same, refl, sym, ap, ◌∙◌, subst, arith}
use Rattle.std.specs.Prelude as std
use mathlib.Core.Option.{some}
use lib.ListN.{get_elem?}
use Rattle.sock_words.specs.declared.outcome.Outcome.{Outcome}
use Rattle.corr_core.specs.IdSlotWord.{Parts, parts, attempt_of, made_word, unlocked_word, free_word}
use Rattle.corr_core.specs.declared.marks.Plan.{Plan as IdPlan}
use Rattle.seat_programs.specs.id_rule.specs.LawfulIdTable as ids
use Rattle.seat_programs.specs.Cores.{Core, SeatState, waiting_at}
use Rattle.call_owing.specs.Owing.{Duty, Free, Trying, Owing, Among, DutyTo, duty_tokens, with_duty, freed, with_known, with_error, unlocked_by, Ending, ends_other, ends_own, MayUnlock}
use Rattle.call_owing.specs.SoundOwing.{id_word_of, retry_tokens, Past, Token, Distinct, HasEnded, IsAt, IsOpen, ErrorPast, Stored, OwingLaw}
use Rattle.call_owing.proofs.PostsAndDecisionsOwed.{id_back, not_equal}
use Rattle.call_owing.proofs.OwedMarkChanges.{past_on, among_right}
use Rattle.call_owing.proofs.OneIdWordChanges.{worded}
use Rattle.owing_ticks.proofs.Exchanges.{word_set, ats_set, own_past, tail, stored_there, back_at}
use Rattle.sock_words.specs.PackedWords.{call_id, id_slot, id_first, bit}

module _ (q : IdPlan) (narrow : q.slots ≤ 65536) (life : ℕ → Option ℕ) (calls : List ℕ) (c : Core) (us : List Owing) (i : ℕ) (u : Owing) (law : OwingLaw q life calls c us) (at : get_elem? us i ≡ some u) (sized : length c.calls.words ≡ ids.all_words q)
    (ss : List SeatState) (os : List (std.Option Outcome)) (s : ℕ) (inside : s < q.slots) where
  abbrev There : ℕ → Core
  There x = record { words = c.words; homes = c.homes; seats = ss; outcomes = os; calls = record c.calls { words = set c.calls.words (ids.id_index s) x } }

  here : (x : ℕ) → id_word_of (There x) s ≡ parts x
  here x = ap parts (get_or-set_same c.calls.words (ids.id_index s) x 0 (omega (arith, sized, inside)))

  slot_of : (f : ℕ) → f < 4294967296 → id_slot (call_id s f) ≡ s
  slot_of f low = omega (arith, low)

  first_of : (f : ℕ) → f < 4294967296 → id_first (call_id s f) ≡ f
  first_of f low = omega (arith, low)

  -- an id of this slot and first version
  only_id : (id f : ℕ) → id_slot id ≡ s → id_first id ≡ f → id ≡ call_id s f
  only_id id f e g = sym (id_back id) ∙ ap (λ x. call_id x (id_first id)) e ∙ ap (call_id s) g

  -- where the word is at the attempt n of the range f, with a state, and no token nor past is of it, the seat may begin to try it
  module _ (x n : ℕ) (v : Owing) (low : (id_word_of c s).first < 4294967296) (first : (parts x).first ≡ (id_word_of c s).first) (some_ : 0 < (parts x).state) (attempt : (parts x).attempt ≡ n)
      (duty : v.duty ≡ Trying (call_id s (id_word_of c s).first) n)
      (no_token : (j : ℕ) → Token c us (call_id s (id_word_of c s).first) n j → ⊥) (no_past : Past us (call_id s (id_word_of c s).first) n → ⊥) where
    abbrev id : ℕ
    id = call_id s (id_word_of c s).first

    is_at : IsAt q (There x) (call_id s (id_word_of c s).first) n
    is_at = let e = slot_of (id_word_of c s).first low in let w : id_word_of (There x) (id_slot (call_id s (id_word_of c s).first)) ≡ parts x = ap (id_word_of (There x)) e ∙ here x in
        (subst (λ k. k < q.slots) (sym e) inside, ap (λ (y : Parts). y.first) w ∙ first ∙ sym (first_of (id_word_of c s).first low), subst (λ (y : Parts). 0 < y.state) (sym w) some_, ap (λ (y : Parts). y.attempt) w ∙ attempt)

    pub new_tokens : (j m : ℕ) → Among j m (duty_tokens v.duty) → Among j m (duty_tokens u.duty) ⊎ (IsAt q (There x) j m × ((l : ℕ) → Token c us j m l → ⊥) × (Past us j m → ⊥))
    new_tokens j m a = let b : Among j m (duty_tokens (Trying (call_id s (id_word_of c s).first) n)) = subst (λ (d : Duty). Among j m (duty_tokens d)) duty a in
        ⊎_elim (λ e. inr (
          subst (λ k. IsAt q (There x) k m) e.0 (subst (λ k. IsAt q (There x) (call_id s (id_word_of c s).first) k) e.1 is_at),
          (λ l t. no_token l (subst (λ k. Token c us k n l) (sym e.0) (subst (λ k. Token c us j k l) (sym e.1) t))),
          (λ p. no_past (subst (λ k. Past us k n) (sym e.0) (subst (λ k. Past us j k) (sym e.1) p))),
        )) (λ z. absurd z) b

    pub new_distinct : Distinct (duty_tokens v.duty ++ retry_tokens (waiting_at c.calls.waiting i))
    new_distinct = subst (λ (d : Duty). Distinct (duty_tokens d ++ retry_tokens (waiting_at c.calls.waiting i))) (sym duty)
        ((λ a. no_token i (u, at, among_right (call_id s (id_word_of c s).first) n (duty_tokens u.duty) (retry_tokens (waiting_at c.calls.waiting i)) a)), tail q life calls c us i u law at sized ss os s inside)

    pub new_opens : (j m : ℕ) → id_slot j ≡ s → (parts x).first ≡ id_first j → (parts x).attempt ≡ m → DutyTo j m v.duty
    new_opens j m e f a = subst (DutyTo j m) (sym duty) (sym (only_id j (id_word_of c s).first e (sym f ∙ first)), sym attempt ∙ a)

  -- ## Making an id

  pub makes_keep : (x range : ℕ) → (id_word_of c s).first < 4294967296 → (id_word_of c s).state ≡ 0 → parts x ≡ made_word (id_word_of c s).first range → u.duty ≡ Free
      → OwingLaw q life calls (There x) (set us i (with_duty (Trying (call_id s (id_word_of c s).first) 0) u))
  makes_keep x range low none_ is free = worded q life calls c us i u law at (record c.calls { words = set c.calls.words (ids.id_index s) x }) refl ss os v s (parts x) record {
    word = word_set q life calls c us i u law at sized ss os s inside x;
    ats = ats_set q life calls c us i u law at sized ss os s inside x;
    forward = inr (first, (λ z. absurd (let w : ⊥ = omega (arith, z, none_) in w)));
    tokens_on = λ j m l t e a. absurd (let z = a.2 in let y : (id_word_of c (id_slot j)).state ≡ 0 = ap (λ k. (id_word_of c k).state) e ∙ none_ in let w : ⊥ = omega (arith, z, y) in w);
    opens = λ j m e f st a. inr (new_opens x 0 v low first some_ attempt refl no_token no_past j m e f a);
    errors = λ j l e f st. ((λ some_. absurd (some_ (ap (λ (y : Parts). y.oldest) is))), (λ some_. absurd (some_ (ap (λ (y : Parts). y.second) is))));
    owes = λ j m l o o' d. absurd (subst (DutyTo j m) free d);
    knows = λ j m a. a;
    learns = λ j m a. inl (own_past q life calls c us i u law at sized ss os s inside j m a);
    tokens = new_tokens x 0 v low first some_ attempt refl no_token no_past;
    distinct = new_distinct x 0 v low first some_ attempt refl no_token no_past;
    link = refl;
    left = refl;
    dead = refl;
    keeps = refl;
    own = tt;
  }
    where
      v : Owing
      v = with_duty (Trying (call_id s (id_word_of c s).first) 0) u

      first : (parts x).first ≡ (id_word_of c s).first
      first = ap (λ (y : Parts). y.first) is

      some_ : 0 < (parts x).state
      some_ = subst (λ (y : Parts). 0 < y.state) (sym is) (omega arith)

      attempt : (parts x).attempt ≡ 0
      attempt = ap (λ (y : Parts). y.attempt) is

      not_made : (j : ℕ) → HasEnded q c (call_id s (id_word_of c s).first) → ⊥
      not_made j e = let z : id_first (call_id s (id_word_of c s).first) < (id_word_of c s).first = subst (λ k. id_first (call_id s (id_word_of c s).first) < (id_word_of c k).first) (slot_of (id_word_of c s).first low) e.1 in let y = first_of (id_word_of c s).first low in omega (arith, z, y)

      not_there : 0 < (id_word_of c (id_slot (call_id s (id_word_of c s).first))).state → ⊥
      not_there z = let y : 0 < (id_word_of c s).state = subst (λ k. 0 < (id_word_of c k).state) (slot_of (id_word_of c s).first low) z in omega (arith, y, none_)

      no_token : (j : ℕ) → Token c us (call_id s (id_word_of c s).first) 0 j → ⊥
      no_token j t = ⊎_elim (λ e. not_made j e) (λ a. not_there a.2) (law.current (call_id s (id_word_of c s).first) 0 j t)

      no_past : Past us (call_id s (id_word_of c s).first) 0 → ⊥
      no_past p = ⊎_elim (λ e. not_made 0 e) (λ a. not_there a.2) (law.past (call_id s (id_word_of c s).first) 0 p)

  -- ## Giving a lock back

  error_duty : (id e : ℕ) (y : Owing) → (with_error id e y).duty ≡ y.duty
  error_duty id e y = by_zero (eqb e 0) (eqb (attempt_of e) 7)
    where
      by_zero : (z w : Bool) → (cond z y (cond w y (with_known id (attempt_of e) y))).duty ≡ y.duty
      by_zero true w = refl
      by_zero false true = refl
      by_zero false false = refl

  -- what else stays
  error_rest : (id e : ℕ) (y : Owing) → ((with_error id e y).link ≡ y.link) × ((with_error id e y).left ≡ y.left) × ((with_error id e y).dead ≡ y.dead) × ((with_error id e y).keeps ≡ y.keeps)
  error_rest id e y = by_zero (eqb e 0) (eqb (attempt_of e) 7)
    where
      by_zero : (z w : Bool) → let v = cond z y (cond w y (with_known id (attempt_of e) y)) in (v.link ≡ y.link) × (v.left ≡ y.left) × (v.dead ≡ y.dead) × (v.keeps ≡ y.keeps)
      by_zero true w = (refl, refl, refl, refl)
      by_zero false true = (refl, refl, refl, refl)
      by_zero false false = (refl, refl, refl, refl)

  error_learns : (id e : ℕ) (y : Owing) → ErrorPast us id e → (j m : ℕ) → Among j m (with_error id e y).knows → Among j m y.knows ⊎ Past us j m
  error_learns id e y p j m = by_zero (eqb e 0) (eqb (attempt_of e) 7) refl refl
    where
      by_zero : (z w : Bool) → eqb e 0 ≡ z → eqb (attempt_of e) 7 ≡ w → Among j m (cond z y (cond w y (with_known id (attempt_of e) y))).knows → Among j m y.knows ⊎ Past us j m
      by_zero true w a b k = inl k
      by_zero false true a b k = inl k
      by_zero false false a b (inl k) = ⊎_elim (λ whole. absurd (not_equal (attempt_of e) 7 b whole)) (λ past. inr (subst (λ x. Past us x m) k.0 (subst (λ x. Past us id x) k.1 past))) (p (not_equal e 0 a))
      by_zero false false a b (inr k) = inl k

  error_knows : (id e : ℕ) (y : Owing) (j m : ℕ) → Among j m y.knows → Among j m (with_error id e y).knows
  error_knows id e y j m k = by_zero (eqb e 0) (eqb (attempt_of e) 7)
    where
      by_zero : (z w : Bool) → Among j m (cond z y (cond w y (with_known id (attempt_of e) y))).knows
      by_zero true w = k
      by_zero false true = k
      by_zero false false = inr k

  module _ (x from : ℕ) (advance : Bool) (low : (parts from).first < 4294967296) (is_from : parts from ≡ id_word_of c s) (two : (parts from).state ≡ 2) (is : parts x ≡ unlocked_word (parts from) (bit advance)) (may : MayUnlock s from advance u) where
    abbrev own_id : ℕ
    own_id = call_id s (parts from).first

    abbrev now : ℕ
    now = (parts from).attempt + bit advance

    abbrev base : Owing
    base = cond advance (with_duty (Trying (call_id s (parts from).first) ((parts from).attempt + 1)) u) u

    base_duty : (b : Bool) → MayUnlock s from b u → (cond b (with_duty (Trying (call_id s (parts from).first) ((parts from).attempt + 1)) u) u).duty ≡ Trying (call_id s (parts from).first) ((parts from).attempt + bit b)
    base_duty true m = refl
    base_duty false m = m ∙ ap (Trying (call_id s (parts from).first)) (let z : (parts from).attempt ≡ (parts from).attempt + 0 = omega arith in z)

    base_rest : (b : Bool) → let v = cond b (with_duty (Trying (call_id s (parts from).first) ((parts from).attempt + 1)) u) u in (v.link ≡ u.link) × (v.left ≡ u.left) × (v.dead ≡ u.dead) × (v.keeps ≡ u.keeps) × (v.knows ≡ u.knows)
    base_rest true = (refl, refl, refl, refl, refl)
    base_rest false = (refl, refl, refl, refl, refl)

    v_duty : (unlocked_by s from advance u).duty ≡ Trying (call_id s (parts from).first) ((parts from).attempt + bit advance)
    v_duty = error_duty (call_id s (parts from).first) (parts from).oldest (cond advance (with_duty (Trying (call_id s (parts from).first) ((parts from).attempt + 1)) u) u) ∙ base_duty advance may

    slot_here : id_slot (call_id s (parts from).first) ≡ s
    slot_here = slot_of (parts from).first low

    first_here : id_first (call_id s (parts from).first) ≡ (parts from).first
    first_here = first_of (parts from).first low

    c_first : (id_word_of c (id_slot (call_id s (parts from).first))).first ≡ (parts from).first
    c_first = ap (λ k. (id_word_of c k).first) slot_here ∙ ap (λ (y : Parts). y.first) (sym is_from)

    not_ended : HasEnded q c (call_id s (parts from).first) → ⊥
    not_ended e = let z = e.1 in omega (arith, z, c_first, first_here)

    c_attempt : (id_word_of c (id_slot (call_id s (parts from).first))).attempt ≡ (parts from).attempt
    c_attempt = ap (λ k. (id_word_of c k).attempt) slot_here ∙ ap (λ (y : Parts). y.attempt) (sym is_from)

    -- with an advance nobody has a token of the attempt that ends, nor of the next
    no_old : (b : Bool) → MayUnlock s from b u → b ≡ true → (j : ℕ) → Token c us (call_id s (parts from).first) (parts from).attempt j → ⊥
    no_old true m e j t = law.coming (call_id s (parts from).first) (parts from).attempt j t (i, u, at, m.1)
    no_old false m e j t = let z : false ≡ true = e in cc

    no_next : (j : ℕ) → Token c us (call_id s (parts from).first) ((parts from).attempt + 1) j → ⊥
    no_next j t = ⊎_elim (λ e. not_ended e) (λ a. let z = a.3 in omega (arith, z, c_attempt)) (law.current (call_id s (parts from).first) ((parts from).attempt + 1) j t)

    no_later : Past us (call_id s (parts from).first) ((parts from).attempt + 1) → ⊥
    no_later p = ⊎_elim (λ e. not_ended e) (λ a. let z = a.3 in omega (arith, z, c_attempt)) (law.past (call_id s (parts from).first) ((parts from).attempt + 1) p)

    x_first : (parts x).first ≡ (id_word_of c s).first
    x_first = ap (λ (y : Parts). y.first) is ∙ ap (λ (y : Parts). y.first) is_from

    x_attempt : (parts x).attempt ≡ (parts from).attempt + bit advance
    x_attempt = ap (λ (y : Parts). y.attempt) is

    x_state : 0 < (parts x).state
    x_state = subst (λ (y : Parts). 0 < y.state) (sym is) (by_empty (eqb (parts from).oldest 0))
      where
        by_empty : (b : Bool) → 0 < cond b 1 2
        by_empty true = omega arith
        by_empty false = omega arith

    locked_c : (id_word_of c s).state ≡ 2
    locked_c = ap (λ (y : Parts). y.state) (sym is_from) ∙ two

    tokens_on : (b : Bool) → MayUnlock s from b u → (parts x).attempt ≡ (parts from).attempt + bit b → (j m l : ℕ) → Token c us j m l → id_slot j ≡ s → IsAt q c j m → (parts x).attempt ≡ m
    tokens_on true may e j m l t slot a = absurd (no_old true may refl l (subst (λ k. Token c us k (parts from).attempt l) (only_id j (parts from).first slot (sym a.1 ∙ ap (λ k. (id_word_of c k).first) slot ∙ ap (λ (y : Parts). y.first) (sym is_from)))
        (subst (λ k. Token c us j k l) (sym a.3 ∙ ap (λ k. (id_word_of c k).attempt) slot ∙ ap (λ (y : Parts). y.attempt) (sym is_from)) t)))
    tokens_on false may e j m l t slot a = let z = ap (λ (y : Parts). y.attempt) is_from in let y = ap (λ k. (id_word_of c k).attempt) slot in let w = a.3 in omega (arith, e, z, y, w)

    v_tokens : (b : Bool) → MayUnlock s from b u → (v : Owing) → v.duty ≡ Trying (call_id s (parts from).first) ((parts from).attempt + bit b) → (parts x).attempt ≡ (parts from).attempt + bit b
        → ((j m : ℕ) → Among j m (duty_tokens v.duty) → Among j m (duty_tokens u.duty) ⊎ (IsAt q (There x) j m × ((l : ℕ) → Token c us j m l → ⊥) × (Past us j m → ⊥))) × Distinct (duty_tokens v.duty ++ retry_tokens (waiting_at c.calls.waiting i))
    v_tokens true may v d e = let f = ap (λ (y : Parts). y.first) is_from in let low' : (id_word_of c s).first < 4294967296 = subst (λ k. k < 4294967296) f low in
        let d' : v.duty ≡ Trying (call_id s (id_word_of c s).first) ((parts from).attempt + 1) = d ∙ ap (λ k. Trying (call_id s k) ((parts from).attempt + 1)) f in
        let nt : (j : ℕ) → Token c us (call_id s (id_word_of c s).first) ((parts from).attempt + 1) j → ⊥ = λ j t. no_next j (subst (λ k. Token c us (call_id s k) ((parts from).attempt + 1) j) (sym f) t) in
        let np : Past us (call_id s (id_word_of c s).first) ((parts from).attempt + 1) → ⊥ = λ p. no_later (subst (λ k. Past us (call_id s k) ((parts from).attempt + 1)) (sym f) p) in
        (new_tokens x ((parts from).attempt + 1) v low' x_first x_state e d' nt np, new_distinct x ((parts from).attempt + 1) v low' x_first x_state e d' nt np)
    v_tokens false may v d e = let same : v.duty ≡ u.duty = d ∙ ap (Trying (call_id s (parts from).first)) (let z : (parts from).attempt + 0 ≡ (parts from).attempt = omega arith in z) ∙ sym may in
        ((λ j m a. inl (subst (λ (d : Duty). Among j m (duty_tokens d)) same a)), subst (λ (d : Duty). Distinct (duty_tokens d ++ retry_tokens (waiting_at c.calls.waiting i))) (sym same) (law.distinct i u at))

    -- the seat's own duty was to this id, which isn't open
    nothing_open : (b : Bool) → MayUnlock s from b u → (j m : ℕ) → IsOpen c j m → DutyTo j m u.duty → ⊥
    nothing_open true may j m o d = subst (DutyTo j m) may.0 d
    nothing_open false may j m o d = let t : (call_id s (parts from).first ≡ j) × ((parts from).attempt ≡ m) = subst (DutyTo j m) may d in
        let z : (id_word_of c s).state ≡ 1 = ap (λ k. (id_word_of c k).state) (sym slot_here ∙ ap id_slot t.0) ∙ o.1 in omega (arith, z, locked_c)

    pub unlocks_keep : OwingLaw q life calls (There x) (set us i (unlocked_by s from advance u))
    unlocks_keep = let v : Owing = unlocked_by s from advance u in let r = error_rest (call_id s (parts from).first) (parts from).oldest base in let b = base_rest advance in let tok = v_tokens advance may (unlocked_by s from advance u) v_duty x_attempt in
        worded q life calls c us i u law at (record c.calls { words = set c.calls.words (ids.id_index s) x }) refl ss os (unlocked_by s from advance u) s (parts x) record {
          word = word_set q life calls c us i u law at sized ss os s inside x;
          ats = ats_set q life calls c us i u law at sized ss os s inside x;
          forward = inr (x_first, λ some_. (x_state, (let z = x_attempt in let y = ap (λ (y : Parts). y.attempt) is_from in omega (arith, z, y))));
          tokens_on = λ j m l t e a. inr (x_first, x_state, tokens_on advance may x_attempt j m l t e a);
          opens = λ j m e f st a. inr (subst (DutyTo j m) (sym v_duty) (sym (only_id j (parts from).first e (sym f ∙ x_first ∙ ap (λ (y : Parts). y.first) (sym is_from))), sym x_attempt ∙ a));
          errors = λ j l e f st. subst (λ (y : Parts). ErrorPast (set us i (unlocked_by s from advance u)) j y.oldest × ErrorPast (set us i (unlocked_by s from advance u)) j y.second) (sym is)
              ((λ some_. ⊎_elim (λ w. inl w) (λ p. inr (past_on q life calls c c us i u (unlocked_by s from advance u) law at v_knows j (attempt_of (parts from).second) p)) (second_past j l e f some_)), (λ some_. absurd (some_ refl)));
          owes = λ j m l o o' d. absurd (nothing_open advance may j m o d);
          knows = v_knows;
          learns = λ j m a. ⊎_elim (λ k. inl (i, u, at, subst (Among j m) b.4 k)) (λ p. inl p) (error_learns (call_id s (parts from).first) (parts from).oldest base oldest_past j m a);
          tokens = tok.0;
          distinct = tok.1;
          link = r.0 ∙ b.0;
          left = r.1 ∙ b.1;
          dead = r.2 ∙ b.2;
          keeps = r.3 ∙ b.3;
          own = subst (Stored q calls (There x) (set us i (unlocked_by s from advance u))) (sym v_duty) tt;
        }
      where
        v_knows : (j m : ℕ) → Among j m u.knows → Among j m (unlocked_by s from advance u).knows
        v_knows j m k = error_knows (call_id s (parts from).first) (parts from).oldest base j m (subst (Among j m) (sym (base_rest advance).4) k)

        at_id : (j : ℕ) → id_slot j < q.slots → id_slot j ≡ s → (id_word_of c (id_slot j)).first ≡ id_first j → ErrorPast us j (id_word_of c (id_slot j)).oldest × ErrorPast us j (id_word_of c (id_slot j)).second
        at_id j l e f = law.errors j l f (subst (λ k. 0 < (id_word_of c k).state) (sym e) (omega (arith, locked_c)))

        second_past : (j : ℕ) → id_slot j < q.slots → id_slot j ≡ s → (parts x).first ≡ id_first j → ErrorPast us j (parts from).second
        second_past j l e f = subst (λ (y : Parts). ErrorPast us j y.second) (ap (id_word_of c) e ∙ sym is_from) (at_id j l e (ap (λ k. (id_word_of c k).first) e ∙ sym x_first ∙ f)).1

        oldest_past : ErrorPast us (call_id s (parts from).first) (parts from).oldest
        oldest_past = subst (λ (y : Parts). ErrorPast us (call_id s (parts from).first) y.oldest) (ap (id_word_of c) slot_here ∙ sym is_from) (at_id (call_id s (parts from).first) (subst (λ k. k < q.slots) (sym slot_here) inside) slot_here (c_first ∙ sym first_here)).0

  -- ## Ending an id

  pub ends_keep : (x : ℕ) (found : ℕ) (v : Owing) → parts x ≡ free_word ((id_word_of c s).first + (id_word_of c s).range) → 1 ≤ (id_word_of c s).range → Ending s found u v → OwingLaw q life calls (There x) (set us i v)
  ends_keep x found v is some_ ending = by_ending ending
    where
      ahead : (id_word_of c s).first < (parts x).first
      ahead = let z = ap (λ (y : Parts). y.first) is in omega (arith, z, some_)

      none_ : (parts x).state ≡ 0
      none_ = ap (λ (y : Parts). y.state) is

      step : (y : Owing) → ((id n : ℕ) → id_slot id < q.slots → IsOpen c id n → IsOpen (There x) id n → DutyTo id n u.duty → DutyTo id n y.duty) → y.knows ≡ u.knows → ((id n : ℕ) → Among id n (duty_tokens y.duty) → Among id n (duty_tokens u.duty)) → Distinct (duty_tokens y.duty ++ retry_tokens (waiting_at c.calls.waiting i))
          → (y.link ≡ u.link) × (y.left ≡ u.left) × (y.dead ≡ u.dead) × (y.keeps ≡ u.keeps) → Stored q calls (There x) (set us i y) y.duty → OwingLaw q life calls (There x) (set us i y)
      step y owes knows tokens distinct r own = worded q life calls c us i u law at (record c.calls { words = set c.calls.words (ids.id_index s) x }) refl ss os y s (parts x) record {
        word = word_set q life calls c us i u law at sized ss os s inside x;
        ats = ats_set q life calls c us i u law at sized ss os s inside x;
        forward = inl ahead;
        tokens_on = λ j m l t e a. inl ahead;
        opens = λ j m e f st a. absurd (let w : ⊥ = omega (arith, st, none_) in w);
        errors = λ j l e f st. absurd (let w : ⊥ = omega (arith, st, none_) in w);
        owes = owes;
        knows = λ j m a. subst (Among j m) (sym knows) a;
        learns = λ j m a. inl (i, u, at, subst (Among j m) knows a);
        tokens = λ j m a. inl (tokens j m a);
        distinct = distinct;
        link = r.0;
        left = r.1;
        dead = r.2;
        keeps = r.3;
        own = own;
      }

      by_ending : Ending s found u v → OwingLaw q life calls (There x) (set us i v)
      by_ending (ends_other e) = subst (λ y. OwingLaw q life calls (There x) (set us i y)) (sym e) (step u (λ id n l o o' d. d) refl (λ id n a. a) (law.distinct i u at) (refl, refl, refl, refl)
          (stored_there q life calls c us i u law at sized ss os s inside x (back_at q life calls c us i u law at sized ss os s inside x (inl ahead)) u.duty (law.stored i u at)))
      by_ending (ends_own id n duty slot e) = subst (λ y. OwingLaw q life calls (There x) (set us i y)) (sym e) (step (freed u)
          (λ j m l o o' d. let t : (id ≡ j) × (n ≡ m) = subst (DutyTo j m) duty d in absurd (let z : (parts x).state ≡ 1 = ap (λ (y : Parts). y.state) (sym (here x)) ∙ ap (λ k. (id_word_of (There x) k).state) (sym slot ∙ ap id_slot t.0) ∙ o'.1 in let w : ⊥ = omega (arith, z, none_) in w))
          refl (λ j m a. absurd a) (tail q life calls c us i u law at sized ss os s inside) (refl, refl, refl, refl) tt)
