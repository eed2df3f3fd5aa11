-- The store of an at word, and its load by a reader, keep the law.
use Rattle.std.proofs.Common.{◌≡◌, ◌≢◌, ℕ, ◌<◌, ◌≤◌, inl, inr, ⊎_elim, Bool, true, false, cond, eqb, eqb-true, List, [], ◌∷◌, Option, Some, length, set, get_or-set_same, get_or-set_other, refl, sym, ap, ap₂, ◌∙◌, subst, arith}
use Rattle.std.specs.Prelude as std
use mathlib.Core.Logic.{dite}
use native.Mathlib.Decide.{ℕ_discrete}
use mathlib.Core.Option.{some, some-injective}
use lib.ListN.{get_elem?}
use Rattle.sock_words.specs.PackedWords.{at_word, at_word_first, at_word_slot, at_word_link, at_word_attempt, call_id, id_slot, id_first}
use Rattle.sock_words.specs.declared.outcome.Outcome.{Outcome}
use Rattle.corr_core.specs.IdSlotWord.{Parts, parts, attempt_of}
use Rattle.corr_core.specs.declared.marks.Plan.{Plan as IdPlan}
use Rattle.seat_programs.specs.id_rule.specs.LawfulIdTable as ids
use Rattle.seat_programs.specs.Cores.{Core, SeatState, waiting_at}
use Rattle.call_owing.specs.Owing.{Duty, Free, Linked, Looking, Telling, Owing, Among, InList, DutyTo, duty_tokens, with_duty, with_known, with_left, loaded}
use Rattle.call_owing.specs.SoundOwing.{id_word_of, at_of, retry_tokens, Owed, by_seat, by_retry, by_reader, Past, Token, IsAt, IsOpen, ErrorPast, Stored, OwingLaw}
use Rattle.call_owing.proofs.PostsAndDecisionsOwed.{id_back, not_equal}
use Rattle.call_owing.proofs.OwedMarkChanges.{set_at, set_beside, change, past_on, among_left}
use Rattle.call_owing.proofs.QuietIdSteps.{distinct_tail, marked}

-- an at word is read back
pub back_slot : (f s k n : ℕ) → s < 65536 → k < 65535 → n < 8 → at_word_slot (at_word f s k n) ≡ s
back_slot f s k n a b d = omega (arith, a, b, d)

pub back_first : (f s k n : ℕ) → s < 65536 → k < 65535 → n < 8 → at_word_first (at_word f s k n) ≡ f
back_first f s k n a b d = omega (arith, a, b, d)

pub back_link : (f s k n : ℕ) → s < 65536 → k < 65535 → n < 8 → at_word_link (at_word f s k n) ≡ k
back_link f s k n a b d = omega (arith, a, b, d)

pub back_attempt : (f s k n : ℕ) → s < 65536 → k < 65535 → n < 8 → at_word_attempt (at_word f s k n) ≡ n
back_attempt f s k n a b d = omega (arith, a, b, d)

pub not_none : (f s k n : ℕ) → at_word f s k n ≢ 0
not_none f s k n e = omega (arith, e)

pub id_of_at : (id k n : ℕ) → id_slot id < 65536 → k < 65535 → n < 8 → call_id (at_word_slot (at_word (id_first id) (id_slot id) k n)) (at_word_first (at_word (id_first id) (id_slot id) k n)) ≡ id
id_of_at id k n a b d = ap₂ call_id (back_slot (id_first id) (id_slot id) k n a b d) (back_first (id_first id) (id_slot id) k n a b d) ∙ id_back id

module _ (q : IdPlan) (narrow : q.slots ≤ 65536) (life : ℕ → Option ℕ) (low_links : (k s : ℕ) → life k ≡ Some s → k < 65535) (calls : List ℕ) (c : Core) (us : List Owing) (i : ℕ) (u : Owing) (law : OwingLaw q life calls c us) (at : get_elem? us i ≡ some u)
    (ss : List SeatState) (os : List (std.Option Outcome)) where
  own_past : (id n : ℕ) → Among id n u.knows → Past us id n
  own_past id n a = (i, u, at, a)

  -- ## The store

  module _ (sized : length c.calls.words ≡ ids.all_words q) (o id n k : ℕ) (low : o < q.operations) (known : InList o calls) (duty : u.duty ≡ Linked id n k) (link : k < 65535) (few : n ≤ 6)
      (names : at_of q c o ≢ 0 → call_id (at_word_slot (at_of q c o)) (at_word_first (at_of q c o)) ≡ id) where
    abbrev W : ℕ
    W = at_word (id_first id) (id_slot id) k n

    abbrev Stored' : Core
    Stored' = record { words = c.words; homes = c.homes; seats = ss; outcomes = os; calls = record c.calls { words = set c.calls.words (ids.at_index q o) (at_word (id_first id) (id_slot id) k n) } }

    abbrev v : Owing
    v = with_known id n (with_duty (Looking id n k o) (with_duty (Linked id n k) u))

    word_same : (j : ℕ) → j < q.slots → id_word_of Stored' j ≡ id_word_of c j
    word_same j l = ap parts (get_or-set_other c.calls.words (ids.at_index q o) (ids.id_index j) (at_word (id_first id) (id_slot id) k n) 0 (λ e. omega (arith, e, l)))

    at_here : at_of q Stored' o ≡ at_word (id_first id) (id_slot id) k n
    at_here = get_or-set_same c.calls.words (ids.at_index q o) (at_word (id_first id) (id_slot id) k n) 0 (omega (arith, sized, low))

    at_else : (r : ℕ) → r ≢ o → at_of q Stored' r ≡ at_of q c r
    at_else r ne = get_or-set_other c.calls.words (ids.at_index q o) (ids.at_index q r) (at_word (id_first id) (id_slot id) k n) 0 (λ e. ne (omega (arith, e)))

    token : Token c us id n i
    token = (u, at, among_left id n (duty_tokens u.duty) (retry_tokens (waiting_at c.calls.waiting i)) (subst (λ (d : Duty). Among id n (duty_tokens d)) (sym duty) (inl (refl, refl))))

    past_still : (j m : ℕ) → Past us j m → Past (set us i v) j m
    past_still = past_on q life calls c c us i u v law at (λ j m a. inr a)

    error_still : (j e : ℕ) → ErrorPast us j e → ErrorPast (set us i v) j e
    error_still j e p some_ = ⊎_elim (λ x. inl x) (λ x. inr (past_still j (attempt_of e) x)) (p some_)

    -- no at word of this operation is of an attempt that its id is at: the seat's own is still to come
    no_other : (j m l : ℕ) → IsAt q c j m → at_of q c o ≡ at_word (id_first j) (id_slot j) l m → l < 65535 → ⊥
    no_other j m l a word lowl = let slot : id_slot j < 65536 = (let z = a.0 in omega (arith, z, narrow)) in let m8 : m < 8 = (let z = a.3 in omega (arith, z)) in
        let some_ : at_of q c o ≢ 0 = λ z. not_none (id_first j) (id_slot j) l m (sym word ∙ z) in
        let same : j ≡ id = sym (id_of_at j l m slot lowl m8) ∙ ap (λ x. call_id (at_word_slot x) (at_word_first x)) (sym word) ∙ names some_ in
        let now : m ≡ n = ⊎_elim (λ e. absurd (let z = e.1 in let y = a.1 in let x : (id_word_of c (id_slot id)).first ≡ id_first id = ap (λ k. (id_word_of c (id_slot k)).first) (sym same) ∙ y ∙ ap id_first same in let w : ⊥ = omega (arith, z, x) in w))
        (λ b. sym a.3 ∙ ap (λ k. (id_word_of c (id_slot k)).attempt) same ∙ b.3) (law.current id n i token) in
        let p : Past us j m = subst (λ x. Past us x m) (ap (λ x. call_id (at_word_slot x) (at_word_first x)) word ∙ id_of_at j l m slot lowl m8)
        (subst (λ x. Past us (call_id (at_word_slot (at_of q c o)) (at_word_first (at_of q c o))) x) (ap at_word_attempt word ∙ back_attempt (id_first j) (id_slot j) l m slot lowl m8) (law.ats o low some_)) in
        law.coming id n i token (subst (λ x. Past us x n) same (subst (λ x. Past us j x) now p))

    still_is : (j m : ℕ) → IsAt q Stored' j m → IsAt q c j m
    still_is j m a = let e = word_same (id_slot j) a.0 in (a.0, ap (λ (y : Parts). y.first) (sym e) ∙ a.1, subst (λ (y : Parts). 0 < y.state) e a.2, ap (λ (y : Parts). y.attempt) (sym e) ∙ a.3)

    now_is : (j m : ℕ) → IsAt q c j m → IsAt q Stored' j m
    now_is j m a = let e = word_same (id_slot j) a.0 in (a.0, ap (λ (y : Parts). y.first) e ∙ a.1, subst (λ (y : Parts). 0 < y.state) (sym e) a.2, ap (λ (y : Parts). y.attempt) e ∙ a.3)

    owed_still : (j m : ℕ) → id_slot j < q.slots → IsOpen c j m → Owed q life c us j m → Owed q life Stored' (set us i v) j m
    owed_still j m inside is (by_seat l x e d) = dite (ℕ_discrete l i)
        (λ here. by_seat i v (set_at us i u v at) (subst (DutyTo j m) duty (subst (λ (y : Owing). DutyTo j m y.duty) (some-injective x u (sym e ∙ ap (get_elem? us) here ∙ at)) d))) (λ ne. by_seat l x (set_beside us i l v x ne e) d)
    owed_still j m inside is (by_retry l x e a) = dite (ℕ_discrete l i) (λ here. by_retry l v (ap (get_elem? (set us i v)) here ∙ set_at us i u v at) a) (λ ne. by_retry l x (set_beside us i l v x ne e) a)
    owed_still j m inside is (by_reader r l t y x lo lives word e linked left) = dite (ℕ_discrete r o)
        (λ here. absurd (no_other j m l (inside, is.0, (let z = is.1 in omega (arith, z)), is.2) (ap (at_of q c) (sym here) ∙ word) (low_links l t lives)))
        (λ other. let word' = at_else r other ∙ word in dite (ℕ_discrete y i)
        (λ here. let same = some-injective x u (sym e ∙ ap (get_elem? us) here ∙ at) in by_reader r l t i v lo lives word' (set_at us i u v at) (subst (λ (z : Owing). z.link ≡ l ∷ []) same linked) (subst (λ (z : Owing). InList r z.left) same left))
        (λ ne. by_reader r l t y x lo lives word' (set_beside us i y v x ne e) linked left))

    still_stored : (d : Duty) → Stored q calls c us d → Stored q calls Stored' (set us i v) d
    still_stored (Looking j m l r) x = (
      x.0,
      x.1,
      past_still j m x.2,
      λ a. dite (ℕ_discrete r o)
          (λ here. absurd (no_other j m l (still_is j m a) (ap (at_of q c) (sym here) ∙ x.3 (still_is j m a)) x.4)) (λ ne. at_else r ne ∙ x.3 (still_is j m a)),
      x.4,
    )
    still_stored _ x = tt

    pub stores_keep : id_slot id < q.slots → OwingLaw q life calls Stored' (set us i v)
    stores_keep inside = change q life calls c Stored' us i u v law at record {
      ended = λ j e. (e.0, subst (λ (y : Parts). id_first j < y.first) (sym (word_same (id_slot j) e.0)) e.1);
      was = λ j m a. let e = word_same (id_slot j) a.0 in inr (a.0, ap (λ (y : Parts). y.first) e ∙ a.1, subst (λ (y : Parts). 0 < y.state) (sym e) a.2, subst (λ (y : Parts). m ≤ y.attempt) (sym e) a.3);
      waiting = refl;
      tokens_on = λ j m l t a. inr (now_is j m a);
      knows = λ j m a. inr a;
      learns = λ j m a. ⊎_elim (λ e. inr (subst (λ (d : Duty). Among j m (duty_tokens d)) (sym duty) (inl e), refl)) (λ b. inl (own_past j m b)) a;
      tokens = λ j m a. absurd a;
      distinct = distinct_tail (duty_tokens u.duty) (retry_tokens (waiting_at c.calls.waiting i)) (law.distinct i u at);
      owed = λ j m l a. let e = word_same (id_slot j) l in let is : IsOpen c j m = (ap (λ (y : Parts). y.first) (sym e) ∙ a.0, ap (λ (y : Parts). y.state) (sym e) ∙ a.1, ap (λ (y : Parts). y.attempt) (sym e) ∙ a.2) in owed_still j m l is (law.owed j m l is);
      errors = λ j l f x. let e = word_same (id_slot j) l in subst (λ (y : Parts). ErrorPast (set us i v) j y.oldest × ErrorPast (set us i v) j y.second) (sym e)
          (let p = law.errors j l (ap (λ (y : Parts). y.first) (sym e) ∙ f) (subst (λ (y : Parts). 0 < y.state) e x) in (error_still j (id_word_of c (id_slot j)).oldest p.0, error_still j (id_word_of c (id_slot j)).second p.1));
      letters = λ r heading bytes e some_. let l = law.letters r heading bytes e some_ in (past_still heading.owner heading.label.attempt l.0, l.1);
      ats = λ r l some_. dite (ℕ_discrete r o)
          (λ here. subst (λ x. Past (set us i v) (call_id (at_word_slot x) (at_word_first x)) (at_word_attempt x)) (sym (ap (at_of q Stored') here ∙ at_here))
          (let slot : id_slot id < 65536 = omega (arith, inside, narrow) in let n8 : n < 8 = omega (arith, few) in subst (λ x. Past (set us i v) x (at_word_attempt (at_word (id_first id) (id_slot id) k n))) (sym (id_of_at id k n slot link n8))
          (subst (λ x. Past (set us i v) id x) (sym (back_attempt (id_first id) (id_slot id) k n slot link n8)) (i, v, set_at us i u v at, inl (refl, refl)))))
          (λ ne. subst (λ x. Past (set us i v) (call_id (at_word_slot x) (at_word_first x)) (at_word_attempt x)) (sym (at_else r ne)) (past_still (call_id (at_word_slot (at_of q c r)) (at_word_first (at_of q c r))) (at_word_attempt (at_of q c r)) (law.ats r l (λ z. some_ (at_else r ne ∙ z)))));
      link = refl;
      reads = λ l s e lives r. r;
      failed = λ l f. f;
      dead = λ l e d. law.dead i l u at e d;
      others = λ j x ne e st. still_stored x.duty st;
      own = (low, known, (i, v, set_at us i u v at, inl (refl, refl)), (λ _. at_here), link);
      keeps = λ e. e;
    }

  -- ## The load by a reader

  abbrev Same : Core
  Same = record { words = c.words; homes = c.homes; seats = ss; outcomes = os; calls = c.calls }

  module _ (k o : ℕ) (rest : List ℕ) (linked : u.link ≡ k ∷ []) (lefts : u.left ≡ o ∷ rest) (free : u.duty ≡ Free) (dead : u.dead ≡ true) (low : o < q.operations) where
    abbrev w : ℕ
    w = at_of q c o

    -- of the operations that were left all but o are left, and o's word names another link, or the seat owes what it found
    in_rest : (r : ℕ) → r ≢ o → InList r u.left → InList r rest
    in_rest r ne a = ⊎_elim (λ e. absurd (ne (sym e))) (λ b. b) (subst (InList r) lefts a)

    same_letters : (v : Owing) → ((id n : ℕ) → Among id n u.knows → Among id n v.knows) → (r : ℕ) (heading : Rattle.sock_model.specs.declared.chain.Heading.Heading) (bytes : List ℕ) → get_elem? c.homes r ≡ some (some (Rattle.sock_model.specs.declared.home.Home.TheVariants.Message heading bytes)) → heading.owner ≢ 0 → Past (set us i v) heading.owner heading.label.attempt × (heading.label.attempt ≤ 6)
    same_letters v knows r heading bytes e some_ = let l = law.letters r heading bytes e some_ in (past_on q life calls c c us i u v law at knows heading.owner heading.label.attempt l.0, l.1)

    passes : ((id n l s : ℕ) → id_slot id < q.slots → IsOpen c id n → life l ≡ Some s → at_of q c o ≡ at_word (id_first id) (id_slot id) l n → u.link ≡ l ∷ [] → ⊥) → OwingLaw q life calls Same (set us i (with_left rest u))
    passes none_ = marked q life calls c us i u law at c.words c.homes ss os (with_left rest u) record {
      knows = λ j m a. a;
      learns = λ j m a. inl (own_past j m a);
      tokens = λ j m a. a;
      distinct = law.distinct i u at;
      owes = λ j m l a d. absurd (subst (DutyTo j m) free d);
      lefts = λ j m r l s inside is lo lives word e left. dite (ℕ_discrete r o) (λ here. absurd (none_ j m l s inside is lives (ap (at_of q c) (sym here) ∙ word) e)) (λ ne. by_reader r l s i (with_left rest u) lo lives word (set_at us i u (with_left rest u) at) e (in_rest r ne left));
      letters = same_letters (with_left rest u) (λ j m a. a);
      link = refl;
      reads = λ l s e lives r. inl dead;
      failed = λ l f. f;
      dead = λ l e d. law.dead i l u at e d;
      own = subst (Stored q calls c (set us i (with_left rest u))) (sym free) tt;
      keeps = λ e. e;
    }

    abbrev telling : Owing
    telling = with_known (call_id (at_word_slot (at_of q c o)) (at_word_first (at_of q c o))) (at_word_attempt (at_of q c o)) (with_duty (Telling (call_id (at_word_slot (at_of q c o)) (at_word_first (at_of q c o))) (at_word_attempt (at_of q c o))) (with_left rest u))

    tells_it : at_of q c o ≢ 0 → OwingLaw q life calls Same (set us i telling)
    tells_it some_ = marked q life calls c us i u law at c.words c.homes ss os telling record {
      knows = λ j m a. inr a;
      learns = λ j m a. ⊎_elim (λ e. inl (subst (λ x. Past us x m) e.0 (subst (λ x. Past us (call_id (at_word_slot (at_of q c o)) (at_word_first (at_of q c o))) x) e.1 (law.ats o low some_)))) (λ b. inl (own_past j m b)) a;
      tokens = λ j m a. absurd a;
      distinct = distinct_tail (duty_tokens u.duty) (retry_tokens (waiting_at c.calls.waiting i)) (law.distinct i u at);
      owes = λ j m l a d. absurd (subst (DutyTo j m) free d);
      lefts = λ j m r l s inside is lo lives word e left. dite (ℕ_discrete r o)
          (λ here. let x : at_of q c o ≡ at_word (id_first j) (id_slot j) l m = ap (at_of q c) (sym here) ∙ word in let slot : id_slot j < 65536 = omega (arith, inside, narrow) in let m8 : m < 8 = (let z = is.2 in omega (arith, z)) in let lk = low_links l s lives in
          by_seat i telling (set_at us i u telling at) (ap (λ y. call_id (at_word_slot y) (at_word_first y)) x ∙ id_of_at j l m slot lk m8, ap at_word_attempt x ∙ back_attempt (id_first j) (id_slot j) l m slot lk m8))
          (λ ne. by_reader r l s i telling lo lives word (set_at us i u telling at) e (in_rest r ne left));
      letters = same_letters telling (λ j m a. inr a);
      link = refl;
      reads = λ l s e lives r. inl dead;
      failed = λ l f. f;
      dead = λ l e d. law.dead i l u at e d;
      own = tt;
      keeps = λ e. e;
    }

    pub loads_keep : OwingLaw q life calls Same (set us i (loaded k (at_of q c o) rest u))
    loads_keep = by_word (eqb (at_of q c o) 0) (eqb (at_word_link (at_of q c o)) k) refl refl
      where
        by_word : (z l : Bool) → eqb (at_of q c o) 0 ≡ z → eqb (at_word_link (at_of q c o)) k ≡ l → OwingLaw q life calls Same (set us i (cond z (with_left rest u) (cond l telling (with_left rest u))))
        by_word true l a b = passes (λ j m l' s inside is lives word e. not_none (id_first j) (id_slot j) l' m (sym word ∙ eqb-true (at_of q c o) 0 a))
        by_word false true a b = tells_it (not_equal (at_of q c o) 0 a)
        by_word false false a b = passes (λ j m l s inside is lives word e. let slot : id_slot j < 65536 = omega (arith, inside, narrow) in let m8 : m < 8 = (let z = is.2 in omega (arith, z)) in
            let same : k ≡ l = (let z : k ∷ [] ≡ l ∷ [] = sym linked ∙ e in cc) in not_equal (at_word_link (at_of q c o)) k b (ap at_word_link word ∙ back_link (id_first j) (id_slot j) l m slot (low_links l s lives) m8 ∙ sym same))
