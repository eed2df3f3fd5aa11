-- Steps on the table of the ids keep the law, where one id word changes at most.
use Rattle.std.proofs.Common.{◌≡◌, ℕ, ◌<◌, ◌≤◌, ◌⊎◌, inl, inr, ⊎_elim, List, [], ◌∷◌, ◌++◌, Option, set, sym, ap, ◌∙◌, subst, arith}
use Rattle.std.specs.Prelude as std
use mathlib.Core.Logic.{dite}
use native.Mathlib.Decide.{ℕ_discrete}
use mathlib.Core.Option.{some, some-injective}
use lib.ListN.{get_elem?}
use Rattle.sock_words.specs.PackedWords.{at_word, at_word_first, at_word_slot, at_word_attempt, call_id, id_slot, id_first}
use Rattle.sock_words.specs.declared.outcome.Outcome.{Outcome}
use Rattle.corr_core.specs.IdSlotWord.{Parts, attempt_of}
use Rattle.corr_core.specs.declared.marks.Plan.{Plan as IdPlan}
use Rattle.seat_programs.specs.LoopHeads.{Retry}
use Rattle.seat_programs.specs.Cores.{Core, SeatState, Calls, waiting_at}
use Rattle.call_owing.specs.Owing.{Duty, Looking, Owing, Among, InList, DutyTo, duty_tokens}
use Rattle.call_owing.specs.SoundOwing.{id_word_of, at_of, retry_tokens, Owed, by_seat, by_retry, by_reader, Past, Token, Distinct, IsAt, IsOpen, ErrorPast, Stored, OwingLaw}
use Rattle.call_owing.proofs.OwedMarkChanges.{set_at, set_beside, change, past_on}

-- an id word only goes forward
abbrev pub Forward : Parts → Parts → Type 0
Forward w w' = (w.first < w'.first) ⊎ ((w'.first ≡ w.first) × (0 < w.state → (0 < w'.state) × (w.attempt ≤ w'.attempt)))

module _ (q : IdPlan) (life : ℕ → Option ℕ) (calls : List ℕ) (c : Core) (us : List Owing) (i : ℕ) (u : Owing) (law : OwingLaw q life calls c us) (at : get_elem? us i ≡ some u)
    (a : Calls) (waits : a.waiting ≡ c.calls.waiting) (ss : List SeatState) (os : List (std.Option Outcome)) (v : Owing) where
  abbrev pub Then : Core
  Then = record { words = c.words; homes = c.homes; seats = ss; outcomes = os; calls = a }

  -- the words and the marks of a step: the word of slot s may become this one
  pub record WordStep (s : ℕ) (w : Parts) : Type 0 where
    pub word : (j : ℕ) → j < q.slots → (id_word_of Then j ≡ id_word_of c j) ⊎ ((j ≡ s) × (id_word_of Then j ≡ w))
    pub ats : (o : ℕ) → o < q.operations → at_of q Then o ≡ at_of q c o
    pub forward : Forward (id_word_of c s) w
    pub tokens_on : (id n j : ℕ) → Token c us id n j → id_slot id ≡ s → IsAt q c id n → ((id_word_of c s).first < w.first) ⊎ ((w.first ≡ (id_word_of c s).first) × (0 < w.state) × (w.attempt ≡ n))
    pub opens : (id n : ℕ) → id_slot id ≡ s → w.first ≡ id_first id → w.state ≡ 1 → w.attempt ≡ n → IsOpen c id n ⊎ DutyTo id n v.duty
    pub errors : (id : ℕ) → id_slot id < q.slots → id_slot id ≡ s → w.first ≡ id_first id → 0 < w.state → ErrorPast (set us i v) id w.oldest × ErrorPast (set us i v) id w.second
    pub owes : (id n : ℕ) → id_slot id < q.slots → IsOpen c id n → IsOpen Then id n → DutyTo id n u.duty → DutyTo id n v.duty
    pub knows : (id n : ℕ) → Among id n u.knows → Among id n v.knows
    pub learns : (id n : ℕ) → Among id n v.knows → Past us id n ⊎ (Among id n (duty_tokens u.duty) × (duty_tokens v.duty ≡ []))
    pub tokens : (id n : ℕ) → Among id n (duty_tokens v.duty) → Among id n (duty_tokens u.duty) ⊎ (IsAt q Then id n × ((j : ℕ) → Token c us id n j → ⊥) × (Past us id n → ⊥))
    pub distinct : Distinct (duty_tokens v.duty ++ retry_tokens (waiting_at c.calls.waiting i))
    pub link : v.link ≡ u.link
    pub left : v.left ≡ u.left
    pub dead : v.dead ≡ u.dead
    pub keeps : v.keeps ≡ u.keeps
    pub own : Stored q calls Then (set us i v) v.duty

  module _ (s : ℕ) (w : Parts) (m : WordStep s w) where
    past_still : (id n : ℕ) → Past us id n → Past (set us i v) id n
    past_still = past_on q life calls c Then us i u v law at m.knows

    error_still : (id e : ℕ) → ErrorPast us id e → ErrorPast (set us i v) id e
    error_still id e p some_ = ⊎_elim (λ x. inl x) (λ x. inr (past_still id (attempt_of e) x)) (p some_)

    -- whoever looks was at its attempt before, too
    back : (id n : ℕ) → Past us id n → IsAt q Then id n → IsAt q c id n
    back id n p x = ⊎_elim (λ same. (x.0, ap (λ (y : Parts). y.first) (sym same) ∙ x.1, subst (λ (y : Parts). 0 < y.state) same x.2, ap (λ (y : Parts). y.attempt) (sym same) ∙ x.3))
        (λ b. let first : w.first ≡ id_first id = ap (λ (y : Parts). y.first) (sym b.1) ∙ x.1 in let now : w.attempt ≡ n = ap (λ (y : Parts). y.attempt) (sym b.1) ∙ x.3 in
        ⊎_elim (λ e. let low : id_first id < (id_word_of c s).first = subst (λ j. id_first id < (id_word_of c j).first) b.0 e.1 in absurd (⊎_elim (λ f. omega (arith, low, f, first)) (λ f. let z = f.0 in omega (arith, low, z, first)) m.forward))
        (λ y. let few : n ≤ (id_word_of c s).attempt = subst (λ j. n ≤ (id_word_of c j).attempt) b.0 y.3 in let at_first : (id_word_of c s).first ≡ id_first id = ap (λ j. (id_word_of c j).first) (sym b.0) ∙ y.1 in
        (y.0, y.1, y.2, ap (λ j. (id_word_of c j).attempt) b.0 ∙ ⊎_elim (λ f. absurd (let z : ⊥ = omega (arith, f, first, at_first) in z)) (λ f. let z = (f.1 (subst (λ j. 0 < (id_word_of c j).state) b.0 y.2)).1 in omega (arith, few, z, now)) m.forward)) (law.past id n p))
        (m.word (id_slot id) x.0)

    owed_still : (id n : ℕ) → id_slot id < q.slots → IsOpen c id n → IsOpen Then id n → Owed q life c us id n → Owed q life Then (set us i v) id n
    owed_still id n inside is is' (by_seat j x e d) = dite (ℕ_discrete j i)
        (λ here. by_seat i v (set_at us i u v at) (m.owes id n inside is is' (subst (λ (y : Owing). DutyTo id n y.duty) (some-injective x u (sym e ∙ ap (get_elem? us) here ∙ at)) d))) (λ ne. by_seat j x (set_beside us i j v x ne e) d)
    owed_still id n inside is is' (by_retry j x e r) = let r' : Among id n (retry_tokens (waiting_at a.waiting j)) = subst (λ (y : List (List Retry)). Among id n (retry_tokens (waiting_at y j))) (sym waits) r in dite (ℕ_discrete j i)
        (λ here. by_retry j v (ap (get_elem? (set us i v)) here ∙ set_at us i u v at) r') (λ ne. by_retry j x (set_beside us i j v x ne e) r')
    owed_still id n inside is is' (by_reader o k l j x low lives word e linked left) = let word' : at_of q Then o ≡ at_word (id_first id) (id_slot id) k n = m.ats o low ∙ word in dite (ℕ_discrete j i)
        (λ here. let same = some-injective x u (sym e ∙ ap (get_elem? us) here ∙ at) in by_reader o k l i v low lives word' (set_at us i u v at) (m.link ∙ subst (λ (y : Owing). y.link ≡ k ∷ []) same linked) (subst (InList o) (sym m.left) (subst (λ (y : Owing). InList o y.left) same left)))
        (λ ne. by_reader o k l j x low lives word' (set_beside us i j v x ne e) linked left)

    still_stored : (d : Duty) → Stored q calls c us d → Stored q calls Then (set us i v) d
    still_stored (Looking id n k o) x = (x.0, x.1, past_still id n x.2, λ is. m.ats o x.0 ∙ x.3 (back id n x.2 is), x.4)
    still_stored _ x = tt

    pub worded : OwingLaw q life calls Then (set us i v)
    worded = change q life calls c Then us i u v law at record {
      ended = λ id e. ⊎_elim (λ same. (e.0, subst (λ (x : Parts). id_first id < x.first) (sym same) e.1))
          (λ b. (
            e.0,
            subst (λ (x : Parts). id_first id < x.first) (sym b.1) (let low : id_first id < (id_word_of c s).first = subst (λ j. id_first id < (id_word_of c j).first) b.0 e.1 in
                ⊎_elim (λ f. omega (arith, low, f)) (λ f. let z = f.0 in omega (arith, low, z)) m.forward),
          )) (m.word (id_slot id) e.0);
      was = λ id n x. ⊎_elim (λ same. inr (x.0, ap (λ (y : Parts). y.first) same ∙ x.1, subst (λ (y : Parts). 0 < y.state) (sym same) x.2, subst (λ (y : Parts). n ≤ y.attempt) (sym same) x.3))
          (λ b. let first : (id_word_of c s).first ≡ id_first id = ap (λ j. (id_word_of c j).first) (sym b.0) ∙ x.1 in let some_ : 0 < (id_word_of c s).state = subst (λ j. 0 < (id_word_of c j).state) b.0 x.2 in let few : n ≤ (id_word_of c s).attempt = subst (λ j. n ≤ (id_word_of c j).attempt) b.0 x.3 in
          ⊎_elim (λ f. inl (x.0, subst (λ (y : Parts). id_first id < y.first) (sym b.1) (omega (arith, f, first))))
          (λ f. inr (x.0, ap (λ (y : Parts). y.first) b.1 ∙ f.0 ∙ first, subst (λ (y : Parts). 0 < y.state) (sym b.1) (f.1 some_).0, subst (λ (y : Parts). n ≤ y.attempt) (sym b.1) (let z = (f.1 some_).1 in omega (arith, few, z)))) m.forward)
          (m.word (id_slot id) x.0);
      waiting = waits;
      tokens_on = λ id n j t x. ⊎_elim (λ same. inr (x.0, ap (λ (y : Parts). y.first) same ∙ x.1, subst (λ (y : Parts). 0 < y.state) (sym same) x.2, ap (λ (y : Parts). y.attempt) same ∙ x.3))
          (λ b. let first : (id_word_of c s).first ≡ id_first id = ap (λ j. (id_word_of c j).first) (sym b.0) ∙ x.1 in
          ⊎_elim (λ f. inl (x.0, subst (λ (y : Parts). id_first id < y.first) (sym b.1) (omega (arith, f, first))))
          (λ f. inr (x.0, ap (λ (y : Parts). y.first) b.1 ∙ f.0 ∙ first, subst (λ (y : Parts). 0 < y.state) (sym b.1) f.1, ap (λ (y : Parts). y.attempt) b.1 ∙ f.2)) (m.tokens_on id n j t b.0 x))
          (m.word (id_slot id) x.0);
      knows = m.knows;
      learns = m.learns;
      tokens = m.tokens;
      distinct = m.distinct;
      owed = λ id n inside x. ⊎_elim
          (λ same. let is : IsOpen c id n = (ap (λ (y : Parts). y.first) (sym same) ∙ x.0, ap (λ (y : Parts). y.state) (sym same) ∙ x.1, ap (λ (y : Parts). y.attempt) (sym same) ∙ x.2) in owed_still id n inside is x (law.owed id n inside is))
          (λ b. ⊎_elim (λ is. owed_still id n inside is x (law.owed id n inside is)) (λ d. by_seat i v (set_at us i u v at) d)
          (m.opens id n b.0 (ap (λ (y : Parts). y.first) (sym b.1) ∙ x.0) (ap (λ (y : Parts). y.state) (sym b.1) ∙ x.1) (ap (λ (y : Parts). y.attempt) (sym b.1) ∙ x.2)))
          (m.word (id_slot id) inside);
      errors = λ id inside f x. ⊎_elim
          (λ same. subst (λ (y : Parts). ErrorPast (set us i v) id y.oldest × ErrorPast (set us i v) id y.second) (sym same)
          (let e = law.errors id inside (ap (λ (y : Parts). y.first) (sym same) ∙ f) (subst (λ (y : Parts). 0 < y.state) same x) in (error_still id (id_word_of c (id_slot id)).oldest e.0, error_still id (id_word_of c (id_slot id)).second e.1)))
          (λ b. subst (λ (y : Parts). ErrorPast (set us i v) id y.oldest × ErrorPast (set us i v) id y.second) (sym b.1) (m.errors id inside b.0 (ap (λ (y : Parts). y.first) (sym b.1) ∙ f) (subst (λ (y : Parts). 0 < y.state) b.1 x)))
          (m.word (id_slot id) inside);
      letters = λ r heading bytes e some_. let l = law.letters r heading bytes e some_ in (past_still heading.owner heading.label.attempt l.0, l.1);
      ats = λ o low some_. subst (λ x. Past (set us i v) (call_id (at_word_slot x) (at_word_first x)) (at_word_attempt x)) (sym (m.ats o low))
          (past_still (call_id (at_word_slot (at_of q c o)) (at_word_first (at_of q c o))) (at_word_attempt (at_of q c o)) (law.ats o low (λ z. some_ (m.ats o low ∙ z))));
      link = m.link;
      reads = λ k l e lives r. ⊎_elim (λ d. inl (m.dead ∙ d)) (λ x. inr (m.left ∙ x)) r;
      failed = λ k f. f;
      dead = λ k l d. law.dead i k u at (sym m.link ∙ l) (sym m.dead ∙ d);
      others = λ j x ne e st. still_stored x.duty st;
      own = m.own;
      keeps = λ e. sym m.keeps ∙ e;
    }
