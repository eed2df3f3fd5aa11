-- How the law goes on where one seat changes its marks, and the words or homes change.
use Rattle.std.proofs.Common.{◌≡◌, ◌≢◌, ℕ, zero, suc, ◌<◌, ◌≤◌, ◌⊎◌, inl, inr, ⊎_elim, true, false, List, [], ◌∷◌, ◌++◌, Option, Some, length, length-set, set, refl, sym, ap, ◌∙◌, subst, arith}
use mathlib.Core.Logic.{dite}
use native.Mathlib.Decide.{ℕ_discrete}
use mathlib.Core.Option.{some, some-ne-none, some-injective}
use lib.ListN.{get_elem?}
use Rattle.atomic_table.proofs.Lists.{at_set}
use Rattle.sock_words.specs.PackedWords.{at_word_first, at_word_slot, at_word_attempt, call_id, id_slot, id_first}
use Rattle.sock_model.specs.declared.chain.Heading.{Heading}
use Rattle.sock_model.specs.declared.home.Home.TheVariants.{Message}
use Rattle.corr_core.specs.declared.marks.Plan.{Plan as IdPlan}
use Rattle.seat_programs.specs.LoopHeads.{Retry}
use Rattle.seat_programs.specs.Cores.{Core, waiting_at}
use Rattle.call_owing.specs.Owing.{Owing, Among, duty_tokens}
use Rattle.call_owing.specs.SoundOwing.{id_word_of, at_of, retry_tokens, Owed, Past, tokens_at, Token, Distinct, HasEnded, IsAt, WasAt, IsOpen, ErrorPast, Failed, Stored, OwingLaw}

-- ## Lists

pub set_at : {A : Type 0} (l : List A) (i : ℕ) (a b : A) → get_elem? l i ≡ some a → get_elem? (set l i b) i ≡ some b
set_at [] i a b at = absurd (some-ne-none a (sym at))
set_at (x ∷ xs) zero a b at = refl
set_at (x ∷ xs) (suc i) a b at = set_at xs i a b at

pub set_beside : {A : Type 0} (l : List A) (i j : ℕ) (b c : A) → j ≢ i → get_elem? l j ≡ some c → get_elem? (set l i b) j ≡ some c
set_beside [] i j b c ne at = at
set_beside (x ∷ xs) zero zero b c ne at = absurd (ne refl)
set_beside (x ∷ xs) zero (suc j) b c ne at = at
set_beside (x ∷ xs) (suc i) zero b c ne at = at
set_beside (x ∷ xs) (suc i) (suc j) b c ne at = set_beside xs i j b c (λ e. ne (ap suc e)) at

pub among_split : (id n : ℕ) (l m : List (ℕ × ℕ)) → Among id n (l ++ m) → Among id n l ⊎ Among id n m
among_split id n [] m a = inr a
among_split id n (x ∷ xs) m (inl e) = inl (inl e)
among_split id n (x ∷ xs) m (inr a) = ⊎_elim (λ b. inl (inr b)) (λ b. inr b) (among_split id n xs m a)

pub among_left : (id n : ℕ) (l m : List (ℕ × ℕ)) → Among id n l → Among id n (l ++ m)
among_left id n [] m a = absurd a
among_left id n (x ∷ xs) m (inl e) = inl e
among_left id n (x ∷ xs) m (inr a) = inr (among_left id n xs m a)

pub among_right : (id n : ℕ) (l m : List (ℕ × ℕ)) → Among id n m → Among id n (l ++ m)
among_right id n [] m a = a
among_right id n (x ∷ xs) m a = inr (among_right id n xs m a)

-- in a list without repetition nothing stands on both sides
pub apart : (id n : ℕ) (l m : List (ℕ × ℕ)) → Distinct (l ++ m) → Among id n l → Among id n m → ⊥
apart id n [] m d a b = absurd a
apart id n (x ∷ xs) m d (inl e) b = d.0 (subst (λ y. Among y x.1 (xs ++ m)) (sym e.0) (subst (λ y. Among id y (xs ++ m)) (sym e.1) (among_right id n xs m b)))
apart id n (x ∷ xs) m d (inr a) b = apart id n xs m d.1 a b

-- ## A change

module _ (q : IdPlan) (life : ℕ → Option ℕ) (calls : List ℕ) (c c' : Core) (us : List Owing) (i : ℕ) (u v : Owing) where
  abbrev pub New : List Owing
  New = set us i v

  pub record Change : Type 0 where
    pub ended : (id : ℕ) → HasEnded q c id → HasEnded q c' id
    pub was : (id n : ℕ) → WasAt q c id n → HasEnded q c' id ⊎ WasAt q c' id n
    pub waiting : c'.calls.waiting ≡ c.calls.waiting
    pub tokens_on : (id n j : ℕ) → Token c us id n j → IsAt q c id n → HasEnded q c' id ⊎ IsAt q c' id n
    pub knows : (id n : ℕ) → Among id n u.knows → Among id n v.knows
    -- what the seat learns is past already, or it was its token, and it has none any more
    pub learns : (id n : ℕ) → Among id n v.knows → Past us id n ⊎ (Among id n (duty_tokens u.duty) × (duty_tokens v.duty ≡ []))
    -- a token is one that it had, or of an attempt that comes now
    pub tokens : (id n : ℕ) → Among id n (duty_tokens v.duty) → Among id n (duty_tokens u.duty) ⊎ (IsAt q c' id n × ((j : ℕ) → Token c us id n j → ⊥) × (Past us id n → ⊥))
    pub distinct : Distinct (duty_tokens v.duty ++ retry_tokens (waiting_at c.calls.waiting i))
    pub owed : (id n : ℕ) → id_slot id < q.slots → IsOpen c' id n → Owed q life c' (set us i v) id n
    pub errors : (id : ℕ) → id_slot id < q.slots → (id_word_of c' (id_slot id)).first ≡ id_first id → 0 < (id_word_of c' (id_slot id)).state → ErrorPast (set us i v) id (id_word_of c' (id_slot id)).oldest × ErrorPast (set us i v) id (id_word_of c' (id_slot id)).second
    pub letters : (r : ℕ) (heading : Heading) (bytes : List ℕ) → get_elem? c'.homes r ≡ some (some (Message heading bytes)) → heading.owner ≢ 0 → Past (set us i v) heading.owner heading.label.attempt × (heading.label.attempt ≤ 6)
    pub ats : (o : ℕ) → o < q.operations → at_of q c' o ≢ 0 → Past (set us i v) (call_id (at_word_slot (at_of q c' o)) (at_word_first (at_of q c' o))) (at_word_attempt (at_of q c' o))
    pub link : v.link ≡ u.link
    pub reads : (k s : ℕ) → u.link ≡ k ∷ [] → life k ≡ Some s → (u.dead ≡ true) ⊎ (u.left ≡ calls) → (v.dead ≡ true) ⊎ (v.left ≡ calls)
    pub failed : (k : ℕ) → Failed life c k → Failed life c' k
    pub dead : (k : ℕ) → v.link ≡ k ∷ [] → v.dead ≡ true → Failed life c' k
    pub others : (j : ℕ) (w : Owing) → j ≢ i → get_elem? us j ≡ some w → Stored q calls c us w.duty → Stored q calls c' (set us i v) w.duty
    pub own : Stored q calls c' (set us i v) v.duty
    pub keeps : v.keeps ≡ false → u.keeps ≡ false

  module _ (law : OwingLaw q life calls c us) (at : get_elem? us i ≡ some u) where
    -- what is past stays so
    pub past_on : ((id n : ℕ) → Among id n u.knows → Among id n v.knows) → (id n : ℕ) → Past us id n → Past (set us i v) id n
    past_on knows id n p = dite (ℕ_discrete p.0 i)
        (λ e. (i, v, set_at us i u v at, knows id n (subst (λ (w : Owing). Among id n w.knows) (some-injective p.1 u (sym p.2 ∙ ap (get_elem? us) e ∙ at)) p.3)))
        (λ ne. (p.0, p.1, set_beside us i p.0 v p.1 ne p.2, p.3))

    module _ (ch : Change) where
      past_back : (id n : ℕ) → Past (set us i v) id n → Past us id n ⊎ (Among id n (duty_tokens u.duty) × (duty_tokens v.duty ≡ []))
      past_back id n p = ⊎_elim (λ b. ch.learns id n (subst (λ (w : Owing). Among id n w.knows) (sym b.1) p.3)) (λ b. inl (p.0, p.1, b.1, p.3)) (at_set us i p.0 v p.1 p.2)

      abbrev Fresh : ℕ → ℕ → Type 0
      Fresh id n = IsAt q c' id n × ((j : ℕ) → Token c us id n j → ⊥) × (Past us id n → ⊥)

      same_waits : (j : ℕ) → waiting_at c'.calls.waiting j ≡ waiting_at c.calls.waiting j
      same_waits j = ap (λ (w : List (List Retry)). waiting_at w j) ch.waiting

      -- a token stands in the seat's duty, or was one before
      token_back : (id n j : ℕ) → Token c' (set us i v) id n j → ((j ≡ i) × Among id n (duty_tokens v.duty)) ⊎ ((Token c us id n j) × ((j ≡ i → Among id n (retry_tokens (waiting_at c.calls.waiting i)))))
      token_back id n j t = ⊎_elim
          (λ b. ⊎_elim (λ a. inl (b.0, a)) (λ a. inr ((i_token id n j b.0 a), (λ e. subst (λ x. Among id n (retry_tokens (waiting_at c.calls.waiting x))) b.0 a)))
          (among_split id n (duty_tokens v.duty) (retry_tokens (waiting_at c.calls.waiting j)) (subst (λ (w : Owing). Among id n (duty_tokens w.duty ++ retry_tokens (waiting_at c.calls.waiting j))) (sym b.1) (there t.2))))
          (λ b. inr ((t.0, b.1, there t.2), (λ e. absurd (b.0 e))))
          (at_set us i j v t.0 t.1)
        where
          there : Among id n (tokens_at c' t.0 j) → Among id n (tokens_at c t.0 j)
          there a = subst (λ (w : List Retry). Among id n (duty_tokens t.0.duty ++ retry_tokens w)) (same_waits j) a

          i_token : (id n j : ℕ) → j ≡ i → Among id n (retry_tokens (waiting_at c.calls.waiting j)) → Token c us id n j
          i_token id n j e a = (u, ap (get_elem? us) e ∙ at, among_right id n (duty_tokens u.duty) (retry_tokens (waiting_at c.calls.waiting j)) a)

      duty_token : (id n j : ℕ) → j ≡ i → Among id n (duty_tokens u.duty) → Token c us id n j
      duty_token id n j e a = (u, ap (get_elem? us) e ∙ at, among_left id n (duty_tokens u.duty) (retry_tokens (waiting_at c.calls.waiting j)) a)

      old_current : (id n j : ℕ) → Token c us id n j → HasEnded q c' id ⊎ IsAt q c' id n
      old_current id n j t = ⊎_elim (λ e. inl (ch.ended id e)) (λ is. ch.tokens_on id n j t is) (law.current id n j t)

      current' : (id n j : ℕ) → Token c' (set us i v) id n j → HasEnded q c' id ⊎ IsAt q c' id n
      current' id n j t = ⊎_elim (λ b. ⊎_elim (λ a. old_current id n j (duty_token id n j b.0 a)) (λ f. inr f.0) (ch.tokens id n b.1)) (λ b. old_current id n j b.0) (token_back id n j t)

      none_of : (id n : ℕ) (l : List (ℕ × ℕ)) → l ≡ [] → Among id n l → ⊥
      none_of id n l e a = subst (Among id n) e a

      coming' : (id n j : ℕ) → Token c' (set us i v) id n j → Past (set us i v) id n → ⊥
      coming' id n j t p = ⊎_elim
          (λ b. ⊎_elim (λ old. ⊎_elim (λ a. law.coming id n j (duty_token id n j b.0 a) old) (λ f. f.2 old) (ch.tokens id n b.1)) (λ s. none_of id n (duty_tokens v.duty) s.1 b.1) (past_back id n p))
          (λ b. ⊎_elim (λ old. law.coming id n j b.0 old) (λ s. apart id n (duty_tokens u.duty) (retry_tokens (waiting_at c.calls.waiting i)) (law.distinct i u at) s.0 (b.1 (law.single id n j i b.0 (duty_token id n i refl s.0)))) (past_back id n p))
          (token_back id n j t)

      single' : (id n j l : ℕ) → Token c' (set us i v) id n j → Token c' (set us i v) id n l → j ≡ l
      single' id n j l s t = ⊎_elim
          (λ a. ⊎_elim (λ b. a.0 ∙ sym b.0) (λ b. ⊎_elim (λ x. law.single id n j l (duty_token id n j a.0 x) b.0) (λ f. absurd (f.1 l b.0)) (ch.tokens id n a.1)) (token_back id n l t))
          (λ a. ⊎_elim (λ b. ⊎_elim (λ x. law.single id n j l a.0 (duty_token id n l b.0 x)) (λ f. absurd (f.1 j a.0)) (ch.tokens id n b.1)) (λ b. law.single id n j l a.0 b.0) (token_back id n l t))
          (token_back id n j s)

      past' : (id n : ℕ) → Past (set us i v) id n → HasEnded q c' id ⊎ WasAt q c' id n
      past' id n p = ⊎_elim (λ old. ⊎_elim (λ e. inl (ch.ended id e)) (λ w. ch.was id n w) (law.past id n old))
          (λ s. ⊎_elim (λ e. inl (ch.ended id e)) (λ is. let same = is.3 in ch.was id n (is.0, is.1, is.2, omega (arith, same))) (law.current id n i (duty_token id n i refl s.0)))
          (past_back id n p)

      pub change : OwingLaw q life calls c' (set us i v)
      change = record {
        room = (let r = law.room in let a = length-set us i v in let b = ap length ch.waiting in omega (arith, r, a, b));
        owed = ch.owed;
        current = current';
        coming = coming';
        single = single';
        distinct = λ j w e. ⊎_elim
            (λ b. subst (λ (x : Owing). Distinct (duty_tokens x.duty ++ retry_tokens (waiting_at c'.calls.waiting j))) b.1 (subst (λ x. Distinct (duty_tokens v.duty ++ retry_tokens x)) (sym (same_waits j ∙ ap (waiting_at c.calls.waiting) b.0)) ch.distinct))
            (λ b. subst (λ x. Distinct (duty_tokens w.duty ++ retry_tokens x)) (sym (same_waits j)) (law.distinct j w b.1)) (at_set us i j v w e);
        past = past';
        errors = ch.errors;
        letters = ch.letters;
        ats = ch.ats;
        readers = λ k s e. let r = law.readers k s e in dite (ℕ_discrete r.0 i)
            (λ here. let same : r.1 ≡ u = some-injective r.1 u (sym r.2 ∙ ap (get_elem? us) here ∙ at) in let linked : u.link ≡ k ∷ [] = subst (λ (w : Owing). w.link ≡ k ∷ []) same r.3 in
            (i, v, set_at us i u v at, ch.link ∙ linked, ch.reads k s linked e (subst (λ (w : Owing). (w.dead ≡ true) ⊎ (w.left ≡ calls)) same r.4)))
            (λ ne. (r.0, r.1, set_beside us i r.0 v r.1 ne r.2, r.3, r.4));
        dead = λ j k w e l d. ⊎_elim (λ b. ch.dead k (ap (λ (x : Owing). x.link) b.1 ∙ l) (ap (λ (x : Owing). x.dead) b.1 ∙ d)) (λ b. ch.failed k (law.dead j k w b.1 l d)) (at_set us i j v w e);
        stored = λ j w e. ⊎_elim (λ b. subst (λ (x : Owing). Stored q calls c' (set us i v) x.duty) b.1 ch.own) (λ b. ch.others j w b.0 b.1 (law.stored j w b.1)) (at_set us i j v w e);
        tied = λ j k ks w e l. ⊎_elim (λ b. b.0 ∙ law.tied i k ks u at (sym ch.link ∙ (ap (λ (x : Owing). x.link) b.1 ∙ l))) (λ b. law.tied j k ks w b.1 l) (at_set us i j v w e);
        kept = λ j w e k. ⊎_elim (λ b. same_waits j ∙ ap (waiting_at c.calls.waiting) b.0 ∙ law.kept i u at (ch.keeps (ap (λ (x : Owing). x.keeps) b.1 ∙ k))) (λ b. same_waits j ∙ law.kept j w b.1 k) (at_set us i j v w e);
      }
