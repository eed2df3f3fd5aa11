-- Retries that are kept and taken up, and the seat that follows a step.
use Rattle.std.proofs.Common.{◌≡◌, ◌≢◌, ℕ, ◌⊎◌, inl, inr, ⊎_elim, Bool, true, false, List, [], ◌∷◌, ◌++◌, Option, length-set, set, get_or-set_same, get_or-set_other, refl, sym, ap, ◌∙◌, subst, arith}
use Rattle.std.specs.Prelude as std
use mathlib.Core.Logic.{dite}
use native.Mathlib.Decide.{ℕ_discrete}
use mathlib.Core.Option.{some, some-injective}
use lib.ListN.{get_elem?}
use Rattle.atomic_table.proofs.Lists.{at_set}
use Rattle.sock_words.specs.declared.outcome.Outcome.{Outcome}
use Rattle.corr_core.specs.declared.marks.Plan.{Plan as IdPlan}
use Rattle.corr_core.proofs.NoteSums.{at_length}
use Rattle.seat_programs.specs.LoopHeads.{Retry}
use Rattle.seat_programs.specs.Cores.{Core, SeatState, waiting_at}
use Rattle.call_owing.specs.Owing.{Duty, Looking, Owing, Among, InList, DutyTo, duty_tokens}
use Rattle.call_owing.specs.SoundOwing.{id_word_of, at_of, retry_tokens, Owed, by_seat, by_retry, by_reader, Past, tokens_at, Token, Distinct, ErrorPast, Stored, OwingLaw}
use Rattle.call_owing.proofs.OwedMarkChanges.{set_at, set_beside}

-- a seat knows what it knew, and reads on as it did
pub record SameBut (u v : Owing) : Type 0 where
  pub knows : v.knows ≡ u.knows
  pub link : v.link ≡ u.link
  pub left : v.left ≡ u.left
  pub dead : v.dead ≡ u.dead

pub same_but : (u : Owing) (duty : Duty) (keeps : Bool) → SameBut u (record { duty = duty; knows = u.knows; keeps = keeps; link = u.link; left = u.left; dead = u.dead })
same_but u duty keeps = record { knows = refl; link = refl; left = refl; dead = refl }

module _ (q : IdPlan) (life : ℕ → Option ℕ) (calls : List ℕ) (c : Core) (us : List Owing) (i : ℕ) (u : Owing) (law : OwingLaw q life calls c us) (at : get_elem? us i ≡ some u) (ss : List SeatState) (os : List (std.Option Outcome)) (ws : List Retry) (v : Owing) where
  abbrev pub Waits : Core
  Waits = record { words = c.words; homes = c.homes; seats = ss; outcomes = os; calls = record c.calls { waiting = set c.calls.waiting i ws } }

  pub record Rewait : Type 0 where
    pub same : SameBut u v
    pub tokens : (id n : ℕ) → Among id n (duty_tokens v.duty ++ retry_tokens ws) → Among id n (tokens_at c u i)
    pub distinct : Distinct (duty_tokens v.duty ++ retry_tokens ws)
    pub duty : (id n : ℕ) → DutyTo id n u.duty → DutyTo id n v.duty ⊎ Among id n (retry_tokens ws)
    pub retry : (id n : ℕ) → Among id n (retry_tokens (waiting_at c.calls.waiting i)) → DutyTo id n v.duty ⊎ Among id n (retry_tokens ws)
    pub own : Stored q calls c us v.duty
    pub kept : v.keeps ≡ false → ws ≡ []

  module _ (m : Rewait) where
    here : waiting_at (set c.calls.waiting i ws) i ≡ ws
    here = get_or-set_same c.calls.waiting i ws [] (let r = law.room in let z = at_length us i u at in omega (arith, r, z))

    else_ : (j : ℕ) → j ≢ i → waiting_at (set c.calls.waiting i ws) j ≡ waiting_at c.calls.waiting j
    else_ j ne = get_or-set_other c.calls.waiting i j ws [] ne

    past_to : (id n : ℕ) → Past us id n → Past (set us i v) id n
    past_to id n p = dite (ℕ_discrete p.0 i)
        (λ e. (i, v, set_at us i u v at, subst (Among id n) (sym m.same.knows) (subst (λ (w : Owing). Among id n w.knows) (some-injective p.1 u (sym p.2 ∙ ap (get_elem? us) e ∙ at)) p.3)))
        (λ ne. (p.0, p.1, set_beside us i p.0 v p.1 ne p.2, p.3))

    past_from : (id n : ℕ) → Past (set us i v) id n → Past us id n
    past_from id n p = ⊎_elim (λ b. (i, u, at, subst (Among id n) m.same.knows (subst (λ (w : Owing). Among id n w.knows) (sym b.1) p.3))) (λ b. (p.0, p.1, b.1, p.3)) (at_set us i p.0 v p.1 p.2)

    error_to : (id e : ℕ) → ErrorPast us id e → ErrorPast (set us i v) id e
    error_to id e p some_ = ⊎_elim (λ x. inl x) (λ x. inr (past_to id (Rattle.corr_core.specs.IdSlotWord.attempt_of e) x)) (p some_)

    token_from : (id n j : ℕ) → Token Waits (set us i v) id n j → Token c us id n j
    token_from id n j t = ⊎_elim
        (λ b. (u, ap (get_elem? us) b.0 ∙ at, subst (λ k. Among id n (duty_tokens u.duty ++ retry_tokens (waiting_at c.calls.waiting k))) (sym b.0) (m.tokens id n (subst (λ x. Among id n (duty_tokens v.duty ++ retry_tokens x)) (ap (waiting_at (set c.calls.waiting i ws)) b.0 ∙ here) (subst (λ (w : Owing). Among id n (duty_tokens w.duty ++ retry_tokens (waiting_at (set c.calls.waiting i ws) j))) (sym b.1) t.2)))))
        (λ b. (t.0, b.1, subst (λ x. Among id n (duty_tokens t.0.duty ++ retry_tokens x)) (else_ j b.0) t.2)) (at_set us i j v t.0 t.1)

    stored_to : (d : Duty) → Stored q calls c us d → Stored q calls Waits (set us i v) d
    stored_to (Looking id n k o) x = (x.0, x.1, past_to id n x.2, x.3, x.4)
    stored_to _ x = tt

    by_own : (id n : ℕ) → DutyTo id n v.duty ⊎ Among id n (retry_tokens ws) → Owed q life Waits (set us i v) id n
    by_own id n (inl d) = by_seat i v (set_at us i u v at) d
    by_own id n (inr a) = by_retry i v (set_at us i u v at) (subst (λ x. Among id n (retry_tokens x)) (sym here) a)

    owed_to : (id n : ℕ) → Owed q life c us id n → Owed q life Waits (set us i v) id n
    owed_to id n (by_seat j x e d) = dite (ℕ_discrete j i) (λ h. by_own id n (m.duty id n (subst (λ (y : Owing). DutyTo id n y.duty) (some-injective x u (sym e ∙ ap (get_elem? us) h ∙ at)) d))) (λ ne. by_seat j x (set_beside us i j v x ne e) d)
    owed_to id n (by_retry j x e a) = dite (ℕ_discrete j i) (λ h. by_own id n (m.retry id n (subst (λ k. Among id n (retry_tokens (waiting_at c.calls.waiting k))) h a))) (λ ne. by_retry j x (set_beside us i j v x ne e) (subst (λ y. Among id n (retry_tokens y)) (sym (else_ j ne)) a))
    owed_to id n (by_reader o k s j x low lives word e l left) = dite (ℕ_discrete j i)
        (λ h. let same = some-injective x u (sym e ∙ ap (get_elem? us) h ∙ at) in by_reader o k s i v low lives word (set_at us i u v at) (m.same.link ∙ subst (λ (y : Owing). y.link ≡ k ∷ []) same l) (subst (InList o) (sym m.same.left) (subst (λ (y : Owing). InList o y.left) same left)))
        (λ ne. by_reader o k s j x low lives word (set_beside us i j v x ne e) l left)

    pub rewaits : OwingLaw q life calls Waits (set us i v)
    rewaits = record {
      room = (let r = law.room in let a = length-set us i v in let b = length-set c.calls.waiting i ws in omega (arith, r, a, b));
      owed = λ id n inside is. owed_to id n (law.owed id n inside is);
      current = λ id n j t. law.current id n j (token_from id n j t);
      coming = λ id n j t p. law.coming id n j (token_from id n j t) (past_from id n p);
      single = λ id n j l s t. law.single id n j l (token_from id n j s) (token_from id n l t);
      distinct = λ j x e. ⊎_elim (λ b. subst (λ (y : Owing). Distinct (duty_tokens y.duty ++ retry_tokens (waiting_at (set c.calls.waiting i ws) j))) b.1 (subst (λ y. Distinct (duty_tokens v.duty ++ retry_tokens y)) (sym (ap (waiting_at (set c.calls.waiting i ws)) b.0 ∙ here)) m.distinct))
          (λ b. subst (λ y. Distinct (duty_tokens x.duty ++ retry_tokens y)) (sym (else_ j b.0)) (law.distinct j x b.1)) (at_set us i j v x e);
      past = λ id n p. law.past id n (past_from id n p);
      errors = λ id l f x. let e = law.errors id l f x in (error_to id (id_word_of c (Rattle.sock_words.specs.PackedWords.id_slot id)).oldest e.0, error_to id (id_word_of c (Rattle.sock_words.specs.PackedWords.id_slot id)).second e.1);
      letters = λ r heading bytes e some_. let l = law.letters r heading bytes e some_ in (past_to heading.owner heading.label.attempt l.0, l.1);
      ats = λ o l some_. past_to (Rattle.sock_words.specs.PackedWords.call_id (Rattle.sock_words.specs.PackedWords.at_word_slot (at_of q c o)) (Rattle.sock_words.specs.PackedWords.at_word_first (at_of q c o))) (Rattle.sock_words.specs.PackedWords.at_word_attempt (at_of q c o)) (law.ats o l some_);
      readers = λ k s e. let r = law.readers k s e in dite (ℕ_discrete r.0 i)
          (λ h. let same : r.1 ≡ u = some-injective r.1 u (sym r.2 ∙ ap (get_elem? us) h ∙ at) in (i, v, set_at us i u v at, m.same.link ∙ subst (λ (w : Owing). w.link ≡ k ∷ []) same r.3, ⊎_elim (λ d. inl (m.same.dead ∙ d)) (λ d. inr (m.same.left ∙ d)) (subst (λ (w : Owing). (w.dead ≡ true) ⊎ (w.left ≡ calls)) same r.4)))
          (λ ne. (r.0, r.1, set_beside us i r.0 v r.1 ne r.2, r.3, r.4));
      dead = λ j k w e l d. ⊎_elim (λ b. law.dead i k u at (sym m.same.link ∙ ap (λ (x : Owing). x.link) b.1 ∙ l) (sym m.same.dead ∙ ap (λ (x : Owing). x.dead) b.1 ∙ d)) (λ b. law.dead j k w b.1 l d) (at_set us i j v w e);
      stored = λ j w e. ⊎_elim (λ b. subst (λ (x : Owing). Stored q calls Waits (set us i v) x.duty) b.1 (stored_to v.duty m.own)) (λ b. stored_to w.duty (law.stored j w b.1)) (at_set us i j v w e);
      tied = λ j k ks w e l. ⊎_elim (λ b. b.0 ∙ law.tied i k ks u at (sym m.same.link ∙ (ap (λ (x : Owing). x.link) b.1 ∙ l))) (λ b. law.tied j k ks w b.1 l) (at_set us i j v w e);
      kept = λ j w e k. ⊎_elim (λ b. ap (waiting_at (set c.calls.waiting i ws)) b.0 ∙ here ∙ m.kept (ap (λ (x : Owing). x.keeps) b.1 ∙ k)) (λ b. else_ j b.0 ∙ law.kept j w b.1 k) (at_set us i j v w e);
    }
