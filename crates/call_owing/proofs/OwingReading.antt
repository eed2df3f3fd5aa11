-- The reader of a link does what it owes.
use Rattle.std.proofs.Common.{◌≡◌, ℕ, ◌+◌, ◌-◌, ◌%◌, ◌<◌, ◌&&◌, ◌||◌, inl, inr, Bool, true, false, cond, eqb, nat_lt, List, [], ◌∷◌, Option, Some, None, length, refl, sym, ap, ◌∙◌, subst, arith}
use Rattle.sock_words.specs.PackedWords.{socket_id_slot, socket_id_version, vref_version, at_word_first, at_word_slot, at_word_link, at_word_attempt, call_id, id_slot, id_first, NO_SOCKET}
use Rattle.sock_words.specs.ErrorCodes.{is_final}
use Rattle.corr_core.specs.IdSlotWord.{parts, error_of, code_of, attempt_of}
use Rattle.seat_programs.specs.brpc_model.specs.Frame.{Frame}
use Rattle.seat_programs.specs.TableSteps.{OnSlot, AddRef, StoreCode, SubRef}
use Rattle.seat_programs.specs.LoopHeads.{Reads, Discards, Posting, HasLocked, Ended}
use Rattle.seat_programs.specs.Programs.{Program, Do, Rest, Round, add_reference, release, set_failed}
use Rattle.seat_programs.specs.PostPrograms.{post_with, decide, decided, is_stale}
use Rattle.seat_programs.specs.ReaderProgram.{LIMIT, slot_in, kept_for, ends_with, posted_last, post_each, thrown_away, read, reader}
use Rattle.call_owing.specs.Owing.{Free, Telling, Owing, freed, with_duty, with_known, with_left, with_dead, loaded, KnowsError, CallMove, stays, fails, gone}
use Rattle.call_owing.specs.Owes.{Further, MayDecide, LeavesPosts, OwesOn}
use Rattle.call_owing.proofs.PostsAndDecisionsOwed.{not_equal, way, pick, post_with_goes, decided_on}
use Rattle.call_owing.proofs.OwingRounds.{answer_goes}
use Rattle.call_owing.proofs.OwingPrograms.{release_goes, from_freed}

-- a reader at the end of its reading: its life is failed, and these at words are to be loaded
pub record IsPast (k : ℕ) (os : List ℕ) (u : Owing) : Type 0 where
  pub duty : u.duty ≡ Free
  pub keeps : u.keeps ≡ false
  pub link : u.link ≡ k ∷ []
  pub left : u.left ≡ os
  pub dead : u.dead ≡ true

past_on : (k : ℕ) (os : List ℕ) (u v : Owing) → IsPast k os u → Further u v → IsPast k os v
past_on k os u v p f = record { duty = f.duty ∙ p.duty; keeps = f.keeps ∙ p.keeps; link = f.link ∙ p.link; left = f.left ∙ p.left; dead = f.dead ∙ p.dead }

or_left : (a b c : Bool) → b ≡ true → (a || (b || c)) ≡ true
or_left true b c e = refl
or_left false true c e = refl
or_left false false c e = cc

module _ (life : ℕ → Option ℕ) where
  abbrev Goes : Owing → Program → Type 0
  Goes u x = OwesOn life u x

  abbrev Later : ℕ → List ℕ → Program → Type 0
  Later k os x = (v : Owing) → IsPast k os v → OwesOn life v x

  module _ (k : ℕ) (os : List ℕ) (id e : ℕ) (final : is_final (code_of e) ≡ true) (next : Program) (goes : Later k os next) where
    decides : (v : Owing) (w : ℕ) → IsPast k os v → KnowsError v id e → is_stale e (parts w) ≡ false → (parts w).first ≡ id_first id → OwesOn life v (decide id w e (decided id next))
    decides v w p knows fresh first = decided_on life v id w e next (subst (MayDecide id w e) (sym p.duty) tt) (knows, fresh, first) (inr (or_left (eqb (attempt_of e) 7) (is_final (code_of e)) (eqb ((parts w).attempt + 2) (parts w).range) final))
        (λ x f. goes x (past_on k os v x p (from_freed v x p.duty f)))

    kept_ends : (w range : ℕ) (kept : List Frame) (v : Owing) → IsPast k os v → KnowsError v id e → is_stale e (parts w) ≡ false → (parts w).first ≡ id_first id → OwesOn life v (ends_with id e w (kept_for id range kept) next)
    kept_ends w range [] v p knows fresh first = decides v w p knows fresh first
    kept_ends w range (f ∷ fs) v p knows fresh first = by_slot ((eqb (slot_in f) (id_slot id)) && (nat_lt id f.meta.correlation_id && nat_lt f.meta.correlation_id (id + range))) (kept_ends w range fs v p knows fresh first)
      where
        by_slot : (b : Bool) → OwesOn life v (ends_with id e w (kept_for id range fs) next) → OwesOn life v (ends_with id e w (cond b (f ∷ kept_for id range fs) (kept_for id range fs)) next)
        by_slot true later = answer_goes life v f (id_first id) next p.duty (goes v p)
        by_slot false later = later

    posted_goes : (kept : List Frame) (u : Owing) → IsPast k os (freed u) → KnowsError u id e → (exit : Posting) (v : Owing) → LeavesPosts life id e exit u v → OwesOn life v (posted_last id e kept next exit)
    posted_goes kept u p knows (HasLocked w) v l = subst (λ x. OwesOn life x (ends_with id e w (kept_for id (parts w).range kept) next)) (sym l.0) (kept_ends w (parts w).range kept (freed u) p knows l.2 l.1)
    posted_goes kept u p knows _ v l = subst (λ x. OwesOn life x next) (sym l) (goes (freed u) p)

  each_goes : (k code : ℕ) → is_final code ≡ true → (kept : List Frame) (next : Program) → Later k [] next → (os : List ℕ) → Later k os (post_each os k code kept next)
  each_goes k code final kept next goes [] u p = goes u p
  each_goes k code final kept next goes (o ∷ os) u p = (
    (p.duty, p.dead),
    λ w _. (loaded k w os u, (k, os, p.link, p.left, refl), by_word (each_goes k code final kept next goes os) w (eqb w 0) (eqb (at_word_link w) k)),
  )
    where
      left : IsPast k os (with_left os u)
      left = record { duty = p.duty; keeps = p.keeps; link = p.link; left = refl; dead = p.dead }

      by_word : Later k os (post_each os k code kept next) → (w : ℕ) (z s : Bool) → OwesOn life (cond z (with_left os u) (cond s (with_known (call_id (at_word_slot w) (at_word_first w)) (at_word_attempt w) (with_duty (Telling (call_id (at_word_slot w) (at_word_first w)) (at_word_attempt w)) (with_left os u))) (with_left os u)))
          (cond z (post_each os k code kept next) (cond s (post_with (call_id (at_word_slot w) (at_word_first w)) (error_of code (at_word_attempt w)) (posted_last (call_id (at_word_slot w) (at_word_first w)) (error_of code (at_word_attempt w)) kept (post_each os k code kept next))) (post_each os k code kept next)))
      by_word more w true s = more (with_left os u) left
      by_word more w false true = let id : ℕ = call_id (at_word_slot w) (at_word_first w) in let n : ℕ = at_word_attempt w in let v : Owing = with_known (call_id (at_word_slot w) (at_word_first w)) (at_word_attempt w) (with_duty (Telling (call_id (at_word_slot w) (at_word_first w)) (at_word_attempt w)) (with_left os u)) in
          post_with_goes life v (call_id (at_word_slot w) (at_word_first w)) (error_of code (at_word_attempt w)) (posted_last (call_id (at_word_slot w) (at_word_first w)) (error_of code (at_word_attempt w)) kept (post_each os k code kept next)) (refl, few code (at_word_attempt w) (omega arith)) (knows w)
          (posted_goes k os (call_id (at_word_slot w) (at_word_first w)) (error_of code (at_word_attempt w)) (subst (λ c. is_final c ≡ true) (sym (code_back code (at_word_attempt w) (omega arith))) final) (post_each os k code kept next) more kept v
          (record { duty = refl; keeps = p.keeps; link = p.link; left = refl; dead = p.dead }) (knows w))
        where
          few : (c n : ℕ) → n < 8 → attempt_of (error_of c n) ≡ n
          few c n low = omega (arith, low)

          code_back : (c n : ℕ) → n < 8 → code_of (error_of c n) ≡ c
          code_back c n low = omega (arith, low)

          knows : (w : ℕ) → KnowsError (with_known (call_id (at_word_slot w) (at_word_first w)) (at_word_attempt w) (with_duty (Telling (call_id (at_word_slot w) (at_word_first w)) (at_word_attempt w)) (with_left os u))) (call_id (at_word_slot w) (at_word_first w)) (error_of code (at_word_attempt w))
          knows w = inr (inl (refl, sym (few code (at_word_attempt w) (omega arith))))
      by_word more w false false = more (with_left os u) left

  thrown_goes : (how : Ended) (k : ℕ) → Later k [] (thrown_away how)
  thrown_goes how k u p = way life u (how.fault && nat_lt how.reading.total LIMIT) (Round (Discards how.reading.link how.reading.total) (λ _. Rest)) Rest
      (λ _. (tt, λ _ v l. subst (λ x. OwesOn life x Rest) (sym l) (p.duty, p.left, p.keeps, λ j s e lives. p.dead))) (λ _. (p.duty, p.left, p.keeps, λ j s e lives. p.dead))

  -- the reader of link k, with these calls to come upon
  pub record IsReading (k : ℕ) (os : List ℕ) (u : Owing) : Type 0 where
    pub duty : u.duty ≡ Free
    pub keeps : u.keeps ≡ false
    pub link : u.link ≡ k ∷ []
    pub left : u.left ≡ os

  dead_past : (k : ℕ) (os : List ℕ) (u : Owing) → IsReading k os u → IsPast k os (with_dead u)
  dead_past k os u r = record { duty = r.duty; keeps = r.keeps; link = r.link; left = r.left; dead = refl }

  -- the life of its link is set failed, or isn't there any more
  fails_goes : (k s code : ℕ) (os : List ℕ) (u : Owing) (last : Program) → life k ≡ Some s → IsReading k os u → Later k os last → Goes u (add_reference s (set_failed s code (λ _. release (socket_id_slot s) (λ _. last))) (λ _. last))
  fails_goes k s code os u last has r goes = (
    tt,
    λ found _. pick life (CallMove life (OnSlot (AddRef s)) found u) (eqb (vref_version found) (socket_id_version s)) (set_failed s code (λ _. release (socket_id_slot s) (λ _. last))) (release (socket_id_slot s) (λ _. last))
        (λ _. (
          u,
          stays refl,
          (
            tt,
            λ word _. (
              with_dead u,
              fails k s refl r.link has refl,
              way life (with_dead u) (eqb (vref_version word % 2) 0)
                  (Do (OnSlot (StoreCode (socket_id_slot s) (socket_id_version s) code)) (λ _. Do (OnSlot (SubRef (socket_id_slot s))) (λ _. release (socket_id_slot s) (λ _. last)))) (release (socket_id_slot s) (λ _. last))
                  (λ _. (tt, λ _ _. (with_dead u, stays refl, (tt, λ _ _. (with_dead u, stays refl, back))))) (λ _. back),
            ),
          ),
        ))
        (λ other. (with_dead u, gone k s refl r.link has (not_equal (vref_version found) (socket_id_version s) other) refl, back)),
  )
    where
      back : Goes (with_dead u) (release (socket_id_slot s) (λ _. last))
      back = release_goes life (with_dead u) (socket_id_slot s) (λ _. last) (λ _. goes (with_dead u) (dead_past k os u r))

  abbrev last_posts : List ℕ → Ended → ℕ → Program
  last_posts calls how l = post_each calls l how.code how.reading.kept (thrown_away how)

  -- a reading that ended, with the marks that it leaves
  read_goes : (k s : ℕ) (calls : List ℕ) (how : Ended) (u v : Owing) → life k ≡ Some s → IsReading k calls u → Further (cond how.closed (with_dead u) u) v → how.reading.link ≡ k → how.reading.id ≡ s → is_final how.code ≡ true → Goes v (read calls how)
  read_goes k s calls how u v has r f link id final = subst (λ (x : ℕ). Goes v (cond how.closed (last_posts calls how how.reading.link) (add_reference x (set_failed x how.code (λ _. release (socket_id_slot x) (λ _. last_posts calls how how.reading.link))) (λ _. last_posts calls how how.reading.link)))) (sym id)
      (subst (λ (l : ℕ). Goes v (cond how.closed (last_posts calls how l) (add_reference s (set_failed s how.code (λ _. release (socket_id_slot s) (λ _. last_posts calls how l))) (λ _. last_posts calls how l)))) (sym link) (by_closed how.closed f))
    where
      posts : Later k calls (post_each calls k how.code how.reading.kept (thrown_away how))
      posts = each_goes k how.code final how.reading.kept (thrown_away how) (thrown_goes how k) calls

      by_closed : (b : Bool) → Further (cond b (with_dead u) u) v → Goes v (cond b (last_posts calls how k) (add_reference s (set_failed s how.code (λ _. release (socket_id_slot s) (λ _. last_posts calls how k))) (λ _. last_posts calls how k)))
      by_closed true f = posts v (past_on k calls (with_dead u) v (dead_past k calls u r) f)
      by_closed false f = fails_goes k s how.code calls v (last_posts calls how k) has (record { duty = f.duty ∙ r.duty; keeps = f.keeps ∙ r.keeps; link = f.link ∙ r.link; left = f.left ∙ r.left }) posts

  pub reader_goes : (calls : List ℕ) (k o : ℕ) (u : Owing) → IsReading k calls u → Goes u (reader calls k o)
  reader_goes calls k o u r = (((k, r.link), (r.duty, r.keeps)), λ word v l. by_word word v (eqb word NO_SOCKET) (l.0 k [] r.link) l.1)
    where
      by_word : (word : ℕ) (v : Owing) (b : Bool) → life k ≡ cond b None (Some (word - 1)) → v ≡ cond b (with_left [] u) u
          → Goes v (cond b Rest (Round (Reads (record { ids = length calls; link = k; id = word - 1; rest = []; total = 0; kept = [] })) (read calls)))
      by_word word v true has is = subst (λ x. Goes x Rest) (sym is) (r.duty, refl, r.keeps, λ j s e lives. absurd (none_there j s e lives))
        where
          none_there : (j s : ℕ) → u.link ≡ j ∷ [] → life j ≡ Some s → ⊥
          none_there j s e lives = let z : k ∷ [] ≡ j ∷ [] = sym r.link ∙ e in let y : k ≡ j = cc in let x : None ≡ Some s = sym has ∙ (ap life y ∙ lives) in cc
      by_word word v false has is = subst (λ x. Goes x (Round (Reads (record { ids = length calls; link = k; id = word - 1; rest = []; total = 0; kept = [] })) (read calls))) (sym is)
          ((r.duty, r.link, has), λ how x e. read_goes k (word - 1) calls how u x has r e.0 e.1 e.2 e.3)
