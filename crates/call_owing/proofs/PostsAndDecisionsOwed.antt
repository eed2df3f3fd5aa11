-- Posts, decisions and the loops that give a lock back: who makes them does what it owes.
use Rattle.std.proofs.Common.{◌≡◌, ◌≢◌, ℕ, ◌+◌, ◌<◌, ◌≤◌, inl, inr, ◌&&◌, ◌||◌, not, Bool, true, false, cond, eqb, eqb-true, eq-eqb, ne_eqb, leb, Option, refl, sym, ap, ◌∙◌, subst, arith}
use Rattle.corr_core.specs.IdSlotWord.{Parts, parts, locked_word, posted_word, unlocked_word, code_of, attempt_of, error_of}
use Rattle.corr_core.specs.IdSlotLaw.{LAST}
use Rattle.corr_core.specs.EndedByRangeOrAttempt.{ends_call}
use Rattle.seat_programs.specs.sock_message.specs.Asked.{Asked}
use Rattle.seat_programs.specs.Asides.{PutCall, FreeId}
use Rattle.seat_programs.specs.LoopHeads.{Retry, Posts, Unlocks, Decides, Posting, WasGone, WasStale, WasCrowded, WasQueued, HasLocked, Unlocking, IsOpen, HasNext, Deciding, HasEnded, GoesOn}
use Rattle.seat_programs.specs.Programs.{Program, Aside, Round}
use Rattle.sock_words.specs.ErrorCodes.{is_final}
use Rattle.seat_programs.specs.PostPrograms.{packed, is_first, is_stale, is_full, judged, posted, post_with, post, popped, end_id, decide, decided, unlocked}
use Rattle.seat_programs.specs.LoopRounds.{round}
use Rattle.joint_runs.specs.Below.id_runs.proofs.AsidesKeepingIdRule.{parts_packed}
use Rattle.call_owing.specs.Owing.{Duty, Free, Trying, Linked, Looking, Telling, Owing, Among, IsOpenAt, with_duty, freed, with_known, with_error, unlocked_by, KnowsError, FindsUnlock}
use Rattle.call_owing.specs.Owing as owing
use Rattle.call_owing.specs.Owes.{Further, PostsOwn, IsDue, MayDecide, MayAdvance, AtOwe, LeavesUnlocks, LeavesPosts, OwesOn}
pub use Rattle.joint_runs.specs.Below.id_runs.proofs.IdLoopRounds.{not_true, not_equal, and_left, and_right}
use Rattle.sock_words.specs.PackedWords.{id_slot, id_first, call_id, bit}

-- ## Numbers and truth values

pub id_back : (id : ℕ) → call_id (id_slot id) (id_first id) ≡ id
id_back id = omega arith

pub not_false : (b : Bool) → not b ≡ true → b ≡ false
not_false true e = cc
not_false false e = refl

pub both_true : (a b : Bool) → a ≡ true → b ≡ true → (a && b) ≡ true
both_true true true x y = refl
both_true true false x y = cc
both_true false b x y = cc

or_none : (a b : Bool) → (a || b) ≡ false → a ≡ false
or_none true b e = cc
or_none false b e = refl

pub true_false : (b : Bool) → b ≡ true → b ≡ false → ⊥
true_false true x y = let z : true ≡ false = y in cc
true_false false x y = let z : false ≡ true = x in cc

-- an error that isn't stale is for the whole call or of the current attempt
pub current_of : (a b : Bool) → (not a && not b) ≡ false → a ≡ false → b ≡ true
current_of true b e z = cc
current_of false true e z = refl
current_of false false e z = cc

stale_right : (a b : Bool) → (not a && not b) ≡ true → b ≡ false
stale_right true b e = cc
stale_right false true e = cc
stale_right false false e = refl

pub whole_fresh : (a b : Bool) → a ≡ true → (not a && not b) ≡ false
whole_fresh true b e = refl
whole_fresh false b e = cc

-- ## What a seat knows

pub same_further : (u : Owing) → Further u u
same_further u = record { duty = refl; knows = λ id n a. a; keeps = refl; link = refl; left = refl; dead = refl }

pub then_further : (u v w : Owing) → Further u v → Further v w → Further u w
then_further u v w a b = record { duty = b.duty ∙ a.duty; knows = λ id n x. b.knows id n (a.knows id n x); keeps = b.keeps ∙ a.keeps; link = b.link ∙ a.link; left = b.left ∙ a.left; dead = b.dead ∙ a.dead }

pub free_further : (u v : Owing) → Further u v → Further (freed u) (freed v)
free_further u v a = record { duty = refl; knows = a.knows; keeps = a.keeps; link = a.link; left = a.left; dead = a.dead }

pub duty_further : (d : Duty) (u v : Owing) → Further u v → Further (with_duty d u) (with_duty d v)
duty_further d u v a = record { duty = refl; knows = a.knows; keeps = a.keeps; link = a.link; left = a.left; dead = a.dead }

pub known_further : (id n : ℕ) (u : Owing) → Further u (with_known id n u)
known_further id n u = record { duty = refl; knows = λ i m a. inr a; keeps = refl; link = refl; left = refl; dead = refl }

pub was_free : (u : Owing) → u.duty ≡ Free → freed u ≡ u
was_free u e = ap (λ d. with_duty d u) (sym e)

pub had_duty : (u : Owing) (d : Duty) → u.duty ≡ d → with_duty d u ≡ u
had_duty u d e = ap (λ x. with_duty x u) (sym e)

-- from its seat free, what is further is further from the free one
pub free_from : (u v : Owing) → u.duty ≡ Free → Further u v → Further (freed u) v
free_from u v e a = subst (λ x. Further x v) (sym (was_free u e)) a

error_further : (id e : ℕ) (u : Owing) → Further u (with_error id e u)
error_further id e u = by_zero (eqb e 0) (eqb (attempt_of e) 7)
  where
    by_zero : (z s : Bool) → Further u (cond z u (cond s u (with_known id (attempt_of e) u)))
    by_zero true s = same_further u
    by_zero false true = same_further u
    by_zero false false = known_further id (attempt_of e) u

-- ## Ways

module _ (life : ℕ → Option ℕ) where
  abbrev Goes : Owing → Program → Type 0
  Goes u x = OwesOn life u x

  abbrev Follows : Owing → Program → Type 0
  Follows u x = (v : Owing) → Further u v → OwesOn life v x

  pub way : (u : Owing) (b : Bool) (x y : Program) → (b ≡ true → OwesOn life u x) → (b ≡ false → OwesOn life u y) → OwesOn life u (cond b x y)
  way u true x y f g = f refl
  way u false x y f g = g refl

  -- a step that changes marks by M, and what follows it
  abbrev Goal : (Owing → Type 0) → Program → Type 0
  Goal M x = (v : Owing) × M v × OwesOn life v x

  pub pick : (M : Owing → Type 0) (b : Bool) (x y : Program) → (b ≡ true → (v : Owing) × M v × OwesOn life v x) → (b ≡ false → (v : Owing) × M v × OwesOn life v y) → (v : Owing) × M v × OwesOn life v (cond b x y)
  pick M true x y f g = f refl
  pick M false x y f g = g refl

  -- ## Posting

  -- whoever found that the id isn't open at the attempt, or posted, owes nothing any more
  posts_off : (i found : ℕ) (won : Bool) (u : Owing) (id e : ℕ) → id_slot id ≡ i → PostsOwn id e u.duty → (IsOpenAt id (attempt_of e) (parts found) → won ≡ true) → owing.Posting i found won u (freed u)
  posts_off i found won u id e slot own not_open = by_duty u.duty refl own
    where
      by_duty : (d : Duty) → u.duty ≡ d → PostsOwn id e d → owing.Posting i found won u (freed u)
      by_duty Free is own = owing.posts_on (was_free u is)
      by_duty (Telling j n) is own = owing.leaves j n is (ap id_slot own.0 ∙ slot) (λ o. not_open (subst (λ (x : ℕ). IsOpenAt x (attempt_of e) (parts found)) own.0 (subst (λ (m : ℕ). IsOpenAt j m (parts found)) (sym own.1) o))) refl
      by_duty (Trying j n) is own = absurd own
      by_duty (Linked j n k) is own = absurd own
      by_duty (Looking j n k o) is own = absurd own

  judged_goes : (u : Owing) (id e found : ℕ) (won : Bool) (k : Posting → Program) → PostsOwn id e u.duty → KnowsError u id e
      → ((exit : Posting) (v : Owing) → LeavesPosts life id e exit u v → OwesOn life v (k exit)) → (v : Owing) × owing.Posting (id_slot id) found won u v × OwesOn life v (judged id e found k)
  judged_goes u id e found won k own knows goes =
      let M : Owing → Type 0 = owing.Posting (id_slot id) found won u in
      let two : Program = cond (is_full (parts found)) (k (WasCrowded (code_of (parts found).oldest) (code_of (parts found).second))) (Round (Posts id e found) k) in
      let one_ : Program = cond (is_stale e (parts found)) (k WasStale) two in
      pick (owing.Posting (id_slot id) found won u) (not (is_first (id_first id) (parts found))) (k WasGone) one_
      (λ gone. (freed u, posts_off (id_slot id) found won u id e refl own (λ o. absurd (true_false (is_first (id_first id) (parts found)) (open_first o) (not_false (is_first (id_first id) (parts found)) gone))), goes WasGone (freed u) refl))
      (λ here. pick (owing.Posting (id_slot id) found won u) (is_stale e (parts found)) (k WasStale) two
      (λ stale. (freed u, posts_off (id_slot id) found won u id e refl own (λ o. absurd (not_equal (attempt_of e) (parts found).attempt (stale_right (eqb (attempt_of e) 7) (eqb (attempt_of e) (parts found).attempt) stale) (sym o.2))), goes WasStale (freed u) refl))
      (λ fresh. pick (owing.Posting (id_slot id) found won u) (is_full (parts found)) (k (WasCrowded (code_of (parts found).oldest) (code_of (parts found).second))) (Round (Posts id e found) k)
      (λ full. (freed u, posts_off (id_slot id) found won u id e refl own (λ o. absurd (not_two (and_left (eqb (parts found).state 2) (not (eqb (parts found).second 0)) full) o.1)), goes (WasCrowded (code_of (parts found).oldest) (code_of (parts found).second)) (freed u) refl))
      (λ room. (u, owing.posts_on refl, ((own, knows, eqb-true (parts found).first (id_first id) (and_left (eqb (parts found).first (id_first id)) (not (eqb (parts found).state 0)) (not_true (is_first (id_first id) (parts found)) here)), fresh), goes)))))
    where
      not_two : eqb (parts found).state 2 ≡ true → (parts found).state ≡ 1 → ⊥
      not_two two one = let a = eqb-true (parts found).state 2 two in omega (arith, a, one)

      open_first : IsOpenAt id (attempt_of e) (parts found) → is_first (id_first id) (parts found) ≡ true
      open_first o = both_true (eqb (parts found).first (id_first id)) (not (eqb (parts found).state 0)) (eq-eqb (parts found).first (id_first id) o.0) (ap not (ne_eqb (parts found).state 0 (let z = o.1 in λ x. omega (arith, z, x))))

  pub post_with_goes : (u : Owing) (id e : ℕ) (k : Posting → Program) → PostsOwn id e u.duty → KnowsError u id e → ((exit : Posting) (v : Owing) → LeavesPosts life id e exit u v → OwesOn life v (k exit)) → OwesOn life u (post_with id e k)
  post_with_goes u id e k own knows goes = (tt, λ found _. judged_goes u id e found false k own knows goes)

  -- the word of an id that was found open, once it is locked
  pub locked_parts : (w e : ℕ) → (parts w).state ≡ 1 → parts (packed (posted_word (parts w) e)) ≡ locked_word (parts w)
  locked_parts w e one = ap (λ x. parts (packed x)) (ap (λ b. cond b (locked_word (parts w)) record { first = (parts w).first; state = 2; range = (parts w).range; attempt = (parts w).attempt; oldest = cond (eqb (parts w).oldest 0) e (parts w).oldest; second = cond (eqb (parts w).oldest 0) 0 e }) (eq-eqb (parts w).state 1 one))
      ∙ parts_packed (locked_word (parts w)) (omega arith) (omega arith) (omega arith) (omega arith) (omega arith) (omega arith)

  pub posts_goes : (u : Owing) (id e from : ℕ) (k : Posting → Program) → AtOwe life u (Posts id e from) → ((exit : Posting) (v : Owing) → LeavesPosts life id e exit u v → OwesOn life v (k exit)) → OwesOn life u (round (Posts id e from) k)
  posts_goes u id e from k at goes = (
    subst (λ x. KnowsError u x e) (sym (ap (call_id (id_slot id)) at.2 ∙ id_back id)) at.1,
    λ found _. pick (owing.Posting (id_slot id) found (eqb found from) u) (eqb found from) (cond (eqb (parts from).state 1) (k (HasLocked (packed (posted_word (parts from) e)))) (k WasQueued)) (judged id e found k)
        (λ hit. (
          freed u,
          posts_off (id_slot id) found (eqb found from) u id e refl at.0 (λ _. hit),
          way (freed u) (eqb (parts from).state 1) (k (HasLocked (packed (posted_word (parts from) e)))) (k WasQueued)
              (λ one. let is : parts (packed (posted_word (parts from) e)) ≡ locked_word (parts from) = locked_parts from e (eqb-true (parts from).state 1 one) in
              goes (HasLocked (packed (posted_word (parts from) e))) (freed u) (refl, ap (λ (w : Parts). w.first) is ∙ at.2, ap (is_stale e) is ∙ at.3))
              (λ _. goes WasQueued (freed u) refl),
        ))
        (λ _. judged_goes u id e found (eqb found from) k at.0 at.1 goes),
  )

  -- ## Deciding

  pub decide_goes : (u : Owing) (id w e : ℕ) (k : Deciding → Program) → MayDecide id w e u.duty → IsDue u id w e → MayAdvance u w e → ((exit : Deciding) (v : Owing) → Further (freed u) v → OwesOn life v (k exit)) → OwesOn life u (decide id w e k)
  decide_goes u id w e k may due advance goes = (tt, λ asked _. (u, refl, ((may, due, advance), goes)))

  pub end_goes : (u : Owing) (i : ℕ) (next : Program) → u.duty ≡ Free → OwesOn life u next → OwesOn life u (end_id i next)
  end_goes u i next free goes = (tt, λ found _. (u, owing.ends_other refl, way u (leb ((parts found).first + (parts found).range) LAST) (Aside (FreeId i) (λ _. next)) next (λ _. (tt, λ _ _. (u, refl, goes))) (λ _. goes)))

  ends_goes : (u : Owing) (id w e : ℕ) (next : Program) → MayDecide id w e u.duty → OwesOn life (freed u) next → OwesOn life u (end_id (id_slot id) next)
  ends_goes u id w e next may goes = (tt, λ found _. (freed u, by_duty found u.duty refl may, way (freed u) (leb ((parts found).first + (parts found).range) LAST) (Aside (FreeId (id_slot id)) (λ _. next)) next (λ _. (tt, λ _ _. (freed u, refl, goes))) (λ _. goes)))
    where
      by_duty : (found : ℕ) (d : Duty) → u.duty ≡ d → MayDecide id w e d → owing.Ending (id_slot id) found u (freed u)
      by_duty found Free is m = owing.ends_other (was_free u is)
      by_duty found (Trying j n) is m = owing.ends_own j n is (ap id_slot m.0) refl
      by_duty found (Linked j n k) is m = absurd m
      by_duty found (Looking j n k o) is m = absurd m
      by_duty found (Telling j n) is m = absurd m

  unlocked_goes : (u : Owing) (r : Retry) (k : Deciding → Program) → u.keeps ≡ true → ((exit : Deciding) (v : Owing) → Further (freed u) v → OwesOn life v (k exit)) → (exit : Unlocking) (v : Owing) → LeavesUnlocks life r.id r.attempt exit u v → OwesOn life v (unlocked r k exit)
  unlocked_goes u r k keeps goes (IsOpen w) v l = (l.0.duty, l.0.keeps ∙ keeps, l.1, goes GoesOn (freed v) (free_further (with_duty (Trying r.id r.attempt) u) v l.0))
  unlocked_goes u r k keeps goes (HasNext w e) v l = (
    l.0.duty,
    l.0.keeps ∙ keeps,
    l.3,
    decide_goes (freed v) r.id w e k tt (inl l.1, whole_fresh (eqb (attempt_of e) 7) (eqb (attempt_of e) (parts w).attempt) (eq-eqb (attempt_of e) 7 l.1), l.2) (inl (l.0.keeps ∙ keeps))
        (λ exit x f. goes exit x (then_further (freed u) (freed v) x (free_further (with_duty (Trying r.id r.attempt) u) v l.0) f)),
  )

  pub decides_goes : (u : Owing) (id : ℕ) (asked : Asked) (w e : ℕ) (k : Deciding → Program) → AtOwe life u (Decides id asked w e) → ((exit : Deciding) (v : Owing) → Further (freed u) v → OwesOn life v (k exit)) → OwesOn life u (round (Decides id asked w e) k)
  decides_goes u id asked w e k at goes = way u (ends_call (parts w) e) (end_id (id_slot id) (k (HasEnded asked.operation (code_of e))))
      (Aside (PutCall (id_slot id) asked) (λ _. Round (Unlocks (id_slot id) w true) (unlocked (record { id = id; attempt = (parts w).attempt + 1 }) k)))
      (λ _. ends_goes u id w e (k (HasEnded asked.operation (code_of e))) at.0 (goes (HasEnded asked.operation (code_of e)) (freed u) (same_further (freed u))))
      (λ on. let some_ : eqb (attempt_of e) 7 ≡ false = or_none (eqb (attempt_of e) 7) (is_final (code_of e) || eqb ((parts w).attempt + 2) (parts w).range) on in let free = free_duty some_ u.duty refl at.0 in
      let here : call_id (id_slot id) (parts w).first ≡ id = ap (call_id (id_slot id)) at.1.2 ∙ id_back id in
      let now : attempt_of e ≡ (parts w).attempt = eqb-true (attempt_of e) (parts w).attempt (current_of (eqb (attempt_of e) 7) (eqb (attempt_of e) (parts w).attempt) at.1.1 some_) in (
        tt,
        λ _ _. (
          u,
          refl,
          (
            (free, subst (λ x. Among x (parts w).attempt u.knows) (sym here) (subst (λ n. Among id n u.knows) now (known some_ at.1.0))),
            λ exit v l. unlocked_goes u (record { id = id; attempt = (parts w).attempt + 1 }) k (keeps on at.2) goes exit v (subst (λ x. LeavesUnlocks life x ((parts w).attempt + 1) exit u v) here l),
          ),
        ),
      ))
    where
      free_duty : eqb (attempt_of e) 7 ≡ false → (d : Duty) → u.duty ≡ d → MayDecide id w e d → u.duty ≡ Free
      free_duty some_ Free is m = is
      free_duty some_ (Trying j n) is m = absurd (not_equal (attempt_of e) 7 some_ m.1)
      free_duty some_ (Linked j n k) is m = absurd m
      free_duty some_ (Looking j n k o) is m = absurd m
      free_duty some_ (Telling j n) is m = absurd m

      known : eqb (attempt_of e) 7 ≡ false → KnowsError u id e → Among id (attempt_of e) u.knows
      known some_ (inl whole) = absurd (not_equal (attempt_of e) 7 some_ whole)
      known some_ (inr a) = a

      keeps : ends_call (parts w) e ≡ false → MayAdvance u w e → u.keeps ≡ true
      keeps on (inl k) = k
      keeps on (inr ends) = absurd (true_false (ends_call (parts w) e) ends on)

  decided_goes : (u : Owing) (id : ℕ) (next : Program) → ((v : Owing) → Further (freed u) v → OwesOn life v next) → (exit : Deciding) (v : Owing) → Further (freed u) v → OwesOn life v (decided id next exit)
  decided_goes u id next goes (HasEnded o c) v f = goes v f
  decided_goes u id next goes GoesOn v f = goes v f

  pub decided_on : (u : Owing) (id w e : ℕ) (next : Program) → MayDecide id w e u.duty → IsDue u id w e → MayAdvance u w e → ((v : Owing) → Further (freed u) v → OwesOn life v next) → OwesOn life u (decide id w e (decided id next))
  decided_on u id w e next may due advance goes = decide_goes u id w e (decided id next) may due advance (decided_goes u id next goes)

  -- what follows a post
  pub posted_goes : (u : Owing) (id e : ℕ) (next : Program) → u.keeps ≡ true → KnowsError u id e → ((v : Owing) → Further (freed u) v → OwesOn life v next) → (exit : Posting) (v : Owing) → LeavesPosts life id e exit u v → OwesOn life v (posted id e next exit)
  posted_goes u id e next keeps knows goes (HasLocked w) v l = subst (λ x. OwesOn life x (decide id w e (decided id next))) (sym l.0) (decided_on (freed u) id w e next tt (knows, l.2, l.1) (inl keeps) goes)
  posted_goes u id e next keeps knows goes _ v l = subst (λ x. OwesOn life x next) (sym l) (goes (freed u) (same_further (freed u)))

  pub post_goes : (u : Owing) (id c n : ℕ) (next : Program) → n < 8 → u.keeps ≡ true → PostsOwn id (error_of c n) u.duty → Among id n u.knows → ((v : Owing) → Further (freed u) v → OwesOn life v next) → OwesOn life u (post id c n next)
  post_goes u id c n next few keeps own knows goes = let e : ℕ = error_of c n in let is : n ≡ attempt_of (error_of c n) = omega (arith, few) in let k : KnowsError u id (error_of c n) = inr (subst (λ m. Among id m u.knows) is knows) in
      post_with_goes u id (error_of c n) (posted id (error_of c n) next) own k (posted_goes u id (error_of c n) next keeps k goes)

  -- ## Giving a lock back

  turn_duty : (u : Owing) (i from : ℕ) (advance : Bool) → AtOwe life u (Unlocks i from advance)
      → Further (with_duty (Trying (call_id i (parts from).first) ((parts from).attempt + bit advance)) u) (cond advance (with_duty (Trying (call_id i (parts from).first) ((parts from).attempt + 1)) u) u)
  turn_duty u i from true at = same_further (with_duty (Trying (call_id i (parts from).first) ((parts from).attempt + 1)) u)
  turn_duty u i from false at = let same : (parts from).attempt + 0 ≡ (parts from).attempt = omega arith in
      subst (λ (m : ℕ). Further (with_duty (Trying (call_id i (parts from).first) m) u) u) (sym same) (subst (λ (x : Owing). Further x u) (sym (had_duty u (Trying (call_id i (parts from).first) (parts from).attempt) at)) (same_further u))

  may_unlock : (u : Owing) (i from : ℕ) (advance : Bool) → AtOwe life u (Unlocks i from advance) → owing.MayUnlock i from advance u
  may_unlock u i from true at = at
  may_unlock u i from false at = at

  -- another word of the lock that was found
  at_found : (u : Owing) (i from found : ℕ) (advance : Bool) → (parts found).first ≡ (parts from).first → (parts found).attempt ≡ (parts from).attempt → AtOwe life u (Unlocks i from advance) → AtOwe life u (Unlocks i found advance)
  at_found u i from found true f a at = (at.0, subst (λ x. Among (call_id i x) (parts found).attempt u.knows) (sym f) (subst (λ x. Among (call_id i (parts from).first) x u.knows) (sym a) at.1))
  at_found u i from found false f a at = at ∙ ap (λ x. Trying (call_id i x) (parts from).attempt) (sym f) ∙ ap (λ x. Trying (call_id i (parts found).first) x) (sym a)

  further_unlocks : (id n : ℕ) (u v : Owing) → Further (with_duty (Trying id n) u) v → (exit : Unlocking) (w : Owing) → LeavesUnlocks life id n exit v w → LeavesUnlocks life id n exit u w
  further_unlocks id n u v f (IsOpen x) w l = (then_further (with_duty (Trying id n) u) v w f (subst (λ (y : Owing). Further y w) (had_duty v (Trying id n) f.duty) l.0), l.1)
  further_unlocks id n u v f (HasNext x e) w l = (then_further (with_duty (Trying id n) u) v w f (subst (λ (y : Owing). Further y w) (had_duty v (Trying id n) f.duty) l.0), l.1, l.2, l.3)

  slot_first : (i f : ℕ) → f < 4294967296 → id_first (call_id i f) ≡ f
  slot_first i f low = omega (arith, low)

  pub unlocks_goes : (u : Owing) (i from : ℕ) (advance : Bool) (k : Unlocking → Program) → AtOwe life u (Unlocks i from advance)
      → ((exit : Unlocking) (v : Owing) → LeavesUnlocks life (call_id i (parts from).first) ((parts from).attempt + bit advance) exit u v → OwesOn life v (k exit)) → OwesOn life u (round (Unlocks i from advance) k)
  unlocks_goes u i from advance k at goes = (
    may_unlock u i from advance at,
    λ found f. pick (λ (v : Owing). v ≡ cond (eqb found from) (unlocked_by i from advance u) u) (eqb found from) (popped i (parts from).oldest after k) (Round (Unlocks i found advance) k)
        (λ hit. (unlocked_by i from advance u, sym (ap (λ b. cond b (unlocked_by i from advance u) u) hit), pops f (eqb-true found from hit) (eqb (parts from).oldest 0) refl))
        (λ miss. let same = f.2 (not_equal found from miss) in (
          u,
          sym (ap (λ b. cond b (unlocked_by i from advance u) u) miss),
          (
            at_found u i from found advance same.0 same.1 at,
            λ exit v l. goes exit v (subst (λ x. LeavesUnlocks life (call_id i x) ((parts from).attempt + bit advance) exit u v) same.0 (subst (λ x. LeavesUnlocks life (call_id i (parts found).first) (x + bit advance) exit u v) same.1 l)),
          ),
        )),
  )
    where
      after : ℕ
      after = packed (unlocked_word (parts from) (bit advance))

      id : ℕ
      id = call_id i (parts from).first

      n : ℕ
      n = (parts from).attempt + bit advance

      turned : Owing
      turned = cond advance (with_duty (Trying (call_id i (parts from).first) ((parts from).attempt + 1)) u) u

      further : Further (with_duty (Trying (call_id i (parts from).first) ((parts from).attempt + bit advance)) u) (unlocked_by i from advance u)
      further = then_further (with_duty (Trying (call_id i (parts from).first) ((parts from).attempt + bit advance)) u) (cond advance (with_duty (Trying (call_id i (parts from).first) ((parts from).attempt + 1)) u) u) (unlocked_by i from advance u)
          (turn_duty u i from advance at) (error_further (call_id i (parts from).first) (parts from).oldest (cond advance (with_duty (Trying (call_id i (parts from).first) ((parts from).attempt + 1)) u) u))

      state_fits : (b : Bool) → cond b 1 2 < 4
      state_fits true = omega arith
      state_fits false = omega arith

      word_after : (parts from).attempt + bit advance ≤ 6 → parts (packed (unlocked_word (parts from) (bit advance))) ≡ unlocked_word (parts from) (bit advance)
      word_after low = parts_packed (unlocked_word (parts from) (bit advance)) (state_fits (eqb (parts from).oldest 0)) (omega arith) (omega arith) (omega (arith, low)) (omega arith) (omega arith)

      again : (parts (packed (unlocked_word (parts from) (bit advance)))) ≡ unlocked_word (parts from) (bit advance) → OwesOn life (unlocked_by i from advance u) (Round (Unlocks i (packed (unlocked_word (parts from) (bit advance))) false) k)
      again is = let f : (parts (packed (unlocked_word (parts from) (bit advance)))).first ≡ (parts from).first = ap (λ (w : Parts). w.first) is in
          let a : (parts (packed (unlocked_word (parts from) (bit advance)))).attempt ≡ (parts from).attempt + bit advance = ap (λ (w : Parts). w.attempt) is in (
            further.duty ∙ ap (λ x. Trying (call_id i x) ((parts from).attempt + bit advance)) (sym f) ∙ ap (λ x. Trying (call_id i (parts (packed (unlocked_word (parts from) (bit advance)))).first) x) (sym a),
            λ exit v l. goes exit v (further_unlocks (call_id i (parts from).first) ((parts from).attempt + bit advance) u (unlocked_by i from advance u) further exit v
                (subst (λ x. LeavesUnlocks life (call_id i (parts from).first) x exit (unlocked_by i from advance u) v) (plus_none ((parts from).attempt + bit advance))
                (subst (λ x. LeavesUnlocks life (call_id i x) ((parts from).attempt + bit advance + 0) exit (unlocked_by i from advance u) v) f
                (subst (λ x. LeavesUnlocks life (call_id i (parts (packed (unlocked_word (parts from) (bit advance)))).first) (x + 0) exit (unlocked_by i from advance u) v) a l)))),
          )
        where
          plus_none : (m : ℕ) → m + 0 ≡ m
          plus_none m = omega arith

      next : FindsUnlock from advance from → (parts from).oldest ≢ 0 → is_stale (parts from).oldest (parts (packed (unlocked_word (parts from) (bit advance)))) ≡ false → attempt_of (parts from).oldest ≡ 7
      next f some_ fresh = by_whole (eqb (attempt_of (parts from).oldest) 7) refl
        where
          by_whole : (b : Bool) → eqb (attempt_of (parts from).oldest) 7 ≡ b → attempt_of (parts from).oldest ≡ 7
          by_whole true is = eqb-true (attempt_of (parts from).oldest) 7 is
          by_whole false is = absurd (f.3 refl some_ (eqb-true (attempt_of (parts from).oldest) (parts (packed (unlocked_word (parts from) (bit advance)))).attempt
              (current_of (eqb (attempt_of (parts from).oldest) 7) (eqb (attempt_of (parts from).oldest) (parts (packed (unlocked_word (parts from) (bit advance)))).attempt) fresh is) ∙ ap (λ (w : Parts). w.attempt) (word_after f.1)))

      pops : {found : ℕ} → FindsUnlock from advance found → found ≡ from → (b : Bool) → eqb (parts from).oldest 0 ≡ b → OwesOn life (unlocked_by i from advance u) (cond b (k (IsOpen after))
          (cond (is_stale (parts from).oldest (parts after)) (Round (Unlocks i after false) k) (k (HasNext after (parts from).oldest))))
      pops f same true is = goes (IsOpen after) (unlocked_by i from advance u) (further, f.1)
      pops f same false is = way (unlocked_by i from advance u) (is_stale (parts from).oldest (parts after)) (Round (Unlocks i after false) k) (k (HasNext after (parts from).oldest))
          (λ _. again (word_after f.1))
          (λ fresh. goes (HasNext after (parts from).oldest) (unlocked_by i from advance u) (
            further,
            next (subst (FindsUnlock from advance) same f) (not_equal (parts from).oldest 0 is) fresh,
            ap (λ (w : Parts). w.first) (word_after f.1) ∙ sym (slot_first i (parts from).first f.0),
            f.1,
          ))
