-- The loops on ids say of calls only what has its cause.
use Rattle.std.proofs.Common.{◌≡◌, ◌≢◌, ℕ, ◌+◌, ◌*◌, ◌≤◌, ◌⊎◌, inl, inr, ⊎_elim, ◌&&◌, ◌||◌, not, Bool, true, false, cond, eqb, eqb-true, nat_lt, ltb-true, List, [], ◌∷◌, Option, Some, None, refl, sym, ap, ◌∙◌, subst, arith}
use Rattle.sock_words.specs.declared.plain.Plan.{Plan}
use Rattle.sock_words.specs.ErrorCodes.{is_final}
use Rattle.corr_core.specs.IdSlotWord.{Parts, parts, locked_word, posted_word, unlocked_word, error_of, code_of, attempt_of}
use Rattle.corr_core.specs.IdSlotLaw.{LAST}
use Rattle.corr_core.specs.declared.marks.Plan.{Plan as IdPlan}
use Rattle.corr_core.specs.EndedByRangeOrAttempt.{ends_call}
use Rattle.sock_message.specs.Asked.{Asked}
use Rattle.seat_programs.specs.declared.task.Task.{Task}
use Rattle.seat_programs.specs.Asides.{PutCall, LockId, PostId, UnlockId, FreeId}
use Rattle.seat_programs.specs.TableSteps.{TableStep}
use Rattle.seat_programs.specs.LoopHeads.{Retry, Sought, First, Version, Posts, Unlocks, Decides, Locks, Joins, Posting, WasGone, WasStale, WasCrowded, WasQueued, HasLocked, Unlocking, IsOpen, HasNext, Deciding, HasEnded, GoesOn, Locking, NotThere, Has}
use Rattle.seat_programs.specs.Programs.{Program, Do, Aside, Round}
use Rattle.seat_programs.specs.PostPrograms.{packed, is_first, is_sought, is_stale, is_full, judged, posts_round, post_with, posted, post, popped, unlocks_round, end_id, decide, unlocked, decides_round, decided, locking, locks_round, joins_round, IsSoughtWord}
use Rattle.owed_calls.specs.Below.id_runs.proofs.AsidesKeepingIdRule.{parts_packed}
use Rattle.owed_calls.specs.Below.id_runs.proofs.IdLoopRounds.{not_equal}
use Rattle.call_stories.specs.Scenes.{Birth, Scene, IsBorn, WasPosted, WasDecided, IsOther, EndedAt, MayAdvance, CauseOf, of_expiry, of_other, FailedIn, by_expiry, by_other, Later}
use Rattle.call_stories.specs.Says.{Shape, shape_of, HasShape, with_attempt, unlocked_by, Slot, NoSlot, Locked, Holds, Leaves, Mark, with_slot, with_owed, IsVacant, IsFree, put_in, taken_out, SaidBy, HasCodes, MayDo, MayUnlock, Moves, Shows, AtHead, Again, MatchesRange, LeavesPost, LeavesUnlock, IsLast, EndsBy, LeavesDecision, LeavesLock, YieldsPost, SaysOn}
use Rattle.call_stories.proofs.LastingCallStories.{far, cause_on, unlock_on}
use Rattle.sock_words.specs.PackedWords.{call_id, id_slot, id_first, bit}

-- ## Tests

pub not_true : (b : Bool) → not b ≡ false → b ≡ true
not_true true e = refl
not_true false e = absurd (let z : true ≡ false = e in cc)

pub and_left : (a b : Bool) → (a && b) ≡ true → a ≡ true
and_left true b e = refl
and_left false b e = absurd (let z : false ≡ true = e in cc)

pub and_right : (a b : Bool) → (a && b) ≡ true → b ≡ true
and_right true b e = e
and_right false b e = absurd (let z : false ≡ true = e in cc)

not_zero : (n : ℕ) → not (eqb n 0) ≡ true → n ≢ 0
not_zero n e same = let z : true ≡ false = sym e ∙ ap (λ k. not (eqb k 0)) same in cc

pub or_left : (a b : Bool) → (a || b) ≡ false → a ≡ false
or_left true b e = e
or_left false b e = refl

or_right : (a b : Bool) → (a || b) ≡ false → b ≡ false
or_right true b e = absurd (let z : true ≡ false = e in cc)
or_right false b e = e

-- an error that isn't stale is for the whole call, or for the current attempt
fresh_error : (e : ℕ) (x : Parts) → is_stale e x ≡ false → (attempt_of e ≡ 7) ⊎ (attempt_of e ≡ x.attempt)
fresh_error e x fresh = by_whole (eqb (attempt_of e) 7) (eqb (attempt_of e) x.attempt) refl refl fresh
  where
    by_whole : (a b : Bool) → eqb (attempt_of e) 7 ≡ a → eqb (attempt_of e) x.attempt ≡ b → (not a && not b) ≡ false → (attempt_of e ≡ 7) ⊎ (attempt_of e ≡ x.attempt)
    by_whole true b is own fresh = inl (eqb-true (attempt_of e) 7 is)
    by_whole false true is own fresh = inr (eqb-true (attempt_of e) x.attempt own)
    by_whole false false is own fresh = absurd (let z : true ≡ false = fresh in cc)

-- an error has its code and its attempt
pub error_is : (e : ℕ) → e ≡ error_of (code_of e) (attempt_of e)
error_is e = omega arith

pub or_cases : (a b : Bool) → (a || b) ≡ true → (a ≡ true) ⊎ (b ≡ true)
or_cases true b e = inl refl
or_cases false b e = inr e

pub id_back : (id : ℕ) → call_id (id_slot id) (id_first id) ≡ id
id_back id = omega arith

-- a program that may stand here with a mark, a scene that may follow one, and a program that may come next, with the same mark or with another
pub record Speech : Type 1 where
  pub Tells : Scene → Mark → Program → Type 0
  pub Later' : Scene → Scene → Type 0
  pub Next : Scene → Mark → Program → Type 0
  pub Ends : Scene → Mark → Program → Type 0

module _ (p : Plan) (q : IdPlan) (clients : List (List Task)) (gives : ℕ → List ℕ) where
  abbrev pub Says : Scene → Mark → Program → Type 0
  Says w m x = SaysOn p q clients gives w m x

  abbrev pub After : Scene → Scene → Type 0
  After w w' = Later p q clients gives w w'

  -- the program may come next, with the same mark, or with another slot that is vacant
  abbrev pub Then : Scene → Mark → Program → Type 0
  Then w m x = (w' : Scene) → After w w' → SaidBy w' x → Says w' m x

  abbrev pub Follows : Scene → Mark → Program → Type 0
  Follows w m x = (w' : Scene) (m' : Mark) → After w w' → SaidBy w' x → Again p q clients gives m m' → Says w' m' x

  abbrev pub speech : Speech
  speech = record { Tells = Says; Later' = After; Next = Then; Ends = Follows }

  pub way : (w : Scene) (m : Mark) (b : Bool) (x y : Program) → SaidBy w (cond b x y) → (b ≡ true → SaidBy w x → Says w m x) → (b ≡ false → SaidBy w y → Says w m y) → Says w m (cond b x y)
  way w m true x y s f g = f refl s
  way w m false x y s f g = g refl s

  pub plain_way : (w : Scene) (m : Mark) (b : Bool) (x y : Program) → (b ≡ true → Says w m x) → (b ≡ false → Says w m y) → Says w m (cond b x y)
  plain_way w m true x y f g = f refl
  plain_way w m false x y f g = g refl

  pub again_same : (m m' : Mark) → IsFree m → m' ≡ m → Again p q clients gives m m'
  again_same m m' free is = record { slot = m.slot; vacant = free.0; is = is }

  -- what follows may follow from another vacant slot, and later
  pub then_on : (w v : Scene) (m : Mark) (x : Program) → After w v → Then w m x → Then v m x
  then_on w v m x l goes = λ w' l' s. goes w' (far p q clients gives w v w' l l') s

  -- a step of whose word nothing is used
  pub then_does : (w : Scene) (m : Mark) (call : TableStep) (next : ℕ → Program) → MayDo p q clients gives call → ((found : ℕ) → Then w m (next found)) → Then w m (Do call next)
  then_does w m call next may goes = λ v l _. (may, λ found v2 l2 s2 _. goes found v2 (far p q clients gives w v v2 l l2) s2)

  pub then_way : (w : Scene) (m : Mark) (b : Bool) (x y : Program) → (b ≡ true → Then w m x) → (b ≡ false → Then w m y) → Then w m (cond b x y)
  then_way w m b x y f g = λ v l s. way v m b x y s (λ e. f e v l) (λ e. g e v l)

  pub follows_on : (w v : Scene) (m : Mark) (s : Slot) (x : Program) → After w v → Follows w m x → Follows v (with_slot s m) x
  follows_on w v m s x l goes = λ w' m' l' said a. goes w' m' (far p q clients gives w v w' l l') said (record { slot = a.slot; vacant = a.vacant; is = a.is })

  pub follows_later : (w v : Scene) (m : Mark) (x : Program) → After w v → Follows w m x → Follows v m x
  follows_later w v m x l goes = λ w' m' l' said a. goes w' m' (far p q clients gives w v w' l l') said a

  pub then_follows : (w : Scene) (m : Mark) (x : Program) → IsFree m → Follows w m x → Then w m x
  then_follows w m x free goes = λ w' l s. goes w' m l s (again_same m m free refl)

  -- ## Posting

  abbrev pub Exits : Scene → Mark → ℕ → ℕ → (Posting → Program) → Type 0
  Exits w m id e k = (exit : Posting) (w' : Scene) (m' : Mark) → After w w' → SaidBy w' (k exit) → LeavesPost p q clients gives w' m id e exit m' → YieldsPost p q clients gives w' id e exit × Says w' m' (k exit)

  judged_then : (w : Scene) (m : Mark) (id e found : ℕ) (k : Posting → Program) → IsFree m → HasCodes p q clients gives found → Exits w m id e k → Then w m (judged id e found k)
  judged_then w m id e found k free codes goes = λ v l s.
      let two : Program = cond (is_full (parts found)) (k (WasCrowded (code_of (parts found).oldest) (code_of (parts found).second))) (Round (Posts id e found) k) in
      let one_ : Program = cond (is_stale e (parts found)) (k WasStale) two in
      way v m (not (is_first (id_first id) (parts found))) (k WasGone) one_ s (λ _ s1. (goes WasGone v m l s1 (again_same m m free refl)).1)
      (λ here s1. way v m (is_stale e (parts found)) (k WasStale) two s1 (λ _ s2. (goes WasStale v m l s2 (again_same m m free refl)).1)
      (λ fresh s2. way v m (is_full (parts found)) (k (WasCrowded (code_of (parts found).oldest) (code_of (parts found).second))) (Round (Posts id e found) k) s2
      (λ full s3. let c = codes (eqb-true (parts found).state 2 (and_left (eqb (parts found).state 2) (not (eqb (parts found).second 0)) full)) (not_zero (parts found).second (and_right (eqb (parts found).state 2) (not (eqb (parts found).second 0)) full)) in
      (goes (WasCrowded (code_of (parts found).oldest) (code_of (parts found).second)) v m l s3 (again_same m m free refl, c.0, c.1)).1)
      (λ _ _. ((free, not_true (is_first (id_first id) (parts found)) here, fresh), λ exit v' m' l' s' lv. goes exit v' m' (far p q clients gives w v v' l l') s' lv))))

  pub post_with_says : (w : Scene) (m : Mark) (id e : ℕ) (k : Posting → Program) → IsFree m → Exits w m id e k → Says w m (post_with id e k)
  post_with_says w m id e k free goes = (tt, λ found v m' l s mv. (tt, subst (λ x. Says v x (judged id e found k)) (sym mv.0) (judged_then w m id e found k free mv.1 goes v l s)))

  -- the first version of a word, and how many it has, are the same where an open id was locked
  pub locked_parts : (from e : ℕ) → (parts from).state ≡ 1 → parts (packed (posted_word (parts from) e)) ≡ locked_word (parts from)
  locked_parts from e one = ap (λ x. parts (packed x)) (posted_is (eqb (parts from).state 1) (Rattle.std.proofs.Common.eq-eqb (parts from).state 1 one)) ∙ parts_packed (locked_word (parts from)) (omega arith) (omega arith) (omega arith) (omega arith) (omega arith) (omega arith)
    where
      posted_is : (b : Bool) → b ≡ true → cond b (locked_word (parts from)) record { first = (parts from).first; state = 2; range = (parts from).range; attempt = (parts from).attempt; oldest = cond (eqb (parts from).oldest 0) e (parts from).oldest; second = cond (eqb (parts from).oldest 0) 0 e } ≡ locked_word (parts from)
      posted_is true is = refl
      posted_is false is = absurd (let z : false ≡ true = is in cc)

  pub posts_says : (w : Scene) (m : Mark) (id e from : ℕ) (k : Posting → Program) → IsFree m → is_first (id_first id) (parts from) ≡ true → is_stale e (parts from) ≡ false → Exits w m id e k → Says w m (posts_round id e from k)
  posts_says w m id e from k free first fresh goes = (free, λ found v m' l s mv. by_found found v m' l mv (eqb found from) refl s)
    where
      first_is : (parts from).first ≡ id_first id
      first_is = eqb-true (parts from).first (id_first id) (and_left (eqb (parts from).first (id_first id)) (not (eqb (parts from).state 0)) first)

      posted_to : (v : Scene) → WasPosted v (call_id (id_slot id) (parts from).first) e → WasPosted v id e
      posted_to v there = subst (λ i. WasPosted v i e) (ap (call_id (id_slot id)) first_is ∙ id_back id) there

      by_state : (found : ℕ) (v : Scene) (m' : Mark) → After w v → Moves p q clients gives v m (PostId (id_slot id) from e) found m' → found ≡ from → (b : Bool) → eqb (parts from).state 1 ≡ b
          → SaidBy v (cond b (k (HasLocked (packed (posted_word (parts from) e)))) (k WasQueued)) → Shows p q clients gives v (PostId (id_slot id) from e) found × Says v m' (cond b (k (HasLocked (packed (posted_word (parts from) e)))) (k WasQueued))
      by_state found v m' l mv same true is s = let one = eqb-true (parts from).state 1 is in (
        (λ _ not_one. absurd (not_one one)),
        (goes (HasLocked (packed (posted_word (parts from) e))) v m' l s (shape_of (parts from), mv.0 same one ∙ ap (λ f. with_slot (Locked (id_slot id) f (shape_of (parts from))) m) first_is, (ap (λ (x : Parts). x.range) (locked_parts from e one), ap (λ (x : Parts). x.attempt) (locked_parts from e one)), ap (is_stale e) (locked_parts from e one) ∙ fresh, posted_to v (mv.3 same))).1,
      )
      by_state found v m' l mv same false is s = let y = goes WasQueued v m' l s (again_same m m' free (mv.1 same (not_equal (parts from).state 1 is)), posted_to v (mv.3 same)) in (
        (λ _ _. subst (λ i. CauseOf p q clients gives v i e) (sym (ap (call_id (id_slot id)) first_is ∙ id_back id)) y.0),
        y.1,
      )

      by_found : (found : ℕ) (v : Scene) (m' : Mark) → After w v → Moves p q clients gives v m (PostId (id_slot id) from e) found m' → (b : Bool) → eqb found from ≡ b
          → SaidBy v (cond b (cond (eqb (parts from).state 1) (k (HasLocked (packed (posted_word (parts from) e)))) (k WasQueued)) (judged id e found k))
          → Shows p q clients gives v (PostId (id_slot id) from e) found × Says v m' (cond b (cond (eqb (parts from).state 1) (k (HasLocked (packed (posted_word (parts from) e)))) (k WasQueued)) (judged id e found k))
      by_found found v m' l mv true is s = by_state found v m' l mv (eqb-true found from is) (eqb (parts from).state 1) refl s
      by_found found v m' l mv false is s = let other = not_equal found from is in let y = mv.2 other in (
        (λ same _. absurd (other same)),
        subst (λ x. Says v x (judged id e found k)) (sym y.0) (judged_then w m id e found k free y.1 goes v l s),
      )

  -- ## Deciding

  abbrev pub Decided : Scene → Mark → ℕ → ℕ → (Deciding → Program) → Type 0
  Decided w m id e k = (exit : Deciding) (w' : Scene) (m' : Mark) → After w w' → SaidBy w' (k exit) → LeavesDecision p q clients gives w' m id e exit m' → Says w' m' (k exit)

  -- the range in hand ends
  pub end_says : (w : Scene) (m : Mark) (i f : ℕ) (shape : Shape) (asked : Asked) (next : Program) → m.slot ≡ Holds i f shape asked → IsBorn w (call_id i f) asked → m.owes ≡ []
      → ((v : Scene) (m' : Mark) (s : Slot) → IsVacant s → After w v → SaidBy v next → m' ≡ with_owed (record { id = call_id i f; asked = asked } ∷ []) (with_slot s m) → EndedAt p q clients gives v (record { id = call_id i f; asked = asked }) shape.attempt → Says v m' next) → Says w m (end_id i next)
  end_says w m i f shape asked next slot born owes goes = (
    (f, shape, asked, slot, born, owes),
    λ found v m' l s mv. let both = mv f shape asked slot in let is = both.0 in (
      tt,
      way v m' (Rattle.std.proofs.Common.leb ((parts found).first + (parts found).range) LAST) (Aside (FreeId i) (λ _. next)) next s
          (λ _ _. (ap (λ (x : Mark). x.slot) is, λ _ v' m'' l' s' mv'. (tt, goes v' m'' NoSlot tt (far p q clients gives w v v' l l') s' (mv' ∙ ap (with_slot NoSlot) is) (l'.ended (record { id = call_id i f; asked = asked }) shape.attempt both.1))))
          (λ _ s'. goes v m' (Leaves i) tt l s' is both.1),
    ),
  )

  regain : (w : Scene) (m : Mark) (s : Slot) (id e : ℕ) (exit : Deciding) (m' : Mark) → LeavesDecision p q clients gives w (with_slot s m) id e exit m' → LeavesDecision p q clients gives w m id e exit m'
  regain w m s id e (HasEnded o c) m' lv = lv
  regain w m s id e GoesOn m' lv = (record { slot = lv.0.slot; vacant = lv.0.vacant; is = lv.0.is }, lv.1)

  -- the error that was decided on was queued
  queued : (w : Scene) (m : Mark) (id e x : ℕ) → attempt_of e ≢ 7 → CauseOf p q clients gives w id x → (exit : Deciding) (m' : Mark) → LeavesDecision p q clients gives w m id x exit m' → LeavesDecision p q clients gives w m id e exit m'
  queued w m id e x part cause (HasEnded o c) m' lv = (lv.0, lv.1, lv.2, lv.3, lv.4, lv.5, lv.6, ⊎_elim (λ same. inr (part, x, same.0, cause, same.1)) (λ y. inr (part, y.1, y.2, y.3, y.4)) lv.7)
  queued w m id e x part cause GoesOn m' lv = (lv.0, part)

  -- the call of a lock is taken out of its home, and decided on
  pub decide_says : (w : Scene) (m : Mark) (id word e : ℕ) (k : Deciding → Program) (shape : Shape) → m.slot ≡ Locked (id_slot id) (id_first id) shape → HasShape word shape → m.owes ≡ [] → m.makes ≡ [] → is_stale e (parts word) ≡ false → (attempt_of e ≢ 7 → WasPosted w id e) → Decided w m id e k → Says w m (decide id word e k)
  decide_says w m id word e k shape slot has owes makes fresh there goes = (
    (id_first id, shape, slot),
    λ asked v m' l s mv. (
      tt,
      subst (λ x. Says v x (Round (Decides id asked word e) k)) (sym mv.0) (
        ((shape, ap (taken_out asked) slot, has, (mv.1 (id_first id) shape slot).1), subst (λ i. IsBorn v i asked) (id_back id) (mv.1 (id_first id) shape slot).0, owes, makes, fresh, λ part. l.posted (record { id = id; error = e }) (there part)),
        λ exit v' m'' l' s' lv. (tt, goes exit v' m'' (far p q clients gives w v v' l l') s' (regain v' m (taken_out asked m.slot) id e exit m'' lv)),
      ),
    ),
  )

  -- an error of one attempt was posted
  pub was_posted : (w : Scene) (id e : ℕ) → CauseOf p q clients gives w id e → attempt_of e ≢ 7 → WasPosted w id e
  was_posted w id e (of_expiry asked whole there expired) part = absurd (part (ap attempt_of whole ∙ omega arith))
  was_posted w id e (of_other other light there) part = there

  -- it is noted that the seat decides on the error
  pub decides_says : (w : Scene) (m : Mark) (id : ℕ) (asked : Asked) (word e : ℕ) (k : Deciding → Program) → WasDecided w (record { id = id; asked = asked }) e → AtHead p q clients gives w m (Decides id asked word e) → Decided w m id e k → Says w m (decides_round id asked word e k)
  decides_says w m id asked word e k on at goes =
      let r : Retry = record { id = id; attempt = (parts word).attempt + 1 } in
      let born = subst (λ i. IsBorn w i asked) (sym (id_back id)) at.1 in
      plain_way w m (ends_call (parts word) e) (end_id (id_slot id) (k (HasEnded asked.operation (code_of e)))) (Aside (PutCall (id_slot id) asked) (λ _. Round (Unlocks (id_slot id) word true) (unlocked r k)))
      (λ ends. end_says w m (id_slot id) (id_first id) at.0.0 asked (k (HasEnded asked.operation (code_of e))) at.0.1 born at.2
      (λ v m' s vacant l said is used. goes (HasEnded asked.operation (code_of e)) v m' l said (record { id = call_id (id_slot id) (id_first id); asked = asked }, s, vacant, is, id_back id, l.born (call_id (id_slot id) (id_first id)) asked born, refl, inl (refl, last v l ends used))))
      (λ more. (
        inr (id_first id, at.0.0, at.0.1, born),
        λ found v m' l s mv. (
          tt,
          subst (λ x. Says v x (Round (Unlocks (id_slot id) word true) (unlocked r k))) (sym mv) (
            ((id_first id, at.0.0, ap (put_in asked) at.0.1, λ _. advances more v l), at.2, at.3),
            λ exit v' m'' l' s' lv. (tt, unlocked_says (not_whole more) v l exit v' m'' l' s' lv),
          ),
        ),
      ))
    where
      -- it is of the attempt to which the call has come
      own : attempt_of e ≢ 7 → attempt_of e ≡ at.0.0.attempt
      own part = ⊎_elim (λ whole. absurd (part whole)) (λ same. same ∙ at.0.2.1) (fresh_error e (parts word) at.4)

      not_whole : ends_call (parts word) e ≡ false → attempt_of e ≢ 7
      not_whole more = not_equal (attempt_of e) 7 (or_left (eqb (attempt_of e) 7) (is_final (code_of e) || eqb ((parts word).attempt + 2) (parts word).range) more)

      advances : ends_call (parts word) e ≡ false → (v : Scene) → After w v → MayAdvance p q clients gives v (call_id (id_slot id) (id_first id)) at.0.0.attempt
      advances more v l = (
        code_of e,
        subst (λ i. WasPosted v i (error_of (code_of e) at.0.0.attempt)) (sym (id_back id)) (subst (WasPosted v id) (error_is e ∙ ap (error_of (code_of e)) (own (not_whole more))) (l.posted (record { id = id; error = e }) (at.5 (not_whole more)))),
        or_left (is_final (code_of e)) (eqb ((parts word).attempt + 2) (parts word).range) (or_right (eqb (attempt_of e) 7) (is_final (code_of e) || eqb ((parts word).attempt + 2) (parts word).range) more),
      )

      last : (v : Scene) → After w v → ends_call (parts word) e ≡ true → EndedAt p q clients gives v (record { id = call_id (id_slot id) (id_first id); asked = asked }) at.0.0.attempt → IsLast p q clients gives v (record { id = call_id (id_slot id) (id_first id); asked = asked }) e
      last v l ends used = ⊎_elim (λ whole. inl whole) (λ same. ⊎_elim (λ whole. inl (eqb-true (attempt_of e) 7 whole))
          (λ rest. inr (
            subst (EndedAt p q clients gives v (record { id = call_id (id_slot id) (id_first id); asked = asked })) (sym (same ∙ at.0.2.1)) used,
            ⊎_elim (λ y. inl y) (λ y. inr (ap (λ n. n + 2) same ∙ (eqb-true ((parts word).attempt + 2) (parts word).range y ∙ (at.0.2.0 ∙ sym at.0.3)))) (or_cases (is_final (code_of e)) (eqb ((parts word).attempt + 2) (parts word).range) rest),
            subst (λ i. WasDecided v (record { id = i; asked = asked }) e) (sym (id_back id)) (l.decided (record { id = id; asked = asked; error = e }) on),
          ))
          (or_cases (eqb (attempt_of e) 7) (is_final (code_of e) || eqb ((parts word).attempt + 2) (parts word).range) ends)) (fresh_error e (parts word) at.4)

      unlocked_says : attempt_of e ≢ 7 → (v : Scene) → After w v → (exit : Unlocking) (v' : Scene) (m'' : Mark) → After v v' → SaidBy v' (unlocked (record { id = id; attempt = (parts word).attempt + 1 }) k exit) → LeavesUnlock p q clients gives v' (with_slot (put_in asked m.slot) m) (id_slot id) exit m''
          → Says v' m'' (unlocked (record { id = id; attempt = (parts word).attempt + 1 }) k exit)
      unlocked_says part v l (IsOpen x) v' m'' l' s' lv = goes GoesOn v' m'' (far p q clients gives w v v' l l') s' (record { slot = NoSlot; vacant = tt; is = lv }, part)
      unlocked_says part v l (HasNext x e') v' m'' l' s' lv =
          let slot = ap (put_in asked) at.0.1 in
          let found = lv.1 (id_first id) at.0.0 slot in
          let cause = subst (λ i. CauseOf p q clients gives v' i e') (id_back id) found.0 in
          subst (λ y. Says v' y (decide id x e' k)) (sym lv.0) (decide_says v' (with_slot (with_attempt (parts x).attempt (put_in asked m.slot)) m) id x e' k (record { range = at.0.0.range; attempt = (parts x).attempt }) (ap (with_attempt (parts x).attempt) slot) (found.1, refl) at.2 at.3 lv.2 (was_posted v' id e' cause)
          (λ exit u m3 l3 s3 lv3. goes exit u m3 (far p q clients gives w v u l (far p q clients gives v v' u l' l3)) s3 (queued u m id e e' part (cause_on p q clients gives v' u l3 id e' cause) exit m3 (regain u m (with_attempt (parts x).attempt (put_in asked m.slot)) id e' exit m3 lv3))))

  -- an error that isn't for the whole call ends it where it is of the last attempt, and final or no attempt is left
  pub last_of : (w : Scene) (b : Birth) (x : ℕ) → attempt_of x ≢ 7 → IsLast p q clients gives w b x → EndedAt p q clients gives w b (attempt_of x) × ((is_final (code_of x) ≡ true) ⊎ (attempt_of x + 2 ≡ b.asked.range)) × WasDecided w b x
  last_of w b x light (inl whole) = absurd (light whole)
  last_of w b x light (inr y) = y

  -- why the call with the id failed, by an error that has its cause, and by the error that ended it
  pub failed_of : (w : Scene) (b : Birth) (id x : ℕ) → ((a c : Asked) → IsBorn w id a → IsBorn w id c → a ≡ c) → b.id ≡ id → IsBorn w b.id b.asked → CauseOf p q clients gives w id x → IsLast p q clients gives w b x → FailedIn p q clients gives w b.id b.asked (code_of x)
  failed_of w b id x apart is born (of_expiry asked whole there expired) last = by_expiry (ap code_of whole ∙ omega arith) (subst (λ a. Rattle.call_stories.specs.Scenes.IsExpired p q clients gives w a) (apart asked b.asked there (subst (λ i. IsBorn w i b.asked) is born)) expired)
  failed_of w b id x apart is born (of_other other light there) last = let y = last_of w b x light last in by_other (attempt_of x) other (subst (λ i. WasPosted w i (error_of (code_of x) (attempt_of x))) (sym is) (subst (WasPosted w id) (error_is x) there)) y.0 y.1 (subst (WasDecided w b) (error_is x) y.2)

  failed_by : (w : Scene) (b : Birth) (id e c : ℕ) → ((x y : Asked) → IsBorn w id x → IsBorn w id y → x ≡ y) → b.id ≡ id → IsBorn w b.id b.asked → (IsLast p q clients gives w b e → FailedIn p q clients gives w b.id b.asked (code_of e)) → EndsBy p q clients gives w b id e c → FailedIn p q clients gives w b.id b.asked c
  failed_by w b id e c apart is born own (inl same) = subst (FailedIn p q clients gives w b.id b.asked) (sym same.0) (own same.1)
  failed_by w b id e c apart is born own (inr y) = subst (FailedIn p q clients gives w b.id b.asked) (sym y.2) (failed_of w b id y.1 apart is born y.3 y.4)

  -- what follows a decision
  pub decided_says : (w : Scene) (m : Mark) (id e : ℕ) (next : Program) → m.owes ≡ []
      → ((v : Scene) (b : Birth) → After w v → SaidBy v next → IsBorn v b.id b.asked → b.id ≡ id → IsLast p q clients gives v b e → FailedIn p q clients gives v b.id b.asked (code_of e)) → Follows w m next → Decided w m id e (decided id next)
  decided_says w m id e next owes own goes (HasEnded o c) v m' l s lv = let b = lv.0 in let is = lv.3 in inr (
    b,
    ap (λ (x : Mark). x.owes) is,
    lv.6,
    lv.5,
    (sym lv.4, failed_by v b id e c (l.apart id) lv.4 lv.5 (own v b l s.1 lv.5 lv.4) lv.7),
    goes v (with_owed [] m') l s.1 (record { slot = lv.1; vacant = lv.2; is = ap (with_owed []) is ∙ ap (λ bs. with_owed bs (with_slot lv.1 m)) (sym owes) }),
  )
  decided_says w m id e next owes own goes GoesOn v m' l s lv = goes v m' l s lv.0

  -- what follows a post whoever made it
  pub posted_exits : (w : Scene) (m : Mark) (id e : ℕ) (next : Program) → IsFree m → IsOther p q clients gives (code_of e) → attempt_of e ≢ 7 → Follows w m next → Exits w m id e (posted id e next)
  posted_exits w m id e next free other light goes (HasLocked word) v m' l s lv = (
    tt,
    subst (λ x. Says v x (decide id word e (decided id next))) (sym lv.1)
        (decide_says v (with_slot (Locked (id_slot id) (id_first id) lv.0) m) id word e (decided id next) lv.0 refl lv.2 free.1 free.2 lv.3 (λ _. lv.4)
        (decided_says v (with_slot (Locked (id_slot id) (id_first id) lv.0) m) id e next free.1
        (λ u b l' _ born is last. failed_of u b id e (l'.apart id) is born (of_other other light (l'.posted (record { id = id; error = e }) lv.4)) last) (follows_on w v m (Locked (id_slot id) (id_first id) lv.0) next l goes))),
  )
  posted_exits w m id e next free other light goes WasGone v m' l s lv = (tt, goes v m' l s lv)
  posted_exits w m id e next free other light goes WasStale v m' l s lv = (tt, goes v m' l s lv)
  posted_exits w m id e next free other light goes (WasCrowded a b) v m' l s lv = (tt, goes v m' l s lv.0)
  posted_exits w m id e next free other light goes WasQueued v m' l s lv = (of_other other light lv.1, goes v m' l s lv.0)

  pub post_says : (w : Scene) (m : Mark) (id c n : ℕ) (next : Program) → IsFree m → IsOther p q clients gives c → n ≤ 6 → Follows w m next → Says w m (post id c n next)
  post_says w m id c n next free other few goes = let back : c ≡ code_of (c * 8 + n) = omega (arith, few) in
      post_with_says w m id (error_of c n) (posted id (error_of c n) next) free (posted_exits w m id (error_of c n) next free (subst (IsOther p q clients gives) back other) (λ is. omega (arith, few, is)) goes)

  -- ## Giving a lock back

  abbrev pub Unlocked : Scene → Mark → ℕ → (Unlocking → Program) → Type 0
  Unlocked w m i k = (exit : Unlocking) (w' : Scene) (m' : Mark) → After w w' → SaidBy w' (k exit) → LeavesUnlock p q clients gives w' m i exit m' → Says w' m' (k exit)

  pub unlocks_says : (w : Scene) (m : Mark) (i from : ℕ) (advance : Bool) (k : Unlocking → Program) → MayUnlock p q clients gives w m i advance → m.owes ≡ [] → m.makes ≡ [] → Unlocked w m i k → Says w m (unlocks_round i from advance k)
  unlocks_says w m i from advance k slot owes makes goes = (slot, λ found v m' l s mv. (tt, by_found found v m' l mv (eqb found from) refl s))
    where
      after : ℕ
      after = packed (unlocked_word (parts from) (bit advance))

      again : (word : ℕ) (v : Scene) (m' : Mark) → After w v → m' ≡ m → Says v m' (Round (Unlocks i word advance) k)
      again word v m' l is = subst (λ x. Says v x (Round (Unlocks i word advance) k)) (sym is) ((unlock_on p q clients gives w v l m i advance slot, owes, makes), λ exit v' m'' l' s' lv. (tt, goes exit v' m'' (far p q clients gives w v v' l l') s' lv))

      twice : (a b : ℕ) (s : Slot) → with_attempt b (with_attempt a s) ≡ with_attempt b s
      twice a b NoSlot = refl
      twice a b _ = refl

      rebase : (v : Scene) (a : ℕ) (exit : Unlocking) (m'' : Mark) → LeavesUnlock p q clients gives v (with_slot (with_attempt a m.slot) m) i exit m'' → LeavesUnlock p q clients gives v m i exit m''
      rebase v a (IsOpen word) m'' lv = lv
      rebase v a (HasNext word e) m'' lv = (lv.0 ∙ ap (λ s. with_slot s m) (twice a (parts word).attempt m.slot), (λ f shape is. lv.1 f (record { range = shape.range; attempt = a }) (ap (with_attempt a) is)), lv.2)

      further : (a word : ℕ) (v : Scene) (m' : Mark) → After w v → m' ≡ with_slot (with_attempt a m.slot) m → Says v m' (Round (Unlocks i word false) k)
      further a word v m' l is = subst (λ x. Says v x (Round (Unlocks i word false) k)) (sym is) (((slot.0, record { range = slot.1.range; attempt = a }, ap (with_attempt a) slot.2, λ e. absurd (let z : false ≡ true = e in cc)), owes, makes), λ exit v' m'' l' s' lv. (tt, goes exit v' m'' (far p q clients gives w v v' l l') s' (rebase v' a exit m'' lv)))

      by_found : (found : ℕ) (v : Scene) (m' : Mark) → After w v → Moves p q clients gives v m (UnlockId i from advance) found m' → (b : Bool) → eqb found from ≡ b
          → SaidBy v (cond b (popped i (parts from).oldest (packed (unlocked_word (parts from) (bit advance))) k) (Round (Unlocks i found advance) k)) → Says v m' (cond b (popped i (parts from).oldest (packed (unlocked_word (parts from) (bit advance))) k) (Round (Unlocks i found advance) k))
      by_found found v m' l mv true is s = let same = eqb-true found from is in
          let word : ℕ = packed (unlocked_word (parts from) (bit advance)) in
          let two : Program = cond (is_stale (parts from).oldest (parts word)) (Round (Unlocks i word false) k) (k (HasNext word (parts from).oldest)) in
          way v m' (eqb (parts from).oldest 0) (k (IsOpen word)) two s
          (λ none_ s'. goes (IsOpen word) v m' l s' (mv.0 same (eqb-true (parts from).oldest 0 none_)))
          (λ some_ s'. let y = mv.1 same (not_equal (parts from).oldest 0 some_) in
          way v m' (is_stale (parts from).oldest (parts word)) (Round (Unlocks i word false) k) (k (HasNext word (parts from).oldest)) s' (λ _ _. further (parts (unlocked_by from advance)).attempt word v m' l y.0) (λ fresh s''. goes (HasNext word (parts from).oldest) v m' l s'' (y.0, y.1, fresh)))
      by_found found v m' l mv false is s = again found v m' l (mv.2 (not_equal found from is))

  -- ## Getting a lock

  abbrev pub Lockings : Scene → Mark → ℕ → Sought → (Locking → Program) → Type 0
  Lockings w m i sought k = (exit : Locking) (w' : Scene) (m' : Mark) → After w w' → SaidBy w' (k exit) → LeavesLock p q clients gives m i sought exit m' → Says w' m' (k exit)

  locking_then : (w : Scene) (m : Mark) (i : ℕ) (sought : Sought) (found : ℕ) (k : Locking → Program) → IsFree m → Lockings w m i sought k → Then w m (locking i sought found k)
  locking_then w m i sought found k free goes = λ v l s. let two : Program = cond (eqb (parts found).state 1) (Round (Locks i sought (Some found)) k) (Round (Locks i sought None) k) in
      way v m (not (is_sought sought (parts found))) (k (NotThere found)) two s (λ _ s'. goes (NotThere found) v m l s' refl)
      (λ here _. plain_way v m (eqb (parts found).state 1) (Round (Locks i sought (Some found)) k) (Round (Locks i sought None) k)
      (λ one. ((free, (not_true (is_sought sought (parts found)) here, eqb-true (parts found).state 1 one)), λ exit v' m' l' s' lv. (tt, goes exit v' m' (far p q clients gives w v v' l l') s' lv)))
      (λ _. ((free, tt), λ exit v' m' l' s' lv. (tt, goes exit v' m' (far p q clients gives w v v' l l') s' lv))))

  matches : (sought : Sought) (word : ℕ) → is_sought sought (parts word) ≡ true → MatchesRange p q clients gives sought (parts word).first (parts word).range
  matches (First first) word is = eqb-true (parts word).first first (and_left (eqb (parts word).first first) (not (eqb (parts word).state 0)) is)
  matches (Version v) word is = let both = and_right (not (eqb (parts word).state 0)) (nat_lt (parts word).first v && nat_lt v ((parts word).first + (parts word).range)) is in
      (ltb-true (parts word).first v (and_left (nat_lt (parts word).first v) (nat_lt v ((parts word).first + (parts word).range)) both), ltb-true v ((parts word).first + (parts word).range) (and_right (nat_lt (parts word).first v) (nat_lt v ((parts word).first + (parts word).range)) both))

  pub locks_says : (w : Scene) (m : Mark) (i : ℕ) (sought : Sought) (from : Option ℕ) (k : Locking → Program) → IsFree m → IsSoughtWord sought from → Lockings w m i sought k → Says w m (locks_round i sought from k)
  locks_says w m i sought None k free is goes = (tt, λ found v m' l s mv. (tt, subst (λ x. Says v x (locking i sought found k)) (sym mv.0) (locking_then w m i sought found k free goes v l s)))
  locks_says w m i sought (Some from) k free is goes = (free, λ found v m' l s mv. (tt, by_found found v m' l mv (eqb found from) refl s))
    where
      by_found : (found : ℕ) (v : Scene) (m' : Mark) → After w v → Moves p q clients gives v m (LockId i from) found m' → (b : Bool) → eqb found from ≡ b → SaidBy v (cond b (k (Has (packed (posted_word (parts from) 0)))) (locking i sought found k)) → Says v m' (cond b (k (Has (packed (posted_word (parts from) 0)))) (locking i sought found k))
      by_found found v m' l mv true hit s = goes (Has (packed (posted_word (parts from) 0))) v m' l s ((parts from).first, shape_of (parts from), mv.0 (eqb-true found from hit), ap (λ (x : Parts). x.first) (locked_parts from 0 is.1), matches sought from is.0)
      by_found found v m' l mv false hit s = subst (λ x. Says v x (locking i sought found k)) (sym (mv.1 (not_equal found from hit))) (locking_then w m i sought found k free goes v l s)

  -- ## Waiting for an end

  pub joins_says : (w : Scene) (m : Mark) (id : ℕ) (k : ℕ → Program) → IsFree m → ((exit : ℕ) → Then w m (k exit)) → Says w m (joins_round id k)
  joins_says w m id k free goes = (
    tt,
    λ found v m' l s mv. (
      tt,
      subst (λ x. Says v x (cond (is_first (id_first id) (parts found)) (Round (Joins id) k) (k found))) (sym mv.0) (way v m (is_first (id_first id) (parts found)) (Round (Joins id) k) (k found) s
          (λ _ _. (free, λ exit v' m'' l' s' lv. (tt, subst (λ x. Says v' x (k exit)) (sym lv) (goes exit v' (far p q clients gives w v v' l l') s')))) (λ _ s'. goes found v l s')),
    ),
  )
