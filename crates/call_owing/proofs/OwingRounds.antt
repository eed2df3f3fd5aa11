-- From the head of each loop one round goes on with what is owed.
use Rattle.std.proofs.Common.{◌≡◌, ℕ, ◌+◌, ◌-◌, ◌&&◌, not, Bool, true, false, cond, eqb, eqb-true, nat_lt, List, [], ◌∷◌, ◌++◌, Option, Some, None, length, refl, sym, ap, ◌∙◌, subst}
use Rattle.corr_core.specs.IdSlotWord.{Parts, parts, locked_word, posted_word}
use Rattle.corr_core.specs.IdRangeVersions.{is_early}
use Rattle.seat_programs.specs.brpc_model.specs.Frame.{Frame}
use Rattle.seat_programs.specs.brpc_model.specs.FrameStream as streams
use Rattle.seat_programs.specs.brpc_model.specs.ResponseOutcome.{ending_of}
use Rattle.seat_programs.specs.TableSteps.{OnName, LoadOpen}
use Rattle.seat_programs.specs.Asides.{LockId, Taking, Bytes, Nothing, Closed}
use Rattle.seat_programs.specs.LoopHeads.{Head, Exit, Sought, Version, Reading, Posts, Unlocks, Decides, Locks, Joins, Opens, Reads, Discards, Locking, NotThere, Has, Ended}
use Rattle.seat_programs.specs.Programs.{Program, Say, Round}
use Rattle.seat_programs.specs.PostPrograms.{packed, is_first, is_sought, locking}
use Rattle.seat_programs.specs.ReaderProgram.{answer, answered, responses, read_on, took, discarded, last_of, slot_in, version_in, has_response, ended_by as how_ended, LIMIT}
use Rattle.seat_programs.specs.LoopRounds.{round}
use Rattle.call_owing.specs.Owing.{Duty, Free, Trying, Linked, Looking, Telling, Owing, freed, with_left, with_dead, FindsOwe, IsLifeOf}
use Rattle.call_owing.specs.Owing as owing
use Rattle.call_owing.specs.Owes.{MaySeek, FoundRange, AtOwe, LeavesLocks, LeavesOpens, LeavesOwe, OwesOn}
use Rattle.call_owing.proofs.PostsAndDecisionsOwed.{was_free, same_further, not_true, not_false, and_left, way, pick, end_goes, locked_parts, posts_goes, decides_goes, unlocks_goes}
use Rattle.sock_words.specs.PackedWords.{id_first, call_id, NO_SOCKET}

module _ (life : ℕ → Option ℕ) where
  -- ## Locks

  -- the range that was sought isn't there
  not_there : (i found : ℕ) (won : Bool) (u : Owing) (sought : Sought) → MaySeek i sought u.duty → not (is_sought sought (parts found)) ≡ true → owing.Posting i found won u (freed u)
  not_there i found won u sought may not_ = by_duty u.duty refl may
    where
      by_duty : (d : Duty) → u.duty ≡ d → MaySeek i sought d → owing.Posting i found won u (freed u)
      by_duty Free is m = owing.posts_on (was_free u is)
      by_duty (Trying id n) is m = owing.has_ended id n is m.0 (not_false (is_first (id_first id) (parts found)) (subst (λ (s : Sought). not (is_sought s (parts found)) ≡ true) m.1 not_)) refl
      by_duty (Linked id n k) is m = absurd m
      by_duty (Looking id n k o) is m = absurd m
      by_duty (Telling id n) is m = absurd m

  locking_goes : (u : Owing) (i : ℕ) (sought : Sought) (found : ℕ) (won : Bool) (k : Locking → Program) → MaySeek i sought u.duty → ((exit : Locking) (v : Owing) → LeavesLocks life i exit u v → OwesOn life v (k exit))
      → (v : Owing) × owing.Posting i found won u v × OwesOn life v (locking i sought found k)
  locking_goes u i sought found won k may goes = let M : Owing → Type 0 = owing.Posting i found won u in
      pick life (owing.Posting i found won u) (not (is_sought sought (parts found))) (k (NotThere found)) (cond (eqb (parts found).state 1) (Round (Locks i sought (Some found)) k) (Round (Locks i sought None) k))
      (λ not_. (freed u, not_there i found won u sought may not_, goes (NotThere found) (freed u) refl))
      (λ here. (
        u,
        owing.posts_on refl,
        way life u (eqb (parts found).state 1) (Round (Locks i sought (Some found)) k) (Round (Locks i sought None) k)
            (λ one. ((may, (not_true (is_sought sought (parts found)) here, eqb-true (parts found).state 1 one)), goes)) (λ _. ((may, tt), goes)),
      ))

  got_range : (u : Owing) (i from found : ℕ) (sought : Sought) → MaySeek i sought u.duty → is_sought sought (parts from) ≡ true → (parts from).state ≡ 1 → FindsOwe u (LockId i from) found → found ≡ from → FoundRange i (packed (posted_word (parts from) 0)) u.duty
  got_range u i from found sought may sought_ one f same = by_duty u.duty refl may
    where
      is : parts (packed (posted_word (parts from) 0)) ≡ locked_word (parts from)
      is = locked_parts life from 0 one

      by_duty : (d : Duty) → u.duty ≡ d → MaySeek i sought d → FoundRange i (packed (posted_word (parts from) 0)) d
      by_duty Free e m = tt
      by_duty (Trying id n) e m = let first : (parts from).first ≡ id_first id = eqb-true (parts from).first (id_first id) (and_left (eqb (parts from).first (id_first id)) (not (eqb (parts from).state 0)) (subst (λ (s : Sought). is_sought s (parts from) ≡ true) m.1 sought_)) in
          (ap (λ (w : Parts). w.first) is ∙ first, ap (λ (w : Parts). w.attempt) is ∙ subst (λ x. (parts x).attempt ≡ n) same (f same id n e m.0 (subst (λ x. (parts x).first ≡ id_first id) (sym same) first)))
      by_duty (Linked id n k) e m = absurd m
      by_duty (Looking id n k o) e m = absurd m
      by_duty (Telling id n) e m = absurd m

  locks_goes : (u : Owing) (i : ℕ) (sought : Sought) (from : Option ℕ) (k : Locking → Program) → AtOwe life u (Locks i sought from) → ((exit : Locking) (v : Owing) → LeavesLocks life i exit u v → OwesOn life v (k exit)) → OwesOn life u (round (Locks i sought from) k)
  locks_goes u i sought None k at goes = (tt, λ found f. locking_goes u i sought found false k at.0 goes)
  locks_goes u i sought (Some from) k at goes = (
    tt,
    λ found f. pick life (owing.Posting i found false u) (eqb found from) (k (Has (packed (posted_word (parts from) 0)))) (locking i sought found k)
        (λ hit. (u, owing.posts_on refl, goes (Has (packed (posted_word (parts from) 0))) u (refl, got_range u i from found sought at.0 at.1.0 at.1.1 f (eqb-true found from hit))))
        (λ _. locking_goes u i sought found false k at.0 goes),
  )

  -- ## Waiting and reading

  joins_goes : (u : Owing) (id : ℕ) (k : ℕ → Program) → AtOwe life u (Joins id) → ((exit : ℕ) (v : Owing) → v ≡ u → OwesOn life v (k exit)) → OwesOn life u (round (Joins id) k)
  joins_goes u id k at goes = (tt, λ found _. (u, owing.posts_on refl, way life u (is_first (id_first id) (parts found)) (Round (Joins id) k) (k found) (λ _. (at, goes)) (λ _. goes found u refl)))

  opens_goes : (u : Owing) (o : ℕ) (k : ℕ → Program) → AtOwe life u (Opens o) → ((exit : ℕ) (v : Owing) → LeavesOpens life exit u v → OwesOn life v (k exit)) → OwesOn life u (round (Opens o) k)
  opens_goes u o k at goes = (
    tt,
    λ word f. pick life (owing.CallMove life (OnName (LoadOpen o)) word u) (eqb word 0) (Round (Opens o) k) (k word)
        (λ _. (u, owing.stays refl, (at, goes)))
        (λ some_. named word (subst (λ (l : List ℕ). IsLifeOf life l word) at.0.1 (f (Rattle.call_owing.proofs.PostsAndDecisionsOwed.not_equal word 0 some_))) (eqb word NO_SOCKET) refl),
  )
    where
      named : (word : ℕ) → life at.0.0 ≡ cond (eqb word NO_SOCKET) None (Some (word - 1)) → (b : Bool) → eqb word NO_SOCKET ≡ b → (v : Owing) × owing.CallMove life (OnName (LoadOpen o)) word u v × OwesOn life v (k word)
      named word is true nb = (
        with_left [] u,
        owing.unused at.0.0 o refl at.0.1 (is ∙ ap (λ b. cond b None (Some (word - 1))) nb) refl,
        goes word (with_left [] u) ((λ l ls e. subst (λ x. life x ≡ cond (eqb word NO_SOCKET) None (Some (word - 1))) (head_of l ls e) is), sym (ap (λ b. cond b (with_left [] u) u) nb)),
      )
        where
          head_of : (l : ℕ) (ls : List ℕ) → u.link ≡ l ∷ ls → at.0.0 ≡ l
          head_of l ls e = let z : at.0.0 ∷ [] ≡ l ∷ ls = sym at.0.1 ∙ e in cc
      named word is false nb = (u, owing.stays refl, goes word u ((λ l ls e. subst (λ x. life x ≡ cond (eqb word NO_SOCKET) None (Some (word - 1))) (head_of l ls e) is), sym (ap (λ b. cond b (with_left [] u) u) nb)))
        where
          head_of : (l : ℕ) (ls : List ℕ) → u.link ≡ l ∷ ls → at.0.0 ≡ l
          head_of l ls e = let z : at.0.0 ∷ [] ≡ l ∷ ls = sym at.0.1 ∙ e in cc

  pub answer_goes : (u : Owing) (frame : Frame) (first : ℕ) (next : Program) → u.duty ≡ Free → OwesOn life u next → OwesOn life u (answer frame first next)
  answer_goes u frame first next free goes = (tt, λ asked _. (u, refl, end_goes life u (slot_in frame) (Say asked.operation (ending_of (call_id (slot_in frame) first) frame) next) free goes))

  seeks : (u : Owing) (i v : ℕ) → u.duty ≡ Free → MaySeek i (Version v) u.duty
  seeks u i v free = subst (MaySeek i (Version v)) (sym free) tt

  responses_goes : (ids : ℕ) (u : Owing) (fs kept : List Frame) (k : List Frame → Program) → u.duty ≡ Free → ((kept' : List Frame) → OwesOn life u (k kept')) → OwesOn life u (responses ids fs kept k)
  responses_goes ids u [] kept k free goes = goes kept
  responses_goes ids u (f ∷ fs) kept k free goes = way life u (has_response f.meta.response && nat_lt (slot_in f) ids)
      (Round (Locks (slot_in f) (Version (version_in f)) None) (answered f kept (λ kept'. responses ids fs kept' k))) (responses ids fs kept k)
      (λ _. ((seeks u (slot_in f) (version_in f) free, tt), exits (λ kept'. responses_goes ids u fs kept' k free goes)))
      (λ _. responses_goes ids u fs kept k free goes)
    where
      exits : ((kept' : List Frame) → OwesOn life u (responses ids fs kept' k)) → (exit : Locking) (v : Owing) → LeavesLocks life (slot_in f) exit u v → OwesOn life v (answered f kept (λ kept'. responses ids fs kept' k) exit)
      exits later (NotThere w) v l = subst (λ x. OwesOn life x (responses ids fs (cond (is_early (version_in f) (parts w)) (kept ++ f ∷ []) kept) k)) (sym (l ∙ was_free u free)) (later (cond (is_early (version_in f) (parts w)) (kept ++ f ∷ []) kept))
      exits later (Has w) v l = subst (λ x. OwesOn life x (answer f (parts w).first (responses ids fs kept k))) (sym l.0) (answer_goes u f (parts w).first (responses ids fs kept k) free (later kept))

  -- how a reading ends
  abbrev EndsReading : Reading → Owing → (Ended → Program) → Type 0
  EndsReading r u k = (exit : Ended) (v : Owing) → LeavesOwe life (Reads r) exit u v → OwesOn life v (k exit)

  took_goes : (u : Owing) (r : Reading) (k : Ended → Program) → AtOwe life u (Reads r) → EndsReading r u k → (t : Taking) → (v : Owing) × owing.Taken r.link t u v × OwesOn life v (took r k t)
  took_goes u r k at goes (Bytes bytes) = let s = streams.stream (r.rest ++ bytes) in (
    u,
    owing.takes refl,
    responses_goes r.ids u s.frames r.kept (λ kept. read_on (record { ids = r.ids; link = r.link; id = r.id; rest = r.rest; total = r.total + length bytes; kept = kept }) (r.rest ++ bytes) s.ending k) at.0
        (λ kept. by_ending (record { ids = r.ids; link = r.link; id = r.id; rest = r.rest; total = r.total + length bytes; kept = kept }) (r.rest ++ bytes) s.ending refl refl),
  )
    where
      by_ending : (r' : Reading) (bytes : List ℕ) (s : streams.Ending) → r'.link ≡ r.link → r'.id ≡ r.id → OwesOn life u (read_on r' bytes s k)
      by_ending r' bytes (streams.Rest n) l i = let x : Reading = record r' { rest = last_of n bytes } in way life u (nat_lt r'.total LIMIT) (Round (Reads x) k) (k (how_ended 1014 false false x))
          (λ _. ((at.0, at.1 ∙ ap (λ m. m ∷ []) (sym l), ap life l ∙ at.2 ∙ ap Some (sym i)), λ exit v e. goes exit v (e.0, e.1 ∙ l, e.2 ∙ i, e.3)))
          (λ _. goes (how_ended 1014 false false x) u (same_further u, l, i, refl))
      by_ending r' bytes (streams.Fault at_ fault) l i = goes (how_ended 2002 false true r') u (same_further u, l, i, refl)
  took_goes u r k at goes Nothing = (u, owing.takes refl, (at, goes))
  took_goes u r k at goes Closed = (with_dead u, owing.closes refl at.1 refl, goes (how_ended 1014 true false r) (with_dead u) (same_further (with_dead u), refl, refl, refl))
  took_goes u r k at goes _ = (u, owing.takes refl, goes (how_ended 1014 false false r) u (same_further u, refl, refl, refl))

  discarded_goes : (u : Owing) (l total : ℕ) (k : ℕ → Program) → ((exit : ℕ) (v : Owing) → v ≡ u → OwesOn life v (k exit)) → (t : Taking) → OwesOn life u (discarded l total k t)
  discarded_goes u l total k goes (Bytes bytes) = way life u (nat_lt (total + length bytes) LIMIT) (Round (Discards l (total + length bytes)) k) (k (total + length bytes)) (λ _. (tt, goes)) (λ _. goes (total + length bytes) u refl)
  discarded_goes u l total k goes Nothing = (tt, goes)
  discarded_goes u l total k goes _ = goes total u refl

  -- one round of each loop
  pub owes_round : (u : Owing) (head : Head) (k : Exit head → Program) → OwesOn life u (Round head k) → OwesOn life u (round head k)
  owes_round u (Posts id e from) k g = posts_goes life u id e from k g.0 g.1
  owes_round u (Unlocks i from advance) k g = unlocks_goes life u i from advance k (at_head advance g.0) g.1
    where
      at_head : (b : Bool) → AtOwe life u (Unlocks i from b) → AtOwe life u (Unlocks i from b)
      at_head b a = a
  owes_round u (Decides id asked word e) k g = decides_goes life u id asked word e k g.0 g.1
  owes_round u (Locks i sought from) k g = locks_goes u i sought from k g.0 g.1
  owes_round u (Joins id) k g = joins_goes u id k g.0 g.1
  owes_round u (Opens o) k g = opens_goes u o k g.0 g.1
  owes_round u (Reads r) k g = (tt, λ t f. took_goes u r k g.0 g.1 t)
  owes_round u (Discards l total) k g = (tt, λ t f. (u, owing.takes refl, discarded_goes u l total k g.1 t))
