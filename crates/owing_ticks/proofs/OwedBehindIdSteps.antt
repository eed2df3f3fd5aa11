-- The law behind steps on the table of the ids, as the machine changes its words.
use Rattle.std.proofs.Common.{◌≡◌, ℕ, zero, suc, ◌+◌, ◌-◌, ◌<◌, ◌≤◌, ◌⊎◌, inl, inr, ⊎_elim, Bool, true, false, cond, eqb, eqb-true, eq-eqb, List, [], ◌∷◌, Option, length, set, get_or, refl, sym, ap, ◌∙◌, subst, arith}
use Rattle.std.specs.Prelude as std
use mathlib.Core.Option.{some}
use lib.ListN.{get_elem?}
use Rattle.sock_words.specs.declared.outcome.Outcome.{Outcome}
use Rattle.corr_core.specs.IdSlotWord.{Parts, parts, attempt_of, posted_word, locked_word, unlocked_word}
use Rattle.corr_core.specs.declared.marks.Plan.{Plan as IdPlan}
use Rattle.seat_programs.specs.id_rule.specs.LawfulIdTable as ids
use Rattle.seat_programs.specs.Asides.{LockId, PostId, UnlockId}
use Rattle.seat_programs.specs.PostPrograms.{packed}
use Rattle.seat_programs.specs.Cores.{Core, SeatState, Calls}
use Rattle.seat_programs.specs.FoundAndChangedAside.{calls_after}
use Rattle.call_owing.specs.Below.id_runs.proofs.AsidesKeepingIdRule.{parts_packed}
use Rattle.call_owing.specs.Owing.{Duty, Free, Trying, Linked, Looking, Telling, Owing, Posting, MayOwe, unlocked_by}
use Rattle.call_owing.specs.SoundOwing.{id_word_of, at_of, Past, ErrorPast, Stored, OwingLaw}
use Rattle.call_owing.proofs.OwedMarkChanges.{past_on}
use Rattle.call_owing.proofs.OneIdWordChanges.{worded}
use Rattle.owing_ticks.proofs.Exchanges.{Holds, stays_so, locks_so, queues_so, posting_keeps, same_step}
use Rattle.owing_ticks.proofs.IdTurnsKeepOwing.{unlocks_keep}
use Rattle.sock_words.specs.PackedWords.{call_id, id_slot, id_first, bit}

set_get : (l : List ℕ) (k : ℕ) → set l k (get_or l k 0) ≡ l
set_get [] k = refl
set_get (x ∷ xs) zero = refl
set_get (x ∷ xs) (suc k) = ap (λ y. x ∷ y) (set_get xs k)

module _ (q : IdPlan) (narrow : q.slots ≤ 65536) (life : ℕ → Option ℕ) (calls : List ℕ) (c : Core) (us : List Owing) (i : ℕ) (u : Owing) (law : OwingLaw q life calls c us) (at : get_elem? us i ≡ some u) (sized : length c.calls.words ≡ ids.all_words q)
    (ss : List SeatState) (os : List (std.Option Outcome)) where
  abbrev pub Behind : Calls → Core
  Behind a = record { words = c.words; homes = c.homes; seats = ss; outcomes = os; calls = a }

  -- id words and at words stay
  pub still_keeps : (a : Calls) → a.waiting ≡ c.calls.waiting → ((j : ℕ) → j < q.slots → id_word_of (Behind a) j ≡ id_word_of c j) → ((o : ℕ) → o < q.operations → at_of q (Behind a) o ≡ at_of q c o) → OwingLaw q life calls (Behind a) (set us i u)
  still_keeps a waits words ats = worded q life calls c us i u law at a waits ss os u 0 (id_word_of c 0) record {
    word = λ j l. inl (words j l);
    ats = ats;
    forward = inr (refl, λ some_. (some_, omega arith));
    tokens_on = λ id n j t e is. inr (refl, subst (λ k. 0 < (id_word_of c k).state) e is.2, ap (λ k. (id_word_of c k).attempt) (sym e) ∙ is.3);
    opens = λ id n e f st x. inl (ap (λ k. (id_word_of c k).first) e ∙ f, ap (λ k. (id_word_of c k).state) e ∙ st, ap (λ k. (id_word_of c k).attempt) e ∙ x);
    errors = λ id l e f st. let p = law.errors id l (ap (λ k. (id_word_of c k).first) e ∙ f) (subst (λ k. 0 < (id_word_of c k).state) (sym e) st) in
        (subst (λ k. ErrorPast (set us i u) id (id_word_of c k).oldest) e (still id (id_word_of c (id_slot id)).oldest p.0), subst (λ k. ErrorPast (set us i u) id (id_word_of c k).second) e (still id (id_word_of c (id_slot id)).second p.1));
    owes = λ id n l o o' d. d;
    knows = λ id n k. k;
    learns = λ id n k. inl (i, u, at, k);
    tokens = λ id n k. inl k;
    distinct = law.distinct i u at;
    link = refl;
    left = refl;
    dead = refl;
    keeps = refl;
    own = stored u.duty (law.stored i u at);
  }
    where
      still : (id e : ℕ) → ErrorPast us id e → ErrorPast (set us i u) id e
      still id e p some_ = ⊎_elim (λ y. inl y) (λ y. inr (past_on q life calls c c us i u u law at (λ j m k. k) id (attempt_of e) y)) (p some_)

      stored : (d : Duty) → Stored q calls c us d → Stored q calls (Behind a) (set us i u) d
      stored Free x = tt
      stored (Trying id n) x = tt
      stored (Linked id n k) x = tt
      stored (Looking id n k o) x = (x.0, x.1, past_on q life calls c c us i u u law at (λ j m k. k) id n x.2, (λ is. let e = words (id_slot id) is.0 in ats o x.0 ∙ x.3 (is.0, ap (λ (y : Parts). y.first) (sym e) ∙ is.1, subst (λ (y : Parts). 0 < y.state) e is.2, ap (λ (y : Parts). y.attempt) (sym e) ∙ is.3)), x.4)
      stored (Telling id n) x = tt

  module _ (s : ℕ) (inside : s < q.slots) (found : ℕ) (is : get_or c.calls.words (ids.id_index s) 0 ≡ found) where
    is_word : parts found ≡ id_word_of c s
    is_word = ap parts (sym is)

    -- I7
    pub look_keeps : (v : Owing) → Posting s found false u v → OwingLaw q life calls (Behind c.calls) (set us i v)
    look_keeps v m = subst (λ (l : List ℕ). OwingLaw q life calls (Behind (record c.calls { words = l })) (set us i v)) (ap (set c.calls.words (ids.id_index s)) (sym is) ∙ set_get c.calls.words (ids.id_index s))
        (posting_keeps q life calls c us i u law at sized ss os s inside found (stays_so q life calls c us i u law at sized ss os s inside found is_word) found false v is_word (λ e. let z : false ≡ true = e in absurd cc) m)

    fits_lock : (from : ℕ) → parts (packed (locked_word (parts from))) ≡ locked_word (parts from)
    fits_lock from = parts_packed (locked_word (parts from)) (omega arith) (omega arith) (omega arith) (omega arith) (omega arith) (omega arith)

    opened_is : (from e : ℕ) → (parts from).state ≡ 1 → parts (packed (posted_word (parts from) e)) ≡ locked_word (parts from)
    opened_is from e one = ap (λ x. parts (packed x)) (ap (λ b. cond b (locked_word (parts from)) record { first = (parts from).first; state = 2; range = (parts from).range; attempt = (parts from).attempt; oldest = cond (eqb (parts from).oldest 0) e (parts from).oldest; second = cond (eqb (parts from).oldest 0) 0 e }) (eq-eqb (parts from).state 1 one)) ∙ fits_lock from

    -- an exchange that found an open id locks it
    locks : (from e : ℕ) → (parts from).state ≡ 1 → found ≡ from → Holds q life calls c us i u law at sized ss os s inside (packed (posted_word (parts from) e))
    locks from e one hit = let w : parts from ≡ id_word_of c s = ap parts (sym hit) ∙ is_word in
        locks_so q life calls c us i u law at sized ss os s inside (packed (posted_word (parts from) e)) (ap (λ (y : Parts). y.state) (sym w) ∙ one) (opened_is from e one ∙ ap locked_word w)

    -- I3
    pub lock_keeps : (from : ℕ) (v : Owing) → (parts from).state ≡ 1 → Posting s found false u v → OwingLaw q life calls (Behind (calls_after (LockId s from) found c.calls)) (set us i v)
    lock_keeps from v one m = by_hit (eqb found from) refl
      where
        by_hit : (b : Bool) → eqb found from ≡ b → OwingLaw q life calls (Behind (record c.calls { words = set c.calls.words (ids.id_index s) (cond b (packed (posted_word (parts from) 0)) found) })) (set us i v)
        by_hit true e = posting_keeps q life calls c us i u law at sized ss os s inside (packed (posted_word (parts from) 0)) (locks from 0 one (eqb-true found from e)) found false v is_word (λ e. let z : false ≡ true = e in absurd cc) m
        by_hit false e = posting_keeps q life calls c us i u law at sized ss os s inside found (stays_so q life calls c us i u law at sized ss os s inside found is_word) found false v is_word (λ e. let z : false ≡ true = e in absurd cc) m

    -- I4
    pub post_keeps : (from e : ℕ) (v : Owing) → e < 32768 → ((parts from).state ≡ 1) ⊎ ((parts from).state ≡ 2) → MayOwe u (PostId s from e) → Posting s found (eqb found from) u v → OwingLaw q life calls (Behind (calls_after (PostId s from e) found c.calls)) (set us i v)
    post_keeps from e v small states knows m = by_hit (eqb found from) refl m
      where
        by_hit : (b : Bool) → eqb found from ≡ b → Posting s found b u v → OwingLaw q life calls (Behind (record c.calls { words = set c.calls.words (ids.id_index s) (cond b (packed (posted_word (parts from) e)) found) })) (set us i v)
        by_hit false n m = posting_keeps q life calls c us i u law at sized ss os s inside found (stays_so q life calls c us i u law at sized ss os s inside found is_word) found false v is_word (λ e. let z : false ≡ true = e in absurd cc) m
        by_hit true h m = ⊎_elim
            (λ one. posting_keeps q life calls c us i u law at sized ss os s inside (packed (posted_word (parts from) e)) (locks from e one (eqb-true found from h)) found true v is_word (λ _ st. let z : 2 ≡ 1 = ap (λ (y : Parts). y.state) (sym (opened_is from e one)) ∙ st in omega (arith, z)) m)
            (λ two. let w : parts from ≡ id_word_of c s = ap parts (sym (eqb-true found from h)) ∙ is_word in let x = queued two in
            posting_keeps q life calls c us i u law at sized ss os s inside (packed (posted_word (parts from) e))
            (queues_so q life calls c us i u law at sized ss os s inside (packed (posted_word (parts from) e)) e (ap (λ (y : Parts). y.state) (sym w) ∙ two)
            (x ∙ ap (λ (y : Parts). record { first = y.first; state = 2; range = y.range; attempt = y.attempt; oldest = cond (eqb y.oldest 0) e y.oldest; second = cond (eqb y.oldest 0) 0 e }) w)
            (λ id slot f. let same : call_id s (parts from).first ≡ id = (let g : (parts from).first ≡ id_first id = ap (λ (y : Parts). y.first) w ∙ f in ap (λ k. call_id k (parts from).first) (sym slot) ∙ ap (call_id (id_slot id)) g ∙ Rattle.call_owing.proofs.PostsAndDecisionsOwed.id_back id) in
            ⊎_elim (λ whole. inl whole) (λ a. inr (subst (λ k. Past us k (attempt_of e)) same (i, u, at, a))) knows))
            found true v is_word (λ _ st. let z : 2 ≡ 1 = ap (λ (y : Parts). y.state) (sym x) ∙ st in omega (arith, z)) m)
            states
          where
            queue : Bool → Parts
            queue b = record { first = (parts from).first; state = 2; range = (parts from).range; attempt = (parts from).attempt; oldest = cond b e (parts from).oldest; second = cond b 0 e }

            fits : (b : Bool) → (cond b e (parts from).oldest < 32768) × (cond b 0 e < 32768)
            fits true = (small, omega arith)
            fits false = ((let z : (parts from).oldest < 32768 = omega arith in z), small)

            queued : (parts from).state ≡ 2 → parts (packed (posted_word (parts from) e)) ≡ record { first = (parts from).first; state = 2; range = (parts from).range; attempt = (parts from).attempt; oldest = cond (eqb (parts from).oldest 0) e (parts from).oldest; second = cond (eqb (parts from).oldest 0) 0 e }
            queued two = ap (λ x. parts (packed x)) (ap (λ b. cond b (locked_word (parts from)) record { first = (parts from).first; state = 2; range = (parts from).range; attempt = (parts from).attempt; oldest = cond (eqb (parts from).oldest 0) e (parts from).oldest; second = cond (eqb (parts from).oldest 0) 0 e }) (Rattle.std.proofs.Common.ne_eqb (parts from).state 1 (λ z. omega (arith, z, two))))
                ∙ parts_packed record { first = (parts from).first; state = 2; range = (parts from).range; attempt = (parts from).attempt; oldest = cond (eqb (parts from).oldest 0) e (parts from).oldest; second = cond (eqb (parts from).oldest 0) 0 e } (omega arith) (omega arith) (omega arith) (omega arith) (fits (eqb (parts from).oldest 0)).0 (fits (eqb (parts from).oldest 0)).1

    -- I5
    pub unlock_keeps : (from : ℕ) (advance : Bool) → (parts from).first < 4294967296 → (parts from).attempt + bit advance ≤ 6 → (parts from).state ≡ 2 → MayOwe u (UnlockId s from advance) → OwingLaw q life calls (Behind (calls_after (UnlockId s from advance) found c.calls)) (set us i (cond (eqb found from) (unlocked_by s from advance u) u))
    unlock_keeps from advance low few two may = by_hit (eqb found from) refl
      where
        state_fits : (b : Bool) → cond b 1 2 < 4
        state_fits true = omega arith
        state_fits false = omega arith

        by_hit : (b : Bool) → eqb found from ≡ b → OwingLaw q life calls (Behind (record c.calls { words = set c.calls.words (ids.id_index s) (cond b (packed (unlocked_word (parts from) (bit advance))) found) })) (set us i (cond b (unlocked_by s from advance u) u))
        by_hit true h = let w : parts from ≡ id_word_of c s = ap parts (sym (eqb-true found from h)) ∙ is_word in unlocks_keep q narrow life calls c us i u law at sized ss os s inside (packed (unlocked_word (parts from) (bit advance))) from advance low w two
            (parts_packed (unlocked_word (parts from) (bit advance)) (state_fits (eqb (parts from).oldest 0)) (omega arith) (omega arith) (omega (arith, few)) (omega arith) (omega arith)) may
        by_hit false h = worded q life calls c us i u law at (record c.calls { words = set c.calls.words (ids.id_index s) found }) refl ss os u s (parts found) (same_step q life calls c us i u law at sized ss os s inside found (stays_so q life calls c us i u law at sized ss os s inside found is_word))
