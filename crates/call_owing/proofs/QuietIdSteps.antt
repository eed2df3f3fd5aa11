-- Steps that the table of the ids doesn't see keep the law.
use Rattle.std.proofs.Common.{◌≡◌, ◌≢◌, ℕ, ◌%◌, ◌<◌, ◌≤◌, ◌⊎◌, inl, inr, ⊎_elim, true, false, List, [], ◌∷◌, ◌++◌, Option, Some, None, set, refl, sym, ap, ◌∙◌, subst, arith}
use Rattle.std.specs.Prelude as std
use mathlib.Core.Logic.{dite}
use native.Mathlib.Decide.{ℕ_discrete}
use mathlib.Core.Option as core
use mathlib.Core.Option.{some, some-injective}
use lib.ListN.{get_elem?}
use Rattle.sock_words.specs.PackedWords.{socket_id_version, socket_id_slot, vref_version, at_word, at_word_first, at_word_slot, at_word_attempt, call_id, id_slot, id_first}
use Rattle.sock_words.specs.declared.outcome.Outcome.{Outcome}
use Rattle.sock_model.specs.declared.chain.Heading.{Heading}
use Rattle.sock_model.specs.declared.home.Home.{Home}
use Rattle.sock_model.specs.declared.home.Home.TheVariants.{Message}
use Rattle.corr_core.specs.IdSlotWord.{attempt_of}
use Rattle.corr_core.specs.declared.marks.Plan.{Plan as IdPlan}
use Rattle.seat_programs.specs.TableSteps.{TableStep, OnSlot, AddRef, SetOdd, LookWord}
use Rattle.seat_programs.specs.Cores.{Core, SeatState, waiting_at}
use Rattle.call_owing.specs.Owing.{Duty, Free, Trying, Linked, Looking, Telling, Owing, Among, InList, DutyTo, duty_tokens, with_duty, freed, with_known, with_left, with_dead, CallMove, stays, tells, tells_late, links, looks, fails, gone, unused}
use Rattle.call_owing.specs.SoundOwing.{id_word_of, at_of, retry_tokens, Owed, by_seat, by_retry, by_reader, Past, Distinct, IsOpen, ErrorPast, Failed, Stored, OwingLaw}
use Rattle.call_owing.proofs.OwedMarkChanges.{set_at, set_beside, change, past_on}

pub distinct_tail : (l m : List (ℕ × ℕ)) → Distinct (l ++ m) → Distinct m
distinct_tail [] m d = d
distinct_tail (x ∷ xs) m d = distinct_tail xs m d.1

module _ (q : IdPlan) (life : ℕ → Option ℕ) (calls : List ℕ) (c : Core) (us : List Owing) (i : ℕ) (u : Owing) (law : OwingLaw q life calls c us) (at : get_elem? us i ≡ some u)
    (ws : List ℕ) (hs : List (core.Option Home)) (ss : List SeatState) (os : List (std.Option Outcome)) where
  -- the core behind a step that the ids don't see
  abbrev pub Quiet : Core
  Quiet = record { words = ws; homes = hs; seats = ss; outcomes = os; calls = c.calls }

  module _ (v : Owing) where
    -- what is left to show of the marks
    pub record Marks : Type 0 where
      pub knows : (id n : ℕ) → Among id n u.knows → Among id n v.knows
      pub learns : (id n : ℕ) → Among id n v.knows → Past us id n ⊎ (Among id n (duty_tokens u.duty) × (duty_tokens v.duty ≡ []))
      pub tokens : (id n : ℕ) → Among id n (duty_tokens v.duty) → Among id n (duty_tokens u.duty)
      pub distinct : Distinct (duty_tokens v.duty ++ retry_tokens (waiting_at c.calls.waiting i))
      pub owes : (id n : ℕ) → id_slot id < q.slots → IsOpen c id n → DutyTo id n u.duty → Owed q life (record { words = ws; homes = hs; seats = ss; outcomes = os; calls = c.calls }) (set us i v) id n
      pub lefts : (id n o k s : ℕ) → id_slot id < q.slots → IsOpen c id n → o < q.operations → life k ≡ Some s → at_of q c o ≡ at_word (id_first id) (id_slot id) k n → u.link ≡ k ∷ [] → InList o u.left → Owed q life (record { words = ws; homes = hs; seats = ss; outcomes = os; calls = c.calls }) (set us i v) id n
      pub letters : (r : ℕ) (heading : Heading) (bytes : List ℕ) → get_elem? hs r ≡ some (some (Message heading bytes)) → heading.owner ≢ 0 → Past (set us i v) heading.owner heading.label.attempt × (heading.label.attempt ≤ 6)
      pub link : v.link ≡ u.link
      pub reads : (k s : ℕ) → u.link ≡ k ∷ [] → life k ≡ Some s → (u.dead ≡ true) ⊎ (u.left ≡ calls) → (v.dead ≡ true) ⊎ (v.left ≡ calls)
      pub failed : (k : ℕ) → Failed life c k → Failed life (record { words = ws; homes = hs; seats = ss; outcomes = os; calls = c.calls }) k
      pub dead : (k : ℕ) → v.link ≡ k ∷ [] → v.dead ≡ true → Failed life (record { words = ws; homes = hs; seats = ss; outcomes = os; calls = c.calls }) k
      pub own : Stored q calls c (set us i v) v.duty
      pub keeps : v.keeps ≡ false → u.keeps ≡ false

    module _ (m : Marks) where
      abbrev C : Core
      C = record { words = ws; homes = hs; seats = ss; outcomes = os; calls = c.calls }

      past_still : (id n : ℕ) → Past us id n → Past (set us i v) id n
      past_still = past_on q life calls c (record { words = ws; homes = hs; seats = ss; outcomes = os; calls = c.calls }) us i u v law at m.knows

      error_still : (id e : ℕ) → ErrorPast us id e → ErrorPast (set us i v) id e
      error_still id e p some_ = ⊎_elim (λ w. inl w) (λ a. inr (past_still id (attempt_of e) a)) (p some_)

      still_stored : (d : Duty) → Stored q calls c us d → Stored q calls (record { words = ws; homes = hs; seats = ss; outcomes = os; calls = c.calls }) (set us i v) d
      still_stored (Looking id n k o) s = (s.0, s.1, past_still id n s.2, s.3, s.4)
      still_stored _ s = tt

      own_stored : (d : Duty) → Stored q calls c (set us i v) d → Stored q calls (record { words = ws; homes = hs; seats = ss; outcomes = os; calls = c.calls }) (set us i v) d
      own_stored (Looking id n k o) s = s
      own_stored _ s = tt

      owed_still : (id n : ℕ) → id_slot id < q.slots → IsOpen c id n → Owed q life c us id n → Owed q life (record { words = ws; homes = hs; seats = ss; outcomes = os; calls = c.calls }) (set us i v) id n
      owed_still id n inside is (by_seat j w e d) = dite (ℕ_discrete j i)
          (λ here. m.owes id n inside is (subst (λ (x : Owing). DutyTo id n x.duty) (some-injective w u (sym e ∙ ap (get_elem? us) here ∙ at)) d)) (λ ne. by_seat j w (set_beside us i j v w ne e) d)
      owed_still id n inside is (by_retry j w e a) = dite (ℕ_discrete j i)
          (λ here. by_retry j v (ap (get_elem? (set us i v)) here ∙ set_at us i u v at) a) (λ ne. by_retry j w (set_beside us i j v w ne e) a)
      owed_still id n inside is (by_reader o k s j w low lives word e l left) = dite (ℕ_discrete j i)
          (λ here. let same = some-injective w u (sym e ∙ ap (get_elem? us) here ∙ at) in m.lefts id n o k s inside is low lives word (subst (λ (x : Owing). x.link ≡ k ∷ []) same l) (subst (λ (x : Owing). InList o x.left) same left))
          (λ ne. by_reader o k s j w low lives word (set_beside us i j v w ne e) l left)

      pub marked : OwingLaw q life calls (record { words = ws; homes = hs; seats = ss; outcomes = os; calls = c.calls }) (set us i v)
      marked = change q life calls c (record { words = ws; homes = hs; seats = ss; outcomes = os; calls = c.calls }) us i u v law at record {
        ended = λ id e. e;
        was = λ id n w. inr w;
        waiting = refl;
        tokens_on = λ id n j t is. inr is;
        knows = m.knows;
        learns = m.learns;
        tokens = λ id n a. inl (m.tokens id n a);
        distinct = m.distinct;
        owed = λ id n inside is. owed_still id n inside is (law.owed id n inside is);
        errors = λ id inside f s. let e = law.errors id inside f s in (error_still id (id_word_of c (id_slot id)).oldest e.0, error_still id (id_word_of c (id_slot id)).second e.1);
        letters = m.letters;
        ats = λ o low some_. past_still (call_id (at_word_slot (at_of q c o)) (at_word_first (at_of q c o))) (at_word_attempt (at_of q c o)) (law.ats o low some_);
        link = m.link;
        reads = m.reads;
        failed = m.failed;
        dead = m.dead;
        others = λ j w ne e s. still_stored w.duty s;
        own = own_stored v.duty m.own;
        keeps = m.keeps;
      }

  -- ## The moves

  -- what the table of the sockets says of a step: a life whose version is past stays so, and a reader that sets its life odd, or finds a word of another version, finds it past;
  -- a life that the seat looks at is held, so that an even version is its own; and messages at home are those of before, or the one that is put there
  pub record SockFits (call : TableStep) (found : ℕ) : Type 0 where
    pub failed : (k : ℕ) → Failed life c k → Failed life (record { words = ws; homes = hs; seats = ss; outcomes = os; calls = c.calls }) k
    pub odd : (k s : ℕ) → call ≡ OnSlot (SetOdd (socket_id_slot s)) → u.link ≡ k ∷ [] → life k ≡ Some s → Failed life (record { words = ws; homes = hs; seats = ss; outcomes = os; calls = c.calls }) k
    pub other : (k s : ℕ) → call ≡ OnSlot (AddRef s) → u.link ≡ k ∷ [] → life k ≡ Some s → vref_version found ≢ socket_id_version s → Failed life (record { words = ws; homes = hs; seats = ss; outcomes = os; calls = c.calls }) k
    pub live : (k s : ℕ) → call ≡ OnSlot (LookWord s) → life k ≡ Some s → vref_version found % 2 ≡ 0 → Failed life c k → ⊥
    pub letters : (r : ℕ) (heading : Heading) (bytes : List ℕ) → get_elem? hs r ≡ some (some (Message heading bytes)) → heading.owner ≢ 0 → Past us heading.owner heading.label.attempt × (heading.label.attempt ≤ 6)

  -- the same marks
  module _ (failed : (k : ℕ) → Failed life c k → Failed life (record { words = ws; homes = hs; seats = ss; outcomes = os; calls = c.calls }) k)
      (letters : (r : ℕ) (heading : Heading) (bytes : List ℕ) → get_elem? hs r ≡ some (some (Message heading bytes)) → heading.owner ≢ 0 → Past us heading.owner heading.label.attempt × (heading.label.attempt ≤ 6)) where
    here : (v : Owing) → ((id n : ℕ) → Among id n u.knows → Among id n v.knows) → (r : ℕ) (heading : Heading) (bytes : List ℕ) → get_elem? hs r ≡ some (some (Message heading bytes)) → heading.owner ≢ 0 → Past (set us i v) heading.owner heading.label.attempt × (heading.label.attempt ≤ 6)
    here v knows r heading bytes e some_ = let l = letters r heading bytes e some_ in (past_on q life calls c c us i u v law at knows heading.owner heading.label.attempt l.0, l.1)

    own_past : (id n : ℕ) → Among id n u.knows → Past us id n
    own_past id n a = (i, u, at, a)

    pub stored_with : (v : Owing) → ((id n : ℕ) → Among id n u.knows → Among id n v.knows) → (d : Duty) → Stored q calls c us d → Stored q calls c (set us i v) d
    stored_with v knows (Looking id n k o) s = (s.0, s.1, past_on q life calls c c us i u v law at knows id n s.2, s.3, s.4)
    stored_with v knows _ s = tt

    abbrev Known : Duty → List (ℕ × ℕ) → Owing
    Known d ks = record { duty = d; knows = ks; keeps = u.keeps; link = u.link; left = u.left; dead = u.dead }

    -- what the seat owed is owed still, where its marks are these
    abbrev Owes : Owing → Type 0
    Owes v = (id n : ℕ) → id_slot id < q.slots → IsOpen c id n → DutyTo id n u.duty → Owed q life (record { words = ws; homes = hs; seats = ss; outcomes = os; calls = c.calls }) (set us i v) id n

    -- the duty and what is known change
    known_marks : (d : Duty) (ks : List (ℕ × ℕ)) → ((id n : ℕ) → Among id n u.knows → Among id n ks) → ((id n : ℕ) → Among id n ks → Past us id n ⊎ (Among id n (duty_tokens u.duty) × (duty_tokens d ≡ [])))
        → ((id n : ℕ) → Among id n (duty_tokens d) → Among id n (duty_tokens u.duty)) → Distinct (duty_tokens d ++ retry_tokens (waiting_at c.calls.waiting i)) → Owes (Known d ks) → Stored q calls c (set us i (Known d ks)) d → Marks (Known d ks)
    known_marks d ks knows learns tokens distinct owes own = record {
      knows = knows;
      learns = learns;
      tokens = tokens;
      distinct = distinct;
      owes = owes;
      lefts = λ id n o k s inside is low lives word l left. by_reader o k s i (Known d ks) low lives word (set_at us i u (Known d ks) at) l left;
      letters = here (Known d ks) knows;
      link = refl;
      reads = λ k s l e r. r;
      failed = failed;
      dead = λ k l d. failed k (law.dead i k u at l d);
      own = own;
      keeps = λ e. e;
    }

    pub duty_marks : (d : Duty) → ((id n : ℕ) → Among id n (duty_tokens d) → Among id n (duty_tokens u.duty)) → Distinct (duty_tokens d ++ retry_tokens (waiting_at c.calls.waiting i)) → Owes (with_duty d u) → Stored q calls c (set us i (with_duty d u)) d → Marks (with_duty d u)
    duty_marks d = known_marks d u.knows (λ id n a. a) (λ id n a. inl (own_past id n a))

    pub same_marks : Marks u
    same_marks = duty_marks u.duty (λ id n a. a) (law.distinct i u at) (λ id n inside is d. by_seat i u (set_at us i u u at) d) (stored_with u (λ id n a. a) u.duty (law.stored i u at))

    tail : Distinct (retry_tokens (waiting_at c.calls.waiting i))
    tail = distinct_tail (duty_tokens u.duty) (retry_tokens (waiting_at c.calls.waiting i)) (law.distinct i u at)

    -- the seat that tried gives up, and knows that its attempt is past
    pub told_marks : (id n : ℕ) → u.duty ≡ Trying id n → Marks (with_known id n (with_duty (Telling id n) u))
    told_marks id n is = known_marks (Telling id n) ((id, n) ∷ u.knows) (λ j m a. inr a)
        (λ j m a. ⊎_elim (λ e. inr (subst (λ (d : Duty). Among j m (duty_tokens d)) (sym is) (inl e), refl)) (λ b. inl (own_past j m b)) a)
        (λ j m a. absurd a) tail (λ j m inside o d. let v : Owing = with_known id n (with_duty (Telling id n) u) in by_seat i v (set_at us i u v at) (subst (DutyTo j m) is d)) tt

    -- a reader found its life failed
    pub dead_marks : (k : ℕ) → u.link ≡ k ∷ [] → Failed life (record { words = ws; homes = hs; seats = ss; outcomes = os; calls = c.calls }) k → Marks (with_dead u)
    dead_marks k linked f = record {
      knows = λ id n a. a;
      learns = λ id n a. inl (own_past id n a);
      tokens = λ id n a. a;
      distinct = law.distinct i u at;
      owes = λ id n inside is d. by_seat i (with_dead u) (set_at us i u (with_dead u) at) d;
      lefts = λ id n o k s inside is low lives word l left. by_reader o k s i (with_dead u) low lives word (set_at us i u (with_dead u) at) l left;
      letters = here (with_dead u) (λ id n a. a);
      link = refl;
      reads = λ k s l e r. inl refl;
      failed = failed;
      dead = λ l e d. subst (λ x. Failed life (record { words = ws; homes = hs; seats = ss; outcomes = os; calls = c.calls }) x) (let z : k ∷ [] ≡ l ∷ [] = sym linked ∙ e in cc) f;
      own = stored_with (with_dead u) (λ id n a. a) u.duty (law.stored i u at);
      keeps = λ e. e;
    }

    unused_marks : (k : ℕ) → u.link ≡ k ∷ [] → life k ≡ None → Marks (with_left [] u)
    unused_marks k linked none_ = record {
      knows = λ id n a. a;
      learns = λ id n a. inl (own_past id n a);
      tokens = λ id n a. a;
      distinct = law.distinct i u at;
      owes = λ id n inside is d. by_seat i (with_left [] u) (set_at us i u (with_left [] u) at) d;
      lefts = λ id n o l s inside is low lives word e left. absurd (no_life l s e lives);
      letters = here (with_left [] u) (λ id n a. a);
      link = refl;
      reads = λ l s e lives r. absurd (no_life l s e lives);
      failed = failed;
      dead = λ l e d. failed l (law.dead i l u at e d);
      own = stored_with (with_left [] u) (λ id n a. a) u.duty (law.stored i u at);
      keeps = λ e. e;
    }
      where
        no_life : (l s : ℕ) → u.link ≡ l ∷ [] → life l ≡ Some s → ⊥
        no_life l s e lives = let z : k ∷ [] ≡ l ∷ [] = sym linked ∙ e in let y : k ≡ l = cc in let x : None ≡ Some s = sym none_ ∙ ap life y ∙ lives in cc

    -- the look found the life live: the reader of its link hasn't loaded the at word
    watched : (id n k o s : ℕ) → u.duty ≡ Looking id n k o → life k ≡ Some s → (Failed life c k → ⊥) → (j m : ℕ) → id_slot j < q.slots → IsOpen c j m → DutyTo j m u.duty → Owed q life (record { words = ws; homes = hs; seats = ss; outcomes = os; calls = c.calls }) (set us i (freed u)) j m
    watched id n k o s is lives live j m inside open_ d = let e : DutyTo j m (Looking id n k o) = subst (DutyTo j m) is d in
        let st : Stored q calls c us (Looking id n k o) = subst (Stored q calls c us) is (law.stored i u at) in
        let r = law.readers k s lives in
        subst (λ x. Owed q life (record { words = ws; homes = hs; seats = ss; outcomes = os; calls = c.calls }) (set us i (freed u)) x m) e.0 (subst (λ x. Owed q life (record { words = ws; homes = hs; seats = ss; outcomes = os; calls = c.calls }) (set us i (freed u)) id x) e.1
        (by_left (subst (λ x. id_slot x < q.slots) (sym e.0) inside) (subst (λ x. IsOpen c x n) (sym e.0) (subst (λ x. IsOpen c j x) (sym e.1) open_)) st r.0 r.1 r.2 r.3 r.4))
      where
        by_left : id_slot id < q.slots → IsOpen c id n → Stored q calls c us (Looking id n k o) → (j : ℕ) (w : Owing) → get_elem? us j ≡ some w → w.link ≡ k ∷ [] → (w.dead ≡ true) ⊎ (w.left ≡ calls) → Owed q life (record { words = ws; homes = hs; seats = ss; outcomes = os; calls = c.calls }) (set us i (freed u)) id n
        by_left inside o' st j w e l (inl d) = absurd (live (law.dead j k w e l d))
        by_left inside o' st j w e l (inr all) = let word = st.3 (inside, o'.0, (let z = o'.1 in omega (arith, z)), o'.2) in let left : InList o w.left = subst (InList o) (sym all) st.1 in dite (ℕ_discrete j i)
            (λ here. let same : w ≡ u = some-injective w u (sym e ∙ ap (get_elem? us) here ∙ at) in by_reader o k s i (freed u) st.0 lives word (set_at us i u (freed u) at) (subst (λ (x : Owing). x.link ≡ k ∷ []) same l) (subst (λ (x : Owing). InList o x.left) same left))
            (λ ne. by_reader o k s j w st.0 lives word (set_beside us i j (freed u) w ne e) l left)

  -- what a step on the sockets makes of the marks keeps the law
  pub call_moves : (call : TableStep) (found : ℕ) (v : Owing) → SockFits call found → CallMove life call found u v → OwingLaw q life calls (record { words = ws; homes = hs; seats = ss; outcomes = os; calls = c.calls }) (set us i v)
  call_moves call found v fits (stays e) = by e (marked u (same_marks fits.failed fits.letters))
    where
      by : v ≡ u → OwingLaw q life calls (record { words = ws; homes = hs; seats = ss; outcomes = os; calls = c.calls }) (set us i u) → OwingLaw q life calls (record { words = ws; homes = hs; seats = ss; outcomes = os; calls = c.calls }) (set us i v)
      by e l = subst (λ x. OwingLaw q life calls (record { words = ws; homes = hs; seats = ss; outcomes = os; calls = c.calls }) (set us i x)) (sym e) l
  call_moves call found v fits (tells id n is e) = subst (λ x. OwingLaw q life calls (record { words = ws; homes = hs; seats = ss; outcomes = os; calls = c.calls }) (set us i x)) (sym e) (marked (with_known id n (with_duty (Telling id n) u)) (told_marks fits.failed fits.letters id n is))
  call_moves call found v fits (tells_late id n k o is e) = subst (λ x. OwingLaw q life calls (record { words = ws; homes = hs; seats = ss; outcomes = os; calls = c.calls }) (set us i x)) (sym e) (marked (with_duty (Telling id n) u) (duty_marks fits.failed fits.letters (Telling id n) (λ j m a. absurd a) (tail fits.failed fits.letters)
      (λ j m inside o' d. by_seat i (with_duty (Telling id n) u) (set_at us i u (with_duty (Telling id n) u) at) (subst (DutyTo j m) is d)) tt))
  call_moves call found v fits (links id n slot h is_call is e) = subst (λ x. OwingLaw q life calls (record { words = ws; homes = hs; seats = ss; outcomes = os; calls = c.calls }) (set us i x)) (sym e) (marked (with_duty (Linked id n found) u) (duty_marks fits.failed fits.letters (Linked id n found) (λ j m a. subst (λ (d : Duty). Among j m (duty_tokens d)) (sym is) a)
      (subst (λ (d : Duty). Distinct (duty_tokens d ++ retry_tokens (waiting_at c.calls.waiting i))) is (law.distinct i u at))
      (λ j m inside o' d. by_seat i (with_duty (Linked id n found) u) (set_at us i u (with_duty (Linked id n found) u) at) (subst (DutyTo j m) is d)) tt))
  call_moves call found v fits (looks id n k o s is_call lives is even e) = subst (λ x. OwingLaw q life calls (record { words = ws; homes = hs; seats = ss; outcomes = os; calls = c.calls }) (set us i x)) (sym e) (marked (freed u) (duty_marks fits.failed fits.letters Free (λ j m a. absurd a) (tail fits.failed fits.letters)
      (watched fits.failed fits.letters id n k o s is lives (fits.live k s is_call lives even)) tt))
  call_moves call found v fits (fails k s is_call linked lives e) = subst (λ x. OwingLaw q life calls (record { words = ws; homes = hs; seats = ss; outcomes = os; calls = c.calls }) (set us i x)) (sym e) (marked (with_dead u) (dead_marks fits.failed fits.letters k linked (fits.odd k s is_call linked lives)))
  call_moves call found v fits (gone k s is_call linked lives ne e) = subst (λ x. OwingLaw q life calls (record { words = ws; homes = hs; seats = ss; outcomes = os; calls = c.calls }) (set us i x)) (sym e) (marked (with_dead u) (dead_marks fits.failed fits.letters k linked (fits.other k s is_call linked lives ne)))
  call_moves call found v fits (unused k o is_call linked none_ e) = subst (λ x. OwingLaw q life calls (record { words = ws; homes = hs; seats = ss; outcomes = os; calls = c.calls }) (set us i x)) (sym e) (marked (with_left [] u) (unused_marks fits.failed fits.letters k linked none_))
