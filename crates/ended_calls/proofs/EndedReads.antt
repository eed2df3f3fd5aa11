-- A reader posts errors only behind the end of its reading, and for at words that it loaded which name its link.
use Rattle.std.proofs.Common.{◌≡◌, ◌≢◌, ℕ, ◌+◌, ◌-◌, ◌==◌, ◌&&◌, ◌⊎◌, inl, inr, not, nat_lt, ltb-false, eqb-true, eq-eqb, Bool, true, false, cond, List, [], ◌∷◌, ◌++◌, length, length-append, append-nil, refl, sym, ap, ◌∙◌, subst, arith}
use Rattle.std.proofs.lemmas.Bool.{true≢false}
use Rattle.std.proofs.lemmas.List.Concat.{flat_map-append}
use Rattle.sock_words.specs.PackedWords.{at_word_first, at_word_slot, at_word_link, at_word_attempt, call_id, id_slot, id_first, NO_SOCKET}
use Rattle.refused_attempts.specs.attempted_calls.specs.Below.sock_steps.proofs.SumsAsMarksChange.{either_way}
use Rattle.corr_core.specs.IdSlotWord.{parts, posted_word, code_of, error_of}
use Rattle.seat_programs.specs.brpc_model.specs.Frame.{Frame}
use Rattle.seat_programs.specs.brpc_model.specs.FrameStream as streams
use Rattle.refused_attempts.specs.attempted_calls.specs.Below.label_runs.proofs.LoopsOfKnownSeats.{id_back, not_true, and_left}
use Rattle.seat_programs.specs.Asides.{Step, Found, LoadAt, PostId, TakeBytes, Taking, Bytes, Nothing, NoMore, AtEnd, Closed, Broken}
use Rattle.seat_programs.specs.LoopHeads.{Head, Exit, Retry, Reading, Posts, Unlocks, Decides, Locks, Joins, Opens, Reads, Discards, Posting, WasGone, WasStale, WasCrowded, WasQueued, HasLocked, Ended}
use Rattle.seat_programs.specs.Programs.{Program, Do, Say, Sent, Rest, TakeMessage, TakeHome, PutHome, PutBytes, AskReady, Write, Aside, Round, Keep, Retries}
use Rattle.seat_programs.specs.PostPrograms.{packed, is_first, is_stale, is_full, judged, posts_round, post_with}
use Rattle.seat_programs.specs.ReaderProgram.{LIMIT, last_of, ended_by, read_on, took, discarded, posted_last, post_each, thrown_away, read, reader}
use Rattle.seat_programs.specs.LoopRounds.{round, first_step}
use Rattle.seat_programs.specs.Cores.{resolved, next_step}
use Rattle.refused_attempts.specs.attempted_calls.specs.Below.outcome_stories.specs.OperationStories.{In}
use Rattle.refused_attempts.specs.attempted_calls.specs.Below.outcome_causes.proofs.PlainOutcomeCauses.{in_left}
use Rattle.refused_attempts.specs.attempted_calls.specs.Below.run_theorems.specs.Heard.{bytes_found, given_by}
use Rattle.refused_attempts.specs.attempted_calls.specs.Below.programs_allowed.specs.program_walks.proofs.Through.{PassesLocked, PassesWords, is_of_id, is_of_lock, through_set_failed}
use Rattle.refused_attempts.specs.attempted_calls.specs.Below.programs_allowed.specs.program_walks.proofs.ThroughLoops.{through_unlocks, through_decides, through_locks, through_joins, through_answer, through_responses, through_opens}
use Rattle.refused_attempts.specs.attempted_calls.specs.Below.programs_allowed.specs.program_walks.proofs.ThroughCalls.{through_posted_last, through_read_end}
use Rattle.seat_programs.specs.brpc_model.specs.LinkFailureCauses.{HasFault}
use Rattle.refused_attempts.specs.attempted_calls.specs.Below.call_stories.proofs.StreamFramesStay.{faults_more, faults_follow, tied_more}
use Rattle.refused_attempts.specs.attempted_calls.specs.accept_counts.proofs.Closers.{gave_more, gave_none, last_in}
use Rattle.refused_attempts.specs.attempted_calls.specs.accept_counts.proofs.EarlyClosedSockets.{EndedBy, ended_more}

-- ## How a reading ends

-- with this code, by these takes
abbrev pub WasOver : ℕ → List Taking → Type 0
WasOver code h = ((code ≡ 1014) × (EndedBy h ⊎ (In Closed h ⊎ In NoMore h))) ⊎ ((code ≡ 2002) × HasFault (given_by h))

pub over_more : (code : ℕ) (h later : List Taking) → WasOver code h → WasOver code (h ++ later)
over_more code h later (inl (e, inl x)) = inl (e, inl (ended_more h later x))
over_more code h later (inl (e, inr (inl x))) = inl (e, inr (inl (in_left h later Closed x)))
over_more code h later (inl (e, inr (inr x))) = inl (e, inr (inr (in_left h later NoMore x)))
over_more code h later (inr (e, f)) = inr (e, subst HasFault (sym (flat_map-append bytes_found h later)) (faults_more (given_by h) (given_by later) f))

-- ## Programs

-- of the reader of link k; `At o w` tells that it loaded the at word w of operation o
module _ (k : ℕ) (At : ℕ → ℕ → Type 0) where
  pub record IsReading (h : List Taking) (r : Reading) : Type 0 where
    pub link : r.link ≡ k
    pub total : r.total ≡ length (given_by h)
    pub tied : (more : List ℕ) → HasFault (r.rest ++ more) → HasFault (given_by h ++ more)

  abbrev pub EndsSo : List Taking → Ended → Type 0
  EndsSo h how = WasOver how.code h × (how.reading.link ≡ k)

  -- behind these takes the reader may post the error to the id
  pub record MayPost (h : List Taking) (id e : ℕ) : Type 0 where
    pub operation : ℕ
    pub word : ℕ
    pub code : ℕ
    pub loaded : At operation word
    pub some_ : word ≢ 0
    pub link : at_word_link word ≡ k
    pub id_is : id ≡ call_id (at_word_slot word) (at_word_first word)
    pub error_is : e ≡ error_of code (at_word_attempt word)
    pub over : WasOver code h

  -- behind these takes
  abbrev pub Tells : List Taking → Program → Type 0
  Tells h (Do call next) = (found : ℕ) → Tells h (next found)
  Tells h (Say o outcome next) = Tells h next
  Tells h (Sent o next) = Tells h next
  Tells h Rest = Unit {0}
  Tells h (TakeMessage q next) = ⊥
  Tells h (TakeHome l next) = ⊥
  Tells h (PutHome l n after) = ⊥
  Tells h (PutBytes l asked bytes next) = ⊥
  Tells h (AskReady l next) = ⊥
  Tells h (Write w after) = ⊥
  Tells h (Aside (TakeBytes l room) next) = (l ≡ k) × ((t : Taking) → Tells (h ++ t ∷ []) (next t))
  Tells h (Aside (LoadAt o) next) = (w : ℕ) → At o w → Tells h (next w)
  Tells h (Aside (PostId i from e) next) = MayPost h (call_id i (parts from).first) e × ((found : ℕ) → Tells h (next found))
  Tells h (Aside step next) = (found : Found step) → Tells h (next found)
  Tells h (Round (Posts id e w) next) = MayPost h id e × ((parts w).first ≡ id_first id) × ((exit : Posting) → Tells h (next exit))
  Tells h (Round (Reads r) next) = IsReading h r × ((how : Ended) (h' : List Taking) → EndsSo h' how → Tells h' (next how))
  Tells h (Round (Discards l total) next) = (l ≡ k) × ((n : ℕ) (h' : List Taking) → Tells h' (next n))
  Tells h (Round head next) = (exit : Exit head) → Tells h (next exit)
  Tells h (Keep r next) = Tells h next
  Tells h (Retries requests after) = ⊥

  pub post_more : (h later : List Taking) (id e : ℕ) → MayPost h id e → MayPost (h ++ later) id e
  post_more h later id e x = record { operation = x.operation; word = x.word; code = x.code; loaded = x.loaded; some_ = x.some_; link = x.link; id_is = x.id_is; error_is = x.error_is; over = over_more x.code h later x.over }

  -- ## Parts of programs

  module _ (h : List Taking) where
    abbrev C : Program → Type 0
    C = Tells h

    way : (b : Bool) (x y : Program) → (b ≡ true → C x) → (b ≡ false → C y) → C (cond b x y)
    way true x y f g = f refl
    way false x y f g = g refl

    asides : (step : Step) (next : Found step → Program) → is_of_id step ≡ true → ((found : Found step) → C (next found)) → C (Aside step next)
    asides (TakeBytes l room) next is x = absurd (true≢false (sym is))
    asides (LoadAt o) next is x = absurd (true≢false (sym is))
    asides (PostId i from e) next is x = absurd (true≢false (sym is))
    asides step next is x = x

    rounds : (head : Head) (next : Exit head → Program) → is_of_lock head ≡ true → ((exit : Exit head) → C (next exit)) → C (Round head next)
    rounds (Unlocks i w advance) next is x = x
    rounds (Decides id asked w e) next is x = x
    rounds _ next is x = absurd (true≢false (sym is))

    tell_locked : PassesLocked C
    tell_locked = record { say = λ o outcome next x. x; aside = asides; round = rounds; again = λ id w next kept is x exit. subst C (sym (is exit)) (x exit) }

    tell_words : PassesWords C
    tell_words = record { step = λ call next is x. x; say = λ o outcome next x. x }

    tell_judged : (id e found : ℕ) (next : Posting → Program) → MayPost h id e → ((x : Posting) → C (next x)) → C (judged id e found next)
    tell_judged id e found next may after = let two : Program = cond (is_full (parts found)) (next (WasCrowded (code_of (parts found).oldest) (code_of (parts found).second))) (Round (Posts id e found) next) in
        way (not (is_first (id_first id) (parts found))) (next WasGone) (cond (is_stale e (parts found)) (next WasStale) two) (λ _. after WasGone)
        (λ here. either_way (is_stale e (parts found)) (next WasStale) two C (after WasStale)
        (either_way (is_full (parts found)) (next (WasCrowded (code_of (parts found).oldest) (code_of (parts found).second))) (Round (Posts id e found) next) C (after (WasCrowded (code_of (parts found).oldest) (code_of (parts found).second)))
        (may, eqb-true (parts found).first (id_first id) (and_left ((parts found).first == id_first id) (not ((parts found).state == 0)) (not_true (is_first (id_first id) (parts found)) here)), after)))

    tell_posts : (id e from : ℕ) (next : Posting → Program) → MayPost h id e → (parts from).first ≡ id_first id → ((x : Posting) → C (next x)) → C (posts_round id e from next)
    tell_posts id e from next may first after = (
      subst (λ x. MayPost h x e) (sym (ap (call_id (id_slot id)) first ∙ id_back id)) may,
      λ found. either_way (found == from) (cond ((parts from).state == 1) (next (HasLocked (packed (posted_word (parts from) e)))) (next WasQueued)) (judged id e found next) C
          (either_way ((parts from).state == 1) (next (HasLocked (packed (posted_word (parts from) e)))) (next WasQueued) C (after (HasLocked (packed (posted_word (parts from) e)))) (after WasQueued)) (tell_judged id e found next may after),
    )

    tell_post_with : (id e : ℕ) (next : Posting → Program) → MayPost h id e → ((x : Posting) → C (next x)) → C (post_with id e next)
    tell_post_with id e next may after = (λ found. tell_judged id e found next may after)

    tell_post_each : (os : List ℕ) (c : ℕ) (kept : List Frame) (next : Program) → WasOver c h → C next → C (post_each os k c kept next)
    tell_post_each [] c kept next over after = after
    tell_post_each (o ∷ os) c kept next over after = λ w at. (let id : ℕ = call_id (at_word_slot w) (at_word_first w) in let e : ℕ = error_of c (at_word_attempt w) in
        let more : C (post_each os k c kept next) = tell_post_each os c kept next over after in
        way (w == 0) (post_each os k c kept next) (cond (at_word_link w == k) (post_with (call_id (at_word_slot w) (at_word_first w)) (error_of c (at_word_attempt w)) (posted_last (call_id (at_word_slot w) (at_word_first w)) (error_of c (at_word_attempt w)) kept (post_each os k c kept next))) (post_each os k c kept next))
        (λ _. more)
        (λ some_. way (at_word_link w == k) (post_with (call_id (at_word_slot w) (at_word_first w)) (error_of c (at_word_attempt w)) (posted_last (call_id (at_word_slot w) (at_word_first w)) (error_of c (at_word_attempt w)) kept (post_each os k c kept next))) (post_each os k c kept next)
        (λ own. tell_post_with (call_id (at_word_slot w) (at_word_first w)) (error_of c (at_word_attempt w)) (posted_last (call_id (at_word_slot w) (at_word_first w)) (error_of c (at_word_attempt w)) kept (post_each os k c kept next))
        (record { operation = o; word = w; code = c; loaded = at; some_ = λ z. true≢false (sym (eq-eqb w 0 z) ∙ some_); link = eqb-true (at_word_link w) k own; id_is = refl; error_is = refl; over = over })
        (through_posted_last C tell_locked (call_id (at_word_slot w) (at_word_first w)) (error_of c (at_word_attempt w)) kept (post_each os k c kept next) more))
        (λ _. more)))

    thrown_tells : (how : Ended) → how.reading.link ≡ k → C (thrown_away how)
    thrown_tells how own = either_way (how.fault && nat_lt how.reading.total LIMIT) (Round (Discards how.reading.link how.reading.total) (λ _. Rest)) Rest C (own, λ n h'. tt) tt

    -- the end of a reading
    read_tells : (calls : List ℕ) (how : Ended) → EndsSo h how → C (read calls how)
    read_tells calls how e = through_read_end C tell_words calls how (through_set_failed C tell_words (λ call next is x. x) how.code)
        (subst (λ l. C (post_each calls l how.code how.reading.kept (thrown_away how))) (sym e.1) (tell_post_each calls how.code how.reading.kept (thrown_away how) e.0 (thrown_tells how e.1)))

  -- ## Reading

  abbrev Goes : (Ended → Program) → Type 0
  Goes next = (how : Ended) (h' : List Taking) → EndsSo h' how → Tells h' (next how)

  module _ (h : List Taking) (r : Reading) (next : Ended → Program) (at : IsReading h r) (goes : Goes next) where
    abbrev with_more : List ℕ → List Frame → Reading
    with_more bytes kept = record { ids = r.ids; link = r.link; id = r.id; rest = r.rest; total = r.total + length bytes; kept = kept }

    more_total : (bytes : List ℕ) → r.total + length bytes ≡ length (given_by (h ++ Bytes bytes ∷ []))
    more_total bytes = let a = at.total in let b = ap length (gave_more h bytes) in let d = length-append (given_by h) bytes in omega (arith, a, b, d)

    -- a fault of the rest with what came is one of all that came
    all_tied : (bytes more : List ℕ) → HasFault ((r.rest ++ bytes) ++ more) → HasFault (given_by (h ++ Bytes bytes ∷ []) ++ more)
    all_tied bytes more f = subst (λ l. HasFault (l ++ more)) (sym (gave_more h bytes)) (tied_more r.rest (given_by h) bytes more at.tied f)

    abbrev with_rest : List ℕ → List Frame → ℕ → Reading
    with_rest bytes kept n = record { ids = r.ids; link = r.link; id = r.id; rest = last_of n (r.rest ++ bytes); total = r.total + length bytes; kept = kept }

    tell_read_on : (kept : List Frame) (bytes : List ℕ) (s : streams.Ending) → (streams.stream (r.rest ++ bytes)).ending ≡ s → Tells (h ++ Bytes bytes ∷ []) (read_on (with_more bytes kept) (r.rest ++ bytes) s next)
    tell_read_on kept bytes (streams.Rest n) is = way (h ++ Bytes bytes ∷ []) (nat_lt (r.total + length bytes) LIMIT) (Round (Reads (with_rest bytes kept n)) next) (next (ended_by 1014 false false (with_rest bytes kept n)))
        (λ less. (record { link = at.link; total = more_total bytes; tied = λ more f. all_tied bytes more (faults_follow (r.rest ++ bytes) more n is f) }, goes))
        (λ most. goes (ended_by 1014 false false (with_rest bytes kept n)) (h ++ Bytes bytes ∷ []) (inl (refl, inl (inr (inr (inl (let l = ltb-false (r.total + length bytes) LIMIT most in let t = more_total bytes in omega (arith, l, t)))))), at.link))
    tell_read_on kept bytes (streams.Fault start fault) is = goes (ended_by 2002 false true (with_more bytes kept)) (h ++ Bytes bytes ∷ [])
        (inr (refl, subst HasFault (append-nil (given_by (h ++ Bytes bytes ∷ []))) (all_tied bytes [] (subst HasFault (sym (append-nil (r.rest ++ bytes))) (start, fault, is)))), at.link)

    tell_took : (t : Taking) → Tells (h ++ t ∷ []) (took r next t)
    tell_took (Bytes bytes) = through_responses (Tells (h ++ Bytes bytes ∷ [])) (λ i v next' x. x) (through_answer (Tells (h ++ Bytes bytes ∷ [])) (tell_locked (h ++ Bytes bytes ∷ []))) r.ids (streams.stream (r.rest ++ bytes)).frames r.kept (λ kept. read_on (with_more bytes kept) (r.rest ++ bytes) (streams.stream (r.rest ++ bytes)).ending next)
        (λ kept. tell_read_on kept bytes (streams.stream (r.rest ++ bytes)).ending refl)
    tell_took Nothing = (
      record { link = at.link; total = at.total ∙ ap length (sym (gave_none h Nothing refl)); tied = λ more f. subst (λ l. HasFault (l ++ more)) (sym (gave_none h Nothing refl)) (at.tied more f) },
      goes,
    )
    tell_took NoMore = goes (ended_by 1014 false false r) (h ++ NoMore ∷ []) (inl (refl, inr (inr (last_in h NoMore))), at.link)
    tell_took AtEnd = goes (ended_by 1014 false false r) (h ++ AtEnd ∷ []) (inl (refl, inl (inl (last_in h AtEnd))), at.link)
    tell_took Closed = goes (ended_by 1014 true false r) (h ++ Closed ∷ []) (inl (refl, inr (inl (last_in h Closed))), at.link)
    tell_took Broken = goes (ended_by 1014 false false r) (h ++ Broken ∷ []) (inl (refl, inl (inr (inr (inr (last_in h Broken))))), at.link)

  tell_discarded : (h : List Taking) (l total : ℕ) (next : ℕ → Program) → l ≡ k → ((n : ℕ) (h' : List Taking) → Tells h' (next n)) → (t : Taking) → Tells (h ++ t ∷ []) (discarded l total next t)
  tell_discarded h l total next own goes (Bytes bytes) = either_way (nat_lt (total + length bytes) LIMIT) (Round (Discards l (total + length bytes)) next) (next (total + length bytes)) (Tells (h ++ Bytes bytes ∷ [])) (own, goes) (goes (total + length bytes) (h ++ Bytes bytes ∷ []))
  tell_discarded h l total next own goes Nothing = (own, goes)
  tell_discarded h l total next own goes NoMore = goes total (h ++ NoMore ∷ [])
  tell_discarded h l total next own goes AtEnd = goes total (h ++ AtEnd ∷ [])
  tell_discarded h l total next own goes Closed = goes total (h ++ Closed ∷ [])
  tell_discarded h l total next own goes Broken = goes total (h ++ Broken ∷ [])

  -- one round of a loop
  tell_round : (h : List Taking) (head : Head) (next : Exit head → Program) → Tells h (Round head next) → Tells h (round head next)
  tell_round h (Posts i e w) next x = tell_posts h i e w next x.0 x.1 x.2
  tell_round h (Unlocks i w advance) next x = through_unlocks (Tells h) (tell_locked h) i w advance next x
  tell_round h (Decides i asked w e) next x = through_decides (Tells h) (tell_locked h) i asked w e next x
  tell_round h (Locks i sought w) next x = through_locks (Tells h) (tell_locked h) (λ i sought w next y. y) i sought w next x
  tell_round h (Joins i) next x = through_joins (Tells h) (tell_locked h) (λ id next y. y) i next x
  tell_round h (Opens o) next x = through_opens (Tells h) (record { load = λ o next y. y; wait = λ o next y. y }) o next x
  tell_round h (Reads r) next x = let at = x.0 in (at.link, λ t. tell_took h r next at x.1 t)
  tell_round h (Discards l total) next x = (x.0, λ t. tell_discarded h l total next x.0 x.1 t)

  pub tell_first : (h : List Taking) (program : Program) → Tells h program → Tells h (first_step program)
  tell_first h (Write w after) x = absurd x
  tell_first h (Round head next) x = tell_round h head next x
  tell_first h _ x = x

  pub tell_next : (h : List Taking) (ws : List Retry) (program : Program) → Tells h program → Tells h (next_step (resolved ws program))
  tell_next h ws (Say o outcome next) x = tell_next h ws next x
  tell_next h ws (Sent o next) x = tell_next h ws next x
  tell_next h ws (Keep r next) x = tell_next h (ws ++ r ∷ []) next x
  tell_next h ws (Do call next) x = x
  tell_next h ws Rest x = x
  tell_next h ws (Aside step next) x = x
  tell_next h ws (Round head next) x = x
  tell_next h ws _ x = absurd x

  -- the reader's program
  pub reader_tells : (calls : List ℕ) (o : ℕ) → Tells [] (reader calls k o)
  reader_tells calls o = λ word. either_way (word == NO_SOCKET) Rest (Round (Reads (record { ids = length calls; link = k; id = word - 1; rest = []; total = 0; kept = [] })) (read calls)) (Tells []) tt
      (record { link = refl; total = refl; tied = λ more f. f }, λ how h' e. read_tells h' calls how e)
