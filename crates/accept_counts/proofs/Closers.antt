-- A reader sets its socket failed only where the reading of its link ended, with the code of that end; it exchanges no head, and takes bytes of its own link alone.
use Rattle.std.proofs.Common.{◌≡◌, ℕ, ◌+◌, ◌%◌, ◌≤◌, ◌==◌, ◌&&◌, ◌⊎◌, inl, inr, nat_lt, ltb-false, Bool, true, false, cond, List, [], ◌∷◌, ◌++◌, length, length-append, append-nil, refl, sym, ap, ◌∙◌, subst, arith}
use Rattle.std.proofs.lemmas.Bool.{true≢false}
use Rattle.std.proofs.lemmas.List.Concat.{flat_map-append}
use Rattle.std.specs.Prelude.{Some, None}
use Rattle.sock_words.specs.PackedWords.{socket_id_version, socket_id_slot, vref_version, id_slot}
use Rattle.run_theorems.specs.Below.sock_steps.proofs.SumsAsMarksChange.{either_way}
use Rattle.corr_core.specs.IdSlotWord.{parts, code_of}
use Rattle.corr_core.specs.EndedByRangeOrAttempt.{ends_call}
use Rattle.seat_programs.specs.brpc_model.specs.Frame.{Frame}
use Rattle.seat_programs.specs.brpc_model.specs.FrameStream as streams
use Rattle.seat_programs.specs.TableSteps.{TableStep, OnSlot, OnName, OnChain, SetOdd, StoreCode, AddRef, SwapHead, CreateLife, StoreOpen}
use Rattle.seat_programs.specs.Asides.{Step, Found, TakeBytes, Taking, Bytes, Nothing, NoMore, AtEnd, Closed, Broken}
use Rattle.seat_programs.specs.LoopHeads.{Head, Exit, Retry, Reading, Posts, Unlocks, Decides, Locks, Joins, Opens, Reads, Discards, HasEnded, Ended}
use Rattle.seat_programs.specs.Programs.{Program, Do, Say, Sent, Rest, Write, Aside, Round, Keep, Retries, release, add_reference, set_failed}
use Rattle.seat_programs.specs.ReaderProgram.{LIMIT, last_of, ended_by, read_on, took, discarded, post_each, thrown_away, read}
use Rattle.seat_programs.specs.LoopRounds.{round, first_step}
use Rattle.seat_programs.specs.Cores.{resolved, next_step}
use Rattle.call_causes.specs.Below.outcome_stories.specs.OperationStories.{In}
use Rattle.outcome_causes.proofs.PlainOutcomeCauses.{in_left, in_right}
use Rattle.run_theorems.specs.Heard.{bytes_found, given_by}
use Rattle.outcome_causes.specs.program_walks.proofs.Through.{PassesErrors, is_freeing, is_plain_aside, by_errors, locked, given_release}
use Rattle.outcome_causes.specs.program_walks.proofs.ThroughLoops.{through_errors, through_end_id, through_advance, through_locks, through_joins, through_answer, through_responses}
use Rattle.outcome_causes.specs.program_walks.proofs.ThroughCalls.{through_post_each}
use Rattle.seat_programs.specs.brpc_model.specs.LinkFailureCauses.{HasFault}
use Rattle.call_causes.specs.call_stories.proofs.StreamFramesStay.{faults_more, faults_follow, tied_more}

-- ## What takes gave

pub gave_more : (h : List Taking) (bytes : List ℕ) → given_by (h ++ Bytes bytes ∷ []) ≡ given_by h ++ bytes
gave_more h bytes = flat_map-append bytes_found h (Bytes bytes ∷ []) ∙ ap (λ l. given_by h ++ l) (append-nil bytes)

pub gave_none : (h : List Taking) (t : Taking) → bytes_found t ≡ [] → given_by (h ++ t ∷ []) ≡ given_by h
gave_none h t e = flat_map-append bytes_found h (t ∷ []) ∙ ap (λ l. given_by h ++ (l ++ [])) e ∙ append-nil (given_by h)

-- the code with which a reading ends that wasn't closed, by these takes
abbrev pub Codes : List Taking → ℕ → Type 0
Codes h code = ((code ≡ 1014) × (In AtEnd h ⊎ (In Broken h ⊎ (In NoMore h ⊎ (LIMIT ≤ length (given_by h)))))) ⊎ ((code ≡ 2002) × HasFault (given_by h))

pub codes_more : (h later : List Taking) (code : ℕ) → Codes h code → Codes (h ++ later) code
codes_more h later code (inl (e, inl m)) = inl (e, inl (in_left h later AtEnd m))
codes_more h later code (inl (e, inr (inl m))) = inl (e, inr (inl (in_left h later Broken m)))
codes_more h later code (inl (e, inr (inr (inl m)))) = inl (e, inr (inr (inl (in_left h later NoMore m))))
codes_more h later code (inl (e, inr (inr (inr l)))) = inl (e, inr (inr (inr (let z : length (given_by (h ++ later)) ≡ length (given_by h) + length (given_by later) = ap length (flat_map-append bytes_found h later) ∙ length-append (given_by h) (given_by later) in omega (arith, z, l)))))
codes_more h later code (inr (e, f)) = inr (e, subst HasFault (sym (flat_map-append bytes_found h later)) (faults_more (given_by h) (given_by later) f))

-- by these takes a reading has ended
abbrev pub IsOver : List Taking → Type 0
IsOver h = (In AtEnd h ⊎ (HasFault (given_by h) ⊎ ((LIMIT ≤ length (given_by h)) ⊎ In Broken h))) ⊎ (In Closed h ⊎ In NoMore h)

pub over_more : (h later : List Taking) → IsOver h → IsOver (h ++ later)
over_more h later (inl (inl m)) = inl (inl (in_left h later AtEnd m))
over_more h later (inl (inr (inl f))) = inl (inr (inl (subst HasFault (sym (flat_map-append bytes_found h later)) (faults_more (given_by h) (given_by later) f))))
over_more h later (inl (inr (inr (inl l)))) = inl (inr (inr (inl (let z : length (given_by (h ++ later)) ≡ length (given_by h) + length (given_by later) = ap length (flat_map-append bytes_found h later) ∙ length-append (given_by h) (given_by later) in omega (arith, z, l)))))
over_more h later (inl (inr (inr (inr m)))) = inl (inr (inr (inr (in_left h later Broken m))))
over_more h later (inr (inl m)) = inr (inl (in_left h later Closed m))
over_more h later (inr (inr m)) = inr (inr (in_left h later NoMore m))

pub last_in : (h : List Taking) (t : Taking) → In t (h ++ t ∷ [])
last_in h t = in_right h (t ∷ []) t (inl refl)

-- ## Programs

-- of the reader of link k, whose socket has this id: whoever took this may set the socket failed where Odd says so; that nothing more comes is found where Lasts says so
module _ (k id : ℕ) (Odd : List Taking → Type 0) (Lasts : Type 0) where
  pub record IsReading (h : List Taking) (r : Reading) : Type 0 where
    pub link : r.link ≡ k
    pub own : r.id ≡ id
    pub total : r.total ≡ length (given_by h)
    pub tied : (more : List ℕ) → HasFault (r.rest ++ more) → HasFault (given_by h ++ more)

  abbrev pub EndsSo : List Taking → Ended → Type 0
  EndsSo h how = (how.closed ≡ false → Odd h × Codes h how.code) × (how.reading.link ≡ k) × (how.reading.id ≡ id) × IsOver h

  -- behind these takes, where the seat has just got a reference to the life or not
  abbrev pub Calm : Bool → List Taking → Program → Type 0
  Calm held h (Do (OnSlot (SetOdd i)) next) = (held ≡ true) × Odd h × (i ≡ socket_id_slot id) × ((found : ℕ) → Calm false h (next found))
  Calm held h (Do (OnSlot (StoreCode i v code)) next) = Codes h code × (i ≡ socket_id_slot id) × (v ≡ socket_id_version id) × ((found : ℕ) → Calm false h (next found))
  Calm held h (Do (OnSlot (AddRef x)) next) = (x ≡ id) × ((found : ℕ) → Calm (vref_version found == socket_id_version id) h (next found))
  Calm held h (Do (OnChain (SwapHead i own)) next) = ⊥
  Calm held h (Do (OnSlot (CreateLife i l)) next) = ⊥
  Calm held h (Do (OnName (StoreOpen o w)) next) = ⊥
  Calm held h (Do call next) = (found : ℕ) → Calm false h (next found)
  Calm held h (Say o outcome next) = Calm held h next
  Calm held h (Sent o next) = Calm held h next
  Calm held h Rest = IsOver h
  Calm held h (Aside (TakeBytes l room) next) = (l ≡ k) × ((t : Taking) → (t ≡ NoMore → Lasts) → Calm false (h ++ t ∷ []) (next t))
  Calm held h (Aside step next) = (found : Found step) → Calm false h (next found)
  Calm held h (Round (Opens o) next) = ⊥
  Calm held h (Round (Reads r) next) = IsReading h r × ((how : Ended) (h' : List Taking) → EndsSo h' how → Calm false h' (next how))
  Calm held h (Round (Discards l total) next) = (l ≡ k) × IsOver h × ((n : ℕ) (h' : List Taking) → IsOver h' → Calm false h' (next n))
  Calm held h (Round head next) = (exit : Exit head) → Calm false h (next exit)
  Calm held h (Keep r next) = Calm held h next
  Calm held h other = ⊥

  -- ## Parts of programs

  module _ (h : List Taking) where
    abbrev C : Program → Type 0
    C = Calm false h

    frees : (call : TableStep) (next : ℕ → Program) → is_freeing call ≡ true → ((found : ℕ) → C (next found)) → C (Do call next)
    frees (OnSlot (SetOdd i)) next is x = absurd (true≢false (sym is))
    frees (OnSlot (StoreCode i v code)) next is x = absurd (true≢false (sym is))
    frees (OnSlot (AddRef y)) next is x = absurd (true≢false (sym is))
    frees (OnChain (SwapHead i own)) next is x = absurd (true≢false (sym is))
    frees (OnSlot (CreateLife i l)) next is x = absurd (true≢false (sym is))
    frees (OnName (StoreOpen o w)) next is x = absurd (true≢false (sym is))
    frees call next is x = x

    asides : (step : Step) (next : Found step → Program) → is_plain_aside step ≡ true → ((found : Found step) → C (next found)) → C (Aside step next)
    asides (TakeBytes l room) next is x = absurd (true≢false (sym is))
    asides step next is x = x

    calm_errors : PassesErrors C
    calm_errors = record { say = λ o outcome next x. x; aside = asides; round = by_errors C (λ id e w next r. r) (λ i w advance next r. r) (λ id asked w e next r. r); again = λ i w next kept is x exit. subst C (sym (is exit)) (x exit) }

    address_calm : (held : Program) (gone : ℕ → Program) → Calm true h held → ((found : ℕ) → C (gone found)) → C (add_reference id held gone)
    address_calm held gone goes after = (refl, λ found. by found (vref_version found == socket_id_version id))
      where
        by : (found : ℕ) (b : Bool) → Calm b h (cond b held (release (socket_id_slot id) (λ _. gone found)))
        by found true = goes
        by found false = given_release C frees (socket_id_slot id) (λ _. gone found) (λ _. after found)

    set_failed_calm : (code : ℕ) (next : ℕ → Program) → Odd h × Codes h code → ((found : ℕ) → C (next found)) → Calm true h (set_failed id code next)
    set_failed_calm code next codes after = (refl, codes.0, refl, λ found. either_way (vref_version found % 2 == 0) _ _ C (codes.1, refl, refl, λ _ _. after found) (after found))

    thrown_calm : (how : Ended) → how.reading.link ≡ k → IsOver h → C (thrown_away how)
    thrown_calm how own over = either_way (how.fault && nat_lt how.reading.total LIMIT) (Round (Discards how.reading.link how.reading.total) (λ _. Rest)) Rest C (own, over, λ n h' ended. ended) over

    abbrev last_posts : List ℕ → Ended → Program
    last_posts calls how = post_each calls how.reading.link how.code how.reading.kept (thrown_away how)

    -- the end of a reading
    read_calm : (calls : List ℕ) (how : Ended) → EndsSo h how → C (read calls how)
    read_calm calls how e = by how.closed refl
      where
        lasts : C (last_posts calls how)
        lasts = through_post_each C calm_errors calls how.reading.link how.code how.reading.kept (thrown_away how) (thrown_calm how e.1 e.3)

        by : (b : Bool) → how.closed ≡ b → C (cond b (last_posts calls how) (add_reference how.reading.id (set_failed how.reading.id how.code (λ _. release (socket_id_slot how.reading.id) (λ _. (last_posts calls how)))) (λ _. (last_posts calls how))))
        by true is = lasts
        by false is = subst (λ x. C (add_reference x (set_failed x how.code (λ _. release (socket_id_slot x) (λ _. (last_posts calls how)))) (λ _. (last_posts calls how)))) (sym e.2)
            (address_calm (set_failed id how.code (λ _. release (socket_id_slot id) (λ _. (last_posts calls how)))) (λ _. (last_posts calls how))
            (set_failed_calm how.code (λ _. release (socket_id_slot id) (λ _. (last_posts calls how))) (e.0 is) (λ _. given_release C frees (socket_id_slot id) (λ _. (last_posts calls how)) (λ _. lasts))) (λ _. lasts))

  -- ## Reading

  -- what ends a reading lets the socket be set failed
  pub record Ends : Type 0 where
    pub most : (h : List Taking) → LIMIT ≤ length (given_by h) → Odd h
    pub fault : (h : List Taking) → HasFault (given_by h) → Odd h
    pub at_end : (h : List Taking) → Odd (h ++ AtEnd ∷ [])
    pub broken : (h : List Taking) → Odd (h ++ Broken ∷ [])
    pub no_more : Lasts → (h : List Taking) → Odd (h ++ NoMore ∷ [])

  module _ (ends : Ends) where
    abbrev Goes : (Ended → Program) → Type 0
    Goes next = (how : Ended) (h' : List Taking) → EndsSo h' how → Calm false h' (next how)

    module _ (h : List Taking) (r : Reading) (next : Ended → Program) (at : IsReading h r) (goes : Goes next) where
      abbrev with_more : List ℕ → List Frame → Reading
      with_more bytes kept = record { ids = r.ids; link = r.link; id = r.id; rest = r.rest; total = r.total + length bytes; kept = kept }

      more_total : (bytes : List ℕ) → r.total + length bytes ≡ length (given_by (h ++ Bytes bytes ∷ []))
      more_total bytes = let a = at.total in let b = ap length (gave_more h bytes) in let d = length-append (given_by h) bytes in omega (arith, a, b, d)

      all_read : (bytes : List ℕ) → nat_lt (r.total + length bytes) LIMIT ≡ false → LIMIT ≤ length (given_by (h ++ Bytes bytes ∷ []))
      all_read bytes most = let l = ltb-false (r.total + length bytes) LIMIT most in let t = more_total bytes in omega (arith, l, t)

      -- a fault of the rest with what came is one of all that came
      all_tied : (bytes more : List ℕ) → HasFault ((r.rest ++ bytes) ++ more) → HasFault (given_by (h ++ Bytes bytes ∷ []) ++ more)
      all_tied bytes more f = subst (λ l. HasFault (l ++ more)) (sym (gave_more h bytes)) (tied_more r.rest (given_by h) bytes more at.tied f)

      abbrev with_rest : List ℕ → List Frame → ℕ → Reading
      with_rest bytes kept n = record { ids = r.ids; link = r.link; id = r.id; rest = last_of n (r.rest ++ bytes); total = r.total + length bytes; kept = kept }

      read_on_calm : (kept : List Frame) (bytes : List ℕ) (s : streams.Ending) → (streams.stream (r.rest ++ bytes)).ending ≡ s → Calm false (h ++ Bytes bytes ∷ []) (read_on (with_more bytes kept) (r.rest ++ bytes) s next)
      read_on_calm kept bytes (streams.Rest n) is = by (nat_lt (r.total + length bytes) LIMIT) refl
        where
          by : (b : Bool) → nat_lt (r.total + length bytes) LIMIT ≡ b → Calm false (h ++ Bytes bytes ∷ []) (cond b (Round (Reads (with_rest bytes kept n)) next) (next (ended_by 1014 false false (with_rest bytes kept n))))
          by true less = (record { link = at.link; own = at.own; total = more_total bytes; tied = λ more f. all_tied bytes more (faults_follow (r.rest ++ bytes) more n is f) }, goes)
          by false most = goes (ended_by 1014 false false (with_rest bytes kept n)) (h ++ Bytes bytes ∷ []) ((λ _. (ends.most (h ++ Bytes bytes ∷ []) (all_read bytes most), inl (refl, inr (inr (inr (all_read bytes most)))))), at.link, at.own, inl (inr (inr (inl (all_read bytes most)))))
      read_on_calm kept bytes (streams.Fault start fault) is = let faulty : HasFault (given_by (h ++ Bytes bytes ∷ [])) = subst HasFault (append-nil (given_by (h ++ Bytes bytes ∷ []))) (all_tied bytes [] (subst HasFault (sym (append-nil (r.rest ++ bytes))) (start, fault, is))) in
          goes (ended_by 2002 false true (with_more bytes kept)) (h ++ Bytes bytes ∷ []) ((λ _. (ends.fault (h ++ Bytes bytes ∷ []) faulty, inr (refl, faulty))), at.link, at.own, inl (inr (inl faulty)))

      took_calm : (t : Taking) → (t ≡ NoMore → Lasts) → Calm false (h ++ t ∷ []) (took r next t)
      took_calm (Bytes bytes) some_ = through_responses (Calm false (h ++ Bytes bytes ∷ [])) (λ i v next' x. x) (through_answer (Calm false (h ++ Bytes bytes ∷ [])) (locked (calm_errors (h ++ Bytes bytes ∷ [])))) r.ids (streams.stream (r.rest ++ bytes)).frames r.kept (λ kept. read_on (with_more bytes kept) (r.rest ++ bytes) (streams.stream (r.rest ++ bytes)).ending next)
          (λ kept. read_on_calm kept bytes (streams.stream (r.rest ++ bytes)).ending refl)
      took_calm Nothing some_ = (
        record { link = at.link; own = at.own; total = at.total ∙ ap length (sym (gave_none h Nothing refl)); tied = λ more f. subst (λ l. HasFault (l ++ more)) (sym (gave_none h Nothing refl)) (at.tied more f) },
        goes,
      )
      took_calm NoMore some_ = goes (ended_by 1014 false false r) (h ++ NoMore ∷ []) ((λ _. (ends.no_more (some_ refl) h, inl (refl, inr (inr (inl (last_in h NoMore)))))), at.link, at.own, inr (inr (last_in h NoMore)))
      took_calm AtEnd some_ = goes (ended_by 1014 false false r) (h ++ AtEnd ∷ []) ((λ _. (ends.at_end h, inl (refl, inl (last_in h AtEnd)))), at.link, at.own, inl (inl (last_in h AtEnd)))
      took_calm Closed some_ = goes (ended_by 1014 true false r) (h ++ Closed ∷ []) ((λ e. absurd (true≢false e)), at.link, at.own, inr (inl (last_in h Closed)))
      took_calm Broken some_ = goes (ended_by 1014 false false r) (h ++ Broken ∷ []) ((λ _. (ends.broken h, inl (refl, inr (inl (last_in h Broken))))), at.link, at.own, inl (inr (inr (inr (last_in h Broken)))))

    discarded_calm : (h : List Taking) (l total : ℕ) (next : ℕ → Program) → l ≡ k → IsOver h → ((n : ℕ) (h' : List Taking) → IsOver h' → Calm false h' (next n)) → (t : Taking) → Calm false (h ++ t ∷ []) (discarded l total next t)
    discarded_calm h l total next own over goes (Bytes bytes) = let more = over_more h (Bytes bytes ∷ []) over in
        either_way (nat_lt (total + length bytes) LIMIT) (Round (Discards l (total + length bytes)) next) (next (total + length bytes)) (Calm false (h ++ Bytes bytes ∷ [])) (own, more, goes) (goes (total + length bytes) (h ++ Bytes bytes ∷ []) more)
    discarded_calm h l total next own over goes Nothing = (own, over_more h (Nothing ∷ []) over, goes)
    discarded_calm h l total next own over goes NoMore = goes total (h ++ NoMore ∷ []) (over_more h (NoMore ∷ []) over)
    discarded_calm h l total next own over goes AtEnd = goes total (h ++ AtEnd ∷ []) (over_more h (AtEnd ∷ []) over)
    discarded_calm h l total next own over goes Closed = goes total (h ++ Closed ∷ []) (over_more h (Closed ∷ []) over)
    discarded_calm h l total next own over goes Broken = goes total (h ++ Broken ∷ []) (over_more h (Broken ∷ []) over)

    -- one round of a loop
    calm_round : (held : Bool) (h : List Taking) (head : Head) (next : Exit head → Program) → Calm held h (Round head next) → Calm held h (round head next)
    calm_round held h (Posts i e w) next x = through_errors (Calm false h) (calm_errors h) (Posts i e w) next refl x
    calm_round held h (Unlocks i w advance) next x = through_errors (Calm false h) (calm_errors h) (Unlocks i w advance) next refl x
    calm_round held h (Decides i asked w e) next x = either_way (ends_call (parts w) e) _ _ (Calm held h)
        (through_end_id (Calm false h) (locked (calm_errors h)) (id_slot i) (next (HasEnded asked.operation (code_of e))) (x (HasEnded asked.operation (code_of e))))
        (λ _. through_advance (Calm false h) (locked (calm_errors h)) i w next x)
    calm_round held h (Locks i sought None) next x = through_locks (Calm false h) (locked (calm_errors h)) (λ i sought w next y. y) i sought None next x
    calm_round held h (Locks i sought (Some w)) next x = through_locks (Calm false h) (locked (calm_errors h)) (λ i sought w next y. y) i sought (Some w) next x
    calm_round held h (Joins i) next x = through_joins (Calm false h) (locked (calm_errors h)) (λ i next y. y) i next x
    calm_round held h (Opens o) next x = absurd x
    calm_round held h (Reads r) next x = let at = x.0 in (at.link, λ t some_. took_calm h r next at x.1 t some_)
    calm_round held h (Discards l total) next x = (x.0, λ t some_. discarded_calm h l total next x.0 x.1 x.2 t)

    pub calm_first : (held : Bool) (h : List Taking) (program : Program) → Calm held h program → Calm held h (first_step program)
    calm_first held h (Write w after) x = absurd x
    calm_first held h (Round head next) x = calm_round held h head next x
    calm_first held h _ x = x

  pub calm_next : (held : Bool) (h : List Taking) (ws : List Retry) (program : Program) → Calm held h program → Calm held h (next_step (resolved ws program))
  calm_next held h ws (Say o outcome next) x = calm_next held h ws next x
  calm_next held h ws (Sent o next) x = calm_next held h ws next x
  calm_next held h ws (Keep r next) x = calm_next held h (ws ++ r ∷ []) next x
  calm_next held h ws (Retries requests after) x = absurd x
  calm_next held h ws _ x = x

  -- where a reading begins
  pub begins_calm : Ends → (calls : List ℕ) → Calm false [] (Round (Reads (record { ids = length calls; link = k; id = id; rest = []; total = 0; kept = [] })) (read calls))
  begins_calm ends calls = (record { link = refl; own = refl; total = refl; tied = λ more f. f }, λ how h' e. read_calm h' calls how e)

  -- ## Steps

  -- the step exchanges no head, and stores in the word of no `open`
  abbrev pub IsCalmCall : TableStep → Type 0
  IsCalmCall (OnChain (SwapHead i own)) = ⊥
  IsCalmCall (OnSlot (CreateLife i l)) = ⊥
  IsCalmCall (OnName (StoreOpen o w)) = ⊥
  IsCalmCall other = Unit {0}

  -- behind it the seat has just got a reference to the life, or not
  pub record Behind (h : List Taking) (call : TableStep) (program : Program) (found : ℕ) : Type 0 where
    pub held : Bool
    pub calm : Calm held h program
    pub got : held ≡ true → (call ≡ OnSlot (AddRef id)) × ((vref_version found == socket_id_version id) ≡ true)

  pub calm_step : (held : Bool) (h : List Taking) (call : TableStep) (next : ℕ → Program) → Calm held h (Do call next) → IsCalmCall call × ((found : ℕ) → Behind h call (next found) found)
  calm_step held h (OnSlot (SetOdd i)) next x = (tt, λ found. record { held = false; calm = x.3 found; got = λ e. absurd (true≢false (sym e)) })
  calm_step held h (OnSlot (StoreCode i v code)) next x = (tt, λ found. record { held = false; calm = x.3 found; got = λ e. absurd (true≢false (sym e)) })
  calm_step held h (OnSlot (AddRef y)) next x = (tt, λ found. record { held = vref_version found == socket_id_version id; calm = x.1 found; got = λ e. (ap (λ j. OnSlot (AddRef j)) x.0, e) })
  calm_step held h (OnChain (SwapHead i own)) next x = absurd x
  calm_step held h (OnSlot (CreateLife i l)) next x = absurd x
  calm_step held h (OnName (StoreOpen o w)) next x = absurd x
  calm_step held h call next x = (tt, λ found. record { held = false; calm = x found; got = λ e. absurd (true≢false (sym e)) })

  -- a step aside that takes no bytes
  abbrev pub IsNoTake : Step → Type 0
  IsNoTake (TakeBytes l room) = ⊥
  IsNoTake other = Unit {0}

  pub calm_aside : (held : Bool) (h : List Taking) (step : Step) (next : Found step → Program) → IsNoTake step → Calm held h (Aside step next) → (found : Found step) → Calm false h (next found)
  calm_aside held h (TakeBytes l room) next none_ x = absurd none_
  calm_aside held h step next none_ x = x

  -- where the program is to set a socket failed, it has just got its reference
  pub sets_odd : (held : Bool) (h : List Taking) (i : ℕ) (next : ℕ → Program) → Calm held h (Do (OnSlot (SetOdd i)) next) → (held ≡ true) × Odd h × (i ≡ socket_id_slot id)
  sets_odd held h i next x = (x.0, x.1, x.2)

  -- a code that it stores is its own socket's, by how the reading ended
  pub stores_code : (held : Bool) (h : List Taking) (i v code : ℕ) (next : ℕ → Program) → Calm held h (Do (OnSlot (StoreCode i v code)) next) → Codes h code × (i ≡ socket_id_slot id) × (v ≡ socket_id_version id)
  stores_code held h i v code next x = (x.0, x.1, x.2)
