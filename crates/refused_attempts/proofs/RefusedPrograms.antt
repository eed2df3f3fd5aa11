-- The programs of clients, readers and the ending post what they are charged with.
use Rattle.std.proofs.Common.{◌≡◌, ◌≢◌, ℕ, zero, suc, ◌+◌, ◌-◌, ◌*◌, ◌/◌, ◌%◌, ◌<◌, ◌≤◌, ◌⊎◌, ◌==◌, ◌&&◌, inl, inr, Bool, true, false, cond, eqb, eqb-true, eq-eqb, ne_eqb, leb, nat_lt, nat_le, List, [], ◌∷◌, ◌++◌, length, drop, refl, sym, ap, ◌∙◌, subst, arith}
use Rattle.std.proofs.lemmas.Bool.{true≢false}
use Rattle.std.specs.List.{AllByRecursion}
use mathlib.Core.Logic.{dite}
use native.Mathlib.Decide.{ℕ_discrete}
use Rattle.seat_programs.specs.brpc_model.specs.Frame.{Frame}
use Rattle.sock_words.specs.PackedWords.{socket_id_slot, socket_id_version, vref_version, vref_nref, at_word, at_word_first, at_word_slot, at_word_link, at_word_attempt, ticket_generation, ticket_request, IDLE, UNCONNECTED, call_id, id_slot, id_first, NO_SOCKET}
use Rattle.sock_words.specs.declared.outcome.Outcome.TheVariants as outcomes
use Rattle.sock_io.specs.declared.link.Put.{Put}
use Rattle.sock_io.specs.declared.link.Put.TheVariants as puts
use Rattle.sock_io.specs.declared.link.Ready.{Ready}
use Rattle.sock_io.specs.declared.link.Ready.TheVariants as asks
use Rattle.sock_message.specs.Asked.{Asked, frame_of, name_of}
use Rattle.sock_model.specs.declared.chain.Heading.{Heading}
use Rattle.sock_model.specs.Entries.{ticket_of}
use Rattle.corr_core.specs.IdSlotWord.{parts, error_of}
use Rattle.seat_programs.specs.declared.task.Op.{Op}
use Rattle.seat_programs.specs.declared.task.Op.TheVariants as ops
use Rattle.seat_programs.specs.declared.task.Sizes.{Sizes}
use Rattle.seat_programs.specs.declared.task.Task.{Task}
use Rattle.seat_programs.specs.Asides.{StoreAt}
use Rattle.seat_programs.specs.CallAndRetryPrograms.{claims_from, heading_for, attempt, begin_call, claim_id, call, tried_again, retry_locked, retry, expire_outcome, expire, join}
use Rattle.seat_programs.specs.TableSteps.{TableStep, OnSlot, OnName, OnChain, OnPlace, OnLink, OnMessage, LoadOpen, SubRef, AddRef, LoadLink, TakeLink, FinishLink, PutLink, FreeSlot, LoadName, FreeRequest, ReadNext, FindLink, LookWord, ReverseNext, Connect, ClaimRequest, PutMessage, Recycle, LoadCode, DropPlace}
use Rattle.seat_programs.specs.ClientProgram.{HeldLife, held_under, without_name, operation, client_from, ending_of}
use Rattle.seat_programs.specs.LoopHeads.{First, Joins, Reads, Discards, Posting, HasLocked, Unlocking, IsOpen, HasNext, Locking, NotThere, Has, Ended}
use Rattle.seat_programs.specs.BufferParts.{part}
use Rattle.seat_programs.specs.PostPrograms.{post_with, posted, post, decided}
use Rattle.seat_programs.specs.Programs.{Program, Do, Say, Sent, Rest, TakeMessage, TakeHome, PutBytes, Write, Aside, Round, LAST_VERSION, LAST_GENERATION, recycle, release}
use Rattle.seat_programs.specs.ReaderProgram.{kept_for, ends_with, posted_last, post_each, thrown_away, read, reader, LIMIT}
use Rattle.seat_programs.specs.SendAndWritePrograms.{freed as given_back, one_more, passed_telling, tell_drop, placed, dropped, put_answered, ready_answered, block, first_put, accept, write_link, heading_of, claim_from, start, send}
use Rattle.seat_programs.specs.Writings.{Holder, Writing, Puts, Waits, Empties, Reversing}
use Rattle.attempted_calls.specs.Below.outcome_stories.specs.OperationStories.{In}
use Rattle.attempted_calls.specs.Below.programs_allowed.specs.program_walks.proofs.Through.{PassesWords, PassesFails, is_of_message, others_plain, others_failing, others_make, through_release, through_reach, through_set_failed, through_fail, through_hold}
use Rattle.attempted_calls.specs.Below.programs_allowed.specs.program_walks.proofs.ThroughSends.{through_ended}
use Rattle.attempted_calls.specs.Below.programs_allowed.specs.program_walks.proofs.ThroughCalls.{through_read_end}
use Rattle.attempted_calls.specs.Below.programs_allowed.specs.program_walks.proofs.ThroughClients.{through_open, through_back, through_drop_of}
use Rattle.attempted_calls.specs.Below.label_runs.proofs.LoopsOfKnownSeats.{not_equal}
use Rattle.attempted_calls.specs.Below.label_runs.proofs.OperationsKeepKnown.{OpCalls}
use Rattle.attempted_calls.specs.Below.label_runs.specs.AttemptLabelsLeft.{Trial, Idle, Tries, Sends, MayPut, Kept, LeavesLabel, LeavesLock, LeavesUnlock, locked_trial}
use Rattle.attempted_calls.specs.accept_counts.specs.RefusedOrDropped.{Deed, DidStep, DidPut, DidRound, DidMiss, Charge, NoCharge, IsRefused, HasDropped, Doing, idle, begins, FoundTaken, WasOther, WasOdd, WasNone, WhyRefused, WouldStore, IsTrying, IsLast, IsPostOf}
use Rattle.refused_attempts.proofs.RefusedLoops.{bare, Goes, way, Steps, step_way, aside_way, forgets, let_go, post_with_goes, posted_goes, decide_goes, decided_goes, answer_goes}

module _ (requests : ℕ) (is_call : Asked → Type 0) (reads : Bool) where
  abbrev G : Doing → Program → Type 0
  G s x = Goes requests is_call reads s x

  -- what is done next in a state that is forgotten
  abbrev then_ : (call : TableStep) (next : ℕ → Program) (found : ℕ) (s : Doing) → G idle (next found) → Steps requests is_call reads call next found s (next found)
  then_ call next found s g = forgets requests is_call reads call next found s (next found) g

  abbrev split : (b : Bool) (x y : Program) → (b ≡ true → G idle x) → (b ≡ false → G idle y) → G idle (cond b x y)
  split b x y f g = way requests is_call reads idle b x y f g

  -- ## Parts on sockets, which are forgotten

  -- steps on words that put no message leave nothing
  others_go : (call : TableStep) (next : ℕ → Program) → is_of_message call ≡ false → ((found : ℕ) → G idle (next found)) → G idle (Do call next)
  others_go (OnMessage (PutMessage q heading bytes)) next is r = absurd (true≢false is)
  others_go call next is r = (tt, λ found _. then_ call next found idle (r found))

  words : PassesWords (G idle)
  words = record { step = others_plain (G idle) others_go; say = λ o outcome next r. r }

  fails : (code : ℕ) → PassesFails (G idle) code
  fails = through_set_failed (G idle) words (others_failing (G idle) others_go)

  -- ## Parts on sockets that are remembered

  abbrev due : Charge → List Deed → Doing
  due c ds = record { trial = Idle; charge = c; deeds = ds }

  module _ (c : Charge) where
    ways : (ds : List Deed) (b : Bool) (x y : Program) → G (due c ds) x → G (due c ds) y → G (due c ds) (cond b x y)
    ways ds b x y f g = way requests is_call reads (due c ds) b x y (λ _. f) (λ _. g)

    recycle_keeps : (ds : List Deed) (i from : ℕ) (next : Bool → Program) → ((es : List Deed) (b : Bool) → G (due c es) (next b)) → G (due c ds) (recycle i from next)
    recycle_keeps ds i from next goes = (
      tt,
      λ found _. (
        due c (DidStep (OnSlot (Recycle i from)) found ∷ ds),
        inl (inl refl, inl (refl, refl)),
        ways (DidStep (OnSlot (Recycle i from)) found ∷ ds) (eqb found from)
            (Do (OnSlot (LoadLink i (vref_version from + 1))) (λ k. Do (OnLink (TakeLink k)) (λ _. Do (OnLink (FinishLink k)) (λ _. Do (OnLink (PutLink k)) (λ _. cond (leb (vref_version from + 1) LAST_VERSION) (Do (OnSlot (FreeSlot i)) (λ _. next true)) (next true))))))
            (next false) (links (DidStep (OnSlot (Recycle i from)) found ∷ ds)) (goes (DidStep (OnSlot (Recycle i from)) found ∷ ds) false),
      ),
    )
      where
        last : (es : List Deed) → G (due c es) (cond (leb (vref_version from + 1) LAST_VERSION) (Do (OnSlot (FreeSlot i)) (λ _. next true)) (next true))
        last es = ways es (leb (vref_version from + 1) LAST_VERSION) (Do (OnSlot (FreeSlot i)) (λ _. next true)) (next true)
            (tt, λ found _. (due c (DidStep (OnSlot (FreeSlot i)) found ∷ es), inl (inl refl, inl (refl, refl)), goes (DidStep (OnSlot (FreeSlot i)) found ∷ es) true)) (goes es true)

        ends : (k : ℕ) (es : List Deed) → G (due c es) (Do (OnLink (TakeLink k)) (λ _. Do (OnLink (FinishLink k)) (λ _. Do (OnLink (PutLink k)) (λ _. cond (leb (vref_version from + 1) LAST_VERSION) (Do (OnSlot (FreeSlot i)) (λ _. next true)) (next true)))))
        ends k es = (
          tt,
          λ a _. (
            due c (DidStep (OnLink (TakeLink k)) a ∷ es),
            inl (inl refl, inl (refl, refl)),
            (
              tt,
              λ b _. (
                due c (DidStep (OnLink (FinishLink k)) b ∷ DidStep (OnLink (TakeLink k)) a ∷ es),
                inl (inl refl, inl (refl, refl)),
                (
                  tt,
                  λ d _. (
                    due c (DidStep (OnLink (PutLink k)) d ∷ DidStep (OnLink (FinishLink k)) b ∷ DidStep (OnLink (TakeLink k)) a ∷ es),
                    inl (inl refl, inl (refl, refl)),
                    last (DidStep (OnLink (PutLink k)) d ∷ DidStep (OnLink (FinishLink k)) b ∷ DidStep (OnLink (TakeLink k)) a ∷ es),
                  ),
                ),
              ),
            ),
          ),
        )

        links : (es : List Deed) → G (due c es) (Do (OnSlot (LoadLink i (vref_version from + 1))) (λ k. Do (OnLink (TakeLink k)) (λ _. Do (OnLink (FinishLink k)) (λ _. Do (OnLink (PutLink k)) (λ _. cond (leb (vref_version from + 1) LAST_VERSION) (Do (OnSlot (FreeSlot i)) (λ _. next true)) (next true))))))
        links es = (tt, λ k _. (due c (DidStep (OnSlot (LoadLink i (vref_version from + 1))) k ∷ es), inl (inl refl, inl (refl, refl)), ends k (DidStep (OnSlot (LoadLink i (vref_version from + 1))) k ∷ es)))

    release_keeps : (ds : List Deed) (i : ℕ) (next : Bool → Program) → ((es : List Deed) (b : Bool) → G (due c es) (next b)) → G (due c ds) (release i next)
    release_keeps ds i next goes = (
      tt,
      λ found _. (
        due c (DidStep (OnSlot (SubRef i)) found ∷ ds),
        inl (inl refl, inl (refl, refl)),
        ways (DidStep (OnSlot (SubRef i)) found ∷ ds) ((vref_version found % 2 == 1) && (vref_nref found == 1)) (recycle i (found - 1) next) (next false) (recycle_keeps (DidStep (OnSlot (SubRef i)) found ∷ ds) i (found - 1) next goes) (goes (DidStep (OnSlot (SubRef i)) found ∷ ds) false),
      ),
    )

    freed_keeps : (ds : List Deed) (now : ℕ) (next : Program) → ((es : List Deed) → G (due c es) next) → G (due c ds) (given_back now next)
    freed_keeps ds now next goes = ways ds (ticket_generation now == LAST_GENERATION) next (Do (OnChain (FreeRequest (ticket_request now) (ticket_generation now))) (λ _. next)) (goes ds)
        (tt, λ found _. (due c (DidStep (OnChain (FreeRequest (ticket_request now) (ticket_generation now))) found ∷ ds), inl (inl refl, inl (refl, refl)), goes (DidStep (OnChain (FreeRequest (ticket_request now) (ticket_generation now))) found ∷ ds)))

    pub passed_keeps : (mine : reads ≡ false) (ds : List Deed) (h : Holder) (now : ℕ) (tells : Program → Program) (after : Program) → ((es : List Deed) (x : Program) → G idle x → G (due c es) (tells x)) → G idle after → G (due c ds) (passed_telling h now tells after)
    passed_keeps mine ds h now tells after told goes = ways ds (now == h.last) (given_back now (tells (Write (Empties h) after)))
        (Do (OnChain (ReadNext (ticket_request now))) (λ next. given_back now (tells (TakeMessage (ticket_request next) (λ heading bytes. Write (Puts h next heading bytes 0 false) after)))))
        (freed_keeps ds now (tells (Write (Empties h) after)) (λ es. told es (Write (Empties h) after) (mine, goes))) (
          tt,
          λ next _. (
            due c (DidStep (OnChain (ReadNext (ticket_request now))) next ∷ ds),
            inl (inl refl, inl (refl, refl)),
            freed_keeps (DidStep (OnChain (ReadNext (ticket_request now))) next ∷ ds) now (tells (TakeMessage (ticket_request next) (λ heading bytes. Write (Puts h next heading bytes 0 false) after)))
                (λ es. told es (TakeMessage (ticket_request next) (λ heading bytes. Write (Puts h next heading bytes 0 false) after)) (λ heading bytes. (mine, goes))),
          ),
        )

    post_keeps : (ds : List Deed) (id code n : ℕ) (next : Program) → IsPostOf requests is_call reads c id (error_of code n) → G idle next → G (due c ds) (post id code n next)
    post_keeps ds id code n next posts goes = post_with_goes requests is_call reads (due c ds) id (error_of code n) (posted id (error_of code n) next) posts (posted_goes requests is_call reads id (error_of code n) next goes)

  -- ## Writing, of a client

  freed_goes : (s : Doing) (now : ℕ) (next : Program) → G idle next → G idle (given_back now next)
  freed_goes s now next goes = split (ticket_generation now == LAST_GENERATION) next (Do (OnChain (FreeRequest (ticket_request now) (ticket_generation now))) (λ _. next)) (λ _. goes) (λ _. (tt, λ found _. then_ (OnChain (FreeRequest (ticket_request now) (ticket_generation now))) _ found idle goes))

  passed_goes : (mine : reads ≡ false) (h : Holder) (now : ℕ) (tells : Program → Program) (after : Program) → ((x : Program) → G idle x → G idle (tells x)) → G idle after → G idle (passed_telling h now tells after)
  passed_goes mine h now tells after told goes = split (now == h.last) (given_back now (tells (Write (Empties h) after)))
      (Do (OnChain (ReadNext (ticket_request now))) (λ next. given_back now (tells (TakeMessage (ticket_request next) (λ heading bytes. Write (Puts h next heading bytes 0 false) after)))))
      (λ _. freed_goes idle now (tells (Write (Empties h) after)) (told (Write (Empties h) after) (mine, goes)))
      (λ _. (tt, λ next _. then_ (OnChain (ReadNext (ticket_request now))) _ next idle (freed_goes idle now (tells (TakeMessage (ticket_request next) (λ heading bytes. Write (Puts h next heading bytes 0 false) after))) (told (TakeMessage (ticket_request next) (λ heading bytes. Write (Puts h next heading bytes 0 false) after)) (λ heading bytes. (mine, goes))))))

  put_goes : (mine : reads ≡ false) (h : Holder) (now : ℕ) (heading : Heading) (left : List ℕ) (taken : ℕ) (after : Program) → G idle after → (answer : Put) → G idle (put_answered h now heading left taken after answer)
  put_goes mine h now heading left taken after goes (puts.Took n) = split (nat_le (length left) n) (placed h now heading after) (Write (Puts h now heading (drop n left) (taken + n) false) after)
      (λ _. (tt, λ found _. then_ (OnPlace (Rattle.seat_programs.specs.TableSteps.StorePlace heading.label.place h.link h.places)) _ found idle (passed_goes mine (one_more h) now (λ x. x) after (λ x g. g) goes))) (λ _. (mine, goes))
  put_goes mine h now heading left taken after goes puts.Again = (mine, goes)
  put_goes mine h now heading left taken after goes puts.Failed = fails 1009 h.id (λ _. Write (Puts h now heading left taken false) after) (λ _. (mine, goes))

  module _ (mine : reads ≡ false) where
    tell_goes : (heading : Heading) (code : ℕ) (ds : List Deed) (x : Program) → heading.owner ≢ 0 → G idle x → G (due (HasDropped heading code) ds) (tell_drop heading code x)
    tell_goes heading code ds x some_ goes = subst (λ b. G (due (HasDropped heading code) ds) (cond b x (post heading.owner (cond (eqb code 0) 1009 code) heading.label.attempt x))) (sym (ne_eqb heading.owner 0 some_))
        (post_keeps (HasDropped heading code) ds heading.owner (cond (eqb code 0) 1009 code) heading.label.attempt x (inr (inr (mine, (some_, refl, refl)))) goes)

    tell_none : (heading : Heading) (code : ℕ) (x : Program) → heading.owner ≡ 0 → G idle x → G idle (tell_drop heading code x)
    tell_none heading code x none_ goes = subst (λ b. G idle (cond b x (post heading.owner (cond (eqb code 0) 1009 code) heading.label.attempt x))) (sym (eq-eqb heading.owner 0 none_)) goes

    -- a message of a call is told of, another one isn't
    dropped_goes : (h : Holder) (now : ℕ) (heading : Heading) (left : List ℕ) (taken : ℕ) (asked : Bool) (ds : List Deed) (after : Program) → In (DidRound (Puts h now heading left taken asked)) ds → G idle after → G (bare Idle ds) (dropped h now heading after)
    dropped_goes h now heading left taken asked ds after round goes = (
      tt,
      λ code _. (
        bare Idle (DidStep (OnSlot (LoadCode (socket_id_slot h.id) (socket_id_version h.id))) code ∷ ds),
        inl (inl refl, inl (refl, refl)),
        (
          tt,
          λ found _. dite (ℕ_discrete heading.owner 0)
              (λ none_. then_ (OnPlace (DropPlace heading.label.place h.link h.places)) _ found (bare Idle (DidStep (OnSlot (LoadCode (socket_id_slot h.id) (socket_id_version h.id))) code ∷ ds))
              (passed_goes mine (one_more h) now (tell_drop heading code) after (λ x g. tell_none heading code x none_ g) goes))
              (λ some_. (
                due (HasDropped heading code) (DidStep (OnPlace (DropPlace heading.label.place h.link h.places)) found ∷ DidStep (OnSlot (LoadCode (socket_id_slot h.id) (socket_id_version h.id))) code ∷ ds),
                inr (inr (record { holder = h; now = now; heading = heading; left = left; taken = taken; asked = asked; code = code; is = refl; round = inr round; load = inl refl; gives_up = refl; charge = refl; deeds = refl })),
                passed_keeps (HasDropped heading code) mine (DidStep (OnPlace (DropPlace heading.label.place h.link h.places)) found ∷ DidStep (OnSlot (LoadCode (socket_id_slot h.id) (socket_id_version h.id))) code ∷ ds) (one_more h) now (tell_drop heading code) after
                    (λ es x g. tell_goes heading code es x some_ g) goes,
              )),
        ),
      ),
    )

    pub block_goes : (w : Writing) (after : Program) → G idle after → G (begins w) (block w after)
    block_goes (Puts h now heading left taken asked) after g = (
      tt,
      λ found _. step_way requests is_call reads (OnSlot (LookWord h.id)) (λ found. cond (vref_version found % 2 == 0) (PutBytes h.link asked (part heading.parts left taken) (put_answered h now heading left taken after)) (dropped h now heading after)) found (begins (Puts h now heading left taken asked))
          (vref_version found % 2 == 0) (PutBytes h.link asked (part heading.parts left taken) (put_answered h now heading left taken after)) (dropped h now heading after)
          (λ _. (idle, inl (inl refl, inr (refl, refl)), put_goes mine h now heading left taken after g))
          (λ _. (
            bare Idle (DidStep (OnSlot (LookWord h.id)) found ∷ DidRound (Puts h now heading left taken asked) ∷ []),
            inl (inl refl, inl (refl, refl)),
            dropped_goes h now heading left taken asked (DidStep (OnSlot (LookWord h.id)) found ∷ DidRound (Puts h now heading left taken asked) ∷ []) after (inr (inl refl)) g,
          )),
    )
    block_goes (Waits h now heading left taken) after g = ready_goes
      where
        ready_goes : (answer : Ready) → G idle (ready_answered h now heading left taken after answer)
        ready_goes asks.Now = (mine, g)
        ready_goes asks.NotYet = (mine, g)
        ready_goes asks.Failed = fails 1009 h.id (λ _. Write (Puts h now heading left taken false) after) (λ _. (mine, g))
    block_goes (Empties h) after g = (tt, λ found _. then_ (OnChain (Rattle.seat_programs.specs.TableSteps.EmptyHead (socket_id_slot h.id) h.last)) _ found idle (split (found == h.last) after (TakeHome h.link (λ places. Write (Reversing (record h { places = places }) found found 0) after)) (λ _. g) (λ _. λ places. (mine, g))))
    block_goes (Reversing h top at after) last g = (
      tt,
      λ found _. then_ (OnChain (ReadNext (ticket_request at))) _ found (begins (Reversing h top at after)) (split (found == UNCONNECTED) (Write (Reversing h top at after) last)
          (Do (OnChain (ReverseNext (ticket_request at) after)) (λ _. cond (found == h.last) (TakeMessage (ticket_request at) (λ heading bytes. Write (Puts (record h { last = top }) at heading bytes 0 false) last)) (Write (Reversing h top found at) last)))
          (λ _. (mine, g))
          (λ _. (tt, λ other _. then_ (OnChain (ReverseNext (ticket_request at) after)) _ other idle (split (found == h.last) (TakeMessage (ticket_request at) (λ heading bytes. Write (Puts (record h { last = top }) at heading bytes 0 false) last)) (Write (Reversing h top found at) last) (λ _. λ heading bytes. (mine, g)) (λ _. (mine, g)))))),
    )

  first_goes : (mine : reads ≡ false) (h : Holder) (now : ℕ) (heading : Heading) (bytes : List ℕ) (after : Program) → G idle after → G idle (first_put h now heading bytes after)
  first_goes mine h now heading bytes after g = (
    tt,
    λ found _. then_ (OnSlot (LookWord h.id)) _ found idle (split (vref_version found % 2 == 0) (PutBytes h.link false (part heading.parts bytes 0) (put_answered h now heading bytes 0 after)) (Write (Puts h now heading bytes 0 false) after)
        (λ _. put_goes mine h now heading bytes 0 after g) (λ _. (mine, g))),
  )

  write_goes : (mine : reads ≡ false) (id q own : ℕ) (after : Program) → G idle after → G idle (write_link id q own after)
  write_goes mine id q own after g = (tt, λ k _. then_ (OnSlot (FindLink (socket_id_slot id) (socket_id_version id))) _ k idle (λ places. λ heading bytes. first_goes mine (record { id = id; link = k; last = own; places = places }) own heading bytes after g))

  -- ## Messages

  accept_goes : (mine : reads ≡ false) (s : Doing) (id q g : ℕ) (heading : Heading) (bytes : List ℕ) (after : Program) → MayPut is_call s.trial (OnMessage (PutMessage q heading bytes)) → G idle after → G s (accept id q g heading bytes after)
  accept_goes mine s id q g heading bytes after may goes = (
    may,
    λ a _. (
      idle,
      inl (inl refl, inr (refl, refl)),
      (
        tt,
        λ b _. then_ (OnChain (Rattle.seat_programs.specs.TableSteps.Unconnect q)) _ b idle (
          tt,
          λ found _. then_ (OnChain (Rattle.seat_programs.specs.TableSteps.SwapHead (socket_id_slot id) (ticket_of q g))) _ found idle
              (split (nat_lt found IDLE) (Do (OnChain (Connect q found)) (λ _. after)) (write_link id q (ticket_of q g) after) (λ _. (tt, λ d _. then_ (OnChain (Connect q found)) _ d idle goes)) (λ _. write_goes mine id q (ticket_of q g) after goes)),
        ),
      ),
    ),
  )

  -- ## Attempts

  odd_of : (x : ℕ) → eqb (x % 2) 0 ≡ false → x % 2 ≡ 1
  odd_of x e = let ne = not_equal (x % 2) 0 e in dite (ℕ_discrete (x % 2) 0) (λ z. absurd (ne z)) (λ z. omega (arith, z))

  one_more_taken : (q : ℕ) (socket found : ℕ) (ds : List Deed) → FoundTaken q ds → found % 2 ≡ 1 → FoundTaken (q + 1) (DidStep (OnChain (ClaimRequest socket q)) found ∷ ds)
  one_more_taken q socket found ds taken odd r low = dite (ℕ_discrete r q)
      (λ same. (socket, found, inl (ap (λ x. DidStep (OnChain (ClaimRequest socket x)) found) same), odd))
      (λ far. let t = taken r (omega (arith, low, far)) in (t.0, t.1, inr t.2, t.3))

  -- the step was the last of a refused attempt, so that its error is due
  refuses : (asked : Asked) → is_call asked → (id n code : ℕ) → n ≤ 6 → (t : Trial) (ds : List Deed) → In (DidPut asked) ds → (made : TableStep) (then : ℕ → Program) (found : ℕ) → IsTrying t asked.operation id n (Do made then) → Rattle.attempted_calls.specs.Below.label_runs.specs.AttemptLabelsLeft.put_behind t made ≡ t
      → (deed : Deed) → IsLast made then found asked.operation id n deed → WhyRefused requests asked n code (deed ∷ ds) → (x : Program) → G (due (IsRefused id n code) (deed ∷ ds)) x → Steps requests is_call reads made then found (bare t ds) x
  refuses asked called id n code few t ds put made then found trying same deed last why x goes = (
    due (IsRefused id n code) (deed ∷ ds),
    inr (inl (record { id = id; attempt = n; code = code; asked = asked; called = called; trying = trying; few = few; still = same; put = put; deed = deed; last = last; why = why; gives_up = refl; charge = refl; deeds = refl })),
    goes,
  )

  module _ (mine : reads ≡ false) (asked : Asked) (called : is_call asked) (id n socket : ℕ) (next : Program) (few : n ≤ 6) (goes : G idle next) where
    abbrev wanted : ℕ
    wanted = name_of asked n

    abbrev sending : List Deed → Doing
    sending ds = bare (Sends asked.operation id n) ds

    abbrev refused : ℕ → List Deed → Doing
    refused code ds = due (IsRefused id n code) ds

    -- the error is posted, and the reference given back
    posts : (code : ℕ) (ds : List Deed) (x : Program) → G idle x → G (refused code ds) (post id code n x)
    posts code ds x g = post_keeps (IsRefused id n code) ds id code n x (inr (inr (mine, (refl, refl)))) g

    gives_back : G idle (release (socket_id_slot socket) (λ _. next))
    gives_back = through_release (G idle) words (socket_id_slot socket) (λ _. next) (λ _. goes)

    abbrev full : Program
    full = post id 3001 n (release (socket_id_slot socket) (λ _. next))

    abbrev others : ℕ → ℕ → Program
    others more q = claims_from more q socket (heading_for asked id n) (frame_of asked id n) full (release (socket_id_slot socket) (λ _. next))

    abbrev claim_next : ℕ → ℕ → ℕ → Program
    claim_next more q found = cond (eqb (found % 2) 0) (accept socket q (found / 2) (heading_for asked id n) (frame_of asked id n) (release (socket_id_slot socket) (λ _. next))) (others more (q + 1))

    accepts : (ds : List Deed) (q found : ℕ) → G (sending ds) (accept socket q (found / 2) (heading_for asked id n) (frame_of asked id n) (release (socket_id_slot socket) (λ _. next)))
    accepts ds q found = accept_goes mine (sending ds) socket q (found / 2) (heading_for asked id n) (frame_of asked id n) (release (socket_id_slot socket) (λ _. next)) (inr (asked, called, refl, refl, refl)) gives_back

    -- the last of the requests was found taken
    fulls : (made : TableStep) (then : ℕ → Program) (found : ℕ) (ds : List Deed) → Rattle.attempted_calls.specs.Below.label_runs.specs.AttemptLabelsLeft.put_behind (Sends asked.operation id n) made ≡ Sends asked.operation id n → FoundTaken requests (DidStep made found ∷ ds) → In (DidPut asked) ds → Steps requests is_call reads made then found (sending ds) full
    fulls made then found ds same taken put = refuses asked called id n 3001 few (Sends asked.operation id n) ds put made then found (inl refl) same (DidStep made found) (inl refl) (inl (refl, taken)) full
        (posts 3001 (DidStep made found ∷ ds) (release (socket_id_slot socket) (λ _. next)) gives_back)

    grows : (made : TableStep) (then : ℕ → Program) (found : ℕ) (ds : List Deed) (x : Program) → Kept (Rattle.attempted_calls.specs.Below.label_runs.specs.AttemptLabelsLeft.put_behind (Sends asked.operation id n) made) (Sends asked.operation id n) → G (sending (DidStep made found ∷ ds)) x → Steps requests is_call reads made then found (sending ds) x
    grows made then found ds x k g = (sending (DidStep made found ∷ ds), inl (k, inl (refl, refl)), g)

    claims_goes : (more q : ℕ) (ds : List Deed) → q + suc more ≡ requests → FoundTaken q ds → In (DidPut asked) ds → G (sending ds) (others (suc more) q)
    claims_goes zero q ds all taken put = (
      tt,
      λ found _. step_way requests is_call reads (OnChain (ClaimRequest socket q)) (claim_next zero q) found (sending ds) (eqb (found % 2) 0)
          (accept socket q (found / 2) (heading_for asked id n) (frame_of asked id n) (release (socket_id_slot socket) (λ _. next))) full
          (λ _. grows (OnChain (ClaimRequest socket q)) (claim_next zero q) found ds (accept socket q (found / 2) (heading_for asked id n) (frame_of asked id n) (release (socket_id_slot socket) (λ _. next))) (inl refl) (accepts (DidStep (OnChain (ClaimRequest socket q)) found ∷ ds) q found))
          (λ odd. fulls (OnChain (ClaimRequest socket q)) (claim_next zero q) found ds refl (subst (λ x. FoundTaken x (DidStep (OnChain (ClaimRequest socket q)) found ∷ ds)) (let z : q + 1 ≡ requests = all in z) (one_more_taken q socket found ds taken (odd_of found odd))) put),
    )
    claims_goes (suc more) q ds all taken put = (
      tt,
      λ found _. step_way requests is_call reads (OnChain (ClaimRequest socket q)) (claim_next (suc more) q) found (sending ds) (eqb (found % 2) 0)
          (accept socket q (found / 2) (heading_for asked id n) (frame_of asked id n) (release (socket_id_slot socket) (λ _. next))) (others (suc more) (q + 1))
          (λ _. grows (OnChain (ClaimRequest socket q)) (claim_next (suc more) q) found ds (accept socket q (found / 2) (heading_for asked id n) (frame_of asked id n) (release (socket_id_slot socket) (λ _. next))) (inl refl) (accepts (DidStep (OnChain (ClaimRequest socket q)) found ∷ ds) q found))
          (λ odd. grows (OnChain (ClaimRequest socket q)) (claim_next (suc more) q) found ds (others (suc more) (q + 1)) (inl refl)
          (claims_goes more (q + 1) (DidStep (OnChain (ClaimRequest socket q)) found ∷ ds) (omega (arith, all)) (one_more_taken q socket found ds taken (odd_of found odd)) (inr put))),
    )

    abbrev looked : ℕ → ℕ → Program
    looked m found = cond (eqb (vref_version found % 2) 0) (others m 0) (post id 1009 n (release (socket_id_slot socket) (λ _. next)))

    -- of this many requests
    live_goes : (m : ℕ) → m ≡ requests → (found : ℕ) (ds : List Deed) → In (DidPut asked) ds → Steps requests is_call reads (OnSlot (LookWord socket)) (looked requests) found (sending ds) (others m 0)
    live_goes zero all found ds put = fulls (OnSlot (LookWord socket)) (looked requests) found ds refl (λ q low. absurd (omega (arith, low, all))) put
    live_goes (suc m) all found ds put = grows (OnSlot (LookWord socket)) (looked requests) found ds (others (suc m) 0) (inl refl) (claims_goes m 0 (DidStep (OnSlot (LookWord socket)) found ∷ ds) (omega (arith, all)) (λ q low. absurd (omega (arith, low))) (inr put))

    looks_goes : (ds : List Deed) → In (DidPut asked) ds → In (DidStep (OnName (LoadName wanted)) (socket + 1)) ds → G (sending ds) (Do (OnSlot (LookWord socket)) (looked requests))
    looks_goes ds put load = (
      tt,
      λ found _. step_way requests is_call reads (OnSlot (LookWord socket)) (looked requests) found (sending ds) (eqb (vref_version found % 2) 0) (others requests 0) (post id 1009 n (release (socket_id_slot socket) (λ _. next)))
          (λ _. live_goes requests refl found ds put)
          (λ odd. refuses asked called id n 1009 few (Sends asked.operation id n) ds put (OnSlot (LookWord socket)) (looked requests) found (inl refl) refl (DidStep (OnSlot (LookWord socket)) found) (inl refl)
          (inr (refl, WasOdd socket found (inr load) (inl refl) (odd_of (vref_version found) odd))) (post id 1009 n (release (socket_id_slot socket) (λ _. next)))
          (posts 1009 (DidStep (OnSlot (LookWord socket)) found ∷ ds) (release (socket_id_slot socket) (λ _. next)) gives_back)),
    )

    abbrev held : Program
    held = Do (OnSlot (FindLink (socket_id_slot socket) (socket_id_version socket))) (λ k. Aside (StoreAt asked.operation (at_word (id_first id) (id_slot id) k n)) (λ _. Do (OnSlot (LookWord socket)) (looked requests)))

    abbrev reached : ℕ → Program
    reached found = cond (vref_version found == socket_id_version socket) held (release (socket_id_slot socket) (λ _. post id 1009 n next))

    -- where the life is found, the at word is stored
    would : WouldStore asked.operation id n (attempt requests asked id n socket next)
    would = (
      socket_id_version socket * 4294967296,
      tt,
      subst (λ b. WouldStore asked.operation id n (cond b held (release (socket_id_slot socket) (λ _. post id 1009 n next)))) (sym (eq-eqb (vref_version (socket_id_version socket * 4294967296)) (socket_id_version socket) (omega arith)))
          (0, omega arith, (0, refl, refl, omega arith)),
    )

    pub attempt_goes : (ds : List Deed) → In (DidPut asked) ds → In (DidStep (OnName (LoadName wanted)) (socket + 1)) ds → G (bare (Tries id n) ds) (attempt requests asked id n socket next)
    attempt_goes ds put load = (
      tt,
      λ found _. step_way requests is_call reads (OnSlot (AddRef socket)) reached found (bare (Tries id n) ds) (vref_version found == socket_id_version socket) held (release (socket_id_slot socket) (λ _. post id 1009 n next))
          (λ _. (
            bare (Tries id n) (DidStep (OnSlot (AddRef socket)) found ∷ ds),
            inl (inl refl, inl (refl, refl)),
            (
              tt,
              λ k low. (
                bare (Tries id n) (DidStep (OnSlot (FindLink (socket_id_slot socket) (socket_id_version socket))) k ∷ DidStep (OnSlot (AddRef socket)) found ∷ ds),
                inl (inl refl, inl (refl, refl)),
                (
                  tt,
                  λ _ _. (
                    sending (DidStep (OnSlot (FindLink (socket_id_slot socket) (socket_id_version socket))) k ∷ DidStep (OnSlot (AddRef socket)) found ∷ ds),
                    ((id, n, k, refl, refl, low, few, refl), inl (refl, refl)),
                    looks_goes (DidStep (OnSlot (FindLink (socket_id_slot socket) (socket_id_version socket))) k ∷ DidStep (OnSlot (AddRef socket)) found ∷ ds) (inr (inr put)) (inr (inr load)),
                  ),
                ),
              ),
            ),
          ))
          (λ other. refuses asked called id n 1009 few (Tries id n) ds put (OnSlot (AddRef socket)) reached found (inr (refl, would)) refl (DidStep (OnSlot (AddRef socket)) found) (inl refl)
          (inr (refl, WasOther socket found (inr load) (inl refl) (not_equal (vref_version found) (socket_id_version socket) other))) (release (socket_id_slot socket) (λ _. post id 1009 n next))
          (release_keeps (IsRefused id n 1009) (DidStep (OnSlot (AddRef socket)) found ∷ ds) (socket_id_slot socket) (λ _. post id 1009 n next) (λ es _. posts 1009 es next goes))),
    )

  -- ## Calls

  begin_goes : (mine : reads ≡ false) (socket i : ℕ) (asked : Asked) → is_call asked → (ds : List Deed) → In (DidStep (OnName (LoadName (name_of asked 0))) (socket + 1)) ds → (next : Program) → G idle next → G (bare Idle ds) (begin_call requests socket i asked next)
  begin_goes mine socket i asked called ds load next goes = (
    tt,
    λ _ _. (
      bare Idle (DidPut asked ∷ ds),
      ((inl refl, called), inl (refl, refl)),
      (
        tt,
        λ found _. (
          bare (Tries (call_id i (parts found).first) 0) (DidPut asked ∷ ds),
          (refl, inl (refl, refl)),
          (
            tt,
            λ _ _. (
              bare (Tries (call_id i (parts found).first) 0) (DidPut asked ∷ ds),
              (inl refl, inl (refl, refl)),
              attempt_goes mine asked called (call_id i (parts found).first) 0 socket next (omega arith) goes (DidPut asked ∷ ds) (inl refl) (inr load),
            ),
          ),
        ),
      ),
    ),
  )

  claim_goes : (mine : reads ≡ false) (more i socket : ℕ) (asked : Asked) → is_call asked → (ds : List Deed) → In (DidStep (OnName (LoadName (name_of asked 0))) (socket + 1)) ds → (next : Program) → G idle next → G (bare Idle ds) (claim_id (suc more) i requests socket asked next)
  claim_goes mine zero i socket asked called ds load next goes = (
    tt,
    λ found _. aside_way requests is_call reads ds (bare Idle ds) (eqb found 0) (begin_call requests socket i asked next) next
        (λ _. (bare Idle ds, (inl refl, inl (refl, refl)), begin_goes mine socket i asked called ds load next goes)) (λ _. let_go requests is_call reads ds (bare Idle ds) next goes),
  )
  claim_goes mine (suc more) i socket asked called ds load next goes = (
    tt,
    λ found _. aside_way requests is_call reads ds (bare Idle ds) (eqb found 0) (begin_call requests socket i asked next) (claim_id (suc more) (i + 1) requests socket asked next)
        (λ _. (bare Idle ds, (inl refl, inl (refl, refl)), begin_goes mine socket i asked called ds load next goes))
        (λ _. (bare Idle ds, (inl refl, inl (refl, refl)), claim_goes mine more (i + 1) socket asked called ds load next goes)),
  )

  call_goes : (mine : reads ≡ false) (ids : ℕ) (asked : Asked) → is_call asked → (next : Program) → G idle next → G idle (call requests ids asked next)
  call_goes mine ids asked called next goes = (
    tt,
    λ word _. step_way requests is_call reads (OnName (LoadName (name_of asked 0))) (λ word. cond (eqb word 0) (Say asked.operation outcomes.Unopened next) (claim_id ids 0 requests (word - 1) asked next)) word idle
        (eqb word 0) (Say asked.operation outcomes.Unopened next) (claim_id ids 0 requests (word - 1) asked next) (λ _. (idle, inl (inl refl, inr (refl, refl)), goes)) (λ some_. claims ids word (not_equal word 0 some_)),
  )
    where
      claims : (ids word : ℕ) → word ≢ 0 → Steps requests is_call reads (OnName (LoadName (name_of asked 0))) (λ word. cond (eqb word 0) (Say asked.operation outcomes.Unopened next) (claim_id ids 0 requests (word - 1) asked next)) word idle (claim_id ids 0 requests (word - 1) asked next)
      claims zero word some_ = (idle, inl (inl refl, inr (refl, refl)), goes)
      claims (suc more) word some_ = (
        bare Idle (DidStep (OnName (LoadName (name_of asked 0))) word ∷ []),
        inl (inl refl, inl (refl, refl)),
        claim_goes mine more 0 (word - 1) asked called (DidStep (OnName (LoadName (name_of asked 0))) word ∷ []) (inl (ap (DidStep (OnName (LoadName (name_of asked 0)))) (omega (arith, some_)))) next goes,
      )

  -- ## Retries

  module _ (mine : reads ≡ false) (id n : ℕ) (next : Program) (few : n ≤ 6) (later : 0 < n) (goes : G idle next) where
    tried_goes : (asked : Asked) → is_call asked → (ds : List Deed) → In (DidPut asked) ds → (exit : Unlocking) → ((w e : ℕ) → exit ≡ HasNext w e → (parts w).first ≡ id_first id) → G (bare (Tries id n) ds) (tried_again requests id n asked next exit)
    tried_goes asked called ds put (IsOpen w) first = (
      tt,
      λ word _. step_way requests is_call reads (OnName (LoadName (name_of asked n))) (λ word. cond (eqb word 0) (post id 1009 n next) (attempt requests asked id n (word - 1) next)) word (bare (Tries id n) ds)
          (eqb word 0) (post id 1009 n next) (attempt requests asked id n (word - 1) next)
          (λ none_. refuses asked called id n 1009 few (Tries id n) ds put (OnName (LoadName (name_of asked n))) (λ word. cond (eqb word 0) (post id 1009 n next) (attempt requests asked id n (word - 1) next)) word (inr (refl, (1, tt, would mine asked called id n 0 next few goes))) refl
          (DidMiss (name_of asked n) asked.operation id n) (inr (name_of asked n, refl, eqb-true word 0 none_, refl, (1, tt, would mine asked called id n 0 next few goes))) (inr (refl, WasNone id later (inl refl))) (post id 1009 n next)
          (post_keeps (IsRefused id n 1009) (DidMiss (name_of asked n) asked.operation id n ∷ ds) id 1009 n next (inr (inr (mine, (refl, refl)))) goes))
          (λ some_. (
            bare (Tries id n) (DidStep (OnName (LoadName (name_of asked n))) word ∷ ds),
            inl (inl refl, inl (refl, refl)),
            attempt_goes mine asked called id n (word - 1) next few goes (DidStep (OnName (LoadName (name_of asked n))) word ∷ ds) (inr put) (inl (ap (DidStep (OnName (LoadName (name_of asked n)))) (let ne = not_equal word 0 some_ in omega (arith, ne)))),
          )),
    )
    tried_goes asked called ds put (HasNext w e) first = decide_goes requests is_call reads (bare (Tries id n) ds) id w e (decided id next) (first w e refl) (decided_goes requests is_call reads id next goes)

    locked_goes : (exit : Locking) → LeavesLock (First (id_first id)) exit → G (bare (locked_trial exit (Tries id n)) []) (retry_locked requests id n next exit)
    locked_goes (NotThere w) l = goes
    locked_goes (Has w) l = (
      tt,
      λ asked called. (
        bare (Tries id n) [],
        (inl refl, inl (refl, refl)),
        (
          tt,
          λ _ _. (
            bare (Tries id n) (DidPut asked ∷ []),
            ((inl refl, called), inl (refl, refl)),
            ((tt, refl), λ exit m _. tried_goes asked called (DidPut asked ∷ []) (inl refl) exit (λ x e is. next_first exit x e is m.1 ∙ l)),
          ),
        ),
      ),
    )
      where
        next_first : (exit : Unlocking) (x e : ℕ) → exit ≡ HasNext x e → LeavesUnlock (parts w).first exit → (parts x).first ≡ (parts w).first
        next_first exit x e is m = subst (LeavesUnlock (parts w).first) is m

    pub retry_goes : G (bare (Tries id n) []) (retry requests id n next)
    retry_goes = ((tt, tt), λ exit l _. locked_goes exit l)

  -- ## The other operations on calls

  expire_goes : (mine : reads ≡ false) (o t : ℕ) (next : Program) → G idle next → G idle (expire o t next)
  expire_goes mine o t next goes = (
    tt,
    λ id _. let_go requests is_call reads [] idle (cond (eqb id 0) (Say o outcomes.NotBegun next) (post_with id (error_of 1008 7) (λ how. posted id (error_of 1008 7) (Say o (expire_outcome how) next) how)))
        (split (eqb id 0) (Say o outcomes.NotBegun next) (post_with id (error_of 1008 7) (λ how. posted id (error_of 1008 7) (Say o (expire_outcome how) next) how))
        (λ _. goes) (λ _. post_with_goes requests is_call reads idle id (error_of 1008 7) (λ how. posted id (error_of 1008 7) (Say o (expire_outcome how) next) how) (inr (inl (mine, refl)))
        (λ how l. posted_goes requests is_call reads id (error_of 1008 7) (Say o (expire_outcome how) next) goes how l))),
  )

  join_goes : (o t : ℕ) (next : Program) → G idle next → G idle (join o t next)
  join_goes o t next goes = (
    tt,
    λ id _. let_go requests is_call reads [] idle (cond (eqb id 0) (Say o outcomes.NotBegun next) (Round (Joins id) (λ _. Say o outcomes.Joined next)))
        (split (eqb id 0) (Say o outcomes.NotBegun next) (Round (Joins id) (λ _. Say o outcomes.Joined next)) (λ _. goes) (λ _. ((tt, tt), λ _ _ _. goes))),
  )

  -- ## Clients

  claim_from_goes : (mine : reads ≡ false) (more q o id : ℕ) (bytes : List ℕ) (next : Program) → G idle next → G idle (claim_from more q o id bytes next)
  claim_from_goes mine zero q o id bytes next goes = through_release (G idle) words (socket_id_slot id) (λ _. Say o outcomes.Full next) (λ _. goes)
  claim_from_goes mine (suc more) q o id bytes next goes = (
    tt,
    λ found _. then_ (OnChain (ClaimRequest id q)) _ found idle (split (found % 2 == 0) (accept id q (found / 2) (heading_of o) bytes (release (socket_id_slot id) (λ _. Sent o next))) (claim_from more (q + 1) o id bytes next)
        (λ _. accept_goes mine idle id q (found / 2) (heading_of o) bytes (release (socket_id_slot id) (λ _. Sent o next)) (inl (refl, refl)) (through_release (G idle) words (socket_id_slot id) (λ _. Sent o next) (λ _. goes)))
        (λ _. claim_from_goes mine more (q + 1) o id bytes next goes)),
  )

  send_goes : (mine : reads ≡ false) (o name : ℕ) (bytes : List ℕ) (next : Program) → G idle next → G idle (send requests o name bytes next)
  send_goes mine o name bytes next goes = through_reach (G idle) words name (Say o outcomes.Unopened next) (λ id. start requests o id bytes next) (λ found. Say o (outcomes.Gone (record { 0 = found })) next) goes
      (λ id. (
        tt,
        λ found _. then_ (OnSlot (LookWord id)) _ found idle (split (vref_version found % 2 == 0) (claim_from requests 0 o id bytes next) (release (socket_id_slot id) (λ _. Say o (outcomes.Gone (record { 0 = found })) next))
            (λ _. claim_from_goes mine requests 0 o id bytes next goes) (λ _. through_release (G idle) words (socket_id_slot id) (λ _. Say o (outcomes.Gone (record { 0 = found })) next) (λ _. goes))),
      ))
      (λ found. goes)

  operation_goes : (mine : reads ≡ false) (sizes : Sizes) → sizes.requests ≡ requests → (held : List HeldLife) (o : ℕ) (next : List HeldLife → Program) (op : Op) → OpCalls is_call op → ((hs : List HeldLife) → G idle (next hs)) → G idle (operation sizes held o next op)
  operation_goes mine sizes size held o next (ops.Open name k) called goes = through_open (G idle) words (others_make (G idle) others_go) sizes.slots 0 o name k (next held) (goes held)
  operation_goes mine sizes size held o next (ops.Send name bytes) called goes = subst (λ r. G idle (send r o name bytes (next held))) (sym size) (send_goes mine o name bytes (next held) (goes held))
  operation_goes mine sizes size held o next (ops.Call asked) called goes = subst (λ r. G idle (call r sizes.ids asked (next held))) (sym size) (call_goes mine sizes.ids asked called (next held) (goes held))
  operation_goes mine sizes size held o next (ops.Expire t) called goes = expire_goes mine o t (next held) (goes held)
  operation_goes mine sizes size held o next (ops.Join t) called goes = join_goes o t (next held) (goes held)
  operation_goes mine sizes size held o next (ops.Hold name) called goes = through_hold (G idle) words o name (λ id. next (held ++ (record { name = name; id = id }) ∷ [])) (next held) (λ id. goes (held ++ (record { name = name; id = id }) ∷ [])) (goes held)
  operation_goes mine sizes size held o next (ops.Drop name) called goes = through_drop_of (G idle) words o (held_under name held) (next (without_name name held)) (goes (without_name name held))
  operation_goes mine sizes size held o next (ops.Fail name code) called goes = through_fail (G idle) words o name code (next held) (fails code) (goes held)

  pub client_goes : (mine : reads ≡ false) (sizes : Sizes) → sizes.requests ≡ requests → (held : List HeldLife) (ts : List Task) → AllByRecursion (λ (t : Task). OpCalls is_call t.op) ts → G idle (client_from sizes held ts)
  client_goes mine sizes size held [] all = (mine, size, through_back (G idle) words tt held)
  client_goes mine sizes size held (t ∷ ts) all = (mine, size, operation_goes mine sizes size held t.number (λ held'. client_from sizes held' ts) t.op all.0 (λ hs. client_goes mine sizes size hs ts all.1))

  -- ## The ending

  pub ending_goes : (os : List ℕ) → G idle (ending_of os)
  ending_goes [] = tt
  ending_goes (o ∷ os) = (tt, λ word _. then_ (OnName (LoadOpen o)) _ word idle (through_ended (G idle) words (fails 1014) word (ending_of os) (ending_goes os)))

  -- ## Readers

  ends_goes : (id e w : ℕ) (kept : List Frame) (next : Program) → (parts w).first ≡ id_first id → G idle next → G idle (ends_with id e w kept next)
  ends_goes id e w [] next first goes = decide_goes requests is_call reads idle id w e (decided id next) first (decided_goes requests is_call reads id next goes)
  ends_goes id e w (f ∷ fs) next first goes = answer_goes requests is_call reads idle f (id_first id) next goes

  last_goes : (id e : ℕ) (kept : List Frame) (next : Program) → G idle next → (exit : Posting) → LeavesLabel (Rattle.seat_programs.specs.LoopHeads.Posts id e 0) exit → G idle (posted_last id e kept next exit)
  last_goes id e kept next goes (HasLocked w) l = ends_goes id e w (kept_for id (parts w).range kept) next l goes
  last_goes id e kept next goes _ l = goes

  module _ (theirs : reads ≡ true) where
    posts_of_reader : (code n : ℕ) → (code ≡ 1014) ⊎ (code ≡ 2002) → (id : ℕ) → IsPostOf requests is_call reads NoCharge id (error_of code n)
    posts_of_reader code n (inl e) id = inl (theirs, (n, inl (ap (λ c. error_of c n) e)))
    posts_of_reader code n (inr e) id = inl (theirs, (n, inr (ap (λ c. error_of c n) e)))

    each_goes : (os : List ℕ) (k code : ℕ) → (code ≡ 1014) ⊎ (code ≡ 2002) → (kept : List Frame) (next : Program) → G idle next → G idle (post_each os k code kept next)
    each_goes [] k code is kept next goes = goes
    each_goes (o ∷ os) k code is kept next goes = (tt, λ w _. (idle, (inl refl, inr (refl, refl)), by (each_goes os k code is kept next goes) w (eqb w 0) (eqb (at_word_link w) k)))
      where
        by : G idle (post_each os k code kept next) → (w : ℕ) (z s : Bool) → G idle (cond z (post_each os k code kept next) (cond s (post_with (call_id (at_word_slot w) (at_word_first w)) (error_of code (at_word_attempt w))
            (posted_last (call_id (at_word_slot w) (at_word_first w)) (error_of code (at_word_attempt w)) kept (post_each os k code kept next))) (post_each os k code kept next)))
        by more w true s = more
        by more w false true = post_with_goes requests is_call reads idle (call_id (at_word_slot w) (at_word_first w)) (error_of code (at_word_attempt w)) (posted_last (call_id (at_word_slot w) (at_word_first w)) (error_of code (at_word_attempt w)) kept (post_each os k code kept next))
            (posts_of_reader code (at_word_attempt w) is (call_id (at_word_slot w) (at_word_first w)))
            (last_goes (call_id (at_word_slot w) (at_word_first w)) (error_of code (at_word_attempt w)) kept (post_each os k code kept next) more)
        by more w false false = more

    thrown_goes : (how : Ended) → G idle (thrown_away how)
    thrown_goes how = split (how.fault && nat_lt how.reading.total LIMIT) (Round (Discards how.reading.link how.reading.total) (λ _. Rest)) Rest (λ _. ((tt, tt), λ _ _ _. tt)) (λ _. tt)

    read_goes : (calls : List ℕ) (how : Ended) → (how.code ≡ 1014) ⊎ (how.code ≡ 2002) → G idle (read calls how)
    read_goes calls how is = through_read_end (G idle) words calls how (fails how.code) (each_goes calls how.reading.link how.code is how.reading.kept (thrown_away how) (thrown_goes how))

    pub reader_goes : (calls : List ℕ) (k o : ℕ) → G idle (reader calls k o)
    reader_goes calls k o = (
      (tt, tt),
      λ word _ _. split (word == NO_SOCKET) Rest (Round (Reads (record { ids = length calls; link = k; id = word - 1; rest = []; total = 0; kept = [] })) (read calls)) (λ _. tt) (λ _. ((tt, tt), λ how _ is. read_goes calls how is)),
    )
