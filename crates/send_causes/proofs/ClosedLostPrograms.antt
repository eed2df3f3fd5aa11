-- What each seat does about attempts of calls: it stores an at word for the link of a socket that it addressed as it was live, looks whether the socket was failed since, and then claims the requests one after another until one is free, whose message it puts and links.
use Rattle.std.proofs.Common.{◌≡◌, ℕ, zero, suc, ◌+◌, ◌/◌, ◌%◌, ◌≤◌, ◌==◌, ◌⊎◌, nat_lt, eqb-true, Bool, true, false, cond, List, [], ◌∷◌, ◌++◌, inl, inr, ⊎_elim, refl, sym, subst, arith}
use Rattle.std.proofs.lemmas.Bool.{true≢false}
use Rattle.std.specs.List.{AllByRecursion}
use Rattle.sock_words.specs.declared.plain.Plan.{Plan}
use Rattle.sock_words.specs.PackedWords.{socket_id_version, socket_id_slot, vref_version, at_word, IDLE, id_slot, id_first, bit}
use Rattle.sock_model.specs.declared.chain.Heading.{Heading}
use Rattle.sock_model.specs.declared.view.View.{View}
use Rattle.sock_model.specs.Entries.{ticket_of}
use Rattle.dropped_calls.specs.Below.sock_steps.proofs.SumsAsMarksChange.{either_way}
use Rattle.corr_core.specs.IdSlotWord.{parts}
use Rattle.sock_message.specs.Asked.{Asked, frame_of}
use Rattle.seat_programs.specs.declared.task.Op.{Op}
use Rattle.seat_programs.specs.declared.task.Task.{Task}
use Rattle.seat_programs.specs.declared.task.Sizes.{Sizes}
use Rattle.seat_programs.specs.TableSteps.{TableStep, OnSlot, OnChain, OnMessage, AddRef, LookWord, FindLink, ClaimRequest, PutMessage, Unconnect, SwapHead}
use Rattle.seat_programs.specs.ClientProgram.{HeldLife, operation, client_from}
use Rattle.seat_programs.specs.Asides.{Step, Found, StoreAt}
use Rattle.seat_programs.specs.LoopHeads.{Head, Exit, Retry, Unlocks, Opens, Unlocking}
use Rattle.seat_programs.specs.Programs.{Program, Do, Say, Sent, Write, Aside, Round, Keep, Retries, release, add_reference}
use Rattle.seat_programs.specs.PostPrograms.{post, unlocks_round}
use Rattle.seat_programs.specs.ReaderProgram.{reader}
use Rattle.seat_programs.specs.SendAndWritePrograms.{accept}
use Rattle.seat_programs.specs.CallAndRetryPrograms.{claims_from, heading_for, attempt, call, retry}
use Rattle.seat_programs.specs.LoopRounds.{round, first_step}
use Rattle.seat_programs.specs.Cores.{resolved, next_step}
use Rattle.dropped_calls.specs.Below.programs_allowed.specs.program_steps.specs.AtSteps.{Asks, AtSteps}
use Rattle.dropped_calls.specs.Below.programs_allowed.specs.program_steps.specs.IdWordFits.{FitsHead, FitsRetry}
use Rattle.dropped_calls.specs.Below.programs_allowed.specs.program_steps.specs.ProgramGoesOn.{GoesOn}
use Rattle.dropped_calls.specs.Below.programs_allowed.specs.program_walks.proofs.Through.{PassesPlain, PassesFails, PassesSends, PassesReads, any_end, is_plain_aside, reads_any, locked, at_steps_plain, at_steps_sends, through_release, through_set_failed, through_fail}
use Rattle.dropped_calls.specs.Below.programs_allowed.specs.program_walks.proofs.ThroughLoops.{through_post, through_unlocks, through_round}
use Rattle.dropped_calls.specs.Below.programs_allowed.specs.program_walks.proofs.ThroughSends.{through_block, through_write_link, through_send}
use Rattle.dropped_calls.specs.Below.programs_allowed.specs.program_walks.proofs.ThroughCalls.{through_call, through_retry, through_join, through_reading}
use Rattle.dropped_calls.specs.Below.programs_allowed.specs.program_walks.proofs.ThroughClients.{through_open, through_back, through_operation}
use Rattle.dropped_calls.specs.Below.label_runs.proofs.LoopsOfKnownSeats.{not_equal}

-- ## Where a seat stands with an attempt

-- the call's id, the socket that it addressed, and the attempt's message
pub record Try : Type 0 where
  pub id : ℕ
  pub socket : ℕ
  pub heading : Heading

-- at none; it holds the socket; it found this link; it stored the at word; it found the socket live, and each request below q taken; it claimed one; it put the message; the message is marked
pub data Mode : Type 0 where
  Free : Mode
  Held : Try → Mode
  Linked : Try → ℕ → Mode
  Stored : Try → ℕ → Mode
  Claims : Try → ℕ → ℕ → Mode
  Claimed : Try → ℕ → Mode
  Filled : Try → ℕ → Mode
  Marked : Try → ℕ → Mode

-- of so many requests
module _ (requests : ℕ) where
  -- nothing but the steps of an attempt comes at one
  abbrev AtFree : Mode → Type 0 → Type 0
  AtFree Free X = X
  AtFree other X = ⊥

  abbrev GoesAt : Mode → TableStep → (ℕ → Program) → (Mode → ℕ → Type 0) → Type 0
  GoesAt Free (OnSlot (AddRef id)) next behind = (found : ℕ) → behind Free found ⊎ ((t : Try) × (t.socket ≡ id) × (vref_version found ≡ socket_id_version id) × (t.heading.label.attempt ≤ 6) × behind (Held t) found)
  GoesAt Free call next behind = (found : ℕ) → behind Free found
  GoesAt (Held t) (OnSlot (FindLink i h)) next behind = (i ≡ socket_id_slot t.socket) × (h ≡ socket_id_version t.socket) × ((k : ℕ) → behind (Linked t k) k)
  GoesAt (Stored t k) (OnSlot (LookWord s)) next behind = (s ≡ t.socket) × ((found : ℕ) → (vref_version found % 2 ≡ 0 → behind (Claims t k 0) found ⊎ ((0 ≡ requests) × behind Free found)) × (vref_version found % 2 ≡ 1 → behind Free found))
  GoesAt (Claims t k q) (OnChain (ClaimRequest s r)) next behind = (r ≡ q) × ((found : ℕ) → (found % 2 ≡ 0 → behind (Claimed t k) found) × (found % 2 ≡ 1 → behind (Claims t k (q + 1)) found ⊎ ((q + 1 ≡ requests) × behind Free found)))
  GoesAt (Claimed t k) (OnMessage (PutMessage r heading bytes)) next behind = (heading ≡ t.heading) × ((found : ℕ) → behind (Filled t k) found)
  GoesAt (Filled t k) (OnChain (Unconnect r)) next behind = (found : ℕ) → behind (Marked t k) found
  GoesAt (Marked t k) (OnChain (SwapHead i own)) next behind = (found : ℕ) → behind Free found
  GoesAt m call next behind = ⊥

  abbrev GoesBeside : Mode → (step : Step) → (Found step → Program) → (Mode → Found step → Type 0) → Type 0
  GoesBeside Free (StoreAt o w) next behind = ⊥
  GoesBeside Free step next behind = (found : Found step) → behind Free found
  GoesBeside (Linked t k) (StoreAt o w) next behind = (o ≡ t.heading.label.operation) × (w ≡ at_word (id_first t.id) (id_slot t.id) k t.heading.label.attempt) × ((found : ℕ) → behind (Stored t k) found)
  GoesBeside m step next behind = ⊥

  abbrev GoesLoop : Mode → (head : Head) → (Mode → Exit head → Type 0) → Type 0
  GoesLoop Free (Unlocks i w advance) behind = (exit : Unlocking) → (parts w).attempt + bit advance ≤ 6 → behind Free exit
  GoesLoop Free head behind = (exit : Exit head) → behind Free exit
  GoesLoop m head behind = ⊥

  abbrev asks : Asks Mode
  asks = record {
    rest = λ m. AtFree m (Unit {0});
    word = GoesAt;
    said = λ m behind. AtFree m (behind Free);
    moved = λ m behind. AtFree m (behind Free);
    written = λ m behind. AtFree m (behind Free);
    beside = GoesBeside;
    loop = GoesLoop;
    kept = λ m r behind. AtFree m ((r.attempt ≤ 6) × behind Free);
    tried = λ m many behind. AtFree m ((many ≡ requests) × behind Free);
  }

  -- the program makes each attempt so
  abbrev pub Goes : Mode → Program → Type 0
  Goes m program = AtSteps asks m program

  abbrev pub G : Program → Type 0
  G program = Goes Free program

  -- behind the address of a socket, whose word was this
  abbrev Ways : ℕ → ℕ → Program → Type 0
  Ways id found program = Goes Free program ⊎ ((t : Try) × (t.socket ≡ id) × (vref_version found ≡ socket_id_version id) × (t.heading.label.attempt ≤ 6) × Goes (Held t) program)

  -- ## Parts that are no attempt

  goes_call : (call : TableStep) (next : ℕ → Program) → ((found : ℕ) → G (next found)) → G (Do call next)
  goes_call (OnSlot (AddRef id)) next r = λ found. inl (r found)
  goes_call call next r = r

  goes_aside : (step : Step) (next : Found step → Program) → is_plain_aside step ≡ true → ((found : Found step) → G (next found)) → G (Aside step next)
  goes_aside (StoreAt o w) next is r = absurd (true≢false (sym is))
  goes_aside step next is r = r

  goes_loop : (head : Head) (next : Exit head → Program) → ((exit : Exit head) → G (next exit)) → G (Round head next)
  goes_loop (Unlocks i w advance) next r = λ exit few. r exit
  goes_loop head next r = r

  goes_plain : PassesPlain G
  goes_plain = at_steps_plain asks Free (λ call next is r. goes_call call next r) (λ behind r. r) goes_aside (λ head next is r. goes_loop head next r) (λ id w next r exit few. (few, r exit))

  goes_fails : (code : ℕ) → PassesFails G code
  goes_fails = through_set_failed G goes_plain.words (λ call next is r. goes_call call next r)

  goes_sends : PassesSends G
  goes_sends = at_steps_sends asks Free goes_plain (λ call next is r. goes_call call next r) (λ behind r. r) (λ behind r. r) (λ behind r. r) (goes_fails 1009)

  goes_reads : PassesReads any_end G
  goes_reads = reads_any G goes_plain (λ head l next r. goes_loop head next r) (λ k room next r. r)

  -- ## Calls

  module _ (t : Try) (bytes : List ℕ) (full accepted : Program) (fails : G full) (goes : G accepted) where
    accepts : (k q n : ℕ) → Goes (Claimed t k) (accept t.socket q n t.heading bytes accepted)
    accepts k q n = (refl, λ _ _ found. either_way (nat_lt found IDLE) _ _ G (λ _. goes) (through_write_link G G goes_plain goes_sends.links t.socket q (ticket_of q n) accepted goes))

    abbrev from : ℕ → ℕ → Program
    from more q = claims_from more q t.socket t.heading bytes full accepted

    abbrev Ahead : ℕ → ℕ → Program → Type 0
    Ahead k q program = Goes (Claims t k q) program ⊎ ((q ≡ requests) × G program)

    claims_one : (k more q : ℕ) → Ahead k (q + 1) (from more (q + 1)) → (found : ℕ) (b : Bool) → (found % 2 == 0) ≡ b
        → (found % 2 ≡ 0 → Goes (Claimed t k) (cond b (accept t.socket q (found / 2) t.heading bytes accepted) (from more (q + 1)))) × (found % 2 ≡ 1 → Ahead k (q + 1) (cond b (accept t.socket q (found / 2) t.heading bytes accepted) (from more (q + 1))))
    claims_one k more q further found true is = (λ even. accepts k q (found / 2), λ odd. absurd (let even : found % 2 ≡ 0 = eqb-true (found % 2) 0 is in omega (arith, even, odd)))
    claims_one k more q further found false is = (λ even. absurd (not_equal (found % 2) 0 is even), λ odd. further)

    -- the requests from q on
    claims : (k more q : ℕ) → more + q ≡ requests → Ahead k q (from more q)
    claims k zero q e = inr (omega (arith, e), fails)
    claims k (suc more) q e = let further = claims k more (q + 1) (omega (arith, e)) in inl (refl, λ found. claims_one k more q further found (found % 2 == 0) refl)

  -- the bytes of the frame play no part
  module _ (t : Try) (bytes : List ℕ) (next : Program) (few : t.heading.label.attempt ≤ 6) (after : G next) where
    abbrev rest : Program
    rest = release (socket_id_slot t.socket) (λ _. next)

    abbrev failing : ℕ → Program
    failing code = post t.id code t.heading.label.attempt (release (socket_id_slot t.socket) (λ _. next))

    abbrev claiming : Program
    claiming = claims_from requests 0 t.socket t.heading bytes (failing 3001) rest

    abbrev linking : Program
    linking = Do (OnSlot (FindLink (socket_id_slot t.socket) (socket_id_version t.socket))) (λ k. Aside (StoreAt t.heading.label.operation (at_word (id_first t.id) (id_slot t.id) k t.heading.label.attempt)) (λ _. Do (OnSlot (LookWord t.socket)) (λ found. cond (vref_version found % 2 == 0) claiming (failing 1009))))

    rests : G rest
    rests = through_release G goes_plain.words (socket_id_slot t.socket) (λ _. next) (λ _. after)

    fails : (code : ℕ) → G (failing code)
    fails code = through_post G goes_plain.errors t.id code t.heading.label.attempt rest rests

    looks : (k found : ℕ) (b : Bool) → (vref_version found % 2 == 0) ≡ b → (vref_version found % 2 ≡ 0 → Goes (Claims t k 0) (cond b claiming (failing 1009)) ⊎ ((0 ≡ requests) × G (cond b claiming (failing 1009)))) × (vref_version found % 2 ≡ 1 → G (cond b claiming (failing 1009)))
    looks k found true is = (λ even. claims t bytes (failing 3001) rest (fails 3001) rests k requests 0 (omega arith), λ odd. absurd (let even : vref_version found % 2 ≡ 0 = eqb-true (vref_version found % 2) 0 is in omega (arith, even, odd)))
    looks k found false is = (λ even. absurd (not_equal (vref_version found % 2) 0 is even), λ odd. fails 1009)

    ways : (found : ℕ) (b : Bool) → (vref_version found == socket_id_version t.socket) ≡ b → Ways t.socket found (cond b linking (release (socket_id_slot t.socket) (λ _. post t.id 1009 t.heading.label.attempt next)))
    ways found true is = inr (t, refl, eqb-true (vref_version found) (socket_id_version t.socket) is, few, (refl, refl, λ k. (refl, refl, λ _. (refl, λ word. looks k word (vref_version word % 2 == 0) refl))))
    ways found false is = inl (through_release G goes_plain.words (socket_id_slot t.socket) (λ _. post t.id 1009 t.heading.label.attempt next) (λ _. through_post G goes_plain.errors t.id 1009 t.heading.label.attempt next after))

    goes_tries : G (add_reference t.socket linking (λ _. post t.id 1009 t.heading.label.attempt next))
    goes_tries = λ found. ways found (vref_version found == socket_id_version t.socket) refl

  goes_attempt : (asked : Asked) (id n socket : ℕ) (next : Program) → n ≤ 6 → G next → G (attempt requests asked id n socket next)
  goes_attempt asked id n socket next few after = goes_tries (record { id = id; socket = socket; heading = heading_for asked id n }) (frame_of asked id n) next few after

  goes_retry : (id n : ℕ) (next : Program) → n ≤ 6 → G next → G (retry requests id n next)
  goes_retry id n next few after = through_retry G goes_plain requests id n next after (λ asked socket. goes_attempt asked id n socket next few after) (λ i sought w next r. r)

  -- ## Clients and the ending

  goes_operation : (sizes : Sizes) → sizes.requests ≡ requests → (held : List HeldLife) (o : ℕ) (next : List HeldLife → Program) (op : Op) → ((h : List HeldLife) → G (next h)) → G (operation sizes held o next op)
  goes_operation sizes size held o next op after = through_operation G goes_plain sizes held o next op after (record {
    opens = λ name k e. through_open G goes_plain.words (λ call next is r. goes_call call next r) sizes.slots 0 o name k (next held) (after held);
    sends = λ name bytes e. through_send G goes_sends sizes.requests o name bytes (next held) (after held);
    calls = λ asked e. subst (λ n. G (call n sizes.ids asked (next held))) (sym size)
        (through_call G goes_plain requests asked (next held) (after held) (λ id socket. goes_attempt asked id 0 socket (next held) (omega arith) (after held)) sizes.ids);
    joins = λ t e. through_join G goes_plain (λ id next r. r) o t (next held) (after held);
    fails = λ name code e. through_fail G goes_plain.words o name code (next held) (goes_fails code) (after held);
  })

  pub client_goes : (sizes : Sizes) → sizes.requests ≡ requests → (ts : List Task) (held : List HeldLife) → G (client_from sizes held ts)
  client_goes sizes size [] held = (size, through_back G goes_plain.words tt held)
  client_goes sizes size (t ∷ ts) held = (size, goes_operation sizes size held t.number (λ h. client_from sizes h ts) t.op (λ h. client_goes sizes size ts h))

  -- ## Readers

  pub reader_goes : (calls : List ℕ) (k o : ℕ) → G (reader calls k o)
  reader_goes calls k o = λ word. through_reading any_end G goes_reads (λ how e. goes_fails how.code) tt calls k word

  -- ## The next step

  goes_unlocks_at : (p : Plan) (i w : ℕ) (advance : Bool) (next : Unlocking → Program) → FitsHead p (Unlocks i w advance) → G (Round (Unlocks i w advance) next) → G (unlocks_round i w advance next)
  goes_unlocks_at p i w advance next fits x = through_unlocks G (locked goes_plain.errors) i w advance next (λ exit. x exit (omega (arith, fits)))

  goes_round : (p : Plan) (v : View) (head : Head) (next : Exit head → Program) → GoesOn p v (Round head next) → G (Round head next) → G (round head next)
  goes_round p v (Unlocks i w advance) next g x = goes_unlocks_at p i w advance next g.0.0 x
  goes_round p v (Opens o) next g x = λ word. either_way (word == 0) _ _ G x (x word)
  goes_round p v head next g x = through_round any_end G goes_reads (λ id next r. r) head refl next (λ exit _. x exit)

  -- the first step of a round
  first_free : (p : Plan) (v : View) (program : Program) → GoesOn p v program → G program → G (first_step program)
  first_free p v (Write w after) g x = through_block G G goes_plain goes_sends.links w after x
  first_free p v (Round head next) g x = goes_round p v head next g x
  first_free p v _ g x = x

  -- whoever is at an attempt makes a step next
  at_step : (m : Mode) (program : Program) → Goes m program → (m ≡ Free) ⊎ ((first_step program ≡ program) × ((ws : List Retry) → next_step (resolved ws program) ≡ program))
  at_step Free program x = inl refl
  at_step m (Do call next) x = inr (refl, λ ws. refl)
  at_step m (Aside step next) x = inr (refl, λ ws. refl)
  at_step m _ x = absurd x

  pub goes_first : (p : Plan) (v : View) (m : Mode) (program : Program) → GoesOn p v program → Goes m program → Goes m (first_step program)
  goes_first p v m program g x = ⊎_elim (λ e. subst (λ n. Goes n (first_step program)) (sym e) (first_free p v program g (subst (λ n. Goes n program) e x))) (λ a. subst (Goes m) (sym a.0) x) (at_step m program x)

  few_more : (ws : List Retry) (r : Retry) → AllByRecursion FitsRetry ws → r.attempt ≤ 6 → AllByRecursion FitsRetry (ws ++ r ∷ [])
  few_more [] r all one = (one, tt)
  few_more (w ∷ ws) r all one = (all.0, few_more ws r all.1 one)

  next_free : (ws : List Retry) (program : Program) → AllByRecursion FitsRetry ws → G program → G (next_step (resolved ws program))
  next_free ws (Say o outcome next) all x = next_free ws next all x
  next_free ws (Sent o next) all x = next_free ws next all x
  next_free ws (Keep r next) all x = next_free (ws ++ r ∷ []) next (few_more ws r all x.0) x.1
  next_free [] (Retries many after) all x = next_free [] after tt x.1
  next_free (r ∷ ws) (Retries many after) all x = subst (λ n. G (retry n r.id r.attempt (Retries many after))) (sym x.0) (goes_retry r.id r.attempt (Retries many after) all.0 x)
  next_free ws _ all x = x

  pub goes_next : (m : Mode) (ws : List Retry) (program : Program) → AllByRecursion FitsRetry ws → Goes m program → Goes m (next_step (resolved ws program))
  goes_next m ws program all x = ⊎_elim (λ e. subst (λ n. Goes n (next_step (resolved ws program))) (sym e) (next_free ws program all (subst (λ n. Goes n program) e x))) (λ a. subst (Goes m) (sym (a.1 ws)) x) (at_step m program x)
