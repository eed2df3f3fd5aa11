-- The programs of clients, readers and the ending follow what leads to attempts, and so does one round of each loop. (As Programs of label_runs has it for the attempts.)
use Rattle.std.proofs.Common.{◌≡◌, ℕ, zero, suc, ◌+◌, ◌-◌, ◌/◌, ◌%◌, ◌≤◌, ◌==◌, inl, inr, Bool, true, false, cond, eqb, eqb-true, sym, ap, ⊎_elim, List, [], ◌∷◌, refl, ◌∙◌, subst, arith}
use Rattle.std.specs.List.{AllByRecursion}
use Rattle.sock_words.specs.PackedWords.{socket_id_slot, socket_id_version, vref_version, at_word, call_id, id_slot, id_first}
use Rattle.sock_words.specs.declared.outcome.Outcome.TheVariants as outcomes
use Rattle.sock_message.specs.Asked.{Asked, name_of, frame_of}
use Rattle.sock_model.specs.declared.chain.Heading.{Heading}
use Rattle.corr_core.specs.IdSlotWord.{parts}
use Rattle.seat_programs.specs.declared.task.Sizes.{Sizes}
use Rattle.seat_programs.specs.declared.task.Task.{Task}
use Rattle.seat_programs.specs.Asides.{Step, Found, PutCall, MakeId, StoreCall, StoreAt}
use Rattle.seat_programs.specs.CallAndRetryPrograms.{claims_from, heading_for, attempt, begin_call, claim_id, call, tried_again, retry_locked, retry}
use Rattle.seat_programs.specs.TableSteps.{TableStep, OnSlot, OnName, OnChain, OnMessage, PutMessage, ClaimRequest, LoadName, FindLink, LookWord, ClaimSlot}
use Rattle.seat_programs.specs.ClientProgram.{HeldLife, client_from, ending_of}
use Rattle.seat_programs.specs.LoopHeads.{Head, Exit, Posts, First, Unlocking, IsOpen, HasNext, Locking, NotThere, Has}
use Rattle.seat_programs.specs.PostPrograms.{post, decided}
use Rattle.seat_programs.specs.Programs.{Program, Do, Say, Rest, Write, Aside, Round, release}
use Rattle.seat_programs.specs.ReaderProgram.{reader}
use Rattle.seat_programs.specs.LoopRounds.{round}
use Rattle.seat_programs.specs.SendAndWritePrograms.{block, accept}
use Rattle.seat_programs.specs.Writings.{Writing}
use Rattle.own_decisions.specs.Below.label_runs.specs.AttemptLabelsLeft.{AtLabel, LeavesLabel, LeavesLock, LeavesUnlock}
use Rattle.own_decisions.specs.Below.label_runs.proofs.LoopsOfKnownSeats.{id_back, not_equal, is_plain, is_plain_aside, HoldsBehind, Tracks, behind, way, post_goes, decide_goes, decided_goes, round_goes}
use Rattle.own_decisions.specs.Below.label_runs.proofs.OperationsKeepKnown as kept
use Rattle.own_decisions.specs.Below.label_runs.proofs.OperationsKeepKnown.{OpCalls, release_goes, address_goes, accept_goes}
use Rattle.attempted_calls.proofs.EndedTrails.{Trail, lost, Stays, NoCall, Makes, Knows, with_link, GoesDo, GoesAside, MayAttempt, Follows}

module _ (is_call : Asked → Type 0) where
  may_plain : (t : Trail) (call : TableStep) → is_plain call ≡ true → MayAttempt is_call t call
  may_plain t (OnMessage (PutMessage q heading bytes)) plain = absurd (let e = plain in cc)
  may_plain t call plain = tt

  stays_plain : (t : Trail) (call : TableStep) (found : ℕ) → is_plain call ≡ true → GoesDo t call found t
  stays_plain t (OnChain (ClaimRequest s q)) found plain = absurd (let e = plain in cc)
  stays_plain t (OnSlot (ClaimSlot i)) found plain = inl refl
  stays_plain t (OnName (LoadName n)) found plain = inl refl
  stays_plain t call found plain = inl refl

  lost_by : (t : Trail) (call : TableStep) (found : ℕ) → GoesDo t call found lost
  lost_by t (OnName (LoadName m)) found = inr (inl refl)
  lost_by t (OnChain (ClaimRequest s q)) found = inr (inl refl)
  lost_by t (OnSlot (FindLink i h)) found = inr (inl refl)
  lost_by t call found = inr refl

  aside_goes : (step : Step) → is_plain_aside step ≡ true → (after : Program) (found : Found step) (t u : Trail) → Stays t u → GoesAside is_call t step after found u
  aside_goes (PutCall i asked) plain after found t u s = absurd (let e = plain in cc)
  aside_goes (MakeId i range) plain after found t u s = absurd (let e = plain in cc)
  aside_goes (StoreCall o id) plain after found t u s = absurd (let e = plain in cc)
  aside_goes (StoreAt o w) plain after found t u s = absurd (let e = plain in cc)
  aside_goes step plain after found t u s = s

  rounds : (t : Trail) (head : Head) (next : Exit head → Program) → AtLabel is_call head → ((exit : Exit head) → LeavesLabel head exit → Follows is_call (behind lost (λ i w advance u. u) (λ exit u. lost) head exit t) (next exit)) → Follows is_call t (Round head next)
  rounds t (Posts id e w) next at goes = (at, goes)
  rounds t _ next at goes = (at, goes)

  passes : (t : Trail) (program : Program) → HoldsBehind lost (Follows is_call) t program → Follows is_call t program
  passes t Rest goes = tt
  passes t _ goes = goes

  pub tracks : Tracks lost (λ i w advance t. t) (λ exit t. lost) is_call (Follows is_call)
  tracks = record {
    step = λ t call next plain goes. (may_plain t call plain, λ found _. (t, stays_plain t call found plain, goes found));
    looks = λ t call next plain goes. (may_plain t call plain, λ found _. (lost, lost_by t call found, goes found));
    claim = λ s q next goes. (tt, λ found _. (lost, inl refl, goes found));
    send = λ q o bytes next goes. (inl refl, λ found _. (lost, inl refl, goes found));
    passes = passes;
    aside = λ t step next plain goes found f. let x = goes found f in (x.0, aside_goes step plain (next found) found t x.0 x.1, x.2);
    puts_call = λ t i asked next call goes found _. (lost, (inl (inr refl), call), goes found);
    unlock = λ t i from advance next goes found f. (t, inl refl, ⊎_elim (λ a. a.1) (λ b. b.1) (goes found f));
    round = rounds;
    keep = λ id w next first few goes. (few, goes);
    again = λ t i from found b first attempt. refl;
    unmoved = λ t i w. refl;
    locking = λ exit t. inr refl;
  }

  -- one round of each loop
  pub follows_round : (t : Trail) (head : Head) (k : Exit head → Program) → Follows is_call t (Round head k) → Follows is_call t (round head k)
  follows_round t (Posts id e from) k x = round_goes tracks t (Posts id e from) k x.0 x.1
  follows_round t head k x = round_goes tracks t head k x.0 x.1

  pub block_goes : (t : Trail) (w : Writing) (after : Program) → Follows is_call t (Write w after) → Follows is_call t (block w after)
  block_goes t w after goes = kept.block_goes tracks t w after goes

  -- ## Attempts

  -- the seat tries an attempt of the call with this id over this socket
  abbrev trying : Asked → ℕ → ℕ → ℕ → Trail
  trying asked id n socket = record { name = (name_of asked n, socket) ∷ []; claimed = false; of = Knows asked.operation id; linked = []; stored = [] }

  -- and has stored its at word, which tells link k
  abbrev sending : Asked → ℕ → ℕ → ℕ → ℕ → Trail
  sending asked id n socket k = record { name = (name_of asked n, socket) ∷ []; claimed = false; of = Knows asked.operation id; linked = k ∷ []; stored = (asked.operation, at_word (id_first id) (id_slot id) k n) ∷ [] }

  module _ (requests : ℕ) (asked : Asked) (called : is_call asked) (id n socket : ℕ) (next : Program) (few : n ≤ 6) (goes : Follows is_call lost next) where
    abbrev has_claim : ℕ → Trail
    has_claim k = record { name = (name_of asked n, socket) ∷ []; claimed = true; of = Knows asked.operation id; linked = k ∷ []; stored = (asked.operation, at_word (id_first id) (id_slot id) k n) ∷ [] }

    back_goes : (t : Trail) → Follows is_call t (post id 1009 n (release (socket_id_slot socket) (λ _. next)))
    back_goes t = post_goes tracks t id 1009 n (release (socket_id_slot socket) (λ _. next)) (release_goes tracks lost (socket_id_slot socket) (λ _. next) (λ _. goes))

    full_goes : (t : Trail) → Follows is_call t (post id 3001 n (release (socket_id_slot socket) (λ _. next)))
    full_goes t = post_goes tracks t id 3001 n (release (socket_id_slot socket) (λ _. next)) (release_goes tracks lost (socket_id_slot socket) (λ _. next) (λ _. goes))

    claims_goes : (k more q : ℕ) (heading : Heading) (bytes : List ℕ) → MayAttempt is_call (has_claim k) (OnMessage (PutMessage q heading bytes))
        → Follows is_call (sending asked id n socket k) (claims_from more q socket heading bytes (post id 3001 n (release (socket_id_slot socket) (λ _. next))) (release (socket_id_slot socket) (λ _. next)))
    claims_goes k zero q heading bytes may = full_goes (sending asked id n socket k)
    claims_goes k (suc more) q heading bytes may = (tt, λ found _. by (claims_goes k more (q + 1) heading bytes may) found (found % 2 == 0) refl)
      where
        by : Follows is_call (sending asked id n socket k) (claims_from more (q + 1) socket heading bytes (post id 3001 n (release (socket_id_slot socket) (λ _. next))) (release (socket_id_slot socket) (λ _. next)))
            → (found : ℕ) (b : Bool) → (found % 2 == 0) ≡ b → (u : Trail) × GoesDo (sending asked id n socket k) (OnChain (ClaimRequest socket q)) found u
            × Follows is_call u (cond b (accept socket q (found / 2) heading bytes (release (socket_id_slot socket) (λ _. next))) (claims_from more (q + 1) socket heading bytes (post id 3001 n (release (socket_id_slot socket) (λ _. next))) (release (socket_id_slot socket) (λ _. next))))
        by later found true free = (has_claim k, inr (inr (eqb-true (found % 2) 0 free, name_of asked n, refl, refl)), accept_goes tracks (has_claim k) socket q (found / 2) heading bytes (release (socket_id_slot socket) (λ _. next)) (λ next later. (may, λ found _. (lost, inr refl, later found))) (release_goes tracks lost (socket_id_slot socket) (λ _. next) (λ _. goes)))
        by later found false used = (sending asked id n socket k, inl refl, later)

    looks_goes : (k : ℕ) (heading : Heading) (bytes : List ℕ) → MayAttempt is_call (has_claim k) (OnMessage (PutMessage 0 heading bytes)) → Follows is_call (sending asked id n socket k) (Do (OnSlot (LookWord socket)) (λ found. cond (eqb (vref_version found % 2) 0)
        (claims_from requests 0 socket heading bytes (post id 3001 n (release (socket_id_slot socket) (λ _. next))) (release (socket_id_slot socket) (λ _. next))) (post id 1009 n (release (socket_id_slot socket) (λ _. next)))))
    looks_goes k heading bytes may = (
      tt,
      λ found _. (
        sending asked id n socket k,
        inl refl,
        way tracks (sending asked id n socket k) (eqb (vref_version found % 2) 0) (claims_from requests 0 socket heading bytes (post id 3001 n (release (socket_id_slot socket) (λ _. next))) (release (socket_id_slot socket) (λ _. next)))
            (post id 1009 n (release (socket_id_slot socket) (λ _. next)))
            (λ _. claims_goes k requests 0 heading bytes may)
            (λ _. back_goes (sending asked id n socket k)),
      ),
    )

    pub attempt_goes : Follows is_call (trying asked id n socket) (attempt requests asked id n socket next)
    attempt_goes = address_goes tracks (trying asked id n socket) socket (Do (OnSlot (FindLink (socket_id_slot socket) (socket_id_version socket))) (λ k. Aside (StoreAt asked.operation (at_word (id_first id) (id_slot id) k n)) (λ _. Do (OnSlot (LookWord socket)) (λ found. cond (eqb (vref_version found % 2) 0)
        (claims_from requests 0 socket (heading_for asked id n) (frame_of asked id n) (post id 3001 n (release (socket_id_slot socket) (λ _. next))) (release (socket_id_slot socket) (λ _. next))) (post id 1009 n (release (socket_id_slot socket) (λ _. next)))))))
        (λ _. post id 1009 n next) (
          tt,
          λ k low. (
            with_link k (trying asked id n socket),
            inr (inr (name_of asked n, socket, refl, refl, refl, refl)),
            λ _ _. (
              sending asked id n socket k,
              (inr refl, record { of = record { asked = asked; called = called; operation = refl; id = id; attempt = n; link = k; word = refl; small = low; few = few }; socket = socket; knows = refl; name = refl; linked = refl }),
              looks_goes k (heading_for asked id n) (frame_of asked id n) (inr (asked, socket, called, refl, refl, refl, (k, refl, refl))),
            ),
          ),
        )
        (λ _. post_goes tracks (trying asked id n socket) id 1009 n next goes)

  -- ## Calls

  -- a call found its socket
  abbrev named : Asked → ℕ → Trail
  named asked socket = record { name = (name_of asked 0, socket) ∷ []; claimed = false; of = NoCall; linked = []; stored = [] }

  begin_goes : (requests socket i : ℕ) (asked : Asked) → is_call asked → (next : Program) → Follows is_call lost next → Follows is_call (named asked socket) (begin_call requests socket i asked next)
  begin_goes requests socket i asked called next goes = λ _ _. (
    named asked socket,
    (inl (inl refl), called),
    λ found _. (
      record { name = (name_of asked 0, socket) ∷ []; claimed = false; of = Makes (call_id i (parts found).first); linked = []; stored = [] },
      (refl, refl),
      λ _ _. (trying asked (call_id i (parts found).first) 0 socket, inr (refl, refl), attempt_goes requests asked called (call_id i (parts found).first) 0 socket next (omega arith) goes),
    ),
  )

  claim_goes : (more i requests socket : ℕ) (asked : Asked) → is_call asked → (next : Program) → Follows is_call lost next → (u : Trail) × Stays (named asked socket) u × Follows is_call u (claim_id more i requests socket asked next)
  claim_goes zero i requests socket asked called next goes = (lost, inr refl, goes)
  claim_goes (suc more) i requests socket asked called next goes = (named asked socket, inl refl, λ found _. by (claim_goes more (i + 1) requests socket asked called next goes) (eqb found 0))
    where
      by : (u : Trail) × Stays (named asked socket) u × Follows is_call u (claim_id more (i + 1) requests socket asked next) → (b : Bool)
          → (u : Trail) × Stays (named asked socket) u × Follows is_call u (cond b (begin_call requests socket i asked next) (claim_id more (i + 1) requests socket asked next))
      by later true = (named asked socket, inl refl, begin_goes requests socket i asked called next goes)
      by later false = later

  call_goes : (requests ids : ℕ) (asked : Asked) → is_call asked → (next : Program) → Follows is_call lost next → Follows is_call lost (call requests ids asked next)
  call_goes requests ids asked called next goes = (tt, λ word _. by word (eqb word 0) refl)
    where
      by : (word : ℕ) (b : Bool) → eqb word 0 ≡ b → (u : Trail) × GoesDo lost (OnName (LoadName (name_of asked 0))) word u × Follows is_call u (cond b (Say asked.operation outcomes.Unopened next) (claim_id ids 0 requests (word - 1) asked next))
      by word true none_ = (lost, inl refl, goes)
      by word false some_ = let r = claim_goes ids 0 requests (word - 1) asked called next goes in
          (r.0, ⊎_elim (λ e. inr (inr (not_equal word 0 some_, e))) (λ e. inr (inl e)) r.1, r.2)

  -- ## Retries

  module _ (requests id n : ℕ) (next : Program) (few : n ≤ 6) (goes : Follows is_call lost next) where
    abbrev known : Asked → Trail
    known asked = record { name = []; claimed = false; of = Knows asked.operation id; linked = []; stored = [] }

    tried_goes : (asked : Asked) → is_call asked → (exit : Unlocking) → ((w e : ℕ) → exit ≡ HasNext w e → (parts w).first ≡ id_first id) → Follows is_call (known asked) (tried_again requests id n asked next exit)
    tried_goes asked called (IsOpen w) first = (tt, λ word _. by word (eqb word 0) refl)
      where
        by : (word : ℕ) (b : Bool) → eqb word 0 ≡ b → (u : Trail) × GoesDo (known asked) (OnName (LoadName (name_of asked n))) word u × Follows is_call u (cond b (post id 1009 n next) (attempt requests asked id n (word - 1) next))
        by word true none_ = (known asked, inl refl, post_goes tracks (known asked) id 1009 n next goes)
        by word false some_ = (trying asked id n (word - 1), inr (inr (not_equal word 0 some_, refl)), attempt_goes requests asked called id n (word - 1) next few goes)
    tried_goes asked called (HasNext w e) first = decide_goes tracks (known asked) id w e (decided id next) (first w e refl) (decided_goes tracks id next goes)

    locked_goes : (exit : Locking) → LeavesLock (First (id_first id)) exit → Follows is_call lost (retry_locked requests id n next exit)
    locked_goes (NotThere w) l = goes
    locked_goes (Has w) l = λ asked called. (lost, inl refl, λ _ _. (known asked, (inr (w, false, tried_again requests id n asked next, refl, own asked, omega (arith, l)), called), (tt, λ exit m. tried_goes asked called exit (λ x e is. next_first exit x e is m.1 ∙ l))))
      where
        next_first : (exit : Unlocking) (x e : ℕ) → exit ≡ HasNext x e → LeavesUnlock (parts w).first exit → (parts x).first ≡ (parts w).first
        next_first exit x e is m = subst (LeavesUnlock (parts w).first) is m

        own : (asked : Asked) → known asked ≡ record { name = []; claimed = false; of = Knows asked.operation (call_id (id_slot id) (parts w).first); linked = []; stored = [] }
        own asked = ap (λ x. record { name = []; claimed = false; of = Knows asked.operation x; linked = []; stored = [] }) (sym (ap (call_id (id_slot id)) l ∙ id_back id))

    pub retry_goes : Follows is_call lost (retry requests id n next)
    retry_goes = (tt, locked_goes)

  -- ## Seats

  pub client_goes : (sizes : Sizes) (held : List HeldLife) (ts : List Task) → AllByRecursion (λ (t : Task). OpCalls is_call t.op) ts → Follows is_call lost (client_from sizes held ts)
  client_goes = kept.client_goes tracks call_goes

  pub ending_goes : (os : List ℕ) → Follows is_call lost (ending_of os)
  ending_goes = kept.ending_goes tracks

  pub reader_goes : (calls : List ℕ) (k o : ℕ) → Follows is_call lost (reader calls k o)
  reader_goes = kept.reader_goes tracks
