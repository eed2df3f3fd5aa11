-- The programs of clients, readers and the ending keep to their attempts, and so does one round of each loop.
use Rattle.std.proofs.Common.{◌≡◌, ℕ, zero, suc, ◌+◌, ◌-◌, sym, ap, ⊎_elim, ◌/◌, ◌%◌, ◌≤◌, ◌⊎◌, ◌==◌, inl, inr, Bool, true, false, cond, eqb, List, [], refl, ◌∙◌, subst, arith}
use Rattle.std.specs.List.{AllByRecursion}
use Rattle.sock_words.specs.PackedWords.{socket_id_slot, socket_id_version, vref_version, at_word, call_id, id_slot, id_first}
use Rattle.sock_words.specs.declared.outcome.Outcome.TheVariants as outcomes
use Rattle.seat_programs.specs.sock_message.specs.Asked.{Asked, frame_of}
use Rattle.sock_model.specs.declared.chain.Heading.{Heading}
use Rattle.corr_core.specs.IdSlotWord.{parts}
use Rattle.seat_programs.specs.declared.task.Sizes.{Sizes}
use Rattle.seat_programs.specs.declared.task.Task.{Task}
use Rattle.seat_programs.specs.Asides.{Step, Found, PutCall, MakeId, StoreAt, UnlockId}
use Rattle.seat_programs.specs.CallAndRetryPrograms.{claims_from, heading_for, attempt, begin_call, claim_id, call, tried_again, retry_locked, retry}
use Rattle.seat_programs.specs.TableSteps.{TableStep, OnSlot, OnMessage, PutMessage, FindLink, LookWord}
use Rattle.seat_programs.specs.ClientProgram.{HeldLife, client_from, ending_of}
use Rattle.seat_programs.specs.LoopHeads.{Head, Exit, Posts, Decides, Opens, First, Unlocks, Locks, Joins, Reads, Discards, Unlocking, IsOpen, HasNext, Locking, NotThere, Has}
use Rattle.seat_programs.specs.PostPrograms.{post, decided}
use Rattle.seat_programs.specs.Programs.{Program, Do, Say, Rest, Write, Aside, Round, release}
use Rattle.seat_programs.specs.ReaderProgram.{reader}
use Rattle.seat_programs.specs.LoopRounds.{round}
use Rattle.seat_programs.specs.SendAndWritePrograms.{block, accept}
use Rattle.seat_programs.specs.Writings.{Writing}
use Rattle.label_runs.specs.AttemptLabelsLeft.{Trial, Idle, Tries, Sends, IsOfTrial, MayPut, Kept, put_behind, AsideMove, AtLabel, Labels, LeavesLabel, LeavesLock, LeavesUnlock, unlocks_trial, unlocked_trial, locked_trial}
use Rattle.label_runs.proofs.LoopsOfKnownSeats.{id_back, is_plain, is_plain_aside, HoldsBehind, Tracks, behind, way, post_goes, decide_goes, decided_goes, round_goes}
use Rattle.label_runs.proofs.OperationsKeepKnown as kept
use Rattle.label_runs.proofs.OperationsKeepKnown.{OpCalls, release_goes, address_goes, accept_goes}

-- ## What a lock that is given back leaves of a trial

pub hit_is : (t : Trial) (i from : ℕ) (b : Bool) (found : ℕ) → eqb found from ≡ true → unlocks_trial i from b t ≡ unlocked_trial i from b found t
hit_is t i from true found hit = sym (ap (λ z. cond z (Tries (call_id i (parts from).first) ((parts from).attempt + 1)) t) hit)
hit_is t i from false found hit = refl

pub miss_is : (t : Trial) (i from : ℕ) (b : Bool) (found : ℕ) → eqb found from ≡ false → t ≡ unlocked_trial i from b found t
miss_is t i from true found miss = sym (ap (λ z. cond z (Tries (call_id i (parts from).first) ((parts from).attempt + 1)) t) miss)
miss_is t i from false found miss = refl

pub found_is : (t : Trial) (i from found : ℕ) (b : Bool) → (parts found).first ≡ (parts from).first → (parts found).attempt ≡ (parts from).attempt → unlocks_trial i from b t ≡ unlocks_trial i found b t
found_is t i from found true f a = ap (λ x. Tries (call_id i x) ((parts from).attempt + 1)) (sym f) ∙ ap (λ x. Tries (call_id i (parts found).first) (x + 1)) (sym a)
found_is t i from found false f a = refl

module _ (is_call : Asked → Type 0) where
  may_plain : (t : Trial) (call : TableStep) → is_plain call ≡ true → MayPut is_call t call
  may_plain t (OnMessage (PutMessage q heading bytes)) plain = absurd (let e = plain in cc)
  may_plain t call plain = tt

  stays_plain : (t : Trial) (call : TableStep) → is_plain call ≡ true → Kept (put_behind t call) t
  stays_plain t (OnMessage (PutMessage q heading bytes)) plain = absurd (let e = plain in cc)
  stays_plain t call plain = inl refl

  aside_moves : (step : Step) → is_plain_aside step ≡ true → (found : Found step) (t u : Trial) → Kept t u → AsideMove is_call step found t u
  aside_moves (PutCall i asked) plain found t u k = absurd (let e = plain in cc)
  aside_moves (MakeId i range) plain found t u k = absurd (let e = plain in cc)
  aside_moves (StoreAt o w) plain found t u k = absurd (let e = plain in cc)
  aside_moves (UnlockId i from advance) plain found t u k = absurd (let e = plain in cc)
  aside_moves step plain found t u k = k

  rounds : (t : Trial) (head : Head) (next : Exit head → Program) → AtLabel is_call head → ((exit : Exit head) → LeavesLabel head exit → Labels is_call (behind Idle unlocks_trial locked_trial head exit t) (next exit)) → Labels is_call t (Round head next)
  rounds t (Posts id e w) next at goes = (at, goes)
  rounds t _ next at goes = (at, goes)

  locks : (exit : Locking) (t : Trial) → Kept t (locked_trial exit t)
  locks (NotThere w) t = inr refl
  locks (Has w) t = inl refl

  passes : (t : Trial) (program : Program) → HoldsBehind Idle (Labels is_call) t program → Labels is_call t program
  passes t Rest goes = tt
  passes t _ goes = goes

  pub tracks : Tracks Idle unlocks_trial locked_trial is_call (Labels is_call)
  tracks = record {
    step = λ t call next plain goes. (may_plain t call plain, λ found _. (t, stays_plain t call plain, goes found));
    looks = λ t call next plain goes. (may_plain t call plain, λ found _. (Idle, inr refl, goes found));
    claim = λ s q next goes. (tt, λ found _. (Idle, inl refl, goes found));
    send = λ q o bytes next goes. (inl (refl, refl), λ found _. (Idle, inl refl, goes found));
    passes = passes;
    aside = λ t step next plain goes found f. let x = goes found f in (x.0, aside_moves step plain found t x.0 x.1, x.2);
    puts_call = λ t i asked next call goes found _. (Idle, (inr refl, call), goes found);
    unlock = λ t i from advance next goes found f. ⊎_elim (λ a. (unlocks_trial i from advance t, hit_is t i from advance found a.0, a.1)) (λ b. (t, miss_is t i from advance found b.0, b.1)) (goes found f);
    round = rounds;
    keep = λ id w next first few goes. (ap (λ x. Tries x ((parts w).attempt + 1)) (ap (call_id (id_slot id)) first ∙ id_back id), few, goes);
    again = found_is;
    unmoved = λ t i w. refl;
    locking = locks;
  }

  -- one round of each loop
  pub labels_round : (t : Trial) (head : Head) (k : Exit head → Program) → Labels is_call t (Round head k) → Labels is_call t (round head k)
  labels_round t (Posts id e from) k x = round_goes tracks t (Posts id e from) k x.0 x.1
  labels_round t (Unlocks i from advance) k x = round_goes tracks t (Unlocks i from advance) k x.0 x.1
  labels_round t (Decides id asked word e) k x = round_goes tracks t (Decides id asked word e) k x.0 x.1
  labels_round t (Locks i sought from) k x = round_goes tracks t (Locks i sought from) k x.0 x.1
  labels_round t (Joins id) k x = round_goes tracks t (Joins id) k x.0 x.1
  labels_round t (Opens o) k x = round_goes tracks t (Opens o) k x.0 x.1
  labels_round t (Reads r) k x = round_goes tracks t (Reads r) k x.0 x.1
  labels_round t (Discards l total) k x = round_goes tracks t (Discards l total) k x.0 x.1

  pub block_goes : (t : Trial) (w : Writing) (after : Program) → Labels is_call t (Write w after) → Labels is_call t (block w after)
  block_goes t w after goes = kept.block_goes tracks t w after goes

  claims_goes : (t : Trial) (more q id : ℕ) (heading : Heading) (bytes : List ℕ) (full accepted : Program) → ((heading.owner ≡ 0) × (heading.parts ≡ [])) ⊎ IsOfTrial is_call t heading bytes → Labels is_call t full → Labels is_call Idle accepted → Labels is_call t (claims_from more q id heading bytes full accepted)
  claims_goes t zero q id heading bytes full accepted may none_ goes = none_
  claims_goes t (suc more) q id heading bytes full accepted may none_ goes = (
    tt,
    λ found _. (
      t,
      inl refl,
      way tracks t (found % 2 == 0) (accept id q (found / 2) heading bytes accepted) (claims_from more (q + 1) id heading bytes full accepted)
          (λ _. accept_goes tracks t id q (found / 2) heading bytes accepted (λ next later. (may, λ found _. (Idle, inl refl, later found))) goes) (λ _. claims_goes t more (q + 1) id heading bytes full accepted may none_ goes),
    ),
  )

  -- ## Attempts

  module _ (requests : ℕ) (asked : Asked) (called : is_call asked) (id n socket : ℕ) (next : Program) (few : n ≤ 6) (goes : Labels is_call Idle next) where
    back_goes : (t : Trial) → Labels is_call t (post id 1009 n (release (socket_id_slot socket) (λ _. next)))
    back_goes t = post_goes tracks t id 1009 n (release (socket_id_slot socket) (λ _. next)) (release_goes tracks Idle (socket_id_slot socket) (λ _. next) (λ _. goes))

    full_goes : (t : Trial) → Labels is_call t (post id 3001 n (release (socket_id_slot socket) (λ _. next)))
    full_goes t = post_goes tracks t id 3001 n (release (socket_id_slot socket) (λ _. next)) (release_goes tracks Idle (socket_id_slot socket) (λ _. next) (λ _. goes))

    looks_goes : (heading : Heading) (bytes : List ℕ) → ((heading.owner ≡ 0) × (heading.parts ≡ [])) ⊎ IsOfTrial is_call (Sends asked.operation id n) heading bytes → Labels is_call (Sends asked.operation id n) (Do (OnSlot (LookWord socket)) (λ found. cond (eqb (vref_version found % 2) 0)
        (claims_from requests 0 socket heading bytes (post id 3001 n (release (socket_id_slot socket) (λ _. next))) (release (socket_id_slot socket) (λ _. next))) (post id 1009 n (release (socket_id_slot socket) (λ _. next)))))
    looks_goes heading bytes may = (
      tt,
      λ found _. (
        Sends asked.operation id n,
        inl refl,
        way tracks (Sends asked.operation id n) (eqb (vref_version found % 2) 0) (claims_from requests 0 socket heading bytes (post id 3001 n (release (socket_id_slot socket) (λ _. next))) (release (socket_id_slot socket) (λ _. next)))
            (post id 1009 n (release (socket_id_slot socket) (λ _. next)))
            (λ _. claims_goes (Sends asked.operation id n) requests 0 socket heading bytes (post id 3001 n (release (socket_id_slot socket) (λ _. next))) (release (socket_id_slot socket) (λ _. next)) may
            (full_goes (Sends asked.operation id n)) (release_goes tracks Idle (socket_id_slot socket) (λ _. next) (λ _. goes)))
            (λ _. back_goes (Sends asked.operation id n)),
      ),
    )

    pub attempt_goes : Labels is_call (Tries id n) (attempt requests asked id n socket next)
    attempt_goes = address_goes tracks (Tries id n) socket (Do (OnSlot (FindLink (socket_id_slot socket) (socket_id_version socket))) (λ k. Aside (StoreAt asked.operation (at_word (id_first id) (id_slot id) k n)) (λ _. Do (OnSlot (LookWord socket)) (λ found. cond (eqb (vref_version found % 2) 0)
        (claims_from requests 0 socket (heading_for asked id n) (frame_of asked id n) (post id 3001 n (release (socket_id_slot socket) (λ _. next))) (release (socket_id_slot socket) (λ _. next))) (post id 1009 n (release (socket_id_slot socket) (λ _. next)))))))
        (λ _. post id 1009 n next)
        (tt, λ k low. (Tries id n, inl refl, λ _ _. (Sends asked.operation id n, (id, n, k, refl, refl, low, few, refl), looks_goes (heading_for asked id n) (frame_of asked id n) (inr (asked, called, refl, refl, refl)))))
        (λ _. post_goes tracks (Tries id n) id 1009 n next goes)

  -- ## Calls

  begin_goes : (requests socket i : ℕ) (asked : Asked) → is_call asked → (next : Program) → Labels is_call Idle next → Labels is_call Idle (begin_call requests socket i asked next)
  begin_goes requests socket i asked called next goes = λ _ _. (
    Idle,
    (inl refl, called),
    λ found _. (
      Tries (call_id i (parts found).first) 0,
      refl,
      λ _ _. (Tries (call_id i (parts found).first) 0, inl refl, attempt_goes requests asked called (call_id i (parts found).first) 0 socket next (omega arith) goes),
    ),
  )

  claim_goes : (more i requests socket : ℕ) (asked : Asked) → is_call asked → (next : Program) → Labels is_call Idle next → Labels is_call Idle (claim_id more i requests socket asked next)
  claim_goes zero i requests socket asked called next goes = goes
  claim_goes (suc more) i requests socket asked called next goes = λ found _. (
    Idle,
    inl refl,
    way tracks Idle (eqb found 0) (begin_call requests socket i asked next) (claim_id more (i + 1) requests socket asked next) (λ _. begin_goes requests socket i asked called next goes) (λ _. claim_goes more (i + 1) requests socket asked called next goes),
  )

  call_goes : (requests ids : ℕ) (asked : Asked) → is_call asked → (next : Program) → Labels is_call Idle next → Labels is_call Idle (call requests ids asked next)
  call_goes requests ids asked called next goes = (
    tt,
    λ word _. (
      Idle,
      inl refl,
      way tracks Idle (eqb word 0) (Say asked.operation outcomes.Unopened next) (claim_id ids 0 requests (word - 1) asked next) (λ _. goes) (λ _. claim_goes ids 0 requests (word - 1) asked called next goes),
    ),
  )

  -- ## Retries

  module _ (requests id n : ℕ) (next : Program) (few : n ≤ 6) (goes : Labels is_call Idle next) where
    tried_goes : (asked : Asked) → is_call asked → (exit : Unlocking) → ((w e : ℕ) → exit ≡ HasNext w e → (parts w).first ≡ id_first id) → Labels is_call (Tries id n) (tried_again requests id n asked next exit)
    tried_goes asked called (IsOpen w) first = (
      tt,
      λ word _. (
        Tries id n,
        inl refl,
        way tracks (Tries id n) (eqb word 0) (post id 1009 n next) (attempt requests asked id n (word - 1) next) (λ _. post_goes tracks (Tries id n) id 1009 n next goes) (λ _. attempt_goes requests asked called id n (word - 1) next few goes),
      ),
    )
    tried_goes asked called (HasNext w e) first = decide_goes tracks (Tries id n) id w e (decided id next) (first w e refl) (decided_goes tracks id next goes)

    locked_goes : (exit : Locking) → LeavesLock (First (id_first id)) exit → Labels is_call (Rattle.label_runs.specs.AttemptLabelsLeft.locked_trial exit (Tries id n)) (retry_locked requests id n next exit)
    locked_goes (NotThere w) l = goes
    locked_goes (Has w) l = λ asked called. (Tries id n, inl refl, λ _ _. (Tries id n, (inl refl, called), (tt, λ exit m. tried_goes asked called exit (λ x e is. next_first exit x e is m.1 ∙ l))))
      where
        next_first : (exit : Unlocking) (x e : ℕ) → exit ≡ HasNext x e → LeavesUnlock (parts w).first exit → (parts x).first ≡ (parts w).first
        next_first exit x e is m = subst (LeavesUnlock (parts w).first) is m

    pub retry_goes : Labels is_call (Tries id n) (retry requests id n next)
    retry_goes = (tt, locked_goes)

  -- ## Seats

  pub client_goes : (sizes : Sizes) (held : List HeldLife) (ts : List Task) → AllByRecursion (λ (t : Task). OpCalls is_call t.op) ts → Labels is_call Idle (client_from sizes held ts)
  client_goes sizes held ts all = kept.client_goes tracks call_goes sizes held ts all

  pub ending_goes : (os : List ℕ) → Labels is_call Idle (ending_of os)
  ending_goes os = kept.ending_goes tracks os

  pub reader_goes : (calls : List ℕ) (k o : ℕ) → Labels is_call Idle (reader calls k o)
  reader_goes calls k o = kept.reader_goes tracks calls k o
