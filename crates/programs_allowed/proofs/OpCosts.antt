-- What the operations of clients cost, and the ending.
use Rattle.std.proofs.Common.{ℕ, zero, suc, ◌+◌, ◌-◌, ◌*◌, ◌/◌, ◌≤◌, ◌==◌, ◌%◌, List, [], ◌∷◌, ◌++◌, length, length-append, arith, cond}
use Rattle.std.specs.Prelude.{Option, Some, None}
use Rattle.std.specs.List.{AllByRecursion}
use Rattle.sock_words.specs.declared.plain.Plan.{Plan}
use Rattle.sock_words.specs.declared.outcome.Outcome.TheVariants.{Opened, SlotsFull, Unopened, Gone, Full, Held, Freed, Kept, NotBegun, Joined}
use Rattle.sock_words.specs.PackedWords.{socket_id, socket_id_slot, vref_version, call_id, NO_SOCKET}
use Rattle.corr_core.specs.IdSlotWord.{parts, error_of}
use Rattle.corr_core.specs.declared.marks.Plan.{Plan as IdPlan}
use Rattle.corr_core.specs.EndedByRangeOrAttempt.{WHOLE}
use Rattle.seat_programs.specs.declared.task.Op.{Op}
use Rattle.seat_programs.specs.declared.task.Op.TheVariants as ops
use Rattle.seat_programs.specs.declared.task.Task.{Task}
use Rattle.seat_programs.specs.sock_message.specs.Asked.{Asked, name_of}
use Rattle.seat_programs.specs.TableSteps.{OnSlot, OnName, OnChain, ClaimSlot, CreateLife, StoreLink, ResetHead, ClearCode, StoreName, LoadName, StoreOpen, LoadOpen, LookWord, ClaimRequest}
use Rattle.seat_programs.specs.LoopHeads.{Joins}
use Rattle.seat_programs.specs.Programs.{Program, Do, Say, Sent, Round, release, add_reference, find_socket, set_failed, no_socket, make_socket, open_from, fail_outcome, fail, hold, end_open}
use Rattle.seat_programs.specs.PostPrograms.{post_with, posted}
use Rattle.seat_programs.specs.SendAndWritePrograms.{heading_of, accept, claim_from, start, send}
use Rattle.seat_programs.specs.CallAndRetryPrograms.{begin_call, claim_id, call, expire_outcome, expire, join}
use Rattle.seat_programs.specs.ClientProgram.{HeldLife, held_under, without_name, give_back, drop_of, operation, client_from, ending_of}
use Rattle.seat_programs.specs.ScriptSetupToEnding.{sizes_of}
use Rattle.seat_programs.specs.Explained.{AskedFits, OpFits, TaskFits}
use Rattle.seat_programs.specs.StepTables.{row}
use Rattle.program_walks.specs.program_steps.specs.TicksLeftAtMost.{CHANGE, ERROR, POST, ACCEPT, weight, attempt_cost}
use Rattle.runs_end.proofs.IdCosts.{lasts_more, judged_lasts, posted_lasts}
use Rattle.runs_end.proofs.Costs.{Lasting, lasting_more, either_lasts, does, set_failed_lasts}
use Rattle.runs_end.proofs.AttemptCosts.{release_lasts, address_lasts, ends_link, accept_lasts, attempt_lasts}
use Rattle.programs_allowed.proofs.ListOfHeldLives.{length_without}
use Rattle.sock_words.specs.Totals.{total}

-- ## Parts of programs

-- a call that is begun makes its id, with all of its attempts, and tries the first
abbrev pub begin_cost : Plan → Asked → ℕ
begin_cost p asked = CHANGE + (asked.range - 2) * attempt_cost p.requests + 2 + (p.requests + weight 131072 + POST + CHANGE + 23 + ACCEPT)

module _ (p : Plan) where
  reach_lasts : (name : ℕ) (unopened : Program) (held gone : ℕ → Program) (n m : ℕ) → 7 + m ≤ n → Lasting p unopened n → ((id : ℕ) → Lasting p (held id) n) → ((found : ℕ) → Lasting p (gone found) m) → Lasting p (find_socket name unopened held gone) (2 + n)
  reach_lasts name unopened held gone n m le u l k v = (
    1 + n,
    omega arith,
    λ word hand f. either_lasts p unopened (add_reference (word - 1) (held (word - 1)) gone) (1 + n) (word == 0) (lasting_more p unopened n (1 + n) (omega arith) u) (address_lasts p (word - 1) (held (word - 1)) gone n m le (l (word - 1)) k)
        (row p (OnName (LoadName name)) word hand v),
  )

  -- ## Operations

  module _ (o : ℕ) (next : Program) (n : ℕ) (l : Lasting p next n) where
    no_socket_lasts : (k : ℕ) → Lasting p (no_socket o k next) (4 + n)
    no_socket_lasts k = lasting_more p (no_socket o k next) (3 + (1 + n)) (4 + n) (omega arith) (ends_link p k (Do (OnName (StoreOpen o NO_SOCKET)) (λ _. Say o SlotsFull next)) (1 + n) (does p (OnName (StoreOpen o NO_SOCKET)) (λ _. Say o SlotsFull next) n (1 + n) (omega arith) (λ a. l)))

    make_socket_lasts : (name k i : ℕ) → Lasting p (make_socket o name k i next) (6 + n)
    make_socket_lasts name k i =
        let word : ℕ → ℕ = λ found. socket_id (vref_version found) i + 1 in
        let stores : ℕ → Program = λ found. Do (OnName (StoreName name (word found))) (λ _. Say o (Opened i (vref_version found) k) next) in
        let born : ℕ → Program = λ found. Do (OnName (StoreOpen o (word found))) (λ _. stores found) in
        does p (OnSlot (StoreLink i k)) (λ _. Do (OnSlot (ResetHead i k)) (λ _. Do (OnSlot (ClearCode i k)) (λ _. Do (OnSlot (CreateLife i k)) born))) (5 + n) (6 + n) (omega arith)
        (λ a. does p (OnSlot (ResetHead i k)) (λ _. Do (OnSlot (ClearCode i k)) (λ _. Do (OnSlot (CreateLife i k)) born)) (4 + n) (5 + n) (omega arith)
        (λ b. does p (OnSlot (ClearCode i k)) (λ _. Do (OnSlot (CreateLife i k)) born) (3 + n) (4 + n) (omega arith)
        (λ c. does p (OnSlot (CreateLife i k)) born (2 + n) (3 + n) (omega arith)
        (λ found. does p (OnName (StoreOpen o (word found))) (λ _. stores found) (1 + n) (2 + n) (omega arith)
        (λ d. does p (OnName (StoreName name (word found))) (λ _. Say o (Opened i (vref_version found) k) next) n (1 + n) (omega arith) (λ e. l))))))

    open_lasts : (name k slots i : ℕ) → Lasting p (open_from slots i o name k next) (slots + 6 + n)
    open_lasts name k zero i v = lasting_more p (no_socket o k next) (4 + n) (6 + n) (omega arith) (no_socket_lasts k) v
    open_lasts name k (suc slots) i v = (
      slots + 6 + n,
      omega arith,
      λ found hand f. either_lasts p (make_socket o name k i next) (open_from slots (i + 1) o name k next) (slots + 6 + n) (found == 0)
          (lasting_more p (make_socket o name k i next) (6 + n) (slots + 6 + n) (omega arith) (make_socket_lasts name k i)) (open_lasts name k slots (i + 1)) (row p (OnSlot (ClaimSlot i)) found hand v),
    )

    fail_lasts : (name code : ℕ) → Lasting p (fail o name code next) (12 + n)
    fail_lasts name code = lasting_more p (fail o name code next) (2 + (10 + n)) (12 + n) (omega arith) (reach_lasts name (Say o Unopened next)
        (λ id. set_failed id code (λ found. release (socket_id_slot id) (λ _. Say o (fail_outcome found) next))) (λ found. Say o (Gone (record { 0 = found })) next) (10 + n) n (omega arith) (lasting_more p next n (10 + n) (omega arith) l)
        (λ id. lasting_more p (set_failed id code (λ found. release (socket_id_slot id) (λ _. Say o (fail_outcome found) next))) (3 + (7 + n)) (10 + n) (omega arith)
        (set_failed_lasts p id code (λ found. release (socket_id_slot id) (λ _. Say o (fail_outcome found) next)) (7 + n) (λ found. release_lasts p (socket_id_slot id) (λ _. Say o (fail_outcome found) next) n (λ b. l))))
        (λ found. l))

    hold_lasts : (name : ℕ) (more : ℕ → Program) (m : ℕ) → 7 + n ≤ m → ((id : ℕ) → Lasting p (more id) m) → Lasting p (hold o name more next) (2 + m)
    hold_lasts name more m le k = reach_lasts name (Say o Unopened next) (λ id. Say o Held (more id)) (λ found. Say o (Gone (record { 0 = found })) next) m n le (lasting_more p next n m (omega (arith, le)) l) k (λ found. l)

    drop_lasts : (id : Option ℕ) → Lasting p (drop_of o id next) (7 + n)
    drop_lasts None = lasting_more p next n (7 + n) (omega arith) l
    drop_lasts (Some id) = release_lasts p (socket_id_slot id) (λ freed. Say o (cond freed Freed Kept) next) n (λ b. l)

    -- ## Sending

    sent_lasts : (id : ℕ) → Lasting p (release (socket_id_slot id) (λ _. Sent o next)) (7 + n)
    sent_lasts id = release_lasts p (socket_id_slot id) (λ _. Sent o next) n (λ b. l)

    claim_lasts : (id : ℕ) (bytes : List ℕ) (requests q : ℕ) → Lasting p (claim_from requests q o id bytes next) (requests + (weight (length bytes) + (20 + ACCEPT) + n))
    claim_lasts id bytes zero q v = lasting_more p (release (socket_id_slot id) (λ _. Say o Full next)) (7 + n) (0 + (weight (length bytes) + (20 + ACCEPT) + n)) (omega arith) (release_lasts p (socket_id_slot id) (λ _. Say o Full next) n (λ b. l)) v
    claim_lasts id bytes (suc requests) q v = let m : ℕ = requests + (weight (length bytes) + (20 + ACCEPT) + n) in let after : Program = release (socket_id_slot id) (λ _. Sent o next) in (
      requests + (weight (length bytes) + (20 + ACCEPT) + n),
      omega arith,
      λ found hand f. either_lasts p (accept id q (found / 2) (heading_of o) bytes after) (claim_from requests (q + 1) o id bytes next) m (found % 2 == 0)
          (lasting_more p (accept id q (found / 2) (heading_of o) bytes after) (weight (length bytes) + (13 + ACCEPT) + (7 + n)) m (omega arith) (accept_lasts p id q (found / 2) (heading_of o) bytes after (7 + n) (sent_lasts id)))
          (claim_lasts id bytes requests (q + 1)) (row p (OnChain (ClaimRequest id q)) found hand v),
    )

    start_lasts : (requests id : ℕ) (bytes : List ℕ) → Lasting p (start requests o id bytes next) (requests + (weight (length bytes) + (21 + ACCEPT) + n))
    start_lasts requests id bytes v = let gone : ℕ → Program = λ found. release (socket_id_slot id) (λ _. Say o (Gone (record { 0 = found })) next) in (
      requests + (weight (length bytes) + (20 + ACCEPT) + n),
      omega arith,
      λ found hand f. either_lasts p (claim_from requests 0 o id bytes next) (gone found) (requests + (weight (length bytes) + (20 + ACCEPT) + n)) (vref_version found % 2 == 0) (claim_lasts id bytes requests 0)
          (lasting_more p (gone found) (7 + n) (requests + (weight (length bytes) + (20 + ACCEPT) + n)) (omega arith) (release_lasts p (socket_id_slot id) (λ _. Say o (Gone (record { 0 = found })) next) n (λ b. l))) (row p (OnSlot (LookWord id)) found hand v),
    )

    send_lasts : (requests name : ℕ) (bytes : List ℕ) → Lasting p (send requests o name bytes next) (requests + (weight (length bytes) + (23 + ACCEPT) + n))
    send_lasts requests name bytes = lasting_more p (send requests o name bytes next) (2 + (requests + (weight (length bytes) + (21 + ACCEPT) + n))) (requests + (weight (length bytes) + (23 + ACCEPT) + n)) (omega arith)
        (reach_lasts name (Say o Unopened next) (λ id. start requests o id bytes next) (λ found. Say o (Gone (record { 0 = found })) next) (requests + (weight (length bytes) + (21 + ACCEPT) + n)) n (omega arith)
        (lasting_more p next n (requests + (weight (length bytes) + (21 + ACCEPT) + n)) (omega arith) l) (λ id. start_lasts requests id bytes) (λ found. l))

    -- ## Calls

    -- the id is made over the call that is put, and the first attempt follows
    begin_lasts : (asked : Asked) → AskedFits p asked → (socket i : ℕ) → Lasting p (begin_call p.requests socket i asked next) (begin_cost p asked + n)
    begin_lasts asked fits socket i v = λ _ _. (
      CHANGE + (asked.range - 2) * attempt_cost p.requests + 1 + (tries + n),
      omega arith,
      λ found _. (1 + (tries + n), omega arith, λ _ _. (tries + n, omega arith, attempt_lasts p asked (call_id i (parts found).first) 0 socket next n (fits.short (call_id i (parts found).first) 0) l v)),
    )
      where
        tries : ℕ
        tries = p.requests + weight 131072 + POST + CHANGE + 23 + ACCEPT

    claim_id_lasts : (asked : Asked) → AskedFits p asked → (ids i socket : ℕ) → Lasting p (claim_id ids i p.requests socket asked next) (ids + (begin_cost p asked + n))
    claim_id_lasts asked fits zero i socket v = lasts_more p v next n (0 + (begin_cost p asked + n)) (omega arith) (l v)
    claim_id_lasts asked fits (suc ids) i socket v = λ found _. (
      ids + (begin_cost p asked + n),
      omega arith,
      either_lasts p (begin_call p.requests socket i asked next) (claim_id ids (i + 1) p.requests socket asked next) (ids + (begin_cost p asked + n)) (found == 0)
          (lasting_more p (begin_call p.requests socket i asked next) (begin_cost p asked + n) (ids + (begin_cost p asked + n)) (omega arith) (begin_lasts asked fits socket i)) (claim_id_lasts asked fits ids (i + 1) socket) v,
    )

    call_lasts : (asked : Asked) → AskedFits p asked → (ids : ℕ) → Lasting p (call p.requests ids asked next) (1 + (ids + (begin_cost p asked + n)))
    call_lasts asked fits ids = does p (OnName (LoadName (name_of asked 0))) (λ word. cond (word == 0) (Say asked.operation Unopened next) (claim_id ids 0 p.requests (word - 1) asked next)) (ids + (begin_cost p asked + n)) (1 + (ids + (begin_cost p asked + n))) (omega arith)
        (λ word. either_lasts p (Say asked.operation Unopened next) (claim_id ids 0 p.requests (word - 1) asked next) (ids + (begin_cost p asked + n)) (word == 0) (lasting_more p next n (ids + (begin_cost p asked + n)) (omega arith) l) (claim_id_lasts asked fits ids 0 (word - 1)))

    expire_lasts : (t : ℕ) → Lasting p (expire o t next) (1 + (POST + n))
    expire_lasts t v = λ id _. (
      POST + n,
      omega arith,
      either_lasts p (Say o NotBegun next) (post_with id (error_of 1008 WHOLE) (λ how. posted id (error_of 1008 WHOLE) (Say o (expire_outcome how) next) how)) (POST + n) (id == 0) (lasting_more p next n (POST + n) (omega arith) l) (posts id) v,
    )
      where
        posts : (id : ℕ) → Lasting p (post_with id (error_of 1008 WHOLE) (λ how. posted id (error_of 1008 WHOLE) (Say o (expire_outcome how) next) how)) (POST + n)
        posts id u = let e : ℕ = error_of 1008 WHOLE in λ found _.
            let x = judged_lasts p u id e found (λ how. posted id e (Say o (expire_outcome how) next) how) (ERROR + n) (POST + n) (λ how f. posted_lasts p u id e (Say o (expire_outcome how) next) n (l u) how f) (omega arith) in let le = x.1 in (x.0, omega (arith, le), x.2)

    join_lasts : (t : ℕ) → Lasting p (join o t next) (2 + n)
    join_lasts t v = λ id _. (
      1 + n,
      omega arith,
      either_lasts p (Say o NotBegun next) (Round (Joins id) (λ _. Say o Joined next)) (1 + n) (id == 0) (lasting_more p next n (1 + n) (omega arith) l) (λ u. (n, omega arith, λ _ _. lasts_more p u next n (n + 0) (omega arith) (l u))) v,
    )

    -- ## The ending

    end_lasts : Lasting p (end_open o next) (12 + n)
    end_lasts v = let fails : ℕ → Program = λ word. set_failed (word - 1) 1014 (λ _. release (socket_id_slot (word - 1)) (λ _. next)) in let ends : ℕ → Program = λ word. add_reference (word - 1) (fails word) (λ _. next) in (
      11 + n,
      omega arith,
      λ word hand f. either_lasts p next (cond (word == NO_SOCKET) next (ends word)) (11 + n) (word == 0) (lasting_more p next n (11 + n) (omega arith) l)
          (either_lasts p next (ends word) (11 + n) (word == NO_SOCKET) (lasting_more p next n (11 + n) (omega arith) l)
          (lasting_more p (ends word) (1 + (10 + n)) (11 + n) (omega arith) (address_lasts p (word - 1) (fails word) (λ _. next) (10 + n) n (omega arith)
          (lasting_more p (fails word) (3 + (7 + n)) (10 + n) (omega arith) (set_failed_lasts p (word - 1) 1014 (λ _. release (socket_id_slot (word - 1)) (λ _. next)) (7 + n) (λ found. release_lasts p (socket_id_slot (word - 1)) (λ _. next) n (λ b. l))))
          (λ found. l)))) (row p (OnName (LoadOpen o)) word hand v),
    )

  -- ## Clients

  -- what an operation costs, and the reference that it may leave, over so many id slots
  abbrev pub op_cost : ℕ → Op → ℕ
  op_cost ids (ops.Open name k) = p.slots + 6
  op_cost ids (ops.Send name bytes) = p.requests + (weight (length bytes) + (23 + ACCEPT))
  op_cost ids (ops.Call asked) = 1 + (ids + begin_cost p asked)
  op_cost ids (ops.Expire t) = 1 + POST
  op_cost ids (ops.Join t) = 2
  op_cost ids (ops.Hold name) = 9
  op_cost ids (ops.Drop name) = 7
  op_cost ids (ops.Fail name code) = 12

  abbrev pub task_cost : ℕ → Task → ℕ
  task_cost ids t = op_cost ids t.op

  give_back_lasts : (held : List HeldLife) → Lasting p (give_back held) (7 * length held)
  give_back_lasts [] v = tt
  give_back_lasts (h ∷ hs) v = lasting_more p (give_back (h ∷ hs)) (7 + 7 * length hs) (7 * suc (length hs)) (omega arith) (release_lasts p (socket_id_slot h.id) (λ _. give_back hs) (7 * length hs) (λ b. give_back_lasts hs)) v

  operation_lasts : (q : IdPlan) (held : List HeldLife) (o : ℕ) (next : List HeldLife → Program) (n : ℕ) → ((hs : List HeldLife) → Lasting p (next hs) (n + 7 * length hs)) → (op : Op) → OpFits p op → Lasting p (operation (sizes_of p q) held o next op) (op_cost q.slots op + n + 7 * length held)
  operation_lasts q held o next n l (ops.Open name k) fits = lasting_more p (open_from p.slots 0 o name k (next held)) (p.slots + 6 + (n + 7 * length held)) (p.slots + 6 + n + 7 * length held) (omega arith) (open_lasts o (next held) (n + 7 * length held) (l held) name k p.slots 0)
  operation_lasts q held o next n l (ops.Send name bytes) fits = lasting_more p (send p.requests o name bytes (next held)) (p.requests + (weight (length bytes) + (23 + ACCEPT) + (n + 7 * length held))) (p.requests + (weight (length bytes) + (23 + ACCEPT)) + n + 7 * length held) (omega arith)
      (send_lasts o (next held) (n + 7 * length held) (l held) p.requests name bytes)
  operation_lasts q held o next n l (ops.Call asked) fits = lasting_more p (call p.requests q.slots asked (next held)) (1 + (q.slots + (begin_cost p asked + (n + 7 * length held)))) (1 + (q.slots + begin_cost p asked) + n + 7 * length held) (omega arith) (call_lasts o (next held) (n + 7 * length held) (l held) asked fits q.slots)
  operation_lasts q held o next n l (ops.Expire t) fits = lasting_more p (expire o t (next held)) (1 + (POST + (n + 7 * length held))) (1 + POST + n + 7 * length held) (omega arith) (expire_lasts o (next held) (n + 7 * length held) (l held) t)
  operation_lasts q held o next n l (ops.Join t) fits = lasting_more p (join o t (next held)) (2 + (n + 7 * length held)) (2 + n + 7 * length held) (omega arith) (join_lasts o (next held) (n + 7 * length held) (l held) t)
  operation_lasts q held o next n l (ops.Hold name) fits = let more : ℕ → Program = λ id. next (held ++ (record { name = name; id = id }) ∷ []) in
      lasting_more p (hold o name more (next held)) (2 + (7 + (n + 7 * length held))) (9 + n + 7 * length held) (omega arith)
      (hold_lasts o (next held) (n + 7 * length held) (l held) name more (7 + (n + 7 * length held)) (omega arith)
      (λ id. let h : HeldLife = record { name = name; id = id } in lasting_more p (more id) (n + 7 * length (held ++ h ∷ [])) (7 + (n + 7 * length held)) (omega (arith, length-append held (h ∷ []))) (l (held ++ h ∷ []))))
  operation_lasts q held o next n l (ops.Drop name) fits = lasting_more p (drop_of o (held_under name held) (next (without_name name held))) (7 + (n + 7 * length (without_name name held))) (7 + n + 7 * length held) (omega (arith, length_without name held))
      (drop_lasts o (next (without_name name held)) (n + 7 * length (without_name name held)) (l (without_name name held)) (held_under name held))
  operation_lasts q held o next n l (ops.Fail name code) fits = lasting_more p (fail o name code (next held)) (12 + (n + 7 * length held)) (12 + n + 7 * length held) (omega arith) (fail_lasts o (next held) (n + 7 * length held) (l held) name code)

  -- a client with these tasks and these held lives
  pub client_lasts : (q : IdPlan) (ts : List Task) → AllByRecursion (TaskFits p) ts → (held : List HeldLife) → Lasting p (client_from (sizes_of p q) held ts) (total (task_cost q.slots) ts + 7 * length held)
  client_lasts q [] fits held v = λ u. lasting_more p (give_back held) (7 * length held) (0 + 7 * length held) (omega arith) (give_back_lasts held) u
  client_lasts q (t ∷ ts) fits held v = λ u. let one = fits.0 in operation_lasts q held t.number (λ hs. client_from (sizes_of p q) hs ts) (total (task_cost q.slots) ts) (λ hs. client_lasts q ts fits.1 hs) t.op one.1 u

  -- the ending
  pub ending_of_lasts : (os : List ℕ) → Lasting p (ending_of os) (12 * length os)
  ending_of_lasts [] v = tt
  ending_of_lasts (o ∷ os) v = lasting_more p (end_open o (ending_of os)) (12 + 12 * length os) (12 * suc (length os)) (omega arith) (end_lasts o (ending_of os) (12 * length os) (ending_of_lasts os)) v
