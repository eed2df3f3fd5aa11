-- The rule of the ids allows whole clients, and the ending.
use Rattle.std.proofs.Common.{◌≡◌, ℕ, zero, suc, ◌+◌, ◌-◌, ◌/◌, ◌%◌, ◌<◌, ◌≤◌, ◌==◌, cond, List, [], ◌∷◌, ◌++◌, Option, Some, None, refl, arith}
use Rattle.std.specs.List.{AllByRecursion}
use Rattle.sock_words.specs.declared.plain.Plan.{Plan}
use Rattle.sock_words.specs.declared.outcome.Outcome.TheVariants as outcomes
use Rattle.sock_words.specs.PackedWords.{socket_id_slot, vref_version, NO_SOCKET}
use Rattle.corr_core.specs.declared.marks.Plan.{Plan as IdPlan}
use Rattle.seat_programs.specs.declared.task.Op.{Op}
use Rattle.seat_programs.specs.declared.task.Op.TheVariants as ops
use Rattle.seat_programs.specs.declared.task.Task.{Task}
use Rattle.seat_programs.specs.Programs.{Program, Say, Sent, release, add_reference, find_socket, set_failed, make_socket, open_from, fail_outcome, fail}
use Rattle.seat_programs.specs.SendAndWritePrograms.{accept, heading_of, claim_from, start, send}
use Rattle.seat_programs.specs.ClientProgram.{HeldLife, held_under, without_name, give_back, drop_of, operation, client_from, ending_of}
use Rattle.seat_programs.specs.ScriptSetupToEnding.{sizes_of}
use Rattle.seat_programs.specs.Explained.{OpFits}
use Rattle.id_runs.specs.HeldIdTokens.{IdView}
use Rattle.id_runs.specs.Goes.{IsFree, IdGoesOn}
use Rattle.id_runs.proofs.IdLoopRounds.{way}
use Rattle.id_runs.proofs.IdPrograms.{release_goes, address_goes, set_failed_goes, accept_goes, call_goes, expire_goes, join_goes}

module _ (p : Plan) (q : IdPlan) (narrow : q.slots ≤ 65536) (same : q.operations ≡ p.operations) where
  abbrev Goes : IdView → Program → Type 0
  Goes u x = IdGoesOn p q u x

  abbrev Follows : Program → Type 0
  Follows after = (v : IdView) → IsFree v → Goes v after

  open_goes : (u : IdView) (more i o name k : ℕ) (next : Program) → Goes u next → Goes u (open_from more i o name k next)
  open_goes u zero i o name k next goes = λ _ _ _ _ _ _ _ _. goes
  open_goes u (suc more) i o name k next goes = λ found _. way p q u (found == 0) (make_socket o name k i next) (open_from more (i + 1) o name k next) (λ _. λ _ _ _ _ _ _ _ _ _ _ _ _. goes) (λ _. open_goes u more (i + 1) o name k next goes)

  reach_goes : (u : IdView) (name : ℕ) (unopened : Program) (held : ℕ → Program) (gone : ℕ → Program) → Goes u unopened → ((id : ℕ) → Goes u (held id)) → ((found : ℕ) → Goes u (gone found)) → Goes u (find_socket name unopened held gone)
  reach_goes u name unopened held gone none_ one others = λ word _. way p q u (word == 0) unopened (add_reference (word - 1) (held (word - 1)) gone) (λ _. none_) (λ _. address_goes p q narrow u (word - 1) (held (word - 1)) gone (one (word - 1)) others)

  claim_goes : (u : IdView) (more r o id : ℕ) (bytes : List ℕ) (next : Program) → IsFree u → Follows next → Goes u (claim_from more r o id bytes next)
  claim_goes u zero r o id bytes next free goes = release_goes p q narrow u (socket_id_slot id) (λ _. Say o outcomes.Full next) (λ _. goes u free)
  claim_goes u (suc more) r o id bytes next free goes = λ found _. way p q u (found % 2 == 0) (accept id r (found / 2) (heading_of o) bytes (release (socket_id_slot id) (λ _. Sent o next))) (claim_from more (r + 1) o id bytes next)
      (λ _. accept_goes p q narrow u id r (found / 2) (heading_of o) bytes (release (socket_id_slot id) (λ _. Sent o next)) free (λ z. absurd (z refl)) (λ v f. release_goes p q narrow v (socket_id_slot id) (λ _. Sent o next) (λ _. goes v f)))
      (λ _. claim_goes u more (r + 1) o id bytes next free goes)

  send_goes : (u : IdView) (requests o name : ℕ) (bytes : List ℕ) (next : Program) → IsFree u → Follows next → Goes u (send requests o name bytes next)
  send_goes u requests o name bytes next free goes = reach_goes u name (Say o outcomes.Unopened next) (λ id. start requests o id bytes next) (λ found. Say o (outcomes.Gone (record { 0 = found })) next) (goes u free)
      (λ id. λ found _. way p q u (vref_version found % 2 == 0) (claim_from requests 0 o id bytes next) (release (socket_id_slot id) (λ _. Say o (outcomes.Gone (record { 0 = found })) next))
      (λ _. claim_goes u requests 0 o id bytes next free goes) (λ _. release_goes p q narrow u (socket_id_slot id) (λ _. Say o (outcomes.Gone (record { 0 = found })) next) (λ _. goes u free)))
      (λ found. goes u free)

  fail_goes : (u : IdView) (o name code : ℕ) → code < 4096 → (next : Program) → Goes u next → Goes u (fail o name code next)
  fail_goes u o name code small next goes = reach_goes u name (Say o outcomes.Unopened next) (λ id. set_failed id code (λ found. release (socket_id_slot id) (λ _. Say o (fail_outcome found) next))) (λ found. Say o (outcomes.Gone (record { 0 = found })) next) goes
      (λ id. set_failed_goes p q narrow u id code small (λ found. release (socket_id_slot id) (λ _. Say o (fail_outcome found) next)) (λ found. release_goes p q narrow u (socket_id_slot id) (λ _. Say o (fail_outcome found) next) (λ _. goes)))
      (λ found. goes)

  drop_goes : (u : IdView) (o : ℕ) (h : Option ℕ) (next : Program) → Goes u next → Goes u (drop_of o h next)
  drop_goes u o None next goes = goes
  drop_goes u o (Some id) next goes = release_goes p q narrow u (socket_id_slot id) (λ freed. Say o (cond freed outcomes.Freed outcomes.Kept) next) (λ _. goes)

  operation_goes : (held : List HeldLife) (o : ℕ) (next : List HeldLife → Program) (op : Op) → OpFits p op → ((hs : List HeldLife) → Follows (next hs)) → Follows (operation (sizes_of p q) held o next op)
  operation_goes held o next (ops.Open name k) fits goes u free = open_goes u p.slots 0 o name k (next held) (goes held u free)
  operation_goes held o next (ops.Send name bytes) fits goes u free = send_goes u p.requests o name bytes (next held) free (goes held)
  operation_goes held o next (ops.Call asked) fits goes u free = call_goes p q narrow same u p.requests asked (next held) free fits (goes held)
  operation_goes held o next (ops.Expire t) fits goes u free = expire_goes p q narrow same u o t (next held) free (omega (arith, fits, same)) (goes held)
  operation_goes held o next (ops.Join t) fits goes u free = join_goes p q narrow same u o t (next held) free (omega (arith, fits, same)) (goes held)
  operation_goes held o next (ops.Hold name) fits goes u free = reach_goes u name (Say o outcomes.Unopened (next held)) (λ id. Say o outcomes.Held (next (held ++ (record { name = name; id = id }) ∷ []))) (λ found. Say o (outcomes.Gone (record { 0 = found })) (next held)) (goes held u free)
      (λ id. goes (held ++ (record { name = name; id = id }) ∷ []) u free) (λ found. goes held u free)
  operation_goes held o next (ops.Drop name) fits goes u free = drop_goes u o (held_under name held) (next (without_name name held)) (goes (without_name name held) u free)
  operation_goes held o next (ops.Fail name code) fits goes u free = fail_goes u o name code fits.2 (next held) (goes held u free)

  give_back_goes : (held : List HeldLife) → Follows (give_back held)
  give_back_goes [] u free = free
  give_back_goes (h ∷ hs) u free = release_goes p q narrow u (socket_id_slot h.id) (λ _. give_back hs) (λ _. give_back_goes hs u free)

  pub client_goes : (ts : List Task) → AllByRecursion (λ (t : Task). OpFits p t.op) ts → (held : List HeldLife) → Follows (client_from (sizes_of p q) held ts)
  client_goes [] all held u free = (free, give_back_goes held)
  client_goes (t ∷ ts) all held u free = (free, operation_goes held t.number (λ held'. client_from (sizes_of p q) held' ts) t.op all.0 (client_goes ts all.1))

  pub ending_goes : (os : List ℕ) → Follows (ending_of os)
  ending_goes [] u free = free
  ending_goes (o ∷ os) u free = λ word _. way p q u (word == 0) (ending_of os) (cond (word == NO_SOCKET) (ending_of os) (add_reference (word - 1) (set_failed (word - 1) 1014 (λ _. release (socket_id_slot (word - 1)) (λ _. ending_of os))) (λ _. ending_of os)))
      (λ _. ending_goes os u free)
      (λ _. way p q u (word == NO_SOCKET) (ending_of os) (add_reference (word - 1) (set_failed (word - 1) 1014 (λ _. release (socket_id_slot (word - 1)) (λ _. ending_of os))) (λ _. ending_of os))
      (λ _. ending_goes os u free)
      (λ _. address_goes p q narrow u (word - 1) (set_failed (word - 1) 1014 (λ _. release (socket_id_slot (word - 1)) (λ _. ending_of os))) (λ _. ending_of os)
      (set_failed_goes p q narrow u (word - 1) 1014 (omega arith) (λ _. release (socket_id_slot (word - 1)) (λ _. ending_of os)) (λ _. release_goes p q narrow u (socket_id_slot (word - 1)) (λ _. ending_of os) (λ _. ending_goes os u free)))
      (λ _. ending_goes os u free)))
