-- A code of a socket is one of the ending, of a reader or of a link that failed, or a `fail` stores its own, behind the step by which it set a life failed.
use Rattle.std.proofs.Common.{inl, inr, ⊎_elim, ◌⊎◌, refl, ap, sym, ◌∙◌, eqb-true, ◌≡◌, ℕ, ◌%◌, ◌==◌, ◌++◌, Bool, true, false, cond, List, [], ◌∷◌, subst}
use Rattle.std.proofs.lemmas.Bool.{true≢false}
use Rattle.std.specs.List.{AllByRecursion}
use Rattle.sock_words.specs.PackedWords.{socket_id_version, socket_id_slot, vref_version}
use Rattle.sock_words.specs.declared.outcome.Outcome.TheVariants.{Unopened, Gone, Failed, Already}
use Rattle.accept_counts.specs.Below.sock_steps.proofs.SumsAsMarksChange.{either_way}
use Rattle.sock_message.specs.Asked.{Asked}
use Rattle.seat_programs.specs.declared.task.Op.{Op}
use Rattle.seat_programs.specs.declared.task.Op.TheVariants as ops
use Rattle.seat_programs.specs.declared.task.Task.{Task}
use Rattle.seat_programs.specs.declared.task.Sizes.{Sizes}
use Rattle.seat_programs.specs.TableSteps.{TableStep, OnSlot, SubRef, SetOdd, StoreCode}
use Rattle.seat_programs.specs.LoopHeads.{Head, Exit, Retry, Ended, Opens, Reads}
use Rattle.seat_programs.specs.Programs.{Program, Do, Say, Sent, Write, Round, Keep, Retries, release, set_failed, fail, fail_outcome}
use Rattle.seat_programs.specs.CallAndRetryPrograms.{attempt}
use Rattle.seat_programs.specs.LoopRounds.{round, first_step}
use Rattle.seat_programs.specs.ReaderProgram.{reader}
use Rattle.seat_programs.specs.ClientProgram.{HeldLife, operation, client_from, ending_of}
use Rattle.seat_programs.specs.Cores.{resolved, next_step}
use Rattle.accept_counts.specs.Below.programs_allowed.specs.program_steps.specs.AtSteps.{Asks, AtSteps, asks_words}
use Rattle.accept_counts.specs.Below.programs_allowed.specs.program_walks.proofs.Through.{PassesSteps, PassesPlain, PassesFails, PassesSends, PassesReads, is_plain, is_of_message, makes_life, by_errors, at_steps_plain, at_steps_sends, through_release, through_reach}
use Rattle.accept_counts.specs.Below.programs_allowed.specs.program_walks.proofs.ThroughLoops.{through_round}
use Rattle.accept_counts.specs.Below.programs_allowed.specs.program_walks.proofs.ThroughSends.{through_block, through_send, through_ending}
use Rattle.accept_counts.specs.Below.programs_allowed.specs.program_walks.proofs.ThroughCalls.{through_attempt, through_call, through_retry, through_join, through_reading}
use Rattle.accept_counts.specs.Below.programs_allowed.specs.program_walks.proofs.ThroughClients.{through_open, through_back, through_operation}

-- a `fail` that is operation o failed a life of this slot, and is to store this code
pub data Failing : Type 0 where
  NoFail : Failing
  Fails : ℕ → ℕ → ℕ → Failing

-- the code of a link that failed, of the ending or of a reader
abbrev pub IsOtherCode : ℕ → Type 0
IsOtherCode code = (code ≡ 1009) ⊎ ((code ≡ 1014) ⊎ (code ≡ 2002))

-- where its steps find 0, the program says next that the operation failed a life
abbrev pub SaysFailed : ℕ → Program → Type 0
SaysFailed o (Do (OnSlot (SetOdd i)) next) = ⊥
SaysFailed o (Do call next) = SaysFailed o (next 0)
SaysFailed o (Say x outcome next) = (x ≡ o) × (outcome ≡ Failed)
SaysFailed o other = ⊥

-- these are the `fail` operations of the seat, with their codes, and the other codes that it may store
module _ (mine : ℕ → ℕ → Type 0) (Other : ℕ → Type 0) where
  abbrev StoresAt : Failing → TableStep → (ℕ → Program) → (Failing → ℕ → Type 0) → Type 0
  StoresAt f (OnSlot (SetOdd i)) next behind = ((found : ℕ) → behind NoFail found)
      ⊎ ((o code : ℕ) × mine o code × ((found : ℕ) → ((vref_version found % 2 ≡ 0) × SaysFailed o (next found) × behind (Fails o code i) found) ⊎ behind NoFail found))
  StoresAt f (OnSlot (StoreCode i h code)) next behind = (Other code ⊎ ((o : ℕ) × (f ≡ Fails o code i))) × ((found : ℕ) → behind NoFail found)
  StoresAt f call next behind = (found : ℕ) → behind NoFail found

  abbrev StoresLoop : (head : Head) → (Exit head → Type 0) → Type 0
  StoresLoop (Reads r) behind = (exit : Ended) → IsOtherCode exit.code → behind exit
  StoresLoop head behind = (exit : Exit head) → behind exit

  abbrev stores_asks : Asks Failing
  stores_asks = asks_words {S = Failing} (λ f. NoFail) (Unit {0}) StoresAt StoresLoop

  -- each code that the program stores is one of the others, or its own
  abbrev pub Stores : Failing → Program → Type 0
  Stores f program = AtSteps stores_asks f program

-- a link that failed is told of
module _ (mine : ℕ → ℕ → Type 0) (Other : ℕ → Type 0) (gone : Other 1009) where
  -- ## Parts of programs

  abbrev G : Program → Type 0
  G program = Stores mine Other NoFail program

  codes_these : (these : TableStep → Bool) → ((i : ℕ) → these (OnSlot (SetOdd i)) ≡ false) → ((i h c : ℕ) → these (OnSlot (StoreCode i h c)) ≡ false) → PassesSteps these G
  codes_these these odd code (OnSlot (SetOdd i)) next is r = absurd (true≢false (sym is ∙ odd i))
  codes_these these odd code (OnSlot (StoreCode i h c)) next is r = absurd (true≢false (sym is ∙ code i h c))
  codes_these these odd code call next is r = r

  codes_plain : PassesPlain G
  codes_plain = at_steps_plain (stores_asks mine Other) NoFail (codes_these is_plain (λ i. refl) (λ i h c. refl)) (λ behind r. r) (λ step next is r. r) (by_errors G (λ id e w next r. r) (λ i w advance next r. r) (λ id asked w e next r. r)) (λ id w next r. r)

  codes_fails : (code : ℕ) → Other code → PassesFails G code
  codes_fails code low id next after = inl (λ found. either_way (vref_version found % 2 == 0) _ _ G ((inl low, λ _ _. after found)) (after found))

  codes_sends : PassesSends G
  codes_sends = at_steps_sends (stores_asks mine Other) NoFail codes_plain (codes_these is_of_message (λ i. refl) (λ i h c. refl)) (λ behind r. r) (λ behind r. r) (λ behind r. r) (codes_fails 1009 gone)

  codes_reads : PassesReads (λ how. IsOtherCode how.code) G
  codes_reads = record {
    plain = codes_plain;
    locks = λ i sought w next r. r;
    take = λ k room next r. r;
    reads = λ r next x. x;
    discards = λ k total next r. r;
    closed = λ closed fault r. inr (inl refl);
    faulted = λ r. inr (inr refl);
  }

  codes_attempt : (requests : ℕ) (asked : Asked) (id n socket : ℕ) (next : Program) → G next → G (attempt requests asked id n socket next)
  codes_attempt = through_attempt G codes_sends (λ o w next r. r)

  -- what a `fail` stores is its own code
  codes_fail : (o name code : ℕ) (next : Program) → mine o code → G next → G (fail o name code next)
  codes_fail o name code next own after = through_reach G codes_plain.words name (Say o Unopened next) (λ id. set_failed id code (λ found. release (socket_id_slot id) (λ _. Say o (fail_outcome found) next))) (λ found. Say o (Gone (record { 0 = found })) next) after
      (λ id. inr (o, code, own, λ found. by id found (vref_version found % 2 == 0) refl)) (λ found. after)
    where
      by : (id found : ℕ) (b : Bool) → (vref_version found % 2 == 0) ≡ b
          → ((vref_version found % 2 ≡ 0) × SaysFailed o (cond b (Do (OnSlot (StoreCode (socket_id_slot id) (socket_id_version id) code)) (λ _. Do (OnSlot (SubRef (socket_id_slot id))) (λ _. release (socket_id_slot id) (λ _. Say o (fail_outcome found) next)))) (release (socket_id_slot id) (λ _. Say o (fail_outcome found) next)))
          × Stores mine Other (Fails o code (socket_id_slot id)) (cond b (Do (OnSlot (StoreCode (socket_id_slot id) (socket_id_version id) code)) (λ _. Do (OnSlot (SubRef (socket_id_slot id))) (λ _. release (socket_id_slot id) (λ _. Say o (fail_outcome found) next)))) (release (socket_id_slot id) (λ _. Say o (fail_outcome found) next))))
          ⊎ G (cond b (Do (OnSlot (StoreCode (socket_id_slot id) (socket_id_version id) code)) (λ _. Do (OnSlot (SubRef (socket_id_slot id))) (λ _. release (socket_id_slot id) (λ _. Say o (fail_outcome found) next)))) (release (socket_id_slot id) (λ _. Say o (fail_outcome found) next)))
      by id found true even = inl (eqb-true (vref_version found % 2) 0 even, (refl, ap (λ b. cond b Failed (Already (record { 0 = found }))) even), (inr (o, refl), λ _ _. through_release G codes_plain.words (socket_id_slot id) (λ _. Say o (fail_outcome found) next) (λ _. after)))
      by id found false odd = inr (through_release G codes_plain.words (socket_id_slot id) (λ _. Say o (fail_outcome found) next) (λ _. after))

  -- a `fail` is one of the seat's own
  abbrev pub OwnsFail : ℕ → Op → Type 0
  OwnsFail o (ops.Fail name code) = mine o code
  OwnsFail o other = Unit {0}

  codes_operation : (sizes : Sizes) (held : List HeldLife) (o : ℕ) (next : List HeldLife → Program) (op : Op) → OwnsFail o op → ((h : List HeldLife) → G (next h)) → G (operation sizes held o next op)
  codes_operation sizes held o next op owns goes = through_operation G codes_plain sizes held o next op goes (record {
    opens = λ name k e. through_open G codes_plain.words (codes_these makes_life (λ i. refl) (λ i h c. refl)) sizes.slots 0 o name k (next held) (goes held);
    sends = λ name bytes e. through_send G codes_sends sizes.requests o name bytes (next held) (goes held);
    calls = λ asked e. through_call G codes_plain sizes.requests asked (next held) (goes held) (λ id socket. codes_attempt sizes.requests asked id 0 socket (next held) (goes held)) sizes.ids;
    joins = λ t e. through_join G codes_plain (λ id next r. r) o t (next held) (goes held);
    fails = λ name code e. codes_fail o name code (next held) (subst (OwnsFail o) e owns) (goes held);
  })

  pub client_codes : (sizes : Sizes) (ts : List Task) (held : List HeldLife) → AllByRecursion (λ (t : Task). OwnsFail t.number t.op) ts → G (client_from sizes held ts)
  client_codes sizes [] held owns = through_back G codes_plain.words tt held
  client_codes sizes (t ∷ ts) held owns = codes_operation sizes held t.number (λ h. client_from sizes h ts) t.op owns.0 (λ h. client_codes sizes ts h owns.1)

  pub ending_codes : Other 1014 → (os : List ℕ) → G (ending_of os)
  ending_codes over os = through_ending G codes_plain.words (codes_fails 1014 over) (record { load = λ o next r. r; wait = λ o next r. r }) tt os

  pub reader_codes : ((code : ℕ) → IsOtherCode code → Other code) → (calls : List ℕ) (k o : ℕ) → G (reader calls k o)
  reader_codes others calls k o = λ word. through_reading (λ how. IsOtherCode how.code) G codes_reads (λ how low. codes_fails how.code (others how.code low)) tt calls k word

  -- ## Along ticks

  codes_round : (f : Failing) (head : Head) (next : Exit head → Program) → Stores mine Other f (Round head next) → G (round head next)
  codes_round f (Opens o) next x = λ found. either_way (found == 0) _ _ G x (x found)
  codes_round f (Reads r) next x = through_round (λ how. IsOtherCode how.code) G codes_reads (λ id next r. r) (Reads r) refl next x
  codes_round f head next x = through_round (λ how. IsOtherCode how.code) G codes_reads (λ id next r. r) head refl next (λ exit _. x exit)

  -- what a seat is to store is the same at the first step of a round
  pub codes_first : (f : Failing) (program : Program) → Stores mine Other f program → (g : Failing) × ((g ≡ f) ⊎ (g ≡ NoFail)) × Stores mine Other g (first_step program)
  codes_first f (Write w after) x = (NoFail, inr refl, through_block G G codes_plain codes_sends.links w after x)
  codes_first f (Round head next) x = (NoFail, inr refl, codes_round f head next x)
  codes_first f _ x = (f, inl refl, x)

  -- and behind what is said, where a retry may come first
  pub codes_next : (f : Failing) (ws : List Retry) (program : Program) → Stores mine Other f program → (g : Failing) × (((g ≡ f) × (next_step (resolved ws program) ≡ program)) ⊎ (g ≡ NoFail)) × Stores mine Other g (next_step (resolved ws program))
  codes_next f ws (Say o outcome next) x = let r = codes_next NoFail ws next x in (NoFail, inr refl, subst (λ g. Stores mine Other g (next_step (resolved ws next))) (⊎_elim (λ e. e.0) (λ e. e) r.1) r.2)
  codes_next f ws (Sent o next) x = let r = codes_next NoFail ws next x in (NoFail, inr refl, subst (λ g. Stores mine Other g (next_step (resolved ws next))) (⊎_elim (λ e. e.0) (λ e. e) r.1) r.2)
  codes_next f ws (Keep r next) x = let y = codes_next NoFail (ws ++ r ∷ []) next x in (NoFail, inr refl, subst (λ g. Stores mine Other g (next_step (resolved (ws ++ r ∷ []) next))) (⊎_elim (λ e. e.0) (λ e. e) y.1) y.2)
  codes_next f [] (Retries requests after) x = let r = codes_next NoFail [] after x in (NoFail, inr refl, subst (λ g. Stores mine Other g (next_step (resolved [] after))) (⊎_elim (λ e. e.0) (λ e. e) r.1) r.2)
  codes_next f (r ∷ ws) (Retries requests after) x = (
    NoFail,
    inr refl,
    through_retry G codes_plain requests r.id r.attempt (Retries requests after) x (λ asked socket. codes_attempt requests asked r.id r.attempt socket (Retries requests after) x) (λ i sought w next y. y),
  )
  codes_next f ws _ x = (f, inl (refl, refl), x)
