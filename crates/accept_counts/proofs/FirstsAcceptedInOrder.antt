-- Each client has its sends and first attempts accepted in the order of its operations.
use Rattle.std.proofs.Common.{◌≡◌, ℕ, zero, suc, ◌+◌, ◌/◌, ◌%◌, ◌==◌, nat_lt, eqb, ne_eqb, ◌≢◌, ◌≤◌, arith, false, cond, List, [], ◌∷◌, ◌++◌, refl, sym, subst}
use Rattle.std.proofs.lemmas.Bool.{true≢false}
use Rattle.std.specs.List.{AllByRecursion}
use Rattle.sock_words.specs.PackedWords.{socket_id_slot, vref_version, IDLE}
use Rattle.sock_words.specs.declared.outcome.Outcome.TheVariants.{Unopened, Gone, Full}
use Rattle.sock_model.specs.declared.chain.Heading.{Heading}
use Rattle.sock_model.specs.Entries.{ticket_of}
use Rattle.run_theorems.specs.Below.sock_steps.proofs.SumsAsMarksChange.{either_way}
use Rattle.sock_message.specs.Asked.{Asked, frame_of}
use Rattle.seat_programs.specs.brpc_model.specs.Order.{EachBefore}
use Rattle.call_causes.specs.Below.outcome_stories.specs.PlainTasks.{OwnsCall}
use Rattle.outcome_causes.specs.outcome_ticks.proofs.SeatPartOfStory.{Less}
use Rattle.seat_programs.specs.declared.task.Op.{Op}
use Rattle.seat_programs.specs.declared.task.Task.{Task}
use Rattle.seat_programs.specs.declared.task.Sizes.{Sizes}
use Rattle.seat_programs.specs.TableSteps.{TableStep, OnMessage, PutMessage}
use Rattle.seat_programs.specs.LoopHeads.{Head, Exit, Retry, Opens}
use Rattle.seat_programs.specs.Programs.{Program, Do, Say, Sent, Write, Round, Keep, Retries, release}
use Rattle.seat_programs.specs.PostPrograms.{post}
use Rattle.seat_programs.specs.SendAndWritePrograms.{heading_of, accept, claim_from, start, send}
use Rattle.seat_programs.specs.CallAndRetryPrograms.{claims_from, heading_for, attempt, retry}
use Rattle.seat_programs.specs.LoopRounds.{round, first_step}
use Rattle.seat_programs.specs.ReaderProgram.{reader}
use Rattle.seat_programs.specs.ClientProgram.{HeldLife, operation, client_from, ending_of}
use Rattle.seat_programs.specs.Cores.{resolved, still_waiting, next_step}
use Rattle.outcome_causes.specs.program_steps.specs.AtSteps.{Asks, AtSteps, asks_words}
use Rattle.outcome_causes.specs.program_steps.proofs.AtCalls.{every_exit}
use Rattle.outcome_causes.specs.program_walks.proofs.Through.{PassesPlain, PassesFails, PassesLinks, PassesReads, any_end, is_of_message, others_plain, others_failing, others_make, reads_any, at_steps_plain, at_steps_links, through_release, through_address, through_reach, through_set_failed, through_fail}
use Rattle.outcome_causes.specs.program_walks.proofs.ThroughLoops.{through_post, through_round}
use Rattle.outcome_causes.specs.program_walks.proofs.ThroughSends.{through_block, through_write_link, through_ending}
use Rattle.outcome_causes.specs.program_walks.proofs.ThroughCalls.{through_call, through_retry, through_join, through_reading}
use Rattle.outcome_causes.specs.program_walks.proofs.ThroughClients.{through_open, through_back, through_operation}

-- the number from which on the operations are free behind this message
abbrev pub behind : Heading → ℕ → ℕ
behind h low = cond (eqb h.label.attempt 0) (h.label.operation + 1) low

-- of these operations, from this number on, the program has first messages accepted in their order
module _ (mine : ℕ → Type 0) where
  abbrev FirstsAt : ℕ → TableStep → (ℕ → Program) → (ℕ → ℕ → Type 0) → Type 0
  FirstsAt low (OnMessage (PutMessage q heading bytes)) next then_ = (heading.label.attempt ≡ 0 → (low ≤ heading.label.operation) × mine heading.label.operation) × ((found : ℕ) → then_ (behind heading low) found)
  FirstsAt low call next then_ = (found : ℕ) → then_ low found

  abbrev asks : Asks ℕ
  asks = record (asks_words {S = ℕ} (λ low. low) (Unit {0}) FirstsAt every_exit) { kept = λ low r then_. (r.attempt ≢ 0) × then_ low }

  abbrev pub Firsts : ℕ → Program → Type 0
  Firsts low program = AtSteps asks low program

  -- ## Parts of programs

  module _ (low : ℕ) where
    abbrev G : Program → Type 0
    G = Firsts low

    firsts_others : (call : TableStep) (next : ℕ → Program) → is_of_message call ≡ false → ((found : ℕ) → G (next found)) → G (Do call next)
    firsts_others (OnMessage (PutMessage q heading bytes)) next is r = absurd (true≢false is)
    firsts_others call next is r = r

    firsts_plain : PassesPlain G
    firsts_plain = at_steps_plain asks low (others_plain G firsts_others) (λ then_ r. r) (λ step next is r. r) (λ head next is r. r) (λ id w next r exit. ((λ z. omega (arith, z)), r exit))

    firsts_fails : (code : ℕ) → PassesFails G code
    firsts_fails = through_set_failed G firsts_plain.words (others_failing G firsts_others)

    firsts_links : PassesLinks G G
    firsts_links = at_steps_links asks low low (λ id next r. r) (λ i last next more x y found. either_way (found == last) next (more found) G x (y found)) (λ then_ r. r) (λ then_ r. r) (firsts_fails 1009)

    firsts_reads : PassesReads any_end G
    firsts_reads = reads_any G firsts_plain (λ head l next r. r) (λ k room next r. r)

  -- ## Messages

  firsts_accept : (low id q g : ℕ) (heading : Heading) (bytes : List ℕ) (after : Program) → (heading.label.attempt ≡ 0 → (low ≤ heading.label.operation) × mine heading.label.operation) → Firsts (behind heading low) after → Firsts low (accept id q g heading bytes after)
  firsts_accept low id q g heading bytes after may goes = (may, λ _ _ found. either_way (nat_lt found IDLE) _ _ (Firsts (behind heading low)) (λ _. goes) (through_write_link (Firsts (behind heading low)) (Firsts (behind heading low)) (firsts_plain (behind heading low)) (firsts_links (behind heading low)) id q (ticket_of q g) after goes))

  firsts_claims : (low more q id : ℕ) (heading : Heading) (bytes : List ℕ) (full accepted : Program) → (heading.label.attempt ≡ 0 → (low ≤ heading.label.operation) × mine heading.label.operation) → Firsts low full → Firsts (behind heading low) accepted
      → Firsts low (claims_from more q id heading bytes full accepted)
  firsts_claims low zero q id heading bytes full accepted may stays goes = stays
  firsts_claims low (suc more) q id heading bytes full accepted may stays goes = λ found. either_way (found % 2 == 0) _ _ (Firsts low) (firsts_accept low id q (found / 2) heading bytes accepted may goes)
      (firsts_claims low more (q + 1) id heading bytes full accepted may stays goes)

  firsts_claim_from : (low more q o id : ℕ) (bytes : List ℕ) (next : Program) → (low ≤ o) × mine o → Firsts low next → Firsts (o + 1) next → Firsts low (claim_from more q o id bytes next)
  firsts_claim_from low zero q o id bytes next may stays goes = through_release (Firsts low) (firsts_plain low).words (socket_id_slot id) (λ _. Say o Full next) (λ _. stays)
  firsts_claim_from low (suc more) q o id bytes next may stays goes = λ found. either_way (found % 2 == 0) _ _ (Firsts low)
      (firsts_accept low id q (found / 2) (heading_of o) bytes (release (socket_id_slot id) (λ _. Sent o next)) (λ _. may) (through_release (Firsts (o + 1)) (firsts_plain (o + 1)).words (socket_id_slot id) (λ _. Sent o next) (λ _. goes)))
      (firsts_claim_from low more (q + 1) o id bytes next may stays goes)

  firsts_send : (low requests o name : ℕ) (bytes : List ℕ) (next : Program) → (low ≤ o) × mine o → Firsts low next → Firsts (o + 1) next → Firsts low (send requests o name bytes next)
  firsts_send low requests o name bytes next may stays goes = through_reach (Firsts low) (firsts_plain low).words name (Say o Unopened next) (λ id. start requests o id bytes next) (λ found. Say o (Gone (record { 0 = found })) next) stays
      (λ id found. either_way (vref_version found % 2 == 0) _ _ (Firsts low) (firsts_claim_from low requests 0 o id bytes next may stays goes) (through_release (Firsts low) (firsts_plain low).words (socket_id_slot id) (λ _. Say o (Gone (record { 0 = found })) next) (λ _. stays)))
      (λ found. stays)

  -- ## Attempts

  firsts_attempt : (low requests : ℕ) (asked : Asked) (id n socket : ℕ) (next : Program) → (n ≡ 0 → (low ≤ asked.operation) × mine asked.operation) → Firsts low next → Firsts (cond (eqb n 0) (asked.operation + 1) low) next → Firsts low (attempt requests asked id n socket next)
  firsts_attempt low requests asked id n socket next may stays goes = let i : ℕ = socket_id_slot socket in
      through_address (Firsts low) (firsts_plain low).words socket _ (λ _. post id 1009 n next)
      (λ k _ found. either_way (vref_version found % 2 == 0) _ _ (Firsts low)
      (firsts_claims low requests 0 socket (heading_for asked id n) (frame_of asked id n) (post id 3001 n (release i (λ _. next))) (release i (λ _. next)) may
      (through_post (Firsts low) (firsts_plain low).errors id 3001 n (release i (λ _. next)) (through_release (Firsts low) (firsts_plain low).words i (λ _. next) (λ _. stays))) (through_release (Firsts (cond (eqb n 0) (asked.operation + 1) low)) (firsts_plain (cond (eqb n 0) (asked.operation + 1) low)).words i (λ _. next) (λ _. goes)))
      (through_post (Firsts low) (firsts_plain low).errors id 1009 n (release i (λ _. next)) (through_release (Firsts low) (firsts_plain low).words i (λ _. next) (λ _. stays))))
      (λ _. through_post (Firsts low) (firsts_plain low).errors id 1009 n next stays)

  -- ## Retries

  firsts_retry : (low requests id n : ℕ) → n ≢ 0 → (next : Program) → Firsts low next → Firsts low (retry requests id n next)
  firsts_retry low requests id n later next goes = through_retry (Firsts low) (firsts_plain low) requests id n next goes
      (λ asked socket. firsts_attempt low requests asked id n socket next (λ z. absurd (later z)) goes (subst (λ b. Firsts (cond b (asked.operation + 1) low) next) (sym (ne_eqb n 0 later)) goes)) (λ i sought w next r. r)

  -- ## Operations

  firsts_operation : (sizes : Sizes) (held : List HeldLife) (low o : ℕ) (next : List HeldLife → Program) (op : Op) → OwnsCall o op → (low ≤ o) × mine o → ((h : List HeldLife) → Firsts low (next h)) → ((h : List HeldLife) → Firsts (o + 1) (next h)) → Firsts low (operation sizes held o next op)
  firsts_operation sizes held low o next op owns may stays goes = through_operation (Firsts low) (firsts_plain low) sizes held o next op stays (record {
    opens = λ name k e. through_open (Firsts low) (firsts_plain low).words (others_make (Firsts low) (firsts_others low)) sizes.slots 0 o name k (next held) (stays held);
    sends = λ name bytes e. firsts_send low sizes.requests o name bytes (next held) may (stays held) (goes held);
    calls = λ asked e. let is : asked.operation ≡ o = subst (OwnsCall o) e owns in through_call (Firsts low) (firsts_plain low) sizes.requests asked (next held) (stays held)
        (λ id socket. firsts_attempt low sizes.requests asked id 0 socket (next held) (λ _. subst (λ x. (low ≤ x) × mine x) (sym is) may) (stays held) (subst (λ x. Firsts (x + 1) (next held)) (sym is) (goes held))) sizes.ids;
    joins = λ t e. through_join (Firsts low) (firsts_plain low) (λ id next r. r) o t (next held) (stays held);
    fails = λ name code e. through_fail (Firsts low) (firsts_plain low).words o name code (next held) (firsts_fails low code) (stays held);
  })

  -- tasks in the order of their numbers
  pub client_firsts : (sizes : Sizes) (ts : List Task) (held : List HeldLife) (low : ℕ) → EachBefore Less ts → AllByRecursion (λ (t : Task). OwnsCall t.number t.op) ts → AllByRecursion (λ (t : Task). (low ≤ t.number) × mine t.number) ts → Firsts low (client_from sizes held ts)
  client_firsts sizes [] held low sorted owns are = through_back (Firsts low) (firsts_plain low).words tt held
  client_firsts sizes (t ∷ ts) held low sorted owns are = firsts_operation sizes held low t.number (λ h. client_from sizes h ts) t.op owns.0 are.0
      (λ h. client_firsts sizes ts h low sorted.1 owns.1 are.1) (λ h. client_firsts sizes ts h (t.number + 1) sorted.1 owns.1 (later_are ts sorted.0 are.1))
    where
      later_are : (us : List Task) → AllByRecursion (Less t) us → AllByRecursion (λ (u : Task). (low ≤ u.number) × mine u.number) us → AllByRecursion (λ (u : Task). (t.number + 1 ≤ u.number) × mine u.number) us
      later_are [] less all = tt
      later_are (u ∷ us) less all = ((omega (arith, less.0), all.0.1), later_are us less.1 all.1)

  pub ending_firsts : (low : ℕ) (os : List ℕ) → Firsts low (ending_of os)
  ending_firsts low os = through_ending (Firsts low) (firsts_plain low).words (firsts_fails low 1014) (record { load = λ o next r. r; wait = λ o next r. r }) tt os

  pub reader_firsts : (low : ℕ) (calls : List ℕ) (k o : ℕ) → Firsts low (reader calls k o)
  reader_firsts low calls k o = λ word. through_reading any_end (Firsts low) (firsts_reads low) (λ how e. firsts_fails low how.code) tt calls k word

  -- ## Along ticks

  firsts_round : (low : ℕ) (head : Head) (next : Exit head → Program) → Firsts low (Round head next) → Firsts low (round head next)
  firsts_round low (Opens o) next x = λ found. either_way (found == 0) _ _ (Firsts low) x (x found)
  firsts_round low head next x = through_round any_end (Firsts low) (firsts_reads low) (λ id next r. r) head refl next (λ exit _. x exit)

  pub firsts_first : (low : ℕ) (program : Program) → Firsts low program → Firsts low (first_step program)
  firsts_first low (Write w after) x = through_block (Firsts low) (Firsts low) (firsts_plain low) (firsts_links low) w after x
  firsts_first low (Round head next) x = firsts_round low head next x
  firsts_first low _ x = x

  abbrev pub AreLater : List Retry → Type 0
  AreLater ws = AllByRecursion (λ (r : Retry). r.attempt ≢ 0) ws

  later_more : (ws : List Retry) (r : Retry) → AreLater ws → r.attempt ≢ 0 → AreLater (ws ++ r ∷ [])
  later_more [] r all one = (one, tt)
  later_more (w ∷ ws) r all one = (all.0, later_more ws r all.1 one)

  pub firsts_next : (low : ℕ) (ws : List Retry) (program : Program) → AreLater ws → Firsts low program → Firsts low (next_step (resolved ws program)) × AreLater (still_waiting ws program)
  firsts_next low ws (Say o outcome next) later x = firsts_next low ws next later x
  firsts_next low ws (Sent o next) later x = firsts_next low ws next later x
  firsts_next low ws (Keep r next) later x = firsts_next low (ws ++ r ∷ []) next (later_more ws r later x.0) x.1
  firsts_next low [] (Retries requests after) later x = firsts_next low [] after later x
  firsts_next low (r ∷ ws) (Retries requests after) later x = (firsts_retry low requests r.id r.attempt later.0 (Retries requests after) x, later.1)
  firsts_next low ws _ later x = (x, later)
