-- What each client and reader does about messages: it claims a request only for a life that its last look found live, and it waits only where it has none claimed and writes no link.
use Rattle.std.proofs.Common.{◌≡◌, ℕ, zero, suc, ◌+◌, ◌/◌, ◌%◌, ◌==◌, ◌⊎◌, nat_lt, Bool, true, false, cond, List, [], ◌∷◌, ◌++◌, inl, inr, refl, sym, subst}
use Rattle.std.proofs.lemmas.Bool.{true≢false}
use Rattle.std.specs.Prelude.{if◌then◌else◌}
use mathlib.Core.Option.{none}
use Rattle.sock_words.specs.PackedWords.{socket_id_version, socket_id_slot, vref_version, at_word, IDLE, id_slot, id_first}
use Rattle.sock_words.specs.declared.outcome.Outcome.TheVariants.{Unopened, Gone, Full}
use Rattle.sock_model.specs.declared.chain.Heading.{Heading}
use Rattle.sock_model.specs.Entries.{ticket_of}
use Rattle.ended_calls.specs.refused_attempts.specs.Below.sock_steps.proofs.SumsAsMarksChange.{either_way}
use Rattle.sock_message.specs.Asked.{Asked, frame_of}
use Rattle.seat_programs.specs.declared.task.Op.{Op}
use Rattle.seat_programs.specs.declared.task.Task.{Task}
use Rattle.seat_programs.specs.declared.task.Sizes.{Sizes}
use Rattle.seat_programs.specs.TableSteps.{TableStep, OnSlot, OnChain, LookWord, FindLink, ClaimRequest, SwapHead, EmptyHead}
use Rattle.seat_programs.specs.Asides.{StoreAt}
use Rattle.seat_programs.specs.LoopHeads.{Head, Exit, Retry, Posts, Unlocks, Decides, Opens, Posting, Unlocking, Deciding}
use Rattle.seat_programs.specs.Programs.{Program, Do, Say, Sent, Write, Aside, Round, Keep, Retries, release, add_reference}
use Rattle.seat_programs.specs.PostPrograms.{post}
use Rattle.seat_programs.specs.ReaderProgram.{opens_round, reader}
use Rattle.seat_programs.specs.SendAndWritePrograms.{block, heading_of, accept, claim_from, start, send}
use Rattle.seat_programs.specs.CallAndRetryPrograms.{claims_from, heading_for, attempt, retry}
use Rattle.seat_programs.specs.LoopRounds.{round, first_step}
use Rattle.seat_programs.specs.ClientProgram.{HeldLife, operation, client_from}
use Rattle.seat_programs.specs.Cores.{resolved, next_step}
use Rattle.ended_calls.specs.refused_attempts.specs.Below.programs_allowed.specs.program_steps.specs.AtSteps.{Asks, AtSteps, asks_words}
use Rattle.ended_calls.specs.refused_attempts.specs.Below.programs_allowed.specs.program_steps.proofs.AtCalls.{every_exit}
use Rattle.ended_calls.specs.refused_attempts.specs.Below.programs_allowed.specs.program_walks.proofs.Records.{awaits}
use Rattle.ended_calls.specs.refused_attempts.specs.Below.programs_allowed.specs.program_walks.proofs.Through.{PassesPlain, PassesFails, PassesLinks, PassesReads, any_end, is_of_message, by_errors, others_plain, others_failing, others_make, reads_any, at_steps_plain, at_steps_links, through_release, through_address, through_reach, through_set_failed, through_fail}
use Rattle.ended_calls.specs.refused_attempts.specs.Below.programs_allowed.specs.program_walks.proofs.ThroughLoops.{through_post, through_errors, through_round}
use Rattle.ended_calls.specs.refused_attempts.specs.Below.programs_allowed.specs.program_walks.proofs.ThroughSends.{through_block, through_write_link}
use Rattle.ended_calls.specs.refused_attempts.specs.Below.programs_allowed.specs.program_walks.proofs.ThroughCalls.{through_call, through_retry, through_join, through_reading}
use Rattle.ended_calls.specs.refused_attempts.specs.Below.programs_allowed.specs.program_walks.proofs.ThroughClients.{through_open, through_back, through_operation}

-- ## What a seat has in hand of a message

-- nothing, also where its last look found the life of this id live; a request that it claimed; or the right to write a link
pub data Mode : Type 0 where
  Idle : Mode
  Saw : ℕ → Mode
  Claims : Mode
  Writes : Mode

-- neither a request nor a right
abbrev pub IsCalm : Mode → Type 0
IsCalm Idle = Unit {0}
IsCalm (Saw id) = Unit {0}
IsCalm other = ⊥

-- behind a look at the life of this id, which found this word
abbrev pub seen : ℕ → ℕ → Mode → Mode
seen id found Claims = Claims
seen id found Writes = Writes
seen id found other = if vref_version found % 2 == 0 then Saw id else Idle

abbrev LooksAt : Mode → TableStep → (ℕ → Program) → (Mode → ℕ → Type 0) → Type 0
LooksAt m (OnSlot (LookWord id)) next behind = (found : ℕ) → behind (seen id found m) found
LooksAt m (OnChain (ClaimRequest id q)) next behind = (m ≡ Saw id) × ((found : ℕ) → behind (if found % 2 == 0 then Claims else Saw id) found)
LooksAt m (OnChain (SwapHead i own)) next behind = (m ≡ Claims) × ((found : ℕ) → behind (if nat_lt found IDLE then Idle else Writes) found)
LooksAt m (OnChain (EmptyHead i last)) next behind = (m ≡ Writes) × ((found : ℕ) → behind (if found == last then Idle else Writes) found)
LooksAt m call next behind = (found : ℕ) → behind m found

abbrev LooksLoop : Mode → (head : Head) → (Mode → Exit head → Type 0) → Type 0
LooksLoop m (Posts id e w) behind = (exit : Posting) → behind m exit
LooksLoop m (Unlocks i w advance) behind = (exit : Unlocking) → behind m exit
LooksLoop m (Decides id asked w e) behind = (exit : Deciding) → behind m exit
LooksLoop m head behind = (m ≡ Idle) × ((exit : Exit head) → behind Idle exit)

abbrev asks : Asks Mode
asks = record (asks_words {S = Mode} (λ m. m) (Unit {0}) LooksAt every_exit) { written = λ m behind. (m ≡ Writes) × behind Idle; loop = LooksLoop; tried = λ m many behind. IsCalm m × behind Idle }

-- the program claims requests only behind such a look, exchanges a head only for the request that it claimed, gives its right up where it empties the head, and waits only where it has nothing in hand
abbrev pub Looks : Mode → Program → Type 0
Looks m program = AtSteps asks m program

-- whatever the last look found
abbrev pub LooksOn : Program → Type 0
LooksOn program = (m : Mode) → IsCalm m → Looks m program

two_ways : (b : Bool) (m n : Mode) (x y : Program) → Looks m x → Looks n y → Looks (cond b m n) (cond b x y)
two_ways true m n x y a c = a
two_ways false m n x y a c = c

-- ## Parts that take and give nothing

module _ (m : Mode) where
  abbrev G : Program → Type 0
  G program = Looks m program

  looks_others : (call : TableStep) (next : ℕ → Program) → is_of_message call ≡ false → ((found : ℕ) → G (next found)) → G (Do call next)
  looks_others (OnSlot (LookWord id)) next is r = absurd (true≢false is)
  looks_others (OnChain (ClaimRequest id q)) next is r = absurd (true≢false is)
  looks_others (OnChain (SwapHead i own)) next is r = absurd (true≢false is)
  looks_others (OnChain (EmptyHead i last)) next is r = absurd (true≢false is)
  looks_others call next is r = r

  looks_plain : PassesPlain G
  looks_plain = at_steps_plain asks m (others_plain G looks_others) (λ behind r. r) (λ step next is r. r) (by_errors G (λ id e w next r. r) (λ i w advance next r. r) (λ id asked w e next r. r)) (λ id w next r. r)

  looks_fails : (code : ℕ) → PassesFails G code
  looks_fails = through_set_failed G looks_plain.words (others_failing G looks_others)

-- ## Writing and waiting

looks_links : PassesLinks (Looks Writes) (Looks Idle)
looks_links = at_steps_links asks Writes Idle (λ id next r. r) (λ i last next more x y. (refl, λ found. two_ways (found == last) Idle Writes next (more found) x (y found))) (λ behind r. r) (λ behind r. (refl, r)) (looks_fails Writes 1009)

looks_loops : (head : Head) → awaits head ≡ none → (next : Exit head → Program) → ((exit : Exit head) → Looks Idle (next exit)) → Looks Idle (Round head next)
looks_loops (Posts id e w) l next r = r
looks_loops (Unlocks i w advance) l next r = r
looks_loops (Decides id asked w e) l next r = r
looks_loops head l next r = (refl, r)

looks_reads : PassesReads any_end (Looks Idle)
looks_reads = reads_any (Looks Idle) (looks_plain Idle) looks_loops (λ k room next r. r)

-- ## Sending

looks_accept : (id q n : ℕ) (heading : Heading) (bytes : List ℕ) (next : Program) → Looks Idle next → Looks Claims (accept id q n heading bytes next)
looks_accept id q n heading bytes next after = λ _ _. (refl, λ found. two_ways (nat_lt found IDLE) Idle Writes _ _ (λ _. after) (through_write_link (Looks Writes) (Looks Idle) (looks_plain Writes) looks_links id q (ticket_of q n) next after))

looks_claim : (more q o id : ℕ) (bytes : List ℕ) (next : Program) → LooksOn next → Looks (Saw id) (claim_from more q o id bytes next)
looks_claim zero q o id bytes next after = through_release (Looks (Saw id)) (looks_plain (Saw id)).words (socket_id_slot id) (λ _. Say o Full next) (λ _. after (Saw id) tt)
looks_claim (suc more) q o id bytes next after = (
  refl,
  λ found. two_ways (found % 2 == 0) Claims (Saw id) _ _
      (looks_accept id q (found / 2) (heading_of o) bytes (release (socket_id_slot id) (λ _. Sent o next)) (through_release (Looks Idle) (looks_plain Idle).words (socket_id_slot id) (λ _. Sent o next) (λ _. after Idle tt))) (looks_claim more (q + 1) o id bytes next after),
)

looks_start : (requests o id : ℕ) (bytes : List ℕ) (next : Program) → LooksOn next → Looks Idle (start requests o id bytes next)
looks_start requests o id bytes next after = λ found. two_ways (vref_version found % 2 == 0) (Saw id) Idle _ _ (looks_claim requests 0 o id bytes next after)
    (through_release (Looks Idle) (looks_plain Idle).words (socket_id_slot id) (λ _. Say o (Gone (record { 0 = found })) next) (λ _. after Idle tt))

looks_send : (requests o name : ℕ) (bytes : List ℕ) (next : Program) → LooksOn next → Looks Idle (send requests o name bytes next)
looks_send requests o name bytes next after = through_reach (Looks Idle) (looks_plain Idle).words name (Say o Unopened next) (λ id. start requests o id bytes next) (λ found. Say o (Gone (record { 0 = found })) next) (after Idle tt) (λ id. looks_start requests o id bytes next after) (λ found. after Idle tt)

-- ## Calls

looks_claims : (more q id : ℕ) (heading : Heading) (bytes : List ℕ) (full accepted : Program) → Looks (Saw id) full → Looks Idle accepted → Looks (Saw id) (claims_from more q id heading bytes full accepted)
looks_claims zero q id heading bytes full accepted none_ after = none_
looks_claims (suc more) q id heading bytes full accepted none_ after = (
  refl,
  λ found. two_ways (found % 2 == 0) Claims (Saw id) _ _
      (looks_accept id q (found / 2) heading bytes accepted after) (looks_claims more (q + 1) id heading bytes full accepted none_ after),
)

looks_tries : (requests o socket id n : ℕ) (heading : Heading) (bytes : List ℕ) (next : Program) → LooksOn next
    → Looks Idle (add_reference socket (Do (OnSlot (FindLink (socket_id_slot socket) (socket_id_version socket))) (λ k. Aside (StoreAt o (at_word (id_first id) (id_slot id) k n)) (λ _. Do (OnSlot (LookWord socket)) (λ found.
    cond (vref_version found % 2 == 0) (claims_from requests 0 socket heading bytes (post id 3001 n (release (socket_id_slot socket) (λ _. next))) (release (socket_id_slot socket) (λ _. next)))
    (post id 1009 n (release (socket_id_slot socket) (λ _. next))))))) (λ _. post id 1009 n next))
looks_tries requests o socket id n heading bytes next after = let rest : Program = release (socket_id_slot socket) (λ _. next) in
    let goes : LooksOn (release (socket_id_slot socket) (λ _. next)) = λ m calm. through_release (Looks m) (looks_plain m).words (socket_id_slot socket) (λ _. next) (λ _. after m calm) in
    through_address (Looks Idle) (looks_plain Idle).words socket _ (λ _. post id 1009 n next)
    (λ k _ found. two_ways (vref_version found % 2 == 0) (Saw socket) Idle _ _
    (looks_claims requests 0 socket heading bytes (post id 3001 n (release (socket_id_slot socket) (λ _. next))) (release (socket_id_slot socket) (λ _. next)) (through_post (Looks (Saw socket)) (looks_plain (Saw socket)).errors id 3001 n (release (socket_id_slot socket) (λ _. next)) (goes (Saw socket) tt)) (goes Idle tt))
    (through_post (Looks Idle) (looks_plain Idle).errors id 1009 n (release (socket_id_slot socket) (λ _. next)) (goes Idle tt)))
    (λ _. through_post (Looks Idle) (looks_plain Idle).errors id 1009 n next (after Idle tt))

looks_attempt : (requests : ℕ) (asked : Asked) (id n socket : ℕ) (next : Program) → LooksOn next → Looks Idle (attempt requests asked id n socket next)
looks_attempt requests asked id n socket next after = looks_tries requests asked.operation socket id n (heading_for asked id n) (frame_of asked id n) next after

looks_retry : (requests id n : ℕ) (next : Program) → LooksOn next → Looks Idle (retry requests id n next)
looks_retry requests id n next after = through_retry (Looks Idle) (looks_plain Idle) requests id n next (after Idle tt) (λ asked socket. looks_attempt requests asked id n socket next after) (λ i sought w next r. (refl, r))

-- ## Clients and the ending

looks_operation : (sizes : Sizes) (held : List HeldLife) (o : ℕ) (next : List HeldLife → Program) (op : Op) → ((h : List HeldLife) → LooksOn (next h)) → Looks Idle (operation sizes held o next op)
looks_operation sizes held o next op after = through_operation (Looks Idle) (looks_plain Idle) sizes held o next op (λ h. after h Idle tt) (record {
  opens = λ name k e. through_open (Looks Idle) (looks_plain Idle).words (others_make (Looks Idle) (looks_others Idle)) sizes.slots 0 o name k (next held) (after held Idle tt);
  sends = λ name bytes e. looks_send sizes.requests o name bytes (next held) (after held);
  calls = λ asked e. through_call (Looks Idle) (looks_plain Idle) sizes.requests asked (next held) (after held Idle tt) (λ id socket. looks_attempt sizes.requests asked id 0 socket (next held) (after held)) sizes.ids;
  joins = λ t e. through_join (Looks Idle) (looks_plain Idle) (λ id next r. (refl, r)) o t (next held) (after held Idle tt);
  fails = λ name code e. through_fail (Looks Idle) (looks_plain Idle).words o name code (next held) (looks_fails Idle code) (after held Idle tt);
})

pub client_looks : (sizes : Sizes) (ts : List Task) (held : List HeldLife) → LooksOn (client_from sizes held ts)
client_looks sizes [] held = λ m calm. (calm, through_back (Looks Idle) (looks_plain Idle).words tt held)
client_looks sizes (t ∷ ts) held = λ m calm. (calm, looks_operation sizes held t.number (λ h. client_from sizes h ts) t.op (λ h. client_looks sizes ts h))

-- ## Readers

pub reader_looks : (calls : List ℕ) (k o : ℕ) → Looks Idle (reader calls k o)
reader_looks calls k o = (refl, λ word. through_reading any_end (Looks Idle) looks_reads (λ how e. looks_fails Idle how.code) tt calls k word)

-- ## The next step

looks_round : (m : Mode) (head : Head) (next : Exit head → Program) → Looks m (Round head next) → Looks m (round head next)
looks_round m (Posts id e w) next x = through_errors (Looks m) (looks_plain m).errors (Posts id e w) next refl x
looks_round m (Unlocks i w advance) next x = through_errors (Looks m) (looks_plain m).errors (Unlocks i w advance) next refl x
looks_round m (Decides id asked w e) next x = through_errors (Looks m) (looks_plain m).errors (Decides id asked w e) next refl x
looks_round m (Opens o) next x = subst (λ n. Looks n (opens_round o next)) (sym x.0) (λ word. either_way (word == 0) _ _ (Looks Idle) (refl, x.1) (x.1 word))
looks_round m head next x = subst (λ n. Looks n (round head next)) (sym x.0) (through_round any_end (Looks Idle) looks_reads (λ id next r. (refl, r)) head refl next (λ exit _. x.1 exit))

-- the first step of a round
pub looks_first : (m : Mode) (program : Program) → Looks m program → Looks m (first_step program)
looks_first m (Write w after) x = subst (λ n. Looks n (block w after)) (sym x.0) (through_block (Looks Writes) (Looks Idle) (looks_plain Writes) looks_links w after x.1)
looks_first m (Round head next) x = looks_round m head next x
looks_first m _ x = x

-- from the same in hand on, or from nothing where there was nothing
abbrev pub Eased : Mode → Program → Type 0
Eased m program = (n : Mode) × ((n ≡ m) ⊎ (IsCalm m × (n ≡ Idle))) × Looks n program

calmed : (m : Mode) → IsCalm m → (program : Program) → Eased Idle program → Eased m program
calmed m calm program (n, x, looks) = (n, inr (calm, idle x), looks)
  where
    idle : (n ≡ Idle) ⊎ (IsCalm Idle × (n ≡ Idle)) → n ≡ Idle
    idle (inl e) = e
    idle (inr e) = e.1

pub looks_next : (m : Mode) (ws : List Retry) (program : Program) → Looks m program → Eased m (next_step (resolved ws program))
looks_next m ws (Say o outcome next) x = looks_next m ws next x
looks_next m ws (Sent o next) x = looks_next m ws next x
looks_next m ws (Keep r next) x = looks_next m (ws ++ r ∷ []) next x
looks_next m [] (Retries requests after) x = calmed m x.0 (next_step (resolved [] after)) (looks_next Idle [] after x.1)
looks_next m (r ∷ ws) (Retries requests after) x = (Idle, inr (x.0, refl), looks_retry requests r.id r.attempt (Retries requests after) (λ n calm. (calm, x.1)))
looks_next m ws _ x = (m, inl refl, x)
