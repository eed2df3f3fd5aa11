-- What holds behind a call, a retry, an `expire`, a `join` or a reading holds before it, and what a seat's program meets it meets with the retries that wait.
use Rattle.std.proofs.Common.{◌≡◌, ℕ, zero, suc, ◌+◌, ◌-◌, ◌/◌, ◌%◌, ◌==◌, ◌&&◌, nat_lt, false, cond, List, [], ◌∷◌, ◌++◌, length, refl, sym, subst}
use Rattle.std.specs.Prelude as std
use Rattle.std.specs.Prelude.{None}
use mathlib.Core.Option.{some, some-injective, some-ne-none}
use lib.ListN.{get_elem?}
use Rattle.sock_words.specs.PackedWords.{socket_id_version, socket_id_slot, vref_version, at_word, at_word_first, at_word_slot, at_word_link, at_word_attempt, call_id, id_slot, id_first, NO_SOCKET}
use Rattle.sock_words.specs.declared.outcome.Outcome.TheVariants.{Unopened, Joined, NotBegun}
use Rattle.sock_steps.proofs.SumsAsMarksChange.{either_way}
use Rattle.sock_model.specs.declared.chain.Heading.{Heading}
use Rattle.seat_programs.specs.corr_core.specs.IdSlotWord.{parts, error_of}
use Rattle.seat_programs.specs.corr_core.specs.EndedByRangeOrAttempt.{WHOLE}
use Rattle.seat_programs.specs.brpc_model.specs.Frame.{Frame}
use Rattle.seat_programs.specs.sock_message.specs.Asked.{Asked, name_of, frame_of}
use Rattle.seat_programs.specs.TableSteps.{OnSlot, OnName, OnChain, LookWord, FindLink, ClaimRequest, LoadName}
use Rattle.seat_programs.specs.Asides.{ClaimId, PutCall, MakeId, StoreCall, LoadCall, StoreAt, LoadAt, TakeCall}
use Rattle.seat_programs.specs.LoopHeads.{Head, Exit, First, Unlocks, Opens, Reads, Retry, Posting, HasLocked, Unlocking, IsOpen, HasNext, Locking, NotThere, Has, Ended}
use Rattle.seat_programs.specs.Programs.{Program, Do, Say, Sent, Rest, Write, Aside, Round, Keep, Retries, release, add_reference}
use Rattle.seat_programs.specs.PostPrograms.{post, posted, decided}
use Rattle.seat_programs.specs.CallAndRetryPrograms.{claims_from, heading_for, attempt, begin_call, claim_id, call, tried_again, retry_locked, retry, expire_outcome, expire, join}
use Rattle.seat_programs.specs.ReaderProgram.{LIMIT, kept_for, ends_with, posted_last, post_each, thrown_away, read, reader}
use Rattle.seat_programs.specs.ScriptSetupToEnding.{readers_from}
use Rattle.seat_programs.specs.LoopRounds.{round, first_step}
use Rattle.seat_programs.specs.Cores.{resolved, next_step}
use Rattle.program_walks.proofs.Through.{PassesErrors, PassesLocked, PassesWords, PassesPlain, PassesFails, PassesSends, PassesStores, PassesLocks, PassesJoins, PassesReads, PassesOpens, Passes, any_end, Follows, next_follows, locked, through_release, through_address, through_any_failed}
use Rattle.program_walks.proofs.ThroughLoops.{through_post, through_post_with, through_posted, through_decide, through_decided, through_answer, through_opens, through_round}
use Rattle.program_walks.proofs.ThroughSends.{through_accept, through_block}

-- where all of a message and its at word make no difference
module _ (G : Program → Type 0) (s : PassesSends G) (stored : PassesStores G) where
  through_claims : (more q id : ℕ) (heading : Heading) (bytes : List ℕ) (full accepted : Program) → G full → G accepted → G (claims_from more q id heading bytes full accepted)
  through_claims zero q id heading bytes full accepted none_ after = none_
  through_claims (suc more) q id heading bytes full accepted none_ after = s.step (OnChain (ClaimRequest id q)) _ refl (λ found. either_way (found % 2 == 0) _ _ G
      (through_accept G s id q (found / 2) heading bytes accepted after) (through_claims more (q + 1) id heading bytes full accepted none_ after))

  -- the bytes of the frame play no part
  through_tries : (requests o socket id n : ℕ) (heading : Heading) (bytes : List ℕ) (next : Program) → G next
      → G (add_reference socket (Do (OnSlot (FindLink (socket_id_slot socket) (socket_id_version socket))) (λ k. Aside (StoreAt o (at_word (id_first id) (id_slot id) k n)) (λ _. Do (OnSlot (LookWord socket)) (λ found.
      cond (vref_version found % 2 == 0) (claims_from requests 0 socket heading bytes (post id 3001 n (release (socket_id_slot socket) (λ _. next))) (release (socket_id_slot socket) (λ _. next)))
      (post id 1009 n (release (socket_id_slot socket) (λ _. next))))))) (λ _. post id 1009 n next))
  through_tries requests o socket id n heading bytes next after = let goes : G (release (socket_id_slot socket) (λ _. next)) = through_release G s.plain.words (socket_id_slot socket) (λ _. next) (λ _. after) in
      through_address G s.plain.words socket _ (λ _. post id 1009 n next)
      (s.plain.words.step (OnSlot (FindLink (socket_id_slot socket) (socket_id_version socket))) _ refl (λ k. stored o (at_word (id_first id) (id_slot id) k n) _ (λ _. s.step (OnSlot (LookWord socket)) _ refl (λ found.
      either_way (vref_version found % 2 == 0) _ _ G
      (through_claims requests 0 socket heading bytes (post id 3001 n (release (socket_id_slot socket) (λ _. next))) (release (socket_id_slot socket) (λ _. next)) (through_post G s.plain.errors id 3001 n (release (socket_id_slot socket) (λ _. next)) goes) goes)
      (through_post G s.plain.errors id 1009 n (release (socket_id_slot socket) (λ _. next)) goes)))))
      (λ _. through_post G s.plain.errors id 1009 n next after)

  pub through_attempt : (requests : ℕ) (asked : Asked) (id n socket : ℕ) (next : Program) → G next → G (attempt requests asked id n socket next)
  through_attempt requests asked id n socket next after = through_tries requests asked.operation socket id n (heading_for asked id n) (frame_of asked id n) next after

module _ (G : Program → Type 0) (g : PassesPlain G) where
  -- ## Operations on calls

  -- a call, where its first attempt may come
  module _ (requests : ℕ) (asked : Asked) (next : Program) (after : G next) (first : (id socket : ℕ) → G (attempt requests asked id 0 socket next)) where
    through_begin_call : (socket i : ℕ) → G (begin_call requests socket i asked next)
    through_begin_call socket i = g.errors.aside (PutCall i asked) _ refl (λ _. g.errors.aside (MakeId i asked.range) _ refl (λ found. g.errors.aside (StoreCall asked.operation (call_id i (parts found).first)) _ refl (λ _.
        first (call_id i (parts found).first) socket)))

    through_claim_id : (more i socket : ℕ) → G (claim_id more i requests socket asked next)
    through_claim_id zero i socket = after
    through_claim_id (suc more) i socket = g.errors.aside (ClaimId i) _ refl (λ found. either_way (found == 0) _ _ G (through_begin_call socket i) (through_claim_id more (i + 1) socket))

    pub through_call : (ids : ℕ) → G (call requests ids asked next)
    through_call ids = g.words.step (OnName (LoadName (name_of asked 0))) _ refl (λ word. either_way (word == 0) _ _ G (g.errors.say asked.operation Unopened next after) (through_claim_id ids 0 (word - 1)))

  -- a retry, where its attempt may come
  module _ (requests id n : ℕ) (next : Program) (after : G next) (tries : (asked : Asked) (socket : ℕ) → G (attempt requests asked id n socket next)) where
    through_tried : (asked : Asked) (exit : Unlocking) → G (tried_again requests id n asked next exit)
    through_tried asked (IsOpen w) = g.words.step (OnName (LoadName (name_of asked n))) _ refl (λ word. either_way (word == 0) _ _ G (through_post G g.errors id 1009 n next after) (tries asked (word - 1)))
    through_tried asked (HasNext w e) = through_decide G (locked g.errors) id w e (decided id next) (through_decided G (locked g.errors) id next after)

    through_retry_locked : (exit : Locking) → G (retry_locked requests id n next exit)
    through_retry_locked (NotThere w) = after
    through_retry_locked (Has w) = g.errors.aside (TakeCall (id_slot id)) _ refl (λ asked. g.errors.aside (PutCall (id_slot id) asked) _ refl (λ _. g.errors.round (Unlocks (id_slot id) w false) (tried_again requests id n asked next) refl (through_tried asked)))

    pub through_retry : PassesLocks G → G (retry requests id n next)
    through_retry locks = locks (id_slot id) (First (id_first id)) None (retry_locked requests id n next) through_retry_locked

  pub through_expire : (o t : ℕ) (next : Program) → G next → G (expire o t next)
  through_expire o t next after = g.errors.aside (LoadCall t) _ refl (λ id. either_way (id == 0) _ _ G (g.errors.say o NotBegun next after)
      (through_post_with G g.errors id (error_of 1008 WHOLE) (λ how. posted id (error_of 1008 WHOLE) (Say o (expire_outcome how) next) how)
      (λ how. through_posted G g.errors id (error_of 1008 WHOLE) (Say o (expire_outcome how) next) (g.errors.say o (expire_outcome how) next after) how)))

  pub through_join : PassesJoins G → (o t : ℕ) (next : Program) → G next → G (join o t next)
  through_join joins o t next after = g.errors.aside (LoadCall t) _ refl (λ id. either_way (id == 0) _ _ G (g.errors.say o NotBegun next after) (joins id (λ _. Say o Joined next) (λ _. g.errors.say o Joined next after)))

-- ## Readers

module _ (G : Program → Type 0) (g : PassesLocked G) where
  through_ends_with : (id e word : ℕ) (kept : List Frame) (next : Program) → G next → G (ends_with id e word kept next)
  through_ends_with id e word [] next after = through_decide G g id word e (decided id next) (through_decided G g id next after)
  through_ends_with id e word (f ∷ fs) next after = through_answer G g f (id_first id) next after

  pub through_posted_last : (id e : ℕ) (kept : List Frame) (next : Program) → G next → (exit : Posting) → G (posted_last id e kept next exit)
  through_posted_last id e kept next after (HasLocked word) = through_ends_with id e word (kept_for id (parts word).range kept) next after
  through_posted_last id e kept next after _ = after

module _ (G : Program → Type 0) (g : PassesErrors G) where
  pub through_post_each : (os : List ℕ) (k c : ℕ) (kept : List Frame) (next : Program) → G next → G (post_each os k c kept next)
  through_post_each [] k c kept next after = after
  through_post_each (o ∷ os) k c kept next after = g.aside (LoadAt o) _ refl (λ w. let more = through_post_each os k c kept next after in either_way (w == 0) _ _ G more (either_way (at_word_link w == k) _ _ G
      (through_post_with G g (call_id (at_word_slot w) (at_word_first w)) (error_of c (at_word_attempt w)) (posted_last (call_id (at_word_slot w) (at_word_first w)) (error_of c (at_word_attempt w)) kept (post_each os k c kept next))
      (through_posted_last G (locked g) (call_id (at_word_slot w) (at_word_first w)) (error_of c (at_word_attempt w)) kept (post_each os k c kept next) more)) more))

module _ (G : Program → Type 0) (g : PassesWords G) where
  -- the end of a reading, where its socket may be set failed and its last posts come
  pub through_read_end : (calls : List ℕ) (how : Ended) → PassesFails G how.code → G (post_each calls how.reading.link how.code how.reading.kept (thrown_away how)) → G (read calls how)
  through_read_end calls how fails last = either_way how.closed _ _ G last
      (through_address G g how.reading.id _ _ (fails how.reading.id _ (λ _. through_release G g (socket_id_slot how.reading.id) _ (λ _. last))) (λ _. last))

module _ (Ends : Ended → Type 0) (G : Program → Type 0) (g : PassesReads Ends G) (fails : (how : Ended) → Ends how → PassesFails G how.code) (rests : G Rest) where
  through_thrown_away : (how : Ended) → G (thrown_away how)
  through_thrown_away how = either_way (how.fault && nat_lt how.reading.total LIMIT) _ _ G (g.discards how.reading.link how.reading.total (λ _. Rest) (λ _. rests)) rests

  through_read : (calls : List ℕ) (how : Ended) → Ends how → G (read calls how)
  through_read calls how ends = through_read_end G g.plain.words calls how (fails how ends)
      (through_post_each G g.plain.errors calls how.reading.link how.code how.reading.kept (thrown_away how) (through_thrown_away how))

  -- behind the word of its `open`
  pub through_reading : (calls : List ℕ) (k word : ℕ) → G (cond (word == NO_SOCKET) Rest (Round (Reads (record { ids = length calls; link = k; id = word - 1; rest = []; total = 0; kept = [] })) (read calls)))
  through_reading calls k word = either_way (word == NO_SOCKET) _ _ G rests (g.reads (record { ids = length calls; link = k; id = word - 1; rest = []; total = 0; kept = [] }) (read calls) (through_read calls))

  pub through_reader : PassesOpens G → (calls : List ℕ) (k o : ℕ) → G (reader calls k o)
  through_reader w calls k o = w.wait o _ (λ word. through_reading calls k word)

-- the programs of all readers, and with them those of seats that rest
module _ (G : Program → Type 0) (g : Passes G) (w : PassesOpens G) (rests : G Rest) where
  through_readers : (calls os : List ℕ) (k i : ℕ) (x : Program) → get_elem? (readers_from calls k os) i ≡ some x → G x
  through_readers calls [] k i x at = absurd (some-ne-none x (sym at))
  through_readers calls (o ∷ os) k zero x at = subst G (some-injective (reader calls k o) x at) (through_reader any_end G g.reads (λ how e. through_any_failed G g how.code) rests w calls k o)
  through_readers calls (o ∷ os) k (suc i) x at = through_readers calls os (k + 1) i x at

  pub through_others : (n : ℕ) (calls os : List ℕ) (k i : ℕ) (x : Program) → get_elem? (std.replicate n Rest ++ readers_from calls k os) i ≡ some x → G x
  through_others zero calls os k i x at = through_readers calls os k i x at
  through_others (suc n) calls os k zero x at = subst G (some-injective Rest x at) rests
  through_others (suc n) calls os k (suc i) x at = through_others n calls os k i x at

-- ## Seats

-- where a message, a reading and what stands aside of them make no difference
module _ (G : Program → Type 0) (g : Passes G) where
  first_round : (head : Head) (next : Exit head → Program) → ((o : ℕ) → (exits : ℕ → Program) → G (Round (Opens o) exits) → G (round (Opens o) exits)) → Follows G → G (Round head next) → G (round head next)
  first_round (Opens o) next opened f x = opened o next x
  first_round other next opened f x = through_round any_end G g.reads g.joins other refl next (λ exit _. f.round other next x exit)

  -- the first step of a round, where the seat is at the head of a loop; of one that waits for an `open` it has to be said
  pub through_head : ((o : ℕ) → (exits : ℕ → Program) → G (Round (Opens o) exits) → G (round (Opens o) exits)) → Follows G → (program : Program) → G program → G (first_step program)
  through_head opened f (Write w after) x = through_block G G g.sends.plain g.sends.links w after (f.write w after x)
  through_head opened f (Round head next) x = first_round head next opened f x
  through_head opened f _ x = x

  pub through_first : PassesOpens G → Follows G → (program : Program) → G program → G (first_step program)
  through_first w f program x = through_head (λ o exits y. through_opens G w o exits (f.round (Opens o) exits y)) f program x

  -- whatever retries wait
  pub through_resolved : Follows G → (ws : List Retry) (program : Program) → G program → G (resolved ws program)
  through_resolved f ws (Say o outcome next) x = g.sends.plain.errors.say o outcome (resolved ws next) (through_resolved f ws next (f.said o outcome next x))
  through_resolved f ws (Sent o next) x = g.sends.sent o (resolved ws next) (through_resolved f ws next (f.sent o next x))
  through_resolved f ws (Keep r next) x = through_resolved f (ws ++ r ∷ []) next (f.keep r next x)
  through_resolved f [] (Retries requests after) x = through_resolved f [] after (f.retries requests after x)
  through_resolved f (r ∷ ws) (Retries requests after) x = through_retry G g.sends.plain requests r.id r.attempt (Retries requests after) x (λ asked socket. through_attempt G g.sends g.stored requests asked r.id r.attempt socket (Retries requests after) x) g.reads.locks
  through_resolved f ws _ x = x

  pub through_next : Follows G → (ws : List Retry) (program : Program) → G program → G (next_step (resolved ws program))
  through_next f ws program x = next_follows G f (resolved ws program) (through_resolved f ws program x)
