-- Programs of clients, of readers and of the ending: each makes its calls once, and stores at words and homes of an operation's own id alone.
use Rattle.std.proofs.Common.{◌≡◌, ℕ, zero, suc, ◌+◌, ◌-◌, ◌/◌, ◌%◌, ◌<◌, inl, inr, ◌==◌, ◌&&◌, ◌||◌, not, nat_lt, Bool, true, false, cond, eq-eqb, ne_eqb, eqb-true, List, [], ◌∷◌, ◌++◌, length, refl, sym, ap, ◌∙◌, subst, arith}
use Rattle.std.proofs.lemmas.Bool.{true≢false}
use Rattle.std.specs.Prelude as std
use Rattle.std.specs.Prelude.{None, Some}
use Rattle.std.specs.List.{AllByRecursion}
use Rattle.sock_words.specs.PackedWords.{socket_id_version, socket_id_slot, vref_version, at_word, at_word_first, at_word_slot, at_word_link, at_word_attempt, call_id, id_slot, id_first, NO_SOCKET}
use Rattle.sock_words.specs.declared.outcome.Outcome.TheVariants.{Unopened, Joined, NotBegun}
use Rattle.sock_model.specs.declared.chain.Heading.{Heading}
use Rattle.call_owing.specs.Below.sock_steps.proofs.SumsAsMarksChange.{either_way}
use Rattle.corr_core.specs.IdSlotWord.{parts, error_of}
use Rattle.corr_core.specs.EndedByRangeOrAttempt.{WHOLE}
use Rattle.seat_programs.specs.brpc_model.specs.Frame.{Frame}
use Rattle.seat_programs.specs.brpc_model.specs.Order.{EachBefore}
use Rattle.seat_programs.specs.sock_message.specs.Asked.{Asked, name_of, frame_of}
use Rattle.seat_programs.specs.declared.task.Op.{Op}
use Rattle.seat_programs.specs.declared.task.Op.TheVariants as ops
use Rattle.seat_programs.specs.declared.task.Task.{Task}
use Rattle.seat_programs.specs.declared.task.Sizes.{Sizes}
use Rattle.seat_programs.specs.TableSteps.{TableStep, OnSlot, OnName, OnChain, OnLink, ClaimSlot, CreateLife, StoreLink, ResetHead, ClearCode, StoreName, StoreOpen, TakeLink, FinishLink, PutLink, LookWord, FindLink, ClaimRequest, LoadName}
use Rattle.seat_programs.specs.Asides.{PutCall, LoadCall, StoreAt, LoadAt}
use Rattle.seat_programs.specs.LoopHeads.{First, Unlocks, Posting, WasGone, WasStale, WasCrowded, WasQueued, HasLocked, Unlocking, IsOpen, HasNext, Locking, NotThere, Has, Ended}
use Rattle.seat_programs.specs.Programs.{Program, Do, Say, Rest, Aside, Round, release, add_reference, open_from, make_socket}
use Rattle.seat_programs.specs.PostPrograms.{post, posted, decided}
use Rattle.seat_programs.specs.CallAndRetryPrograms.{claims_from, heading_for, attempt, begin_call, claim_id, call, tried_again, retry_locked, retry, expire_outcome, expire, join}
use Rattle.seat_programs.specs.ReaderProgram.{LIMIT, kept_for, ends_with, posted_last, post_each, thrown_away, read, reader}
use Rattle.seat_programs.specs.ClientProgram.{HeldLife, held_under, without_name, give_back, drop_of, operation, client_from, ending_of}
use Rattle.seat_programs.specs.Explained.{HaveOwnLinks}
use Rattle.call_owing.specs.Below.programs_allowed.specs.program_walks.proofs.OpenedLivesRecorded.{or_cases, second_true, or_first, or_second, both_true}
use Rattle.call_owing.specs.Below.id_runs.specs.Goes.{FitsSock}
use Rattle.call_owing.specs.Owns.{Other, HasClaimed, HasLock, HasTaken, Grows, IsIdOf, IsOwnAt, but, Owns}
use Rattle.call_owing.proofs.PostsAndDecisionsOwed.{id_back}
use Rattle.owned_ids.proofs.OwnsLoops.{Later, Locked, AfterPost, AfterUnlock, AfterLock, grows_on, grows_same, id_grows, step, say, aside, retries, post_with_goes, unlocks_again, decide_goes, decided_goes, posted_goes, post_goes, locks_again, joins_again, opens_again, reads_again, discards_again, answer_goes}
use Rattle.owned_ids.proofs.OwnsSends.{release_goes, address_goes, set_failed_goes, fail_goes, hold_goes, drop_goes, accept_goes, send_goes, end_goes}

-- of more calls with ids
later_on : (has more : ℕ → ℕ) (mine : ℕ → Bool) (program : Program) → Grows has more → Later has mine program → Later more mine program
later_on has more mine program g r = record { goes = λ most h b. r.goes most (grows_on has more most g h) b }

module _ (has : ℕ → ℕ) (mine : ℕ → Bool) where
  abbrev G : Program → Type 0
  G = Later has mine

  -- ## Attempts

  step_fits : (c : TableStep) (next : ℕ → Program) → ((found : ℕ) → FitsSock c found → G (next found)) → G (Do c next)
  step_fits c next r = record { goes = λ more g b found fits most h. (r found fits).goes most (grows_on has more most g h) Other }

  stores : (o w : ℕ) (next : ℕ → Program) → IsOwnAt has o w → ((found : ℕ) → G (next found)) → G (Aside (StoreAt o w) next)
  stores o w next own r = record { goes = λ more g b. ((own.0, own.1, own.2, id_grows has more g o own.0 own.3, own.4, own.5, own.6), λ found most h _. (r found).goes most (grows_on has more most g h) Other) }

  claims_goes : (more q id : ℕ) (heading : Heading) (bytes : List ℕ) (full accepted : Program) → G full → G accepted → G (claims_from more q id heading bytes full accepted)
  claims_goes zero q id heading bytes full accepted none_ after = none_
  claims_goes (suc more) q id heading bytes full accepted none_ after = step has mine (OnChain (ClaimRequest id q)) _ (λ found. either_way (found % 2 == 0) _ _ G
      (accept_goes has mine id q (found / 2) heading bytes accepted after) (claims_goes more (q + 1) id heading bytes full accepted none_ after))

  -- the bytes of the frame play no part
  tries_goes : (requests o socket id n : ℕ) (heading : Heading) (bytes : List ℕ) (next : Program) → n < 64 → IsIdOf has o id → G next
      → G (add_reference socket (Do (OnSlot (FindLink (socket_id_slot socket) (socket_id_version socket))) (λ k. Aside (StoreAt o (at_word (id_first id) (id_slot id) k n)) (λ _. Do (OnSlot (LookWord socket)) (λ found.
      cond (vref_version found % 2 == 0) (claims_from requests 0 socket heading bytes (post id 3001 n (release (socket_id_slot socket) (λ _. next))) (release (socket_id_slot socket) (λ _. next)))
      (post id 1009 n (release (socket_id_slot socket) (λ _. next))))))) (λ _. post id 1009 n next))
  tries_goes requests o socket id n heading bytes next few own after = let goes : G (release (socket_id_slot socket) (λ _. next)) = release_goes has mine (socket_id_slot socket) (λ _. next) (λ _. after) in
      address_goes has mine socket _ (λ _. post id 1009 n next)
      (step_fits (OnSlot (FindLink (socket_id_slot socket) (socket_id_version socket))) _ (λ k low. stores o (at_word (id_first id) (id_slot id) k n) _ (id, n, k, own, refl, low, few) (λ _. step has mine (OnSlot (LookWord socket)) _ (λ found.
      either_way (vref_version found % 2 == 0) _ _ G
      (claims_goes requests 0 socket heading bytes (post id 3001 n (release (socket_id_slot socket) (λ _. next))) (release (socket_id_slot socket) (λ _. next)) (post_goes has mine id 3001 n (release (socket_id_slot socket) (λ _. next)) goes) goes)
      (post_goes has mine id 1009 n (release (socket_id_slot socket) (λ _. next)) goes)))))
      (λ _. post_goes has mine id 1009 n next after)

  attempt_goes : (requests : ℕ) (asked : Asked) (id n socket : ℕ) (next : Program) → n < 64 → IsIdOf has asked.operation id → G next → G (attempt requests asked id n socket next)
  attempt_goes requests asked id n socket next few own after = tries_goes requests asked.operation socket id n (heading_for asked id n) (frame_of asked id n) next few own after

  tried_goes : (requests id n : ℕ) (asked : Asked) (next : Program) → n < 64 → IsIdOf has asked.operation id → G next → (exit : Unlocking) → AfterUnlock has mine (id_slot id) (tried_again requests id n asked next) exit
  tried_goes requests id n asked next few own after (IsOpen w) = step has mine (OnName (LoadName (name_of asked n))) _ (λ word. either_way (word == 0) _ _ G (post_goes has mine id 1009 n next after) (attempt_goes requests asked id n (word - 1) next few own after))
  tried_goes requests id n asked next few own after (HasNext w e) = decide_goes has mine id w e (decided id next) (decided_goes has mine id next after)

-- ## A call

begin_goes : (has : ℕ → ℕ) (mine : ℕ → Bool) (requests socket i : ℕ) (asked : Asked) (next : Program) → mine asked.operation ≡ true → Later has (but asked.operation mine) next → (more : ℕ → ℕ) → Grows has more → Owns more mine (HasClaimed i) (begin_call requests socket i asked next)
begin_goes has mine requests socket i asked next here after more g = (
  inl refl,
  λ _ most h _. (
    (asked, refl, here),
    λ found last h₂ finds. (
      tt,
      λ _ end h₃ _.
          tries end (grows_on has last end (grows_on has most last (grows_on has more most g h) h₂) h₃) (call_id i (parts found).first) (id_grows last end h₃ asked.operation (call_id i (parts found).first) (finds asked refl)),
    ),
  ),
)
  where
    tries : (end : ℕ → ℕ) → Grows has end → (id : ℕ) → IsIdOf end asked.operation id → Owns end (but asked.operation mine) Other (attempt requests asked id 0 socket next)
    tries end g id own = (attempt_goes end (but asked.operation mine) requests asked id 0 socket next (omega arith) own (later_on has end (but asked.operation mine) next g after)).goes end (grows_same end) Other

-- ## A retry

locked_goes : (has : ℕ → ℕ) (mine : ℕ → Bool) (requests id n : ℕ) (next : Program) → n < 64 → Later has mine next → (exit : Locking) → AfterLock has mine (id_slot id) (First (id_first id)) (retry_locked requests id n next) exit
locked_goes has mine requests id n next few after (NotThere w) = after
locked_goes has mine requests id n next few after (Has w) = λ more g f is. (
  tt,
  λ asked most h finds. subst (λ b. Owns most mine b (Aside (PutCall (id_slot id) asked) (λ _. Round (Unlocks (id_slot id) w false) (tried_again requests id n asked next))))
      (sym (ap (λ b. cond b (HasTaken (id_slot id) f) Other) (eq-eqb (id_slot id) (id_slot id) refl))) (
        inr (f, refl, finds f refl),
        λ _ last h₂ _. unlocks last (grows_on has most last (grows_on has more most g h) h₂) asked w (let own = id_grows most last h₂ asked.operation (call_id (id_slot id) f) (finds f refl) in
            subst (IsIdOf last asked.operation) (ap (call_id (id_slot id)) is ∙ id_back id) own),
      ),
)
  where
    unlocks : (last : ℕ → ℕ) → Grows has last → (asked : Asked) (w : ℕ) → IsIdOf last asked.operation id → Owns last mine Other (Round (Unlocks (id_slot id) w false) (tried_again requests id n asked next))
    unlocks last g asked w own = (unlocks_again last mine (id_slot id) w false (tried_again requests id n asked next) (tried_goes last mine requests id n asked next few own (later_on has last mine next g after))).goes last (grows_same last) Other

module _ (has : ℕ → ℕ) (mine : ℕ → Bool) where
  abbrev Goes : Program → Type 0
  Goes = Later has mine

  claim_goes : (more i requests socket : ℕ) (asked : Asked) (next : Program) → mine asked.operation ≡ true → Goes next → Later has (but asked.operation mine) next → Goes (claim_id more i requests socket asked next)
  claim_goes zero i requests socket asked next here after made = after
  claim_goes (suc more) i requests socket asked next here after made = record { goes = λ now g b. (tt, λ found most h _. by_hit (claim_goes more (i + 1) requests socket asked next here after made) (found == 0) most (grows_on has now most g h)) }
    where
      by_hit : Goes (claim_id more (i + 1) requests socket asked next) → (hit : Bool) (most : ℕ → ℕ) → Grows has most → Owns most mine (cond hit (HasClaimed i) Other) (cond hit (begin_call requests socket i asked next) (claim_id more (i + 1) requests socket asked next))
      by_hit others true most h = begin_goes has mine requests socket i asked next here made most h
      by_hit others false most h = others.goes most h Other

  pub call_goes : (requests ids : ℕ) (asked : Asked) (next : Program) → mine asked.operation ≡ true → Goes next → Later has (but asked.operation mine) next → Goes (call requests ids asked next)
  call_goes requests ids asked next here after made = step has mine (OnName (LoadName (name_of asked 0))) _ (λ word. either_way (word == 0) _ _ Goes (say has mine asked.operation Unopened next after) (claim_goes ids 0 requests (word - 1) asked next here after made))

  pub retry_goes : (requests id n : ℕ) (next : Program) → n < 64 → Goes next → Goes (retry requests id n next)
  retry_goes requests id n next few after = locks_again has mine (id_slot id) (First (id_first id)) None (retry_locked requests id n next) tt (locked_goes has mine requests id n next few after)

  -- ## Other operations on calls

  expire_goes : (o t : ℕ) (next : Program) → Goes next → Goes (expire o t next)
  expire_goes o t next after = aside has mine (LoadCall t) tt _ (λ id. either_way (id == 0) _ _ Goes (say has mine o NotBegun next after)
      (post_with_goes has mine id (error_of 1008 WHOLE) (λ how. posted id (error_of 1008 WHOLE) (Say o (expire_outcome how) next) how) (by_how id)))
    where
      by_how : (id : ℕ) (how : Posting) → AfterPost has mine (id_slot id) (λ how. posted id (error_of 1008 WHOLE) (Say o (expire_outcome how) next) how) how
      by_how id (HasLocked w) = posted_goes has mine id (error_of 1008 WHOLE) (Say o (expire_outcome (HasLocked w)) next) (say has mine o (expire_outcome (HasLocked w)) next after) (HasLocked w)
      by_how id WasGone = say has mine o (expire_outcome WasGone) next after
      by_how id WasStale = say has mine o (expire_outcome WasStale) next after
      by_how id (WasCrowded x y) = say has mine o (expire_outcome (WasCrowded x y)) next after
      by_how id WasQueued = say has mine o (expire_outcome WasQueued) next after

  join_goes : (o t : ℕ) (next : Program) → Goes next → Goes (join o t next)
  join_goes o t next after = aside has mine (LoadCall t) tt _ (λ id. either_way (id == 0) _ _ Goes (say has mine o NotBegun next after) (joins_again has mine id (λ _. Say o Joined next) (λ _. say has mine o Joined next after)))

  -- ## Readers

  ends_goes : (id e word : ℕ) (kept : List Frame) (next : Program) → Goes next → Locked has mine (id_slot id) (ends_with id e word kept next)
  ends_goes id e word [] next after = decide_goes has mine id word e (decided id next) (decided_goes has mine id next after)
  ends_goes id e word (f ∷ fs) next after = λ more g x. (answer_goes has mine f (id_first id) next after).goes more g (HasLock (id_slot id) x)

  last_goes : (id e : ℕ) (kept : List Frame) (next : Program) → Goes next → (exit : Posting) → AfterPost has mine (id_slot id) (posted_last id e kept next) exit
  last_goes id e kept next after (HasLocked word) = ends_goes id e word (kept_for id (parts word).range kept) next after
  last_goes id e kept next after _ = after

  each_goes : (os : List ℕ) (k c : ℕ) (kept : List Frame) (next : Program) → Goes next → Goes (post_each os k c kept next)
  each_goes [] k c kept next after = after
  each_goes (o ∷ os) k c kept next after = aside has mine (LoadAt o) tt _ (λ w. let more = each_goes os k c kept next after in either_way (w == 0) _ _ Goes more (either_way (at_word_link w == k) _ _ Goes
      (post_with_goes has mine (call_id (at_word_slot w) (at_word_first w)) (error_of c (at_word_attempt w)) (posted_last (call_id (at_word_slot w) (at_word_first w)) (error_of c (at_word_attempt w)) kept (post_each os k c kept next))
      (last_goes (call_id (at_word_slot w) (at_word_first w)) (error_of c (at_word_attempt w)) kept (post_each os k c kept next) more)) more))

  rests : Goes Rest
  rests = record { goes = λ more g b. tt }

  thrown_goes : (how : Ended) → Goes (thrown_away how)
  thrown_goes how = either_way (how.fault && nat_lt how.reading.total LIMIT) _ _ Goes (discards_again has mine how.reading.link how.reading.total (λ _. Rest) (λ _. rests)) rests

  read_goes : (calls : List ℕ) (how : Ended) → Goes (read calls how)
  read_goes calls how = let last = each_goes calls how.reading.link how.code how.reading.kept (thrown_away how) (thrown_goes how) in either_way how.closed _ _ Goes last
      (address_goes has mine how.reading.id _ _ (set_failed_goes has mine how.reading.id how.code _ (λ _. release_goes has mine (socket_id_slot how.reading.id) _ (λ _. last))) (λ _. last))

  pub reader_goes : (calls : List ℕ) (k o : ℕ) → Goes (reader calls k o)
  reader_goes calls k o = opens_again has mine o _ (λ word. either_way (word == NO_SOCKET) _ _ Goes rests (reads_again has mine (record { ids = length calls; link = k; id = word - 1; rest = []; total = 0; kept = [] }) (read calls) (read_goes calls)))

  -- ## The ending

  pub ending_goes : (os : List ℕ) → Goes (ending_of os)
  ending_goes [] = rests
  ending_goes (o ∷ os) = end_goes has mine o (ending_of os) (ending_goes os)

  -- ## Clients

  open_goes : (more i o name k : ℕ) (next : Program) → Goes next → Goes (open_from more i o name k next)
  open_goes zero i o name k next after = step has mine (OnLink (TakeLink k)) _ (λ _. step has mine (OnLink (FinishLink k)) _ (λ _. step has mine (OnLink (PutLink k)) _ (λ _. step has mine (OnName (StoreOpen o NO_SOCKET)) _ (λ _. say has mine o _ next after))))
  open_goes (suc more) i o name k next after = step has mine (OnSlot (ClaimSlot i)) _ (λ found. either_way (found == 0) (make_socket o name k i next) (open_from more (i + 1) o name k next) Goes
      (step has mine (OnSlot (StoreLink i k)) _ (λ _. step has mine (OnSlot (ResetHead i k)) _ (λ _. step has mine (OnSlot (ClearCode i k)) _ (λ _. step has mine (OnSlot (CreateLife i k)) _ (λ word. step has mine (OnName (StoreOpen o _)) _ (λ _. step has mine (OnName (StoreName name _)) _ (λ _. say has mine o _ next after)))))))
      (open_goes more (i + 1) o name k next after))

  back_goes : (held : List HeldLife) → Goes (give_back held)
  back_goes [] = rests
  back_goes (h ∷ hs) = release_goes has mine (socket_id_slot h.id) (λ _. give_back hs) (λ _. back_goes hs)

  dropping_goes : (o : ℕ) (id : std.Option ℕ) (next : Program) → Goes next → Goes (drop_of o id next)
  dropping_goes o None next after = say has mine o _ next after
  dropping_goes o (Some id) next after = drop_goes has mine o id next after

-- the call of a task is that of its own operation
abbrev pub CallsOwn : ℕ → Op → Type 0
CallsOwn o (ops.Call asked) = asked.operation ≡ o
CallsOwn o other = Unit {0}

abbrev pub is_calling : Op → Bool
is_calling (ops.Call asked) = true
is_calling other = false

-- whether operation o is a `call` among these tasks
abbrev pub calls_in : List Task → ℕ → Bool
calls_in [] o = false
calls_in (t ∷ ts) o = (is_calling t.op && (t.number == o)) || calls_in ts o

operation_goes : (has : ℕ → ℕ) (mine : ℕ → Bool) (sizes : Sizes) (held : List HeldLife) (o : ℕ) (next : List HeldLife → Program) (op : Op) → CallsOwn o op → (is_calling op ≡ true → mine o ≡ true) → ((h : List HeldLife) → Later has mine (next h))
    → (is_calling op ≡ true → (h : List HeldLife) → Later has (but o mine) (next h)) → Later has mine (operation sizes held o next op)
operation_goes has mine sizes held o next (ops.Open name k) own here after made = open_goes has mine sizes.slots 0 o name k (next held) (after held)
operation_goes has mine sizes held o next (ops.Send name bytes) own here after made = send_goes has mine sizes.requests o name bytes (next held) (after held)
operation_goes has mine sizes held o next (ops.Call asked) own here after made = call_goes has mine sizes.requests sizes.ids asked (next held) (ap mine own ∙ here refl) (after held) (subst (λ x. Later has (but x mine) (next held)) (sym own) (made refl held))
operation_goes has mine sizes held o next (ops.Expire t) own here after made = expire_goes has mine o t (next held) (after held)
operation_goes has mine sizes held o next (ops.Join t) own here after made = join_goes has mine o t (next held) (after held)
operation_goes has mine sizes held o next (ops.Hold name) own here after made = hold_goes has mine o name (λ id. next (held ++ (record { name = name; id = id }) ∷ [])) (next held) (λ id. after (held ++ (record { name = name; id = id }) ∷ [])) (after held)
operation_goes has mine sizes held o next (ops.Drop name) own here after made = dropping_goes has mine o (held_under name held) (next (without_name name held)) (after (without_name name held))
operation_goes has mine sizes held o next (ops.Fail name code) own here after made = fail_goes has mine o name code (next held) (after held)

-- a later call has a greater number
pub calls_later : (n : ℕ) (R : Task → Type 0) → ((t : Task) → R t → n < t.number) → (ts : List Task) → AllByRecursion R ts → (o : ℕ) → calls_in ts o ≡ true → n < o
calls_later n R less [] all o there = absurd (true≢false (sym there))
calls_later n R less (t ∷ ts) all o there = or_cases (is_calling t.op && (t.number == o)) (calls_in ts o) (n < o)
    (λ here. subst (λ z. n < z) (eqb-true t.number o (second_true (is_calling t.op) (t.number == o) here)) (less t all.0)) (λ more. calls_later n R less ts all.1 o more) there

-- a client makes the calls of its tasks, each once
pub client_goes : (has : ℕ → ℕ) (sizes : Sizes) (ts : List Task) (held : List HeldLife) (mine : ℕ → Bool) → ((o : ℕ) → calls_in ts o ≡ true → mine o ≡ true) → AllByRecursion (λ (t : Task). CallsOwn t.number t.op) ts
    → EachBefore (λ (a b : Task). (a.number < b.number) × HaveOwnLinks a.op b.op) ts → Later has mine (client_from sizes held ts)
client_goes has sizes [] held mine all own order = retries has mine sizes.requests (give_back held) (back_goes has mine held)
client_goes has sizes (t ∷ ts) held mine all own order = retries has mine sizes.requests (operation sizes held t.number (λ h. client_from sizes h ts) t.op) (operation_goes has mine sizes held t.number (λ h. client_from sizes h ts) t.op own.0
    (λ calling. all t.number (or_first (is_calling t.op && (t.number == t.number)) (calls_in ts t.number) (both_true (is_calling t.op) (t.number == t.number) calling (eq-eqb t.number t.number refl))))
    (λ h. client_goes has sizes ts h mine (λ o there. all o (or_second (is_calling t.op && (t.number == o)) (calls_in ts o) there)) own.1 order.1)
    (λ calling h. client_goes has sizes ts h (but t.number mine) (λ o there. both_true (mine o) (not (o == t.number)) (all o (or_second (is_calling t.op && (t.number == o)) (calls_in ts o) there))
    (ap not (ne_eqb o t.number (λ e. let less = calls_later t.number (λ (b : Task). (t.number < b.number) × HaveOwnLinks t.op b.op) (λ b x. x.0) ts order.0 o there in let z : ⊥ = omega (arith, less, e) in z)))) own.1 order.1))
