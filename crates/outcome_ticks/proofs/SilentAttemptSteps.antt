-- Attempts of calls, beside the tasks: whoever writes a link for one makes steps that tell no outcome, and fails a life only where its link failed.
use Rattle.std.proofs.Common.{◌≡◌, ◌≢◌, ℕ, zero, suc, ◌+◌, ◌-◌, ◌/◌, ◌%◌, ◌<◌, ◌&&◌, Bool, true, false, eqb, List, [], ◌∷◌, inl, inr, refl, nat_lt, arith}
use Rattle.std.specs.Prelude.{nat_le, if◌then◌else◌}
use mathlib.Core.List.{cons-ne-nil}
use Rattle.seat_programs.specs.corr_core.specs.IdSlotWord.{parts, error_of}
use Rattle.seat_programs.specs.corr_core.specs.EndedByRangeOrAttempt.{WHOLE}
use Rattle.sock_words.specs.PackedWords.{socket_id_version, socket_id_slot, vref_version, vref_nref, at_word, id_slot, id_first, call_id, IDLE}
use Rattle.sock_words.specs.declared.outcome.Outcome.TheVariants.{Unopened, NotBegun, Joined}
use Rattle.sock_model.specs.declared.chain.Heading.{Heading}
use Rattle.sock_model.specs.Entries.{ticket_of}
use Rattle.seat_programs.specs.sock_message.specs.Asked.{Asked, name_of, frame_of}
use Rattle.seat_programs.specs.declared.task.Task.{Task}
use Rattle.seat_programs.specs.TableSteps.{TableStep, OnSlot, OnName, OnChain, OnLink, OnMessage, LoadName, AddRef, SubRef, SetOdd, LookWord, FindLink, LoadLink, TakeLink, FinishLink, PutLink, FreeSlot, ClaimRequest, PutMessage, Unconnect, SwapHead, Connect, ClaimSlot, CreateLife, StoreName}
use Rattle.seat_programs.specs.Asides.{StoreAt}
use Rattle.seat_programs.specs.LoopHeads.{Joins, Posting, Unlocking, IsOpen, HasNext, Locking, NotThere}
use Rattle.seat_programs.specs.LoopHeads.{Has as HasLock}
use Rattle.seat_programs.specs.Writings.{Writing}
use Rattle.seat_programs.specs.Programs.{Program, Do, Say, Write, Aside, Round, LAST_VERSION, recycle, release}
use Rattle.seat_programs.specs.PostPrograms.{post, post_with, posted, decided}
use Rattle.seat_programs.specs.SendAndWritePrograms.{block, write_link, accept}
use Rattle.seat_programs.specs.CallAndRetryPrograms.{claims_from, heading_for, attempt, begin_call, claim_id, call, tried_again, retry_locked, retry, expire_outcome, expire, join}
use Rattle.outcome_stories.specs.OperationStories.{Entry}
use Rattle.outcome_stories.specs.Explains.{Beside, Done, ExplainsBy, IsAttemptOn, holds, step, FitsBeside}
use Rattle.outcome_stories.proofs.Tests.{split, split_eq}
use Rattle.outcome_ticks.proofs.SendingExplained.{Within}
use Rattle.outcome_stories.proofs.SilentErrorSteps.{post_goes, post_with_goes, posted_goes, decide_goes, decided_goes}
use Rattle.outcome_ticks.proofs.Writers.{IsStep, Writes, block_goes, first_goes, add_holds}

module _ (slots requests : ℕ) (calls : ℕ → Type 0) (done : List Done) (todo : List Task) where
  abbrev pub Goes : List ℕ → List Entry → Program → Type 0
  Goes broken trace program = ExplainsBy slots requests calls Beside broken done trace todo program

  -- where more links failed, and whatever steps were made
  abbrev pub Anywhere : List ℕ → Program → Type 0
  Anywhere broken program = (others : List ℕ) → Within broken others → (trace : List Entry) → Goes others trace program

  within_all : (broken : List ℕ) → Within broken broken
  within_all broken k m = m

  recycle_goes : (broken : List ℕ) (trace : List Entry) (next : Bool → Program) → ((b : Bool) (tr : List Entry) → Goes broken tr (next b)) → (i from : ℕ) → Goes broken trace (recycle i from next)
  recycle_goes broken trace next k i from = (
    tt,
    λ found. split (eqb found from) (Do (OnSlot (LoadLink i (vref_version from + 1))) (λ l. Do (OnLink (TakeLink l)) (λ _. Do (OnLink (FinishLink l)) (λ _. Do (OnLink (PutLink l)) (λ _. if nat_le (vref_version from + 1) LAST_VERSION then Do (OnSlot (FreeSlot i)) (λ _. next true) else next true))))) (next false)
        (Goes broken (step (OnSlot (Rattle.seat_programs.specs.TableSteps.Recycle i from)) found ∷ trace)) (
          tt,
          λ l. (
            tt,
            λ a. (
              tt,
              λ b. (
                tt,
                λ c. split (nat_le (vref_version from + 1) LAST_VERSION) (Do (OnSlot (FreeSlot i)) (λ _. next true)) (next true) (Goes broken (step (OnLink (PutLink l)) c ∷ step (OnLink (FinishLink l)) b ∷ step (OnLink (TakeLink l)) a ∷ step (OnSlot (LoadLink i (vref_version from + 1))) l ∷ step (OnSlot (Rattle.seat_programs.specs.TableSteps.Recycle i from)) found ∷ trace))
                    (tt, λ d. k true _) (k true _),
              ),
            ),
          ),
        )
        (k false _),
  )

  pub release_goes : (broken : List ℕ) (trace : List Entry) (next : Bool → Program) → ((b : Bool) (tr : List Entry) → Goes broken tr (next b)) → (i : ℕ) → Goes broken trace (release i next)
  release_goes broken trace next k i = (
    tt,
    λ found. split ((eqb (vref_version found % 2) 1) && (eqb (vref_nref found) 1)) (recycle i (found - 1) next) (next false) (Goes broken (step (OnSlot (SubRef i)) found ∷ trace))
        (recycle_goes broken (step (OnSlot (SubRef i)) found ∷ trace) next k i (found - 1)) (k false (step (OnSlot (SubRef i)) found ∷ trace)),
  )

  -- ## Writing

  module _ (broken : List ℕ) (after : Program) (follows : Anywhere broken after) where
    -- the attempt is at work for whoever holds this life and writes this link
    record IsOn (id k : ℕ) (bs : List ℕ) (tr : List Entry) : Type 0 where
      pub within : Within broken bs
      pub on : IsAttemptOn tr id k

    does : (id k : ℕ) (bs : List ℕ) (tr : List Entry) (call : TableStep) (next : ℕ → Program) → IsStep id k bs call → IsOn id k bs tr → ((found : ℕ) → Goes bs (step call found ∷ tr) (next found)) → Goes bs tr (Do call next)
    does id k bs tr call next its a goes = (fits call its, goes)
      where
        fits : (c : TableStep) → IsStep id k bs c → FitsBeside calls bs tr c
        fits (OnSlot (ClaimSlot i)) its = absurd its
        fits (OnSlot (CreateLife i l)) its = absurd its
        fits (OnName (StoreName n w)) its = absurd its
        fits (OnChain (SwapHead i own)) its = absurd its
        fits (OnSlot (SetOdd i)) its = (id, k, a.on, its.0, its.1)
        fits _ its = tt

    writes : Writes slots requests calls Beside done todo IsOn after
    writes = record {
      on = λ id k bs tr call found its held a. record { within = a.within; on = record { link = inr a.on.link; holds = held } };
      does = does;
      held = λ id k bs tr a. a.on.holds;
      broke = λ id k bs tr a. record { within = λ l m. inr (a.within l m); on = a.on };
      again = λ w bs tr a. (a.on, λ longer others within. follows others (λ k m. within k (a.within k m)) longer);
      ends = λ id k bs tr a. follows bs a.within tr;
    }

    accept_goes : (id q found : ℕ) (heading : Heading) (bytes : List ℕ) (bs : List ℕ) (tr : List Entry) → Within broken bs → 0 < holds (socket_id_slot id) (socket_id_version id) tr → found % 2 ≡ 0 → heading.parts ≢ [] → calls heading.label.operation
        → Goes bs (step (OnChain (ClaimRequest id q)) found ∷ tr) (accept id q (found / 2) heading bytes after)
    accept_goes id q found heading bytes bs tr within held free some_parts of_call = let own : ℕ = ticket_of q (found / 2) in let i : ℕ = socket_id_slot id in let v : ℕ = socket_id_version id in (
      tt,
      λ x. (
        tt,
        λ y. let ready : List Entry = step (OnChain (Unconnect q)) y ∷ step (OnMessage (PutMessage q heading bytes)) x ∷ step (OnChain (ClaimRequest id q)) found ∷ tr in (
          record { id = id; request = q; heading = heading; bytes = bytes; words = (y, x); found = found; before = tr; trace_is = refl; free = free; parts = some_parts; of_call = of_call },
          λ head. let now : List Entry = step (OnChain (SwapHead i own)) head ∷ ready in
              split (nat_lt head IDLE) (Do (OnChain (Connect q head)) (λ _. after)) (write_link id q own after) (Goes bs now)
              (tt, λ z. follows bs within (step (OnChain (Connect q head)) z ∷ now)) (
                tt,
                λ k places message letters. first_goes slots requests calls Beside done todo IsOn after writes (record { id = id; link = k; last = own; places = places }) own message letters bs (step (OnSlot (FindLink i v)) k ∷ now) record { within = within; on = record { link = inl refl; holds = held } },
              ),
        ),
      ),
    )

  -- whoever writes explains each round of its loops
  pub round_beside : (broken : List ℕ) (trace : List Entry) (w : Writing) (after : Program) → Goes broken trace (Write w after) → Goes broken trace (block w after)
  round_beside broken trace w after x = let follows : Anywhere broken after = λ others within tr. x.1 tr others within in block_goes slots requests calls Beside done todo (IsOn broken after follows) after (writes broken after follows) w broken trace record { within = within_all broken; on = x.0 }

  -- ## Attempts

  claims_goes : (broken : List ℕ) (more q id : ℕ) (heading : Heading) (bytes : List ℕ) (full accepted : Program) → heading.parts ≢ [] → calls heading.label.operation → ((tr : List Entry) → Goes broken tr full) → Anywhere broken accepted
      → (tr : List Entry) → 0 < holds (socket_id_slot id) (socket_id_version id) tr → Goes broken tr (claims_from more q id heading bytes full accepted)
  claims_goes broken zero q id heading bytes full accepted some_parts of_call f a tr held = f tr
  claims_goes broken (suc more) q id heading bytes full accepted some_parts of_call f a tr held = (
    tt,
    λ found. let one : List Entry = step (OnChain (ClaimRequest id q)) found ∷ tr in
        split_eq (found % 2) 0 (accept id q (found / 2) heading bytes accepted) (claims_from more (q + 1) id heading bytes full accepted) (Goes broken one)
        (λ free. accept_goes broken accepted a id q found heading bytes broken tr (within_all broken) held free some_parts of_call)
        (λ taken. claims_goes broken more (q + 1) id heading bytes full accepted some_parts of_call f a one held),
  )

  some_parts : (asked : Asked) (id n : ℕ) → (heading_for asked id n).parts ≢ []
  some_parts asked id n = cons-ne-nil _ _

  module _ (next : Program) where
    pub attempt_goes : (broken : List ℕ) → Anywhere broken next → (n_requests : ℕ) (asked : Asked) → calls asked.operation → (id n socket : ℕ) (tr : List Entry) → Goes broken tr (attempt n_requests asked id n socket next)
    attempt_goes broken follows n_requests asked of_call id n socket tr = let i : ℕ = socket_id_slot socket in let v : ℕ = socket_id_version socket in let heading : Heading = heading_for asked id n in let bytes : List ℕ = frame_of asked id n in
        let back : Program = release i (λ _. next) in
        let backs : Anywhere broken (release i (λ _. next)) = λ others within longer. release_goes others longer (λ _. next) (λ b t. follows others within t) i in
        let full : Program = post id 3001 n back in let lost : Program = post id 1009 n back in
        let posts = λ (c : ℕ) (t : List Entry). post_goes slots requests calls Beside broken done t todo id c n (release i (λ _. next)) (backs broken (within_all broken) t) in
        let looks : ℕ → Program = λ found. if eqb (vref_version found % 2) 0 then claims_from n_requests 0 socket heading bytes full back else lost in
        let held : Program = Do (OnSlot (FindLink i v)) (λ k. Aside (StoreAt asked.operation (at_word (id_first id) (id_slot id) k n)) (λ _. Do (OnSlot (LookWord socket)) looks)) in (
          tt,
          λ found. let one : List Entry = step (OnSlot (AddRef socket)) found ∷ tr in
              split_eq (vref_version found) (socket_id_version socket) held (release i (λ _. post id 1009 n next)) (Goes broken one)
              (λ same. let count : holds i v one ≡ 1 + holds i v tr = add_holds socket found (holds i v tr) same in (
                tt,
                λ k. (
                  tt,
                  λ _ _. (
                    tt,
                    λ word. let three : List Entry = step (OnSlot (LookWord socket)) word ∷ step (OnSlot (FindLink i v)) k ∷ one in
                        split (eqb (vref_version word % 2) 0) (claims_from n_requests 0 socket heading bytes full back) lost (Goes broken three)
                        (claims_goes broken n_requests 0 socket heading bytes full back (some_parts asked id n) of_call (posts 3001) backs three (omega (arith, count))) (posts 1009 three),
                  ),
                ),
              ))
              (λ far. release_goes broken one (λ _. post id 1009 n next) (λ b t. post_goes slots requests calls Beside broken done t todo id 1009 n next (follows broken (within_all broken) t)) i),
        )

    tried_goes : (broken : List ℕ) → Anywhere broken next → (n_requests id n : ℕ) (asked : Asked) → calls asked.operation → (exit : Unlocking) (tr : List Entry) → Goes broken tr (tried_again n_requests id n asked next exit)
    tried_goes broken follows n_requests id n asked of_call (IsOpen w) tr = (
      tt,
      λ word. let one : List Entry = step (OnName (LoadName (name_of asked n))) word ∷ tr in split (eqb word 0) (post id 1009 n next) (attempt n_requests asked id n (word - 1) next) (Goes broken one)
          (post_goes slots requests calls Beside broken done one todo id 1009 n next (follows broken (within_all broken) one)) (attempt_goes broken follows n_requests asked of_call id n (word - 1) one),
    )
    tried_goes broken follows n_requests id n asked of_call (HasNext w e) tr = decide_goes slots requests calls Beside broken done tr todo id w e (decided id next) (decided_goes slots requests calls Beside broken done tr todo id next (follows broken (within_all broken) tr))

    locked_goes : (broken : List ℕ) → Anywhere broken next → (n_requests id n : ℕ) (exit : Locking) (tr : List Entry) → Goes broken tr (retry_locked n_requests id n next exit)
    locked_goes broken follows n_requests id n (NotThere w) tr = follows broken (within_all broken) tr
    locked_goes broken follows n_requests id n (HasLock w) tr = (tt, λ asked is. (is, λ _ _. ((tt, tt), λ exit _. tried_goes broken follows n_requests id n asked is exit tr)))

    -- a retry
    pub retry_goes : (broken : List ℕ) → Anywhere broken next → (n_requests id n : ℕ) (tr : List Entry) → Goes broken tr (retry n_requests id n next)
    retry_goes broken follows n_requests id n tr = ((tt, tt), λ exit _. locked_goes broken follows n_requests id n exit tr)

    begin_goes : (broken : List ℕ) → Anywhere broken next → (n_requests socket i : ℕ) (asked : Asked) → calls asked.operation → (tr : List Entry) → Goes broken tr (begin_call n_requests socket i asked next)
    begin_goes broken follows n_requests socket i asked of_call tr = (of_call, λ _ _. (tt, λ found _. (tt, λ _ _. attempt_goes broken follows n_requests asked of_call (call_id i (parts found).first) 0 socket tr)))

    claim_goes : (broken : List ℕ) → Anywhere broken next → (more i n_requests socket : ℕ) (asked : Asked) → calls asked.operation → (tr : List Entry) → Goes broken tr (claim_id more i n_requests socket asked next)
    claim_goes broken follows zero i n_requests socket asked of_call tr = follows broken (within_all broken) tr
    claim_goes broken follows (suc more) i n_requests socket asked of_call tr = (
      tt,
      λ found _. split (eqb found 0) (begin_call n_requests socket i asked next) (claim_id more (i + 1) n_requests socket asked next) (Goes broken tr)
          (begin_goes broken follows n_requests socket i asked of_call tr) (claim_goes broken follows more (i + 1) n_requests socket asked of_call tr),
    )

    -- the operations on calls
    pub call_goes : (broken : List ℕ) → Anywhere broken next → (n_requests ids : ℕ) (asked : Asked) → calls asked.operation → (tr : List Entry) → Goes broken tr (call n_requests ids asked next)
    call_goes broken follows n_requests ids asked of_call tr = (
      tt,
      λ word. let one : List Entry = step (OnName (LoadName (name_of asked 0))) word ∷ tr in split (eqb word 0) (Say asked.operation Unopened next) (claim_id ids 0 n_requests (word - 1) asked next) (Goes broken one)
          (of_call, follows broken (within_all broken) one) (claim_goes broken follows ids 0 n_requests (word - 1) asked of_call one),
    )

    pub expire_goes : (broken : List ℕ) → Anywhere broken next → (o t : ℕ) → calls o → (tr : List Entry) → Goes broken tr (expire o t next)
    expire_goes broken follows o t is tr = let e : ℕ = error_of 1008 WHOLE in let g = follows broken (within_all broken) tr in (
      tt,
      λ id _. let k : Posting → Program = λ how. posted id e (Say o (expire_outcome how) next) how in
          split (eqb id 0) (Say o NotBegun next) (post_with id e k) (Goes broken tr) (is, g)
          (post_with_goes slots requests calls Beside broken done tr todo id e k (λ how. posted_goes slots requests calls Beside broken done tr todo id e (Say o (expire_outcome how) next) (is, g) how)),
    )

    pub join_goes : (broken : List ℕ) → Anywhere broken next → (o t : ℕ) → calls o → (tr : List Entry) → Goes broken tr (join o t next)
    join_goes broken follows o t is tr = let g = follows broken (within_all broken) tr in
        (tt, λ id _. split (eqb id 0) (Say o NotBegun next) (Round (Joins id) (λ _. Say o Joined next)) (Goes broken tr) (is, g) ((tt, tt), λ _ _. (is, g)))
