-- Where nothing went wrong, a served call that no `expire` names has the reply to its own request, or its name had no socket yet, or whoever read the links ended it.
use Rattle.std.proofs.Common.{◌≡◌, ℕ, ◌+◌, ◌<◌, ◌⊎◌, inl, inr, Bool, true, false, List, [], length, slice_get, option_and_then, Some, None, refl, sym, ap, ◌∙◌, subst, arith}
use Rattle.std.specs.Prelude.{ℤ, pos, Contains}
use Rattle.sock_words.specs.declared.outcome.Outcome.{Outcome}
use Rattle.sock_words.specs.declared.outcome.Outcome.TheVariants.{Unopened, Answered, Peer, CallFailed}
use Rattle.brpc_model.specs.Attempts.{IsResponse}
use Rattle.brpc_model.specs.Complete.{IsUntroubled, Gives, CallDone}
use Rattle.brpc_model.specs.Frame.{Frame}
use Rattle.brpc_model.specs.Items.{Call, Expire, CallLine}
use Rattle.brpc_model.specs.MessageOfLabel.{id_at, shown_id, request_frame}
use Rattle.brpc_model.specs.Operations.{Operation, operations}
use Rattle.brpc_model.specs.Reply.{Answer, Gives as Answers, Refuses, served, answered_by, reply}
use Rattle.brpc_model.specs.Run.{IsOperation, HasOutcome, GaveFrame}
use Rattle.brpc_model.specs.FrameStream.{stream}
use Rattle.callless_fits.specs.sock_deeds.specs.script_facts.proofs.KnownScript.{first_number}
use Rattle.callless_fits.specs.sock_deeds.specs.script_facts.proofs.FilteredLists.{Has, has_from, has_none, contains_from, some_is}
use Rattle.callless_fits.specs.sock_deeds.specs.script_facts.proofs.OperationNumbering.{are_from}
use Rattle.callless_fits.specs.sock_deeds.specs.report_fits.proofs.ReportedOutcomes.{SaidOrPlaced}
use Rattle.callless_fits.specs.sock_deeds.specs.script_facts.proofs.Targets.{are_there}
use Rattle.callless_fits.specs.sock_deeds.specs.script_facts.proofs.Targets as targets
use Rattle.callless_fits.specs.sock_deeds.specs.script_facts.proofs.TaskLemmas.{numbers_at, asks_at, task_is, expire_asks}
use Rattle.sock_message.specs.Asked.{Asked, name_of}
use Rattle.seat_programs.specs.declared.task.Op.TheVariants as ops
use Rattle.seat_programs.specs.declared.task.Task.{Task}
use Rattle.seat_programs.specs.ScriptSetupToEnding.{all_tasks}
use Rattle.seat_programs.specs.Tasks.{numbered, asked_of, op_of, plan_of}
use Rattle.seat_programs.specs.Explained.{IsTask, Became}
use Rattle.seat_programs.specs.ExplainedCalls as told
use Rattle.seat_programs.specs.ExplainedCalls.{Accepted, OfSend, OfCall}
use Rattle.callless_fits.specs.sock_deeds.specs.SocketsTold.{fixed_by}
use Rattle.served_told.specs.failed_told.specs.call_whys.specs.call_told.specs.TellersOfCallEnds.{HasAnswer}
use Rattle.served_told.specs.failed_told.specs.failed_reasons.specs.CallsEndedByReading.{EndedByReading}
use Rattle.calls_done.proofs.KnownCallRun.{Known, IsOfCall}
use Rattle.calls_done.specs.OwedToCalls.{GivesWell}
use Rattle.callless_fits.proofs.EverySendPlaced.{run_of, Names, Words, links, task_at, said_or_placed_at, find_none, life_low}
use Rattle.calls_done.proofs.FaultlessLinks.{LinkAt, link_at, unserved, unsent, faultless}
use Rattle.calls_done.proofs.CalmSingleAttempts.{Sent_, sent_at, no_fail, unfull, no_loss, last_first}
use Rattle.served_told.specs.served_calls.proofs.RepliesOfServedCalls.{none_given, gives_answer, gives_peer}

-- ## Replies

-- no reply is compressed
answer_plain : (id : ℕ) (a : Answer) → (answered_by id a).meta.compress_type ≡ pos 0
answer_plain id (Answers payload attachment) = refl
answer_plain id (Refuses code text) = refl

pub reply_plain : (call : CallLine) (id : ℕ) (frame : Frame) → reply (request_frame call id) ≡ Some frame → frame.meta.compress_type ≡ pos 0
reply_plain call id frame is = let a : Answer = served (pos 0) (record { service = call.service; method = call.method; log_id = None }) call.payload call.attachment in
    subst (λ (f : Frame). f.meta.compress_type ≡ pos 0) (some_is (answered_by id a) frame is) (answer_plain id a)

module _ (s : Known) (untroubled : IsUntroubled s.run.script s.run.ends) (none_early : (k : ℕ) → k < links s.run → Contains s.run.early k → ⊥) (well : GivesWell (run_of s.run)) where
  module _ (i : ℕ) (op : Operation) (call : CallLine) (there : IsOperation (run_of s.run) i op) (item : op.item ≡ Call call) where
    abbrev pub asked : Asked
    asked = asked_of (Names s.run) i call

    pub asks : asks_at s.run.script i op ≡ Some (ops.Call asked)
    asks = ap (op_of (numbered s.run.script) (Names s.run) (numbers_at s.run.script i op)) item

    pub task : IsTask (all_tasks s.run.script) s.run.outcomes op.client (record { number = i; op = ops.Call asked })
    task = task_at s.run i op (ops.Call asked) there asks

    pub last_is : s.run.last i ≡ 0
    last_is = last_first s untroubled none_early i op call there item op.client asked task

    -- whoever read the links ended it, with attempt n as its last
    abbrev pub Ended_ : ℕ → ℕ → ℕ → Type 0
    Ended_ id code n = EndedByReading (plan_of s.run.script) (all_tasks s.run.script) s.run.outcomes (fixed_by s.run.broken s.run.early s.run.fails) s.run.gave s.run.orders s.run.ends op.client i asked id code n

    pub record WasEndedByReading (outcome : Outcome) : Type 0 where
      pub id : ℕ
      pub code : ℕ
      pub is : outcome ≡ CallFailed id code
      pub by : Ended_ id code 0
      pub became : Became (all_tasks s.run.script) s.run.outcomes i (CallFailed id code)

    -- ## Its outcome was said

    unplaced : (k : ℕ) (a : Accepted) → slice_get s.run.outcomes i ≡ Some None → a.operation ≡ i → Sent_ s k a → ⊥
    unplaced k a none_ number (OfSend client t name slot version is numbered_ op' first life untold) =
        let w = task_is s.run.script s.run.outcomes client t is in let same = some_is w.operation op (sym (ap (slice_get (operations s.run.script)) (sym (numbered_ ∙ number)) ∙ w.there) ∙ there) in
        let e : Some (ops.Send name a.bytes) ≡ Some (ops.Call asked) = sym (w.asks ∙ ap Some op') ∙ ((λ j. asks_at s.run.script ((numbered_ ∙ number) j) (same j)) ∙ asks) in absurd (cc)
    unplaced k a none_ number (OfCall client t asked' outcome id slot version is numbered_ op' became shows made' bytes life) =
        let e : Some (Some outcome) ≡ Some None = sym became ∙ (ap (slice_get s.run.outcomes) number ∙ none_) in absurd (cc)

    pub call_said : slice_get s.run.outcomes i ≡ Some None → ⊥
    call_said none_ = by (s.each op.client (record { number = i; op = ops.Call asked }) task)
      where
        by : ((outcome : Outcome) × Became (all_tasks s.run.script) s.run.outcomes i outcome) ⊎ ((k : ℕ) × told.StandsOn (plan_of s.run.script) (all_tasks s.run.script) s.run.outcomes (fixed_by s.run.broken s.run.early s.run.fails) s.run.gave s.run.orders i 0 k) → ⊥
        by (inl w) = let e : Some (Some w.0) ≡ Some None = sym w.1 ∙ none_ in cc
        by (inr (k, (j, (low, a, at, number, first)))) = unplaced k a none_ number (sent_at s k j a low at)

    -- ## Responses

    module _ (x : Outcome) (has : HasOutcome (run_of s.run) i x) (id : ℕ) (shows : shown_id x ≡ Some id) where
      shown_at : id_at s.run.report.outcomes i ≡ Some id
      shown_at = ap (option_and_then shown_id) has ∙ shows

      -- a response of the call that came is the reply to its request
      pub own_reply : (k n : ℕ) (frame : Frame) → k < links s.run → slice_get (stream (s.run.gave k)).frames n ≡ Some frame → IsResponse call id frame → reply (request_frame call (id + 1)) ≡ Some frame
      own_reply k n frame low gave response = by (link_at s untroubled k low)
        where
          by_server : (l : LinkAt s untroubled k) (b : Bool) → l.shape.serve ≡ b → reply (request_frame call (id + 1)) ≡ Some frame
          by_server l false none_ = absurd (none_given (s.run.gave k) n frame (unserved s untroubled k l none_) gave)
          by_server l true serves =
              let given : GaveFrame (run_of s.run) k n frame = ((l.end, contains_from s.run.ends l.end (k, l.at), l.is.numbered), gave) in
              let owes = well k l.shape l.shaped serves (unsent s untroubled k l serves) in
              let w = owes.own n i id frame op call (record { there = there; item = item; shows = shown_at }) given response in
              let first : frame.meta.correlation_id ≡ id + 1 = (let few = w.2 in let e = w.3 in let last = last_is in omega (arith, few, e, last)) in
              ap (λ c. reply (request_frame call c)) (sym first) ∙ w.0

          by : LinkAt s untroubled k → reply (request_frame call (id + 1)) ≡ Some frame
          by l = by_server l l.shape.serve refl

    -- ## No call failed, but by whoever read the links

    module _ (unexpired : Contains s.run.script (Expire op.client op.number) → ⊥) where
      no_expire : (client : ℕ) (t : Task) → IsTask (all_tasks s.run.script) s.run.outcomes client t → t.op ≡ ops.Expire i → ⊥
      no_expire client t it asks' =
          let w = task_is s.run.script s.run.outcomes client t it in
          let m = expire_asks (numbered s.run.script) (Names s.run) (numbers_at s.run.script t.number w.operation) w.operation.item i (w.asks ∙ ap Some asks') in
          let has : Has s.run.script (Expire m.0 m.1) = subst (Has s.run.script) m.2 (are_from 0 1 s.run.script t.number w.operation w.there).there in
          let target = targets.expired s.run.script (are_there s.run.bytes s.run.script s.run.reads) m.0 m.1 has in
          let same : target.call ≡ op = some_is target.call op (sym target.there ∙ (ap (slice_get (operations s.run.script)) (sym m.3) ∙ there)) in
          let client_is : m.0 ≡ op.client = sym target.own ∙ ap (λ (x : Operation). x.client) same in let number : m.1 ≡ op.number = sym target.number ∙ ap (λ (x : Operation). x.number) same in
          unexpired (contains_from s.run.script (Expire op.client op.number) (subst (λ x. Has s.run.script x) (ap (λ c. Expire c m.1) client_is ∙ ap (Expire op.client) number) has))

      failed : (id code : ℕ) → HasOutcome (run_of s.run) i (CallFailed id code) → told.FailedBy (plan_of s.run.script) (all_tasks s.run.script) s.run.outcomes (fixed_by s.run.broken s.run.early s.run.fails) s.run.gave s.run.orders op.client i asked id code 0 → ⊥
      failed id code has (told.ByExpiry e (inl w)) = no_expire w.0 w.1 w.2 w.3
      failed id code has (told.ByExpiry e (inr w)) = no_expire w.0 w.1 w.2 w.3
      failed id code has (told.ByCompression e (k, n, frame, gave, (some_, above, below), compressed)) =
          compressed (reply_plain call (id + 1) frame (own_reply (CallFailed id code) has id refl k n frame gave.0 gave.1 (some_, above, (omega (arith, below)))))
      failed id code has (told.ByFrameFault e k (slot, version, life, alone) fault) = faultless s untroubled well k (link_at s untroubled k (life_low s.run untroubled none_early (name_of asked 0) k slot version life)) fault
      failed id code has (told.ByEnd e k w) = by w.ended
        where
          by : Contains s.run.early k ⊎ (Contains [] k ⊎ Contains [] k) → ⊥
          by (inl early) = let on = w.on in none_early k (life_low s.run untroubled none_early (name_of asked 0) k on.0 on.1 on.2) early
          by (inr (inl closed)) = has_none k (has_from [] k closed)
          by (inr (inr silent)) = has_none k (has_from [] k silent)
      failed id code has (told.BySocket e last where_ lost) = no_loss s untroubled none_early op.client i (name_of asked 0) lost
      failed id code has (told.ByRequests e last out full) = unfull s untroubled none_early i op call there item out full
      failed id code has (told.ByFail low high last dropped (c, u, it', op', became')) = no_fail s untroubled none_early c u (name_of asked 0) code it' op'

      module _ (name : List ℕ) (first : slice_get call.names 0 ≡ Some name) where
        by_found : told.FoundNone (plan_of s.run.script) (all_tasks s.run.script) s.run.outcomes (fixed_by s.run.broken s.run.early s.run.fails) s.run.gave s.run.orders op.client i (name_of asked 0) → CallDone (run_of s.run) i op call name Unopened
        by_found found = inr (refl, find_none s.run op.client i (name_of asked 0) name (first_number (Names s.run) i call name first) found)

        by_answer : (id : ℕ) (payload attachment : List ℕ) → HasOutcome (run_of s.run) i (Answered id payload attachment) → HasAnswer (length s.run.ends) s.run.gave op.item (Answered id payload attachment) → CallDone (run_of s.run) i op call name (Answered id payload attachment)
        by_answer id payload attachment has (call', item', f, answer, p, a) =
            let e : Call call' ≡ Call call = sym item' ∙ item in let same : call' ≡ call = cc in let coded = answer.coded in let given = answer.given in
            inl (id, f, coded.1, own_reply (Answered id payload attachment) has id refl given.link given.place f (let w = given.whole.0 in let m = s.run.given.as_many in omega (arith, w, m)) given.whole.1 (subst (λ c. IsResponse c id f) same answer.response), coded.2, gives_answer id coded.1.code f payload attachment coded.3 p a)

        by_peer : (id : ℕ) (code : ℤ) → HasOutcome (run_of s.run) i (Peer id code) → HasAnswer (length s.run.ends) s.run.gave op.item (Peer id code) → CallDone (run_of s.run) i op call name (Peer id code)
        by_peer id code has (call', item', f, answer, other) =
            let e : Call call' ≡ Call call = sym item' ∙ item in let same : call' ≡ call = cc in let coded = answer.coded in let given = answer.given in
            inl (id, f, coded.1, own_reply (Peer id code) has id refl given.link given.place f (let w = given.whole.0 in let m = s.run.given.as_many in omega (arith, w, m)) given.whole.1 (subst (λ c. IsResponse c id f) same answer.response), coded.2, subst (λ c. Gives id c f (Peer id code)) (sym coded.3) (gives_peer id code f other))

        by_code : (id code : ℕ) → HasOutcome (run_of s.run) i (CallFailed id code) → Became (all_tasks s.run.script) s.run.outcomes i (CallFailed id code) → CallDone (run_of s.run) i op call name (CallFailed id code) ⊎ WasEndedByReading (CallFailed id code)
        by_code id code has b = by (s.failed op.client id code (record { number = i; op = ops.Call asked }) asked task refl b)
          where
            by : told.FailedBy (plan_of s.run.script) (all_tasks s.run.script) s.run.outcomes (fixed_by s.run.broken s.run.early s.run.fails) s.run.gave s.run.orders op.client i asked id code (s.run.last i) ⊎ Ended_ id code (s.run.last i) → CallDone (run_of s.run) i op call name (CallFailed id code) ⊎ WasEndedByReading (CallFailed id code)
            by (inl why) = absurd (failed id code has (subst (λ n. told.FailedBy (plan_of s.run.script) (all_tasks s.run.script) s.run.outcomes (fixed_by s.run.broken s.run.early s.run.fails) s.run.gave s.run.orders op.client i asked id code n) last_is why))
            by (inr read) = inr record { id = id; code = code; is = refl; by = subst (Ended_ id code) last_is read; became = b }

        by_outcome : (x : Outcome) → HasOutcome (run_of s.run) i x → Became (all_tasks s.run.script) s.run.outcomes i x → IsOfCall x → CallDone (run_of s.run) i op call name x ⊎ WasEndedByReading x
        by_outcome Unopened has b kind = inl (by_found (s.run.tells.unopened op.client i asked task b))
        by_outcome (Answered id payload attachment) has b kind = inl (by_answer id payload attachment has (s.answers i (Answered id payload attachment) b op there))
        by_outcome (Peer id code) has b kind = inl (by_peer id code has (s.answers i (Peer id code) b op there))
        by_outcome (CallFailed id code) has b kind = by_code id code has b
        by_outcome other has b (inl e) = absurd (cc)
        by_outcome other has b (inr e) = absurd (cc)

        -- it has the reply to its own request, or its name had no socket yet, or whoever read the links ended it
        pub answered_own : (x : Outcome) → HasOutcome (run_of s.run) i x → CallDone (run_of s.run) i op call name x ⊎ WasEndedByReading x
        answered_own x has = by (said_or_placed_at s.run i x has)
          where
            by : SaidOrPlaced (Words s.run) s.run.outcomes i x → CallDone (run_of s.run) i op call name x ⊎ WasEndedByReading x
            by (inl b) = by_outcome x has b (s.kinds op.client (record { number = i; op = ops.Call asked }) asked x task refl b)
            by (inr w) = absurd (call_said w.0)
