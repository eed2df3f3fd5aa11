-- Where nothing went wrong, each call on links with the server has the reply to its own request, or its name had no socket yet.
use Rattle.std.proofs.Common.{◌≡◌, ◌≢◌, ℕ, zero, suc, ◌+◌, ◌<◌, ◌≤◌, ◌⊎◌, inl, inr, ⊎_elim, Bool, true, false, List, [], length, slice_get, Some, None, refl, sym, ap, ◌∙◌, subst, arith}
use Rattle.std.proofs.lemmas.Option.{slice_get_within}
use Rattle.std.specs.Prelude.{ℤ, pos, negsuc, Contains}
use mathlib.Core.Logic.{dite}
use native.Mathlib.Decide.{ℕ_discrete}
use Rattle.sock_words.specs.declared.outcome.Outcome.{Outcome}
use Rattle.sock_words.specs.declared.outcome.Outcome.TheVariants.{Unopened, Answered, Peer, CallFailed}
use Rattle.brpc_model.specs.LinkFailureCauses.{HasFault}
use Rattle.brpc_model.specs.Complete.{Gives}
use Rattle.brpc_model.specs.Frame.{Frame, IsFrame}
use Rattle.brpc_model.specs.Items.{Item, Shape}
use Rattle.brpc_model.specs.MessageOfLabel.{shown_id}
use Rattle.brpc_model.specs.Operations.{Turn, link_shapes}
use Rattle.brpc_model.specs.Reply.{reply}
use Rattle.brpc_model.specs.FrameStream.{stream}
use Rattle.served_runs.specs.Below.script_facts.proofs.FilteredLists.{Has, all_at, has_from, within}
use Rattle.sock_message.specs.Asked.{Asked, name_of, request_of, frame_of}
use Rattle.seat_programs.specs.declared.task.Op.TheVariants as ops
use Rattle.seat_programs.specs.declared.task.Task.{Task}
use Rattle.seat_programs.specs.Asides.{AtEnd, Broken}
use Rattle.seat_programs.specs.ReaderProgram.{LIMIT}
use Rattle.seat_programs.specs.Cores.{Core}
use Rattle.seat_programs.specs.Tasks.{plan_of}
use Rattle.seat_programs.specs.Explained.{IsTask, Became, Made, IsFail}
use Rattle.seat_programs.specs.ExplainedCalls as told
use Rattle.seat_programs.specs.ExplainedCalls.{Accepted, Order, Fixed, ExplainedCalls, OfSend, OfCall}
use Rattle.seat_programs.specs.ScriptSetupToEnding.{all_tasks, IsRunWithCalls}
use Rattle.served_runs.specs.Below.joint_runs.proofs.RunsOfBothTables.{AreMade}
use Rattle.served_runs.specs.Below.run_theorems.specs.Heard.{heard_takes}
use Rattle.served_runs.specs.Below.call_stories.specs.LinkReadingLists.{gave_in, attempts_of_run}
use Rattle.served_runs.proofs.ServedLinks.{shapes_many}
use Rattle.served_runs.specs.ServedLinks.{request_with, IsServed, IsForCalls, IsReplyToCall, GivesReplies, GivesLast, GivesNoFault, GivesCallReplies}
use Rattle.served_runs.proofs.WholeFrameStreams.{request_is}
use Rattle.served_calls.specs.QuietRuns.{HasServer, AreEarly, IsQuiet, IsForServers, IsUnexpired, CallIsDone}
use Rattle.served_calls.proofs.ReplyFrames.{SaysReply, reply_to, reply_says}
use Rattle.served_calls.proofs.RequestsTakenByLinks.{AreIdsSmall, same_task, asked_fits, small_call, request_there, reply_there, never_last}

below_or_not : (i n : ℕ) → (i < n) ⊎ (n ≤ i)
below_or_not i zero = inr (omega arith)
below_or_not zero (suc n) = inl (omega arith)
below_or_not (suc i) (suc n) = ⊎_elim (λ l. inl (omega (arith, l))) (λ g. inr (omega (arith, g))) (below_or_not i n)

-- no bytes are no frame
pub none_given : (bytes : List ℕ) (n : ℕ) (frame : Frame) → bytes ≡ [] → slice_get (stream bytes).frames n ≡ Some frame → ⊥
none_given bytes n frame none_ there = let w : None ≡ Some frame = sym (ap (λ l. slice_get (stream l).frames n) none_) ∙ there in cc

pub gives_answer : (id : ℕ) (code : ℤ) (frame : Frame) (payload attachment : List ℕ) → code ≡ pos 0 → frame.payload ≡ payload → frame.attachment ≡ attachment → Gives id code frame (Answered id payload attachment)
gives_answer id code frame payload attachment zero_ p a = subst (λ c. Gives id c frame (Answered id payload attachment)) (sym zero_) ((λ i. Answered id (sym p i) attachment) ∙ (λ i. Answered id frame.payload (sym a i)))

pub gives_peer : (id : ℕ) (code : ℤ) (frame : Frame) → code ≢ pos 0 → Gives id code frame (Peer id code)
gives_peer id (pos zero) frame other = absurd (other refl)
gives_peer id (pos (suc n)) frame other = refl
gives_peer id (negsuc n) frame other = refl

module _ (script : List Item) (made : AreMade script) (turns : List Turn) (core : Core) (is : IsRunWithCalls script turns core) (fixed : Fixed) (orders : ℕ → Order) (tells : ExplainedCalls (plan_of script) (all_tasks script) core.outcomes fixed (gave_in core) orders core) (ids : AreIdsSmall script core)
    (last_is : (client : ℕ) (t : Task) (asked : Asked) → IsTask (all_tasks script) core.outcomes client t → t.op ≡ ops.Call asked → tells.last t.number ≡ attempts_of_run script turns core is t.number)
    (replies : GivesReplies script turns core is) (call_replies : GivesCallReplies script turns core is) (no_fault : GivesNoFault script turns core is) (lasts : GivesLast script turns core is) (shows_early : AreEarly script turns core is fixed orders) (quiet : IsQuiet script turns core is fixed orders) where
  abbrev Task_ : ℕ → Task → Type 0
  Task_ client t = IsTask (all_tasks script) core.outcomes client t

  abbrev Became_ : ℕ → Outcome → Type 0
  Became_ o x = Became (all_tasks script) core.outcomes o x

  abbrev Made_ : ℕ → ℕ → ℕ → ℕ → Type 0
  Made_ name k slot version = Made (all_tasks script) core.outcomes name k slot version

  -- ## Links

  for_calls : (k : ℕ) (s : HasServer script turns core is k) → IsForCalls script turns core is k s.0
  for_calls k s = record { opened = s.1; serves = s.2; unsent = λ client t name slot version bytes it op life. quiet.no_stray k client t name slot version bytes s it op life }

  link_low : (k : ℕ) → HasServer script turns core is k → k < (plan_of script).links
  link_low k s = let l = slice_get_within (link_shapes script) k s.0 s.1 in let m = shapes_many script in omega (arith, l, m)

  -- a link with the server gives no end
  endless : (k : ℕ) → HasServer script turns core is k → Contains (heard_takes is k) AtEnd → ⊥
  endless k s ended = never_last script made turns core is fixed orders tells ids k (link_low k s) (for_calls k s).unsent s.0 (quiet.no_end k s.0 s.1) (lasts k s.0 s.1 s.2 ended)

  -- and its reading ends early by nothing
  pub none_early : (k : ℕ) → HasServer script turns core is k → Contains fixed.early k → ⊥
  none_early k s early = by (shows_early k early)
    where
      by : Contains (heard_takes is k) AtEnd ⊎ (HasFault (gave_in core k) ⊎ ((LIMIT ≤ length (gave_in core k)) ⊎ Contains (heard_takes is k) Broken)) → ⊥
      by (inl ended) = endless k s ended
      by (inr (inl fault)) = no_fault k s.0 (for_calls k s) fault
      by (inr (inr (inl most))) = let few = quiet.few k s in let z : ⊥ = omega (arith, most, few) in z
      by (inr (inr (inr broken))) = quiet.whole k s broken

  -- so it isn't failing
  unfailing : (k : ℕ) → HasServer script turns core is k → told.IsFailing (plan_of script) (all_tasks script) core.outcomes fixed (gave_in core) orders k → ⊥
  unfailing k s (inl (f, there, counts)) = let w = all_at (IsFail (all_tasks script) core.outcomes) fixed.fails (f, k) tells.are (has_from fixed.fails (f, k) there) in quiet.no_fail w.client w.task w.name w.code w.is w.op
  unfailing k s (inr (inl broken)) = quiet.none_broken k s broken
  unfailing k s (inr (inr (inl early))) = none_early k s early
  unfailing k s (inr (inr (inr late))) = quiet.no_late_link k late

  module _ (asked : Asked) (client : ℕ) (t : Task) (it : Task_ client t) (op : t.op ≡ ops.Call asked) where
    -- ## The first attempt

    module _ (servers : IsForServers script turns core is fixed orders asked) where
      no_loss : told.WhyLost (plan_of script) (all_tasks script) core.outcomes fixed (gave_in core) orders client t.number 0 (name_of asked 0) → ⊥
      no_loss (told.WasFailing k (slot, version, life) failing) = unfailing k (servers k slot version life) failing
      no_loss (told.RunEnding late) = quiet.none_late client t asked it op late
      no_loss (told.WasUnopened later c m some_ few behind none_) = let z : ⊥ = omega (arith, later) in z

      abbrev At : ℕ → ℕ → Type 0
      At k i = told.IsAt (plan_of script) (all_tasks script) core.outcomes fixed (gave_in core) orders t.number 0 k i

      -- a message of it that a link accepted is the request, on a link of its name
      pub record IsOwn (k : ℕ) (a : Accepted) : Type 0 where
        pub outcome : Outcome
        pub id : ℕ
        pub became : Became_ t.number outcome
        pub shows : shown_id outcome ≡ Some id
        pub bytes : a.bytes ≡ frame_of asked id 0
        pub slot : ℕ
        pub version : ℕ
        pub life : Made_ (name_of asked 0) k slot version

      own : (k i : ℕ) (w : At k i) → IsOwn k w.1
      own k i (low, a, at, number, attempt) = by (all_at (told.IsSent (plan_of script) (all_tasks script) core.outcomes fixed (gave_in core) orders tells.last k) (orders k).accepted a (tells.sent k low) (i, at))
        where
          same_op : (c : ℕ) (u : Task) → Task_ c u → u.number ≡ a.operation → u.op ≡ ops.Call asked
          same_op c u it' numbered = ap (λ (x : Task). x.op) (same_task script made turns core is fixed orders tells ids c client u t it' it (numbered ∙ number)) ∙ op

          by : told.IsSent (plan_of script) (all_tasks script) core.outcomes fixed (gave_in core) orders tells.last k a → IsOwn k a
          by (OfSend c u name slot version it' numbered op' first life untold) = absurd (let e : ops.Send name a.bytes ≡ ops.Call asked = sym op' ∙ same_op c u it' numbered in cc)
          by (OfCall c u asked' outcome id slot version it' numbered op' became shows last bytes life) = let e : ops.Call asked' ≡ ops.Call asked = sym op' ∙ same_op c u it' numbered in let named : asked' ≡ asked = cc in record {
            outcome = outcome;
            id = id;
            became = subst (λ n. Became_ n outcome) number became;
            shows = shows;
            bytes = bytes ∙ ((λ i. frame_of (named i) id a.attempt) ∙ ap (frame_of asked id) attempt);
            slot = slot;
            version = version;
            life = subst (λ m. Made_ m k slot version) ((λ j. name_of (named j) a.attempt) ∙ ap (name_of asked) attempt) life;
          }

      no_drop : (k i : ℕ) → At k i → (orders k).placed ≤ i → ⊥
      no_drop k i w dropped = let o = own k i w in let inside = slice_get_within (orders k).accepted i w.1 w.2 in unfailing k (servers k o.slot o.version o.life) (tells.dropped k w.0 (omega (arith, inside, dropped)))

      no_again : told.WhyAgain (plan_of script) (all_tasks script) core.outcomes fixed (gave_in core) orders client t.number 0 (name_of asked 0) → ⊥
      no_again (told.AfterDrop w) = no_drop w.0 w.1 w.2 w.3
      no_again (told.AfterLoss out lost) = no_loss lost
      no_again (told.AfterFull out full) = quiet.unfull client t asked it op out full

      -- is the last
      last_first : tells.last t.number ≡ 0
      last_first = by (tells.last t.number) refl
        where
          by : (n : ℕ) → tells.last t.number ≡ n → tells.last t.number ≡ 0
          by zero e = e
          by (suc n) e = absurd (no_again ((tells.again client t asked it op).1 0 (omega (arith, e))))

      -- ## Responses

      module _ (x : Outcome) (id : ℕ) (became : Became_ t.number x) (shows : shown_id x ≡ Some id) where
        same_id : (y : Outcome) (j : ℕ) → Became_ t.number y → shown_id y ≡ Some j → j ≡ id
        same_id y j became' shows' = let a : Some (Some y) ≡ Some (Some x) = sym became' ∙ became in let same : y ≡ x = cc in let b : Some j ≡ Some id = sym shows' ∙ (ap shown_id same ∙ shows) in cc

        -- a response of the call that came is the reply to its request
        own_reply : (k n : ℕ) (frame : Frame) → told.Gave (plan_of script) (all_tasks script) core.outcomes fixed (gave_in core) orders k n frame → told.IsResponse (plan_of script) (all_tasks script) core.outcomes fixed (gave_in core) orders asked id frame
            → reply (request_with asked (id + 1)) ≡ Some frame
        own_reply k n frame (low, there) (some_, above, below) = by (within (link_shapes script) k (let m = shapes_many script in omega (arith, low, m)))
          where
            of_reply : (r : IsReplyToCall script turns core is frame) → reply (request_with asked (id + 1)) ≡ Some frame
            of_reply r = dite (ℕ_discrete t.number r.task.number) here far
              where
                with_id : frame.meta.correlation_id ≡ r.id + r.attempt + 1
                with_id = (reply_says r.asked (r.id + r.attempt + 1) frame r.replies).same_id

                here : t.number ≡ r.task.number → reply (request_with asked (id + 1)) ≡ Some frame
                here same = let task = same_task script made turns core is fixed orders tells ids r.client client r.task t r.is_task it (sym same) in let e : ops.Call r.asked ≡ ops.Call asked = sym r.op ∙ (ap (λ (u : Task). u.op) task ∙ op) in let named : r.asked ≡ asked = cc in
                    let own_id = same_id r.outcome r.id (subst (λ o. Became_ o r.outcome) (sym same) r.became) r.shows in
                    let first : r.attempt ≡ 0 = (let l = last_is client t asked it op in let z = last_first in let m = ap (attempts_of_run script turns core is) same in let few = r.made in omega (arith, few, l, z, m)) in
                    ap reply ((λ i. request_with (sym named i) (id + 1)) ∙ ap (request_with r.asked) (let z : id + 1 ≡ r.id + r.attempt + 1 = omega (arith, own_id, first) in z)) ∙ r.replies

                far : (t.number ≡ r.task.number → ⊥) → reply (request_with asked (id + 1)) ≡ Some frame
                far other = absurd (⊎_elim (λ z. let f = r.few in let z' : ⊥ = omega (arith, z, below, with_id, f) in z') (λ z. let f = r.few in let z' : ⊥ = omega (arith, z, above, with_id, f) in z')
                    (tells.versions client r.client t r.task asked r.asked x r.outcome id r.id it r.is_task op r.op became r.became shows r.shows other))

            by_server : (shape : Shape) → slice_get (link_shapes script) k ≡ Some shape → (b : Bool) → shape.serve ≡ b → reply (request_with asked (id + 1)) ≡ Some frame
            by_server shape at true serves = let s : HasServer script turns core is k = (shape, at, serves) in of_reply (call_replies k n shape frame (for_calls k s) there)
            by_server shape at false none_ = absurd (none_given (gave_in core k) n frame (quiet.silent k shape at (λ serves. let z : false ≡ true = sym none_ ∙ serves in cc)) there)

            by : (shape : Shape) × (slice_get (link_shapes script) k ≡ Some shape) → reply (request_with asked (id + 1)) ≡ Some frame
            by (shape, at) = by_server shape at shape.serve refl

        -- ## No call failed

        module _ (unexpired : IsUnexpired script turns core is fixed orders t.number) where
          -- the link of its name gave the reply to it
          no_end : (k : ℕ) → told.EndedWith (plan_of script) (all_tasks script) core.outcomes fixed (gave_in core) orders asked t.number 0 (name_of asked 0) id k → ⊥
          no_end k w = by w.lost
            where
              s : HasServer script turns core is k
              s = (let on = w.on in servers k on.0 on.1 on.2)

              answered : (i : ℕ) (at : At k i) → i < (orders k).placed → ⊥
              answered i at placed = (w.unanswered h.0 g (at.0, h.1) (says.response, (let e = says.same_id in omega (arith, e)), (let e = says.same_id in let r = (asked_fits script made turns core is fixed orders tells ids client t asked it op).range_low in omega (arith, e, r)))).0 (k, i, at, placed)
                where
                  o : IsOwn k at.1
                  o = own k i at

                  f : Frame
                  f = request_of asked id 0

                  g : Frame
                  g = reply_to asked (id + 0 + 1)

                  says : SaysReply (id + 0 + 1) g
                  says = reply_says asked (id + 0 + 1) g refl

                  is_request : IsFrame at.1.bytes f
                  is_request = subst (λ b. IsFrame b f) (sym (o.bytes ∙ ap (λ j. frame_of asked j 0) (same_id o.outcome o.id o.became o.shows))) (request_is asked id 0 (small_call script made turns core is fixed orders tells ids client t asked x id 0 it op became shows (omega arith)))

                  served : IsServed script turns core is k s.0
                  served = record {
                    opened = s.1;
                    serves = s.2;
                    name = name_of asked 0;
                    slot = o.slot;
                    version = o.version;
                    lived = o.life;
                    in_time = quiet.in_time k;
                    whole = quiet.whole k s;
                    faultless = no_fault k s.0 (for_calls k s);
                    few = quiet.few k s;
                  }

                  h : Has (stream (gave_in core k)).frames g
                  h = reply_there script made turns core is fixed orders tells ids k (link_low k s) (for_calls k s).unsent s.0 (quiet.no_end k s.0 s.1) (replies k s.0 served) f g
                      (request_there script made turns core is fixed orders tells ids k (link_low k s) (for_calls k s).unsent i at.1 f at.2 placed is_request) refl

              by : told.IsFailing (plan_of script) (all_tasks script) core.outcomes fixed (gave_in core) orders k ⊎ (told.StandsOn (plan_of script) (all_tasks script) core.outcomes fixed (gave_in core) orders t.number 0 k
                  ⊎ (told.IsUnordered (plan_of script) (all_tasks script) core.outcomes fixed (gave_in core) orders t.number 0 × told.WasFull (plan_of script) (all_tasks script) core.outcomes fixed (gave_in core) orders)) → ⊥
              by (inl failing) = unfailing k s failing
              by (inr (inl (i, at))) = ⊎_elim (λ placed. answered i at placed) (λ dropped. no_drop k i at dropped) (below_or_not i (orders k).placed)
              by (inr (inr (out, full))) = quiet.unfull client t asked it op out full

          failed : (code : ℕ) → told.FailedBy (plan_of script) (all_tasks script) core.outcomes fixed (gave_in core) orders client t.number asked id code 0 → ⊥
          failed code (told.ByExpiry e (inl w)) = unexpired w.0 w.1 w.2 w.3
          failed code (told.ByExpiry e (inr w)) = unexpired w.0 w.1 w.2 w.3
          failed code (told.ByCompression e (k, n, frame, gave, response, compressed)) = compressed (reply_says asked (id + 1) frame (own_reply k n frame gave response)).uncompressed
          failed code (told.ByFrameFault e k (slot, version, life, alone) fault) = let s = servers k slot version life in no_fault k s.0 (for_calls k s) fault
          failed code (told.ByEnd e k w) = no_end k w
          failed code (told.BySocket e last where_ lost) = no_loss lost
          failed code (told.ByRequests e last out full) = quiet.unfull client t asked it op out full
          failed code (told.ByFail low high last dropped (c, u, it', op', became')) = quiet.no_fail c u (name_of asked 0) code it' op'

      -- ## Its outcome

      module _ (unexpired : IsUnexpired script turns core is fixed orders t.number) where
        by_why : (x : Outcome) → Became_ t.number x → told.WhyCall (plan_of script) (all_tasks script) core.outcomes fixed (gave_in core) orders tells.last client t.number asked x → CallIsDone script turns core is fixed orders client t.number asked x
        by_why Unopened became why = inr (refl, why)
        by_why (Answered id payload attachment) became (k, n, frame, gave, response, ((uncompressed, r, there, code), p, a)) =
            inl (id, frame, r, own_reply (Answered id payload attachment) id became refl k n frame gave response, there, gives_answer id r.code frame payload attachment code p a)
        by_why (Peer id code) became ((k, n, frame, gave, response, (uncompressed, r, there, same)), other) =
            inl (id, frame, r, own_reply (Peer id code) id became refl k n frame gave response, there, subst (λ c. Gives id c frame (Peer id code)) (sym same) (gives_peer id code frame other))
        by_why (CallFailed id code) became why = absurd (failed (CallFailed id code) id became refl unexpired code
            (subst (λ n. told.FailedBy (plan_of script) (all_tasks script) core.outcomes fixed (gave_in core) orders client t.number asked id code n) last_first why))
        by_why other became why = absurd why

  -- each call whose first name has links with the server alone, and that no `expire` names, is done
  pub served_call_done : (client : ℕ) (t : Task) (asked : Asked) (outcome : Outcome) → Task_ client t → t.op ≡ ops.Call asked → Became_ t.number outcome → IsForServers script turns core is fixed orders asked → IsUnexpired script turns core is fixed orders t.number
      → CallIsDone script turns core is fixed orders client t.number asked outcome
  served_call_done client t asked outcome it op became servers unexpired = by_why asked client t it op servers unexpired outcome became
      (subst (λ z. told.OutcomeCause (plan_of script) (all_tasks script) core.outcomes fixed (gave_in core) orders tells.last client t.number z outcome) op (tells.why client t outcome it became))
