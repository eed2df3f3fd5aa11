-- Where nothing went wrong, the link on which the first attempt of a served call stands gave the reply to it.
use Rattle.std.proofs.Common.{◌≡◌, ℕ, ◌+◌, ◌<◌, ◌≤◌, List, slice_get, option_and_then, Some, None, refl, sym, ap, ◌∙◌, subst, arith}
use Rattle.std.specs.Prelude.{pos, IsSome, Contains}
use Rattle.sock_words.specs.declared.outcome.Outcome.{Outcome}
use Rattle.brpc_model.specs.Attempts.{IsResponse, attempt}
use Rattle.brpc_model.specs.Complete.{IsUntroubled, IsServed}
use Rattle.brpc_model.specs.Frame.{Frame}
use Rattle.brpc_model.specs.Items.{Open, Call, CallLine}
use Rattle.brpc_model.specs.MessageOfLabel.{request_frame, shown_id}
use Rattle.brpc_model.specs.Operations.{Operation, Label, operations, link_names}
use Rattle.brpc_model.specs.PlaceWords.{IsLineOf, took_at}
use Rattle.brpc_model.specs.Reply.{Answer, Gives as Answers, Refuses, served, answered_by, reply}
use Rattle.brpc_model.specs.Report.{LinkLine}
use Rattle.brpc_model.specs.Run.{IsOperation, HasOutcome, GaveFrame, StandsIn}
use Rattle.callless_fits.specs.sock_deeds.specs.script_facts.proofs.Flat.{map_at}
use Rattle.callless_fits.specs.sock_deeds.specs.script_facts.proofs.KnownScript.{first_number}
use Rattle.callless_fits.specs.sock_deeds.specs.script_facts.proofs.FilteredLists.{Has, within, some_is}
use Rattle.callless_fits.specs.sock_deeds.specs.script_facts.proofs.NameNumbers.{mentioned_has, same_name}
use Rattle.callless_fits.specs.sock_deeds.specs.script_facts.proofs.OperationNumbering.{are_from}
use Rattle.callless_fits.specs.sock_deeds.specs.report_fits.proofs.OrdersOfPlaceWords.{label_of}
use Rattle.callless_fits.specs.sock_deeds.specs.report_fits.proofs.OrdersOfPlaceWords as orders
use Rattle.callless_fits.specs.sock_deeds.specs.script_facts.proofs.ScriptSizes.{keeps_limits}
use Rattle.callless_fits.specs.sock_deeds.specs.script_facts.proofs.TaskLemmas.{numbers_at, asks_at, task_is, open_asks, named_at, mentions_open}
use Rattle.sock_message.specs.Asked.{name_of}
use Rattle.seat_programs.specs.declared.task.Op.TheVariants as ops
use Rattle.seat_programs.specs.declared.task.Task.{Task}
use Rattle.seat_programs.specs.ScriptSetupToEnding.{all_tasks, place_words}
use Rattle.seat_programs.specs.Tasks.{numbered, plan_of}
use Rattle.seat_programs.specs.Explained.{IsTask, Made}
use Rattle.seat_programs.specs.ExplainedCalls.{OfSend, OfCall}
use Rattle.callless_fits.proofs.EverySendPlaced.{run_of, Names, links, inside, all_placed}
use Rattle.calls_done.proofs.CalmSingleAttempts.{Sent_, sent_at, At_}
use Rattle.calls_done.proofs.ServedCallCauses.{asked, asks}
use Rattle.calls_done.proofs.KnownCallRun.{Known}
use Rattle.calls_done.proofs.FaultlessLinks.{link_at, unsent}
use Rattle.calls_done.specs.OwedToCalls.{GivesWell}

-- ## Replies

-- each has a response, and the correlation id of its request
answer_says : (id : ℕ) (a : Answer) → IsSome (answered_by id a).meta.response × ((answered_by id a).meta.correlation_id ≡ id)
answer_says id (Answers payload attachment) = (refl, refl)
answer_says id (Refuses code text) = (refl, refl)

reply_says : (call : CallLine) (id : ℕ) (frame : Frame) → reply (request_frame call id) ≡ Some frame → IsSome frame.meta.response × (frame.meta.correlation_id ≡ id)
reply_says call id frame is = let a : Answer = served (pos 0) (record { service = call.service; method = call.method; log_id = None }) call.payload call.attachment in
    subst (λ (f : Frame). IsSome f.meta.response × (f.meta.correlation_id ≡ id)) (some_is (answered_by id a) frame is) (answer_says id a)

module _ (s : Known) (untroubled : IsUntroubled s.run.script s.run.ends) (none_early : (k : ℕ) → k < links s.run → Contains s.run.early k → ⊥) where
  -- ## The lines of the report

  abbrev line_of : (k : ℕ) (line : LinkLine) → slice_get s.run.report.links k ≡ Some line → IsLineOf (place_words (plan_of s.run.script) s.run.core.words) k (took_at s.run.took k) line
  line_of k line at = s.run.told.links k line at

  few_links : links s.run ≤ 65536
  few_links = let l = (keeps_limits s.run.bytes s.run.script s.run.reads).links in omega (arith, l)

  -- an attempt that a link accepted stands in its line, and is placed
  pub record IsPlacedAt (k p i n : ℕ) : Type 0 where
    pub line : LinkLine
    pub at : slice_get s.run.report.links k ≡ Some line
    pub stands : StandsIn line (attempt i n) p
    pub placed : p < line.placed

  placed_at : (k p i : ℕ) → At_ s untroubled none_early i 0 k p → IsPlacedAt k p i 0
  placed_at k p i (low, a, at, number, first) =
      let line = within s.run.report.links k (let e = s.run.told.line_each in omega (arith, low, e)) in
      let is = line_of k line.0 line.1 in
      let order = orders.order_is (plan_of s.run.script) s.run.core s.run.orders s.run.tells.are_orders few_links (inside s.run) k (took_at s.run.took k) line.0 low is in
      let placed = orders.placed_is (plan_of s.run.script) s.run.core s.run.orders s.run.tells.are_orders few_links (inside s.run) k (took_at s.run.took k) line.0 low is in
      let label : label_of a ≡ attempt i 0 = λ j. record { operation = number j; attempt = first j } in record {
        line = line.0;
        at = line.1;
        stands = ap (λ (l : List Label). slice_get l p) order ∙ (map_at label_of (s.run.orders k).accepted p a at ∙ ap Some label);
        placed = (let here = all_placed s.run untroubled none_early k p a low at in omega (arith, here, placed));
      }

  -- ## A call with an attempt in an order

  module _ (well : GivesWell (run_of s.run)) (i : ℕ) (op : Operation) (call : CallLine) (there : IsOperation (run_of s.run) i op) (item : op.item ≡ Call call) (name : List ℕ) (first : slice_get call.names 0 ≡ Some name) (is_served : IsServed s.run.script name) where
    -- stands on a link of its first name
    own_link : (k p : ℕ) → At_ s untroubled none_early i 0 k p → slice_get (link_names s.run.script) k ≡ Some name
    own_link k p (low, a, at, number, attempt_) = by (sent_at s k p a low at)
      where
        same_op : (c : ℕ) (t : Task) → IsTask (all_tasks s.run.script) s.run.outcomes c t → t.number ≡ a.operation → Some t.op ≡ Some (ops.Call (asked s untroubled none_early well i op call there item))
        same_op c t it its = let w = task_is s.run.script s.run.outcomes c t it in let same = some_is w.operation op (sym (ap (slice_get (operations s.run.script)) (sym (its ∙ number)) ∙ w.there) ∙ there) in
            sym w.asks ∙ ((λ j. asks_at s.run.script ((its ∙ number) j) (same j)) ∙ asks s untroubled none_early well i op call there item)

        by : Sent_ s k a → slice_get (link_names s.run.script) k ≡ Some name
        by (OfSend c t n slot version it its op' zero_ life untold) = absurd (let e : Some (ops.Send n a.bytes) ≡ Some (ops.Call (asked s untroubled none_early well i op call there item)) = sym (ap Some op') ∙ same_op c t it its in cc)
        by (OfCall c t asked' outcome id slot version it its op' became shows made bytes life) =
            let e : Some (ops.Call asked') ≡ Some (ops.Call (asked s untroubled none_early well i op call there item)) = sym (ap Some op') ∙ same_op c t it its in
            let same : asked' ≡ asked s untroubled none_early well i op call there item = cc in
            named k slot version (subst (λ m. Made (all_tasks s.run.script) s.run.outcomes m k slot version) ((λ j. name_of (same j) a.attempt) ∙ ap (name_of (asked s untroubled none_early well i op call there item)) attempt_) life)
          where
            named : (l slot version : ℕ) → Made (all_tasks s.run.script) s.run.outcomes (name_of (asked s untroubled none_early well i op call there item) 0) l slot version → slice_get (link_names s.run.script) l ≡ Some name
            named l slot version m =
                let t = task_is s.run.script s.run.outcomes m.client m.task m.is in
                let w = open_asks (numbered s.run.script) (Names s.run) (numbers_at s.run.script m.task.number t.operation) t.operation.item (name_of (asked s untroubled none_early well i op call there item) 0) l (t.asks ∙ ap Some m.op) in
                let at = ap (slice_get (link_names s.run.script)) w.4 ∙ named_at s.run.script m.task.number t.operation w.0 w.1 t.there w.2 in
                let same = same_name (Names s.run) w.0 name (mentions_open s.run.script m.task.number t.operation t.there w.0 w.1 w.2) (mentioned_has s.run.script (Call call) name (subst (Has s.run.script) item (are_from 0 1 s.run.script i op there).there) (0, first)) (sym w.3 ∙ first_number (Names s.run) i call name first) in
                at ∙ ap Some same

    -- which gave the reply to it
    pub answered : (x : Outcome) (id : ℕ) → HasOutcome (run_of s.run) i x → shown_id x ≡ Some id → (k p : ℕ) → At_ s untroubled none_early i 0 k p → (n : ℕ) × (frame : Frame) × GaveFrame (run_of s.run) k n frame × IsResponse call id frame
    answered x id has shows k p at =
        let l = link_at s untroubled k at.0 in
        let named : l.name ≡ name = some_is l.name name (sym l.named ∙ own_link k p at) in
        let opened : Contains s.run.script (Open name l.shape) = subst (λ n. Contains s.run.script (Open n l.shape)) named l.opened in
        let serves = is_served.1 l.shape opened in
        let w = placed_at k p i at in
        let g = (well k l.shape l.shaped serves (unsent s untroubled k l serves)).given p 0 i id w.line op call (untroubled.no_end name l.shape opened) (record { there = there; item = item; shows = ap (option_and_then shown_id) has ∙ shows }) w.at w.stands w.placed in
        let says = reply_says call (id + 0 + 1) g.1 g.3 in
        (g.0, g.1, g.2, (says.0, (let e = says.1 in omega (arith, e)), (let e = says.1 in omega (arith, e))))
