-- A link with the built-in server gives less than the most that is read: what it took is no more than the script's calls and sends, and the replies are little longer.
use Rattle.std.proofs.Common.{◌≡◌, ℕ, ◌+◌, ◌*◌, ◌<◌, ◌≤◌, List, [], ◌++◌, length, take, drop, flat_map, slice_get, slice_index_or, Option, Some, Ok, length-append, append-nil, append_assoc, refl, sym, ap, ◌∙◌, subst, arith}
use Rattle.std.proofs.lemmas.Grind.{flat_map-append}
use Rattle.std.proofs.lemmas.List.{take-append-drop}
use Rattle.std.proofs.lemmas.Option.{slice_get_within}
use Rattle.std.specs.Prelude.{IsTrue}
use Rattle.std.specs.List.{AllByRecursion}
use Rattle.seat_programs.specs.sock_model.specs.sock_words.specs.declared.outcome.Outcome.{Outcome}
use Rattle.brpc_model.specs.Items.{Item, Shape, Send, Call, attempts_of}
use Rattle.brpc_model.specs.Operations.{Operation, Turn, operations, link_names, link_shapes, attempts, requests}
use Rattle.brpc_model.specs.Order.{EachBefore}
use Rattle.brpc_model.specs.LinePlaceFaults.{names}
use Rattle.brpc_model.specs.Script.{script_of}
use Rattle.brpc_model.specs.ServedForTakenBytes.{given_for}
use Rattle.brpc_model.specs.Spelling.{meta_bytes}
use Rattle.served_calls.specs.served_runs.specs.Below.script_facts.proofs.CallLines.{CallInRange}
use Rattle.served_calls.specs.served_runs.specs.Below.script_facts.proofs.LabelCounts.{Differ}
use Rattle.served_calls.specs.served_runs.specs.Below.script_facts.proofs.FilteredLists.{all_at, all_from, before_from}
use Rattle.served_calls.specs.served_runs.specs.Below.script_facts.proofs.OperationNumbering.{are_from}
use Rattle.served_calls.specs.served_runs.specs.Below.script_facts.proofs.ReadScriptFacts.{InRange}
use Rattle.served_calls.specs.served_runs.specs.Below.script_facts.proofs.ScriptSizes.{is_counted, keeps_limits}
use Rattle.served_calls.specs.served_runs.specs.Below.script_facts.proofs.Targets.{are_there}
use Rattle.served_calls.specs.served_runs.specs.Below.script_facts.proofs.TaskLemmas.{numbers_at, task_is, send_asks, call_asks}
use Rattle.sock_message.specs.Asked.{Asked, meta_of, frame_of}
use Rattle.seat_programs.specs.ReaderProgram.{LIMIT}
use Rattle.seat_programs.specs.declared.task.Op.TheVariants as ops
use Rattle.seat_programs.specs.declared.task.Task.{Task}
use Rattle.seat_programs.specs.Cores.{Core}
use Rattle.seat_programs.specs.Tasks.{numbered, plan_of}
use Rattle.seat_programs.specs.Explained.{IsTask}
use Rattle.seat_programs.specs.ExplainedCalls.{Accepted, Order, Fixed, AreOrders, ExplainedCalls, IsTaken, IsSent, OfSend, OfCall, label, bytes_of}
use Rattle.seat_programs.specs.ScriptSetupToEnding.{all_tasks, took_at_home, IsRunWithCalls}
use Rattle.served_calls.specs.served_runs.specs.Below.call_owing.specs.LivesOfLinks.{ClosesInRun}
use Rattle.served_calls.specs.served_runs.specs.Below.run_theorems.proofs.ScriptStartsSoundly.{made}
use Rattle.served_calls.specs.served_runs.specs.Below.call_stories.specs.LinkReadingLists.{gave_in}
use Rattle.served_calls.specs.served_runs.specs.OfferedReplies.{OffersInRun}
use Rattle.served_calls.specs.served_runs.specs.ServedLinks.{took_in_all}
use Rattle.served_calls.specs.served_runs.proofs.ServedLinks.{gives_front, shapes_many}
use Rattle.served_calls.specs.served_runs.specs.Below.script_facts.proofs.CallFrameSizes.{meta_short}
use Rattle.served_calls.specs.served_runs.proofs.WholeFrameStreams.{framed_length}
use Rattle.served_calls.specs.served_runs.proofs.OwnReplies.{cut_more}
use Rattle.served_sizes.specs.MessageBodySizes.{carried, all_carried}
use Rattle.served_sizes.proofs.ScriptTextBytes.{carried_few}
use Rattle.served_sizes.proofs.ReplySizeBounds.{replies_short}
use Rattle.served_sizes.proofs.MessageWeightsByLabel.{weight_of, weight_at, all_few}

-- ## Requests

-- a request has so many bytes besides what it carries
frame_few : (asked : Asked) (id n : ℕ) → length asked.service ≤ 64 → length asked.method ≤ 64 → length (frame_of asked id n) ≤ 240 + (length asked.payload + length asked.attachment)
frame_few asked id n s m = let l = framed_length (meta_bytes (meta_of asked id n)) asked.payload asked.attachment in let few = meta_short asked.service asked.method (id + n + 1) (length asked.attachment) s m in sums (length (frame_of asked id n)) (length (meta_bytes (meta_of asked id n))) (length asked.payload) (length asked.attachment) l few
  where
    sums : (f m p a : ℕ) → f ≡ 12 + (m + p + a) → m ≤ 228 → f ≤ 240 + (p + a)
    sums f m p a e q = omega (arith, e, q)

-- ## Attempts

attempts_low : (item : Item) → InRange item → attempts_of item ≤ 7
attempts_low (Send name bytes) range = omega arith
attempts_low (Call call) range = let few = range.retry in omega (arith, few)
attempts_low other range = omega arith

-- the messages of a link, of which it took some whole and then a cut
taken_few : (o : Order) (took : List ℕ) → IsTaken o took → length took ≤ length (flat_map bytes_of o.accepted)
taken_few o took taken = let n = o.placed in let x = cut_more taken.cut (drop n o.accepted) taken.is_cut in
    let whole : took ++ x.0 ≡ flat_map bytes_of o.accepted = ap (λ l. l ++ x.0) taken.took_is ∙ (append_assoc (flat_map bytes_of (take n o.accepted)) taken.cut x.0 ∙ (ap (λ l. flat_map bytes_of (take n o.accepted) ++ l) x.1
    ∙ (sym (flat_map-append bytes_of (take n o.accepted) (drop n o.accepted)) ∙ ap (flat_map bytes_of) (take-append-drop n o.accepted)))) in
    let long = ap length whole in let parts = length-append took x.0 in omega (arith, long, parts)

-- the message of an attempt that carries what its operation carries has room under its label
at_label : (ops : List Operation) (o n : ℕ) (q : Operation) (a : Accepted) → slice_get ops o ≡ Some q → o ≡ a.operation → n ≡ a.attempt → n < attempts_of q.item → attempts_of q.item ≤ 7 → length a.bytes ≤ 240 + carried q.item
    → (label a < 8 * length ops) × (length a.bytes ≤ weight_of ops (label a))
at_label ops o n q a there number attempt low few short =
    let inside = slice_get_within ops o q there in let same : 8 * o + n ≡ label a = omega (arith, number, attempt) in
    (omega (arith, inside, number, attempt, low, few), subst (λ m. length a.bytes ≤ m) (sym (weight_at ops o n q there low (omega (arith, low, few))) ∙ ap (weight_of ops) same) short)

-- ## What a link took

-- of what is told of the attempts of calls only the last of each, and what each link accepted
module _ (bytes : List ℕ) (script : List Item) (reads : script_of bytes ≡ Ok script) (outcomes : List (Option Outcome)) (fixed : Fixed) (gave : ℕ → List ℕ) (orders : ℕ → Order) (core : Core) (are_orders : AreOrders (plan_of script) core orders) (last : ℕ → ℕ)
    (tried : (client : ℕ) (t : Task) (asked : Asked) → IsTask (all_tasks script) outcomes client t → t.op ≡ ops.Call asked → last t.number + 2 ≤ asked.range)
    (sent : (k : ℕ) → k < (plan_of script).links → AllByRecursion (IsSent (plan_of script) (all_tasks script) outcomes fixed gave orders last k) (orders k).accepted) where
  range : AllByRecursion InRange script
  range = let counted = is_counted bytes script reads in counted.in_range

  range_at : (i : ℕ) (q : Operation) → slice_get (operations script) i ≡ Some q → InRange q.item
  range_at i q there = all_at InRange script q.item range (are_from 0 1 script i q there).there

  small : AllByRecursion (λ (op : Operation). attempts_of op.item ≤ 7) (operations script)
  small = all_from (λ (op : Operation). attempts_of op.item ≤ 7) (operations script) (λ q h. attempts_low q.item (range_at h.0 q h.1))

  sent_few : (k : ℕ) (a : Accepted) → IsSent (plan_of script) (all_tasks script) outcomes fixed gave orders last k a → (label a < 8 * length (operations script)) × (length a.bytes ≤ weight_of (operations script) (label a))
  sent_few k a (OfSend client t name slot version it number op first life untold) =
      let w = task_is script outcomes client t it in let m = send_asks (numbered script) (names script) (numbers_at script t.number w.operation) w.operation.item name a.bytes (w.asks ∙ ap (λ x. Some x) op) in
      let counts : attempts_of w.operation.item ≡ 1 = ap attempts_of m.1 in let carries : carried w.operation.item ≡ length a.bytes = ap carried m.1 in
      at_label (operations script) t.number 0 w.operation a w.there number (sym first) (omega (arith, counts)) (omega (arith, counts)) (omega (arith, carries))
  sent_few k a (OfCall client t asked outcome id slot version it number op became shows least is_frame life) =
      let w = task_is script outcomes client t it in let m = call_asks (numbered script) (names script) (numbers_at script t.number w.operation) w.operation.item asked (w.asks ∙ ap (λ x. Some x) op) in
      let counts : attempts_of w.operation.item ≡ m.0.retry + 1 = ap attempts_of m.1 in let carries : carried w.operation.item ≡ length m.0.payload + length m.0.attachment = ap carried m.1 in
      let fits : CallInRange m.0 = subst InRange m.1 (range_at t.number w.operation w.there) in
      let retry = fits.retry in let service = fits.service in let method = fits.method in
      let ranges : asked.range ≡ m.0.retry + 2 = ap (λ (x : Asked). x.range) m.2 in
      let payload : length asked.payload ≡ length m.0.payload = ap (λ (x : Asked). length x.payload) m.2 in
      let attachment : length asked.attachment ≡ length m.0.attachment = ap (λ (x : Asked). length x.attachment) m.2 in
      let names_service : length asked.service ≡ length m.0.service = ap (λ (x : Asked). length x.service) m.2 in
      let names_method : length asked.method ≡ length m.0.method = ap (λ (x : Asked). length x.method) m.2 in
      let most = tried client t asked it op in let last_same : last t.number ≡ last a.operation = ap last number in
      let long : length a.bytes ≡ length (frame_of asked id a.attempt) = ap length is_frame in
      let frame = frame_few asked id a.attempt (omega (arith, service, names_service)) (omega (arith, method, names_method)) in
      at_label (operations script) t.number a.attempt w.operation a w.there number refl (omega (arith, least, last_same, most, ranges, counts)) (omega (arith, counts, retry)) (omega (arith, long, frame, payload, attachment, carries))

  apart : (k : ℕ) → k < (plan_of script).links → EachBefore Differ (orders k).accepted
  apart k low = before_from Differ (orders k).accepted (λ i j a b less at there same. (let e = are_orders.apart k k i j a b low low at there same in let z = e.1 in omega (arith, z, less)))

  -- all that it took, in the end
  abbrev pub took_of : ℕ → List ℕ
  took_of k = slice_index_or (took_at_home (plan_of script) core.homes) k []

  took_few : (k : ℕ) → k < (plan_of script).links → length (took_of k) ≤ 240 * attempts script + 7 * all_carried script
  took_few k low = let t = taken_few (orders k) (took_of k) (are_orders.taken k low) in
      let all = all_few script small (orders k).accepted (apart k low) (λ a h. sent_few k a (all_at (IsSent (plan_of script) (all_tasks script) outcomes fixed gave orders last k) (orders k).accepted a (sent k low) h)) in
      up (length (took_of k)) (length (flat_map bytes_of (orders k).accepted)) (240 * attempts script + 7 * all_carried script) t all
    where
      up : (a b c : ℕ) → a ≤ b → b ≤ c → a ≤ c
      up a b c p q = omega (arith, p, q)

  -- with requests for all attempts, a front of what the server gives for a front of that is less than is read at most
  pub front_few : length bytes ≤ 1048576 → attempts script ≤ requests script → (k : ℕ) → k < (plan_of script).links → (shape : Shape) (fed left given_ rest : List ℕ) → took_of k ≡ fed ++ left → given_ ++ rest ≡ given_for shape fed → length given_ < LIMIT
  front_few short enough k low shape fed left given_ rest begins front =
      let limits = keeps_limits bytes script reads in let most = limits.requests in
      let less : length fed ≤ length (took_of k) = (let long = ap length begins in let parts = length-append fed left in omega (arith, long, parts)) in
      sums (length given_) (length rest) (length (given_for shape fed)) (length fed) (length (took_of k)) (attempts script) (requests script) (all_carried script) (length bytes)
      (sym (length-append given_ rest) ∙ ap length front) (replies_short shape fed) less (took_few k low) enough most (carried_few bytes script reads) short
    where
      sums : (g m r f t a q c b : ℕ) → g + m ≡ r → 12 * r ≤ 41 * f → f ≤ t → t ≤ 240 * a + 7 * c → a ≤ q → q ≤ 4096 → 2 * c ≤ b → b ≤ 1048576 → g < 16777216
      sums g m r f t a q c b e p l s u v w z = omega (arith, e, p, l, s, u, v, w, z)

-- ## A run that was replayed

module _ (bytes : List ℕ) (script : List Item) (reads : script_of bytes ≡ Ok script) (short : length bytes ≤ 1048576) (turns : List Turn) (core : Core) (is : IsRunWithCalls script turns core) (closes : ClosesInRun script turns core is) (offers : OffersInRun script turns core is)
    (fixed : Fixed) (orders : ℕ → Order) (tells : ExplainedCalls (plan_of script) (all_tasks script) core.outcomes fixed (gave_in core) orders core) where
  in_range : AllByRecursion InRange script
  in_range = let counted = is_counted bytes script reads in counted.in_range

  -- where there are requests for all attempts, each link with the server gives less than is read at most
  pub few : attempts script ≤ requests script → (k : ℕ) (shape : Shape) → slice_get (link_shapes script) k ≡ Some shape → IsTrue shape.serve → length (gave_in core k) < LIMIT
  few enough k shape at serves =
      let x = gives_front script (made bytes script reads) (are_there bytes script reads) in_range turns core is closes offers k shape at serves in
      let low : k < length (link_names script) = (let l = slice_get_within (link_shapes script) k shape at in let m = shapes_many script in omega (arith, l, m)) in
      front_few bytes script reads core.outcomes fixed (gave_in core) orders core (let are = tells.are_orders in are) tells.last (λ client t asked it op. (tells.again client t asked it op).0) tells.sent short enough k low shape
      (took_in_all script turns core is k) [] (gave_in core k) x.0 (sym (append-nil (took_in_all script turns core is k))) x.1
