-- A script without calls: what is told of its run is what is told of a run with calls, in which none comes. So its report fits.
use Rattle.std.proofs.Common.{◌≡◌, ℕ, ◌*◌, ◌<◌, ◌⊎◌, inl, inr, true, false, nat_le, List, [], ◌∷◌, ◌++◌, length, map, flat_map, take, drop, sum_by, slice_get, slice_index, Some, Ok, Contains, refl, ap, sym, ◌∙◌, subst, arith}
use Rattle.std.proofs.lemmas.List.{take-map, drop-map, length-map}
use Rattle.std.proofs.lemmas.List.Sums.{sum_by-cons}
use Rattle.std.specs.List.{AllByRecursion}
use Rattle.sock_words.specs.PackedWords.{place_word}
use Rattle.sock_words.specs.declared.outcome.Outcome.{Outcome}
use Rattle.brpc_model.specs.Items.{Item}
use Rattle.brpc_model.specs.Operations.{operations, link_names}
use Rattle.brpc_model.specs.Order.{EachBefore, IsCut}
use Rattle.brpc_model.specs.LinePlaceFaults.{names}
use Rattle.brpc_model.proofs.CauseLeads.{FindingLeads, send_leads, hold_leads, fail_leads}
use Rattle.brpc_model.specs.Script.{script_of}
use Rattle.brpc_model.specs.ReturnedLink.{LinkEnd}
use Rattle.brpc_model.specs.Report.{Report, report_text}
use Rattle.brpc_model.specs.Run.{nothing_late}
use Rattle.brpc_model.specs.PlaceWords.{ArePlaces, HasEachOutcome, AreTold}
use Rattle.brpc_model.specs.Complete.{FitsWhole}
use Rattle.seat_programs.specs.sock_model.specs.SocketTableLayout.{place_index}
use Rattle.seat_programs.specs.sock_message.specs.Asked.{Asked}
use Rattle.seat_programs.specs.declared.task.Op.{Op}
use Rattle.seat_programs.specs.declared.task.Op.TheVariants as ops
use Rattle.seat_programs.specs.declared.task.Task.{Task}
use Rattle.seat_programs.specs.Cores.{Core}
use Rattle.seat_programs.specs.ScheduledRuns.{from_to}
use Rattle.seat_programs.specs.Tasks.{numbered, plan_of}
use Rattle.seat_programs.specs.ScriptSetupToEnding.{all_tasks, is_callless, is_later, place_words, Reports}
use Rattle.seat_programs.specs.Explained.{Explained, IsTask, IsSent, OnSockets}
use Rattle.seat_programs.specs.Explained as sends
use Rattle.seat_programs.specs.ExplainedCalls.{Accepted, Order, Fixed, ExplainedCalls, AreOrders, IsTaken, StandsAt, OfSend, StandsOn, all_accepted, label, bytes_of}
use Rattle.seat_programs.specs.ExplainedCalls as told
use Rattle.report_fits.specs.OwedInCalmRuns.{IsCalm}
use Rattle.report_fits.specs.ScriptLinkEnds.{AreEnds, AreEndsOf}
use Rattle.script_facts.proofs.FilteredLists.{has_from, has_none, all_from, all_at, before_from, before_at}
use Rattle.script_facts.proofs.Flat.{map_at, at_map, map_map}
use Rattle.script_facts.proofs.OperationNumbering.{are_from}
use Rattle.script_facts.proofs.TaskLemmas.{IsTaskOf, numbers_at, task_is, call_asks, expire_asks}
use Rattle.report_fits.proofs.CalllessScript.{not_later}
use Rattle.report_fits.proofs.PrintableCallRun.{script_fits, script_places}

nothing_there : {A : Type 0} (x : A) → Contains [] x → ⊥
nothing_there x h = has_none x (has_from [] x h)

-- a message as one of an attempt: that of a send is its first
abbrev pub first_attempt : sends.Accepted → Accepted
first_attempt a = record { operation = a.operation; attempt = 0; bytes = a.bytes }

flat_same : (xs : List sends.Accepted) → flat_map bytes_of (map first_attempt xs) ≡ flat_map sends.bytes_of xs
flat_same [] = refl
flat_same (x ∷ xs) = ap (λ l. x.bytes ++ l) (flat_same xs)

label_first : (a : sends.Accepted) → label (first_attempt a) ≡ 8 * a.operation
label_first a = omega arith

sum_same : (f g : ℕ → ℕ) → ((k : ℕ) → f k ≡ g k) → (ks : List ℕ) → sum_by f ks ≡ sum_by g ks
sum_same f g h [] = refl
sum_same f g h (k ∷ ks) = omega (arith, h k, sum_same f g h ks, sum_by-cons f k ks, sum_by-cons g k ks)

module _ (script : List Item) (core : Core) (broken : List ℕ) (callless : is_callless script ≡ true) (tells : Explained (all_tasks script) core.outcomes (plan_of script) core broken) where
  abbrev pub fixed_of : Fixed
  fixed_of = record { broken = broken; early = []; closed = []; silent = []; late = []; late_links = []; soon = []; fails = tells.fails }

  abbrev pub orders_of : ℕ → Order
  orders_of k = record { accepted = map first_attempt (tells.orders k).accepted; placed = (tells.orders k).placed }

  abbrev pub gave_of : ℕ → List ℕ
  gave_of k = []

  -- ## No call

  no_later_op : (c : ℕ) (t : Task) → IsTask (all_tasks script) core.outcomes c t → (w : IsTaskOf script c t) → is_later w.operation.item ≡ false
  no_later_op c t is w = not_later script callless w.operation.item (are_from 0 1 script t.number w.operation w.there).there

  no_call : (c : ℕ) (t : Task) (asked : Asked) → IsTask (all_tasks script) core.outcomes c t → t.op ≡ ops.Call asked → ⊥
  no_call c t asked is op =
      let w = task_is script core.outcomes c t is in
      let m = call_asks (numbered script) (names script) (numbers_at script t.number w.operation) w.operation.item asked (w.asks ∙ ap Some op) in
      let later : true ≡ false = ap is_later (sym m.1) ∙ no_later_op c t is w in absurd (cc)

  no_expire : (c : ℕ) (t : Task) (o : ℕ) → IsTask (all_tasks script) core.outcomes c t → t.op ≡ ops.Expire o → ⊥
  no_expire c t o is op =
      let w = task_is script core.outcomes c t is in
      let m = expire_asks (numbered script) (names script) (numbers_at script t.number w.operation) w.operation.item o (w.asks ∙ ap Some op) in
      let later : true ≡ false = ap is_later (sym m.2) ∙ no_later_op c t is w in absurd (cc)

  -- ## Orders

  abbrev Was : ℕ → ℕ → Accepted → Type 0
  Was k i a = (b : sends.Accepted) × sends.StandsAt tells.orders k i b × (first_attempt b ≡ a)

  was : (k i : ℕ) (a : Accepted) → StandsAt orders_of k i a → Was k i a
  was k i a at = at_map first_attempt (tells.orders k).accepted i a at

  stands : (k i : ℕ) (b : sends.Accepted) → sends.StandsAt tells.orders k i b → StandsAt orders_of k i (first_attempt b)
  stands k i b at = map_at first_attempt (tells.orders k).accepted i b at

  is_taken : (k : ℕ) (took : List ℕ) → sends.IsTaken (tells.orders k) took → IsTaken (orders_of k) took
  is_taken k took t =
      let xs = (tells.orders k).accepted in
      let n = (tells.orders k).placed in
      let whole : flat_map bytes_of (take n (map first_attempt xs)) ≡ flat_map sends.bytes_of (take n xs) = ap (flat_map bytes_of) (take-map first_attempt n xs) ∙ flat_same (take n xs) in
      let later : map bytes_of (drop n (map first_attempt xs)) ≡ map sends.bytes_of (drop n xs) = ap (map bytes_of) (drop-map first_attempt n xs) ∙ map_map first_attempt bytes_of (drop n xs) in
      let P : List (List ℕ) → Type 0 = λ x. IsCut t.cut x in
      record { cut = t.cut; took_is = t.took_is ∙ ap (λ l. l ++ t.cut) (sym whole); is_cut = subst P (sym later) t.is_cut }

  written : (k i : ℕ) (a : Accepted) → k < length (link_names script) → StandsAt orders_of k i a → slice_index core.words (place_index (plan_of script) (label a)) ≡ place_word (nat_le (tells.orders k).placed i) k i
  written k i a low at =
      let b = was k i a at in
      let place : label a ≡ 8 * b.0.operation = ap label (sym b.2) ∙ label_first b.0 in
      ap (λ l. slice_index core.words (place_index (plan_of script) l)) place ∙ tells.are_orders.written k i b.0 low b.1

  alone : (l : ℕ) → (slice_index core.words (place_index (plan_of script) l) ≡ 0) ⊎ ((k i : ℕ) × (a : sends.Accepted) × (k < length (link_names script)) × sends.StandsAt tells.orders k i a × (l ≡ 8 * a.operation)) →
      (slice_index core.words (place_index (plan_of script) l) ≡ 0) ⊎ ((k i : ℕ) × (a : Accepted) × (k < length (link_names script)) × StandsAt orders_of k i a × (l ≡ label a))
  alone l (inl e) = inl e
  alone l (inr w) = inr (w.0, w.1, first_attempt w.2, w.3, stands w.0 w.1 w.2 w.4, w.5 ∙ sym (label_first w.2))

  apart : (k l i j : ℕ) (a b : Accepted) → k < length (link_names script) → l < length (link_names script) → StandsAt orders_of k i a → StandsAt orders_of l j b → label a ≡ label b → (k ≡ l) × (i ≡ j)
  apart k l i j a b low_k low_l at bt same =
      let x = was k i a at in
      let y = was l j b bt in
      let place : 8 * x.0.operation ≡ 8 * y.0.operation = sym (label_first x.0) ∙ ap label x.2 ∙ same ∙ ap label (sym y.2) ∙ label_first y.0 in
      tells.are_orders.apart k l i j x.0 y.0 low_k low_l x.1 y.1 (omega (arith, place))

  are_orders : AreOrders (plan_of script) core orders_of
  are_orders = record {
    written = written;
    alone = λ l low. alone l (tells.are_orders.alone l low);
    within = λ k low. let h = tells.are_orders.within k low in omega (arith, h, length-map (tells.orders k).accepted first_attempt);
    taken = λ k low. is_taken k _ (tells.are_orders.taken k low);
    apart = apart;
  }

  as_many : all_accepted (length (link_names script)) orders_of ≡ sends.all_accepted (length (link_names script)) tells.orders
  as_many = sum_same (λ k. length (map first_attempt (tells.orders k).accepted)) (λ k. length (tells.orders k).accepted) (λ k. length-map (tells.orders k).accepted first_attempt) (from_to 0 (length (link_names script)))

  -- ## Causes

  abbrev OutcomeCause : ℕ → ℕ → Op → Outcome → Type 0
  OutcomeCause c o op outcome = told.OutcomeCause (plan_of script) (all_tasks script) core.outcomes fixed_of gave_of orders_of (λ i. 0) c o op outcome

  abbrev Before : ℕ → ℕ → Op → Outcome → Type 0
  Before c o op outcome = sends.OutcomeCause (all_tasks script) core.outcomes (plan_of script) tells.fails broken tells.orders c o op outcome

  abbrev TSeeks : ℕ → Op → Type 0
  TSeeks n op = told.Seeks (plan_of script) (all_tasks script) core.outcomes fixed_of gave_of orders_of n op

  abbrev Sought : ℕ → Op → Type 0
  Sought n op = ((c : ℕ) × (op ≡ ops.Fail n c)) ⊎ ((op ≡ ops.Hold n) ⊎ ((bytes : List ℕ) × (op ≡ ops.Send n bytes)))

  sought : (n : ℕ) (op : Op) → ((asked : Asked) → op ≡ ops.Call asked → ⊥) → TSeeks n op → Sought n op
  sought n (ops.Fail m code) none s = inl (code, ap (λ x. ops.Fail x code) s)
  sought n (ops.Hold m) none s = inr (inl (ap ops.Hold s))
  sought n (ops.Send m bytes) none s = inr (inr (bytes, ap (λ x. ops.Send x bytes) s))
  sought n (ops.Call asked) none s = absurd (none asked refl)
  sought n other none s = absurd s

  found_none : (c o n : ℕ) → sends.FoundNone (all_tasks script) core.outcomes c o n → told.FoundNone (plan_of script) (all_tasks script) core.outcomes fixed_of gave_of orders_of c o n
  found_none c o n w = record {
    setup = w.setup;
    own = λ t is less. let h = w.own t is less in (h.0, λ s. h.1 (sought n t.op (λ asked op. no_call c t asked is op) s));
  }

  found_failed : (c o n : ℕ) (P : ℕ → Type 0) → sends.FoundFailed (all_tasks script) core.outcomes tells.fails broken c o n P → told.FoundFailed (plan_of script) (all_tasks script) core.outcomes fixed_of gave_of orders_of c o n P
  found_failed c o n P w = record { link = w.link; slot = w.slot; version = w.version; made = w.made; holds = w.holds; failed = by_cause w.failed }
    where
      by_cause : sends.WasFailed (all_tasks script) core.outcomes tells.fails broken c o w.link → told.MayFail (plan_of script) (all_tasks script) core.outcomes fixed_of gave_of orders_of c o w.link ⊎ Contains [] o
      by_cause (inl f) = inl (inl f)
      by_cause (inr b) = inl (inr (inl b))

  abbrev Sockets : ℕ → ℕ → OnSockets
  Sockets c o = sends.on_sockets (all_tasks script) core.outcomes (plan_of script) tells.fails broken tells.orders c o

  abbrev SocketsNow : ℕ → ℕ → OnSockets
  SocketsNow c o = told.sockets_told (plan_of script) (all_tasks script) core.outcomes fixed_of gave_of orders_of c o

  finding : (c o n : ℕ) → FindingLeads ((Sockets c o).find n) ((SocketsNow c o).find n)
  finding c o n = record { none_ = found_none c o n; failed = found_failed c o n; socket = λ w. w }

  why : (c o : ℕ) (op : Op) (outcome : Outcome) → Before c o op outcome → OutcomeCause c o op outcome
  why c o (ops.Open n k) outcome w = w
  why c o (ops.Send n bytes) outcome w = send_leads (sends.sending_of (Sockets c o) n) (sends.sending_of (SocketsNow c o) n)
      (record { find = finding c o n; full = λ many. omega (arith, many, as_many); placed = λ k i x. x; dropped = λ k i x. x }) outcome w
  why c o (ops.Hold n) outcome w = hold_leads ((Sockets c o).find n) ((SocketsNow c o).find n) (finding c o n) outcome w
  why c o (ops.Fail n code) outcome w = fail_leads ((Sockets c o).find n) ((SocketsNow c o).find n) (Sockets c o).FailsLife (SocketsNow c o).FailsLife (finding c o n) (λ f. f) outcome w
  why c o (ops.Drop n) outcome w = w
  why c o (ops.Call asked) outcome w = absurd w
  why c o (ops.Expire t) outcome w = absurd w
  why c o (ops.Join t) outcome w = absurd w

  -- ## What is told

  abbrev Sent : ℕ → Accepted → Type 0
  Sent k a = told.IsSent (plan_of script) (all_tasks script) core.outcomes fixed_of gave_of orders_of (λ i. 0) k a

  sent : (k : ℕ) → k < length (link_names script) → AllByRecursion (Sent k) (orders_of k).accepted
  sent k low = all_from (Sent k) (orders_of k).accepted (λ a h.
      let b = was k h.0 a h.1 in
      let w = all_at (IsSent (all_tasks script) core.outcomes k) (tells.orders k).accepted b.0 (tells.sent k low) (h.0, b.1) in
      subst (Sent k) b.2 (OfSend w.client w.task w.name w.slot w.version w.is w.numbered w.op refl w.life w.untold))

  abbrev InOrder : sends.Accepted → sends.Accepted → Type 0
  InOrder a b = sends.InOwnOrder (all_tasks script) core.outcomes a b

  abbrev InOrderNow : Accepted → Accepted → Type 0
  InOrderNow a b = told.InOwnOrder (plan_of script) (all_tasks script) core.outcomes fixed_of gave_of orders_of a b

  own_order : (k : ℕ) → k < length (link_names script) → EachBefore InOrderNow (orders_of k).accepted
  own_order k low = before_from InOrderNow (orders_of k).accepted (λ i j a b less at bt. (
      let x = was k i a at in
      let y = was k j b bt in
      let h = before_at InOrder (tells.orders k).accepted (tells.own_order k low) i j x.0 y.0 less x.1 y.1 in
      λ c t u is_t is_u number_t number_u first second. h c t u is_t is_u (number_t ∙ ap (λ (z : Accepted). z.operation) (sym x.2)) (number_u ∙ ap (λ (z : Accepted). z.operation) (sym y.2))
      ))

  abbrev On : ℕ → ℕ → Type 0
  On o k = StandsOn (plan_of script) (all_tasks script) core.outcomes fixed_of gave_of orders_of o 0 k

  told_or_on : (o : ℕ) → ((outcome : Outcome) × (slice_get core.outcomes o ≡ Some (Some outcome))) ⊎ ((k i : ℕ) × (a : sends.Accepted) × (k < length (link_names script)) × sends.StandsAt tells.orders k i a × (a.operation ≡ o)) →
      ((outcome : Outcome) × (slice_get core.outcomes o ≡ Some (Some outcome))) ⊎ ((k : ℕ) × On o k)
  told_or_on o (inl w) = inl w
  told_or_on o (inr w) = inr (w.0, (w.1, (w.3, first_attempt w.2, stands w.0 w.1 w.2 w.4, w.5, refl)))

  dropped_by : (k : ℕ) → Contains broken k ⊎ ((fail : ℕ) × Contains tells.fails (fail, k)) → told.IsFailing (plan_of script) (all_tasks script) core.outcomes fixed_of gave_of orders_of k
  dropped_by k (inl b) = inr (inl b)
  dropped_by k (inr f) = inl (f.0, f.1, tt)

  pub as_calls : ExplainedCalls (plan_of script) (all_tasks script) core.outcomes fixed_of gave_of orders_of core
  as_calls = record {
    last = λ o. 0;
    are_orders = are_orders;
    told = λ client t is. told_or_on t.number (tells.told client t is);
    are = tells.are;
    once = tells.once;
    lives = tells.lives;
    why = λ client t outcome is became. why client t.number t.op outcome (tells.why client t outcome is became);
    again = λ client t asked is op. absurd (no_call client t asked is op);
    sent = sent;
    own_order = own_order;
    dropped = λ k low fewer. let n = length-map (tells.orders k).accepted first_attempt in dropped_by k (tells.dropped k low (omega (arith, fewer, n)));
    expired_once = λ c d t u o is_t is_u op_t op_u x y. absurd (no_expire c t o is_t op_t);
    versions = λ c d t u a b x y i j is_t is_u op_t op_u bx by sx sy other. absurd (no_call c t a is_t op_t);
  }

  pub ends_as_calls : (ends : List LinkEnd) → AreEnds script core broken ends → AreEndsOf script core fixed_of gave_of ends
  ends_as_calls ends given = record {
    as_many = given.as_many;
    each = λ k e at. (let is = given.each k e at in record {
      numbered = is.numbered;
      took = is.took;
      counted = sym is.gave_none;
      gives = is.gave;
      failed = is.failed;
      early = λ h. absurd (nothing_there k h);
      closed = λ h. absurd (nothing_there k h);
    });
  }

  pub is_calm : IsCalm script core.outcomes fixed_of
  is_calm = record {
    none_early = λ k h. nothing_there k h;
    none_late = λ o op name bytes there item h. nothing_there o h;
    no_late_link = λ k h. nothing_there k h;
    calls = λ i op call name outcome there item became first served unexpired. absurd (let later : true ≡ false = ap is_later (sym item) ∙ not_later script callless op.item (are_from 0 1 script i op there).there in cc);
  }

-- the report of a run of which this is told fits the script and the links, and is complete
pub fits : (bytes : List ℕ) (script : List Item) → script_of bytes ≡ Ok script → (core : Core) (broken : List ℕ) (report : Report) (took : List (List ℕ)) (ends : List LinkEnd) → is_callless script ≡ true → Explained (all_tasks script) core.outcomes (plan_of script) core broken →
    length core.outcomes ≡ length (operations script) → Reports script core took report → AreTold ends took → AreEnds script core broken ends → FitsWhole script (report_text script report) ends nothing_late
fits bytes script reads core broken report took ends callless tells long reports are_told given =
    script_fits bytes script reads core (fixed_of script core broken callless tells) (gave_of script core broken callless tells) (orders_of script core broken callless tells) long (as_calls script core broken callless tells) report took ends reports are_told
    (ends_as_calls script core broken callless tells ends given) (λ calm. is_calm script core broken callless tells)

-- what the place words tell are places, and each operation has an outcome that was said, or one of these
pub places : (bytes : List ℕ) (script : List Item) → script_of bytes ≡ Ok script → (core : Core) (broken : List ℕ) → is_callless script ≡ true → Explained (all_tasks script) core.outcomes (plan_of script) core broken →
    length core.outcomes ≡ length (operations script) → ArePlaces (place_words (plan_of script) core.words) × HasEachOutcome (place_words (plan_of script) core.words) core.outcomes
places bytes script reads core broken callless tells long =
    script_places bytes script reads core (fixed_of script core broken callless tells) (gave_of script core broken callless tells) (orders_of script core broken callless tells) long (as_calls script core broken callless tells)
