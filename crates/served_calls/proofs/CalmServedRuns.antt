-- Where nothing went wrong by the script and by the links that were given back, a run is calm: so its report is complete.
use Rattle.std.proofs.Common.{◌≡◌, ℕ, zero, suc, ◌<◌, ◌≤◌, ◌⊎◌, inl, inr, Bool, true, false, List, [], ◌∷◌, length, slice_get, Some, None, Ok, refl, sym, ap, ◌∙◌, subst, arith}
use Rattle.std.proofs.lemmas.List.{nil_from_length}
use Rattle.std.proofs.lemmas.Option.{slice_get_within}
use Rattle.std.specs.Prelude.{IsTrue, Contains}
use Rattle.sock_words.specs.declared.outcome.Outcome.{Outcome}
use Rattle.sock_words.specs.declared.outcome.Outcome.TheVariants.{Unopened}
use Rattle.brpc_model.specs.LinkFailureCauses.{HasFault, reading_limit}
use Rattle.brpc_model.specs.Complete.{IsServed, IsSilentUnserved, IsUntroubled, Completeness, FitsWhole}
use Rattle.brpc_model.specs.ReportFits.{FitsRun}
use Rattle.brpc_model.specs.Items.{Item, Shape, Open, Send, Call, Expire, Fail, CallLine, attempts_of}
use Rattle.brpc_model.specs.ReturnedLink.{LinkEnd}
use Rattle.brpc_model.specs.Operations.{Operation, Turn, operations, link_names, link_shapes}
use Rattle.brpc_model.specs.LinePlaceFaults.{names}
use Rattle.brpc_model.specs.Report.{Report, report_text}
use Rattle.brpc_model.specs.Script.{script_of}
use Rattle.served_runs.specs.Below.report_fits.specs.OwedInCalmRuns.{IsCalm}
use Rattle.served_runs.specs.Below.report_fits.specs.OwedInCalmRuns as calls
use Rattle.brpc_model.specs.PlaceWords.{AreTold}
use Rattle.served_runs.specs.Below.report_fits.specs.ScriptLinkEnds.{AreEndsOf, EndsEarly}
use Rattle.served_runs.specs.Below.report_fits.proofs.ReportedRunFitting.{fits_run, complete}
use Rattle.served_runs.specs.Below.script_facts.proofs.KnownScript as known
use Rattle.served_runs.specs.Below.report_fits.proofs.LinkOrderLines.{Given}
use Rattle.served_runs.specs.Below.script_facts.proofs.FilteredLists.{Has, all_at, has_from, has_later, contains_from, some_is, within}
use Rattle.served_runs.specs.Below.report_fits.proofs.LivesInReport as lives
use Rattle.served_runs.specs.Below.report_fits.proofs.PrintableCallRun.{lateness, known_of}
use Rattle.served_runs.specs.Below.script_facts.proofs.Targets as targets
use Rattle.served_runs.specs.Below.script_facts.proofs.TaskLemmas.{numbers_at, task_is, send_asks, call_asks, fail_asks, expire_asks, mentions_send}
use Rattle.sock_message.specs.Asked.{Asked, name_of}
use Rattle.seat_programs.specs.declared.task.Op.TheVariants as ops
use Rattle.seat_programs.specs.declared.task.Task.{Task}
use Rattle.seat_programs.specs.Asides.{AtEnd, Broken}
use Rattle.seat_programs.specs.ReaderProgram.{LIMIT}
use Rattle.seat_programs.specs.Cores.{Core}
use Rattle.seat_programs.specs.Tasks.{numbered, asked_of, plan_of}
use Rattle.seat_programs.specs.Explained.{IsTask, Made}
use Rattle.seat_programs.specs.ExplainedCalls.{Order, Fixed, ExplainedCalls, IsUnordered, WasFull}
use Rattle.seat_programs.specs.ScriptSetupToEnding.{Reports, all_tasks, IsRunWithCalls}
use Rattle.served_runs.specs.Below.run_theorems.specs.Heard.{heard_takes, given_by}
use Rattle.served_runs.specs.Below.run_theorems.proofs.GaveTakeByTake.{gave_heard}
use Rattle.served_runs.specs.Below.run_theorems.proofs.ScriptStartsSoundly.{made}
use Rattle.served_runs.specs.Below.call_stories.specs.LinkReadingLists.{gave_in, attempts_of_run}
use Rattle.served_runs.specs.ServedLinks.{GivesReplies, GivesLast, GivesNoFault, GivesCallReplies}
use Rattle.served_calls.specs.QuietRuns.{AreShown, GivesFew, HasServer, AreEarly, IsQuiet, IsTimely, IsForServers, IsUnexpired, CallIsDone}
use Rattle.served_runs.proofs.ServedLinks.{shapes_many}
use Rattle.served_calls.proofs.RepliesOfServedCalls.{none_early, served_call_done}
use Rattle.served_calls.proofs.RequestsTakenByLinks.{AreIdsSmall}

-- ## Links

-- each link was opened under its name, with its shape
pub named_shape : (items : List Item) (k : ℕ) (shape : Shape) → slice_get (link_shapes items) k ≡ Some shape → (name : List ℕ) × (slice_get (link_names items) k ≡ Some name) × Has items (Open name shape)
named_shape [] k shape e = absurd (cc)
named_shape (Open n s ∷ items) zero shape e = (n, refl, (zero, ap (λ (x : Shape). Some (Open n x)) (some_is s shape e)))
named_shape (Open n s ∷ items) (suc k) shape e = let x = named_shape items k shape e in (x.0, x.1, has_later (Open n s) items (Open x.0 shape) x.2)
named_shape (item ∷ items) k shape e = let x = named_shape items k shape e in (x.0, x.1, has_later item items (Open x.0 shape) x.2)

no_fault_none : HasFault [] → ⊥
no_fault_none (start, fault, e) = cc

not_true : (b : Bool) → (b ≡ true → ⊥) → b ≡ false
not_true true f = absurd (f refl)
not_true false f = refl

module _ (bytes : List ℕ) (script : List Item) (reads : script_of bytes ≡ Ok script) (turns : List Turn) (core : Core) (is : IsRunWithCalls script turns core) (fixed : Fixed) (orders : ℕ → Order) (long : length core.outcomes ≡ length (operations script))
    (tells : ExplainedCalls (plan_of script) (all_tasks script) core.outcomes fixed (gave_in core) orders core) (report : Report) (took : List (List ℕ)) (ends : List LinkEnd) (reports : Reports script core took report) (told : AreTold ends took)
    (given_back : AreEndsOf script core fixed (gave_in core) ends) where
  abbrev pub all_given : Given
  all_given = record { run = known_of bytes script reads core fixed (gave_in core) orders long tells; report = report; took = took; ends = ends; reports = reports; told = told; given = given_back }

  abbrev Task_ : ℕ → Task → Type 0
  Task_ client t = IsTask (all_tasks script) core.outcomes client t

  module _ (shown : AreShown script turns core is fixed ends) (few : GivesFew script turns core is) (untroubled : IsUntroubled script ends) (timely : IsTimely script turns core is fixed orders) where
    link_low : (k : ℕ) (shape : Shape) → slice_get (link_shapes script) k ≡ Some shape → k < length (link_names script)
    link_low k shape at = let l = slice_get_within (link_shapes script) k shape at in let m = shapes_many script in omega (arith, l, m)

    end_of : (k : ℕ) → k < length (link_names script) → lives.EndOf all_given k
    end_of k low = lives.end_at all_given k low

    faultless : (k : ℕ) (low : k < length (link_names script)) → ((end_of k low).end.put_faults ≡ 0) × ((end_of k low).end.take_faults ≡ 0)
    faultless k low = all_at (λ (x : LinkEnd). (x.put_faults ≡ 0) × (x.take_faults ≡ 0)) ends (end_of k low).end untroubled.put (has_from ends (end_of k low).end (end_of k low).there)

    -- a link without the server gave nothing, and no end
    unserved : (k : ℕ) (shape : Shape) (low : k < length (link_names script)) → slice_get (link_shapes script) k ≡ Some shape → (IsTrue shape.serve → ⊥) → (gave_in core k ≡ []) × ((end_of k low).end.gave_count ≡ 0) × ((end_of k low).end.gave_end ≡ false)
    unserved k shape low at none_ = let e = end_of k low in
        let quiet = all_at (IsSilentUnserved script) ends e.end untroubled.unserved (has_from ends e.end e.there) shape (ap (slice_get (link_shapes script)) e.is.numbered ∙ at) (not_true shape.serve none_) in
        let counted = e.is.counted in let zero_ = quiet.0 in (nil_from_length (gave_in core k) (omega (arith, counted, zero_)), quiet.0, quiet.1)

    -- ## The script

    no_fail : (client : ℕ) (t : Task) (name code : ℕ) → Task_ client t → t.op ≡ ops.Fail name code → ⊥
    no_fail client t name code it op = let w = task_is script core.outcomes client t it in let m = fail_asks (numbered script) (names script) (numbers_at script t.number w.operation) w.operation.item name code (w.asks ∙ ap Some op) in
        untroubled.no_fail m.0 code (contains_from script (Fail m.0 code) (known.in_script all_given.run t.number w.operation w.there (Fail m.0 code) m.1))

    no_end : (k : ℕ) (shape : Shape) → slice_get (link_shapes script) k ≡ Some shape → shape.end ≡ None
    no_end k shape at = let x = named_shape script k shape at in untroubled.no_end x.0 shape (contains_from script (Open x.0 shape) x.2)

    -- the shape of a link of this name
    link_shape : (k : ℕ) (name : List ℕ) → slice_get (link_names script) k ≡ Some name → (shape : Shape) × (slice_get (link_shapes script) k ≡ Some shape) × Contains script (Open name shape)
    link_shape k name at = let l = slice_get_within (link_names script) k name at in let s = within (link_shapes script) k (let m = shapes_many script in omega (arith, l, m)) in let x = named_shape script k s.0 s.1 in
        (s.0, s.1, contains_from script (Open name s.0) (subst (λ n. Has script (Open n s.0)) (some_is x.0 name (sym x.1 ∙ at)) x.2))

    no_stray : (k client : ℕ) (t : Task) (name slot version : ℕ) (sent : List ℕ) → HasServer script turns core is k → Task_ client t → t.op ≡ ops.Send name sent → Made (all_tasks script) core.outcomes name k slot version → ⊥
    no_stray k client t name slot version sent s it op life = let w = task_is script core.outcomes client t it in let m = send_asks (numbered script) (names script) (numbers_at script t.number w.operation) w.operation.item name sent (w.asks ∙ ap Some op) in
        let mentions = mentions_send script t.number w.operation w.there m.0 sent m.1 in let link = lives.link_of all_given name k slot version m.0 (m.2, mentions) life in let x = link_shape k m.0 link in
        untroubled.no_stray m.0 sent (contains_from script (Send m.0 sent) (known.in_script all_given.run t.number w.operation w.there (Send m.0 sent) m.1)) (x.0, x.2, subst (λ (y : Shape). IsTrue y.serve) (some_is s.0 x.0 (sym s.1 ∙ x.1)) s.2)

    unfull : (client : ℕ) (t : Task) (asked : Asked) → Task_ client t → t.op ≡ ops.Call asked → IsUnordered (plan_of script) (all_tasks script) core.outcomes fixed (gave_in core) orders t.number 0 → WasFull (plan_of script) (all_tasks script) core.outcomes fixed (gave_in core) orders → ⊥
    unfull client t asked it op out full = let w = task_is script core.outcomes client t it in let m = call_asks (numbered script) (names script) (numbers_at script t.number w.operation) w.operation.item asked (w.asks ∙ ap Some op) in
        let counts = ap attempts_of m.1 in let less = known.fewer all_given.run t.number 0 w.operation w.there (omega (arith, counts)) out in let few_attempts = untroubled.few_attempts in let z : ⊥ = omega (arith, less, full, few_attempts) in z

    none_late : (client : ℕ) (t : Task) (asked : Asked) → Task_ client t → t.op ≡ ops.Call asked → Contains fixed.late t.number → ⊥
    none_late client t asked it op late = let w = task_is script core.outcomes client t it in timely.none_late t.number w.operation w.there late

    none_broken : (k : ℕ) → HasServer script turns core is k → Contains fixed.broken k → ⊥
    none_broken k s broken = let low = link_low k s.0 s.1 in let e = end_of k low in let f = faultless k low in let x = e.is.failed broken in let y = f.0 in let z : ⊥ = omega (arith, x, y) in z

    whole : (k : ℕ) → HasServer script turns core is k → Contains (heard_takes is k) Broken → ⊥
    whole k s broken = let low = link_low k s.0 s.1 in let e = end_of k low in let f = faultless k low in let x = shown.1 k e.end e.there e.is.numbered broken in let y = f.1 in let z : ⊥ = omega (arith, x, y) in z

    quiet : IsQuiet script turns core is fixed orders
    quiet = record { no_fail = no_fail; no_end = no_end; none_broken = none_broken; whole = whole; silent = λ k shape at none_. (unserved k shape (link_low k shape at) at none_).0; few = few; no_stray = no_stray; unfull = unfull; none_late = none_late; no_late_link = timely.no_late_link; in_time = timely.in_time }

    early : AreEarly script turns core is fixed orders
    early k there = let e = shown.0 k there in by (gave_heard bytes script reads turns core is k e.0) e.1
      where
        by : gave_in core k ≡ given_by (heard_takes is k) → Contains (heard_takes is k) AtEnd ⊎ (HasFault (given_by (heard_takes is k)) ⊎ ((reading_limit ≤ length (given_by (heard_takes is k))) ⊎ Contains (heard_takes is k) Broken))
            → Contains (heard_takes is k) AtEnd ⊎ (HasFault (gave_in core k) ⊎ ((LIMIT ≤ length (gave_in core k)) ⊎ Contains (heard_takes is k) Broken))
        by same (inl ended) = inl ended
        by same (inr (inl fault)) = inr (inl (subst HasFault (sym same) fault))
        by same (inr (inr (inl most))) = inr (inr (inl (let l = ap length same in omega (arith, l, most))))
        by same (inr (inr (inr broken))) = inr (inr (inr broken))

    -- ## Calls

    module _ (i : ℕ) (op : Operation) (call : CallLine) (name : List ℕ) (there : slice_get (operations script) i ≡ Some op) (item : op.item ≡ Call call) where
      abbrev asked : Asked
      asked = asked_of (names script) i call

      for_servers : slice_get call.names 0 ≡ Some name → IsServed script name → IsForServers script turns core is fixed orders asked
      for_servers first served k slot version life =
          let link = lives.link_of all_given (name_of asked 0) k slot version name (known.first_number (names script) i call name first, known.mentions_call all_given.run i op call there item name (0, first)) life in
          let x = link_shape k name link in (x.0, x.1, served.1 x.0 x.2)

      unexpired : (Contains script (Expire op.client op.number) → ⊥) → IsUnexpired script turns core is fixed orders i
      unexpired none_ client t it asks =
          let w = task_is script core.outcomes client t it in
          let m = expire_asks (numbered script) (names script) (numbers_at script t.number w.operation) w.operation.item i (w.asks ∙ ap Some asks) in
          let has : Has script (Expire m.0 m.1) = known.in_script all_given.run t.number w.operation w.there (Expire m.0 m.1) m.2 in
          let target = targets.expired script all_given.run.targets m.0 m.1 has in
          let same : target.call ≡ op = some_is target.call op (sym target.there ∙ (ap (slice_get (operations script)) (sym m.3) ∙ there)) in
          let own : m.0 ≡ op.client = sym target.own ∙ ap (λ (x : Operation). x.client) same in let number : m.1 ≡ op.number = sym target.number ∙ ap (λ (x : Operation). x.number) same in
          none_ (contains_from script (Expire op.client op.number) (subst (λ x. Has script x) (ap (λ c. Expire c m.1) own ∙ ap (Expire op.client) number) has))

    module _ (ids : AreIdsSmall script core) (last_is : (client : ℕ) (t : Task) (asked : Asked) → IsTask (all_tasks script) core.outcomes client t → t.op ≡ ops.Call asked → tells.last t.number ≡ attempts_of_run script turns core is t.number)
        (replies : GivesReplies script turns core is) (call_replies : GivesCallReplies script turns core is) (no_fault : GivesNoFault script turns core is) (lasts : GivesLast script turns core is) where
      none_early_at : (k : ℕ) → Contains fixed.early k → ⊥
      none_early_at k there = by (within (link_shapes script) k (let l = (shown.0 k there).0 in let m = shapes_many script in omega (arith, l, m)))
        where
          by_end : (shape : Shape) (low : k < length (link_names script)) → slice_get (link_shapes script) k ≡ Some shape → (IsTrue shape.serve → ⊥) → EndsEarly (gave_in core k) (end_of k low).end → ⊥
          by_end shape low at none_ (inl ended) = let u = unserved k shape low at none_ in let z : false ≡ true = sym u.2 ∙ ended in cc
          by_end shape low at none_ (inr (inl fault)) = no_fault_none (subst HasFault (unserved k shape low at none_).0 fault)
          by_end shape low at none_ (inr (inr (inl most))) = let u = (unserved k shape low at none_).1 in let z : ⊥ = omega (arith, most, u) in z
          by_end shape low at none_ (inr (inr (inr failed))) = let f = (faultless k low).1 in let z : ⊥ = omega (arith, failed, f) in z

          by_server : (shape : Shape) → slice_get (link_shapes script) k ≡ Some shape → (b : Bool) → shape.serve ≡ b → ⊥
          by_server shape at true serves = none_early script (made bytes script reads) turns core is fixed orders tells ids last_is replies call_replies no_fault lasts early quiet k (shape, at, serves) there
          by_server shape at false none_ = by_end shape (link_low k shape at) at (λ serves. let z : false ≡ true = sym none_ ∙ serves in cc) ((end_of k (link_low k shape at)).is.early there)

          by : (shape : Shape) × (slice_get (link_shapes script) k ≡ Some shape) → ⊥
          by (shape, at) = by_server shape at shape.serve refl

      call_calm : (i : ℕ) (op : Operation) (call : CallLine) (name : List ℕ) (outcome : Outcome) → slice_get (operations script) i ≡ Some op → op.item ≡ Call call → slice_get core.outcomes i ≡ Some (Some outcome) → slice_get call.names 0 ≡ Some name → IsServed script name
          → (Contains script (Expire op.client op.number) → ⊥) → calls.HasReply call outcome ⊎ (outcome ≡ Unopened)
      call_calm i op call name outcome there item became first served none_ = by (served_call_done script (made bytes script reads) turns core is fixed orders tells ids last_is replies call_replies no_fault lasts early quiet op.client (record { number = i; op = ops.Call (asked i op call name there item) })
          (asked i op call name there item) outcome (known.call_task all_given.run i op call there item) refl became (for_servers i op call name there item first served) (unexpired i op call name there item none_))
        where
          by : CallIsDone script turns core is fixed orders op.client i (asked i op call name there item) outcome → calls.HasReply call outcome ⊎ (outcome ≡ Unopened)
          by (inl reply) = inl reply
          by (inr none_) = inr none_.0

      -- the run is calm
      pub calm : IsCalm script core.outcomes fixed
      calm = record {
        none_early = none_early_at;
        none_late = λ o op name sent there item late. timely.none_late o op there late;
        no_late_link = timely.no_late_link;
        calls = call_calm;
      }

  -- its report fits the script and the links, and where nothing went wrong it is complete
  pub served_run : AreShown script turns core is fixed ends → (IsUntroubled script ends → GivesFew script turns core is) → (IsUntroubled script ends → IsTimely script turns core is fixed orders) → AreIdsSmall script core
      → ((client : ℕ) (t : Task) (asked : Asked) → IsTask (all_tasks script) core.outcomes client t → t.op ≡ ops.Call asked → tells.last t.number ≡ attempts_of_run script turns core is t.number)
      → GivesReplies script turns core is → GivesCallReplies script turns core is → GivesNoFault script turns core is → GivesLast script turns core is → FitsRun (lives.run_of all_given) × Completeness (lives.run_of all_given)
  served_run shown few timely ids last_is replies call_replies no_fault lasts = (
    fits_run all_given,
    complete all_given (λ untroubled. calm shown (few untroubled) untroubled (timely untroubled) ids last_is replies call_replies no_fault lasts),
  )

  pub served_fits : AreShown script turns core is fixed ends → (IsUntroubled script ends → GivesFew script turns core is) → (IsUntroubled script ends → IsTimely script turns core is fixed orders) → AreIdsSmall script core
      → ((client : ℕ) (t : Task) (asked : Asked) → IsTask (all_tasks script) core.outcomes client t → t.op ≡ ops.Call asked → tells.last t.number ≡ attempts_of_run script turns core is t.number)
      → GivesReplies script turns core is → GivesCallReplies script turns core is → GivesNoFault script turns core is → GivesLast script turns core is → FitsWhole script (report_text script report) ends (lateness fixed)
  served_fits shown few timely ids last_is replies call_replies no_fault lasts = (report, lives.story_of all_given, refl, served_run shown few timely ids last_is replies call_replies no_fault lasts)
