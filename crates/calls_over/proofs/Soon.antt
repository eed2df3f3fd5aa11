-- Where nothing went wrong, no call is open as the ending begins: the link of its attempt gave the reply, and the link's reader handled it.
use Rattle.std.proofs.Common.{◌≡◌, ℕ, ◌+◌, ◌<◌, ◌≤◌, ◌&&◌, nat_lt, lt-ltb, Bool, true, cond, List, [], flat_map, slice_get, Some, None, Ok, append-nil, refl, sym, ap, ◌∙◌, subst, arith}
use Rattle.std.specs.List.{AllByRecursion}
use Rattle.std.specs.Prelude.{IsTrue}
use Rattle.brpc_model.specs.Complete.{IsUntroubled}
use Rattle.brpc_model.specs.Frame.{Frame, frame_bytes}
use Rattle.brpc_model.specs.Items.{Item, Shape, Open, Send}
use Rattle.brpc_model.specs.ReturnedLink.{LinkEnd}
use Rattle.brpc_model.specs.Operations.{Turn, link_shapes}
use Rattle.brpc_model.specs.LinePlaceFaults.{names}
use Rattle.brpc_model.specs.Reply.{reply, reply_frames}
use Rattle.brpc_model.specs.Report.{Report}
use Rattle.brpc_model.specs.Script.{script_of}
use Rattle.brpc_model.specs.ServedForTakenBytes.{first_of, given_for}
use Rattle.brpc_model.specs.FrameStream.{stream}
use Rattle.brpc_model.specs.PlaceWords.{AreTold}
use Rattle.served_fits.specs.Below.report_fits.specs.ScriptLinkEnds.{AreEndsOf}
use Rattle.served_fits.specs.Below.script_facts.proofs.KnownScript as known
use Rattle.served_fits.specs.Below.report_fits.proofs.LinkOrderLines.{Given}
use Rattle.served_fits.specs.Below.script_facts.proofs.FilteredLists.{Has, has_filter_map, contains_from, some_is, all_at, all_from, filter_map_has}
use Rattle.served_fits.specs.Below.report_fits.proofs.LivesInReport as lives
use Rattle.served_fits.specs.Below.report_fits.proofs.PrintableCallRun.{known_of}
use Rattle.served_fits.specs.Below.script_facts.proofs.ReadScriptFacts.{InRange}
use Rattle.served_fits.specs.Below.script_facts.proofs.ScriptSizes.{is_counted}
use Rattle.served_fits.specs.Below.script_facts.proofs.Targets.{AreThere, are_there}
use Rattle.served_fits.specs.Below.script_facts.proofs.TaskLemmas.{numbers_at, task_is, send_asks, mentions_send}
use Rattle.corr_core.specs.declared.marks.Plan.{Plan as IdPlan}
use Rattle.sock_message.specs.Asked.{request_of}
use Rattle.seat_programs.specs.declared.task.Op.TheVariants as ops
use Rattle.seat_programs.specs.declared.task.Task.{Task}
use Rattle.corr_core.specs.IdSlotWord.{Parts}
use Rattle.seat_programs.specs.ReaderProgram.{has_response, slot_in, version_in}
use Rattle.seat_programs.specs.Cores.{Core}
use Rattle.seat_programs.specs.Tasks.{numbered, plan_of, id_plan_of}
use Rattle.seat_programs.specs.Explained.{IsTask, Made}
use Rattle.seat_programs.specs.ExplainedCalls.{Order, Fixed, ExplainedCalls}
use Rattle.seat_programs.specs.ScriptSetupToEnding.{Reports, all_tasks, IsRunWithCalls}
use Rattle.served_fits.specs.Below.call_owing.specs.LivesOfLinks.{ClosesInRun}
use Rattle.served_fits.specs.Below.call_owing.specs.SoundOwing.{id_word_of}
use Rattle.served_fits.specs.Below.run_theorems.proofs.RunLengths.{ended_length}
use Rattle.served_fits.specs.Below.run_theorems.proofs.ScriptStartsSoundly.{made}
use Rattle.served_fits.specs.Below.call_stories.specs.LinkReadingLists.{gave_in}
use Rattle.served_fits.specs.Below.call_causes.proofs.HandledResponses.{IsResp}
use Rattle.served_fits.specs.served_runs.specs.OfferedReplies.{OffersInRun}
use Rattle.served_fits.specs.served_runs.proofs.WholeFrameStreams.{IsPiece, reply_is}
use Rattle.served_fits.specs.served_calls.proofs.ReplyFrames.{SaysReply, piece_has, reply_to, reply_says}
use Rattle.served_fits.specs.served_calls.proofs.CalmServedRuns.{named_shape}
use Rattle.calls_over.specs.Open.{slot_word, slot_id, OpenCall}
use Rattle.calls_over.proofs.AllGivenAtEnding.{gave_before}
use Rattle.calls_over.proofs.AllHandledAtEnding.{in_soon}
use Rattle.calls_over.proofs.SoonPieces.{IsLow}
use Rattle.calls_over.proofs.SoonRuns.{stands_before, never_soon}
use Rattle.served_fits.specs.Below.ended_calls.proofs.FailedCallsUnanswered.{some_response}
use Rattle.sock_words.specs.PackedWords.{id_slot, id_first}
use Rattle.served_fits.specs.Below.outcome_stories.specs.Facts.{before_ending}

-- ## Replies

abbrev Any : Frame → Type 0
Any f = Unit {0}

-- the reply to each request is among what the link gave for all that it took
reply_given : (q : IdPlan) (c : Core) (took : List ℕ) (f g : Frame) → AllByRecursion (IsLow q c) (stream took).frames → Has (stream took).frames f → reply f ≡ Some g → Has (stream (flat_map frame_bytes (reply_frames took))).frames g
reply_given q c took f g low there is = subst (λ l. Has (stream l).frames g) (append-nil (flat_map frame_bytes (reply_frames took))) (piece_has frame_bytes Any (reply_frames took) whole g g (has_filter_map reply (stream took).frames f g there is)
    (let l = all_at (IsLow q c) (stream took).frames f low there in (reply_is l.asked l.id l.attempt g l.small (sym (ap reply l.frame) ∙ is)).0) [])
  where
    whole : AllByRecursion (λ g. IsPiece Any (frame_bytes g)) (reply_frames took)
    whole = all_from (λ g. IsPiece Any (frame_bytes g)) (reply_frames took) (λ g h. let w = filter_map_has reply (stream took).frames g h in let l = all_at (IsLow q c) (stream took).frames w.0 low w.1 in
        record { frame = g; is = (reply_is l.asked l.id l.attempt g l.small (sym (ap reply l.frame) ∙ w.2)).0; holds = tt })

both_true : (x y : Bool) → x ≡ true → y ≡ true → (x && y) ≡ true
both_true x y a b = ap (λ z. z && y) a ∙ b

-- ## Links

module _ (bytes : List ℕ) (script : List Item) (reads : script_of bytes ≡ Ok script) (turns : List Turn) (core : Core) (is : IsRunWithCalls script turns core) (closes : ClosesInRun script turns core is) (offers : OffersInRun script turns core is) (fixed : Fixed)
    (orders : ℕ → Order) (tells : ExplainedCalls (plan_of script) (all_tasks script) core.outcomes fixed (gave_in core) orders core) (report : Report) (took : List (List ℕ)) (ends : List LinkEnd)
    (reports : Reports script core took report) (told : AreTold ends took) (given_back : AreEndsOf script core fixed (gave_in core) ends) (untroubled : IsUntroubled script ends) where
  abbrev all_given : Given
  all_given = record { run = known_of bytes script reads core fixed (gave_in core) orders (ended_length bytes script reads turns core is) tells; report = report; took = took; ends = ends; reports = reports; told = told; given = given_back }

  there : AreThere script
  there = are_there bytes script reads

  range : AllByRecursion InRange script
  range = (is_counted bytes script reads).in_range

  -- a link with the server gives no end
  pub no_end : (k : ℕ) (shape : Shape) → slice_get (link_shapes script) k ≡ Some shape → shape.end ≡ None
  no_end k shape at = let x = named_shape script k shape at in untroubled.no_end x.0 shape (contains_from script (Open x.0 shape) x.2)

  -- and no `send` is to its socket
  pub no_stray : (k : ℕ) (shape : Shape) → slice_get (link_shapes script) k ≡ Some shape → IsTrue shape.serve → (client : ℕ) (t : Task) (name slot version : ℕ) (sent : List ℕ) → IsTask (all_tasks script) core.outcomes client t → t.op ≡ ops.Send name sent → Made (all_tasks script) core.outcomes name k slot version → ⊥
  no_stray k shape at serves client t name slot version sent it op life = let w = task_is script core.outcomes client t it in
      let m = send_asks (numbered script) (names script) (numbers_at script t.number w.operation) w.operation.item name sent (w.asks ∙ ap Some op) in
      let mentions = mentions_send script t.number w.operation w.there m.0 sent m.1 in let link = lives.link_of all_given name k slot version m.0 (m.2, mentions) life in let x = named_shape script k shape at in
      untroubled.no_stray m.0 sent (contains_from script (Send m.0 sent) (known.in_script all_given.run t.number w.operation w.there (Send m.0 sent) m.1))
      (shape, contains_from script (Open m.0 shape) (subst (λ n. Has script (Open n shape)) (some_is x.0 m.0 (sym x.1 ∙ link)) x.2), serves)

  module _ (i : ℕ) (o : OpenCall script turns core is i) where
    abbrev word : Parts
    word = slot_word script turns core is i

    abbrev id : ℕ
    id = slot_id script turns core is i

    abbrev g : Frame
    g = reply_to o.asked (id + word.attempt + 1)

    says : SaysReply (id + word.attempt + 1) g
    says = reply_says o.asked (id + word.attempt + 1) g refl

    -- its link gave the reply
    given_there : Has (stream (gave_in (before_ending script turns core is) o.link)).frames g
    given_there = let s = stands_before script (made bytes script reads) there range turns core is closes offers o.link o.shape o.opened o.serves (no_stray o.link o.shape o.opened o.serves) in
        subst (λ l. Has (stream l).frames g) (sym all) (reply_given (id_plan_of script) (before_ending script turns core is) o.took (request_of o.asked id word.attempt) g (s.took o.took o.took_so) o.request refl)
      where
        all : gave_in (before_ending script turns core is) o.link ≡ flat_map frame_bytes (reply_frames o.took)
        all = gave_before script turns core is offers o.link o.shape o.opened o.seat o.seat_there o.reading o.next o.reads o.of_link o.took o.took_so
            ∙ (ap (λ b. cond b (given_for o.shape o.took) []) o.serves ∙ ap (λ e. flat_map frame_bytes (first_of e (reply_frames o.took))) (no_end o.link o.shape o.opened))

    few : word.attempt ≤ 6
    few = let v = o.versions in let eight : word.range ≤ 8 = omega arith in omega (arith, v, eight)

    slot_is : slot_in g ≡ i
    slot_is = ap id_slot says.same_id ∙ (let s = o.small in let f = few in let z : id_slot (id + word.attempt + 1) ≡ i = omega (arith, s, f) in z)

    version_is : version_in g ≡ word.first + word.attempt + 1
    version_is = ap id_first says.same_id ∙ (let s = o.small in let f = few in let z : id_first (id + word.attempt + 1) ≡ word.first + word.attempt + 1 = omega (arith, s, f) in z)

    response : IsResp o.link (id_plan_of script).slots g
    response = both_true (has_response g.meta.response) (nat_lt (slot_in g) (id_plan_of script).slots) (some_response g.meta.response says.response) (lt-ltb (slot_in g) (id_plan_of script).slots (let s = slot_is in let l = o.inside in omega (arith, s, l)))

    behind : (id_word_of (before_ending script turns core is) (slot_in g)).first < version_in g
    behind = subst (λ j. (id_word_of (before_ending script turns core is) j).first < version_in g) (sym slot_is) (let v = version_is in omega (arith, v))

    -- its link's reader would have ended it
    pub no_open_call : ⊥
    no_open_call = never_soon script (made bytes script reads) there range turns core is closes offers o.link o.shape o.opened o.serves (no_stray o.link o.shape o.opened o.serves) o.took o.took_so given_there.0
        (in_soon script (made bytes script reads) there range turns core is o.link o.opening o.opens_it o.seat o.seat_there o.reading o.next o.reads given_there.0 g given_there.1 response behind)
