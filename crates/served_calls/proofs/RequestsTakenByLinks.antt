-- The requests of calls in what a link with the server took, and the replies to them.
use Rattle.std.proofs.Common.{◌≡◌, ℕ, zero, suc, ◌<◌, ◌≤◌, List, [], ◌∷◌, ◌++◌, length, take, drop, flat_map, filter_map, slice_get, Some, None, append-nil, append_assoc, refl, sym, ap, ◌∙◌, subst, arith}
use Rattle.std.proofs.lemmas.Grind.{flat_map-append}
use Rattle.std.proofs.lemmas.List.{take-append-drop}
use Rattle.std.specs.List.{AllByRecursion}
use Rattle.sock_words.specs.declared.outcome.Outcome.{Outcome}
use Rattle.brpc_model.specs.Frame.{Frame, IsFrame, frame_bytes}
use Rattle.brpc_model.specs.Items.{Item, Shape}
use Rattle.brpc_model.specs.MessageOfLabel.{shown_id}
use Rattle.brpc_model.specs.Operations.{Turn}
use Rattle.brpc_model.specs.Reply.{reply, reply_frames}
use Rattle.brpc_model.specs.ServedForTakenBytes.{first_of, given_for}
use Rattle.brpc_model.specs.FrameStream.{stream, stream_from}
use Rattle.served_runs.specs.Below.script_facts.proofs.FilteredLists.{Has, all_at, all_from, has_from, has_filter_map, filter_map_has}
use Rattle.sock_message.specs.Asked.{Asked, request_of, frame_of}
use Rattle.seat_programs.specs.declared.task.Op.TheVariants as ops
use Rattle.seat_programs.specs.declared.task.Task.{Task}
use Rattle.seat_programs.specs.Cores.{Core}
use Rattle.seat_programs.specs.Tasks.{plan_of}
use Rattle.seat_programs.specs.Explained.{AskedFits, OpFits, TaskFits, IsTask, Became, Made}
use Rattle.seat_programs.specs.ExplainedCalls.{Accepted, Order, Fixed, ExplainedCalls, IsTaken, IsSent, OfSend, OfCall, StandsAt, bytes_of}
use Rattle.seat_programs.specs.ScriptSetupToEnding.{all_tasks, IsRunWithCalls}
use Rattle.served_runs.specs.Below.outcome_stories.proofs.Members.{contains_in}
use Rattle.served_runs.specs.Below.outcome_ticks.proofs.TableTasksDistinct.{one_task}
use Rattle.served_runs.specs.Below.joint_runs.proofs.RunsOfBothTables.{AreMade}
use Rattle.served_runs.specs.Below.call_stories.specs.LinkReadingLists.{gave_in}
use Rattle.served_runs.specs.Below.call_stories.proofs.StreamFramesStay.{frames_stay}
use Rattle.served_runs.specs.ServedLinks.{took_in_all}
use Rattle.served_runs.proofs.WholeFrameStreams.{IsPiece, piece_frames, pieces_end, IsSmall, request_is, reply_is}
use Rattle.served_runs.proofs.OwnReplies.{cut_more}
use Rattle.served_calls.proofs.ReplyFrames.{take_at, frames_then, first_has, piece_has, reply_more, reply_to}

-- the frame is the request of an attempt of some call
pub record IsCalled (f : Frame) : Type 0 where
  pub asked : Asked
  pub id : ℕ
  pub attempt : ℕ
  pub small : IsSmall asked id attempt
  pub frame : f ≡ request_of asked id attempt

abbrev Any : Frame → Type 0
Any f = Unit {0}

-- the replies to such requests are whole frames
replies_whole : (fs : List Frame) → AllByRecursion IsCalled fs → AllByRecursion (λ g. IsPiece Any (frame_bytes g)) (filter_map reply fs)
replies_whole fs all = all_from (λ g. IsPiece Any (frame_bytes g)) (filter_map reply fs) (λ g h. let w = filter_map_has reply fs g h in let c = all_at IsCalled fs w.0 all w.1 in
    record { frame = g; is = (reply_is c.asked c.id c.attempt g c.small (sym (ap reply c.frame) ∙ w.2)).0; holds = tt })

-- a call as small as any
abbrev tiny : Asked
tiny = record { operation = 0; names = []; service = []; method = []; payload = []; attachment = []; range = 2 }

tiny_small : IsSmall tiny 0 0
tiny_small = record { short = omega arith; low = omega arith }

-- the ids that outcomes of calls show are those of a table
abbrev pub AreIdsSmall : List Item → Core → Type 0
AreIdsSmall script core = (client : ℕ) (t : Task) (asked : Asked) (x : Outcome) (id : ℕ) → IsTask (all_tasks script) core.outcomes client t → t.op ≡ ops.Call asked → Became (all_tasks script) core.outcomes t.number x → shown_id x ≡ Some id → id < 281474976710656

module _ (script : List Item) (made : AreMade script) (turns : List Turn) (core : Core) (is : IsRunWithCalls script turns core) (fixed : Fixed) (orders : ℕ → Order) (tells : ExplainedCalls (plan_of script) (all_tasks script) core.outcomes fixed (gave_in core) orders core) (ids : AreIdsSmall script core) where
  abbrev Task_ : ℕ → Task → Type 0
  Task_ client t = IsTask (all_tasks script) core.outcomes client t

  abbrev Sent_ : ℕ → Accepted → Type 0
  Sent_ k a = IsSent (plan_of script) (all_tasks script) core.outcomes fixed (gave_in core) orders tells.last k a

  -- a number is one task's
  pub same_task : (c d : ℕ) (t u : Task) → Task_ c t → Task_ d u → t.number ≡ u.number → t ≡ u
  same_task c d t u a b same = (one_task (plan_of script) (all_tasks script) made.are c d t u (a.0, a.1, contains_in a.0 t a.2) (b.0, b.1, contains_in b.0 u b.2) same).1

  pub asked_fits : (client : ℕ) (t : Task) (asked : Asked) → Task_ client t → t.op ≡ ops.Call asked → AskedFits (plan_of script) asked
  asked_fits client t asked it op = let fits = (let are = made.are in are.fit) in let mine : AllByRecursion (TaskFits (plan_of script)) it.0 = all_at (AllByRecursion (TaskFits (plan_of script))) (all_tasks script) it.0 fits (client, it.1) in
      subst (OpFits (plan_of script)) op (all_at (TaskFits (plan_of script)) it.0 t mine (has_from it.0 t it.2)).1

  pub small_call : (client : ℕ) (t : Task) (asked : Asked) (outcome : Outcome) (id n : ℕ) → Task_ client t → t.op ≡ ops.Call asked → Became (all_tasks script) core.outcomes t.number outcome → shown_id outcome ≡ Some id → n ≤ tells.last t.number → IsSmall asked id n
  small_call client t asked outcome id n it op became shows low = let f = asked_fits client t asked it op in let r = f.range_high in let few = (tells.again client t asked it op).0 in let i = ids client t asked outcome id it op became shows in
      record { short = f.short id n; low = omega (arith, i, r, few, low) }

  -- ## What a link took

  module _ (k : ℕ) (low : k < (plan_of script).links) (unsent : (client : ℕ) (t : Task) (name slot version : ℕ) (bytes : List ℕ) → Task_ client t → t.op ≡ ops.Send name bytes → Made (all_tasks script) core.outcomes name k slot version → ⊥) where
    abbrev accepted : List Accepted
    accepted = (orders k).accepted

    abbrev took : List ℕ
    took = took_in_all script turns core is k

    sent_piece : (a : Accepted) → Sent_ k a → IsPiece IsCalled a.bytes
    sent_piece a (OfSend client t name slot version it number op first life untold) = absurd (unsent client t name slot version a.bytes it op life)
    sent_piece a (OfCall client t asked outcome id slot version it number op became shows last bytes life) = let small = small_call client t asked outcome id a.attempt it op (subst (λ n. Became (all_tasks script) core.outcomes n outcome) (sym number) became) shows (let same = ap tells.last number in omega (arith, last, same)) in record {
      frame = request_of asked id a.attempt;
      is = subst (λ b. IsFrame b (request_of asked id a.attempt)) (sym bytes) (request_is asked id a.attempt small);
      holds = record { asked = asked; id = id; attempt = a.attempt; small = small; frame = refl };
    }

    -- all that it accepted is requests
    pieces : AllByRecursion (λ a. IsPiece IsCalled (bytes_of a)) accepted
    pieces = all_from (λ a. IsPiece IsCalled (bytes_of a)) accepted (λ a h. sent_piece a (all_at (Sent_ k) accepted a (tells.sent k low) h))

    placed_pieces : AllByRecursion (λ a. IsPiece IsCalled (bytes_of a)) (take (orders k).placed accepted)
    placed_pieces = by (orders k).placed accepted pieces
      where
        by : (n : ℕ) (xs : List Accepted) → AllByRecursion (λ a. IsPiece IsCalled (bytes_of a)) xs → AllByRecursion (λ a. IsPiece IsCalled (bytes_of a)) (take n xs)
        by zero [] all = tt
        by zero (x ∷ xs) all = tt
        by (suc n) [] all = tt
        by (suc n) (x ∷ xs) all = (all.0, by n xs all.1)

    taken : IsTaken (orders k) took
    taken = (let are = tells.are_orders in are.taken) k low

    whole : (more : List ℕ) × (took ++ more ≡ flat_map bytes_of accepted)
    whole = let n = (orders k).placed in let x = cut_more taken.cut (drop n accepted) taken.is_cut in (
      x.0,
      ap (λ l. l ++ x.0) taken.took_is ∙ (append_assoc (flat_map bytes_of (take n accepted)) taken.cut x.0 ∙ (ap (λ l. flat_map bytes_of (take n accepted) ++ l) x.1
          ∙ (sym (flat_map-append bytes_of (take n accepted) (drop n accepted)) ∙ ap (flat_map bytes_of) (take-append-drop n accepted)))),
    )

    took_called : AllByRecursion IsCalled (stream took).frames
    took_called = all_from IsCalled (stream took).frames (λ f h. all_at IsCalled (stream_from 0 (flat_map bytes_of accepted)).frames f (piece_frames bytes_of IsCalled accepted pieces 0)
        (h.0, subst (λ l. slice_get (stream_from 0 l).frames h.0 ≡ Some f) whole.1 (frames_stay (suc (length took)) 0 took whole.0 h.0 f (omega arith) h.1)))

    -- a placed message is among its frames
    pub request_there : (i : ℕ) (a : Accepted) (f : Frame) → StandsAt orders k i a → i < (orders k).placed → IsFrame a.bytes f → Has (stream took).frames f
    request_there i a f at placed frame = subst (λ l. Has (stream l).frames f) (sym taken.took_is) (piece_has bytes_of IsCalled (take (orders k).placed accepted) placed_pieces a f (i, take_at (orders k).placed accepted i a at placed) frame taken.cut)

    -- where it gave the replies to all that it took, the reply to such a frame is among them
    pub reply_there : (shape : Shape) → shape.end ≡ None → gave_in core k ≡ given_for shape took → (f g : Frame) → Has (stream took).frames f → reply f ≡ Some g → Has (stream (gave_in core k)).frames g
    reply_there shape endless gives f g there is = subst (λ l. Has (stream l).frames g) (append-nil (flat_map frame_bytes (reply_frames took)) ∙ sym all) (piece_has frame_bytes Any (reply_frames took) (replies_whole (stream took).frames took_called) g g
        (has_filter_map reply (stream took).frames f g there is) (let w = all_at IsCalled (stream took).frames f took_called there in (reply_is w.asked w.id w.attempt g w.small (sym (ap reply w.frame) ∙ is)).0) [])
      where
        all : gave_in core k ≡ flat_map frame_bytes (reply_frames took)
        all = gives ∙ ap (λ e. flat_map frame_bytes (first_of e (reply_frames took))) endless

    -- a link without `end` gave no last reply: a request more has one more
    pub never_last : (shape : Shape) → shape.end ≡ None → ((more : List ℕ) → gave_in core k ≡ given_for shape (took ++ more)) → ⊥
    never_last shape endless last = let r = reply_more (stream all).frames (stream one).frames f g there refl in let e = ap length same in let z : ⊥ = omega (arith, r, e) in z
      where
        all : List ℕ
        all = flat_map bytes_of accepted

        one : List ℕ
        one = frame_of tiny 0 0

        f : Frame
        f = request_of tiny 0 0

        g : Frame
        g = reply_to tiny 1

        there : Has (stream one).frames f
        there = subst (λ l. Has (stream l).frames f) (append-nil one) (first_has one [] f (request_is tiny 0 0 tiny_small))

        given_as : (bytes : List ℕ) → given_for shape bytes ≡ flat_map frame_bytes (filter_map reply (stream bytes).frames)
        given_as bytes = ap (λ e. flat_map frame_bytes (first_of e (reply_frames bytes))) endless

        before : gave_in core k ≡ flat_map frame_bytes (filter_map reply (stream all).frames)
        before = last whole.0 ∙ (ap (given_for shape) whole.1 ∙ given_as all)

        behind : gave_in core k ≡ flat_map frame_bytes (filter_map reply ((stream all).frames ++ (stream one).frames))
        behind = last (whole.0 ++ one) ∙ (ap (given_for shape) (sym (append_assoc took whole.0 one) ∙ ap (λ l. l ++ one) whole.1) ∙ (given_as (all ++ one)
            ∙ ap (λ l. flat_map frame_bytes (filter_map reply l)) (frames_then all one (pieces_end bytes_of IsCalled accepted pieces 0))))

        same : flat_map frame_bytes (filter_map reply (stream all).frames) ≡ flat_map frame_bytes (filter_map reply ((stream all).frames ++ (stream one).frames))
        same = sym before ∙ behind
