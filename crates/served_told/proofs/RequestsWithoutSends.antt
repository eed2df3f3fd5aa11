-- What a link took to which no `send` is are the requests of calls, so what it gave for that are the replies to them: whole frames, and a reply with a version of a call is that to the call's own request.
use Rattle.std.proofs.Common.{◌≡◌, ℕ, zero, suc, ◌+◌, ◌<◌, ◌≤◌, List, [], ◌∷◌, ◌++◌, length, take, drop, flat_map, slice_get, slice_index_or, Option, Some, None, append-nil, append_assoc, ⊎_elim, refl, sym, ap, ◌∙◌, subst, arith}
use Rattle.std.proofs.lemmas.Grind.{flat_map-append}
use Rattle.std.proofs.lemmas.List.{take-append-drop}
use Rattle.std.specs.List.{AllByRecursion}
use mathlib.Core.Logic.{dite}
use native.Mathlib.Decide.{ℕ_discrete}
use Rattle.sock_words.specs.declared.outcome.Outcome.{Outcome}
use Rattle.brpc_model.specs.LinkFailureCauses.{HasFault}
use Rattle.brpc_model.specs.Frame.{Frame, IsFrame, frame_bytes}
use Rattle.brpc_model.specs.Items.{Item, Shape}
use Rattle.brpc_model.specs.MessageOfLabel.{shown_id}
use Rattle.brpc_model.specs.Operations.{operations}
use Rattle.brpc_model.specs.Reply.{reply, reply_frames}
use Rattle.brpc_model.specs.ServedForTakenBytes.{first_of, given_for}
use Rattle.brpc_model.specs.FrameStream.{Rest, Fault, stream, stream_from}
use Rattle.served_calls.specs.Below.script_facts.proofs.FilteredLists.{Has, all_at, all_from, all_map, filter_map_has, has_filter_map, some_is}
use Rattle.served_calls.specs.Below.script_facts.proofs.TaskLemmas.{asks_at, task_is}
use Rattle.sock_message.specs.Asked.{Asked, request_of, frame_of}
use Rattle.seat_programs.specs.declared.task.Op.TheVariants as ops
use Rattle.seat_programs.specs.declared.task.Task.{Task}
use Rattle.seat_programs.specs.Cores.{Core}
use Rattle.seat_programs.specs.ScriptSetupToEnding.{all_tasks, took_at_home}
use Rattle.seat_programs.specs.Tasks.{plan_of}
use Rattle.seat_programs.specs.Explained.{AreTasks, IsTask, Became, Made}
use Rattle.seat_programs.specs.ExplainedCalls.{Accepted, Order, Fixed, AreOrders, IsTaken, StandsAt, IsSent, OfSend, OfCall, bytes_of}
use Rattle.failed_told.specs.attempts_told.specs.CountedAttempts.{AreAttemptsTold}
use Rattle.served_calls.specs.Below.call_stories.proofs.StreamFramesStay.{frames_stay}
use Rattle.served_calls.specs.served_runs.specs.ServedLinks.{request_with}
use Rattle.served_calls.specs.served_runs.proofs.WholeFrameStreams.{IsPiece, piece_frames, pieces_end, IsSmall, request_is, reply_is}
use Rattle.served_calls.specs.served_runs.proofs.OwnReplies.{cut_more}
use Rattle.served_calls.specs.served_runs.proofs.AttemptRequestFrames.{IsRequestOf}
use Rattle.served_calls.proofs.ReplyFrames.{take_at, piece_has, reply_to}
use Rattle.served_told.specs.ServedLinksTelling.{ShowSmallIds, HaveOwnVersions}
use Rattle.served_told.proofs.MessagePlaces.{asked_fits}

-- what holds of all holds of the first
all_take : {A : Type 0} (P : A → Type 0) (n : ℕ) (xs : List A) → AllByRecursion P xs → AllByRecursion P (take n xs)
all_take P zero [] all = tt
all_take P zero (x ∷ xs) all = tt
all_take P (suc n) [] all = tt
all_take P (suc n) (x ∷ xs) all = (all.0, all_take P n xs all.1)

all_first : (P : Frame → Type 0) (end : Option ℕ) (frames : List Frame) → AllByRecursion P frames → AllByRecursion P (first_of end frames)
all_first P None frames all = all
all_first P (Some n) frames all = all_take P n frames all

module _ (script : List Item) (are : AreTasks (plan_of script) (all_tasks script)) (outcomes : List (Option Outcome)) (fixed : Fixed) (gave : ℕ → List ℕ) (orders : ℕ → Order) (core : Core) (are_orders : AreOrders (plan_of script) core orders)
    (attempts : AreAttemptsTold (plan_of script) (all_tasks script) outcomes fixed gave orders) (ids : ShowSmallIds outcomes) where
  abbrev Task_ : ℕ → Task → Type 0
  Task_ client t = IsTask (all_tasks script) outcomes client t

  abbrev Became_ : ℕ → Outcome → Type 0
  Became_ i x = Became (all_tasks script) outcomes i x

  abbrev Sent_ : ℕ → Accepted → Type 0
  Sent_ k a = IsSent (plan_of script) (all_tasks script) outcomes fixed gave orders attempts.last k a

  -- ## Requests

  -- the frame is the request of an attempt that was made of a call, with the id that the call's outcome shows
  abbrev pub IsRequest : Frame → Type 0
  IsRequest f = IsRequestOf (all_tasks script) outcomes attempts.last f

  -- such an attempt, whose frame is its request
  made_small : (client : ℕ) (t : Task) (asked : Asked) (outcome : Outcome) (id attempt : ℕ) → Task_ client t → t.op ≡ ops.Call asked → Became_ t.number outcome → shown_id outcome ≡ Some id → attempt ≤ attempts.last t.number → IsSmall asked id attempt
  made_small client t asked outcome id attempt it op became shows low =
      let fits = asked_fits script are outcomes client t it asked op in
      let last = attempts.few client t asked it op in
      let range = fits.range_high in
      let below = ids t.number id outcome became shows in
      record { short = fits.short id attempt; low = omega (arith, below, range, last, low) }

  made_piece : (client : ℕ) (t : Task) (asked : Asked) (outcome : Outcome) (id attempt : ℕ) → Task_ client t → t.op ≡ ops.Call asked → Became_ t.number outcome → shown_id outcome ≡ Some id → attempt ≤ attempts.last t.number → IsPiece IsRequest (frame_of asked id attempt)
  made_piece client t asked outcome id attempt it op became shows low =
      let last = attempts.few client t asked it op in
      let small = made_small client t asked outcome id attempt it op became shows low in
      record {
        frame = request_of asked id attempt;
        is = request_is asked id attempt small;
        holds = record { client = client; task = t; asked = asked; outcome = outcome; id = id; attempt = attempt; is_task = it; op = op; became = became; shows = shows; tried = low; few = omega (arith, last, low); small = small; frame = refl };
      }

  same_call : (c d : ℕ) (t u : Task) (a b : Asked) → Task_ c t → Task_ d u → t.op ≡ ops.Call a → u.op ≡ ops.Call b → t.number ≡ u.number → a ≡ b
  same_call c d t u a b is_t is_u op_t op_u number =
      let x = task_is script outcomes c t is_t in
      let y = task_is script outcomes d u is_u in
      let same = some_is x.operation y.operation (sym x.there ∙ (ap (slice_get (operations script)) number ∙ y.there)) in
      let both : Some (ops.Call a) ≡ Some (ops.Call b) = sym (x.asks ∙ ap (λ o. Some o) op_t) ∙ (ap (λ n. asks_at script n x.operation) number ∙ (ap (asks_at script u.number) same ∙ (y.asks ∙ ap (λ o. Some o) op_u))) in
      cc

  -- an operation shows one id
  same_id : (i j id jd : ℕ) (x y : Outcome) → Became_ i x → Became_ j y → shown_id x ≡ Some id → shown_id y ≡ Some jd → i ≡ j → id ≡ jd
  same_id i j id jd x y at bt shows also same =
      let one : x ≡ y = some_is x y (some_is (Some x) (Some y) (sym at ∙ (ap (slice_get outcomes) same ∙ bt))) in
      some_is id jd (sym shows ∙ (ap shown_id one ∙ also))

  -- ## A link to which no `send` is

  module _ (k : ℕ) (low : k < (plan_of script).links) (unsent : (client : ℕ) (t : Task) (name slot version : ℕ) (bytes : List ℕ) → Task_ client t → t.op ≡ ops.Send name bytes → Made (all_tasks script) outcomes name k slot version → ⊥) where
    abbrev accepted : List Accepted
    accepted = (orders k).accepted

    -- what it took
    abbrev pub took : List ℕ
    took = slice_index_or (took_at_home (plan_of script) core.homes) k []

    -- each message that it accepted is a request
    sent_piece : (a : Accepted) → Sent_ k a → IsPiece IsRequest a.bytes
    sent_piece a (OfSend client t name slot version it number op first life untold) = absurd (unsent client t name slot version a.bytes it op life)
    sent_piece a (OfCall client t asked outcome id slot version it number op became shows last bytes life) =
        let tried : a.attempt ≤ attempts.last t.number = (let same = ap attempts.last number in omega (arith, same, last)) in
        subst (IsPiece IsRequest) (sym bytes) (made_piece client t asked outcome id a.attempt it op (subst (λ n. Became_ n outcome) (sym number) became) shows tried)

    pub pieces : AllByRecursion (λ a. IsPiece IsRequest (bytes_of a)) accepted
    pieces = all_map (Sent_ k) (λ a. IsPiece IsRequest (bytes_of a)) sent_piece accepted (attempts.sent k low)

    taken : IsTaken (orders k) took
    taken = are_orders.taken k low

    -- what it took is the front of all that it accepted
    pub whole : (more : List ℕ) × (took ++ more ≡ flat_map bytes_of accepted)
    whole = let n = (orders k).placed in let x = cut_more taken.cut (drop n accepted) taken.is_cut in (
      x.0,
      ap (λ l. l ++ x.0) taken.took_is ∙ (append_assoc (flat_map bytes_of (take n accepted)) taken.cut x.0 ∙ (ap (λ l. flat_map bytes_of (take n accepted) ++ l) x.1
          ∙ (sym (flat_map-append bytes_of (take n accepted) (drop n accepted)) ∙ ap (flat_map bytes_of) (take-append-drop n accepted)))),
    )

    -- so each whole frame of that is a request
    took_requests : AllByRecursion IsRequest (stream took).frames
    took_requests = all_from IsRequest (stream took).frames (λ f h. all_at IsRequest (stream_from 0 (flat_map bytes_of accepted)).frames f (piece_frames bytes_of IsRequest accepted pieces 0)
        (h.0, subst (λ l. slice_get (stream_from 0 l).frames h.0 ≡ Some f) whole.1 (frames_stay (suc (length took)) 0 took whole.0 h.0 f (omega arith) h.1)))

    -- and each placed message is such a frame
    request_there : (i : ℕ) (a : Accepted) (f : Frame) → StandsAt orders k i a → i < (orders k).placed → IsFrame a.bytes f → Has (stream took).frames f
    request_there i a f at placed frame = subst (λ l. Has (stream l).frames f) (sym taken.took_is)
        (piece_has bytes_of IsRequest (take (orders k).placed accepted) (all_take (λ x. IsPiece IsRequest (bytes_of x)) (orders k).placed accepted pieces) a f (i, take_at (orders k).placed accepted i a at placed) frame taken.cut)

    -- ## Replies

    pub record IsReplied (g : Frame) : Type 0 where
      pub request : Frame
      pub made : IsRequest request
      pub replied : reply request ≡ Some g

    of_request : (f g : Frame) (r : IsRequest f) → reply f ≡ Some g → IsFrame (frame_bytes g) g × (g.meta.correlation_id ≡ r.id + r.attempt + 1)
    of_request f g r e = reply_is r.asked r.id r.attempt g r.small (sym (ap reply r.frame) ∙ e)

    replied_all : AllByRecursion (λ g. IsPiece IsReplied (frame_bytes g)) (reply_frames took)
    replied_all = all_from (λ g. IsPiece IsReplied (frame_bytes g)) (reply_frames took) (λ g h.
        let w = filter_map_has reply (stream took).frames g h in let made = all_at IsRequest (stream took).frames w.0 took_requests w.1 in
        record { frame = g; is = (of_request w.0 g made w.2).0; holds = record { request = w.0; made = made; replied = w.2 } })

    module _ (shape : Shape) where
      abbrev replies : List Frame
      replies = first_of shape.end (reply_frames took)

      replied_first : AllByRecursion (λ g. IsPiece IsReplied (frame_bytes g)) replies
      replied_first = all_first (λ g. IsPiece IsReplied (frame_bytes g)) shape.end (reply_frames took) replied_all

      -- each frame of what is given for what it took is the reply to one
      pub replied_at : (n : ℕ) (frame : Frame) → slice_get (stream (given_for shape took)).frames n ≡ Some frame → IsReplied frame
      replied_at n frame stands = all_at IsReplied (stream_from 0 (given_for shape took)).frames frame (piece_frames frame_bytes IsReplied replies replied_first 0) (n, stands)

      -- and it has no fault
      pub faultless : HasFault (given_for shape took) → ⊥
      faultless fault = let z : Rest 0 ≡ Fault fault.0 fault.1 = sym (pieces_end frame_bytes IsReplied replies replied_first 0) ∙ fault.2 in cc

      -- without `end` the reply to each is given
      reply_given : shape.end ≡ None → (f g : Frame) → Has (stream took).frames f → reply f ≡ Some g → Has (stream (given_for shape took)).frames g
      reply_given endless f g there is =
          let made = all_at IsRequest (stream took).frames f took_requests there in
          subst (λ l. Has (stream l).frames g) (append-nil (flat_map frame_bytes (reply_frames took)) ∙ ap (λ e. flat_map frame_bytes (first_of e (reply_frames took))) (sym endless))
          (piece_has frame_bytes IsReplied (reply_frames took) replied_all g g (has_filter_map reply (stream took).frames f g there is) (of_request f g made is).0 [])

    -- ## Of one call

    module _ (id client : ℕ) (t : Task) (asked : Asked) (outcome : Outcome) (it : Task_ client t) (op : t.op ≡ ops.Call asked) (became : Became_ t.number outcome) (shows : shown_id outcome ≡ Some id) where
      -- the frame is the reply to the request of an attempt that was made of this call
      pub record IsOwnReply (frame : Frame) : Type 0 where
        pub attempt : ℕ
        pub tried : attempt ≤ attempts.last t.number
        pub with_id : frame.meta.correlation_id ≡ id + attempt + 1
        pub replied : reply (request_with asked frame.meta.correlation_id) ≡ Some frame

      -- so is each reply with a version of the call
      pub own_reply : HaveOwnVersions (all_tasks script) outcomes → (frame : Frame) → IsReplied frame → id < frame.meta.correlation_id → frame.meta.correlation_id < id + asked.range → IsOwnReply frame
      own_reply apart frame r above below =
          let m = r.made in
          let few = m.few in
          let tried = m.tried in
          let with_id : frame.meta.correlation_id ≡ m.id + m.attempt + 1 = (of_request r.request frame m r.replied).1 in
          dite (ℕ_discrete t.number m.task.number)
          (λ same.
          let a = same_call client m.client t m.task asked m.asked it m.is_task op m.op same in
          let i = same_id t.number m.task.number id m.id outcome m.outcome became m.became shows m.shows same in
          let last = ap attempts.last same in
          record {
            attempt = m.attempt;
            tried = omega (arith, tried, last);
            with_id = omega (arith, with_id, i);
            replied = ap reply (ap (λ (z : Asked). request_with z frame.meta.correlation_id) a ∙ (ap (request_with m.asked) with_id ∙ sym m.frame)) ∙ r.replied;
          })
          (λ far. absurd (⊎_elim (λ z. let z' : ⊥ = omega (arith, z, below, with_id, few) in z') (λ z. let z' : ⊥ = omega (arith, z, above, with_id, few) in z')
          (apart client m.client t m.task asked m.asked outcome m.outcome id m.id it m.is_task op m.op became m.became shows m.shows far)))

      -- the message of an attempt of this call is its request
      own_frame : (a : Accepted) → Sent_ k a → a.operation ≡ t.number → IsFrame a.bytes (request_with asked (id + a.attempt + 1))
      own_frame a (OfSend c u name slot version is_u number op_u first life untold) same = absurd (unsent c u name slot version a.bytes is_u op_u life)
      own_frame a (OfCall c u b x j slot version is_u number op_u came also last bytes life) same =
          let tried : a.attempt ≤ attempts.last u.number = (let e = ap attempts.last number in omega (arith, e, last)) in
          let small = made_small c u b x j a.attempt is_u op_u (subst (λ n. Became_ n x) (sym number) came) also tried in
          let one = same_call c client u t b asked is_u it op_u op (number ∙ same) in
          let ids_ = same_id a.operation t.number j id x outcome came became also shows same in
          subst (λ (z : List ℕ). IsFrame z (request_with asked (id + a.attempt + 1))) (sym bytes) (subst (λ (z : ℕ). IsFrame (frame_of b j a.attempt) (request_with asked (z + a.attempt + 1))) ids_
          (subst (λ (z : Asked). IsFrame (frame_of b j a.attempt) (request_with z (j + a.attempt + 1))) one (request_is b j a.attempt small)))

      -- without `end` the reply to each such message that is placed is given
      pub placed_reply : (shape : Shape) → shape.end ≡ None → (i : ℕ) (a : Accepted) → StandsAt orders k i a → i < (orders k).placed → a.operation ≡ t.number → (n : ℕ) × (frame : Frame) × (slice_get (stream (given_for shape took)).frames n ≡ Some frame) × (reply (request_with asked (id + a.attempt + 1)) ≡ Some frame)
      placed_reply shape endless i a at placed same =
          let is = own_frame a (all_at (Sent_ k) accepted a (attempts.sent k low) (i, at)) same in
          let g = reply_to asked (id + a.attempt + 1) in
          let w = reply_given shape endless (request_with asked (id + a.attempt + 1)) g (request_there i a (request_with asked (id + a.attempt + 1)) at placed is) refl in
          (w.0, g, w.1, refl)
