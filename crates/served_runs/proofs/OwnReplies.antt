-- Each response of a call's versions that a link with the server gave is the reply to the call's own request, where no `send` is to its socket: the link took whole requests of calls, and no two calls have a version in common.
use Rattle.std.proofs.Common.{◌≡◌, ℕ, zero, suc, ◌+◌, ◌/◌, ◌<◌, ◌≤◌, List, [], ◌∷◌, ◌++◌, length, take, drop, map, flat_map, filter_map, slice_get, Option, Some, None, append-nil, append_assoc, inl, inr, ⊎_elim, refl, sym, ap, ◌∙◌, subst, arith}
use Rattle.std.proofs.lemmas.Grind.{flat_map-append}
use Rattle.std.proofs.lemmas.List.{take-append-drop}
use Rattle.std.specs.List.{AllByRecursion, cons_option}
use Rattle.std.specs.Prelude.{slice_index_or}
use mathlib.Core.Logic.{dite}
use native.Mathlib.Decide.{ℕ_discrete}
use Rattle.sock_words.specs.declared.outcome.Outcome.{Outcome}
use Rattle.sock_words.specs.declared.outcome.Outcome.TheVariants as outcomes
use Rattle.brpc_model.specs.Frame.{Frame, IsFrame, frame_bytes}
use Rattle.brpc_model.specs.Items.{Item, Shape}
use Rattle.brpc_model.specs.MessageOfLabel.{shown_id}
use Rattle.brpc_model.specs.Operations.{Turn}
use Rattle.brpc_model.specs.Order.{IsCut}
use Rattle.brpc_model.specs.Reply.{reply, reply_frames}
use Rattle.brpc_model.specs.ServedForTakenBytes.{first_of, given_for}
use Rattle.brpc_model.specs.LinkFailureCauses.{HasFault}
use Rattle.brpc_model.specs.FrameStream.{Rest, Fault, stream, stream_from}
use Rattle.calm_runs.specs.send_causes.specs.Below.script_facts.proofs.ReadScriptFacts.{InRange}
use Rattle.calm_runs.specs.send_causes.specs.Below.script_facts.proofs.Targets.{AreThere}
use Rattle.sock_message.specs.Asked.{Asked, request_of}
use Rattle.seat_programs.specs.declared.task.Op.TheVariants as ops
use Rattle.seat_programs.specs.declared.task.Task.{Task}
use Rattle.seat_programs.specs.Cores.{Core}
use Rattle.seat_programs.specs.Tasks.{plan_of, id_plan_of}
use Rattle.seat_programs.specs.Explained.{AskedFits, OpFits, TaskFits, IsTask, Became, Made}
use Rattle.seat_programs.specs.ExplainedCalls.{Accepted, IsTaken, IsSent, OfSend, OfCall, bytes_of}
use Rattle.seat_programs.specs.ScriptSetupToEnding.{all_tasks, took_at_home, IsRunWithCalls}
use Rattle.calm_runs.specs.send_causes.specs.Below.outcome_stories.proofs.Members.{contains_in}
use Rattle.calm_runs.specs.send_causes.specs.Below.outcome_ticks.proofs.TableTasksDistinct.{one_task}
use Rattle.calm_runs.specs.send_causes.specs.Below.joint_runs.proofs.RunsOfBothTables.{AreMade}
use Rattle.calm_runs.specs.send_causes.specs.Below.call_owing.specs.LivesOfLinks.{ClosesInRun}
use Rattle.calm_runs.specs.send_causes.specs.Below.call_stories.specs.LinkReadingLists.{gave_in, attempts_of_run}
use Rattle.calm_runs.specs.send_causes.specs.Below.call_stories.specs.Scenes.{Scene, WhyOwn}
use Rattle.calm_runs.specs.send_causes.specs.Below.story_steps.proofs.StoryAtRunEnd.{call_of, shows_own}
use Rattle.calm_runs.specs.send_causes.specs.Below.call_causes.proofs.Posted.{run_few_attempts}
use Rattle.calm_runs.specs.send_causes.specs.Below.call_stories.proofs.StreamFramesStay.{frames_stay, faults_more}
use Rattle.calm_runs.specs.send_causes.specs.Below.call_causes.proofs.WholeCallStory.{run_has_story, run_has_ended, run_told_in_part}
use Rattle.calm_runs.specs.send_causes.specs.Below.attempted_calls.proofs.AttemptedRun.{attempted_of_run}
use Rattle.calm_runs.specs.send_causes.specs.Below.sent_once.proofs.OtherTasksBesideCalls.{fixed_of_run, orders_here}
use Rattle.calm_runs.specs.send_causes.specs.Below.accept_counts.proofs.EarlyClosedSockets.{known}
use Rattle.calm_runs.specs.send_causes.specs.Below.sent_once.proofs.SocketOperationsTold.{orders_are}
use Rattle.served_runs.proofs.AttemptRequestFrames.{IsRequestOf}
use Rattle.served_runs.specs.ServedLinks.{request_with}
use Rattle.served_runs.proofs.WholeFrameStreams.{IsPiece, piece_frames, pieces_end, IsSmall, request_is, reply_is}
use Rattle.calm_runs.specs.send_causes.specs.Below.script_facts.proofs.FilteredLists.{all_map}
use Rattle.calm_runs.specs.send_causes.specs.Below.outcome_stories.specs.OperationStories.{In}

-- ## Lists

get_all : {A : Type 0} (P : A → Type 0) (xs : List A) → AllByRecursion P xs → (i : ℕ) (x : A) → slice_get xs i ≡ Some x → P x
get_all P [] all i x e = absurd (cc)
get_all P (y ∷ ys) all zero x e = let z : Some y ≡ Some x = e in let same : y ≡ x = cc in subst P same all.0
get_all P (y ∷ ys) all (suc i) x e = get_all P ys all.1 i x e

all_get : {A : Type 0} (P : A → Type 0) (xs : List A) → ((i : ℕ) (x : A) → slice_get xs i ≡ Some x → P x) → AllByRecursion P xs
all_get P [] each = tt
all_get P (x ∷ xs) each = (each 0 x refl, all_get P xs (λ i y e. each (suc i) y e))

all_take : {A : Type 0} (P : A → Type 0) (n : ℕ) (xs : List A) → AllByRecursion P xs → AllByRecursion P (take n xs)
all_take P zero [] all = tt
all_take P zero (x ∷ xs) all = tt
all_take P (suc n) [] all = tt
all_take P (suc n) (x ∷ xs) all = (all.0, all_take P n xs all.1)

all_in : {A : Type 0} (P : A → Type 0) (xs : List A) (x : A) → AllByRecursion P xs → In x xs → P x
all_in P [] x all m = absurd m
all_in P (y ∷ ys) x all (inl e) = subst P (sym e) all.0
all_in P (y ∷ ys) x all (inr m) = all_in P ys x all.1 m

-- what a link took is the front of all that it accepted
pub cut_more : (cut : List ℕ) (next : List Accepted) → IsCut cut (map bytes_of next) → (more : List ℕ) × (cut ++ more ≡ flat_map bytes_of next)
cut_more cut [] e = ([], append-nil cut ∙ e)
cut_more cut (a ∷ rest) (more, some_, e) = (more ++ flat_map bytes_of rest, sym (append_assoc cut more (flat_map bytes_of rest)) ∙ ap (λ l. l ++ flat_map bytes_of rest) e)

module _ (script : List Item) (made : AreMade script) (there : AreThere script) (range : AllByRecursion InRange script) (turns : List Turn) (core : Core) (is : IsRunWithCalls script turns core) (closes : ClosesInRun script turns core is) where
  abbrev Task_ : ℕ → Task → Type 0
  Task_ client t = IsTask (all_tasks script) core.outcomes client t

  -- ## Ids

  shows_none : (w : Scene) (c : ℕ) (before : List Task) (asked : Asked) (x : Outcome) (i : ℕ) → WhyOwn (plan_of script) (id_plan_of script) (all_tasks script) (gave_in core) w c before (ops.Call asked) x → shown_id x ≡ Some i → ⊥
  shows_none w c before asked outcomes.Unopened i why is = let z : None ≡ Some i = is in cc
  shows_none w c before asked _ i why is = absurd why

  -- an id that an outcome shows is one of the table
  pub id_small : (client : ℕ) (t : Task) (asked : Asked) (x : Outcome) (id : ℕ) → Task_ client t → t.op ≡ ops.Call asked → Became (all_tasks script) core.outcomes t.number x → shown_id x ≡ Some id → id < 281474976710656
  id_small client t asked x id it op became shows = let h = run_has_story script made there range turns core is in let ended = run_has_ended script made there range turns core is closes in
      ⊎_elim (λ s. absurd (shows_none h.scene client s.0 asked x id s.1 shows))
      (λ b. let births = ended.births in let low = (births.born (record { id = b.0; asked = asked }) b.1).0 in
      let same = shows_own (plan_of script) (id_plan_of script) (all_tasks script) (gave_in core) h.scene h.marks ended (record { id = b.0; asked = asked }) x id b.2 shows in
      let few = (let k = known script made turns core is in k.narrow) in let l : b.0 / 4294967296 < (id_plan_of script).slots = low in omega (arith, l, few, same))
      (call_of (plan_of script) (id_plan_of script) (all_tasks script) (gave_in core) h.scene h.marks ended client t asked x (subst (λ (d : Core). IsTask (all_tasks script) d.outcomes client t) (sym h.is) it) op
      (subst (λ (d : Core). Became (all_tasks script) d.outcomes t.number x) (sym h.is) became))

  -- ## Requests

  pub asked_fits : (client : ℕ) (t : Task) (asked : Asked) → Task_ client t → t.op ≡ ops.Call asked → AskedFits (plan_of script) asked
  asked_fits client t asked it op = let fits = (let are = made.are in are.fit) in let mine : AllByRecursion (TaskFits (plan_of script)) it.0 = get_all (AllByRecursion (TaskFits (plan_of script))) (all_tasks script) fits client it.0 it.1 in
      subst (OpFits (plan_of script)) op (all_in (TaskFits (plan_of script)) it.0 t mine (contains_in it.0 t it.2)).1

  -- the frame is the request of an attempt of a call
  abbrev pub IsRequest : Frame → Type 0
  IsRequest f = IsRequestOf (all_tasks script) core.outcomes (attempts_of_run script turns core is) f

  module _ (k : ℕ) (low : k < (plan_of script).links) (unsent : (client : ℕ) (t : Task) (name slot version : ℕ) (bytes : List ℕ) → Task_ client t → t.op ≡ ops.Send name bytes → Made (all_tasks script) core.outcomes name k slot version → ⊥) where
    abbrev accepted : List Accepted
    accepted = (orders_here script made turns core is closes k).accepted

    -- each message that the link accepted is one
    sent_piece : (a : Accepted) → IsSent (plan_of script) (all_tasks script) core.outcomes (fixed_of_run script made turns core is closes) (gave_in core) (orders_here script made turns core is closes) (attempts_of_run script turns core is) k a → IsPiece IsRequest a.bytes
    sent_piece a (OfSend client t name slot version it number op first life untold) = absurd (unsent client t name slot version a.bytes it op life)
    sent_piece a (OfCall client t asked outcome id slot version it number op became shows last bytes life) = record {
      frame = request_of asked id a.attempt;
      is = subst (λ b. IsFrame b (request_of asked id a.attempt)) (sym bytes) (request_is asked id a.attempt small);
      holds = record { client = client; task = t; asked = asked; outcome = outcome; id = id; attempt = a.attempt; is_task = it; op = op; became = became'; shows = shows; few = few; tried = tried; small = small; frame = refl };
    }
      where
        became' : Became (all_tasks script) core.outcomes t.number outcome
        became' = subst (λ n. Became (all_tasks script) core.outcomes n outcome) (sym number) became

        few : a.attempt + 2 ≤ asked.range
        few = let n = run_few_attempts script made there range turns core is client t asked it op in let same = ap (attempts_of_run script turns core is) number in omega (arith, n, same, last)

        tried : a.attempt ≤ attempts_of_run script turns core is t.number
        tried = let same = ap (attempts_of_run script turns core is) number in omega (arith, same, last)

        small : IsSmall asked id a.attempt
        small = let f = asked_fits client t asked it op in record { short = f.short id a.attempt; low = (let i = id_small client t asked outcome id it op became' shows in let r = f.range_high in omega (arith, i, r, few)) }

    abbrev took : List ℕ
    took = slice_index_or (took_at_home (plan_of script) core.homes) k []

    -- so is each whole frame that it took
    took_requests : AllByRecursion IsRequest (stream took).frames
    took_requests = all_get IsRequest (stream took).frames (λ i f e. get_all IsRequest (stream_from 0 (flat_map bytes_of accepted)).frames
        (piece_frames bytes_of IsRequest accepted (all_map (IsSent (plan_of script) (all_tasks script) core.outcomes (fixed_of_run script made turns core is closes) (gave_in core) (orders_here script made turns core is closes) (attempts_of_run script turns core is) k) (λ a. IsPiece IsRequest (bytes_of a))
        sent_piece accepted (attempted_of_run script made there range turns core is closes (fixed_of_run script made turns core is closes) (gave_in core) k low)) 0) i f
        (subst (λ l. slice_get (stream_from 0 l).frames i ≡ Some f) whole.1 (frames_stay (suc (length took)) 0 took whole.0 i f (omega arith) e)))
      where
        taken : IsTaken (orders_here script made turns core is closes k) took
        taken = (let are = orders_are script made turns core is closes in are.taken) k low

        whole : (more : List ℕ) × (took ++ more ≡ flat_map bytes_of accepted)
        whole = let n = (orders_here script made turns core is closes k).placed in let x = cut_more taken.cut (drop n accepted) taken.is_cut in (
          x.0,
          ap (λ l. l ++ x.0) taken.took_is ∙ (append_assoc (flat_map bytes_of (take n accepted)) taken.cut x.0 ∙ (ap (λ l. flat_map bytes_of (take n accepted) ++ l) x.1
              ∙ (sym (flat_map-append bytes_of (take n accepted) (drop n accepted)) ∙ ap (flat_map bytes_of) (take-append-drop n accepted)))),
        )

    -- ## Replies

    pub record IsReplied (g : Frame) : Type 0 where
      pub request : Frame
      pub made_so : IsRequest request
      pub replied : reply request ≡ Some g

    replied_all : (fs : List Frame) → AllByRecursion IsRequest fs → AllByRecursion IsReplied (filter_map reply fs)
    replied_all [] all = tt
    replied_all (f ∷ fs) all = by (reply f) refl (replied_all fs all.1)
      where
        by : (o : Option Frame) → reply f ≡ o → AllByRecursion IsReplied (filter_map reply fs) → AllByRecursion IsReplied (cons_option o (filter_map reply fs))
        by None e rest = rest
        by (Some g) e rest = (record { request = f; made_so = all.0; replied = e }, rest)

    of_request : (f g : Frame) (r : IsRequest f) → reply f ≡ Some g → IsFrame (frame_bytes g) g × (g.meta.correlation_id ≡ r.id + r.attempt + 1)
    of_request f g r e = reply_is r.asked r.id r.attempt g r.small (sym (ap reply r.frame) ∙ e)

    first_replied : (end : Option ℕ) (gs : List Frame) → AllByRecursion IsReplied gs → AllByRecursion IsReplied (first_of end gs)
    first_replied None gs all = all
    first_replied (Some n) gs all = all_take IsReplied n gs all

    -- it gave the front of those replies
    module _ (shape : Shape) (more : List ℕ) (gives : gave_in core k ++ more ≡ given_for shape took) where
      pieces : AllByRecursion (λ g. IsPiece IsReplied (frame_bytes g)) (first_of shape.end (reply_frames took))
      pieces = all_map IsReplied (λ g. IsPiece IsReplied (frame_bytes g)) (λ g r. record { frame = g; is = (of_request r.request g r.made_so r.replied).0; holds = r }) (first_of shape.end (reply_frames took))
          (first_replied shape.end (reply_frames took) (replied_all (stream took).frames took_requests))

      pub replied_at : (n : ℕ) (frame : Frame) → slice_get (stream (gave_in core k)).frames n ≡ Some frame → IsReplied frame
      replied_at n frame stands = get_all IsReplied (stream_from 0 (given_for shape took)).frames (piece_frames frame_bytes IsReplied (first_of shape.end (reply_frames took)) pieces 0) n frame
          (subst (λ l. slice_get (stream_from 0 l).frames n ≡ Some frame) gives (frames_stay (suc (length (gave_in core k))) 0 (gave_in core k) more n frame (omega arith) stands))

      pub faultless : HasFault (gave_in core k) → ⊥
      faultless fault = let f = subst HasFault gives (faults_more (gave_in core k) more fault) in let z : Rest 0 ≡ Fault f.0 f.1 = sym (pieces_end frame_bytes IsReplied (first_of shape.end (reply_frames took)) pieces 0) ∙ f.2 in cc

    -- ## Of one call

    same_call : (c d : ℕ) (t u : Task) (a b : Asked) → Task_ c t → Task_ d u → t.op ≡ ops.Call a → u.op ≡ ops.Call b → t.number ≡ u.number → a ≡ b
    same_call c d t u a b is_t is_u op_t op_u number = let one = (one_task (plan_of script) (all_tasks script) made.are c d t u (is_t.0, is_t.1, contains_in is_t.0 t is_t.2) (is_u.0, is_u.1, contains_in is_u.0 u is_u.2) number).1 in
        let two : ops.Call a ≡ ops.Call b = sym op_t ∙ (ap (λ (x : Task). x.op) one ∙ op_u) in cc

    pub own_reply : (n id client : ℕ) (frame : Frame) (t : Task) (asked : Asked) (outcome : Outcome) → IsReplied frame → Task_ client t → t.op ≡ ops.Call asked → Became (all_tasks script) core.outcomes t.number outcome → shown_id outcome ≡ Some id
        → id < frame.meta.correlation_id → frame.meta.correlation_id < id + asked.range → reply (request_with asked frame.meta.correlation_id) ≡ Some frame
    own_reply n id client frame t asked outcome replied it op became shows above below = by replied
      where
        by : IsReplied frame → reply (request_with asked frame.meta.correlation_id) ≡ Some frame
        by r = dite (ℕ_discrete t.number r.made_so.task.number)
            (λ same. let a = same_call client r.made_so.client t r.made_so.task asked r.made_so.asked it r.made_so.is_task op r.made_so.op same in
            ap reply (ap (λ (z : Asked). request_with z frame.meta.correlation_id) a ∙ (ap (request_with r.made_so.asked) with_id ∙ sym r.made_so.frame)) ∙ r.replied)
            (λ far. absurd (⊎_elim (λ z. let f = r.made_so.few in let z' : ⊥ = omega (arith, z, below, with_id, f) in z') (λ z. let f = r.made_so.few in let z' : ⊥ = omega (arith, z, above, with_id, f) in z')
            ((run_told_in_part script made there range turns core is closes (fixed_of_run script made turns core is closes) (orders_here script made turns core is closes)).versions client r.made_so.client t r.made_so.task asked r.made_so.asked outcome r.made_so.outcome id r.made_so.id it r.made_so.is_task op r.made_so.op
            became r.made_so.became shows r.made_so.shows far)))
          where
            with_id : frame.meta.correlation_id ≡ r.made_so.id + r.made_so.attempt + 1
            with_id = (of_request r.request frame r.made_so r.replied).1
