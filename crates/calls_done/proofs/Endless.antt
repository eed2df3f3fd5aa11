-- A link with the server that took requests of calls alone gives no end without `end`: to one request more there is one reply more.
use Rattle.std.proofs.Common.{◌≡◌, ℕ, ◌<◌, List, [], ◌++◌, length, flat_map, filter_map, slice_get, slice_index_or, Some, None, Ok, append-nil, append_assoc, refl, sym, ap, ◌∙◌, subst, arith}
use Rattle.std.specs.Prelude.{Option, Contains}
use Rattle.std.specs.List.{AllByRecursion}
use Rattle.sock_words.specs.declared.outcome.Outcome.{Outcome}
use Rattle.brpc_model.specs.Frame.{Frame, frame_bytes}
use Rattle.brpc_model.specs.Items.{Item, Shape, Send}
use Rattle.brpc_model.specs.Operations.{link_names}
use Rattle.brpc_model.specs.Reply.{reply, reply_frames}
use Rattle.brpc_model.specs.Script.{script_of}
use Rattle.brpc_model.specs.ServedForTakenBytes.{first_of, given_for}
use Rattle.brpc_model.specs.FrameStream.{stream}
use Rattle.callless_fits.specs.sock_deeds.specs.script_facts.proofs.FilteredLists.{Has}
use Rattle.callless_fits.specs.sock_deeds.specs.script_facts.proofs.ReadScriptTasks.{tasks_of_script}
use Rattle.sock_message.specs.Asked.{Asked, request_of, frame_of}
use Rattle.seat_programs.specs.declared.task.Op.TheVariants as ops
use Rattle.seat_programs.specs.declared.task.Task.{Task}
use Rattle.seat_programs.specs.Cores.{Core}
use Rattle.seat_programs.specs.ScriptSetupToEnding.{all_tasks, took_at_home}
use Rattle.seat_programs.specs.Tasks.{plan_of}
use Rattle.seat_programs.specs.Explained.{AreTasks, IsTask, Made}
use Rattle.seat_programs.specs.ExplainedCalls.{Accepted, Order, Fixed, AreOrders, bytes_of}
use Rattle.served_told.specs.failed_told.specs.attempts_told.specs.CountedAttempts.{AreAttemptsTold}
use Rattle.served_told.specs.ServedLinksTelling.{ShowSmallIds}
use Rattle.served_told.proofs.RequestsWithoutSends.{IsRequest, pieces, whole}
use Rattle.served_told.specs.served_calls.proofs.ReplyFrames.{frames_then, first_has, reply_more, reply_to}
use Rattle.served_told.specs.served_calls.specs.served_runs.proofs.WholeFrameStreams.{IsPiece, pieces_end, IsSmall, request_is}
use Rattle.served_told.specs.served_calls.specs.served_runs.proofs.Model.{unsent_of}

-- ## One request more

-- a call as small as any
abbrev tiny : Asked
tiny = record { operation = 0; names = []; service = []; method = []; payload = []; attachment = []; range = 2 }

tiny_small : IsSmall tiny 0 0
tiny_small = record { short = omega arith; low = omega arith }

abbrev one : List ℕ
one = frame_of tiny 0 0

one_there : Has (stream one).frames (request_of tiny 0 0)
one_there = subst (λ l. Has (stream l).frames (request_of tiny 0 0)) (append-nil one) (first_has one [] (request_of tiny 0 0) (request_is tiny 0 0 tiny_small))

given_as : (shape : Shape) → shape.end ≡ None → (bytes : List ℕ) → given_for shape bytes ≡ flat_map frame_bytes (filter_map reply (stream bytes).frames)
given_as shape endless bytes = ap (λ e. flat_map frame_bytes (first_of e (reply_frames bytes))) endless

-- what is given for the front of such messages isn't what is given however they go on
never_last : (P : Frame → Type 0) (shape : Shape) → shape.end ≡ None → (accepted : List Accepted) → AllByRecursion (λ a. IsPiece P (bytes_of a)) accepted → (took front : List ℕ) → took ++ front ≡ flat_map bytes_of accepted → (gave : List ℕ) → ((more : List ℕ) → gave ≡ given_for shape (took ++ more)) → ⊥
never_last P shape endless accepted made took front whole_is gave last =
    let r = reply_more (stream all).frames (stream one).frames (request_of tiny 0 0) (reply_to tiny 1) one_there refl in
    let e = ap length (sym before ∙ behind) in let z : ⊥ = omega (arith, r, e) in z
  where
    all : List ℕ
    all = flat_map bytes_of accepted

    before : gave ≡ flat_map frame_bytes (filter_map reply (stream all).frames)
    before = last front ∙ (ap (given_for shape) whole_is ∙ given_as shape endless all)

    behind : gave ≡ flat_map frame_bytes (filter_map reply ((stream all).frames ++ (stream one).frames))
    behind = last (front ++ one) ∙ (ap (given_for shape) (sym (append_assoc took front one) ∙ ap (λ l. l ++ one) whole_is) ∙ (given_as shape endless (all ++ one)
        ∙ ap (λ l. flat_map frame_bytes (filter_map reply l)) (frames_then all one (pieces_end bytes_of P accepted made 0))))

-- ## A link to which no `send` is

module _ (bytes : List ℕ) (script : List Item) (reads : script_of bytes ≡ Ok script) (outcomes : List (Option Outcome)) (fixed : Fixed) (gave : ℕ → List ℕ) (orders : ℕ → Order) (core : Core) (are_orders : AreOrders (plan_of script) core orders)
    (attempts : AreAttemptsTold (plan_of script) (all_tasks script) outcomes fixed gave orders) (small : ShowSmallIds outcomes) (k : ℕ) (low : k < (plan_of script).links) (unnamed : (name sent : List ℕ) → Contains script (Send name sent) → slice_get (link_names script) k ≡ Some name → ⊥) where
  are : AreTasks (plan_of script) (all_tasks script)
  are = tasks_of_script bytes script reads

  unsent : (client : ℕ) (t : Task) (name slot version : ℕ) (sent : List ℕ) → IsTask (all_tasks script) outcomes client t → t.op ≡ ops.Send name sent → Made (all_tasks script) outcomes name k slot version → ⊥
  unsent = unsent_of script outcomes k unnamed

  -- what it took
  abbrev pub took_here : List ℕ
  took_here = slice_index_or (took_at_home (plan_of script) core.homes) k []

  -- is the front of all that it accepted, so what it gave can't be what the server gives for that and whatever might follow
  pub no_last : (shape : Shape) → shape.end ≡ None → (given : List ℕ) → ((more : List ℕ) → given ≡ given_for shape (took_here ++ more)) → ⊥
  no_last shape endless given last =
      let w = whole script are outcomes fixed gave orders core are_orders attempts small k low unsent in
      never_last (IsRequest script are outcomes fixed gave orders core are_orders attempts small) shape endless (orders k).accepted
      (pieces script are outcomes fixed gave orders core are_orders attempts small k low unsent) took_here w.0 w.1 given last
