-- What is reported of a script on threads whose links were served and read beside its clients.
use Rattle.std.specs.Prelude.{ℕ, ◌≡◌, ◌+◌, ◌<◌, true, false, List, [], ◌∷◌, ◌++◌, map, length, Option, IfSome, slice_index}
use Rattle.std.specs.List.{flat_map, AllByRecursion}
use Rattle.sock_words.specs.ErrorCodes.{EEOF}
use Rattle.sock_words.specs.declared.plain.Plan.{Plan}
use Rattle.sock_words.specs.declared.outcome.Outcome.{Outcome}
use Rattle.sock_words.specs.declared.place_word.PlaceWord.{PlaceWord}
use Rattle.sock_words.specs.declared.vref.Vref.{Vref}
use Rattle.brpc_model.specs.Items.{Item}
use Rattle.brpc_model.specs.ReturnedLink.{LinkEnd}
use Rattle.brpc_model.specs.Operations.{operations, link_names}
use Rattle.sock_io.specs.declared.link.Out.{Ghosts}
use Rattle.sock_io.specs.declared.link.Ends.{Ends}
use Rattle.sock_io.specs.LinkHalves.{OutState, InState, end_of}
use Rattle.corr_core.specs.declared.marks.Plan as id_plan
use Rattle.corr_id.specs.ClosingIdLists.{Closing}
use Rattle.sock_message.specs.Asked.{Asked, name_of}
use Rattle.seat_programs.specs.declared.task.Op.TheVariants as ops
use Rattle.seat_programs.specs.declared.task.Task.{Task}
use Rattle.seat_programs.specs.ScriptSetupToEnding.{all_tasks, is_callless}
use Rattle.seat_programs.specs.Tasks.{plan_of, opens, calls}
use Rattle.rpc_client.specs.declared.acting.Told.{Told}
use Rattle.rpc_reader.specs.ReaderBooks.{Books}
use Rattle.rpc_reader.specs.CallsLeftAfterReading.{RestEnded}
use Rattle.prpc_frame.specs.declared.frame.Frame.{Frame}
use Rattle.call_run.specs.ReadersOfLinks.{LinkReader, AreReaders}
use Rattle.call_run.specs.Threads.{ids_of, RanWith}
use Rattle.script_parts.specs.attempts_told.specs.CountedAttempts.{AreAttemptsTold}
use Rattle.script_parts.specs.call_whys.specs.call_told.specs.TellersOfCallEnds.{AreAnsweredBy}
use Rattle.script_parts.specs.call_whys.specs.call_told.specs.ToldOnce.{ShownOnce}
use Rattle.script_parts.specs.callless_fits.specs.sock_deeds.specs.SocketTableRun.{IsOperation}
use Rattle.script_parts.specs.callless_fits.specs.sock_deeds.specs.SocketsTold.{fixed_by}
use Rattle.script_parts.specs.calls_done.specs.FirstAttempts.{FirstAttempt}
use Rattle.script_parts.specs.callless_fits.specs.WholeCalllessReport.{IsWholeText}
use Rattle.script_parts.specs.SeatsOfIdTable.{IdSeat, TookAll}
use Rattle.script_parts.specs.ThreadScriptTold.{outcomes_of, IsReported, AreCallsTold}
use Rattle.script_threads.specs.ClientJoins.{AreJoinsTold}
use Rattle.script_threads.specs.SocketsOfReadLinks.{AreSocketsTold}

-- the sizes of the tables: a seat for each client and the setup, and one for the reader of each link
abbrev pub seated_plan : List Item → Plan
seated_plan script = record (plan_of script) { seats = length (link_names script) + (plan_of script).seats }

-- and those of the table of ids
abbrev pub seated_ids : List Item → id_plan.Plan
seated_ids script = ids_of (seated_plan script) (length (calls script))

-- a reader that has these responses, and told nothing yet, with this seat
abbrev pub begins_with : List Frame → IdSeat → Books
begins_with early s = record { view = s.me.0; early = early; told = []; starved = false }

-- One seat took in all others, and with it each call that was left was ended: by the first of these responses that is one to it, or with 1014. What was told of the calls that ended by that, and what the closed table of ids says
pub record HasEnded (p : id_plan.Plan) (operations : List ℕ) (seats : List IdSeat) (early : List Frame) (told : List Told) : Type 0 where
  pub main : IdSeat
  pub took : TookAll seats main
  pub last : Books
  pub rest : RestEnded p EEOF operations (begins_with early main) last
  pub told_is : told ≡ last.told
  pub calm : last.starved ≡ false
  -- the last words of the id slots
  pub words : List ℕ
  pub closing : Closing p last.view.notes last.view.kept words
  -- each is a word of 64 bits
  pub low : (i : ℕ) → slice_index words i < 18446744073709551616

-- the clients of the script left this, and the readers that read its links beside them: what they told of their own operations and of the calls that they ended, the responses that the readers keep, the place words, and their seats of the ids
pub record IsLeftByThreads {O : Type 0} (g : Ghosts O) (out : O → OutState) (script : List Item) (told ended read : List (List Told)) (kept : List (List Frame)) (places : List PlaceWord) (seats behind : List IdSeat) : Type 0 where
  pub setup : List Task
  pub clients : List (List Task)
  pub tasks : setup ∷ clients ≡ all_tasks script
  pub vrefs : List Vref
  pub outs : List O
  pub readers : List (LinkReader g)
  pub ran : RanWith g out readers (seated_plan script) (length (calls script)) setup clients (opens script) told ended places vrefs outs (map (λ (s : IdSeat). s.me.0) seats)
  pub readers_are : AreReaders (seated_plan script) (seated_ids script) (calls script) 0 (opens script) readers
  pub behind_is : map (λ (x : LinkReader g). x.ids) readers ≡ behind
  pub read_is : map (λ (x : LinkReader g). x.books.told) readers ≡ read
  pub kept_is : map (λ (x : LinkReader g). x.books.early) readers ≡ kept

-- the reading half had given nothing before its reader took it
abbrev pub HadGivenNone : {O : Type 0} {g : Ghosts O} → LinkReader g → Type 0
HadGivenNone x = (x.before.gave ≡ 0) × IfSome x.before.gave_bytes (λ bytes. bytes ≡ [])

-- The script was run: its clients on threads, and beside them each link was served and read. By what the clients and the readers told, and by what was told of the calls that were left then, the text reports what became of its operations, over the links that were given back.
pub record IsThreadsRun (P : Type 0) {O I : Type 0} (g : Ghosts O) (out : O → OutState) (inn : I → InState) (script : List Item) (text : List ℕ) (links : List LinkEnd) : Type 0 where
  pub told : List (List Told)
  pub ended : List (List Told)
  pub read : List (List Told)
  pub kept : List (List Frame)
  pub places : List PlaceWord
  pub ids : List IdSeat
  pub behind : List IdSeat
  pub left : IsLeftByThreads g out script told ended read kept places ids behind
  -- the links as they are given back: with the writing halves that came back, and the reading halves as their readers left them
  pub ends : List (Ends O I P)
  pub halves : map (λ (e : Ends O I P). e.out) ends ≡ left.outs
  pub halves_read : map (λ (x : LinkReader g). x.behind) left.readers ≡ map (λ (e : Ends O I P). inn e.inn) ends
  pub unread : AllByRecursion HadGivenNone left.readers
  pub last : List Told
  pub rest : HasEnded (seated_ids script) (calls script) (ids ++ behind) (flat_map (λ (fs : List Frame). fs) kept) last
  pub given_back : links ≡ map (λ (e : Ends O I P). end_of (out e.out) (inn e.inn)) ends
  pub reported : IsReported script text (outcomes_of (plan_of script).operations told (ended ++ read) last) places links

-- it is the report of outcomes and place words of this script, over the links that were given back
pub record IsThreadsText (script : List Item) (text : List ℕ) (ends : List LinkEnd) : Type 0 where
  pub outcomes : List (Option Outcome)
  pub places : List PlaceWord
  pub one_each : length outcomes ≡ length (operations script)
  pub reported : IsReported script text outcomes places ends
  -- each answer among them is that of a call, and a whole response to it that one of these links gave
  pub answered : AreAnsweredBy (operations script) outcomes ends
  -- each operation on sockets has its cause; and the links took what the clients sent
  pub sockets : AreSocketsTold script outcomes places answered.gave ends
  -- no call made more attempts than it may; and each message that a link accepted is that of a `send` of which nothing is said, or of an attempt of a call, with the id that the call's outcome shows
  pub attempts : AreAttemptsTold (plan_of script) (all_tasks script) outcomes (fixed_by sockets.broken sockets.early sockets.fails) answered.gave sockets.orders
  -- the first attempt of each call was accepted by a link, or the call became unopened, or a link of its name was failing, or each request may have been found taken
  pub begun : (c o : ℕ) (asked : Asked) → IsOperation (all_tasks script) outcomes c o (ops.Call asked) → FirstAttempt (plan_of script) (all_tasks script) outcomes (fixed_by sockets.broken sockets.early sockets.fails) answered.gave sockets.orders o (name_of asked 0)
  -- each `expire` has its cause, and so has each call that failed: also one that whoever read its link ended, by which link's end or fault; and each attempt behind another
  pub on_calls : AreCallsTold (plan_of script) (all_tasks script) outcomes (fixed_by sockets.broken sockets.early sockets.fails) answered.gave sockets.orders attempts.last ends
  -- and each `join` has its cause
  pub joins : AreJoinsTold (plan_of script) (all_tasks script) outcomes (fixed_by sockets.broken sockets.early sockets.fails) answered.gave sockets.orders
  -- no two operations have the end of one call as their outcome, of those whose ids are in the slots that the calls of the script have
  pub once : ShownOnce (length (calls script)) outcomes
  -- without calls the report fits, with nothing late, whatever the links gave; and where nothing went wrong, and no link with the server gave anything, every send is placed
  pub whole : is_callless script ≡ true → IsWholeText script text answered.gave ends
