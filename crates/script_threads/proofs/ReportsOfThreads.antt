-- What the report of a run tells whose links were read beside its clients: answers come from responses that links gave, and no end of a call is shown twice.
use Rattle.std.proofs.Common.{◌≡◌, ℕ, Ok, Err, Result, IfOk, List, [], ◌∷◌, ◌++◌, map, length, replicate, Option, None, refl, sym, ◌∙◌, subst}
use Rattle.std.specs.List.{AllByRecursion, flat_map}
use Rattle.sock_io.specs.declared.link.Out.{Ghosts}
use Rattle.sock_io.specs.LinkHalves.{OutState, InState}
use Rattle.sock_words.specs.declared.outcome.Outcome.{Outcome}
use Rattle.sock_words.specs.declared.place_word.PlaceWord.{PlaceWord}
use Rattle.brpc_model.specs.Items.{Item}
use Rattle.brpc_model.specs.ReturnedLink.{LinkEnd}
use Rattle.brpc_model.specs.Operations.{operations}
use Rattle.brpc_model.specs.Script.{script_of}
use Rattle.seat_programs.specs.Tasks.{plan_of, opens, calls}
use Rattle.rpc_client.specs.declared.acting.Told.{Told}
use Rattle.script_parts.specs.call_whys.specs.call_told.specs.TellersOfCallEnds.{IsFailure, IsOwn, HaveAnswers, AreAnsweredBy}
use Rattle.script_parts.specs.attempts_told.specs.CountedAttempts.{AreAttemptsTold}
use Rattle.script_parts.specs.callless_fits.proofs.CalllessReportFits.{text_is_whole}
use Rattle.script_parts.specs.callless_fits.proofs.EverySendPlaced.{SocketRun}
use Rattle.script_parts.specs.callless_fits.specs.sock_deeds.specs.SocketsTold.{fixed_by}
use Rattle.seat_programs.specs.ScriptSetupToEnding.{all_tasks}
use Rattle.seat_programs.specs.ExplainedCalls.{Fixed, Order}
use Rattle.script_parts.specs.call_whys.specs.call_told.proofs.ToldAnswers.{IsAskedIn, AllHave}
use Rattle.script_parts.specs.call_whys.specs.call_told.proofs.ToldBesideClients.{gave_beside, readers_have, rest_has, answered_beside, answered_gave}
use Rattle.script_parts.specs.call_whys.specs.call_told.proofs.ListElementsByPlace.{all_both}
use Rattle.script_parts.specs.call_whys.specs.call_told.proofs.IdsMadeBySeats.{AllMade}
use Rattle.script_parts.specs.call_whys.specs.call_told.proofs.CallEndShownOnce.{shown_once}
use Rattle.script_parts.specs.callless_fits.specs.sock_deeds.proofs.OrdersOfDeeds.{orders}
use Rattle.script_parts.specs.SeatsOfIdTable.{IdSeat}
use Rattle.script_parts.specs.ThreadScriptTold.{outcomes_of, AreCallsTold}
use Rattle.script_parts.proofs.ReportedAnswers.{failures_have, outcomes_have}
use Rattle.script_parts.proofs.AskedByScriptClients.{AskFor, all_ask, ids_made, notes_of_seats}
use Rattle.script_parts.proofs.ScriptClientsTold.{owns, failures}
use Rattle.script_parts.proofs.ReportOfRun.{long_replicate}
use Rattle.script_parts.proofs.ClientSayingsByNumber.{long_each}
use Rattle.script_parts.proofs.ReportShowsCallsOnce.{view_of, outcomes_few}
use Rattle.script_threads.specs.ServedScriptTold.{IsThreadsRun, IsThreadsText}
use Rattle.script_threads.specs.SocketsOfReadLinks.{AreSocketsTold}
use Rattle.script_threads.proofs.Speaking.{parts_of}
use Rattle.script_threads.proofs.ClientJoins.{joins_told}
use Rattle.script_threads.proofs.LeftByScriptThreads.{early_of, notes_of}
use Rattle.script_threads.proofs.AttemptsOnThreads.{attempts_beside, attempts_last}
use Rattle.script_threads.proofs.FirstAttemptsOnThreads.{AreBegun, begun_beside}
use Rattle.script_threads.proofs.ToldCallsOnThreads.{calls_beside}
use Rattle.script_threads.proofs.SocketsOfReadLinks.{run, differ, fixed, answered_sockets}
use Rattle.script_threads.proofs.ClientsTellingOperations.{told_once}

-- what is told of the sockets of a run whose script was read
abbrev pub socket_run : (bytes : List ℕ) (script : List Item) → script_of bytes ≡ Ok script → (outcomes : List (Option Outcome)) → length outcomes ≡ length (operations script) → {places : List PlaceWord} {gave : ℕ → List ℕ} {ends : List LinkEnd} → AreSocketsTold script outcomes places gave ends → SocketRun
socket_run bytes script reads outcomes long {places} {gave} {ends} told = record {
  bytes = bytes;
  script = script;
  reads = reads;
  outcomes = outcomes;
  broken = told.broken;
  early = told.early;
  fails = told.fails;
  gave = gave;
  orders = told.orders;
  core = told.core;
  long = long;
  tells = told.tells;
}

module _ (P : Type 0) {O I : Type 0} (out : O → OutState) (inn : I → InState) (g : Ghosts O) (script : List Item) (text : List ℕ) (links : List LinkEnd) (r : IsThreadsRun P g out inn script text links) where
  open parts_of r use {p, q, readers, main, outcomes}

  -- ## What its clients told

  own_told : AllByRecursion (λ ts. AllByRecursion IsOwn ts) r.told
  own_told = owns out p q r.left.setup r.left.clients (opens script) r.told r.ended r.left.ran.seats (map view_of r.ids) r.left.ran.ran

  failures_told : AllByRecursion (λ ts. AllByRecursion IsFailure ts) r.ended
  failures_told = failures out p q r.left.setup r.left.clients (opens script) r.told r.ended r.left.ran.seats (map view_of r.ids) r.left.ran.ran

  made_told : AllMade (IsAskedIn (operations script)) (flat_map (λ (s : IdSeat). s.me.0.notes) r.ids)
  made_told = subst (AllMade (IsAskedIn (operations script))) (notes_of_seats view_of r.ids)
      (ids_made (IsAskedIn (operations script)) out p q r.left.setup r.left.clients (opens script) r.told r.ended r.left.ran.seats (map view_of r.ids) r.left.ran.ran (subst (AllByRecursion (AskFor (IsAskedIn (operations script)))) (sym r.left.tasks) (all_ask script)))

  -- ## Its outcomes

  abbrev tellers : List (List Told)
  tellers = r.ended ++ r.read

  abbrev gave : ℕ → List ℕ
  gave = gave_beside p q (calls script) (opens script) readers r.left.readers_are

  have_answers : HaveAnswers (length readers) gave (operations script) outcomes
  have_answers = outcomes_have (length readers) gave (operations script) (plan_of script).operations r.told tellers r.last own_told
      (all_both (AllHave (length readers) gave (operations script)) r.ended r.read (failures_have (length readers) gave (operations script) r.ended failures_told) by_readers)
      (subst (AllHave (length readers) gave (operations script)) (sym r.rest.told_is)
      (rest_has p q (calls script) (opens script) readers r.left.readers_are r.ids main r.rest.last (notes_of r.left r.rest) r.rest.rest (early_of r.left) refl r.rest.words r.rest.closing (operations script) made_told))
    where
      by_readers : AllByRecursion (AllHave (length readers) gave (operations script)) r.read
      by_readers = subst (AllByRecursion (AllHave (length readers) gave (operations script))) r.left.read_is
          (readers_have p q (calls script) (opens script) readers r.left.readers_are r.ids main r.rest.last (notes_of r.left r.rest) r.rest.rest (early_of r.left) refl r.rest.words r.rest.closing (operations script) made_told)

  -- how many attempts its calls made, and why; why each `expire` has its outcome, and why calls failed; and what became of their first attempts
  abbrev AreCalls : Fixed → (ℕ → List ℕ) → (ℕ → Order) → Type 0
  AreCalls fixed given orders = (a : AreAttemptsTold (plan_of script) (all_tasks script) outcomes fixed given orders) × AreCallsTold (plan_of script) (all_tasks script) outcomes fixed given orders a.last links × AreBegun script outcomes fixed given orders

  known : (bytes : List ℕ) (reads : script_of bytes ≡ Ok script) (given : ℕ → List ℕ) → given ≡ gave → AreCalls (fixed P g out inn bytes script reads text links r) given (orders (run P g out inn bytes script reads text links r) (differ P g out inn bytes script reads text links r))
  known bytes reads given is = (
    attempts_beside P g out inn bytes script reads text links r given,
    subst (λ (last : ℕ → ℕ). AreCallsTold (plan_of script) (all_tasks script) outcomes (fixed P g out inn bytes script reads text links r) given (orders (run P g out inn bytes script reads text links r) (differ P g out inn bytes script reads text links r)) last links) (sym (attempts_last P g out inn bytes script reads text links r given)) (calls_beside P g out inn bytes script reads text links r given is),
    begun_beside P g out inn bytes script reads text links r given,
  )

  -- its answers, by what the links gave, and with them why each operation on sockets has its outcome, and what is told of calls
  told_of : (bytes : List ℕ) → script_of bytes ≡ Ok script → (a : AreAnsweredBy (operations script) outcomes links) × (s : AreSocketsTold script outcomes r.places a.gave links) × AreCalls (fixed_by s.broken s.early s.fails) a.gave s.orders
  told_of bytes reads = answered_sockets P g out inn bytes script reads text links r AreCalls (known bytes reads)
      (answered_beside p q (calls script) (opens script) readers r.left.readers_are {I = I} {P = P} out inn r.ends r.halves_read r.unread (operations script) outcomes have_answers)
      (answered_gave p q (calls script) (opens script) readers r.left.readers_are {I = I} {P = P} out inn r.ends r.halves_read r.unread (operations script) outcomes have_answers)

  one_each : length outcomes ≡ length (operations script)
  one_each = long_each (replicate (plan_of script).operations None) ((r.told ++ tellers) ++ r.last ∷ []) ∙ long_replicate (plan_of script).operations None

  -- it has the outcomes and place words of its report
  pub text_of : (bytes : List ℕ) → script_of bytes ≡ Ok script → IsThreadsText script text links
  text_of bytes reads = let both = told_of bytes reads in record {
    outcomes = outcomes;
    places = r.places;
    one_each = one_each;
    reported = r.reported;
    answered = both.0;
    sockets = both.1;
    attempts = both.2.0;
    begun = both.2.2;
    on_calls = both.2.1;
    joins = joins_told P g out inn bytes script reads text links r (fixed_by both.1.broken both.1.early both.1.fails) both.0.gave both.1.orders;
    once = shown_once q.slots outcomes r.told (tellers ++ r.last ∷ []) (outcomes_few (plan_of script).operations r.told tellers r.last) own_told (told_once P g out inn bytes script reads text links r);
    whole = λ callless. text_is_whole (socket_run bytes script reads outcomes one_each both.1) callless r.places both.1.words r.reported.each text r.reported.took links r.reported.report r.reported.told both.1.ends_told;
  }

pub text_if : (P : Type 0) {O I : Type 0} (out : O → OutState) (inn : I → InState) (g : Ghosts O) (bytes : List ℕ) (script : List Item) → script_of bytes ≡ Ok script → (links : List LinkEnd) {T E : Type 0} (items : T → List ℕ) (r : Result T E) → IfOk r (λ t. IsThreadsRun P g out inn script (items t) links) → IfOk r (λ t. IsThreadsText script (items t) links)
text_if P out inn g bytes script reads links items (Ok t) h = text_of P out inn g script (items t) links h bytes reads
text_if P out inn g bytes script reads links items (Err e) h = tt

-- its outcomes are what all told
pub text_outcomes : (P : Type 0) {O I : Type 0} (out : O → OutState) (inn : I → InState) (g : Ghosts O) (script : List Item) (text : List ℕ) (links : List LinkEnd) (r : IsThreadsRun P g out inn script text links) (bytes : List ℕ) (reads : script_of bytes ≡ Ok script)
    → (text_of P out inn g script text links r bytes reads).outcomes ≡ outcomes_of (plan_of script).operations r.told (r.ended ++ r.read) r.last
unfolding text_of
text_outcomes P out inn g script text links r bytes reads = refl
