-- How many attempts the calls of a script made whose links were read beside its clients, and whose the messages are that its links accepted.
use Rattle.std.proofs.Common.{◌≡◌, ◌≢◌, ℕ, ◌+◌, ◌<◌, ◌≤◌, ◌⊎◌, List, ◌++◌, flat_map, map, Some, Ok, refl, sym, ap, ◌∙◌, subst, arith}
use Rattle.std.specs.List.{AllByRecursion}
use mathlib.Core.Option.{some}
use lib.ListN.{get_elem?}
use Rattle.sock_io.specs.declared.link.Out.{Ghosts}
use Rattle.sock_io.specs.LinkHalves.{OutState, InState}
use Rattle.sock_words.specs.ErrorCodes.{EEOF}
use Rattle.sock_words.specs.declared.outcome.Outcome.{Outcome}
use Rattle.brpc_model.specs.Items.{Item}
use Rattle.brpc_model.specs.ReturnedLink.{LinkEnd}
use Rattle.brpc_model.specs.MessageOfLabel.{shown_id}
use Rattle.brpc_model.specs.Script.{script_of}
use Rattle.corr_core.specs.IdSlotLaw.{is_attempt}
use Rattle.corr_core.specs.declared.marks.Noted.{Noted}
use Rattle.corr_core.specs.declared.marks.View.{View}
use Rattle.script_parts.specs.id_rule.specs.LawfulIdTable.{notes_of}
use Rattle.sock_message.specs.Asked.{Asked}
use Rattle.seat_programs.specs.sock_model.specs.declared.chain.Entry.{Entry}
use Rattle.seat_programs.specs.declared.task.Op.TheVariants as ops
use Rattle.seat_programs.specs.declared.task.Task.{Task}
use Rattle.seat_programs.specs.ScriptSetupToEnding.{all_tasks}
use Rattle.seat_programs.specs.Tasks.{plan_of, opens, calls}
use Rattle.seat_programs.specs.Explained.{IsTask, Became}
use Rattle.seat_programs.specs.ExplainedCalls.{Accepted, Order, Fixed, StandsAt, IsSent}
use Rattle.call_run.specs.ReadersOfLinks.{LinkReader}
use Rattle.script_parts.specs.attempts_told.specs.CountedAttempts.{last_attempt, AreAttemptsTold}
use Rattle.script_parts.specs.attempts_told.proofs.ReadingKeepsAttempts.{rest_unmoved, readers_advance}
use Rattle.script_parts.specs.attempts_told.proofs.AttemptsOfCallsTold.{attempts_told, last_told}
use Rattle.script_parts.specs.call_whys.proofs.CallVersionsDistinct.{AreIds}
use Rattle.script_parts.specs.call_whys.specs.call_deeds.specs.RetriedCalls.{all_asked}
use Rattle.script_parts.specs.call_whys.specs.call_deeds.proofs.Ran.{AreLater}
use Rattle.script_parts.specs.call_whys.specs.call_places.proofs.ClientPlaces.{Client, total_map}
use Rattle.script_parts.specs.call_whys.specs.call_places.proofs.IdsOfRetries.{IsIdOf}
use Rattle.script_parts.specs.call_whys.specs.call_places.proofs.CallPlaceOrders.{all as all_clients}
use Rattle.script_parts.specs.call_whys.specs.call_places.proofs.Still.{advances}
use Rattle.script_parts.specs.call_whys.specs.call_told.proofs.ToldBesideClients.{made_beside}
use Rattle.script_parts.specs.call_whys.specs.call_told.proofs.IdsMadeBySeats.{AllMade}
use Rattle.script_parts.specs.call_whys.specs.call_told.proofs.ToldByReaders.{each_read}
use Rattle.script_parts.specs.callless_fits.specs.sock_deeds.specs.MessagesLeftByRun.{accepted_of}
use Rattle.script_parts.specs.callless_fits.specs.sock_deeds.proofs.OrdersOfDeeds.{orders, entry_on}
use Rattle.corr_id.proofs.IdSeatSplits.{total_append}
use Rattle.script_parts.specs.SeatsOfIdTable.{IdSeat}
use Rattle.script_parts.proofs.AskedByScriptClients.{ids_made, notes_of_seats}
use Rattle.script_parts.proofs.EachOperationHasOutcome.{each_called}
use Rattle.script_parts.proofs.IdsOfCalls.{IsOfCall, all_of_calls}
use Rattle.script_parts.proofs.IdsOfCalls as numbers
use Rattle.script_parts.proofs.RetriesOfLaterAttempts as laters
use Rattle.script_parts.proofs.MayCall.{IsOwnTask, all_own}
use Rattle.script_parts.proofs.PlacedSends.{each_notes}
use Rattle.script_parts.proofs.ReportShowsCallsOnce.{view_of, flat_mapped}
use Rattle.script_threads.specs.ServedScriptTold.{IsThreadsRun}
use Rattle.script_threads.proofs.Speaking.{parts_of}
use Rattle.script_threads.proofs.LeftByScriptThreads.{all_seats, notes_of as notes_taken}
use Rattle.script_threads.proofs.PlacedOperations.{left_told}
use Rattle.script_threads.proofs.SocketsOfReadLinks as sockets
use Rattle.script_threads.proofs.Widened.{still_attempts}
use Rattle.sock_words.specs.Totals.{total}

module _ (P : Type 0) {O I : Type 0} (g : Ghosts O) (out : O → OutState) (inn : I → InState) (bytes : List ℕ) (script : List Item) (reads : script_of bytes ≡ Ok script) (text : List ℕ) (links : List LinkEnd) (r : IsThreadsRun P g out inn script text links) where
  open parts_of r use {p, q, all, readers, last, outcomes}

  abbrev by_link : ℕ → Order
  by_link = orders (sockets.run P g out inn bytes script reads text links r) (sockets.differ P g out inn bytes script reads text links r)

  abbrev fixed : Fixed
  fixed = sockets.fixed P g out inn bytes script reads text links r

  -- ## Ids

  -- each id was made for a call of one of the clients
  made : AllMade (IsOfCall all) last.notes
  made =
      let owns = subst (AllByRecursion (AllByRecursion IsOwnTask)) (sym r.left.tasks) (all_own script) in
      made_beside p q (calls script) (opens script) readers r.left.readers_are r.ids (parts_of r).main r.rest.last (notes_taken r.left r.rest) r.rest.rest (IsOfCall all)
      (subst (AllMade (IsOfCall all)) (notes_of_seats view_of r.ids)
      (ids_made (IsOfCall all) out p q r.left.setup r.left.clients (opens script) r.told r.ended r.left.ran.seats (map view_of r.ids) r.left.ran.ran (all_of_calls all owns)))

  pub are_ids : AreIds q last.notes last.kept r.rest.words r.rest.closing all outcomes
  are_ids = numbers.are_ids r.left.ran script r.left.tasks (sockets.are P g out inn bytes script reads text links r) (sockets.may P g out inn bytes script reads text links r) last r.rest.words r.rest.closing r.rest.low (sockets.have P g out inn bytes script reads text links r) made
      (r.ended ++ r.read) r.last (sockets.end_told P g out inn bytes script reads text links r)

  two : (c : ℕ) (t : Task) (asked : Asked) → IsTask all outcomes c t → t.op ≡ ops.Call asked → 2 ≤ asked.range
  two = numbers.two r.left.ran script r.left.tasks (sockets.are P g out inn bytes script reads text links r) (sockets.may P g out inn bytes script reads text links r) last r.rest.words r.rest.closing r.rest.low (sockets.have P g out inn bytes script reads text links r) made
      (r.ended ++ r.read) r.last (sockets.end_told P g out inn bytes script reads text links r)

  -- what became of a call for which an id was made shows that
  shown : (o id : ℕ) → IsIdOf q.slots last.notes o id → (by : Outcome) × Became all outcomes o by × (shown_id by ≡ Some id)
  shown = numbers.shown r.left.ran script r.left.tasks (sockets.are P g out inn bytes script reads text links r) (sockets.may P g out inn bytes script reads text links r) last r.rest.words r.rest.closing r.rest.low (sockets.have P g out inn bytes script reads text links r) made
      (r.ended ++ r.read) r.last (sockets.end_told P g out inn bytes script reads text links r)
      (each_called g out script p q r.told (r.ended ++ r.read) r.places r.last (left_told g out bytes script reads r.told r.ended r.read r.kept r.places r.ids r.behind r.left r.last r.rest))

  -- no two calls have a version in common
  pub calls_apart : (c d : ℕ) (t u : Task) (a b : Asked) (x y : Outcome) (i j : ℕ) → IsTask all outcomes c t → IsTask all outcomes d u → t.op ≡ ops.Call a → u.op ≡ ops.Call b → Became all outcomes t.number x → Became all outcomes u.number y
      → shown_id x ≡ Some i → shown_id y ≡ Some j → t.number ≢ u.number → (i + a.range ≤ j) ⊎ (j + b.range ≤ i)
  calls_apart = numbers.calls_apart r.left.ran script r.left.tasks (sockets.are P g out inn bytes script reads text links r) (sockets.may P g out inn bytes script reads text links r) last r.rest.words r.rest.closing r.rest.low (sockets.have P g out inn bytes script reads text links r) made
      (r.ended ++ r.read) r.last (sockets.end_told P g out inn bytes script reads text links r)

  -- ## Attempts

  -- none but the clients advanced one
  pub own : (i f n : ℕ) → total (is_attempt f n) (notes_of i last.notes) ≤ total (λ (v : View Asked). advances i f n v) (map view_of r.ids)
  own i f n =
      let h : IdSeat → ℕ = λ x. advances i f n x.me.0 in let seats : List IdSeat = all_seats r.left in let behind : List IdSeat = map (λ (x : LinkReader g). x.ids) readers in
      let a : total (is_attempt f n) (notes_of i last.notes) ≡ total (is_attempt f n) (notes_of i r.rest.main.me.0.notes) = rest_unmoved EEOF q (calls script) (parts_of r).main r.rest.last r.rest.rest i f n in
      let b = ap (λ (l : List (Noted Asked)). total (is_attempt f n) (notes_of i l)) (notes_taken r.left r.rest ∙ flat_mapped view_of (λ (v : View Asked). v.notes) seats) in
      let c : total (is_attempt f n) (notes_of i (flat_map (λ (v : View Asked). v.notes) (map view_of seats))) ≡ total h seats = each_notes i (is_attempt f n) (map view_of seats) ∙ total_map (λ (v : View Asked). advances i f n v) view_of seats in
      let both : total h seats ≡ total h r.ids + total h behind = total_append h r.ids behind in
      let none_ : total h behind ≡ 0 = total_map h (λ (x : LinkReader g). x.ids) readers ∙ readers_advance p q (calls script) readers (each_read p q (calls script) 0 (opens script) readers r.left.readers_are) i f n in
      let own_ : total (λ (v : View Asked). advances i f n v) (map view_of r.ids) ≡ total h r.ids = total_map (λ (v : View Asked). advances i f n v) view_of r.ids in omega (arith, a, b, c, both, none_, own_)

  pub later : (j : ℕ) (c : Client g out p q) → get_elem? (all_clients r.left.ran) j ≡ some c → AreLater all outcomes (all_asked c.thread c.is)
  later = laters.crew_later r.left.ran last r.rest.words r.rest.closing (sockets.have P g out inn bytes script reads text links r) outcomes (sockets.made P g out inn bytes script reads text links r)

  -- each message that a link accepted is in the log of the run
  logged : (k i : ℕ) (a : Accepted) → StandsAt by_link k i a → (e : Entry) × (accepted_of e ≡ a) × (m : ℕ) × (get_elem? r.left.ran.closed.ordered.log m ≡ some e)
  logged k i a at = let w = entry_on (sockets.run P g out inn bytes script reads text links r) (sockets.differ P g out inn bytes script reads text links r) k i a at in (w.0, w.2, w.3, w.4)

  module _ (given : ℕ → List ℕ) where
    its : AreAttemptsTold p all outcomes fixed given by_link
    its = attempts_told r.left.ran outcomes (sockets.may P g out inn bytes script reads text links r) last.notes last.kept r.rest.words r.rest.closing (sockets.have P g out inn bytes script reads text links r) own later are_ids.made two are_ids.one
        fixed given by_link (sockets.core P g out inn bytes script reads text links r) (sockets.tells P g out inn bytes script reads text links r given) logged shown

    -- the last attempt is the greatest to which the id of a call advanced
    its_last : its.last ≡ last_attempt last.notes
    unfolding its
    its_last = last_told r.left.ran outcomes (sockets.may P g out inn bytes script reads text links r) last.notes last.kept r.rest.words r.rest.closing (sockets.have P g out inn bytes script reads text links r) own later are_ids.made two are_ids.one
        fixed given by_link (sockets.core P g out inn bytes script reads text links r) (sockets.tells P g out inn bytes script reads text links r given) logged shown

    abbrev IsFew : List (List Task) → (ℕ → ℕ) → Type 0
    IsFew tasks last_of = (client : ℕ) (u : Task) (asked : Asked) → IsTask tasks outcomes client u → u.op ≡ ops.Call asked → last_of u.number + 2 ≤ asked.range

    abbrev AreSent : List (List Task) → (ℕ → ℕ) → Type 0
    AreSent tasks last_of = (k : ℕ) → k < p.links → AllByRecursion (IsSent p tasks outcomes fixed given by_link last_of k) (by_link k).accepted

    of_script : AreAttemptsTold p (all_tasks script) outcomes fixed given by_link
    of_script = record {
      last = last_attempt last.notes;
      few = subst (λ (l : List (List Task)). IsFew l (last_attempt last.notes)) r.left.tasks (subst (IsFew all) its_last its.few);
      sent = subst (λ (l : List (List Task)). AreSent l (last_attempt last.notes)) r.left.tasks (subst (AreSent all) its_last its.sent);
    }

    pub attempts_beside : AreAttemptsTold (plan_of script) (all_tasks script) outcomes fixed given by_link
    attempts_beside = still_attempts (plan_of script) p.seats (all_tasks script) outcomes fixed given by_link of_script

    pub attempts_last : attempts_beside.last ≡ last_attempt last.notes
    unfolding attempts_beside of_script
    attempts_last = refl
