-- What the clients of a script told is what became of their operations, where its links were read beside them; and what their seats keep in mind.
use Rattle.std.proofs.Common.{◌≡◌, ℕ, List, [], ◌∷◌, ◌++◌, flat_map, map, Ok, refl, sym, ap, ◌∙◌, subst}
use mathlib.Core.Option.{some}
use lib.ListN.{get_elem?}
use Rattle.sock_io.specs.declared.link.Out.{Ghosts}
use Rattle.sock_io.specs.LinkHalves.{OutState, InState}
use Rattle.sock_words.specs.ErrorCodes.{EEOF}
use Rattle.sock_words.specs.declared.outcome.Outcome.TheVariants as outcome
use Rattle.brpc_model.specs.Items.{Item}
use Rattle.brpc_model.specs.ReturnedLink.{LinkEnd}
use Rattle.brpc_model.specs.Script.{script_of}
use Rattle.corr_core.specs.declared.marks.View.{View}
use Rattle.sock_message.specs.Asked.{Asked}
use Rattle.seat_programs.specs.declared.task.Task.{Task}
use Rattle.seat_programs.specs.Tasks.{opens, calls}
use Rattle.seat_programs.specs.Explained.{Became}
use Rattle.rpc_client.specs.declared.acting.Told.{Told}
use Rattle.call_run.specs.ReadersOfLinks.{LinkReader}
use Rattle.script_parts.specs.call_whys.specs.call_told.specs.Least.{HasBegun}
use Rattle.script_parts.specs.call_whys.specs.call_told.specs.ToldOnce.{ToldOnce}
use Rattle.script_parts.specs.call_whys.specs.call_told.proofs.ToldBesideClients.{once_beside}
use Rattle.script_parts.specs.call_whys.specs.call_told.proofs.GrowingCallNotes.{own_at}
use Rattle.script_parts.specs.call_whys.specs.call_told.proofs.ToldByReaders.{each_read, readers_own}
use Rattle.script_parts.specs.call_whys.specs.call_told.proofs.Tallies.{rest_accounts}
use Rattle.script_parts.specs.call_whys.specs.expire_told.specs.ExpireOutcomesSaid.{AreSaid, AreOfCalls, HaveKeptOf}
use Rattle.script_parts.specs.call_whys.specs.expire_told.proofs.OperationWordStorers.{have_kept, have_without}
use Rattle.script_parts.specs.callless_fits.specs.sock_deeds.proofs.ListPlaces.{map_append}
use Rattle.script_parts.specs.callless_fits.specs.sock_deeds.proofs.Flats.{append_first}
use Rattle.script_parts.specs.SeatsOfIdTable.{IdSeat}
use Rattle.script_parts.proofs.ScriptClientsTold.{balanced}
use Rattle.script_parts.proofs.ExpireAsksForCall.{expire_calls}
use Rattle.script_parts.proofs.IdsOfCalls as numbers
use Rattle.script_parts.proofs.ReportShowsCallsOnce.{view_of, flat_mapped}
use Rattle.script_parts.proofs.SocketsOfCallScript.{map_twice}
use Rattle.script_parts.proofs.Tellers as tellers
use Rattle.script_threads.specs.ServedScriptTold.{IsThreadsRun}
use Rattle.script_threads.proofs.Speaking.{parts_of}
use Rattle.script_threads.proofs.LeftByScriptThreads.{all_seats, early_of, notes_of, kept_of}
use Rattle.script_threads.proofs.SocketsOfReadLinks as sockets
use Rattle.sock_words.specs.Totals.{total}

module _ (P : Type 0) {O I : Type 0} (g : Ghosts O) (out : O → OutState) (inn : I → InState) (bytes : List ℕ) (script : List Item) (reads : script_of bytes ≡ Ok script) (text : List ℕ) (links : List LinkEnd) (r : IsThreadsRun P g out inn script text links) where
  open parts_of r use {p, q, all, readers, main, last, outcomes}

  -- ## What is kept in mind

  abbrev behind : List IdSeat
  behind = map (λ (x : LinkReader g). x.ids) readers

  pub taken : main.view.kept ≡ flat_map (λ (v : View Asked). v.kept) (map view_of r.ids ++ map view_of behind)
  taken = kept_of r.left r.rest ∙ (flat_mapped view_of (λ (v : View Asked). v.kept) (all_seats r.left) ∙ ap (flat_map (λ (v : View Asked). v.kept)) (map_append view_of r.ids behind))

  -- readers stored nothing
  none_stored : (place : ℕ) → total (λ (v : View Asked). total (own_at place) v.kept) (map view_of behind) ≡ 0
  none_stored place = ap (total (λ (v : View Asked). total (own_at place) v.kept)) (sym (map_twice (λ (x : LinkReader g). x.ids) view_of readers))
      ∙ readers_own p q (calls script) readers (each_read p q (calls script) 0 (opens script) readers r.left.readers_are) place

  pub keeps : HaveKeptOf (map view_of r.ids) last.kept
  keeps = have_without (map view_of r.ids) (map view_of behind) last.kept none_stored (have_kept (map view_of r.ids ++ map view_of behind) main.view last taken (rest_accounts EEOF q (calls script) main r.rest.last r.rest.rest).grows)

  -- ## What is told

  pub of_calls : AreOfCalls all outcomes
  of_calls = subst (λ (l : List (List Task)). AreOfCalls l outcomes) (sym r.left.tasks) (expire_calls bytes script reads outcomes)

  pub told_once : ToldOnce q.slots ((r.ended ++ r.read) ++ r.last ∷ [])
  told_once = subst (λ (t : List Told). ToldOnce q.slots ((r.ended ++ r.read) ++ t ∷ [])) (sym r.rest.told_is)
      (subst (λ (l : List (List Told)). ToldOnce q.slots ((r.ended ++ l) ++ r.rest.last.told ∷ [])) r.left.read_is
      (once_beside p q (calls script) (opens script) readers r.left.readers_are r.ids main r.rest.last (notes_of r.left r.rest) r.rest.rest (early_of r.left) refl r.rest.words r.rest.closing r.ended (kept_of r.left r.rest) r.rest.calm
      (balanced out p q r.left.setup r.left.clients (opens script) r.told r.ended r.left.ran.seats (map view_of r.ids) r.left.ran.ran)))

  pub said : AreSaid outcomes r.told
  said c i ts t at there = tellers.said r.left.ran script r.left.tasks (sockets.are P g out inn bytes script reads text links r) last.notes (sockets.have P g out inn bytes script reads text links r) (r.ended ++ r.read) r.last (sockets.end_told P g out inn bytes script reads text links r) c i ts t at there

  -- what a client told of a call that it ended is what became of it
  pub said_ended : AreSaid outcomes r.ended
  said_ended c i ts t at there =
      let e = tellers.ended_told r.left.ran script r.left.tasks (sockets.are P g out inn bytes script reads text links r) last r.rest.words r.rest.closing (sockets.have P g out inn bytes script reads text links r) c i ts t at there in
      numbers.end_became r.left.ran script r.left.tasks (sockets.are P g out inn bytes script reads text links r) (sockets.may P g out inn bytes script reads text links r) last.notes (sockets.have P g out inn bytes script reads text links r) (r.ended ++ r.read) r.last
      (sockets.end_told P g out inn bytes script reads text links r) told_once c i ts t (append_first (r.ended ++ r.read) (r.last ∷ []) c ts (append_first r.ended r.read c ts at)) there e.0 e.1

  pub begun_not : (o id k : ℕ) (v : View Asked) → get_elem? (map view_of r.ids) k ≡ some v → HasBegun q o id v → Became all outcomes o outcome.Unopened → ⊥
  begun_not = numbers.begun_not r.left.ran script r.left.tasks (sockets.are P g out inn bytes script reads text links r) (sockets.may P g out inn bytes script reads text links r) last.notes (sockets.have P g out inn bytes script reads text links r) (r.ended ++ r.read) r.last
      (sockets.end_told P g out inn bytes script reads text links r)
