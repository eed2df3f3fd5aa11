-- The life that a reader finds noted for the `open` of its link is one of that link.
use Rattle.std.proofs.Common.{◌≡◌, ◌≢◌, ℕ, ◌+◌, List, Option, refl, ap, subst, arith}
use mathlib.Core.Option.{some}
use lib.ListN.{get_elem?}
use Rattle.sock_io.specs.declared.link.Out.{Ghosts}
use Rattle.sock_io.specs.LinkHalves.{OutState}
use Rattle.sock_words.specs.declared.outcome.Outcome.{Outcome}
use Rattle.sock_words.specs.declared.plain.Plan.{Plan}
use Rattle.sock_words.specs.declared.place_word.PlaceWord.{PlaceWord}
use Rattle.sock_words.specs.declared.socket_id.SocketId.{SocketId}
use Rattle.sock_words.specs.declared.vref.Vref.{Vref}
use Rattle.sock_words.specs.PackedWords.{socket_id_version, socket_id_slot, NO_SOCKET}
use Rattle.sock_model.specs.declared.view.StoredWord.{StoredWord}
use Rattle.sock_model.specs.declared.view.View.{View}
use Rattle.sock_model.specs.SocketTableLayout.{open_index}
use Rattle.seat_programs.specs.declared.task.Op.TheVariants as ops
use Rattle.seat_programs.specs.declared.task.Task.{Task}
use Rattle.rpc_client.specs.sock_table.specs.declared.finding.Noted.TheVariants as noted
use Rattle.sock_deeds.specs.Deeds.{Did, looks, DoneBy, own_name}
use Rattle.sock_deeds.specs.SocketTableRun.{IsFor, did_in, ReaderSeat, DeedRun}
use Rattle.sock_deeds.proofs.DeedsOfAllSeats.{Read, All, did_of, done_of, read_found, puts_from}
use Rattle.sock_deeds.proofs.GrowingSocketNotes.{HasFound}
use Rattle.sock_deeds.proofs.LivesOfDeeds.{MadeHere, made_of}
use Rattle.sock_deeds.proofs.ListPlaces.{map_back}
use Rattle.sock_deeds.proofs.ReaderSocketDeeds.{dids_of}
use Rattle.sock_deeds.proofs.WordStoresOfDeeds.{done_notes}
use Rattle.sock_deeds.proofs.DeedsForTasks.{act_name, fits, is_for, same_task}

one_link : (n m k l : ℕ) → ops.Open n k ≡ ops.Open m l → k ≡ l
one_link n m k l e = cc

module _ {O : Type 0} {g : Ghosts O} {state : O → OutState} {p : Plan} {clients : List (List Task)} {outcomes : List (Option Outcome)} {places : List PlaceWord} {vrefs : List Vref} {outs : List O} (run : DeedRun g state p clients outcomes places vrefs outs) where
  module _ (j : ℕ) (r : ReaderSeat g state p clients outcomes) (at : get_elem? run.readers j ≡ some r) (sock : SocketId) (first : get_elem? (dids_of r) 0 ≡ some (looks r.number (noted.Id sock))) where
    noted_found : HasFound record { place = open_index p r.number; word = sock.0 + 1 } (All run)
    noted_found =
        let w = map_back did_in r.sits.deeds 0 (looks r.number (noted.Id sock)) first in
        let a : Read run = record { c = j; r = r; at = at; k = 0; d = w.0; is = w.1 } in
        let b = (subst (λ (x : Did). DoneBy g state p x w.0.before w.0.after) w.2 w.0.done).0 in
        read_found run a record { place = open_index p r.number; word = sock.0 + 1 } (0, ap (λ (z : View). get_elem? z.finds 0) b.1.view)

    -- it was made by that `open`
    pub noted_made : sock.0 + 1 ≢ NO_SOCKET → (n : ℕ) × MadeHere run n r.link (socket_id_slot sock.0) (socket_id_version sock.0)
    noted_made some_ =
        let x : StoredWord = record { place = open_index p r.number; word = sock.0 + 1 } in
        let h = noted_found in
        let w = puts_from run (open_index p r.number) (sock.0 + 1) (run.closed.closing.found_was h.0 x h.1) in
        let b = w.0 in
        let low = (fits run r.client record { number = r.number; op = ops.Open r.name r.link } r.asked).0 in
        let u = done_notes p r.number (sock.0 + 1) low g state (did_of run b) b.d.before b.d.after (done_of run b) (λ name number link by is. act_name run b name (ap own_name is)) some_ w.1 in
        let id : u.1.id.0 ≡ sock.0 = (let e = u.1.word in omega arith) in
        let made = made_of run b u.0 r.number u.1.link (socket_id_slot u.1.id.0) (socket_id_version u.1.id.0) u.1.did_is in
        let is = (subst (IsFor clients outcomes b.c) u.1.did_is (is_for run b)).0 in
        let same = (same_task run b.c r.client record { number = r.number; op = ops.Open u.0 u.1.link } record { number = r.number; op = ops.Open r.name r.link } is r.asked refl).1 in
        let link : u.1.link ≡ r.link = one_link u.0 r.name u.1.link r.link (ap (λ (t : Task). t.op) same) in
        (u.0, subst (λ l. MadeHere run u.0 l (socket_id_slot sock.0) (socket_id_version sock.0)) link (subst (λ y. MadeHere run u.0 u.1.link (socket_id_slot y) (socket_id_version y)) id made))
