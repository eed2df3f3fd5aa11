-- A link of which a seat noted a fault comes back with a count of faults that isn't 0.
use Rattle.std.proofs.Common.{◌≡◌, ℕ, zero, suc, ◌<◌, List, flat_map, Option, None, Contains, refl, sym, arith}
use mathlib.Core.Option.{some, some-injective, some-ne-none}
use lib.ListN.{get_elem?}
use Rattle.sock_io.specs.declared.link.Out.{Ghosts}
use Rattle.sock_io.specs.LinkHalves.{OutState}
use Rattle.sock_words.specs.declared.outcome.Outcome.{Outcome}
use Rattle.sock_words.specs.declared.plain.Plan.{Plan}
use Rattle.sock_words.specs.declared.place_word.PlaceWord.{PlaceWord}
use Rattle.sock_words.specs.declared.vref.Vref.{Vref}
use Rattle.sock_words.specs.PackedWords.{socket_id_version, socket_id_slot}
use Rattle.sock_model.specs.declared.marks.Mark.{Mark}
use Rattle.sock_model.specs.SlotRows.{marks_of}
use Rattle.slot_steps.proofs.RuleNumbers.{only-at}
use Rattle.seat_programs.specs.declared.task.Task.{Task}
use Rattle.rpc_client.specs.sock_rule.specs.LinkFaultNotes.{is_fault}
use Rattle.rpc_client.specs.sock_rule.specs.LinkFaultNotes as faults
use Rattle.report_fits.specs.script_facts.proofs.FilteredLists.{has_from}
use Rattle.rpc_client.specs.write_chain.specs.NotingWhileWriting.{Noted, nothing, finding, failing}
use Rattle.rpc_client.specs.write_chain.proofs.Faulting.{slot_fault}
use Rattle.sock_deeds.specs.BrokenLinksNoted.{noted_links, faults_by, faults_of}
use Rattle.sock_deeds.specs.Deeds.{Hand, Did, sends, DoneBy}
use Rattle.sock_deeds.specs.SocketTableRun.{Seated, DeedRun}
use Rattle.sock_deeds.proofs.DeedsOfAllSeats.{Act, All, did_of, done_of, has_marks}
use Rattle.sock_deeds.proofs.WhyLivesFailed.{broken}
use Rattle.sock_deeds.proofs.Flats.{flat_from}
use Rattle.sock_deeds.proofs.GrowingSocketNotes.{returned_grew}
use Rattle.sock_deeds.proofs.ListPlaces.{to_elem}
use Rattle.sock_words.specs.Totals.{total}

-- the fault for which a seat failed a socket is among its notes
noted_fault : {O : Type 0} {state : O → OutState} {L : ℕ → Type 0} (k h : ℕ) (ms : List Mark) (noted : Noted state L h ms) (j : ℕ) → get_elem? (noted_links h ms noted) j ≡ some k → 0 < total (is_fault k) ms
noted_fault k h _ nothing j e = absurd (some-ne-none k (sym e))
noted_fault k h _ (finding m ms a b) j e = let r = noted_fault k h ms b j e in omega arith
noted_fault k h _ (failing l ms a b c) zero e = let s = only-at k l (some-injective l k e) in omega arith
noted_fault k h _ (failing l ms a b c) (suc j) e = let r = noted_fault k h ms c j e in omega arith

module _ {O : Type 0} (g : Ghosts O) (state : O → OutState) (p : Plan) where
  -- which a seat has behind the deed
  fault_by : (d : Did) (s t : Hand) (b : DoneBy g state p d s t) (j k : ℕ) → get_elem? (faults_by g state p d s t b) j ≡ some k → (i : ℕ) × (0 < marks_of (is_fault k) i t.view)
  fault_by (sends name number attempt msg None) s t b j k e =
      let d = b.0.delivered in
      let id = b.0.sock.id.0 in
      let w = d.through.by in
      let there = noted_fault k (socket_id_version id) w.notes w.noted j e in
      let came = w.became.here (is_fault k) in
      let back = (returned_grew id d.through.wrote t.view d.through.returned).marks (is_fault k) (λ h. refl) (socket_id_slot id) in
      (socket_id_slot id, omega arith)
  fault_by _ s t b j k e = absurd (some-ne-none k (sym e))

module _ {O : Type 0} {g : Ghosts O} {state : O → OutState} {p : Plan} {clients : List (List Task)} {outcomes : List (Option Outcome)} {places : List PlaceWord} {vrefs : List Vref} {outs : List O} (run : DeedRun g state p clients outcomes places vrefs outs) where
  -- so all seats together have noted it
  pub broken_noted : (k : ℕ) → Contains (broken run) k → 0 < faults.faults_of k (All run)
  broken_noted k there =
      let h = has_from (broken run) k there in
      let one = flat_from (λ (y : Seated g state p). flat_map faults_of y.deeds) run.seats h.0 k (to_elem (broken run) h.0 k h.1) in
      let y = one.1 in
      let two = flat_from faults_of y.deeds one.3 k one.4 in
      let a : Act run = record { c = one.0; y = y; at = one.2; k = two.0; d = two.1; is = two.2 } in
      noted_by a two.3 two.4
    where
      noted_by : (a : Act run) (j : ℕ) → get_elem? (faults_of a.d) j ≡ some k → 0 < faults.faults_of k (All run)
      noted_by a j e =
          let f = fault_by g state p (did_of run a) a.d.before a.d.after (done_of run a) j k e in
          let there = f.1 in
          let kept = has_marks run a (is_fault k) (λ h. refl) f.0 in
          let le = slot_fault k f.0 (All run).marks in
          omega arith
