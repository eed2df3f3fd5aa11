-- The place words of a run with calls tell an order of each link, and a `send` of which nothing is told has a place.
use Rattle.std.proofs.Common.{◌≡◌, ℕ, ◌*◌, ◌≤◌, ◌⊎◌, inl, inr, List, [], ◌∷◌, flat_map, Some, None, refl, sym, ap, ◌∙◌, arith}
use Rattle.std.specs.Prelude.{Option}
use mathlib.Core.Option.{some}
use lib.ListN.{get_elem?}
use Rattle.sock_io.specs.declared.link.Out.{Ghosts}
use Rattle.sock_io.specs.LinkHalves.{OutState}
use Rattle.sock_words.specs.PackedWords.{HasPosition}
use Rattle.sock_words.specs.declared.outcome.Outcome.{Outcome}
use Rattle.sock_words.specs.declared.plain.Plan.{Plan}
use Rattle.sock_words.specs.declared.place_word.PlaceWord.{PlaceWord}
use Rattle.sock_words.specs.declared.vref.Vref.{Vref}
use Rattle.brpc_model.specs.PlaceWords.{word_at}
use Rattle.corr_core.specs.declared.marks.Note.{Note}
use Rattle.corr_core.specs.declared.marks.Noted.{Noted}
use Rattle.corr_core.specs.declared.marks.View.{View}
use Rattle.id_rule.specs.LawfulIdTable.{notes_of}
use Rattle.sock_message.specs.Asked.{Asked}
use Rattle.corr_id.proofs.IdSeatSplits.{notes_append, total_append}
use Rattle.seat_programs.specs.declared.task.Op.TheVariants as ops
use Rattle.seat_programs.specs.declared.task.Task.{Task}
use Rattle.seat_programs.specs.Explained.{AreTasks}
use Rattle.rpc_client.specs.declared.acting.Told.{Told}
use Rattle.call_run.specs.ReadersOfLinks.{LinkReader}
use Rattle.call_run.specs.Threads.{Thread, MayRunAll, RanWith, ids_of}
use Rattle.calls_done.specs.call_whys.specs.call_places.specs.ClientNotesCounted.{HaveNotesOf}
use Rattle.calls_done.specs.call_whys.specs.call_places.proofs.ClientPlaces.{Client, tasks_of, deeds_of}
use Rattle.calls_done.specs.call_whys.specs.call_places.proofs.IdsOfRetries.{IdLaws}
use Rattle.calls_done.specs.call_whys.specs.call_places.proofs.OwnAcceptedMessages.{IsMade, deed_of}
use Rattle.calls_done.specs.call_whys.specs.call_places.proofs.CallPlaceOrders.{all, all_are, tasks_are, send_placed}
use Rattle.callless_fits.specs.sock_deeds.proofs.ListPlaces.{map_back, map_there}
use Rattle.sock_words.specs.Totals.{total}

-- ## What the closed table has of the clients' seats

pub each_notes : (i : ℕ) (f : Note Asked → ℕ) (vs : List (View Asked)) → total f (notes_of i (flat_map (λ (v : View Asked). v.notes) vs)) ≡ total (λ (v : View Asked). total f (notes_of i v.notes)) vs
each_notes i f [] = refl
each_notes i f (v ∷ vs) =
    let rest : List (Noted Asked) = flat_map (λ (w : View Asked). w.notes) vs in
    let a = ap (total f) (notes_append i v.notes rest) in let b = total_append f (notes_of i v.notes) (notes_of i rest) in let c = each_notes i f vs in omega arith

-- ## A run of a script over tables of any sizes

module _ {O : Type 0} {g : Ghosts O} {state : O → OutState} {readers : List (LinkReader g)} {p : Plan} {slots : ℕ} {setup : List Task} {clients : List (List Task)} {opens : List ℕ} {told ended : List (List Told)} {places : List PlaceWord} {vrefs : List Vref} {outs : List O} {ids : List (View Asked)}
    (ran : RanWith g state readers p slots setup clients opens told ended places vrefs outs ids) (tasks : AreTasks p (setup ∷ clients)) (fits : MayRunAll p (ids_of p slots) setup clients) (notes : List (Noted Asked)) (are_laws : IdLaws slots notes) (has : HaveNotesOf ids notes)
    (few_links : p.links ≤ 65536) (few_numbers : p.operations ≤ 65536) where
  -- a `send` is told or has a place
  pub send_told : (c k : ℕ) (ts : List Task) (t : Task) (n : ℕ) (message : List ℕ) → get_elem? (setup ∷ clients) c ≡ some ts → get_elem? ts k ≡ some t → t.op ≡ ops.Send n message
      → ((own : List Told) × (i : ℕ) × (x : Told) × (get_elem? told c ≡ some own) × (get_elem? own i ≡ some x) × (x.number ≡ t.number)) ⊎ HasPosition (word_at places (8 * t.number))
  send_told c k ts t n message of_client in_it is = by made.how.by refl
    where
      found : (cl : Client g state p (ids_of p slots)) × (get_elem? (all ran) c ≡ some cl) × (tasks_of cl ≡ ts)
      found = map_back tasks_of (all ran) c ts (ap (λ (l : List (List Task)). get_elem? l c) (tasks_are ran) ∙ of_client)

      made : IsMade g state p (ids_of p slots) (deeds_of found.0) found.0.thread.ended.outcomes.items t
      made = deed_of found.0.thread found.0.is k t (ap (λ (l : List Task). get_elem? l k) found.2 ∙ in_it)

      told_at : get_elem? told c ≡ some found.0.thread.ended.outcomes.items
      told_at = ap (λ (l : List (List Told)). get_elem? l c) (sym (all_are ran (λ (x : Thread g). x.ended.outcomes.items) ∙ ran.ran.told_is)) ∙ map_there (λ (x : Client g state p (ids_of p slots)). x.thread.ended.outcomes.items) (all ran) c found.0 found.1

      by : (o : Option Outcome) → made.how.by ≡ o → ((own : List Told) × (i : ℕ) × (x : Told) × (get_elem? told c ≡ some own) × (get_elem? own i ≡ some x) × (x.number ≡ t.number)) ⊎ HasPosition (word_at places (8 * t.number))
      by None e = inr (send_placed ran tasks fits notes are_laws has few_links few_numbers c found.0 found.1 t n message is made e)
      by (Some o) e = let w = made.tells o e in inl (found.0.thread.ended.outcomes.items, w.0, record { number = t.number; outcome = o }, told_at, w.1, refl)
