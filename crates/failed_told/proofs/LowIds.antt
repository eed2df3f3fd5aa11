-- The first version of a call's id leaves room for its range among the versions of a slot.
use Rattle.std.proofs.Common.{◌≡◌, ℕ, ◌<◌, ◌≤◌, List, ◌∷◌, None, sym, ap, ◌∙◌, subst, arith}
use Rattle.std.specs.Prelude.{Option}
use mathlib.Core.Option.{some-injective}
use Rattle.sock_io.specs.declared.link.Out.{Ghosts}
use Rattle.sock_io.specs.LinkHalves.{OutState}
use Rattle.sock_words.specs.declared.outcome.Outcome.{Outcome}
use Rattle.sock_words.specs.declared.plain.Plan.{Plan}
use Rattle.sock_words.specs.declared.place_word.PlaceWord.{PlaceWord}
use Rattle.sock_words.specs.declared.vref.Vref.{Vref}
use Rattle.seat_programs.specs.declared.task.Op.{Op}
use Rattle.seat_programs.specs.declared.task.Op.TheVariants as ops
use Rattle.seat_programs.specs.declared.task.Task.{Task}
use Rattle.seat_programs.specs.Explained.{AreTasks}
use Rattle.corr_core.specs.IdSlotLaw.{LAST}
use Rattle.corr_core.specs.declared.marks.Kept.{Kept}
use Rattle.corr_core.specs.declared.marks.Note.{Note}
use Rattle.corr_core.specs.declared.marks.Note.TheVariants.{Made}
use Rattle.corr_core.specs.declared.marks.Noted.{Noted}
use Rattle.corr_core.specs.declared.marks.Plan as id_plan
use Rattle.corr_core.specs.declared.marks.View.{View}
use Rattle.corr_core.proofs.NoteSums.{only-at, total_some}
use Rattle.corr_id.specs.id_rule.specs.LawfulIdTable.{notes_of}
use Rattle.sock_message.specs.Asked.{Asked}
use Rattle.corr_id.specs.ClosingIdLists.{Closing}
use Rattle.failed_ends.specs.Below.RpcClient.Told.{Told}
use Rattle.failed_ends.specs.Below.CallClient.ClientBetweenOperations.{Stand, both_of, Acted}
use Rattle.failed_ends.specs.Below.CallRun.ReadersOfLinks.{LinkReader}
use Rattle.failed_ends.specs.Below.CallRun.Threads.{Thread, IsThread, RanWith, MayRunAll, ids_of}
use Rattle.failed_ends.specs.call_whys.specs.call_places.specs.ClientNotesCounted.{makes, HaveNotesOf}
use Rattle.failed_ends.specs.call_whys.specs.call_places.proofs.ClientPlaces.{Client, total_map, view_of}
use Rattle.failed_ends.specs.call_whys.specs.call_places.proofs.IdsOfRetries.{IsIdOf}
use Rattle.failed_ends.specs.call_whys.specs.call_places.proofs.CallPlaceOrders.{all as all_clients, views_are, noted_among, made_once}
use Rattle.failed_ends.specs.call_whys.specs.call_places.proofs.NoteWeights.{term, noted_at}
use Rattle.failed_ends.specs.call_whys.specs.call_told.specs.Least.{is_made_for}
use Rattle.failed_ends.specs.call_whys.specs.call_deeds.proofs.Ran.{Result}
use Rattle.failed_ends.specs.call_whys.specs.call_told.proofs.Coming.{made_begun as begun_behind}
use Rattle.failed_ends.specs.failed_reasons.proofs.Before.{operation_made, noted_last}
use Rattle.failed_ends.proofs.EndedAtLastAttempt.{one_made}
use Rattle.failed_ends.specs.failed_reasons.proofs.Makers.{made_begun}
use Rattle.sock_words.specs.PackedWords.{id_slot, id_first}
use Rattle.sock_words.specs.Totals.{total}

-- an id with room was made for the operation
pub record MadeLow (slots o : ℕ) (v : View Asked) : Type 0 where
  pub id : ℕ
  pub inside : id_slot id < slots
  pub low : id_first id ≤ LAST
  pub made : 0 < total (is_made_for (id_first id) o) (notes_of (id_slot id) v.notes)

acted_low : {O : Type 0} {g : Ghosts O} (state : O → OutState) (p : Plan) (q : id_plan.Plan) (number : ℕ) (asked : Asked) (s t : Stand g) → Acted state p q number (ops.Call asked) None s t → MadeLow q.slots asked.operation t.calls.view
acted_low state p q number asked s t a = let b = begun_behind q state p asked a.0 (both_of s) (both_of t) a.1 in record { id = a.0; inside = b.inside; low = a.1.made_for.made.low; made = b.made }

-- a client that made one for an operation made one with room
pub client_low : {O : Type 0} {g : Ghosts O} {state : O → OutState} {p : Plan} {q : id_plan.Plan} {first : ℕ} (x : Thread g) (th : IsThread state p q first x) (o : ℕ) → 0 < total (makes o) x.ended.calls.seat.me.0.notes → MadeLow q.slots o x.ended.calls.seat.me.0
client_low {O} {g} {state} {p} {q} x th o some_ =
    let b = made_begun x th o some_ in let m = operation_made x th b.0 b.1 b.2 in let c = m.operation in
    let same : record { task = c.task; by = c.by } ≡ b.1 = some-injective _ _ (sym c.at ∙ b.2) in
    let op : c.task.op ≡ ops.Call b.3.asked = ap (λ (r : Result). r.task.op) same ∙ b.3.op in let none_ : c.by ≡ None = ap (λ (r : Result). r.by) same ∙ b.3.untold in
    let acted : Acted state p q c.task.number (ops.Call b.3.asked) None c.before c.after =
    subst (λ (y : Option Outcome). Acted state p q c.task.number (ops.Call b.3.asked) y c.before c.after) none_ (subst (λ (z : Op). Acted state p q c.task.number z c.by c.before c.after) op c.acted) in
    let low = acted_low state p q c.task.number b.3.asked c.before c.after acted in
    let f : ℕ → Note Asked → ℕ = is_made_for (id_first low.id) in let i = id_slot low.id in
    record {
      id = low.id;
      inside = low.inside;
      low = low.low;
      made = (let then_ = m.to.1 i (f o) in let end = noted_last x th i (f o) in let made = low.made in let its = ap (λ (n : ℕ). total (f n) (notes_of i c.after.calls.view.notes)) b.3.operation in omega (arith, then_, end, made, its));
    }

module _ {O : Type 0} {g : Ghosts O} {state : O → OutState} {readers : List (LinkReader g)} {p : Plan} {slots : ℕ} {setup : List Task} {clients : List (List Task)} {opens : List ℕ} {told ended : List (List Told)} {places : List PlaceWord} {vrefs : List Vref} {outs : List O} {ids : List (View Asked)}
    (run : RanWith g state readers p slots setup clients opens told ended places vrefs outs ids) (tasks : AreTasks p (setup ∷ clients)) (may : MayRunAll p (ids_of p slots) setup clients)
    (notes : List (Noted Asked)) (kept : List Kept) (words : List ℕ) (closing : Closing (ids_of p slots) notes kept words) (noted : HaveNotesOf ids notes) where
  abbrev q : id_plan.Plan
  q = ids_of p slots

  -- the id of a call is the one that a client made for it
  pub low_id : (o id : ℕ) (its : IsIdOf slots notes o id) → its.first ≤ LAST
  low_id o id its =
      let n = noted_at its.slot notes its.place (Made its.first its.range its.asked) its.made in
      let one = term (makes o) notes n.0 _ n.1 in let here = only-at o its.asked.operation its.operation in
      let crew : List (Client g state p q) = all_clients run in
      let f : View Asked → ℕ = λ v. total (makes o) v.notes in
      let s = total_some (λ (y : Client g state p q). f (view_of y)) crew (let a = noted.made o in let b = total_map f view_of crew in let c = ap (total f) (views_are run) in omega (arith, one, here, a, b, c)) in
      let m = client_low s.1.thread s.1.is o s.3 in
      let all = noted_among run notes noted s.0 s.1 s.2 (id_slot m.id) (is_made_for (id_first m.id) o) in
      let same = one_made slots notes o id its (made_once run tasks may notes noted o) (id_slot m.id) (id_first m.id) (let made = m.made in omega (arith, all, made)) in
      let low = m.low in let first = same.1 in omega (arith, low, first)
