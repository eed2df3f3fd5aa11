-- A link that gave no response of an id, by the range with which that was made, gave none of the call.
use Rattle.std.proofs.Common.{◌≡◌, ℕ, ◌+◌, ◌<◌, List, ◌∷◌, slice_get, Some, refl, ap, ◌∙◌, arith}
use Rattle.std.specs.Prelude.{Option, IsSome}
use Rattle.sock_io.specs.declared.link.Out.{Ghosts}
use Rattle.sock_io.specs.LinkHalves.{OutState}
use Rattle.sock_words.specs.declared.outcome.Outcome.{Outcome}
use Rattle.sock_words.specs.declared.plain.Plan.{Plan}
use Rattle.sock_words.specs.declared.place_word.PlaceWord.{PlaceWord}
use Rattle.sock_words.specs.declared.vref.Vref.{Vref}
use Rattle.sock_message.specs.Asked.{Asked}
use Rattle.sock_message.specs.brpc_model.specs.Frame.{Frame}
use Rattle.sock_message.specs.brpc_model.specs.FrameStream.{stream}
use Rattle.seat_programs.specs.declared.task.Op.TheVariants as ops
use Rattle.seat_programs.specs.declared.task.Task.{Task}
use Rattle.seat_programs.specs.Explained.{AreTasks}
use Rattle.corr_core.specs.declared.marks.Kept.{Kept}
use Rattle.corr_core.specs.declared.marks.Noted.{Noted}
use Rattle.corr_core.specs.declared.marks.View.{View}
use Rattle.corr_id.specs.ClosingIdLists.{Closing}
use Rattle.failed_ends.specs.Below.RpcClient.Told.{Told}
use Rattle.failed_ends.specs.Below.CallRun.ReadersOfLinks.{LinkReader}
use Rattle.failed_ends.specs.Below.CallRun.Threads.{RanWith, MayRunAll, ids_of}
use Rattle.failed_ends.specs.call_whys.specs.call_places.specs.ClientNotesCounted.{HaveNotesOf}
use Rattle.failed_ends.specs.call_whys.specs.call_places.proofs.IdsOfRetries.{IsIdOf}
use Rattle.failed_ends.specs.call_whys.specs.call_places.specs.sock_deeds.specs.SocketTableRun.{IsOperation}
use Rattle.failed_ends.specs.call_whys.proofs.CallVersionsDistinct.{AreIds}
use Rattle.failed_ends.specs.attempts_told.proofs.AttemptsOfCallsTold.{same_asked}
use Rattle.failed_ends.proofs.Alone.{NoResponse}
use Rattle.failed_told.proofs.LowIds.{low_id}

module _ {O : Type 0} {g : Ghosts O} {state : O → OutState} {readers : List (LinkReader g)} {p : Plan} {slots : ℕ} {setup : List Task} {clients : List (List Task)} {opens : List ℕ} {told ended : List (List Told)} {places : List PlaceWord} {vrefs : List Vref} {outs : List O} {ids : List (View Asked)}
    (run : RanWith g state readers p slots setup clients opens told ended places vrefs outs ids) (tasks : AreTasks p (setup ∷ clients)) (may : MayRunAll p (ids_of p slots) setup clients)
    (notes : List (Noted Asked)) (kept : List Kept) (words : List ℕ) (closing : Closing (ids_of p slots) notes kept words) (noted : HaveNotesOf ids notes) (outcomes : List (Option Outcome))
    (are : AreIds (ids_of p slots) notes kept words closing (setup ∷ clients) outcomes) where
  pub silent : (o id : ℕ) → IsIdOf slots notes o id → (client : ℕ) (asked : Asked) → IsOperation (setup ∷ clients) outcomes client o (ops.Call asked) → (bytes : List ℕ) → NoResponse (ids_of p slots) notes kept words closing id bytes
      → (n : ℕ) (frame : Frame) → slice_get (stream bytes).frames n ≡ Some frame → IsSome frame.meta.response → id < frame.meta.correlation_id → frame.meta.correlation_id < id + asked.range → ⊥
  silent o id its client asked task bytes none_ n frame at responds above below =
      let t : Task = record { number = o; op = ops.Call asked } in
      let w = are.made its.slot its.place its.first its.range its.asked its.inside its.made in
      let same = are.one w.0 client record { number = its.asked.operation; op = ops.Call its.asked } t w.1 task its.operation in
      let range : its.range ≡ asked.range = w.2 ∙ ap (λ (a : Asked). a.range) (same_asked its.asked asked (ap (λ (x : Task). x.op) same)) in
      let few = are.short client t asked task refl in let low = low_id run tasks may notes kept words closing noted o id its in let is = its.id_is in
      none_ its.slot its.first its.range its.place its.asked its.inside is its.low (omega (arith, low, few, range)) its.made (n, frame, at, responds, omega (arith, is, above), omega (arith, is, below, range))
