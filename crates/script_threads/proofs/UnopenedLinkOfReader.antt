-- The reader of a link that found noted that its `open` got no socket: no `open` made one with that link.
use Rattle.std.proofs.Common.{◌≡◌, ℕ, ◌+◌, ◌<◌, true, List, Option, Some, sym, ap, ◌∙◌, subst, arith}
use mathlib.Core.Logic.{dite}
use native.Mathlib.Decide.{dec_lt}
use Rattle.atomic_table.specs.Table.{Me}
use Rattle.brpc_model.specs.Items.{Item, Open, is_open}
use Rattle.brpc_model.specs.Operations.{operations}
use Rattle.sock_io.specs.declared.link.Out.{Ghosts}
use Rattle.sock_io.specs.LinkHalves.{OutState}
use Rattle.sock_words.specs.declared.outcome.Outcome.{Outcome}
use Rattle.sock_words.specs.declared.outcome.Outcome.TheVariants as outcome
use Rattle.sock_words.specs.declared.plain.Plan.{Plan}
use Rattle.sock_words.specs.declared.place_word.PlaceWord.{PlaceWord}
use Rattle.sock_words.specs.declared.socket_id.SocketId.{SocketId}
use Rattle.sock_words.specs.declared.vref.Vref.{Vref}
use Rattle.sock_words.specs.PackedWords.{socket_id_version, NO_SOCKET}
use Rattle.seat_programs.specs.sock_model.specs.declared.view.View.{View}
use Rattle.seat_programs.specs.sock_model.specs.SocketTableLayout.{name_index, open_index}
use Rattle.seat_programs.specs.sock_model.specs.MarkWeights.{pair}
use Rattle.seat_programs.specs.declared.task.Op.TheVariants as ops
use Rattle.seat_programs.specs.declared.task.Task.{Task}
use Rattle.seat_programs.specs.ScriptSetupToEnding.{all_tasks}
use Rattle.brpc_model.specs.LinePlaceFaults.{names}
use Rattle.seat_programs.specs.Tasks.{numbered}
use Rattle.seat_programs.specs.Explained.{IsTask}
use Rattle.call_run.specs.sock_rule.specs.OnTable.{put_in}
use Rattle.call_run.specs.sock_rule.specs.NotesBesideRows.{PutAt}
use Rattle.rpc_client.specs.OpenOutcomes.{OpenedBy}
use Rattle.script_parts.specs.script_facts.proofs.OperationNumbering.{link_at, link_later}
use Rattle.script_parts.specs.script_facts.proofs.TaskLemmas.{numbers_at, open_asks, task_is}
use Rattle.script_parts.specs.callless_fits.specs.sock_deeds.specs.Deeds.{Did, opens, DoneBy, Deed, own_number, own_name}
use Rattle.script_parts.specs.callless_fits.specs.sock_deeds.specs.SocketTableRun.{DeedRun}
use Rattle.call_run.specs.sock_open.specs.slot_steps.proofs.RuleNumbers.{pair_is}
use Rattle.script_parts.specs.callless_fits.specs.sock_deeds.proofs.DeedsOfAllSeats.{Act, All, did_of, done_of, puts_from, same_deed}
use Rattle.script_parts.specs.callless_fits.specs.sock_deeds.proofs.LivesFailedByName.{made_born}
use Rattle.script_parts.specs.callless_fits.specs.sock_deeds.proofs.GrowingSocketNotes.{HasFound}
use Rattle.script_parts.specs.callless_fits.specs.sock_deeds.proofs.LivesOfDeeds.{MadeHere, maker, made_inside}
use Rattle.script_parts.specs.callless_fits.specs.sock_deeds.proofs.WordStoresOfDeeds.{Storing, Publishes, by_open, by_drop, for_number, under_name, done_stores, note_is}
use Rattle.script_parts.specs.callless_fits.specs.sock_deeds.proofs.DeedsForTasks.{act_name, one_place}

-- ## What an `open` that made a socket stores

put_more : {S : Type 0} (x n y word : ℕ) (m m' : Me S View) → PutAt y word m m' → put_in x n m'.0 ≡ pair x n y word + put_in x n m.0
put_more {S} x n y word m m' put = ap (λ z. put_in x n z.0) put.view ∙ note_is x n record { place = y; word = word } m.0.stores

-- nothing but its id
stores_id : {S : Type 0} (p : Plan) (x word name number link slot version k : ℕ) (m m' : Me S View) → OpenedBy p name number link (outcome.Opened slot version k) m m' → put_in x word m.0 < put_in x word m'.0
    → (id : SocketId) × (version ≡ socket_id_version id.0) × (word ≡ id.0 + 1)
stores_id p x word name number link slot version k m m' b less =
    let o = b.4 in
    let e1 = o.created.stores x word in
    let e2 = put_more x word (open_index p number) (b.0.0 + 1) o.made o.told o.noted in
    let e4 = put_more x word (name_index p name) (b.0.0 + 1) o.told m' o.published in (
      b.0,
      b.2,
      dite (dec_lt 0 (pair x word (open_index p number) (b.0.0 + 1)))
          (λ some_. sym (pair_is x word (open_index p number) (b.0.0 + 1) some_).1)
          (λ none_. sym (pair_is x word (name_index p name) (b.0.0 + 1) (omega arith)).1),
    )

-- ## Over a run

module _ {O : Type 0} {g : Ghosts O} {state : O → OutState} {p : Plan} {clients : List (List Task)} {outcomes : List (Option Outcome)} {places : List PlaceWord} {vrefs : List Vref} {outs : List O} (run : DeedRun g state p clients outcomes places vrefs outs) where
  -- the `open` of this number stored that word
  opens_by : (o word : ℕ) → o < p.operations → (b : Act run) → put_in (open_index p o) word b.d.before.view < put_in (open_index p o) word b.d.after.view → own_number (did_of run b) ≡ Some o
  opens_by o word low b less = by_storing (done_stores p (open_index p o) word g state (did_of run b) b.d.before b.d.after (done_of run b) less)
    where
      by_open_of : (name number link : ℕ) (by : Outcome) → did_of run b ≡ opens name number link by → name < p.names → Publishes p (open_index p o) word name number link by → own_number (did_of run b) ≡ Some o
      by_open_of name number link by is low_name (for_number e said) = let same : number ≡ o = omega arith in ap own_number is ∙ ap Some same
      by_open_of name number link by is low_name (under_name id by_is e w) = absurd (omega arith)

      by_storing : Storing p (open_index p o) word state (did_of run b) b.d.before b.d.after → own_number (did_of run b) ≡ Some o
      by_storing (by_open name number link by is u) = by_open_of name number link by is (act_name run b name (ap own_name is)) u
      by_storing (by_drop name number attempt msg is over dropped) = absurd (let e = dropped.at_place in omega arith)

  pub none_made : (o : ℕ) → o < p.operations → HasFound record { place = open_index p o; word = NO_SOCKET } (All run) → (n k slot version : ℕ) (m : MadeHere run n k slot version) → m.task.number ≡ o → ⊥
  none_made o low h n k slot version m same =
      let w = puts_from run (open_index p o) NO_SOCKET (run.closed.closing.found_was h.0 record { place = open_index p o; word = NO_SOCKET } h.1) in
      let a = maker run n k slot version m in
      let at = one_place run a.0 w.0 o (ap own_number a.2 ∙ ap Some same) (opens_by o NO_SOCKET low w.0 w.1) in
      let did : did_of run w.0 ≡ opens n m.task.number k (outcome.Opened slot version k) = ap (λ (d : Deed g state p). d.did) (sym (same_deed run a.0 w.0 at.0 at.1)) ∙ a.2 in
      let done = subst (λ (d : Did). DoneBy g state p d w.0.d.before w.0.d.after) did (done_of run w.0) in
      let id = stores_id p (open_index p o) NO_SOCKET n m.task.number k slot version k (w.0.d.before.view, done.0.0) (w.0.d.after.view, done.0.1) done.0.2 w.1 in
      let even = (run.closed.closing.born_life slot version (made_inside run n k slot version m) (made_born run n k slot version m)).1 in
      let v = id.1 in let e = id.2 in omega (arith, v, e, even)

-- ## The `open` of a link

opened_is : (item : Item) (name : List ℕ) (shape : Rattle.brpc_model.specs.Items.Shape) → item ≡ Open name shape → is_open item ≡ true
opened_is item name shape e = ap is_open e

-- two that open one link are one
pub one_opener : (script : List Item) (outcomes : List (Option Outcome)) (c d : ℕ) (t : Task) (o n l k : ℕ) → IsTask (all_tasks script) outcomes c t → t.op ≡ ops.Open n k → IsTask (all_tasks script) outcomes d record { number = o; op = ops.Open l k } → t.number ≡ o
one_opener script outcomes c d t o n l k a opens_it b =
    let x = task_is script outcomes c t a in
    let y = task_is script outcomes d record { number = o; op = ops.Open l k } b in
    let i = open_asks (numbered script) (names script) (numbers_at script t.number x.operation) x.operation.item n k (x.asks ∙ ap Some opens_it) in
    let j = open_asks (numbered script) (names script) (numbers_at script o y.operation) y.operation.item l k y.asks in
    let here : k ≡ link_at (operations script) t.number = i.4 in
    let there : k ≡ link_at (operations script) o = j.4 in
    dite (dec_lt t.number o)
    (λ less. absurd (let z = link_later (operations script) t.number o x.operation x.there (opened_is x.operation.item i.0 i.1 i.2) less in omega arith))
    (λ not_less. dite (dec_lt o t.number)
    (λ less. absurd (let z = link_later (operations script) o t.number y.operation y.there (opened_is y.operation.item j.0 j.1 j.2) less in omega arith))
    (λ not_more. omega (arith, not_less, not_more)))
