-- A word of an operation's attempts that was found names one of them: its call, the link that it may be on, and how it was lost there if it was.
use Rattle.std.proofs.Common.{◌≡◌, ℕ, ◌+◌, ◌*◌, ◌<◌, ◌≤◌, List, ◌∷◌, length, map, Some, None, refl, sym, ap, ◌∙◌, subst, arith}
use Rattle.std.specs.Prelude.{Option, Bool, if◌then◌else◌}
use Rattle.std.proofs.lemmas.Bool.{lt-ltb}
use Rattle.std.proofs.lemmas.Nat.{div-add-mod'}
use Rattle.std.proofs.lemmas.Option.{none-some}
use mathlib.Core.Option.{some}
use lib.ListN.{get_elem?}
use Rattle.sock_io.specs.declared.link.Out.{Ghosts}
use Rattle.sock_io.specs.LinkHalves.{OutState}
use Rattle.sock_words.specs.PackedWords.{at_word, at_word_first, at_word_slot, at_word_link, at_word_attempt, id_slot, id_first}
use Rattle.sock_words.specs.declared.outcome.Outcome.{Outcome}
use Rattle.sock_words.specs.declared.plain.Plan.{Plan}
use Rattle.sock_words.specs.declared.place_word.PlaceWord.{PlaceWord}
use Rattle.sock_words.specs.declared.vref.Vref.{Vref}
use Rattle.failed_ends.specs.Below.SockRule.ClosingWordsAndNotes.{PlacesDiffer}
use Rattle.seat_programs.specs.declared.task.Op.{Op}
use Rattle.seat_programs.specs.declared.task.Op.TheVariants as ops
use Rattle.seat_programs.specs.declared.task.Task.{Task}
use Rattle.seat_programs.specs.Explained.{AreTasks}
use Rattle.seat_programs.specs.ExplainedCalls.{MayBeOn, all_accepted}
use Rattle.corr_core.specs.declared.marks.Kept.{Kept}
use Rattle.corr_core.specs.declared.marks.Noted.{Noted}
use Rattle.corr_core.specs.declared.marks.View.{View}
use Rattle.corr_core.proofs.NoteSums.{only-at, total_some}
use Rattle.corr_id.specs.id_rule.specs.LawfulIdTable.{at_index, is_stored}
use Rattle.sock_message.specs.Asked.{Asked, name_of}
use Rattle.corr_id.specs.ClosingIdLists.{Closing}
use Rattle.failed_ends.specs.Below.RpcClient.Told.{Told}
use Rattle.failed_ends.specs.Below.RpcReader.PostingAtReadingEnd.{call_at, attempt_at}
use Rattle.failed_ends.specs.Below.CallAttempts.WaitingRetries.{had_ended, overtaken, went_again}
use Rattle.failed_ends.specs.Below.CallRun.ReadersOfLinks.{LinkReader}
use Rattle.failed_ends.specs.Below.CallRun.Threads.{Thread, RanWith, MayRunAll, ids_of}
use Rattle.failed_ends.specs.call_whys.specs.call_places.specs.ClientNotesCounted.{HaveNotesOf}
use Rattle.failed_ends.specs.call_whys.specs.call_places.specs.DeedsOfCallClient.{Deed, operates, retries}
use Rattle.failed_ends.specs.call_whys.specs.call_places.proofs.IdsOfRetries.{IsIdOf}
use Rattle.failed_ends.specs.call_whys.specs.call_places.proofs.LabelPlaceIndices.{label_in}
use Rattle.failed_ends.specs.call_whys.specs.call_places.proofs.ClientPlaces.{Client, total_map, view_of, deeds_of}
use Rattle.failed_ends.specs.call_whys.specs.call_places.proofs.CallPlaceOrders.{views_are, noted_among, crew_of}
use Rattle.failed_ends.specs.call_whys.specs.call_told.specs.Least.{is_made_for}
use Rattle.failed_ends.specs.call_whys.specs.call_told.proofs.RestingCallsEnded.{is_word}
use Rattle.failed_ends.specs.call_whys.specs.expire_told.specs.ExpireOutcomesSaid.{HaveKeptOf}
use Rattle.failed_ends.specs.call_whys.specs.call_told.proofs.Least.{word_is as kept_word}
use Rattle.failed_ends.specs.call_whys.specs.call_places.specs.sock_deeds.specs.SocketTableRun.{IsOperation, seat_of, DeedRun}
use Rattle.failed_ends.specs.call_whys.specs.call_places.specs.sock_deeds.proofs.MessagesAcceptedByDeeds.{log}
use Rattle.failed_ends.specs.call_whys.specs.call_places.specs.sock_deeds.proofs.OrdersOfDeeds.{orders}
use Rattle.failed_ends.specs.call_whys.specs.call_places.specs.sock_deeds.proofs.WholeSocketDeeds.{laws_of}
use Rattle.failed_ends.specs.attempts_told.specs.CountedAttempts.{last_attempt}
use Rattle.failed_ends.specs.failed_reasons.specs.CallsEndedByReading.{LostOn}
use Rattle.failed_ends.specs.failed_reasons.specs.Missed.{acted_id, id_of, attempt_of}
use Rattle.failed_ends.specs.failed_reasons.proofs.AtWords.{link_in, IsMadeIn, IsStoredBy, stored_in, stored_by}
use Rattle.failed_ends.specs.failed_reasons.proofs.AttemptLosses.{IsAskedIn}
use Rattle.failed_ends.proofs.Posters.{attempt_low}
use Rattle.failed_ends.proofs.Single.{IsAttemptOf, at_first, first_id, again_id, again_attempt, made_low}
use Rattle.failed_told.proofs.StoredAttemptStanding.{may_be_on, lost_on}
use Rattle.failed_ends.specs.failed_reasons.proofs.FailedRunPremises.{AskTasks}
use Rattle.sock_words.specs.Totals.{total}

-- ## Words

-- what is read out of the word of an attempt
pub record Reads (word first slot link attempt : ℕ) : Type 0 where
  pub first_is : at_word_first word ≡ first
  pub slot_is : at_word_slot word ≡ slot
  pub link_is : at_word_link word ≡ link
  pub attempt_is : at_word_attempt word ≡ attempt

reads_back : (first slot link attempt : ℕ) → slot < 65536 → link < 65535 → attempt ≤ 6 → Reads (at_word first slot link attempt) first slot link attempt
reads_back first slot link attempt low_slot low_link few = record {
  first_is = omega (arith, low_slot, low_link, few);
  slot_is = omega (arith, low_slot, low_link, few);
  link_is = omega (arith, low_slot, low_link, few);
  attempt_is = omega (arith, low_slot, low_link, few);
}

-- an attempt that isn't 7 is told
some_attempt : (word n : ℕ) → at_word_attempt word ≡ n → n ≤ 6 → attempt_at word ≡ Some n
some_attempt word n e few =
    ap (λ (b : Bool). if b then Some (at_word_attempt word) else None) (lt-ltb (at_word_attempt word) 7 (omega (arith, e, few))) ∙ ap Some e

-- ## The run

module _ {O : Type 0} {g : Ghosts O} {state : O → OutState} {readers : List (LinkReader g)} {p : Plan} {slots : ℕ} {setup : List Task} {clients : List (List Task)} {opens : List ℕ} {told ended : List (List Told)} {places : List PlaceWord} {vrefs : List Vref} {outs : List O} {ids : List (View Asked)}
    (run : RanWith g state readers p slots setup clients opens told ended places vrefs outs ids) (tasks : AreTasks p (setup ∷ clients)) (may : MayRunAll p (ids_of p slots) setup clients)
    (notes : List (Noted Asked)) (kept : List Kept) (words : List ℕ) (closing : Closing (ids_of p slots) notes kept words) (noted : HaveNotesOf ids notes) (keeps : HaveKeptOf ids kept) (outcomes : List (Option Outcome))
    (drun : DeedRun g state p (setup ∷ clients) outcomes places vrefs outs) (seats : map seat_of drun.seats ≡ map (λ (x : Thread g). x.ended.seat) (run.ran.main ∷ run.ran.others)) (logged : log drun ≡ run.closed.ordered.log) (differ : PlacesDiffer (log drun)) (gave : ℕ → List ℕ)
    (all_there : length (log drun) ≤ all_accepted p.links (orders drun differ)) (few_slots : slots ≤ 65536) (few_links : p.links < 65536) (asked_so : AskTasks run outcomes) where
  open crew_of run use {q, every, crew}
  open laws_of drun differ gave use {fixed_here, orders_here}

  abbrev IsAttempt : ℕ → ℕ → ℕ → Deed g state p q → Type 0
  IsAttempt o id n d = IsAttemptOf run tasks may notes kept words closing noted o id n d

  -- ## Whose attempt it is

  record IsOwn (o : ℕ) (d : Deed g state p q) : Type 0 where
    pub id : IsIdOf slots notes o (id_of d)
    pub attempt : IsAttempt o (id_of d) (attempt_of d) d

  first_label : (o number : ℕ) (op : Op) (asked : Asked) → op ≡ ops.Call asked → asked.operation ≡ o → 0 < label_in (8 * o + 0) number op
  first_label o number op asked is same = subst (λ (x : Op). 0 < label_in (8 * o + 0) number x) (sym is) (let z = only-at (8 * o + 0) (8 * asked.operation + 0) (omega (arith, same)) in omega (arith, z))

  own_attempt : (o word c : ℕ) (x : Client g state p q) → get_elem? crew c ≡ some x → (i : ℕ) (d : Deed g state p q) → get_elem? (deeds_of x) i ≡ some d → IsStoredBy (view_of x) o word d → IsOwn o d
  own_attempt o word c x at i d there s = subst (λ (n : ℕ). IsOwn n d) s.operation (by d there s.asked s.is s.link s.link_is s.inside s.made)
    where
      by : (d : Deed g state p q) → get_elem? (deeds_of x) i ≡ some d → (asked : Asked) → IsAskedIn d asked → (link : ℕ) → link_in d ≡ Some link → id_slot (id_of d) < slots → IsMadeIn (view_of x) asked.operation d → IsOwn asked.operation d
      by (operates y how before after a) here asked is link has inside made =
          let id : ℕ = acted_id state p q y.number y.op how before after a in record {
            id = first_id run tasks may notes kept words closing noted asked.operation id inside (let b = noted_among run notes noted c x at (id_slot id) (is_made_for (id_first id) asked.operation) in omega (arith, b, made));
            attempt = at_first refl (first_label asked.operation y.number y.op asked is refl);
          }
      by (retries r before after (had_ended h)) here asked is link has inside made = absurd (none-some link has)
      by (retries r before after (overtaken k u l w)) here asked is link has inside made = absurd (none-some link has)
      by (retries r before after (went_again k u l w)) here asked is link has inside made = subst (λ (a : Asked). IsOwn a.operation (retries r before after (went_again k u l w))) is (record {
        id = again_id run tasks may notes kept words closing noted c x at i r before after k u l w here;
        attempt = again_attempt run tasks may notes kept words closing noted c x at i r before after k u l w k.content.operation r.id r.attempt refl refl here;
      })

  -- ## Of a word that was found

  -- the call, which is operation o, and its attempt, as the word tells them
  pub record IsNamed (o word : ℕ) : Type 0 where
    pub client : ℕ
    pub asked : Asked
    pub task : IsOperation every outcomes client o (ops.Call asked)
    pub attempt : ℕ
    pub attempt_is : attempt_at word ≡ Some attempt
    pub few : attempt ≤ 6
    pub id : IsIdOf slots notes o (call_at word)
    pub low : attempt ≤ last_attempt notes o
    pub on : MayBeOn p every outcomes fixed_here gave orders_here o attempt (name_of asked attempt) (at_word_link word)
    pub lost : LostOn p every outcomes fixed_here gave orders_here o attempt (at_word_link word)

  of_deed : (o word c : ℕ) (x : Client g state p q) → get_elem? crew c ≡ some x → (i : ℕ) (d : Deed g state p q) → get_elem? (deeds_of x) i ≡ some d → IsStoredBy (view_of x) o word d → IsNamed o word
  of_deed o word c x at i d there s =
      let n : ℕ = attempt_of d in let id : ℕ = id_of d in
      let few = attempt_low d in
      let own = own_attempt o word c x at i d there s in
      let is = asked_so c x at i d there s.asked s.is in
      let task : IsOperation every outcomes is.0 o (ops.Call s.asked) = subst (λ (m : ℕ). IsOperation every outcomes is.0 m (ops.Call s.asked)) s.operation is.1 in
      let on = may_be_on run tasks may notes kept words closing noted outcomes drun seats logged differ gave all_there c x at i d there is.0 o id s.asked task own.id own.attempt few s.inside s.asked s.is refl s.link s.link_is in
      let lost = lost_on run tasks may notes kept words closing noted outcomes drun seats logged differ gave all_there c x at i d there is.0 o id s.asked task own.id own.attempt few s.inside s.asked s.is refl s.link s.link_is s.operation s.link_low in
      let back : Reads (at_word (id_first id) (id_slot id) s.link n) (id_first id) (id_slot id) s.link n = reads_back (id_first id) (id_slot id) s.link n (let a = s.inside in omega (arith, a, few_slots)) (let a = s.link_low in omega (arith, a, few_links)) few in
      let r : Reads word (id_first id) (id_slot id) s.link n = subst (λ (w : ℕ). Reads w (id_first id) (id_slot id) s.link n) (sym s.word_is) back in
      let call : call_at word ≡ id = let a = r.first_is in let b = r.slot_is in let whole = div-add-mod' id 4294967296 in omega (arith, a, b, whole) in
      record {
        client = is.0;
        asked = s.asked;
        task = task;
        attempt = n;
        attempt_is = some_attempt word n r.attempt_is few;
        few = few;
        id = subst (IsIdOf slots notes o) (sym call) own.id;
        low = made_low run tasks may notes kept words closing noted o id n own.id c x at i d there own.attempt;
        on = subst (MayBeOn p every outcomes fixed_here gave orders_here o n (name_of s.asked n)) (sym r.link_is) on;
        lost = subst (LostOn p every outcomes fixed_here gave orders_here o n) (sym r.link_is) lost;
      }

  pub named : (o word : ℕ) → 0 < total (is_word (at_index q o) word) kept → IsNamed o word
  named o word found =
      let place : ℕ = at_index q o in
      let k = total_some (is_word place word) kept found in
      let e = kept_word place word k.1 k.3 in
      let stored : 0 < total (is_stored place word) kept = subst (λ (y : ℕ). 0 < total (is_stored place y) kept) e.1 (subst (λ (z : ℕ). 0 < total (is_stored z k.1.word) kept) e.0 (closing.found_stored k.1 k.0 k.2)) in
      let h : View Asked → ℕ = stored_in place word in
      let s = total_some (λ (y : Client g state p q). h (view_of y)) crew (let a = keeps.stored place word in let b = total_map h view_of crew in let d = ap (total h) (views_are run) in omega (arith, stored, a, b, d)) in
      let w = stored_by s.1.thread s.1.is o word s.3 in
      of_deed o word s.0 s.1 s.2 w.0 w.1 w.2 w.3
