-- Lives that were failed by a `fail` of their name.
use Rattle.std.proofs.Common.{◌≡◌, ℕ, ◌+◌, ◌<◌, ◌≤◌, List, [], ◌∷◌, Option, Some, refl, sym, ap, ◌∙◌, subst, arith}
use Rattle.std.specs.Prelude.{slice_index}
use Rattle.std.proofs.lemmas.Option.{same_Some}
use mathlib.Core.Logic.{dite}
use native.Mathlib.Decide.{dec_lt}
use mathlib.Core.Option as core
use mathlib.Core.Option.{some, some-injective}
use lib.ListN.{get_elem?}
use Rattle.sock_io.specs.declared.link.Out.{Ghosts}
use Rattle.sock_io.specs.LinkHalves.{OutState}
use Rattle.sock_words.specs.declared.outcome.Outcome.{Outcome}
use Rattle.sock_words.specs.declared.outcome.Outcome.TheVariants as outcome
use Rattle.sock_words.specs.declared.plain.Plan.{Plan}
use Rattle.sock_words.specs.declared.place_word.PlaceWord.{PlaceWord}
use Rattle.sock_words.specs.declared.vref.Vref.{Vref}
use Rattle.sock_words.specs.PackedWords.{socket_id_version, socket_id_slot, vref_version}
use Rattle.sock_model.specs.declared.marks.Mark.{Mark}
use Rattle.sock_model.specs.declared.view.StoredWord.{StoredWord}
use Rattle.sock_model.specs.declared.view.View.{View}
use Rattle.sock_model.specs.SocketTableLayout.{name_index, ref_index}
use Rattle.sock_model.specs.SlotRows.{marks_of}
use Rattle.sock_model.specs.MarkWeights.{is_born, is_failer, only}
use Rattle.slot_steps.proofs.RuleNumbers.{only-same}
use Rattle.seat_programs.specs.declared.task.Op.{Op}
use Rattle.seat_programs.specs.declared.task.Op.TheVariants as ops
use Rattle.seat_programs.specs.declared.task.Task.{Task}
use Rattle.seat_programs.specs.Explained.{IsTask, Became, IsFail}
use Rattle.outcome_ticks.proofs.TableTasksDistinct.{one_link}
use Rattle.rpc_client.specs.sock_table.specs.declared.refs.SockRef.{SockRef}
use Rattle.rpc_client.specs.declared.reaching.Reached.TheVariants as reached
use Rattle.rpc_client.specs.FailOutcomes.{TriedTo}
use Rattle.rpc_client.specs.ReachingByName.{ReachedBy}
use Rattle.sock_deeds.specs.Deeds.{Did, fails, DoneBy, Deed, own_number, own_name}
use Rattle.sock_deeds.specs.SocketTableRun.{IsFor, DeedRun}
use Rattle.sock_deeds.proofs.DeedsOfAllSeats.{Act, All, before, after, did_of, done_of, has_marks, once_added, same_deed}
use Rattle.sock_deeds.proofs.GrowingSocketNotes.{HasFound, grew_then, added_grew, back_grew, reached_grew}
use Rattle.sock_deeds.proofs.LivesOfDeeds.{MadeHere, maker, act_born, found_made, made_inside, lives}
use Rattle.sock_deeds.proofs.DeedsForTasks.{is_for, asks_of, same_task, one_outcome, act_name, one_place}

-- ## What was found under a name

pub here_found : (p : Plan) (n : ℕ) (sock : SockRef) (v w : View) → ReachedBy p n (reached.Here sock) v w → HasFound record { place = name_index p n; word = sock.id.0 + 1 } w
here_found p n sock v w r = (0, ap (λ (y : View). get_elem? y.finds 0) r.2.others ∙ ap (λ (y : View). get_elem? y.finds 0) r.1.1.view)

-- its steps noted that they failed the life
tried_fails : (p : Plan) (n code : ℕ) (v w : View) (t : TriedTo p n code outcome.Failed v w) → marks_of (is_failer (socket_id_version t.sock.id.0)) (socket_id_slot t.sock.id.0) v < marks_of (is_failer (socket_id_version t.sock.id.0)) (socket_id_slot t.sock.id.0) w
tried_fails p n code v w t =
    let f : Mark → ℕ = is_failer (socket_id_version t.sock.id.0) in
    let i = socket_id_slot t.sock.id.0 in
    let a = (reached_grew p n (reached.Here t.sock) v t.has t.reached_it).marks f (λ h. refl) i in
    let e : marks_of f i t.set + 0 ≡ marks_of f i t.has + (only (socket_id_version t.sock.id.0) (socket_id_version t.sock.id.0) + (0 + (0 + (0 + 0)))) = t.set_by.here f in
    let q = only-same (socket_id_version t.sock.id.0) in
    let c = (back_grew i (socket_id_version t.sock.id.0) t.set w t.ended t.back).marks f (λ h. refl) i in
    omega arith

tried_finds : (p : Plan) (n code : ℕ) (v w : View) (t : TriedTo p n code outcome.Failed v w) → w.finds ≡ record { place = name_index p n; word = t.sock.id.0 + 1 } ∷ v.finds
tried_finds p n code v w t = ap (λ (y : View). y.finds) t.back.became.others ∙ (ap (λ (y : View). y.finds) t.set_by.others ∙ (ap (λ (y : View). y.finds) t.reached_it.2.others ∙ ap (λ (y : View). y.finds) t.reached_it.1.1.view))

first_word : (x y : StoredWord) (s t : List StoredWord) → x ∷ s ≡ y ∷ t → x.word ≡ y.word
first_word x y s t e = some-injective x.word y.word (ap (λ (l : List StoredWord). elim l as (λ l. core.Option ℕ) [ [] ↦ core.none | z ∷ zs ↦ some z.word ]) e)

slot_in : Outcome → ℕ
slot_in (outcome.Opened slot version k) = slot
slot_in other = 0

version_in : Outcome → ℕ
version_in (outcome.Opened slot version k) = version
version_in other = 0

opened_name : Op → ℕ
opened_name (ops.Open n k) = n
opened_name other = 0

opened_link : Op → ℕ
opened_link (ops.Open n k) = k
opened_link other = 0

module _ {O : Type 0} {g : Ghosts O} {state : O → OutState} {p : Plan} {clients : List (List Task)} {outcomes : List (Option Outcome)} {places : List PlaceWord} {vrefs : List Vref} {outs : List O} (run : DeedRun g state p clients outcomes places vrefs outs) where
  -- a life has one name and one link
  pub life_is : (n m k l slot version : ℕ) → MadeHere run n k slot version → MadeHere run m l slot version → (n ≡ m) × (k ≡ l)
  unfolding opened_name opened_link
  life_is n m k l slot version a b =
      let same = (same_task run a.client b.client a.task b.task a.is b.is (lives run n k m l slot version a b)).1 in
      let op : ops.Open n k ≡ ops.Open m l = sym a.op ∙ (ap (λ (t : Task). t.op) same ∙ b.op) in
      (ap opened_name op, ap opened_link op)

  -- and a link one life
  pub link_is : (n m k s t v w : ℕ) → MadeHere run n k s v → MadeHere run m k t w → (s ≡ t) × (v ≡ w)
  unfolding slot_in version_in
  link_is n m k s t v w a b =
      let same = one_link p clients run.tasks a.client b.client n m k a.task b.task (asks_of run a.client a.task a.is) (asks_of run b.client b.task b.is) a.op b.op in
      let o : outcome.Opened s v k ≡ outcome.Opened t w k = one_outcome run a.task.number (outcome.Opened s v k) (outcome.Opened t w k) a.became (subst (λ (x : Task). Became clients outcomes x.number (outcome.Opened t w k)) (sym same) b.became) in
      (ap slot_in o, ap version_in o)

  -- a life is failed once at most
  pub failer_once : (i h : ℕ) → i < p.slots → 0 < marks_of (is_born h) i (All run) → marks_of (is_failer h) i (All run) ≤ 1
  failer_once i h low born = let c = run.closed.closing in dite (dec_lt h (vref_version (slice_index run.closed.words (ref_index i))))
      (λ lt. (let e = c.failed_once i h low born lt in omega arith))
      (λ ge. (let e = c.not_failed i h low (omega arith) in omega arith))

  pub made_born : (n k i h : ℕ) → MadeHere run n k i h → 0 < marks_of (is_born h) i (All run)
  made_born n k i h m = let w = maker run n k i h m in let b = act_born run w.0 n m.task.number k i h w.2 in let a = has_marks run w.0 (is_born h) (λ x. refl) i in omega arith

  -- ## The `fail`s that were answered `failed`

  -- the deed is such a `fail`, and the life that it failed
  pub record FailedLife (a : Act run) : Type 0 where
    pub name : ℕ
    pub number : ℕ
    pub code : ℕ
    pub did_is : did_of run a ≡ fails name number code outcome.Failed
    pub tried : TriedTo p name code outcome.Failed (before run a) (after run a)
    pub link : ℕ
    pub made : MadeHere run name link (socket_id_slot tried.sock.id.0) (socket_id_version tried.sock.id.0)

  abbrev pub life_by : (a : Act run) (name number code : ℕ) → did_of run a ≡ fails name number code outcome.Failed → TriedTo p name code outcome.Failed (before run a) (after run a) → FailedLife a
  life_by a name number code is t =
      let found = here_found p name t.sock (before run a) t.has t.reached_it in
      let later = grew_then t.has t.set (after run a) (added_grew (socket_id_slot t.sock.id.0) t.has t.set _ t.set_by) (back_grew (socket_id_slot t.sock.id.0) (socket_id_version t.sock.id.0) t.set (after run a) t.ended t.back) in
      let made = found_made run a name t.sock.id (act_name run a name (ap own_name is)) (later.finds record { place = name_index p name; word = t.sock.id.0 + 1 } found) in
      record { name = name; number = number; code = code; did_is = is; tried = t; link = made.0; made = made.1 }

  pub failed_life : (a : Act run) (name number code : ℕ) → did_of run a ≡ fails name number code outcome.Failed → FailedLife a
  failed_life a name number code is = life_by a name number code is (subst (λ (d : Did). DoneBy g state p d a.d.before a.d.after) is (done_of run a)).0

  pub fail_for : (a : Act run) (l : FailedLife a) → IsTask clients outcomes a.c record { number = l.number; op = ops.Fail l.name l.code } × Became clients outcomes l.number outcome.Failed
  fail_for a l = subst (IsFor clients outcomes a.c) l.did_is (is_for run a)

  pub as_fail : (a : Act run) (l : FailedLife a) → IsFail clients outcomes (l.number, l.link)
  as_fail a l = let w = fail_for a l in record {
    client = a.c;
    task = record { number = l.number; op = ops.Fail l.name l.code };
    is = w.0;
    numbered = refl;
    name = l.name;
    code = l.code;
    op = refl;
    became = w.1;
    slot = socket_id_slot l.tried.sock.id.0;
    version = socket_id_version l.tried.sock.id.0;
    life = l.made;
  }

  pub number_of_fail : (a : Act run) (l : FailedLife a) → own_number (did_of run a) ≡ Some l.number
  number_of_fail a l = ap own_number l.did_is

  -- two of one link are one
  pub fails_once : (a b : Act run) (l : FailedLife a) (m : FailedLife b) → l.link ≡ m.link → l.number ≡ m.number
  fails_once a b l m same =
      let i = socket_id_slot l.tried.sock.id.0 in
      let h = socket_id_version l.tried.sock.id.0 in
      let j = socket_id_slot m.tried.sock.id.0 in
      let r = socket_id_version m.tried.sock.id.0 in
      let q : (i ≡ j) × (h ≡ r) = link_is l.name m.name l.link i j h r l.made (subst (λ k. MadeHere run m.name k j r) (sym same) m.made) in
      let few = failer_once i h (made_inside run l.name l.link i h l.made) (made_born l.name l.link i h l.made) in
      let mine = tried_fails p l.name l.code (before run a) (after run a) l.tried in
      let its = tried_fails p m.name m.code (before run b) (after run b) m.tried in
      let its_ : marks_of (is_failer h) i (before run b) < marks_of (is_failer h) i (after run b) = subst (λ x. marks_of (is_failer h) x (before run b) < marks_of (is_failer h) x (after run b)) (sym q.0) (subst (λ x. marks_of (is_failer x) j (before run b) < marks_of (is_failer x) j (after run b)) (sym q.1) its) in
      let one = once_added run (is_failer h) (λ x. refl) i few a b mine its_ in
      same_Some l.number m.number (sym (number_of_fail a l) ∙ (ap (λ (d : Deed g state p). own_number d.did) (same_deed run a b one.0 one.1) ∙ number_of_fail b m))

  -- the life that an operation failed has one link
  pub same_link : (a b : Act run) (l : FailedLife a) (m : FailedLife b) → l.number ≡ m.number → l.link ≡ m.link
  same_link a b l m same =
      let at = one_place run a b l.number (number_of_fail a l) (number_of_fail b m ∙ ap Some (sym same)) in
      let e = same_deed run a b at.0 at.1 in
      let x : StoredWord = record { place = name_index p l.name; word = l.tried.sock.id.0 + 1 } in
      let y : StoredWord = record { place = name_index p m.name; word = m.tried.sock.id.0 + 1 } in
      let word = first_word x y (before run a).finds (before run b).finds (sym (tried_finds p l.name l.code (before run a) (after run a) l.tried) ∙ (ap (λ (d : Deed g state p). d.after.view.finds) e ∙ tried_finds p m.name m.code (before run b) (after run b) m.tried)) in
      let id : l.tried.sock.id.0 ≡ m.tried.sock.id.0 = omega arith in
      (life_is l.name m.name l.link m.link (socket_id_slot l.tried.sock.id.0) (socket_id_version l.tried.sock.id.0) l.made
      (subst (λ x. MadeHere run m.name m.link (socket_id_slot x) (socket_id_version x)) (sym id) m.made)).1
