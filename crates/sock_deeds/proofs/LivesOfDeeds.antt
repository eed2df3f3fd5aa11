-- Lives and the deeds that made them.
use Rattle.std.proofs.Common.{◌≡◌, ℕ, ◌+◌, ◌<◌, List, Option, refl, sym, ap, ◌∙◌, subst, arith}
use Rattle.std.proofs.lemmas.Bool.{true≢false}
use Rattle.std.proofs.lemmas.Option.{same_Some}
use Rattle.atomic_table.specs.Table.{Me}
use Rattle.sock_io.specs.declared.link.Out.{Ghosts}
use Rattle.sock_io.specs.LinkHalves.{OutState}
use Rattle.sock_words.specs.declared.outcome.Outcome.{Outcome}
use Rattle.sock_words.specs.declared.outcome.Outcome.TheVariants as outcome
use Rattle.sock_words.specs.declared.plain.Plan.{Plan}
use Rattle.sock_words.specs.declared.place_word.PlaceWord.{PlaceWord}
use Rattle.sock_words.specs.declared.socket_id.SocketId.{SocketId}
use Rattle.sock_words.specs.declared.vref.Vref.{Vref}
use Rattle.sock_words.specs.PackedWords.{socket_id_version, socket_id_slot}
use Rattle.sock_model.specs.declared.marks.Mark.{Mark}
use Rattle.sock_model.specs.declared.marks.Mark.TheVariants.{Born, Linked, Failer}
use Rattle.sock_model.specs.declared.view.View.{View}
use Rattle.sock_model.specs.SocketTableLayout.{name_index, open_index}
use Rattle.sock_model.specs.SlotRows.{marks_of}
use Rattle.sock_model.specs.MarkWeights.{is_born, is_linked, is_failer, only}
use Rattle.slot_steps.proofs.RuleNumbers.{only-same, pair_is}
use Rattle.seat_programs.specs.declared.task.Op.{Op}
use Rattle.seat_programs.specs.declared.task.Op.TheVariants as ops
use Rattle.seat_programs.specs.declared.task.Task.{Task}
use Rattle.seat_programs.specs.Explained.{Made}
use Rattle.rpc_client.specs.OpenOutcomes.{OpenedBy}
use Rattle.sock_deeds.specs.Deeds.{Hand, Did, opens, DoneBy, Deed, own_number}
use Rattle.sock_deeds.specs.SocketTableRun.{IsFor, DeedRun}
use Rattle.sock_deeds.proofs.NumberedDeeds.{IsOnSockets}
use Rattle.sock_deeds.proofs.DeedsOfAllSeats.{Act, All, before, after, did_of, done_of, has_found, lives_from, puts_from, once_added, same_deed}
use Rattle.sock_deeds.proofs.GrowingSocketNotes.{HasFound, put_grew}
use Rattle.sock_deeds.proofs.Sources.{IsOfLife, Source, by_open, by_fail, by_set, by_write, done_source}
use Rattle.sock_deeds.proofs.WordStoresOfDeeds.{done_puts}
use Rattle.sock_deeds.proofs.DeedsForTasks.{Does, is_for, one_outcome, task_does}

-- ## Weights

pub born_life : (h : ℕ) → IsOfLife (is_born h)
born_life h (Born k) e = absurd (true≢false e)
born_life h _ e = refl

pub linked_life : (h k : ℕ) → IsOfLife (is_linked h k)
linked_life h k (Linked a b) e = absurd (true≢false e)
linked_life h k _ e = refl

pub failer_life : (h : ℕ) → IsOfLife (is_failer h)
failer_life h (Failer k) e = absurd (true≢false e)
failer_life h _ e = refl

-- ## An `open` that made a socket

opened_born : {S : Type 0} (p : Plan) (name operation link slot version k : ℕ) (m n : Me S View) → OpenedBy p name operation link (outcome.Opened slot version k) m n → marks_of (is_born version) slot m.0 < marks_of (is_born version) slot n.0
opened_born p name operation link slot version k m n b =
    let o = b.4 in
    let f : Mark → ℕ = is_born (socket_id_version b.0.0) in
    let i = socket_id_slot b.0.0 in
    let e : marks_of f i o.made.0 ≡ marks_of f i m.0 + (0 + (only (socket_id_version b.0.0) (socket_id_version b.0.0) + 0)) = o.created.here f in
    let q = only-same (socket_id_version b.0.0) in
    let g1 = (put_grew (open_index p operation) (b.0.0 + 1) o.made o.told o.noted).marks f (λ h. refl) i in
    let g2 = (put_grew (name_index p name) (b.0.0 + 1) o.told n o.published).marks f (λ h. refl) i in
    let less : marks_of f i m.0 < marks_of f i n.0 = omega arith in
    subst (λ s. marks_of (is_born version) s m.0 < marks_of (is_born version) s n.0) (sym b.1) (subst (λ v. marks_of (is_born v) i m.0 < marks_of (is_born v) i n.0) (sym b.2) less)

module _ {O : Type 0} (g : Ghosts O) (state : O → OutState) (p : Plan) (name number link slot version k : ℕ) (d : Did) (s t : Hand) (is : d ≡ opens name number link (outcome.Opened slot version k)) (b : DoneBy g state p d s t) where
  as_open : DoneBy g state p (opens name number link (outcome.Opened slot version k)) s t
  as_open = subst (λ (x : Did). DoneBy g state p x s t) is b

  pub done_born : marks_of (is_born version) slot s.view < marks_of (is_born version) slot t.view
  done_born = let o = as_open in opened_born p name number link slot version k (s.view, o.0.0) (t.view, o.0.1) o.0.2

  -- its slot is one of the table
  pub done_inside : slot < p.slots
  done_inside = let o = as_open.0.2 in subst (λ x. x < p.slots) (sym o.1) o.4.inside

module _ {O : Type 0} {g : Ghosts O} {state : O → OutState} {p : Plan} {clients : List (List Task)} {outcomes : List (Option Outcome)} {places : List PlaceWord} {vrefs : List Vref} {outs : List O} (run : DeedRun g state p clients outcomes places vrefs outs) where
  abbrev pub MadeHere : ℕ → ℕ → ℕ → ℕ → Type 0
  MadeHere n k slot version = Made clients outcomes n k slot version

  -- the deed made this life with this link
  abbrev pub OpensLife : Act run → ℕ → ℕ → ℕ → ℕ → ℕ → Type 0
  OpensLife a n number k slot version = did_of run a ≡ opens n number k (outcome.Opened slot version k)

  pub made_of : (a : Act run) (n number k slot version : ℕ) → OpensLife a n number k slot version → MadeHere n k slot version
  made_of a n number k slot version e =
      let w = subst (IsFor clients outcomes a.c) e (is_for run a) in
      record { client = a.c; task = record { number = number; op = ops.Open n k }; is = w.0; op = refl; became = w.1 }

  -- the deed that made it
  pub maker : (n k slot version : ℕ) (m : MadeHere n k slot version) → (a : Act run) × (a.c ≡ m.client) × OpensLife a n m.task.number k slot version
  maker n k slot version m =
      let w = task_does run m.client m.task m.is (subst IsOnSockets (sym m.op) tt) in
      let d = subst (λ (op : Op). Does clients outcomes m.task.number op (did_of run w.0)) m.op w.2 in
      (w.0, w.1, d.1 ∙ ap (opens n m.task.number k) (one_outcome run m.task.number d.0 (outcome.Opened slot version k) d.2 m.became))

  pub act_born : (a : Act run) (n number k slot version : ℕ) → OpensLife a n number k slot version → marks_of (is_born version) slot (before run a) < marks_of (is_born version) slot (after run a)
  act_born a n number k slot version e = done_born g state p n number k slot version k (did_of run a) a.d.before a.d.after e (done_of run a)

  -- the life of a slot that was made with a link was made by an `open` of that link
  pub linked_made : (i h k : ℕ) → 0 < marks_of (is_linked h k) i (All run) → (n : ℕ) × MadeHere n k i h
  linked_made i h k some_ =
      let w = lives_from run (is_linked h k) (linked_life h k) (λ x. refl) i some_ in
      by_source w.0 (done_source (is_linked h k) (linked_life h k) g state p (did_of run w.0) w.0.d.before w.0.d.after (done_of run w.0) i w.1)
    where
      by_source : (a : Act run) → Source (is_linked h k) (linked_life h k) g state p i (did_of run a) a.d.before a.d.after (done_of run a) → (n : ℕ) × MadeHere n k i h
      by_source a (by_open name number version link e weighs) = let q = pair_is h k version link (omega arith) in subst (λ l. (n : ℕ) × MadeHere n l i h) q.1 (subst (λ v. (n : ℕ) × MadeHere n link i v) q.0 (name, made_of a name number link i version e))
      by_source a (by_fail name number code e f) = absurd (let m = f.3 in omega arith)
      by_source a (by_set id code e slot weighs) = absurd (omega arith)
      by_source a (by_write id v w all grew f listed) = absurd (let m = f.weighs in omega arith)

  -- what was found under a name is a life that an `open` of the name made
  pub found_made : (a : Act run) (n : ℕ) (id : SocketId) → n < p.names → HasFound record { place = name_index p n; word = id.0 + 1 } (after run a) → (k : ℕ) × MadeHere n k (socket_id_slot id.0) (socket_id_version id.0)
  found_made a n id low found =
      let h = has_found run a record { place = name_index p n; word = id.0 + 1 } found in
      let w = puts_from run (name_index p n) (id.0 + 1) (run.closed.closing.found_was h.0 record { place = name_index p n; word = id.0 + 1 } h.1) in
      let b = w.0 in
      let u = done_puts p n (id.0 + 1) low g state (did_of run b) b.d.before b.d.after (done_of run b) w.1 in
      let q : u.1.id.0 ≡ id.0 = (let e = u.1.word in omega arith) in
      (u.1.link, subst (λ x. MadeHere n u.1.link (socket_id_slot x) (socket_id_version x)) q (made_of b n u.0 u.1.link (socket_id_slot u.1.id.0) (socket_id_version u.1.id.0) u.1.did_is))

  -- a socket that was opened is of a slot of the table
  pub made_inside : (n k slot version : ℕ) → MadeHere n k slot version → slot < p.slots
  made_inside n k slot version m = let w = maker n k slot version m in let a = w.0 in done_inside g state p n m.task.number k slot version k (did_of run a) a.d.before a.d.after w.2 (done_of run a)

  -- no two opens made the same life
  pub lives : (n k m l slot version : ℕ) (a : MadeHere n k slot version) (b : MadeHere m l slot version) → a.task.number ≡ b.task.number
  lives n k m l slot version a b =
      let x = maker n k slot version a in
      let y = maker m l slot version b in
      let low = made_inside n k slot version a in
      let q = once_added run (is_born version) (λ x. refl) slot (run.closed.closing.born_once slot version low) x.0 y.0 (act_born x.0 n a.task.number k slot version x.2) (act_born y.0 m b.task.number l slot version y.2) in
      same_Some a.task.number b.task.number (ap own_number (sym x.2 ∙ (ap (λ (d : Deed g state p). d.did) (same_deed run x.0 y.0 q.0 q.1) ∙ y.2)))
