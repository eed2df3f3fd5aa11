-- The tasks of a run, and the deeds that are done for them.
use Rattle.std.proofs.Common.{◌≡◌, ℕ, zero, suc, ◌<◌, inl, inr, List, [], ◌∷◌, slice_get, Option, Some, refl, sym, ap, ◌∙◌, subst, arith}
use Rattle.std.proofs.lemmas.Option.{none-some, same_Some}
use mathlib.Core.Logic.{dite}
use native.Mathlib.Decide.{ℕ_discrete, dec_lt}
use lib.ListN.{get_elem?}
use Rattle.rpc_client.specs.message_parts.specs.Parcels.{parcel_of}
use Rattle.sock_io.specs.declared.link.Out.{Ghosts}
use Rattle.sock_io.specs.LinkHalves.{OutState}
use Rattle.sock_words.specs.declared.outcome.Outcome.{Outcome}
use Rattle.sock_words.specs.declared.outcome.Outcome.TheVariants as outcome
use Rattle.sock_words.specs.declared.plain.Plan.{Plan}
use Rattle.sock_words.specs.declared.place_word.PlaceWord.{PlaceWord}
use Rattle.sock_words.specs.declared.vref.Vref.{Vref}
use Rattle.sock_message.specs.Asked.{name_of}
use Rattle.rpc_client.specs.sock_rule.specs.declared.homes.Letter.{Letter}
use Rattle.seat_programs.specs.declared.task.Op.{Op}
use Rattle.seat_programs.specs.declared.task.Op.TheVariants as ops
use Rattle.seat_programs.specs.declared.task.Task.{Task}
use Rattle.seat_programs.specs.Explained.{IsTask, Became, TaskFits, OpFits}
use Rattle.outcome_ticks.specs.outcome_stories.specs.OperationStories.{In}
use Rattle.outcome_ticks.specs.outcome_stories.specs.StoryStepCauses.{Asks}
use Rattle.outcome_ticks.specs.outcome_stories.proofs.Members.{all_in}
use Rattle.outcome_ticks.proofs.TableTasksDistinct.{one_task, fits_of}
use Rattle.report_fits.specs.script_facts.proofs.FilteredLists.{has_from}
use Rattle.sock_deeds.specs.Deeds.{Did, opens, sends, holds, drops, fails, own_number, Deed, own_name}
use Rattle.sock_deeds.specs.SocketTableRun.{IsOperation, IsMessage, of_send, of_call, IsFor, Seated, DeedRun}
use Rattle.sock_deeds.proofs.DeedsOfAllSeats.{Act, did_of, same_seat, same_deed}
use Rattle.sock_deeds.proofs.NumberedDeeds.{IsOnSockets, each_done, deeds_rise}

in_at : (ts : List Task) (k : ℕ) (t : Task) → slice_get ts k ≡ Some t → In t ts
in_at [] k t e = none-some t e
in_at (u ∷ us) zero t e = inl (sym (same_Some u t e))
in_at (u ∷ us) (suc k) t e = inr (in_at us k t e)

-- ## What a deed does for the operation of this number

module _ (clients : List (List Task)) (outcomes : List (Option Outcome)) where
  abbrev pub Does : ℕ → Op → Did → Type 0
  Does number (ops.Open n k) d = (by : Outcome) × (d ≡ opens n number k by) × Became clients outcomes number by
  Does number (ops.Send n bytes) d = (msg : Letter) × (by : Option Outcome) × (d ≡ sends n number 0 msg by) × ((parcel_of msg.bytes).bytes ≡ bytes) × (slice_get outcomes number ≡ Some by)
  Does number (ops.Call asked) d = (msg : Letter) × (by : Option Outcome) × (d ≡ sends (name_of asked 0) number 0 msg by) × (by ≡ Some outcome.Unopened → Became clients outcomes number outcome.Unopened) × (Became clients outcomes number outcome.Unopened → by ≡ Some outcome.Unopened)
  Does number (ops.Expire o) d = ⊥
  Does number (ops.Join o) d = ⊥
  Does number (ops.Hold n) d = (by : Outcome) × (d ≡ holds n number by) × Became clients outcomes number by
  Does number (ops.Drop n) d = (by : Outcome) × (d ≡ drops n number by) × Became clients outcomes number by
  Does number (ops.Fail n code) d = (by : Outcome) × (d ≡ fails n number code by) × Became clients outcomes number by

  -- and that is the operation
  abbrev pub DoesFor : ℕ → ℕ → Did → Type 0
  DoesFor c number d = (op : Op) × IsOperation clients outcomes c number op × Does number op d

  does_message : (c name number : ℕ) (msg : Letter) (by : Option Outcome) → IsMessage clients outcomes c name number 0 msg by → DoesFor c number (sends name number 0 msg by)
  does_message c name number msg by (of_send bytes is first sent told) = (ops.Send name bytes, is, (msg, by, refl, sent, told))
  does_message c name number msg by (of_call client asked is mine low name_is sent told) =
      (ops.Call asked, subst (λ x. IsOperation clients outcomes x number (ops.Call asked)) (mine refl) is, (msg, by, ap (λ n. sends n number 0 msg by) name_is, (told refl).0, (told refl).1))

  pub does : (c : ℕ) (d : Did) (number : ℕ) → own_number d ≡ Some number → IsFor clients outcomes c d → DoesFor c number d
  does c (opens name n link by) number e is = subst (λ x. DoesFor c x (opens name n link by)) (same_Some n number e) (ops.Open name link, is.0, (by, refl, is.1))
  does c (sends name n zero msg by) number e is = subst (λ x. DoesFor c x (sends name n zero msg by)) (same_Some n number e) (does_message c name n msg by is.0)
  does c (sends name n (suc k) msg by) number e is = absurd (none-some number e)
  does c (holds name n by) number e is = subst (λ x. DoesFor c x (holds name n by)) (same_Some n number e) (ops.Hold name, is.0, (by, refl, is.1))
  does c (drops name n by) number e is = subst (λ x. DoesFor c x (drops name n by)) (same_Some n number e) (ops.Drop name, is.0, (by, refl, is.1))
  does c (fails name n code by) number e is = subst (λ x. DoesFor c x (fails name n code by)) (same_Some n number e) (ops.Fail name code, is.0, (by, refl, is.1))
  does c _ number e is = absurd (none-some number e)

module _ {O : Type 0} {g : Ghosts O} {state : O → OutState} {p : Plan} {clients : List (List Task)} {outcomes : List (Option Outcome)} {places : List PlaceWord} {vrefs : List Vref} {outs : List O} (run : DeedRun g state p clients outcomes places vrefs outs) where
  pub asks_of : (c : ℕ) (t : Task) → IsTask clients outcomes c t → Asks clients c t
  asks_of c t is = let h = has_from is.0 t is.2 in (is.0, is.1, in_at is.0 h.0 t h.1)

  -- a number is one task's
  pub same_task : (c d : ℕ) (t u : Task) → IsTask clients outcomes c t → IsTask clients outcomes d u → t.number ≡ u.number → (c ≡ d) × (t ≡ u)
  same_task c d t u a b e = one_task p clients run.tasks c d t u (asks_of c t a) (asks_of d u b) e

  pub one_outcome : (n : ℕ) (x y : Outcome) → Became clients outcomes n x → Became clients outcomes n y → x ≡ y
  one_outcome n x y a b = same_Some x y (same_Some (Some x) (Some y) (sym a ∙ b))

  pub fits : (c : ℕ) (t : Task) → IsTask clients outcomes c t → TaskFits p t
  fits c t is = let s = asks_of c t is in all_in (TaskFits p) s.0 t (fits_of p clients run.tasks c s.0 s.1) s.2

  pub is_for : (a : Act run) → IsFor clients outcomes a.c (did_of run a)
  is_for a = run.for_task a.c a.k a.y a.d a.at a.is

  -- ## Names

  abbrev op_fits : (c number : ℕ) (op : Op) → IsOperation clients outcomes c number op → OpFits p op
  op_fits c number op is = (fits c record { number = number; op = op } is).1

  low_message : (c name number attempt : ℕ) (msg : Letter) (by : Option Outcome) → IsMessage clients outcomes c name number attempt msg by → name < p.names
  low_message c name number attempt msg by (of_send bytes is first sent told) = (op_fits c number (ops.Send name bytes) is).0
  low_message c name number attempt msg by (of_call client asked is mine low name_is sent told) = subst (λ n. n < p.names) (sym name_is) ((op_fits client number (ops.Call asked) is).names attempt)

  -- the table has the name
  pub low_name : (c : ℕ) (d : Did) (n : ℕ) → own_name d ≡ Some n → IsFor clients outcomes c d → n < p.names
  low_name c (opens name number link by) n e is = subst (λ m. m < p.names) (same_Some name n e) (op_fits c number (ops.Open name link) is.0).0
  low_name c (sends name number attempt msg by) n e is = subst (λ m. m < p.names) (same_Some name n e) (low_message c name number attempt msg by is.0)
  low_name c (holds name number by) n e is = subst (λ m. m < p.names) (same_Some name n e) (op_fits c number (ops.Hold name) is.0)
  low_name c (drops name number by) n e is = subst (λ m. m < p.names) (same_Some name n e) (op_fits c number (ops.Drop name) is.0)
  low_name c (fails name number code by) n e is = subst (λ m. m < p.names) (same_Some name n e) (op_fits c number (ops.Fail name code) is.0).0
  low_name c _ n e is = absurd (none-some n e)

  pub act_name : (a : Act run) (n : ℕ) → own_name (did_of run a) ≡ Some n → n < p.names
  act_name a n e = low_name a.c (did_of run a) n e (is_for a)

  -- ## Each task's deed

  pub act_of : (c : ℕ) (t : Task) → IsTask clients outcomes c t → IsOnSockets t.op → (a : Act run) × (a.c ≡ c) × (own_number (did_of run a) ≡ Some t.number)
  act_of c t is on = let w = each_done run c t is on in (record { c = c; y = w.0; at = w.3; k = w.1; d = w.2; is = w.4 }, refl, w.5)

  -- a deed that has a task's number does what the task asks for, and is its client's
  pub act_does : (a : Act run) (c : ℕ) (t : Task) → IsTask clients outcomes c t → own_number (did_of run a) ≡ Some t.number → (a.c ≡ c) × Does clients outcomes t.number t.op (did_of run a)
  act_does a c t is e =
      let w = does clients outcomes a.c (did_of run a) t.number e (is_for a) in
      let q = same_task a.c c record { number = t.number; op = w.0 } t w.1 is refl in
      (q.0, subst (λ (op : Op). Does clients outcomes t.number op (did_of run a)) (ap (λ (u : Task). u.op) q.1) w.2)

  pub task_does : (c : ℕ) (t : Task) → IsTask clients outcomes c t → IsOnSockets t.op → (a : Act run) × (a.c ≡ c) × Does clients outcomes t.number t.op (did_of run a)
  task_does c t is on = let w = act_of c t is on in (w.0, w.1, (act_does w.0 c t is w.2).1)

  -- ## The order of a client's deeds

  -- of two deeds of a seat the earlier one has the lower number
  pub rises : (a b : Act run) (m n : ℕ) → a.c ≡ b.c → a.k < b.k → own_number (did_of run a) ≡ Some m → own_number (did_of run b) ≡ Some n → m < n
  rises a b m n same less ea eb = deeds_rise run a.c a.k b.k m n a.y a.d b.d a.at less a.is (ap (λ (y : Seated g state p). get_elem? y.deeds b.k) (sym (same_seat run a b same)) ∙ b.is) ea eb

  -- and the deed of the lower number is the earlier one
  pub earlier : (a b : Act run) (m n : ℕ) → a.c ≡ b.c → m < n → own_number (did_of run a) ≡ Some m → own_number (did_of run b) ≡ Some n → a.k < b.k
  earlier a b m n same less ea eb = dite (dec_lt a.k b.k) (λ lt. lt) (λ ge. absurd (dite (ℕ_discrete a.k b.k)
      (λ q. (let e : m ≡ n = same_Some m n (sym ea ∙ (ap (λ (d : Deed g state p). own_number d.did) (same_deed run a b same q) ∙ eb)) in omega arith))
      (λ ne. (let r = rises b a n m (sym same) (omega arith) eb ea in omega arith))))

  -- two deeds of one number are one
  pub one_place : (a b : Act run) (n : ℕ) → own_number (did_of run a) ≡ Some n → own_number (did_of run b) ≡ Some n → (a.c ≡ b.c) × (a.k ≡ b.k)
  one_place a b n ea eb =
      let v = does clients outcomes a.c (did_of run a) n ea (is_for a) in
      let w = does clients outcomes b.c (did_of run b) n eb (is_for b) in
      let client = (same_task a.c b.c record { number = n; op = v.0 } record { number = n; op = w.0 } v.1 w.1 refl).0 in
      (client, dite (ℕ_discrete a.k b.k) (λ q. q) (λ ne. absurd (dite (dec_lt a.k b.k) (λ lt. (let r = rises a b n n client lt ea eb in omega arith)) (λ ge. (let r = rises b a n n (sym client) (omega arith) eb ea in omega arith)))))
