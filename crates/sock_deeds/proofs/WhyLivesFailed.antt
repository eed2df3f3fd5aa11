-- The list of `fail`s that failed a life, the links that failed or whose reading ended early, and why each failed life was failed.
use Rattle.std.proofs.Common.{◌≡◌, ◌≢◌, ℕ, zero, suc, ◌+◌, ◌<◌, ◌≤◌, ◌⊎◌, inl, inr, true, List, flat_map, filter_map, slice_get, option_map, Option, Some, None, Contains, refl, sym, ap, ◌∙◌, subst, arith}
use Rattle.std.specs.List.{AllByRecursion}
use Rattle.std.proofs.lemmas.Option.{none-some, same_Some, slice_get_within}
use native.Mathlib.Decide.{dec_lt}
use mathlib.Core.Option.{some, some-ne-none}
use lib.ListN.{get_elem?}
use Rattle.brpc_model.specs.Order.{EachBefore}
use Rattle.sock_io.specs.declared.link.Out.{Ghosts}
use Rattle.sock_io.specs.LinkHalves.{OutState}
use Rattle.sock_words.specs.declared.outcome.Outcome.{Outcome}
use Rattle.sock_words.specs.declared.outcome.Outcome.TheVariants as outcome
use Rattle.sock_words.specs.declared.plain.Plan.{Plan}
use Rattle.sock_words.specs.declared.place_word.PlaceWord.{PlaceWord}
use Rattle.sock_words.specs.declared.vref.Vref.{Vref}
use Rattle.sock_words.specs.PackedWords.{socket_id_version, socket_id_slot}
use Rattle.sock_model.specs.SlotRows.{marks_of}
use Rattle.sock_model.specs.MarkWeights.{is_saw, is_failer, is_met}
use Rattle.slot_steps.proofs.RuleNumbers.{only_is}
use Rattle.seat_programs.specs.declared.task.Op.{Op}
use Rattle.seat_programs.specs.declared.task.Op.TheVariants as ops
use Rattle.seat_programs.specs.declared.task.Task.{Task}
use Rattle.seat_programs.specs.ScheduledRuns.{from_to}
use Rattle.seat_programs.specs.Explained.{Became, IsFail}
use Rattle.report_fits.specs.script_facts.proofs.FilteredLists.{Has, contains_from, all_from, has_filter_map, filter_map_has, before_filter_map, before_from}
use Rattle.sock_deeds.specs.Deeds.{fails, sets, own_number}
use Rattle.sock_deeds.specs.BrokenLinksNoted.{faults_of}
use Rattle.sock_deeds.specs.SocketTableRun.{IsOperation, IsFor, IsById, IsReaderCode, Seated, ReaderSeat, early_of, DeedRun}
use Rattle.sock_deeds.proofs.DeedsOfAllSeats.{Act, Read, All, after, did_of, done_of, has_marks, Late, noted_before, read_is_by_id, marks_from}
use Rattle.sock_deeds.proofs.DeedsByIdsAlone.{no_faults, SetNow}
use Rattle.sock_deeds.proofs.LivesFailedByName.{FailedLife, number_of_fail, failed_life, life_by, fail_for, as_fail, fails_once, same_link, life_is, made_born}
use Rattle.sock_deeds.proofs.Flats.{flat_there}
use Rattle.sock_deeds.proofs.LivesOfDeeds.{MadeHere, linked_made, failer_life}
use Rattle.sock_deeds.proofs.NotedLifeOfReader.{noted_made}
use Rattle.sock_deeds.proofs.ListPlaces.{to_slice}
use Rattle.sock_deeds.proofs.ReaderSocketDeeds.{read_sets, early_there}
use Rattle.sock_deeds.proofs.Sources.{Source, by_open, by_fail, by_set, by_write, done_source}
use Rattle.sock_deeds.proofs.DeedsForTasks.{is_for, same_task, one_outcome, task_does}
use Rattle.report_fits.specs.script_facts.proofs.Flat.{from_to_at}

-- ## A value for each number below a bound

module _ {A : Type 0} (P : ℕ → A → Type 0) (d : A) (n : ℕ) (h : (k : ℕ) → k < n → (x : A) × P k x) where
  chosen_by : (k : ℕ) → Dec (k < n) → A
  chosen_by k (yes lt) = (h k lt).0
  chosen_by k (no ge) = d

  chosen_is : (k : ℕ) (dec : Dec (k < n)) → k < n → P k (chosen_by k dec)
  unfolding chosen_by
  chosen_is k (yes lt) low = (h k lt).1
  chosen_is k (no ge) low = absurd (ge low)

  pub choose : (f : ℕ → A) × ((k : ℕ) → k < n → P k (f k))
  choose = (λ k. chosen_by k (dec_lt k n), λ k low. chosen_is k (dec_lt k n) low)

-- ## Numbers from 0

range_get : (a n i x : ℕ) → slice_get (from_to a n) i ≡ Some x → (i < n) × (x ≡ a + i)
range_get a zero i x e = absurd (none-some x e)
range_get a (suc n) zero x e = let q = same_Some a x e in (omega arith, omega arith)
range_get a (suc n) (suc i) x e = let r = range_get (a + 1) n i x e in let low = r.0 in let is = r.1 in (omega arith, omega arith)

paired : (o : ℕ) (x : Option ℕ) (y : ℕ × ℕ) → option_map (λ (k : ℕ). (o, k)) x ≡ Some y → (o ≡ y.0) × (x ≡ Some y.1)
paired o None y e = absurd (none-some y e)
paired o (Some k) y e = let q = same_Some (o, k) y e in (ap (λ (z : ℕ × ℕ). z.0) q, ap (λ (z : ℕ × ℕ). Some z.1) q)

some_none : {A : Type 0} (x : A) (o : Option A) → o ≡ Some x → o ≡ None → ⊥
some_none x o e f = cc

module _ {O : Type 0} {g : Ghosts O} {state : O → OutState} {p : Plan} {clients : List (List Task)} {outcomes : List (Option Outcome)} {places : List PlaceWord} {vrefs : List Vref} {outs : List O} (run : DeedRun g state p clients outcomes places vrefs outs) where
  -- operation o failed a life with link k
  pub record FailsLink (o k : ℕ) : Type 0 where
    pub a : Act run
    pub life : FailedLife run a
    pub number : life.number ≡ o
    pub link : life.link ≡ k

  -- it is a `fail` that was answered `failed`
  pub record FailedAt (o : ℕ) : Type 0 where
    pub client : ℕ
    pub name : ℕ
    pub code : ℕ
    pub is : IsOperation clients outcomes client o (ops.Fail name code)
    pub became : Became clients outcomes o outcome.Failed

  fails_of : (o : ℕ) → FailedAt o → (k : ℕ) × FailsLink o k
  fails_of o f =
      let w = task_does run f.client record { number = o; op = ops.Fail f.name f.code } f.is tt in
      let d = w.2.1 ∙ ap (fails f.name o f.code) (one_outcome run o w.2.0 outcome.Failed w.2.2 f.became) in
      let l = failed_life run w.0 f.name o f.code d in
      (l.link, record { a = w.0; life = l; number = same_Some l.number o (sym (number_of_fail run w.0 l) ∙ ap own_number d); link = refl })

  failed_or_not : (o : ℕ) → FailedAt o ⊎ (FailedAt o → ⊥)
  failed_or_not o = by_cases (slice_get outcomes o) refl
    where
      is_not : (x : Option (Option Outcome)) → slice_get outcomes o ≡ x → (x ≡ Some (Some outcome.Failed) → ⊥) → FailedAt o ⊎ (FailedAt o → ⊥)
      is_not x e ne = inr (λ f. ne (sym e ∙ f.became))

      is_fail : (op : Op) → ((client : ℕ) × IsOperation clients outcomes client o op) → Became clients outcomes o outcome.Failed → ((name code : ℕ) → op ≡ ops.Fail name code → ⊥) → FailedAt o ⊎ (FailedAt o → ⊥)
      is_fail op w became ne = inr (λ f. ne f.name f.code (ap (λ (t : Task). t.op) (same_task run w.0 f.client record { number = o; op = op } record { number = o; op = ops.Fail f.name f.code } w.1 f.is refl).1))

      by_op : (op : Op) → ((client : ℕ) × IsOperation clients outcomes client o op) → Became clients outcomes o outcome.Failed → FailedAt o ⊎ (FailedAt o → ⊥)
      by_op (ops.Fail name code) w became = inl record { client = w.0; name = name; code = code; is = w.1; became = became }
      by_op (ops.Open n k) w became = is_fail (ops.Open n k) w became (λ a b e. cc)
      by_op (ops.Send n bytes) w became = is_fail (ops.Send n bytes) w became (λ a b e. cc)
      by_op (ops.Call asked) w became = is_fail (ops.Call asked) w became (λ a b e. cc)
      by_op (ops.Expire t) w became = is_fail (ops.Expire t) w became (λ a b e. cc)
      by_op (ops.Join t) w became = is_fail (ops.Join t) w became (λ a b e. cc)
      by_op (ops.Hold n) w became = is_fail (ops.Hold n) w became (λ a b e. cc)
      by_op (ops.Drop n) w became = is_fail (ops.Drop n) w became (λ a b e. cc)

      by_cases : (x : Option (Option Outcome)) → slice_get outcomes o ≡ x → FailedAt o ⊎ (FailedAt o → ⊥)
      by_cases (Some (Some outcome.Failed)) e = let w = run.alone o outcome.Failed e in by_op w.1.op (w.0, subst (λ n. IsOperation clients outcomes w.0 n w.1.op) w.3 w.2) e
      by_cases None e = is_not None e (λ q. cc)
      by_cases (Some None) e = is_not (Some None) e (λ q. cc)
      by_cases (Some (Some x)) e = is_not (Some (Some x)) e (λ q. cc)

  abbrev IsLinkFor : ℕ → Option ℕ → Type 0
  IsLinkFor o x = ((k : ℕ) × (x ≡ Some k) × FailsLink o k) ⊎ ((x ≡ None) × (FailedAt o → ⊥))

  links : (f : ℕ → Option ℕ) × ((o : ℕ) → o < p.operations → IsLinkFor o (f o))
  links = choose IsLinkFor None p.operations (λ o low. elim (failed_or_not o) as (λ w. (x : Option ℕ) × IsLinkFor o x) [
    | inl e ↦ (let w = fails_of o e in (Some w.0, inl (w.0, refl, w.1)))
    | inr ne ↦ (None, inr (refl, ne))
  ])

  pair_of : ℕ → Option (ℕ × ℕ)
  pair_of o = option_map (λ (k : ℕ). (o, k)) (links.0 o)

  -- the `fail` operations that were answered `failed`, each with the link of the life that it failed
  pub all_fails : List (ℕ × ℕ)
  all_fails = filter_map pair_of (from_to 0 p.operations)

  link_for : (o k : ℕ) → o < p.operations → links.0 o ≡ Some k → FailsLink o k
  link_for o k low e = elim (links.1 o low) as (λ w. FailsLink o k) [
    | inl w ↦ subst (FailsLink o) (same_Some w.0 k (sym w.1 ∙ e)) w.2
    | inr w ↦ absurd (some_none k (links.0 o) e w.0)
  ]

  -- what stands in the list
  pub in_fails : (f : ℕ × ℕ) → Has all_fails f → FailsLink f.0 f.1
  unfolding all_fails pair_of
  in_fails f h =
      let w = filter_map_has pair_of (from_to 0 p.operations) f h in
      let q = paired w.0 (links.0 w.0) f w.2 in
      let low = range_get 0 p.operations w.1.0 w.0 w.1.1 in
      subst (λ o. FailsLink o f.1) q.0 (link_for w.0 f.1 (let a = low.0 in let b = low.1 in omega arith) q.1)

  pub each_failed : (o : ℕ) → FailedAt o → (k : ℕ) × Contains all_fails (o, k) × FailsLink o k
  unfolding all_fails pair_of
  each_failed o e =
      let inside = slice_get_within outcomes o (Some outcome.Failed) e.became in
      let long = run.long in
      let low : o < p.operations = omega arith in
      elim (links.1 o low) as (λ w. (k : ℕ) × Contains all_fails (o, k) × FailsLink o k) [
        | inl w ↦ (w.0, contains_from all_fails (o, w.0) (has_filter_map pair_of (from_to 0 p.operations) o (o, w.0) (o, from_to_at 0 p.operations o low ∙ ap Some (omega arith)) (ap (option_map (λ (k : ℕ). (o, k))) w.1)), w.2)
        | inr w ↦ absurd (w.1 e)
      ]

  -- ## are, once

  pub are : AllByRecursion (IsFail clients outcomes) all_fails
  are = all_from (IsFail clients outcomes) all_fails (λ f h. is_fail f (in_fails f h))
    where
      is_fail : (f : ℕ × ℕ) → FailsLink f.0 f.1 → IsFail clients outcomes f
      is_fail f w = subst (λ o. IsFail clients outcomes (o, f.1)) w.number (subst (λ k. IsFail clients outcomes (w.life.number, k)) w.link (as_fail run w.a w.life))

  pub once : EachBefore (λ (f h : ℕ × ℕ). (f.0 ≢ h.0) × (f.1 ≢ h.1)) all_fails
  unfolding all_fails pair_of
  once = before_filter_map (λ (x y : ℕ). (x < y) × (y < p.operations)) (λ (f h : ℕ × ℕ). (f.0 ≢ h.0) × (f.1 ≢ h.1)) pair_of (λ x y v w less ev ew. apart x y v w less (paired x (links.0 x) v ev) (paired y (links.0 y) w ew)) (from_to 0 p.operations)
      (before_from (λ (x y : ℕ). (x < y) × (y < p.operations)) (from_to 0 p.operations) (λ i j x y less at bt. (let a = range_get 0 p.operations i x at in let b = range_get 0 p.operations j y bt in let a1 = a.1 in let b0 = b.0 in let b1 = b.1 in (omega arith, omega arith))))
    where
      apart : (x y : ℕ) (v w : ℕ × ℕ) → (x < y) × (y < p.operations) → (x ≡ v.0) × (links.0 x ≡ Some v.1) → (y ≡ w.0) × (links.0 y ≡ Some w.1) → (v.0 ≢ w.0) × (v.1 ≢ w.1)
      apart x y v w (less, low) (xv, lv) (yw, lw) = (
        (λ e. omega arith),
        (λ e. (
            let a = link_for x v.1 (omega arith) lv in
            let b = link_for y w.1 low lw in
            let n = fails_once run a.a b.a a.life b.life (a.link ∙ (e ∙ sym b.link)) in
            let na = a.number in let nb = b.number in omega arith)),
      )

  -- ## Why a life was failed

  -- the links of which a seat noted a fault while it wrote
  abbrev pub broken : List ℕ
  broken = flat_map (λ (y : Seated g state p). flat_map faults_of y.deeds) run.seats

  is_broken : (a : Act run) (j k : ℕ) → get_elem? (faults_of a.d) j ≡ some k → Contains broken k
  is_broken a j k e =
      let one = flat_there faults_of a.y.deeds a.k a.d j k a.is e in
      let two = flat_there (λ (y : Seated g state p). flat_map faults_of y.deeds) run.seats a.c a.y one.0 k a.at one.1 in
      contains_from broken k (two.0, to_slice broken two.0 k two.1)

  -- the links of the readers whose reading ended early
  abbrev pub early : List ℕ
  early = flat_map early_of run.readers

  is_early : (j : ℕ) (r : ReaderSeat g state p clients outcomes) → get_elem? run.readers j ≡ some r → r.early ≡ true → Contains early r.link
  is_early j r at e =
      let w = flat_there early_of run.readers j r 0 r.link at (early_there r e) in
      contains_from early r.link (w.0, to_slice early w.0 r.link w.1)

  -- this `fail` failed the life, which has link k
  pub record FailedBy (i h k : ℕ) : Type 0 where
    pub a : Act run
    pub life : FailedLife run a
    pub slot : socket_id_slot life.tried.sock.id.0 ≡ i
    pub version : socket_id_version life.tried.sock.id.0 ≡ h
    pub listed : Contains all_fails (life.number, k)

  -- or its link failed, or the link's reader did since its reading ended early
  pub data WhyFailed (i h k : ℕ) : Type 0 where
    by_name : FailedBy i h k → WhyFailed i h k
    by_link : Contains broken k → WhyFailed i h k
    by_reader : Contains early k → WhyFailed i h k

  -- or it was failed when the sockets were ended, and no client had seen a later version
  abbrev pub EndedAlive : ℕ → ℕ → Type 0
  EndedAlive i h = (a : Act run) (w : ℕ) → 0 < marks_of (is_saw w) i (after run a) → w ≤ h

  pub at_life : (m l j v i h : ℕ) → j ≡ i → v ≡ h → MadeHere run m l j v → MadeHere run m l i h
  at_life m l j v i h a b made = subst (λ x. MadeHere run m l x h) a (subst (λ x. MadeHere run m l j x) b made)

  -- a reader sets failed what it found noted for the `open` of its link, where its reading ended early, with a reader's code
  pub read_life : (r : Read run) (id code n k i h : ℕ) → r.d.did ≡ sets id code outcome.Failed → socket_id_slot id ≡ i → socket_id_version id ≡ h → i < p.slots → MadeHere run n k i h → (r.r.early ≡ true) × IsReaderCode code × (r.r.link ≡ k)
  read_life r id code n k i h e slot version low made =
      let s = read_sets r.r r.k r.d id code outcome.Failed r.is e in
      let slot_is : socket_id_slot s.sock.0 ≡ i = ap socket_id_slot s.same ∙ slot in
      let version_is : socket_id_version s.sock.0 ≡ h = ap socket_id_version s.same ∙ version in
      let even = (run.closed.closing.born_life i h low (made_born run n k i h made)).1 in
      let w = noted_made run r.c r.r r.at s.sock s.first (λ none_. omega (arith, none_, version_is, even)) in
      let its = at_life w.0 r.r.link (socket_id_slot s.sock.0) (socket_id_version s.sock.0) i h slot_is version_is w.1 in
      (s.is_early, s.coded, (life_is run w.0 n r.r.link k i h its made).1)

  pub life_failed : (n k i h : ℕ) → i < p.slots → MadeHere run n k i h → 0 < marks_of (is_failer h) i (All run) → WhyFailed i h k ⊎ EndedAlive i h
  life_failed n k i h low made some_ = elim (marks_from run (is_failer h) (failer_life h) i some_) [
    | inl w ↦ inl (by_source w.0 (done_source (is_failer h) (failer_life h) g state p (did_of run w.0) w.0.d.before w.0.d.after (done_of run w.0) i w.1))
    | inr o ↦ elim o [
      | inl w ↦ inl (by_reading w.0 (done_source (is_failer h) (failer_life h) g state p w.0.d.did w.0.d.before w.0.d.after w.0.d.done i w.1))
      | inr w ↦ inr (alive w.0 w.1)
    ]
  ]
    where
      alive : (l : Late run) → SetNow g state p (is_failer h) i l.d.before.view → EndedAlive i h
      alive l s a w saw =
          let version = only_is h (socket_id_version s.id) s.weighs in
          let then = noted_before run a l (is_saw w) (λ x. refl) i in
          let low_ = s.live w (subst (λ j. 0 < marks_of (is_saw w) j l.d.before.view) (sym s.slot) (omega arith)) in
          omega arith

      -- a link that a seat met of this life is the life's
      met_link : (l : ℕ) (a : Act run) → 0 < marks_of (is_met h l) i (after run a) → l ≡ k
      met_link l a m =
          let met = has_marks run a (is_met h l) (λ x. refl) i in
          let other = linked_made run i h l (run.closed.closing.met_linked i h l low (omega arith)) in
          (life_is run other.0 n l k i h other.1 made).1

      here : (a : Act run) (l : FailedLife run a) → socket_id_slot l.tried.sock.id.0 ≡ i → socket_id_version l.tried.sock.id.0 ≡ h → WhyFailed i h k
      here a l slot version =
          let f = fail_for run a l in
          let e = each_failed l.number record { client = a.c; name = l.name; code = l.code; is = f.0; became = f.1 } in
          let mine : l.link ≡ k = (life_is run l.name n l.link k i h (at_life l.name l.link (socket_id_slot l.tried.sock.id.0) (socket_id_version l.tried.sock.id.0) i h slot version l.made) made).1 in
          let its : e.0 ≡ k = sym e.2.link ∙ (same_link run e.2.a a e.2.life l e.2.number ∙ mine) in
          by_name record { a = a; life = l; slot = slot; version = version; listed = subst (λ x. Contains all_fails (l.number, x)) its e.1 }

      by_source : (a : Act run) → Source (is_failer h) (failer_life h) g state p i (did_of run a) a.d.before a.d.after (done_of run a) → WhyFailed i h k
      by_source a (by_open name number version link e weighs) = absurd (omega arith)
      by_source a (by_fail name number code e f) = here a (life_by run a name number code e f.0) f.2 (only_is h (socket_id_version f.0.sock.id.0) f.3)
      by_source a (by_set id code e slot weighs) = absurd (subst (IsFor clients outcomes a.c) e (is_for run a))
      by_source a (by_write id v w all grew f listed) =
          let version = only_is h (socket_id_version id) f.weighs in
          let met : 0 < marks_of (is_met h f.link) i w = subst (λ x. 0 < marks_of (is_met h f.link) x w) f.slot (subst (λ x. 0 < marks_of (is_met x f.link) (socket_id_slot id) w) version f.link_met) in
          let more = grew.marks (is_met h f.link) (λ x. refl) i in
          by_link (is_broken a f.place k (listed ∙ ap some (met_link f.link a (omega arith))))

      -- a reader set it failed
      by_reading : (r : Read run) → Source (is_failer h) (failer_life h) g state p i r.d.did r.d.before r.d.after r.d.done → WhyFailed i h k
      by_reading r (by_open name number version link e weighs) = absurd (subst IsById e (read_is_by_id run r))
      by_reading r (by_fail name number code e f) = absurd (subst IsById e (read_is_by_id run r))
      by_reading r (by_set id code e slot weighs) =
          let s = read_life r id code n k i h e slot (only_is h (socket_id_version id) weighs) low made in
          by_reader (subst (Contains early) s.2 (is_early r.c r.r r.at s.0))
      by_reading r (by_write id v w all grew f listed) =
          absurd (some-ne-none f.link (sym (ap (λ l. get_elem? l f.place) (sym (no_faults g state p r.d.did r.d.before r.d.after r.d.done (read_is_by_id run r))) ∙ listed)))
