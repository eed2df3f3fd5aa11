-- Why the `join`s of a run with calls have their outcomes.
use Rattle.std.proofs.Common.{◌≡◌, ℕ, ◌%◌, ◌<◌, ◌≤◌, ◌⊎◌, inl, inr, List, ◌∷◌, Some, sym, ap, ◌∙◌, subst, arith}
use Rattle.std.specs.Prelude.{Option}
use mathlib.Core.Logic.{dite}
use mathlib.Core.Option.{some, some-injective}
use native.Mathlib.Decide.{ℕ_discrete, dec_lt}
use lib.ListN.{get_elem?}
use Rattle.brpc_model.specs.Order.{EachBefore}
use Rattle.call_told.specs.call_places.specs.script_facts.proofs.FilteredLists.{some_is}
use Rattle.sock_io.specs.declared.link.Out.{Ghosts}
use Rattle.sock_io.specs.LinkHalves.{OutState}
use Rattle.sock_words.specs.declared.outcome.Outcome.{Outcome}
use Rattle.sock_words.specs.declared.outcome.Outcome.TheVariants as outcome
use Rattle.sock_words.specs.declared.plain.Plan.{Plan}
use Rattle.sock_words.specs.declared.place_word.PlaceWord.{PlaceWord}
use Rattle.sock_words.specs.declared.vref.Vref.{Vref}
use Rattle.seat_programs.specs.declared.task.Op.{Op}
use Rattle.seat_programs.specs.declared.task.Op.TheVariants as ops
use Rattle.seat_programs.specs.declared.task.Task.{Task}
use Rattle.seat_programs.specs.Explained.{AreTasks, IsTask, Became}
use Rattle.seat_programs.specs.ExplainedCalls.{Fixed, Order, MayNotHaveBegun, WhyJoin}
use Rattle.seat_programs.specs.ExplainedCalls as told_calls
use Rattle.corr_core.specs.IdSlotWord.{parts}
use Rattle.corr_core.specs.declared.marks.Kept.{Kept}
use Rattle.corr_core.specs.declared.marks.Noted.{Noted}
use Rattle.corr_core.specs.declared.marks.Plan as id_plan
use Rattle.corr_core.specs.declared.marks.View.{View}
use Rattle.corr_core.proofs.NoteSums.{pair-same}
use Rattle.id_rule.specs.LawfulIdTable.{call_index, is_stored}
use Rattle.sock_message.specs.Asked.{Asked}
use Rattle.corr_id.specs.SeatBehindIdCalls.{Found, LacksId}
use Rattle.corr_id.specs.ClosingIdLists.{Closing}
use Rattle.corr_id.specs.Ruled.{is_place}
use Rattle.call_told.specs.Below.RpcClient.Told.{Told}
use Rattle.call_told.specs.Below.CallErrors.ClientBooks.{CallStand}
use Rattle.call_told.specs.Below.CallErrors.ExpireAndJoinOutcomes.{found_id, SawEnd, JoinedBy}
use Rattle.call_told.specs.Below.CallClient.ClientBetweenOperations.{Stand, Acted}
use Rattle.call_told.specs.Below.CallClient.ClientRun.{Course, Made, begins}
use Rattle.call_told.specs.Below.CallRun.ReadersOfLinks.{LinkReader}
use Rattle.call_told.specs.Below.CallRun.Threads.{RanWith, MayRunAll, ids_of}
use Rattle.call_told.specs.call_places.specs.ClientNotesCounted.{HaveNotesOf}
use Rattle.call_told.specs.call_places.proofs.CallPlaceOrders.{crew_of}
use Rattle.call_told.specs.call_places.proofs.ClientPlaces.{Client, view_of, tasks_of}
use Rattle.call_told.specs.Least.{HasBegun}
use Rattle.call_told.proofs.ListElementsByPlace.{all_at}
use Rattle.call_told.proofs.ClientTellingMoves.{Fits, retried_here, made_moves}
use Rattle.call_told.proofs.RestingCallsEnded.{is_word}
use Rattle.call_told.proofs.Coming.{begun_later}
use Rattle.expire_told.specs.AskedByJoins.{AreJoinsOfCalls}
use Rattle.expire_told.specs.ExpireOutcomesSaid.{AreSaid, HaveKeptOf}
use Rattle.expire_told.proofs.ClientAtOperation.{Split, ran_split}
use Rattle.expire_told.proofs.OperationWordStorers.{before_in, placed}
use Rattle.expire_told.proofs.ExpireOutcomeCauses.{with_outcome, call_acted, InOrder, fits, tasks_at, IsMade, made_of, own_told, one_stored, IsMaker, found_maker, stands_before, earlier_told}
use Rattle.expire_told.proofs.WholeExpireReasons.{maker_begun}
use Rattle.sock_words.specs.PackedWords.{id_slot, id_first}
use Rattle.sock_words.specs.Totals.{total}

-- a `join` has an outcome, by what was done
join_acted : {O : Type 0} {g : Ghosts O} (state : O → OutState) (p : Plan) (q : id_plan.Plan) (number of : ℕ) (op : Op) (by : Option Outcome) (s t : Stand g) → op ≡ ops.Join of → Acted state p q number op by s t → (o : Outcome) × (by ≡ Some o) × JoinedBy q of o s.calls t.calls
join_acted state p q number of op by s t is = with_outcome state p q number (ops.Join of) op by s t (λ o. JoinedBy q of o s.calls t.calls) is (λ a. a) (λ o a. a.0)

module _ (q : id_plan.Plan) where
  -- an id that is kept in mind where the operation's word is
  abbrev KnowsOf : ℕ → View Asked → Type 0
  KnowsOf of v = (id : ℕ) × (0 < total (is_word (call_index q of) id) v.kept)

  -- the id whose end was seen is kept in mind
  saw_word : (of : ℕ) (s t : CallStand) (h : SawEnd q of s t) → 0 < total (is_word (call_index q of) h.id) t.view.kept
  saw_word of s t h =
      let f : Kept → ℕ = is_word (call_index q of) h.id in
      let a : total f t.view.kept ≡ total f h.view.kept = ap (λ (y : CallStand). total f y.view.kept) h.after in
      let b : total f h.view.kept ≡ total f (found_id q of h.id s).view.kept = ap (total f) h.quiet.kept in
      let c = pair-same (call_index q of) h.id in omega arith

module _ {O : Type 0} {g : Ghosts O} {state : O → OutState} {readers : List (LinkReader g)} {p : Plan} {slots : ℕ} {setup : List Task} {clients : List (List Task)} {opens : List ℕ} {told ended : List (List Told)} {places : List PlaceWord} {vrefs : List Vref} {outs : List O} {ids : List (View Asked)}
    (run : RanWith g state readers p slots setup clients opens told ended places vrefs outs ids) (tasks : AreTasks p (setup ∷ clients)) (may : MayRunAll p (ids_of p slots) setup clients)
    (notes : List (Noted Asked)) (kept : List Kept) (words : List ℕ) (closing : Closing (ids_of p slots) notes kept words) (noted : HaveNotesOf ids notes) (keeps : HaveKeptOf ids kept)
    (outcomes : List (Option Outcome)) (said_own : AreSaid outcomes told) (said_ended : AreSaid outcomes ended) where
  open crew_of run use {q, every}

  abbrev IsDone : ℕ → Task → Type 0
  IsDone c t = IsMade run tasks may notes kept words closing noted keeps outcomes said_own said_ended c t

  abbrev IsMadeBy : ℕ → ℕ → Type 0
  IsMadeBy of id = IsMaker run tasks may notes kept words closing noted keeps outcomes said_own said_ended of id

  abbrev done_of : (c : ℕ) (t : Task) → IsTask every outcomes c t → IsDone c t
  done_of c t is = made_of run tasks may notes kept words closing noted keeps outcomes said_own said_ended c t is

  -- what was told of it is what became of it
  abbrev Tells : Task → Option Outcome → Type 0
  Tells t by = (o : Outcome) → by ≡ Some o → Became every outcomes t.number o

  tells : (c : ℕ) (t : Task) (m : IsDone c t) → Tells t m.done.made.by
  tells c t m = own_told run tasks may notes kept words closing noted keeps outcomes said_own said_ended c t m

  -- ## Of an id that is known

  -- where an operation knows an id of a call of its client, it is behind the call: one behind it would have made the id anew
  known_before : (c of : ℕ) (t u : Task) (asked : Asked) → IsTask every outcomes c t → IsTask every outcomes c u → ((other : Asked) → t.op ≡ ops.Call other → ⊥) → u.op ≡ ops.Call asked → u.number ≡ of
      → ((s v : Course g) (h : Made state p q t s v) → Tells t h.by → KnowsOf q of v.has.calls.view) → (Became every outcomes of outcome.Unopened → ⊥) → of < t.number
  known_before c of t u asked tis uis top uop number knows begun = dite (dec_lt of t.number) (λ h. h) (λ nl. absurd (dite (dec_lt m.place n.place) later (λ nless. dite (ℕ_discrete m.place n.place) same (λ ne. earlier (omega (arith, nless, ne)) nl))))
    where
      m : IsDone c t
      m = done_of c t tis

      n : IsDone c u
      n = done_of c u uis

      there : get_elem? (tasks_of n.client) m.place ≡ some t
      there = subst (λ (x : Client g state p q). get_elem? (tasks_of x) m.place ≡ some t) (some-injective m.client n.client (sym m.at ∙ n.at)) m.there

      same : m.place ≡ n.place → ⊥
      same e = let is : t ≡ u = some-injective t u (sym there ∙ (ap (get_elem? (tasks_of n.client)) e ∙ n.there)) in top asked (ap (λ (y : Task). y.op) is ∙ uop)

      earlier : n.place < m.place → (of < t.number → ⊥) → ⊥
      earlier less nl =
          let order = all_at (EachBefore InOrder) every c (tasks_of n.client) tasks.in_order (tasks_at run tasks may notes kept words closing noted keeps outcomes said_own said_ended c n.client n.at) in
          let h = (before_in InOrder (tasks_of n.client) order n.place m.place u t less n.there there).0 in nl (omega (arith, h, number))

      later : m.place < n.place → ⊥
      later less = or_begun (call_acted state p q u.number asked u.op n.done.made.by n.done.made.ready n.done.after.has uop n.done.made.acted)
        where
          s : Split state p q n.client.thread.tasks m.place t (begins n.client.thread.began) n.done.before
          s = ran_split state p q n.client.thread.tasks (fits run tasks may notes kept words closing noted keeps outcomes said_own said_ended c n.client n.at) n.place (begins n.client.thread.began) n.done.before n.done.ran m.place t less there

          known : KnowsOf q of s.after.has.calls.view
          known = knows s.before s.after s.made (earlier_told run tasks may notes kept words closing noted keeps outcomes said_own said_ended c u n m.place t s)

          fit : Fits u
          fit = all_at Fits (tasks_of n.client) n.place u (fits run tasks may notes kept words closing noted keeps outcomes said_own said_ended c n.client n.at) n.there

          -- the id was kept in mind before the call
          kept_ready : 0 < total (is_word (call_index q of) known.0) n.done.made.ready.calls.view.kept
          kept_ready =
              let a = known.1 in let b = (s.later of).1.grows.kept (is_word (call_index q of) known.0) in
              let d = (retried_here q of state p n.done.before.has n.done.made.ready n.done.made.retried).grows.kept (is_word (call_index q of) known.0) in omega (arith, a, b, d)

          kept_last : 0 < total (is_word (call_index q of) known.0) (view_of n.client).kept
          kept_last =
              let a = known.1 in let b = (s.later of).1.grows.kept (is_word (call_index q of) known.0) in let d = (made_moves q of state p u n.done.before n.done.after fit n.done.made).grows.kept (is_word (call_index q of) known.0) in
              let e = (n.done.later of).1.grows.kept (is_word (call_index q of) known.0) in omega (arith, a, b, d, e)

          or_begun : (n.done.made.by ≡ Some outcome.Unopened) ⊎ ((id : ℕ) × HasBegun q asked.operation id n.done.after.has.calls.view × ((x : ℕ) → x % 2 ≡ 0 → total (is_word x id) n.done.made.ready.calls.view.kept ≡ 0)) → ⊥
          or_begun (inl e) = begun (subst (λ (o : ℕ). Became every outcomes o outcome.Unopened) number (tells c u n outcome.Unopened e))
          or_begun (inr b) =
              let here : HasBegun q of b.0 n.done.after.has.calls.view = subst (λ (o : ℕ). HasBegun q o b.0 n.done.after.has.calls.view) (fit asked uop ∙ number) b.1 in
              let last : HasBegun q of b.0 (view_of n.client) = begun_later q (call_index q of) (n.done.later of).0 of b.0 n.done.after.has.calls.view (view_of n.client) (n.done.later of).1.grows here in
              let k : IsMadeBy of known.0 = found_maker run tasks may notes kept words closing noted keeps outcomes said_own said_ended of known.0 c n.client n.at kept_last in
              let id : b.0 ≡ known.0 = one_stored run tasks may notes kept words closing noted keeps outcomes said_own said_ended of b.0 known.0 c k.place n.client k.client n.at k.at last.stored k.begun.stored in
              let none_ : total (is_word (call_index q of) known.0) n.done.made.ready.calls.view.kept ≡ 0 = subst (λ (i : ℕ). total (is_word (call_index q of) i) n.done.made.ready.calls.view.kept ≡ 0) id (b.2 (call_index q of) (omega arith)) in
              let some_ = kept_ready in omega (arith, none_, some_)

  -- where an operation knew no id of an earlier call of its client, that was answered unopened: had it begun, the id would have been there
  unknown_unopened : (c of : ℕ) (t : Task) (m : IsDone c t) → total (is_place (call_index q of)) m.done.made.ready.calls.view.kept ≡ 0
      → (task : Task) (asked : Asked) → IsTask every outcomes c task → task.op ≡ ops.Call asked → task.number ≡ of → of < t.number → Became every outcomes of outcome.Unopened
  unknown_unopened c of t m none_ task asked own op number less = subst (λ (n : ℕ). Became every outcomes n outcome.Unopened) number (by (call_acted state p q task.number asked task.op split.made.by split.made.ready split.after.has op split.made.acted))
    where
      u : IsDone c task
      u = done_of c task own

      there : get_elem? (tasks_of m.client) u.place ≡ some task
      there = subst (λ (x : Client g state p q). get_elem? (tasks_of x) u.place ≡ some task) (some-injective u.client m.client (sym u.at ∙ m.at)) u.there

      earlier : u.place < m.place
      earlier = stands_before run tasks may notes kept words closing noted keeps outcomes said_own said_ended c m.client m.at u.place m.place task t there m.there (omega (arith, number, less))

      split : Split state p q m.client.thread.tasks u.place task (begins m.client.thread.began) m.done.before
      split = ran_split state p q m.client.thread.tasks (fits run tasks may notes kept words closing noted keeps outcomes said_own said_ended c m.client m.at) m.place (begins m.client.thread.began) m.done.before m.done.ran u.place task earlier there

      begun_there : (id : ℕ) → HasBegun q asked.operation id split.after.has.calls.view → ⊥
      begun_there id b =
          let fit : asked.operation ≡ task.number = all_at Fits (tasks_of m.client) u.place task (fits run tasks may notes kept words closing noted keeps outcomes said_own said_ended c m.client m.at) there asked op in
          let h : HasBegun q of id split.after.has.calls.view = subst (λ (o : ℕ). HasBegun q o id split.after.has.calls.view) (fit ∙ number) b in
          let w = call_index q of in let f = is_stored w id in
          let a = (split.later of).1.grows.kept f in let r = (retried_here q of state p m.done.before.has m.done.made.ready m.done.made.retried).grows.kept f in
          let z = placed w id m.done.made.ready.calls.view.kept in let s = h.stored in let n = none_ in omega (arith, a, r, z, s, n)

      by : (split.made.by ≡ Some outcome.Unopened) ⊎ ((id : ℕ) × HasBegun q asked.operation id split.after.has.calls.view × ((x : ℕ) → x % 2 ≡ 0 → total (is_word x id) split.made.ready.calls.view.kept ≡ 0)) → Became every outcomes task.number outcome.Unopened
      by (inl e) = earlier_told run tasks may notes kept words closing noted keeps outcomes said_own said_ended c t m u.place task split outcome.Unopened e
      by (inr b) = absurd (begun_there b.0 b.1)

  -- ## Of a join

  -- a `join` of which this is reported did this, wherever in its client's run
  join_did : (of : ℕ) (t : Task) (o : Outcome) (s v : Course g) (h : Made state p q t s v) → Tells t h.by → t.op ≡ ops.Join of → Became every outcomes t.number o → JoinedBy q of o h.ready.calls v.has.calls
  join_did of t o s v h says op became =
      let a = join_acted state p q t.number of t.op h.by h.ready v.has op h.acted in
      let same : a.0 ≡ o = some_is a.0 o (some_is (Some a.0) (Some o) (sym (says a.0 a.1) ∙ became)) in
      subst (λ (x : Outcome). JoinedBy q of x h.ready.calls v.has.calls) same a.2

  pub join_made : (c of : ℕ) (t : Task) (o : Outcome) (m : IsDone c t) → t.op ≡ ops.Join of → Became every outcomes t.number o → JoinedBy q of o m.done.made.ready.calls m.done.after.has.calls
  join_made c of t o m op became = join_did of t o m.done.before m.done.after m.done.made (tells c t m) op became

  join_knows : (of : ℕ) (t : Task) → t.op ≡ ops.Join of → Became every outcomes t.number outcome.Joined → (s v : Course g) (h : Made state p q t s v) → Tells t h.by → KnowsOf q of v.has.calls.view
  join_knows of t op became s v h says = let e = join_did of t outcome.Joined s v h says op became in (e.id, saw_word q of h.ready.calls v.has.calls e)

  joins_no_call : (of : ℕ) (t : Task) → t.op ≡ ops.Join of → (other : Asked) → t.op ≡ ops.Call other → ⊥
  joins_no_call of t op other call = let e : ops.Join of ≡ ops.Call other = sym op ∙ call in absurd (cc)

  -- whoever made the id that a `join` waited for
  joined_maker : (c of : ℕ) (t : Task) (m : IsDone c t) → (known : KnowsOf q of m.done.after.has.calls.view) → IsMadeBy of known.0
  joined_maker c of t m known =
      let b = (m.done.later of).1.grows.kept (is_word (call_index q of) known.0) in let a = known.1 in
      found_maker run tasks may notes kept words closing noted keeps outcomes said_own said_ended of known.0 c m.client m.at (omega (arith, a, b))

  -- what a `join` saw: an id that was made for the call, and a word of its slot that hasn't it
  pub record SawItEnd (of : ℕ) (v : View Asked) : Type 0 where
    pub id : ℕ
    pub made : IsMadeBy of id
    pub word : ℕ
    pub found : Found (id_slot id) word v
    pub lacks : LacksId (parts word) (id_first id)

  pub joined_saw : (c of : ℕ) (t : Task) (m : IsDone c t) → t.op ≡ ops.Join of → Became every outcomes t.number outcome.Joined → SawItEnd of m.done.after.has.calls.view
  joined_saw c of t m op became = by e.gone
    where
      e : SawEnd q of m.done.made.ready.calls m.done.after.has.calls
      e = join_made c of t outcome.Joined m op became

      made : IsMadeBy of e.id
      made = joined_maker c of t m (e.id, saw_word q of m.done.made.ready.calls m.done.after.has.calls e)

      by : (slots ≤ id_slot e.id) ⊎ ((word : ℕ) × Found (id_slot e.id) word e.view × LacksId (parts word) (id_first e.id)) → SawItEnd of m.done.after.has.calls.view
      by (inl out_) = absurd (let i = made.begun.inside in omega (arith, out_, i))
      by (inr w) = record { id = e.id; made = made; word = w.0; found = subst (λ (y : CallStand). Found (id_slot e.id) w.0 y.view) (sym e.after) w.1; lacks = w.2 }

  module _ (begun_not : (o id k : ℕ) (v : View Asked) → get_elem? ids k ≡ some v → HasBegun q o id v → Became every outcomes o outcome.Unopened → ⊥) (fixed : Fixed) (gave : ℕ → List ℕ) (orders : ℕ → Order) where
    -- a `join` that waited was of a call that began, and that is no later operation of its client
    pub joined_why : (c of : ℕ) (t : Task) → IsTask every outcomes c t → t.op ≡ ops.Join of → Became every outcomes t.number outcome.Joined → told_calls.HasBegun p every outcomes fixed gave orders c t.number of
    joined_why c of t is op became =
        let m = done_of c t is in let known = join_knows of t op became m.done.before m.done.after m.done.made (tells c t m) in
        let k = maker_begun run tasks may notes kept words closing noted keeps outcomes said_own said_ended begun_not of known.0 (joined_maker c of t m known) in (
          k.client,
          k.task,
          k.is,
          k.number,
          k.began,
          λ e. known_before c of t k.task k.asked is (subst (λ (i : ℕ). IsTask every outcomes i k.task) e k.is) (joins_no_call of t op) k.is_call k.number (join_knows of t op became) k.began,
        )

    pub join_unbegun_why : AreJoinsOfCalls every outcomes → (c of : ℕ) (t : Task) → IsTask every outcomes c t → t.op ≡ ops.Join of → Became every outcomes t.number outcome.NotBegun → MayNotHaveBegun p every outcomes fixed gave orders c t.number of
    join_unbegun_why calls c of t is op became task own number less =
        let m = done_of c t is in let call = calls c c t task is (op ∙ ap ops.Join (sym number)) own in
        unknown_unopened c of t m (join_made c of t outcome.NotBegun m op became).unknown task call.0 own call.1 number less

    -- each outcome of a `join` has its cause
    pub joins_why : AreJoinsOfCalls every outcomes → (last : ℕ → ℕ) (c of : ℕ) (t : Task) (by : Outcome) → IsTask every outcomes c t → t.op ≡ ops.Join of → Became every outcomes t.number by → WhyJoin p every outcomes fixed gave orders last c t.number of by
    joins_why calls last c of t by is op became = with by became (join_made c of t by m op became)
      where
        m : IsDone c t
        m = done_of c t is

        with : (b : Outcome) → Became every outcomes t.number b → JoinedBy q of b m.done.made.ready.calls m.done.after.has.calls → WhyJoin p every outcomes fixed gave orders last c t.number of b
        with outcome.Joined e h = joined_why c of t is op e
        with outcome.NotBegun e h = join_unbegun_why calls c of t is op e
        with _ e h = elim h [ ]
