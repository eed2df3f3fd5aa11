-- Over a whole run each operation's call has one id, so an at word keeps the id that it named.
use Rattle.std.proofs.Common.{◌≡◌, ℕ, zero, suc, ◌+◌, ◌-◌, ◌<◌, ◌≤◌, inl, inr, ⊎_elim, ◌==◌, ◌&&◌, Bool, true, false, cond, eqb-true, List, [], ◌∷◌, ◌++◌, length, replicate, slice_get, Some, None, refl, sym, ap, ◌∙◌, subst, arith}
use Rattle.std.proofs.lemmas.Bool.{true≢false}
use Rattle.std.specs.List.{AllByRecursion}
use mathlib.Core.Option.{Option as Maybe}
use mathlib.Core.Option.{none, some, some-injective, some-ne-none}
use lib.ListN.{get_elem?}
use Rattle.sock_words.specs.declared.plain.Plan.{Plan}
use Rattle.seat_programs.specs.brpc_model.specs.Items.{Item, is_call}
use Rattle.seat_programs.specs.brpc_model.specs.Operations.{operations, clients}
use Rattle.seat_programs.specs.brpc_model.specs.Order.{EachBefore}
use Rattle.seat_programs.specs.brpc_model.specs.LinePlaceFaults.{names}
use Rattle.sock_model.specs.declared.view.View.{View}
use Rattle.corr_core.specs.IdSlotWord.{Parts}
use Rattle.corr_core.specs.declared.marks.Plan.{Plan as IdPlan}
use Rattle.seat_programs.specs.declared.task.Op.{Op}
use Rattle.seat_programs.specs.declared.task.Op.TheVariants as ops
use Rattle.seat_programs.specs.declared.task.Task.{Task}
use Rattle.seat_programs.specs.Asides.{StoreAt}
use Rattle.seat_programs.specs.Programs.{Program, Rest, Write, Aside, Round}
use Rattle.seat_programs.specs.Tasks.{Numbered, numbered, calls, opens, tasks, plan_of, id_plan_of}
use Rattle.seat_programs.specs.ClientProgram.{client_from, ending_of}
use Rattle.seat_programs.specs.ReaderProgram.{reader}
use Rattle.seat_programs.specs.Explained.{HaveOwnLinks}
use Rattle.seat_programs.specs.Cores.{Core, SeatState, resolved, next_step, with_seat}
use Rattle.seat_programs.specs.Ticks.{Moment, ticked, run}
use Rattle.seat_programs.specs.ScriptSetupToEnding.{sizes_of, programs, readers_from, all_programs, opened, tasks_from, all_tasks, is_ending}
use Rattle.call_owing.specs.Below.programs_allowed.specs.program_walks.proofs.OpenedLivesRecorded.{mapped, appended, or_cases, second_true}
use Rattle.call_owing.specs.Below.id_runs.specs.HeldIdTokens.{IdView}
use Rattle.call_owing.specs.Below.id_runs.specs.Goes.{IdGoesOn, SoundIds}
use Rattle.call_owing.specs.Below.id_runs.proofs.IdLoopRounds.{ids_round}
use Rattle.call_owing.specs.Below.id_runs.proofs.IdPrograms as idprograms
use Rattle.call_owing.specs.Below.id_runs.proofs.IdRuleOpening.{unused}
use Rattle.call_owing.specs.Below.joint_runs.proofs.BothTablesSound.{AreBoth}
use Rattle.call_owing.specs.Below.joint_runs.proofs.RunsOfBothTables.{AreMade}
use Rattle.call_owing.specs.Below.script_facts.proofs.FilteredLists.{Has, has_later, some_is, all_from, has_filter_map}
use Rattle.call_owing.specs.Below.script_facts.proofs.OperationNumbering.{link_at, numbered_at}
use Rattle.call_owing.specs.Below.script_facts.proofs.TaskLemmas.{IsTaskOf, has_task, of_tasks, call_asks, numbers_at}
use Rattle.call_owing.proofs.EndsStill.{all_at, view_of}
use Rattle.call_owing.specs.Owing.{InList}
use Rattle.call_owing.specs.LivesOfLinks.{KeepsAt, AreKept}
use Rattle.call_owing.specs.Owns.{Behind, Other, Owns, IsTrueOf, Owned}
use Rattle.owned_ids.proofs.OpensStored.{place_at}
use Rattle.owned_ids.proofs.OwnsLoops.{grows_same, owns_any, owns_round}
use Rattle.owned_ids.proofs.OwnsSends.{block_goes}
use Rattle.owned_ids.proofs.OwnsCalls.{CallsOwn, is_calling, calls_in, client_goes, reader_goes, ending_goes}
use Rattle.owned_ids.proofs.OwnsTicks.{own_at, resolved_owns, true_of, true_on, on_sockets, owns_ticks}
use Rattle.call_owing.specs.Below.id_runs.proofs.IdLoopRounds.{and_left}
use Rattle.seat_programs.specs.LoopRounds.{first_step}

-- ## Along ticks

-- the first step of a round
owns_first : (has : ℕ → ℕ) (mine : ℕ → Bool) (b : Behind) (program : Program) → Owns has mine b program → (d : Behind) × Owns has mine d (first_step program)
owns_first has mine b (Write w after) g = (Other, (block_goes has mine w after (record { goes = λ more h d. owns_any more mine d after (g more h) })).goes has (grows_same has) Other)
owns_first has mine b (Round head next) g = (b, owns_round has mine b head next g)
owns_first has mine b _ g = (b, g)

ids_first : (p : Plan) (q : IdPlan) → q.slots ≤ 65536 → (u : IdView) (program : Program) → IdGoesOn p q u program → IdGoesOn p q u (first_step program)
ids_first p q narrow u (Write w after) g = idprograms.block_goes p q narrow u w after g
ids_first p q narrow u (Round head next) g = ids_round p q u head next g
ids_first p q narrow u _ g = g

module _ (p : Plan) (q : IdPlan) (narrow : q.slots ≤ 65536) (calls : List ℕ) where
  -- whoever stores an at word stores one of the id that it named
  keeps_at : (c : Core) (ws : List IdView) → SoundIds p q c ws → (has : ℕ → ℕ) (left : ℕ → ℕ → Bool) → Owned q calls c has left → (j : ℕ) (seat : SeatState) → get_elem? c.seats j ≡ some seat → KeepsAt q calls c (first_step seat.program)
  keeps_at c ws ids has left owned j seat at = let o = owned.seats j seat at in let f = owns_first has (left j) o.0 seat.program o.1 in let v = view_of c.seats ws j seat at ids.each in
      by_program (first_step seat.program) f.0 f.1 v.0 (ids_first p q narrow v.0 seat.program (ids.seats j seat v.0 at v.1))
    where
      by_program : (program : Program) (b : Behind) → Owns has (left j) b program → (u : IdView) → IdGoesOn p q u program → KeepsAt q calls c program
      by_program (Aside (StoreAt o w) next) b g u go = let mine = own_at q narrow has (λ y z. (owned.inside y z).0) o w g.0 in
          ((owned.inside o (λ z. mine.0 (sym mine.1 ∙ z))).1, λ some_. let old = owned.ats o go.0.0 some_ in sym old.1 ∙ mine.1)
      by_program program b g u go = tt

  -- at each tick, and behind them
  pub kept_along : (c : Core) (vs : List View) (ms : List Moment) → AreBoth p q c vs ms → (has : ℕ → ℕ) (left : ℕ → ℕ → Bool) → Owned q calls c has left → AreKept p q calls c ms × ((more : ℕ → ℕ) × (others : ℕ → ℕ → Bool) × Owned q calls (run p c ms) more others)
  kept_along c vs [] both has left owned = (tt, (has, left, owned))
  kept_along c vs (m ∷ ms) both has left owned = let n = owns_ticks p q narrow calls c both.0.id_views both.0.ids has left owned m both.1.fitting_ids in let r = kept_along (ticked p c m) _ ms both.2 n.0 n.1 n.3 in
      ((λ seat at. keeps_at c both.0.id_views both.0.ids has left owned m.seat seat at, r.0), r.1)

  -- seat 0 begins the ending
  pub owned_ending : (c : Core) (ws : List IdView) → SoundIds p q c ws → (os : List ℕ) (has : ℕ → ℕ) (left : ℕ → ℕ → Bool) → Owned q calls c has left → (seat : SeatState) → get_elem? c.seats 0 ≡ some seat
      → (more : ℕ → ℕ) × (others : ℕ → ℕ → Bool) × Owned q calls (with_seat 0 (ending_of os) [] c.words c.homes c) more others
  owned_ending c ws ids os has left owned seat at = let v = view_of c.seats ws 0 seat at ids.each in let a = on_sockets p q narrow calls c ws ids has left owned 0 seat v.0 at v.1 Other (ending_of os) [] c.words c.homes ((ending_goes has (left 0) os).goes has (grows_same has) Other) tt in
      (a.0, a.1, a.3)

  pub owned_on : (c : Core) (ws : List IdView) → SoundIds p q c ws → (has : ℕ → ℕ) (left : ℕ → ℕ → Bool) → Owned q calls c has left → Owned q calls (is_ending c) has left
  owned_on c ws ids has left owned = record {
    inside = owned.inside;
    once = owned.once;
    apart = owned.apart;
    ats = owned.ats;
    homes = owned.homes;
    seats = λ j seat at. let o = owned.seats j seat at in let v = view_of c.seats ws j seat at ids.each in
        (o.0, o.1, true_on p q c (is_ending c) ws ids v.0 (λ n inside t h. record { first = refl; none_ = λ z. z; some_ = λ z. z; home = refl }) o.0 seat.program (ids.seats j seat v.0 at v.1) o.2);
  }

-- ## Scripts

in_list : (l : List ℕ) (o : ℕ) (i : ℕ) → slice_get l i ≡ Some o → InList o l
in_list [] o i e = absurd (cc)
in_list (x ∷ xs) o zero e = inl (some_is x o e)
in_list (x ∷ xs) o (suc i) e = inr (in_list xs o i e)

-- a call among some tasks
called_by : (ts : List Task) (o : ℕ) → calls_in ts o ≡ true → (t : Task) × Has ts t × (is_calling t.op ≡ true) × (t.number ≡ o)
called_by [] o there = absurd (true≢false (sym there))
called_by (t ∷ ts) o there = or_cases (is_calling t.op && (t.number == o)) (calls_in ts o) ((x : Task) × Has (t ∷ ts) x × (is_calling x.op ≡ true) × (x.number ≡ o))
    (λ here. (t, (0, refl), and_left (is_calling t.op) (t.number == o) here, eqb-true t.number o (second_true (is_calling t.op) (t.number == o) here)))
    (λ more. let w = called_by ts o more in (w.0, has_later t ts w.0 w.1, w.2, w.3)) there

module _ (script : List Item) where
  own_call : (c : ℕ) (t : Task) → IsTaskOf script c t → CallsOwn t.number t.op
  own_call c t w = by_op t.op refl
    where
      by_op : (op : Op) → t.op ≡ op → CallsOwn t.number op
      by_op (ops.Call asked) e = let a = call_asks (numbered script) (names script) (numbers_at script t.number w.operation) w.operation.item asked (w.asks ∙ ap Some e) in ap (λ (x : Rattle.seat_programs.specs.sock_message.specs.Asked.Asked). x.operation) a.2
      by_op other e = tt

  own_calls : (client n : ℕ) → AllByRecursion (AllByRecursion (λ (t : Task). CallsOwn t.number t.op)) (tasks_from script client n)
  own_calls client zero = tt
  own_calls client (suc n) = (all_from (λ (t : Task). CallsOwn t.number t.op) (tasks script client) (λ t h. own_call client t (has_task script client t h)), own_calls (client + 1) n)

  -- the operation of a call
  call_is : (c : ℕ) (t : Task) → IsTaskOf script c t → is_calling t.op ≡ true → InList t.number (calls script)
  call_is c t w calling = by_op t.op refl calling
    where
      by_op : (op : Op) → t.op ≡ op → is_calling op ≡ true → InList t.number (calls script)
      by_op (ops.Call asked) e f = let a = call_asks (numbered script) (names script) (numbers_at script t.number w.operation) w.operation.item asked (w.asks ∙ ap Some e) in
          let x : Numbered = record { number = 0 + t.number; link = 0 + link_at (operations script) t.number; op = w.operation } in
          let is : is_call w.operation.item ≡ true = ap is_call a.1 in
          let h = has_filter_map (λ (y : Numbered). cond (is_call y.op.item) (Some y.number) None) (numbered script) x (0 + t.number) (t.number, numbered_at 0 0 (operations script) t.number w.operation w.there) (ap (λ b. cond b (Some (0 + t.number)) None) is) in
          subst (λ y. InList y (calls script)) (let z : 0 + t.number ≡ t.number = omega arith in z) (in_list (calls script) (0 + t.number) h.0 h.1)
      by_op other e f = absurd (true≢false (sym f))

  -- each client has its calls to make
  abbrev pub first_left : ℕ → ℕ → Bool
  first_left j = elim (get_elem? (all_tasks script) j) as (λ x. ℕ → Bool) [ none ↦ (λ o. false) | some ts ↦ calls_in ts ]

  pub record IsCaller (j o : ℕ) : Type 0 where
    pub task : Task
    pub of : IsTaskOf script j task
    pub calling : is_calling task.op ≡ true
    pub number : task.number ≡ o

  caller : (j o : ℕ) → first_left j o ≡ true → IsCaller j o
  caller j o there = by_tasks (get_elem? (all_tasks script) j) refl there
    where
      by_tasks : (x : Maybe (List Task)) → get_elem? (all_tasks script) j ≡ x → elim x as (λ x. ℕ → Bool) [ none ↦ (λ o. false) | some ts ↦ calls_in ts ] o ≡ true → IsCaller j o
      by_tasks none at e = absurd (true≢false (sym e))
      by_tasks (some ts) at e = let w = called_by ts o e in let same = (of_tasks script j ts (place_at (all_tasks script) j ts at)).1 in
          record { task = w.0; of = has_task script j w.0 (subst (λ l. Has l w.0) (sym same) w.1); calling = w.2; number = w.3 }

  one_caller : (j k o : ℕ) → IsCaller j o → IsCaller k o → j ≡ k
  one_caller j k o a b = let x = a.of in let y = b.of in let same = some_is x.operation y.operation (sym x.there ∙ ap (slice_get (operations script)) (a.number ∙ sym b.number) ∙ y.there) in
      sym x.own ∙ ap (λ (z : Rattle.seat_programs.specs.brpc_model.specs.Operations.Operation). z.client) same ∙ y.own

  abbrev pub none_yet : ℕ → ℕ
  none_yet o = 0

  goes_others : (mine : ℕ → Bool) (n : ℕ) (os : List ℕ) (k i : ℕ) (x : Program) → get_elem? (replicate n Rest ++ readers_from (calls script) k os) i ≡ some x → Owns none_yet mine Other x
  goes_others mine zero [] k i x e = absurd (some-ne-none x (sym e))
  goes_others mine zero (o ∷ os) k zero x e = subst (Owns none_yet mine Other) (some-injective (reader (calls script) k o) x e) ((reader_goes none_yet mine (calls script) k o).goes none_yet (grows_same none_yet) Other)
  goes_others mine zero (o ∷ os) k (suc i) x e = goes_others mine zero os (k + 1) i x e
  goes_others mine (suc n) os k zero x e = subst (Owns none_yet mine Other) (some-injective Rest x e) tt
  goes_others mine (suc n) os k (suc i) x e = goes_others mine n os k i x e

  abbrev first : List Program
  first = programs (sizes_of (plan_of script) (id_plan_of script)) (all_tasks script)

  -- no call has an id as a run begins
  pub owned_begins : AreMade script → Owned (id_plan_of script) (calls script) (opened script) none_yet first_left
  owned_begins made = record {
    inside = λ o some_. absurd (some_ refl);
    once = λ j o there. let x = caller j o there in (refl, subst (λ y. InList y (calls script)) x.number (call_is j x.task x.of x.calling));
    apart = λ j k o a b. one_caller j k o (caller j o a) (caller k o b);
    ats = λ o inside some_. absurd (some_ ((unused (id_plan_of script)).rest (Rattle.seat_programs.specs.id_rule.specs.LawfulIdTable.at_index (id_plan_of script) o) (omega arith)));
    homes = λ i inside x e some_. absurd (some_ (ap (λ (y : Parts). y.state) ((unused (id_plan_of script)).ids i inside)));
    seats = λ j seat at. let x = mapped (λ (program : Program). record { program = next_step (resolved [] program); hand = [] }) (all_programs first (readers_from (calls script) 0 (opens script))) j seat at in
        let r = resolved_owns (opened script) none_yet (first_left j) [] tt Other x.0 (begins j x.0 x.1) tt in
        subst (λ (s : SeatState). (b : Behind) × Owns none_yet (first_left j) b s.program × IsTrueOf (opened script) b s.program) x.2 (r.0, r.1, true_of (opened script) r.0 (next_step (resolved [] x.0)) r.2);
  }
    where
      begins : (j : ℕ) (x : Program) → get_elem? (all_programs (programs (sizes_of (plan_of script) (id_plan_of script)) (all_tasks script)) (readers_from (calls script) 0 (opens script))) j ≡ some x → Owns none_yet (first_left j) Other x
      begins j x at = ⊎_elim
          (λ a. let y = mapped (client_from (sizes_of (plan_of script) (id_plan_of script)) []) (all_tasks script) j x a in let are = made.are in
          subst (Owns none_yet (first_left j) Other) y.2 ((client_goes none_yet (sizes_of (plan_of script) (id_plan_of script)) y.0 [] (first_left j) (of_client j y.0 y.1)
          (all_at (AllByRecursion (λ (t : Task). CallsOwn t.number t.op)) (all_tasks script) j y.0 (own_calls 0 (clients script + 1)) y.1)
          (all_at (EachBefore (λ (a b : Task). (a.number < b.number) × HaveOwnLinks a.op b.op)) (all_tasks script) j y.0 are.in_order y.1)).goes none_yet (grows_same none_yet) Other))
          (λ a. goes_others (first_left j) (32 - length first) (opens script) 0 a.0 x a.1)
          (appended first (replicate (32 - length first) Rest ++ readers_from (calls script) 0 (opens script)) j x at)
        where
          of_client : (j : ℕ) (ts : List Task) → get_elem? (all_tasks script) j ≡ some ts → (o : ℕ) → calls_in ts o ≡ true → first_left j o ≡ true
          of_client j ts at o there = ap (λ (x : Maybe (List Task)). (elim x as (λ x. ℕ → Bool) [ none ↦ (λ o. false) | some ts ↦ calls_in ts ]) o) at ∙ there
