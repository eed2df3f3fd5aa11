-- In a run each operation's call has one id, so whoever stores an at word stores one of its operation's own.
use Rattle.std.proofs.Common.{Bool, ◌≡◌, ◌≢◌, ℕ, ◌+◌, ◌<◌, ◌≤◌, List, [], ◌∷◌, ◌++◌, length, replicate, sym, ap, ◌∙◌, subst, arith}
use Rattle.sock_words.specs.declared.plain.Plan.{Plan}
use Rattle.sock_words.specs.PackedWords.{at_word, at_word_first, at_word_slot, call_id, id_slot, id_first}
use Rattle.sock_model.specs.declared.view.View.{View}
use Rattle.accept_counts.specs.Below.chain_steps.proofs.TicketLists.{at_some}
use Rattle.corr_core.specs.declared.marks.Plan.{Plan as IdPlan}
use Rattle.seat_programs.specs.brpc_model.specs.Items.{Item}
use Rattle.seat_programs.specs.brpc_model.specs.Operations.{Turn}
use Rattle.seat_programs.specs.Asides.{StoreAt}
use Rattle.seat_programs.specs.Programs.{Program, Do, Write, Aside, Round}
use Rattle.seat_programs.specs.ClientProgram.{ending_of}
use Rattle.seat_programs.specs.Cores.{Core}
use Rattle.seat_programs.specs.Ticks.{Moment, quiet, ticked, run}
use Rattle.seat_programs.specs.Tasks.{opens, calls, plan_of, id_plan_of}
use Rattle.seat_programs.specs.ScriptSetupToEnding.{all_tasks, opened, set_up, played, IsRunWithCalls}
use Rattle.accept_counts.specs.Below.programs_allowed.specs.program_steps.specs.SoundSeats.{views_along}
use Rattle.accept_counts.specs.Below.programs_allowed.specs.sock_runs.proofs.Quiets.{run_seats}
use Rattle.accept_counts.specs.Below.programs_allowed.specs.program_walks.proofs.WholeScriptSound.{closing_of, views_played, views_closed}
use Rattle.accept_counts.specs.Below.joint_runs.proofs.BothTablesSound.{AreBoth, behind_both}
use Rattle.accept_counts.specs.Below.joint_runs.proofs.RunsOfBothTables.{AreMade, first_views, joint_runs}
use Rattle.accept_counts.specs.Below.call_owing.specs.Owns.{Grows, Behind, Other, IsIdOf, Owns, Owned}
use Rattle.accept_counts.specs.Below.owned_ids.proofs.OwnsLoops.{grows_same, owns_any, owns_round}
use Rattle.accept_counts.specs.Below.owned_ids.proofs.OwnsSends.{block_goes}
use Rattle.accept_counts.specs.Below.owned_ids.proofs.OwnsTicks.{own_at, on_sockets, owns_ticks}
use Rattle.accept_counts.specs.Below.owned_ids.proofs.OwnsCalls.{ending_goes}
use Rattle.accept_counts.specs.Below.owned_ids.proofs.OwnsRuns.{first_left, none_yet, owned_begins, owned_on}
use Rattle.accept_counts.specs.Below.call_owing.proofs.EndsStill.{view_of}
use Rattle.accept_counts.specs.Below.owed_calls.proofs.NothingOwedAtEnd.{opened_seats}
use Rattle.accept_counts.specs.AttemptCounts.{StoresOwn, AreLabelled}
use Rattle.accept_counts.specs.RefusedOrDropped.{WouldStore, WouldOwn, AllWouldOwn}
use Rattle.accept_counts.proofs.RunsKeepAttemptLaw.{AreLabelledIn}
use Rattle.accept_counts.proofs.Grounds.{setting}
use Rattle.seat_programs.specs.LoopRounds.{first_step}

-- the first step of a round
owns_first : (has : ℕ → ℕ) (mine : ℕ → Bool) (b : Behind) (program : Program) → Owns has mine b program → (d : Behind) × Owns has mine d (first_step program)
owns_first has mine b (Write w after) g = (Other, (block_goes has mine w after (record { goes = λ more h d. owns_any more mine d after (g more h) })).goes has (grows_same has) Other)
owns_first has mine b (Round head next) g = (b, owns_round has mine b head next g)
owns_first has mine b _ g = (b, g)

-- the id that an at word names
pub named_id : (id k n w : ℕ) → w ≡ at_word (id_first id) (id_slot id) k n → k < 65535 → n ≤ 6 → id_slot id < 65536 → call_id (at_word_slot w) (at_word_first w) ≡ id
named_id id k n w is low few small =
    let s : at_word_slot w ≡ id_slot id = ap at_word_slot is ∙ (let z : at_word_slot (at_word (id_first id) (id_slot id) k n) ≡ id_slot id = omega (arith, small, low, few) in z) in
    let f : at_word_first w ≡ id_first id = ap at_word_first is ∙ (let z : at_word_first (at_word (id_first id) (id_slot id) k n) ≡ id_first id = omega (arith, small, low, few) in z) in
    ap (λ x. call_id x (at_word_first w)) s ∙ ap (call_id (id_slot id)) f ∙ (let z : call_id (id_slot id) (id_first id) ≡ id = omega arith in z)

grows_on : (has more most : ℕ → ℕ) → Grows has more → Grows more most → Grows has most
grows_on has more most a b o some_ = let e = a o some_ in b o (λ z. some_ (sym e ∙ z)) ∙ e

module _ (p : Plan) (q : IdPlan) (narrow : q.slots ≤ 65536) (calls : List ℕ) where
  -- whoever stores an at word stores one of the operation's own id
  stores_own : (ids : ℕ → ℕ) (c : Core) (has : ℕ → ℕ) (left : ℕ → ℕ → Bool) → Owned q calls c has left → Grows has ids → (m : Moment) → StoresOwn ids c m
  stores_own ids c has left owned grows m seat o w next at is id n k same low few small =
      let s = owned.seats m.seat seat at in let f = owns_first has (left m.seat) s.0 seat.program s.1 in
      let g : Owns has (left m.seat) f.0 (Aside (StoreAt o w) next) = subst (Owns has (left m.seat) f.0) is f.1 in
      let mine = own_at q narrow has (λ y z. (owned.inside y z).0) o w g.0 in
      let e = named_id id k n w same low few small in
      let some_ : id ≢ 0 = (λ z. mine.0 (e ∙ z)) in let one : has o ≡ id = mine.1 ∙ e in
      (grows o (λ z. some_ (sym one ∙ z)) ∙ one, some_)

  -- and whoever would store one
  would_own : (has : ℕ → ℕ) (inside : (o : ℕ) → has o ≢ 0 → id_slot (has o) < q.slots) (left : ℕ → Bool) (b : Behind) (o id n : ℕ) → n ≤ 6 → id_slot id < 65536 → (program : Program) → Owns has left b program → WouldStore o id n program → IsIdOf has o id
  would_own has inside left b o id n few small (Do call next) g would = would_own has inside left Other o id n few small (next would.0) (g would.0 would.1 has (grows_same has)) would.2
  would_own has inside left b o id n few small (Aside (StoreAt x w) next) g would =
      let mine = own_at q narrow has inside x w g.0 in let e = named_id id would.0 n w would.2 would.3 few small in
      subst (λ y. IsIdOf has y id) would.1 (subst (IsIdOf has x) e mine)
  would_own has inside left b o id n few small (Aside _ next) g would = absurd would
  would_own has inside left b o id n few small _ g would = absurd would

  all_own : (ids : ℕ → ℕ) (c : Core) (has : ℕ → ℕ) (left : ℕ → ℕ → Bool) → Owned q calls c has left → Grows has ids → (m : Moment) → WouldOwn ids c m
  all_own ids c has left owned grows m seat at o id n few small would =
      let s = owned.seats m.seat seat at in let f = owns_first has (left m.seat) s.0 seat.program s.1 in
      let mine = would_own has (λ y z. (owned.inside y z).0) (left m.seat) f.0 o id n few small (first_step seat.program) f.1 would in
      grows o (λ z. mine.0 (sym mine.1 ∙ z)) ∙ mine.1

  -- of some ticks, for each choice of ids that has those of the last
  record Ahead (c : Core) (ms : List Moment) (has : ℕ → ℕ) : Type 0 where
    more : ℕ → ℕ
    others : ℕ → ℕ → Bool
    grows : Grows has more
    owned : Owned q calls (run p c ms) more others
    are : (ids : ℕ → ℕ) → Grows more ids → AreLabelled ids p q c ms
    would : (ids : ℕ → ℕ) → Grows more ids → AllWouldOwn ids p c ms

  along : (c : Core) (vs : List View) (ms : List Moment) → AreBoth p q c vs ms → (has : ℕ → ℕ) (left : ℕ → ℕ → Bool) → Owned q calls c has left → Ahead c ms has
  along c vs [] both has left owned = record { more = has; others = left; grows = grows_same has; owned = owned; are = λ ids g. (both.id_views, both.ids); would = λ ids g. tt }
  along c vs (m ∷ ms) both has left owned = let n = owns_ticks p q narrow calls c both.0.id_views both.0.ids has left owned m both.1.fitting_ids in let r = along (ticked p c m) _ ms both.2 n.0 n.1 n.3 in record {
    more = r.more;
    others = r.others;
    grows = grows_on has n.0 r.more n.2 r.grows;
    owned = r.owned;
    are = λ ids g. ((both.0.id_views, both.0.ids), both.1.fitting_ids, stores_own ids c has left owned (grows_on has r.more ids (grows_on has n.0 r.more n.2 r.grows) g) m, r.are ids g);
    would = λ ids g. (all_own ids c has left owned (grows_on has r.more ids (grows_on has n.0 r.more n.2 r.grows) g) m, r.would ids g);
  }

module _ (script : List Item) (made : AreMade script) (turns : List Turn) (core : Core) (is : IsRunWithCalls script turns core) (narrow : (id_plan_of script).slots ≤ 65536) (few : length (all_tasks script) ≤ 32) where
  open setting script use {p, q, vs}

  abbrev Goes : Core → List Moment → (ℕ → ℕ) → Type 0
  Goes c ms has = Ahead (plan_of script) (id_plan_of script) narrow (calls script) c ms has

  setup_goes : Goes (opened script) (replicate is.setup (quiet 0)) (none_yet script)
  setup_goes = let s = joint_runs script turns core is made in along p q narrow (calls script) (opened script) vs (replicate is.setup (quiet 0)) s.setup (none_yet script) (first_left script) (owned_begins script made)

  clients_go : Goes (set_up script is.setup) (is.scheduled ++ is.later) setup_goes.more
  clients_go = let s = joint_runs script turns core is made in along p q narrow (calls script) (set_up script is.setup) (views_along (plan_of script) (opened script) (first_views script) (replicate is.setup (quiet 0))) (is.scheduled ++ is.later) s.clients setup_goes.more setup_goes.others setup_goes.owned

  -- seat 0 begins the ending
  begun : (more : ℕ → ℕ) × (others : ℕ → ℕ → Bool) × Grows clients_go.more more × Owned (id_plan_of script) (calls script) (closing_of script turns core is) more others
  begun = let s = joint_runs script turns core is made in
      let both = behind_both p q (set_up script is.setup) (views_along (plan_of script) (opened script) (first_views script) (replicate is.setup (quiet 0))) (is.scheduled ++ is.later) s.clients in
      let seat = at_some (played script is.setup (is.scheduled ++ is.later)).seats 0 (let m = many in omega (arith, m)) in
      let ids = both.ids in let v = view_of (played script is.setup (is.scheduled ++ is.later)).seats both.id_views 0 seat.0 seat.1 ids.each in
      on_sockets p q narrow (calls script) (played script is.setup (is.scheduled ++ is.later)) both.id_views both.ids clients_go.more clients_go.others clients_go.owned 0 seat.0 v.0 seat.1 v.1 Other (ending_of (opens script)) []
      (played script is.setup (is.scheduled ++ is.later)).words (played script is.setup (is.scheduled ++ is.later)).homes ((ending_goes clients_go.more (clients_go.others 0) (opens script)).goes clients_go.more (grows_same clients_go.more) Other) tt
    where
      many : length (played script is.setup (is.scheduled ++ is.later)).seats ≡ 32 + length (opens script)
      many = run_seats (plan_of script) (set_up script is.setup) (is.scheduled ++ is.later) ∙ run_seats (plan_of script) (opened script) (replicate is.setup (quiet 0)) ∙ opened_seats script few

  closing_goes : Goes (closing_of script turns core is) (replicate is.last (quiet 0)) begun.0
  closing_goes = let s = joint_runs script turns core is made in along p q narrow (calls script) (closing_of script turns core is) (views_played script turns core is (first_views script)) (replicate is.last (quiet 0)) s.closing begun.0 begun.1 begun.3

  final_goes : Goes is.ended is.final closing_goes.more
  final_goes = let s = joint_runs script turns core is made in let both = behind_both p q (closing_of script turns core is) (views_played script turns core is (first_views script)) (replicate is.last (quiet 0)) s.closing in
      along p q narrow (calls script) is.ended (views_closed script turns core is (first_views script)) is.final s.final closing_goes.more closing_goes.others
      (subst (λ d. Owned (id_plan_of script) (calls script) d closing_goes.more closing_goes.others) (sym is.is_ended)
      (owned_on p q narrow (calls script) (run (plan_of script) (closing_of script turns core is) (replicate is.last (quiet 0))) both.id_views both.ids closing_goes.more closing_goes.others closing_goes.owned))

  -- of each operation the id of its call, as the run ends
  pub ids_of_run : ℕ → ℕ
  ids_of_run = final_goes.more

  pub run_labelled : AreLabelledIn ids_of_run script turns core is
  unfolding ids_of_run
  run_labelled = let last = final_goes.grows in let third = grows_on begun.0 closing_goes.more final_goes.more closing_goes.grows last in
      let second = grows_on clients_go.more begun.0 final_goes.more begun.2 third in let first = grows_on setup_goes.more clients_go.more final_goes.more clients_go.grows second in record {
        of_setup = setup_goes.are final_goes.more first;
        of_played = clients_go.are final_goes.more second;
        of_closing = closing_goes.are final_goes.more last;
        of_final = final_goes.are final_goes.more (grows_same final_goes.more);
      }
