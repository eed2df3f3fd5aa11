-- A run over two tables, from those that are to run to what is left.
use Rattle.std.proofs.Common.{◌≡◌, ℕ, zero, suc, ◌+◌, ◌<◌, Bool, false, ◌||◌, List, [], ◌∷◌, ◌++◌, map, length, get_or, refl, sym, ap, ◌∙◌, subst, arith}
use Rattle.std.specs.Prelude.{Option, Vec}
use Rattle.std.specs.declared.alloc.Global.{Global}
use Rattle.std.proofs.lemmas.List.{length-map}
use Rattle.std.specs.List.{list_any, AllByRecursion}
use mathlib.Core.Option.{some}
use lib.ListN.{get_elem?}
use Rattle.atomic_table.specs.Seated.{TableId}
use Rattle.atomic_table.specs.declared.shared.Seat.{Seat}
use Rattle.sock_io.specs.declared.link.Out.{Ghosts}
use Rattle.sock_io.specs.LinkHalves.{OutState}
use Rattle.sock_words.specs.declared.plain.Plan.{Plan}
use Rattle.sock_model.specs.declared.view.View.{View}
use Rattle.sock_rule.specs.declared.homes.SockHome.{SockHome}
use Rattle.sock_table.specs.ClosedSocketTable.{AllDone, ClosedBy}
use Rattle.sock_open.specs.SocketTableOpening.{AreFresh}
use Rattle.corr_core.specs.declared.marks.Plan as id_plan
use Rattle.corr_core.specs.declared.marks.View as id_view
use Rattle.corr_id.specs.declared.table.IdTable.{IdTable}
use Rattle.sock_message.specs.Asked.{Asked}
use Rattle.seat_programs.specs.declared.task.Task.{Task}
use Rattle.call_run.specs.declared.worker.Worker.{Worker}
use Rattle.call_run.specs.declared.leaving.Left.{Left}
use Rattle.call_run.specs.declared.running.Crew.{Crew}
use Rattle.call_run.specs.declared.running.Ran.{Ran}
use Rattle.call_run.specs.EndingOfSockets.{EndedBehind}
use Rattle.call_run.specs.ReadersOfLinks.{LinkReader}
use Rattle.call_run.specs.Threads.{opens_of, openings, opened_names, ids_of, AreThreads, AllRan, RanWith}
use Rattle.call_run.specs.Working.{HasWorked}
use Rattle.call_run.specs.CrewOfRun.{HandedIn, IsLeft, AreLeft, IsCrew, CrewRan, HasEnded, AreBack}
use Rattle.call_run.proofs.Weaving.{none_short, thread_of, one_thread, one_share, one_id, Woven, weave}
use Rattle.sock_words.specs.Totals.{total, total as id_total}

abbrev pub made_by : {O : Type 0} {g : Ghosts O} → List (Worker O g) → List (List Task)
made_by {O} {g} workers = map (λ (w : Worker O g). w.tasks.items) workers

-- one, and then those of a list
one_and : {A B : Type 0} (f : A → B) (s0 s1 s2 : List B) (x : B) (whole xs : List A) → s0 ≡ [] → s1 ≡ s0 ++ x ∷ [] → s2 ≡ s1 ++ map f whole → whole ≡ xs → s2 ≡ x ∷ map f xs
one_and f s0 s1 s2 x whole xs e0 e1 e2 w = e2 ∙ (ap (λ l. l ++ map f whole) (e1 ∙ ap (λ l. l ++ x ∷ []) e0) ∙ ap (λ l. x ∷ map f l) w)

pub twice : {A B C : Type 0} (f : A → B) (h : B → C) (xs : List A) → map h (map f xs) ≡ map (λ x. h (f x)) xs
twice f h [] = refl
twice f h (x ∷ xs) = ap (λ l. h (f x) ∷ l) (twice f h xs)

module _ {O : Type 0} {g : Ghosts O} (state : O → OutState) (z : TableId) (p : Plan) (y : TableId) (q : id_plan.Plan) (c : Crew O g) (m : Worker O g) (names : List ℕ) (ys : List (Worker O g)) (l1 l2 : Left O g)
    (is : IsCrew z p y q c.main.tasks.items (made_by c.workers.items) c) (h : HasWorked state z p y q [] c.main m) (named : names ≡ opened_names m.caller.outcomes.items (openings c.main.tasks.items)) (len : length ys ≡ length c.workers.items)
    (each : (i : ℕ) (d : Worker O g) → i < length c.workers.items → HasWorked state z p y q names (get_or c.workers.items i d) (get_or ys i d))
    (whole : List (Worker O g)) (one : HandedIn (m ∷ []) c.kit.left l1) (all : HandedIn whole l1 l2) (lent : whole ≡ ys) where
  woven : Woven z p y q state names (opens_of c.main.tasks.items) c.workers.items ys
  woven = weave z p y q state names 1 (opens_of c.main.tasks.items) c.workers.items ys len is.hired each

  main_id : AreLeft y (m.caller.calls.seat ∷ []) × (m.caller.calls.seat.me.0.share ≡ 1)
  main_id = one_id z p y q state [] 0 0 c.main m h is.main_hired

  seats : l2.seats.items ≡ m.caller.seat ∷ map (λ (w : Worker O g). w.caller.seat) ys
  seats = one_and (λ (w : Worker O g). w.caller.seat) c.kit.left.seats.items l1.seats.items l2.seats.items m.caller.seat whole ys is.kit.left.seats.0 one.seats all.seats lent

  ids : l2.ids.items ≡ m.caller.calls.seat ∷ map (λ (w : Worker O g). w.caller.calls.seat) ys
  ids = one_and (λ (w : Worker O g). w.caller.calls.seat) c.kit.left.ids.items l1.ids.items l2.ids.items m.caller.calls.seat whole ys is.kit.left.ids.0 one.ids all.ids lent

  told : l2.told.items ≡ m.caller.outcomes ∷ map (λ (w : Worker O g). w.caller.outcomes) ys
  told = one_and (λ (w : Worker O g). w.caller.outcomes) c.kit.left.told.items l1.told.items l2.told.items m.caller.outcomes whole ys is.kit.left.told.0 one.told all.told lent

  ended : l2.ended.items ≡ m.caller.calls.told ∷ map (λ (w : Worker O g). w.caller.calls.told) ys
  ended = one_and (λ (w : Worker O g). w.caller.calls.told) c.kit.left.ended.items l1.ended.items l2.ended.items m.caller.calls.told whole ys is.kit.left.ended.0 one.ended all.ended lent

  short : l2.short ≡ ((m.short || false) || list_any (λ (w : Worker O g). w.short) ys)
  short = all.short ∙ (λ i. ((one.short ∙ ap (λ (b : Bool). b || (m.short || false)) is.kit.left.calm) i || ap (list_any (λ (w : Worker O g). w.short)) lent i))

  -- these are the seats of the table of sockets that they had
  pub all_left : IsLeft z p (length (made_by c.workers.items) + 1) l2.seats.items
  all_left = record {
    done = subst (AllDone z p) (sym seats) (h.done, woven.done);
    all = ap (total (λ (s : Seat (SockHome O g) View). s.me.0.share)) seats ∙ omega (arith, one_share z p y q state [] 0 0 c.main m h is.main_hired, woven.share, length-map c.workers.items (λ (w : Worker O g). w.tasks.items));
  }

  -- main's client and the others ran, and the sockets were ended with what all of them had noted
  pub crew_ran : (opens : List ℕ) (last : Vec (Seat (SockHome O g) View) Global) → IsLeft z p (total (λ (s : Seat (SockHome O g) View). s.me.0.share) l2.seats.items) last.items → EndedBehind p opens l2.seats.items last.items → CrewRan state z p y q c.main.tasks.items (made_by c.workers.items) opens (record l2 { seats = last })
  crew_ran opens last left behind = record {
    left = subst (λ n. IsLeft z p n last.items) all_left.all left;
    alone = ap length (sym behind.alone);
    ids = subst (AreLeft y) (sym ids) (main_id.0.0, woven.left);
    all_ids = ap (id_total (λ (s : Seat (Option Asked) (id_view.View Asked)). s.me.0.share)) ids ∙ omega (arith, main_id.1, woven.id_share, length-map c.workers.items (λ (w : Worker O g). w.tasks.items));
    ran = λ calm. let b = none_short (m.short || false) (list_any (λ (w : Worker O g). w.short) ys) (sym short ∙ calm) in let b0 = none_short m.short false b.0 in record {
      main = thread_of z p y q state [] c.main m h;
      others = woven.threads;
      setup_asked = refl;
      asked = woven.asked;
      alone = refl;
      main_is = one_thread z p y q state [] 0 0 c.main m h is.main_hired b0.0;
      others_are = subst (λ ns. AreThreads state p q ns (opens_of c.main.tasks.items) woven.threads) named (woven.are b.1);
      told_is = ap (λ l. m.caller.outcomes.items ∷ l) (woven.told ∙ sym (twice (λ (w : Worker O g). w.caller.outcomes) (λ v. v.items) ys)) ∙ sym (ap (map (λ v. v.items)) told);
      ended_is = ap (λ l. m.caller.calls.told.items ∷ l) (woven.ended ∙ sym (twice (λ (w : Worker O g). w.caller.calls.told) (λ v. v.items) ys)) ∙ sym (ap (map (λ v. v.items)) ended);
      ids_are = ap (λ l. m.caller.calls.seat.me.0 ∷ l) (woven.ids ∙ sym (twice (λ (w : Worker O g). w.caller.calls.seat) (λ (s : Seat (Option Asked) (id_view.View Asked)). s.me.0) ys)) ∙ sym (ap (map (λ (s : Seat (Option Asked) (id_view.View Asked)). s.me.0)) ids);
      ending = subst (λ l. EndedBehind p opens l last.items) (seats ∙ ap (λ l. m.caller.seat ∷ l) (sym woven.seats)) behind;
    };
  }

-- behind them and these readers the table of sockets was closed
pub ran_with : {O : Type 0} {g : Ghosts O} (state : O → OutState) (readers : List (LinkReader g)) (z : TableId) (p plan : Plan) (y : TableId) (q : id_plan.Plan) (slots : ℕ) (s setup : List Task) (cs clients : List (List Task)) (opens : List ℕ) (l : Left O g) (table : IdTable Asked) (r : Ran O)
    → p ≡ plan → q ≡ ids_of plan slots → s ≡ setup → cs ≡ clients → CrewRan state z p y q s cs opens l → HasEnded state p (map (λ (x : LinkReader g). x.seat) readers ++ l.seats.items) l table r → AllByRecursion (λ (x : LinkReader g). x.seat.me.0.lists ≡ [] ∷ []) readers
    → RanWith g state readers plan slots setup clients opens (map (λ v. v.items) r.told.items) (map (λ v. v.items) r.ended.items) r.places.items r.vrefs.items r.outs.items (map (λ (x : Seat (Option Asked) (id_view.View Asked)). x.me.0) r.seats.items)
ran_with {O} {g} state readers z p plan y q slots s setup cs clients opens l table r pe qe se ce ran e silent = record {
  seats = l.seats.items;
  ran =
      let ids = map (λ (x : Seat (Option Asked) (id_view.View Asked)). x.me.0) l.ids.items in let told = map (λ v. v.items) l.told.items in let ended = map (λ v. v.items) l.ended.items in
      subst (λ v. AllRan g state plan (ids_of plan slots) setup clients opens (map (λ w. w.items) r.told.items) (map (λ w. w.items) r.ended.items) l.seats.items (map (λ (x : Seat (Option Asked) (id_view.View Asked)). x.me.0) v.items)) (sym e.seats_are)
      (subst (λ v. AllRan g state plan (ids_of plan slots) setup clients opens (map (λ w. w.items) r.told.items) (map (λ w. w.items) v.items) l.seats.items ids) (sym e.ended)
      (subst (λ v. AllRan g state plan (ids_of plan slots) setup clients opens (map (λ w. w.items) v.items) ended l.seats.items ids) (sym e.told)
      (subst (λ v. AllRan g state plan (ids_of plan slots) setup v opens told ended l.seats.items ids) ce
      (subst (λ v. AllRan g state plan (ids_of plan slots) v cs opens told ended l.seats.items ids) se
      (subst (λ v. AllRan g state plan v s cs opens told ended l.seats.items ids) qe
      (subst (λ v. AllRan g state v q s cs opens told ended l.seats.items ids) pe (ran.ran e.calm)))))));
  closed = subst (λ v. ClosedBy state v (map (λ (x : LinkReader g). x.seat) readers ++ l.seats.items) r.places.items r.vrefs.items r.outs.items) pe e.closed;
  silent = silent;
}

-- ## The seats

pub as_long : {A B C : Type 0} (f : A → C) (h : B → C) (xs : List A) (ys : List B) → map f xs ≡ map h ys → length xs ≡ length ys
as_long f h xs ys e = sym (length-map xs f) ∙ (ap length e ∙ length-map ys h)

-- ## What comes back

is_at : {A : Type 0} (xs : List A) (k : ℕ) → k < length xs → (x : A) × (get_elem? xs k ≡ some x)
is_at [] k lt = absurd (omega arith)
is_at (x ∷ xs) zero lt = (x, refl)
is_at (x ∷ xs) (suc k) lt = is_at xs k (omega arith)

pub fresh_back : {O : Type 0} (state : O → OutState) (p : Plan) (outs : List O) → AreFresh state p outs → AreBack state p outs
fresh_back state p outs fresh = record {
  count = fresh.count;
  each = (λ k lt. let x = is_at outs k (let n = fresh.count in omega arith) in (x.0, x.1, (fresh.each k x.0 x.1).0));
}
