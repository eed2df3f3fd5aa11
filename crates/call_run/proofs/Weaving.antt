-- What each client's thread did, one after the other.
use Rattle.std.proofs.Common.{◌≡◌, ℕ, suc, ◌+◌, ◌<◌, Bool, true, false, true≢false, ◌||◌, List, [], ◌∷◌, length, get_or, map, refl, sym, ap, ◌∙◌, subst, arith}
use Rattle.std.specs.Prelude.{All, Option}
use Rattle.std.specs.List.{list_any}
use Rattle.std.proofs.lemmas.List.Elements.{All-nil, All-cons}
use Rattle.atomic_table.specs.Seated.{TableId}
use Rattle.atomic_table.specs.declared.shared.Seat.{Seat}
use Rattle.sock_io.specs.declared.link.Out.{Ghosts}
use Rattle.sock_io.specs.LinkHalves.{OutState}
use Rattle.sock_words.specs.declared.plain.Plan.{Plan}
use Rattle.sock_model.specs.declared.view.View.{View}
use Rattle.sock_rule.specs.declared.homes.SockHome.{SockHome}
use Rattle.sock_table.specs.ClosedSocketTable.{AllDone}
use Rattle.sock_open.proofs.SeatsOfNewTable.{new_view}
use Rattle.corr_core.specs.declared.marks.Plan as id_plan
use Rattle.corr_core.specs.declared.marks.View as id_view
use Rattle.sock_message.specs.Asked.{Asked}
use Rattle.call_client.specs.ClientRun.{MayMakeAll, RunBy}
use Rattle.call_run.specs.declared.worker.Worker.{Worker}
use Rattle.call_run.specs.Threads.{opens_of, LinksDown, FoundEach, DidNothing, Thread, IsThread, AreThreads, MayRun, AllMayRun}
use Rattle.call_run.specs.Hired.{IsHired, AreHired}
use Rattle.call_run.specs.Working.{IsReady, HasWorked}
use Rattle.call_run.specs.CrewOfRun.{AreLeft}
use Rattle.sock_words.specs.Totals.{total, total as id_total}

pub none_short : (a b : Bool) → (a || b) ≡ false → (a ≡ false) × (b ≡ false)
none_short true b e = absurd (true≢false e)
none_short false b e = (refl, e)

module _ {O : Type 0} {g : Ghosts O} (z : TableId) (p : Plan) (y : TableId) (q : id_plan.Plan) where
  -- ## Before

  pub one_ready : (names : List ℕ) (n first : ℕ) (w : Worker O g) → IsHired z p y n first w → MayRun p q w.tasks.items → All (λ (k : ℕ). k < p.names) names → IsReady z p y q names w
  one_ready names n first w h m fit = record { names_fit = fit; go = h.go; few = m.few; may = subst (MayMakeAll p q w.tasks.items) (sym h.count) m.may; fed = ap (λ b. b.starved) h.nothing.books }

  pub all_ready : (names : List ℕ) (n first : ℕ) (ws : List (Worker O g)) → AreHired z p y n first ws → AllMayRun p q (map (λ (w : Worker O g). w.tasks.items) ws) → All (λ (k : ℕ). k < p.names) names → All (IsReady z p y q names) ws
  all_ready names n first [] a m fit = All-nil (IsReady z p y q names)
  all_ready names n first (w ∷ ws) a m fit = All-cons (IsReady z p y q names) w ws (one_ready names n first w a.0 m.0 fit) (all_ready names (n + 1) (first + opens_of w.tasks.items) ws a.1 m.1 fit)

  -- ## Behind

  module _ (state : O → OutState) (names : List ℕ) where
    abbrev pub thread_of : (old new : Worker O g) → HasWorked state z p y q names old new → Thread g
    thread_of old new h = record { tasks = old.tasks.items; names = names; began = h.began; ended = new.caller }

    pub one_thread : (n first : ℕ) (old new : Worker O g) (h : HasWorked state z p y q names old new) → IsHired z p y n first old → new.short ≡ false → IsThread state p q first (thread_of old new h)
    one_thread n first old new h a calm = record {
      spare = a.seat.spare;
      waited = subst (λ v. FoundEach p names v h.began.seat.me.0) (new_view z p old.caller.seat a.seat) h.waited;
      ids = ap (λ c. c.calls.seat.me) h.same ∙ a.ids.1;
      nothing = subst DidNothing (sym h.same) record { none_held = a.nothing.none_held; none_told = a.nothing.none_told; none_sent = a.nothing.none_sent; books = a.nothing.books };
      passes = subst (λ c. LinksDown first c.passes.items) (sym h.same) a.links;
      count = ap (λ c. length c.passes.items) h.same ∙ a.count;
      ran = subst (λ (b : Bool). RunBy state p q b old.tasks.items h.began new.caller) calm h.ran;
    }

    pub one_share : (n first : ℕ) (old new : Worker O g) → HasWorked state z p y q names old new → IsHired z p y n first old → new.caller.seat.me.0.share ≡ 1
    one_share n first old new h a = h.share ∙ ap (λ (v : View). v.share) (new_view z p old.caller.seat a.seat)

    pub one_id : (n first : ℕ) (old new : Worker O g) → HasWorked state z p y q names old new → IsHired z p y n first old → AreLeft y (new.caller.calls.seat ∷ []) × (new.caller.calls.seat.me.0.share ≡ 1)
    one_id n first old new h a = (((record { sits = h.ids.0; free = h.ids.1 }, h.id_stays.2 ∙ ap (λ m. m.1) a.ids.1), tt), h.id_share ∙ ap (λ m. m.0.share) a.ids.1)

    -- the threads of these clients, and what they leave
    pub record Woven (first : ℕ) (xs ys : List (Worker O g)) : Type 0 where
      pub threads : List (Thread g)
      pub asked : map (λ (x : Thread g). x.tasks) threads ≡ map (λ (w : Worker O g). w.tasks.items) xs
      pub seats : map (λ (x : Thread g). x.ended.seat) threads ≡ map (λ (w : Worker O g). w.caller.seat) ys
      pub ids : map (λ (x : Thread g). x.ended.calls.seat.me.0) threads ≡ map (λ (w : Worker O g). w.caller.calls.seat.me.0) ys
      pub told : map (λ (x : Thread g). x.ended.outcomes.items) threads ≡ map (λ (w : Worker O g). w.caller.outcomes.items) ys
      pub ended : map (λ (x : Thread g). x.ended.calls.told.items) threads ≡ map (λ (w : Worker O g). w.caller.calls.told.items) ys
      pub are : list_any (λ (w : Worker O g). w.short) ys ≡ false → AreThreads state p q names first threads
      pub done : AllDone z p (map (λ (w : Worker O g). w.caller.seat) ys)
      pub share : total (λ (s : Seat (SockHome O g) View). s.me.0.share) (map (λ (w : Worker O g). w.caller.seat) ys) ≡ length xs
      pub left : AreLeft y (map (λ (w : Worker O g). w.caller.calls.seat) ys)
      pub id_share : id_total (λ (s : Seat (Option Asked) (id_view.View Asked)). s.me.0.share) (map (λ (w : Worker O g). w.caller.calls.seat) ys) ≡ length xs

    pub weave : (n first : ℕ) (xs ys : List (Worker O g)) → length ys ≡ length xs → AreHired z p y n first xs → ((i : ℕ) (d : Worker O g) → i < length xs → HasWorked state z p y q names (get_or xs i d) (get_or ys i d)) → Woven first xs ys
    weave n first [] [] e a h = record { threads = []; asked = refl; seats = refl; ids = refl; told = refl; ended = refl; are = λ calm. tt; done = tt; share = refl; left = tt; id_share = refl }
    weave n first [] (w ∷ ws) e a h = absurd (omega arith)
    weave n first (x ∷ xs) [] e a h = absurd (omega arith)
    weave n first (x ∷ xs) (w ∷ ws) e a h = let r = weave (n + 1) (first + opens_of x.tasks.items) xs ws (omega arith) a.1 (λ i d lt. h (suc i) d (omega arith)) in let one = h 0 x (omega arith) in let id = one_id n first x w one a.0 in record {
      threads = thread_of x w one ∷ r.threads;
      asked = ap (λ l. x.tasks.items ∷ l) r.asked;
      seats = ap (λ l. w.caller.seat ∷ l) r.seats;
      ids = ap (λ l. w.caller.calls.seat.me.0 ∷ l) r.ids;
      told = ap (λ l. w.caller.outcomes.items ∷ l) r.told;
      ended = ap (λ l. w.caller.calls.told.items ∷ l) r.ended;
      are = λ calm. (let b = none_short w.short (list_any (λ (v : Worker O g). v.short) ws) calm in (one_thread n first x w one a.0 b.0, refl, r.are b.1));
      done = (one.done, r.done);
      share = (let s = one_share n first x w one a.0 in let t = r.share in omega arith);
      left = (id.0.0, r.left);
      id_share = (let s = id.1 in let t = r.id_share in omega arith);
    }
