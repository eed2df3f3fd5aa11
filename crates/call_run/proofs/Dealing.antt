-- How clients get their seats and their passes.
use Rattle.std.proofs.Common.{◌≡◌, ℕ, suc, ◌+◌, ◌-◌, List, [], ◌∷◌, ◌++◌, length, reverse, map, length-append, sym, ap, ◌∙◌, subst, arith}
use Rattle.std.specs.Prelude.{All, Option}
use Rattle.std.proofs.lemmas.List.{reverse-append, get_or_append_left, get_or-append-add, append_assoc, map-append}
use Rattle.std.proofs.lemmas.List.Elements.{All-nil, All-cons, All-append}
use Rattle.atomic_table.specs.Seated.{TableId}
use Rattle.atomic_table.specs.declared.shared.Seat.{Seat}
use Rattle.sock_io.specs.declared.link.Out.{Ghosts}
use Rattle.sock_words.specs.declared.plain.Plan.{Plan}
use Rattle.sock_model.specs.declared.view.View.{View}
use Rattle.sock_rule.specs.declared.homes.SockHome.{SockHome}
use Rattle.sock_table.specs.declared.passes.LinkPass.{LinkPass}
use Rattle.sock_table.specs.LinkPasses.{IsPass}
use Rattle.sock_open.specs.NewTableContents.{IsNewSeat, AreNewSeats, PassesFrom}
use Rattle.corr_core.specs.declared.marks.View as id_view
use Rattle.corr_id.specs.IdTableOpening.{AreNew}
use Rattle.corr_id.specs.IdTableSeat.{Sits, IsFree}
use Rattle.corr_id.proofs.TestingOneLock.{new_sits}
use Rattle.sock_message.specs.Asked.{Asked}
use Rattle.call_client.specs.ClientBetweenOperations.{MayGo}
use Rattle.call_run.specs.declared.hiring.Room.{Room}
use Rattle.call_run.specs.declared.worker.Worker.{Worker}
use Rattle.call_run.specs.Threads.{opens_of, LinksDown, DidNothing}
use Rattle.call_run.specs.Hired.{opens_of_all, HasRoom, IsNewId, IsHired, AreHired}

-- ## Passes

pub all_snoc : {A : Type 0} (P : A → Type 0) (xs : List A) (x : A) → All P xs → P x → All P (xs ++ x ∷ [])
all_snoc P xs x all one = All-append P xs (x ∷ []) all (All-cons P x [] one (All-nil P))

pub all_split : {A : Type 0} (P : A → Type 0) (xs ys : List A) → All P (xs ++ ys) → All P xs × All P ys
all_split P xs ys h = (
  (λ k d lt. subst P (get_or_append_left xs ys d k lt) (h k d (omega (arith, length-append xs ys)))),
  (λ k d lt. subst P (get_or-append-add xs ys k d) (h (length xs + k) d (omega (arith, length-append xs ys)))),
)

module _ {O : Type 0} {g : Ghosts O} where
  pub down_split : (first : ℕ) (xs ys : List (LinkPass O g)) → LinksDown first (xs ++ ys) → LinksDown (first + length ys) xs × LinksDown first ys
  down_split first [] ys a = (tt, a)
  down_split first (x ∷ xs) ys a = let b = down_split first xs ys a.1 in let n = length-append xs ys in ((a.0 ∙ omega arith, b.0), b.1)

  down_snoc : (first : ℕ) (xs : List (LinkPass O g)) (x : LinkPass O g) → LinksDown (first + 1) xs → x.link ≡ first → LinksDown first (xs ++ x ∷ [])
  down_snoc first [] x a e = (e ∙ omega arith, tt)
  down_snoc first (y ∷ ys) x a e = let n = length-append ys (x ∷ []) in (a.0 ∙ omega arith, down_snoc first ys x a.1 e)

  -- the passes of a new table, the first one last
  pub down_of : (z : TableId) (p : Plan) (n : ℕ) (xs : List (LinkPass O g)) → PassesFrom z p n xs → LinksDown n (reverse xs)
  down_of z p n [] a = tt
  down_of z p n (x ∷ xs) a = subst (LinksDown n) (sym (reverse-append (x ∷ []) xs)) (down_snoc n (reverse xs) x (down_of z p (n + 1) xs a.2) a.1)

-- ## Seats

pub seats_last : {S : Type 0} (z : TableId) (p : Plan) (xs : List (Seat S View)) (x : Seat S View) → AreNewSeats z p (xs ++ x ∷ []) → AreNewSeats z p xs × IsNewSeat z p x
seats_last z p [] x a = (tt, a.0)
seats_last z p (y ∷ ys) x a = let b = seats_last z p ys x a.1 in ((a.0, b.0), b.1)

-- ## Seats of the ids

module _ {C : Type 0} (y : TableId) where
  pub ids_last : (xs : List (Seat (Option C) (id_view.View C))) (x : Seat (Option C) (id_view.View C)) → AreNew y (xs ++ x ∷ []) → AreNew y xs × IsNewId y x
  ids_last [] x a = (tt, a.0)
  ids_last (s ∷ xs) x a = let b = ids_last xs x a.1 in ((a.0, b.0), b.1)

-- ## Clients

module _ {O : Type 0} {g : Ghosts O} (z : TableId) (p : Plan) (y : TableId) where
  abbrev pub opens_by : List (Worker O g) → ℕ
  opens_by [] = 0
  opens_by (w ∷ ws) = opens_of w.tasks.items + opens_by ws

  opens_by-snoc : (ws : List (Worker O g)) (w : Worker O g) → opens_by (ws ++ w ∷ []) ≡ opens_by ws + opens_of w.tasks.items
  opens_by-snoc [] w = omega arith
  opens_by-snoc (v ∷ vs) w = omega (arith, opens_by-snoc vs w)

  hired_as : (n m a b : ℕ) (w : Worker O g) → n ≡ m → a ≡ b → IsHired z p y n a w → IsHired z p y m b w
  hired_as n m a b w e f h = subst (λ (k : ℕ). IsHired z p y m k w) f (subst (λ (k : ℕ). IsHired z p y k a w) e h)

  hired_snoc : (n first : ℕ) (ws : List (Worker O g)) (w : Worker O g) → AreHired z p y n first ws → IsHired z p y (n + length ws) (first + opens_by ws) w → AreHired z p y n first (ws ++ w ∷ [])
  hired_snoc n first [] w a h = (hired_as (n + 0) n (first + 0) first w (omega arith) (omega arith) h, tt)
  hired_snoc n first (v ∷ vs) w a h = (a.0, hired_snoc (n + 1) (first + opens_of v.tasks.items) vs w a.1 (hired_as _ _ _ _ w (omega arith) (omega arith) h))

  -- when a client with these seats may go
  abbrev pub MayGoWith : Seat (SockHome O g) View → Seat (Option Asked) (id_view.View Asked) → Worker O g → Type 0
  MayGoWith s i w = IsNewSeat z p s → Sits y i → IsFree i.me.0 → All (IsPass z p) w.caller.passes.items → MayGo z p y 0 w.caller

  -- some have their seats and passes, and the others theirs to come
  pub record AreHiring (first : ℕ) (all rest : List (Room O g)) (seats : List (Seat (SockHome O g) View)) (ids : List (Seat (Option Asked) (id_view.View Asked))) (passes : List (LinkPass O g)) (workers : List (Worker O g)) : Type 0 where
    pub hired : AreHired z p y 1 first workers
    pub next : first + opens_by workers + length passes ≡ p.links
    pub rooms : All HasRoom rest
    pub seats_are : AreNewSeats z p seats
    pub ids_are : AreNew y ids
    pub as_many : (length rest ≡ length seats) × (length rest ≡ length ids)
    pub links : LinksDown (p.links - length passes) passes
    pub passes_are : All (IsPass z p) passes
    pub count : opens_of_all rest ≡ length passes
    pub tasks : map (λ (w : Worker O g). w.tasks.items) workers ++ map (λ (r : Room O g). r.tasks.items) rest ≡ map (λ (r : Room O g). r.tasks.items) all

  pub one_hired : (first : ℕ) (all rest : List (Room O g)) (r : Room O g) (seats left : List (Seat (SockHome O g) View)) (s : Seat (SockHome O g) View) (ids fewer_ids : List (Seat (Option Asked) (id_view.View Asked))) (i : Seat (Option Asked) (id_view.View Asked))
      (passes fewer : List (LinkPass O g)) (workers : List (Worker O g)) (w : Worker O g)
      → AreHiring first all (r ∷ rest) seats ids passes workers → seats ≡ left ++ s ∷ [] → ids ≡ fewer_ids ++ i ∷ [] → passes ≡ fewer ++ w.caller.passes.items → length w.caller.passes.items ≡ opens_of r.tasks.items
      → (w.caller.seat ≡ s) × (w.caller.calls.seat ≡ i) → DidNothing w.caller → MayGoWith s i w → w.number ≡ 1 + length workers → w.tasks ≡ r.tasks → AreHiring first all rest left fewer_ids fewer (workers ++ w ∷ [])
  one_hired first all rest r seats left s ids fewer_ids i passes fewer workers w h se ie pe count seat nothing go number ops =
      let ss = seats_last z p left s (subst (AreNewSeats z p) se h.seats_are) in
      let is = ids_last y fewer_ids i (subst (AreNew y) ie h.ids_are) in
      let down = down_split (p.links - length passes) fewer w.caller.passes.items (subst (LinksDown (p.links - length passes)) pe h.links) in
      let ok = all_split (IsPass z p) fewer w.caller.passes.items (subst (All (IsPass z p)) pe h.passes_are) in
      let n = ap length pe ∙ length-append fewer w.caller.passes.items in
      let c = count in let same : opens_of w.tasks.items ≡ opens_of r.tasks.items = ap (λ v. opens_of v.items) ops in let q = h.next in let k = h.count in
      let m = ap length se ∙ length-append left (s ∷ []) in let im = ap length ie ∙ length-append fewer_ids (i ∷ []) in let am = h.as_many.0 in let ai = h.as_many.1 in
      record {
        hired = hired_snoc 1 first workers w h.hired record {
          number = number;
          seat = subst (IsNewSeat z p) (sym seat.0) ss.1;
          ids = subst (IsNewId y) (sym seat.1) is.1;
          links = subst (λ (k : ℕ). LinksDown k w.caller.passes.items) (omega arith) down.1;
          count = count ∙ sym same;
          nothing = nothing;
          go = (let has = new_sits y i is.1 in go ss.1 has.0 has.1 ok.1);
        };
        next = (let o = opens_by-snoc workers w in omega arith);
        rooms = (λ k d lt. h.rooms (suc k) d (omega arith));
        seats_are = ss.0;
        ids_are = is.0;
        as_many = (omega arith, omega arith);
        links = subst (λ (k : ℕ). LinksDown k fewer) (omega arith) down.0;
        passes_are = ok.0;
        count = omega arith;
        tasks = ap (λ l. l ++ map (λ (x : Room O g). x.tasks.items) rest) (map-append (λ (x : Worker O g). x.tasks.items) workers (w ∷ [])) ∙ (append_assoc (map (λ (x : Worker O g). x.tasks.items) workers) (w.tasks.items ∷ []) (map (λ (x : Room O g). x.tasks.items) rest)
            ∙ (ap (λ o. map (λ (x : Worker O g). x.tasks.items) workers ++ o.items ∷ map (λ (x : Room O g). x.tasks.items) rest) ops ∙ h.tasks));
      }
