-- The seats of a queue that is being made.
use Rattle.std.proofs.Common.{◌≡◌, ◌≢◌, ◌⊎◌, ℕ, ◌+◌, ◌≤◌, inl, inr, Bool, true, false, cond, suc, zero, Option, Some, None, IfSome, List, [], ◌∷◌, ◌++◌, length, length-append, map, flat_map, eq-eqb, refl, sym, ap, ◌∙◌, subst, arith}
use Rattle.std.specs.Option.{ForSome}
use Rattle.std.specs.List.{AllByRecursion}
use mathlib.Core.Option.{some, some-injective, some-ne-none}
use lib.ListN.{get_elem?}
use Rattle.atomic_table.specs.Seated.{TableId}
use Rattle.atomic_table.specs.Table.{Me}
use Rattle.atomic_table.specs.declared.shared.Seat.{Seat}
use Rattle.sock_io.specs.declared.link.Out.{Ghosts}
use Rattle.sock_io.specs.LinkHalves.{OutState}
use Rattle.sock_words.specs.declared.plain.Plan.{Plan}
use Rattle.sock_words.specs.declared.socket_id.SocketId.{SocketId}
use Rattle.sock_words.specs.declared.vref.Vref.{Vref}
use Rattle.sock_words.specs.declared.place_word.PlaceWord.{PlaceWord}
use Rattle.sock_words.specs.PackedWords.{socket_id_slot, socket_id_version}
use Rattle.sock_words.specs.Totals.{total}
use Rattle.sock_model.specs.declared.marks.Mark.{Mark}
use Rattle.sock_model.specs.declared.chain.Entry.{Entry}
use Rattle.sock_model.specs.declared.view.View.{View}
use Rattle.sock_model.specs.MarkWeights.{is_failer, is_linked}
use Rattle.sock_model.specs.SlotRows.{marks_of}
use Rattle.sock_model.specs.Authors.{pick}
use Rattle.sock_model.specs.Deliveries.{Taken, whole}
use Rattle.sock_open.specs.slot_steps.proofs.RuleNumbers.{pair_is}
use Rattle.sock_open.specs.NewTableContents.{IsNewSeat, PassesFrom}
use Rattle.sock_open.proofs.SeatsOfNewTable.{new_view}
use Rattle.sock_rule.specs.NotesBesideRows.{PutAt}
use Rattle.sock_rule.specs.SocketSeatSplits.{IsSeat}
use Rattle.sock_rule.specs.ClosingWordsAndNotes.{PlacesDiffer, LinkTook}
use Rattle.sock_rule.specs.declared.homes.SockHome.{SockHome}
use Rattle.sock_table.specs.LinkPasses.{Created}
use Rattle.sock_table.specs.declared.passes.LinkPass.{LinkPass}
use Rattle.sock_table.specs.ReferenceCalls.{IsBetween, SameTokens, Knows}
use Rattle.sock_table.specs.ClosedSocketTable.{AllDone, ClosedBy, OutBack}
use Rattle.write_chain.proofs.SeatBetweenMessages.{new_free, kept_free, stored_ready}
use Rattle.exec_queue.specs.declared.queue.TaskQueue.{TaskQueue}
use Rattle.exec_queue.specs.declared.queue.TaskSubmitter.{TaskSubmitter}
use Rattle.exec_queue.specs.StoppedQueue.{failings, MadeOne}
use Rattle.exec_queue.specs.EndedQueue.{AreSubmitters}
use Rattle.exec_queue.specs.NewQueue.{IsIdle, IsBeginner, IsNew, AreNewFrom}

false_true : false ≡ true → ⊥
false_true e = subst (λ (b : Bool). cond b ⊥ (Unit {0})) e tt

pub all_then : {X : Type 0} (P : X → Type 0) (xs : List X) (x : X) → AllByRecursion P xs → P x → AllByRecursion P (xs ++ x ∷ [])
all_then P [] x a p = (p, tt)
all_then P (y ∷ ys) x a p = (a.0, all_then P ys x a.1 p)

pub all_before : {X : Type 0} (P : X → Type 0) (xs : List X) (x : X) → AllByRecursion P (xs ++ x ∷ []) → AllByRecursion P xs × P x
all_before P [] x a = (tt, a.0)
all_before P (y ∷ ys) x a = let q = all_before P ys x a.1 in ((a.0, q.0), q.1)

all_at : {X : Type 0} (P : X → Type 0) (xs : List X) (i : ℕ) (x : X) → AllByRecursion P xs → get_elem? xs i ≡ some x → P x
all_at P [] i x a e = absurd (some-ne-none x (sym e))
all_at P (y ∷ ys) zero x a e = subst P (some-injective y x e) a.0
all_at P (y ∷ ys) (suc i) x a e = all_at P ys i x a.1 e

at_map : {X Y : Type 0} (f : X → Y) (xs : List X) (i : ℕ) (x : X) → get_elem? xs i ≡ some x → get_elem? (map f xs) i ≡ some (f x)
at_map f [] i x e = absurd (some-ne-none x (sym e))
at_map f (y ∷ ys) zero x e = ap (λ y. some (f y)) (some-injective y x e)
at_map f (y ∷ ys) (suc i) x e = at_map f ys i x e

-- a seat more that finds the socket
pub found_more : {X : Type 0} (B : ℕ → X → Type 0) (xs : List X) (x : X) (all r : Option SocketId) → IfSome all (λ i. AllByRecursion (B i.0) xs) → IfSome r (λ i. (all ≡ Some i) × B i.0 x) → IfSome r (λ i. AllByRecursion (B i.0) (xs ++ x ∷ []))
found_more B xs x all None a f = tt
found_more B xs x all (Some i) a f = all_then (B i.0) xs x (subst (λ (o : Option SocketId). IfSome o (λ j. AllByRecursion (B j.0) xs)) f.0 a) f.1

module _ {S : Type 0} (z : TableId) (p : Plan) where
  pub new_idle : (s : Seat S View) → IsNewSeat z p s → IsIdle z p s
  new_idle s n = record { free = new_free z p s n; lists = ap (λ (y : View). y.lists) (new_view z p s n) }

  -- a new seat has no marks
  bare : (f : Mark → ℕ) (i : ℕ) (s : Seat S View) → IsNewSeat z p s → marks_of f i s.me.0 ≡ 0
  bare f i s n = ap (marks_of f i) (new_view z p s n)

  -- the seat that made the socket, and stored its id
  pub begun : (id link x word : ℕ) (s t u : Seat S View) → IsNewSeat z p s → IsSeat z p t → t.me.1 ≡ s.me.1 → IsBetween p t.me.0 → SameTokens p s.me.0 t.me.0 → Knows p t.me.0 id → Created id link s.me.0 t.me.0 → link ≡ 0
      → IsSeat z p u → PutAt x word t.me u.me → (IsBetween p t.me.0 → IsBetween p u.me.0) → SameTokens p t.me.0 u.me.0 → IsBeginner z p id u
  begun id link x word s t u n is slots b same knows created zero_ is' put b' same' = record {
    ready = stored_ready z p x word id t u (kept_free z p s t (new_free z p s n) is slots b same) knows is' put b' same';
    lists = same'.lists ∙ (same.lists ∙ ap (λ (y : View). y.lists) (new_view z p s n));
    noted = record {
      failed = inl none_;
      dead = λ some_. absurd (omega (arith, some_, none_));
      later = λ e. absurd (false_true e);
      taken = λ e. absurd (false_true e);
      made = made;
    };
  }
    where
      still : (f : Mark → ℕ) → marks_of f (socket_id_slot id) u.me.0 ≡ marks_of f (socket_id_slot id) t.me.0
      still f = ap (λ (m : Me S View). marks_of f (socket_id_slot id) m.0) put.view

      none_ : failings id u.me.0 ≡ 0
      none_ = (let a = still (is_failer (socket_id_version id)) in let c = created.here (is_failer (socket_id_version id)) in let d = bare (is_failer (socket_id_version id)) (socket_id_slot id) s n in omega arith)

      made : MadeOne id u.me.0
      made h k some_ = (let a = still (is_linked h k) in let c = created.here (is_linked h k) in let d = bare (is_linked h k) (socket_id_slot id) s n in let q = pair_is h k (socket_id_version id) link (omega arith) in (sym q.0, sym q.1 ∙ zero_))

  pub all_done : (ss : List (Seat S View)) → AllByRecursion (IsIdle z p) ss → AllDone z p ss
  all_done [] a = tt
  all_done (s ∷ ss) a = (a.0.free.done, all_done ss a.1)

  pub all_share : (ss : List (Seat S View)) → AllByRecursion (IsIdle z p) ss → total (λ (s : Seat S View). s.me.0.share) ss ≡ length ss
  all_share [] a = refl
  all_share (s ∷ ss) a = omega (arith, a.0.free.share, all_share ss a.1)

  empty_lists : (ss : List (Seat S View)) → AllByRecursion (IsIdle z p) ss → AllByRecursion (λ (l : List Entry). l ≡ []) (flat_map (λ (s : Seat S View). s.me.0.lists) ss)
  empty_lists [] a = tt
  empty_lists (s ∷ ss) a = subst (λ (l : List (List Entry)). AllByRecursion (λ (l : List Entry). l ≡ []) (l ++ flat_map (λ (s : Seat S View). s.me.0.lists) ss)) (sym a.0.lists) (refl, empty_lists ss a.1)

-- where no list has an entry, there is none
none_logged : (names by : List ℕ) (log : List Entry) (lists : List (List Entry)) → lists ≡ map (λ a. pick a by log) names → AllByRecursion (λ (l : List Entry). l ≡ []) lists → ((q a : ℕ) → get_elem? by q ≡ some a → (i : ℕ) × (get_elem? names i ≡ some a)) → length by ≡ length log → log ≡ []
none_logged names by [] lists are empty named long = refl
none_logged names [] (e ∷ es) lists are empty named long = absurd (omega arith)
none_logged names (b ∷ bs) (e ∷ es) lists are empty named long = let n = named zero b refl in
    let l : pick b (b ∷ bs) (e ∷ es) ≡ [] = all_at (λ (l : List Entry). l ≡ []) (map (λ a. pick a (b ∷ bs) (e ∷ es)) names) n.0 (pick b (b ∷ bs) (e ∷ es)) (subst (AllByRecursion (λ (l : List Entry). l ≡ [])) are empty) (at_map (λ a. pick a (b ∷ bs) (e ∷ es)) names n.0 b n.1) in
    let q = ap (λ t. length (cond t (e ∷ pick b bs es) (pick b bs es))) (eq-eqb b b refl) in let r = ap length l in absurd (omega arith)

nothing_whole : (n : ℕ) → whole [] n ≡ []
nothing_whole zero = refl
nothing_whole (suc n) = refl

took_none : (n : ℕ) (took : List ℕ) → Taken [] n took → took ≡ []
took_none n took t = t.took_is ∙ (ap (λ (l : List ℕ). l ++ t.part) (nothing_whole n) ∙ by_cases t.of_next)
  where
    by_cases : (t.part ≡ []) ⊎ ((e : Entry) × (rest : List ℕ) × (get_elem? [] n ≡ some e) × (e.bytes ≡ t.part ++ rest) × (rest ≢ [])) → t.part ≡ []
    by_cases (inl e) = e
    by_cases (inr e) = absurd (some-ne-none e.0 (sym e.2))

module _ {O S : Type 0} {state : O → OutState} (z : TableId) (p : Plan) (seats : List (Seat S View)) (places : List PlaceWord) (vrefs : List Vref) (outs : List O) (closed : ClosedBy state p seats places vrefs outs) where
  -- the one half of a queue of which no task was accepted took nothing
  pub nothing_took : (o : O) → AllByRecursion (IsIdle z p) seats → p.links ≡ 1 → outs ≡ o ∷ [] → ForSome (state o).took (λ bytes. bytes ≡ [])
  nothing_took o a links e = subst (λ (y : O). ForSome (state y).took (λ bytes. bytes ≡ [])) (some-injective b.out o (sym b.there ∙ ap (λ (l : List O). get_elem? l 0) e)) (subst (λ (t : List ℕ). ForSome (state b.out).took (λ bytes. bytes ≡ t)) took b.tells)
    where
      b : OutBack state p closed.view closed.ordered.log closed.words outs 0
      b = closed.outs_back 0 (let l = links in omega arith)

      none_ : closed.ordered.log ≡ []
      none_ = none_logged closed.ordered.names closed.ordered.by closed.ordered.log closed.view.lists closed.ordered.lists_are (subst (AllByRecursion (λ (l : List Entry). l ≡ [])) (sym closed.lists) (empty_lists z p seats a)) closed.ordered.named closed.ordered.long

      differ : PlacesDiffer []
      differ i j x y ex ey same = absurd (some-ne-none x (sym ex))

      took : b.took ≡ []
      took = let t = subst (λ (l : List Entry). LinkTook p closed.view l closed.words 0 b.took) none_ b.took_is in let f = t.fifo differ in took_none t.kept b.took f.took_is

-- ## Submitters

pub new_then : {O : Type 0} {g : Ghosts O} (q : TaskQueue O g) (n : ℕ) (ss : List (TaskSubmitter O g)) (s : TaskSubmitter O g) → AreNewFrom q n ss → IsNew q (n + length ss) s → AreNewFrom q n (ss ++ s ∷ [])
new_then q n [] s a is = (subst (λ (m : ℕ). IsNew q m s) (omega arith) is, tt)
new_then q n (x ∷ ss) s a is = (a.0, new_then q (n + 1) ss s a.1 (subst (λ (m : ℕ). IsNew q m s) (omega arith) is))

-- a seat of which no task was accepted, with a number
pub new_submitter : {O : Type 0} {g : Ghosts O} (q : TaskQueue O g) (n m : ℕ) (seat : Seat (SockHome O g) View) → IsBeginner q.table.rule.table.shared.table_id q.table.rule.plan q.id.0 seat → m ≡ n → IsNew q n (record { seat = seat; number = m; stops = 0; told = false; full = false })
new_submitter q n m seat b e = record {
  is = record { ready = b.ready; own = []; lists = b.lists; submitted = tt; differ = tt; noted = b.noted };
  number_is = e;
  stops = refl;
  told = refl;
  full = refl;
}

-- the one pass is that of link 0
pub one_pass : {O : Type 0} {g : Ghosts O} (z : TableId) (p : Plan) (ys xs : List (LinkPass O g)) (x : LinkPass O g) → xs ≡ ys ++ x ∷ [] → PassesFrom z p 0 xs → length xs ≤ 1 → x.link ≡ 0
one_pass z p [] xs x e a le = (subst (PassesFrom z p 0) e a).1
one_pass z p (y ∷ ys) xs x e a le = absurd (omega (arith, ap length e, length-append ys (x ∷ []), le))

-- new submitters are those of which no task was accepted
pub new_submitters : {O : Type 0} {g : Ghosts O} (q : TaskQueue O g) (n : ℕ) (ss : List (TaskSubmitter O g)) → AreNewFrom q n ss → AreSubmitters q (map (λ (s : TaskSubmitter O g). []) ss) ss
new_submitters q n [] a = tt
new_submitters q n (s ∷ ss) a = (a.0.is, new_submitters q (n + 1) ss a.1)
