-- What each link's reader did, one after the other, and what they leave.
use Rattle.std.proofs.Common.{◌≡◌, ℕ, suc, ◌+◌, ◌<◌, Bool, false, List, [], ◌∷◌, map, length, get_or, refl, sym, ap, ◌∙◌, subst, arith}
use Rattle.std.specs.Prelude.{All, Option}
use Rattle.std.specs.List.{AllByRecursion}
use Rattle.std.proofs.lemmas.List.{length-map}
use Rattle.std.proofs.lemmas.List.Elements.{All-nil, All-cons}
use Rattle.atomic_table.specs.Seated.{TableId}
use Rattle.atomic_table.specs.declared.shared.Seat.{Seat}
use Rattle.sock_io.specs.declared.link.Out.{Ghosts}
use Rattle.sock_io.specs.LinkHalves.{InState}
use Rattle.sock_io.specs.Peer.{PeerState}
use Rattle.sock_words.specs.declared.plain.Plan.{Plan}
use Rattle.sock_model.specs.declared.view.View.{View}
use Rattle.sock_model.specs.ViewsOfSplitSeats.{newcomer}
use Rattle.sock_rule.specs.declared.homes.SockHome.{SockHome}
use Rattle.sock_table.specs.ClosedSocketTable.{AllDone}
use Rattle.sock_open.proofs.SeatsOfNewTable.{new_view}
use Rattle.corr_core.specs.declared.marks.Plan as id_plan
use Rattle.corr_core.specs.declared.marks.View as id_view
use Rattle.corr_id.proofs.TestingOneLock.{new_sits}
use Rattle.sock_message.specs.Asked.{Asked}
use Rattle.call_client.specs.rpc_client.proofs.NewSeatsOwnList.{new_idle, new_holder}
use Rattle.rpc_reader.specs.ReaderBooks.{books}
use Rattle.rpc_reader.specs.ReaderRunFromOpen.{RanBy}
use Rattle.link_crew.specs.LinkThreadsBesideClients.{IsReady, HasWorked}
use Rattle.link_crew.specs.ServingOtherEnd.{ServedToEnd}
use Rattle.link_crew.specs.declared.beside.Beside.{Beside}
use Rattle.link_crew.specs.declared.beside.Rest.{Rest}
use Rattle.call_run.specs.declared.links.LinksLeft.{LinksLeft}
use Rattle.call_run.specs.ReadersOfLinks.{LinkReader, IsReader, AreReaders, AllServed}
use Rattle.call_run.specs.CrewOfRun.{AreLeft}
use Rattle.call_run.specs.LinksBesideClients.{IsSeated, AreSeated, rest_of, HaveWorked, AreParted, LinksRan}
use Rattle.call_run.proofs.WholeRunOverTables.{twice}
use Rattle.sock_words.specs.Totals.{total, total as id_total}

module _ {O I P : Type 0} {g : Ghosts O} (z : TableId) (p : Plan) (y : TableId) where
  -- ## Before

  pub all_ready : (link : ℕ) (os : List ℕ) (bs : List (Beside O I P g)) → AreSeated z p y link os bs → All (λ (o : ℕ). o < p.operations) os → All (IsReady z p y) bs
  all_ready link [] [] a fit = All-nil (IsReady z p y)
  all_ready link [] (b ∷ bs) a fit = absurd a
  all_ready link (o ∷ os) [] a fit = absurd a
  all_ready link (o ∷ os) (b ∷ bs) a fit = let has = new_sits y b.reader.calls.seat a.0.ids in All-cons (IsReady z p y) b bs record {
    idle = new_idle z p b.reader.seat a.0.seat;
    holds = new_holder z p b.reader.seat a.0.seat;
    ids = record { sits = has.0; free = has.1 };
    within = subst (λ n. n < p.operations) (sym a.0.operation_is) (fit 0 0 (omega arith));
  } (all_ready (link + 1) os bs a.1 (λ k d lt. fit (suc k) d (omega arith)))

  pub seated_long : (link : ℕ) (os : List ℕ) (bs : List (Beside O I P g)) → AreSeated z p y link os bs → length os ≡ length bs
  seated_long link [] [] a = refl
  seated_long link [] (b ∷ bs) a = absurd a
  seated_long link (o ∷ os) [] a = absurd a
  seated_long link (o ∷ os) (b ∷ bs) a = ap suc (seated_long (link + 1) os bs a.1)

  -- ## Behind

  module _ (inn : I → InState) (peer : P → PeerState) (q : id_plan.Plan) (calls : List ℕ) where
    abbrev reader_of : Beside O I P g → Beside O I P g → LinkReader g
    reader_of old new = record { link = old.reader.link; operation = old.operation; seat = new.reader.seat; ids = new.reader.calls.seat; before = inn old.inn; behind = inn new.inn; books = books new.reader.calls }

    abbrev ran_from : Beside O I P g → Beside O I P g → Bool → View → Rattle.rpc_reader.specs.ReaderBooks.Books → Type 0
    ran_from old new unread v b = RanBy q old.reader.link calls false unread (inn old.inn) (inn new.inn) p old.operation v new.reader.seat.me.0 b (books new.reader.calls)

    one_reader : (link o : ℕ) (old new : Beside O I P g) → IsSeated z p y link o old → HasWorked inn peer z p q calls old new → new.unread ≡ false → IsReader p q calls (reader_of old new)
    one_reader link o old new a h calm = record {
      spare = a.seat.spare;
      ran = subst (ran_from old new false (newcomer p [] a.seat.spare)) a.nothing (subst (λ v. ran_from old new false v (books old.reader.calls)) (new_view z p old.reader.seat a.seat) (subst (λ u. ran_from old new u old.reader.seat.me.0 (books old.reader.calls)) calm h.read.ran));
      view_is = refl;
    }

    one_share : (link o : ℕ) (old new : Beside O I P g) → IsSeated z p y link o old → HasWorked inn peer z p q calls old new → new.reader.seat.me.0.share ≡ 1
    one_share link o old new a h = h.read.share ∙ ap (λ (v : View). v.share) (new_view z p old.reader.seat a.seat)

    one_id : (link o : ℕ) (old new : Beside O I P g) → IsSeated z p y link o old → HasWorked inn peer z p q calls old new → AreLeft y (new.reader.calls.seat ∷ []) × (new.reader.calls.seat.me.0.share ≡ 1)
    one_id link o old new a h = let r = h.read.ids in let share = r.share ∙ ap (λ m. m.0.share) a.ids.1 in (((record { sits = (r.stays.0 ∙ a.ids.0, subst (λ (n : ℕ). 0 < n) (sym share) (omega arith)); free = r.free }, r.stays.2 ∙ ap (λ m. m.1) a.ids.1), tt), share)

    -- memory was wanting for none of them
    abbrev pub AreWell : List (Beside O I P g) → Type 0
    AreWell bs = AllByRecursion (λ (b : Beside O I P g). (b.unserved ≡ false) × (b.unread ≡ false)) bs

    -- the readers of these links, and what they leave
    pub record Read (link : ℕ) (os : List ℕ) (xs ys : List (Beside O I P g)) : Type 0 where
      pub readers : List (LinkReader g)
      pub are : AreWell ys → AreReaders p q calls link os readers
      pub before : map (λ (x : LinkReader g). x.before) readers ≡ map (λ (b : Beside O I P g). inn b.inn) xs
      pub behind : map (λ (x : LinkReader g). x.behind) readers ≡ map (λ (b : Beside O I P g). inn b.inn) ys
      pub served : AreWell ys → AllServed (map (λ (b : Beside O I P g). peer b.peer) xs) (map (λ (b : Beside O I P g). peer b.peer) ys)
      pub seats : map (λ (x : LinkReader g). x.seat) readers ≡ map (λ (b : Beside O I P g). b.reader.seat) ys
      pub ids : map (λ (x : LinkReader g). x.ids) readers ≡ map (λ (b : Beside O I P g). b.reader.calls.seat) ys
      pub told : map (λ (x : LinkReader g). x.books.told) readers ≡ map (λ (b : Beside O I P g). b.reader.calls.told.items) ys
      pub early : map (λ (x : LinkReader g). x.books.early) readers ≡ map (λ (b : Beside O I P g). b.reader.calls.early.items) ys
      pub silent : AllByRecursion (λ (x : LinkReader g). x.seat.me.0.lists ≡ [] ∷ []) readers
      pub done : AllDone z p (map (λ (b : Beside O I P g). b.reader.seat) ys)
      pub share : total (λ (s : Seat (SockHome O g) View). s.me.0.share) (map (λ (b : Beside O I P g). b.reader.seat) ys) ≡ length os
      pub left : AreLeft y (map (λ (b : Beside O I P g). b.reader.calls.seat) ys)
      pub id_share : id_total (λ (s : Seat (Option Asked) (id_view.View Asked)). s.me.0.share) (map (λ (b : Beside O I P g). b.reader.calls.seat) ys) ≡ length os

    read_all : (link : ℕ) (os : List ℕ) (xs ys : List (Beside O I P g)) → length ys ≡ length xs → AreSeated z p y link os xs → ((i : ℕ) (d : Beside O I P g) → i < length xs → HasWorked inn peer z p q calls (get_or xs i d) (get_or ys i d)) → Read link os xs ys
    read_all link [] [] [] e a h = record { readers = []; are = λ well. tt; before = refl; behind = refl; served = λ well. tt; seats = refl; ids = refl; told = refl; early = refl; silent = tt; done = tt; share = refl; left = tt; id_share = refl }
    read_all link [] [] (w ∷ ws) e a h = absurd (omega arith)
    read_all link [] (x ∷ xs) ys e a h = absurd a
    read_all link (o ∷ os) [] ys e a h = absurd a
    read_all link (o ∷ os) (x ∷ xs) [] e a h = absurd (omega arith)
    read_all link (o ∷ os) (x ∷ xs) (w ∷ ws) e a h = let r = read_all (link + 1) os xs ws (omega arith) a.1 (λ i d lt. h (suc i) d (omega arith)) in let one = h 0 x (omega arith) in let id = one_id link o x w a.0 one in record {
      readers = reader_of x w ∷ r.readers;
      are = λ well. (one_reader link o x w a.0 one well.0.1, a.0.number, a.0.operation_is, r.are well.1);
      before = ap (λ l. inn x.inn ∷ l) r.before;
      behind = ap (λ l. inn w.inn ∷ l) r.behind;
      served = λ well. (subst (λ u. ServedToEnd u (peer x.peer) (peer w.peer)) well.0.0 one.served, r.served well.1);
      seats = ap (λ l. w.reader.seat ∷ l) r.seats;
      ids = ap (λ l. w.reader.calls.seat ∷ l) r.ids;
      told = ap (λ l. w.reader.calls.told.items ∷ l) r.told;
      early = ap (λ l. w.reader.calls.early.items ∷ l) r.early;
      silent = (one.read.lists ∙ ap (λ (v : View). v.lists) (new_view z p x.reader.seat a.0.seat), r.silent);
      done = (one.read.done, r.done);
      share = (let s = one_share link o x w a.0 one in let t = r.share in omega arith);
      left = (id.0.0, r.left);
      id_share = (let s = id.1 in let t = r.id_share in omega arith);
    }

    -- what is left of these links
    pub links_ran : (os : List ℕ) (xs ys : List (Beside O I P g)) (l : LinksLeft O I P g) → AreSeated z p y 0 os xs → HaveWorked inn peer z p q calls xs ys → AreParted ys l → LinksRan inn peer z p y q os calls (map rest_of xs) l
    links_ran os xs ys l a h parted = let r = read_all 0 os xs ys h.count a h.each in record {
      left = record { done = subst (AllDone z p) (sym parted.seats) r.done; all = ap (total (λ (s : Seat (SockHome O g) View). s.me.0.share)) parted.seats ∙ r.share };
      ids = subst (AreLeft y) (sym parted.ids) r.left;
      all_ids = ap (id_total (λ (s : Seat (Option Asked) (id_view.View Asked)). s.me.0.share)) parted.ids ∙ r.id_share;
      count = ap length parted.rests ∙ (length-map ys rest_of ∙ (h.count ∙ sym (length-map xs rest_of)));
      room = parted.room;
      read = λ calm. let well = parted.calm calm in record {
        readers = r.readers;
        are = r.are well;
        left = record {
          before = r.before ∙ sym (twice rest_of (λ (x : Rest I P). inn x.inn) xs);
          behind = r.behind ∙ (sym (twice rest_of (λ (x : Rest I P). inn x.inn) ys) ∙ sym (ap (map (λ (x : Rest I P). inn x.inn)) parted.rests));
          served = subst (λ s. AllServed s (map (λ (x : Rest I P). peer x.peer) l.rests.items)) (sym (twice rest_of (λ (x : Rest I P). peer x.peer) xs))
              (subst (AllServed (map (λ (b : Beside O I P g). peer b.peer) xs)) (sym (twice rest_of (λ (x : Rest I P). peer x.peer) ys) ∙ sym (ap (map (λ (x : Rest I P). peer x.peer)) parted.rests)) (r.served well));
          ids_are = r.ids ∙ sym parted.ids;
          told_is = r.told ∙ (sym (twice (λ (b : Beside O I P g). b.reader.calls.told) (λ v. v.items) ys) ∙ sym (ap (map (λ v. v.items)) parted.told));
          early_is = r.early ∙ (sym (twice (λ (b : Beside O I P g). b.reader.calls.early) (λ v. v.items) ys) ∙ sym (ap (map (λ v. v.items)) parted.early));
        };
        seats = r.seats ∙ sym parted.seats;
        silent = r.silent;
      };
    }
