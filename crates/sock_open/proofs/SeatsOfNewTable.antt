-- The seats and the passes of a new table, as they are split off the first seat.
use Rattle.std.proofs.Common.{◌≡◌, ℕ, suc, ◌+◌, ◌-◌, ◌≤◌, List, [], ◌∷◌, ◌++◌, reverse, refl, sym, ap, ◌∙◌, subst, arith}
use Rattle.std.proofs.lemmas.List.{reverse-append}
use Rattle.atomic_table.specs.Seated.{TableId}
use Rattle.atomic_table.specs.Table.{Me}
use Rattle.atomic_table.specs.declared.shared.Seat.{Seat}
use Rattle.sock_io.specs.declared.link.Out.{Ghosts}
use Rattle.sock_words.specs.declared.plain.Plan.{Plan}
use Rattle.sock_model.specs.declared.view.View.{View}
use Rattle.sock_model.specs.ViewsOfSplitSeats.{newcomer, below, carrier, earliest, later, lighter}
use Rattle.sock_rule.specs.OnTable.{opener}
use Rattle.sock_rule.specs.SocketSeatSplits.{IsSeat, giving, given, passed}
use Rattle.sock_rule.specs.declared.homes.SockHome.{SockHome}
use Rattle.sock_table.specs.declared.passes.LinkPass.{LinkPass}
use Rattle.sock_table.specs.LinkPasses.{IsPass}
use Rattle.sock_table.specs.ReferenceCalls.{IsBetween}
use Rattle.sock_table.specs.ClosedSocketTable.{IsDoneSeat}
use Rattle.sock_rule.specs.SocketSeatSplits.{IsDone}
use Rattle.sock_rule.specs.ClosingWordsAndNotes.{IsAtRest}
use Rattle.sock_open.specs.NewTableContents.{IsNewSeat, AreNewSeats, PassesFrom}
use Rattle.sock_words.specs.Totals.{total}

-- a seat with the passes of the first n links, which stands for some of the seats
abbrev pub standing : Plan → ℕ → ℕ → ℕ → View
standing p n spare share = record (newcomer p (below n) spare) { share = share }

-- a view without marks, rights and links in hand
pub record IsBlank (v : View) : Type 0 where
  pub marks : v.marks ≡ []
  pub rights : v.rights ≡ []
  pub hands : v.hands ≡ []

-- the first seat while passes are split off, of which n are left
pub record First {S : Type 0} (z : TableId) (p : Plan) (n spare share : ℕ) (s : Seat S View) : Type 0 where
  pub seat : IsSeat z p s
  pub slots : s.me.1 ≡ []
  pub blank : IsBlank s.me.0
  pub passes : s.me.0.passes ≡ below n
  pub has_spare : s.me.0.spare ≡ spare
  pub has_share : s.me.0.share ≡ share
  pub lists : s.me.0.lists ≡ [] ∷ []
  pub view : s.me.0 ≡ standing p n spare share

module _ {S : Type 0} (z : TableId) (p : Plan) where
  pub begins : (s : Seat S View) → s.table_id ≡ z → s.me ≡ (opener p, []) → 1 ≤ p.seats → First z p p.links 511 p.seats s
  begins s same view some_ = let v = ap (λ (m : Me S View). m.0) view in record {
    seat = (same, ap (λ (y : View). y.plan) v, (let e = ap (λ (y : View). y.share) v in omega arith));
    slots = ap (λ (m : Me S View). m.1) view;
    blank = record { marks = ap (λ (y : View). y.marks) v; rights = ap (λ (y : View). y.rights) v; hands = ap (λ (y : View). y.hands) v };
    passes = ap (λ (y : View). y.passes) v;
    has_spare = ap (λ (y : View). y.spare) v;
    has_share = ap (λ (y : View). y.share) v;
    lists = ap (λ (y : View). y.lists) v;
    view = v;
  }

  -- a pass was split off
  pub one_passed : (n m spare share : ℕ) (s t : Seat S View) → First z p n spare share s → IsSeat z p t → t.me ≡ (lighter s.me.0, s.me.1) → n ≡ suc m → First z p m (spare - 1) share t
  one_passed n m spare share s t f is view e = let v = ap (λ (x : Me S View). x.0) view in let b = f.blank in record {
    seat = is;
    slots = ap (λ (x : Me S View). x.1) view ∙ f.slots;
    blank = record { marks = ap (λ (y : View). y.marks) v ∙ b.marks; rights = ap (λ (y : View). y.rights) v ∙ b.rights; hands = ap (λ (y : View). y.hands) v ∙ b.hands };
    passes = ap (λ (y : View). y.passes) v ∙ ap later (f.passes ∙ ap below e);
    has_spare = ap (λ (y : View). y.spare) v ∙ ap (λ (y : ℕ). y - 1) f.has_spare;
    has_share = ap (λ (y : View). y.share) v ∙ f.has_share;
    lists = ap (λ (y : View). y.lists) v ∙ f.lists;
    view = v ∙ (ap (λ (y : View). record y { passes = later y.passes; spare = y.spare - 1 }) f.view ∙ ap (λ (k : ℕ). record (newcomer p (later (below k)) (spare - 1)) { share = share }) e);
  }

  -- a seat was split off
  pub one_given : (n spare share : ℕ) (s t : Seat S View) → First z p n spare share s → IsSeat z p t → t.me ≡ (giving s.me.0, s.me.1) → First z p n (spare - 1) (share - 1) t
  one_given n spare share s t f is view = let v = ap (λ (x : Me S View). x.0) view in let b = f.blank in record {
    seat = is;
    slots = ap (λ (x : Me S View). x.1) view ∙ f.slots;
    blank = record { marks = ap (λ (y : View). y.marks) v ∙ b.marks; rights = ap (λ (y : View). y.rights) v ∙ b.rights; hands = ap (λ (y : View). y.hands) v ∙ b.hands };
    passes = ap (λ (y : View). y.passes) v ∙ f.passes;
    has_spare = ap (λ (y : View). y.spare) v ∙ ap (λ (y : ℕ). y - 1) f.has_spare;
    has_share = ap (λ (y : View). y.share) v ∙ ap (λ (y : ℕ). y - 1) f.has_share;
    lists = ap (λ (y : View). y.lists) v ∙ f.lists;
    view = v ∙ ap (λ (y : View). record y { spare = y.spare - 1; share = y.share - 1 }) f.view;
  }

  pub new_seat : (v : View) (t : Seat S View) → IsSeat z p t → v.plan ≡ p → t.me ≡ (given v, []) → IsNewSeat z p t × (t.me.0.share ≡ 1)
  new_seat v t is mine view = (record { table = is.0; spare = 0; me = view ∙ ap (λ (q : Plan). (newcomer q [] 0, [])) mine }, ap (λ (x : Me S View). x.0.share) view)

  pub last_seat : (n spare share : ℕ) (s : Seat S View) → First z p n spare share s → n ≡ 0 → share ≡ 1 → IsNewSeat z p s
  last_seat n spare share s f none_ one = record { table = f.seat.0; spare = spare; me = (λ i. ((f.view ∙ (λ j. standing p (none_ j) spare (one j))) i, f.slots i)) }

  -- a new seat has nothing
  pub new_view : (s : Seat S View) (n : IsNewSeat z p s) → s.me.0 ≡ newcomer p [] n.spare
  new_view s n = ap (λ (x : Me S View). x.0) n.me

  pub new_is_seat : (s : Seat S View) → IsNewSeat z p s → IsSeat z p s
  new_is_seat s n = let v = new_view s n in (n.table, ap (λ (y : View). y.plan) v, (let e = ap (λ (y : View). y.share) v in omega arith))

  pub new_done : (s : Seat S View) → IsNewSeat z p s → IsDoneSeat z p s
  new_done s n = let v = new_view s n in record {
    seat = new_is_seat s n;
    slots = ap (λ (x : Me S View). x.1) n.me;
    done = subst (IsDone p) (sym v) record { bare = record { claims = refl; loose = refl; rights = refl; hands = refl }; unheld = λ i il. refl };
    rest = subst (IsAtRest p) (sym v) record { unclaimed = λ i il. refl; uncoding = λ i il. refl; no_zero = λ i w il. refl; no_passes = refl };
  }

  pub new_between : (s : Seat S View) → IsNewSeat z p s → IsBetween p s.me.0
  new_between s n = subst (IsBetween p) (sym (new_view s n)) record { unclaimed = λ i il. refl; unprobed = λ i il. refl; uncoding = λ i il. refl; no_zero = λ i w il. refl; no_rights = refl; empty = refl; no_passes = refl }

  pub seats_snoc : (xs : List (Seat S View)) (x : Seat S View) → AreNewSeats z p xs → IsNewSeat z p x → AreNewSeats z p (xs ++ x ∷ [])
  seats_snoc [] x a h = (h, tt)
  seats_snoc (y ∷ ys) x a h = (a.0, seats_snoc ys x a.1 h)

pub total_snoc : {A : Type 0} (f : A → ℕ) (xs : List A) (x : A) → total f (xs ++ x ∷ []) ≡ total f xs + f x
total_snoc f [] x = omega arith
total_snoc f (y ∷ ys) x = omega (arith, total_snoc f ys x)

module _ {O : Type 0} {g : Ghosts O} (z : TableId) (p : Plan) where
  -- the passes come from the last to the first
  pub passes_more : (n m : ℕ) (xs : List (LinkPass O g)) (x : LinkPass O g) → PassesFrom z p n (reverse xs) → n ≡ suc m → IsPass z p x → x.link ≡ m → PassesFrom z p m (reverse (xs ++ x ∷ []))
  passes_more n m xs x all e is link = subst (PassesFrom z p m) (sym (reverse-append xs (x ∷ []))) (is, link, subst (λ (k : ℕ). PassesFrom z p k (reverse xs)) (omega (arith, e)) all)

  pub pass_ok : (n m spare share : ℕ) (s : Seat (SockHome O g) View) (x : LinkPass O g) → First z p n spare share s → n ≡ suc m → x.seat.table_id ≡ z → x.seat.me ≡ (passed s.me.0, []) → x.link ≡ m → IsPass z p x
  pass_ok n m spare share s x f e same view link = let v = ap (λ (y : Me (SockHome O g) View). y.0) view in let first : earliest s.me.0.passes ≡ m ∷ [] = ap earliest (f.passes ∙ ap below e) in
      (same, ap (λ (y : Me (SockHome O g) View). y.1) view, v ∙ ((λ i. carrier (f.seat.1 i) (first i)) ∙ ap (λ (k : ℕ). carrier p (k ∷ [])) (sym link)))
