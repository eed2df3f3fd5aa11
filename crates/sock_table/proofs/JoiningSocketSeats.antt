-- The seats at the end, joined from the last to the first.
use Rattle.std.proofs.Common.{◌≡◌, ℕ, ◌+◌, List, [], ◌∷◌, ◌++◌, append_assoc, append-nil, sym, ap, ◌∙◌, subst, arith}
use Rattle.std.specs.List.{flat_map}
use Rattle.atomic_table.specs.Seated.{TableId}
use Rattle.atomic_table.specs.Table.{Me}
use Rattle.atomic_table.specs.declared.shared.Seat.{Seat}
use Rattle.sock_words.specs.declared.plain.Plan.{Plan}
use Rattle.sock_model.specs.declared.marks.Mark.{Mark}
use Rattle.sock_model.specs.declared.chain.Entry.{Entry}
use Rattle.sock_model.specs.declared.chain.Heading.{Heading}
use Rattle.sock_model.specs.declared.marks.SlotMark.{SlotMark}
use Rattle.sock_model.specs.declared.view.View.{View}
use Rattle.sock_model.specs.declared.view.StoredWord.{StoredWord}
use Rattle.sock_model.specs.MarkWeights.{is_ref, is_claimed, is_any_coding, is_zero}
use Rattle.sock_model.specs.Marks.{about}
use Rattle.sock_model.specs.SlotRows.{marks_of}
use Rattle.sock_model.specs.ViewsOfSplitSeats.{joined}
use Rattle.sock_rule.specs.slot_steps.proofs.SlotWeightSums.{total-append}
use Rattle.sock_rule.specs.slot_steps.proofs.SplitSeatsKeepSlot.{about-append}
use Rattle.sock_rule.specs.SocketSeatSplits.{IsSeat, IsDone}
use Rattle.sock_rule.specs.ClosingWordsAndNotes.{IsAtRest}
use Rattle.sock_table.specs.ClosedSocketTable.{IsDoneSeat, AllDone}
use Rattle.sock_words.specs.Totals.{total}

flat_last : {A B : Type 0} (f : A → List B) (xs : List A) (x : A) → flat_map f (xs ++ x ∷ []) ≡ flat_map f xs ++ f x
flat_last f [] x = append-nil (f x)
flat_last f (y ∷ ys) x = ap (λ l. f y ++ l) (flat_last f ys x) ∙ sym (append_assoc (f y) (flat_map f ys) (f x))

total_last : {A : Type 0} (f : A → ℕ) (xs : List A) (x : A) → total f (xs ++ x ∷ []) ≡ total f xs + f x
total_last f xs x = omega (arith, total-append f xs (x ∷ []))

-- two seats that hold nothing hold nothing together
module _ (p : Plan) (v w : View) where
  pub sum_of : (f : Mark → ℕ) (i : ℕ) → marks_of f i (joined v w) ≡ marks_of f i v + marks_of f i w
  sum_of f i = ap (total f) (about-append i v.marks w.marks) ∙ total-append f (about i v.marks) (about i w.marks)

  pub both_done : IsDone p v → IsDone p w → IsDone p (joined v w)
  both_done a b = record { bare = record { claims = a.bare.claims; loose = a.bare.loose; rights = a.bare.rights; hands = a.bare.hands }; unheld = λ i il. omega (arith, sum_of is_ref i, a.unheld i il, b.unheld i il) }

  pub both_rest : IsAtRest p v → IsAtRest p w → IsAtRest p (joined v w)
  both_rest a b = record {
    unclaimed = λ i il. omega (arith, sum_of is_claimed i, a.unclaimed i il, b.unclaimed i il);
    uncoding = λ i il. omega (arith, sum_of is_any_coding i, a.uncoding i il, b.uncoding i il);
    no_zero = λ i x il. omega (arith, sum_of (is_zero x) i, a.no_zero i x il, b.no_zero i x il);
    no_passes = ap (λ (l : List ℕ). l ++ w.passes) a.no_passes ∙ b.no_passes;
  }

module _ {S : Type 0} where
  each_snoc : (z : TableId) (p : Plan) (xs : List (Seat S View)) (x : Seat S View) → AllDone z p (xs ++ x ∷ []) → AllDone z p xs × IsDoneSeat z p x
  each_snoc z p [] x h = (tt, h.0)
  each_snoc z p (y ∷ ys) x h = let r = each_snoc z p ys x h.1 in ((h.0, r.0), r.1)

  abbrev pub marks_in : Seat S View → List SlotMark
  marks_in s = s.me.0.marks

  abbrev pub finds_in : Seat S View → List StoredWord
  finds_in s = s.me.0.finds

  abbrev pub histories_in : Seat S View → List (List StoredWord)
  histories_in s = s.me.0.histories

  abbrev pub drops_in : Seat S View → List Heading
  drops_in s = s.me.0.drops

  abbrev pub stores_in : Seat S View → List (List StoredWord)
  stores_in s = s.me.0.stores

  abbrev pub lists_in : Seat S View → List (List Entry)
  lists_in s = s.me.0.lists

  abbrev pub found_in : Seat S View → List ℕ
  found_in s = s.me.0.found

  abbrev pub share_in : Seat S View → ℕ
  share_in s = s.me.0.share

  pub record Joined (z : TableId) (p : Plan) (all rest : List (Seat S View)) (seat : Seat S View) : Type 0 where
    pub rest_ok : AllDone z p rest
    pub seat_ok : IsDoneSeat z p seat
    pub marks : flat_map marks_in rest ++ seat.me.0.marks ≡ flat_map marks_in all
    pub finds : flat_map finds_in rest ++ seat.me.0.finds ≡ flat_map finds_in all
    pub histories : flat_map histories_in rest ++ seat.me.0.histories ≡ flat_map histories_in all
    pub drops : flat_map drops_in rest ++ seat.me.0.drops ≡ flat_map drops_in all
    pub stores : flat_map stores_in rest ++ seat.me.0.stores ≡ flat_map stores_in all
    pub lists : flat_map lists_in rest ++ seat.me.0.lists ≡ flat_map lists_in all
    pub found : flat_map found_in rest ++ seat.me.0.found ≡ flat_map found_in all
    pub share : total share_in rest + seat.me.0.share ≡ total share_in all

  pub first : (z : TableId) (p : Plan) (all rest : List (Seat S View)) (x : Seat S View) → all ≡ rest ++ x ∷ [] → AllDone z p all → Joined z p all rest x
  first z p all rest x e h = let k = each_snoc z p rest x (subst (AllDone z p) e h) in record {
    rest_ok = k.0;
    seat_ok = k.1;
    marks = sym (ap (flat_map marks_in) e ∙ flat_last marks_in rest x);
    finds = sym (ap (flat_map finds_in) e ∙ flat_last finds_in rest x);
    histories = sym (ap (flat_map histories_in) e ∙ flat_last histories_in rest x);
    drops = sym (ap (flat_map drops_in) e ∙ flat_last drops_in rest x);
    stores = sym (ap (flat_map stores_in) e ∙ flat_last stores_in rest x);
    lists = sym (ap (flat_map lists_in) e ∙ flat_last lists_in rest x);
    found = sym (ap (flat_map found_in) e ∙ flat_last found_in rest x);
    share = sym (ap (total share_in) e ∙ total_last share_in rest x);
  }

  pub last_ok : (z : TableId) (p : Plan) (all rest rest' : List (Seat S View)) (seat earlier : Seat S View) → Joined z p all rest seat → rest ≡ rest' ++ earlier ∷ [] → IsDoneSeat z p earlier
  last_ok z p all rest rest' seat earlier j e = (each_snoc z p rest' earlier (subst (AllDone z p) e j.rest_ok)).1

  pub next : (z : TableId) (p : Plan) (all rest rest' : List (Seat S View)) (seat earlier w : Seat S View) → Joined z p all rest seat → rest ≡ rest' ++ earlier ∷ [] → IsSeat z p w → w.me ≡ (joined earlier.me.0 seat.me.0, earlier.me.1) → Joined z p all rest' w
  next z p all rest rest' seat earlier w j e is view = let k = each_snoc z p rest' earlier (subst (AllDone z p) e j.rest_ok) in let v : w.me.0 ≡ joined earlier.me.0 seat.me.0 = ap (λ (m : Me S View). m.0) view in let o = j.seat_ok in let q = k.1 in record {
    rest_ok = k.0;
    seat_ok = record { seat = is; slots = ap (λ (m : Me S View). m.1) view ∙ q.slots; done = subst (IsDone p) (sym v) (both_done p earlier.me.0 seat.me.0 q.done o.done); rest = subst (IsAtRest p) (sym v) (both_rest p earlier.me.0 seat.me.0 q.rest o.rest) };
    marks = ap (λ (y : View). flat_map marks_in rest' ++ y.marks) v ∙ (sym (append_assoc (flat_map marks_in rest') earlier.me.0.marks seat.me.0.marks) ∙ (ap (λ l. l ++ seat.me.0.marks) (sym (ap (flat_map marks_in) e ∙ flat_last marks_in rest' earlier)) ∙ j.marks));
    finds = ap (λ (y : View). flat_map finds_in rest' ++ y.finds) v ∙ (sym (append_assoc (flat_map finds_in rest') earlier.me.0.finds seat.me.0.finds) ∙ (ap (λ l. l ++ seat.me.0.finds) (sym (ap (flat_map finds_in) e ∙ flat_last finds_in rest' earlier)) ∙ j.finds));
    histories = ap (λ (y : View). flat_map histories_in rest' ++ y.histories) v ∙ (sym (append_assoc (flat_map histories_in rest') earlier.me.0.histories seat.me.0.histories) ∙ (ap (λ l. l ++ seat.me.0.histories) (sym (ap (flat_map histories_in) e ∙ flat_last histories_in rest' earlier)) ∙ j.histories));
    drops = ap (λ (y : View). flat_map drops_in rest' ++ y.drops) v ∙ (sym (append_assoc (flat_map drops_in rest') earlier.me.0.drops seat.me.0.drops) ∙ (ap (λ l. l ++ seat.me.0.drops) (sym (ap (flat_map drops_in) e ∙ flat_last drops_in rest' earlier)) ∙ j.drops));
    stores = ap (λ (y : View). flat_map stores_in rest' ++ y.stores) v ∙ (sym (append_assoc (flat_map stores_in rest') earlier.me.0.stores seat.me.0.stores) ∙ (ap (λ l. l ++ seat.me.0.stores) (sym (ap (flat_map stores_in) e ∙ flat_last stores_in rest' earlier)) ∙ j.stores));
    lists = ap (λ (y : View). flat_map lists_in rest' ++ y.lists) v ∙ (sym (append_assoc (flat_map lists_in rest') earlier.me.0.lists seat.me.0.lists) ∙ (ap (λ l. l ++ seat.me.0.lists) (sym (ap (flat_map lists_in) e ∙ flat_last lists_in rest' earlier)) ∙ j.lists));
    found = ap (λ (y : View). flat_map found_in rest' ++ y.found) v ∙ (sym (append_assoc (flat_map found_in rest') earlier.me.0.found seat.me.0.found) ∙ (ap (λ l. l ++ seat.me.0.found) (sym (ap (flat_map found_in) e ∙ flat_last found_in rest' earlier)) ∙ j.found));
    share = let a = ap (λ (y : View). y.share) v in let b = ap (total share_in) e ∙ total_last share_in rest' earlier in let c = j.share in omega arith;
  }
