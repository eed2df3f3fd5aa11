-- The seats at the end, joined from the last to the first.
use Rattle.std.proofs.Common.{◌≡◌, ℕ, ◌+◌, List, [], ◌∷◌, ◌++◌, append_assoc, append-nil, sym, ap, ◌∙◌, subst, arith, refl, cond, eq-eqb, length}
use Rattle.std.specs.Prelude.{Option as Maybe}
use Rattle.std.specs.List.{flat_map}
use Rattle.atomic_table.specs.Seated.{TableId}
use Rattle.atomic_table.specs.Table.{Me}
use Rattle.atomic_table.specs.declared.shared.Seat.{Seat}
use Rattle.corr_core.specs.IdSlotLaw.{Each}
use Rattle.corr_core.specs.declared.marks.Noted.{Noted}
use Rattle.corr_core.specs.declared.marks.Kept.{Kept}
use Rattle.corr_core.specs.declared.marks.View.{View}
use Rattle.corr_core.specs.declared.marks.Held.{Held}
use Rattle.id_rule.specs.LawfulIdTable.{joined, tokens_in, tokens_of}
use Rattle.corr_id.specs.IdTableSeat.{IsFree}
use Rattle.corr_id.specs.ClosedIdTable.{AllOf}
use Rattle.sock_words.specs.Totals.{total}

each_snoc : {A : Type 0} (P : A → Type 0) (xs : List A) (x : A) → Each P (xs ++ x ∷ []) → Each P xs × P x
each_snoc P [] x h = (tt, h.0)
each_snoc P (y ∷ ys) x h = let r = each_snoc P ys x h.1 in ((h.0, r.0), r.1)

flat_last : {A B : Type 0} (f : A → List B) (xs : List A) (x : A) → flat_map f (xs ++ x ∷ []) ≡ flat_map f xs ++ f x
flat_last f [] x = append-nil (f x)
flat_last f (y ∷ ys) x = ap (λ l. f y ++ l) (flat_last f ys x) ∙ sym (append_assoc (f y) (flat_map f ys) (f x))

total_last : {A : Type 0} (f : A → ℕ) (xs : List A) (x : A) → total f (xs ++ x ∷ []) ≡ total f xs + f x
total_last f [] x = omega arith
total_last f (y ∷ ys) x = omega (arith, total_last f ys x)

module _ {C : Type 0} where
  abbrev pub notes_of_seat : Seat (Maybe C) (View C) → List (Noted C)
  notes_of_seat s = s.me.0.notes

  abbrev pub kept_of_seat : Seat (Maybe C) (View C) → List Kept
  kept_of_seat s = s.me.0.kept

  abbrev pub share_of_seat : Seat (Maybe C) (View C) → ℕ
  share_of_seat s = s.me.0.share

  pub record Joined (z : TableId) (all rest : List (Seat (Maybe C) (View C))) (seat : Seat (Maybe C) (View C)) : Type 0 where
    pub rest_ok : AllOf z rest
    pub seat_ok : (seat.table_id ≡ z) × (seat.me.1 ≡ []) × IsFree seat.me.0
    pub notes : flat_map notes_of_seat rest ++ seat.me.0.notes ≡ flat_map notes_of_seat all
    pub kept : flat_map kept_of_seat rest ++ seat.me.0.kept ≡ flat_map kept_of_seat all
    pub share : total share_of_seat rest + seat.me.0.share ≡ total share_of_seat all

  pub first : (z : TableId) (all rest : List (Seat (Maybe C) (View C))) (x : Seat (Maybe C) (View C)) → all ≡ rest ++ x ∷ [] → AllOf z all → Joined z all rest x
  first z all rest x e h = let k = each_snoc (λ (s : Seat (Maybe C) (View C)). (s.table_id ≡ z) × (s.me.1 ≡ []) × IsFree s.me.0) rest x (subst (AllOf z) e h) in record {
    rest_ok = k.0;
    seat_ok = k.1;
    notes = sym (ap (flat_map notes_of_seat) e ∙ flat_last notes_of_seat rest x);
    kept = sym (ap (flat_map kept_of_seat) e ∙ flat_last kept_of_seat rest x);
    share = sym (ap (total share_of_seat) e ∙ total_last share_of_seat rest x);
  }

  pub next : (z : TableId) (all rest rest' : List (Seat (Maybe C) (View C))) (seat earlier w : Seat (Maybe C) (View C)) → Joined z all rest seat → rest ≡ rest' ++ earlier ∷ [] → w.table_id ≡ earlier.table_id → w.me ≡ (joined earlier.me.0 seat.me.0, earlier.me.1) → Joined z all rest' w
  next z all rest rest' seat earlier w j e same view =
      let k = each_snoc (λ (s : Seat (Maybe C) (View C)). (s.table_id ≡ z) × (s.me.1 ≡ []) × IsFree s.me.0) rest' earlier (subst (AllOf z) e j.rest_ok) in
      let v : w.me.0 ≡ joined earlier.me.0 seat.me.0 = ap (λ (m : Me (Maybe C) (View C)). m.0) view in record {
        rest_ok = k.0;
        seat_ok = (same ∙ k.1.0, ap (λ (m : Me (Maybe C) (View C)). m.1) view ∙ k.1.1, (λ i. ap (tokens_in i) v ∙ k.1.2 i));
        notes = ap (λ (y : View C). flat_map notes_of_seat rest' ++ y.notes) v ∙ (sym (append_assoc (flat_map notes_of_seat rest') earlier.me.0.notes seat.me.0.notes) ∙ (ap (λ l. l ++ seat.me.0.notes) (sym (ap (flat_map notes_of_seat) e ∙ flat_last notes_of_seat rest' earlier)) ∙ j.notes));
        kept = ap (λ (y : View C). flat_map kept_of_seat rest' ++ y.kept) v ∙ (sym (append_assoc (flat_map kept_of_seat rest') earlier.me.0.kept seat.me.0.kept) ∙ (ap (λ l. l ++ seat.me.0.kept) (sym (ap (flat_map kept_of_seat) e ∙ flat_last kept_of_seat rest' earlier)) ∙ j.kept));
        share = let a = ap (λ (y : View C). y.share) v in let b = ap (total share_of_seat) e ∙ total_last share_of_seat rest' earlier in let c = j.share in omega arith;
      }

  -- the seat that is popped is one of the table
  pub last_ok : (z : TableId) (all rest rest' : List (Seat (Maybe C) (View C))) (seat earlier : Seat (Maybe C) (View C)) → Joined z all rest seat → rest ≡ rest' ++ earlier ∷ [] → earlier.table_id ≡ z
  last_ok z all rest rest' seat earlier j e = (each_snoc (λ (s : Seat (Maybe C) (View C)). (s.table_id ≡ z) × (s.me.1 ≡ []) × IsFree s.me.0) rest' earlier (subst (AllOf z) e j.rest_ok)).1.0

-- who has nothing of any slot has no token
pub free_tokens : {C : Type 0} (v : View C) → IsFree v → v.tokens ≡ []
free_tokens {C} v h = none_of v.tokens h
  where
    none_of : (ts : List (Held C)) → ((j : ℕ) → tokens_of j ts ≡ []) → ts ≡ []
    none_of [] k = refl
    none_of (t ∷ ts) k = let here : t.token ∷ tokens_of t.slot ts ≡ [] = ap (λ b. cond b (t.token ∷ tokens_of t.slot ts) (tokens_of t.slot ts)) (sym (eq-eqb t.slot t.slot refl)) ∙ k t.slot in let e = ap length here in absurd (omega arith)
