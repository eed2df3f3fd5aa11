-- What the deeds of a seat add up to.
use Rattle.std.proofs.Common.{◌≡◌, ℕ, zero, suc, ◌+◌, ◌-◌, ◌<◌, List, [], ◌∷◌, ◌++◌, sym, ap, subst, arith}
use mathlib.Core.Option.{some, some-injective, some-ne-none}
use lib.ListN.{get_elem?}
use Rattle.sock_io.specs.declared.link.Out.{Ghosts}
use Rattle.sock_io.specs.LinkHalves.{OutState}
use Rattle.sock_words.specs.declared.plain.Plan.{Plan}
use Rattle.sock_model.specs.declared.marks.Mark.{Mark}
use Rattle.sock_model.specs.SlotRows.{marks_of}
use Rattle.rpc_client.specs.sock_rule.specs.OnTable.{put_in}
use Rattle.sock_deeds.specs.Deeds.{Hand, Deed, Chain}
use Rattle.sock_deeds.proofs.GrowingSocketNotes.{IsNote, Grew, stays_as, grew_then, deed_grew}
use Rattle.sock_words.specs.Totals.{total}

module _ {O : Type 0} {g : Ghosts O} {state : O → OutState} {p : Plan} where
  -- how many marks of this weight a deed added
  abbrev pub gain : (Mark → ℕ) → ℕ → Deed g state p → ℕ
  gain f i d = marks_of f i d.after.view - marks_of f i d.before.view

  -- how often it stored this word at this place
  abbrev pub stored : ℕ → ℕ → Deed g state p → ℕ
  stored x n d = put_in x n d.after.view - put_in x n d.before.view

  pub chain_then : (ds es : List (Deed g state p)) (s t u : Hand) → Chain g state p ds s t → Chain g state p es t u → Chain g state p (ds ++ es) s u
  chain_then [] es s t u a b = subst (λ (h : Hand). Chain g state p es h u) a b
  chain_then (d ∷ ds) es s t u a b = (a.0, chain_then ds es d.after t u a.1 b)

  pub chain_grew : (ds : List (Deed g state p)) (s t : Hand) → Chain g state p ds s t → Grew s.view t.view
  chain_grew [] s t c = stays_as s.view t.view (ap (λ (h : Hand). h.view) c)
  chain_grew (d ∷ ds) s t c = grew_then s.view d.after.view t.view (subst (λ (h : Hand). Grew h.view d.after.view) c.0 (deed_grew g state p d)) (chain_grew ds d.after t c.1)

  -- what was noted behind a deed is noted in the end
  pub ends_grew : (ds : List (Deed g state p)) (s t : Hand) → Chain g state p ds s t → (k : ℕ) (d : Deed g state p) → get_elem? ds k ≡ some d → Grew d.after.view t.view
  ends_grew [] s t c k d e = absurd (some-ne-none d (sym e))
  ends_grew (x ∷ ds) s t c zero d e = subst (λ (y : Deed g state p). Grew y.after.view t.view) (some-injective x d e) (chain_grew ds x.after t c.1)
  ends_grew (x ∷ ds) s t c (suc k) d e = ends_grew ds x.after t c.1 k d e

  -- what was noted at the beginning is noted before it
  pub begins_grew : (ds : List (Deed g state p)) (s t : Hand) → Chain g state p ds s t → (k : ℕ) (d : Deed g state p) → get_elem? ds k ≡ some d → Grew s.view d.before.view
  begins_grew [] s t c k d e = absurd (some-ne-none d (sym e))
  begins_grew (x ∷ ds) s t c zero d e = subst (λ (y : Deed g state p). Grew s.view y.before.view) (some-injective x d e) (stays_as s.view x.before.view (ap (λ (h : Hand). h.view) c.0))
  begins_grew (x ∷ ds) s t c (suc k) d e = grew_then s.view x.after.view d.before.view (subst (λ (h : Hand). Grew h.view x.after.view) c.0 (deed_grew g state p x)) (begins_grew ds x.after t c.1 k d e)

  -- what was noted behind a deed is noted before each later one
  pub between_grew : (ds : List (Deed g state p)) (s t : Hand) → Chain g state p ds s t → (j k : ℕ) (a b : Deed g state p) → j < k → get_elem? ds j ≡ some a → get_elem? ds k ≡ some b → Grew a.after.view b.before.view
  between_grew [] s t c j k a b less e f = absurd (some-ne-none a (sym e))
  between_grew (x ∷ ds) s t c j zero a b less e f = absurd (omega arith)
  between_grew (x ∷ ds) s t c zero (suc k) a b less e f = subst (λ (y : Deed g state p). Grew y.after.view b.before.view) (some-injective x a e) (begins_grew ds x.after t c.1 k b f)
  between_grew (x ∷ ds) s t c (suc j) (suc k) a b less e f = between_grew ds x.after t c.1 j k a b (omega arith) e f

  -- ## What they added

  pub gains : (f : Mark → ℕ) → IsNote f → (i : ℕ) (ds : List (Deed g state p)) (s t : Hand) → Chain g state p ds s t → marks_of f i t.view ≡ marks_of f i s.view + total (gain f i) ds
  gains f note i [] s t c = let e = ap (λ (h : Hand). marks_of f i h.view) c in omega arith
  gains f note i (d ∷ ds) s t c = let e = ap (λ (h : Hand). marks_of f i h.view) c.0 in omega (arith, gains f note i ds d.after t c.1, (deed_grew g state p d).marks f note i)

  pub stores : (x n : ℕ) (ds : List (Deed g state p)) (s t : Hand) → Chain g state p ds s t → put_in x n t.view ≡ put_in x n s.view + total (stored x n) ds
  stores x n [] s t c = let e = ap (λ (h : Hand). put_in x n h.view) c in omega arith
  stores x n (d ∷ ds) s t c = let e = ap (λ (h : Hand). put_in x n h.view) c.0 in omega (arith, stores x n ds d.after t c.1, (deed_grew g state p d).puts x n)
