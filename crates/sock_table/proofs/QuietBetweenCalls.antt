-- Between two calls a seat has references and notes alone.
use Rattle.std.proofs.Common.{◌≡◌, ℕ, ◌+◌, ◌-◌, Bool, true, false, cond, nat_le, List, [], ◌∷◌, refl, sym, ap, ◌∙◌, subst, arith}
use mathlib.Core.Logic.{dite}
use native.Mathlib.Decide.{ℕ_discrete}
use Rattle.sock_words.specs.declared.plain.Plan.{Plan}
use Rattle.sock_words.specs.PackedWords.{socket_id_slot, vref_version}
use Rattle.sock_model.specs.declared.marks.Mark.{Mark}
use Rattle.sock_model.specs.declared.marks.Mark.TheVariants.{Recycling, Tried, Saw, Freer, Met}
use Rattle.sock_model.specs.declared.view.View.{View}
use Rattle.sock_model.specs.MarkWeights.{is_probe, is_claimed, is_any_coding, is_zero}
use Rattle.sock_model.specs.SlotRows.{marks_of}
use Rattle.sock_rule.specs.MarksComeAndGo.{Became}
use Rattle.sock_rule.specs.LinkFaultNotes.{end_note}
use Rattle.sock_table.specs.ReferenceCalls.{IsBetween, Rests, EndedBy, GaveBack}
use Rattle.sock_table.specs.ReferenceAnswers.{Held, GoneFrom, FailedBy}
use Rattle.sock_words.specs.Totals.{total}

-- marks among which are no tokens but references to lives
pub record IsQuiet (l : List Mark) : Type 0 where
  pub claimed : total is_claimed l ≡ 0
  pub probe : total is_probe l ≡ 0
  pub coding : total is_any_coding l ≡ 0
  pub zeros : (w : ℕ) → total (is_zero w) l ≡ 0

pub between : (p : Plan) (i : ℕ) (v w : View) (adds drops : List Mark) → IsBetween p v → Became i v w adds drops → IsQuiet adds → IsBetween p w
between p i v w adds drops b c q = record {
  unclaimed = λ j jl. at is_claimed j (b.unclaimed j jl) q.claimed;
  unprobed = λ j jl. at is_probe j (b.unprobed j jl) q.probe;
  uncoding = λ j jl. at is_any_coding j (b.uncoding j jl) q.coding;
  no_zero = λ j x jl. at (is_zero x) j (b.no_zero j x jl) (q.zeros x);
  no_rights = ap (λ (y : View). y.rights) c.others ∙ b.no_rights;
  empty = ap (λ (y : View). y.hands) c.others ∙ b.empty;
  no_passes = ap (λ (y : View). y.passes) c.others ∙ b.no_passes;
}
  where
    at : (f : Mark → ℕ) (j : ℕ) → marks_of f j v ≡ 0 → total f adds ≡ 0 → marks_of f j w ≡ 0
    at f j none_ quiet = dite (ℕ_discrete j i)
        (λ e. let h = c.here f in subst (λ (y : ℕ). marks_of f y w ≡ 0) (sym e) (let n : marks_of f i v ≡ 0 = subst (λ (y : ℕ). marks_of f y v ≡ 0) e none_ in omega arith))
        (λ ne. ap (total f) (c.elsewhere j ne) ∙ none_)

pub rests_on : (p : Plan) (i : ℕ) (v w : View) (adds drops : List Mark) → Rests p v → Became i v w adds drops → IsQuiet adds → Rests p w
rests_on p i v w adds drops r c q = between p i (record v { rights = [] }) (record w { rights = [] }) adds drops r record { here = λ f. c.here f; elsewhere = λ j ne. c.elsewhere j ne; others = ap (λ (y : View). record y { rights = [] }) c.others } q

-- whoever has no right rests between two calls
pub rests_between : (p : Plan) (v : View) → v.rights ≡ [] → Rests p v → IsBetween p v
rests_between p v none_ r = record { unclaimed = r.unclaimed; unprobed = r.unprobed; uncoding = r.uncoding; no_zero = r.no_zero; no_rights = none_; empty = r.empty; no_passes = r.no_passes }

pub between_rests : (p : Plan) (v : View) → IsBetween p v → Rests p v
between_rests p v b = record { unclaimed = b.unclaimed; unprobed = b.unprobed; uncoding = b.uncoding; no_zero = b.no_zero; no_rights = refl; empty = b.empty; no_passes = b.no_passes }

pub ended_quiet : (p : Plan) (ended : Bool) (w : ℕ) (notes : List Mark) → EndedBy p ended w notes → IsQuiet notes
ended_quiet p false w notes is = subst IsQuiet (sym is) record { claimed = refl; probe = refl; coding = refl; zeros = λ x. refl }
ended_quiet p true w notes is = subst IsQuiet (sym is.1) (by_cases (nat_le (w + 1) 4294967292))
  where
    by_cases : (b : Bool) → IsQuiet (Freer (w - 1) ∷ Met (w + 1 - 2) is.0 ∷ end_note p is.0 ∷ cond b [] (Recycling (w + 1) ∷ []))
    by_cases true = record { claimed = refl; probe = refl; coding = refl; zeros = λ x. refl }
    by_cases false = record { claimed = refl; probe = refl; coding = refl; zeros = λ x. refl }

pub saw_quiet : (x : ℕ) (notes : List Mark) → IsQuiet notes → IsQuiet (Saw x ∷ notes)
saw_quiet x notes q = record { claimed = omega (arith, q.claimed); probe = omega (arith, q.probe); coding = omega (arith, q.coding); zeros = λ w. omega (arith, q.zeros w) }

pub held_between : (p : Plan) (id : ℕ) (v w : View) → IsBetween p v → Held id v w → IsBetween p w
held_between p id v w b h = between p (socket_id_slot id) v w _ _ b h record { claimed = refl; probe = refl; coding = refl; zeros = λ x. refl }

pub gone_between : (p : Plan) (id found : ℕ) (v w : View) → IsBetween p v → GoneFrom id found v w → IsBetween p w
gone_between p id found v w b h = between p (socket_id_slot id) v w _ _ b h.became (saw_quiet (vref_version found) h.notes (ended_quiet v.plan h.ended h.version h.notes h.by))

pub back_between : (p : Plan) (i : ℕ) (v w : View) (m : Mark) (ended : Bool) → IsBetween p v → GaveBack i v w m ended → IsBetween p w
back_between p i v w m ended b h = between p i v w _ _ b h.became (ended_quiet v.plan ended h.version h.notes h.by)

pub saw_between : (p : Plan) (i x : ℕ) (v w : View) → IsBetween p v → Became i v w (Saw x ∷ []) [] → IsBetween p w
saw_between p i x v w b h = between p i v w _ _ b h record { claimed = refl; probe = refl; coding = refl; zeros = λ x. refl }

pub failed_between : (p : Plan) (id c : ℕ) (v w : View) → IsBetween p v → FailedBy id c v w → IsBetween p w
failed_between p id c v w b h = between p (socket_id_slot id) v w _ _ b h record { claimed = refl; probe = refl; coding = refl; zeros = λ x. refl }

pub saw_rests : (p : Plan) (i x : ℕ) (v w : View) → Rests p v → Became i v w (Saw x ∷ []) [] → Rests p w
saw_rests p i x v w b h = rests_on p i v w _ _ b h record { claimed = refl; probe = refl; coding = refl; zeros = λ x. refl }

pub failed_rests : (p : Plan) (id c : ℕ) (v w : View) → Rests p v → FailedBy id c v w → Rests p w
failed_rests p id c v w b h = rests_on p (socket_id_slot id) v w _ _ b h record { claimed = refl; probe = refl; coding = refl; zeros = λ x. refl }

pub tried_between : (p : Plan) (i : ℕ) (v w : View) → IsBetween p v → Became i v w (Tried ∷ []) [] → IsBetween p w
tried_between p i v w b h = between p i v w _ _ b h record { claimed = refl; probe = refl; coding = refl; zeros = λ x. refl }
