-- The held lives as a list: one more, and those of a name less.
use Rattle.std.proofs.Common.{◌≡◌, ◌≢◌, ℕ, ◌+◌, ◌<◌, ◌≤◌, Bool, true, false, not, List, [], ◌∷◌, ◌++◌, length, refl, sym, ap, ◌∙◌, subst, arith, cond, eqb, eq-eqb, ne_eqb, Some, None}
use Rattle.std.proofs.lemmas.Option.{none-some, same_Some}
use Rattle.std.specs.List.{AllByRecursion}
use mathlib.Core.Logic.{dite}
use native.Mathlib.Decide.{ℕ_discrete}
use Rattle.sock_words.specs.declared.plain.Plan.{Plan}
use Rattle.sock_words.specs.PackedWords.{socket_id_version, socket_id_slot}
use Rattle.sock_model.specs.declared.marks.Mark.{Mark}
use Rattle.sock_model.specs.declared.marks.Mark.TheVariants.{Hold}
use Rattle.sock_model.specs.declared.marks.SlotMark.{SlotMark}
use Rattle.sock_model.specs.MarkWeights.{only}
use Rattle.sock_model.specs.Marks.{about, at}
use Rattle.seat_programs.specs.ClientProgram.{HeldLife, held_under, without_name}
use Rattle.slot_steps.proofs.RuleNumbers.{only-at, only-else}
use Rattle.program_walks.specs.program_steps.specs.WhatSeatHas.{holds}
use Rattle.sock_words.specs.Totals.{total}

-- the life's slot is one of the table
abbrev pub IsInTable : Plan → HeldLife → Type 0
IsInTable p h = socket_id_slot h.id < p.slots

-- how many lives are held under a name
abbrev pub under : ℕ → HeldLife → ℕ
under n h = only n h.name

-- what a mark of slot i counts for slot j
abbrev share : (Mark → ℕ) → ℕ → ℕ → Mark → ℕ
share f j i m = cond (eqb i j) (f m) 0

pub about_share : (f : Mark → ℕ) (j i : ℕ) (m : Mark) (es : List SlotMark) → total f (about j (at i m ∷ es)) ≡ share f j i m + total f (about j es)
about_share f j i m es = go (eqb i j)
  where
    go : (b : Bool) → total f (cond b (m ∷ about j es) (about j es)) ≡ cond b (f m) 0 + total f (about j es)
    go true = refl
    go false = omega arith

abbrev share_of : (Mark → ℕ) → ℕ → HeldLife → ℕ
share_of f j h = share f j (socket_id_slot h.id) (Hold (socket_id_version h.id))

share_here : (f : Mark → ℕ) (h : HeldLife) (j : ℕ) → j ≡ socket_id_slot h.id → share_of f j h ≡ f (Hold (socket_id_version h.id))
share_here f h j e = ap (λ b. cond b (f (Hold (socket_id_version h.id))) 0) (eq-eqb (socket_id_slot h.id) j (sym e))

share_else : (f : Mark → ℕ) (h : HeldLife) (j : ℕ) → j ≢ socket_id_slot h.id → share_of f j h ≡ 0
share_else f h j n = ap (λ b. cond b (f (Hold (socket_id_version h.id))) 0) (ne_eqb (socket_id_slot h.id) j (λ e. n (sym e)))

-- ## One life more

holds_more : (f : Mark → ℕ) (j : ℕ) (hs : List HeldLife) (h : HeldLife) → total f (about j (holds (hs ++ h ∷ []))) ≡ share_of f j h + total f (about j (holds hs))
holds_more f j [] h = about_share f j (socket_id_slot h.id) (Hold (socket_id_version h.id)) []
holds_more f j (x ∷ hs) h = omega (arith, holds_more f j hs h, about_share f j (socket_id_slot x.id) (Hold (socket_id_version x.id)) (holds hs), about_share f j (socket_id_slot x.id) (Hold (socket_id_version x.id)) (holds (hs ++ h ∷ [])))

module _ (hs : List HeldLife) (h : HeldLife) (f : Mark → ℕ) where
  pub more_here : total f (about (socket_id_slot h.id) (holds (hs ++ h ∷ []))) ≡ f (Hold (socket_id_version h.id)) + total f (about (socket_id_slot h.id) (holds hs))
  more_here = omega (arith, holds_more f (socket_id_slot h.id) hs h, share_here f h (socket_id_slot h.id) refl)

  pub more_else : (j : ℕ) → j ≢ socket_id_slot h.id → total f (about j (holds (hs ++ h ∷ []))) ≡ total f (about j (holds hs))
  more_else j n = omega (arith, holds_more f j hs h, share_else f h j n)

pub all_more : (p : Plan) (hs : List HeldLife) (h : HeldLife) → AllByRecursion (IsInTable p) hs → IsInTable p h → AllByRecursion (IsInTable p) (hs ++ h ∷ [])
all_more p [] h all one = (one, tt)
all_more p (x ∷ hs) h all one = (all.0, all_more p hs h all.1 one)

pub length_more : (hs : List HeldLife) (h : HeldLife) → length (hs ++ h ∷ []) ≡ length hs + 1
length_more [] h = refl
length_more (x ∷ hs) h = omega (arith, length_more hs h)

pub under_more : (n : ℕ) (hs : List HeldLife) (h : HeldLife) → total (under n) (hs ++ h ∷ []) ≡ total (under n) hs + only n h.name
under_more n [] h = omega arith
under_more n (x ∷ hs) h = omega (arith, under_more n hs h)

-- ## Without those of a name

without_here : (name : ℕ) (h : HeldLife) (hs : List HeldLife) → h.name ≡ name → without_name name (h ∷ hs) ≡ without_name name hs
without_here name h hs e = ap (λ b. cond (not b) (h ∷ without_name name hs) (without_name name hs)) (eq-eqb h.name name e)

without_else : (name : ℕ) (h : HeldLife) (hs : List HeldLife) → h.name ≢ name → without_name name (h ∷ hs) ≡ h ∷ without_name name hs
without_else name h hs n = ap (λ b. cond (not b) (h ∷ without_name name hs) (without_name name hs)) (ne_eqb h.name name n)

under_here : (name : ℕ) (h : HeldLife) (hs : List HeldLife) → h.name ≡ name → held_under name (h ∷ hs) ≡ Some h.id
under_here name h hs e = ap (λ b. cond b (Some h.id) (held_under name hs)) (eq-eqb h.name name e)

under_else : (name : ℕ) (h : HeldLife) (hs : List HeldLife) → h.name ≢ name → held_under name (h ∷ hs) ≡ held_under name hs
under_else name h hs n = ap (λ b. cond b (Some h.id) (held_under name hs)) (ne_eqb h.name name n)

pub all_without : (p : Plan) (name : ℕ) (hs : List HeldLife) → AllByRecursion (IsInTable p) hs → AllByRecursion (IsInTable p) (without_name name hs)
all_without p name [] all = tt
all_without p name (h ∷ hs) all = let ih = all_without p name hs all.1 in dite (ℕ_discrete h.name name) (λ e. subst (AllByRecursion (IsInTable p)) (sym (without_here name h hs e)) ih)
    (λ n. subst (AllByRecursion (IsInTable p)) (sym (without_else name h hs n)) (all.0, ih))

pub length_without : (name : ℕ) (hs : List HeldLife) → length (without_name name hs) ≤ length hs
length_without name [] = omega arith
length_without name (h ∷ hs) = let ih = length_without name hs in dite (ℕ_discrete h.name name) (λ e. omega (arith, ih, ap (λ (l : List HeldLife). length l) (without_here name h hs e)))
    (λ n. omega (arith, ih, ap (λ (l : List HeldLife). length l) (without_else name h hs n)))

pub under_without : (n name : ℕ) (hs : List HeldLife) → total (under n) (without_name name hs) ≤ total (under n) hs
under_without n name [] = omega arith
under_without n name (h ∷ hs) = let ih = under_without n name hs in dite (ℕ_discrete h.name name) (λ e. omega (arith, ih, ap (total (under n)) (without_here name h hs e)))
    (λ k. omega (arith, ih, ap (total (under n)) (without_else name h hs k)))

pub none_under : (name : ℕ) (hs : List HeldLife) → total (under name) (without_name name hs) ≡ 0
none_under name [] = refl
none_under name (h ∷ hs) = let ih = none_under name hs in dite (ℕ_discrete h.name name) (λ e. ap (total (under name)) (without_here name h hs e) ∙ ih)
    (λ n. omega (arith, ih, ap (total (under name)) (without_else name h hs n), only-else name h.name n))

-- where none is of the name, none goes
pub without_none : (name : ℕ) (hs : List HeldLife) → total (under name) hs ≡ 0 → without_name name hs ≡ hs
without_none name [] e = refl
without_none name (h ∷ hs) e = dite (ℕ_discrete h.name name) (λ y. absurd (omega (arith, e, only-at name h.name y))) (λ n. without_else name h hs n ∙ ap (λ l. h ∷ l) (without_none name hs (omega (arith, e))))

pub without_unheld : (name : ℕ) (hs : List HeldLife) → held_under name hs ≡ None → without_name name hs ≡ hs
without_unheld name [] e = refl
without_unheld name (h ∷ hs) e = dite (ℕ_discrete h.name name) (λ y. absurd (none-some h.id (sym e ∙ under_here name h hs y))) (λ n. without_else name h hs n ∙ ap (λ l. h ∷ l) (without_unheld name hs (sym (under_else name h hs n) ∙ e)))

pub held_in_table : (p : Plan) (name id : ℕ) (hs : List HeldLife) → held_under name hs ≡ Some id → AllByRecursion (IsInTable p) hs → socket_id_slot id < p.slots
held_in_table p name id [] e all = absurd (none-some id e)
held_in_table p name id (h ∷ hs) e all = dite (ℕ_discrete h.name name) (λ y. subst (λ x. socket_id_slot x < p.slots) (same_Some h.id id (sym (under_here name h hs y) ∙ e)) all.0) (λ n. held_in_table p name id hs (sym (under_else name h hs n) ∙ e) all.1)

-- the one of the name goes
holds_without : (f : Mark → ℕ) (j name id : ℕ) (hs : List HeldLife) → held_under name hs ≡ Some id → total (under name) hs ≤ 1
    → total f (about j (holds hs)) ≡ share f j (socket_id_slot id) (Hold (socket_id_version id)) + total f (about j (holds (without_name name hs)))
holds_without f j name id [] e once = absurd (none-some id e)
holds_without f j name id (h ∷ hs) e once = let top = about_share f j (socket_id_slot h.id) (Hold (socket_id_version h.id)) (holds hs) in dite (ℕ_discrete h.name name)
    (λ y. let same : without_name name (h ∷ hs) ≡ hs = without_here name h hs y ∙ without_none name hs (omega (arith, once, only-at name h.name y)) in
    let id_is : h.id ≡ id = same_Some h.id id (sym (under_here name h hs y) ∙ e) in
    omega (arith, top, ap (λ l. total f (about j (holds l))) same, ap (λ x. share f j (socket_id_slot x) (Hold (socket_id_version x))) id_is))
    (λ n. let ih = holds_without f j name id hs (sym (under_else name h hs n) ∙ e) (omega (arith, once)) in
    omega (arith, top, ih, ap (λ l. total f (about j (holds l))) (without_else name h hs n), about_share f j (socket_id_slot h.id) (Hold (socket_id_version h.id)) (holds (without_name name hs))))

module _ (name id : ℕ) (hs : List HeldLife) (e : held_under name hs ≡ Some id) (once : total (under name) hs ≤ 1) (f : Mark → ℕ) where
  pub fewer_here : total f (about (socket_id_slot id) (holds hs)) ≡ f (Hold (socket_id_version id)) + total f (about (socket_id_slot id) (holds (without_name name hs)))
  fewer_here = omega (arith, holds_without f (socket_id_slot id) name id hs e once, ap (λ b. cond b (f (Hold (socket_id_version id))) 0) (eq-eqb (socket_id_slot id) (socket_id_slot id) refl))

  pub fewer_else : (j : ℕ) → j ≢ socket_id_slot id → total f (about j (holds hs)) ≡ total f (about j (holds (without_name name hs)))
  fewer_else j n = omega (arith, holds_without f j name id hs e once, ap (λ b. cond b (f (Hold (socket_id_version id))) 0) (ne_eqb (socket_id_slot id) j (λ q. n (sym q))))
