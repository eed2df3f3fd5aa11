-- Counts of what is told of calls that ended, beside what seats noted of them.
use Rattle.std.proofs.Common.{◌≡◌, ℕ, ◌+◌, ◌*◌, ◌<◌, true, false, cond, eqb, List, [], ◌∷◌, ◌++◌, map, refl, ◌∙◌, ap, sym, arith}
use Rattle.std.specs.List.{AllByRecursion, flat_map}
use Rattle.corr_core.specs.IdSlotLaw.{only, is_ended}
use Rattle.corr_core.specs.declared.marks.Note.TheVariants.{Ended}
use Rattle.corr_core.specs.declared.marks.Noted.{Noted}
use Rattle.corr_core.specs.declared.marks.View.{View}
use Rattle.id_rule.specs.LawfulIdTable.{notes_of}
use Rattle.sock_message.specs.Asked.{Asked}
use Rattle.corr_id.specs.SeatBehindIdCalls.{one}
use Rattle.corr_id.proofs.IdSeatSplits.{total_append, notes_append}
use Rattle.call_deeds.specs.Below.RpcClient.Told.{Told}
use Rattle.call_deeds.specs.Below.CallErrors.Accounts.{same_id}
use Rattle.call_told.specs.ToldOnce.{ends_of, told_ends}
use Rattle.sock_words.specs.Totals.{total}

-- how often it was noted that the range of this slot with this first version ended
abbrev pub noted_ends : ℕ → ℕ → List (Noted Asked) → ℕ
noted_ends slot first notes = total (is_ended first) (notes_of slot notes)

-- of each id as much was told more as was noted more
abbrev pub Accounted : List Told → List (Noted Asked) → List Told → List (Noted Asked) → Type 0
Accounted told notes told' notes' = (slot first : ℕ) → first < 4294967296 → told_ends (slot * 4294967296 + first) told' + noted_ends slot first notes ≡ told_ends (slot * 4294967296 + first) told + noted_ends slot first notes'

-- of each id as much was told as was noted
abbrev pub Balanced : List Told → List (Noted Asked) → Type 0
Balanced told notes = (slot first : ℕ) → first < 4294967296 → told_ends (slot * 4294967296 + first) told ≡ noted_ends slot first notes

-- the same of each of these that told something, with what its seat noted
abbrev pub AreBalanced : List (List Told) → List (View Asked) → Type 0
AreBalanced [] [] = Unit {0}
AreBalanced (t ∷ ts) (v ∷ vs) = Balanced t v.notes × AreBalanced ts vs
AreBalanced [] (v ∷ vs) = ⊥
AreBalanced (t ∷ ts) [] = ⊥

pub told_more : (id : ℕ) (xs ys : List Told) → told_ends id (xs ++ ys) ≡ told_ends id xs + told_ends id ys
told_more id xs ys = total_append (λ (x : Told). ends_of id x.outcome) xs ys

pub noted_more : (slot first : ℕ) (ns ms : List (Noted Asked)) → noted_ends slot first (ns ++ ms) ≡ noted_ends slot first ns + noted_ends slot first ms
noted_more slot first ns ms = ap (total (is_ended first)) (notes_append slot ns ms) ∙ total_append (is_ended first) (notes_of slot ns) (notes_of slot ms)

pub balanced_more : (told told' : List Told) (notes notes' : List (Noted Asked)) → Accounted told notes told' notes' → Balanced told notes → Balanced told' notes'
balanced_more told told' notes notes' a b slot first low = let x = a slot first low in let y = b slot first low in omega arith

pub balanced_each : {X : Type 0} (told : X → List Told) (view : X → View Asked) (xs : List X) → AllByRecursion (λ x. Balanced (told x) (view x).notes) xs → AreBalanced (map told xs) (map view xs)
balanced_each told view [] a = tt
balanced_each told view (x ∷ xs) a = (a.0, balanced_each told view xs a.1)

-- of two lists put together
pub balanced_both : (ts us : List (List Told)) (vs ws : List (View Asked)) → AreBalanced ts vs → AreBalanced us ws → AreBalanced (ts ++ us) (vs ++ ws)
balanced_both [] us [] ws a b = b
balanced_both (t ∷ ts) us (v ∷ vs) ws a b = (a.0, balanced_both ts us vs ws a.1 b)
balanced_both [] us (v ∷ vs) ws a b = absurd a
balanced_both (t ∷ ts) us [] ws a b = absurd a

-- what is told by all is what is noted in the notes of all their seats together
pub balanced_all : (tellers : List (List Told)) (vs : List (View Asked)) → AreBalanced tellers vs → (slot first : ℕ) → first < 4294967296 → total (told_ends (slot * 4294967296 + first)) tellers ≡ noted_ends slot first (flat_map (λ (v : View Asked). v.notes) vs)
balanced_all [] [] a slot first low = refl
balanced_all (t ∷ ts) (v ∷ vs) a slot first low = let x = a.0 slot first low in let y = balanced_all ts vs a.1 slot first low in let z = noted_more slot first v.notes (flat_map (λ (w : View Asked). w.notes) vs) in omega arith
balanced_all [] (v ∷ vs) a slot first low = absurd a
balanced_all (t ∷ ts) [] a slot first low = absurd a

-- ## One end

pub noted_one : (slot first at of_ n : ℕ) → noted_ends slot first (one at (Ended of_ n)) ≡ cond (eqb at slot) (only first of_) 0
noted_one slot first at of_ n = elim (eqb at slot) as (λ b. total (is_ended {C = Asked} first) (cond b (Ended of_ n ∷ []) []) ≡ cond b (only first of_) 0) [ true ↦ omega arith | false ↦ refl ]

-- one end is told where one is noted
pub one_end : (slot first at of_ n : ℕ) → first < 4294967296 → of_ < 4294967296 → only (slot * 4294967296 + first) (at * 4294967296 + of_) ≡ noted_ends slot first (one at (Ended of_ n))
one_end slot first at of_ n fl ol = same_id slot first at of_ fl ol ∙ sym (noted_one slot first at of_ n)
