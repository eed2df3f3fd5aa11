-- Words of operations that seats keep in mind: one seat at most stored one, and whatever was found was stored.
use Rattle.std.proofs.Common.{◌≡◌, ℕ, zero, suc, ◌+◌, ◌-◌, ◌≤◌, ◌<◌, Bool, true, false, cond, List, [], ◌∷◌, ◌++◌, flat_map, refl, sym, ap, subst, arith}
use mathlib.Core.Logic.{dite}
use mathlib.Core.Option.{some, some-injective, some-ne-none}
use native.Mathlib.Decide.{ℕ_discrete}
use lib.ListN.{get_elem?}
use Rattle.brpc_model.specs.Order.{EachBefore}
use Rattle.corr_core.specs.IdSlotLaw.{only, pair}
use Rattle.corr_core.specs.declared.marks.Kept.{Kept}
use Rattle.corr_core.specs.declared.marks.View.{View}
use Rattle.corr_core.proofs.NoteSums.{pair_le, total_mono}
use Rattle.corr_id.proofs.IdSeatSplits.{total_append}
use Rattle.id_rule.specs.LawfulIdTable.{is_stored}
use Rattle.corr_id.specs.Ruled.{is_place}
use Rattle.sock_message.specs.Asked.{Asked}
use Rattle.call_told.proofs.GrowingCallNotes.{Grows, own_at}
use Rattle.call_told.proofs.Least.{all_kept, apart_sum, stored_apart}
use Rattle.call_told.proofs.ListElementsByPlace.{all_at}
use Rattle.expire_told.specs.ExpireOutcomesSaid.{HaveKeptOf}
use Rattle.sock_words.specs.Totals.{total}

-- ## Lists by places

-- of two in a list the first stands before the second
pub before_in : {A : Type 0} (P : A → A → Type 0) (xs : List A) → EachBefore P xs → (i j : ℕ) (a b : A) → i < j → get_elem? xs i ≡ some a → get_elem? xs j ≡ some b → P a b
before_in P [] h i j a b less e f = absurd (some-ne-none a (sym e))
before_in P (x ∷ xs) h zero zero a b less e f = absurd (omega arith)
before_in P (x ∷ xs) h zero (suc j) a b less e f = subst (λ y. P y b) (some-injective x a e) (all_at (P x) xs j b h.0 f)
before_in P (x ∷ xs) h (suc i) zero a b less e f = absurd (omega arith)
before_in P (x ∷ xs) h (suc i) (suc j) a b less e f = before_in P xs h.1 i j a b (omega arith) e f

-- ## Words that are kept

stored_own : (x w : ℕ) (own : Bool) (place word : ℕ) → cond own (pair x w place word) 0 ≤ cond own (only x place) 0
stored_own x w true place word = pair_le x w place word
stored_own x w false place word = omega arith

pub owned : (x w : ℕ) (ks : List Kept) → total (is_stored x w) ks ≤ total (own_at x) ks
owned x w ks = total_mono (is_stored x w) (own_at x) (λ k. stored_own x w k.own k.place k.word) ks

stored_there : (x w : ℕ) (own : Bool) (place word : ℕ) → cond own (pair x w place word) 0 ≤ only x place
stored_there x w true place word = pair_le x w place word
stored_there x w false place word = omega arith

pub placed : (x w : ℕ) (ks : List Kept) → total (is_stored x w) ks ≤ total (is_place x) ks
placed x w ks = total_mono (is_stored x w) (is_place x) (λ k. stored_there x w k.own k.place k.word) ks

-- two words that a seat stored where it stored one
pub same_stored : (x a b : ℕ) (ks : List Kept) → total (own_at x) ks ≤ 1 → 0 < total (is_stored x a) ks → 0 < total (is_stored x b) ks → a ≡ b
same_stored x a b ks few h k = dite (ℕ_discrete a b) (λ e. e) (λ n. absurd (let c = apart_sum (is_stored x a) (is_stored x b) (own_at x) (stored_apart x a b n) ks in omega (arith, few, h, k, c)))

-- ## Over the seats that were taken in

both_parts : (x w : ℕ) (own : Bool) (place word : ℕ) → cond own (pair x w place word) 0 + (cond own (only x place) 0 - cond own (pair x w place word) 0) ≡ cond own (only x place) 0
both_parts x w own place word = let a = stored_own x w own place word in omega (arith, a)

-- what is stored is what is owned without the others
parted : (x w : ℕ) (ks : List Kept) → total (is_stored x w) ks + total (λ (k : Kept). own_at x k - is_stored x w k) ks ≡ total (own_at x) ks
parted x w [] = refl
parted x w (k ∷ ks) = let a = both_parts x w k.own k.place k.word in let b = parted x w ks in omega (arith, a, b)

-- a seat that took in these and stored nothing more keeps in mind what they do
pub have_kept : (views : List (View Asked)) (v w : View Asked) → v.kept ≡ flat_map (λ (u : View Asked). u.kept) views → ((x : ℕ) → Grows x 0 v w) → HaveKeptOf views w.kept
have_kept views v w took grows = record {
  all = λ f. (let a = (grows 0).kept f in let b = ap (total f) took in let c = all_kept f views in omega (arith, a, b, c));
  stored = λ x word. (
      let others : Kept → ℕ = λ k. own_at x k - is_stored x word k in
      let a = (grows x).own in let b = (grows x).kept others in let c = parted x word v.kept in let d = parted x word w.kept in
      let e = ap (total (is_stored x word)) took in let f = all_kept (is_stored x word) views in omega (arith, a, b, c, d, e, f)
      );
}

-- where the others stored nothing, it keeps in mind what these do
pub have_without : (views others : List (View Asked)) (kept : List Kept) → ((place : ℕ) → total (λ (v : View Asked). total (own_at place) v.kept) others ≡ 0) → HaveKeptOf (views ++ others) kept → HaveKeptOf views kept
have_without views others kept none_ have = record {
  all = λ f. (let a = have.all f in let b = total_append (λ (v : View Asked). total f v.kept) views others in omega (arith, a, b));
  stored = λ x word. (
      let a = have.stored x word in let b = total_append (λ (v : View Asked). total (is_stored x word) v.kept) views others in
      let c = total_mono (λ (v : View Asked). total (is_stored x word) v.kept) (λ (v : View Asked). total (own_at x) v.kept) (λ v. owned x word v.kept) others in let d = none_ x in omega (arith, a, b, c, d)
      );
}
