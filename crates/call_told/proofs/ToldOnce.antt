-- No call is told twice: over all that is told in a run, the end of a call is told once at most.
use Rattle.std.proofs.Common.{◌≡◌, ℕ, ◌+◌, ◌*◌, ◌<◌, ◌≤◌, inl, inr, true, false, List, [], ◌∷◌, ◌++◌, ◌∙◌, ap, sym, subst, arith}
use Rattle.std.specs.List.{flat_map}
use Rattle.std.proofs.lemmas.Nat.{div-add-mod'}
use Rattle.corr_core.specs.declared.marks.Kept.{Kept}
use Rattle.corr_core.specs.declared.marks.Noted.{Noted}
use Rattle.corr_core.specs.declared.marks.Plan.{Plan}
use Rattle.corr_core.specs.declared.marks.View.{View}
use Rattle.corr_id.specs.ClosingIdLists.{Closing}
use Rattle.corr_id.proofs.IdSeatSplits.{total_append}
use Rattle.sock_message.specs.Asked.{Asked}
use Rattle.call_deeds.specs.Below.RpcClient.Told.{Told}
use Rattle.call_deeds.specs.Below.RpcReader.ReaderBooks.{Books}
use Rattle.call_deeds.specs.Below.RpcReader.CallsLeftAfterReading.{RestEnded}
use Rattle.call_told.specs.ToldOnce.{told_ends, ToldOnce}
use Rattle.call_told.proofs.Balance.{noted_ends, Accounted, AreBalanced, balanced_all}
use Rattle.call_told.proofs.Tallies.{Accounts, rest_accounts, version_low}
use Rattle.sock_words.specs.PackedWords.{id_slot, id_first}
use Rattle.sock_words.specs.Totals.{total}

-- memory was not wanting
pub calm_accounts : (b b' : Books) → Accounts b b' → b'.starved ≡ false → Accounted b.told b.view.notes b'.told b'.view.notes
calm_accounts b b' (inl x) calm = let k : true ≡ false = sym x ∙ calm in absurd (cc)
calm_accounts b b' (inr a) calm = a

none_told : (b : Books) → b.told ≡ [] → (id : ℕ) → told_ends id b.told ≡ 0
none_told b e id = ap (told_ends id) e

-- where it was told what was noted, and nothing was noted twice
once_by : (q : Plan) (kept : List Kept) (words : List ℕ) (tellers : List (List Told)) (notes : List (Noted Asked))
    → ((slot first : ℕ) → first < 4294967296 → total (told_ends (slot * 4294967296 + first)) tellers ≡ noted_ends slot first notes)
    → Closing q notes kept words → ToldOnce q.slots tellers
once_by q kept words tellers notes same closing id inside =
    let i = id_slot id in let f = id_first id in
    let is : i * 4294967296 + f ≡ id = div-add-mod' id 4294967296 in
    let a = same i f (version_low id) in
    let b = closing.ended_once i f inside in
    subst (λ (x : ℕ). total (told_ends x) tellers ≤ 1) is (omega arith)

module _ (q : Plan) (calls : List ℕ) (code : ℕ) where
  -- Each that told of calls told what its seat noted. A seat that has what all of them noted ended what was left of calls: what it told with that is what was noted then
  pub told_noted : (ended : List (List Told)) (seats : List (View Asked)) (b b' : Books)
      → AreBalanced ended seats → b.view.notes ≡ flat_map (λ (v : View Asked). v.notes) seats → b.told ≡ [] → RestEnded q code calls b b' → b'.starved ≡ false
      → (slot first : ℕ) → first < 4294967296 → total (told_ends (slot * 4294967296 + first)) (ended ++ b'.told ∷ []) ≡ noted_ends slot first b'.view.notes
  told_noted ended seats b b' balanced begins none rest calm slot first low =
      let id = slot * 4294967296 + first in
      let x = balanced_all ended seats balanced slot first low in
      let y = calm_accounts b b' (rest_accounts code q calls b b' rest).accounts calm slot first low in
      let z = none_told b none id in
      let n = ap (noted_ends slot first) begins in
      let t = total_append (told_ends id) ended (b'.told ∷ []) in
      omega arith

  -- and then the table of ids was closed: what they told of calls that ended, and what was told behind them, has no call twice
  pub told_once : (ended : List (List Told)) (seats : List (View Asked)) (b b' : Books) (kept : List Kept) (words : List ℕ)
      → AreBalanced ended seats → b.view.notes ≡ flat_map (λ (v : View Asked). v.notes) seats → b.told ≡ [] → RestEnded q code calls b b' → b'.starved ≡ false
      → Closing q b'.view.notes kept words → ToldOnce q.slots (ended ++ b'.told ∷ [])
  told_once ended seats b b' kept words balanced begins none rest calm closing =
      once_by q kept words (ended ++ b'.told ∷ []) b'.view.notes (told_noted ended seats b b' balanced begins none rest calm) closing
