-- Words of requests, next words and place words by the plan that a table keeps.
use Rattle.std.proofs.Common.{◌≡◌, ℕ, ◌%◌, ◌<◌, [], ◌∷◌, sym, ap, ◌∙◌, subst, refl, arith}
use mathlib.Core.Logic.{dite}
use mathlib.Core.Option.{none, some}
use native.Mathlib.Decide.{ℕ_discrete}
use lib.ListN.{get_elem?}
use Rattle.std.specs.Prelude.{bit_or}
use Rattle.atomic_table.specs.Table.{Me, step, rest, Allows}
use Rattle.atomic_table.specs.Seated.{TableId}
use Rattle.atomic_table.specs.declared.shared.Seat.{Seat}
use Rattle.sock_words.specs.declared.plain.Plan.{Plan}
use Rattle.sock_model.specs.declared.chain.Claim.{Claim}
use Rattle.sock_model.specs.declared.chain.Loose.{Loose}
use Rattle.sock_model.specs.declared.view.View.{View}
use Rattle.sock_model.specs.declared.home.Home.{Home}
use Rattle.sock_model.specs.SocketTableLayout.{request_index, next_index}
use Rattle.sock_model.specs.Rule.{noting}
use Rattle.sock_model.specs.ChainRows.{with_claim}
use Rattle.sock_rule.specs.OnTable.{OnTable}
use Rattle.sock_rule.specs.SocketSeatSplits.{IsSeat}
use Rattle.sock_rule.specs.SendingOnRequestWords.{Asked, Swapped}
use Rattle.sock_rule.specs.ChainPlays.{request_told, ready_told, connect_told}
use Rattle.sock_rule.proofs.Chaining.{asks, readies, connects}
use Rattle.sock_rule.proofs.SeatStaysInTable.{still_seat}
use Rattle.sock_words.specs.PackedWords.{UNCONNECTED, IDLE}

module _ {S : Type 0} (shows : S → Home) (rose : S → ℕ) (q p : Plan) (slots id : ℕ) (me : Me S View) (mine : me.0.plan ≡ p) (some_ : 0 < me.0.share) (key : q ≡ p) (at word : ℕ) (low : at < p.requests) where
  pub asks_on : word ≡ request_index p at → me.0.claims ≡ [] → Allows (OnTable shows rose q) slots id me word (λ n. bit_or n 1) (request_told (step slots word 1 0 none) me)
  asks_on e idle = subst (λ (x : ℕ). Allows (OnTable shows rose q) slots id me x (λ n. bit_or n 1) (request_told (step slots x 1 0 none) me)) (sym e)
      (subst (λ (z : Plan). Allows (OnTable shows rose z) slots id me (request_index p at) (λ n. bit_or n 1) (request_told (step slots (request_index p at) 1 0 none) me)) (sym key) (asks shows rose p slots id me mine some_ at low idle))

  pub asked : word ≡ request_index p at → (found : ℕ) (n : Me S View) → request_told (step slots word 1 0 none) me found n → Asked p at found me n
  asked e found n told = let t = told at (e ∙ ap (λ (z : Plan). request_index z at) (sym mine)) in (t.0, λ odd. t.1 odd ∙ ap (λ (z : Plan). (noting (request_index z at) me.0, me.1)) mine)

  pub readies_on : word ≡ next_index p at → (c : Claim) → me.0.claims ≡ c ∷ [] → c.request ≡ at → Allows (OnTable shows rose q) slots id me word (λ _. UNCONNECTED) (λ _. ready_told (step slots word UNCONNECTED 0 none) me UNCONNECTED)
  readies_on e c claim is = subst (λ (x : ℕ). Allows (OnTable shows rose q) slots id me x (λ _. UNCONNECTED) (λ _. ready_told (step slots x UNCONNECTED 0 none) me UNCONNECTED)) (ap (next_index p) is ∙ sym e)
      (subst (λ (z : Plan). Allows (OnTable shows rose z) slots id me (next_index p c.request) (λ _. UNCONNECTED) (λ _. ready_told (step slots (next_index p c.request) UNCONNECTED 0 none) me UNCONNECTED)) (sym key) (readies shows rose p slots id me mine some_ c claim (omega arith)))

  pub connects_on : word ≡ next_index p at → (before n : ℕ) (l : Loose) → get_elem? me.0.loose n ≡ some l → l.request ≡ at → l.before ≡ before → Allows (OnTable shows rose q) slots id me word (λ _. before) (λ _. connect_told (step slots word before 0 none) me before)
  connects_on e before n l has is is_before = subst (λ (y : ℕ). Allows (OnTable shows rose q) slots id me word (λ _. y) (λ _. connect_told (step slots word y 0 none) me y)) is_before
      (subst (λ (x : ℕ). Allows (OnTable shows rose q) slots id me x (λ _. l.before) (λ _. connect_told (step slots x l.before 0 none) me l.before)) (ap (next_index p) is ∙ sym e)
      (subst (λ (z : Plan). Allows (OnTable shows rose z) slots id me (next_index p l.request) (λ _. l.before) (λ _. connect_told (step slots (next_index p l.request) l.before 0 none) me l.before)) (sym key) (connects shows rose p slots id me mine some_ n l (omega arith) has)))

pub asked_seat : {S : Type 0} (z : TableId) (p : Plan) (s t : Seat S View) (at found : ℕ) → IsSeat z p s → t.table_id ≡ s.table_id → Asked p at found s.me t.me → IsSeat z p t
asked_seat {S} z p s t at found is same a = dite (ℕ_discrete (found % 2) 0)
    (λ even. let y = a.0 even in still_seat z p s t _ is same y.2 refl refl)
    (λ odd. still_seat z p s t _ is same (a.1 odd) refl refl)

pub swapped_seat : {S : Type 0} (z : TableId) (p : Plan) (s t : Seat S View) (c : Claim) (found : ℕ) → IsSeat z p s → t.table_id ≡ s.table_id → Swapped c found s.me t.me → IsSeat z p t
swapped_seat {S} z p s t c found is same a = dite (native.Mathlib.Decide.dec_le IDLE found)
    (λ high. let y = a.2 high in (same ∙ is.0, ap (λ (u : View). u.plan) y.2 ∙ is.1, (let e = ap (λ (u : View). u.share) y.2 in let b = is.2 in omega arith)))
    (λ low. let y = a.1 (omega arith) in (same ∙ is.0, ap (λ (u : View). u.plan) y ∙ is.1, (let e = ap (λ (u : View). u.share) y in let b = is.2 in omega arith)))

-- M1 of a message that was laid into the slot that was taken last
pub filled_me : {S : Type 0} (shows : S → Home) (m n r : Me S View) (slot at found : ℕ) (y : S) → n ≡ (m.0, (at, y) ∷ rest m.1) → Rattle.sock_rule.specs.ChainPlays.fill_told shows (step 0 (Rattle.sock_model.specs.SocketTableLayout.link_index slot) 0 0 none) n found r
    → (c : Claim) (h : ℕ) → m.0.claims ≡ c ∷ [] → 0 < Rattle.sock_model.specs.SlotRows.marks_of (Rattle.sock_model.specs.MarkWeights.is_hold h) slot m.0 → r ≡ (with_claim (Rattle.sock_model.specs.SlotRows.met_link slot h found m.0) (Rattle.sock_rule.specs.ChainPlays.filled_with c found (shows y)), rest m.1)
filled_me {S} shows m n r slot at found y laid told c h is held = let same = ap (λ (x : Me S View). x.0) laid in let top = ap (λ (x : Me S View). x.1) laid in
    let t = told c (at, y) slot h (ap (λ (v : View). v.claims) same ∙ is) (top ∙ (λ i. (at, y) ∷ rest (sym top i))) refl (subst (λ (v : View). 0 < Rattle.sock_model.specs.SlotRows.marks_of (Rattle.sock_model.specs.MarkWeights.is_hold h) slot v) (sym same) held) in
    t.0 ∙ (λ i. (with_claim (Rattle.sock_model.specs.SlotRows.met_link slot h found (same i)) (Rattle.sock_rule.specs.ChainPlays.filled_with c found (shows y)), rest (top i)))
