-- Ids as words of names and of operations.
use Rattle.std.proofs.Common.{◌≡◌, ◌≢◌, ℕ, List, ◌+◌, ◌-◌, ◌/◌, ◌%◌, ◌<◌, inl, inr, Bool, true, false, cond, eqb, refl, sym, subst, arith}
use mathlib.Core.Option.{none}
use Rattle.atomic_table.specs.Table.{Me, step, Allows}
use Rattle.sock_words.specs.declared.plain.Plan.{Plan}
use Rattle.sock_words.specs.PackedWords.{socket_id_version, socket_id_slot, NO_SOCKET}
use Rattle.sock_model.specs.declared.home.Home.{Home}
use Rattle.sock_model.specs.declared.view.View.{View}
use Rattle.sock_model.specs.declared.view.StoredWord.{StoredWord}
use Rattle.sock_model.specs.MarkWeights.{is_known}
use Rattle.sock_model.specs.SlotRows.{marks_of}
use Rattle.atomic_table.specs.Seated.{TableId}
use Rattle.atomic_table.specs.declared.shared.Seat.{Seat}
use Rattle.sock_model.specs.SlotRows.{met}
use Rattle.sock_rule.specs.OnTable.{OnTable}
use Rattle.sock_rule.specs.NotesBesideRows.{finding, found_at}
use Rattle.sock_rule.specs.SocketSeatSplits.{IsSeat}
use Rattle.sock_model.specs.SocketTableLayout.{name_index, open_index}
use Rattle.sock_rule.specs.SocketPlays.{store_told, find_told, find_name_told}
use Rattle.sock_rule.proofs.Storing.{stores_name, finds_name, stores_open, finds_open}
use Rattle.sock_rule.proofs.SeatStaysInTable.{still_seat}

-- the word of an id that is known
stored_id : (p : Plan) (v : View) (id word : ℕ) → word ≡ id + 1 → socket_id_slot id < p.slots → 0 < marks_of (is_known (socket_id_version id)) (socket_id_slot id) v
    → (word ≢ 0) × ((word - 1) % 4294967296 < p.slots) × (0 < marks_of (is_known ((word - 1) / 4294967296)) ((word - 1) % 4294967296) v)
stored_id p v id word is inside known = let e : id ≡ word - 1 = omega arith in
    ((λ z. omega arith), subst (λ (n : ℕ). n % 4294967296 < p.slots) e inside, subst (λ (n : ℕ). 0 < marks_of (is_known (n / 4294967296)) (n % 4294967296) v) e known)

-- S6 and S7 on a table whose key is this plan
module _ {S : Type 0} (shows : S → Home) (rose : S → ℕ) (q p : Plan) (slots id : ℕ) (me : Me S View) (key : q ≡ p) (mine : me.0.plan ≡ p) (some_ : 0 < me.0.share) where
  pub stores_name_on : (n x word : ℕ) → n < p.names → word ≡ x + 1 → socket_id_slot x < p.slots → 0 < marks_of (is_known (socket_id_version x)) (socket_id_slot x) me.0
      → Allows (OnTable shows rose q) slots id me (name_index p n) (λ _. word) (λ _. store_told (step slots (name_index p n) word 0 none) me word)
  stores_name_on n x word low is inside known = let r = stored_id p me.0 x word is inside known in subst (λ (r : Plan). Allows (OnTable shows rose r) slots id me (name_index p n) (λ _. word) (λ _. store_told (step slots (name_index p n) word 0 none) me word)) (sym key) (stores_name shows rose p slots id me mine some_ n word low r.0 r.1 r.2)

  pub finds_name_on : (n : ℕ) → n < p.names → Allows (OnTable shows rose q) slots id me (name_index p n) (λ n. n) (find_name_told (step slots (name_index p n) 0 0 none) me)
  finds_name_on n low = subst (λ (r : Plan). Allows (OnTable shows rose r) slots id me (name_index p n) (λ n. n) (find_name_told (step slots (name_index p n) 0 0 none) me)) (sym key) (finds_name shows rose p slots id me mine some_ n low)

  pub stores_open_on : (n x word : ℕ) → n < p.operations → word ≡ x + 1 → socket_id_slot x < p.slots → 0 < marks_of (is_known (socket_id_version x)) (socket_id_slot x) me.0
      → Allows (OnTable shows rose q) slots id me (open_index p n) (λ _. word) (λ _. store_told (step slots (open_index p n) word 0 none) me word)
  stores_open_on n x word low is inside known = let r = stored_id p me.0 x word is inside known in subst (λ (r : Plan). Allows (OnTable shows rose r) slots id me (open_index p n) (λ _. word) (λ _. store_told (step slots (open_index p n) word 0 none) me word)) (sym key)
      (stores_open shows rose p slots id me mine some_ n word ((word - 1) % 4294967296) low r.0 r.1 (inr (refl, r.2)))

  pub stores_nothing_on : (n word : ℕ) → n < p.operations → 0 < p.slots → word ≡ NO_SOCKET → Allows (OnTable shows rose q) slots id me (open_index p n) (λ _. word) (λ _. store_told (step slots (open_index p n) word 0 none) me word)
  stores_nothing_on n word low some_slots is = subst (λ (r : Plan). Allows (OnTable shows rose r) slots id me (open_index p n) (λ _. word) (λ _. store_told (step slots (open_index p n) word 0 none) me word)) (sym key)
      (stores_open shows rose p slots id me mine some_ n word 0 low (λ z. omega arith) some_slots (inl is))

  pub finds_open_on : (n : ℕ) → n < p.operations → Allows (OnTable shows rose q) slots id me (open_index p n) (λ n. n) (find_told (step slots (open_index p n) 0 0 none) me)
  finds_open_on n low = subst (λ (r : Plan). Allows (OnTable shows rose r) slots id me (open_index p n) (λ n. n) (find_told (step slots (open_index p n) 0 0 none) me)) (sym key) (finds_open shows rose p slots id me mine some_ n low)

-- a seat stays one of the table, whatever it found
pub found_seat : {S : Type 0} (z : TableId) (p : Plan) (s t : Seat S View) (x word : ℕ) → IsSeat z p s → t.table_id ≡ s.table_id → (all : List StoredWord) → t.me ≡ (found_at x word all s.me.0, s.me.1) → IsSeat z p t
found_seat z p s t x word is same all view = let a = kept word (eqb word 0) (eqb word 18446744073709551615) in still_seat z p s t (found_at x word all s.me.0, s.me.1) is same view a.0 (sym a.1)
  where
    kept : (word : ℕ) (b d : Bool) → ((cond b s.me.0 (cond d (finding x word all s.me.0) (finding x word all (met ((word - 1) % 4294967296) ((word - 1) / 4294967296) s.me.0)))).plan ≡ s.me.0.plan) × ((cond b s.me.0 (cond d (finding x word all s.me.0) (finding x word all (met ((word - 1) % 4294967296) ((word - 1) / 4294967296) s.me.0)))).share ≡ s.me.0.share)
    kept word true d = (refl, refl)
    kept word false true = (refl, refl)
    kept word false false = (refl, refl)
