-- What each step on the table tells: of the step, the seat before, the number found (at a store the number stored) and the seat after.
use Rattle.std.specs.Prelude.{◌≡◌, ◌≢◌, ℕ, ◌+◌, ◌-◌, ◌%◌, ◌<◌, ◌≤◌, ◌==◌, cond, Bool, List, [], ◌∷◌}
use mathlib.Core.Option.{some}
use lib.ListN.{get_elem?}
use Rattle.atomic_table.specs.Table.{Me, Step}
use Rattle.sock_model.specs.declared.home.Home.{Home}
use Rattle.sock_model.specs.declared.home.Home.TheVariants.{Link}
use Rattle.sock_model.specs.declared.view.View.{View}
use Rattle.sock_model.specs.MarkWeights.{is_busy, is_ref, is_known, is_hold, is_stage, is_saw, is_coding, is_told, is_met, is_recycled}
use Rattle.sock_model.specs.SocketTableLayout.{tag_index, ref_index, link_index, head_index, code_index}
use Rattle.sock_model.specs.SlotRows.{marks_of, knows, claimed, gave_birth, added, back, subbed, failed, recycled, freed, looked, linked, staged, coded, told_code, met_link}
use Rattle.sock_model.specs.ChainRows.{with_hand, without_hand, spent_hand}
use Rattle.sock_rule.specs.NotesBesideRows.{PutAt, FoundAt}
use Rattle.sock_rule.specs.LinkFaultNotes.{faults_of, fault_found, fault_left, noting_end}
use Rattle.sock_words.specs.PackedWords.{vref_version, vref_nref, socket_id_slot, NO_SOCKET}

-- what a seat knows of the reference word of a slot that it finds
pub record WordFits (i found : ℕ) (v : View) : Type 0 where
  -- no life that it knows is yet to come
  pub known : (h : ℕ) → 0 < marks_of (is_known h) i v → h ≤ vref_version found
  -- a life that it holds is the slot's last
  pub held : (h : ℕ) → 0 < marks_of (is_hold h) i v → h ≡ vref_version found - vref_version found % 2
  -- no version that it saw is yet to come
  pub saw : (w : ℕ) → 0 < marks_of (is_saw w) i v → w ≤ vref_version found

-- the seat has the link k in hand, with what it took and its next place, as it was at home; where its half has faults, that is noted until it goes home
pub record TookLink {S : Type 0} (shows : S → Home) (rose : S → ℕ) (m n : Me S View) (k : ℕ) (row : List ℕ → ℕ → View) : Type 0 where
  pub value : S
  pub took : List ℕ
  pub next : ℕ
  pub done : Bool
  pub shown : shows value ≡ Link k took next done
  pub inside : k < m.0.plan.links
  pub view : n.0 ≡ fault_found (rose value) 0 k (row took next)
  -- it has some where the seat noted one before
  pub known : 0 < faults_of k m.0 → 0 < rose value
  pub slots : n.1 ≡ (m.0.plan.requests + k, value) ∷ m.1

module _ {S : Type 0} where
  -- the seat's view becomes v
  abbrev pub Becomes : Me S View → Me S View → View → Type 0
  Becomes m n v = n ≡ (v, m.1)

  -- A1
  abbrev pub claim_told : Step S → Me S View → ℕ → Me S View → Type 0
  claim_told st m found n = (i : ℕ) → st.word ≡ tag_index i → Becomes m n (claimed i found m.0)

  -- A2
  abbrev pub birth_told : Step S → Me S View → ℕ → Me S View → Type 0
  birth_told st m found n = (vref_nref found < 4294967295) × ((i k : ℕ) → st.word ≡ ref_index i → 0 < marks_of (is_stage 3 k) i m.0 → Becomes m n (gave_birth i found k m.0) × (vref_version found ≤ 4294967292) × (vref_version found % 2 ≡ 0))

  -- A3
  abbrev pub add_told : Step S → Me S View → ℕ → Me S View → Type 0
  add_told st m found n = (vref_nref found < 4294967295) × ((i : ℕ) → st.word ≡ ref_index i → Becomes m n (added i found (knows i (vref_version found) m.0) m.0) × WordFits i found m.0)

  -- A4
  abbrev pub sub_told : Step S → Me S View → ℕ → Me S View → Type 0
  sub_told st m found n = (0 < vref_nref found) × (vref_version found ≤ 4294967294) × ((i : ℕ) → st.word ≡ ref_index i → Becomes m n (subbed i found (back i found m.0) m.0) × WordFits i found m.0 × (marks_of is_ref i m.0 ≤ vref_nref found))

  -- A5
  abbrev pub fail_told : Step S → Me S View → ℕ → Me S View → Type 0
  fail_told st m found n = (i : ℕ) → st.word ≡ ref_index i → Becomes m n (failed i found m.0) × WordFits i found m.0

  -- A6; whoever wins had nothing else of the slot than notes
  abbrev pub recycle_told : Step S → Me S View → ℕ → Me S View → Type 0
  recycle_told st m found n = (i : ℕ) → st.word ≡ ref_index i → Becomes m n (recycled i st.first found m.0) × (found ≡ st.first → marks_of is_busy i m.0 ≡ 0)

  -- A7
  abbrev pub free_told : Step S → Me S View → ℕ → Me S View → Type 0
  free_told st m found n = (i : ℕ) → st.word ≡ tag_index i → Becomes m n (freed i m.0)

  -- A8
  abbrev pub look_told : Step S → Me S View → ℕ → Me S View → Type 0
  look_told st m found n = (i : ℕ) → st.word ≡ ref_index i → Becomes m n (looked i found m.0) × WordFits i found m.0

  -- S1
  abbrev pub link_told : Step S → Me S View → ℕ → Me S View → Type 0
  link_told st m stored n = (i : ℕ) → st.word ≡ link_index i → Becomes m n (linked i stored m.0)

  -- S2 of a life that it holds
  abbrev pub meet_told : Step S → Me S View → ℕ → Me S View → Type 0
  meet_told st m found n = (i h : ℕ) → st.word ≡ link_index i → 0 < marks_of (is_hold h) i m.0 → Becomes m n (met_link i h found m.0) × ((k : ℕ) → 0 < marks_of (is_met h k) i m.0 → found ≡ k) × (found < m.0.plan.links)

  -- S2 of whoever recycled the slot
  abbrev pub meet_last_told : Step S → Me S View → ℕ → Me S View → Type 0
  meet_last_told st m found n = (i w : ℕ) → st.word ≡ link_index i → 0 < marks_of (is_recycled w) i m.0 → Becomes m n (met_link i (w - 2) found m.0) × (found < m.0.plan.links)

  -- S3
  abbrev pub reset_told : Step S → Me S View → ℕ → Me S View → Type 0
  reset_told st m stored n = (i k : ℕ) → st.word ≡ head_index i → 0 < marks_of (is_stage 1 k) i m.0 → Becomes m n (staged i 1 k 2 m.0)

  -- S4 of 0
  abbrev pub wipe_told : Step S → Me S View → ℕ → Me S View → Type 0
  wipe_told st m stored n = (i k : ℕ) → st.word ≡ code_index i → 0 < marks_of (is_stage 2 k) i m.0 → Becomes m n (staged i 2 k 3 m.0)

  -- S4 of a code
  abbrev pub code_told : Step S → Me S View → ℕ → Me S View → Type 0
  code_told st m stored n = (i h : ℕ) → st.word ≡ code_index i → 0 < marks_of (is_coding h) i m.0 → Becomes m n (coded i h stored m.0)

  -- S5: a code other than 0 is noted
  abbrev pub read_told : Step S → Me S View → ℕ → Me S View → Type 0
  read_told st m found n = (i h : ℕ) → st.word ≡ code_index i → 0 < marks_of (is_hold h) i m.0 → Becomes m n (cond (found == 0) m.0 (told_code i h found m.0)) × ((c : ℕ) → 0 < marks_of (is_told h c) i m.0 → found ≡ c) × (found < 4096)

  -- S6
  abbrev pub store_told : Step S → Me S View → ℕ → Me S View → Type 0
  store_told st m stored n = PutAt st.word stored m n

  -- S7: an id that is found names a slot of the table, and a word that was found other than 0 is so still
  abbrev pub find_told : Step S → Me S View → ℕ → Me S View → Type 0
  find_told st m found n = FoundAt st.word found m n × (found ≢ 0 → found ≢ NO_SOCKET → socket_id_slot (found - 1) < m.0.plan.slots) × ((k : ℕ) → get_elem? m.0.found k ≡ some st.word → found ≢ 0)

  -- S7 of a name: what stands there, other than 0, is one more than the id of a life
  abbrev pub find_name_told : Step S → Me S View → ℕ → Me S View → Type 0
  find_name_told st m found n = find_told st m found n × (found ≢ 0 → socket_id_slot (found - 1) < m.0.plan.slots)

  -- ## Links

  -- L1 of whoever recycled the slot of this link word, and found that the link of the life that ended is k
  abbrev pub take_last_told : (S → Home) → (S → ℕ) → Step S → Me S View → ℕ → Me S View → Type 0
  take_last_told shows rose st m found n = (i w k : ℕ) → st.word ≡ link_index i → 0 < marks_of (is_recycled w) i m.0 → 0 < marks_of (is_met (w - 2) k) i m.0 → TookLink shows rose m n k (λ took next. with_hand m.0 record { link = k; took = took; next = next })

  -- L1 of a pass that gets no socket
  abbrev pub spend_told : (S → Home) → (S → ℕ) → Step S → Me S View → ℕ → Me S View → Type 0
  spend_told shows rose st m found n = (k : ℕ) → m.0.passes ≡ k ∷ [] → TookLink shows rose m n k (λ took next. spent_hand m.0 record { link = k; took = took; next = next })

  -- L2 of a link without a right: what was taken last goes home finished, which is noted
  abbrev pub put_told : (S → ℕ) → Step S → Me S View → ℕ → Me S View → Type 0
  put_told rose st m found n = (i k : ℕ) (y : S) (rest : List (ℕ × S)) → st.word ≡ link_index i → m.1 ≡ (m.0.plan.requests + k, y) ∷ rest → n ≡ (noting_end m.0.plan i k (fault_left (rose y) k (without_hand m.0 k)), rest)
