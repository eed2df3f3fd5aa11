-- What each step on the chains tells: of the step, the seat before, the number found and the seat after. A seat has at most one right to write.
use Rattle.std.specs.Prelude.{◌≡◌, ◌≢◌, ℕ, ◌+◌, ◌*◌, ◌/◌, ◌%◌, ◌<◌, ◌≤◌, true, false, List, [], ◌∷◌}
use Rattle.atomic_table.specs.Table.{Me, Step, rest}
use Rattle.sock_words.specs.declared.plain.Plan.{Plan}
use Rattle.sock_model.specs.declared.home.Home.{Home}
use Rattle.sock_model.specs.declared.home.Home.TheVariants.{Empty, Link, Message}
use Rattle.sock_model.specs.declared.chain.Heading.{Heading}
use Rattle.sock_model.specs.declared.chain.Claim.{Claim}
use Rattle.sock_model.specs.declared.chain.Right.{Right}
use Rattle.sock_model.specs.declared.chain.Stage.TheVariants.{Writes, Placed, Reversing, ReversesNext}
use Rattle.sock_model.specs.declared.view.View.{View}
use Rattle.sock_model.specs.SocketTableLayout.{ref_index, link_index, request_index, next_index}
use Rattle.sock_model.specs.MarkWeights.{is_hold, is_met}
use Rattle.sock_model.specs.SlotRows.{marks_of, looked, met_link}
use Rattle.sock_rule.specs.NotesBesideRows.{dropped_at}
use Rattle.sock_model.specs.ChainRows.{with_claim, fresh_claim, filled_claim, ready_claim, queued, righted, without_loose, with_right, without_right, walking_right, passing_right, reading_right, turned_right, freed_right, placed_right, dropped_right, taken_right}
use Rattle.sock_model.specs.MessageLabels.{blank}
use Rattle.sock_model.specs.Rule.{noting}
use Rattle.sock_rule.specs.LinkFaultNotes.{faults_of, fault_found, noting_fault}
use Rattle.sock_rule.specs.SocketPlays.{WordFits}
use Rattle.sock_words.specs.PackedWords.{ticket_request, vref_version, IDLE, UNCONNECTED}

-- a ticket of one of the table's requests
pub record IsTicket (p : Plan) (n : ℕ) : Type 0 where
  pub some_slot : 0 < n % 65536
  pub inside : ticket_request n < p.requests
  pub small : n < IDLE

-- what a link took
abbrev pub took_in : Home → List ℕ
took_in (Link k took next done) = took
took_in Empty = []
took_in (Message heading bytes) = []

-- the claim c has the message that lies in the slot that was taken last, and its link is k
abbrev pub filled_with : Claim → ℕ → Home → Claim
filled_with c k (Message heading bytes) = filled_claim (record c { link = k }) heading bytes
filled_with c k Empty = c
filled_with c k (Link l took next done) = c

-- the seat has taken the home of request q, where the message of its right's next entry lay
pub record TookLetter {S : Type 0} (shows : S → Home) (m n : Me S View) (r : Right) (now : ℕ) : Type 0 where
  pub value : S
  pub heading : Heading
  pub bytes : List ℕ
  pub shown : shows value ≡ Message heading bytes
  pub label_in : heading.label.place < 8 * m.0.plan.operations
  -- its position fits a place word
  pub few : r.places < 4294967295
  pub view : n.0 ≡ with_right m.0 (taken_right r heading bytes)
  pub slots : n.1 ≡ (ticket_request now, value) ∷ m.1

-- and here the home of the link that it may write, with what it took; where its half has faults, that is noted in slot i
pub record TookOwn {S : Type 0} (shows : S → Home) (rose : S → ℕ) (m n : Me S View) (r : Right) (i : ℕ) : Type 0 where
  pub value : S
  pub shown : shows value ≡ Link r.link r.sent r.places false
  pub inside : r.link < m.0.plan.links
  pub view : n.0 ≡ fault_found (rose value) i r.link (with_right m.0 (record r { at_home = false }))
  -- it has some where the seat noted one before
  pub known : 0 < faults_of r.link m.0 → 0 < rose value
  pub slots : n.1 ≡ (m.0.plan.requests + r.link, value) ∷ m.1

module _ {S : Type 0} where
  -- ## Whoever sends

  -- C1: the request is claimed, and its home taken; or its place is noted since it was found taken
  abbrev pub request_told : Step S → Me S View → ℕ → Me S View → Type 0
  request_told st m found n = (r : ℕ) → st.word ≡ request_index m.0.plan r →
      (found % 2 ≡ 0 → (y : S) × (found / 2 < 140737488355328) × (n ≡ (with_claim m.0 (fresh_claim 0 r found blank []), (r, y) ∷ m.1))) × (found % 2 ≢ 0 → n ≡ (noting (request_index m.0.plan r) m.0, m.1))

  -- M1, with a load of the link word of the slot whose life the seat holds: the message is at home, for that link
  abbrev pub fill_told : (S → Home) → Step S → Me S View → ℕ → Me S View → Type 0
  fill_told shows st m found n = (c : Claim) (y : ℕ × S) (i h : ℕ) → m.0.claims ≡ c ∷ [] → m.1 ≡ y ∷ rest m.1 → st.word ≡ link_index i → 0 < marks_of (is_hold h) i m.0 →
      (n ≡ (with_claim (met_link i h found m.0) (filled_with c found (shows y.1)), rest m.1)) × (found < m.0.plan.links) × ((k : ℕ) → 0 < marks_of (is_met h k) i m.0 → found ≡ k)

  -- C7
  abbrev pub ready_told : Step S → Me S View → ℕ → Me S View → Type 0
  ready_told st m stored n = (c : Claim) → m.0.claims ≡ c ∷ [] → n ≡ (with_claim m.0 (ready_claim c), m.1)

  -- C2: the claim is queued behind a busy head, or has the right to write
  abbrev pub swap_told : Step S → Me S View → ℕ → Me S View → Type 0
  swap_told st m found n = (c : Claim) → m.0.claims ≡ c ∷ [] → (n.1 ≡ m.1) × (found < IDLE → n.0 ≡ queued m.0 c found) × (IDLE ≤ found → (sent : List ℕ) × (places : ℕ) × (n.0 ≡ righted m.0 c found sent places))

  -- C3
  abbrev pub connect_told : Step S → Me S View → ℕ → Me S View → Type 0
  connect_told st m stored n = (q : ℕ) → st.word ≡ next_index m.0.plan q → n ≡ (without_loose m.0 q, m.1)

  -- ## Whoever writes

  -- A8
  abbrev pub clean_told : Step S → Me S View → ℕ → Me S View → Type 0
  clean_told st m found n = (r : Right) (i : ℕ) → m.0.rights ≡ r ∷ [] → st.word ≡ ref_index i →
      WordFits i found m.0 × (vref_version found % 2 ≡ 0 → n ≡ (with_right (looked i found m.0) (record r { clean = true }), m.1)) × (vref_version found % 2 ≢ 0 → n ≡ (looked i found m.0, m.1))

  -- L1 and L2
  abbrev pub take_own_told : (S → Home) → (S → ℕ) → Step S → Me S View → ℕ → Me S View → Type 0
  take_own_told shows rose st m found n = (r : Right) (i : ℕ) → m.0.rights ≡ r ∷ [] → st.word ≡ link_index i → TookOwn shows rose m n r i

  -- a fault of the link in hand is noted
  abbrev pub note_fault_told : Step S → Me S View → ℕ → Me S View → Type 0
  note_fault_told st m found n = (r : Right) (i : ℕ) → m.0.rights ≡ r ∷ [] → st.word ≡ link_index i → n ≡ (noting_fault i r.link m.0, m.1)

  abbrev pub put_own_told : Step S → Me S View → ℕ → Me S View → Type 0
  put_own_told st m found n = (r : Right) → m.0.rights ≡ r ∷ [] → n ≡ (with_right m.0 (record r { at_home = true }), rest m.1)

  -- M2
  abbrev pub take_letter_told : (S → Home) → Step S → Me S View → ℕ → Me S View → Type 0
  take_letter_told shows st m found n = (r : Right) (now : ℕ) → m.0.rights ≡ r ∷ [] → r.stage ≡ Writes now → TookLetter shows m n r now

  -- P1 of a message that its link took whole
  abbrev pub place_told : Step S → Me S View → ℕ → Me S View → Type 0
  place_told st m stored n = (r : Right) (now : ℕ) → m.0.rights ≡ r ∷ [] → r.stage ≡ Writes now → n ≡ (with_right m.0 (placed_right r now), m.1)

  -- P1 of one that was dropped, which the seat notes: the link lies in the slot that was taken last, with what it took
  abbrev pub drop_told : (S → Home) → Step S → Me S View → ℕ → Me S View → Type 0
  drop_told shows st m stored n = (r : Right) (now : ℕ) (y : ℕ × S) → m.0.rights ≡ r ∷ [] → r.stage ≡ Writes now → m.1 ≡ y ∷ rest m.1 → n ≡ (dropped_at st.word stored r.heading (with_right m.0 (dropped_right r now (took_in (shows y.1)))), m.1)

  -- C5
  abbrev pub read_next_told : Step S → Me S View → ℕ → Me S View → Type 0
  read_next_told st m found n = (r : Right) → m.0.rights ≡ r ∷ [] →
      ((now : ℕ) → r.stage ≡ Placed now → now ≢ r.last → (n ≡ (with_right m.0 (passing_right r now found), m.1)) × IsTicket m.0.plan found)
      × ((top at after : ℕ) → r.stage ≡ Reversing top at after → (found ≡ UNCONNECTED → n ≡ m) × (found ≢ UNCONNECTED → (n ≡ (with_right m.0 (reading_right r top at after found), m.1)) × IsTicket m.0.plan found))

  -- C8, with the home of the request, and where that is of the last generation a load in its place
  abbrev pub free_request_told : Step S → Me S View → ℕ → Me S View → Type 0
  free_request_told st m stored n = (r : Right) → m.0.rights ≡ r ∷ [] → n ≡ (with_right m.0 (freed_right r), rest m.1)

  -- C4
  abbrev pub empty_told : Step S → Me S View → ℕ → Me S View → Type 0
  empty_told st m found n = (r : Right) → m.0.rights ≡ r ∷ [] → (found ≡ st.first → n ≡ (without_right m.0 r.link, m.1)) × (found ≢ st.first → (n ≡ (with_right m.0 (walking_right r found), m.1)) × IsTicket m.0.plan found)

  -- C6
  abbrev pub turn_told : Step S → Me S View → ℕ → Me S View → Type 0
  turn_told st m stored n = (r : Right) (top at after before : ℕ) → m.0.rights ≡ r ∷ [] → r.stage ≡ ReversesNext top at after before → n ≡ (with_right m.0 (turned_right r top at before), m.1)
