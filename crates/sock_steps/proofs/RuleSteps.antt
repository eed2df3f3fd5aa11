-- Each step on slots, on names and on links in hand keeps the whole rule, since it keeps what is lawful and leaves what the views keep beside it.
use Rattle.std.proofs.Common.{◌≡◌, ◌≢◌, ℕ, ◌+◌, ◌-◌, ◌*◌, ◌/◌, ◌%◌, ◌^◌, ◌<◌, ◌≤◌, ◌⊎◌, Bool, true, List, [], get_or, set, get_or-set_same, bit_or, refl, sym, ap, ◌∙◌, subst, arith}
use mathlib.Core.Option.{Option, some}
use lib.ListN.{get_elem?}
use lib.Seq.{set-get_or}
use Rattle.atomic_table.specs.Table.{State, stepped, keeps}
use Rattle.sock_model.specs.sock_words.specs.declared.plain.Plan.{Plan}
use Rattle.sock_model.specs.declared.home.Home.{Home}
use Rattle.sock_model.specs.declared.view.View.{View}
use Rattle.sock_model.specs.declared.view.Hand.{Hand}
use Rattle.sock_model.specs.MarkWeights.{only, is_ref, is_any_coding, is_stage, is_recycled, is_hold, is_known, is_zero, is_coding, is_born}
use Rattle.sock_model.specs.SocketTableLayout.{tag_index, ref_index, link_index, head_index, code_index, name_index, open_index}
use Rattle.sock_model.specs.SocketSlotLaw.{count}
use Rattle.sock_model.specs.References.{slot_facts}
use Rattle.sock_model.specs.SlotRows.{marks_of, claimed, gave_birth, added, back, subbed, failed, recycled, freed, looked, linked, staged, coded, told_code, met, wrote, met_link}
use Rattle.sock_model.specs.ChainRows.{with_hand, without_hand, spent_hand}
use Rattle.sock_model.specs.LawfulSockets.{Lawful}
use Rattle.sock_model.specs.Rule.{Lasting, of_name, of_open, noting, Rule}
use Rattle.sock_steps.proofs.SlotSteps.{KeepsRights, claim_law, add_law, sub_law, set_odd_law, recycle_lost_law, look_law, free_law, link_law, meet_law, meet_last_law, wipe_law, code_law, found_code_law, find_law, store_name_law, store_open_law}
use Rattle.sock_steps.proofs.Birth.{reset_law, birth_law}
use Rattle.sock_steps.proofs.EndOfSlotLife.{recycle_law}
use Rattle.sock_steps.proofs.RuleFrame.{lasting_in, Lasts, lasts_all, SameNotes, same_rule, word_rule, still_rule}
use Rattle.sock_steps.proofs.NotingLastingWords.{step_notes}
use Rattle.sock_model.specs.sock_words.specs.PackedWords.{vref_version, vref_nref, IDLE}
use Rattle.sock_model.specs.sock_words.specs.Totals.{total}

module _ {S : Type 0} {shows : S → Home} {p : Plan} {s : State S View} (r : Rule shows p s) (id : ℕ) (v : View) (here : get_elem? s.views id ≡ some v) (mine : v.plan ≡ p) where
  abbrev o : Lawful shows p s
  o = r.lawful

  -- a step on a word of a slot
  pub slot_rule : (x n : ℕ) → x < 6 * p.slots → (w : View) → SameNotes v w → Lawful shows p (stepped s x n id [] w keeps) → Rule shows p (stepped s x n id [] w keeps)
  slot_rule x n low w same = word_rule r id v here mine w x n s.homes same (λ l. let a = (lasting_in p x l).0 in absurd (omega arith))

  -- a step that writes a word back as it found it, whatever word it is
  pub load_rule : (x n : ℕ) → n ≡ get_or s.words x 0 → (w : View) → SameNotes v w → Lawful shows p (stepped s x n id [] w keeps) → Rule shows p (stepped s x n id [] w keeps)
  load_rule x n is w same = same_rule r id v here mine w (set s.words x n) s.homes same (subst (λ ws. Lasts p s.words ws) (sym (ap (set s.words x) is ∙ set-get_or s.words x 0)) (lasts_all p s.words))

  module _ (i : ℕ) (inside : i < p.slots) where
    abbrev found : ℕ
    found = get_or s.words (ref_index i) 0

    -- A1
    pub claim_rule : Rule shows p (stepped s (tag_index i) 1 id [] (claimed i (get_or s.words (tag_index i) 0) v) keeps)
    claim_rule = slot_rule (tag_index i) 1 (omega arith) (claimed i (get_or s.words (tag_index i) 0) v) record { plan = refl; found = refl; lists = refl } (claim_law shows p s o id v here i inside)

    module _ (fits : found < 18446744073709551616) where
      -- A2
      pub birth_rule : (k : ℕ) → 0 < marks_of (is_stage 3 k) i v → Rule shows p (stepped s (ref_index i) ((found + 1) % 2 ^ 64) id [] (gave_birth i found k v) keeps)
      birth_rule k there = slot_rule (ref_index i) ((found + 1) % 2 ^ 64) (omega arith) (gave_birth i found k v) record { plan = refl; found = refl; lists = refl } (birth_law shows p s o id v here i inside fits k there)

      -- A3
      pub add_rule : (is_life : Bool) → (is_life ≡ true → 0 < marks_of (is_known (vref_version found)) i v) → marks_of is_ref i v < 65540 → Rule shows p (stepped s (ref_index i) ((found + 1) % 2 ^ 64) id [] (added i found is_life v) keeps)
      add_rule is_life known room = slot_rule (ref_index i) ((found + 1) % 2 ^ 64) (omega arith) (added i found is_life v) record { plan = refl; found = refl; lists = refl } (add_law shows p s o id v here i inside fits is_life known room)

      -- A4
      pub sub_rule : 0 < marks_of is_ref i v → marks_of is_any_coding i v ≡ 0 → KeepsRights i v → Rule shows p (stepped s (ref_index i) ((found + (2 ^ 64 - 1)) % 2 ^ 64) id [] (subbed i found (back i found v) v) keeps)
      sub_rule there idle rights = slot_rule (ref_index i) ((found + (2 ^ 64 - 1)) % 2 ^ 64) (omega arith) (subbed i found (back i found v) v) record { plan = refl; found = refl; lists = refl } (sub_law shows p s o id v here i inside fits there idle rights)

      -- A5
      pub set_odd_rule : (h : ℕ) → 0 < marks_of (is_hold h) i v → marks_of is_ref i v < 65540 → Rule shows p (stepped s (ref_index i) (bit_or found 4294967296) id [] (failed i found v) keeps)
      set_odd_rule h there room = slot_rule (ref_index i) (bit_or found 4294967296) (omega arith) (failed i found v) record { plan = refl; found = refl; lists = refl } (set_odd_law shows p s o id v here i inside fits h there room)

      -- A6, lost and won
      pub recycle_lost_rule : (from : ℕ) → found ≢ from → vref_nref from ≡ 0 → 0 < marks_of (is_zero (vref_version from)) i v → Rule shows p (stepped s (ref_index i) found id [] (recycled i from found v) keeps)
      recycle_lost_rule from miss last there = slot_rule (ref_index i) found (omega arith) (recycled i from found v) record { plan = refl; found = refl; lists = refl } (recycle_lost_law shows p s o id v here i inside fits from miss last there)

      pub recycle_rule : (from : ℕ) → found ≡ from → vref_version from % 2 ≡ 1 → vref_nref from ≡ 0 → 0 < marks_of (is_zero (vref_version from)) i v → Rule shows p (stepped s (ref_index i) ((vref_version from + 1) * 4294967296) id [] (recycled i from found v) keeps)
      recycle_rule from hit odd last there = slot_rule (ref_index i) ((vref_version from + 1) * 4294967296) (omega arith) (recycled i from found v) record { plan = refl; found = refl; lists = refl } (recycle_law shows p s o id v here i inside fits from hit odd last there)

      -- A8, without a right
      pub look_rule : Rule shows p (stepped s (ref_index i) found id [] (looked i found v) keeps)
      look_rule = slot_rule (ref_index i) found (omega arith) (looked i found v) record { plan = refl; found = refl; lists = refl } (look_law shows p s o id v here i inside fits)

    -- A7
    pub free_rule : (x : ℕ) → 0 < marks_of (is_recycled x) i v → x ≤ 4294967292 → v.hands ≡ [] → Rule shows p (stepped s (tag_index i) 0 id [] (freed i v) keeps)
    free_rule x there last empty = slot_rule (tag_index i) 0 (omega arith) (freed i v) record { plan = refl; found = refl; lists = refl } (free_law shows p s o id v here i inside x there last empty)

    -- S1
    pub link_rule : (k : ℕ) → 0 < marks_of (is_stage 0 0) i v → 0 < total (only k) v.passes → Rule shows p (stepped s (link_index i) k id [] (linked i k v) keeps)
    link_rule k there pass = slot_rule (link_index i) k (omega arith) (linked i k v) record { plan = refl; found = refl; lists = refl } (link_law shows p s o id v here i inside k there pass)

    -- S2, of a life that it holds, and of whoever recycled the slot
    pub meet_rule : (h : ℕ) → 0 < marks_of (is_hold h) i v → Rule shows p (stepped s (link_index i) (slot_facts s i).link id [] (met_link i h (slot_facts s i).link v) keeps)
    meet_rule h there = slot_rule (link_index i) (slot_facts s i).link (omega arith) (met_link i h (slot_facts s i).link v) record { plan = refl; found = refl; lists = refl } (meet_law shows p s o id v here i inside h there)

    pub meet_last_rule : (x : ℕ) → 0 < marks_of (is_recycled x) i v → Rule shows p (stepped s (link_index i) (slot_facts s i).link id [] (met_link i (x - 2) (slot_facts s i).link v) keeps)
    meet_last_rule x there = slot_rule (link_index i) (slot_facts s i).link (omega arith) (met_link i (x - 2) (slot_facts s i).link v) record { plan = refl; found = refl; lists = refl } (meet_last_law shows p s o id v here i inside x there)

    -- S3
    pub reset_rule : (k : ℕ) → 0 < marks_of (is_stage 1 k) i v → Rule shows p (stepped s (head_index i) IDLE id [] (staged i 1 k 2 v) keeps)
    reset_rule k there = slot_rule (head_index i) IDLE (omega arith) (staged i 1 k 2 v) record { plan = refl; found = refl; lists = refl } (reset_law shows p s o id v here i inside k there)

    -- S4 of 0, and of a code
    pub wipe_rule : (k : ℕ) → 0 < marks_of (is_stage 2 k) i v → Rule shows p (stepped s (code_index i) 0 id [] (staged i 2 k 3 v) keeps)
    wipe_rule k there = slot_rule (code_index i) 0 (omega arith) (staged i 2 k 3 v) record { plan = refl; found = refl; lists = refl } (wipe_law shows p s o id v here i inside k there)

    pub code_rule : (h d : ℕ) → 0 < marks_of (is_coding h) i v → d ≢ 0 → Rule shows p (stepped s (code_index i) d id [] (coded i h d v) keeps)
    code_rule h d there some_ = slot_rule (code_index i) d (omega arith) (coded i h d v) record { plan = refl; found = refl; lists = refl } (code_law shows p s o id v here i inside h d there some_)

    -- S5 of a code
    pub found_code_rule : (h : ℕ) → 0 < marks_of (is_hold h) i v → 0 < (slot_facts s i).code → Rule shows p (stepped s (code_index i) (slot_facts s i).code id [] (told_code i h (slot_facts s i).code v) keeps)
    found_code_rule h there some_ = slot_rule (code_index i) (slot_facts s i).code (omega arith) (told_code i h (slot_facts s i).code v) record { plan = refl; found = refl; lists = refl } (found_code_law shows p s o id v here i inside h there some_)

    -- S7 of a name or an `open`, and S6 into them; whoever does so may note the place, since what it found or left there isn't 0
    module _ (x : ℕ) (last : Lasting p x) where
      pub find_rule : (h : ℕ) → x < 6 * p.slots + p.names + p.operations → 0 < count (is_born h) (slot_facts s i) → Rule shows p (stepped s x (get_or s.words x 0) id [] (met i h v) keeps)
      find_rule h low there = let a = lasting_in p x last in let a₀ = a.0 in load_rule x (get_or s.words x 0) refl (met i h v) record { plan = refl; found = refl; lists = refl } (find_law shows p s o id v here i inside x h low (λ j jl e. omega arith) there)

      pub find_note_rule : (h : ℕ) → x < 6 * p.slots + p.names + p.operations → 0 < count (is_born h) (slot_facts s i) → get_or s.words x 0 ≢ 0 → Rule shows p (stepped s x (get_or s.words x 0) id [] (noting x (met i h v)) keeps)
      find_note_rule h low there some_ = step_notes s.views id v (met i h v) (set s.words x (get_or s.words x 0)) s.homes here mine x last (λ z. some_ (sym (ap (λ ws. get_or ws x 0) (set-get_or s.words x 0)) ∙ z)) (find_rule h low there)

  -- S6 into a name: a word that isn't 0
  module _ (n : ℕ) (named : n < p.names) (word : ℕ) (some_ : word ≢ 0) (inside : (word - 1) % 4294967296 < p.slots) (known : 0 < marks_of (is_known ((word - 1) / 4294967296)) ((word - 1) % 4294967296) v) where
    pub store_name_rule : Rule shows p (stepped s (name_index p n) word id [] (wrote (name_index p n) word v) keeps)
    store_name_rule = word_rule r id v here mine (wrote (name_index p n) word v) (name_index p n) word s.homes record { plan = refl; found = refl; lists = refl } (λ l. some_)
        (store_name_law shows p s o id v here ((word - 1) % 4294967296) inside n word named refl known)

    pub store_name_note_rule : Rule shows p (stepped s (name_index p n) word id [] (noting (name_index p n) (wrote (name_index p n) word v)) keeps)
    store_name_note_rule = let sized = o.references.sized in step_notes s.views id v (wrote (name_index p n) word v) (set s.words (name_index p n) word) s.homes here mine (name_index p n) (of_name n named refl)
        (λ z. some_ (sym (get_or-set_same s.words (name_index p n) word 0 (omega arith)) ∙ z)) store_name_rule

  -- S6 into the word of an `open`: an id, or that it got no slot
  module _ (n : ℕ) (of_one : n < p.operations) (word i : ℕ) (some_ : word ≢ 0) (inside : i < p.slots)
      (how : (word ≡ 18446744073709551615) ⊎ (((word - 1) % 4294967296 ≡ i) × (0 < marks_of (is_known ((word - 1) / 4294967296)) i v))) where
    pub store_open_rule : Rule shows p (stepped s (open_index p n) word id [] (wrote (open_index p n) word v) keeps)
    store_open_rule = word_rule r id v here mine (wrote (open_index p n) word v) (open_index p n) word s.homes record { plan = refl; found = refl; lists = refl } (λ l. some_) (store_open_law shows p s o id v here i inside n word of_one how)

    pub store_open_note_rule : Rule shows p (stepped s (open_index p n) word id [] (noting (open_index p n) (wrote (open_index p n) word v)) keeps)
    store_open_note_rule = let sized = o.references.sized in step_notes s.views id v (wrote (open_index p n) word v) (set s.words (open_index p n) word) s.homes here mine (open_index p n) (of_open n of_one refl)
        (λ z. some_ (sym (get_or-set_same s.words (open_index p n) word 0 (omega arith)) ∙ z)) store_open_rule

  -- L1 and L2 of a link that nobody writes: the rows of HandSteps
  pub take_rule : (h : Hand) (hs : List (Option S)) → Lawful shows p record { words = s.words; homes = hs; views = set s.views id (with_hand v h) } → Rule shows p record { words = s.words; homes = hs; views = set s.views id (with_hand v h) }
  take_rule h hs = still_rule r id v here mine (with_hand v h) hs record { plan = refl; found = refl; lists = refl }

  pub spend_rule : (h : Hand) (hs : List (Option S)) → Lawful shows p record { words = s.words; homes = hs; views = set s.views id (spent_hand v h) } → Rule shows p record { words = s.words; homes = hs; views = set s.views id (spent_hand v h) }
  spend_rule h hs = still_rule r id v here mine (spent_hand v h) hs record { plan = refl; found = refl; lists = refl }

  pub put_rule : (k : ℕ) (hs : List (Option S)) → Lawful shows p record { words = s.words; homes = hs; views = set s.views id (without_hand v k) } → Rule shows p record { words = s.words; homes = hs; views = set s.views id (without_hand v k) }
  put_rule k hs = still_rule r id v here mine (without_hand v k) hs record { plan = refl; found = refl; lists = refl }
