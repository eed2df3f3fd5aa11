-- Each step on a link word, a head word or a code word keeps the rule.
use Rattle.slot_steps.proofs.SlotLawClauses.{link_held}
use Rattle.std.proofs.Common.{◌≡◌, ℕ, ◌+◌, ◌-◌, ◌*◌, ◌/◌, ◌%◌, ◌<◌, ◌≤◌, ◌≢◌, List, [], ◌∷◌, get_or, set, sym, refl, ap, ◌∙◌, subst, ⊎_elim, arith, cond, eq-eqb, ne_eqb, length, length-set, get_or-set_same, get_or-set_other, ◌⊎◌}
use mathlib.Core.Logic.{dite}
use mathlib.Core.Option.{some}
use native.Mathlib.Decide.{ℕ_discrete}
use lib.ListN.{get_elem?}
use Rattle.atomic_table.specs.Table.{State, Act, stepped}
use Rattle.atomic_table.proofs.Lists.{at_map}
use Rattle.sock_model.specs.declared.marks.Mark.{Mark}
use Rattle.sock_model.specs.declared.marks.Mark.TheVariants.{Claimed, Coding, Known, Saw, Stored, Told, Met}
use Rattle.sock_model.specs.declared.marks.SlotMark.{SlotMark}
use Rattle.sock_model.specs.declared.view.View.{View}
use Rattle.sock_model.specs.sock_words.specs.declared.plain.Plan.{Plan}
use Rattle.sock_model.specs.MarkWeights.{life, tally, only, is_busy, is_coding, is_stage, is_hold, is_known, is_born, is_recycled, is_recycling, is_linked}
use Rattle.sock_model.specs.Marks.{about, without, without_at, latest, says, noted}
use Rattle.sock_model.specs.SocketTableLayout.{link_index, head_index, code_index, name_index, open_index}
use Rattle.sock_model.specs.SocketSlotLaw.{SlotFacts, live_by, live, count, SlotLaw}
use Rattle.sock_model.specs.References.{OnlyMarks, uses_of, slot_facts, NamedWords, References, Names, Stores, sayers, spare}
use Rattle.sock_model.specs.SlotRows.{linked, staged, coded, told_code, marks_of, met, wrote, met_link}
use Rattle.slot_steps.proofs.SlotWeightSums.{total-set, term_le, taken_as, about-here, about-other, tally_mono}
use Rattle.slot_steps.proofs.RuleNumbers.{life_le, only-same}
use Rattle.slot_steps.proofs.ReferenceStepsKeepSlot.{stage_is, recycled_le}
use Rattle.slot_steps.proofs.OtherSlotsUntouched.{about-without, about-without_else, uses-without, uses-taken, at_link, at_code, at_else, passes-without, slot_step, apart}
use Rattle.slot_steps.proofs.CodeStepsKeepLaw.{keeps_known, coding_as, keeps_stage, keeps_coded, keeps_found_code, keeps_met}
use lib.Seq.{set-get_or}
use Rattle.sock_model.specs.declared.view.StoredWord.{StoredWord}
use Rattle.slot_steps.proofs.KeptByTagSteps.{settled}
use Rattle.sock_model.specs.sock_words.specs.Totals.{total}

pub noted-else : (x z : ℕ) (n : StoredWord) → n.place ≢ x → (ss : List (List StoredWord)) → total (says x z) ss ≤ total (says x z) (noted n ss)
noted-else x z n ne [] = omega arith
noted-else x z n ne (ns ∷ rest) = let q = ne_eqb n.place x ne in let e : latest x (n ∷ ns) ≡ latest x ns = ap (λ b. cond b n.word (latest x ns)) q in omega (arith, ap (only z) e)

pub noted-here : (n : StoredWord) (ss : List (List StoredWord)) → 0 < total (says n.place n.word) (noted n ss)
noted-here n [] = let e : latest n.place (n ∷ []) ≡ n.word = ap (λ b. cond b n.word 0) (eq-eqb n.place n.place refl) in omega (arith, ap (only n.word) e, only-same n.word)
noted-here n (ns ∷ rest) = let e : latest n.place (n ∷ ns) ≡ n.word = ap (λ b. cond b n.word (latest n.place ns)) (eq-eqb n.place n.place refl) in omega (arith, ap (only n.word) e, only-same n.word)

module _ {S : Type 0} (p : Plan) (s : State S View) (law : References p s) (id : ℕ) (v : View) (here : get_elem? s.views id ≡ some v) (c : List (ℕ × S)) (a : Act S) (i : ℕ) (inside : i < p.slots) where
  abbrev L : SlotFacts
  L = slot_facts s i

  abbrev mine : List Mark
  mine = about i v.marks

  at_home : get_elem? L.marks id ≡ some mine
  at_home = at_map (λ (u : View). about i u.marks) s.views id v here

  live_same : (w : List Mark) → total is_busy w ≡ total is_busy mine → live_by L.tag L.version (tally is_busy (set L.marks id w)) ≡ live L
  live_same w e = let d = total-set (total is_busy) L.marks id mine w at_home in ap (live_by L.tag L.version) (omega arith)

  -- the word k of the slot, its link or its code
  on_word : (k n : ℕ) (w : View) (ms : List Mark) (link' code' : ℕ) → k < 6 → ((x : ℕ) → x ≢ i → about x w.marks ≡ about x v.marks) → ((x : ℕ) → uses_of x w ≤ uses_of x v) → OnlyMarks v w
      → about i w.marks ≡ ms → ((h : ℕ) → total (is_born h) mine ≤ total (is_born h) ms) → total is_busy ms ≡ total is_busy mine
      → slot_facts (stepped s (6 * i + k) n id c w a) i ≡ record L { link = link'; code = code'; marks = set L.marks id (about i w.marks) }
      → SlotLaw p.first (live L) record L { link = link'; code = code'; marks = set L.marks id ms } → References p (stepped s (6 * i + k) n id c w a)
  on_word k n w ms link' code' small else_ links still is grows busy at_k ok =
      slot_step p s law id v here c w a i inside else_ links still k n small (λ h. let e = ap (total (is_born h)) is in omega (arith, grows h))
      (settled p s law id v here c a i inside _ (record L { link = link'; code = code'; marks = set L.marks id ms }) (live L)
      (at_k ∙ (λ q. record L { link = link'; code = code'; marks = set L.marks id (is q) })) (live_same ms busy) ok)

  pub link_keeps : (k : ℕ) → 0 < marks_of (is_stage 0 0) i v → 0 < total (only k) v.passes → References p (stepped s (link_index i) k id c (linked i k v) a)
  link_keeps k there pass = let w : View = linked i k v in let sized = law.sized in let ms : List Mark = Claimed 1 k ∷ without (is_stage 0 0) mine in let rest : List SlotMark = without_at i (is_stage 0 0) v.marks in
      let gone : (f : Mark → ℕ) → total f (without (is_stage 0 0) mine) + f (Claimed 0 0) ≡ total f mine = taken_as (is_stage 0 0) (Claimed 0 0) mine (stage_is 0 0) there in
      on_word 2 k w ms k L.code (omega arith) (λ x ne. let q : about x w.marks ≡ about x rest = simp about-other in q ∙ about-without_else x i (is_stage 0 0) v.marks ne)
      (λ x. omega (arith, passes-without k x v.passes pass, uses-without x i (is_stage 0 0) v.marks)) refl
      (let q : about i w.marks ≡ Claimed 1 k ∷ about i rest = simp about-here in q ∙ ap (λ (u : List Mark). Claimed 1 k ∷ u) (about-without i (is_stage 0 0) v.marks))
      (λ h. omega (arith, gone (is_born h))) (omega (arith, gone is_busy)) (at_link s id v here c w a i k (omega arith))
      (keeps_stage p.first L (law.slots i inside) id mine at_home 0 0 1 k k L.code there (λ _. refl) (λ q. absurd (omega arith)))

  pub head_keeps : (k n : ℕ) → 0 < marks_of (is_stage 1 k) i v → References p (stepped s (head_index i) n id c (staged i 1 k 2 v) a)
  head_keeps k n there = let w : View = staged i 1 k 2 v in let ms : List Mark = Claimed 2 k ∷ without (is_stage 1 k) mine in let rest : List SlotMark = without_at i (is_stage 1 k) v.marks in
      let gone : (f : Mark → ℕ) → total f (without (is_stage 1 k) mine) + f (Claimed 1 k) ≡ total f mine = taken_as (is_stage 1 k) (Claimed 1 k) mine (stage_is 1 k) there in
      let own = term_le (total (is_stage 1 k)) L.marks id mine at_home in
      on_word 3 n w ms L.link L.code (omega arith) (λ x ne. let q : about x w.marks ≡ about x rest = simp about-other in q ∙ about-without_else x i (is_stage 1 k) v.marks ne)
      (λ x. omega (arith, uses-taken x i (is_stage 1 k) (Claimed 1 k) v.marks (stage_is 1 k) there)) refl
      (let q : about i w.marks ≡ Claimed 2 k ∷ about i rest = simp about-here in q ∙ ap (λ (u : List Mark). Claimed 2 k ∷ u) (about-without i (is_stage 1 k) v.marks))
      (λ h. omega (arith, gone (is_born h))) (omega (arith, gone is_busy)) (at_else s id v here c w a i (head_index i) n (λ e. omega arith) (λ e. omega arith) (λ e. omega arith) (λ e. omega arith))
      (keeps_stage p.first L (law.slots i inside) id mine at_home 1 k 2 k L.link L.code there (λ _. ((law.slots i inside).staged 1 k (omega arith)).0 (omega arith)) (λ q. absurd (omega arith)))

  pub wipe_keeps : (k : ℕ) → 0 < marks_of (is_stage 2 k) i v → References p (stepped s (code_index i) 0 id c (staged i 2 k 3 v) a)
  wipe_keeps k there = let w : View = staged i 2 k 3 v in let sized = law.sized in let ms : List Mark = Claimed 3 k ∷ without (is_stage 2 k) mine in let rest : List SlotMark = without_at i (is_stage 2 k) v.marks in
      let gone : (f : Mark → ℕ) → total f (without (is_stage 2 k) mine) + f (Claimed 2 k) ≡ total f mine = taken_as (is_stage 2 k) (Claimed 2 k) mine (stage_is 2 k) there in
      let own = term_le (total (is_stage 2 k)) L.marks id mine at_home in
      on_word 4 0 w ms L.link 0 (omega arith) (λ x ne. let q : about x w.marks ≡ about x rest = simp about-other in q ∙ about-without_else x i (is_stage 2 k) v.marks ne)
      (λ x. omega (arith, uses-taken x i (is_stage 2 k) (Claimed 2 k) v.marks (stage_is 2 k) there)) refl
      (let q : about i w.marks ≡ Claimed 3 k ∷ about i rest = simp about-here in q ∙ ap (λ (u : List Mark). Claimed 3 k ∷ u) (about-without i (is_stage 2 k) v.marks))
      (λ h. omega (arith, gone (is_born h))) (omega (arith, gone is_busy)) (at_code s id v here c w a i 0 (omega arith))
      (keeps_stage p.first L (law.slots i inside) id mine at_home 2 k 3 k L.link 0 there (λ _. ((law.slots i inside).staged 2 k (omega arith)).0 (omega arith)) (λ q. refl))

  pub code_keeps : (h d : ℕ) → 0 < marks_of (is_coding h) i v → d ≢ 0 → References p (stepped s (code_index i) d id c (coded i h d v) a)
  code_keeps h d there some_ = let w : View = coded i h d v in let sized = law.sized in let ms : List Mark = Stored h d ∷ Told h d ∷ without (is_coding h) mine in let rest : List SlotMark = without_at i (is_coding h) v.marks in
      let gone : (f : Mark → ℕ) → total f (without (is_coding h) mine) + f (Coding h) ≡ total f mine = taken_as (is_coding h) (Coding h) mine (coding_as h) there in
      on_word 4 d w ms L.link d (omega arith) (λ x ne. let q : about x w.marks ≡ about x rest = simp about-other in q ∙ about-without_else x i (is_coding h) v.marks ne)
      (λ x. omega (arith, uses-without x i (is_coding h) v.marks)) refl
      (let q : about i w.marks ≡ Stored h d ∷ Told h d ∷ about i rest = simp about-here in q ∙ ap (λ (u : List Mark). Stored h d ∷ Told h d ∷ u) (about-without i (is_coding h) v.marks))
      (λ g. omega (arith, gone (is_born g))) (omega (arith, gone is_busy)) (at_code s id v here c w a i d (omega arith))
      (keeps_coded p.first L (law.slots i inside) id mine at_home h d there some_)

  pub found_code_keeps : (h : ℕ) → 0 < marks_of (is_hold h) i v → 0 < L.code → References p (stepped s (code_index i) L.code id c (told_code i h L.code v) a)
  found_code_keeps h there some_ = let w : View = told_code i h L.code v in let sized = law.sized in let ms : List Mark = Told h L.code ∷ Saw (h + 1) ∷ mine in
      on_word 4 L.code w ms L.link L.code (omega arith) (λ x ne. simp about-other) (λ x. omega arith) refl (simp about-here) (λ g. omega arith) (omega arith) (at_code s id v here c w a i L.code (omega arith))
      (keeps_found_code p.first L (law.slots i inside) id mine at_home h there some_)

  -- a load leaves the words, wherever it is
  loaded : (x y : ℕ) (w : View) → References p (stepped s y (get_or s.words y 0) id c w a) → References p (stepped s x (get_or s.words x 0) id c w a)
  loaded x y w ok = let e = set-get_or s.words y 0 ∙ sym (set-get_or s.words x 0) in
      subst (λ (ws : List ℕ). References p (record (stepped s y (get_or s.words y 0) id c w a) { words = ws })) e ok

  -- an id that stands at a name or at an operation
  pub find_keeps : (x h : ℕ) → 0 < count (is_born h) L → References p (stepped s x (get_or s.words x 0) id c (met i h v) a)
  find_keeps x h there = let w : View = met i h v in let y : ℕ = 6 * i + 4 in let ms : List Mark = Known h ∷ mine in let sized = law.sized in
      let was_born : life p.first h (L.version + live L) ≡ 1 = omega (arith, (law.slots i inside).born h, life_le p.first h (L.version + live L)) in
      loaded x y w (on_word 4 L.code w ms L.link L.code (omega arith) (λ z ne. simp about-other) (λ z. omega arith) refl (simp about-here) (λ g. omega arith) (omega arith) (at_code s id v here c w a i L.code (omega arith))
      (keeps_known p.first L (law.slots i inside) id mine at_home h was_born))

  -- the link of a life that the seat holds
  pub meet_keeps : (h : ℕ) → 0 < marks_of (is_hold h) i v → References p (stepped s (link_index i) L.link id c (met_link i h L.link v) a)
  meet_keeps h there = let w : View = met_link i h L.link v in let ms : List Mark = Met h L.link ∷ mine in let sized = law.sized in
      loaded (link_index i) (code_index i) w (on_word 4 L.code w ms L.link L.code (omega arith) (λ z ne. simp about-other) (λ z. omega arith) refl (simp about-here) (λ g. omega arith) (omega arith) (at_code s id v here c w a i L.code (omega arith))
      (keeps_met p.first L (law.slots i inside) id mine at_home h L.link (link_held p.first L (law.slots i inside) id mine at_home h there)))

  -- the link of the life that ended last, while its slot is being recycled
  pub meet_last_keeps : (x : ℕ) → 0 < marks_of (is_recycled x) i v → References p (stepped s (link_index i) L.link id c (met_link i (x - 2) L.link v) a)
  meet_last_keeps x there = let w : View = met_link i (x - 2) L.link v in let ms : List Mark = Met (x - 2) L.link ∷ mine in let sized = law.sized in let l = law.slots i inside in
      let own = term_le (total (is_recycled x)) L.marks id mine at_home in let x_is = l.recycled x (omega arith) in
      let busy : 0 < tally is_recycling L.marks = omega (arith, tally_mono (is_recycled x) is_recycling (recycled_le x) L.marks) in
      let linked : 0 < tally (is_linked (x - 2) L.link) L.marks = subst (λ (y : ℕ). 0 < tally (is_linked (y - 2) L.link) L.marks) (sym x_is) (l.link_last busy) in
      loaded (link_index i) (code_index i) w (on_word 4 L.code w ms L.link L.code (omega arith) (λ z ne. simp about-other) (λ z. omega arith) refl (simp about-here) (λ g. omega arith) (omega arith) (at_code s id v here c w a i L.code (omega arith))
      (keeps_met p.first L l id mine at_home (x - 2) L.link linked))

  -- a word is stored under a name or at an operation: the slots stay
  module _ (x val : ℕ) where
    abbrev W : View
    W = wrote x val v

    abbrev T : State S View
    T = stepped s x val id c W a

    named_on : ((z : ℕ) → z < p.slots → slot_facts T z ≡ slot_facts s z) → (word : ℕ) → Names p s word → Names p T word
    named_on frame word o ne = let r = o ne in (r.0, subst (λ (l : SlotFacts). 0 < count (is_born ((word - 1) / 4294967296)) l) (sym (frame ((word - 1) % 4294967296) r.0)) r.1)

    -- the id of a life that the seat knows names it
    knows : ((z : ℕ) → z < p.slots → slot_facts T z ≡ slot_facts s z) → (val - 1) % 4294967296 ≡ i → 0 < marks_of (is_known ((val - 1) / 4294967296)) i v → Names p T val
    knows frame at_i known ne = let h : ℕ = (val - 1) / 4294967296 in
        let born : 0 < count (is_born h) L = omega (arith, (law.slots i inside).born h, (law.slots i inside).known h (omega (arith, known, term_le (total (is_known h)) L.marks id mine at_home))) in
        (omega arith, subst (λ (z : ℕ). 0 < count (is_born h) (slot_facts T z)) (sym at_i) (subst (λ (l : SlotFacts). 0 < count (is_born h) l) (sym (frame i inside)) born))

    said : (y : ℕ) → x ≢ y → get_or T.words y 0 ≡ get_or s.words y 0 → Stores s y → Stores T y
    said y ne e o = subst (λ (z : ℕ). z ≢ 0 → 0 < total (sayers y z) T.views) (sym e)
        (λ nz. let z : ℕ = get_or s.words y 0 in omega (arith, o nz, total-set (sayers y z) s.views id v W here, noted-else y z record { place = x; word = val } ne v.stores))

    says_this : x < length s.words → Stores T x
    says_this there = subst (λ (z : ℕ). z ≢ 0 → 0 < total (sayers x z) T.views) (sym (get_or-set_same s.words x val 0 there))
        (λ nz. omega (arith, total-set (sayers x val) s.views id v W here, term_le (sayers x val) s.views id v here, noted-here record { place = x; word = val } v.stores))

    stores_word : ((z : ℕ) → z < p.slots → slot_facts T z ≡ slot_facts s z) → NamedWords p T → References p T
    stores_word frame named = record {
      sized = length-set s.words x val ∙ law.sized;
      seat_limit = omega (arith, law.seat_limit, length-set s.views id W, total-set spare s.views id v W here);
      slots = λ z l. subst (λ (y : SlotFacts). SlotLaw p.first (live y) y) (sym (frame z l)) (law.slots z l);
      links = λ k. omega (arith, total-set (uses_of k) s.views id v W here, law.links k);
      named = named;
    }

  -- the id of a life that the seat knows is stored under a name
  pub store_name_keeps : (n val : ℕ) → n < p.names → (val - 1) % 4294967296 ≡ i → 0 < marks_of (is_known ((val - 1) / 4294967296)) i v → References p (stepped s (name_index p n) val id c (wrote (name_index p n) val v) a)
  store_name_keeps n val inside_n at_i known = let x : ℕ = name_index p n in let t : State S View = T x val in let sized = law.sized in
      let frame : (z : ℕ) → z < p.slots → slot_facts t z ≡ slot_facts s z = λ z l. apart s id v here c (W x val) a x val z (λ e. omega arith) (λ e. omega arith) (λ e. omega arith) (λ e. omega arith) refl in
      stores_word x val frame record {
        names = λ z l. dite (ℕ_discrete z n)
            (λ e. let at : get_or (set s.words x val) (name_index p z) 0 ≡ val = ap (λ (y : ℕ). get_or (set s.words x val) (name_index p y) 0) e ∙ get_or-set_same s.words x val 0 (omega arith) in subst (Names p t) (sym at) (knows x val frame at_i known))
            (λ ne. let at = get_or-set_other s.words x (name_index p z) val 0 (λ e. ne (omega arith)) in subst (Names p t) (sym at) (named_on x val frame (get_or s.words (name_index p z) 0) (law.named.names z l)));
        opens = λ z l. let at = get_or-set_other s.words x (open_index p z) val 0 (λ e. omega arith) in
            subst (λ (y : ℕ). y ≢ 18446744073709551615 → Names p t y) (sym at) (λ ne. named_on x val frame (get_or s.words (open_index p z) 0) (law.named.opens z l ne));
        names_by = λ z l. dite (ℕ_discrete z n) (λ e. subst (λ (y : ℕ). Stores t (name_index p y)) (sym e) (says_this x val (omega arith)))
            (λ ne. said x val (name_index p z) (λ e. ne (omega arith)) (get_or-set_other s.words x (name_index p z) val 0 (λ e. ne (omega arith))) (law.named.names_by z l));
        opens_by = λ z l. said x val (open_index p z) (λ e. omega arith) (get_or-set_other s.words x (open_index p z) val 0 (λ e. omega arith)) (law.named.opens_by z l);
      }

  -- the same at an operation, where the word may also say that it got no slot
  pub store_open_keeps : (n val : ℕ) → n < p.operations → (val ≡ 18446744073709551615) ⊎ (((val - 1) % 4294967296 ≡ i) × (0 < marks_of (is_known ((val - 1) / 4294967296)) i v))
      → References p (stepped s (open_index p n) val id c (wrote (open_index p n) val v) a)
  store_open_keeps n val inside_n how = let x : ℕ = open_index p n in let t : State S View = T x val in let sized = law.sized in
      let frame : (z : ℕ) → z < p.slots → slot_facts t z ≡ slot_facts s z = λ z l. apart s id v here c (W x val) a x val z (λ e. omega arith) (λ e. omega arith) (λ e. omega arith) (λ e. omega arith) refl in
      let this : val ≢ 18446744073709551615 → Names p t val = λ ne. ⊎_elim (λ e. absurd (ne e)) (λ y. knows x val frame y.0 y.1) how in
      stores_word x val frame record {
        names = λ z l. let at = get_or-set_other s.words x (name_index p z) val 0 (λ e. omega arith) in subst (Names p t) (sym at) (named_on x val frame (get_or s.words (name_index p z) 0) (law.named.names z l));
        opens = λ z l. dite (ℕ_discrete z n)
            (λ e. let at : get_or (set s.words x val) (open_index p z) 0 ≡ val = ap (λ (y : ℕ). get_or (set s.words x val) (open_index p y) 0) e ∙ get_or-set_same s.words x val 0 (omega arith) in
            subst (λ (y : ℕ). y ≢ 18446744073709551615 → Names p t y) (sym at) this)
            (λ ne. let at = get_or-set_other s.words x (open_index p z) val 0 (λ e. ne (omega arith)) in
            subst (λ (y : ℕ). y ≢ 18446744073709551615 → Names p t y) (sym at) (λ nf. named_on x val frame (get_or s.words (open_index p z) 0) (law.named.opens z l nf)));
        names_by = λ z l. said x val (name_index p z) (λ e. omega arith) (get_or-set_other s.words x (name_index p z) val 0 (λ e. omega arith)) (law.named.names_by z l);
        opens_by = λ z l. dite (ℕ_discrete z n) (λ e. subst (λ (y : ℕ). Stores t (open_index p y)) (sym e) (says_this x val (omega arith)))
            (λ ne. said x val (open_index p z) (λ e. ne (omega arith)) (get_or-set_other s.words x (open_index p z) val 0 (λ e. ne (omega arith))) (law.named.opens_by z l));
      }
