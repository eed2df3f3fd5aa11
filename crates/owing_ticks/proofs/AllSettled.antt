-- Where each seat is at rest or waits and the run is ending, each range has ended, and nobody waits but for the word of an `open`.
use Rattle.std.proofs.Common.{◌≡◌, ◌≢◌, ℕ, ◌<◌, ◌≤◌, ◌⊎◌, inl, inr, ⊎_elim, ◌==◌, not, true, false, eqb-true, eq-eqb, List, [], Option, Some, length, get_or, sym, ap, ◌∙◌, subst, arith}
use Rattle.std.proofs.lemmas.Bool.{true≢false}
use Rattle.std.specs.Prelude.{None}
use mathlib.Core.Option.{some, some-injective}
use lib.ListN.{get_elem?}
use Rattle.sock_words.specs.declared.plain.Plan.{Plan}
use Rattle.sock_model.specs.SocketTableLayout.{open_index}
use Rattle.corr_core.specs.IdSlotWord.{Parts}
use Rattle.corr_core.specs.IdSlotLaw.{Stands, vacant, retired, claimed, opened, locked, leaving}
use Rattle.corr_core.specs.declared.marks.Plan.{Plan as IdPlan}
use Rattle.corr_core.proofs.NoteSums.{at_length}
use Rattle.seat_programs.specs.id_rule.specs.LawfulIdTable.{local}
use Rattle.seat_programs.specs.Asides.{Nothing, Bytes, NoMore, AtEnd, Closed, Broken}
use Rattle.seat_programs.specs.LoopHeads.{Head, Exit, Sought, First, Version, Locks, Joins, Opens, Reads, Discards}
use Rattle.seat_programs.specs.Programs.{Program, Rest, Round}
use Rattle.seat_programs.specs.PostPrograms.{is_first, is_sought}
use Rattle.seat_programs.specs.Cores.{Core, SeatState}
use Rattle.seat_programs.specs.Ticks.{Answer, OfTake, waits_in, is_nothing}
use Rattle.call_owing.specs.Below.id_runs.specs.HeldIdTokens.{IdView, id_state}
use Rattle.call_owing.specs.Below.id_runs.specs.Goes.{IdGoesOn, SoundIds}
use Rattle.call_owing.specs.Owing.{Free, Owing, InList, DutyTo, Among}
use Rattle.call_owing.specs.Owes.{OwesOn}
use Rattle.call_owing.specs.SoundOwing.{id_word_of, Owed, by_seat, by_retry, by_reader, Failed, SoundOwing, AllRest, retry_tokens}
use Rattle.call_owing.specs.SettledSeats.{IsAtRest, WaitsAside, WaitsForOpen, OpensKnown}
use Rattle.call_owing.proofs.EndOfRanges.{none_held}
use Rattle.call_owing.specs.Below.id_runs.proofs.IdLoopRounds.{and_left, and_right}
use Rattle.call_owing.specs.Below.programs_allowed.specs.program_steps.proofs.TickCases.{elem_there}
use Rattle.sock_words.specs.PackedWords.{call_id, id_slot, id_first}

not_zero : (n : ℕ) → not (n == 0) ≡ true → n ≢ 0
not_zero n e z = true≢false (sym e ∙ ap not (eq-eqb n 0 z))

not_one : (n : ℕ) → not (n == 1) ≡ true → n ≢ 1
not_one n e z = true≢false (sym e ∙ ap not (eq-eqb n 1 z))

-- a range that is sought is there
first_there : (first : ℕ) (w : Parts) → is_first first w ≡ true → w.state ≢ 0
first_there first w e = not_zero w.state (and_right (w.first == first) (not (w.state == 0)) e)

sought_there : (sought : Sought) (w : Parts) → is_sought sought w ≡ true → w.state ≢ 0
sought_there (First first) w e = first_there first w e
sought_there (Version v) w e = not_zero w.state (and_left (not (w.state == 0)) _ e)

-- at the ending nobody waits for more bytes
never_nothing : (answer : Answer) → is_nothing true answer ≡ true → ⊥
never_nothing (OfTake Nothing) e = true≢false (sym e)
never_nothing (OfTake (Bytes bytes)) e = true≢false (sym e)
never_nothing (OfTake NoMore) e = true≢false (sym e)
never_nothing (OfTake AtEnd) e = true≢false (sym e)
never_nothing (OfTake Closed) e = true≢false (sym e)
never_nothing (OfTake Broken) e = true≢false (sym e)
never_nothing _ e = true≢false (sym e)

-- where each seat is at rest or waits aside, also before the ending
module _ (p : Plan) (q : IdPlan) (c : Core) (vs : List IdView) (known : SoundIds p q c vs) (still : (i : ℕ) → i < length c.seats → IsAtRest c i ⊎ WaitsAside p c i) where
  -- who waits at the head of a loop has no token
  pub waits_free : (v : IdView) (head : Head) (next : Exit head → Program) (answer : Answer) → IdGoesOn p q v (Round head next) → waits_in p c.words c.calls answer head ≡ true → v.tokens ≡ []
  waits_free v (Locks i sought w) next answer g is = g.0.0
  waits_free v (Joins id) next answer g is = g.0.0
  waits_free v (Opens o) next answer g is = g.0
  waits_free v (Reads r) next answer g is = g.0.0
  waits_free v (Discards k total) next answer g is = g.0
  waits_free v _ next answer g is = absurd (true≢false (sym is))

  pub all_free : (j : ℕ) (v : IdView) → get_elem? vs j ≡ some v → v.tokens ≡ []
  all_free j v at = let s = elem_there vs c.seats j v (sym known.each) at in let g = known.seats j s.0 v s.1 at in ⊎_elim
      (λ rest. subst (IdGoesOn p q v) (rest s.0 s.1) g)
      (λ w. waits_free v w.2 w.3 w.4 (subst (IdGoesOn p q v) (ap (λ (x : SeatState). x.program) (some-injective s.0 w.0 (sym s.1 ∙ w.1)) ∙ w.5) g) w.6)
      (still j (at_length c.seats j s.0 s.1))

  -- so no id is locked
  pub not_locked : (i : ℕ) → i < q.slots → ((id_word_of c i).state ≡ 0) ⊎ ((id_word_of c i).state ≡ 1)
  not_locked i inside = by_stands (known.rule.slots i inside).stands
    where
      by_stands : Stands ((known.rule.slots i inside).b) (local (id_state c.calls vs) i) → ((id_word_of c i).state ≡ 0) ⊎ ((id_word_of c i).state ≡ 1)
      by_stands (vacant t g s x h) = inl s
      by_stands (retired t g s x h) = inl s
      by_stands (claimed seen h t g s x y z) = inl s
      by_stands (opened d t s l x y h) = inr s
      by_stands (locked d x y h t s l z w v) = let e = sym (none_held i vs all_free) ∙ t in absurd cc
      by_stands (leaving t g s x h) = inl s

module _ (p : Plan) (q : IdPlan) (life : ℕ → Option ℕ) (calls : List ℕ) (c : Core) (us : List Owing) (vs : List IdView) (sound : SoundOwing q life calls c us) (known : SoundIds p q c vs) (ending : c.calls.ending ≡ true)
    (still : (i : ℕ) → i < length c.seats → IsAtRest c i ⊎ WaitsAside p c i) where
  -- who waits does so for the end of a range, or for the word of an `open`
  data Waits (i : ℕ) : Type 0 where
    joins : (seat : SeatState) (id : ℕ) (next : ℕ → Program) → get_elem? c.seats i ≡ some seat → seat.program ≡ Round (Joins id) next → is_first (id_first id) (id_word_of c (id_slot id)) ≡ true → Waits i
    opens : (seat : SeatState) (o : ℕ) (next : ℕ → Program) → get_elem? c.seats i ≡ some seat → seat.program ≡ Round (Opens o) next → get_or c.words (open_index p o) 0 ≡ 0 → Waits i

  by_head : (i : ℕ) (seat : SeatState) (head : Head) (next : Exit head → Program) (answer : Answer) (v : IdView) → get_elem? c.seats i ≡ some seat → seat.program ≡ Round head next → IdGoesOn p q v (Round head next) → waits_in p c.words c.calls answer head ≡ true → Waits i
  by_head i seat (Joins id) next answer v at e g is = joins seat id next at e is
  by_head i seat (Opens o) next answer v at e g is = opens seat o next at e (eqb-true (get_or c.words (open_index p o) 0) 0 is)
  by_head i seat (Locks s sought None) next answer v at e g is = let w : Parts = id_word_of c s in let there = sought_there sought (id_word_of c s) (and_left (is_sought sought (id_word_of c s)) (not ((id_word_of c s).state == 1)) is) in
      let taken = not_one (id_word_of c s).state (and_right (is_sought sought (id_word_of c s)) (not ((id_word_of c s).state == 1)) is) in absurd (⊎_elim there taken (not_locked p q c vs known still s g.0.1))
  by_head i seat (Reads r) next answer v at e g is = absurd (never_nothing answer (sym (ap (λ b. is_nothing b answer) ending) ∙ is))
  by_head i seat (Discards k total) next answer v at e g is = absurd (never_nothing answer (sym (ap (λ b. is_nothing b answer) ending) ∙ is))
  by_head i seat _ next answer v at e g is = absurd (true≢false (sym is))

  who_waits : (i : ℕ) → i < length c.seats → IsAtRest c i ⊎ Waits i
  who_waits i inside = ⊎_elim (λ rest. inl rest)
      (λ w. let v = elem_there c.seats vs i w.0 known.each w.1 in inr (by_head i w.0 w.2 w.3 w.4 v.0 w.1 w.5 (subst (IdGoesOn p q v.0) w.5 (known.seats i w.0 v.0 w.1 v.1)) w.6)) (still i inside)

  module _ (opens_known : OpensKnown p life c us) where
    -- nobody owes anything
    idle : (j : ℕ) (u : Owing) → get_elem? us j ≡ some u → (u.duty ≡ Free) × (u.keeps ≡ false)
    idle j u at = let s = elem_there us c.seats j u (sym sound.each) at in let g = sound.seats j s.0 u s.1 at in ⊎_elim
        (λ rest. let r = subst (OwesOn life u) (rest s.0 s.1) g in (r.0, r.2)) (λ w. by_wait s.0 s.1 g w) (who_waits j (at_length c.seats j s.0 s.1))
      where
        by_wait : (seat : SeatState) → get_elem? c.seats j ≡ some seat → OwesOn life u seat.program → Waits j → (u.duty ≡ Free) × (u.keeps ≡ false)
        by_wait seat here g (joins s id next there e is) = (subst (OwesOn life u) (ap (λ (x : SeatState). x.program) (some-injective seat s (sym here ∙ there)) ∙ e) g).0.0
        by_wait seat here g (opens s o next there e is) = (subst (OwesOn life u) (ap (λ (x : SeatState). x.program) (some-injective seat s (sym here ∙ there)) ∙ e) g).0.1

    nobody : (id n : ℕ) → Owed q life c us id n → ⊥
    nobody id n (by_seat j u at o) = subst (DutyTo id n) (idle j u at).0 o
    nobody id n (by_retry j u at w) = subst (λ x. Among id n (retry_tokens x)) (sound.law.kept j u at (idle j u at).1) w
    nobody id n (by_reader o k s j u inside lives is at link left) = let s' = elem_there us c.seats j u (sym sound.each) at in let g = sound.seats j s'.0 u s'.1 at in ⊎_elim
        (λ rest. let r : OwesOn life u Rest = subst (OwesOn life u) (rest s'.0 s'.1) g in subst (InList o) r.1 left) (λ w. by_wait s'.0 s'.1 g w) (who_waits j (at_length c.seats j s'.0 s'.1))
      where
        by_wait : (seat : SeatState) → get_elem? c.seats j ≡ some seat → OwesOn life u seat.program → Waits j → ⊥
        by_wait seat here g (joins t id' next there e is) = let r : OwesOn life u (Round (Joins id') next) = subst (OwesOn life u) (ap (λ (x : SeatState). x.program) (some-injective seat t (sym here ∙ there)) ∙ e) g in subst (InList o) r.0.1 left
        by_wait seat here g (opens t o' next there e is) = opens_known j u k s t o' next at there link lives e is

    slot_of_call : (i f : ℕ) → f ≤ 67108856 → id_slot (call_id i f) ≡ i
    slot_of_call i f low = omega (arith, low)

    first_of_call : (i f : ℕ) → f ≤ 67108856 → id_first (call_id i f) ≡ f
    first_of_call i f low = omega (arith, low)

    -- each range has ended
    pub ranges_ended : (i : ℕ) → i < q.slots → (id_word_of c i).state ≡ 0
    ranges_ended i inside = ⊎_elim (λ z. z)
        (λ one. let low = (known.rule.slots i inside).first_low in let slot : id_slot (call_id i (id_word_of c i).first) ≡ i = slot_of_call i (id_word_of c i).first low in
        absurd (nobody (call_id i (id_word_of c i).first) (id_word_of c i).attempt (sound.law.owed (call_id i (id_word_of c i).first) (id_word_of c i).attempt (subst (λ x. x < q.slots) (sym slot) inside)
        (ap (λ x. (id_word_of c x).first) slot ∙ sym (first_of_call i (id_word_of c i).first low), ap (λ x. (id_word_of c x).state) slot ∙ one, ap (λ x. (id_word_of c x).attempt) slot))))
        (not_locked p q c vs known still i inside)

    -- and nobody waits but for the word of an `open`
    pub waits_for_opens : (i : ℕ) → i < length c.seats → IsAtRest c i ⊎ WaitsForOpen p c i
    waits_for_opens i inside = ⊎_elim (λ rest. inl rest) by_wait (who_waits i inside)
      where
        by_wait : Waits i → IsAtRest c i ⊎ WaitsForOpen p c i
        by_wait (opens seat o next at e is) = inr (seat, o, next, at, e, is)
        by_wait (joins seat id next at e is) = let v = elem_there c.seats vs i seat known.each at in let g = subst (IdGoesOn p q v.0) e (known.seats i seat v.0 at v.1) in
            absurd (first_there (id_first id) (id_word_of c (id_slot id)) is (ranges_ended (id_slot id) g.0.1))

    -- where each `open` was made, all is at rest
    pub all_rest : ((i : ℕ) → WaitsForOpen p c i → ⊥) → AllRest c
    all_rest opened_ j seat at = ⊎_elim (λ rest. rest seat at) (λ w. absurd (opened_ j w)) (waits_for_opens j (at_length c.seats j seat at))

-- where all is at rest, each link's life was failed
pub lives_failed : (q : IdPlan) (life : ℕ → Option ℕ) (calls : List ℕ) (c : Core) (us : List Owing) → SoundOwing q life calls c us → AllRest c → (k s : ℕ) → life k ≡ Some s → Failed life c k
lives_failed q life calls c us sound rest k s lives = let r = sound.law.readers k s lives in let at = elem_there us c.seats r.0 r.1 (sym sound.each) r.2 in
    let g : OwesOn life r.1 Rest = subst (OwesOn life r.1) (rest r.0 at.0 at.1) (sound.seats r.0 at.0 r.1 at.1 r.2) in sound.law.dead r.0 k r.1 r.2 r.3 (g.3 k s r.3 lives)
