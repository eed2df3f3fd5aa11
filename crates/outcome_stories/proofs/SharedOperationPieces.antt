-- The parts that operations share explain what follows them.
use Rattle.std.proofs.Common.{◌≡◌, ◌≢◌, ℕ, ◌+◌, ◌-◌, ◌%◌, Bool, true, false, ◌&&◌, List, [], ◌∷◌, inl, inr, ⊎_elim, eqb, eq-eqb, ap, sym, refl, ◌∙◌, subst, arith}
use Rattle.std.proofs.lemmas.Bool.{true≢false}
use Rattle.std.specs.Prelude.{nat_le, if◌then◌else◌}
use Rattle.sock_words.specs.PackedWords.{socket_id_version, socket_id_slot, vref_version, vref_nref}
use Rattle.seat_programs.specs.declared.task.Op.{Op}
use Rattle.seat_programs.specs.declared.task.Task.{Task}
use Rattle.seat_programs.specs.TableSteps.{TableStep, OnSlot, OnName, OnChain, OnLink, SubRef, Recycle, FreeSlot, LoadLink, TakeLink, FinishLink, PutLink, AddRef, LoadName, CreateLife, SetOdd, SwapHead}
use Rattle.seat_programs.specs.Programs.{Program, Do, LAST_VERSION, recycle, release, add_reference, find_socket}
use Rattle.outcome_stories.specs.OperationStories.{Entry, In}
use Rattle.outcome_stories.specs.Explains.{Done, Explains, Grew, step, WonRecycling, GaveBackOnly, RecycledNone}
use Rattle.outcome_stories.proofs.Tests.{split, split_is, split_eq}

-- ## Steps that tell nothing

pub grew_same : (op : Op) (trace : List Entry) → Grew op trace trace
grew_same op trace = record { has = λ x m. m; swap = refl; tells = λ o h. h }

pub grew_on : (op : Op) (a b c : List Entry) → Grew op a b → Grew op b c → Grew op a c
grew_on op a b c g h = record { has = λ x m. h.has x (g.has x m); swap = h.swap ∙ g.swap; tells = λ o t. h.tells o (g.tells o t) }

-- a step that makes no life, fails none and exchanges no head
abbrev pub IsMute : TableStep → Type 0
IsMute (OnSlot (CreateLife i k)) = ⊥
IsMute (OnSlot (SetOdd i)) = ⊥
IsMute (OnChain (SwapHead i own)) = ⊥
IsMute other = Unit {0}

pub mute_grew : (op : Op) (trace : List Entry) (call : TableStep) (found : ℕ) → IsMute call → Grew op trace (step call found ∷ trace)
mute_grew op trace (OnSlot (CreateLife i k)) found mute = absurd mute
mute_grew op trace (OnSlot (SetOdd i)) found mute = absurd mute
mute_grew op trace (OnChain (SwapHead i own)) found mute = absurd mute
mute_grew op trace _ found mute = record { has = λ x m. inr m; swap = refl; tells = λ o h. (tt, h) }

module _ (slots requests : ℕ) (calls : ℕ → Type 0) (broken : List ℕ) (done : List Done) where
  module _ (t : Task) (ts : List Task) where
    abbrev Goes : List Entry → Program → Type 0
    Goes trace program = Explains slots requests calls broken done trace (t ∷ ts) program

    abbrev Follows : List Entry → (Bool → Program) → Type 0
    Follows trace next = (b : Bool) (tr : List Entry) → Grew t.op trace tr → Goes tr (next b)

    freed_goes : (trace : List Entry) (next : Bool → Program) → ((tr : List Entry) → Grew t.op trace tr → Goes tr (next true)) → (i n : ℕ) → (tr : List Entry) → Grew t.op trace tr → Goes tr (if nat_le n LAST_VERSION then Do (OnSlot (FreeSlot i)) (λ _. next true) else next true)
    freed_goes trace next k i n tr g = split (nat_le n LAST_VERSION) (Do (OnSlot (FreeSlot i)) (λ _. next true)) (next true) (Goes tr)
        (tt, λ d. k (step (OnSlot (FreeSlot i)) d ∷ tr) (grew_on t.op trace tr (step (OnSlot (FreeSlot i)) d ∷ tr) g (mute_grew t.op tr (OnSlot (FreeSlot i)) d tt)))
        (k tr g)

    -- who won the exchange from this word ends the slot's link and frees the slot
    abbrev wins : (Bool → Program) → ℕ → ℕ → Program
    wins next i from = Do (OnSlot (LoadLink i (vref_version from + 1))) (λ l. Do (OnLink (TakeLink l)) (λ _. Do (OnLink (FinishLink l)) (λ _. Do (OnLink (PutLink l)) (λ _. if nat_le (vref_version from + 1) LAST_VERSION then Do (OnSlot (FreeSlot i)) (λ _. next true) else next true))))

    won_goes : (one : List Entry) (next : Bool → Program) → ((tr : List Entry) → Grew t.op one tr → Goes tr (next true)) → (i from : ℕ) → Goes one (wins next i from)
    won_goes one next k i from = (
      tt,
      λ l. let two : List Entry = step (OnSlot (LoadLink i (vref_version from + 1))) l ∷ one in let g₂ = mute_grew t.op one (OnSlot (LoadLink i (vref_version from + 1))) l tt in (
        tt,
        λ a. let three : List Entry = step (OnLink (TakeLink l)) a ∷ two in let g₃ = grew_on t.op one two three g₂ (mute_grew t.op two (OnLink (TakeLink l)) a tt) in (
          tt,
          λ b. let four : List Entry = step (OnLink (FinishLink l)) b ∷ three in let g₄ = grew_on t.op one three four g₃ (mute_grew t.op three (OnLink (FinishLink l)) b tt) in (
            tt,
            λ c. freed_goes one next k i (vref_version from + 1) (step (OnLink (PutLink l)) c ∷ four) (grew_on t.op one four (step (OnLink (PutLink l)) c ∷ four) g₄ (mute_grew t.op four (OnLink (PutLink l)) c tt)),
          ),
        ),
      ),
    )

    pub recycle_goes : (trace : List Entry) (next : Bool → Program) → Follows trace next → (i from : ℕ) (tr : List Entry) → Grew t.op trace tr → Goes tr (recycle i from next)
    recycle_goes trace next k i from tr g = (
      tt,
      λ found. let one : List Entry = step (OnSlot (Recycle i from)) found ∷ tr in let g₁ = grew_on t.op trace tr one g (mute_grew t.op tr (OnSlot (Recycle i from)) found tt) in
          split_eq found from (wins next i from) (next false) (Goes one)
          (λ e. won_goes one next (λ tr h. k true tr (grew_on t.op trace one tr g₁ h)) i from)
          (λ n. k false one g₁),
    )

    -- of an operation that makes no step before its release: whether it recycled the slot shows in its steps
    pub release_tells : (next : Bool → Program) → ((tr : List Entry) → Grew t.op [] tr → WonRecycling tr → Goes tr (next true)) → ((tr : List Entry) → Grew t.op [] tr → GaveBackOnly tr → RecycledNone tr → Goes tr (next false)) → (i : ℕ) → Goes [] (release i next)
    release_tells next won lost i = (
      tt,
      λ found. let one : List Entry = step (OnSlot (SubRef i)) found ∷ [] in let g : Grew t.op [] one = mute_grew t.op [] (OnSlot (SubRef i)) found tt in
          split_is (eqb (vref_version found % 2) 1 && eqb (vref_nref found) 1) (recycle i (found - 1) next) (next false) (Goes one)
          (λ last. (
            tt,
            λ other. let two : List Entry = step (OnSlot (Recycle i (found - 1))) other ∷ one in let g₂ : Grew t.op [] two = grew_on t.op [] one two g (mute_grew t.op one (OnSlot (Recycle i (found - 1))) other tt) in
                split_eq other (found - 1) (wins next i (found - 1)) (next false) (Goes two)
                (λ e. won_goes two next (λ tr h. won tr (grew_on t.op [] two tr g₂ h) (i, found - 1, h.has (step (OnSlot (Recycle i (found - 1))) (found - 1)) (inl (ap (λ w. step (OnSlot (Recycle i (found - 1))) w) (sym e))))) i (found - 1))
                (λ n. lost two g₂ (i, found, inr (inl refl), inr (other, inl refl, n)) (λ j from m. ⊎_elim (λ e. n (other_word i found other j from e)) (no_exchange i found j from) m)),
          ))
          (λ rest. lost one g (i, found, inl refl, inl (λ both. not_last found both rest)) (no_exchange i found)),
    )
      where
        other_word : (i found other j from : ℕ) → step (OnSlot (Recycle j from)) from ≡ step (OnSlot (Recycle i (found - 1))) other → other ≡ found - 1
        other_word i found other j from e = let calls : OnSlot (Recycle j from) ≡ OnSlot (Recycle i (found - 1)) = ap (λ (x : Entry). x.call) e in let words : from ≡ other = ap (λ (x : Entry). x.found) e in cc

        no_exchange : (i found j from : ℕ) → In (step (OnSlot (Recycle j from)) from) (step (OnSlot (SubRef i)) found ∷ []) → ⊥
        no_exchange i found j from (inl e) = let calls : OnSlot (Recycle j from) ≡ OnSlot (SubRef i) = ap (λ (x : Entry). x.call) e in absurd (cc)
        no_exchange i found j from (inr m) = m

        not_last : (found : ℕ) → (vref_version found % 2 ≡ 1) × (vref_nref found ≡ 1) → (eqb (vref_version found % 2) 1 && eqb (vref_nref found) 1) ≡ false → ⊥
        not_last found both rest = let odd : eqb (vref_version found % 2) 1 ≡ true = eq-eqb (vref_version found % 2) 1 both.0 in let one : eqb (vref_nref found) 1 ≡ true = eq-eqb (vref_nref found) 1 both.1 in
            let all : (eqb (vref_version found % 2) 1 && eqb (vref_nref found) 1) ≡ true = ap (λ b. b && eqb (vref_nref found) 1) odd ∙ one in true≢false (sym all ∙ rest)

    pub release_goes : (trace : List Entry) (next : Bool → Program) → Follows trace next → (i : ℕ) → Goes trace (release i next)
    release_goes trace next k i = (
      tt,
      λ found. let one : List Entry = step (OnSlot (SubRef i)) found ∷ trace in let g = mute_grew t.op trace (OnSlot (SubRef i)) found tt in
          split (eqb (vref_version found % 2) 1 && eqb (vref_nref found) 1) (recycle i (found - 1) next) (next false) (Goes one)
          (recycle_goes trace next k i (found - 1) one g)
          (k false one g),
    )

    pub reach_goes : (name : ℕ) (unopened : Program) (held : ℕ → Program) (gone : ℕ → Program)
        → Goes (step (OnName (LoadName name)) 0 ∷ []) unopened
        → ((id found : ℕ) → vref_version found ≡ socket_id_version id → Goes (step (OnSlot (AddRef id)) found ∷ step (OnName (LoadName name)) (id + 1) ∷ []) (held id))
        → ((id found : ℕ) (tr : List Entry) → vref_version found ≢ socket_id_version id → Grew t.op (step (OnSlot (AddRef id)) found ∷ step (OnName (LoadName name)) (id + 1) ∷ []) tr → Goes tr (gone found))
        → Goes [] (find_socket name unopened held gone)
    reach_goes name unopened held gone u h g = (
      tt,
      λ word. split_eq word 0 unopened (add_reference (word - 1) (held (word - 1)) gone) (Goes (step (OnName (LoadName name)) word ∷ []))
          (λ e. subst (λ w. Goes (step (OnName (LoadName name)) w ∷ []) unopened) (sym e) u)
          (λ n. let s : word - 1 + 1 ≡ word = omega arith in subst (λ w. Goes (step (OnName (LoadName name)) w ∷ []) (add_reference (word - 1) (held (word - 1)) gone)) s (addressed (word - 1))),
    )
      where
        addressed : (id : ℕ) → Goes (step (OnName (LoadName name)) (id + 1) ∷ []) (add_reference id (held id) gone)
        addressed id = (
          tt,
          λ found. split_eq (vref_version found) (socket_id_version id) (held id) (release (socket_id_slot id) (λ _. gone found)) (Goes (step (OnSlot (AddRef id)) found ∷ step (OnName (LoadName name)) (id + 1) ∷ []))
              (h id found)
              (λ n. release_goes (step (OnSlot (AddRef id)) found ∷ step (OnName (LoadName name)) (id + 1) ∷ []) (λ _. gone found) (λ b tr grew. g id found tr n grew) (socket_id_slot id)),
        )

  abbrev Ends : List Entry → Program → Type 0
  Ends trace program = Explains slots requests calls broken done trace [] program

  -- behind the last task
  pub recycle_ends : (trace : List Entry) (next : Bool → Program) → ((b : Bool) → Ends trace (next b)) → (i from : ℕ) → Ends trace (recycle i from next)
  recycle_ends trace next k i from = (
    tt,
    λ found. split_eq found from (Do (OnSlot (LoadLink i (vref_version from + 1))) (λ l. Do (OnLink (TakeLink l)) (λ _. Do (OnLink (FinishLink l)) (λ _. Do (OnLink (PutLink l)) (λ _. if nat_le (vref_version from + 1) LAST_VERSION then Do (OnSlot (FreeSlot i)) (λ _. next true) else next true))))) (next false)
        (Ends trace)
        (λ e. (tt, λ l. (tt, λ a. (tt, λ b. (tt, λ c. split (nat_le (vref_version from + 1) LAST_VERSION) (Do (OnSlot (FreeSlot i)) (λ _. next true)) (next true) (Ends trace) (tt, λ d. k true) (k true))))))
        (λ n. k false),
  )

  pub release_ends : (trace : List Entry) (next : Bool → Program) → ((b : Bool) → Ends trace (next b)) → (i : ℕ) → Ends trace (release i next)
  release_ends trace next k i = (
    tt,
    λ found. split (eqb (vref_version found % 2) 1 && eqb (vref_nref found) 1) (recycle i (found - 1) next) (next false) (Ends trace)
        (recycle_ends trace next k i (found - 1)) (k false),
  )
