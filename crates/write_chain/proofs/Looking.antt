-- What a look finds, and what becomes of a socket whose link failed.
use Rattle.std.proofs.Common.{◌≡◌, ◌≢◌, ℕ, ◌+◌, ◌-◌, ◌%◌, ◌<◌, zero, suc, Bool, true, false, not, cond, eqb, eqb-true, eq-eqb, ltb, ltb-true, min, List, [], ◌∷◌, ◌++◌, length, take, refl, sym, ap, ◌∙◌, subst, inl, inr, arith}
use Rattle.std.specs.Prelude.{◌↔◌, IsTrue, Ok, Err, IfOk, IfErr}
use Rattle.std.specs.declared.result.Result.{Result}
use Rattle.seat_programs.specs.BufferParts.{room_of_part, part}
use mathlib.Core.Logic.{dite}
use native.Mathlib.Decide.{ℕ_discrete}
use Rattle.atomic_table.specs.Table.{Me}
use Rattle.sock_io.specs.declared.link.Out.{Ghosts}
use Rattle.sock_io.specs.LinkHalves.{OutState, taken_of}
use Rattle.sock_io.specs.declared.link.Put.{Put}
use Rattle.sock_io.specs.declared.link.Put.TheVariants.{Failed}
use Rattle.sock_words.specs.declared.plain.Plan.{Plan}
use Rattle.sock_words.specs.ErrorCodes.{EFAILEDSOCKET}
use Rattle.sock_words.specs.PackedWords.{socket_id_version, socket_id_slot, vref_version, IsFailedVref}
use Rattle.sock_model.specs.declared.marks.Mark.{Mark}
use Rattle.sock_model.specs.declared.marks.Mark.TheVariants.{Saw}
use Rattle.sock_model.specs.declared.view.View.{View}
use Rattle.sock_model.specs.MarkWeights.{is_hold, is_met, is_saw}
use Rattle.sock_model.specs.SlotRows.{marks_of, looked}
use Rattle.sock_open.specs.slot_steps.proofs.RuleNumbers.{only-same}
use Rattle.sock_rule.specs.MarksComeAndGo.{Became}
use Rattle.sock_rule.specs.HoldingWriteRight.{LookedToWrite}
use Rattle.sock_rule.specs.declared.homes.SockHome.{SockHome}
use Rattle.sock_rule.specs.LinkFaultNotes.{fault}
use Rattle.sock_rule.proofs.MarksComeAndGo.{then_, looked_marks}
use Rattle.sock_table.specs.ReferenceAnswers.{FailedBy, FoundFailed}
use Rattle.sock_table.specs.declared.refs.Already.{Already}
use Rattle.write_chain.specs.declared.right.InHand.{InHand}
use Rattle.write_chain.specs.NotingWhileWriting.{saw, faulted, Faulted, Noted, nothing, finding, failing, Met_by, Wrote}
use Rattle.std.specs.Prelude.{◌⊎◌}
use Rattle.write_chain.specs.LinkCalls.{NoneFailed}
use Rattle.write_chain.specs.WritingRightInHand.{HasPart, FoundDead}
use Rattle.write_chain.proofs.Faulting.{became_faults}
use Rattle.write_chain.proofs.NotingWhileWriting.{found_it}
use Rattle.write_chain.proofs.WriterThroughSteps.{HasClean, part_noted, part_clean}

pub false_true : false ≡ true → ⊥
false_true e = let n : ℕ ≡ ⊥ = ap (λ b. cond b ⊥ ℕ) e in subst (λ (x : Type 0). x) n 0

not_true : (b : Bool) → not b ≡ true → b ≡ false
not_true true e = absurd (false_true e)
not_true false e = refl

not_false : (b : Bool) → not b ≡ false → b ≡ true
not_false true e = refl
not_false false e = absurd (false_true (sym e))

pub never_true : (b : Bool) → (b ≡ true → ⊥) → b ≡ false
never_true true f = absurd (f refl)
never_true false f = refl

-- whether the word that was found is a failed one
module _ (b : Bool) (found word : ℕ) (same : word ≡ found) (is : IsTrue b ↔ IsFailedVref word) where
  pub found_live : not b ≡ true → vref_version found % 2 ≡ 0
  found_live t = dite (ℕ_discrete (vref_version found % 2) 0) (λ e. e) (λ ne. absurd (false_true (sym (not_true b t) ∙ is.1 (ap (λ (w : ℕ). vref_version w % 2) same ∙ omega arith))))

  pub found_dead : not b ≡ false → vref_version found % 2 ≢ 0
  found_dead f e = let odd : vref_version word % 2 ≡ 1 = is.0 (not_false b f) in let k = ap (λ (w : ℕ). vref_version w % 2) same in absurd (omega arith)

module _ {O : Type 0} {g : Ghosts O} {p : Plan} {ways : List (List ℕ)} {id last : ℕ} (hand : InHand O g) (m n : Me (SockHome O g) View) (slot found : ℕ) (at : slot ≡ socket_id_slot id) (h : HasPart p ways id last hand m) (l : LookedToWrite h.0.right_is slot found m n) where
  became_looked : Became (socket_id_slot id) m.0 (looked slot found m.0) (Saw (vref_version found) ∷ []) []
  became_looked = subst (λ (j : ℕ). Became j m.0 (looked slot found m.0) (Saw (vref_version found) ∷ []) []) at (looked_marks slot found m.0)

  noted_saw : {L : ℕ → Type 0} → Noted g.state L (socket_id_version id) (Saw (vref_version found) ∷ [])
  noted_saw {L} = found_it (Saw (vref_version found)) (saw (vref_version found))

  pub live : vref_version found % 2 ≡ 0 → HasClean p ways id last hand n
  live even = part_clean {L = λ k. ⊥} hand m n (looked slot found m.0) (Saw (vref_version found) ∷ []) noted_saw became_looked (λ t. h.0.noted (became_faults hand.link (socket_id_slot id) m.0 (looked slot found m.0) _ _ became_looked refl t)) h (l.1 even)

  odd_is : vref_version found % 2 ≢ 0 → vref_version found ≡ socket_id_version id + 1
  odd_is odd = let a = l.0.held (socket_id_version id) (subst (λ (j : ℕ). 0 < marks_of (is_hold (socket_id_version id)) j m.0) (sym at) h.0.writer.holds.held) in omega arith

  pub dead : vref_version found % 2 ≢ 0 → HasPart p ways id last hand n × FoundDead id n.0
  dead odd = let v = ap (λ (q : Me (SockHome O g) View). q.0) (l.2 odd) in let b : Became (socket_id_slot id) m.0 n.0 (Saw (vref_version found) ∷ []) [] = subst (λ (y : View). Became (socket_id_slot id) m.0 y (Saw (vref_version found) ∷ []) []) (sym v) became_looked in
      let one : is_saw (socket_id_version id + 1) (Saw (vref_version found)) ≡ 1 = ap (λ (y : ℕ). is_saw (socket_id_version id + 1) (Saw y)) (odd_is odd) ∙ only-same (socket_id_version id + 1) in (
        part_noted {L = λ k. ⊥} hand m n (Saw (vref_version found) ∷ []) noted_saw b (ap (λ (q : Me (SockHome O g) View). q.1) (l.2 odd)) (λ t. h.0.noted (became_faults hand.link (socket_id_slot id) m.0 n.0 _ _ b refl t)) h,
        (let x : marks_of (is_saw (socket_id_version id + 1)) (socket_id_slot id) n.0 + 0 ≡ marks_of (is_saw (socket_id_version id + 1)) (socket_id_slot id) m.0 + (is_saw (socket_id_version id + 1) (Saw (vref_version found)) + 0) = b.here (is_saw (socket_id_version id + 1)) in omega arith),
      )

  -- a life that was found failed is found so again
  pub dead_again : FoundDead id m.0 → vref_version found % 2 ≢ 0
  dead_again d even = let s = l.0.saw (socket_id_version id + 1) (subst (λ (j : ℕ). 0 < marks_of (is_saw (socket_id_version id + 1)) j m.0) (sym at) d) in
      let a = l.0.held (socket_id_version id) (subst (λ (j : ℕ). 0 < marks_of (is_hold (socket_id_version id)) j m.0) (sym at) h.0.writer.holds.held) in absurd (omega arith)

  -- so none failed before a look that finds it live
  pub still_none : vref_version found % 2 ≡ 0 → NoneFailed hand.calls.list
  still_none even = by_calls h.2
    where
      by_calls : NoneFailed hand.calls.list ⊎ FoundDead id m.0 → NoneFailed hand.calls.list
      by_calls (inl none_) = none_
      by_calls (inr d) = absurd (dead_again d even)

  pub looked_wrote : Wrote g.state id m.0 n.0
  looked_wrote = record {
    notes = Saw (vref_version found) ∷ [];
    noted = noted_saw;
    became = subst (λ (y : View). Became (socket_id_slot id) m.0 y (Saw (vref_version found) ∷ []) []) (sym by_found) became_looked;
  }
    where
      by_found : record n.0 { rights = m.0.rights } ≡ looked slot found m.0
      by_found = dite (ℕ_discrete (vref_version found % 2) 0) (λ even. ap (λ (q : Me (SockHome O g) View). record q.0 { rights = m.0.rights }) (l.1 even)) (λ odd. ap (λ (q : Me (SockHome O g) View). record q.0 { rights = m.0.rights }) (l.2 odd))

-- ## The link failed

pub record Fails {O : Type 0} (state : O → OutState) (id : ℕ) (v w : View) : Type 0 where
  pub notes : List Mark
  pub noted : Noted state (Met_by id w) (socket_id_version id) notes
  pub became : Became (socket_id_slot id) v w notes []

-- a fault was noted, and then the socket was failed
pub fails : {O : Type 0} {state : O → OutState} (id k : ℕ) (u v w : View) (r : Result (Unit {0}) Already) → Became (socket_id_slot id) u v (fault k ∷ []) [] → IfOk r (λ _. FailedBy id EFAILEDSOCKET v w) → IfErr r (λ e. FoundFailed id e.found.0 v w) → Faulted state k → Met_by id u k → Fails state id u w
fails id k u v w (Ok x) note ok err rose met_ = record {
  notes = _;
  noted = failing k [] (let y : marks_of (is_met (socket_id_version id) k) (socket_id_slot id) v + 0 ≡ marks_of (is_met (socket_id_version id) k) (socket_id_slot id) u + 0 = note.here (is_met (socket_id_version id) k) in let x : marks_of (is_met (socket_id_version id) k) (socket_id_slot id) w + 0 ≡ marks_of (is_met (socket_id_version id) k) (socket_id_slot id) v + 0 = ok.here (is_met (socket_id_version id) k) in omega arith) rose nothing;
  became = then_ (socket_id_slot id) note ok;
}
fails id k u v w (Err e) note ok err rose met_ = record { notes = _; noted = finding (fault k) _ (faulted k) (found_it _ (saw (vref_version e.found.0))); became = then_ (socket_id_slot id) note err.1 }

pub fails_dead : (id : ℕ) (v w : View) (r : Result (Unit {0}) Already) → IfOk r (λ _. FailedBy id EFAILEDSOCKET v w) → IfErr r (λ e. FoundFailed id e.found.0 v w) → FoundDead id w
fails_dead id v w (Ok u) ok err = let one : is_saw (socket_id_version id + 1) (Saw (socket_id_version id + 1)) ≡ 1 = only-same (socket_id_version id + 1) in
    let x : marks_of (is_saw (socket_id_version id + 1)) (socket_id_slot id) w + 0 ≡ marks_of (is_saw (socket_id_version id + 1)) (socket_id_slot id) v + (0 + (is_saw (socket_id_version id + 1) (Saw (socket_id_version id + 1)) + 0)) = ok.here (is_saw (socket_id_version id + 1)) in omega arith
fails_dead id v w (Err e) ok err = let one : is_saw (socket_id_version id + 1) (Saw (vref_version e.found.0)) ≡ 1 = ap (λ (y : ℕ). is_saw (socket_id_version id + 1) (Saw y)) err.0 ∙ only-same (socket_id_version id + 1) in
    let x : marks_of (is_saw (socket_id_version id + 1)) (socket_id_slot id) w + 0 ≡ marks_of (is_saw (socket_id_version id + 1)) (socket_id_slot id) v + (is_saw (socket_id_version id + 1) (Saw (vref_version e.found.0)) + 0) = err.1.here (is_saw (socket_id_version id + 1)) in omega arith

-- ## What is left of a message

none_left : (l : List ℕ) → length l ≡ 0 → l ≡ []
none_left [] e = refl
none_left (x ∷ xs) e = absurd (omega arith)

pub is_none : (l : List ℕ) (b : Bool) → b ≡ eqb (length l) 0 → b ≡ true → l ≡ []
is_none l b is t = none_left l (eqb-true (length l) 0 (sym is ∙ t))

pub is_some : (l : List ℕ) (b : Bool) → b ≡ eqb (length l) 0 → b ≡ false → l ≢ []
is_some l b is f e = false_true (sym f ∙ (is ∙ eq-eqb (length l) 0 (ap length e)))

-- where all was taken that was left, the put didn't fail
pub all_taken : (l left next : List ℕ) (r : Put) → l ≢ [] → l ≡ taken_of next r ++ left → left ≡ [] → r ≢ Failed
all_taken l left next r some_ is none_ e = some_ (is ∙ (λ i. taken_of next (e i) ++ none_ i))

some_taken : (n : ℕ) (l : List ℕ) → 0 < n → l ≢ [] → 0 < length (take n l)
some_taken zero l pos ne = absurd (omega arith)
some_taken (suc n) [] pos ne = absurd (ne refl)
some_taken (suc n) (x ∷ xs) pos ne = omega arith

some_room : (ps : List ℕ) (taken : ℕ) → 0 < room_of_part ps taken
some_room [] taken = omega arith
some_room (n ∷ ns) taken = by_part (ltb taken n) refl (some_room ns (taken - n))
  where
    some_min : (a b : ℕ) → 0 < a → 0 < b → 0 < min a b
    some_min a b x y = omega (arith, x, y)

    by_part : (b : Bool) → ltb taken n ≡ b → 0 < room_of_part ns (taken - n) → 0 < cond b (min (n - taken) (8192 - taken % 8192)) (room_of_part ns (taken - n))
    by_part true is more = let less : taken < n = ltb-true taken n is in some_min (n - taken) (8192 - taken % 8192) (omega (arith, less)) (omega arith)
    by_part false is more = more

-- a piece is put where bytes are left
pub some_piece : (ps l : List ℕ) (taken : ℕ) → l ≢ [] → 0 < length (part ps l taken)
some_piece ps l taken ne = some_taken (room_of_part ps taken) l (some_room ps taken) ne
