-- The links in hand stay those of the rights, and those in hand without a right, behind each step.
use Rattle.std.proofs.Common.{◌≡◌, ℕ, suc, ◌+◌, ◌%◌, ◌==◌, ⊎_elim, not, cond, eqb, eq-eqb, nat_lt, Bool, true, false, List, [], ◌∷◌, ◌++◌, length, take, refl, sym, ap, ◌∙◌, subst, append-nil, take_all, le_refl}
use Rattle.std.specs.List.{filter}
use mathlib.Core.Option.{some}
use lib.ListN.{get_elem?}
use Rattle.sock_words.specs.PackedWords.{socket_id_slot, vref_version, UNCONNECTED}
use Rattle.sock_words.specs.declared.plain.Plan.{Plan}
use Rattle.sock_model.specs.declared.chain.Right.{Right}
use Rattle.sock_model.specs.declared.chain.Stage.{Stage}
use Rattle.sock_model.specs.declared.chain.Stage.TheVariants.{Writes, Placed, Passes, Reversing, ReversesNext}
use Rattle.sock_model.specs.declared.home.Home.{Home}
use Rattle.sock_model.specs.declared.home.Home.TheVariants.{Link}
use Rattle.sock_model.specs.declared.view.View.{View}
use Rattle.sock_model.specs.declared.view.Hand.{Hand}
use Rattle.sock_model.specs.MarkWeights.{only}
use Rattle.sock_model.specs.SlotRows.{looked}
use Rattle.sock_model.specs.ChainRows.{with_hand, spent_hand, without_hand, with_right, without_right, turned_right, placed_right, dropped_right}
use Rattle.sock_model.specs.LawfulSockets.{Lawful}
use Rattle.sock_steps.proofs.SumsAsMarksChange.{either_way}
use Rattle.seat_programs.specs.TableSteps.{TableStep, OnSlot, OnChain, OnPlace, OnLink, TakeLink, FinishLink, PutLink, LookWord, SwapHead, EmptyHead, ReadNext, ReverseNext, FreeRequest, StorePlace, DropPlace}
use Rattle.seat_programs.specs.Cores.{Core, found_at, hand_after}
use Rattle.seat_programs.specs.StepTables.{word_of}
use Rattle.seat_programs.specs.StepTables.{row, hand_at}
use Rattle.seat_programs.specs.StepsOfLinks.{taken}
use Rattle.seat_programs.specs.StepViews.{by_right, settled}
use Rattle.seat_programs.specs.StepsOfChain.{exchanged, emptied, read_next, turned_next, freed_stage, freed_next}
use Rattle.seat_programs.specs.StepsOfSlots.{looked_clean}
use Rattle.seat_programs.specs.StepsOfPlaces.{placed_next, dropped_next}
use Rattle.seat_programs.specs.StepTables.{May}
use Rattle.program_steps.specs.SoundSeats.{state, IsOfRight, AreInHand, AreHeld}
use Rattle.sock_runs.proofs.HandTicks.{taking, found_hand, take_in_hand, finish_in_hand, put_in_hand}
use Rattle.sock_runs.proofs.ChainTicks.{stays_one}
use Rattle.program_steps.proofs.Leaves.{claim_way, exchanges_way, moves_right, moves_hand, rights_stay, hands_stay}
use Rattle.sock_words.specs.Totals.{total}

-- ## Without a right, and with one

pub held_in_hand : (hand : List Home) (rs : List Right) (hands : List Hand) → rs ≡ [] → AreHeld hand rs hands → AreInHand hand hands
held_in_hand hand rs hands none_ held = subst (λ l. AreHeld hand l hands) none_ held

pub in_hand_held : (hand : List Home) (rs : List Right) (hands : List Hand) → rs ≡ [] → AreInHand hand hands → AreHeld hand rs hands
in_hand_held hand rs hands none_ are = subst (λ l. AreHeld hand l hands) (sym none_) are

-- two states of a right, of one link that took the same, which is at home in both or in neither
pub record IsAlike (r r' : Right) : Type 0 where
  pub link : r'.link ≡ r.link
  pub at_home : r'.at_home ≡ r.at_home
  pub took : r'.sent ++ take r'.put r'.bytes ≡ r.sent ++ take r.put r.bytes

alike_link : (r r' : Right) → IsAlike r r' → (x : Home) → IsOfRight r x → IsOfRight r' x
alike_link r r' same x is = (is.0, is.1 ∙ (ap (λ z. Link z (r.sent ++ take r.put r.bytes) is.0 false) (sym same.link) ∙ ap (λ z. Link r'.link z is.0 false) (sym same.took)))

-- the links in hand, where that of the first right is at home or not
abbrev pub HeldBy : List Home → List Right → List Hand → Right → Bool → Type 0
HeldBy hand rs hands r b = elim b as (λ b. Type 0) [ true ↦ AreHeld hand rs hands | false ↦ (x : Home) × (others : List Home) × (hand ≡ x ∷ others) × IsOfRight r x × AreHeld others rs hands ]

pub alike_held : (hand : List Home) (r r' : Right) (rs : List Right) (hands : List Hand) → IsAlike r r' → AreHeld hand (r ∷ rs) hands → AreHeld hand (r' ∷ rs) hands
alike_held hand r r' rs hands same held = by_home r'.at_home same.at_home
  where
    by_home : (b : Bool) → b ≡ r.at_home → HeldBy hand rs hands r' b
    by_home true e = subst (HeldBy hand rs hands r) (sym e) held
    by_home false e = let h : HeldBy hand rs hands r false = subst (HeldBy hand rs hands r) (sym e) held in (h.0, h.1, h.2, alike_link r r' same h.0 h.3, h.4)

-- ## Steps of whoever sends or writes

module _ (p : Plan) (v : View) (hand : List Home) (held : AreHeld hand v.rights v.hands) where
  abbrev Holds : View → Type 0
  Holds w = AreHeld hand w.rights w.hands

  -- the one right of a view that differs from this one elsewhere
  one_held : (w : View) (r r' : Right) → w.rights ≡ r ∷ [] → w.hands ≡ v.hands → v.rights ≡ r ∷ [] → IsAlike r r' → Holds (with_right w r')
  one_held w r r' one hands mine same = subst Holds (sym (stays_one w r one r' same.link))
      (alike_held hand r r' [] w.hands same (subst (λ l. AreHeld hand l w.hands) mine (subst (λ hs. AreHeld hand v.rights hs) (sym hands) held)))

  looks_held : (j found : ℕ) (r : Right) → v.rights ≡ r ∷ [] → Holds (looked_clean j found v r)
  looks_held j found r one = let r' : Right = record r { clean = true } in
      either_way (vref_version found % 2 == 0) (with_right (looked j found v) r') (looked j found v) Holds (one_held (looked j found v) r r' one refl one record { link = refl; at_home = refl; took = refl }) held

  gone_held : (r : Right) → v.rights ≡ r ∷ [] → r.at_home ≡ true → Holds (without_right v r.link)
  gone_held r one home = let none_ : (without_right v r.link).rights ≡ [] = ap (filter (λ (x : Right). not (eqb x.link r.link))) one ∙ ap (λ b. cond (not b) (r ∷ []) []) (eq-eqb r.link r.link refl) in
      subst (λ l. AreHeld hand l v.hands) (sym none_)
      (subst (HeldBy hand [] v.hands r) home (subst (λ l. AreHeld hand l v.hands) one held))

  stage_held : (r : Right) → v.rights ≡ r ∷ [] → (b : Stage) → Holds (with_right v (record r { stage = b }))
  stage_held r one b = one_held v r (record r { stage = b }) one refl one record { link = refl; at_home = refl; took = refl }

  reads_held : (found : ℕ) (r : Right) → v.rights ≡ r ∷ [] → (b : Stage) → Holds (read_next found v r b)
  reads_held found r one (Placed now) = let r' : Right = settled (record r { stage = Passes now found }) in one_held v r r' one refl one record { link = refl; at_home = refl; took = refl }
  reads_held found r one (Reversing top a after) = either_way (found == UNCONNECTED) v (with_right v (record r { stage = ReversesNext top a after found })) Holds held (stage_held r one (ReversesNext top a after found))
  reads_held found r one _ = held

  turned_alike : (r : Right) (top a before : ℕ) → IsAlike r (turned_right r top a before)
  turned_alike r top a before = either_way (before == r.last) (record r { last = top; stage = Writes a; turned = 0; noted = r.noted + suc r.turned }) (record r { stage = Reversing top before a; turned = suc r.turned }) (IsAlike r)
      record { link = refl; at_home = refl; took = refl } record { link = refl; at_home = refl; took = refl }

  turns_held : (r : Right) → v.rights ≡ r ∷ [] → (b : Stage) → Holds (turned_next v r b)
  turns_held r one (ReversesNext top a after before) = one_held v r (turned_right r top a before) one refl one (turned_alike r top a before)
  turns_held r one _ = held

  places_held : (r : Right) → v.rights ≡ r ∷ [] → r.put ≡ length r.bytes → (b : Stage) → Holds (placed_next v r b)
  places_held r one whole (Writes now) = let r' : Right = settled (placed_right r now) in
      one_held v r r' one refl one record { link = refl; at_home = refl; took = append-nil (r.sent ++ r.bytes) ∙ sym (ap (λ n. r.sent ++ take n r.bytes) whole ∙ ap (λ l. r.sent ++ l) (take_all (length r.bytes) r.bytes (le_refl (length r.bytes)))) }
  places_held r one whole _ = held

  drops_held : (r : Right) → v.rights ≡ r ∷ [] → (b : Stage) → Holds (dropped_next v r b)
  drops_held r one (Writes now) = let r' : Right = settled (dropped_right r now (r.sent ++ take r.put r.bytes)) in
      one_held v r r' one refl one record { link = refl; at_home = refl; took = append-nil (r.sent ++ take r.put r.bytes) }
  drops_held r one _ = held

  -- where the seat's one right is this, the step does this with it
  of_right : (r : Right) → v.rights ≡ r ∷ [] → (then_ : Right → View) (other : View) → Holds (then_ r) → Holds (by_right v.rights then_ other)
  of_right r one then_ other is = subst (λ rs. Holds (by_right rs then_ other)) (sym one) is

-- ## All steps

module _ (p : Plan) (c : Core) (vs : List View) (o : Lawful (λ home. home) p (state c vs)) (i : ℕ) (v : View) (at : get_elem? vs i ≡ some v) (hand : List Home) (held : AreHeld hand v.rights v.hands) where
  abbrev found : TableStep → ℕ
  found call = found_at c.words (word_of p call)

  abbrev after : TableStep → View
  after call = row p call (found_at c.words (word_of p call)) (hand_at p c.words c.homes call) v

  -- of a seat without rights
  pub in_hand : v.rights ≡ [] → AreInHand hand v.hands
  in_hand none_ = held_in_hand hand v.rights v.hands none_ held

  -- behind a step that leaves rights and hands
  still : (call : TableStep) → moves_right call ≡ false → moves_hand call ≡ false → AreHeld hand (after call).rights (after call).hands
  still call rights hands = let n : ℕ = found call in let g : Hand = hand_at p c.words c.homes call in
      subst (λ rs. AreHeld hand rs (after call).hands) (sym (rights_stay p v n g call rights)) (subst (λ hs. AreHeld hand v.rights hs) (sym (hands_stay p v n g call hands)) held)

  pub keeps_held : (call : TableStep) → May p v call → AreHeld (hand_after p call c.homes hand) (after call).rights (after call).hands
  keeps_held (OnLink (TakeLink k)) may = let home = (taking p (state c vs) o i v at k may).0 in let h : Hand = record { link = k; took = home.took; next = home.next } in
      let now = in_hand_held (hand_after p (OnLink (TakeLink k)) c.homes hand) v.rights (h ∷ v.hands) may.3 (take_in_hand p c.homes k home hand v.hands (in_hand may.3)) in
      subst (λ g. AreHeld (hand_after p (OnLink (TakeLink k)) c.homes hand) (taken g v).rights (taken g v).hands) (sym (found_hand p (state c vs) o i v at k may))
      (either_way (nat_lt 0 (total (only k) v.passes)) (spent_hand v h) (with_hand v h) (λ w. AreHeld (hand_after p (OnLink (TakeLink k)) c.homes hand) w.rights w.hands) now now)
  keeps_held (OnLink (FinishLink k)) may = in_hand_held (hand_after p (OnLink (FinishLink k)) c.homes hand) v.rights v.hands may.2 (finish_in_hand p c.homes k hand v.hands (in_hand may.2))
  keeps_held (OnLink (PutLink k)) may = in_hand_held (hand_after p (OnLink (PutLink k)) c.homes hand) v.rights (without_hand v k).hands may.2 (put_in_hand v k hand (in_hand may.2) may.1)
  keeps_held (OnSlot (LookWord id)) may = let j : ℕ = socket_id_slot id in let w : ℕ = found (OnSlot (LookWord id)) in
      ⊎_elim
      (λ none_. subst (λ rs. Holds p v hand held (by_right rs (looked_clean j w v) (looked j w v))) (sym none_) held)
      (λ mine. of_right p v hand held mine.0 mine.1 (looked_clean j w v) (looked j w v) (looks_held p v hand held j w mine.0 mine.1))
      may.1
  keeps_held (OnChain (SwapHead j own)) may = let n : ℕ = found (OnChain (SwapHead j own)) in let g : Hand = hand_at p c.words c.homes (OnChain (SwapHead j own)) in
      claim_way (Holds p v hand held) v.claims (exchanged n g v) v held (exchanges_way (Holds p v hand held) v held (λ d m. held) (λ d m sent l. held) n g)
  keeps_held (OnChain (EmptyHead j last)) may = let r : Right = may.1.0.mine.right in let w : ℕ = found (OnChain (EmptyHead j last)) in
      of_right p v hand held r may.1.1 (emptied last w v) v
      (either_way (w == last) (without_right v r.link) (with_right v (record r { stage = Reversing w w 0 })) (Holds p v hand held) (gone_held p v hand held r may.1.1 may.1.0.link_home) (stage_held p v hand held r may.1.1 (Reversing w w 0)))
  keeps_held (OnChain (ReadNext q)) may = of_right p v hand held may.0 may.1 (λ r. read_next (found (OnChain (ReadNext q))) v r r.stage) v (reads_held p v hand held (found (OnChain (ReadNext q))) may.0 may.1 may.0.stage)
  keeps_held (OnChain (ReverseNext q value)) may = let r : Right = may.0.mine.right in of_right p v hand held r may.1 (λ r. turned_next v r r.stage) v (turns_held p v hand held r may.1 r.stage)
  keeps_held (OnChain (FreeRequest q g)) may = let r : Right = may.4.0 in of_right p v hand held r may.4.1 (freed_next v) v (stage_held p v hand held r may.4.1 (freed_stage r.stage))
  keeps_held (OnPlace (StorePlace l k n)) may = let r : Right = may.0.mine.right in of_right p v hand held r may.1 (λ r. placed_next v r r.stage) v (places_held p v hand held r may.1 may.5 r.stage)
  keeps_held (OnPlace (DropPlace l k n)) may = let r : Right = may.0.mine.right in of_right p v hand held r may.1 (λ r. dropped_next v r r.stage) v (drops_held p v hand held r may.1 r.stage)
  keeps_held call may = still call refl refl
