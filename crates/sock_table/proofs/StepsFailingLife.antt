-- A life that a seat fails, step by step.
use Rattle.std.proofs.Common.{◌≡◌, ◌≢◌, ℕ, ◌+◌, ◌-◌, ◌%◌, ◌<◌, ◌⊎◌, inr, Bool, false, List, [], ◌∷◌, sym, ap, ◌∙◌, subst, arith}
use Rattle.sock_words.specs.declared.plain.Plan.{Plan}
use Rattle.sock_words.specs.PackedWords.{socket_id_version, socket_id_slot, vref_version}
use Rattle.sock_model.specs.declared.marks.Mark.{Mark}
use Rattle.sock_model.specs.declared.marks.Mark.TheVariants.{Hold, Coding, Saw, Failer, Stored, Told}
use Rattle.sock_model.specs.declared.view.View.{View}
use Rattle.sock_model.specs.MarkWeights.{is_ref, is_probe, is_any_coding, is_coding, is_hold}
use Rattle.sock_model.specs.SlotRows.{marks_of, failed, coded}
use mathlib.Core.Logic.{dite}
use native.Mathlib.Decide.{ℕ_discrete}
use Rattle.sock_rule.specs.slot_steps.proofs.RuleNumbers.{only-same, only-else}
use Rattle.sock_rule.specs.MarksComeAndGo.{Became, Goes, hold_goes}
use Rattle.sock_rule.proofs.MarksComeAndGo.{then_, counts_as, becomes, failed_marks, failed_again, coded_marks}
use Rattle.sock_table.specs.ReferenceCalls.{Rests, EndedBy, GaveBack}
use Rattle.sock_table.specs.ReferenceAnswers.{FailedBy, FoundFailed}
use Rattle.sock_table.proofs.GivingReferenceBack.{some_ref}
use Rattle.sock_model.specs.ChainStepConditions.{KeepsRights}

module _ (p : Plan) (i found id : ℕ) (u a : View) (is : a ≡ failed i found u) (inside : i < p.slots) (at_id : i ≡ socket_id_slot id) (rests : Rests p u) (there : 0 < marks_of (is_hold (socket_id_version id)) i u)
    (held : (h : ℕ) → 0 < marks_of (is_hold h) i u → h ≡ vref_version found - vref_version found % 2) where
  abbrev h : ℕ
  h = socket_id_version id

  pub found_failed : (word : ℕ) → word ≡ found → vref_version found ≢ socket_id_version id → FoundFailed id word u a
  found_failed word same ne = let e = held (socket_id_version id) there in subst (λ (w : ℕ). FoundFailed id w u a) (sym same)
      (omega arith, subst (λ (j : ℕ). Became j u a (Saw (vref_version found) ∷ []) []) at_id (becomes i is (failed_again i found u (λ z. ne (omega arith)))))

  module _ (live : vref_version found ≡ socket_id_version id) where
    now_failed : Became i u a (Saw (socket_id_version id + 1) ∷ Failer (socket_id_version id) ∷ Coding (socket_id_version id) ∷ Hold (socket_id_version id) ∷ []) []
    now_failed = let e = held (socket_id_version id) there in subst (λ (w : ℕ). Became i u a (Saw (w + 1) ∷ Failer w ∷ Coding w ∷ Hold w ∷ []) []) live (becomes i is (failed_marks i found u (omega arith)))

    pub coding_now : 0 < marks_of (is_coding (socket_id_version id)) i a
    coding_now = let x = now_failed.here (is_coding (socket_id_version id)) in let s = only-same (socket_id_version id) in omega arith

    module _ (c : ℕ) (b : View) (stored : b ≡ coded i (socket_id_version id) c a) where
      now_coded : Became i u b (Saw (socket_id_version id + 1) ∷ Failer (socket_id_version id) ∷ Coding (socket_id_version id) ∷ Hold (socket_id_version id) ∷ Told (socket_id_version id) c ∷ Stored (socket_id_version id) c ∷ []) (Coding (socket_id_version id) ∷ [])
      now_coded = then_ i now_failed (becomes i stored (coded_marks i (socket_id_version id) c a coding_now))

      pub hold_now : Goes i b (Hold (socket_id_version id))
      hold_now = hold_goes (socket_id_version id) (let x = now_coded.here is_probe in let y : marks_of is_probe i u ≡ 0 = rests.unprobed i inside in omega arith) (let x = now_coded.here (is_hold (socket_id_version id)) in let s = only-same (socket_id_version id) in omega arith)

      pub uncoding_now : marks_of is_any_coding i b ≡ 0
      uncoding_now = let x = now_coded.here is_any_coding in let y : marks_of is_any_coding i u ≡ 0 = rests.uncoding i inside in omega arith

      -- each life of the slot that it holds is this one, of which it has two references
      pub keeps_rights : KeepsRights i b
      keeps_rights x r k e there_ met = let one = only-same (socket_id_version id) in let a = now_coded.here (is_hold k) in let old = held (socket_id_version id) there in
          dite (ℕ_discrete k (socket_id_version id))
          (λ same. subst (λ (j : ℕ). (0 < marks_of is_probe i b) ⊎ (1 < marks_of (is_hold j) i b)) (sym same) (inr (let z = now_coded.here (is_hold (socket_id_version id)) in omega arith)))
          (λ other. let none_ = only-else k (socket_id_version id) (λ z. other (sym z)) in absurd (other (held k (omega arith) ∙ sym old)))

      pub empty_now : b.hands ≡ []
      empty_now = ap (λ (y : View). y.hands) now_coded.others ∙ rests.empty

      two_refs : 1 < marks_of is_ref i b
      two_refs = let x = now_coded.here is_ref in let y = some_ref i u (Hold (socket_id_version id)) (hold_goes (socket_id_version id) (rests.unprobed i inside) there) in omega arith

      -- the reference that creation made goes, and never the last one
      pub is_failed : (d : View) (ended : Bool) → (1 < marks_of is_ref i b → ended ≡ false) → GaveBack i b d (Hold (socket_id_version id)) ended → FailedBy id c u d
      is_failed d ended kept back = let none_ : back.notes ≡ [] = subst (λ (z : Bool). EndedBy b.plan z back.version back.notes) (kept two_refs) back.by in
          let gone : Became i b d [] (Hold (socket_id_version id) ∷ []) = subst (λ (l : List Mark). Became i b d l (Hold (socket_id_version id) ∷ [])) none_ back.became in
          subst (λ (j : ℕ). Became j u d (Failer (socket_id_version id) ∷ Saw (socket_id_version id + 1) ∷ Stored (socket_id_version id) c ∷ Told (socket_id_version id) c ∷ []) []) at_id (counts_as i (λ f. omega arith) (then_ i now_coded gone))
