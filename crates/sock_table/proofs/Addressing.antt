-- An id that is addressed: a reference to its life, or to the word alone, which goes again.
use Rattle.std.proofs.Common.{◌≡◌, ℕ, ◌<◌, ◌≤◌, Bool, true, false, [], ◌∷◌, lt-ltb, sym, ap, ◌∙◌, subst, arith}
use Rattle.sock_words.specs.PackedWords.{socket_id_version, socket_id_slot, vref_version}
use Rattle.sock_model.specs.declared.marks.Mark.{Mark}
use Rattle.sock_model.specs.declared.marks.Mark.TheVariants.{Hold, Probe, Saw}
use Rattle.sock_model.specs.declared.view.View.{View}
use Rattle.sock_model.specs.MarkWeights.{is_probe, is_hold, is_known, is_saw}
use Rattle.sock_model.specs.SlotRows.{marks_of, knows, added}
use Rattle.sock_rule.specs.slot_steps.proofs.RuleNumbers.{only-same}
use Rattle.sock_rule.specs.MarksComeAndGo.{Became, Goes, probe_goes, hold_goes}
use Rattle.sock_rule.proofs.MarksComeAndGo.{then_, counts_as, becomes, added_marks}
use Rattle.sock_words.specs.declared.plain.Plan.{Plan}
use Rattle.sock_table.specs.ReferenceCalls.{EndedBy, GaveBack}
use Rattle.sock_table.specs.ReferenceAnswers.{Held, GoneFrom, NoneLater}

module _ (i found id : ℕ) (u a : View) (is : a ≡ added i found (knows i (vref_version found) u) u) (at_id : i ≡ socket_id_slot id) where
  -- the version is the id's, which the seat knows
  pub is_held : 0 < marks_of (is_known (socket_id_version id)) i u → vref_version found ≡ socket_id_version id → Held id u a
  is_held known same = let b : knows i (vref_version found) u ≡ true = ap (λ (x : ℕ). knows i x u) same ∙ lt-ltb 0 (marks_of (is_known (socket_id_version id)) i u) known in
      let e : a ≡ added i found true u = is ∙ ap (λ (x : Bool). added i found x u) b in
      subst (λ (j : ℕ). Became j u a (Saw (socket_id_version id) ∷ Hold (socket_id_version id) ∷ []) []) at_id
      (subst (λ (w : ℕ). Became i u a (Saw w ∷ Hold w ∷ []) []) same (becomes i e (added_marks i found true u)))

  -- else the mark that came can go
  pub may_go : marks_of is_probe i u ≡ 0 → (m : Mark) × Goes i a m × Became i u a (Saw (vref_version found) ∷ m ∷ []) []
  may_go none_ = by_cases (knows i (vref_version found) u) is
    where
      by_cases : (b : Bool) → a ≡ added i found b u → (m : Mark) × Goes i a m × Became i u a (Saw (vref_version found) ∷ m ∷ []) []
      by_cases true e = let k : Became i u a (Saw (vref_version found) ∷ Hold (vref_version found) ∷ []) [] = becomes i e (added_marks i found true u) in (
        Hold (vref_version found),
        hold_goes (vref_version found) (let x = k.here is_probe in omega arith) (let x = k.here (is_hold (vref_version found)) in let s = only-same (vref_version found) in omega arith),
        k,
      )
      by_cases false e = let k : Became i u a (Saw (vref_version found) ∷ Probe ∷ []) [] = becomes i e (added_marks i found false u) in (Probe, probe_goes (let x = k.here is_probe in omega arith), k)

  pub is_gone : (b : View) (ended : Bool) (m : Mark) → Became i u a (Saw (vref_version found) ∷ m ∷ []) [] → GaveBack i a b m ended → (word : ℕ) → word ≡ found → socket_id_version id < vref_version found → GoneFrom id word u b
  is_gone b ended m came back word same later = subst (λ (w : ℕ). GoneFrom id w u b) (sym same) record {
    later = later;
    ended = ended;
    version = back.version;
    notes = back.notes;
    by = subst (λ (q : Plan). EndedBy q ended back.version back.notes) (ap (λ (z : View). z.plan) came.others) back.by;
    became = subst (λ (j : ℕ). Became j u b (Saw (vref_version found) ∷ back.notes) []) at_id (counts_as i (λ f. omega arith) (then_ i came back.became));
  }

-- the version that was found is the id's, and none that the seat saw is behind it
pub none_later : (i found id : ℕ) (u : View) → i ≡ socket_id_slot id → ((w : ℕ) → 0 < marks_of (is_saw w) i u → w ≤ vref_version found) → vref_version found ≡ socket_id_version id → NoneLater id u
none_later i found id u at_id saw same w there = let a = saw w (subst (λ (j : ℕ). 0 < marks_of (is_saw w) j u) (sym at_id) there) in omega arith
