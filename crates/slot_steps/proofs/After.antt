-- What a seat's marks are after a step, for those who make several.
use Rattle.std.proofs.Common.{◌≡◌, ℕ, ◌+◌, Bool, ◌∷◌, ap, cond}
use Rattle.sock_model.specs.declared.marks.Mark.{Mark}
use Rattle.sock_model.specs.declared.marks.Mark.TheVariants.{Hold, Probe, Saw}
use Rattle.sock_model.specs.declared.view.View.{View}
use Rattle.sock_model.specs.Marks.{about}
use Rattle.sock_model.specs.SlotRows.{marks_of, added}
use Rattle.slot_steps.proofs.SlotWeightSums.{about-here}
use Rattle.sock_model.specs.sock_words.specs.PackedWords.{vref_version}
use Rattle.sock_model.specs.sock_words.specs.Totals.{total}

pub marks-added : (f : Mark → ℕ) (i found : ℕ) (is_life : Bool) (v : View) → marks_of f i (added i found is_life v) ≡ f (cond is_life (Hold (vref_version found)) Probe) + (f (Saw (vref_version found)) + marks_of f i v)
marks-added f i found is_life v = let q : about i (added i found is_life v).marks ≡ cond is_life (Hold (vref_version found)) Probe ∷ Saw (vref_version found) ∷ about i v.marks = simp about-here in ap (total f) q
