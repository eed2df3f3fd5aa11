-- How a call changes a seat's view: marks of one slot come and go, and all else stays.
use Rattle.std.specs.Prelude.{◌≡◌, ◌≢◌, ℕ, ◌+◌, ◌<◌, List}
use Rattle.sock_model.specs.declared.marks.Mark.{Mark}
use Rattle.sock_model.specs.declared.view.View.{View}
use Rattle.sock_model.specs.declared.marks.Mark.TheVariants.{Hold, Probe}
use Rattle.sock_model.specs.MarkWeights.{is_probe, is_hold}
use Rattle.sock_model.specs.Marks.{about}
use Rattle.sock_model.specs.SlotRows.{marks_of}
use Rattle.sock_words.specs.Totals.{total}

-- of slot i the marks `adds` came and the marks `drops` went
pub record Became (i : ℕ) (v w : View) (adds drops : List Mark) : Type 0 where
  -- however marks are counted
  pub here : (f : Mark → ℕ) → marks_of f i w + total f drops ≡ marks_of f i v + total f adds
  -- of other slots they stand as they stood
  pub elsewhere : (j : ℕ) → j ≢ i → about j w.marks ≡ about j v.marks
  -- and nothing else changed
  pub others : w ≡ record v { marks = w.marks }

-- the mark that goes where a reference is given back: one to the word where there is one, else one to the slot's last life
pub data Goes (i : ℕ) (v : View) : Mark → Type 0 where
  probe_goes : 0 < marks_of is_probe i v → Goes i v Probe
  hold_goes : (h : ℕ) → marks_of is_probe i v ≡ 0 → 0 < marks_of (is_hold h) i v → Goes i v (Hold h)
