-- What a seat has, whatever it noted: its tokens at one slot, the lives that it holds, its passes and its links in hand.
use Rattle.std.specs.Prelude.{ℕ, ◌≡◌, ◌≢◌, ◌+◌, ◌<◌, ◌≤◌, List, [], ◌∷◌, map}
use Rattle.sock_words.specs.PackedWords.{socket_id_version, socket_id_slot}
use Rattle.sock_model.specs.declared.chain.Entry.{Entry}
use Rattle.sock_model.specs.declared.marks.Mark.{Mark}
use Rattle.sock_model.specs.declared.marks.Mark.TheVariants.{Hold, Tried, Known, Born, Saw, Failer, Stored, Told, Freer, Linked, Met}
use Rattle.sock_model.specs.declared.marks.SlotMark.{SlotMark}
use Rattle.sock_model.specs.declared.view.View.{View}
use Rattle.sock_model.specs.declared.view.Hand.{Hand}
use Rattle.sock_model.specs.MarkWeights.{only, is_ref, is_zero, is_any_coding, is_claimed, is_recycled}
use Rattle.sock_model.specs.Marks.{about, at}
use Rattle.sock_model.specs.SlotRows.{marks_of}
use Rattle.seat_programs.specs.Programs.{LAST_VERSION}
use Rattle.seat_programs.specs.ClientProgram.{HeldLife}
use Rattle.sock_words.specs.Totals.{total}

-- a seat that writes no link and has no message on its way
pub record IsQuiet (v : View) : Type 0 where
  pub claims : v.claims ≡ []
  pub loose : v.loose ≡ []
  pub rights : v.rights ≡ []

-- the weight counts tokens alone, and none that waits
pub record OfTokens (f : Mark → ℕ) : Type 0 where
  pub tried : f Tried ≡ 0
  pub known : (h : ℕ) → f (Known h) ≡ 0
  pub born : (h : ℕ) → f (Born h) ≡ 0
  pub saw : (w : ℕ) → f (Saw w) ≡ 0
  pub failer : (h : ℕ) → f (Failer h) ≡ 0
  pub stored : (h c : ℕ) → f (Stored h c) ≡ 0
  pub told : (h c : ℕ) → f (Told h c) ≡ 0
  pub freer : (h : ℕ) → f (Freer h) ≡ 0
  pub linked : (h k : ℕ) → f (Linked h k) ≡ 0
  pub met : (h k : ℕ) → f (Met h k) ≡ 0

-- tokens that a seat may keep for good: slots that it recycled, whose versions are used up
pub record Idle (rest : List SlotMark) : Type 0 where
  pub refs : (i : ℕ) → total is_ref (about i rest) ≡ 0
  pub zeros : (i w : ℕ) → total (is_zero w) (about i rest) ≡ 0
  pub codes : (i : ℕ) → total is_any_coding (about i rest) ≡ 0
  pub claims : (i : ℕ) → total is_claimed (about i rest) ≡ 0
  pub retired : (i w : ℕ) → 0 < total (is_recycled w) (about i rest) → LAST_VERSION < w

-- the references of the held lives
abbrev pub holds : List HeldLife → List SlotMark
holds [] = []
holds (h ∷ hs) = at (socket_id_slot h.id) (Hold (socket_id_version h.id)) ∷ holds hs

-- at slot s the seat has these tokens besides those of the lives that it holds, it has at least these passes, and these links in hand; these are its lists
-- of accepted entries, and it has nothing else on the chains
pub record Has (lists : List (List Entry)) (s : ℕ) (t : List Mark) (held : List HeldLife) (passes links : List ℕ) (v : View) : Type 0 where
  pub rest : List SlotMark
  pub idle : Idle rest
  pub here : (f : Mark → ℕ) → OfTokens f → marks_of f s v ≡ total f t + (total f (about s rest) + total f (about s (holds held)))
  pub other : (f : Mark → ℕ) → OfTokens f → (j : ℕ) → j ≢ s → marks_of f j v ≡ total f (about j rest) + total f (about j (holds held))
  pub passes_are : (k : ℕ) → total (only k) passes ≤ total (only k) v.passes
  pub hands_are : map (λ (h : Hand). h.link) v.hands ≡ links
  pub lists_are : v.lists ≡ lists
  pub quiet : IsQuiet v
