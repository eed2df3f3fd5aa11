-- The rule of the table: the words lie in pairs, tag and id word for each slot, call word and at word for each operation, and each slot has one home.
use Rattle.std.specs.Prelude.{◌≡◌, ◌≢◌, ℕ, ◌+◌, ◌-◌, ◌*◌, ◌<◌, ◌≤◌, Bool, cond, ◌==◌, List, [], ◌∷◌, ◌++◌, length, slice_index}
use Rattle.std.specs.Prelude.{Option as Maybe}
use Rattle.std.specs.List.{flat_map}
use mathlib.Core.Option.{some}
use lib.ListN.{get_elem?}
use Rattle.atomic_table.specs.Table.{State}
pub use Rattle.corr_core.specs.IdTableLayout.{tag_index, id_index, call_index, at_index, all_words}
use Rattle.corr_core.specs.IdSlotWord.{parts, free_word}
use Rattle.corr_core.specs.IdSlotLaw.{Each, pair, Local, SlotLaw}
use Rattle.corr_core.specs.declared.marks.Plan.{Plan}
use Rattle.corr_core.specs.declared.marks.Token.{Token}
use Rattle.corr_core.specs.declared.marks.Note.{Note}
use Rattle.corr_core.specs.declared.marks.Held.{Held}
use Rattle.corr_core.specs.declared.marks.Noted.{Noted}
use Rattle.corr_core.specs.declared.marks.Kept.{Kept}
use Rattle.corr_core.specs.declared.marks.View.{View}
use Rattle.sock_words.specs.Totals.{total}

abbrev pub is_stored : ℕ → ℕ → Kept → ℕ
is_stored x w k = cond k.own (pair x w k.place k.word) 0

-- a word that was found is one that some seat stored, and no word goes back to 0
abbrev pub KeptFits : ℕ → List ℕ → List Kept → Kept → Type 0
KeptFits low ws ks k = (low ≤ k.place) × (k.word ≢ 0) × (slice_index ws k.place ≢ 0) × (0 < total (is_stored k.place k.word) ks)

abbrev pub kept_in : {C : Type 0} → View C → List Kept
kept_in v = v.kept

module _ {C : Type 0} where
  abbrev pub tokens_of : ℕ → List (Held C) → List (Token C)
  tokens_of i [] = []
  tokens_of i (h ∷ hs) = cond (h.slot == i) (h.token ∷ tokens_of i hs) (tokens_of i hs)

  abbrev pub notes_of : ℕ → List (Noted C) → List (Note C)
  notes_of i [] = []
  notes_of i (h ∷ hs) = cond (h.slot == i) (h.note ∷ notes_of i hs) (notes_of i hs)

  abbrev pub tokens_in : ℕ → View C → List (Token C)
  tokens_in i v = tokens_of i v.tokens

  abbrev pub notes_in : ℕ → View C → List (Note C)
  notes_in i v = notes_of i v.notes

  abbrev pub share_of : View C → ℕ
  share_of v = v.share

  -- what the law reads of slot i
  abbrev pub local : State (Maybe C) (View C) → ℕ → Local C
  local s i = record { tag = slice_index s.words (tag_index i); word = parts (slice_index s.words (id_index i)); home = get_elem? s.homes i; tokens = flat_map (tokens_in i) s.views; notes = flat_map (notes_in i) s.views }

  -- a seat that stands for none knows nothing
  pub record IsBare (v : View C) : Type 0 where
    pub no_tokens : v.tokens ≡ []
    pub no_notes : v.notes ≡ []
    pub no_kept : v.kept ≡ []

  pub record Lawful (p : Plan) (s : State (Maybe C) (View C)) : Type 0 where
    pub sized : length s.words ≡ all_words p
    pub slots : (i : ℕ) → i < p.slots → SlotLaw (local s i)
    pub kept_fits : Each (KeptFits (2 * p.slots) s.words (flat_map kept_in s.views)) (flat_map kept_in s.views)
    pub kept_by : (x : ℕ) → 2 * p.slots ≤ x → slice_index s.words x ≢ 0 → 0 < total (is_stored x (slice_index s.words x)) (flat_map kept_in s.views)
    pub shares : total share_of s.views ≡ p.seats
    pub bare : (id : ℕ) (v : View C) → get_elem? s.views id ≡ some v → v.share ≡ 0 → IsBare v

  -- the first seat stands for all until others are split off
  abbrev pub first_view : Plan → View C
  first_view p = record { tokens = []; notes = []; kept = []; share = p.seats }

  abbrev pub spent : View C
  spent = record { tokens = []; notes = []; kept = []; share = 0 }

  abbrev pub newcomer : View C
  newcomer = record { tokens = []; notes = []; kept = []; share = 1 }

  abbrev pub lighter : View C → View C
  lighter v = record { tokens = v.tokens; notes = v.notes; kept = v.kept; share = v.share - 1 }

  -- a seat that has no token is taken in
  abbrev pub joined : View C → View C → View C
  joined v w = record { tokens = v.tokens; notes = v.notes ++ w.notes; kept = v.kept ++ w.kept; share = v.share + w.share }

  abbrev pub without : ℕ → List (Held C) → List (Held C)
  without i [] = []
  without i (h ∷ hs) = cond (h.slot == i) (without i hs) (h ∷ without i hs)

  -- how a view changes
  abbrev pub with_token : ℕ → Token C → View C → View C
  with_token i t v = record { tokens = record { slot = i; token = t } ∷ without i v.tokens; notes = v.notes; kept = v.kept; share = v.share }

  abbrev pub no_token : ℕ → View C → View C
  no_token i v = record { tokens = without i v.tokens; notes = v.notes; kept = v.kept; share = v.share }

  abbrev pub with_note : ℕ → Note C → View C → View C
  with_note i n v = record { tokens = v.tokens; notes = record { slot = i; note = n } ∷ v.notes; kept = v.kept; share = v.share }

  abbrev pub with_kept : ℕ → Bool → ℕ → View C → View C
  with_kept x own w v = record { tokens = v.tokens; notes = v.notes; kept = record { place = x; own = own; word = w } ∷ v.kept; share = v.share }

-- the words before any step: each tag is 0, each id word free with the first version 1, and the words of the operations are 0
pub record Unused (p : Plan) (ws : List ℕ) : Type 0 where
  pub sized : length ws ≡ all_words p
  pub tags : (i : ℕ) → i < p.slots → slice_index ws (tag_index i) ≡ 0
  pub ids : (i : ℕ) → i < p.slots → parts (slice_index ws (id_index i)) ≡ free_word 1
  pub rest : (x : ℕ) → 2 * p.slots ≤ x → slice_index ws x ≡ 0
