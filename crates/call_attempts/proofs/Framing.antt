-- The letter of an attempt is that of its frame.
use Rattle.std.proofs.Common.{◌≡◌, ℕ, ◌≤◌, ap, ◌∙◌, subst}
use native.Mathlib.Bridge.{le_prop}
use Rattle.message_parts.specs.FramesByParts.{ParcelData}
use Rattle.message_parts.specs.declared.parcel.Parcel.{Parcel}
use Rattle.message_parts.specs.declared.parcel.Parcel.TheVariants.{Frame}
use Rattle.sock_message.specs.Asked.{Asked, frame_of, parts_of}
use Rattle.sock_words.specs.declared.plain.Label.{Label}
use Rattle.sock_rule.specs.declared.homes.Letter.{Letter}
use Rattle.call_attempts.specs.AttemptLetters.{letter_for}
use Rattle.sock_model.specs.MessageLabels.{attempt_label}

-- letters are the same by their bytes, label and owner
abbrev letter_with : (bytes : Parcel) (label : Label) (owner : ℕ) → label.attempt ≤ 6 → Letter
letter_with bytes label owner low = record { bytes = bytes; label = label; owner = owner; numbered = low }

same_letter : (m n : Letter) → m.bytes ≡ n.bytes → m.label ≡ n.label → m.owner ≡ n.owner → m ≡ n
same_letter m n b l o = labelled n.label l n.numbered ∙ (ap (λ (x : Parcel). letter_with x n.label m.owner n.numbered) b ∙ ap (λ (x : ℕ). letter_with n.bytes n.label x n.numbered) o)
  where
    labelled : (x : Label) → m.label ≡ x → (y : x.attempt ≤ 6) → m ≡ letter_with m.bytes x m.owner y
    labelled x e = subst (λ (z : Label). (y : z.attempt ≤ 6) → m ≡ letter_with m.bytes z m.owner y) e (λ y. ap (λ (low : m.label.attempt ≤ 6). letter_with m.bytes m.label m.owner low) (le_prop m.numbered y))

pub letter_is : (asked kept : Asked) (id n : ℕ) (low : n ≤ 6) (f : ParcelData) (m : Letter) → kept ≡ asked → f ≡ record { bytes = frame_of kept id n; parts = parts_of kept id n } → m.bytes ≡ Frame f → m.label ≡ attempt_label asked.operation n → m.owner ≡ id → m ≡ letter_for asked id n low
letter_is asked kept id n low f m same frame b l o = same_letter m (letter_for asked id n low) (b ∙ ap Frame (frame ∙ ap framed same)) l o
  where
    framed : Asked → ParcelData
    framed a = record { bytes = frame_of a id n; parts = parts_of a id n }
