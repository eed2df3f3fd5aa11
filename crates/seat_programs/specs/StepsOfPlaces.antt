-- The steps that note where a message has its place, P1: the kind and the word of each, what it stores, what the view of the seat says before it,
-- and the view behind it.
use Rattle.std.specs.Prelude.{ℕ, ◌≡◌, ◌+◌, ◌<◌, true, false, [], ◌∷◌, ◌++◌, length, take}
use mathlib.Core.Option.{Option, some}
use Rattle.sock_model.specs.sock_words.specs.declared.kind.Kind.{Kind}
use Rattle.sock_model.specs.sock_words.specs.declared.kind.Kind.TheVariants.{P1}
use Rattle.sock_model.specs.sock_words.specs.declared.plain.Plan.{Plan}
use Rattle.sock_model.specs.declared.chain.Right.{Right}
use Rattle.sock_model.specs.declared.chain.Stage.{Stage}
use Rattle.sock_model.specs.declared.chain.Stage.TheVariants.{Writes}
use Rattle.sock_model.specs.declared.view.View.{View}
use Rattle.sock_model.specs.declared.view.Hand.{Hand}
use Rattle.sock_model.specs.MarkWeights.{is_saw}
use Rattle.sock_model.specs.SlotRows.{marks_of}
use Rattle.sock_model.specs.ChainRows.{with_right, placed_right, dropped_right}
use Rattle.sock_model.specs.LinksInSlots.{HoldsLink}
use Rattle.sock_model.specs.ChainStepConditions.{MayPlace, MayDrop}
use Rattle.seat_programs.specs.TableWords.{TableWord, PlaceOf}
use Rattle.seat_programs.specs.TableSteps.{PlaceStep, StorePlace, DropPlace}
use Rattle.seat_programs.specs.StepViews.{by_right, settled}
use Rattle.sock_model.specs.sock_words.specs.PackedWords.{place_word}

-- ## The kind

-- as the schedule of a script names it
abbrev pub place_kind : PlaceStep → Kind
place_kind (StorePlace l k n) = P1
place_kind (DropPlace l k n) = P1

-- ## The word

-- the word that a step reads or changes
abbrev pub word_of_place : PlaceStep → Option TableWord
word_of_place (StorePlace l k n) = some (PlaceOf l)
word_of_place (DropPlace l k n) = some (PlaceOf l)

-- the word behind a step that found this one
abbrev pub place_after : PlaceStep → ℕ → ℕ
place_after (StorePlace l k n) found = place_word false k n
place_after (DropPlace l k n) found = place_word true k n

-- ## Before a step

-- it found the life of the link failed
abbrev pub FoundFailed : Plan → View → ℕ → Type 0
FoundFailed p v k = (i h : ℕ) × HoldsLink p v i h k × (0 < marks_of (is_saw (h + 1)) i v)

-- what the view of the seat says before a step, so that the rule allows it
abbrev pub PlaceMay : Plan → View → PlaceStep → Type 0
PlaceMay p v (StorePlace l k n) = (x : MayPlace p v) × (v.rights ≡ x.mine.right ∷ []) × (l ≡ x.mine.right.heading.label.place) × (k ≡ x.mine.right.link) × (n ≡ x.mine.right.places) × (x.mine.right.put ≡ length x.mine.right.bytes)
PlaceMay p v (DropPlace l k n) = (x : MayDrop p v) × (v.rights ≡ x.mine.right ∷ []) × (l ≡ x.mine.right.heading.label.place) × (k ≡ x.mine.right.link) × (n ≡ x.mine.right.places)
    × (x.sent ≡ x.mine.right.sent ++ take x.mine.right.put x.mine.right.bytes) × FoundFailed p v x.mine.right.link

-- ## Behind a step

abbrev pub placed_next : View → Right → Stage → View
placed_next v r (Writes now) = with_right v (settled (placed_right r now))
placed_next v r other = v

abbrev pub dropped_next : View → Right → Stage → View
dropped_next v r (Writes now) = with_right v (settled (dropped_right r now (r.sent ++ take r.put r.bytes)))
dropped_next v r other = v

-- the view behind a step that found this word, and this link at home
abbrev pub place_row : Plan → PlaceStep → ℕ → Hand → View → View
place_row p (StorePlace l k n) found hand v = by_right v.rights (λ r. placed_next v r r.stage) v
place_row p (DropPlace l k n) found hand v = by_right v.rights (λ r. dropped_next v r r.stage) v
