-- The moves of links out of their homes and into them, L1 and L2, the end of a writing half, W3, and what a link took, W1: the kind of each, what the
-- view of the seat says before it, what it may find, and the view behind it.
use Rattle.std.specs.Prelude.{ℕ, ◌≡◌, ◌-◌, ◌<◌, ◌⊎◌, true, false, List, [], ◌∷◌, map, nat_lt, if◌then◌else◌}
use mathlib.Core.Option.{Option, none, some}
use Rattle.sock_model.specs.sock_words.specs.declared.kind.Kind.{Kind}
use Rattle.sock_model.specs.sock_words.specs.declared.kind.Kind.TheVariants.{L1, L2, W3}
use Rattle.sock_model.specs.sock_words.specs.declared.plain.Plan.{Plan}
use Rattle.sock_model.specs.declared.home.Home.{Home}
use Rattle.sock_model.specs.declared.view.View.{View}
use Rattle.sock_model.specs.declared.view.Hand.{Hand}
use Rattle.sock_model.specs.MarkWeights.{only, is_recycled, is_met}
use Rattle.sock_model.specs.SlotRows.{marks_of}
use Rattle.sock_model.specs.ChainRows.{with_hand, without_hand, spent_hand, with_right, put_right}
use Rattle.sock_model.specs.ChainLawReads.{link_home}
use Rattle.sock_io.specs.declared.link.Put.{Put}
use Rattle.sock_io.specs.declared.link.Put.TheVariants.{Took}
use Rattle.seat_programs.specs.TableSteps.{LinkStep, TakeLink, PutLink, FinishLink}
use Rattle.seat_programs.specs.StepViews.{by_right}
use Rattle.sock_model.specs.sock_words.specs.Totals.{total}

-- ## The kind

-- as the schedule of a script names it
abbrev pub link_kind : LinkStep → Kind
link_kind (TakeLink k) = L1
link_kind (PutLink k) = L2
link_kind (FinishLink k) = W3

-- ## Before a step

-- the seat has this one link in hand
abbrev pub HasInHand : View → ℕ → Type 0
HasInHand v k = map (λ (h : Hand). h.link) v.hands ≡ k ∷ []

-- it recycled a slot whose life had this link
abbrev pub Ended : Plan → View → ℕ → Type 0
Ended p v k = (i w : ℕ) × (i < p.slots) × (0 < marks_of (is_recycled w) i v) × (0 < marks_of (is_met (w - 2) k) i v)

-- it may take the link: it writes none, and the pass of this one isn't spent, or it recycled the slot of the link's life
abbrev pub MayTake : Plan → View → ℕ → Type 0
MayTake p v k = (k < p.links) × (v.hands ≡ []) × ((0 < total (only k) v.passes) ⊎ Ended p v k) × (v.rights ≡ [])

-- what the view of the seat says before a step, so that the rule allows it
abbrev pub LinkMay : Plan → View → LinkStep → Type 0
LinkMay p v (TakeLink k) = MayTake p v k
LinkMay p v (PutLink k) = (k < p.links) × HasInHand v k × (v.rights ≡ [])
LinkMay p v (FinishLink k) = (k < p.links) × HasInHand v k × (v.rights ≡ [])

-- ## What is found

-- a link with what it took, as a hand has it
abbrev pub as_hand : ℕ → Option (List ℕ × ℕ) → Hand
as_hand k none = record { link = k; took = []; next = 0 }
as_hand k (some home) = record { link = k; took = home.0; next = home.1 }

-- the link that is taken out of its home
abbrev pub link_hand : Plan → List ℕ → List (Option Home) → LinkStep → Hand
link_hand p ws hs (TakeLink k) = as_hand k (link_home (λ home. home) p hs k)
link_hand p ws hs other = as_hand 0 none

-- what a step may find
abbrev pub LinkFinds : Plan → View → LinkStep → ℕ → Hand → Type 0
LinkFinds p v (TakeLink k) found hand = hand.link ≡ k
LinkFinds p v other found hand = Unit {0}

-- ## Behind a step

-- a link whose pass the seat has is taken for it, and any other because its slot was recycled
abbrev pub taken : Hand → View → View
taken hand v = if nat_lt 0 (total (only hand.link) v.passes) then spent_hand v hand else with_hand v hand

abbrev pub link_away : View → View
link_away v = by_right v.rights (λ r. with_right v (record r { at_home = false })) v

abbrev pub link_home_again : View → View
link_home_again v = by_right v.rights (λ r. with_right v (record r { at_home = true })) v

abbrev pub took_bytes : Put → View → View
took_bytes (Took n) v = by_right v.rights (λ r. with_right v (put_right r n)) v
took_bytes other v = v

-- the view behind a step that found this word, and this link at home
abbrev pub link_row : Plan → LinkStep → ℕ → Hand → View → View
link_row p (TakeLink k) found hand v = taken hand v
link_row p (PutLink k) found hand v = without_hand v k
link_row p (FinishLink k) found hand v = v
