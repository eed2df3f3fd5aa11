-- The steps on the words of names and of operations, S6 and S7: the kind and the word of each, what it stores, what the view of the seat says
-- before it, what it may find, and the view behind it.
use Rattle.std.specs.Prelude.{ℕ, ◌≡◌, ◌≢◌, ◌-◌, ◌<◌, ◌⊎◌, ◌==◌, ◌||◌, Bool, not, nat_lt, IsTrue, if◌then◌else◌}
use mathlib.Core.Option.{Option, some}
use Rattle.sock_model.specs.sock_words.specs.declared.kind.Kind.{Kind}
use Rattle.sock_model.specs.sock_words.specs.declared.kind.Kind.TheVariants.{S6, S7}
use Rattle.sock_model.specs.sock_words.specs.declared.plain.Plan.{Plan}
use Rattle.sock_model.specs.sock_words.specs.PackedWords.{socket_id_version, socket_id_slot, NO_SOCKET}
use Rattle.sock_model.specs.declared.view.View.{View}
use Rattle.sock_model.specs.declared.view.Hand.{Hand}
use Rattle.sock_model.specs.SocketTableLayout.{name_index, open_index}
use Rattle.sock_model.specs.SlotRows.{met, wrote}
use Rattle.seat_programs.specs.TableWords.{TableWord, NameOf, OpenOf}
use Rattle.seat_programs.specs.TableSteps.{NameStep, StoreName, LoadName, StoreOpen, LoadOpen}
use Rattle.seat_programs.specs.StepViews.{Knows}

-- ## The kind

-- as the schedule of a script names it
abbrev pub name_kind : NameStep → Kind
name_kind (StoreName n w) = S6
name_kind (LoadName n) = S7
name_kind (StoreOpen o w) = S6
name_kind (LoadOpen o) = S7

-- ## The word

-- the word that a step reads or changes
abbrev pub word_of_name : NameStep → Option TableWord
word_of_name (StoreName n w) = some (NameOf n)
word_of_name (LoadName n) = some (NameOf n)
word_of_name (StoreOpen o w) = some (OpenOf o)
word_of_name (LoadOpen o) = some (OpenOf o)

-- the word behind a step that found this one
abbrev pub name_after : NameStep → ℕ → ℕ
name_after (StoreName n w) found = w
name_after (StoreOpen o w) found = w
name_after other found = found

-- ## Before a step

-- what the view of the seat says before a step, so that the rule allows it
abbrev pub NameMay : Plan → View → NameStep → Type 0
NameMay p v (StoreName n w) = (n < p.names) × IsTrue (nat_lt 0 w) × Knows p v (w - 1)
NameMay p v (LoadName n) = n < p.names
NameMay p v (StoreOpen o w) = (o < p.operations) × ((w ≡ NO_SOCKET) ⊎ (IsTrue (nat_lt 0 w) × Knows p v (w - 1)))
NameMay p v (LoadOpen o) = o < p.operations

-- ## What is found

-- the word of a name, or of an `open`, is the id of a life
abbrev pub is_id : ℕ → Bool
is_id word = not ((word == 0) || (word == NO_SOCKET))

abbrev pub FindsId : Plan → ℕ → Type 0
FindsId p found = IsTrue (is_id found) → socket_id_slot (found - 1) < p.slots

-- what a step may find
abbrev pub NameFinds : Plan → View → NameStep → ℕ → Hand → Type 0
NameFinds p v (LoadName n) found hand = FindsId p found × (found ≢ NO_SOCKET)
NameFinds p v (LoadOpen o) found hand = FindsId p found
NameFinds p v other found hand = Unit {0}

-- ## Behind a step

-- a life whose id was found may be addressed
abbrev pub found_id : ℕ → View → View
found_id word v = if is_id word then met (socket_id_slot (word - 1)) (socket_id_version (word - 1)) v else v

-- the view behind a step that found this word, and this link at home
abbrev pub name_row : Plan → NameStep → ℕ → Hand → View → View
name_row p (StoreName n w) found hand v = wrote (name_index p n) w v
name_row p (LoadName n) found hand v = found_id found v
name_row p (StoreOpen o w) found hand v = wrote (open_index p o) w v
name_row p (LoadOpen o) found hand v = found_id found v
