-- Each put on a link of a script that was read takes a byte at least.
use Rattle.std.proofs.Common.{◌≡◌, ℕ, ◌&&◌, true, List, [], ◌∷◌, ◌++◌, Ok, refl, ap, ◌∙◌}
use Rattle.std.proofs.lemmas.List.Folds.{list_all-append}
use Rattle.std.specs.List.{list_all}
use Rattle.brpc_model.specs.Items.{Item, Open}
use Rattle.brpc_model.specs.Script.{script_of}
use Rattle.script_threads.specs.script_parts.specs.script_facts.proofs.ReadScriptFacts.{InRange, IsPlaced, by_lines}
use Rattle.script_links.specs.LinksGivenBack.{has_piece}

item_has : (item : Item) → InRange item → has_piece item ≡ true
item_has (Open name shape) h = h
item_has other h = refl

one_more : (before : List Item) (item : Item) → list_all has_piece before ≡ true → IsPlaced before item → list_all has_piece (before ++ item ∷ []) ≡ true
one_more before item has placed = list_all-append has_piece before (item ∷ []) ∙ ap (λ b. b && list_all has_piece (item ∷ [])) has ∙ ap (λ b. b && true) (item_has item placed.in_range)

pub has_pieces : (bytes : List ℕ) (script : List Item) → script_of bytes ≡ Ok script → list_all has_piece script ≡ true
has_pieces = by_lines (λ script. list_all has_piece script ≡ true) refl one_more
