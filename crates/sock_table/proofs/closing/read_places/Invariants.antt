use Rattle.std.proofs.Common.{◌≡◌, ◌*◌, length}
use Rattle.std.specs.Mem.Slots.{slots_items}
use Rattle.sock_words.specs.declared.place_word.PlaceWord.{PlaceWord}
use Rattle.sock_model.specs.SocketTableLayout.{place_index}
use Rattle.sock_table.specs.ClosedSocketTable.{WordsAre}
use Rattle.sock_table.proofs.closing.read_places.Given as goal

abbrev pub invariant-loop-place : goal.invariant-loop-place
invariant-loop-place g l = (length l.places.items ≡ 8 * l.plan.operations) × WordsAre (λ (x : PlaceWord). x.0) (place_index l.plan) l.place l.places.items (slots_items l.table.words)
