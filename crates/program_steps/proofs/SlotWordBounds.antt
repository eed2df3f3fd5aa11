-- What the rule says of the word of a slot: it fits 64 bits, one more reference has room, and its version has one after it.
use Rattle.std.proofs.Common.{ℕ, ◌<◌, ◌≤◌, get_or, arith}
use Rattle.std.proofs.lemmas.List.{length-map}
use Rattle.atomic_table.specs.Table.{State}
use Rattle.sock_words.specs.PackedWords.{vref_version, vref_nref}
use Rattle.sock_words.specs.declared.plain.Plan.{Plan}
use Rattle.sock_model.specs.declared.home.Home.{Home}
use Rattle.sock_model.specs.declared.view.View.{View}
use Rattle.sock_model.specs.MarkWeights.{is_ref, is_busy}
use Rattle.sock_model.specs.Marks.{about}
use Rattle.sock_model.specs.SocketTableLayout.{ref_index}
use Rattle.sock_model.specs.SocketSlotLaw.{SlotLaw, live, count}
use Rattle.sock_model.specs.References.{slot_facts, References}
use Rattle.sock_steps.specs.slot_steps.proofs.SlotWeightSums.{total_bound}
use Rattle.sock_steps.specs.slot_steps.proofs.RuleNumbers.{live_le}
use Rattle.sock_words.specs.Totals.{total}

module _ (p : Plan) (s : State Home View) (o : References p s) (i : ℕ) (inside : i < p.slots) where
  pub law : SlotLaw p.first (live (slot_facts s i)) (slot_facts s i)
  law = o.slots i inside

  pub lives_le : live (slot_facts s i) ≤ 1
  lives_le = live_le (slot_facts s i).tag (slot_facts s i).version (count is_busy (slot_facts s i))

  pub next_version : vref_version (get_or s.words (ref_index i) 0) < 4294967295
  next_version = omega (arith, law.top)

  pub fits : get_or s.words (ref_index i) 0 < 18446744073709551616
  fits = omega (arith, law.top)

  pub has_room : vref_nref (get_or s.words (ref_index i) 0) < 4294967295
  has_room = omega (arith, law.counted, lives_le, total_bound (total is_ref) 65540 (slot_facts s i).marks law.few, length-map s.views (λ (v : View). about i v.marks), o.seat_limit)
