use Rattle.std.proofs.Common.{◌≡◌, ℕ, ◌*◌, ◌++◌, false, List, [], None, length, replicate, ap, ◌∙◌, arith}
use Rattle.std.proofs.lemmas.List.{length-append, length-replicate}
use mathlib.Core.Option.{some}
use Rattle.corr_core.specs.IdTableLayout.{all_words}
use Rattle.seat_programs.specs.ScriptSetupToEnding.{opening_ids}
use Rattle.call_slots.specs.CallSlotState.{calls_with}
use Rattle.call_slots.proofs.OpeningSlotWords.{ids_length, map_replicate}
use Rattle.call_slots.proofs.TableMadeBySteps.{slots_of}
use Rattle.call_slots.proofs.call_slots.CallSlots.new.Goals as goal

pub invariant_of-result : goal.invariant_of-result
invariant_of-result c =
    let p = c.args.plan in
    let zeros : List ℕ = replicate (2 * p.operations) 0 in
    let sized : length c.in_ok-words.words.items ≡ all_words p = omega (arith, ap length (c.in_ok-words.ensures {u = tt}), length-append (opening_ids p.slots) zeros, ids_length p.slots, length-replicate {A = ℕ} (2 * p.operations) 0) in
    (sized, ap length (c.in_ok-homes.ensures {u = tt}) ∙ length-replicate p.slots None)

pub returns : goal.returns
returns c =
    let p = c.args.plan in
    let ws = opening_ids p.slots ++ replicate (2 * p.operations) 0 in
    let waiting = replicate p.seats [] in
    λ links.
    let gave = replicate links [] in
    ap (λ l. calls_with (slots_of p l c.in_ok-homes.homes.items) waiting gave false) (c.in_ok-words.ensures {u = tt})
    ∙ ap (λ l. calls_with (slots_of p ws l) waiting gave false) (c.in_ok-homes.ensures {u = tt})
    ∙ ap (λ l. calls_with (record { plan = p; words = ws; homes = l }) waiting gave false) (map_replicate some p.slots None)
