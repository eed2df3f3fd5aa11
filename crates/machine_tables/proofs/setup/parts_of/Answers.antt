use Rattle.std.proofs.Common.{None, length, map, replicate, ap, ◌∙◌, arith}
use Rattle.seat_programs.specs.ScriptSetupToEnding.{programs, sizes_of}
use Rattle.machine_model.specs.MachineParts.{said_first}
use Rattle.machine_model.specs.LetterHomes.{letters_in}
use Rattle.machine_steps.proofs.BegunTables.{told_length, written_over, none_in}
use Rattle.machine_tables.proofs.setup.parts_of.Goals as goal

pub returns-clause-parts : goal.returns-clause-parts
returns-clause-parts c calls =
    let ps = programs (sizes_of c.args.plan.now c.args.id_plan.now) (map (λ tasks. tasks.items) c.args.clients.items) in
    let told = c.in_ok-seats.ensures.told ∙ ap (λ os. said_first os ps) (c.deref_mut.ensures.value ∙ c.in_ok-outcomes.ensures) in
    let many = ap length told ∙ told_length (replicate c.args.plan.now.operations None) ps in
    let before = ap length c.in_ok-outcomes.ensures in
    let sized = c.in_ok-outcomes.outcomes.ok in
    record {
      words_are = c.in_ok-words.ensures;
      letters_are = ap letters_in c.in_ok-letters.ensures ∙ none_in c.args.plan.now.requests;
      holders_are = c.in_ok-holders.ensures;
      nexts_are = c.in_ok-nexts.ensures;
      ids_are = c.in_ok-ids.ensures;
      seats_are = c.in_ok-seats.ensures.seats;
      readers_are = c.in_ok-readers.ensures calls;
      outcomes_are = written_over c.in_ok-outcomes.outcomes.len c.seats_of.new.outcomes c.in_ok-outcomes.outcomes.items (omega (arith, many, before, sized)) ∙ told;
    }
