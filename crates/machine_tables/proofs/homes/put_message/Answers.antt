use Rattle.std.proofs.Common.{Some, slice_set, ap, ◌∙◌}
use Rattle.std.proofs.lemmas.List.{map-set}
use Rattle.message_parts.specs.Parcels.{parcel_of}
use Rattle.machine_model.specs.declared.home_message.HomeMessage.{HomeMessage}
use Rattle.machine_model.specs.LetterHomes.{lying_in, letters_in}
use Rattle.machine_tables.proofs.homes.put_message.Goals as goal

pub returns-in-Ok-clause-letters : goal.returns-in-Ok-clause-letters
returns-in-Ok-clause-letters c = (
  c.in-Ok.letter.value,
  ap (λ (l : HomeMessage). l.author) c.in-Ok.ensures.ok,
  ap (λ (l : HomeMessage). Some (parcel_of l.message)) c.in-Ok.ensures.ok ∙ c.in-Some.ensures.message,
  map-set lying_in c.args.letters.now c.from.result (Some c.in-Ok.letter) ∙ ap (λ j. slice_set (letters_in c.args.letters.now) j (Some c.in-Ok.letter.value)) c.from.ensures,
)
