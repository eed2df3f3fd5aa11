-- The homes of messages, each of which has memory of its own.
use Rattle.std.specs.Prelude.{List, Option, map, option_map}
use Rattle.std.specs.Global.{Box}
use Rattle.machine_model.specs.declared.home_message.HomeMessage.{HomeMessage}

-- what lies in a home
abbrev pub lying_in : Option (Box HomeMessage) → Option HomeMessage
lying_in home = option_map (λ (b : Box HomeMessage). b.value) home

-- and in all of them
abbrev pub letters_in : List (Option (Box HomeMessage)) → List (Option HomeMessage)
letters_in homes = map lying_in homes
