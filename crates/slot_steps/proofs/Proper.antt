-- The rule is a proposition, so a struct may keep it as a ghost field.
use Rattle.std.proofs.Common.{ℕ}
use Rattle.std.proofs.Props.{props}
use Rattle.atomic_table.specs.Table.{State}
use Rattle.sock_model.specs.declared.view.View.{View}
use Rattle.sock_model.specs.sock_words.specs.declared.plain.Plan.{Plan}
use Rattle.sock_model.specs.SocketSlotLaw.{SlotFacts, SlotLaw}
use Rattle.sock_model.specs.References.{References}

pub slot_law-prop : (first lives : ℕ) (l : SlotFacts) → IsProp (SlotLaw first lives l)
slot_law-prop first lives l = hlevel props

pub lawful-prop : {S : Type 0} (p : Plan) (s : State S View) → IsProp (References p s)
lawful-prop p s = hlevel (props, slot_law-prop)
