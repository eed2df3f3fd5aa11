-- What a run wants of a script once its tasks are made.
use Rattle.std.specs.Prelude.{[], ◌∷◌, length, replicate, false, None}
use Rattle.sock_words.specs.KindText.{kind_text}
use Rattle.brpc_model.specs.Items.{Item, Shape, CallLine, Open, Client, Send, Call, Expire, Join, Fail, Hold, Drop, Sched, Tick, To}
use Rattle.script_items.specs.LineMeaning.{seat_of}
use Rattle.script_run.specs.declared.mark.Mark.{Mark}
use Rattle.script_run.specs.declared.mark.Mark.TheVariants as marks

abbrev pub bare_shape : Shape
bare_shape = record { piece = 1; again = 0; fail = 0; serve = false; «end» = None }

abbrev pub bare_call : CallLine
bare_call = record { names = [] ∷ []; service = []; method = []; payload = []; attachment = []; retry = 0 }

-- a line of which as much is left as its schedule and its report want: no bytes, and of an operation only its sort
abbrev pub outlined : Item → Item
outlined (Open name shape) = Open name bare_shape
outlined Client = Client
outlined (Send name bytes) = Send [] (replicate (length bytes) 0)
outlined (Call call) = Call bare_call
outlined (Expire client number) = Expire 0 0
outlined (Join client number) = Expire 0 0
outlined (Fail name code) = Expire 0 0
outlined (Hold name) = Expire 0 0
outlined (Drop name) = Expire 0 0
outlined (Tick seat n) = Tick seat n
outlined (To seat kind) = To seat kind
outlined other = Sched

-- what a mark says
abbrev pub meant : Mark → Item
meant (marks.Open name) = Open name.value bare_shape
meant marks.Client = Client
meant (marks.Send n) = Send [] (replicate n 0)
meant marks.Call = Call bare_call
meant marks.Other = Expire 0 0
meant marks.Apart = Sched
meant (marks.Tick seat ticks) = Tick (seat_of seat) ticks
meant (marks.To seat kind) = To (seat_of seat) (kind_text kind)
