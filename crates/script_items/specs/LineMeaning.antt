-- What the values of a line mean: the items that the definitions of scripts speak of.
use Rattle.sock_words.specs.KindText.{kind_text}
use Rattle.brpc_model.specs.Items.{Item, Slots, Requests, First, Open, Client, Send, Call, Expire, Join, Fail, Hold, Drop, Sched, Tick, To, ClientSeat, ReaderSeat}
use Rattle.brpc_model.specs.Items as model
use Rattle.script_items.specs.declared.line.Seat.{Seat}
use Rattle.script_items.specs.declared.line.Seat.TheVariants as seats
use Rattle.script_items.specs.declared.line.CallLine.{CallLine}
use Rattle.script_items.specs.declared.line.Line.{Line}
use Rattle.script_items.specs.declared.line.Line.TheVariants as lines

-- whose steps a schedule line asks for
abbrev pub seat_of : Seat → model.Seat
seat_of (seats.Client c) = ClientSeat c
seat_of (seats.Reader k) = ReaderSeat k

-- a call
abbrev pub call_of : CallLine → model.CallLine
call_of c = record { names = c.names; service = c.service; method = c.method; payload = c.payload; attachment = c.attachment; retry = c.retry }

-- what a line says
abbrev pub item : Line → Item
item (lines.Slots n) = Slots n
item (lines.Requests n) = Requests n
item (lines.First v) = First v
item (lines.Open o) = Open o.name o.shape
item lines.Client = Client
item (lines.Send s) = Send s.name s.bytes
item (lines.Call c) = Call (call_of c)
item (lines.Expire t) = Expire t.client t.number
item (lines.Join t) = Join t.client t.number
item (lines.Fail name code) = Fail name code
item (lines.Hold name) = Hold name
item (lines.Drop name) = Drop name
item lines.Sched = Sched
item (lines.Tick seat ticks) = Tick (seat_of seat) ticks
item (lines.To seat kind) = To (seat_of seat) (kind_text kind)
