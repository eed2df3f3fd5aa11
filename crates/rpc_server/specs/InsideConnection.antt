-- The fields of a connection.
use Rattle.rpc_server.specs.HeldByConnection.{Held}
use Rattle.rpc_server.specs.declared.conn.Conn.TheInside.{Inside}

abbrev pub held_view : Inside → Held
held_view c = record { bytes = c.cutter.bytes; made = c.made; told = c.cutter.told }
