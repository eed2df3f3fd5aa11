-- The two numbers of a meta's fault.
use Rattle.std.specs.Prelude.{ℕ}
use Rattle.pb_wire.specs.declared.fault.WireFault.TheVariants.{Truncated, LongVarint, BadKey, Group}
use Rattle.rpc_meta.specs.declared.fault.MetaFault.{MetaFault}
use Rattle.rpc_meta.specs.declared.fault.MetaFault.TheVariants.{Wire, NoService, NoMethod, Neither, NoMemory}

-- its kind; 0 for want of memory, which no frame's fault has
abbrev pub kind_of : MetaFault → ℕ
kind_of (Wire (Truncated at)) = 1
kind_of (Wire (LongVarint at)) = 2
kind_of (Wire (BadKey at)) = 3
kind_of (Wire (Group at)) = 4
kind_of NoService = 5
kind_of NoMethod = 6
kind_of Neither = 7
kind_of NoMemory = 0

-- its place, 0 where it has none
abbrev pub place_of : MetaFault → ℕ
place_of (Wire (Truncated at)) = at
place_of (Wire (LongVarint at)) = at
place_of (Wire (BadKey at)) = at
place_of (Wire (Group at)) = at
place_of other = 0
