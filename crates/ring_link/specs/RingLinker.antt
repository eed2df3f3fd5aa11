-- A linker over rings, by what callers see of it.
use Rattle.std.specs.Prelude.{ℕ, List}
use Rattle.brpc_model.specs.ReturnedLink.{LinkEnd}
use Rattle.sock_io.specs.declared.link.LinkSpec.{LinkSpec}

-- what was asked of each link that was opened, how many connections were accepted, and those given back
pub record RingLinkerState : Type 0 where
  pub asked : List LinkSpec
  pub accepted : ℕ
  pub back : List LinkEnd
  pub done : List LinkEnd
