-- The halves of a link over TCP, by what callers see of them.
use Rattle.std.specs.Prelude.{ℕ, Bool, false, true, List, [], length, None, Some}
use Rattle.brpc_model.specs.ReturnedLink.{TakeAnswer}
use Rattle.sock_io.specs.LinkHalves.{OutState, InState}

-- a writing half: which link it is, its count of faults, and whether it was finished
pub record TcpOutState : Type 0 where
  pub link : ℕ
  pub faults : ℕ
  pub finished : Bool

-- it keeps none of its bytes, and so tells none; it waits inside a put, and never asks to be called again
abbrev pub tcp_out : TcpOutState → OutState
tcp_out o = record { link = o.link; took = None; put_bytes = None; way = []; faults = o.faults; finished = o.finished; clear = true; always_ready = true; again = false; steady = true; whole = false; pacing = None; answers = None }

-- a half that took nothing so far
abbrev pub new_out : ℕ → TcpOutState
new_out link = record { link = link; faults = 0; finished = false }

-- a reading half: all bytes that it gave, whether it answered `End`, whether it failed, its count of faults, and all that it answered
pub record TcpInState : Type 0 where
  pub given : List ℕ
  pub gave_end : Bool
  pub failed : Bool
  pub faults : ℕ
  pub takes : List TakeAnswer

-- it can't know why the other end ended its half, and so never answers `Closed`; what the other end offers it doesn't tell
abbrev pub tcp_in : TcpInState → InState
tcp_in i = record { gave = length i.given; gave_end = i.gave_end; closed = Some false; faults = i.faults; gave_bytes = Some i.given; takes = Some i.takes; closing = Some false; offer = None; way = [] }

-- a half that gave nothing so far
abbrev pub new_in : TcpInState
new_in = record { given = []; gave_end = false; failed = false; faults = 0; takes = [] }
